-- A worker has no job once it was finished.
use Rattle.std.proofs.Common.{ℕ, zero, suc, ◌≡◌, ◌∙◌, ap, refl, Option, Some, None, List, [], ◌∷◌, get_or, set}
use Rattle.std.specs.Prelude.{true, false, is_some}
use Rattle.std.proofs.lemmas.Bool.{false≢true}
use Rattle.vc_model.specs.Context.{Context, Slot, Running}
use Rattle.vc_model.specs.Devices.{slot_of, job_of, with_slot}
use Rattle.vc_model.specs.Core.{BroughtBack, core_finish, core_finish_of, core_finish_slot, core_finish_job}
use Rattle.vc_model.specs.Standing.{CoreState}
use Rattle.vc_core.specs.Jobs.{RunsInSlot, HasJob}

set_none : (workers : List (Option ℕ)) (worker : ℕ) → get_or (set workers worker None) worker None ≡ None
set_none [] worker = refl
set_none (x ∷ rest) zero = refl
set_none (x ∷ rest) (suc worker) = set_none rest worker

by_running : (core : CoreState) (worker k : ℕ) (c : Context) (o : Option Running) (back : BroughtBack) → is_some o ≡ true → (core_finish_job core worker k c o back).device.workers ≡ set core.workers worker None
unfolding with_slot
by_running core worker k c None back e = absurd (false≢true e)
by_running core worker k c (Some r) back e = refl

by_slot : (core : CoreState) (worker k : ℕ) (s : Slot) (back : BroughtBack) → RunsInSlot s back.job → (core_finish_slot core worker k s back).device.workers ≡ set core.workers worker None
by_slot core worker k None back h = absurd h
by_slot core worker k (Some c) back h = by_running core worker k c c.running back h.running

pub frees : (core : CoreState) (worker k : ℕ) (back : BroughtBack) → HasJob core worker k back.job → job_of (core_finish core worker back).device worker ≡ None
frees core worker k back h =
    ap (λ (workers : List (Option ℕ)). get_or workers worker None)
    (ap (λ (o : Option ℕ). (core_finish_of core worker o back).device.workers) h.of_slot ∙ by_slot core worker k (slot_of core k) back h.data_there)
    ∙ set_none core.workers worker
