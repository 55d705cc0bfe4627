-- Where a core stands for a history, the job that a worker has in it has the data of the history's job. Soundness of
-- that slot gives the buffers and the codec of the running job.
use Rattle.std.proofs.Common.{ℕ, zero, suc, ◌≡◌, Option, Some, None, List, [], ◌∷◌, map, length, get_or, take, refl, sym, ap, ◌∙◌, subst, arith}
use Rattle.std.specs.Option.{option_map}
use Rattle.vc_base.specs.Buffers.{Buffer, without_bytes}
use Rattle.vc_model.specs.Context.{Context, Slot, Running}
use Rattle.vc_model.specs.Runs.{JobData, job_data, source_of}
use Rattle.vc_model.specs.Devices.{DeviceState, new_device, slot_of, job_of, device_after, projection}
use Rattle.vc_model.specs.Standing.{CoreState, without_data, without_job, core_slot, job_in, job_in_slot}
use Rattle.vc_model.specs.Sound.{IsSound, IsSoundSlot, HasItsBuffers, HasRun}
use Rattle.vc_model.proofs.CallsLeaveTheJob.{without_some}
use Rattle.vc_model.proofs.CoresStandForDevices.{core_slot_at}
use Rattle.vc_model.proofs.SlotsAreIsolated.{isolated}
use Rattle.vc_model.proofs.FormatsAndJobsFit.{always_sound}
use Rattle.vc_context.specs.Works.{RunsIn}
use Rattle.vc_core.specs.Jobs.{RunsInSlot}
use Rattle.vc_core.specs.Laws.{JobsAreThere}

-- the front of a list has what the list has
taken_at : (xs : List (Option ℕ)) (w i k : ℕ) → get_or (take w xs) i None ≡ Some k → get_or xs i None ≡ Some k
taken_at xs zero i k e = cc
taken_at [] (suc w) i k e = e
taken_at (x ∷ xs) (suc w) zero k e = e
taken_at (x ∷ xs) (suc w) (suc i) k e = taken_at xs w i k e

only_one : (bs : List Buffer) → length bs ≡ 1 → map without_bytes bs ≡ without_bytes (source_of bs) ∷ []
only_one [] e = cc
only_one (b ∷ []) e = refl
only_one (b ∷ (d ∷ rest)) e = absurd (omega (arith, e))

runs_at : (c : Context) (o : Option Running) (j : JobData) → c.running ≡ o → option_map (job_data c) o ≡ Some j → IsSound c → RunsInSlot (Some (without_job c)) j
runs_at c None j e h s = cc
runs_at c (Some r) j e h s =
    let same : without_job c ≡ without_data c = without_some c r e in
    let data_is : job_data c r ≡ j = cc in
    let buffers : HasItsBuffers c (Some r) = subst (HasItsBuffers c) e s.firm.has_buffers in
    let runs : RunsIn (without_data c) (job_data c r) = record {
      running = refl;
      source = only_one c.out.job buffers.1;
      dest = refl;
      dests = buffers.2;
      codec = s.firm.has_codec;
      run = subst (HasRun c.kind c.formats c.geometry) e s.run;
    } in
    subst (λ (x : Context). RunsInSlot (Some x) j) (sym same) (subst (λ (d : JobData). RunsIn (without_data c) d) data_is runs)

runs_there : (s : Slot) (j : JobData) → job_in s ≡ Some j → IsSoundSlot s → RunsInSlot (core_slot s) j
runs_there None j e s = cc
runs_there (Some c) j e s = runs_at c c.running j refl e s

pub jobs_are_there : JobsAreThere
jobs_are_there coder n w core history worker k j is has there =
    let d : DeviceState = device_after coder (new_device n) history in
    let has_d : job_of d worker ≡ Some k = taken_at d.workers w worker k (ap (λ (x : CoreState). job_of x worker) (sym is.state) ∙ has) in
    let job : job_in (slot_of d k) ≡ Some j = ap (job_in_slot d) (sym has_d) ∙ there in
    let here : slot_of core k ≡ core_slot (slot_of d k) = ap (λ (x : CoreState). slot_of x k) is.state ∙ core_slot_at d.slots k in
    let sound : IsSoundSlot (slot_of d k) = subst IsSoundSlot (sym (isolated coder n k history).slot) (always_sound coder (projection coder (new_device n) history k)) in
    record {
      of_slot = has;
      data_there = subst (λ (s : Slot). RunsInSlot s j) (sym here) (runs_there (slot_of d k) j job sound);
    }
