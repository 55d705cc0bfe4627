-- Calls that can be refused for want of memory alone, by what the slot is. Claims and finishes leave a closed slot closed, and
-- there Open is done where memory was found.
use Rattle.std.proofs.Common.{ℕ, ◌≡◌, ◌⊎◌, Bool, true, false, None, List, [], ◌∷◌, ◌++◌, refl, sym, ap, ◌∙◌, inl, inr}
use Rattle.std.proofs.lemmas.Bool.{false≢true}
use Rattle.vc_base.specs.declared.Kind.{Kind}
use Rattle.vc_base.specs.declared.Errno.TheVariants.{NoMem}
use Rattle.vc_base.specs.declared.Call.TheVariants.{Open}
use Rattle.vc_base.specs.declared.Reply.{Reply}
use Rattle.vc_base.specs.declared.Reply.TheVariants.{Done, Refused}
use Rattle.vc_model.specs.Coder.{the_coder}
use Rattle.vc_model.specs.Context.{Slot}
use Rattle.vc_model.specs.Answer.{answer, closed_answer}
use Rattle.vc_model.specs.Solo.{SoloEvent, Called, Claims, Finishes, Answered, solo_step, solo_slot}
use Rattle.vc_queue.specs.Holds.{HoldState}
use Rattle.vc_port.specs.Payloads.{slot_after, AreOfJobs}
use Rattle.vc_port.proofs.CallsHandOut.{slot-append}
use Rattle.vc_flow.specs.Calls.{IsGranted}

pub jobs_stay_closed : (js : List SoloEvent) → AreOfJobs js → solo_slot the_coder None js ≡ None
unfolding solo_step
jobs_stay_closed [] a = refl
jobs_stay_closed (Called request bytes found ∷ js) a = absurd (false≢true a)
jobs_stay_closed (Claims ∷ js) a = jobs_stay_closed js a
jobs_stay_closed (Finishes fault ∷ js) a = jobs_stay_closed js a

pub still_closed : (old jobs : List SoloEvent) → AreOfJobs jobs → slot_after old ≡ None → slot_after (old ++ jobs) ≡ None
still_closed old jobs a closed =
    slot-append None old jobs ∙ (ap (λ (s : Slot). solo_slot the_coder s jobs) closed ∙ jobs_stay_closed jobs a)

open_told : (kind : Kind) (found : Bool) (told : Reply) → (closed_answer (Open kind) found).reply ≡ told → (told ≡ Done) ⊎ (told ≡ Refused NoMem)
unfolding closed_answer
open_told kind true told e = inl (sym e)
open_told kind false told e = inr (sym e)

pub open_granted : (kind : Kind) (old : List SoloEvent) (before : HoldState) → slot_after old ≡ None → IsGranted old before (Open kind)
unfolding solo_step answer
open_granted kind old before closed told new after c =
    let e : SoloEvent = Called (Open kind) [] c.found in
    let still = still_closed old c.jobs c.of_jobs closed in
    let same : Answered (closed_answer (Open kind) c.found).reply (closed_answer (Open kind) c.found).bytes ≡ Answered told c.handed = ap (λ (s : Slot). (solo_step the_coder s e).told) (sym still) ∙ c.reply in
    open_told kind c.found told (cc)
