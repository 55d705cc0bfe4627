-- What several flows did on the slots of a device whose seats all came back. Each slot's events are its flow's, and the ends on
-- all slots together are among those of the one history, which the workers shared out.
use Rattle.std.proofs.Common.{ℕ, zero, suc, ◌≡◌, ◌+◌, ◌≤◌, Bool, true, false, Some, List, [], ◌∷◌, ◌++◌, length, refl, sym, ap, ◌∙◌, subst, arith}
use Rattle.std.specs.Prelude.{slice_get, map, take, sum_by}
use Rattle.std.proofs.lemmas.List.Sums.{sum_by-cons}
use mathlib.Core.List.{IsPrefix}
use Rattle.vc_base.specs.Device.{DeviceEvent}
use Rattle.vc_model.specs.Coder.{the_coder}
use Rattle.vc_model.specs.Solo.{SoloEvent}
use Rattle.vc_model.specs.Handed.{finishes_by_fault}
use Rattle.vc_model.specs.Devices.{new_device, device_run, entries_of}
use Rattle.vc_model.specs.Standing.{CoreState}
use Rattle.vc_model.specs.Seats.{OwnedSeat, AreSeatsOf}
use Rattle.vc_model.proofs.SlotsAreIsolated.{isolated}
use Rattle.vc_port.specs.Payloads.{told_at, good_finishes, faulty_finishes}
use Rattle.vc_shared.specs.Handles.{DeviceId, HandleState, new_handle, slot_events}
use Rattle.vc_shared.specs.Workers.{WorkerState}
use Rattle.vc_shared.specs.Closing.{owned_handle, owned_worker, IsClosed, AreHandlesOf}
use Rattle.vc_crew.specs.Counts.{counts_of}
use Rattle.vc_crew.specs.Workers.{HaveWorked}
use Rattle.vc_crew.specs.Flowing.{HasFlowed, HaveFlowed}
use Rattle.vc_crew.specs.Together.{EachRan, RanTogether}
use Rattle.vc_crew.proofs.EndsOnSlots.{on_slots, ends_on_slots, finishes_grow}
use Rattle.vc_crew.proofs.EndsAreShared.{shares_of, shares_are_enough, runs_rose, faults_rose}
use Rattle.vc_crew.proofs.FlowBesideWorkers.{first_worked, given_back, of_workers}

-- the ends on a flow's slot are among those of the one history
slot_ends :
    {F End : Type 0} (does : F → List SoloEvent → List SoloEvent → End → F → Type 0) (flow flow' : F) (end : End) (device : DeviceId) (number : ℕ)
    (h : HandleState) (history : List DeviceEvent) (fault : Bool) (flowed : HasFlowed does flow flow' end (new_handle device number) h)
    → IsPrefix h.seat.seen history
    → finishes_by_fault fault (told_at (slot_events flowed.left)) ≤ finishes_by_fault fault (entries_of number (device_run the_coder (new_device device.slots) history))
slot_ends does flow flow' end device number h history fault flowed seen =
    let left = flowed.left in
    let same :
    finishes_by_fault fault (told_at (slot_events left)) ≡ finishes_by_fault fault (entries_of left.slot (device_run the_coder (new_device left.device.slots) left.seat.seen)) =
    sym (ap (finishes_by_fault fault) (isolated the_coder left.device.slots left.slot left.seat.seen).told) in
    let slot :
    finishes_by_fault fault (entries_of left.slot (device_run the_coder (new_device left.device.slots) left.seat.seen))
    ≡ finishes_by_fault fault (entries_of number (device_run the_coder (new_device left.device.slots) left.seat.seen)) =
    ap (λ k. finishes_by_fault fault (entries_of k (device_run the_coder (new_device left.device.slots) left.seat.seen))) flowed.follows.slot in
    let there :
    finishes_by_fault fault (entries_of number (device_run the_coder (new_device left.device.slots) left.seat.seen))
    ≡ finishes_by_fault fault (entries_of number (device_run the_coder (new_device device.slots) left.seat.seen)) =
    ap (λ (d : DeviceId). finishes_by_fault fault (entries_of number (device_run the_coder (new_device d.slots) left.seat.seen))) flowed.follows.device in
    let later = finishes_grow fault number (new_device device.slots) left.seat.seen h.seat.seen flowed.later.knows.seen in
    let whole = finishes_grow fault number (new_device device.slots) h.seat.seen history seen in
    omega (arith, same, slot, there, later, whole)

-- The flows, with the events of their slots: on all of these so many jobs were finished at most.
record Went {F End : Type 0} (does : F → List SoloEvent → List SoloEvent → End → F → Type 0) (fs fs' : List F) (ends : List End) (good bad : ℕ) : Type 0 where
  slots : List (List SoloEvent)
  did : EachRan does fs fs' ends slots
  good_ends : sum_by good_finishes slots ≤ good
  bad_ends : sum_by faulty_finishes slots ≤ bad

went :
    {F End : Type 0} (does : F → List SoloEvent → List SoloEvent → End → F → Type 0) (device : DeviceId) (number : ℕ) (fs fs' : List F)
    (es : List End) (hs : List HandleState) (history : List DeviceEvent) (others : List OwnedSeat)
    → HaveFlowed does device number fs fs' es hs → AreSeatsOf history (map owned_handle hs ++ others)
    → Went does fs fs' es (on_slots false (new_device device.slots) history number hs) (on_slots true (new_device device.slots) history number hs)
unfolding on_slots
went does device number [] [] [] [] history others have seats =
    let good : sum_by good_finishes ([]) ≡ 0 = refl in
    let bad : sum_by faulty_finishes ([]) ≡ 0 = refl in
    record { slots = []; did = tt; good_ends = omega (arith, good); bad_ends = omega (arith, bad) }
went does device number (f ∷ fs) (f' ∷ fs') (e ∷ es) (h ∷ hs) history others have seats =
    let flowed = have.0 in
    let rest = went does device (number + 1) fs fs' es hs history others have.1 seats.1 in
    let events = slot_events flowed.left in
    let good = slot_ends does f f' e device number h history false flowed seats.0.seen in
    let bad = slot_ends does f f' e device number h history true flowed seats.0.seen in
    let all_good = sum_by-cons good_finishes events rest.slots in
    let all_bad = sum_by-cons faulty_finishes events rest.slots in record {
      slots = events ∷ rest.slots;
      did = (flowed.did, rest.did);
      good_ends = let r = rest.good_ends in omega (arith, good, all_good, r);
      bad_ends = let r = rest.bad_ends in omega (arith, bad, all_bad, r);
    }
went does device number [] (f' ∷ fs') es hs history others have seats = absurd have
went does device number [] [] (e ∷ es) hs history others have seats = absurd have
went does device number [] [] [] (h ∷ hs) history others have seats = absurd have
went does device number (f ∷ fs) [] es hs history others have seats = absurd have
went does device number (f ∷ fs) (f' ∷ fs') [] hs history others have seats = absurd have
went does device number (f ∷ fs) (f' ∷ fs') (e ∷ es) [] history others have seats = absurd have

-- What flows did together beside workers, on a device whose seats all came back.
ran_together :
    {E F End : Type 0} (runs faults : E → ℕ) (does : F → List SoloEvent → List SoloEvent → End → F → Type 0) (device : DeviceId) (fs fs' : List F)
    (ends_of : List End) (hs : List HandleState) (core : CoreState) (ws : List WorkerState) (es es' : List E)
    → HaveFlowed does device 0 fs fs' ends_of hs → HaveWorked runs faults device 0 ws es es' → IsClosed core hs ws
    → RanTogether does fs fs' ends_of (take (length ws) (counts_of runs faults es)) (take (length ws) (counts_of runs faults es'))
ran_together runs faults does device fs fs' ends_of hs core ws es es' flowed have closed =
    let known = first_worked runs faults device ws es es' have in
    let history = closed.history in
    let all = of_workers core hs ws closed (λ m x is. (known m x is).follows.worker) in
    let given = given_back core hs ws closed device known in
    let gone = went does device 0 fs fs' ends_of hs history (map owned_worker ws) flowed closed.one.owned in
    let good = ends_on_slots false (new_device device.slots) history 0 hs in
    let bad = ends_on_slots true (new_device device.slots) history 0 hs in
    let good_slots = gone.good_ends in
    let bad_slots = gone.bad_ends in
    let good_shared = shares_are_enough false history ws all in
    let bad_shared = shares_are_enough true history ws all in record {
      slots = gone.slots;
      did = gone.did;
      ran = record { shares = shares_of false history 0 ws; enough = omega (arith, good, good_slots, good_shared); shared = runs_rose runs faults device history 0 ws es es' have given };
      failed = record { shares = shares_of true history 0 ws; enough = omega (arith, bad, bad_slots, bad_shared); shared = faults_rose runs faults device history 0 ws es es' have given };
    }

-- The same, where each part is known by an equation.
pub all_together :
    {E F End : Type 0} (runs faults : E → ℕ) (does : F → List SoloEvent → List SoloEvent → End → F → Type 0) (device : DeviceId) (fs fs' was : List F)
    (ends_of : List End) (hs : List HandleState) (core : CoreState) (ws : List WorkerState) (es es' old : List E) (count : ℕ)
    → fs ≡ was → es ≡ old → length ws ≡ count → HaveFlowed does device 0 fs fs' ends_of hs → HaveWorked runs faults device 0 ws es es'
    → IsClosed core hs ws → RanTogether does was fs' ends_of (take count (counts_of runs faults old)) (take count (counts_of runs faults es'))
all_together runs faults does device fs fs' was ends_of hs core ws es es' old count first same number flowed have closed =
    let ran = ran_together runs faults does device fs fs' ends_of hs core ws es es' flowed have closed in
    let begun = subst (λ l. RanTogether does l fs' ends_of (take (length ws) (counts_of runs faults es)) (take (length ws) (counts_of runs faults es'))) first ran in
    let engines = subst (λ l. RanTogether does was fs' ends_of (take (length ws) (counts_of runs faults l)) (take (length ws) (counts_of runs faults es'))) same begun in
    subst (λ n. RanTogether does was fs' ends_of (take n (counts_of runs faults old)) (take n (counts_of runs faults es'))) number engines

-- One more flow

one_flow :
    {F End : Type 0} (does : F → List SoloEvent → List SoloEvent → End → F → Type 0) (device : DeviceId) (number : ℕ) (fs fs' : List F)
    (es : List End) (hs : List HandleState) (f f' : F) (e : End) (h : HandleState)
    → HaveFlowed does device number fs fs' es hs → HasFlowed does f f' e (new_handle device (number + length fs)) h
    → HaveFlowed does device number (fs ++ f ∷ []) (fs' ++ f' ∷ []) (es ++ e ∷ []) (hs ++ h ∷ [])
one_flow does device number [] [] [] [] f f' e h have flowed =
    let k : number + 0 ≡ number = omega arith in
    (subst (λ n. HasFlowed does f f' e (new_handle device n) h) k flowed, tt)
one_flow does device number (x ∷ fs) (x' ∷ fs') (y ∷ es) (z ∷ hs) f f' e h have flowed =
    let k : number + length (x ∷ fs) ≡ (number + 1) + length fs = omega arith in
    (have.0, one_flow does device (number + 1) fs fs' es hs f f' e h have.1 (subst (λ n. HasFlowed does f f' e (new_handle device n) h) k flowed))
one_flow does device number [] (x' ∷ fs') es hs f f' e h have flowed = absurd have
one_flow does device number [] [] (y ∷ es) hs f f' e h have flowed = absurd have
one_flow does device number [] [] [] (z ∷ hs) f f' e h have flowed = absurd have
one_flow does device number (x ∷ fs) [] es hs f f' e h have flowed = absurd have
one_flow does device number (x ∷ fs) (x' ∷ fs') [] hs f f' e h have flowed = absurd have
one_flow does device number (x ∷ fs) (x' ∷ fs') (y ∷ es) [] f f' e h have flowed = absurd have

pub flow_back :
    {F End : Type 0} (does : F → List SoloEvent → List SoloEvent → End → F → Type 0) (device : DeviceId) (fs fs' : List F) (es : List End)
    (hs : List HandleState) (all all' : List F) (ends_of : List End) (handles : List HandleState) (f f' : F) (e : End) (first h : HandleState)
    → HaveFlowed does device 0 fs fs' es hs → first ≡ new_handle device (length fs) → HasFlowed does f f' e first h → all ≡ fs ++ f ∷ []
    → all' ≡ fs' ++ f' ∷ [] → ends_of ≡ es ++ e ∷ [] → handles ≡ hs ++ h ∷ [] → HaveFlowed does device 0 all all' ends_of handles
flow_back does device fs fs' es hs all all' ends_of handles f f' e first h have fresh flowed was is ended left =
    let k : length fs ≡ 0 + length fs = omega arith in
    let begun : HasFlowed does f f' e (new_handle device (0 + length fs)) h = subst (λ n. HasFlowed does f f' e (new_handle device n) h) k (subst (λ w. HasFlowed does f f' e w h) fresh flowed) in
    let one = one_flow does device 0 fs fs' es hs f f' e h have begun in
    subst (λ l. HaveFlowed does device 0 l all' ends_of handles) (sym was)
    (subst (λ l. HaveFlowed does device 0 (fs ++ f ∷ []) l ends_of handles) (sym is)
    (subst (λ l. HaveFlowed does device 0 (fs ++ f ∷ []) (fs' ++ f' ∷ []) l handles) (sym ended)
    (subst (λ l. HaveFlowed does device 0 (fs ++ f ∷ []) (fs' ++ f' ∷ []) (es ++ e ∷ []) l) (sym left) one)))

pub no_flows :
    {F End : Type 0} (does : F → List SoloEvent → List SoloEvent → End → F → Type 0) (device : DeviceId) (fs fs' : List F) (es : List End) (hs : List HandleState)
    → length fs ≡ 0 → length fs' ≡ 0 → es ≡ [] → length hs ≡ 0 → HaveFlowed does device 0 fs fs' es hs
no_flows does device [] [] es [] a b c d = subst (λ l. HaveFlowed does device 0 [] [] l []) (sym c) tt
no_flows does device (f ∷ fs) fs' es hs a b c d = absurd (omega (arith, a))
no_flows does device [] (f ∷ fs') es hs a b c d = absurd (omega (arith, b))
no_flows does device [] [] es (h ∷ hs) a b c d = absurd (omega (arith, d))

-- The handles are those of the device, in order.

handle_place :
    {F End : Type 0} (does : F → List SoloEvent → List SoloEvent → End → F → Type 0) (device : DeviceId) (number : ℕ) (fs fs' : List F) (es : List End) (hs : List HandleState)
    → HaveFlowed does device number fs fs' es hs → (k : ℕ) (h : HandleState) → slice_get hs k ≡ Some h → (h.device ≡ device) × (h.slot ≡ number + k)
handle_place does device number [] [] [] [] have k h at = absurd (cc)
handle_place does device number (f ∷ fs) (f' ∷ fs') (e ∷ es) (x ∷ hs) have zero h at =
    let same : x ≡ h = cc in
    let n : number ≡ number + 0 = omega arith in
    let flowed = have.0 in (
      subst (λ (y : HandleState). y.device ≡ device) same (flowed.later.device ∙ flowed.follows.device),
      subst (λ (y : HandleState). y.slot ≡ number + 0) same (flowed.later.slot ∙ (flowed.follows.slot ∙ n)),
    )
handle_place does device number (f ∷ fs) (f' ∷ fs') (e ∷ es) (x ∷ hs) have (suc k) h at =
    let place = handle_place does device (number + 1) fs fs' es hs have.1 k h at in
    let n : (number + 1) + k ≡ number + suc k = omega arith in
    (place.0, place.1 ∙ n)
handle_place does device number [] (x' ∷ fs') es hs have k h at = absurd have
handle_place does device number [] [] (y ∷ es) hs have k h at = absurd have
handle_place does device number [] [] [] (z ∷ hs) have k h at = absurd have
handle_place does device number (x ∷ fs) [] es hs have k h at = absurd have
handle_place does device number (x ∷ fs) (x' ∷ fs') [] hs have k h at = absurd have
handle_place does device number (x ∷ fs) (x' ∷ fs') (y ∷ es) [] have k h at = absurd have

pub flowed_handles :
    {F End : Type 0} (does : F → List SoloEvent → List SoloEvent → End → F → Type 0) (device other : DeviceId) (fs fs' : List F) (es : List End) (hs : List HandleState)
    → HaveFlowed does device 0 fs fs' es hs → device ≡ other → length hs ≡ other.slots → AreHandlesOf other hs
flowed_handles does device other fs fs' es hs have same all = record {
  all = all;
  each = λ k h at. (let place = handle_place does device 0 fs fs' es hs have k h at in let n : 0 + k ≡ k = omega arith in (place.0 ∙ same, place.1 ∙ n));
}
