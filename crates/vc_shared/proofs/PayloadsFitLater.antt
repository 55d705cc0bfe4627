-- The payloads that a user holds go on fitting his slot in a longer history in which his seat has no more entries. Each entry
-- that was added is no call on the slot, and such an event leaves what fits.
use Rattle.std.proofs.Common.{ℕ, suc, ◌≡◌, ◌+◌, ◌==◌, Bool, true, false, cond, ◌&&◌, List, [], ◌∷◌, ◌++◌, length, refl, sym, ap, ◌∙◌, subst}
use mathlib.Core.List.{IsPrefix}
use Rattle.vc_base.specs.Device.{DeviceEvent}
use Rattle.vc_model.specs.Coder.{Coder, the_coder}
use Rattle.vc_model.specs.Devices.{DeviceState, new_device, slot_of, device_step, device_after}
use Rattle.vc_model.specs.Seats.{is_call_of, is_call_event}
use Rattle.vc_turn.specs.declared.rule.Noted.{Noted}
use Rattle.vc_turn.specs.History.{places_from, places}
use Rattle.vc_queue.specs.Holds.{HoldState}
use Rattle.vc_context.specs.Payloads.{FitsSlot}
use Rattle.vc_shared.specs.Histories.{after, events_of, AreOwn}
use Rattle.vc_shared.proofs.EntriesAreOwned.{call_is_own, events-append, own_rest, none_added}
use Rattle.vc_shared.proofs.HeldGoesOnFitting.{step_fits}

pub after-lists : (coder : Coder) (d : DeviceState) (es fs : List DeviceEvent) → device_after coder d (es ++ fs) ≡ device_after coder (device_after coder d es) fs
after-lists coder d [] fs = refl
after-lists coder d (e ∷ es) fs = after-lists coder (device_step coder d e).device es fs

-- where a seat has no entries, the first is another's
pub none_first : (seat : Bool) (at : ℕ) (more : List ℕ) → cond seat (at ∷ more) more ≡ [] → (seat ≡ false) × (more ≡ [])
none_first true at more e = absurd (cc)
none_first false at more e = (refl, e)

fits_rest : (d : DeviceState) (slots k at : ℕ) (es : List Noted) (hold : HoldState) → AreOwn slots es → places_from at k es ≡ [] → FitsSlot (slot_of d k) hold → FitsSlot (slot_of (device_after the_coder d (events_of es)) k) hold
fits_rest d slots k at [] hold own none f = f
fits_rest d slots k at (x ∷ es) hold own none f =
    let first = none_first (x.seat == k) at (places_from (suc at) k es) none in
    let other : is_call_of k x.event ≡ false = call_is_own slots x.seat k x.event own.0 ∙ ap (λ b. b && is_call_event (Rattle.std.specs.Prelude.Some x.event)) first.0 in
    fits_rest (device_step the_coder d x.event).device slots k (suc at) es hold own.1 first.1 (step_fits the_coder d k x.event hold other f)

fits_added : (slots k : ℕ) (xs ys : List Noted) (hold : HoldState) → AreOwn slots (xs ++ ys) → places k (xs ++ ys) ≡ places k xs → FitsSlot (slot_of (after slots (events_of xs)) k) hold → FitsSlot (slot_of (after slots (events_of (xs ++ ys))) k) hold
fits_added slots k xs ys hold own same f =
    let e : after slots (events_of (xs ++ ys)) ≡ device_after the_coder (after slots (events_of xs)) (events_of ys) = ap (after slots) (events-append xs ys) ∙ after-lists the_coder (new_device slots) (events_of xs) (events_of ys) in
    subst (λ d. FitsSlot (slot_of d k) hold) (sym e) (fits_rest (after slots (events_of xs)) slots k (length xs + 0) ys hold (own_rest slots xs ys own) (none_added k xs ys same) f)

-- the payloads go on fitting the slot
pub fits_later : (slots k : ℕ) (xs log : List Noted) (hold : HoldState) → IsPrefix xs log → AreOwn slots log → places k log ≡ places k xs → FitsSlot (slot_of (after slots (events_of xs)) k) hold → FitsSlot (slot_of (after slots (events_of log)) k) hold
fits_later slots k xs log hold p own same f =
    subst (λ l. FitsSlot (slot_of (after slots (events_of l)) k) hold) p.1 (fits_added slots k xs p.0 hold (subst (AreOwn slots) (sym p.1) own) (ap (places k) p.1 ∙ same) f)
