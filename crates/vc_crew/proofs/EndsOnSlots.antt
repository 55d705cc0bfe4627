-- How many jobs ended on several slots together: no more than in the history, since an end is told to one slot.
use Rattle.std.proofs.Common.{ℕ, ◌≡◌, ◌+◌, ◌<◌, ◌≤◌, ◌==◌, Bool, true, false, cond, List, [], ◌∷◌, ◌++◌, refl, subst, arith, eqb}
use Rattle.std.proofs.lemmas.Bool.{eqb-true}
use mathlib.Core.List.{IsPrefix}
use Rattle.vc_base.specs.Device.{DeviceEvent}
use Rattle.vc_model.specs.Coder.{the_coder}
use Rattle.vc_model.specs.Solo.{SoloReply}
use Rattle.vc_model.specs.Handed.{finishes_by_fault}
use Rattle.vc_model.specs.Devices.{DeviceState, DeviceReply, Told, NoJob, Empty, device_step, device_run, with_told, solo_events_of, entry_for, entries_of}
use Rattle.vc_crew.proofs.EndsInHistories.{is_end, ends, of_slot, finishes-append}

-- on the slots from a number on, as many as the list has entries
unfoldable pub on_slots : {A : Type 0} → Bool → DeviceState → List DeviceEvent → ℕ → List A → ℕ
on_slots fault d es number [] = 0
on_slots fault d es number (x ∷ xs) =
    finishes_by_fault fault (entries_of number (device_run the_coder d es)) + on_slots fault d es (number + 1) xs

-- the same of one event
at_once : {A : Type 0} → Bool → DeviceEvent → DeviceReply → ℕ → List A → ℕ
at_once fault e r number [] = 0
at_once fault e r number (x ∷ xs) =
    finishes_by_fault fault (entry_for number e r) + at_once fault e r (number + 1) xs

none_later : {A : Type 0} (fault : Bool) (e : DeviceEvent) (j : ℕ) (r : SoloReply) (number : ℕ) (xs : List A) → j < number → at_once fault e (Told j r) number xs ≡ 0
unfolding at_once
none_later fault e j r number [] l = refl
none_later fault e j r number (x ∷ xs) l =
    split (j == number) refl (none_later fault e j r (number + 1) xs (omega arith))
  where
    split : (b : Bool) → eqb j number ≡ b → at_once fault e (Told j r) (number + 1) xs ≡ 0 → finishes_by_fault fault (cond b (with_told r (solo_events_of e)) []) + at_once fault e (Told j r) (number + 1) xs ≡ 0
    split true is rest = let same = eqb-true j number is in absurd (omega (arith, same))
    split false is rest = omega (arith, rest)

one_slot : {A : Type 0} (fault : Bool) (e : DeviceEvent) (j : ℕ) (r : SoloReply) (number : ℕ) (xs : List A) → at_once fault e (Told j r) number xs ≤ cond (is_end fault e) 1 0
unfolding at_once
one_slot fault e j r number [] = omega arith
one_slot fault e j r number (x ∷ xs) =
    split (j == number) refl (one_slot fault e j r (number + 1) xs)
  where
    split :
        (b : Bool) → eqb j number ≡ b → at_once fault e (Told j r) (number + 1) xs ≤ cond (is_end fault e) 1 0
        → finishes_by_fault fault (cond b (with_told r (solo_events_of e)) []) + at_once fault e (Told j r) (number + 1) xs ≤ cond (is_end fault e) 1 0
    split true is rest =
        let same = eqb-true j number is in
        let none = none_later fault e j r (number + 1) xs (omega (arith, same)) in
        let here = of_slot fault e r true in
        omega (arith, none, here)
    split false is rest = omega (arith, rest)

nowhere : {A : Type 0} (fault : Bool) (e : DeviceEvent) (number : ℕ) (xs : List A) → at_once fault e NoJob number xs ≡ 0
unfolding at_once
nowhere fault e number [] = refl
nowhere fault e number (x ∷ xs) = let h = nowhere fault e (number + 1) xs in omega (arith, h)

empty_nowhere : {A : Type 0} (fault : Bool) (e : DeviceEvent) (number : ℕ) (xs : List A) → at_once fault e Empty number xs ≡ 0
unfolding at_once
empty_nowhere fault e number [] = refl
empty_nowhere fault e number (x ∷ xs) = let h = empty_nowhere fault e (number + 1) xs in omega (arith, h)

once : {A : Type 0} (fault : Bool) (e : DeviceEvent) (r : DeviceReply) (number : ℕ) (xs : List A) → at_once fault e r number xs ≤ cond (is_end fault e) 1 0
once fault e (Told j r) number xs = one_slot fault e j r number xs
once fault e NoJob number xs = let h = nowhere fault e number xs in omega (arith, h)
once fault e Empty number xs = let h = empty_nowhere fault e number xs in omega (arith, h)

none_at_first : {A : Type 0} (fault : Bool) (d : DeviceState) (number : ℕ) (xs : List A) → on_slots fault d [] number xs ≡ 0
unfolding on_slots
none_at_first fault d number [] = refl
none_at_first fault d number (x ∷ xs) = let h = none_at_first fault d (number + 1) xs in omega (arith, h)

one_more_event :
    {A : Type 0} (fault : Bool) (d : DeviceState) (e : DeviceEvent) (es : List DeviceEvent) (number : ℕ) (xs : List A)
    → on_slots fault d (e ∷ es) number xs ≡ at_once fault e (device_step the_coder d e).reply number xs + on_slots fault (device_step the_coder d e).device es number xs
unfolding on_slots at_once
one_more_event fault d e es number [] = omega arith
one_more_event fault d e es number (x ∷ xs) =
    let step = device_step the_coder d e in
    let h = one_more_event fault d e es (number + 1) xs in
    let both = finishes-append fault (entry_for number e step.reply) (entries_of number (device_run the_coder step.device es)) in
    omega (arith, h, both)

-- all slots together had no more ends than the device
pub ends_on_slots : {A : Type 0} (fault : Bool) (d : DeviceState) (es : List DeviceEvent) (number : ℕ) (xs : List A) → on_slots fault d es number xs ≤ ends fault es
ends_on_slots fault d [] number xs = let h = none_at_first fault d number xs in omega (arith, h)
ends_on_slots fault d (e ∷ es) number xs =
    let step = device_step the_coder d e in
    let later = ends_on_slots fault step.device es number xs in
    let now = once fault e step.reply number xs in
    let both = one_more_event fault d e es number xs in
    omega (arith, later, now, both)

finishes_more : (fault : Bool) (k : ℕ) (d : DeviceState) (xs ys : List DeviceEvent) → finishes_by_fault fault (entries_of k (device_run the_coder d xs)) ≤ finishes_by_fault fault (entries_of k (device_run the_coder d (xs ++ ys)))
finishes_more fault k d [] ys = omega arith
finishes_more fault k d (x ∷ xs) ys =
    let step = device_step the_coder d x in
    let h = finishes_more fault k step.device xs ys in
    let short = finishes-append fault (entry_for k x step.reply) (entries_of k (device_run the_coder step.device xs)) in
    let long = finishes-append fault (entry_for k x step.reply) (entries_of k (device_run the_coder step.device (xs ++ ys))) in
    omega (arith, h, short, long)

-- a longer history has no fewer ends on a slot
pub finishes_grow :
    (fault : Bool) (k : ℕ) (d : DeviceState) (xs ys : List DeviceEvent) → IsPrefix xs ys
    → finishes_by_fault fault (entries_of k (device_run the_coder d xs)) ≤ finishes_by_fault fault (entries_of k (device_run the_coder d ys))
finishes_grow fault k d xs ys p =
    subst (λ l. finishes_by_fault fault (entries_of k (device_run the_coder d xs)) ≤ finishes_by_fault fault (entries_of k (device_run the_coder d l))) p.1 (finishes_more fault k d xs p.0)
