-- What flows did on their slots.
use Rattle.std.specs.Prelude.{ℕ, ◌≡◌, ◌+◌, None, List, [], ◌∷◌}
use Rattle.vc_model.specs.Solo.{SoloEvent}
use Rattle.vc_port.specs.Payloads.{slot_after}
use Rattle.vc_shared.specs.Handles.{DeviceId, HandleState, new_handle, slot_events}
use Rattle.vc_shared.specs.Following.{HandleFollows}

-- the seat is of a slot of the device, which is closed, and the flow may be run
abbrev pub MayFlow : {F : Type 0} → (F → Type 0) → DeviceId → HandleState → F → Type 0
MayFlow may device handle flow =
    (handle.device.lock ≡ device.lock) × (slot_after (slot_events handle) ≡ None) × may flow

-- The flow was run on the handle, and ended so where it left the handle. What came later is no part of it.
pub record HasFlowed {F End : Type 0} (does : F → List SoloEvent → List SoloEvent → End → F → Type 0) (flow flow' : F) (end : End) (old new : HandleState) : Type 0 where
  pub left : HandleState
  pub did : does flow (slot_events old) (slot_events left) end flow'
  pub follows : HandleFollows old left
  pub later : HandleFollows left new

-- each of the ones is related to the one at its place among the others
abbrev pub ArePaired : {A B : Type 0} → (A → B → Type 0) → List A → List B → Type 0
ArePaired R [] [] = Unit {0}
ArePaired R (x ∷ xs) (y ∷ ys) = R x y × ArePaired R xs ys
ArePaired R [] (y ∷ ys) = ⊥
ArePaired R (x ∷ xs) [] = ⊥

-- The flows were run on the slots of the device from this number on, one on each, and ended so. These are the handles then.
abbrev pub HaveFlowed : {F End : Type 0} → (F → List SoloEvent → List SoloEvent → End → F → Type 0) → DeviceId → ℕ → List F → List F → List End → List HandleState → Type 0
HaveFlowed does device number [] [] [] [] = Unit {0}
HaveFlowed does device number (f ∷ fs) (f' ∷ fs') (end ∷ ends) (h ∷ hs) =
    HasFlowed does f f' end (new_handle device number) h × HaveFlowed does device (number + 1) fs fs' ends hs
HaveFlowed does device number [] (f' ∷ fs') ends handles = ⊥
HaveFlowed does device number [] [] (end ∷ ends) handles = ⊥
HaveFlowed does device number [] [] [] (h ∷ hs) = ⊥
HaveFlowed does device number (f ∷ fs) [] ends handles = ⊥
HaveFlowed does device number (f ∷ fs) (f' ∷ fs') [] handles = ⊥
HaveFlowed does device number (f ∷ fs) (f' ∷ fs') (end ∷ ends) [] = ⊥
