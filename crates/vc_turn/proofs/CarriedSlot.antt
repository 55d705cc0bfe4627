-- What a seat carries: in its turn the empty slot, and nothing else out of it. It is read off the definition in both cases.
use Rattle.std.proofs.Common.{◌≡◌, ℕ, Bool, true, false, true≢false, List, [], ◌∷◌, Option, None, sym, ap, ◌∙◌}
use Rattle.atomic_table.specs.Table.{rest}
use Rattle.vc_turn.specs.Place.{Carries}

pub idle_of : {V : Type 0} (serving queued : Bool) (carried : List (ℕ × Option V)) → Carries serving queued carried → serving ≡ false → (queued ≡ false) × (carried ≡ [])
idle_of true queued carried k e = absurd (true≢false e)
idle_of false queued carried k e = k

pub turn_of : {V : Type 0} (serving queued : Bool) (carried : List (ℕ × Option V)) → Carries serving queued carried → serving ≡ true → (queued ≡ true) × (carried ≡ (0, None) ∷ [])
turn_of true queued carried k e = k
turn_of false queued carried k e = absurd (true≢false (sym e))

-- the slot that was taken last is the first of those carried
pub first_is : {A : Type 0} (carried others : List (ℕ × A)) (x : A) → carried ≡ (0, x) ∷ others → carried ≡ (0, x) ∷ rest carried
first_is {A} carried others x e = e ∙ ap (λ (l : List (ℕ × A)). (0, x) ∷ l) (sym (ap (λ (l : List (ℕ × A)). rest l) e))
