-- Facts of what may be there.
use Rattle.std.specs.Prelude.{Option, Some, None}

abbrev pub IfThere : {A : Type 0} → (A → Type 0) → Option A → Type 0
IfThere P None = Unit {0}
IfThere P (Some x) = P x

-- both are there and are related, or neither is there
abbrev pub Both : {A : Type 0} → (A → A → Type 0) → Option A → Option A → Type 0
Both R None None = Unit {0}
Both R (Some x) (Some y) = R x y
Both R None (Some y) = ⊥
Both R (Some x) None = ⊥

pub both_self : {A : Type 0} (R : A → A → Type 0) → ((x : A) → R x x) → (o : Option A) → Both R o o
both_self R same None = tt
both_self R same (Some x) = same x

pub both_on : {A : Type 0} (R : A → A → Type 0) → ((x y z : A) → R x y → R y z → R x z) → (a b c : Option A) → Both R a b → Both R b c → Both R a c
both_on R on None None None f g = tt
both_on R on (Some x) (Some y) (Some z) f g = on x y z f g
both_on R on None None (Some z) f g = absurd g
both_on R on None (Some y) c f g = absurd f
both_on R on (Some x) None c f g = absurd f
both_on R on (Some x) (Some y) None f g = absurd g
