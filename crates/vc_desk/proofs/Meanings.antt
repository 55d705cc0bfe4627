-- Meanings that may be lacking, and what holds of them where they are there.
use Rattle.std.proofs.Common.{◌≡◌, Bool, true, false, cond, Option, Some, None, subst}
use Rattle.std.specs.Prelude.{option_and_then}
use Rattle.std.specs.Option.{option_map}

-- what holds of a meaning where there is one
unfoldable pub AllSome : {A : Type 0} → (A → Type 0) → Option A → Type 0
AllSome P None = Unit {0}
AllSome P (Some a) = P a

pub all_bind : {A B : Type 0} (P : A → Type 0) (Q : B → Type 0) (f : A → Option B) (o : Option A) → AllSome P o → ((a : A) → P a → AllSome Q (f a)) → AllSome Q (option_and_then f o)
unfolding AllSome
all_bind P Q f None h g = tt
all_bind P Q f (Some a) h g = g a h

pub any : {A : Type 0} (o : Option A) → AllSome (λ (a : A). Unit {0}) o
unfolding AllSome
any None = tt
any (Some a) = tt

pub all_map : {A B : Type 0} (Q : B → Type 0) (f : A → B) (o : Option A) → AllSome (λ a. Q (f a)) o → AllSome Q (option_map f o)
unfolding AllSome
all_map Q f None h = tt
all_map Q f (Some a) h = h

pub every : {A B : Type 0} (Q : B → Type 0) (f : A → B) (o : Option A) → ((a : A) → Q (f a)) → AllSome Q (option_map f o)
unfolding AllSome
every Q f None h = tt
every Q f (Some a) h = h a

pub all_cond : {A : Type 0} (Q : A → Type 0) (t : Bool) (x y : Option A) → AllSome Q x → AllSome Q y → AllSome Q (cond t x y)
all_cond Q true x y h k = h
all_cond Q false x y h k = k

pub one : {A : Type 0} (Q : A → Type 0) (a : A) → Q a → AllSome Q (Some a)
unfolding AllSome
one Q a h = h

pub nothing : {A : Type 0} (Q : A → Type 0) → AllSome Q None
unfolding AllSome
nothing Q = tt

pub where_some : {A : Type 0} (P : A → Type 0) (o : Option A) → AllSome P o → (a : A) → o ≡ Some a → P a
unfolding AllSome
where_some P o h a e = subst (AllSome P) e h
