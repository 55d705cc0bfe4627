-- What a test with several parts says of its parts. Both parts of `&&` hold where the whole does, one of `||` does,
-- and a negation turns the one into the other; each by cases of true and false.
use Rattle.std.proofs.Common.{◌≡◌, Bool, true, false, not, ◌&&◌, ◌||◌, refl, sym, ap, ◌∙◌, ◌⊎◌, inl, inr}
use Rattle.std.proofs.lemmas.Bool.{false≢true}

pub and_left : (a b : Bool) → (a && b) ≡ true → a ≡ true
and_left true b p = refl
and_left false b p = absurd (false≢true p)

pub and_right : (a b : Bool) → (a && b) ≡ true → b ≡ true
and_right true b p = p
and_right false b p = absurd (false≢true p)

pub and_both : (a b : Bool) → a ≡ true → b ≡ true → (a && b) ≡ true
and_both a b p q = ap (λ x. x && b) p ∙ q

pub and_false : (a b : Bool) → a ≡ false → (a && b) ≡ false
and_false a b p = ap (λ x. x && b) p

pub or_cases : (a b : Bool) → (a || b) ≡ true → (a ≡ true) ⊎ (b ≡ true)
or_cases true b p = inl refl
or_cases false b p = inr p

pub or_first : (a b : Bool) → a ≡ false → (a || b) ≡ true → b ≡ true
or_first a b e p = ap (λ x. x || b) (sym e) ∙ p

pub not_true : (a : Bool) → not a ≡ true → a ≡ false
not_true true p = absurd (false≢true p)
not_true false p = refl

pub not_false : (a : Bool) → not a ≡ false → a ≡ true
not_false true p = refl
not_false false p = absurd (false≢true (sym p))
