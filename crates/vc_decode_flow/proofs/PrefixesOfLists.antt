-- Prefixes of lists: a list is one of itself and of what goes on from it, and a prefix of a prefix is one.
use Rattle.std.proofs.Common.{ℕ, ◌≡◌, List, [], ◌++◌, take, drop, sym, ap, ◌∙◌, refl, append_assoc, append-nil}
use Rattle.std.proofs.lemmas.List.{take-append-drop}
use mathlib.Core.List.{IsPrefix}

pub prefix_self : (xs : List ℕ) → IsPrefix xs xs
prefix_self xs = ([], append-nil xs)

pub prefix_none : (xs : List ℕ) → IsPrefix [] xs
prefix_none xs = (xs, refl)

pub prefix_both : (xs ys zs : List ℕ) → IsPrefix xs ys → IsPrefix ys zs → IsPrefix xs zs
prefix_both xs ys zs p q =
    (p.0 ++ q.0, sym (append_assoc xs p.0 q.0) ∙ (ap (λ (l : List ℕ). l ++ q.0) p.1 ∙ q.1))

pub prefix_more : (xs more : List ℕ) → IsPrefix xs (xs ++ more)
prefix_more xs more = (more, refl)

pub prefix_taken : (xs ys : List ℕ) (n : ℕ) → IsPrefix (xs ++ take n ys) (xs ++ ys)
prefix_taken xs ys n =
    (drop n ys, append_assoc xs (take n ys) (drop n ys) ∙ ap (λ (l : List ℕ). xs ++ l) (take-append-drop n ys))
