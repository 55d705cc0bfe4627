-- The last of some stamps, when more come. To keep the last of what was kept and of the new ones is to keep the last
-- of all.
use Rattle.std.proofs.Common.{◌≡◌, ◌∙◌, sym, ap, ℕ, ◌+◌, ◌-◌, ◌≤◌, inl, inr, List, [], ◌∷◌, ◌++◌, length, drop, replicate, arith, append_assoc, length-append, length-drop}
use Rattle.std.specs.Prelude.{min}
use Rattle.std.proofs.lemmas.Bool.{cases_lt}
use Rattle.std.proofs.lemmas.List.{drop-drop, drop-append-le, drop_at, replicate-append-replicate, length-replicate}
use Rattle.circular_buffer.specs.Buffer.{keep_last}
use Rattle.vc_base.specs.declared.Stamp.{Stamp}

pub keep_twice : (n m k : ℕ) (xs : List Stamp) → k ≡ min n m → keep_last m (keep_last n xs) ≡ keep_last k xs
keep_twice n m k xs e =
    let at : length (drop (length xs - n) xs) - m + (length xs - n) ≡ length xs - k = omega (arith, e, length-drop (length xs - n) xs) in
    let at' : length xs - n + (length (drop (length xs - n) xs) - m) ≡ length xs - k = omega (arith, at) in
    drop-drop (length (drop (length xs - n) xs) - m) (length xs - n) xs ∙ ap (λ i. drop i xs) at'

pub keep_push : (n : ℕ) (xs : List Stamp) (x : Stamp) → keep_last n (keep_last n xs ++ x ∷ []) ≡ keep_last n (xs ++ x ∷ [])
keep_push n xs x =
    let inner : drop (length xs - n) xs ++ x ∷ [] ≡ drop (length xs - n) (xs ++ x ∷ []) = sym (drop-append-le (length xs - n) xs (x ∷ []) (omega arith)) in
    let at : length xs - n + (length (drop (length xs - n) (xs ++ x ∷ [])) - n) ≡ length (xs ++ x ∷ []) - n = omega (arith, length-drop (length xs - n) (xs ++ x ∷ []), length-append xs (x ∷ [])) in
    ap (λ t. keep_last n t) inner ∙ drop-drop (length (drop (length xs - n) (xs ++ x ∷ [])) - n) (length xs - n) (xs ++ x ∷ []) ∙ ap (λ i. drop i (xs ++ x ∷ [])) at

-- of many more of one stamp the last are these alone
keep_many : (n count : ℕ) (xs : List Stamp) (x : Stamp) → n ≤ count → keep_last n (xs ++ replicate count x) ≡ replicate n x
keep_many n count xs x h =
    let parts : xs ++ replicate count x ≡ xs ++ replicate (count - n) x ++ replicate n x =
    let sum : count ≡ count - n + n = omega arith in
    ap (λ k. xs ++ replicate k x) sum ∙ ap (λ t. xs ++ t) (sym (replicate-append-replicate (count - n) n x)) ∙ sym (append_assoc xs (replicate (count - n) x) (replicate n x)) in
    let at : length (xs ++ replicate (count - n) x) ≡ length (xs ++ replicate count x) - n =
    omega (arith, length-append xs (replicate (count - n) x), length-append xs (replicate count x), length-replicate (count - n) x, length-replicate count x) in
    ap (λ t. drop (length (xs ++ replicate count x) - n) t) parts ∙ drop_at (xs ++ replicate (count - n) x) (replicate n x) (length (xs ++ replicate count x) - n) at

pub keep_enough : (n count k : ℕ) (xs : List Stamp) (x : Stamp) → k ≡ min count n → keep_last n (xs ++ replicate k x) ≡ keep_last n (xs ++ replicate count x)
keep_enough n count k xs x e =
    elim (cases_lt n count) [
      | inl h ↦ let is : n ≤ k = omega arith in keep_many n k xs x is ∙ sym (keep_many n count xs x (omega arith))
      | inr h ↦ let is : k ≡ count = omega arith in ap (λ i. keep_last n (xs ++ replicate i x)) is
    ]

pub keep_all : (n : ℕ) (xs : List Stamp) → length xs ≤ n → keep_last n xs ≡ xs
keep_all n xs h = let none : length xs - n ≡ 0 = omega arith in ap (λ i. drop i xs) none

pub length_kept : (n : ℕ) (xs : List Stamp) → length (keep_last n xs) ≤ n
length_kept n xs = omega (arith, length-drop (length xs - n) xs)
