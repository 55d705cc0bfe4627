-- What is known of a list of bytes stays known however the list goes on. A magic that was seen whole stays the first
-- one, and one that is seen only in more bytes goes beyond the fewer; so a decided look decides the same with more
-- bytes.
use Rattle.std.proofs.Common.{◌≡◌, ◌∙◌, sym, ap, refl, ℕ, ◌+◌, ◌<◌, ◌≤◌, inl, inr, List, [], ◌∷◌, ◌++◌, length, take, drop, arith, length-append, length-take, length-drop}
use Rattle.std.specs.Prelude.{Bool, true, false, nat_eq, nat_le, nat_lt, cond}
use Rattle.std.specs.List.{starts_with}
use Rattle.std.specs.Str.{bytes_eq}
use Rattle.std.specs.declared.option.Option.{Option}
use Rattle.std.specs.declared.option.Option.TheVariants.{Some, None}
use Rattle.std.proofs.lemmas.Option.{none-some}
use Rattle.std.proofs.lemmas.Bool.{cond-true, cond-false}
use Rattle.std.proofs.lemmas.Bool.Decides.{nat_tests}
use Rattle.std.proofs.lemmas.Slice.Eq.{bytes_eq-Decides}
use Rattle.std.proofs.lemmas.List.{take-append-le, drop-append-le}
use Rattle.vc_defs.specs.declared.Header.{Header}
use Rattle.vc_defs.specs.Headers.{magic, header_from}
use Rattle.vc_defs.specs.Places.{one_further, first_magic, begun, unended, cut, whole, look_behind, look_at_header, look_at, look_from, look, cursor_after}
use Rattle.vc_defs.proofs.BlocksAreRead.{chosen, some_same}

abbrev pub is_magic : List ℕ → Bool
is_magic bytes = starts_with nat_eq bytes magic

abbrev pub is_start : List ℕ → Bool
is_start bytes = starts_with nat_eq magic bytes

pub not_true : (b : Bool) → (b ≡ true → ⊥) → b ≡ false
not_true true h = absurd (h refl)
not_true false h = refl

pub is_magic_long : (bytes : List ℕ) → is_magic bytes ≡ true → 8 ≤ length bytes
is_magic_long bytes e =
    let same : magic ≡ take 8 bytes = (bytes_eq-Decides magic (take 8 bytes)).0 e in
    let n : 8 ≡ length (take 8 bytes) = ap length same in
    omega (arith, n, length-take 8 bytes)

pub is_magic_front : (xs ys : List ℕ) → 8 ≤ length xs → is_magic (xs ++ ys) ≡ is_magic xs
is_magic_front xs ys h = ap (λ t. bytes_eq magic t) (take-append-le 8 xs ys h)

-- the bytes from which the magic is seen are at least its eight
pub magic_inside : (bytes : List ℕ) (n : ℕ) → first_magic bytes ≡ Some n → n + 8 ≤ length bytes
magic_inside [] n e = absurd (none-some n e)
magic_inside (b ∷ bytes) n e =
    elim (chosen (is_magic (b ∷ bytes)) (Some 0) (one_further (first_magic bytes)) (Some n) e) [
      | inl p ↦ let zero_is : 0 ≡ n = some_same 0 n p.1 in let long : 8 ≤ length (b ∷ bytes) = is_magic_long (b ∷ bytes) p.0 in omega arith
      | inr p ↦ further (first_magic bytes) (λ m is. magic_inside bytes m is) p.1
    ]
  where
    further : (o : Option ℕ) → ((m : ℕ) → o ≡ Some m → m + 8 ≤ length bytes) → one_further o ≡ Some n → n + 8 ≤ length (b ∷ bytes)
    further None is e = absurd (none-some n e)
    further (Some m) is e = let same : m + 1 ≡ n = some_same (m + 1) n e in let inner : m + 8 ≤ length bytes = is m refl in omega arith

-- A magic that was seen stays the first one.
pub magic_stays : (xs ys : List ℕ) (n : ℕ) → first_magic xs ≡ Some n → first_magic (xs ++ ys) ≡ Some n
magic_stays [] ys n e = absurd (none-some n e)
magic_stays (b ∷ xs) ys n e =
    elim (chosen (is_magic (b ∷ xs)) (Some 0) (one_further (first_magic xs)) (Some n) e) [
      | inl p ↦
          let long : 8 ≤ length (b ∷ xs) = is_magic_long (b ∷ xs) p.0 in
          cond-true (is_magic (b ∷ xs ++ ys)) (Some 0) (one_further (first_magic (xs ++ ys))) (is_magic_front (b ∷ xs) ys long ∙ p.0) ∙ p.1
      | inr p ↦
          let long : n + 8 ≤ length (b ∷ xs) = magic_inside (b ∷ xs) n e in
          cond-false (is_magic (b ∷ xs ++ ys)) (Some 0) (one_further (first_magic (xs ++ ys))) (is_magic_front (b ∷ xs) ys (omega arith) ∙ p.0) ∙ further (first_magic xs) (λ m is. magic_stays xs ys m is) p.1
    ]
  where
    further : (o : Option ℕ) → ((m : ℕ) → o ≡ Some m → first_magic (xs ++ ys) ≡ Some m) → one_further o ≡ Some n → one_further (first_magic (xs ++ ys)) ≡ Some n
    further None is e = absurd (none-some n e)
    further (Some m) is e = ap (λ o. one_further o) (is m refl) ∙ e

-- A magic that is seen only in more bytes goes beyond the fewer.
pub magic_beyond : (xs ys : List ℕ) (n : ℕ) → first_magic xs ≡ None → first_magic (xs ++ ys) ≡ Some n → length xs < n + 8
magic_beyond [] ys n none e = omega arith
magic_beyond (b ∷ xs) ys n none e =
    elim (chosen (is_magic (b ∷ xs)) (Some 0) (one_further (first_magic xs)) None none) [
      | inl p ↦ absurd (none-some 0 (sym p.1))
      | inr p ↦
          elim (chosen (is_magic (b ∷ xs ++ ys)) (Some 0) (one_further (first_magic (xs ++ ys))) (Some n) e) [
            | inl q ↦ short n q.0 p.0
            | inr q ↦ further (first_magic (xs ++ ys)) (λ m is. magic_beyond xs ys m (no_further (first_magic xs) p.1) is) q.1
          ]
    ]
  where
    no_further : (o : Option ℕ) → one_further o ≡ None → o ≡ None
    no_further None e = refl
    no_further (Some m) e = absurd (none-some (m + 1) (sym e))

    by_size : (b' : Bool) → nat_le 8 (length (b ∷ xs)) ≡ b' → is_magic (b ∷ xs ++ ys) ≡ true → is_magic (b ∷ xs) ≡ false → length (b ∷ xs) < 8
    by_size true t m f =
        let long : 8 ≤ length (b ∷ xs) = grind (arith, nat_tests) in
        let clash : false ≡ true = sym f ∙ sym (is_magic_front (b ∷ xs) ys long) ∙ m in
        cc
    by_size false t m f = grind (arith, nat_tests)

    short : (n : ℕ) → is_magic (b ∷ xs ++ ys) ≡ true → is_magic (b ∷ xs) ≡ false → length (b ∷ xs) < n + 8
    short n m f = let less : length (b ∷ xs) < 8 = by_size (nat_le 8 (length (b ∷ xs))) refl m f in omega arith

    further : (o : Option ℕ) → ((m : ℕ) → o ≡ Some m → length xs < m + 8) → one_further o ≡ Some n → length (b ∷ xs) < n + 8
    further None is e = absurd (none-some n e)
    further (Some m) is e = let same : m + 1 ≡ n = some_same (m + 1) n e in let inner : length xs < m + 8 = is m refl in omega arith

-- a whole frame's body is there already
body_there : (size : ℕ) (xs ys : List ℕ) → 44 + size ≤ length xs → take size (drop 44 (xs ++ ys)) ≡ take size (drop 44 xs)
body_there size xs ys h =
    let first : 44 ≤ length xs = omega arith in
    ap (λ t. take size t) (drop-append-le 44 xs ys first) ∙ take-append-le size (drop 44 xs) ys (omega (arith, length-drop 44 xs))

no_cursor : (n : ℕ) → None ≡ Some n → ⊥
no_cursor n e = none-some n e

-- the end of a frame: whole or not
whole_stays : (at : ℕ) (h : Header) (xs ys : List ℕ) (n : ℕ) →
    cursor_after (cond (nat_le (44 + h.size) (length xs)) (whole at h (take h.size (drop 44 xs))) (unended at h)) ≡ Some n →
    (44 + h.size ≤ length xs)
    × (cond (nat_le (44 + h.size) (length (xs ++ ys))) (whole at h (take h.size (drop 44 (xs ++ ys)))) (unended at h)
    ≡ cond (nat_le (44 + h.size) (length xs)) (whole at h (take h.size (drop 44 xs))) (unended at h))
whole_stays at h xs ys n e = by_test (nat_le (44 + h.size) (length xs)) refl e
  where
    by_test : (b : Bool) → nat_le (44 + h.size) (length xs) ≡ b → cursor_after (cond b (whole at h (take h.size (drop 44 xs))) (unended at h)) ≡ Some n →
        (44 + h.size ≤ length xs)
        × (cond (nat_le (44 + h.size) (length (xs ++ ys))) (whole at h (take h.size (drop 44 (xs ++ ys)))) (unended at h)
        ≡ cond (nat_le (44 + h.size) (length xs)) (whole at h (take h.size (drop 44 xs))) (unended at h))
    by_test true t e =
        let enough : 44 + h.size ≤ length xs = grind (arith, nat_tests) in
        let more : 44 + h.size ≤ length (xs ++ ys) = omega (arith, length-append xs ys) in (
          enough,
          cond-true (nat_le (44 + h.size) (length (xs ++ ys))) (whole at h (take h.size (drop 44 (xs ++ ys)))) (unended at h) (grind (arith, nat_tests))
              ∙ ap (λ t. whole at h t) (body_there h.size xs ys enough)
              ∙ sym (cond-true (nat_le (44 + h.size) (length xs)) (whole at h (take h.size (drop 44 xs))) (unended at h) t),
        )
    by_test false t e = absurd (none-some n e)

behind_stays : (at : ℕ) (h : Header) (xs ys : List ℕ) (o o' : Option ℕ) (n : ℕ) → 8 ≤ length xs → ((m : ℕ) → o ≡ Some m → o' ≡ Some m) → ((m : ℕ) → o ≡ None → o' ≡ Some m → length xs < 8 + m + 8) →
    cursor_after (look_behind at h xs o) ≡ Some n → look_behind at h (xs ++ ys) o' ≡ look_behind at h xs o
behind_stays at h xs ys (Some m) o' n eight stays beyond e =
    ap (λ o. look_behind at h (xs ++ ys) o) (stays m refl) ∙ by_test (nat_le (8 + m + 8) (44 + h.size)) e
  where
    by_test : (b : Bool) → cursor_after (cond b (cut at h (at + 8 + m)) (cond (nat_le (44 + h.size) (length xs)) (whole at h (take h.size (drop 44 xs))) (unended at h))) ≡ Some n →
        cond b (cut at h (at + 8 + m)) (cond (nat_le (44 + h.size) (length (xs ++ ys))) (whole at h (take h.size (drop 44 (xs ++ ys)))) (unended at h))
        ≡ cond b (cut at h (at + 8 + m)) (cond (nat_le (44 + h.size) (length xs)) (whole at h (take h.size (drop 44 xs))) (unended at h))
    by_test true e = refl
    by_test false e = (whole_stays at h xs ys n e).1
behind_stays at h xs ys None None n eight stays beyond e = (whole_stays at h xs ys n e).1
behind_stays at h xs ys None (Some m) n eight stays beyond e =
    let w = whole_stays at h xs ys n e in
    let far : length xs < 8 + m + 8 = beyond m refl refl in
    let enough : 44 + h.size ≤ length xs = w.0 in
    cond-false (nat_le (8 + m + 8) (44 + h.size)) (cut at h (at + 8 + m)) (cond (nat_le (44 + h.size) (length (xs ++ ys))) (whole at h (take h.size (drop 44 (xs ++ ys)))) (unended at h)) (grind (arith, nat_tests)) ∙ w.1

header_stays : (at : ℕ) (xs ys : List ℕ) (o : Option Header) (n : ℕ) → 44 ≤ length xs → cursor_after (look_at_header at xs o) ≡ Some n → look_at_header at (xs ++ ys) o ≡ look_at_header at xs o
header_stays at xs ys None n h e = refl
header_stays at xs ys (Some header) n h e =
    let eight : drop 8 (xs ++ ys) ≡ drop 8 xs ++ ys = drop-append-le 8 xs ys (omega arith) in
    ap (λ t. look_behind at header (xs ++ ys) (first_magic t)) eight
    ∙ behind_stays at header xs ys (first_magic (drop 8 xs)) (first_magic (drop 8 xs ++ ys)) n (omega arith)
    (λ m is. magic_stays (drop 8 xs) ys m is)
    (λ m none is. let far : length (drop 8 xs) < m + 8 = magic_beyond (drop 8 xs) ys m none is in omega (arith, far, length-drop 8 xs))
    e

at_stays : (limit at : ℕ) (xs ys : List ℕ) (n : ℕ) → cursor_after (look_at limit at xs) ≡ Some n → look_at limit at (xs ++ ys) ≡ look_at limit at xs
at_stays limit at xs ys n e = by_test (nat_lt (length xs) 44) refl e
  where
    by_test : (b : Bool) → nat_lt (length xs) 44 ≡ b → cursor_after (cond b (begun at) (look_at_header at xs (header_from limit (take 44 xs)))) ≡ Some n → look_at limit at (xs ++ ys) ≡ look_at limit at xs
    by_test true t e = absurd (none-some n e)
    by_test false t e =
        let enough : 44 ≤ length xs = grind (arith, nat_tests) in
        let more : 44 ≤ length (xs ++ ys) = omega (arith, length-append xs ys) in
        cond-false (nat_lt (length (xs ++ ys)) 44) (begun at) (look_at_header at (xs ++ ys) (header_from limit (take 44 (xs ++ ys)))) (grind (arith, nat_tests))
        ∙ ap (λ t. look_at_header at (xs ++ ys) (header_from limit t)) (take-append-le 44 xs ys enough)
        ∙ header_stays at xs ys (header_from limit (take 44 xs)) n enough e
        ∙ sym (cond-false (nat_lt (length xs) 44) (begun at) (look_at_header at xs (header_from limit (take 44 xs))) t)

-- What is known of the bytes from the cursor on stays known.
pub look_stays : (limit : ℕ) (xs ys : List ℕ) (n : ℕ) → cursor_after (look limit xs) ≡ Some n → look limit (xs ++ ys) ≡ look limit xs
unfolding look
look_stays limit xs ys n e = by_magic (first_magic xs) refl e
  where
    by_magic : (o : Option ℕ) → first_magic xs ≡ o → cursor_after (look_from limit xs o) ≡ Some n → look_from limit (xs ++ ys) (first_magic (xs ++ ys)) ≡ look_from limit xs (first_magic xs)
    by_magic None is e = absurd (none-some n e)
    by_magic (Some at) is e =
        let inside : at + 8 ≤ length xs = magic_inside xs at is in
        ap (λ o. look_from limit (xs ++ ys) o) (magic_stays xs ys at is)
        ∙ ap (λ t. look_at limit at t) (drop-append-le at xs ys (omega arith))
        ∙ at_stays limit at (drop at xs) ys n e
        ∙ ap (λ o. look_from limit xs o) (sym is)
