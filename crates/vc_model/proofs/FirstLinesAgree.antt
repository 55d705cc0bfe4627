-- What the first lines of a text are, and in how many lines two texts agree. A line ends with its line feed and none
-- is empty, so taking lines from a text and counting them go line by line, and texts that agree in all their lines
-- are the same.
use Rattle.std.proofs.Common.{ℕ, zero, suc, ◌≡◌, ◌≤◌, ◌+◌, ◌==◌, Bool, true, false, cond, List, [], ◌∷◌, ◌++◌, length, take, drop, refl, sym, ap, ◌∙◌, subst, arith}
use Rattle.std.specs.Prelude.{bytes_eq}
use Rattle.std.proofs.lemmas.List.{append_cancel_left, append-nil}
use Rattle.std.proofs.lemmas.Bool.{false≢true}
use Rattle.std.proofs.lemmas.Slice.Eq.{bytes_eq-Decides}
use Rattle.vc_base.specs.Buffers.{is_empty}
use Rattle.vc_model.specs.Script.{first_lines, with_first, split_lines}
use Rattle.vc_model.specs.Audit.{same_lines, joined}

-- First lines

pub none_first : (n : ℕ) → first_lines [] n ≡ []
none_first zero = refl
none_first (suc n) = refl

-- the first of the first lines
first_pick :
    (bytes : List ℕ) (n k : ℕ) → first_lines (first_lines bytes n) k ≡ first_lines bytes k
    → first_lines (first_lines bytes (suc n)) (suc k) ≡ first_lines bytes (suc k) → (b : Bool)
    → first_lines (first_lines bytes (cond b n (suc n))) (cond b k (suc k)) ≡ first_lines bytes (cond b k (suc k))
first_pick bytes n k h i true = h
first_pick bytes n k h i false = i

pub first_first : (bytes : List ℕ) (n k : ℕ) → k ≤ n → first_lines (first_lines bytes n) k ≡ first_lines bytes k
first_first bytes n zero h = refl
first_first [] zero (suc k) h = absurd (omega arith)
first_first [] (suc n) (suc k) h = refl
first_first (x ∷ bytes) zero (suc k) h = absurd (omega arith)
first_first (x ∷ bytes) (suc n) (suc k) h =
    ap (λ l. x ∷ l) (first_pick bytes n k (first_first bytes n k (omega arith)) (first_first bytes (suc n) (suc k) h) (x == 10))

swap_pick :
    (bytes : List ℕ) (n k : ℕ) → first_lines (first_lines bytes n) k ≡ first_lines (first_lines bytes k) n
    → first_lines (first_lines bytes (suc n)) (suc k) ≡ first_lines (first_lines bytes (suc k)) (suc n) → (b : Bool)
    → first_lines (first_lines bytes (cond b n (suc n))) (cond b k (suc k)) ≡ first_lines (first_lines bytes (cond b k (suc k))) (cond b n (suc n))
swap_pick bytes n k h i true = h
swap_pick bytes n k h i false = i

pub first_swap : (bytes : List ℕ) (n k : ℕ) → first_lines (first_lines bytes n) k ≡ first_lines (first_lines bytes k) n
first_swap bytes zero k = none_first k
first_swap bytes (suc n) zero = refl
first_swap [] (suc n) (suc k) = refl
first_swap (x ∷ bytes) (suc n) (suc k) =
    ap (λ l. x ∷ l) (swap_pick bytes n k (first_swap bytes n k) (first_swap bytes (suc n) (suc k)) (x == 10))

-- the first lines, and then those behind them
after_pick :
    (bytes : List ℕ) (n k m : ℕ) → first_lines bytes n ≡ first_lines bytes k ++ first_lines (drop (length (first_lines bytes k)) bytes) m
    → first_lines bytes (suc n) ≡ first_lines bytes (suc k) ++ first_lines (drop (length (first_lines bytes (suc k))) bytes) m → (b : Bool)
    → first_lines bytes (cond b n (suc n)) ≡ first_lines bytes (cond b k (suc k)) ++ first_lines (drop (length (first_lines bytes (cond b k (suc k)))) bytes) m
after_pick bytes n k m h i true = h
after_pick bytes n k m h i false = i

pub first_after : (bytes : List ℕ) (n k m : ℕ) → n ≡ k + m → first_lines bytes n ≡ first_lines bytes k ++ first_lines (drop (length (first_lines bytes k)) bytes) m
first_after bytes n zero m e = let p : n ≡ m = omega arith in ap (first_lines bytes) p
first_after [] n (suc k) m e = none_first n ∙ sym (none_first m)
first_after (x ∷ bytes) zero (suc k) m e = absurd (omega arith)
first_after (x ∷ bytes) (suc n) (suc k) m e =
    ap (λ l. x ∷ l) (after_pick bytes n k m (first_after bytes n k m (omega arith)) (first_after bytes (suc n) (suc k) m (omega arith)) (x == 10))

-- two texts of so many lines at most, whose first lines are the same
pub same_whole : (a b : List ℕ) (n k : ℕ) → k ≤ n → a ≡ first_lines a k → b ≡ first_lines b k → first_lines a n ≡ first_lines b n → a ≡ b
same_whole a b n k h p q e =
    p ∙ (sym (first_first a n k h) ∙ (ap (λ t. first_lines t k) e ∙ (first_first b n k h ∙ sym q)))

-- Lines

lines_pick :
    (x n : ℕ) (lines : List (List ℕ)) (rest more : List ℕ) → joined (take n lines) ≡ rest → joined (take (suc n) lines) ≡ more → (b : Bool)
    → joined (take (suc n) (cond b ((x ∷ []) ∷ lines) (with_first x lines))) ≡ x ∷ cond b rest more
lines_pick x n lines rest more h i true = ap (λ l. x ∷ l) h
lines_pick x zero [] rest more h i false = ap (λ l. x ∷ l) i
lines_pick x (suc n) [] rest more h i false = ap (λ l. x ∷ l) i
lines_pick x n (line ∷ lines) rest more h i false = ap (λ l. x ∷ l) i

front_pick : (bytes : List ℕ) (n : ℕ) (b : Bool) → cond b (first_lines bytes n) (first_lines bytes (suc n)) ≡ first_lines bytes (cond b n (suc n))
front_pick bytes n true = refl
front_pick bytes n false = refl

-- the first lines of a text are the first of its lines
pub joined_first : (bytes : List ℕ) (n : ℕ) → joined (take n (split_lines bytes)) ≡ first_lines bytes n
joined_first bytes zero = refl
joined_first [] (suc n) = refl
joined_first (x ∷ bytes) (suc n) =
    lines_pick x n (split_lines bytes) (first_lines bytes n) (first_lines bytes (suc n)) (joined_first bytes n) (joined_first bytes (suc n)) (x == 10) ∙ ap (λ l. x ∷ l) (front_pick bytes n (x == 10))

whole_pick : (x : ℕ) (lines : List (List ℕ)) (bytes : List ℕ) → joined lines ≡ bytes → (b : Bool) → joined (cond b ((x ∷ []) ∷ lines) (with_first x lines)) ≡ x ∷ bytes
whole_pick x lines bytes h true = ap (λ l. x ∷ l) h
whole_pick x [] bytes h false = ap (λ l. x ∷ l) h
whole_pick x (line ∷ lines) bytes h false = ap (λ l. x ∷ l) h

pub joined_whole : (bytes : List ℕ) → joined (split_lines bytes) ≡ bytes
joined_whole [] = refl
joined_whole (x ∷ bytes) = whole_pick x (split_lines bytes) bytes (joined_whole bytes) (x == 10)

-- no line is empty
AreFilled : List (List ℕ) → Type 0
AreFilled [] = Unit {0}
AreFilled (line ∷ lines) = (is_empty line ≡ false) × AreFilled lines

filled_pick : (x : ℕ) (lines : List (List ℕ)) → AreFilled lines → (b : Bool) → AreFilled (cond b ((x ∷ []) ∷ lines) (with_first x lines))
unfolding AreFilled
filled_pick x lines h true = (refl, h)
filled_pick x [] h false = (refl, tt)
filled_pick x (line ∷ lines) h false = (refl, h.1)

lines_filled : (bytes : List ℕ) → AreFilled (split_lines bytes)
unfolding AreFilled
lines_filled [] = tt
lines_filled (x ∷ bytes) = filled_pick x (split_lines bytes) (lines_filled bytes) (x == 10)

-- a text of so many lines has no more
few_pick :
    (x n : ℕ) (short long : List ℕ) → length (split_lines short) ≤ n → length (split_lines long) ≤ suc n → (b : Bool)
    → length (cond b ((x ∷ []) ∷ split_lines (cond b short long)) (with_first x (split_lines (cond b short long)))) ≤ suc n
few_pick x n short long h i true = omega arith
few_pick x n short long h i false = few_first x n (split_lines long) i
  where
    few_first : (x n : ℕ) (lines : List (List ℕ)) → length lines ≤ suc n → length (with_first x lines) ≤ suc n
    few_first x n [] i = omega arith
    few_first x n (line ∷ lines) i = i

few_same : (bytes : List ℕ) (n : ℕ) (b : Bool) → first_lines bytes (cond b n (suc n)) ≡ cond b (first_lines bytes n) (first_lines bytes (suc n))
few_same bytes n true = refl
few_same bytes n false = refl

pub few_lines : (bytes : List ℕ) (n : ℕ) → length (split_lines (first_lines bytes n)) ≤ n
few_lines bytes zero = omega arith
few_lines [] (suc n) = omega arith
few_lines (x ∷ bytes) (suc n) =
    let short = first_lines bytes n in
    let long = first_lines bytes (suc n) in
    let p = few_pick x n short long (few_lines bytes n) (few_lines bytes (suc n)) (x == 10) in
    let q = ap (λ l. length (cond (x == 10) ((x ∷ []) ∷ split_lines l) (with_first x (split_lines l)))) (few_same bytes n (x == 10)) in
    omega arith

-- The lines in which two texts agree

same_few : (lines others : List (List ℕ)) → same_lines lines others ≤ length lines
same_few [] others = omega arith
same_few (line ∷ lines) [] = omega arith
same_few (line ∷ lines) (other ∷ others) = pick (bytes_eq line other) (same_few lines others)
  where
    pick : (b : Bool) → same_lines lines others ≤ length lines → cond b (1 + same_lines lines others) 0 ≤ suc (length lines)
    pick true h = omega arith
    pick false h = omega arith

one_more : (n : ℕ) → 1 + n ≡ suc n
one_more n = omega arith

agree_pick :
    (line other : List ℕ) (lines others : List (List ℕ)) (s : ℕ) → joined (take s lines) ≡ joined (take s others) → (b : Bool)
    → bytes_eq line other ≡ b → joined (take (cond b (1 + s) 0) (line ∷ lines)) ≡ joined (take (cond b (1 + s) 0) (other ∷ others))
agree_pick line other lines others s h true e =
    let both : line ++ joined (take s lines) ≡ other ++ joined (take s others) = ap (λ l. l ++ joined (take s lines)) ((bytes_eq-Decides line other).0 e) ∙ ap (λ l. other ++ l) h in
    subst (λ k. joined (take k (line ∷ lines)) ≡ joined (take k (other ∷ others))) (sym (one_more s)) both
agree_pick line other lines others s h false e = refl

agree_lines : (lines others : List (List ℕ)) → joined (take (same_lines lines others) lines) ≡ joined (take (same_lines lines others) others)
agree_lines [] [] = refl
agree_lines [] (other ∷ others) = refl
agree_lines (line ∷ lines) [] = refl
agree_lines (line ∷ lines) (other ∷ others) =
    agree_pick line other lines others (same_lines lines others) (agree_lines lines others) (bytes_eq line other) refl

-- so many first lines are the same
pub agree_first : (a b : List ℕ) → let s = same_lines (split_lines a) (split_lines b) in first_lines a s ≡ first_lines b s
agree_first a b =
    let s = same_lines (split_lines a) (split_lines b) in
    sym (joined_first a s) ∙ (agree_lines (split_lines a) (split_lines b) ∙ joined_first b s)

-- and one more only where the texts are the same
whole_pick_lines :
    (line other : List ℕ) (lines others : List (List ℕ)) (s : ℕ)
    → (joined (take (suc s) lines) ≡ joined (take (suc s) others) → joined lines ≡ joined others) → (b : Bool) → bytes_eq line other ≡ b
    → joined (take (suc (cond b (1 + s) 0)) (line ∷ lines)) ≡ joined (take (suc (cond b (1 + s) 0)) (other ∷ others))
    → line ++ joined lines ≡ other ++ joined others
whole_pick_lines line other lines others s h true p q =
    let same = (bytes_eq-Decides line other).0 p in
    let r : line ++ joined (take (suc s) lines) ≡ other ++ joined (take (suc s) others) = subst (λ k. joined (take (suc k) (line ∷ lines)) ≡ joined (take (suc k) (other ∷ others))) (one_more s) q in
    let rest = append_cancel_left other (joined (take (suc s) lines)) (joined (take (suc s) others)) (ap (λ l. l ++ joined (take (suc s) lines)) (sym same) ∙ r) in
    ap (λ l. l ++ joined lines) same ∙ ap (λ l. other ++ l) (h rest)
whole_pick_lines line other lines others s h false p q =
    let same : line ≡ other = sym (append-nil line) ∙ (q ∙ append-nil other) in
    absurd (false≢true (sym p ∙ (bytes_eq-Decides line other).1 same))

whole_lines : (lines others : List (List ℕ)) → AreFilled lines → AreFilled others → joined (take (suc (same_lines lines others)) lines) ≡ joined (take (suc (same_lines lines others)) others) → joined lines ≡ joined others
unfolding AreFilled
whole_lines [] [] f g e = refl
whole_lines [] ([] ∷ others) f g e = absurd (false≢true (sym g.0))
whole_lines [] ((x ∷ other) ∷ others) f g e = absurd (cc)
whole_lines ([] ∷ lines) [] f g e = absurd (false≢true (sym f.0))
whole_lines ((x ∷ line) ∷ lines) [] f g e = absurd (cc)
whole_lines (line ∷ lines) (other ∷ others) f g e =
    whole_pick_lines line other lines others (same_lines lines others) (whole_lines lines others f.1 g.1) (bytes_eq line other) refl e

pub agree_whole : (a b : List ℕ) → let s = same_lines (split_lines a) (split_lines b) in first_lines a (suc s) ≡ first_lines b (suc s) → a ≡ b
agree_whole a b e =
    let s = same_lines (split_lines a) (split_lines b) in
    sym (joined_whole a) ∙ (whole_lines (split_lines a) (split_lines b) (lines_filled a) (lines_filled b) (joined_first a (suc s) ∙ (e ∙ sym (joined_first b (suc s)))) ∙ joined_whole b)

-- two texts of so many lines at most agree in no more
pub agree_few : (bytes other : List ℕ) (n : ℕ) → same_lines (split_lines (first_lines bytes n)) (split_lines other) ≤ n
agree_few bytes other n =
    let p = same_few (split_lines (first_lines bytes n)) (split_lines other) in
    let q = few_lines bytes n in
    omega arith
