-- Lines of a report: the first line ends at the first line feed, and two texts begin with as many lines alike as their first lines
-- tell, one after another.
use Rattle.std.proofs.Common.{ℕ, zero, suc, ◌≡◌, ◌<◌, ◌+◌, ◌==◌, ◌≤◌, Bool, true, false, not, cond, List, [], ◌∷◌, ◌++◌, length, take, drop, refl, sym, ap, ◌∙◌, subst, arith}
use Rattle.std.specs.Prelude.{bytes_eq}
use Rattle.std.proofs.lemmas.List.{length-append}
use Rattle.std.proofs.lemmas.Bool.{false≢true, true≢false}
use Rattle.std.proofs.lemmas.Slice.Eq.{bytes_eq-Decides}
use Rattle.memchr.specs.Find.{Passes, is_byte}
use Rattle.vc_model.specs.Script.{first_lines, split_lines, with_first}
use Rattle.vc_model.specs.Audit.{same_lines}
use Rattle.vc_model.proofs.FirstLinesAgree.{first_after}

not_true : (t : Bool) → (t ≡ true → ⊥) → t ≡ false
not_true true h = absurd (h refl)
not_true false h = refl

pub first_at : (bytes : List ℕ) (at : ℕ) → at < length bytes → ((k : ℕ) → k < at → Passes (is_byte 10) bytes k → ⊥) → Passes (is_byte 10) bytes at → first_lines bytes 1 ≡ take (suc at) bytes
first_at [] at l h p = absurd (omega arith)
first_at (b ∷ bs) zero l h p = ap (λ t. b ∷ first_lines bs (cond t 0 1)) p
first_at (b ∷ bs) (suc at) l h p =
    ap (λ t. b ∷ first_lines bs (cond t 0 1)) (not_true (b == 10) (h 0 (omega arith))) ∙ ap (λ t. b ∷ t) (first_at bs at (omega arith) (λ k m. h (suc k) (omega arith)) p)

pub first_whole : (bytes : List ℕ) → ((k : ℕ) → k < length bytes → Passes (is_byte 10) bytes k → ⊥) → first_lines bytes 1 ≡ bytes
first_whole [] h = refl
first_whole (b ∷ bs) h =
    ap (λ t. b ∷ first_lines bs (cond t 0 1)) (not_true (b == 10) (h 0 (omega arith))) ∙ ap (λ t. b ∷ t) (first_whole bs (λ k m. h (suc k) (omega arith)))

pub first_taken : (bytes : List ℕ) (at : ℕ) → at < length bytes → ((k : ℕ) → k < at → Passes (is_byte 10) bytes k → ⊥) → Passes (is_byte 10) bytes at → take (at + 1) bytes ≡ first_lines bytes 1
first_taken bytes at l h p =
    let e : at + 1 ≡ suc at = omega arith in ap (λ n. take n bytes) e ∙ sym (first_at bytes at l h p)

first_take : (bytes : List ℕ) (n : ℕ) → take (length (first_lines bytes n)) bytes ≡ first_lines bytes n
first_take bytes zero = refl
first_take [] (suc n) = refl
first_take (b ∷ bs) (suc n) = ap (λ t. b ∷ t) (first_take bs (cond (b == 10) n (suc n)))

pub two_taken : (bytes first second : List ℕ) → first ≡ first_lines bytes 1 → second ≡ first_lines (drop (length first) bytes) 1 → take (length first + length second) bytes ≡ first_lines bytes 2
two_taken bytes first second e f =
    let whole : first ++ second ≡ first_lines bytes 2 =
    ap (λ x. x ++ second) e ∙ (ap (λ x. first_lines bytes 1 ++ x) (f ∙ ap (λ x. first_lines (drop (length x) bytes) 1) e) ∙ sym (first_after bytes 2 1 1 refl)) in
    ap (λ m. take m bytes) (sym (length-append first second) ∙ ap length whole) ∙ first_take bytes 2

pub lines_within : (bytes first : List ℕ) → first ≡ first_lines bytes 1 → length first ≤ length bytes
lines_within bytes first e = within bytes 1 first e
  where
    few : (bytes : List ℕ) (n : ℕ) → length (first_lines bytes n) ≤ length bytes
    few bytes zero = omega arith
    few [] (suc n) = omega arith
    few (b ∷ bs) (suc n) = let l = few bs (cond (b == 10) n (suc n)) in omega (arith, l)

    within : (bytes : List ℕ) (n : ℕ) (first : List ℕ) → first ≡ first_lines bytes n → length first ≤ length bytes
    within bytes n first e = let l = few bytes n in omega (arith, ap length e, l)

pub few_bytes : (bytes : List ℕ) (n : ℕ) → length (first_lines bytes n) ≤ length bytes
few_bytes bytes zero = omega arith
few_bytes [] (suc n) = omega arith
few_bytes (b ∷ bs) (suc n) = let l = few_bytes bs (cond (b == 10) n (suc n)) in omega (arith, l)

-- Lines one after another

split_one :
    (b : ℕ) (t : Bool) (bs : List ℕ)
    → ((c : ℕ) (cs : List ℕ) → bs ≡ c ∷ cs → split_lines bs ≡ first_lines bs 1 ∷ split_lines (drop (length (first_lines bs 1)) bs))
    → cond t ((b ∷ []) ∷ split_lines bs) (with_first b (split_lines bs))
    ≡ (b ∷ first_lines bs (cond t 0 1)) ∷ split_lines (drop (length (first_lines bs (cond t 0 1))) bs)
split_one b true bs h = refl
split_one b false [] h = refl
split_one b false (c ∷ cs) h = ap (with_first b) (h c cs refl)

split_first : (b : ℕ) (bs : List ℕ) → split_lines (b ∷ bs) ≡ first_lines (b ∷ bs) 1 ∷ split_lines (drop (length (first_lines (b ∷ bs) 1)) (b ∷ bs))
split_first b [] = split_one b (b == 10) [] (λ c cs e. absurd (nothing_some c cs e))
  where
    nothing_some : (c : ℕ) (cs : List ℕ) → [] ≡ c ∷ cs → ⊥
    nothing_some c cs p = cc
split_first b (c ∷ cs) = split_one b (b == 10) (c ∷ cs) (λ x xs e. split_first c cs)

pub none_same : (left others : List ℕ) → 0 < length left → (first_lines left 1 ≡ first_lines others 1 → ⊥) → same_lines (split_lines left) (split_lines others) ≡ 0
none_same [] others l h = absurd (omega arith)
none_same (b ∷ bs) [] l h = ap (λ ls. same_lines ls []) (split_first b bs)
none_same (b ∷ bs) (c ∷ cs) l h =
    ap (λ ls. same_lines ls (split_lines (c ∷ cs))) (split_first b bs)
    ∙ (ap (same_lines (first_lines (b ∷ bs) 1 ∷ split_lines (drop (length (first_lines (b ∷ bs) 1)) (b ∷ bs)))) (split_first c cs)
    ∙ ap (λ t. cond t (1 + same_lines (split_lines (drop (length (first_lines (b ∷ bs) 1)) (b ∷ bs))) (split_lines (drop (length (first_lines (c ∷ cs) 1)) (c ∷ cs)))) 0)
    (not_true (bytes_eq (first_lines (b ∷ bs) 1) (first_lines (c ∷ cs) 1)) (λ e. h ((bytes_eq-Decides (first_lines (b ∷ bs) 1) (first_lines (c ∷ cs) 1)).0 e))))

pub one_same :
    (left others line other : List ℕ) → 0 < length left → line ≡ first_lines left 1 → other ≡ first_lines others 1 → line ≡ other
    → same_lines (split_lines left) (split_lines others) ≡ 1 + same_lines (split_lines (drop (length line) left)) (split_lines (drop (length other) others))
one_same [] others line other l e f g = absurd (omega arith)
one_same (b ∷ bs) [] line other l e f g = absurd (some_not (sym e ∙ (g ∙ f)))
  where
    some_not : {x : ℕ} {xs : List ℕ} → x ∷ xs ≡ [] → ⊥
    some_not p = cc
one_same (b ∷ bs) (c ∷ cs) line other l e f g =
    ap (λ ls. same_lines ls (split_lines (c ∷ cs))) (split_first b bs)
    ∙ (ap (same_lines (first_lines (b ∷ bs) 1 ∷ split_lines (drop (length (first_lines (b ∷ bs) 1)) (b ∷ bs)))) (split_first c cs)
    ∙ (ap (λ t. cond t (1 + same_lines (split_lines (drop (length (first_lines (b ∷ bs) 1)) (b ∷ bs))) (split_lines (drop (length (first_lines (c ∷ cs) 1)) (c ∷ cs)))) 0)
    ((bytes_eq-Decides (first_lines (b ∷ bs) 1) (first_lines (c ∷ cs) 1)).1 (sym e ∙ (g ∙ f)))
    ∙ (ap (λ x. 1 + same_lines (split_lines (drop (length x) (b ∷ bs))) (split_lines (drop (length (first_lines (c ∷ cs) 1)) (c ∷ cs)))) (sym e)
    ∙ ap (λ x. 1 + same_lines (split_lines (drop (length line) (b ∷ bs))) (split_lines (drop (length x) (c ∷ cs)))) (sym f))))

pub some_line : (left line : List ℕ) → 0 < length left → line ≡ first_lines left 1 → 0 < length line
some_line [] line l e = absurd (omega arith)
some_line (b ∷ bs) line l e = subst (λ x. 0 < length x) (sym e) (omega arith)

pub differ : (b r : Bool) → r ≡ not b → r ≡ true → b ≡ true → ⊥
differ b r e f g = false≢true (sym (e ∙ ap not g) ∙ f)

pub same_of : (x y : List ℕ) (r : Bool) → r ≡ not (bytes_eq x y) → r ≡ false → x ≡ y
same_of x y r e f = (bytes_eq-Decides x y).0 (flips (bytes_eq x y) e)
  where
    flips : (b : Bool) → r ≡ not b → b ≡ true
    flips true e = refl
    flips false e = absurd (true≢false (sym e ∙ f))
