-- Three stages in each column.
use Rattle.std.proofs.Common.{◌≡◌, ◌∙◌, sym, ap, refl, ℕ, ◌+◌, ◌*◌, ◌/◌, ◌%◌, ◌<◌, ◌≤◌, List, length, get_or, arith, inl, inr}
use Rattle.std.specs.Prelude.{ℤ, pos, neg_ℤ, ◌≤ℤ◌, ◌+ℤ◌, ◌-ℤ◌}
use Rattle.std.proofs.lemmas.Int.{ints}
use Rattle.std.proofs.lemmas.Bool.{cases_eq}
use Rattle.vc_fwht.specs.Passes.{stage}
use Rattle.vc_lanes.specs.Turning.{eight, column, row}

-- y is a stage of x
pub record IsStage (x y : List ℤ) : Type 0 where
  pub sum : (k : ℕ) → k < 32 → get_or y (2 * k) (pos 0) ≡ get_or x k (pos 0) +ℤ get_or x (k + 32) (pos 0)
  pub gap : (k : ℕ) → k < 32 → get_or y (2 * k + 1) (pos 0) ≡ get_or x k (pos 0) -ℤ get_or x (k + 32) (pos 0)

pub is_stage : (x y : List ℤ) → ((r c : ℕ) → r < 4 → c < 8 → get_or y (16 * r + 2 * c) (pos 0) ≡ get_or x (8 * r + c) (pos 0) +ℤ get_or x (8 * (r + 4) + c) (pos 0)) →
    ((r c : ℕ) → r < 4 → c < 8 → get_or y (16 * r + 2 * c + 1) (pos 0) ≡ get_or x (8 * r + c) (pos 0) -ℤ get_or x (8 * (r + 4) + c) (pos 0)) → IsStage x y
is_stage x y p q = record {
  sum = λ k h.
      let e : 2 * k ≡ 16 * (k / 8) + 2 * (k % 8) = omega arith in
      let f : 8 * (k / 8) + k % 8 ≡ k = omega arith in
      let g : 8 * (k / 8 + 4) + k % 8 ≡ k + 32 = omega arith in
      ap (λ j. get_or y j (pos 0)) e ∙ p (k / 8) (k % 8) (omega arith) (omega arith) ∙ ap (λ j. get_or x j (pos 0) +ℤ get_or x (8 * (k / 8 + 4) + k % 8) (pos 0)) f ∙ ap (λ j. get_or x k (pos 0) +ℤ get_or x j (pos 0)) g;
  gap = λ k h.
      let e : 2 * k + 1 ≡ 16 * (k / 8) + 2 * (k % 8) + 1 = omega arith in
      let f : 8 * (k / 8) + k % 8 ≡ k = omega arith in
      let g : 8 * (k / 8 + 4) + k % 8 ≡ k + 32 = omega arith in
      ap (λ j. get_or y j (pos 0)) e ∙ q (k / 8) (k % 8) (omega arith) (omega arith) ∙ ap (λ j. get_or x j (pos 0) -ℤ get_or x (8 * (k / 8 + 4) + k % 8) (pos 0)) f ∙ ap (λ j. get_or x k (pos 0) -ℤ get_or x j (pos 0)) g;
}

same_eight : (x : List ℤ) (a b c d e f g h a' b' c' d' e' f' g' h' : ℕ) → a ≡ a' → b ≡ b' → c ≡ c' → d ≡ d' → e ≡ e' → f ≡ f' → g ≡ g' → h ≡ h' → eight x a b c d e f g h ≡ eight x a' b' c' d' e' f' g' h'
same_eight x a b c d e f g h a' b' c' d' e' f' g' h' p0 p1 p2 p3 p4 p5 p6 p7 = cc

stage_of_eight : (x y : List ℤ) (a b c d : ℕ) → IsStage x y → a < 32 → b < 32 → c < 32 → d < 32 →
    eight y (2 * a) (2 * a + 1) (2 * b) (2 * b + 1) (2 * c) (2 * c + 1) (2 * d) (2 * d + 1) ≡ stage (eight x a b c d (a + 32) (b + 32) (c + 32) (d + 32))
stage_of_eight x y a b c d s ha hb hc hd = cc (s.sum a ha, s.gap a ha, s.sum b hb, s.gap b hb, s.sum c hc, s.gap c hc, s.sum d hd, s.gap d hd)

pub turned : (x a b y : List ℤ) → IsStage x a → IsStage a b → IsStage b y → (c : ℕ) → c < 8 → row y c ≡ stage (stage (stage (column x c)))
turned x a b y p q r c h =
    let first : eight a (2 * c) (2 * c + 1) (2 * (8 + c)) (2 * (8 + c) + 1) (2 * (16 + c)) (2 * (16 + c) + 1) (2 * (24 + c)) (2 * (24 + c) + 1) ≡ stage (column x c) =
    stage_of_eight x a c (8 + c) (16 + c) (24 + c) p (omega arith) (omega arith) (omega arith) (omega arith)
    ∙ ap stage (same_eight x c (8 + c) (16 + c) (24 + c) (c + 32) (8 + c + 32) (16 + c + 32) (24 + c + 32) c (8 + c) (16 + c) (24 + c) (32 + c) (40 + c) (48 + c) (56 + c) refl refl refl refl (omega arith) (omega arith) (omega arith) (omega arith)) in
    let second : eight b (2 * (2 * c)) (2 * (2 * c) + 1) (2 * (2 * c + 1)) (2 * (2 * c + 1) + 1) (2 * (2 * (8 + c))) (2 * (2 * (8 + c)) + 1) (2 * (2 * (8 + c) + 1)) (2 * (2 * (8 + c) + 1) + 1) ≡ stage (stage (column x c)) =
    stage_of_eight a b (2 * c) (2 * c + 1) (2 * (8 + c)) (2 * (8 + c) + 1) q (omega arith) (omega arith) (omega arith) (omega arith)
    ∙ ap stage (same_eight a (2 * c) (2 * c + 1) (2 * (8 + c)) (2 * (8 + c) + 1) (2 * c + 32) (2 * c + 1 + 32) (2 * (8 + c) + 32) (2 * (8 + c) + 1 + 32) (2 * c) (2 * c + 1) (2 * (8 + c))
    (2 * (8 + c) + 1) (2 * (16 + c)) (2 * (16 + c) + 1) (2 * (24 + c)) (2 * (24 + c) + 1) refl refl refl refl (omega arith) (omega arith) (omega arith) (omega arith) ∙ first) in
    same_eight y (8 * c) (8 * c + 1) (8 * c + 2) (8 * c + 3) (8 * c + 4) (8 * c + 5) (8 * c + 6) (8 * c + 7) (2 * (4 * c)) (2 * (4 * c) + 1) (2 * (4 * c + 1)) (2 * (4 * c + 1) + 1) (2 *
    (4 * c + 2)) (2 * (4 * c + 2) + 1) (2 * (4 * c + 3)) (2 * (4 * c + 3) + 1) (omega arith) (omega arith) (omega arith) (omega arith) (omega arith) (omega arith) (omega arith) (omega arith)
    ∙ stage_of_eight b y (4 * c) (4 * c + 1) (4 * c + 2) (4 * c + 3) r (omega arith) (omega arith) (omega arith) (omega arith)
    ∙ ap stage (same_eight b (4 * c) (4 * c + 1) (4 * c + 2) (4 * c + 3) (4 * c + 32) (4 * c + 1 + 32) (4 * c + 2 + 32) (4 * c + 3 + 32) (2 * (2 * c)) (2 * (2 * c) + 1) (2 * (2 * c + 1))
    (2 * (2 * c + 1) + 1) (2 * (2 * (8 + c))) (2 * (2 * (8 + c)) + 1) (2 * (2 * (8 + c) + 1)) (2 * (2 * (8 + c) + 1) + 1) (omega arith) (omega arith) (omega arith) (omega arith)
    (omega arith) (omega arith) (omega arith) (omega arith) ∙ second)

-- from -n to n
abbrev pub AreWithin : ℕ → List ℤ → Type 0
AreWithin n xs = (k : ℕ) → k < length xs → (neg_ℤ (pos n) ≤ℤ get_or xs k (pos 0)) × (get_or xs k (pos 0) ≤ℤ pos n)

-- A stage at most doubles the bound.
pub stage_doubles : (n : ℕ) (x y : List ℤ) → IsStage x y → length x ≡ 64 → length y ≡ 64 → AreWithin n x → AreWithin (2 * n) y
stage_doubles n x y s lx ly w k h =
    let p : (neg_ℤ (pos n) ≤ℤ get_or x (k / 2) (pos 0)) × (get_or x (k / 2) (pos 0) ≤ℤ pos n) = w (k / 2) (omega arith) in
    let q : (neg_ℤ (pos n) ≤ℤ get_or x (k / 2 + 32) (pos 0)) × (get_or x (k / 2 + 32) (pos 0) ≤ℤ pos n) = w (k / 2 + 32) (omega arith) in
    elim (cases_eq (k % 2) 0) [
      | inl e ↦
          let at : k ≡ 2 * (k / 2) = omega arith in
          rw (ap (λ j. get_or y j (pos 0)) at ∙ s.sum (k / 2) (omega arith)) (omega (arith, ints), omega (arith, ints))
      | inr ne ↦
          let at : k ≡ 2 * (k / 2) + 1 = omega arith in
          rw (ap (λ j. get_or y j (pos 0)) at ∙ s.gap (k / 2) (omega arith)) (omega (arith, ints), omega (arith, ints))
    ]

pub widened : (n m : ℕ) (xs : List ℤ) → n ≤ m → AreWithin n xs → AreWithin m xs
widened n m xs le w k h = let p : (neg_ℤ (pos n) ≤ℤ get_or xs k (pos 0)) × (get_or xs k (pos 0) ≤ℤ pos n) = w k h in (omega (arith, ints), omega (arith, ints))
