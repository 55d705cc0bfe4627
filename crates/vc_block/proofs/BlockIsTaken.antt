-- Lists of samples that are filled by a function of the place. A list of the right length that has the right sample
-- at each place is the list of the definition.
use Rattle.std.proofs.Common.{◌≡◌, ◌∙◌, sym, ap, ℕ, ◌+◌, ◌*◌, ◌-◌, ◌/◌, ◌%◌, ◌<◌, ◌≤◌, inl, inr, List, length, get_or, map, arith}
use Rattle.std.specs.Prelude.{min}
use Rattle.std.specs.List.{range_with_len}
use Rattle.std.proofs.lemmas.List.{ext_get_or, get_or-map, length-map}
use Rattle.std.proofs.lemmas.Bool.{cases_lt}
use Rattle.std.proofs.lemmas.List.FromFn.{length-range_with_len, get_or-range_with_len}
use Rattle.vc_defs.specs.Planes.{padded_sample}

pub entry_of_samples : (f : ℕ → ℕ) (n k : ℕ) → k < n → get_or (map f (range_with_len 0 n)) k 0 ≡ f k
entry_of_samples f n k h =
    let inside : k < length (range_with_len 0 n) = rw length-range_with_len h in
    get_or-map f (range_with_len 0 n) k 0 0 inside
    ∙ ap f (get_or-range_with_len 0 n k 0 h ∙ omega arith)

pub length_of_samples : (f : ℕ → ℕ) (n : ℕ) → length (map f (range_with_len 0 n)) ≡ n
length_of_samples f n = length-map (range_with_len 0 n) f ∙ length-range_with_len 0 n

pub samples_are : (f : ℕ → ℕ) (n : ℕ) (xs : List ℕ) → length xs ≡ n → ((k : ℕ) → k < n → get_or xs k 0 ≡ f k) → xs ≡ map f (range_with_len 0 n)
samples_are f n xs long filled =
    ext_get_or 0 xs (map f (range_with_len 0 n)) (long ∙ sym (length_of_samples f n))
    (λ k h. let h' : k < n = omega arith in filled k h' ∙ sym (entry_of_samples f n k h'))

-- A column and a row inside a plane are a place of it.
pub place_inside : (width height column row : ℕ) → column < width → row < height → row * width + column < width * height
place_inside width height column row hc hr =
    let e : (row + 1) * width ≤ height * width = mul_le (row + 1) height width (omega arith) in
    grind arith
  where
    mul_le : (a b c : ℕ) → a ≤ b → a * c ≤ b * c
    mul_le a b c h = grind arith

-- One row more of a block inside a plane is taken.
pub row_taken : (plane before after : List ℕ) (width height left top row : ℕ) → left + 8 ≤ width → top + 8 ≤ height → row < 8 →
    ((k : ℕ) → k < 8 → get_or after (8 * row + k) 0 ≡ get_or plane ((top + row) * width + left + k) 0) →
    ((j : ℕ) → j < 8 * row → get_or after j 0 ≡ get_or before j 0) →
    ((k : ℕ) → k < 8 * row → get_or before k 0 ≡ padded_sample plane width height (left + k % 8) (top + k / 8)) →
    (k : ℕ) → k < 8 * (row + 1) → get_or after k 0 ≡ padded_sample plane width height (left + k % 8) (top + k / 8)
row_taken plane before after width height left top row wide high hr copied front so_far k hk =
    elim (cases_lt k (8 * row)) [
      | inl lt ↦ front k lt ∙ so_far k lt
      | inr le ↦
          let is : k ≡ 8 * row + (k - 8 * row) = omega arith in
          let r : k / 8 ≡ row = omega arith in
          let c : k % 8 ≡ k - 8 * row = omega arith in
          let line : min (top + k / 8) (height - 1) ≡ top + row = grind arith in
          let place : min (left + k % 8) (width - 1) ≡ left + (k - 8 * row) = grind arith in
          let at : (top + row) * width + left + (k - 8 * row) ≡ (top + row) * width + (left + (k - 8 * row)) = omega arith in
          ap (λ i. get_or after i 0) is ∙ copied (k - 8 * row) (omega arith) ∙ ap (λ i. get_or plane i 0) at
          ∙ ap (λ i. get_or plane (i * width + (left + (k - 8 * row))) 0) (sym line) ∙ ap (λ i. get_or plane (min (top + k / 8) (height - 1) * width + i) 0) (sym place)
    ]

-- A row of a block inside a plane lies in the plane.
pub row_in_plane : (width height left line : ℕ) → left + 8 ≤ width → line < height → line * width + left + 8 ≤ width * height
row_in_plane width height left line wide high = omega (arith, place_inside width height (left + 7) line (omega arith) high)
