-- A block that is written into a plane stands there, and no other sample changes. Each sample of the plane has one
-- block and one place in it, so that a write of a place is a write of that sample alone.
use Rattle.std.proofs.Common.{◌≡◌, ◌≢◌, ◌∙◌, sym, ap, refl, ℕ, ◌+◌, ◌*◌, ◌-◌, ◌/◌, ◌%◌, ◌<◌, ◌≤◌, List, length, get_or, set, inl, inr, arith, get_or-set_same, get_or-set_other}
use Rattle.std.proofs.lemmas.Nat.{mod-mul-add, div-mul-add, mul-add-lt, div-add-mod'}
use Rattle.std.proofs.Math.Nat.{mod-lt, div-lt_iff_lt-mul}
use Rattle.std.proofs.lemmas.Bool.{cases_eq, cases_lt}
use Rattle.vc_defs.specs.Planes.{blocks_across}
use Rattle.vc_block.specs.Places.{block_number, place_in_block}

mod_below : (j w : ℕ) → 0 < w → j % w < w
mod_below j w h = mod-lt j h

-- the row of a sample of a plane
div_below : (j w h : ℕ) → 0 < w → j < w * h → j / w < h
div_below j w h some lt = (div-lt_iff_lt-mul some).1 (grind arith)

-- The block and the place of the sample at a column and a row.
pub number_at : (width number k column row : ℕ) → column < width → k < 64 → column ≡ 8 * (number % blocks_across width) + k % 8 → row ≡ 8 * (number / blocks_across width) + k / 8 → block_number width (row * width + column) ≡ number
number_at width number k column row hc hk c r =
    let e : (row * width + column) / width ≡ row = div-mul-add row width column hc in
    let m : (row * width + column) % width ≡ column = mod-mul-add row width column hc in
    let across : row / 8 ≡ number / blocks_across width = omega arith in
    let beside : column / 8 ≡ number % blocks_across width = omega arith in
    rw (e, m, across, beside) (div-add-mod' number (blocks_across width))

pub place_at : (width number k column row : ℕ) → column < width → k < 64 → column ≡ 8 * (number % blocks_across width) + k % 8 → row ≡ 8 * (number / blocks_across width) + k / 8 → place_in_block width (row * width + column) ≡ k
place_at width number k column row hc hk c r =
    let e : (row * width + column) / width ≡ row = div-mul-add row width column hc in
    let m : (row * width + column) % width ≡ column = mod-mul-add row width column hc in
    rw (e, m) (omega arith)

-- The column and the row of a sample, from its block and its place.
pub column_of_place : (width number k j : ℕ) → 0 < width → block_number width j ≡ number → place_in_block width j ≡ k → j % width ≡ 8 * (number % blocks_across width) + k % 8
column_of_place width number k j some b p =
    let inside : j % width < width = mod_below j width some in
    let beside : j % width / 8 < blocks_across width = omega arith in
    let e : number % blocks_across width ≡ j % width / 8 = ap (λ n. n % blocks_across width) (sym b) ∙ mod-mul-add (j / width / 8) (blocks_across width) (j % width / 8) beside in
    omega arith

pub row_of_place : (width number k j : ℕ) → 0 < width → block_number width j ≡ number → place_in_block width j ≡ k → j / width ≡ 8 * (number / blocks_across width) + k / 8
row_of_place width number k j some b p =
    let inside : j % width < width = mod_below j width some in
    let beside : j % width / 8 < blocks_across width = omega arith in
    let e : number / blocks_across width ≡ j / width / 8 = ap (λ n. n / blocks_across width) (sym b) ∙ div-mul-add (j / width / 8) (blocks_across width) (j % width / 8) beside in
    omega arith

pub sample_is : (width j : ℕ) → j ≡ j / width * width + j % width
sample_is width j = sym (div-add-mod' j width)

pub written_more : (plane : List ℕ) (block : List ℕ) (width height number k column row v : ℕ) → 0 < width → length plane ≡ width * height → column < width → row < height → k < 64 → column ≡ 8 * (number % blocks_across width) + k % 8 →
    row ≡ 8 * (number / blocks_across width) + k / 8 → v ≡ get_or block k 0 →
    ((j : ℕ) → j < width * height → block_number width j ≡ number → place_in_block width j < k → get_or plane j 0 ≡ get_or block (place_in_block width j) 0) →
    (j : ℕ) → j < width * height → block_number width j ≡ number → place_in_block width j < k + 1 → get_or (set plane (row * width + column) v) j 0 ≡ get_or block (place_in_block width j) 0
written_more plane block width height number k column row v some long hc hr hk c r is before j hj b p =
    elim (cases_eq j (row * width + column)) [
      | inl e ↦
          let inside : row * width + column < length plane = omega (arith, mul-add-lt row width column height hr hc) in
          ap (λ i. get_or (set plane (row * width + column) v) i 0) e ∙ get_or-set_same plane (row * width + column) v 0 inside ∙ is
          ∙ ap (λ i. get_or block i 0) (sym (place_at width number k column row hc hk c r) ∙ ap (λ i. place_in_block width i) (sym e))
      | inr ne ↦
          let apart : place_in_block width j ≢ k = λ e.
          ne (sample_is width j ∙ ap (λ i. i * width + j % width) (row_of_place width number k j some b e ∙ sym r) ∙ ap (λ i. row * width + i) (column_of_place width number k j some b e ∙ sym c)) in
          get_or-set_other plane (row * width + column) j v 0 ne ∙ before j hj b (omega arith)
    ]

pub kept_more : (plane old : List ℕ) (width number k column row v : ℕ) → column < width → k < 64 → column ≡ 8 * (number % blocks_across width) + k % 8 → row ≡ 8 * (number / blocks_across width) + k / 8 →
    ((j : ℕ) → block_number width j ≢ number → get_or plane j 0 ≡ get_or old j 0) →
    (j : ℕ) → block_number width j ≢ number → get_or (set plane (row * width + column) v) j 0 ≡ get_or old j 0
kept_more plane old width number k column row v hc hk c r before j ne =
    let apart : j ≢ row * width + column = λ e. ne (ap (λ i. block_number width i) e ∙ number_at width number k column row hc hk c r) in
    get_or-set_other plane (row * width + column) j v 0 apart ∙ before j ne

-- A sample outside the plane is none of the plane's.
pub written_same : (plane block : List ℕ) (width height number k : ℕ) → 0 < width → ((8 * (number % blocks_across width) + k % 8 < width) → (8 * (number / blocks_across width) + k / 8 < height) → ⊥) →
    ((j : ℕ) → j < width * height → block_number width j ≡ number → place_in_block width j < k → get_or plane j 0 ≡ get_or block (place_in_block width j) 0) →
    (j : ℕ) → j < width * height → block_number width j ≡ number → place_in_block width j < k + 1 → get_or plane j 0 ≡ get_or block (place_in_block width j) 0
written_same plane block width height number k some outside before j hj b p =
    elim (cases_eq (place_in_block width j) k) [
      | inl e ↦
          let column : 8 * (number % blocks_across width) + k % 8 < width = rw (sym (column_of_place width number k j some b e)) (mod_below j width some) in
          let row : 8 * (number / blocks_across width) + k / 8 < height = rw (sym (row_of_place width number k j some b e)) (div_below j width height some hj) in
          absurd (outside column row)
      | inr ne ↦ before j hj b (omega arith)
    ]

-- A row of a block is placed: the samples from one place on are now those of the row, and all others are as before.
pub row_written : (before after block : List ℕ) (width height number row at : ℕ) → 0 < width → 8 * (number % blocks_across width) + 8 ≤ width → row < 8 → at ≡ (8 * (number / blocks_across width) + row) * width + 8 * (number % blocks_across width) →
    ((k : ℕ) → k < 8 → get_or after (at + k) 0 ≡ get_or block (8 * row + k) 0) →
    ((j : ℕ) → j < at → get_or after j 0 ≡ get_or before j 0) → ((j : ℕ) → at + 8 ≤ j → get_or after j 0 ≡ get_or before j 0) →
    ((j : ℕ) → j < width * height → block_number width j ≡ number → place_in_block width j < 8 * row → get_or before j 0 ≡ get_or block (place_in_block width j) 0) →
    (j : ℕ) → j < width * height → block_number width j ≡ number → place_in_block width j < 8 * (row + 1) → get_or after j 0 ≡ get_or block (place_in_block width j) 0
row_written before after block width height number row at some inside hr a copied front back so_far j hj b p =
    elim (cases_lt j at) [
      | inl lt ↦ front j lt ∙ so_far j hj b (earlier (λ le. let q = here le in omega (arith, lt, q)))
      | inr le ↦
          elim (cases_lt j (at + 8)) [
            | inl lt ↦
                let is : j ≡ at + (j - at) = omega arith in
                let place : place_in_block width j ≡ 8 * row + (j - at) = ap (λ i. place_in_block width i) (is ∙ shifted (j - at)) ∙ place_at width number (8 * row + (j - at)) (8 * (number % blocks_across width) + (j - at)) (8 * (number / blocks_across width) + row) (omega arith)
                (omega arith) (omega arith) (omega arith) in
                ap (λ i. get_or after i 0) is ∙ copied (j - at) (omega arith) ∙ ap (λ i. get_or block i 0) (sym place)
            | inr far ↦ back j far ∙ so_far j hj b (earlier (λ le'. let q = here le' in omega (arith, far, q)))
          ]
    ]
  where
    shifted : (m : ℕ) → at + m ≡ (8 * (number / blocks_across width) + row) * width + (8 * (number % blocks_across width) + m)
    shifted m = omega (arith, a)

    here : 8 * row ≤ place_in_block width j → (at ≤ j) × (j < at + 8)
    here le =
        let k : place_in_block width j / 8 ≡ row = omega arith in
        let r : j / width ≡ 8 * (number / blocks_across width) + row = row_of_place width number (place_in_block width j) j some b refl ∙ ap (λ n. 8 * (number / blocks_across width) + n) k in
        let c : j % width ≡ 8 * (number % blocks_across width) + place_in_block width j % 8 = column_of_place width number (place_in_block width j) j some b refl in
        let e : j ≡ (8 * (number / blocks_across width) + row) * width + (8 * (number % blocks_across width) + place_in_block width j % 8) = sample_is width j ∙ ap (λ n. n * width + j % width) r ∙ ap (λ n. (8 * (number / blocks_across width) + row) * width + n) c in
        let e' : j ≡ at + place_in_block width j % 8 = e ∙ sym (shifted (place_in_block width j % 8)) in
        (omega arith, omega arith)

    earlier : (8 * row ≤ place_in_block width j → ⊥) → place_in_block width j < 8 * row
    earlier no_later =
        elim (cases_lt (place_in_block width j) (8 * row)) [
          | inl lt ↦ lt
          | inr le ↦ absurd (no_later le)
        ]

pub row_kept : (before after old : List ℕ) (width number row at : ℕ) → 8 * (number % blocks_across width) + 8 ≤ width → row < 8 → at ≡ (8 * (number / blocks_across width) + row) * width + 8 * (number % blocks_across width) →
    ((j : ℕ) → j < at → get_or after j 0 ≡ get_or before j 0) → ((j : ℕ) → at + 8 ≤ j → get_or after j 0 ≡ get_or before j 0) →
    ((j : ℕ) → block_number width j ≢ number → get_or before j 0 ≡ get_or old j 0) →
    (j : ℕ) → block_number width j ≢ number → get_or after j 0 ≡ get_or old j 0
row_kept before after old width number row at inside hr a front back so_far j ne =
    elim (cases_lt j at) [
      | inl lt ↦ front j lt ∙ so_far j ne
      | inr le ↦
          elim (cases_lt j (at + 8)) [
            | inl lt ↦
                let is : j ≡ (8 * (number / blocks_across width) + row) * width + (8 * (number % blocks_across width) + (j - at)) = omega (arith, a, le) in
                absurd (ne (ap (λ i. block_number width i) is ∙ number_at width number (8 * row + (j - at)) (8 * (number % blocks_across width) + (j - at)) (8 * (number / blocks_across width) + row) (omega arith) (omega arith) (omega arith) (omega arith)))
            | inr far ↦ back j far ∙ so_far j ne
          ]
    ]
