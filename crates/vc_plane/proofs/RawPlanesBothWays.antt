-- Raw storage has the samples of the padded plane by rows. A row of it begins with the samples of a row of the plane,
-- so that to leave the padding out gives the plane again.
use Rattle.std.proofs.Common.{◌≡◌, ◌∙◌, sym, ap, ℕ, ◌+◌, ◌*◌, ◌-◌, ◌/◌, ◌%◌, ◌<◌, ◌≤◌, inl, inr, List, length, take, drop, get_or, arith}
use Rattle.std.specs.Prelude.{Bool, true, false, ◌&&◌, nat_le, nat_lt}
use Rattle.std.specs.List.{list_all, range_with_len}
use Rattle.std.specs.declared.option.Option.TheVariants.{Some, None}
use Rattle.std.proofs.lemmas.Nat.{mod-mul-add, div-mul-add}
use Rattle.std.proofs.lemmas.Bool.{cases_lt, cond-true, cond-false, and_from, and_left, and_right}
use Rattle.std.proofs.lemmas.Bool.Decides.{nat_tests}
use Rattle.std.proofs.lemmas.Simd.{map-map}
use Rattle.vc_defs.specs.Planes.{padded, padded_sample, padded_plane, raw_sample, raw_plane, blocks_across, block_count, unpadded}
use Rattle.vc_defs.specs.Bodies.{plane_from}
use Rattle.vc_block.proofs.BlockIsTaken.{samples_are}

-- One row more is filled.
pub row_filled : (f : ℕ → ℕ → ℕ) (before after : List ℕ) (w row : ℕ) → ((k : ℕ) → k < w → get_or after (row * w + k) 0 ≡ f row k) → ((j : ℕ) → j < row * w → get_or after j 0 ≡ get_or before j 0) →
    ((j : ℕ) → j < row * w → get_or before j 0 ≡ f (j / w) (j % w)) →
    (j : ℕ) → j < (row + 1) * w → get_or after j 0 ≡ f (j / w) (j % w)
row_filled f before after w row here kept so_far j hj =
    elim (cases_lt j (row * w)) [
      | inl lt ↦ kept j lt ∙ so_far j lt
      | inr le ↦
          let one : (row + 1) * w ≡ row * w + w = omega arith in
          let is : j ≡ row * w + (j - row * w) = omega arith in
          let k : j - row * w < w = omega arith in
          let row_is : j / w ≡ row = ap (λ n. n / w) is ∙ div-mul-add row w (j - row * w) k in
          let column_is : j % w ≡ j - row * w = ap (λ n. n % w) is ∙ mod-mul-add row w (j - row * w) k in
          ap (λ n. get_or after n 0) is ∙ here (j - row * w) k ∙ ap (λ r. f r (j - row * w)) (sym row_is) ∙ ap (λ n. f (j / w) n) (sym column_is)
    ]

-- One row more is copied.
pub row_more : (bytes before after : List ℕ) (w p row : ℕ) → 0 < w → ((k : ℕ) → k < w → get_or after (row * w + k) 0 ≡ get_or bytes (row * p + k) 0) → ((j : ℕ) → j < row * w → get_or after j 0 ≡ get_or before j 0) →
    ((j : ℕ) → j < row * w → get_or before j 0 ≡ get_or bytes (j / w * p + j % w) 0) →
    (j : ℕ) → j < (row + 1) * w → get_or after j 0 ≡ get_or bytes (j / w * p + j % w) 0
row_more bytes before after w p row some copied kept so_far j hj = row_filled (λ r k. get_or bytes (r * p + k) 0) before after w row copied kept so_far j hj

-- a row of a plane lies inside it
pub row_inside : (row w h : ℕ) → row < h → row * w + w ≤ w * h
row_inside row w h lt =
    let le : (row + 1) * w ≤ h * w = grind arith in
    omega (arith, le)

-- The samples of the padded plane, by rows.
pub raw_plane_is : (plane new : List ℕ) (width height : ℕ) → length new ≡ padded width * padded height → ((j : ℕ) → j < padded height * padded width → get_or new j 0 ≡ raw_sample (padded_sample plane width height (j % padded width) (j / padded width))) → new ≡ raw_plane plane width height
unfolding padded_plane
raw_plane_is plane new width height long stored =
    samples_are (λ k. raw_sample (padded_sample plane width height (k % padded width) (k / padded width))) (padded width * padded height) new long (λ k h. stored k (omega arith))
    ∙ sym (map-map raw_sample (λ k. padded_sample plane width height (k % padded width) (k / padded width)) (range_with_len 0 (padded width * padded height)))

pub unpadded_is : (bytes new : List ℕ) (width height : ℕ) → length new ≡ width * height → ((j : ℕ) → j < height * width → get_or new j 0 ≡ get_or bytes (j / width * padded width + j % width) 0) → new ≡ unpadded bytes width height
unfolding unpadded
unpadded_is bytes new width height long copied =
    samples_are (λ k. get_or bytes (k / width * padded width + k % width) 0) (width * height) new long (λ k h. copied k (omega arith))

-- The padded plane has 64 samples a block.
pub padded_size : (width height : ℕ) → padded width * padded height ≡ 64 * block_count width height
padded_size width height =
    let a : blocks_across width ≡ (width + 7) / 8 = omega arith in
    let b : blocks_across height ≡ (height + 7) / 8 = omega arith in
    product ((width + 7) / 8) ((height + 7) / 8) ∙ ap (λ n. 64 * (n * ((height + 7) / 8))) (sym a) ∙ ap (λ n. 64 * (blocks_across width * n)) (sym b)
  where
    product : (m n : ℕ) → 8 * m * (8 * n) ≡ 64 * (m * n)
    product m n = omega arith

pub raw_too_short : (frame : Bool) (old bytes : List ℕ) (width height : ℕ) → length bytes < padded width * padded height → plane_from true frame old width height bytes ≡ None
raw_too_short frame old bytes width height h =
    let short : nat_le (padded width * padded height) (length bytes) ≡ false = grind (arith, nat_tests) in
    cond-false (nat_le (padded width * padded height) (length bytes) && list_all (λ b. nat_lt b 255) (take (padded width * padded height) bytes))
    (Some (unpadded (take (padded width * padded height) bytes) width height, drop (padded width * padded height) bytes)) None
    (and_left (nat_le (padded width * padded height) (length bytes)) (list_all (λ b. nat_lt b 255) (take (padded width * padded height) bytes)) short)

pub raw_not_samples : (frame : Bool) (old bytes : List ℕ) (width height : ℕ) → list_all (λ b. nat_lt b 255) (take (padded width * padded height) bytes) ≡ false → plane_from true frame old width height bytes ≡ None
raw_not_samples frame old bytes width height h =
    cond-false (nat_le (padded width * padded height) (length bytes) && list_all (λ b. nat_lt b 255) (take (padded width * padded height) bytes))
    (Some (unpadded (take (padded width * padded height) bytes) width height, drop (padded width * padded height) bytes)) None
    (and_right (nat_le (padded width * padded height) (length bytes)) (list_all (λ b. nat_lt b 255) (take (padded width * padded height) bytes)) h)

pub raw_read : (frame : Bool) (old new bytes : List ℕ) (width height : ℕ) → padded width * padded height ≤ length bytes → list_all (λ b. nat_lt b 255) (take (padded width * padded height) bytes) ≡ true →
    new ≡ unpadded (take (padded width * padded height) bytes) width height → plane_from true frame old width height bytes ≡ Some (new, drop (padded width * padded height) bytes)
raw_read frame old new bytes width height le samples is =
    let long : nat_le (padded width * padded height) (length bytes) ≡ true = grind (arith, nat_tests) in
    cond-true (nat_le (padded width * padded height) (length bytes) && list_all (λ b. nat_lt b 255) (take (padded width * padded height) bytes))
    (Some (unpadded (take (padded width * padded height) bytes) width height, drop (padded width * padded height) bytes)) None
    (and_from (nat_le (padded width * padded height) (length bytes)) (list_all (λ b. nat_lt b 255) (take (padded width * padded height) bytes)) long samples)
    ∙ ap (λ t. Some (t, drop (padded width * padded height) bytes)) (sym is)
