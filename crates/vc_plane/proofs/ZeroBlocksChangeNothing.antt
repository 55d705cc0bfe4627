-- P blocks whose values are all zero leave the reference as it is. Their inverse transform is zero at every place,
-- and a sample plus zero, brought into its range, is that sample.
use Rattle.std.proofs.Common.{◌≡◌, ◌∙◌, sym, ap, refl, ℕ, ◌+◌, ◌*◌, ◌-◌, ◌/◌, ◌%◌, ◌<◌, List, get_or, arith}
use Rattle.std.specs.Prelude.{ℤ, pos, ◌+ℤ◌, true, false, min}
use Rattle.std.specs.Int.{int_shr}
use mir.Val.{Fits}
use mir.Syntax.{w8}
use Rattle.std.proofs.lemmas.Int.{ints}
use Rattle.std.proofs.lemmas.Nat.{mod-mul-add, div-mul-add, div-add-mod'}
use Rattle.std.proofs.Math.Nat.{mod-lt, div-lt_iff_lt-mul}
use Rattle.vc_defs.specs.Walsh.{transformed}
use Rattle.vc_defs.specs.Quantiser.{dequantised}
use Rattle.vc_defs.specs.Planes.{blocks_across, padded_sample, block_of, base_of, clamped, samples_of}
use Rattle.vc_block.specs.Places.{block_number, place_in_block}
use Rattle.vc_block.proofs.BlockIsTaken.{entry_of_samples}
use Rattle.vc_coder.specs.Blocks.{block_with}
use Rattle.vc_coder.proofs.FlatBlocksAreUniform.{zeros_are}
use Rattle.vc_plane.specs.Samples.{AreShown}

div_below : (j w h : ℕ) → 0 < w → j < w * h → j / w < h
div_below j w h some lt = (div-lt_iff_lt-mul some).1 (grind arith)

-- A sample of a plane is the one at its place in its block.
sample_in_block : (old : List ℕ) (width height j : ℕ) → 0 < width → j < width * height → get_or (block_of old width height (block_number width j)) (place_in_block width j) 0 ≡ get_or old j 0
unfolding block_of
sample_in_block old width height j w hj =
    let column : j % width < width = mod-lt j w in
    let row : j / width < height = div_below j width height w hj in
    let beside : j % width / 8 < blocks_across width = omega arith in
    let m : block_number width j % blocks_across width ≡ j % width / 8 = mod-mul-add (j / width / 8) (blocks_across width) (j % width / 8) beside in
    let d : block_number width j / blocks_across width ≡ j / width / 8 = div-mul-add (j / width / 8) (blocks_across width) (j % width / 8) beside in
    let at : place_in_block width j < 64 = omega arith in
    let c : min (8 * (block_number width j % blocks_across width) + place_in_block width j % 8) (width - 1) ≡ j % width = omega (arith, m, column) in
    let r : min (8 * (block_number width j / blocks_across width) + place_in_block width j / 8) (height - 1) ≡ j / width = omega (arith, d, row) in
    entry_of_samples (λ k. padded_sample old width height (8 * (block_number width j % blocks_across width) + k % 8) (8 * (block_number width j / blocks_across width) + k / 8)) 64 (place_in_block width j) at
    ∙ ap (λ x. get_or old (min (8 * (block_number width j / blocks_across width) + place_in_block width j / 8) (height - 1) * width + x) 0) c
    ∙ ap (λ y. get_or old (y * width + j % width) 0) r
    ∙ ap (λ n. get_or old n 0) (div-add-mod' j width)

same_sample : (y : ℤ) (n : ℕ) → y ≡ pos 0 → n < 256 → clamped (int_shr y 6 +ℤ pos n) ≡ n
same_sample y n e h =
    let sum : int_shr (pos 0) 6 +ℤ pos n ≡ pos n = omega (arith, ints) in
    ap (λ z. clamped (int_shr z 6 +ℤ pos n)) e ∙ ap clamped sum ∙ small n h
  where
    small : (n : ℕ) → n < 256 → min n 255 ≡ n
    small n h = omega arith

pub unchanged_shown : (old : List ℕ) (width height from to : ℕ) (values : List ℤ) → 0 < width → ((i : ℕ) → Fits w8 (get_or old i 0)) → ((k : ℕ) → k < 64 → get_or values k (pos 0) ≡ pos 0) →
    AreShown old old width height from to (block_with true values)
unfolding samples_of
unchanged_shown old width height from to values w bytes none =
    record {
      shown = λ j hj p q.
          let y : List ℤ = transformed (dequantised values false) in
          let at : place_in_block width j < 64 = omega arith in
          let f : Fits w8 (get_or old j 0) = bytes j in
          sym (
          entry_of_samples (λ k. clamped (int_shr (get_or y k (pos 0)) 6 +ℤ base_of true (block_of old width height (block_number width j)) k)) 64 (place_in_block width j) at
          ∙ ap (λ n. clamped (int_shr (get_or y (place_in_block width j) (pos 0)) 6 +ℤ pos n)) (sample_in_block old width height j w hj)
          ∙ same_sample (get_or y (place_in_block width j) (pos 0)) (get_or old j 0) (zeros_are values false none (place_in_block width j) at) f.fits
          );
      before = λ j p. refl;
      behind = λ j p. refl;
    }
