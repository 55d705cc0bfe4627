-- Blocks are shown one after the other, each over the reference's block of its number. No block touches the samples
-- of another, so that each finds its own as they were, and all of them together are the decoded plane.
use Rattle.std.proofs.Common.{◌≡◌, ◌≢◌, ◌∙◌, sym, ap, refl, ℕ, ◌+◌, ◌*◌, ◌-◌, ◌/◌, ◌%◌, ◌<◌, ◌≤◌, inl, inr, List, [], ◌++◌, length, get_or, map, replicate, arith}
use Rattle.std.specs.Prelude.{ℤ, ◌⊎◌, Bool, true, false, not, min, nat_le}
use Rattle.std.proofs.lemmas.Bool.Decides.{nat_tests}
use Rattle.std.specs.List.{range_with_len}
use Rattle.std.proofs.lemmas.Nat.{mod-mul-add, div-mul-add, div-add-mod'}
use Rattle.std.proofs.Math.Nat.{mod-lt, div-lt_iff_lt-mul}
use Rattle.std.proofs.lemmas.Bool.{cases_eq}
use Rattle.std.proofs.lemmas.List.{get_or-map, get_or_append_left, get_or-append_right, get_or-replicate}
use Rattle.std.proofs.lemmas.List.FromFn.{length-range_with_len, get_or-range_with_len}
use Rattle.vc_defs.specs.Planes.{Block, blocks_across, block_count, padded_sample, block_of, samples_of, decoded_blocks, decoded_plane, plane_of}
use Rattle.vc_block.specs.Places.{block_number, place_in_block, IsBlockPlaced}
use Rattle.vc_block.proofs.BlockIsTaken.{entry_of_samples, length_of_samples, samples_are}
use Rattle.vc_plane.specs.Samples.{AreShown}
use Rattle.vc_coder.specs.Blocks.{block_with}

same_samples : (f g : ℕ → ℕ) (n : ℕ) → ((k : ℕ) → k < n → f k ≡ g k) → map f (range_with_len 0 n) ≡ map g (range_with_len 0 n)
same_samples f g n same = samples_are g n (map f (range_with_len 0 n)) (length_of_samples f n) (λ k h. entry_of_samples f n k h ∙ same k h)

div_below : (j w h : ℕ) → 0 < w → j < w * h → j / w < h
div_below j w h some lt = (div-lt_iff_lt-mul some).1 (grind arith)

-- A sample of the padded block of a number is a sample of that block of the plane.
sample_of_block : (width height number k : ℕ) → 0 < width → 0 < height → number < block_count width height → k < 64 →
    block_number width (min (8 * (number / blocks_across width) + k / 8) (height - 1) * width + min (8 * (number % blocks_across width) + k % 8) (width - 1)) ≡ number
sample_of_block width height number k w h inside hk =
    let some : 0 < blocks_across width = omega arith in
    let beside : number % blocks_across width < blocks_across width = mod-lt number some in
    let below : number / blocks_across width < blocks_across height = div_below number (blocks_across width) (blocks_across height) some inside in
    let column : min (8 * (number % blocks_across width) + k % 8) (width - 1) < width = omega arith in
    let e : (min (8 * (number / blocks_across width) + k / 8) (height - 1) * width + min (8 * (number % blocks_across width) + k % 8) (width - 1)) / width ≡ min (8 * (number / blocks_across width) + k / 8) (height - 1) =
    div-mul-add (min (8 * (number / blocks_across width) + k / 8) (height - 1)) width (min (8 * (number % blocks_across width) + k % 8) (width - 1)) column in
    let m : (min (8 * (number / blocks_across width) + k / 8) (height - 1) * width + min (8 * (number % blocks_across width) + k % 8) (width - 1)) % width ≡ min (8 * (number % blocks_across width) + k % 8) (width - 1) =
    mod-mul-add (min (8 * (number / blocks_across width) + k / 8) (height - 1)) width (min (8 * (number % blocks_across width) + k % 8) (width - 1)) column in
    let across : min (8 * (number / blocks_across width) + k / 8) (height - 1) / 8 ≡ number / blocks_across width = omega arith in
    let at : min (8 * (number % blocks_across width) + k % 8) (width - 1) / 8 ≡ number % blocks_across width = omega arith in
    rw (e, m, across, at) (div-add-mod' number (blocks_across width))

-- Two planes that agree in the samples of a block have the same padded block.
pub block_of_same : (a b : List ℕ) (width height number : ℕ) → 0 < width → 0 < height → number < block_count width height → ((j : ℕ) → block_number width j ≡ number → get_or a j 0 ≡ get_or b j 0) → block_of a width height number ≡ block_of b width height number
unfolding block_of
block_of_same a b width height number w h inside same =
    same_samples (λ k. padded_sample a width height (8 * (number % blocks_across width) + k % 8) (8 * (number / blocks_across width) + k / 8)) (λ k. padded_sample b width height (8 * (number % blocks_across width) + k % 8) (8 * (number / blocks_across width) + k / 8)) 64
    (λ k hk. same (min (8 * (number / blocks_across width) + k / 8) (height - 1) * width + min (8 * (number % blocks_across width) + k % 8) (width - 1)) (sample_of_block width height number k w h inside hk))

pub none_shown : (old : List ℕ) (width height from : ℕ) (b : Block) → AreShown old old width height from from b
none_shown old width height from b = record { shown = λ j h p q. absurd (omega arith); before = λ j h. refl; behind = λ j h. refl }

-- One block more is shown.
pub one_more_shown : (old now new : List ℕ) (width height from number : ℕ) (b : Block) (block : List ℕ) → 0 < width → 0 < height → number < block_count width height → from ≤ number →
    AreShown old now width height from number b → block ≡ samples_of b (block_of now width height number) → IsBlockPlaced now new width height number block →
    AreShown old new width height from (number + 1) b
one_more_shown old now new width height from number b block w h inside le so_far is placed =
    let same : block_of now width height number ≡ block_of old width height number = block_of_same now old width height number w h inside (λ j e. so_far.behind j (omega arith)) in
    record {
      shown = λ j hj p q.
          elim (cases_eq (block_number width j) number) [
            | inl e ↦
                placed.written j hj e ∙ ap (λ t. get_or t (place_in_block width j) 0) (is ∙ ap (λ r. samples_of b r) same)
                ∙ ap (λ n. get_or (samples_of b (block_of old width height n)) (place_in_block width j) 0) (sym e)
            | inr ne ↦ placed.kept j ne ∙ so_far.shown j hj p (omega arith)
          ];
      before = λ j p. let ne : block_number width j ≢ number = omega arith in placed.kept j ne ∙ so_far.before j p;
      behind = λ j p. let ne : block_number width j ≢ number = omega arith in placed.kept j ne ∙ so_far.behind j (omega arith);
    }

-- The first blocks of a plane are decoded, and the other samples are those of the reference.
pub record AreDecoded (blocks : List Block) (old now : List ℕ) (width height next : ℕ) : Type 0 where
  pub decoded : (j : ℕ) → j < width * height → block_number width j < next →
      get_or now j 0 ≡ get_or (samples_of (get_or blocks (block_number width j) (block_with false [])) (block_of old width height (block_number width j))) (place_in_block width j) 0
  pub behind : (j : ℕ) → next ≤ block_number width j → get_or now j 0 ≡ get_or old j 0

pub none_decoded : (blocks : List Block) (old : List ℕ) (width height : ℕ) → AreDecoded blocks old old width height 0
none_decoded blocks old width height = record { decoded = λ j h p. absurd (omega arith); behind = λ j h. refl }

-- the last blocks of a list
last_block : (blocks : List Block) (b d : Block) (next more n : ℕ) → length blocks ≡ next → next ≤ n → n < next + more → get_or (blocks ++ replicate more b) n d ≡ b
last_block blocks b d next more n long le lt = get_or-append_right blocks (replicate more b) next n d long le ∙ get_or-replicate more (n - next) b d (omega arith)

-- Some blocks more are decoded.
pub more_decoded : (blocks : List Block) (old now new : List ℕ) (width height next more last : ℕ) (b : Block) → 0 < width → 0 < height → last ≤ block_count width height → last ≡ next + more → length blocks ≡ next →
    AreDecoded blocks old now width height next → AreShown now new width height next last b →
    AreDecoded (blocks ++ replicate more b) old new width height last
more_decoded blocks old now new width height next more last b w h inside sum long so_far shown =
    record {
      decoded = λ j hj p. by_place j hj p (cases_le next (block_number width j));
      behind = λ j p. shown.behind j p ∙ so_far.behind j (omega arith);
    }
  where
    cases_le : (a b : ℕ) → (a ≤ b) ⊎ (b < a)
    cases_le a b = by_test (nat_le a b) refl
      where
        by_test : (t : Bool) → nat_le a b ≡ t → (a ≤ b) ⊎ (b < a)
        by_test true e = inl (grind (arith, nat_tests))
        by_test false e = inr (grind (arith, nat_tests))

    by_place : (j : ℕ) → j < width * height → block_number width j < last → (next ≤ block_number width j) ⊎ (block_number width j < next) →
        get_or new j 0 ≡ get_or (samples_of (get_or (blocks ++ replicate more b) (block_number width j) (block_with false [])) (block_of old width height (block_number width j))) (place_in_block width j) 0
    by_place j hj p (inl le) =
        let same : block_of now width height (block_number width j) ≡ block_of old width height (block_number width j) = block_of_same now old width height (block_number width j) w h (omega arith) (λ i e. so_far.behind i (omega arith)) in
        shown.shown j hj le p
        ∙ ap (λ t. get_or t (place_in_block width j) 0) (ap (λ r. samples_of b r) same)
        ∙ ap (λ x. get_or (samples_of x (block_of old width height (block_number width j))) (place_in_block width j) 0) (sym (last_block blocks b (block_with false []) next more (block_number width j) long le (omega arith)))
    by_place j hj p (inr lt) =
        shown.before j lt ∙ so_far.decoded j hj lt
        ∙ ap (λ x. get_or (samples_of x (block_of old width height (block_number width j))) (place_in_block width j) 0) (sym (get_or_append_left blocks (replicate more b) (block_with false []) (block_number width j) (omega (arith, long))))

entry_of_blocks : (f : ℕ → List ℕ) (n k : ℕ) → k < n → get_or (map f (range_with_len 0 n)) k [] ≡ f k
entry_of_blocks f n k h =
    let inside : k < length (range_with_len 0 n) = rw length-range_with_len h in
    get_or-map f (range_with_len 0 n) k 0 [] inside
    ∙ ap f (get_or-range_with_len 0 n k 0 h ∙ omega arith)

-- The block of each sample of a plane is one of its blocks.
number_inside : (width height j : ℕ) → 0 < width → j < width * height → block_number width j < block_count width height
number_inside width height j w hj =
    let row : j / width < height = div_below j width height w hj in
    let column : j % width < width = mod-lt j w in
    let down : j / width / 8 + 1 ≤ blocks_across height = omega arith in
    let beside : j % width / 8 < blocks_across width = omega arith in
    fits (j / width / 8) (j % width / 8) (blocks_across width) (blocks_across height) down beside
  where
    fits : (r c a d : ℕ) → r + 1 ≤ d → c < a → r * a + c < a * d
    fits r c a d hr hc =
        let le : (r + 1) * a ≤ d * a = grind arith in
        grind arith

-- A plane of which all blocks are decoded is the decoded plane.
pub all_decoded : (blocks : List Block) (old new : List ℕ) (width height : ℕ) → 0 < width → length new ≡ width * height → AreDecoded blocks old new width height (block_count width height) → new ≡ decoded_plane blocks old width height
unfolding decoded_plane decoded_blocks plane_of
all_decoded blocks old new width height w long done =
    samples_are (λ k. let column = k % width in let row = k / width in get_or (get_or (decoded_blocks blocks old width height) (row / 8 * blocks_across width + column / 8) []) (8 * (row % 8) + column % 8) 0) (width * height) new long
    (λ j hj.
    let inside : block_number width j < block_count width height = number_inside width height j w hj in
    done.decoded j hj inside
    ∙ ap (λ t. get_or t (place_in_block width j) 0) (sym (entry_of_blocks (λ number. samples_of (get_or blocks number (block_with false [])) (block_of old width height number)) (block_count width height) (block_number width j) inside)))

-- The next block of a plane is decoded.
pub next_decoded : (blocks : List Block) (old now new : List ℕ) (width height next : ℕ) (b : Block) → 0 < width → 0 < height → next < block_count width height → get_or blocks next (block_with false []) ≡ b →
    AreDecoded blocks old now width height next → AreShown now new width height next (next + 1) b → AreDecoded blocks old new width height (next + 1)
next_decoded blocks old now new width height next b w h inside block so_far shown =
    record {
      decoded = λ j hj p. by_place j hj p (cases_eq (block_number width j) next);
      behind = λ j p. shown.behind j p ∙ so_far.behind j (omega arith);
    }
  where
    same : block_of now width height next ≡ block_of old width height next
    same = block_of_same now old width height next w h inside (λ i e. so_far.behind i (omega arith))

    by_place : (j : ℕ) → j < width * height → block_number width j < next + 1 → (block_number width j ≡ next) ⊎ (block_number width j ≡ next → ⊥) →
        get_or new j 0 ≡ get_or (samples_of (get_or blocks (block_number width j) (block_with false [])) (block_of old width height (block_number width j))) (place_in_block width j) 0
    by_place j hj p (inl e) =
        shown.shown j hj (omega arith) p
        ∙ ap (λ n. get_or (samples_of b (block_of now width height n)) (place_in_block width j) 0) e
        ∙ ap (λ t. get_or t (place_in_block width j) 0) (ap (λ r. samples_of b r) same)
        ∙ ap (λ x. get_or (samples_of x (block_of old width height next)) (place_in_block width j) 0) (sym block)
        ∙ ap (λ n. get_or (samples_of (get_or blocks n (block_with false [])) (block_of old width height n)) (place_in_block width j) 0) (sym e)
    by_place j hj p (inr ne) = let lt : block_number width j < next = omega arith in shown.before j lt ∙ so_far.decoded j hj lt

-- The samples of an I block don't depend on the reference.
pub intra_samples : (values : List ℤ) (a b : List ℕ) → samples_of (block_with false values) a ≡ samples_of (block_with false values) b
unfolding samples_of
intra_samples values a b = refl
