-- The planes that a legal body gives are a picture: each has the size that the header says, and each sample is from 0
-- to 255. Raw samples are bytes, and decoded ones are clamped; unpadding leaves the size of the plane.
use Rattle.std.proofs.Common.{◌≡◌, ◌∙◌, sym, ap, refl, subst, ℕ, suc, zero, ◌+◌, ◌*◌, ◌/◌, ◌%◌, ◌<◌, inl, inr, List, [], ◌∷◌, length, take, drop, get_or, map, arith}
use Rattle.std.specs.Prelude.{ℤ, pos, negsuc, ◌+ℤ◌, Bool, true, false, ◌&&◌, not, nat_le, nat_lt}
use Rattle.std.specs.List.{range_with_len, list_all, All}
use Rattle.std.specs.Int.{int_shr}
use Rattle.std.specs.declared.option.Option.{Option}
use Rattle.std.specs.declared.option.Option.TheVariants.{Some, None}
use Rattle.std.proofs.lemmas.Option.{none-some}
use Rattle.std.proofs.lemmas.Bool.{and_parts}
use Rattle.std.proofs.lemmas.List.FromFn.{length-map-range_with_len}
use Rattle.std.proofs.lemmas.List.Elements.{All-head, All-tail, All-nil, All-cons}
use Rattle.vc_defs.specs.Walsh.{transformed}
use Rattle.vc_defs.specs.Quantiser.{dequantised}
use Rattle.vc_defs.specs.Planes.{Block, padded, blocks_across, block_count, block_of, plane_of, clamped, base_of, samples_of, decoded_blocks, decoded_plane, unpadded, blocks_from}
use Rattle.vc_defs.specs.Bodies.{plane_shapes, plane_from, planes_from, decoded_from, body_planes}
use Rattle.vc_defs.specs.Laws.{DecodedIsPicture}
use Rattle.vc_defs.proofs.BlocksAreRead.{chosen, some_same}
use Rattle.vc_defs.proofs.BodiesAreRead.{all_below, complete_says, went}

-- all are samples
abbrev pub AreSamples : List ℕ → Type 0
AreSamples xs = All (λ s. s < 256) xs

-- what holds of each value of a function holds of all of a list that it makes
pub all_made : {A B : Type 0} (P : B → Type 0) (f : A → B) (xs : List A) → ((x : A) → P (f x)) → All P (map f xs)
all_made P f [] h = All-nil P
all_made P f (x ∷ xs) h = All-cons P (f x) (map f xs) (h x) (all_made P f xs h)

-- an entry of a list, or what stands for one behind its end
pub all_entry : {A : Type 0} (P : A → Type 0) (xs : List A) (k : ℕ) (d : A) → P d → All P xs → P (get_or xs k d)
all_entry P [] k d p h = p
all_entry P (x ∷ xs) zero d p h = All-head P x xs h
all_entry P (x ∷ xs) (suc k) d p h = all_entry P xs k d p (All-tail P x xs h)

pub all_weaker : {A : Type 0} (P Q : A → Type 0) (xs : List A) → ((x : A) → P x → Q x) → All P xs → All Q xs
all_weaker P Q [] f h = All-nil Q
all_weaker P Q (x ∷ xs) f h = All-cons Q x xs (f x (All-head P x xs h)) (all_weaker P Q xs f (All-tail P x xs h))

clamped_small : (z : ℤ) → clamped z < 256
clamped_small (pos n) = omega arith
clamped_small (negsuc n) = omega arith

pub samples_small : (b : Block) (reference : List ℕ) → AreSamples (samples_of b reference)
unfolding samples_of
samples_small b reference =
    all_made (λ s. s < 256) (λ k. clamped (int_shr (get_or (transformed (dequantised b.values (not b.inter))) k (pos 0)) 6 +ℤ base_of b.inter reference k)) (range_with_len 0 64)
    (λ k. clamped_small (int_shr (get_or (transformed (dequantised b.values (not b.inter))) k (pos 0)) 6 +ℤ base_of b.inter reference k))

pub length-plane_of : (blocks : List (List ℕ)) (width height : ℕ) → length (plane_of blocks width height) ≡ width * height
unfolding plane_of
length-plane_of blocks width height =
    length-map-range_with_len (λ k. get_or (get_or blocks (k / width / 8 * blocks_across width + k % width / 8) []) (8 * (k / width % 8) + k % width % 8) 0) 0 (width * height)

plane_of_small : (blocks : List (List ℕ)) (width height : ℕ) → All AreSamples blocks → AreSamples (plane_of blocks width height)
unfolding plane_of
plane_of_small blocks width height h =
    all_made (λ s. s < 256) (λ k. get_or (get_or blocks (k / width / 8 * blocks_across width + k % width / 8) []) (8 * (k / width % 8) + k % width % 8) 0) (range_with_len 0 (width * height))
    (λ k.
    all_entry (λ s. s < 256) (get_or blocks (k / width / 8 * blocks_across width + k % width / 8) []) (8 * (k / width % 8) + k % width % 8) 0 (omega arith)
    (all_entry AreSamples blocks (k / width / 8 * blocks_across width + k % width / 8) [] (All-nil (λ s. s < 256)) h))

pub length-decoded_plane : (blocks : List Block) (reference : List ℕ) (width height : ℕ) → length (decoded_plane blocks reference width height) ≡ width * height
unfolding decoded_plane
length-decoded_plane blocks reference width height = length-plane_of (decoded_blocks blocks reference width height) width height

pub decoded_small : (blocks : List Block) (reference : List ℕ) (width height : ℕ) → AreSamples (decoded_plane blocks reference width height)
unfolding decoded_plane decoded_blocks
decoded_small blocks reference width height =
    plane_of_small (decoded_blocks blocks reference width height) width height
    (all_made AreSamples (λ number. samples_of (get_or blocks number (record { inter = false; values = [] })) (block_of reference width height number)) (range_with_len 0 (block_count width height))
    (λ number. samples_small (get_or blocks number (record { inter = false; values = [] })) (block_of reference width height number)))

length-unpadded : (bytes : List ℕ) (width height : ℕ) → length (unpadded bytes width height) ≡ width * height
unfolding unpadded
length-unpadded bytes width height = length-map-range_with_len (λ k. get_or bytes (k / width * padded width + k % width) 0) 0 (width * height)

unpadded_small : (bytes : List ℕ) (width height : ℕ) → AreSamples bytes → AreSamples (unpadded bytes width height)
unfolding unpadded
unpadded_small bytes width height h =
    all_made (λ s. s < 256) (λ k. get_or bytes (k / width * padded width + k % width) 0) (range_with_len 0 (width * height))
    (λ k. all_entry (λ s. s < 256) bytes (k / width * padded width + k % width) 0 (omega arith) h)

-- a plane of a picture
abbrev pub IsPlaneOf : ℕ → ℕ → List ℕ → Type 0
IsPlaneOf width height samples = (length samples ≡ width * height) × AreSamples samples

plane_is : (raw inter : Bool) (reference : List ℕ) (width height : ℕ) (bytes samples rest : List ℕ) → plane_from raw inter reference width height bytes ≡ Some (samples, rest) → IsPlaneOf width height samples
plane_is true inter reference width height bytes samples rest e =
    elim
    (chosen (nat_le (padded width * padded height) (length bytes) && list_all (λ b. nat_lt b 255) (take (padded width * padded height) bytes))
    (Some (unpadded (take (padded width * padded height) bytes) width height, drop (padded width * padded height) bytes)) None (Some (samples, rest))
    e) [
      | inl p ↦
          let tests = and_parts (nat_le (padded width * padded height) (length bytes)) (list_all (λ b. nat_lt b 255) (take (padded width * padded height) bytes)) p.0 in
          let same :
          (unpadded (take (padded width * padded height) bytes) width height, drop (padded width * padded height) bytes) ≡ (samples, rest) =
          some_same (unpadded (take (padded width * padded height) bytes) width height, drop (padded width * padded height) bytes) (samples, rest) p.1 in
          let is : unpadded (take (padded width * padded height) bytes) width height ≡ samples = ap (λ (p : List ℕ × List ℕ). p.0) same in
          subst (λ (s : List ℕ). IsPlaneOf width height s) is (
            length-unpadded (take (padded width * padded height) bytes) width height,
            unpadded_small (take (padded width * padded height) bytes) width height
                (all_weaker (λ b. b < 255) (λ b. b < 256) (take (padded width * padded height) bytes) (λ b h. omega arith) (all_below 255 (take (padded width * padded height) bytes) tests.1)),
          )
      | inr p ↦ absurd (none-some (samples, rest) p.1)
    ]
plane_is false inter reference width height bytes samples rest e = by_blocks (blocks_from (block_count width height) inter (block_count width height) bytes) e
  where
    by_blocks : (o : Option (List Block × List ℕ)) → decoded_from reference width height o ≡ Some (samples, rest) → IsPlaneOf width height samples
    by_blocks None e = absurd (none-some (samples, rest) e)
    by_blocks (Some q) e =
        let same : (decoded_plane q.0 reference width height, q.1) ≡ (samples, rest) = some_same (decoded_plane q.0 reference width height, q.1) (samples, rest) e in
        let is : decoded_plane q.0 reference width height ≡ samples = ap (λ (p : List ℕ × List ℕ). p.0) same in
        subst (λ (s : List ℕ). IsPlaneOf width height s) is (length-decoded_plane q.0 reference width height, decoded_small q.0 reference width height)

-- planes of a picture
abbrev pub ArePlanesOf : List (ℕ × ℕ) → List (List ℕ) → Type 0
ArePlanesOf shapes planes = (map length planes ≡ map (λ (shape : ℕ × ℕ). shape.0 * shape.1) shapes) × All AreSamples planes

pub plane_more : (shape : ℕ × ℕ) (shapes : List (ℕ × ℕ)) (samples : List ℕ) (planes : List (List ℕ)) → IsPlaneOf shape.0 shape.1 samples → ArePlanesOf shapes planes → ArePlanesOf (shape ∷ shapes) (samples ∷ planes)
plane_more shape shapes samples planes p ps =
    (ap (λ n. n ∷ map length planes) p.0 ∙ ap (λ ns. shape.0 * shape.1 ∷ ns) ps.0, All-cons AreSamples samples planes p.1 ps.1)

planes_are :
    (raw : List Bool) (inter : Bool) (reference : List (List ℕ)) (shapes : List (ℕ × ℕ)) (bytes : List ℕ) (planes : List (List ℕ)) (rest : List ℕ)
    → planes_from raw inter reference shapes bytes ≡ Some (planes, rest) → ArePlanesOf shapes planes
planes_are raw inter reference [] bytes planes rest e =
    let same : ([], bytes) ≡ (planes, rest) = some_same ([], bytes) (planes, rest) e in
    let none : [] ≡ planes = ap (λ (p : List (List ℕ) × List ℕ). p.0) same in
    subst (λ (ps : List (List ℕ)). ArePlanesOf [] ps) none (refl, All-nil AreSamples)
planes_are raw inter reference (shape ∷ shapes) bytes planes rest e =
    let w = went (plane_from (get_or raw 0 false) inter (get_or reference 0 []) shape.0 shape.1 bytes) (λ rest. planes_from (drop 1 raw) inter (drop 1 reference) shapes rest) planes rest e in
    subst (λ (ps : List (List ℕ)). ArePlanesOf (shape ∷ shapes) ps) (sym w.2.1.2)
    (plane_more shape shapes w.0 w.2.0 (plane_is (get_or raw 0 false) inter (get_or reference 0 []) shape.0 shape.1 bytes w.0 w.1 w.2.1.0) (planes_are (drop 1 raw) inter (drop 1 reference) shapes w.1 w.2.0 rest w.2.1.1))

pub decoded_is_picture : DecodedIsPicture
unfolding body_planes
decoded_is_picture h reference body planes e =
    planes_are h.raw (not h.key) reference (plane_shapes h.geometry) body planes [] (complete_says (planes_from h.raw (not h.key) reference (plane_shapes h.geometry) body) planes e)
