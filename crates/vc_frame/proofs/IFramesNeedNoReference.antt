-- An I frame does not depend on the reference. None of its blocks is a P block, and an I block is coded as a
-- difference from 128; so planes are written and read the same whatever the reference.
use Rattle.std.proofs.Common.{◌≡◌, ◌∙◌, sym, ap, refl, ℕ, suc, zero, ◌+◌, ◌-◌, List, [], ◌∷◌, drop, get_or, map, replicate}
use Rattle.std.specs.Prelude.{ℤ, pos, ◌+ℤ◌, Bool, true, false, not, ◌&&◌, ◌||◌, cond, nat_eq, nat_lt}
use Rattle.std.specs.Int.{int_shr}
use Rattle.std.specs.List.{All, range_with_len}
use Rattle.std.specs.declared.option.Option.{Option}
use Rattle.std.specs.declared.option.Option.TheVariants.{Some, None}
use Rattle.std.proofs.lemmas.Bool.{and_parts}
use Rattle.std.proofs.lemmas.List.Elements.{All-nil, All-append, All-replicate}
use mathlib.Core.Path.{fun_ext}
use Rattle.vc_defs.specs.Walsh.{transformed}
use Rattle.vc_defs.specs.Quantiser.{dequantised}
use Rattle.vc_defs.specs.Words.{word_of, values_from, from_scan_order}
use Rattle.vc_defs.specs.Planes.{Block, block_of, block_count, samples_of, decoded_blocks, decoded_plane, plane_of, clamped, base_of, head_of, inter_of, repeats_of}
use Rattle.vc_defs.specs.Planes.{is_head, blocks_behind, after_head, blocks_from, coded_as, coded_block, coded_blocks, written_plane, WrittenPlane, is_raw, raw_plane, raw_sample, canon_plane}
use Rattle.vc_defs.specs.Bodies.{plane_from, planes_from, decoded_from, after_plane, body_planes, if_complete, plane_shapes}
use Rattle.vc_defs.specs.Encoder.{written_planes}
use Rattle.vc_defs.specs.declared.Header.{Header}
use Rattle.vc_defs.proofs.DecodedIsPicture.{all_entry, all_made}

abbrev IsIntra : Block → Type 0
IsIntra b = b.inter ≡ false

abbrev AreIntra : Option (List Block × List ℕ) → Type 0
AreIntra None = Unit {0}
AreIntra (Some read) = All IsIntra read.0

intra_samples : (b : Block) (r s : List ℕ) → IsIntra b → samples_of b r ≡ samples_of b s
unfolding samples_of
intra_samples b r s e =
    let y : List ℤ = transformed (dequantised b.values (not b.inter)) in
    ap (λ (i : Bool). map (λ k. clamped (int_shr (get_or y k (pos 0)) 6 +ℤ base_of i r k)) (range_with_len 0 64)) e
    ∙ sym (ap (λ (i : Bool). map (λ k. clamped (int_shr (get_or y k (pos 0)) 6 +ℤ base_of i s k)) (range_with_len 0 64)) e)

intra_plane : (blocks : List Block) (r s : List ℕ) (width height : ℕ) → All IsIntra blocks → decoded_plane blocks r width height ≡ decoded_plane blocks s width height
unfolding decoded_plane decoded_blocks
intra_plane blocks r s width height all =
    let none : Block = record { inter = false; values = [] } in
    ap (λ (f : ℕ → List ℕ). plane_of (map f (range_with_len 0 (block_count width height))) width height)
    (fun_ext (λ (n : ℕ). intra_samples (get_or blocks n none) (block_of r width height n) (block_of s width height n) (all_entry IsIntra blocks n none refl all)))

intra_coded : (qp : ℕ) (plane reference : List ℕ) (width height : ℕ) → All IsIntra (coded_blocks false qp plane reference width height)
unfolding coded_blocks coded_as
intra_coded qp plane reference width height =
    all_made IsIntra (λ number. coded_block false qp (block_of plane width height number) (block_of reference width height number)) (range_with_len 0 (block_count width height)) (λ number. refl)

same_coded : (qp : ℕ) (plane r s : List ℕ) (width height : ℕ) → coded_blocks false qp plane r width height ≡ coded_blocks false qp plane s width height
unfolding coded_blocks coded_as
same_coded qp plane r s width height = refl

-- A plane of an I frame is written the same whatever the reference.
intra_written : (qp : ℕ) (plane r s : List ℕ) (width height : ℕ) → written_plane false qp plane r width height ≡ written_plane false qp plane s width height
intra_written qp plane r s width height =
    let make : List Block → List ℕ → WrittenPlane =
    λ (blocks : List Block) (samples : List ℕ). cond (is_raw blocks width height) (record { raw = true; bytes = raw_plane plane width height; samples = map raw_sample plane }) (record { raw = false; bytes = canon_plane blocks; samples = samples }) in
    ap (λ (blocks : List Block). make blocks (decoded_plane blocks r width height)) (same_coded qp plane r s width height)
    ∙ ap (make (coded_blocks false qp plane s width height)) (intra_plane (coded_blocks false qp plane s width height) r s width height (intra_coded qp plane s width height))

-- The planes of an I frame are written the same whatever the reference.
pub intra_all_written : (qp : ℕ) (sizes : List (ℕ × ℕ)) (planes r s : List (List ℕ)) → written_planes false qp sizes planes r ≡ written_planes false qp sizes planes s
intra_all_written qp [] planes r s = refl
intra_all_written qp (size ∷ sizes) planes r s =
    ap (λ (w : WrittenPlane). w ∷ written_planes false qp sizes (drop 1 planes) (drop 1 r)) (intra_written qp (get_or planes 0 []) (get_or r 0 []) (get_or s 0 []) size.0 size.1)
    ∙ ap (λ (ws : List WrittenPlane). written_plane false qp (get_or planes 0 []) (get_or s 0 []) size.0 size.1 ∷ ws) (intra_all_written qp sizes (drop 1 planes) (drop 1 r) (drop 1 s))

intra_behind : (first : List Block) (o : Option (List Block × List ℕ)) → All IsIntra first → AreIntra o → AreIntra (blocks_behind first o)
intra_behind first None f h = tt
intra_behind first (Some read) f h = All-append IsIntra first read.0 f h

intra_head : (left w : ℕ) → is_head false left w ≡ true → inter_of w ≡ false
intra_head left w e = only (inter_of w) (and_parts (nat_eq w (head_of (inter_of w) (repeats_of w)) && nat_lt (repeats_of w) left) (false || not (inter_of w)) e).1
  where
    only : (b : Bool) → (false || not b) ≡ true → b ≡ false
    only true e = sym e
    only false e = refl

intra_after : (left w : ℕ) (values : Option (List ℤ × List ℕ)) (read : ℕ → List ℕ → Option (List Block × List ℕ)) → ((n : ℕ) (rest : List ℕ) → AreIntra (read n rest)) → AreIntra (after_head false left w values read)
intra_after left w None read h = tt
intra_after left w (Some values) read h = by_test (is_head false left w) refl
  where
    by_test : (b : Bool) → is_head false left w ≡ b → AreIntra (cond b (blocks_behind (replicate (repeats_of w + 1) (record { inter = inter_of w; values = from_scan_order values.0 })) (read (left - (repeats_of w + 1)) values.1)) None)
    by_test true e =
        intra_behind (replicate (repeats_of w + 1) (record { inter = inter_of w; values = from_scan_order values.0 })) (read (left - (repeats_of w + 1)) values.1)
        (All-replicate IsIntra (repeats_of w + 1) (record { inter = inter_of w; values = from_scan_order values.0 }) (intra_head left w e)) (h (left - (repeats_of w + 1)) values.1)
    by_test false e = tt

intra_read : (turns left : ℕ) (bytes : List ℕ) → AreIntra (blocks_from turns false left bytes)
intra_read zero zero bytes = All-nil IsIntra
intra_read (suc turns) zero bytes = All-nil IsIntra
intra_read zero (suc left) bytes = tt
intra_read (suc turns) (suc left) [] = tt
intra_read (suc turns) (suc left) (b ∷ []) = tt
intra_read (suc turns) (suc left) (high ∷ low ∷ bytes) =
    intra_after (suc left) (word_of high low) (values_from 64 bytes) (λ n rest. blocks_from turns false n rest) (λ n rest. intra_read turns n rest)

intra_decoded : (r s : List ℕ) (width height : ℕ) (o : Option (List Block × List ℕ)) → AreIntra o → decoded_from r width height o ≡ decoded_from s width height o
intra_decoded r s width height None h = refl
intra_decoded r s width height (Some read) h = ap (λ (plane : List ℕ). Some (plane, read.1)) (intra_plane read.0 r s width height h)

intra_plane_from : (raw : Bool) (r s : List ℕ) (width height : ℕ) (bytes : List ℕ) → plane_from raw false r width height bytes ≡ plane_from raw false s width height bytes
intra_plane_from true r s width height bytes = refl
intra_plane_from false r s width height bytes =
    intra_decoded r s width height (blocks_from (block_count width height) false (block_count width height) bytes) (intra_read (block_count width height) (block_count width height) bytes)

intra_planes_from : (raw : List Bool) (r s : List (List ℕ)) (sizes : List (ℕ × ℕ)) (bytes : List ℕ) → planes_from raw false r sizes bytes ≡ planes_from raw false s sizes bytes
intra_planes_from raw r s [] bytes = refl
intra_planes_from raw r s (size ∷ sizes) bytes =
    ap (λ (p : Option (List ℕ × List ℕ)). after_plane p (λ rest. planes_from (drop 1 raw) false (drop 1 r) sizes rest)) (intra_plane_from (get_or raw 0 false) (get_or r 0 []) (get_or s 0 []) size.0 size.1 bytes)
    ∙ ap (after_plane (plane_from (get_or raw 0 false) false (get_or s 0 []) size.0 size.1 bytes)) (fun_ext (λ (rest : List ℕ). intra_planes_from (drop 1 raw) (drop 1 r) (drop 1 s) sizes rest))

-- The body of an I frame gives the same planes whatever the reference.
pub intra_body : (h : Header) (r s : List (List ℕ)) (body : List ℕ) → h.key ≡ true → body_planes h r body ≡ body_planes h s body
unfolding body_planes
intra_body h r s body e =
    let read : Bool → List (List ℕ) → Option (List (List ℕ)) = λ (key : Bool) (reference : List (List ℕ)). if_complete (planes_from h.raw (not key) reference (plane_shapes h.geometry) body) in
    ap (λ (key : Bool). read key r) e ∙ ap if_complete (intra_planes_from h.raw r s (plane_shapes h.geometry) body) ∙ sym (ap (λ (key : Bool). read key s) e)
