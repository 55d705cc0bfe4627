-- A frame that an encoder writes is no longer than the longest buffer, where the sizes of its format are in range. A plane is raw
-- where its words take more bytes than the padded plane has samples, so it never takes more than these; of what bytes the picture
-- was made doesn't matter.
use Rattle.std.proofs.Common.{◌≡◌, refl, ℕ, ◌+◌, ◌*◌, ◌/◌, ◌≤◌, List, [], ◌∷◌, length, drop, get_or, map, arith, length-append}
use Rattle.std.specs.Prelude.{Bool, true, false, not, nat_lt, cond}
use Rattle.std.proofs.Math.Nat.{mul-le-mul_left}
use Rattle.std.proofs.lemmas.Bool.Decides.{nat_tests}
use Rattle.vc_base.specs.declared.Format.{Format}
use Rattle.vc_base.specs.Limits.{most_bytes, longest_buffer}
use Rattle.vc_defs.specs.declared.Layout.{Layout}
use Rattle.vc_defs.specs.declared.Layout.TheVariants.{Grey, C420, C422}
use Rattle.vc_defs.specs.declared.Geometry.{Geometry}
use Rattle.vc_defs.specs.Headers.{header_bytes}
use Rattle.vc_defs.specs.Planes.{padded, raw_plane, canon_plane, is_raw, coded_blocks, decoded_plane, WrittenPlane, written_plane}
use Rattle.vc_defs.specs.Planes.{raw_sample}
use Rattle.vc_defs.specs.Bodies.{shapes_of, plane_shapes, padded_total}
use Rattle.vc_defs.specs.Raw.{geometry_of, planes_of}
use Rattle.vc_defs.specs.Encoder.{Encoded, RunRates, EncoderState, written_planes, body_of, next_encoded, encode}
use Rattle.vc_defs.proofs.EncodedFits.{length-raw_plane}

-- Planes

-- a plane takes no more bytes than its padded form has samples
abbrev IsShort : ℕ → ℕ → WrittenPlane → Type 0
IsShort width height w = length w.bytes ≤ padded width * padded height

plane_short : (inter : Bool) (qp : ℕ) (plane reference : List ℕ) (width height : ℕ) → IsShort width height (written_plane inter qp plane reference width height)
plane_short inter qp plane reference width height = by_size (is_raw (coded_blocks inter qp plane reference width height) width height) refl
  where
    by_size : (b : Bool) → is_raw (coded_blocks inter qp plane reference width height) width height ≡ b →
        IsShort width height
        (cond b (record { raw = true; bytes = raw_plane plane width height; samples = map raw_sample plane })
        (record
        { raw = false; bytes = canon_plane (coded_blocks inter qp plane reference width height); samples = decoded_plane (coded_blocks inter qp plane reference width height) reference width height }))
    by_size true e = let n : length (raw_plane plane width height) ≡ padded width * padded height = length-raw_plane plane width height in omega arith
    by_size false e = let t : nat_lt (padded width * padded height) (length (canon_plane (coded_blocks inter qp plane reference width height))) ≡ false = e in grind (arith, nat_tests)

body_short : (inter : Bool) (qp : ℕ) (shapes : List (ℕ × ℕ)) (planes reference : List (List ℕ)) → length (body_of (written_planes inter qp shapes planes reference)) ≤ padded_total shapes
body_short inter qp [] planes reference = omega arith
body_short inter qp (shape ∷ shapes) planes reference =
    let w : WrittenPlane = written_plane inter qp (get_or planes 0 []) (get_or reference 0 []) shape.0 shape.1 in
    let ws : List WrittenPlane = written_planes inter qp shapes (drop 1 planes) (drop 1 reference) in
    let first : length w.bytes ≤ padded shape.0 * padded shape.1 = plane_short inter qp (get_or planes 0 []) (get_or reference 0 []) shape.0 shape.1 in
    let others : length (body_of ws) ≤ padded_total shapes = body_short inter qp shapes (drop 1 planes) (drop 1 reference) in
    omega (arith, first, others, length-append w.bytes (body_of ws))

-- Sizes

pub product_small : (a b m n : ℕ) → a ≤ m → b ≤ n → a * b ≤ m * n
product_small a b m n h k =
    let p : a * b ≤ a * n = mul-le-mul_left a k in
    let q : n * a ≤ n * m = mul-le-mul_left n h in
    omega arith

padded_small : (n m : ℕ) → n ≤ 8 * m → padded n ≤ 8 * m
padded_small n m h = let q : (n + 7) / 8 ≤ m = omega arith in omega arith

total_small : (layout : Layout) (width height : ℕ) → width ≤ 4096 → height ≤ 2160 → padded_total (shapes_of layout width height) ≤ most_bytes
total_small Grey width height w h =
    let luma : padded width * padded height ≤ 4096 * 2160 = product_small (padded width) (padded height) 4096 2160 (padded_small width 512 w) (padded_small height 270 h) in
    omega arith
total_small C420 width height w h =
    let luma : padded width * padded height ≤ 4096 * 2160 = product_small (padded width) (padded height) 4096 2160 (padded_small width 512 w) (padded_small height 270 h) in
    let chroma : padded (width / 2) * padded (height / 2) ≤ 2048 * 1080 = product_small (padded (width / 2)) (padded (height / 2)) 2048 1080 (padded_small (width / 2) 256 (omega arith)) (padded_small (height / 2) 135 (omega arith)) in
    omega arith
total_small C422 width height w h =
    let luma : padded width * padded height ≤ 4096 * 2160 = product_small (padded width) (padded height) 4096 2160 (padded_small width 512 w) (padded_small height 270 h) in
    let chroma : padded (width / 2) * padded height ≤ 2048 * 2160 = product_small (padded (width / 2)) (padded height) 2048 2160 (padded_small (width / 2) 256 (omega arith)) (padded_small height 270 h) in
    omega arith

-- Frames

header_long : (g : Geometry) (s : EncoderState) (planes : List (List ℕ)) (rates : RunRates) → length (header_bytes (next_encoded g s planes rates).header) ≡ 44
unfolding header_bytes
header_long g s planes rates = refl

pub frame_short : (s : EncoderState) (format : Format) (rates : RunRates) (bytes : List ℕ) → format.width ≤ 4096 → format.height ≤ 2160 → length (encode s format rates bytes).bytes ≤ longest_buffer
unfolding encode
frame_short s format rates bytes w h =
    let g : Geometry = geometry_of format in
    let planes = planes_of format.fourcc format.width format.height bytes in
    let e : Encoded = next_encoded g s planes rates in
    let head : length (header_bytes e.header) ≡ 44 = header_long g s planes rates in
    let total : padded_total (plane_shapes g) ≤ most_bytes = total_small g.layout format.width format.height w h in
    let body : length e.body ≤ padded_total (plane_shapes g) = body_short (not e.header.key) _ (plane_shapes g) planes _ in
    omega (arith, head, body, total, length-append (header_bytes e.header) e.body)
