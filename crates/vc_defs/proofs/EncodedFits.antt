-- A frame that an encoder writes is a legal one: its bytes are bytes, its size fits in the header, and its
-- reconstruction is a picture. A plane is coded only where this is shorter than its raw samples, so that its size is
-- bounded by that of the raw plane.
use Rattle.std.proofs.Common.{◌≡◌, ◌∙◌, ap, refl, ℕ, suc, ◌+◌, ◌*◌, ◌/◌, ◌%◌, ◌<◌, ◌≤◌, List, [], ◌∷◌, ◌++◌, length, take, drop, get_or, map, arith, length-append}
use Rattle.std.specs.Prelude.{Bool, true, false, ◌&&◌, not, nat_eq, nat_le, nat_lt, cond}
use Rattle.std.specs.List.{list_all}
use Rattle.std.proofs.Math.Nat.{mul-le-mul_left}
use Rattle.std.proofs.lemmas.Bool.{and_parts, and_from}
use Rattle.std.proofs.lemmas.Bool.Decides.{nat_tests}
use Rattle.std.proofs.lemmas.List.{length-map}
use Rattle.std.proofs.lemmas.List.FromFn.{length-map-range_with_len}
use Rattle.std.proofs.lemmas.List.Elements.{All-head, All-tail, All-nil, All-cons, All-append}
use Rattle.vc_defs.specs.declared.Layout.{Layout}
use Rattle.vc_defs.specs.declared.Layout.TheVariants.{Grey, C420, C422}
use Rattle.vc_defs.specs.declared.Geometry.{Geometry}
use Rattle.vc_defs.specs.Headers.{is_legal, is_legal_geometry, is_legal_size, size_suits, raw_suits, is_legal_number, is_whole_header}
use Rattle.vc_base.specs.Limits.{most_bytes}
use Rattle.vc_defs.specs.Words.{word_bytes, words_bytes}
use Rattle.vc_defs.specs.Planes.{Block, Entry, padded, padded_plane, padded_sample, raw_sample, raw_plane, entry_bytes, entries_bytes, head_word, canon_plane, entries_after, is_raw, coded_blocks, decoded_plane, WrittenPlane, written_plane}
use Rattle.vc_defs.specs.Bodies.{IsPicture, shapes_of, plane_shapes, padded_total, padded_sum}
use Rattle.vc_defs.specs.Raw.{layout_of, raw_of, planes_of}
use Rattle.vc_defs.specs.Decoder.{reference_planes}
use Rattle.vc_defs.specs.Encoder.{Encoded, encoded_picture, written_planes, body_of, is_key_due, next_encoded, encoder_after, encoded_bytes, encode}
use Rattle.vc_defs.specs.Laws.{AreBytes, EncodedFits, EncodesPlanes}
use Rattle.vc_defs.proofs.DecodedIsPicture.{AreSamples, IsPlaneOf, ArePlanesOf, plane_more, all_made, length-decoded_plane, decoded_small}
use Rattle.vc_defs.proofs.RawBothWays.{raw_both_ways}

-- what words are written as are bytes
word_is_bytes : (w : ℕ) → AreBytes (word_bytes w)
word_is_bytes w = All-cons (λ b. b < 256) (w / 256 % 256) (w % 256 ∷ []) (omega arith) (All-cons (λ b. b < 256) (w % 256) [] (omega arith) (All-nil (λ b. b < 256)))

words_are_bytes : (ws : List ℕ) → AreBytes (words_bytes ws)
words_are_bytes [] = All-nil (λ b. b < 256)
words_are_bytes (w ∷ ws) = All-append (λ b. b < 256) (word_bytes w) (words_bytes ws) (word_is_bytes w) (words_are_bytes ws)

entries_are_bytes : (es : List Entry) → AreBytes (entries_bytes es)
entries_are_bytes [] = All-nil (λ b. b < 256)
entries_are_bytes (e ∷ es) =
    All-append (λ b. b < 256) (entry_bytes e) (entries_bytes es) (All-append (λ b. b < 256) (word_bytes (head_word e)) (words_bytes e.words) (word_is_bytes (head_word e)) (words_are_bytes e.words)) (entries_are_bytes es)

pub canon_plane_bytes : (blocks : List Block) → AreBytes (canon_plane blocks)
unfolding canon_plane
canon_plane_bytes [] = All-nil (λ b. b < 256)
canon_plane_bytes (b ∷ blocks) = entries_are_bytes (entries_after b 0 blocks)

raw_sample_small : (s : ℕ) → raw_sample s < 255
raw_sample_small s = omega arith

pub length-raw_plane : (plane : List ℕ) (width height : ℕ) → length (raw_plane plane width height) ≡ padded width * padded height
unfolding padded_plane
length-raw_plane plane width height =
    length-map (padded_plane plane width height) raw_sample ∙ length-map-range_with_len (λ k. padded_sample plane width height (k % padded width) (k / padded width)) 0 (padded width * padded height)

-- a plane as it is written, and as it is reconstructed
pub record PlaneFits (width height : ℕ) (w : WrittenPlane) : Type 0 where
  pub short : length w.bytes ≤ padded width * padded height
  pub bytes : AreBytes w.bytes
  pub plane : IsPlaneOf width height w.samples

pub plane_fits : (inter : Bool) (qp : ℕ) (plane reference : List ℕ) (width height : ℕ) → IsPlaneOf width height plane → PlaneFits width height (written_plane inter qp plane reference width height)
plane_fits inter qp plane reference width height p = by_size (is_raw (coded_blocks inter qp plane reference width height) width height) refl
  where
    by_size : (b : Bool) → is_raw (coded_blocks inter qp plane reference width height) width height ≡ b →
        PlaneFits width height
        (cond b (record { raw = true; bytes = raw_plane plane width height; samples = map raw_sample plane })
        (record
        { raw = false; bytes = canon_plane (coded_blocks inter qp plane reference width height); samples = decoded_plane (coded_blocks inter qp plane reference width height) reference width height }))
    by_size true e = record {
      short = let n : length (raw_plane plane width height) ≡ padded width * padded height = length-raw_plane plane width height in omega arith;
      bytes = all_made (λ b. b < 256) raw_sample (padded_plane plane width height) (λ s. omega (arith, raw_sample_small s));
      plane = (length-map plane raw_sample ∙ p.0, all_made (λ s. s < 256) raw_sample plane (λ s. omega (arith, raw_sample_small s)));
    }
    by_size false e = record {
      short = let t : nat_lt (padded width * padded height) (length (canon_plane (coded_blocks inter qp plane reference width height))) ≡ false = e in grind (arith, nat_tests);
      bytes = canon_plane_bytes (coded_blocks inter qp plane reference width height);
      plane = (length-decoded_plane (coded_blocks inter qp plane reference width height) reference width height, decoded_small (coded_blocks inter qp plane reference width height) reference width height);
    }

-- all planes as they are written
pub record PlanesFit (shapes : List (ℕ × ℕ)) (written : List WrittenPlane) : Type 0 where
  pub short : length (body_of written) ≤ padded_total shapes
  pub bytes : AreBytes (body_of written)
  pub planes : ArePlanesOf shapes (map (λ (p : WrittenPlane). p.samples) written)
  pub count : length (map (λ (p : WrittenPlane). p.raw) written) ≡ length shapes

pub planes_fit : (inter : Bool) (qp : ℕ) (shapes : List (ℕ × ℕ)) (planes reference : List (List ℕ)) → ArePlanesOf shapes planes → PlanesFit shapes (written_planes inter qp shapes planes reference)
planes_fit inter qp [] planes reference p = record { short = omega arith; bytes = All-nil (λ b. b < 256); planes = (refl, All-nil AreSamples); count = refl }
planes_fit inter qp (shape ∷ shapes) [] reference p = let e : [] ≡ shape.0 * shape.1 ∷ map (λ (shape : ℕ × ℕ). shape.0 * shape.1) shapes = p.0 in absurd cc
planes_fit inter qp (shape ∷ shapes) (plane ∷ planes) reference p =
    let e : length plane ∷ map length planes ≡ shape.0 * shape.1 ∷ map (λ (shape : ℕ × ℕ). shape.0 * shape.1) shapes = p.0 in
    let long : length plane ≡ shape.0 * shape.1 = cc in
    let later : map length planes ≡ map (λ (shape : ℕ × ℕ). shape.0 * shape.1) shapes = cc in
    let first = plane_fits inter qp plane (get_or reference 0 []) shape.0 shape.1 (long, All-head AreSamples plane planes p.1) in
    let others = planes_fit inter qp shapes planes (drop 1 reference) (later, All-tail AreSamples plane planes p.1) in
    let w : WrittenPlane = written_plane inter qp plane (get_or reference 0 []) shape.0 shape.1 in
    let ws : List WrittenPlane = written_planes inter qp shapes planes (drop 1 reference) in
    record {
      short = omega (arith, first.short, others.short, length-append w.bytes (body_of ws));
      bytes = All-append (λ b. b < 256) w.bytes (body_of ws) first.bytes others.bytes;
      planes = plane_more shape shapes w.samples (map (λ (p : WrittenPlane). p.samples) ws) first.plane others.planes;
      count = ap (λ n. suc n) others.count;
    }

-- sizes of padded planes
product_small : (a b m n : ℕ) → a ≤ m → b ≤ n → a * b ≤ m * n
product_small a b m n h k =
    let p : a * b ≤ a * n = mul-le-mul_left a k in
    let q : n * a ≤ n * m = mul-le-mul_left n h in
    omega arith

padded_small : (n m : ℕ) → n ≤ 8 * m → padded n ≤ 8 * m
padded_small n m h = let q : (n + 7) / 8 ≤ m = omega arith in omega arith

total_small : (layout : Layout) (width height : ℕ) → width ≤ 4096 → height ≤ 2160 → padded_total (shapes_of layout width height) ≤ most_bytes
total_small Grey width height w h =
    let luma : padded width * padded height ≤ 4096 * 2160 = product_small (padded width) (padded height) 4096 2160 (padded_small width 512 w) (padded_small height 270 h) in
    omega arith
total_small C420 width height w h =
    let luma : padded width * padded height ≤ 4096 * 2160 = product_small (padded width) (padded height) 4096 2160 (padded_small width 512 w) (padded_small height 270 h) in
    let chroma : padded (width / 2) * padded (height / 2) ≤ 2048 * 1080 = product_small (padded (width / 2)) (padded (height / 2)) 2048 1080 (padded_small (width / 2) 256 (omega arith)) (padded_small (height / 2) 135 (omega arith)) in
    omega arith
total_small C422 width height w h =
    let luma : padded width * padded height ≤ 4096 * 2160 = product_small (padded width) (padded height) 4096 2160 (padded_small width 512 w) (padded_small height 270 h) in
    let chroma : padded (width / 2) * padded height ≤ 2048 * 2160 = product_small (padded (width / 2)) (padded height) 2048 2160 (padded_small (width / 2) 256 (omega arith)) (padded_small height 270 h) in
    omega arith

sizes_small : (g : Geometry) → is_legal_geometry g ≡ true → (g.width ≤ 4096) × (g.height ≤ 2160)
sizes_small g e =
    let size = and_parts (is_legal_size g.width g.height) (size_suits g.layout g.width g.height) e in
    let a = and_parts (nat_le 16 g.width && nat_le g.width 4096 && nat_le 16 g.height) (nat_le g.height 2160) size.0 in
    let b = and_parts (nat_le 16 g.width && nat_le g.width 4096) (nat_le 16 g.height) a.0 in
    let c = and_parts (nat_le 16 g.width) (nat_le g.width 4096) b.0 in
    let w : nat_le g.width 4096 ≡ true = c.1 in
    let h : nat_le g.height 2160 ≡ true = a.1 in
    (grind (arith, nat_tests), grind (arith, nat_tests))

-- which planes are raw
raw_there : (layout : Layout) (width height : ℕ) (rs : List Bool) → length rs ≡ length (shapes_of layout width height) → (length (take 3 (rs ++ false ∷ false ∷ [])) ≡ 3) × (raw_suits layout (take 3 (rs ++ false ∷ false ∷ [])) ≡ true)
raw_there Grey width height [] e = absurd (omega arith)
raw_there Grey width height (a ∷ []) e = (refl, refl)
raw_there Grey width height (a ∷ b ∷ rs) e = absurd (omega arith)
raw_there C420 width height [] e = absurd (omega arith)
raw_there C420 width height (a ∷ []) e = absurd (omega arith)
raw_there C420 width height (a ∷ b ∷ []) e = absurd (omega arith)
raw_there C420 width height (a ∷ b ∷ c ∷ rs) e = (refl, refl)
raw_there C422 width height [] e = absurd (omega arith)
raw_there C422 width height (a ∷ []) e = absurd (omega arith)
raw_there C422 width height (a ∷ b ∷ []) e = absurd (omega arith)
raw_there C422 width height (a ∷ b ∷ c ∷ rs) e = (refl, refl)

-- A frame of a picture.
pub record FrameFits (g : Geometry) (e : Encoded) : Type 0 where
  pub legal : is_legal most_bytes e.header ≡ true
  pub size : e.header.size ≡ length e.body
  pub short : length e.body ≤ padded_sum g
  pub bytes : AreBytes e.body
  pub picture : IsPicture g e.planes

pub frame_fits : (g : Geometry) (key : Bool) (qp number : ℕ) (planes reference : List (List ℕ)) → is_legal_geometry g ≡ true → IsPicture g planes → number < 2048 → FrameFits g (encoded_picture g key qp number planes reference)
unfolding is_legal
frame_fits g key qp number planes reference legal p small =
    let written : List WrittenPlane = written_planes (not key) qp (plane_shapes g) planes reference in
    let f = planes_fit (not key) qp (plane_shapes g) planes reference p in
    let sizes = sizes_small g legal in
    let total : padded_total (plane_shapes g) ≤ most_bytes = total_small g.layout g.width g.height sizes.0 sizes.1 in
    let fits : length (body_of written) ≤ most_bytes = omega (arith, f.short, total) in
    let raws = raw_there g.layout g.width g.height (map (λ (p : WrittenPlane). p.raw) written) f.count in
    let e : Encoded = encoded_picture g key qp number planes reference in
    let three : nat_eq (length e.header.raw) 3 ≡ true = ap (λ n. nat_eq n 3) raws.0 in
    let whole : is_whole_header e.header ≡ true =
    and_from (nat_eq (length e.header.raw) 3 && nat_eq (length e.header.colour) 4) (list_all (λ c. nat_lt c 256) e.header.colour) (and_from (nat_eq (length e.header.raw) 3) (nat_eq (length e.header.colour) 4) three refl) refl in
    let most : nat_le e.header.size most_bytes ≡ true = grind (arith, nat_tests) in
    let number_fits : is_legal_number e.header.number ≡ true = grind (arith, nat_tests) in
    record {
      legal =
          and_from (is_legal_geometry g && raw_suits g.layout e.header.raw && nat_le e.header.size most_bytes && nat_le e.header.size most_bytes && is_legal_number e.header.number) (is_whole_header e.header)
          (and_from (is_legal_geometry g && raw_suits g.layout e.header.raw && nat_le e.header.size most_bytes && nat_le e.header.size most_bytes) (is_legal_number e.header.number)
          (and_from (is_legal_geometry g && raw_suits g.layout e.header.raw && nat_le e.header.size most_bytes) (nat_le e.header.size most_bytes)
          (and_from (is_legal_geometry g && raw_suits g.layout e.header.raw) (nat_le e.header.size most_bytes)
          (and_from (is_legal_geometry g) (raw_suits g.layout e.header.raw) legal raws.1) most) most) number_fits) whole;
      size = refl;
      short = f.short;
      bytes = f.bytes;
      picture = f.planes;
    }

pub encoded_fits : EncodedFits
encoded_fits g s planes rates legal state p =
    let key = is_key_due s.reference s.since_key rates.gop in
    let f = frame_fits g key (cond key rates.iqp rates.pqp) s.since_reset planes (reference_planes s.reference) legal p state.1 in
    (f.legal, f.size, f.short, f.bytes, f.picture, ((refl, f.picture), omega arith))

pub encodes_planes : EncodesPlanes
unfolding encode
encodes_planes s format rates planes shape p =
    let back : planes_of format.fourcc format.width format.height (raw_of format.fourcc planes) ≡ planes = (raw_both_ways format.fourcc format.width format.height shape).0 planes p in
    let g : Geometry = record { width = format.width; height = format.height; layout = layout_of format.fourcc } in
    ap (λ ps. let e = next_encoded g s ps rates in record { bytes = encoded_bytes e; key = e.header.key; state = encoder_after s e }) back
