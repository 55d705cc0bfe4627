-- Planes one behind the other are written and read one by one. The first takes its part of samples, area and output,
-- and the others begin where it ends; so what holds of the first and of the others holds of all.
use Rattle.std.proofs.Common.{◌≡◌, ◌∙◌, sym, ap, subst, refl, ℕ, ◌+◌, ◌*◌, ◌<◌, ◌≤◌, List, [], ◌∷◌, ◌++◌, length, take, drop, get_or, map, arith, append_assoc, append-nil, length-append}
use Rattle.std.specs.Prelude.{Bool, true, false, cond, nat_lt}
use Rattle.std.specs.declared.option.Option.{Option}
use Rattle.std.specs.declared.option.Option.TheVariants.{Some}
use Rattle.std.proofs.lemmas.Bool.Decides.{nat_tests}
use Rattle.std.proofs.lemmas.List.{take_at, drop_at, drop-drop, take-append-drop}
use Rattle.vc_defs.specs.Bytes.{written_at}
use Rattle.vc_defs.specs.Planes.{WrittenPlane, written_plane, coded_blocks, is_raw, raw_plane, raw_sample, canon_plane, decoded_plane, padded}
use Rattle.vc_defs.specs.Bodies.{padded_total, planes_from, planes_behind, after_plane}
use Rattle.vc_defs.specs.Raw.{cut_into}
use Rattle.vc_defs.specs.Encoder.{written_planes, body_of}
use Rattle.vc_defs.proofs.WritesInParts.{written_twice}
use Rattle.vc_defs.proofs.EncodedFits.{length-raw_plane}
use Rattle.vc_plane.specs.declared.Written.{Written}
use Rattle.vc_plane.specs.Writing.{IsPlaneWritten}
use Rattle.vc_plane.specs.Reading.{IsPlaneRead}
use Rattle.vc_work.specs.References.{plane_total}
use Rattle.vc_frame.specs.Planes.{AreSome, AreWritten, AreRead, samples_shown}
use Rattle.vc_frame.specs.declared.planes.Body.{Body}

-- What is written of a plane has at most as many bytes as the padded plane has samples.
pub plane_short : (inter : Bool) (qp : ℕ) (plane reference : List ℕ) (width height : ℕ) → length (written_plane inter qp plane reference width height).bytes ≤ padded width * padded height
plane_short inter qp plane reference width height = by_size (is_raw (coded_blocks inter qp plane reference width height) width height) refl
  where
    by_size : (b : Bool) → is_raw (coded_blocks inter qp plane reference width height) width height ≡ b →
        length (let w : WrittenPlane = cond b (record { raw = true; bytes = raw_plane plane width height; samples = map raw_sample plane })
        (record { raw = false; bytes = canon_plane (coded_blocks inter qp plane reference width height); samples = decoded_plane (coded_blocks inter qp plane reference width height) reference width height }) in w.bytes) ≤ padded width * padded height
    by_size true e = let n : length (raw_plane plane width height) ≡ padded width * padded height = length-raw_plane plane width height in omega arith
    by_size false e = let t : nat_lt (padded width * padded height) (length (canon_plane (coded_blocks inter qp plane reference width height))) ≡ false = e in grind (arith, nat_tests)

pub some_first : (sizes : List (ℕ × ℕ)) (size : ℕ × ℕ) (rest : List (ℕ × ℕ)) → sizes ≡ size ∷ rest → AreSome sizes → (0 < size.0) × (0 < size.1) × AreSome rest
some_first sizes size rest e h = let P : List (ℕ × ℕ) → Type 0 = AreSome in subst P e h

-- what is told of the first plane and of those behind it
pub told_more : (raw : Bool) (others told : List Bool) → 2 ≤ length others → told ≡ take 3 others → raw ∷ get_or told 0 false ∷ get_or told 1 false ∷ [] ≡ take 3 (raw ∷ others)
told_more raw [] told h e = absurd (omega arith)
told_more raw (a ∷ []) told h e = absurd (omega arith)
told_more raw (a ∷ (b ∷ others)) told h e = ap (λ (t : List Bool). raw ∷ get_or t 0 false ∷ get_or t 1 false ∷ []) e

-- Where no plane is left, nothing is written.
pub written_none : (inter : Bool) (qp : ℕ) (sizes : List (ℕ × ℕ)) (planes area out : List ℕ) (at : ℕ) → length sizes ≡ 0 → at ≤ length out →
    AreWritten (written_planes inter qp sizes (cut_into sizes planes) (cut_into sizes area)) (plane_total sizes) area area out out at (record { end = at; raw = false ∷ false ∷ false ∷ [] })
written_none inter qp [] planes area out at e h =
    record { end = omega arith; raw = refl; bytes = sym (written_nothing at out); samples = refl }
  where
    written_nothing : (at : ℕ) (out : List ℕ) → take at out ++ [] ++ drop (at + 0) out ≡ out
    written_nothing at out = ap (λ (xs : List ℕ). xs ++ drop (at + 0) out) (append-nil (take at out)) ∙ ap (λ n. take at out ++ drop n out) (let z : at + 0 ≡ at = omega arith in z) ∙ take-append-drop at out
written_none inter qp (size ∷ sizes) planes area out at e h = absurd (omega arith)

-- What is written of planes has at most as many bytes as the padded planes have samples.
pub planes_short : (inter : Bool) (qp : ℕ) (sizes : List (ℕ × ℕ)) (planes reference : List (List ℕ)) → length (body_of (written_planes inter qp sizes planes reference)) ≤ padded_total sizes
planes_short inter qp [] planes reference = omega arith
planes_short inter qp (size ∷ sizes) planes reference =
    let w : WrittenPlane = written_plane inter qp (get_or planes 0 []) (get_or reference 0 []) size.0 size.1 in
    let ws : List WrittenPlane = written_planes inter qp sizes (drop 1 planes) (drop 1 reference) in
    omega (arith, plane_short inter qp (get_or planes 0 []) (get_or reference 0 []) size.0 size.1, planes_short inter qp sizes (drop 1 planes) (drop 1 reference), length-append w.bytes (body_of ws))

-- a plane was written, and then others
both_written : (w : WrittenPlane) (ws : List WrittenPlane) (n total : ℕ) (area others shown shown_later out mid new : List ℕ) (at end : ℕ) (raw : Bool) (body : Body) →
    others ≡ drop n area → end ≡ at + length w.bytes → raw ≡ w.raw → mid ≡ written_at out at w.bytes → shown ≡ w.samples → end + length (body_of ws) ≤ length out →
    AreWritten ws total others shown_later mid new end body →
    AreWritten (w ∷ ws) (n + total) area (shown ++ shown_later) out new at (record { end = body.end; raw = raw ∷ get_or body.raw 0 false ∷ get_or body.raw 1 false ∷ [] })
both_written w ws n total area others shown shown_later out mid new at end raw body o e r b s fits rest =
    let flags : List Bool = map (λ (p : WrittenPlane). p.raw) ws ++ false ∷ false ∷ false ∷ [] in
    let many : 2 ≤ length flags = omega (arith, length-append (map (λ (p : WrittenPlane). p.raw) ws) (false ∷ false ∷ false ∷ [])) in
    record {
      end = omega (arith, rest.end, e, length-append w.bytes (body_of ws));
      raw = ap (λ (x : Bool). x ∷ get_or body.raw 0 false ∷ get_or body.raw 1 false ∷ []) r ∙ told_more w.raw flags body.raw many rest.raw;
      bytes = rest.bytes ∙ ap (λ (xs : List ℕ). written_at xs end (body_of ws)) b ∙ written_twice out at end w.bytes (body_of ws) e fits;
      samples = ap (λ (xs : List ℕ). xs ++ shown_later) s
          ∙ ap (λ (xs : List ℕ). w.samples ++ xs) (rest.samples ∙ ap (λ (xs : List ℕ). samples_shown ws ++ drop total xs) o ∙ ap (λ (xs : List ℕ). samples_shown ws ++ xs) (drop-drop total n area))
          ∙ sym (append_assoc w.samples (samples_shown ws) (drop (n + total) area));
    }

-- The first plane was written, and then those behind it.
pub written_more : (inter : Bool) (qp : ℕ) (sizes : List (ℕ × ℕ)) (size : ℕ × ℕ) (rest : List (ℕ × ℕ)) → sizes ≡ size ∷ rest →
    (planes plane later area first others shown shown_later out mid new : List ℕ) (at : ℕ) (written : Written) (body : Body) →
    plane ≡ take (size.0 * size.1) planes → later ≡ drop (size.0 * size.1) planes → first ≡ take (size.0 * size.1) area → others ≡ drop (size.0 * size.1) area →
    at + padded_total sizes ≤ length out →
    IsPlaneWritten (record { width = size.0; height = size.1; inter = inter; qp = qp }) plane first shown out mid at written →
    AreWritten (written_planes inter qp rest (cut_into rest later) (cut_into rest others)) (plane_total rest) others shown_later mid new written.end body →
    AreWritten (written_planes inter qp sizes (cut_into sizes planes) (cut_into sizes area)) (plane_total sizes) area (shown ++ shown_later) out new at (record { end = body.end; raw = written.raw ∷ get_or body.raw 0 false ∷ get_or body.raw 1 false ∷ [] })
written_more inter qp sizes size rest is planes plane later area first others shown shown_later out mid new at written body p l f o room h hs =
    let n : ℕ = size.0 * size.1 in
    let w : WrittenPlane = written_plane inter qp plane first size.0 size.1 in
    let ws : List WrittenPlane = written_planes inter qp rest (cut_into rest later) (cut_into rest others) in
    let result : Body = record { end = body.end; raw = written.raw ∷ get_or body.raw 0 false ∷ get_or body.raw 1 false ∷ [] } in
    let ps : cut_into sizes planes ≡ plane ∷ cut_into rest later =
    ap (λ (ss : List (ℕ × ℕ)). cut_into ss planes) is ∙ ap (λ (x : List ℕ). x ∷ cut_into rest (drop n planes)) (sym p) ∙ ap (λ (x : List ℕ). plane ∷ cut_into rest x) (sym l) in
    let rs : cut_into sizes area ≡ first ∷ cut_into rest others =
    ap (λ (ss : List (ℕ × ℕ)). cut_into ss area) is ∙ ap (λ (x : List ℕ). x ∷ cut_into rest (drop n area)) (sym f) ∙ ap (λ (x : List ℕ). first ∷ cut_into rest x) (sym o) in
    let all : written_planes inter qp sizes (cut_into sizes planes) (cut_into sizes area) ≡ w ∷ ws =
    ap (λ (ss : List (ℕ × ℕ)). written_planes inter qp ss (cut_into sizes planes) (cut_into sizes area)) is
    ∙ ap (λ (x : List (List ℕ)). written_planes inter qp (size ∷ rest) x (cut_into sizes area)) ps
    ∙ ap (λ (x : List (List ℕ)). written_planes inter qp (size ∷ rest) (plane ∷ cut_into rest later) x) rs in
    let total : plane_total sizes ≡ n + plane_total rest = ap plane_total is in
    let padding : padded_total sizes ≡ padded size.0 * padded size.1 + padded_total rest = ap padded_total is in
    let fits : written.end + length (body_of ws) ≤ length out =
    omega (arith, room, padding, h.end, plane_short inter qp plane first size.0 size.1, planes_short inter qp rest (cut_into rest later) (cut_into rest others)) in
    subst (λ (x : List WrittenPlane). AreWritten x (plane_total sizes) area (shown ++ shown_later) out new at result) (sym all)
    (subst (λ (k : ℕ). AreWritten (w ∷ ws) k area (shown ++ shown_later) out new at result) (sym total)
    (both_written w ws n (plane_total rest) area others shown shown_later out mid new at written.end written.raw body o h.end h.raw h.bytes h.samples fits hs))

-- The first plane was read, and then those behind it.
pub read_more : (sizes : List (ℕ × ℕ)) (size : ℕ × ℕ) (rest : List (ℕ × ℕ)) → sizes ≡ size ∷ rest →
    (raw : List Bool) (inter : Bool) (bytes : List ℕ) (at middle end qp : ℕ) (area first others shown shown_later : List ℕ) →
    first ≡ take (size.0 * size.1) area → others ≡ drop (size.0 * size.1) area → length shown ≡ size.0 * size.1 →
    IsPlaneRead bytes at (get_or raw 0 false) (record { width = size.0; height = size.1; inter = inter; qp = qp }) first shown middle →
    AreRead rest (drop 1 raw) inter bytes middle others shown_later end →
    AreRead sizes raw inter bytes at area (shown ++ shown_later) end
read_more sizes size rest is raw inter bytes at middle end qp area first others shown shown_later f o long h hs =
    let n : ℕ = size.0 * size.1 in
    let read : List ℕ → Option (List (List ℕ) × List ℕ) = λ later. planes_from (drop 1 raw) inter (cut_into rest others) rest later in
    let rs : cut_into sizes area ≡ first ∷ cut_into rest others =
    ap (λ (ss : List (ℕ × ℕ)). cut_into ss area) is ∙ ap (λ (x : List ℕ). x ∷ cut_into rest (drop n area)) (sym f) ∙ ap (λ (x : List ℕ). first ∷ cut_into rest x) (sym o) in
    let ps : cut_into sizes (shown ++ shown_later) ≡ shown ∷ cut_into rest shown_later =
    ap (λ (ss : List (ℕ × ℕ)). cut_into ss (shown ++ shown_later)) is
    ∙ ap (λ (x : List ℕ). x ∷ cut_into rest (drop n (shown ++ shown_later))) (take_at shown shown_later n long) ∙ ap (λ (x : List ℕ). shown ∷ cut_into rest x) (drop_at shown shown_later n long) in
    record {
      inside = (omega (arith, h.inside.0, hs.inside.0), hs.inside.1);
      is = ap (λ (ss : List (ℕ × ℕ)). planes_from raw inter (cut_into sizes area) ss (drop at bytes)) is
          ∙ ap (λ (x : List (List ℕ)). planes_from raw inter x (size ∷ rest) (drop at bytes)) rs
          ∙ ap (λ (x : Option (List ℕ × List ℕ)). after_plane x read) h.is
          ∙ ap (planes_behind shown) hs.is
          ∙ ap (λ (x : List (List ℕ)). Some (x, drop end bytes)) (sym ps);
    }
