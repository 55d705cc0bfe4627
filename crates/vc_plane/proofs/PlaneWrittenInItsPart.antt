-- A plane is written into a part of the output and nowhere else. It has its words there where they fit, and else its
-- raw samples, which always fit.
use Rattle.std.proofs.Common.{◌≡◌, ◌∙◌, sym, ap, ℕ, ◌+◌, ◌*◌, ◌/◌, ◌%◌, ◌<◌, ◌≤◌, List, ◌++◌, length, take, drop, map, arith, append_assoc, length-drop, length-take}
use Rattle.std.specs.Prelude.{Bool, true, false, Ok, Err}
use Rattle.std.specs.List.{range_with_len}
use Rattle.std.proofs.lemmas.Bool.{cond-true, cond-false}
use Rattle.std.proofs.lemmas.Bool.Decides.{nat_tests}
use Rattle.std.proofs.lemmas.List.{take-append-drop, take_at, drop_at, drop-drop, drop-append-le, length-map}
use Rattle.std.proofs.lemmas.List.FromFn.{length-range_with_len}
use borrow.Rule.Slice.PartMut.{put_mid, mid_of}
use Rattle.vc_defs.specs.declared.Full.{Full}
use Rattle.vc_defs.specs.Bytes.{Writes, written_at}
use Rattle.vc_defs.specs.Planes.{WrittenPlane, padded, padded_plane, padded_sample, raw_sample, raw_plane, is_raw, canon_plane, coded_blocks, decoded_plane, written_plane}
use Rattle.vc_plane.specs.declared.Shape.{Shape}
use Rattle.vc_plane.specs.Writing.{IsPlaneWritten}

-- what stands behind the first bytes of a part, and behind the part
behind_part : (m k : ℕ) (xs : List ℕ) → m ≤ k → k ≤ length xs → drop m (take k xs) ++ drop k xs ≡ drop m xs
behind_part m k xs le inside =
    sym (ap (λ t. drop m t) (sym (take-append-drop k xs)) ∙ drop-append-le m (take k xs) (drop k xs) (omega (arith, length-take k xs)))

-- A part that was written from its front on.
part_written : (old part bytes : List ℕ) (at k : ℕ) → at + k ≤ length old → length bytes ≤ k → part ≡ written_at (mid_of at k old) 0 bytes → put_mid at k old part ≡ written_at old at bytes
part_written old part bytes at k inside le is =
    let none : 0 + length bytes ≡ length bytes = omega arith in
    let whole : part ++ drop k (drop at old) ≡ bytes ++ drop (at + length bytes) old =
    ap (λ t. t ++ drop k (drop at old)) (is ∙ ap (λ n. bytes ++ drop n (take k (drop at old))) none)
    ∙ append_assoc bytes (drop (length bytes) (take k (drop at old))) (drop k (drop at old))
    ∙ ap (λ t. bytes ++ t) (behind_part (length bytes) k (drop at old) le (omega (arith, length-drop at old)) ∙ drop-drop (length bytes) at old) in
    ap (λ t. take at old ++ t) whole ∙ sym (append_assoc (take at old) bytes (drop (at + length bytes) old))

-- A part that is written anew.
part_again : (old first second : List ℕ) (at k : ℕ) → at + k ≤ length old → length first ≡ k → put_mid at k (put_mid at k old first) second ≡ put_mid at k old second
part_again old first second at k inside long =
    let front : length (take at old) ≡ at = length-take at old ∙ omega arith in
    ap (λ t. t ++ (second ++ drop k (drop at (take at old ++ (first ++ drop k (drop at old)))))) (take_at (take at old) (first ++ drop k (drop at old)) at front)
    ∙ ap (λ t. take at old ++ (second ++ drop k t)) (drop_at (take at old) (first ++ drop k (drop at old)) at front)
    ∙ ap (λ t. take at old ++ (second ++ t)) (drop_at first (drop k (drop at old)) k long)

-- A part that is replaced whole.
part_replaced : (old part : List ℕ) (at k : ℕ) → at + k ≤ length old → length part ≡ k → put_mid at k old part ≡ written_at old at part
part_replaced old part at k inside long =
    ap (λ t. take at old ++ (part ++ t)) (drop-drop k at old ∙ ap (λ n. drop (at + n) old) (sym long)) ∙ sym (append_assoc (take at old) part (drop (at + length part) old))

length-raw_plane : (plane : List ℕ) (width height : ℕ) → length (raw_plane plane width height) ≡ padded width * padded height
unfolding padded_plane
length-raw_plane plane width height =
    length-map (padded_plane plane width height) raw_sample ∙ length-map (range_with_len 0 (padded width * padded height)) (λ k. padded_sample plane width height (k % padded width) (k / padded width)) ∙ length-range_with_len 0 (padded width * padded height)

coded_form : (inter : Bool) (qp : ℕ) (plane old : List ℕ) (width height : ℕ) → length (canon_plane (coded_blocks inter qp plane old width height)) ≤ padded width * padded height →
    written_plane inter qp plane old width height ≡ record { raw = false; bytes = canon_plane (coded_blocks inter qp plane old width height); samples = decoded_plane (coded_blocks inter qp plane old width height) old width height }
coded_form inter qp plane old width height le =
    let t : is_raw (coded_blocks inter qp plane old width height) width height ≡ false = grind (arith, nat_tests) in
    cond-false (is_raw (coded_blocks inter qp plane old width height) width height) (record { raw = true; bytes = raw_plane plane width height; samples = map raw_sample plane })
    (record { raw = false; bytes = canon_plane (coded_blocks inter qp plane old width height); samples = decoded_plane (coded_blocks inter qp plane old width height) old width height }) t

raw_form : (inter : Bool) (qp : ℕ) (plane old : List ℕ) (width height : ℕ) → padded width * padded height < length (canon_plane (coded_blocks inter qp plane old width height)) →
    written_plane inter qp plane old width height ≡ record { raw = true; bytes = raw_plane plane width height; samples = map raw_sample plane }
raw_form inter qp plane old width height lt =
    let t : is_raw (coded_blocks inter qp plane old width height) width height ≡ true = grind (arith, nat_tests) in
    cond-true (is_raw (coded_blocks inter qp plane old width height) width height) (record { raw = true; bytes = raw_plane plane width height; samples = map raw_sample plane })
    (record { raw = false; bytes = canon_plane (coded_blocks inter qp plane old width height); samples = decoded_plane (coded_blocks inter qp plane old width height) old width height }) t

-- The plane was written by its words.
pub words_written : (shape : Shape) (plane old new out part : List ℕ) (at k n : ℕ) → k ≡ padded shape.width * padded shape.height → at + k ≤ length out →
    Writes (mid_of at k out) part 0 (canon_plane (coded_blocks shape.inter shape.qp plane old shape.width shape.height)) (Ok n) → new ≡ decoded_plane (coded_blocks shape.inter shape.qp plane old shape.width shape.height) old shape.width shape.height →
    IsPlaneWritten shape plane old new out (put_mid at k out part) at (record { end = at + n; raw = false })
words_written shape plane old new out part at k n size inside written shown =
    let long : length (mid_of at k out) ≡ k = length-take k (drop at out) ∙ omega (arith, length-drop at out) in
    let fits : length (canon_plane (coded_blocks shape.inter shape.qp plane old shape.width shape.height)) ≤ k = omega (arith, written.0, written.1, long) in
    let form = coded_form shape.inter shape.qp plane old shape.width shape.height (omega (arith, fits, size)) in
    record {
      end = omega (arith, written.0) ∙ ap (λ (p : WrittenPlane). at + length p.bytes) (sym form);
      raw = ap (λ (p : WrittenPlane). p.raw) (sym form);
      bytes = part_written out part (canon_plane (coded_blocks shape.inter shape.qp plane old shape.width shape.height)) at k inside fits written.2 ∙ ap (λ (p : WrittenPlane). written_at out at p.bytes) (sym form);
      samples = shown ∙ ap (λ (p : WrittenPlane). p.samples) (sym form);
    }

-- The plane was written raw, where its words don't fit.
pub raw_written : (shape : Shape) (plane old new out first second : List ℕ) (at k stop : ℕ) (e : Full) → stop ≡ at + k → k ≡ padded shape.width * padded shape.height → at + k ≤ length out → length first ≡ k →
    Writes (mid_of at k out) first 0 (canon_plane (coded_blocks shape.inter shape.qp plane old shape.width shape.height)) (Err e) → second ≡ raw_plane plane shape.width shape.height → new ≡ map raw_sample plane →
    IsPlaneWritten shape plane old new out (put_mid at k (put_mid at k out first) second) at (record { end = stop; raw = true })
raw_written shape plane old new out first second at k stop e last size inside long full is shown =
    let mid : length (mid_of at k out) ≡ k = length-take k (drop at out) ∙ omega (arith, length-drop at out) in
    let form = raw_form shape.inter shape.qp plane old shape.width shape.height (omega (arith, full, mid, size)) in
    let many : length second ≡ k = ap length is ∙ length-raw_plane plane shape.width shape.height ∙ sym size in
    record {
      end = omega (arith, last, size, length-raw_plane plane shape.width shape.height) ∙ ap (λ (p : WrittenPlane). at + length p.bytes) (sym form);
      raw = ap (λ (p : WrittenPlane). p.raw) (sym form);
      bytes = part_again out first second at k inside long ∙ part_replaced out second at k inside many ∙ ap (λ bytes. written_at out at bytes) is ∙ ap (λ (p : WrittenPlane). written_at out at p.bytes) (sym form);
      samples = shown ∙ ap (λ (p : WrittenPlane). p.samples) (sym form);
    }
