-- A picture lies in an area as its planes one behind the other. It depends on the front of the area alone, so that to
-- copy as many bytes as it has is to copy the picture.
use Rattle.std.proofs.Common.{◌≡◌, ◌∙◌, sym, ap, subst, refl, ℕ, ◌+◌, ◌*◌, ◌≤◌, List, [], ◌∷◌, ◌++◌, length, take, drop, length-append, length-drop, arith}
use Rattle.std.specs.Prelude.{min}
use Rattle.std.specs.declared.option.Option.{Option}
use Rattle.std.specs.declared.option.Option.TheVariants.{Some, None}
use Rattle.std.proofs.lemmas.List.{take-take, take-append-le, drop-take, length-take}
use Rattle.vc_defs.specs.declared.Geometry.{Geometry}
use Rattle.vc_defs.specs.Bodies.{plane_shapes}
use Rattle.vc_defs.specs.Raw.{cut_into}
use Rattle.vc_defs.specs.Decoder.{ReferenceState}
use Rattle.vc_defs.specs.Encoder.{EncoderState}
use Rattle.vc_work.specs.References.{CodecReference, reference_of, plane_total, picture_total, picture_in, HasRoomFor, HoldsPicture}

-- Planes at the front of bytes depend on their own samples alone.
pub cut_front : (shapes : List (ℕ × ℕ)) (a b : List ℕ) → take (plane_total shapes) a ≡ take (plane_total shapes) b → cut_into shapes a ≡ cut_into shapes b
cut_front [] a b e = refl
cut_front (shape ∷ shapes) a b e =
    let n = shape.0 * shape.1 in
    let t = plane_total shapes in
    let first : take n a ≡ take n b = sym (take-take n (n + t) a (omega arith)) ∙ ap (take n) e ∙ take-take n (n + t) b (omega arith) in
    let later : take t (drop n a) ≡ take t (drop n b) = sym (drop-take n t a) ∙ ap (drop n) e ∙ drop-take n t b in
    ap (λ p. p ∷ cut_into shapes (drop n a)) first ∙ ap (λ ps. take n b ∷ ps) (cut_front shapes (drop n a) (drop n b) later)

-- A picture that was copied is the same picture.
pub picture_copied : (geometry : Option Geometry) (number : Option ℕ) (old source : List ℕ) → HasRoomFor (picture_in geometry number source) (length old) → HasRoomFor (picture_in geometry number source) (length source) →
    picture_in geometry number (take (min (length old) (length source)) source ++ drop (min (length old) (length source)) old) ≡ picture_in geometry number source
picture_copied None number old source r s = refl
picture_copied (Some g) number old source r s =
    let both = min (length old) (length source) in
    let within : picture_total g ≤ both = omega (arith, r, s) in
    let front : take (picture_total g) (take both source ++ drop both old) ≡ take (picture_total g) source =
    take-append-le (picture_total g) (take both source) (drop both old) (omega (arith, within, length-take both source)) ∙ take-take (picture_total g) both source within in
    ap (λ planes. Some (record { geometry = g; planes = planes; number = number })) (cut_front (plane_shapes g) (take both source ++ drop both old) source front)

-- A picture that is held fits.
pub held_fits : (geometry : Option Geometry) (number : Option ℕ) (area : List ℕ) → HoldsPicture geometry (length area) → HasRoomFor (picture_in geometry number area) (length area)
held_fits None number area h = tt
held_fits (Some g) number area h = h.1

-- A reference that took another one over has its state and keeps its own size.
pub taken_over : (mine others : CodecReference) (old source new : List ℕ) (g geometry : Option Geometry) (n number : Option ℕ) (k r since_key since_reset : ℕ) →
    reference_of old g n k r ≡ mine → reference_of source geometry number since_key since_reset ≡ others → HasRoomFor others.state.reference mine.size → HoldsPicture geometry (length source) →
    new ≡ take (min (length old) (length source)) source ++ drop (min (length old) (length source)) old →
    reference_of new geometry number since_key since_reset ≡ record { size = mine.size; state = others.state }
taken_over mine others old source new g geometry n number k r since_key since_reset m o room held e =
    let size : length old ≡ mine.size = ap (λ (c : CodecReference). c.size) m in
    let state : reference_of source geometry number since_key since_reset ≡ others = o in
    let fits : HasRoomFor (picture_in geometry number source) (length old) =
    subst (λ (p : Option ReferenceState). HasRoomFor p (length old)) (sym (ap (λ (c : CodecReference). c.state.reference) o)) (subst (λ (s : ℕ). HasRoomFor others.state.reference s) (sym size) room) in
    let picture : picture_in geometry number new ≡ picture_in geometry number source =
    ap (picture_in geometry number) e ∙ picture_copied geometry number old source fits (held_fits geometry number source held) in
    let long : length new ≡ mine.size =
    ap length e ∙ length-append (take (min (length old) (length source)) source) (drop (min (length old) (length source)) old)
    ∙ omega (arith, size, length-take (min (length old) (length source)) source, length-drop (min (length old) (length source)) old) in
    let s : EncoderState = record { reference = picture_in geometry number source; since_key = since_key; since_reset = since_reset } in
    ap (λ (p : Option ReferenceState). let st : EncoderState = record { reference = p; since_key = since_key; since_reset = since_reset } in let c : CodecReference = record { size = length new; state = st } in c) picture
    ∙ ap (λ (x : ℕ). let c : CodecReference = record { size = x; state = s } in c) long
    ∙ ap (λ (c : CodecReference). let d : CodecReference = record { size = mine.size; state = c.state } in d) o
