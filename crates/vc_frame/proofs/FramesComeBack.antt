-- A frame that an encoder wrote gives a decoder exactly the encoder's reference. Header and body are read back as
-- they were written, and the planes that are read are those that the encoder kept.
use Rattle.std.proofs.Common.{◌≡◌, ◌∙◌, sym, ap, subst, refl, ℕ, ◌+◌, ◌%◌, ◌<◌, ◌≤◌, List, length, take, drop, arith}
use Rattle.std.specs.Prelude.{Bool, true, false, cond, nat_eq, nat_le, ◌&&◌, ◌||◌}
use Rattle.std.specs.List.{All}
use Rattle.std.specs.declared.option.Option.{Option}
use Rattle.std.specs.declared.option.Option.TheVariants.{Some, None}
use Rattle.std.proofs.lemmas.Bool.{and_parts, and_from, cond-true}
use Rattle.std.proofs.lemmas.Bool.Decides.{nat_tests}
use Rattle.std.proofs.lemmas.List.{take_at, drop_at}
use Rattle.std.proofs.lemmas.List.Elements.{All-nil}
use Rattle.vc_defs.specs.declared.Geometry.{Geometry}
use Rattle.vc_defs.specs.declared.Header.{Header}
use Rattle.vc_defs.specs.Headers.{header_bytes, header_from, is_legal_geometry, is_legal_size, size_suits}
use Rattle.vc_base.specs.Limits.{most_bytes}
use Rattle.vc_defs.specs.Bodies.{IsPicture, body_planes}
use Rattle.vc_defs.specs.Raw.{raw_of, geometry_of}
use Rattle.vc_defs.specs.Decoder.{ReferenceState, reference_planes, same_geometry, is_next_number, follows_reference, frame_planes}
use Rattle.vc_defs.specs.Encoder.{RunRates, EncoderState, Encoded, EncodedFrame, is_key_due, next_encoded, encoded_bytes, encoder_after, encode}
use Rattle.vc_defs.specs.Laws.{IsReferenceOf}
use Rattle.vc_defs.proofs.EncodedFits.{frame_fits, FrameFits, encodes_planes}
use Rattle.vc_defs.proofs.HeadersAreRead.{header_back}
use Rattle.vc_defs.proofs.RunsResume.{same_geometry_is}
use Rattle.vc_defs.proofs.StateBetweenRuns.{length-header_bytes}
use Rattle.vc_defs.proofs.WrittenBodiesAreRead.{body_back}
use Rattle.vc_frame.specs.Frames.{picture_of}
use Rattle.vc_frame.specs.Laws.{CountsOn, IsFollowed, FramesComeBack}

abbrev AreSamples : List ℕ → Type 0
AreSamples samples = All (λ s. s < 256) samples

reference_samples : (g : Geometry) (r : Option ReferenceState) → IsReferenceOf g r → All AreSamples (reference_planes r)
reference_samples g None h = All-nil AreSamples
reference_samples g (Some r) h = h.1.1

wide : (g : Geometry) → is_legal_geometry g ≡ true → 16 ≤ g.width
wide g e =
    let size = and_parts (is_legal_size g.width g.height) (size_suits g.layout g.width g.height) e in
    let a = and_parts (nat_le 16 g.width && nat_le g.width 4096 && nat_le 16 g.height) (nat_le g.height 2160) size.0 in
    let b = and_parts (nat_le 16 g.width && nat_le g.width 4096) (nat_le 16 g.height) a.0 in
    let w : nat_le 16 g.width ≡ true = (and_parts (nat_le 16 g.width) (nat_le g.width 4096) b.0).0 in
    grind (arith, nat_tests)

-- the next frame is an I frame, or goes on from the reference
goes_on : (g : Geometry) (r : Option ReferenceState) (since next gop : ℕ) (h : Header) → IsReferenceOf g r → CountsOn r next → h.geometry ≡ g → h.number ≡ Some next → h.key ≡ is_key_due r since gop → (h.key || follows_reference h r) ≡ true
goes_on g None since next gop h i c eg en ek = ap (λ (b : Bool). b || false) ek
goes_on g (Some r) since next gop h i c eg en ek = either h.key (and_from (same_geometry r.geometry h.geometry) (is_next_number r.number h.number) same follows)
  where
    either : (a : Bool) {b : Bool} → b ≡ true → (a || b) ≡ true
    either true e = refl
    either false e = e

    equal : (m n : ℕ) → m ≡ n → nat_eq m n ≡ true
    equal m n e = grind (arith, nat_tests)

    same : same_geometry r.geometry h.geometry ≡ true
    same = ap (λ (x : Geometry). same_geometry x h.geometry) i.0 ∙ ap (λ (x : Geometry). same_geometry g x) eg ∙ same_geometry_is g

    follows : is_next_number r.number h.number ≡ true
    follows = ap (λ (o : Option ℕ). is_next_number o h.number) c.1.0 ∙ ap (λ (o : Option ℕ). is_next_number (Some c.0) o) en ∙ equal next ((c.0 + 1) % 2048) c.1.1

comes_back : (s : EncoderState) (g : Geometry) (rates : RunRates) (planes : List (List ℕ)) → is_legal_geometry g ≡ true → IsPicture g planes → IsFollowed g s →
    let e = next_encoded g s planes rates in
    (h : Header) × ((header_from most_bytes (take 44 (encoded_bytes e)) ≡ Some h) × (picture_of h (frame_planes h s.reference (drop 44 (encoded_bytes e))) ≡ (encoder_after s e).reference) × IsFollowed g (encoder_after s e))
comes_back s g rates planes legal p f =
    let e : Encoded = next_encoded g s planes rates in
    let due : Bool = is_key_due s.reference s.since_key rates.gop in
    let ff : FrameFits g e = frame_fits g due (cond due rates.iqp rates.pqp) s.since_reset planes (reference_planes s.reference) legal p f.0.1 in
    let long : length (header_bytes e.header) ≡ 44 = length-header_bytes most_bytes e.header ff.legal in
    let front : take 44 (encoded_bytes e) ≡ header_bytes e.header = take_at (header_bytes e.header) e.body 44 long in
    let back : drop 44 (encoded_bytes e) ≡ e.body = drop_at (header_bytes e.header) e.body 44 long in
    let body : body_planes e.header (reference_planes s.reference) e.body ≡ Some e.planes =
    body_back g due (cond due rates.iqp rates.pqp) s.since_reset planes (reference_planes s.reference) (wide g legal) p (reference_samples g s.reference f.0.0) in
    let given : frame_planes e.header s.reference e.body ≡ Some e.planes =
    cond-true (e.header.key || follows_reference e.header s.reference) (body_planes e.header (reference_planes s.reference) e.body) None (goes_on g s.reference s.since_key s.since_reset rates.gop e.header f.0.0 f.1 refl refl refl) ∙ body in (
      e.header,
      (
        ap (header_from most_bytes) front ∙ header_back most_bytes e.header ff.legal,
        ap (λ (b : List ℕ). picture_of e.header (frame_planes e.header s.reference b)) back ∙ ap (picture_of e.header) given,
        (((refl, ff.picture), omega arith), (s.since_reset, (refl, refl))),
      ),
    )

pub frames_come_back : FramesComeBack
frames_come_back s format rates planes raw p f =
    let g : Geometry = geometry_of format in
    let e : Encoded = next_encoded g s planes rates in
    let made : EncodedFrame = record { bytes = encoded_bytes e; key = e.header.key; state = encoder_after s e } in
    let is : encode s format rates (raw_of format.fourcc planes) ≡ made = encodes_planes s format rates planes raw.0 p in
    subst (λ (frame : EncodedFrame). (h : Header) × ((header_from most_bytes (take 44 frame.bytes) ≡ Some h) × (picture_of h (frame_planes h s.reference (drop 44 frame.bytes)) ≡ frame.state.reference) × IsFollowed g frame.state)) (sym is)
    (comes_back s g rates planes raw.0.1 p f)
