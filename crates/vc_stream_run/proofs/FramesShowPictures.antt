-- A whole frame of the present geometry that gives planes ends the run with their picture. Its raw form has the
-- format's size, since both are made of the same width, height and layout.
use Rattle.std.proofs.Common.{◌≡◌, ◌∙◌, sym, ap, refl, subst, ℕ, List, [], ◌∷◌, length}
use Rattle.std.specs.Prelude.{Bool, true, false, ◌||◌, cond, IsSome}
use Rattle.std.specs.declared.option.Option.{Option}
use Rattle.std.specs.declared.option.Option.TheVariants.{Some, None}
use Rattle.std.proofs.lemmas.Option.{none-some}
use Rattle.std.proofs.lemmas.Bool.{cond-true, cond-false}
use Rattle.vc_base.specs.declared.Stamp.{Stamp}
use Rattle.vc_base.specs.declared.Format.{Format}
use Rattle.vc_defs.specs.declared.Geometry.{Geometry}
use Rattle.vc_defs.specs.declared.Header.{Header}
use Rattle.vc_defs.specs.Places.{Frame}
use Rattle.vc_defs.specs.Finds.{Ended}
use Rattle.vc_defs.specs.Bodies.{IsPicture, body_planes}
use Rattle.vc_defs.specs.Raw.{raw_of, geometry_of}
use Rattle.vc_defs.specs.Laws.{IsRawFormat}
use Rattle.vc_defs.specs.Decoder.{BetweenFrames, ReferenceState, same_geometry, is_present, is_passed_over, follows_reference, reference_planes, frame_planes, picture_planes, given_by, given_at_end, given_by_find}
use Rattle.vc_defs.proofs.StateBetweenRuns.{geometry_same}
use Rattle.vc_defs.proofs.RawBothWays.{raw_has_its_size}
use Rattle.vc_defs.proofs.DecodedIsPicture.{decoded_is_picture}
use Rattle.vc_work.specs.References.{CodecReference, picture_total, with_picture}
use Rattle.vc_frame.specs.Frames.{picture_of, shown_over}
use Rattle.vc_frame.proofs.RawOrdersBothWays.{raw_total}
use Rattle.vc_stream_run.specs.declared.decoded.Decoded.TheVariants.{Picture}
use Rattle.vc_stream_run.specs.Steps.{RunPoint, present_of, ended_by}

-- the bytes of a picture of the present geometry
pub total_is : (format : Format) (geometry : Geometry) (h : Header) → IsRawFormat format → geometry_of format ≡ geometry → same_geometry geometry h.geometry ≡ true → picture_total h.geometry ≡ format.size
total_is format geometry h raw same is =
    ap (λ (g : Geometry). picture_total g) (sym (same ∙ geometry_same geometry h.geometry is)) ∙ raw_total format.fourcc format.width format.height raw.0 ∙ sym raw.1

-- the planes of a frame that gives any are those of its body
planes_of_body : (h : Header) (r : Option ReferenceState) (body : List ℕ) (planes : List (List ℕ)) → frame_planes h r body ≡ Some planes → body_planes h (reference_planes r) body ≡ Some planes
planes_of_body h r body planes e = by_test (h.key || follows_reference h r) e
  where
    by_test : (b : Bool) → cond b (body_planes h (reference_planes r) body) None ≡ Some planes → body_planes h (reference_planes r) body ≡ Some planes
    by_test true e = e
    by_test false e = absurd (none-some planes e)

-- a picture in the raw format has the format's size
picture_long : (format : Format) (h : Header) (r : Option ReferenceState) (body : List ℕ) (planes : List (List ℕ)) → IsRawFormat format → geometry_of format ≡ h.geometry → frame_planes h r body ≡ Some planes → length (raw_of format.fourcc planes) ≡ format.size
picture_long format h r body planes raw same e =
    let p : IsPicture h.geometry planes = decoded_is_picture h (reference_planes r) body planes (planes_of_body h r body planes e) in
    raw_has_its_size format.fourcc format.width format.height planes raw.0 (subst (λ (g : Geometry). IsPicture g planes) (sym same) p) ∙ sym raw.1

or_true : (b c : Bool) → c ≡ true → (b || c) ≡ true
or_true true c e = refl
or_true false c e = e

-- a whole frame of the present geometry gives what its header and body give
pub planes_at_end : (f : Frame) (h : Header) (body : List ℕ) (geometry : Geometry) (reference : Option ReferenceState) → f.header ≡ h → f.body ≡ Some body → same_geometry geometry h.geometry ≡ true → picture_planes f (present_of (Some geometry) reference) ≡ frame_planes h reference body
planes_at_end f h body geometry reference eh eb is =
    ap (λ (o : Option (List ℕ)). picture_planes (record { position = f.position; end = f.end; header = f.header; body = o; known = f.known }) (present_of (Some geometry) reference)) eb
    ∙ ap (λ (x : Header). picture_planes (record { position = f.position; end = f.end; header = x; body = Some body; known = f.known }) (present_of (Some geometry) reference)) eh
    ∙ cond-true (h.key || is_present (Some geometry) h.geometry) (frame_planes h reference body) None (or_true h.key (same_geometry geometry h.geometry) is)

-- A frame that gives planes ends the run with a picture.
pub shows_picture : (format : Format) (geometry : Geometry) (h : Header) (body : List ℕ) (stamp : Stamp) (r new : CodecReference) (dest shown : List ℕ) → IsRawFormat format → geometry_of format ≡ geometry → is_passed_over h r.state.reference ≡ false → same_geometry geometry h.geometry ≡ true →
    IsSome (frame_planes h r.state.reference body) → new ≡ with_picture (picture_of h (frame_planes h r.state.reference body)) r → shown ≡ shown_over format.fourcc (frame_planes h r.state.reference body) dest →
    (f : Frame) → f.header ≡ h → f.body ≡ Some body →
    record { answer = Some (Picture format.size h.key stamp); reference = new; dest = shown } ≡ ended_by format.fourcc stamp r dest (given_by_find (Ended f) (present_of (Some geometry) r.state.reference))
shows_picture format geometry h body stamp r new dest shown raw same passed is some en es f eh eb = by_planes (frame_planes h r.state.reference body) refl some
  where
    now : BetweenFrames
    now = present_of (Some geometry) r.state.reference

    given : (o : Option (List (List ℕ))) → frame_planes h r.state.reference body ≡ o → given_by_find (Ended f) now ≡ given_by f now o ∷ []
    given o e =
        cond-false (is_passed_over f.header r.state.reference) [] (given_at_end f now ∷ []) (ap (λ (x : Header). is_passed_over x r.state.reference) eh ∙ passed)
        ∙ ap (λ (p : Option (List (List ℕ))). given_by f now p ∷ []) (planes_at_end f h body geometry r.state.reference eh eb is ∙ e)

    by_planes : (o : Option (List (List ℕ))) → frame_planes h r.state.reference body ≡ o → IsSome o → record { answer = Some (Picture format.size h.key stamp); reference = new; dest = shown } ≡ ended_by format.fourcc stamp r dest (given_by_find (Ended f) now)
    by_planes None e some = absurd cc
    by_planes (Some planes) e some =
        let long : format.size ≡ length (raw_of format.fourcc planes) = sym (picture_long format h r.state.reference body planes raw (same ∙ geometry_same geometry h.geometry is) e) in
        let new_is : new ≡ with_picture (picture_of h (Some planes)) r = en ∙ ap (λ (p : Option (List (List ℕ))). with_picture (picture_of h p) r) e in
        let shown_is : shown ≡ shown_over format.fourcc (Some planes) dest = es ∙ ap (λ (p : Option (List (List ℕ))). shown_over format.fourcc p dest) e in
        let point : ℕ → CodecReference → List ℕ → RunPoint = λ n c d. record { answer = Some (Picture n h.key stamp); reference = c; dest = d } in
        ap (λ n. point n new shown) long
        ∙ ap (λ (c : CodecReference). point (length (raw_of format.fourcc planes)) c shown) new_is
        ∙ ap (λ d. point (length (raw_of format.fourcc planes)) (with_picture (picture_of h (Some planes)) r) d) shown_is
        ∙ ap (λ (x : Header). record { answer = Some (Picture (length (raw_of format.fourcc planes)) x.key stamp); reference = with_picture (picture_of x (Some planes)) r; dest = shown_over format.fourcc (Some planes) dest }) (sym eh)
        ∙ ap (λ xs. ended_by format.fourcc stamp r dest xs) (sym (given (Some planes) e))
