-- What was written is the next frame of the definition. The planes are written as over the reference, and the header
-- is made of what was told of them; so bytes, length, type and the state afterwards are its own.
use Rattle.std.proofs.Common.{◌≡◌, ◌∙◌, sym, ap, subst, refl, ℕ, suc, ◌+◌, ◌-◌, ◌%◌, ◌<◌, ◌≤◌, List, [], ◌∷◌, ◌++◌, length, take, drop, map, arith, append_assoc, length-append}
use Rattle.std.specs.Prelude.{Bool, true, false, not, cond, nat_le, ◌&&◌}
use Rattle.std.proofs.lemmas.Bool.{and_parts}
use Rattle.std.proofs.lemmas.Bool.Decides.{nat_tests}
use Rattle.std.specs.declared.option.Option.{Option}
use Rattle.std.specs.declared.option.Option.TheVariants.{Some, None}
use Rattle.std.proofs.lemmas.List.{length-take-le, drop_at, length-map}
use Rattle.vc_base.specs.declared.Format.{Format}
use Rattle.vc_defs.specs.declared.Layout.{Layout}
use Rattle.vc_defs.specs.declared.Layout.TheVariants.{Grey, C420, C422}
use Rattle.vc_defs.specs.declared.Geometry.{Geometry}
use Rattle.vc_defs.specs.declared.Header.{Header}
use Rattle.vc_defs.specs.Bytes.{written_at}
use Rattle.vc_defs.specs.Headers.{header_bytes, is_legal_geometry, is_legal_number, is_whole_header, raw_suits, is_legal}
use Rattle.vc_base.specs.Limits.{most_bytes}
use Rattle.vc_defs.specs.Planes.{WrittenPlane}
use Rattle.vc_defs.specs.Bodies.{IsPicture, plane_shapes, shapes_of, padded_sum}
use Rattle.vc_defs.specs.Raw.{cut_into, planes_of, geometry_of}
use Rattle.vc_defs.specs.Decoder.{ReferenceState, reference_planes}
use Rattle.vc_defs.specs.Encoder.{RunRates, EncoderState, Encoded, written_planes, body_of, encoded_picture, is_key_due, next_encoded, encoder_after, encode}
use Rattle.vc_defs.proofs.EncodedFits.{frame_fits, FrameFits}
use Rattle.vc_defs.proofs.StateBetweenRuns.{length-header_bytes}
use Rattle.vc_work.specs.References.{CodecReference, reference_of, picture_in, picture_total}
use Rattle.vc_work.specs.Runs.{HasGeometry, put_over, with_state}
use Rattle.vc_frame.specs.Planes.{AreWritten}
use Rattle.vc_frame.specs.declared.planes.Body.{Body}
use Rattle.vc_frame.specs.declared.planes.Coding.{Coding}
use Rattle.vc_defs.specs.Laws.{IsRawFormat}
use Rattle.vc_frame.proofs.RawOrdersBothWays.{raw_total}
use Rattle.vc_frame.proofs.IFramesNeedNoReference.{intra_all_written}
use Rattle.vc_frame.proofs.AreasArePictures.{cut_of_shown}

-- The planes are written as over the reference, whatever lies in the area where there is none.
pub same_written : (g : Geometry) (geometry : Option Geometry) (number : Option ℕ) (area : List ℕ) (gop since iqp pqp : ℕ) (planes : List (List ℕ)) → HasGeometry g (picture_in geometry number area) →
    let key = is_key_due (picture_in geometry number area) since gop in
    written_planes (not key) (cond key iqp pqp) (plane_shapes g) planes (cut_into (plane_shapes g) area) ≡ written_planes (not key) (cond key iqp pqp) (plane_shapes g) planes (reference_planes (picture_in geometry number area))
same_written g None number area gop since iqp pqp planes h = intra_all_written iqp (plane_shapes g) planes (cut_into (plane_shapes g) area) []
same_written g (Some other) number area gop since iqp pqp planes h =
    let key : Bool = is_key_due (picture_in (Some other) number area) since gop in
    ap (λ (o : Geometry). written_planes (not key) (cond key iqp pqp) (plane_shapes g) planes (cut_into (plane_shapes o) area)) (sym h)

-- a header tells of three planes
told_three : (told : List Bool) → 0 < length told → take 3 (told ++ false ∷ false ∷ false ∷ []) ≡ take 3 (told ++ false ∷ false ∷ [])
told_three [] h = absurd (omega arith)
told_three (a ∷ []) h = refl
told_three (a ∷ (b ∷ [])) h = refl
told_three (a ∷ (b ∷ (c ∷ told))) h = refl

some_written : (inter : Bool) (qp : ℕ) (sizes : List (ℕ × ℕ)) (planes reference : List (List ℕ)) → length (written_planes inter qp sizes planes reference) ≡ length sizes
some_written inter qp [] planes reference = refl
some_written inter qp (size ∷ sizes) planes reference = ap (λ n. suc n) (some_written inter qp sizes (drop 1 planes) (drop 1 reference))

some_shapes : (layout : Layout) (width height : ℕ) → 0 < length (shapes_of layout width height)
some_shapes Grey width height = omega arith
some_shapes C420 width height = omega arith
some_shapes C422 width height = omega arith

-- the header of a frame, as it is made from what was written
header_is : (g : Geometry) (key : Bool) (qp number : ℕ) (planes reference : List (List ℕ)) (body : Body) (total : ℕ) (area shown out mid : List ℕ) →
    AreWritten (written_planes (not key) qp (plane_shapes g) planes reference) total area shown out mid 44 body →
    let h : Header = record { geometry = g; key = key; raw = body.raw; colour = 0 ∷ 0 ∷ 0 ∷ 0 ∷ []; size = body.end - 44; number = Some number } in
    h ≡ (encoded_picture g key qp number planes reference).header
header_is g key qp number planes reference body total area shown out mid w =
    let ws : List WrittenPlane = written_planes (not key) qp (plane_shapes g) planes reference in
    let told : List Bool = map (λ (p : WrittenPlane). p.raw) ws in
    let many : 0 < length told = omega (arith, length-map ws (λ (p : WrittenPlane). p.raw), some_written (not key) qp (plane_shapes g) planes reference, some_shapes g.layout g.width g.height) in
    let raw : body.raw ≡ take 3 (told ++ false ∷ false ∷ []) = w.raw ∙ told_three told many in
    let size : body.end - 44 ≡ length (body_of ws) = omega (arith, w.end) in
    ap (λ (r : List Bool). let h : Header = record { geometry = g; key = key; raw = r; colour = 0 ∷ 0 ∷ 0 ∷ 0 ∷ []; size = body.end - 44; number = Some number } in h) raw
    ∙ ap (λ (n : ℕ). let h : Header = record { geometry = g; key = key; raw = take 3 (told ++ false ∷ false ∷ []); colour = 0 ∷ 0 ∷ 0 ∷ 0 ∷ []; size = n; number = Some number } in h) size

-- a header in front of a body that stands behind its place
header_put : (header body out : List ℕ) → length header ≡ 44 → 44 + length body ≤ length out → put_over header (written_at out 44 body) ≡ put_over (header ++ body) out
header_put header body out long room =
    let front : length (take 44 out) ≡ 44 = length-take-le 44 out (omega arith) in
    let n : 44 + length body ≡ length (header ++ body) = omega (arith, long, length-append header body) in
    ap (λ k. header ++ drop k (written_at out 44 body)) long
    ∙ ap (λ (xs : List ℕ). header ++ drop 44 xs) (append_assoc (take 44 out) body (drop (44 + length body) out))
    ∙ ap (λ (xs : List ℕ). header ++ xs) (drop_at (take 44 out) (body ++ drop (44 + length body) out) 44 front)
    ∙ sym (append_assoc header body (drop (44 + length body) out))
    ∙ ap (λ k. (header ++ body) ++ drop k out) n

-- the next frame of a picture in a raw format, and its planes as they are written
abbrev pub next_of : Format → RunRates → EncoderState → List ℕ → Encoded
next_of format rates s raw = next_encoded (geometry_of format) s (planes_of format.fourcc format.width format.height raw) rates

abbrev pub next_written : Format → RunRates → EncoderState → List ℕ → List WrittenPlane
next_written format rates s raw =
    let key = is_key_due s.reference s.since_key rates.gop in
    written_planes (not key) (cond key rates.iqp rates.pqp) (plane_shapes (geometry_of format)) (planes_of format.fourcc format.width format.height raw) (reference_planes s.reference)

-- The planes of the next frame were written.
pub as_next : (format : Format) (rates : RunRates) (raw area bytes shown out mid : List ℕ) (geometry : Option Geometry) (number : Option ℕ) (since_key since_reset : ℕ) (r : CodecReference) (g : Geometry) (key : Bool) (coding : Coding) (body : Body) →
    g ≡ geometry_of format → bytes ≡ area → reference_of area geometry number since_key since_reset ≡ r → key ≡ is_key_due r.state.reference r.state.since_key rates.gop → coding.inter ≡ not key → coding.qp ≡ cond key rates.iqp rates.pqp →
    HasGeometry (geometry_of format) r.state.reference →
    AreWritten (written_planes coding.inter coding.qp (plane_shapes g) (planes_of format.fourcc g.width g.height raw) (cut_into (plane_shapes g) bytes)) (picture_total g) bytes shown out mid 44 body →
    AreWritten (next_written format rates r.state raw) (picture_total (geometry_of format)) area shown out mid 44 body
as_next format rates raw area bytes shown out mid geometry number since_key since_reset r g key coding body eg ea er ek ei eq same w =
    let f : Geometry = geometry_of format in
    let planes : List (List ℕ) = planes_of format.fourcc format.width format.height raw in
    let here : CodecReference = reference_of area geometry number since_key since_reset in
    let due : Bool = is_key_due (picture_in geometry number area) since_key rates.gop in
    let k : key ≡ due = ek ∙ ap (λ (x : CodecReference). is_key_due x.state.reference x.state.since_key rates.gop) (sym er) in
    let same_here : HasGeometry f (picture_in geometry number area) = subst (λ (x : CodecReference). HasGeometry f x.state.reference) (sym er) same in
    let one = subst (λ (x : Geometry). AreWritten (written_planes coding.inter coding.qp (plane_shapes x) (planes_of format.fourcc x.width x.height raw) (cut_into (plane_shapes x) bytes)) (picture_total x) bytes shown out mid 44 body) eg w in
    let two = subst (λ (x : List ℕ). AreWritten (written_planes coding.inter coding.qp (plane_shapes f) planes (cut_into (plane_shapes f) x)) (picture_total f) x shown out mid 44 body) ea one in
    let three = subst (λ (x : Bool). AreWritten (written_planes x coding.qp (plane_shapes f) planes (cut_into (plane_shapes f) area)) (picture_total f) area shown out mid 44 body) (ei ∙ ap not k) two in
    let four = subst (λ (x : ℕ). AreWritten (written_planes (not due) x (plane_shapes f) planes (cut_into (plane_shapes f) area)) (picture_total f) area shown out mid 44 body) (eq ∙ ap (λ (x : Bool). cond x rates.iqp rates.pqp) k) three in
    let five = subst (λ (x : List WrittenPlane). AreWritten x (picture_total f) area shown out mid 44 body) (same_written f geometry number area rates.gop since_key rates.iqp rates.pqp planes same_here) four in
    subst (λ (x : CodecReference). AreWritten (next_written format rates x.state raw) (picture_total f) area shown out mid 44 body) er five

-- a legal header is of a body of a legal size
size_small : (limit : ℕ) (h : Header) → is_legal limit h ≡ true → h.size ≤ most_bytes
unfolding is_legal
size_small limit h e =
    let a = and_parts (is_legal_geometry h.geometry && raw_suits h.geometry.layout h.raw && nat_le h.size most_bytes && nat_le h.size limit && is_legal_number h.number) (is_whole_header h) e in
    let b = and_parts (is_legal_geometry h.geometry && raw_suits h.geometry.layout h.raw && nat_le h.size most_bytes && nat_le h.size limit) (is_legal_number h.number) a.0 in
    let c = and_parts (is_legal_geometry h.geometry && raw_suits h.geometry.layout h.raw && nat_le h.size most_bytes) (nat_le h.size limit) b.0 in
    let t : nat_le h.size most_bytes ≡ true = (and_parts (is_legal_geometry h.geometry && raw_suits h.geometry.layout h.raw) (nat_le h.size most_bytes) c.0).1 in
    grind (arith, nat_tests)

-- What was written is the next frame: its header, its length, its bytes and the state after it.
pub record IsNext (format : Format) (rates : RunRates) (raw out mid shown : List ℕ) (r : CodecReference) (key : Bool) (header : Header) (body : Body) : Type 0 where
  pub legal : is_legal most_bytes header ≡ true
  pub long : body.end ≡ length (encode r.state format rates raw).bytes
  pub bytes : put_over (header_bytes header) mid ≡ put_over (encode r.state format rates raw).bytes out
  pub told : key ≡ (encode r.state format rates raw).key
  pub state : reference_of shown (Some (geometry_of format)) (Some r.state.since_reset) (cond key 1 (r.state.since_key + 1)) ((r.state.since_reset + 1) % 2048) ≡ with_state (encode r.state format rates raw).state r

-- no frame is longer than a header and the longest body
pub body_small : (format : Format) (rates : RunRates) (raw area shown out mid : List ℕ) (r : CodecReference) (body : Body) →
    is_legal_geometry (geometry_of format) ≡ true → IsPicture (geometry_of format) (planes_of format.fourcc format.width format.height raw) → r.state.since_reset < 2048 →
    AreWritten (next_written format rates r.state raw) (picture_total (geometry_of format)) area shown out mid 44 body → body.end ≤ 17694764
body_small format rates raw area shown out mid r body legal picture small w =
    let s : EncoderState = r.state in
    let due : Bool = is_key_due s.reference s.since_key rates.gop in
    let ff : FrameFits (geometry_of format) (next_of format rates s raw) = frame_fits (geometry_of format) due (cond due rates.iqp rates.pqp) s.since_reset (planes_of format.fourcc format.width format.height raw) (reference_planes s.reference) legal picture small in
    let few : length (body_of (next_written format rates s raw)) ≤ most_bytes = size_small most_bytes (next_of format rates s raw).header ff.legal in
    omega (arith, w.end, few)

pub is_next : (format : Format) (rates : RunRates) (raw area shown out mid : List ℕ) (r : CodecReference) (g : Geometry) (number : ℕ) (key : Bool) (header : Header) (body : Body) →
    is_legal_geometry (geometry_of format) ≡ true → IsPicture (geometry_of format) (planes_of format.fourcc format.width format.height raw) → r.state.since_reset < 2048 →
    44 + padded_sum (geometry_of format) ≤ length out → length shown ≡ r.size → g ≡ geometry_of format → number ≡ r.state.since_reset → key ≡ is_key_due r.state.reference r.state.since_key rates.gop →
    header ≡ record { geometry = g; key = key; raw = body.raw; colour = 0 ∷ 0 ∷ 0 ∷ 0 ∷ []; size = body.end - 44; number = Some number } →
    AreWritten (next_written format rates r.state raw) (picture_total (geometry_of format)) area shown out mid 44 body →
    IsNext format rates raw out mid shown r key header body
unfolding encode
is_next format rates raw area shown out mid r g number key header body legal picture small room long eg en ek eh w =
    let f : Geometry = geometry_of format in
    let s : EncoderState = r.state in
    let due : Bool = is_key_due s.reference s.since_key rates.gop in
    let qp : ℕ = cond due rates.iqp rates.pqp in
    let planes : List (List ℕ) = planes_of format.fourcc format.width format.height raw in
    let ws : List WrittenPlane = next_written format rates s raw in
    let e : Encoded = next_of format rates s raw in
    let ff : FrameFits f e = frame_fits f due qp s.since_reset planes (reference_planes s.reference) legal picture small in
    let h : header ≡ e.header =
    eh ∙ ap (λ (x : Geometry). let h : Header = record { geometry = x; key = key; raw = body.raw; colour = 0 ∷ 0 ∷ 0 ∷ 0 ∷ []; size = body.end - 44; number = Some number } in h) eg
    ∙ ap (λ (x : Bool). let h : Header = record { geometry = f; key = x; raw = body.raw; colour = 0 ∷ 0 ∷ 0 ∷ 0 ∷ []; size = body.end - 44; number = Some number } in h) ek
    ∙ ap (λ (x : ℕ). let h : Header = record { geometry = f; key = due; raw = body.raw; colour = 0 ∷ 0 ∷ 0 ∷ 0 ∷ []; size = body.end - 44; number = Some x } in h) en
    ∙ header_is f due qp s.since_reset planes (reference_planes s.reference) body (picture_total f) area shown out mid w in
    let hb : length (header_bytes e.header) ≡ 44 = length-header_bytes most_bytes e.header ff.legal in
    let cut : cut_into (plane_shapes f) shown ≡ map (λ (p : WrittenPlane). p.samples) ws =
    ap (cut_into (plane_shapes f)) w.samples ∙ cut_of_shown (plane_shapes f) ws (drop (picture_total f) area) ff.picture.0 in
    record {
      legal = subst (λ (x : Header). is_legal most_bytes x ≡ true) (sym h) ff.legal;
      long = omega (arith, w.end, hb, length-append (header_bytes e.header) (body_of ws));
      bytes = ap (λ (x : Header). put_over (header_bytes x) mid) h ∙ ap (put_over (header_bytes e.header)) w.bytes
          ∙ header_put (header_bytes e.header) (body_of ws) out hb (omega (arith, room, ff.short));
      told = ek;
      state = ap (λ (x : List (List ℕ)). let rs : ReferenceState = record { geometry = f; planes = x; number = Some s.since_reset } in let st : EncoderState = record {
        reference = Some rs;
        since_key = cond key 1 (s.since_key + 1);
        since_reset =
            (s.since_reset + 1) % 2048;
      } in let c : CodecReference = record { size = length shown; state = st } in c) cut
          ∙ ap (λ (x : Bool). let rs : ReferenceState = record { geometry = f; planes = map (λ (p : WrittenPlane). p.samples) ws; number = Some s.since_reset } in let st : EncoderState = record {
            reference = Some rs;
            since_key = cond x 1 (s.since_key + 1);
            since_reset =
                (s.since_reset + 1) % 2048;
          } in let c : CodecReference = record { size = length shown; state = st } in c) ek
          ∙ ap (λ (x : ℕ). let c : CodecReference = record { size = x; state = encoder_after s e } in c) long;
    }

-- a raw picture has as many bytes as its planes have samples
pub format_total : (format : Format) → IsRawFormat format → picture_total (geometry_of format) ≡ format.size
format_total format h = raw_total format.fourcc format.width format.height h.0 ∙ sym h.1

-- the number of frames since the last I frame stays below the longest GOP
pub key_small : (reference : Option ReferenceState) (since gop : ℕ) → gop ≤ 16 → cond (is_key_due reference since gop) 1 (since + 1) ≤ 16
key_small None since gop h = omega arith
key_small (Some r) since gop h = by_test (nat_le gop since) refl
  where
    by_test : (b : Bool) → nat_le gop since ≡ b → cond b 1 (since + 1) ≤ 16
    by_test true e = omega arith
    by_test false e = grind (arith, nat_tests)

-- What an encoder found in a reference, wrote, and leaves there: the next frame and the state after it.
pub next_is : (format : Format) (rates : RunRates) (raw area bytes shown out mid : List ℕ) (geometry : Option Geometry) (number : Option ℕ) (since_key since_reset : ℕ) (r : CodecReference) (g : Geometry) (key : Bool) (coding : Coding) (body : Body) (header : Header) →
    IsRawFormat format → g ≡ geometry_of format → bytes ≡ area → reference_of area geometry number since_key since_reset ≡ r → key ≡ is_key_due r.state.reference r.state.since_key rates.gop → coding.inter ≡ not key → coding.qp ≡ cond key rates.iqp rates.pqp →
    HasGeometry (geometry_of format) r.state.reference → since_reset < 2048 → 44 + padded_sum (geometry_of format) ≤ length out → length shown ≡ length bytes →
    IsPicture g (planes_of format.fourcc g.width g.height raw) →
    AreWritten (written_planes coding.inter coding.qp (plane_shapes g) (planes_of format.fourcc g.width g.height raw) (cut_into (plane_shapes g) bytes)) (picture_total g) bytes shown out mid 44 body →
    header ≡ record { geometry = g; key = key; raw = body.raw; colour = 0 ∷ 0 ∷ 0 ∷ 0 ∷ []; size = body.end - 44; number = Some since_reset } →
    IsNext format rates raw out mid shown r key header body
next_is format rates raw area bytes shown out mid geometry number since_key since_reset r g key coding body header f eg ea er ek ei eq same small room long picture w eh =
    let reset : since_reset ≡ r.state.since_reset = ap (λ (x : CodecReference). x.state.since_reset) er in
    let size : length area ≡ r.size = ap (λ (x : CodecReference). x.size) er in
    is_next format rates raw area shown out mid r g since_reset key header body f.0.1
    (subst (λ (x : Geometry). IsPicture x (planes_of format.fourcc x.width x.height raw)) eg picture)
    (omega (arith, reset, small)) room (long ∙ ap length ea ∙ size) eg reset ek eh
    (as_next format rates raw area bytes shown out mid geometry number since_key since_reset r g key coding body eg ea er ek ei eq same w)

-- The next frame is no longer than a header and the longest body.
pub next_small : (format : Format) (rates : RunRates) (raw area bytes shown out mid : List ℕ) (geometry : Option Geometry) (number : Option ℕ) (since_key since_reset : ℕ) (r : CodecReference) (g : Geometry) (key : Bool) (coding : Coding) (body : Body) →
    IsRawFormat format → g ≡ geometry_of format → bytes ≡ area → reference_of area geometry number since_key since_reset ≡ r → key ≡ is_key_due r.state.reference r.state.since_key rates.gop → coding.inter ≡ not key → coding.qp ≡ cond key rates.iqp rates.pqp →
    HasGeometry (geometry_of format) r.state.reference → since_reset < 2048 →
    IsPicture g (planes_of format.fourcc g.width g.height raw) →
    AreWritten (written_planes coding.inter coding.qp (plane_shapes g) (planes_of format.fourcc g.width g.height raw) (cut_into (plane_shapes g) bytes)) (picture_total g) bytes shown out mid 44 body →
    body.end ≤ 17694764
next_small format rates raw area bytes shown out mid geometry number since_key since_reset r g key coding body f eg ea er ek ei eq same small picture w =
    let reset : since_reset ≡ r.state.since_reset = ap (λ (x : CodecReference). x.state.since_reset) er in
    body_small format rates raw area shown out mid r body f.0.1
    (subst (λ (x : Geometry). IsPicture x (planes_of format.fourcc x.width x.height raw)) eg picture) (omega (arith, reset, small))
    (as_next format rates raw area bytes shown out mid geometry number since_key since_reset r g key coding body eg ea er ek ei eq same w)

-- the reference as an encoder leaves it
pub left_is : (shown items : List ℕ) (g f : Geometry) (since_key since_reset count : ℕ) (key : Bool) (r after : CodecReference) → items ≡ shown → g ≡ f → since_reset ≡ r.state.since_reset → since_key ≡ r.state.since_key → count ≡ cond key 1 (since_key + 1) →
    reference_of shown (Some f) (Some r.state.since_reset) (cond key 1 (r.state.since_key + 1)) ((r.state.since_reset + 1) % 2048) ≡ after →
    reference_of items (Some g) (Some since_reset) count ((since_reset + 1) % 2048) ≡ after
left_is shown items g f since_key since_reset count key r after a b c d e is =
    ap (λ (x : List ℕ). reference_of x (Some g) (Some since_reset) count ((since_reset + 1) % 2048)) a
    ∙ ap (λ (x : Geometry). reference_of shown (Some x) (Some since_reset) count ((since_reset + 1) % 2048)) b
    ∙ ap (λ (x : ℕ). reference_of shown (Some f) (Some x) count ((x + 1) % 2048)) c
    ∙ ap (λ (x : ℕ). reference_of shown (Some f) (Some r.state.since_reset) x ((r.state.since_reset + 1) % 2048)) (e ∙ ap (λ (x : ℕ). cond key 1 (x + 1)) d)
    ∙ is

pub count_small : (count since : ℕ) (key : Bool) (r : CodecReference) (gop : ℕ) → count ≡ cond key 1 (since + 1) → key ≡ is_key_due r.state.reference r.state.since_key gop → since ≡ r.state.since_key → gop ≤ 16 → count ≤ 16
count_small count since key r gop e k s h =
    let is : count ≡ cond (is_key_due r.state.reference r.state.since_key gop) 1 (r.state.since_key + 1) = e ∙ ap (λ (x : ℕ). cond key 1 (x + 1)) s ∙ ap (λ (x : Bool). cond x 1 (r.state.since_key + 1)) k in
    omega (arith, is, key_small r.state.reference r.state.since_key gop h)

pub number_small : (number : ℕ) → number < 2048 → is_legal_number (Some number) ≡ true
number_small number h = grind (arith, nat_tests)
