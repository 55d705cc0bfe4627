-- What the runs of a segment gave is what the sequential codec gives for what they consumed (docs/FORMAT.md, "The
-- sequential decoder" and "The sequential encoder").
use Rattle.std.specs.Prelude.{ℕ, ◌≡◌, ◌⊎◌, ◌+◌, ◌==◌, Bool, true, false, not, get_or, map, length, Some, None, List, [], ◌∷◌}
use mathlib.Core.List.{IsPrefix}
use Rattle.std.specs.List.{filter, All}
use Rattle.vc_base.specs.declared.Kind.TheVariants.{Enc, Dec}
use Rattle.vc_base.specs.declared.Format.{Format}
use Rattle.vc_base.specs.Buffers.{Buffer, zero_stamp}
use Rattle.vc_base.specs.Limits.{last_flag, error_flag}
use Rattle.vc_defs.specs.Raw.{geometry_of, planes_of, raw_of}
use Rattle.vc_defs.specs.Decoder.{FrameResult, ResultKind, Picture, Damaged, Changed, results}
use Rattle.vc_defs.specs.Encoder.{RunRates, Encoded, encoded, encoded_bytes}
use Rattle.vc_model.specs.Coder.{Coder, the_coder}
use Rattle.vc_model.specs.Context.{Context, Running}
use Rattle.vc_model.specs.Runs.{type_flag}
use Rattle.vc_model.specs.Solo.{SoloEvent, solo_slot}
use Rattle.vc_defs.specs.Outputs.{is_change_result}
use Rattle.vc_laws.specs.Segments.{SegmentResult, EncodedPicture, Segment, segment_of, whats}

-- Decoders

abbrev pub is_picture_kind : ResultKind → Bool
is_picture_kind (Picture geometry key planes) = true
is_picture_kind Damaged = false
is_picture_kind (Changed geometry) = false

abbrev pub is_picture : FrameResult → Bool
is_picture r = is_picture_kind r.kind

abbrev pub is_no_change : FrameResult → Bool
is_no_change r = not (is_change_result r.kind)

-- what the sequential decoder gives for the segment's bytes, under the limit and from the geometry of the first run
abbrev pub results_of : Segment → Running → List FrameResult
results_of seg r = results seg.bytes r.limit r.geometry None

-- The results of a segment are the first of the sequential decoder's, and all of them but after a run that told a change
-- alone; its pictures are all pictures there; and each has the stamp of the byte at its position.
pub record FollowsDecoder (seg : Segment) (r : Running) : Type 0 where
  pub front : IsPrefix (whats seg) (results_of seg r)
  pub all : seg.given ≡ true → whats seg ≡ results_of seg r
  pub pictures : filter is_picture (whats seg) ≡ filter is_picture (results_of seg r)
  pub stamps : All (λ (x : SegmentResult). x.stamp ≡ get_or seg.stamps x.what.position zero_stamp) seg.results

-- `r` is what the first run of the segment took; before it a segment has neither bytes nor results.
abbrev pub Follows : Type 0
Follows =
    (events : List SoloEvent) (c : Context) (r : Running) → solo_slot the_coder None events ≡ Some c → c.kind ≡ Dec
    → (segment_of the_coder events).first ≡ Some r → FollowsDecoder (segment_of the_coder events) r

-- a segment without a run
pub record IsWithoutRun (seg : Segment) : Type 0 where
  pub bytes : seg.bytes ≡ []
  pub stamps : seg.stamps ≡ []
  pub results : seg.results ≡ []
  pub given : seg.given ≡ true

abbrev pub SegmentsBegin : Type 0
SegmentsBegin =
    (events : List SoloEvent) (c : Context) → solo_slot the_coder None events ≡ Some c → c.kind ≡ Dec → (segment_of the_coder events).first ≡ None → IsWithoutRun (segment_of the_coder events)

-- Encoders

-- the planes and rates of a picture
abbrev pub coded_picture : EncodedPicture → List (List ℕ) × RunRates
coded_picture p = (planes_of p.format.fourcc p.format.width p.format.height p.bytes, p.rates)

-- what the sequential encoder gives for the pictures of the segment
abbrev pub sequential_frames : Segment → Format → List Encoded
sequential_frames seg format = encoded (geometry_of format) (map coded_picture seg.pictures)

-- The frames of a segment are those of the sequential encoder for its pictures, which all have the present format.
pub record FollowsEncoder (seg : Segment) (format : Format) : Type 0 where
  pub formats : All (λ (p : EncodedPicture). p.format ≡ format) seg.pictures
  pub frames : map (λ (p : EncodedPicture). p.frame) seg.pictures ≡ map encoded_bytes (sequential_frames seg format)
  pub keys : map (λ (p : EncodedPicture). p.key) seg.pictures ≡ map (λ (e : Encoded). e.header.key) (sequential_frames seg format)

abbrev pub EncoderFollows : Type 0
EncoderFollows =
    (events : List SoloEvent) (c : Context) → solo_slot the_coder None events ≡ Some c → c.kind ≡ Enc → FollowsEncoder (segment_of the_coder events) c.formats.out

-- What goes to done

-- the flags of a CAPTURE buffer that a run gave: with LAST or without
abbrev pub HasFlags : ℕ → ℕ → Type 0
HasFlags flags own = (flags ≡ own) ⊎ (flags ≡ own + last_flag)

abbrev pub HoldsKind : SegmentResult → Buffer → ResultKind → Type 0
HoldsKind x b (Picture geometry key planes) =
    (b.bytes ≡ raw_of x.fourcc planes) × (b.used ≡ length (raw_of x.fourcc planes)) × HasFlags b.flags (type_flag key)
HoldsKind x b Damaged = (b.bytes ≡ []) × (b.used ≡ 0) × HasFlags b.flags error_flag
HoldsKind x b (Changed geometry) = ⊥

-- the CAPTURE buffer is that of the result: its bytes in the client's format, their number, its flags and its stamp
abbrev pub IsBufferOf : SegmentResult → Buffer → Type 0
IsBufferOf x b = (b.stamp ≡ x.stamp) × HoldsKind x b x.what.kind

abbrev pub OneForOne : List SegmentResult → List Buffer → Type 0
OneForOne [] [] = Unit {0}
OneForOne (x ∷ xs) (b ∷ bs) = IsBufferOf x b × OneForOne xs bs
OneForOne _ _ = ⊥

-- the results that go to the client in a buffer: all but changes
abbrev pub in_buffers : List SegmentResult → List SegmentResult
in_buffers rs = filter (λ (x : SegmentResult). is_no_change x.what) rs

-- a buffer that a run gave: not an empty LAST buffer, which has the flag LAST alone
abbrev pub is_by_run : Buffer → Bool
is_by_run b = not (b.flags == last_flag)

abbrev pub by_runs : List Buffer → List Buffer
by_runs bs = filter is_by_run bs

-- The CAPTURE buffers that a segment's runs put on done are its results other than changes, one for one.
abbrev pub RetiredAreResults : Type 0
RetiredAreResults =
    (events : List SoloEvent) (c : Context) → solo_slot the_coder None events ≡ Some c → c.kind ≡ Dec
    → let seg = segment_of the_coder events in OneForOne (in_buffers seg.results) (by_runs seg.retired)

-- the CAPTURE buffer is that of the picture's frame: the frame's bytes, their number, its flags and the picture's stamp
abbrev pub IsFrameIn : EncodedPicture → Buffer → Type 0
IsFrameIn p b = (b.bytes ≡ p.frame) × (b.used ≡ length p.frame) × (b.stamp ≡ p.stamp) × HasFlags b.flags (type_flag p.key)

abbrev pub FrameForFrame : List EncodedPicture → List Buffer → Type 0
FrameForFrame [] [] = Unit {0}
FrameForFrame (p ∷ ps) (b ∷ bs) = IsFrameIn p b × FrameForFrame ps bs
FrameForFrame _ _ = ⊥

-- The CAPTURE buffers that an encoder's runs put on done are the frames of the segment, one for one.
abbrev pub RetiredAreFrames : Type 0
RetiredAreFrames =
    (coder : Coder) (events : List SoloEvent) (c : Context) → solo_slot coder None events ≡ Some c → c.kind ≡ Enc
    → let seg = segment_of coder events in FrameForFrame seg.pictures (by_runs seg.retired)
