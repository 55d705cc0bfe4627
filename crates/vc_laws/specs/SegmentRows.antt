-- Worked rows: the segments of short runs, with the codec itself and with a coder that gives the results of a list.
use Rattle.std.specs.Prelude.{ℕ, ◌≡◌, ◌+◌, true, false, replicate, take, drop, map, List, [], ◌∷◌, ◌++◌}
use Rattle.vc_base.specs.declared.Side.TheVariants.{Out, Cap}
use Rattle.vc_base.specs.declared.Kind.TheVariants.{Enc, Dec}
use Rattle.vc_base.specs.declared.Call.{Call}
use Rattle.vc_base.specs.declared.Call.TheVariants.{Open, SetFmt, ReqBufs, QBuf, DqBuf, StreamOn, StreamOff, DecCmd, EncCmd}
use Rattle.vc_base.specs.Buffers.{Buffer}
use Rattle.vc_defs.specs.Named.{frame_f, frame_h, frame_f4, grey_bytes, grey_planes, small, wide}
use Rattle.vc_defs.specs.Decoder.{FrameResult, ResultKind, Picture, Damaged, Changed}
use Rattle.vc_model.specs.Coder.{the_coder}
use Rattle.vc_model.specs.Formats.{coded_format}
use Rattle.vc_model.specs.Rows.{stamp}
use Rattle.vc_model.specs.CoderRows.{listed_coder, gives_change, gives_picture, gives_damage, grey_format}
use Rattle.vc_model.specs.Solo.{SoloEvent, Called, Claims, Finishes}
use Rattle.vc_laws.specs.Segments.{SegmentResult, EncodedPicture, Segment, segment_of, whats}
use Rattle.vc_laws.specs.Drains.{bytes_before, took_back}
use Rattle.vc_laws.specs.Taking.{bytes_of}

-- a call with memory and without bytes, and a buffer with these bytes queued on OUTPUT
abbrev pub asks : Call → SoloEvent
asks request = Called request [] true

abbrev pub queues : ℕ → ℕ → ℕ → List ℕ → SoloEvent
queues index used at bytes = Called (QBuf Out index used (stamp at)) bytes true

abbrev pub queues_empty : ℕ → SoloEvent
queues_empty index = asks (QBuf Cap index 0 (stamp 0))

abbrev pub runs : List SoloEvent
runs = Claims ∷ Finishes false ∷ []

-- a decoder with so many OUTPUT buffers, and two CAPTURE buffers that are queued
abbrev pub decodes : ℕ → List SoloEvent
decodes count = asks (Open Dec) ∷ asks (SetFmt Out (coded_format 16 16 0)) ∷ asks (ReqBufs Out count) ∷ asks (StreamOn Out) ∷ []

abbrev pub captures : List SoloEvent
captures = asks (ReqBufs Cap 2) ∷ queues_empty 0 ∷ queues_empty 1 ∷ asks (StreamOn Cap) ∷ []

abbrev pub stops : SoloEvent
stops = asks (DecCmd 1)

-- The codec itself

abbrev pub found_at : ℕ → ℕ → ResultKind → FrameResult
found_at position known kind = record { position = position; known = known; kind = kind }

abbrev pub small_picture : ResultKind
small_picture = Picture small true (grey_planes 256)

abbrev pub wide_picture : ResultKind
wide_picture = Picture wide true (grey_planes 512)

-- two frames in one buffer, and a drain
abbrev pub two_segment : Segment
two_segment =
    segment_of the_coder
    (decodes 1 ++ (queues 0 96 9 (frame_f ++ frame_f) ∷ [] ++ runs ++ captures ++ (stops ∷ [] ++ runs ++ runs)))

abbrev pub TwoBytes : Type 0
TwoBytes = two_segment.bytes ≡ frame_f ++ frame_f

abbrev pub TwoResults : Type 0
TwoResults = whats two_segment ≡ found_at 0 44 (Changed small) ∷ found_at 0 48 small_picture ∷ found_at 48 96 small_picture ∷ []

abbrev pub TwoStamps : Type 0
TwoStamps = map (λ (x : SegmentResult). x.stamp) two_segment.results ≡ stamp 9 ∷ stamp 9 ∷ stamp 9 ∷ []

-- the second picture uses the source up, and has LAST
abbrev pub TwoRetired : Type 0
TwoRetired = map (λ (b : Buffer). b.flags) two_segment.retired ≡ 8 ∷ 1048584 ∷ []

abbrev pub TwoRetiredBytes : Type 0
TwoRetiredBytes = map (λ (b : Buffer). b.bytes) two_segment.retired ≡ grey_bytes 256 ∷ grey_bytes 256 ∷ []

-- one byte in each buffer, the first with this stamp: the buffer is queued, a run uses it up, and it is dequeued
abbrev pub cut : ℕ → List ℕ → List SoloEvent
cut at [] = []
cut at (b ∷ bytes) = queues 0 1 at (b ∷ []) ∷ Claims ∷ Finishes false ∷ asks (DqBuf Out false) ∷ cut (at + 1) bytes

-- The frame in 48 pieces. The buffer with the last byte of the header is used up by the run after the change.
abbrev pub cut_segment : Segment
cut_segment =
    segment_of the_coder
    (decodes 1 ++ cut 100 (take 44 frame_f) ++ captures ++ runs ++ (asks (DqBuf Out false) ∷ [] ++ cut 144 (drop 44 frame_f)))

abbrev pub CutBytes : Type 0
CutBytes = cut_segment.bytes ≡ frame_f

abbrev pub CutResults : Type 0
CutResults = whats cut_segment ≡ found_at 0 44 (Changed small) ∷ found_at 0 48 small_picture ∷ []

-- both have the stamp of the buffer with the frame's first byte
abbrev pub CutStamps : Type 0
CutStamps = map (λ (x : SegmentResult). x.stamp) cut_segment.results ≡ stamp 100 ∷ stamp 100 ∷ []

-- a stream that goes on in another geometry, up to the change
abbrev pub changing_events : List SoloEvent
changing_events =
    decodes 2 ++ (queues 0 48 1 frame_f ∷ queues 1 48 2 frame_h ∷ [] ++ runs ++ captures ++ runs ++ runs)

abbrev pub ChangeWaits : Type 0
ChangeWaits = (segment_of the_coder changing_events).given ≡ false

abbrev pub ChangeRetired : Type 0
ChangeRetired = map (λ (b : Buffer). b.flags) (segment_of the_coder changing_events).retired ≡ 8 ∷ 1048576 ∷ []

-- and after CAPTURE was restarted
abbrev pub changed_segment : Segment
changed_segment =
    segment_of the_coder
    (changing_events ++ (asks (StreamOff Cap) ∷ asks (ReqBufs Cap 1) ∷ queues_empty 0 ∷ asks (StreamOn Cap) ∷ [] ++ runs))

abbrev pub ChangedResults : Type 0
ChangedResults =
    whats changed_segment ≡ found_at 0 44 (Changed small) ∷ found_at 0 48 small_picture ∷ found_at 48 92 (Changed wide) ∷ found_at 48 96 wide_picture ∷ []

-- a segment that a restart of OUTPUT ended has nothing
abbrev pub SoughtBytes : Type 0
SoughtBytes =
    (segment_of the_coder (decodes 1 ++ (queues 0 48 1 frame_f ∷ [] ++ runs ++ captures ++ runs ++ (asks (StreamOff Out) ∷ [])))).bytes ≡ []

-- an encoder of a grey picture
abbrev pub encoder_segment : Segment
encoder_segment =
    segment_of the_coder
    (asks (Open Enc) ∷ asks (SetFmt Out (grey_format 16 16 0)) ∷ asks (ReqBufs Out 1) ∷ asks (ReqBufs Cap 1) ∷ queues 0 256 5 (grey_bytes 256)
    ∷ queues_empty 0 ∷ asks (StreamOn Out) ∷ asks (StreamOn Cap) ∷ [] ++ runs)

abbrev pub EncoderFrames : Type 0
EncoderFrames = map (λ (p : EncodedPicture). p.frame) encoder_segment.pictures ≡ frame_f4 ∷ []

-- the same encoder, and a drain of its one picture
abbrev pub encoder_drain : List SoloEvent
encoder_drain =
    asks (Open Enc) ∷ asks (SetFmt Out (grey_format 16 16 0)) ∷ asks (ReqBufs Out 1) ∷ asks (ReqBufs Cap 1) ∷ queues 0 256 5 (grey_bytes 256)
    ∷ queues_empty 0 ∷ asks (StreamOn Out) ∷ asks (StreamOn Cap) ∷ asks (EncCmd 1) ∷ [] ++ runs

-- the frame has LAST
abbrev pub EncoderRetired : Type 0
EncoderRetired =
    let retired = (segment_of the_coder encoder_drain).retired in
    (map (λ (b : Buffer). b.flags) retired ≡ 1048584 ∷ []) × (bytes_of retired ≡ frame_f4)

-- the user took nothing back, and then takes back all that waits
abbrev pub EncoderTakesBack : Type 0
EncoderTakesBack = (took_back the_coder encoder_drain ≡ false) × (took_back the_coder (encoder_drain ++ asks (StreamOff Out) ∷ []) ≡ true)

-- A coder that gives the results of a list

-- a drain of two buffers, the second of them damaged
abbrev pub listed_segment : Segment
listed_segment =
    segment_of (listed_coder (gives_change 16 44 ∷ gives_picture 16 1 4 ∷ gives_damage 2 48 ∷ []) [])
    (decodes 2 ++ (queues 0 48 1 (replicate 48 1) ∷ queues 1 48 2 (replicate 48 2) ∷ [] ++ runs ++ captures ++ (stops ∷ [] ++ runs ++ runs)))

-- the bytes of the segment, those of its sources before the mark, and its results
abbrev pub ListedBytes : Type 0
ListedBytes = listed_segment.bytes ≡ replicate 48 1 ++ replicate 48 2

abbrev pub ListedSources : Type 0
ListedSources = bytes_before 2 listed_segment.sources ≡ replicate 48 1 ++ replicate 48 2

abbrev pub ListedResults : Type 0
ListedResults = map (λ (x : SegmentResult). x.what.kind) listed_segment.results ≡ Changed small ∷ small_picture ∷ Damaged ∷ []

abbrev pub ListedStamps : Type 0
ListedStamps = map (λ (x : SegmentResult). x.stamp) listed_segment.results ≡ stamp 0 ∷ stamp 1 ∷ stamp 2 ∷ []

abbrev pub ListedRetired : Type 0
ListedRetired = map (λ (b : Buffer). b.flags) listed_segment.retired ≡ 8 ∷ 1048640 ∷ []
