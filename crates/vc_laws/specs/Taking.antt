-- In which order the client gets what goes to done on CAPTURE ("Decoding" of the stateful decoder, "Encoding" of the stateful
-- encoder; VIDIOC_DQBUF).
use Rattle.std.specs.Prelude.{ℕ, ◌≡◌, Bool, true, false, not, take, Some, None, List, [], ◌∷◌, ◌++◌}
use Rattle.std.specs.List.{flat_map}
use Rattle.vc_base.specs.declared.Side.TheVariants.{Cap}
use Rattle.vc_base.specs.declared.Kind.TheVariants.{Enc, Dec}
use Rattle.vc_base.specs.declared.Fourcc.{Fourcc}
use Rattle.vc_base.specs.declared.Call.{Call}
use Rattle.vc_base.specs.declared.Call.TheVariants.{ReqBufs, StreamOff}
use Rattle.vc_base.specs.declared.Reply.{Reply}
use Rattle.vc_base.specs.declared.Reply.TheVariants.{Done, Count}
use Rattle.vc_base.specs.Buffers.{Buffer, is_empty, taken}
use Rattle.vc_defs.specs.Raw.{raw_of}
use Rattle.vc_defs.specs.Decoder.{ResultKind, Picture, Damaged, Changed}
use Rattle.vc_defs.specs.Encoder.{encoded_bytes}
use Rattle.vc_model.specs.Coder.{Coder, the_coder}
use Rattle.vc_model.specs.Context.{Context, Slot}
use Rattle.vc_model.specs.Solo.{SoloEvent, Called, SoloReply, Answered, solo_step, solo_run, solo_slot}
use Rattle.vc_model.specs.Drains.{AtEveryStep, takes_capture, done_now}
use Rattle.vc_model.specs.Handed.{handed_out}
use Rattle.vc_laws.specs.Segments.{SegmentResult, resets, segment_of}
use Rattle.vc_laws.specs.Following.{sequential_frames}

-- the calls that drop what is on CAPTURE's done list, where they are answered so
abbrev pub call_drops : Context → Call → Reply → Bool
call_drops c (StreamOff Cap) Done = not (is_empty c.cap.done)
call_drops c (ReqBufs Cap count) (Count n) = not (is_empty c.cap.done)
call_drops c request reply = false

abbrev pub drops : Context → SoloEvent → SoloReply → Bool
drops c (Called request bytes found) (Answered reply handed) = call_drops c request reply
drops c e told = false

-- the front of a done list, where it was taken
abbrev pub front_taken : Bool → List Buffer → List Buffer
front_taken true done = take 1 done
front_taken false done = []

-- CAPTURE's done list loses its front where a DqBuf takes it, which the client gets with its bytes, and gains what goes to
-- done at its end.
pub record IsTakenInOrder (before : Context) (e : SoloEvent) (told : SoloReply) (after : Context) : Type 0 where
  pub order : front_taken (takes_capture e told) before.cap.done ++ after.cap.done ≡ before.cap.done ++ done_now before after
  pub handed : takes_capture e told ≡ true → (b : Buffer) × (rest : List Buffer) × (before.cap.done ≡ b ∷ rest) × (told ≡ Answered (taken b) b.bytes)

-- So it is at every step that drops nothing.
abbrev pub TakenInOrder : Type 0
TakenInOrder =
    AtEveryStep (λ before e told after. drops before e told ≡ false → IsTakenInOrder before e told after)

-- Runs

abbrev pub gone_to_done : Slot → Slot → List Buffer
gone_to_done (Some before) (Some after) = done_now before after
gone_to_done before after = []

-- what goes to done on CAPTURE in a run
abbrev pub done_in : Coder → Slot → List SoloEvent → List Buffer
done_in coder s [] = []
done_in coder s (e ∷ es) =
    gone_to_done s (solo_step coder s e).slot ++ done_in coder (solo_step coder s e).slot es

-- The slot stays open through the run, and none of its events drops what is on done.
abbrev pub DropsNothing : Coder → Slot → List SoloEvent → Type 0
DropsNothing coder None es = ⊥
DropsNothing coder (Some c) [] = Unit {0}
DropsNothing coder (Some c) (e ∷ es) =
    (drops c e (solo_step coder (Some c) e).told ≡ false) × DropsNothing coder (solo_step coder (Some c) e).slot es

abbrev pub bytes_of : List Buffer → List ℕ
bytes_of bs = flat_map (λ b. b.bytes) bs

-- In a run that drops nothing the client gets the bytes of what was on done and of what goes to done, in that order and each
-- once, but for those that are on done at its end.
abbrev pub HandedInOrder : Type 0
HandedInOrder =
    (coder : Coder) (events more : List SoloEvent) (c d : Context) → solo_slot coder None events ≡ Some c → solo_slot coder (Some c) more ≡ Some d
    → DropsNothing coder (Some c) more
    → handed_out (solo_run coder (Some c) more) ++ bytes_of d.cap.done ≡ bytes_of c.cap.done ++ bytes_of (done_in coder (Some c) more)

-- The slot stays open through the run, and none of its events resets the codec state.
abbrev pub KeepsSegment : Coder → Slot → List SoloEvent → Type 0
KeepsSegment coder None es = ⊥
KeepsSegment coder (Some c) [] = Unit {0}
KeepsSegment coder (Some c) (e ∷ es) =
    (resets c e (solo_step coder (Some c) e).told ≡ false) × KeepsSegment coder (solo_step coder (Some c) e).slot es

-- In a run that resets nothing what goes to done is what the segment counts.
abbrev pub DoneIsRetired : Type 0
DoneIsRetired =
    (coder : Coder) (events more : List SoloEvent) (c : Context) → solo_slot coder None events ≡ Some c → KeepsSegment coder (Some c) more
    → (segment_of coder (events ++ more)).retired ≡ (segment_of coder events).retired ++ done_in coder (Some c) more

-- Bytes

-- the bytes that a result brings the client: those of a picture in the client's format
abbrev pub bytes_of_kind : Fourcc → ResultKind → List ℕ
bytes_of_kind fourcc (Picture geometry key planes) = raw_of fourcc planes
bytes_of_kind fourcc Damaged = []
bytes_of_kind fourcc (Changed geometry) = []

abbrev pub bytes_of_result : SegmentResult → List ℕ
bytes_of_result x = bytes_of_kind x.fourcc x.what.kind

-- What goes to done on CAPTURE of a decoder has the bytes of the segment's pictures, in order, and nothing else.
abbrev pub PicturesAreHandedOut : Type 0
PicturesAreHandedOut =
    (events : List SoloEvent) (c : Context) → solo_slot the_coder None events ≡ Some c → c.kind ≡ Dec
    → let seg = segment_of the_coder events in bytes_of seg.retired ≡ flat_map bytes_of_result seg.results

-- What goes to done on CAPTURE of an encoder has the bytes of the segment's frames, in order, and nothing else.
abbrev pub FramesAreHandedOut : Type 0
FramesAreHandedOut =
    (coder : Coder) (events : List SoloEvent) (c : Context) → solo_slot coder None events ≡ Some c → c.kind ≡ Enc
    → let seg = segment_of coder events in bytes_of seg.retired ≡ flat_map (λ p. p.frame) seg.pictures

-- A run of one segment, from no buffer on done to no buffer on done, whose beginning put none there and which drops nothing.
pub record IsTakenWhole (coder : Coder) (events more : List SoloEvent) (d : Context) : Type 0 where
  pub c : Context
  pub begins : solo_slot coder None events ≡ Some c
  pub none_retired : (segment_of coder events).retired ≡ []
  pub none_there : c.cap.done ≡ []
  pub ends : solo_slot coder (Some c) more ≡ Some d
  pub none_left : d.cap.done ≡ []
  pub keeps : KeepsSegment coder (Some c) more
  pub drops_nothing : DropsNothing coder (Some c) more

-- the bytes that such a run hands out
abbrev pub handed_in : Coder → List SoloEvent → List SoloEvent → List ℕ
handed_in coder events more = handed_out (solo_run coder (solo_slot coder None events) more)

-- Over such a run the client of a decoder gets the pictures of the segment, and that of an encoder the sequential encoder's
-- frames for the pictures that were consumed.
pub record ClientsGetAll (events more : List SoloEvent) (d : Context) : Type 0 where
  pub decoders : d.kind ≡ Dec → IsTakenWhole the_coder events more d → handed_in the_coder events more ≡ flat_map bytes_of_result (segment_of the_coder (events ++ more)).results
  pub encoders :
      d.kind ≡ Enc → IsTakenWhole the_coder events more d → handed_in the_coder events more ≡ flat_map encoded_bytes (sequential_frames (segment_of the_coder (events ++ more)) d.formats.out)

abbrev pub AllIsHandedOut : Type 0
AllIsHandedOut = (events more : List SoloEvent) (d : Context) → ClientsGetAll events more d
