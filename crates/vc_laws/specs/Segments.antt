-- Segments: what the runs of a slot did between two resets of its codec state ("Seek" of the stateful decoder).
use Rattle.std.specs.Prelude.{ℕ, ◌-◌, Bool, true, false, ◌||◌, if◌then◌else◌, length, take, drop, replicate, map, Option, Some, None, List, [], ◌∷◌, ◌++◌}
use Rattle.vc_base.specs.declared.Side.{Side}
use Rattle.vc_base.specs.declared.Side.TheVariants.{Out, Cap}
use Rattle.vc_base.specs.declared.Stamp.{Stamp}
use Rattle.vc_base.specs.declared.Fourcc.{Fourcc}
use Rattle.vc_base.specs.declared.Format.{Format}
use Rattle.vc_base.specs.declared.Call.{Call}
use Rattle.vc_base.specs.declared.Call.TheVariants.{SetFmt, ReqBufs, QBuf, StreamOff}
use Rattle.vc_base.specs.declared.Reply.{Reply}
use Rattle.vc_base.specs.declared.Reply.TheVariants.{Done, Fmt, Count}
use Rattle.vc_base.specs.Buffers.{Buffer}
use Rattle.vc_defs.specs.Decoder.{FrameResult, DecodedStep, moved_result}
use Rattle.vc_defs.specs.Encoder.{RunRates, EncodedFrame}
use Rattle.vc_defs.specs.Outputs.{is_change_result}
use Rattle.vc_model.specs.Coder.{Coder, CodecState, no_codec, encoder, decoder}
use Rattle.vc_model.specs.Context.{Context, Slot, Running, is_dec, is_enc}
use Rattle.vc_model.specs.Runs.{JobData, job_data, RunResult, copied, encoded, decoded, run_result}
use Rattle.vc_model.specs.Solo.{SoloEvent, Called, Finishes, SoloReply, Answered, Finished, solo_step}
use Rattle.vc_model.specs.Drains.{done_now}

-- A result of a segment: as the sequential decoder has it, its places counted in the segment's bytes; with the stamp that
-- the run gave it, and the fourcc that the client took pictures in at that run.
pub record SegmentResult : Type 0 where
  pub what : FrameResult
  pub stamp : Stamp
  pub fourcc : Fourcc

-- A picture that a run of an encoder consumed, and the frame that it made of it.
pub record EncodedPicture : Type 0 where
  pub bytes : List ℕ
  pub format : Format
  pub rates : RunRates
  pub stamp : Stamp
  pub frame : List ℕ
  pub key : Bool

-- `first` is what the first run of the segment took from its context. `bytes` are those by which runs moved cursors, each
-- with the stamp of its OUTPUT buffer. `given` says that the runs gave all results of these bytes: it is false after a run
-- that told a change alone. `sources` are the OUTPUT buffers that were ready when the segment began or were queued since,
-- as they stood then. `retired` are the CAPTURE buffers that went to done in it.
pub record Segment : Type 0 where
  pub first : Option Running
  pub bytes : List ℕ
  pub stamps : List Stamp
  pub results : List SegmentResult
  pub given : Bool
  pub pictures : List EncodedPicture
  pub sources : List Buffer
  pub retired : List Buffer

-- a segment without a run, which begins with these OUTPUT buffers ready
abbrev pub fresh_segment : List Buffer → Segment
fresh_segment ready =
    record { first = None; bytes = []; stamps = []; results = []; given = true; pictures = []; sources = ready; retired = [] }

-- whether StreamOff on the side resets the codec state: it is the seek of a decoder, and an encoder begins anew where
-- CAPTURE streamed
abbrev pub off_resets : Context → Side → Bool
off_resets c Out = is_dec c.kind
off_resets c Cap = if is_enc c.kind then c.cap.streams else false

abbrev pub buffers_reset : Context → Side → Bool
buffers_reset c Out = is_dec c.kind || is_enc c.kind
buffers_reset c Cap = false

abbrev pub format_resets : Context → Side → Bool
format_resets c Out = is_enc c.kind
format_resets c Cap = false

-- the calls that reset the codec state, where they are answered so
abbrev pub call_resets : Context → Call → Reply → Bool
call_resets c (StreamOff side) Done = off_resets c side
call_resets c (ReqBufs side count) (Count n) = buffers_reset c side
call_resets c (SetFmt side want) (Fmt format) = format_resets c side
call_resets c request reply = false

-- Whether the segment of an open context ends with the event: at those calls, and at an engine fault.
abbrev pub resets : Context → SoloEvent → SoloReply → Bool
resets c (Called request bytes found) (Answered reply handed) = call_resets c request reply
resets c (Finishes true) (Finished word) = true
resets c e told = false

abbrev pub first_of : Option Running → Running → Option Running
first_of (Some r) later = Some r
first_of None r = Some r

-- the bytes by which a run moved the cursor: all that are left where it used them up without a result
abbrev pub consumed : DecodedStep → List ℕ → List ℕ
consumed step rest = elim step.given as (λ _. List ℕ) [
  | None ↦ rest
  | Some r ↦ take step.moved rest
]

-- the results with that of a step, whose tail began at a place
abbrev pub with_result : List SegmentResult → ℕ → Fourcc → Stamp → Option FrameResult → List SegmentResult
with_result results from fourcc stamp None = results
with_result results from fourcc stamp (Some r) =
    results ++ record { what = moved_result from r; stamp = stamp; fourcc = fourcc } ∷ []

-- a run that gave a change alone: a result of its frame may be left to be given
abbrev pub gave_change : Option FrameResult → Bool
gave_change None = false
gave_change (Some r) = is_change_result r.kind

-- the number of bytes that the decoder kept
abbrev pub tail_length : CodecState → ℕ
tail_length no_codec = 0
tail_length (encoder state) = 0
tail_length (decoder state) = length state.tail

abbrev pub after_decode : Segment → Running → JobData → DecodedStep → Segment
after_decode seg r j step =
    let moved = consumed step (drop j.source.cursor j.source.bytes) in
    record seg {
      first = first_of seg.first r;
      bytes = seg.bytes ++ moved;
      stamps = seg.stamps ++ replicate (length moved) j.source.stamp;
      results = with_result seg.results (length seg.bytes - tail_length j.codec) j.format.fourcc step.stamp step.given;
      given = if gave_change step.given then false else true;
    }

abbrev pub after_encode : Segment → Running → JobData → EncodedFrame → Segment
after_encode seg r j frame =
    record seg {
      first = first_of seg.first r;
      pictures = seg.pictures ++ record { bytes = j.source.bytes; format = j.format; rates = j.rates; stamp = j.source.stamp; frame = frame.bytes; key = frame.key } ∷ [];
    }

abbrev pub after_run : Segment → Running → JobData → RunResult → Segment
after_run seg r j (copied bytes) = seg
after_run seg r j (encoded frame) = after_encode seg r j frame
after_run seg r j (decoded step) = after_decode seg r j step

abbrev pub after_job : Coder → Segment → Context → Option Running → Segment
after_job coder seg c None = seg
after_job coder seg c (Some r) = after_run seg r (job_data c r) (run_result coder (job_data c r))

-- the segment with the run that ended at the event
abbrev pub after_event : Coder → Segment → Context → SoloEvent → Segment
after_event coder seg c (Finishes false) = after_job coder seg c c.running
after_event coder seg c e = seg

-- the OUTPUT buffers that the event added to ready: none but at a QBuf
abbrev pub call_adds : Context → Context → Call → Reply → List Buffer
call_adds before after (QBuf Out index used stamp) Done = drop (length before.out.ready) after.out.ready
call_adds before after request reply = []

abbrev pub sources_added : Context → Context → SoloEvent → SoloReply → List Buffer
sources_added before after (Called request bytes found) (Answered reply handed) = call_adds before after request reply
sources_added before after e told = []

-- A new segment begins with the OUTPUT buffers that are then ready: those behind the source of a run that an engine fault
-- ended, and, where an encoder's CAPTURE stopped streaming, all that wait.
abbrev pub segment_of_step : Coder → Segment → Context → Context → SoloEvent → SoloReply → Segment
segment_of_step coder seg before after e told =
    if resets before e told then fresh_segment after.out.ready else
    (let ran = after_event coder seg before e in
    record ran { sources = ran.sources ++ sources_added before after e told; retired = ran.retired ++ done_now before after })

-- Open and Close begin one too.
abbrev pub segment_of_slots : Coder → Segment → Slot → Slot → SoloEvent → SoloReply → Segment
segment_of_slots coder seg (Some before) (Some after) e told = segment_of_step coder seg before after e told
segment_of_slots coder seg before after e told = fresh_segment []

-- the segment after one event on the slot
unfoldable pub segment_step : Coder → Segment → Slot → SoloEvent → Segment
segment_step coder seg s e =
    segment_of_slots coder seg s (solo_step coder s e).slot e (solo_step coder s e).told

-- the segment that stands at the end of a run
abbrev pub segment_after : Coder → Segment → Slot → List SoloEvent → Segment
segment_after coder seg s [] = seg
segment_after coder seg s (e ∷ es) = segment_after coder (segment_step coder seg s e) (solo_step coder s e).slot es

-- the segment at the end of events on a closed slot
abbrev pub segment_of : Coder → List SoloEvent → Segment
segment_of coder events = segment_after coder (fresh_segment []) None events

-- the results alone, as the sequential decoder has them
abbrev pub whats : Segment → List FrameResult
whats seg = map (λ (x : SegmentResult). x.what) seg.results
