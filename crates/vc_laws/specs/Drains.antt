-- Drains: from the STOP that sets the mark to the LAST buffer that is dequeued; and changes of the resolution ("Drain" and
-- "Dynamic Resolution Change" of the stateful decoder, "Drain" of the stateful encoder).
use Rattle.std.specs.Prelude.{ℕ, ◌≡◌, ◌⊎◌, ◌+◌, ◌==◌, Bool, true, false, not, ◌&&◌, ◌||◌, if◌then◌else◌, nat_lt, codes, is_none, is_some, Option, Some, None, List, [], ◌∷◌, ◌++◌}
use Rattle.std.specs.List.{filter, flat_map}
use Rattle.vc_base.specs.declared.Side.TheVariants.{Out}
use Rattle.vc_base.specs.declared.Kind.TheVariants.{Enc, Dec}
use Rattle.vc_base.specs.declared.Call.{Call}
use Rattle.vc_base.specs.declared.Call.TheVariants.{Close, StreamOff, DecCmd, EncCmd}
use Rattle.vc_base.specs.declared.Reply.{Reply}
use Rattle.vc_base.specs.declared.Reply.TheVariants.{Done}
use Rattle.vc_base.specs.Buffers.{Buffer}
use Rattle.vc_base.specs.Limits.{last_flag}
use Rattle.vc_defs.specs.Decoder.{FrameResult}
use Rattle.vc_model.specs.Coder.{Coder, the_coder}
use Rattle.vc_model.specs.Context.{Context, Slot, Running, is_run, is_stopped}
use Rattle.vc_model.specs.Places.{AreHonest}
use Rattle.vc_model.specs.Sound.{CountsUp, stops_by_change}
pub use Rattle.vc_model.specs.Phases.{is_owed, is_over}
use Rattle.vc_model.specs.Solo.{SoloEvent, Called, Finishes, SoloReply, Answered, Finished, solo_step, solo_run, solo_slot}
use Rattle.vc_model.specs.Drains.{AtEveryStep, is_last_by_drain, gives_last, takes_capture, done_now}
use Rattle.vc_model.specs.LastBuffers.{gives_change}
use Rattle.vc_laws.specs.Segments.{EncodedPicture, Segment, resets, segment_of, whats}
use Rattle.vc_laws.specs.Following.{results_of, is_no_change, in_buffers, by_runs, OneForOne}

-- Beginning and end

abbrev pub mark_of : Slot → Option ℕ
mark_of None = None
mark_of (Some c) = c.mark

-- a drain begins: a mark is set
abbrev pub begins_drain : Slot → Slot → Bool
begins_drain before after = is_none (mark_of before) && is_some (mark_of after)

abbrev pub is_last_in : Slot → Bool
is_last_in None = false
is_last_in (Some c) = is_last_by_drain c.phase

-- A drain is aborted: its mark is removed otherwise than by the DqBuf that takes its LAST buffer. Close aborts it too.
abbrev pub aborts_drain : Slot → SoloEvent → SoloReply → Slot → Bool
aborts_drain before e told after =
    is_some (mark_of before) && (is_none (mark_of after) && not (is_last_in before && takes_capture e told))

abbrev pub is_stop_call : Call → Bool
is_stop_call (DecCmd cmd) = cmd == 1
is_stop_call (EncCmd cmd) = cmd == 1
is_stop_call request = false

abbrev pub is_done : Reply → Bool
is_done Done = true
is_done reply = false

-- a STOP that is accepted
abbrev pub is_stop : SoloEvent → SoloReply → Bool
is_stop (Called request bytes found) (Answered reply handed) = is_stop_call request && is_done reply
is_stop e told = false

-- A drain begins at a STOP alone, and its mark is the number of OUTPUT buffers queued before it.
abbrev pub DrainsBeginAtStop : Type 0
DrainsBeginAtStop =
    AtEveryStep (λ before e told after. begins_drain (Some before) (Some after) ≡ true → (is_stop e told ≡ true) × (after.mark ≡ Some before.out.next_ordinal))

-- Until it is removed the mark stays as it was set.
abbrev pub MarksStay : Type 0
MarksStay =
    AtEveryStep (λ before e told after. (mark : ℕ) → before.mark ≡ Some mark → (after.mark ≡ Some mark) ⊎ (after.mark ≡ None))

-- the calls that abort a drain: StreamOff of either side, and Close
abbrev pub is_off_call : Call → Bool
is_off_call (StreamOff side) = true
is_off_call Close = true
is_off_call request = false

abbrev pub is_off : SoloEvent → SoloReply → Bool
is_off (Called request bytes found) (Answered reply handed) = is_off_call request && is_done reply
is_off e told = false

-- A drain is aborted by a StreamOff or a Close alone.
abbrev pub AbortedByOff : Type 0
AbortedByOff =
    (coder : Coder) (events : List SoloEvent) (e : SoloEvent) (before : Context) → solo_slot coder None events ≡ Some before
    → let r = solo_step coder (Some before) e in aborts_drain (Some before) e r.told r.slot ≡ true → is_off e r.told ≡ true

-- The LAST buffer

-- After the LAST buffer of a drain no CAPTURE buffer goes to done before the phase is Run again.
abbrev pub NothingAfterLast : Type 0
NothingAfterLast =
    AtEveryStep (λ before e told after. is_over before.phase ≡ true → is_run after.phase ≡ false → (done_now before after ≡ []) × (after.cap.next_seq ≡ before.cap.next_seq))

-- the final entry of the list has the greatest sequence number
abbrev pub IsNewest : List Buffer → ℕ → Type 0
IsNewest bs next = (front : List Buffer) × (b : Buffer) × (bs ≡ front ++ b ∷ []) × (b.seq + 1 ≡ next)

-- Where the LAST buffer of a drain is given, every buffer that a run took went back before it or with it: no job is left,
-- and it is the latest that went to done on CAPTURE.
pub record NoneIsOut (c : Context) : Type 0 where
  pub no_job : c.running ≡ None
  pub no_source : c.out.job ≡ []
  pub no_destination : c.cap.job ≡ []
  pub newest : IsNewest c.cap.done c.cap.next_seq

abbrev pub AllWentBack : Type 0
AllWentBack = AtEveryStep (λ before e told after. gives_last before after ≡ true → NoneIsOut after)

-- Whole drains

abbrev pub before_mark : ℕ → List Buffer → List Buffer
before_mark mark sources = filter (λ b. nat_lt b.ordinal mark) sources

-- the bytes of the sources before the mark
abbrev pub bytes_before : ℕ → List Buffer → List ℕ
bytes_before mark sources = flat_map (λ b. b.bytes) (before_mark mark sources)

-- Where a decoder gives the LAST buffer of a drain, the bytes of the segment are those of the OUTPUT buffers before the
-- mark that were ready when the segment began or were queued since, each whole and by ascending ordinal.
pub record IsWholeDrain (seg : Segment) (mark next : ℕ) : Type 0 where
  pub bytes : seg.bytes ≡ bytes_before mark seg.sources
  pub first : ℕ
  pub ascending : CountsUp seg.sources first next

abbrev pub DrainsAreWhole : Type 0
DrainsAreWhole =
    (coder : Coder) (events : List SoloEvent) (e : SoloEvent) (before after : Context) (mark : ℕ) → AreHonest (solo_run coder None events)
    → solo_slot coder None events ≡ Some before → (solo_step coder (Some before) e).slot ≡ Some after → before.kind ≡ Dec
    → gives_last before after ≡ true → after.mark ≡ Some mark → IsWholeDrain (segment_of coder (events ++ e ∷ [])) mark after.out.next_ordinal

-- Where a decoder gives the LAST buffer of a drain, all results of the segment's bytes were given.
abbrev pub DrainsGiveAll : Type 0
DrainsGiveAll =
    (events : List SoloEvent) (e : SoloEvent) (before after : Context) (r : Running) → solo_slot the_coder None events ≡ Some before
    → (solo_step the_coder (Some before) e).slot ≡ Some after → before.kind ≡ Dec → gives_last before after ≡ true
    → let seg = segment_of the_coder (events ++ e ∷ []) in seg.first ≡ Some r → whats seg ≡ results_of seg r

-- Pictures

-- the user takes OUTPUT buffers back
abbrev pub call_takes_back : Call → Reply → Bool
call_takes_back (StreamOff Out) Done = true
call_takes_back request reply = false

abbrev pub takes_back : SoloEvent → SoloReply → Bool
takes_back (Called request bytes found) (Answered reply handed) = call_takes_back request reply
takes_back e told = false

-- whether the user took OUTPUT buffers back by a StreamOff since the segment began
abbrev pub took_back_by : Slot → Slot → Bool → SoloEvent → SoloReply → Bool
took_back_by (Some before) (Some after) took e told = if resets before e told then false else took || takes_back e told
took_back_by before after took e told = false

abbrev pub took_back_from : Coder → Bool → Slot → List SoloEvent → Bool
took_back_from coder took s [] = took
took_back_from coder took s (e ∷ es) =
    let r = solo_step coder s e in took_back_from coder (took_back_by s r.slot took e r.told) r.slot es

abbrev pub took_back : Coder → List SoloEvent → Bool
took_back coder events = took_back_from coder false None events

-- the pictures are those of the buffers
abbrev pub ArePicturesOf : List EncodedPicture → List Buffer → Type 0
ArePicturesOf [] [] = Unit {0}
ArePicturesOf (p ∷ ps) (b ∷ bs) = (p.bytes ≡ b.bytes) × (p.stamp ≡ b.stamp) × ArePicturesOf ps bs
ArePicturesOf _ _ = ⊥

-- An encoder's runs consume its sources in order, each once: those that do not wait, where the user took none back.
abbrev pub EncodesInOrder : Type 0
EncodesInOrder =
    (coder : Coder) (events : List SoloEvent) (c : Context) → solo_slot coder None events ≡ Some c → c.kind ≡ Enc → took_back coder events ≡ false
    → let seg = segment_of coder events in (gone : List Buffer) × (seg.sources ≡ gone ++ (c.out.job ++ c.out.ready)) × ArePicturesOf seg.pictures gone

-- Where an encoder gives the LAST buffer of a drain, its runs consumed the sources before the mark, each once and in order.
abbrev pub DrainsEncodeAll : Type 0
DrainsEncodeAll =
    (coder : Coder) (events : List SoloEvent) (e : SoloEvent) (before after : Context) (mark : ℕ) → solo_slot coder None events ≡ Some before
    → (solo_step coder (Some before) e).slot ≡ Some after → before.kind ≡ Enc → gives_last before after ≡ true → after.mark ≡ Some mark
    → took_back coder (events ++ e ∷ []) ≡ false
    → let seg = segment_of coder (events ++ e ∷ []) in ArePicturesOf seg.pictures (before_mark mark seg.sources)

-- Changes of the resolution

-- the one buffer that goes to done in a stop by a change: the empty LAST buffer that is owed; or, where START resumes the
-- runs, that of a drain that has no source left
pub record IsOneLast (before after : Context) : Type 0 where
  pub buffer : Buffer
  pub alone : done_now before after ≡ buffer ∷ []
  pub empty : (buffer.flags ≡ last_flag) × (buffer.used ≡ 0) × (buffer.bytes ≡ [])
  pub cause : ((is_owed before.phase ≡ true) × (gives_change before after ≡ true)) ⊎ ((is_stopped before.phase ≡ true) × (gives_last before after ≡ true))

-- While a decoder stops by a change no CAPTURE buffer goes to done but one empty LAST buffer, before the phase is Run again.
abbrev pub StopsByChange : Type 0
StopsByChange =
    AtEveryStep (λ before e told after. stops_by_change before.phase ≡ true → is_run after.phase ≡ false → (done_now before after ≡ []) ⊎ IsOneLast before after)

-- the empty LAST buffer of a change, or none yet
pub record IsFirstOfStop (before after : Context) : Type 0 where
  pub stops : stops_by_change after.phase ≡ true
  pub done : (done_now before after ≡ []) ⊎ ((b : Buffer) × (done_now before after ≡ b ∷ []) × (b.flags ≡ last_flag) × (gives_change before after ≡ true))

-- A run that finds a change, while CAPTURE streams, begins such a stop, and puts nothing on done but its LAST buffer.
abbrev pub ChangesStop : Type 0
ChangesStop =
    AtEveryStep (λ before e told after. e ≡ Finishes false → told ≡ Finished (codes "changed") → before.cap.streams ≡ true → IsFirstOfStop before after)

-- Where the LAST buffer of a change is given, it alone goes to done, and the results that go to the client in buffers are
-- all in the CAPTURE buffers that went to done before it.
abbrev pub IsAfterResults : Segment → Segment → Buffer → Type 0
IsAfterResults before after b =
    (after.retired ≡ before.retired ++ b ∷ []) × (b.flags ≡ last_flag) × OneForOne (in_buffers after.results) (by_runs before.retired)

abbrev pub ResultsBeforeChange : Type 0
ResultsBeforeChange =
    (events : List SoloEvent) (e : SoloEvent) (before after : Context) → solo_slot the_coder None events ≡ Some before
    → (solo_step the_coder (Some before) e).slot ≡ Some after → before.kind ≡ Dec → gives_change before after ≡ true
    → (b : Buffer) × IsAfterResults (segment_of the_coder events) (segment_of the_coder (events ++ e ∷ [])) b

-- after a change comes nothing, or a picture or a damage of the same frame
abbrev pub IsAnswered : FrameResult → List FrameResult → Type 0
IsAnswered r [] = Unit {0}
IsAnswered r (next ∷ later) = is_no_change r ≡ false → (is_no_change next ≡ true) × (next.position ≡ r.position)

abbrev pub ChangesAreAnswered : List FrameResult → Type 0
ChangesAreAnswered [] = Unit {0}
ChangesAreAnswered (r ∷ later) = IsAnswered r later × ChangesAreAnswered later

-- The next result of a segment after a change is that of the frame that raised it.
abbrev pub FrameAfterChange : Type 0
FrameAfterChange =
    (events : List SoloEvent) (c : Context) (r : Running) → solo_slot the_coder None events ≡ Some c → c.kind ≡ Dec
    → (segment_of the_coder events).first ≡ Some r → ChangesAreAnswered (whats (segment_of the_coder events))

-- Two runs

-- A run of a decoder that ends with the step that gives the LAST buffer of a drain, in a segment with that first run.
pub record EndsInDrain (events : List SoloEvent) (e : SoloEvent) (r : Running) : Type 0 where
  pub before : Context
  pub after : Context
  pub stands : solo_slot the_coder None events ≡ Some before
  pub steps : (solo_step the_coder (Some before) e).slot ≡ Some after
  pub decoder : before.kind ≡ Dec
  pub gives : gives_last before after ≡ true
  pub first : (segment_of the_coder (events ++ e ∷ [])).first ≡ Some r

-- Neither schedule nor cutting matters to a finished drain: two segments with the same limit, the same geometry at their
-- first run and the same bytes gave the same pictures and damages, in the same order.
abbrev pub SameDrainsSameResults : Type 0
SameDrainsSameResults =
    (one other : List SoloEvent) (e f : SoloEvent) (r q : Running) → EndsInDrain one e r → EndsInDrain other f q
    → let s = segment_of the_coder (one ++ e ∷ []) in let t = segment_of the_coder (other ++ f ∷ []) in r.limit ≡ q.limit → r.geometry ≡ q.geometry → s.bytes ≡ t.bytes → whats s ≡ whats t
