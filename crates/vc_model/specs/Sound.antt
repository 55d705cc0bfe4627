-- What holds of every context after every step (docs/DEVICE.md, "One context" and "Calls").
use Rattle.std.specs.Prelude.{ℕ, ◌≡◌, ◌<◌, ◌≤◌, ◌+◌, Bool, true, false, not, ◌&&◌, ◌==◌, nat_lt, nat_le, if◌then◌else◌, bit_and, is_none, is_some, Option, Some, None, List, [], ◌∷◌, ◌++◌, length}
use Rattle.std.specs.List.{list_all, list_any}
use Rattle.vc_base.specs.declared.Side.TheVariants.{Out, Cap}
use Rattle.vc_base.specs.declared.Kind.{Kind}
use Rattle.vc_base.specs.declared.Kind.TheVariants.{Copy, Enc, Dec}
use Rattle.vc_base.specs.declared.Format.{Format}
use Rattle.vc_base.specs.Buffers.{Buffer, QueueState, is_empty, buffers, buffer_count}
use Rattle.vc_base.specs.Limits.{most_buffers, last_flag}
use Rattle.vc_defs.specs.declared.Geometry.{Geometry}
use Rattle.vc_defs.specs.Raw.{grey, yu12, nv12, yuyv, same_fourcc, layout_of}
use Rattle.vc_model.specs.Formats.{FormatPair, raw_format}
use Rattle.vc_model.specs.Coder.{CodecState, no_codec, encoder, decoder}
use Rattle.vc_model.specs.Context.{Context, Slot, Running, RunSort, copy, encode, decode, probe, PhaseState, run, owe, last, stopped, is_run, is_drained, is_dec, sizeimage}
use Rattle.vc_model.specs.Runs.{sort_of, run_format}
pub use Rattle.vc_model.specs.Phases.{is_last, stops_by_change, is_at_end}

-- how many buffers of the list have the index
abbrev pub count_index : List Buffer → ℕ → ℕ
count_index [] i = 0
count_index (b ∷ bs) i = (if b.index == i then 1 else 0) + count_index bs i

-- Each index below the number of buffers is that of one buffer of the queue, in one place, and no buffer
-- has another index.
abbrev pub OnceEach : QueueState → Type 0
OnceEach q = (i : ℕ) → count_index (buffers q) i ≡ (if nat_lt i (buffer_count q) then 1 else 0)

-- the ordinals of the buffers count up by one, from `first`; the one after the last is `next`
abbrev pub CountsUp : List Buffer → ℕ → ℕ → Type 0
CountsUp [] first next = first ≡ next
CountsUp (b ∷ bs) first next = (b.ordinal ≡ first) × CountsUp bs (first + 1) next

-- the buffers that wait for a run, the one in the job first, were queued one after another, and none since
pub record CountsUpToNext (q : QueueState) : Type 0 where
  pub first : ℕ
  pub counts : CountsUp (q.job ++ q.ready) first q.next_ordinal

-- A queue that does not stream has nothing in the job or done, and begins its numbers anew. One that
-- streams has a buffer.
pub record IsSoundQueue (q : QueueState) : Type 0 where
  pub once : OnceEach q
  pub latest : CountsUpToNext q
  pub job_at_rest : q.streams ≡ false → q.job ≡ []
  pub done_at_rest : q.streams ≡ false → q.done ≡ []
  pub seq_at_rest : q.streams ≡ false → q.next_seq ≡ 0
  pub filled : q.streams ≡ true → 0 < buffer_count q

-- a run takes a CAPTURE buffer, and a probe none
abbrev pub dest_count : RunSort → ℕ
dest_count copy = 1
dest_count encode = 1
dest_count decode = 1
dest_count probe = 0

-- the buffers in the job are those of the run that goes on, which is in phase Run alone
abbrev pub HasItsBuffers : Context → Option Running → Type 0
HasItsBuffers c None = (c.out.job ≡ []) × (c.cap.job ≡ [])
HasItsBuffers c (Some r) = (is_run c.phase ≡ true) × (length c.out.job ≡ 1) × (length c.cap.job ≡ dest_count r.sort)

-- the codec state is one of the kind
abbrev pub HasCodec : Kind → CodecState → Type 0
HasCodec Copy no_codec = Unit {0}
HasCodec Enc (encoder state) = Unit {0}
HasCodec Dec (decoder state) = Unit {0}
HasCodec kind codec = ⊥

-- whether the flag LAST is on the final entry of the list
abbrev pub ends_with_last : List Buffer → Bool
ends_with_last [] = false
ends_with_last (b ∷ []) = bit_and b.flags last_flag == last_flag
ends_with_last (b ∷ (d ∷ bs)) = ends_with_last (d ∷ bs)

-- each buffer of the list has at least that size
abbrev pub AreLong : ℕ → List Buffer → Type 0
AreLong least bs = list_all (λ b. nat_le least b.size) bs ≡ true

-- But for a stop by a change, each CAPTURE buffer that is ready or in the job has room for the present
-- format, while CAPTURE streams.
pub record LongEnough (c : Context) : Type 0 where
  pub ready : c.cap.streams ≡ true → stops_by_change c.phase ≡ false → AreLong (sizeimage c Cap) c.cap.ready
  pub job : c.cap.streams ≡ true → stops_by_change c.phase ≡ false → AreLong (sizeimage c Cap) c.cap.job

-- a drain that has come to its end and was not noted
abbrev pub drain_not_noted : Context → Bool
drain_not_noted c = is_run c.phase && (c.cap.streams && (is_none c.running && is_drained c.out.ready c.mark))

-- a LAST buffer that could be given and was not
abbrev pub last_not_given : PhaseState → List Buffer → Bool
last_not_given run ready = false
last_not_given (owe cause) ready = not (is_empty ready)
last_not_given (last cause) ready = false
last_not_given (stopped cause) ready = false

-- A drain is not put off: neither of the two is there.
pub record IsSettled (c : Context) : Type 0 where
  pub noted : drain_not_noted c ≡ false
  pub given : last_not_given c.phase c.cap.ready ≡ false

-- the mark is not above the number of buffers that were queued
abbrev pub MarkIsQueued : Option ℕ → ℕ → Type 0
MarkIsQueued None next = Unit {0}
MarkIsQueued (Some mark) next = mark ≤ next

-- What holds of a context but for settling.
pub record IsSoundButUnsettled (c : Context) : Type 0 where
  pub out_side : c.out.side ≡ Out
  pub cap_side : c.cap.side ≡ Cap
  pub out : IsSoundQueue c.out
  pub cap : IsSoundQueue c.cap
  pub has_buffers : HasItsBuffers c c.running
  pub has_codec : HasCodec c.kind c.codec
  -- a mark is there only while OUTPUT streams, and the context stops only while CAPTURE does
  pub marked : is_some c.mark ≡ true → c.out.streams ≡ true
  pub queued : MarkIsQueued c.mark c.out.next_ordinal
  -- at the end of a drain there is a mark, and no OUTPUT buffer before it is ready
  pub drained : is_at_end c.phase ≡ true → is_drained c.out.ready c.mark ≡ true
  pub stopping : is_run c.phase ≡ false → c.cap.streams ≡ true
  pub ends : is_last c.phase ≡ true → ends_with_last c.cap.done ≡ true
  pub long : LongEnough c

-- A context that is sound in its places.
pub record IsOrdered (c : Context) : Type 0 where
  pub firm : IsSoundButUnsettled c
  pub settled : IsSettled c

-- a closed slot is
abbrev pub IsOrderedSlot : Slot → Type 0
IsOrderedSlot None = Unit {0}
IsOrderedSlot (Some c) = IsOrdered c

-- Formats, sizes and runs

-- a raw format ("Image Formats") with its size
abbrev pub IsRaw : Format → Type 0
IsRaw format =
    (format ≡ raw_format format.fourcc format.width format.height) × (list_any (same_fourcc format.fourcc) (grey ∷ yu12 ∷ nv12 ∷ yuyv ∷ []) ≡ true)

-- an encoder's OUTPUT format and a decoder's CAPTURE format are raw
abbrev pub HasFormats : Kind → FormatPair → Type 0
HasFormats Copy formats = Unit {0}
HasFormats Enc formats = IsRaw formats.out
HasFormats Dec formats = IsRaw formats.cap

-- the format has the sizes and the layout of the geometry
abbrev pub IsFormatOf : Geometry → Format → Type 0
IsFormatOf geometry format =
    (format.width ≡ geometry.width) × (format.height ≡ geometry.height) × (layout_of format.fourcc ≡ geometry.layout)

-- Only a decoder has a geometry, and its CAPTURE format is one of the geometry ("Capture Setup" of the stateful decoder).
abbrev pub HasGeometry : Kind → FormatPair → Option Geometry → Type 0
HasGeometry kind formats None = Unit {0}
HasGeometry Copy formats (Some geometry) = ⊥
HasGeometry Enc formats (Some geometry) = ⊥
HasGeometry Dec formats (Some geometry) = IsFormatOf geometry formats.cap

abbrev pub has_dest : RunSort → Bool
has_dest copy = true
has_dest encode = true
has_dest decode = true
has_dest probe = false

-- The running job took the sort, the geometry and the limit that its context still has, and, but for a probe, the format. Only
-- the rates may have changed since the claim.
pub record IsRunOf (kind : Kind) (formats : FormatPair) (geometry : Option Geometry) (r : Running) : Type 0 where
  pub sort : r.sort ≡ sort_of kind geometry
  pub same_geometry : r.geometry ≡ geometry
  pub limit : r.limit ≡ formats.out.size
  pub format : has_dest r.sort ≡ true → r.format ≡ run_format kind formats

abbrev pub HasRun : Kind → FormatPair → Option Geometry → Option Running → Type 0
HasRun kind formats geometry None = Unit {0}
HasRun kind formats geometry (Some r) = IsRunOf kind formats geometry r

-- no buffer of the list has more used bytes than it has room for
abbrev pub AreShort : List Buffer → Type 0
AreShort bs = list_all (λ b. nat_le b.used b.size) bs ≡ true

-- What holds of formats and sizes.
pub record IsFit (c : Context) : Type 0 where
  pub few_out : buffer_count c.out ≤ most_buffers
  pub few_cap : buffer_count c.cap ≤ most_buffers
  -- of OUTPUT buffers that the user does not hold
  pub short_ready : AreShort c.out.ready
  pub short_job : AreShort c.out.job
  pub short_done : AreShort c.out.done
  pub formats : HasFormats c.kind c.formats
  pub geometry : HasGeometry c.kind c.formats c.geometry
  -- only a decoder stops by a change
  pub change : stops_by_change c.phase ≡ true → is_dec c.kind ≡ true

-- What holds of every open context.
pub record IsSound (c : Context) : Type 0 where
  pub firm : IsSoundButUnsettled c
  pub settled : IsSettled c
  pub fit : IsFit c
  pub run : HasRun c.kind c.formats c.geometry c.running

-- a closed slot is sound
abbrev pub IsSoundSlot : Slot → Type 0
IsSoundSlot None = Unit {0}
IsSoundSlot (Some c) = IsSound c
