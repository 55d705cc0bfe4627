-- What the calls that an encoder and a decoder answer alike make of the parts that they have in common.
use Rattle.std.specs.Prelude.{ℕ, ◌==◌, Bool, true, false, not, ◌&&◌, if◌then◌else◌, Option}
use Rattle.vc_base.specs.declared.Kind.{Kind}
use Rattle.vc_base.specs.declared.Side.{Side}
use Rattle.vc_base.specs.declared.Side.TheVariants.{Out, Cap}
use Rattle.vc_base.specs.declared.Errno.{Errno}
use Rattle.vc_base.specs.declared.Errno.TheVariants.{Inval}
use Rattle.vc_base.specs.declared.Stamp.{Stamp}
use Rattle.vc_base.specs.declared.Call.{Call}
use Rattle.vc_base.specs.declared.Call.TheVariants.{Close, SetFmt, ReqBufs, CreateBufs, QBuf, DqBuf, StreamOn, StreamOff, Subscribe, Unsubscribe, DqEvent, DecCmd, EncCmd, GetCtrl, SetCtrl}
use Rattle.vc_base.specs.Buffers.{refuse_if, qbuf_refusal, dqbuf_refusal, streamon_refusal, streamon_after}
use Rattle.vc_base.specs.Events.{event_refusal, subscribe_after, unsubscribe_after, take_event_refusal, take_event_after}
use Rattle.vc_model.specs.Context.{Context, is_enc, is_dec}
use Rattle.vc_model.specs.Answer.{Answer, qbuf_answer}
use Rattle.vc_context.specs.Payloads.{handed_over}
use Rattle.vc_queue.specs.Answers.{after_of}
use Rattle.vc_queue.specs.Holds.{HoldState}
use Rattle.vc_pair.specs.Pairs.{PairState, queue_at, with_queue_at, is_ended_at, pair_put, pair_taken, stop_refusal, pair_marked, start_refusal, pair_started}
use Rattle.vc_m2m.specs.declared.M2mContext.{M2mContext}
use Rattle.vc_m2m.specs.Parts.{size_at, settled_as}

-- the calls that every kind answers alike: they ask for no rates, codec or geometry, and mind no running job
abbrev pub is_common : Call → Bool
is_common Close = false
is_common (SetFmt side want) = false
is_common (ReqBufs side count) = false
is_common (CreateBufs side count length) = false
is_common (StreamOff side) = false
is_common (GetCtrl id) = false
is_common (SetCtrl id value) = false
is_common request = true

-- an encoder takes whole pictures only
abbrev pub is_part : Kind → Side → ℕ → ℕ → Bool
is_part kind Out used size = is_enc kind && not (used == size)
is_part kind Cap used size = false

-- QBuf

abbrev pub put_refusal : Kind → M2mContext → Side → ℕ → ℕ → Option Errno
put_refusal kind m side index used =
    refuse_if (is_part kind side used (size_at m side)) Inval (qbuf_refusal (queue_at m.pair side) index used (size_at m side))

-- the answer of a context to a QBuf with these payloads in the user's hands
abbrev pub queued_answer : Context → Side → ℕ → ℕ → Stamp → HoldState → Answer
queued_answer c side index used stamp hold =
    qbuf_answer c side index used stamp (handed_over (QBuf side index used stamp) hold)

-- DqBuf

abbrev pub take_refusal : PairState → Side → Option Errno
take_refusal p side = dqbuf_refusal (queue_at p side) (is_ended_at p side)

-- StreamOn

abbrev pub on_refusal : M2mContext → Side → Option Errno
on_refusal m side = streamon_refusal (queue_at m.pair side) (size_at m side)

abbrev pub pair_on : PairState → Side → PairState
pair_on p side = with_queue_at p side (streamon_after (queue_at p side))

-- the parts after a call that is refused, or makes this of the queues, which settle
abbrev pub settled_unless : Option Errno → M2mContext → PairState → M2mContext
settled_unless o m p = settled_as m (after_of o m.pair p)

-- STOP, START, and other commands
abbrev pub after_command : M2mContext → ℕ → M2mContext
after_command m cmd =
    if cmd == 0 then settled_unless (start_refusal m.pair m.formats.cap.size) m (pair_started m.pair) else
    (if cmd == 1 then settled_unless (stop_refusal m.pair) m (pair_marked m.pair) else m)

-- the parts after a command that a kind has, or has not
abbrev pub after_known : Bool → M2mContext → ℕ → M2mContext
after_known known m cmd = if known then after_command m cmd else m

-- the parts after a call that every kind answers alike, with these payloads in the user's hands
abbrev pub after_call : Kind → M2mContext → HoldState → Call → M2mContext
after_call kind m hold (QBuf side index used stamp) =
    settled_unless (put_refusal kind m side index used) m (pair_put m.pair side index used stamp hold)
after_call kind m hold (DqBuf side block) = settled_unless (take_refusal m.pair side) m (pair_taken m.pair side)
after_call kind m hold (StreamOn side) = settled_unless (on_refusal m side) m (pair_on m.pair side)
after_call kind m hold (DecCmd cmd) = after_known (is_dec kind) m cmd
after_call kind m hold (EncCmd cmd) = after_known (is_enc kind) m cmd
after_call kind m hold (Subscribe event) =
    record m { events = after_of (event_refusal kind event) m.events (subscribe_after m.events event) }
after_call kind m hold (Unsubscribe event) =
    record m { events = after_of (event_refusal kind event) m.events (unsubscribe_after m.events event) }
after_call kind m hold (DqEvent block) =
    record m { events = after_of (take_event_refusal m.events) m.events (take_event_after m.events) }
after_call kind m hold request = m
