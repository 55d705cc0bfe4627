-- The events of a context: which types are subscribed, and which events are pending ("VIDIOC_SUBSCRIBE_EVENT",
-- "VIDIOC_DQEVENT"). A context keeps 16 events at most, of its own numbering.
use Rattle.std.specs.Prelude.{ℕ, ◌+◌, Bool, true, false, not, ◌&&◌, ◌||◌, if◌then◌else◌, ◌==◌, nat_lt, Option, None, List, [], ◌∷◌, ◌++◌, length, drop}
use Rattle.std.specs.List.{filter}
use Rattle.vc_base.specs.declared.Kind.{Kind}
use Rattle.vc_base.specs.declared.Kind.TheVariants.{Copy, Enc, Dec}
use Rattle.vc_base.specs.declared.Errno.{Errno}
use Rattle.vc_base.specs.declared.Errno.TheVariants.{NoEnt, Inval}
use Rattle.vc_base.specs.declared.Reply.{Reply}
use Rattle.vc_base.specs.declared.Reply.TheVariants.{Happened, Refused}
use Rattle.vc_base.specs.Buffers.{refuse_if, is_empty}
use Rattle.vc_base.specs.Limits.{eos_event, source_change_event, most_events}

-- One event that was raised.
pub record Event : Type 0 where
  pub event : ℕ
  pub seq : ℕ
  pub changes : ℕ

pub record EventState : Type 0 where
  pub eos : Bool
  pub source_change : Bool
  pub pending : List Event
  pub next_seq : ℕ

-- no type is subscribed at Open
abbrev pub no_events : EventState
no_events = record { eos = false; source_change = false; pending = []; next_seq = 0 }

-- whether a context of the kind has the type
abbrev pub has_event : Kind → ℕ → Bool
has_event Copy event = false
has_event Enc event = event == eos_event
has_event Dec event = (event == eos_event) || (event == source_change_event)

abbrev pub is_subscribed : EventState → ℕ → Bool
is_subscribed s event =
    ((event == eos_event) && s.eos) || ((event == source_change_event) && s.source_change)

abbrev pub event_refusal : Kind → ℕ → Option Errno
event_refusal kind event = refuse_if (not (has_event kind event)) Inval None

abbrev pub subscribe_after : EventState → ℕ → EventState
subscribe_after s event =
    if event == eos_event then record s { eos = true } else record s { source_change = true }

-- the pending events of the type are removed
abbrev pub unsubscribe_after : EventState → ℕ → EventState
unsubscribe_after s event =
    let kept = record s { pending = filter (λ e. not (e.event == event)) s.pending } in
    if event == eos_event then record kept { eos = false } else record kept { source_change = false }

-- the events with one more at the end: with 16 pending the oldest is dropped
abbrev pub with_event : List Event → Event → List Event
with_event pending e =
    if nat_lt (length pending) most_events then pending ++ e ∷ [] else drop 1 pending ++ e ∷ []

-- an event of a type that is not subscribed is not raised
abbrev pub raise_after : EventState → ℕ → ℕ → EventState
raise_after s event changes =
    if is_subscribed s event then record s { pending = with_event s.pending (record { event = event; seq = s.next_seq; changes = changes }); next_seq = s.next_seq + 1 } else s

abbrev pub take_event_refusal : EventState → Option Errno
take_event_refusal s = refuse_if (is_empty s.pending) NoEnt None

-- the reply with the oldest event, and the events that are left
abbrev pub event_reply : List Event → Reply
event_reply [] = Refused NoEnt
event_reply (e ∷ rest) = Happened e.event e.seq e.changes (length rest)

abbrev pub take_event_after : EventState → EventState
take_event_after s = record s { pending = drop 1 s.pending }
