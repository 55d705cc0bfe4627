-- The parts that an encoder and a decoder have in common, as those of a context of the device's definitions.
use Rattle.std.specs.Prelude.{ℕ, ◌≡◌, ◌<◌, ◌^◌}
use Rattle.vc_base.specs.declared.Kind.{Kind}
use Rattle.vc_base.specs.declared.Side.{Side}
use Rattle.vc_base.specs.Events.{no_events}
use Rattle.vc_model.specs.Formats.{formats_at_open}
use Rattle.vc_model.specs.Context.{Context, format_of}
use Rattle.vc_geom.specs.Pairs.{pair_of, CanStand}
use Rattle.vc_pair.specs.Pairs.{PairState, pair_settled, new_pair}
use Rattle.vc_pair.specs.Rows.{JobsAgree}
use Rattle.vc_m2m.specs.declared.M2mContext.{M2mContext}
use Rattle.vc_m2m.specs.Settling.{events_settled}

-- A context of the kind has these parts at Open.
pub record IsFresh (kind : Kind) (m : M2mContext) : Type 0 where
  pub formats : pair_of m.formats ≡ formats_at_open kind
  pub stands : CanStand kind (pair_of m.formats)
  pub pair : m.pair ≡ new_pair
  pub events : m.events ≡ no_events

-- the context with these parts, and the rest as it is
abbrev pub with_parts : Context → M2mContext → Context
with_parts c m =
    record c {
      formats = pair_of m.formats;
      out = m.pair.out;
      cap = m.pair.cap;
      phase = m.pair.phase;
      mark = m.pair.mark;
      events = m.events;
    }

-- The context has these parts, and a job of it runs exactly where a buffer is in a job.
pub record ArePartsOf (c : Context) (m : M2mContext) : Type 0 where
  pub parts : with_parts c m ≡ c
  pub jobs : JobsAgree c

-- the size of a buffer for the present format of the side
abbrev pub size_at : M2mContext → Side → ℕ
size_at m side = (format_of (pair_of m.formats) side).size

-- the parts after the queues came to this and settled
abbrev pub settled_as : M2mContext → PairState → M2mContext
settled_as m p = record m { pair = pair_settled p; events = events_settled p m.events }

-- no number of the parts that counts up is at its end
pub record CanCount (m : M2mContext) : Type 0 where
  pub out_queued : m.pair.out.next_ordinal < 2 ^ 62
  pub cap_queued : m.pair.cap.next_ordinal < 2 ^ 62
  pub cap_done : m.pair.cap.next_seq < 2 ^ 62
  pub raised : m.events.next_seq < 2 ^ 62
