-- A decoder at Open keeps what every decoder has to: it has no buffers, no geometry and nothing of a stream.
use Rattle.std.proofs.Common.{◌≡◌, ◌<◌, None, refl, arith}
use Rattle.vc_base.specs.declared.Kind.TheVariants.{Dec}
use Rattle.vc_base.specs.Buffers.{buffer_count}
use Rattle.vc_base.specs.Events.{EventState, no_events}
use Rattle.vc_model.specs.Formats.{FormatPair, formats_at_open}
use Rattle.vc_geom.specs.Pairs.{CanStand}
use Rattle.vc_pair.specs.Pairs.{PairState, new_pair}
use Rattle.vc_work.proofs.Streams.{begins_in_step}
use Rattle.vc_dec.specs.Decoders.{CodecParts, IsDecoder}
use Rattle.vc_dec.specs.Parts.{no_parts}
use Rattle.vc_dec.proofs.ReachedStaysReached.{fresh_placed}

fresh_is : CanStand Dec (formats_at_open Dec) → IsDecoder (formats_at_open Dec) None new_pair no_events no_parts None
fresh_is h =
    record {
      stands = h;
      sized = tt;
      placed = fresh_placed;
      picture = tt;
      fresh = λ _. refl;
      stream = begins_in_step _ None;
      begun = refl;
      untouched = refl;
      blank = record { held = refl; ready = refl; job = refl };
      knows = tt;
      supplied = λ (some : 0 < buffer_count new_pair.out). absurd (omega arith);
      served = record { held = refl; ready = refl; job = refl; done = refl };
      lent = tt;
      due = tt;
    }

pub fresh_keeps :
    (formats : FormatPair) (p : PairState) (events : EventState) (parts : CodecParts) → formats ≡ formats_at_open Dec → p ≡ new_pair
    → events ≡ no_events → parts ≡ no_parts → CanStand Dec formats → IsDecoder formats None p events parts None
fresh_keeps formats p events parts ef ep ee ec =
    rw (ef, ep, ee, ec) fresh_is
