use Rattle.std.proofs.Common.{refl, ◌∙◌}
use Rattle.vc_flow.proofs.CallsHandOut.{bytes_stay}
use Rattle.vc_decode_flow.proofs.CallsKeepAStream.{quiet_keeps}
use Rattle.vc_decode_flow.proofs.taking.next_event.Goals as goal

pub returns-in-Happened-clause-stream : goal.returns-in-Happened-clause-stream
returns-in-Happened-clause-stream g c = λ start f w.
    quiet_keeps start _ _ f _ _ _ _ refl refl c.call_on.ensures.does (c.wait_ready.ensures.stream start f w)

pub returns-in-Happened-clause-bytes : goal.returns-in-Happened-clause-bytes
returns-in-Happened-clause-bytes g c =
    bytes_stay _ _ _ _ _ _ c.call_on.ensures.does refl ∙ c.wait_ready.ensures.bytes

pub returns-in_default : goal.returns-in_default
returns-in_default g c =
    record {
      ready = c.call_on.ensures.ready;
      follows = g.met.P.Port.follows_on _ _ _ c.wait_ready.ensures.follows c.call_on.ensures.follows;
      stream = λ start f w. quiet_keeps start _ _ f _ _ _ _ refl refl c.call_on.ensures.does (c.wait_ready.ensures.stream start f w);
      bytes = bytes_stay _ _ _ _ _ _ c.call_on.ensures.does refl ∙ c.wait_ready.ensures.bytes;
    }
