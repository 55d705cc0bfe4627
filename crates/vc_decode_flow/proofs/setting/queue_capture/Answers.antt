use Rattle.std.proofs.Common.{refl}
use Rattle.vc_flow.proofs.CallsHandOut.{bytes_stay}
use Rattle.vc_decode_flow.proofs.CallsKeepAStream.{quiet_keeps}
use Rattle.vc_decode_flow.proofs.setting.queue_capture.Goals as goal

pub returns-in-Done-clause-stream : goal.returns-in-Done-clause-stream
returns-in-Done-clause-stream g c = λ start f w. quiet_keeps start _ _ f _ _ _ _ refl refl c.in-Done.ensures.does w

pub returns-in-Done-clause-bytes : goal.returns-in-Done-clause-bytes
returns-in-Done-clause-bytes g c = bytes_stay _ _ _ _ _ _ c.call_on.ensures.does refl

pub returns-in-Refused-Inval-clause-stream : goal.returns-in-Refused-Inval-clause-stream
returns-in-Refused-Inval-clause-stream g c = λ start f w. quiet_keeps start _ _ f _ _ _ _ refl refl c.call_on.ensures.does w

pub returns-in-Refused-Inval-clause-bytes : goal.returns-in-Refused-Inval-clause-bytes
returns-in-Refused-Inval-clause-bytes g c = bytes_stay _ _ _ _ _ _ c.call_on.ensures.does refl

pub returns-in_default : goal.returns-in_default
returns-in_default g c =
    record {
      ready = c.call_on.ensures.ready;
      follows = c.call_on.ensures.follows;
      stream = λ start f w. tt;
      bytes = bytes_stay _ _ _ _ _ _ c.call_on.ensures.does refl;
      memory = refl;
    }

pub returns-in_default-2 : goal.returns-in_default-2
returns-in_default-2 g c =
    record {
      ready = c.call_on.ensures.ready;
      follows = c.call_on.ensures.follows;
      stream = λ start f w. tt;
      bytes = bytes_stay _ _ _ _ _ _ c.call_on.ensures.does refl;
      memory = refl;
    }
