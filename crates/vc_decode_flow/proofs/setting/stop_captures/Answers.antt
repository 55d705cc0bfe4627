use Rattle.std.proofs.Common.{refl}
use Rattle.vc_stream_laws.proofs.CallsOfAClient.{capture_stops}
use Rattle.vc_flow.proofs.CallsHandOut.{bytes_stay}
use Rattle.vc_decode_flow.proofs.setting.stop_captures.Goals as goal

pub returns-in-Done-clause-stream : goal.returns-in-Done-clause-stream
returns-in-Done-clause-stream g c = λ start f e w. capture_stops start _ _ f _ _ e w c.in-Done.ensures.does

pub returns-in-Done-clause-bytes : goal.returns-in-Done-clause-bytes
returns-in-Done-clause-bytes g c = bytes_stay _ _ _ _ _ _ c.wait_on.ensures.does refl

pub returns-in_default : goal.returns-in_default
returns-in_default g c =
    record {
      ready = c.wait_on.ensures.ready;
      follows = c.wait_on.ensures.follows;
      stream = λ start f e w. tt;
      bytes = bytes_stay _ _ _ _ _ _ c.wait_on.ensures.does refl;
      memory = refl;
    }
