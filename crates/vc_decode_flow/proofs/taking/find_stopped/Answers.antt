use Rattle.std.proofs.Common.{refl}
use Rattle.vc_base.specs.declared.Errno.TheVariants.{Pipe}
use Rattle.vc_flow.proofs.CallsHandOut.{hands_first}
use Rattle.vc_decode_flow.proofs.CallsKeepAStream.{finds_stop, refusal_keeps, nothing_handed}
use Rattle.vc_decode_flow.proofs.taking.find_stopped.Goals as goal

pub returns-in-Refused-Pipe-clause-stream : goal.returns-in-Refused-Pipe-clause-stream
returns-in-Refused-Pipe-clause-stream g c = λ start f w. finds_stop start _ _ f _ _ _ _ (cc) w c.call_on.ensures.does

pub returns-in-Refused-Pipe-clause-payloads : goal.returns-in-Refused-Pipe-clause-payloads
returns-in-Refused-Pipe-clause-payloads g c = refusal_keeps _ _ _ _ _ _ _ Pipe (cc) c.call_on.ensures.does

pub returns-in-Refused-Pipe-clause-bytes : goal.returns-in-Refused-Pipe-clause-bytes
returns-in-Refused-Pipe-clause-bytes g c = nothing_handed _ _ _ _ _ _ _ Pipe (cc) c.call_on.ensures.does

pub returns-in-Refused-Pipe-clause-hands : goal.returns-in-Refused-Pipe-clause-hands
returns-in-Refused-Pipe-clause-hands g c = λ start bytes h. hands_first start bytes _ _ _ _ _ _ c.call_on.ensures.does h

pub returns-in_default : goal.returns-in_default
returns-in_default g c =
    record {
      ready = c.call_on.ensures.ready;
      follows = c.call_on.ensures.follows;
      stream = λ start f w. tt;
      payloads = tt;
      bytes = tt;
      hands = λ start bytes h. hands_first start bytes _ _ _ _ _ _ c.call_on.ensures.does h;
      memory = refl;
    }

pub returns-in_default-2 : goal.returns-in_default-2
returns-in_default-2 g c =
    record {
      ready = c.call_on.ensures.ready;
      follows = c.call_on.ensures.follows;
      stream = λ start f w. tt;
      payloads = tt;
      bytes = tt;
      hands = λ start bytes h. hands_first start bytes _ _ _ _ _ _ c.call_on.ensures.does h;
      memory = refl;
    }
