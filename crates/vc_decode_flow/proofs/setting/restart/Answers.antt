use Rattle.vc_decode_flow.specs.Steps.{without_captures}
use Rattle.vc_decode_flow.proofs.setting.restart.Goals as goal

pub returns-clause-stream : goal.returns-clause-stream
returns-clause-stream g c = λ start f e w.
    c.set_up.ensures.stream start (without_captures f) (c.in_ok-stop_captures.ensures.stream start f e w)
