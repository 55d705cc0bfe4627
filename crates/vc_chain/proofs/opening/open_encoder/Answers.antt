use Rattle.std.proofs.Common.{refl}
use Rattle.vc_encode_flow.specs.Flows.{flow_at_open, with_format}
use Rattle.vc_chain.proofs.opening.open_encoder.Goals as goal

pub set_rates-requires-clause-flow : goal.set_rates-requires-clause-flow
set_rates-requires-clause-flow g c =
    let start = g.P.PayloadPort.events c.args.port.now in
    record {
      start = start;
      so_far = with_format flow_at_open c.args.format.now;
      begun = record { queued = refl; taken = refl };
      flow = c.in_ok-set_format.ensures.flow start flow_at_open (record { queued = refl; taken = refl }) c.in_ok-open_slot.ensures.flow;
    }
