use Rattle.std.proofs.Common.{false}
use Rattle.vc_decode_flow.proofs.opening.open_decoder.Goals as goal

pub subscribe-requires-clause-opened : goal.subscribe-requires-clause-opened
subscribe-requires-clause-opened g c =
    record { start = g.P.PayloadPort.events c.args.port.now; limited = false; opened = c.in_ok-open_slot.ensures.opened }

pub subscribe-requires-2-clause-opened : goal.subscribe-requires-2-clause-opened
subscribe-requires-2-clause-opened g c =
    let start = g.P.PayloadPort.events c.args.port.now in
    record { start = start; limited = false; opened = c.in_ok-subscribe.ensures.opened start false c.in_ok-open_slot.ensures.opened }
