use Rattle.vc_defs.specs.Encoder.{RunRates}
use Rattle.vc_encode_flow.specs.Flows.{with_rates}
use Rattle.vc_encode_flow.proofs.RatesAreSet.{gop_set, iqp_set, pqp_set}
use Rattle.vc_chain.proofs.opening.set_rates.Goals as goal

pub set_control-requires-clause-settable : goal.set_control-requires-clause-settable
set_control-requires-clause-settable g c = λ rates. (_, gop_set rates _ c.requires.rates.0 c.requires.rates.1)

pub set_control-requires-2-clause-settable : goal.set_control-requires-2-clause-settable
set_control-requires-2-clause-settable g c = λ rates. (_, iqp_set rates _ c.requires.rates.2 c.requires.rates.3)

pub set_control-requires-3-clause-settable : goal.set_control-requires-3-clause-settable
set_control-requires-3-clause-settable g c = λ rates. (_, pqp_set rates _ c.requires.rates.4 c.requires.rates.5)

pub returns-clause-flow : goal.returns-clause-flow
returns-clause-flow g c = λ start f b w.
    let r = c.args.rates.now in
    let a = c.requires.rates in
    let one : RunRates = record f.rates { gop = r.gop } in
    let two : RunRates = record one { iqp = r.iqp } in
    let three : RunRates = record two { pqp = r.pqp } in
    let first = c.in_ok-set_control.ensures.flow start f one b (gop_set f.rates r.gop a.0 a.1) w in
    let second = c.in_ok-set_control-2.ensures.flow start (with_rates f one) two (record { queued = b.queued; taken = b.taken }) (iqp_set one r.iqp a.2 a.3) first in
    c.set_control-3.ensures.flow start (with_rates f two) three (record { queued = b.queued; taken = b.taken }) (pqp_set two r.pqp a.4 a.5) second
