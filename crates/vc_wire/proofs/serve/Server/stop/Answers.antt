use Rattle.std.proofs.Common.{subst}
use Rattle.vc_wire.specs.Ends.{standing}
use Rattle.vc_wire.specs.Serving.{IsStopped}
use Rattle.vc_wire.proofs.ServingGoesOn.{bad_cut}
use Rattle.vc_wire.proofs.ServingEnds.{stops_bad, stops_cut}
use Rattle.vc_wire.proofs.serve.Server.stop.Goals as goal

pub returns-in-Ok-clause-ended : goal.returns-in-Ok-clause-ended
returns-in-Ok-clause-ended g c = λ n all left left_now before runs faults r b.
    let now = standing (g.K.Sink.written c.args.sink.now) runs faults in
    stops_bad n all left left_now c.args.self.now before now _ r (subst (IsStopped n all c.args.self.now before now) c.in-BadLength.is b) c.in-Ok.ensures.whole

pub returns-in-Err-clause-ended : goal.returns-in-Err-clause-ended
returns-in-Err-clause-ended g c = λ n all left left_now before runs faults r b.
    let now = standing (g.K.Sink.written c.args.sink.now) runs faults in
    stops_cut n all left left_now before _ r
    (bad_cut n all c.args.self.now before now _ (subst (IsStopped n all c.args.self.now before now) c.in-BadLength.is b) c.in-Err.ensures.front)

pub returns-in-WriteFault-clause-ended : goal.returns-in-WriteFault-clause-ended
returns-in-WriteFault-clause-ended g c = λ n all left left_now before runs faults r b.
    let now = standing (g.K.Sink.written c.args.sink.now) runs faults in
    stops_cut n all left left_now before now r (subst (IsStopped n all c.args.self.now before now) c.in-WriteFault.is b)

pub returns-in-NoMemory-clause-ended : goal.returns-in-NoMemory-clause-ended
returns-in-NoMemory-clause-ended g c = λ n all left left_now before runs faults r b.
    let now = standing (g.K.Sink.written c.args.sink.now) runs faults in
    stops_cut n all left left_now before now r (subst (IsStopped n all c.args.self.now before now) c.in-NoMemory.is b)
