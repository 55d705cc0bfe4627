use Rattle.std.proofs.Common.{subst}
use Rattle.vc_shared.specs.Handles.{handle_at}
use Rattle.vc_shared.specs.Calls.{BlocksCall}
use Rattle.vc_shared.proofs.handle_seat.HandleSeat.call.Goals as goal

pub returns-clause-blocked : goal.returns-clause-blocked
returns-clause-blocked g c = λ was. subst (λ v. BlocksCall v (handle_at c.make_call.new.seat c.self.inside.sizes c.self.inside.slot c.make_call.new.hold) c.args.call.now) c.self.view_is (c.make_call.ensures.blocked was)
