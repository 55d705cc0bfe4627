use Rattle.std.proofs.Common.{subst}
use Rattle.vc_shared.specs.Handles.{HandleState}
use Rattle.vc_shared.specs.Calls.{BlocksCall}
use Rattle.vc_shared.proofs.handle.Handle.call.Goals as goal

pub returns-clause-blocked : goal.returns-clause-blocked
returns-clause-blocked g c = λ was. subst (λ (v : HandleState). BlocksCall v c.call-reply.new.self c.args.call.now) c.self.view_is (c.call-reply.ensures.blocked was)
