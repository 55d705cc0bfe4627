use Rattle.vc_shared.specs.Following.{handle_follows_self, handle_follows_on}
use Rattle.shared_rows.proofs.calls.replies.Goals as goal

pub loop-call-init : goal.loop-call-init
loop-call-init g c = handle_follows_self c.args.handle.now

pub loop-call-preserved : goal.loop-call-preserved
loop-call-preserved g c = handle_follows_on c.args.handle.now c.loop-call.handle _ c.loop-call.invariant c.call-told.ensures.follows
