use Rattle.vc_shared.specs.Following.{HandleFollows}
use Rattle.shared_rows.proofs.calls.replies.Given as goal

abbrev pub invariant-loop-call : goal.invariant-loop-call
invariant-loop-call g l = HandleFollows l.fn.handle l.handle
