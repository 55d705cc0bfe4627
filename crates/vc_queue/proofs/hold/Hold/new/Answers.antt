use Rattle.vc_queue.proofs.Keeping.{nothing_held}
use Rattle.vc_queue.proofs.hold.Hold.new.Goals as goal

pub returns-clause-nothing : goal.returns-clause-nothing
returns-clause-nothing c = nothing_held c.new.result c.new-2.result c.new.ensures c.new-2.ensures
