use Rattle.vc_laws.proofs.TakenInOrder.{taken_in_order, handed_in_order, done_is_retired}
use Rattle.vc_laws.proofs.laws.taken_in_order.Goals as goal

pub returns-clause-steps : goal.returns-clause-steps
returns-clause-steps c = taken_in_order

pub returns-clause-runs : goal.returns-clause-runs
returns-clause-runs c = handed_in_order

pub returns-clause-segments : goal.returns-clause-segments
returns-clause-segments c = done_is_retired
