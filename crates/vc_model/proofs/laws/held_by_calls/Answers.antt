use Rattle.vc_model.proofs.HeldByCalls.{held_by_calls}
use Rattle.vc_model.proofs.laws.held_by_calls.Goals as goal

pub returns : goal.returns
returns c = held_by_calls
