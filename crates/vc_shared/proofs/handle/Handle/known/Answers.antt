use Rattle.std.proofs.Common.{subst}
use Rattle.vc_shared.specs.Handles.{HandleState, IsHandle}
use Rattle.vc_shared.proofs.handle.Handle.known.Goals as goal

pub returns : goal.returns
returns g c = subst (λ (v : HandleState). IsHandle v) c.self.view_is c.known.ensures
