use Rattle.std.proofs.Common.{refl}
use Rattle.vc_encode_flow.proofs.SharedBytesAreDefined.{tally_more}
use Rattle.vc_encode_flow.proofs.tallying.Tally.add.Goals as goal

pub returns-clause-more : goal.returns-clause-more
returns-clause-more c = λ before e. tally_more _ _ before _ e refl c.folded-self.ensures
