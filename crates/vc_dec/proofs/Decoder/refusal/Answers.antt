use Rattle.vc_dec.proofs.CommonCalls.{parts}
use Rattle.vc_dec.proofs.Decoder.refusal.Goals as goal

pub returns : goal.returns
returns c = c.refusal.ensures c.args.self.now (parts c.self.inside c.args.self.now c.self.view_is c.self.invariant)
