use Rattle.vc_enc.proofs.CommonCalls.{parts}
use Rattle.vc_enc.proofs.Encoder.refusal.Goals as goal

pub returns : goal.returns
returns c =
    c.refusal.ensures c.args.self.now (parts c.self.inside.m2m c.self.inside.controls c.self.inside.reference c.self.inside.job c.args.self.now c.self.view_is c.self.invariant)
