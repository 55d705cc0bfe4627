use Rattle.vc_dec.proofs.ReferencesByLength.{others_have}
use Rattle.vc_dec.proofs.codec.Codec.lend_reference.Goals as goal

pub bring_forward-requires-clause-there : goal.bring_forward-requires-clause-there
bring_forward-requires-clause-there c =
    others_have c.self.inside.assembly c.self.inside.present c.self.inside.others.items c.args.self.now c.self.view_is c.args.length c.is_as_long.result c.is_as_long.ensures c.if-not-is_as_long.true c.requires.served
