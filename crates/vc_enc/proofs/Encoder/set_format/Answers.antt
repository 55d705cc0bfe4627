use Rattle.std.proofs.Common.{sym, ◌∙◌}
use Rattle.vc_geom.specs.Pairs.{pair_of}
use Rattle.vc_enc.proofs.FormatsAndControls.{set_kept, set_serves}
use Rattle.vc_enc.proofs.CommonCalls.{parts}
use Rattle.vc_enc.proofs.Encoder.set_format.Goals as goal

pub returns : goal.returns
returns c =
    set_serves (pair_of c.self.inside.m2m.formats) c.self.inside.controls c.self.inside.m2m.pair c.self.inside.m2m.events c.self.inside.reference
    c.self.inside.job c.args.self.now c.self.view_is c.self.invariant c.requires.kept c.args.side (pair_of c.try_format-formats.result)
    c.args.want.now c.format_of.result c.try_format-formats.ensures.formats
    (sym (c.has_buffers.ensures c.args.self.now (parts c.self.inside.m2m c.self.inside.controls c.self.inside.reference c.self.inside.job c.args.self.now c.self.view_is c.self.invariant))
    ∙ c.if-has_buffers.false)
    c.format_of.ensures

pub invariant_of-self : goal.invariant_of-self
invariant_of-self c =
    set_kept (pair_of c.self.inside.m2m.formats) c.self.inside.controls c.self.inside.m2m.pair c.self.inside.m2m.events c.self.inside.reference
    c.self.inside.job c.args.self.now c.self.view_is c.self.invariant c.requires.kept c.args.side (pair_of c.try_format-formats.result)
    c.args.want.now c.try_format-formats.ensures.stand c.try_format-formats.ensures.formats
    (sym (c.has_buffers.ensures c.args.self.now (parts c.self.inside.m2m c.self.inside.controls c.self.inside.reference c.self.inside.job c.args.self.now c.self.view_is c.self.invariant))
    ∙ c.if-has_buffers.false)
