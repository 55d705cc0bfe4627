use Rattle.std.proofs.Common.{sym, ap, ◌∙◌}
use Rattle.vc_base.specs.declared.Reply.TheVariants.{Fmt}
use Rattle.vc_geom.specs.Pairs.{pair_of}
use Rattle.vc_dec.proofs.EventsAndFormats.{set_keeps, set_serves, set_refused}
use Rattle.vc_dec.proofs.CommonCalls.{parts}
use Rattle.vc_dec.proofs.Decoder.set_format.Goals as goal

pub invariant_of-self : goal.invariant_of-self
invariant_of-self c =
    set_keeps c.self.inside c.args.self.now c.self.view_is c.self.invariant c.args.side c.args.want.now
    (sym (c.has_buffers.ensures c.args.self.now (parts c.self.inside c.args.self.now c.self.view_is c.self.invariant)) ∙ c.if-has_buffers.false)
    (pair_of c.try_format-formats.result) c.geometry_after-self-inside.result c.try_format-formats.ensures.formats
    c.geometry_after-self-inside.ensures c.try_format-formats.ensures.stand

pub returns : goal.returns
returns c =
    set_serves c.self.inside c.args.self.now c.self.view_is c.self.invariant c.args.side c.args.want.now
    (sym (c.has_buffers.ensures c.args.self.now (parts c.self.inside c.args.self.now c.self.view_is c.self.invariant)) ∙ c.if-has_buffers.false)
    (pair_of c.try_format-formats.result) c.geometry_after-self-inside.result c.try_format-formats.ensures.formats
    c.geometry_after-self-inside.ensures (Fmt c.format_of.result) (ap Fmt c.format_of.ensures) c.requires.kept

pub returns-then-has_buffers : goal.returns-then-has_buffers
returns-then-has_buffers c =
    set_refused c.args.self.now c.args.side c.args.want.now c.refused.result c.refused.ensures
    (sym (c.has_buffers.ensures c.args.self.now (parts c.self.inside c.args.self.now c.self.view_is c.self.invariant)) ∙ c.if-has_buffers.true)
    c.requires.kept
