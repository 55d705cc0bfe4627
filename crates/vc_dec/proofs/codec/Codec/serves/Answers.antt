use Rattle.std.proofs.Common.{◌∙◌, ap, List}
use Rattle.std.specs.Prelude.{◌==◌}
use Rattle.std.specs.List.{list_any}
use Rattle.vc_work.specs.References.{CodecReference}
use Rattle.vc_dec.proofs.ReferencesByLength.{present_serves, others_serve}
use Rattle.vc_dec.proofs.codec.Codec.serves.Goals as goal

pub returns-then-is_as_long : goal.returns-then-is_as_long
returns-then-is_as_long c =
    c.if-is_as_long.true ∙ present_serves c.self.inside.assembly c.self.inside.present c.self.inside.others.items c.args.self.now c.self.view_is c.args.length c.is_as_long.result c.is_as_long.ensures c.if-is_as_long.true

pub returns-else-is_as_long : goal.returns-else-is_as_long
returns-else-is_as_long c =
    others_serve c.self.inside.assembly c.self.inside.present c.self.inside.others.items c.args.self.now c.self.view_is c.args.length
    c.is_as_long.result c.one_serves.result c.is_as_long.ensures c.if-is_as_long.false
    (c.one_serves.ensures ∙ ap (λ (rs : List CodecReference). list_any (λ (r : CodecReference). r.size == c.args.length) rs) c.deref.ensures.value)
