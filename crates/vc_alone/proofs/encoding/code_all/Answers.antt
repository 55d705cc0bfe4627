use Rattle.std.proofs.Common.{◌∙◌}
use Rattle.vc_alone.proofs.PicturesGoOn.{turn_goes_on}
use Rattle.vc_alone.proofs.encoding.code_all.Goals as goal

pub loop-turn-preserved : goal.loop-turn-preserved
loop-turn-preserved g c =
    let i = c.loop-turn.invariant in
    let e = c.in-Ok-true.ensures in (
      e.picture,
      e.frame,
      e.area,
      e.same,
      e.read_on ∙ i.4,
      e.wrote_on ∙ i.5,
      turn_goes_on _ _ _ _ _ _ _ _ _ _ c.in-Ok-true.field-0-test i.6 e.coded,
    )
