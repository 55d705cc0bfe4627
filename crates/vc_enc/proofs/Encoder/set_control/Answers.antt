use Rattle.vc_geom.specs.Pairs.{pair_of}
use Rattle.vc_enc.proofs.FormatsAndControls.{control_serves}
use Rattle.vc_enc.proofs.Encoder.set_control.Goals as goal

pub returns : goal.returns
returns c =
    control_serves (pair_of c.self.inside.m2m.formats) c.self.inside.controls c.self.inside.m2m.pair c.self.inside.m2m.events c.self.inside.reference
    c.self.inside.job c.args.self.now c.self.view_is c.self.invariant c.requires.kept c.args.id c.args.value c.set.new.self c.set.result c.told.result
    c.set.ensures.answer c.set.ensures.after c.told.ensures
