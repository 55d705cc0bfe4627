use Rattle.vc_pair.proofs.tests.settle.Goals as goal

pub returns : goal.returns
returns g c = record { fit = c.settle.ensures.fit c.args.hold.now c.requires.fit }
