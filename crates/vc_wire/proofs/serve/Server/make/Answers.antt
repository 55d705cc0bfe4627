use Rattle.std.proofs.Common.{refl}
use Rattle.vc_wire.proofs.ServingGoesOn.{not_begun}
use Rattle.vc_wire.proofs.serve.Server.make.Goals as goal

pub returns : goal.returns
returns c = record {
  serving = λ at.
      not_begun c.args.slots _ at c.in_ok-desk.ensures.desk c.in_ok-desk.ensures.steps c.make-2.ensures.kept c.new.ensures.items refl refl;
}
