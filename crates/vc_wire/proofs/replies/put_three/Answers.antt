use Rattle.std.proofs.Common.{◌∷◌, ◌++◌}
use Rattle.vc_model.specs.Messages.{number_bytes}
use Rattle.vc_wire.proofs.PiecesAreAppended.{appended}
use Rattle.vc_wire.proofs.replies.put_three.Goals as goal

pub returns : goal.returns
returns c =
    let one = c.put_one.new.out.items in
    let two = c.put_number.new.out.items in
    let end = c.put_number-2.new.out.items in
    let tail = number_bytes c.args.second ++ number_bytes c.args.third in
    appended c.args.out.now.items one end (c.args.code ∷ number_bytes c.args.first) tail c.in_ok-put_one.ensures
    (appended one two end (number_bytes c.args.second) (number_bytes c.args.third) c.in_ok-put_number.ensures c.in_ok-put_number-2.ensures)
