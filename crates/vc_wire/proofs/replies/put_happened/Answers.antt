use Rattle.std.proofs.Common.{◌∷◌, ◌++◌}
use Rattle.vc_model.specs.Messages.{number_bytes, wide_bytes}
use Rattle.vc_wire.proofs.PiecesAreAppended.{appended}
use Rattle.vc_wire.proofs.replies.put_happened.Goals as goal

pub returns : goal.returns
returns c =
    let one = c.put_one.new.out.items in
    let two = c.put_wide.new.out.items in
    let three = c.put_number.new.out.items in
    let end = c.put_number-2.new.out.items in
    let counts = number_bytes c.args.changes ++ number_bytes c.args.pending in
    appended c.args.out.now.items one end (6 ∷ number_bytes c.args.event) (wide_bytes c.args.seq ++ counts) c.in_ok-put_one.ensures
    (appended one two end (wide_bytes c.args.seq) counts c.in_ok-put_wide.ensures
    (appended two three end (number_bytes c.args.changes) (number_bytes c.args.pending) c.in_ok-put_number.ensures c.in_ok-put_number-2.ensures))
