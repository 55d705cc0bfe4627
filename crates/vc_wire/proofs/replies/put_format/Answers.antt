use Rattle.std.proofs.Common.{◌∷◌, [], ◌++◌}
use Rattle.vc_model.specs.Messages.{number_bytes}
use Rattle.vc_wire.proofs.PiecesAreAppended.{appended}
use Rattle.vc_wire.proofs.replies.put_format.Goals as goal

pub returns : goal.returns
returns c =
    let f = c.args.format.now in
    let one = c.put_byte.new.out.items in
    let two = c.extend_from_slice.new.self.items in
    let three = c.put_number.new.out.items in
    let four = c.put_number-2.new.out.items in
    let end = c.put_number-3.new.out.items in
    let sizes = number_bytes f.height ++ number_bytes f.size in
    appended c.args.out.now.items one end (2 ∷ []) (f.fourcc.0 ++ (number_bytes f.width ++ sizes)) c.in_ok-put_byte.ensures
    (appended one two end f.fourcc.0 (number_bytes f.width ++ sizes) c.in_ok-extend_from_slice.ensures.items
    (appended two three end (number_bytes f.width) sizes c.in_ok-put_number.ensures
    (appended three four end (number_bytes f.height) (number_bytes f.size) c.in_ok-put_number-2.ensures c.in_ok-put_number-3.ensures)))
