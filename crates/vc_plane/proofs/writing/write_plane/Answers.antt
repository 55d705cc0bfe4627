use Rattle.std.proofs.Common.{◌≡◌, ◌∙◌, ◌+◌, ◌*◌, ◌-◌, ◌≤◌, length, drop, length-take, length-drop, arith}
use Rattle.vc_defs.specs.Planes.{padded}
use Rattle.vc_plane.proofs.RawPlanesBothWays.{padded_size}
use Rattle.vc_plane.proofs.PlaneWrittenInItsPart.{words_written, raw_written}
use Rattle.vc_plane.proofs.writing.write_plane.Goals as goal

pub returns-in-Ok : goal.returns-in-Ok
returns-in-Ok g c =
    let size : c.args.at + 64 * c.block_count.result - c.args.at ≡ padded c.args.shape.now.width * padded c.args.shape.now.height =
    omega (arith, padded_size c.args.shape.now.width c.args.shape.now.height, c.block_count.ensures) in
    words_written c.args.shape.now c.args.plane.now c.args.reference.now c.write_coded.new.reference c.args.out.now c.write_coded.new.out c.args.at (c.args.at + 64 * c.block_count.result - c.args.at) c.in-Ok.length
    size (omega (arith, size, c.requires.room)) c.in-Ok.ensures.bytes c.in-Ok.ensures.samples

pub returns-in-Err : goal.returns-in-Err
returns-in-Err g c =
    let size : c.args.at + 64 * c.block_count.result - c.args.at ≡ padded c.args.shape.now.width * padded c.args.shape.now.height =
    omega (arith, padded_size c.args.shape.now.width c.args.shape.now.height, c.block_count.ensures) in
    let inside : c.args.at + (c.args.at + 64 * c.block_count.result - c.args.at) ≤ length c.args.out.now = omega (arith, size, c.requires.room) in
    let long : length c.write_coded.new.out ≡ c.args.at + 64 * c.block_count.result - c.args.at =
    c.write_coded.auto.out ∙ length-take (c.args.at + 64 * c.block_count.result - c.args.at) (drop c.args.at c.args.out.now) ∙ omega (arith, inside, length-drop c.args.at c.args.out.now) in
    raw_written c.args.shape.now c.args.plane.now c.args.reference.now c.cap_samples.new.reference c.args.out.now c.write_coded.new.out c.put_plane.new.out c.args.at (c.args.at + 64 * c.block_count.result - c.args.at)
    (c.args.at + 64 * c.block_count.result) c.in-Err.field-0 (omega arith) size inside long c.in-Err.ensures.bytes c.put_plane.ensures c.cap_samples.ensures
