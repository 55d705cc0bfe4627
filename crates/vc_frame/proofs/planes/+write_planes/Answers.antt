use Rattle.std.proofs.Common.{◌≡◌, ◌≤◌, ◌+◌, ◌*◌, ap, length, arith, rules}
use Rattle.vc_defs.specs.Bodies.{padded_total}
use Rattle.vc_defs.specs.Planes.{padded, written_plane}
use Rattle.vc_work.specs.References.{plane_total}
use Rattle.vc_frame.proofs.PlanesOneByOne.{some_first, plane_short, written_more}
use Rattle.vc_frame.proofs.planes.+write_planes.Goals as goal

pub write_planes-rest-requires : goal.write_planes-rest-requires
write_planes-rest-requires g t c κs within =
    let is = c.in-Some.ensures.cases.0 in
    let total : plane_total c.args.sizes.now ≡ c.in-Some.size.now.0 * c.in-Some.size.now.1 + plane_total c.in-Some.sizes.now = ap plane_total is in
    let room : padded_total c.args.sizes.now ≡ padded c.in-Some.size.now.0 * padded c.in-Some.size.now.1 + padded_total c.in-Some.sizes.now = ap padded_total is in
    let short : length (written_plane c.args.coding.now.inter c.args.coding.now.qp c.split_at.result.0.now c.split_at_mut-mine.result.0.now c.in-Some.size.now.0 c.in-Some.size.now.1).bytes ≤ padded c.in-Some.size.now.0 * padded c.in-Some.size.now.1 =
    plane_short c.args.coding.now.inter c.args.coding.now.qp c.split_at.result.0.now c.split_at_mut-mine.result.0.now c.in-Some.size.now.0 c.in-Some.size.now.1 in
    (search rules, (within, ((some_first c.args.sizes.now c.in-Some.size.now c.in-Some.sizes.now is c.requires.some).2, (omega (arith, total), (omega (arith, total), (c.requires.qp, omega (arith, room, short, c.write_plane-written.ensures.end, c.write_plane-written.auto.out)))))))

pub returns : goal.returns
returns g t c =
    written_more c.args.coding.now.inter c.args.coding.now.qp c.args.sizes.now c.in-Some.size.now c.in-Some.sizes.now c.in-Some.ensures.cases.0
    c.args.planes.now c.split_at.result.0.now c.split_at.result.1.now c.args.area.now c.split_at_mut-mine.result.0.now c.split_at_mut-mine.result.1.now c.write_plane-written.new.reference c.write_planes-rest.new.area c.args.out.now c.write_plane-written.new.out c.write_planes-rest.new.out
    c.args.at c.write_plane-written.result c.write_planes-rest.result c.split_at.ensures.front c.split_at.ensures.back c.split_at_mut-mine.ensures.front c.split_at_mut-mine.ensures.back c.requires.room c.write_plane-written.ensures c.write_planes-rest.ensures
