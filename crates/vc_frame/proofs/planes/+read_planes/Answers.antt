use Rattle.std.proofs.Common.{◌≡◌, ◌+◌, ◌*◌, ap, sym, length, drop, ◌-◌, arith, length-take, length-drop}
use Rattle.vc_work.specs.References.{plane_total}
use Rattle.vc_frame.proofs.PlanesOneByOne.{some_first}
use Rattle.vc_frame.proofs.planes.+read_planes.Goals as goal

pub read_planes-requires : goal.read_planes-requires
read_planes-requires g t c κs within =
    let is = c.in-Some.ensures.cases.0 in
    let total : plane_total c.args.sizes.now ≡ c.in-Some.size.now.0 * c.in-Some.size.now.1 + plane_total c.in-Some.sizes.now = ap plane_total is in
    let count : length c.args.sizes.now ≡ length c.in-Some.sizes.now + 1 = sym c.in-Some.ensures.cases.1 in
    (omega arith, (within, ((some_first c.args.sizes.now c.in-Some.size.now c.in-Some.sizes.now is c.requires.some).2, (omega (arith, total), (omega (arith, count, length-take (length c.args.raw.now - 1) (drop 1 c.args.raw.now), length-drop 1 c.args.raw.now), c.in_ok-end.ensures.ok.inside.1)))))
