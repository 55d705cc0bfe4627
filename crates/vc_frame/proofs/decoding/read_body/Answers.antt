use Rattle.vc_frame.proofs.BodiesAreWhole.{body_read, body_long, body_none}
use Rattle.vc_frame.proofs.decoding.read_body.Goals as goal

pub returns-in-Ok : goal.returns-in-Ok
returns-in-Ok g c = body_read c.args.header.now c.args.body.now c.args.area.now c.read_planes.new.area _ c.in-Ok.end c.plane_sizes-sizes.ensures.sizes c.in-Ok.ensures.ok c.if-end-body.true

pub returns-in_default : goal.returns-in_default
returns-in_default g c = body_long c.args.header.now c.args.body.now c.args.area.now c.read_planes.new.area _ c.in-Ok.end c.plane_sizes-sizes.ensures.sizes c.in-Ok.ensures.ok c.if-end-body.false

pub returns-in_default-2 : goal.returns-in_default-2
returns-in_default-2 g c = body_none c.args.header.now c.args.body.now c.args.area.now _ c.plane_sizes-sizes.ensures.sizes c.in_default.ensures.damaged
