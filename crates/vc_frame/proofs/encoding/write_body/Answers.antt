use Rattle.std.proofs.Common.{◌∙◌, sym, subst, List, ℕ}
use Rattle.vc_defs.specs.Bodies.{plane_shapes, IsPicture}
use Rattle.vc_defs.specs.Raw.{cut_into}
use Rattle.vc_defs.specs.Encoder.{written_planes}
use Rattle.vc_work.specs.References.{plane_total}
use Rattle.vc_frame.specs.Planes.{AreWritten}
use Rattle.vc_frame.proofs.AreasArePictures.{cut_is_picture}
use Rattle.vc_frame.proofs.RawOrdersBothWays.{planar_parts}
use Rattle.vc_frame.proofs.encoding.write_body.Goals as goal

pub returns-then-is_planar-clause-written : goal.returns-then-is_planar-clause-written
returns-then-is_planar-clause-written g c =
    let parts = planar_parts c.args.fourcc c.args.geometry.now c.args.raw.now c.requires.raw_format (sym c.is_planar.ensures ∙ c.if-is_planar.true) in
    subst (λ (planes : List (List ℕ)). AreWritten (written_planes c.args.coding.now.inter c.args.coding.now.qp (plane_shapes c.args.geometry.now) planes (cut_into (plane_shapes c.args.geometry.now) c.args.area.now))
    (plane_total (plane_shapes c.args.geometry.now)) c.args.area.now c.write_planes.new.area c.args.out.now c.write_planes.new.out 44 c.write_planes.result) parts
    (subst (λ (sizes : List (ℕ × ℕ)). AreWritten (written_planes c.args.coding.now.inter c.args.coding.now.qp sizes (cut_into sizes c.args.raw.now) (cut_into sizes c.args.area.now))
    (plane_total sizes) c.args.area.now c.write_planes.new.area c.args.out.now c.write_planes.new.out 44 c.write_planes.result) c.plane_sizes-sizes.ensures.sizes c.write_planes.ensures)

pub returns-then-is_planar-clause-picture : goal.returns-then-is_planar-clause-picture
returns-then-is_planar-clause-picture g c =
    subst (λ (planes : List (List ℕ)). IsPicture c.args.geometry.now planes) (planar_parts c.args.fourcc c.args.geometry.now c.args.raw.now c.requires.raw_format (sym c.is_planar.ensures ∙ c.if-is_planar.true))
    (cut_is_picture c.args.geometry.now c.args.raw.now c.requires.whole c.type_inv.raw)

pub returns-else-is_planar-clause-picture : goal.returns-else-is_planar-clause-picture
returns-else-is_planar-clause-picture g c =
    subst (λ (planes : List (List ℕ)). IsPicture c.args.geometry.now planes) c.part.ensures.planes c.part.ensures.picture
