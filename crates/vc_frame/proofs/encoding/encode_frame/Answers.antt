use Rattle.std.proofs.Common.{◌≡◌, ◌∙◌, sym, ap, subst, length, arith}
use Rattle.std.specs.Prelude.{true}
use Rattle.std.specs.Vec.{with_items}
use Rattle.std.proofs.lemmas.List.{with_items_is}
use Rattle.vc_defs.specs.declared.Geometry.{Geometry}
use Rattle.vc_defs.specs.Headers.{is_legal_geometry}
use Rattle.vc_work.specs.References.{CodecReference, picture_total}
use Rattle.vc_defs.specs.Raw.{geometry_of}
use Rattle.vc_work.specs.Runs.{run_rates}
use Rattle.vc_frame.proofs.NextFrameIsEncoded.{next_is, next_small, left_is, count_small, number_small, format_total}
use Rattle.vc_frame.proofs.encoding.encode_frame.Goals as goal

pub write_body-body-requires-clause-whole : goal.write_body-body-requires-clause-whole
write_body-body-requires-clause-whole g c =
    let t = format_total c.args.format.now c.requires.raw_format in
    omega (arith, ap picture_total c.geometry_in-geometry.ensures, t, c.requires.whole)

pub write_body-body-requires-clause-spare : goal.write_body-body-requires-clause-spare
write_body-body-requires-clause-spare g c =
    let t = format_total c.args.format.now c.requires.raw_format in
    let size = ap (λ (r : CodecReference). r.size) c.reference.view_is in
    omega (arith, ap picture_total c.geometry_in-geometry.ensures, t, c.requires.area, size, c.reference.invariant.same_size, c.deref_mut.ensures.len, c.reference.inside.spare.ok.0)

pub write_body-body-requires-clause-area : goal.write_body-body-requires-clause-area
write_body-body-requires-clause-area g c =
    let t = format_total c.args.format.now c.requires.raw_format in
    let size = ap (λ (r : CodecReference). r.size) c.reference.view_is in
    omega (arith, ap picture_total c.geometry_in-geometry.ensures, t, c.requires.area, size, c.deref_mut-2.ensures.len, c.reference.inside.area.ok.0)

pub header_of-header-requires-clause-size : goal.header_of-header-requires-clause-size
header_of-header-requires-clause-size g c =
    next_small c.args.format.now (run_rates c.args.rates.now) c.args.raw.now c.reference.inside.area.items c.deref_mut-2.result.now c.write_body-body.new.area c.args.out.now c.write_body-body.new.out c.reference.inside.geometry c.reference.inside.number
    c.reference.inside.since_key c.reference.inside.since_reset c.args.reference.now c.geometry_in-geometry.result c.is_key_due-key.result c.coding_of-coding.result c.write_body-body.result
    c.requires.raw_format c.geometry_in-geometry.ensures c.deref_mut-2.ensures.value c.reference.view_is c.is_key_due-key.ensures c.coding_of-coding.ensures.inter c.coding_of-coding.ensures.qp c.requires.same c.reference.invariant.reset_fits c.write_body-body.ensures.picture
    c.write_body-body.ensures.written

pub put_header-requires-clause-legal : goal.put_header-requires-clause-legal
put_header-requires-clause-legal g c =
    let n = next_is c.args.format.now (run_rates c.args.rates.now) c.args.raw.now c.reference.inside.area.items c.deref_mut-2.result.now c.write_body-body.new.area c.args.out.now c.write_body-body.new.out c.reference.inside.geometry c.reference.inside.number
    c.reference.inside.since_key c.reference.inside.since_reset c.args.reference.now c.geometry_in-geometry.result c.is_key_due-key.result c.coding_of-coding.result c.write_body-body.result c.header_of-header.result
    c.requires.raw_format c.geometry_in-geometry.ensures c.deref_mut-2.ensures.value c.reference.view_is c.is_key_due-key.ensures c.coding_of-coding.ensures.inter c.coding_of-coding.ensures.qp c.requires.same c.reference.invariant.reset_fits c.requires.room
    c.write_body-body.auto.area c.write_body-body.ensures.picture c.write_body-body.ensures.written c.header_of-header.ensures in
    n.legal

pub returns-clause-frame : goal.returns-clause-frame
returns-clause-frame g c =
    let n = next_is c.args.format.now (run_rates c.args.rates.now) c.args.raw.now c.reference.inside.area.items c.deref_mut-2.result.now c.write_body-body.new.area c.args.out.now c.write_body-body.new.out c.reference.inside.geometry c.reference.inside.number
    c.reference.inside.since_key c.reference.inside.since_reset c.args.reference.now c.geometry_in-geometry.result c.is_key_due-key.result c.coding_of-coding.result c.write_body-body.result c.header_of-header.result
    c.requires.raw_format c.geometry_in-geometry.ensures c.deref_mut-2.ensures.value c.reference.view_is c.is_key_due-key.ensures c.coding_of-coding.ensures.inter c.coding_of-coding.ensures.qp c.requires.same c.reference.invariant.reset_fits c.requires.room
    c.write_body-body.auto.area c.write_body-body.ensures.picture c.write_body-body.ensures.written c.header_of-header.ensures in
    c.put_header.ensures ∙ n.bytes

pub returns-clause-length : goal.returns-clause-length
returns-clause-length g c =
    let n = next_is c.args.format.now (run_rates c.args.rates.now) c.args.raw.now c.reference.inside.area.items c.deref_mut-2.result.now c.write_body-body.new.area c.args.out.now c.write_body-body.new.out c.reference.inside.geometry c.reference.inside.number
    c.reference.inside.since_key c.reference.inside.since_reset c.args.reference.now c.geometry_in-geometry.result c.is_key_due-key.result c.coding_of-coding.result c.write_body-body.result c.header_of-header.result
    c.requires.raw_format c.geometry_in-geometry.ensures c.deref_mut-2.ensures.value c.reference.view_is c.is_key_due-key.ensures c.coding_of-coding.ensures.inter c.coding_of-coding.ensures.qp c.requires.same c.reference.invariant.reset_fits c.requires.room
    c.write_body-body.auto.area c.write_body-body.ensures.picture c.write_body-body.ensures.written c.header_of-header.ensures in
    n.long

pub returns-clause-key : goal.returns-clause-key
returns-clause-key g c =
    let n = next_is c.args.format.now (run_rates c.args.rates.now) c.args.raw.now c.reference.inside.area.items c.deref_mut-2.result.now c.write_body-body.new.area c.args.out.now c.write_body-body.new.out c.reference.inside.geometry c.reference.inside.number
    c.reference.inside.since_key c.reference.inside.since_reset c.args.reference.now c.geometry_in-geometry.result c.is_key_due-key.result c.coding_of-coding.result c.write_body-body.result c.header_of-header.result
    c.requires.raw_format c.geometry_in-geometry.ensures c.deref_mut-2.ensures.value c.reference.view_is c.is_key_due-key.ensures c.coding_of-coding.ensures.inter c.coding_of-coding.ensures.qp c.requires.same c.reference.invariant.reset_fits c.requires.room
    c.write_body-body.auto.area c.write_body-body.ensures.picture c.write_body-body.ensures.written c.header_of-header.ensures in
    n.told

pub returns-clause-state : goal.returns-clause-state
returns-clause-state g c =
    let n = next_is c.args.format.now (run_rates c.args.rates.now) c.args.raw.now c.reference.inside.area.items c.deref_mut-2.result.now c.write_body-body.new.area c.args.out.now c.write_body-body.new.out c.reference.inside.geometry c.reference.inside.number
    c.reference.inside.since_key c.reference.inside.since_reset c.args.reference.now c.geometry_in-geometry.result c.is_key_due-key.result c.coding_of-coding.result c.write_body-body.result c.header_of-header.result
    c.requires.raw_format c.geometry_in-geometry.ensures c.deref_mut-2.ensures.value c.reference.view_is c.is_key_due-key.ensures c.coding_of-coding.ensures.inter c.coding_of-coding.ensures.qp c.requires.same c.reference.invariant.reset_fits c.requires.room
    c.write_body-body.auto.area c.write_body-body.ensures.picture c.write_body-body.ensures.written c.header_of-header.ensures in
    let long : length c.write_body-body.new.area ≡ c.reference.inside.area.len = c.write_body-body.auto.area ∙ c.deref_mut-2.ensures.len in
    left_is c.write_body-body.new.area (with_items c.reference.inside.area c.write_body-body.new.area).items c.geometry_in-geometry.result
    (geometry_of c.args.format.now) c.reference.inside.since_key c.reference.inside.since_reset c.count_on-reference-inside.result c.is_key_due-key.result c.args.reference.now _
    (with_items_is c.reference.inside.area c.write_body-body.new.area long) c.geometry_in-geometry.ensures (ap (λ (r : CodecReference). r.state.since_reset) c.reference.view_is) (ap (λ (r : CodecReference). r.state.since_key) c.reference.view_is) c.count_on-reference-inside.ensures n.state

pub invariant_of-reference : goal.invariant_of-reference
invariant_of-reference g c =
    let t = format_total c.args.format.now c.requires.raw_format in
    let size = ap (λ (r : CodecReference). r.size) c.reference.view_is in
    let area = (with_items c.reference.inside.area c.write_body-body.new.area).ok.0 in
    let spare = (with_items c.reference.inside.spare c.write_body-body.new.spare).ok.0 in
    let since = ap (λ (r : CodecReference). r.state.since_key) c.reference.view_is in
    record {
      same_size = omega (arith, area, spare, c.reference.invariant.same_size, c.reference.inside.area.ok.0, c.reference.inside.spare.ok.0);
      picture = (
        subst (λ (x : Geometry). is_legal_geometry x ≡ true) (sym c.geometry_in-geometry.ensures) c.requires.raw_format.0.1,
        omega (arith, ap picture_total c.geometry_in-geometry.ensures, t, c.requires.area, size, area, c.reference.inside.area.ok.0),
      );
      number_fits = number_small c.reference.inside.since_reset c.reference.invariant.reset_fits;
      key_fits = count_small c.count_on-reference-inside.result c.reference.inside.since_key c.is_key_due-key.result c.args.reference.now c.args.rates.now.gop c.count_on-reference-inside.ensures c.is_key_due-key.ensures since c.requires.rates.1;
      reset_fits = omega arith;
    }

pub returns-clause-most : goal.returns-clause-most
returns-clause-most g c =
    next_small c.args.format.now (run_rates c.args.rates.now) c.args.raw.now c.reference.inside.area.items c.deref_mut-2.result.now c.write_body-body.new.area c.args.out.now c.write_body-body.new.out c.reference.inside.geometry c.reference.inside.number
    c.reference.inside.since_key c.reference.inside.since_reset c.args.reference.now c.geometry_in-geometry.result c.is_key_due-key.result c.coding_of-coding.result c.write_body-body.result
    c.requires.raw_format c.geometry_in-geometry.ensures c.deref_mut-2.ensures.value c.reference.view_is c.is_key_due-key.ensures c.coding_of-coding.ensures.inter c.coding_of-coding.ensures.qp c.requires.same c.reference.invariant.reset_fits c.write_body-body.ensures.picture
    c.write_body-body.ensures.written
