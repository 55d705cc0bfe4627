use Rattle.std.proofs.Common.{◌≡◌, ◌∙◌, sym, ap, length, arith, Some, None}
use Rattle.std.specs.Vec.{with_items}
use Rattle.std.proofs.lemmas.List.{with_items_is}
use Rattle.vc_base.specs.Limits.{most_bytes}
use Rattle.vc_defs.specs.Bodies.{plane_shapes}
use Rattle.vc_defs.specs.Raw.{cut_into}
use Rattle.vc_defs.specs.Decoder.{frame_planes}
use Rattle.vc_work.specs.References.{CodecReference}
use Rattle.vc_frame.proofs.FrameOverAnArea.{frame_is, none_given, failed_given, dropped_is, nothing_shown, some_given, kept_is, shown_is, legal_parts}
use Rattle.vc_frame.proofs.decoding.decode_frame.Goals as goal

pub returns-in_err-read_body-clause-answer : goal.returns-in_err-read_body-clause-answer
returns-in_err-read_body-clause-answer g c =
    failed_given c.from_residual.result c.args.header.now (frame_planes c.args.header.now c.args.reference.now.state.reference c.args.body.now) c.from_residual.ensures.0
    (frame_is c.args.header.now c.args.body.now c.deref_mut.result.now c.reference.inside.area.items c.reference.inside.geometry c.reference.inside.number c.reference.inside.since_key c.reference.inside.since_reset c.args.reference.now c.may_read-good.result None
    c.reference.view_is c.deref_mut.ensures.value c.may_read-good.ensures c.if-not-good.false c.in_err-read_body.ensures)

pub returns-in_err-read_body-clause-picture : goal.returns-in_err-read_body-clause-picture
returns-in_err-read_body-clause-picture g c =
    let long : length c.read_body.new.area ≡ c.reference.inside.area.len = c.read_body.auto.area ∙ c.deref_mut.ensures.len in
    let items : (with_items c.reference.inside.area c.read_body.new.area).items ≡ c.read_body.new.area = with_items_is c.reference.inside.area c.read_body.new.area long in
    let size : length (with_items c.reference.inside.area c.read_body.new.area).items ≡ length c.reference.inside.area.items = sym (with_items c.reference.inside.area c.read_body.new.area).ok.0 ∙ c.reference.inside.area.ok.0 in
    dropped_is c.args.header.now (frame_planes c.args.header.now c.args.reference.now.state.reference c.args.body.now)
    (with_items c.reference.inside.area c.read_body.new.area).items c.reference.inside.area.items c.reference.inside.geometry c.reference.inside.number c.reference.inside.since_key c.reference.inside.since_reset c.args.reference.now
    (frame_is c.args.header.now c.args.body.now c.deref_mut.result.now c.reference.inside.area.items c.reference.inside.geometry c.reference.inside.number c.reference.inside.since_key c.reference.inside.since_reset c.args.reference.now c.may_read-good.result None
    c.reference.view_is c.deref_mut.ensures.value c.may_read-good.ensures c.if-not-good.false c.in_err-read_body.ensures) c.reference.view_is size

pub returns-in_err-read_body-clause-shown : goal.returns-in_err-read_body-clause-shown
returns-in_err-read_body-clause-shown g c =
    nothing_shown c.args.fourcc (frame_planes c.args.header.now c.args.reference.now.state.reference c.args.body.now) c.args.out.now
    (frame_is c.args.header.now c.args.body.now c.deref_mut.result.now c.reference.inside.area.items c.reference.inside.geometry c.reference.inside.number c.reference.inside.since_key c.reference.inside.since_reset c.args.reference.now c.may_read-good.result None
    c.reference.view_is c.deref_mut.ensures.value c.may_read-good.ensures c.if-not-good.false c.in_err-read_body.ensures)

pub invariant_of-reference-2 : goal.invariant_of-reference-2
invariant_of-reference-2 g c =
    let long : length c.read_body.new.area ≡ c.reference.inside.area.len = c.read_body.auto.area ∙ c.deref_mut.ensures.len in
    let items : (with_items c.reference.inside.area c.read_body.new.area).items ≡ c.read_body.new.area = with_items_is c.reference.inside.area c.read_body.new.area long in
    let size : length (with_items c.reference.inside.area c.read_body.new.area).items ≡ length c.reference.inside.area.items = sym (with_items c.reference.inside.area c.read_body.new.area).ok.0 ∙ c.reference.inside.area.ok.0 in
    let parts = legal_parts most_bytes c.args.header.now c.requires.header in
    let whole = ap (λ (r : CodecReference). r.size) c.reference.view_is in
    record {
      same_size = omega (arith, size, c.reference.invariant.same_size);
      picture = (parts.0, omega (arith, size, whole, c.requires.area));
      number_fits = parts.1;
      key_fits = c.reference.invariant.key_fits;
      reset_fits = c.reference.invariant.reset_fits;
    }

pub returns-clause-answer : goal.returns-clause-answer
returns-clause-answer g c =
    some_given (frame_planes c.args.header.now c.args.reference.now.state.reference c.args.body.now) (cut_into (plane_shapes c.args.header.now.geometry) c.read_body.new.area)
    (frame_is c.args.header.now c.args.body.now c.deref_mut.result.now c.reference.inside.area.items c.reference.inside.geometry c.reference.inside.number c.reference.inside.since_key c.reference.inside.since_reset c.args.reference.now c.may_read-good.result
    (Some (cut_into (plane_shapes c.args.header.now.geometry) c.read_body.new.area)) c.reference.view_is c.deref_mut.ensures.value c.may_read-good.ensures c.if-not-good.false c.in_ok-read_body.ensures)

pub returns-clause-picture : goal.returns-clause-picture
returns-clause-picture g c =
    let long : length c.read_body.new.area ≡ c.reference.inside.area.len = c.read_body.auto.area ∙ c.deref_mut.ensures.len in
    let items : (with_items c.reference.inside.area c.read_body.new.area).items ≡ c.read_body.new.area = with_items_is c.reference.inside.area c.read_body.new.area long in
    let size : length (with_items c.reference.inside.area c.read_body.new.area).items ≡ length c.reference.inside.area.items = sym (with_items c.reference.inside.area c.read_body.new.area).ok.0 ∙ c.reference.inside.area.ok.0 in
    kept_is c.args.header.now (frame_planes c.args.header.now c.args.reference.now.state.reference c.args.body.now)
    (with_items c.reference.inside.area c.read_body.new.area).items c.read_body.new.area c.reference.inside.area.items c.reference.inside.geometry c.reference.inside.number c.reference.inside.since_key c.reference.inside.since_reset c.args.reference.now
    (frame_is c.args.header.now c.args.body.now c.deref_mut.result.now c.reference.inside.area.items c.reference.inside.geometry c.reference.inside.number c.reference.inside.since_key c.reference.inside.since_reset c.args.reference.now c.may_read-good.result
    (Some (cut_into (plane_shapes c.args.header.now.geometry) c.read_body.new.area)) c.reference.view_is c.deref_mut.ensures.value c.may_read-good.ensures c.if-not-good.false c.in_ok-read_body.ensures) c.reference.view_is items size

pub returns-clause-shown : goal.returns-clause-shown
returns-clause-shown g c =
    let long : length c.read_body.new.area ≡ c.reference.inside.area.len = c.read_body.auto.area ∙ c.deref_mut.ensures.len in
    let items : (with_items c.reference.inside.area c.read_body.new.area).items ≡ c.read_body.new.area = with_items_is c.reference.inside.area c.read_body.new.area long in
    let size : length (with_items c.reference.inside.area c.read_body.new.area).items ≡ length c.reference.inside.area.items = sym (with_items c.reference.inside.area c.read_body.new.area).ok.0 ∙ c.reference.inside.area.ok.0 in
    shown_is c.args.header.now c.args.fourcc (frame_planes c.args.header.now c.args.reference.now.state.reference c.args.body.now)
    (cut_into (plane_shapes c.args.header.now.geometry) c.deref_mut.result.now) c.args.body.now c.deref.result.now c.read_body.new.area c.args.out.now c.put_raw.new.out c.requires.raw_format
    (frame_is c.args.header.now c.args.body.now c.deref_mut.result.now c.reference.inside.area.items c.reference.inside.geometry c.reference.inside.number c.reference.inside.since_key c.reference.inside.since_reset c.args.reference.now c.may_read-good.result
    (Some (cut_into (plane_shapes c.args.header.now.geometry) c.read_body.new.area)) c.reference.view_is c.deref_mut.ensures.value c.may_read-good.ensures c.if-not-good.false c.in_ok-read_body.ensures) c.in_ok-read_body.ensures (c.deref.ensures.value ∙ items) c.put_raw.ensures
