use Rattle.std.proofs.Common.{◌∙◌, sym, arith, refl}
use Rattle.vc_stream_run.proofs.FramesShowPictures.{total_is, shows_picture}
use Rattle.vc_stream_run.proofs.ending.at_whole.Goals as goal

pub decode_frame-requires-clause-area : goal.decode_frame-requires-clause-area
decode_frame-requires-clause-area g c = let e = total_is c.args.format.now c.args.geometry.now c.args.header.now c.requires.raw_format c.requires.same (sym c.is_same_geometry.ensures ∙ c.if-not-is_same_geometry.false) in omega (arith, e, c.requires.area)

pub decode_frame-requires-clause-room : goal.decode_frame-requires-clause-room
decode_frame-requires-clause-room g c = let e = total_is c.args.format.now c.args.geometry.now c.args.header.now c.requires.raw_format c.requires.same (sym c.is_same_geometry.ensures ∙ c.if-not-is_same_geometry.false) in omega (arith, e, c.requires.room)

pub returns-in-Ok : goal.returns-in-Ok
returns-in-Ok g c =
    shows_picture c.args.format.now c.args.geometry.now c.args.header.now c.args.body.now c.args.stamp c.args.reference.now c.decode_frame.new.reference c.args.dest.now c.decode_frame.new.out
    c.requires.raw_format c.requires.same (sym c.is_passed_over.ensures ∙ c.if-is_passed_over.false) (sym c.is_same_geometry.ensures ∙ c.if-not-is_same_geometry.false) (c.in-Ok.ensures.answer.0 refl) c.in-Ok.ensures.picture c.in-Ok.ensures.shown
