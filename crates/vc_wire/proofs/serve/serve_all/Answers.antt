use Rattle.std.proofs.Common.{◌≡◌, ◌≤◌, ◌<◌, ◌+◌, ◌++◌, length, take, arith, refl}
use Rattle.std.proofs.lemmas.Grind.{common_steps}
use Rattle.vc_wire.specs.Ends.{most_input, outside}
use Rattle.vc_wire.proofs.ServingEnds.{reading_handed, reading_cut, reading_failed, read_none, reading_piece, read_piece_more, reading_more, reading_too_long}
use Rattle.vc_wire.proofs.serve.serve_all.Goals as goal

pub returns-in_default-clause-ended : goal.returns-in_default-clause-ended
returns-in_default-clause-ended g c =
    reading_cut _ _ c.reading.server _ _ _ _ (g.K.Sink.written c.hand_on.new.sink) _ _ _ _ c.reading.invariant c.in_default.ensures.front

pub returns-in_default-read_piece-clause-ended : goal.returns-in_default-read_piece-clause-ended
returns-in_default-read_piece-clause-ended g c =
    reading_failed _ _ _ _ (g.S.Source.left c.reading.source) (g.S.Source.left c.read_piece.new.source) _ _ _ _ _ _
    (reading_handed _ _ c.reading.server c.hand_on.new.out _ _ _ _ (g.K.Sink.written c.hand_on.new.sink) _ _ _ _ (g.K.Sink.faults c.hand_on.new.sink)
    c.reading.invariant c.in-Ok.ensures.whole c.in-Ok.ensures.none c.hand_on.ensures.cause.never_falls) c.in_default-read_piece.ensures.bytes
    c.in-Ok.ensures.none

pub returns-then-count-eq0-clause-ended : goal.returns-then-count-eq0-clause-ended
returns-then-count-eq0-clause-ended g c =
    let i = c.reading.invariant in
    let room : 0 < length c.read_piece.new.piece = grind (arith, common_steps) in
    let handed =
    reading_handed _ _ c.reading.server c.hand_on.new.out _ _ _ _ (g.K.Sink.written c.hand_on.new.sink) _ _ _ _ (g.K.Sink.faults c.hand_on.new.sink)
    i c.in-Ok.ensures.whole c.in-Ok.ensures.none c.hand_on.ensures.cause.never_falls in
    c.end.ensures.ended c.args.slots handed.all (g.S.Source.left c.args.source.now) (g.S.Source.left c.read_piece.new.source) _ _
    (read_none (g.S.Source.left c.args.source.now) (g.S.Source.left c.reading.source) (g.S.Source.left c.read_piece.new.source) handed.all
    c.read_piece.new.piece c.in-Ok-read_piece.count handed.read c.in-Ok-read_piece.ensures.bytes.0 c.if-count-eq0.true handed.serving.few)
    (c.in-Ok-read_piece.ensures.bytes.1 c.if-count-eq0.true room) handed.serving c.in-Ok.ensures.none

pub returns-then-total-ge-TOO_LONG-clause-ended : goal.returns-then-total-ge-TOO_LONG-clause-ended
returns-then-total-ge-TOO_LONG-clause-ended g c =
    let piece = take c.in-Ok-read_piece.count c.read_piece.new.piece in
    let long : most_input ≤ c.reading.total + length piece = omega (arith, c.if-total-ge-TOO_LONG.true, c.in-Ok-read_piece.ensures.bound.1) in
    reading_too_long _ _ piece _ _ (g.S.Source.left c.reading.source) (g.S.Source.left c.read_piece.new.source) _ _ _ _ _ _
    (reading_handed _ _ c.reading.server c.hand_on.new.out _ _ _ _ (g.K.Sink.written c.hand_on.new.sink) _ _ _ _ (g.K.Sink.faults c.hand_on.new.sink)
    c.reading.invariant c.in-Ok.ensures.whole c.in-Ok.ensures.none c.hand_on.ensures.cause.never_falls) c.in-Ok-read_piece.ensures.bytes.0 long

pub serve-requires : goal.serve-requires
serve-requires g c =
    let i = c.reading.invariant in
    let piece = take c.in-Ok-read_piece.count c.read_piece.new.piece in
    let few : c.reading.total + length piece < most_input = omega (arith, c.if-total-ge-TOO_LONG.false, c.in-Ok-read_piece.ensures.bound.1) in
    let handed =
    reading_handed _ _ c.reading.server c.hand_on.new.out _ _ _ _ (g.K.Sink.written c.hand_on.new.sink) _ _ _ _ (g.K.Sink.faults c.hand_on.new.sink)
    i c.in-Ok.ensures.whole c.in-Ok.ensures.none c.hand_on.ensures.cause.never_falls in
    record { serving = (c.args.slots, handed.all ++ piece, _, reading_piece _ _ piece _ _ _ _ _ _ _ _ _ handed few) }

pub reading-preserved : goal.reading-preserved
reading-preserved g c =
    let i = c.reading.invariant in
    let piece = take c.in-Ok-read_piece.count c.read_piece.new.piece in
    let few : c.reading.total + length piece < most_input = omega (arith, c.if-total-ge-TOO_LONG.false, c.in-Ok-read_piece.ensures.bound.1) in
    let handed =
    reading_handed _ _ c.reading.server c.hand_on.new.out _ _ _ _ (g.K.Sink.written c.hand_on.new.sink) _ _ _ _ (g.K.Sink.faults c.hand_on.new.sink)
    i c.in-Ok.ensures.whole c.in-Ok.ensures.none c.hand_on.ensures.cause.never_falls in
    reading_more _ _ c.in-Ok-read_piece.count piece _ _ _ (g.S.Source.left c.reading.source) (g.S.Source.left c.read_piece.new.source) _ _ _ _ _ _ _ _ _ handed
    c.in-Ok-read_piece.ensures.bound.1 c.in-Ok-read_piece.ensures.bytes.0
    (c.in-Ok-serve.ensures.served c.args.slots (handed.all ++ piece) _ (reading_piece _ _ piece _ _ _ _ _ _ _ _ _ handed few))
    c.read_piece.ensures.cause.never_falls c.in-Ok-serve.ensures.sink_later c.in-Ok-serve.ensures.runs_stay c.in-Ok-serve.ensures.faults_stay

pub returns-in-Err-clause-ended : goal.returns-in-Err-clause-ended
returns-in-Err-clause-ended g c =
    let i = c.reading.invariant in
    let piece = take c.in-Ok-read_piece.count c.read_piece.new.piece in
    let few : c.reading.total + length piece < most_input = omega (arith, c.if-total-ge-TOO_LONG.false, c.in-Ok-read_piece.ensures.bound.1) in
    let handed =
    reading_handed _ _ c.reading.server c.hand_on.new.out _ _ _ _ (g.K.Sink.written c.hand_on.new.sink) _ _ _ _ (g.K.Sink.faults c.hand_on.new.sink)
    i c.in-Ok.ensures.whole c.in-Ok.ensures.none c.hand_on.ensures.cause.never_falls in
    c.stop.ensures.ended c.args.slots (handed.all ++ piece) (g.S.Source.left c.args.source.now) (g.S.Source.left c.read_piece.new.source) _
    (g.E.Engine.run_count c.serve.new.engine) (g.E.Engine.fault_count c.serve.new.engine)
    (read_piece_more _ _ piece _ _ (g.S.Source.left c.reading.source) (g.S.Source.left c.read_piece.new.source) _ _ _ _ _ _ handed few
    c.in-Ok-read_piece.ensures.bytes.0)
    (c.in-Err.ensures.stopped c.args.slots (handed.all ++ piece) _ (reading_piece _ _ piece _ _ _ _ _ _ _ _ _ handed few))
