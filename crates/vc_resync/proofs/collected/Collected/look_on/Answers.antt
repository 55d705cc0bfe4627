use Rattle.std.proofs.Common.{◌≡◌, ◌∙◌, ap, take, length, arith, length-take}
use Rattle.vc_defs.specs.Headers.{magic}
use Rattle.vc_resync.proofs.MagicComesOn.{length_of_matched}
use Rattle.vc_resync.proofs.BytesArePut.{length_put}
use Rattle.vc_resync.proofs.StepsKeepTheRightBytes.{look_on_none, look_on_some, look_on_grows}
use Rattle.vc_resync.proofs.collected.Collected.look_on.Goals as goal

pub returns-else-matched-eq8-clause-taken : goal.returns-else-matched-eq8-clause-taken
returns-else-matched-eq8-clause-taken c =
    look_on_none c.args.self.now.limit c.args.matched c.args.bytes.now c.args.self.now.body.items c.seek-count.result.0 c.seek-count.result.1 c.seek-count.ensures c.if-matched-eq8.false

pub returns-else-matched-eq8-clause-grows : goal.returns-else-matched-eq8-clause-grows
returns-else-matched-eq8-clause-grows c =
    look_on_grows c.args.matched c.args.bytes.now c.seek-count.result.0 c.seek-count.result.1 (length (take c.seek-count.result.1 magic)) c.seek-count.ensures (length_of_matched c.seek-count.result.1 c.seek-count.ensures.matches.most)

pub returns-then-matched-eq8-clause-taken : goal.returns-then-matched-eq8-clause-taken
returns-then-matched-eq8-clause-taken c =
    look_on_some c.args.self.now.limit c.args.matched c.args.bytes.now c.args.self.now.body.items c.args.self.now.head c.put.new.out c.seek-count.result.0 c.seek-count.result.1 c.seek-count.ensures c.if-matched-eq8.true c.requires.sound.room.head c.put.ensures

pub returns-then-matched-eq8-clause-grows : goal.returns-then-matched-eq8-clause-grows
returns-then-matched-eq8-clause-grows c =
    let long : length c.put.new.out ≡ 44 = ap length c.put.ensures ∙ length_put c.args.self.now.head 0 magic (omega (arith, c.requires.sound.room.head)) ∙ c.requires.sound.room.head in
    look_on_grows c.args.matched c.args.bytes.now c.seek-count.result.0 c.seek-count.result.1 (length (take 8 c.put.new.out)) c.seek-count.ensures (omega (arith, length-take 8 c.put.new.out, long, c.if-matched-eq8.true))
