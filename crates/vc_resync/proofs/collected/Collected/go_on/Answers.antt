use Rattle.std.proofs.Common.{◌≡◌, ◌∙◌, sym, ap, length, take, arith}
use Rattle.std.proofs.lemmas.List.{length-take-le}
use Rattle.vc_resync.proofs.BytesArePut.{length_put}
use Rattle.vc_resync.proofs.StepsKeepTheRightBytes.{go_on_begun, go_on_front, go_on_taken}
use Rattle.vc_resync.proofs.collected.Collected.go_on.Goals as goal

pub returns-then-there-count-lt-HEADER_SIZE-clause-sound : goal.returns-then-there-count-lt-HEADER_SIZE-clause-sound
returns-then-there-count-lt-HEADER_SIZE-clause-sound c =
    let head = c.args.self.now.head in
    let bytes = take c.min-count.result c.args.bytes.now in
    let long : length bytes ≡ c.min-count.result = length-take-le c.min-count.result c.args.bytes.now (omega arith) in
    let room = c.requires.sound.room in
    record {
      room = record {
        head = ap length c.put.ensures ∙ length_put head c.args.there bytes (omega (arith, long, room.head)) ∙ room.head;
        body = room.body;
      };
      stands = go_on_begun head bytes c.put.new.out c.args.there c.min-count.result room.head c.requires.begun (omega (arith, long)) c.put.ensures (sym long);
    }

pub returns-then-there-count-lt-HEADER_SIZE-clause-taken : goal.returns-then-there-count-lt-HEADER_SIZE-clause-taken
returns-then-there-count-lt-HEADER_SIZE-clause-taken c =
    let head = c.args.self.now.head in
    let bytes = take c.min-count.result c.args.bytes.now in
    let long : length bytes ≡ c.min-count.result = length-take-le c.min-count.result c.args.bytes.now (omega arith) in
    go_on_taken c.args.self.now.limit head bytes c.put.new.out c.args.self.now.body.items c.args.there c.min-count.result c.requires.sound.room.head c.requires.begun (omega (arith, long)) c.put.ensures (sym long)

pub read_head-requires-clause-front : goal.read_head-requires-clause-front
read_head-requires-clause-front c =
    go_on_front c.args.self.now.head (take c.min-count.result c.args.bytes.now) c.put.new.out c.args.there c.requires.sound.room.head c.requires.begun c.put.ensures
