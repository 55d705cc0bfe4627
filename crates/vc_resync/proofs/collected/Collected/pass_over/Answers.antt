use Rattle.std.proofs.Common.{◌∙◌, ◌-◌, ap, take, drop, length, arith, length-drop, length-take}
use Rattle.std.proofs.lemmas.List.{take_all}
use Rattle.vc_resync.proofs.BytesArePut.{length_put}
use Rattle.vc_resync.proofs.StepsKeepTheRightBytes.{pass_over_begun}
use Rattle.vc_resync.proofs.collected.Collected.pass_over.Goals as goal

pub returns-clause-sound : goal.returns-clause-sound
returns-clause-sound c =
    let head = c.args.self.now.head in
    let bytes = take (44 - c.args.count) (drop c.args.count head) in
    let same = take_all (44 - c.args.count) (drop c.args.count head) (omega (arith, c.requires.room.head, length-drop c.args.count head)) in
    record {
      room = record {
        head = ap length c.put.ensures ∙ length_put head 0 bytes (omega (arith, length-take (44 - c.args.count) (drop c.args.count head), c.requires.room.head)) ∙ c.requires.room.head;
        body = c.requires.room.body;
      };
      stands = pass_over_begun head bytes c.put.new.out c.args.count c.args.matched c.requires.room.head c.requires.sought c.if-matched-lt8.false same c.put.ensures;
    }
