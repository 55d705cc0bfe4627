use Rattle.std.proofs.Common.{ℕ, List, subst, drop, arith, length-drop}
use Rattle.std.proofs.lemmas.List.{take_all}
use Rattle.vc_resync.specs.Seeking.{Sought}
use Rattle.vc_resync.specs.Collecting.{kept_in}
use Rattle.vc_resync.proofs.StepsKeepTheRightBytes.{head_open, head_taken, illegal_taken}
use Rattle.vc_resync.proofs.collected.Collected.read_head.Goals as goal

pub pass_over-requires-clause-sought : goal.pass_over-requires-clause-sought
pass_over-requires-clause-sought c =
    let head = c.args.self.now.head in
    subst (λ (t : List ℕ). Sought 0 t c.seek-count.result.0 c.seek-count.result.1) (take_all 36 (drop 8 head) (omega (arith, c.requires.room.head, length-drop 8 head))) c.seek-count.ensures

pub returns-in-Ok-clause-sound : goal.returns-in-Ok-clause-sound
returns-in-Ok-clause-sound c =
    let head = c.args.self.now.head in
    let sought = subst (λ (t : List ℕ). Sought 0 t c.seek-count.result.0 c.seek-count.result.1) (take_all 36 (drop 8 head) (omega (arith, c.requires.room.head, length-drop 8 head))) c.seek-count.ensures in
    record {
      room = record { head = c.requires.room.head; body = omega (arith, c.requires.room.body, c.clear.ensures.capacity) };
      stands = head_open c.args.self.now.limit head c.clear.new.self.items c.in-Ok.header c.seek-count.result.0 c.seek-count.result.1 c.clear.ensures.items c.requires.room.head c.requires.front c.in-Ok.ensures.header (c.in-Ok.ensures.legal, c.in-Ok.ensures.writable) sought;
    }

pub returns-in-Ok-clause-taken : goal.returns-in-Ok-clause-taken
returns-in-Ok-clause-taken c tail bytes all some few =
    head_taken c.args.self.now.limit c.args.self.now.head c.clear.new.self.items tail bytes c.in-Ok.header c.clear.ensures.items c.requires.room.head c.requires.front c.in-Ok.ensures.header all some few

pub returns-in-Err-clause-taken : goal.returns-in-Err-clause-taken
returns-in-Err-clause-taken c tail bytes all some few =
    let head = c.args.self.now.head in
    let sought = subst (λ (t : List ℕ). Sought 0 t c.seek-count.result.0 c.seek-count.result.1) (take_all 36 (drop 8 head) (omega (arith, c.requires.room.head, length-drop 8 head))) c.seek-count.ensures in
    illegal_taken c.args.self.now.limit head c.pass_over.new.self.body.items tail bytes (kept_in c.pass_over.new.self) c.seek-count.result.0 c.seek-count.result.1 c.requires.room.head c.requires.front c.in-Err.ensures.header sought c.pass_over.ensures.kept all
