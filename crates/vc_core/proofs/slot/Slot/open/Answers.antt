use Rattle.vc_core.proofs.SlotsAnswer.{opens, no_room}
use Rattle.vc_core.proofs.slot.Slot.open.Goals as goal

pub returns-clause-answers : goal.returns-clause-answers
returns-clause-answers c =
    opens c.args.self.now c.args.kind c.in-Some.slot c.requires.closed c.in-Some.ensures

pub returns-in_default-clause-answers : goal.returns-in_default-clause-answers
returns-in_default-clause-answers c =
    rw c.no_memory.ensures (no_room c.args.self.now c.args.kind c.requires.closed)
