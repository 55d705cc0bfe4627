use Rattle.vc_queue.proofs.CarryingCells.{carrying_none, carrying_more, carrying_done, carrying_same}
use Rattle.vc_queue.proofs.cells.Cells.grow.Goals as goal

pub loop-slot-init : goal.loop-slot-init
loop-slot-init c = carrying_none c.args.first c.args.number c.args.size c.args.self.now c.in_ok-more.more c.in_ok-more.ensures.cells c.in_ok-more.ensures.payloads

pub loop-slot-preserved : goal.loop-slot-preserved
loop-slot-preserved c =
    carrying_more c.args.first c.args.number c.args.size c.args.self.now c.loop-slot.slot c.loop-slot.self c.loop-slot.more
    c.take-payload.new.self c.replace.new.self _ _ c.loop-slot.invariant c.loop-slot-test.true c.get-cell.ensures
    c.take-payload.ensures.value c.take-payload.ensures.cell c.take-payload.ensures.payload c.replace.ensures.cell c.replace.ensures.payload

pub returns-clause-more : goal.returns-clause-more
returns-clause-more c =
    carrying_done c.args.first c.args.number c.args.size c.args.self.now c.loop-slot.slot c.loop-slot.self c.loop-slot.more c.loop-slot.invariant c.loop-slot-test.false c.loop-slot.auto.slot-end

pub returns-clause-room : goal.returns-clause-room
returns-clause-room c = c.loop-slot.invariant.payload_room

pub returns-clause-same : goal.returns-clause-same
returns-clause-same c =
    carrying_same c.args.first c.args.number c.args.size c.args.self.now c.loop-slot.slot c.loop-slot.self c.loop-slot.more c.loop-slot.invariant c.loop-slot-test.false c.loop-slot.auto.slot-end c.requires.empty
