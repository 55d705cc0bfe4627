use Rattle.std.proofs.Common.{arith, sym, ap, set, ◌∙◌}
use Rattle.vc_queue.specs.declared.cells.Place.TheVariants.{Held}
use Rattle.vc_queue.specs.Releasing.{goes_back}
use Rattle.vc_queue.proofs.StoppedGoesToUser.{released_step}
use Rattle.vc_queue.proofs.queue.streaming.release.Goals as goal

pub loop-slot-preserved : goal.loop-slot-preserved
loop-slot-preserved c =
    released_step c.args.side c.loop-slot.slot c.args.cells.now.cells c.args.cells.now.payloads c.args.hold.now
    c.loop-slot.cells.cells c.loop-slot.cells.payloads c.loop-slot.hold c.loop-slot.invariant c.in-Some.payload.items
    _ c.take.new.self.payloads c.put.new.self
    (omega (arith, c.loop-slot-test.true, c.requires.few, c.requires.cells, c.loop-slot.invariant.cell_room))
    (ap (λ x. goes_back x.place) (sym c.get-cell.ensures) ∙ (sym c.goes_back.ensures ∙ c.if-not-goes_back.false))
    c.in-Some.ensures.value c.take.ensures.payload c.take.ensures.gone c.put.ensures.after c.put.ensures.there
    (c.take.ensures.cell ∙ ap (λ x. set c.loop-slot.cells.cells c.loop-slot.slot (record x { place = Held })) c.get-cell.ensures)
