use Rattle.std.proofs.Common.{◌≡◌, ◌+◌, ◌∙◌, [], sym, ap, subst, refl, arith}
use Rattle.vc_queue.specs.Cells.{IsSound}
use Rattle.vc_queue.specs.Growing.{added, cleared}
use Rattle.vc_queue.proofs.CarryingCells.{held_more}
use Rattle.vc_queue.proofs.HoldsFitCells.{fits_state}
use Rattle.vc_queue.proofs.NewBuffers.{empty_sound, empty_room, empty_places, emptied, cleared_cells, made_zero, grown_sound, grown_state, grown_fits, reqbufs_answer}
use Rattle.vc_queue.proofs.queue.Queue.reqbufs.Goals as goal

pub invariant_of-self : goal.invariant_of-self
invariant_of-self c =
    let e : 0 + c.min-number.result ≡ c.min-number.result = omega arith in
    subst (λ n. IsSound c.link_new.new.links c.in-Ok-held.cells.cells c.in-Ok-held.cells.payloads n) e
    (grown_sound c.new-self-inside.result c.link_new.new.links [] c.in-Ok-held.cells.cells [] c.in-Ok-held.cells.payloads 0 c.min-number.result c.args.length
    (empty_sound c.new-self-inside.result [] [] c.new-self-inside.ensures.empty c.new-self-inside.ensures.apart (λ i. refl)) (omega (arith, c.min-number.ensures))
    (held_more c.min-number.result c.args.length c.in-Ok-held.cells c.in-Ok-held.ensures.cells)
    (empty_room c.min-number.result c.in-Ok-held.cells.payloads c.in-Ok-held.ensures.payloads)
    (empty_places c.min-number.result c.in-Ok-held.cells.payloads c.in-Ok-held.ensures.payloads) c.link_new.ensures.linked c.link_new.ensures.apart)

pub returns-clause-answer : goal.returns-clause-answer
returns-clause-answer c =
    reqbufs_answer c.args.self.now _ c.args.count c.args.length c.min-number.result c.is_streaming.result c.is_streaming.ensures c.if-is_streaming.false c.min-number.ensures
    (grown_state c.new-self-inside.result c.link_new.new.links [] c.in-Ok-held.cells.cells [] c.in-Ok-held.cells.payloads 0 c.min-number.result c.args.length
    (empty_sound c.new-self-inside.result [] [] c.new-self-inside.ensures.empty c.new-self-inside.ensures.apart (λ i. refl)) (omega (arith, c.min-number.ensures))
    (held_more c.min-number.result c.args.length c.in-Ok-held.cells c.in-Ok-held.ensures.cells)
    (empty_room c.min-number.result c.in-Ok-held.cells.payloads c.in-Ok-held.ensures.payloads)
    (empty_places c.min-number.result c.in-Ok-held.cells.payloads c.in-Ok-held.ensures.payloads) c.link_new.ensures.linked c.self.inside.side c.self.inside.streaming c.self.inside.next_seq c.self.inside.next_ordinal
    ∙ (ap (λ q. added q c.args.length c.min-number.result) (emptied c.self.inside.side c.self.inside.streaming c.self.inside.next_seq c.self.inside.next_ordinal c.self.inside.links c.self.inside.cells.cells c.self.inside.cells.payloads
    c.new-self-inside.result [] [] c.new-self-inside.ensures.empty)
    ∙ ap (λ q. added (cleared q) c.args.length c.min-number.result) c.self.view_is))

pub returns-clause-fit : goal.returns-clause-fit
returns-clause-fit c =
    fits_state c.self.inside.side c.self.inside.streaming c.self.inside.next_seq c.self.inside.next_ordinal c.link_new.new.links c.in-Ok-held.cells.cells c.in-Ok-held.cells.payloads c.hand_over.new.hold
    (grown_fits c.new-self-inside.result c.link_new.new.links [] c.in-Ok-held.cells.cells [] c.in-Ok-held.cells.payloads 0 c.min-number.result c.args.length
    (empty_sound c.new-self-inside.result [] [] c.new-self-inside.ensures.empty c.new-self-inside.ensures.apart (λ i. refl)) (omega (arith, c.min-number.ensures))
    (held_more c.min-number.result c.args.length c.in-Ok-held.cells c.in-Ok-held.ensures.cells)
    (empty_room c.min-number.result c.in-Ok-held.cells.payloads c.in-Ok-held.ensures.payloads)
    (empty_places c.min-number.result c.in-Ok-held.cells.payloads c.in-Ok-held.ensures.payloads) c.link_new.ensures.linked c.self.inside.side c.clear.new.self c.hand_over.new.hold c.in-Ok.payloads
    (cleared_cells c.self.inside.side c.args.hold.now c.clear.new.self c.new-self-inside.result [] c.clear.ensures c.new-self-inside.ensures.empty)
    c.in-Ok.ensures.new c.hand_over.ensures)

pub returns-clause-zeros : goal.returns-clause-zeros
returns-clause-zeros c =
    made_zero c.args.self.now c.self.inside.side c.args.count c.args.length c.min-number.result c.in-Ok.payloads c.clear.new.self c.hand_over.new.hold
    (ap (λ q. q.side) (sym c.self.view_is)) c.min-number.ensures c.in-Ok.ensures.new c.hand_over.ensures
