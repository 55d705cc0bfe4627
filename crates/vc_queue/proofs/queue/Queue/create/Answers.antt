use Rattle.std.proofs.Common.{◌+◌, ◌∙◌, sym, ap, subst, arith}
use Rattle.vc_queue.specs.Cells.{IsSound}
use Rattle.vc_queue.specs.Growing.{added}
use Rattle.vc_queue.specs.Holds.{Fits}
use Rattle.vc_queue.proofs.HoldsFitCells.{fits_cells, fits_state}
use Rattle.vc_queue.proofs.NewBuffers.{sound_at, count_at, all_free, added_none, added_zero, grown_sound, grown_state, grown_fits, create_answer}
use Rattle.vc_queue.proofs.queue.Queue.create.Goals as goal

pub link_new-requires-clause-free : goal.link_new-requires-clause-free
link_new-requires-clause-free c =
    all_free c.self.inside.links c.self.inside.cells.cells c.self.inside.cells.payloads c.buffers-first.result
    (sound_at c.self.inside.side c.self.inside.streaming c.self.inside.next_seq c.self.inside.next_ordinal c.self.inside.links c.self.inside.cells.cells
    c.self.inside.cells.payloads c.self.inside.count c.args.self.now c.buffers-first.result c.self.invariant c.self.view_is c.buffers-first.ensures.number)

pub invariant_of-self-2 : goal.invariant_of-self-2
invariant_of-self-2 c =
    subst (λ n. IsSound c.link_new.new.links c.grow.new.self.cells c.grow.new.self.payloads (n + c.min-number.result)) (sym
    (count_at c.self.inside.side c.self.inside.streaming c.self.inside.next_seq c.self.inside.next_ordinal c.self.inside.links c.self.inside.cells.cells
    c.self.inside.cells.payloads c.self.inside.count c.args.self.now c.buffers-first.result c.self.invariant c.self.view_is c.buffers-first.ensures.number))
    (grown_sound c.self.inside.links c.link_new.new.links c.self.inside.cells.cells c.grow.new.self.cells c.self.inside.cells.payloads c.grow.new.self.payloads c.buffers-first.result c.min-number.result c.args.length
    (sound_at c.self.inside.side c.self.inside.streaming c.self.inside.next_seq c.self.inside.next_ordinal c.self.inside.links c.self.inside.cells.cells
    c.self.inside.cells.payloads c.self.inside.count c.args.self.now c.buffers-first.result c.self.invariant c.self.view_is c.buffers-first.ensures.number)
    (omega
    (arith, c.min-number.ensures, c.buffers-first.ensures.number, c.buffers-first.ensures.few)) c.in-Ok-grow.ensures.more c.in-Ok-grow.ensures.room c.grow.ensures.same c.link_new.ensures.linked c.link_new.ensures.apart)

pub returns-clause-answer : goal.returns-clause-answer
returns-clause-answer c =
    create_answer c.args.self.now _ c.args.count c.args.length c.buffers-first.result c.min-number.result c.cannot_grow.result c.buffers-first.ensures.number c.cannot_grow.ensures c.if-cannot_grow.false c.min-number.ensures
    (grown_state c.self.inside.links c.link_new.new.links c.self.inside.cells.cells c.grow.new.self.cells c.self.inside.cells.payloads c.grow.new.self.payloads c.buffers-first.result c.min-number.result c.args.length
    (sound_at c.self.inside.side c.self.inside.streaming c.self.inside.next_seq c.self.inside.next_ordinal c.self.inside.links c.self.inside.cells.cells
    c.self.inside.cells.payloads c.self.inside.count c.args.self.now c.buffers-first.result c.self.invariant c.self.view_is c.buffers-first.ensures.number)
    (omega
    (arith, c.min-number.ensures, c.buffers-first.ensures.number, c.buffers-first.ensures.few)) c.in-Ok-grow.ensures.more c.in-Ok-grow.ensures.room c.grow.ensures.same c.link_new.ensures.linked c.self.inside.side c.self.inside.streaming c.self.inside.next_seq c.self.inside.next_ordinal
    ∙ ap (λ q. added q c.args.length c.min-number.result) c.self.view_is)

pub returns-clause-fit : goal.returns-clause-fit
returns-clause-fit c =
    fits_state c.self.inside.side c.self.inside.streaming c.self.inside.next_seq c.self.inside.next_ordinal c.link_new.new.links c.grow.new.self.cells c.grow.new.self.payloads c.hand_over.new.hold
    (grown_fits c.self.inside.links c.link_new.new.links c.self.inside.cells.cells c.grow.new.self.cells c.self.inside.cells.payloads c.grow.new.self.payloads c.buffers-first.result c.min-number.result c.args.length
    (sound_at c.self.inside.side c.self.inside.streaming c.self.inside.next_seq c.self.inside.next_ordinal c.self.inside.links c.self.inside.cells.cells
    c.self.inside.cells.payloads c.self.inside.count c.args.self.now c.buffers-first.result c.self.invariant c.self.view_is c.buffers-first.ensures.number)
    (omega
    (arith, c.min-number.ensures, c.buffers-first.ensures.number, c.buffers-first.ensures.few)) c.in-Ok-grow.ensures.more c.in-Ok-grow.ensures.room c.grow.ensures.same c.link_new.ensures.linked c.self.inside.side c.args.hold.now c.hand_over.new.hold c.in-Ok.payloads
    (fits_cells c.self.inside.side c.self.inside.streaming c.self.inside.next_seq c.self.inside.next_ordinal c.self.inside.links c.self.inside.cells.cells c.self.inside.cells.payloads c.args.hold.now (subst (λ q. Fits q c.args.hold.now) (sym c.self.view_is) c.requires.fit))
    c.in-Ok.ensures.new c.hand_over.ensures)

pub grow-requires-clause-empty : goal.grow-requires-clause-empty
grow-requires-clause-empty c =
    (sound_at c.self.inside.side c.self.inside.streaming c.self.inside.next_seq c.self.inside.next_ordinal c.self.inside.links c.self.inside.cells.cells
    c.self.inside.cells.payloads c.self.inside.count c.args.self.now c.buffers-first.result c.self.invariant c.self.view_is c.buffers-first.ensures.number).beyond

pub returns-clause-zeros : goal.returns-clause-zeros
returns-clause-zeros c =
    added_zero c.args.self.now c.self.inside.side c.args.count c.args.length c.buffers-first.result c.min-number.result c.in-Ok.payloads c.args.hold.now c.hand_over.new.hold
    (ap (λ q. q.side) (sym c.self.view_is)) c.buffers-first.ensures.number c.min-number.ensures c.in-Ok.ensures.new c.hand_over.ensures

-- no buffer is asked for
pub returns-then-number-eq0-clause-answer : goal.returns-then-number-eq0-clause-answer
returns-then-number-eq0-clause-answer c =
    create_answer c.args.self.now _ c.args.count c.args.length c.buffers-first.result 0 c.cannot_grow.result c.buffers-first.ensures.number c.cannot_grow.ensures c.if-cannot_grow.false
    (sym c.if-number-eq0.true ∙ c.min-number.ensures) (added_none c.args.self.now c.args.length)

pub returns-then-number-eq0-clause-zeros : goal.returns-then-number-eq0-clause-zeros
returns-then-number-eq0-clause-zeros c i h =
    absurd (omega (arith, h, c.if-number-eq0.true, c.min-number.ensures, c.buffers-first.ensures.number))
