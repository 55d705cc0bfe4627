use Rattle.std.proofs.Common.{arith, sym, ◌≤◌, length}
use Rattle.vc_links.specs.Lists.{list_at}
use Rattle.vc_queue.proofs.ToldByCells.{walk_here, walk_more, walk_below, walk_in, walk_contains, walk_next, walk_ends, list_few}
use Rattle.vc_queue.proofs.queue.telling.list_len.Goals as goal

pub overflow_add-number : goal.overflow_add-number
overflow_add-number c =
    let few : length (list_at c.args.links.now c.args.list) ≤ 32 = list_few c.args.links.now c.args.list c.front-place.ensures.apart in
    omega (arith, few, walk_more c.args.links.now c.args.list c.loop-place.number c.in-Some.cell c.front-place.ensures.apart c.requires (walk_here _ _ _ c.in-Some.cell c.in-Some.is c.loop-place.invariant))

pub next-place-requires-clause-cell_in : goal.next-place-requires-clause-cell_in
next-place-requires-clause-cell_in c =
    walk_below c.args.links.now c.args.list c.loop-place.number c.in-Some.cell c.front-place.ensures.apart c.requires (walk_here _ _ _ c.in-Some.cell c.in-Some.is c.loop-place.invariant)

pub next-place-requires-clause-linked : goal.next-place-requires-clause-linked
next-place-requires-clause-linked c =
    walk_in c.args.links.now c.args.list c.loop-place.number c.in-Some.cell c.front-place.ensures.apart c.requires (walk_here _ _ _ c.in-Some.cell c.in-Some.is c.loop-place.invariant)

pub loop-place-preserved : goal.loop-place-preserved
loop-place-preserved c =
    walk_next c.args.links.now c.args.list c.loop-place.number c.in-Some.cell c.front-place.ensures.apart c.requires
    (walk_here _ _ _ c.in-Some.cell c.in-Some.is c.loop-place.invariant) c.next-place.result
    (c.next-place.ensures c.args.list c.requires (walk_contains c.args.links.now c.args.list c.loop-place.number c.in-Some.cell c.front-place.ensures.apart c.requires (walk_here _ _ _ c.in-Some.cell c.in-Some.is c.loop-place.invariant)))

pub returns : goal.returns
returns c = walk_ends (list_at c.args.links.now c.args.list) c.loop-place.number c.loop-place.place c.loop-place.invariant (sym c.in_default.is)
