use Rattle.std.proofs.Common.{sym, ◌∙◌}
use Rattle.std.proofs.lemmas.Bool.{le-ltb}
use Rattle.vc_jobs.proofs.Holding.{held_from, held_sound, held_mark, mark_contains, none_past}
use Rattle.vc_jobs.proofs.JobList.contains.Goals as goal

pub returns-then-slot-self-clause-member : goal.returns-then-slot-self-clause-member
returns-then-slot-self-clause-member c =
    let h = held_from _ _ _ _ _ c.self.view_is c.self.invariant in
    mark_contains c.args.self.now.waiting c.args.slot _ (held_mark _ _ _ _ _ _ _ h c.if-slot-self.true c.index.ensures)

pub returns-else-slot-self-clause-waits : goal.returns-else-slot-self-clause-waits
returns-else-slot-self-clause-waits c =
    let h = held_from _ _ _ _ _ c.self.view_is c.self.invariant in
    le-ltb _ _ c.if-slot-self.false ∙ sym (none_past _ _ _ _ _ _ h c.if-slot-self.false)

pub returns-else-slot-self-clause-member : goal.returns-else-slot-self-clause-member
returns-else-slot-self-clause-member c =
    let h = held_from _ _ _ _ _ c.self.view_is c.self.invariant in
    mark_contains c.args.self.now.waiting c.args.slot _ (le-ltb _ _ c.if-slot-self.false ∙ sym (none_past _ _ _ _ _ _ h c.if-slot-self.false))

pub returns-then-slot-self-clause-sound : goal.returns-then-slot-self-clause-sound
returns-then-slot-self-clause-sound c =
    held_sound _ _ _ _ _ (held_from _ _ _ _ _ c.self.view_is c.self.invariant)

pub returns-else-slot-self-clause-sound : goal.returns-else-slot-self-clause-sound
returns-else-slot-self-clause-sound c =
    held_sound _ _ _ _ _ (held_from _ _ _ _ _ c.self.view_is c.self.invariant)
