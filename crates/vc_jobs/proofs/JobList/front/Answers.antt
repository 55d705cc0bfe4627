use Rattle.vc_jobs.proofs.Holding.{held_from, held_sound, held_some, held_none}
use Rattle.vc_jobs.proofs.JobList.front.Goals as goal

pub returns-then-first-self-clause-front : goal.returns-then-first-self-clause-front
returns-then-first-self-clause-front c =
    let h = held_from _ _ _ _ _ c.self.view_is c.self.invariant in
    held_some _ _ _ _ _ _ h c.index-first.ensures c.if-first-self.true

pub returns-then-first-self-clause-sound : goal.returns-then-first-self-clause-sound
returns-then-first-self-clause-sound c =
    held_sound _ _ _ _ _ (held_from _ _ _ _ _ c.self.view_is c.self.invariant)

pub returns-else-first-self-clause-front : goal.returns-else-first-self-clause-front
returns-else-first-self-clause-front c =
    let h = held_from _ _ _ _ _ c.self.view_is c.self.invariant in
    held_none _ _ _ _ _ _ h c.index-first.ensures c.if-first-self.false

pub returns-else-first-self-clause-sound : goal.returns-else-first-self-clause-sound
returns-else-first-self-clause-sound c =
    held_sound _ _ _ _ _ (held_from _ _ _ _ _ c.self.view_is c.self.invariant)
