use Rattle.std.proofs.Common.{arith}
use Rattle.vc_jobs.proofs.Holding.{held_from, held_kept, held_view, held_sound, held_appended, last_in}
use Rattle.vc_jobs.proofs.JobList.append.Goals as goal

pub index_mut-requires : goal.index_mut-requires
index_mut-requires c =
    let h = held_from _ _ _ _ _ c.self.view_is c.self.invariant in
    omega (arith, last_in _ _ _ _ _ _ h c.index-last.ensures)

pub invariant_of-self : goal.invariant_of-self
invariant_of-self c =
    let h = held_from _ _ _ _ _ c.self.view_is c.self.invariant in
    held_kept _ _ _ _ _ (held_appended _ _ _ _ _ _ _ h c.requires.slot c.requires.free c.index-last.ensures)

pub returns-clause-added : goal.returns-clause-added
returns-clause-added c =
    let h = held_from _ _ _ _ _ c.self.view_is c.self.invariant in
    held_view _ _ _ _ _ (held_appended _ _ _ _ _ _ _ h c.requires.slot c.requires.free c.index-last.ensures)

pub returns-clause-sound : goal.returns-clause-sound
returns-clause-sound c =
    let h = held_from _ _ _ _ _ c.self.view_is c.self.invariant in
    let more = held_appended _ _ _ _ _ _ _ h c.requires.slot c.requires.free c.index-last.ensures in
    rw (held_view _ _ _ _ _ more) (held_sound _ _ _ _ _ more)
