use Rattle.std.proofs.Common.{arith}
use Rattle.vc_jobs.proofs.Holding.{held_from, held_kept, held_view, held_sound, held_removed, slot_in, before_in, after_in}
use Rattle.vc_jobs.proofs.JobList.remove.Goals as goal

pub index-before-requires : goal.index-before-requires
index-before-requires c =
    let h = held_from _ _ _ _ _ c.self.view_is c.self.invariant in
    omega (arith, (slot_in _ _ _ _ _ _ h c.requires).1)

pub index-after-requires : goal.index-after-requires
index-after-requires c =
    let h = held_from _ _ _ _ _ c.self.view_is c.self.invariant in
    omega (arith, (slot_in _ _ _ _ _ _ h c.requires).0)

pub index_mut-requires : goal.index_mut-requires
index_mut-requires c =
    let h = held_from _ _ _ _ _ c.self.view_is c.self.invariant in
    omega (arith, before_in _ _ _ _ _ _ _ h c.requires c.index-before.ensures)

pub index_mut-requires-2 : goal.index_mut-requires-2
index_mut-requires-2 c =
    let h = held_from _ _ _ _ _ c.self.view_is c.self.invariant in
    omega (arith, after_in _ _ _ _ _ _ _ h c.requires c.index-after.ensures)

pub index_mut-requires-3 : goal.index_mut-requires-3
index_mut-requires-3 c =
    let h = held_from _ _ _ _ _ c.self.view_is c.self.invariant in
    omega (arith, (slot_in _ _ _ _ _ _ h c.requires).2)

pub invariant_of-self : goal.invariant_of-self
invariant_of-self c =
    let h = held_from _ _ _ _ _ c.self.view_is c.self.invariant in
    held_kept _ _ _ _ _ (held_removed _ _ _ _ _ _ _ _ h c.requires c.index-before.ensures c.index-after.ensures)

pub returns-clause-removed : goal.returns-clause-removed
returns-clause-removed c =
    let h = held_from _ _ _ _ _ c.self.view_is c.self.invariant in
    held_view _ _ _ _ _ (held_removed _ _ _ _ _ _ _ _ h c.requires c.index-before.ensures c.index-after.ensures)

pub returns-clause-sound : goal.returns-clause-sound
returns-clause-sound c =
    let h = held_from _ _ _ _ _ c.self.view_is c.self.invariant in
    let less = held_removed _ _ _ _ _ _ _ _ h c.requires c.index-before.ensures c.index-after.ensures in
    rw (held_view _ _ _ _ _ less) (held_sound _ _ _ _ _ less)
