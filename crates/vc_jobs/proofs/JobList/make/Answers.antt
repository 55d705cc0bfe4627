use Rattle.vc_jobs.proofs.Holding.{held_made, held_kept, held_view}
use Rattle.vc_jobs.proofs.JobList.make.Goals as goal

pub invariant_of-result : goal.invariant_of-result
invariant_of-result c =
    held_kept _ _ _ _ _ (held_made c.args.slots _ _ _ c.requires.few (c.in_ok-next.ensures.items_if_clones_equal (λ y e. e)) (c.in_ok-prev.ensures.items_if_clones_equal (λ y e. e)) (c.in_ok-marks.ensures.items_if_clones_equal (λ y e. e)))

pub returns : goal.returns
returns c =
    held_view _ _ _ _ _ (held_made c.args.slots _ _ _ c.requires.few (c.in_ok-next.ensures.items_if_clones_equal (λ y e. e)) (c.in_ok-prev.ensures.items_if_clones_equal (λ y e. e)) (c.in_ok-marks.ensures.items_if_clones_equal (λ y e. e)))
