use Rattle.vc_top.proofs.SharingEnds.{AreLinesSoFar}
use Rattle.vc_top.proofs.share.lines_of.Given as goal

abbrev pub invariant-loop-context : goal.invariant-loop-context
invariant-loop-context l = AreLinesSoFar l.pictures l.context l.ends l.text.items
