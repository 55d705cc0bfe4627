use Rattle.vc_plane.proofs.WritingByWhatIsLeft.{same_test}
use Rattle.vc_plane.proofs.writing.is_same.Goals as goal

pub returns-then-pending-inter : goal.returns-then-pending-inter
returns-then-pending-inter c = same_test c.args.pending.now.inter c.args.inter c.args.pending.now.values c.args.q.now c.eq.result c.if-pending-inter.true c.eq.ensures
