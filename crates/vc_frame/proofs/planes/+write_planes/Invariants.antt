use Rattle.std.proofs.Common.{length}
use Rattle.vc_frame.proofs.planes.+write_planes.Given as goal

abbrev pub decreases-write_planes : goal.decreases-write_planes
decreases-write_planes g l = length l.sizes.now
