use Rattle.std.proofs.Common.{length}
use Rattle.vc_frame.proofs.planes.+read_planes.Given as goal

abbrev pub decreases-read_planes : goal.decreases-read_planes
decreases-read_planes g l = length l.sizes.now
