use Rattle.std.proofs.Common.{◌-◌, ◌≡◌, ◌≤◌, ◌*◌, length}
use Rattle.vc_plane.proofs.EntriesReadSoFar.{AreRead}
use Rattle.vc_plane.proofs.reading.read_coded.Given as goal

abbrev pub invariant-loop-next : goal.invariant-loop-next
invariant-loop-next g l = record {
  inside : (l.at ≤ l.end) × (l.end ≤ length l.body);
  size : length l.reference ≡ l.shape.width * l.shape.height;
  most : l.next ≤ l.count;
  read : AreRead l.body l.at l.shape.inter l.count l.next l.end l.initial.reference l.reference l.shape.width l.shape.height;
}

abbrev pub decreases-loop-next : goal.decreases-loop-next
decreases-loop-next g l = l.count - l.next
