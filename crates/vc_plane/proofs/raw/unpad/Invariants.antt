use Rattle.std.proofs.Common.{◌≡◌, ℕ, ◌+◌, ◌*◌, ◌/◌, ◌%◌, ◌<◌, length, get_or}
use Rattle.vc_defs.specs.Planes.{padded}
use Rattle.vc_plane.proofs.raw.unpad.Given as goal

abbrev pub invariant-loop-row : goal.invariant-loop-row
invariant-loop-row l = record {
  size : length l.plane ≡ l.shape.width * l.shape.height;
  copied : (j : ℕ) → j < l.row * l.shape.width → get_or l.plane j 0 ≡ get_or l.bytes (j / l.shape.width * padded l.shape.width + j % l.shape.width) 0;
}
