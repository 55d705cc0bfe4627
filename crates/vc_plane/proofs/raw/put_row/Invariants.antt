use Rattle.std.proofs.Common.{◌≡◌, ℕ, ◌+◌, ◌*◌, ◌<◌, length, get_or}
use Rattle.vc_defs.specs.Planes.{padded_sample, raw_sample}
use Rattle.vc_plane.proofs.raw.put_row.Given as goal

abbrev pub invariant-loop-column : goal.invariant-loop-column
invariant-loop-column l = record {
  size : length l.out ≡ length l.initial.out;
  written : (k : ℕ) → k < l.column → get_or l.out (l.row * l.beside + k) 0 ≡ raw_sample (padded_sample l.plane l.width l.height k l.row);
  kept : (j : ℕ) → j < l.row * l.beside → get_or l.out j 0 ≡ get_or l.initial.out j 0;
}
