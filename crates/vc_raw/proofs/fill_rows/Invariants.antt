use Rattle.std.proofs.Common.{◌≡◌, ℕ, ◌<◌, ◌+◌, ◌*◌, ◌/◌, ◌%◌, get_or}
use Rattle.vc_raw.specs.Rows.{row_byte}
use Rattle.vc_raw.proofs.fill_rows.Given as goal

abbrev pub invariant-loop-y : goal.invariant-loop-y
invariant-loop-y l = record {
  written : (j : ℕ) → j < l.across * l.y → get_or l.out (l.at + j) 0 ≡ row_byte l.row (j % l.across) (j / l.across) l.picture l.number;
  kept : (j : ℕ) → j < l.at → get_or l.out j 0 ≡ get_or l.initial.out j 0;
}
