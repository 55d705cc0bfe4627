use Rattle.std.proofs.Common.{◌≡◌, ◌+◌, length}
use Rattle.vc_defs.specs.Words.{in_scan_order}
use Rattle.vc_rlc.specs.Finding.{AreFound}
use Rattle.vc_rlc.proofs.find_in_eight.Given as goal

abbrev pub invariant-loop-i : goal.invariant-loop-i
invariant-loop-i l = record {
  long : length l.numbers ≡ 64;
  found : AreFound (in_scan_order l.q) l.numbers l.count (l.first + l.i);
}
