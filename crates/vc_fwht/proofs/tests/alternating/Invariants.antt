use Rattle.std.proofs.Common.{◌≡◌, length}
use Rattle.std.specs.Prelude.{pos, neg_ℤ}
use Rattle.vc_defs.specs.Quantiser.{AllBetween}
use Rattle.vc_fwht.proofs.tests.alternating.Given as goal

abbrev pub invariant-loop-k : goal.invariant-loop-k
invariant-loop-k l = record {
  long : length l.x ≡ 64;
  within : AllBetween (neg_ℤ (pos 255)) (pos 255) l.x;
}
