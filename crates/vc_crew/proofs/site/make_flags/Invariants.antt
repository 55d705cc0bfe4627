use Rattle.std.proofs.Common.{◌≡◌, vec_len}
use Rattle.vc_crew.proofs.site.make_flags.Given as goal

abbrev pub invariant-loop-flag : goal.invariant-loop-flag
invariant-loop-flag l = vec_len l.flags ≡ l._flag
