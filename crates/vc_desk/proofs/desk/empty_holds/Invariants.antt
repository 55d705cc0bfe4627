use Rattle.std.proofs.Common.{◌≡◌, replicate}
use Rattle.vc_context.specs.Payloads.{empty_hold}
use Rattle.vc_desk.proofs.desk.empty_holds.Given as goal

abbrev pub invariant-loop-hold : goal.invariant-loop-hold
invariant-loop-hold l = l.holds.items ≡ replicate l._hold empty_hold
