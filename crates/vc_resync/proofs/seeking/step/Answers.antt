use Rattle.std.proofs.Common.{arith}
use Rattle.vc_resync.proofs.MagicComesOn.{on_first, on_again, on_last, on_other}
use Rattle.vc_resync.proofs.seeking.step.Goals as goal
use Rattle.vc_resync.proofs.seeking.step.Goals.{else-byte-2-via-then-byte-2+else-matched-ge4, else-byte-2-via-else-byte-2}

pub returns-then-matched-lt4 : goal.returns-then-matched-lt4
returns-then-matched-lt4 c = rw c.if-byte.true (on_first c.args.matched (omega arith))

pub returns-else-matched-eq4 : goal.returns-else-matched-eq4
returns-else-matched-eq4 c = rw c.if-byte.true (on_again c.args.matched (omega arith) (omega arith))

pub returns-then-matched-ge4 : goal.returns-then-matched-ge4
returns-then-matched-ge4 c = rw c.if-byte-2.true (on_last c.args.matched (omega arith) (omega arith))

pub returns : goal.returns
returns c =
    on_other c.args.matched c.args.byte (omega arith) c.if-byte.false (λ e.
    elim c.else-byte-2.branch [
      | else-byte-2-via-then-byte-2+else-matched-ge4 w ↦ omega arith
      | else-byte-2-via-else-byte-2 w ↦ absurd (w.if-byte-2.false e)
    ])
