use Rattle.std.proofs.Common.{◌≡◌, vec_len}
use Rattle.vicodec_run.proofs.tests.meeting.run_meeting.Given as goal

abbrev pub invariant-loop-place : goal.invariant-loop-place
invariant-loop-place g l = vec_len l.engines ≡ l.place
