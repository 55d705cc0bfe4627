use Rattle.std.proofs.Common.{◌≡◌, ◌≤◌, ◌-◌, length, None}
use Rattle.vc_stream_run.specs.Steps.{present_of}
use Rattle.vc_stream_run.proofs.FedFramesHaveTheGeometry.{At, ahead}
use Rattle.vc_stream_run.proofs.RunsComeToTheNextResult.{Going}
use Rattle.vc_stream_run.proofs.runs.probe_run.Given as goal

abbrev pub invariant-loop-decoded : goal.invariant-loop-decoded
invariant-loop-decoded l = record {
  inside : l.taken ≤ length l.source;
  limit : l.assembly.limit ≡ l.initial.assembly.limit;
  point : At l.initial.assembly.limit None l.assembly.kept;
  going : Going l.initial.assembly.limit l.stamp (present_of None None) l.initial.assembly.kept l.source l.taken l.assembly.kept;
}

abbrev pub decreases-loop-decoded : goal.decreases-loop-decoded
decreases-loop-decoded l = ahead l.assembly.kept.tail (length l.source - l.taken)
