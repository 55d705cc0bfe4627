use Rattle.std.proofs.Common.{◌≡◌, ◌≤◌, ◌-◌, length, Some}
use Rattle.vc_stream_run.specs.Steps.{present_of}
use Rattle.vc_stream_run.proofs.FedFramesHaveTheGeometry.{At, ahead}
use Rattle.vc_stream_run.proofs.RunsComeToTheNextResult.{Going}
use Rattle.vc_stream_run.proofs.runs.decode_run.Given as goal

abbrev pub invariant-loop-decoded : goal.invariant-loop-decoded
invariant-loop-decoded g l = record {
  inside : l.taken ≤ length l.source;
  limit : l.assembly.limit ≡ l.initial.assembly.limit;
  reference : l.reference ≡ l.initial.reference;
  dest : l.dest ≡ l.initial.dest;
  point : At l.initial.assembly.limit (Some l.geometry) l.assembly.kept;
  going : Going l.initial.assembly.limit l.stamp (present_of (Some l.geometry) l.initial.reference.state.reference) l.initial.assembly.kept l.source l.taken l.assembly.kept;
}

abbrev pub decreases-loop-decoded : goal.decreases-loop-decoded
decreases-loop-decoded g l = ahead l.assembly.kept.tail (length l.source - l.taken)
