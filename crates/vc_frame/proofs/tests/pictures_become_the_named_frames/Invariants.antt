use Rattle.std.proofs.Common.{◌≡◌}
use Rattle.vc_defs.specs.Raw.{grey, geometry_of}
use Rattle.vc_work.specs.Runs.{HasGeometry}
use Rattle.vc_frame.proofs.tests.pictures_become_the_named_frames.Given as goal

abbrev pub invariant-loop-sample : goal.invariant-loop-sample
invariant-loop-sample g l = record {
  size : l.reference.size ≡ 256;
  same : HasGeometry (geometry_of (record { fourcc = grey; width = 16; height = 16; size = 256 })) l.reference.state.reference;
}
