use Rattle.std.proofs.Common.{◌≡◌}
use Rattle.vc_defs.specs.Raw.{geometry_of}
use Rattle.vc_work.specs.Runs.{HasGeometry}
use Rattle.vc_frame.proofs.tests.comes_back.Given as goal

abbrev pub invariant-loop-picture : goal.invariant-loop-picture
invariant-loop-picture l = record {
  encoder : l.encoder.size ≡ 512;
  same : HasGeometry (geometry_of l.format) l.encoder.state.reference;
  decoder : l.decoder.size ≡ 512;
}
