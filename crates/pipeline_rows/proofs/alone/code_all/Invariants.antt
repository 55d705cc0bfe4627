use Rattle.std.proofs.Common.{◌≡◌, vec_len}
use Rattle.vc_defs.specs.Raw.{yu12, geometry_of}
use Rattle.vc_work.specs.Runs.{HasGeometry}
use Rattle.pipeline_rows.proofs.alone.code_all.Given as goal

abbrev pub invariant-loop-place : goal.invariant-loop-place
invariant-loop-place l = record {
  picture : vec_len l.picture ≡ 152064;
  frame : vec_len l.frame ≡ 152108;
  size : l.reference.size ≡ 152064;
  same : HasGeometry (geometry_of (record { fourcc = yu12; width = 352; height = 288; size = 152064 })) l.reference.state.reference;
}
