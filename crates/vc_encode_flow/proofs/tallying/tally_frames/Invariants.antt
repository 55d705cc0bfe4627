use Rattle.std.proofs.Common.{ℕ, List, ◌≤◌, ◌+◌, ◌*◌, ◌^◌}
use Rattle.vc_base.specs.declared.Format.{Format}
use Rattle.vc_model.specs.Solo.{SoloEvent}
use Rattle.vc_encode_flow.specs.Flows.{HasFlow}
use Rattle.vc_encode_flow.specs.Shares.{IsSharing}
use Rattle.vc_encode_flow.proofs.tallying.tally_frames.Given as goal

abbrev pub invariant-loop-frame : goal.invariant-loop-frame
invariant-loop-frame g l = record {
  ready : g.P.Port.ready l.port;
  follows : g.P.Port.follows l.initial.port l.port;
  flow : HasFlow (g.P.PayloadPort.events l.port);
  bound : l.tally.bytes ≤ l.initial.tally.bytes + l._frame * 2 ^ 32;
  shares : (start : List SoloEvent) (format : Format) (number queued taken : ℕ) → IsSharing start format number queued taken l.initial.tally (g.P.PayloadPort.events l.initial.port) → IsSharing start format number queued (taken + l._frame) l.tally (g.P.PayloadPort.events l.port);
}
