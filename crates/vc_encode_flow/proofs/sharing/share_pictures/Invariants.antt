use Rattle.std.proofs.Common.{List, [], ◌≡◌, ◌≤◌, ◌-◌, ◌*◌, ◌^◌, length}
use Rattle.vc_model.specs.Solo.{SoloEvent}
use Rattle.vc_encode_flow.specs.Flows.{HasFlow}
use Rattle.vc_encode_flow.specs.Shares.{IsSharing}
use Rattle.vc_encode_flow.specs.Tallies.{tally_of}
use Rattle.vc_encode_flow.proofs.sharing.share_pictures.Given as goal

abbrev pub invariant-loop-at : goal.invariant-loop-at
invariant-loop-at g l = record {
  ready : g.P.Port.ready l.port;
  follows : g.P.Port.follows l.initial.port l.port;
  long : length l.picture ≡ length l.initial.picture;
  flow : HasFlow (g.P.PayloadPort.events l.port);
  bound : l.tally.bytes ≤ l.at * 2 ^ 32;
  shares : (start : List SoloEvent) → IsSharing start l.format l.number 0 0 (tally_of []) (g.P.PayloadPort.events l.initial.port) → IsSharing start l.format l.number l.at (l.at - 4) l.tally (g.P.PayloadPort.events l.port);
}
