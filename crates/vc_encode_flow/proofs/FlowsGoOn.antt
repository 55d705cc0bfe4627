-- Where a step came through, the flow goes on at the slot, whatever it did before.
use Rattle.std.proofs.Common.{List}
use Rattle.std.specs.Prelude.{Result, OnOk}
use Rattle.vc_model.specs.Solo.{SoloEvent}
use Rattle.vc_flow.specs.declared.ends.Stop.{Stop}
use Rattle.vc_flow.proofs.Results.{on_ok}
use Rattle.vc_encode_flow.specs.Flows.{FlowSoFar, IsFlow, HasFlow}
use Rattle.vc_encode_flow.specs.Promises.{FlowMoves}

pub has_flow : (start : List SoloEvent) (f : FlowSoFar) (events : List SoloEvent) → IsFlow start f events → HasFlow events
has_flow start f events w = record { start = start; so_far = f; flow = w }

pub flow_moves : {T : Type 0} (step : FlowSoFar → FlowSoFar) (result : Result T Stop) (old new : List SoloEvent) → FlowMoves step result old new → HasFlow old → OnOk result (HasFlow new)
flow_moves step result old new moves w =
    on_ok result (has_flow w.start (step w.so_far) new) (moves w.start w.so_far w.flow)
