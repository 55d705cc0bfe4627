-- What each step of a flow promises, wherever the flow stands. In each, `old` and `new` are the events of the slot before and
-- after the step, and `before` and `after` are what was written or tallied.
use Rattle.std.specs.Prelude.{ℕ, ◌≡◌, ◌+◌, ◌-◌, Bool, Option, Some, List, [], ◌++◌, Result, IfOk, OnOk, OnErr, IsErrOf}
use Rattle.vc_base.specs.declared.Side.TheVariants.{Cap}
use Rattle.vc_base.specs.declared.Kind.TheVariants.{Enc}
use Rattle.vc_base.specs.declared.Format.{Format}
use Rattle.vc_defs.specs.Encoder.{RunRates}
use Rattle.vc_model.specs.Answer.{with_control}
use Rattle.vc_model.specs.Solo.{SoloEvent}
use Rattle.vc_queue.specs.Holds.{HoldState, held_payload}
use Rattle.vc_flow.specs.declared.ends.Stop.{Stop}
use Rattle.vc_flow.specs.declared.ends.Stop.TheVariants.{EngineFault}
use Rattle.vc_flow.specs.Buffers.{HasBytes}
use Rattle.vc_flow.specs.Faults.{HasFailed}
use Rattle.vc_encode_flow.specs.Flows.{FlowSoFar, IsFlow, HasBegun, with_rates, flow_of, rates_of}
use Rattle.vc_encode_flow.specs.Steps.{IsAt, StopsEarly, HasTaken, IsTaken}
use Rattle.vc_encode_flow.specs.Endings.{IsThrough, IsCutShort, IsWritten, IsFrontWritten}
use Rattle.vc_encode_flow.specs.Shares.{IsSharing}
use Rattle.vc_encode_flow.specs.Tallies.{tally_of}
use Rattle.vc_encode_flow.specs.declared.collecting.Frame.{Frame}
use Rattle.vc_encode_flow.specs.declared.tallying.Tally.{Tally}

-- Calls

-- where the step came through, it changed the flow so
abbrev pub FlowMoves : {T : Type 0} (step : FlowSoFar → FlowSoFar) (result : Result T Stop) (old new : List SoloEvent) → Type 0
FlowMoves step result old new =
    (start : List SoloEvent) (f : FlowSoFar) → IsFlow start f old → OnOk result (IsFlow start (step f) new)

-- the same of a flow that has only begun
abbrev pub NewFlowMoves : {T : Type 0} (step : FlowSoFar → FlowSoFar) (result : Result T Stop) (old new : List SoloEvent) → Type 0
NewFlowMoves step result old new =
    (start : List SoloEvent) (f : FlowSoFar) → HasBegun f → IsFlow start f old → OnOk result (IsFlow start (step f) new)

-- the flow goes on at the rates with this control set
abbrev pub SetsControl : {T : Type 0} (id value : ℕ) (result : Result T Stop) (old new : List SoloEvent) → Type 0
SetsControl id value result old new =
    (start : List SoloEvent) (f : FlowSoFar) (rates : RunRates) → HasBegun f → with_control Enc f.rates id value ≡ Some rates →
    IsFlow start f old → OnOk result (IsFlow start (with_rates f rates) new)

-- where an engine is said to have failed, a job of the slot did
abbrev pub TellsFault : {T : Type 0} (result : Result T Stop) (old new : List SoloEvent) → Type 0
TellsFault result old new =
    (start : List SoloEvent) (f : FlowSoFar) → IsFlow start f old → IsErrOf result EngineFault → HasFailed start new

-- Frames

-- the frame that was taken is handed out, and lies in its payload
abbrev pub TakesFrame : (result : Result Frame Stop) (hold : HoldState) (old new : List SoloEvent) → Type 0
TakesFrame result hold old new =
    (start : List SoloEvent) (f : FlowSoFar) → IsFlow start f old →
    IfOk result (λ frame. IsTaken start f new (held_payload hold Cap frame.index) frame.used)

-- so many frames are taken and written
abbrev pub WritesFrames : {T : Type 0} (count : ℕ) (result : Result T Stop) (before after : Option (List ℕ)) (old new : List SoloEvent) → Type 0
WritesFrames count result before after old new =
    (start : List SoloEvent) (f : FlowSoFar) (first : Option (List ℕ)) → IsAt start f first before old →
    OnOk result (HasTaken start f count first after new)

-- a step that fails leaves a prefix of the frames written
abbrev pub LeavesPrefix : {T : Type 0} (result : Result T Stop) (before after : Option (List ℕ)) (old new : List SoloEvent) → Type 0
LeavesPrefix result before after old new =
    (start : List SoloEvent) (f : FlowSoFar) (first : Option (List ℕ)) → IsAt start f first before old →
    OnErr result (StopsEarly start f first after new)

-- where an engine is said to have failed while frames are written, a job of the slot did
abbrev pub WritingTellsFault : {T : Type 0} (result : Result T Stop) (before : Option (List ℕ)) (old new : List SoloEvent) → Type 0
WritingTellsFault result before old new =
    (start : List SoloEvent) (f : FlowSoFar) (first : Option (List ℕ)) → IsAt start f first before old →
    IsErrOf result EngineFault → HasFailed start new

-- The whole input

-- all pictures of the input came through
abbrev pub ComesThrough : {K S P : Type 0} (size : ℕ) (result : Result Bool Stop) (written : K → Option (List ℕ)) (sink_old sink_new : K)
    (left : S → Option (List ℕ)) (source_old source_new : S) (events : P → List SoloEvent) (port_old port_new : P) → Type 0
ComesThrough size result written sink_old sink_new left source_old source_new events port_old port_new =
    (start : List SoloEvent) (f : FlowSoFar) (first : Option (List ℕ)) → HasBegun f →
    IsAt start f first (written sink_old) (events port_old) →
    IfOk result (λ whole. IsThrough start f size whole first (written sink_new) (left source_old) (left source_new) (events port_new))

-- or it was cut short
abbrev pub BreaksOff : {K P : Type 0} (size : ℕ) (result : Result Bool Stop) (written : K → Option (List ℕ)) (sink_old sink_new : K)
    (left : Option (List ℕ)) (events : P → List SoloEvent) (port_old port_new : P) → Type 0
BreaksOff size result written sink_old sink_new left events port_old port_new =
    (start : List SoloEvent) (f : FlowSoFar) (first : Option (List ℕ)) → HasBegun f →
    IsAt start f first (written sink_old) (events port_old) →
    OnErr result (IsCutShort start f size first (written sink_new) left (events port_new))

-- and where an engine is said to have failed, a job of the slot did
abbrev pub BreakingOffTellsFault : (result : Result Bool Stop) (before : Option (List ℕ)) (old new : List SoloEvent) → Type 0
BreakingOffTellsFault result before old new =
    (start : List SoloEvent) (f : FlowSoFar) (first : Option (List ℕ)) → HasBegun f → IsAt start f first before old →
    IsErrOf result EngineFault → HasFailed start new

-- a slot that was closed encoded all pictures of the input
abbrev pub RunsThrough : {K S P : Type 0} (format : Format) (gop iqp pqp : ℕ) (result : Result Bool Stop) (written : K → Option (List ℕ))
    (sink_old sink_new : K) (left : S → Option (List ℕ)) (source_old source_new : S) (events : P → List SoloEvent) (port_old port_new : P) → Type 0
RunsThrough format gop iqp pqp result written sink_old sink_new left source_old source_new events port_old port_new =
    IfOk result (λ whole. IsThrough (events port_old) (flow_of format (rates_of gop iqp pqp)) format.size whole (written sink_old)
    (written sink_new) (left source_old) (left source_new) (events port_new))

-- or some first pictures
abbrev pub RunIsCutShort : {K P : Type 0} (format : Format) (gop iqp pqp : ℕ) (result : Result Bool Stop) (written : K → Option (List ℕ))
    (sink_old sink_new : K) (left : Option (List ℕ)) (events : P → List SoloEvent) (port_old port_new : P) → Type 0
RunIsCutShort format gop iqp pqp result written sink_old sink_new left events port_old port_new =
    OnErr result (IsCutShort (events port_old) (flow_of format (rates_of gop iqp pqp)) format.size (written sink_old) (written sink_new)
    left (events port_new))

-- The input was read to its end, and its output was written: all frames of its pictures. It ends inside a picture, or not.
abbrev pub Encodes : {S K P : Type 0} (format : Format) (gop iqp pqp : ℕ) (short : Bool) (left : S → Option (List ℕ)) (source_old source_new : S)
    (written : K → Option (List ℕ)) (sink_old sink_new : K) (events : P → List SoloEvent) (port_old port_new : P) → Type 0
Encodes format gop iqp pqp short left source_old source_new written sink_old sink_new events port_old port_new =
    IsWritten format (rates_of gop iqp pqp) short (left source_old) (left source_new) (written sink_old) (written sink_new)
    (events port_old) (events port_new)

-- a prefix of its output was written
abbrev pub EncodesPrefix : {K P : Type 0} (format : Format) (gop iqp pqp : ℕ) (left : Option (List ℕ)) (written : K → Option (List ℕ))
    (sink_old sink_new : K) (events : P → List SoloEvent) (port_old port_new : P) → Type 0
EncodesPrefix format gop iqp pqp left written sink_old sink_new events port_old port_new =
    IsFrontWritten format (rates_of gop iqp pqp) left (written sink_old) (written sink_new) (events port_old) (events port_new)

-- Sharing

-- the tally goes on over the used bytes of the payload
abbrev pub TalliesUsed : (payload : Option (List ℕ)) (used : ℕ) (before after : Tally) → Type 0
TalliesUsed payload used before after =
    (others bytes : List ℕ) → HasBytes payload used bytes → before ≡ tally_of others → after ≡ tally_of (others ++ bytes)

-- so many frames are taken and tallied
abbrev pub TalliesFrames : {T : Type 0} (count : ℕ) (result : Result T Stop) (before after : Tally) (old new : List SoloEvent) → Type 0
TalliesFrames count result before after old new =
    (start : List SoloEvent) (format : Format) (number queued taken : ℕ) → IsSharing start format number queued taken before old →
    OnOk result (IsSharing start format number queued (taken + count) after new)

-- before picture `at` all frames but the last four are tallied, and after the step all but the last four with it
abbrev pub TalliesNext : {T : Type 0} (at : ℕ) (result : Result T Stop) (before after : Tally) (old new : List SoloEvent) → Type 0
TalliesNext at result before after old new =
    (start : List SoloEvent) (format : Format) (number queued : ℕ) → IsSharing start format number queued (at - 4) before old →
    OnOk result (IsSharing start format number queued (at + 1 - 4) after new)

-- where an engine is said to have failed while frames are tallied, a job of the slot did
abbrev pub TallyingTellsFault : {T : Type 0} (result : Result T Stop) (before : Tally) (old new : List SoloEvent) → Type 0
TallyingTellsFault result before old new =
    (start : List SoloEvent) (format : Format) (number queued taken : ℕ) → IsSharing start format number queued taken before old →
    IsErrOf result EngineFault → HasFailed start new

-- all pictures are shared
abbrev pub SharesAll : (format : Format) (number pictures : ℕ) (result : Result Tally Stop) (old new : List SoloEvent) → Type 0
SharesAll format number pictures result old new =
    (start : List SoloEvent) → IsSharing start format number 0 0 (tally_of []) old →
    IfOk result (λ tally. IsSharing start format number pictures pictures tally new)

-- and where an engine is said to have failed, a job of the slot did
abbrev pub SharingTellsFault : (format : Format) (number : ℕ) (result : Result Tally Stop) (old new : List SoloEvent) → Type 0
SharingTellsFault format number result old new =
    (start : List SoloEvent) → IsSharing start format number 0 0 (tally_of []) old → IsErrOf result EngineFault → HasFailed start new
