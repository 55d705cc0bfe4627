-- What each call that opens a flow does to it, as a call on a port: it is the call of the context, with claims and finishes
-- before it.
use Rattle.std.proofs.Common.{ℕ, ◌≡◌, List, [], ◌++◌, None, Some, refl, ap, ◌∙◌, subst, append_assoc}
use Rattle.vc_base.specs.declared.Stamp.{Stamp}
use Rattle.vc_base.specs.declared.Side.{Side}
use Rattle.vc_base.specs.declared.Side.TheVariants.{Out, Cap}
use Rattle.vc_base.specs.declared.Kind.TheVariants.{Enc}
use Rattle.vc_base.specs.declared.Format.{Format}
use Rattle.vc_base.specs.declared.Call.{Call}
use Rattle.vc_base.specs.declared.Call.TheVariants.{Open, SetFmt, ReqBufs, QBuf, StreamOn, SetCtrl}
use Rattle.vc_base.specs.declared.Reply.{Reply}
use Rattle.vc_base.specs.declared.Reply.TheVariants.{Done, Fmt, Count}
use Rattle.vc_defs.specs.Encoder.{RunRates}
use Rattle.vc_model.specs.Answer.{with_control}
use Rattle.vc_model.specs.Handed.{handed_by_call}
use Rattle.vc_model.specs.Solo.{SoloEvent}
use Rattle.vc_queue.specs.Holds.{HoldState}
use Rattle.vc_port.specs.Payloads.{slot_after, bytes_out, IsCallOn}
use Rattle.vc_port.proofs.CallsHandOut.{calls_hand_out}
use Rattle.vc_encode_flow.specs.Flows.{FlowSoFar, flow_at_open, with_format, with_rates, HasBegun, IsKept, IsFlow, HasNewFlow, IsSettable}
use Rattle.vc_flow.specs.Calls.{HandedFirst}
use Rattle.vc_encode_flow.proofs.QuietCallsKeepAFlow.{quiet_flow, is_quiet}
use Rattle.vc_encode_flow.proofs.OneEventMore.{asked}
use Rattle.vc_encode_flow.proofs.OpeningMakesAFlow.{open_flow, format_flow, out_buffers_flow, cap_buffers_flow, control_flow}

pub opened : (old : List SoloEvent) (before : HoldState) (told : Reply) (new : List SoloEvent) (after : HoldState) → slot_after old ≡ None → told ≡ Done → IsCallOn old before (Open Enc) told new after → IsFlow old flow_at_open new
opened old before told new after closed e c =
    open_flow old before new after closed (subst (λ (r : Reply). IsCallOn old before (Open Enc) r new after) e c)

pub format_set : (start : List SoloEvent) (f : FlowSoFar) (old : List SoloEvent) (before : HoldState) (want given : Format) (new : List SoloEvent)
    (after : HoldState) → IsKept want → HasBegun f → IsCallOn old before (SetFmt Out want) (Fmt given) new after → IsFlow start f old →
    IsFlow start (with_format f want) new
format_set start f old before want given new after kept b c w =
    format_flow start f want given c.handed new kept b (asked start f old before (SetFmt Out want) (Fmt given) new after (λ e. absurd (cc)) c w)

pub control_set : (start : List SoloEvent) (f : FlowSoFar) (old : List SoloEvent) (before : HoldState) (id value : ℕ) (rates : RunRates)
    (new : List SoloEvent) (after : HoldState) → with_control Enc f.rates id value ≡ Some rates → HasBegun f →
    IsCallOn old before (SetCtrl id value) Done new after → IsFlow start f old → IsFlow start (with_rates f rates) new
control_set start f old before id value rates new after e b c w =
    control_flow start f id value rates c.handed new e b (asked start f old before (SetCtrl id value) Done new after (λ q. absurd (cc)) c w)

pub control_goes_on : (old : List SoloEvent) (before : HoldState) (id value : ℕ) (new : List SoloEvent) (after : HoldState) → HasNewFlow old →
    IsSettable id value → IsCallOn old before (SetCtrl id value) Done new after → HasNewFlow new
control_goes_on old before id value new after w s c =
    let set = s w.so_far.rates in
    record {
      start = w.start;
      so_far = with_rates w.so_far set.0;
      begun = record { queued = w.begun.queued; taken = w.begun.taken };
      flow = control_set w.start w.so_far old before id value set.0 new after set.1 w.begun c w.flow;
    }

pub buffers_requested : (start : List SoloEvent) (f : FlowSoFar) (old : List SoloEvent) (before : HoldState) (side : Side) (count number : ℕ)
    (new : List SoloEvent) (after : HoldState) → HasBegun f → IsCallOn old before (ReqBufs side count) (Count number) new after →
    IsFlow start f old → IsFlow start f new
buffers_requested start f old before Out count number new after b c w =
    out_buffers_flow start f count number c.handed new b (asked start f old before (ReqBufs Out count) (Count number) new after (λ e. absurd (cc)) c w)
buffers_requested start f old before Cap count number new after b c w =
    cap_buffers_flow start f count number c.handed new b (asked start f old before (ReqBufs Cap count) (Count number) new after (λ e. absurd (cc)) c w)

pub capture_queued : (start : List SoloEvent) (f : FlowSoFar) (old : List SoloEvent) (before : HoldState) (index used : ℕ) (stamp : Stamp) (new : List SoloEvent) (after : HoldState) → IsCallOn old before (QBuf Cap index used stamp) Done new after → IsFlow start f old → IsFlow start f new
unfolding is_quiet
capture_queued start f old before index used stamp new after c w =
    quiet_flow start f (QBuf Cap index used stamp) [] Done c.handed new refl (asked start f old before (QBuf Cap index used stamp) Done new after (λ e. absurd (cc)) c w)

pub streamed : (start : List SoloEvent) (f : FlowSoFar) (old : List SoloEvent) (before : HoldState) (side : Side) (new : List SoloEvent) (after : HoldState) → IsCallOn old before (StreamOn side) Done new after → IsFlow start f old → IsFlow start f new
unfolding is_quiet
streamed start f old before side new after c w =
    quiet_flow start f (StreamOn side) [] Done c.handed new refl (asked start f old before (StreamOn side) Done new after (λ e. absurd (cc)) c w)
