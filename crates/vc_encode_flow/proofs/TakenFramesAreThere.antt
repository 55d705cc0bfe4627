-- A frame that was taken is handed out, and its payload begins with it. One with ERROR shows that a job failed, and its OUTPUT
-- buffer, with ERROR too, is done.
use Rattle.std.proofs.Common.{ℕ, suc, zero, ◌≡◌, ◌≤◌, ◌<◌, List, [], ◌∷◌, length, get_or, set, Bool, true, false, Option, Some, None, sym, ap, subst}
use Rattle.vc_base.specs.declared.Stamp.{Stamp}
use Rattle.vc_base.specs.declared.Side.TheVariants.{Cap}
use Rattle.vc_base.specs.declared.Call.TheVariants.{DqBuf}
use Rattle.vc_base.specs.declared.Reply.TheVariants.{Taken}
use Rattle.vc_model.specs.Places.{has_error}
use Rattle.vc_model.specs.Solo.{SoloEvent}
use Rattle.vc_queue.specs.Holds.{HoldState, held_payload}
use Rattle.vc_context.specs.Payloads.{FitsSlot}
use Rattle.vc_port.specs.Payloads.{slot_after, IsCallOn, faulty_finishes}
use Rattle.vc_port.specs.Laws.{BeginsWith}
use Rattle.vc_port.proofs.TakenIsHandedOut.{taken_is_handed_out}
use Rattle.vc_flow.proofs.TakenIsThere.{begins}
use Rattle.vc_encode_flow.specs.Flows.{FlowSoFar, IsFlow, HasBadSource}
use Rattle.vc_flow.specs.Buffers.{IsThere, HasBytes}
use Rattle.vc_encode_flow.specs.Steps.{IsTaken}
use Rattle.vc_encode_flow.proofs.OneEventMore.{asked}
use Rattle.vc_encode_flow.proofs.PicturesIntoFramesOut.{frame_flow, frame_fault, fault_source}

pub is_taken : (start : List SoloEvent) (f : FlowSoFar) (old new : List SoloEvent) (before after : HoldState) (block : Bool)
    (index used flags seq : ℕ) (stamp : Stamp) → has_error flags ≡ false → IsCallOn old before (DqBuf Cap block) (Taken index used flags seq stamp)
    new after → FitsSlot (slot_after new) after → IsFlow start f old → IsTaken start f new (held_payload after Cap index) used
is_taken start f old new before after block index used flags seq stamp e c fits w =
    record {
      frame = c.handed;
      flow = frame_flow start f block index used flags seq stamp c.handed new e (asked start f old before (DqBuf Cap block) (Taken index used flags seq stamp) new after (λ q. absurd (cc)) c w);
      there = begins used c.handed (held_payload after Cap index) (taken_is_handed_out old new before after block index used flags seq stamp c fits);
    }

pub fault_taken : (start : List SoloEvent) (f : FlowSoFar) (old new : List SoloEvent) (before after : HoldState) (block : Bool)
    (index used flags seq : ℕ) (stamp : Stamp) → has_error flags ≡ true → IsCallOn old before (DqBuf Cap block) (Taken index used flags seq stamp)
    new after → IsFlow start f old → faulty_finishes start < faulty_finishes new
fault_taken start f old new before after block index used flags seq stamp e c w =
    frame_fault start f block index used flags seq stamp c.handed new e (asked start f old before (DqBuf Cap block) (Taken index used flags seq stamp) new after (λ q. absurd (cc)) c w)

pub fault_behind : (start : List SoloEvent) (f : FlowSoFar) (old new : List SoloEvent) (before after : HoldState) (block : Bool)
    (index used flags seq : ℕ) (stamp : Stamp) → has_error flags ≡ true → IsCallOn old before (DqBuf Cap block) (Taken index used flags seq stamp)
    new after → IsFlow start f old → HasBadSource new
fault_behind start f old new before after block index used flags seq stamp e c w =
    fault_source start f block index used flags seq stamp c.handed new e (asked start f old before (DqBuf Cap block) (Taken index used flags seq stamp) new after (λ q. absurd (cc)) c w)
