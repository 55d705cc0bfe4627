-- An OUTPUT buffer that comes back without ERROR leaves a flow as it is, one with ERROR shows a fault, and one that is queued adds
-- its picture.
use Rattle.std.proofs.Common.{ℕ, suc, zero, ◌≡◌, List, [], ◌∷◌, ◌++◌, length, take, drop, get_or, set, Option, Some, None, refl, ap, ◌∙◌, subst, Bool, true, false}
use Rattle.vc_base.specs.declared.Stamp.{Stamp}
use Rattle.vc_base.specs.declared.Side.TheVariants.{Out}
use Rattle.vc_base.specs.declared.Call.TheVariants.{QBuf, DqBuf}
use Rattle.vc_base.specs.declared.Reply.TheVariants.{Taken, Done}
use Rattle.vc_model.specs.Solo.{SoloEvent}
use Rattle.vc_model.specs.Places.{has_error}
use Rattle.vc_queue.specs.Holds.{HoldState}
use Rattle.vc_queue.specs.Answers.{queued_bytes}
use Rattle.vc_port.specs.Payloads.{IsCallOn}
use Rattle.vc_flow.specs.Calls.{QueuesSource}
use Rattle.vc_flow.specs.Faults.{HasFailed}
use Rattle.vc_flow.proofs.FaultsShow.{shows_before, source_shows}
use Rattle.vc_encode_flow.specs.Flows.{FlowSoFar, with_picture, IsFlow}
use Rattle.vc_encode_flow.proofs.OneEventMore.{asked}
use Rattle.vc_encode_flow.proofs.PicturesIntoFramesOut.{picture_flow, source_flow, source_fault}

pub source_taken : (start : List SoloEvent) (f : FlowSoFar) (old new : List SoloEvent) (before after : HoldState) (block : Bool)
    (index used flags seq : ℕ) (stamp : Stamp) → has_error flags ≡ false →
    IsCallOn old before (DqBuf Out block) (Taken index used flags seq stamp) new after → IsFlow start f old → IsFlow start f new
source_taken start f old new before after block index used flags seq stamp e c w =
    source_flow start f block index used flags seq stamp c.handed new e (asked start f old before (DqBuf Out block) (Taken index used flags seq stamp) new after (λ q. absurd (cc)) c w)

pub source_failed : (start : List SoloEvent) (f : FlowSoFar) (old new : List SoloEvent) (before after : HoldState) (block : Bool)
    (index used flags seq : ℕ) (stamp : Stamp) → has_error flags ≡ true →
    IsCallOn old before (DqBuf Out block) (Taken index used flags seq stamp) new after → IsFlow start f old → HasFailed start new
source_failed start f old new before after block index used flags seq stamp e c w =
    record {
      shows = shows_before start old new w.goes_on (source_shows old new before after block index used flags seq stamp e c);
      failed = source_fault start f block index used flags seq stamp c.handed new e (asked start f old before (DqBuf Out block) (Taken index used flags seq stamp) new after (λ q. absurd (cc)) c w);
    }

pub picture_queued : (start : List SoloEvent) (f : FlowSoFar) (old new : List SoloEvent) (index : ℕ) (picture : List ℕ)
    (after : HoldState) → QueuesSource old index picture new after → IsFlow start f old → IsFlow start (with_picture f picture) new
picture_queued start f old new index picture after q w =
    let used = length picture in
    let bytes = queued_bytes Out q.before index used in
    let a = asked start f old q.before (QBuf Out index used q.stamp) Done new after (λ r. absurd (cc)) q.does w in
    subst (λ (l : List ℕ). IsFlow start (with_picture f l) new) q.filled (picture_flow start f index used q.stamp bytes q.does.handed new a)
