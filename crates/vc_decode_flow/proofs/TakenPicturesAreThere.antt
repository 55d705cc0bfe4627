-- A CAPTURE buffer that is taken: its picture is handed out, and its payload begins with it. Behind the LAST one the context
-- has stopped, and the payload is still there.
use Rattle.std.proofs.Common.{ℕ, ◌≡◌, ◌||◌, ◌++◌, List, get_or, not, Option, Some, None, Bool, true, false, refl, sym, subst, ◌∙◌}
use Rattle.vc_base.specs.declared.Side.TheVariants.{Cap}
use Rattle.vc_base.specs.declared.Stamp.{Stamp}
use Rattle.vc_base.specs.declared.Call.TheVariants.{DqBuf}
use Rattle.vc_base.specs.declared.Reply.TheVariants.{Taken}
use Rattle.vc_model.specs.Places.{has_error}
use Rattle.vc_model.specs.Solo.{SoloEvent}
use Rattle.vc_queue.specs.Holds.{HoldState, held_payload}
use Rattle.vc_context.specs.Payloads.{FitsSlot}
use Rattle.vc_port.specs.Payloads.{slot_after, bytes_out, IsCallOn}
use Rattle.vc_port.specs.Laws.{BeginsWith}
use Rattle.vc_port.proofs.CallsHandOut.{calls_hand_out}
use Rattle.vc_port.proofs.TakenIsHandedOut.{taken_is_handed_out}
use Rattle.vc_flow.proofs.TakenIsThere.{begins}
use Rattle.vc_flow.specs.Buffers.{IsThere, HasBytes}
use Rattle.vc_stream_laws.specs.Streams.{StreamSoFar, IsStream}
use Rattle.vc_stream_laws.proofs.CallsOfAClient.{pictures_are_taken}
use Rattle.vc_decode_flow.specs.Steps.{KeepsCaptures, known_after, with_stop, IsTaken}

pub not_true : (b : Bool) → not b ≡ true → b ≡ false
not_true true e = sym e
not_true false e = refl

pub not_false : (b : Bool) → not b ≡ false → b ≡ true
not_false true e = refl
not_false false e = sym e

-- there is another one to come before a stop
pub taken_now : (start old new : List SoloEvent) (f : StreamSoFar) (before after : HoldState) (block : Bool) (index used flags seq : ℕ)
    (stamp : Stamp) (damaged last : Bool) → damaged ≡ has_error flags → last ≡ false → FitsSlot (slot_after new) after →
    IsCallOn old before (DqBuf Cap block) (Taken index used flags seq stamp) new after → IsStream start f old →
    IsTaken start f (record { index = index; used = used; damaged = damaged; last = last }) (held_payload after Cap index) old new
taken_now start old new f before after block index used flags seq stamp damaged last d l fits c w =
    let picture = c.handed in
    let s = pictures_are_taken start old new f before after block index used flags seq stamp w c in
    let t : IsStream start (record f { handed = f.handed ++ picture; damaged = f.damaged || damaged }) new = subst (λ (b : Bool). IsStream start (record f { handed = f.handed ++ picture; damaged = f.damaged || b }) new) (sym d) s in
    record {
      picture = picture;
      stream = subst (λ (b : Bool). IsStream start (record f { handed = f.handed ++ picture; damaged = f.damaged || damaged; known = known_after b f.known }) new) (sym l) t;
      handed = (calls_hand_out old new before after (DqBuf Cap block) (Taken index used flags seq stamp) c).bytes;
      there = begins used picture (held_payload after Cap index) (taken_is_handed_out old new before after block index used flags seq stamp c fits);
    }

pub there_kept : (before after : HoldState) (index used : ℕ) → KeepsCaptures before after → IsThere (held_payload before Cap index) used → IsThere (held_payload after Cap index) used
there_kept before after index used k h =
    subst (λ (l : List (Option (List ℕ))). IsThere (get_or l index None) used) (sym k) h

-- it is the last one, and the context was found to have stopped behind it
pub taken_last : (start old mid new : List SoloEvent) (f : StreamSoFar) (before after : HoldState) (index used : ℕ) (damaged last : Bool) →
    last ≡ true → KeepsCaptures before after → bytes_out new ≡ bytes_out mid →
    ((g : StreamSoFar) → IsStream start g mid → IsStream start (with_stop g) new) →
    IsTaken start f (record { index = index; used = used; damaged = damaged; last = false }) (held_payload before Cap index) old mid →
    IsTaken start f (record { index = index; used = used; damaged = damaged; last = last }) (held_payload after Cap index) old new
taken_last start old mid new f before after index used damaged last l k e stop t =
    let picture = t.picture in
    let s = stop (record f { handed = f.handed ++ picture; damaged = f.damaged || damaged }) t.stream in
    record {
      picture = picture;
      stream = subst (λ (b : Bool). IsStream start (record f { handed = f.handed ++ picture; damaged = f.damaged || damaged; known = known_after b f.known }) new) (sym l) s;
      handed = e ∙ t.handed;
      there = subst (λ (l : List (Option (List ℕ))). HasBytes (get_or l index None) used picture) (sym k) t.there;
    }
