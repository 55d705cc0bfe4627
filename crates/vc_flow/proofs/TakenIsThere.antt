-- The payload of a CAPTURE buffer that was taken. The user has it, it is as long as the bytes that are used, and it begins with
-- what the call handed out.
use Rattle.std.proofs.Common.{ℕ, suc, zero, ◌≡◌, ◌≤◌, List, [], ◌∷◌, length, get_or, set, Bool, Option, Some, None, sym, ap, subst}
use Rattle.vc_base.specs.declared.Stamp.{Stamp}
use Rattle.vc_base.specs.declared.Side.TheVariants.{Cap}
use Rattle.vc_base.specs.declared.Call.TheVariants.{DqBuf}
use Rattle.vc_base.specs.declared.Reply.TheVariants.{Taken}
use Rattle.vc_model.specs.Solo.{SoloEvent}
use Rattle.vc_queue.specs.Holds.{HoldState, held_payload}
use Rattle.vc_context.specs.Payloads.{FitsSlot}
use Rattle.vc_port.specs.Payloads.{slot_after, IsCallOn}
use Rattle.vc_port.specs.Laws.{BeginsWith}
use Rattle.vc_port.proofs.TakenIsHandedOut.{taken_is_handed_out}
use Rattle.vc_flow.specs.Buffers.{IsThere, HasBytes}

set_there : (xs : List (Option (List ℕ))) (i : ℕ) (payload p : List ℕ) → get_or (set xs i (Some payload)) i None ≡ Some p → p ≡ payload
set_there [] i payload p e = absurd (cc)
set_there (x ∷ xs) zero payload p e = cc
set_there (x ∷ xs) (suc i) payload p e = set_there xs i payload p e

there_at : (used : ℕ) (handed payload : List ℕ) (xs : List (Option (List ℕ))) (i : ℕ) → used ≤ length payload →
    (o : Option (List ℕ)) → BeginsWith o used handed → get_or (set xs i (Some payload)) i None ≡ o → IsThere o used
there_at used handed payload xs i l None b q = absurd b
there_at used handed payload xs i l (Some p) b q =
    subst (λ (z : List ℕ). used ≤ length z) (sym (set_there xs i payload p q)) l

pub begins : (used : ℕ) (handed : List ℕ) (o : Option (List ℕ)) → BeginsWith o used handed → HasBytes o used handed
begins used handed None b = b
begins used handed (Some p) b = b

pub there : (old new : List SoloEvent) (before after : HoldState) (block : Bool) (index used flags seq : ℕ) (stamp : Stamp) →
    IsCallOn old before (DqBuf Cap block) (Taken index used flags seq stamp) new after → FitsSlot (slot_after new) after →
    IsThere (held_payload after Cap index) used
there old new before after block index used flags seq stamp c fits =
    let b = taken_is_handed_out old new before after block index used flags seq stamp c fits in
    there_at used c.handed c.moves.payload before.cap index c.moves.room (held_payload after Cap index) b (ap (λ (h : HoldState). held_payload h Cap index) (sym c.moves.moved))
