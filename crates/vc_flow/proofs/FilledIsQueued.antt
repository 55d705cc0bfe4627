-- What is queued from a payload that was filled. The front of the payload is what was written over it, and QBuf queues so many
-- bytes of the front.
use Rattle.std.proofs.Common.{ℕ, suc, zero, ◌≡◌, List, [], ◌∷◌, ◌++◌, length, take, drop, get_or, set, Option, Some, None, refl, sym, ap, ◌∙◌, subst}
use Rattle.vc_base.specs.declared.Stamp.{Stamp}
use Rattle.vc_base.specs.declared.Side.TheVariants.{Out}
use Rattle.vc_base.specs.declared.Call.TheVariants.{QBuf}
use Rattle.vc_base.specs.declared.Reply.TheVariants.{Done}
use Rattle.vc_model.specs.Solo.{SoloEvent}
use Rattle.vc_queue.specs.Cells.{bytes_or_none}
use Rattle.vc_queue.specs.Holds.{HoldState, held_payload, with_payload, HasRoom, written_over}
use Rattle.vc_queue.specs.Answers.{queued_bytes}
use Rattle.vc_port.specs.Payloads.{IsCallOn}
use Rattle.vc_flow.specs.Calls.{QueuesSource}

set_there : (xs : List (Option (List ℕ))) (i : ℕ) (o x : Option (List ℕ)) (p : List ℕ) → get_or xs i None ≡ Some p → get_or (set xs i x) i None ≡ x
set_there [] i o x p e = absurd (cc)
set_there (y ∷ xs) zero o x p e = refl
set_there (y ∷ xs) (suc i) o x p e = set_there xs i o x p e

front_again : (bytes rest : List ℕ) → take (length bytes) (bytes ++ rest) ≡ bytes
front_again [] rest = refl
front_again (x ∷ xs) rest = ap (λ (l : List ℕ). x ∷ l) (front_again xs rest)

filled_at : (hold : HoldState) (index : ℕ) (bytes : List ℕ) (o : Option (List ℕ)) → held_payload hold Out index ≡ o → HasRoom o bytes →
    take (length bytes) (bytes_or_none (held_payload (with_payload hold Out index (written_over o bytes)) Out index)) ≡ bytes
filled_at hold index bytes None e r = absurd r
filled_at hold index bytes (Some p) e r =
    let there = set_there hold.out index None (Some (bytes ++ drop (length bytes) p)) p e in
    ap (λ (x : Option (List ℕ)). take (length bytes) (bytes_or_none x)) there ∙ front_again bytes (drop (length bytes) p)

filled : (hold : HoldState) (index : ℕ) (bytes : List ℕ) → HasRoom (held_payload hold Out index) bytes →
    queued_bytes Out (with_payload hold Out index (written_over (held_payload hold Out index) bytes)) index (length bytes) ≡ bytes
filled hold index bytes r = filled_at hold index bytes (held_payload hold Out index) refl r

pub source_queued : (old mid new : List SoloEvent) (hold before after : HoldState) (index : ℕ) (stamp : Stamp) (bytes : List ℕ) →
    HasRoom (held_payload hold Out index) bytes →
    before ≡ with_payload hold Out index (written_over (held_payload hold Out index) bytes) → mid ≡ old →
    IsCallOn mid before (QBuf Out index (length bytes) stamp) Done new after → QueuesSource old index bytes new after
source_queued old mid new hold before after index stamp bytes r e s c =
    record {
      before = before;
      stamp = stamp;
      filled = ap (λ (h : HoldState). queued_bytes Out h index (length bytes)) e ∙ filled hold index bytes r;
      does = subst (λ (es : List SoloEvent). IsCallOn es before (QBuf Out index (length bytes) stamp) Done new after) s c;
    }
