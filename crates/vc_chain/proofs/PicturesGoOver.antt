-- What is queued from a payload that came by exchange. The payload is the other user's, and QBuf queues so many bytes of its
-- front.
use Rattle.std.proofs.Common.{ℕ, suc, zero, ◌≡◌, ◌≤◌, List, [], ◌∷◌, length, take, get_or, set, Option, Some, None, refl, sym, ap, ◌∙◌, subst, arith, length-take}
use Rattle.vc_base.specs.declared.Stamp.{Stamp}
use Rattle.vc_base.specs.declared.Side.TheVariants.{Out}
use Rattle.vc_base.specs.declared.Call.TheVariants.{QBuf}
use Rattle.vc_base.specs.declared.Reply.TheVariants.{Done}
use Rattle.vc_model.specs.Solo.{SoloEvent}
use Rattle.vc_queue.specs.Cells.{bytes_or_none}
use Rattle.vc_queue.specs.Holds.{HoldState, held_payload, with_payload, HaveOneLength}
use Rattle.vc_port.specs.Payloads.{IsCallOn}
use Rattle.vc_flow.specs.Buffers.{IsThere, HasBytes}
use Rattle.vc_flow.specs.Calls.{QueuesSource}

set_there : (xs : List (Option (List ℕ))) (i : ℕ) (x : Option (List ℕ)) (p : List ℕ) → get_or xs i None ≡ Some p → get_or (set xs i x) i None ≡ x
set_there [] i x p e = absurd (cc)
set_there (y ∷ xs) zero x p e = refl
set_there (y ∷ xs) (suc i) x p e = set_there xs i x p e

taken_long : (used : ℕ) (p bytes : List ℕ) → used ≤ length p → take used p ≡ bytes → used ≡ length bytes
taken_long used p bytes l e =
    let same = ap (λ (z : List ℕ). length z) e in omega (arith, l, same, length-take used p)

-- the payload at the place is the other one
came_over : (hold : HoldState) (index : ℕ) (mine : Option (List ℕ)) (q : List ℕ) → held_payload hold Out index ≡ mine → HaveOneLength mine (Some q) → held_payload (with_payload hold Out index (Some q)) Out index ≡ Some q
came_over hold index None q e h = absurd h
came_over hold index (Some p) q e h = set_there hold.out index (Some q) p e

pub exchanged : (old mid new : List SoloEvent) (hold before after : HoldState) (index used : ℕ) (stamp : Stamp) (payload : Option (List ℕ))
    (bytes : List ℕ) → HaveOneLength (held_payload hold Out index) payload → IsThere payload used →
    before ≡ with_payload hold Out index payload → mid ≡ old → IsCallOn mid before (QBuf Out index used stamp) Done new after →
    HasBytes payload used bytes → QueuesSource old index bytes new after
exchanged old mid new hold before after index used stamp None bytes h t e s c b = absurd b
exchanged old mid new hold before after index used stamp (Some q) bytes h t e s c b =
    let there = came_over hold index (held_payload hold Out index) q refl h in
    let long = taken_long used q bytes t b in
    let here : held_payload before Out index ≡ Some q = ap (λ (z : HoldState). held_payload z Out index) e ∙ there in
    record {
      before = before;
      stamp = stamp;
      filled = ap (λ (z : Option (List ℕ)). take (length bytes) (bytes_or_none z)) here ∙ (ap (λ (n : ℕ). take n q) (sym long) ∙ b);
      does = subst (λ (n : ℕ). IsCallOn old before (QBuf Out index n stamp) Done new after) long (subst (λ (es : List SoloEvent). IsCallOn es before (QBuf Out index used stamp) Done new after) s c);
    }

-- the used bytes of a payload
pub used_bytes : (payload : Option (List ℕ)) (used : ℕ) → IsThere payload used → (bytes : List ℕ) × HasBytes payload used bytes
used_bytes None used t = absurd t
used_bytes (Some p) used t = (take used p, refl)
