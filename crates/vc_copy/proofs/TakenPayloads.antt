-- What DqBuf of a copying context does to the payloads of the user: the payload of the front of done becomes the
-- user's, and it has room for its used bytes since the context is kept.
use Rattle.std.proofs.lemmas.Bool.{and_parts}
use Rattle.std.proofs.Common.{ℕ, ◌≡◌, ◌≤◌, leb, leb-true, arith, Bool, true, false, not, Option, Some, None, Result, List, [], ◌∷◌, length, refl, sym, ap, ◌∙◌, subst}
use Rattle.std.specs.Option.{option_map}
use Rattle.vc_base.specs.declared.Side.{Side}
use Rattle.vc_base.specs.declared.Side.TheVariants.{Out, Cap}
use Rattle.vc_base.specs.declared.Errno.{Errno}
use Rattle.vc_base.specs.declared.Errno.TheVariants.{Again, Inval, Pipe}
use Rattle.vc_base.specs.declared.Call.TheVariants.{DqBuf}
use Rattle.vc_base.specs.declared.Reply.{Reply}
use Rattle.vc_base.specs.Buffers.{Buffer, QueueState, is_empty, refuse_if, dqbuf_refusal}
use Rattle.vc_model.specs.Context.{Context}
use Rattle.vc_queue.specs.Answers.{answer_of, front_taken, HandsBack}
use Rattle.vc_queue.specs.Holds.{HoldState, Fits, held_payload}
use Rattle.vc_queue.specs.Payloads.{payload_at}
use Rattle.vc_context.specs.Contexts.{AreFilled, IsKept, taken_or_blocked}
use Rattle.vc_copy.specs.Copying.{copier_state}
use Rattle.vc_context.specs.Payloads.{FitsContext, Moves, front_bytes}

-- the payload of the front of done has room for its used bytes
front_room : (b : Buffer) (rest : List Buffer) (payload : List ℕ) → AreFilled (b ∷ rest) → length payload ≡ b.size → b.used ≤ length payload
front_room b rest payload f e =
    let h : b.used ≤ b.size = leb-true b.used b.size (and_parts (leb b.used b.size) _ f).0 in
    omega (arith, h, e)

out_at :
    (size : ℕ) (out cap : QueueState) (running block s : Bool) (ds : List Buffer) (old new : HoldState) → out.done ≡ ds → AreFilled ds
    → let o : Option Errno = refuse_if (not s) Inval (refuse_if false Pipe (refuse_if (is_empty ds) Again None)) in
    HandsBack o Out ds old new → Moves (Some (copier_state size out cap running)) (DqBuf Out block) (taken_or_blocked block (answer_of o (front_taken ds))) old new
out_at size out cap running true false ds old new e f h = h
out_at size out cap running false false ds old new e f h = h
out_at size out cap running true true [] old new e f h = h
out_at size out cap running false true [] old new e f h = h
out_at size out cap running block true (b ∷ rest) old new e f h =
    record { payload = h.0; moved = h.1; room = front_room b rest h.0 f h.2; begins = h.3 ∙ sym (ap front_bytes e) }

cap_at :
    (size : ℕ) (out cap : QueueState) (running block s : Bool) (ds : List Buffer) (old new : HoldState) → cap.done ≡ ds → AreFilled ds
    → let o : Option Errno = refuse_if (not s) Inval (refuse_if false Pipe (refuse_if (is_empty ds) Again None)) in
    HandsBack o Cap ds old new → Moves (Some (copier_state size out cap running)) (DqBuf Cap block) (taken_or_blocked block (answer_of o (front_taken ds))) old new
cap_at size out cap running true false ds old new e f h = h
cap_at size out cap running false false ds old new e f h = h
cap_at size out cap running true true [] old new e f h = h
cap_at size out cap running false true [] old new e f h = h
cap_at size out cap running block true (b ∷ rest) old new e f h =
    record { payload = h.0; moved = h.1; room = front_room b rest h.0 f h.2; begins = h.3 ∙ sym (ap front_bytes e) }

cap_stays : (o : Option Errno) (ds : List Buffer) (old new : HoldState) → HandsBack o Out ds old new → new.cap ≡ old.cap
cap_stays (Some e) ds old new h = ap (λ (x : HoldState). x.cap) h
cap_stays None [] old new h = ap (λ (x : HoldState). x.cap) h
cap_stays None (b ∷ rest) old new h = ap (λ (x : HoldState). x.cap) h.1

out_stays : (o : Option Errno) (ds : List Buffer) (old new : HoldState) → HandsBack o Cap ds old new → new.out ≡ old.out
out_stays (Some e) ds old new h = ap (λ (x : HoldState). x.out) h
out_stays None [] old new h = ap (λ (x : HoldState). x.out) h
out_stays None (b ∷ rest) old new h = ap (λ (x : HoldState). x.out) h.1

fits_cap : (q : QueueState) (old new : HoldState) → q.side ≡ Cap → new.cap ≡ old.cap → Fits q old → Fits q new
fits_cap q old new s e f i h =
    ap (λ (x : Side). option_map length (held_payload new x i)) s ∙ (ap (λ ps. option_map length (payload_at ps i)) e ∙ (ap (λ (x : Side). option_map length (held_payload old x i)) (sym s) ∙ f i h))

fits_out : (q : QueueState) (old new : HoldState) → q.side ≡ Out → new.out ≡ old.out → Fits q old → Fits q new
fits_out q old new s e f i h =
    ap (λ (x : Side). option_map length (held_payload new x i)) s ∙ (ap (λ ps. option_map length (payload_at ps i)) e ∙ (ap (λ (x : Side). option_map length (held_payload old x i)) (sym s) ∙ f i h))

module _ (size : ℕ) (out cap : QueueState) (running : Bool) (c : Context) (view : copier_state size out cap running ≡ c) (kept : IsKept c) where
  k : IsKept (copier_state size out cap running)
  k = subst (λ (x : Context). IsKept x) (sym view) kept

  pub moves_out :
      (side : Side) (block : Bool) (result : Result Reply Errno) (reply : Reply) (old new : HoldState) → side ≡ Out
      → result ≡ answer_of (dqbuf_refusal out false) (front_taken out.done) → reply ≡ taken_or_blocked block result
      → HandsBack (dqbuf_refusal out false) out.side out.done old new → Moves (Some c) (DqBuf side block) reply old new
  moves_out side block result reply old new is er et h =
      rw (is, ← view, et, er) (out_at size out cap running block out.streams out.done old new refl k.out_filled (subst (λ (s : Side). HandsBack (dqbuf_refusal out false) s out.done old new) k.out_side h))

  pub moves_cap :
      (side : Side) (block : Bool) (result : Result Reply Errno) (reply : Reply) (old new : HoldState) → side ≡ Cap
      → result ≡ answer_of (dqbuf_refusal cap false) (front_taken cap.done) → reply ≡ taken_or_blocked block result
      → HandsBack (dqbuf_refusal cap false) cap.side cap.done old new → Moves (Some c) (DqBuf side block) reply old new
  moves_cap side block result reply old new is er et h =
      rw (is, ← view, et, er) (cap_at size out cap running block cap.streams cap.done old new refl k.cap_filled (subst (λ (s : Side). HandsBack (dqbuf_refusal cap false) s cap.done old new) k.cap_side h))

  pub other_fits_out : (o : Option Errno) (old new : HoldState) (q : QueueState) → HandsBack o out.side out.done old new → FitsContext c old → Fits q new → FitsContext (copier_state size q cap running) new
  other_fits_out o old new q h f g =
      let f' = subst (λ (x : Context). FitsContext x old) (sym view) f in
      record { out = g; cap = fits_cap cap old new k.cap_side (cap_stays o out.done old new (subst (λ (s : Side). HandsBack o s out.done old new) k.out_side h)) f'.cap }

  pub other_fits_cap : (o : Option Errno) (old new : HoldState) (q : QueueState) → HandsBack o cap.side cap.done old new → FitsContext c old → Fits q new → FitsContext (copier_state size out q running) new
  other_fits_cap o old new q h f g =
      let f' = subst (λ (x : Context). FitsContext x old) (sym view) f in
      record { out = fits_out out old new k.out_side (out_stays o cap.done old new (subst (λ (s : Side). HandsBack o s cap.done old new) k.cap_side h)) f'.out; cap = g }
