-- What is put into a held payload before a call, and what the call makes of it. Only a QBuf on OUTPUT whose buffer is held and has
-- room is filled, and the lengths of payloads stay, so what was held still fits its slot.
use Rattle.std.proofs.Common.{ℕ, zero, suc, ◌≡◌, ◌<◌, ◌≤◌, ◌+◌, ◌==◌, eqb, nat_lt, nat_le, Bool, true, false, cond, not, Option, Some, None, List, [], ◌∷◌}
use Rattle.std.proofs.Common.{◌++◌, length, take, drop, filter, get_or, set, refl, sym, ap, ◌∙◌, subst, arith, get_or-set_same, get_or-set_other, length-append}
use Rattle.std.proofs.Common.{length-drop}
use Rattle.std.specs.Option.{option_map}
use Rattle.std.proofs.Math.Seq.{take-append_seam}
use Rattle.std.proofs.lemmas.Bool.{eqb-true, eqb-false, ltb-true, false≢true}
use Rattle.vc_base.specs.declared.Side.{Side}
use Rattle.vc_base.specs.declared.Side.TheVariants.{Out, Cap}
use Rattle.vc_base.specs.declared.Stamp.{Stamp}
use Rattle.vc_base.specs.declared.Errno.TheVariants.{Inval}
use Rattle.vc_base.specs.declared.Reply.TheVariants.{Done}
use Rattle.vc_base.specs.declared.Call.{Call}
use Rattle.vc_base.specs.declared.Call.TheVariants.{Open, Close, EnumFmt, GetFmt, TryFmt, SetFmt, ReqBufs, CreateBufs, QueryBuf, QBuf, DqBuf, StreamOn, StreamOff, Subscribe, Unsubscribe, DqEvent, DecCmd, EncCmd, GetCtrl, SetCtrl, Poll}
use Rattle.vc_base.specs.Buffers.{Buffer, QueueState, buffers, buffer_count, new_queue, with_index, held_refusal, refuse_if, queue_held, queued_buffer}
use Rattle.vc_model.specs.Context.{Context, Slot, sizeimage, with_queue}
use Rattle.vc_model.specs.Answer.{Answer, refused, answered, unless, is_no_whole_picture, context_answer, answer}
use Rattle.vc_model.specs.CoreSound.{IsSoundInCore, IsSoundCoreSlot}
use Rattle.vc_model.specs.Sound.{count_index, OnceEach}
use Rattle.vc_model.specs.Script.{HasUsedBytes}
use Rattle.vc_model.proofs.QueuesKeepSound.{count_parts}
use Rattle.vc_queue.specs.Holds.{HoldState, held_payload, with_payload, written_over, Fits}
use Rattle.vc_queue.specs.Answers.{queued_bytes}
use Rattle.vc_queue.specs.Cells.{bytes_or_none}
use Rattle.vc_context.specs.Payloads.{FitsContext, FitsSlot, handed_over}
use Rattle.vc_desk.specs.Desks.{has_room, filled_at, filled}

-- Filled payloads

SameSizes : HoldState → HoldState → Type 0
SameSizes h new = (side : Side) (i : ℕ) → option_map length (held_payload new side i) ≡ option_map length (held_payload h side i)

there : (xs : List (Option (List ℕ))) (i : ℕ) (p : List ℕ) → get_or xs i None ≡ Some p → i < length xs
there [] i p e = absurd (cc)
there (x ∷ xs) zero p e = omega arith
there (x ∷ xs) (suc i) p e = let h = there xs i p e in omega arith

at_place :
    (xs : List (Option (List ℕ))) (i k : ℕ) (p new : List ℕ) → get_or xs i None ≡ Some p → length new ≡ length p → (b : Bool) → eqb i k ≡ b
    → option_map length (get_or (set xs i (Some new)) k None) ≡ option_map length (get_or xs k None)
at_place xs i k p new e l true q =
    subst (λ y. option_map length (get_or (set xs i (Some new)) y None) ≡ option_map length (get_or xs y None)) (eqb-true i k q)
    (ap (option_map length) (get_or-set_same xs i (Some new) None (there xs i p e)) ∙ (ap Some l ∙ sym (ap (option_map length) e)))
at_place xs i k p new e l false q =
    ap (option_map length) (get_or-set_other xs i k (Some new) None (λ (z : k ≡ i). eqb-false i k q (sym z)))

le_of : (a b : ℕ) → nat_le a b ≡ true → a ≤ b
le_of a b e = grind arith

written_length : (bytes p : List ℕ) → nat_le (length bytes) (length p) ≡ true → length (bytes ++ drop (length bytes) p) ≡ length p
written_length bytes p e =
    omega (arith, le_of (length bytes) (length p) e, length-append bytes (drop (length bytes) p), length-drop (length bytes) p)

filled_with : (hold : HoldState) (index : ℕ) (bytes : List ℕ) (p : Option (List ℕ)) → held_payload hold Out index ≡ p → (b : Bool) → has_room p bytes ≡ b → SameSizes hold (cond b (with_payload hold Out index (written_over p bytes)) hold)
unfolding SameSizes
filled_with hold index bytes p e false r side i = refl
filled_with hold index bytes None e true r side i = absurd (false≢true r)
filled_with hold index bytes (Some p) e true r Cap i = refl
filled_with hold index bytes (Some p) e true r Out i =
    at_place hold.out index i p (bytes ++ drop (length bytes) p) e (written_length bytes p r) (eqb index i) refl

filled_sizes : (hold : HoldState) (index : ℕ) (bytes : List ℕ) → SameSizes hold (filled_at hold index bytes)
filled_sizes hold index bytes = filled_with hold index bytes (held_payload hold Out index) refl (has_room (held_payload hold Out index) bytes) refl

fits_same : (q : QueueState) (h new : HoldState) → SameSizes h new → Fits q h → Fits q new
unfolding SameSizes
fits_same q h new s f i l = s q.side i ∙ f i l

slot_same : (s : Slot) (h new : HoldState) → SameSizes h new → FitsSlot s h → FitsSlot s new
slot_same None h new s f = record { out = fits_same (new_queue Out) h new s f.out; cap = fits_same (new_queue Cap) h new s f.cap }
slot_same (Some c) h new s f = record { out = fits_same c.out h new s f.out; cap = fits_same c.cap h new s f.cap }

same_sizes : (h : HoldState) → SameSizes h h
unfolding SameSizes
same_sizes h side i = refl

filled_same : (request : Call) (bytes : List ℕ) (hold : HoldState) → SameSizes hold (filled request bytes hold)
filled_same (QBuf Out index used stamp) bytes hold = filled_sizes hold index bytes
filled_same (QBuf Cap index used stamp) bytes hold = same_sizes hold
filled_same (Open kind) bytes hold = same_sizes hold
filled_same Close bytes hold = same_sizes hold
filled_same (EnumFmt side index) bytes hold = same_sizes hold
filled_same (GetFmt side) bytes hold = same_sizes hold
filled_same (TryFmt side want) bytes hold = same_sizes hold
filled_same (SetFmt side want) bytes hold = same_sizes hold
filled_same (ReqBufs side count) bytes hold = same_sizes hold
filled_same (CreateBufs side count size) bytes hold = same_sizes hold
filled_same (QueryBuf side index) bytes hold = same_sizes hold
filled_same (DqBuf side block) bytes hold = same_sizes hold
filled_same (StreamOn side) bytes hold = same_sizes hold
filled_same (StreamOff side) bytes hold = same_sizes hold
filled_same (Subscribe event) bytes hold = same_sizes hold
filled_same (Unsubscribe event) bytes hold = same_sizes hold
filled_same (DqEvent block) bytes hold = same_sizes hold
filled_same (DecCmd cmd) bytes hold = same_sizes hold
filled_same (EncCmd cmd) bytes hold = same_sizes hold
filled_same (GetCtrl id) bytes hold = same_sizes hold
filled_same (SetCtrl id value) bytes hold = same_sizes hold
filled_same Poll bytes hold = same_sizes hold

pub filled_fits : (s : Slot) (request : Call) (bytes : List ℕ) (hold : HoldState) → FitsSlot s hold → FitsSlot s (filled request bytes hold)
filled_fits s request bytes hold f = slot_same s hold (filled request bytes hold) (filled_same request bytes hold) f

-- What is handed over is what the line says, or the call is refused.

found_counts : (bs : List Buffer) (i : ℕ) (b : Buffer) → with_index i bs ≡ Some b → 1 ≤ count_index bs i
found_counts [] i b e = absurd (cc)
found_counts (x ∷ bs) i b e = split (x.index == i) (found_counts bs i b) e
  where
    split : (t : Bool) → (with_index i bs ≡ Some b → 1 ≤ count_index bs i) → cond t (Some x) (with_index i bs) ≡ Some b → 1 ≤ cond t 1 0 + count_index bs i
    split true h p = omega arith
    split false h p = let l = h p in omega (arith, l)

below : (n i count : ℕ) → n ≡ cond (nat_lt i count) 1 0 → 1 ≤ n → i < count
below n i count e h = split (nat_lt i count) refl e
  where
    split : (t : Bool) → nat_lt i count ≡ t → n ≡ cond t 1 0 → i < count
    split true p q = ltb-true i count p
    split false p q = absurd (omega arith)

pub held_below : (q : QueueState) (i : ℕ) (b : Buffer) → OnceEach q → buffer_count q ≤ 32 → with_index i q.held ≡ Some b → i < 32
held_below q i b once few e =
    let h = found_counts q.held i b e in
    let l = below (count_index (buffers q) i) i (buffer_count q) (once i) (omega (arith, h, count_parts q.held q.ready q.job q.done i)) in
    omega (arith, l, few)

abbrev queue_answer : Context → ℕ → Option Buffer → ℕ → Stamp → List ℕ → Answer
queue_answer c index o used stamp bytes =
    unless c (held_refusal c.out.side o used (sizeimage c Out)) (unless c (refuse_if (is_no_whole_picture c Out used) Inval None) (answered (with_queue c Out (queue_held c.out index o used stamp bytes)) Done))

too_short : (c : Context) (index : ℕ) (b : Buffer) (used : ℕ) (stamp : Stamp) (bytes : List ℕ) → c.out.side ≡ Out → nat_lt b.size used ≡ true → queue_answer c index (Some b) used stamp bytes ≡ refused c Inval
too_short c index b used stamp bytes side e =
    ap (λ s.
    unless c (held_refusal s (Some b) used (sizeimage c Out))
    (unless c (refuse_if (is_no_whole_picture c Out used) Inval None) (answered (with_queue c Out (queue_held c.out index (Some b) used stamp bytes)) Done)))
    side
    ∙ ap (λ t.
    unless c (refuse_if t Inval (refuse_if (nat_lt b.size (sizeimage c Out)) Inval None))
    (unless c (refuse_if (is_no_whole_picture c Out used) Inval None) (answered (with_queue c Out (queue_held c.out index (Some b) used stamp bytes)) Done)))
    e

not_le : (a b : ℕ) → nat_le a b ≡ false → nat_lt b a ≡ true
not_le a b e = grind arith

written_bytes : (xs : List (Option (List ℕ))) (i : ℕ) (bytes p : List ℕ) → get_or xs i None ≡ Some p → take (length bytes) (bytes_or_none (get_or (set xs i (Some (bytes ++ drop (length bytes) p))) i None)) ≡ bytes
written_bytes xs i bytes p e =
    ap (λ o. take (length bytes) (bytes_or_none o)) (get_or-set_same xs i (Some (bytes ++ drop (length bytes) p)) None (there xs i p e)) ∙ take-append_seam bytes (drop (length bytes) p)

room_same :
    (c : Context) (index used : ℕ) (stamp : Stamp) (bytes : List ℕ) (hold : HoldState) (b : Buffer) (p : List ℕ) → length bytes ≡ used
    → c.out.side ≡ Out → held_payload hold Out index ≡ Some p → length p ≡ b.size → (t : Bool) → has_room (Some p) bytes ≡ t
    → queue_answer c index (Some b) used stamp (queued_bytes Out (cond t (with_payload hold Out index (written_over (Some p) bytes)) hold) index used) ≡ queue_answer c index (Some b) used stamp bytes
room_same c index used stamp bytes hold b p u side e l true r =
    ap (queue_answer c index (Some b) used stamp) (subst (λ n. take n (bytes_or_none (get_or (set hold.out index (Some (bytes ++ drop (length bytes) p))) index None)) ≡ bytes) u (written_bytes hold.out index bytes p e))
room_same c index used stamp bytes hold b p u side e l false r =
    let short : nat_lt b.size used ≡ true = subst (λ n. nat_lt n used ≡ true) l (subst (λ n. nat_lt (length p) n ≡ true) u (not_le (length bytes) (length p) r)) in
    too_short c index b used stamp _ side short ∙ sym (too_short c index b used stamp bytes side short)

payload_same :
    (c : Context) (index used : ℕ) (stamp : Stamp) (bytes : List ℕ) (hold : HoldState) (b : Buffer) → length bytes ≡ used → c.out.side ≡ Out
    → (p : Option (List ℕ)) → held_payload hold Out index ≡ p → option_map length p ≡ Some b.size
    → queue_answer c index (Some b) used stamp (queued_bytes Out (cond (has_room p bytes) (with_payload hold Out index (written_over p bytes)) hold) index used)
    ≡ queue_answer c index (Some b) used stamp bytes
payload_same c index used stamp bytes hold b u side None e f = absurd (cc)
payload_same c index used stamp bytes hold b u side (Some p) e f =
    let l : length p ≡ b.size = cc in
    room_same c index used stamp bytes hold b p u side e l (has_room (Some p) bytes) refl

held_same :
    (c : Context) (index used : ℕ) (stamp : Stamp) (bytes : List ℕ) (hold : HoldState) → length bytes ≡ used → IsSoundInCore c → Fits c.out hold
    → (o : Option Buffer) → with_index index c.out.held ≡ o
    → queue_answer c index o used stamp (queued_bytes Out (filled_at hold index bytes) index used) ≡ queue_answer c index o used stamp bytes
held_same c index used stamp bytes hold u s f None e = refl
held_same c index used stamp bytes hold u s f (Some b) e =
    let i = held_below c.out index b s.out.once s.fit.few_out e in
    let p : option_map length (held_payload hold Out index) ≡ Some b.size =
    subst (λ side. option_map length (held_payload hold side index) ≡ option_map (λ x. x.size) (with_index index c.out.held)) s.out_side (f index i) ∙ ap (option_map (λ x. x.size)) e in
    payload_same c index used stamp bytes hold b u s.out_side (held_payload hold Out index) refl p

cap_same : (q : QueueState) (index : ℕ) (o : Option Buffer) (used : ℕ) (stamp : Stamp) (xs ys : List ℕ) → q.side ≡ Cap → queue_held q index o used stamp xs ≡ queue_held q index o used stamp ys
cap_same q index None used stamp xs ys e = refl
cap_same q index (Some b) used stamp xs ys e =
    ap (λ d. record q { held = filter (λ h. not (h.index == index)) q.held; ready = q.ready ++ d ∷ []; next_ordinal = q.next_ordinal + 1 })
    (ap (λ s. queued_buffer s b used stamp xs q.next_ordinal) e ∙ sym (ap (λ s. queued_buffer s b used stamp ys q.next_ordinal) e))

bytes_same :
    (c : Context) (request : Call) (bytes : List ℕ) (hold : HoldState) (found : Bool) → HasUsedBytes request bytes → IsSoundInCore c
    → FitsContext c hold → context_answer c request (handed_over request (filled request bytes hold)) found ≡ context_answer c request bytes found
unfolding context_answer
bytes_same c (QBuf Out index used stamp) bytes hold found u s f =
    held_same c index used stamp bytes hold u s f.out (with_index index c.out.held) refl
bytes_same c (QBuf Cap index used stamp) bytes hold found u s f =
    ap (λ q.
    unless c (held_refusal c.cap.side (with_index index c.cap.held) used (sizeimage c Cap)) (unless c (refuse_if (is_no_whole_picture c Cap used) Inval None) (answered (with_queue c Cap q) Done)))
    (cap_same c.cap index (with_index index c.cap.held) used stamp [] bytes s.cap_side)
bytes_same c (Open kind) bytes hold found u s f = refl
bytes_same c Close bytes hold found u s f = refl
bytes_same c (EnumFmt side index) bytes hold found u s f = refl
bytes_same c (GetFmt side) bytes hold found u s f = refl
bytes_same c (TryFmt side want) bytes hold found u s f = refl
bytes_same c (SetFmt side want) bytes hold found u s f = refl
bytes_same c (ReqBufs side count) bytes hold found u s f = refl
bytes_same c (CreateBufs side count size) bytes hold found u s f = refl
bytes_same c (QueryBuf side index) bytes hold found u s f = refl
bytes_same c (DqBuf side block) bytes hold found u s f = refl
bytes_same c (StreamOn side) bytes hold found u s f = refl
bytes_same c (StreamOff side) bytes hold found u s f = refl
bytes_same c (Subscribe event) bytes hold found u s f = refl
bytes_same c (Unsubscribe event) bytes hold found u s f = refl
bytes_same c (DqEvent block) bytes hold found u s f = refl
bytes_same c (DecCmd cmd) bytes hold found u s f = refl
bytes_same c (EncCmd cmd) bytes hold found u s f = refl
bytes_same c (GetCtrl id) bytes hold found u s f = refl
bytes_same c (SetCtrl id value) bytes hold found u s f = refl
bytes_same c Poll bytes hold found u s f = refl

pub answer_same :
    (s : Slot) (request : Call) (bytes : List ℕ) (hold : HoldState) (found : Bool) → HasUsedBytes request bytes → IsSoundCoreSlot s → FitsSlot s hold
    → answer s request (handed_over request (filled request bytes hold)) found ≡ answer s request bytes found
unfolding answer
answer_same None request bytes hold found u s f = refl
answer_same (Some c) request bytes hold found u s f = bytes_same c request bytes hold found u s f
