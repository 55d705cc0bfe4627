-- What a call on a desk came to: one step of the device, whose reply is told, and payloads that still fit. The core's contract
-- gives the step; a payload that was taken is the one that the step handed out.
use Rattle.std.proofs.Common.{ℕ, zero, suc, ◌≡◌, ◌<◌, ◌≤◌, nat_lt, eqb, eq-eqb, ltb-true, Bool, true, false, cond, ◌&&◌, is_none, is_some, Option, Some, None}
use Rattle.std.proofs.Common.{List, [], ◌∷◌, ◌++◌, length, take, get_or, set, refl, sym, ap, ◌∙◌, subst, arith, get_or-set_same}
use Rattle.std.specs.Option.{option_map}
use Rattle.std.proofs.lemmas.Bool.{false≢true}
use Rattle.vc_base.specs.declared.Side.TheVariants.{Out, Cap}
use Rattle.vc_base.specs.declared.Stamp.{Stamp}
use Rattle.vc_base.specs.declared.Errno.{Errno}
use Rattle.vc_base.specs.declared.Errno.TheVariants.{NoEnt, Again, NoMem, Busy, Inval, NoTty, Pipe}
use Rattle.vc_base.specs.declared.Call.{Call}
use Rattle.vc_base.specs.declared.Call.TheVariants.{Open, Close, EnumFmt, GetFmt, TryFmt, SetFmt, ReqBufs, CreateBufs, QueryBuf, QBuf, DqBuf, StreamOn, StreamOff, Subscribe, Unsubscribe, DqEvent, DecCmd, EncCmd, GetCtrl, SetCtrl, Poll}
use Rattle.vc_base.specs.declared.Reply.{Reply}
use Rattle.vc_base.specs.declared.Reply.TheVariants.{Done, Desc, Fmt, Count, Created, Info, Taken, Happened, Value, Ready, Refused, Blocked}
use Rattle.vc_base.specs.declared.Side.{Side}
use Rattle.vc_base.specs.Buffers.{Buffer, QueueState, with_index, is_empty, held_again, take_front, dqbuf_refusal, dqbuf_after, lend_front, lend_after, retire_from, retire_after, zero_stamp}
use Rattle.vc_base.specs.Limits.{last_flag}
use Rattle.vc_base.specs.Device.{DeviceEvent, call}
use Rattle.vc_model.specs.Coder.{the_coder}
use Rattle.vc_model.specs.Context.{Context, Slot, Cause, drain, change, PhaseState, run, owe, last, stopped, is_run, is_drained, with_queue, raise_end, give_last, settle, settle_drain, settle_last}
use Rattle.vc_model.specs.CoreSound.{IsSoundCoreSlot}
use Rattle.vc_model.proofs.CoresAreSound.{cores_are_sound}
use Rattle.vc_model.specs.Answer.{Answer, unless_or_block, taken_answer, after_taking, stop_at_last, is_ended, closed_answer, context_answer, answer}
use Rattle.vc_model.specs.Solo.{Answered}
use Rattle.vc_model.specs.Devices.{Told, slot_of, with_slot, call_answered, ignored}
use Rattle.vc_model.specs.Standing.{CoreState}
use Rattle.vc_model.specs.Core.{core_call}
use Rattle.vc_model.specs.Script.{HasUsedBytes}
use Rattle.vc_queue.specs.Holds.{HoldState, held_payload}
use Rattle.vc_context.specs.Payloads.{FitsSlot, Moves, HandsOut, handed_out, front_bytes, empty_hold, handed_over}
use Rattle.vc_core.specs.Steps.{IsCall}
use Rattle.vc_core.specs.declared.job.Job.{Job}
use Rattle.vc_desk.specs.declared.desk.Desk.{Desk}
use Rattle.vc_desk.specs.Desks.{IsAt, IsTaken, front_is, filled, CallDone}
use Rattle.vc_desk.proofs.CallsOnHeldPayloads.{held_below}
use Rattle.vc_desk.proofs.StepsKeepDesks.{call_made}

block_bytes :
    (c : Context) (o : Option Errno) (block : Bool) (a : Answer) (index used flags seq : ℕ) (stamp : Stamp) (bytes : List ℕ)
    → (a.reply ≡ Taken index used flags seq stamp → a.bytes ≡ bytes) → (unless_or_block c o block a).reply ≡ Taken index used flags seq stamp
    → (unless_or_block c o block a).bytes ≡ bytes
block_bytes c None block a index used flags seq stamp bytes h e = h e
block_bytes c (Some Again) true a index used flags seq stamp bytes h e = absurd (cc)
block_bytes c (Some Again) false a index used flags seq stamp bytes h e = absurd (cc)
block_bytes c (Some NoEnt) true a index used flags seq stamp bytes h e = absurd (cc)
block_bytes c (Some NoEnt) false a index used flags seq stamp bytes h e = absurd (cc)
block_bytes c (Some NoMem) block a index used flags seq stamp bytes h e = absurd (cc)
block_bytes c (Some Busy) block a index used flags seq stamp bytes h e = absurd (cc)
block_bytes c (Some Inval) block a index used flags seq stamp bytes h e = absurd (cc)
block_bytes c (Some NoTty) block a index used flags seq stamp bytes h e = absurd (cc)
block_bytes c (Some Pipe) block a index used flags seq stamp bytes h e = absurd (cc)

front_taken : (c : Context) (done : List Buffer) (index used flags seq : ℕ) (stamp : Stamp) → (taken_answer c Cap done).reply ≡ Taken index used flags seq stamp → (taken_answer c Cap done).bytes ≡ front_bytes done
front_taken c [] index used flags seq stamp e = absurd (cc)
front_taken c (b ∷ rest) index used flags seq stamp e = refl

taken_bytes :
    (s : Slot) (block : Bool) (bytes : List ℕ) (found : Bool) (index used flags seq : ℕ) (stamp : Stamp)
    → (answer s (DqBuf Cap block) bytes found).reply ≡ Taken index used flags seq stamp
    → (answer s (DqBuf Cap block) bytes found).bytes ≡ handed_out s Cap
unfolding answer closed_answer context_answer
taken_bytes None block bytes found index used flags seq stamp e = absurd (cc)
taken_bytes (Some c) block bytes found index used flags seq stamp e =
    block_bytes c (dqbuf_refusal c.cap (is_ended c Cap)) block (taken_answer c Cap c.cap.done) index used flags seq stamp (front_bytes c.cap.done) (front_taken c c.cap.done index used flags seq stamp) e

set_there : (xs : List (Option (List ℕ))) (i : ℕ) (payload p : List ℕ) → get_or (set xs i (Some payload)) i None ≡ Some p → p ≡ payload
set_there [] i payload p e = absurd (cc)
set_there (x ∷ xs) zero payload p e = cc
set_there (x ∷ xs) (suc i) payload p e = set_there xs i payload p e

front_there :
    (used : ℕ) (handed payload : List ℕ) (xs : List (Option (List ℕ))) (i : ℕ) → used ≤ length payload → take used payload ≡ handed
    → (o : Option (List ℕ)) → is_some o ≡ true → get_or (set xs i (Some payload)) i None ≡ o → front_is used handed o
front_there used handed payload xs i l e None t q = absurd (false≢true t)
front_there used handed payload xs i l e (Some p) t q =
    let same = set_there xs i payload p q in
    (subst (λ x. used ≤ length x) (sym same) l, ap (take used) same ∙ e)

handed_there :
    (s : Slot) (index used flags seq : ℕ) (stamp : Stamp) (handed : List ℕ) (old new : HoldState)
    → HandsOut Cap index used flags (handed_out s Cap) old new → is_some (held_payload new Cap index) ≡ true → handed ≡ handed_out s Cap
    → front_is used handed (held_payload new Cap index)
handed_there s index used flags seq stamp handed old new h t e =
    let t2 : is_some (get_or (set old.cap index (Some h.payload)) index None) ≡ true = ap (λ (n : HoldState). is_some (held_payload n Cap index)) (sym h.moved) ∙ t in
    subst (λ n. front_is used handed (held_payload n Cap index)) (sym h.moved) (front_there used handed h.payload old.cap index h.room (h.begins ∙ sym e) (get_or (set old.cap index (Some h.payload)) index None) t2 refl)

-- the buffer that was taken from CAPTURE is held

drain_held : (x : Context) (b : Bool) → (cond b (record x { phase = owe drain }) x).cap.held ≡ x.cap.held
drain_held x true = refl
drain_held x false = refl

lent_held : (q : QueueState) (bs : List Buffer) → (lend_front q bs).held ≡ q.held
lent_held q [] = refl
lent_held q (b ∷ rest) = refl

retired_held : (q : QueueState) (bs : List Buffer) (used : ℕ) (bytes : List ℕ) (flags : ℕ) (stamp : Stamp) → (retire_from q bs used bytes flags stamp).held ≡ q.held
retired_held q [] used bytes flags stamp = refl
retired_held q (b ∷ rest) used bytes flags stamp = refl

raised_held : (x : Context) (cause : Cause) → (raise_end cause x).cap ≡ x.cap
raised_held x drain = refl
raised_held x change = refl

given_held : (x : Context) (cause : Cause) (ready : List Buffer) → (give_last x cause ready).cap.held ≡ x.cap.held
given_held x cause [] = refl
given_held x cause (b ∷ rest) =
    let q : QueueState = lend_after x.cap in
    ap (λ y. y.held) (raised_held (record x { cap = retire_after q 0 [] last_flag zero_stamp; phase = last cause }) cause) ∙ (retired_held q q.job 0 [] last_flag zero_stamp ∙ lent_held x.cap x.cap.ready)

last_held : (x : Context) (p : PhaseState) → (settle_last x p).cap.held ≡ x.cap.held
last_held x run = refl
last_held x (owe cause) = given_held x cause x.cap.ready
last_held x (last cause) = refl
last_held x (stopped cause) = refl

settled_held : (x : Context) → (settle x).cap.held ≡ x.cap.held
unfolding settle
settled_held x =
    last_held (settle_drain x) (settle_drain x).phase ∙ drain_held x (is_run x.phase && (x.cap.streams && (is_none x.running && is_drained x.out.ready x.mark)))

stopped_held : (x : Context) (p : PhaseState) (emptied : Bool) → (stop_at_last x p emptied).cap ≡ x.cap
stopped_held x (last drain) true = refl
stopped_held x (last change) true = refl
stopped_held x (last drain) false = refl
stopped_held x (last change) false = refl
stopped_held x run emptied = refl
stopped_held x (owe cause) emptied = refl
stopped_held x (stopped cause) emptied = refl

found_end : (bs : List Buffer) (b : Buffer) (index : ℕ) → b.index ≡ index → is_some (with_index index (bs ++ b ∷ [])) ≡ true
found_end bs b index e = subst (λ i. is_some (with_index i (bs ++ b ∷ [])) ≡ true) e (end_at bs)
  where
    at_b : (t : Bool) → t ≡ true → is_some (cond t (Some b) None) ≡ true
    at_b true e = refl
    at_b false e = absurd (false≢true e)

    end_next : (t : Bool) (x : Buffer) (o : Option Buffer) → is_some o ≡ true → is_some (cond t (Some x) o) ≡ true
    end_next true x o h = refl
    end_next false x o h = h

    end_at : (xs : List Buffer) → is_some (with_index b.index (xs ++ b ∷ [])) ≡ true
    end_at [] = at_b (eqb b.index b.index) (eq-eqb b.index b.index refl)
    end_at (x ∷ xs) = end_next (eqb x.index b.index) x (with_index b.index (xs ++ b ∷ [])) (end_at xs)

-- the slot after the answer, whose CAPTURE queue holds the buffer
IsHeldIn : ℕ → Slot → Type 0
IsHeldIn index None = ⊥
IsHeldIn index (Some x) = is_some (with_index index x.cap.held) ≡ true

front_held : (c : Context) (done : List Buffer) (index used flags seq : ℕ) (stamp : Stamp) → c.cap.done ≡ done → (taken_answer c Cap done).reply ≡ Taken index used flags seq stamp → IsHeldIn index (taken_answer c Cap done).slot
unfolding IsHeldIn
front_held c [] index used flags seq stamp d e = absurd (cc)
front_held c (b ∷ rest) index used flags seq stamp d e =
    let x : Context = with_queue c Cap (dqbuf_after c.cap) in
    let y : Context = after_taking x Cap in
    let number : b.index ≡ index = cc in
    let held : (settle y).cap.held ≡ c.cap.held ++ held_again b ∷ [] = settled_held y ∙ (ap (λ q. q.held) (stopped_held x x.phase (is_empty x.cap.done)) ∙ ap (λ ds. (take_front c.cap ds).held) d) in
    ap (λ bs. is_some (with_index index bs)) held ∙ found_end c.cap.held (held_again b) index number

block_held :
    (c : Context) (o : Option Errno) (block : Bool) (a : Answer) (index used flags seq : ℕ) (stamp : Stamp)
    → (a.reply ≡ Taken index used flags seq stamp → IsHeldIn index a.slot) → (unless_or_block c o block a).reply ≡ Taken index used flags seq stamp
    → IsHeldIn index (unless_or_block c o block a).slot
block_held c None block a index used flags seq stamp h e = h e
block_held c (Some Again) true a index used flags seq stamp h e = absurd (cc)
block_held c (Some Again) false a index used flags seq stamp h e = absurd (cc)
block_held c (Some NoEnt) true a index used flags seq stamp h e = absurd (cc)
block_held c (Some NoEnt) false a index used flags seq stamp h e = absurd (cc)
block_held c (Some NoMem) block a index used flags seq stamp h e = absurd (cc)
block_held c (Some Busy) block a index used flags seq stamp h e = absurd (cc)
block_held c (Some Inval) block a index used flags seq stamp h e = absurd (cc)
block_held c (Some NoTty) block a index used flags seq stamp h e = absurd (cc)
block_held c (Some Pipe) block a index used flags seq stamp h e = absurd (cc)

taken_held :
    (s : Slot) (block : Bool) (bytes : List ℕ) (found : Bool) (index used flags seq : ℕ) (stamp : Stamp)
    → (answer s (DqBuf Cap block) bytes found).reply ≡ Taken index used flags seq stamp → IsHeldIn index (answer s (DqBuf Cap block) bytes found).slot
unfolding answer closed_answer context_answer
taken_held None block bytes found index used flags seq stamp e = absurd (cc)
taken_held (Some c) block bytes found index used flags seq stamp e =
    block_held c (dqbuf_refusal c.cap (is_ended c Cap)) block (taken_answer c Cap c.cap.done) index used flags seq stamp (front_held c c.cap.done index used flags seq stamp refl) e

some_there : (o : Option Buffer) (p : Option (List ℕ)) → is_some o ≡ true → option_map length p ≡ option_map (λ (b : Buffer). b.size) o → is_some p ≡ true
some_there None p t e = absurd (false≢true t)
some_there (Some b) None t e = absurd (cc)
some_there (Some b) (Some p) t e = refl

some_is : (o : Option Buffer) → is_some o ≡ true → (b : Buffer) × (o ≡ Some b)
some_is None t = absurd (false≢true t)
some_is (Some b) t = (b, refl)

-- the payload of a buffer that a sound context holds is there
payload_there : (s : Slot) (index : ℕ) (hold : HoldState) → IsHeldIn index s → IsSoundCoreSlot s → FitsSlot s hold → is_some (held_payload hold Cap index) ≡ true
unfolding IsHeldIn
payload_there None index hold t sound fits = absurd t
payload_there (Some x) index hold t sound fits =
    let b = some_is (with_index index x.cap.held) t in
    let below : index < 32 = held_below x.cap index b.0 sound.cap.once sound.fit.few_cap b.1 in
    some_there (with_index index x.cap.held) (held_payload hold Cap index) t
    (subst (λ (side : Side). option_map length (held_payload hold side index) ≡ option_map (λ (y : Buffer). y.size) (with_index index x.cap.held)) sound.cap_side (fits.cap index below))

moved_taken :
    (s : Slot) (request : Call) (told : Reply) (old new : HoldState) (bytes handed : List ℕ) (found : Bool)
    → IsSoundCoreSlot (answer s request bytes found).slot → FitsSlot (answer s request bytes found).slot new → Moves s request told old new
    → (answer s request bytes found).reply ≡ told → (answer s request bytes found).bytes ≡ handed → IsTaken request told handed new
moved_taken s (DqBuf Cap block) (Taken index used flags seq stamp) old new bytes handed found w f m r b =
    handed_there s index used flags seq stamp handed old new m
    (payload_there (answer s (DqBuf Cap block) bytes found).slot index new (taken_held s block bytes found index used flags seq stamp r) w f)
    (sym b ∙ taken_bytes s block bytes found index used flags seq stamp r)
moved_taken s (DqBuf Cap block) Done old new bytes handed found w f m r b = tt
moved_taken s (DqBuf Cap block) (Desc fourcc) old new bytes handed found w f m r b = tt
moved_taken s (DqBuf Cap block) (Fmt format) old new bytes handed found w f m r b = tt
moved_taken s (DqBuf Cap block) (Count count) old new bytes handed found w f m r b = tt
moved_taken s (DqBuf Cap block) (Created index count) old new bytes handed found w f m r b = tt
moved_taken s (DqBuf Cap block) (Info index size flags) old new bytes handed found w f m r b = tt
moved_taken s (DqBuf Cap block) (Happened event seq changes pending) old new bytes handed found w f m r b = tt
moved_taken s (DqBuf Cap block) (Value value) old new bytes handed found w f m r b = tt
moved_taken s (DqBuf Cap block) (Ready read write urgent) old new bytes handed found w f m r b = tt
moved_taken s (DqBuf Cap block) (Refused errno) old new bytes handed found w f m r b = tt
moved_taken s (DqBuf Cap block) Blocked old new bytes handed found w f m r b = tt
moved_taken s (Open kind) told old new bytes handed found w f m r b = tt
moved_taken s Close told old new bytes handed found w f m r b = tt
moved_taken s (EnumFmt side index) told old new bytes handed found w f m r b = tt
moved_taken s (GetFmt side) told old new bytes handed found w f m r b = tt
moved_taken s (TryFmt side want) told old new bytes handed found w f m r b = tt
moved_taken s (SetFmt side want) told old new bytes handed found w f m r b = tt
moved_taken s (ReqBufs side count) told old new bytes handed found w f m r b = tt
moved_taken s (CreateBufs side count size) told old new bytes handed found w f m r b = tt
moved_taken s (QueryBuf side index) told old new bytes handed found w f m r b = tt
moved_taken s (QBuf side index used stamp) told old new bytes handed found w f m r b = tt
moved_taken s (DqBuf Out block) told old new bytes handed found w f m r b = tt
moved_taken s (StreamOn side) told old new bytes handed found w f m r b = tt
moved_taken s (StreamOff side) told old new bytes handed found w f m r b = tt
moved_taken s (Subscribe event) told old new bytes handed found w f m r b = tt
moved_taken s (Unsubscribe event) told old new bytes handed found w f m r b = tt
moved_taken s (DqEvent block) told old new bytes handed found w f m r b = tt
moved_taken s (DecCmd cmd) told old new bytes handed found w f m r b = tt
moved_taken s (EncCmd cmd) told old new bytes handed found w f m r b = tt
moved_taken s (GetCtrl id) told old new bytes handed found w f m r b = tt
moved_taken s (SetCtrl id value) told old new bytes handed found w f m r b = tt
moved_taken s Poll told old new bytes handed found w f m r b = tt

-- the slot of the call after it
slot_now :
    (core : CoreState) (k : ℕ) (a : Answer) (told : Reply) (handed : List ℕ) (t : Bool) → nat_lt k (length core.slots) ≡ t
    → (cond t (call_answered core k a) (ignored core)).reply ≡ Told k (Answered told handed)
    → slot_of (cond t (call_answered core k a) (ignored core)).device k ≡ a.slot
unfolding with_slot
slot_now core k a told handed true l e =
    get_or-set_same core.slots k a.slot None (ltb-true k (length core.slots) l)
slot_now core k a told handed false l e = absurd (cc)

told_parts : (core : CoreState) (k : ℕ) (a : Answer) (told : Reply) (handed : List ℕ) (t : Bool) → (cond t (call_answered core k a) (ignored core)).reply ≡ Told k (Answered told handed) → (a.reply ≡ told) × (a.bytes ≡ handed)
told_parts core k a told handed true e = (cc, cc)
told_parts core k a told handed false e = absurd (cc)

same_default : (xs : List HoldState) (i : ℕ) (d e : HoldState) → i < length xs → get_or xs i d ≡ get_or xs i e
same_default [] i d e l = absurd (omega arith)
same_default (x ∷ xs) zero d e l = refl
same_default (x ∷ xs) (suc i) d e l = same_default xs i d e (omega arith)

pub place_is : (xs : List HoldState) (i : ℕ) (h : HoldState) → i < length xs → h ≡ get_or xs i h → h ≡ get_or xs i empty_hold
place_is xs i h l e = e ∙ same_default xs i h empty_hold l

set_default : (xs : List HoldState) (i : ℕ) (h : HoldState) → i < length xs → get_or (set xs i h) i empty_hold ≡ h
set_default [] i h l = absurd (omega arith)
set_default (x ∷ xs) zero h l = refl
set_default (x ∷ xs) (suc i) h l = set_default xs i h (omega arith)

-- the same call over an equal hold
moved_call : (core now : CoreState) (k : ℕ) (request : Call) (told : Reply) (old new : HoldState) → old ≡ new → IsCall core k request old told now → IsCall core k request new told now
moved_call core now k request told old new e is =
    record {
      found = is.found;
      handed = is.handed;
      reply = subst (λ h. (core_call core k request (handed_over request h) is.found).reply ≡ Told k (Answered told is.handed)) e is.reply;
      device = subst (λ h. (core_call core k request (handed_over request h) is.found).device ≡ now) e is.device;
      want = is.want;
    }

pub call_done :
    (n : ℕ) (history : List DeviceEvent) (core now : CoreState) (holds : List HoldState) (jobs : List (Option Job)) (desk : Desk) (k : ℕ)
    (request : Call) (bytes : List ℕ) (told : Reply) (first filled_hold hold : HoldState)
    → desk.core ≡ now → desk.holds.items ≡ set holds k hold → desk.jobs.items ≡ jobs → k < length core.slots → first ≡ get_or holds k first
    → filled_hold ≡ filled request bytes first → IsCall core k request filled_hold told now → Moves (slot_of core k) request told filled_hold hold
    → length now.slots ≡ length core.slots → now.workers ≡ core.workers → FitsSlot (slot_of now k) hold → IsAt n history core holds jobs
    → HasUsedBytes request bytes → CallDone n history k request bytes told desk
unfolding moved_call
call_done n history core now holds jobs desk k request bytes told first filled_hold hold e1 e2 e3 l place fills is moves size crew fit at used =
    let l2 : k < length holds = omega (arith, l, at.slots, at.users) in
    let same : filled_hold ≡ filled request bytes (get_or holds k empty_hold) = fills ∙ ap (filled request bytes) (place_is holds k first l2 place) in
    let made =
    call_made n history core now holds jobs k request bytes told hold at (omega (arith, l, at.slots)) used
    (moved_call core now k request told filled_hold (filled request bytes (get_or holds k empty_hold)) same is) size crew fit in
    let here : slot_of now k ≡ (answer (slot_of core k) request (handed_over request filled_hold) is.found).slot =
    ap (λ c. slot_of c k) (sym is.device) ∙ slot_now core k (answer (slot_of core k) request (handed_over request filled_hold) is.found) told is.handed (nat_lt k (length core.slots)) refl is.reply in
    let sound : IsSoundCoreSlot (answer (slot_of core k) request (handed_over request filled_hold) is.found).slot =
    subst IsSoundCoreSlot here (cores_are_sound the_coder n 16 now (history ++ call k request bytes made.found ∷ []) k made.at.stands) in
    let fits : FitsSlot (answer (slot_of core k) request (handed_over request filled_hold) is.found).slot hold = subst (λ x. FitsSlot x hold) here fit in
    let parts = told_parts core k (answer (slot_of core k) request (handed_over request filled_hold) is.found) told is.handed (nat_lt k (length core.slots)) is.reply in
    record {
      found = made.found;
      handed = made.handed;
      want = made.want;
      reply = made.reply;
      at =
          subst (λ c. IsAt n (history ++ call k request bytes made.found ∷ []) c desk.holds.items desk.jobs.items) (sym e1)
          (subst (λ h. IsAt n (history ++ call k request bytes made.found ∷ []) now h desk.jobs.items) (sym e2)
          (subst (IsAt n (history ++ call k request bytes made.found ∷ []) now (set holds k hold)) (sym e3) made.at));
      taken =
          subst (λ h. IsTaken request told made.handed (get_or h k empty_hold)) (sym e2)
          (subst (IsTaken request told made.handed) (sym (set_default holds k hold l2))
          (moved_taken (slot_of core k) request told filled_hold hold (handed_over request filled_hold) made.handed is.found sound fits moves parts.0 (parts.1 ∙ sym made.same_handed)));
    }
