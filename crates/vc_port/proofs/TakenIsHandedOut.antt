-- What DqBuf on CAPTURE gives to the user. The payload that moves into the hold is that of the buffer at the front of done,
-- which begins with the bytes that were handed out.
use Rattle.std.proofs.Common.{ℕ, zero, suc, ◌≡◌, ◌==◌, ◌&&◌, Bool, true, false, cond, List, [], ◌∷◌, ◌++◌, take, get_or, set, eq-eqb, refl, sym, ap, ◌∙◌, subst}
use Rattle.std.specs.Prelude.{Option, Some, None, is_some, is_none}
use Rattle.vc_base.specs.declared.Stamp.{Stamp}
use Rattle.vc_base.specs.declared.Side.TheVariants.{Cap}
use Rattle.vc_base.specs.declared.Errno.{Errno}
use Rattle.vc_base.specs.declared.Errno.TheVariants.{NoEnt, Again, NoMem, Busy, Inval, NoTty, Pipe}
use Rattle.vc_base.specs.declared.Call.TheVariants.{DqBuf}
use Rattle.vc_base.specs.declared.Reply.TheVariants.{Taken}
use Rattle.vc_base.specs.Buffers.{Buffer, QueueState, with_index, held_again, dqbuf_refusal, dqbuf_after, take_front, lend_front, lend_after, retire_from, retire_after, zero_stamp, is_empty}
use Rattle.vc_base.specs.Limits.{last_flag}
use Rattle.vc_model.specs.Coder.{the_coder}
use Rattle.vc_model.specs.Context.{Context, Slot, PhaseState, Cause, run, owe, last, stopped, drain, change, is_run, is_drained, settle, settle_drain, settle_last, give_last, raise_end, with_queue}
use Rattle.vc_model.specs.Answer.{Answer, answer, closed_answer, context_answer, unless_or_block, taken_answer, is_ended, after_taking, stop_at_last}
use Rattle.vc_model.specs.Solo.{SoloEvent, Called, solo_step}
use Rattle.vc_model.specs.Sound.{IsSoundSlot}
use Rattle.vc_model.proofs.FormatsAndJobsFit.{always_sound}
use Rattle.vc_queue.specs.Holds.{HoldState, held_payload, with_payload}
use Rattle.vc_context.specs.Payloads.{FitsSlot, handed_out, front_bytes}
use Rattle.vc_port.specs.Payloads.{slot_after}
use Rattle.vc_port.specs.Laws.{BeginsWith, TakenIsHandedOut}
use Rattle.vc_port.proofs.CallsHandOut.{slot-append}
use Rattle.vc_port.proofs.HeldIsThere.{held_cap}

-- Settling moves no buffer that is held.

pub lend_held : (q : QueueState) (ready : List Buffer) → (lend_front q ready).held ≡ q.held
lend_held q [] = refl
lend_held q (b ∷ rest) = refl

pub retire_held : (q : QueueState) (job : List Buffer) (used : ℕ) (bytes : List ℕ) (flags : ℕ) (stamp : Stamp) → (retire_from q job used bytes flags stamp).held ≡ q.held
retire_held q [] used bytes flags stamp = refl
retire_held q (b ∷ rest) used bytes flags stamp = refl

raise_held : (cause : Cause) (c : Context) → (raise_end cause c).cap.held ≡ c.cap.held
raise_held drain c = refl
raise_held change c = refl

give_held : (c : Context) (cause : Cause) (ready : List Buffer) → (give_last c cause ready).cap.held ≡ c.cap.held
give_held c cause [] = refl
give_held c cause (b ∷ rest) =
    let given : Context = record c { cap = retire_after (lend_after c.cap) 0 [] last_flag zero_stamp; phase = last cause } in
    raise_held cause given ∙ (retire_held (lend_after c.cap) (lend_after c.cap).job 0 [] last_flag zero_stamp ∙ lend_held c.cap c.cap.ready)

owed_held : (c : Context) (phase : PhaseState) → (settle_last c phase).cap.held ≡ c.cap.held
owed_held c run = refl
owed_held c (owe cause) = give_held c cause c.cap.ready
owed_held c (last cause) = refl
owed_held c (stopped cause) = refl

drain_held : (c : Context) (t : Bool) → (cond t (record c { phase = owe drain }) c).cap.held ≡ c.cap.held
drain_held c true = refl
drain_held c false = refl

settle_held : (c : Context) → (settle c).cap.held ≡ c.cap.held
unfolding settle
settle_held c =
    owed_held (settle_drain c) (settle_drain c).phase ∙ drain_held c (is_run c.phase && (c.cap.streams && (is_none c.running && is_drained c.out.ready c.mark)))

stop_held : (c : Context) (phase : PhaseState) (emptied : Bool) → (stop_at_last c phase emptied).cap.held ≡ c.cap.held
stop_held c run emptied = refl
stop_held c (owe cause) emptied = refl
stop_held c (last drain) true = refl
stop_held c (last change) true = refl
stop_held c (last drain) false = refl
stop_held c (last change) false = refl
stop_held c (stopped cause) emptied = refl

-- What a Taken tells.

-- the slot has an open context that holds the CAPTURE buffer
abbrev HoldsCap : Slot → ℕ → Type 0
HoldsCap None index = ⊥
HoldsCap (Some c) index = is_some (with_index index c.cap.held) ≡ true

-- the bytes handed out are those of the front of done, and the buffer is held then
record IsFront (done : List Buffer) (index : ℕ) (a : Answer) : Type 0 where
  bytes : a.bytes ≡ front_bytes done
  held : HoldsCap a.slot index

block_front : (c : Context) (o : Option Errno) (block : Bool) (a : Answer) (done : List Buffer) (index used flags seq : ℕ) (stamp : Stamp) →
    (a.reply ≡ Taken index used flags seq stamp → IsFront done index a) → (unless_or_block c o block a).reply ≡ Taken index used flags seq stamp →
    IsFront done index (unless_or_block c o block a)
block_front c None block a done index used flags seq stamp h e = h e
block_front c (Some Again) true a done index used flags seq stamp h e = absurd (cc)
block_front c (Some Again) false a done index used flags seq stamp h e = absurd (cc)
block_front c (Some NoEnt) true a done index used flags seq stamp h e = absurd (cc)
block_front c (Some NoEnt) false a done index used flags seq stamp h e = absurd (cc)
block_front c (Some NoMem) block a done index used flags seq stamp h e = absurd (cc)
block_front c (Some Busy) block a done index used flags seq stamp h e = absurd (cc)
block_front c (Some Inval) block a done index used flags seq stamp h e = absurd (cc)
block_front c (Some NoTty) block a done index used flags seq stamp h e = absurd (cc)
block_front c (Some Pipe) block a done index used flags seq stamp h e = absurd (cc)

-- a buffer is found where it stands at the end of the list
found_at : (t : Bool) (b : Buffer) (o : Option Buffer) → is_some o ≡ true → is_some (cond t (Some b) o) ≡ true
found_at true b o h = refl
found_at false b o h = h

found_last : (bs : List Buffer) (b : Buffer) (index : ℕ) → b.index == index ≡ true → is_some (with_index index (bs ++ b ∷ [])) ≡ true
found_last [] b index e = ap (λ (t : Bool). is_some (cond t (Some b) None)) e
found_last (x ∷ xs) b index e = found_at (x.index == index) x (with_index index (xs ++ b ∷ [])) (found_last xs b index e)

taken_front : (c : Context) (done : List Buffer) (index used flags seq : ℕ) (stamp : Stamp) → c.cap.done ≡ done → (taken_answer c Cap done).reply ≡ Taken index used flags seq stamp → IsFront done index (taken_answer c Cap done)
taken_front c [] index used flags seq stamp d e = absurd (cc)
taken_front c (b ∷ rest) index used flags seq stamp d e =
    let taken : Context = with_queue c Cap (dqbuf_after c.cap) in
    let same : b.index ≡ index = cc in
    let is_it : b.index == index ≡ true = eq-eqb b.index index same in
    let front : taken.cap.held ≡ c.cap.held ++ held_again b ∷ [] = ap (λ (l : List Buffer). (take_front c.cap l).held) d in
    let all : (settle (after_taking taken Cap)).cap.held ≡ c.cap.held ++ held_again b ∷ [] = settle_held (after_taking taken Cap) ∙ (stop_held taken taken.phase (is_empty taken.cap.done) ∙ front) in record {
      bytes = refl;
      held = subst (λ (l : List Buffer). is_some (with_index index l) ≡ true) (sym all) (found_last c.cap.held (held_again b) index is_it);
    }

answer_front : (s : Slot) (block : Bool) (bytes : List ℕ) (found : Bool) (index used flags seq : ℕ) (stamp : Stamp) →
    (answer s (DqBuf Cap block) bytes found).reply ≡ Taken index used flags seq stamp →
    ((answer s (DqBuf Cap block) bytes found).bytes ≡ handed_out s Cap) × HoldsCap (answer s (DqBuf Cap block) bytes found).slot index
unfolding answer closed_answer context_answer
answer_front None block bytes found index used flags seq stamp e = absurd (cc)
answer_front (Some c) block bytes found index used flags seq stamp e =
    let f = block_front c (dqbuf_refusal c.cap (is_ended c Cap)) block (taken_answer c Cap c.cap.done) c.cap.done index used flags seq stamp (taken_front c c.cap.done index used flags seq stamp refl) e in
    (f.bytes, f.held)

-- The payload after it.

set_there : (xs : List (Option (List ℕ))) (i : ℕ) (payload p : List ℕ) → get_or (set xs i (Some payload)) i None ≡ Some p → p ≡ payload
set_there [] i payload p e = absurd (cc)
set_there (x ∷ xs) zero payload p e = cc
set_there (x ∷ xs) (suc i) payload p e = set_there xs i payload p e

begins_at : (used : ℕ) (handed payload : List ℕ) (xs : List (Option (List ℕ))) (i : ℕ) → take used payload ≡ handed → (o : Option (List ℕ)) → is_some o ≡ true → get_or (set xs i (Some payload)) i None ≡ o → BeginsWith o used handed
begins_at used handed payload xs i e None there q = absurd (cc)
begins_at used handed payload xs i e (Some p) there q = ap (take used) (set_there xs i payload p q) ∙ e

payload_there : (s : Slot) (hold : HoldState) (index : ℕ) → IsSoundSlot s → FitsSlot s hold → HoldsCap s index → is_some (held_payload hold Cap index) ≡ true
payload_there None hold index sound fits h = absurd h
payload_there (Some c) hold index sound fits h = held_cap c hold index sound fits h

pub taken_is_handed_out : TakenIsHandedOut
unfolding solo_step
taken_is_handed_out old new before after block index used flags seq stamp c fits =
    let s : Slot = slot_after (old ++ c.jobs) in
    let event : SoloEvent = Called (DqBuf Cap block) [] c.found in
    let told : (answer s (DqBuf Cap block) [] c.found).reply ≡ Taken index used flags seq stamp = cc in
    let handed : (answer s (DqBuf Cap block) [] c.found).bytes ≡ c.handed = cc in
    let front = answer_front s block [] c.found index used flags seq stamp told in
    let slot : slot_after new ≡ (answer s (DqBuf Cap block) [] c.found).slot = ap slot_after c.events ∙ slot-append None (old ++ c.jobs) (event ∷ []) in
    let held : HoldsCap (slot_after new) index = subst (λ (t : Slot). HoldsCap t index) (sym slot) front.1 in
    let there : is_some (held_payload after Cap index) ≡ true = payload_there (slot_after new) after index (always_sound the_coder new) fits held in
    let moved : after ≡ with_payload before Cap index (Some c.moves.payload) = c.moves.moved in
    let begins : take used c.moves.payload ≡ c.handed = c.moves.begins ∙ (sym front.0 ∙ handed) in
    let at : held_payload (with_payload before Cap index (Some c.moves.payload)) Cap index ≡ held_payload after Cap index = ap (λ (h : HoldState). held_payload h Cap index) (sym moved) in
    begins_at used c.handed c.moves.payload before.cap index begins (held_payload after Cap index) there at
