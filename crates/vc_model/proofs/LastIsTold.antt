-- The flag LAST is on the buffer with which a drain or a change of the resolution ends, and on no other one. A buffer
-- gets it in the step in which the phase becomes Last, and from then on nothing goes to done; sequence numbers tell
-- the new buffers of a step from the others.
use Rattle.std.proofs.Common.{ℕ, ◌≡◌, ◌≤◌, ◌+◌, ◌==◌, nat_lt, nat_le, Bool, true, false, not, cond, ◌&&◌, ◌||◌, is_none, is_some, Option, Some, None, List, [], ◌∷◌, ◌++◌, length, refl, sym, ap, ◌∙◌, subst, arith}
use Rattle.std.specs.List.{list_all}
use Rattle.std.proofs.lemmas.Bool.{le-leb, false≢true}
use Rattle.std.proofs.lemmas.List.Folds.{list_all-append}
use Rattle.vc_base.specs.declared.Stamp.{Stamp}
use Rattle.vc_base.specs.declared.Side.{Side}
use Rattle.vc_base.specs.declared.Side.TheVariants.{Out, Cap}
use Rattle.vc_base.specs.declared.Kind.{Kind}
use Rattle.vc_base.specs.declared.Kind.TheVariants.{Copy, Enc, Dec}
use Rattle.vc_base.specs.declared.Fourcc.{Fourcc}
use Rattle.vc_base.specs.declared.Errno.{Errno}
use Rattle.vc_base.specs.declared.Errno.TheVariants.{NoEnt, Again, NoMem, Busy, Inval, NoTty, Pipe}
use Rattle.vc_base.specs.declared.Call.{Call}
use Rattle.vc_base.specs.declared.Call.TheVariants.{Open, Close, EnumFmt, GetFmt, TryFmt, SetFmt, ReqBufs, CreateBufs, QueryBuf, QBuf, DqBuf, StreamOn, StreamOff, Subscribe, Unsubscribe, DqEvent, DecCmd, EncCmd, GetCtrl, SetCtrl, Poll}
use Rattle.vc_base.specs.declared.Reply.{Reply}
use Rattle.vc_base.specs.declared.Reply.TheVariants.{Done, Created, Blocked}
use Rattle.vc_base.specs.Buffers.{Buffer, QueueState, buffer_count, is_empty, refuse_if, with_index, queue_held, held_refusal, take_front, long_enough}
use Rattle.vc_base.specs.Buffers.{reqbufs_after, create_refusal, create_after, created, qbuf_after, dqbuf_after, streamon_refusal, streamon_after}
use Rattle.vc_base.specs.Buffers.{streamoff_after, dqbuf_refusal}
use Rattle.vc_base.specs.Events.{EventState}
use Rattle.vc_model.specs.Formats.{FormatPair}
use Rattle.vc_model.specs.Coder.{CodecState, reset}
use Rattle.vc_defs.specs.Encoder.{RunRates}
use Rattle.vc_model.specs.Context.{Context, Slot, Running, Cause, drain, change, PhaseState, run, owe, last, stopped, queue_of, with_queue, is_run, sizeimage, is_dec, is_enc, is_drained}
use Rattle.vc_model.specs.Answer.{Answer, unchanged, refused, answered, unless, if_found, unless_or_block, desc_answer, set_refusal, after_new_format}
use Rattle.vc_model.specs.Answer.{after_new_buffers, query_answer, is_no_whole_picture, taken_answer, stop_at_last, is_ended, streamoff_effect}
use Rattle.vc_model.specs.Answer.{without_drain_stop, after_output_off, mark_after_restart, after_capture_off, both_stream, stop_answer, start_is_early}
use Rattle.vc_model.specs.Answer.{start_answer, command_answer, value_answer, control_answer, context_answer, closed_answer, answer}
use Rattle.vc_model.specs.Phases.{is_stopped_by_drain}
use Rattle.vc_model.specs.Sound.{HasItsBuffers, IsOrderedSlot}
use Rattle.vc_model.proofs.PartsOfTests.{and_left}
use Rattle.std.specs.Prelude.{min, slice_get}
use Rattle.vc_base.specs.declared.Reply.TheVariants.{Fmt, Count}
use Rattle.vc_base.specs.Buffers.{lend_front, lend_after, retire_from, retire_after, give_back_from, known_bytes, zero_stamp, reqbufs_refusal, querybuf_reply}
use Rattle.vc_base.specs.Limits.{most_buffers, last_flag, error_flag, source_change_event}
use Rattle.vc_base.specs.Events.{event_refusal, event_reply, raise_after, subscribe_after, unsubscribe_after, take_event_after}
use Rattle.vc_defs.specs.Decoder.{DecodedResult, picture, damaged, changed, spent, step_outcome}
use Rattle.vc_model.specs.Formats.{formats_listed, formats_for, formats_found}
use Rattle.vc_model.specs.Coder.{Coder, encoder, decoder}
use Rattle.vc_model.specs.Context.{RunSort, copy, encode, decode, probe, format_of, raise_end, settle, settle_drain, settle_last, give_last}
use Rattle.vc_model.specs.Answer.{control_of, with_control}
use Rattle.vc_model.specs.Runs.{is_claimable, sort_of, cap_after_claim, running_of, claim_front, after_claim, JobData, job_data, RunResult, copied, encoded}
use Rattle.vc_model.specs.Runs.{decoded, run_result, source_done, source_back, source_moved, dest_done, dest_back, decoded_effect, run_effect, fault_effect}
use Rattle.vc_model.specs.Runs.{type_flag, after_finish}
use Rattle.vc_model.specs.Solo.{SoloEvent, Called, Claims, Finishes, solo_step, solo_slot, claim_step, solo_finish}
use Rattle.vc_model.specs.Sound.{IsOrderedSlot}
use Rattle.vc_model.proofs.PartsOfTests.{and_right, and_both}
use Rattle.vc_model.proofs.EventsKeepSound.{step_sound, always_ordered}
use Rattle.std.specs.Prelude.{bit_and}
use Rattle.std.proofs.Common.{◌<◌, eqb}
use Rattle.std.specs.List.{filter}
use Rattle.std.proofs.lemmas.List.Elements.{filter-append}
use Rattle.std.proofs.lemmas.Bool.{ltb-true, lt-ltb, le-leb, leb-true}
use Rattle.vc_base.specs.declared.Stamp.{Stamp}
use Rattle.vc_model.specs.Context.{is_run, is_drain}
use Rattle.vc_model.specs.Sound.{is_last, ends_with_last, IsSettled, last_not_given, HasItsBuffers, IsOrdered}
use Rattle.vc_model.specs.Drains.{is_last_by_drain}
use Rattle.vc_model.specs.LastBuffers.{has_last, count_last, is_last_by_change, gives, IsLastTold, LastIsTold}
use Rattle.vc_model.proofs.PartsOfTests.{and_false}
use Rattle.vc_model.proofs.CallsKeepFirm.{last_end}
use Rattle.vc_model.proofs.SettlingSettles.{settles_once}

-- Sequence numbers

-- each buffer of the list has a number below this one
abbrev AllBelow : ℕ → List Buffer → Type 0
AllBelow n bs = list_all (λ b. nat_lt b.seq n) bs ≡ true

below_more : (n m : ℕ) (bs : List Buffer) → n ≤ m → AllBelow n bs → AllBelow m bs
below_more n m [] h a = refl
below_more n m (b ∷ bs) h a =
    let l = ltb-true b.seq n (and_left (nat_lt b.seq n) (list_all (λ x. nat_lt x.seq n) bs) a) in
    and_both (nat_lt b.seq m) (list_all (λ x. nat_lt x.seq m) bs) (lt-ltb b.seq m (omega arith)) (below_more n m bs h (and_right (nat_lt b.seq n) (list_all (λ x. nat_lt x.seq n) bs) a))

-- those that are new since the number was the next one
abbrev new_since : ℕ → List Buffer → List Buffer
new_since n bs = filter (λ b. nat_le n b.seq) bs

not_above : (n m : ℕ) → m < n → (b : Bool) → nat_le n m ≡ b → b ≡ false
not_above n m h true e = let l = leb-true n m e in absurd (omega arith)
not_above n m h false e = refl

none_new : (n : ℕ) (bs : List Buffer) → AllBelow n bs → new_since n bs ≡ []
none_new n [] a = refl
none_new n (b ∷ bs) a =
    let l = ltb-true b.seq n (and_left (nat_lt b.seq n) (list_all (λ x. nat_lt x.seq n) bs) a) in
    ap (λ t. cond t (b ∷ new_since n bs) (new_since n bs)) (not_above n b.seq l (nat_le n b.seq) refl) ∙ none_new n bs (and_right (nat_lt b.seq n) (list_all (λ x. nat_lt x.seq n) bs) a)

-- one buffer more at the end, with the next number
one_new : (n m : ℕ) (bs : List Buffer) (x : Buffer) → n ≤ m → x.seq ≡ m → new_since n (bs ++ x ∷ []) ≡ new_since n bs ++ x ∷ []
one_new n m bs x h e =
    filter-append (λ b. nat_le n b.seq) bs (x ∷ []) ∙ ap (λ t. new_since n bs ++ cond t (x ∷ []) []) (le-leb n x.seq (subst (λ k. n ≤ k) (sym e) h))

below_end : (n : ℕ) (bs : List Buffer) (x : Buffer) → x.seq ≡ n → AllBelow n bs → AllBelow (n + 1) (bs ++ x ∷ [])
below_end n bs x e a =
    list_all-append (λ b. nat_lt b.seq (n + 1)) bs (x ∷ [])
    ∙ (ap (λ t. t && (nat_lt x.seq (n + 1) && true)) (below_more n (n + 1) bs (omega arith) a) ∙ ap (λ t. t && true) (lt-ltb x.seq (n + 1) (subst (λ k. k < n + 1) (sym e) (omega arith))))

count_end : (bs : List Buffer) (x : Buffer) → count_last (bs ++ x ∷ []) ≡ count_last bs + cond (has_last x) 1 0
count_end [] x = omega arith
count_end (b ∷ bs) x = let h = count_end bs x in omega arith

-- Phases

abbrev given_phases : PhaseState → PhaseState → Bool
given_phases p q = (is_last_by_drain q && not (is_last_by_drain p)) || (is_last_by_change q && not (is_last_by_change p))

either_last : (cause : Cause) → ((is_drain cause && true) || (not (is_drain cause) && true)) ≡ true
either_last drain = refl
either_last change = refl

given_from : (p q : PhaseState) → is_last p ≡ false → given_phases p q ≡ is_last q
given_from run run e = refl
given_from run (owe cause) e = refl
given_from run (last cause) e = either_last cause
given_from run (stopped cause) e = refl
given_from (owe c) run e = refl
given_from (owe c) (owe cause) e = refl
given_from (owe c) (last cause) e = either_last cause
given_from (owe c) (stopped cause) e = refl
given_from (last c) q e = absurd (false≢true (sym e))
given_from (stopped c) run e = refl
given_from (stopped c) (owe cause) e = refl
given_from (stopped c) (last cause) e = either_last cause
given_from (stopped c) (stopped cause) e = refl

clash_both : (a b : Bool) → ((a && not a) || (b && not b)) ≡ false
clash_both true true = refl
clash_both true false = refl
clash_both false true = refl
clash_both false false = refl

given_same : (p q : PhaseState) → q ≡ p → given_phases p q ≡ false
given_same p q e = ap (given_phases p) e ∙ clash_both (is_last_by_drain p) (is_last_by_change p)

given_not : (p q : PhaseState) → is_last q ≡ false → given_phases p q ≡ false
given_not p run e = refl
given_not p (owe cause) e = refl
given_not p (last cause) e = absurd (false≢true (sym e))
given_not p (stopped cause) e = refl

-- Steps

record LastStep (c x : Context) : Type 0 where
  pub told : IsLastTold c x
  pub below : AllBelow x.cap.next_seq x.cap.done

-- nothing new is done, and no LAST is given
still_told : (c x : Context) → new_since c.cap.next_seq x.cap.done ≡ [] → gives c x ≡ false → IsLastTold c x
still_told c x n g =
    record { count = ap count_last n ∙ ap (λ b. cond b 1 0) (sym g); final = λ e. absurd (false≢true (sym g ∙ e)) }

-- a context in which LAST was given where it stands in that phase
record Fresh (c y : Context) : Type 0 where
  pub count : count_last (new_since c.cap.next_seq y.cap.done) ≡ cond (is_last y.phase) 1 0
  pub final : is_last y.phase ≡ true → ends_with_last (new_since c.cap.next_seq y.cap.done) ≡ true
  pub not_last : is_last c.phase ≡ false
  pub next : c.cap.next_seq ≤ y.cap.next_seq
  pub below : AllBelow y.cap.next_seq y.cap.done

fresh_step : (c y : Context) → Fresh c y → LastStep c y
fresh_step c y f =
    record {
      told = record { count = f.count ∙ ap (λ b. cond b 1 0) (sym (given_from c.phase y.phase f.not_last)); final = λ e. f.final (sym (given_from c.phase y.phase f.not_last) ∙ e) };
      below = f.below;
    }

-- one LAST buffer more
given_fresh :
    (c z : Context) (cause : Cause) (b : Buffer) (rest : List Buffer) → z.phase ≡ owe cause → z.cap.ready ≡ b ∷ rest → Fresh c z
    → Fresh c (record z { cap = retire_after (lend_front z.cap (b ∷ rest)) 0 [] last_flag zero_stamp; phase = last cause })
given_fresh c z cause b rest p r f =
    let q = lend_front z.cap (b ∷ rest) in
    let x : Buffer = record b { used = 0; bytes = known_bytes z.cap.side last_flag []; flags = last_flag; stamp = zero_stamp; seq = z.cap.next_seq } in
    let n = one_new c.cap.next_seq z.cap.next_seq z.cap.done x f.next refl in
    let before = f.count ∙ ap (λ ph. cond (is_last ph) 1 0) p in
    record {
      count = ap count_last n ∙ (count_end (new_since c.cap.next_seq z.cap.done) x ∙ ap (λ m. m + 1) before);
      final = λ e. ap ends_with_last n ∙ last_end (new_since c.cap.next_seq z.cap.done) x;
      not_last = f.not_last;
      next = let l = f.next in omega arith;
      below = below_end z.cap.next_seq z.cap.done x refl f.below;
    }

raised_fresh : (cause : Cause) (c y : Context) → Fresh c y → Fresh c (raise_end cause y)
raised_fresh drain c y f =
    record { count = f.count; final = f.final; not_last = f.not_last; next = f.next; below = f.below }
raised_fresh change c y f = f

give_fresh : (c z : Context) (cause : Cause) (ready : List Buffer) → z.phase ≡ owe cause → z.cap.ready ≡ ready → Fresh c z → Fresh c (give_last z cause ready)
give_fresh c z cause [] p r f = f
give_fresh c z cause (b ∷ rest) p r f =
    raised_fresh cause c _ (subst (λ l. Fresh c (record z { cap = retire_after (lend_front z.cap l) 0 [] last_flag zero_stamp; phase = last cause })) (sym r) (given_fresh c z cause b rest p r f))

owed_fresh : (c z : Context) (phase : PhaseState) → z.phase ≡ phase → Fresh c z → Fresh c (settle_last z phase)
owed_fresh c z run p f = f
owed_fresh c z (owe cause) p f = give_fresh c z cause z.cap.ready p refl f
owed_fresh c z (last cause) p f = f
owed_fresh c z (stopped cause) p f = f

-- a drain is noted in phase Run alone
noted_fresh : (c y : Context) (b : Bool) → (b ≡ true → is_run y.phase ≡ true) → Fresh c y → Fresh c (cond b (record y { phase = owe drain }) y)
noted_fresh c y true h f =
    record { count = f.count ∙ ap (λ b. cond b 1 0) (run_is_not_last y.phase (h refl)); final = λ (e : false ≡ true). absurd (false≢true e); not_last = f.not_last; next = f.next; below = f.below }
  where
    run_is_not_last : (p : PhaseState) → is_run p ≡ true → is_last p ≡ false
    run_is_not_last run e = refl
    run_is_not_last (owe cause) e = refl
    run_is_not_last (last cause) e = absurd (false≢true e)
    run_is_not_last (stopped cause) e = refl
noted_fresh c y false h f = f

settle_fresh : (c y : Context) → Fresh c y → Fresh c (settle y)
unfolding settle
settle_fresh c y f =
    let d = settle_drain y in
    owed_fresh c d d.phase refl
    (noted_fresh c y (is_run y.phase && (y.cap.streams && (is_none y.running && is_drained y.out.ready y.mark)))
    (and_left (is_run y.phase) (y.cap.streams && (is_none y.running && is_drained y.out.ready y.mark))) f)

-- an effect that leaves the phase, and puts nothing on done
record Calm (c y : Context) : Type 0 where
  pub phase : y.phase ≡ c.phase
  pub below : AllBelow c.cap.next_seq y.cap.done
  pub next : y.cap.next_seq ≡ c.cap.next_seq

settled_last : (y : Context) (p : PhaseState) → y.phase ≡ p → is_last p ≡ true → IsSettled y
settled_last y run e l = absurd (false≢true l)
settled_last y (owe cause) e l = absurd (false≢true l)
settled_last y (last cause) e l =
    record { noted = and_false (is_run y.phase) _ (ap is_run e); given = ap (λ ph. last_not_given ph y.cap.ready) e }
settled_last y (stopped cause) e l = absurd (false≢true l)

calm_fresh : (c y : Context) → is_last c.phase ≡ false → Calm c y → Fresh c y
calm_fresh c y n a =
    let z = none_new c.cap.next_seq y.cap.done a.below in
    let l : is_last y.phase ≡ false = ap is_last a.phase ∙ n in
    record {
      count = ap count_last z ∙ ap (λ b. cond b 1 0) (sym l);
      final = λ e. absurd (false≢true (sym l ∙ e));
      not_last = n;
      next = let q = a.next in omega arith;
      below = subst (λ m. AllBelow m y.cap.done) (sym a.next) a.below;
    }

-- the settled context of an effect that leaves the context settled
still_step : (c y : Context) → IsSettled y → AllBelow c.cap.next_seq y.cap.done → AllBelow y.cap.next_seq y.cap.done → gives c y ≡ false → LastStep c (settle y)
still_step c y s b m g =
    subst (LastStep c) (sym ((settles_once y).again s)) (record { told = still_told c y (none_new c.cap.next_seq y.cap.done b) g; below = m })

calm_split : (c y : Context) → Calm c y → (b : Bool) → is_last c.phase ≡ b → LastStep c (settle y)
calm_split c y a true e =
    still_step c y (settled_last y y.phase refl (ap is_last a.phase ∙ e)) a.below (subst (λ m. AllBelow m y.cap.done) (sym a.next) a.below) (given_same c.phase y.phase a.phase)
calm_split c y a false e = fresh_step c (settle y) (settle_fresh c y (calm_fresh c y e a))

calm_step : (c y : Context) → Calm c y → LastStep c (settle y)
calm_step c y a = calm_split c y a (is_last c.phase) refl

-- Slots

-- of an open slot that stays open, the context whose done list is in order
abbrev InOrder : Context → Type 0
InOrder c = AllBelow c.cap.next_seq c.cap.done

LastSlot : Context → Slot → Type 0
LastSlot c None = Unit {0}
LastSlot c (Some x) = LastStep c x

same_slot : (c : Context) → InOrder c → LastSlot c (Some c)
unfolding LastSlot
same_slot c o =
    record { told = still_told c c (none_new c.cap.next_seq c.cap.done o) (given_same c.phase c.phase refl); below = o }

settled_slot : (c y : Context) → LastStep c (settle y) → LastSlot c (Some (settle y))
unfolding LastSlot
settled_slot c y s = s

unless_slot : (c : Context) (o : Option Errno) (a : Answer) → InOrder c → (o ≡ None → LastSlot c a.slot) → LastSlot c (unless c o a).slot
unless_slot c None a i h = h refl
unless_slot c (Some e) a i h = same_slot c i

found_slot : (c : Context) (found : Bool) (a : Answer) → InOrder c → LastSlot c a.slot → LastSlot c (if_found c found a).slot
found_slot c true a i h = h
found_slot c false a i h = same_slot c i

block_slot : (c : Context) (o : Option Errno) (block : Bool) (a : Answer) → InOrder c → LastSlot c a.slot → LastSlot c (unless_or_block c o block a).slot
block_slot c None block a i h = h
block_slot c (Some Again) true a i h = same_slot c i
block_slot c (Some Again) false a i h = same_slot c i
block_slot c (Some NoEnt) true a i h = same_slot c i
block_slot c (Some NoEnt) false a i h = same_slot c i
block_slot c (Some NoMem) block a i h = same_slot c i
block_slot c (Some Busy) block a i h = same_slot c i
block_slot c (Some Inval) block a i h = same_slot c i
block_slot c (Some NoTty) block a i h = same_slot c i
block_slot c (Some Pipe) block a i h = same_slot c i

either_slot : (c : Context) (b : Bool) (x y : Answer) → LastSlot c x.slot → LastSlot c y.slot → LastSlot c (cond b x y).slot
either_slot c true x y h k = h
either_slot c false x y h k = k

-- Effects

same_cap : (c y : Context) → InOrder c → y.phase ≡ c.phase → y.cap ≡ c.cap → Calm c y
same_cap c y i p e =
    record { phase = p; below = subst (λ q. AllBelow c.cap.next_seq q.done) (sym e) i; next = ap (λ q. q.next_seq) e }

format_calm : (kind : Kind) (side : Side) (c : Context) (formats : FormatPair) → InOrder c → Calm c (after_new_format kind side (record c { formats = formats }))
format_calm Copy side c formats i = same_cap c (record c { formats = formats }) i refl refl
format_calm Enc Out c formats i = same_cap c (record c { formats = formats; codec = reset c.codec }) i refl refl
format_calm Enc Cap c formats i = same_cap c (record c { formats = formats }) i refl refl
format_calm Dec Out c formats i = same_cap c (record c { formats = formats; geometry = None }) i refl refl
format_calm Dec Cap c formats i = same_cap c (record c { formats = formats }) i refl refl

-- another state of a queue that leaves what is done, or drops it
out_calm : (c : Context) (q : QueueState) → InOrder c → Calm c (record c { out = q })
out_calm c q i = same_cap c (record c { out = q }) i refl refl

cap_calm : (c : Context) (q : QueueState) → AllBelow c.cap.next_seq q.done → q.next_seq ≡ c.cap.next_seq → Calm c (record c { cap = q })
cap_calm c q b n = record { phase = refl; below = b; next = n }

new_calm : (kind : Kind) (side : Side) (c y : Context) → Calm c y → Calm c (after_new_buffers kind side y)
new_calm Copy side c y a = a
new_calm Enc Out c y a = record { phase = a.phase; below = a.below; next = a.next }
new_calm Enc Cap c y a = a
new_calm Dec Out c y a = record { phase = a.phase; below = a.below; next = a.next }
new_calm Dec Cap c y a = a

reqbufs_calm : (c : Context) (side : Side) (count size : ℕ) → InOrder c → Calm c (with_queue c side (reqbufs_after (queue_of c side) count size))
reqbufs_calm c Out count size i = out_calm c (reqbufs_after c.out count size) i
reqbufs_calm c Cap count size i = cap_calm c (reqbufs_after c.cap count size) refl refl

create_calm : (c : Context) (side : Side) (count size : ℕ) → InOrder c → Calm c (with_queue c side (create_after (queue_of c side) count size))
create_calm c Out count size i = out_calm c (create_after c.out count size) i
create_calm c Cap count size i = cap_calm c (create_after c.cap count size) i refl

queued_same : (q : QueueState) (k used : ℕ) (stamp : Stamp) (bytes : List ℕ) (o : Option Buffer) → ((queue_held q k o used stamp bytes).done ≡ q.done) × ((queue_held q k o used stamp bytes).next_seq ≡ q.next_seq)
queued_same q k used stamp bytes None = (refl, refl)
queued_same q k used stamp bytes (Some b) = (refl, refl)

queue_calm : (c : Context) (side : Side) (k used : ℕ) (stamp : Stamp) (bytes : List ℕ) → InOrder c → Calm c (with_queue c side (qbuf_after (queue_of c side) k used stamp bytes))
queue_calm c Out k used stamp bytes i = out_calm c (qbuf_after c.out k used stamp bytes) i
queue_calm c Cap k used stamp bytes i =
    let s = queued_same c.cap k used stamp bytes (with_index k c.cap.held) in
    cap_calm c (qbuf_after c.cap k used stamp bytes) (subst (AllBelow c.cap.next_seq) (sym s.0) i) s.1

on_calm : (c : Context) (side : Side) → InOrder c → Calm c (with_queue c side (streamon_after (queue_of c side)))
on_calm c Out i = out_calm c (streamon_after c.out) i
on_calm c Cap i = cap_calm c (streamon_after c.cap) i refl

-- DqBuf

taken_below : (q : QueueState) (n : ℕ) (ds : List Buffer) → q.done ≡ ds → AllBelow n q.done → AllBelow n (take_front q ds).done
taken_below q n [] e a = a
taken_below q n (b ∷ rest) e a =
    and_right (nat_lt b.seq n) (list_all (λ x. nat_lt x.seq n) rest) (subst (AllBelow n) e a)

taken_next : (q : QueueState) (ds : List Buffer) → (take_front q ds).next_seq ≡ q.next_seq
taken_next q [] = refl
taken_next q (b ∷ rest) = refl

stopped_settled : (y : Context) (cause : Cause) (mark : Option ℕ) → IsSettled (record y { phase = stopped cause; mark = mark })
stopped_settled y cause mark = record { noted = refl; given = refl }

stop_step : (c y : Context) (p : PhaseState) (b : Bool) → y.phase ≡ p → Calm c y → LastStep c (settle (stop_at_last y p b))
stop_step c y run b e a = calm_step c y a
stop_step c y (owe cause) b e a = calm_step c y a
stop_step c y (last drain) true e a =
    still_step c (record y { phase = stopped drain; mark = None }) (stopped_settled y drain None) a.below (subst (λ m. AllBelow m y.cap.done) (sym a.next) a.below) (given_not c.phase (stopped drain) refl)
stop_step c y (last drain) false e a = calm_step c y a
stop_step c y (last change) true e a =
    still_step c (record y { phase = stopped change }) (stopped_settled y change y.mark) a.below (subst (λ m. AllBelow m y.cap.done) (sym a.next) a.below) (given_not c.phase (stopped change) refl)
stop_step c y (last change) false e a = calm_step c y a
stop_step c y (stopped cause) b e a = calm_step c y a

take_slot : (c : Context) (side : Side) (ds : List Buffer) → InOrder c → LastSlot c (taken_answer c side ds).slot
take_slot c side [] i = same_slot c i
take_slot c Out (b ∷ rest) i =
    settled_slot c (record c { out = dqbuf_after c.out }) (calm_step c (record c { out = dqbuf_after c.out }) (out_calm c (dqbuf_after c.out) i))
take_slot c Cap (b ∷ rest) i =
    let y = record c { cap = dqbuf_after c.cap } in
    settled_slot c (stop_at_last y y.phase (is_empty y.cap.done)) (stop_step c y y.phase (is_empty y.cap.done) refl (cap_calm c (dqbuf_after c.cap) (taken_below c.cap c.cap.next_seq c.cap.done refl i) (taken_next c.cap c.cap.done)))

-- StreamOff

unmarked : (a b d : Bool) → (a && (b && (d && false))) ≡ false
unmarked true true true = refl
unmarked true true false = refl
unmarked true false d = refl
unmarked false b d = refl

still_owed : (p : PhaseState) (ready : List Buffer) → last_not_given p ready ≡ false → last_not_given (without_drain_stop p) ready ≡ false
still_owed run ready e = refl
still_owed (owe drain) ready e = refl
still_owed (owe change) ready e = e
still_owed (last drain) ready e = refl
still_owed (last change) ready e = refl
still_owed (stopped drain) ready e = refl
still_owed (stopped change) ready e = refl

restart_given : (p : PhaseState) → given_phases p (without_drain_stop p) ≡ false
restart_given run = refl
restart_given (owe drain) = refl
restart_given (owe change) = refl
restart_given (last drain) = refl
restart_given (last change) = refl
restart_given (stopped drain) = refl
restart_given (stopped change) = refl

off_out_step : (c : Context) (codec : CodecState) → IsSettled c → InOrder c → LastStep c (settle (record c { out = streamoff_after c.out; mark = None; phase = without_drain_stop c.phase; codec = codec }))
off_out_step c codec s i =
    let y = record c { out = streamoff_after c.out; mark = None; phase = without_drain_stop c.phase; codec = codec } in
    still_step c y (record { noted = unmarked (is_run (without_drain_stop c.phase)) c.cap.streams (is_none c.running); given = still_owed c.phase c.cap.ready s.given }) i i (restart_given c.phase)

output_off_step : (kind : Kind) (c : Context) → IsSettled c → InOrder c → LastStep c (settle (after_output_off kind (record c { out = streamoff_after c.out; mark = None; phase = without_drain_stop c.phase })))
output_off_step Copy c s i = off_out_step c c.codec s i
output_off_step Enc c s i = off_out_step c c.codec s i
output_off_step Dec c s i = off_out_step c (reset c.codec) s i

never_noted : (a b : Bool) → (a && (false && b)) ≡ false
never_noted true b = refl
never_noted false b = refl

off_cap_step : (c : Context) (codec : CodecState) → LastStep c (settle (record c { cap = streamoff_after c.cap; mark = mark_after_restart c.phase c.mark; phase = run; codec = codec }))
off_cap_step c codec =
    still_step c (record c { cap = streamoff_after c.cap; mark = mark_after_restart c.phase c.mark; phase = run; codec = codec }) (record { noted = refl; given = refl }) refl refl (given_not c.phase run refl)

capture_off_step : (kind : Kind) (c : Context) → LastStep c (settle (after_capture_off kind (record c { cap = streamoff_after c.cap; mark = mark_after_restart c.phase c.mark; phase = run })))
capture_off_step Copy c = off_cap_step c c.codec
capture_off_step Enc c = off_cap_step c (reset c.codec)
capture_off_step Dec c = off_cap_step c c.codec

not_given : (p : PhaseState) (ready : List Buffer) → last_not_given p [] ≡ false
not_given run ready = refl
not_given (owe cause) ready = refl
not_given (last cause) ready = refl
not_given (stopped cause) ready = refl

still_off_step : (c : Context) → LastStep c (settle (record c { cap = streamoff_after c.cap }))
still_off_step c =
    still_step c (record c { cap = streamoff_after c.cap })
    (record { noted = never_noted (is_run c.phase) (is_none c.running && is_drained c.out.ready c.mark); given = not_given c.phase c.cap.ready }) refl
    refl (given_same c.phase c.phase refl)

capture_split : (c : Context) (b : Bool) → LastStep c (settle (cond b (after_capture_off c.kind (record c { cap = streamoff_after c.cap; mark = mark_after_restart c.phase c.mark; phase = run })) (record c { cap = streamoff_after c.cap })))
capture_split c true = capture_off_step c.kind c
capture_split c false = still_off_step c

off_step : (c : Context) (side : Side) → IsSettled c → InOrder c → LastStep c (settle (streamoff_effect c side))
off_step c Out s i = output_off_step c.kind c s i
off_step c Cap s i = capture_split c c.cap.streams

-- STOP and START

stop_slot : (c : Context) (x y z : Bool) → InOrder c → LastSlot c (cond x (unchanged c Done) (cond y (refused c Busy) (cond z (unchanged c Done) (answered (record c { mark = Some c.out.next_ordinal }) Done)))).slot
stop_slot c true y z i = same_slot c i
stop_slot c false true z i = same_slot c i
stop_slot c false false true i = same_slot c i
stop_slot c false false false i =
    settled_slot c (record c { mark = Some c.out.next_ordinal }) (calm_step c (record c { mark = Some c.out.next_ordinal }) (same_cap c (record c { mark = Some c.out.next_ordinal }) i refl refl))

late_start : (p : PhaseState) (mark : Option ℕ) → start_is_early p mark ≡ false → is_last p ≡ false
late_start run mark e = refl
late_start (owe cause) mark e = absurd (false≢true (sym e))
late_start (last cause) mark e = absurd (false≢true (sym e))
late_start (stopped cause) mark e = refl

start_slot : (c : Context) (x y z : Bool) → start_is_early c.phase c.mark ≡ y → InOrder c → LastSlot c (cond x (unchanged c Done) (cond y (refused c Busy) (cond z (refused c Inval) (answered (record c { phase = run }) Done)))).slot
start_slot c true y z e i = same_slot c i
start_slot c false true z e i = same_slot c i
start_slot c false false true e i = same_slot c i
start_slot c false false false e i =
    let y = record c { phase = run } in
    let n = none_new c.cap.next_seq c.cap.done i in
    settled_slot c y (fresh_step c (settle y) (settle_fresh c y (record { count = ap count_last n; final = λ (l : false ≡ true). absurd (false≢true l); not_last = late_start c.phase c.mark e; next = omega arith; below = i })))

command_slot : (c : Context) (x y : Bool) → InOrder c → LastSlot c (cond x (start_answer c) (cond y (stop_answer c) (refused c Inval))).slot
command_slot c true y i =
    start_slot c (not (both_stream c)) (start_is_early c.phase c.mark) (not (long_enough c.cap (sizeimage c Cap))) refl i
command_slot c false true i = stop_slot c (not (both_stream c)) (is_some c.mark) (is_stopped_by_drain c.phase) i
command_slot c false false i = same_slot c i

kind_slot : (c : Context) (cmd : ℕ) (b : Bool) → InOrder c → LastSlot c (cond b (command_answer c cmd) (refused c NoTty)).slot
kind_slot c cmd true i = command_slot c (cmd == 0) (cmd == 1) i
kind_slot c cmd false i = same_slot c i

desc_slot : (c : Context) (o : Option Fourcc) → InOrder c → LastSlot c (desc_answer c o).slot
desc_slot c None i = same_slot c i
desc_slot c (Some f) i = same_slot c i

query_slot : (c : Context) (o : Option Reply) → InOrder c → LastSlot c (query_answer c o).slot
query_slot c None i = same_slot c i
query_slot c (Some r) i = same_slot c i

value_slot : (c : Context) (o : Option ℕ) → InOrder c → LastSlot c (value_answer c o).slot
value_slot c None i = same_slot c i
value_slot c (Some v) i = same_slot c i

control_slot : (c : Context) (o : Option RunRates) → InOrder c → LastSlot c (control_answer c o).slot
control_slot c None i = same_slot c i
control_slot c (Some rates) i =
    settled_slot c (record c { rates = rates }) (calm_step c (record c { rates = rates }) (same_cap c (record c { rates = rates }) i refl refl))

with_events : (c : Context) (events : EventState) → InOrder c → LastSlot c (Some (settle (record c { events = events })))
with_events c events i =
    settled_slot c (record c { events = events }) (calm_step c (record c { events = events }) (same_cap c (record c { events = events }) i refl refl))

close_slot : (c : Context) (b : Bool) → InOrder c → LastSlot c (cond b (record { slot = None; reply = Done; bytes = [] }) (unchanged c Blocked)).slot
unfolding LastSlot
close_slot c true i = tt
close_slot c false i = same_slot c i

context_slot : (c : Context) (request : Call) (bytes : List ℕ) (found : Bool) → IsSettled c → InOrder c → LastSlot c (context_answer c request bytes found).slot
unfolding context_answer
context_slot c (Open kind) bytes found s i = same_slot c i
context_slot c Close bytes found s i = close_slot c (is_none c.running) i
context_slot c (EnumFmt side index) bytes found s i = desc_slot c (slice_get (formats_listed c.kind side c.formats) index) i
context_slot c (GetFmt side) bytes found s i = same_slot c i
context_slot c (TryFmt side want) bytes found s i = same_slot c i
context_slot c (SetFmt side want) bytes found s i =
    let formats = formats_for c.kind side c.formats want in
    let y = after_new_format c.kind side (record c { formats = formats }) in
    unless_slot c (set_refusal c side) (answered y (Fmt (format_of formats side))) i (λ p. settled_slot c y (calm_step c y (format_calm c.kind side c formats i)))
context_slot c (ReqBufs side count) bytes found s i =
    let y = after_new_buffers c.kind side (with_queue c side (reqbufs_after (queue_of c side) count (sizeimage c side))) in
    let a = answered y (Count (min count most_buffers)) in
    unless_slot c (reqbufs_refusal (queue_of c side)) (if_found c found a) i (λ p.
    found_slot c found a i
    (settled_slot c y (calm_step c y (new_calm c.kind side c (with_queue c side (reqbufs_after (queue_of c side) count (sizeimage c side))) (reqbufs_calm c side count (sizeimage c side) i)))))
context_slot c (CreateBufs side count length) bytes found s i =
    let q = queue_of c side in
    let y = with_queue c side (create_after q count length) in
    let a = answered y (Created (buffer_count q) (created q count)) in
    unless_slot c (create_refusal q count length) (if_found c found a) i (λ p. found_slot c found a i (settled_slot c y (calm_step c y (create_calm c side count length i))))
context_slot c (QueryBuf side index) bytes found s i = query_slot c (querybuf_reply (queue_of c side) index) i
context_slot c (QBuf side index used stamp) bytes found s i =
    let q = queue_of c side in
    let y = with_queue c side (qbuf_after q index used stamp bytes) in
    let o = refuse_if (is_no_whole_picture c side used) Inval None in
    unless_slot c (held_refusal q.side (with_index index q.held) used (sizeimage c side)) (unless c o (answered y Done)) i
    (λ p. unless_slot c o (answered y Done) i (λ r. settled_slot c y (calm_step c y (queue_calm c side index used stamp bytes i))))
context_slot c (DqBuf side block) bytes found s i =
    block_slot c (dqbuf_refusal (queue_of c side) (is_ended c side)) block (taken_answer c side (queue_of c side).done) i (take_slot c side (queue_of c side).done i)
context_slot c (StreamOn side) bytes found s i =
    let y = with_queue c side (streamon_after (queue_of c side)) in
    unless_slot c (streamon_refusal (queue_of c side) (sizeimage c side)) (answered y Done) i (λ p. settled_slot c y (calm_step c y (on_calm c side i)))
context_slot c (StreamOff side) bytes found s i =
    either_slot c (is_none c.running) (answered (streamoff_effect c side) Done) (unchanged c Blocked) (settled_slot c (streamoff_effect c side) (off_step c side s i)) (same_slot c i)
context_slot c (Subscribe event) bytes found s i =
    unless_slot c (event_refusal c.kind event) (answered (record c { events = subscribe_after c.events event }) Done) i (λ p. with_events c (subscribe_after c.events event) i)
context_slot c (Unsubscribe event) bytes found s i =
    unless_slot c (event_refusal c.kind event) (answered (record c { events = unsubscribe_after c.events event }) Done) i (λ p. with_events c (unsubscribe_after c.events event) i)
context_slot c (DqEvent block) bytes found s i =
    block_slot c (refuse_if (is_empty c.events.pending) NoEnt None) block (answered (record c { events = take_event_after c.events }) (event_reply c.events.pending)) i (with_events c (take_event_after c.events) i)
context_slot c (DecCmd cmd) bytes found s i = kind_slot c cmd (is_dec c.kind) i
context_slot c (EncCmd cmd) bytes found s i = kind_slot c cmd (is_enc c.kind) i
context_slot c (GetCtrl id) bytes found s i = value_slot c (control_of c.kind c.rates id) i
context_slot c (SetCtrl id value) bytes found s i = control_slot c (with_control c.kind c.rates id value) i
context_slot c Poll bytes found s i = same_slot c i

-- Claims

lent_same : (r : QueueState) (ready : List Buffer) → ((lend_front r ready).done ≡ r.done) × ((lend_front r ready).next_seq ≡ r.next_seq)
lent_same r [] = (refl, refl)
lent_same r (b ∷ rest) = (refl, refl)

claim_lent : (sort : RunSort) (q : QueueState) → ((cap_after_claim sort q).done ≡ q.done) × ((cap_after_claim sort q).next_seq ≡ q.next_seq)
claim_lent copy q = lent_same q q.ready
claim_lent encode q = lent_same q q.ready
claim_lent decode q = lent_same q q.ready
claim_lent probe q = (refl, refl)

claimed_step : (c : Context) (sort : RunSort) (ready : List Buffer) → InOrder c → LastStep c (claim_front c sort ready)
claimed_step c sort [] i =
    record { told = still_told c c (none_new c.cap.next_seq c.cap.done i) (given_same c.phase c.phase refl); below = i }
claimed_step c sort (b ∷ rest) i =
    let l = claim_lent sort c.cap in
    let q = cap_after_claim sort c.cap in
    let y = record c { out = lend_after c.out; cap = q; running = Some (running_of c sort) } in
    let a : AllBelow c.cap.next_seq q.done = subst (AllBelow c.cap.next_seq) (sym l.0) i in
    record { told = still_told c y (none_new c.cap.next_seq q.done a) (given_same c.phase c.phase refl); below = subst (λ m. AllBelow m q.done) (sym l.1) a }

claim_slot : (c : Context) (b : Bool) → InOrder c → LastSlot c (claim_step (Some c) b).slot
unfolding LastSlot after_claim
claim_slot c true i = claimed_step c (sort_of c.kind c.geometry) c.out.ready i
claim_slot c false i = same_slot c i

-- Finishes

-- nothing is new on done, and no LAST was given
record Level (c y : Context) : Type 0 where
  pub below : AllBelow c.cap.next_seq y.cap.done
  pub next : y.cap.next_seq ≡ c.cap.next_seq
  pub phase : is_last y.phase ≡ false

level_fresh : (c y : Context) → is_last c.phase ≡ false → Level c y → Fresh c y
level_fresh c y n a =
    let z = none_new c.cap.next_seq y.cap.done a.below in
    record {
      count = ap count_last z ∙ ap (λ b. cond b 1 0) (sym a.phase);
      final = λ e. absurd (false≢true (sym a.phase ∙ e));
      not_last = n;
      next = let q = a.next in omega arith;
      below = subst (λ m. AllBelow m y.cap.done) (sym a.next) a.below;
    }

-- the destination goes to done
retired_fresh :
    (c y : Context) (phase : PhaseState) (b : Buffer) (bs : List Buffer) (used : ℕ) (bytes : List ℕ) (flags : ℕ) (stamp : Stamp)
    → is_last c.phase ≡ false → Level c y → eqb (bit_and flags last_flag) last_flag ≡ is_last phase
    → Fresh c (record y { cap = retire_from y.cap (b ∷ bs) used bytes flags stamp; phase = phase })
retired_fresh c y phase b bs used bytes flags stamp n a e =
    let x : Buffer = record b { used = used; bytes = known_bytes y.cap.side flags bytes; flags = flags; stamp = stamp; seq = y.cap.next_seq } in
    let l = a.next in
    let z : new_since c.cap.next_seq (y.cap.done ++ x ∷ []) ≡ x ∷ [] = one_new c.cap.next_seq y.cap.next_seq y.cap.done x (omega arith) refl ∙ ap (λ bs2. bs2 ++ x ∷ []) (none_new c.cap.next_seq y.cap.done a.below) in
    record {
      count = ap count_last z ∙ (ap (λ t. cond t 1 0 + 0) e ∙ omega arith);
      final = λ p. ap ends_with_last z ∙ (e ∙ p);
      not_last = n;
      next = omega arith;
      below = below_end y.cap.next_seq y.cap.done x refl (subst (λ m. AllBelow m y.cap.done) (sym a.next) a.below);
    }

dest_split_fresh :
    (c y : Context) (b : Buffer) (bs : List Buffer) (used : ℕ) (bytes : List ℕ) (flags : ℕ) (stamp : Stamp) → is_last c.phase ≡ false → Level c y
    → eqb (bit_and (flags + last_flag) last_flag) last_flag ≡ true → eqb (bit_and flags last_flag) last_flag ≡ false → (t : Bool)
    → Fresh c
    (cond t (raise_end drain (record y { cap = retire_from y.cap (b ∷ bs) used bytes (flags + last_flag) stamp; phase = last drain }))
    (record y { cap = retire_from y.cap (b ∷ bs) used bytes flags stamp }))
dest_split_fresh c y b bs used bytes flags stamp n a l k true =
    raised_fresh drain c (record y { cap = retire_from y.cap (b ∷ bs) used bytes (flags + last_flag) stamp; phase = last drain }) (retired_fresh c y (last drain) b bs used bytes (flags + last_flag) stamp n a l)
dest_split_fresh c y b bs used bytes flags stamp n a l k false =
    retired_fresh c y y.phase b bs used bytes flags stamp n a (k ∙ sym a.phase)

dest_fresh :
    (c y : Context) (dest : List Buffer) (used_up : Bool) (used : ℕ) (bytes : List ℕ) (flags : ℕ) (stamp : Stamp) → y.cap.job ≡ dest
    → is_last c.phase ≡ false → Level c y → eqb (bit_and (flags + last_flag) last_flag) last_flag ≡ true
    → eqb (bit_and flags last_flag) last_flag ≡ false → Fresh c (dest_done y dest used_up used bytes flags stamp)
dest_fresh c y [] used_up used bytes flags stamp e n a l k = level_fresh c y n a
dest_fresh c y (b ∷ bs) used_up used bytes flags stamp e n a l k =
    let t = used_up && is_drained y.out.ready y.mark in
    subst (λ job.
    Fresh c
    (cond t (raise_end drain (record y { cap = retire_from y.cap job used bytes (flags + last_flag) stamp; phase = last drain })) (record y { cap = retire_from y.cap job used bytes flags stamp })))
    (sym e) (dest_split_fresh c y b bs used bytes flags stamp n a l k t)

given_back : (q : QueueState) (job : List Buffer) (cursor : ℕ) (bytes : List ℕ) → ((give_back_from q job cursor bytes).done ≡ q.done) × ((give_back_from q job cursor bytes).next_seq ≡ q.next_seq)
given_back q [] cursor bytes = (refl, refl)
given_back q (b ∷ bs) cursor bytes = (refl, refl)

back_level : (c y : Context) (dest : List Buffer) → Level c y → Level c (dest_back y dest)
back_level c y [] a = a
back_level c y (b ∷ bs) a =
    let g = given_back y.cap y.cap.job 0 [] in
    record { below = subst (AllBelow c.cap.next_seq) (sym g.0) a.below; next = g.1 ∙ a.next; phase = a.phase }

moved_level : (c y : Context) (j : JobData) (cursor : ℕ) (b : Bool) → Level c y → Level c (source_moved y j cursor b)
moved_level c y j cursor true a = record { below = a.below; next = a.next; phase = a.phase }
moved_level c y j cursor false a = record { below = a.below; next = a.next; phase = a.phase }

moved_job : (y : Context) (j : JobData) (cursor : ℕ) (b : Bool) → (source_moved y j cursor b).cap.job ≡ y.cap.job
moved_job y j cursor true = refl
moved_job y j cursor false = refl

stop_level : (c y : Context) (b : Bool) → Level c y → Level c (cond b (record y { phase = owe change }) y)
stop_level c y true a = record { below = a.below; next = a.next; phase = refl }
stop_level c y false a = a

key_with : (key : Bool) → eqb (bit_and (type_flag key + last_flag) last_flag) last_flag ≡ true
key_with true = refl
key_with false = refl

key_without : (key : Bool) → eqb (bit_and (type_flag key) last_flag) last_flag ≡ false
key_without true = refl
key_without false = refl

decoded_fresh : (c y : Context) (j : JobData) (cursor : ℕ) (result : DecodedResult) → y.cap.job ≡ j.dest → is_last c.phase ≡ false → Level c y → Fresh c (decoded_effect y j cursor result)
decoded_fresh c y j cursor (picture bytes key stamp) e n a =
    let used_up = cursor == j.source.used in
    dest_fresh c (source_moved y j cursor used_up) j.dest used_up (length bytes) bytes (type_flag key) stamp (moved_job y j cursor used_up ∙ e) n (moved_level c y j cursor used_up a) (key_with key) (key_without key)
decoded_fresh c y j cursor (damaged stamp) e n a =
    let used_up = cursor == j.source.used in
    dest_fresh c (source_moved y j cursor used_up) j.dest used_up 0 [] error_flag stamp (moved_job y j cursor used_up ∙ e) n (moved_level c y j cursor used_up a) refl refl
decoded_fresh c y j cursor (changed geometry) e n a =
    let here = dest_back (source_back y j cursor) j.dest in
    let b = back_level c (source_back y j cursor) j.dest (record { below = a.below; next = a.next; phase = a.phase }) in
    let there = record here { geometry = Some geometry; formats = formats_found here.formats geometry; events = raise_after here.events source_change_event 1 } in
    level_fresh c (cond here.cap.streams (record there { phase = owe change }) there) n (stop_level c there here.cap.streams (record { below = b.below; next = b.next; phase = b.phase }))
decoded_fresh c y j cursor spent e n a =
    level_fresh c (dest_back (source_done y j 0) j.dest) n (back_level c (source_done y j 0) j.dest (record { below = a.below; next = a.next; phase = a.phase }))

effect_fresh : (c y : Context) (j : JobData) (result : RunResult) → y.cap.job ≡ j.dest → is_last c.phase ≡ false → Level c y → Fresh c (run_effect y j result)
effect_fresh c y j (copied bytes) e n a =
    dest_fresh c (source_done y j 0) j.dest true (length bytes) bytes 0 j.source.stamp e n (record { below = a.below; next = a.next; phase = a.phase }) refl refl
effect_fresh c y j (encoded frame) e n a =
    dest_fresh c (source_done (record y { codec = encoder frame.state }) j 0) j.dest true (length frame.bytes) frame.bytes (type_flag frame.key)
    j.source.stamp e n (record { below = a.below; next = a.next; phase = a.phase }) (key_with frame.key) (key_without frame.key)
effect_fresh c y j (decoded step) e n a =
    decoded_fresh c (record y { codec = decoder step.state }) j (j.source.cursor + step.moved) (step_outcome j.format.fourcc step) e n (record { below = a.below; next = a.next; phase = a.phase })

run_not_last : (p : PhaseState) → is_run p ≡ true → is_last p ≡ false
run_not_last run e = refl
run_not_last (owe cause) e = refl
run_not_last (last cause) e = absurd (false≢true e)
run_not_last (stopped cause) e = refl

finish_step_told : (coder : Coder) (c : Context) (r : Running) (fault : Bool) → is_run c.phase ≡ true → InOrder c → LastStep c (after_finish coder c r fault)
unfolding after_finish
finish_step_told coder c r true p i =
    let n = run_not_last c.phase p in
    let z = record c { running = None; codec = reset c.codec } in
    fresh_step c _
    (settle_fresh c (fault_effect (record c { running = None }) (job_data c r))
    (dest_fresh c (source_done z (job_data c r) error_flag) c.cap.job true 0 [] error_flag (job_data c r).source.stamp refl n (record { below = i; next = refl; phase = n }) refl refl))
finish_step_told coder c r false p i =
    let n = run_not_last c.phase p in
    let y = record c { running = None } in
    fresh_step c _ (settle_fresh c (run_effect y (job_data c r) (run_result coder (job_data c r))) (effect_fresh c y (job_data c r) (run_result coder (job_data c r)) refl n (record { below = i; next = refl; phase = n })))

ended_slot : (coder : Coder) (c : Context) (o : Option Running) (fault : Bool) → HasItsBuffers c o → InOrder c → LastSlot c (solo_finish coder c o fault).slot
unfolding LastSlot
ended_slot coder c None fault h i = same_slot c i
ended_slot coder c (Some r) fault h i = finish_step_told coder c r fault h.0 i

-- Every step, and every run

answer_slot : (c : Context) (request : Call) (bytes : List ℕ) (found : Bool) → IsSettled c → InOrder c → LastSlot c (answer (Some c) request bytes found).slot
unfolding answer
answer_slot c request bytes found s i = context_slot c request bytes found s i

step_slot : (coder : Coder) (c : Context) (e : SoloEvent) → IsOrdered c → InOrder c → LastSlot c (solo_step coder (Some c) e).slot
unfolding solo_step
step_slot coder c (Called request bytes found) x i = answer_slot c request bytes found x.settled i
step_slot coder c Claims x i = claim_slot c (is_claimable (Some c)) i
step_slot coder c (Finishes fault) x i = ended_slot coder c c.running fault x.firm.has_buffers i

OrderSlot : Slot → Type 0
OrderSlot None = Unit {0}
OrderSlot (Some c) = InOrder c

order_of : (c : Context) (s : Slot) → LastSlot c s → OrderSlot s
unfolding LastSlot OrderSlot
order_of c None l = tt
order_of c (Some x) l = l.below

closed_order : (request : Call) (found : Bool) → OrderSlot (closed_answer request found).slot
unfolding closed_answer OrderSlot
closed_order (Open kind) true = refl
closed_order (Open kind) false = tt
closed_order request found = tt

opened_order : (coder : Coder) (e : SoloEvent) → OrderSlot (solo_step coder None e).slot
unfolding solo_step answer OrderSlot is_claimable
opened_order coder (Called request bytes found) = closed_order request found
opened_order coder Claims = tt
opened_order coder (Finishes fault) = tt

step_order : (coder : Coder) (s : Slot) (e : SoloEvent) → IsOrderedSlot s → OrderSlot s → OrderSlot (solo_step coder s e).slot
unfolding OrderSlot
step_order coder None e x o = opened_order coder e
step_order coder (Some c) e x o = order_of c (solo_step coder (Some c) e).slot (step_slot coder c e x o)

run_order : (coder : Coder) (s : Slot) (es : List SoloEvent) → IsOrderedSlot s → OrderSlot s → OrderSlot (solo_slot coder s es)
run_order coder s [] x o = o
run_order coder s (e ∷ es) x o =
    run_order coder (solo_step coder s e).slot es (step_sound coder s e x) (step_order coder s e x o)

context_order : (c : Context) → OrderSlot (Some c) → InOrder c
unfolding OrderSlot
context_order c o = o

told_of_slot : (c x : Context) → LastSlot c (Some x) → IsLastTold c x
unfolding LastSlot
told_of_slot c x l = l.told

none_order : OrderSlot None
unfolding OrderSlot
none_order = tt

pub last_is_told : LastIsTold
last_is_told coder events e before after p q =
    let x = subst IsOrderedSlot p (always_ordered coder events) in
    let o = context_order before (subst OrderSlot p (run_order coder None events tt none_order)) in
    told_of_slot before after (subst (LastSlot before) q (step_slot coder before e x o))
