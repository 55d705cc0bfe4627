-- What QBuf, DqBuf, StreamOn, STOP and START answer for a context that has the parts: what the queues answer, and what
-- becomes of the context is what becomes of its queues. No buffer in a job is touched, so the two go on agreeing.
use Rattle.std.proofs.Common.{ℕ, ◌≡◌, ◌≤◌, ◌<◌, ◌^◌, leb, leb-true, Bool, true, false, cond, not, ◌&&◌, Option, Some, None, Result, List, [], ◌∷◌, ◌++◌, refl, sym, ap, ◌∙◌, subst, arith}
use Rattle.std.specs.Prelude.{◌+◌, ◌==◌}
use Rattle.std.specs.List.{filter}
use Rattle.std.specs.Option.{ok_or}
use Rattle.std.proofs.lemmas.Bool.{and_parts, false≢true}
use Rattle.vc_base.specs.declared.Kind.{Kind}
use Rattle.vc_base.specs.declared.Side.{Side}
use Rattle.vc_base.specs.declared.Side.TheVariants.{Out, Cap}
use Rattle.vc_base.specs.declared.Errno.{Errno}
use Rattle.vc_base.specs.declared.Errno.TheVariants.{Again, Inval, Pipe}
use Rattle.vc_base.specs.declared.Stamp.{Stamp}
use Rattle.vc_base.specs.declared.Call.TheVariants.{QBuf, DqBuf}
use Rattle.vc_base.specs.declared.Reply.{Reply}
use Rattle.vc_base.specs.declared.Reply.TheVariants.{Done, Refused}
use Rattle.vc_base.specs.Buffers.{Buffer, QueueState, is_empty, refuse_if, with_index, held_refusal, qbuf_refusal, qbuf_after, queue_held, queued_buffer}
use Rattle.vc_base.specs.Buffers.{dqbuf_refusal, dqbuf_after, take_front, querybuf_reply, streamon_refusal, streamon_after}
use Rattle.vc_base.specs.Events.{EventState}
use Rattle.vc_model.specs.Formats.{FormatPair}
use Rattle.vc_model.specs.Context.{Context, drain, change, PhaseState, run, owe, last, stopped, settle, format_of, queue_of, with_queue, is_enc}
use Rattle.vc_model.specs.Answer.{Answer, unless, unless_or_block, answered, taken_answer, after_taking, qbuf_answer, dqbuf_answer, query_answer, streamon_answer, stop_answer, start_answer, command_answer, refused}
use Rattle.vc_model.specs.Phases.{is_stopped_by_drain}
use Rattle.vc_geom.specs.Pairs.{pair_of}
use Rattle.vc_pair.specs.Pairs.{PairState, queue_at, with_queue_at, pair_taken, pair_at_last, is_ended_at, pair_settled, raises_end, stop_refusal, pair_marked, start_refusal, pair_started, both_streaming, IsSettled, pair_put}
use Rattle.vc_pair.specs.Rows.{JobsAgree, AnswersWith, told}
use Rattle.vc_pair.proofs.PairRowsAreContextRows.{same_taken, same_commands}
use Rattle.vc_queue.specs.Answers.{answer_of, after_of, front_taken, queued_bytes, HandsBack}
use Rattle.vc_queue.specs.Holds.{HoldState, with_payload}
use Rattle.vc_context.specs.Contexts.{AreFilled, IsKept, Gives, told_of, taken_or_blocked}
use Rattle.vc_context.specs.Payloads.{Moves, handed_over, front_bytes}
use Rattle.vc_m2m.specs.declared.M2mContext.{M2mContext}
use Rattle.vc_m2m.specs.Parts.{ArePartsOf, size_at, settled_as}
use Rattle.vc_m2m.specs.Settling.{end_raised, events_settled}
use Rattle.vc_m2m.specs.Calls.{is_part, put_refusal, take_refusal, on_refusal, pair_on, settled_unless}
use Rattle.vc_m2m.proofs.PartsSettle.{with, ended_at, settle_at, still_at, same_jobs, called}

-- a queue that is refused, inside its pair
pub after_inside : (o : Option Errno) (p : PairState) (side : Side) (r : QueueState) → with_queue_at p side (after_of o (queue_at p side) r) ≡ after_of o p (with_queue_at p side r)
after_inside (Some e) p Out r = refl
after_inside (Some e) p Cap r = refl
after_inside None p side r = refl

pub settled_by_on :
    (m : M2mContext) (side : Side) (least : ℕ) (new : PairState) → least ≡ size_at m side
    → new ≡ with_queue_at m.pair side (after_of (streamon_refusal (queue_at m.pair side) least) (queue_at m.pair side) (streamon_after (queue_at m.pair side)))
    → settled_as m new ≡ settled_unless (on_refusal m side) m (pair_on m.pair side)
settled_by_on m side least new el en =
    let o : Option Errno = streamon_refusal (queue_at m.pair side) least in
    let inside : new ≡ after_of o m.pair (pair_on m.pair side) = en ∙ after_inside o m.pair side (streamon_after (queue_at m.pair side)) in
    ap (settled_as m) inside ∙ ap (λ (n : ℕ). settled_unless (streamon_refusal (queue_at m.pair side) n) m (pair_on m.pair side)) el

-- the jobs stay, and CAPTURE's numbers do not rise

pub record Stays (p q : PairState) : Type 0 where
  pub out : q.out.job ≡ p.out.job
  pub cap : q.cap.job ≡ p.cap.job
  pub done : q.cap.next_seq ≡ p.cap.next_seq

stays_after : (o : Option Errno) (p q : PairState) → Stays p q → Stays p (after_of o p q)
stays_after (Some e) p q s = record { out = refl; cap = refl; done = refl }
stays_after None p q s = s

pub room_after : (o : Option Errno) (p q new : PairState) → Stays p q → new ≡ after_of o p q → p.cap.next_seq < 2 ^ 62 → new.cap.next_seq < 2 ^ 62
room_after o p q new s e h =
    let t : Stays p (after_of o p q) = stays_after o p q s in
    let d : new.cap.next_seq ≡ p.cap.next_seq = ap (λ (x : PairState). x.cap.next_seq) e ∙ t.done in
    omega (arith, d, h)

pub on_stays : (p : PairState) (side : Side) → Stays p (pair_on p side)
on_stays p Out = record { out = refl; cap = refl; done = refl }
on_stays p Cap = record { out = refl; cap = refl; done = refl }

held_job : (q : QueueState) (index : ℕ) (f : Option Buffer) (used : ℕ) (stamp : Stamp) (bytes : List ℕ) → ((queue_held q index f used stamp bytes).job ≡ q.job) × ((queue_held q index f used stamp bytes).next_seq ≡ q.next_seq)
held_job q index None used stamp bytes = (refl, refl)
held_job q index (Some b) used stamp bytes = (refl, refl)

pub put_stays : (p : PairState) (side : Side) (index used : ℕ) (stamp : Stamp) (hold : HoldState) → Stays p (pair_put p side index used stamp hold)
put_stays p Out index used stamp hold =
    record { out = (held_job p.out index (with_index index p.out.held) used stamp (queued_bytes Out hold index used)).0; cap = refl; done = refl }
put_stays p Cap index used stamp hold =
    let h = held_job p.cap index (with_index index p.cap.held) used stamp (queued_bytes Cap hold index used) in
    record { out = refl; cap = h.0; done = h.1 }

front_job : (q : QueueState) (ds : List Buffer) → ((take_front q ds).job ≡ q.job) × ((take_front q ds).next_seq ≡ q.next_seq)
front_job q [] = (refl, refl)
front_job q (b ∷ rest) = (refl, refl)

last_stays : (p : PairState) (phase : PhaseState) (emptied : Bool) → Stays p (pair_at_last p phase emptied)
last_stays p run emptied = record { out = refl; cap = refl; done = refl }
last_stays p (owe cause) emptied = record { out = refl; cap = refl; done = refl }
last_stays p (last drain) true = record { out = refl; cap = refl; done = refl }
last_stays p (last drain) false = record { out = refl; cap = refl; done = refl }
last_stays p (last change) true = record { out = refl; cap = refl; done = refl }
last_stays p (last change) false = record { out = refl; cap = refl; done = refl }
last_stays p (stopped cause) emptied = record { out = refl; cap = refl; done = refl }

pub taken_stays : (p : PairState) (side : Side) → Stays p (pair_taken p side)
taken_stays p Out = record { out = (front_job p.out p.out.done).0; cap = refl; done = refl }
taken_stays p Cap =
    let q : PairState = record p { cap = dqbuf_after p.cap } in
    let s : Stays q (pair_taken p Cap) = last_stays q p.phase (is_empty q.cap.done) in
    let h = front_job p.cap p.cap.done in
    record { out = s.out; cap = s.cap ∙ h.0; done = s.done ∙ h.1 }

marked_stays : (p q : PairState) (a b : Bool) → Stays p q → Stays p (cond a p (cond b p q))
marked_stays p q true b s = record { out = refl; cap = refl; done = refl }
marked_stays p q false true s = record { out = refl; cap = refl; done = refl }
marked_stays p q false false s = s

pub stop_stays : (p : PairState) → Stays p (pair_marked p)
stop_stays p = marked_stays p (record p { mark = Some p.out.next_ordinal }) (not (both_streaming p)) (is_stopped_by_drain p.phase) (record { out = refl; cap = refl; done = refl })

pub start_stays : (p : PairState) → Stays p (pair_started p)
start_stays p = marked_stays p (record p { phase = run }) (not (both_streaming p)) false (record { out = refl; cap = refl; done = refl })

-- QBuf on CAPTURE does not look at the bytes

on_capture : (s : Side) (x : Buffer) (used : ℕ) (stamp : Stamp) (a b : List ℕ) (ordinal : ℕ) → s ≡ Cap → queued_buffer s x used stamp a ordinal ≡ queued_buffer s x used stamp b ordinal
on_capture Out x used stamp a b ordinal e = cc
on_capture Cap x used stamp a b ordinal e = refl

same_queued : (q : QueueState) (index : ℕ) (f : Option Buffer) (used : ℕ) (stamp : Stamp) (a b : List ℕ) → q.side ≡ Cap → queue_held q index f used stamp a ≡ queue_held q index f used stamp b
same_queued q index None used stamp a b e = refl
same_queued q index (Some x) used stamp a b e =
    let queued : Buffer → QueueState = λ y. record q { held = filter (λ h. not (h.index == index)) q.held; ready = q.ready ++ y ∷ []; next_ordinal = q.next_ordinal + 1 } in
    ap queued (on_capture q.side x used stamp a b q.next_ordinal e)

-- a part of a picture is refused as any other wrong QBuf is

whole_at : (b : Bool) (c : Context) (o : Option Errno) (effect : Answer) → b ≡ false → unless c o (unless c (refuse_if b Inval None) effect) ≡ unless c o effect
whole_at true c o effect e = absurd (false≢true (sym e))
whole_at false c o effect e = refl

held_inval : (side : Side) (o : Option Buffer) (used least : ℕ) (c : Context) (effect : Answer) → unless c (held_refusal side o used least) (refused c Inval) ≡ refused c Inval
held_inval side None used least c effect = refl
held_inval side (Some b) used least c effect = cases _ _
  where
    cases : (x y : Bool) → unless c (refuse_if x Inval (refuse_if y Inval None)) (refused c Inval) ≡ refused c Inval
    cases true y = refl
    cases false true = refl
    cases false false = refl

part_at : (b : Bool) (c : Context) (o : Option Errno) (effect : Answer) → b ≡ true → unless c o (refused c Inval) ≡ refused c Inval → unless c o (unless c (refuse_if b Inval None) effect) ≡ refused c Inval
part_at true c o effect e h = h
part_at false c o effect e h = absurd (false≢true e)

-- what QBuf does to the payloads of the user

put_moves :
    (c : Context) (o : Option Errno) (side : Side) (index used : ℕ) (stamp : Stamp) (old new : HoldState)
    → new ≡ after_of o old (with_payload old side index None)
    → Moves (Some c) (QBuf side index used stamp) (told_of {A = Unit {0}} (λ _. Done) (answer_of o tt)) old new
put_moves c (Some e) side index used stamp old new h = h
put_moves c None side index used stamp old new h = h

pub put_moved :
    (c : Context) (o : Option Errno) (side : Side) (index used : ℕ) (stamp : Stamp) (old new : HoldState) (result : Result (Unit {0}) Errno) (reply : Reply)
    → result ≡ answer_of o tt → reply ≡ told_of (λ _. Done) result → new ≡ after_of o old (with_payload old side index None)
    → Moves (Some c) (QBuf side index used stamp) reply old new
put_moved c o side index used stamp old new result reply er et h = rw (et, er) (put_moves c o side index used stamp old new h)

-- what DqBuf does to them

taken_moves :
    (c : Context) (side : Side) (block s ended : Bool) (ds : List Buffer) (old new : HoldState) → (queue_of c side).done ≡ ds → AreFilled ds
    → let o : Option Errno = refuse_if (not s) Inval (refuse_if ended Pipe (refuse_if (is_empty ds) Again None)) in
    HandsBack o side ds old new → Moves (Some c) (DqBuf side block) (taken_or_blocked block (answer_of o (front_taken ds))) old new
taken_moves c side true false ended ds old new e f h = h
taken_moves c side false false ended ds old new e f h = h
taken_moves c side true true true ds old new e f h = h
taken_moves c side false true true ds old new e f h = h
taken_moves c side true true false [] old new e f h = h
taken_moves c side false true false [] old new e f h = h
taken_moves c side block true false (b ∷ rest) old new e f h =
    let room : b.used ≤ b.size = leb-true b.used b.size (and_parts (leb b.used b.size) _ f).0 in
    let size = h.2 in
    record { payload = h.0; moved = h.1; room = omega (arith, room, size); begins = h.3 ∙ sym (ap front_bytes e) }

query_cases : (x : Context) (o : Option Reply) → Gives (query_answer x o) (told_of (λ r. r) (ok_or o Inval)) x
query_cases x None = record { reply = refl; context = refl }
query_cases x (Some r) = record { reply = refl; context = refl }

same_told : (o : Option Errno) → told o ≡ told_of {A = Unit {0}} (λ _. Done) (answer_of o tt)
same_told (Some e) = refl
same_told None = refl

module _ (c : Context) (m : M2mContext) (h : ArePartsOf c m) where
  abbrev at : PairState → EventState → Context
  at p e = with c (pair_of m.formats) p e

  abbrev here : Context
  here = at m.pair m.events

  jobs_here : JobsAgree here
  jobs_here = subst JobsAgree (sym h.parts) h.jobs

  jobs_after : (q : PairState) → Stays m.pair q → JobsAgree (at q m.events)
  jobs_after q s = same_jobs c (pair_of m.formats) m.pair q m.events m.events s.out s.cap jobs_here

  same_queue : (side : Side) → queue_of here side ≡ queue_at m.pair side
  same_queue Out = refl
  same_queue Cap = refl

  pub query_gives :
      (side : Side) (index : ℕ) (q : QueueState) (result : Result Reply Errno) (reply : Reply) → q ≡ queue_at m.pair side
      → result ≡ ok_or (querybuf_reply q index) Inval → reply ≡ told_of (λ r. r) result
      → Gives (query_answer c (querybuf_reply (queue_of c side) index)) reply c
  query_gives side index q result reply eq er et =
      let same : queue_of c side ≡ q = ap (λ (x : Context). queue_of x side) (sym h.parts) ∙ (same_queue side ∙ sym eq) in
      rw (et, er, same) (query_cases c (querybuf_reply q index))

  -- what the user holds after DqBuf

  filled_at : (side : Side) → IsKept here → AreFilled (queue_at m.pair side).done
  filled_at Out k = k.out_filled
  filled_at Cap k = k.cap_filled

  pub taken_moved :
      (side : Side) (block : Bool) (result : Result Reply Errno) (reply : Reply) (old new : HoldState)
      → result ≡ answer_of (take_refusal m.pair side) (front_taken (queue_at m.pair side).done) → reply ≡ taken_or_blocked block result → IsKept c
      → HandsBack (take_refusal m.pair side) side (queue_at m.pair side).done old new → Moves (Some c) (DqBuf side block) reply old new
  taken_moved side block result reply old new er et k b =
      rw (et, er)
      (subst
      (λ (x : Context). Moves (Some x) (DqBuf side block) (taken_or_blocked block (answer_of (take_refusal m.pair side) (front_taken (queue_at m.pair side).done))) old new)
      h.parts
      (taken_moves here side block (queue_at m.pair side).streams (is_ended_at m.pair side) (queue_at m.pair side).done old new
      (ap (λ (q : QueueState). q.done) (same_queue side)) (filled_at side (subst IsKept (sym h.parts) k)) b))

  module _ (s : IsSettled m.pair) where
    -- StreamOn

    on_row : (side : Side) → streamon_answer here side ≡ unless here (on_refusal m side) (answered (at (pair_on m.pair side) m.events) Done)
    on_row Out = refl
    on_row Cap = refl

    pub on_after :
        (side : Side) (least : ℕ) (new : PairState) → least ≡ size_at m side
        → new ≡ with_queue_at m.pair side (after_of (streamon_refusal (queue_at m.pair side) least) (queue_at m.pair side) (streamon_after (queue_at m.pair side)))
        → new ≡ after_of (on_refusal m side) m.pair (pair_on m.pair side)
    on_after side least new el en =
        rw (← el) (en ∙ after_inside (streamon_refusal (queue_at m.pair side) least) m.pair side (streamon_after (queue_at m.pair side)))

    pub on_gives :
        (side : Side) (least : ℕ) (new : PairState) (result : Result (Unit {0}) Errno) (reply : Reply) → least ≡ size_at m side
        → result ≡ answer_of (streamon_refusal (queue_at m.pair side) least) tt → new ≡ after_of (on_refusal m side) m.pair (pair_on m.pair side)
        → reply ≡ told_of (λ _. Done) result → Gives (streamon_answer c side) reply (at (pair_settled new) (events_settled new m.events))
    on_gives side least new result reply el er en et =
        subst (λ (x : Context). Gives (streamon_answer x side) reply (at (pair_settled new) (events_settled new m.events))) h.parts
        (rw (on_row side)
        (called c (pair_of m.formats) (λ (_ : Unit {0}). Done) tt (on_refusal m side) m.pair (pair_on m.pair side) new m.events result reply s
        (jobs_after (pair_on m.pair side) (on_stays m.pair side)) (rw (← el) er) en et))

    -- QBuf

    put_at :
        (side : Side) (index used : ℕ) (stamp : Stamp) (hold : HoldState) → IsKept here → is_part here.kind side used (size_at m side) ≡ false
        → qbuf_answer here side index used stamp (handed_over (QBuf side index used stamp) hold)
        ≡ unless here (qbuf_refusal (queue_at m.pair side) index used (size_at m side)) (answered (at (pair_put m.pair side index used stamp hold) m.events) Done)
    put_at Out index used stamp hold k w =
        whole_at (is_part here.kind Out used (size_at m Out)) here (qbuf_refusal m.pair.out index used (size_at m Out)) _ w
    put_at Cap index used stamp hold k w =
        let put : QueueState → Answer = λ r. unless here (qbuf_refusal m.pair.cap index used (size_at m Cap)) (answered (at (with_queue_at m.pair Cap r) m.events) Done) in
        ap put (same_queued m.pair.cap index (with_index index m.pair.cap.held) used stamp [] (queued_bytes Cap hold index used) k.cap_side)

    pub put_gives :
        (kind : Kind) (side : Side) (index used least : ℕ) (stamp : Stamp) (hold : HoldState) (new : PairState) (result : Result (Unit {0}) Errno) (reply : Reply)
        → c.kind ≡ kind → IsKept c → least ≡ size_at m side → is_part kind side used least ≡ false
        → result ≡ answer_of (qbuf_refusal (queue_at m.pair side) index used least) tt
        → new ≡ after_of (qbuf_refusal (queue_at m.pair side) index used least) m.pair (pair_put m.pair side index used stamp hold)
        → reply ≡ told_of (λ _. Done) result
        → Gives (qbuf_answer c side index used stamp (handed_over (QBuf side index used stamp) hold)) reply (at (pair_settled new) (events_settled new m.events))
    put_gives kind side index used least stamp hold new result reply ek k el w er en et =
        let whole : is_part here.kind side used (size_at m side) ≡ false = subst (λ (n : ℕ). is_part c.kind side used n ≡ false) el (subst (λ (x : Kind). is_part x side used least ≡ false) (sym ek) w) in
        subst
        (λ (x : Context). Gives (qbuf_answer x side index used stamp (handed_over (QBuf side index used stamp) hold)) reply (at (pair_settled new) (events_settled new m.events)))
        h.parts
        (rw (put_at side index used stamp hold (subst IsKept (sym h.parts) k) whole)
        (called c (pair_of m.formats) (λ (_ : Unit {0}). Done) tt (qbuf_refusal (queue_at m.pair side) index used (size_at m side)) m.pair
        (pair_put m.pair side index used stamp hold) new m.events result reply s
        (jobs_after (pair_put m.pair side index used stamp hold) (put_stays m.pair side index used stamp hold)) (rw (← el) er) (rw (← el) en) et))

    part_here : (side : Side) (index used : ℕ) (stamp : Stamp) (bytes : List ℕ) → is_part here.kind side used (size_at m side) ≡ true → qbuf_answer here side index used stamp bytes ≡ refused here Inval
    part_here Out index used stamp bytes w =
        part_at (is_part here.kind Out used (size_at m Out)) here (qbuf_refusal m.pair.out index used (size_at m Out)) _ w (held_inval m.pair.out.side (with_index index m.pair.out.held) used (size_at m Out) here (refused here Inval))
    part_here Cap index used stamp bytes w = absurd (false≢true w)

    pub part_gives :
        (kind : Kind) (side : Side) (index used least : ℕ) (stamp : Stamp) (bytes : List ℕ) → c.kind ≡ kind → least ≡ size_at m side
        → is_part kind side used least ≡ true → Gives (qbuf_answer c side index used stamp bytes) (Refused Inval) here
    part_gives kind side index used least stamp bytes ek el w =
        let part : is_part here.kind side used (size_at m side) ≡ true = subst (λ (n : ℕ). is_part c.kind side used n ≡ true) el (subst (λ (x : Kind). is_part x side used least ≡ true) (sym ek) w) in
        subst (λ (x : Context). Gives (qbuf_answer x side index used stamp bytes) (Refused Inval) here) h.parts (rw (part_here side index used stamp bytes part) (record { reply = refl; context = refl }))

    -- DqBuf

    settled_taken : (side : Side) → settle (after_taking (with_queue here side (dqbuf_after (queue_of here side))) side) ≡ at (pair_settled (pair_taken m.pair side)) (events_settled (pair_taken m.pair side) m.events)
    settled_taken side =
        ap settle (same_taken here side) ∙ settle_at c (pair_of m.formats) (pair_taken m.pair side) m.events (jobs_after (pair_taken m.pair side) (taken_stays m.pair side))

    same_here : here ≡ at (pair_settled m.pair) (events_settled m.pair m.events)
    same_here = sym (still_at c (pair_of m.formats) m.pair m.events s)

    taken_at :
        (side : Side) (block t ended : Bool) (ds : List Buffer)
        → let o : Option Errno = refuse_if (not t) Inval (refuse_if ended Pipe (refuse_if (is_empty ds) Again None)) in
        let q : PairState = after_of o m.pair (pair_taken m.pair side) in
        Gives (unless_or_block here o block (taken_answer here side ds)) (taken_or_blocked block (answer_of o (front_taken ds))) (at (pair_settled q) (events_settled q m.events))
    taken_at side true false ended ds = record { reply = refl; context = ap Some same_here }
    taken_at side false false ended ds = record { reply = refl; context = ap Some same_here }
    taken_at side true true true ds = record { reply = refl; context = ap Some same_here }
    taken_at side false true true ds = record { reply = refl; context = ap Some same_here }
    taken_at side true true false [] = record { reply = refl; context = ap Some same_here }
    taken_at side false true false [] = record { reply = refl; context = ap Some same_here }
    taken_at side block true false (b ∷ rest) = record { reply = refl; context = ap Some (settled_taken side) }

    dqbuf_at :
        (side : Side) (block : Bool)
        → let o : Option Errno = take_refusal m.pair side in
        let q : PairState = after_of o m.pair (pair_taken m.pair side) in
        Gives (dqbuf_answer here side block) (taken_or_blocked block (answer_of o (front_taken (queue_at m.pair side).done))) (at (pair_settled q) (events_settled q m.events))
    dqbuf_at Out block = taken_at Out block m.pair.out.streams false m.pair.out.done
    dqbuf_at Cap block = taken_at Cap block m.pair.cap.streams (is_ended_at m.pair Cap) m.pair.cap.done

    pub taken_gives :
        (side : Side) (block : Bool) (new : PairState) (result : Result Reply Errno) (reply : Reply)
        → result ≡ answer_of (take_refusal m.pair side) (front_taken (queue_at m.pair side).done)
        → new ≡ after_of (take_refusal m.pair side) m.pair (pair_taken m.pair side) → reply ≡ taken_or_blocked block result
        → Gives (dqbuf_answer c side block) reply (at (pair_settled new) (events_settled new m.events))
    taken_gives side block new result reply er en et =
        subst (λ (x : Context). Gives (dqbuf_answer x side block) reply (at (pair_settled new) (events_settled new m.events))) h.parts (rw (et, er, en) (dqbuf_at side block))

    -- STOP and START

    command_gives :
        (answer : Answer) (o : Option Errno) (q new : PairState) (result : Result (Unit {0}) Errno) (reply : Reply) → AnswersWith answer here o q
        → result ≡ answer_of o tt → new ≡ after_of o m.pair q → reply ≡ told_of (λ _. Done) result
        → Gives answer reply (at (pair_settled new) (events_settled new m.events))
    command_gives answer o q new result reply a er en et =
        rw (et, er, en) (record { reply = a.reply ∙ same_told o; context = a.slot ∙ ap Some (ended_at c (pair_of m.formats) m.pair (pair_settled (after_of o m.pair q)) m.events (raises_end (after_of o m.pair q))) })

    pub stop_gives :
        (new : PairState) (result : Result (Unit {0}) Errno) (reply : Reply) → result ≡ answer_of (stop_refusal m.pair) tt
        → new ≡ after_of (stop_refusal m.pair) m.pair (pair_marked m.pair) → reply ≡ told_of (λ _. Done) result
        → Gives (stop_answer c) reply (at (pair_settled new) (events_settled new m.events))
    stop_gives new result reply er en et =
        subst (λ (x : Context). Gives (stop_answer x) reply (at (pair_settled new) (events_settled new m.events))) h.parts
        (command_gives (stop_answer here) (stop_refusal m.pair) (pair_marked m.pair) new result reply (same_commands here jobs_here s).stop er en et)

    pub start_gives :
        (new : PairState) (result : Result (Unit {0}) Errno) (reply : Reply) → result ≡ answer_of (start_refusal m.pair m.formats.cap.size) tt
        → new ≡ after_of (start_refusal m.pair m.formats.cap.size) m.pair (pair_started m.pair) → reply ≡ told_of (λ _. Done) result
        → Gives (start_answer c) reply (at (pair_settled new) (events_settled new m.events))
    start_gives new result reply er en et =
        subst (λ (x : Context). Gives (start_answer x) reply (at (pair_settled new) (events_settled new m.events))) h.parts
        (command_gives (start_answer here) (start_refusal m.pair m.formats.cap.size) (pair_started m.pair) new result reply (same_commands here jobs_here s).start er en et)
