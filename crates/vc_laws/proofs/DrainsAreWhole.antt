-- Where a decoder gives the LAST buffer of a drain, its runs consumed the sources before the mark, each whole and in
-- order. After each event the bytes of the sources that are gone, with those of the front one before its cursor, are
-- the bytes that the runs consumed. At the end of a drain no source before the mark waits.
use Rattle.std.proofs.Common.{ℕ, zero, suc, ◌≡◌, ◌≤◌, ◌+◌, ◌==◌, min, nat_lt, Bool, true, false, not, cond, ◌&&◌, ◌||◌, Option, Some, None, List, [], ◌∷◌, ◌++◌, length, take, drop, map, refl, sym, ap, ◌∙◌, subst, arith, ⊎_elim}
use Rattle.std.specs.List.{filter, find, list_all, flat_map}
use Rattle.std.proofs.lemmas.Bool.{false≢true, lt-ltb, eqb-true}
use Rattle.std.proofs.lemmas.List.{append-nil, append_assoc, map-append, take-append-drop}
use Rattle.std.proofs.lemmas.List.Elements.{filter-append}
use Rattle.std.proofs.lemmas.List.Folds.{list_all-append}
use Rattle.std.proofs.lemmas.Grind.{flat_map-append}
use Rattle.std.proofs.Math.Seq.{take-add, take-length, drop-append_seam}
use Rattle.vc_base.specs.declared.Stamp.{Stamp}
use Rattle.vc_base.specs.declared.Side.TheVariants.{Out}
use Rattle.vc_base.specs.declared.Kind.{Kind}
use Rattle.vc_base.specs.declared.Kind.TheVariants.{Dec}
use Rattle.vc_base.specs.declared.Call.{Call}
use Rattle.vc_base.specs.declared.Call.TheVariants.{Open, QBuf, DecCmd, EncCmd}
use Rattle.vc_base.specs.declared.Reply.{Reply}
use Rattle.vc_base.specs.declared.Reply.TheVariants.{Done}
use Rattle.vc_base.specs.Buffers.{Buffer, QueueState, lend_front, buffer_count, created, held_again, new_buffers, with_index, queued_buffer, queue_held}
use Rattle.vc_defs.specs.Decoder.{FrameResult, DecodedStep}
use Rattle.vc_model.specs.Coder.{Coder, CodecState, no_codec, encoder, decoder}
use Rattle.vc_model.specs.Context.{Context, Slot, Running, RunSort, copy, encode, decode, probe, Cause, drain, change, PhaseState, run, owe, last, stopped, fresh_context, is_dec, is_enc, is_run, is_drained, has_before}
use Rattle.vc_model.specs.Answer.{answer, closed_answer, mark_after_restart}
use Rattle.vc_model.specs.Runs.{front_is_due, running_of, sort_of, source_of, JobData, job_data, RunResult, decoded, run_result, run_of, decode_run}
use Rattle.vc_model.specs.Solo.{SoloEvent, Called, Claims, Finishes, SoloReply, Answered, Claimed, Finished, solo_step, solo_run, solo_slot}
use Rattle.vc_model.specs.Places.{is_honest_call, is_honest, AreHonest}
use Rattle.vc_model.specs.Sound.{CountsUp, HasCodec, MarkIsQueued, IsSoundButUnsettled, IsOrdered, IsOrderedSlot, is_at_end}
use Rattle.vc_model.specs.Drains.{is_last_by_drain, gives_last, done_now}
use Rattle.vc_model.proofs.PartsOfTests.{and_left, and_right, and_both, not_true, or_cases}
use Rattle.vc_model.proofs.CallsKeepFirm.{idle}
use Rattle.vc_model.proofs.EventsKeepSound.{always_ordered, step_sound}
use Rattle.vc_laws.specs.Segments.{Segment, fresh_segment, consumed, after_run, segment_of_step, segment_of_slots, segment_step, segment_of, call_resets}
use Rattle.vc_laws.specs.Drains.{is_stop_call, before_mark, IsWholeDrain, DrainsAreWhole}
use Rattle.vc_laws.proofs.EffectsOfCalls.{is_command, Settles, still, owes, gives, MarkAfterLast, Effect, stays, closes, has_events, has_rates, has_out_format}
use Rattle.vc_laws.proofs.EffectsOfCalls.{has_cap_format, has_out_buffers, has_cap_buffers, adds_out, adds_cap, queues_out, queues_cap, takes_out, takes_cap}
use Rattle.vc_laws.proofs.EffectsOfCalls.{takes_last, streams_out, streams_cap, stops_out, stops_cap, rests_cap, sets_mark, starts, queued_ordinal}
use Rattle.vc_laws.proofs.EffectsOfEvents.{done_out, back_out, moved_out, HasJob, Puts, puts_fault, puts_copy, puts_frame, puts_picture, puts_damage, Ends}
use Rattle.vc_laws.proofs.EffectsOfEvents.{alone, kept, ended, halts, spends, Step, calls, rests, lacks_job, claims, finishes, faults, step_of}
use Rattle.vc_laws.proofs.OpenContextsAreTidy.{always_tidy, IsTidy, IsRunOf, HasRun, TidySlot, KindSlot, step_kind}
use Rattle.vc_laws.proofs.SegmentsGoOn.{segment_more, adds_none, goes_on, begins_anew, finished_segment, nothing_segment, holds_if_honest}

-- the buffer as it was queued
abbrev pub as_queued : Buffer → Buffer
as_queued b = record b { cursor = 0 }

-- the bytes of the front buffer that runs consumed
pub begun : List Buffer → List ℕ
begun [] = []
begun (b ∷ bs) = take b.cursor b.bytes

abbrev pub is_unread : Buffer → Bool
is_unread b = b.cursor == 0

abbrev pub has_bytes : Buffer → Bool
has_bytes b = length b.bytes == b.used

abbrev pub is_due : Option ℕ → Buffer → Bool
is_due mark b = front_is_due (b ∷ []) mark

-- a front buffer that runs began is before the mark
pub begun_due : List Buffer → Option ℕ → Bool
begun_due [] mark = true
begun_due (b ∷ bs) mark = is_unread b || is_due mark b

-- The bytes of a segment against its sources: those that are gone, and those that wait, the one in the job first.
pub record AreWhole (bytes : List ℕ) (sources ws held : List Buffer) (next : ℕ) (mark : Option ℕ) : Type 0 where
  pub gone : List Buffer
  pub sources_are : sources ≡ gone ++ map as_queued ws
  pub bytes_are : bytes ≡ flat_map (λ b. b.bytes) gone ++ begun ws
  pub behind : list_all is_unread (drop 1 ws) ≡ true
  pub started : begun_due ws mark ≡ true
  pub due : list_all (is_due mark) gone ≡ true
  pub honest : list_all has_bytes ws ≡ true
  pub unread : list_all is_unread held ≡ true
  pub first : ℕ
  pub counts : CountsUp sources first next

-- Lists

pub all_end : (t : Buffer → Bool) (bs : List Buffer) (x : Buffer) → list_all t bs ≡ true → t x ≡ true → list_all t (bs ++ x ∷ []) ≡ true
all_end t bs x h e =
    list_all-append t bs (x ∷ []) ∙ (ap (λ b. b && (t x && true)) h ∙ ap (λ b. b && true) e)

all_both : (t : Buffer → Bool) (xs ys : List Buffer) → list_all t xs ≡ true → list_all t ys ≡ true → list_all t (xs ++ ys) ≡ true
all_both t xs ys p q = list_all-append t xs ys ∙ and_both (list_all t xs) (list_all t ys) p q

again_unread : (bs : List Buffer) → list_all is_unread (map held_again bs) ≡ true
again_unread [] = refl
again_unread (b ∷ bs) = again_unread bs

new_unread : (size first count : ℕ) → list_all is_unread (new_buffers size first count) ≡ true
new_unread size first zero = refl
new_unread size first (suc count) = new_unread size (first + 1) count

filter_split : (t p : Buffer → Bool) (x : Buffer) (bs : List Buffer) (b : Bool) → (t x && list_all t bs) ≡ true → list_all t (filter p bs) ≡ true → list_all t (cond b (x ∷ filter p bs) (filter p bs)) ≡ true
filter_split t p x bs true h k = and_both (t x) (list_all t (filter p bs)) (and_left (t x) (list_all t bs) h) k
filter_split t p x bs false h k = k

all_filter : (t p : Buffer → Bool) (bs : List Buffer) → list_all t bs ≡ true → list_all t (filter p bs) ≡ true
all_filter t p [] h = refl
all_filter t p (x ∷ bs) h = filter_split t p x bs (p x) h (all_filter t p bs (and_right (t x) (list_all t bs) h))

found_split : (t : Buffer → Bool) (x b : Buffer) (o : Option Buffer) (k : Bool) → t x ≡ true → (o ≡ Some b → t b ≡ true) → cond k (Some x) o ≡ Some b → t b ≡ true
found_split t x b o true h g e = subst (λ z. t z ≡ true) (let q : x ≡ b = cc in q) h
found_split t x b o false h g e = g e

all_find : (t p : Buffer → Bool) (bs : List Buffer) (b : Buffer) → list_all t bs ≡ true → find p bs ≡ Some b → t b ≡ true
all_find t p [] b h e = absurd (cc)
all_find t p (x ∷ bs) b h e =
    found_split t x b (find p bs) (p x) (and_left (t x) (list_all t bs) h) (λ (q : find p bs ≡ Some b). all_find t p bs b (and_right (t x) (list_all t bs) h) q) e

unread_begun : (ws : List Buffer) → list_all is_unread ws ≡ true → begun ws ≡ []
unfolding begun
unread_begun [] h = refl
unread_begun (b ∷ bs) h = ap (λ n. take n b.bytes) (eqb-true b.cursor 0 (and_left (is_unread b) (list_all is_unread bs) h))

unread_due : (ws : List Buffer) (mark : Option ℕ) → list_all is_unread ws ≡ true → begun_due ws mark ≡ true
unfolding begun_due
unread_due [] mark h = refl
unread_due (b ∷ bs) mark h = ap (λ x. x || is_due mark b) (and_left (is_unread b) (list_all is_unread bs) h)

unread_behind : (ws : List Buffer) → list_all is_unread ws ≡ true → list_all is_unread (drop 1 ws) ≡ true
unread_behind [] h = refl
unread_behind (b ∷ bs) h = and_right (is_unread b) (list_all is_unread bs) h

unread_as_queued : (ws : List Buffer) → list_all is_unread ws ≡ true → map as_queued ws ≡ ws
unread_as_queued [] h = refl
unread_as_queued (b ∷ bs) h =
    ap (λ n. record b { cursor = n } ∷ map as_queued bs) (sym (eqb-true b.cursor 0 (and_left (is_unread b) (list_all is_unread bs) h))) ∙ ap (λ l. b ∷ l) (unread_as_queued bs (and_right (is_unread b) (list_all is_unread bs) h))

-- Ordinals

pub counts_end : (bs : List Buffer) (x : Buffer) (first next : ℕ) → CountsUp bs first next → x.ordinal ≡ next → CountsUp (bs ++ x ∷ []) first (next + 1)
counts_end [] x first next u o = (o ∙ sym u, ap (λ n. n + 1) u)
counts_end (b ∷ bs) x first next u o = (u.0, counts_end bs x (first + 1) next u.1 o)

counts_up : (bs : List Buffer) (first next : ℕ) → CountsUp bs first next → first ≤ next
counts_up [] first next u = omega (arith, u)
counts_up (b ∷ bs) first next u = let h = counts_up bs (first + 1) next u.1 in omega arith

pub counts_due : (bs : List Buffer) (first next : ℕ) → CountsUp bs first next → list_all (is_due (Some next)) bs ≡ true
counts_due [] first next u = refl
counts_due (b ∷ bs) first next u =
    let h = counts_up bs (first + 1) next u.1 in
    let o = u.0 in
    and_both (nat_lt b.ordinal next) (list_all (is_due (Some next)) bs) (lt-ltb b.ordinal next (omega arith)) (counts_due bs (first + 1) next u.1)

-- Marks

pub all_due_none : (bs : List Buffer) → list_all (is_due None) bs ≡ true
all_due_none [] = refl
all_due_none (b ∷ bs) = all_due_none bs

or_true : (b : Bool) → (b || true) ≡ true
or_true true = refl
or_true false = refl

begun_due_none : (ws : List Buffer) → begun_due ws None ≡ true
unfolding begun_due
begun_due_none [] = refl
begun_due_none (b ∷ bs) = or_true (is_unread b)

unmarked : {bytes : List ℕ} {sources ws held : List Buffer} {next : ℕ} {mark : Option ℕ} → AreWhole bytes sources ws held next mark → AreWhole bytes sources ws held next None
unmarked {ws = ws} w =
    record { gone = w.gone; sources_are = w.sources_are; bytes_are = w.bytes_are; behind = w.behind; started = begun_due_none ws; due = all_due_none w.gone; honest = w.honest; unread = w.unread; first = w.first; counts = w.counts }

begun_due_next : (gone ws : List Buffer) (first next : ℕ) → CountsUp (gone ++ map as_queued ws) first next → begun_due ws (Some next) ≡ true
unfolding begun_due
begun_due_next gone [] first next u = refl
begun_due_next gone (b ∷ bs) first next u =
    let all = sym (list_all-append (is_due (Some next)) gone (as_queued b ∷ map as_queued bs)) ∙ counts_due (gone ++ as_queued b ∷ map as_queued bs) first next u in
    let mine = and_left (nat_lt b.ordinal next) (list_all (is_due (Some next)) (map as_queued bs)) (and_right (list_all (is_due (Some next)) gone) _ all) in
    ap (λ x. is_unread b || x) mine ∙ or_true (is_unread b)

marked : {bytes : List ℕ} {sources ws held : List Buffer} {next : ℕ} {mark : Option ℕ} → AreWhole bytes sources ws held next mark → AreWhole bytes sources ws held next (Some next)
marked {ws = ws} {next = next} w =
    let u = subst (λ l. CountsUp l w.first next) w.sources_are w.counts in
    record {
      gone = w.gone;
      sources_are = w.sources_are;
      bytes_are = w.bytes_are;
      behind = w.behind;
      started = begun_due_next w.gone ws w.first next u;
      due = and_left (list_all (is_due (Some next)) w.gone) (list_all (is_due (Some next)) (map as_queued ws)) (sym (list_all-append (is_due (Some next)) w.gone (map as_queued ws)) ∙ counts_due (w.gone ++ map as_queued ws) w.first next u);
      honest = w.honest;
      unread = w.unread;
      first = w.first;
      counts = w.counts;
    }

taken_mark : {bytes : List ℕ} {sources ws held : List Buffer} {next : ℕ} (cause : Cause) (old new : Option ℕ) → MarkAfterLast cause old new → AreWhole bytes sources ws held next old → AreWhole bytes sources ws held next new
taken_mark {bytes = bytes} {sources = sources} {ws = ws} {held = held} {next = next} drain old new m w =
    subst (AreWhole bytes sources ws held next) (sym m) (unmarked w)
taken_mark {bytes = bytes} {sources = sources} {ws = ws} {held = held} {next = next} change old new m w =
    subst (AreWhole bytes sources ws held next) (sym m) w

restarted : {bytes : List ℕ} {sources ws held : List Buffer} {next : ℕ} (phase : PhaseState) (mark : Option ℕ) → AreWhole bytes sources ws held next mark → AreWhole bytes sources ws held next (mark_after_restart phase mark)
restarted run mark w = unmarked w
restarted (owe drain) mark w = unmarked w
restarted (owe change) mark w = w
restarted (last drain) mark w = unmarked w
restarted (last change) mark w = w
restarted (stopped drain) mark w = unmarked w
restarted (stopped change) mark w = w

-- Buffers that move

-- other buffers in the user's hand
others_held : {bytes : List ℕ} {sources ws held : List Buffer} {next : ℕ} {mark : Option ℕ} (hs : List Buffer) → list_all is_unread hs ≡ true → AreWhole bytes sources ws held next mark → AreWhole bytes sources ws hs next mark
others_held hs h w =
    record { gone = w.gone; sources_are = w.sources_are; bytes_are = w.bytes_are; behind = w.behind; started = w.started; due = w.due; honest = w.honest; unread = h; first = w.first; counts = w.counts }

-- one more buffer is queued
begun_more : (ws : List Buffer) (x : Buffer) → is_unread x ≡ true → begun (ws ++ x ∷ []) ≡ begun ws
unfolding begun
begun_more [] x e = ap (λ n. take n x.bytes) (eqb-true x.cursor 0 e)
begun_more (b ∷ bs) x e = refl

behind_more : (ws : List Buffer) (x : Buffer) → is_unread x ≡ true → list_all is_unread (drop 1 ws) ≡ true → list_all is_unread (drop 1 (ws ++ x ∷ [])) ≡ true
behind_more [] x e h = refl
behind_more (b ∷ bs) x e h = all_end is_unread bs x h e

due_more : (ws : List Buffer) (x : Buffer) (mark : Option ℕ) → is_unread x ≡ true → begun_due ws mark ≡ true → begun_due (ws ++ x ∷ []) mark ≡ true
unfolding begun_due
due_more [] x mark e h = ap (λ b. b || is_due mark x) e
due_more (b ∷ bs) x mark e h = h

queued :
    {bytes : List ℕ} {sources ws held : List Buffer} {next : ℕ} {mark : Option ℕ} (hs : List Buffer) (x : Buffer) → list_all is_unread hs ≡ true
    → is_unread x ≡ true → has_bytes x ≡ true → x.ordinal ≡ next → AreWhole bytes sources ws held next mark
    → AreWhole bytes (sources ++ x ∷ []) (ws ++ x ∷ []) hs (next + 1) mark
queued {bytes = bytes} {sources = sources} {ws = ws} {next = next} {mark = mark} hs x h e b o w =
    let same : as_queued x ≡ x = ap (λ n. record x { cursor = n }) (sym (eqb-true x.cursor 0 e)) in
    record {
      gone = w.gone;
      sources_are = ap (λ l. l ++ x ∷ []) w.sources_are ∙ (append_assoc w.gone (map as_queued ws) (x ∷ []) ∙ ap (λ l. w.gone ++ l) (ap (λ y. map as_queued ws ++ y ∷ []) (sym same) ∙ sym (map-append as_queued ws (x ∷ []))));
      bytes_are = w.bytes_are ∙ ap (λ l. flat_map (λ y. y.bytes) w.gone ++ l) (sym (begun_more ws x e));
      behind = behind_more ws x e w.behind;
      started = due_more ws x mark e w.started;
      due = w.due;
      honest = all_end has_bytes ws x w.honest b;
      unread = h;
      first = w.first;
      counts = counts_end sources x w.first next w.counts o;
    }

-- the front buffer is used up: its last bytes are consumed
flat_end : (gone : List Buffer) (b : Buffer) → flat_map (λ y. y.bytes) (gone ++ as_queued b ∷ []) ≡ flat_map (λ y. y.bytes) gone ++ b.bytes
flat_end gone b =
    flat_map-append (λ y. y.bytes) gone (as_queued b ∷ []) ∙ ap (λ l. flat_map (λ y. y.bytes) gone ++ l) (append-nil b.bytes)

used_up :
    {bytes : List ℕ} {sources held : List Buffer} {next : ℕ} {mark : Option ℕ} (b : Buffer) (ws : List Buffer)
    (more : List ℕ)
    → take b.cursor b.bytes ++ more ≡ b.bytes → is_due mark b ≡ true → AreWhole bytes sources (b ∷ ws) held next mark
    → AreWhole (bytes ++ more) sources ws held next mark
unfolding begun
used_up {bytes = bytes} {mark = mark} b ws more m d w =
    let flat = flat_map (λ y. y.bytes) w.gone in
    record {
      gone = w.gone ++ as_queued b ∷ [];
      sources_are = w.sources_are ∙ sym (append_assoc w.gone (as_queued b ∷ []) (map as_queued ws));
      bytes_are =
          ap (λ l. l ++ more) w.bytes_are
          ∙ (append_assoc flat (take b.cursor b.bytes) more
          ∙ (ap (λ l. flat ++ l) m
          ∙ (sym (flat_end w.gone b)
          ∙ (sym (append-nil (flat_map (λ y. y.bytes) (w.gone ++ as_queued b ∷ []))) ∙ ap (λ l. flat_map (λ y. y.bytes) (w.gone ++ as_queued b ∷ []) ++ l) (sym (unread_begun ws w.behind))))));
      behind = unread_behind ws w.behind;
      started = unread_due ws mark w.behind;
      due = all_end (is_due mark) w.gone (as_queued b) w.due d;
      honest = and_right (has_bytes b) (list_all has_bytes ws) w.honest;
      unread = w.unread;
      first = w.first;
      counts = w.counts;
    }

-- the front buffer goes back with a new cursor
goes_back :
    {bytes : List ℕ} {sources held : List Buffer} {next : ℕ} {mark : Option ℕ} (b : Buffer) (ws : List Buffer) (k : ℕ) → is_due mark b ≡ true
    → AreWhole bytes sources (b ∷ ws) held next mark
    → AreWhole (bytes ++ take k (drop b.cursor b.bytes)) sources (record b { cursor = b.cursor + k } ∷ ws) held next mark
unfolding begun begun_due
goes_back {bytes = bytes} {mark = mark} b ws k d w =
    let flat = flat_map (λ y. y.bytes) w.gone in
    record {
      gone = w.gone;
      sources_are = w.sources_are;
      bytes_are = ap (λ l. l ++ take k (drop b.cursor b.bytes)) w.bytes_are ∙ (append_assoc flat (take b.cursor b.bytes) (take k (drop b.cursor b.bytes)) ∙ ap (λ l. flat ++ l) (sym (take-add b.cursor k b.bytes)));
      behind = w.behind;
      started = ap (λ x. is_unread (record b { cursor = b.cursor + k }) || x) d ∙ or_true (is_unread (record b { cursor = b.cursor + k }));
      due = w.due;
      honest = w.honest;
      unread = w.unread;
      first = w.first;
      counts = w.counts;
    }

-- a segment that begins with these buffers ready
afresh : {ws held : List Buffer} {next : ℕ} {mark : Option ℕ} (first : ℕ) → list_all is_unread ws ≡ true → list_all has_bytes ws ≡ true → list_all is_unread held ≡ true → CountsUp ws first next → AreWhole [] ws ws held next mark
afresh {ws = ws} {mark = mark} first u b h k =
    record {
      gone = [];
      sources_are = sym (unread_as_queued ws u);
      bytes_are = sym (unread_begun ws u);
      behind = unread_behind ws u;
      started = unread_due ws mark u;
      due = refl;
      honest = b;
      unread = h;
      first = first;
      counts = k;
    }

-- The end

pub filter_due : (bs : List Buffer) (m : ℕ) → list_all (is_due (Some m)) bs ≡ true → before_mark m bs ≡ bs
filter_due [] m h = refl
filter_due (b ∷ bs) m h =
    ap (λ t. cond t (b ∷ before_mark m bs) (before_mark m bs)) (and_left (nat_lt b.ordinal m) (list_all (is_due (Some m)) bs) h) ∙ ap (λ l. b ∷ l) (filter_due bs m (and_right (nat_lt b.ordinal m) (list_all (is_due (Some m)) bs) h))

pub or_left : (a b : Bool) → (a || b) ≡ false → (a ≡ false) × (b ≡ false)
or_left true b e = absurd (false≢true (sym e))
or_left false b e = (refl, e)

filter_behind : (ws : List Buffer) (m : ℕ) → has_before ws m ≡ false → before_mark m (map as_queued ws) ≡ []
filter_behind [] m h = refl
filter_behind (b ∷ bs) m h =
    let p = or_left (nat_lt b.ordinal m) (has_before bs m) h in
    ap (λ t. cond t (as_queued b ∷ before_mark m (map as_queued bs)) (before_mark m (map as_queued bs))) p.0 ∙ filter_behind bs m p.1

none_begun : (ws : List Buffer) (m : ℕ) → begun_due ws (Some m) ≡ true → has_before ws m ≡ false → begun ws ≡ []
unfolding begun begun_due
none_begun [] m d h = refl
none_begun (b ∷ bs) m d h =
    let p = or_left (nat_lt b.ordinal m) (has_before bs m) h in
    ⊎_elim (λ (e : is_unread b ≡ true). ap (λ n. take n b.bytes) (eqb-true b.cursor 0 e)) (λ (e : nat_lt b.ordinal m ≡ true). absurd (false≢true (sym p.0 ∙ e))) (or_cases (is_unread b) (nat_lt b.ordinal m) d)

whole_end : (seg : Segment) (ws held : List Buffer) (next m : ℕ) → AreWhole seg.bytes seg.sources ws held next (Some m) → has_before ws m ≡ false → IsWholeDrain seg m next
whole_end seg ws held next m w h =
    let sources : before_mark m seg.sources ≡ w.gone =
    ap (before_mark m) w.sources_are
    ∙ (filter-append (λ b. nat_lt b.ordinal m) w.gone (map as_queued ws)
    ∙ (ap (λ l. l ++ before_mark m (map as_queued ws)) (filter_due w.gone m w.due) ∙ (ap (λ l. w.gone ++ l) (filter_behind ws m h) ∙ append-nil w.gone))) in
    record {
      bytes = w.bytes_are ∙ (ap (λ l. flat_map (λ b. b.bytes) w.gone ++ l) (none_begun ws m w.started h) ∙ (append-nil (flat_map (λ b. b.bytes) w.gone) ∙ ap (λ l. flat_map (λ b. b.bytes) l) (sym sources)));
      first = w.first;
      ascending = w.counts;
    }

-- Steps of a decoder

abbrev pub IsWhole : Segment → Context → Type 0
IsWhole seg c = AreWhole seg.bytes seg.sources (c.out.job ++ c.out.ready) c.out.held c.out.next_ordinal c.mark

pub WholeAt : Slot → Segment → Type 0
WholeAt None seg = Unit {0}
WholeAt (Some c) seg = c.kind ≡ Dec → IsWhole seg c

is_whole : (c : Context) (seg : Segment) → IsWhole seg c → WholeAt (Some c) seg
unfolding WholeAt
is_whole c seg w k = w

closed_whole : (seg : Segment) → WholeAt None seg
unfolding WholeAt
closed_whole seg = tt

dec_is : (c : Context) → c.kind ≡ Dec → is_dec c.kind ≡ true
dec_is c k = ap is_dec k

not_enc : (c : Context) → c.kind ≡ Dec → is_enc c.kind ≡ false
not_enc c k = ap is_enc k

-- the segment of a call that resets nothing and queues no source
called_whole :
    (coder : Coder) (seg : Segment) (c y : Context) (request : Call) (bytes : List ℕ) (found : Bool) (reply : Reply) (handed : List ℕ)
    → call_resets c request reply ≡ false → y.out.ready ≡ c.out.ready → IsWhole seg y
    → WholeAt (Some y) (segment_of_step coder seg c y (Called request bytes found) (Answered reply handed))
called_whole coder seg c y request bytes found reply handed r e w =
    is_whole y _
    (subst (λ s. IsWhole s y) (sym (goes_on coder seg c y request bytes found reply handed [] r (adds_none c y request reply e)))
    (subst (λ l. AreWhole seg.bytes l (y.out.job ++ y.out.ready) y.out.held y.out.next_ordinal y.mark) (sym (append-nil seg.sources)) w))

settled_whole : (seg : Segment) (x y : Context) → Settles x y → (IsWhole seg x → IsWhole seg y) × (y.out.ready ≡ x.out.ready)
settled_whole seg x y still = (λ w. w, refl)
settled_whole seg x y (owes p r) = (λ w. w, refl)
settled_whole seg x y (gives cause b rest events r p) = (λ w. w, refl)

-- a segment that begins with no buffer
empty_whole :
    (coder : Coder) (seg : Segment) (c y : Context) (request : Call) (bytes : List ℕ) (found : Bool) (reply : Reply) (handed : List ℕ)
    → call_resets c request reply ≡ true → y.out.ready ≡ [] → y.out.job ≡ [] → list_all is_unread y.out.held ≡ true
    → WholeAt (Some y) (segment_of_step coder seg c y (Called request bytes found) (Answered reply handed))
empty_whole coder seg c y request bytes found reply handed r e j h =
    is_whole y _
    (subst (λ s. IsWhole s y) (sym (begins_anew coder seg c y request bytes found reply handed r))
    (subst (λ l. AreWhole [] y.out.ready (l ++ y.out.ready) y.out.held y.out.next_ordinal y.mark) (sym j)
    (subst (λ l. AreWhole [] l l y.out.held y.out.next_ordinal y.mark) (sym e) (afresh y.out.next_ordinal refl refl h refl))))

queue_whole :
    (coder : Coder) (seg : Segment) (c : Context) (index used : ℕ) (stamp : Stamp) (bytes : List ℕ) (found : Bool) (handed : List ℕ) (b : Buffer)
    → with_index index c.out.held ≡ Some b → c.out.side ≡ Out → (length bytes == used) ≡ true → IsWhole seg c
    → IsWhole
    (segment_of_step coder seg c (record c { out = queue_held c.out index (Some b) used stamp bytes }) (Called (QBuf Out index used stamp) bytes found) (Answered Done handed))
    (record c { out = queue_held c.out index (Some b) used stamp bytes })
queue_whole coder seg c index used stamp bytes found handed b e side n w =
    let x = queued_buffer c.out.side b used stamp bytes c.out.next_ordinal in
    let y = record c { out = queue_held c.out index (Some b) used stamp bytes } in
    let unread : is_unread x ≡ true = ap (λ s. is_unread (queued_buffer s b used stamp bytes c.out.next_ordinal)) side ∙ all_find is_unread (λ h. h.index == index) c.out.held b w.unread e in
    let whole : has_bytes x ≡ true = ap (λ s. has_bytes (queued_buffer s b used stamp bytes c.out.next_ordinal)) side ∙ n in
    subst (λ s. IsWhole s y)
    (sym (goes_on coder seg c y (QBuf Out index used stamp) bytes found Done handed (x ∷ []) refl (drop-append_seam c.out.ready (x ∷ []))))
    (subst (λ l. AreWhole seg.bytes (seg.sources ++ x ∷ []) l y.out.held (c.out.next_ordinal + 1) c.mark)
    (append_assoc c.out.job c.out.ready (x ∷ []))
    (queued y.out.held x (all_filter is_unread (λ h. not (h.index == index)) c.out.held w.unread) unread whole (queued_ordinal c.out.side b used stamp bytes c.out.next_ordinal) w))

off_unread : (held ready done : List Buffer) → list_all is_unread held ≡ true → list_all is_unread ((held ++ map held_again ready) ++ map held_again done) ≡ true
off_unread held ready done h =
    all_both is_unread (held ++ map held_again ready) (map held_again done) (all_both is_unread held (map held_again ready) h (again_unread ready)) (again_unread done)

pub no_run_job : (c : Context) → IsOrdered c → c.running ≡ None → c.out.job ≡ []
no_run_job c s n = split c.running s.firm.has_buffers n
  where
    split : (o : Option Running) → Rattle.vc_model.specs.Sound.HasItsBuffers c o → o ≡ None → c.out.job ≡ []
    split None h e = h.0
    split (Some r) h e = absurd (cc)

effect_whole :
    (coder : Coder) (seg : Segment) (c : Context) {request : Call} {bytes : List ℕ} {reply : Reply} {slot : Slot} (found : Bool) (handed : List ℕ)
    → is_honest (Called request bytes found) (Answered reply handed) ≡ true → IsOrdered c → c.kind ≡ Dec → IsWhole seg c
    → Effect c request bytes reply slot → WholeAt slot (segment_of_slots coder seg (Some c) slot (Called request bytes found) (Answered reply handed))
effect_whole coder seg c {request = request} {bytes = bytes} {reply = reply} found handed n s k w (stays p) =
    called_whole coder seg c c request bytes found reply handed p.no_reset refl w
effect_whole coder seg c found handed n s k w (closes p) = closed_whole _
effect_whole coder seg c {request = request} {bytes = bytes} {reply = reply} found handed n s k w (has_events events p) =
    called_whole coder seg c (record c { events = events }) request bytes found reply handed p.no_reset refl w
effect_whole coder seg c {request = request} {bytes = bytes} {reply = reply} found handed n s k w (has_rates rates) =
    called_whole coder seg c (record c { rates = rates }) request bytes found reply handed refl refl w
effect_whole coder seg c {request = request} {bytes = bytes} {reply = reply} {slot = slot} found handed n s k w (has_out_format {want = want} codec geometry a q p) =
    called_whole coder seg c _ request bytes found reply handed (not_enc c k) refl w
effect_whole coder seg c {request = request} {bytes = bytes} {reply = reply} found handed n s k w (has_cap_format q) =
    called_whole coder seg c _ request bytes found reply handed refl refl w
effect_whole coder seg c {request = request} {bytes = bytes} {reply = reply} found handed n s k w (has_out_buffers {count = count} size codec geometry o p) =
    empty_whole coder seg c _ request bytes found reply handed (ap (λ b. b || is_enc c.kind) (dec_is c k)) refl refl (new_unread size 0 (min count 32))
effect_whole coder seg c {request = request} {bytes = bytes} {reply = reply} found handed n s k w (has_cap_buffers size o) =
    called_whole coder seg c _ request bytes found reply handed refl refl w
effect_whole coder seg c {request = request} {bytes = bytes} {reply = reply} found handed n s k w (adds_out {count = count} {size = size}) =
    called_whole coder seg c _ request bytes found reply handed refl refl
    (others_held (c.out.held ++ new_buffers size (buffer_count c.out) (created c.out count))
    (all_both is_unread c.out.held (new_buffers size (buffer_count c.out) (created c.out count)) w.unread (new_unread size (buffer_count c.out) (created c.out count)))
    w)
effect_whole coder seg c {request = request} {bytes = bytes} {reply = reply} found handed n s k w adds_cap =
    called_whole coder seg c _ request bytes found reply handed refl refl w
effect_whole coder seg c found handed n s k w (queues_out {index = index} {used = used} {stamp = stamp} {bytes = bytes} b e) =
    is_whole _ _ (queue_whole coder seg c index used stamp bytes found handed b e s.firm.out_side n w)
effect_whole coder seg c {request = request} {bytes = bytes} {reply = reply} found handed n s k w (queues_cap b y e u) =
    let t = settled_whole seg _ y u in called_whole coder seg c y request bytes found reply handed refl t.1 (t.0 w)
effect_whole coder seg c {request = request} {bytes = bytes} {reply = reply} found handed n s k w (takes_out b rest e) =
    called_whole coder seg c _ request bytes found reply handed refl refl (others_held (c.out.held ++ held_again b ∷ []) (all_end is_unread c.out.held (held_again b) w.unread refl) w)
effect_whole coder seg c {request = request} {bytes = bytes} {reply = reply} found handed n s k w (takes_cap b rest e p l) =
    called_whole coder seg c _ request bytes found reply handed refl refl w
effect_whole coder seg c {request = request} {bytes = bytes} {reply = reply} found handed n s k w (takes_last b cause mark e p m) =
    called_whole coder seg c _ request bytes found reply handed refl refl (taken_mark cause c.mark mark m w)
effect_whole coder seg c {request = request} {bytes = bytes} {reply = reply} found handed n s k w streams_out =
    called_whole coder seg c _ request bytes found reply handed refl refl w
effect_whole coder seg c {request = request} {bytes = bytes} {reply = reply} found handed n s k w (streams_cap y u) =
    let t = settled_whole seg _ y u in called_whole coder seg c y request bytes found reply handed refl t.1 (t.0 w)
effect_whole coder seg c {request = request} {bytes = bytes} {reply = reply} found handed n s k w (stops_out codec r p) =
    empty_whole coder seg c _ request bytes found reply handed (dec_is c k) refl (no_run_job c s r) (off_unread c.out.held c.out.ready c.out.done w.unread)
effect_whole coder seg c {request = request} {bytes = bytes} {reply = reply} found handed n s k w (stops_cap codec r o p) =
    called_whole coder seg c _ request bytes found reply handed (ap (λ b. cond b c.cap.streams false) (not_enc c k)) refl (restarted c.phase c.mark w)
effect_whole coder seg c {request = request} {bytes = bytes} {reply = reply} found handed n s k w (rests_cap r o) =
    called_whole coder seg c _ request bytes found reply handed (ap (λ b. cond b c.cap.streams false) (not_enc c k)) refl w
effect_whole coder seg c {request = request} {bytes = bytes} {reply = reply} found handed n s k w (sets_mark y p i b m d u) =
    let t = settled_whole seg _ y u in called_whole coder seg c y request bytes found reply handed p.no_reset t.1 (t.0 (marked w))
effect_whole coder seg c {request = request} {bytes = bytes} {reply = reply} found handed n s k w (starts y p i b e u) =
    let t = settled_whole seg _ y u in called_whole coder seg c y request bytes found reply handed p.no_reset t.1 (t.0 w)

-- Runs of a decoder

-- the run of a decoder is one of the codec
decoder_runs : (coder : Coder) (c : Context) (r : Running) → c.kind ≡ Dec → IsRunOf c r → HasCodec c.kind c.codec → (step : DecodedStep) × (run_result coder (job_data c r) ≡ decoded step)
unfolding run_result
decoder_runs coder c r k t h = by_codec c.codec refl (subst (λ q. HasCodec q c.codec) k h)
  where
    by_sort : (j : JobData) (state : _) (sort : RunSort) (g : _) → j.codec ≡ decoder state → sort ≡ sort_of Dec g → run_of coder j sort ≡ decode_run coder j (decoder state)
    by_sort j state copy None e q = absurd (cc)
    by_sort j state copy (Some g) e q = absurd (cc)
    by_sort j state encode None e q = absurd (cc)
    by_sort j state encode (Some g) e q = absurd (cc)
    by_sort j state decode g e q = ap (decode_run coder j) e
    by_sort j state probe g e q = ap (decode_run coder j) e

    by_codec : (codec : CodecState) → c.codec ≡ codec → HasCodec Dec codec → (step : DecodedStep) × (run_result coder (job_data c r) ≡ decoded step)
    by_codec no_codec e q = absurd q
    by_codec (encoder state) e q = absurd q
    by_codec (decoder state) e q = (_, by_sort (job_data c r) state r.sort c.geometry e (t.sort ∙ ap (λ n. sort_of n c.geometry) k))

-- the waiting buffers of a context with a job
pub waiting_is : (c : Context) (b : Buffer) → c.out.job ≡ b ∷ [] → c.out.job ++ c.out.ready ≡ b ∷ c.out.ready
waiting_is c b e = ap (λ l. l ++ c.out.ready) e

-- the bytes that the run consumed, after it
abbrev ConsumedBy : Segment → Buffer → DecodedStep → List ℕ
ConsumedBy seg b step = seg.bytes ++ consumed step (drop b.cursor b.bytes)

moved_bytes : (b : Buffer) (k : ℕ) → has_bytes b ≡ true → (b.cursor + k == b.used) ≡ true → take b.cursor b.bytes ++ take k (drop b.cursor b.bytes) ≡ b.bytes
moved_bytes b k h e =
    let n = eqb-true (length b.bytes) b.used h in
    let m = eqb-true (b.cursor + k) b.used e in
    sym (take-add b.cursor k b.bytes) ∙ (ap (λ i. take i b.bytes) (m ∙ sym n) ∙ take-length b.bytes)

consumed_some : (step : DecodedStep) (rest : List ℕ) (given : Option FrameResult) (r : FrameResult) → step.given ≡ given → given ≡ Some r → consumed step rest ≡ take step.moved rest
consumed_some step rest given r e g =
    ap (λ o. elim o as (λ _. List ℕ) [ None ↦ rest | Some x ↦ take step.moved rest ]) (e ∙ g)

consumed_none : (step : DecodedStep) (rest : List ℕ) → step.given ≡ None → consumed step rest ≡ rest
consumed_none step rest e = ap (λ o. elim o as (λ _. List ℕ) [ None ↦ rest | Some x ↦ take step.moved rest ]) e

-- the source and the rest of OUTPUT after the run
abbrev After : Segment → List Buffer → Buffer → DecodedStep → QueueState → Option ℕ → Type 0
After seg sources b step q mark = AreWhole (ConsumedBy seg b step) sources (q.job ++ q.ready) q.held q.next_ordinal mark

moved_whole :
    (seg : Segment) (sources : List Buffer) (o : QueueState) (mark : Option ℕ) (b : Buffer) (flags : ℕ) (step : DecodedStep) (r : FrameResult) (up : Bool)
    → (b.cursor + step.moved == b.used) ≡ up → step.given ≡ Some r → is_due mark b ≡ true
    → AreWhole seg.bytes sources (b ∷ o.ready) o.held o.next_ordinal mark
    → After seg sources b step (moved_out o b flags (b.cursor + step.moved) up) mark
moved_whole seg sources o mark b flags step r true u g d w =
    subst (λ l. AreWhole (seg.bytes ++ l) sources o.ready o.held o.next_ordinal mark)
    (sym (consumed_some step (drop b.cursor b.bytes) step.given r refl g))
    (used_up b o.ready (take step.moved (drop b.cursor b.bytes)) (moved_bytes b step.moved (and_left (has_bytes b) (list_all has_bytes o.ready) w.honest) u) d w)
moved_whole seg sources o mark b flags step r false u g d w =
    subst (λ l. AreWhole (seg.bytes ++ l) sources (record b { cursor = b.cursor + step.moved } ∷ o.ready) o.held o.next_ordinal mark)
    (sym (consumed_some step (drop b.cursor b.bytes) step.given r refl g)) (goes_back b o.ready step.moved d w)

puts_whole :
    (seg : Segment) (sources : List Buffer) (c : Context) (j : JobData) (b : Buffer) (step : DecodedStep) (result : Option RunResult) (up : Bool)
    (flags cursor : ℕ) (codec : CodecState) (used : ℕ) (bytes : List ℕ) (dest_flags : ℕ) (stamp : Stamp)
    → result ≡ Some (decoded step) → is_due c.mark b ≡ true → AreWhole seg.bytes sources (b ∷ c.out.ready) c.out.held c.out.next_ordinal c.mark
    → Puts c j b result up flags cursor codec used bytes dest_flags stamp → After seg sources b step (moved_out c.out b flags cursor up) c.mark
puts_whole seg sources c j b step result up flags cursor codec used bytes dest_flags stamp e d w (puts_fault k) = absurd (cc)
puts_whole seg sources c j b step result up flags cursor codec used bytes dest_flags stamp e d w (puts_copy xs k) = absurd (cc)
puts_whole seg sources c j b step result up flags cursor codec used bytes dest_flags stamp e d w (puts_frame frame k) = absurd (cc)
puts_whole seg sources c j b step result up flags cursor codec used bytes dest_flags stamp e d w (puts_picture now r geometry key planes g k) =
    subst (λ s. After seg sources b s (moved_out c.out b 0 (b.cursor + now.moved) (b.cursor + now.moved == b.used)) c.mark)
    (let q : now ≡ step = cc in q) (moved_whole seg sources c.out c.mark b 0 now r (b.cursor + now.moved == b.used) refl g d w)
puts_whole seg sources c j b step result up flags cursor codec used bytes dest_flags stamp e d w (puts_damage now r g k) =
    subst (λ s. After seg sources b s (moved_out c.out b 0 (b.cursor + now.moved) (b.cursor + now.moved == b.used)) c.mark)
    (let q : now ≡ step = cc in q) (moved_whole seg sources c.out c.mark b 0 now r (b.cursor + now.moved == b.used) refl g d w)

ended_whole :
    (seg : Segment) (c : Context) (j : JobData) (b : Buffer) (step : DecodedStep) {result : Option RunResult} (x : Context)
    → result ≡ Some (decoded step) → is_due c.mark b ≡ true → AreWhole seg.bytes seg.sources (b ∷ c.out.ready) c.out.held c.out.next_ordinal c.mark
    → Ends c j b result x → After seg seg.sources b step x.out x.mark
ended_whole seg c j b step {result = result} x e d w (alone up flags cursor codec used bytes dest_flags stamp p n) =
    puts_whole seg seg.sources c j b step result up flags cursor codec used bytes dest_flags stamp e d w p
ended_whole seg c j b step {result = result} x e d w (kept up flags cursor codec used bytes dest_flags stamp z p n) =
    puts_whole seg seg.sources c j b step result up flags cursor codec used bytes dest_flags stamp e d w p
ended_whole seg c j b step {result = result} x e d w (ended flags cursor codec used bytes dest_flags stamp z up p u n m) =
    subst (λ t. After seg seg.sources b step (moved_out c.out b flags cursor t) c.mark) u (puts_whole seg seg.sources c j b step result up flags cursor codec used bytes dest_flags stamp e d w p)
ended_whole seg c j b step x e d w (halts now r geometry k phase events g q back p) =
    subst (λ s. After seg seg.sources b s (back_out c.out b (b.cursor + now.moved)) c.mark) (let q : now ≡ step = cc in q)
    (subst
    (λ l. AreWhole (seg.bytes ++ l) seg.sources (record b { cursor = b.cursor + now.moved } ∷ c.out.ready) c.out.held c.out.next_ordinal c.mark)
    (sym (consumed_some now (drop b.cursor b.bytes) now.given r refl g)) (goes_back b c.out.ready now.moved d w))
ended_whole seg c j b step x e d w (spends now k g back) =
    subst (λ s. After seg seg.sources b s (done_out c.out b 0) c.mark) (let q : now ≡ step = cc in q)
    (subst (λ l. AreWhole (seg.bytes ++ l) seg.sources c.out.ready c.out.held c.out.next_ordinal c.mark)
    (sym (consumed_none now (drop b.cursor b.bytes) g)) (used_up b c.out.ready (drop b.cursor b.bytes) (take-append-drop b.cursor b.bytes) d w))

settled_after : (seg : Segment) (b : Buffer) (step : DecodedStep) (x y : Context) → Settles x y → After seg seg.sources b step x.out x.mark → After seg seg.sources b step y.out y.mark
settled_after seg b step x y still w = w
settled_after seg b step x y (owes p r) w = w
settled_after seg b step x y (gives cause z rest events r p) w = w

finish_whole :
    (coder : Coder) (seg : Segment) (c : Context) (r : Running) (job : HasJob c r) (x y : Context) (word : List ℕ) → IsOrdered c → IsTidy c
    → c.kind ≡ Dec → IsWhole seg c → Ends c (job_data c r) job.source (Some (run_result coder (job_data c r))) x → Settles x y
    → IsWhole (segment_of_step coder seg c y (Finishes false) (Finished word)) y
finish_whole coder seg c r job x y word s t k w ends u =
    let b = job.source in
    let run : IsRunOf c r = subst (HasRun c) job.running t.run in
    let d = decoder_runs coder c r k run s.firm.has_codec in
    let due : is_due c.mark b ≡ true = ap (λ l. front_is_due l c.mark) (sym job.job) ∙ run.due in
    let w1 = subst (λ l. AreWhole seg.bytes seg.sources l c.out.held c.out.next_ordinal c.mark) (waiting_is c b job.job) w in
    let w2 = settled_after seg b d.0 x y u (ended_whole seg c (job_data c r) b d.0 x (ap (λ o. Some o) d.1) due w1 ends) in
    let j = job_data c r in
    let same : (after_run seg r j (run_result coder j)).bytes ≡ ConsumedBy seg b d.0 = ap (λ o. (after_run seg r j o).bytes) d.1 ∙ ap (λ z. seg.bytes ++ consumed d.0 (drop z.cursor z.bytes)) (ap source_of job.job) in
    let kept : (after_run seg r j (run_result coder j)).sources ++ [] ≡ seg.sources = ap (λ o. (after_run seg r j o).sources ++ []) d.1 ∙ append-nil seg.sources in
    subst (λ z. IsWhole z y) (sym (finished_segment coder seg c y r word job.running))
    (subst (λ l. AreWhole l ((after_run seg r j (run_result coder j)).sources ++ []) (y.out.job ++ y.out.ready) y.out.held y.out.next_ordinal y.mark)
    (sym same) (subst (λ l. AreWhole (ConsumedBy seg b d.0) l (y.out.job ++ y.out.ready) y.out.held y.out.next_ordinal y.mark) (sym kept) w2))

-- an engine fault begins a segment with the sources behind that of the run
abbrev pub IsOutAfterFault : Context → QueueState → Type 0
IsOutAfterFault c q = (q.job ≡ []) × (q.ready ≡ c.out.ready) × (q.held ≡ c.out.held) × (q.next_ordinal ≡ c.out.next_ordinal)

fault_puts :
    (c : Context) (j : JobData) (b : Buffer) (result : Option RunResult) (up : Bool) (flags cursor : ℕ) (codec : CodecState) (used : ℕ) (bytes : List ℕ) (dest_flags : ℕ) (stamp : Stamp)
    → result ≡ None → Puts c j b result up flags cursor codec used bytes dest_flags stamp → IsOutAfterFault c (moved_out c.out b flags cursor up)
fault_puts c j b result up flags cursor codec used bytes dest_flags stamp e (puts_fault k) = (refl, refl, refl, refl)
fault_puts c j b result up flags cursor codec used bytes dest_flags stamp e (puts_copy xs k) = absurd (cc)
fault_puts c j b result up flags cursor codec used bytes dest_flags stamp e (puts_frame frame k) = absurd (cc)
fault_puts c j b result up flags cursor codec used bytes dest_flags stamp e (puts_picture step r geometry key planes g k) = absurd (cc)
fault_puts c j b result up flags cursor codec used bytes dest_flags stamp e (puts_damage step r g k) = absurd (cc)

pub faulted_out : (c : Context) (j : JobData) (b : Buffer) {result : Option RunResult} (x : Context) → result ≡ None → Ends c j b result x → IsOutAfterFault c x.out
faulted_out c j b {result = result} x e (alone up flags cursor codec used bytes dest_flags stamp p n) =
    fault_puts c j b result up flags cursor codec used bytes dest_flags stamp e p
faulted_out c j b {result = result} x e (kept up flags cursor codec used bytes dest_flags stamp d p n) =
    fault_puts c j b result up flags cursor codec used bytes dest_flags stamp e p
faulted_out c j b {result = result} x e (ended flags cursor codec used bytes dest_flags stamp d up p u n m) = (refl, refl, refl, refl)
faulted_out c j b x e (halts step r geometry k phase events g q back p) = absurd (cc)
faulted_out c j b x e (spends step k g back) = absurd (cc)

pub settled_out : (c x y : Context) → Settles x y → IsOutAfterFault c x.out → IsOutAfterFault c y.out
settled_out c x y still h = h
settled_out c x y (owes p r) h = h
settled_out c x y (gives cause z rest events r p) h = h

fault_whole :
    (coder : Coder) (seg : Segment) (c : Context) (r : Running) (job : HasJob c r) (x y : Context) (word : List ℕ) → IsOrdered c → IsWhole seg c
    → Ends c (job_data c r) job.source None x → Settles x y → IsWhole (segment_of_step coder seg c y (Finishes true) (Finished word)) y
fault_whole coder seg c r job x y word s w ends u =
    let b = job.source in
    let h = settled_out c x y u (faulted_out c (job_data c r) b x refl ends) in
    let w1 = subst (λ l. AreWhole seg.bytes seg.sources l c.out.held c.out.next_ordinal c.mark) (waiting_is c b job.job) w in
    let counts = subst (λ l. CountsUp l s.firm.out.latest.first c.out.next_ordinal) (waiting_is c b job.job) s.firm.out.latest.counts in
    let new : AreWhole [] c.out.ready c.out.ready c.out.held c.out.next_ordinal y.mark = afresh (s.firm.out.latest.first + 1) w1.behind (and_right (has_bytes b) (list_all has_bytes c.out.ready) w1.honest) w1.unread counts.1 in
    subst (λ l. AreWhole [] y.out.ready (l ++ y.out.ready) y.out.held y.out.next_ordinal y.mark) (sym h.0)
    (subst (λ l. AreWhole [] l l y.out.held y.out.next_ordinal y.mark) (sym h.1)
    (subst (λ l. AreWhole [] c.out.ready c.out.ready l y.out.next_ordinal y.mark) (sym h.2) (subst (λ n. AreWhole [] c.out.ready c.out.ready c.out.held n y.mark) (sym h.3) new)))

-- a segment that nothing was added to
abbrev Quiet : Segment → Context → Context → Segment
Quiet seg c y = record seg { sources = seg.sources ++ []; retired = seg.retired ++ done_now c y }

quiet_whole : (seg : Segment) (c y : Context) → IsWhole seg y → IsWhole (Quiet seg c y) y
quiet_whole seg c y w =
    subst (λ l. AreWhole seg.bytes l (y.out.job ++ y.out.ready) y.out.held y.out.next_ordinal y.mark) (sym (append-nil seg.sources)) w

claimed_whole : (seg : Segment) (c : Context) (b : Buffer) (rest : List Buffer) → c.out.ready ≡ b ∷ rest → c.out.job ≡ [] → IsWhole seg c → AreWhole seg.bytes seg.sources (b ∷ rest) c.out.held c.out.next_ordinal c.mark
claimed_whole seg c b rest e j w =
    subst (λ l. AreWhole seg.bytes seg.sources l c.out.held c.out.next_ordinal c.mark) (ap (λ l. l ++ c.out.ready) j ∙ e) w

claims_whole :
    (coder : Coder) (seg : Segment) (c : Context) (b : Buffer) (rest : List Buffer) (z : QueueState) → c.out.ready ≡ b ∷ rest → c.out.job ≡ []
    → IsWhole seg c
    → WholeAt (Some (record c { out = lend_front c.out (b ∷ rest); cap = z; running = Some (running_of c (sort_of c.kind c.geometry)) }))
    (segment_of_step coder seg c (record c { out = lend_front c.out (b ∷ rest); cap = z; running = Some (running_of c (sort_of c.kind c.geometry)) }) Claims Claimed)
claims_whole coder seg c b rest z e j w =
    let y = record c { out = lend_front c.out (b ∷ rest); cap = z; running = Some (running_of c (sort_of c.kind c.geometry)) } in
    is_whole y _ (quiet_whole seg c y (claimed_whole seg c b rest e j w))

step_whole :
    (coder : Coder) (seg : Segment) (c : Context) {e : SoloEvent} {told : SoloReply} {slot : Slot} → is_honest e told ≡ true → IsOrdered c → IsTidy c
    → c.kind ≡ Dec → IsWhole seg c → Step coder c e told slot → WholeAt slot (segment_of_slots coder seg (Some c) slot e told)
step_whole coder seg c n s t k w (calls {found = found} {handed = handed} f) = effect_whole coder seg c found handed n s k w f
step_whole coder seg c n s t k w rests = is_whole c _ (quiet_whole seg c c w)
step_whole coder seg c n s t k w (lacks_job {fault = fault} o) =
    is_whole c _ (subst (λ z. IsWhole z c) (sym (nothing_segment coder seg c fault o)) (quiet_whole seg c c w))
step_whole coder seg c n s t k w (claims b rest z e o j i p d q) =
    claims_whole coder seg c b rest z e j w
step_whole coder seg c n s t k w (finishes {word = word} r x y job ends u v) = is_whole y _ (finish_whole coder seg c r job x y word s t k w ends u)
step_whole coder seg c n s t k w (faults {word = word} r x y job ends u) = is_whole y _ (fault_whole coder seg c r job x y word s w ends u)

-- Slots

fresh_whole : (kind : Kind) → IsWhole (fresh_segment []) (fresh_context kind)
fresh_whole kind = afresh 0 refl refl refl refl

open_whole :
    (coder : Coder) (seg : Segment) (request : Call) (bytes : List ℕ) (found : Bool)
    → WholeAt (closed_answer request found).slot
    (segment_of_slots coder seg None (closed_answer request found).slot (Called request bytes found) (Answered (closed_answer request found).reply (closed_answer request found).bytes))
unfolding closed_answer WholeAt
open_whole coder seg (Open kind) bytes true = λ k. fresh_whole kind
open_whole coder seg (Open kind) bytes false = tt
open_whole coder seg request bytes found = tt

-- a fact of decoders alone, of a step that leaves the kind
of_decoders : (c : Context) (slot : Slot) (seg : Segment) → KindSlot c slot → (c.kind ≡ Dec → WholeAt slot seg) → WholeAt slot seg
unfolding WholeAt KindSlot
of_decoders c None seg k f = tt
of_decoders c (Some y) seg k f = λ q. f (sym k ∙ q) q

slot_whole :
    (coder : Coder) (seg : Segment) (s : Slot) (e : SoloEvent) → is_honest e (solo_step coder s e).told ≡ true → IsOrderedSlot s → TidySlot s
    → WholeAt s seg → WholeAt (solo_step coder s e).slot (segment_of_slots coder seg s (solo_step coder s e).slot e (solo_step coder s e).told)
unfolding solo_step answer WholeAt
slot_whole coder seg None (Called request bytes found) n h t w = open_whole coder seg request bytes found
slot_whole coder seg None Claims n h t w = tt
slot_whole coder seg None (Finishes fault) n h t w = tt
slot_whole coder seg (Some c) (Called request bytes found) n h t w =
    let q = step_of coder c (Called request bytes found) h in
    of_decoders c _ _ (step_kind coder c q) (λ k. step_whole coder seg c n h t k (w k) q)
slot_whole coder seg (Some c) Claims n h t w =
    let q = step_of coder c Claims h in of_decoders c _ _ (step_kind coder c q) (λ k. step_whole coder seg c n h t k (w k) q)
slot_whole coder seg (Some c) (Finishes fault) n h t w =
    let q = step_of coder c (Finishes fault) h in
    of_decoders c _ _ (step_kind coder c q) (λ k. step_whole coder seg c n h t k (w k) q)

segment_whole : (coder : Coder) (seg : Segment) (s : Slot) (e : SoloEvent) → is_honest e (solo_step coder s e).told ≡ true → IsOrderedSlot s → TidySlot s → WholeAt s seg → WholeAt (solo_step coder s e).slot (segment_step coder seg s e)
unfolding segment_step
segment_whole coder seg s e n h t w = slot_whole coder seg s e n h t w

pub always_whole : (coder : Coder) (events : List SoloEvent) → AreHonest (solo_run coder None events) → WholeAt (solo_slot coder None events) (segment_of coder events)
unfolding WholeAt
always_whole coder events n =
    holds_if_honest coder (λ seg s. WholeAt s seg) (segment_whole coder) (fresh_segment []) None events n tt tt tt

-- The law

-- Only a QBuf on OUTPUT carries bytes, and it gives no LAST buffer.

HonestAt : Context → SoloEvent → SoloReply → Slot → Type 0
HonestAt c e told None = Unit {0}
HonestAt c e told (Some y) = gives_last c y ≡ true → is_honest e told ≡ true

clash : {A : Type 0} → (b : Bool) → (b && not b) ≡ true → A
clash true e = absurd (false≢true e)
clash false e = absurd (false≢true e)

same_honest : (c y : Context) (e : SoloEvent) (told : SoloReply) → y.phase ≡ c.phase → HonestAt c e told (Some y)
unfolding HonestAt
same_honest c y e told p g =
    clash (is_last_by_drain c.phase) (ap (λ q. is_last_by_drain q && not (is_last_by_drain c.phase)) (sym p) ∙ g)

other_honest : (c : Context) (e : SoloEvent) (told : SoloReply) (slot : Slot) → is_honest e told ≡ true → HonestAt c e told slot
unfolding HonestAt
other_honest c e told None h = tt
other_honest c e told (Some y) h = λ g. h

stop_honest : (request : Call) (bytes : List ℕ) (reply : Reply) → is_command request ≡ true → is_honest_call request bytes reply ≡ true
stop_honest (DecCmd cmd) bytes reply e = refl
stop_honest (EncCmd cmd) bytes reply e = refl
stop_honest (QBuf side index used stamp) bytes reply e = absurd (false≢true e)
stop_honest request bytes reply e = refl

stop_is_command : (request : Call) → is_stop_call request ≡ true → is_command request ≡ true
stop_is_command (DecCmd cmd) e = refl
stop_is_command (EncCmd cmd) e = refl
stop_is_command request e = absurd (false≢true e)

effect_honest : (c : Context) {request : Call} {bytes : List ℕ} {reply : Reply} {slot : Slot} (found : Bool) (handed : List ℕ) → Effect c request bytes reply slot → HonestAt c (Called request bytes found) (Answered reply handed) slot
effect_honest c found handed (stays n) = same_honest c _ _ _ refl
effect_honest c found handed (closes n) = other_honest c _ _ _ refl
effect_honest c found handed (has_events events n) = same_honest c (record c { events = events }) _ _ refl
effect_honest c found handed (has_rates rates) = other_honest c _ _ _ refl
effect_honest c found handed (has_out_format codec geometry o q k) = other_honest c _ _ _ refl
effect_honest c found handed (has_cap_format q) = other_honest c _ _ _ refl
effect_honest c found handed (has_out_buffers size codec geometry o k) = other_honest c _ _ _ refl
effect_honest c found handed (has_cap_buffers size o) = other_honest c _ _ _ refl
effect_honest c found handed adds_out = other_honest c _ _ _ refl
effect_honest c found handed adds_cap = other_honest c _ _ _ refl
effect_honest c found handed (queues_out b e) = same_honest c _ _ _ refl
effect_honest c found handed (queues_cap b y e s) = other_honest c _ _ _ refl
effect_honest c found handed (takes_out b rest d) = other_honest c _ _ _ refl
effect_honest c found handed (takes_cap b rest d n l) = other_honest c _ _ _ refl
effect_honest c found handed (takes_last b cause mark d p m) = other_honest c _ _ _ refl
effect_honest c found handed streams_out = other_honest c _ _ _ refl
effect_honest c found handed (streams_cap y s) = other_honest c _ _ _ refl
effect_honest c found handed (stops_out codec n k) = other_honest c _ _ _ refl
effect_honest c found handed (stops_cap codec n t k) = other_honest c _ _ _ refl
effect_honest c found handed (rests_cap n o) = other_honest c _ _ _ refl
effect_honest c {request = request} {bytes = bytes} found handed (sets_mark y n t b m d s) =
    other_honest c (Called request bytes found) (Answered Done handed) (Some y) (stop_honest request bytes Done (stop_is_command request t))
effect_honest c {request = request} {bytes = bytes} found handed (starts y n i b t s) =
    other_honest c (Called request bytes found) (Answered Done handed) (Some y) (stop_honest request bytes Done i)

step_honest : (coder : Coder) (c : Context) {e : SoloEvent} {told : SoloReply} {slot : Slot} → Step coder c e told slot → HonestAt c e told slot
step_honest coder c (calls {found = found} {handed = handed} e) = effect_honest c found handed e
step_honest coder c rests = other_honest c _ _ _ refl
step_honest coder c (lacks_job n) = other_honest c _ _ _ refl
step_honest coder c (claims b rest k r n o j p d q) = other_honest c _ _ _ refl
step_honest coder c (finishes r x y job ends s w) = other_honest c _ _ _ refl
step_honest coder c (faults r x y job ends s) = other_honest c _ _ _ refl

pub end_drained : (p : PhaseState) → is_last_by_drain p ≡ true → is_at_end p ≡ true
end_drained run e = absurd (false≢true e)
end_drained (owe cause) e = absurd (false≢true e)
end_drained (last cause) e = e
end_drained (stopped cause) e = absurd (false≢true e)

pub drain_stops : (p : PhaseState) → is_last_by_drain p ≡ true → is_run p ≡ false
drain_stops run e = absurd (false≢true e)
drain_stops (owe cause) e = refl
drain_stops (last cause) e = refl
drain_stops (stopped cause) e = refl

pub drained_before : (ready : List Buffer) (mark : Option ℕ) (m : ℕ) → mark ≡ Some m → is_drained ready mark ≡ true → has_before ready m ≡ false
drained_before ready mark m e d = not_true (has_before ready m) (ap (is_drained ready) (sym e) ∙ d)

after_kind : (c y : Context) → KindSlot c (Some y) → c.kind ≡ Dec → y.kind ≡ Dec
unfolding KindSlot
after_kind c y p q = p ∙ q

pub drains_are_whole : DrainsAreWhole
unfolding WholeAt HonestAt
drains_are_whole coder events e before after mark n at next k g m =
    let s : IsOrdered before = subst IsOrderedSlot at (always_ordered coder events) in
    let t = always_tidy coder events before at in
    let step = step_of coder before e s in
    let honest = subst (HonestAt before e (solo_step coder (Some before) e).told) next (step_honest coder before step) g in
    let whole = subst (λ z. WholeAt z (segment_of coder events)) at (always_whole coder events n) in
    let sound : IsOrdered after = subst IsOrderedSlot next (step_sound coder (Some before) e s) in
    let kind : after.kind ≡ Dec = after_kind before after (subst (KindSlot before) next (step_kind coder before step)) k in
    let w = subst (λ z. WholeAt z (segment_step coder (segment_of coder events) (Some before) e)) next (segment_whole coder (segment_of coder events) (Some before) e honest s t whole) kind in
    let l = and_left (is_last_by_drain after.phase) _ g in
    let none = idle after sound.firm (drain_stops after.phase l) in
    let w2 =
    subst (λ z.
    AreWhole (segment_step coder (segment_of coder events) (Some before) e).bytes
    (segment_step coder (segment_of coder events) (Some before) e).sources (after.out.job ++ after.out.ready) after.out.held after.out.next_ordinal z)
    m w in
    let w3 =
    subst (λ j.
    AreWhole (segment_step coder (segment_of coder events) (Some before) e).bytes
    (segment_step coder (segment_of coder events) (Some before) e).sources (j ++ after.out.ready) after.out.held after.out.next_ordinal (Some mark))
    none.1.0 w2 in
    let end =
    whole_end (segment_step coder (segment_of coder events) (Some before) e) after.out.ready after.out.held after.out.next_ordinal mark w3
    (drained_before after.out.ready after.mark mark m (sound.firm.drained (end_drained after.phase l))) in
    subst (λ z. IsWholeDrain z mark after.out.next_ordinal) (sym (segment_more coder (fresh_segment []) None events e ∙ ap (λ z. segment_step coder (segment_of coder events) z e) at)) end
