-- What a call answers and leaves of a decoder, beside the queue that it is for. Its queues settle, it goes on keeping
-- what every decoder keeps, and its numbers rise by one at most.
use Rattle.std.proofs.Common.{ℕ, ◌≡◌, ◌≤◌, ◌<◌, ◌+◌, Bool, true, false, ◌&&◌, Option, Some, None, Result, List, ◌++◌, map, refl, sym, ap, ◌∙◌, subst, arith, [], ◌∷◌}
use Rattle.std.specs.Prelude.{is_none}
use Rattle.vc_base.specs.declared.Side.{Side}
use Rattle.vc_base.specs.declared.Side.TheVariants.{Out, Cap}
use Rattle.vc_base.specs.declared.Errno.{Errno}
use Rattle.vc_base.specs.declared.Call.{Call}
use Rattle.vc_base.specs.declared.Reply.{Reply}
use Rattle.vc_base.specs.Buffers.{Buffer, QueueState, is_empty, buffer_count}
use Rattle.vc_base.specs.Events.{EventState}
use Rattle.vc_defs.specs.declared.Geometry.{Geometry}
use Rattle.vc_defs.specs.Decoder.{DecoderState, fresh_decoder}
use Rattle.vc_model.specs.Formats.{FormatPair}
use Rattle.vc_model.specs.Context.{Context, settle, is_run}
use Rattle.vc_model.specs.Answer.{Answer, unless, answered, context_answer}
use Rattle.vc_pair.specs.Pairs.{PairState, queue_at, with_queue_at, pair_settled, raises_end, IsSettled, FitsBoth, is_due}
use Rattle.vc_pair.specs.Rows.{with_pair, ended_if, JobsAgree}
use Rattle.vc_pair.proofs.PairRowsAreContextRows.{same_settled}
use Rattle.vc_pair.proofs.SettlesOnce.{settled_alone, settled_quiet}
use Rattle.vc_pair.proofs.SettlingKeepsTheHold.{fits_settled}
use Rattle.vc_queue.specs.Answers.{answer_of, after_of}
use Rattle.vc_queue.specs.Holds.{HoldState}
use Rattle.vc_context.specs.Contexts.{AreFilled, IsKept, IsStep, Gives, told_of}
use Rattle.vc_context.specs.Payloads.{FitsContext}
use Rattle.vc_work.proofs.Streams.{begins_in_step}
use Rattle.vc_dec.specs.declared.InJob.{InJob}
use Rattle.vc_m2m.specs.Settling.{end_raised, events_settled}
use Rattle.vc_dec.specs.Decoders.{CodecParts, decoder_state, job_mark, IsDecoder, IsPlaced, IsOfStream, KnowsItsJob, IsDestOf, IsSupplied, AreServed, lent_room, AreBlank, IsBeforeMark}
use Rattle.vc_context.specs.Serving.{Serves}
use Rattle.vc_dec.proofs.ReachedStaysReached.{placed_answer, agrees, settled, sides, runs}
use Rattle.vc_dec.proofs.QueuesThroughCalls.{IsBegun, Counts, Calls, stays}
use Rattle.vc_dec.proofs.SettlingLeavesTheRest.{Settles, settles, stays_in_run, ended_raised}

-- the OUTPUT buffer in the job is before the mark
abbrev pub IsSourceDue : PairState → Type 0
IsSourceDue p = is_due p.out.job p.mark ≡ true

-- where there is no mark every buffer is due
pub none_due : (bs : List Buffer) (mark : Option ℕ) → is_due bs mark ≡ true → is_due bs None ≡ true
none_due [] mark h = h
none_due (b ∷ rest) mark h = refl

-- how a call counts in the two queues
pub record CountsBoth (old new : PairState) : Type 0 where
  pub out : Counts old.out new.out
  pub cap : Counts old.cap new.cap
  pub filled : AreFilled old.out.ready → AreFilled new.out.ready
  pub due : IsSourceDue old → IsSourceDue new

-- what a call makes of the two queues, where no buffer comes or goes
pub record Turns (old new : PairState) : Type 0 where
  pub out : Calls old.out new.out
  pub cap : Calls old.cap new.cap
  pub filled : AreFilled old.out.ready → AreFilled new.out.ready
  pub due : IsSourceDue old → IsSourceDue new

pub counted : (p q : PairState) → Turns p q → CountsBoth p q
counted p q t =
    record { out = t.out.counts; cap = t.cap.counts; filled = t.filled; due = t.due }

pub still : (p q : PairState) → q.out ≡ p.out → q.cap ≡ p.cap → (IsSourceDue p → IsSourceDue q) → Turns p q
still p q eo ec d =
    record {
      out = subst (λ (r : QueueState). Calls p.out r) (sym eo) (stays p.out);
      cap = subst (λ (r : QueueState). Calls p.cap r) (sym ec) (stays p.cap);
      filled = λ h. subst (λ (r : QueueState). AreFilled r.ready) (sym eo) h;
      due = d;
    }

pub turns_after : (o : Option Errno) (p q : PairState) → (o ≡ None → Turns p q) → Turns p (after_of o p q)
turns_after (Some e) p q t = still p p refl refl (λ h. h)
turns_after None p q t = t refl

-- the buffers in the jobs stay
pub record JobsStay (old new : PairState) : Type 0 where
  pub out : new.out.job ≡ old.out.job
  pub cap : new.cap.job ≡ old.cap.job

pub jobs_stay : (p q : PairState) → Turns p q → JobsStay p q
jobs_stay p q t = record { out = t.out.counts.job; cap = t.cap.counts.job }

pub turns_out : (p : PairState) (r : QueueState) → Calls p.out r → (AreFilled p.out.ready → AreFilled r.ready) → Turns p (record p { out = r })
turns_out p r c f =
    record { out = c; cap = stays p.cap; filled = f; due = λ h. subst (λ (bs : List Buffer). is_due bs p.mark ≡ true) (sym c.counts.job) h }

pub turns_cap : (p : PairState) (r : QueueState) → Calls p.cap r → Turns p (record p { cap = r })
turns_cap p r c = record { out = stays p.out; cap = c; filled = λ h. h; due = λ h. h }

-- a queue that a refusal leaves
pub with_after : (o : Option Errno) (p : PairState) (side : Side) (r : QueueState) → with_queue_at p side (after_of o (queue_at p side) r) ≡ after_of o p (with_queue_at p side r)
with_after (Some e) p Out r = refl
with_after (Some e) p Cap r = refl
with_after None p side r = refl

knows_cases : (j : Option InJob) (p new : PairState) → new.out.job ≡ p.out.job → (is_none (job_mark j) ≡ false → new.cap.job ≡ p.cap.job) → KnowsItsJob p j → KnowsItsJob new j
knows_cases None p new eo ec k = tt
knows_cases (Some x) p new eo ec k =
    (ap (λ (bs : List Buffer). map (λ b. b.index) bs) eo ∙ k.0, subst (λ (bs : List Buffer). IsDestOf x.dest bs) (sym (ec refl)) k.1)

pub before_cases : (j : Option InJob) (p new : PairState) → (IsSourceDue p → IsSourceDue new) → IsBeforeMark p j → IsBeforeMark new j
before_cases None p new f k = tt
before_cases (Some x) p new f k = f k

pub supplied_cases : (j : Option InJob) (size : ℕ) (out new : QueueState) (limit : Option ℕ) → (0 < buffer_count new → 0 < buffer_count out) → IsSupplied size out limit j → IsSupplied size new limit j
supplied_cases None size out new limit f s = λ h. s (f h)
supplied_cases (Some x) size out new limit f s = tt

-- a codec that begins anew is in step with its geometry
pub begins_anew : (limit : ℕ) (geometry : Option Geometry) (j : Option InJob) → IsOfStream limit geometry fresh_decoder j
begins_anew limit geometry None = begins_in_step limit geometry
begins_anew limit geometry (Some x) = tt

module _ (formats : FormatPair) (geometry : Option Geometry) (state : DecoderState) (job : Option InJob) where
  abbrev at : PairState → EventState → Context
  at p e = decoder_state formats geometry p e state job

  pub ended_at : (p q : PairState) (e : EventState) (b : Bool) → ended_if b (with_pair (at p e) q) ≡ at q (end_raised b e)
  ended_at p q e true = refl
  ended_at p q e false = refl

  pub settle_at : (p : PairState) (e : EventState) → JobsAgree (at p e) → settle (at p e) ≡ at (pair_settled p) (events_settled p e)
  settle_at p e j = same_settled (at p e) j ∙ ended_at p (pair_settled p) e (raises_end p)

  pub still_at : (p : PairState) (e : EventState) → IsSettled p → at (pair_settled p) (events_settled p e) ≡ at p e
  still_at p e s =
      ap (λ q. at q (events_settled p e)) (settled_alone p s) ∙ ap (λ b. at p (end_raised b e)) (settled_quiet p s)

  pub same_jobs : (p q : PairState) (e : EventState) → q.out.job ≡ p.out.job → q.cap.job ≡ p.cap.job → JobsAgree (at p e) → JobsAgree (at q e)
  same_jobs p q e eo ec j =
      j ∙ (ap (λ l. is_empty l && is_empty p.cap.job) (sym eo) ∙ ap (λ l. is_empty q.out.job && is_empty l) (sym ec))

  called_cases :
      {A : Type 0} (tell : A → Reply) (value : A) (o : Option Errno) (p q : PairState) (e : EventState) → IsSettled p → JobsAgree (at q e)
      → Gives (unless (at p e) o (answered (at q e) (tell value))) (told_of tell (answer_of o value)) (at (pair_settled (after_of o p q)) (events_settled (after_of o p q) e))
  called_cases tell value (Some x) p q e s j = record { reply = refl; context = ap Some (sym (still_at p e s)) }
  called_cases tell value None p q e s j = record { reply = refl; context = ap Some (settle_at q e j) }

  -- the answer of a call that is refused, or does something to the queues and settles
  pub called :
      {A : Type 0} (tell : A → Reply) (value : A) (o : Option Errno) (p q mid new : PairState) (e es : EventState) (result : Result A Errno) (reply : Reply)
      → IsSettled p → JobsAgree (at q e) → result ≡ answer_of o value → mid ≡ after_of o p q → reply ≡ told_of tell result → new ≡ pair_settled mid
      → es ≡ events_settled mid e → Gives (unless (at p e) o (answered (at q e) (tell value))) reply (at new es)
  called tell value o p q mid new e es result reply s j er em et en ee =
      rw (et, er, en, ee, em) (called_cases tell value o p q e s j)

module _ (formats : FormatPair) (geometry : Option Geometry) (p : PairState) (events : EventState) (parts : CodecParts) (job : Option InJob) (inv : IsDecoder formats geometry p events parts job) where
  abbrev after : PairState → EventState → Context
  after q e = decoder_state formats geometry q e parts.state job

  abbrev before : Context
  before = after p events

  pub quiet_here : IsSettled p
  quiet_here = settled before inv.placed

  pub agree_here : JobsAgree before
  agree_here = agrees before inv.placed

  pub place : (request : Call) (bytes : List ℕ) (found : Bool) (reply : Reply) (then : Context) → Gives (context_answer before request bytes found) reply then → IsPlaced then
  place request bytes found reply then g = placed_answer before then request bytes found inv.placed g.context

  module _ (q new : PairState) (es : EventState) (t : CountsBoth p q) (en : new ≡ pair_settled q) (ee : es ≡ events_settled q events) where
    pub settled_so : Settles q new
    settled_so = subst (λ (x : PairState). Settles q x) (sym en) (settles q)

    raised_so : es.next_seq ≤ events.next_seq + 1
    raised_so =
        subst (λ (x : EventState). x.next_seq ≤ events.next_seq + 1) (sym ee) (ended_raised (raises_end q) events)

    pub begun_so : IsBegun new.out
    begun_so =
        subst IsBegun (sym settled_so.out) (t.out.begun (record { ready = inv.begun; held = inv.untouched }))

    pub blank_so : AreBlank new.cap
    blank_so = settled_so.blank (t.cap.blank (sides before inv.placed).cap_side inv.blank)

    pub due_so : IsBeforeMark new job
    due_so =
        before_cases job p new (λ h. subst (λ (m : Option ℕ). is_due new.out.job m ≡ true) (sym settled_so.mark) (subst (λ (r : QueueState). is_due r.job q.mark ≡ true) (sym settled_so.out) (t.due h))) inv.due

    -- whatever becomes of formats, geometry and codec
    module _ (f : FormatPair) (g : Option Geometry) (state : DecoderState) (placed : IsPlaced (decoder_state f g new es state job)) where
      abbrev then : Context
      then = decoder_state f g new es state job

      cap_stays : is_none (job_mark job) ≡ false → new.cap.job ≡ p.cap.job
      cap_stays e =
          let running : is_run (pair_settled q).phase ≡ true = subst (λ (x : PairState). is_run x.phase ≡ true) en (runs then placed e) in
          ap (λ (x : PairState). x.cap.job) en ∙ (ap (λ (x : QueueState). x.job) (stays_in_run q running) ∙ t.cap.job)

      pub knows_so : KnowsItsJob new job
      knows_so =
          knows_cases job p new (ap (λ (x : QueueState). x.job) settled_so.out ∙ t.out.job) cap_stays inv.knows

      pub steps : IsKept before → IsStep before then
      steps k =
          let s = settled_so in
          let d = sides then placed in
          let o1 : new.out.next_ordinal ≡ q.out.next_ordinal = ap (λ (x : QueueState). x.next_ordinal) s.out in
          let o2 : new.out.next_seq ≡ q.out.next_seq = ap (λ (x : QueueState). x.next_seq) s.out in
          let o3 = t.out.queued in
          let o4 = t.out.retired in
          let o5 = t.cap.queued in
          let o6 = t.cap.retired in
          let o7 = s.queued in
          let o8 = s.retired in
          let o9 = raised_so in
          record {
            kept = record {
              out_side = d.out_side;
              cap_side = d.cap_side;
              filled = subst (λ (x : QueueState). AreFilled x.ready) (sym s.out) (t.filled k.filled);
              job_filled = subst (λ (x : QueueState). AreFilled x.job) (sym s.out) (subst AreFilled (sym t.out.job) k.job_filled);
              out_filled = subst (λ (x : QueueState). AreFilled x.done) (sym s.out) (t.out.done k.out_filled);
              cap_filled = s.done (t.cap.done k.cap_filled);
              out_idle = d.out_idle;
              cap_idle = d.cap_idle;
            };
            counted =
                λ bound n.
                let n1 : p.out.next_ordinal ≤ bound = n.out_queued in
                let n2 : p.cap.next_ordinal ≤ bound = n.cap_queued in
                let n3 : p.out.next_seq ≤ bound = n.out_done in
                let n4 : p.cap.next_seq ≤ bound = n.cap_done in
                let n5 : events.next_seq ≤ bound = n.raised in record { out_queued = omega arith; cap_queued = omega arith; out_done = omega arith; cap_done = omega arith; raised = omega arith };
          }

      pub holding : (hold : HoldState) → (FitsBoth p hold → FitsBoth q hold) → FitsContext before hold → FitsContext then hold
      holding hold h c =
          let g : FitsBoth new hold = subst (λ (x : PairState). FitsBoth x hold) (sym en) (fits_settled q hold (h (c.out, c.cap))) in
          record { out = g.0; cap = g.1 }

      pub serve : (answer : Answer) (reply : Reply) → IsKept before → Gives answer reply then → ((hold : HoldState) → FitsBoth p hold → FitsBoth q hold) → Serves answer reply before then
      serve answer reply k given h =
          record { gives = given; step = steps k; holds = λ hold c. holding hold (h hold) c }

  module _ (q new : PairState) (es : EventState) (t : Turns p q) (en : new ≡ pair_settled q) (ee : es ≡ events_settled q events) where
    settles_so : Settles q new
    settles_so = settled_so q new es (counted p q t) en ee

    pub gone_so : buffer_count new.out ≡ 0 → buffer_count p.out ≡ 0
    gone_so z = t.out.gone (subst (λ (x : QueueState). buffer_count x ≡ 0) settles_so.out z)

    pub supplied_so : IsSupplied formats.out.size new.out parts.limit job
    supplied_so =
        supplied_cases job formats.out.size p.out new.out parts.limit (λ h. t.out.some (subst (λ (x : QueueState). 0 < buffer_count x) settles_so.out h)) inv.supplied

    pub served_so : AreServed (lent_room job ++ parts.rooms) new.cap
    served_so = settles_so.lengths _ (t.cap.lengths _ inv.served)

    pub keeps : IsPlaced (after new es) → IsDecoder formats geometry new es parts job
    keeps placed =
        record {
          stands = inv.stands;
          sized = inv.sized;
          placed = placed;
          picture = inv.picture;
          fresh = λ z. inv.fresh (gone_so z);
          stream = inv.stream;
          begun = (begun_so q new es (counted p q t) en ee).ready;
          untouched = (begun_so q new es (counted p q t) en ee).held;
          blank = blank_so q new es (counted p q t) en ee;
          knows = knows_so q new es (counted p q t) en ee formats geometry parts.state placed;
          supplied = supplied_so;
          served = served_so;
          lent = inv.lent;
          due = due_so q new es (counted p q t) en ee;
        }

  -- a call on the queues that is refused, or does something to them and settles
  module _ (request : Call) (bytes : List ℕ) (found : Bool) (A : Type 0) (tell : A → Reply) (value : A) (o : Option Errno) (q mid new : PairState)
      (es : EventState) (result : Result A Errno) (reply : Reply)
      (row : context_answer before request bytes found ≡ unless before o (answered (after q events) (tell value))) (jobs : JobsStay p q)
      (t : o ≡ None → Turns p q) (er : result ≡ answer_of o value) (em : mid ≡ after_of o p q) (et : reply ≡ told_of tell result)
      (en : new ≡ pair_settled mid) (ee : es ≡ events_settled mid events) where
    pub gives_call : Gives (context_answer before request bytes found) reply (after new es)
    gives_call =
        rw row (called formats geometry parts.state job tell value o p q mid new events es result reply quiet_here (same_jobs formats geometry parts.state job p q events jobs.out jobs.cap agree_here) er em et en ee)

    turns_call : Turns p mid
    turns_call = subst (λ (x : PairState). Turns p x) (sym em) (turns_after o p q t)

    placed_call : IsPlaced (after new es)
    placed_call = place request bytes found reply (after new es) gives_call

    pub keeps_call : IsDecoder formats geometry new es parts job
    keeps_call = keeps mid new es turns_call en ee placed_call

    pub steps_call : IsKept before → IsStep before (after new es)
    steps_call k = steps mid new es (counted p mid turns_call) en ee formats geometry parts.state placed_call k

    fits_cases : (w : Option Errno) (hold : HoldState) → (FitsBoth p hold → FitsBoth q hold) → FitsBoth p hold → FitsBoth (after_of w p q) hold
    fits_cases (Some e) hold g k = k
    fits_cases None hold g k = g k

    fits_call : (hold : HoldState) → (FitsBoth p hold → FitsBoth q hold) → FitsBoth p hold → FitsBoth mid hold
    fits_call hold h f =
        subst (λ (x : PairState). FitsBoth x hold) (sym em) (fits_cases o hold h f)

    pub serves_call : IsKept before → ((hold : HoldState) → FitsBoth p hold → FitsBoth q hold) → Serves (context_answer before request bytes found) reply before (after new es)
    serves_call k h =
        serve mid new es (counted p mid turns_call) en ee formats geometry parts.state placed_call (context_answer before request bytes found) reply k gives_call (λ hold f. fits_call hold (h hold) f)
