-- What an encoder keeps survives a call that leaves the buffers in the job and keeps what is ready fitting. Settling
-- moves one CAPTURE buffer at most, and none while a job runs, so it keeps the rest too.
use Rattle.std.proofs.Common.{ℕ, ◌≡◌, ◌<◌, ◌≤◌, ◌+◌, Bool, true, false, ◌&&◌, Option, Some, None, List, [], ◌∷◌, map, length, refl, sym, ap, ◌∙◌, subst, arith}
use Rattle.std.specs.Prelude.{is_none, is_some}
use Rattle.vc_base.specs.declared.Errno.{Errno}
use Rattle.vc_base.specs.declared.Format.{Format}
use Rattle.vc_base.specs.Buffers.{Buffer, QueueState, is_empty, buffer_count}
use Rattle.vc_base.specs.Events.{EventState}
use Rattle.vc_defs.specs.Encoder.{RunRates, fresh_encoder}
use Rattle.vc_model.specs.Formats.{FormatPair}
use Rattle.vc_model.specs.Context.{run}
use Rattle.vc_model.specs.Sound.{AreLong}
use Rattle.vc_queue.specs.Answers.{after_of}
use Rattle.vc_work.specs.References.{CodecReference}
use Rattle.vc_work.specs.Runs.{coder_state}
use Rattle.vc_pair.specs.Pairs.{PairState, pair_settled}
use Rattle.vc_pair.specs.Rows.{JobsAgree}
use Rattle.vc_pair.proofs.SettlesOnce.{settled_by}
use Rattle.vc_context.specs.Contexts.{AreFilled, IsKept, IsStep}
use Rattle.vc_enc.specs.declared.InJob.{InJob}
use Rattle.vc_m2m.specs.Settling.{events_settled}
use Rattle.vc_enc.specs.Encoders.{AreWhole, IsSupplied, IsInJob, KnowsItsJob, IsEncoder, encoder_state, job_mark}
use Rattle.vc_enc.proofs.SettlingLeavesTheRest.{Settles, settles, settled_at_work, events_count}

-- what a call leaves of a queue's job, and how it counts
pub record GoesQueue (working : Bool) (q r : QueueState) : Type 0 where
  pub side : r.side ≡ q.side
  pub job : r.job ≡ q.job
  pub streams : working ≡ true → q.streams ≡ true → r.streams ≡ true
  pub queued : r.next_ordinal ≤ q.next_ordinal + 1
  pub retired : r.next_seq ≤ q.next_seq
  pub filled : AreFilled q.done → AreFilled r.done

-- what a call leaves of the pair
pub record Goes (working : Bool) (p q : PairState) : Type 0 where
  pub out : GoesQueue working p.out q.out
  pub cap : GoesQueue working p.cap q.cap
  pub phase : working ≡ true → p.phase ≡ run → q.phase ≡ run

-- what is ready fits the formats
pub record AreFine (formats : FormatPair) (p : PairState) : Type 0 where
  pub whole : AreWhole formats.out.size p.out.ready
  pub filled : AreFilled p.out.ready
  pub long : AreLong formats.cap.size p.cap.ready

pub stays : (working : Bool) (q : QueueState) → GoesQueue working q q
stays working q =
    record { side = refl; job = refl; streams = λ w e. e; queued = omega arith; retired = omega arith; filled = λ h. h }

pub all_stays : (working : Bool) (p : PairState) → Goes working p p
all_stays working p = record { out = stays working p.out; cap = stays working p.cap; phase = λ w e. e }

-- the reference, where the number of OUTPUT buffers changes

pub still_supplied : (format : Format) (n m : ℕ) (reference : Option CodecReference) → (n ≡ 0 → m ≡ 0) → (0 < n → 0 < m) → IsSupplied format n reference → IsSupplied format m reference
still_supplied format n m None none some h = none h
still_supplied format n m (Some r) none some h = (some h.0, h.1)

-- what a job that runs has

has_one : (bs : List Buffer) (index : ℕ) → map (λ b. b.index) bs ≡ index ∷ [] → is_empty bs ≡ false
has_one [] index e = cc
has_one (b ∷ bs) index e = refl

in_job : (q r : QueueState) (index : ℕ) → GoesQueue true q r → IsInJob q index → IsInJob r index
in_job q r index g h =
    record { streams = g.streams refl h.streams; one = ap (map (λ b. b.index)) g.job ∙ h.one }

known_at :
    (format : Format) (p q : PairState) (old new : Option CodecReference) (job : Option InJob) → Goes (is_some job) p q
    → KnowsItsJob format p old job → (job ≡ None → IsSupplied format (buffer_count q.out) new) → KnowsItsJob format (pair_settled q) new job
known_at format p q old new None g k s =
    let t : Settles q (pair_settled q) = settles q in
    (ap (λ (x : QueueState). x.job) t.out ∙ (g.out.job ∙ k.0), t.idle (g.cap.job ∙ k.1), subst (λ (x : QueueState). IsSupplied format (buffer_count x) new) (sym t.out) (s refl))
known_at format p q old new (Some job) g k s =
    let there : IsInJob q.out job.source = in_job p.out q.out job.source g.out k.1 in
    let same : pair_settled q ≡ q = settled_at_work q (g.phase refl k.0) (has_one q.out.job job.source there.one) in
    subst (λ (x : PairState). KnowsItsJob format x new (Some job)) (sym same) (g.phase refl k.0, there, in_job p.cap q.cap job.dest g.cap k.2)

pub agree_at : (format : Format) (p q : PairState) (reference : Option CodecReference) (job : Option InJob) → Goes (is_some job) p q → KnowsItsJob format p reference job → is_none (job_mark job) ≡ (is_empty q.out.job && is_empty q.cap.job)
agree_at format p q reference None g k =
    let a : q.out.job ≡ [] = g.out.job ∙ k.0 in
    let b : q.cap.job ≡ [] = g.cap.job ∙ k.1 in
    rw (a, b) refl
agree_at format p q reference (Some job) g k =
    rw (has_one q.out.job job.source (in_job p.out q.out job.source g.out k.1).one) refl

idle_at : (format : Format) (p : PairState) (reference : Option CodecReference) (job : Option InJob) → KnowsItsJob format p reference job → job_mark job ≡ None → (p.out.job ≡ []) × (p.cap.job ≡ [])
idle_at format p reference None k e = (k.0, k.1)
idle_at format p reference (Some job) k e = cc

-- before OUTPUT has buffers no job runs, and the codec is to begin anew

no_state : (format : Format) (n : ℕ) (reference : Option CodecReference) → n ≡ 0 → IsSupplied format n reference → coder_state reference ≡ fresh_encoder
no_state format n None e h = refl
no_state format n (Some r) e h = absurd (omega (arith, h.0, e))

one_there : (bs : List Buffer) (index : ℕ) → map (λ b. b.index) bs ≡ index ∷ [] → length bs ≡ 0 → ⊥
one_there [] index e h = cc
one_there (b ∷ bs) index e h = absurd (omega (arith, h))

pub nothing_yet : (format : Format) (p : PairState) (reference : Option CodecReference) (job : Option InJob) → KnowsItsJob format p reference job → buffer_count p.out ≡ 0 → (job ≡ None) × (coder_state reference ≡ fresh_encoder)
nothing_yet format p reference None k z = (refl, no_state format (buffer_count p.out) reference z k.2)
nothing_yet format p reference (Some job) k z = absurd (one_there p.out.job job.source k.1.one (omega arith))

-- What a call makes of the pair, with the reference that it leaves.
pub record IsEffect (formats : FormatPair) (reference : Option CodecReference) (job : Option InJob) (p q : PairState) : Type 0 where
  pub goes : Goes (is_some job) p q
  pub fine : AreFine formats q
  pub supplied : job ≡ None → IsSupplied formats.out (buffer_count q.out) reference

pub supplied_here : (format : Format) (p : PairState) (reference : Option CodecReference) (job : Option InJob) → KnowsItsJob format p reference job → job ≡ None → IsSupplied format (buffer_count p.out) reference
supplied_here format p reference None k e = k.2
supplied_here format p reference (Some job) k e = cc

-- a call that changes nothing
pub no_effect : (formats : FormatPair) (p : PairState) (reference : Option CodecReference) (job : Option InJob) → IsEncoder formats p reference job → AreFilled p.out.ready → IsEffect formats reference job p p
no_effect formats p reference job inv filled =
    record {
      goes = all_stays (is_some job) p;
      fine = record { whole = inv.whole; filled = filled; long = inv.long };
      supplied = supplied_here formats.out p reference job inv.known;
    }

-- a refusal changes nothing
pub effect_after :
    (formats : FormatPair) (p q : PairState) (reference : Option CodecReference) (job : Option InJob) (o : Option Errno)
    → IsEncoder formats p reference job → AreFilled p.out.ready → (o ≡ None → IsEffect formats reference job p q)
    → IsEffect formats reference job p (after_of o p q)
effect_after formats p q reference job (Some e) inv filled h =
    no_effect formats p reference job inv filled
effect_after formats p q reference job None inv filled h = h refl

module _ (formats : FormatPair) (rates : RunRates) (p q : PairState) (events : EventState) (old new : Option CodecReference) (job : Option InJob) (inv : IsEncoder formats p old job) (h : IsEffect formats new job p q) where
  -- the context goes on keeping what every encoder keeps
  pub keeps : IsEncoder formats (pair_settled q) new job
  keeps =
      let t : Settles q (pair_settled q) = settles q in
      record {
        stands = inv.stands;
        settled = settled_by q;
        whole = subst (λ (x : QueueState). AreWhole formats.out.size x.ready) (sym t.out) h.fine.whole;
        long = t.long formats.cap.size h.fine.long;
        known = known_at formats.out p q old new job h.goes inv.known h.supplied;
      }

  pub agrees : JobsAgree (encoder_state formats rates q events new job)
  agrees = agree_at formats.out p q old job h.goes inv.known

  -- the call is a step
  pub steps : IsKept (encoder_state formats rates p events old job) → IsStep (encoder_state formats rates p events old job) (encoder_state formats rates (pair_settled q) (events_settled q events) new job)
  steps kept =
      let t : Settles q (pair_settled q) = settles q in
      let idle : job_mark job ≡ None → ((pair_settled q).out.job ≡ []) × ((pair_settled q).cap.job ≡ []) = idle_at formats.out (pair_settled q) new job keeps.known in
      record {
        kept = record {
          out_side = ap (λ (x : QueueState). x.side) t.out ∙ (h.goes.out.side ∙ kept.out_side);
          cap_side = t.side ∙ (h.goes.cap.side ∙ kept.cap_side);
          filled = subst (λ (x : QueueState). AreFilled x.ready) (sym t.out) h.fine.filled;
          job_filled = subst (λ (x : QueueState). AreFilled x.job) (sym t.out) (subst AreFilled (sym h.goes.out.job) kept.job_filled);
          out_filled = subst (λ (x : QueueState). AreFilled x.done) (sym t.out) (h.goes.out.filled kept.out_filled);
          cap_filled = t.filled (h.goes.cap.filled kept.cap_filled);
          out_idle = λ e. (idle e).0;
          cap_idle = λ e. (idle e).1;
        };
        counted = λ bound n.
            let a : (pair_settled q).out.next_ordinal ≡ q.out.next_ordinal = ap (λ (x : QueueState). x.next_ordinal) t.out in
            let b : (pair_settled q).out.next_seq ≡ q.out.next_seq = ap (λ (x : QueueState). x.next_seq) t.out in
            record {
              out_queued = omega (arith, a, h.goes.out.queued, n.out_queued);
              cap_queued = omega (arith, t.queued, h.goes.cap.queued, n.cap_queued);
              out_done = omega (arith, b, h.goes.out.retired, n.out_done);
              cap_done = omega (arith, t.retired, h.goes.cap.retired, n.cap_done);
              raised = omega (arith, events_count q events, n.raised);
            };
      }
