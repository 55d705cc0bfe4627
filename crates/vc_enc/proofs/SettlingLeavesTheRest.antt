-- Settling changes the phase and moves the front of CAPTURE's ready to done at most. So all else of the pair stays,
-- numbers rise by one at most, and while a job runs nothing is to be settled.
use Rattle.std.proofs.Common.{ℕ, ◌≡◌, ◌≤◌, ◌+◌, leb, Bool, true, false, cond, ◌&&◌, List, [], ◌∷◌, refl, sym, ap, ◌∙◌, subst, arith}
use Rattle.std.proofs.lemmas.Bool.{and_parts}
use Rattle.vc_base.specs.Buffers.{Buffer, QueueState, is_empty, lend_after, lend_front, retire_after, zero_stamp}
use Rattle.vc_base.specs.Limits.{last_flag, eos_event}
use Rattle.vc_base.specs.Events.{EventState, is_subscribed}
use Rattle.vc_model.specs.Context.{Cause, drain, PhaseState, run, owe, last, stopped, is_run, is_drained}
use Rattle.vc_model.specs.Sound.{AreLong}
use Rattle.vc_pair.specs.Pairs.{PairState, owes_last, owing, last_given, given, pair_settled, raises_end}
use Rattle.vc_context.specs.Contexts.{AreFilled}
use Rattle.vc_context.proofs.QueuesCountUp.{retired_goes}
use Rattle.vc_m2m.specs.Settling.{end_raised, events_settled}

-- What settling leaves as it is: all but the phase, and the front of CAPTURE's ready.
pub record Settles (p q : PairState) : Type 0 where
  pub out : q.out ≡ p.out
  pub mark : q.mark ≡ p.mark
  pub side : q.cap.side ≡ p.cap.side
  pub streams : q.cap.streams ≡ p.cap.streams
  pub queued : q.cap.next_ordinal ≡ p.cap.next_ordinal
  pub retired : q.cap.next_seq ≤ p.cap.next_seq + 1
  pub idle : p.cap.job ≡ [] → q.cap.job ≡ []
  pub long : (size : ℕ) → AreLong size p.cap.ready → AreLong size q.cap.ready
  pub filled : AreFilled p.cap.done → AreFilled q.cap.done

nothing : (p : PairState) → Settles p p
nothing p =
    record { out = refl; mark = refl; side = refl; streams = refl; queued = refl; retired = omega arith; idle = λ e. e; long = λ size h. h; filled = λ h. h }

given_last : (p : PairState) (cause : Cause) (ready : List Buffer) → p.cap.ready ≡ ready → Settles p (last_given p cause ready)
given_last p cause [] e = nothing p
given_last p cause (b ∷ rest) e =
    let q : QueueState = retire_after (lend_after p.cap) 0 [] last_flag zero_stamp in
    let lent : QueueState = record p.cap { ready = rest; job = b ∷ [] } in
    let same : q ≡ retire_after lent 0 [] last_flag zero_stamp = ap (λ (bs : List Buffer). retire_after (lend_front p.cap bs) 0 [] last_flag zero_stamp) e in
    let n : q.next_seq ≡ p.cap.next_seq + 1 = ap (λ (x : QueueState). x.next_seq) same in
    record {
      out = refl;
      mark = refl;
      side = ap (λ (x : QueueState). x.side) same;
      streams = ap (λ (x : QueueState). x.streams) same;
      queued = ap (λ (x : QueueState). x.next_ordinal) same;
      retired = omega (arith, n);
      idle = λ h. ap (λ (x : QueueState). x.job) same;
      long = λ size h. subst (λ (x : QueueState). AreLong size x.ready) (sym same) (and_parts (leb size b.size) _ (subst (AreLong size) e h)).1;
      filled = λ h. subst (λ (x : QueueState). AreFilled x.done) (sym same) ((retired_goes lent 0 [] last_flag zero_stamp (omega arith)).done h);
    }

given_settles : (p : PairState) (phase : PhaseState) → Settles p (given p phase)
given_settles p run = nothing p
given_settles p (owe cause) = given_last p cause p.cap.ready refl
given_settles p (last cause) = nothing p
given_settles p (stopped cause) = nothing p

owing_settles : (p : PairState) (b : Bool) (phase : PhaseState) → Settles p (given (cond b (record p { phase = owe drain }) p) phase)
owing_settles p true phase =
    let s : Settles (record p { phase = owe drain }) (given (record p { phase = owe drain }) phase) = given_settles (record p { phase = owe drain }) phase in
    record { out = s.out; mark = s.mark; side = s.side; streams = s.streams; queued = s.queued; retired = s.retired; idle = s.idle; long = s.long; filled = s.filled }
owing_settles p false phase = given_settles p phase

pub settles : (p : PairState) → Settles p (pair_settled p)
settles p = owing_settles p (owes_last p) (owing p).phase

-- while a job runs nothing is to be settled

no_drain : (r s c d : Bool) (p : PairState) → cond (r && (s && ((false && c) && d))) (record p { phase = owe drain }) p ≡ p
no_drain true true c d p = refl
no_drain true false c d p = refl
no_drain false s c d p = refl

pub settled_at_work : (p : PairState) → p.phase ≡ run → is_empty p.out.job ≡ false → pair_settled p ≡ p
settled_at_work p e n =
    let same : owing p ≡ p = rw n (no_drain (is_run p.phase) p.cap.streams (is_empty p.cap.job) (is_drained p.out.ready p.mark) p) in
    ap (λ (q : PairState). given q q.phase) same ∙ ap (given p) e

-- events are raised one by one

raised_at_most : (s : EventState) (b : Bool) (x : EventState) → x.next_seq ≡ s.next_seq + 1 → (cond b x s).next_seq ≤ s.next_seq + 1
raised_at_most s true x e = omega (arith, e)
raised_at_most s false x e = omega arith

pub end_counts : (ended : Bool) (s : EventState) → (end_raised ended s).next_seq ≤ s.next_seq + 1
end_counts true s = raised_at_most s (is_subscribed s eos_event) _ refl
end_counts false s = omega arith

pub events_count : (p : PairState) (s : EventState) → (events_settled p s).next_seq ≤ s.next_seq + 1
events_count p s = end_counts (raises_end p) s
