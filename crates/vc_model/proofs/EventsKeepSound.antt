-- Claims and finishes leave a slot sound, and with the calls so does every list of events. A claim moves the front
-- buffers into the job, and a finish moves them on to done or back to ready; each moves a buffer and makes none, so
-- that it stays in exactly one place. What holds at every moment follows by induction over the events.
use Rattle.std.proofs.Common.{ℕ, ◌≡◌, ◌≤◌, ◌+◌, ◌==◌, eqb, nat_lt, nat_le, Bool, true, false, not, cond, ◌&&◌, ◌||◌, is_none, is_some, Option, Some, None, List, [], ◌∷◌, length, refl, sym, ap, ◌∙◌, subst, arith, ⊎_elim}
use Rattle.std.specs.Prelude.{bit_and}
use Rattle.std.specs.List.{list_any}
use Rattle.std.proofs.lemmas.List.Folds.{list_any-append}
use Rattle.std.proofs.lemmas.Bool.{false≢true}
use Rattle.vc_base.specs.declared.Stamp.{Stamp}
use Rattle.vc_base.specs.declared.Side.TheVariants.{Out, Cap}
use Rattle.vc_base.specs.declared.Kind.{Kind}
use Rattle.vc_base.specs.declared.Kind.TheVariants.{Copy, Enc, Dec}
use Rattle.vc_base.specs.Buffers.{Buffer, QueueState, is_empty, lend_front, lend_after, give_back_from, give_back_after, retire_from, retire_after}
use Rattle.vc_base.specs.Limits.{last_flag, error_flag}
use Rattle.vc_base.specs.Events.{EventState}
use Rattle.vc_defs.specs.declared.Geometry.{Geometry}
use Rattle.vc_model.specs.Formats.{FormatPair}
use Rattle.vc_model.specs.Coder.{Coder, CodecState, no_codec, encoder, decoder, reset}
use Rattle.vc_defs.specs.Decoder.{DecodedStep, DecodedResult, picture, damaged, changed, spent, step_outcome}
use Rattle.vc_defs.specs.Encoder.{EncodedFrame}
use Rattle.vc_model.specs.Context.{Context, Slot, Running, RunSort, copy, encode, decode, probe, drain, change, PhaseState, run, owe, last, stopped, is_dec, is_run, is_drained, has_before, sizeimage, raise_end}
use Rattle.vc_model.specs.Runs.{front_is_due, is_unknown, ready_for_probe, ready_for_run, is_claimable, sort_of, cap_after_claim, running_of, claim_front}
use Rattle.vc_model.specs.Runs.{after_claim, JobData, job_data, RunResult, copied, encoded, decoded, run_result, run_of, encode_run, decode_run, source_done}
use Rattle.vc_model.specs.Runs.{source_back, dest_done, dest_back, type_flag, source_moved, decoded_effect, run_effect, fault_effect, after_finish}
use Rattle.vc_model.specs.Solo.{SoloEvent, Called, Claims, Finishes, solo_step, solo_slot, claim_step, solo_finish, finish_step}
use Rattle.vc_model.specs.Sound.{IsSoundQueue, HasItsBuffers, HasCodec, dest_count, ends_with_last, is_last, AreLong, last_not_given, is_at_end, MarkIsQueued, IsSettled, IsSoundButUnsettled, IsOrdered, IsOrderedSlot}
use Rattle.vc_model.specs.Drains.{NoneBefore, NoneLeft}
use Rattle.vc_base.specs.declared.Errno.TheVariants.{Again, Inval, Pipe}
use Rattle.vc_base.specs.declared.Reply.TheVariants.{Refused}
use Rattle.vc_base.specs.Buffers.{refuse_if}
use Rattle.vc_model.specs.Context.{is_stopped}
use Rattle.vc_model.specs.Answer.{unless_or_block, taken_answer, context_answer, answer}
use Rattle.vc_model.specs.Soundness.{StoppedAnswersPipe, OnePlace, RoomForPictures, DrainsInTime}
use Rattle.vc_model.proofs.PartsOfTests.{and_left, and_right, and_both, not_true, or_cases}
use Rattle.vc_model.proofs.QueuesKeepSound.{no_longer, lend_sound, give_back_sound, retire_sound}
use Rattle.vc_model.proofs.CallsKeepFirm.{run_no_change, run_not_end, idle, without_job, no_job_there, last_end, raised_firm, settle_sound, codec_reset}
use Rattle.vc_model.proofs.AnswersKeepSound.{answer_sound}

-- Claims

pub probe_sort : (kind : Kind) (g : Option Geometry) → (is_dec kind && is_none g) ≡ true → sort_of kind g ≡ probe
probe_sort Copy g e = absurd (false≢true e)
probe_sort Enc g e = absurd (false≢true e)
probe_sort Dec None e = refl
probe_sort Dec (Some g) e = absurd (false≢true e)

pub run_sort : (kind : Kind) (g : Option Geometry) → (is_dec kind && is_none g) ≡ false → dest_count (sort_of kind g) ≡ 1
run_sort Copy g e = refl
run_sort Enc g e = refl
run_sort Dec None e = absurd (false≢true (sym e))
run_sort Dec (Some g) e = refl

run_takes : (sort : RunSort) (q : QueueState) → dest_count sort ≡ 1 → cap_after_claim sort q ≡ lend_after q
run_takes copy q e = refl
run_takes encode q e = refl
run_takes decode q e = refl
run_takes probe q e = absurd (omega arith)

never : (a b : Bool) → (a && (b && false)) ≡ false
never true true = refl
never true false = refl
never false b = refl

not_owing : (p : PhaseState) (ready : List Buffer) → is_run p ≡ true → last_not_given p ready ≡ false
not_owing run ready e = refl
not_owing (owe cause) ready e = absurd (false≢true e)
not_owing (last cause) ready e = refl
not_owing (stopped cause) ready e = refl

run_not_last : {A : Type 0} → (p : PhaseState) → is_run p ≡ true → is_last p ≡ true → A
run_not_last run e l = absurd (false≢true l)
run_not_last (owe cause) e l = absurd (false≢true l)
run_not_last (last cause) e l = absurd (false≢true e)
run_not_last (stopped cause) e l = absurd (false≢true l)

-- with a running job and in phase Run nothing is due
busy_settled : (c : Context) (r : Running) → c.running ≡ Some r → is_run c.phase ≡ true → IsSettled c
busy_settled c r e p =
    record {
      noted = ap (λ o. is_run c.phase && (c.cap.streams && (is_none o && is_drained c.out.ready c.mark))) e ∙ never (is_run c.phase) c.cap.streams;
      given = not_owing c.phase c.cap.ready p;
    }

claimed_sound :
    (c : Context) (r : Running) (b : Buffer) (rest : List Buffer) (q : QueueState) → c.out.ready ≡ b ∷ rest → c.out.job ≡ [] → c.out.streams ≡ true
    → is_run c.phase ≡ true → IsSoundQueue q → q.side ≡ Cap → length q.job ≡ dest_count r.sort
    → (q.streams ≡ true → AreLong (sizeimage c Cap) q.ready) → (q.streams ≡ true → AreLong (sizeimage c Cap) q.job) → IsSoundButUnsettled c
    → IsOrdered (record c { out = lend_front c.out (b ∷ rest); cap = q; running = Some r })
claimed_sound c r b rest q e j s p q_sound side count l1 l2 f =
    record {
      firm = record {
        out_side = f.out_side;
        cap_side = side;
        out = lend_sound c.out b rest e j s f.out;
        cap = q_sound;
        has_buffers = (p, refl, count);
        has_codec = f.has_codec;
        marked = λ m. s;
        queued = f.queued;
        drained = run_not_end c.phase p;
        stopping = λ n. no_longer (is_run c.phase) p n;
        ends = run_not_last c.phase p;
        long = record { ready = λ t n. l1 t; job = λ t n. l2 t };
      };
      settled = busy_settled (record c { out = lend_front c.out (b ∷ rest); cap = q; running = Some r }) r refl p;
    }

run_claim :
    (c : Context) (r : Running) (b : Buffer) (rest : List Buffer) → c.out.ready ≡ b ∷ rest → c.out.streams ≡ true → c.cap.streams ≡ true
    → is_run c.phase ≡ true → is_none c.running ≡ true → dest_count r.sort ≡ 1 → (ds : List Buffer) → c.cap.ready ≡ ds → not (is_empty ds) ≡ true
    → IsSoundButUnsettled c → IsOrdered (record c { out = lend_front c.out (b ∷ rest); cap = lend_front c.cap ds; running = Some r })
run_claim c r b rest e s t p n count [] d h f = absurd (false≢true h)
run_claim c r b rest e s t p n count (x ∷ ds) d h f =
    let jobs = without_job c f n in
    let all = subst (AreLong (sizeimage c Cap)) d (f.long.ready t (run_no_change c.phase p)) in
    claimed_sound c r b rest (lend_front c.cap (x ∷ ds)) e jobs.0 s p (lend_sound c.cap x ds d jobs.1 t f.cap) f.cap_side (sym count)
    (λ u. and_right (nat_le (sizeimage c Cap) x.size) _ all)
    (λ u. and_both (nat_le (sizeimage c Cap) x.size) true (and_left (nat_le (sizeimage c Cap) x.size) _ all) refl) f

probe_claim :
    (c : Context) (r : Running) (b : Buffer) (rest : List Buffer) → c.out.ready ≡ b ∷ rest → c.out.streams ≡ true → is_run c.phase ≡ true
    → is_none c.running ≡ true → r.sort ≡ probe → IsSoundButUnsettled c
    → IsOrdered (record c { out = lend_front c.out (b ∷ rest); cap = c.cap; running = Some r })
probe_claim c r b rest e s p n sort f =
    let jobs = without_job c f n in
    claimed_sound c r b rest c.cap e jobs.0 s p f.cap f.cap_side (ap length jobs.1 ∙ sym (ap dest_count sort)) (λ t. f.long.ready t (run_no_change c.phase p)) (λ t. f.long.job t (run_no_change c.phase p)) f

-- the parts of ready for a probe and for a run
abbrev probe_parts : Context → Type 0
probe_parts c = (is_unknown c ≡ true) × (c.out.streams ≡ true) × (is_run c.phase ≡ true) × (front_is_due c.out.ready c.mark ≡ true)

parts_of_probe : (c : Context) → ready_for_probe c ≡ true → probe_parts c
parts_of_probe c p =
    let a = and_right (is_unknown c) (c.out.streams && (is_run c.phase && front_is_due c.out.ready c.mark)) p in
    let b = and_right c.out.streams (is_run c.phase && front_is_due c.out.ready c.mark) a in
    (and_left (is_unknown c) _ p, and_left c.out.streams _ a, and_left (is_run c.phase) _ b, and_right (is_run c.phase) _ b)

abbrev run_parts : Context → Type 0
run_parts c = (c.out.streams ≡ true) × (c.cap.streams ≡ true) × (not (is_empty c.out.ready) ≡ true) × (not (is_empty c.cap.ready) ≡ true) × (is_run c.phase ≡ true) × (is_unknown c ≡ false)

parts_of_run : (c : Context) → ready_for_run c ≡ true → run_parts c
parts_of_run c p =
    let x = and_left (c.out.streams && c.cap.streams) ((not (is_empty c.out.ready) && not (is_empty c.cap.ready)) && (is_run c.phase && not (is_unknown c))) p in
    let y = and_right (c.out.streams && c.cap.streams) ((not (is_empty c.out.ready) && not (is_empty c.cap.ready)) && (is_run c.phase && not (is_unknown c))) p in
    let u = and_left (not (is_empty c.out.ready) && not (is_empty c.cap.ready)) (is_run c.phase && not (is_unknown c)) y in
    let v = and_right (not (is_empty c.out.ready) && not (is_empty c.cap.ready)) (is_run c.phase && not (is_unknown c)) y in (
      and_left c.out.streams c.cap.streams x,
      and_right c.out.streams c.cap.streams x,
      and_left (not (is_empty c.out.ready)) _ u,
      and_right (not (is_empty c.out.ready)) _ u,
      and_left (is_run c.phase) _ v,
      not_true (is_unknown c) (and_right (is_run c.phase) _ v),
    )

-- the claim over the list of ready OUTPUT buffers
probe_front : (c : Context) (ready : List Buffer) → c.out.ready ≡ ready → is_none c.running ≡ true → probe_parts c → IsSoundButUnsettled c → IsOrdered (claim_front c (sort_of c.kind c.geometry) ready)
probe_front c [] e n p f = absurd (false≢true (ap (λ l. front_is_due l c.mark) (sym e) ∙ p.3))
probe_front c (b ∷ rest) e n p f =
    let sort = probe_sort c.kind c.geometry p.0 in
    let r = running_of c (sort_of c.kind c.geometry) in
    subst (λ l. IsOrdered (record c { out = lend_front c.out l; cap = cap_after_claim (sort_of c.kind c.geometry) c.cap; running = Some r })) (sym e)
    (subst (λ q. IsOrdered (record c { out = lend_front c.out (b ∷ rest); cap = q; running = Some r })) (sym (ap (λ t. cap_after_claim t c.cap) sort)) (probe_claim c r b rest e p.1 p.2 n sort f))

run_front : (c : Context) (ready : List Buffer) → c.out.ready ≡ ready → is_none c.running ≡ true → run_parts c → IsSoundButUnsettled c → IsOrdered (claim_front c (sort_of c.kind c.geometry) ready)
run_front c [] e n p f = absurd (false≢true (ap (λ l. not (is_empty l)) (sym e) ∙ p.2))
run_front c (b ∷ rest) e n p f =
    let count = run_sort c.kind c.geometry p.5 in
    let r = running_of c (sort_of c.kind c.geometry) in
    subst (λ l. IsOrdered (record c { out = lend_front c.out l; cap = cap_after_claim (sort_of c.kind c.geometry) c.cap; running = Some r })) (sym e)
    (subst (λ q. IsOrdered (record c { out = lend_front c.out (b ∷ rest); cap = q; running = Some r }))
    (sym (run_takes (sort_of c.kind c.geometry) c.cap count)) (run_claim c r b rest e p.0 p.1 p.4 n count c.cap.ready refl p.3 f))

claim_sound : (c : Context) → is_claimable (Some c) ≡ true → IsOrdered c → IsOrdered (after_claim c)
unfolding is_claimable after_claim
claim_sound c p s =
    let n = and_left (is_none c.running) (ready_for_probe c || ready_for_run c) p in
    ⊎_elim (λ (q : ready_for_probe c ≡ true). probe_front c c.out.ready refl n (parts_of_probe c q) s.firm)
    (λ (q : ready_for_run c ≡ true). run_front c c.out.ready refl n (parts_of_run c q) s.firm)
    (or_cases (ready_for_probe c) (ready_for_run c) (and_right (is_none c.running) (ready_for_probe c || ready_for_run c) p))

claim_step_sound : (s : Slot) (b : Bool) → is_claimable s ≡ b → IsOrderedSlot s → IsOrderedSlot (claim_step s b).slot
claim_step_sound None b e h = tt
claim_step_sound (Some c) true e h = claim_sound c e h
claim_step_sound (Some c) false e h = h

-- Finishes

-- a queue that has one buffer in the job streams
job_streams : (q : QueueState) → IsSoundQueue q → length q.job ≡ 1 → (b : Bool) → q.streams ≡ b → b ≡ true
job_streams q s n true e = refl
job_streams q s n false e = let z = ap length (s.job_at_rest e) in absurd (omega arith)

-- what the end of the job leaves of a queue
record Ended (q r : QueueState) : Type 0 where
  pub sound : IsSoundQueue r
  pub gone : r.job ≡ []
  pub side : r.side ≡ q.side
  pub streams : r.streams ≡ q.streams
  pub next : r.next_ordinal ≡ q.next_ordinal

retired : (q : QueueState) (used : ℕ) (bytes : List ℕ) (flags : ℕ) (stamp : Stamp) → IsSoundQueue q → q.streams ≡ true → (bs : List Buffer) → q.job ≡ bs → length bs ≡ 1 → Ended q (retire_from q bs used bytes flags stamp)
retired q used bytes flags stamp s t [] e n = absurd (omega arith)
retired q used bytes flags stamp s t (b ∷ []) e n =
    record { sound = retire_sound q b used bytes flags stamp e t s; gone = refl; side = refl; streams = refl; next = refl }
retired q used bytes flags stamp s t (b ∷ (d ∷ bs)) e n = absurd (omega arith)

retire_ended : (q : QueueState) (used : ℕ) (bytes : List ℕ) (flags : ℕ) (stamp : Stamp) → IsSoundQueue q → length q.job ≡ 1 → Ended q (retire_after q used bytes flags stamp)
retire_ended q used bytes flags stamp s n =
    retired q used bytes flags stamp s (job_streams q s n q.streams refl) q.job refl n

given : (q : QueueState) (cursor : ℕ) (bytes : List ℕ) → IsSoundQueue q → q.streams ≡ true → (bs : List Buffer) → q.job ≡ bs → length bs ≡ 1 → Ended q (give_back_from q bs cursor bytes)
given q cursor bytes s t [] e n = absurd (omega arith)
given q cursor bytes s t (b ∷ []) e n =
    record { sound = give_back_sound q b cursor bytes e t s; gone = refl; side = refl; streams = refl; next = refl }
given q cursor bytes s t (b ∷ (d ∷ bs)) e n = absurd (omega arith)

give_back_ended : (q : QueueState) (cursor : ℕ) (bytes : List ℕ) → IsSoundQueue q → length q.job ≡ 1 → Ended q (give_back_after q cursor bytes)
give_back_ended q cursor bytes s n =
    given q cursor bytes s (job_streams q s n q.streams refl) q.job refl n

-- what is ready and what is the last entry then
retire_ready : (q : QueueState) (used : ℕ) (bytes : List ℕ) (flags : ℕ) (stamp : Stamp) (bs : List Buffer) → (retire_from q bs used bytes flags stamp).ready ≡ q.ready
retire_ready q used bytes flags stamp [] = refl
retire_ready q used bytes flags stamp (b ∷ bs) = refl

retire_last : (q : QueueState) (used : ℕ) (bytes : List ℕ) (flags : ℕ) (stamp : Stamp) (bs : List Buffer) → length bs ≡ 1 → ends_with_last (retire_from q bs used bytes flags stamp).done ≡ eqb (bit_and flags last_flag) last_flag
retire_last q used bytes flags stamp [] n = absurd (omega arith)
retire_last q used bytes flags stamp (b ∷ bs) n = last_end q.done _

give_back_long : (q : QueueState) (cursor : ℕ) (bytes : List ℕ) (least : ℕ) (bs : List Buffer) → AreLong least bs → AreLong least q.ready → AreLong least (give_back_from q bs cursor bytes).ready
give_back_long q cursor bytes least [] j r = r
give_back_long q cursor bytes least (b ∷ bs) j r =
    and_both (nat_le least b.size) _ (and_left (nat_le least b.size) _ j) r

-- A context in the middle of a finish: the job is no longer one of the context, and its buffers may still
-- be in the job lists.
pub record IsEnding (c : Context) : Type 0 where
  pub out_side : c.out.side ≡ Out
  pub cap_side : c.cap.side ≡ Cap
  pub out : IsSoundQueue c.out
  pub cap : IsSoundQueue c.cap
  pub idle : c.running ≡ None
  pub runs : is_run c.phase ≡ true
  pub has_codec : HasCodec c.kind c.codec
  pub marked : is_some c.mark ≡ true → c.out.streams ≡ true
  pub queued : MarkIsQueued c.mark c.out.next_ordinal
  pub ready : c.cap.streams ≡ true → AreLong (sizeimage c Cap) c.cap.ready
  pub job : c.cap.streams ≡ true → AreLong (sizeimage c Cap) c.cap.job

ended_firm : (c : Context) → c.out.job ≡ [] → c.cap.job ≡ [] → IsEnding c → IsSoundButUnsettled c
ended_firm c j k e =
    record {
      out_side = e.out_side;
      cap_side = e.cap_side;
      out = e.out;
      cap = e.cap;
      has_buffers = no_job_there c c.running e.idle j k;
      has_codec = e.has_codec;
      marked = e.marked;
      queued = e.queued;
      drained = run_not_end c.phase e.runs;
      stopping = λ n. no_longer (is_run c.phase) e.runs n;
      ends = run_not_last c.phase e.runs;
      long = record { ready = λ s n. e.ready s; job = λ s n. e.job s };
    }

out_ending : (c : Context) (q : QueueState) → Ended c.out q → IsEnding c → IsEnding (record c { out = q })
out_ending c q d e =
    record {
      out_side = d.side ∙ e.out_side;
      cap_side = e.cap_side;
      out = d.sound;
      cap = e.cap;
      idle = e.idle;
      runs = e.runs;
      has_codec = e.has_codec;
      marked = λ m. d.streams ∙ e.marked m;
      queued = subst (MarkIsQueued c.mark) (sym d.next) e.queued;
      ready = e.ready;
      job = e.job;
    }

done_ending : (c : Context) (j : JobData) (flags : ℕ) → length c.out.job ≡ 1 → IsEnding c → IsEnding (source_done c j flags)
done_ending c j flags n e =
    out_ending c _ (retire_ended c.out j.source.used j.source.bytes flags j.source.stamp e.out n) e

back_ending : (c : Context) (j : JobData) (cursor : ℕ) → length c.out.job ≡ 1 → IsEnding c → IsEnding (source_back c j cursor)
back_ending c j cursor n e = out_ending c _ (give_back_ended c.out cursor j.source.bytes e.out n) e

moved_ending : (c : Context) (j : JobData) (cursor : ℕ) (b : Bool) → length c.out.job ≡ 1 → IsEnding c → IsEnding (source_moved c j cursor b)
moved_ending c j cursor true n e = done_ending c j 0 n e
moved_ending c j cursor false n e = back_ending c j cursor n e

moved_gone : (c : Context) (j : JobData) (cursor : ℕ) (b : Bool) → length c.out.job ≡ 1 → IsEnding c → (source_moved c j cursor b).out.job ≡ []
moved_gone c j cursor true n e =
    (retire_ended c.out j.source.used j.source.bytes 0 j.source.stamp e.out n).gone
moved_gone c j cursor false n e = (give_back_ended c.out cursor j.source.bytes e.out n).gone

moved_cap : (c : Context) (j : JobData) (cursor : ℕ) (b : Bool) → (source_moved c j cursor b).cap ≡ c.cap
moved_cap c j cursor true = refl
moved_cap c j cursor false = refl

-- the destination goes to done, with LAST or without
dest_kept : (c : Context) (used : ℕ) (bytes : List ℕ) (flags : ℕ) (stamp : Stamp) → c.out.job ≡ [] → length c.cap.job ≡ 1 → IsEnding c → IsSoundButUnsettled (record c { cap = retire_after c.cap used bytes flags stamp })
dest_kept c used bytes flags stamp j n e =
    let d = retire_ended c.cap used bytes flags stamp e.cap n in
    ended_firm (record c { cap = retire_after c.cap used bytes flags stamp }) j d.gone (record {
      out_side = e.out_side;
      cap_side = d.side ∙ e.cap_side;
      out = e.out;
      cap = d.sound;
      idle = e.idle;
      runs = e.runs;
      has_codec = e.has_codec;
      marked = e.marked;
      queued = e.queued;
      ready = λ s. subst (AreLong (sizeimage c Cap)) (sym (retire_ready c.cap used bytes flags stamp c.cap.job)) (e.ready (sym d.streams ∙ s));
      job = λ s. subst (AreLong (sizeimage c Cap)) (sym d.gone) refl;
    })

dest_last :
    (c : Context) (used : ℕ) (bytes : List ℕ) (flags : ℕ) (stamp : Stamp) → eqb (bit_and flags last_flag) last_flag ≡ true
    → is_drained c.out.ready c.mark ≡ true → c.out.job ≡ [] → length c.cap.job ≡ 1 → IsEnding c
    → IsSoundButUnsettled (record c { cap = retire_after c.cap used bytes flags stamp; phase = last drain })
dest_last c used bytes flags stamp l end j n e =
    let d = retire_ended c.cap used bytes flags stamp e.cap n in
    record {
      out_side = e.out_side;
      cap_side = d.side ∙ e.cap_side;
      out = e.out;
      cap = d.sound;
      has_buffers = no_job_there (record c { cap = retire_after c.cap used bytes flags stamp; phase = last drain }) c.running e.idle j d.gone;
      has_codec = e.has_codec;
      marked = e.marked;
      queued = e.queued;
      drained = λ x. end;
      stopping = λ x. d.streams ∙ job_streams c.cap e.cap n c.cap.streams refl;
      ends = λ x. retire_last c.cap used bytes flags stamp c.cap.job n ∙ l;
      long = record { ready = λ s x. subst (AreLong (sizeimage c Cap)) (sym (retire_ready c.cap used bytes flags stamp c.cap.job)) (e.ready (sym d.streams ∙ s)); job = λ s x. subst (AreLong (sizeimage c Cap)) (sym d.gone) refl };
    }

dest_split :
    (c : Context) (used : ℕ) (bytes : List ℕ) (flags : ℕ) (stamp : Stamp) → eqb (bit_and (flags + last_flag) last_flag) last_flag ≡ true
    → c.out.job ≡ [] → length c.cap.job ≡ 1 → IsEnding c → (b : Bool) → (b ≡ true → is_drained c.out.ready c.mark ≡ true)
    → IsSoundButUnsettled
    (cond b (raise_end drain (record c { cap = retire_after c.cap used bytes (flags + last_flag) stamp; phase = last drain })) (record c { cap = retire_after c.cap used bytes flags stamp }))
dest_split c used bytes flags stamp l j n e true h =
    raised_firm drain (record c { cap = retire_after c.cap used bytes (flags + last_flag) stamp; phase = last drain }) (dest_last c used bytes (flags + last_flag) stamp l (h refl) j n e)
dest_split c used bytes flags stamp l j n e false h = dest_kept c used bytes flags stamp j n e

dest_firm :
    (c : Context) (dest : List Buffer) (used_up : Bool) (used : ℕ) (bytes : List ℕ) (flags : ℕ) (stamp : Stamp) → c.cap.job ≡ dest → length dest ≤ 1
    → eqb (bit_and (flags + last_flag) last_flag) last_flag ≡ true → c.out.job ≡ [] → IsEnding c
    → IsSoundButUnsettled (dest_done c dest used_up used bytes flags stamp)
dest_firm c [] used_up used bytes flags stamp d n l j e = ended_firm c j d e
dest_firm c (b ∷ []) used_up used bytes flags stamp d n l j e =
    dest_split c used bytes flags stamp l j (ap length d) e (used_up && is_drained c.out.ready c.mark) (and_right used_up (is_drained c.out.ready c.mark))
dest_firm c (b ∷ (x ∷ bs)) used_up used bytes flags stamp d n l j e = absurd (omega arith)

-- the destination goes back
back_dest : (c : Context) (dest : List Buffer) → c.cap.job ≡ dest → length dest ≤ 1 → IsEnding c → IsEnding (dest_back c dest) × ((dest_back c dest).cap.job ≡ []) × ((dest_back c dest).out ≡ c.out)
back_dest c [] d n e = (e, d, refl)
back_dest c (b ∷ []) d n e =
    let x = give_back_ended c.cap 0 [] e.cap (ap length d) in (
      record {
        out_side = e.out_side;
        cap_side = x.side ∙ e.cap_side;
        out = e.out;
        cap = x.sound;
        idle = e.idle;
        runs = e.runs;
        has_codec = e.has_codec;
        marked = e.marked;
        queued = e.queued;
        ready = λ s. give_back_long c.cap 0 [] (sizeimage c Cap) c.cap.job (e.job (sym x.streams ∙ s)) (e.ready (sym x.streams ∙ s));
        job = λ s. subst (AreLong (sizeimage c Cap)) (sym x.gone) refl;
      },
      x.gone,
      refl,
    )
back_dest c (b ∷ (y ∷ bs)) d n e = absurd (omega arith)

-- a change of the resolution
changed_split :
    (c : Context) (geometry : Option Geometry) (formats : FormatPair) (events : EventState) (b : Bool) → c.cap.streams ≡ b → c.out.job ≡ []
    → c.cap.job ≡ [] → IsEnding c
    → IsSoundButUnsettled (cond b (record c { geometry = geometry; formats = formats; events = events; phase = owe change }) (record c { geometry = geometry; formats = formats; events = events }))
changed_split c geometry formats events true s j k e =
    record {
      out_side = e.out_side;
      cap_side = e.cap_side;
      out = e.out;
      cap = e.cap;
      has_buffers = no_job_there (record c { geometry = geometry; formats = formats; events = events; phase = owe change }) c.running e.idle j k;
      has_codec = e.has_codec;
      marked = e.marked;
      queued = e.queued;
      drained = λ (n : false ≡ true). absurd (false≢true n);
      stopping = λ n. s;
      ends = λ (n : false ≡ true). absurd (false≢true n);
      long = record { ready = λ t (n : true ≡ false). absurd (false≢true (sym n)); job = λ t (n : true ≡ false). absurd (false≢true (sym n)) };
    }
changed_split c geometry formats events false s j k e =
    record {
      out_side = e.out_side;
      cap_side = e.cap_side;
      out = e.out;
      cap = e.cap;
      has_buffers = no_job_there (record c { geometry = geometry; formats = formats; events = events }) c.running e.idle j k;
      has_codec = e.has_codec;
      marked = e.marked;
      queued = e.queued;
      drained = run_not_end c.phase e.runs;
      stopping = λ n. no_longer (is_run c.phase) e.runs n;
      ends = run_not_last c.phase e.runs;
      long = record { ready = λ t n. no_longer c.cap.streams t s; job = λ t n. no_longer c.cap.streams t s };
    }

-- The outcomes

flag_split : (key : Bool) → eqb (bit_and (type_flag key + last_flag) last_flag) last_flag ≡ true
flag_split true = refl
flag_split false = refl

-- the state in the middle, with the buffers of the job where the claim put them
pub record Begins (c : Context) (j : JobData) : Type 0 where
  pub ending : IsEnding c
  pub source : length c.out.job ≡ 1
  pub dest : c.cap.job ≡ j.dest
  pub short : length j.dest ≤ 1

done_part :
    (c : Context) (j : JobData) (used : ℕ) (bytes : List ℕ) (source_flags flags : ℕ) (stamp : Stamp)
    → eqb (bit_and (flags + last_flag) last_flag) last_flag ≡ true → Begins c j
    → IsSoundButUnsettled (dest_done (source_done c j source_flags) j.dest true used bytes flags stamp)
done_part c j used bytes source_flags flags stamp l b =
    dest_firm (source_done c j source_flags) j.dest true used bytes flags stamp b.dest b.short l
    (retire_ended c.out j.source.used j.source.bytes source_flags j.source.stamp b.ending.out b.source).gone
    (done_ending c j source_flags b.source b.ending)

moved_part :
    (c : Context) (j : JobData) (cursor : ℕ) (used_up : Bool) (used : ℕ) (bytes : List ℕ) (flags : ℕ) (stamp : Stamp)
    → eqb (bit_and (flags + last_flag) last_flag) last_flag ≡ true → Begins c j
    → IsSoundButUnsettled (dest_done (source_moved c j cursor used_up) j.dest used_up used bytes flags stamp)
moved_part c j cursor used_up used bytes flags stamp l b =
    dest_firm (source_moved c j cursor used_up) j.dest used_up used bytes flags stamp (ap (λ q. q.job) (moved_cap c j cursor used_up) ∙ b.dest)
    b.short l (moved_gone c j cursor used_up b.source b.ending) (moved_ending c j cursor used_up b.source b.ending)

decoded_firm : (c : Context) (j : JobData) (cursor : ℕ) (result : DecodedResult) → Begins c j → IsSoundButUnsettled (decoded_effect c j cursor result)
decoded_firm c j cursor (picture bytes key stamp) b =
    moved_part c j cursor (cursor == j.source.used) (length bytes) bytes (type_flag key) stamp (flag_split key) b
decoded_firm c j cursor (damaged stamp) b =
    moved_part c j cursor (cursor == j.source.used) 0 [] error_flag stamp refl b
decoded_firm c j cursor (changed geometry) b =
    let here = source_back c j cursor in
    let e = back_ending c j cursor b.source b.ending in
    let d = back_dest here j.dest b.dest b.short e in
    let there = dest_back here j.dest in
    let gone = ap (λ q. q.job) d.2 ∙ (give_back_ended c.out cursor j.source.bytes b.ending.out b.source).gone in
    changed_split there (Some geometry) _ _ there.cap.streams refl gone d.1 d.0
decoded_firm c j cursor spent b =
    let here = source_done c j 0 in
    let d = back_dest here j.dest b.dest b.short (done_ending c j 0 b.source b.ending) in
    let gone = ap (λ q. q.job) d.2 ∙ (retire_ended c.out j.source.used j.source.bytes 0 j.source.stamp b.ending.out b.source).gone in
    ended_firm (dest_back here j.dest) gone d.1 d.0

-- the result of a run is one for the kind
unfoldable pub HasResult : Kind → RunResult → Type 0
HasResult kind (copied bytes) = Unit {0}
HasResult Copy (encoded frame) = ⊥
HasResult Enc (encoded frame) = Unit {0}
HasResult Dec (encoded frame) = ⊥
HasResult Copy (decoded step) = ⊥
HasResult Enc (decoded step) = ⊥
HasResult Dec (decoded step) = Unit {0}

encode_fits : (coder : Coder) (j : JobData) (kind : Kind) (codec : CodecState) → HasCodec kind codec → HasResult kind (encode_run coder j codec)
unfolding HasResult
encode_fits coder j Copy no_codec h = tt
encode_fits coder j Copy (encoder s) h = absurd h
encode_fits coder j Copy (decoder s) h = absurd h
encode_fits coder j Enc no_codec h = absurd h
encode_fits coder j Enc (encoder s) h = tt
encode_fits coder j Enc (decoder s) h = absurd h
encode_fits coder j Dec no_codec h = absurd h
encode_fits coder j Dec (encoder s) h = absurd h
encode_fits coder j Dec (decoder s) h = tt

decode_fits : (coder : Coder) (j : JobData) (kind : Kind) (codec : CodecState) → HasCodec kind codec → HasResult kind (decode_run coder j codec)
unfolding HasResult
decode_fits coder j Copy no_codec h = tt
decode_fits coder j Copy (encoder s) h = absurd h
decode_fits coder j Copy (decoder s) h = absurd h
decode_fits coder j Enc no_codec h = absurd h
decode_fits coder j Enc (encoder s) h = tt
decode_fits coder j Enc (decoder s) h = absurd h
decode_fits coder j Dec no_codec h = absurd h
decode_fits coder j Dec (encoder s) h = absurd h
decode_fits coder j Dec (decoder s) h = tt

pub run_fits : (coder : Coder) (j : JobData) (kind : Kind) (sort : RunSort) → HasCodec kind j.codec → HasResult kind (run_of coder j sort)
unfolding HasResult
run_fits coder j kind copy h = tt
run_fits coder j kind encode h = encode_fits coder j kind j.codec h
run_fits coder j kind decode h = decode_fits coder j kind j.codec h
run_fits coder j kind probe h = decode_fits coder j kind j.codec h

codec_ending : (c : Context) (codec : CodecState) → HasCodec c.kind codec → IsEnding c → IsEnding (record c { codec = codec })
codec_ending c codec h e =
    record {
      out_side = e.out_side;
      cap_side = e.cap_side;
      out = e.out;
      cap = e.cap;
      idle = e.idle;
      runs = e.runs;
      has_codec = h;
      marked = e.marked;
      queued = e.queued;
      ready = e.ready;
      job = e.job;
    }

codec_begins : (c : Context) (j : JobData) (codec : CodecState) → HasCodec c.kind codec → Begins c j → Begins (record c { codec = codec }) j
codec_begins c j codec h b =
    record { ending = codec_ending c codec h b.ending; source = b.source; dest = b.dest; short = b.short }

encoder_kind : (kind : Kind) (frame : EncodedFrame) → HasResult kind (encoded frame) → HasCodec kind (encoder frame.state)
unfolding HasResult
encoder_kind Copy frame h = absurd h
encoder_kind Enc frame h = tt
encoder_kind Dec frame h = absurd h

decoder_kind : (kind : Kind) (step : DecodedStep) → HasResult kind (decoded step) → HasCodec kind (decoder step.state)
unfolding HasResult
decoder_kind Copy step h = absurd h
decoder_kind Enc step h = absurd h
decoder_kind Dec step h = tt

pub run_firm : (c : Context) (j : JobData) (result : RunResult) → HasResult c.kind result → Begins c j → IsSoundButUnsettled (run_effect c j result)
run_firm c j (copied bytes) h b = done_part c j (length bytes) bytes 0 0 j.source.stamp refl b
run_firm c j (encoded frame) h b =
    done_part (record c { codec = encoder frame.state }) j (length frame.bytes) frame.bytes 0 (type_flag frame.key) j.source.stamp (flag_split frame.key) (codec_begins c j (encoder frame.state) (encoder_kind c.kind frame h) b)
run_firm c j (decoded step) h b =
    decoded_firm (record c { codec = decoder step.state }) j (j.source.cursor + step.moved) (step_outcome j.format.fourcc step) (codec_begins c j (decoder step.state) (decoder_kind c.kind step h) b)

pub fault_firm : (c : Context) (j : JobData) → HasCodec c.kind c.codec → Begins c j → IsSoundButUnsettled (fault_effect c j)
fault_firm c j h b =
    done_part (record c { codec = reset c.codec }) j 0 [] error_flag error_flag j.source.stamp refl (codec_begins c j (reset c.codec) (codec_reset c.kind c.codec h) b)

pub at_most_one : (sort : RunSort) → dest_count sort ≤ 1
at_most_one copy = omega arith
at_most_one encode = omega arith
at_most_one decode = omega arith
at_most_one probe = omega arith

pub begins : (c : Context) (r : Running) → c.running ≡ Some r → IsSoundButUnsettled c → Begins (record c { running = None }) (job_data c r)
begins c r e f =
    let h = subst (HasItsBuffers c) e f.has_buffers in
    record {
      ending = record {
        out_side = f.out_side;
        cap_side = f.cap_side;
        out = f.out;
        cap = f.cap;
        idle = refl;
        runs = h.0;
        has_codec = f.has_codec;
        marked = f.marked;
        queued = f.queued;
        ready = λ s. f.long.ready s (run_no_change c.phase h.0);
        job = λ s. f.long.job s (run_no_change c.phase h.0);
      };
      source = h.1;
      dest = refl;
      short = subst (λ n. n ≤ 1) (sym h.2) (at_most_one r.sort);
    }

finish_sound : (coder : Coder) (c : Context) (r : Running) (fault : Bool) → c.running ≡ Some r → IsSoundButUnsettled c → IsOrdered (after_finish coder c r fault)
unfolding after_finish run_result
finish_sound coder c r true e f =
    settle_sound _ (fault_firm (record c { running = None }) (job_data c r) f.has_codec (begins c r e f))
finish_sound coder c r false e f =
    settle_sound _ (run_firm (record c { running = None }) (job_data c r) _ (run_fits coder (job_data c r) c.kind r.sort f.has_codec) (begins c r e f))

finish_job_sound : (coder : Coder) (c : Context) (o : Option Running) (fault : Bool) → c.running ≡ o → IsOrdered c → IsOrderedSlot (solo_finish coder c o fault).slot
finish_job_sound coder c None fault e s = s
finish_job_sound coder c (Some r) fault e s = finish_sound coder c r fault e s.firm

finish_step_sound : (coder : Coder) (s : Slot) (fault : Bool) → IsOrderedSlot s → IsOrderedSlot (finish_step coder s fault).slot
finish_step_sound coder None fault h = tt
finish_step_sound coder (Some c) fault h = finish_job_sound coder c c.running fault refl h

-- Every step, and every run

pub step_sound : (coder : Coder) (s : Slot) (e : SoloEvent) → IsOrderedSlot s → IsOrderedSlot (solo_step coder s e).slot
unfolding solo_step
step_sound coder s (Called request bytes found) h = answer_sound s request bytes found h
step_sound coder s Claims h = claim_step_sound s (is_claimable s) refl h
step_sound coder s (Finishes fault) h = finish_step_sound coder s fault h

pub run_sound : (coder : Coder) (s : Slot) (es : List SoloEvent) → IsOrderedSlot s → IsOrderedSlot (solo_slot coder s es)
run_sound coder s [] h = h
run_sound coder s (e ∷ es) h = run_sound coder (solo_step coder s e).slot es (step_sound coder s e h)

pub always_ordered : (coder : Coder) (events : List SoloEvent) → IsOrderedSlot (solo_slot coder None events)
always_ordered coder events = run_sound coder None events tt

sound_moment : (coder : Coder) (events : List SoloEvent) (c : Context) → solo_slot coder None events ≡ Some c → IsOrdered c
sound_moment coder events c e = subst IsOrderedSlot e (always_ordered coder events)

pub one_place : OnePlace
one_place coder events c e Out = (sound_moment coder events c e).firm.out.once
one_place coder events c e Cap = (sound_moment coder events c e).firm.cap.once

pub always_long : RoomForPictures
always_long coder events c e = (sound_moment coder events c e).firm.long

pub always_settled : DrainsInTime
always_settled coder events c e = (sound_moment coder events c e).settled

-- At the end of a drain

none_before : (c : Context) (mark : Option ℕ) → is_drained c.out.ready mark ≡ true → c.out.job ≡ [] → NoneBefore c mark
none_before c None e j = false≢true e
none_before c (Some m) e j =
    list_any-append (λ b. nat_lt b.ordinal m) c.out.ready c.out.job ∙ (ap (λ b. b || list_any (λ x. nat_lt x.ordinal m) c.out.job) (not_true (has_before c.out.ready m) e) ∙ ap (λ l. list_any (λ b. nat_lt b.ordinal m) l) j)

end_stops : (p : PhaseState) → is_at_end p ≡ true → is_run p ≡ false
end_stops run e = absurd (false≢true e)
end_stops (owe cause) e = refl
end_stops (last cause) e = refl
end_stops (stopped cause) e = refl

pub none_left : NoneLeft
none_left coder events c e end =
    let f = (sound_moment coder events c e).firm in
    none_before c c.mark (f.drained end) (idle c f (end_stops c.phase end)).1.0

-- While the context is stopped

stopped_is_no_run : (p : PhaseState) → is_stopped p ≡ true → is_run p ≡ false
stopped_is_no_run run e = absurd (false≢true e)
stopped_is_no_run (owe cause) e = refl
stopped_is_no_run (last cause) e = refl
stopped_is_no_run (stopped cause) e = refl

pipe_split :
    (c : Context) (block streams ended : Bool) → streams ≡ true → ended ≡ true
    → (unless_or_block c (refuse_if (not streams) Inval (refuse_if ended Pipe (refuse_if (is_empty c.cap.done) Again None))) block (taken_answer c Cap c.cap.done)).reply ≡ Refused Pipe
pipe_split c block true true s e = refl
pipe_split c block true false s e = absurd (false≢true e)
pipe_split c block false ended s e = absurd (false≢true s)

pub stopped_answers_pipe : StoppedAnswersPipe
unfolding answer context_answer
stopped_answers_pipe coder events c e p block bytes found =
    let f = (sound_moment coder events c e).firm in
    pipe_split c block c.cap.streams (is_stopped c.phase) (f.stopping (stopped_is_no_run c.phase p)) p
