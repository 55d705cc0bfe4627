-- What a claim of a probe and one of a decode run share: the front of OUTPUT goes into the job with what the codec
-- keeps, and the context stands for the one that the definitions claim.
use Rattle.std.proofs.Common.{ℕ, ◌≡◌, ◌≤◌, ◌<◌, leb, nat_le, Bool, true, false, not, ◌&&◌, Option, Some, None, List, [], ◌∷◌, map, length, refl, sym, ap, ◌∙◌, subst, arith, leb-true, ◌+◌, ◌==◌, ◌||◌, ◌++◌, lt-ltb}
use Rattle.std.specs.Prelude.{nat_lt, is_none}
use Rattle.std.specs.List.{list_any, list_all}
use Rattle.std.proofs.lemmas.Bool.{false≢true, and_parts}
use Rattle.vc_base.specs.Buffers.{lend_after, Buffer, QueueState, is_empty, buffer_count, lend_front, without_bytes, without_job_bytes}
use Rattle.vc_base.specs.Events.{EventState}
use Rattle.vc_defs.specs.declared.Geometry.{Geometry}
use Rattle.vc_defs.specs.Decoder.{ReferenceState, DecoderState, kept_bytes}
use Rattle.vc_defs.specs.Finds.{KeptBytes}
use Rattle.vc_model.specs.Coder.{decoder}
use Rattle.vc_model.specs.Formats.{FormatPair}
use Rattle.vc_model.specs.Context.{Context, PhaseState, run, owe, last, stopped, is_run, is_drained}
use Rattle.vc_model.specs.Core.{claimed_in}
use Rattle.vc_model.specs.Runs.{is_claimable, after_claim, source_of}
use Rattle.vc_model.specs.Sound.{CountsUp, IsOrdered}
use Rattle.vc_model.specs.Standing.{without_job}
use Rattle.vc_pair.specs.Pairs.{PairState, is_due}
use Rattle.vc_queue.specs.declared.queue.Lent.{Lent}
use Rattle.vc_queue.specs.Holds.{HoldState, Fits}
use Rattle.vc_queue.specs.Lending.{IsLent, IsLentFrom}
use Rattle.vc_resync.specs.Assembling.{AssemblyState}
use Rattle.vc_work.specs.Streams.{kept_of, IsInStep, HasStream}
use Rattle.vc_context.specs.Contexts.{AreFilled, has_work, IsKept, IsStep}
use Rattle.vc_context.specs.Payloads.{FitsContext}
use Rattle.vc_context.specs.Works.{RunsInWith}
use Rattle.vc_context.proofs.QueuesCountUp.{IsLentOut}
use Rattle.vc_dec.specs.declared.InJob.{InJob}
use Rattle.vc_dec.specs.Decoders.{CodecParts, decoder_state, job_mark, codec_of, is_job_due, AreBegun, AreUnused, AreBlank, AllLengths, IsSupplied, IsOfStream, IsDecoder}
use Rattle.vc_dec.specs.Parts.{limit_of}
use Rattle.vc_dec.proofs.AnswersByKind.{due_cases}
use Rattle.vc_dec.proofs.ReachedStaysReached.{sides, ordered_idle}

-- What a claim comes to, beside the work.
pub record IsClaim (formats : FormatPair) (geometry : Option Geometry) (new : PairState) (events : EventState) (left : CodecParts) (taken : InJob) (c : Context) : Type 0 where
  pub after : decoder_state formats geometry new events left.state (Some taken) ≡ without_job (after_claim c)
  pub step : IsStep c (decoder_state formats geometry new events left.state (Some taken))
  pub free : is_claimable (Some (decoder_state formats geometry new events left.state (Some taken))) ≡ false
  pub runs : RunsInWith (decoder_state formats geometry new events left.state (Some taken)) (claimed_in (Some c))
  pub holds : (hold : HoldState) → FitsContext c hold → FitsContext (decoder_state formats geometry new events left.state (Some taken)) hold
  pub keeps : IsDecoder formats geometry new events left (Some taken)

-- a queue that was lent from or stays
pub stays_lent : (q : QueueState) → IsLentOut q q
stays_lent q =
    record { side = refl; queued = refl; retired = refl; ready = λ h. h; job = λ r h. h; done = refl }

-- when a job is due

no_job : (job : Option InJob) → is_none (job_mark job) ≡ true → job ≡ None
no_job None h = refl
no_job (Some j) h = absurd (false≢true h)

in_run : (phase : PhaseState) → is_run phase ≡ true → phase ≡ run
in_run run h = refl
in_run (owe cause) h = absurd (false≢true h)
in_run (last cause) h = absurd (false≢true h)
in_run (stopped cause) h = absurd (false≢true h)

not_true : (b : Bool) → not b ≡ true → b ≡ false
not_true true h = absurd (false≢true h)
not_true false h = refl

some_due : (bs : List Buffer) (mark : Option ℕ) → is_due bs mark ≡ true → is_empty bs ≡ false
some_due [] mark h = absurd (false≢true h)
some_due (b ∷ rest) mark h = refl

-- the queue streams and has a ready buffer
pub record HasFront (q : QueueState) : Type 0 where
  pub streams : q.streams ≡ true
  pub some : is_empty q.ready ≡ false

works : (q : QueueState) → has_work q ≡ true → HasFront q
works q h =
    let e = and_parts q.streams (not (is_empty q.ready)) h in
    record { streams = e.0; some = not_true (is_empty q.ready) e.1 }

source_due : (g : Option Geometry) (p : PairState) → is_job_due g p ≡ true → HasFront p.out
source_due None p h =
    let e = and_parts p.out.streams (is_due p.out.ready p.mark) h in
    record { streams = e.0; some = some_due p.out.ready p.mark e.1 }
source_due (Some g) p h = works p.out (and_parts (has_work p.out) (has_work p.cap) h).0

dest_due : (g : Option Geometry) (p : PairState) → (g ≡ None → ⊥) → is_job_due g p ≡ true → HasFront p.cap
dest_due None p n h = absurd (n refl)
dest_due (Some g) p n h = works p.cap (and_parts (has_work p.out) (has_work p.cap) h).1

pub not_empty : (bs : List Buffer) → is_empty bs ≡ false → bs ≡ [] → ⊥
not_empty [] h e = false≢true (sym h)
not_empty (b ∷ rest) h e = cc

-- the front of a list of buffers

pub front_filled : (bs : List Buffer) (lent : Lent) → is_empty bs ≡ false → AreFilled bs → IsLentFrom bs lent → lent.used ≤ length lent.payload.items
front_filled [] lent e f l = absurd (false≢true (sym e))
front_filled (b ∷ rest) lent e f l =
    let h : leb b.used b.size ≡ true = (and_parts (leb b.used b.size) _ f).0 in
    let below : b.used ≤ b.size = leb-true b.used b.size h in
    omega (arith, l.used, l.size)

pub front_begun : (bs : List Buffer) (lent : Lent) → is_empty bs ≡ false → AreBegun bs → IsLentFrom bs lent → lent.cursor ≤ lent.used
front_begun [] lent e f l = absurd (false≢true (sym e))
front_begun (b ∷ rest) lent e f l =
    let h : leb b.cursor b.used ≡ true = (and_parts (leb b.cursor b.used) _ f).0 in
    let below : b.cursor ≤ b.used = leb-true b.cursor b.used h in
    omega (arith, l.used, l.cursor)

-- what holds of the lengths of all ready buffers holds of the length of the front
pub front_length : (f : ℕ → Bool) (bs : List Buffer) (lent : Lent) → is_empty bs ≡ false → list_all (λ b. f b.size) bs ≡ true → IsLentFrom bs lent → f (length lent.payload.items) ≡ true
front_length f [] lent e h l = absurd (false≢true (sym e))
front_length f (b ∷ rest) lent e h l =
    ap f l.size ∙ (and_parts (f b.size) (list_all (λ x. f x.size) rest) h).0

pub some_there : (q : QueueState) (bs : List Buffer) → q.ready ≡ bs → is_empty bs ≡ false → 0 < buffer_count q
some_there q [] r e = absurd (false≢true (sym e))
some_there q (b ∷ rest) r e = omega (arith, ap length r)

-- a queue whose front is in the job

pub lent_source : (q : QueueState) (bs : List Buffer) (lent : Lent) → is_empty bs ≡ false → IsLentFrom bs lent → IsLent (source_of (lend_front q bs).job) lent
lent_source q [] lent e l = absurd (false≢true (sym e))
lent_source q (b ∷ rest) lent e l = l

pub lent_job : (q : QueueState) (bs : List Buffer) → is_empty bs ≡ false → (without_job_bytes (lend_front q bs)).job ≡ without_bytes (source_of (lend_front q bs).job) ∷ []
lent_job q [] e = absurd (false≢true (sym e))
lent_job q (b ∷ rest) e = refl

pub lent_index : (q : QueueState) (bs : List Buffer) (lent : Lent) → is_empty bs ≡ false → IsLentFrom bs lent → map (λ b. b.index) (without_job_bytes (lend_front q bs)).job ≡ lent.index ∷ []
lent_index q [] lent e l = absurd (false≢true (sym e))
lent_index q (b ∷ rest) lent e l = ap (λ (i : ℕ). i ∷ []) (sym l.index)

pub lent_size : (q : QueueState) (bs : List Buffer) (lent : Lent) (n : ℕ) → is_empty bs ≡ false → IsLentFrom bs lent → n ≡ length lent.payload.items → map (λ b. b.size) (without_job_bytes (lend_front q bs)).job ≡ n ∷ []
lent_size q [] lent n e l h = absurd (false≢true (sym e))
lent_size q (b ∷ rest) lent n e l h = ap (λ (i : ℕ). i ∷ []) (sym (h ∙ l.size))

pub lent_some : (q : QueueState) (bs : List Buffer) → is_empty bs ≡ false → 0 < buffer_count (without_job_bytes (lend_front q bs))
lent_some q [] e = absurd (false≢true (sym e))
lent_some q (b ∷ rest) e = omega arith

pub lent_begun : (q : QueueState) (bs : List Buffer) → q.ready ≡ bs → AreBegun bs → AreBegun (lend_front q bs).ready
lent_begun q [] e f = subst AreBegun (sym e) f
lent_begun q (b ∷ rest) e f = (and_parts (nat_le b.cursor b.used) _ f).1

-- the front of a queue is before the mark of a drain

least : (bs : List Buffer) (first next mark : ℕ) → CountsUp bs first next → list_any (λ b. nat_lt b.ordinal mark) bs ≡ true → first < mark
least [] first next mark c h = absurd (false≢true h)
least (b ∷ rest) first next mark c h = by_front (nat_lt b.ordinal mark) refl (least rest (first + 1) next mark c.1) h
  where
    by_front : (t : Bool) → nat_lt b.ordinal mark ≡ t → (list_any (λ x. nat_lt x.ordinal mark) rest ≡ true → first + 1 < mark) → (t || list_any (λ x. nat_lt x.ordinal mark) rest) ≡ true → first < mark
    by_front true e later g = let same : b.ordinal ≡ first = c.0 in grind (arith, e, same)
    by_front false e later g = let l = later g in omega (arith, l)

not_false : (b : Bool) → not b ≡ false → b ≡ true
not_false true h = refl
not_false false h = absurd (false≢true (sym h))

front_due : (bs : List Buffer) (mark : Option ℕ) (first next : ℕ) → is_empty bs ≡ false → CountsUp bs first next → is_drained bs mark ≡ false → is_due bs mark ≡ true
front_due [] mark first next e c h = absurd (false≢true (sym e))
front_due (b ∷ rest) None first next e c h = refl
front_due (b ∷ rest) (Some mark) first next e c h =
    let l = least (b ∷ rest) first next mark c (not_false (list_any (λ x. nat_lt x.ordinal mark) (b ∷ rest)) h) in
    let same : b.ordinal ≡ first = c.0 in
    lt-ltb b.ordinal mark (omega (arith, l, same))

pub lent_due : (q : QueueState) (bs : List Buffer) (mark : Option ℕ) → is_due bs mark ≡ true → is_due (without_job_bytes (lend_front q bs)).job mark ≡ true
lent_due q [] mark h = absurd (false≢true h)
lent_due q (b ∷ rest) None h = refl
lent_due q (b ∷ rest) (Some mark) h = h

not_drained : (a b c d : Bool) → (a && (b && (c && d))) ≡ false → a ≡ true → b ≡ true → c ≡ true → d ≡ false
not_drained true true true d h x y z = h
not_drained true true false d h x y z = absurd (false≢true z)
not_drained true false c d h x y z = absurd (false≢true y)
not_drained false b c d h x y z = absurd (false≢true x)

pub lent_held : (q : QueueState) (bs : List Buffer) → (lend_front q bs).held ≡ q.held
lent_held q [] = refl
lent_held q (b ∷ rest) = refl

-- no byte is used of a CAPTURE queue's buffers where its front is in the job
pub lent_blank : (q : QueueState) (bs : List Buffer) → q.ready ≡ bs → is_empty bs ≡ false → AreBlank q → AreBlank (without_job_bytes (lend_front q bs))
lent_blank q [] e n a = absurd (false≢true (sym n))
lent_blank q (b ∷ rest) e n a =
    let r = and_parts (b.used == 0) (list_all (λ x. x.used == 0) rest) (subst AreUnused e a.ready) in
    record { held = a.held; ready = r.1; job = ap (λ t. t && true) r.0 }

pub lent_lengths : (f : ℕ → Bool) (q : QueueState) (bs : List Buffer) → q.ready ≡ bs → is_empty bs ≡ false → AllLengths f q → AllLengths f (without_job_bytes (lend_front q bs))
lent_lengths f q [] e n a = absurd (false≢true (sym n))
lent_lengths f q (b ∷ rest) e n a =
    let r = and_parts (f b.size) (list_all (λ x. f x.size) rest) (subst (λ (xs : List Buffer). list_all (λ x. f x.size) xs ≡ true) e a.ready) in
    record { held = a.held; ready = r.1; job = ap (λ t. t && true) r.0; done = a.done }

-- what is kept is there, and in step
pub stream_there :
    (limit : ℕ) (geometry : Option Geometry) (picture : Option ReferenceState) (assembly : Option AssemblyState) (kept : KeptBytes)
    → limit_of assembly ≡ Some limit → kept_of assembly ≡ kept → IsInStep limit geometry picture kept → HasStream limit geometry picture assembly
stream_there limit geometry picture None kept e k h = absurd (cc)
stream_there limit geometry picture (Some a) kept e k h =
    let same : a.limit ≡ limit = cc in (same, subst (IsInStep limit geometry picture) (sym k) h)

module _ (formats : FormatPair) (geometry : Option Geometry) (p : PairState) (events : EventState) (parts : CodecParts) (job : Option InJob)
    (c : Context) (view : decoder_state formats geometry p events parts.state job ≡ c) (inv : IsDecoder formats geometry p events parts job)
    (kept : IsKept c) (can : is_claimable (Some c) ≡ true) where
  abbrev here : Context
  here = decoder_state formats geometry p events parts.state job

  pub kept_here : IsKept here
  kept_here = subst IsKept (sym view) kept

  due : ((is_none (job_mark job) && is_run p.phase) && is_job_due geometry p) ≡ true
  due =
      due_cases formats geometry p events parts.state job ∙ (ap (λ (x : Context). is_claimable (Some x)) view ∙ can)

  free_due : (is_none (job_mark job) && is_run p.phase) ≡ true
  free_due = (and_parts (is_none (job_mark job) && is_run p.phase) (is_job_due geometry p) due).0

  work_due : is_job_due geometry p ≡ true
  work_due = (and_parts (is_none (job_mark job) && is_run p.phase) (is_job_due geometry p) due).1

  pub idle : job ≡ None
  idle = no_job job (and_parts (is_none (job_mark job)) (is_run p.phase) free_due).0

  pub claim_phase : p.phase ≡ run
  claim_phase = in_run p.phase (and_parts (is_none (job_mark job)) (is_run p.phase) free_due).1

  pub source_front : HasFront p.out
  source_front = source_due geometry p work_due

  pub dest_front : (geometry ≡ None → ⊥) → HasFront p.cap
  dest_front n = dest_due geometry p n work_due

  pub no_source : p.out.job ≡ []
  no_source = (sides here inv.placed).out_idle (ap job_mark idle)

  pub no_dest : p.cap.job ≡ []
  no_dest = (sides here inv.placed).cap_idle (ap job_mark idle)

  pub ordered : IsOrdered here
  ordered = ordered_idle here inv.placed (ap job_mark idle)

  pub codec_here : codec_of job parts.state ≡ decoder parts.state
  codec_here = ap (λ (j : Option InJob). codec_of j parts.state) idle

  -- the claimed context is free of jobs that could be claimed, a step, and fits as before

  pub free_after : (new : PairState) (state : DecoderState) (taken : InJob) → is_claimable (Some (decoder_state formats geometry new events state (Some taken))) ≡ false
  free_after new state taken = sym (due_cases formats geometry new events state (Some taken))

  pub claim_step : (new : PairState) (state : DecoderState) (taken : InJob) → IsLentOut p.out new.out → IsLentOut p.cap new.cap → IsStep c (decoder_state formats geometry new events state (Some taken))
  claim_step new state taken o q =
      let k : IsKept here = kept_here in
      let step : IsStep here (decoder_state formats geometry new events state (Some taken)) = record {
        kept =
            record {
              out_side = o.side ∙ k.out_side;
              cap_side = q.side ∙ k.cap_side;
              filled = o.ready k.filled;
              job_filled = o.job k.filled k.job_filled;
              out_filled = subst AreFilled (sym o.done) k.out_filled;
              cap_filled = subst AreFilled (sym q.done) k.cap_filled;
              out_idle = λ x. cc;
              cap_idle = λ x. cc;
            };
        counted =
            λ bound n.
            record {
              out_queued = omega (arith, o.queued, n.out_queued);
              cap_queued = omega (arith, q.queued, n.cap_queued);
              out_done = omega (arith, o.retired, n.out_done);
              cap_done = omega (arith, q.retired, n.cap_done);
              raised = omega (arith, n.raised);
            };
      } in
      subst (λ (x : Context). IsStep x (decoder_state formats geometry new events state (Some taken))) view step

  pub claim_holds :
      (new : PairState) (state : DecoderState) (taken : InJob) → ((hold : HoldState) → Fits p.out hold → Fits new.out hold)
      → ((hold : HoldState) → Fits p.cap hold → Fits new.cap hold) → (hold : HoldState) → FitsContext c hold
      → FitsContext (decoder_state formats geometry new events state (Some taken)) hold
  claim_holds new state taken o q hold f =
      let g : FitsContext here hold = subst (λ (x : Context). FitsContext x hold) (sym view) f in
      record { out = o hold g.out; cap = q hold g.cap }

  pub assembly_limit_is : (assembly : Option AssemblyState) → limit_of assembly ≡ parts.limit → limit_of assembly ≡ Some formats.out.size
  assembly_limit_is assembly e =
      e ∙ supplied_idle job idle inv.supplied (some_there p.out p.out.ready refl source_front.some)
    where
      supplied_idle : (j : Option InJob) → j ≡ None → IsSupplied formats.out.size p.out parts.limit j → 0 < buffer_count p.out → parts.limit ≡ Some formats.out.size
      supplied_idle None n s some = s some
      supplied_idle (Some x) n s some = absurd (cc)

  -- the source is before the mark of a drain
  before_mark : (g : Option Geometry) → is_job_due g p ≡ true → is_due p.out.ready p.mark ≡ true
  before_mark None h = (and_parts p.out.streams (is_due p.out.ready p.mark) h).1
  before_mark (Some x) h =
      let f : HasFront p.cap = works p.cap (and_parts (has_work p.out) (has_work p.cap) h).1 in
      let u = ordered.firm.out.latest in
      let counts : CountsUp p.out.ready u.first p.out.next_ordinal = subst (λ (bs : List Buffer). CountsUp (bs ++ p.out.ready) u.first p.out.next_ordinal) no_source u.counts in
      let free = and_parts (is_none (job_mark job)) (is_run p.phase) free_due in
      front_due p.out.ready p.mark u.first p.out.next_ordinal source_front.some counts (not_drained (is_run p.phase) p.cap.streams (is_none (job_mark job)) (is_drained p.out.ready p.mark) ordered.settled.noted free.1 f.streams free.0)

  pub claim_due : is_due (without_job_bytes (lend_after p.out)).job p.mark ≡ true
  claim_due = lent_due p.out p.out.ready p.mark (before_mark geometry work_due)

  pub in_step : IsInStep formats.out.size geometry parts.state.reference (kept_bytes parts.state)
  in_step = subst (λ (j : Option InJob). IsOfStream formats.out.size geometry parts.state j) idle inv.stream
