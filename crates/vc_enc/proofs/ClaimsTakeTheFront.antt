-- A claim on an encoder takes the front buffers of both queues and lends the reference with them. The job has the
-- data that the definitions give it, since the queues are the context's own and a picture that is queued is a whole
-- one.
use Rattle.std.proofs.Common.{ℕ, ◌≡◌, ◌≤◌, ◌<◌, ◌+◌, ◌==◌, leb, Bool, true, false, not, ◌&&◌, ◌||◌, Option, Some, None, List, [], ◌∷◌, map, length, refl, sym, ap, ◌∙◌, subst, arith, leb-true, eqb-true}
use Rattle.std.specs.Prelude.{is_some, is_none}
use Rattle.std.proofs.lemmas.Bool.{false≢true, and_parts}
use Rattle.vc_base.specs.declared.Format.{Format}
use Rattle.vc_base.specs.declared.Side.TheVariants.{Out, Cap}
use Rattle.vc_base.specs.Buffers.{Buffer, QueueState, is_empty, buffer_count, lend_after, lend_front, without_bytes, without_job_bytes}
use Rattle.vc_base.specs.Events.{EventState}
use Rattle.vc_defs.specs.declared.Layout.{Layout}
use Rattle.vc_defs.specs.declared.Layout.TheVariants.{Grey, C420, C422}
use Rattle.vc_defs.specs.Bodies.{padded_sum}
use Rattle.vc_defs.specs.Encoder.{RunRates}
use Rattle.vc_defs.specs.Laws.{AreRates}
use Rattle.vc_defs.specs.Raw.{layout_of, geometry_of}
use Rattle.vc_model.specs.Formats.{FormatPair, frame_room}
use Rattle.vc_model.specs.Context.{Context, PhaseState, run, owe, last, stopped, is_run, is_drained, encode}
use Rattle.vc_model.specs.Core.{claimed_in}
use Rattle.vc_model.specs.Runs.{JobData, is_claimable, after_claim, claim_front, running_of, job_data, source_of}
use Rattle.vc_model.specs.Sound.{AreLong, last_not_given}
use Rattle.vc_model.specs.Standing.{without_job, job_in}
use Rattle.vc_queue.specs.declared.queue.Lent.{Lent}
use Rattle.vc_queue.specs.Holds.{HoldState}
use Rattle.vc_queue.specs.Lending.{IsLent, IsLentFrom}
use Rattle.vc_queue.proofs.Keeping.{fits_lent}
use Rattle.vc_work.specs.declared.work.Rates.{Rates}
use Rattle.vc_work.specs.declared.work.Work.{Work}
use Rattle.vc_work.specs.References.{CodecReference}
use Rattle.vc_work.specs.Runs.{HasReference, run_rates}
use Rattle.vc_pair.specs.Pairs.{PairState, owes_last, queue_at, with_queue_at}
use Rattle.vc_context.specs.Contexts.{AreFilled, has_work, IsKept, IsStep}
use Rattle.vc_context.specs.Payloads.{FitsContext}
use Rattle.vc_context.specs.Works.{IsDest, IsWork, IsWorkWith, RunsIn, RunsInWith}
use Rattle.vc_context.proofs.QueuesCountUp.{lent_out}
use Rattle.vc_enc.specs.declared.InJob.{InJob}
use Rattle.vc_enc.specs.Encoders.{encoder_state, job_mark, codec_of, AreWhole, IsSupplied, IsInJob, KnowsItsJob, IsEncoder}
use Rattle.vc_enc.specs.Works.{IsGiven, CanEncode}

-- when a job can be claimed

same_mark : (job : Option InJob) → is_none (job_mark job) ≡ not (is_some job)
same_mark None = refl
same_mark (Some j) = refl

claimable_cases : (r a b d e f : Bool) → (r && (false || ((a && b) && ((not d && not e) && (f && true))))) ≡ (r && (((a && not d) && (b && not e)) && f))
claimable_cases false a b d e f = refl
claimable_cases true true true true e f = refl
claimable_cases true true true false true f = refl
claimable_cases true true true false false true = refl
claimable_cases true true true false false false = refl
claimable_cases true true false true e f = refl
claimable_cases true true false false e f = refl
claimable_cases true false b d e f = refl

pub claimable_is :
    (formats : FormatPair) (rates : RunRates) (p : PairState) (events : EventState) (reference : Option CodecReference) (job : Option InJob)
    → is_claimable (Some (encoder_state formats rates p events reference job)) ≡ (not (is_some job) && ((has_work p.out && has_work p.cap) && is_run p.phase))
unfolding is_claimable
claimable_is formats rates p events reference job =
    claimable_cases (is_none (job_mark job)) p.out.streams p.cap.streams (is_empty p.out.ready) (is_empty p.cap.ready) (is_run p.phase)
    ∙ ap (λ (b : Bool). b && ((has_work p.out && has_work p.cap) && is_run p.phase)) (same_mark job)

pub ready_is :
    (formats : FormatPair) (rates : RunRates) (p : PairState) (events : EventState) (reference : Option CodecReference) (job : Option InJob) (c : Context)
    → encoder_state formats rates p events reference job ≡ c
    → (not (is_some job) && ((has_work p.out && has_work p.cap) && is_run p.phase)) ≡ is_claimable (Some c)
ready_is formats rates p events reference job c view =
    sym (claimable_is formats rates p events reference job) ∙ ap (λ (x : Context). is_claimable (Some x)) view

-- What a context has whose job can be claimed.
pub record IsDue (p : PairState) (job : Option InJob) : Type 0 where
  pub idle : job ≡ None
  pub out_streams : p.out.streams ≡ true
  pub cap_streams : p.cap.streams ≡ true
  pub source : is_empty p.out.ready ≡ false
  pub dest : is_empty p.cap.ready ≡ false
  pub phase : p.phase ≡ run

not_true : (b : Bool) → not b ≡ true → b ≡ false
not_true true h = absurd (false≢true h)
not_true false h = refl

no_job : (job : Option InJob) → not (is_some job) ≡ true → job ≡ None
no_job None h = refl
no_job (Some j) h = absurd (false≢true h)

runs : (phase : PhaseState) → is_run phase ≡ true → phase ≡ run
runs run h = refl
runs (owe cause) h = absurd (false≢true h)
runs (last cause) h = absurd (false≢true h)
runs (stopped cause) h = absurd (false≢true h)

not_empty : (bs : List Buffer) → is_empty bs ≡ false → bs ≡ [] → ⊥
not_empty [] h e = false≢true (sym h)
not_empty (b ∷ rest) h e = cc

-- the room that CAPTURE's format gives is that for any frame
room_is : (layout : Layout) (width height : ℕ) → frame_room layout width height ≡ 44 + padded_sum (record { width = width; height = height; layout = layout })
room_is Grey width height = omega arith
room_is C420 width height = omega arith
room_is C422 width height = omega arith

-- the front of a list of buffers that are filled, whole or long

front_filled : (bs : List Buffer) (lent : Lent) → is_empty bs ≡ false → AreFilled bs → IsLentFrom bs lent → lent.used ≤ length lent.payload.items
front_filled [] lent e f l = absurd (false≢true (sym e))
front_filled (b ∷ rest) lent e f l =
    let h : leb b.used b.size ≡ true = (and_parts (leb b.used b.size) _ f).0 in
    let below : b.used ≤ b.size = leb-true b.used b.size h in
    omega (arith, l.used, l.size)

front_whole : (size : ℕ) (bs : List Buffer) (lent : Lent) → is_empty bs ≡ false → AreWhole size bs → IsLentFrom bs lent → lent.used ≡ size
front_whole size [] lent e f l = absurd (false≢true (sym e))
front_whole size (b ∷ rest) lent e f l =
    let h : (b.used == size) ≡ true = (and_parts (b.used == size) _ f).0 in
    l.used ∙ eqb-true b.used size h

front_long : (size : ℕ) (bs : List Buffer) (lent : Lent) → is_empty bs ≡ false → AreLong size bs → IsLentFrom bs lent → size ≤ length lent.payload.items
front_long size [] lent e f l = absurd (false≢true (sym e))
front_long size (b ∷ rest) lent e f l =
    let h : leb size b.size ≡ true = (and_parts (leb size b.size) _ f).0 in
    let below : size ≤ b.size = leb-true size b.size h in
    omega (arith, l.size)

lent_whole : (size : ℕ) (q : QueueState) (bs : List Buffer) → q.ready ≡ bs → AreWhole size bs → AreWhole size (lend_front q bs).ready
lent_whole size q [] e f = subst (AreWhole size) (sym e) f
lent_whole size q (b ∷ rest) e f = (and_parts (b.used == size) _ f).1

lent_long : (size : ℕ) (q : QueueState) (bs : List Buffer) → q.ready ≡ bs → AreLong size bs → AreLong size (lend_front q bs).ready
lent_long size q [] e f = subst (AreLong size) (sym e) f
lent_long size q (b ∷ rest) e f = (and_parts (leb size b.size) _ f).1

-- the buffer that was lent is in the job
lent_job : (q : QueueState) (bs : List Buffer) (lent : Lent) → q.ready ≡ bs → is_empty bs ≡ false → q.streams ≡ true → IsLentFrom bs lent → IsInJob (without_job_bytes (lend_front q bs)) lent.index
lent_job q [] lent r e s l = absurd (false≢true (sym e))
lent_job q (b ∷ rest) lent r e s l =
    record { streams = s; one = ap (λ (i : ℕ). i ∷ []) (sym l.index) }

-- the pair with both front buffers in the job
abbrev pub lent_pair : PairState → PairState
lent_pair p =
    record p { out = without_job_bytes (lend_after p.out); cap = without_job_bytes (lend_after p.cap) }

pub not_owed : (p : PairState) → is_empty p.out.job ≡ false → owes_last p ≡ false
not_owed p e = rw e (by (is_run p.phase) p.cap.streams (is_empty p.cap.job) (is_drained p.out.ready p.mark))
  where
    by : (r s c d : Bool) → (r && (s && ((false && c) && d))) ≡ false
    by true true c d = refl
    by true false c d = refl
    by false s c d = refl

pub held_run : (phase : PhaseState) (ready : List Buffer) → phase ≡ run → last_not_given phase ready ≡ false
held_run run ready e = refl
held_run (owe cause) ready e = cc
held_run (last cause) ready e = refl
held_run (stopped cause) ready e = refl

has_front : (q : QueueState) (bs : List Buffer) → is_empty bs ≡ false → is_empty (without_job_bytes (lend_front q bs)).job ≡ false
has_front q [] e = absurd (false≢true (sym e))
has_front q (b ∷ rest) e = refl

-- the reference is there
supplied : (format : Format) (n : ℕ) (reference : Option CodecReference) → 0 < n → IsSupplied format n reference → HasReference format reference
supplied format n None some s = absurd (omega (arith, some, s))
supplied format n (Some r) some s = s.1

-- a buffer is there
some_there : (q : QueueState) (bs : List Buffer) → q.ready ≡ bs → is_empty bs ≡ false → 0 < buffer_count q
some_there q [] r e = absurd (false≢true (sym e))
some_there q (b ∷ rest) r e = omega (arith, ap length r)

module _ (formats : FormatPair) (rates : RunRates) (p : PairState) (events : EventState) (reference : Option CodecReference) (job : Option InJob)
    (c : Context) (view : encoder_state formats rates p events reference job ≡ c) (inv : IsEncoder formats p reference job) (kept : IsKept c)
    (can : is_claimable (Some c) ≡ true) where
  abbrev here : Context
  here = encoder_state formats rates p events reference job

  k : IsKept here
  k = subst IsKept (sym view) kept

  due : IsDue p job
  due =
      let e = and_parts (not (is_some job)) ((has_work p.out && has_work p.cap) && is_run p.phase) (ready_is formats rates p events reference job c view ∙ can) in
      let w = and_parts (has_work p.out && has_work p.cap) (is_run p.phase) e.1 in
      let q = and_parts (has_work p.out) (has_work p.cap) w.0 in
      let o = and_parts p.out.streams (not (is_empty p.out.ready)) q.0 in
      let d = and_parts p.cap.streams (not (is_empty p.cap.ready)) q.1 in
      record {
        idle = no_job job e.0;
        out_streams = o.0;
        cap_streams = d.0;
        source = not_true (is_empty p.out.ready) o.1;
        dest = not_true (is_empty p.cap.ready) d.1;
        phase = runs p.phase w.1;
      }

  pub claim_phase : p.phase ≡ run
  claim_phase = due.phase

  pub source_there : p.out.ready ≡ [] → ⊥
  source_there = not_empty p.out.ready due.source

  pub dest_there : p.cap.ready ≡ [] → ⊥
  dest_there = not_empty p.cap.ready due.dest

  idle_known : (j : Option InJob) → j ≡ None → KnowsItsJob formats.out p reference j → (p.out.job ≡ []) × (p.cap.job ≡ []) × IsSupplied formats.out (buffer_count p.out) reference
  idle_known None e h = h
  idle_known (Some j) e h = cc

  pub no_source : p.out.job ≡ []
  no_source = (idle_known job due.idle inv.known).0

  pub no_dest : p.cap.job ≡ []
  no_dest = (idle_known job due.idle inv.known).1

  -- what is lent fits a run
  pub claim_fits : (source dest : Lent) (asked : Rates) → IsLentFrom p.out.ready source → IsLentFrom p.cap.ready dest → AreRates (run_rates asked) → CanEncode source dest reference formats.out asked
  claim_fits source dest asked l m range =
      let f : source.used ≤ length source.payload.items = front_filled p.out.ready source due.source k.filled l in
      let long : formats.cap.size ≤ length dest.payload.items = front_long formats.cap.size p.cap.ready dest due.dest inv.long m in
      let cap : formats.cap.size ≡ 44 + padded_sum (geometry_of formats.out) = ap (λ (x : Format). x.size) inv.stands.2 ∙ room_is (layout_of formats.out.fourcc) formats.out.width formats.out.height in
      record {
        filled = omega (arith, f, source.payload.ok.0);
        whole = front_whole formats.out.size p.out.ready source due.source inv.whole l;
        room = omega (arith, long, cap);
        picture = supplied formats.out (buffer_count p.out) reference (some_there p.out p.out.ready refl due.source) (idle_known job due.idle inv.known).2;
        raw = inv.stands.0;
        range = range;
      }

  -- what a claim makes of the context

  pub claimed_pair : (q r : PairState) → q ≡ with_queue_at p Out (without_job_bytes (lend_after (queue_at p Out))) → r ≡ with_queue_at q Cap (without_job_bytes (lend_after (queue_at q Cap))) → r ≡ lent_pair p
  claimed_pair q r eq er =
      er ∙ ap (λ (x : PairState). with_queue_at x Cap (without_job_bytes (lend_after (queue_at x Cap)))) eq

  abbrev claimed : JobData
  claimed = job_data (claim_front here encode p.out.ready) (running_of here encode)

  after_front : (bs : List Buffer) (r : Option CodecReference) (taken : InJob) → is_empty bs ≡ false → encoder_state formats rates (lent_pair p) events r (Some taken) ≡ without_job (claim_front here encode bs)
  after_front [] r taken e = absurd (false≢true (sym e))
  after_front (b ∷ rest) r taken e = refl

  pub claim_after : (new : PairState) (r : Option CodecReference) (taken : InJob) → new ≡ lent_pair p → encoder_state formats rates new events r (Some taken) ≡ without_job (after_claim c)
  unfolding after_claim
  claim_after new r taken e = rw (e, ← view) (after_front p.out.ready r taken due.source)

  taken_front : (bs : List Buffer) → is_empty bs ≡ false → let d : Context = claim_front here encode bs in job_in (Some d) ≡ Some (job_data d (running_of here encode))
  taken_front [] e = absurd (false≢true (sym e))
  taken_front (b ∷ rest) e = refl

  claimed_is : claimed_in (Some c) ≡ Some claimed
  unfolding after_claim
  claimed_is = rw (← view) (taken_front p.out.ready due.source)

  codec_here : (j : Option InJob) → j ≡ None → codec_of j reference ≡ codec_of None reference
  codec_here None e = refl
  codec_here (Some j) e = cc

  front_codec : (bs : List Buffer) → (claim_front here encode bs).codec ≡ codec_of job reference
  front_codec [] = refl
  front_codec (b ∷ rest) = refl

  codec_is : claimed.codec ≡ codec_of None reference
  codec_is = front_codec p.out.ready ∙ codec_here job due.idle

  given_front :
      (source dest : Lent) (bs ds : List Buffer) → p.out.ready ≡ bs → p.cap.ready ≡ ds → is_empty bs ≡ false → is_empty ds ≡ false
      → IsLentFrom bs source → IsLentFrom ds dest
      → let d : Context = claim_front here encode bs in IsLent (source_of d.out.job) source × IsDest d.cap.job (Some dest.payload.items)
  given_front source dest [] ds eo ec e f l m = absurd (false≢true (sym e))
  given_front source dest (b ∷ rest) [] eo ec e f l m = absurd (false≢true (sym f))
  given_front source dest (b ∷ rest) (d ∷ more) eo ec e f l m =
      let jo : (lend_after p.out).job ≡ b ∷ [] = ap (λ (xs : List Buffer). (lend_front p.out xs).job) eo in
      let jc : (lend_after p.cap).job ≡ d ∷ [] = ap (λ (xs : List Buffer). (lend_front p.cap xs).job) ec in
      (subst (λ (j : List Buffer). IsLent (source_of j) source) (sym jo) l, subst (λ (j : List Buffer). IsDest j (Some dest.payload.items)) (sym jc) m.size)

  claim_given : (source dest : Lent) (r : Option CodecReference) (asked : Rates) → r ≡ reference → IsLentFrom p.out.ready source → IsLentFrom p.cap.ready dest → run_rates asked ≡ rates → IsGiven claimed source dest r formats.out asked
  claim_given source dest r asked er l m e =
      let g = given_front source dest p.out.ready p.cap.ready refl refl due.source due.dest l m in
      rw er (record { sort = refl; codec = codec_is; source = g.0; dest = g.1; geometry = refl; format = refl; limit = refl; rates = e })

  pub claim_work :
      (source dest : Lent) (r : Option CodecReference) (asked : Rates) (work : Work) → r ≡ reference → IsLentFrom p.out.ready source
      → IsLentFrom p.cap.ready dest → run_rates asked ≡ rates → ((j : JobData) → IsGiven j source dest r formats.out asked → IsWork j work)
      → IsWorkWith (claimed_in (Some c)) work
  claim_work source dest r asked work er l m e h =
      rw claimed_is (h claimed (claim_given source dest r asked er l m e))

  runs_front :
      (bs ds : List Buffer) (r : Option CodecReference) (taken : InJob) → p.out.ready ≡ bs → p.cap.ready ≡ ds → is_empty bs ≡ false
      → is_empty ds ≡ false
      → let d : Context = claim_front here encode bs in
      RunsIn (encoder_state formats rates (lent_pair p) events r (Some taken)) (record (job_data d (running_of here encode)) { codec = codec_of None reference })
  runs_front [] ds r taken eo ec e f = absurd (false≢true (sym e))
  runs_front (b ∷ rest) [] r taken eo ec e f = absurd (false≢true (sym f))
  runs_front (b ∷ rest) (d ∷ more) r taken eo ec e f =
      let jo : (lend_after p.out).job ≡ b ∷ [] = ap (λ (xs : List Buffer). (lend_front p.out xs).job) eo in
      let jc : (lend_after p.cap).job ≡ d ∷ [] = ap (λ (xs : List Buffer). (lend_front p.cap xs).job) ec in
      record {
        running = refl;
        source = ap (map without_bytes) jo ∙ ap (λ (j : List Buffer). without_bytes (source_of j) ∷ []) (sym jo);
        dest = refl;
        dests = ap length jc;
        codec = tt;
        run = record { sort = refl; same_geometry = refl; limit = refl; format = λ h. refl };
      }

  pub claim_runs : (new : PairState) (r : Option CodecReference) (taken : InJob) → new ≡ lent_pair p → RunsInWith (encoder_state formats rates new events r (Some taken)) (claimed_in (Some c))
  claim_runs new r taken e =
      let same : record claimed { codec = codec_of None reference } ≡ claimed = ap (λ x. record claimed { codec = x }) (sym codec_is) in
      rw (claimed_is, e) (subst (RunsIn (encoder_state formats rates (lent_pair p) events r (Some taken))) same (runs_front p.out.ready p.cap.ready r taken refl refl due.source due.dest))

  pub claim_taken : (new : PairState) (r : Option CodecReference) (taken : InJob) → is_claimable (Some (encoder_state formats rates new events r (Some taken))) ≡ false
  claim_taken new r taken = claimable_is formats rates new events r (Some taken)

  pub claim_step : (new : PairState) (r : Option CodecReference) (taken : InJob) → new ≡ lent_pair p → IsStep c (encoder_state formats rates new events r (Some taken))
  claim_step new r taken e =
      let o = lent_out p.out in
      let q = lent_out p.cap in
      let step : IsStep here (encoder_state formats rates (lent_pair p) events r (Some taken)) = record {
        kept =
            record {
              out_side = o.side ∙ k.out_side;
              cap_side = q.side ∙ k.cap_side;
              filled = o.ready k.filled;
              job_filled = o.job k.filled k.job_filled;
              out_filled = subst AreFilled (sym o.done) k.out_filled;
              cap_filled = subst AreFilled (sym q.done) k.cap_filled;
              out_idle = λ x. cc;
              cap_idle = λ x. cc;
            };
        counted =
            λ bound n.
            record {
              out_queued = omega (arith, o.queued, n.out_queued);
              cap_queued = omega (arith, q.queued, n.cap_queued);
              out_done = omega (arith, o.retired, n.out_done);
              cap_done = omega (arith, q.retired, n.cap_done);
              raised = omega (arith, n.raised);
            };
      } in
      rw (e, ← view) step

  pub claim_kept :
      (source dest : Lent) (new : PairState) (r : Option CodecReference) → new ≡ lent_pair p → IsLentFrom p.out.ready source
      → IsLentFrom p.cap.ready dest → IsEncoder formats new r (Some (record { source = source.index; dest = dest.index }))
  claim_kept source dest new r e l m =
      let taken : InJob = record { source = source.index; dest = dest.index } in
      let after : IsEncoder formats (lent_pair p) r (Some taken) = record {
        stands = inv.stands;
        settled = record { noted = not_owed (lent_pair p) (has_front p.out p.out.ready due.source); given = held_run p.phase _ due.phase };
        whole = lent_whole formats.out.size p.out p.out.ready refl inv.whole;
        long = lent_long formats.cap.size p.cap p.cap.ready refl inv.long;
        known = (due.phase, lent_job p.out p.out.ready source refl due.source due.out_streams l, lent_job p.cap p.cap.ready dest refl due.dest due.cap_streams m);
      } in
      rw e after

  pub claim_holds : (new : PairState) (r : Option CodecReference) (taken : InJob) (hold : HoldState) → new ≡ lent_pair p → FitsContext c hold → FitsContext (encoder_state formats rates new events r (Some taken)) hold
  claim_holds new r taken hold e f =
      let g : FitsContext here hold = subst (λ (x : Context). FitsContext x hold) (sym view) f in
      let h : FitsContext (encoder_state formats rates (lent_pair p) events r (Some taken)) hold = record { out = fits_lent p.out hold g.out; cap = fits_lent p.cap hold g.cap } in
      rw e h
