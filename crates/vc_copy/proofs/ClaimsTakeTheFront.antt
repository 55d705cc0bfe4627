-- A claim on a copying context takes the front buffers of both queues. The job has the data that the definitions give
-- it, since the queues are the context's own.
use Rattle.std.proofs.Common.{ℕ, ◌≡◌, ◌≤◌, leb, Bool, true, false, not, ◌&&◌, ◌||◌, Some, List, [], ◌∷◌, map, length, refl, sym, ap, ◌∙◌, subst, arith, leb-true}
use Rattle.std.specs.Prelude.{is_some, is_none}
use Rattle.std.proofs.lemmas.Bool.{false≢true, and_parts}
use Rattle.vc_base.specs.Buffers.{Buffer, QueueState, is_empty, lend_after, lend_front, without_bytes, without_job_bytes}
use Rattle.vc_model.specs.Context.{Context, copy}
use Rattle.vc_model.specs.Runs.{is_claimable, after_claim, claim_front, running_of, job_data, source_of}
use Rattle.vc_model.specs.Standing.{without_job, job_in}
use Rattle.vc_model.specs.Core.{claimed_in}
use Rattle.vc_queue.specs.declared.queue.Lent.{Lent}
use Rattle.vc_queue.specs.Lending.{IsLent, IsLentFrom}
use Rattle.vc_queue.specs.Releasing.{front_ordinal}
use Rattle.vc_context.specs.Contexts.{AreFilled, has_work, IsKept, IsStep}
use Rattle.vc_context.specs.Works.{IsDest, RunsIn, RunsInWith, IsIndexOf}
use Rattle.vc_context.proofs.QueuesCountUp.{lent_out}
use Rattle.vc_copy.specs.Copying.{data_bytes, copier_state, job_mark, IsGiven, claimed_data}

-- when a job can be claimed

pub has_front : (bs : List Buffer) → is_some (front_ordinal bs) ≡ not (is_empty bs)
has_front [] = refl
has_front (b ∷ rest) = refl

claimable_cases : (r a b d e : Bool) → (is_none (job_mark r) && (false || ((a && b) && ((not d && not e) && true)))) ≡ (not r && ((a && not d) && (b && not e)))
claimable_cases true a b d e = refl
claimable_cases false true true true e = refl
claimable_cases false true true false true = refl
claimable_cases false true true false false = refl
claimable_cases false true false true e = refl
claimable_cases false true false false e = refl
claimable_cases false false b d e = refl

pub claimable_is : (size : ℕ) (out cap : QueueState) (running : Bool) → is_claimable (Some (copier_state size out cap running)) ≡ (not running && (has_work out && has_work cap))
unfolding is_claimable
claimable_is size out cap running =
    claimable_cases running out.streams cap.streams (is_empty out.ready) (is_empty cap.ready)

-- What a context has whose job can be claimed.
pub record IsDue (size : ℕ) (out cap : QueueState) (running : Bool) : Type 0 where
  pub idle : running ≡ false
  pub source : is_empty out.ready ≡ false
  pub dest : is_empty cap.ready ≡ false

not_true : (b : Bool) → not b ≡ true → b ≡ false
not_true true h = absurd (false≢true h)
not_true false h = refl

pub due : (size : ℕ) (out cap : QueueState) (running : Bool) (c : Context) → copier_state size out cap running ≡ c → is_claimable (Some c) ≡ true → IsDue size out cap running
due size out cap running c view h =
    let e = and_parts (not running) (has_work out && has_work cap) (sym (claimable_is size out cap running) ∙ (ap (λ (x : Context). is_claimable (Some x)) view ∙ h)) in
    let w = and_parts (has_work out) (has_work cap) e.1 in
    record {
      idle = not_true running e.0;
      source = not_true (is_empty out.ready) (and_parts out.streams (not (is_empty out.ready)) w.0).1;
      dest = not_true (is_empty cap.ready) (and_parts cap.streams (not (is_empty cap.ready)) w.1).1;
    }

pub not_empty : (bs : List Buffer) → is_empty bs ≡ false → bs ≡ [] → ⊥
not_empty [] h e = false≢true (sym h)
not_empty (b ∷ rest) h e = cc

-- the front of ready goes into the job

pub front_filled : (bs : List Buffer) (lent : Lent) → is_empty bs ≡ false → AreFilled bs → IsLentFrom bs lent → lent.used ≤ length lent.payload.items
front_filled [] lent e f l = absurd (false≢true (sym e))
front_filled (b ∷ rest) lent e f l =
    let h : leb b.used b.size ≡ true = (and_parts (leb b.used b.size) _ f).0 in
    let below : b.used ≤ b.size = leb-true b.used b.size h in
    omega (arith, l.used, l.size)

-- the index of the buffer that was lent
index_at : (q : QueueState) (bs : List Buffer) (lent : Lent) → q.ready ≡ bs → is_empty bs ≡ false → IsLentFrom bs lent → IsIndexOf lent.index (without_job_bytes (lend_front q bs)).job
index_at q [] lent r e l = absurd (false≢true (sym e))
index_at q (b ∷ rest) lent r e l = sym l.index

claimed_front :
    (size : ℕ) (out cap : QueueState) (running : Bool) (bs : List Buffer) → is_empty bs ≡ false
    → copier_state size (without_job_bytes (lend_after out)) (without_job_bytes (lend_after cap)) true ≡ without_job (claim_front (copier_state size out cap running) copy bs)
claimed_front size out cap running [] e = absurd (false≢true (sym e))
claimed_front size out cap running (b ∷ rest) e = refl

given_front :
    (size : ℕ) (out cap : QueueState) (running : Bool) (source dest : Lent) (bs ds : List Buffer) → out.ready ≡ bs → cap.ready ≡ ds
    → is_empty bs ≡ false → is_empty ds ≡ false → IsLentFrom bs source → IsLentFrom ds dest
    → let c : Context = copier_state size out cap running in IsGiven (job_data (claim_front c copy bs) (running_of c copy)) source dest (data_bytes size)
given_front size out cap running source dest [] ds eo ec e f l m = absurd (false≢true (sym e))
given_front size out cap running source dest (b ∷ rest) [] eo ec e f l m = absurd (false≢true (sym f))
given_front size out cap running source dest (b ∷ rest) (d ∷ more) eo ec e f l m =
    let jo : (lend_after out).job ≡ b ∷ [] = ap (λ (xs : List Buffer). (lend_front out xs).job) eo in
    let jc : (lend_after cap).job ≡ d ∷ [] = ap (λ (xs : List Buffer). (lend_front cap xs).job) ec in
    record {
      sort = refl;
      codec = refl;
      source = subst (λ (j : List Buffer). IsLent (source_of j) source) (sym jo) l;
      dest = subst (λ (j : List Buffer). IsDest j (Some dest.payload.items)) (sym jc) m.size;
      geometry = refl;
      format = refl;
      limit = refl;
      rates = refl;
    }

taken_job :
    (size : ℕ) (out cap : QueueState) (running : Bool) (bs : List Buffer) → is_empty bs ≡ false
    → let d : Context = claim_front (copier_state size out cap running) copy bs in job_in (Some d) ≡ Some (job_data d (running_of (copier_state size out cap running) copy))
taken_job size out cap running [] e = absurd (false≢true (sym e))
taken_job size out cap running (b ∷ rest) e = refl

runs_front :
    (size : ℕ) (out cap : QueueState) (running : Bool) (bs ds : List Buffer) → out.ready ≡ bs → cap.ready ≡ ds → is_empty bs ≡ false
    → is_empty ds ≡ false
    → let c : Context = copier_state size out cap running in
    RunsIn (copier_state size (without_job_bytes (lend_after out)) (without_job_bytes (lend_after cap)) true) (job_data (claim_front c copy bs) (running_of c copy))
runs_front size out cap running [] ds eo ec e f = absurd (false≢true (sym e))
runs_front size out cap running (b ∷ rest) [] eo ec e f = absurd (false≢true (sym f))
runs_front size out cap running (b ∷ rest) (d ∷ more) eo ec e f =
    let jo : (lend_after out).job ≡ b ∷ [] = ap (λ (xs : List Buffer). (lend_front out xs).job) eo in
    let jc : (lend_after cap).job ≡ d ∷ [] = ap (λ (xs : List Buffer). (lend_front cap xs).job) ec in
    record {
      running = refl;
      source = ap (map without_bytes) jo ∙ ap (λ (j : List Buffer). without_bytes (source_of j) ∷ []) (sym jo);
      dest = refl;
      dests = ap length jc;
      codec = tt;
      run = record { sort = refl; same_geometry = refl; limit = refl; format = λ h. refl };
    }

module _ (size : ℕ) (out cap : QueueState) (running : Bool) (c : Context) (view : copier_state size out cap running ≡ c) (can : is_claimable (Some c) ≡ true) where
  is_due : IsDue size out cap running
  is_due = due size out cap running c view can

  pub claim_after : (new_out new_cap : QueueState) → new_out ≡ without_job_bytes (lend_after out) → new_cap ≡ without_job_bytes (lend_after cap) → copier_state size new_out new_cap true ≡ without_job (after_claim c)
  unfolding after_claim
  claim_after new_out new_cap eo ec =
      rw (eo, ec, ← view) (claimed_front size out cap running out.ready is_due.source)

  pub claim_given : (source dest : Lent) → IsLentFrom out.ready source → IsLentFrom cap.ready dest → IsGiven (claimed_data c) source dest (data_bytes size)
  unfolding after_claim
  claim_given source dest l m =
      rw (← view) (given_front size out cap running source dest out.ready cap.ready refl refl is_due.source is_due.dest l m)

  pub claim_step : (new_out new_cap : QueueState) → IsKept c → new_out ≡ without_job_bytes (lend_after out) → new_cap ≡ without_job_bytes (lend_after cap) → IsStep c (copier_state size new_out new_cap true)
  claim_step new_out new_cap kept eo ec =
      let k = subst (λ (x : Context). IsKept x) (sym view) kept in
      let o = lent_out out in
      let p = lent_out cap in
      let step : IsStep (copier_state size out cap running) (copier_state size (without_job_bytes (lend_after out)) (without_job_bytes (lend_after cap)) true) = record {
        kept =
            record {
              out_side = o.side ∙ k.out_side;
              cap_side = p.side ∙ k.cap_side;
              filled = o.ready k.filled;
              job_filled = o.job k.filled k.job_filled;
              out_filled = subst AreFilled (sym o.done) k.out_filled;
              cap_filled = subst AreFilled (sym p.done) k.cap_filled;
              out_idle = λ e. cc;
              cap_idle = λ e. cc;
            };
        counted =
            λ bound n.
            record {
              out_queued = omega (arith, o.queued, n.out_queued);
              cap_queued = omega (arith, p.queued, n.cap_queued);
              out_done = omega (arith, o.retired, n.out_done);
              cap_done = omega (arith, p.retired, n.cap_done);
              raised = omega (arith, n.raised);
            };
      } in
      rw (eo, ec, ← view) step

  pub source_there : out.ready ≡ [] → ⊥
  source_there = not_empty out.ready is_due.source

  pub dest_there : cap.ready ≡ [] → ⊥
  dest_there = not_empty cap.ready is_due.dest

  pub no_source : IsKept c → out.job ≡ []
  no_source kept =
      (subst (λ (x : Context). IsKept x) (sym view) kept).out_idle (ap job_mark is_due.idle)

  pub no_dest : IsKept c → cap.job ≡ []
  no_dest kept =
      (subst (λ (x : Context). IsKept x) (sym view) kept).cap_idle (ap job_mark is_due.idle)

  pub source_filled : (lent : Lent) → IsKept c → IsLentFrom out.ready lent → lent.used ≤ length lent.payload.items
  source_filled lent kept l =
      front_filled out.ready lent is_due.source (subst (λ (x : Context). IsKept x) (sym view) kept).filled l

  pub claimed_is : claimed_in (Some c) ≡ Some (claimed_data c)
  unfolding after_claim
  claimed_is = rw (← view) (taken_job size out cap running out.ready is_due.source)

  pub is_taken : (new_out new_cap : QueueState) → is_claimable (Some (copier_state size new_out new_cap true)) ≡ false
  is_taken new_out new_cap = claimable_is size new_out new_cap true

  pub claim_runs : (new_out new_cap : QueueState) → new_out ≡ without_job_bytes (lend_after out) → new_cap ≡ without_job_bytes (lend_after cap) → RunsInWith (copier_state size new_out new_cap true) (claimed_in (Some c))
  unfolding after_claim
  claim_runs new_out new_cap eo ec =
      rw (claimed_is, eo, ec, ← view) (runs_front size out cap running out.ready cap.ready refl refl is_due.source is_due.dest)

  pub source_index : (lent : Lent) (new_out : QueueState) → IsLentFrom out.ready lent → new_out ≡ without_job_bytes (lend_after out) → IsIndexOf lent.index new_out.job
  source_index lent new_out l e =
      rw e (index_at out out.ready lent refl is_due.source l)

  pub dest_index : (lent : Lent) (new_cap : QueueState) → IsLentFrom cap.ready lent → new_cap ≡ without_job_bytes (lend_after cap) → IsIndexOf lent.index new_cap.job
  dest_index lent new_cap l e = rw e (index_at cap cap.ready lent refl is_due.dest l)
