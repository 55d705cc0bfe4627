-- What a claim and a finish on a desk came to: none for a worker that is busy, or idle, and else one step of the device with the
-- job that the desk keeps for the worker.
use Rattle.std.proofs.Common.{ℕ, zero, suc, ◌≡◌, ◌<◌, Bool, true, false, is_some, Option, Some, None, List, [], ◌∷◌, ◌++◌, length, get_or, set, refl, sym, ap, ◌∙◌, subst}
use Rattle.std.proofs.lemmas.Bool.{false≢true, true≢false}
use Rattle.vc_base.specs.Device.{DeviceEvent, claim, finish}
use Rattle.vc_model.specs.Coder.{the_coder}
use Rattle.vc_model.specs.Runs.{JobData, finish_word}
use Rattle.vc_model.specs.Devices.{DeviceState, Told, job_of}
use Rattle.vc_model.specs.Solo.{Finished}
use Rattle.vc_model.specs.Core.{core_claim, core_finish, claimed_job, brought_back, word_of, BroughtBack}
use Rattle.vc_model.specs.Standing.{CoreState}
use Rattle.vc_queue.specs.Holds.{HoldState}
use Rattle.vc_context.specs.Payloads.{FitsSlot}
use Rattle.vc_model.specs.Devices.{slot_of}
use Rattle.vc_core.specs.Jobs.{IsJobOf, IsClaim, HasJob, Brings, IsOfWorker}
use Rattle.vc_core.specs.declared.job.Job.{Job}
use Rattle.vc_core.specs.declared.job.Finished.{Finished as Brought}
use Rattle.vc_desk.specs.declared.desk.Desk.{Desk}
use Rattle.vc_desk.specs.Desks.{HasData, after, IsKeptJob, IsAt, IsDesk}
use Rattle.vc_desk.specs.Workers.{WasBusy, WasEmpty, HasTaken, WasIdle, HasEnded}
use Rattle.vc_desk.proofs.StepsKeepDesks.{worker_same, claim_took, claim_empty, finish_is_of, is_of_worker, finish_made, same_word}

kept_busy : (d : DeviceState) (worker : ℕ) (o : Option Job) → IsKeptJob d worker o → is_some o ≡ true → (k : ℕ) × (job_of d worker ≡ Some k)
kept_busy d worker None h e = absurd (false≢true e)
kept_busy d worker (Some job) h e = (h.0, h.2.of_slot)

kept_free : (d : DeviceState) (worker : ℕ) (o : Option Job) → IsKeptJob d worker o → o ≡ None → job_of d worker ≡ None
kept_free d worker o h e = subst (IsKeptJob d worker) e h

none_kept : (o : Option Job) → is_some o ≡ false → o ≡ None
none_kept None e = refl
none_kept (Some job) e = absurd (true≢false e)

pub busy_done : (n : ℕ) (history : List DeviceEvent) (worker : ℕ) (desk : Desk) → IsDesk n history desk → worker < 16 → is_some (get_or desk.jobs.items worker None) ≡ true → WasBusy n history worker desk
busy_done n history worker desk at l e =
    let k = kept_busy (after n history) worker (get_or desk.jobs.items worker None) (at.kept worker l) e in
    record { slot = k.0; busy = k.1; at = at }

pub free_worker :
    (n : ℕ) (history : List DeviceEvent) (core : CoreState) (holds : List HoldState) (jobs : List (Option Job)) (worker : ℕ)
    → IsAt n history core holds jobs → worker < 16 → is_some (get_or jobs worker None) ≡ false → job_of core worker ≡ None
free_worker n history core holds jobs worker at l e =
    worker_same core (after n history) worker at.stands l ∙ kept_free (after n history) worker (get_or jobs worker None) (at.kept worker l) (none_kept (get_or jobs worker None) e)

nothing_waits : (waiting : List ℕ) (o : Option JobData) → IsClaim waiting o None → waiting ≡ []
nothing_waits [] o h = refl
nothing_waits (k ∷ rest) None h = absurd h
nothing_waits (k ∷ rest) (Some j) h = absurd h

pub empty_done :
    (n : ℕ) (history : List DeviceEvent) (worker : ℕ) (core now : CoreState) (holds : List HoldState) (jobs : List (Option Job)) (desk : Desk)
    → desk.core ≡ now → desk.holds.items ≡ holds → desk.jobs.items ≡ jobs → IsAt n history core holds jobs → worker < 16
    → is_some (get_or jobs worker None) ≡ false → IsClaim core.waiting (claimed_job core) None → now ≡ (core_claim core worker).device
    → WasEmpty n history worker desk
empty_done n history worker core now holds jobs desk e1 e2 e3 at l e is step =
    let made = claim_empty n history core now holds jobs worker at l (free_worker n history core holds jobs worker at l e) (none_kept (get_or jobs worker None) e) (nothing_waits core.waiting (claimed_job core) is) step in
    record {
      free = made.was_free;
      waited = made.waited;
      reply = made.reply;
      at =
          subst (λ c. IsAt n (history ++ claim worker ∷ []) c desk.holds.items desk.jobs.items) (sym e1)
          (subst (λ h. IsAt n (history ++ claim worker ∷ []) now h desk.jobs.items) (sym e2) (subst (IsAt n (history ++ claim worker ∷ []) now holds) (sym e3) made.at));
    }

record Claims (core : CoreState) (job : Job) : Type 0 where
  pub k : ℕ
  pub rest : List ℕ
  pub j : JobData
  pub waits : core.waiting ≡ k ∷ rest
  pub claimed : claimed_job core ≡ Some j
  pub is_job : IsJobOf k j job

claims_of : (core : CoreState) (job : Job) (waiting : List ℕ) (o : Option JobData) → core.waiting ≡ waiting → claimed_job core ≡ o → IsClaim waiting o (Some job) → Claims core job
claims_of core job [] o e f h = absurd h
claims_of core job (k ∷ rest) None e f h = absurd h
claims_of core job (k ∷ rest) (Some j) e f h =
    record { k = k; rest = rest; j = j; waits = e; claimed = f; is_job = h }

pub took_done :
    (n : ℕ) (history : List DeviceEvent) (worker slot : ℕ) (core now : CoreState) (holds : List HoldState) (jobs : List (Option Job)) (job : Job) (desk : Desk)
    → desk.core ≡ now → desk.holds.items ≡ holds → desk.jobs.items ≡ set jobs worker (Some job) → IsAt n history core holds jobs → worker < 16
    → is_some (get_or jobs worker None) ≡ false → IsClaim core.waiting (claimed_job core) (Some job) → now ≡ (core_claim core worker).device
    → length now.slots ≡ length core.slots → ((i : ℕ) (hold : HoldState) → FitsSlot (slot_of core i) hold → FitsSlot (slot_of now i) hold)
    → length now.workers ≡ length core.workers → ((k : ℕ) (j : JobData) → IsJobOf k j job → slot ≡ k)
    → HasTaken n history worker slot desk
took_done n history worker slot core now holds jobs job desk e1 e2 e3 at l e is step size keeps crew named =
    let claims = claims_of core job core.waiting (claimed_job core) refl refl is in
    let made = claim_took n history core now holds jobs worker claims.k claims.rest claims.j job at l (free_worker n history core holds jobs worker at l e) claims.waits claims.claimed claims.is_job step size keeps crew in
    let at2 =
    subst (λ c. IsAt n (history ++ claim worker ∷ []) c desk.holds.items desk.jobs.items) (sym e1)
    (subst (λ h. IsAt n (history ++ claim worker ∷ []) now h desk.jobs.items) (sym e2) (subst (IsAt n (history ++ claim worker ∷ []) now holds) (sym e3) made.at)) in
    subst (λ s. HasTaken n history worker s desk) (sym (named claims.k claims.j claims.is_job))
    (record { rest = made.rest; free = made.was_free; waited = made.waited; reply = made.reply; at = at2; has = made.has })

-- Finishes

pub idle_done :
    (n : ℕ) (history : List DeviceEvent) (worker : ℕ) (core : CoreState) (holds : List HoldState) (jobs : List (Option Job)) (desk : Desk)
    → desk.core ≡ core → desk.holds.items ≡ holds → desk.jobs.items ≡ set jobs worker None → IsAt n history core holds jobs → worker < 16
    → get_or jobs worker None ≡ None → WasIdle n history worker desk
idle_done n history worker core holds jobs desk e1 e2 e3 at l e =
    record {
      idle = kept_free (after n history) worker (get_or jobs worker None) (at.kept worker l) e;
      at =
          subst (λ c. IsAt n history c desk.holds.items desk.jobs.items) (sym e1)
          (subst (λ h. IsAt n history core h desk.jobs.items) (sym e2) (subst (IsAt n history core holds) (sym (e3 ∙ set_same jobs worker e)) at));
    }
  where
    set_same : (js : List (Option Job)) (i : ℕ) → get_or js i None ≡ None → set js i None ≡ js
    set_same [] i q = refl
    set_same (x ∷ js) zero q = ap (λ y. y ∷ js) (sym q)
    set_same (x ∷ js) (suc i) q = ap (λ ys. x ∷ ys) (set_same js i q)

-- the job that the worker has
record Holds (n : ℕ) (history : List DeviceEvent) (worker : ℕ) (job : Job) : Type 0 where
  pub k : ℕ
  pub j : JobData
  pub has : HasData (after n history) worker k j
  pub is_job : IsJobOf k j job

holds_of : (n : ℕ) (history : List DeviceEvent) (worker : ℕ) (o : Option Job) (job : Job) → IsKeptJob (after n history) worker o → o ≡ Some job → Holds n history worker job
holds_of n history worker o job h e =
    let g = subst (IsKeptJob (after n history) worker) e h in record { k = g.0; j = g.1; has = g.2; is_job = g.3 }

pub finish_of_worker :
    (n : ℕ) (history : List DeviceEvent) (worker : ℕ) (core : CoreState) (holds : List HoldState) (jobs : List (Option Job)) (job : Job) (finished : Brought)
    → IsAt n history core holds jobs → worker < 16 → get_or jobs worker None ≡ Some job
    → (fault : Bool) → ((k : ℕ) (j : JobData) → IsJobOf k j job → Brings k (brought_back the_coder j fault) finished) → IsOfWorker core worker finished
finish_of_worker n history worker core holds jobs job finished at l e fault run =
    let h = holds_of n history worker (get_or jobs worker None) job (at.kept worker l) e in
    let b = run h.k h.j h.is_job in
    is_of_worker core worker h.k (brought_back the_coder h.j fault) finished (finish_is_of n history core holds jobs worker h.k h.j finished fault at l h.has b) b

pub ended_done :
    (n : ℕ) (history : List DeviceEvent) (worker slot : ℕ) (word : List ℕ) (core now : CoreState) (holds : List HoldState)
    (jobs : List (Option Job)) (job : Job) (finished : Brought) (desk : Desk)
    → desk.core ≡ now → desk.holds.items ≡ holds → desk.jobs.items ≡ set jobs worker None → IsAt n history core holds jobs → worker < 16
    → get_or jobs worker None ≡ Some job
    → (fault : Bool) → ((k : ℕ) (j : JobData) → IsJobOf k j job → Brings k (brought_back the_coder j fault) finished)
    → ((k : ℕ) (j : JobData) → IsJobOf k j job → slot ≡ k) → ((k : ℕ) (back : BroughtBack) → Brings k back finished → word ≡ word_of back)
    → ((k : ℕ) (back : BroughtBack) → HasJob core worker k back.job → Brings k back finished → now ≡ (core_finish core worker back).device)
    → length now.slots ≡ length core.slots → ((i : ℕ) (hold : HoldState) → FitsSlot (slot_of core i) hold → FitsSlot (slot_of now i) hold)
    → length now.workers ≡ length core.workers → HasEnded n history worker slot word fault desk
ended_done n history worker slot word core now holds jobs job finished desk e1 e2 e3 at l e fault run named worded step size keeps crew =
    let h = holds_of n history worker (get_or jobs worker None) job (at.kept worker l) e in
    let back = brought_back the_coder h.j fault in
    let b = run h.k h.j h.is_job in
    let has = finish_is_of n history core holds jobs worker h.k h.j finished fault at l h.has b in
    let made = finish_made n history core now holds jobs worker h.k h.j fault at l h.has has (step h.k back has b) size keeps crew in
    let at2 =
    subst (λ c. IsAt n (history ++ finish worker fault ∷ []) c desk.holds.items desk.jobs.items) (sym e1)
    (subst (λ x. IsAt n (history ++ finish worker fault ∷ []) now x desk.jobs.items) (sym e2) (subst (IsAt n (history ++ finish worker fault ∷ []) now holds) (sym e3) made.at)) in
    let is_word : word ≡ finish_word the_coder h.j fault = worded h.k back b ∙ same_word h.j fault in
    subst (λ s. HasEnded n history worker s word fault desk) (sym (named h.k h.j h.is_job))
    (record {
      job = h.j;
      had = made.had;
      word_is = is_word;
      reply = made.reply ∙ ap (λ w. Told h.k (Finished w)) (sym is_word);
      at = at2;
    })

pub moved_desk : (n : ℕ) (history : List DeviceEvent) (core core2 : CoreState) (holds holds2 : List HoldState) (jobs : List (Option Job)) → core2 ≡ core → holds2 ≡ holds → IsAt n history core holds jobs → IsAt n history core2 holds2 jobs
moved_desk n history core core2 holds holds2 jobs e f at =
    subst (λ c. IsAt n history c holds2 jobs) (sym e) (subst (λ h. IsAt n history core h jobs) (sym f) at)
