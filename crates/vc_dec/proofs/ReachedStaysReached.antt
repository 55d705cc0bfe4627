-- A context that the definitions reach stays one at each call, and settles as its queues do. What soundness says of
-- it is read off here: its sides, its settled queues, and the order of its buffers.
use Rattle.std.proofs.Common.{ℕ, ◌≡◌, Bool, true, false, ◌&&◌, Option, Some, None, List, [], ◌∷◌, map, length, refl, sym, ap, ◌∙◌, subst, arith, ◌+◌, ◌++◌}
use Rattle.std.specs.Prelude.{is_none}
use Rattle.std.specs.Option.{option_map}
use Rattle.vc_base.specs.declared.Side.TheVariants.{Out, Cap}
use Rattle.vc_base.specs.declared.Kind.TheVariants.{Dec}
use Rattle.vc_base.specs.declared.Call.{Call}
use Rattle.vc_base.specs.declared.Call.TheVariants.{Open}
use Rattle.vc_base.specs.Buffers.{Buffer, is_empty, without_bytes}
use Rattle.vc_model.specs.Context.{Context, Slot, Running, is_run, is_drained, fresh_context}
use Rattle.vc_model.specs.Answer.{Answer, answer, closed_answer, context_answer}
use Rattle.vc_model.specs.Sound.{HasItsBuffers, IsOrdered, IsOrderedSlot, IsSoundButUnsettled, IsSettled as IsSettledContext, CountsUp, CountsUpToNext}
use Rattle.vc_model.specs.Standing.{some_job, without_job, without_data_of, core_answer}
use Rattle.vc_model.proofs.AnswersKeepSound.{answer_sound}
use Rattle.vc_model.specs.Coder.{the_coder}
use Rattle.vc_model.specs.Runs.{is_claimable, after_claim}
use Rattle.vc_model.specs.Solo.{Claims, claim_step, solo_step}
use Rattle.vc_model.proofs.EventsKeepSound.{step_sound}
use Rattle.vc_model.proofs.CallsLeaveTheJob.{answers_without_job, without_none}
use Rattle.vc_pair.specs.Pairs.{IsSettled}
use Rattle.vc_pair.specs.Rows.{pair_of, JobsAgree}
use Rattle.vc_dec.specs.Decoders.{IsPlaced}

slot_placed : (s : Slot) (after : Context) → IsOrderedSlot s → option_map without_job s ≡ Some after → IsPlaced after
slot_placed None after o e = absurd (cc)
slot_placed (Some w) after o e =
    let same : without_job w ≡ after = cc in record { whole = w; ordered = o; without = same }

-- every call leaves a context in its place
pub placed_answer : (c after : Context) (request : Call) (bytes : List ℕ) (found : Bool) → IsPlaced c → (context_answer c request bytes found).slot ≡ Some after → IsPlaced after
unfolding answer
placed_answer c after request bytes found p e =
    let w : Context = p.whole in
    let hidden : answer (Some (without_job w)) request bytes found ≡ core_answer (answer (Some w) request bytes found) = answers_without_job (Some w) request bytes found in
    let slot : option_map without_job (answer (Some w) request bytes found).slot ≡ Some after = sym (ap (λ (x : Answer). x.slot) hidden) ∙ (ap (λ (x : Context). (answer (Some x) request bytes found).slot) p.without ∙ e) in
    slot_placed (answer (Some w) request bytes found).slot after (answer_sound (Some w) request bytes found p.ordered) slot

-- a context at Open is in its place
pub fresh_placed : IsPlaced (fresh_context Dec)
unfolding answer closed_answer
fresh_placed =
    record { whole = fresh_context Dec; ordered = answer_sound None (Open Dec) [] true tt; without = refl }

-- a job runs exactly where a buffer is in the job

one_there : (bs : List Buffer) → length bs ≡ 1 → is_empty (map without_bytes bs) ≡ false
one_there [] e = cc
one_there (b ∷ rest) e = refl

whole_agrees : (w : Context) (o : Option Running) → w.running ≡ o → HasItsBuffers w o → JobsAgree (without_data_of w o)
whole_agrees w None e h =
    ap is_none e ∙ sym (ap (λ l. is_empty l && is_empty w.cap.job) h.0 ∙ ap is_empty h.1)
whole_agrees w (Some r) e h =
    sym (ap (λ t. t && is_empty (map without_bytes w.cap.job)) (one_there w.out.job h.1))

pub agrees : (c : Context) → IsPlaced c → JobsAgree c
agrees c p =
    subst JobsAgree p.without (whole_agrees p.whole p.whole.running refl p.ordered.firm.has_buffers)

-- nothing is left to be settled

never_noted : (a b : Bool) → (a && (b && false)) ≡ false
never_noted true true = refl
never_noted true false = refl
never_noted false b = refl

whole_settled : (w : Context) (o : Option Running) → w.running ≡ o → HasItsBuffers w o → IsSettledContext w → IsSettled (pair_of (without_data_of w o))
whole_settled w None e h s =
    record {
      noted = ap (λ b. is_run w.phase && (w.cap.streams && (b && is_drained w.out.ready w.mark))) (sym (whole_agrees w None e h)) ∙ s.noted;
      given = s.given;
    }
whole_settled w (Some r) e h s =
    record {
      noted = ap (λ b. is_run w.phase && (w.cap.streams && (b && is_drained w.out.ready w.mark))) (sym (whole_agrees w (Some r) e h)) ∙ never_noted (is_run w.phase) w.cap.streams;
      given = s.given;
    }

pub settled : (c : Context) → IsPlaced c → IsSettled (pair_of c)
settled c p =
    subst (λ (x : Context). IsSettled (pair_of x)) p.without (whole_settled p.whole p.whole.running refl p.ordered.firm.has_buffers p.ordered.settled)

-- the sides of the queues, and idle queues
pub record HasSides (c : Context) : Type 0 where
  pub out_side : c.out.side ≡ Out
  pub cap_side : c.cap.side ≡ Cap
  pub out_idle : c.running ≡ None → c.out.job ≡ []
  pub cap_idle : c.running ≡ None → c.cap.job ≡ []

whole_sides : (w : Context) (o : Option Running) → IsSoundButUnsettled w → HasItsBuffers w o → HasSides (without_data_of w o)
whole_sides w None f h =
    record { out_side = f.out_side; cap_side = f.cap_side; out_idle = λ _. h.0; cap_idle = λ _. h.1 }
whole_sides w (Some r) f h =
    record { out_side = f.out_side; cap_side = f.cap_side; out_idle = λ (x : Some some_job ≡ None). absurd (cc); cap_idle = λ (x : Some some_job ≡ None). absurd (cc) }

pub sides : (c : Context) → IsPlaced c → HasSides c
sides c p =
    subst HasSides p.without (whole_sides p.whole p.whole.running p.ordered.firm p.ordered.firm.has_buffers)

-- while a job runs the phase is Run
whole_runs : (w : Context) (o : Option Running) → HasItsBuffers w o → is_none o ≡ false → is_run (without_data_of w o).phase ≡ true
whole_runs w None h e = cc
whole_runs w (Some r) h e = h.0

whole_running : (w : Context) (o : Option Running) → w.running ≡ o → is_none (without_data_of w o).running ≡ is_none o
whole_running w None e = ap is_none e
whole_running w (Some r) e = refl

pub runs : (c : Context) → IsPlaced c → is_none c.running ≡ false → is_run c.phase ≡ true
runs c p e =
    let w : Context = p.whole in
    let busy : is_none w.running ≡ false = sym (whole_running w w.running refl) ∙ (ap (λ (x : Context). is_none x.running) p.without ∙ e) in
    subst (λ (x : Context). is_run x.phase ≡ true) p.without (whole_runs w w.running p.ordered.firm.has_buffers busy)

-- the OUTPUT buffers that wait for a run were queued one after another
whole_latest : (w : Context) (o : Option Running) → CountsUpToNext w.out → CountsUpToNext (without_data_of w o).out
whole_latest w None u = u
whole_latest w (Some r) u =
    record { first = u.first; counts = without_counts w.out.job w.out.ready u.first w.out.next_ordinal u.counts }
  where
    without_counts : (bs rest : List Buffer) (first next : ℕ) → CountsUp (bs ++ rest) first next → CountsUp (map without_bytes bs ++ rest) first next
    without_counts [] rest first next c = c
    without_counts (b ∷ bs) rest first next c = (c.0, without_counts bs rest (first + 1) next c.1)

pub latest : (c : Context) → IsPlaced c → CountsUpToNext c.out
latest c p =
    subst (λ (x : Context). CountsUpToNext x.out) p.without (whole_latest p.whole p.whole.running p.ordered.firm.out.latest)

-- while no job runs the context is one of the device itself
pub ordered_idle : (c : Context) → IsPlaced c → c.running ≡ None → IsOrdered c
ordered_idle c p e =
    let w : Context = p.whole in
    let none : is_none w.running ≡ true = sym (whole_running w w.running refl) ∙ (ap (λ (x : Context). is_none x.running) p.without ∙ ap is_none e) in
    let same : w ≡ c = sym (without_none w (none_runs w.running none)) ∙ p.without in
    subst IsOrdered same p.ordered
  where
    none_runs : (o : Option Running) → is_none o ≡ true → o ≡ None
    none_runs None h = refl
    none_runs (Some r) h = cc

-- a claim leaves it in its place
pub claim_placed : (c : Context) → IsOrdered c → is_claimable (Some c) ≡ true → IsPlaced (without_job (after_claim c))
unfolding solo_step
claim_placed c o e =
    let step : IsOrderedSlot (claim_step (Some c) (is_claimable (Some c))).slot = step_sound the_coder (Some c) Claims o in
    record { whole = after_claim c; ordered = subst (λ b. IsOrderedSlot (claim_step (Some c) b).slot) e step; without = refl }

-- a queue that does not stream has nothing in the job

two_ways : {A : Type 0} → (bs : List Buffer) → bs ≡ [] → length bs ≡ 1 → A
two_ways bs e l =
    let n : length bs ≡ 0 = ap length e in absurd (omega (arith, n, l))

whole_out_rests : (w : Context) (o : Option Running) → w.running ≡ o → HasItsBuffers w o → IsSoundButUnsettled w → w.out.streams ≡ false → (is_none (without_data_of w o).running ≡ true) × ((without_data_of w o).out.job ≡ [])
whole_out_rests w None e h f s = (ap is_none e, h.0)
whole_out_rests w (Some r) e h f s = two_ways w.out.job (f.out.job_at_rest s) h.1

same_streams : (w : Context) (o : Option Running) → (without_data_of w o).out.streams ≡ w.out.streams
same_streams w None = refl
same_streams w (Some r) = refl

pub out_rests : (c : Context) → IsPlaced c → c.out.streams ≡ false → (is_none c.running ≡ true) × (c.out.job ≡ [])
out_rests c p s =
    let w : Context = p.whole in
    let t : w.out.streams ≡ false = sym (same_streams w w.running) ∙ (ap (λ (x : Context). x.out.streams) p.without ∙ s) in
    subst (λ (x : Context). (is_none x.running ≡ true) × (x.out.job ≡ [])) p.without (whole_out_rests w w.running refl p.ordered.firm.has_buffers p.ordered.firm t)

whole_cap_rests : (w : Context) (o : Option Running) → IsSoundButUnsettled w → w.cap.streams ≡ false → (without_data_of w o).cap.job ≡ []
whole_cap_rests w None f s = f.cap.job_at_rest s
whole_cap_rests w (Some r) f s = ap (map without_bytes) (f.cap.job_at_rest s)

same_cap_streams : (w : Context) (o : Option Running) → (without_data_of w o).cap.streams ≡ w.cap.streams
same_cap_streams w None = refl
same_cap_streams w (Some r) = refl

pub cap_rests : (c : Context) → IsPlaced c → c.cap.streams ≡ false → c.cap.job ≡ []
cap_rests c p s =
    let w : Context = p.whole in
    let t : w.cap.streams ≡ false = sym (same_cap_streams w w.running) ∙ (ap (λ (x : Context). x.cap.streams) p.without ∙ s) in
    subst (λ (x : Context). x.cap.job ≡ []) p.without (whole_cap_rests w w.running p.ordered.firm t)
