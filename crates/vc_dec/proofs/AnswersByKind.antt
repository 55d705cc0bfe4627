-- The calls whose answer rests on the kind alone, and when a job of a decoder is due. The kind is read off the state,
-- and the conditions are compared case by case.
use Rattle.std.proofs.Common.{ℕ, ◌≡◌, ◌&&◌, ◌||◌, Bool, true, false, not, Option, Some, None, List, refl, sym, ap, ◌∙◌, subst}
use Rattle.std.specs.Prelude.{is_none}
use Rattle.vc_base.specs.declared.Kind.{Kind}
use Rattle.vc_base.specs.declared.Kind.TheVariants.{Dec}
use Rattle.vc_base.specs.declared.Errno.{Errno}
use Rattle.vc_base.specs.declared.Errno.TheVariants.{Inval}
use Rattle.vc_base.specs.declared.Call.TheVariants.{SetCtrl}
use Rattle.vc_base.specs.declared.Reply.{Reply}
use Rattle.vc_base.specs.declared.Reply.TheVariants.{Refused}
use Rattle.vc_base.specs.Buffers.{is_empty}
use Rattle.vc_model.specs.Context.{Context, PhaseState, run, owe, last, stopped, is_run}
use Rattle.vc_model.specs.Answer.{Answer, refused, context_answer, control_answer, with_control}
use Rattle.vc_model.specs.Formats.{FormatPair}
use Rattle.vc_model.specs.Runs.{is_claimable, front_is_due}
use Rattle.vc_base.specs.Events.{EventState}
use Rattle.vc_defs.specs.declared.Geometry.{Geometry}
use Rattle.vc_defs.specs.Decoder.{DecoderState}
use Rattle.vc_geom.specs.Pairs.{pair_of}
use Rattle.vc_pair.specs.Pairs.{PairState}
use Rattle.vc_pair.specs.declared.Phase.{Phase}
use Rattle.vc_pair.specs.Phases.{phase_alone}
use Rattle.vc_pair.proofs.PairRowsAreContextRows.{same_due}
use Rattle.vc_context.specs.Contexts.{Gives, GivesWithMemory}
use Rattle.vc_dec.specs.declared.InJob.{InJob}
use Rattle.vc_dec.specs.declared.Decoder.TheInside.{Inside}
use Rattle.vc_dec.specs.Decoders.{decoder_state, job_mark, is_run_alone, is_job_due}
use Rattle.vc_dec.proofs.BuffersAreMade.{gives_found}

pub always : (answer : Bool → Answer) (a : Answer) (reply : Reply) (after : Context) → answer true ≡ a → Gives a reply after → GivesWithMemory answer reply after
always answer a reply after e g =
    gives_found answer reply after (subst (λ (x : Answer). Gives x reply after) (sym e) g)

-- a refusal of every call of its sort
pub refused_at : (answer : Bool → Answer) (c : Context) (reply : Reply) (errno : Errno) → answer true ≡ refused c errno → reply ≡ Refused errno → GivesWithMemory answer reply c
refused_at answer c reply errno e er =
    always answer (refused c errno) reply c e (record { reply = sym er; context = refl })

module _ (d : Inside) (c : Context) (view : decoder_state (pair_of d.m2m.formats) d.geometry d.m2m.pair d.m2m.events d.codec.state d.job ≡ c) where
  kind_is : c.kind ≡ Dec
  kind_is = ap (λ (x : Context). x.kind) (sym view)

  pub no_setting : (id value : ℕ) (bytes : List ℕ) (found : Bool) → context_answer c (SetCtrl id value) bytes found ≡ refused c Inval
  unfolding context_answer
  no_setting id value bytes found =
      ap (λ (k : Kind). control_answer c (with_control k c.rates id value)) kind_is

-- when a job is due

run_alone : (phase : PhaseState) → is_run_alone (phase_alone phase) ≡ is_run phase
run_alone run = refl
run_alone (owe cause) = refl
run_alone (last cause) = refl
run_alone (stopped cause) = refl

never : (a b : Bool) → (a && (b && false)) ≡ false
never true true = refl
never true false = refl
never false b = refl

unknown_cases : (n s k oe ce r f : Bool) → ((n && r) && (s && f)) ≡ (n && ((s && (r && f)) || ((s && k) && ((not oe && not ce) && (r && false)))))
unknown_cases false s k oe ce r f = refl
unknown_cases true false k oe ce true f = refl
unknown_cases true false k oe ce false f = refl
unknown_cases true true k oe ce false f = sym (never k (not oe && not ce))
unknown_cases true true k oe ce true true = refl
unknown_cases true true k oe ce true false = sym (never k (not oe && not ce))

none_last : (a b : Bool) → false ≡ (a && (b && false))
none_last a b = sym (never a b)

known_cases : (n s k oe ce r : Bool) → ((n && r) && ((s && not oe) && (k && not ce))) ≡ (n && (false || ((s && k) && ((not oe && not ce) && (r && true)))))
known_cases false s k oe ce r = refl
known_cases true s k oe ce false = none_last (s && k) (not oe && not ce)
known_cases true false k oe ce true = refl
known_cases true true false true ce true = refl
known_cases true true true true ce true = refl
known_cases true true false false ce true = refl
known_cases true true true false true true = refl
known_cases true true true false false true = refl

pub due_cases :
    (formats : FormatPair) (g : Option Geometry) (p : PairState) (events : EventState) (state : DecoderState) (job : Option InJob)
    → (is_none (job_mark job) && is_run p.phase && is_job_due g p) ≡ is_claimable (Some (decoder_state formats g p events state job))
unfolding is_claimable
due_cases formats None p events state job =
    ap (λ b. (is_none (job_mark job) && is_run p.phase) && (p.out.streams && b)) (same_due p.out.ready p.mark)
    ∙ unknown_cases (is_none (job_mark job)) p.out.streams p.cap.streams (is_empty p.out.ready) (is_empty p.cap.ready) (is_run p.phase) (front_is_due p.out.ready p.mark)
due_cases formats (Some geometry) p events state job =
    known_cases (is_none (job_mark job)) p.out.streams p.cap.streams (is_empty p.out.ready) (is_empty p.cap.ready) (is_run p.phase)

module _ (d : Inside) (c : Context) (view : decoder_state (pair_of d.m2m.formats) d.geometry d.m2m.pair d.m2m.events d.codec.state d.job ≡ c) where
  due_is : (is_none (job_mark d.job) && is_run d.m2m.pair.phase && is_job_due d.geometry d.m2m.pair) ≡ is_claimable (Some c)
  due_is =
      due_cases (pair_of d.m2m.formats) d.geometry d.m2m.pair d.m2m.events d.codec.state d.job ∙ ap (λ (x : Context). is_claimable (Some x)) view

  free_is : (b : Bool) (phase : Phase) → b ≡ (is_none (job_mark d.job) && is_run_alone phase) → phase ≡ phase_alone d.m2m.pair.phase → b ≡ (is_none (job_mark d.job) && is_run d.m2m.pair.phase)
  free_is b phase e ep =
      e ∙ ap (λ x. is_none (job_mark d.job) && x) (ap is_run_alone ep ∙ run_alone d.m2m.pair.phase)

  pub ready_then : (b due : Bool) (phase : Phase) → b ≡ (is_none (job_mark d.job) && is_run_alone phase) → phase ≡ phase_alone d.m2m.pair.phase → b ≡ true → due ≡ is_job_due d.geometry d.m2m.pair → due ≡ is_claimable (Some c)
  ready_then b due phase e ep t ed =
      let free : (is_none (job_mark d.job) && is_run d.m2m.pair.phase) ≡ true = sym (free_is b phase e ep) ∙ t in
      ed ∙ (sym (ap (λ x. x && is_job_due d.geometry d.m2m.pair) free) ∙ due_is)

  pub ready_else : (b : Bool) (phase : Phase) → b ≡ (is_none (job_mark d.job) && is_run_alone phase) → phase ≡ phase_alone d.m2m.pair.phase → b ≡ false → b ≡ is_claimable (Some c)
  ready_else b phase e ep f =
      let free : (is_none (job_mark d.job) && is_run d.m2m.pair.phase) ≡ false = sym (free_is b phase e ep) ∙ f in
      f ∙ (sym (ap (λ x. x && is_job_due d.geometry d.m2m.pair) free) ∙ due_is)
