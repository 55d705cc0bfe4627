-- A call that changes the queues and settles gives the definitions' answer: its refusal, or what it tells together
-- with the settled context. A settled context stays as it is when it settles again.
use Rattle.std.proofs.Common.{◌≡◌, Bool, true, false, Option, Some, None, Result, refl, sym, ap, ◌∙◌}
use Rattle.std.proofs.lemmas.Bool.{false≢true}
use Rattle.vc_base.specs.declared.Errno.{Errno}
use Rattle.vc_base.specs.declared.Reply.{Reply}
use Rattle.vc_base.specs.Events.{EventState}
use Rattle.vc_defs.specs.Encoder.{RunRates}
use Rattle.vc_model.specs.Formats.{FormatPair}
use Rattle.vc_model.specs.Context.{Context, settle}
use Rattle.vc_model.specs.Answer.{answered, unless, if_found}
use Rattle.vc_queue.specs.Answers.{answer_of, after_of}
use Rattle.vc_queue.specs.Growing.{with_memory}
use Rattle.vc_work.specs.References.{CodecReference}
use Rattle.vc_pair.specs.Pairs.{PairState, pair_settled, raises_end, IsSettled}
use Rattle.vc_pair.specs.Rows.{with_pair, ended_if, JobsAgree}
use Rattle.vc_pair.proofs.PairRowsAreContextRows.{same_settled}
use Rattle.vc_pair.proofs.SettlesOnce.{settled_alone, settled_quiet}
use Rattle.vc_context.specs.Contexts.{Gives, GivesWithMemory, told_of}
use Rattle.vc_enc.specs.declared.InJob.{InJob}
use Rattle.vc_m2m.specs.Settling.{end_raised, events_settled}
use Rattle.vc_enc.specs.Encoders.{encoder_state}

module _ (formats : FormatPair) (rates : RunRates) (reference : Option CodecReference) (job : Option InJob) where
  pub ended : (q s : PairState) (events : EventState) (b : Bool) → ended_if b (with_pair (encoder_state formats rates q events reference job) s) ≡ encoder_state formats rates s (end_raised b events) reference job
  ended q s events true = refl
  ended q s events false = refl

  -- the context after it has settled
  pub settled_is :
      (q : PairState) (events : EventState) → JobsAgree (encoder_state formats rates q events reference job)
      → settle (encoder_state formats rates q events reference job) ≡ encoder_state formats rates (pair_settled q) (events_settled q events) reference job
  settled_is q events agrees =
      same_settled (encoder_state formats rates q events reference job) agrees ∙ ended q (pair_settled q) events (raises_end q)

  -- a settled context stays as it is
  pub settled_same : (p : PairState) (events : EventState) → IsSettled p → encoder_state formats rates (pair_settled p) (events_settled p events) reference job ≡ encoder_state formats rates p events reference job
  settled_same p events s =
      ap (λ b. encoder_state formats rates (pair_settled p) (end_raised b events) reference job) (settled_quiet p s)
      ∙ ap (λ (x : PairState). encoder_state formats rates x events reference job) (settled_alone p s)

  -- the answer of a call that is refused, or leaves the pair q
  gives_cases :
      {A : Type 0} (tell : A → Reply) (value : A) (p q : PairState) (events : EventState) (o : Option Errno)
      → (o ≡ None → JobsAgree (encoder_state formats rates q events reference job)) → IsSettled p
      → let r : PairState = after_of o p q in
      Gives
      (unless (encoder_state formats rates p events reference job) o (answered (encoder_state formats rates q events reference job) (tell value)))
      (told_of tell (answer_of o value)) (encoder_state formats rates (pair_settled r) (events_settled r events) reference job)
  gives_cases tell value p q events (Some e) agrees s =
      record { reply = refl; context = ap Some (sym (settled_same p events s)) }
  gives_cases tell value p q events None agrees s =
      record { reply = refl; context = ap Some (settled_is q events (agrees refl)) }

  pub gives :
      {A : Type 0} (tell : A → Reply) (value : A) (p q new : PairState) (events : EventState) (o : Option Errno) (result : Result A Errno) (reply : Reply)
      → (o ≡ None → JobsAgree (encoder_state formats rates q events reference job)) → IsSettled p → result ≡ answer_of o value → new ≡ after_of o p q
      → reply ≡ told_of tell result
      → Gives
      (unless (encoder_state formats rates p events reference job) o (answered (encoder_state formats rates q events reference job) (tell value)))
      reply (encoder_state formats rates (pair_settled new) (events_settled new events) reference job)
  gives tell value p q new events o result reply agrees s er en et =
      rw (et, er, en) (gives_cases tell value p q events o agrees s)

  -- the same of a call that takes memory
  memory_cases :
      {A : Type 0} (tell : A → Reply) (value : A) (p q : PairState) (events : EventState) (o : Option Errno) (found : Bool)
      → (o ≡ None → JobsAgree (encoder_state formats rates q events reference job)) → IsSettled p
      → let c : Context = encoder_state formats rates p events reference job in
      let r : PairState = after_of (with_memory found o) p q in
      GivesWithMemory (λ f. unless c o (if_found c f (answered (encoder_state formats rates q events reference job) (tell value))))
      (told_of tell (answer_of (with_memory found o) value)) (encoder_state formats rates (pair_settled r) (events_settled r events) reference job)
  memory_cases tell value p q events (Some e) true agrees s =
      record { found = true; gives = record { reply = refl; context = ap Some (sym (settled_same p events s)) }; want = λ w. absurd (false≢true (sym w)) }
  memory_cases tell value p q events (Some e) false agrees s =
      record { found = true; gives = record { reply = refl; context = ap Some (sym (settled_same p events s)) }; want = λ w. absurd (false≢true (sym w)) }
  memory_cases tell value p q events None true agrees s =
      record { found = true; gives = record { reply = refl; context = ap Some (settled_is q events (agrees refl)) }; want = λ w. absurd (false≢true (sym w)) }
  memory_cases tell value p q events None false agrees s =
      record { found = false; gives = record { reply = refl; context = ap Some (sym (settled_same p events s)) }; want = λ w. refl }

  pub gives_memory :
      {A : Type 0} (tell : A → Reply) (value : A) (p q new : PairState) (events : EventState) (o : Option Errno) (found : Bool) (result : Result A Errno) (reply : Reply)
      → (o ≡ None → JobsAgree (encoder_state formats rates q events reference job)) → IsSettled p → result ≡ answer_of (with_memory found o) value
      → new ≡ after_of (with_memory found o) p q → reply ≡ told_of tell result
      → let c : Context = encoder_state formats rates p events reference job in
      GivesWithMemory (λ f. unless c o (if_found c f (answered (encoder_state formats rates q events reference job) (tell value)))) reply
      (encoder_state formats rates (pair_settled new) (events_settled new events) reference job)
  gives_memory tell value p q new events o found result reply agrees s er en et =
      rw (et, er, en) (memory_cases tell value p q events o found agrees s)
