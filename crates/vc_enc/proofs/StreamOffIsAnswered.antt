-- StreamOff of an encoder, while no job runs, gives the buffers of the queue back to the user. Where CAPTURE streamed
-- the codec begins anew, which the reference does in place.
use Rattle.std.proofs.Common.{ℕ, ◌≡◌, ◌<◌, ◌^◌, ◌++◌, Bool, true, false, cond, Option, Some, None, refl, sym, ap, ◌∙◌, subst, arith}
use Rattle.std.specs.Prelude.{is_some}
use Rattle.std.proofs.lemmas.Bool.{false≢true}
use Rattle.vc_base.specs.declared.Side.{Side}
use Rattle.vc_base.specs.declared.Side.TheVariants.{Out, Cap}
use Rattle.vc_base.specs.declared.Format.{Format}
use Rattle.vc_base.specs.declared.Call.TheVariants.{StreamOff}
use Rattle.vc_base.specs.declared.Reply.TheVariants.{Done}
use Rattle.vc_base.specs.Buffers.{streamoff_after}
use Rattle.vc_base.specs.Events.{EventState}
use Rattle.vc_defs.specs.Encoder.{RunRates, EncoderState, fresh_encoder}
use Rattle.vc_model.specs.Formats.{FormatPair}
use Rattle.vc_model.specs.Coder.{encoder, reset}
use Rattle.vc_model.specs.Context.{Context, settle, run}
use Rattle.vc_model.specs.Answer.{streamoff_answer, streamoff_effect, mark_after_restart}
use Rattle.vc_queue.specs.Holds.{HoldState}
use Rattle.vc_queue.specs.Releasing.{AllGoToUser}
use Rattle.vc_work.specs.References.{CodecReference}
use Rattle.vc_work.specs.Runs.{coder_state}
use Rattle.vc_pair.specs.Pairs.{PairState, queue_at, pair_settled, pair_off, IsIdle}
use Rattle.vc_pair.specs.Rows.{JobsAgree}
use Rattle.vc_context.specs.Contexts.{Gives, IsKept, IsStep}
use Rattle.vc_context.specs.Payloads.{Moves}
use Rattle.vc_enc.specs.declared.InJob.{InJob}
use Rattle.vc_m2m.specs.Settling.{events_settled}
use Rattle.vc_enc.specs.Encoders.{encoder_state, IsEncoder, IsSupplied, KnowsItsJob, ends_capture, anew_where}
use Rattle.vc_enc.proofs.KeptThroughCalls.{IsEffect, keeps, agrees, steps}
use Rattle.vc_enc.proofs.EffectsOnQueues.{off_out_effect, off_cap_effect}
use Rattle.vc_enc.proofs.AnswersAfterSettling.{settled_is}

-- the codec that begins anew has a reference as before, without a picture
anew_supplied : (format : Format) (due : Bool) (reference : Option CodecReference) (n : ℕ) → IsSupplied format n reference → IsSupplied format n (anew_where due reference)
anew_supplied format true None n s = s
anew_supplied format true (Some r) n s = (s.0, (s.1.0, tt))
anew_supplied format false reference n s = s

pub anew_state : (reference : Option CodecReference) → coder_state (anew_where true reference) ≡ fresh_encoder
anew_state None = refl
anew_state (Some r) = refl

idle_here : (format : Format) (p : PairState) (reference : Option CodecReference) (job : Option InJob) → KnowsItsJob format p reference job → job ≡ None → IsIdle p
idle_here format p reference None k e = (k.0, k.1)
idle_here format p reference (Some job) k e = cc

no_job : {A : Type 0} (o : Option A) → is_some o ≡ false → o ≡ None
no_job None e = refl
no_job (Some x) e = absurd (false≢true (sym e))

module _ (formats : FormatPair) (rates : RunRates) (p : PairState) (events : EventState) (reference : Option CodecReference) (job : Option InJob)
    (c : Context) (view : encoder_state formats rates p events reference job ≡ c) (inv : IsEncoder formats p reference job) (kept : IsKept c)
    (free : is_some job ≡ false) where
  none : job ≡ None
  none = no_job job free

  pub off_idle : IsIdle p
  off_idle = idle_here formats.out p reference job inv.known none

  k : IsKept (encoder_state formats rates p events reference job)
  k = subst IsKept (sym view) kept

  off_effect : (side : Side) → IsEffect formats (anew_where (ends_capture side p) reference) job p (pair_off p side)
  off_effect Out = off_out_effect formats p reference job inv k.filled none
  off_effect Cap =
      off_cap_effect formats p reference job inv k.filled (anew_where p.cap.streams reference) none (anew_supplied formats.out p.cap.streams reference)

  pub off_kept : (side : Side) (new : PairState) → new ≡ pair_off p side → IsEncoder formats (pair_settled new) (anew_where (ends_capture side p) reference) job
  off_kept side new e =
      rw e (keeps formats rates p (pair_off p side) events reference (anew_where (ends_capture side p) reference) job inv (off_effect side))

  pub off_step : (side : Side) (new : PairState) → new ≡ pair_off p side → IsStep c (encoder_state formats rates (pair_settled new) (events_settled new events) (anew_where (ends_capture side p) reference) job)
  off_step side new e =
      rw (e, ← view) (steps formats rates p (pair_off p side) events reference (anew_where (ends_capture side p) reference) job inv (off_effect side) k)

  pub off_room : (side : Side) (new : PairState) → new ≡ pair_off p side → c.cap.next_seq < 2 ^ 62 → new.cap.next_seq < 2 ^ 62
  off_room side new e room =
      let g : IsEffect formats (anew_where (ends_capture side p) reference) job p (pair_off p side) = off_effect side in
      let here : p.cap.next_seq < 2 ^ 62 = subst (λ (x : Context). x.cap.next_seq < 2 ^ 62) (sym view) room in
      rw e (omega (arith, g.goes.cap.retired))

  effect_is : (side : Side) → streamoff_effect (encoder_state formats rates p events reference None) side ≡ encoder_state formats rates (pair_off p side) events (anew_where (ends_capture side p) reference) None
  effect_is Out = refl
  effect_is Cap = by p.cap.streams
    where
      by :
          (b : Bool)
          → cond b
          (record (encoder_state formats rates p events reference None)
          { cap = streamoff_after p.cap; mark = mark_after_restart p.phase p.mark; phase = run; codec = reset (encoder (coder_state reference)) })
          (record (encoder_state formats rates p events reference None) { cap = streamoff_after p.cap })
          ≡ encoder_state formats rates
          (cond b (record p { cap = streamoff_after p.cap; mark = mark_after_restart p.phase p.mark; phase = run }) (record p { cap = streamoff_after p.cap }))
          events (anew_where b reference) None
      by true =
          ap (λ (state : EncoderState). record (encoder_state formats rates p events reference None) { cap = streamoff_after p.cap; mark = mark_after_restart p.phase p.mark; phase = run; codec = encoder state }) (sym (anew_state reference))
      by false = refl

  gives_at :
      (j : Option InJob) (side : Side) → j ≡ None
      → let new : PairState = pair_off p side in
      let r : Option CodecReference = anew_where (ends_capture side p) reference in
      JobsAgree (encoder_state formats rates new events r j)
      → Gives (streamoff_answer (encoder_state formats rates p events reference j) side) Done (encoder_state formats rates (pair_settled new) (events_settled new events) r j)
  gives_at None side e agree =
      record { reply = refl; context = ap Some (ap settle (effect_is side) ∙ settled_is formats rates (anew_where (ends_capture side p) reference) None (pair_off p side) events agree) }
  gives_at (Some x) side e agree = cc

  pub off_gives : (side : Side) (new : PairState) → new ≡ pair_off p side → Gives (streamoff_answer c side) Done (encoder_state formats rates (pair_settled new) (events_settled new events) (anew_where (ends_capture side p) reference) job)
  off_gives side new e =
      rw (e, ← view) (gives_at job side none (agrees formats rates p (pair_off p side) events reference (anew_where (ends_capture side p) reference) job inv (off_effect side)))

  pub off_moves : (side : Side) (old new : HoldState) → AllGoToUser side ((queue_at p side).ready ++ (queue_at p side).done) old new → Moves (Some c) (StreamOff side) Done old new
  off_moves Out old new h = rw (← view) h
  off_moves Cap old new h = rw (← view) h
