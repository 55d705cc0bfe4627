-- A call is refused and changes nothing, or does something to the queues, and then they settle. Either way the
-- encoder goes on keeping what every encoder keeps, counts up by one at most, and CAPTURE can count on.
use Rattle.std.proofs.Common.{◌≡◌, ◌<◌, ◌^◌, Option, Some, None, refl, sym, subst, arith}
use Rattle.vc_base.specs.declared.Side.{Side}
use Rattle.vc_base.specs.declared.Side.TheVariants.{Out, Cap}
use Rattle.vc_base.specs.declared.Errno.{Errno}
use Rattle.vc_base.specs.Buffers.{QueueState}
use Rattle.vc_base.specs.Events.{EventState}
use Rattle.vc_defs.specs.Encoder.{RunRates}
use Rattle.vc_model.specs.Formats.{FormatPair}
use Rattle.vc_model.specs.Context.{Context}
use Rattle.vc_queue.specs.Answers.{after_of}
use Rattle.vc_queue.specs.Holds.{HoldState}
use Rattle.vc_work.specs.References.{CodecReference}
use Rattle.vc_pair.specs.Pairs.{PairState, queue_at, with_queue_at, pair_settled, FitsBoth}
use Rattle.vc_context.specs.Contexts.{IsKept, IsStep}
use Rattle.vc_context.specs.Payloads.{FitsContext}
use Rattle.vc_enc.specs.declared.InJob.{InJob}
use Rattle.vc_m2m.specs.Settling.{events_settled}
use Rattle.vc_enc.specs.Encoders.{encoder_state, IsEncoder}
use Rattle.vc_enc.proofs.KeptThroughCalls.{IsEffect, effect_after, keeps, steps}

-- a queue that is refused, inside its pair
pub after_inside : (p : PairState) (side : Side) (o : Option Errno) (r : QueueState) → with_queue_at p side (after_of o (queue_at p side) r) ≡ after_of o p (with_queue_at p side r)
after_inside p Out (Some e) r = refl
after_inside p Out None r = refl
after_inside p Cap (Some e) r = refl
after_inside p Cap None r = refl

-- the payloads fit both queues, or the context
pub to_context :
    (formats : FormatPair) (rates : RunRates) (p : PairState) (events : EventState) (reference : Option CodecReference) (job : Option InJob) (hold : HoldState)
    → FitsBoth p hold → FitsContext (encoder_state formats rates p events reference job) hold
to_context formats rates p events reference job hold f = record { out = f.0; cap = f.1 }

pub to_pair :
    (formats : FormatPair) (rates : RunRates) (p : PairState) (events : EventState) (reference : Option CodecReference) (job : Option InJob) (c : Context) (hold : HoldState)
    → encoder_state formats rates p events reference job ≡ c → FitsContext c hold → FitsBoth p hold
to_pair formats rates p events reference job c hold view f =
    let g : FitsContext (encoder_state formats rates p events reference job) hold = subst (λ (x : Context). FitsContext x hold) (sym view) f in
    (g.out, g.cap)

module _ (formats : FormatPair) (rates : RunRates) (p : PairState) (events : EventState) (reference : Option CodecReference) (job : Option InJob)
    (c : Context) (view : encoder_state formats rates p events reference job ≡ c) (inv : IsEncoder formats p reference job) (kept : IsKept c) where
  k : IsKept (encoder_state formats rates p events reference job)
  k = subst IsKept (sym view) kept

  -- what the context keeps after a call that is refused or has this effect
  pub kept_after : (o : Option Errno) (q new : PairState) → (o ≡ None → IsEffect formats reference job p q) → new ≡ after_of o p q → IsEncoder formats (pair_settled new) reference job
  kept_after o q new h e =
      rw e (keeps formats rates p (after_of o p q) events reference reference job inv (effect_after formats p q reference job o inv k.filled h))

  pub step_after : (o : Option Errno) (q new : PairState) → (o ≡ None → IsEffect formats reference job p q) → new ≡ after_of o p q → IsStep c (encoder_state formats rates (pair_settled new) (events_settled new events) reference job)
  step_after o q new h e =
      rw (e, ← view) (steps formats rates p (after_of o p q) events reference reference job inv (effect_after formats p q reference job o inv k.filled h) k)

  -- CAPTURE can count on
  pub room_after : (o : Option Errno) (q new : PairState) → (o ≡ None → IsEffect formats reference job p q) → new ≡ after_of o p q → c.cap.next_seq < 2 ^ 62 → new.cap.next_seq < 2 ^ 62
  room_after o q new h e room =
      let g : IsEffect formats reference job p (after_of o p q) = effect_after formats p q reference job o inv k.filled h in
      let here : p.cap.next_seq < 2 ^ 62 = subst (λ (x : Context). x.cap.next_seq < 2 ^ 62) (sym view) room in
      rw e (omega (arith, g.goes.cap.retired))
