-- SetFmt and SetCtrl leave the queues, which are settled already, so settling changes nothing more. A new format is
-- set where no queue has a buffer that is in its way, and then nothing ready can miss its size.
use Rattle.std.proofs.Common.{ℕ, ◌≡◌, ◌≤◌, Bool, true, false, Option, Some, None, Result, List, [], ◌∷◌, length, refl, sym, ap, ◌∙◌, subst, arith}
use Rattle.std.specs.Prelude.{is_some, nat_lt, unwrap_or}
use Rattle.std.proofs.lemmas.Bool.{false≢true, ltb-false, or_parts}
use Rattle.vc_base.specs.declared.Kind.TheVariants.{Enc}
use Rattle.vc_base.specs.declared.Side.{Side}
use Rattle.vc_base.specs.declared.Side.TheVariants.{Out, Cap}
use Rattle.vc_base.specs.declared.Errno.{Errno}
use Rattle.vc_base.specs.declared.Errno.TheVariants.{Busy}
use Rattle.vc_base.specs.declared.Format.{Format}
use Rattle.vc_base.specs.declared.Reply.{Reply}
use Rattle.vc_base.specs.declared.Reply.TheVariants.{Done, Fmt}
use Rattle.vc_base.specs.Buffers.{Buffer, QueueState, buffer_count, refuse_if}
use Rattle.vc_base.specs.Events.{EventState}
use Rattle.vc_defs.specs.Encoder.{RunRates, EncoderState, fresh_encoder}
use Rattle.vc_model.specs.Formats.{FormatPair, formats_for}
use Rattle.vc_model.specs.Coder.{encoder}
use Rattle.vc_model.specs.Context.{Context, settle, format_of}
use Rattle.vc_model.specs.Answer.{answered, unless, control_answer, with_control, set_answer, set_refusal, after_new_format}
use Rattle.vc_model.specs.Sound.{AreLong}
use Rattle.vc_queue.specs.Holds.{HoldState}
use Rattle.vc_geom.specs.Pairs.{CanStand}
use Rattle.vc_ctrl.specs.Answers.{set_answer as control_set}
use Rattle.vc_work.specs.References.{CodecReference}
use Rattle.vc_work.specs.Runs.{coder_state}
use Rattle.vc_pair.specs.Pairs.{PairState}
use Rattle.vc_context.specs.Contexts.{Gives, IsKept, IsStep, told_of}
use Rattle.vc_context.specs.Payloads.{FitsContext}
use Rattle.vc_enc.specs.declared.InJob.{InJob}
use Rattle.vc_enc.specs.Encoders.{encoder_state, AreWhole, IsEncoder, IsSupplied, KnowsItsJob}
use Rattle.vc_context.specs.Serving.{Serves}
use Rattle.vc_enc.proofs.KeptThroughCalls.{all_stays, agree_at, nothing_yet}
use Rattle.vc_enc.proofs.AnswersAfterSettling.{settled_is, settled_same}

-- settling changes nothing where the pair is settled
pub settle_same :
    (formats old : FormatPair) (rates : RunRates) (p : PairState) (events : EventState) (reference : Option CodecReference) (job : Option InJob)
    → IsEncoder old p reference job → settle (encoder_state formats rates p events reference job) ≡ encoder_state formats rates p events reference job
settle_same formats old rates p events reference job inv =
    settled_is formats rates reference job p events (agree_at old.out p p reference job (all_stays (is_some job) p) inv.known) ∙ settled_same formats rates reference job p events inv.settled

module _ (formats : FormatPair) (rates : RunRates) (p : PairState) (events : EventState) (reference : Option CodecReference) (job : Option InJob)
    (c : Context) (view : encoder_state formats rates p events reference job ≡ c) (inv : IsEncoder formats p reference job) where
  abbrev here : Context
  here = encoder_state formats rates p events reference job

  module _ (kept : IsKept c) where
    k : IsKept here
    k = subst IsKept (sym view) kept

    -- formats, rates and events may change
    pub quiet_step : (f : FormatPair) (r : RunRates) (e : EventState) → e.next_seq ≡ events.next_seq → IsStep c (encoder_state f r p e reference job)
    quiet_step f r e same =
        let step : IsStep here (encoder_state f r p e reference job) = record {
          kept = record { out_side = k.out_side; cap_side = k.cap_side; filled = k.filled; job_filled = k.job_filled; out_filled = k.out_filled; cap_filled = k.cap_filled; out_idle = k.out_idle; cap_idle = k.cap_idle };
          counted =
              λ bound n.
              record {
                out_queued = omega (arith, n.out_queued);
                cap_queued = omega (arith, n.cap_queued);
                out_done = omega (arith, n.out_done);
                cap_done = omega (arith, n.cap_done);
                raised = omega (arith, same, n.raised);
              };
        } in
        rw (← view) step

    quiet_holds : (f : FormatPair) (r : RunRates) (e : EventState) (hold : HoldState) → FitsContext c hold → FitsContext (encoder_state f r p e reference job) hold
    quiet_holds f r e hold h =
        let g : FitsContext here hold = subst (λ (x : Context). FitsContext x hold) (sym view) h in record { out = g.out; cap = g.cap }

    -- SetCtrl

    control_cases : (o : Option RunRates) → Gives (control_answer here o) (told_of (λ (_ : Unit {0}). Done) (control_set o)) (encoder_state formats (unwrap_or o rates) p events reference job)
    control_cases None = record { reply = refl; context = refl }
    control_cases (Some r) =
        record { reply = refl; context = ap Some (settle_same formats formats r p events reference job inv) }

    pub control_serves :
        (id value : ℕ) (new : RunRates) (result : Result (Unit {0}) Errno) (reply : Reply) → result ≡ control_set (with_control Enc rates id value)
        → new ≡ unwrap_or (with_control Enc rates id value) rates → reply ≡ told_of (λ _. Done) result
        → Serves (control_answer c (with_control c.kind c.rates id value)) reply c (encoder_state formats new p events reference job)
    control_serves id value new result reply er en et =
        record {
          gives = rw (et, er, en, ← view) (control_cases (with_control Enc rates id value));
          step = quiet_step formats new events refl;
          holds = quiet_holds formats new events;
        }

    -- SetFmt

    no_busy : (b : Bool) → is_some (refuse_if b Busy None) ≡ false → b ≡ false
    no_busy true e = absurd (false≢true (sym e))
    no_busy false e = refl

    none_of : (n : ℕ) → nat_lt 0 n ≡ false → n ≡ 0
    none_of n e = let z : n ≤ 0 = ltb-false 0 n e in omega arith

    none_ready : (q : QueueState) (bs : List Buffer) → q.ready ≡ bs → buffer_count q ≡ 0 → bs ≡ []
    none_ready q [] e z = refl
    none_ready q (b ∷ bs) e z = absurd (omega (arith, z, ap length e))

    none_supplied : (format other : Format) (n : ℕ) (r : Option CodecReference) → n ≡ 0 → IsSupplied format n r → IsSupplied other n r
    none_supplied format other n None z s = s
    none_supplied format other n (Some x) z s = absurd (omega (arith, z, s.0))

    none_known : (format other : Format) (j : Option InJob) → j ≡ None → buffer_count p.out ≡ 0 → KnowsItsJob format p reference j → KnowsItsJob other p reference j
    none_known format other None e z k = (k.0, k.1, none_supplied format other (buffer_count p.out) reference z k.2)
    none_known format other (Some j) e z k = cc

    set_known : (side : Side) (f : FormatPair) (want : Format) → CanStand Enc f → f ≡ formats_for Enc side formats want → is_some (set_refusal here side) ≡ false → IsEncoder f p reference job
    set_known Cap f want stands e free = rw e inv
    set_known Out f want stands e free =
        let b = or_parts (nat_lt 0 (buffer_count p.out)) (nat_lt 0 (buffer_count p.cap)) (no_busy _ free) in
        let z : buffer_count p.out ≡ 0 = none_of (buffer_count p.out) b.0 in
        let y : buffer_count p.cap ≡ 0 = none_of (buffer_count p.cap) b.1 in
        record {
          stands = stands;
          settled = inv.settled;
          whole = subst (AreWhole f.out.size) (sym (none_ready p.out p.out.ready refl z)) refl;
          long = subst (AreLong f.cap.size) (sym (none_ready p.cap p.cap.ready refl y)) refl;
          known = none_known formats.out f.out job (nothing_yet formats.out p reference job inv.known z).0 z inv.known;
        }

    pub set_kept : (side : Side) (f : FormatPair) (want : Format) → CanStand Enc f → f ≡ formats_for Enc side formats want → is_some (set_refusal c side) ≡ false → IsEncoder f p reference job
    set_kept side f want stands e free =
        set_known side f want stands e (subst (λ (x : Context). is_some (set_refusal x side) ≡ false) (sym view) free)

    fresh_here : (f : FormatPair) (j : Option InJob) → j ≡ None → coder_state reference ≡ fresh_encoder → after_new_format Enc Out (encoder_state f rates p events reference j) ≡ encoder_state f rates p events reference j
    fresh_here f None e s =
        ap (λ (x : EncoderState). record (encoder_state f rates p events reference None) { codec = encoder x }) (sym s)
    fresh_here f (Some j) e s = cc

    same_codec : (side : Side) (f : FormatPair) → is_some (set_refusal here side) ≡ false → after_new_format Enc side (encoder_state f rates p events reference job) ≡ encoder_state f rates p events reference job
    same_codec Cap f free = refl
    same_codec Out f free =
        let b = or_parts (nat_lt 0 (buffer_count p.out)) (nat_lt 0 (buffer_count p.cap)) (no_busy _ free) in
        let n = nothing_yet formats.out p reference job inv.known (none_of (buffer_count p.out) b.0) in
        fresh_here f job n.0 n.1

    set_cases :
        (side : Side) (f : FormatPair) (o : Option Errno) → is_some o ≡ false → is_some (set_refusal here side) ≡ false
        → Gives (unless here o (answered (after_new_format Enc side (encoder_state f rates p events reference job)) (Fmt (format_of f side))))
        (Fmt (format_of f side)) (encoder_state f rates p events reference job)
    set_cases side f (Some e) n free = absurd (false≢true (sym n))
    set_cases side f None n free =
        record { reply = refl; context = ap Some (ap settle (same_codec side f free) ∙ settle_same f formats rates p events reference job inv) }

    set_at :
        (side : Side) (f : FormatPair) (want : Format) → f ≡ formats_for Enc side formats want → is_some (set_refusal here side) ≡ false
        → Gives (set_answer here side want) (Fmt (format_of f side)) (encoder_state f rates p events reference job)
    set_at side f want e free =
        subst (λ (g : FormatPair).
        Gives
        (unless here (set_refusal here side) (answered (after_new_format Enc side (encoder_state g rates p events reference job)) (Fmt (format_of g side))))
        (Fmt (format_of f side)) (encoder_state f rates p events reference job))
        e (set_cases side f (set_refusal here side) free free)

    pub set_serves :
        (side : Side) (f : FormatPair) (want told : Format) → f ≡ formats_for Enc side formats want → is_some (set_refusal c side) ≡ false
        → told ≡ format_of f side → Serves (set_answer c side want) (Fmt told) c (encoder_state f rates p events reference job)
    set_serves side f want told e free et =
        record {
          gives = rw (et, ← view) (set_at side f want e (subst (λ (x : Context). is_some (set_refusal x side) ≡ false) (sym view) free));
          step = quiet_step f rates events refl;
          holds = quiet_holds f rates events;
        }
