-- ReqBufs and CreateBufs of an encoder answer as the definitions do, with memory or without it. The reference is
-- taken before the queue changes, so that a refusal leaves the context as it was.
use Rattle.std.proofs.Common.{ℕ, ◌≡◌, ◌<◌, ◌^◌, Bool, true, false, cond, Option, Some, None, Result, Ok, Err, nat_lt, refl, sym, ap, ◌∙◌, subst, arith}
use Rattle.std.specs.Prelude.{min, OnErr}
use Rattle.std.proofs.lemmas.Bool.{false≢true}
use Rattle.vc_base.specs.declared.Kind.TheVariants.{Enc}
use Rattle.vc_base.specs.declared.Side.{Side}
use Rattle.vc_base.specs.declared.Side.TheVariants.{Out, Cap}
use Rattle.vc_base.specs.declared.Errno.{Errno}
use Rattle.vc_base.specs.declared.Errno.TheVariants.{Busy, NoMem}
use Rattle.vc_base.specs.declared.Call.TheVariants.{CreateBufs}
use Rattle.vc_base.specs.declared.Reply.{Reply}
use Rattle.vc_base.specs.declared.Reply.TheVariants.{Refused, Count, Created}
use Rattle.vc_base.specs.Buffers.{QueueState, refuse_if, reqbufs_refusal, reqbufs_after, create_refusal, create_after, created, buffer_count}
use Rattle.vc_base.specs.Events.{EventState}
use Rattle.vc_defs.specs.Encoder.{RunRates, EncoderState, fresh_encoder}
use Rattle.vc_model.specs.Formats.{FormatPair}
use Rattle.vc_model.specs.Coder.{encoder}
use Rattle.vc_model.specs.Context.{Context, settle}
use Rattle.vc_model.specs.Answer.{Answer, answered, unless, if_found, reqbufs_answer, create_answer, after_new_buffers}
use Rattle.vc_queue.specs.Answers.{answer_of, after_of}
use Rattle.vc_queue.specs.Growing.{with_memory, AnswersWithMemory, KeepsFirst}
use Rattle.vc_queue.specs.Holds.{HoldState}
use Rattle.vc_work.specs.References.{CodecReference}
use Rattle.vc_work.specs.Runs.{coder_state}
use Rattle.vc_pair.specs.Pairs.{PairState, queue_at, with_queue_at, pair_settled}
use Rattle.vc_context.specs.Contexts.{Gives, GivesWithMemory, IsKept, IsStep, told_of}
use Rattle.vc_context.specs.Payloads.{Moves}
use Rattle.vc_enc.specs.declared.InJob.{InJob}
use Rattle.vc_m2m.specs.Settling.{events_settled}
use Rattle.vc_enc.specs.Encoders.{encoder_state, IsEncoder, new_reference, HasSources}
use Rattle.vc_enc.proofs.KeptThroughCalls.{IsEffect, nothing_yet, keeps, agrees, steps}
use Rattle.vc_enc.proofs.EffectsOnQueues.{dests_effect, sources_effect, more_effect, first_effect, no_job}
use Rattle.vc_enc.proofs.AnswersAfterSettling.{gives_memory, settled_is}
use Rattle.vc_enc.proofs.CallsSettle.{after_inside, kept_after, step_after, room_after}

-- a queue that streams is not emptied
not_streaming : (found s : Bool) → with_memory found (refuse_if s Busy None) ≡ None → s ≡ false
not_streaming true true e = cc
not_streaming true false e = refl
not_streaming false true e = cc
not_streaming false false e = cc

-- where the call was not refused it found memory, and nothing else refused it
pub record Granted (o : Option Errno) (found : Bool) : Type 0 where
  pub memory : found ≡ true
  pub free : o ≡ None

granted : {A : Type 0} (o : Option Errno) (found : Bool) (value x : A) → answer_of (with_memory found o) value ≡ Ok x → Granted o found
granted (Some e) true value x h = cc
granted (Some e) false value x h = cc
granted None true value x h = record { memory = refl; free = refl }
granted None false value x h = cc

given : {A : Type 0} (value x : A) → ◌≡◌ {A = Result A Errno} (Ok value) (Ok x) → value ≡ x
given value x h = cc

ok_value : {A : Type 0} (o : Option Errno) (found : Bool) (value x : A) → answer_of (with_memory found o) value ≡ Ok x → value ≡ x
ok_value (Some e) true value x h = cc
ok_value (Some e) false value x h = cc
ok_value None true value x h = given value x h
ok_value None false value x h = cc

new_state : (count size : ℕ) (b : Bool) → coder_state (cond b (Some (record { size = size; state = fresh_encoder })) None) ≡ fresh_encoder
new_state count size true = refl
new_state count size false = refl

module _ (formats : FormatPair) (rates : RunRates) (p : PairState) (events : EventState) (reference : Option CodecReference) (job : Option InJob)
    (c : Context) (view : encoder_state formats rates p events reference job ≡ c) (inv : IsEncoder formats p reference job) (kept : IsKept c) where
  abbrev here : Context
  here = encoder_state formats rates p events reference job

  abbrev state : PairState → Option CodecReference → Context
  state q r = encoder_state formats rates (pair_settled q) (events_settled q events) r job

  k : IsKept here
  k = subst IsKept (sym view) kept

  -- CAPTURE

  dest_effect : (count : ℕ) (found : Bool) → with_memory found (reqbufs_refusal p.cap) ≡ None → IsEffect formats reference job p (record p { cap = reqbufs_after p.cap count formats.cap.size })
  dest_effect count found e =
      dests_effect formats p reference job inv k.filled count formats.cap.size (not_streaming found p.cap.streams e)

  module _ (count : ℕ) (new : PairState) (result : Result ℕ Errno)
      (a : AnswersWithMemory (reqbufs_refusal p.cap) (min count 32) (reqbufs_after p.cap count formats.cap.size) result p.cap new.cap)
      (rest : new ≡ record p { cap = new.cap }) where
    dests_new : new ≡ after_of (with_memory a.found (reqbufs_refusal p.cap)) p (record p { cap = reqbufs_after p.cap count formats.cap.size })
    dests_new =
        rest ∙ (ap (λ (q : QueueState). record p { cap = q }) a.state ∙ after_inside p Cap (with_memory a.found (reqbufs_refusal p.cap)) (reqbufs_after p.cap count formats.cap.size))

    pub dests_kept : IsEncoder formats (pair_settled new) reference job
    dests_kept =
        kept_after formats rates p events reference job c view inv kept _ _ new (dest_effect count a.found) dests_new

    pub dests_step : IsStep c (state new reference)
    dests_step =
        step_after formats rates p events reference job c view inv kept _ _ new (dest_effect count a.found) dests_new

    pub dests_room : c.cap.next_seq < 2 ^ 62 → new.cap.next_seq < 2 ^ 62
    dests_room =
        room_after formats rates p events reference job c view inv kept _ _ new (dest_effect count a.found) dests_new

    pub dests_gives : (reply : Reply) → reply ≡ told_of Count result → GivesWithMemory (reqbufs_answer c Cap count) reply (state new reference)
    dests_gives reply et =
        rw (← view)
        (gives_memory formats rates reference job Count (min count 32) p (record p { cap = reqbufs_after p.cap count formats.cap.size }) new events
        (reqbufs_refusal p.cap) a.found result reply (λ e. agrees formats rates p _ events reference reference job inv (dest_effect count true e))
        inv.settled a.answer dests_new et)

  -- OUTPUT

  module _ (count got : ℕ) (new : PairState)
      (a : AnswersWithMemory (reqbufs_refusal p.out) (min count 32) (reqbufs_after p.out count formats.out.size) (Ok got) p.out new.out)
      (rest : new ≡ record p { out = new.out }) (r : Option CodecReference) (er : r ≡ new_reference count formats.out.size) where
    sources_granted : Granted (reqbufs_refusal p.out) a.found
    sources_granted = granted (reqbufs_refusal p.out) a.found (min count 32) got (sym a.answer)

    sources_off : p.out.streams ≡ false
    sources_off = not_streaming true p.out.streams sources_granted.free

    abbrev sources : PairState
    sources = record p { out = reqbufs_after p.out count formats.out.size }

    sources_new : new ≡ sources
    sources_new =
        rest
        ∙ ap (λ (q : QueueState). record p { out = q })
        (a.state
        ∙ (ap (λ (o : Option Errno). after_of (with_memory a.found o) p.out (reqbufs_after p.out count formats.out.size)) sources_granted.free
        ∙ ap (λ (f : Bool). after_of (with_memory f None) p.out (reqbufs_after p.out count formats.out.size)) sources_granted.memory))

    source_effect : IsEffect formats (new_reference count formats.out.size) job p sources
    source_effect = sources_effect formats p reference job inv k.filled count sources_off

    pub sources_kept : IsEncoder formats (pair_settled new) r job
    sources_kept =
        rw (er, sources_new) (keeps formats rates p sources events reference (new_reference count formats.out.size) job inv source_effect)

    pub sources_step : IsStep c (state new r)
    sources_step =
        rw (er, sources_new, ← view) (steps formats rates p sources events reference (new_reference count formats.out.size) job inv source_effect k)

    pub sources_room : c.cap.next_seq < 2 ^ 62 → new.cap.next_seq < 2 ^ 62
    sources_room room =
        let here_room : p.cap.next_seq < 2 ^ 62 = subst (λ (x : Context). x.cap.next_seq < 2 ^ 62) (sym view) room in
        rw sources_new here_room

    sources_codec : (j : Option InJob) → j ≡ None → after_new_buffers Enc Out (encoder_state formats rates sources events reference j) ≡ encoder_state formats rates sources events (new_reference count formats.out.size) j
    sources_codec None e =
        ap (λ (x : EncoderState). record (encoder_state formats rates sources events reference None) { codec = encoder x }) (sym (new_state count formats.out.size (nat_lt 0 count)))
    sources_codec (Some x) e = cc

    sources_answer :
        (s : Bool) → p.out.streams ≡ s → s ≡ false
        → Gives
        (unless here (refuse_if s Busy None) (answered (after_new_buffers Enc Out (encoder_state formats rates sources events reference job)) (Count (min count 32))))
        (Count got) (state sources (new_reference count formats.out.size))
    sources_answer true e f = absurd (false≢true (sym f))
    sources_answer false e f =
        record {
          reply = ap Count (ok_value (reqbufs_refusal p.out) a.found (min count 32) got (sym a.answer));
          context =
              ap Some
              (ap settle (sources_codec job (no_job formats p reference job inv k.filled sources_off))
              ∙ settled_is formats rates (new_reference count formats.out.size) job sources events
              (agrees formats rates p sources events reference (new_reference count formats.out.size) job inv source_effect));
        }

    pub sources_gives : GivesWithMemory (reqbufs_answer c Out count) (Count got) (state new r)
    sources_gives =
        rw (er, sources_new, ← view) (record { found = true; gives = sources_answer p.out.streams refl sources_off; want = λ w. absurd (false≢true (sym w)) })

  -- CreateBufs on OUTPUT without buffers

  module _ (count size got_index got : ℕ) (new : PairState) (none : buffer_count p.out ≡ 0)
      (a : AnswersWithMemory {A = ℕ × ℕ} (create_refusal p.out count size) (buffer_count p.out, created p.out count) (create_after p.out count size) (Ok (got_index, got)) p.out new.out)
      (rest : new ≡ record p { out = new.out }) (r : Option CodecReference) (er : r ≡ new_reference count formats.out.size) where
    first_granted : Granted (create_refusal p.out count size) a.found
    first_granted =
        granted (create_refusal p.out count size) a.found (buffer_count p.out, created p.out count) (got_index, got) (sym a.answer)

    abbrev first : PairState
    first = record p { out = create_after p.out count size }

    first_new : new ≡ first
    first_new =
        rest
        ∙ ap (λ (q : QueueState). record p { out = q })
        (a.state
        ∙ (ap (λ (o : Option Errno). after_of (with_memory a.found o) p.out (create_after p.out count size)) first_granted.free
        ∙ ap (λ (f : Bool). after_of (with_memory f None) p.out (create_after p.out count size)) first_granted.memory))

    firsts_effect : IsEffect formats (new_reference count formats.out.size) job p first
    firsts_effect = first_effect formats p reference job inv k.filled count size none

    pub first_kept : IsEncoder formats (pair_settled new) r job
    first_kept =
        rw (er, first_new) (keeps formats rates p first events reference (new_reference count formats.out.size) job inv firsts_effect)

    pub first_step : IsStep c (state new r)
    first_step =
        rw (er, first_new, ← view) (steps formats rates p first events reference (new_reference count formats.out.size) job inv firsts_effect k)

    pub first_room : c.cap.next_seq < 2 ^ 62 → new.cap.next_seq < 2 ^ 62
    first_room room =
        let here_room : p.cap.next_seq < 2 ^ 62 = subst (λ (x : Context). x.cap.next_seq < 2 ^ 62) (sym view) room in
        rw first_new here_room

    first_codec : (j : Option InJob) → j ≡ None → coder_state reference ≡ fresh_encoder → encoder_state formats rates first events reference j ≡ encoder_state formats rates first events (new_reference count formats.out.size) j
    first_codec None e f =
        ap (λ (x : EncoderState). record (encoder_state formats rates first events reference None) { codec = encoder x }) (f ∙ sym (new_state count formats.out.size (nat_lt 0 count)))
    first_codec (Some x) e f = cc

    first_answer :
        (o : Option Errno) → o ≡ None
        → Gives
        (unless here o (answered (encoder_state formats rates first events reference job) (Created (buffer_count p.out) (created p.out count))))
        (Created got_index got) (state first (new_reference count formats.out.size))
    first_answer (Some e) f = cc
    first_answer None f =
        let b = nothing_yet formats.out p reference job inv.known none in
        record {
          reply = ap (λ (x : ℕ × ℕ). Created x.0 x.1) (ok_value (create_refusal p.out count size) a.found (buffer_count p.out, created p.out count) (got_index, got) (sym a.answer));
          context =
              ap Some
              (ap settle (first_codec job b.0 b.1)
              ∙ settled_is formats rates (new_reference count formats.out.size) job first events
              (agrees formats rates p first events reference (new_reference count formats.out.size) job inv firsts_effect));
        }

    pub first_gives : GivesWithMemory (create_answer c Out count size) (Created got_index got) (state new r)
    first_gives =
        rw (er, first_new, ← view) (record { found = true; gives = first_answer (create_refusal p.out count size) first_granted.free; want = λ w. absurd (false≢true (sym w)) })

  -- a refusal of CreateBufs on OUTPUT

  module _ (count size : ℕ) (errno : Errno) (new : PairState)
      (a : AnswersWithMemory {A = ℕ × ℕ} (create_refusal p.out count size) (buffer_count p.out, created p.out count) (create_after p.out count size) (Err errno) p.out new.out)
      (rest : new ≡ record p { out = new.out }) where
    refused_new :
        (o : Option Errno) (found : Bool)
        → ◌≡◌ {A = Result (ℕ × ℕ) Errno} (Err errno) (answer_of (with_memory found o) (buffer_count p.out, created p.out count))
        → new.out ≡ after_of (with_memory found o) p.out (create_after p.out count size) → new ≡ p
    refused_new (Some e) true h s = rest ∙ ap (λ (q : QueueState). record p { out = q }) s
    refused_new (Some e) false h s = rest ∙ ap (λ (q : QueueState). record p { out = q }) s
    refused_new None true h s = cc
    refused_new None false h s = rest ∙ ap (λ (q : QueueState). record p { out = q }) s

    same : new ≡ p
    same = refused_new (create_refusal p.out count size) a.found a.answer a.state

    refused_answer :
        (o : Option Errno) (found : Bool) (effect : Answer)
        → ◌≡◌ {A = Result (ℕ × ℕ) Errno} (Err errno) (answer_of (with_memory found o) (buffer_count p.out, created p.out count))
        → GivesWithMemory (λ f. unless here o (if_found here f effect)) (Refused errno) here
    refused_answer (Some e) true effect h =
        let is : errno ≡ e = cc in record { found = true; gives = record { reply = ap Refused (sym is); context = refl }; want = λ w. absurd (false≢true (sym w)) }
    refused_answer (Some e) false effect h =
        let is : errno ≡ e = cc in record { found = true; gives = record { reply = ap Refused (sym is); context = refl }; want = λ w. absurd (false≢true (sym w)) }
    refused_answer None true effect h = cc
    refused_answer None false effect h =
        let is : errno ≡ NoMem = cc in record { found = false; gives = record { reply = ap Refused (sym is); context = refl }; want = λ w. ap Refused is }

    pub refused_gives : GivesWithMemory (create_answer c Out count size) (Refused errno) (encoder_state formats rates new events reference job)
    refused_gives =
        rw (same, ← view) (refused_answer (create_refusal p.out count size) a.found _ a.answer)

    pub refused_step : IsStep c (encoder_state formats rates new events reference job)
    refused_step =
        let step : IsStep here here = record {
          kept = k;
          counted = λ bound n. record { out_queued = omega (arith, n.out_queued); cap_queued = omega (arith, n.cap_queued); out_done = omega (arith, n.out_done); cap_done = omega (arith, n.cap_done); raised = omega (arith, n.raised) };
        } in
        rw (same, ← view) step

  -- CreateBufs on CAPTURE, or on OUTPUT with buffers

  more_some : (side : Side) → HasSources side here → side ≡ Out → 0 < buffer_count p.out
  more_some Out h e = h
  more_some Cap h e = cc

  module _ (side : Side) (count size : ℕ) (has : HasSources side c) (new : PairState) (result : Result (ℕ × ℕ) Errno)
      (a :
      AnswersWithMemory (create_refusal (queue_at p side) count size) (buffer_count (queue_at p side), created (queue_at p side) count)
      (create_after (queue_at p side) count size) result (queue_at p side) (queue_at new side))
      (rest : new ≡ with_queue_at p side (queue_at new side)) where
    abbrev more : PairState
    more = with_queue_at p side (create_after (queue_at p side) count size)

    mores_effect : IsEffect formats reference job p more
    mores_effect =
        more_effect formats p reference job inv k.filled side count size (more_some side (subst (HasSources side) (sym view) has))

    more_new : new ≡ after_of (with_memory a.found (create_refusal (queue_at p side) count size)) p more
    more_new =
        rest ∙ (ap (with_queue_at p side) a.state ∙ after_inside p side (with_memory a.found (create_refusal (queue_at p side) count size)) (create_after (queue_at p side) count size))

    pub more_kept : IsEncoder formats (pair_settled new) reference job
    more_kept =
        kept_after formats rates p events reference job c view inv kept _ _ new (λ _. mores_effect) more_new

    pub more_step : IsStep c (state new reference)
    more_step =
        step_after formats rates p events reference job c view inv kept _ _ new (λ _. mores_effect) more_new

    pub more_room : c.cap.next_seq < 2 ^ 62 → new.cap.next_seq < 2 ^ 62
    more_room =
        room_after formats rates p events reference job c view inv kept _ _ new (λ _. mores_effect) more_new

    more_is :
        (s : Side) (found : Bool)
        → create_answer here s count size found
        ≡ unless here (create_refusal (queue_at p s) count size)
        (if_found here found
        (answered (encoder_state formats rates (with_queue_at p s (create_after (queue_at p s) count size)) events reference job)
        (Created (buffer_count (queue_at p s)) (created (queue_at p s) count))))
    more_is Out found = refl
    more_is Cap found = refl

    pub more_gives : (reply : Reply) → reply ≡ told_of (λ x. Created x.0 x.1) result → GivesWithMemory (create_answer c side count size) reply (state new reference)
    more_gives reply et =
        let g =
        gives_memory formats rates reference job (λ (x : ℕ × ℕ). Created x.0 x.1) (buffer_count (queue_at p side), created (queue_at p side) count) p
        more new events (create_refusal (queue_at p side) count size) a.found result reply
        (λ _. agrees formats rates p more events reference reference job inv mores_effect) inv.settled a.answer more_new et in
        rw (← view) (record { found = g.found; gives = rw (more_is side g.found) g.gives; want = g.want })

    pub more_moves :
        (reply : Reply) (old other : HoldState) → reply ≡ told_of (λ x. Created x.0 x.1) result
        → KeepsFirst side (buffer_count (queue_at p side)) old other → OnErr result (other ≡ old)
        → Moves (Some c) (CreateBufs side count size) reply old other
    more_moves reply old other et first err =
        rw et (by result a.answer err)
      where
        first_is :
            (o : Option Errno) (found : Bool) (x : ℕ × ℕ)
            → ◌≡◌ {A = Result (ℕ × ℕ) Errno} (Ok x) (answer_of (with_memory found o) (buffer_count (queue_at p side), created (queue_at p side) count))
            → x.0 ≡ buffer_count (queue_at p side)
        first_is o found x h = ap (λ (y : ℕ × ℕ). y.0) (sym (ok_value o found _ x (sym h)))

        by :
            (x : Result (ℕ × ℕ) Errno)
            → x ≡ answer_of (with_memory a.found (create_refusal (queue_at p side) count size)) (buffer_count (queue_at p side), created (queue_at p side) count)
            → OnErr x (other ≡ old) → Moves (Some c) (CreateBufs side count size) (told_of (λ (y : ℕ × ℕ). Created y.0 y.1) x) old other
        by (Ok x) h e = subst (λ (n : ℕ). KeepsFirst side n old other) (sym (first_is _ a.found x h)) first
        by (Err e) h m = m
