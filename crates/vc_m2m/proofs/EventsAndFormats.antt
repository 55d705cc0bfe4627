-- What calls on events and formats answer for a context that has the parts. The queues stay as they are, and they are
-- settled, so settling changes nothing more.
use Rattle.std.proofs.Common.{ℕ, ◌≡◌, Bool, true, false, not, ◌||◌, Option, Some, None, Result, List, [], ◌∷◌, refl, sym, ap, ◌∙◌, subst}
use Rattle.std.specs.Prelude.{is_some, nat_lt, slice_get}
use Rattle.std.specs.Option.{option_map}
use Rattle.vc_base.specs.declared.Kind.{Kind}
use Rattle.vc_base.specs.declared.Side.{Side}
use Rattle.vc_base.specs.declared.Side.TheVariants.{Out, Cap}
use Rattle.vc_base.specs.declared.Errno.{Errno}
use Rattle.vc_base.specs.declared.Errno.TheVariants.{NoEnt, NoMem, Busy, Inval}
use Rattle.vc_base.specs.declared.Fourcc.{Fourcc}
use Rattle.vc_base.specs.declared.Format.{Format}
use Rattle.vc_base.specs.declared.Call.{Call}
use Rattle.vc_base.specs.declared.Call.TheVariants.{Open, ReqBufs, CreateBufs}
use Rattle.vc_base.specs.declared.Reply.{Reply}
use Rattle.vc_base.specs.declared.Reply.TheVariants.{Done, Desc, Fmt, Ready, Refused}
use Rattle.vc_base.specs.Buffers.{QueueState, is_empty, refuse_if, buffer_count, reqbufs_refusal, create_refusal}
use Rattle.vc_base.specs.Events.{Event, EventState, event_refusal, subscribe_after, unsubscribe_after, take_event_refusal, take_event_after, event_reply}
use Rattle.vc_model.specs.Formats.{FormatPair, formats_for, formats_listed}
use Rattle.vc_model.specs.Context.{Context, format_of, queue_of, is_stopped}
use Rattle.vc_model.specs.Answer.{unless, unless_or_block, answered, refused, unchanged, subscribe_answer, unsubscribe_answer, dqevent_answer, desc_answer, format_answer, try_answer, set_refusal, readiness, context_answer}
use Rattle.vc_model.specs.Core.{unless_memory}
use Rattle.vc_geom.specs.Pairs.{pair_of}
use Rattle.vc_event.specs.Answers.{answer_of, after_of}
use Rattle.vc_pair.specs.Pairs.{PairState, queue_at, IsSettled}
use Rattle.vc_pair.specs.Rows.{JobsAgree}
use Rattle.vc_context.specs.Contexts.{Gives, told_of, taken_or_blocked, TakesMemory}
use Rattle.vc_m2m.specs.declared.M2mContext.{M2mContext}
use Rattle.vc_m2m.specs.Parts.{ArePartsOf, with_parts}
use Rattle.vc_m2m.proofs.PartsSettle.{with, settle_at, still_at, same_jobs, noted}

desc_cases : (x : Context) (o : Option Fourcc) (reply : Reply) → (o ≡ None → reply ≡ Refused Inval) → ((f : Fourcc) → o ≡ Some f → reply ≡ Desc f) → Gives (desc_answer x o) reply x
desc_cases x None reply n s = record { reply = sym (n refl); context = refl }
desc_cases x (Some f) reply n s = record { reply = sym (s f refl); context = refl }

busy_before : (c : Context) (t : Bool) → option_map Refused (refuse_if t Busy None) ≡ unless_memory (unless c (refuse_if t Busy None) (refused c NoMem)).reply
busy_before c true = refl
busy_before c false = refl

inval_before : (c : Context) (t u : Bool) → let o : Option Errno = refuse_if t Inval (refuse_if u Inval None) in option_map Refused o ≡ unless_memory (unless c o (refused c NoMem)).reply
inval_before c true u = refl
inval_before c false true = refl
inval_before c false false = refl

pub busy_open :
    (c : Context) (request : Call) → TakesMemory request → ((side : Side) (n : ℕ) → request ≡ ReqBufs side n → ⊥)
    → ((side : Side) (n m : ℕ) → request ≡ CreateBufs side n m → ⊥) → Some (Refused Busy) ≡ unless_memory (context_answer c request [] false).reply
unfolding context_answer
busy_open c (Open kind) h f g = refl
busy_open c (ReqBufs side n) h f g = absurd (f side n refl)
busy_open c (CreateBufs side n m) h f g = absurd (g side n m refl)
busy_open c request h f g = absurd h

some_busy : (t : Bool) → t ≡ is_some (refuse_if t Busy None)
some_busy true = refl
some_busy false = refl

module _ (c : Context) (m : M2mContext) (h : ArePartsOf c m) where
  abbrev at : EventState → Context
  at e = with c (pair_of m.formats) m.pair e

  abbrev here : Context
  here = at m.events

  jobs_at : (e : EventState) → JobsAgree (at e)
  jobs_at e = same_jobs c (pair_of m.formats) m.pair m.pair m.events e refl refl (subst JobsAgree (sym h.parts) h.jobs)

  same_queue : (side : Side) → queue_of here side ≡ queue_at m.pair side
  same_queue Out = refl
  same_queue Cap = refl

  queue_is : (side : Side) → queue_at m.pair side ≡ queue_of c side
  queue_is side = sym (same_queue side) ∙ ap (λ (x : Context). queue_of x side) h.parts

  -- formats

  formats_are : pair_of m.formats ≡ c.formats
  formats_are = ap (λ (x : Context). x.formats) h.parts

  pub desc_gives :
      (kind : Kind) (side : Side) (index : ℕ) (o : Option Fourcc) (reply : Reply) → c.kind ≡ kind
      → o ≡ slice_get (formats_listed kind side (pair_of m.formats)) index → (o ≡ None → reply ≡ Refused Inval)
      → ((f : Fourcc) → o ≡ Some f → reply ≡ Desc f) → Gives (desc_answer c (slice_get (formats_listed c.kind side c.formats) index)) reply c
  desc_gives kind side index o reply ek eo n s =
      let same : o ≡ slice_get (formats_listed c.kind side c.formats) index =
      eo ∙ (ap (λ (k : Kind). slice_get (formats_listed k side (pair_of m.formats)) index) (sym ek) ∙ ap (λ (f : FormatPair). slice_get (formats_listed c.kind side f) index) formats_are) in
      subst (λ (x : Option Fourcc). Gives (desc_answer c x) reply c) same (desc_cases c o reply n s)

  pub format_gives : (side : Side) (f : Format) → f ≡ format_of (pair_of m.formats) side → Gives (format_answer c side) (Fmt f) c
  format_gives side f e =
      record { reply = ap Fmt (ap (λ (p : FormatPair). format_of p side) (sym formats_are) ∙ sym e); context = refl }

  pub try_gives : (kind : Kind) (side : Side) (want f : Format) (formats : FormatPair) → c.kind ≡ kind → formats ≡ formats_for kind side (pair_of m.formats) want → f ≡ format_of formats side → Gives (try_answer c side want) (Fmt f) c
  try_gives kind side want f formats ek ef e =
      let same : formats ≡ formats_for c.kind side c.formats want = ef ∙ (ap (λ (k : Kind). formats_for k side (pair_of m.formats) want) (sym ek) ∙ ap (λ (p : FormatPair). formats_for c.kind side p want) formats_are) in
      record { reply = ap Fmt (ap (λ (p : FormatPair). format_of p side) (sym same) ∙ sym e); context = refl }

  pub held_out : (a b : ℕ) → a ≡ buffer_count m.pair.out → b ≡ buffer_count m.pair.cap → (nat_lt 0 a || nat_lt 0 b) ≡ is_some (set_refusal c Out)
  held_out a b ea eb =
      rw (ea ∙ ap buffer_count (queue_is Out), eb ∙ ap buffer_count (queue_is Cap)) (some_busy (nat_lt 0 (buffer_count c.out) || nat_lt 0 (buffer_count c.cap)))

  pub held_cap : (b : ℕ) → b ≡ buffer_count m.pair.cap → nat_lt 0 b ≡ is_some (set_refusal c Cap)
  held_cap b eb = rw (eb ∙ ap buffer_count (queue_is Cap)) (some_busy (nat_lt 0 (buffer_count c.cap)))

  -- before memory is sought

  pub reqbufs_before : (side : Side) (count : ℕ) (q : QueueState) (r : Option Reply) → r ≡ option_map Refused (reqbufs_refusal q) → q ≡ queue_at m.pair side → r ≡ unless_memory (context_answer c (ReqBufs side count) [] false).reply
  unfolding context_answer
  reqbufs_before side count q r er eq =
      er ∙ (ap (λ (x : QueueState). option_map Refused (reqbufs_refusal x)) (eq ∙ queue_is side) ∙ busy_before c (queue_of c side).streams)

  pub create_before :
      (side : Side) (count length : ℕ) (q : QueueState) (r : Option Reply) → r ≡ option_map Refused (create_refusal q count length)
      → q ≡ queue_at m.pair side → r ≡ unless_memory (context_answer c (CreateBufs side count length) [] false).reply
  unfolding context_answer
  create_before side count length q r er eq =
      er ∙ (ap (λ (x : QueueState). option_map Refused (create_refusal x count length)) (eq ∙ queue_is side) ∙ inval_before c _ _)

  -- what can be had without waiting

  pub poll_gives :
      (read write urgent : Bool) → read ≡ (not (is_empty m.pair.cap.done) || is_stopped m.pair.phase) → write ≡ not (is_empty m.pair.out.done)
      → urgent ≡ not (is_empty m.events.pending) → Gives (unchanged c (readiness c)) (Ready read write urgent) c
  poll_gives read write urgent er ew eu =
      subst (λ (x : Context). Gives (unchanged x (readiness x)) (Ready read write urgent) x) h.parts (rw (er, ew, eu) (record { reply = refl; context = refl }))

  module _ (s : IsSettled m.pair) where
    pub subscribe_gives :
        (kind : Kind) (event : ℕ) (new : EventState) (result : Result (Unit {0}) Errno) (reply : Reply) → c.kind ≡ kind
        → result ≡ answer_of (event_refusal kind event) tt → new ≡ after_of (event_refusal kind event) m.events (subscribe_after m.events event)
        → reply ≡ told_of (λ _. Done) result → Gives (subscribe_answer c event) reply (at new)
    subscribe_gives kind event new result reply ek er en et =
        let o : Option Errno = event_refusal kind event in
        let same : event_refusal c.kind event ≡ o = ap (λ (k : Kind). event_refusal k event) ek in
        let there : Gives (unless here o (answered (at (subscribe_after m.events event)) Done)) reply (at new) =
        rw en (noted c (pair_of m.formats) o m.pair m.events (subscribe_after m.events event) Done result reply s (jobs_at (subscribe_after m.events event)) er et) in
        subst (λ (x : Context). Gives (subscribe_answer x event) reply (at new)) h.parts (subst (λ (x : Option Errno). Gives (unless here x (answered (at (subscribe_after m.events event)) Done)) reply (at new)) (sym same) there)

    pub unsubscribe_gives :
        (kind : Kind) (event : ℕ) (new : EventState) (result : Result (Unit {0}) Errno) (reply : Reply) → c.kind ≡ kind
        → result ≡ answer_of (event_refusal kind event) tt → new ≡ after_of (event_refusal kind event) m.events (unsubscribe_after m.events event)
        → reply ≡ told_of (λ _. Done) result → Gives (unsubscribe_answer c event) reply (at new)
    unsubscribe_gives kind event new result reply ek er en et =
        let o : Option Errno = event_refusal kind event in
        let same : event_refusal c.kind event ≡ o = ap (λ (k : Kind). event_refusal k event) ek in
        let there : Gives (unless here o (answered (at (unsubscribe_after m.events event)) Done)) reply (at new) =
        rw en (noted c (pair_of m.formats) o m.pair m.events (unsubscribe_after m.events event) Done result reply s (jobs_at (unsubscribe_after m.events event)) er et) in
        subst (λ (x : Context). Gives (unsubscribe_answer x event) reply (at new)) h.parts (subst (λ (x : Option Errno). Gives (unless here x (answered (at (unsubscribe_after m.events event)) Done)) reply (at new)) (sym same) there)

    taken_event :
        (block : Bool) (pending : List Event) (e : EventState)
        → let o : Option Errno = refuse_if (is_empty pending) NoEnt None in
        Gives (unless_or_block here o block (answered (at e) (event_reply pending))) (taken_or_blocked block (answer_of o (event_reply pending))) (at (after_of o m.events e))
    taken_event true [] e = record { reply = refl; context = refl }
    taken_event false [] e = record { reply = refl; context = refl }
    taken_event block (x ∷ rest) e =
        record { reply = refl; context = ap Some (settle_at c (pair_of m.formats) m.pair e (jobs_at e) ∙ still_at c (pair_of m.formats) m.pair e s) }

    pub dqevent_gives :
        (block : Bool) (new : EventState) (result : Result Reply Errno) (reply : Reply)
        → result ≡ answer_of (take_event_refusal m.events) (event_reply m.events.pending)
        → new ≡ after_of (take_event_refusal m.events) m.events (take_event_after m.events) → reply ≡ taken_or_blocked block result
        → Gives (dqevent_answer c block) reply (at new)
    dqevent_gives block new result reply er en et =
        subst (λ (x : Context). Gives (dqevent_answer x block) reply (at new)) h.parts (rw (et, er, en) (taken_event block m.events.pending (take_event_after m.events)))
