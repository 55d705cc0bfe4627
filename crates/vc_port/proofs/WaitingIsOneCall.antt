-- How waiting goes on. A call that is answered by Blocked adds claims and finishes alone, and a pause nothing, so that the
-- call that is answered at last stands behind them as one call does.
use Rattle.std.proofs.Common.{◌≡◌, ◌≢◌, ◌++◌, ◌∷◌, [], List, refl, sym, ap, ◌∙◌, subst, append_assoc}
use Rattle.std.proofs.lemmas.List.{append-nil}
use Rattle.vc_base.specs.declared.Call.{Call}
use Rattle.vc_base.specs.declared.Call.TheVariants.{Close}
use Rattle.vc_base.specs.declared.Reply.{Reply}
use Rattle.vc_base.specs.declared.Reply.TheVariants.{Blocked}
use Rattle.vc_model.specs.Coder.{the_coder}
use Rattle.vc_model.specs.Context.{Slot}
use Rattle.vc_model.specs.Solo.{SoloEvent, Called, Claims, Finishes, Answered, solo_step}
use Rattle.vc_queue.specs.Holds.{HoldState}
use Rattle.vc_context.specs.Payloads.{Moves, handed_over}
use Rattle.vc_port.specs.Payloads.{slot_after, AreOfJobs, with_call, IsCallOn, AreKept}
use Rattle.vc_port.specs.Ports.{AnsweredCall, answered_after, LeadsOver, IsAttempt, HasWaited, IsWaitedFor}

pub leads_more : {S : Type 0} (step : S → S → Type 0) (old : S) (stops : List S) (p q : S) → LeadsOver step old stops p → step p q → LeadsOver step old (stops ++ q ∷ []) q
leads_more step old [] p q l s = (subst (λ o. step o q) (sym l) s, refl)
leads_more step old (next ∷ rest) p q l s = (l.0, leads_more step next rest p q l.1 s)

-- no waiting at all
pub waits_none : {S : Type 0} (calls : S → Call → Reply → S → Type 0) (pauses : S → S → Type 0) (request : Call) (p : S) → HasWaited calls pauses request p p
waits_none calls pauses request p = record { stops = []; leads = refl }

-- one attempt more
pub waits_more : {S : Type 0} (calls : S → Call → Reply → S → Type 0) (pauses : S → S → Type 0) (request : Call) (old p q : S) → HasWaited calls pauses request old p → IsAttempt calls pauses request p q → HasWaited calls pauses request old q
waits_more calls pauses request old p q w a =
    record { stops = w.stops ++ q ∷ []; leads = leads_more (IsAttempt calls pauses request) old w.stops p q w.leads a }

-- a reply other than Blocked is one answered call more
pub answered_more : (calls : List AnsweredCall) (request : Call) (told : Reply) → told ≢ Blocked → answered_after calls request told ≡ calls ++ record { request = request; reply = told } ∷ []
answered_more calls request Blocked h = absurd (h refl)
answered_more calls request told h = refl

-- Ports with payloads

-- only claims and finishes were added, and no payload moved
record AddsJobs (old : List SoloEvent) (before : HoldState) (new : List SoloEvent) (after : HoldState) : Type 0 where
  jobs : List SoloEvent
  of_jobs : AreOfJobs jobs
  events : new ≡ old ++ jobs
  payloads : after ≡ before

moves_blocked : (s : Slot) (request : Call) (before after : HoldState) → Moves s request Blocked before after → after ≡ before
moves_blocked s Close before after m = m
moves_blocked s request before after m = m

blocked_adds : (old new : List SoloEvent) (before after : HoldState) (request : Call) → IsCallOn old before request Blocked new after → AddsJobs old before new after
blocked_adds old new before after request c =
    record { jobs = c.jobs; of_jobs = c.of_jobs; events = c.events; payloads = moves_blocked (slot_after (old ++ c.jobs)) request before after c.moves }

kept_adds : (old new : List SoloEvent) (before after : HoldState) → AreKept old before new after → AddsJobs old before new after
kept_adds old new before after k =
    record { jobs = []; of_jobs = refl; events = k.events ∙ sym (append-nil old); payloads = k.payloads }

jobs_together : (js ks : List SoloEvent) → AreOfJobs js → AreOfJobs ks → AreOfJobs (js ++ ks)
jobs_together [] ks h i = i
jobs_together (Claims ∷ js) ks h i = jobs_together js ks h i
jobs_together (Finishes fault ∷ js) ks h i = jobs_together js ks h i
jobs_together (Called request bytes found ∷ js) ks h i = absurd (cc)

adds_on : (a b c : List SoloEvent) (f g h : HoldState) → AddsJobs a f b g → AddsJobs b g c h → AddsJobs a f c h
adds_on a b c f g h x y =
    record {
      jobs = x.jobs ++ y.jobs;
      of_jobs = jobs_together x.jobs y.jobs x.of_jobs y.of_jobs;
      events = y.events ∙ (ap (λ (l : List SoloEvent). l ++ y.jobs) x.events ∙ append_assoc a x.jobs y.jobs);
      payloads = y.payloads ∙ x.payloads;
    }

-- a call after claims and finishes
call_later : (old jobs new : List SoloEvent) (before after : HoldState) (request : Call) (told : Reply) → AreOfJobs jobs → IsCallOn (old ++ jobs) before request told new after → IsCallOn old before request told new after
call_later old jobs new before after request told of_jobs c =
    let e : (old ++ jobs) ++ c.jobs ≡ old ++ (jobs ++ c.jobs) = append_assoc old jobs c.jobs in
    let event : SoloEvent = Called request (handed_over request before) c.found in record {
      jobs = jobs ++ c.jobs;
      of_jobs = jobs_together jobs c.jobs of_jobs c.of_jobs;
      found = c.found;
      handed = c.handed;
      events = c.events ∙ ap (λ (l : List SoloEvent). with_call l told event) e;
      reply = subst (λ (l : List SoloEvent). (solo_step the_coder (slot_after l) event).told ≡ Answered told c.handed) e c.reply;
      want = c.want;
      moves = subst (λ (l : List SoloEvent). Moves (slot_after l) request told before after) e c.moves;
    }

call_after : (a b new : List SoloEvent) (f g after : HoldState) (request : Call) (told : Reply) → AddsJobs a f b g → IsCallOn b g request told new after → IsCallOn a f request told new after
call_after a b new f g after request told x c =
    let at : IsCallOn (a ++ x.jobs) g request told new after = subst (λ (l : List SoloEvent). IsCallOn l g request told new after) x.events c in
    call_later a x.jobs new f after request told x.of_jobs (subst (λ (h : HoldState). IsCallOn (a ++ x.jobs) h request told new after) x.payloads at)

-- The meanings of a port with payloads, at one type.
module _ {S : Type 0} (calls : S → Call → Reply → S → Type 0) (pauses : S → S → Type 0) (events : S → List SoloEvent) (hold : S → HoldState)
    (calls_are : (p q : S) (request : Call) (told : Reply) → calls p request told q → IsCallOn (events p) (hold p) request told (events q) (hold q))
    (pauses_are : (p q : S) → pauses p q → AreKept (events p) (hold p) (events q) (hold q)) where
  attempt_adds : (request : Call) (p q : S) → IsAttempt calls pauses request p q → AddsJobs (events p) (hold p) (events q) (hold q)
  attempt_adds request p q a =
      adds_on (events p) (events a.between) (events q) (hold p) (hold a.between) (hold q)
      (blocked_adds (events p) (events a.between) (hold p) (hold a.between) request (calls_are p a.between request Blocked a.blocked))
      (kept_adds (events a.between) (events q) (hold a.between) (hold q) (pauses_are a.between q a.paused))

  waiting_adds : (request : Call) (p q : S) (stops : List S) → LeadsOver (IsAttempt calls pauses request) p stops q → AddsJobs (events p) (hold p) (events q) (hold q)
  waiting_adds request p q [] e =
      subst (λ (o : S). AddsJobs (events p) (hold p) (events o) (hold o)) e (kept_adds (events p) (events p) (hold p) (hold p) (record { events = refl; payloads = refl }))
  waiting_adds request p q (next ∷ rest) l =
      adds_on (events p) (events next) (events q) (hold p) (hold next) (hold q) (attempt_adds request p next l.0) (waiting_adds request next q rest l.1)

  pub waited_is_call : (p q : S) (request : Call) (told : Reply) → IsWaitedFor calls pauses p request told q → IsCallOn (events p) (hold p) request told (events q) (hold q)
  waited_is_call p q request told w =
      call_after (events p) (events w.last) (events q) (hold p) (hold w.last) (hold q) request told
      (waiting_adds request p w.last w.waits.stops w.waits.leads) (calls_are w.last q request told w.answers)
