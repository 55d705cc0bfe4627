-- An OUTPUT buffer with ERROR that is dequeued shows a fault, and it still does when other events came before it or come after
-- it: the run of all events has the entry of that call among the others.
use Rattle.std.proofs.Common.{ℕ, ◌≡◌, ◌≤◌, ◌<◌, ◌||◌, Bool, true, false, List, [], ◌∷◌, ◌++◌, refl, sym, ap, ◌∙◌, arith, append_assoc, append-nil}
use Rattle.std.specs.Prelude.{None}
use Rattle.std.proofs.lemmas.Bool.{false≢true}
use Rattle.vc_base.specs.declared.Side.TheVariants.{Out}
use Rattle.vc_base.specs.declared.Stamp.{Stamp}
use Rattle.vc_base.specs.declared.Call.{Call}
use Rattle.vc_base.specs.declared.Call.TheVariants.{DqBuf}
use Rattle.vc_base.specs.declared.Reply.{Reply}
use Rattle.vc_base.specs.declared.Reply.TheVariants.{Taken, Blocked}
use Rattle.vc_model.specs.Coder.{the_coder}
use Rattle.vc_model.specs.Context.{Slot}
use Rattle.vc_model.specs.Handed.{shows_fault}
use Rattle.vc_model.specs.Places.{has_error}
use Rattle.vc_model.specs.Solo.{SoloEvent, Called, SoloReply, Answered, SoloEntry, solo_step, solo_run, solo_slot}
use Rattle.vc_queue.specs.Holds.{HoldState}
use Rattle.vc_context.specs.Payloads.{handed_over}
use Rattle.vc_port.specs.Payloads.{slot_after, faulty_finishes, with_call, IsCallOn}
use Rattle.vc_port.proofs.CallsHandOut.{slot-append, run-append}
use Rattle.vc_flow.specs.Faults.{GoesOn, is_shown, ShowsFault, HasFailed}
use Rattle.vc_flow.proofs.CloseLeavesNothing.{faults_later}

-- Entries

or_true : (b : Bool) → (b || true) ≡ true
or_true true = refl
or_true false = refl

or_more : (a b c : Bool) → (b ≡ true → c ≡ true) → (a || b) ≡ true → (a || c) ≡ true
or_more true b c h e = refl
or_more false b c h e = h e

shown_first : (xs ys : List SoloEntry) → is_shown xs ≡ true → is_shown (xs ++ ys) ≡ true
shown_first [] ys e = absurd (false≢true e)
shown_first (x ∷ xs) ys e =
    or_more (shows_fault x.event x.told) (is_shown xs) (is_shown (xs ++ ys)) (shown_first xs ys) e

shown_then : (xs ys : List SoloEntry) → is_shown ys ≡ true → is_shown (xs ++ ys) ≡ true
shown_then [] ys e = e
shown_then (x ∷ xs) ys e =
    ap (λ (b : Bool). shows_fault x.event x.told || b) (shown_then xs ys e) ∙ or_true (shows_fault x.event x.told)

shown_one : (event : SoloEvent) (told : SoloReply) → shows_fault event told ≡ true → is_shown (record { event = event; told = told } ∷ []) ≡ true
shown_one event told e = ap (λ (b : Bool). b || false) e

-- Events that go on

pub goes_on_self : (events : List SoloEvent) → GoesOn events events
goes_on_self events = ([], sym (append-nil events))

pub goes_on_both : (start mid new : List SoloEvent) → GoesOn start mid → GoesOn mid new → GoesOn start new
goes_on_both start mid new a b =
    (a.0 ++ b.0, b.1 ∙ (ap (λ (l : List SoloEvent). l ++ b.0) a.1 ∙ append_assoc start a.0 b.0))

with_call_goes_on : (events : List SoloEvent) (told : Reply) (e : SoloEvent) → GoesOn events (with_call events told e)
with_call_goes_on events Blocked e = goes_on_self events
with_call_goes_on events told e = (e ∷ [], refl)

pub call_goes_on : (old : List SoloEvent) (before : HoldState) (request : Call) (told : Reply) (new : List SoloEvent) (after : HoldState) →
    IsCallOn old before request told new after → GoesOn old new
call_goes_on old before request told new after c =
    let more = with_call_goes_on (old ++ c.jobs) told (Called request (handed_over request before) c.found) in
    goes_on_both old (old ++ c.jobs) new (c.jobs, refl) (more.0, c.events ∙ more.1)

pub failed_later : (start mid new : List SoloEvent) → GoesOn mid new → faulty_finishes start < faulty_finishes mid →
    faulty_finishes start < faulty_finishes new
failed_later start mid new g f =
    let same = ap faulty_finishes g.1 in
    omega (arith, f, same, faults_later mid g.0)

-- Faults

pub shows_later : (start mid new : List SoloEvent) → ShowsFault start mid → GoesOn mid new → ShowsFault start new
unfolding goes_on_both
shows_later start mid new s g =
    let all = goes_on_both start mid new (s.since, s.goes_on) g in
    record {
      since = all.0;
      goes_on = all.1;
      shown = ap is_shown (run-append (slot_after start) s.since g.0) ∙ shown_first (solo_run the_coder (slot_after start) s.since) _ s.shown;
    }

pub shows_before : (start old new : List SoloEvent) → GoesOn start old → ShowsFault old new → ShowsFault start new
unfolding goes_on_both
shows_before start old new g s =
    let all = goes_on_both start old new g (s.since, s.goes_on) in
    let same : solo_slot the_coder (slot_after start) g.0 ≡ slot_after old = sym (slot-append None start g.0) ∙ ap slot_after (sym g.1) in
    let shown = ap (λ (t : Slot). is_shown (solo_run the_coder t s.since)) same ∙ s.shown in
    record {
      since = all.0;
      goes_on = all.1;
      shown = ap is_shown (run-append (slot_after start) g.0 s.since) ∙ shown_then (solo_run the_coder (slot_after start) g.0) _ shown;
    }

pub has_failed_later : (start mid new : List SoloEvent) → HasFailed start mid → GoesOn mid new → HasFailed start new
has_failed_later start mid new f g =
    record { shows = shows_later start mid new f.shows g; failed = failed_later start mid new g f.failed }

-- an OUTPUT buffer with ERROR
pub source_shows : (old new : List SoloEvent) (before after : HoldState) (block : Bool) (index used flags seq : ℕ) (stamp : Stamp) →
    has_error flags ≡ true → IsCallOn old before (DqBuf Out block) (Taken index used flags seq stamp) new after → ShowsFault old new
source_shows old new before after block index used flags seq stamp e c =
    let event : SoloEvent = Called (DqBuf Out block) (handed_over (DqBuf Out block) before) c.found in
    let s : Slot = solo_slot the_coder (slot_after old) c.jobs in
    let same : s ≡ slot_after (old ++ c.jobs) = sym (slot-append None old c.jobs) in
    let told : (solo_step the_coder s event).told ≡ Answered (Taken index used flags seq stamp) c.handed = ap (λ (t : Slot). (solo_step the_coder t event).told) same ∙ c.reply in
    let one = shown_one event (solo_step the_coder s event).told (ap (shows_fault event) told ∙ e) in
    record {
      since = c.jobs ++ event ∷ [];
      goes_on = c.events ∙ append_assoc old c.jobs (event ∷ []);
      shown = ap is_shown (run-append (slot_after old) c.jobs (event ∷ [])) ∙ shown_then (solo_run the_coder (slot_after old) c.jobs) _ one;
    }
