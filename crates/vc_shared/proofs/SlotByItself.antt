-- What happens to the slot of a handle, by itself. Of what a longer history adds, the events of other slots leave the slot
-- alone, and where its seat has no more entries the rest are claims and finishes of its jobs. So a call at the end of the
-- history is one call on the slot by itself, as the handle's own events tell it.
use Rattle.std.proofs.Common.{ℕ, suc, ◌≡◌, ◌≢◌, ◌+◌, ◌==◌, nat_lt, Bool, true, false, cond, ◌&&◌, List, [], ◌∷◌, ◌++◌, length, refl, sym, ap, ◌∙◌, subst, arith}
use Rattle.std.specs.Prelude.{Some}
use Rattle.std.specs.List.{list_all}
use Rattle.std.proofs.lemmas.List.{map-append}
use Rattle.std.proofs.lemmas.Bool.{false≢true}
use Rattle.std.proofs.lemmas.Bool.Decides.{nat_tests}
use mathlib.Core.List.{IsPrefix}
use Rattle.vc_base.specs.declared.Errno.TheVariants.{NoMem}
use Rattle.vc_base.specs.declared.Call.{Call}
use Rattle.vc_base.specs.declared.Reply.{Reply}
use Rattle.vc_base.specs.declared.Reply.TheVariants.{Refused, Blocked}
use Rattle.vc_base.specs.Device.{DeviceEvent, call, claim, finish, shut}
use Rattle.vc_model.specs.Coder.{Coder, the_coder}
use Rattle.vc_model.specs.Answer.{answer}
use Rattle.vc_model.specs.Solo.{SoloEvent, Called, Claims, Finishes, SoloReply, Answered, SoloEntry, solo_slot, events_of as solo_of}
use Rattle.vc_model.specs.Devices.{DeviceState, DeviceReply, Told, NoJob, Empty, DeviceStep, new_device, slot_of, ignored, call_answered, device_step, device_after, device_run, entry_for, entries_of, with_told, projection}
use Rattle.vc_model.specs.Seats.{is_call_of, is_call_event}
use Rattle.vc_model.proofs.EachSlotPrintsItsOwn.{run-append, entries-append}
use Rattle.vc_model.proofs.SlotsAreIsolated.{isolated}
use Rattle.vc_model.proofs.HistoriesGrow.{answers_are_solo}
use Rattle.vc_turn.specs.declared.rule.Noted.{Noted}
use Rattle.vc_turn.specs.History.{places_from, places}
use Rattle.vc_queue.specs.Holds.{HoldState}
use Rattle.vc_context.specs.Payloads.{Moves, handed_over}
use Rattle.vc_port.specs.Payloads.{slot_after, is_of_job, AreOfJobs, with_call, IsCallOn}
use Rattle.vc_shared.specs.Histories.{after, events_of, AreOwn}
use Rattle.vc_shared.specs.Calls.{found_for}
use Rattle.vc_shared.proofs.EntriesAreOwned.{call_is_own, events-append, own_rest, none_added}
use Rattle.vc_shared.proofs.PayloadsFitLater.{none_first}

-- the projection of a longer history
projection-append : (coder : Coder) (d : DeviceState) (es fs : List DeviceEvent) (k : ℕ) → projection coder d (es ++ fs) k ≡ projection coder d es k ++ projection coder (device_after coder d es) fs k
projection-append coder d es fs k =
    ap (λ r. solo_of (entries_of k r)) (run-append coder d es fs)
    ∙ (ap solo_of (entries-append k (device_run coder d es) (device_run coder (device_after coder d es) fs)) ∙ map-append (λ (x : SoloEntry). x.event) (entries_of k (device_run coder d es)) (entries_of k (device_run coder (device_after coder d es) fs)))

-- an event that is no call of the slot is one of its jobs, or another's
claims_jobs : (k worker : ℕ) (r : DeviceReply) → AreOfJobs (solo_of (entry_for k (claim worker) r))
claims_jobs k worker (Told j reply) = split (j == k)
  where
    split : (b : Bool) → AreOfJobs (solo_of (cond b (with_told reply (Claims ∷ [])) []))
    split true = refl
    split false = refl
claims_jobs k worker NoJob = refl
claims_jobs k worker Empty = refl

finishes_jobs : (k worker : ℕ) (fault : Bool) (r : DeviceReply) → AreOfJobs (solo_of (entry_for k (finish worker fault) r))
finishes_jobs k worker fault (Told j reply) = split (j == k)
  where
    split : (b : Bool) → AreOfJobs (solo_of (cond b (with_told reply (Finishes fault ∷ [])) []))
    split true = refl
    split false = refl
finishes_jobs k worker fault NoJob = refl
finishes_jobs k worker fault Empty = refl

shuts_jobs : (k : ℕ) (r : DeviceReply) → AreOfJobs (solo_of (entry_for k shut r))
shuts_jobs k (Told j reply) = split (j == k)
  where
    split : (b : Bool) → AreOfJobs (solo_of (cond b (with_told reply []) []))
    split true = refl
    split false = refl
shuts_jobs k NoJob = refl
shuts_jobs k Empty = refl

others_call : (k j : ℕ) (request : Call) (bytes : List ℕ) (found : Bool) (reply : SoloReply) (d : DeviceState) (a : DeviceStep) (b : Bool) → (j == k) ≡ false → a.reply ≡ Told j reply → AreOfJobs (solo_of (entry_for k (call j request bytes found) (cond b a (ignored d)).reply))
others_call k j request bytes found reply d a true e t =
    subst (λ r. AreOfJobs (solo_of (entry_for k (call j request bytes found) r))) (sym t) (ap (λ b. list_all is_of_job (solo_of (cond b (with_told reply (Called request bytes found ∷ [])) []))) e)
others_call k j request bytes found reply d a false e t = refl

entry_jobs : (d : DeviceState) (k : ℕ) (e : DeviceEvent) → is_call_of k e ≡ false → AreOfJobs (solo_of (entry_for k e (device_step the_coder d e).reply))
unfolding device_step
entry_jobs d k (call j request bytes found) other =
    others_call k j request bytes found _ d (call_answered d j (answer (slot_of d j) request bytes found)) (nat_lt j (length d.slots)) other refl
entry_jobs d k (claim worker) other = claims_jobs k worker (device_step the_coder d (claim worker)).reply
entry_jobs d k (finish worker fault) other = finishes_jobs k worker fault (device_step the_coder d (finish worker fault)).reply
entry_jobs d k shut other = shuts_jobs k (device_step the_coder d shut).reply

jobs-append : (es fs : List SoloEvent) → AreOfJobs es → AreOfJobs fs → AreOfJobs (es ++ fs)
jobs-append [] fs a b = b
jobs-append (e ∷ es) fs a b = split (is_of_job e) (list_all is_of_job es) a (jobs-append es fs)
  where
    split : (h t : Bool) → (h && t) ≡ true → (t ≡ true → AreOfJobs fs → AreOfJobs (es ++ fs)) → (h && list_all is_of_job (es ++ fs)) ≡ true
    split true t p later = later p b
    split false t p later = absurd (false≢true p)

-- what others add to a history is of the slot's jobs
jobs_rest : (d : DeviceState) (slots k at : ℕ) (es : List Noted) → AreOwn slots es → places_from at k es ≡ [] → AreOfJobs (projection the_coder d (events_of es) k)
jobs_rest d slots k at [] own none = refl
jobs_rest d slots k at (x ∷ es) own none =
    let first = none_first (x.seat == k) at (places_from (suc at) k es) none in
    let other : is_call_of k x.event ≡ false = call_is_own slots x.seat k x.event own.0 ∙ ap (λ b. b && is_call_event (Some x.event)) first.0 in
    let head = entry_for k x.event (device_step the_coder d x.event).reply in
    let tail = entries_of k (device_run the_coder (device_step the_coder d x.event).device (events_of es)) in
    subst AreOfJobs (sym (map-append (λ (y : SoloEntry). y.event) head tail)) (jobs-append (solo_of head) (solo_of tail) (entry_jobs d k x.event other) (jobs_rest (device_step the_coder d x.event).device slots k (suc at) es own.1 first.1))

-- What is added to the events of a slot by claims and finishes.
pub record Grows (slots k : ℕ) (xs log : List Noted) : Type 0 where
  pub jobs : List SoloEvent
  pub of_jobs : AreOfJobs jobs
  pub grown : projection the_coder (new_device slots) (events_of log) k ≡ projection the_coder (new_device slots) (events_of xs) k ++ jobs

grows_by : (slots k : ℕ) (xs ys : List Noted) → AreOwn slots (xs ++ ys) → places k (xs ++ ys) ≡ places k xs → Grows slots k xs (xs ++ ys)
grows_by slots k xs ys own same =
    record {
      jobs = projection the_coder (after slots (events_of xs)) (events_of ys) k;
      of_jobs = jobs_rest (after slots (events_of xs)) slots k (length xs + 0) ys (own_rest slots xs ys own) (none_added k xs ys same);
      grown = ap (λ l. projection the_coder (new_device slots) l k) (events-append xs ys) ∙ projection-append the_coder (new_device slots) (events_of xs) (events_of ys) k;
    }

-- where the seat of the slot has no more entries, only claims and finishes were added
pub grows : (slots k : ℕ) (xs log : List Noted) → IsPrefix xs log → AreOwn slots log → places k log ≡ places k xs → Grows slots k xs log
grows slots k xs log p own same =
    subst (Grows slots k xs) p.1 (grows_by slots k xs p.0 (subst (AreOwn slots) (sym p.1) own) (ap (places k) p.1 ∙ same))

found_wants : (told : Reply) → found_for told ≡ false → told ≡ Refused NoMem
found_wants (Refused NoMem) e = refl
found_wants told e = absurd (cc)

with_other : (events : List SoloEvent) (told : Reply) (e : SoloEvent) → told ≢ Blocked → with_call events told e ≡ events ++ e ∷ []
with_other events Blocked e other = absurd (other refl)
with_other events told e other = refl

-- the slot of the device is the slot after its events
pub slot_is : (slots k : ℕ) (history : List DeviceEvent) → slot_of (after slots history) k ≡ slot_after (projection the_coder (new_device slots) history k)
slot_is slots k history = (isolated the_coder slots k history).slot

-- one call at the end of a history
called_last : (slots k : ℕ) (history : List DeviceEvent) (request : Call) (bytes : List ℕ) (found : Bool) (told : Reply) (handed : List ℕ)
    → (device_step the_coder (after slots history) (call k request bytes found)).reply ≡ Told k (Answered told handed)
    → projection the_coder (new_device slots) (history ++ call k request bytes found ∷ []) k ≡ projection the_coder (new_device slots) history k ++ Called request bytes found ∷ []
called_last slots k history request bytes found told handed t =
    projection-append the_coder (new_device slots) history (call k request bytes found ∷ []) k ∙ ap (λ l. projection the_coder (new_device slots) history k ++ l)
    (ap (λ r. solo_of (entry_for k (call k request bytes found) r ++ [])) t ∙ ap (λ b. solo_of (cond b (with_told (Answered told handed) (Called request bytes found ∷ [])) [] ++ [])) (same k))
  where
    same : (i : ℕ) → (i == i) ≡ true
    same i = grind (arith, nat_tests)

-- a call that is answered, on the slot by itself
pub answered_alone : (slots k : ℕ) (xs log : List Noted) (request : Call) (told : Reply) (handed : List ℕ) (before now : HoldState) → Grows slots k xs log
    → (device_step the_coder (after slots (events_of log)) (call k request (handed_over request before) (found_for told))).reply ≡ Told k (Answered told handed)
    → Moves (slot_of (after slots (events_of log)) k) request told before now → told ≢ Blocked
    → IsCallOn (projection the_coder (new_device slots) (events_of xs) k) before request told (projection the_coder (new_device slots) (events_of log ++ call k request (handed_over request before) (found_for told) ∷ []) k) now
answered_alone slots k xs log request told handed before now g t moves other =
    let bytes = handed_over request before in
    let e = Called request bytes (found_for told) in
    let s : slot_of (after slots (events_of log)) k ≡ slot_after (projection the_coder (new_device slots) (events_of xs) k ++ g.jobs) = slot_is slots k (events_of log) ∙ ap slot_after g.grown in
    record {
      jobs = g.jobs;
      of_jobs = g.of_jobs;
      found = found_for told;
      handed = handed;
      events = called_last slots k (events_of log) request bytes (found_for told) told handed t ∙ (ap (λ l. l ++ e ∷ []) g.grown ∙ sym (with_other (projection the_coder (new_device slots) (events_of xs) k ++ g.jobs) told e other));
      reply = ap (λ l. (Rattle.vc_model.specs.Solo.solo_step the_coder (slot_after l) e).told) (sym g.grown) ∙ answers_are_solo the_coder slots k (events_of log) request bytes (found_for told) told handed t;
      want = found_wants told;
      moves = subst (λ x. Moves x request told before now) s moves;
    }

-- a call that is answered by Blocked
pub blocked_alone : (slots k : ℕ) (xs log : List Noted) (request : Call) (handed : List ℕ) (before now : HoldState) → Grows slots k xs log
    → (device_step the_coder (after slots (events_of log)) (call k request (handed_over request before) true)).reply ≡ Told k (Answered Blocked handed)
    → Moves (slot_of (after slots (events_of log)) k) request Blocked before now
    → IsCallOn (projection the_coder (new_device slots) (events_of xs) k) before request Blocked (projection the_coder (new_device slots) (events_of log) k) now
blocked_alone slots k xs log request handed before now g t moves =
    let bytes = handed_over request before in
    let e = Called request bytes true in
    let s : slot_of (after slots (events_of log)) k ≡ slot_after (projection the_coder (new_device slots) (events_of xs) k ++ g.jobs) = slot_is slots k (events_of log) ∙ ap slot_after g.grown in
    record {
      jobs = g.jobs;
      of_jobs = g.of_jobs;
      found = true;
      handed = handed;
      events = g.grown;
      reply = ap (λ l. (Rattle.vc_model.specs.Solo.solo_step the_coder (slot_after l) e).told) (sym g.grown) ∙ answers_are_solo the_coder slots k (events_of log) request bytes true Blocked handed t;
      want = λ p. absurd (false≢true (sym p));
      moves = subst (λ x. Moves x request Blocked before now) s moves;
    }
