-- What a call through a handle comes to. The core in the turn stands for the history, so its answer is that of the slot after
-- the history: an answered call is one entry more, with the reply and the payloads that the device gives there, and a blocked
-- one changes nothing.
use Rattle.std.proofs.Common.{ℕ, ◌≡◌, ◌≢◌, ◌<◌, ◌^◌, ◌+◌, ◌-◌, ◌==◌, nat_lt, Bool, true, false, cond, ◌||◌, List, [], ◌∷◌, ◌++◌, length, refl, sym, ap, ◌∙◌, subst, arith}
use Rattle.std.proofs.lemmas.List.{length-map}
use Rattle.std.proofs.lemmas.Bool.{lt-ltb}
use Rattle.std.proofs.lemmas.Bool.Decides.{nat_tests}
use Rattle.vc_base.specs.declared.Errno.TheVariants.{NoMem}
use Rattle.vc_base.specs.declared.Call.{Call}
use Rattle.vc_base.specs.declared.Reply.{Reply}
use Rattle.vc_base.specs.declared.Reply.TheVariants.{Refused, Blocked}
use Rattle.vc_base.specs.Device.{DeviceEvent, call}
use Rattle.vc_model.specs.Coder.{the_coder}
use Rattle.vc_model.specs.Answer.{Answer, answer}
use Rattle.vc_model.specs.Solo.{Answered}
use Rattle.vc_model.specs.Devices.{Told, new_device, slot_of, steps_of, ignored, call_answered, device_step, projection}
use Rattle.vc_model.specs.Standing.{CoreState, Stands, core_slot}
use Rattle.vc_model.specs.Core.{core_call}
use Rattle.vc_model.specs.Seats.{Owner, handle_of, worker_of, may_add, IsAnswered, IsBlocked, HasItsCalls, Adds, Looks}
use Rattle.vc_model.proofs.CoresStandForDevices.{after-append, core_slot_at, calls_stand, steps_are_history}
use Rattle.vc_model.proofs.BlockedChangesNothing.{blocked_changes_nothing}
use Rattle.vc_model.proofs.CallsLeaveTheJob.{answers_without_job}
use Rattle.vc_turn.specs.declared.rule.Noted.{Noted}
use Rattle.vc_turn.specs.Place.{Place}
use Rattle.vc_queue.specs.Holds.{HoldState}
use Rattle.vc_context.specs.Payloads.{FitsSlot, Moves, handed_over}
use Rattle.vc_core.specs.Steps.{IsCall}
use Rattle.vc_port.specs.Payloads.{IsCallOn}
use Rattle.vc_shared.specs.declared.held.Sizes.{Sizes}
use Rattle.vc_shared.specs.Histories.{after, events_of, owner_of, IsLog, StandsForLog}
use Rattle.vc_shared.specs.Handles.{handle_at, slot_events, IsSlotSeat}
use Rattle.vc_shared.specs.Calls.{found_for, AnswersCall, BlocksCall}
use Rattle.vc_shared.proofs.EntriesAreOwned.{entry, events-append, longer_log, own_calls, prefix_events}
use Rattle.vc_shared.proofs.SlotByItself.{grows, answered_alone, blocked_alone}
use Rattle.vc_shared.proofs.MemoryByReply.{answer_found}
use Rattle.vc_shared.proofs.PayloadsOfCalls.{moves_in_device, blocked_moves_none}
use Rattle.vc_shared.proofs.PayloadsFitLater.{fits_later}
use Rattle.vc_shared.proofs.HeldGoesOnFitting.{fits_in_core, fits_in_device}
use Rattle.vc_shared.proofs.SeatsAfterTurns.{ended, looked, IsInTurn, same_entries, rests_after_note, rests_after_look}

-- the slot of the core is that of the device, without the data of a running job
pub core_slot_is : (slots workers k : ℕ) (core : CoreState) (history : List DeviceEvent) → Stands the_coder slots workers core history → slot_of core k ≡ core_slot (slot_of (after slots history) k)
core_slot_is slots workers k core history s =
    ap (λ c. slot_of c k) s.state ∙ core_slot_at (after slots history).slots k

pub same_steps : (slots workers : ℕ) (core : CoreState) (history : List DeviceEvent) → Stands the_coder slots workers core history → core.steps ≡ (after slots history).steps
same_steps slots workers core history s = ap (λ c. c.steps) s.state

-- the device after one event more
pub after_event : (slots : ℕ) (log : List Noted) (number : ℕ) (e : DeviceEvent) → after slots (events_of (log ++ entry number e ∷ [])) ≡ (device_step the_coder (after slots (events_of log)) e).device
after_event slots log number e =
    ap (after slots) (events-append log (entry number e ∷ [])) ∙ after-append the_coder (new_device slots) (events_of log) e

-- what a call on the core tells is the answer of its slot
told_parts : (core : CoreState) (k : ℕ) (a : Answer) (told : Reply) (handed : List ℕ) (b : Bool) → (cond b (call_answered core k a) (ignored core)).reply ≡ Told k (Answered told handed) → a.reply ≡ told
told_parts core k a told handed true e = cc
told_parts core k a told handed false e = absurd (cc)

same_call : (core : CoreState) (k : ℕ) (request : Call) (bytes : List ℕ) (found : Bool) (reply : Reply) (handed : List ℕ)
    → (core_call core k request bytes found).reply ≡ Told k (Answered reply handed) → (found ≡ false → reply ≡ Refused NoMem)
    → core_call core k request bytes (found_for reply) ≡ core_call core k request bytes found
same_call core k request bytes found reply handed e want =
    let a = answer (slot_of core k) request bytes found in
    ap (λ x. cond (nat_lt k (length core.slots)) (call_answered core k x) (ignored core)) (answer_found (slot_of core k) request bytes found reply (told_parts core k a reply handed (nat_lt k (length core.slots)) e) want)

one_step : (reply : Reply) → reply ≢ Blocked → steps_of reply ≡ 1
one_step Blocked other = absurd (other refl)
one_step reply other = refl

may_call : (slots k : ℕ) (request : Call) (bytes : List ℕ) (found : Bool) → k < slots → may_add (owner_of slots k) (call k request bytes found) ≡ true
may_call slots k request bytes found l =
    ap (λ b. may_add (cond b (handle_of k) (worker_of (k - slots))) (call k request bytes found)) (lt-ltb k slots l) ∙ ap (λ b. b || false) (same k)
  where
    same : (i : ℕ) → (i == i) ≡ true
    same i = grind (arith, nat_tests)

-- the call, with whether memory was found read off the reply
record Called (slots workers k : ℕ) (core core' : CoreState) (log : List Noted) (request : Call) (hold : HoldState) (reply : Reply) : Type 0 where
  pub handed : List ℕ
  pub now : Stands the_coder slots workers core' (events_of (log ++ entry k (call k request (handed_over request hold) (found_for reply)) ∷ []))
  pub told : (device_step the_coder (after slots (events_of log)) (call k request (handed_over request hold) (found_for reply))).reply ≡ Told k (Answered reply handed)
  pub in_core : (core_call core k request (handed_over request hold) (found_for reply)).reply ≡ Told k (Answered reply handed)
  pub device : (core_call core k request (handed_over request hold) (found_for reply)).device ≡ core'

called : (slots workers k : ℕ) (core core' : CoreState) (log : List Noted) (request : Call) (hold : HoldState) (reply : Reply) → Stands the_coder slots workers core (events_of log) → IsCall core k request hold reply core' → Called slots workers k core core' log request hold reply
called slots workers k core core' log request hold reply s is =
    let bytes = handed_over request hold in
    let found = found_for reply in
    let e = call k request bytes found in
    let same = same_call core k request bytes is.found reply is.handed is.reply is.want in
    let made = calls_stand the_coder slots workers core (events_of log) k request bytes found s in
    let told : (core_call core k request bytes found).reply ≡ Told k (Answered reply is.handed) = ap (λ x. x.reply) same ∙ is.reply in
    let device : (core_call core k request bytes found).device ≡ core' = ap (λ x. x.device) same ∙ is.device in
    record {
      handed = is.handed;
      now = subst (Stands the_coder slots workers core') (sym (events-append log (entry k e ∷ []))) (subst (λ c. Stands the_coder slots workers c (events_of log ++ e ∷ [])) device made.stands);
      told = sym made.reply ∙ told;
      in_core = told;
      device = device;
    }

-- What an answered call comes to: the core stands for the longer history, and the seat knows its entry.
pub record CallMade (p : Place) (sizes : Sizes) (slot ticket : ℕ) (log : List Noted) (core' : CoreState) (request : Call) (reply : Reply) (hold hold' : HoldState) : Type 0 where
  pub put : StandsForLog sizes.slots sizes.workers core' (log ++ entry slot (call slot request (handed_over request hold) (found_for reply)) ∷ [])
  pub seat : IsSlotSeat (ended p log ticket (call slot request (handed_over request hold) (found_for reply))) sizes slot hold'
  pub solo : IsCallOn (slot_events (handle_at p sizes slot hold)) hold request reply (slot_events (handle_at (ended p log ticket (call slot request (handed_over request hold) (found_for reply))) sizes slot hold')) hold'
  pub answers : AnswersCall (handle_at p sizes slot hold) (handle_at (ended p log ticket (call slot request (handed_over request hold) (found_for reply))) sizes slot hold') request reply

pub call_made : (p : Place) (sizes : Sizes) (slot ticket : ℕ) (log : List Noted) (core core' : CoreState) (request : Call) (reply : Reply) (hold hold' : HoldState)
    → IsSlotSeat p sizes slot hold → IsInTurn sizes.slots sizes.workers p core log → IsCall core slot request hold reply core'
    → Moves (slot_of core slot) request reply hold hold' → FitsSlot (slot_of core' slot) hold' → length core'.slots ≡ length core.slots → core'.workers ≡ core.workers
    → core'.steps ≡ core.steps + steps_of reply → reply ≢ Blocked → CallMade p sizes slot ticket log core' request reply hold hold'
call_made p sizes slot ticket log core core' request reply hold hold' seat t is moves fit size crew steps other =
    let n = sizes.slots in
    let w = sizes.workers in
    let bytes = handed_over request hold in
    let e = call slot request bytes (found_for reply) in
    let longer = log ++ entry slot e ∷ [] in
    let d = after n (events_of log) in
    let stands = t.core_stands in
    let made = called n w slot core core' log request hold reply stands.stands is in
    let up : (device_step the_coder d e).device.steps ≡ d.steps + 1 = ap (λ x. x.steps) (sym (after_event n log slot e)) ∙ (sym (same_steps n w core' (events_of longer) made.now) ∙ (steps ∙ let z = same_steps n w core (events_of log) stands.stands in let y = one_step reply other in omega arith)) in
    let entries : IsLog n longer = longer_log n slot log e stands.entries (may_call n slot request bytes (found_for reply) seat.within) up in
    let rest = rests_after_note slot (n + w) n w ticket p core log e seat.rest t entries in
    let q = ended p log ticket e in
    let seen : q.seen ≡ longer = ap (λ k. log ++ entry k e ∷ []) seat.rest.numbered in
    let moves_there : Moves (slot_of d slot) request reply hold hold' = moves_in_device (slot_of d slot) request reply hold hold' (subst (λ s. Moves s request reply hold hold') (core_slot_is n w slot core (events_of log) stands.stands) moves) in
    record {
      put = record { stands = made.now; entries = entries; slot_count = size ∙ stands.slot_count; worker_count = ap length crew ∙ stands.worker_count };
      seat = record {
        rest = rest;
        within = seat.within;
        fits = subst (λ l. FitsSlot (slot_of (after n (events_of l)) slot) hold') (sym seen) (fits_in_device _ hold' (subst (λ s. FitsSlot s hold') (core_slot_is n w slot core' (events_of longer) made.now) fit));
      };
      solo = subst (λ l. IsCallOn (projection the_coder (new_device n) (events_of p.seen) slot) hold request reply (projection the_coder (new_device n) l slot) hold')
          (sym (events-append log (entry p.number e ∷ [])))
          (answered_alone n slot p.seen log request reply made.handed hold hold' (grows n slot p.seen log t.seen stands.entries.own (same_entries slot (n + w) n w p core log seat.rest t)) made.told moves_there other);
      answers = record {
        handed = made.handed;
        answered = record {
          adds = record {
            before = events_of log;
            seen = prefix_events p.seen log t.seen;
            added = events-append log (entry p.number e ∷ []);
            mine = ap (λ i. p.mine ++ i ∷ []) (sym (length-map log (λ (x : Noted). x.event)));
          };
          own = own_calls n slot q.seen rest.entries.own ∙ ap (Rattle.vc_model.specs.Seats.calls_among (events_of q.seen)) (ap (λ k. Rattle.vc_turn.specs.History.places k q.seen) (sym rest.numbered) ∙ rest.places);
          history = rest.entries.steps;
          told = made.told;
        };
        payloads = moves_there;
      };
    }

-- What a blocked call comes to: core and payloads are as they were.
pub record CallBlocked (p : Place) (sizes : Sizes) (slot ticket : ℕ) (log : List Noted) (core' : CoreState) (request : Call) (hold hold' : HoldState) : Type 0 where
  pub put : StandsForLog sizes.slots sizes.workers core' log
  pub seat : IsSlotSeat (looked p log ticket) sizes slot hold'
  pub solo : IsCallOn (slot_events (handle_at p sizes slot hold)) hold request Blocked (slot_events (handle_at (looked p log ticket) sizes slot hold')) hold'
  pub blocks : BlocksCall (handle_at p sizes slot hold) (handle_at (looked p log ticket) sizes slot hold') request

pub call_blocked : (p : Place) (sizes : Sizes) (slot ticket : ℕ) (log : List Noted) (core core' : CoreState) (request : Call) (hold hold' : HoldState)
    → IsSlotSeat p sizes slot hold → IsInTurn sizes.slots sizes.workers p core log → IsCall core slot request hold Blocked core'
    → Moves (slot_of core slot) request Blocked hold hold' → CallBlocked p sizes slot ticket log core' request hold hold'
call_blocked p sizes slot ticket log core core' request hold hold' seat t is moves =
    let n = sizes.slots in
    let w = sizes.workers in
    let bytes = handed_over request hold in
    let d = after n (events_of log) in
    let stands = t.core_stands in
    let made = called n w slot core core' log request hold Blocked stands.stands is in
    let same : core' ≡ core = sym made.device ∙ blocked_changes_nothing the_coder n w core (events_of log) slot request bytes made.handed true stands.stands made.in_core in
    let stay : hold' ≡ hold = blocked_moves_none (slot_of core slot) request hold hold' moves in
    let rest = rests_after_look slot (n + w) n w ticket p core log seat.rest t in
    let q = looked p log ticket in
    record {
      put = subst (λ c. StandsForLog n w c log) (sym same) stands;
      seat = record {
        rest = rest;
        within = seat.within;
        fits = subst (FitsSlot (slot_of d slot)) (sym stay) (fits_later n slot p.seen log hold t.seen stands.entries.own (same_entries slot (n + w) n w p core log seat.rest t) seat.fits);
      };
      solo = blocked_alone n slot p.seen log request made.handed hold hold'
          (grows n slot p.seen log t.seen stands.entries.own (same_entries slot (n + w) n w p core log seat.rest t)) made.told
          (moves_in_device (slot_of d slot) request Blocked hold hold' (subst (λ s. Moves s request Blocked hold hold') (core_slot_is n w slot core (events_of log) stands.stands) moves));
      blocks = record {
        blocked = record {
          looks = record { seen = prefix_events p.seen log t.seen; mine = refl };
          own = own_calls n slot log stands.entries.own ∙ ap (Rattle.vc_model.specs.Seats.calls_among (events_of log)) (ap (λ k. Rattle.vc_turn.specs.History.places k log) (sym seat.rest.numbered) ∙ t.own);
          history = stands.entries.steps;
          blocks = sym (ap (λ a. a.reply) (answers_without_job (slot_of d slot) request bytes true))
              ∙ (ap (λ s. (answer s request bytes true).reply) (sym (core_slot_is n w slot core (events_of log) stands.stands)) ∙ told_parts core slot (answer (slot_of core slot) request bytes true) Blocked made.handed (nat_lt slot (length core.slots)) made.in_core);
        };
        hold = stay;
      };
    }

-- the payloads fit the slot of the core in the turn
pub fits_in_turn : (p : Place) (sizes : Sizes) (slot : ℕ) (log : List Noted) (core : CoreState) (hold : HoldState) → IsSlotSeat p sizes slot hold → IsInTurn sizes.slots sizes.workers p core log → FitsSlot (slot_of core slot) hold
fits_in_turn p sizes slot log core hold seat t =
    let n = sizes.slots in
    let w = sizes.workers in
    let d = after n (events_of log) in
    subst (λ s. FitsSlot s hold) (sym (core_slot_is n w slot core (events_of log) t.core_stands.stands)) (fits_in_core (slot_of d slot) hold (fits_later n slot p.seen log hold t.seen t.core_stands.entries.own (same_entries slot (n + w) n w p core log seat.rest t) seat.fits))

-- fewer than 2^62 steps were made
pub few_steps : (p : Place) (slots workers : ℕ) (log : List Noted) (core : CoreState) → IsInTurn slots workers p core log → length log < 2 ^ 62 → core.steps < 2 ^ 62
few_steps p slots workers log core t limit =
    let z = same_steps slots workers core (events_of log) t.core_stands.stands in
    let y = steps_are_history the_coder slots (events_of log) t.core_stands.entries.steps in
    let x = length-map log (λ (e : Noted). e.event) in
    omega arith
