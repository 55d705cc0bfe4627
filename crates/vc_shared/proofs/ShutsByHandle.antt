-- What a Shut comes to: it is one entry more, the core stands for the longer history, and nothing else changes.
use Rattle.std.proofs.Common.{ℕ, ◌≡◌, ◌<◌, ◌+◌, ◌-◌, true, cond, List, [], ◌∷◌, ◌++◌, length, refl, sym, ap, ◌∙◌, subst}
use Rattle.std.proofs.lemmas.List.{length-map}
use Rattle.std.proofs.lemmas.Bool.{lt-ltb}
use Rattle.vc_base.specs.Device.{shut}
use Rattle.vc_model.specs.Coder.{the_coder}
use Rattle.vc_model.specs.Devices.{slot_of, device_step}
use Rattle.vc_model.specs.Standing.{CoreState, Stands}
use Rattle.vc_model.specs.Core.{core_shut}
use Rattle.vc_model.specs.Seats.{handle_of, worker_of, may_add, calls_among}
use Rattle.vc_model.proofs.CoresStandForDevices.{shut_stands}
use Rattle.vc_turn.specs.declared.rule.Noted.{Noted}
use Rattle.vc_turn.specs.Place.{Place}
use Rattle.vc_turn.specs.History.{places}
use Rattle.vc_queue.specs.Holds.{HoldState}
use Rattle.vc_context.specs.Payloads.{FitsSlot}
use Rattle.vc_shared.specs.declared.held.Sizes.{Sizes}
use Rattle.vc_shared.specs.Histories.{after, events_of, owner_of, IsLog, StandsForLog}
use Rattle.vc_shared.specs.Handles.{handle_at, IsSlotSeat}
use Rattle.vc_shared.specs.Calls.{ShutsDevice}
use Rattle.vc_shared.proofs.EntriesAreOwned.{entry, events-append, longer_log, own_calls, prefix_events}
use Rattle.vc_shared.proofs.HeldGoesOnFitting.{step_fits}
use Rattle.vc_shared.proofs.PayloadsFitLater.{fits_later}
use Rattle.vc_shared.proofs.SeatsAfterTurns.{ended, IsInTurn, same_entries, rests_after_note}
use Rattle.vc_shared.proofs.CallsByHandle.{after_event}

may_shut : (slots k : ℕ) → k < slots → may_add (owner_of slots k) shut ≡ true
may_shut slots k l = ap (λ b. may_add (cond b (handle_of k) (worker_of (k - slots))) shut) (lt-ltb k slots l)

pub record ShutMade (p : Place) (sizes : Sizes) (slot ticket : ℕ) (log : List Noted) (core' : CoreState) (hold : HoldState) : Type 0 where
  pub put : StandsForLog sizes.slots sizes.workers core' (log ++ entry slot shut ∷ [])
  pub seat : IsSlotSeat (ended p log ticket shut) sizes slot hold
  pub shuts : ShutsDevice (handle_at p sizes slot hold) (handle_at (ended p log ticket shut) sizes slot hold)

pub shut_made : (p : Place) (sizes : Sizes) (slot ticket : ℕ) (log : List Noted) (core core' : CoreState) (hold : HoldState) → IsSlotSeat p sizes slot hold → IsInTurn sizes.slots sizes.workers p core log → core' ≡ (core_shut core).device → ShutMade p sizes slot ticket log core' hold
unfolding device_step
shut_made p sizes slot ticket log core core' hold seat t is =
    let n = sizes.slots in
    let w = sizes.workers in
    let d = after n (events_of log) in
    let longer = log ++ entry slot shut ∷ [] in
    let stands = t.core_stands in
    let made = shut_stands the_coder n w core (events_of log) stands.stands in
    let entries : IsLog n longer = longer_log n slot log shut stands.entries (may_shut n slot seat.within) refl in
    let rest = rests_after_note slot (n + w) n w ticket p core log shut seat.rest t entries in
    let q = ended p log ticket shut in
    let seen : q.seen ≡ longer = ap (λ k. log ++ entry k shut ∷ []) seat.rest.numbered in
    let fit = fits_later n slot p.seen log hold t.seen stands.entries.own (same_entries slot (n + w) n w p core log seat.rest t) seat.fits in
    record {
      put = record {
        stands = subst (Stands the_coder n w core') (sym (events-append log (entry slot shut ∷ []))) (subst (λ c. Stands the_coder n w c (events_of log ++ shut ∷ [])) (sym is) made.stands);
        entries = entries;
        slot_count = ap (λ c. length c.slots) is ∙ stands.slot_count;
        worker_count = ap (λ c. length c.workers) is ∙ stands.worker_count;
      };
      seat = record {
        rest = rest;
        within = seat.within;
        fits = subst (λ l. FitsSlot (slot_of (after n (events_of l)) slot) hold) (sym seen) (subst (λ x. FitsSlot (slot_of x slot) hold) (sym (after_event n log slot shut)) (step_fits the_coder d slot shut hold refl fit));
      };
      shuts = record {
        shut = record {
          adds = record {
            before = events_of log;
            seen = prefix_events p.seen log t.seen;
            added = events-append log (entry p.number shut ∷ []);
            mine = ap (λ i. p.mine ++ i ∷ []) (sym (length-map log (λ (x : Noted). x.event)));
          };
          own = own_calls n slot q.seen rest.entries.own ∙ ap (calls_among (events_of q.seen)) (ap (λ k. places k q.seen) (sym rest.numbered) ∙ rest.places);
          history = rest.entries.steps;
        };
        hold = refl;
      };
    }
