-- A seat after its turn: it has seen the history as it was in the turn, with the entry that it noted, and is at rest again. What
-- it must know at rest follows from the log that it has seen.
use Rattle.std.proofs.Common.{ℕ, ◌≡◌, true, false, List, [], ◌∷◌, ◌++◌, length, refl, sym, ap, ◌∙◌, subst}
use mathlib.Core.List.{IsPrefix}
use Rattle.vc_base.specs.Device.{DeviceEvent}
use Rattle.vc_turn.specs.declared.rule.Noted.{Noted}
use Rattle.vc_turn.specs.Place.{Place, fresh_place}
use Rattle.vc_turn.specs.History.{places}
use Rattle.vc_turn.proofs.ListsByPlace.{places_own}
use Rattle.vc_model.specs.Standing.{CoreState}
use Rattle.vc_model.specs.Seats.{calls_among}
use Rattle.vc_queue.specs.Holds.{HoldState}
use Rattle.vc_shared.specs.declared.held.Sizes.{Sizes}
use Rattle.vc_shared.specs.Histories.{events_of, IsLog, StandsForLog}
use Rattle.vc_shared.specs.Handles.{handle_at, IsHandle, IsAtRest, IsSlotSeat}
use Rattle.vc_shared.proofs.EntriesAreOwned.{entry, own_calls}

-- the seat after a turn in which it noted the event
abbrev pub ended : Place → List Noted → ℕ → DeviceEvent → Place
ended p log ticket e =
    record p { seen = log ++ entry p.number e ∷ []; ticket = ticket; mine = p.mine ++ length log ∷ []; serving = false; noted = false }

-- the seat after a turn in which it noted nothing
abbrev pub looked : Place → List Noted → ℕ → Place
looked p log ticket = record p { seen = log; ticket = ticket; serving = false; noted = false }

pub ended_is : (p t n q : Place) (e : DeviceEvent) → t ≡ record p { seen = t.seen; ticket = t.ticket; serving = true; noted = false }
    → n ≡ record t { noted = true; seen = t.seen ++ entry t.number e ∷ []; mine = t.mine ++ length t.seen ∷ [] } → q ≡ record n { serving = false; noted = false }
    → q ≡ ended p t.seen t.ticket e
ended_is p t n q e taken noted put =
    put ∙ (ap (λ (x : Place). record x { serving = false; noted = false }) noted ∙ ap (λ (x : Place). record x { seen = t.seen ++ entry x.number e ∷ []; mine = x.mine ++ length t.seen ∷ []; serving = false; noted = false }) taken)

pub looked_is : (p t q : Place) → t ≡ record p { seen = t.seen; ticket = t.ticket; serving = true; noted = false } → q ≡ record t { serving = false; noted = false } → q ≡ looked p t.seen t.ticket
looked_is p t q taken put = put ∙ ap (λ (x : Place). record x { serving = false; noted = false }) taken

-- What a seat knows when it has the turn: the history begins with what it had seen, it has no more entries there, and the core
-- stands for it.
pub record IsInTurn (slots workers : ℕ) (p : Place) (core : CoreState) (log : List Noted) : Type 0 where
  pub seen : IsPrefix p.seen log
  pub own : places p.number log ≡ p.mine
  pub core_stands : StandsForLog slots workers core log

pub in_turn : (slots workers : ℕ) (p t : Place) (core : CoreState) → t ≡ record p { seen = t.seen; ticket = t.ticket; serving = true; noted = false } → IsPrefix p.seen t.seen → places t.number t.seen ≡ t.mine → StandsForLog slots workers core t.seen → IsInTurn slots workers p core t.seen
in_turn slots workers p t core taken seen own stands =
    record {
      seen = seen;
      own = ap (λ k. places k t.seen) (sym (ap (λ x. x.number) taken)) ∙ (own ∙ ap (λ x. x.mine) taken);
      core_stands = stands;
    }

-- the entries of the seat in what it had seen are those that it has in the history now
pub same_entries : (number count slots workers : ℕ) (p : Place) (core : CoreState) (log : List Noted) → IsAtRest number count slots p → IsInTurn slots workers p core log → places number log ≡ places number p.seen
same_entries number count slots workers p core log r t =
    ap (λ k. places k log) (sym r.numbered) ∙ (t.own ∙ (sym r.places ∙ ap (λ k. places k p.seen) r.numbered))

pub rests_after_note : (number count slots workers ticket : ℕ) (p : Place) (core : CoreState) (log : List Noted) (e : DeviceEvent) → IsAtRest number count slots p → IsInTurn slots workers p core log → IsLog slots (log ++ entry number e ∷ []) → IsAtRest number count slots (ended p log ticket e)
rests_after_note number count slots workers ticket p core log e r t l =
    record {
      numbered = r.numbered;
      idle = refl;
      made = r.made;
      alone = r.alone;
      entries = subst (λ k. IsLog slots (log ++ entry k e ∷ [])) (sym r.numbered) l;
      places = places_own p.number log (entry p.number e) refl ∙ ap (λ l. l ++ length log ∷ []) t.own;
    }

pub rests_after_look : (number count slots workers ticket : ℕ) (p : Place) (core : CoreState) (log : List Noted) → IsAtRest number count slots p → IsInTurn slots workers p core log → IsAtRest number count slots (looked p log ticket)
rests_after_look number count slots workers ticket p core log r t =
    record { numbered = r.numbered; idle = refl; made = r.made; alone = r.alone; entries = t.core_stands.entries; places = t.own }

-- what the seat has seen once it noted its entry
pub seen_after : (p t n : Place) (number : ℕ) (named e : DeviceEvent) → t ≡ record p { seen = t.seen; ticket = t.ticket; serving = true; noted = false }
    → p.number ≡ number → n ≡ record t { noted = true; seen = t.seen ++ entry t.number named ∷ []; mine = t.mine ++ length t.seen ∷ [] } → named ≡ e
    → n.seen ≡ t.seen ++ entry number e ∷ []
seen_after p t n number named e taken numbered noted same =
    ap (λ (x : Place). x.seen) noted ∙ (λ i. t.seen ++ entry ((ap (λ (x : Place). x.number) taken ∙ numbered) i) (same i) ∷ [])

-- a seat as it was made
pub rests_at_first : (number count slots : ℕ) (p : Place) → p ≡ fresh_place p.turn number count → IsAtRest number count slots p
rests_at_first number count slots p is =
    subst (IsAtRest number count slots) (sym is) (record { numbered = refl; idle = refl; made = refl; alone = refl; entries = record { steps = tt; own = tt }; places = refl })

-- the handle of a seat of a slot
pub is_handle : (p : Place) (sizes : Sizes) (slot : ℕ) (hold : HoldState) → IsSlotSeat p sizes slot hold → IsHandle (handle_at p sizes slot hold)
is_handle p sizes slot hold s =
    record {
      within = s.within;
      history = s.rest.entries.steps;
      own = own_calls sizes.slots slot p.seen s.rest.entries.own ∙ ap (calls_among (events_of p.seen)) (ap (λ k. places k p.seen) (sym s.rest.numbered) ∙ s.rest.places);
      fits = s.fits;
    }
