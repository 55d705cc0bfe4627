-- What each step tells.
use Rattle.std.specs.Prelude.{◌≡◌, ◌≢◌, ℕ, ◌+◌, ◌^◌, ◌<◌, true, false, List, [], ◌∷◌, ◌++◌, length, Option, Some}
use mathlib.Core.List.{IsPrefix}
use Rattle.atomic_table.specs.Table.{Step, Me}
use Rattle.vc_base.specs.Device.{DeviceEvent}
use Rattle.vc_turn.specs.declared.rule.Noted.{Noted}
use Rattle.vc_turn.specs.declared.rule.Kept.{Kept}
use Rattle.vc_turn.specs.declared.rule.View.{View}
use Rattle.vc_turn.specs.History.{places}
use Rattle.vc_turn.specs.Rule.{newcomer}

-- the seat with this ticket
abbrev pub in_line : View → ℕ → View
in_line v t = record v { queued = true; ticket = t }

-- the seat in its turn, which has seen this history
abbrev pub at_turn : View → List Noted → View
at_turn v log = record v { serving = true; noted = false; seen = log }

abbrev pub entry : View → DeviceEvent → Noted
entry v e = record { seat = v.number; event = e }

-- the seat after it noted the event
abbrev pub with_note : View → DeviceEvent → View
with_note v e = record v { noted = true; seen = v.seen ++ entry v e ∷ []; mine = v.mine ++ length v.seen ∷ [] }

-- the seat after its turn
abbrev pub at_rest : View → View
at_rest v = record v { queued = false; serving = false; noted = false }

-- the maker, when it has made one more
abbrev pub with_one_more : View → View
with_one_more v = record v { made = v.made + 1 }

-- the seat that is made next
abbrev pub next_seat : View → View
next_seat v = newcomer v.made 0

abbrev pub kept_of : View → Kept
kept_of w = record { number = w.number; seen = w.seen; mine = w.mine }

-- seat 0 with the lists of another
abbrev pub beside : View → View → View
beside v w = record v { kept = v.kept ++ kept_of w ∷ [] }

abbrev pub Sat : Type 0 → Type 0
Sat V = Me (Option V) View

-- where the word was the one expected, it is the seat's ticket. Else nothing changed
abbrev pub draws : {V : Type 0} → Step (Option V) → Sat V → ℕ → Sat V → Type 0
draws s m found m' = (found ≡ s.first → m' ≡ (in_line m.0 found, m.1)) × (found ≢ s.first → m' ≡ m)

-- The seat is in its turn and has the value, which stands for the history. What the seat had seen is a prefix of that, and
-- its own entries are those that it noted.
abbrev pub TakesTurn : {V : Type 0} → (V → List Noted → Type 0) → Sat V → Sat V → Type 0
TakesTurn {V} stands m m' =
    (value : V) × (log : List Noted) × (m' ≡ (at_turn m.0 log, (0, Some value) ∷ m.1)) × stands value log × IsPrefix m.0.seen log × (places m.0.number log ≡ m.0.mine) × (length log < 2 ^ 62)

-- where the ticket is served, the seat takes its turn. Else nothing changed
abbrev pub looks : {V : Type 0} → (V → List Noted → Type 0) → Step (Option V) → Sat V → ℕ → Sat V → Type 0
looks {V} stands s m found m' =
    (found ≡ m.0.ticket → TakesTurn stands m m')
    × (found ≢ m.0.ticket → m' ≡ m)

abbrev pub notes : {V : Type 0} → DeviceEvent → Step (Option V) → Sat V → ℕ → Sat V → Type 0
notes e s m found m' = m' ≡ (with_note m.0 e, m.1)

-- the slot goes home
abbrev pub passes : {V : Type 0} → Step (Option V) → Sat V → ℕ → Sat V → Type 0
passes s m found m' = m' ≡ (at_rest m.0, [])
