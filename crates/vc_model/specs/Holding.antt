-- Which buffers a user holds: that is decided by his own calls and their replies alone, whatever claims, finishes and calls on
-- other slots come between (docs/DEVICE.md, "One context").
use Rattle.std.specs.Prelude.{ℕ, ◌≡◌, ◌+◌, Bool, false, not, ◌&&◌, ◌==◌, nat_lt, if◌then◌else◌, None, Some, List, [], ◌∷◌}
use Rattle.std.specs.List.{filter, list_any}
use Rattle.vc_base.specs.declared.Side.{Side}
use Rattle.vc_base.specs.declared.Call.{Call}
use Rattle.vc_base.specs.declared.Call.TheVariants.{Open, Close, ReqBufs, CreateBufs, QBuf, DqBuf, StreamOff}
use Rattle.vc_base.specs.declared.Reply.{Reply}
use Rattle.vc_base.specs.declared.Reply.TheVariants.{Done, Count, Created, Taken}
use Rattle.vc_model.specs.Coder.{Coder}
use Rattle.vc_model.specs.Context.{Slot, queue_of}
use Rattle.vc_model.specs.Solo.{SoloEvent, Called, SoloReply, Answered, SoloEntry, solo_run, solo_slot}
use Rattle.vc_model.specs.Sound.{count_index}
use Rattle.vc_model.specs.Places.{same_side}

-- What the calls on one queue leave: how many buffers it has, and which were queued and did not come back.
pub record Holding : Type 0 where
  pub count : ℕ
  pub away : List ℕ

abbrev pub no_buffers : Holding
no_buffers = record { count = 0; away = [] }

-- what a call and its reply make of it
abbrev pub holding_after_call : Side → Holding → Call → Reply → Holding
holding_after_call side h (Open kind) Done = no_buffers
holding_after_call side h Close Done = no_buffers
holding_after_call side h (ReqBufs on asked) (Count count) =
    if same_side on side then record { count = count; away = [] } else h
holding_after_call side h (CreateBufs on asked length) (Created first count) =
    if same_side on side then record h { count = first + count } else h
holding_after_call side h (QBuf on index used stamp) Done =
    if same_side on side then record h { away = index ∷ h.away } else h
holding_after_call side h (DqBuf on block) (Taken index used flags seq stamp) =
    if same_side on side then record h { away = filter (λ j. not (j == index)) h.away } else h
holding_after_call side h (StreamOff on) Done = if same_side on side then record h { away = [] } else h
holding_after_call side h request reply = h

-- claims and finishes leave it
abbrev pub holding_after : Side → Holding → SoloEvent → SoloReply → Holding
holding_after side h (Called request bytes found) (Answered reply handed) = holding_after_call side h request reply
holding_after side h e told = h

abbrev pub holding_from : Side → Holding → List SoloEntry → Holding
holding_from side h [] = h
holding_from side h (x ∷ xs) = holding_from side (holding_after side h x.event x.told) xs

-- what the calls of a run leave, from a closed slot on
abbrev pub holding_of : Side → List SoloEntry → Holding
holding_of side entries = holding_from side no_buffers entries

-- the buffer with the index is there and is with the user
abbrev pub is_held_by : Holding → ℕ → Bool
is_held_by h index = nat_lt index h.count && not (list_any (λ j. j == index) h.away)

-- whether the user holds the buffer with the index
abbrev pub is_held : Side → ℕ → Slot → Bool
is_held side index None = false
is_held side index (Some c) = nat_lt 0 (count_index (queue_of c side).held index)

-- The user holds exactly the buffers that his own calls and their replies say.
abbrev pub HeldByCalls : Type 0
HeldByCalls =
    (coder : Coder) (events : List SoloEvent) (side : Side) (index : ℕ) → is_held side index (solo_slot coder None events) ≡ is_held_by (holding_of side (solo_run coder None events)) index
