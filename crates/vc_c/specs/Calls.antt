-- What the calls of C come to. A device that is not made is none, and else it is its desk.
use Rattle.std.specs.Prelude.{ℕ, ◌≡◌, ◌<◌, ◌≤◌, ◌+◌, ◌^◌, ◌⊎◌, Bool, length, drop, Option, Some, None, List, [], ◌++◌}
use Rattle.vc_base.specs.Device.{DeviceEvent}
use Rattle.vc_base.specs.Limits.{most_slots, longest_message, longest_buffer}
use Rattle.vc_base.specs.declared.Side.TheVariants.{Cap}
use Rattle.vc_base.specs.declared.Call.TheVariants.{DqBuf}
use Rattle.vc_model.specs.Coder.{the_coder}
use Rattle.vc_model.specs.Messages.{asked_in}
use Rattle.vc_model.specs.Script.{Asked, AsksCall}
use Rattle.vc_model.specs.Wire.{asked_events, body_reply}
use Rattle.vc_desk.specs.declared.desk.Desk.{Desk}
use Rattle.vc_desk.specs.Desks.{after, IsDesk}
use Rattle.vc_wire.specs.Answers.{events_by}
use Rattle.vc_c.specs.declared.status.Status.{Status}
use Rattle.vc_c.specs.declared.status.Status.TheVariants.{Done, NotMade, InUse, BadNumber, BadLength, WantsRoom, NoMemory, TooManySteps}

-- the slots that a device may have
abbrev pub IsSlots : ℕ → Type 0
IsSlots slots = (0 < slots) × (slots ≤ most_slots)

-- what it comes to that C makes a device
abbrev pub Makes : ℕ → Option Desk → Option Desk → Status → Type 0
Makes slots None (Some desk) Done = IsDesk slots [] desk
Makes slots (Some desk) new InUse = new ≡ Some desk
Makes slots None None BadNumber = (slots ≡ 0) ⊎ (most_slots < slots)
Makes slots None None NoMemory = IsSlots slots
Makes slots old new status = ⊥

-- what it comes to that C frees one
abbrev pub Frees : Option Desk → Option Desk → Status → Type 0
Frees (Some desk) None Done = Unit {0}
Frees None None NotMade = Unit {0}
Frees old new status = ⊥

-- the bytes of a reply at most, without those that a call took from CAPTURE
abbrev pub short_room : ℕ
short_room = 29

-- the room that the reply to a body may need
abbrev pub room_for : Option Asked → ℕ
room_for (Some (AsksCall slot (DqBuf Cap block) bytes)) = short_room + longest_buffer
room_for asked = short_room

-- The room that C gave, before and after the call, and the size that the call told.
pub record Room : Type 0 where
  pub before : List ℕ
  pub now : List ℕ
  pub size : ℕ

abbrev pub NoReply : Room → Type 0
NoReply room = (room.now ≡ room.before) × (room.size ≡ 0)

-- The body was answered: what it asks was done by one free choice, whose reply, without its length, stands at the front of the
-- room, and the choice is read off it.
pub record IsReplied (n : ℕ) (history : List DeviceEvent) (asked : Option Asked) (room : Room) (desk : Desk) : Type 0 where
  pub fails : Bool
  pub reply : List ℕ
  pub told : reply ≡ body_reply the_coder (after n history) asked (events_by n history asked fails)
  pub choice_read : asked_events (after n history) asked reply ≡ events_by n history asked fails
  pub size : room.size ≡ length (drop 4 reply)
  pub written : room.now ≡ drop 4 reply ++ drop room.size room.before
  pub at : IsDesk n (history ++ events_by n history asked fails) desk

-- What the body asks was done by one free choice, and its reply is lost.
pub record IsLost (n : ℕ) (history : List DeviceEvent) (asked : Option Asked) (room : Room) (desk : Desk) : Type 0 where
  pub fails : Bool
  pub untold : NoReply room
  pub at : IsDesk n (history ++ events_by n history asked fails) desk

-- what it comes to that a desk answers a body
abbrev pub AnswersOn : List ℕ → Room → Desk → Desk → Status → Type 0
AnswersOn body room old new Done = (n : ℕ) (history : List DeviceEvent) → IsDesk n history old → IsReplied n history (asked_in n body) room new
AnswersOn body room old new NoMemory = (n : ℕ) (history : List DeviceEvent) → IsDesk n history old → IsLost n history (asked_in n body) room new
AnswersOn body room old new BadLength = ((length body ≡ 0) ⊎ (longest_message < length body)) × (new ≡ old) × NoReply room
AnswersOn body room old new TooManySteps = (2 ^ 62 ≤ old.core.steps) × (new ≡ old) × NoReply room
AnswersOn body room old new WantsRoom =
    ((n : ℕ) (history : List DeviceEvent) → IsDesk n history old → room.size ≡ room_for (asked_in n body)) × (length room.before < room.size) × (new ≡ old) × (room.now ≡ room.before)
AnswersOn body room old new status = ⊥

-- what it comes to that C asks a device
abbrev pub Answers : List ℕ → Room → Option Desk → Option Desk → Status → Type 0
Answers body room None None NotMade = NoReply room
Answers body room (Some old) (Some new) status = AnswersOn body room old new status
Answers body room old new status = ⊥
