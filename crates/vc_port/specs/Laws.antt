-- Laws of what a call on a port with payloads does.
use Rattle.std.specs.Prelude.{ℕ, ◌≡◌, ◌<◌, ◌≤◌, ◌++◌, length, take, Bool, Option, Some, None, List}
use Rattle.std.specs.Option.{option_map}
use Rattle.vc_base.specs.declared.Side.{Side}
use Rattle.vc_base.specs.declared.Side.TheVariants.{Cap}
use Rattle.vc_base.specs.declared.Stamp.{Stamp}
use Rattle.vc_base.specs.declared.Call.{Call}
use Rattle.vc_base.specs.declared.Call.TheVariants.{DqBuf}
use Rattle.vc_base.specs.declared.Reply.{Reply}
use Rattle.vc_base.specs.declared.Reply.TheVariants.{Taken}
use Rattle.vc_base.specs.Buffers.{with_index}
use Rattle.vc_model.specs.Context.{Slot, queue_of}
use Rattle.vc_model.specs.Handed.{handed_by_call}
use Rattle.vc_model.specs.Places.{AreHonest}
use Rattle.vc_model.specs.Solo.{SoloEvent}
use Rattle.vc_queue.specs.Holds.{HoldState, held_payload}
use Rattle.vc_context.specs.Payloads.{FitsSlot}
use Rattle.vc_port.specs.Payloads.{IsCallOn, slot_after, told_at, bytes_out, good_finishes}

-- The bytes that were handed out on CAPTURE grow by those that the call hands out, and finishes are never taken back.
pub record HandsOn (old new : List SoloEvent) (request : Call) (told : Reply) (handed : List ℕ) : Type 0 where
  pub bytes : bytes_out new ≡ bytes_out old ++ handed_by_call request told handed
  pub finishes : good_finishes old ≤ good_finishes new

abbrev pub CallsHandOut : Type 0
CallsHandOut =
    (old new : List SoloEvent) (before after : HoldState) (request : Call) (told : Reply) → (c : IsCallOn old before request told new after) → HandsOn old new request told c.handed

-- the payload is there, and begins with these bytes
abbrev pub BeginsWith : Option (List ℕ) → ℕ → List ℕ → Type 0
BeginsWith None used bytes = ⊥
BeginsWith (Some payload) used bytes = take used payload ≡ bytes

-- After a Taken on CAPTURE the payload of the buffer is there, and its first used bytes are the bytes handed out.
abbrev pub TakenIsHandedOut : Type 0
TakenIsHandedOut =
    (old new : List SoloEvent) (before after : HoldState) (block : Bool) (index used flags seq : ℕ) (stamp : Stamp) → (c : IsCallOn old before (DqBuf Cap block) (Taken index used flags seq stamp) new after) → FitsSlot (slot_after new) after → BeginsWith (held_payload after Cap index) used c.handed

-- the length of the buffer with the index, where the user holds it
abbrev pub held_length : Slot → Side → ℕ → Option ℕ
held_length None side index = None
held_length (Some c) side index = option_map (λ b. b.size) (with_index index (queue_of c side).held)

-- A payload is there exactly for each buffer that the user holds, with the buffer's length.
abbrev pub HeldIsThere : Type 0
HeldIsThere =
    (events : List SoloEvent) (hold : HoldState) (side : Side) (index : ℕ) → FitsSlot (slot_after events) hold → index < 32 → option_map length (held_payload hold side index) ≡ held_length (slot_after events) side index

-- Where the payloads before a call are those of the held buffers, the call keeps the events honest: a QBuf hands over as many
-- bytes as it says.
abbrev pub CallsAreHonest : Type 0
CallsAreHonest =
    (old new : List SoloEvent) (before after : HoldState) (request : Call) (told : Reply) → IsCallOn old before request told new after → FitsSlot (slot_after old) before → AreHonest (told_at old) → AreHonest (told_at new)
