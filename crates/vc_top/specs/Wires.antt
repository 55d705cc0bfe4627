-- How serving messages ends.
use Rattle.std.specs.Prelude.{ℕ, ◌≡◌, ◌<◌, List, [], length, Option, Some}
use Rattle.vc_crew.specs.Counts.{EngineCounts}
use Rattle.vc_model.specs.Messages.{messages}
use Rattle.vc_top.specs.declared.status.Status.{Status}
use Rattle.vc_top.specs.declared.status.Status.TheVariants.{Fine, Usage, ReadFault, WriteFault, BadLine, Damaged, ShortRaw, EngineFault, TooLong, NotARun, NoMemory, BadMessage}
use Rattle.vc_wire.specs.declared.ends.WireEnd.{WireEnd}
use Rattle.vc_wire.specs.declared.ends.WireEnd.TheVariants as ends
use Rattle.vc_wire.specs.Ends.{EndsAs, most_input, standing}

-- the status of each end of the wire
abbrev pub wire_status : WireEnd → Status
wire_status ends.Whole = Fine
wire_status (ends.BadMessage at) = BadMessage at
wire_status ends.ReadFault = ReadFault
wire_status ends.WriteFault = WriteFault
wire_status ends.EngineFault = EngineFault
wire_status ends.TooLong = TooLong
wire_status ends.NoMemory = NoMemory

-- the wire of so many slots ended so, on this input
abbrev pub WireEndsAs : ℕ → List ℕ → Option (List ℕ) → Option (List ℕ) → Option (List ℕ) → EngineCounts → EngineCounts → WireEnd → Type 0
WireEndsAs slots input left old new before now end =
    EndsAs slots (Some input) left (standing old before.runs before.faults) (standing new now.runs now.faults) end

-- How serving messages ends with this input, whose messages are those of its bytes. They are answered in order: all of them, or
-- those before the byte at which a bad one begins, or with a fault the first ones.
abbrev pub WireEnds : ℕ → List ℕ → Option (List ℕ) → Option (List ℕ) → Option (List ℕ) → EngineCounts → EngineCounts → Status → Type 0
WireEnds slots input left old new before now Fine = WireEndsAs slots input left old new before now ends.Whole
WireEnds slots input left old new before now (BadMessage at) = WireEndsAs slots input left old new before now (ends.BadMessage at)
WireEnds slots input left old new before now ReadFault = WireEndsAs slots input left old new before now ends.ReadFault
WireEnds slots input left old new before now WriteFault = WireEndsAs slots input left old new before now ends.WriteFault
WireEnds slots input left old new before now EngineFault = WireEndsAs slots input left old new before now ends.EngineFault
WireEnds slots input left old new before now TooLong = WireEndsAs slots input left old new before now ends.TooLong
WireEnds slots input left old new before now NoMemory = WireEndsAs slots input left old new before now ends.NoMemory
WireEnds slots input left old new before now Usage = ⊥
WireEnds slots input left old new before now (BadLine line) = ⊥
WireEnds slots input left old new before now Damaged = ⊥
WireEnds slots input left old new before now ShortRaw = ⊥
WireEnds slots input left old new before now (NotARun line) = ⊥

-- whole messages, and not too many bytes of them
pub record AreGoodMessages (input : List ℕ) : Type 0 where
  pub few : length input < most_input
  pub no_rest : (messages input).rest ≡ []
