-- What the codec keeps, by its parts: an assembly for the bytes of frames, and references for the lengths of CAPTURE's
-- buffers.
use Rattle.std.specs.Prelude.{ℕ, ◌≡◌, Bool, true, false, is_some, map, Option, Some, None, List, [], ◌∷◌, ◌++◌}
use Rattle.std.specs.Option.{option_map}
use Rattle.vc_defs.specs.Decoder.{ReferenceState, fresh_decoder}
use Rattle.vc_defs.specs.Encoder.{fresh_encoder}
use Rattle.vc_resync.specs.Assembling.{AssemblyState, fresh_assembly}
use Rattle.vc_work.specs.References.{CodecReference, HasRoomFor}
use Rattle.vc_work.specs.Streams.{decoder_of, picture_of, kept_of}
use Rattle.vc_dec.specs.Decoders.{CodecParts}

abbrev pub limit_of : Option AssemblyState → Option ℕ
limit_of assembly = option_map (λ (a : AssemblyState). a.limit) assembly

-- for how long buffers a reference is
abbrev pub room_of : Option CodecReference → List ℕ
room_of None = []
room_of (Some r) = r.size ∷ []

-- for how long buffers the references are, the present one first
abbrev pub rooms_of : Option CodecReference → List CodecReference → List ℕ
rooms_of present others = room_of present ++ map (λ (r : CodecReference). r.size) others

-- The picture is in the present reference. The other ones serve buffers of other lengths.
abbrev pub parts_of : Option AssemblyState → Option CodecReference → List CodecReference → CodecParts
parts_of assembly present others =
    record {
      state = decoder_of (picture_of present) (kept_of assembly);
      limit = limit_of assembly;
      rooms = rooms_of present others;
      present = is_some present;
    }

-- an assembly that was made, where it was needed
abbrev pub new_assembly : Bool → ℕ → Option AssemblyState
new_assembly true limit = Some (fresh_assembly limit)
new_assembly false limit = None

-- a reference that was made, where it was needed
abbrev pub new_reference : Bool → ℕ → Option CodecReference
new_reference true size = Some (record { size = size; state = fresh_encoder })
new_reference false size = None

-- a codec without any memory
abbrev pub no_parts : CodecParts
no_parts = record { state = fresh_decoder; limit = None; rooms = []; present = false }

-- nothing of a codec that begins anew is kept
abbrev pub begun : Option ℕ → CodecParts → CodecParts
begun limit parts = record parts { state = fresh_decoder; limit = limit }

-- a codec that begins anew with an assembly, where there is one
abbrev pub supplied_with : Option AssemblyState → CodecParts → CodecParts
supplied_with None parts = parts
supplied_with (Some a) parts = begun (Some a.limit) parts

-- the references after one, where there is one, took the picture over
abbrev pub replaced_by : Option CodecReference → CodecParts → CodecParts
replaced_by None parts = parts
replaced_by (Some r) parts = record parts { rooms = r.size ∷ []; present = true }

-- a reference without a picture, where there is one, has room for this picture
abbrev pub CanTakeOver : Option ReferenceState → Option CodecReference → Type 0
CanTakeOver picture None = Unit {0}
CanTakeOver picture (Some r) = (r.state ≡ fresh_encoder) × HasRoomFor picture r.size

-- the references with one more, where there is one
abbrev pub rooms_with : Option CodecReference → List ℕ → List ℕ
rooms_with None rooms = rooms
rooms_with (Some r) rooms = rooms ++ r.size ∷ []

-- a reference that comes back, where one does, finds no other one in the present place
abbrev pub FindsItsPlace : Option CodecReference → Bool → Type 0
FindsItsPlace None present = Unit {0}
FindsItsPlace (Some r) present = present ≡ false

-- the references with one that came back, where one did, as the present one
abbrev pub present_with : Option CodecReference → CodecParts → CodecParts
present_with None parts = parts
present_with (Some r) parts = record parts { rooms = r.size ∷ parts.rooms; present = true }

-- the picture after a run: that of the reference that came back, where one did
abbrev pub picture_with : Option CodecReference → Option ReferenceState → Option ReferenceState
picture_with None picture = picture
picture_with (Some r) picture = r.state.reference

-- what the codec keeps once it has its assembly and its reference back
abbrev pub taken_back : Option AssemblyState → Option CodecReference → CodecParts → CodecParts
taken_back assembly reference parts =
    record (present_with reference parts) { state = decoder_of (picture_with reference parts.state.reference) (kept_of assembly); limit = limit_of assembly }
