-- What an encoder makes of the parts of a stream, segment after segment, of which each begins and ends with the slot closed.
use Rattle.std.specs.Prelude.{ℕ, ◌≡◌, ◌+◌, ◌≤◌, length, Option, None, List, [], ◌∷◌, ◌++◌}
use Rattle.std.specs.List.{flat_map}
use Rattle.std.specs.Io.KnownBytes.{Appends}
use Rattle.vc_base.specs.declared.Format.{Format}
use Rattle.vc_defs.specs.Encoder.{RunRates}
use Rattle.vc_model.specs.Solo.{SoloEvent}
use Rattle.vc_port.specs.Payloads.{slot_after, bytes_out, good_finishes}
use Rattle.vc_flow.specs.Calls.{HandedFirst}
use Rattle.vc_chain.specs.Segments.{coded, IsCoded, IsCut}

-- raw pictures of one format, one after another
abbrev pub RawPart : Type 0
RawPart = Format × List (List ℕ)

-- the frames' bytes of the parts, each by an encoder of its own
abbrev pub recoded : RunRates → List RawPart → List ℕ
recoded rates parts = flat_map (λ (part : RawPart). coded part.0 rates part.1) parts

-- how many pictures they have
abbrev pub picture_count : List RawPart → ℕ
picture_count [] = 0
picture_count (part ∷ parts) = length part.1 + picture_count parts

-- The slot is closed. What was handed out since the start, and written, is the frames of these parts, each of a job without a
-- fault.
pub record IsRecoded (start : List SoloEvent) (rates : RunRates) (parts : List RawPart) (first written : Option (List ℕ)) (events : List SoloEvent) : Type 0 where
  pub closed : slot_after events ≡ None
  pub wrote : Appends first written (recoded rates parts)
  pub handed : bytes_out events ≡ bytes_out start ++ recoded rates parts
  pub finishes : good_finishes start + picture_count parts ≤ good_finishes events

-- What was written is a prefix of what was handed out since the start, and of the frames of these parts.
pub record IsRecodedFront (start : List SoloEvent) (rates : RunRates) (parts : List RawPart) (first written : Option (List ℕ)) (events : List SoloEvent) : Type 0 where
  pub bytes : List ℕ
  pub wrote : Appends first written bytes
  pub handed : HandedFirst start bytes events
  pub others : List ℕ
  pub frames : recoded rates parts ≡ bytes ++ others

-- Before the first part nothing was done.
abbrev pub RecodingBegins : Type 0
RecodingBegins =
    (start : List SoloEvent) (rates : RunRates) (written : Option (List ℕ)) → slot_after start ≡ None → IsRecoded start rates [] written written start

-- A segment that ended adds its part.
abbrev pub SegmentsAddUp : Type 0
SegmentsAddUp =
    (start mid events : List SoloEvent) (format : Format) (rates : RunRates) (parts : List RawPart) (pictures : List (List ℕ))
    (first between written : Option (List ℕ)) → IsRecoded start rates parts first between mid →
    IsCoded mid format rates pictures between written events →
    IsRecoded start rates (parts ++ (format, pictures) ∷ []) first written events

-- One that was cut short adds a prefix of it.
abbrev pub CutSegmentsAddUp : Type 0
CutSegmentsAddUp =
    (start mid events : List SoloEvent) (format : Format) (rates : RunRates) (parts : List RawPart) (pictures : List (List ℕ))
    (first between written : Option (List ℕ)) → IsRecoded start rates parts first between mid →
    IsCut mid format rates pictures between written events →
    IsRecodedFront start rates (parts ++ (format, pictures) ∷ []) first written events
