-- The pictures of the generator through one encoder, and the frames that it makes of them.
use Rattle.std.specs.Prelude.{ℕ, ◌≡◌, map, length, List}
use Rattle.std.specs.List.{range_with_len}
use Rattle.vc_base.specs.declared.Format.{Format}
use Rattle.vc_defs.specs.Encoder.{Encoded}
use Rattle.vc_defs.specs.Outputs.{default_rates, generated_pictures, frames_of, frames_bytes, shared_bytes}
use Rattle.vc_defs.specs.Raw.{raw_of, geometry_of, generated, yu12}
use Rattle.vc_model.specs.Solo.{SoloEvent}
use Rattle.vc_encode_flow.specs.Frames.{joined}
use Rattle.vc_encode_flow.specs.Flows.{IsFlow}
use Rattle.vc_encode_flow.specs.Tallies.{tally_of}
use Rattle.vc_encode_flow.specs.declared.tallying.Tally.{Tally}

-- the frames of the generator's first pictures for a number, in a raw format, at the rates that an encoder begins with
abbrev pub generated_frames : Format → ℕ → ℕ → List Encoded
generated_frames format count number = frames_of (geometry_of format) default_rates (generated_pictures (geometry_of format) count number)

abbrev pub generated_bytes : Format → ℕ → ℕ → List ℕ
generated_bytes format count number = frames_bytes (generated_frames format count number)

-- for `YU12` they are what the sharing command counts and folds
abbrev pub SharedInYu12 : Type 0
SharedInYu12 = (format : Format) (count number : ℕ) → format.fourcc ≡ yu12 →
    generated_bytes format count number ≡ shared_bytes format.width format.height count number

-- the generator's picture n for a number, in a raw format
abbrev pub raw_picture : Format → ℕ → ℕ → List ℕ
raw_picture format number n = raw_of format.fourcc (generated (geometry_of format) n number)

-- its first pictures
abbrev pub raw_pictures : Format → ℕ → ℕ → List (List ℕ)
raw_pictures format number count = map (raw_picture format number) (range_with_len 0 count)

-- So many pictures of the generator were queued. So many frames were handed out, and the tally is that of their bytes.
pub record IsSharing (start : List SoloEvent) (format : Format) (number queued taken : ℕ) (tally : Tally) (events : List SoloEvent) : Type 0 where
  pub frames : List (List ℕ)
  pub count : length frames ≡ taken
  pub flow : IsFlow start (record { format = format; rates = default_rates; queued = raw_pictures format number queued; taken = frames }) events
  pub tallied : tally ≡ tally_of (joined frames)
