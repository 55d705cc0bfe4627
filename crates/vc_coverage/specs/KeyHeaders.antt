-- Streams with and without the header of an I frame.
-- Headers are docs/FORMAT.md, "Frame places"; results are its "The sequential decoder".
use Rattle.std.specs.Prelude.{◌≡◌, ℕ, List, [], Bool, false}
use Rattle.std.specs.List.{list_any}
use Rattle.std.specs.declared.option.Option.TheVariants.{None}
use Rattle.vc_base.specs.Limits.{most_bytes}
use Rattle.vc_defs.specs.Places.{leaves_a_byte}
use Rattle.vc_defs.specs.Finds.{Find, Head, Ended, finds}
use Rattle.vc_defs.specs.Decoder.{results}
use Rattle.vc_defs.specs.Outputs.{decode_output, result_count, is_damaged_input}

-- the header of an I frame is told
abbrev pub is_key_head : Find → Bool
is_key_head (Head position h) = h.key
is_key_head (Ended f) = false

-- the legal header of an I frame is known in the bytes
abbrev pub has_key_header : List ℕ → ℕ → Bool
has_key_header bytes limit = list_any is_key_head (finds bytes limit)

-- Bytes without the header of an I frame have no results from no geometry and no reference on.
abbrev pub NoResultsWithoutKeyHeader : Type 0
NoResultsWithoutKeyHeader = (bytes : List ℕ) (limit : ℕ) → has_key_header bytes limit ≡ false → results bytes limit None None ≡ []

-- An input without the header of an I frame has no picture, and is damaged only where a byte is in no frame.
abbrev pub NoOutputWithoutKeyHeader : Type 0
NoOutputWithoutKeyHeader = (input : List ℕ) → has_key_header input most_bytes ≡ false →
    (decode_output input ≡ []) × (result_count input ≡ 0) × (is_damaged_input input ≡ leaves_a_byte input most_bytes)
