-- Without the header of an I frame nothing is given: a decoder that has no geometry skips the frames of pictures that refer
-- to others, so that an input without such a header has no results and no output.
use Rattle.std.proofs.Common.{◌≡◌, ◌∙◌, ap, refl, ℕ, List, [], ◌∷◌, length, map}
use Rattle.std.specs.Prelude.{Bool, true, false, ◌||◌, not}
use Rattle.std.specs.List.{list_any, filter, flat_map}
use Rattle.std.specs.declared.option.Option.{Option}
use Rattle.std.specs.declared.option.Option.TheVariants.{Some, None}
use Rattle.vc_defs.specs.declared.Header.{Header}
use Rattle.vc_defs.specs.Places.{Frame, OpenFrame, places, leaves_a_byte}
use Rattle.vc_defs.specs.Finds.{finds_in, finds}
use Rattle.vc_defs.specs.Decoder.{FrameResult, GivenResult, BetweenFrames, given_at_header, given_in_frames, given_then, given_in, results}
use Rattle.vc_base.specs.Limits.{most_bytes}
use Rattle.vc_defs.specs.Outputs.{input_results, picture_bytes, is_damage, is_change_result, decode_output, result_count, is_damaged_input}
use Rattle.vc_coverage.specs.KeyHeaders.{is_key_head, NoResultsWithoutKeyHeader, NoOutputWithoutKeyHeader}

-- no geometry and no reference
abbrev nothing_yet : BetweenFrames
nothing_yet = record { geometry = None; reference = None }

or_parts : (a b : Bool) → (a || b) ≡ false → (a ≡ false) × (b ≡ false)
or_parts true b e = absurd cc
or_parts false b e = (refl, e)

-- a P frame's header changes nothing
no_change : (position : ℕ) (h : Header) → h.key ≡ false → given_at_header position h nothing_yet ≡ []
no_change position h e = rw e

none_given : (fs : List Frame) (u : Option OpenFrame) → list_any is_key_head (finds_in fs u) ≡ false → given_in_frames fs u nothing_yet ≡ []
none_given [] None e = refl
none_given [] (Some f) e = no_change f.position f.header (or_parts f.header.key false e).0
none_given (f ∷ fs) u e =
    let p = or_parts f.header.key (list_any is_key_head (finds_in fs u)) e in
    ap (λ b. given_then (not b) f nothing_yet (λ later. given_in_frames fs u later)) p.0 ∙ none_given fs u p.1

pub no_results_without_key_header : NoResultsWithoutKeyHeader
unfolding results given_in finds
no_results_without_key_header bytes limit e = ap (λ (xs : List GivenResult). map (λ (f : GivenResult). f.result) xs) (none_given (places bytes limit).frames (places bytes limit).unfinished e)

pub no_output_without_key_header : NoOutputWithoutKeyHeader
unfolding decode_output result_count is_damaged_input
no_output_without_key_header input e =
    let none : input_results input ≡ [] = no_results_without_key_header input most_bytes e in (
      ap (λ (rs : List FrameResult). flat_map (λ (r : FrameResult). picture_bytes r.kind) rs) none,
      ap (λ (rs : List FrameResult). length (filter (λ (r : FrameResult). not (is_change_result r.kind)) rs)) none,
      ap (λ (rs : List FrameResult). list_any (λ (r : FrameResult). is_damage r.kind) rs || leaves_a_byte input most_bytes) none,
    )
