-- How the frames of a stream that is coded again go on with the results of the stream: each part, from one change of geometry to
-- the next, has an encoder of its own.
use Rattle.std.specs.Prelude.{ℕ, ◌≡◌, not, true, List, [], ◌∷◌, ◌++◌}
use Rattle.std.specs.List.{list_all, flat_map}
use Rattle.vc_defs.specs.declared.Geometry.{Geometry}
use Rattle.vc_defs.specs.Decoder.{FrameResult, Changed}
use Rattle.vc_defs.specs.Encoder.{RunRates}
use Rattle.vc_defs.specs.Outputs.{frames_of, frames_bytes, is_change_result, pictures_before_change, parts_of, input_results, chained}

-- the frames' bytes of the parts of results
abbrev pub chained_of : List FrameResult → RunRates → List ℕ
chained_of results rates =
    frames_bytes (flat_map (λ (part : Geometry × List (List (List ℕ))). frames_of part.0 rates part.1) (parts_of results))

-- none of them is a change of geometry
abbrev pub HasNoChange : List FrameResult → Type 0
HasNoChange results = list_all (λ (r : FrameResult). not (is_change_result r.kind)) results ≡ true

-- the frames' bytes of the pictures among the first results, before a change
abbrev pub part_bytes : Geometry → RunRates → List FrameResult → List ℕ
part_bytes g rates results = frames_bytes (frames_of g rates (pictures_before_change results))

-- What an input is coded into again is that of its results.
abbrev pub ChainedIsOfResults : Type 0
ChainedIsOfResults = (input : List ℕ) (rates : RunRates) → chained input rates ≡ chained_of (input_results input) rates

-- Before the first change there is nothing.
abbrev pub NoChangeNoFrames : Type 0
NoChangeNoFrames = (results : List FrameResult) (rates : RunRates) → HasNoChange results → chained_of results rates ≡ []

-- Behind a change the frames of the pictures that follow it come next.
abbrev pub PartsGoOn : Type 0
PartsGoOn =
    (past now : List FrameResult) (change : FrameResult) (g : Geometry) (rates : RunRates) → change.kind ≡ Changed g → HasNoChange now → chained_of (past ++ change ∷ now) rates ≡ chained_of past rates ++ part_bytes g rates now

-- They are the first ones there, whatever comes later.
abbrev pub PartsAreFirst : Type 0
PartsAreFirst =
    (past now later : List FrameResult) (change : FrameResult) (g : Geometry) (rates : RunRates) → change.kind ≡ Changed g → HasNoChange now →
    (more : List ℕ) × (chained_of (past ++ change ∷ (now ++ later)) rates ≡ (chained_of past rates ++ part_bytes g rates now) ++ more)
