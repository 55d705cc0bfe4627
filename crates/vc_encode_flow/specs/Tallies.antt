-- What a tally says of bytes: how many there are, and their fold.
use Rattle.std.specs.Prelude.{ℕ, ◌+◌, ◌*◌, ◌%◌, List, length}
use Rattle.std.specs.List.{fold}
use Rattle.vc_defs.specs.Outputs.{fold_of}
use Rattle.vc_encode_flow.specs.declared.tallying.Tally.{Tally}

abbrev pub tally_of : List ℕ → Tally
tally_of bytes = record { bytes = length bytes; fold = fold_of bytes }

-- a fold that goes on over more bytes
abbrev pub folded : ℕ → List ℕ → ℕ
folded start bytes = fold (λ f b. (31 * f + b) % 4294967296) start bytes
