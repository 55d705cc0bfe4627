use Rattle.std.proofs.Common.{◌≡◌, length, map}
use Rattle.std.specs.Prelude.{string_bytes}
use Rattle.vc_words.specs.Options.{are_options}
use Rattle.vc_words.proofs.options.are_options.Given as goal

abbrev pub invariant-loop-rest : goal.invariant-loop-rest
invariant-loop-rest l = are_options l.names (map (λ w. string_bytes w) l.options) ≡ are_options l.names (map (λ w. string_bytes w) l.rest)

abbrev pub decreases-loop-rest : goal.decreases-loop-rest
decreases-loop-rest l = length l.rest
