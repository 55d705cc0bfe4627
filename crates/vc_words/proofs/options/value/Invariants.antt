use Rattle.std.proofs.Common.{◌≡◌, length, map}
use Rattle.std.specs.Prelude.{string_bytes}
use Rattle.vc_words.specs.Options.{value_of}
use Rattle.vc_words.proofs.options.value.Given as goal

abbrev pub invariant-loop-rest : goal.invariant-loop-rest
invariant-loop-rest l = value_of l.name (map (λ w. string_bytes w) l.options) ≡ value_of l.name (map (λ w. string_bytes w) l.rest)

abbrev pub decreases-loop-rest : goal.decreases-loop-rest
decreases-loop-rest l = length l.rest
