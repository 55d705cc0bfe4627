use Rattle.std.proofs.Common.{◌≡◌, map, vec_len}
use Rattle.std.specs.Prelude.{All}
use Rattle.std.specs.List.{range_with_len}
use Rattle.vc_engines.specs.Kinds.{kind_in_turn, kind_of}
use Rattle.vc_engines.proofs.EnginesInTurn.{runs_in}
use Rattle.vc_engines.proofs.program.program_engines.Given as goal

abbrev pub invariant-loop-place : goal.invariant-loop-place
invariant-loop-place l =
    (vec_len l.engines ≡ l.place)
    × (map (λ e. kind_of e) l.engines.items ≡ map kind_in_turn (range_with_len 0 l.place))
    × All (λ e. runs_in e ≡ 0) l.engines.items
