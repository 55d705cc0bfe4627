use Rattle.std.proofs.Common.{◌≡◌, vec_len}
use Rattle.std.specs.Prelude.{All}
use Rattle.vc_engines.specs.Kinds.{kind_of}
use Rattle.vc_engines.proofs.EnginesInTurn.{runs_in}
use Rattle.vc_engines.proofs.program.engines_of_kind.Given as goal

abbrev pub invariant-loop-place : goal.invariant-loop-place
invariant-loop-place l =
    (vec_len l.engines ≡ l._place)
    × All (λ e. kind_of e ≡ l.kind) l.engines.items
    × All (λ e. runs_in e ≡ 0) l.engines.items
