use Rattle.std.proofs.Common.{rules}
use Rattle.vc_engines.specs.Kinds.{kind_in_turn, kind_of}
use Rattle.vc_engines.proofs.EnginesInTurn.{one_more, runs_in, still_none}
use Rattle.vc_engines.proofs.program.program_engines.Goals as goal

pub loop-place-preserved : goal.loop-place-preserved
loop-place-preserved c = (
  search rules,
  one_more (λ e. kind_of e) kind_in_turn c.loop-place.engines.items c.push.new.self.items c.engine_of.result c.loop-place.place
      c.loop-place.invariant.1 (search rules) (search rules),
  still_none (λ e. runs_in e) c.loop-place.engines.items c.push.new.self.items c.engine_of.result c.loop-place.invariant.2 c.engine_of.ensures.no_runs
      (search rules),
)

pub returns-clause-no_runs : goal.returns-clause-no_runs
returns-clause-no_runs c = c.loop-place.invariant.2
