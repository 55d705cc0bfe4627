use Rattle.std.proofs.Common.{rules}
use Rattle.vc_engines.specs.Kinds.{kind_of}
use Rattle.vc_engines.proofs.EnginesInTurn.{runs_in, all_and_one, still_none}
use Rattle.vc_engines.proofs.program.engines_of_kind.Goals as goal

pub loop-place-preserved : goal.loop-place-preserved
loop-place-preserved c = (
  search rules,
  all_and_one (λ e. kind_of e) c.args.kind c.loop-place.engines.items c.push.new.self.items c.engine_of.result
      c.loop-place.invariant.1 c.engine_of.ensures.kind (search rules),
  still_none (λ e. runs_in e) c.loop-place.engines.items c.push.new.self.items c.engine_of.result c.loop-place.invariant.2 c.engine_of.ensures.no_runs
      (search rules),
)

pub returns-clause-no_runs : goal.returns-clause-no_runs
returns-clause-no_runs c = c.loop-place.invariant.2
