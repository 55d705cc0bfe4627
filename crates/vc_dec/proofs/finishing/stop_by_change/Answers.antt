use Rattle.std.proofs.Common.{sym, subst}
use Rattle.vc_pair.specs.Pairs.{PairState, FitsBoth}
use Rattle.vc_dec.proofs.HoldFitsAtAChange.{changed_fits}
use Rattle.vc_dec.proofs.finishing.stop_by_change.Goals as goal

pub returns-clause-fit : goal.returns-clause-fit
returns-clause-fit c hold f =
    c.settle.ensures.fit hold (subst (λ (x : PairState). FitsBoth x hold) (sym c.change.ensures) (changed_fits c.args.pair.now hold f))
