use Rattle.std.proofs.Common.{sym, ap, ◌∙◌, subst}
use Rattle.vc_pair.specs.Pairs.{FitsBoth, given}
use Rattle.vc_pair.proofs.SettlingKeepsTheHold.{fits_settled}
use Rattle.vc_pair.proofs.Pair.settle.Goals as goal

pub returns-clause-fit : goal.returns-clause-fit
returns-clause-fit c = λ hold f.
    subst (λ p. FitsBoth p hold) (sym (c.give_last.ensures.after ∙ ap (λ q. given q q.phase) c.owe.ensures)) (fits_settled c.args.self.now hold f)
