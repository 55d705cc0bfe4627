use Rattle.std.proofs.Common.{sym, ap, ◌∙◌, Some}
use Rattle.vc_model.specs.Context.{Context}
use Rattle.vc_model.specs.Runs.{is_claimable}
use Rattle.vc_copy.proofs.ClaimsTakeTheFront.{claimable_is}
use Rattle.vc_copy.proofs.Copier.ready.Goals as goal

pub returns : goal.returns
returns c =
    rw (c.is_due.ensures, c.has_work-source.ensures, c.has_work-dest.ensures) (sym (claimable_is c.self.inside.size c.self.inside.out c.self.inside.cap c.self.inside.running) ∙ ap (λ (x : Context). is_claimable (Some x)) c.self.view_is)
