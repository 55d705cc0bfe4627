use Rattle.std.proofs.Common.{◌≡◌, None, subst, sym}
use Rattle.vc_model.specs.Coder.{the_coder}
use Rattle.vc_model.specs.Devices.{job_of}
use Rattle.vc_model.specs.Standing.{CoreState}
use Rattle.vc_model.specs.Core.{brought_back}
use Rattle.vc_core.specs.Jobs.{IsJobOfWorker, is_fault}
use Rattle.device_rows.proofs.Freeing.{frees}
use Rattle.device_rows.proofs.tests.run.Goals as goal

pub finish-requires-clause-job : goal.finish-requires-clause-job
finish-requires-clause-job g c =
    let h : IsJobOfWorker c.claim.new.self 0 c.in_ok-job.job = c.in_ok-job.ensures.has in
    record { slot = h.slot; back = brought_back the_coder h.given (is_fault c.run-finished.result); job = h.has; brings = c.run-finished.ensures.done h.slot h.given h.is_of }

pub returns-clause-free : goal.returns-clause-free
returns-clause-free g c some =
    let h : IsJobOfWorker c.claim.new.self 0 c.in_ok-job.job = c.in_ok-job.ensures.has in
    let back = brought_back the_coder h.given (is_fault c.run-finished.result) in
    subst (λ (d : CoreState). job_of d 0 ≡ None) (sym (c.finish.ensures.step h.slot back h.has (c.run-finished.ensures.done h.slot h.given h.is_of)))
    (frees c.claim.new.self 0 h.slot back h.has)
