use Rattle.std.proofs.Common.{ap}
use Rattle.std.specs.Prelude.{Err}
use Rattle.vc_flow.specs.declared.ends.Stop.{Stop}
use Rattle.vc_flow.proofs.FaultsShow.{has_failed_later}
use Rattle.vc_encode_flow.proofs.StoppingWritesAPrefix.{err_is}
use Rattle.vc_encode_flow.proofs.SharedBytesAreDefined.{is_shared}
use Rattle.vc_encode_flow.proofs.sharing.share_on.Goals as goal

pub returns-in-Ok-clause-bytes : goal.returns-in-Ok-clause-bytes
returns-in-Ok-clause-bytes g c =
    (is_shared _ _ _ _ _ _ c.in-Ok.tally c.requires.kept c.in-Ok.ensures.through c.close_slot.ensures.bytes c.close_slot.ensures.finishes).bytes

pub returns-in-Ok-clause-fold : goal.returns-in-Ok-clause-fold
returns-in-Ok-clause-fold g c =
    (is_shared _ _ _ _ _ _ c.in-Ok.tally c.requires.kept c.in-Ok.ensures.through c.close_slot.ensures.bytes c.close_slot.ensures.finishes).fold

pub returns-in-Ok-clause-handed : goal.returns-in-Ok-clause-handed
returns-in-Ok-clause-handed g c =
    (is_shared _ _ _ _ _ _ c.in-Ok.tally c.requires.kept c.in-Ok.ensures.through c.close_slot.ensures.bytes c.close_slot.ensures.finishes).handed

pub returns-in-Ok-clause-finishes : goal.returns-in-Ok-clause-finishes
returns-in-Ok-clause-finishes g c =
    (is_shared _ _ _ _ _ _ c.in-Ok.tally c.requires.kept c.in-Ok.ensures.through c.close_slot.ensures.bytes c.close_slot.ensures.finishes).finishes

pub returns-in-Err-clause-engine : goal.returns-in-Err-clause-engine
returns-in-Err-clause-engine g c = λ e.
    let fault = c.share_end.ensures.engine (err_is _ _ e) in
    (has_failed_later _ _ _ (c.in-Err.ensures.engine (ap (λ (s : Stop). Err s) fault)) c.close_slot.ensures.goes_on).failed

pub returns-in-Err-clause-shown : goal.returns-in-Err-clause-shown
returns-in-Err-clause-shown g c = λ e.
    let fault = c.share_end.ensures.engine (err_is _ _ e) in
    (has_failed_later _ _ _ (c.in-Err.ensures.engine (ap (λ (s : Stop). Err s) fault)) c.close_slot.ensures.goes_on).shows
