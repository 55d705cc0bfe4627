use Rattle.vc_model.proofs.BlockedChangesNothing.{blocked_changes_nothing}
use Rattle.vc_model.proofs.CoresStandForDevices.{new_core_stands, calls_stand, claims_stand, finishes_stand, shut_stands}
use Rattle.vc_model.proofs.laws.cores_stand.Goals as goal

pub returns-clause-new_core : goal.returns-clause-new_core
returns-clause-new_core c = new_core_stands

pub returns-clause-calls : goal.returns-clause-calls
returns-clause-calls c = calls_stand

pub returns-clause-claims : goal.returns-clause-claims
returns-clause-claims c = claims_stand

pub returns-clause-finishes : goal.returns-clause-finishes
returns-clause-finishes c = finishes_stand

pub returns-clause-shut : goal.returns-clause-shut
returns-clause-shut c = shut_stands

pub returns-clause-blocked : goal.returns-clause-blocked
returns-clause-blocked c = blocked_changes_nothing
