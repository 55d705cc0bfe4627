use Rattle.vc_model.proofs.SlotsAreRepliedTo.{slots_are_replied_to, same_events_same_replies}
use Rattle.vc_model.proofs.WireIsHonest.{wire_is_honest}
use Rattle.vc_model.proofs.laws.slots_are_replied_to.Goals as goal

pub returns-clause-own : goal.returns-clause-own
returns-clause-own c = slots_are_replied_to

pub returns-clause-same : goal.returns-clause-same
returns-clause-same c = same_events_same_replies

pub returns-clause-honest : goal.returns-clause-honest
returns-clause-honest c = wire_is_honest
