use Rattle.vc_model.proofs.SlotsAreRepliedTo.{replies_are_whole, choices_give_replies}
use Rattle.vc_model.proofs.EachIsReplied.{each_is_replied}
use Rattle.vc_model.proofs.ChoicesHaveReplies.{choices_have_replies}
use Rattle.vc_model.proofs.laws.replies_are_in_turn.Goals as goal

pub returns-clause-whole : goal.returns-clause-whole
returns-clause-whole c = replies_are_whole

pub returns-clause-choices : goal.returns-clause-choices
returns-clause-choices c = choices_give_replies

pub returns-clause-each : goal.returns-clause-each
returns-clause-each c = each_is_replied

pub returns-clause-exist : goal.returns-clause-exist
returns-clause-exist c = choices_have_replies
