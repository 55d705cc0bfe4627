use Rattle.vc_model.proofs.MessagesContinue.{messages_continue}
use Rattle.vc_model.proofs.PiecesTellMessages.{messages_are_framed}
use Rattle.vc_model.proofs.laws.messages_continue.Goals as goal

pub returns-clause-cut : goal.returns-clause-cut
returns-clause-cut c = messages_continue

pub returns-clause-framed : goal.returns-clause-framed
returns-clause-framed c = messages_are_framed
