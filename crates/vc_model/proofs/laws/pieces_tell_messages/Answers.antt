use Rattle.vc_model.proofs.PiecesTellMessages.{pieces_tell_messages, bad_length_stays}
use Rattle.vc_model.proofs.laws.pieces_tell_messages.Goals as goal

pub returns-clause-told : goal.returns-clause-told
returns-clause-told c = pieces_tell_messages

pub returns-clause-stays : goal.returns-clause-stays
returns-clause-stays c = bad_length_stays
