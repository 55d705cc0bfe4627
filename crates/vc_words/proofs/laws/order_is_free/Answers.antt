use Rattle.vc_words.proofs.Order.{order_is_free}
use Rattle.vc_words.proofs.laws.order_is_free.Goals as goal

pub returns : goal.returns
returns c = order_is_free
