use Rattle.vc_laws.proofs.PicturesAreSources.{encodes_in_order, drains_encode_all}
use Rattle.vc_laws.proofs.laws.drains_encode_all.Goals as goal

pub returns-clause-order : goal.returns-clause-order
returns-clause-order c = encodes_in_order

pub returns-clause-drains : goal.returns-clause-drains
returns-clause-drains c = drains_encode_all
