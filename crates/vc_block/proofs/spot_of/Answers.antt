use Rattle.vc_block.proofs.spot_of.Goals as goal

pub returns-clause-spot : goal.returns-clause-spot
returns-clause-spot c = record {
  inside = c.requires.number;
  left = c.corner_of-left.ensures.left;
  top = c.corner_of-left.ensures.top;
  room = c.corner_of-left.ensures.room;
}
