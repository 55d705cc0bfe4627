use Rattle.vc_dec.proofs.finishing.hand_back.Goals as goal

pub returns-in-None-clause-fit : goal.returns-in-None-clause-fit
returns-in-None-clause-fit c hold f = c.settle.ensures.fit hold (c.put_dest.ensures.fit hold f)
