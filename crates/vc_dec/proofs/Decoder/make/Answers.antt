use Rattle.vc_geom.specs.Pairs.{pair_of}
use Rattle.vc_dec.proofs.FreshDecoder.{fresh_keeps}
use Rattle.vc_dec.proofs.Decoder.make.Goals as goal

pub invariant_of-result : goal.invariant_of-result
invariant_of-result c =
    fresh_keeps (pair_of c.in_ok-m2m.m2m.formats) c.in_ok-m2m.m2m.pair c.in_ok-m2m.m2m.events c.new.result c.in_ok-m2m.ensures.formats c.in_ok-m2m.ensures.pair c.in_ok-m2m.ensures.events c.new.ensures c.in_ok-m2m.ensures.stands
