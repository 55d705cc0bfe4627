use Rattle.std.proofs.Common.{refl}
use Rattle.vc_stream_laws.proofs.HandedOutIsAPrefix.{drain_is_over}
use Rattle.vc_flow.proofs.CallsHandOut.{bytes_stay}
use Rattle.vc_decode_flow.proofs.CallsKeepAStream.{change_told}
use Rattle.vc_decode_flow.proofs.draining.is_drained.Goals as goal

pub returns-in-Done-clause-over : goal.returns-in-Done-clause-over
returns-in-Done-clause-over g c = λ start f a b k u e. drain_is_over start _ _ f _ _ a b k u c.in-Done.ensures.does

pub returns-in-Done-clause-changed : goal.returns-in-Done-clause-changed
returns-in-Done-clause-changed g c = λ start f k w e. absurd (cc)

pub returns-in-Done-clause-bytes : goal.returns-in-Done-clause-bytes
returns-in-Done-clause-bytes g c = bytes_stay _ _ _ _ _ _ c.call_on.ensures.does refl

pub returns-in-Refused-Busy-clause-over : goal.returns-in-Refused-Busy-clause-over
returns-in-Refused-Busy-clause-over g c = λ start f a b k u e. absurd (cc)

pub returns-in-Refused-Busy-clause-changed : goal.returns-in-Refused-Busy-clause-changed
returns-in-Refused-Busy-clause-changed g c = λ start f k w e. change_told start _ _ f _ _ _ (cc) k w c.call_on.ensures.does

pub returns-in-Refused-Busy-clause-bytes : goal.returns-in-Refused-Busy-clause-bytes
returns-in-Refused-Busy-clause-bytes g c = bytes_stay _ _ _ _ _ _ c.call_on.ensures.does refl

pub returns-in_default : goal.returns-in_default
returns-in_default g c =
    record {
      ready = c.call_on.ensures.ready;
      follows = c.call_on.ensures.follows;
      over = λ start f a b k u. tt;
      changed = λ start f k w. tt;
      bytes = bytes_stay _ _ _ _ _ _ c.call_on.ensures.does refl;
      memory = refl;
    }

pub returns-in_default-2 : goal.returns-in_default-2
returns-in_default-2 g c =
    record {
      ready = c.call_on.ensures.ready;
      follows = c.call_on.ensures.follows;
      over = λ start f a b k u. tt;
      changed = λ start f k w. tt;
      bytes = bytes_stay _ _ _ _ _ _ c.call_on.ensures.does refl;
      memory = refl;
    }
