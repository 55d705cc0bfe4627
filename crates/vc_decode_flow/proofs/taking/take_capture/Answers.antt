use Rattle.std.proofs.Common.{refl, false}
use Rattle.vc_flow.proofs.CallsHandOut.{hands_first, bytes_stay}
use Rattle.vc_flow.proofs.TakenIsThere.{there}
use Rattle.vc_stream_laws.proofs.CallsOfAClient.{quiet_calls_keep}
use Rattle.vc_decode_flow.proofs.TakenPicturesAreThere.{not_true, not_false, taken_now, taken_last, there_kept}
use Rattle.vc_decode_flow.proofs.taking.take_capture.Goals as goal

pub returns-then-not-taken-clause-there : goal.returns-then-not-taken-clause-there
returns-then-not-taken-clause-there g c = there _ _ _ _ _ _ _ _ _ _ c.in-Taken.ensures.does c.call_on.ensures.fit

pub returns-then-not-taken-clause-taken : goal.returns-then-not-taken-clause-taken
returns-then-not-taken-clause-taken g c = λ start f w.
    taken_now start _ _ f _ _ _ _ _ _ _ _ _ _ c.is_failed.ensures (not_true _ c.if-not-taken.true) c.call_on.ensures.fit c.in-Taken.ensures.does w

pub returns-then-not-taken-clause-hands : goal.returns-then-not-taken-clause-hands
returns-then-not-taken-clause-hands g c = λ start bytes h. hands_first start bytes _ _ _ _ _ _ c.call_on.ensures.does h

pub returns-in_err-find_stopped-in-Taken-clause-hands : goal.returns-in_err-find_stopped-in-Taken-clause-hands
returns-in_err-find_stopped-in-Taken-clause-hands g c = λ start bytes h.
    c.find_stopped.ensures.hands start bytes (hands_first start bytes _ _ _ _ _ _ c.call_on.ensures.does h)

pub returns-in_ok-find_stopped-in-Taken-clause-there : goal.returns-in_ok-find_stopped-in-Taken-clause-there
returns-in_ok-find_stopped-in-Taken-clause-there g c =
    there_kept (g.P.PayloadPort.hold c.call_on.new.port) (g.P.PayloadPort.hold c.find_stopped.new.port) _ _ c.in_ok-find_stopped-in-Taken.ensures.payloads (there _ _ _ _ _ _ _ _ _ _ c.in-Taken.ensures.does c.call_on.ensures.fit)

pub returns-in_ok-find_stopped-in-Taken-clause-taken : goal.returns-in_ok-find_stopped-in-Taken-clause-taken
returns-in_ok-find_stopped-in-Taken-clause-taken g c = λ start f w.
    taken_last start _ _ _ f (g.P.PayloadPort.hold c.call_on.new.port) (g.P.PayloadPort.hold c.find_stopped.new.port) _ _ _ _
    (not_false _ c.if-not-taken.false) c.in_ok-find_stopped-in-Taken.ensures.payloads c.in_ok-find_stopped-in-Taken.ensures.bytes
    (λ h v. c.in_ok-find_stopped-in-Taken.ensures.stream start h v)
    (taken_now start _ _ f _ _ _ _ _ _ _ _ _ false c.is_failed.ensures refl c.call_on.ensures.fit c.in-Taken.ensures.does w)

pub returns-in_ok-find_stopped-in-Taken-clause-hands : goal.returns-in_ok-find_stopped-in-Taken-clause-hands
returns-in_ok-find_stopped-in-Taken-clause-hands g c = λ start bytes h.
    c.find_stopped.ensures.hands start bytes (hands_first start bytes _ _ _ _ _ _ c.call_on.ensures.does h)

pub returns-in-Refused-clause-taken : goal.returns-in-Refused-clause-taken
returns-in-Refused-clause-taken g c = λ start f w.
    record {
      stream = quiet_calls_keep start _ _ f _ _ _ _ refl refl w c.in-Refused.ensures.does;
      handed = bytes_stay _ _ _ _ _ _ c.in-Refused.ensures.does refl;
    }

pub returns-in-Refused-clause-hands : goal.returns-in-Refused-clause-hands
returns-in-Refused-clause-hands g c = λ start bytes h. hands_first start bytes _ _ _ _ _ _ c.call_on.ensures.does h

pub returns-in_default : goal.returns-in_default
returns-in_default g c =
    record {
      ready = c.call_on.ensures.ready;
      follows = c.call_on.ensures.follows;
      there = tt;
      taken = λ start f w. tt;
      hands = λ start bytes h. hands_first start bytes _ _ _ _ _ _ c.call_on.ensures.does h;
      memory = refl;
    }
