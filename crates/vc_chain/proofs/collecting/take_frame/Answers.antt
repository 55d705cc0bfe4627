use Rattle.std.proofs.Common.{◌≡◌, true, false}
use Rattle.vc_model.specs.Places.{has_error}
use Rattle.vc_flow.proofs.CallsHandOut.{hands_first}
use Rattle.vc_flow.proofs.FaultsShow.{goes_on_both, call_goes_on, shows_before, failed_later}
use Rattle.vc_flow.proofs.TakenIsThere.{there}
use Rattle.vc_encode_flow.proofs.TakenFramesAreThere.{is_taken, fault_taken, fault_behind}
use Rattle.vc_chain.proofs.collecting.take_frame.Goals as goal

pub take_fault-requires-clause-bad : goal.take_fault-requires-clause-bad
take_fault-requires-clause-bad g c =
    let error : has_error c.in-Taken.flags ≡ true = cc in
    let w = c.requires.flow in fault_behind w.start w.so_far _ _ _ _ _ _ _ _ _ _ error c.in-Taken.ensures.does w.flow

pub returns-then-is_failed-clause-engine : goal.returns-then-is_failed-clause-engine
returns-then-is_failed-clause-engine g c = λ start f w e.
    let error : has_error c.in-Taken.flags ≡ true = cc in
    let failed = fault_taken start f _ _ _ _ _ _ _ _ _ _ error c.in-Taken.ensures.does w in
    let taken = goes_on_both start _ _ w.goes_on (call_goes_on _ _ _ _ _ _ c.in-Taken.ensures.does) in
    record {
      shows = shows_before start _ _ taken c.take_fault.ensures.shows;
      failed = failed_later start _ _ c.take_fault.ensures.goes_on failed;
    }

pub returns-then-is_failed-clause-hands : goal.returns-then-is_failed-clause-hands
returns-then-is_failed-clause-hands g c = λ start bytes h.
    c.take_fault.ensures.hands start bytes (hands_first start bytes _ _ _ _ _ _ c.wait_on.ensures.does h)

pub returns-else-is_failed-clause-there : goal.returns-else-is_failed-clause-there
returns-else-is_failed-clause-there g c = there _ _ _ _ _ _ _ _ _ _ c.in-Taken.ensures.does c.wait_on.ensures.fit

pub returns-else-is_failed-clause-flow : goal.returns-else-is_failed-clause-flow
returns-else-is_failed-clause-flow g c = λ start f w.
    let fine : has_error c.in-Taken.flags ≡ false = cc in
    is_taken start f _ _ _ _ _ _ _ _ _ _ fine c.in-Taken.ensures.does c.wait_on.ensures.fit w

pub returns-else-is_failed-clause-hands : goal.returns-else-is_failed-clause-hands
returns-else-is_failed-clause-hands g c = λ start bytes h. hands_first start bytes _ _ _ _ _ _ c.wait_on.ensures.does h

pub returns-in_default : goal.returns-in_default
returns-in_default g c =
    record {
      ready = c.wait_on.ensures.ready;
      follows = c.wait_on.ensures.follows;
      there = tt;
      flow = λ start f w. tt;
      engine = λ start f w e. absurd (cc);
      hands = λ start bytes h. hands_first start bytes _ _ _ _ _ _ c.wait_on.ensures.does h;
      stops = (λ e. absurd (cc), λ e. absurd (cc), λ e. absurd (cc));
    }
