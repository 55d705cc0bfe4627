use Rattle.std.proofs.Common.{◌≡◌, true, false}
use Rattle.vc_model.specs.Places.{has_error}
use Rattle.vc_flow.proofs.CallsHandOut.{hands_first}
use Rattle.vc_encode_flow.proofs.SourcesGoOn.{source_taken, source_failed}
use Rattle.vc_chain.proofs.collecting.take_source.Goals as goal

pub returns-then-is_failed-clause-engine : goal.returns-then-is_failed-clause-engine
returns-then-is_failed-clause-engine g c = λ start f w e.
    let error : has_error c.in-Taken.flags ≡ true = cc in
    source_failed start f _ _ _ _ _ _ _ _ _ _ error c.in-Taken.ensures.does w

pub returns-then-is_failed-clause-hands : goal.returns-then-is_failed-clause-hands
returns-then-is_failed-clause-hands g c = λ start bytes h. hands_first start bytes _ _ _ _ _ _ c.wait_on.ensures.does h

pub returns-else-is_failed-clause-flow : goal.returns-else-is_failed-clause-flow
returns-else-is_failed-clause-flow g c = λ start f w.
    let fine : has_error c.in-Taken.flags ≡ false = cc in
    source_taken start f _ _ _ _ _ _ _ _ _ _ fine c.in-Taken.ensures.does w

pub returns-else-is_failed-clause-hands : goal.returns-else-is_failed-clause-hands
returns-else-is_failed-clause-hands g c = λ start bytes h. hands_first start bytes _ _ _ _ _ _ c.wait_on.ensures.does h

pub returns-in_default : goal.returns-in_default
returns-in_default g c =
    record {
      ready = c.wait_on.ensures.ready;
      follows = c.wait_on.ensures.follows;
      flow = λ start f w. tt;
      hands = λ start bytes h. hands_first start bytes _ _ _ _ _ _ c.wait_on.ensures.does h;
      engine = λ start f w e. absurd (cc);
      stops = (λ e. absurd (cc), λ e. absurd (cc), λ e. absurd (cc));
    }
