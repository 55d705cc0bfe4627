use Rattle.vc_script.specs.Texts.{claim_text, no_claim_text, busy_text}
use Rattle.vc_desk.specs.Told.{was_busy, was_empty, took}
use Rattle.vc_desk.proofs.carry.carry_claim.Goals as goal

pub returns-in_ok-put_busy-in-Busy-clause-done : goal.returns-in_ok-put_busy-in-Busy-clause-done
returns-in_ok-put_busy-in-Busy-clause-done c = λ n history at.
    let d = c.in-Busy.ensures.done n history at in (busy_text, c.in_ok-put_busy-in-Busy.ensures.ok, was_busy d.slot d.busy d.at)

pub returns-in_ok-put_no_claim-in-Empty-clause-done : goal.returns-in_ok-put_no_claim-in-Empty-clause-done
returns-in_ok-put_no_claim-in-Empty-clause-done c = λ n history at.
    let d = c.in-Empty.ensures.done n history at in (no_claim_text, c.in_ok-put_no_claim-in-Empty.ensures.ok, was_empty d.free d.waited d.reply d.at)

pub returns-in_ok-put_claim-in-Took-clause-done : goal.returns-in_ok-put_claim-in-Took-clause-done
returns-in_ok-put_claim-in-Took-clause-done c = λ n history at.
    let d = c.in-Took.ensures.done n history at in (
      claim_text c.in-Took.slot,
      c.in_ok-put_claim-in-Took.ensures.ok,
      took c.in-Took.slot d.rest d.free d.waited d.reply d.at d.has,
    )
