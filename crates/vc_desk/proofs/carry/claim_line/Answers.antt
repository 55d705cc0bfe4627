use Rattle.vc_desk.proofs.LinesFromSteps.{claim_text_line}
use Rattle.vc_desk.proofs.carry.claim_line.Goals as goal

pub returns-clause-made : goal.returns-clause-made
returns-clause-made c = λ n history runs faults at.
    claim_text_line n history c.args.worker c.args.desk.now c.carry_claim.new.desk c.new-text.result.items c.carry_claim.new.text.items c.in_ok-_claimed._claimed runs faults c.new-text.ensures.items at c.in_ok-_claimed.ensures.done
