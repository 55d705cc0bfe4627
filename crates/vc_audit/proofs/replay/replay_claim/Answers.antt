use Rattle.vc_model.specs.Script.{first_lines}
use Rattle.vc_audit.proofs.LinesAreReplayed.{claim_replayed, claim_of, judged_by}
use Rattle.vc_audit.proofs.replay.replay_claim.Goals as goal

pub returns-clause-done : goal.returns-clause-done
returns-clause-done c = λ n history at.
    claim_replayed n history c.args.worker c.args.report.now c.carry_claim.new.desk c.in_ok-_claimed._claimed c.carry_claim.new.text.items c.judge.result
    (claim_of n history c.args.worker c.args.desk.now c.carry_claim.new.desk c.new-wanted.result.items c.carry_claim.new.text.items
    c.in_ok-_claimed._claimed c.new-wanted.ensures.items at c.in_ok-_claimed.ensures.done)
    (judged_by c.judge.result c.first_line.result.now (first_lines c.args.report.now 1) c.as_slice.result.now c.carry_claim.new.text.items 1 c.judge.ensures
    c.first_line.ensures.first c.as_slice.ensures.value)
