use Rattle.std.proofs.Common.{◌∙◌, ap, inl}
use Rattle.vc_model.specs.Script.{first_lines, fault_in}
use Rattle.vc_desk.proofs.LinesFromSteps.{some_claimed}
use Rattle.vc_audit.proofs.LinesAreReplayed.{run_without, run_replayed, claim_of, kept_of, judged_by}
use Rattle.vc_audit.proofs.replay.replay_run.Goals as goal

pub returns-then-not-branch-clause-done : goal.returns-then-not-branch-clause-done
returns-then-not-branch-clause-done g c = λ n history at.
    inl (run_without n history c.args.worker c.args.report.now c.carry_claim.new.desk c.in_ok-carry_claim.field-0 c.carry_claim.new.text.items c.judge.result
    c.if-not-branch.true
    (claim_of n history c.args.worker c.args.desk.now c.carry_claim.new.desk c.new-wanted.result.items c.carry_claim.new.text.items
    c.in_ok-carry_claim.field-0 c.new-wanted.ensures.items at c.in_ok-carry_claim.ensures.done)
    (judged_by c.judge.result c.first_line.result.now (first_lines c.args.report.now 1) c.as_slice.result.now c.carry_claim.new.text.items 1 c.judge.ensures
    c.first_line.ensures.first c.as_slice.ensures.value))

pub replay_end-requires-clause-desk : goal.replay_end-requires-clause-desk
replay_end-requires-clause-desk g c =
    some_claimed c.args.worker c.args.desk.now c.carry_claim.new.desk c.new-wanted.result.items c.carry_claim.new.text.items c.in_ok-carry_claim.field-0 c.requires.desk c.in_ok-carry_claim.ensures.done

pub returns-then-branch-clause-done : goal.returns-then-branch-clause-done
returns-then-branch-clause-done g c = λ n history at.
    inl (run_replayed n history c.args.worker c.args.report.now c.carry_claim.new.desk c.replay_end.new.desk c.in_ok-carry_claim.field-0
    c.carry_claim.new.text.items c.replay_end.new.wanted.items c.tells_fault.result c.judge-then-branch.result c.if-not-branch.false
    (claim_of n history c.args.worker c.args.desk.now c.carry_claim.new.desk c.new-wanted.result.items c.carry_claim.new.text.items
    c.in_ok-carry_claim.field-0 c.new-wanted.ensures.items at c.in_ok-carry_claim.ensures.done)
    (c.tells_fault.ensures ∙ ap fault_in c.two_lines-text.ensures)
    (kept_of c.carry_claim.new.desk c.replay_end.new.desk c.args.worker c.tells_fault.result c.carry_claim.new.text.items c.replay_end.new.wanted.items
    (g.E.Engine.fault_count c.args.engine.now) (g.E.Engine.fault_count c.replay_end.new.engine) c.in_ok-replay_end.field-0 c.if-branch.true
    c.in_ok-replay_end.ensures.done)
    (judged_by c.judge-then-branch.result c.two_lines-text.result.now (first_lines c.args.report.now 2) c.as_slice-then-branch.result.now c.replay_end.new.wanted.items 2
    c.judge-then-branch.ensures c.two_lines-text.ensures c.as_slice-then-branch.ensures.value))
