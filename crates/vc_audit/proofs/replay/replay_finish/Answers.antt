use Rattle.std.proofs.Common.{◌∙◌, ap, inl}
use Rattle.vc_model.specs.Script.{first_lines, fault_in}
use Rattle.vc_audit.proofs.LinesAreReplayed.{finish_replayed, finish_of, judged_by}
use Rattle.vc_audit.proofs.replay.replay_finish.Goals as goal

pub returns-then-branch-clause-done : goal.returns-then-branch-clause-done
returns-then-branch-clause-done g c = λ n history at.
    inl (finish_replayed n history c.args.worker c.args.report.now c.replay_end.new.desk c.tells_fault.result c.replay_end.new.wanted.items c.judge.result
    (c.tells_fault.ensures ∙ ap fault_in c.first_line-text.ensures.first)
    (finish_of n history c.args.worker c.args.desk.now c.replay_end.new.desk c.tells_fault.result c.new-wanted.result.items c.replay_end.new.wanted.items
    (g.E.Engine.fault_count c.args.engine.now) (g.E.Engine.fault_count c.replay_end.new.engine) c.in_ok-replay_end.field-0 c.new-wanted.ensures.items
    c.if-branch.true at c.in_ok-replay_end.ensures.done)
    (judged_by c.judge.result c.first_line-text.result.now (first_lines c.args.report.now 1) c.as_slice.result.now c.replay_end.new.wanted.items 1
    c.judge.ensures c.first_line-text.ensures.first c.as_slice.ensures.value))
