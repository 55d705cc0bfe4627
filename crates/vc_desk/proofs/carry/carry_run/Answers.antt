use Rattle.vc_model.specs.Script.{AsksRun}
use Rattle.vc_desk.specs.Told.{FinishesWith}
use Rattle.vc_desk.specs.Carries.{LineMade}
use Rattle.vc_desk.proofs.LinesFromSteps.{some_claimed, run_text_line, run_only_line, ok_map}
use Rattle.vc_desk.proofs.carry.carry_run.Goals as goal

pub carry_finish-requires-clause-desk : goal.carry_finish-requires-clause-desk
carry_finish-requires-clause-desk g c =
    some_claimed c.args.worker c.args.desk.now c.carry_claim.new.desk c.args.text.now.items c.carry_claim.new.text.items c.in_ok-carry_claim.field-0 c.requires.desk c.in_ok-carry_claim.ensures.done

pub returns-then-branch-clause-made : goal.returns-then-branch-clause-made
returns-then-branch-clause-made g c = λ n history at.
    ok_map c.carry_finish.result
    (FinishesWith c.carry_claim.new.desk c.args.worker c.carry_claim.new.text.items c.carry_finish.new.text.items c.carry_finish.new.desk
    (g.E.Engine.run_count c.args.engine.now) (g.E.Engine.run_count c.carry_finish.new.engine) (g.E.Engine.fault_count c.args.engine.now)
    (g.E.Engine.fault_count c.carry_finish.new.engine))
    (λ fault.
    LineMade n history (AsksRun c.args.worker) c.carry_finish.new.text.items fault (g.E.Engine.run_count c.args.engine.now)
    (g.E.Engine.run_count c.carry_finish.new.engine) (g.E.Engine.fault_count c.args.engine.now) (g.E.Engine.fault_count c.carry_finish.new.engine)
    c.carry_finish.new.desk)
    (λ fault f.
    run_text_line n history c.args.worker c.args.desk.now c.carry_claim.new.desk c.carry_finish.new.desk c.args.text.now.items
    c.carry_claim.new.text.items c.carry_finish.new.text.items c.in_ok-carry_claim.field-0 (g.E.Engine.run_count c.args.engine.now)
    (g.E.Engine.run_count c.carry_finish.new.engine) (g.E.Engine.fault_count c.args.engine.now) (g.E.Engine.fault_count c.carry_finish.new.engine)
    fault c.requires.first c.if-branch.true at c.in_ok-carry_claim.ensures.done f)
    c.carry_finish.ensures.done

pub returns-else-branch-clause-made : goal.returns-else-branch-clause-made
returns-else-branch-clause-made g c = λ n history at.
    run_only_line n history c.args.worker c.args.desk.now c.carry_claim.new.desk c.args.text.now.items c.carry_claim.new.text.items
    c.in_ok-carry_claim.field-0 (g.E.Engine.run_count c.args.engine.now) (g.E.Engine.fault_count c.args.engine.now) c.requires.first c.if-branch.false
    at c.in_ok-carry_claim.ensures.done
