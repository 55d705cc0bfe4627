use Rattle.vc_script.specs.Texts.{finish_text, idle_text}
use Rattle.vc_desk.proofs.LinesFromSteps.{idle_told, ended_told}
use Rattle.vc_desk.proofs.carry.carry_finish.Goals as goal

pub returns-in_ok-put_idle-in-Idle-clause-done : goal.returns-in_ok-put_idle-in-Idle-clause-done
returns-in_ok-put_idle-in-Idle-clause-done g c = λ n history at.
    let d = c.in-Idle.ensures.done n history at in (
      idle_text,
      c.in_ok-put_idle-in-Idle.ensures.ok,
      idle_told n history c.args.worker c.finish.new.self (g.E.Engine.run_count c.args.engine.now) (g.E.Engine.run_count c.finish.new.engine)
          (g.E.Engine.fault_count c.args.engine.now) (g.E.Engine.fault_count c.finish.new.engine) d.0 d.1 d.2,
    )

pub returns-in_ok-put_finish-in-Ended-clause-done : goal.returns-in_ok-put_finish-in-Ended-clause-done
returns-in_ok-put_finish-in-Ended-clause-done g c = λ n history at.
    let d = c.in-Ended.ensures.done n history at in (
      finish_text c.in-Ended.slot c.in-Ended.word.now,
      c.in_ok-put_finish-in-Ended.ensures.ok,
      ended_told n history c.args.worker c.in-Ended.slot c.in-Ended.word.now c.in-Ended.fault c.finish.new.self
          (g.E.Engine.run_count c.args.engine.now) (g.E.Engine.run_count c.finish.new.engine) (g.E.Engine.fault_count c.args.engine.now)
          (g.E.Engine.fault_count c.finish.new.engine) d.0 d.1,
    )
