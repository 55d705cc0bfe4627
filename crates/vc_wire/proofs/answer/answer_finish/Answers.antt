use Rattle.vc_wire.proofs.AnsweredBodies.{idle_answered, idle_untold, ended_answered, ended_untold, err_holds}
use Rattle.vc_wire.proofs.answer.answer_finish.Goals as goal

pub returns-in_ok-put_short-in-Idle-clause-answered : goal.returns-in_ok-put_short-in-Idle-clause-answered
returns-in_ok-put_short-in-Idle-clause-answered g c = λ n history at.
    idle_answered n history c.args.worker c.finish.new.self c.args.out.now.items c.put_short.new.out.items
    (g.E.Engine.run_count c.args.engine.now) (g.E.Engine.run_count c.finish.new.engine) (g.E.Engine.fault_count c.args.engine.now)
    (g.E.Engine.fault_count c.finish.new.engine) (c.in-Idle.ensures.done n history at) c.in_ok-put_short-in-Idle.ensures.reply

pub returns-in_err-put_short-in-Idle-clause-untold : goal.returns-in_err-put_short-in-Idle-clause-untold
returns-in_err-put_short-in-Idle-clause-untold g c = λ n history at.
    err_holds c.from_residual.result _
    (idle_untold n history c.args.worker c.finish.new.self c.args.out.now.items c.put_short.new.out.items
    (g.E.Engine.run_count c.args.engine.now) (g.E.Engine.run_count c.finish.new.engine) (g.E.Engine.fault_count c.args.engine.now)
    (g.E.Engine.fault_count c.finish.new.engine) (c.in-Idle.ensures.done n history at) c.in_err-put_short-in-Idle.ensures.untold)

pub returns-in_ok-put_finished-in-Ended-clause-answered : goal.returns-in_ok-put_finished-in-Ended-clause-answered
returns-in_ok-put_finished-in-Ended-clause-answered g c = λ n history at.
    ended_answered n history c.args.worker c.in-Ended.slot c.in-Ended.word.now c.in-Ended.fault c.finish.new.self c.args.out.now.items
    c.put_finished.new.out.items (g.E.Engine.run_count c.args.engine.now) (g.E.Engine.run_count c.finish.new.engine)
    (g.E.Engine.fault_count c.args.engine.now) (g.E.Engine.fault_count c.finish.new.engine) (c.in-Ended.ensures.done n history at)
    c.in_ok-put_finished-in-Ended.ensures.reply

pub returns-in_err-put_finished-in-Ended-clause-untold : goal.returns-in_err-put_finished-in-Ended-clause-untold
returns-in_err-put_finished-in-Ended-clause-untold g c = λ n history at.
    err_holds c.from_residual-in_err-put_finished-in-Ended.result _
    (ended_untold n history c.args.worker c.in-Ended.slot c.in-Ended.word.now c.in-Ended.fault c.finish.new.self c.args.out.now.items
    c.put_finished.new.out.items (g.E.Engine.run_count c.args.engine.now) (g.E.Engine.run_count c.finish.new.engine)
    (g.E.Engine.fault_count c.args.engine.now) (g.E.Engine.fault_count c.finish.new.engine) (c.in-Ended.ensures.done n history at)
    c.in_err-put_finished-in-Ended.ensures.untold)
