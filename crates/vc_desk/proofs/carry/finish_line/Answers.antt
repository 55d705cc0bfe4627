use Rattle.vc_desk.proofs.LinesFromSteps.{finish_text_line}
use Rattle.vc_desk.proofs.carry.finish_line.Goals as goal

pub returns-clause-made : goal.returns-clause-made
returns-clause-made g c = λ n history at.
    finish_text_line n history c.args.worker c.args.desk.now c.carry_finish.new.desk c.new-text.result.items c.carry_finish.new.text.items _ _ _ _ c.in_ok-fault.fault c.new-text.ensures.items at c.in_ok-fault.ensures.done
