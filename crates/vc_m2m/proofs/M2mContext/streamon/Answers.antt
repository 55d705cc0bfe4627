use Rattle.std.proofs.Common.{ap}
use Rattle.vc_base.specs.declared.Format.{Format}
use Rattle.vc_m2m.proofs.QueuesAnswer.{on_after, on_gives, settled_by_on}
use Rattle.vc_m2m.proofs.M2mContext.streamon.Goals as goal

pub returns-clause-answers : goal.returns-clause-answers
returns-clause-answers c x h =
    rw (c.settle.ensures.queues, c.settle.ensures.told)
    (on_gives x c.args.self.now h c.requires.settled c.args.side c.format_of-least.result.size c.streamon-answer.new.self c.streamon-answer.result
    c.told.result (ap (λ (f : Format). f.size) c.format_of-least.ensures) c.streamon-answer.ensures.answer
    (on_after x c.args.self.now h c.requires.settled c.args.side c.format_of-least.result.size c.streamon-answer.new.self
    (ap (λ (f : Format). f.size) c.format_of-least.ensures) c.streamon-answer.ensures.after)
    c.told.ensures)

pub returns-clause-after : goal.returns-clause-after
returns-clause-after c =
    rw (c.settle.ensures.queues, c.settle.ensures.told)
    (settled_by_on c.args.self.now c.args.side c.format_of-least.result.size c.streamon-answer.new.self (ap (λ (f : Format). f.size) c.format_of-least.ensures) c.streamon-answer.ensures.after)
