use Rattle.vc_m2m.proofs.QueuesAnswer.{start_gives}
use Rattle.vc_m2m.proofs.M2mContext.start.Goals as goal

pub returns-clause-answers : goal.returns-clause-answers
returns-clause-answers c x h =
    rw (c.settle.ensures.queues, c.settle.ensures.told)
    (start_gives x c.args.self.now h c.requires.settled c.start-answer.new.self c.start-answer.result c.told.result c.start-answer.ensures.answer c.start-answer.ensures.after c.told.ensures)
