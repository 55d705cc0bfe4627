use Rattle.vc_m2m.proofs.QueuesAnswer.{stop_gives}
use Rattle.vc_m2m.proofs.M2mContext.stop.Goals as goal

pub returns-clause-answers : goal.returns-clause-answers
returns-clause-answers c x h =
    rw (c.settle.ensures.queues, c.settle.ensures.told) (stop_gives x c.args.self.now h c.requires.settled c.stop-answer.new.self c.stop-answer.result c.told.result c.stop-answer.ensures.answer c.stop-answer.ensures.after c.told.ensures)
