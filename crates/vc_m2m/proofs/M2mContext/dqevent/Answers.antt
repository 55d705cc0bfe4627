use Rattle.vc_m2m.proofs.EventsAndFormats.{dqevent_gives}
use Rattle.vc_m2m.proofs.M2mContext.dqevent.Goals as goal

pub returns-clause-answers : goal.returns-clause-answers
returns-clause-answers c x h =
    dqevent_gives x c.args.self.now h c.requires c.args.block c.take.new.self c.take.result c.taken_or_blocked.result c.take.ensures.answer c.take.ensures.after c.taken_or_blocked.ensures
