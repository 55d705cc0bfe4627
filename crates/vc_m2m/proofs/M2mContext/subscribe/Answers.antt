use Rattle.vc_m2m.proofs.EventsAndFormats.{subscribe_gives}
use Rattle.vc_m2m.proofs.M2mContext.subscribe.Goals as goal

pub returns-clause-answers : goal.returns-clause-answers
returns-clause-answers c x h ek =
    subscribe_gives x c.args.self.now h c.requires c.args.kind c.args.event c.subscribe.new.self c.subscribe.result c.told.result ek c.subscribe.ensures.answer c.subscribe.ensures.after c.told.ensures
