use Rattle.vc_m2m.proofs.EventsAndFormats.{unsubscribe_gives}
use Rattle.vc_m2m.proofs.M2mContext.unsubscribe.Goals as goal

pub returns-clause-answers : goal.returns-clause-answers
returns-clause-answers c x h ek =
    unsubscribe_gives x c.args.self.now h c.requires c.args.kind c.args.event c.unsubscribe.new.self c.unsubscribe.result c.told.result ek c.unsubscribe.ensures.answer c.unsubscribe.ensures.after c.told.ensures
