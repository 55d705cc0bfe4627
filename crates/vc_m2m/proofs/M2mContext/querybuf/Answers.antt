use Rattle.vc_m2m.proofs.QueuesAnswer.{query_gives}
use Rattle.vc_m2m.proofs.M2mContext.querybuf.Goals as goal

pub returns : goal.returns
returns c x h =
    query_gives x c.args.self.now h c.args.side c.args.index c.queue.result.now c.querybuf.result c.told_or_refused.result c.queue.ensures c.querybuf.ensures c.told_or_refused.ensures
