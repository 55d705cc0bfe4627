use Rattle.std.proofs.Common.{ap, ◌∙◌}
use Rattle.std.specs.Prelude.{Some}
use Rattle.vc_m2m.proofs.EventsAndFormats.{reqbufs_before, create_before, busy_open}
use Rattle.vc_m2m.proofs.M2mContext.refusal.Goals as goal

pub returns-in-ReqBufs : goal.returns-in-ReqBufs
returns-in-ReqBufs c x h =
    rw c.in-ReqBufs.is (reqbufs_before x c.args.self.now h c.in-ReqBufs.side _ c.queue.result.now c.reqbufs_refusal.result c.reqbufs_refusal.ensures c.queue.ensures)

pub returns-in-CreateBufs : goal.returns-in-CreateBufs
returns-in-CreateBufs c x h =
    rw c.in-CreateBufs.is (create_before x c.args.self.now h c.in-CreateBufs.side c.in-CreateBufs.count c.in-CreateBufs.length c.queue-in-CreateBufs.result.now c.create_refusal.result c.create_refusal.ensures c.queue-in-CreateBufs.ensures)

pub returns-in_default : goal.returns-in_default
returns-in_default c x h =
    rw c.refused.ensures (busy_open x c.args.call.now c.requires c.in_default.not-ReqBufs c.in_default.not-CreateBufs)
