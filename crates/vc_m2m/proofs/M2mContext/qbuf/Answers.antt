use Rattle.std.proofs.Common.{ap, sym, ◌∙◌}
use Rattle.vc_base.specs.declared.Format.{Format}
use Rattle.vc_m2m.proofs.QueuesAnswer.{put_gives, part_gives, put_moved, put_stays, room_after}
use Rattle.vc_m2m.proofs.M2mContext.qbuf.Goals as goal

pub returns-clause-answers : goal.returns-clause-answers
returns-clause-answers c x h ek k =
    rw (c.settle.ensures.queues, c.settle.ensures.told)
    (put_gives x c.args.self.now h c.requires.settled c.args.kind c.args.side c.args.index c.args.used c.format_of-least.result.size c.args.stamp
    c.args.hold.now c.qbuf-answer.new.self c.qbuf-answer.result c.told.result ek k (ap (λ (f : Format). f.size) c.format_of-least.ensures)
    (sym c.is_part.ensures ∙ c.if-is_part.false) c.qbuf-answer.ensures.answer c.qbuf-answer.ensures.after c.told.ensures)

pub returns-clause-moves : goal.returns-clause-moves
returns-clause-moves c x =
    put_moved x _ c.args.side c.args.index c.args.used c.args.stamp _ _ c.qbuf-answer.result c.told.result c.qbuf-answer.ensures.answer c.told.ensures c.qbuf-answer.ensures.payload

pub returns-clause-fit : goal.returns-clause-fit
returns-clause-fit c = c.settle.ensures.fit c.qbuf-answer.new.hold c.qbuf-answer.ensures.fit

pub settle-requires-clause-done : goal.settle-requires-clause-done
settle-requires-clause-done c =
    room_after _ c.args.self.now.pair _ c.qbuf-answer.new.self (put_stays c.args.self.now.pair c.args.side c.args.index c.args.used c.args.stamp c.args.hold.now) c.qbuf-answer.ensures.after c.requires.room.cap_done
