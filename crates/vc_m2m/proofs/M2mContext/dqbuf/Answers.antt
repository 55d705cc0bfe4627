use Rattle.vc_m2m.proofs.QueuesAnswer.{taken_gives, taken_moved, taken_stays, room_after}
use Rattle.vc_m2m.proofs.M2mContext.dqbuf.Goals as goal

pub returns-clause-answers : goal.returns-clause-answers
returns-clause-answers c x h =
    rw (c.settle.ensures.queues, c.settle.ensures.told)
    (taken_gives x c.args.self.now h c.requires.settled c.args.side c.args.block c.dqbuf-answer.new.self c.dqbuf-answer.result
    c.taken_or_blocked.result c.dqbuf-answer.ensures.answer c.dqbuf-answer.ensures.after c.taken_or_blocked.ensures)

pub returns-clause-moves : goal.returns-clause-moves
returns-clause-moves c x h k =
    taken_moved x c.args.self.now h c.args.side c.args.block c.dqbuf-answer.result c.taken_or_blocked.result _ _ c.dqbuf-answer.ensures.answer c.taken_or_blocked.ensures k c.dqbuf-answer.ensures.payload

pub returns-clause-fit : goal.returns-clause-fit
returns-clause-fit c = c.settle.ensures.fit c.dqbuf-answer.new.hold c.dqbuf-answer.ensures.fit

pub settle-requires-clause-done : goal.settle-requires-clause-done
settle-requires-clause-done c =
    room_after _ c.args.self.now.pair _ c.dqbuf-answer.new.self (taken_stays c.args.self.now.pair c.args.side) c.dqbuf-answer.ensures.after c.requires.room.cap_done
