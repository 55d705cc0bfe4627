use Rattle.vc_geom.specs.Pairs.{pair_of}
use Rattle.vc_context.proofs.NewBuffersAreZeros.{created_zeros, created_asked}
use Rattle.vc_pair.specs.Pairs.{queue_at}
use Rattle.vc_enc.proofs.BuffersAreMade.{more_kept, more_step, more_room, more_gives, more_moves}
use Rattle.vc_enc.proofs.Encoder.create_more.Goals as goal

pub returns-clause-answers : goal.returns-clause-answers
returns-clause-answers c =
    rw (c.settle.ensures.queues, c.settle.ensures.told)
    (more_gives (pair_of c.self.inside.m2m.formats) c.self.inside.controls c.self.inside.m2m.pair c.self.inside.m2m.events c.self.inside.reference
    c.self.inside.job c.args.self.now c.self.view_is c.self.invariant c.requires.able.kept c.args.side c.args.count c.args.length c.requires.more
    c.create-answer.new.self c.create-answer.result c.create-answer.ensures.answer c.create-answer.ensures.rest c.created.result c.created.ensures)

pub returns-clause-carried : goal.returns-clause-carried
returns-clause-carried c =
    record {
      step =
          rw (c.settle.ensures.queues, c.settle.ensures.told)
          (more_step (pair_of c.self.inside.m2m.formats) c.self.inside.controls c.self.inside.m2m.pair c.self.inside.m2m.events c.self.inside.reference
          c.self.inside.job c.args.self.now c.self.view_is c.self.invariant c.requires.able.kept c.args.side c.args.count c.args.length c.requires.more
          c.create-answer.new.self c.create-answer.result c.create-answer.ensures.answer c.create-answer.ensures.rest);
      moves =
          more_moves (pair_of c.self.inside.m2m.formats) c.self.inside.controls c.self.inside.m2m.pair c.self.inside.m2m.events c.self.inside.reference
          c.self.inside.job c.args.self.now c.self.view_is c.self.invariant c.requires.able.kept c.args.side c.args.count c.args.length c.requires.more
          c.create-answer.new.self c.create-answer.result c.create-answer.ensures.answer c.create-answer.ensures.rest c.created.result _ _ c.created.ensures
          c.create-answer.ensures.kept c.create-answer.ensures.unchanged;
      fit =
          let f = c.settle.ensures.fit c.create-answer.new.hold c.create-answer.ensures.fit in record { out = f.0; cap = f.1 };
      zeros =
          created_zeros c.args.self.now c.args.side (queue_at c.self.inside.m2m.pair c.args.side) c.args.count c.args.length _
          c.create-answer.ensures.answer.found c.create-answer.result c.created.result _ c.create-answer.ensures.answer.answer c.created.ensures
          c.create-answer.ensures.zeros;
      asked =
          created_asked c.args.count c.create-answer.result c.created.result c.created.ensures c.create-answer.ensures.asked;
    }

pub settle-requires-clause-done : goal.settle-requires-clause-done
settle-requires-clause-done c =
    more_room (pair_of c.self.inside.m2m.formats) c.self.inside.controls c.self.inside.m2m.pair c.self.inside.m2m.events c.self.inside.reference
    c.self.inside.job c.args.self.now c.self.view_is c.self.invariant c.requires.able.kept c.args.side c.args.count c.args.length c.requires.more
    c.create-answer.new.self c.create-answer.result c.create-answer.ensures.answer c.create-answer.ensures.rest c.requires.able.room.cap_done

pub invariant_of-self : goal.invariant_of-self
invariant_of-self c =
    rw c.settle.ensures.queues
    (more_kept (pair_of c.self.inside.m2m.formats) c.self.inside.controls c.self.inside.m2m.pair c.self.inside.m2m.events c.self.inside.reference
    c.self.inside.job c.args.self.now c.self.view_is c.self.invariant c.requires.able.kept c.args.side c.args.count c.args.length c.requires.more
    c.create-answer.new.self c.create-answer.result c.create-answer.ensures.answer c.create-answer.ensures.rest)
