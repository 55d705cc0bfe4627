use Rattle.std.proofs.Common.{rules, ap}
use Rattle.vc_geom.specs.Pairs.{pair_of}
use Rattle.vc_context.proofs.NewBuffersAreZeros.{counted_zeros, counted_asked}
use Rattle.vc_model.specs.Context.{Context, sizeimage}
use Rattle.vc_base.specs.declared.Side.TheVariants.{Cap}
use Rattle.vc_enc.proofs.BuffersAreMade.{dests_kept, dests_step, dests_room, dests_gives}
use Rattle.vc_enc.proofs.Encoder.request_dests.Goals as goal

pub returns-clause-answers : goal.returns-clause-answers
returns-clause-answers c =
    rw (c.settle.ensures.queues, c.settle.ensures.told)
    (dests_gives (pair_of c.self.inside.m2m.formats) c.self.inside.controls c.self.inside.m2m.pair c.self.inside.m2m.events c.self.inside.reference
    c.self.inside.job c.args.self.now c.self.view_is c.self.invariant c.requires.able.kept c.args.count c.reqbufs-answer.new.self c.reqbufs-answer.result
    c.reqbufs-answer.ensures.answer c.reqbufs-answer.ensures.rest c.counted.result c.counted.ensures)

pub returns-clause-carried : goal.returns-clause-carried
returns-clause-carried c =
    record {
      step =
          rw (c.settle.ensures.queues, c.settle.ensures.told)
          (dests_step (pair_of c.self.inside.m2m.formats) c.self.inside.controls c.self.inside.m2m.pair c.self.inside.m2m.events c.self.inside.reference
          c.self.inside.job c.args.self.now c.self.view_is c.self.invariant c.requires.able.kept c.args.count c.reqbufs-answer.new.self c.reqbufs-answer.result
          c.reqbufs-answer.ensures.answer c.reqbufs-answer.ensures.rest);
      moves = search rules;
      fit =
          let f = c.settle.ensures.fit c.reqbufs-answer.new.hold c.reqbufs-answer.ensures.fit in record { out = f.0; cap = f.1 };
      zeros =
          counted_zeros c.args.self.now Cap c.args.count c.self.inside.m2m.formats.cap.size _ c.reqbufs-answer.ensures.answer.found c.reqbufs-answer.result
          c.counted.result _ c.reqbufs-answer.ensures.answer.answer c.counted.ensures (ap (λ (x : Context). sizeimage x Cap) c.self.view_is)
          c.reqbufs-answer.ensures.zeros;
      asked =
          counted_asked c.args.count c.reqbufs-answer.result c.counted.result c.counted.ensures c.reqbufs-answer.ensures.asked;
    }

pub settle-requires-clause-done : goal.settle-requires-clause-done
settle-requires-clause-done c =
    dests_room (pair_of c.self.inside.m2m.formats) c.self.inside.controls c.self.inside.m2m.pair c.self.inside.m2m.events c.self.inside.reference
    c.self.inside.job c.args.self.now c.self.view_is c.self.invariant c.requires.able.kept c.args.count c.reqbufs-answer.new.self c.reqbufs-answer.result
    c.reqbufs-answer.ensures.answer c.reqbufs-answer.ensures.rest c.requires.able.room.cap_done

pub invariant_of-self : goal.invariant_of-self
invariant_of-self c =
    rw c.settle.ensures.queues
    (dests_kept (pair_of c.self.inside.m2m.formats) c.self.inside.controls c.self.inside.m2m.pair c.self.inside.m2m.events c.self.inside.reference
    c.self.inside.job c.args.self.now c.self.view_is c.self.invariant c.requires.able.kept c.args.count c.reqbufs-answer.new.self c.reqbufs-answer.result
    c.reqbufs-answer.ensures.answer c.reqbufs-answer.ensures.rest)
