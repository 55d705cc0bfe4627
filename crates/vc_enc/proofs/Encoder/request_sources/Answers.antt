use Rattle.std.proofs.Common.{rules, Ok, ap, refl}
use Rattle.vc_geom.specs.Pairs.{pair_of}
use Rattle.vc_context.proofs.NewBuffersAreZeros.{counted_zeros}
use Rattle.vc_model.specs.Context.{Context, sizeimage}
use Rattle.vc_base.specs.declared.Reply.TheVariants.{Count}
use Rattle.vc_base.specs.declared.Side.TheVariants.{Out}
use Rattle.vc_enc.proofs.BuffersAreMade.{sources_kept, sources_step, sources_room, sources_gives}
use Rattle.vc_enc.proofs.Encoder.request_sources.Goals as goal

pub returns-in-Ok-reqbufs-clause-answers : goal.returns-in-Ok-reqbufs-clause-answers
returns-in-Ok-reqbufs-clause-answers c =
    rw (c.settle.ensures.queues, c.settle.ensures.told)
    (sources_gives (pair_of c.self.inside.m2m.formats) c.self.inside.controls c.self.inside.m2m.pair c.self.inside.m2m.events c.self.inside.reference
    c.self.inside.job c.args.self.now c.self.view_is c.self.invariant c.requires.able.kept c.args.count c.in-Ok-reqbufs.count c.reqbufs.new.self
    c.in-Ok-reqbufs.ensures.answer c.in-Ok-reqbufs.ensures.rest c.in-Ok.reference c.in-Ok.ensures.made)

pub returns-in-Ok-reqbufs-clause-carried : goal.returns-in-Ok-reqbufs-clause-carried
returns-in-Ok-reqbufs-clause-carried c =
    record {
      step =
          rw (c.settle.ensures.queues, c.settle.ensures.told)
          (sources_step (pair_of c.self.inside.m2m.formats) c.self.inside.controls c.self.inside.m2m.pair c.self.inside.m2m.events c.self.inside.reference
          c.self.inside.job c.args.self.now c.self.view_is c.self.invariant c.requires.able.kept c.args.count c.in-Ok-reqbufs.count c.reqbufs.new.self
          c.in-Ok-reqbufs.ensures.answer c.in-Ok-reqbufs.ensures.rest c.in-Ok.reference c.in-Ok.ensures.made);
      moves = search rules;
      fit =
          let f = c.settle.ensures.fit c.reqbufs.new.hold c.in-Ok-reqbufs.ensures.fit in record { out = f.0; cap = f.1 };
      zeros =
          counted_zeros c.args.self.now Out c.args.count c.self.inside.m2m.formats.out.size _ c.in-Ok-reqbufs.ensures.answer.found (Ok c.in-Ok-reqbufs.count) (Count c.in-Ok-reqbufs.count) c.reqbufs.new.hold
          c.in-Ok-reqbufs.ensures.answer.answer refl (ap (λ (x : Context). sizeimage x Out) c.self.view_is) c.in-Ok-reqbufs.ensures.zeros;
      asked =
          λ e. cc;
    }

pub settle-requires-clause-done : goal.settle-requires-clause-done
settle-requires-clause-done c =
    sources_room (pair_of c.self.inside.m2m.formats) c.self.inside.controls c.self.inside.m2m.pair c.self.inside.m2m.events c.self.inside.reference
    c.self.inside.job c.args.self.now c.self.view_is c.self.invariant c.requires.able.kept c.args.count c.in-Ok-reqbufs.count c.reqbufs.new.self
    c.in-Ok-reqbufs.ensures.answer c.in-Ok-reqbufs.ensures.rest c.in-Ok.reference c.in-Ok.ensures.made c.requires.able.room.cap_done

pub invariant_of-self : goal.invariant_of-self
invariant_of-self c =
    rw c.settle.ensures.queues
    (sources_kept (pair_of c.self.inside.m2m.formats) c.self.inside.controls c.self.inside.m2m.pair c.self.inside.m2m.events c.self.inside.reference
    c.self.inside.job c.args.self.now c.self.view_is c.self.invariant c.requires.able.kept c.args.count c.in-Ok-reqbufs.count c.reqbufs.new.self
    c.in-Ok-reqbufs.ensures.answer c.in-Ok-reqbufs.ensures.rest c.in-Ok.reference c.in-Ok.ensures.made)
