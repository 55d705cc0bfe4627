use Rattle.std.proofs.Common.{ℕ, rules, ap, sym, subst, ◌∙◌, Ok, refl}
use Rattle.vc_base.specs.declared.Side.TheVariants.{Out}
use Rattle.vc_base.specs.Buffers.{buffer_count}
use Rattle.vc_model.specs.Context.{Context}
use Rattle.vc_geom.specs.Pairs.{pair_of}
use Rattle.vc_queue.specs.Growing.{KeepsFirst}
use Rattle.vc_context.proofs.NewBuffersAreZeros.{index_is, created_zeros, refused_asked}
use Rattle.vc_base.specs.declared.Reply.TheVariants.{Created}
use Rattle.vc_enc.proofs.BuffersAreMade.{first_kept, first_step, first_room, first_gives, refused_gives, refused_step}
use Rattle.vc_enc.proofs.Encoder.create_first.Goals as goal

pub returns-in-Ok-create-clause-answers : goal.returns-in-Ok-create-clause-answers
returns-in-Ok-create-clause-answers c =
    rw (c.settle.ensures.queues, c.settle.ensures.told)
    (first_gives (pair_of c.self.inside.m2m.formats) c.self.inside.controls c.self.inside.m2m.pair c.self.inside.m2m.events c.self.inside.reference
    c.self.inside.job c.args.self.now c.self.view_is c.self.invariant c.requires.able.kept c.args.count c.args.length c.in-Ok-create.index
    c.in-Ok-create.count c.create.new.self (ap (λ (x : Context). buffer_count x.out) c.self.view_is ∙ c.requires.none) c.in-Ok-create.ensures.answer
    c.in-Ok-create.ensures.rest c.in-Ok.reference c.in-Ok.ensures.made)

pub returns-in-Ok-create-clause-carried : goal.returns-in-Ok-create-clause-carried
returns-in-Ok-create-clause-carried c =
    record {
      step =
          rw (c.settle.ensures.queues, c.settle.ensures.told)
          (first_step (pair_of c.self.inside.m2m.formats) c.self.inside.controls c.self.inside.m2m.pair c.self.inside.m2m.events c.self.inside.reference
          c.self.inside.job c.args.self.now c.self.view_is c.self.invariant c.requires.able.kept c.args.count c.args.length c.in-Ok-create.index
          c.in-Ok-create.count c.create.new.self (ap (λ (x : Context). buffer_count x.out) c.self.view_is ∙ c.requires.none) c.in-Ok-create.ensures.answer
          c.in-Ok-create.ensures.rest c.in-Ok.reference c.in-Ok.ensures.made);
      moves =
          subst (λ (n : ℕ). KeepsFirst Out n c.args.hold.now c.create.new.hold)
          (sym (index_is c.self.inside.m2m.pair.out c.create.new.self.out c.args.count c.args.length c.in-Ok-create.index c.in-Ok-create.count c.in-Ok-create.ensures.answer))
          c.in-Ok-create.ensures.kept;
      fit =
          let f = c.settle.ensures.fit c.create.new.hold c.in-Ok-create.ensures.fit in record { out = f.0; cap = f.1 };
      zeros =
          created_zeros c.args.self.now Out c.self.inside.m2m.pair.out c.args.count c.args.length _ c.in-Ok-create.ensures.answer.found
          (Ok (c.in-Ok-create.index, c.in-Ok-create.count)) (Created c.in-Ok-create.index c.in-Ok-create.count) c.create.new.hold c.in-Ok-create.ensures.answer.answer refl
          c.in-Ok-create.ensures.zeros;
      asked =
          λ e. cc;
    }

pub returns-in-Err-clause-answers : goal.returns-in-Err-clause-answers
returns-in-Err-clause-answers c =
    rw c.refused-in-Err.ensures
    (refused_gives (pair_of c.self.inside.m2m.formats) c.self.inside.controls c.self.inside.m2m.pair c.self.inside.m2m.events c.self.inside.reference
    c.self.inside.job c.args.self.now c.self.view_is c.self.invariant c.requires.able.kept c.args.count c.args.length c.in-Err.errno c.create.new.self
    c.in-Err.ensures.answer c.in-Err.ensures.rest)

pub returns-in-Err-clause-carried : goal.returns-in-Err-clause-carried
returns-in-Err-clause-carried c =
    record {
      step =
          refused_step (pair_of c.self.inside.m2m.formats) c.self.inside.controls c.self.inside.m2m.pair c.self.inside.m2m.events c.self.inside.reference
          c.self.inside.job c.args.self.now c.self.view_is c.self.invariant c.requires.able.kept c.args.count c.args.length c.in-Err.errno c.create.new.self
          c.in-Err.ensures.answer c.in-Err.ensures.rest;
      moves = search rules;
      fit = search rules;
      zeros =
          rw c.refused-in-Err.ensures tt;
      asked =
          refused_asked {A = ℕ × ℕ} c.args.count c.in-Err.errno c.refused-in-Err.result c.refused-in-Err.ensures c.in-Err.ensures.asked;
    }

pub settle-requires-clause-done : goal.settle-requires-clause-done
settle-requires-clause-done c =
    first_room (pair_of c.self.inside.m2m.formats) c.self.inside.controls c.self.inside.m2m.pair c.self.inside.m2m.events c.self.inside.reference
    c.self.inside.job c.args.self.now c.self.view_is c.self.invariant c.requires.able.kept c.args.count c.args.length c.in-Ok-create.index
    c.in-Ok-create.count c.create.new.self (ap (λ (x : Context). buffer_count x.out) c.self.view_is ∙ c.requires.none) c.in-Ok-create.ensures.answer
    c.in-Ok-create.ensures.rest c.in-Ok.reference c.in-Ok.ensures.made c.requires.able.room.cap_done

pub invariant_of-self : goal.invariant_of-self
invariant_of-self c =
    rw c.settle.ensures.queues
    (first_kept (pair_of c.self.inside.m2m.formats) c.self.inside.controls c.self.inside.m2m.pair c.self.inside.m2m.events c.self.inside.reference
    c.self.inside.job c.args.self.now c.self.view_is c.self.invariant c.requires.able.kept c.args.count c.args.length c.in-Ok-create.index
    c.in-Ok-create.count c.create.new.self (ap (λ (x : Context). buffer_count x.out) c.self.view_is ∙ c.requires.none) c.in-Ok-create.ensures.answer
    c.in-Ok-create.ensures.rest c.in-Ok.reference c.in-Ok.ensures.made)
