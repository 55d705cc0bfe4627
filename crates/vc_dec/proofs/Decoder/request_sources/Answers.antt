use Rattle.std.proofs.Common.{rules, refl, ap, ◌∙◌, Ok}
use Rattle.std.specs.Option.{option_map}
use Rattle.vc_base.specs.declared.Reply.TheVariants.{Refused, Count}
use Rattle.vc_base.specs.Buffers.{QueueState, reqbufs_refusal}
use Rattle.vc_context.proofs.NewBuffersAreZeros.{counted_zeros, missed_asked}
use Rattle.vc_model.specs.Context.{Context, sizeimage}
use Rattle.vc_base.specs.declared.Side.TheVariants.{Out}
use Rattle.vc_dec.proofs.BuffersAreMade.{no_refusal, unmade_out}
use Rattle.vc_dec.proofs.NewBuffers.{sources_gives, sources_steps, sources_keeps, same_steps, same_keeps}
use Rattle.vc_dec.proofs.Decoder.request_sources.Goals as goal

pub returns-in_default-reqbufs-clause-carried : goal.returns-in_default-reqbufs-clause-carried
returns-in_default-reqbufs-clause-carried c =
    record {
      step =
          same_steps c.self.inside c.args.self.now c.self.view_is c.self.invariant c.reqbufs.new.self c.self.inside.codec.state
          (unmade_out c.self.inside.m2m.pair c.reqbufs.new.self _ _ _ _ c.in_default-reqbufs.ensures.answer
          (no_refusal (reqbufs_refusal c.self.inside.m2m.pair.out) c.reqbufs_refusal.result
          (c.reqbufs_refusal.ensures ∙ ap (λ (q : QueueState). option_map Refused (reqbufs_refusal q)) c.queue.ensures) c.in_default.is)
          c.in_default-reqbufs.ensures.rest)
          refl c.requires.able.kept;
      moves = search rules;
      fit = search rules;
      zeros =
          rw c.no_memory-in_default-reqbufs.ensures tt;
      asked =
          λ e.
          missed_asked c.args.count _ c.in_default-reqbufs.ensures.answer.found _ _ c.in_default-reqbufs.ensures.answer.answer
          (no_refusal (reqbufs_refusal c.self.inside.m2m.pair.out) c.reqbufs_refusal.result
          (c.reqbufs_refusal.ensures ∙ ap (λ (q : QueueState). option_map Refused (reqbufs_refusal q)) c.queue.ensures) c.in_default.is)
          c.in_default-reqbufs.ensures.asked;
    }

pub invariant_of-self : goal.invariant_of-self
invariant_of-self c =
    same_keeps c.self.inside c.args.self.now c.self.view_is c.self.invariant c.reqbufs.new.self
    (unmade_out c.self.inside.m2m.pair c.reqbufs.new.self _ _ _ _ c.in_default-reqbufs.ensures.answer
    (no_refusal (reqbufs_refusal c.self.inside.m2m.pair.out) c.reqbufs_refusal.result
    (c.reqbufs_refusal.ensures ∙ ap (λ (q : QueueState). option_map Refused (reqbufs_refusal q)) c.queue.ensures) c.in_default.is)
    c.in_default-reqbufs.ensures.rest)

pub invariant_of-self-2 : goal.invariant_of-self-2
invariant_of-self-2 c =
    sources_keeps c.self.inside c.args.self.now c.self.view_is c.self.invariant c.args.count c.in-Ok-reqbufs.count c.reqbufs.new.self
    c.settle.new.pair c.settle.new.events c.begin.new.self c.in-Ok.assembly
    (no_refusal (reqbufs_refusal c.self.inside.m2m.pair.out) c.reqbufs_refusal.result
    (c.reqbufs_refusal.ensures ∙ ap (λ (q : QueueState). option_map Refused (reqbufs_refusal q)) c.queue.ensures) c.in_default.is)
    c.in-Ok-reqbufs.ensures.answer c.in-Ok-reqbufs.ensures.rest c.in-Ok.ensures.made c.begin.ensures c.settle.ensures.queues c.settle.ensures.told

pub returns-clause-answers : goal.returns-clause-answers
returns-clause-answers c =
    sources_gives c.self.inside c.args.self.now c.self.view_is c.self.invariant c.args.count c.in-Ok-reqbufs.count c.reqbufs.new.self
    c.settle.new.pair c.settle.new.events c.begin.new.self c.in-Ok.assembly
    (no_refusal (reqbufs_refusal c.self.inside.m2m.pair.out) c.reqbufs_refusal.result
    (c.reqbufs_refusal.ensures ∙ ap (λ (q : QueueState). option_map Refused (reqbufs_refusal q)) c.queue.ensures) c.in_default.is)
    c.in-Ok-reqbufs.ensures.answer c.in-Ok-reqbufs.ensures.rest c.in-Ok.ensures.made c.begin.ensures c.settle.ensures.queues c.settle.ensures.told

pub returns-clause-carried : goal.returns-clause-carried
returns-clause-carried c =
    record {
      step =
          sources_steps c.self.inside c.args.self.now c.self.view_is c.self.invariant c.args.count c.in-Ok-reqbufs.count c.reqbufs.new.self
          c.settle.new.pair c.settle.new.events c.begin.new.self c.in-Ok.assembly
          (no_refusal (reqbufs_refusal c.self.inside.m2m.pair.out) c.reqbufs_refusal.result
          (c.reqbufs_refusal.ensures ∙ ap (λ (q : QueueState). option_map Refused (reqbufs_refusal q)) c.queue.ensures) c.in_default.is)
          c.in-Ok-reqbufs.ensures.answer c.in-Ok-reqbufs.ensures.rest c.in-Ok.ensures.made c.begin.ensures c.settle.ensures.queues c.settle.ensures.told
          c.requires.able.kept;
      moves = search rules;
      fit =
          let f = c.settle.ensures.fit c.reqbufs.new.hold c.in-Ok-reqbufs.ensures.fit in record { out = f.0; cap = f.1 };
      zeros =
          counted_zeros c.args.self.now Out c.args.count c.self.inside.m2m.formats.out.size _ c.in-Ok-reqbufs.ensures.answer.found (Ok c.in-Ok-reqbufs.count) (Count c.in-Ok-reqbufs.count) c.reqbufs.new.hold
          c.in-Ok-reqbufs.ensures.answer.answer refl (ap (λ (x : Context). sizeimage x Out) c.self.view_is) c.in-Ok-reqbufs.ensures.zeros;
      asked =
          λ e. cc;
    }
