use Rattle.std.proofs.Common.{rules, ap, ◌∙◌, Ok, refl}
use Rattle.std.specs.Option.{option_map}
use Rattle.vc_base.specs.declared.Reply.TheVariants.{Refused, Count}
use Rattle.vc_base.specs.Buffers.{QueueState, reqbufs_refusal}
use Rattle.vc_context.proofs.NewBuffersAreZeros.{counted_zeros}
use Rattle.vc_model.specs.Context.{Context, sizeimage}
use Rattle.vc_base.specs.declared.Side.TheVariants.{Cap}
use Rattle.vc_dec.proofs.BuffersAreMade.{no_refusal, unmade_cap}
use Rattle.vc_dec.proofs.NewBuffers.{dests_gives, dests_steps, dests_keeps, same_keeps, can_take_over}
use Rattle.vc_dec.proofs.Decoder.request_dests.Goals as goal

pub invariant_of-self : goal.invariant_of-self
invariant_of-self c =
    same_keeps c.self.inside c.args.self.now c.self.view_is c.self.invariant c.reqbufs.new.self
    (unmade_cap c.self.inside.m2m.pair c.reqbufs.new.self _ _ _ _ c.in_default-reqbufs.ensures.answer
    (no_refusal (reqbufs_refusal c.self.inside.m2m.pair.cap) c.reqbufs_refusal.result
    (c.reqbufs_refusal.ensures ∙ ap (λ (q : QueueState). option_map Refused (reqbufs_refusal q)) c.queue.ensures) c.in_default.is)
    c.in_default-reqbufs.ensures.rest)

pub replace-requires : goal.replace-requires
replace-requires c =
    can_take_over c.self.inside c.args.self.now c.self.view_is c.self.invariant c.args.count c.in-Ok.reference c.in-Ok.ensures.made

pub invariant_of-self-2 : goal.invariant_of-self-2
invariant_of-self-2 c =
    dests_keeps c.self.inside c.args.self.now c.self.view_is c.self.invariant c.args.count c.in-Ok-reqbufs.count c.reqbufs.new.self c.settle.new.pair
    c.settle.new.events c.replace.new.self c.in-Ok.reference
    (no_refusal (reqbufs_refusal c.self.inside.m2m.pair.cap) c.reqbufs_refusal.result
    (c.reqbufs_refusal.ensures ∙ ap (λ (q : QueueState). option_map Refused (reqbufs_refusal q)) c.queue.ensures) c.in_default.is)
    c.in-Ok-reqbufs.ensures.answer c.in-Ok-reqbufs.ensures.rest c.in-Ok.ensures.made c.replace.ensures c.settle.ensures.queues c.settle.ensures.told

pub returns-clause-answers : goal.returns-clause-answers
returns-clause-answers c =
    dests_gives c.self.inside c.args.self.now c.self.view_is c.self.invariant c.args.count c.in-Ok-reqbufs.count c.reqbufs.new.self c.settle.new.pair
    c.settle.new.events c.replace.new.self c.in-Ok.reference
    (no_refusal (reqbufs_refusal c.self.inside.m2m.pair.cap) c.reqbufs_refusal.result
    (c.reqbufs_refusal.ensures ∙ ap (λ (q : QueueState). option_map Refused (reqbufs_refusal q)) c.queue.ensures) c.in_default.is)
    c.in-Ok-reqbufs.ensures.answer c.in-Ok-reqbufs.ensures.rest c.in-Ok.ensures.made c.replace.ensures c.settle.ensures.queues c.settle.ensures.told

pub returns-clause-carried : goal.returns-clause-carried
returns-clause-carried c =
    record {
      step =
          dests_steps c.self.inside c.args.self.now c.self.view_is c.self.invariant c.args.count c.in-Ok-reqbufs.count c.reqbufs.new.self c.settle.new.pair
          c.settle.new.events c.replace.new.self c.in-Ok.reference
          (no_refusal (reqbufs_refusal c.self.inside.m2m.pair.cap) c.reqbufs_refusal.result
          (c.reqbufs_refusal.ensures ∙ ap (λ (q : QueueState). option_map Refused (reqbufs_refusal q)) c.queue.ensures) c.in_default.is)
          c.in-Ok-reqbufs.ensures.answer c.in-Ok-reqbufs.ensures.rest c.in-Ok.ensures.made c.replace.ensures c.settle.ensures.queues c.settle.ensures.told
          c.requires.able.kept;
      moves = search rules;
      fit =
          let f = c.settle.ensures.fit c.reqbufs.new.hold c.in-Ok-reqbufs.ensures.fit in record { out = f.0; cap = f.1 };
      zeros =
          counted_zeros c.args.self.now Cap c.args.count c.self.inside.m2m.formats.cap.size _ c.in-Ok-reqbufs.ensures.answer.found (Ok c.in-Ok-reqbufs.count) (Count c.in-Ok-reqbufs.count) c.reqbufs.new.hold
          c.in-Ok-reqbufs.ensures.answer.answer refl (ap (λ (x : Context). sizeimage x Cap) c.self.view_is) c.in-Ok-reqbufs.ensures.zeros;
      asked =
          λ e. cc;
    }
