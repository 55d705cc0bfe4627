use Rattle.std.proofs.Common.{ℕ, sym, subst, rules, refl, ap, ◌∙◌, Ok}
use Rattle.std.specs.Option.{option_map}
use Rattle.std.specs.Prelude.{◌==◌, ◌&&◌, nat_lt}
use Rattle.vc_context.proofs.NewBuffersAreZeros.{index_is, created_zeros, missed_asked}
use Rattle.vc_dec.specs.Parts.{new_assembly}
use Rattle.vc_base.specs.declared.Reply.TheVariants.{Refused, Created}
use Rattle.vc_base.specs.Buffers.{QueueState, buffer_count, create_refusal}
use Rattle.vc_base.specs.declared.Side.TheVariants.{Out}
use Rattle.vc_queue.specs.Growing.{KeepsFirst}
use Rattle.vc_dec.proofs.BuffersAreMade.{no_refusal, unmade_out}
use Rattle.vc_dec.proofs.AddedBuffers.{sources_gives, sources_steps, sources_keeps, none_gives}
use Rattle.vc_dec.proofs.NewBuffers.{same_steps, same_keeps}
use Rattle.vc_dec.proofs.Decoder.create_sources.Goals as goal

pub returns-in_default-create-clause-answers : goal.returns-in_default-create-clause-answers
returns-in_default-create-clause-answers c =
    rw c.no_memory-in_default-create.ensures
    (none_gives c.self.inside c.args.self.now c.self.view_is c.self.invariant c.args.count c.args.length c.create.new.self c.self.inside.codec.state
    (no_refusal (create_refusal c.self.inside.m2m.pair.out c.args.count c.args.length) c.create_refusal.result
    (c.create_refusal.ensures ∙ ap (λ (q : QueueState). option_map Refused (create_refusal q c.args.count c.args.length)) c.queue.ensures)
    c.in_default.is)
    (unmade_out c.self.inside.m2m.pair c.create.new.self _ _ _ _ c.in_default-create.ensures.answer
    (no_refusal (create_refusal c.self.inside.m2m.pair.out c.args.count c.args.length) c.create_refusal.result
    (c.create_refusal.ensures ∙ ap (λ (q : QueueState). option_map Refused (create_refusal q c.args.count c.args.length)) c.queue.ensures)
    c.in_default.is)
    c.in_default-create.ensures.rest)
    refl)

pub returns-in_default-create-clause-carried : goal.returns-in_default-create-clause-carried
returns-in_default-create-clause-carried c =
    record {
      step =
          same_steps c.self.inside c.args.self.now c.self.view_is c.self.invariant c.create.new.self c.self.inside.codec.state
          (unmade_out c.self.inside.m2m.pair c.create.new.self _ _ _ _ c.in_default-create.ensures.answer
          (no_refusal (create_refusal c.self.inside.m2m.pair.out c.args.count c.args.length) c.create_refusal.result
          (c.create_refusal.ensures ∙ ap (λ (q : QueueState). option_map Refused (create_refusal q c.args.count c.args.length)) c.queue.ensures)
          c.in_default.is)
          c.in_default-create.ensures.rest)
          refl c.requires.able.kept;
      moves = search rules;
      fit = search rules;
      zeros =
          rw c.no_memory-in_default-create.ensures tt;
      asked =
          λ e.
          missed_asked c.args.count _ c.in_default-create.ensures.answer.found _ _ c.in_default-create.ensures.answer.answer
          (no_refusal (create_refusal c.self.inside.m2m.pair.out c.args.count c.args.length) c.create_refusal.result
          (c.create_refusal.ensures ∙ ap (λ (q : QueueState). option_map Refused (create_refusal q c.args.count c.args.length)) c.queue.ensures)
          c.in_default.is)
          c.in_default-create.ensures.asked;
    }

pub invariant_of-self : goal.invariant_of-self
invariant_of-self c =
    same_keeps c.self.inside c.args.self.now c.self.view_is c.self.invariant c.create.new.self
    (unmade_out c.self.inside.m2m.pair c.create.new.self _ _ _ _ c.in_default-create.ensures.answer
    (no_refusal (create_refusal c.self.inside.m2m.pair.out c.args.count c.args.length) c.create_refusal.result
    (c.create_refusal.ensures ∙ ap (λ (q : QueueState). option_map Refused (create_refusal q c.args.count c.args.length)) c.queue.ensures)
    c.in_default.is)
    c.in_default-create.ensures.rest)

pub invariant_of-self-2 : goal.invariant_of-self-2
invariant_of-self-2 c =
    sources_keeps c.self.inside c.args.self.now c.self.view_is c.self.invariant c.args.count c.args.length c.in-Ok-create.index c.in-Ok-create.count
    c.create.new.self c.settle.new.pair c.settle.new.events c.supply.new.self c.in-Ok.assembly
    (no_refusal (create_refusal c.self.inside.m2m.pair.out c.args.count c.args.length) c.create_refusal.result
    (c.create_refusal.ensures ∙ ap (λ (q : QueueState). option_map Refused (create_refusal q c.args.count c.args.length)) c.queue.ensures)
    c.in_default.is)
    c.in-Ok-create.ensures.answer c.in-Ok-create.ensures.rest
    (c.in-Ok.ensures.made
    ∙ ap (λ b. new_assembly b c.self.inside.m2m.formats.out.size)
    (c.are_first-first.ensures ∙ ap (λ n. (n == 0) && nat_lt 0 c.args.count) (c.buffers.ensures.number ∙ ap buffer_count c.queue-2.ensures)))
    c.supply.ensures c.settle.ensures.queues c.settle.ensures.told

pub returns-clause-answers : goal.returns-clause-answers
returns-clause-answers c =
    sources_gives c.self.inside c.args.self.now c.self.view_is c.self.invariant c.args.count c.args.length c.in-Ok-create.index c.in-Ok-create.count
    c.create.new.self c.settle.new.pair c.settle.new.events c.supply.new.self c.in-Ok.assembly
    (no_refusal (create_refusal c.self.inside.m2m.pair.out c.args.count c.args.length) c.create_refusal.result
    (c.create_refusal.ensures ∙ ap (λ (q : QueueState). option_map Refused (create_refusal q c.args.count c.args.length)) c.queue.ensures)
    c.in_default.is)
    c.in-Ok-create.ensures.answer c.in-Ok-create.ensures.rest
    (c.in-Ok.ensures.made
    ∙ ap (λ b. new_assembly b c.self.inside.m2m.formats.out.size)
    (c.are_first-first.ensures ∙ ap (λ n. (n == 0) && nat_lt 0 c.args.count) (c.buffers.ensures.number ∙ ap buffer_count c.queue-2.ensures)))
    c.supply.ensures c.settle.ensures.queues c.settle.ensures.told

pub returns-clause-carried : goal.returns-clause-carried
returns-clause-carried c =
    record {
      step =
          sources_steps c.self.inside c.args.self.now c.self.view_is c.self.invariant c.args.count c.args.length c.in-Ok-create.index c.in-Ok-create.count
          c.create.new.self c.settle.new.pair c.settle.new.events c.supply.new.self c.in-Ok.assembly
          (no_refusal (create_refusal c.self.inside.m2m.pair.out c.args.count c.args.length) c.create_refusal.result
          (c.create_refusal.ensures ∙ ap (λ (q : QueueState). option_map Refused (create_refusal q c.args.count c.args.length)) c.queue.ensures)
          c.in_default.is)
          c.in-Ok-create.ensures.answer c.in-Ok-create.ensures.rest
          (c.in-Ok.ensures.made
          ∙ ap (λ b. new_assembly b c.self.inside.m2m.formats.out.size)
          (c.are_first-first.ensures ∙ ap (λ n. (n == 0) && nat_lt 0 c.args.count) (c.buffers.ensures.number ∙ ap buffer_count c.queue-2.ensures)))
          c.supply.ensures c.settle.ensures.queues c.settle.ensures.told c.requires.able.kept;
      moves =
          subst (λ (n : ℕ). KeepsFirst Out n c.args.hold.now c.create.new.hold)
          (sym (index_is c.self.inside.m2m.pair.out c.create.new.self.out c.args.count c.args.length c.in-Ok-create.index c.in-Ok-create.count c.in-Ok-create.ensures.answer))
          c.in-Ok-create.ensures.kept;
      fit =
          let f = c.settle.ensures.fit c.create.new.hold c.in-Ok-create.ensures.fit in record { out = f.0; cap = f.1 };
      zeros =
          created_zeros c.args.self.now Out c.self.inside.m2m.pair.out c.args.count c.args.length _ c.in-Ok-create.ensures.answer.found
          (Ok (c.in-Ok-create.index, c.in-Ok-create.count)) (Created c.in-Ok-create.index c.in-Ok-create.count) c.create.new.hold c.in-Ok-create.ensures.answer.answer refl
          c.in-Ok-create.ensures.zeros;
      asked =
          λ e. cc;
    }
