use Rattle.std.proofs.Common.{ℕ, sym, subst, rules, ap, ◌∙◌, Ok, refl}
use Rattle.std.specs.Option.{option_map}
use Rattle.vc_context.proofs.NewBuffersAreZeros.{index_is, created_zeros, missed_asked}
use Rattle.vc_dec.specs.Decoders.{CodecParts}
use Rattle.vc_dec.specs.Parts.{new_reference}
use Rattle.vc_base.specs.declared.Reply.TheVariants.{Refused, Created}
use Rattle.vc_base.specs.Buffers.{QueueState, create_refusal}
use Rattle.vc_base.specs.declared.Side.TheVariants.{Cap}
use Rattle.vc_queue.specs.Growing.{KeepsFirst}
use Rattle.vc_dec.proofs.BuffersAreMade.{no_refusal, unmade_cap, where_ok}
use Rattle.vc_dec.proofs.AddedBuffers.{dests_gives, dests_steps, dests_keeps, more_keeps}
use Rattle.vc_dec.proofs.NewBuffers.{same_steps}
use Rattle.vc_dec.proofs.Decoder.create_dests.Goals as goal

pub invariant_of-self-in_default-create : goal.invariant_of-self-in_default-create
invariant_of-self-in_default-create c =
    more_keeps c.self.inside c.args.self.now c.self.view_is c.self.invariant c.in-Ok.reference c.create.new.self c.add.new.self
    (unmade_cap c.self.inside.m2m.pair c.create.new.self _ _ _ _ c.in_default-create.ensures.answer
    (no_refusal (create_refusal c.self.inside.m2m.pair.cap c.args.count c.args.length) c.create_refusal.result
    (c.create_refusal.ensures ∙ ap (λ (q : QueueState). option_map Refused (create_refusal q c.args.count c.args.length)) c.queue.ensures)
    c.in_default.is)
    c.in_default-create.ensures.rest)
    (where_ok c.add.result c.is_err.result c.add.new.self _ _ c.is_err.ensures.value c.if-is_err.false c.add.ensures.after)

pub returns-in_default-create-clause-carried : goal.returns-in_default-create-clause-carried
returns-in_default-create-clause-carried c =
    record {
      step =
          same_steps c.self.inside c.args.self.now c.self.view_is c.self.invariant c.create.new.self c.add.new.self.state
          (unmade_cap c.self.inside.m2m.pair c.create.new.self _ _ _ _ c.in_default-create.ensures.answer
          (no_refusal (create_refusal c.self.inside.m2m.pair.cap c.args.count c.args.length) c.create_refusal.result
          (c.create_refusal.ensures ∙ ap (λ (q : QueueState). option_map Refused (create_refusal q c.args.count c.args.length)) c.queue.ensures)
          c.in_default.is)
          c.in_default-create.ensures.rest)
          (ap (λ (x : CodecParts). x.state) (where_ok c.add.result c.is_err.result c.add.new.self _ _ c.is_err.ensures.value c.if-is_err.false c.add.ensures.after))
          c.requires.able.kept;
      moves = search rules;
      fit = search rules;
      zeros =
          rw c.no_memory-in_default-create.ensures tt;
      asked =
          λ e.
          missed_asked c.args.count _ c.in_default-create.ensures.answer.found _ _ c.in_default-create.ensures.answer.answer
          (no_refusal (create_refusal c.self.inside.m2m.pair.cap c.args.count c.args.length) c.create_refusal.result
          (c.create_refusal.ensures ∙ ap (λ (q : QueueState). option_map Refused (create_refusal q c.args.count c.args.length)) c.queue.ensures)
          c.in_default.is)
          c.in_default-create.ensures.asked;
    }

pub invariant_of-self-2 : goal.invariant_of-self-2
invariant_of-self-2 c =
    dests_keeps c.self.inside c.args.self.now c.self.view_is c.self.invariant c.args.count c.args.length c.in-Ok-create.index c.in-Ok-create.count
    c.create.new.self c.settle.new.pair c.settle.new.events c.add.new.self c.in-Ok.reference
    (no_refusal (create_refusal c.self.inside.m2m.pair.cap c.args.count c.args.length) c.create_refusal.result
    (c.create_refusal.ensures ∙ ap (λ (q : QueueState). option_map Refused (create_refusal q c.args.count c.args.length)) c.queue.ensures)
    c.in_default.is)
    c.in-Ok-create.ensures.answer c.in-Ok-create.ensures.rest (c.in-Ok.ensures.made ∙ ap (λ b. new_reference b c.args.length) c.is_missing-missing.ensures)
    (where_ok c.add.result c.is_err.result c.add.new.self _ _ c.is_err.ensures.value c.if-is_err.false c.add.ensures.after) c.settle.ensures.queues
    c.settle.ensures.told

pub returns-clause-answers : goal.returns-clause-answers
returns-clause-answers c =
    dests_gives c.self.inside c.args.self.now c.self.view_is c.self.invariant c.args.count c.args.length c.in-Ok-create.index c.in-Ok-create.count
    c.create.new.self c.settle.new.pair c.settle.new.events c.add.new.self c.in-Ok.reference
    (no_refusal (create_refusal c.self.inside.m2m.pair.cap c.args.count c.args.length) c.create_refusal.result
    (c.create_refusal.ensures ∙ ap (λ (q : QueueState). option_map Refused (create_refusal q c.args.count c.args.length)) c.queue.ensures)
    c.in_default.is)
    c.in-Ok-create.ensures.answer c.in-Ok-create.ensures.rest (c.in-Ok.ensures.made ∙ ap (λ b. new_reference b c.args.length) c.is_missing-missing.ensures)
    (where_ok c.add.result c.is_err.result c.add.new.self _ _ c.is_err.ensures.value c.if-is_err.false c.add.ensures.after) c.settle.ensures.queues
    c.settle.ensures.told

pub returns-clause-carried : goal.returns-clause-carried
returns-clause-carried c =
    record {
      step =
          dests_steps c.self.inside c.args.self.now c.self.view_is c.self.invariant c.args.count c.args.length c.in-Ok-create.index c.in-Ok-create.count
          c.create.new.self c.settle.new.pair c.settle.new.events c.add.new.self c.in-Ok.reference
          (no_refusal (create_refusal c.self.inside.m2m.pair.cap c.args.count c.args.length) c.create_refusal.result
          (c.create_refusal.ensures ∙ ap (λ (q : QueueState). option_map Refused (create_refusal q c.args.count c.args.length)) c.queue.ensures)
          c.in_default.is)
          c.in-Ok-create.ensures.answer c.in-Ok-create.ensures.rest (c.in-Ok.ensures.made ∙ ap (λ b. new_reference b c.args.length) c.is_missing-missing.ensures)
          (where_ok c.add.result c.is_err.result c.add.new.self _ _ c.is_err.ensures.value c.if-is_err.false c.add.ensures.after) c.settle.ensures.queues
          c.settle.ensures.told c.requires.able.kept;
      moves =
          subst (λ (n : ℕ). KeepsFirst Cap n c.args.hold.now c.create.new.hold)
          (sym (index_is c.self.inside.m2m.pair.cap c.create.new.self.cap c.args.count c.args.length c.in-Ok-create.index c.in-Ok-create.count c.in-Ok-create.ensures.answer))
          c.in-Ok-create.ensures.kept;
      fit =
          let f = c.settle.ensures.fit c.create.new.hold c.in-Ok-create.ensures.fit in record { out = f.0; cap = f.1 };
      zeros =
          created_zeros c.args.self.now Cap c.self.inside.m2m.pair.cap c.args.count c.args.length _ c.in-Ok-create.ensures.answer.found
          (Ok (c.in-Ok-create.index, c.in-Ok-create.count)) (Created c.in-Ok-create.index c.in-Ok-create.count) c.create.new.hold c.in-Ok-create.ensures.answer.answer refl
          c.in-Ok-create.ensures.zeros;
      asked =
          λ e. cc;
    }
