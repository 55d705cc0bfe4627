use Rattle.std.proofs.Common.{sym, ◌∙◌}
use Rattle.vc_dec.proofs.StreamOffIsAnswered.{off_gives, off_steps, off_keeps, off_moves}
use Rattle.vc_dec.proofs.Decoder.streamoff.Goals as goal

pub invariant_of-self : goal.invariant_of-self
invariant_of-self c =
    off_keeps c.self.inside c.args.self.now c.self.view_is c.self.invariant c.args.side (sym c.is_some.ensures ∙ c.if-is_some.false)
    c.streamoff.new.self c.settle.new.pair c.settle.new.events c.seek.new.codec c.streamoff.ensures.after c.seek.ensures c.settle.ensures.queues
    c.settle.ensures.told

pub returns-clause-answers : goal.returns-clause-answers
returns-clause-answers c =
    off_gives c.self.inside c.args.self.now c.self.view_is c.self.invariant c.args.side (sym c.is_some.ensures ∙ c.if-is_some.false)
    c.streamoff.new.self c.settle.new.pair c.settle.new.events c.seek.new.codec c.streamoff.ensures.after c.seek.ensures c.settle.ensures.queues
    c.settle.ensures.told

pub returns-clause-carried : goal.returns-clause-carried
returns-clause-carried c =
    record {
      step =
          off_steps c.self.inside c.args.self.now c.self.view_is c.self.invariant c.args.side (sym c.is_some.ensures ∙ c.if-is_some.false)
          c.streamoff.new.self c.settle.new.pair c.settle.new.events c.seek.new.codec c.streamoff.ensures.after c.seek.ensures c.settle.ensures.queues
          c.settle.ensures.told c.requires.able.kept;
      moves =
          off_moves c.self.inside c.args.self.now c.self.view_is c.self.invariant c.args.side (sym c.is_some.ensures ∙ c.if-is_some.false)
          c.streamoff.new.self c.settle.new.pair c.settle.new.events c.seek.new.codec c.streamoff.ensures.after c.seek.ensures c.settle.ensures.queues
          c.settle.ensures.told c.args.hold.now c.streamoff.new.hold c.streamoff.ensures.payloads;
      fit =
          let f = c.settle.ensures.fit c.streamoff.new.hold c.streamoff.ensures.fit in record { out = f.0; cap = f.1 };
      zeros =
          tt;
      asked =
          λ e. tt;
    }
