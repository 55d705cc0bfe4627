use Rattle.std.proofs.Common.{sym, ◌∙◌}
use Rattle.vc_geom.specs.Pairs.{pair_of}
use Rattle.vc_enc.proofs.StreamOffIsAnswered.{off_idle, off_kept, off_step, off_room, off_gives, off_moves}
use Rattle.vc_enc.proofs.Encoder.streamoff.Goals as goal

pub returns-clause-answers : goal.returns-clause-answers
returns-clause-answers c =
    rw (c.settle.ensures.queues, c.settle.ensures.told, c.begin_anew_where.ensures, c.ends_capture-due.ensures)
    (off_gives (pair_of c.self.inside.m2m.formats) c.self.inside.controls c.self.inside.m2m.pair c.self.inside.m2m.events c.self.inside.reference
    c.self.inside.job c.args.self.now c.self.view_is c.self.invariant c.requires.able.kept (sym c.is_some.ensures ∙ c.if-is_some.false) c.args.side
    c.streamoff.new.self c.streamoff.ensures.after)

pub returns-clause-carried : goal.returns-clause-carried
returns-clause-carried c =
    record {
      step =
          rw (c.settle.ensures.queues, c.settle.ensures.told, c.begin_anew_where.ensures, c.ends_capture-due.ensures)
          (off_step (pair_of c.self.inside.m2m.formats) c.self.inside.controls c.self.inside.m2m.pair c.self.inside.m2m.events c.self.inside.reference
          c.self.inside.job c.args.self.now c.self.view_is c.self.invariant c.requires.able.kept (sym c.is_some.ensures ∙ c.if-is_some.false) c.args.side
          c.streamoff.new.self c.streamoff.ensures.after);
      moves =
          off_moves (pair_of c.self.inside.m2m.formats) c.self.inside.controls c.self.inside.m2m.pair c.self.inside.m2m.events c.self.inside.reference
          c.self.inside.job c.args.self.now c.self.view_is c.self.invariant c.requires.able.kept (sym c.is_some.ensures ∙ c.if-is_some.false) c.args.side _ _
          c.streamoff.ensures.payloads;
      fit =
          let f = c.settle.ensures.fit c.streamoff.new.hold c.streamoff.ensures.fit in record { out = f.0; cap = f.1 };
      zeros =
          tt;
      asked =
          λ e. tt;
    }

pub streamoff-requires-clause-idle : goal.streamoff-requires-clause-idle
streamoff-requires-clause-idle c =
    off_idle (pair_of c.self.inside.m2m.formats) c.self.inside.controls c.self.inside.m2m.pair c.self.inside.m2m.events c.self.inside.reference
    c.self.inside.job c.args.self.now c.self.view_is c.self.invariant c.requires.able.kept (sym c.is_some.ensures ∙ c.if-is_some.false)

pub settle-requires-clause-done : goal.settle-requires-clause-done
settle-requires-clause-done c =
    off_room (pair_of c.self.inside.m2m.formats) c.self.inside.controls c.self.inside.m2m.pair c.self.inside.m2m.events c.self.inside.reference
    c.self.inside.job c.args.self.now c.self.view_is c.self.invariant c.requires.able.kept (sym c.is_some.ensures ∙ c.if-is_some.false) c.args.side
    c.streamoff.new.self c.streamoff.ensures.after c.requires.able.room.cap_done

pub invariant_of-self : goal.invariant_of-self
invariant_of-self c =
    rw (c.settle.ensures.queues, c.begin_anew_where.ensures, c.ends_capture-due.ensures)
    (off_kept (pair_of c.self.inside.m2m.formats) c.self.inside.controls c.self.inside.m2m.pair c.self.inside.m2m.events c.self.inside.reference
    c.self.inside.job c.args.self.now c.self.view_is c.self.invariant c.requires.able.kept (sym c.is_some.ensures ∙ c.if-is_some.false) c.args.side
    c.streamoff.new.self c.streamoff.ensures.after)
