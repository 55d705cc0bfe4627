use Rattle.std.proofs.Common.{◌≡◌, drop, sym, subst}
use Rattle.vc_model.specs.Messages.{fed}
use Rattle.vc_wire.specs.Ends.{outside}
use Rattle.vc_wire.specs.Framing.{told_by}
use Rattle.vc_wire.specs.Serving.{IsServing}
use Rattle.vc_wire.proofs.ServingGoesOn.{message_ended, more_needed, at_bad, unfed_cut}
use Rattle.vc_wire.proofs.serve.Server.step.Goals as goal

pub answer-requires : goal.answer-requires
answer-requires g c =
    let q = c.requires.serving in
    let f = fed c.args.self.now.framer.kept c.args.piece.now in
    record {
      ended = (
        q.0,
        q.1,
        drop f.taken c.args.piece.now,
        q.2,
        q.3,
        message_ended q.0 q.1 c.args.piece.now c.args.self.now c.feed.new.self q.2 q.3 q.4
            (subst (λ t. told_by t c.feed.new.self.body ≡ f.told) c.in-Ok-default-Whole.field-0-1-is c.in-Ok-default-Whole.ensures.told)
            c.in-Ok-default-Whole.ensures.kept,
      );
    }

pub returns-in-Err-clause-stopped : goal.returns-in-Err-clause-stopped
returns-in-Err-clause-stopped g c = λ n all before s. unfed_cut n all c.args.piece.now c.args.self.now before _ s

pub returns-in-Ok-default-More-clause-served : goal.returns-in-Ok-default-More-clause-served
returns-in-Ok-default-More-clause-served g c = λ n all before s.
    let f = fed c.args.self.now.framer.kept c.args.piece.now in
    more_needed n all c.args.piece.now c.args.self.now c.feed.new.self c.in-Ok-default-More.count before _ s
    (subst (λ t. told_by t c.feed.new.self.body ≡ f.told) c.in-Ok-default-More.field-0-1-is c.in-Ok-default-More.ensures.told)
    c.in-Ok-default-More.ensures.kept c.in-Ok-default-More.ensures.taken

pub returns-in-Ok-default-BadLength-clause-stopped :
    goal.returns-in-Ok-default-BadLength-clause-stopped
returns-in-Ok-default-BadLength-clause-stopped g c = λ n all before s.
    let f = fed c.args.self.now.framer.kept c.args.piece.now in
    at_bad n all c.args.piece.now c.args.self.now c.feed.new.self before _ s
    (subst (λ t. told_by t c.feed.new.self.body ≡ f.told) c.in-Ok-default-BadLength.field-0-1-is c.in-Ok-default-BadLength.ensures.told)

pub returns-in-Ok-clause-served : goal.returns-in-Ok-clause-served
returns-in-Ok-clause-served g c = λ n all before s.
    let f = fed c.args.self.now.framer.kept c.args.piece.now in
    let now = outside g.K.Sink.written g.E.Engine.run_count g.E.Engine.fault_count c.answer.new.sink c.answer.new.engine in
    subst (λ k. IsServing n all (drop k c.args.piece.now) c.answer.new.self before now) (sym c.in-Ok-default-Whole.ensures.taken)
    (c.in-Ok.ensures.served n all (drop f.taken c.args.piece.now) before
    (message_ended n all c.args.piece.now c.args.self.now c.feed.new.self before _ s
    (subst (λ t. told_by t c.feed.new.self.body ≡ f.told) c.in-Ok-default-Whole.field-0-1-is c.in-Ok-default-Whole.ensures.told)
    c.in-Ok-default-Whole.ensures.kept))

pub returns-in-Err-answer-clause-stopped : goal.returns-in-Err-answer-clause-stopped
returns-in-Err-answer-clause-stopped g c = λ n all before s.
    let f = fed c.args.self.now.framer.kept c.args.piece.now in
    c.in-Err-answer.ensures.stopped n all (drop f.taken c.args.piece.now) before
    (message_ended n all c.args.piece.now c.args.self.now c.feed.new.self before _ s
    (subst (λ t. told_by t c.feed.new.self.body ≡ f.told) c.in-Ok-default-Whole.field-0-1-is c.in-Ok-default-Whole.ensures.told)
    c.in-Ok-default-Whole.ensures.kept)
