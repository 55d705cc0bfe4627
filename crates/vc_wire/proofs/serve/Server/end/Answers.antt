use Rattle.std.proofs.Common.{sym, ◌∙◌}
use Rattle.vc_wire.proofs.ServingEnds.{ends_begun, ends_faulted, ends_whole}
use Rattle.vc_wire.proofs.serve.Server.end.Goals as goal

pub returns-then-is_begun-clause-ended : goal.returns-then-is_begun-clause-ended
returns-then-is_begun-clause-ended c = λ n all left left_now before now r e s none.
    ends_begun n all left left_now c.args.self.now before now r e s none (sym c.is_begun.ensures ∙ c.if-is_begun.true)

pub returns-then-self-clause-ended : goal.returns-then-self-clause-ended
returns-then-self-clause-ended c = λ n all left left_now before now r e s none.
    ends_faulted n all left left_now c.args.self.now before now r e s none (sym c.is_begun.ensures ∙ c.if-is_begun.false) c.if-self.true

pub returns-else-self-clause-ended : goal.returns-else-self-clause-ended
returns-else-self-clause-ended c = λ n all left left_now before now r e s none.
    ends_whole n all left left_now c.args.self.now before now r e s none (sym c.is_begun.ensures ∙ c.if-is_begun.false) c.if-self.false
