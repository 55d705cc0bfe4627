use Rattle.vc_context.specs.Contexts.{IsKept, IsCounted}
use Rattle.vc_context.specs.Payloads.{FitsContext}
use Rattle.vc_dec.proofs.tests.replies.Given as goal

abbrev pub invariant-loop-before : goal.invariant-loop-before
invariant-loop-before g l =
    record { kept : IsKept l.decoder; fits : FitsContext l.decoder l.hold; counted : IsCounted l.before-counter l.decoder }
