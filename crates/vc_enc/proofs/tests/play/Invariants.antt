use Rattle.std.proofs.Common.{◌≡◌, ◌*◌}
use Rattle.vc_context.specs.Contexts.{IsKept, IsCounted}
use Rattle.vc_context.specs.Payloads.{FitsContext}
use Rattle.vc_enc.proofs.tests.play.Given as goal

abbrev pub invariant-loop-step : goal.invariant-loop-step
invariant-loop-step g l =
    record { kept : IsKept l.encoder; fits : FitsContext l.encoder l.hold; counted : IsCounted l.count l.encoder; twice : l.count ≡ 2 * l.step-index }
