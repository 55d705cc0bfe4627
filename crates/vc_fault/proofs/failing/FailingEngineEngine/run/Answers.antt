-- The run is listed: it does not happen that it is not.
use Rattle.std.proofs.Common.{rules}
use Rattle.vc_fault.specs.Failing.{FailsAt}
use Rattle.vc_fault.proofs.failing.FailingEngineEngine.run.Goals as goal

pub returns-then-listed-clause-other : goal.returns-then-listed-clause-other
returns-then-listed-clause-other g c =
    let at : FailsAt c.args.self.now.fails c.args.self.now.calls = rw (← c.self.view_is, ← c.deref.ensures.value) (c.is_listed-listed.ensures.0 (search rules)) in λ no. absurd (no at)

pub returns-then-listed-clause-own : goal.returns-then-listed-clause-own
returns-then-listed-clause-own g c =
    let at : FailsAt c.args.self.now.fails c.args.self.now.calls = rw (← c.self.view_is, ← c.deref.ensures.value) (c.is_listed-listed.ensures.0 (search rules)) in λ no. absurd (no at)
