use Rattle.std.proofs.Common.{sym, subst}
use Rattle.vc_coverage.specs.Covering.{CoverageState, HasRead}
use Rattle.vc_coverage.proofs.FindsAreReached.{leaves_is}
use Rattle.vc_coverage.proofs.coverage.Coverage.leaves_a_byte.Goals as goal

pub returns : goal.returns
returns c bytes h =
    leaves_is (record { assembly = c.self.inside.assembly; read = c.self.inside.read; reach = c.self.inside.reach }) bytes
    (subst (λ (v : CoverageState). HasRead v bytes) (sym c.self.view_is) h)
