use Rattle.std.proofs.Common.{sym, subst}
use Rattle.vc_coverage.specs.Covering.{CoverageState, HasRead}
use Rattle.vc_coverage.proofs.FindsAreReached.{key_header_is}
use Rattle.vc_coverage.proofs.coverage.Coverage.has_key_header.Goals as goal

pub returns : goal.returns
returns c bytes h =
    key_header_is (record { assembly = c.self.inside.assembly; read = c.self.inside.read; reach = c.self.inside.reach }) bytes
    (subst (λ (v : CoverageState). HasRead v bytes) (sym c.self.view_is) h)
