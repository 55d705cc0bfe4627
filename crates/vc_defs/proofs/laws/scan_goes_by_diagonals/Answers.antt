use Rattle.vc_defs.proofs.WalshAndScan.{scan_goes_by_diagonals}
use Rattle.vc_defs.proofs.laws.scan_goes_by_diagonals.Goals as goal

pub returns : goal.returns
returns c = scan_goes_by_diagonals
