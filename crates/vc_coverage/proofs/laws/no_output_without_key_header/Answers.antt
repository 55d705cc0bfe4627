use Rattle.vc_coverage.proofs.NothingWithoutAKeyHeader.{no_output_without_key_header}
use Rattle.vc_coverage.proofs.laws.no_output_without_key_header.Goals as goal

pub returns : goal.returns
returns c = no_output_without_key_header
