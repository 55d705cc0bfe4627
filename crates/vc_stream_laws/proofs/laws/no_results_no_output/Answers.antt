use Rattle.vc_stream_laws.proofs.HandedOutIsAPrefix.{no_results_no_output}
use Rattle.vc_stream_laws.proofs.laws.no_results_no_output.Goals as goal

pub returns : goal.returns
returns c = no_results_no_output
