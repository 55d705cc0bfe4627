use Rattle.vc_wire_laws.proofs.CodecRunsAreShort.{codec_runs_are_short}
use Rattle.vc_wire_laws.proofs.laws.codec_runs_are_short.Goals as goal

pub returns : goal.returns
returns c = codec_runs_are_short
