use Rattle.vc_laws.proofs.DecoderFollows.{segments_begin}
use Rattle.vc_laws.proofs.laws.segments_begin.Goals as goal

pub returns : goal.returns
returns c = segments_begin
