use Rattle.vc_wire_laws.proofs.CodecRunsAreShort.{codec_has_replies}
use Rattle.vc_wire_laws.proofs.laws.codec_has_replies.Goals as goal

pub returns : goal.returns
returns c = codec_has_replies
