use Rattle.vc_stream_laws.proofs.CallsOfAClient.{bytes_are_queued}
use Rattle.vc_stream_laws.proofs.laws.bytes_are_queued.Goals as goal

pub returns : goal.returns
returns c = bytes_are_queued
