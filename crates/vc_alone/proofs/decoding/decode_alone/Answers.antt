use Rattle.vc_defs.specs.Raw.{geometry_of}
use Rattle.vc_alone.specs.Pictures.{picture_format}
use Rattle.vc_alone.proofs.decoding.decode_alone.Goals as goal

pub show_all-requires-clause-in_step : goal.show_all-requires-clause-in_step
show_all-requires-clause-in_step g c = c.in-Ok-fresh_decoder.ensures.in_step (geometry_of picture_format)
