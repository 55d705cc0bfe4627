-- The pictures of the codec alone.
use Rattle.vc_base.specs.declared.Format.{Format}
use Rattle.vc_defs.specs.Raw.{yu12}

-- their format
abbrev pub picture_format : Format
picture_format = record { fourcc = yu12; width = 352; height = 288; size = 152064 }
