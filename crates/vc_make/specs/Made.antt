-- The pictures that are written.
use Rattle.std.specs.Prelude.{ℕ, List}
use Rattle.vc_base.specs.declared.Format.{Format}
use Rattle.vc_defs.specs.Raw.{raw_of, generated, geometry_of}

-- the bytes of the generator's picture k for a number in a raw format
abbrev pub picture_bytes : Format → ℕ → ℕ → List ℕ
picture_bytes format k number =
    raw_of format.fourcc (generated (geometry_of format) k number)
