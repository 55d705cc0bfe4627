-- The formats of the two sides of a context, and which pairs a context can have.
use Rattle.std.specs.Prelude.{◌≡◌, ℕ, ◌≤◌, Bool, [], ◌∷◌, Option, Some, None, if◌then◌else◌}
use Rattle.std.specs.List.{list_any}
use Rattle.vc_base.specs.declared.Kind.{Kind}
use Rattle.vc_base.specs.declared.Kind.TheVariants.{Copy, Enc, Dec}
use Rattle.vc_base.specs.declared.Fourcc.{Fourcc}
use Rattle.vc_base.specs.declared.Format.{Format}
use Rattle.vc_base.specs.Limits.{most_bytes, longest_buffer, least_coded_size}
use Rattle.vc_defs.specs.Raw.{grey, yu12, nv12, yuyv, same_fourcc, layout_of, raw_size}
use Rattle.vc_defs.specs.Laws.{IsRawFormat}
use Rattle.vc_model.specs.Formats.{FormatPair, data_format, coded_format, frame_room}
use Rattle.vc_geom.specs.declared.Formats.{Formats}

-- the formats, as the device's definitions have them
abbrev pub pair_of : Formats → FormatPair
pair_of formats = record { out = formats.out; cap = formats.cap }

-- the formats of a copying context whose buffers have that size
abbrev pub copied : ℕ → FormatPair
copied size =
    let bytes : Format = record { fourcc = data_format; width = 0; height = 0; size = size } in record { out = bytes; cap = bytes }

-- the fourcc is that of a raw format
abbrev pub is_raw : Fourcc → Bool
is_raw fourcc = list_any (same_fourcc fourcc) (grey ∷ yu12 ∷ nv12 ∷ yuyv ∷ [])

-- the size of a raw picture, where the fourcc is that of a raw format
abbrev pub size_if_raw : Fourcc → ℕ → ℕ → Option ℕ
size_if_raw fourcc width height =
    if is_raw fourcc then Some (raw_size (layout_of fourcc) width height) else None

-- a size that pictures can have
abbrev pub IsSize : ℕ → ℕ → Type 0
IsSize width height = (16 ≤ width) × (width ≤ 4096) × (16 ≤ height) × (height ≤ 2160)

-- the two sides have the same size, which a picture can have
abbrev pub HaveOneSize : FormatPair → Type 0
HaveOneSize pair =
    (pair.out.width ≡ pair.cap.width) × (pair.out.height ≡ pair.cap.height) × IsSize pair.cap.width pair.cap.height

-- a context of the kind can have these formats
abbrev pub CanStand : Kind → FormatPair → Type 0
CanStand Copy pair =
    (pair.cap ≡ pair.out) × (1 ≤ pair.out.size) × (pair.out.size ≤ most_bytes)
    × (pair.out ≡ record { fourcc = data_format; width = 0; height = 0; size = pair.out.size })
CanStand Enc pair =
    IsRawFormat pair.out × HaveOneSize pair
    × (pair.cap ≡ coded_format pair.out.width pair.out.height (frame_room (layout_of pair.out.fourcc) pair.out.width pair.out.height))
CanStand Dec pair =
    IsRawFormat pair.cap × HaveOneSize pair
    × (pair.out ≡ coded_format pair.cap.width pair.cap.height pair.out.size) × (least_coded_size ≤ pair.out.size) × (pair.out.size ≤ longest_buffer)
