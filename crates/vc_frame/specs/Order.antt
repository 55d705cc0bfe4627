-- How raw formats order the samples of a picture.
use Rattle.std.specs.Prelude.{◌≡◌, ℕ, ◌*◌, ◌/◌, Bool, not, ◌&&◌}
use Rattle.vc_base.specs.declared.Fourcc.{Fourcc}
use Rattle.vc_defs.specs.declared.Geometry.{Geometry}
use Rattle.vc_defs.specs.declared.Layout.{Layout}
use Rattle.vc_defs.specs.declared.Layout.TheVariants.{Grey, C420, C422}
use Rattle.vc_defs.specs.Raw.{nv12, yuyv, same_fourcc, layout_of}
use Rattle.vc_defs.specs.Laws.{IsRawShape}

-- the fourcc is that of a raw format with this layout, and the size is one that its pictures can have
abbrev pub IsRawOf : Fourcc → Geometry → Type 0
IsRawOf fourcc g = IsRawShape fourcc g.width g.height × (layout_of fourcc ≡ g.layout)

-- the format has its planes one behind the other
abbrev pub is_planar : Fourcc → Bool
is_planar fourcc = not (same_fourcc fourcc nv12) && not (same_fourcc fourcc yuyv)

-- the samples of a plane of chroma
abbrev pub chroma_samples : Layout → ℕ → ℕ → ℕ
chroma_samples Grey width height = 0
chroma_samples C420 width height = width / 2 * (height / 2)
chroma_samples C422 width height = width / 2 * height
