-- The raw formats of a layout have it, and a decoder's formats go on being those of its geometry. Both are looked up
-- in the short lists of formats.
use Rattle.std.proofs.Common.{◌≡◌, Bool, true, false, cond, ◌||◌, Option, Some, None, refl, ap, ◌∙◌}
use Rattle.std.specs.List.{list_any}
use Rattle.std.proofs.lemmas.Bool.{false≢true}
use Rattle.std.proofs.lemmas.Slice.Eq.{bytes_eq-Decides}
use Rattle.vc_base.specs.declared.Kind.TheVariants.{Dec}
use Rattle.vc_base.specs.declared.Side.{Side}
use Rattle.vc_base.specs.declared.Side.TheVariants.{Out, Cap}
use Rattle.vc_base.specs.declared.Fourcc.{Fourcc}
use Rattle.vc_base.specs.declared.Format.{Format}
use Rattle.vc_defs.specs.declared.Layout.{Layout}
use Rattle.vc_defs.specs.declared.Layout.TheVariants.{Grey, C420, C422}
use Rattle.vc_defs.specs.declared.Geometry.{Geometry}
use Rattle.vc_defs.specs.Raw.{grey, yu12, nv12, yuyv, same_fourcc, layout_of, raw_formats, first_raw}
use Rattle.vc_model.specs.Formats.{FormatPair, formats_for, formats_found}
use Rattle.vc_model.specs.Sound.{HasGeometry}
use Rattle.vc_dec.specs.Decoders.{geometry_after}

same_as : (f x : Fourcc) → same_fourcc f x ≡ true → f ≡ x
same_as f x e = ap {B = Fourcc} (λ l. record { 0 = l }) ((bytes_eq-Decides f.0 x.0).0 e)

listed_split : (f a b : Fourcc) (layout : Layout) → layout_of a ≡ layout → layout_of b ≡ layout → (s t : Bool) → same_fourcc f a ≡ s → same_fourcc f b ≡ t → (s || (t || false)) ≡ true → layout_of f ≡ layout
listed_split f a b layout p q true t e g h = ap layout_of (same_as f a e) ∙ p
listed_split f a b layout p q false true e g h = ap layout_of (same_as f b g) ∙ q
listed_split f a b layout p q false false e g h = absurd (false≢true h)

single_split : (f a : Fourcc) (layout : Layout) → layout_of a ≡ layout → (s : Bool) → same_fourcc f a ≡ s → (s || false) ≡ true → layout_of f ≡ layout
single_split f a layout p true e h = ap layout_of (same_as f a e) ∙ p
single_split f a layout p false e h = absurd (false≢true h)

-- a raw format of a layout has it
raw_layout : (layout : Layout) (f : Fourcc) (b : Bool) → list_any (same_fourcc f) (raw_formats layout) ≡ b → layout_of (cond b f (first_raw layout)) ≡ layout
raw_layout Grey f true e = single_split f grey Grey refl (same_fourcc f grey) refl e
raw_layout Grey f false e = refl
raw_layout C420 f true e =
    listed_split f yu12 nv12 C420 refl refl (same_fourcc f yu12) (same_fourcc f nv12) refl refl e
raw_layout C420 f false e = refl
raw_layout C422 f true e = single_split f yuyv C422 refl (same_fourcc f yuyv) refl e
raw_layout C422 f false e = refl

kept_sized : (geometry : Option Geometry) (present : FormatPair) (want : Format) → HasGeometry Dec present geometry → HasGeometry Dec (formats_for Dec Cap present want) geometry
kept_sized None present want h = tt
kept_sized (Some g) present want h =
    let layout : Layout = layout_of present.cap.fourcc in
    (h.0, h.1, raw_layout layout want.fourcc (list_any (same_fourcc want.fourcc) (raw_formats layout)) refl ∙ h.2)

-- a side gets a new format
pub set_sized : (side : Side) (geometry : Option Geometry) (present : FormatPair) (want : Format) → HasGeometry Dec present geometry → HasGeometry Dec (formats_for Dec side present want) (geometry_after side geometry)
set_sized Out geometry present want h = tt
set_sized Cap geometry present want h = kept_sized geometry present want h

-- a new geometry is found
pub found_sized : (present : FormatPair) (g : Geometry) → HasGeometry Dec (formats_found present g) (Some g)
found_sized present g =
    (refl, refl, raw_layout g.layout present.cap.fourcc (list_any (same_fourcc present.cap.fourcc) (raw_formats g.layout)) refl)
