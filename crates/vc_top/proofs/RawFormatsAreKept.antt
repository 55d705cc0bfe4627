-- A raw format is one that a device sets as it is asked for. Its fourcc is one of the four that are listed, and a legal size is
-- the nearest one to itself, so setting the format changes neither.
use Rattle.std.proofs.Common.{◌≡◌, ◌∙◌, sym, ap, refl, subst, ℕ, ◌%◌, ◌≤◌, inl, inr, [], ◌∷◌, arith}
use Rattle.std.specs.Prelude.{◌⊎◌, true}
use Rattle.std.proofs.lemmas.Bool.{and_parts}
use Rattle.std.proofs.lemmas.Bool.Decides.{nat_tests}
use Rattle.vc_base.specs.declared.Fourcc.{Fourcc}
use Rattle.vc_base.specs.declared.Format.{Format}
use Rattle.vc_defs.specs.declared.Layout.{Layout}
use Rattle.vc_defs.specs.declared.Layout.TheVariants.{Grey, C420, C422}
use Rattle.vc_defs.specs.Headers.{is_legal_size, size_suits, is_even}
use Rattle.vc_defs.specs.Laws.{IsRawFormat}
use Rattle.vc_defs.specs.Raw.{grey, yu12, nv12, yuyv, layout_of}
use Rattle.vc_model.specs.Formats.{listed_or, width_for, height_for, raw_format}
use Rattle.vc_encode_flow.specs.Flows.{IsKept}

IsListed : Fourcc → Type 0
IsListed f = listed_or (grey ∷ yu12 ∷ nv12 ∷ yuyv ∷ []) f yu12 ≡ f

is_listed : (f : Fourcc) → (f ≡ grey) ⊎ (f ≡ yu12) ⊎ (f ≡ nv12) ⊎ (f ≡ yuyv) → IsListed f
unfolding IsListed
is_listed f (inl e) = subst IsListed (sym e) refl
is_listed f (inr (inl e)) = subst IsListed (sym e) refl
is_listed f (inr (inr (inl e))) = subst IsListed (sym e) refl
is_listed f (inr (inr (inr e))) = subst IsListed (sym e) refl

even : (n : ℕ) → is_even n ≡ true → n % 2 ≡ 0
even n e = grind (arith, nat_tests)

in_size : (w h : ℕ) → is_legal_size w h ≡ true → (16 ≤ w) × (w ≤ 4096) × (16 ≤ h) × (h ≤ 2160)
in_size w h e =
    (grind (arith, nat_tests), grind (arith, nat_tests), grind (arith, nat_tests), grind (arith, nat_tests))

-- a legal size is the nearest one to itself
same_size : (layout : Layout) (w h : ℕ) → is_legal_size w h ≡ true → size_suits layout w h ≡ true → (width_for layout w ≡ w) × (height_for layout h ≡ h)
same_size Grey w h size suits = let s = in_size w h size in (omega arith, omega arith)
same_size C420 w h size suits =
    let s = in_size w h size in
    let both = and_parts (is_even w) (is_even h) suits in
    let a : w % 2 ≡ 0 = even w both.0 in
    let b : h % 2 ≡ 0 = even h both.1 in (omega arith, omega arith)
same_size C422 w h size suits =
    let s = in_size w h size in
    let a : w % 2 ≡ 0 = even w suits in (omega arith, omega arith)

pub kept : (f : Format) → IsRawFormat f → IsKept f
unfolding IsListed
kept f raw =
    let layout : Layout = layout_of f.fourcc in
    let legal = and_parts (is_legal_size f.width f.height) (size_suits layout f.width f.height) raw.0.1 in
    let same = same_size layout f.width f.height legal.0 legal.1 in
    let listed : listed_or (grey ∷ yu12 ∷ nv12 ∷ yuyv ∷ []) f.fourcc yu12 ≡ f.fourcc = is_listed f.fourcc raw.0.0 in
    let at_fourcc = ap (λ (c : Fourcc). raw_format c (width_for (layout_of c) f.width) (height_for (layout_of c) f.height)) listed in
    let at_width = ap (λ (w : ℕ). raw_format f.fourcc w (height_for layout f.height)) same.0 in
    let at_height = ap (λ (h : ℕ). raw_format f.fourcc f.width h) same.1 in
    let at_size : raw_format f.fourcc f.width f.height ≡ f = ap (λ (n : ℕ). the_format f.fourcc f.width f.height n) (sym raw.1) in
    at_fourcc ∙ (at_width ∙ (at_height ∙ at_size))
  where
    the_format : Fourcc → ℕ → ℕ → ℕ → Format
    the_format fourcc width height size = record { fourcc = fourcc; width = width; height = height; size = size }
