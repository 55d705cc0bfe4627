-- What asking for a format gives is a pair that a context can have.
use Rattle.std.proofs.Common.{◌≡◌, sym, ap, refl, subst, ℕ, ◌%◌, ◌≤◌, inl, inr, List, [], ◌∷◌, arith}
use Rattle.std.specs.Prelude.{◌⊎◌, true, false, ◌&&◌, nat_le, nat_eq}
use Rattle.std.specs.List.{list_any}
use Rattle.std.proofs.lemmas.Bool.{or_cases, and_parts, and_from, cases_Bool, cond-true, cond-false}
use Rattle.std.proofs.lemmas.Bool.Decides.{nat_tests}
use Rattle.std.proofs.lemmas.Slice.Eq.{bytes_eq-Decides}
use Rattle.vc_base.specs.declared.Kind.TheVariants.{Enc, Dec}
use Rattle.vc_base.specs.declared.Side.TheVariants.{Cap}
use Rattle.vc_base.specs.declared.Fourcc.{Fourcc}
use Rattle.vc_base.specs.declared.Format.{Format}
use Rattle.vc_defs.specs.declared.Layout.{Layout}
use Rattle.vc_defs.specs.declared.Layout.TheVariants.{Grey, C420, C422}
use Rattle.vc_defs.specs.declared.Geometry.{Geometry}
use Rattle.vc_defs.specs.Headers.{is_legal_geometry, is_legal_size, size_suits, is_even}
use Rattle.vc_defs.specs.Raw.{grey, yu12, nv12, yuyv, same_fourcc, layout_of, raw_formats, first_raw}
use Rattle.vc_model.specs.Formats.{FormatPair, listed_or, width_for, height_for, encoder_formats, decoder_formats, formats_for, formats_found, raised_to_even, clamp}
use Rattle.vc_geom.specs.Pairs.{is_raw, IsSize, CanStand}

abbrev IsOne : Fourcc → Type 0
IsOne f = (f ≡ grey) ⊎ (f ≡ yu12) ⊎ (f ≡ nv12) ⊎ (f ≡ yuyv)

fourcc_of : List ℕ → Fourcc
fourcc_of bytes = record { 0 = bytes }

same_is : (a b : Fourcc) → same_fourcc a b ≡ true → a ≡ b
unfolding fourcc_of
same_is a b e = ap fourcc_of ((bytes_eq-Decides a.0 b.0).0 e)

raw_is_one : (f : Fourcc) → is_raw f ≡ true → IsOne f
raw_is_one f e =
    elim (or_cases (same_fourcc f grey) (list_any (same_fourcc f) (yu12 ∷ nv12 ∷ yuyv ∷ [])) e) [
      | inl a ↦ inl (same_is f grey a)
      | inr b ↦
          elim (or_cases (same_fourcc f yu12) (list_any (same_fourcc f) (nv12 ∷ yuyv ∷ [])) b) [
            | inl a ↦ inr (inl (same_is f yu12 a))
            | inr c ↦
                elim (or_cases (same_fourcc f nv12) (list_any (same_fourcc f) (yuyv ∷ [])) c) [
                  | inl a ↦ inr (inr (inl (same_is f nv12 a)))
                  | inr d ↦
                      elim (or_cases (same_fourcc f yuyv) false d) [ inl a ↦ inr (inr (inr (same_is f yuyv a))) | inr z ↦ absurd cc ]
                ]
          ]
    ]

listed_is_one : (f : Fourcc) → IsOne (listed_or (grey ∷ yu12 ∷ nv12 ∷ yuyv ∷ []) f yu12)
listed_is_one f =
    elim (cases_Bool (is_raw f)) [
      | inl e ↦ subst IsOne (sym (cond-true (is_raw f) f yu12 e)) (raw_is_one f e)
      | inr e ↦ subst IsOne (sym (cond-false (is_raw f) f yu12 e)) (inr (inl refl))
    ]

size_legal : (w h : ℕ) → 16 ≤ w → w ≤ 4096 → 16 ≤ h → h ≤ 2160 → is_legal_size w h ≡ true
size_legal w h a b c d = grind (arith, nat_tests)

raised_even : (n : ℕ) → is_even (raised_to_even n) ≡ true
raised_even n =
    let e : raised_to_even n % 2 ≡ 0 = omega arith in
    let t : nat_eq (raised_to_even n % 2) 0 ≡ true = grind (arith, nat_tests) in t

nearest_size : (layout : Layout) (w h : ℕ) → IsSize (width_for layout w) (height_for layout h)
nearest_size Grey w h = (omega arith, omega arith, omega arith, omega arith)
nearest_size C420 w h = (omega arith, omega arith, omega arith, omega arith)
nearest_size C422 w h = (omega arith, omega arith, omega arith, omega arith)

nearest_suits : (layout : Layout) (w h : ℕ) → size_suits layout (width_for layout w) (height_for layout h) ≡ true
nearest_suits Grey w h = refl
nearest_suits C420 w h = and_from (is_even (raised_to_even (clamp 16 4096 w))) (is_even (raised_to_even (clamp 16 2160 h))) (raised_even (clamp 16 4096 w)) (raised_even (clamp 16 2160 h))
nearest_suits C422 w h = raised_even (clamp 16 4096 w)

nearest_legal : (layout : Layout) (w h : ℕ) → is_legal_geometry (record { width = width_for layout w; height = height_for layout h; layout = layout }) ≡ true
nearest_legal layout w h =
    let s = nearest_size layout w h in
    and_from (is_legal_size (width_for layout w) (height_for layout h)) (size_suits layout (width_for layout w) (height_for layout h))
    (size_legal (width_for layout w) (height_for layout h) s.0 s.1 s.2 s.3) (nearest_suits layout w h)

-- an encoder's formats for any raw format that was asked for
pub encoder_stands : (f : Fourcc) (w h : ℕ) → CanStand Enc (encoder_formats (listed_or (grey ∷ yu12 ∷ nv12 ∷ yuyv ∷ []) f yu12) w h)
encoder_stands f w h =
    let fourcc : Fourcc = listed_or (grey ∷ yu12 ∷ nv12 ∷ yuyv ∷ []) f yu12 in
    let layout : Layout = layout_of fourcc in
    (((listed_is_one f, nearest_legal layout w h), refl), (refl, refl, nearest_size layout w h), refl)

-- a decoder's formats for any coded format that was asked for
pub decoder_stands : (want : Format) → CanStand Dec (decoder_formats want)
decoder_stands want =
    (((inr (inl refl), nearest_legal C420 want.width want.height), refl), (refl, refl, nearest_size C420 want.width want.height), refl, omega arith, omega arith)

-- the raw format is one of the layout
abbrev IsOneOf : Layout → Fourcc → Type 0
IsOneOf layout f = IsOne f × (layout_of f ≡ layout)

first_is : (layout : Layout) → IsOneOf layout (first_raw layout)
first_is Grey = (inl refl, refl)
first_is C420 = (inr (inl refl), refl)
first_is C422 = (inr (inr (inr refl)), refl)

listed_is : (layout : Layout) (f : Fourcc) → list_any (same_fourcc f) (raw_formats layout) ≡ true → IsOneOf layout f
listed_is Grey f e =
    elim (or_cases (same_fourcc f grey) false e) [ inl a ↦ subst (IsOneOf Grey) (sym (same_is f grey a)) (inl refl, refl) | inr z ↦ absurd cc ]
listed_is C420 f e =
    elim (or_cases (same_fourcc f yu12) (list_any (same_fourcc f) (nv12 ∷ [])) e) [
      | inl a ↦ subst (IsOneOf C420) (sym (same_is f yu12 a)) (inr (inl refl), refl)
      | inr b ↦
          elim (or_cases (same_fourcc f nv12) false b) [ inl a ↦ subst (IsOneOf C420) (sym (same_is f nv12 a)) (inr (inr (inl refl)), refl) | inr z ↦ absurd cc ]
    ]
listed_is C422 f e =
    elim (or_cases (same_fourcc f yuyv) false e) [ inl a ↦ subst (IsOneOf C422) (sym (same_is f yuyv a)) (inr (inr (inr refl)), refl) | inr z ↦ absurd cc ]

taken_is : (layout : Layout) (f : Fourcc) → IsOneOf layout (listed_or (raw_formats layout) f (first_raw layout))
taken_is layout f =
    elim (cases_Bool (list_any (same_fourcc f) (raw_formats layout))) [
      | inl e ↦ subst (IsOneOf layout) (sym (cond-true (list_any (same_fourcc f) (raw_formats layout)) f (first_raw layout) e)) (listed_is layout f e)
      | inr e ↦ subst (IsOneOf layout) (sym (cond-false (list_any (same_fourcc f) (raw_formats layout)) f (first_raw layout) e)) (first_is layout)
    ]

legal_size : (w h : ℕ) → is_legal_size w h ≡ true → IsSize w h
legal_size w h e =
    let a = and_parts (nat_le 16 w && nat_le w 4096 && nat_le 16 h) (nat_le h 2160) e in
    let b = and_parts (nat_le 16 w && nat_le w 4096) (nat_le 16 h) a.0 in
    let d = and_parts (nat_le 16 w) (nat_le w 4096) b.0 in
    (grind (arith, nat_tests, d.0), grind (arith, nat_tests, d.1), grind (arith, nat_tests, b.1), grind (arith, nat_tests, a.1))

-- a decoder's formats for a geometry whose pictures it gives in a raw format of the layout
pub found_stands : (pair : FormatPair) (g : Geometry) → is_legal_geometry g ≡ true → 64 ≤ pair.out.size → pair.out.size ≤ 17694764 → CanStand Dec (formats_found pair g)
found_stands pair g legal least most =
    let taken = taken_is g.layout pair.cap.fourcc in
    let fourcc : Fourcc = listed_or (raw_formats g.layout) pair.cap.fourcc (first_raw g.layout) in
    let size = legal_size g.width g.height (and_parts (is_legal_size g.width g.height) (size_suits g.layout g.width g.height) legal).0 in
    let here : is_legal_geometry (record { width = g.width; height = g.height; layout = layout_of fourcc }) ≡ true =
    subst (λ (l : Layout). is_legal_geometry (record { width = g.width; height = g.height; layout = l }) ≡ true) (sym taken.1) legal
    in
    (((taken.0, here), refl), (refl, refl, size), refl, least, most)

-- a decoder's formats when its pictures are asked for in another raw format
pub capture_stands : (pair : FormatPair) (want : Format) → CanStand Dec pair → CanStand Dec (formats_for Dec Cap pair want)
capture_stands pair want stands =
    let layout : Layout = layout_of pair.cap.fourcc in
    let taken = taken_is layout want.fourcc in
    let fourcc : Fourcc = listed_or (raw_formats layout) want.fourcc (first_raw layout) in
    let here : is_legal_geometry (record { width = pair.cap.width; height = pair.cap.height; layout = layout_of fourcc }) ≡ true =
    subst (λ (l : Layout). is_legal_geometry (record { width = pair.cap.width; height = pair.cap.height; layout = l }) ≡ true) (sym taken.1) stands.0.0.1
    in
    (((taken.0, here), refl), stands.1, stands.2, stands.3, stands.4)
