-- The generator's pictures in a raw format that an encoder keeps: reading one back gives its planes. A format that is kept
-- is one of the raw formats, with a size that its pictures can have, and in these writing and reading planes are each
-- other's inverse.
use Rattle.std.proofs.Common.{ℕ, ◌≡◌, ◌≤◌, ◌<◌, ◌+◌, ◌*◌, ◌/◌, ◌%◌, List, [], ◌∷◌, length, map, refl, sym, ap, ◌∙◌, subst, arith, All, inl, inr}
use Rattle.std.specs.Prelude.{◌⊎◌, true, false, nat_eq}
use Rattle.std.specs.List.{list_any}
use Rattle.std.proofs.Math.Nat.{mod-lt}
use Rattle.std.proofs.lemmas.Bool.{or_cases, and_from, cases_Bool, cond-true, cond-false}
use Rattle.std.proofs.lemmas.Bool.Decides.{nat_tests}
use Rattle.std.proofs.lemmas.List.Elements.{All-cons}
use Rattle.std.proofs.lemmas.List.FromFn.{length-map-range_with_len, get_or-map-range_with_len}
use Rattle.std.proofs.lemmas.Slice.Eq.{bytes_eq-Decides}
use Rattle.vc_base.specs.declared.Format.{Format}
use Rattle.vc_base.specs.declared.Fourcc.{Fourcc}
use Rattle.vc_defs.specs.declared.Geometry.{Geometry}
use Rattle.vc_defs.specs.declared.Layout.{Layout}
use Rattle.vc_defs.specs.declared.Layout.TheVariants.{Grey, C420, C422}
use Rattle.vc_defs.specs.Bodies.{IsPicture, plane_shapes}
use Rattle.vc_defs.specs.Headers.{is_legal_geometry, is_legal_size, size_suits, is_even}
use Rattle.vc_defs.specs.Laws.{IsRawFormat}
use Rattle.vc_defs.specs.Raw.{grey, yu12, nv12, yuyv, same_fourcc, layout_of, geometry_of, planes_of, generated, generated_planes, generated_plane, generated_sample}
use Rattle.vc_defs.proofs.RawBothWays.{raw_both_ways}
use Rattle.vc_model.specs.Formats.{listed_or, width_for, height_for, raised_to_even, clamp, raw_format}
use Rattle.vc_encode_flow.specs.Flows.{IsKept}
use Rattle.vc_encode_flow.specs.Shares.{raw_picture}

-- A format that an encoder keeps is a raw format

abbrev IsOne : Fourcc → Type 0
IsOne f = (f ≡ grey) ⊎ (f ≡ yu12) ⊎ (f ≡ nv12) ⊎ (f ≡ yuyv)

fourcc_of : List ℕ → Fourcc
fourcc_of bytes = record { 0 = bytes }

same_is : (a b : Fourcc) → same_fourcc a b ≡ true → a ≡ b
unfolding fourcc_of
same_is a b e = ap fourcc_of ((bytes_eq-Decides a.0 b.0).0 e)

raw_is_one : (f : Fourcc) → list_any (same_fourcc f) (grey ∷ yu12 ∷ nv12 ∷ yuyv ∷ []) ≡ true → IsOne f
raw_is_one f e =
    elim (or_cases (same_fourcc f grey) (list_any (same_fourcc f) (yu12 ∷ nv12 ∷ yuyv ∷ [])) e) [
      | inl a ↦ inl (same_is f grey a)
      | inr b ↦
          elim (or_cases (same_fourcc f yu12) (list_any (same_fourcc f) (nv12 ∷ yuyv ∷ [])) b) [
            | inl a ↦ inr (inl (same_is f yu12 a))
            | inr c ↦
                elim (or_cases (same_fourcc f nv12) (list_any (same_fourcc f) (yuyv ∷ [])) c) [
                  | inl a ↦ inr (inr (inl (same_is f nv12 a)))
                  | inr d ↦
                      elim (or_cases (same_fourcc f yuyv) false d) [ inl a ↦ inr (inr (inr (same_is f yuyv a))) | inr z ↦ absurd cc ]
                ]
          ]
    ]

listed_is_one : (f : Fourcc) → IsOne (listed_or (grey ∷ yu12 ∷ nv12 ∷ yuyv ∷ []) f yu12)
listed_is_one f =
    elim (cases_Bool (list_any (same_fourcc f) (grey ∷ yu12 ∷ nv12 ∷ yuyv ∷ []))) [
      | inl e ↦ subst IsOne (sym (cond-true (list_any (same_fourcc f) (grey ∷ yu12 ∷ nv12 ∷ yuyv ∷ [])) f yu12 e)) (raw_is_one f e)
      | inr e ↦ subst IsOne (sym (cond-false (list_any (same_fourcc f) (grey ∷ yu12 ∷ nv12 ∷ yuyv ∷ [])) f yu12 e)) (inr (inl refl))
    ]

size_legal : (w h : ℕ) → 16 ≤ w → w ≤ 4096 → 16 ≤ h → h ≤ 2160 → is_legal_size w h ≡ true
size_legal w h a b c d = grind (arith, nat_tests)

raised_even : (n : ℕ) → is_even (raised_to_even n) ≡ true
raised_even n =
    let e : raised_to_even n % 2 ≡ 0 = omega arith in
    let t : nat_eq (raised_to_even n % 2) 0 ≡ true = grind (arith, nat_tests) in t

nearest_legal_size : (layout : Layout) (w h : ℕ) → is_legal_size (width_for layout w) (height_for layout h) ≡ true
nearest_legal_size Grey w h = size_legal (width_for Grey w) (height_for Grey h) (omega arith) (omega arith) (omega arith) (omega arith)
nearest_legal_size C420 w h = size_legal (width_for C420 w) (height_for C420 h) (omega arith) (omega arith) (omega arith) (omega arith)
nearest_legal_size C422 w h = size_legal (width_for C422 w) (height_for C422 h) (omega arith) (omega arith) (omega arith) (omega arith)

nearest_suits : (layout : Layout) (w h : ℕ) → size_suits layout (width_for layout w) (height_for layout h) ≡ true
nearest_suits Grey w h = refl
nearest_suits C420 w h = and_from (is_even (raised_to_even (clamp 16 4096 w))) (is_even (raised_to_even (clamp 16 2160 h))) (raised_even (clamp 16 4096 w)) (raised_even (clamp 16 2160 h))
nearest_suits C422 w h = raised_even (clamp 16 4096 w)

nearest_legal : (layout : Layout) (w h : ℕ) → is_legal_geometry (record { width = width_for layout w; height = height_for layout h; layout = layout }) ≡ true
nearest_legal layout w h =
    and_from (is_legal_size (width_for layout w) (height_for layout h)) (size_suits layout (width_for layout w) (height_for layout h)) (nearest_legal_size layout w h) (nearest_suits layout w h)

nearest_raw : (f : Fourcc) (w h : ℕ) →
    let fourcc = listed_or (grey ∷ yu12 ∷ nv12 ∷ yuyv ∷ []) f yu12 in IsRawFormat (raw_format fourcc (width_for (layout_of fourcc) w) (height_for (layout_of fourcc) h))
nearest_raw f w h =
    let fourcc : Fourcc = listed_or (grey ∷ yu12 ∷ nv12 ∷ yuyv ∷ []) f yu12 in ((listed_is_one f, nearest_legal (layout_of fourcc) w h), refl)

pub kept_raw : (format : Format) → IsKept format → IsRawFormat format
kept_raw format k = subst IsRawFormat k (nearest_raw format.fourcc format.width format.height)

-- What the generator makes is a picture

sample_small : (c x y n s : ℕ) → generated_sample c x y n s < 256
unfolding generated_sample
sample_small c x y n s = mod-lt (x + 2 * y + 3 * n + 64 * c + s + x * y * (n + 1) / 64) (omega arith)

plane_small : (c w h n s : ℕ) → All (λ (v : ℕ). v < 256) (generated_plane c w h n s)
plane_small c w h n s = λ k d l.
    let f : ℕ → ℕ = λ (i : ℕ). generated_sample c (i % w) (i / w) n s in
    let inside : k < w * h = omega (arith, l, length-map-range_with_len f 0 (w * h)) in
    subst (λ (v : ℕ). v < 256) (sym (get_or-map-range_with_len f 0 (w * h) k k d inside (omega arith))) (sample_small c (k % w) (k / w) n s)

planes_small : (c : ℕ) (shapes : List (ℕ × ℕ)) (n s : ℕ) → All (λ (plane : List ℕ). All (λ (v : ℕ). v < 256) plane) (generated_planes c shapes n s)
planes_small c [] n s = λ k d l. absurd (omega (arith, l))
planes_small c (shape ∷ shapes) n s =
    All-cons (λ (plane : List ℕ). All (λ (v : ℕ). v < 256) plane) (generated_plane c shape.0 shape.1 n s) (generated_planes (c + 1) shapes n s) (plane_small c shape.0 shape.1 n s) (planes_small (c + 1) shapes n s)

planes_long : (c : ℕ) (shapes : List (ℕ × ℕ)) (n s : ℕ) → map (λ (plane : List ℕ). length plane) (generated_planes c shapes n s) ≡ map (λ (shape : ℕ × ℕ). shape.0 * shape.1) shapes
planes_long c [] n s = refl
planes_long c (shape ∷ shapes) n s =
    let long : length (generated_plane c shape.0 shape.1 n s) ≡ shape.0 * shape.1 = length-map-range_with_len (λ (i : ℕ). generated_sample c (i % shape.0) (i / shape.0) n s) 0 (shape.0 * shape.1) in
    ap (λ (z : ℕ). z ∷ map (λ (plane : List ℕ). length plane) (generated_planes (c + 1) shapes n s)) long
    ∙ ap (λ (z : List ℕ). shape.0 * shape.1 ∷ z) (planes_long (c + 1) shapes n s)

generated_is_picture : (g : Geometry) (n s : ℕ) → IsPicture g (generated g n s)
unfolding generated
generated_is_picture g n s = (planes_long 0 (plane_shapes g) n s, planes_small 0 (plane_shapes g) n s)

-- the planes of the generator's pictures are those that were made
pub planes_back : (format : Format) (number : ℕ) (ns : List ℕ) → IsRawFormat format →
    map (planes_of format.fourcc format.width format.height) (map (raw_picture format number) ns) ≡ map (λ (n : ℕ). generated (geometry_of format) n number) ns
planes_back format number [] raw = refl
planes_back format number (n ∷ ns) raw =
    let g = geometry_of format in
    let here : planes_of format.fourcc format.width format.height (raw_picture format number n) ≡ generated g n number = (raw_both_ways format.fourcc format.width format.height raw.0).0 (generated g n number) (generated_is_picture g n number) in
    ap (λ (z : List (List ℕ)). z ∷ map (planes_of format.fourcc format.width format.height) (map (raw_picture format number) ns)) here
    ∙ ap (λ (z : List (List (List ℕ))). generated g n number ∷ z) (planes_back format number ns raw)
