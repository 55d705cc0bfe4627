-- The planes that lie in an area are a picture of its geometry. They have the lengths that the geometry gives them,
-- and their samples are bytes.
use Rattle.std.proofs.Common.{◌≡◌, ◌∙◌, sym, ap, subst, refl, ℕ, suc, ◌+◌, ◌*◌, ◌<◌, ◌≤◌, List, [], ◌∷◌, ◌++◌, length, take, drop, get_or, map, arith, append_assoc, length-drop}
use Rattle.std.specs.List.{All}
use Rattle.std.proofs.lemmas.List.{length-take-le, get_or-drop, take_at, drop_at}
use Rattle.std.proofs.lemmas.List.Elements.{All-nil, All-cons, All-take}
use mir.Val.{Fits}
use mir.Syntax.{w8}
use Rattle.vc_defs.specs.declared.Geometry.{Geometry}
use Rattle.vc_defs.specs.Planes.{WrittenPlane}
use Rattle.vc_defs.specs.Bodies.{IsPicture, plane_shapes}
use Rattle.vc_defs.specs.Raw.{cut_into}
use Rattle.vc_work.specs.References.{plane_total, picture_total}
use Rattle.vc_frame.specs.Planes.{samples_shown}

abbrev AreSamples : List ℕ → Type 0
AreSamples samples = All (λ s. s < 256) samples

all_bytes : (xs : List ℕ) → ((i : ℕ) → Fits w8 (get_or xs i 0)) → AreSamples xs
all_bytes [] h = All-nil (λ s. s < 256)
all_bytes (x ∷ xs) h = let f : Fits w8 x = h 0 in All-cons (λ s. s < 256) x xs f.fits (all_bytes xs (λ i. h (suc i)))

bytes_behind : (xs : List ℕ) (n : ℕ) → ((i : ℕ) → Fits w8 (get_or xs i 0)) → (i : ℕ) → Fits w8 (get_or (drop n xs) i 0)
bytes_behind xs n h i = subst (λ (x : ℕ). Fits w8 x) (sym (get_or-drop n xs i 0)) (h (n + i))

cut_bytes : (sizes : List (ℕ × ℕ)) (xs : List ℕ) → ((i : ℕ) → Fits w8 (get_or xs i 0)) → All AreSamples (cut_into sizes xs)
cut_bytes [] xs h = All-nil AreSamples
cut_bytes (size ∷ sizes) xs h =
    let n : ℕ = size.0 * size.1 in
    All-cons AreSamples (take n xs) (cut_into sizes (drop n xs)) (All-take (λ s. s < 256) n xs (all_bytes xs h)) (cut_bytes sizes (drop n xs) (bytes_behind xs n h))

cut_long : (sizes : List (ℕ × ℕ)) (xs : List ℕ) → plane_total sizes ≤ length xs → map length (cut_into sizes xs) ≡ map (λ (shape : ℕ × ℕ). shape.0 * shape.1) sizes
cut_long [] xs h = refl
cut_long (size ∷ sizes) xs h =
    let n : ℕ = size.0 * size.1 in
    ap (λ (k : ℕ). k ∷ map length (cut_into sizes (drop n xs))) (length-take-le n xs (omega arith))
    ∙ ap (λ (ks : List ℕ). n ∷ ks) (cut_long sizes (drop n xs) (omega (arith, length-drop n xs)))

-- The planes of an area are a picture.
pub cut_is_picture : (g : Geometry) (xs : List ℕ) → picture_total g ≤ length xs → ((i : ℕ) → Fits w8 (get_or xs i 0)) → IsPicture g (cut_into (plane_shapes g) xs)
cut_is_picture g xs long h = (cut_long (plane_shapes g) xs long, cut_bytes (plane_shapes g) xs h)

-- The planes of an area at whose front planes are shown are these.
pub cut_of_shown : (sizes : List (ℕ × ℕ)) (ws : List WrittenPlane) (tail : List ℕ) → map length (map (λ (p : WrittenPlane). p.samples) ws) ≡ map (λ (shape : ℕ × ℕ). shape.0 * shape.1) sizes →
    cut_into sizes (samples_shown ws ++ tail) ≡ map (λ (p : WrittenPlane). p.samples) ws
cut_of_shown [] [] tail e = refl
cut_of_shown [] (w ∷ ws) tail e = absurd cc
cut_of_shown (size ∷ sizes) [] tail e = absurd cc
cut_of_shown (size ∷ sizes) (w ∷ ws) tail e =
    let n : ℕ = size.0 * size.1 in
    let long : length w.samples ≡ n = cc in
    let later : map length (map (λ (p : WrittenPlane). p.samples) ws) ≡ map (λ (shape : ℕ × ℕ). shape.0 * shape.1) sizes = cc in
    let is : samples_shown (w ∷ ws) ++ tail ≡ w.samples ++ (samples_shown ws ++ tail) = append_assoc w.samples (samples_shown ws) tail in
    ap (cut_into (size ∷ sizes)) is
    ∙ ap (λ (p : List ℕ). p ∷ cut_into sizes (drop n (w.samples ++ (samples_shown ws ++ tail)))) (take_at w.samples (samples_shown ws ++ tail) n long)
    ∙ ap (λ (xs : List ℕ). w.samples ∷ cut_into sizes xs) (drop_at w.samples (samples_shown ws ++ tail) n long)
    ∙ ap (λ (ps : List (List ℕ)). w.samples ∷ ps) (cut_of_shown sizes ws tail later)
