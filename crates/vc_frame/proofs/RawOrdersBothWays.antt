-- The samples of planes in the order of a raw format, and back. Each format puts a plane's samples at fixed
-- distances, so that to take them out and to put them in again are the same table read both ways.
use Rattle.std.proofs.Common.{◌≡◌, ◌∙◌, sym, ap, subst, refl, ℕ, ◌+◌, ◌*◌, ◌/◌, ◌%◌, ◌<◌, ◌≤◌, inl, inr, List, [], ◌∷◌, ◌++◌, length, take, drop, get_or, map, arith}
use Rattle.std.specs.Prelude.{◌⊎◌, true, false, nat_eq, ◌&&◌}
use Rattle.std.specs.List.{range_with_len, flat_map}
use Rattle.std.proofs.lemmas.Bool.{and_parts}
use Rattle.std.proofs.lemmas.Bool.Decides.{nat_tests}
use Rattle.std.proofs.lemmas.List.{take_at, drop_at}
use Rattle.std.proofs.lemmas.List.Edits.{fill_by_more}
use Rattle.std.proofs.lemmas.List.FromFn.{length-map-range_with_len}
use Rattle.std.proofs.Math.ListN.{set, length-set}
use Rattle.std.proofs.Math.Seq.{take-add}
use Rattle.std.proofs.lemmas.List.{length-take-le}
use Rattle.vc_base.specs.declared.Fourcc.{Fourcc}
use Rattle.vc_defs.specs.declared.Layout.{Layout}
use Rattle.vc_defs.specs.declared.Layout.TheVariants.{C420, C422}
use Rattle.vc_defs.specs.declared.Geometry.{Geometry}
use Rattle.vc_defs.specs.Headers.{is_legal_geometry, is_legal_size, is_even}
use Rattle.vc_defs.specs.Bodies.{shapes_of, plane_shapes}
use Rattle.vc_defs.specs.Raw.{grey, yu12, nv12, yuyv, same_fourcc, layout_of, raw_size, sample_at, packed_sample, in_turns, strided, cut_into, planes_of, raw_of}
use Rattle.vc_defs.specs.Laws.{IsRawShape}
use Rattle.vc_work.specs.References.{plane_total, picture_total}
use Rattle.vc_frame.specs.Order.{IsRawOf, is_planar, chroma_samples}

-- one more entry of a list that is made by a function of the place
pub set_next : (f : ℕ → ℕ) (to : List ℕ) (n v : ℕ) → n < length to → v ≡ f n → ((j : ℕ) → j < n → get_or to j 0 ≡ f j) → (j : ℕ) → j < n + 1 → get_or (set to n v) j 0 ≡ f j
set_next f to n v lt e h j below = ap (λ (x : ℕ). get_or (set to n x) j 0) e ∙ fill_by_more f to n 0 lt h j below

-- two more samples of planes in turns
pub turns_more : (luma first second to : List ℕ) (k : ℕ) → 2 * k + 1 < length to →
    ((j : ℕ) → j < 2 * k → get_or to j 0 ≡ sample_at (luma ∷ first ∷ second ∷ []) (1 + j % 2) (j / 2)) →
    (j : ℕ) → j < 2 * (k + 1) → get_or (set (set to (2 * k) (get_or first k 0)) (2 * k + 1) (get_or second k 0)) j 0 ≡ sample_at (luma ∷ first ∷ second ∷ []) (1 + j % 2) (j / 2)
turns_more luma first second to k inside h j below =
    let planes : List (List ℕ) = luma ∷ first ∷ second ∷ [] in
    let one : get_or first k 0 ≡ sample_at planes (1 + 2 * k % 2) (2 * k / 2) =
    ap (λ n. sample_at planes 1 n) (let q : k ≡ 2 * k / 2 = omega arith in q) ∙ ap (λ n. sample_at planes (1 + n) (2 * k / 2)) (let r : 0 ≡ 2 * k % 2 = omega arith in r) in
    let two : get_or second k 0 ≡ sample_at planes (1 + (2 * k + 1) % 2) ((2 * k + 1) / 2) =
    ap (λ n. sample_at planes 2 n) (let q : k ≡ (2 * k + 1) / 2 = omega arith in q) ∙ ap (λ n. sample_at planes (1 + n) ((2 * k + 1) / 2)) (let r : 1 ≡ (2 * k + 1) % 2 = omega arith in r) in
    let size : length (set to (2 * k) (get_or first k 0)) ≡ length to = length-set to (2 * k) (get_or first k 0) in
    set_next (λ i. sample_at planes (1 + i % 2) (i / 2)) (set to (2 * k) (get_or first k 0)) (2 * k + 1) (get_or second k 0) (omega (arith, size)) two
    (set_next (λ i. sample_at planes (1 + i % 2) (i / 2)) to (2 * k) (get_or first k 0) (omega arith) one h) j (omega arith)

-- what holds of each raw format holds of one of them
by_fourcc : (P : Fourcc → Type 0) (fourcc : Fourcc) → (fourcc ≡ grey) ⊎ (fourcc ≡ yu12) ⊎ (fourcc ≡ nv12) ⊎ (fourcc ≡ yuyv) → P grey → P yu12 → P nv12 → P yuyv → P fourcc
by_fourcc P fourcc which a b c d =
    elim which [
      | inl e ↦ subst P (sym e) a
      | inr which' ↦
          elim which' [
            | inl e ↦ subst P (sym e) b
            | inr which'' ↦ elim which'' [ inl e ↦ subst P (sym e) c | inr e ↦ subst P (sym e) d ]
          ]
    ]

never : {A : Type 0} → false ≡ true → A
never e = absurd cc

packed_fourcc : (fourcc : Fourcc) (width height : ℕ) → IsRawShape fourcc width height → same_fourcc fourcc yuyv ≡ true → fourcc ≡ yuyv
packed_fourcc fourcc width height s =
    by_fourcc (λ (f : Fourcc). same_fourcc f yuyv ≡ true → f ≡ yuyv) fourcc s.0 (λ e. never e) (λ e. never e) (λ e. never e) (λ e. refl)

turned_fourcc : (fourcc : Fourcc) (width height : ℕ) → IsRawShape fourcc width height → same_fourcc fourcc nv12 ≡ true → fourcc ≡ nv12
turned_fourcc fourcc width height s =
    by_fourcc (λ (f : Fourcc). same_fourcc f nv12 ≡ true → f ≡ nv12) fourcc s.0 (λ e. never e) (λ e. never e) (λ e. refl) (λ e. never e)

other_fourcc : (fourcc : Fourcc) (width height : ℕ) → IsRawShape fourcc width height → is_planar fourcc ≡ false → same_fourcc fourcc yuyv ≡ false → fourcc ≡ nv12
other_fourcc fourcc width height s =
    by_fourcc (λ (f : Fourcc). is_planar f ≡ false → same_fourcc f yuyv ≡ false → f ≡ nv12) fourcc s.0 (λ e _. never (sym e)) (λ e _. never (sym e)) (λ _ _. refl) (λ _ e. never (sym e))

planar_fourcc : (fourcc : Fourcc) (width height : ℕ) → IsRawShape fourcc width height → same_fourcc fourcc yuyv ≡ false → same_fourcc fourcc nv12 ≡ false → (fourcc ≡ grey) ⊎ (fourcc ≡ yu12)
planar_fourcc fourcc width height s =
    by_fourcc (λ (f : Fourcc). same_fourcc f yuyv ≡ false → same_fourcc f nv12 ≡ false → (f ≡ grey) ⊎ (f ≡ yu12)) fourcc s.0 (λ _ _. inl refl) (λ _ _. inr refl) (λ _ e. never (sym e)) (λ e _. never (sym e))

even_is : (n : ℕ) → is_even n ≡ true → n ≡ 2 * (n / 2)
even_is n e = let t : nat_eq (n % 2) 0 ≡ true = e in let z : n % 2 ≡ 0 = grind (arith, nat_tests) in omega arith

-- the layout and the sizes of a format in which Y, U, Y and V come in turns
pub record Packed (fourcc : Fourcc) (g : Geometry) : Type 0 where
  pub is : fourcc ≡ yuyv
  pub layout : C422 ≡ g.layout
  pub twice : g.width * g.height ≡ 2 * chroma_samples g.layout g.width g.height

pub packed : (fourcc : Fourcc) (g : Geometry) → IsRawOf fourcc g → same_fourcc fourcc yuyv ≡ true → Packed fourcc g
packed fourcc g s e =
    let is : fourcc ≡ yuyv = packed_fourcc fourcc g.width g.height s.0 e in
    let l : C422 ≡ g.layout = sym (ap layout_of is) ∙ s.1 in
    let legal = subst (λ (f : Fourcc). is_legal_geometry (record { width = g.width; height = g.height; layout = layout_of f }) ≡ true) is s.0.1 in
    let even : g.width ≡ 2 * (g.width / 2) = even_is g.width (and_parts (is_legal_size g.width g.height) (is_even g.width) legal).1 in
    let x : ℕ = g.width / 2 in
    let half : g.width * g.height ≡ 2 * (x * g.height) = ap (λ n. n * g.height) even ∙ omega arith in
    record { is = is; layout = l; twice = half ∙ ap (λ (y : Layout). 2 * chroma_samples y g.width g.height) l }

-- the layout and the sizes of a format in which the samples of chroma come in turns
pub record Turned (fourcc : Fourcc) (g : Geometry) : Type 0 where
  pub is : fourcc ≡ nv12
  pub layout : C420 ≡ g.layout
  pub quarter : g.width * g.height / 4 ≡ chroma_samples g.layout g.width g.height

pub turned : (fourcc : Fourcc) (g : Geometry) → IsRawOf fourcc g → fourcc ≡ nv12 → Turned fourcc g
turned fourcc g s is =
    let l : C420 ≡ g.layout = sym (ap layout_of is) ∙ s.1 in
    let legal = subst (λ (f : Fourcc). is_legal_geometry (record { width = g.width; height = g.height; layout = layout_of f }) ≡ true) is s.0.1 in
    let even = and_parts (is_even g.width) (is_even g.height) (and_parts (is_legal_size g.width g.height) (is_even g.width && is_even g.height) legal).1 in
    let p : g.width ≡ 2 * (g.width / 2) = even_is g.width even.0 in
    let q : g.height ≡ 2 * (g.height / 2) = even_is g.height even.1 in
    let x : ℕ = g.width / 2 in
    let y : ℕ = g.height / 2 in
    let e : g.width * g.height ≡ 4 * (x * y) = ap (λ n. n * g.height) p ∙ ap (λ n. 2 * x * n) q ∙ omega arith in
    let quarter : g.width * g.height / 4 ≡ x * y = omega (arith, e) in
    record { is = is; layout = l; quarter = quarter ∙ ap (λ (z : Layout). chroma_samples z g.width g.height) l }

pub turned_where : (fourcc : Fourcc) (g : Geometry) → IsRawOf fourcc g → same_fourcc fourcc nv12 ≡ true → Turned fourcc g
turned_where fourcc g s e = turned fourcc g s (turned_fourcc fourcc g.width g.height s.0 e)

pub turned_else : (fourcc : Fourcc) (g : Geometry) → IsRawOf fourcc g → is_planar fourcc ≡ false → same_fourcc fourcc yuyv ≡ false → Turned fourcc g
turned_else fourcc g s p e = turned fourcc g s (other_fourcc fourcc g.width g.height s.0 p e)

-- the planes of three lists one behind the other
three_cut : (a b : ℕ × ℕ) (luma first second tail : List ℕ) → length luma ≡ a.0 * a.1 → length first ≡ b.0 * b.1 → length second ≡ b.0 * b.1 →
    cut_into (a ∷ b ∷ b ∷ []) (luma ++ (first ++ (second ++ tail))) ≡ luma ∷ first ∷ second ∷ []
three_cut a b luma first second tail p q r =
    let one : drop (a.0 * a.1) (luma ++ (first ++ (second ++ tail))) ≡ first ++ (second ++ tail) = drop_at luma (first ++ (second ++ tail)) (a.0 * a.1) p in
    let two : drop (b.0 * b.1) (first ++ (second ++ tail)) ≡ second ++ tail = drop_at first (second ++ tail) (b.0 * b.1) q in
    ap (λ (x : List ℕ). x ∷ cut_into (b ∷ b ∷ []) (drop (a.0 * a.1) (luma ++ (first ++ (second ++ tail))))) (take_at luma (first ++ (second ++ tail)) (a.0 * a.1) p)
    ∙ ap (λ (x : List ℕ). luma ∷ cut_into (b ∷ b ∷ []) x) one
    ∙ ap (λ (x : List ℕ). luma ∷ x ∷ cut_into (b ∷ []) (drop (b.0 * b.1) (first ++ (second ++ tail)))) (take_at first (second ++ tail) (b.0 * b.1) q)
    ∙ ap (λ (x : List ℕ). luma ∷ first ∷ cut_into (b ∷ []) x) two
    ∙ ap (λ (x : List ℕ). luma ∷ first ∷ x ∷ []) (take_at second tail (b.0 * b.1) r)

-- a picture with chroma has three planes, the second of which is as large as the third
chroma_cut : (g : Geometry) (luma first second tail : List ℕ) → (C420 ≡ g.layout) ⊎ (C422 ≡ g.layout) → length luma ≡ g.width * g.height → length first ≡ chroma_samples g.layout g.width g.height → length second ≡ chroma_samples g.layout g.width g.height →
    cut_into (plane_shapes g) (luma ++ (first ++ (second ++ tail))) ≡ luma ∷ first ∷ second ∷ []
chroma_cut g luma first second tail which p q r =
    elim which [
      | inl e ↦
          subst (λ (l : Layout). cut_into (shapes_of l g.width g.height) (luma ++ (first ++ (second ++ tail))) ≡ luma ∷ first ∷ second ∷ []) e
          (three_cut (g.width, g.height) (g.width / 2, g.height / 2) luma first second tail p (q ∙ ap (λ (l : Layout). chroma_samples l g.width g.height) (sym e)) (r ∙ ap (λ (l : Layout). chroma_samples l g.width g.height) (sym e)))
      | inr e ↦
          subst (λ (l : Layout). cut_into (shapes_of l g.width g.height) (luma ++ (first ++ (second ++ tail))) ≡ luma ∷ first ∷ second ∷ []) e
          (three_cut (g.width, g.height) (g.width / 2, g.height) luma first second tail p (q ∙ ap (λ (l : Layout). chroma_samples l g.width g.height) (sym e)) (r ∙ ap (λ (l : Layout). chroma_samples l g.width g.height) (sym e)))
    ]

pub length-strided : (first step count : ℕ) (bytes : List ℕ) → length (strided first step count bytes) ≡ count
length-strided first step count bytes = length-map-range_with_len (λ k. get_or bytes (first + step * k) 0) 0 count

-- planes that were taken out of a picture in which Y, U, Y and V come in turns
pub parted_packed : (fourcc : Fourcc) (g : Geometry) (raw luma first second tail : List ℕ) (n m o : ℕ) → Packed fourcc g → n ≡ g.width * g.height → m ≡ chroma_samples g.layout g.width g.height → o ≡ chroma_samples g.layout g.width g.height →
    luma ≡ strided 0 2 n raw → first ≡ strided 1 4 m raw → second ≡ strided 3 4 o raw → cut_into (plane_shapes g) (luma ++ (first ++ (second ++ tail))) ≡ planes_of fourcc g.width g.height raw
unfolding planes_of
parted_packed fourcc g raw luma first second tail n m o s nn mm oo l f h =
    let half : g.width * g.height / 2 ≡ chroma_samples g.layout g.width g.height = omega (arith, s.twice) in
    chroma_cut g luma first second tail (inr s.layout) (ap length l ∙ length-strided 0 2 n raw ∙ nn) (ap length f ∙ length-strided 1 4 m raw ∙ mm) (ap length h ∙ length-strided 3 4 o raw ∙ oo)
    ∙ ap (λ (x : List ℕ). x ∷ first ∷ second ∷ []) (l ∙ ap (λ k. strided 0 2 k raw) nn)
    ∙ ap (λ (x : List ℕ). strided 0 2 (g.width * g.height) raw ∷ x ∷ second ∷ []) (f ∙ ap (λ k. strided 1 4 k raw) (mm ∙ sym half))
    ∙ ap (λ (x : List ℕ). strided 0 2 (g.width * g.height) raw ∷ strided 1 4 (g.width * g.height / 2) raw ∷ x ∷ []) (h ∙ ap (λ k. strided 3 4 k raw) (oo ∙ sym half))
    ∙ ap (λ (f : Fourcc). planes_of f g.width g.height raw) (sym s.is)

-- planes that were taken out of a picture in which the samples of chroma come in turns
pub parted_turned : (fourcc : Fourcc) (g : Geometry) (raw luma first second tail : List ℕ) (n m o : ℕ) → Turned fourcc g → n ≡ g.width * g.height → m ≡ chroma_samples g.layout g.width g.height → o ≡ chroma_samples g.layout g.width g.height → n ≤ length raw →
    luma ≡ take n raw → first ≡ strided n 2 m raw → second ≡ strided (n + 1) 2 o raw → cut_into (plane_shapes g) (luma ++ (first ++ (second ++ tail))) ≡ planes_of fourcc g.width g.height raw
unfolding planes_of
parted_turned fourcc g raw luma first second tail n m o s nn mm oo inside l f h =
    let q : g.width * g.height / 4 ≡ chroma_samples g.layout g.width g.height = s.quarter in
    chroma_cut g luma first second tail (inl s.layout) (ap length l ∙ length-take-le n raw inside ∙ nn) (ap length f ∙ length-strided n 2 m raw ∙ mm) (ap length h ∙ length-strided (n + 1) 2 o raw ∙ oo)
    ∙ ap (λ (x : List ℕ). x ∷ first ∷ second ∷ []) (l ∙ ap (λ k. take k raw) nn)
    ∙ ap (λ (x : List ℕ). take (g.width * g.height) raw ∷ x ∷ second ∷ []) (f ∙ ap (λ k. strided k 2 m raw) nn ∙ ap (λ k. strided (g.width * g.height) 2 k raw) (mm ∙ sym q))
    ∙ ap (λ (x : List ℕ). take (g.width * g.height) raw ∷ strided (g.width * g.height) 2 (g.width * g.height / 4) raw ∷ x ∷ []) (h ∙ ap (λ k. strided (k + 1) 2 o raw) nn ∙ ap (λ k. strided (g.width * g.height + 1) 2 k raw) (oo ∙ sym q))
    ∙ ap (λ (f : Fourcc). planes_of f g.width g.height raw) (sym s.is)

-- planes one behind the other, joined, are the front of the bytes
pub joined_front : (sizes : List (ℕ × ℕ)) (bytes : List ℕ) → flat_map (λ (plane : List ℕ). plane) (cut_into sizes bytes) ≡ take (plane_total sizes) bytes
joined_front [] bytes = refl
joined_front (size ∷ sizes) bytes =
    let n : ℕ = size.0 * size.1 in
    ap (λ (x : List ℕ). take n bytes ++ x) (joined_front sizes (drop n bytes)) ∙ sym (take-add n (plane_total sizes) bytes)

-- the three planes of an area
chroma_parts : (g : Geometry) (area : List ℕ) → (C420 ≡ g.layout) ⊎ (C422 ≡ g.layout) →
    let n = g.width * g.height in let m = chroma_samples g.layout g.width g.height in
    cut_into (plane_shapes g) area ≡ take n area ∷ take m (drop n area) ∷ take m (drop m (drop n area)) ∷ []
chroma_parts g area which =
    let n : ℕ = g.width * g.height in
    elim which [
      | inl e ↦ subst (λ (l : Layout). let m = chroma_samples l g.width g.height in cut_into (shapes_of l g.width g.height) area ≡ take n area ∷ take m (drop n area) ∷ take m (drop m (drop n area)) ∷ []) e refl
      | inr e ↦ subst (λ (l : Layout). let m = chroma_samples l g.width g.height in cut_into (shapes_of l g.width g.height) area ≡ take n area ∷ take m (drop n area) ∷ take m (drop m (drop n area)) ∷ []) e refl
    ]

-- the planes of an area, as they were split off
split_parts : (g : Geometry) (area luma rest first rest' second : List ℕ) (n m : ℕ) → (C420 ≡ g.layout) ⊎ (C422 ≡ g.layout) → n ≡ g.width * g.height → m ≡ chroma_samples g.layout g.width g.height →
    luma ≡ take n area → rest ≡ drop n area → first ≡ take m rest → rest' ≡ drop m rest → second ≡ take m rest' →
    cut_into (plane_shapes g) area ≡ luma ∷ first ∷ second ∷ []
split_parts g area luma rest first rest' second n m which nn mm l r f r' s =
    chroma_parts g area which
    ∙ ap (λ (k : ℕ). let c = chroma_samples g.layout g.width g.height in take k area ∷ take c (drop k area) ∷ take c (drop c (drop k area)) ∷ []) (sym nn)
    ∙ ap (λ (k : ℕ). take n area ∷ take k (drop n area) ∷ take k (drop k (drop n area)) ∷ []) (sym mm)
    ∙ ap (λ (x : List ℕ). x ∷ take m (drop n area) ∷ take m (drop m (drop n area)) ∷ []) (sym l)
    ∙ ap (λ (x : List ℕ). luma ∷ take m x ∷ take m (drop m x) ∷ []) (sym r)
    ∙ ap (λ (x : List ℕ). luma ∷ x ∷ take m (drop m rest) ∷ []) (sym f)
    ∙ ap (λ (x : List ℕ). luma ∷ first ∷ take m x ∷ []) (sym r')
    ∙ ap (λ (x : List ℕ). luma ∷ first ∷ x ∷ []) (sym s)

-- planes that were put in the order Y, U, Y, V
pub shown_packed : (fourcc : Fourcc) (g : Geometry) (area luma rest first rest' second out : List ℕ) (n m k : ℕ) → Packed fourcc g → n ≡ g.width * g.height → m ≡ chroma_samples g.layout g.width g.height →
    luma ≡ take n area → rest ≡ drop n area → first ≡ take m rest → rest' ≡ drop m rest → second ≡ take m rest' → k ≡ 2 * length luma →
    out ≡ map (packed_sample (luma ∷ first ∷ second ∷ [])) (range_with_len 0 k) → out ≡ raw_of fourcc (cut_into (plane_shapes g) area)
unfolding raw_of
shown_packed fourcc g area luma rest first rest' second out n m k s nn mm l r f r' h kk o =
    o ∙ ap (λ (i : ℕ). map (packed_sample (luma ∷ first ∷ second ∷ [])) (range_with_len 0 i)) kk
    ∙ ap (λ (f : Fourcc). raw_of f (luma ∷ first ∷ second ∷ [])) (sym s.is)
    ∙ ap (λ (ps : List (List ℕ)). raw_of fourcc ps) (sym (split_parts g area luma rest first rest' second n m (inr s.layout) nn mm l r f r' h))

-- planes of which those of chroma were put in turns
pub shown_turned : (fourcc : Fourcc) (g : Geometry) (area luma rest first rest' second out : List ℕ) (n m : ℕ) → Turned fourcc g → n ≡ g.width * g.height → m ≡ chroma_samples g.layout g.width g.height →
    luma ≡ take n area → rest ≡ drop n area → first ≡ take m rest → rest' ≡ drop m rest → second ≡ take m rest' →
    out ≡ luma ++ in_turns (luma ∷ first ∷ second ∷ []) (2 * length first) → out ≡ raw_of fourcc (cut_into (plane_shapes g) area)
unfolding raw_of
shown_turned fourcc g area luma rest first rest' second out n m s nn mm l r f r' h o =
    o ∙ ap (λ (f : Fourcc). raw_of f (luma ∷ first ∷ second ∷ [])) (sym s.is)
    ∙ ap (λ (ps : List (List ℕ)). raw_of fourcc ps) (sym (split_parts g area luma rest first rest' second n m (inl s.layout) nn mm l r f r' h))

-- planes that were left one behind the other
pub shown_planar : (fourcc : Fourcc) (g : Geometry) (area out : List ℕ) (n : ℕ) → IsRawOf fourcc g → same_fourcc fourcc yuyv ≡ false → same_fourcc fourcc nv12 ≡ false → n ≡ picture_total g → out ≡ take n area → out ≡ raw_of fourcc (cut_into (plane_shapes g) area)
unfolding raw_of
shown_planar fourcc g area out n s p t e o =
    o ∙ ap (λ (k : ℕ). take k area) e ∙ sym (joined_front (plane_shapes g) area)
    ∙ elim (planar_fourcc fourcc g.width g.height s.0 p t) [
      | inl i ↦ ap (λ (f : Fourcc). raw_of f (cut_into (plane_shapes g) area)) (sym i)
      | inr i ↦ ap (λ (f : Fourcc). raw_of f (cut_into (plane_shapes g) area)) (sym i)
    ]

planar_either : (fourcc : Fourcc) (width height : ℕ) → IsRawShape fourcc width height → is_planar fourcc ≡ true → (fourcc ≡ grey) ⊎ (fourcc ≡ yu12)
planar_either fourcc width height s =
    by_fourcc (λ (f : Fourcc). is_planar f ≡ true → (f ≡ grey) ⊎ (f ≡ yu12)) fourcc s.0 (λ _. inl refl) (λ _. inr refl) (λ e. never e) (λ e. never e)

-- the planes of a raw picture whose format has them one behind the other
pub planar_parts : (fourcc : Fourcc) (g : Geometry) (raw : List ℕ) → IsRawOf fourcc g → is_planar fourcc ≡ true → cut_into (plane_shapes g) raw ≡ planes_of fourcc g.width g.height raw
unfolding planes_of
planar_parts fourcc g raw s p =
    ap (λ (l : Layout). cut_into (shapes_of l g.width g.height) raw) (sym s.1)
    ∙ elim (planar_either fourcc g.width g.height s.0 p) [
      | inl e ↦ ap (λ (f : Fourcc). cut_into (shapes_of (layout_of f) g.width g.height) raw) e ∙ ap (λ (f : Fourcc). planes_of f g.width g.height raw) (sym e)
      | inr e ↦ ap (λ (f : Fourcc). cut_into (shapes_of (layout_of f) g.width g.height) raw) e ∙ ap (λ (f : Fourcc). planes_of f g.width g.height raw) (sym e)
    ]

-- a raw picture has as many bytes as its planes have samples
pub raw_total : (fourcc : Fourcc) (width height : ℕ) → IsRawShape fourcc width height → plane_total (shapes_of (layout_of fourcc) width height) ≡ raw_size (layout_of fourcc) width height
raw_total fourcc width height s =
    by_fourcc (λ (f : Fourcc). is_legal_geometry (record { width = width; height = height; layout = layout_of f }) ≡ true → plane_total (shapes_of (layout_of f) width height) ≡ raw_size (layout_of f) width height) fourcc s.0
    (λ _. omega arith) (λ legal. quarters legal) (λ legal. quarters legal) halves s.1
  where
    quarters : (is_legal_size width height && (is_even width && is_even height)) ≡ true → plane_total (shapes_of C420 width height) ≡ raw_size C420 width height
    quarters legal =
        let even = and_parts (is_even width) (is_even height) (and_parts (is_legal_size width height) (is_even width && is_even height) legal).1 in
        let p : width ≡ 2 * (width / 2) = even_is width even.0 in
        let q : height ≡ 2 * (height / 2) = even_is height even.1 in
        let x : ℕ = width / 2 in
        let y : ℕ = height / 2 in
        let e : width * height ≡ 4 * (x * y) = ap (λ n. n * height) p ∙ ap (λ n. 2 * x * n) q ∙ omega arith in
        let m : ℕ = x * y in
        let t : width * height * 3 / 2 ≡ width * height + 2 * m = omega (arith, e) in
        let u : width * height + (m + (m + 0)) ≡ width * height + 2 * m = omega arith in
        u ∙ sym t

    halves : (is_legal_size width height && is_even width) ≡ true → plane_total (shapes_of C422 width height) ≡ raw_size C422 width height
    halves legal =
        let p : width ≡ 2 * (width / 2) = even_is width (and_parts (is_legal_size width height) (is_even width) legal).1 in
        let x : ℕ = width / 2 in
        let e : width * height ≡ 2 * (x * height) = ap (λ n. n * height) p ∙ omega arith in
        let m : ℕ = x * height in
        let t : width * height + (m + (m + 0)) ≡ 2 * (width * height) = omega (arith, e) in
        t
