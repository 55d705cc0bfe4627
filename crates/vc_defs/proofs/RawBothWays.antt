-- The bytes of a picture in a raw format give its planes, and the planes give the bytes, so neither loses anything.
-- For each layout the place of a sample in the bytes is computed, and the two directions name the same place.
use Rattle.std.proofs.Common.{◌≡◌, ◌∙◌, sym, ap, refl, subst, ℕ, ◌+◌, ◌*◌, ◌/◌, ◌%◌, ◌-◌, ◌<◌, inl, inr, List, [], ◌∷◌, ◌++◌, length, take, drop, get_or, map, arith, length-append, length-drop}
use Rattle.std.specs.Prelude.{◌⊎◌, true, ◌&&◌, nat_eq, cond}
use Rattle.std.specs.List.{range_with_len, flat_map}
use Rattle.std.proofs.lemmas.Bool.{and_parts, cond-true, cond-false, cases_eq}
use Rattle.std.proofs.lemmas.Bool.Decides.{nat_tests}
use Rattle.std.proofs.lemmas.List.{ext_get_or, take_at, drop_at, take-append-drop, get_or-append_right, get_or-drop}
use Rattle.std.proofs.lemmas.List.FromFn.{length-map-range_with_len, get_or-map-range_with_len}
use Rattle.vc_base.specs.declared.Fourcc.{Fourcc}
use Rattle.vc_defs.specs.Headers.{is_legal_geometry, is_legal_size, is_even}
use Rattle.vc_defs.specs.Bodies.{plane_shapes}
use Rattle.vc_defs.specs.Raw.{grey, yu12, nv12, yuyv, layout_of, raw_size, raw_of, planes_of, cut_into, strided, in_turns, packed_sample, sample_at}
use Rattle.vc_defs.specs.Laws.{IsRawShape, RawBothWays, RawHasItsSize}

-- an entry of a list that is made by a function of the place
table_at : (f : ℕ → ℕ) (n k : ℕ) → k < n → get_or (map f (range_with_len 0 n)) k 0 ≡ f k
table_at f n k h = get_or-map-range_with_len f 0 n k k 0 h (omega arith)

table_long : (f : ℕ → ℕ) (n : ℕ) → length (map f (range_with_len 0 n)) ≡ n
table_long f n = length-map-range_with_len f 0 n

parity : (k : ℕ) → (k % 2 ≡ 0) ⊎ (k % 2 ≡ 1)
parity k = elim (cases_eq (k % 2) 0) [ inl e ↦ inl e | inr ne ↦ inr (omega arith) ]

quarter : (k : ℕ) → (k % 2 ≡ 0) ⊎ ((k % 4 ≡ 1) ⊎ (k % 4 ≡ 3))
quarter k =
    elim (parity k) [
      | inl e ↦ inl e
      | inr e ↦ elim (cases_eq (k % 4) 1) [ inl f ↦ inr (inl f) | inr ne ↦ inr (inr (omega arith)) ]
    ]

-- the three kinds of bytes of a picture in which Y, U, Y and V come in turns
packed_even : (planes : List (List ℕ)) (k : ℕ) → k % 2 ≡ 0 → packed_sample planes k ≡ sample_at planes 0 (k / 2)
packed_even planes k e =
    cond-true (nat_eq (k % 2) 0) (sample_at planes 0 (k / 2)) (cond (nat_eq (k % 4) 1) (sample_at planes 1 (k / 4)) (sample_at planes 2 (k / 4))) (grind (arith, nat_tests))

packed_one : (planes : List (List ℕ)) (k : ℕ) → k % 4 ≡ 1 → packed_sample planes k ≡ sample_at planes 1 (k / 4)
packed_one planes k e =
    let odd : k % 2 ≡ 1 = omega arith in
    cond-false (nat_eq (k % 2) 0) (sample_at planes 0 (k / 2)) (cond (nat_eq (k % 4) 1) (sample_at planes 1 (k / 4)) (sample_at planes 2 (k / 4))) (grind (arith, nat_tests))
    ∙ cond-true (nat_eq (k % 4) 1) (sample_at planes 1 (k / 4)) (sample_at planes 2 (k / 4)) (grind (arith, nat_tests))

packed_three : (planes : List (List ℕ)) (k : ℕ) → k % 4 ≡ 3 → packed_sample planes k ≡ sample_at planes 2 (k / 4)
packed_three planes k e =
    let odd : k % 2 ≡ 1 = omega arith in
    cond-false (nat_eq (k % 2) 0) (sample_at planes 0 (k / 2)) (cond (nat_eq (k % 4) 1) (sample_at planes 1 (k / 4)) (sample_at planes 2 (k / 4))) (grind (arith, nat_tests))
    ∙ cond-false (nat_eq (k % 4) 1) (sample_at planes 1 (k / 4)) (sample_at planes 2 (k / 4)) (grind (arith, nat_tests))

abbrev area : ℕ × ℕ → ℕ
area shape = shape.0 * shape.1

abbrev areas : List (ℕ × ℕ) → ℕ
areas [] = 0
areas (shape ∷ shapes) = area shape + areas shapes

-- planes one behind the other
cut_of_joined : (shapes : List (ℕ × ℕ)) (planes : List (List ℕ)) → map length planes ≡ map area shapes → cut_into shapes (flat_map (λ plane. plane) planes) ≡ planes
cut_of_joined [] [] e = refl
cut_of_joined [] (p ∷ planes) e = absurd cc
cut_of_joined (shape ∷ shapes) [] e = absurd cc
cut_of_joined (shape ∷ shapes) (p ∷ planes) e =
    let long : length p ≡ area shape = cc in
    let later : map length planes ≡ map area shapes = cc in
    ap (λ t. t ∷ cut_into shapes (drop (area shape) (p ++ flat_map (λ plane. plane) planes))) (take_at p (flat_map (λ plane. plane) planes) (area shape) long)
    ∙ ap (λ t. p ∷ cut_into shapes t) (drop_at p (flat_map (λ plane. plane) planes) (area shape) long)
    ∙ ap (λ t. p ∷ t) (cut_of_joined shapes planes later)

joined_of_cut : (shapes : List (ℕ × ℕ)) (bytes : List ℕ) → length bytes ≡ areas shapes → flat_map (λ plane. plane) (cut_into shapes bytes) ≡ bytes
joined_of_cut [] [] e = refl
joined_of_cut [] (b ∷ bytes) e = absurd (omega arith)
joined_of_cut (shape ∷ shapes) bytes e =
    ap (λ t. take (area shape) bytes ++ t) (joined_of_cut shapes (drop (area shape) bytes) (omega (arith, length-drop (area shape) bytes)))
    ∙ take-append-drop (area shape) bytes

joined_long : (shapes : List (ℕ × ℕ)) (planes : List (List ℕ)) → map length planes ≡ map area shapes → length (flat_map (λ plane. plane) planes) ≡ areas shapes
joined_long [] [] e = refl
joined_long [] (p ∷ planes) e = absurd cc
joined_long (shape ∷ shapes) [] e = absurd cc
joined_long (shape ∷ shapes) (p ∷ planes) e =
    let long : length p ≡ area shape = cc in
    let later : length (flat_map (λ plane. plane) planes) ≡ areas shapes = joined_long shapes planes cc in
    length-append p (flat_map (λ plane. plane) planes) ∙ omega arith

-- what both directions and the size say of a fourcc
record Raw (fourcc : Fourcc) (width height : ℕ) : Type 0 where
  back : (planes : List (List ℕ)) → map length planes ≡ map area (plane_shapes (record { width = width; height = height; layout = layout_of fourcc })) → planes_of fourcc width height (raw_of fourcc planes) ≡ planes
  there : (bytes : List ℕ) → length bytes ≡ raw_size (layout_of fourcc) width height → raw_of fourcc (planes_of fourcc width height bytes) ≡ bytes
  long : (planes : List (List ℕ)) → map length planes ≡ map area (plane_shapes (record { width = width; height = height; layout = layout_of fourcc })) → length (raw_of fourcc planes) ≡ raw_size (layout_of fourcc) width height

grey_raw : (width height : ℕ) → Raw grey width height
unfolding raw_of planes_of
grey_raw width height = record {
  back = λ planes e. cut_of_joined ((width, height) ∷ []) planes e;
  there = λ bytes e. joined_of_cut ((width, height) ∷ []) bytes (omega arith);
  long = λ planes e. joined_long ((width, height) ∷ []) planes e ∙ omega arith;
}

-- sizes of chroma at half width and half height
half_by_half : (w h x y : ℕ) → w ≡ 2 * x → h ≡ 2 * y → w * h * 3 / 2 ≡ w * h + 2 * (x * y)
half_by_half w h x y p q =
    let e : w * h ≡ 4 * (x * y) = ap (λ n. n * h) p ∙ ap (λ n. 2 * x * n) q ∙ omega arith in
    let m : ℕ = x * y in
    omega (arith, e)

quarter_of : (w h x y : ℕ) → w ≡ 2 * x → h ≡ 2 * y → w * h / 4 ≡ x * y
quarter_of w h x y p q =
    let e : w * h ≡ 4 * (x * y) = ap (λ n. n * h) p ∙ ap (λ n. 2 * x * n) q ∙ omega arith in
    omega (arith, e)

twice_half : (w h x : ℕ) → w ≡ 2 * x → w * h ≡ 2 * (x * h)
twice_half w h x p = ap (λ n. n * h) p ∙ omega arith

even_is : (n : ℕ) → is_even n ≡ true → n ≡ 2 * (n / 2)
even_is n e = let t : nat_eq (n % 2) 0 ≡ true = e in let z : n % 2 ≡ 0 = grind (arith, nat_tests) in omega arith

yu12_raw : (width height : ℕ) → width ≡ 2 * (width / 2) → height ≡ 2 * (height / 2) → Raw yu12 width height
unfolding raw_of planes_of
yu12_raw width height p q =
    let size : width * height * 3 / 2 ≡ width * height + 2 * (width / 2 * (height / 2)) = half_by_half width height (width / 2) (height / 2) p q in
    record {
      back = λ planes e. cut_of_joined ((width, height) ∷ (width / 2, height / 2) ∷ (width / 2, height / 2) ∷ []) planes e;
      there = λ bytes e. joined_of_cut ((width, height) ∷ (width / 2, height / 2) ∷ (width / 2, height / 2) ∷ []) bytes (e ∙ size ∙ omega arith);
      long = λ planes e. joined_long ((width, height) ∷ (width / 2, height / 2) ∷ (width / 2, height / 2) ∷ []) planes e ∙ omega (arith, size);
    }

-- three planes of these lengths
record Three (planes : List (List ℕ)) (a b : ℕ) : Type 0 where
  y : List ℕ
  u : List ℕ
  v : List ℕ
  are : planes ≡ y ∷ u ∷ v ∷ []
  luma : length y ≡ a
  first : length u ≡ b
  second : length v ≡ b

three_of : (planes : List (List ℕ)) (a b : ℕ) → map length planes ≡ a ∷ b ∷ b ∷ [] → Three planes a b
three_of [] a b e = absurd cc
three_of (y ∷ []) a b e = absurd cc
three_of (y ∷ u ∷ []) a b e = absurd cc
three_of (y ∷ u ∷ v ∷ []) a b e = record { y = y; u = u; v = v; are = refl; luma = cc; first = cc; second = cc }
three_of (y ∷ u ∷ v ∷ x ∷ planes) a b e = absurd cc

-- samples of U and V in turns
turn_at : (y u v : List ℕ) (n k : ℕ) → k < n → get_or (in_turns (y ∷ u ∷ v ∷ []) n) k 0 ≡ sample_at (y ∷ u ∷ v ∷ []) (1 + k % 2) (k / 2)
turn_at y u v n k h = table_at (λ k. sample_at (y ∷ u ∷ v ∷ []) (1 + k % 2) (k / 2)) n k h

turns_back : (y u v : List ℕ) (a b : ℕ) → length y ≡ a → length u ≡ b → length v ≡ b →
    take a (y ++ in_turns (y ∷ u ∷ v ∷ []) (2 * length u)) ∷ strided a 2 b (y ++ in_turns (y ∷ u ∷ v ∷ []) (2 * length u)) ∷ strided (a + 1) 2 b (y ++ in_turns (y ∷ u ∷ v ∷ []) (2 * length u)) ∷ [] ≡ y ∷ u ∷ v ∷ []
turns_back y u v a b ly lu lv =
    ap (λ t. t ∷ strided a 2 b raw ∷ strided (a + 1) 2 b raw ∷ []) (take_at y turns a ly)
    ∙ ap (λ t. y ∷ t ∷ strided (a + 1) 2 b raw ∷ []) (ext_get_or 0 (strided a 2 b raw) u (table_long (λ k. get_or raw (a + 2 * k) 0) b ∙ sym lu) (λ k h. u_at k (omega (arith, table_long (λ k. get_or raw (a + 2 * k) 0) b))))
    ∙ ap (λ t. y ∷ u ∷ t ∷ []) (ext_get_or 0 (strided (a + 1) 2 b raw) v (table_long (λ k. get_or raw (a + 1 + 2 * k) 0) b ∙ sym lv) (λ k h. v_at k (omega (arith, table_long (λ k. get_or raw (a + 1 + 2 * k) 0) b))))
  where
    turns : List ℕ
    turns = in_turns (y ∷ u ∷ v ∷ []) (2 * length u)

    raw : List ℕ
    raw = y ++ turns

    u_at : (k : ℕ) → k < b → get_or (strided a 2 b raw) k 0 ≡ get_or u k 0
    u_at k h =
        let i : a + 2 * k - a ≡ 2 * k = omega arith in
        let even : 2 * k % 2 ≡ 0 = omega arith in
        let half : 2 * k / 2 ≡ k = omega arith in
        table_at (λ k. get_or raw (a + 2 * k) 0) b k h
        ∙ get_or-append_right y turns a (a + 2 * k) 0 ly (omega arith)
        ∙ ap (λ i. get_or turns i 0) i
        ∙ turn_at y u v (2 * length u) (2 * k) (omega arith)
        ∙ ap (λ i. sample_at (y ∷ u ∷ v ∷ []) (1 + i) (2 * k / 2)) even
        ∙ ap (λ i. get_or u i 0) half

    v_at : (k : ℕ) → k < b → get_or (strided (a + 1) 2 b raw) k 0 ≡ get_or v k 0
    v_at k h =
        let i : a + 1 + 2 * k - a ≡ 2 * k + 1 = omega arith in
        let odd : (2 * k + 1) % 2 ≡ 1 = omega arith in
        let half : (2 * k + 1) / 2 ≡ k = omega arith in
        table_at (λ k. get_or raw (a + 1 + 2 * k) 0) b k h
        ∙ get_or-append_right y turns a (a + 1 + 2 * k) 0 ly (omega arith)
        ∙ ap (λ i. get_or turns i 0) i
        ∙ turn_at y u v (2 * length u) (2 * k + 1) (omega arith)
        ∙ ap (λ i. sample_at (y ∷ u ∷ v ∷ []) (1 + i) ((2 * k + 1) / 2)) odd
        ∙ ap (λ i. get_or v i 0) half

turns_there : (bytes : List ℕ) (a b : ℕ) → length bytes ≡ a + 2 * b →
    take a bytes ++ in_turns (take a bytes ∷ strided a 2 b bytes ∷ strided (a + 1) 2 b bytes ∷ []) (2 * length (strided a 2 b bytes)) ≡ bytes
turns_there bytes a b e =
    ap (λ n. take a bytes ++ in_turns planes (2 * n)) (table_long (λ k. get_or bytes (a + 2 * k) 0) b)
    ∙ ap (λ t. take a bytes ++ t) (ext_get_or 0 (in_turns planes (2 * b)) (drop a bytes) long (λ k h. at k (omega (arith, table_long (λ k. sample_at planes (1 + k % 2) (k / 2)) (2 * b)))))
    ∙ take-append-drop a bytes
  where
    planes : List (List ℕ)
    planes = take a bytes ∷ strided a 2 b bytes ∷ strided (a + 1) 2 b bytes ∷ []

    long : length (in_turns planes (2 * b)) ≡ length (drop a bytes)
    long = table_long (λ k. sample_at planes (1 + k % 2) (k / 2)) (2 * b) ∙ omega (arith, length-drop a bytes)

    at : (k : ℕ) → k < 2 * b → get_or (in_turns planes (2 * b)) k 0 ≡ get_or (drop a bytes) k 0
    at k h =
        turn_at (take a bytes) (strided a 2 b bytes) (strided (a + 1) 2 b bytes) (2 * b) k h
        ∙ elim (parity k) [
          | inl even ↦
              let back : a + 2 * (k / 2) ≡ a + k = omega arith in
              ap (λ i. sample_at planes (1 + i) (k / 2)) even
              ∙ table_at (λ k. get_or bytes (a + 2 * k) 0) b (k / 2) (omega arith)
              ∙ ap (λ i. get_or bytes i 0) back
          | inr odd ↦
              let back : a + 1 + 2 * (k / 2) ≡ a + k = omega arith in
              ap (λ i. sample_at planes (1 + i) (k / 2)) odd
              ∙ table_at (λ k. get_or bytes (a + 1 + 2 * k) 0) b (k / 2) (omega arith)
              ∙ ap (λ i. get_or bytes i 0) back
        ]
        ∙ sym (get_or-drop a bytes k 0)

nv12_raw : (width height : ℕ) → width ≡ 2 * (width / 2) → height ≡ 2 * (height / 2) → Raw nv12 width height
unfolding raw_of planes_of
nv12_raw width height p q =
    let size : width * height * 3 / 2 ≡ width * height + 2 * (width / 2 * (height / 2)) = half_by_half width height (width / 2) (height / 2) p q in
    let chroma : width * height / 4 ≡ width / 2 * (height / 2) = quarter_of width height (width / 2) (height / 2) p q in
    record {
      back = λ planes e.
          let t = three_of planes (width * height) (width / 2 * (height / 2)) e in
          subst (λ (ps : List (List ℕ)). planes_of nv12 width height (raw_of nv12 ps) ≡ ps) (sym t.are)
          (turns_back t.y t.u t.v (width * height) (width * height / 4) t.luma (t.first ∙ sym chroma) (t.second ∙ sym chroma));
      there = λ bytes e. turns_there bytes (width * height) (width * height / 4) (e ∙ size ∙ ap (λ n. width * height + 2 * n) (sym chroma));
      long = λ planes e.
          let t = three_of planes (width * height) (width / 2 * (height / 2)) e in
          ap (λ ps. length (raw_of nv12 ps)) t.are
          ∙ length-append t.y (in_turns (t.y ∷ t.u ∷ t.v ∷ []) (2 * length t.u))
          ∙ ap (λ n. length t.y + n) (table_long (λ k. sample_at (t.y ∷ t.u ∷ t.v ∷ []) (1 + k % 2) (k / 2)) (2 * length t.u))
          ∙ omega (arith, t.luma, t.first, size);
    }

packed_back : (y u v : List ℕ) (a b : ℕ) → a ≡ 2 * b → length y ≡ a → length u ≡ b → length v ≡ b →
    strided 0 2 a (map (packed_sample (y ∷ u ∷ v ∷ [])) (range_with_len 0 (2 * length y)))
    ∷ strided 1 4 b (map (packed_sample (y ∷ u ∷ v ∷ [])) (range_with_len 0 (2 * length y)))
    ∷ strided 3 4 b (map (packed_sample (y ∷ u ∷ v ∷ [])) (range_with_len 0 (2 * length y))) ∷ []
    ≡ y ∷ u ∷ v ∷ []
packed_back y u v a b twice ly lu lv =
    ap (λ t. t ∷ strided 1 4 b raw ∷ strided 3 4 b raw ∷ []) (ext_get_or 0 (strided 0 2 a raw) y (table_long (λ k. get_or raw (0 + 2 * k) 0) a ∙ sym ly) (λ k h. y_at k (omega (arith, table_long (λ k. get_or raw (0 + 2 * k) 0) a))))
    ∙ ap (λ t. y ∷ t ∷ strided 3 4 b raw ∷ []) (ext_get_or 0 (strided 1 4 b raw) u (table_long (λ k. get_or raw (1 + 4 * k) 0) b ∙ sym lu) (λ k h. u_at k (omega (arith, table_long (λ k. get_or raw (1 + 4 * k) 0) b))))
    ∙ ap (λ t. y ∷ u ∷ t ∷ []) (ext_get_or 0 (strided 3 4 b raw) v (table_long (λ k. get_or raw (3 + 4 * k) 0) b ∙ sym lv) (λ k h. v_at k (omega (arith, table_long (λ k. get_or raw (3 + 4 * k) 0) b))))
  where
    raw : List ℕ
    raw = map (packed_sample (y ∷ u ∷ v ∷ [])) (range_with_len 0 (2 * length y))

    y_at : (k : ℕ) → k < a → get_or (strided 0 2 a raw) k 0 ≡ get_or y k 0
    y_at k h =
        let half : (0 + 2 * k) / 2 ≡ k = omega arith in
        table_at (λ k. get_or raw (0 + 2 * k) 0) a k h
        ∙ table_at (packed_sample (y ∷ u ∷ v ∷ [])) (2 * length y) (0 + 2 * k) (omega arith)
        ∙ packed_even (y ∷ u ∷ v ∷ []) (0 + 2 * k) (omega arith)
        ∙ ap (λ i. get_or y i 0) half

    u_at : (k : ℕ) → k < b → get_or (strided 1 4 b raw) k 0 ≡ get_or u k 0
    u_at k h =
        let part : (1 + 4 * k) / 4 ≡ k = omega arith in
        table_at (λ k. get_or raw (1 + 4 * k) 0) b k h
        ∙ table_at (packed_sample (y ∷ u ∷ v ∷ [])) (2 * length y) (1 + 4 * k) (omega arith)
        ∙ packed_one (y ∷ u ∷ v ∷ []) (1 + 4 * k) (omega arith)
        ∙ ap (λ i. get_or u i 0) part

    v_at : (k : ℕ) → k < b → get_or (strided 3 4 b raw) k 0 ≡ get_or v k 0
    v_at k h =
        let part : (3 + 4 * k) / 4 ≡ k = omega arith in
        table_at (λ k. get_or raw (3 + 4 * k) 0) b k h
        ∙ table_at (packed_sample (y ∷ u ∷ v ∷ [])) (2 * length y) (3 + 4 * k) (omega arith)
        ∙ packed_three (y ∷ u ∷ v ∷ []) (3 + 4 * k) (omega arith)
        ∙ ap (λ i. get_or v i 0) part

packed_there : (bytes : List ℕ) (a b : ℕ) → a ≡ 2 * b → length bytes ≡ 2 * a →
    map (packed_sample (strided 0 2 a bytes ∷ strided 1 4 b bytes ∷ strided 3 4 b bytes ∷ [])) (range_with_len 0 (2 * length (strided 0 2 a bytes))) ≡ bytes
packed_there bytes a b twice e =
    ap (λ n. map (packed_sample planes) (range_with_len 0 (2 * n))) (table_long (λ k. get_or bytes (0 + 2 * k) 0) a)
    ∙ ext_get_or 0 (map (packed_sample planes) (range_with_len 0 (2 * a))) bytes (table_long (packed_sample planes) (2 * a) ∙ sym e) (λ k h. at k (omega (arith, table_long (packed_sample planes) (2 * a))))
  where
    planes : List (List ℕ)
    planes = strided 0 2 a bytes ∷ strided 1 4 b bytes ∷ strided 3 4 b bytes ∷ []

    at : (k : ℕ) → k < 2 * a → get_or (map (packed_sample planes) (range_with_len 0 (2 * a))) k 0 ≡ get_or bytes k 0
    at k h =
        table_at (packed_sample planes) (2 * a) k h
        ∙ elim (quarter k) [
          | inl even ↦
              let back : 0 + 2 * (k / 2) ≡ k = omega arith in
              packed_even planes k even ∙ table_at (λ k. get_or bytes (0 + 2 * k) 0) a (k / 2) (omega arith) ∙ ap (λ i. get_or bytes i 0) back
          | inr odd ↦
              elim odd [
                | inl one ↦
                    let back : 1 + 4 * (k / 4) ≡ k = omega arith in
                    packed_one planes k one ∙ table_at (λ k. get_or bytes (1 + 4 * k) 0) b (k / 4) (omega arith) ∙ ap (λ i. get_or bytes i 0) back
                | inr three ↦
                    let back : 3 + 4 * (k / 4) ≡ k = omega arith in
                    packed_three planes k three ∙ table_at (λ k. get_or bytes (3 + 4 * k) 0) b (k / 4) (omega arith) ∙ ap (λ i. get_or bytes i 0) back
              ]
        ]

yuyv_raw : (width height : ℕ) → width ≡ 2 * (width / 2) → Raw yuyv width height
unfolding raw_of planes_of
yuyv_raw width height p =
    let twice : width * height ≡ 2 * (width / 2 * height) = twice_half width height (width / 2) p in
    let half : width * height / 2 ≡ width / 2 * height = omega (arith, twice) in
    let twice' : width * height ≡ 2 * (width * height / 2) = omega (arith, twice) in
    record {
      back = λ planes e.
          let t = three_of planes (width * height) (width / 2 * height) e in
          subst (λ (ps : List (List ℕ)). planes_of yuyv width height (raw_of yuyv ps) ≡ ps) (sym t.are)
          (packed_back t.y t.u t.v (width * height) (width * height / 2) twice' t.luma (t.first ∙ sym half) (t.second ∙ sym half));
      there = λ bytes e. packed_there bytes (width * height) (width * height / 2) twice' e;
      long = λ planes e.
          let t = three_of planes (width * height) (width / 2 * height) e in
          ap (λ ps. length (raw_of yuyv ps)) t.are
          ∙ table_long (packed_sample (t.y ∷ t.u ∷ t.v ∷ [])) (2 * length t.y)
          ∙ ap (λ n. 2 * n) t.luma;
    }

raw_shape : (fourcc : Fourcc) (width height : ℕ) → IsRawShape fourcc width height → Raw fourcc width height
raw_shape fourcc width height s =
    elim s.0 [
      | inl e ↦ subst (λ (f : Fourcc). Raw f width height) (sym e) (grey_raw width height)
      | inr s' ↦
          elim s' [
            | inl e ↦
                let legal = subst (λ (f : Fourcc). is_legal_geometry (record { width = width; height = height; layout = layout_of f }) ≡ true) e s.1 in
                let even = and_parts (is_even width) (is_even height) (and_parts (is_legal_size width height) (is_even width && is_even height) legal).1 in
                subst (λ (f : Fourcc). Raw f width height) (sym e) (yu12_raw width height (even_is width even.0) (even_is height even.1))
            | inr s'' ↦
                elim s'' [
                  | inl e ↦
                      let legal = subst (λ (f : Fourcc). is_legal_geometry (record { width = width; height = height; layout = layout_of f }) ≡ true) e s.1 in
                      let even = and_parts (is_even width) (is_even height) (and_parts (is_legal_size width height) (is_even width && is_even height) legal).1 in
                      subst (λ (f : Fourcc). Raw f width height) (sym e) (nv12_raw width height (even_is width even.0) (even_is height even.1))
                  | inr e ↦
                      let legal = subst (λ (f : Fourcc). is_legal_geometry (record { width = width; height = height; layout = layout_of f }) ≡ true) e s.1 in
                      subst (λ (f : Fourcc). Raw f width height) (sym e) (yuyv_raw width height (even_is width (and_parts (is_legal_size width height) (is_even width) legal).1))
                ]
          ]
    ]

pub raw_both_ways : RawBothWays
raw_both_ways fourcc width height s =
    let r = raw_shape fourcc width height s in
    (λ planes p. r.back planes p.0, λ bytes e. r.there bytes e)

pub raw_has_its_size : RawHasItsSize
raw_has_its_size fourcc width height planes s p = (raw_shape fourcc width height s).long planes p.0
