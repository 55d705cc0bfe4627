-- The machine's sums of lanes in range.
use Rattle.std.proofs.Common.{◌≡◌, ◌∙◌, sym, ap, refl, ℕ, suc, ◌+◌, ◌-◌, ◌*◌, ◌%◌, ◌<◌, ◌≤◌, List, [], ◌∷◌, ◌++◌, length, get_or, map, take, drop, arith, length-drop}
use Rattle.std.specs.Prelude.{ℤ, pos, neg_ℤ, ◌+ℤ◌, ◌-ℤ◌, ◌≤ℤ◌}
use Rattle.std.specs.Simd.Lanes.{zip2, chunk, put_chunk}
use Rattle.std.proofs.lemmas.Simd.{put_chunk_is, get_or-zip2}
use Rattle.std.proofs.lemmas.List.{get_or-take, get_or-drop, length-take-le, take_all, drop_all, append-nil}
use borrow.Rule.Slice.PartMut.{put_mid, mid_of}
use Rattle.std.specs.Int.{w16, int_wrap}
use Rattle.std.proofs.lemmas.Int.{ints, wrapping_add_onto, wrapping_sub_onto, int_wrap_fits, to_z-of_z}
use mir.Val.{to_z, of_z, SFits}
use Rattle.std.proofs.Math.Facts.{Fits-of_z}
use mir.Syntax.{wrap_add, wrap_sub}
use borrow.Rule.Simd.Lanes.{act2}
use borrow.Table.Row.{s_int}

added_here : (x y : ℤ) → (neg_ℤ (pos 16380) ≤ℤ x) × (x ≤ℤ pos 16380) → (neg_ℤ (pos 16380) ≤ℤ y) × (y ≤ℤ pos 16380) → to_z w16 ((of_z w16 x + of_z w16 y) % 65536) ≡ x +ℤ y
added_here x y p q =
    let fx : SFits w16 x = omega (arith, ints) in
    let fy : SFits w16 y = omega (arith, ints) in
    let f : SFits w16 (x +ℤ y) = omega (arith, ints) in
    wrapping_add_onto w16 (of_z w16 x) y (Fits-of_z fx).fits fy
    ∙ ap (λ z. int_wrap w16 (z +ℤ y)) (to_z-of_z w16 x fx)
    ∙ int_wrap_fits w16 (x +ℤ y) f

pub added : (xs ys : List ℤ) → ((k : ℕ) → k < length xs → (neg_ℤ (pos 16380) ≤ℤ get_or xs k (pos 0)) × (get_or xs k (pos 0) ≤ℤ pos 16380)) → ((k : ℕ) → k < length ys → (neg_ℤ (pos 16380) ≤ℤ get_or ys k (pos 0)) × (get_or ys k (pos 0) ≤ℤ pos 16380)) →
    map (to_z w16) (zip2 (act2 wrap_add (s_int w16) (s_int w16) (s_int w16)) (map (of_z w16) xs) (map (of_z w16) ys)) ≡ zip2 (λ x y. x +ℤ y) xs ys
added [] ys p q = refl
added (x ∷ xs) [] p q = refl
added (x ∷ xs) (y ∷ ys) p q =
    let here : to_z w16 ((of_z w16 x + of_z w16 y) % 65536) ≡ x +ℤ y = added_here x y (p 0 (omega arith)) (q 0 (omega arith)) in
    let later : map (to_z w16) (zip2 (act2 wrap_add (s_int w16) (s_int w16) (s_int w16)) (map (of_z w16) xs) (map (of_z w16) ys)) ≡ zip2 (λ x y. x +ℤ y) xs ys =
    added xs ys (λ k h. p (suc k) (omega arith)) (λ k h. q (suc k) (omega arith)) in
    cc

taken_here : (x y : ℤ) → (neg_ℤ (pos 16380) ≤ℤ x) × (x ≤ℤ pos 16380) → (neg_ℤ (pos 16380) ≤ℤ y) × (y ≤ℤ pos 16380) → to_z w16 ((of_z w16 x + (65536 - of_z w16 y)) % 65536) ≡ x -ℤ y
taken_here x y p q =
    let fx : SFits w16 x = omega (arith, ints) in
    let fy : SFits w16 y = omega (arith, ints) in
    let f : SFits w16 (x -ℤ y) = omega (arith, ints) in
    wrapping_sub_onto w16 (of_z w16 x) y (Fits-of_z fx).fits fy
    ∙ ap (λ z. int_wrap w16 (z -ℤ y)) (to_z-of_z w16 x fx)
    ∙ int_wrap_fits w16 (x -ℤ y) f

pub taken : (xs ys : List ℤ) → ((k : ℕ) → k < length xs → (neg_ℤ (pos 16380) ≤ℤ get_or xs k (pos 0)) × (get_or xs k (pos 0) ≤ℤ pos 16380)) → ((k : ℕ) → k < length ys → (neg_ℤ (pos 16380) ≤ℤ get_or ys k (pos 0)) × (get_or ys k (pos 0) ≤ℤ pos 16380)) →
    map (to_z w16) (zip2 (act2 wrap_sub (s_int w16) (s_int w16) (s_int w16)) (map (of_z w16) xs) (map (of_z w16) ys)) ≡ zip2 (λ x y. x -ℤ y) xs ys
taken [] ys p q = refl
taken (x ∷ xs) [] p q = refl
taken (x ∷ xs) (y ∷ ys) p q =
    let here : to_z w16 ((of_z w16 x + (65536 - of_z w16 y)) % 65536) ≡ x -ℤ y = taken_here x y (p 0 (omega arith)) (q 0 (omega arith)) in
    let later : map (to_z w16) (zip2 (act2 wrap_sub (s_int w16) (s_int w16) (s_int w16)) (map (of_z w16) xs) (map (of_z w16) ys)) ≡ zip2 (λ x y. x -ℤ y) xs ys =
    taken xs ys (λ k h. p (suc k) (omega arith)) (λ k h. q (suc k) (omega arith)) in
    cc

-- Lanes in range are what their bits stand for.
pub lanes_back : (xs : List ℤ) → ((k : ℕ) → k < length xs → (neg_ℤ (pos 32760) ≤ℤ get_or xs k (pos 0)) × (get_or xs k (pos 0) ≤ℤ pos 32760)) → map (to_z w16) (map (of_z w16) xs) ≡ xs
lanes_back [] p = refl
lanes_back (x ∷ xs) p =
    let b : (neg_ℤ (pos 32760) ≤ℤ x) × (x ≤ℤ pos 32760) = p 0 (omega arith) in
    let here : to_z w16 (of_z w16 x) ≡ x = omega (arith, ints) in
    let later : map (to_z w16) (map (of_z w16) xs) ≡ xs = lanes_back xs (λ k h. p (suc k) (omega arith)) in
    cc

-- the lanes of a row
pub row_lane : (x : List ℤ) (row c : ℕ) → c < 8 → get_or (take 8 (drop (8 * row) x)) c (pos 0) ≡ get_or x (8 * row + c) (pos 0)
row_lane x row c h = get_or-take 8 (drop (8 * row) x) c (pos 0) h ∙ get_or-drop (8 * row) x c (pos 0)

pub length-row : (x : List ℤ) (row : ℕ) → length x ≡ 64 → row < 8 → length (take 8 (drop (8 * row) x)) ≡ 8
length-row x row long h = length-take-le 8 (drop (8 * row) x) (rw length-drop (omega arith))

-- what a read of a row gives
pub row_read : (x : List ℤ) (row : ℕ) → length x ≡ 64 → row < 8 → ((k : ℕ) → k < length x → (neg_ℤ (pos 16380) ≤ℤ get_or x k (pos 0)) × (get_or x k (pos 0) ≤ℤ pos 16380)) →
    map (to_z w16) (map (of_z w16) (chunk 0 8 (mid_of (8 * row) (64 - 8 * row) x))) ≡ take 8 (drop (8 * row) x)
row_read x row long h b =
    let whole : mid_of (8 * row) (64 - 8 * row) x ≡ drop (8 * row) x = take_all (64 - 8 * row) (drop (8 * row) x) (rw length-drop (omega arith)) in
    ap (λ t. map (to_z w16) (map (of_z w16) (take 8 t))) whole
    ∙ lanes_back (take 8 (drop (8 * row) x))
    (λ k hk.
    let hk' : k < 8 = omega (arith, length-row x row long h) in
    let w : (neg_ℤ (pos 16380) ≤ℤ get_or x (8 * row + k) (pos 0)) × (get_or x (8 * row + k) (pos 0) ≤ℤ pos 16380) = b (8 * row + k) (omega arith) in
    rw (row_lane x row k hk') (omega (arith, ints), omega (arith, ints)))

-- what a write of a row leaves
pub row_write : (y lanes : List ℤ) (row : ℕ) → length y ≡ 64 → row < 8 → length lanes ≡ 8 → ((k : ℕ) → k < length lanes → (neg_ℤ (pos 32760) ≤ℤ get_or lanes k (pos 0)) × (get_or lanes k (pos 0) ≤ℤ pos 32760)) →
    put_mid (8 * row) (64 - 8 * row) y (put_chunk 0 (mid_of (8 * row) (64 - 8 * row) y) (map (to_z w16) (map (of_z w16) lanes))) ≡ put_chunk (8 * row) y lanes
row_write y lanes row long h eight b =
    let whole : mid_of (8 * row) (64 - 8 * row) y ≡ drop (8 * row) y = take_all (64 - 8 * row) (drop (8 * row) y) (rw length-drop (omega arith)) in
    let none : drop (64 - 8 * row) (drop (8 * row) y) ≡ [] = drop_all (64 - 8 * row) (drop (8 * row) y) (rw length-drop (omega arith)) in
    let room : 0 + length lanes ≤ length (drop (8 * row) y) = rw length-drop (omega arith) in
    ap (λ t. take (8 * row) y ++ (put_chunk 0 (mid_of (8 * row) (64 - 8 * row) y) (map (to_z w16) (map (of_z w16) lanes)) ++ t)) none
    ∙ ap (λ t. take (8 * row) y ++ t) (append-nil (put_chunk 0 (mid_of (8 * row) (64 - 8 * row) y) (map (to_z w16) (map (of_z w16) lanes))))
    ∙ ap (λ t. take (8 * row) y ++ put_chunk 0 (mid_of (8 * row) (64 - 8 * row) y) t) (lanes_back lanes b)
    ∙ ap (λ t. take (8 * row) y ++ put_chunk 0 t lanes) whole
    ∙ ap (λ t. take (8 * row) y ++ t) (put_chunk_is 0 (drop (8 * row) y) lanes room)
    ∙ sym (put_chunk_is (8 * row) y lanes (omega arith))

-- A row of a block in range is in range.
pub row_bounds : (x lanes : List ℤ) (row : ℕ) → length x ≡ 64 → row < 8 → lanes ≡ take 8 (drop (8 * row) x) → ((k : ℕ) → k < length x → (neg_ℤ (pos 16380) ≤ℤ get_or x k (pos 0)) × (get_or x k (pos 0) ≤ℤ pos 16380)) →
    (k : ℕ) → k < length lanes → (neg_ℤ (pos 16380) ≤ℤ get_or lanes k (pos 0)) × (get_or lanes k (pos 0) ≤ℤ pos 16380)
row_bounds x lanes row long h is b k hk =
    let n : length lanes ≡ 8 = ap length is ∙ length-row x row long h in
    let hk' : k < 8 = omega arith in
    rw is (rw (row_lane x row k hk') (b (8 * row + k) (omega arith)))

-- the lanes of a sum or a difference of two rows
pub lane_of_two : (f : ℤ → ℤ → ℤ) (x a b r : List ℤ) (i j : ℕ) → length x ≡ 64 → i < 8 → j < 8 → a ≡ take 8 (drop (8 * i) x) → b ≡ take 8 (drop (8 * j) x) → r ≡ zip2 f a b → (c : ℕ) → c < 8 → get_or r c (pos 0) ≡ f (get_or x (8 * i + c) (pos 0)) (get_or x (8 * j + c) (pos 0))
lane_of_two f x a b r i j long hi hj p q is c h =
    let m : length a ≡ 8 = ap length p ∙ length-row x i long hi in
    let n : length b ≡ 8 = ap length q ∙ length-row x j long hj in
    let ha : c < length a = omega arith in
    let hb : c < length b = omega arith in
    let ea : get_or a c (pos 0) ≡ get_or x (8 * i + c) (pos 0) = ap (λ t. get_or t c (pos 0)) p ∙ row_lane x i c h in
    let eb : get_or b c (pos 0) ≡ get_or x (8 * j + c) (pos 0) = ap (λ t. get_or t c (pos 0)) q ∙ row_lane x j c h in
    ap (λ t. get_or t c (pos 0)) is ∙ get_or-zip2 f a b c (pos 0) (pos 0) (pos 0) ha hb ∙ ap (λ z. f z (get_or b c (pos 0))) ea ∙ ap (λ z. f (get_or x (8 * i + c) (pos 0)) z) eb

pub sum_bounds : (x a b r : List ℤ) (i j : ℕ) → length x ≡ 64 → i < 8 → j < 8 → a ≡ take 8 (drop (8 * i) x) → b ≡ take 8 (drop (8 * j) x) → r ≡ zip2 (λ x y. x +ℤ y) a b → length r ≡ 8 → ((k : ℕ) → k < length x → (neg_ℤ (pos 16380) ≤ℤ get_or x k (pos 0)) × (get_or x k (pos 0) ≤ℤ pos 16380)) →
    (k : ℕ) → k < length r → (neg_ℤ (pos 32760) ≤ℤ get_or r k (pos 0)) × (get_or r k (pos 0) ≤ℤ pos 32760)
sum_bounds x a b r i j long hi hj p q is eight w k hk =
    let hk' : k < 8 = omega arith in
    let u : (neg_ℤ (pos 16380) ≤ℤ get_or x (8 * i + k) (pos 0)) × (get_or x (8 * i + k) (pos 0) ≤ℤ pos 16380) = w (8 * i + k) (omega arith) in
    let v : (neg_ℤ (pos 16380) ≤ℤ get_or x (8 * j + k) (pos 0)) × (get_or x (8 * j + k) (pos 0) ≤ℤ pos 16380) = w (8 * j + k) (omega arith) in
    rw (lane_of_two (λ x y. x +ℤ y) x a b r i j long hi hj p q is k hk') (omega (arith, ints), omega (arith, ints))

pub difference_bounds : (x a b r : List ℤ) (i j : ℕ) → length x ≡ 64 → i < 8 → j < 8 → a ≡ take 8 (drop (8 * i) x) → b ≡ take 8 (drop (8 * j) x) → r ≡ zip2 (λ x y. x -ℤ y) a b → length r ≡ 8 → ((k : ℕ) → k < length x → (neg_ℤ (pos 16380) ≤ℤ get_or x k (pos 0)) × (get_or x k (pos 0) ≤ℤ pos 16380)) →
    (k : ℕ) → k < length r → (neg_ℤ (pos 32760) ≤ℤ get_or r k (pos 0)) × (get_or r k (pos 0) ≤ℤ pos 32760)
difference_bounds x a b r i j long hi hj p q is eight w k hk =
    let hk' : k < 8 = omega arith in
    let u : (neg_ℤ (pos 16380) ≤ℤ get_or x (8 * i + k) (pos 0)) × (get_or x (8 * i + k) (pos 0) ≤ℤ pos 16380) = w (8 * i + k) (omega arith) in
    let v : (neg_ℤ (pos 16380) ≤ℤ get_or x (8 * j + k) (pos 0)) × (get_or x (8 * j + k) (pos 0) ≤ℤ pos 16380) = w (8 * j + k) (omega arith) in
    rw (lane_of_two (λ x y. x -ℤ y) x a b r i j long hi hj p q is k hk') (omega (arith, ints), omega (arith, ints))

-- A row that was read is passed on as it is.
pub passed_on : (x lanes : List ℤ) (row : ℕ) → length x ≡ 64 → row < 8 → lanes ≡ take 8 (drop (8 * row) x) → ((k : ℕ) → k < length x → (neg_ℤ (pos 16380) ≤ℤ get_or x k (pos 0)) × (get_or x k (pos 0) ≤ℤ pos 16380)) → map (to_z w16) (map (of_z w16) lanes) ≡ lanes
passed_on x lanes row long h is b =
    lanes_back lanes
    (λ k hk.
    let w : (neg_ℤ (pos 16380) ≤ℤ get_or lanes k (pos 0)) × (get_or lanes k (pos 0) ≤ℤ pos 16380) = row_bounds x lanes row long h is b k hk in
    (omega (arith, ints), omega (arith, ints)))

-- the same of a block in the range of all lanes
pub any_row_read : (x : List ℤ) (row : ℕ) → length x ≡ 64 → row < 8 → ((k : ℕ) → k < length x → (neg_ℤ (pos 32760) ≤ℤ get_or x k (pos 0)) × (get_or x k (pos 0) ≤ℤ pos 32760)) →
    map (to_z w16) (map (of_z w16) (chunk 0 8 (mid_of (8 * row) (64 - 8 * row) x))) ≡ take 8 (drop (8 * row) x)
any_row_read x row long h b =
    let whole : mid_of (8 * row) (64 - 8 * row) x ≡ drop (8 * row) x = take_all (64 - 8 * row) (drop (8 * row) x) (rw length-drop (omega arith)) in
    ap (λ t. map (to_z w16) (map (of_z w16) (take 8 t))) whole
    ∙ lanes_back (take 8 (drop (8 * row) x))
    (λ k hk.
    let hk' : k < 8 = omega (arith, length-row x row long h) in
    let w : (neg_ℤ (pos 32760) ≤ℤ get_or x (8 * row + k) (pos 0)) × (get_or x (8 * row + k) (pos 0) ≤ℤ pos 32760) = b (8 * row + k) (omega arith) in
    rw (row_lane x row k hk') (omega (arith, ints), omega (arith, ints)))
