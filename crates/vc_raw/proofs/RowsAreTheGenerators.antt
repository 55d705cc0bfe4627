-- Bytes that are written row by row are those of the generator's picture in a raw format. Each row of each plane, or
-- of planes in turns, has its samples at their columns, and the rows follow one another without a gap.
use Rattle.std.proofs.Common.{◌≡◌, ◌∙◌, sym, ap, refl, subst, ℕ, ◌+◌, ◌*◌, ◌/◌, ◌%◌, ◌-◌, ◌<◌, ◌≤◌, inl, inr, List, [], ◌∷◌, ◌++◌, length, get_or, map, arith, length-append}
use Rattle.std.specs.Prelude.{◌⊎◌, true, false, ◌&&◌, nat_eq, cond}
use Rattle.std.specs.List.{range_with_len, flat_map}
use Rattle.std.proofs.lemmas.Bool.{and_parts, cond-true, cond-false, cases_eq, cases_lt}
use Rattle.std.proofs.lemmas.Bool.Decides.{nat_tests}
use Rattle.std.proofs.lemmas.List.{ext_get_or, get_or_append_left, get_or-append_right}
use Rattle.std.proofs.lemmas.List.FromFn.{length-map-range_with_len, get_or-map-range_with_len}
use Rattle.std.proofs.lemmas.Nat.{mod-mul-add, div-mul-add, div-add-mod'}
use Rattle.std.proofs.lemmas.Slice.Eq.{bytes_eq-Decides}
use Rattle.vc_base.specs.declared.Fourcc.{Fourcc}
use Rattle.vc_defs.specs.declared.Layout.{Layout}
use Rattle.vc_defs.specs.declared.Layout.TheVariants.{Grey, C420, C422}
use Rattle.vc_defs.specs.Headers.{is_legal_geometry, is_legal_size, is_even}
use Rattle.vc_defs.specs.Raw.{grey, yu12, nv12, yuyv, same_fourcc, layout_of, raw_size, raw_of, in_turns, packed_sample, sample_at, generated, generated_plane, generated_sample}
use Rattle.vc_defs.specs.Laws.{IsRawShape}
use Rattle.vc_raw.specs.declared.Row.{Row}
use Rattle.vc_raw.specs.declared.Row.TheVariants.{Luma, First, Second, Turns, Packed}
use Rattle.vc_raw.specs.Rows.{row_byte, IsSize}

-- what is written of rows once one more is written
pub rows_more : (row : Row) (across y at n s : ℕ) (old new : List ℕ) → 0 < across →
    ((j : ℕ) → j < across * y → get_or old (at + j) 0 ≡ row_byte row (j % across) (j / across) n s) →
    ((j : ℕ) → j < at + across * y → get_or new j 0 ≡ get_or old j 0) →
    ((k : ℕ) → k < across → get_or new (at + across * y + k) 0 ≡ row_byte row k y n s) →
    (j : ℕ) → j < across * (y + 1) → get_or new (at + j) 0 ≡ row_byte row (j % across) (j / across) n s
rows_more row across y at n s old new some written kept here j h =
    elim (cases_lt j (across * y)) [
      | inl before ↦ kept (at + j) (omega arith) ∙ written j before
      | inr behind ↦
          let k : ℕ = j - across * y in
          let small : j - across * y < across = omega arith in
          let place : at + j ≡ at + across * y + (j - across * y) = omega arith in
          let whole : j ≡ y * across + (j - across * y) = omega arith in
          let column : j % across ≡ j - across * y = ap (λ t. t % across) whole ∙ mod-mul-add y across (j - across * y) small in
          let line : j / across ≡ y = ap (λ t. t / across) whole ∙ div-mul-add y across (j - across * y) small in
          ap (λ t. get_or new t 0) place
          ∙ here (j - across * y) small
          ∙ ap (λ t. row_byte row t y n s) (sym column)
          ∙ ap (λ t. row_byte row (j % across) t n s) (sym line)
    ]

table_at : (f : ℕ → ℕ) (n k : ℕ) → k < n → get_or (map f (range_with_len 0 n)) k 0 ≡ f k
table_at f n k h = get_or-map-range_with_len f 0 n k k 0 h (omega arith)

table_long : (f : ℕ → ℕ) (n : ℕ) → length (map f (range_with_len 0 n)) ≡ n
table_long f n = length-map-range_with_len f 0 n

-- the bytes from a place on are those of a table
abbrev pub IsFilled : List ℕ → ℕ → ℕ → (ℕ → ℕ) → Type 0
IsFilled out at n f = (k : ℕ) → k < n → get_or out (at + k) 0 ≡ f k

-- the bytes from a place on are those of a list
abbrev pub IsPart : List ℕ → ℕ → List ℕ → Type 0
IsPart out at xs = (k : ℕ) → k < length xs → get_or out (at + k) 0 ≡ get_or xs k 0

table_part : (out : List ℕ) (at n : ℕ) (f : ℕ → ℕ) → IsFilled out at n f → IsPart out at (map f (range_with_len 0 n))
table_part out at n f filled k h =
    let h' : k < n = omega (arith, table_long f n) in filled k h' ∙ sym (table_at f n k h')

no_part : (out : List ℕ) (at : ℕ) → IsPart out at []
no_part out at k h = absurd (omega arith)

join_parts : (out : List ℕ) (at next : ℕ) (xs ys : List ℕ) → at + length xs ≡ next → IsPart out at xs → IsPart out next ys → IsPart out at (xs ++ ys)
join_parts out at next xs ys e first second k h =
    elim (cases_lt k (length xs)) [
      | inl before ↦ first k before ∙ sym (get_or_append_left xs ys 0 k before)
      | inr behind ↦
          let small : k - length xs < length ys = omega (arith, length-append xs ys) in
          let place : at + k ≡ next + (k - length xs) = omega arith in
          ap (λ t. get_or out t 0) place ∙ second (k - length xs) small ∙ sym (get_or-append_right xs ys (length xs) k 0 refl behind)
    ]

-- a list whose bytes are all those of another
whole : (out xs : List ℕ) → length out ≡ length xs → IsPart out 0 xs → out ≡ xs
whole out xs long part =
    ext_get_or 0 out xs long (λ k h. let h' : k < length xs = omega arith in let z : k ≡ 0 + k = omega arith in ap (λ t. get_or out t 0) z ∙ part k h')

-- what is filled stays while later bytes are written
filled_on : (old new : List ℕ) (at n bound : ℕ) (f : ℕ → ℕ) → at + n ≤ bound → IsFilled old at n f → ((j : ℕ) → j < bound → get_or new j 0 ≡ get_or old j 0) → IsFilled new at n f
filled_on old new at n bound f inside filled kept k h = kept (at + k) (omega arith) ∙ filled k h

pub half_by_half : (w h x y : ℕ) → w ≡ 2 * x → h ≡ 2 * y → w * h * 3 / 2 ≡ w * h + 2 * (x * y)
half_by_half w h x y p q =
    let e : w * h ≡ 4 * (x * y) = ap (λ n. n * h) p ∙ ap (λ n. 2 * x * n) q ∙ omega arith in
    let m : ℕ = x * y in
    omega (arith, e)

pub twice_half : (w h x : ℕ) → w ≡ 2 * x → w * h ≡ 2 * (x * h)
twice_half w h x p = ap (λ n. n * h) p ∙ omega arith

-- how a place in rows of twice as many bytes as there are samples splits up
record Halves (k m t : ℕ) : Type 0 where
  column : k / 2 % m ≡ k % t / 2
  line : k / 2 / m ≡ k / t
  rest : k % 2 ≡ k % t % 2

halves : (k m t : ℕ) → t ≡ 2 * m → 0 < m → Halves k m t
halves k m t twice some =
    let e : k / t * t + k % t ≡ k = div-add-mod' k t in
    let p : k / t * t ≡ 2 * (k / t * m) = ap (λ x. k / t * x) twice ∙ omega arith in
    let positive : 0 < t = omega arith in
    let less : k % t < t = omega arith in
    let half : k / 2 ≡ k / t * m + k % t / 2 = omega arith in
    let small : k % t / 2 < m = omega arith in
    record {
      column = ap (λ x. x % m) half ∙ mod-mul-add (k / t) m (k % t / 2) small;
      line = ap (λ x. x / m) half ∙ div-mul-add (k / t) m (k % t / 2) small;
      rest = omega arith;
    }

-- the same where there are four times as many
record Quarters (k m t : ℕ) : Type 0 where
  column : k / 4 % m ≡ k % t / 4
  line : k / 4 / m ≡ k / t
  rest : k % 4 ≡ k % t % 4

quarters : (k m t : ℕ) → t ≡ 4 * m → 0 < m → Quarters k m t
quarters k m t four some =
    let e : k / t * t + k % t ≡ k = div-add-mod' k t in
    let p : k / t * t ≡ 4 * (k / t * m) = ap (λ x. k / t * x) four ∙ omega arith in
    let positive : 0 < t = omega arith in
    let less : k % t < t = omega arith in
    let quarter : k / 4 ≡ k / t * m + k % t / 4 = omega arith in
    let small : k % t / 4 < m = omega arith in
    record {
      column = ap (λ x. x % m) quarter ∙ mod-mul-add (k / t) m (k % t / 4) small;
      line = ap (λ x. x / m) quarter ∙ div-mul-add (k / t) m (k % t / 4) small;
      rest = omega arith;
    }

-- the formats

abbrev plane : ℕ → ℕ → ℕ → ℕ → ℕ → List ℕ
plane c w h n s = map (λ k. generated_sample c (k % w) (k / w) n s) (range_with_len 0 (w * h))

plane_long : (c w h n s : ℕ) → length (plane c w h n s) ≡ w * h
plane_long c w h n s = table_long (λ k. generated_sample c (k % w) (k / w) n s) (w * h)

pub grey_is : (out : List ℕ) (w h n s : ℕ) → length out ≡ w * h → IsFilled out 0 (w * h) (λ k. row_byte Luma (k % w) (k / w) n s) →
    out ≡ raw_of grey (generated (record { width = w; height = h; layout = Grey }) n s)
unfolding raw_of generated
grey_is out w h n s long filled =
    whole out (plane 0 w h n s ++ []) (omega (arith, long, plane_long 0 w h n s, length-append (plane 0 w h n s) []))
    (join_parts out 0 (w * h) (plane 0 w h n s) [] (omega (arith, plane_long 0 w h n s)) (table_part out 0 (w * h) (λ k. generated_sample 0 (k % w) (k / w) n s) filled) (no_part out (w * h)))

pub yu12_is : (one two out : List ℕ) (w h n s : ℕ) → length out ≡ w * h + 2 * (w / 2 * (h / 2)) →
    IsFilled one 0 (w * h) (λ k. row_byte Luma (k % w) (k / w) n s) →
    IsFilled two (w * h) (w / 2 * (h / 2)) (λ k. row_byte First (k % (w / 2)) (k / (w / 2)) n s) →
    ((j : ℕ) → j < w * h → get_or two j 0 ≡ get_or one j 0) →
    IsFilled out (w * h + w / 2 * (h / 2)) (w / 2 * (h / 2)) (λ k. row_byte Second (k % (w / 2)) (k / (w / 2)) n s) →
    ((j : ℕ) → j < w * h + w / 2 * (h / 2) → get_or out j 0 ≡ get_or two j 0) →
    out ≡ raw_of yu12 (generated (record { width = w; height = h; layout = C420 }) n s)
unfolding raw_of generated
yu12_is one two out w h n s long luma first kept second kept' =
    whole out (y ++ (u ++ (v ++ []))) (omega (arith, long, plane_long 0 w h n s, plane_long 1 (w / 2) (h / 2) n s, plane_long 2 (w / 2) (h / 2) n s, length-append y (u ++ (v ++ [])), length-append u (v ++ []), length-append v []))
    (join_parts out 0 (w * h) y (u ++ (v ++ [])) (omega (arith, plane_long 0 w h n s))
    (table_part out 0 (w * h) (λ k. generated_sample 0 (k % w) (k / w) n s)
    (filled_on two out 0 (w * h) (w * h + w / 2 * (h / 2)) (λ k. generated_sample 0 (k % w) (k / w) n s) (omega arith) (filled_on one two 0 (w * h) (w * h) (λ k. generated_sample 0 (k % w) (k / w) n s) (omega arith) luma kept) kept'))
    (join_parts out (w * h) (w * h + w / 2 * (h / 2)) u (v ++ []) (ap (λ t. w * h + t) (plane_long 1 (w / 2) (h / 2) n s))
    (table_part out (w * h) (w / 2 * (h / 2)) (λ k. generated_sample 1 (k % (w / 2)) (k / (w / 2)) n s)
    (filled_on two out (w * h) (w / 2 * (h / 2)) (w * h + w / 2 * (h / 2)) (λ k. generated_sample 1 (k % (w / 2)) (k / (w / 2)) n s) (omega arith) first kept'))
    (join_parts out (w * h + w / 2 * (h / 2)) (w * h + w / 2 * (h / 2) + w / 2 * (h / 2)) v [] (ap (λ t. w * h + w / 2 * (h / 2) + t) (plane_long 2 (w / 2) (h / 2) n s))
    (table_part out (w * h + w / 2 * (h / 2)) (w / 2 * (h / 2)) (λ k. generated_sample 2 (k % (w / 2)) (k / (w / 2)) n s) second)
    (no_part out (w * h + w / 2 * (h / 2) + w / 2 * (h / 2))))))
  where
    y : List ℕ
    y = plane 0 w h n s

    u : List ℕ
    u = plane 1 (w / 2) (h / 2) n s

    v : List ℕ
    v = plane 2 (w / 2) (h / 2) n s

parity : (k : ℕ) → (k % 2 ≡ 0) ⊎ (k % 2 ≡ 1)
parity k = elim (cases_eq (k % 2) 0) [ inl e ↦ inl e | inr ne ↦ inr (omega arith) ]

-- a sample of U or V where these come in turns
turn_here : (y : List ℕ) (w h n s k : ℕ) → w ≡ 2 * (w / 2) → 0 < w → k < 2 * (w / 2 * (h / 2)) →
    sample_at (y ∷ plane 1 (w / 2) (h / 2) n s ∷ plane 2 (w / 2) (h / 2) n s ∷ []) (1 + k % 2) (k / 2) ≡ generated_sample (1 + k % w % 2) (k % w / 2) (k / w) n s
turn_here y w h n s k even some small =
    let split = halves k (w / 2) w even (omega arith) in
    elim (parity k) [
      | inl e ↦
          let e' : k % w % 2 ≡ 0 = sym split.rest ∙ e in
          ap (λ i. sample_at planes (1 + i) (k / 2)) e
          ∙ table_at (λ k. generated_sample 1 (k % (w / 2)) (k / (w / 2)) n s) (w / 2 * (h / 2)) (k / 2) (omega arith)
          ∙ ap (λ t. generated_sample 1 t (k / 2 / (w / 2)) n s) split.column
          ∙ ap (λ t. generated_sample 1 (k % w / 2) t n s) split.line
          ∙ ap (λ i. generated_sample (1 + i) (k % w / 2) (k / w) n s) (sym e')
      | inr e ↦
          let e' : k % w % 2 ≡ 1 = sym split.rest ∙ e in
          ap (λ i. sample_at planes (1 + i) (k / 2)) e
          ∙ table_at (λ k. generated_sample 2 (k % (w / 2)) (k / (w / 2)) n s) (w / 2 * (h / 2)) (k / 2) (omega arith)
          ∙ ap (λ t. generated_sample 2 t (k / 2 / (w / 2)) n s) split.column
          ∙ ap (λ t. generated_sample 2 (k % w / 2) t n s) split.line
          ∙ ap (λ i. generated_sample (1 + i) (k % w / 2) (k / w) n s) (sym e')
    ]
  where
    planes : List (List ℕ)
    planes = y ∷ plane 1 (w / 2) (h / 2) n s ∷ plane 2 (w / 2) (h / 2) n s ∷ []

pub nv12_is : (one out : List ℕ) (w h n s : ℕ) → w ≡ 2 * (w / 2) → 0 < w → length out ≡ w * h + 2 * (w / 2 * (h / 2)) →
    IsFilled one 0 (w * h) (λ k. row_byte Luma (k % w) (k / w) n s) →
    IsFilled out (w * h) (w * (h / 2)) (λ k. row_byte Turns (k % w) (k / w) n s) →
    ((j : ℕ) → j < w * h → get_or out j 0 ≡ get_or one j 0) →
    out ≡ raw_of nv12 (generated (record { width = w; height = h; layout = C420 }) n s)
unfolding raw_of generated
nv12_is one out w h n s even some long luma turns kept =
    whole out (y ++ rest) (omega (arith, long, plane_long 0 w h n s, rest_long, length-append y rest))
    (join_parts out 0 (w * h) y rest (omega (arith, plane_long 0 w h n s))
    (table_part out 0 (w * h) (λ k. generated_sample 0 (k % w) (k / w) n s) (filled_on one out 0 (w * h) (w * h) (λ k. generated_sample 0 (k % w) (k / w) n s) (omega arith) luma kept))
    (table_part out (w * h) (2 * length u) (λ k. sample_at (y ∷ u ∷ v ∷ []) (1 + k % 2) (k / 2))
    (λ k small.
    let small' : k < 2 * (w / 2 * (h / 2)) = omega (arith, plane_long 1 (w / 2) (h / 2) n s) in
    let inside : k < w * (h / 2) = omega (arith, twice_half w (h / 2) (w / 2) even) in
    turns k inside ∙ sym (turn_here y w h n s k even some small'))))
  where
    y : List ℕ
    y = plane 0 w h n s

    u : List ℕ
    u = plane 1 (w / 2) (h / 2) n s

    v : List ℕ
    v = plane 2 (w / 2) (h / 2) n s

    rest : List ℕ
    rest = in_turns (y ∷ u ∷ v ∷ []) (2 * length u)

    rest_long : length rest ≡ 2 * (w / 2 * (h / 2))
    rest_long = table_long (λ k. sample_at (y ∷ u ∷ v ∷ []) (1 + k % 2) (k / 2)) (2 * length u) ∙ ap (λ t. 2 * t) (plane_long 1 (w / 2) (h / 2) n s)

-- a byte where Y, U, Y and V come in turns
packed_here : (w h n s k : ℕ) → w ≡ 2 * (w / 2) → 0 < w → k < 2 * (w * h) →
    packed_sample (plane 0 w h n s ∷ plane 1 (w / 2) h n s ∷ plane 2 (w / 2) h n s ∷ []) k ≡ row_byte Packed (k % (2 * w)) (k / (2 * w)) n s
packed_here w h n s k even some small =
    ap (λ t. cond (nat_eq (k % 2) 0) t (cond (nat_eq (k % 4) 1) (sample_at planes 1 (k / 4)) (sample_at planes 2 (k / 4)))) luma
    ∙ ap (λ t. cond (nat_eq (k % 2) 0) luma' (cond (nat_eq (k % 4) 1) t (sample_at planes 2 (k / 4)))) first
    ∙ ap (λ t. cond (nat_eq (k % 2) 0) luma' (cond (nat_eq (k % 4) 1) first' t)) second
    ∙ ap (λ t. cond (nat_eq t 0) luma' (cond (nat_eq (k % 4) 1) first' second')) two.rest
    ∙ ap (λ t. cond (nat_eq (k % (2 * w) % 2) 0) luma' (cond (nat_eq t 1) first' second')) four.rest
  where
    planes : List (List ℕ)
    planes = plane 0 w h n s ∷ plane 1 (w / 2) h n s ∷ plane 2 (w / 2) h n s ∷ []

    two : Halves k w (2 * w)
    two = halves k w (2 * w) refl some

    four : Quarters k (w / 2) (2 * w)
    four = quarters k (w / 2) (2 * w) (omega arith) (omega arith)

    twice : w * h ≡ 2 * (w / 2 * h)
    twice = twice_half w h (w / 2) even

    luma' : ℕ
    luma' = generated_sample 0 (k % (2 * w) / 2) (k / (2 * w)) n s

    first' : ℕ
    first' = generated_sample 1 (k % (2 * w) / 4) (k / (2 * w)) n s

    second' : ℕ
    second' = generated_sample 2 (k % (2 * w) / 4) (k / (2 * w)) n s

    luma : sample_at planes 0 (k / 2) ≡ luma'
    luma =
        table_at (λ k. generated_sample 0 (k % w) (k / w) n s) (w * h) (k / 2) (omega arith)
        ∙ ap (λ t. generated_sample 0 t (k / 2 / w) n s) two.column
        ∙ ap (λ t. generated_sample 0 (k % (2 * w) / 2) t n s) two.line

    first : sample_at planes 1 (k / 4) ≡ first'
    first =
        table_at (λ k. generated_sample 1 (k % (w / 2)) (k / (w / 2)) n s) (w / 2 * h) (k / 4) (omega (arith, twice))
        ∙ ap (λ t. generated_sample 1 t (k / 4 / (w / 2)) n s) four.column
        ∙ ap (λ t. generated_sample 1 (k % (2 * w) / 4) t n s) four.line

    second : sample_at planes 2 (k / 4) ≡ second'
    second =
        table_at (λ k. generated_sample 2 (k % (w / 2)) (k / (w / 2)) n s) (w / 2 * h) (k / 4) (omega (arith, twice))
        ∙ ap (λ t. generated_sample 2 t (k / 4 / (w / 2)) n s) four.column
        ∙ ap (λ t. generated_sample 2 (k % (2 * w) / 4) t n s) four.line

pub yuyv_is : (out : List ℕ) (w h n s : ℕ) → w ≡ 2 * (w / 2) → 0 < w → length out ≡ 2 * (w * h) →
    IsFilled out 0 (2 * w * h) (λ k. row_byte Packed (k % (2 * w)) (k / (2 * w)) n s) →
    out ≡ raw_of yuyv (generated (record { width = w; height = h; layout = C422 }) n s)
unfolding raw_of generated
yuyv_is out w h n s even some long filled =
    whole out (map (packed_sample planes) (range_with_len 0 (2 * length (plane 0 w h n s)))) (omega (arith, long, table_long (packed_sample planes) (2 * length (plane 0 w h n s)), plane_long 0 w h n s))
    (table_part out 0 (2 * length (plane 0 w h n s)) (packed_sample planes)
    (λ k small.
    let small' : k < 2 * (w * h) = omega (arith, plane_long 0 w h n s) in
    let inside : k < 2 * w * h = omega arith in
    filled k inside ∙ sym (packed_here w h n s k even some small')))
  where
    planes : List (List ℕ)
    planes = plane 0 w h n s ∷ plane 1 (w / 2) h n s ∷ plane 2 (w / 2) h n s ∷ []
