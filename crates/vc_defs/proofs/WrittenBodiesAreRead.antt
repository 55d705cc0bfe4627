-- A body that an encoder writes is read back as the encoder's own reconstruction, and no magic stands in it. Each
-- plane is read back alone, raw or coded; and no byte at an odd place of a body is 255, which every second byte of
-- the magic would need.
use Rattle.std.proofs.Common.{◌≡◌, ◌∙◌, sym, ap, refl, subst, ℕ, suc, zero, ◌+◌, ◌-◌, ◌*◌, ◌/◌, ◌%◌, ◌<◌, ◌≤◌, inl, inr, List, [], ◌∷◌, ◌++◌, length, take, drop, get_or, map, arith, append_assoc}
use Rattle.std.specs.Prelude.{ℤ, Bool, true, false, not, min, cond}
use Rattle.std.specs.List.{All}
use Rattle.std.specs.declared.option.Option.TheVariants.{Some}
use Rattle.std.proofs.lemmas.List.{ext_get_or, get_or-map, length-map, append-nil}
use Rattle.std.proofs.lemmas.List.FromFn.{length-map-range_with_len, get_or-map-range_with_len}
use Rattle.std.proofs.lemmas.List.Elements.{All-nil, All-cons, All-head, All-tail, All-drop}
use Rattle.std.proofs.lemmas.Nat.{div-mul-add, div_below, row_fits}
use Rattle.vc_defs.specs.declared.Layout.{Layout}
use Rattle.vc_defs.specs.declared.Layout.TheVariants.{Grey, C420, C422}
use Rattle.vc_defs.specs.declared.Geometry.{Geometry}
use Rattle.vc_defs.specs.Words.{Words, word_bytes, words_bytes}
use Rattle.vc_defs.specs.Planes.{Block, Entry, padded, padded_plane, padded_sample, raw_sample, raw_plane, unpadded, head_of, head_word, entry_bytes}
use Rattle.vc_defs.specs.Planes.{entries_bytes, StandFor, Allowed, IsCodedPlane, canon_plane, block_count, coded_blocks, decoded_plane, is_raw, WrittenPlane}
use Rattle.vc_defs.specs.Planes.{written_plane}
use Rattle.vc_defs.specs.Bodies.{IsPicture, plane_from, planes_from, planes_behind, after_plane, if_complete, body_planes, shapes_of, plane_shapes}
use Rattle.vc_defs.specs.Encoder.{encoded_picture, written_planes, body_of}
use Rattle.vc_defs.specs.Laws.{IsBlock}
use Rattle.vc_defs.proofs.DecodedIsPicture.{AreSamples, IsPlaneOf, ArePlanesOf, all_made, all_entry}
use Rattle.vc_defs.proofs.BodiesAreRead.{plane_is_read}
use Rattle.vc_defs.proofs.CanonPlaneStands.{canon_plane_stands}
use Rattle.vc_defs.proofs.CoefficientsFit.{coded_blocks_fit}
use Rattle.vc_defs.proofs.EncodedFits.{length-raw_plane, planes_fit}

-- a place inside a padded plane
column_is : (a w b : ℕ) → b < w → (a * w + b) % w ≡ b
column_is a w b h =
    let d : (a * w + b) / w ≡ a = div-mul-add a w b h in
    let e : (a * w + b) / w * w ≡ a * w = ap (λ n. n * w) d in
    let some : 0 < w = omega arith in
    omega (arith, e)

padded_least : (n : ℕ) → n ≤ padded n
padded_least n = omega arith

-- the raw samples of a plane without their padding
unpadded_raw : (plane : List ℕ) (width height : ℕ) → 0 < width → length plane ≡ width * height → unpadded (raw_plane plane width height) width height ≡ map raw_sample plane
unfolding unpadded padded_plane
unpadded_raw plane width height w long =
    ext_get_or 0 (unpadded (raw_plane plane width height) width height) (map raw_sample plane)
    (length-map-range_with_len (λ k. get_or (raw_plane plane width height) (k / width * padded width + k % width) 0) 0 (width * height) ∙ sym (length-map plane raw_sample ∙ long))
    (λ k h. at k (omega (arith, h, length-map-range_with_len (λ k. get_or (raw_plane plane width height) (k / width * padded width + k % width) 0) 0 (width * height))))
  where
    at : (k : ℕ) → k < width * height → get_or (unpadded (raw_plane plane width height) width height) k 0 ≡ get_or (map raw_sample plane) k 0
    at k h =
        let row : k / width < height = div_below k width height w (omega arith) in
        let column : k % width < width = omega arith in
        let wide : width ≤ padded width = padded_least width in
        let high : height ≤ padded height = padded_least height in
        let column' : k % width < padded width = omega arith in
        let fits : k / width * padded width + padded width ≤ padded height * padded width = row_fits (k / width) (padded width) (padded height) (padded width) (omega arith) (omega arith) in
        let i : ℕ = k / width * padded width + k % width in
        let inside : k / width * padded width + k % width < padded width * padded height = omega arith in
        let long' : length (padded_plane plane width height) ≡ padded width * padded height = length-map-range_with_len (λ k. padded_sample plane width height (k % padded width) (k / padded width)) 0 (padded width * padded height) in
        let c : (k / width * padded width + k % width) % padded width ≡ k % width = column_is (k / width) (padded width) (k % width) column' in
        let r : (k / width * padded width + k % width) / padded width ≡ k / width = div-mul-add (k / width) (padded width) (k % width) column' in
        let place : min (k / width) (height - 1) * width + min (k % width) (width - 1) ≡ k =
        let a : min (k / width) (height - 1) ≡ k / width = omega arith in
        let b : min (k % width) (width - 1) ≡ k % width = omega arith in
        ap (λ n. n * width + min (k % width) (width - 1)) a ∙ ap (λ n. k / width * width + n) b ∙ omega arith in
        get_or-map-range_with_len (λ k. get_or (raw_plane plane width height) (k / width * padded width + k % width) 0) 0 (width * height) k k 0 h (omega arith)
        ∙ get_or-map raw_sample (padded_plane plane width height) (k / width * padded width + k % width) 0 0 (omega (arith, long', inside))
        ∙ ap raw_sample (
        get_or-map-range_with_len (λ k. padded_sample plane width height (k % padded width) (k / padded width)) 0 (padded width * padded height)
        (k / width * padded width + k % width) (k / width * padded width + k % width) 0 inside (omega arith)
        ∙ ap (λ n. padded_sample plane width height n ((k / width * padded width + k % width) / padded width)) c
        ∙ ap (λ n. padded_sample plane width height (k % width) n) r
        ∙ ap (λ n. get_or plane n 0) place
        )
        ∙ sym (get_or-map raw_sample plane k 0 0 (omega (arith, long)))

-- a plane that is written is read back
plane_back : (inter : Bool) (qp : ℕ) (plane reference : List ℕ) (width height : ℕ) (rest : List ℕ) → 0 < width → IsPlaneOf width height plane → AreSamples reference →
    plane_from (written_plane inter qp plane reference width height).raw inter reference width height ((written_plane inter qp plane reference width height).bytes ++ rest)
    ≡ Some ((written_plane inter qp plane reference width height).samples, rest)
plane_back inter qp plane reference width height rest w p r = by_size (is_raw blocks width height)
  where
    blocks : List Block
    blocks = coded_blocks inter qp plane reference width height

    fit : All IsBlock blocks × Allowed inter blocks × (length blocks ≡ block_count width height)
    fit = coded_blocks_fit inter qp plane reference width height p.1 r

    of : Bool → WrittenPlane
    of b = cond b (record { raw = true; bytes = raw_plane plane width height; samples = map raw_sample plane }) (record { raw = false; bytes = canon_plane blocks; samples = decoded_plane blocks reference width height })

    by_size : (b : Bool) → plane_from (of b).raw inter reference width height ((of b).bytes ++ rest) ≡ Some ((of b).samples, rest)
    by_size true =
        plane_is_read (raw_plane plane width height ++ rest) true inter reference width height (map raw_sample plane) rest
        (raw_plane plane width height, (refl, ((length-raw_plane plane width height, all_made (λ b. b < 255) raw_sample (padded_plane plane width height) (λ s. omega arith)), sym (unpadded_raw plane width height w p.0))))
    by_size false =
        plane_is_read (canon_plane blocks ++ rest) false inter reference width height (decoded_plane blocks reference width height) rest
        (canon_plane blocks, (refl, (blocks, (subst (λ (n : ℕ). IsCodedPlane (canon_plane blocks) inter n blocks) fit.2 (canon_plane_stands inter blocks fit.0 fit.1), refl))))

-- all planes of a picture
planes_back : (inter : Bool) (qp : ℕ) (shapes : List (ℕ × ℕ)) (planes reference : List (List ℕ)) (more : List Bool) (rest : List ℕ) → All (λ (s : ℕ × ℕ). 0 < s.0) shapes → ArePlanesOf shapes planes → All AreSamples reference →
    planes_from (map (λ (w : WrittenPlane). w.raw) (written_planes inter qp shapes planes reference) ++ more) inter reference shapes (body_of (written_planes inter qp shapes planes reference) ++ rest)
    ≡ Some (map (λ (w : WrittenPlane). w.samples) (written_planes inter qp shapes planes reference), rest)
planes_back inter qp [] planes reference more rest s p r = refl
planes_back inter qp (shape ∷ shapes) [] reference more rest s p r = let e : [] ≡ shape.0 * shape.1 ∷ map (λ (shape : ℕ × ℕ). shape.0 * shape.1) shapes = p.0 in absurd cc
planes_back inter qp (shape ∷ shapes) (plane ∷ planes) reference more rest s p r =
    let e : length plane ∷ map length planes ≡ shape.0 * shape.1 ∷ map (λ (shape : ℕ × ℕ). shape.0 * shape.1) shapes = p.0 in
    let long : length plane ≡ shape.0 * shape.1 = cc in
    let later : map length planes ≡ map (λ (shape : ℕ × ℕ). shape.0 * shape.1) shapes = cc in
    let w : WrittenPlane = written_plane inter qp plane (get_or reference 0 []) shape.0 shape.1 in
    let ws : List WrittenPlane = written_planes inter qp shapes planes (drop 1 reference) in
    let first : plane_from w.raw inter (get_or reference 0 []) shape.0 shape.1 (w.bytes ++ (body_of ws ++ rest)) ≡ Some (w.samples, body_of ws ++ rest) =
    plane_back inter qp plane (get_or reference 0 []) shape.0 shape.1 (body_of ws ++ rest) (All-head (λ (s : ℕ × ℕ). 0 < s.0) shape shapes s)
    (long, All-head AreSamples plane planes p.1) (all_entry AreSamples reference 0 [] (All-nil (λ s. s < 256)) r) in
    let others : planes_from (map (λ (w : WrittenPlane). w.raw) ws ++ more) inter (drop 1 reference) shapes (body_of ws ++ rest) ≡ Some (map (λ (w : WrittenPlane). w.samples) ws, rest) =
    planes_back inter qp shapes planes (drop 1 reference) more rest (All-tail (λ (s : ℕ × ℕ). 0 < s.0) shape shapes s) (later, All-tail AreSamples plane planes p.1) (All-drop AreSamples 1 reference r) in
    ap (λ t. planes_from (w.raw ∷ (map (λ (w : WrittenPlane). w.raw) ws ++ more)) inter reference (shape ∷ shapes) t) (append_assoc w.bytes (body_of ws) rest)
    ∙ ap (λ o. after_plane o (λ rest. planes_from (map (λ (w : WrittenPlane). w.raw) ws ++ more) inter (drop 1 reference) shapes rest)) first
    ∙ ap (λ o. planes_behind w.samples o) others

raw_front : (layout : Layout) (width height : ℕ) (rs : List Bool) → length rs ≡ length (shapes_of layout width height) → (more : List Bool) × (take 3 (rs ++ false ∷ false ∷ []) ≡ rs ++ more)
raw_front Grey width height [] e = absurd (omega arith)
raw_front Grey width height (a ∷ []) e = (false ∷ false ∷ [], refl)
raw_front Grey width height (a ∷ b ∷ rs) e = absurd (omega arith)
raw_front C420 width height [] e = absurd (omega arith)
raw_front C420 width height (a ∷ []) e = absurd (omega arith)
raw_front C420 width height (a ∷ b ∷ []) e = absurd (omega arith)
raw_front C420 width height (a ∷ b ∷ c ∷ []) e = ([], refl)
raw_front C420 width height (a ∷ b ∷ c ∷ d ∷ rs) e = absurd (omega arith)
raw_front C422 width height [] e = absurd (omega arith)
raw_front C422 width height (a ∷ []) e = absurd (omega arith)
raw_front C422 width height (a ∷ b ∷ []) e = absurd (omega arith)
raw_front C422 width height (a ∷ b ∷ c ∷ []) e = ([], refl)
raw_front C422 width height (a ∷ b ∷ c ∷ d ∷ rs) e = absurd (omega arith)

some_width : (layout : Layout) (width height : ℕ) → 16 ≤ width → All (λ (s : ℕ × ℕ). 0 < s.0) (shapes_of layout width height)
some_width Grey width height w = All-cons (λ (s : ℕ × ℕ). 0 < s.0) (width, height) [] (omega arith) (All-nil (λ (s : ℕ × ℕ). 0 < s.0))
some_width C420 width height w =
    All-cons (λ (s : ℕ × ℕ). 0 < s.0) (width, height) ((width / 2, height / 2) ∷ (width / 2, height / 2) ∷ []) (omega arith)
    (All-cons (λ (s : ℕ × ℕ). 0 < s.0) (width / 2, height / 2) ((width / 2, height / 2) ∷ []) (omega arith) (All-cons (λ (s : ℕ × ℕ). 0 < s.0) (width / 2, height / 2) [] (omega arith) (All-nil (λ (s : ℕ × ℕ). 0 < s.0))))
some_width C422 width height w =
    All-cons (λ (s : ℕ × ℕ). 0 < s.0) (width, height) ((width / 2, height) ∷ (width / 2, height) ∷ []) (omega arith)
    (All-cons (λ (s : ℕ × ℕ). 0 < s.0) (width / 2, height) ((width / 2, height) ∷ []) (omega arith) (All-cons (λ (s : ℕ × ℕ). 0 < s.0) (width / 2, height) [] (omega arith) (All-nil (λ (s : ℕ × ℕ). 0 < s.0))))

not_twice : (b : Bool) → not (not b) ≡ b
not_twice true = refl
not_twice false = refl

-- The body of a frame is read back as its reconstruction.
pub body_back : (g : Geometry) (key : Bool) (qp number : ℕ) (planes reference : List (List ℕ)) → 16 ≤ g.width → IsPicture g planes → All AreSamples reference →
    body_planes (encoded_picture g key qp number planes reference).header reference (encoded_picture g key qp number planes reference).body ≡ Some (encoded_picture g key qp number planes reference).planes
unfolding body_planes
body_back g key qp number planes reference wide p r =
    let ws : List WrittenPlane = written_planes (not key) qp (plane_shapes g) planes reference in
    let front = raw_front g.layout g.width g.height (map (λ (w : WrittenPlane). w.raw) ws) (planes_fit (not key) qp (plane_shapes g) planes reference p).count in
    ap (λ t. if_complete (planes_from t (not key) reference (plane_shapes g) (body_of ws))) front.1
    ∙ ap (λ t. if_complete (planes_from (map (λ (w : WrittenPlane). w.raw) ws ++ front.0) (not key) reference (plane_shapes g) t)) (sym (append-nil (body_of ws)))
    ∙ ap (λ o. if_complete o) (planes_back (not key) qp (plane_shapes g) planes reference front.0 [] (some_width g.layout g.width g.height wide) p r)

-- of two bytes that follow each other the second one isn't 255
abbrev pub NoFull : List ℕ → Type 0
NoFull [] = Unit {0}
NoFull (a ∷ []) = ⊥
NoFull (a ∷ b ∷ bytes) = (b < 255) × NoFull bytes

no_full_append : (xs ys : List ℕ) → NoFull xs → NoFull ys → NoFull (xs ++ ys)
no_full_append [] ys p q = q
no_full_append (a ∷ []) ys p q = absurd p
no_full_append (a ∷ b ∷ xs) ys p q = (p.0, no_full_append xs ys p.1 q)

pub no_full_at : (xs : List ℕ) (j : ℕ) → NoFull xs → 2 * j + 1 < length xs → get_or xs (2 * j + 1) 0 < 255
no_full_at [] j p h = absurd (omega arith)
no_full_at (a ∷ []) j p h = absurd p
no_full_at (a ∷ b ∷ xs) zero p h = p.0
no_full_at (a ∷ b ∷ xs) (suc j) p h =
    let e : 2 * suc j + 1 ≡ suc (suc (2 * j + 1)) = omega arith in
    subst (λ (n : ℕ). get_or (a ∷ b ∷ xs) n 0 < 255) (sym e) (no_full_at xs j p.1 (omega arith))

word_no_full : (w : ℕ) → w % 16 < 15 → NoFull (word_bytes w)
word_no_full w h = (omega arith, tt)

end_no_full : NoFull (word_bytes 15)
end_no_full = (omega arith, tt)

words_no_full : (ws : List ℕ) (values : List ℤ) → Words ws values → NoFull (words_bytes ws)
words_no_full [] values p = tt
words_no_full (w ∷ ws) values p =
    elim p [
      | inl q ↦
          no_full_append (word_bytes w) (words_bytes ws) (subst (λ (n : ℕ). NoFull (word_bytes n)) (sym q.0) end_no_full) (subst (λ (t : List ℕ). NoFull (words_bytes t)) (sym q.1) tt)
      | inr q ↦ no_full_append (word_bytes w) (words_bytes ws) (word_no_full w (omega (arith, q.1.0.1))) (words_no_full ws q.0 q.1.1)
    ]

head_no_full : (inter : Bool) (repeats : ℕ) → NoFull (word_bytes (head_of inter repeats))
head_no_full true repeats = (omega arith, tt)
head_no_full false repeats = (omega arith, tt)

entries_no_full : (es : List Entry) (blocks : List Block) → StandFor es blocks → NoFull (entries_bytes es)
entries_no_full [] blocks p = tt
entries_no_full (e ∷ es) blocks p =
    no_full_append (entry_bytes e) (entries_bytes es)
    (no_full_append (word_bytes (head_word e)) (words_bytes e.words) (head_no_full e.inter e.repeats) (words_no_full e.words _ p.1.1.0.3))
    (entries_no_full es p.1.0 p.1.1.2)

even_no_full : (n : ℕ) (xs : List ℕ) → length xs ≡ 2 * n → All (λ b. b < 255) xs → NoFull xs
even_no_full n [] e a = tt
even_no_full zero (x ∷ xs) e a = absurd (omega arith)
even_no_full (suc n) (x ∷ []) e a = absurd (omega arith)
even_no_full (suc n) (x ∷ y ∷ xs) e a =
    (All-head (λ b. b < 255) y xs (All-tail (λ b. b < 255) x (y ∷ xs) a), even_no_full n xs (omega arith) (All-tail (λ b. b < 255) y xs (All-tail (λ b. b < 255) x (y ∷ xs) a)))

plane_no_full : (inter : Bool) (qp : ℕ) (plane reference : List ℕ) (width height : ℕ) → AreSamples plane → AreSamples reference → NoFull (written_plane inter qp plane reference width height).bytes
plane_no_full inter qp plane reference width height p r = by_size (is_raw blocks width height)
  where
    blocks : List Block
    blocks = coded_blocks inter qp plane reference width height

    of : Bool → WrittenPlane
    of b = cond b (record { raw = true; bytes = raw_plane plane width height; samples = map raw_sample plane }) (record { raw = false; bytes = canon_plane blocks; samples = decoded_plane blocks reference width height })

    coded : IsCodedPlane (canon_plane blocks) inter (length blocks) blocks
    coded = let fit = coded_blocks_fit inter qp plane reference width height p r in canon_plane_stands inter blocks fit.0 fit.1

    by_size : (b : Bool) → NoFull (of b).bytes
    by_size true =
        let even : padded width * padded height ≡ 2 * (4 * ((width + 7) / 8 * padded height)) = omega arith in
        even_no_full (4 * ((width + 7) / 8 * padded height)) (raw_plane plane width height) (length-raw_plane plane width height ∙ even) (all_made (λ b. b < 255) raw_sample (padded_plane plane width height) (λ s. omega arith))
    by_size false = subst (λ (t : List ℕ). NoFull t) (sym coded.spelled) (entries_no_full coded.entries blocks coded.standing)

planes_no_full : (inter : Bool) (qp : ℕ) (shapes : List (ℕ × ℕ)) (planes reference : List (List ℕ)) → All AreSamples planes → All AreSamples reference → NoFull (body_of (written_planes inter qp shapes planes reference))
planes_no_full inter qp [] planes reference p r = tt
planes_no_full inter qp (shape ∷ shapes) planes reference p r =
    no_full_append (written_plane inter qp (get_or planes 0 []) (get_or reference 0 []) shape.0 shape.1).bytes (body_of (written_planes inter qp shapes (drop 1 planes) (drop 1 reference)))
    (plane_no_full inter qp (get_or planes 0 []) (get_or reference 0 []) shape.0 shape.1 (all_entry AreSamples planes 0 [] (All-nil (λ s. s < 256)) p) (all_entry AreSamples reference 0 [] (All-nil (λ s. s < 256)) r))
    (planes_no_full inter qp shapes (drop 1 planes) (drop 1 reference) (All-drop AreSamples 1 planes p) (All-drop AreSamples 1 reference r))

-- No byte at an odd place of a body is 255.
pub body_no_full : (g : Geometry) (key : Bool) (qp number : ℕ) (planes reference : List (List ℕ)) → IsPicture g planes → All AreSamples reference → NoFull (encoded_picture g key qp number planes reference).body
body_no_full g key qp number planes reference p r = planes_no_full (not key) qp (plane_shapes g) planes reference p.1 r
