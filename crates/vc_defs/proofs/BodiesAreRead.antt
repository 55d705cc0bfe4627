-- A body is read exactly where it is legal: as many planes as the header says, each legal, with nothing left behind.
-- Every plane is raw, with a fixed number of bytes, or coded, which is the same as to be stood for by entries.
use Rattle.std.proofs.Common.{◌≡◌, ◌∙◌, sym, ap, refl, subst, ℕ, ◌+◌, ◌*◌, ◌<◌, ◌≤◌, inl, inr, List, [], ◌∷◌, ◌++◌, length, take, drop, get_or, arith, append_assoc, length-append}
use Rattle.std.specs.Prelude.{Bool, true, false, ◌&&◌, not, nat_le, nat_lt}
use Rattle.std.specs.List.{list_all, All}
use Rattle.std.specs.declared.option.Option.{Option}
use Rattle.std.specs.declared.option.Option.TheVariants.{Some, None}
use Rattle.std.proofs.lemmas.Option.{none-some}
use Rattle.std.proofs.lemmas.Bool.{and_parts, and_from, cond-true}
use Rattle.std.proofs.lemmas.Bool.Decides.{nat_tests}
use Rattle.std.proofs.lemmas.List.{take_at, drop_at, length-take-le, take-append-drop, append-nil}
use Rattle.std.proofs.lemmas.List.Elements.{All-head, All-tail, All-nil, All-cons}
use Rattle.vc_defs.specs.declared.Header.{Header}
use Rattle.vc_defs.specs.Planes.{Block, block_count, decoded_plane, unpadded, padded, blocks_from}
use Rattle.vc_defs.specs.Bodies.{IsPlane, ArePlanes, IsBody, plane_from, decoded_from, planes_from, planes_behind, after_plane, if_nothing_left, if_complete, body_planes, plane_shapes}
use Rattle.vc_defs.specs.Laws.{AreBytes}
use Rattle.vc_defs.proofs.BlocksAreRead.{chosen, some_same}
use Rattle.vc_defs.proofs.PlanesAreRead.{AreFront, blocks_of, read_coded, all_behind}

pub all_below : (n : ℕ) (xs : List ℕ) → list_all (λ b. nat_lt b n) xs ≡ true → All (λ b. b < n) xs
all_below n [] e = All-nil (λ b. b < n)
all_below n (x ∷ xs) e =
    let both = and_parts (nat_lt x n) (list_all (λ b. nat_lt b n) xs) e in
    let first : nat_lt x n ≡ true = both.0 in
    All-cons (λ b. b < n) x xs (grind (arith, nat_tests)) (all_below n xs both.1)

all_tested : (n : ℕ) (xs : List ℕ) → All (λ b. b < n) xs → list_all (λ b. nat_lt b n) xs ≡ true
all_tested n [] h = refl
all_tested n (x ∷ xs) h =
    let first : x < n = All-head (λ b. b < n) x xs h in
    and_from (nat_lt x n) (list_all (λ b. nat_lt b n) xs) (grind (arith, nat_tests)) (all_tested n xs (All-tail (λ b. b < n) x xs h))

-- A legal plane is at the front of bytes, and the rest stands behind it.
abbrev pub IsPlaneFront : List ℕ → Bool → Bool → List ℕ → ℕ → ℕ → List ℕ → List ℕ → Type 0
IsPlaneFront bytes raw inter reference width height samples rest =
    (first : List ℕ) × ((bytes ≡ first ++ rest) × IsPlane first raw inter reference width height samples)

pub plane_of_read :
    (bytes : List ℕ) (raw inter : Bool) (reference : List ℕ) (width height : ℕ) (samples rest : List ℕ) → AreBytes bytes
    → plane_from raw inter reference width height bytes ≡ Some (samples, rest) → IsPlaneFront bytes raw inter reference width height samples rest
plane_of_read bytes true inter reference width height samples rest ok e =
    elim
    (chosen (nat_le (padded width * padded height) (length bytes) && list_all (λ b. nat_lt b 255) (take (padded width * padded height) bytes))
    (Some (unpadded (take (padded width * padded height) bytes) width height, drop (padded width * padded height) bytes)) None (Some (samples, rest))
    e) [
      | inl p ↦
          let tests = and_parts (nat_le (padded width * padded height) (length bytes)) (list_all (λ b. nat_lt b 255) (take (padded width * padded height) bytes)) p.0 in
          let test : nat_le (padded width * padded height) (length bytes) ≡ true = tests.0 in
          let enough : padded width * padded height ≤ length bytes = grind (arith, nat_tests) in
          let same :
          (unpadded (take (padded width * padded height) bytes) width height, drop (padded width * padded height) bytes) ≡ (samples, rest) =
          some_same (unpadded (take (padded width * padded height) bytes) width height, drop (padded width * padded height) bytes) (samples, rest) p.1 in (
            take (padded width * padded height) bytes,
            (
              sym (take-append-drop (padded width * padded height) bytes) ∙ ap (λ t. take (padded width * padded height) bytes ++ t) (ap (λ (p : List ℕ × List ℕ). p.1) same),
              ((length-take-le (padded width * padded height) bytes enough, all_below 255 (take (padded width * padded height) bytes) tests.1), ap (λ (p : List ℕ × List ℕ). p.0) (sym same)),
            ),
          )
      | inr p ↦ absurd (none-some (samples, rest) p.1)
    ]
plane_of_read bytes false inter reference width height samples rest ok e =
    by_blocks (blocks_from (block_count width height) inter (block_count width height) bytes) e (λ blocks later r. blocks_of (block_count width height) inter (block_count width height) bytes later blocks ok r)
  where
    by_blocks :
        (o : Option (List Block × List ℕ)) → decoded_from reference width height o ≡ Some (samples, rest)
        → ((blocks : List Block) (later : List ℕ) → o ≡ Some (blocks, later) → AreFront inter (block_count width height) bytes later blocks)
        → IsPlaneFront bytes false inter reference width height samples rest
    by_blocks None e f = absurd (none-some (samples, rest) e)
    by_blocks (Some q) e f =
        let same : (decoded_plane q.0 reference width height, q.1) ≡ (samples, rest) = some_same (decoded_plane q.0 reference width height, q.1) (samples, rest) e in
        let front = f q.0 q.1 refl in (
          front.0,
          (
            front.1.0 ∙ ap (λ t. front.0 ++ t) (ap (λ (p : List ℕ × List ℕ). p.1) same),
            (q.0, (front.1.1, ap (λ (p : List ℕ × List ℕ). p.0) (sym same))),
          ),
        )

pub plane_is_read :
    (bytes : List ℕ) (raw inter : Bool) (reference : List ℕ) (width height : ℕ) (samples rest : List ℕ)
    → IsPlaneFront bytes raw inter reference width height samples rest → plane_from raw inter reference width height bytes ≡ Some (samples, rest)
plane_is_read bytes true inter reference width height samples rest f =
    let size : length f.0 ≡ padded width * padded height = f.1.1.0.0 in
    let here : take (padded width * padded height) bytes ≡ f.0 = ap (λ t. take (padded width * padded height) t) f.1.0 ∙ take_at f.0 rest (padded width * padded height) size in
    let there : drop (padded width * padded height) bytes ≡ rest = ap (λ t. drop (padded width * padded height) t) f.1.0 ∙ drop_at f.0 rest (padded width * padded height) size in
    let long : length bytes ≡ padded width * padded height + length rest = ap length f.1.0 ∙ length-append f.0 rest ∙ ap (λ n. n + length rest) size in
    let enough : padded width * padded height ≤ length bytes = omega (arith, long) in
    let tests : (nat_le (padded width * padded height) (length bytes) && list_all (λ b. nat_lt b 255) (take (padded width * padded height) bytes)) ≡ true =
    and_from (nat_le (padded width * padded height) (length bytes)) (list_all (λ b. nat_lt b 255) (take (padded width * padded height) bytes)) (grind (arith, nat_tests))
    (ap (λ t. list_all (λ b. nat_lt b 255) t) here ∙ all_tested 255 f.0 f.1.1.0.1) in
    cond-true (nat_le (padded width * padded height) (length bytes) && list_all (λ b. nat_lt b 255) (take (padded width * padded height) bytes))
    (Some (unpadded (take (padded width * padded height) bytes) width height, drop (padded width * padded height) bytes)) None tests
    ∙ ap (λ t. Some (unpadded t width height, drop (padded width * padded height) bytes)) here
    ∙ ap (λ t. Some (unpadded f.0 width height, t)) there
    ∙ ap (λ t. Some (t, rest)) (sym f.1.1.1)
plane_is_read bytes false inter reference width height samples rest f =
    ap (λ o. decoded_from reference width height o) (read_coded inter (block_count width height) bytes rest f.1.1.0 (f.0, (f.1.0, f.1.1.1.0)))
    ∙ ap (λ t. Some (t, rest)) (sym f.1.1.1.1)

abbrev ArePlanesFront : List ℕ → List Bool → Bool → List (List ℕ) → List (ℕ × ℕ) → List (List ℕ) → List ℕ → Type 0
ArePlanesFront bytes raw inter reference shapes planes rest = (first : List ℕ) × ((bytes ≡ first ++ rest) × ArePlanes first raw inter reference shapes planes)

-- what planes that were read one after the other are
abbrev pub Went : Option (List ℕ × List ℕ) → (List ℕ → Option (List (List ℕ) × List ℕ)) → List (List ℕ) → List ℕ → Type 0
Went plane read planes rest =
    (samples later : List ℕ) × ((others : List (List ℕ)) × ((plane ≡ Some (samples, later)) × (read later ≡ Some (others, rest)) × (planes ≡ samples ∷ others)))

pub went : (plane : Option (List ℕ × List ℕ)) (read : List ℕ → Option (List (List ℕ) × List ℕ)) (planes : List (List ℕ)) (rest : List ℕ) → after_plane plane read ≡ Some (planes, rest) → Went plane read planes rest
went None read planes rest e = absurd (none-some (planes, rest) e)
went (Some p) read planes rest e = by_others (read p.1) refl e
  where
    by_others : (o : Option (List (List ℕ) × List ℕ)) → read p.1 ≡ o → planes_behind p.0 o ≡ Some (planes, rest) → Went (Some p) read planes rest
    by_others None r e = absurd (none-some (planes, rest) e)
    by_others (Some q) r e =
        let same : (p.0 ∷ q.0, q.1) ≡ (planes, rest) = some_same (p.0 ∷ q.0, q.1) (planes, rest) e in
        (p.0, p.1, (q.0, (refl, r ∙ ap (λ t. Some (q.0, t)) (ap (λ (p : List (List ℕ) × List ℕ). p.1) same), ap (λ (p : List (List ℕ) × List ℕ). p.0) (sym same))))

planes_of_read :
    (bytes : List ℕ) (raw : List Bool) (inter : Bool) (reference : List (List ℕ)) (shapes : List (ℕ × ℕ)) (planes : List (List ℕ)) (rest : List ℕ)
    → AreBytes bytes → planes_from raw inter reference shapes bytes ≡ Some (planes, rest)
    → ArePlanesFront bytes raw inter reference shapes planes rest
planes_of_read bytes raw inter reference [] planes rest ok e =
    let same : ([], bytes) ≡ (planes, rest) = some_same ([], bytes) (planes, rest) e in
    ([], (ap (λ (p : List (List ℕ) × List ℕ). p.1) same, (refl, ap (λ (p : List (List ℕ) × List ℕ). p.0) (sym same))))
planes_of_read bytes raw inter reference (shape ∷ shapes) planes rest ok e =
    let w = went (plane_from (get_or raw 0 false) inter (get_or reference 0 []) shape.0 shape.1 bytes) (λ rest. planes_from (drop 1 raw) inter (drop 1 reference) shapes rest) planes rest e in
    let first = plane_of_read bytes (get_or raw 0 false) inter (get_or reference 0 []) shape.0 shape.1 w.0 w.1 ok w.2.1.0 in
    let ok' : AreBytes w.1 = all_behind (λ b. b < 256) first.0 w.1 (subst (λ (t : List ℕ). AreBytes t) first.1.0 ok) in
    let others = planes_of_read w.1 (drop 1 raw) inter (drop 1 reference) shapes w.2.0 rest ok' w.2.1.1 in (
      first.0 ++ others.0,
      (
        first.1.0 ∙ ap (λ t. first.0 ++ t) others.1.0 ∙ sym (append_assoc first.0 others.0 rest),
        (first.0, others.0, (w.0, (w.2.0, (refl, w.2.1.2, first.1.1, others.1.1)))),
      ),
    )

planes_are_read :
    (bytes : List ℕ) (raw : List Bool) (inter : Bool) (reference : List (List ℕ)) (shapes : List (ℕ × ℕ)) (planes : List (List ℕ)) (rest : List ℕ)
    → ArePlanesFront bytes raw inter reference shapes planes rest → planes_from raw inter reference shapes bytes ≡ Some (planes, rest)
planes_are_read bytes raw inter reference [] planes rest f =
    ap (λ t. planes_from raw inter reference [] t) (f.1.0 ∙ ap (λ t. t ++ rest) f.1.1.0) ∙ ap (λ t. Some (t, rest)) (sym f.1.1.1)
planes_are_read bytes raw inter reference (shape ∷ shapes) planes rest f =
    let front : bytes ≡ f.1.1.0 ++ (f.1.1.1 ++ rest) = f.1.0 ∙ ap (λ t. t ++ rest) f.1.1.2.1.1.0 ∙ append_assoc f.1.1.0 f.1.1.1 rest in
    let first : plane_from (get_or raw 0 false) inter (get_or reference 0 []) shape.0 shape.1 bytes ≡ Some (f.1.1.2.0, f.1.1.1 ++ rest) =
    plane_is_read bytes (get_or raw 0 false) inter (get_or reference 0 []) shape.0 shape.1 f.1.1.2.0 (f.1.1.1 ++ rest) (f.1.1.0, (front, f.1.1.2.1.1.2)) in
    let later : planes_from (drop 1 raw) inter (drop 1 reference) shapes (f.1.1.1 ++ rest) ≡ Some (f.1.1.2.1.0, rest) =
    planes_are_read (f.1.1.1 ++ rest) (drop 1 raw) inter (drop 1 reference) shapes f.1.1.2.1.0 rest (f.1.1.1, (refl, f.1.1.2.1.1.3)) in
    ap (λ o. after_plane o (λ rest. planes_from (drop 1 raw) inter (drop 1 reference) shapes rest)) first
    ∙ ap (λ o. planes_behind f.1.1.2.0 o) later
    ∙ ap (λ t. Some (t, rest)) (sym f.1.1.2.1.1.1)

nothing_left : (p : List (List ℕ)) (rest : List ℕ) (planes : List (List ℕ)) → if_nothing_left p rest ≡ Some planes → (p ≡ planes) × (rest ≡ [])
nothing_left p [] planes e = (some_same p planes e, refl)
nothing_left p (b ∷ rest) planes e = absurd (none-some planes e)

pub complete_says : (o : Option (List (List ℕ) × List ℕ)) (planes : List (List ℕ)) → if_complete o ≡ Some planes → o ≡ Some (planes, [])
complete_says None planes e = absurd (none-some planes e)
complete_says (Some r) planes e =
    let parts = nothing_left r.0 r.1 planes e in ap (λ t. Some (t, r.1)) parts.0 ∙ ap (λ t. Some (planes, t)) parts.1

-- A legal body is what is read.
pub body_is : (h : Header) (reference : List (List ℕ)) (body : List ℕ) (planes : List (List ℕ)) → AreBytes body → body_planes h reference body ≡ Some planes → IsBody h reference body planes
unfolding body_planes
body_is h reference body planes ok e =
    let f = planes_of_read body h.raw (not h.key) reference (plane_shapes h.geometry) planes [] ok (complete_says (planes_from h.raw (not h.key) reference (plane_shapes h.geometry) body) planes e) in
    subst (λ (t : List ℕ). ArePlanes t h.raw (not h.key) reference (plane_shapes h.geometry) planes) (sym (f.1.0 ∙ append-nil f.0)) f.1.1

pub body_is_read : (h : Header) (reference : List (List ℕ)) (body : List ℕ) (planes : List (List ℕ)) → IsBody h reference body planes → body_planes h reference body ≡ Some planes
unfolding body_planes
body_is_read h reference body planes b =
    ap (λ o. if_complete o) (planes_are_read body h.raw (not h.key) reference (plane_shapes h.geometry) planes [] (body, (sym (append-nil body), b)))
