-- A reference that is brought to the front of its list leaves the others in it. So the lengths that are served stay
-- the same.
use Rattle.std.proofs.Common.{ℕ, suc, ◌≡◌, ◌<◌, ◌+◌, ltb, Bool, true, false, not, cond, ◌||◌, Option, Some, None, List, [], ◌∷◌, map, length, refl, sym, ap, ◌∙◌, subst, arith, eqb-true}
use Rattle.std.specs.Prelude.{◌==◌, position, slice_index_or, slice_set}
use Rattle.std.specs.List.{list_any, position_or_len, swap_remove}
use Rattle.std.specs.List.Sorted.{IsPermutation}
use Rattle.std.proofs.lemmas.Bool.{false≢true}
use Rattle.std.proofs.lemmas.List.{get_or_default}
use Rattle.std.proofs.lemmas.List.Quantifiers.{position-Some}
use Rattle.std.proofs.lemmas.List.Sorted.{IsPermutation-swap, IsPermutation-swap_remove, IsPermutation-map, list_any-IsPermutation}
use Rattle.vc_defs.specs.Decoder.{ReferenceState}
use Rattle.vc_work.specs.References.{CodecReference, HasRoomFor}
use Rattle.vc_dec.specs.Decoders.{serves}

-- where a reference was found, or none was
pub place_at : (n : ℕ) (ds rs : List CodecReference) (o x : Option ℕ) → o ≡ position (λ (r : CodecReference). r.size == n) ds → ds ≡ rs → o ≡ x → position (λ (r : CodecReference). r.size == n) rs ≡ x
place_at n ds rs o x e d f = ap (position (λ (r : CodecReference). r.size == n)) (sym d) ∙ (sym e ∙ f)

-- one reference is as long

below : (n : ℕ) (rs : List CodecReference) → list_any (λ (r : CodecReference). r.size == n) rs ≡ true → position_or_len (λ (r : CodecReference). r.size == n) rs < length rs
below n [] h = absurd (false≢true h)
below n (r ∷ rs) h = by_first (r.size == n) (below n rs) h
  where
    by_first :
        (b : Bool)
        → (list_any (λ (x : CodecReference). x.size == n) rs ≡ true → position_or_len (λ (x : CodecReference). x.size == n) rs < length rs)
        → (b || list_any (λ (x : CodecReference). x.size == n) rs) ≡ true
        → cond (not b) (1 + position_or_len (λ (x : CodecReference). x.size == n) rs) 0 < suc (length rs)
    by_first true later g = omega arith
    by_first false later g = let l = later g in omega (arith, l)

pub some_place : (n : ℕ) (rs : List CodecReference) → list_any (λ (r : CodecReference). r.size == n) rs ≡ true → position (λ (r : CodecReference). r.size == n) rs ≡ None → ⊥
some_place n rs h e = by_test _ refl e
  where
    by_test : (b : Bool) → ltb (position_or_len (λ (r : CodecReference). r.size == n) rs) (length rs) ≡ b → cond b (Some (position_or_len (λ (r : CodecReference). r.size == n) rs)) None ≡ None → ⊥
    by_test true f g = cc
    by_test false f g = let l = below n rs h in grind (arith, f, l)

-- the reference at the place that was found is as long
pub placed_size : (n i : ℕ) (rs : List CodecReference) (x : CodecReference) → position (λ (r : CodecReference). r.size == n) rs ≡ Some i → x ≡ slice_index_or rs i x → x.size ≡ n
placed_size n i rs x e f =
    let p = position-Some (λ (r : CodecReference). r.size == n) rs i x e in
    ap (λ (r : CodecReference). r.size) f ∙ eqb-true (slice_index_or rs i x).size n p.1

pub placed_inside : (n i : ℕ) (rs : List CodecReference) (x : CodecReference) → position (λ (r : CodecReference). r.size == n) rs ≡ Some i → i < length rs
placed_inside n i rs x e = (position-Some (λ (r : CodecReference). r.size == n) rs i x e).0

-- it has room for what fits into so many bytes
pub placed_room :
    (n i : ℕ) (rs : List CodecReference) (x : CodecReference) (picture : Option ReferenceState)
    → position (λ (r : CodecReference). r.size == n) rs ≡ Some i → x ≡ slice_index_or rs i x → HasRoomFor picture n → HasRoomFor picture x.size
placed_room n i rs x picture e f h = subst (HasRoomFor picture) (sym (placed_size n i rs x e f)) h

-- the references are the same, in another order

exchanged : (rs : List CodecReference) (i : ℕ) (p x : CodecReference) → i < length rs → x ≡ slice_index_or rs i x → IsPermutation (p ∷ rs) (x ∷ slice_set rs i p)
exchanged rs i p x l e =
    IsPermutation-swap (p ∷ rs) (x ∷ slice_set rs i p) 0 (suc i) (omega arith) (omega (arith, l)) (ap (λ (y : CodecReference). y ∷ slice_set rs i p) (e ∙ get_or_default rs i x p l))

pub exchanged_rooms :
    (rs : List CodecReference) (i n m : ℕ) (p y x : CodecReference) → position (λ (r : CodecReference). r.size == n) rs ≡ Some i
    → x ≡ slice_index_or rs i x → y ≡ p → m ≡ x.size
    → IsPermutation (p.size ∷ map (λ (r : CodecReference). r.size) rs) (m ∷ map (λ (r : CodecReference). r.size) (slice_set rs i y))
exchanged_rooms rs i n m p y x f e ey em =
    rw (ey, em) (IsPermutation-map (λ (r : CodecReference). r.size) (p ∷ rs) (x ∷ slice_set rs i p) (exchanged rs i p x (placed_inside n i rs x f) e))

pub removed_rooms :
    (rs left : List CodecReference) (i n m : ℕ) (x : CodecReference) → position (λ (r : CodecReference). r.size == n) rs ≡ Some i
    → x ≡ slice_index_or rs i x → left ≡ swap_remove rs i x → m ≡ x.size
    → IsPermutation (map (λ (r : CodecReference). r.size) rs) (m ∷ map (λ (r : CodecReference). r.size) left)
removed_rooms rs left i n m x f e el em =
    rw (el, em) (IsPermutation-map (λ (r : CodecReference). r.size) rs (x ∷ swap_remove rs i x) (IsPermutation-swap_remove rs i x (placed_inside n i rs x f) e))

-- where references are the same but for their order, the same lengths are served
pub same_serve : (z : ℕ) (a b : List ℕ) → IsPermutation a b → serves a z ≡ true → serves b z ≡ true
same_serve z a b p h = sym (list_any-IsPermutation (λ room. room == z) a b p) ∙ h
