-- A whole ring goes to the end of another.
use Rattle.std.proofs.Common.{ℕ, ◌+◌, ◌≡◌, ◌≢◌, ◌<◌, ◌≤◌, None, List, [], ◌∷◌, ◌++◌, length, get_or, set, refl, sym, ap, ◌∙◌, subst, ⊎_elim, arith, get_or-set_same, get_or-set_other, length-set}
use Rattle.std.proofs.lemmas.Bool.{cases_eq}
use Rattle.std.proofs.lemmas.List.{set-get_or, append-nil}
use Rattle.vc_links.specs.Lists.{list_at, first}
use Rattle.vc_links.specs.Rings.{Path, AreRings}
use Rattle.vc_links.proofs.RingLemmas.{Misses, next_frame, prev_frame, next_free, prev_free, misses_head, last_next, first_prev, rings_set, head_cell, misses_other, first_none}

-- a path ends at another node
ends_at : (next prev : List ℕ) (u : ℕ) (xs : List ℕ) (v w : ℕ) → length next ≡ 36 → length prev ≡ 36 → 32 ≤ v → u < 36 → w < 36 → Misses w xs → Path next prev u xs v → Path (set next (get_or prev v 0) w) (set prev w (get_or prev v 0)) u xs w
unfolding Path Misses
ends_at next prev u [] v w ln lp hv hu hw m p =
    let t = get_or prev v 0 in
    let tu : t ≡ u = p.1 in
    (rw tu (get_or-set_same next u w 0 (omega arith)), get_or-set_same prev w t 0 (omega arith) ∙ tu)
ends_at next prev u (x ∷ xs) v w ln lp hv hu hw m p =
    let t = get_or prev v 0 in
    let back : get_or next t 0 ≡ v = last_next next prev x xs v p.1.1.1 in
    let low : x < 32 = p.1.1.0 in
    let nt : u ≢ t = λ e. let z : x ≡ v = sym p.0 ∙ (ap (λ j. get_or next j 0) e ∙ back) in omega arith in (
      rw (get_or-set_other next t u w 0 nt) p.0,
      (
        rw (get_or-set_other prev w x t 0 m.0) p.1.0,
        (low, ends_at next prev x xs v w ln lp hv (omega arith) hw m.1 p.1.1.1),
      ),
    )

-- one path after another
joined : (next prev : List ℕ) (u : ℕ) (ys : List ℕ) (cell : ℕ) (xs : List ℕ) (v : ℕ) → cell < 32 → Path next prev u ys cell → Path next prev cell xs v → Path next prev u (ys ++ cell ∷ xs) v
unfolding Path
joined next prev u [] cell xs v low p q = (p.0, (p.1, (low, q)))
joined next prev u (y ∷ ys) cell xs v low p q =
    (p.0, (p.1.0, (p.1.1.0, joined next prev y ys cell xs v low p.1.1.1 q)))

-- The ring of the head s, which begins with f and ends with `end`, goes behind `last`, the end of the ring
-- of the head t.
module _ (next prev : List ℕ) (s t f end last : ℕ) (hs : 32 ≤ s) (hs' : s < 36) (ht : 32 ≤ t) (ht' : t < 36) (apart : s ≢ t) (low : f < 32) (ln : length next ≡ 36) (lp : length prev ≡ 36) (fs : get_or prev f 0 ≡ s) (es : get_or next end 0 ≡ s) (ls : get_or next last 0 ≡ t) where
  new_end : get_or (set next last f) end 0 ≡ s
  new_end =
      get_or-set_other next last end f 0 (λ (e : end ≡ last). apart (sym es ∙ (ap (λ j. get_or next j 0) e ∙ ls))) ∙ es

  -- a path of another ring stays
  beside : (u : ℕ) → 32 ≤ u → u ≢ s → u ≢ t → (zs : List ℕ) → Path next prev u zs u → Path (set (set (set next last f) end t) s s) (set (set (set prev f last) t end) s s) u zs u
  beside u hu us ut zs p =
      let ms = misses_head next prev u zs u s hs p in
      let mt = misses_head next prev u zs u t ht p in
      let a = next_frame next prev u zs u last f (rw ls mt) (rw ls (λ (e : u ≡ t). ut e)) p in
      let b = prev_frame (set next last f) prev u zs u f last (rw fs (λ (e : u ≡ s). us e)) (rw fs ms) a in
      let c = next_frame (set next last f) (set prev f last) u zs u end t (rw new_end ms) (rw new_end (λ (e : u ≡ s). us e)) b in
      let d = prev_free (set (set next last f) end t) (set prev f last) u zs u t end ut mt c in
      let g = next_free (set (set next last f) end t) (set (set prev f last) t end) u zs u s s us ms d in
      prev_free (set (set (set next last f) end t) s s) (set (set prev f last) t end) u zs u s s us ms g

  -- the ring that was emptied
  emptied : Path (set (set (set next last f) end t) s s) (set (set (set prev f last) t end) s s) s [] s
  unfolding Path
  emptied = (
    get_or-set_same (set (set next last f) end t) s s 0 (omega (arith, length-set (set next last f) end t, length-set next last f)),
    get_or-set_same (set (set prev f last) t end) s s 0 (omega (arith, length-set (set prev f last) t end, length-set prev f last)),
  )

  -- the cells behind f, which lead to t now
  moved_tail : (xs : List ℕ) → get_or prev s 0 ≡ end → Path next prev f xs s → Path (set (set next last f) end t) (set (set prev f last) t end) f xs t
  moved_tail xs ee q =
      let ms = misses_head next prev f xs s s hs q in
      let mt = misses_head next prev f xs s t ht q in
      let a = next_frame next prev f xs s last f (rw ls mt) (rw ls (λ (e : s ≡ t). apart e)) q in
      let b = prev_frame (set next last f) prev f xs s f last (rw fs (λ (e : f ≡ s). omega arith)) (rw fs ms) a in
      let back : get_or (set prev f last) s 0 ≡ end = get_or-set_other prev f s last 0 (λ (e : s ≡ f). omega arith) ∙ ee in
      let d = ends_at (set next last f) (set prev f last) f xs s t (length-set next last f ∙ ln) (length-set prev f last ∙ lp) hs (omega arith) ht' mt b in
      subst (λ g. Path (set (set next last f) g t) (set (set prev f last) t g) f xs t) back d

  -- the cells of the other ring, which lead to f now
  moved_front : (ys : List ℕ) → get_or prev t 0 ≡ last → Misses f ys → Path next prev t ys t → Path (set (set next last f) end t) (set (set prev f last) t end) t ys f
  moved_front ys le mf p =
      let ms = misses_head next prev t ys t s hs p in
      let mt = misses_head next prev t ys t t ht p in
      let a = subst (λ g. Path (set next g f) (set prev f g) t ys f) le (ends_at next prev t ys t f ln lp ht ht' (omega arith) mf p) in
      let b = next_frame (set next last f) (set prev f last) t ys f end t (rw new_end ms) (rw new_end (λ (e : f ≡ s). omega arith)) a in
      prev_free (set (set next last f) end t) (set prev f last) t ys f t end (λ (e : f ≡ t). omega arith) mt b

  -- the ring that has all cells now
  filled : (ys xs : List ℕ) → get_or prev s 0 ≡ end → get_or prev t 0 ≡ last → Misses f ys → Path next prev t ys t → Path next prev f xs s → Path (set (set (set next last f) end t) s s) (set (set (set prev f last) t end) s s) t (ys ++ f ∷ xs) t
  filled ys xs ee le mf p q =
      let whole = joined (set (set next last f) end t) (set (set prev f last) t end) t ys f xs t low (moved_front ys le mf p) (moved_tail xs ee q) in
      let ms = misses_head (set (set next last f) end t) (set (set prev f last) t end) t (ys ++ f ∷ xs) t s hs whole in
      let a = next_free (set (set next last f) end t) (set (set prev f last) t end) t (ys ++ f ∷ xs) t s s (λ (e : t ≡ s). apart (sym e)) ms whole in
      prev_free (set (set (set next last f) end t) s s) (set (set prev f last) t end) t (ys ++ f ∷ xs) t s s (λ (e : t ≡ s). apart (sym e)) ms a

-- a ring with a first cell
first_cell : (next prev : List ℕ) (s : ℕ) (xs : List ℕ) → 32 ≤ s → get_or next s 0 < 32 → Path next prev s xs s → (rest : List ℕ) × (xs ≡ get_or next s 0 ∷ rest) × Path next prev (get_or next s 0) rest s
unfolding Path
first_cell next prev s [] hs h p = let e : get_or next s 0 ≡ s = p.0 in absurd (omega arith)
first_cell next prev s (x ∷ xs) hs h p = (xs, ap (λ c. c ∷ xs) (sym p.0), rw p.0 p.1.1.1)

pub spliced : (next prev : List ℕ) (lists : List (List ℕ)) (from to : ℕ) → length next ≡ 36 → length prev ≡ 36 → from < 4 → to < 4 → from ≢ to → get_or next (32 + from) 0 < 32 → AreRings next prev lists
    → AreRings (set (set (set next (get_or prev (32 + to) 0) (get_or next (32 + from) 0)) (get_or prev (32 + from) 0) (32 + to)) (32 + from) (32 + from))
    (set (set (set prev (get_or next (32 + from) 0) (get_or prev (32 + to) 0)) (32 + to) (get_or prev (32 + from) 0)) (32 + from) (32 + from))
    (set (set lists to (list_at lists to ++ list_at lists from)) from [])
spliced next prev lists from to ln lp hf ht apart low r =
    let s = 32 + from in
    let t = 32 + to in
    let f = get_or next s 0 in
    let end = get_or prev s 0 in
    let last = get_or prev t 0 in
    let pf = r.ring from hf in
    let pt = r.ring to ht in
    let away : s ≢ t = λ (e : s ≡ t). apart (omega arith) in
    let fs = first_prev next prev s (list_at lists from) s pf in
    let es = last_next next prev s (list_at lists from) s pf in
    let ls = last_next next prev t (list_at lists to) t pt in
    let cut = first_cell next prev s (list_at lists from) (omega arith) low pf in
    let head = head_cell next prev s (list_at lists from) (omega arith) pf low in
    let mf = misses_other next prev lists from 0 f r hf head.0 head.1 to ht (λ (e : to ≡ from). apart (sym e)) in
    let new_lists = set lists to (list_at lists to ++ list_at lists from) in
    let full = filled next prev s t f end last (omega arith) (omega arith) (omega arith) (omega arith) away low ln lp fs es ls (list_at lists to) cut.0 refl refl mf pt cut.2 in
    let new_next = set (set (set next last f) end t) s s in
    let new_prev = set (set (set prev f last) t end) s s in
    rings_set new_next new_prev new_lists from [] (length-set lists to (list_at lists to ++ list_at lists from) ∙ r.four) hf
    (emptied next prev s t f end last (omega arith) (omega arith) (omega arith) (omega arith) away low ln lp fs es ls)
    (λ m hm n.
    ⊎_elim (λ (e : m ≡ to). rw e
    (rw (get_or-set_same lists to (list_at lists to ++ list_at lists from) [] (omega (arith, r.four))) (subst (λ l. Path new_next new_prev t (list_at lists to ++ l) t) (sym cut.1) full)))
    (λ (d : m ≡ to → ⊥). rw (get_or-set_other lists to m (list_at lists to ++ list_at lists from) [] d)
    (beside next prev s t f end last (omega arith) (omega arith) (omega arith) (omega arith) away low ln lp fs es ls (32 + m) (omega arith) (λ (e : 32 + m ≡ s). n (omega arith)) (λ (e : 32 + m ≡ t). d (omega arith)) (list_at lists m) (r.ring m hm)))
    (cases_eq m to))

-- an empty list adds nothing
pub none_moved : (next prev : List ℕ) (lists : List (List ℕ)) (from to : ℕ) → from < 4 → AreRings next prev lists → 32 ≤ get_or next (32 + from) 0 → lists ≡ set (set lists to (list_at lists to ++ list_at lists from)) from []
none_moved next prev lists from to hf r h =
    let none = is_nil (list_at lists from) (first_none next prev (32 + from) (list_at lists from) (32 + from) (r.ring from hf) h) in
    sym (ap (λ l. set (set lists to (list_at lists to ++ l)) from []) none
    ∙ (ap (λ l. set (set lists to l) from []) (append-nil (list_at lists to))
    ∙ (ap (λ l. set l from []) (set-get_or lists to [])
    ∙ (ap (λ l. set lists from l) (sym none) ∙ set-get_or lists from []))))
  where
    is_nil : (xs : List ℕ) → None ≡ first xs → xs ≡ []
    is_nil [] e = refl
    is_nil (x ∷ xs) e = cc
