-- Bytes that are fed piece by piece tell their finds in order, each in the call whose bytes make it known. The kept
-- bytes stand for all bytes before them, so a call finds in them and the new piece what stands next in the whole
-- stream; and nothing that comes later changes it.
use Rattle.std.proofs.Common.{◌≡◌, ◌∙◌, sym, ap, refl, subst, ℕ, suc, zero, ◌+◌, ◌-◌, ◌%◌, ◌<◌, ◌≤◌, inl, inr, List, [], ◌∷◌, ◌++◌, length, take, drop, map, replicate, arith, append_assoc, length-append, length-drop}
use Rattle.std.specs.Prelude.{◌⊎◌, ◌↔◌, Bool, true, false, nat_le, cond}
use Rattle.std.specs.List.{All}
use Rattle.std.specs.declared.option.Option.{Option}
use Rattle.std.specs.declared.option.Option.TheVariants.{Some, None}
use Rattle.std.proofs.lemmas.Bool.{cond-true, cond-false}
use Rattle.std.proofs.lemmas.Bool.Decides.{nat_tests}
use Rattle.std.proofs.lemmas.List.{take_all, take-append-drop, drop-append-le, length-take-le, drop-drop}
use Rattle.std.proofs.Math.Seq.{take-append-add}
use Rattle.std.proofs.lemmas.List.Elements.{All-nil, All-cons, All-head, All-tail, All-drop}
use Rattle.vc_base.specs.declared.Stamp.{Stamp}
use Rattle.vc_defs.specs.Places.{Frame, OpenFrame, places}
use Rattle.vc_defs.specs.Finds.{Find, Head, Ended, position_of, known_at, finds_in, finds, moved_find, KeptBytes, stamp_in, kept_with, kept_before, FedStep, fed_by, told_of_tail, fed}
use Rattle.vc_defs.specs.Laws.{kept_at, IsEndAt, IsTold, TellsFind, told_after, Feeding}
use Rattle.vc_defs.proofs.DecodedIsPicture.{all_weaker}
use Rattle.vc_defs.proofs.FindsInOrder.{InOrder, in_order, AllAfter, order_after, finds_stay}
use Rattle.vc_defs.proofs.ResultsInOrder.{all_inside}
use Rattle.vc_defs.proofs.KeptBytesSuffice.{known_moved, position_moved, Point, point_of, Pending, late_there, first_find, finds_here, kept_is, IsStamped, Reach, reach_of, top_short, stamps_with, stamps_alone, stamp_is, kept_again}

-- what can come behind a header
abbrev pub AfterHead : ℕ → List Find → Type 0
AfterHead position [] = Unit {0}
AfterHead position (Head p h ∷ fs) = ⊥
AfterHead position (Ended f ∷ fs) = position + 44 ≤ f.known

-- a header's frame comes right behind it, and all else is known later than a frame in front of it
abbrev pub Neat : List Find → Type 0
Neat [] = Unit {0}
Neat (Head position h ∷ fs) = AfterHead position fs × Neat fs
Neat (Ended f ∷ fs) = AllAfter f.known fs × (f.position + 44 ≤ f.known) × Neat fs

neat_of : (m : ℕ) (fs : List Frame) (u : Option OpenFrame) → InOrder m fs u → Neat (finds_in fs u)
neat_of m [] None o = tt
neat_of m [] (Some f) o = (tt, tt)
neat_of m (f ∷ fs) u o = (o.1, (order_after f.known f.known fs u o.2 (omega arith), o.1, neat_of f.known fs u o.2))

pub neat_drop : (n : ℕ) (fs : List Find) → Neat fs → Neat (drop n fs)
neat_drop zero fs h = h
neat_drop (suc n) [] h = tt
neat_drop (suc n) (Head position g ∷ fs) h = neat_drop n fs h.1
neat_drop (suc n) (Ended f ∷ fs) h = neat_drop n fs h.2

pub all_neat : (limit : ℕ) (xs : List ℕ) → Neat (finds xs limit)
unfolding finds places
all_neat limit xs = neat_of 0 (places xs limit).frames (places xs limit).unfinished (in_order (length xs + 1) limit 0 xs 0 (λ at e. omega arith))

pub neat_known : (f : Find) (fs : List Find) → Neat (f ∷ fs) → position_of f + 44 ≤ known_at f
neat_known (Head position h) fs n = omega arith
neat_known (Ended f) fs n = n.1

-- what is known with a find and comes behind it is the end of its frame
rest_ends : (f : Find) (fs : List Find) → Neat (f ∷ fs) → All (λ g. known_at g ≤ known_at f) fs → All (IsEndAt (known_at f)) fs
rest_ends f [] n a = All-nil (IsEndAt (known_at f))
rest_ends (Head position h) (Head p g ∷ fs) n a = absurd n.0
rest_ends (Head position h) (Ended e ∷ fs) n a =
    let high : e.known ≤ position + 44 = All-head (λ g. known_at g ≤ position + 44) (Ended e) fs a in
    let is : e.known ≡ position + 44 = omega (arith, n.0) in
    All-cons (IsEndAt (position + 44)) (Ended e) fs is (none fs n.1.0 (All-tail (λ g. known_at g ≤ position + 44) (Ended e) fs a))
  where
    none : (fs : List Find) → AllAfter e.known fs → All (λ g. known_at g ≤ position + 44) fs → All (IsEndAt (position + 44)) fs
    none [] b a = All-nil (IsEndAt (position + 44))
    none (g ∷ gs) b a =
        let low : e.known < known_at g = All-head (λ f. e.known < known_at f) g gs b in
        let high : known_at g ≤ position + 44 = All-head (λ g. known_at g ≤ position + 44) g gs a in
        absurd (omega (arith, n.0))
rest_ends (Ended e) (g ∷ fs) n a =
    let low : e.known < known_at g = All-head (λ f. e.known < known_at f) g fs n.0 in
    let high : known_at g ≤ e.known = All-head (λ g. known_at g ≤ e.known) g fs a in
    absurd (omega arith)

-- a find that isn't later than the bytes is one of theirs
pub split_there : (j : ℕ) (fs later : List Find) (f : Find) (rest : List Find) → drop j (fs ++ later) ≡ f ∷ rest → AllAfter (known_at f) later → (here : List Find) × ((drop j fs ≡ f ∷ here) × (rest ≡ here ++ later))
split_there j [] later f rest e a =
    let b = All-drop (λ g. known_at f < known_at g) j later a in
    let c : known_at f < known_at f = All-head (λ g. known_at f < known_at g) f rest (subst (λ (t : List Find). All (λ g. known_at f < known_at g) t) e b) in
    absurd (omega arith)
split_there zero (g ∷ fs) later f rest e a =
    let same : g ≡ f = cc in
    let others : fs ++ later ≡ rest = cc in
    (fs, (ap (λ k. k ∷ fs) same, sym others))
split_there (suc j) (g ∷ fs) later f rest e a = split_there j fs later f rest e a

-- a list that goes on at a place
pub goes_on_at : {A : Type 0} (n : ℕ) (xs : List A) (y : A) (ys : List A) → drop n xs ≡ y ∷ ys → (suc n ≤ length xs) × (drop (suc n) xs ≡ ys)
goes_on_at zero [] y ys e = absurd cc
goes_on_at zero (x ∷ xs) y ys e = (omega arith, cc)
goes_on_at (suc n) [] y ys e = absurd cc
goes_on_at (suc n) (x ∷ xs) y ys e = let r = goes_on_at n xs y ys e in (omega (arith, r.0), r.1)

-- later finds don't change what is kept
kept_without : (limit : ℕ) (xs : List ℕ) (here later : List Find) → AllAfter (length xs) later → kept_before limit xs (here ++ later) ≡ kept_before limit xs here
kept_without limit xs (f ∷ here) later a = refl
kept_without limit xs [] [] a = refl
kept_without limit xs [] (f ∷ later) a =
    let late : length xs < known_at f = All-head (λ g. length xs < known_at g) f later a in
    cond-false (nat_le (known_at f) (length xs)) (drop (position_of f) xs) (places xs limit).tail (grind (arith, nat_tests))

-- what is kept of all bytes, by what is kept from a place on
kept_from : (limit : ℕ) (bytes xs : List ℕ) (at : ℕ) (fs : List Find) → at ≤ length bytes → drop at bytes ≡ xs → (places bytes limit).tail ≡ (places xs limit).tail → kept_before limit bytes (map (moved_find at) fs) ≡ kept_before limit xs fs
kept_from limit bytes xs at [] h is tail = tail
kept_from limit bytes xs at (f ∷ fs) h is tail =
    let long : length xs ≡ length bytes - at = ap length (sym is) ∙ length-drop at bytes in
    by_test (nat_le (known_at f) (length xs)) refl
  where
    by_test : (b : Bool) → nat_le (known_at f) (length xs) ≡ b → kept_before limit bytes (moved_find at f ∷ map (moved_find at) fs) ≡ cond b (drop (position_of f) xs) (places xs limit).tail
    by_test true e =
        let known : known_at f ≤ length xs = grind (arith, nat_tests) in
        let long : length xs ≡ length bytes - at = ap length (sym is) ∙ length-drop at bytes in
        let known' : known_at (moved_find at f) ≤ length bytes = omega (arith, known_moved at f) in
        cond-true (nat_le (known_at (moved_find at f)) (length bytes)) (drop (position_of (moved_find at f)) bytes) (places bytes limit).tail (grind (arith, nat_tests))
        ∙ ap (λ k. drop k bytes) (position_moved at f)
        ∙ sym (drop_further (position_of f))
        ∙ ap (λ t. drop (position_of f) t) is
      where
        drop_further : (n : ℕ) → drop n (drop at bytes) ≡ drop (at + n) bytes
        drop_further n = drop-drop n at bytes
    by_test false e =
        let late : length xs < known_at f = grind (arith, nat_tests) in
        let long : length xs ≡ length bytes - at = ap length (sym is) ∙ length-drop at bytes in
        let late' : length bytes < known_at (moved_find at f) = omega (arith, known_moved at f) in
        cond-false (nat_le (known_at (moved_find at f)) (length bytes)) (drop (position_of (moved_find at f)) bytes) (places bytes limit).tail (grind (arith, nat_tests)) ∙ tail

kept_short : (limit : ℕ) (xs : List ℕ) (fs : List Find) → length (kept_before limit xs fs) ≤ length xs
kept_short limit xs [] = top_short limit xs
kept_short limit xs (f ∷ fs) = by_test (nat_le (known_at f) (length xs))
  where
    by_test : (b : Bool) → length (cond b (drop (position_of f) xs) (places xs limit).tail) ≤ length xs
    by_test true = omega (arith, length-drop (position_of f) xs)
    by_test false = top_short limit xs

-- what is kept behind the kept bytes begins where stamps are kept
kept_reaches : (limit : ℕ) (kept more : List ℕ) (fs : List Find) → Reach limit kept more → All (λ f. IsStamped (length kept) (position_of f)) fs → length kept ≤ length (kept ++ more) →
    (length (kept_before limit (kept ++ more) fs) ≡ length (kept ++ more)) ⊎ (length kept + length (kept_before limit (kept ++ more) fs) ≤ length (kept ++ more) + 43)
kept_reaches limit kept more [] r a h = r.tail
kept_reaches limit kept more (f ∷ fs) r a h = by_test (nat_le (known_at f) (length (kept ++ more))) (All-head (λ f. IsStamped (length kept) (position_of f)) f fs a)
  where
    by_test : (b : Bool) → IsStamped (length kept) (position_of f) →
        (length (cond b (drop (position_of f) (kept ++ more)) (places (kept ++ more) limit).tail) ≡ length (kept ++ more))
        ⊎ (length kept + length (cond b (drop (position_of f) (kept ++ more)) (places (kept ++ more) limit).tail) ≤ length (kept ++ more) + 43)
    by_test true (inl e) = inl (omega (arith, e, length-drop (position_of f) (kept ++ more)))
    by_test true (inr e) = inr (omega (arith, e, length-drop (position_of f) (kept ++ more)))
    by_test false s = r.tail

-- all that wasn't told ends at the last byte
pending_of : (limit : ℕ) (bytes : List ℕ) (told : ℕ) → IsTold bytes limit told → Pending limit bytes told
pending_of limit bytes told t = all_weaker (IsEndAt (length bytes)) (λ f. length bytes ≤ known_at f) (drop told (finds bytes limit)) end_late t.1
  where
    end_late : (f : Find) → IsEndAt (length bytes) f → length bytes ≤ known_at f
    end_late (Head position h) e = absurd e
    end_late (Ended f) e = omega (arith, e)

-- of a kept header it is known that it was told
told_is : (limit : ℕ) (bytes : List ℕ) (told : ℕ) (p : Point limit bytes told) → IsTold bytes limit told → told_of_tail (drop p.at bytes) ≡ p.skipped
told_is limit bytes told p t =
    elim p.here [
      | inl a ↦ let less : length (drop p.at bytes) < 44 = a.1.1 in cond-false (nat_le 44 (length (drop p.at bytes))) 1 0 (grind (arith, nat_tests)) ∙ sym a.0
      | inr b ↦
          elim b [
            | inl a ↦
                let first : drop told (finds bytes limit) ≡ map (moved_find p.at) (Head 0 a.1.0 ∷ drop 1 (finds (drop p.at bytes) limit)) =
                finds_here limit bytes told p ∙ ap (λ k. map (moved_find p.at) (drop k (finds (drop p.at bytes) limit))) a.0 ∙ ap (λ t. map (moved_find p.at) t) (first_find limit (drop p.at bytes) a.1.0 a.1.1) in
                absurd (All-head (IsEndAt (length bytes)) (Head (p.at + 0) a.1.0) (map (moved_find p.at) (drop 1 (finds (drop p.at bytes) limit))) (subst (λ (t : List Find). All (IsEndAt (length bytes)) t) first t.1))
            | inr a ↦ let long : 44 ≤ length (drop p.at bytes) = a.1.heads.1 in cond-true (nat_le 44 (length (drop p.at bytes))) 1 0 (grind (arith, nat_tests)) ∙ sym a.0
          ]
    ]

abbrev one_if : Bool → ℕ
one_if b = cond b 1 0

told_long : (tail : List ℕ) → (44 ≤ length tail) ↔ (told_of_tail tail ≡ 1)
told_long tail = (
  λ h. cond-true (nat_le 44 (length tail)) 1 0 (grind (arith, nat_tests)),
  λ e. by_test (nat_le 44 (length tail)) refl e,
)
  where
    by_test : (b : Bool) → nat_le 44 (length tail) ≡ b → one_if b ≡ 1 → 44 ≤ length tail
    by_test true t e = grind (arith, nat_tests)
    by_test false t e = absurd (omega (arith, e))

-- what the law says of a call
abbrev Right : (limit : ℕ) → List ℕ → List ℕ → List Stamp → Stamp → ℕ → ℕ → FedStep → List Find → Type 0
Right limit bytes more stamps stamp told at step next =
    TellsFind step at bytes more (stamps_with stamps stamp (length more)) next
    × IsTold (bytes ++ take step.moved more) limit (told_after told next)
    × (step.kept ≡ kept_at (bytes ++ take step.moved more) (stamps ++ replicate step.moved stamp) limit (told_after told next))

-- where all was told
right_none :
    (limit : ℕ) (bytes more : List ℕ) (stamps : List Stamp) (stamp : Stamp) (told : ℕ) (p : Point limit bytes told) → length stamps ≡ length bytes
    → told ≤ length (finds bytes limit) → Pending limit bytes told → drop told (finds (bytes ++ more) limit) ≡ [] →
    Right limit bytes more stamps stamp told p.at (fed_by (kept_with (drop p.at bytes) (length bytes) (stamps_alone stamps)) limit (drop p.at bytes ++ more) stamp []) []
right_none limit bytes more stamps stamp told p long h w none =
    let old : KeptBytes = kept_with (drop p.at bytes) (length bytes) (stamps_alone stamps) in
    let moved : length (drop p.at bytes ++ more) - length (drop p.at bytes) ≡ length more = omega (arith, length-append (drop p.at bytes) more) in
    let whole : take (length more) more ≡ more = take_all (length more) more (omega arith) in
    let enough : told ≤ length (finds (bytes ++ more) limit) = let s = finds_stay limit bytes more in omega (arith, ap length s.1.0, length-append (finds bytes limit) s.0, h) in
    let reach = reach_of limit bytes told more p h w in
    let tail : List ℕ = (places (drop p.at bytes ++ more) limit).tail in
    let end : length (drop p.at bytes ++ more) ≡ length (drop p.at bytes) + length more = length-append (drop p.at bytes) more in
    let same : p.at + length (drop p.at bytes ++ more) ≡ length (bytes ++ more) = omega (arith, end, length-append bytes more, length-drop p.at bytes, p.inside) in
    let long' : length stamps ≡ p.at + length (drop p.at bytes) = omega (arith, long, length-drop p.at bytes, p.inside) in
    let kept : kept_with tail (length (drop p.at bytes ++ more)) (stamp_in old stamp) ≡ kept_at (bytes ++ more) (stamps ++ replicate (length more) stamp) limit told =
    ap (λ n. kept_with tail (length (drop p.at bytes ++ more)) (stamp_in (kept_with (drop p.at bytes) n (stamps_alone stamps)) stamp)) (sym long)
    ∙ kept_again stamps stamp (drop p.at bytes) p.at (length more) (length (drop p.at bytes ++ more)) tail long' (top_short limit (drop p.at bytes ++ more)) (omega (arith, end)) (omega (arith, end)) reach.tail
    ∙ ap (λ n. kept_with tail n (stamps_with stamps stamp (length more))) same
    ∙ ap (λ t. kept_with t (length (bytes ++ more)) (stamps_with stamps stamp (length more))) (sym (p.tail_on more))
    ∙ ap (λ fs. kept_with (kept_before limit (bytes ++ more) fs) (length (bytes ++ more)) (stamps_with stamps stamp (length more))) (sym none) in
    subst (λ (n : ℕ). Right limit bytes more stamps stamp told p.at (record { told = None; stamp = stamp; moved = n; kept = kept_with tail (length (drop p.at bytes ++ more)) (stamp_in old stamp) }) [])
    (sym moved)
    (subst (λ (t : List ℕ). TellsFind (record { told = None; stamp = stamp; moved = length more; kept = kept_with tail (length (drop p.at bytes ++ more)) (stamp_in old stamp) }) p.at bytes more (stamps_with stamps stamp (length more)) []
    × IsTold (bytes ++ t) limit told
    × (kept_with tail (length (drop p.at bytes ++ more)) (stamp_in old stamp) ≡ kept_at (bytes ++ t) (stamps ++ replicate (length more) stamp) limit told))
    (sym whole)
    ((refl, refl), (enough, subst (λ (t : List Find). All (IsEndAt (length (bytes ++ more))) t) (sym none) (All-nil (IsEndAt (length (bytes ++ more))))), kept))

-- where a find is told
right_some :
    (limit : ℕ) (bytes more : List ℕ) (stamps : List Stamp) (stamp : Stamp) (told : ℕ) (p : Point limit bytes told) (f : Find) (later : List Find)
    → length stamps ≡ length bytes → told ≤ length (finds bytes limit) → Pending limit bytes told →
    drop p.skipped (finds (drop p.at bytes ++ more) limit) ≡ f ∷ later →
    Right limit bytes more stamps stamp told p.at (fed_by (kept_with (drop p.at bytes) (length bytes) (stamps_alone stamps)) limit (drop p.at bytes ++ more) stamp (f ∷ later)) (map (moved_find p.at) (f ∷ later))
right_some limit bytes more stamps stamp told p f later long h w is =
    subst (λ (fs : List Find).
    Right limit bytes more stamps stamp told p.at
    (record { told = Some f; stamp = stamp_in old stamp (position_of f); moved = n; kept = kept_with (kept_before limit (take (known_at f) xs) later) (known_at f) (stamp_in old stamp) })
    (moved_find p.at f ∷ map (moved_find p.at) fs))
    (sym split.1.1)
    ((refl, stamp_right, moved_right), (next.0, ends), kept_right)
  where
    tail : List ℕ
    tail = drop p.at bytes

    old : KeptBytes
    old = kept_with tail (length bytes) (stamps_alone stamps)

    xs : List ℕ
    xs = tail ++ more

    tail_long : length tail ≡ length bytes - p.at
    tail_long = length-drop p.at bytes

    late : length tail ≤ known_at f
    late = All-head (λ g. length tail ≤ known_at g) f later (subst (λ (t : List Find). All (λ g. length tail ≤ known_at g) t) is (late_there limit bytes told more p h w))

    soon : known_at f ≤ length xs
    soon = All-head (λ g. known_at g ≤ length xs) f later (subst (λ (t : List Find). All (λ g. known_at g ≤ length xs) t) is (All-drop (λ g. known_at g ≤ length xs) p.skipped (finds xs limit) (all_inside limit xs)))

    n : ℕ
    n = known_at f - length tail

    here : List ℕ
    here = take n more

    ys : List ℕ
    ys = tail ++ here

    room : n ≤ length more
    room = omega (arith, soon, late, length-append tail more)

    here_long : length here ≡ n
    here_long = length-take-le n more room

    ys_long : length ys ≡ known_at f
    ys_long = length-append tail here ∙ omega (arith, here_long, late)

    front : take (known_at f) xs ≡ ys
    front = let e : known_at f ≡ length tail + n = omega (arith, late) in ap (λ k. take k xs) e ∙ take-append-add tail more n

    whole : xs ≡ ys ++ drop n more
    whole = ap (λ t. tail ++ t) (sym (take-append-drop n more)) ∙ sym (append_assoc tail here (drop n more))

    stay : (later : List Find) × ((finds (ys ++ drop n more) limit ≡ finds ys limit ++ later) × AllAfter (length ys) later)
    stay = finds_stay limit ys (drop n more)

    split : (here : List Find) × ((drop p.skipped (finds ys limit) ≡ f ∷ here) × (later ≡ here ++ stay.0))
    split =
        split_there p.skipped (finds ys limit) stay.0 f later (ap (λ t. drop p.skipped t) (sym stay.1.0) ∙ ap (λ t. drop p.skipped (finds t limit)) (sym whole) ∙ is)
        (all_weaker (λ g. length ys < known_at g) (λ g. known_at f < known_at g) stay.0 (λ g k. omega (arith, k, ys_long)) stay.1.1)

    -- what was told of the bytes taken
    all_taken : drop told (finds (bytes ++ here) limit) ≡ moved_find p.at f ∷ map (moved_find p.at) split.0
    all_taken = p.finds_on here ∙ ap (λ t. map (moved_find p.at) t) split.1.0

    next : (suc told ≤ length (finds (bytes ++ here) limit)) × (drop (suc told) (finds (bytes ++ here) limit) ≡ map (moved_find p.at) split.0)
    next = goes_on_at told (finds (bytes ++ here) limit) (moved_find p.at f) (map (moved_find p.at) split.0) all_taken

    taken_long : length (bytes ++ here) ≡ p.at + known_at f
    taken_long = omega (arith, length-append bytes here, here_long, late, tail_long, p.inside)

    few : All (λ g. known_at g ≤ length ys) (f ∷ split.0)
    few = subst (λ (t : List Find). All (λ g. known_at g ≤ length ys) t) split.1.0 (All-drop (λ g. known_at g ≤ length ys) p.skipped (finds ys limit) (all_inside limit ys))

    neat : Neat (f ∷ split.0)
    neat = subst (λ (t : List Find). Neat t) split.1.0 (neat_drop p.skipped (finds ys limit) (all_neat limit ys))

    ends_there : All (IsEndAt (known_at f)) split.0
    ends_there =
        rest_ends f split.0 neat (all_weaker (λ g. known_at g ≤ length ys) (λ g. known_at g ≤ known_at f) split.0 (λ g k. omega (arith, k, ys_long)) (All-tail (λ g. known_at g ≤ length ys) f split.0 few))

    ends_moved : (gs : List Find) → All (IsEndAt (known_at f)) gs → All (IsEndAt (length (bytes ++ here))) (map (moved_find p.at) gs)
    ends_moved [] a = All-nil (IsEndAt (length (bytes ++ here)))
    ends_moved (Head position g ∷ gs) a = absurd (All-head (IsEndAt (known_at f)) (Head position g) gs a)
    ends_moved (Ended e ∷ gs) a =
        let k : e.known ≡ known_at f = All-head (IsEndAt (known_at f)) (Ended e) gs a in
        All-cons (IsEndAt (length (bytes ++ here))) (moved_find p.at (Ended e)) (map (moved_find p.at) gs) (omega (arith, k, taken_long)) (ends_moved gs (All-tail (IsEndAt (known_at f)) (Ended e) gs a))

    ends : All (IsEndAt (length (bytes ++ here))) (drop (suc told) (finds (bytes ++ here) limit))
    ends = subst (λ (t : List Find). All (IsEndAt (length (bytes ++ here))) t) (sym next.1) (ends_moved split.0 ends_there)

    reach : Reach limit tail here
    reach = reach_of limit bytes told here p h w

    stamps_long : length stamps ≡ p.at + length tail
    stamps_long = omega (arith, long, tail_long, p.inside)

    new : List ℕ
    new = kept_before limit ys split.0

    stamped : All (λ g. IsStamped (length tail) (position_of g)) (f ∷ split.0)
    stamped = subst (λ (t : List Find). All (λ g. IsStamped (length tail) (position_of g)) t) split.1.0 (All-drop (λ g. IsStamped (length tail) (position_of g)) p.skipped (finds ys limit) reach.positions)

    position_inside : position_of f < length tail + length more
    position_inside = let k : position_of f + 44 ≤ known_at f = neat_known f split.0 neat in omega (arith, k, soon, length-append tail more)

    stamp_right : stamp_in old stamp (position_of f) ≡ stamps_with stamps stamp (length more) (position_of (moved_find p.at f))
    stamp_right =
        ap (λ k. stamp_in (kept_with tail k (stamps_alone stamps)) stamp (position_of f)) (sym long)
        ∙ stamp_is stamps stamp tail p.at (length more) (position_of f) stamps_long (All-head (λ g. IsStamped (length tail) (position_of g)) f split.0 stamped) position_inside
        ∙ ap (stamps_with stamps stamp (length more)) (sym (position_moved p.at f))

    moved_right : length bytes + n ≡ known_at (moved_find p.at f)
    moved_right = omega (arith, known_moved p.at f, late, tail_long, p.inside)

    new_is : kept_before limit (take (known_at f) xs) later ≡ new
    new_is = ap (λ t. kept_before limit t later) front ∙ ap (λ t. kept_before limit ys t) split.1.1 ∙ kept_without limit ys split.0 stay.0 stay.1.1

    taken_from : drop p.at (bytes ++ here) ≡ ys
    taken_from = drop-append-le p.at bytes here p.inside

    new_again : kept_before limit (bytes ++ here) (drop (suc told) (finds (bytes ++ here) limit)) ≡ new
    new_again =
        ap (λ t. kept_before limit (bytes ++ here) t) next.1
        ∙ kept_from limit (bytes ++ here) ys p.at split.0 (omega (arith, p.inside, length-append bytes here)) taken_from (p.tail_on here)

    new_reach : (length new ≡ known_at f) ⊎ (length tail + length new ≤ known_at f + 43)
    new_reach =
        elim (kept_reaches limit tail here split.0 reach (All-tail (λ g. IsStamped (length tail) (position_of g)) f split.0 stamped) (omega (arith, length-append tail here))) [
          | inl e ↦ inl (e ∙ ys_long)
          | inr e ↦ inr (omega (arith, e, ys_long))
        ]

    kept_right : kept_with (kept_before limit (take (known_at f) xs) later) (known_at f) (stamp_in old stamp) ≡ kept_at (bytes ++ here) (stamps ++ replicate n stamp) limit (suc told)
    kept_right =
        ap (λ t. kept_with t (known_at f) (stamp_in old stamp)) new_is
        ∙ ap (λ k. kept_with new (known_at f) (stamp_in (kept_with tail k (stamps_alone stamps)) stamp)) (sym long)
        ∙ kept_again stamps stamp tail p.at n (known_at f) new stamps_long (omega (arith, kept_short limit ys split.0, ys_long)) late (omega (arith, late)) new_reach
        ∙ ap (λ k. kept_with new k (stamps_with stamps stamp n)) (sym taken_long)
        ∙ ap (λ t. kept_with t (length (bytes ++ here)) (stamps_with stamps stamp n)) (sym new_again)

-- a call tells what comes next, whatever that is
right_call : (limit : ℕ) (bytes more : List ℕ) (stamps : List Stamp) (stamp : Stamp) (told : ℕ) (p : Point limit bytes told) → length stamps ≡ length bytes → told ≤ length (finds bytes limit) → Pending limit bytes told →
    Right limit bytes more stamps stamp told p.at
    (fed_by (kept_with (drop p.at bytes) (length bytes) (stamps_alone stamps)) limit (drop p.at bytes ++ more) stamp (drop p.skipped (finds (drop p.at bytes ++ more) limit)))
    (drop told (finds (bytes ++ more) limit))
right_call limit bytes more stamps stamp told p long h w = by_next (drop p.skipped (finds (drop p.at bytes ++ more) limit)) refl
  where
    by_next : (fs : List Find) → drop p.skipped (finds (drop p.at bytes ++ more) limit) ≡ fs →
        Right limit bytes more stamps stamp told p.at (fed_by (kept_with (drop p.at bytes) (length bytes) (stamps_alone stamps)) limit (drop p.at bytes ++ more) stamp fs) (drop told (finds (bytes ++ more) limit))
    by_next [] e =
        let none : drop told (finds (bytes ++ more) limit) ≡ [] = p.finds_on more ∙ ap (λ t. map (moved_find p.at) t) e in
        subst
        (λ (t : List Find). Right limit bytes more stamps stamp told p.at (fed_by (kept_with (drop p.at bytes) (length bytes) (stamps_alone stamps)) limit (drop p.at bytes ++ more) stamp []) t)
        (sym none) (right_none limit bytes more stamps stamp told p long h w none)
    by_next (f ∷ later) e =
        let some : drop told (finds (bytes ++ more) limit) ≡ map (moved_find p.at) (f ∷ later) = p.finds_on more ∙ ap (λ t. map (moved_find p.at) t) e in
        subst (λ (t : List Find).
        Right limit bytes more stamps stamp told p.at (fed_by (kept_with (drop p.at bytes) (length bytes) (stamps_alone stamps)) limit (drop p.at bytes ++ more) stamp (f ∷ later)) t)
        (sym some) (right_some limit bytes more stamps stamp told p f later long h w e)

pub feeding : Feeding
unfolding fed
feeding limit bytes more stamps stamp told long t =
    let p = point_of limit bytes told t.0 in
    let w = pending_of limit bytes told t in
    let at : length bytes - length (drop p.at bytes) ≡ p.at = omega (arith, length-drop p.at bytes, p.inside) in
    let call = right_call limit bytes more stamps stamp told p long t.0 w in
    let skipped : told_of_tail (drop p.at bytes) ≡ p.skipped = told_is limit bytes told p t in
    let call' =
    subst (λ (k : ℕ).
    Right limit bytes more stamps stamp told p.at
    (fed_by (kept_with (drop p.at bytes) (length bytes) (stamps_alone stamps)) limit (drop p.at bytes ++ more) stamp (drop k (finds (drop p.at bytes ++ more) limit)))
    (drop told (finds (bytes ++ more) limit)))
    (sym skipped) call in
    let call'' =
    subst (λ (k : ℕ).
    Right limit bytes more stamps stamp told k
    (fed_by (kept_with (drop p.at bytes) (length bytes) (stamps_alone stamps)) limit (drop p.at bytes ++ more) stamp (drop (told_of_tail (drop p.at bytes)) (finds (drop p.at bytes ++ more) limit)))
    (drop told (finds (bytes ++ more) limit)))
    (sym at) call' in
    let both : (44 ≤ length (drop p.at bytes)) ↔ (told % 2 ≡ 1) = (
      λ h. p.parity ∙ sym skipped ∙ (told_long (drop p.at bytes)).0 h,
      λ e. (told_long (drop p.at bytes)).1 (skipped ∙ sym p.parity ∙ e),
    ) in
    let all = subst (λ (t : List ℕ).
    ((44 ≤ length t) ↔ (told % 2 ≡ 1))
    × Right limit bytes more stamps stamp told (length bytes - length t)
    (fed_by (kept_with t (length bytes) (stamps_alone stamps)) limit (t ++ more) stamp (drop (told_of_tail t) (finds (t ++ more) limit)))
    (drop told (finds (bytes ++ more) limit)))
    (sym (kept_is limit bytes told p))
    (both, call'') in
    (all.0, all.1.0, all.1.1, all.1.2)
