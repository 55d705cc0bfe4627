-- Frames one behind the other cover bytes up to a place, and not the byte there. Each begins where the one before ends, or
-- before; a byte behind a gap lies in none, since later frames begin later.
use Rattle.std.proofs.Common.{◌≡◌, ◌∙◌, ap, refl, ℕ, suc, ◌+◌, ◌<◌, ◌≤◌, inl, inr, List, [], ◌∷◌, get_or, arith}
use Rattle.std.specs.Prelude.{◌⊎◌, Bool, true, false, ◌&&◌, ◌||◌, not, nat_le, nat_lt, cond}
use Rattle.std.specs.List.{list_any, range_with_len}
use Rattle.std.proofs.lemmas.Bool.{cond-true, cond-false}
use Rattle.std.proofs.lemmas.Bool.Decides.{nat_tests}
use Rattle.std.proofs.lemmas.List.FromFn.{length-range_with_len, get_or-range_with_len}
use Rattle.std.proofs.lemmas.List.Folds.{list_any_none, list_any_at}
use Rattle.vc_defs.specs.Places.{Frame, is_claimed}
use Rattle.vc_coverage.specs.Reaching.{covered_behind}

-- Frames begin at or behind a place, each behind the one in front of it, and so do their ends.
abbrev pub InChain : ℕ → ℕ → List Frame → Type 0
InChain least end [] = Unit {0}
InChain least end (f ∷ fs) = (least ≤ f.position) × (end ≤ f.end) × InChain (suc f.position) f.end fs

-- so many of the first bytes are covered behind these frames
abbrev pub covered_by : ℕ → List Frame → ℕ
covered_by c [] = c
covered_by c (f ∷ fs) = covered_by (covered_behind c f.position f.end) fs

-- a frame that begins in the covered bytes
touching : (c begins end : ℕ) → begins ≤ c → covered_behind c begins end ≡ end
touching c begins end h = cond-true (nat_le begins c) end c (grind (arith, nat_tests))

-- a frame that begins behind them
beyond : (c begins end : ℕ) → c < begins → covered_behind c begins end ≡ c
beyond c begins end h = cond-false (nat_le begins c) end c (grind (arith, nat_tests))

-- frames behind a gap cover nothing more
stays : (c least end : ℕ) (fs : List Frame) → InChain least end fs → c < least → covered_by c fs ≡ c
stays c least end [] h lt = refl
stays c least end (f ∷ fs) h lt =
    let far : c < f.position = omega (arith, h.0) in
    ap (λ n. covered_by n fs) (beyond c f.position f.end far) ∙ stays c (suc f.position) f.end fs h.2 (omega arith)

-- no frame takes covered bytes back
grows : (c least end : ℕ) (fs : List Frame) → InChain least end fs → c ≤ end → c ≤ covered_by c fs
grows c least end [] h le = omega arith
grows c least end (f ∷ fs) h le = by_test (nat_le f.position c) (grows f.end (suc f.position) f.end fs h.2 (omega arith)) (grows c (suc f.position) f.end fs h.2 (omega (arith, h.1)))
  where
    by_test : (b : Bool) → f.end ≤ covered_by f.end fs → c ≤ covered_by c fs → c ≤ covered_by (cond b f.end c) fs
    by_test true near far = omega (arith, h.1)
    by_test false near far = far

both_false : (a b c : Bool) → (a ≡ false) ⊎ (b ≡ false) → c ≡ false → ((a && b) || c) ≡ false
both_false a b c h e = grind arith

-- the byte behind the covered ones is in no frame
pub unclaimed : (c least end : ℕ) (fs : List Frame) → InChain least end fs → c ≤ end → is_claimed fs (covered_by c fs) ≡ false
unclaimed c least end [] h le = refl
unclaimed c least end (f ∷ fs) h le =
    by_order (nat_le f.position c) refl (unclaimed f.end (suc f.position) f.end fs h.2 (omega arith)) (unclaimed c (suc f.position) f.end fs h.2 (omega (arith, h.1)))
  where
    by_order : (b : Bool) → nat_le f.position c ≡ b → is_claimed fs (covered_by f.end fs) ≡ false → is_claimed fs (covered_by c fs) ≡ false → is_claimed (f ∷ fs) (covered_by (cond b f.end c) fs) ≡ false
    by_order true t rest other =
        let on : f.end ≤ covered_by f.end fs = grows f.end (suc f.position) f.end fs h.2 (omega arith) in
        let past : nat_lt (covered_by f.end fs) f.end ≡ false = grind (arith, nat_tests) in
        both_false (nat_le f.position (covered_by f.end fs)) (nat_lt (covered_by f.end fs) f.end) (is_claimed fs (covered_by f.end fs)) (inr past) rest
    by_order false t other rest =
        let far : c < f.position = grind (arith, nat_tests) in
        let same : covered_by c fs ≡ c = stays c (suc f.position) f.end fs h.2 (omega arith) in
        let before : nat_le f.position (covered_by c fs) ≡ false = grind (arith, nat_tests) in
        both_false (nat_le f.position (covered_by c fs)) (nat_lt (covered_by c fs) f.end) (is_claimed fs (covered_by c fs)) (inl before) rest

or_right : (a b : Bool) → b ≡ true → (a || b) ≡ true
or_right true b e = refl
or_right false b e = e

or_left : (a b c : Bool) → a ≡ true → b ≡ true → ((a && b) || c) ≡ true
or_left a b c e f = grind arith

-- each of the covered bytes is in a frame
pub claimed : (c i : ℕ) (fs : List Frame) → c ≤ i → i < covered_by c fs → is_claimed fs i ≡ true
claimed c i [] le lt = absurd (omega arith)
claimed c i (f ∷ fs) le lt = by_order (nat_le f.position c) refl lt (λ past on. claimed f.end i fs past on) (λ on. claimed c i fs le on)
  where
    inside : f.position ≤ i → (b : Bool) → nat_lt i f.end ≡ b → (f.end ≤ i → is_claimed fs i ≡ true) → is_claimed (f ∷ fs) i ≡ true
    inside from true t rest = or_left (nat_le f.position i) (nat_lt i f.end) (is_claimed fs i) (grind (arith, nat_tests)) t
    inside from false t rest = or_right (nat_le f.position i && nat_lt i f.end) (is_claimed fs i) (rest (grind (arith, nat_tests)))

    by_order : (b : Bool) → nat_le f.position c ≡ b → i < covered_by (cond b f.end c) fs → (f.end ≤ i → i < covered_by f.end fs → is_claimed fs i ≡ true) → (i < covered_by c fs → is_claimed fs i ≡ true) → is_claimed (f ∷ fs) i ≡ true
    by_order true t on near far =
        let before : f.position ≤ c = grind (arith, nat_tests) in
        inside (omega arith) (nat_lt i f.end) refl (λ past. near past on)
    by_order false t on near far = or_right (nat_le f.position i && nat_lt i f.end) (is_claimed fs i) (far on)

zero-add : (n : ℕ) → 0 + n ≡ n
zero-add n = omega arith

-- Some byte is in no frame exactly where the covered ones aren't all.
pub leaves : (n : ℕ) (fs : List Frame) → InChain 0 0 fs → list_any (λ i. not (is_claimed fs i)) (range_with_len 0 n) ≡ nat_lt (covered_by 0 fs) n
leaves n fs h = by_order (nat_lt (covered_by 0 fs) n) refl
  where
    test : ℕ → Bool
    test i = not (is_claimed fs i)

    by_order : (b : Bool) → nat_lt (covered_by 0 fs) n ≡ b → list_any test (range_with_len 0 n) ≡ b
    by_order true t =
        let lt : covered_by 0 fs < n = grind (arith, nat_tests) in
        let here : get_or (range_with_len 0 n) (covered_by 0 fs) 0 ≡ covered_by 0 fs = get_or-range_with_len 0 n (covered_by 0 fs) 0 lt ∙ zero-add (covered_by 0 fs) in
        list_any_at test (range_with_len 0 n) (covered_by 0 fs) 0 (omega (arith, length-range_with_len 0 n))
        (ap test here ∙ ap (λ b. not b) (unclaimed 0 0 0 fs h (omega arith)))
    by_order false t =
        let le : n ≤ covered_by 0 fs = grind (arith, nat_tests) in
        list_any_none test (range_with_len 0 n)
        (λ k d lt.
        let less : k < n = omega (arith, lt, length-range_with_len 0 n) in
        let here : get_or (range_with_len 0 n) k d ≡ k = get_or-range_with_len 0 n k d less ∙ zero-add k in
        ap test here ∙ ap (λ b. not b) (claimed 0 k fs (omega arith) (omega arith)))
