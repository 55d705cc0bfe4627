-- No spelling of a block's values goes on behind another one, and what an encoder writes is a spelling. Two spellings
-- at the beginning of the same bytes are both what is read from them, so they are the same.
use Rattle.std.proofs.Common.{◌≡◌, ◌∙◌, sym, ap, refl, subst, ℕ, suc, zero, ◌+◌, ◌*◌, ◌-◌, ◌/◌, ◌%◌, ◌<◌, ◌≤◌, inl, inr, List, [], ◌∷◌, ◌++◌, length, replicate, arith, append_assoc}
use Rattle.std.specs.Prelude.{ℤ, pos, negsuc, neg_ℤ, ◌≤ℤ◌, Bool, true, false, nat_lt, cond}
use Rattle.std.specs.declared.option.Option.TheVariants.{Some}
use Rattle.std.proofs.lemmas.Bool.Decides.{nat_tests}
use Rattle.std.proofs.lemmas.Bool.{cond-true, cond-false}
use Rattle.std.proofs.lemmas.List.{append-nil, length-replicate}
use Rattle.std.proofs.lemmas.Int.{ints}
use Rattle.std.specs.List.{All}
use Rattle.std.proofs.lemmas.List.Elements.{All-nil, All-cons, All-append, All-get_or}
use Rattle.std.proofs.lemmas.Grind.{flat_map-append}
use Rattle.vc_defs.specs.Words.{Words, word_bytes, words_bytes, values_from, value_word, value_of, zeros_of, end_word, run_words, trailing_words, canon_after, canon}
use Rattle.vc_defs.specs.Quantiser.{AreValues}
use Rattle.vc_defs.specs.Laws.{NoSpellingGoesOn, CanonSpells, SpelledFit}
use Rattle.vc_defs.proofs.BlocksAreRead.{some_same, read_front_at}

-- Both spellings are read from the same bytes.
pub goes_on : NoSpellingGoesOn
goes_on count ws more values others long long' first second =
    let a : values_from count (words_bytes (ws ++ more) ++ []) ≡ Some (values, words_bytes more) =
    read_front_at count (words_bytes (ws ++ more) ++ []) (words_bytes more) values (ws, (append-nil (words_bytes (ws ++ more)) ∙ flat_map-append word_bytes ws more, long, first)) in
    let b : values_from count (words_bytes (ws ++ more) ++ []) ≡ Some (others, []) = read_front_at count (words_bytes (ws ++ more) ++ []) [] others (ws ++ more, (refl, long', second)) in
    let same : (values, words_bytes more) ≡ (others, []) = some_same (values, words_bytes more) (others, []) (sym a ∙ b) in
    (no_bytes more (ap (λ (p : List ℤ × List ℕ). p.1) same), ap (λ (p : List ℤ × List ℕ). p.0) same)
  where
    no_bytes : (ws : List ℕ) → words_bytes ws ≡ [] → ws ≡ []
    no_bytes [] e = refl
    no_bytes (w ∷ ws) e = let n : length (words_bytes (w ∷ ws)) ≡ 0 = ap length e in absurd (omega arith)

-- signed numbers of twelve bits
abbrev IsValue : ℤ → Type 0
IsValue v = (neg_ℤ (pos 2048) ≤ℤ v) × (v ≤ℤ pos 2047)

values_tail : (v : ℤ) (values : List ℤ) → AreValues (v ∷ values) → AreValues values
values_tail v values h = λ k hk. h (suc k) (omega arith)

value_small : (n : ℕ) → pos n ≤ℤ pos 2047 → n ≤ 2047
value_small n h = omega (arith, ints)

value_least : (n : ℕ) → neg_ℤ (pos 2048) ≤ℤ negsuc n → n ≤ 2047
value_least n h = omega (arith, ints)

-- A value word has its zeros and its value.
word_says : (r : ℕ) (v : ℤ) → r ≤ 14 → IsValue v → (value_word r v < 65536) × (zeros_of (value_word r v) ≡ r) × (value_of (value_word r v) ≡ v)
word_says r (pos n) hr h =
    let small : n ≤ 2047 = value_small n h.1 in
    let high : (16 * n + r) / 16 ≡ n = omega arith in
    let test : nat_lt ((16 * n + r) / 16) 2048 ≡ true = ap (λ k. nat_lt k 2048) high ∙ grind (arith, nat_tests) in
    (omega arith, omega arith, cond-true (nat_lt ((16 * n + r) / 16) 2048) (pos ((16 * n + r) / 16)) (negsuc (4095 - (16 * n + r) / 16)) test ∙ ap pos high)
word_says r (negsuc n) hr h =
    let small : n ≤ 2047 = value_least n h.0 in
    let high : (16 * (4095 - n) + r) / 16 ≡ 4095 - n = omega arith in
    let test : nat_lt ((16 * (4095 - n) + r) / 16) 2048 ≡ false = ap (λ k. nat_lt k 2048) high ∙ grind (arith, nat_tests) in
    let back : 4095 - (16 * (4095 - n) + r) / 16 ≡ n = omega arith in
    (omega arith, omega arith, cond-false (nat_lt ((16 * (4095 - n) + r) / 16) 2048) (pos ((16 * (4095 - n) + r) / 16)) (negsuc (4095 - (16 * (4095 - n) + r) / 16)) test ∙ ap negsuc back)

-- one word in front
word_spells : (r : ℕ) (v : ℤ) (ws : List ℕ) (values : List ℤ) → r ≤ 14 → IsValue v → Words ws values → Words (value_word r v ∷ ws) (replicate r (pos 0) ++ v ∷ values)
word_spells r v ws values hr h spelled =
    let says = word_says r v hr h in
    inr (values, ((says.0, omega (arith, says.1), ap (λ k. replicate k (pos 0) ++ v ∷ values) (sym says.1) ∙ ap (λ u. replicate (zeros_of (value_word r v)) (pos 0) ++ u ∷ values) (sym says.2)), spelled))

-- zeros in front of a zero
zero_more : (n : ℕ) (values : List ℤ) → replicate (n + 1) (pos 0) ++ values ≡ replicate n (pos 0) ++ pos 0 ∷ values
zero_more zero values = refl
zero_more (suc n) values = let e : suc n + 1 ≡ suc (n + 1) = omega arith in ap (λ k. replicate k (pos 0) ++ values) e ∙ ap (λ t. pos 0 ∷ t) (zero_more n values)

zeros_add : (m n : ℕ) (values : List ℤ) → replicate (m + n) (pos 0) ++ values ≡ replicate m (pos 0) ++ (replicate n (pos 0) ++ values)
zeros_add zero n values = let e : 0 + n ≡ n = omega arith in ap (λ k. replicate k (pos 0) ++ values) e
zeros_add (suc m) n values = let e : suc m + n ≡ suc (m + n) = omega arith in ap (λ k. replicate k (pos 0) ++ values) e ∙ ap (λ t. pos 0 ∷ t) (zeros_add m n values)

zero_is_value : IsValue (pos 0)
zero_is_value = (omega (arith, ints), omega (arith, ints))

-- words of 15 zeros in front
fifteens : (n : ℕ) (ws : List ℕ) (values : List ℤ) → Words ws values → Words (replicate n (value_word 14 (pos 0)) ++ ws) (replicate (15 * n) (pos 0) ++ values)
fifteens zero ws values spelled = spelled
fifteens (suc n) ws values spelled =
    let e : 15 * suc n ≡ 14 + (1 + 15 * n) = omega arith in
    let one : 1 + 15 * n ≡ suc (15 * n) = omega arith in
    subst (λ (vs : List ℤ). Words (value_word 14 (pos 0) ∷ (replicate n (value_word 14 (pos 0)) ++ ws)) vs)
    (sym (ap (λ k. replicate k (pos 0) ++ values) e ∙ zeros_add 14 (1 + 15 * n) values ∙ ap (λ k. replicate 14 (pos 0) ++ (replicate k (pos 0) ++ values)) one))
    (word_spells 14 (pos 0) (replicate n (value_word 14 (pos 0)) ++ ws) (replicate (15 * n) (pos 0) ++ values) (omega arith) zero_is_value (fifteens n ws values spelled))

-- the words of a run and its value in front
run_spells : (run : ℕ) (v : ℤ) (ws : List ℕ) (values : List ℤ) → IsValue v → Words ws values → Words (run_words run v ++ ws) (replicate run (pos 0) ++ v ∷ values)
run_spells run v ws values h spelled =
    let e : run ≡ 15 * (run / 15) + run % 15 = omega arith in
    let small : run % 15 ≤ 14 = omega arith in
    let last : Words (value_word (run % 15) v ∷ ws) (replicate (run % 15) (pos 0) ++ v ∷ values) = word_spells (run % 15) v ws values small h spelled in
    subst (λ (us : List ℕ). Words us (replicate run (pos 0) ++ v ∷ values)) (sym (append_assoc (replicate (run / 15) (value_word 14 (pos 0))) (value_word (run % 15) v ∷ []) ws))
    (subst (λ (vs : List ℤ). Words (replicate (run / 15) (value_word 14 (pos 0)) ++ value_word (run % 15) v ∷ ws) vs) (sym (ap (λ k. replicate k (pos 0) ++ v ∷ values) e ∙ zeros_add (15 * (run / 15)) (run % 15) (v ∷ values)))
    (fifteens (run / 15) (value_word (run % 15) v ∷ ws) (replicate (run % 15) (pos 0) ++ v ∷ values) last))

-- the words of zeros at the end
trailing_spells : (run : ℕ) → Words (trailing_words run) (replicate run (pos 0) ++ [])
trailing_spells zero = refl
trailing_spells (suc k) = by_length (nat_lt k 14) refl
  where
    more : replicate (suc k) (pos 0) ++ [] ≡ replicate k (pos 0) ++ pos 0 ∷ []
    more = let e : suc k ≡ k + 1 = omega arith in ap (λ n. replicate n (pos 0) ++ []) e ∙ zero_more k []

    by_length : (b : Bool) → nat_lt k 14 ≡ b → Words (cond b (value_word k (pos 0) ∷ []) (end_word ∷ [])) (replicate (suc k) (pos 0) ++ [])
    by_length true e =
        let small : k ≤ 14 = grind (arith, nat_tests) in
        subst (λ (vs : List ℤ). Words (value_word k (pos 0) ∷ []) vs) (sym more) (word_spells k (pos 0) [] [] small zero_is_value refl)
    by_length false e =
        let none : replicate (suc k) (pos 0) ++ [] ≡ replicate (suc k) (pos 0) = append-nil (replicate (suc k) (pos 0)) in
        let long : length (replicate (suc k) (pos 0)) ≡ suc k = length-replicate (suc k) (pos 0) in
        subst (λ (vs : List ℤ). Words (15 ∷ []) vs) (sym none) (inl (refl, refl, omega (arith, long), ap (λ n. replicate n (pos 0)) (sym long)))

after_spelled : (run : ℕ) (values : List ℤ) → AreValues values → Words (canon_after run values) (replicate run (pos 0) ++ values)
after_spelled run [] h = trailing_spells run
after_spelled run (pos zero ∷ values) h =
    subst (λ (vs : List ℤ). Words (canon_after (run + 1) values) vs) (zero_more run values) (after_spelled (run + 1) values (values_tail (pos 0) values h))
after_spelled run (pos (suc v) ∷ values) h =
    run_spells run (pos (suc v)) (canon_after 0 values) values (h 0 (omega arith)) (after_spelled 0 values (values_tail (pos (suc v)) values h))
after_spelled run (negsuc v ∷ values) h =
    run_spells run (negsuc v) (canon_after 0 values) values (h 0 (omega arith)) (after_spelled 0 values (values_tail (negsuc v) values h))

pub canon_spelled : CanonSpells
unfolding canon
canon_spelled values h = after_spelled 0 values h

-- Values that words spell have twelve bits.
value_of_fits : (w : ℕ) → w < 65536 → IsValue (value_of w)
value_of_fits w h = by_test (nat_lt (w / 16) 2048) refl
  where
    by_test : (b : Bool) → nat_lt (w / 16) 2048 ≡ b → IsValue (cond b (pos (w / 16)) (negsuc (4095 - w / 16)))
    by_test true e = let small : w / 16 < 2048 = grind (arith, nat_tests) in (omega (arith, ints), omega (arith, ints))
    by_test false e = let large : 2048 ≤ w / 16 = grind (arith, nat_tests) in (omega (arith, ints), omega (arith, ints))

zeros_fit : (n : ℕ) → All IsValue (replicate n (pos 0))
zeros_fit zero = All-nil IsValue
zeros_fit (suc n) = All-cons IsValue (pos 0) (replicate n (pos 0)) zero_is_value (zeros_fit n)

spelled_all : (ws : List ℕ) (values : List ℤ) → Words ws values → All IsValue values
spelled_all [] values p = subst (λ (vs : List ℤ). All IsValue vs) (sym p) (All-nil IsValue)
spelled_all (w ∷ ws) values p =
    elim p [
      | inl q ↦ subst (λ (vs : List ℤ). All IsValue vs) (sym q.3) (zeros_fit (length values))
      | inr q ↦
          subst (λ (vs : List ℤ). All IsValue vs) (sym q.1.0.2)
          (All-append IsValue (replicate (zeros_of w) (pos 0)) (value_of w ∷ q.0) (zeros_fit (zeros_of w)) (All-cons IsValue (value_of w) q.0 (value_of_fits w q.1.0.0) (spelled_all ws q.0 q.1.1)))
    ]

pub spelled_fit : SpelledFit
spelled_fit ws values p = λ k h. All-get_or IsValue values k (pos 0) h (spelled_all ws values p)
