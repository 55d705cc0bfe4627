-- The values of a block are read from bytes exactly where words spell them. A word is read back from its two bytes;
-- reading goes on as long as places are left, and takes the words of the spelling one by one.
use Rattle.std.proofs.Common.{◌≡◌, ◌∙◌, sym, ap, refl, subst, ℕ, suc, zero, ◌+◌, ◌*◌, ◌-◌, ◌/◌, ◌%◌, ◌<◌, ◌≤◌, inl, inr, List, [], ◌∷◌, ◌++◌, length, take, drop, replicate, arith, append_assoc, length-append, length-take, length-drop}
use Rattle.std.specs.Prelude.{ℤ, pos, ◌⊎◌, Bool, true, false, ◌&&◌, nat_eq, nat_le, nat_lt, cond}
use Rattle.std.specs.declared.option.Option.{Option}
use Rattle.std.specs.declared.option.Option.TheVariants.{Some, None}
use Rattle.std.proofs.lemmas.Option.{none-some}
use Rattle.std.proofs.lemmas.Bool.{and_parts, and_from, cond-true, cond-false}
use Rattle.std.proofs.lemmas.Bool.Decides.{nat_tests}
use Rattle.std.proofs.lemmas.List.{length-replicate, take_at, take-append-drop, drop-drop}
use Rattle.std.proofs.lemmas.List.Elements.{All-head, All-tail}
use Rattle.vc_defs.specs.Words.{Words, end_word, word_bytes, words_bytes, word_of, value_of, zeros_of, BlockBetween, values_from, values_behind, after_word}
use Rattle.vc_defs.specs.Laws.{AreBytes}

-- which way a test went
pub chosen : {A : Type 0} (b : Bool) (x y z : A) → cond b x y ≡ z → ((b ≡ true) × (x ≡ z)) ⊎ ((b ≡ false) × (y ≡ z))
chosen true x y z e = inl (refl, e)
chosen false x y z e = inr (refl, e)

pub some_same : {A : Type 0} (x y : A) → Some x ≡ Some y → x ≡ y
some_same x y e = cc

-- The values are spelled by words at the front of bytes, and the rest stands behind them.
abbrev pub IsFront : ℕ → List ℕ → List ℕ → List ℤ → Type 0
IsFront count bytes rest values = (ws : List ℕ) × ((bytes ≡ words_bytes ws ++ rest) × (length values ≡ count) × Words ws values)

behind_some : (first : List ℤ) (o : Option (List ℤ × List ℕ)) (r : List ℤ × List ℕ) → values_behind first o ≡ Some r → (q : List ℤ × List ℕ) × ((o ≡ Some q) × (r.0 ≡ first ++ q.0) × (r.1 ≡ q.1))
behind_some first None r e = absurd (none-some r e)
behind_some first (Some q) r e =
    let same : (first ++ q.0, q.1) ≡ r = some_same (first ++ q.0, q.1) r e in
    (q, (refl, ap (λ (p : List ℤ × List ℕ). p.0) (sym same), ap (λ (p : List ℤ × List ℕ). p.1) (sym same)))

-- what a word that gave values was
abbrev Went : ℕ → ℕ → List ℕ → (ℕ → Option (List ℤ × List ℕ)) → List ℤ → List ℕ → Type 0
Went left w bytes read values rest =
    ((w ≡ 15) × (values ≡ replicate left (pos 0)) × (rest ≡ bytes))
    ⊎ ((zeros_of w ≤ 14) × (zeros_of w < left) × ((others : List ℤ) × ((read (left - zeros_of w - 1) ≡ Some (others, rest)) × (values ≡ replicate (zeros_of w) (pos 0) ++ value_of w ∷ others))))

went : (left w : ℕ) (bytes : List ℕ) (read : ℕ → Option (List ℤ × List ℕ)) (values : List ℤ) (rest : List ℕ) → after_word left w bytes read ≡ Some (values, rest) → Went left w bytes read values rest
went left w bytes read values rest e =
    elim
    (chosen (nat_eq w end_word) (Some (replicate left (pos 0), bytes))
    (cond (nat_le (zeros_of w) 14 && nat_lt (zeros_of w) left) (values_behind (replicate (zeros_of w) (pos 0) ++ value_of w ∷ []) (read (left - zeros_of w - 1))) None)
    (Some (values, rest)) e) [
      | inl p ↦
          let same : (replicate left (pos 0), bytes) ≡ (values, rest) = some_same (replicate left (pos 0), bytes) (values, rest) p.1 in
          let t : nat_eq w 15 ≡ true = p.0 in
          inl (grind (arith, nat_tests), ap (λ (p : List ℤ × List ℕ). p.0) (sym same), ap (λ (p : List ℤ × List ℕ). p.1) (sym same))
      | inr p ↦
          elim (chosen (nat_le (zeros_of w) 14 && nat_lt (zeros_of w) left) (values_behind (replicate (zeros_of w) (pos 0) ++ value_of w ∷ []) (read (left - zeros_of w - 1))) None (Some (values, rest)) p.1) [
            | inl q ↦
                let tests = and_parts (nat_le (zeros_of w) 14) (nat_lt (zeros_of w) left) q.0 in
                let b = behind_some (replicate (zeros_of w) (pos 0) ++ value_of w ∷ []) (read (left - zeros_of w - 1)) (values, rest) q.1 in
                inr (
                  grind (arith, nat_tests),
                  grind (arith, nat_tests),
                  (
                    b.0.0,
                    (
                      b.1.0 ∙ ap (λ t. Some (b.0.0, t)) (sym b.1.2),
                      b.1.1 ∙ append_assoc (replicate (zeros_of w) (pos 0)) (value_of w ∷ []) b.0.0,
                    ),
                  ),
                )
            | inr q ↦ absurd (none-some (values, rest) q.1)
          ]
    ]

-- two bytes are those of their word
pub word_back : (high low : ℕ) → high < 256 → low < 256 → word_bytes (word_of high low) ≡ high ∷ low ∷ []
word_back high low hh hl =
    let h : (256 * high + low) / 256 % 256 ≡ high = omega arith in
    let l : (256 * high + low) % 256 ≡ low = omega arith in
    rw (h, l) refl

-- What is read is spelled by words.
pub front_of : (count : ℕ) (bytes rest : List ℕ) (values : List ℤ) → AreBytes bytes → values_from count bytes ≡ Some (values, rest) → IsFront count bytes rest values
front_of zero bytes rest values ok e =
    let same : ([], bytes) ≡ (values, rest) = some_same ([], bytes) (values, rest) e in
    let none : values ≡ [] = ap (λ (p : List ℤ × List ℕ). p.0) (sym same) in
    ([], (ap (λ (p : List ℤ × List ℕ). p.1) same, ap length none, none))
front_of (suc left) [] rest values ok e = absurd (none-some (values, rest) e)
front_of (suc left) (b ∷ []) rest values ok e = absurd (none-some (values, rest) e)
front_of (suc left) (high ∷ low ∷ bytes) rest values ok e =
    let later = All-tail (λ b. b < 256) high (low ∷ bytes) ok in
    let hh : high < 256 = All-head (λ b. b < 256) high (low ∷ bytes) ok in
    let hl : low < 256 = All-head (λ b. b < 256) low bytes later in
    let back : word_bytes (word_of high low) ≡ high ∷ low ∷ [] = word_back high low hh hl in
    let ok' : AreBytes bytes = All-tail (λ b. b < 256) low bytes later in
    elim (went (suc left) (word_of high low) bytes (λ n. values_from n bytes) values rest e) [
      | inl p ↦
          let is : word_of high low ≡ 15 = p.0 in
          let long : length values ≡ suc left = ap length p.1 ∙ length-replicate (suc left) (pos 0) in (
            word_of high low ∷ [],
            (
              ap (λ t. t ++ bytes) (sym back) ∙ ap (λ t. word_bytes (word_of high low) ++ t) (sym p.2),
              long,
              inl (is, refl, omega (arith, long), p.1 ∙ ap (λ n. replicate n (pos 0)) (sym long)),
            ),
          )
      | inr p ↦
          let inner = front_of (suc left - zeros_of (word_of high low) - 1) bytes rest p.2.0 ok' p.2.1.0 in
          let ones : length (replicate (zeros_of (word_of high low)) (pos 0)) ≡ zeros_of (word_of high low) = length-replicate (zeros_of (word_of high low)) (pos 0) in (
            word_of high low ∷ inner.0,
            (
              ap (λ t. t ++ bytes) (sym back) ∙ ap (λ t. word_bytes (word_of high low) ++ t) inner.1.0 ∙ sym (append_assoc (word_bytes (word_of high low)) (words_bytes inner.0) rest),
              ap length p.2.1.1 ∙ length-append (replicate (zeros_of (word_of high low)) (pos 0)) (value_of (word_of high low) ∷ p.2.0) ∙ omega (arith, ones, inner.1.1, p.1),
              inr (p.2.0, ((omega arith, p.0, p.2.1.1), inner.1.2)),
            ),
          )
    ]

end_back : (count : ℕ) (rest : List ℕ) → 0 < count → values_from count (word_bytes 15 ++ rest) ≡ Some (replicate count (pos 0), rest)
end_back zero rest h = absurd (omega arith)
end_back (suc left) rest h = refl

value_back : (count w : ℕ) (rest : List ℕ) (others : List ℤ) (after : List ℕ) → w < 65536 → zeros_of w ≤ 14 → values_from (length others) rest ≡ Some (others, after) → count ≡ zeros_of w + (1 + length others) →
    values_from count (word_bytes w ++ rest) ≡ Some (replicate (zeros_of w) (pos 0) ++ value_of w ∷ others, after)
value_back zero w rest others after fits small e is = absurd (omega arith)
value_back (suc left) w rest others after fits small e is =
    let back : word_of (w / 256 % 256) (w % 256) ≡ w = omega arith in
    let other : nat_eq w end_word ≡ false = grind (arith, nat_tests) in
    let tests : (nat_le (zeros_of w) 14 && nat_lt (zeros_of w) (suc left)) ≡ true = and_from (nat_le (zeros_of w) 14) (nat_lt (zeros_of w) (suc left)) (grind (arith, nat_tests)) (grind (arith, nat_tests)) in
    let less : suc left - zeros_of w - 1 ≡ length others = omega arith in
    ap (λ v. after_word (suc left) v rest (λ n. values_from n rest)) back
    ∙ cond-false (nat_eq w end_word) (Some (replicate (suc left) (pos 0), rest))
    (cond (nat_le (zeros_of w) 14 && nat_lt (zeros_of w) (suc left)) (values_behind (replicate (zeros_of w) (pos 0) ++ value_of w ∷ []) (values_from (suc left - zeros_of w - 1) rest)) None)
    other
    ∙ cond-true (nat_le (zeros_of w) 14 && nat_lt (zeros_of w) (suc left)) (values_behind (replicate (zeros_of w) (pos 0) ++ value_of w ∷ []) (values_from (suc left - zeros_of w - 1) rest)) None tests
    ∙ ap (λ n. values_behind (replicate (zeros_of w) (pos 0) ++ value_of w ∷ []) (values_from n rest)) less
    ∙ ap (λ o. values_behind (replicate (zeros_of w) (pos 0) ++ value_of w ∷ []) o) e
    ∙ ap (λ vs. Some (vs, after)) (append_assoc (replicate (zeros_of w) (pos 0)) (value_of w ∷ []) others)

-- What words spell is read.
pub read_front : (ws rest : List ℕ) (values : List ℤ) → Words ws values → values_from (length values) (words_bytes ws ++ rest) ≡ Some (values, rest)
read_front [] rest values e = subst (λ (vs : List ℤ). values_from (length vs) rest ≡ Some (vs, rest)) (sym e) refl
read_front (w ∷ ws) rest values p =
    ap (λ t. values_from (length values) t) (append_assoc (word_bytes w) (words_bytes ws) rest)
    ∙ elim p [
      | inl q ↦
          ap (λ v. values_from (length values) (word_bytes v ++ (words_bytes ws ++ rest))) q.0
          ∙ ap (λ t. values_from (length values) (word_bytes 15 ++ (words_bytes t ++ rest))) q.1
          ∙ end_back (length values) rest q.2
          ∙ ap (λ vs. Some (vs, rest)) (sym q.3)
      | inr q ↦
          let inner : values_from (length q.0) (words_bytes ws ++ rest) ≡ Some (q.0, rest) = read_front ws rest q.0 q.1.1 in
          let ones : length (replicate (zeros_of w) (pos 0)) ≡ zeros_of w = length-replicate (zeros_of w) (pos 0) in
          value_back (length values) w (words_bytes ws ++ rest) q.0 rest q.1.0.0 q.1.0.1 inner
          (ap length q.1.0.2 ∙ length-append (replicate (zeros_of w) (pos 0)) (value_of w ∷ q.0) ∙ omega (arith, ones))
          ∙ ap (λ vs. Some (vs, rest)) (sym q.1.0.2)
    ]

pub read_front_at : (count : ℕ) (bytes rest : List ℕ) (values : List ℤ) → IsFront count bytes rest values → values_from count bytes ≡ Some (values, rest)
read_front_at count bytes rest values f =
    ap (λ t. values_from count t) f.1.0 ∙ ap (λ n. values_from n (words_bytes f.0 ++ rest)) (sym f.1.1) ∙ read_front f.0 rest values f.1.2

pub length-words_bytes : (ws : List ℕ) → length (words_bytes ws) ≡ 2 * length ws
length-words_bytes [] = refl
length-words_bytes (w ∷ ws) = let e : length (words_bytes ws) ≡ 2 * length ws = length-words_bytes ws in omega (arith, e)

all_dropped : (n : ℕ) (bytes : List ℕ) → AreBytes bytes → AreBytes (drop n bytes)
all_dropped zero bytes h = h
all_dropped (suc n) [] h = h
all_dropped (suc n) (b ∷ bytes) h = all_dropped n bytes (All-tail (λ b. b < 256) b bytes h)

-- Values are read from a place on exactly where they are spelled between that place and the end.
pub between_of :
    (bytes : List ℕ) (start end count : ℕ) (values : List ℤ) → AreBytes bytes → start ≤ length bytes
    → (start ≤ end) × (end ≤ length bytes) × (values_from count (drop start bytes) ≡ Some (values, drop end bytes))
    → BlockBetween bytes start end count values
between_of bytes start end count values ok h p =
    let f = front_of count (drop start bytes) (drop end bytes) values (all_dropped start bytes ok) p.2 in
    let long : length (words_bytes f.0) ≡ 2 * length f.0 = length-words_bytes f.0 in
    let sum : length bytes - start ≡ length (words_bytes f.0) + (length bytes - end) =
    sym (length-drop start bytes) ∙ ap length f.1.0 ∙ length-append (words_bytes f.0) (drop end bytes) ∙ ap (λ n. length (words_bytes f.0) + n) (length-drop end bytes) in
    (f.0, (omega (arith, p.0, p.1, long, sum), ap (λ t. take (2 * length f.0) t) f.1.0 ∙ take_at (words_bytes f.0) (drop end bytes) (2 * length f.0) long, f.1.1, f.1.2))

pub between_read :
    (bytes : List ℕ) (start end count : ℕ) (values : List ℤ) → start ≤ length bytes → BlockBetween bytes start end count values
    → (start ≤ end) × (end ≤ length bytes) × (values_from count (drop start bytes) ≡ Some (values, drop end bytes))
between_read bytes start end count values h b =
    let long : length (words_bytes b.0) ≡ 2 * length b.0 = length-words_bytes b.0 in
    let taken : length (take (2 * length b.0) (drop start bytes)) ≡ 2 * length b.0 = ap length b.1.1 ∙ long in
    let room : 2 * length b.0 ≤ length bytes - start = omega (arith, taken, length-take (2 * length b.0) (drop start bytes), length-drop start bytes) in
    let rest : drop (2 * length b.0) (drop start bytes) ≡ drop end bytes = drop-drop (2 * length b.0) start bytes ∙ ap (λ n. drop n bytes) (sym b.1.0) in
    let front : drop start bytes ≡ words_bytes b.0 ++ drop end bytes =
    sym (take-append-drop (2 * length b.0) (drop start bytes)) ∙ ap (λ t. t ++ drop (2 * length b.0) (drop start bytes)) b.1.1 ∙ ap (λ t. words_bytes b.0 ++ t) rest in
    (omega (arith, b.1.0), omega (arith, b.1.0, room), read_front_at count (drop start bytes) (drop end bytes) values (b.0, (front, b.1.2, b.1.3)))
