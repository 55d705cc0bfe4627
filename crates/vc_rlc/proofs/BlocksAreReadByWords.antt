-- A block is read word by word. What was read so far and the words that are left spell the same block as all words
-- do, so that the first word that can't go on makes the whole damaged.
use Rattle.std.proofs.Common.{◌≡◌, ◌≢◌, ◌∙◌, sym, ap, refl, ℕ, suc, zero, ◌+◌, ◌*◌, ◌-◌, ◌/◌, ◌%◌, ◌<◌, ◌≤◌, inl, inr, List, [], ◌∷◌, ◌++◌, length, take, drop, replicate, get_or, set, arith, subst, append_assoc, length-append, length-take, length-drop, add-zero, add-one}
use Rattle.std.specs.Prelude.{ℤ, pos}
use Rattle.std.proofs.lemmas.List.{get_or-set_other, get_or-replicate, append-nil, take_more, take_more_set, replicate_more, take_all, drop-drop, length-replicate, take-take, take_at, append_cancel_left}
use lib.Seq.{take-add}
use Rattle.vc_defs.specs.Words.{Words, word_bytes, words_bytes, value_of, zeros_of, BlockBetween, in_scan_order, scan_place}
use Rattle.vc_defs.proofs.ScanVisitsEachPlace.{in_scan_order_at, scan_inside}

length-words_bytes : (ws : List ℕ) → length (words_bytes ws) ≡ 2 * length ws
length-words_bytes [] = refl
length-words_bytes (w ∷ ws) = let e : length (words_bytes ws) ≡ 2 * length ws = length-words_bytes ws in omega (arith, e)

two_more : (xs : List ℕ) (n : ℕ) → take (2 * suc n) xs ≡ take 2 xs ++ take (2 * n) (drop 2 xs)
two_more xs n = let e : 2 * suc n ≡ 2 + 2 * n = omega arith in ap (λ k. take k xs) e ∙ take-add 2 (2 * n) xs

-- What was read so far, and a block of the places left, are a block; and where there is a block, there is one of the
-- places left.
pub record Read (bytes : List ℕ) (start now left : ℕ) (front : List ℤ) : Type 0 where
  pub so_far : (end : ℕ) (values : List ℤ) → BlockBetween bytes now end left values → BlockBetween bytes start end 64 (front ++ values)
  pub if_any : (end : ℕ) (values : List ℤ) → BlockBetween bytes start end 64 values → (others : List ℤ) × BlockBetween bytes now end left others

-- a word in front of a block
front_word : (bytes : List ℕ) (start w n : ℕ) (rest : List ℕ) → take 2 (drop start bytes) ≡ word_bytes w → take (2 * n) (drop (start + 2) bytes) ≡ rest → take (2 * suc n) (drop start bytes) ≡ word_bytes w ++ rest
front_word bytes start w n rest p q =
    two_more (drop start bytes) n ∙ ap (λ t. t ++ take (2 * n) (drop 2 (drop start bytes))) p
    ∙ ap (λ t. word_bytes w ++ take (2 * n) t) (drop-drop 2 start bytes) ∙ ap (λ t. word_bytes w ++ t) q

pub value_block : (bytes : List ℕ) (start end count w : ℕ) (others : List ℤ) → w < 65536 → zeros_of w ≤ 14 → take 2 (drop start bytes) ≡ word_bytes w →
    BlockBetween bytes (start + 2) end count others → BlockBetween bytes start end (zeros_of w + (1 + count)) (replicate (zeros_of w) (pos 0) ++ value_of w ∷ others)
value_block bytes start end count w others fits small here b = (
  w ∷ b.0,
  (
    omega (arith, b.1.0),
    front_word bytes start w (length b.0) (words_bytes b.0) here b.1.1,
    length-append (replicate (zeros_of w) (pos 0)) (value_of w ∷ others) ∙ omega (arith, length-replicate (zeros_of w) (pos 0), b.1.2),
    inr (others, ((fits, small, refl), b.1.3)),
  ),
)

pub end_block : (bytes : List ℕ) (start count : ℕ) → 0 < count → take 2 (drop start bytes) ≡ word_bytes 15 → BlockBetween bytes start (start + 2) count (replicate count (pos 0))
end_block bytes start count h here =
    let long : length (replicate count (pos 0)) ≡ count = length-replicate count (pos 0) in
    (15 ∷ [], (refl, here, long, inl (refl, refl, omega (arith, long), ap (λ n. replicate n (pos 0)) (sym long))))

-- two words with the same bytes are one word
same_word : (v w : ℕ) → v < 65536 → w < 65536 → word_bytes v ≡ word_bytes w → v ≡ w
same_word v w hv hw e =
    let high : v / 256 % 256 ≡ w / 256 % 256 = ap (λ t. get_or t 0 0) e in
    let low : v % 256 ≡ w % 256 = ap (λ t. get_or t 1 0) e in
    omega arith

-- what the first part of a list says of the list
first_two : (d : List ℕ) (n v : ℕ) (rest : List ℕ) → take (2 * suc n) d ≡ word_bytes v ++ rest → (take 2 d ≡ word_bytes v) × (take (2 * n) (drop 2 d) ≡ rest)
first_two d n v rest e =
    let two : take 2 d ≡ word_bytes v = sym (take-take 2 (2 * suc n) d (omega arith)) ∙ ap (λ t. take 2 t) e ∙ take_at (word_bytes v) rest 2 refl in
    (two, append_cancel_left (word_bytes v) (take (2 * n) (drop 2 d)) rest (ap (λ t. t ++ take (2 * n) (drop 2 d)) (sym two) ∙ sym (two_more d n) ∙ e))

abbrev BlockOf : List ℕ → ℕ → ℕ → ℕ → List ℤ → List ℕ → Type 0
BlockOf bytes start end count values ws = (end ≡ start + 2 * length ws) × (take (2 * length ws) (drop start bytes) ≡ words_bytes ws) × (length values ≡ count) × Words ws values

room_of : (bytes : List ℕ) (start end count : ℕ) (values : List ℤ) (ws : List ℕ) → 0 < count → BlockOf bytes start end count values ws → start + 2 ≤ length bytes
room_of bytes start end count values [] h b = let e : length values ≡ 0 = ap length b.3 in absurd (omega (arith, e, b.2))
room_of bytes start end count values (w ∷ ws) h b =
    let long : length (take (2 * suc (length ws)) (drop start bytes)) ≡ 2 * suc (length ws) = ap length b.1 ∙ length-words_bytes (w ∷ ws) in
    omega (arith, long, length-take (2 * suc (length ws)) (drop start bytes), length-drop start bytes)

-- Where places are left, a block has a word.
pub room : (bytes : List ℕ) (start end count : ℕ) (values : List ℤ) → 0 < count → BlockBetween bytes start end count values → start + 2 ≤ length bytes
room bytes start end count values h b = room_of bytes start end count values b.0 h b.1

abbrev pub Next : List ℕ → ℕ → ℕ → ℕ → ℕ → Type 0
Next bytes start end count w = (zeros_of w ≤ 14) × (zeros_of w < count) × ((others : List ℤ) × BlockBetween bytes (start + 2) end (count - zeros_of w - 1) others)

next_of : (bytes : List ℕ) (start end count : ℕ) (values : List ℤ) (w : ℕ) (ws : List ℕ) → 0 < count → w < 65536 → w ≢ 15 → take 2 (drop start bytes) ≡ word_bytes w → BlockOf bytes start end count values ws → Next bytes start end count w
next_of bytes start end count values w [] h fits ne here b = let e : length values ≡ 0 = ap length b.3 in absurd (omega (arith, e, b.2))
next_of bytes start end count values w (v ∷ ws) h fits ne here b =
    let parts = first_two (drop start bytes) (length ws) v (words_bytes ws) b.1 in
    let same : word_bytes v ≡ word_bytes w = sym parts.0 ∙ here in
    elim b.3 [
      | inl e ↦ absurd (ne (sym (same_word v w (omega (arith, e.0)) fits same) ∙ e.0))
      | inr s ↦
          let is : v ≡ w = same_word v w s.1.0.0 fits same in
          let long : length values ≡ zeros_of v + suc (length s.0) = ap length s.1.0.2 ∙ length-append (replicate (zeros_of v) (pos 0)) (value_of v ∷ s.0) ∙ ap (λ n. n + suc (length s.0)) (length-replicate (zeros_of v) (pos 0)) in
          let z : zeros_of v ≡ zeros_of w = ap (λ u. zeros_of u) is in
          (rw (← is) s.1.0.1, omega (arith, long, z, b.2), (s.0, (ws, (omega (arith, b.0), ap (λ t. take (2 * length ws) t) (sym (drop-drop 2 start bytes)) ∙ parts.1, omega (arith, long, z, b.2), s.1.1))))
    ]

pub next_word : (bytes : List ℕ) (start end count : ℕ) (values : List ℤ) (w : ℕ) → 0 < count → w < 65536 → w ≢ 15 → take 2 (drop start bytes) ≡ word_bytes w → BlockBetween bytes start end count values → Next bytes start end count w
next_word bytes start end count values w h fits ne here b = next_of bytes start end count values w b.0 h fits ne here b.1

pub read_none : (bytes : List ℕ) (at : ℕ) (front : List ℤ) → front ≡ [] → Read bytes at at 64 front
read_none bytes at front e = record { so_far = λ end values b. rw e b; if_any = λ end values b. (values, b) }

-- One value word more is read.
pub read_more : (bytes : List ℕ) (at now left w : ℕ) (front : List ℤ) → Read bytes at now left front → 0 < left → w < 65536 → w ≢ 15 → zeros_of w ≤ 14 → zeros_of w < left → take 2 (drop now bytes) ≡ word_bytes w →
    Read bytes at (now + 2) (left - zeros_of w - 1) (front ++ (replicate (zeros_of w) (pos 0) ++ value_of w ∷ []))
read_more bytes at now left w front r h fits ne small room here =
    record {
      so_far = λ end values b.
          let e : zeros_of w + (1 + (left - zeros_of w - 1)) ≡ left = omega arith in
          let whole : BlockBetween bytes now end left (replicate (zeros_of w) (pos 0) ++ value_of w ∷ values) =
          subst (λ (n : ℕ). BlockBetween bytes now end n (replicate (zeros_of w) (pos 0) ++ value_of w ∷ values)) e (value_block bytes now end (left - zeros_of w - 1) w values fits small here b) in
          let same : front ++ (replicate (zeros_of w) (pos 0) ++ value_of w ∷ values) ≡ front ++ (replicate (zeros_of w) (pos 0) ++ value_of w ∷ []) ++ values = simp append_assoc in
          subst (λ (vs : List ℤ). BlockBetween bytes at end 64 vs) same (r.so_far end (replicate (zeros_of w) (pos 0) ++ value_of w ∷ values) whole);
      if_any = λ end values b.
          let a = r.if_any end values b in
          (next_word bytes now end left a.0 w h fits ne here a.1).2;
    }

-- a list whose last part is zero
pub zero_after : (s : List ℤ) (n m : ℕ) → n + m ≤ length s → ((k : ℕ) → n ≤ k → k < n + m → get_or s k (pos 0) ≡ pos 0) → take (n + m) s ≡ take n s ++ replicate m (pos 0)
zero_after s n zero h z = rw (add-zero, append-nil) refl
zero_after s n (suc m) h z =
    let e : n + suc m ≡ (n + m) + 1 = omega arith in
    ap (λ k. take k s) e ∙ take_more s (n + m) (pos 0) (omega arith)
    ∙ ap (λ t. t ++ get_or s (n + m) (pos 0) ∷ []) (zero_after s n m (omega arith) (λ k p q. z k p (omega arith)))
    ∙ ap (λ v. take n s ++ replicate m (pos 0) ++ v ∷ []) (z (n + m) (omega arith) (omega arith))
    ∙ append_assoc (take n s) (replicate m (pos 0)) (pos 0 ∷ [])
    ∙ ap (λ t. take n s ++ t) (replicate_more m (pos 0) ∙ ap (λ k. replicate k (pos 0)) (add-one m))

-- what stands in front of the next place after a value is put
pub front_after : (s s' : List ℤ) (filled zeros : ℕ) (v : ℤ) → s' ≡ set s (filled + zeros) v → filled + zeros < length s → ((k : ℕ) → filled ≤ k → k < 64 → get_or s k (pos 0) ≡ pos 0) → length s ≡ 64 →
    take filled s ++ (replicate zeros (pos 0) ++ v ∷ []) ≡ take (filled + zeros + 1) s'
front_after s s' filled zeros v is h clear long =
    sym (append_assoc (take filled s) (replicate zeros (pos 0)) (v ∷ []))
    ∙ ap (λ t. t ++ v ∷ []) (sym (zero_after s filled zeros (omega arith) (λ k p q. clear k p (omega arith))))
    ∙ sym (take_more_set s (filled + zeros) v h)
    ∙ ap (λ t. take (filled + zeros + 1) t) (sym is)

pub whole_after_end : (s : List ℤ) (filled : ℕ) → length s ≡ 64 → filled ≤ 64 → ((k : ℕ) → filled ≤ k → k < 64 → get_or s k (pos 0) ≡ pos 0) → take filled s ++ replicate (64 - filled) (pos 0) ≡ s
whole_after_end s filled long le clear =
    sym (zero_after s filled (64 - filled) (omega arith) (λ k p q. clear k p (omega arith))) ∙ take_all (filled + (64 - filled)) s (omega arith)

pub nothing_left : (bytes : List ℕ) (at : ℕ) → BlockBetween bytes at at 0 []
nothing_left bytes at = ([], (omega arith, refl, refl, refl))

pub clear_after : (s s' : List ℤ) (next : ℕ) (v : ℤ) (filled : ℕ) → filled ≤ next → s' ≡ set s next v → ((k : ℕ) → filled ≤ k → k < 64 → get_or s k (pos 0) ≡ pos 0) → (k : ℕ) → next + 1 ≤ k → k < 64 → get_or s' k (pos 0) ≡ pos 0
clear_after s s' next v filled le is clear k p q =
    let ne : k ≢ next = omega arith in
    ap (λ t. get_or t k (pos 0)) is ∙ get_or-set_other s next k v (pos 0) ne ∙ clear k (omega arith) q

pub clear_at_start : (q : List ℤ) → q ≡ replicate 64 (pos 0) → (k : ℕ) → k < 64 → get_or (in_scan_order q) k (pos 0) ≡ pos 0
clear_at_start q e k h = in_scan_order_at q k h ∙ ap (λ t. get_or t (scan_place k) (pos 0)) e ∙ get_or-replicate 64 (scan_place k) (pos 0) (pos 0) (scan_inside k)

pub most_zeros : (w : ℕ) → (w % 16 ≡ 15 → ⊥) → zeros_of w ≤ 14
most_zeros w ne = omega arith

-- With no place left all is read.
pub all_read : (bytes : List ℕ) (at end filled : ℕ) (s : List ℤ) → length s ≡ 64 → filled ≡ 64 → Read bytes at end (64 - filled) (take filled s) → BlockBetween bytes at end 64 s
all_read bytes at end filled s long e r =
    let done : Read bytes at end 0 (take 64 s) = subst (λ (n : ℕ). Read bytes at end (64 - n) (take n s)) e r in
    subst (λ (t : List ℤ). BlockBetween bytes at end 64 t) (append-nil (take 64 s) ∙ take_all 64 s (omega arith)) (done.so_far end [] (nothing_left bytes end))
