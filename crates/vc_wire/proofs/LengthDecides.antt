-- What a piece brings is decided by the length of the message that is begun: out of range, it is told as soon as its four
-- bytes are there; else the message ends where so many bytes of a body are there. The length is the same with the piece
-- and without it, once four bytes are kept, so that what is kept never reaches past the end.
use Rattle.std.proofs.Common.{ℕ, zero, suc, ◌≡◌, ◌≤◌, ◌+◌, ◌-◌, nat_le, Bool, true, false, not, cond, ◌&&◌, List, [], ◌∷◌, ◌++◌, length, take, drop, refl, sym, ap, ◌∙◌, arith, length-append}
use Rattle.std.specs.Int.{from_be_bytes, w32}
use Rattle.std.proofs.lemmas.Bool.{le-leb, leb-true, leb-false, false≢true}
use Rattle.std.proofs.lemmas.List.{drop-take, take-append-le}
use Rattle.vc_model.specs.Messages.{number_at, is_length, has_bad_length, has_message, first_body, Fed, fed, more, whole, bad_length}
use Rattle.vc_model.proofs.PartsOfTests.{and_right, and_both}
use Rattle.vc_wire.specs.Framing.{IsBegun}

-- the first bytes, over what was kept
take_across : (kept piece : List ℕ) (m : ℕ) → length kept ≤ m → take m (kept ++ piece) ≡ kept ++ take (m - length kept) piece
take_across [] piece m h = ap (λ i. take i piece) (omega arith)
take_across (b ∷ kept) piece zero h = absurd (omega arith)
take_across (b ∷ kept) piece (suc m) h =
    let e : m - length kept ≡ suc m - suc (length kept) = omega arith in
    ap (λ l. b ∷ l) (take_across kept piece m (omega arith) ∙ ap (λ i. kept ++ take i piece) e)

-- once four bytes are kept the length is theirs
same_length : (kept piece : List ℕ) → 4 ≤ length kept → number_at kept 0 ≡ number_at (kept ++ piece) 0
same_length kept piece h = ap (λ x. from_be_bytes w32 x) (sym (take-append-le 4 kept piece h))

few_by : (kept piece : List ℕ) → IsBegun kept → has_bad_length (kept ++ piece) ≡ true → (b : Bool) → nat_le 4 (length kept) ≡ b → length kept ≤ 4
few_by kept piece s e true l =
    let n = number_at (kept ++ piece) 0 in
    let bad = and_both (nat_le 4 (length kept)) (not (is_length n)) l (and_right (nat_le 4 (length (kept ++ piece))) (not (is_length n)) e) in
    s.four (ap (λ m. nat_le 4 (length kept) && not (is_length m)) (same_length kept piece (leb-true 4 (length kept) l)) ∙ bad)
few_by kept piece s e false l = let f = leb-false 4 (length kept) l in omega arith

not_past_by :
    (kept piece : List ℕ) → IsBegun kept → is_length (number_at (kept ++ piece) 0) ≡ true → (b : Bool)
    → nat_le (4 + number_at (kept ++ piece) 0) (length kept) ≡ b → length kept ≤ 4 + number_at (kept ++ piece) 0
not_past_by kept piece s e true l =
    let n = number_at (kept ++ piece) 0 in
    let long = leb-true (4 + n) (length kept) l in
    let four = le-leb 4 (length kept) (omega arith) in
    let there = and_both (nat_le 4 (length kept)) (is_length n && nat_le (4 + n) (length kept)) four (and_both (is_length n) (nat_le (4 + n) (length kept)) e l) in
    let same = same_length kept piece (omega arith) in
    absurd (false≢true (sym s.not_whole ∙ (ap (λ m. nat_le 4 (length kept) && (is_length m && nat_le (4 + m) (length kept))) same ∙ there)))
not_past_by kept piece s e false l =
    let f = leb-false (4 + number_at (kept ++ piece) 0) (length kept) l in omega arith

-- a length out of range: its four bytes are kept
pub bad_kept :
    (kept piece : List ℕ) → IsBegun kept → 4 ≤ length kept + length piece → is_length (number_at (kept ++ piece) 0) ≡ false
    → kept ++ take (4 - length kept) piece ≡ (fed kept piece).kept
bad_kept kept piece s h e =
    let all = kept ++ piece in
    let l = length-append kept piece in
    let bad = and_both (nat_le 4 (length all)) (not (is_length (number_at all 0))) (le-leb 4 (length all) (omega arith)) (ap not e) in
    let few = few_by kept piece s bad (nat_le 4 (length kept)) refl in
    let rest : Fed = cond (has_message all) (record { taken = (4 + number_at all 0) - length kept; kept = []; told = whole (first_body all) }) (record { taken = length piece; kept = all; told = more }) in
    let kept_is = ap (λ b. (cond b (record { taken = 4 - length kept; kept = take 4 all; told = bad_length }) rest).kept) bad in
    sym (kept_is ∙ take_across kept piece 4 few)

-- a message ends: its body is what lies behind the length
pub whole_told :
    (kept piece : List ℕ) → IsBegun kept → 4 ≤ length kept + length piece → is_length (number_at (kept ++ piece) 0) ≡ true
    → 4 + number_at (kept ++ piece) 0 ≤ length kept + length piece
    → whole (drop 4 (kept ++ take ((4 + number_at (kept ++ piece) 0) - length kept) piece)) ≡ (fed kept piece).told
whole_told kept piece s h e there =
    let all = kept ++ piece in
    let n = number_at all 0 in
    let l = length-append kept piece in
    let four = le-leb 4 (length all) (omega arith) in
    let bad : has_bad_length all ≡ false = ap (λ b. nat_le 4 (length all) && not b) e ∙ ap (λ b. b && false) four in
    let ends = and_both (nat_le 4 (length all)) (is_length n && nat_le (4 + n) (length all)) four
    (and_both (is_length n) (nat_le (4 + n) (length all)) e (le-leb (4 + n) (length all) (omega arith))) in
    let by_bad : Fed = record { taken = 4 - length kept; kept = take 4 all; told = bad_length } in
    let by_end : Fed = record { taken = (4 + n) - length kept; kept = []; told = whole (first_body all) } in
    let by_more : Fed = record { taken = length piece; kept = all; told = more } in
    let told = ap (λ b. (cond b by_bad (cond (has_message all) by_end by_more)).told) bad ∙ ap (λ b. (cond b by_end by_more).told) ends in
    let past = not_past_by kept piece s e (nat_le (4 + n) (length kept)) refl in
    let body : drop 4 (kept ++ take ((4 + n) - length kept) piece) ≡ take n (drop 4 all) = ap (drop 4) (sym (take_across kept piece (4 + n) past)) ∙ drop-take 4 n all in
    ap whole body ∙ sym told
