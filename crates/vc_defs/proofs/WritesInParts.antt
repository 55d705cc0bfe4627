-- Bytes that are written in two parts, one behind the other, stand as if they had been written at once. Each lemma
-- splits the slice at the place where the second part begins: what is in front and what is behind it stay.
use Rattle.std.proofs.Common.{◌≡◌, ◌∙◌, sym, ap, ℕ, ◌+◌, ◌-◌, ◌≤◌, List, [], ◌++◌, length, take, drop, arith, append_assoc, add-zero, length-append, length-drop, length-take}
use Rattle.std.specs.Prelude.{Result, Ok, Err}
use Rattle.std.proofs.lemmas.List.{append-nil, take-append-drop, take_all, take_at, drop_at, drop-drop, drop_all, length-take-le}
use borrow.Rule.Slice.PartMut.{put_mid, mid_of}
use Rattle.vc_defs.specs.declared.Full.{Full}
use Rattle.vc_defs.specs.Bytes.{written_at, Writes}

pub length_written : (old : List ℕ) (at : ℕ) (bytes : List ℕ) → at + length bytes ≤ length old → length (written_at old at bytes) ≡ length old
length_written old at bytes h =
    simp (length-append, length-take, length-drop) (omega arith)

-- Two pieces one behind the other are one piece.
pub written_twice : (old : List ℕ) (at n : ℕ) (first second : List ℕ) → n ≡ at + length first → n + length second ≤ length old → written_at (written_at old at first) n second ≡ written_at old at (first ++ second)
written_twice old at n first second e h =
    let here : length (take at old ++ first) ≡ n = length-append (take at old) first ∙ ap (λ k. k + length first) (length-take-le at old (omega arith)) ∙ sym e in
    let front : take n (take at old ++ first ++ drop (at + length first) old) ≡ take at old ++ first = take_at (take at old ++ first) (drop (at + length first) old) n here in
    let back : drop (n + length second) (take at old ++ first ++ drop (at + length first) old) ≡ drop (at + length (first ++ second)) old =
    sym (drop-drop (length second) n (take at old ++ first ++ drop (at + length first) old))
    ∙ ap (λ t. drop (length second) t) (drop_at (take at old ++ first) (drop (at + length first) old) n here)
    ∙ drop-drop (length second) (at + length first) old
    ∙ ap (λ k. drop k old) (omega (arith, length-append first second)) in
    rw (front, back) (simp append_assoc)

pub writes_nothing : (old : List ℕ) (at : ℕ) → at ≤ length old → Writes old old at [] (Ok at)
writes_nothing old at h = (omega arith, h, rw (append-nil, add-zero) (sym (take-append-drop at old)))

pub writes_then : (old now new : List ℕ) (at n : ℕ) (first second : List ℕ) (r : Result ℕ Full) → Writes old now at first (Ok n) → Writes now new n second r → Writes old new at (first ++ second) r
writes_then old now new at n first second (Ok end) p q =
    let long : length now ≡ length old = ap length p.2 ∙ length_written old at first (omega arith) in
    (omega (arith, length-append first second), omega arith, q.2 ∙ ap (λ t. written_at t n second) p.2 ∙ written_twice old at n first second p.0 (omega arith))
writes_then old now new at n first second (Err e) p q =
    let long : length now ≡ length old = ap length p.2 ∙ length_written old at first (omega arith) in
    rw length-append (omega arith)

pub writes_not : (old new : List ℕ) (at : ℕ) (first second : List ℕ) (e : Full) → Writes old new at first (Err e) → Writes old new at (first ++ second) (Err e)
writes_not old new at first second e h = rw length-append (omega arith)

-- A write into the part of a slice from a place on.
pub written_in_part : (old part bytes : List ℕ) (at k : ℕ) → k ≡ length old - at → at + length bytes ≤ length old → part ≡ bytes ++ drop (length bytes) (mid_of at k old) → put_mid at k old part ≡ written_at old at bytes
written_in_part old part bytes at k e h is =
    let whole : mid_of at k old ≡ drop at old = take_all k (drop at old) (rw length-drop (omega arith)) in
    let none : drop k (drop at old) ≡ [] = drop_all k (drop at old) (rw length-drop (omega arith)) in
    ap (λ t. take at old ++ (part ++ t)) none
    ∙ ap (λ t. take at old ++ t) (append-nil part ∙ is ∙ ap (λ t. bytes ++ drop (length bytes) t) whole ∙ ap (λ t. bytes ++ t) (drop-drop (length bytes) at old))
    ∙ sym (append_assoc (take at old) bytes (drop (at + length bytes) old))
