-- Writing the entries of a plane, by what is left to write. Where a block is like the pending one, the same bytes are
-- left as before; where not, the pending entry is the front of them.
use Rattle.std.proofs.Common.{◌≡◌, ◌∙◌, sym, ap, refl, subst, ℕ, ◌+◌, ◌<◌, List, [], ◌∷◌, ◌++◌, length, drop, get_or, arith, length-append}
use Rattle.std.specs.Prelude.{ℤ, pos, negsuc, Bool, true, false, ◌&&◌, not, nat_eq, nat_lt, cond, Ok, Err}
use Rattle.vc_defs.specs.declared.Full.{Full}
use Rattle.vc_defs.specs.Bytes.{Writes}
use Rattle.vc_defs.proofs.WritesInParts.{writes_then}
use Rattle.std.proofs.Common.{int_eq}
use Rattle.std.specs.Cmp.Lexicographic.{pointwise}
use mathlib.Core.Bool.{beq}
use Rattle.std.specs.Bool.{Decides}
use Rattle.std.proofs.lemmas.Bool.{and_parts, and_from, cond-true, cond-false}
use Rattle.std.proofs.lemmas.Bool.Decides.{nat_tests, Decides-int_eq}
use Rattle.std.proofs.lemmas.Slice.Eq.{slice_eq-Decides}
use Rattle.vc_defs.specs.Planes.{Block, Entry, same_value, same_values, same_block, entries_bytes, entries_after, entry_bytes, canon_entry, canon_plane}
use Rattle.vc_coder.specs.Blocks.{block_with}
use Rattle.vc_plane.specs.Writing.{Left}

pub all_left : (old : List ℕ) (at : ℕ) (total : List ℕ) → Left old at total old at total
all_left old at total = record { so = λ new r q. q }

pub left_after : (old : List ℕ) (at : ℕ) (total now now' : List ℕ) (end end' : ℕ) (first left : List ℕ) → Left old at total now end (first ++ left) → Writes now now' end first (Ok end') → Left old at total now' end' left
left_after old at total now now' end end' first left k p = record { so = λ new r q. k.so new r (writes_then now now' new end end' first left r p q) }

-- two steps are one
pub left_twice : (old : List ℕ) (at : ℕ) (total now : List ℕ) (end : ℕ) (left now' : List ℕ) (end' : ℕ) (left' : List ℕ) → Left old at total now end left → Left now end left now' end' left' → Left old at total now' end' left'
left_twice old at total now end left now' end' left' a b = record { so = λ new r q. a.so new r (b.so new r q) }

same_value_is : (a b : ℤ) → same_value a b ≡ true → a ≡ b
same_value_is (pos a) (pos b) e = let t : nat_eq a b ≡ true = e in let is : a ≡ b = grind (arith, nat_tests) in ap pos is
same_value_is (pos a) (negsuc b) e = absurd cc
same_value_is (negsuc a) (pos b) e = absurd cc
same_value_is (negsuc a) (negsuc b) e = let t : nat_eq a b ≡ true = e in let is : a ≡ b = grind (arith, nat_tests) in ap negsuc is

same_values_are : (xs ys : List ℤ) → same_values xs ys ≡ true → xs ≡ ys
same_values_are [] [] e = refl
same_values_are [] (y ∷ ys) e = absurd cc
same_values_are (x ∷ xs) [] e = absurd cc
same_values_are (x ∷ xs) (y ∷ ys) e =
    let both = and_parts (same_value x y) (same_values xs ys) e in
    ap (λ v. v ∷ xs) (same_value_is x y both.0) ∙ ap (λ vs. y ∷ vs) (same_values_are xs ys both.1)

same_value_refl : (a : ℤ) → same_value a a ≡ true
same_value_refl (pos a) = let e : nat_eq a a ≡ true = grind (arith, nat_tests) in e
same_value_refl (negsuc a) = let e : nat_eq a a ≡ true = grind (arith, nat_tests) in e

same_values_refl : (xs : List ℤ) → same_values xs xs ≡ true
same_values_refl [] = refl
same_values_refl (x ∷ xs) = and_from (same_value x x) (same_values xs xs) (same_value_refl x) (same_values_refl xs)

-- Two tests for the same fact agree.
values_test : (xs ys : List ℤ) (r : Bool) → r ≡ pointwise int_eq xs ys → r ≡ same_values xs ys
values_test xs ys r is = by_cases r (slice_eq-Decides Decides-int_eq xs ys r is) (same_values xs ys) refl
  where
    by_cases : (r : Bool) → Decides r (xs ≡ ys) → (s : Bool) → same_values xs ys ≡ s → r ≡ s
    by_cases true d true e = refl
    by_cases false d false e = refl
    by_cases true d false e = let all : same_values xs ys ≡ true = subst (λ (zs : List ℤ). same_values xs zs ≡ true) (d.0 refl) (same_values_refl xs) in sym all ∙ e
    by_cases false d true e = d.1 (same_values_are xs ys e)

beq_is : (a b : Bool) → beq a b ≡ true → a ≡ b
beq_is true true e = refl
beq_is true false e = absurd cc
beq_is false true e = absurd cc
beq_is false false e = refl

-- Blocks of one type are tested by their values.
pub same_test : (i j : Bool) (xs ys : List ℤ) (r : Bool) → beq i j ≡ true → r ≡ pointwise int_eq xs ys → r ≡ same_block (block_with i xs) (block_with j ys)
same_test i j xs ys r e is = subst (λ (k : Bool). r ≡ same_block (block_with i xs) (block_with k ys)) (beq_is i j e) (values_test xs ys r is ∙ alike i)
  where
    alike : (i : Bool) → same_values xs ys ≡ same_block (block_with i xs) (block_with i ys)
    alike true = refl
    alike false = refl

same_inter : (a b : Bool) → cond a b (not b) ≡ true → a ≡ b
same_inter true true e = refl
same_inter true false e = absurd cc
same_inter false true e = absurd cc
same_inter false false e = refl

-- Blocks that are tested to be the same are the same.
pub same_block_is : (a b : Block) → same_block a b ≡ true → a ≡ b
same_block_is a b e =
    let both = and_parts (cond a.inter b.inter (not b.inter)) (same_values a.values b.values) e in
    ap (λ i. record { inter = i; values = a.values }) (same_inter a.inter b.inter both.0) ∙ ap (λ vs. record { inter = b.inter; values = vs }) (same_values_are a.values b.values both.1)

-- A block like the pending one goes into its entry.
pub repeated_left : (old : List ℕ) (at : ℕ) (b next : Block) (r : ℕ) (blocks : List Block) → (same_block b next && nat_lt r 4095) ≡ true → Left old at (entries_bytes (entries_after b r (next ∷ blocks))) old at (entries_bytes (entries_after b (r + 1) blocks))
repeated_left old at b next r blocks t =
    subst (λ (es : List Entry). Left old at (entries_bytes es) old at (entries_bytes (entries_after b (r + 1) blocks)))
    (sym (cond-true (same_block b next && nat_lt r 4095) (entries_after b (r + 1) blocks) (canon_entry b r ∷ entries_after next 0 blocks) t)) (all_left old at (entries_bytes (entries_after b (r + 1) blocks)))

-- Another block begins an entry when the pending one is written.
pub begun_left : (old now : List ℕ) (at end : ℕ) (b next : Block) (r : ℕ) (blocks : List Block) → (same_block b next && nat_lt r 4095) ≡ false → Writes old now at (entry_bytes (canon_entry b r)) (Ok end) →
    Left old at (entries_bytes (entries_after b r (next ∷ blocks))) now end (entries_bytes (entries_after next 0 blocks))
begun_left old now at end b next r blocks t p =
    subst (λ (es : List Entry). Left old at (entries_bytes es) now end (entries_bytes (entries_after next 0 blocks)))
    (sym (cond-false (same_block b next && nat_lt r 4095) (entries_after b (r + 1) blocks) (canon_entry b r ∷ entries_after next 0 blocks) t))
    (left_after old at (entry_bytes (canon_entry b r) ++ entries_bytes (entries_after next 0 blocks)) old now at end (entry_bytes (canon_entry b r)) (entries_bytes (entries_after next 0 blocks))
    (all_left old at (entry_bytes (canon_entry b r) ++ entries_bytes (entries_after next 0 blocks))) p)

-- The pending entry doesn't fit.
pub begun_full : (old now : List ℕ) (at : ℕ) (b next : Block) (r : ℕ) (blocks : List Block) (e : Full) → (same_block b next && nat_lt r 4095) ≡ false → Writes old now at (entry_bytes (canon_entry b r)) (Err e) →
    length old < at + length (entries_bytes (entries_after b r (next ∷ blocks)))
begun_full old now at b next r blocks e t p =
    subst (λ (es : List Entry). length old < at + length (entries_bytes es))
    (sym (cond-false (same_block b next && nat_lt r 4095) (entries_after b (r + 1) blocks) (canon_entry b r ∷ entries_after next 0 blocks) t))
    (omega (arith, p, length-append (entry_bytes (canon_entry b r)) (entries_bytes (entries_after next 0 blocks))))

-- The first block of a plane is pending at first.
pub canon_first : (blocks : List Block) (d : Block) → 0 < length blocks → canon_plane blocks ≡ entries_bytes (entries_after (get_or blocks 0 d) 0 (drop 1 blocks))
unfolding canon_plane
canon_first [] d h = absurd (omega arith)
canon_first (b ∷ blocks) d h = refl
