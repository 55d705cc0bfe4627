-- The entries that an encoder writes for blocks stand for exactly these blocks. Blocks like the one before are
-- counted as its repeats, which stand for the same block again; every other block has a head and words of its own,
-- which spell its values.
use Rattle.std.proofs.Common.{◌≡◌, ◌∙◌, sym, ap, refl, subst, ℕ, ◌+◌, ◌<◌, List, [], ◌∷◌, ◌++◌, length, replicate, arith, append_assoc}
use Rattle.std.specs.Prelude.{ℤ, pos, negsuc, Bool, true, false, ◌&&◌, not, nat_eq, nat_lt, cond}
use Rattle.std.specs.List.{All}
use Rattle.std.proofs.lemmas.Bool.{and_parts}
use Rattle.std.proofs.lemmas.Bool.Decides.{nat_tests}
use Rattle.std.proofs.lemmas.List.{replicate_more}
use Rattle.std.proofs.lemmas.List.Elements.{All-head, All-tail}
use Rattle.vc_defs.specs.Words.{in_scan_order, scan_place}
use Rattle.vc_defs.specs.Quantiser.{AreValues}
use Rattle.vc_defs.specs.Planes.{Block, IsEntryOf, StandFor, same_value, same_values, same_block, canon_entry, entries_after, canon_plane}
use Rattle.vc_defs.specs.Laws.{IsBlock, CanonPlaneStands}
use Rattle.vc_defs.proofs.ScanVisitsEachPlace.{in_scan_order_at, scan_inside, length-in_scan_order}
use Rattle.vc_defs.proofs.SpellingsArePrefixFree.{canon_spelled}

pub same_value_is : (a b : ℤ) → same_value a b ≡ true → a ≡ b
same_value_is (pos a) (pos b) e = let t : nat_eq a b ≡ true = e in let is : a ≡ b = grind (arith, nat_tests) in ap pos is
same_value_is (pos a) (negsuc b) e = absurd cc
same_value_is (negsuc a) (pos b) e = absurd cc
same_value_is (negsuc a) (negsuc b) e = let t : nat_eq a b ≡ true = e in let is : a ≡ b = grind (arith, nat_tests) in ap negsuc is

same_values_are : (xs ys : List ℤ) → same_values xs ys ≡ true → xs ≡ ys
same_values_are [] [] e = refl
same_values_are [] (y ∷ ys) e = absurd cc
same_values_are (x ∷ xs) [] e = absurd cc
same_values_are (x ∷ xs) (y ∷ ys) e =
    let both = and_parts (same_value x y) (same_values xs ys) e in
    ap (λ v. v ∷ xs) (same_value_is x y both.0) ∙ ap (λ vs. y ∷ vs) (same_values_are xs ys both.1)

same_inter : (a b : Bool) → cond a b (not b) ≡ true → a ≡ b
same_inter true true e = refl
same_inter true false e = absurd cc
same_inter false true e = absurd cc
same_inter false false e = refl

same_block_is : (a b : Block) → same_block a b ≡ true → a ≡ b
same_block_is a b e =
    let both = and_parts (cond a.inter b.inter (not b.inter)) (same_values a.values b.values) e in
    ap (λ i. record { inter = i; values = a.values }) (same_inter a.inter b.inter both.0) ∙ ap (λ vs. record { inter = b.inter; values = vs }) (same_values_are a.values b.values both.1)

scanned_values : (values : List ℤ) → length values ≡ 64 → AreValues values → AreValues (in_scan_order values)
scanned_values values long h = λ k hk.
    let inside : k < 64 = omega (arith, length-in_scan_order values) in
    let place : scan_place k < 64 = scan_inside k in
    let there = h (scan_place k) (omega (arith, long, place)) in
    rw (in_scan_order_at values k inside) there

entry_stands : (b : Block) (r : ℕ) → r < 4096 → IsBlock b → IsEntryOf (canon_entry b r) b
entry_stands b r h block = (h, refl, block.0, canon_spelled (in_scan_order b.values) (scanned_values b.values block.0 block.1))

entries_stand : (b : Block) (r : ℕ) (blocks : List Block) → r < 4096 → IsBlock b → All IsBlock blocks → StandFor (entries_after b r blocks) (replicate (r + 1) b ++ blocks)
entries_stand b r [] h block all = (b, ([], (entry_stands b r h block, refl, refl)))
entries_stand b r (next ∷ blocks) h block all =
    by_test (same_block b next && nat_lt r 4095) refl
    (λ t. entries_stand b (r + 1) blocks t block (All-tail IsBlock next blocks all))
    (entries_stand next 0 blocks (omega arith) (All-head IsBlock next blocks all) (All-tail IsBlock next blocks all))
  where
    by_test : (t : Bool) → (same_block b next && nat_lt r 4095) ≡ t → (r + 1 < 4096 → StandFor (entries_after b (r + 1) blocks) (replicate (r + 1 + 1) b ++ blocks)) → StandFor (entries_after next 0 blocks) (replicate 1 next ++ blocks) →
        StandFor (cond t (entries_after b (r + 1) blocks) (canon_entry b r ∷ entries_after next 0 blocks)) (replicate (r + 1) b ++ next ∷ blocks)
    by_test true t more other =
        let both = and_parts (same_block b next) (nat_lt r 4095) t in
        let is : b ≡ next = same_block_is b next both.0 in
        let less : nat_lt r 4095 ≡ true = both.1 in
        let longer : replicate (r + 1 + 1) b ++ blocks ≡ replicate (r + 1) b ++ next ∷ blocks =
        ap (λ t. t ++ blocks) (sym (replicate_more (r + 1) b)) ∙ append_assoc (replicate (r + 1) b) (b ∷ []) blocks ∙ ap (λ c. replicate (r + 1) b ++ c ∷ blocks) is in
        subst (λ (bs : List Block). StandFor (entries_after b (r + 1) blocks) bs) longer (more (grind (arith, nat_tests)))
    by_test false t more other = (b, (next ∷ blocks, (entry_stands b r h block, refl, other)))

pub canon_plane_stands : CanonPlaneStands
unfolding canon_plane
canon_plane_stands inter [] all may = record { entries = []; spelled = refl; standing = refl; complete = refl; allowed = may }
canon_plane_stands inter (b ∷ blocks) all may = record {
  entries = entries_after b 0 blocks;
  spelled = refl;
  standing = entries_stand b 0 blocks (omega arith) (All-head IsBlock b blocks all) (All-tail IsBlock b blocks all);
  complete = refl;
  allowed = may;
}
