-- An encoder writes up to 4,096 equal blocks as one entry, and one more as a second entry. Blocks like the one before
-- are only counted until the count is at its greatest, whatever they are.
use Rattle.std.proofs.Common.{◌≡◌, ◌∙◌, sym, ap, refl, ℕ, suc, zero, ◌+◌, ◌≤◌, ◌<◌, List, [], ◌∷◌, ◌++◌, replicate, arith}
use Rattle.std.specs.Prelude.{true, nat_lt, ◌&&◌}
use Rattle.std.proofs.lemmas.Bool.{and_from, cond-true}
use Rattle.std.proofs.lemmas.Bool.Decides.{nat_tests}
use Rattle.std.proofs.lemmas.List.{replicate-append-replicate, append-nil}
use Rattle.vc_defs.specs.Words.{canon, in_scan_order, scan_place}
use Rattle.vc_defs.specs.Planes.{Block, same_block, canon_entry, entries_after, entries_bytes, canon_plane}
use Rattle.vc_defs.specs.Rows.{zero_block}

-- blocks like the one before are counted as its repeats, up to 4,095
counted : (b : Block) (n r : ℕ) (rest : List Block) → same_block b b ≡ true → r + n ≤ 4095 → entries_after b r (replicate n b ++ rest) ≡ entries_after b (r + n) rest
counted b zero r rest same h = let e : r ≡ r + 0 = omega arith in ap (λ k. entries_after b k rest) e
counted b (suc n) r rest same h =
    let below : r < 4095 = omega arith in
    let test : (same_block b b && nat_lt r 4095) ≡ true = and_from (same_block b b) (nat_lt r 4095) same (grind (arith, nat_tests)) in
    let e : r + 1 + n ≡ r + suc n = omega arith in
    cond-true (same_block b b && nat_lt r 4095) (entries_after b (r + 1) (replicate n b ++ rest)) (canon_entry b r ∷ entries_after b 0 (replicate n b ++ rest)) test
    ∙ counted b n (r + 1) rest same (omega arith)
    ∙ ap (λ k. entries_after b k rest) e

repeated : (b : Block) (n : ℕ) (rest : List Block) → same_block b b ≡ true → n ≤ 4095 → canon_plane (replicate (suc n) b ++ rest) ≡ entries_bytes (entries_after b n rest)
unfolding canon_plane
repeated b n rest same h = let e : 0 + n ≡ n = omega arith in ap entries_bytes (counted b n 0 rest same (omega arith) ∙ ap (λ k. entries_after b k rest) e)

pub most_repeats : canon_plane (replicate 4096 zero_block) ≡ 0x1f ∷ 0xfe ∷ 0x00 ∷ 0x0f ∷ []
unfolding canon in_scan_order scan_place
most_repeats = ap canon_plane (sym (append-nil (replicate 4096 zero_block))) ∙ repeated zero_block 4095 [] refl (omega arith)

pub one_block_more : canon_plane (replicate 4097 zero_block) ≡ 0x1f ∷ 0xfe ∷ 0x00 ∷ 0x0f ∷ 0x00 ∷ 0x00 ∷ 0x00 ∷ 0x0f ∷ []
unfolding canon in_scan_order scan_place
one_block_more = ap canon_plane (sym (replicate-append-replicate 4096 1 zero_block)) ∙ repeated zero_block 4095 (replicate 1 zero_block) refl (omega arith)
