-- Values have 12 signed bits, and the coefficients that they stand for stay in range. Each entry of the table shifts
-- a coefficient at least so far that its range shrinks to that of a value, and a value back by at most ten bits.
use Rattle.std.proofs.Common.{◌≡◌, ap, ℕ, suc, zero, ◌*◌, ◌≤◌, ◌<◌, ◌/◌, ◌^◌, get_or, refl, arith}
use Rattle.std.specs.Prelude.{List, length, ◌≤ℤ◌, neg_ℤ, true, false, Bool, ℤ, pos, negsuc, ◌*ℤ◌, nat_le, unsigned_abs, cond}
use Rattle.std.specs.Int.{int_shr}
use Rattle.std.proofs.Math.Nat.{mul-le-mul_left}
use Rattle.std.proofs.lemmas.Int.{ints}
use Rattle.std.proofs.lemmas.Bool.{agree_below_at}
use Rattle.std.proofs.lemmas.Bool.Decides.{nat_tests}
use Rattle.std.proofs.Math.Pow.{pow_mono}
use Rattle.vc_defs.specs.Quantiser.{shift_at, quantised_by, quantised, dequantised, without_small, AllBetween, AreCoefficients, AreValues}
use Rattle.vc_defs.proofs.ListsByPlace.{entry_of_table, length_of_table}
use Rattle.vc_quant.proofs.ProductsAreShifts.{shift_small}

-- no number is beyond 2,097,152
abbrev InRange : ℤ → Type 0
InRange z = (neg_ℤ (pos 2097152) ≤ℤ z) × (z ≤ℤ pos 2097152)

-- a number of 12 signed bits
abbrev IsValue : ℤ → Type 0
IsValue z = (neg_ℤ (pos 2048) ≤ℤ z) × (z ≤ℤ pos 2047)

least_intra : (k : ℕ) → k < 64 → 2 ≤ shift_at true k
unfolding shift_at
least_intra k h =
    let t : nat_le 2 (shift_at true k) ≡ true = agree_below_at (λ k. nat_le 2 (shift_at true k)) (λ k. true) 64 k refl h in
    grind (arith, nat_tests)

least_inter : (k : ℕ) → k < 64 → 3 ≤ shift_at false k
unfolding shift_at
least_inter k h =
    let t : nat_le 3 (shift_at false k) ≡ true = agree_below_at (λ k. nat_le 3 (shift_at false k)) (λ k. true) 64 k refl h in
    grind (arith, nat_tests)

-- a quotient by m at least
quotient : (n d m : ℕ) → 0 < m → m ≤ d → m * (n / d) ≤ n
quotient n d m h le =
    let p : n / d * m ≤ n / d * d = mul-le-mul_left (n / d) le in
    omega arith

below : (n d m : ℕ) → 0 < m → m ≤ d → n < 2048 * m → m * (n / d) < 2048 * m
below n d m h le small = let q : m * (n / d) ≤ n = quotient n d m h le in omega arith

quarter : (n d : ℕ) → 4 ≤ d → n ≤ 8191 → n / d ≤ 2047
quarter n d le h = let q : 4 * (n / d) < 8192 = below n d 4 (omega arith) le (omega arith) in omega arith

eighth : (n d : ℕ) → 8 ≤ d → n ≤ 16383 → n / d ≤ 2047
eighth n d le h = let q : 8 * (n / d) < 16384 = below n d 8 (omega arith) le (omega arith) in omega arith

least_power : (m s : ℕ) → m ≤ s → 2 ^ m ≤ 2 ^ s
least_power m s h = pow_mono h

shifted_intra : (s : ℕ) (c : ℤ) → 2 ≤ s → (neg_ℤ (pos 8192) ≤ℤ c) × (c ≤ℤ pos 8160) → IsValue (int_shr c s)
shifted_intra s (pos n) h w = let q : n / 2 ^ s ≤ 2047 = quarter n (2 ^ s) (least_power 2 s h) (omega (arith, ints)) in (omega (arith, ints), omega (arith, ints))
shifted_intra s (negsuc n) h w = let q : n / 2 ^ s ≤ 2047 = quarter n (2 ^ s) (least_power 2 s h) (omega (arith, ints)) in (omega (arith, ints), omega (arith, ints))

shifted_inter : (s : ℕ) (c : ℤ) → 3 ≤ s → (neg_ℤ (pos 16320) ≤ℤ c) × (c ≤ℤ pos 16320) → IsValue (int_shr c s)
shifted_inter s (pos n) h w = let q : n / 2 ^ s ≤ 2047 = eighth n (2 ^ s) (least_power 3 s h) (omega (arith, ints)) in (omega (arith, ints), omega (arith, ints))
shifted_inter s (negsuc n) h w = let q : n / 2 ^ s ≤ 2047 = eighth n (2 ^ s) (least_power 3 s h) (omega (arith, ints)) in (omega (arith, ints), omega (arith, ints))

shifted : (intra : Bool) (c : List ℤ) (k : ℕ) → k < 64 → length c ≡ 64 → AreCoefficients intra c → IsValue (int_shr (get_or c k (pos 0)) (shift_at intra k))
shifted true c k h long w = shifted_intra (shift_at true k) (get_or c k (pos 0)) (least_intra k h) (w k (omega arith))
shifted false c k h long w = shifted_inter (shift_at false k) (get_or c k (pos 0)) (least_inter k h) (w k (omega arith))

without_small_in : (qp : ℕ) (v : ℤ) → IsValue v → IsValue (without_small qp v)
without_small_in qp v h = elim (nat_le (unsigned_abs v) qp) as (λ b. IsValue (cond b (pos 0) v)) [ true ↦ (omega (arith, ints), omega (arith, ints)) | false ↦ h ]

-- Quantised coefficients have 12 signed bits.
pub quantised_in_range : (q c : List ℤ) (intra : Bool) (qp : ℕ) → q ≡ quantised c intra qp → length c ≡ 64 → AreCoefficients intra c → AreValues q
unfolding quantised
quantised_in_range q c intra qp is long w k hk =
    let inside : k < 64 = omega (arith, ap length is, length_of_table (λ k. quantised_by (shift_at intra k) qp (get_or c k (pos 0))) 64) in
    rw (is, entry_of_table (λ k. quantised_by (shift_at intra k) qp (get_or c k (pos 0))) 64 k inside)
    (without_small_in qp (int_shr (get_or c k (pos 0)) (shift_at intra k)) (shifted intra c k inside long w))

scaled : (s : ℕ) → s ≤ 10 → (v : ℤ) → IsValue v → InRange (v *ℤ pos (2 ^ s))
scaled zero h v w = let g : InRange (v *ℤ pos 1) = (omega (arith, ints), omega (arith, ints)) in g
scaled (suc zero) h v w = let g : InRange (v *ℤ pos 2) = (omega (arith, ints), omega (arith, ints)) in g
scaled (suc (suc zero)) h v w = let g : InRange (v *ℤ pos 4) = (omega (arith, ints), omega (arith, ints)) in g
scaled (suc (suc (suc zero))) h v w = let g : InRange (v *ℤ pos 8) = (omega (arith, ints), omega (arith, ints)) in g
scaled (suc (suc (suc (suc zero)))) h v w = let g : InRange (v *ℤ pos 16) = (omega (arith, ints), omega (arith, ints)) in g
scaled (suc (suc (suc (suc (suc zero))))) h v w = let g : InRange (v *ℤ pos 32) = (omega (arith, ints), omega (arith, ints)) in g
scaled (suc (suc (suc (suc (suc (suc zero)))))) h v w = let g : InRange (v *ℤ pos 64) = (omega (arith, ints), omega (arith, ints)) in g
scaled (suc (suc (suc (suc (suc (suc (suc zero))))))) h v w = let g : InRange (v *ℤ pos 128) = (omega (arith, ints), omega (arith, ints)) in g
scaled (suc (suc (suc (suc (suc (suc (suc (suc zero)))))))) h v w = let g : InRange (v *ℤ pos 256) = (omega (arith, ints), omega (arith, ints)) in g
scaled (suc (suc (suc (suc (suc (suc (suc (suc (suc zero))))))))) h v w = let g : InRange (v *ℤ pos 512) = (omega (arith, ints), omega (arith, ints)) in g
scaled (suc (suc (suc (suc (suc (suc (suc (suc (suc (suc zero)))))))))) h v w = let g : InRange (v *ℤ pos 1024) = (omega (arith, ints), omega (arith, ints)) in g
scaled (suc (suc (suc (suc (suc (suc (suc (suc (suc (suc (suc s))))))))))) h v w = absurd (omega arith)

-- Coefficients of values are no larger than the inverse transform allows.
pub dequantised_in_range : (c q : List ℤ) (intra : Bool) → c ≡ dequantised q intra → length q ≡ 64 → AreValues q → AllBetween (neg_ℤ (pos 2097152)) (pos 2097152) c
unfolding dequantised
dequantised_in_range c q intra is long w k hk =
    let inside : k < 64 = omega (arith, ap length is, length_of_table (λ k. get_or q k (pos 0) *ℤ pos (2 ^ shift_at intra k)) 64) in
    rw (is, entry_of_table (λ k. get_or q k (pos 0) *ℤ pos (2 ^ shift_at intra k)) 64 k inside)
    (scaled (shift_at intra k) (shift_small intra k) (get_or q k (pos 0)) (w k (omega arith)))
