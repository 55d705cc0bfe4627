-- A shift by an entry of the table is a product and a shift by ten. The factor is the power of two that is missing to
-- ten, and a shift to the right by ten takes it away again, rounding down as the shorter shift does.
use Rattle.std.proofs.Common.{◌≡◌, ◌∙◌, ap, sym, ℕ, suc, zero, ◌+◌, ◌-◌, ◌*◌, ◌≤◌, ◌<◌, ◌/◌, ◌%◌, ◌^◌, get_or, refl, arith}
use Rattle.std.specs.Prelude.{List, length, ◌≤ℤ◌, neg_ℤ, true, false, Bool, ℤ, pos, negsuc, ◌*ℤ◌, nat_eq}
use Rattle.std.specs.Int.{w32, int_shr}
use Rattle.std.proofs.lemmas.Int.{ints}
use Rattle.std.proofs.lemmas.Bool.{agree_below_at}
use Rattle.std.proofs.lemmas.Bool.Decides.{nat_tests}
use Rattle.std.proofs.Math.Pow.{pow_mono}
use mir.Val.{to_z, of_z}
use Rattle.vc_defs.specs.Quantiser.{shift_at, quantised_by, without_small, AreCoefficients}
use Rattle.vc_defs.proofs.ShiftTables.{shift_of_intra, shift_of_inter, intra_shift_small, inter_shift_small}
use Rattle.vc_quant.specs.declared.TheConstants.{INTRA_FACTORS, INTER_FACTORS, INTRA_STEPS, INTER_STEPS}

abbrev is_number : ℤ → ℕ → Bool
is_number (pos a) n = nat_eq a n
is_number (negsuc a) n = false

number_from_test : (z : ℤ) (n : ℕ) → is_number z n ≡ true → z ≡ pos n
number_from_test (pos a) n h = let e : a ≡ n = grind (arith, nat_tests) in ap pos e
number_from_test (negsuc a) n h = cc

pub shift_small : (intra : Bool) (k : ℕ) → shift_at intra k ≤ 10
shift_small true k = rw (sym (shift_of_intra k)) (intra_shift_small (k / 8 + k % 8))
shift_small false k = rw (sym (shift_of_inter k)) (inter_shift_small (k / 8 + k % 8))

pub intra_factor : (k : ℕ) → k < 64 → to_z w32 (of_z w32 (get_or INTRA_FACTORS k (pos 0))) ≡ pos (2 ^ (10 - shift_at true k))
unfolding shift_at
intra_factor k h = number_from_test _ _ (agree_below_at (λ k. is_number (to_z w32 (of_z w32 (get_or INTRA_FACTORS k (pos 0)))) (2 ^ (10 - shift_at true k))) (λ k. true) 64 k refl h)

pub inter_factor : (k : ℕ) → k < 64 → to_z w32 (of_z w32 (get_or INTER_FACTORS k (pos 0))) ≡ pos (2 ^ (10 - shift_at false k))
unfolding shift_at
inter_factor k h = number_from_test _ _ (agree_below_at (λ k. is_number (to_z w32 (of_z w32 (get_or INTER_FACTORS k (pos 0)))) (2 ^ (10 - shift_at false k))) (λ k. true) 64 k refl h)

pub intra_step : (k : ℕ) → k < 64 → to_z w32 (of_z w32 (get_or INTRA_STEPS k (pos 0))) ≡ pos (2 ^ shift_at true k)
unfolding shift_at
intra_step k h = number_from_test _ _ (agree_below_at (λ k. is_number (to_z w32 (of_z w32 (get_or INTRA_STEPS k (pos 0)))) (2 ^ shift_at true k)) (λ k. true) 64 k refl h)

pub inter_step : (k : ℕ) → k < 64 → to_z w32 (of_z w32 (get_or INTER_STEPS k (pos 0))) ≡ pos (2 ^ shift_at false k)
unfolding shift_at
inter_step k h = number_from_test _ _ (agree_below_at (λ k. is_number (to_z w32 (of_z w32 (get_or INTER_STEPS k (pos 0)))) (2 ^ shift_at false k)) (λ k. true) 64 k refl h)

shift_0 : (c : ℤ) → int_shr (c *ℤ pos 1024) 10 ≡ int_shr c 0
shift_0 (pos n) = let q : n * 1024 / 1024 ≡ n / 1 = omega arith in ap pos q
shift_0 (negsuc n) = let e : negsuc n *ℤ pos 1024 ≡ negsuc (1024 * n + 1023) = omega (arith, ints) in let q : (1024 * n + 1023) / 1024 ≡ n / 1 = omega arith in rw e (ap negsuc q)

shift_1 : (c : ℤ) → int_shr (c *ℤ pos 512) 10 ≡ int_shr c 1
shift_1 (pos n) = let q : n * 512 / 1024 ≡ n / 2 = omega arith in ap pos q
shift_1 (negsuc n) = let e : negsuc n *ℤ pos 512 ≡ negsuc (512 * n + 511) = omega (arith, ints) in let q : (512 * n + 511) / 1024 ≡ n / 2 = omega arith in rw e (ap negsuc q)

shift_2 : (c : ℤ) → int_shr (c *ℤ pos 256) 10 ≡ int_shr c 2
shift_2 (pos n) = let q : n * 256 / 1024 ≡ n / 4 = omega arith in ap pos q
shift_2 (negsuc n) = let e : negsuc n *ℤ pos 256 ≡ negsuc (256 * n + 255) = omega (arith, ints) in let q : (256 * n + 255) / 1024 ≡ n / 4 = omega arith in rw e (ap negsuc q)

shift_3 : (c : ℤ) → int_shr (c *ℤ pos 128) 10 ≡ int_shr c 3
shift_3 (pos n) = let q : n * 128 / 1024 ≡ n / 8 = omega arith in ap pos q
shift_3 (negsuc n) = let e : negsuc n *ℤ pos 128 ≡ negsuc (128 * n + 127) = omega (arith, ints) in let q : (128 * n + 127) / 1024 ≡ n / 8 = omega arith in rw e (ap negsuc q)

shift_4 : (c : ℤ) → int_shr (c *ℤ pos 64) 10 ≡ int_shr c 4
shift_4 (pos n) = let q : n * 64 / 1024 ≡ n / 16 = omega arith in ap pos q
shift_4 (negsuc n) = let e : negsuc n *ℤ pos 64 ≡ negsuc (64 * n + 63) = omega (arith, ints) in let q : (64 * n + 63) / 1024 ≡ n / 16 = omega arith in rw e (ap negsuc q)

shift_5 : (c : ℤ) → int_shr (c *ℤ pos 32) 10 ≡ int_shr c 5
shift_5 (pos n) = let q : n * 32 / 1024 ≡ n / 32 = omega arith in ap pos q
shift_5 (negsuc n) = let e : negsuc n *ℤ pos 32 ≡ negsuc (32 * n + 31) = omega (arith, ints) in let q : (32 * n + 31) / 1024 ≡ n / 32 = omega arith in rw e (ap negsuc q)

shift_6 : (c : ℤ) → int_shr (c *ℤ pos 16) 10 ≡ int_shr c 6
shift_6 (pos n) = let q : n * 16 / 1024 ≡ n / 64 = omega arith in ap pos q
shift_6 (negsuc n) = let e : negsuc n *ℤ pos 16 ≡ negsuc (16 * n + 15) = omega (arith, ints) in let q : (16 * n + 15) / 1024 ≡ n / 64 = omega arith in rw e (ap negsuc q)

shift_7 : (c : ℤ) → int_shr (c *ℤ pos 8) 10 ≡ int_shr c 7
shift_7 (pos n) = let q : n * 8 / 1024 ≡ n / 128 = omega arith in ap pos q
shift_7 (negsuc n) = let e : negsuc n *ℤ pos 8 ≡ negsuc (8 * n + 7) = omega (arith, ints) in let q : (8 * n + 7) / 1024 ≡ n / 128 = omega arith in rw e (ap negsuc q)

shift_8 : (c : ℤ) → int_shr (c *ℤ pos 4) 10 ≡ int_shr c 8
shift_8 (pos n) = let q : n * 4 / 1024 ≡ n / 256 = omega arith in ap pos q
shift_8 (negsuc n) = let e : negsuc n *ℤ pos 4 ≡ negsuc (4 * n + 3) = omega (arith, ints) in let q : (4 * n + 3) / 1024 ≡ n / 256 = omega arith in rw e (ap negsuc q)

shift_9 : (c : ℤ) → int_shr (c *ℤ pos 2) 10 ≡ int_shr c 9
shift_9 (pos n) = let q : n * 2 / 1024 ≡ n / 512 = omega arith in ap pos q
shift_9 (negsuc n) = let e : negsuc n *ℤ pos 2 ≡ negsuc (2 * n + 1) = omega (arith, ints) in let q : (2 * n + 1) / 1024 ≡ n / 512 = omega arith in rw e (ap negsuc q)

shift_10 : (c : ℤ) → int_shr (c *ℤ pos 1) 10 ≡ int_shr c 10
shift_10 (pos n) = let q : n * 1 / 1024 ≡ n / 1024 = omega arith in ap pos q
shift_10 (negsuc n) = let e : negsuc n *ℤ pos 1 ≡ negsuc (1 * n + 0) = omega (arith, ints) in let q : (1 * n + 0) / 1024 ≡ n / 1024 = omega arith in rw e (ap negsuc q)

-- A product with a power of two and a shift by ten is a shift by what is left of ten.
pub shift_by_factor : (s : ℕ) → s ≤ 10 → (c : ℤ) → int_shr (c *ℤ pos (2 ^ (10 - s))) 10 ≡ int_shr c s
shift_by_factor zero h c = shift_0 c
shift_by_factor (suc zero) h c = shift_1 c
shift_by_factor (suc (suc zero)) h c = shift_2 c
shift_by_factor (suc (suc (suc zero))) h c = shift_3 c
shift_by_factor (suc (suc (suc (suc zero)))) h c = shift_4 c
shift_by_factor (suc (suc (suc (suc (suc zero))))) h c = shift_5 c
shift_by_factor (suc (suc (suc (suc (suc (suc zero)))))) h c = shift_6 c
shift_by_factor (suc (suc (suc (suc (suc (suc (suc zero))))))) h c = shift_7 c
shift_by_factor (suc (suc (suc (suc (suc (suc (suc (suc zero)))))))) h c = shift_8 c
shift_by_factor (suc (suc (suc (suc (suc (suc (suc (suc (suc zero))))))))) h c = shift_9 c
shift_by_factor (suc (suc (suc (suc (suc (suc (suc (suc (suc (suc zero)))))))))) h c = shift_10 c
shift_by_factor (suc (suc (suc (suc (suc (suc (suc (suc (suc (suc (suc s))))))))))) h c = absurd (omega arith)

pub quantised_by_factor : (s qp : ℕ) (c f : ℤ) → s ≤ 10 → f ≡ pos (2 ^ (10 - s)) → quantised_by 10 qp (c *ℤ f) ≡ quantised_by s qp c
quantised_by_factor s qp c f h is = ap (λ z. without_small qp (int_shr (c *ℤ z) 10)) is ∙ ap (λ z. without_small qp z) (shift_by_factor s h c)

-- a power of two that is no more than 1,024
pub power_small : (s : ℕ) → s ≤ 10 → 2 ^ s ≤ 1024
power_small s h = pow_mono h

pub factor_small : (s : ℕ) → 2 ^ (10 - s) ≤ 1024
factor_small s = let h : 10 - s ≤ 10 = omega arith in pow_mono h

pub coefficient_bounds : (intra : Bool) (c : List ℤ) (k : ℕ) → AreCoefficients intra c → k < length c → (neg_ℤ (pos 16320) ≤ℤ get_or c k (pos 0)) × (get_or c k (pos 0) ≤ℤ pos 16320)
coefficient_bounds true c k h hk = let w : (neg_ℤ (pos 8192) ≤ℤ get_or c k (pos 0)) × (get_or c k (pos 0) ≤ℤ pos 8160) = h k hk in (omega (arith, ints), omega (arith, ints))
coefficient_bounds false c k h hk = h k hk

-- a number that is no more than 1,024 as the machine has it
pub power_bounds : (f : ℤ) (n : ℕ) → f ≡ pos n → n ≤ 1024 → (pos 0 ≤ℤ to_z w32 (of_z w32 f)) × (to_z w32 (of_z w32 f) ≤ℤ pos 1024)
power_bounds f n e h = rw e (omega (arith, ints), omega (arith, ints))

pub power_back : (f : ℤ) (n : ℕ) → f ≡ pos n → n ≤ 1024 → to_z w32 (of_z w32 f) ≡ f
power_back f n e h = rw e (omega (arith, ints))

pub small_back : (z : ℤ) → (neg_ℤ (pos 16320) ≤ℤ z) × (z ≤ℤ pos 16320) → to_z w32 (of_z w32 z) ≡ z
small_back z h = omega (arith, ints)
