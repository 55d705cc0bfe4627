-- Small values have small coefficients. A value within the limit of its place times the step of its place is not beyond
-- 4,095, since the two powers of two make 4,096.
use Rattle.std.proofs.Common.{◌≡◌, ◌∙◌, ap, sym, ℕ, suc, zero, ◌+◌, ◌-◌, ◌*◌, ◌≤◌, ◌<◌, ◌^◌, get_or, refl, arith}
use Rattle.std.specs.Prelude.{◌≤ℤ◌, neg_ℤ, true, false, Bool, ℤ, pos, negsuc, ◌*ℤ◌, nat_eq, unsigned_abs}
use Rattle.std.specs.Int.{w16}
use Rattle.std.proofs.lemmas.Int.{ints}
use Rattle.std.proofs.lemmas.Bool.{agree_below_at}
use Rattle.std.proofs.lemmas.Bool.Decides.{nat_tests}
use Rattle.std.proofs.Math.Pow.{pow_mono}
use mir.Val.{to_z, of_z, bool_byte}
use Rattle.vc_defs.specs.Quantiser.{shift_at}
use Rattle.vc_lanes.specs.declared.dequantising.TheConstants.{STEPS, LIMITS}
use Rattle.vc_lanes.proofs.ShiftsAreSmall.{is_number, number_from_test, shift_small}

number_is : (a n : ℕ) → nat_eq a n ≡ true → a ≡ n
number_is a n h = grind (arith, nat_tests)

inter_step : (k : ℕ) → k < 64 → to_z w16 (of_z w16 (get_or STEPS k (pos 0))) ≡ pos (2 ^ shift_at false k)
unfolding shift_at
inter_step k h = number_from_test _ _ (agree_below_at (λ k. is_number (to_z w16 (of_z w16 (get_or STEPS k (pos 0)))) (2 ^ shift_at false k)) (λ k. true) 64 k refl h)

inter_limit : (k : ℕ) → k < 64 → get_or LIMITS k 0 ≡ 2 ^ (12 - shift_at false k) - 1
unfolding shift_at
inter_limit k h = number_is _ _ (agree_below_at (λ k. nat_eq (get_or LIMITS k 0) (2 ^ (12 - shift_at false k) - 1)) (λ k. true) 64 k refl h)

intra_step : (k : ℕ) → k < 64 → to_z w16 (of_z w16 (get_or STEPS (64 + k) (pos 0))) ≡ pos (2 ^ shift_at true k)
unfolding shift_at
intra_step k h = number_from_test _ _ (agree_below_at (λ k. is_number (to_z w16 (of_z w16 (get_or STEPS (64 + k) (pos 0)))) (2 ^ shift_at true k)) (λ k. true) 64 k refl h)

intra_limit : (k : ℕ) → k < 64 → get_or LIMITS (64 + k) 0 ≡ 2 ^ (12 - shift_at true k) - 1
unfolding shift_at
intra_limit k h = number_is _ _ (agree_below_at (λ k. nat_eq (get_or LIMITS (64 + k) 0) (2 ^ (12 - shift_at true k) - 1)) (λ k. true) 64 k refl h)

pub step_is : (intra : Bool) (k : ℕ) → k < 64 → to_z w16 (of_z w16 (get_or STEPS (64 * bool_byte intra + k) (pos 0))) ≡ pos (2 ^ shift_at intra k)
step_is true k h = intra_step k h
step_is false k h = let e : 0 + k ≡ k = omega arith in ap (λ j. to_z w16 (of_z w16 (get_or STEPS j (pos 0)))) e ∙ inter_step k h

pub limit_is : (intra : Bool) (k : ℕ) → k < 64 → get_or LIMITS (64 * bool_byte intra + k) 0 ≡ 2 ^ (12 - shift_at intra k) - 1
limit_is true k h = intra_limit k h
limit_is false k h = let e : 0 + k ≡ k = omega arith in ap (λ j. get_or LIMITS j 0) e ∙ inter_limit k h

power_small : (s : ℕ) → s ≤ 10 → 2 ^ s ≤ 1024
power_small s h = pow_mono h

abbrev pub Small : ℤ → Type 0
Small z = (neg_ℤ (pos 4095) ≤ℤ z) × (z ≤ℤ pos 4095)

scaled : (s : ℕ) → s ≤ 10 → (v : ℤ) → unsigned_abs v ≤ 2 ^ (12 - s) - 1 → Small (v *ℤ pos (2 ^ s))
scaled zero h v w = let m : unsigned_abs v ≤ 4095 = w in let g : Small (v *ℤ pos 1) = (omega (arith, ints), omega (arith, ints)) in g
scaled (suc zero) h v w = let m : unsigned_abs v ≤ 2047 = w in let g : Small (v *ℤ pos 2) = (omega (arith, ints), omega (arith, ints)) in g
scaled (suc (suc zero)) h v w = let m : unsigned_abs v ≤ 1023 = w in let g : Small (v *ℤ pos 4) = (omega (arith, ints), omega (arith, ints)) in g
scaled (suc (suc (suc zero))) h v w = let m : unsigned_abs v ≤ 511 = w in let g : Small (v *ℤ pos 8) = (omega (arith, ints), omega (arith, ints)) in g
scaled (suc (suc (suc (suc zero)))) h v w = let m : unsigned_abs v ≤ 255 = w in let g : Small (v *ℤ pos 16) = (omega (arith, ints), omega (arith, ints)) in g
scaled (suc (suc (suc (suc (suc zero))))) h v w = let m : unsigned_abs v ≤ 127 = w in let g : Small (v *ℤ pos 32) = (omega (arith, ints), omega (arith, ints)) in g
scaled (suc (suc (suc (suc (suc (suc zero)))))) h v w = let m : unsigned_abs v ≤ 63 = w in let g : Small (v *ℤ pos 64) = (omega (arith, ints), omega (arith, ints)) in g
scaled (suc (suc (suc (suc (suc (suc (suc zero))))))) h v w = let m : unsigned_abs v ≤ 31 = w in let g : Small (v *ℤ pos 128) = (omega (arith, ints), omega (arith, ints)) in g
scaled (suc (suc (suc (suc (suc (suc (suc (suc zero)))))))) h v w = let m : unsigned_abs v ≤ 15 = w in let g : Small (v *ℤ pos 256) = (omega (arith, ints), omega (arith, ints)) in g
scaled (suc (suc (suc (suc (suc (suc (suc (suc (suc zero))))))))) h v w = let m : unsigned_abs v ≤ 7 = w in let g : Small (v *ℤ pos 512) = (omega (arith, ints), omega (arith, ints)) in g
scaled (suc (suc (suc (suc (suc (suc (suc (suc (suc (suc zero)))))))))) h v w = let m : unsigned_abs v ≤ 3 = w in let g : Small (v *ℤ pos 1024) = (omega (arith, ints), omega (arith, ints)) in g
scaled (suc (suc (suc (suc (suc (suc (suc (suc (suc (suc (suc s))))))))))) h v w = absurd (omega arith)

-- the coefficient of a small value
pub small_coefficient : (intra : Bool) (k : ℕ) (v f : ℤ) → unsigned_abs v ≤ 2 ^ (12 - shift_at intra k) - 1 → f ≡ pos (2 ^ shift_at intra k) → Small (v *ℤ f)
small_coefficient intra k v f w is = rw is (scaled (shift_at intra k) (shift_small intra k) v w)

pub step_back : (intra : Bool) (k : ℕ) (f : ℤ) → f ≡ pos (2 ^ shift_at intra k) → to_z w16 (of_z w16 f) ≡ f
step_back intra k f is = rw is (power_back (2 ^ shift_at intra k) (power_small (shift_at intra k) (shift_small intra k)))
  where
    power_back : (n : ℕ) → n ≤ 1024 → to_z w16 (of_z w16 (pos n)) ≡ pos n
    power_back n h = omega (arith, ints)

pub small_back : (intra : Bool) (k : ℕ) (v : ℤ) → unsigned_abs v ≤ 2 ^ (12 - shift_at intra k) - 1 → to_z w16 (of_z w16 v) ≡ v
small_back intra k v w = let m : unsigned_abs v ≤ 4095 = below (12 - shift_at intra k) (omega arith) w in omega (arith, ints)
  where
    below : (n : ℕ) → n ≤ 12 → unsigned_abs v ≤ 2 ^ n - 1 → unsigned_abs v ≤ 4095
    below n h w = let p : 2 ^ n ≤ 4096 = pow_mono h in omega arith
