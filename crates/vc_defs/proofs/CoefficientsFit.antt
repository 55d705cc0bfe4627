-- Every coefficient and every quantised value of a block fits in its signed bits. An entry of the Walsh matrix is 1
-- or -1, and the signs of a coefficient are all plus, or as many plus as minus; each bound then follows from the
-- bound on a sample, and a quantiser only makes a value smaller.
use Rattle.std.proofs.Common.{◌≡◌, ◌∙◌, sym, refl, subst, ℕ, suc, zero, ◌+◌, ◌*◌, ◌/◌, ◌%◌, ◌^◌, ◌<◌, ◌≤◌, inl, inr, List, [], ◌∷◌, length, get_or, arith}
use Rattle.std.specs.Prelude.{ℤ, pos, negsuc, neg_ℤ, ◌+ℤ◌, ◌-ℤ◌, ◌*ℤ◌, ◌≤ℤ◌, ◌⊎◌, Bool, true, false, ◌&&◌, not, nat_le, unsigned_abs, cond}
use Rattle.std.specs.List.{range_with_len, list_all}
use Rattle.std.specs.Int.{int_shr}
use Rattle.std.proofs.Math.Nat.{mul-le-mul_left}
use Rattle.std.proofs.Math.Pow.{pow_mono}
use Rattle.std.proofs.lemmas.Int.{ints}
use Rattle.std.proofs.lemmas.Bool.{and_parts, agree_below_at}
use Rattle.std.proofs.lemmas.Bool.Decides.{nat_tests}
use Rattle.std.proofs.lemmas.List.FromFn.{length-map-range_with_len}
use Rattle.vc_defs.specs.declared.TheConstants.{WALSH}
use Rattle.vc_defs.specs.Walsh.{sum_below, entry_at, walsh, coefficient, transformed}
use Rattle.vc_defs.specs.Quantiser.{shift_at, quantised_by, quantised, without_small, AreCoefficients}
use Rattle.vc_defs.specs.Planes.{Block, base_of, differences, prefers_inter, coded_as, coded_block, coded_blocks, block_of, block_count, padded_sample, blocks_across}
use Rattle.vc_defs.specs.Laws.{AreBytes, IsBlock, CoefficientsFit, QuantisedFit, CodedBlocksFit}
use Rattle.vc_defs.proofs.ListsByPlace.{entry_of_table, length_of_table}
use Rattle.vc_defs.proofs.DecodedIsPicture.{all_made, all_entry}

-- no further from 0 than n
abbrev pub Within : ℕ → ℤ → Type 0
Within n z = (neg_ℤ (pos n) ≤ℤ z) × (z ≤ℤ pos n)

-- 1 or -1
abbrev pub IsSign : ℤ → Type 0
IsSign w = (w ≡ pos 1) ⊎ (w ≡ negsuc 0)

abbrev is_sign : ℤ → Bool
is_sign (pos (suc zero)) = true
is_sign (negsuc zero) = true
is_sign _ = false

sign_from_test : (w : ℤ) → is_sign w ≡ true → IsSign w
sign_from_test (pos (suc zero)) h = inl refl
sign_from_test (negsuc zero) h = inr refl
sign_from_test (pos zero) h = cc
sign_from_test (pos (suc (suc n))) h = cc
sign_from_test (negsuc (suc n)) h = cc

entry_is_sign : (xs : List ℤ) (k : ℕ) → list_all is_sign xs ≡ true → k < length xs → IsSign (get_or xs k (pos 0))
entry_is_sign [] k h p = absurd (omega arith)
entry_is_sign (x ∷ xs) zero h p = sign_from_test x (and_parts (is_sign x) (list_all is_sign xs) h).0
entry_is_sign (x ∷ xs) (suc k) h p = entry_is_sign xs k (and_parts (is_sign x) (list_all is_sign xs) h).1 (omega arith)

-- Each entry of the Walsh matrix is 1 or -1.
pub walsh_is_sign : (u v : ℕ) → u < 8 → v < 8 → IsSign (walsh u v)
unfolding walsh
walsh_is_sign u v hu hv = entry_is_sign WALSH (8 * u + v) refl (omega arith)

same_sum : (n : ℕ) (f g : ℕ → ℤ) → ((i : ℕ) → i < n → f i ≡ g i) → sum_below n f ≡ sum_below n g
same_sum zero f g h = refl
same_sum (suc n) f g h =
    let e : sum_below n f ≡ sum_below n g = same_sum n f g (λ i p. h i (omega arith)) in
    let e' : f n ≡ g n = h n (omega arith) in
    cc

-- A sum of n numbers of which none is beyond m is not beyond n times m.
sum_within : (m n : ℕ) (f : ℕ → ℤ) → ((i : ℕ) → i < n → Within m (f i)) → Within (n * m) (sum_below n f)
sum_within m zero f h = (omega (arith, ints), omega (arith, ints))
sum_within m (suc n) f h =
    let before : Within (n * m) (sum_below n f) = sum_within m n f (λ i p. h i (omega arith)) in
    let here : Within m (f n) = h n (omega arith) in
    let e : suc n * m ≡ n * m + m = omega arith in
    rw e (omega (arith, ints), omega (arith, ints))

double_sum : (n : ℕ) (f g : ℕ → ℤ) → sum_below n (λ i. pos 2 *ℤ f i +ℤ g i) ≡ pos 2 *ℤ sum_below n f +ℤ sum_below n g
double_sum zero f g = refl
double_sum (suc n) f g =
    let e : sum_below n (λ i. pos 2 *ℤ f i +ℤ g i) ≡ pos 2 *ℤ sum_below n f +ℤ sum_below n g = double_sum n f g in
    omega (arith, ints, e)

-- the sum over rows and columns
abbrev sum_of : (ℕ → ℕ → ℤ) → ℤ
sum_of f = sum_below 8 (λ i. sum_below 8 (λ j. f i j))

sum_of_within : (m : ℕ) (f : ℕ → ℕ → ℤ) → ((i j : ℕ) → i < 8 → j < 8 → Within m (f i j)) → Within (64 * m) (sum_of f)
sum_of_within m f h =
    let e : 64 * m ≡ 8 * (8 * m) = omega arith in
    subst (λ (n : ℕ). Within n (sum_of f)) (sym e) (sum_within (8 * m) 8 (λ i. sum_below 8 (λ j. f i j)) (λ i hi. sum_within m 8 (λ j. f i j) (λ j hj. h i j hi hj)))

sum_of_double : (f g : ℕ → ℕ → ℤ) → sum_of (λ i j. pos 2 *ℤ f i j +ℤ g i j) ≡ pos 2 *ℤ sum_of f +ℤ sum_of g
sum_of_double f g =
    same_sum 8 (λ i. sum_below 8 (λ j. pos 2 *ℤ f i j +ℤ g i j)) (λ i. pos 2 *ℤ sum_below 8 (λ j. f i j) +ℤ sum_below 8 (λ j. g i j)) (λ i hi. double_sum 8 (λ j. f i j) (λ j. g i j))
    ∙ double_sum 8 (λ i. sum_below 8 (λ j. f i j)) (λ i. sum_below 8 (λ j. g i j))

-- the signs of a coefficient are all plus, or as many plus as minus
abbrev is_small : ℤ → Bool
is_small (pos n) = nat_le n 64
is_small (negsuc n) = false

small_from_test : (z : ℤ) → is_small z ≡ true → (pos 0 ≤ℤ z) × (z ≤ℤ pos 64)
small_from_test (pos n) h = let t : nat_le n 64 ≡ true = h in let le : n ≤ 64 = grind (arith, nat_tests) in (omega (arith, ints), omega (arith, ints))
small_from_test (negsuc n) h = let clash : false ≡ true = h in absurd cc

signs : ℕ → ℕ → ℤ
signs u v = sum_of (λ i j. walsh u i *ℤ walsh j v)

signs_are_few : (k : ℕ) → k < 64 → (pos 0 ≤ℤ signs (k / 8) (k % 8)) × (signs (k / 8) (k % 8) ≤ℤ pos 64)
unfolding signs walsh
signs_are_few k h = small_from_test (signs (k / 8) (k % 8)) (agree_below_at (λ k. is_small (signs (k / 8) (k % 8))) (λ k. true) 64 k refl h)

-- a number between two signs, and how far twice it with half a step is from 0
signed_within : (n : ℕ) (w a u : ℤ) → IsSign w → IsSign u → Within n a → Within n (w *ℤ a *ℤ u)
signed_within n w a u s t h =
    elim s [
      | inl e ↦ elim t [ inl d ↦ rw (e, d) (omega (arith, ints), omega (arith, ints)) | inr d ↦ rw (e, d) (omega (arith, ints), omega (arith, ints)) ]
      | inr e ↦ elim t [ inl d ↦ rw (e, d) (omega (arith, ints), omega (arith, ints)) | inr d ↦ rw (e, d) (omega (arith, ints), omega (arith, ints)) ]
    ]

doubled_within : (w a u : ℤ) → IsSign w → IsSign u → (neg_ℤ (pos 128) ≤ℤ a) × (a ≤ℤ pos 127) → Within 255 (pos 2 *ℤ (w *ℤ a *ℤ u) +ℤ w *ℤ u)
doubled_within w a u s t h =
    elim s [
      | inl e ↦ elim t [ inl d ↦ rw (e, d) (omega (arith, ints), omega (arith, ints)) | inr d ↦ rw (e, d) (omega (arith, ints), omega (arith, ints)) ]
      | inr e ↦ elim t [ inl d ↦ rw (e, d) (omega (arith, ints), omega (arith, ints)) | inr d ↦ rw (e, d) (omega (arith, ints), omega (arith, ints)) ]
    ]

abbrev IsLow : ℤ → Type 0
IsLow a = (neg_ℤ (pos 128) ≤ℤ a) × (a ≤ℤ pos 127)

entry_there : (x : List ℤ) (P : ℤ → Type 0) → ((k : ℕ) → k < 64 → P (get_or x k (pos 0))) → (i j : ℕ) → i < 8 → j < 8 → P (entry_at x i j)
entry_there x P h i j hi hj = h (8 * i + j) (omega arith)

coefficient_inter : (x : List ℤ) (k : ℕ) → k < 64 → ((k : ℕ) → k < 64 → Within 255 (get_or x k (pos 0))) → Within 16320 (coefficient x (k / 8) (k % 8))
unfolding coefficient
coefficient_inter x k hk h =
    sum_of_within 255 (λ i j. walsh (k / 8) i *ℤ entry_at x i j *ℤ walsh j (k % 8))
    (λ i j hi hj. signed_within 255 (walsh (k / 8) i) (entry_at x i j) (walsh j (k % 8)) (walsh_is_sign (k / 8) i (omega arith) hi) (walsh_is_sign j (k % 8) hj (omega arith)) (entry_there x (Within 255) h i j hi hj))

coefficient_intra : (x : List ℤ) (k : ℕ) → k < 64 → ((k : ℕ) → k < 64 → IsLow (get_or x k (pos 0))) → (neg_ℤ (pos 8192) ≤ℤ coefficient x (k / 8) (k % 8)) × (coefficient x (k / 8) (k % 8) ≤ℤ pos 8160)
unfolding coefficient signs
coefficient_intra x k hk h =
    let few = signs_are_few k hk in
    let all : Within 16320 (sum_of (λ i j. pos 2 *ℤ (walsh (k / 8) i *ℤ entry_at x i j *ℤ walsh j (k % 8)) +ℤ walsh (k / 8) i *ℤ walsh j (k % 8))) =
    sum_of_within 255 (λ i j. pos 2 *ℤ (walsh (k / 8) i *ℤ entry_at x i j *ℤ walsh j (k % 8)) +ℤ walsh (k / 8) i *ℤ walsh j (k % 8))
    (λ i j hi hj. doubled_within (walsh (k / 8) i) (entry_at x i j) (walsh j (k % 8)) (walsh_is_sign (k / 8) i (omega arith) hi) (walsh_is_sign j (k % 8) hj (omega arith)) (entry_there x IsLow h i j hi hj)) in
    let e = sum_of_double (λ i j. walsh (k / 8) i *ℤ entry_at x i j *ℤ walsh j (k % 8)) (λ i j. walsh (k / 8) i *ℤ walsh j (k % 8)) in
    halved (sum_of (λ i j. walsh (k / 8) i *ℤ entry_at x i j *ℤ walsh j (k % 8))) (sum_of (λ i j. walsh (k / 8) i *ℤ walsh j (k % 8)))
    (subst (λ (z : ℤ). Within 16320 z) e all) few
  where
    halved : (c s : ℤ) → Within 16320 (pos 2 *ℤ c +ℤ s) → (pos 0 ≤ℤ s) × (s ≤ℤ pos 64) → (neg_ℤ (pos 8192) ≤ℤ c) × (c ≤ℤ pos 8160)
    halved c s w few = (omega (arith, ints, w.0, w.1, few.0, few.1), omega (arith, ints, w.0, w.1, few.0, few.1))

-- differences of bytes
difference_inter : (a b : ℕ) → a < 256 → b < 256 → Within 255 (pos a -ℤ pos b)
difference_inter a b ha hb = (omega (arith, ints), omega (arith, ints))

difference_intra : (a : ℕ) → a < 256 → IsLow (pos a -ℤ pos 128)
difference_intra a ha = (omega (arith, ints), omega (arith, ints))

byte_there : (xs : List ℕ) (k : ℕ) → AreBytes xs → get_or xs k 0 < 256
byte_there xs k h = all_entry (λ b. b < 256) xs k 0 (omega arith) h

transformed_at : (x : List ℤ) (k : ℕ) → k < 64 → get_or (transformed x) k (pos 0) ≡ coefficient x (k / 8) (k % 8)
unfolding transformed
transformed_at x k h = entry_of_table (λ k. coefficient x (k / 8) (k % 8)) 64 k h

pub length-transformed : (x : List ℤ) → length (transformed x) ≡ 64
unfolding transformed
length-transformed x = length_of_table (λ k. coefficient x (k / 8) (k % 8)) 64

pub coefficients_fit : CoefficientsFit
coefficients_fit true block reference hb hr = λ k hk.
    let inside : k < 64 = omega (arith, length-transformed (differences true block reference)) in
    subst (λ (z : ℤ). (neg_ℤ (pos 16320) ≤ℤ z) × (z ≤ℤ pos 16320)) (sym (transformed_at (differences true block reference) k inside))
    (coefficient_inter (differences true block reference) k inside
    (λ j hj.
    subst (λ (z : ℤ). Within 255 z) (sym (entry_of_table (λ k. pos (get_or block k 0) -ℤ base_of true reference k) 64 j hj))
    (difference_inter (get_or block j 0) (get_or reference j 0) (byte_there block j hb) (byte_there reference j hr))))
coefficients_fit false block reference hb hr = λ k hk.
    let inside : k < 64 = omega (arith, length-transformed (differences false block reference)) in
    subst (λ (z : ℤ). (neg_ℤ (pos 8192) ≤ℤ z) × (z ≤ℤ pos 8160)) (sym (transformed_at (differences false block reference) k inside))
    (coefficient_intra (differences false block reference) k inside
    (λ j hj. subst (λ (z : ℤ). IsLow z) (sym (entry_of_table (λ k. pos (get_or block k 0) -ℤ base_of false reference k) 64 j hj)) (difference_intra (get_or block j 0) (byte_there block j hb))))

-- a number of 12 signed bits
abbrev IsValue : ℤ → Type 0
IsValue z = (neg_ℤ (pos 2048) ≤ℤ z) × (z ≤ℤ pos 2047)

least_intra : (k : ℕ) → k < 64 → 2 ≤ shift_at true k
unfolding shift_at
least_intra k h =
    let t : nat_le 2 (shift_at true k) ≡ true = agree_below_at (λ k. nat_le 2 (shift_at true k)) (λ k. true) 64 k refl h in
    grind (arith, nat_tests)

least_inter : (k : ℕ) → k < 64 → 3 ≤ shift_at false k
unfolding shift_at
least_inter k h =
    let t : nat_le 3 (shift_at false k) ≡ true = agree_below_at (λ k. nat_le 3 (shift_at false k)) (λ k. true) 64 k refl h in
    grind (arith, nat_tests)

-- a quotient by m at least
quotient : (n d m : ℕ) → 0 < m → m ≤ d → m * (n / d) ≤ n
quotient n d m h le = let p : n / d * m ≤ n / d * d = mul-le-mul_left (n / d) le in omega arith

quarter : (n d : ℕ) → 4 ≤ d → n ≤ 8191 → n / d ≤ 2047
quarter n d le h = let q : 4 * (n / d) ≤ n = quotient n d 4 (omega arith) le in omega arith

eighth : (n d : ℕ) → 8 ≤ d → n ≤ 16383 → n / d ≤ 2047
eighth n d le h = let q : 8 * (n / d) ≤ n = quotient n d 8 (omega arith) le in omega arith

least_power : (m s : ℕ) → m ≤ s → 2 ^ m ≤ 2 ^ s
least_power m s h = pow_mono h

shifted_intra : (s : ℕ) (c : ℤ) → 2 ≤ s → (neg_ℤ (pos 8192) ≤ℤ c) × (c ≤ℤ pos 8160) → IsValue (int_shr c s)
shifted_intra s (pos n) h w = let q : n / 2 ^ s ≤ 2047 = quarter n (2 ^ s) (least_power 2 s h) (omega (arith, ints)) in (omega (arith, ints), omega (arith, ints))
shifted_intra s (negsuc n) h w = let q : n / 2 ^ s ≤ 2047 = quarter n (2 ^ s) (least_power 2 s h) (omega (arith, ints)) in (omega (arith, ints), omega (arith, ints))

shifted_inter : (s : ℕ) (c : ℤ) → 3 ≤ s → (neg_ℤ (pos 16320) ≤ℤ c) × (c ≤ℤ pos 16320) → IsValue (int_shr c s)
shifted_inter s (pos n) h w = let q : n / 2 ^ s ≤ 2047 = eighth n (2 ^ s) (least_power 3 s h) (omega (arith, ints)) in (omega (arith, ints), omega (arith, ints))
shifted_inter s (negsuc n) h w = let q : n / 2 ^ s ≤ 2047 = eighth n (2 ^ s) (least_power 3 s h) (omega (arith, ints)) in (omega (arith, ints), omega (arith, ints))

shifted : (intra : Bool) (c : List ℤ) (k : ℕ) → k < 64 → length c ≡ 64 → AreCoefficients intra c → IsValue (int_shr (get_or c k (pos 0)) (shift_at intra k))
shifted true c k h long w = shifted_intra (shift_at true k) (get_or c k (pos 0)) (least_intra k h) (w k (omega arith))
shifted false c k h long w = shifted_inter (shift_at false k) (get_or c k (pos 0)) (least_inter k h) (w k (omega arith))

without_small_in : (qp : ℕ) (v : ℤ) → IsValue v → IsValue (without_small qp v)
without_small_in qp v h = elim (nat_le (unsigned_abs v) qp) as (λ b. IsValue (cond b (pos 0) v)) [ true ↦ (omega (arith, ints), omega (arith, ints)) | false ↦ h ]

pub length-quantised : (c : List ℤ) (intra : Bool) (qp : ℕ) → length (quantised c intra qp) ≡ 64
unfolding quantised
length-quantised c intra qp = length_of_table (λ k. quantised_by (shift_at intra k) qp (get_or c k (pos 0))) 64

pub quantised_fit : QuantisedFit
unfolding quantised
quantised_fit c intra qp long w k hk =
    let inside : k < 64 = omega (arith, length_of_table (λ k. quantised_by (shift_at intra k) qp (get_or c k (pos 0))) 64) in
    subst (λ (z : ℤ). IsValue z) (sym (entry_of_table (λ k. quantised_by (shift_at intra k) qp (get_or c k (pos 0))) 64 k inside))
    (without_small_in qp (int_shr (get_or c k (pos 0)) (shift_at intra k)) (shifted intra c k inside long w))

block_bytes : (plane : List ℕ) (width height number : ℕ) → AreBytes plane → AreBytes (block_of plane width height number)
unfolding block_of
block_bytes plane width height number h =
    all_made (λ b. b < 256) (λ k. padded_sample plane width height (8 * (number % blocks_across width) + k % 8) (8 * (number / blocks_across width) + k / 8)) (range_with_len 0 64)
    (λ k. byte_there plane _ h)

coded_is_block : (inter : Bool) (qp : ℕ) (block reference : List ℕ) → AreBytes block → AreBytes reference → IsBlock (coded_as inter qp block reference)
unfolding coded_as
coded_is_block inter qp block reference hb hr = (
  length-quantised (transformed (differences inter block reference)) (not inter) qp,
  quantised_fit (transformed (differences inter block reference)) (not inter) qp (length-transformed (differences inter block reference)) (coefficients_fit inter block reference hb hr),
)

coded_allowed : (inter prefers : Bool) (qp : ℕ) (block reference : List ℕ) → (coded_as (inter && prefers) qp block reference).inter ≡ true → inter ≡ true
unfolding coded_as
coded_allowed true prefers qp block reference e = refl
coded_allowed false prefers qp block reference e = e

pub coded_blocks_fit : CodedBlocksFit
unfolding coded_blocks
coded_blocks_fit inter qp plane reference width height hp hr = (
  all_made IsBlock (λ number. coded_block inter qp (block_of plane width height number) (block_of reference width height number)) (range_with_len 0 (block_count width height))
      (λ number.
      coded_is_block (inter && prefers_inter (block_of plane width height number) (block_of reference width height number)) qp (block_of plane width height number) (block_of reference width height number)
      (block_bytes plane width height number hp) (block_bytes reference width height number hr)),
  all_made (λ (b : Block). b.inter ≡ true → inter ≡ true) (λ number. coded_block inter qp (block_of plane width height number) (block_of reference width height number)) (range_with_len 0 (block_count width height))
      (λ number. coded_allowed inter (prefers_inter (block_of plane width height number) (block_of reference width height number)) qp (block_of plane width height number) (block_of reference width height number)),
  length-map-range_with_len (λ number. coded_block inter qp (block_of plane width height number) (block_of reference width height number)) 0 (block_count width height),
)
