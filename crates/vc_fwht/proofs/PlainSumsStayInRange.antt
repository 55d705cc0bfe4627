-- The terms and sums of a coefficient stay in range. Each term is a number with a sign, so that a sum of so many is
-- at most so many times as large as the largest.
use Rattle.std.proofs.Common.{◌≡◌, ◌∙◌, ap, refl, ℕ, ◌+◌, ◌*◌, ◌<◌, ◌≤◌, get_or, arith, add-one, inl, inr}
use Rattle.std.specs.Prelude.{ℤ, pos, ◌+ℤ◌, ◌*ℤ◌, FitsSigned}
use Rattle.std.specs.Int.{w32}
use Rattle.std.proofs.lemmas.Int.{ints}
use mir.Val.{to_z, of_z}
use Rattle.vc_defs.specs.declared.TheConstants.{WALSH}
use Rattle.vc_defs.specs.Walsh.{sum_below, walsh}
use Rattle.vc_fwht.proofs.MachineSumsAreExact.{Within}
use Rattle.vc_fwht.proofs.SignedSumsAreBounded.{IsSign, sum_within}
use Rattle.vc_fwht.proofs.MatrixEntriesAreSigns.{walsh_is_sign}
use Rattle.vc_fwht.proofs.ButterfliesAreSums.{read_back}

sign_back : (w : ℤ) → IsSign w → to_z w32 (of_z w32 w) ≡ w
sign_back w s = elim s [ inl e ↦ rw e refl | inr e ↦ rw e refl ]

pub sign_is : (u v : ℕ) → u < 8 → v < 8 → to_z w32 (of_z w32 (get_or WALSH (8 * u + v) (pos 0))) ≡ walsh u v
unfolding walsh
sign_is u v hu hv = sign_back (walsh u v) (walsh_is_sign u v hu hv)

-- What the machine's product of a number and a sign gives.
pub product_signed : (n : ℕ) (w a : ℤ) → IsSign w → Within n a → n < 2000000000 →
    (FitsSigned w32 (to_z w32 (of_z w32 a) *ℤ to_z w32 (of_z w32 w))) × (to_z w32 (of_z w32 (to_z w32 (of_z w32 a) *ℤ to_z w32 (of_z w32 w))) ≡ a *ℤ w)
product_signed n w a s h small =
    rw (read_back n a h (omega arith), sign_back w s)
    (elim s [ inl e ↦ rw e (omega (arith, ints), omega (arith, ints)) | inr e ↦ rw e (omega (arith, ints), omega (arith, ints)) ])

-- What the machine's sum gives after one term more.
pub sum_step : (f : ℕ → ℤ) (n m b : ℕ) (t : ℤ) → to_z w32 b ≡ sum_below n f → t ≡ f n → ((i : ℕ) → i < 8 → Within m (f i)) → n < 8 → m ≤ 100000000 →
    (FitsSigned w32 (to_z w32 b +ℤ to_z w32 (of_z w32 t))) × (to_z w32 (of_z w32 (to_z w32 b +ℤ to_z w32 (of_z w32 t))) ≡ sum_below (n + 1) f)
sum_step f n m b t is last within below small =
    let t_in : Within m t = rw last (within n below) in
    let so_far : Within (n * m) (sum_below n f) = sum_within m n f (λ i h. within i (omega arith)) in
    let product : n * m ≤ 700000000 = most n m (omega arith) small in
    let here : Within 700000000 (to_z w32 b) = rw is (omega (arith, ints), omega (arith, ints)) in
    let back : to_z w32 (of_z w32 t) ≡ t = read_back m t t_in (omega arith) in
    let total : Within 800000000 (to_z w32 b +ℤ t) = sum_of_two here t_in small in
    rw (back, add-one)
    (fits_here (to_z w32 b +ℤ t) total, read_back 800000000 (to_z w32 b +ℤ t) total (omega arith) ∙ ap (λ z. z +ℤ t) is ∙ ap (λ z. sum_below n f +ℤ z) last)
  where
    most : (n m : ℕ) → n ≤ 7 → m ≤ 100000000 → n * m ≤ 700000000
    most n m p q = grind arith

    sum_of_two : {m : ℕ} {a b : ℤ} → Within 700000000 a → Within m b → m ≤ 100000000 → Within 800000000 (a +ℤ b)
    sum_of_two p q small = (omega (arith, ints), omega (arith, ints))

    fits_here : (z : ℤ) → Within 800000000 z → FitsSigned w32 z
    fits_here z h = omega (arith, ints)
