-- How large the numbers of a block are. Each entry of a transform is a sum of 64 numbers with signs, so it is at most 64
-- times as large as they are; the samples of a block are bytes.
use Rattle.std.proofs.Common.{◌≡◌, ◌∙◌, ap, inl, inr, ℕ, ◌*◌, ◌+◌, ◌/◌, ◌%◌, ◌<◌, List, length, get_or, arith}
use Rattle.std.specs.Prelude.{ℤ, pos, neg_ℤ, ◌*ℤ◌, ◌^◌, Bool}
use Rattle.std.proofs.lemmas.Int.{ints}
use Rattle.std.proofs.lemmas.List.Elements.{All-from_get_or}
use Rattle.vc_defs.specs.Laws.{AreBytes}
use Rattle.vc_defs.specs.Walsh.{sum_below, walsh, entry_at, coefficient, transformed}
use Rattle.vc_defs.specs.Quantiser.{AllBetween, dequantised, shift_at}
use Rattle.vc_defs.proofs.ListsByPlace.{entry_of_table, length_of_table}
use Rattle.vc_fwht.proofs.MachineSumsAreExact.{Within}
use Rattle.vc_fwht.proofs.SignedSumsAreBounded.{signed_within, sum_within, IsSign}
use Rattle.vc_fwht.proofs.MatrixEntriesAreSigns.{walsh_is_sign}

signs_within : (m : ℕ) (w a u : ℤ) → IsSign w → IsSign u → Within m a → Within m (w *ℤ a *ℤ u)
signs_within m w a u s t h = signed_within m (w *ℤ a) u t (flipped s)
  where
    flipped : IsSign w → Within m (w *ℤ a)
    flipped s = elim s [ inl e ↦ rw e (omega (arith, ints), omega (arith, ints)) | inr e ↦ rw e (omega (arith, ints), omega (arith, ints)) ]

coefficient_within : (m : ℕ) (x : List ℤ) (u v : ℕ) → u < 8 → v < 8 → ((k : ℕ) → k < 64 → Within m (get_or x k (pos 0))) → Within (8 * (8 * m)) (coefficient x u v)
unfolding coefficient
coefficient_within m x u v hu hv h =
    sum_within (8 * m) 8 (λ i. sum_below 8 (λ j. walsh u i *ℤ entry_at x i j *ℤ walsh j v))
    (λ i hi. sum_within m 8 (λ j. walsh u i *ℤ entry_at x i j *ℤ walsh j v)
    (λ j hj. signs_within m (walsh u i) (entry_at x i j) (walsh j v) (walsh_is_sign u i hu hi) (walsh_is_sign j v hj hv) (h (8 * i + j) (omega arith))))

-- The inverse transform of coefficients in range is in range.
pub restored_in_range : (y d : List ℤ) → y ≡ transformed d → length d ≡ 64 → AllBetween (neg_ℤ (pos 2097152)) (pos 2097152) d → AllBetween (neg_ℤ (pos 134217728)) (pos 134217728) y
unfolding transformed
restored_in_range y d is long h k hk =
    let inside : k < 64 = omega (arith, ap length is, length_of_table (λ k. coefficient d (k / 8) (k % 8)) 64) in
    rw (is, entry_of_table (λ k. coefficient d (k / 8) (k % 8)) 64 k inside)
    (coefficient_within 2097152 d (k / 8) (k % 8) (omega arith) (omega arith) (λ j hj. h j (omega arith)))

pub length-dequantised : (d q : List ℤ) (intra : Bool) → d ≡ dequantised q intra → length d ≡ 64
unfolding dequantised
length-dequantised d q intra is = ap length is ∙ length_of_table (λ k. get_or q k (pos 0) *ℤ pos (2 ^ shift_at intra k)) 64

-- The entries of an array of bytes are bytes.
pub small_bytes : (bytes : List ℕ) → ((i : ℕ) → get_or bytes i 0 < 256) → AreBytes bytes
small_bytes bytes h = All-from_get_or (λ b. b < 256) bytes 0 (λ i hi. h i)
