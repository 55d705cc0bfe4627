-- What holds of each entry of the Walsh matrix, by a test of all of them: it is 1 or -1, and the matrix is symmetric.
use Rattle.std.proofs.Common.{◌≡◌, ◌∙◌, sym, ap, refl, ℕ, suc, zero, ◌+◌, ◌*◌, ◌<◌, ◌/◌, ◌%◌, List, [], ◌∷◌, get_or, length, arith, inl, inr}
use Rattle.std.specs.Prelude.{ℤ, pos, negsuc, Bool, true, false}
use Rattle.std.specs.List.{list_all}
use Rattle.std.proofs.lemmas.Bool.{and_parts, agree_below_at}
use Rattle.vc_defs.specs.Walsh.{walsh}
use Rattle.vc_defs.specs.declared.TheConstants.{WALSH}
use Rattle.vc_fwht.proofs.SignedSumsAreBounded.{IsSign}

abbrev is_sign : ℤ → Bool
is_sign (pos (suc zero)) = true
is_sign (negsuc zero) = true
is_sign _ = false

sign_from_test : (w : ℤ) → is_sign w ≡ true → IsSign w
sign_from_test (pos (suc zero)) h = inl refl
sign_from_test (negsuc zero) h = inr refl
sign_from_test (pos zero) h = cc
sign_from_test (pos (suc (suc n))) h = cc
sign_from_test (negsuc (suc n)) h = cc

entry_is_sign : (xs : List ℤ) (k : ℕ) → list_all is_sign xs ≡ true → k < length xs → IsSign (get_or xs k (pos 0))
entry_is_sign [] k h p = absurd (omega arith)
entry_is_sign (x ∷ xs) zero h p = sign_from_test x (and_parts (is_sign x) (list_all is_sign xs) h).0
entry_is_sign (x ∷ xs) (suc k) h p = entry_is_sign xs k (and_parts (is_sign x) (list_all is_sign xs) h).1 (omega arith)

-- Each entry is 1 or -1.
pub walsh_is_sign : (u v : ℕ) → u < 8 → v < 8 → IsSign (walsh u v)
unfolding walsh
walsh_is_sign u v hu hv = entry_is_sign WALSH (8 * u + v) refl (omega arith)

abbrev is_plus : ℤ → Bool
is_plus (pos n) = true
is_plus (negsuc n) = false

same_sign : (a b : ℤ) → IsSign a → IsSign b → is_plus a ≡ is_plus b → a ≡ b
same_sign a b s t e =
    elim s [
      | inl p ↦ elim t [ inl q ↦ p ∙ sym q | inr q ↦ absurd (clash (sym (ap is_plus p) ∙ e ∙ ap is_plus q)) ]
      | inr p ↦ elim t [ inl q ↦ absurd (clash (sym (ap is_plus q) ∙ sym e ∙ ap is_plus p)) | inr q ↦ p ∙ sym q ]
    ]
  where
    clash : true ≡ false → ⊥
    clash e = cc

-- The matrix is symmetric.
pub walsh_symmetric : (u v : ℕ) → u < 8 → v < 8 → walsh u v ≡ walsh v u
unfolding walsh
walsh_symmetric u v hu hv =
    let k : ℕ = 8 * u + v in
    let row : (8 * u + v) / 8 ≡ u = omega arith in
    let column : (8 * u + v) % 8 ≡ v = omega arith in
    let test : is_plus (walsh ((8 * u + v) / 8) ((8 * u + v) % 8)) ≡ is_plus (walsh ((8 * u + v) % 8) ((8 * u + v) / 8)) = agree_below_at (λ k. is_plus (walsh (k / 8) (k % 8))) (λ k. is_plus (walsh (k % 8) (k / 8))) 64 (8 * u + v) refl (omega arith) in
    same_sign (walsh u v) (walsh v u) (walsh_is_sign u v hu hv) (walsh_is_sign v u hv hu) (rw (row, column) at test)
