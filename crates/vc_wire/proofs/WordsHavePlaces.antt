-- A word that is not the first of a list has its place among the others.
use Rattle.std.proofs.Common.{ℕ, ◌≡◌, ◌+◌, Bool, true, false, List, ◌∷◌, cond, refl, sym}
use Rattle.std.specs.Str.{bytes_eq}
use Rattle.std.proofs.lemmas.Slice.Eq.{bytes_eq-Decides}
use Rattle.vc_model.specs.Wire.{place_in}

past_by : (w word : List ℕ) (n : ℕ) → (word ≡ w → ⊥) → (b : Bool) → bytes_eq w word ≡ b → cond b 0 n ≡ n
past_by w word n other true e = absurd (other (sym ((bytes_eq-Decides w word).0 e)))
past_by w word n other false e = refl

pub past : (w word : List ℕ) (words : List (List ℕ)) → (word ≡ w → ⊥) → place_in (w ∷ words) word ≡ 1 + place_in words word
past w word words other = past_by w word (1 + place_in words word) other (bytes_eq w word) refl
