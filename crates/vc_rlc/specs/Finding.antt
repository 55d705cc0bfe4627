-- Which values of a list are not zero.
use Rattle.std.specs.Prelude.{◌≡◌, ◌≢◌, ℕ, suc, zero, ◌+◌, ◌<◌, ◌≤◌, List, ℤ, pos, get_or}

-- how many values come up to the one before the number at a place, that one included
abbrev pub behind : List ℕ → ℕ → ℕ
behind numbers zero = 0
behind numbers (suc i) = get_or numbers i 0 + 1

-- The first numbers are those of the values below a bound that are not zero, in order.
pub record AreFound (values : List ℤ) (numbers : List ℕ) (count bound : ℕ) : Type 0 where
  pub few : count ≤ bound
  pub last : behind numbers count ≤ bound
  pub inside : (i : ℕ) → i < count → get_or numbers i 0 < bound
  pub ordered : (i : ℕ) → i < count → behind numbers i ≤ get_or numbers i 0
  pub some : (i : ℕ) → i < count → get_or values (get_or numbers i 0) (pos 0) ≢ pos 0
  pub between : (i k : ℕ) → i < count → behind numbers i ≤ k → k < get_or numbers i 0 → get_or values k (pos 0) ≡ pos 0
  pub after : (k : ℕ) → behind numbers count ≤ k → k < bound → get_or values k (pos 0) ≡ pos 0
