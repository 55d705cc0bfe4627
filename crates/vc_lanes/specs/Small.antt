-- Values whose coefficients fit three stages on 16 bits.
use Rattle.std.specs.Prelude.{ℕ, ◌<◌, ◌≤◌, ◌-◌, ◌^◌, List, ℤ, pos, get_or, unsigned_abs, Bool}
use Rattle.vc_defs.specs.Quantiser.{shift_at}

-- no coefficient of these values is beyond 4,095
abbrev pub AreSmall : Bool → List ℤ → Type 0
AreSmall intra q = (k : ℕ) → k < 64 → unsigned_abs (get_or q k (pos 0)) ≤ 2 ^ (12 - shift_at intra k) - 1
