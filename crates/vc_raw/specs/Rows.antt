-- The rows of bytes that the generator's pictures have in each raw format.
use Rattle.std.specs.Prelude.{ℕ, ◌≤◌, ◌+◌, ◌/◌, ◌%◌, nat_eq, if◌then◌else◌}
use Rattle.vc_defs.specs.Raw.{generated_sample}
use Rattle.vc_raw.specs.declared.Row.{Row}
use Rattle.vc_raw.specs.declared.Row.TheVariants.{Luma, First, Second, Turns, Packed}

-- byte k of row y
abbrev pub row_byte : Row → ℕ → ℕ → ℕ → ℕ → ℕ
row_byte Luma k y n s = generated_sample 0 k y n s
row_byte First k y n s = generated_sample 1 k y n s
row_byte Second k y n s = generated_sample 2 k y n s
row_byte Turns k y n s = generated_sample (1 + k % 2) (k / 2) y n s
row_byte Packed k y n s =
    if nat_eq (k % 2) 0 then generated_sample 0 (k / 2) y n s
    else (if nat_eq (k % 4) 1 then generated_sample 1 (k / 4) y n s else generated_sample 2 (k / 4) y n s)

-- a size that pictures can have
abbrev pub IsSize : ℕ → ℕ → Type 0
IsSize width height = (16 ≤ width) × (width ≤ 4096) × (16 ≤ height) × (height ≤ 2160)
