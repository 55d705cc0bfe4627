-- How much of an input was read, by the bytes that were consumed one after another.
use Rattle.std.proofs.Common.{ℕ, ◌≡◌, ◌≤◌, ◌<◌, ◌+◌, ◌^◌, List, [], ◌++◌, length, Option, Some, None, ap, arith, length-append}
use Rattle.std.specs.Io.KnownBytes.{Consumes}
use Rattle.vc_flow.specs.Inputs.{IsLong, IsBelow, IsJustLong}

-- nothing was read
pub nothing_below : (left : Option (List ℕ)) → IsBelow left left
nothing_below None = tt
nothing_below (Some input) = omega arith

pub is_below : (left left_now : Option (List ℕ)) (bytes : List ℕ) → Consumes left left_now bytes → length bytes < 2 ^ 40 → IsBelow left left_now
is_below None left_now bytes c l = tt
is_below (Some input) None bytes c l = absurd c
is_below (Some input) (Some rest) bytes c l =
    let same : length input ≡ length (bytes ++ rest) = ap length c in
    omega (arith, l, same, length-append bytes rest)

pub is_just_long : (room : ℕ) (left left_now : Option (List ℕ)) (bytes : List ℕ) → Consumes left left_now bytes → 2 ^ 40 ≤ length bytes →
    length bytes < 2 ^ 40 + room → IsJustLong room left left_now
is_just_long room None left_now bytes c l m = tt
is_just_long room (Some input) None bytes c l m = absurd c
is_just_long room (Some input) (Some rest) bytes c l m =
    let same : length input ≡ length (bytes ++ rest) = ap length c in
    (omega (arith, l, same, length-append bytes rest), omega (arith, m, same, length-append bytes rest))

pub long_of_just : (room : ℕ) (left left_now : Option (List ℕ)) → IsJustLong room left left_now → IsLong left left_now
long_of_just room None left_now j = tt
long_of_just room (Some input) None j = absurd j
long_of_just room (Some input) (Some rest) j = j.0
