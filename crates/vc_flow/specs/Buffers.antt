-- The payload of a buffer that was taken, and what is written of it.
use Rattle.std.specs.Prelude.{ℕ, ◌≡◌, ◌≤◌, take, length, Option, Some, None, List, Result, OnOk, OnErr}
use Rattle.std.specs.Io.KnownBytes.{Appends}
use Rattle.vc_io.specs.Written.{AppendsFront}

-- the payload is there, and has so many bytes at least
abbrev pub IsThere : Option (List ℕ) → ℕ → Type 0
IsThere None used = ⊥
IsThere (Some payload) used = used ≤ length payload

-- the payload is there, and these are its first bytes
abbrev pub HasBytes : Option (List ℕ) → ℕ → List ℕ → Type 0
HasBytes None used bytes = ⊥
HasBytes (Some payload) used bytes = take used payload ≡ bytes

-- where it came through, exactly the used bytes of the payload were written
abbrev pub WritesUsed : {T E : Type 0} (result : Result T E) (payload : Option (List ℕ)) (used : ℕ) (before after : Option (List ℕ)) → Type 0
WritesUsed result payload used before after =
    (bytes : List ℕ) → HasBytes payload used bytes → OnOk result (Appends before after bytes)

-- where it failed, a prefix of them was
abbrev pub WritesPrefix : {T E : Type 0} (result : Result T E) (payload : Option (List ℕ)) (used : ℕ) (before after : Option (List ℕ)) → Type 0
WritesPrefix result payload used before after =
    (bytes : List ℕ) → HasBytes payload used bytes → OnErr result (AppendsFront before after bytes)
