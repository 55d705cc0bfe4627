-- Reading the input piece by piece. What was read is a prefix of the input, and all of it is covered; where the input is too
-- long, so many bytes were covered, so they were read.
use Rattle.std.proofs.Common.{ℕ, suc, zero, nat_eq, ◌≡◌, ◌≤◌, ◌<◌, ◌+◌, ◌^◌, ◌++◌, List, [], ◌∷◌, take, drop, length, sym, ap, ◌∙◌, subst, refl, arith, length-append, append_assoc, append-nil, Option, Some, None, Bool, true, false}
use Rattle.std.proofs.lemmas.List.{take-append-le}
use Rattle.std.proofs.lemmas.Bool.{eqb-true}
use Rattle.std.specs.Io.KnownBytes.{Consumes, IsAtEnd}
use Rattle.std.proofs.KnownBytes.{Consumes-trans}
use Rattle.vc_coverage.specs.Covering.{CoverageState, HasRead, bytes_read}
use Rattle.vc_flow.specs.Inputs.{IsLong, BeginsWith}
use Rattle.vc_decode_flow.specs.Steps.{IsRead}

pub read_more : (left mid new : Option (List ℕ)) (c d : CoverageState) (ended ended_now : Bool) (bytes piece : List ℕ) →
    IsRead left mid c ended bytes → Consumes mid new piece → (HasRead c bytes → HasRead d (bytes ++ piece)) → (ended_now ≡ true → IsAtEnd new) →
    IsRead left new d ended_now (bytes ++ piece)
read_more left mid new c d ended ended_now bytes piece r m h e =
    record { read = Consumes-trans left mid new bytes piece r.read m; covers = h r.covers; end = e }

long_of : (left left_now : Option (List ℕ)) (bytes : List ℕ) → Consumes left left_now bytes → 2 ^ 40 ≤ length bytes → IsLong left left_now
long_of None left_now bytes r l = tt
long_of (Some input) None bytes r l = absurd r
long_of (Some input) (Some rest) bytes r l =
    let same : length input ≡ length (bytes ++ rest) = ap length r in
    omega (arith, same, l, length-append bytes rest)

-- so many bytes were read
pub is_long : (left left_now : Option (List ℕ)) (c : CoverageState) (ended : Bool) (bytes : List ℕ) → IsRead left left_now c ended bytes → 2 ^ 40 ≤ bytes_read c → IsLong left left_now
is_long left left_now c ended bytes r l =
    long_of left left_now bytes r.read (subst (λ (n : ℕ). 2 ^ 40 ≤ n) r.covers.read l)

pub begins_read : (left left_now : Option (List ℕ)) (bytes : List ℕ) → Consumes left left_now bytes → BeginsWith left bytes
begins_read None left_now bytes r = tt
begins_read (Some input) None bytes r = absurd r
begins_read (Some input) (Some rest) bytes r = (rest, r)

read_nothing : (left : Option (List ℕ)) → Consumes left left []
read_nothing None = tt
read_nothing (Some input) = refl

-- before the first read
pub read_none : (left : Option (List ℕ)) (c : CoverageState) (ended : Bool) → ended ≡ false → HasRead c [] → IsRead left left c ended []
read_none left c ended e h =
    record { read = read_nothing left; covers = h; end = λ t. absurd (cc) }

pub begins_none : (left : Option (List ℕ)) → BeginsWith left []
begins_none None = tt
begins_none (Some input) = (input, refl)

take_twice : (n m : ℕ) (xs : List ℕ) → n ≤ m → take n (take m xs) ≡ take n xs
take_twice zero m xs l = refl
take_twice (suc n) zero xs l = absurd (omega (arith, l))
take_twice (suc n) (suc m) [] l = refl
take_twice (suc n) (suc m) (x ∷ xs) l =
    ap (λ (ys : List ℕ). x ∷ ys) (take_twice n m xs (omega (arith, l)))

-- the front of the buffer that was read into is what was read
pub read_next : (left mid new : Option (List ℕ)) (c d : CoverageState) (ended : Bool) (bytes : List ℕ) (count size : ℕ) (buf items now : List ℕ) →
    IsRead left mid c ended bytes → Consumes mid new (take count buf) → (count ≡ 0 → 0 < length buf → IsAtEnd new) → count ≤ length buf →
    count ≤ size → 0 < length buf → now ≡ take size (buf ++ drop (length buf) items) → HasRead d (bytes ++ take count now) →
    IsRead left new d (nat_eq count 0) (bytes ++ take count (take size (buf ++ drop (length buf) items)))
read_next left mid new c d ended bytes count size buf items now r m z l k p v h =
    let same : take count (take size (buf ++ drop (length buf) items)) ≡ take count buf = take_twice count size (buf ++ drop (length buf) items) k ∙ take-append-le count buf (drop (length buf) items) l in
    let piece : take count now ≡ take count buf = ap (λ (ys : List ℕ). take count ys) v ∙ same in
    subst (λ (ys : List ℕ). IsRead left new d (nat_eq count 0) (bytes ++ ys)) (sym same) (read_more left mid new c d ended (nat_eq count 0) bytes (take count buf) r m (λ x. subst (λ (ys : List ℕ). HasRead d (bytes ++ ys)) piece h) (λ e. z (eqb-true count 0 e) p))
