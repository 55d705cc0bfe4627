-- Bytes that were put at a place stand there, and those before and behind are as they were.
use Rattle.std.proofs.Common.{◌≡◌, ◌∙◌, sym, ap, ℕ, ◌+◌, ◌≤◌, List, ◌++◌, length, take, drop, arith, append_assoc, length-append, length-take, length-drop}
use Rattle.std.proofs.lemmas.List.{take_at, take-append-le, take-take, length-take-le}
use Rattle.vc_resync.specs.Collecting.{put_at}

pub length_put : (out : List ℕ) (at : ℕ) (bytes : List ℕ) → at + length bytes ≤ length out → length (put_at out at bytes) ≡ length out
length_put out at bytes h =
    omega (arith, length-append (take at out) (bytes ++ drop (at + length bytes) out), length-append bytes (drop (at + length bytes) out), length-take at out, length-drop (at + length bytes) out)

-- what stands before their end
pub put_to_end : (out : List ℕ) (at : ℕ) (bytes : List ℕ) (n : ℕ) → at + length bytes ≤ length out → n ≡ at + length bytes → take n (put_at out at bytes) ≡ take at out ++ bytes
put_to_end out at bytes n h e =
    let long : length (take at out ++ bytes) ≡ n = omega (arith, length-append (take at out) bytes, length-take-le at out (omega arith), e) in
    ap (λ t. take n t) (sym (append_assoc (take at out) bytes (drop (at + length bytes) out))) ∙ take_at (take at out ++ bytes) (drop (at + length bytes) out) n long

-- what stands before them
pub put_before : (out : List ℕ) (at : ℕ) (bytes : List ℕ) (n : ℕ) → at ≤ length out → n ≤ at → take n (put_at out at bytes) ≡ take n out
put_before out at bytes n h e =
    take-append-le n (take at out) (bytes ++ drop (at + length bytes) out) (omega (arith, length-take-le at out h)) ∙ take-take n at out e
