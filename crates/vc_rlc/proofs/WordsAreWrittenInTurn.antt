-- Writing words one after the other, by what is left to write. What is written first is the front of what was left,
-- so that to write the rest is to write all; and where the front doesn't fit, nothing longer does.
use Rattle.std.proofs.Common.{◌≡◌, refl, ℕ, suc, ◌+◌, ◌-◌, ◌<◌, ◌≤◌, List, ◌∷◌, ◌++◌, length, replicate, arith}
use Rattle.std.specs.Prelude.{Result, Ok, Err, IsErr, false, true}
use Rattle.std.proofs.lemmas.Grind.{flat_map-append}
use Rattle.vc_defs.specs.declared.Full.{Full}
use Rattle.vc_defs.specs.Bytes.{Writes}
use Rattle.vc_defs.specs.Words.{word_bytes, words_bytes}
use Rattle.vc_defs.proofs.WritesInParts.{writes_then, writes_not}

-- To write the words that are left now is to write all of them from the start.
pub record Left (old : List ℕ) (at : ℕ) (total now : List ℕ) (end : ℕ) (left : List ℕ) : Type 0 where
  pub so : (new : List ℕ) (r : Result ℕ Full) → Writes now new end (words_bytes left) r → Writes old new at (words_bytes total) r

pub all_left : (old : List ℕ) (at : ℕ) (total : List ℕ) → Left old at total old at total
all_left old at total = record { so = λ new r q. q }

pub left_after : {old : List ℕ} {at : ℕ} {total now : List ℕ} {end : ℕ} (now' : List ℕ) (end' : ℕ) (ws left : List ℕ) → Left old at total now end (ws ++ left) → Writes now now' end (words_bytes ws) (Ok end') → Left old at total now' end' left
left_after {now = now} {end = end} now' end' ws left k p =
    record { so = λ new r q. k.so new r (rw (flat_map-append word_bytes ws left) (writes_then now now' new end end' (words_bytes ws) (words_bytes left) r p q)) }

pub left_not : {old : List ℕ} {at : ℕ} {total now : List ℕ} {end : ℕ} (new : List ℕ) (ws left : List ℕ) (e : Full) → Left old at total now end (ws ++ left) → Writes now new end (words_bytes ws) (Err e) → Writes old new at (words_bytes total) (Err e)
left_not {now = now} {end = end} new ws left e k p =
    k.so new (Err e) (rw (flat_map-append word_bytes ws left) (writes_not now new end (words_bytes ws) (words_bytes left) e p))

-- an answer that is an error is the error that was met
pub err_is : (old new : List ℕ) (at : ℕ) (bytes : List ℕ) (e : Full) (r : Result ℕ Full) → Writes old new at bytes (Err e) → IsErr r → Writes old new at bytes r
err_is old new at bytes e (Ok x) p i = let clash : false ≡ true = i in cc
err_is old new at bytes e (Err d) p i = p

-- where a write ended is inside the bytes that it left
pub ended_inside : (now now' : List ℕ) (end end' : ℕ) (bytes : List ℕ) → length now' ≡ length now → Writes now now' end bytes (Ok end') → end' ≤ length now'
ended_inside now now' end end' bytes e p = omega arith

-- so many of one word and others, one turn later
pub one_fewer : (n turn w : ℕ) (others : List ℕ) → turn < n → replicate (n - turn) w ++ others ≡ w ∷ (replicate (n - (turn + 1)) w ++ others)
one_fewer n turn w others h =
    let e : n - turn ≡ suc (n - (turn + 1)) = omega arith in
    rw e refl
