-- A call that fails hands its error on by `?`: the answer is an error, and what holds after one holds.
use Rattle.std.proofs.Common.{◌≡◌}
use Rattle.std.specs.Prelude.{Result, Ok, Err, IsErr, OnErr, false, true}

pub on_err : {A E P : Type 0} (r : Result A E) → IsErr r → P → OnErr r P
on_err (Ok x) i p = let clash : false ≡ true = i in cc
on_err (Err e) i p = p
