-- Changes of what the user holds: a payload that is replaced twice is replaced once, and bytes over the front of a payload
-- leave what is behind them.
use Rattle.std.proofs.Common.{ap, ◌∙◌, ◌≡◌, ◌≤◌, ◌++◌, ℕ, List, Option, take, drop, length, arith, length-append, length-drop}
use Rattle.std.proofs.lemmas.List.{set-set, take_all}
use Rattle.vc_base.specs.declared.Side.{Side}
use Rattle.vc_base.specs.declared.Side.TheVariants.{Out, Cap}
use Rattle.vc_queue.specs.Holds.{HoldState, with_payload}

pub with_twice : (h : HoldState) (side : Side) (i : ℕ) (p q : Option (List ℕ)) → with_payload (with_payload h side i p) side i q ≡ with_payload h side i q
with_twice h Out i p q = ap (λ l. record h { out = l }) (set-set h.out i p q)
with_twice h Cap i p q = ap (λ l. record h { cap = l }) (set-set h.cap i p q)

-- bytes over the front of a payload
pub over_front : (items given bytes : List ℕ) (n : ℕ) → given ≡ bytes → n ≡ length items → length bytes ≤ n → take n (given ++ drop (length given) items) ≡ bytes ++ drop (length bytes) items
over_front items given bytes n e en h =
    ap (λ g. take n (g ++ drop (length g) items)) e
    ∙ take_all n (bytes ++ drop (length bytes) items) (omega (arith, h, en, length-append bytes (drop (length bytes) items), length-drop (length bytes) items))
