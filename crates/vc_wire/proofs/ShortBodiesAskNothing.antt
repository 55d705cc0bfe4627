-- A body without a whole head asks for nothing: every operation has five bytes at least. A longer one with neither a claim's nor
-- a finish's byte asks for the call of its operation.
use Rattle.std.proofs.Common.{ℕ, ◌≡◌, ◌<◌, Bool, true, false, List, [], ◌∷◌, length, cond, refl, ap, ◌∙◌, arith, Option, Some, None}
use Rattle.std.specs.Prelude.{slice_index, ◌==◌, nat_lt, is_none, option_and_then}
use Rattle.std.specs.List.{list_all, find}
use Rattle.std.proofs.lemmas.Bool.{false≢true}
use Rattle.vc_base.specs.declared.Call.{Call}
use Rattle.vc_model.specs.Script.{Asked, AsksCall, AsksClaim, AsksFinish}
use Rattle.vc_model.specs.Messages.{number_at, Operation, operations, call_in, asked_call, asked_work, asked_by, asked_in, payload_in}
use Rattle.vc_model.proofs.PartsOfTests.{and_left, and_right}

is_none_is : (x : Option Call) → is_none x ≡ true → x ≡ None
is_none_is None e = refl
is_none_is (Some x) e = absurd (false≢true e)

abbrev asks_none : List ℕ → Operation → Bool
asks_none body o = is_none (o.request body)

found_by : (o : Operation) (rest : List Operation) (code : ℕ) (body : List ℕ) → asks_none body o ≡ true
    → option_and_then (λ p. p.request body) (find (λ p. p.code == code) rest) ≡ None → (b : Bool)
    → option_and_then (λ p. p.request body) (cond b (Some o) (find (λ p. p.code == code) rest)) ≡ None
found_by o rest code body e f true = is_none_is (o.request body) e
found_by o rest code body e f false = f

none_found : (os : List Operation) (code : ℕ) (body : List ℕ) → list_all (asks_none body) os ≡ true → option_and_then (λ p. p.request body) (find (λ p. p.code == code) os) ≡ None
none_found [] code body e = refl
none_found (o ∷ rest) code body e =
    found_by o rest code body (and_left (asks_none body o) (list_all (asks_none body) rest) e)
    (none_found rest code body (and_right (asks_none body o) (list_all (asks_none body) rest) e)) (o.code == code)

short_call : (code : ℕ) (body : List ℕ) → length body < 5 → call_in code body ≡ None
short_call code [] h = none_found operations code [] refl
short_call code (a ∷ []) h = none_found operations code (a ∷ []) refl
short_call code (a ∷ b ∷ []) h = none_found operations code (a ∷ b ∷ []) refl
short_call code (a ∷ b ∷ c ∷ []) h = none_found operations code (a ∷ b ∷ c ∷ []) refl
short_call code (a ∷ b ∷ c ∷ d ∷ []) h = none_found operations code (a ∷ b ∷ c ∷ d ∷ []) refl
short_call code (a ∷ b ∷ c ∷ d ∷ e ∷ rest) h = absurd (omega arith)

short_work : (body : List ℕ) (asked : Asked) → length body < 5 → asked_work body asked ≡ None
short_work [] asked h = refl
short_work (a ∷ []) asked h = refl
short_work (a ∷ b ∷ []) asked h = refl
short_work (a ∷ b ∷ c ∷ []) asked h = refl
short_work (a ∷ b ∷ c ∷ d ∷ []) asked h = refl
short_work (a ∷ b ∷ c ∷ d ∷ e ∷ rest) asked h = absurd (omega arith)

by_none : (s t u : Bool) (x y z : Option Asked) → x ≡ None → y ≡ None → z ≡ None → cond s x (cond t y (cond u z None)) ≡ None
by_none true t u x y z p q r = p
by_none false true u x y z p q r = q
by_none false false true x y z p q r = r
by_none false false false x y z p q r = refl

pub short_asks : (n : ℕ) (body : List ℕ) → length body < 5 → asked_in n body ≡ None
short_asks n [] h = refl
short_asks n (code ∷ fields) h =
    let body = code ∷ fields in
    by_none (code == 0x20) (code == 0x21) (nat_lt (number_at body 1) n) (asked_work body (AsksClaim (number_at body 1))) (asked_work body (AsksFinish (number_at body 1)))
    (asked_call (number_at body 1) body (call_in code body)) (short_work body (AsksClaim (number_at body 1)) h) (short_work body (AsksFinish (number_at body 1)) h)
    (ap (asked_call (number_at body 1) body) (short_call code body h))

-- A body with a first byte asks by it

by_call : (n code : ℕ) (body : List ℕ) (request : Call) → (code == 0x20) ≡ false → (code == 0x21) ≡ false → nat_lt (number_at body 1) n ≡ true
    → call_in code body ≡ Some request → asked_by n code body ≡ Some (AsksCall (number_at body 1) request (payload_in request body))
by_call n code body request e f l k =
    let claims = asked_work body (AsksClaim (number_at body 1)) in
    let finishes = asked_work body (AsksFinish (number_at body 1)) in
    let calls = asked_call (number_at body 1) body (call_in code body) in
    ap (λ b. cond b claims (cond (code == 0x21) finishes (cond (nat_lt (number_at body 1) n) calls None))) e
    ∙ (ap (λ b. cond b finishes (cond (nat_lt (number_at body 1) n) calls None)) f ∙ (ap (λ b. cond b calls None) l ∙ ap (asked_call (number_at body 1) body) k))

pub call_asked : (n : ℕ) (body : List ℕ) (request : Call) → 0 < length body → (slice_index body 0 == 0x20) ≡ false → (slice_index body 0 == 0x21) ≡ false
    → nat_lt (number_at body 1) n ≡ true → call_in (slice_index body 0) body ≡ Some request
    → asked_in n body ≡ Some (AsksCall (number_at body 1) request (payload_in request body))
call_asked n [] request h e f l k = absurd (omega arith)
call_asked n (code ∷ fields) request h e f l k = by_call n code (code ∷ fields) request e f l k
