-- The bytes that a body queues with a buffer are as many as its call says.
use Rattle.std.proofs.Common.{ℕ, ◌-◌, ◌==◌, eqb, ltb, nat_le, Bool, true, false, cond, ◌&&◌, Option, Some, None, List, [], ◌∷◌, length}
use Rattle.std.specs.Prelude.{option_and_then}
use Rattle.std.specs.List.{find}
use Rattle.std.proofs.lemmas.List.{length-drop}
use Rattle.vc_base.specs.declared.Side.{Side}
use Rattle.vc_base.specs.declared.Side.TheVariants.{Out}
use Rattle.vc_base.specs.declared.Kind.{Kind}
use Rattle.vc_base.specs.declared.Format.{Format}
use Rattle.vc_base.specs.declared.Call.{Call}
use Rattle.vc_base.specs.declared.Call.TheVariants.{Open, EnumFmt, GetFmt, TryFmt, SetFmt, ReqBufs, CreateBufs, QueryBuf, QBuf, DqBuf, StreamOn, StreamOff}
use Rattle.vc_model.specs.Script.{Asked, AsksCall, AsksClaim, AsksFinish, HasUsedBytes}
use Rattle.vc_base.specs.Limits.{script_workers}
use Rattle.vc_model.specs.Messages.{number_at, kind_of, side_of, format_at, sized, on_side, on_format, with_kind, queue_output, stamp_at, Operation, operations, call_in, payload_in, asked_call, asked_work, asked_in}

-- a call that a body asks for has the body's payload
abbrev HasPayload : List ℕ → Option Call → Type 0
HasPayload body None = Unit {0}
HasPayload body (Some request) = HasUsedBytes request (payload_in request body)

sized_payload : (size : ℕ) (body : List ℕ) (o : Option Call) → HasPayload body o → HasPayload body (sized size body o)
sized_payload size body o h = split (length body == size)
  where
    split : (b : Bool) → HasPayload body (cond b o None)
    split true = h
    split false = tt

side_payload : (body : List ℕ) (f : Side → Call) → ((s : Side) → HasPayload body (Some (f s))) → HasPayload body (on_side body f)
side_payload body f h = split (side_of (number_at body 5))
  where
    split : (o : Option Side) → HasPayload body (option_and_then (λ s. Some (f s)) o)
    split None = tt
    split (Some s) = h s

format_payload : (body : List ℕ) (f : Side → Format → Call) → ((s : Side) (x : Format) → HasPayload body (Some (f s x))) → HasPayload body (on_format body f)
format_payload body f h = split (side_of (number_at body 5)) (format_at body 9)
  where
    split : (o : Option Side) (p : Option Format) → HasPayload body (option_and_then (λ s. option_and_then (λ x. Some (f s x)) p) o)
    split None p = tt
    split (Some s) None = tt
    split (Some s) (Some x) = h s x

kind_payload : (body : List ℕ) → HasPayload body (with_kind body)
kind_payload body = split (kind_of (number_at body 5))
  where
    split : (o : Option Kind) → HasPayload body (option_and_then (λ kind. Some (Open kind)) o)
    split None = tt
    split (Some kind) = tt

output_payload : (body : List ℕ) → HasPayload body (queue_output body)
output_payload body = split (nat_le 17 (length body))
  where
    split : (b : Bool) → HasPayload body (cond b (Some (QBuf Out (number_at body 5) (length body - 17) (stamp_at body 9))) None)
    split true = length-drop 17 body
    split false = tt

HavePayload : List ℕ → List Operation → Type 0
HavePayload body [] = Unit {0}
HavePayload body (o ∷ os) = HasPayload body (o.request body) × HavePayload body os

one_payload :
    (body : List ℕ) (o : Operation) (rest : Option Operation) → HasPayload body (o.request body)
    → HasPayload body (option_and_then (λ o. o.request body) rest) → (b : Bool)
    → HasPayload body (option_and_then (λ o. o.request body) (cond b (Some o) rest))
one_payload body o rest h k true = h
one_payload body o rest h k false = k

found_payload : (code : ℕ) (body : List ℕ) (os : List Operation) → HavePayload body os → HasPayload body (option_and_then (λ o. o.request body) (find (λ o. o.code == code) os))
unfolding HavePayload
found_payload code body [] h = tt
found_payload code body (o ∷ os) h =
    one_payload body o (find (λ o. o.code == code) os) h.0 (found_payload code body os h.1) (o.code == code)

operations_payload : (body : List ℕ) → HavePayload body operations
unfolding HavePayload
operations_payload body = (
  sized_payload 9 body (with_kind body) (kind_payload body),
  (
    sized_payload 5 body _ tt,
    (
      sized_payload 13 body _ (side_payload body (λ side. EnumFmt side (number_at body 9)) (λ s. tt)),
      (
        sized_payload 9 body _ (side_payload body (λ side. GetFmt side) (λ s. tt)),
        (
          sized_payload 25 body _ (format_payload body (λ side format. TryFmt side format) (λ s x. tt)),
          (
            sized_payload 25 body _ (format_payload body (λ side format. SetFmt side format) (λ s x. tt)),
            (
              sized_payload 13 body _ (side_payload body (λ side. ReqBufs side (number_at body 9)) (λ s. tt)),
              (
                sized_payload 13 body _ (side_payload body (λ side. QueryBuf side (number_at body 9)) (λ s. tt)),
                (
                  output_payload body,
                  (
                    sized_payload 9 body _ tt,
                    (
                      sized_payload 9 body _ (side_payload body (λ side. DqBuf side false) (λ s. tt)),
                      (
                        sized_payload 9 body _ (side_payload body (λ side. DqBuf side true) (λ s. tt)),
                        (
                          sized_payload 9 body _ (side_payload body (λ side. StreamOn side) (λ s. tt)),
                          (
                            sized_payload 9 body _ (side_payload body (λ side. StreamOff side) (λ s. tt)),
                            (
                              sized_payload 9 body _ tt,
                              (
                                sized_payload 9 body _ tt,
                                (
                                  sized_payload 5 body _ tt,
                                  (
                                    sized_payload 5 body _ tt,
                                    (
                                      sized_payload 9 body _ tt,
                                      (
                                        sized_payload 9 body _ tt,
                                        (
                                          sized_payload 9 body _ tt,
                                          (
                                            sized_payload 13 body _ tt,
                                            (
                                              sized_payload 5 body _ tt,
                                              (
                                                sized_payload 17 body _ (side_payload body (λ side. CreateBufs side (number_at body 9) (number_at body 13)) (λ s. tt)),
                                                tt,
                                              ),
                                            ),
                                          ),
                                        ),
                                      ),
                                    ),
                                  ),
                                ),
                              ),
                            ),
                          ),
                        ),
                      ),
                    ),
                  ),
                ),
              ),
            ),
          ),
        ),
      ),
    ),
  ),
)

-- Bodies

-- what a call queues
abbrev pub IsFairAsked : Option Asked → Type 0
IsFairAsked (Some (AsksCall slot request bytes)) = HasUsedBytes request bytes
IsFairAsked asked = Unit {0}

call_fair : (slot : ℕ) (body : List ℕ) (o : Option Call) → HasPayload body o → IsFairAsked (asked_call slot body o)
call_fair slot body None h = tt
call_fair slot body (Some request) h = h

either_fair : (a b : Bool) (x y z : Option Asked) → IsFairAsked x → IsFairAsked y → IsFairAsked z → IsFairAsked (cond a x (cond b y z))
either_fair true b x y z p q r = p
either_fair false true x y z p q r = q
either_fair false false x y z p q r = r

when_fair : (b : Bool) (x : Option Asked) → IsFairAsked x → IsFairAsked (cond b x None)
when_fair true x h = h
when_fair false x h = tt

pub asked_fair : (n : ℕ) (body : List ℕ) → IsFairAsked (asked_in n body)
asked_fair n [] = tt
asked_fair n (code ∷ fields) =
    let body = code ∷ fields in
    let s = number_at body 1 in
    let ok = (length body == 5) && ltb s script_workers in
    either_fair (eqb code 0x20) (eqb code 0x21) (asked_work body (AsksClaim s)) (asked_work body (AsksFinish s))
    (cond (ltb s n) (asked_call s body (call_in code body)) None) (when_fair ok (Some (AsksClaim s)) tt) (when_fair ok (Some (AsksFinish s)) tt)
    (when_fair (ltb s n) (asked_call s body (call_in code body)) (call_fair s body (call_in code body) (found_payload code body operations (operations_payload body))))
