-- Whether memory was found is told by the reply: it is ENOMEM exactly where a call that asks for memory found none. So the reply
-- alone determines the event that is noted.
use Rattle.std.proofs.Common.{ℕ, ◌≡◌, Bool, true, false, Option, Some, None, List, refl, sym, ap}
use Rattle.vc_base.specs.declared.Errno.{Errno}
use Rattle.vc_base.specs.declared.Errno.TheVariants.{NoMem}
use Rattle.vc_base.specs.declared.Call.{Call}
use Rattle.vc_base.specs.declared.Call.TheVariants.{Open, ReqBufs, CreateBufs}
use Rattle.vc_base.specs.declared.Reply.{Reply}
use Rattle.vc_base.specs.declared.Reply.TheVariants.{Count, Created, Refused}
use Rattle.vc_base.specs.Buffers.{reqbufs_refusal, create_refusal}
use Rattle.vc_model.specs.Context.{Context, Slot, queue_of}
use Rattle.vc_model.specs.Answer.{answered, unless, if_found, answer, closed_answer, context_answer}
use Rattle.vc_shared.specs.Calls.{found_for}

counted : (c : Context) (o : Option Errno) (x : Context) (n : ℕ) → (unless c o (if_found c true (answered x (Count n)))).reply ≡ Refused NoMem → unless c o (if_found c true (answered x (Count n))) ≡ unless c o (if_found c false (answered x (Count n)))
counted c (Some errno) x n e = refl
counted c None x n e = absurd (cc)

made : (c : Context) (o : Option Errno) (x : Context) (n m : ℕ) → (unless c o (if_found c true (answered x (Created n m)))).reply ≡ Refused NoMem → unless c o (if_found c true (answered x (Created n m))) ≡ unless c o (if_found c false (answered x (Created n m)))
made c (Some errno) x n m e = refl
made c None x n m e = absurd (cc)

-- where a call with memory tells that it wants memory, it is the same as without
without_memory : (s : Slot) (request : Call) (bytes : List ℕ) → (answer s request bytes true).reply ≡ Refused NoMem → answer s request bytes true ≡ answer s request bytes false
unfolding answer closed_answer context_answer
without_memory None (Open kind) bytes e = absurd (cc)
without_memory None request bytes e = refl
without_memory (Some c) (ReqBufs side count) bytes e = counted c (reqbufs_refusal (queue_of c side)) _ _ e
without_memory (Some c) (CreateBufs side count size) bytes e =
    made c (create_refusal (queue_of c side) count size) _ _ _ e
without_memory (Some c) request bytes e = refl

found_or_same : (s : Slot) (request : Call) (bytes : List ℕ) (reply : Reply) → (answer s request bytes true).reply ≡ reply → answer s request bytes (found_for reply) ≡ answer s request bytes true
found_or_same s request bytes (Refused NoMem) e = sym (without_memory s request bytes e)
found_or_same s request bytes reply e = refl

-- the answer is the one with memory where the reply does not say otherwise, and the one without where it does
pub answer_found : (s : Slot) (request : Call) (bytes : List ℕ) (found : Bool) (reply : Reply) → (answer s request bytes found).reply ≡ reply → (found ≡ false → reply ≡ Refused NoMem) → answer s request bytes (found_for reply) ≡ answer s request bytes found
answer_found s request bytes true reply e want = found_or_same s request bytes reply e
answer_found s request bytes false reply e want = ap (λ r. answer s request bytes (found_for r)) (want refl)
