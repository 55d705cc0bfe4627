-- No message of the wire is without a reply. Whatever a body asks, its reply has a length and a byte at least: a call
-- is answered, a claim and a finish say what came of them, and a body that asks nothing gets the reply to a bad
-- message.
use Rattle.std.proofs.Common.{ℕ, ◌≡◌, ◌<◌, ◌==◌, eqb, ltb, Bool, true, false, cond, ◌&&◌, is_none, Option, Some, None, List, [], ◌∷◌, length, drop, refl, sym, ap, ◌∙◌, subst, arith}
use Rattle.std.specs.Prelude.{option_map}
use Rattle.std.proofs.lemmas.Bool.{lt-ltb, ltb-true, false≢true}
use Rattle.std.proofs.lemmas.List.{append-nil}
use Rattle.vc_base.specs.declared.Call.{Call}
use Rattle.vc_base.specs.declared.Reply.{Reply}
use Rattle.vc_base.specs.declared.Reply.TheVariants.{Done, Desc, Fmt, Count, Created, Info, Taken, Happened, Value, Ready, Refused, Blocked}
use Rattle.vc_base.specs.Device.{DeviceEvent, call, claim, finish}
use Rattle.vc_model.specs.Coder.{Coder}
use Rattle.vc_model.specs.Context.{Context, Slot, Running}
use Rattle.vc_model.specs.Answer.{answer}
use Rattle.vc_model.specs.Runs.{is_claimable, JobData, job_data}
use Rattle.vc_model.specs.Devices.{DeviceState, DeviceReply, new_device, slot_of, job_of, ignored, call_answered, claim_slot, claim_first, finish_of, finish_slot, finish_job, device_step, device_after}
use Rattle.vc_model.specs.JobList.{waits, ListIsExact}
use Rattle.vc_model.specs.Standing.{job_in, job_in_slot}
use Rattle.vc_model.specs.Script.{Asked, AsksNothing, AsksCall, AsksClaim, AsksFinish, AsksRun}
use Rattle.vc_base.specs.Limits.{script_workers}
use Rattle.vc_model.specs.Messages.{number_at, messages, call_in, asked_call, asked_work, asked_in}
use Rattle.vc_model.specs.Wire.{reply_body, framed, device_reply, found_by, fault_by, asked_events, body_reply, first_reply, RepliesFrom, HasReplies, EachIsReplied}
use Rattle.vc_model.proofs.PartsOfTests.{and_right}
use Rattle.vc_model.proofs.JobListIsExact.{front_waits}
use Rattle.vc_model.proofs.EachSlotPrintsItsOwn.{Comes, comes_slots, comes_after}
use Rattle.vc_model.proofs.LinesArePrinted.{comes_workers, comes_exact, comes_held, some_job}

-- A body with a byte

framed_long : (c : ℕ) (body : List ℕ) → 4 < length (framed (c ∷ body))
framed_long c body = omega arith

reply_long : (request : Call) (reply : Reply) (handed : List ℕ) → 4 < length (framed (reply_body request reply handed))
reply_long request Done handed = omega arith
reply_long request (Desc fourcc) handed = omega arith
reply_long request (Fmt f) handed = omega arith
reply_long request (Count count) handed = omega arith
reply_long request (Info index size flags) handed = omega arith
reply_long request (Taken index used flags seq stamp) handed = omega arith
reply_long request (Happened event seq changes pending) handed = omega arith
reply_long request (Value value) handed = omega arith
reply_long request (Ready read write urgent) handed = omega arith
reply_long request (Created index count) handed = omega arith
reply_long request (Refused errno) handed = omega arith
reply_long request Blocked handed = omega arith

-- One event

abbrev pub IsReplied : DeviceEvent → DeviceReply → Type 0
IsReplied e told = 4 < length (device_reply e told)

pub call_replied : (coder : Coder) (d : DeviceState) (j : ℕ) (request : Call) (bytes : List ℕ) (found : Bool) → j < length d.slots → IsReplied (call j request bytes found) (device_step coder d (call j request bytes found)).reply
unfolding device_step
call_replied coder d j request bytes found h =
    let a = answer (slot_of d j) request bytes found in
    subst (λ b. IsReplied (call j request bytes found) (cond b (call_answered d j a) (ignored d)).reply) (sym (lt-ltb j (length d.slots) h)) (reply_long request a.reply a.bytes)

-- a claim
front_replied : (d : DeviceState) (worker j : ℕ) (rest : List ℕ) (s : Slot) → is_claimable s ≡ true → IsReplied (claim worker) (claim_slot (record d { waiting = rest }) worker j s).reply
unfolding is_claimable
front_replied d worker j rest None p = absurd (false≢true p)
front_replied d worker j rest (Some c) p = omega arith

first_replied : (d : DeviceState) (worker : ℕ) (waiting : List ℕ) → d.waiting ≡ waiting → ListIsExact d → IsReplied (claim worker) (claim_first d worker waiting).reply
first_replied d worker [] e x = omega arith
first_replied d worker (j ∷ rest) e x =
    front_replied d worker j rest (slot_of d j) (sym (x.exact j) ∙ (ap (λ l. waits l j) e ∙ front_waits j rest))

claim_replied : (coder : Coder) (d : DeviceState) (worker : ℕ) → worker < length d.workers → ListIsExact d → is_none (job_of d worker) ≡ true → IsReplied (claim worker) (device_step coder d (claim worker)).reply
unfolding device_step
claim_replied coder d worker l x free =
    subst (λ b. IsReplied (claim worker) (cond b (cond (is_none (job_of d worker)) (claim_first d worker d.waiting) (ignored d)) (ignored d)).reply)
    (sym (lt-ltb worker (length d.workers) l))
    (subst (λ b. IsReplied (claim worker) (cond b (claim_first d worker d.waiting) (ignored d)).reply) (sym free) (first_replied d worker d.waiting refl x))

-- a finish by a worker that has a job
job_replied :
    (coder : Coder) (d : DeviceState) (worker j : ℕ) (c : Context) (fault : Bool) (info : JobData) (o : Option Running)
    → option_map (job_data c) o ≡ Some info → IsReplied (finish worker fault) (finish_job coder d worker j c o fault).reply
job_replied coder d worker j c fault info None e = absurd (cc)
job_replied coder d worker j c fault info (Some r) e = omega arith

slot_replied : (coder : Coder) (d : DeviceState) (worker j : ℕ) (fault : Bool) (info : JobData) (s : Slot) → job_in s ≡ Some info → IsReplied (finish worker fault) (finish_slot coder d worker j s fault).reply
slot_replied coder d worker j fault info None e = absurd (cc)
slot_replied coder d worker j fault info (Some c) e = job_replied coder d worker j c fault info c.running e

finish_replied : (coder : Coder) (n : ℕ) (d : DeviceState) (worker j : ℕ) (fault : Bool) → Comes coder n d → job_of d worker ≡ Some j → IsReplied (finish worker fault) (device_step coder d (finish worker fault)).reply
unfolding device_step
finish_replied coder n d worker j fault c e =
    let r = (comes_held coder n d c).running worker j e in
    let p : job_in (slot_of d j) ≡ Some r.0 = sym (ap (job_in_slot d) e) ∙ r.1 in
    subst (λ o. IsReplied (finish worker fault) (finish_of coder d worker o fault).reply) (sym e) (slot_replied coder d worker j fault r.0 (slot_of d j) p)

-- What bodies ask is in range

abbrev pub InRange : ℕ → Option Asked → Type 0
InRange n (Some (AsksCall slot request bytes)) = slot < n
InRange n (Some (AsksClaim worker)) = worker < script_workers
InRange n asked = Unit {0}

either_range : (n : ℕ) (a b : Bool) (x y z : Option Asked) → InRange n x → InRange n y → InRange n z → InRange n (cond a x (cond b y z))
either_range n true b x y z p q r = p
either_range n false true x y z p q r = q
either_range n false false x y z p q r = r

claim_range : (n worker : ℕ) (b : Bool) → (b ≡ true → worker < script_workers) → InRange n (cond b (Some (AsksClaim worker)) None)
claim_range n worker true h = h refl
claim_range n worker false h = tt

finish_range : (n worker : ℕ) (b : Bool) → InRange n (cond b (Some (AsksFinish worker)) None)
finish_range n worker true = tt
finish_range n worker false = tt

called_range : (n slot : ℕ) (body : List ℕ) (o : Option Call) → slot < n → InRange n (asked_call slot body o)
called_range n slot body None h = tt
called_range n slot body (Some request) h = h

call_range : (n slot : ℕ) (body : List ℕ) (o : Option Call) (b : Bool) → ltb slot n ≡ b → InRange n (cond b (asked_call slot body o) None)
call_range n slot body o true e = called_range n slot body o (ltb-true slot n e)
call_range n slot body o false e = tt

pub asked_range : (n : ℕ) (body : List ℕ) → InRange n (asked_in n body)
asked_range n [] = tt
asked_range n (code ∷ fields) =
    let body = code ∷ fields in
    let s = number_at body 1 in
    either_range n (eqb code 0x20) (eqb code 0x21) (asked_work body (AsksClaim s)) (asked_work body (AsksFinish s))
    (cond (ltb s n) (asked_call s body (call_in code body)) None)
    (claim_range n s ((length body == 5) && ltb s script_workers) (λ e. ltb-true s script_workers (and_right (length body == 5) (ltb s script_workers) e)))
    (finish_range n s ((length body == 5) && ltb s script_workers)) (call_range n s body (call_in code body) (ltb s n) refl)

-- Bodies

pub one_replied : (coder : Coder) (d : DeviceState) (asked : Option Asked) (e : DeviceEvent) → IsReplied e (device_step coder d e).reply → 4 < length (body_reply coder d asked (e ∷ []))
one_replied coder d asked e h =
    subst (λ l. 4 < length l) (sym (append-nil (device_reply e (device_step coder d e).reply))) h

pub claim_body :
    (coder : Coder) (n : ℕ) (d : DeviceState) (worker : ℕ) → worker < script_workers → Comes coder n d → (b : Bool) → is_none (job_of d worker) ≡ b
    → 4 < length (body_reply coder d (Some (AsksClaim worker)) (cond b (claim worker ∷ []) []))
claim_body coder n d worker h c true e =
    let w = comes_workers coder n d c in
    one_replied coder d (Some (AsksClaim worker)) (claim worker) (claim_replied coder d worker (omega arith) (comes_exact coder n d c) e)
claim_body coder n d worker h c false e = omega arith

pub finish_body :
    (coder : Coder) (n : ℕ) (d : DeviceState) (worker : ℕ) (fault : Bool) → Comes coder n d → (b : Bool) → is_none (job_of d worker) ≡ b
    → 4 < length (body_reply coder d (Some (AsksFinish worker)) (cond b [] (finish worker fault ∷ [])))
finish_body coder n d worker fault c true e = omega arith
finish_body coder n d worker fault c false e =
    let j = some_job (job_of d worker) e in
    one_replied coder d (Some (AsksFinish worker)) (finish worker fault) (finish_replied coder n d worker j.0 fault c j.1)

body_replied : (coder : Coder) (n : ℕ) (d : DeviceState) (asked : Option Asked) (reply : List ℕ) → InRange n asked → Comes coder n d → 4 < length (body_reply coder d asked (asked_events d asked reply))
body_replied coder n d None reply h c = omega arith
body_replied coder n d (Some AsksNothing) reply h c = omega arith
body_replied coder n d (Some (AsksRun worker)) reply h c = omega arith
body_replied coder n d (Some (AsksCall slot request bytes)) reply h c =
    let z = comes_slots coder n d c in
    one_replied coder d (Some (AsksCall slot request bytes)) (call slot request bytes (found_by reply)) (call_replied coder d slot request bytes (found_by reply) (omega arith))
body_replied coder n d (Some (AsksClaim worker)) reply h c =
    claim_body coder n d worker h c (is_none (job_of d worker)) refl
body_replied coder n d (Some (AsksFinish worker)) reply h c =
    finish_body coder n d worker (fault_by reply) c (is_none (job_of d worker)) refl

each_from : (coder : Coder) (n : ℕ) (d : DeviceState) (bodies : List (List ℕ)) (output : List ℕ) → Comes coder n d → RepliesFrom coder n d bodies output → HasReplies bodies output
each_from coder n d [] output c r = r
each_from coder n d (body ∷ rest) output c r =
    let reply = first_reply output in
    let asked = asked_in n body in
    let es = asked_events d asked reply in
    let long = body_replied coder n d asked reply (asked_range n body) c in
    (subst (λ l. 4 < length l) (sym r.0) long, each_from coder n (device_after coder d es) rest (drop (length reply) output) (comes_after coder n d es c) r.1)

pub each_is_replied : EachIsReplied
each_is_replied coder n input output r =
    each_from coder n (new_device n) (messages input).bodies output (record { past = []; same = refl }) r
