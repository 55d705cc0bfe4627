-- Whatever memory and the engine choose at each message of an input, there is an output with these replies, where no run of the
-- codec gives more than the longest buffer has. A reply that was given by a choice is read again as one that gives the same reply
-- and leaves the same device, and its length, which four bytes can say, tells where it ends; so the replies in their order are an
-- output.
use Rattle.std.proofs.Common.{ℕ, ◌≡◌, ◌<◌, ◌≤◌, ◌+◌, ◌^◌, eqb, ltb, nat_le, Bool, true, false, not, cond, is_none, Option, Some, None, List, [], ◌∷◌, ◌++◌, length}
use Rattle.std.proofs.Common.{get_or, take, drop, refl, sym, ap, ◌∙◌, subst, arith, inl, inr}
use Rattle.std.specs.Prelude.{◌⊎◌, option_map, bytes_eq}
use Rattle.std.specs.Int.{from_be_bytes, w32}
use Rattle.std.specs.List.{list_all}
use Rattle.std.proofs.lemmas.Bool.{false≢true}
use Rattle.std.proofs.lemmas.List.{append-nil, take_at, drop_at}
use Rattle.std.proofs.lemmas.Nat.{from_be_bytes-to_be_bytes_4}
use Rattle.vc_base.specs.declared.Call.{Call}
use Rattle.vc_base.specs.declared.Call.TheVariants.{Open, Close, EnumFmt, GetFmt, TryFmt, SetFmt, ReqBufs, CreateBufs, QueryBuf, QBuf, DqBuf, StreamOn, StreamOff}
use Rattle.vc_base.specs.declared.Call.TheVariants.{Subscribe, Unsubscribe, DqEvent, DecCmd, EncCmd, GetCtrl, SetCtrl, Poll}
use Rattle.vc_base.specs.declared.Errno.{Errno}
use Rattle.vc_base.specs.declared.Errno.TheVariants.{NoMem}
use Rattle.vc_base.specs.declared.Reply.{Reply}
use Rattle.vc_base.specs.declared.Reply.TheVariants.{Done, Count, Created, Refused}
use Rattle.vc_base.specs.Buffers.{reqbufs_refusal, create_refusal}
use Rattle.vc_base.specs.Device.{DeviceEvent, call, claim, finish, shut}
use Rattle.vc_base.specs.Errnos.{errno_number}
use Rattle.vc_base.specs.Limits.{script_workers, longest_message}
use Rattle.vc_model.specs.Coder.{Coder}
use Rattle.vc_model.specs.Context.{Context, Slot, Running, queue_of}
use Rattle.vc_model.specs.Runs.{JobData, job_data, finish_word}
use Rattle.vc_model.specs.Answer.{Answer, answer, closed_answer, context_answer, unless, if_found}
use Rattle.vc_model.specs.Solo.{Answered, Claimed, Finished, Nothing}
use Rattle.vc_model.specs.Devices.{DeviceState, DeviceReply, Told, NoJob, Empty, new_device, slot_of, job_of, ignored, call_answered, finish_of, finish_slot}
use Rattle.vc_model.specs.Devices.{finish_job, DeviceStep, device_step, device_after}
use Rattle.vc_model.specs.Standing.{job_in, job_in_slot}
use Rattle.vc_model.specs.Script.{Asked, AsksNothing, AsksCall, AsksClaim, AsksFinish, AsksRun}
use Rattle.vc_model.specs.Messages.{number_bytes, number_at, messages, asked_in}
use Rattle.vc_model.specs.Wire.{reply_body, framed, claimed_reply, finished_reply, device_reply, found_by, fault_by, word_byte, asked_events, body_reply, first_reply}
use Rattle.vc_model.specs.Wire.{RepliesFrom, chosen_events, chosen_replies, RunsAreShort, ChoicesHaveReplies}
use Rattle.vc_model.proofs.EachSlotPrintsItsOwn.{Comes, comes_slots}
use Rattle.vc_model.proofs.LinesArePrinted.{comes_held, some_job}
use Rattle.vc_model.proofs.PrintedLinesAreReadBack.{OfWords, of_finish}
use Rattle.vc_model.proofs.PartsOfTests.{and_left, and_right}
use Rattle.vc_model.proofs.EachIsReplied.{IsReplied, InRange, call_replied, claim_body, finish_body, one_replied, asked_range}
use Rattle.vc_model.proofs.RepliesHaveLengths.{Reaches, comes, first_reach, reaches_behind, bodies_are_short, replies_have_lengths}

-- Calls

abbrev no_memory : List ℕ
no_memory = framed (0x40 ∷ number_bytes (errno_number NoMem))

-- the reply says that there is no memory
abbrev lacks_memory : Call → Answer → Bool
lacks_memory request a = bytes_eq (framed (reply_body request a.reply a.bytes)) no_memory

-- An answer is the same without memory as with it; or only the one without it says that there is none.
abbrev IsTold : Call → Answer → Answer → Type 0
IsTold request without with = (without ≡ with) ⊎ ((lacks_memory request without ≡ true) × (lacks_memory request with ≡ false))

told : (s : Slot) (request : Call) (bytes : List ℕ) → IsTold request (answer s request bytes false) (answer s request bytes true)
unfolding answer closed_answer context_answer
told None (Open kind) bytes = inr (refl, refl)
told None Close bytes = inl refl
told None (EnumFmt side index) bytes = inl refl
told None (GetFmt side) bytes = inl refl
told None (TryFmt side want) bytes = inl refl
told None (SetFmt side want) bytes = inl refl
told None (ReqBufs side count) bytes = inl refl
told None (CreateBufs side count size) bytes = inl refl
told None (QueryBuf side index) bytes = inl refl
told None (QBuf side index used stamp) bytes = inl refl
told None (DqBuf side block) bytes = inl refl
told None (StreamOn side) bytes = inl refl
told None (StreamOff side) bytes = inl refl
told None (Subscribe event) bytes = inl refl
told None (Unsubscribe event) bytes = inl refl
told None (DqEvent block) bytes = inl refl
told None (DecCmd cmd) bytes = inl refl
told None (EncCmd cmd) bytes = inl refl
told None (GetCtrl id) bytes = inl refl
told None (SetCtrl id value) bytes = inl refl
told None Poll bytes = inl refl
told (Some c) (ReqBufs side count) bytes = unless_refused (reqbufs_refusal (queue_of c side)) _ refl
  where
    unless_refused :
        (o : Option Errno) (a : Answer) → lacks_memory (ReqBufs side count) a ≡ false
        → IsTold (ReqBufs side count) (unless c o (if_found c false a)) (unless c o (if_found c true a))
    unless_refused (Some errno) a h = inl refl
    unless_refused None a h = inr (refl, h)
told (Some c) (CreateBufs side count size) bytes = unless_refused (create_refusal (queue_of c side) count size) _ refl
  where
    unless_refused :
        (o : Option Errno) (a : Answer) → lacks_memory (CreateBufs side count size) a ≡ false
        → IsTold (CreateBufs side count size) (unless c o (if_found c false a)) (unless c o (if_found c true a))
    unless_refused (Some errno) a h = inl refl
    unless_refused None a h = inr (refl, h)
told (Some c) (Open kind) bytes = inl refl
told (Some c) Close bytes = inl refl
told (Some c) (EnumFmt side index) bytes = inl refl
told (Some c) (GetFmt side) bytes = inl refl
told (Some c) (TryFmt side want) bytes = inl refl
told (Some c) (SetFmt side want) bytes = inl refl
told (Some c) (QueryBuf side index) bytes = inl refl
told (Some c) (QBuf side index used stamp) bytes = inl refl
told (Some c) (DqBuf side block) bytes = inl refl
told (Some c) (StreamOn side) bytes = inl refl
told (Some c) (StreamOff side) bytes = inl refl
told (Some c) (Subscribe event) bytes = inl refl
told (Some c) (Unsubscribe event) bytes = inl refl
told (Some c) (DqEvent block) bytes = inl refl
told (Some c) (DecCmd cmd) bytes = inl refl
told (Some c) (EncCmd cmd) bytes = inl refl
told (Some c) (GetCtrl id) bytes = inl refl
told (Some c) (SetCtrl id value) bytes = inl refl
told (Some c) Poll bytes = inl refl

-- an answer that is read again is the same
read_again : (request : Call) (a : Bool → Answer) → IsTold request (a false) (a true) → (found lacks : Bool) → lacks_memory request (a found) ≡ lacks → a (not lacks) ≡ a found
read_again request a (inl e) true true h = e
read_again request a (inl e) true false h = refl
read_again request a (inl e) false true h = refl
read_again request a (inl e) false false h = sym e
read_again request a (inr e) true false h = refl
read_again request a (inr e) false true h = refl
read_again request a (inr e) true true h = absurd (false≢true (sym e.1 ∙ h))
read_again request a (inr e) false false h = absurd (false≢true (sym h ∙ e.0))

step_again :
    (d : DeviceState) (slot : ℕ) (request : Call) (bytes : List ℕ) (found b : Bool)
    → let step = λ (f : Bool). cond b (call_answered d slot (answer (slot_of d slot) request bytes f)) (ignored d) in
    step (found_by (device_reply (call slot request bytes found) (step found).reply ++ [])) ≡ step found
step_again d slot request bytes found false = refl
step_again d slot request bytes found true =
    let a = λ (f : Bool). answer (slot_of d slot) request bytes f in
    ap (call_answered d slot)
    (ap (λ l. a (not (bytes_eq l no_memory))) (append-nil (framed (reply_body request (a found).reply (a found).bytes)))
    ∙ read_again request a (told (slot_of d slot) request bytes) found (lacks_memory request (a found)) refl)

-- Bodies

abbrev chosen_reply : Coder → DeviceState → Option Asked → Bool → List ℕ
chosen_reply coder d asked fails = body_reply coder d asked (chosen_events d asked fails)

-- the events that are read off the reply that a choice gave have the same reply and leave the same device
record IsReadAgain (coder : Coder) (d : DeviceState) (asked : Option Asked) (fails : Bool) : Type 0 where
  pub reply : body_reply coder d asked (asked_events d asked (chosen_reply coder d asked fails)) ≡ chosen_reply coder d asked fails
  pub after : device_after coder d (asked_events d asked (chosen_reply coder d asked fails)) ≡ device_after coder d (chosen_events d asked fails)

same_events :
    (coder : Coder) (d : DeviceState) (asked : Option Asked) (fails : Bool)
    → asked_events d asked (chosen_reply coder d asked fails) ≡ chosen_events d asked fails → IsReadAgain coder d asked fails
same_events coder d asked fails e = record { reply = ap (body_reply coder d asked) e; after = ap (device_after coder d) e }

call_again : (coder : Coder) (d : DeviceState) (slot : ℕ) (request : Call) (bytes : List ℕ) (fails : Bool) → IsReadAgain coder d (Some (AsksCall slot request bytes)) fails
unfolding device_step
call_again coder d slot request bytes fails =
    let same = step_again d slot request bytes (not fails) (ltb slot (length d.slots)) in
    record {
      reply = ap (λ (x : DeviceStep). device_reply (call slot request bytes (not fails)) x.reply ++ []) same;
      after = ap (λ (x : DeviceStep). x.device) same;
    }

-- whether the engine gave up is read off the reply to a finish by a worker with a job
word_fault : (coder : Coder) (j : JobData) (fault : Bool) (k : ℕ) → fault_by (finished_reply k (finish_word coder j fault) ++ []) ≡ fault
word_fault coder j fault =
    of_finish (λ word fault. (k : ℕ) → fault_by (finished_reply k word ++ []) ≡ fault)
    (record { fault = λ k. refl; copied = λ k. refl; encoded = λ k. refl; picture = λ k. refl; damaged = λ k. refl; changed = λ k. refl; spent = λ k. refl })
    coder j fault

abbrev TellsFault : ℕ → Bool → DeviceReply → Type 0
TellsFault worker fault told = fault_by (device_reply (finish worker fault) told ++ []) ≡ fault

job_fault :
    (coder : Coder) (d : DeviceState) (worker j : ℕ) (c : Context) (fault : Bool) (info : JobData) (o : Option Running) → option_map (job_data c) o ≡ Some info
    → TellsFault worker fault (finish_job coder d worker j c o fault).reply
job_fault coder d worker j c fault info None e = absurd (cc)
job_fault coder d worker j c fault info (Some r) e = word_fault coder (job_data c r) fault j

slot_fault :
    (coder : Coder) (d : DeviceState) (worker j : ℕ) (fault : Bool) (info : JobData) (s : Slot) → job_in s ≡ Some info
    → TellsFault worker fault (finish_slot coder d worker j s fault).reply
slot_fault coder d worker j fault info None e = absurd (cc)
slot_fault coder d worker j fault info (Some c) e = job_fault coder d worker j c fault info c.running e

finish_fault :
    (coder : Coder) (n : ℕ) (d : DeviceState) (worker j : ℕ) (fault : Bool) → Comes coder n d → job_of d worker ≡ Some j
    → TellsFault worker fault (device_step coder d (finish worker fault)).reply
unfolding device_step
finish_fault coder n d worker j fault c e =
    let r = (comes_held coder n d c).running worker j e in
    let p : job_in (slot_of d j) ≡ Some r.0 = sym (ap (job_in_slot d) e) ∙ r.1 in
    subst (λ o. TellsFault worker fault (finish_of coder d worker o fault).reply) (sym e) (slot_fault coder d worker j fault r.0 (slot_of d j) p)

finish_events :
    (coder : Coder) (n : ℕ) (d : DeviceState) (worker : ℕ) (fails : Bool) → Comes coder n d → (b : Bool) → is_none (job_of d worker) ≡ b
    → let es = cond b [] (finish worker fails ∷ []) in
    cond b [] (finish worker (fault_by (body_reply coder d (Some (AsksFinish worker)) es)) ∷ []) ≡ es
finish_events coder n d worker fails c true e = refl
finish_events coder n d worker fails c false e =
    let j = some_job (job_of d worker) e in
    ap (λ f. finish worker f ∷ []) (finish_fault coder n d worker j.0 fails c j.1)

body_again : (coder : Coder) (n : ℕ) (d : DeviceState) (asked : Option Asked) (fails : Bool) → Comes coder n d → IsReadAgain coder d asked fails
body_again coder n d None fails c = same_events coder d None fails refl
body_again coder n d (Some AsksNothing) fails c = same_events coder d (Some AsksNothing) fails refl
body_again coder n d (Some (AsksRun worker)) fails c = same_events coder d (Some (AsksRun worker)) fails refl
body_again coder n d (Some (AsksCall slot request bytes)) fails c = call_again coder d slot request bytes fails
body_again coder n d (Some (AsksClaim worker)) fails c = same_events coder d (Some (AsksClaim worker)) fails refl
body_again coder n d (Some (AsksFinish worker)) fails c =
    same_events coder d (Some (AsksFinish worker)) fails (finish_events coder n d worker fails c (is_none (job_of d worker)) refl)

-- Where a reply ends

abbrev IsFramed : List ℕ → Type 0
IsFramed reply = (body : List ℕ) × (reply ≡ framed body)

framed_or_none : (e : DeviceEvent) (told : DeviceReply) → (device_reply e told ≡ []) ⊎ IsFramed (device_reply e told)
framed_or_none (call k request bytes found) (Told j (Answered reply handed)) = inr (reply_body request reply handed, refl)
framed_or_none (claim worker) (Told j (Answered reply handed)) = inl refl
framed_or_none (finish worker fault) (Told j (Answered reply handed)) = inl refl
framed_or_none shut (Told j (Answered reply handed)) = inl refl
framed_or_none (call k request bytes found) (Told j Claimed) = inr (0x50 ∷ number_bytes j, refl)
framed_or_none (call k request bytes found) (Told j (Finished word)) = inr (0x53 ∷ (number_bytes j ++ word_byte word ∷ []), refl)
framed_or_none (call k request bytes found) (Told j Nothing) = inl refl
framed_or_none (call k request bytes found) NoJob = inr (0x51 ∷ [], refl)
framed_or_none (call k request bytes found) Empty = inl refl
framed_or_none (claim worker) (Told j Claimed) = inr (0x50 ∷ number_bytes j, refl)
framed_or_none (claim worker) (Told j (Finished word)) = inr (0x53 ∷ (number_bytes j ++ word_byte word ∷ []), refl)
framed_or_none (claim worker) (Told j Nothing) = inl refl
framed_or_none (claim worker) NoJob = inr (0x51 ∷ [], refl)
framed_or_none (claim worker) Empty = inl refl
framed_or_none (finish worker fault) (Told j Claimed) = inr (0x50 ∷ number_bytes j, refl)
framed_or_none (finish worker fault) (Told j (Finished word)) = inr (0x53 ∷ (number_bytes j ++ word_byte word ∷ []), refl)
framed_or_none (finish worker fault) (Told j Nothing) = inl refl
framed_or_none (finish worker fault) NoJob = inr (0x51 ∷ [], refl)
framed_or_none (finish worker fault) Empty = inl refl
framed_or_none shut (Told j Claimed) = inr (0x50 ∷ number_bytes j, refl)
framed_or_none shut (Told j (Finished word)) = inr (0x53 ∷ (number_bytes j ++ word_byte word ∷ []), refl)
framed_or_none shut (Told j Nothing) = inl refl
framed_or_none shut NoJob = inr (0x51 ∷ [], refl)
framed_or_none shut Empty = inl refl

not_empty : (reply : List ℕ) → (reply ≡ []) ⊎ IsFramed reply → 4 < length (reply ++ []) → IsFramed (reply ++ [])
not_empty reply (inl z) h = let l : 4 < 0 = subst (λ r. 4 < length (r ++ [])) z h in absurd (omega arith)
not_empty reply (inr f) h = (f.0, append-nil reply ∙ f.1)

event_framed :
    (coder : Coder) (d : DeviceState) (asked : Option Asked) (e : DeviceEvent) → 4 < length (body_reply coder d asked (e ∷ []))
    → IsFramed (body_reply coder d asked (e ∷ []))
event_framed coder d asked e h = let r = (device_step coder d e).reply in not_empty (device_reply e r) (framed_or_none e r) h

claim_framed :
    (coder : Coder) (n : ℕ) (d : DeviceState) (worker : ℕ) → worker < script_workers → Comes coder n d → (b : Bool) → is_none (job_of d worker) ≡ b
    → IsFramed (body_reply coder d (Some (AsksClaim worker)) (cond b (claim worker ∷ []) []))
claim_framed coder n d worker h c true e = event_framed coder d (Some (AsksClaim worker)) (claim worker) (claim_body coder n d worker h c true e)
claim_framed coder n d worker h c false e = (0x52 ∷ [], refl)

finish_framed :
    (coder : Coder) (n : ℕ) (d : DeviceState) (worker : ℕ) (fault : Bool) → Comes coder n d → (b : Bool) → is_none (job_of d worker) ≡ b
    → IsFramed (body_reply coder d (Some (AsksFinish worker)) (cond b [] (finish worker fault ∷ [])))
finish_framed coder n d worker fault c true e = (0x54 ∷ [], refl)
finish_framed coder n d worker fault c false e =
    event_framed coder d (Some (AsksFinish worker)) (finish worker fault) (finish_body coder n d worker fault c false e)

body_framed : (coder : Coder) (n : ℕ) (d : DeviceState) (asked : Option Asked) (fails : Bool) → InRange n asked → Comes coder n d → IsFramed (chosen_reply coder d asked fails)
body_framed coder n d None fails h c = (0x7f ∷ [], refl)
body_framed coder n d (Some AsksNothing) fails h c = (0x7f ∷ [], refl)
body_framed coder n d (Some (AsksRun worker)) fails h c = (0x7f ∷ [], refl)
body_framed coder n d (Some (AsksCall slot request bytes)) fails h c =
    let z = comes_slots coder n d c in
    let asked = Some (AsksCall slot request bytes) in
    event_framed coder d asked (call slot request bytes (not fails))
    (one_replied coder d asked (call slot request bytes (not fails)) (call_replied coder d slot request bytes (not fails) (omega arith)))
body_framed coder n d (Some (AsksClaim worker)) fails h c = claim_framed coder n d worker h c (is_none (job_of d worker)) refl
body_framed coder n d (Some (AsksFinish worker)) fails h c = finish_framed coder n d worker fails c (is_none (job_of d worker)) refl

first_is : (body later : List ℕ) → length (framed body) < 4 + 2 ^ 32 → first_reply (framed body ++ later) ≡ framed body
first_is body later h =
    let fits : length body < 2 ^ 32 = omega arith in
    let number : number_at (framed body ++ later) 0 ≡ length body = from_be_bytes-to_be_bytes_4 (length body) fits in
    ap (λ k. take (4 + k) (framed body ++ later)) number ∙ take_at (framed body) later (4 + length body) (omega arith)

first_of : (reply later : List ℕ) → IsFramed reply → length reply < 4 + 2 ^ 32 → first_reply (reply ++ later) ≡ reply
first_of reply later f h =
    subst (λ r. first_reply (r ++ later) ≡ r) (sym f.1) (first_is f.0 later (subst (λ r. length r < 4 + 2 ^ 32) f.1 h))

-- Outputs

choices_from :
    (coder : Coder) (n : ℕ) (d : DeviceState) (bodies : List (List ℕ)) (choices : List Bool) → RunsAreShort coder
    → list_all (λ body. nat_le (length body) longest_message) bodies ≡ true → Reaches coder n d → RepliesFrom coder n d bodies (chosen_replies coder n d bodies choices)
choices_from coder n d [] choices h few r = refl
choices_from coder n d (body ∷ rest) choices h few r =
    let c = comes coder n d r in
    let asked = asked_in n body in
    let fails = get_or choices 0 false in
    let es = chosen_events d asked fails in
    let reply = chosen_reply coder d asked fails in
    let after = device_after coder d es in
    let later = chosen_replies coder n after rest (drop 1 choices) in
    let again = body_again coder n d asked fails c in
    let first : first_reply (reply ++ later) ≡ reply =
    first_of reply later (body_framed coder n d asked fails (asked_range n body) c) (replies_have_lengths coder n d asked fails h r) in
    let few_first = and_left (nat_le (length body) longest_message) (list_all (λ body. nat_le (length body) longest_message) rest) few in
    let few_rest = and_right (nat_le (length body) longest_message) (list_all (λ body. nat_le (length body) longest_message) rest) few in
    let behind : RepliesFrom coder n after rest (drop (length reply) (reply ++ later)) =
    subst (RepliesFrom coder n after rest) (sym (drop_at reply later (length reply) refl))
    (choices_from coder n after rest (drop 1 choices) h few_rest (reaches_behind coder n d body fails few_first r)) in
    subst
    (λ r. (r ≡ body_reply coder d asked (asked_events d asked r)) × RepliesFrom coder n (device_after coder d (asked_events d asked r)) rest (drop (length r) (reply ++ later)))
    (sym first) (sym again.reply, subst (λ x. RepliesFrom coder n x rest (drop (length reply) (reply ++ later))) (sym again.after) behind)

pub choices_have_replies : ChoicesHaveReplies
choices_have_replies coder n input choices h =
    choices_from coder n (new_device n) (messages input).bodies choices h (bodies_are_short input) (first_reach coder n)
