-- The replies of a slot, read off the input and the output, are those of the slot by itself. A call names its slot in
-- its body, and the replies to claims and finishes name theirs, so that each reply belongs to one slot or to none.
-- Between two outputs of one input nothing decides but memory and the engine.
use Rattle.std.proofs.Common.{ℕ, zero, suc, ◌≡◌, ◌≤◌, ◌<◌, ◌+◌, ◌^◌, eqb, ltb, Bool, true, false, cond, is_none, Option, Some, None, List, [], ◌∷◌, ◌++◌, length, take, drop, refl, sym, ap, ◌∙◌, subst, arith}
use Rattle.std.specs.Int.{from_be_bytes, w32}
use Rattle.std.proofs.lemmas.Bool.{eqb-true, ltb-true, ltb-false, ne_eqb}
use Rattle.std.proofs.lemmas.List.{append-nil, length-replicate}
use Rattle.std.proofs.lemmas.Grind.{flat_map-append}
use Rattle.std.proofs.lemmas.Nat.{from_be_bytes-to_be_bytes_4}
use Rattle.vc_base.specs.declared.Call.{Call}
use Rattle.vc_base.specs.Device.{DeviceEvent, call, claim, finish}
use Rattle.vc_model.specs.Coder.{Coder}
use Rattle.vc_model.specs.Context.{Context, Slot, Running}
use Rattle.vc_model.specs.Answer.{answer}
use Rattle.vc_model.specs.Runs.{job_data, finish_word}
use Rattle.vc_model.specs.Solo.{Called, Claims, Finishes, Answered, Claimed, Finished, SoloEntry, solo_run}
use Rattle.vc_model.specs.Devices.{DeviceState, DeviceReply, Told, DeviceEntry, new_device, slot_of, job_of, ignored, call_answered, claim_slot, claim_first}
use Rattle.vc_model.specs.Devices.{finish_of, finish_slot, finish_job, device_step, device_after, device_run, entry_for, entries_of}
use Rattle.vc_model.specs.Script.{Asked, AsksNothing, AsksCall, AsksClaim, AsksFinish, AsksRun}
use Rattle.vc_base.specs.Limits.{most_slots}
use Rattle.vc_model.specs.Messages.{number_bytes, number_at, messages, call_in, asked_call, asked_work, asked_in}
use Rattle.vc_model.specs.Wire.{reply_body, framed, claimed_reply, finished_reply, solo_reply, device_reply, found_by, fault_by, asked_events, body_reply}
use Rattle.vc_model.specs.Wire.{first_reply, wire_events, wire_replies, events_of_wire, RepliesFrom, RepliesAreWhole, choice_by, choices_by, ChoicesGiveReplies}
use Rattle.vc_model.specs.Wire.{own_part, own_parts, slot_replies, SlotsAreRepliedTo, SameEventsSameReplies}
use Rattle.vc_model.proofs.SlotsAreIsolated.{isolated, is_there}
use Rattle.vc_model.proofs.EachSlotPrintsItsOwn.{run-append, entries-append, slots_from}

-- what slot k is replied at an event, and in a run
abbrev reply_for : ℕ → DeviceEvent → DeviceReply → List ℕ
reply_for k e reply = slot_replies k (entry_for k e reply)

abbrev replies_in : ℕ → List DeviceEntry → List ℕ
replies_in k entries = slot_replies k (entries_of k entries)

-- Calls

-- a reply that each slot has with its own number
own_or_none : (k j : ℕ) (f : ℕ → List ℕ) (x : SoloEntry) (b : Bool) → eqb j k ≡ b → f k ≡ solo_reply k x.event x.told → cond b (f j) [] ≡ slot_replies k (cond b (x ∷ []) [])
own_or_none k j f x true e same = ap f (eqb-true j k e) ∙ (same ∙ sym (append-nil (solo_reply k x.event x.told)))
own_or_none k j f x false e same = refl

no_part : (b : Bool) → cond {A = List ℕ} b [] [] ≡ []
no_part true = refl
no_part false = refl

call_part :
    (d : DeviceState) (k slot : ℕ) (request : Call) (bytes : List ℕ) (found : Bool) (b : Bool)
    → let e = call slot request bytes found in
    let told = (cond b (call_answered d slot (answer (slot_of d slot) request bytes found)) (ignored d)).reply in
    own_part k (Some (AsksCall slot request bytes)) (device_reply e told) ≡ reply_for k e told
call_part d k slot request bytes found true =
    let a = answer (slot_of d slot) request bytes found in
    own_or_none k slot (λ i. framed (reply_body request a.reply a.bytes)) (record { event = Called request bytes found; told = Answered a.reply a.bytes }) (eqb slot k) refl refl
call_part d k slot request bytes found false = no_part (eqb slot k)

-- Claims and finishes

-- the number that the reply names
named : (j k : ℕ) → j < 2 ^ 32 → eqb (from_be_bytes w32 (number_bytes j)) k ≡ eqb j k
named j k h = ap (λ n. eqb n k) (from_be_bytes-to_be_bytes_4 j h)

claimed_part : (k j worker : ℕ) → j < 2 ^ 32 → own_part k (Some (AsksClaim worker)) (claimed_reply j) ≡ reply_for k (claim worker) (Told j Claimed)
claimed_part k j worker h =
    ap (λ b. cond b (claimed_reply j) []) (named j k h) ∙ own_or_none k j claimed_reply (record { event = Claims; told = Claimed }) (eqb j k) refl refl

finished_part : (k j worker : ℕ) (fault : Bool) (word : List ℕ) → j < 2 ^ 32 → own_part k (Some (AsksFinish worker)) (finished_reply j word) ≡ reply_for k (finish worker fault) (Told j (Finished word))
finished_part k j worker fault word h =
    ap (λ b. cond b (finished_reply j word) []) (named j k h) ∙ own_or_none k j (λ i. finished_reply i word) (record { event = Finishes fault; told = Finished word }) (eqb j k) refl refl

-- what an event tells is slot k's exactly where the reply says so
abbrev IsOwnPart : ℕ → Asked → DeviceEvent → DeviceReply → Type 0
IsOwnPart k asked e told = own_part k (Some asked) (device_reply e told) ≡ reply_for k e told

front_part :
    (d : DeviceState) (k worker j n : ℕ) (rest : List ℕ) → n ≤ most_slots → length d.slots ≡ n → (s : Slot) → slot_of d j ≡ s
    → IsOwnPart k (AsksClaim worker) (claim worker) (claim_slot (record d { waiting = rest }) worker j s).reply
front_part d k worker j n rest m z None e = refl
front_part d k worker j n rest m z (Some c) e =
    let h = is_there d.slots j c e in claimed_part k j worker (omega arith)

claim_part : (d : DeviceState) (k worker n : ℕ) (waiting : List ℕ) → n ≤ most_slots → length d.slots ≡ n → IsOwnPart k (AsksClaim worker) (claim worker) (claim_first d worker waiting).reply
claim_part d k worker n [] m z = refl
claim_part d k worker n (j ∷ rest) m z = front_part d k worker j n rest m z (slot_of d j) refl

free_part : (d : DeviceState) (k worker n : ℕ) → n ≤ most_slots → length d.slots ≡ n → (a b : Bool) → IsOwnPart k (AsksClaim worker) (claim worker) (cond a (cond b (claim_first d worker d.waiting) (ignored d)) (ignored d)).reply
free_part d k worker n m z true true = claim_part d k worker n d.waiting m z
free_part d k worker n m z true false = refl
free_part d k worker n m z false b = refl

job_part :
    (coder : Coder) (d : DeviceState) (k worker j n : ℕ) (c : Context) (fault : Bool) → n ≤ most_slots → length d.slots ≡ n → slot_of d j ≡ Some c
    → (o : Option Running) → IsOwnPart k (AsksFinish worker) (finish worker fault) (finish_job coder d worker j c o fault).reply
job_part coder d k worker j n c fault m z e None = refl
job_part coder d k worker j n c fault m z e (Some r) =
    let h = is_there d.slots j c e in
    finished_part k j worker fault (finish_word coder (job_data c r) fault) (omega arith)

slot_part :
    (coder : Coder) (d : DeviceState) (k worker j n : ℕ) (fault : Bool) → n ≤ most_slots → length d.slots ≡ n → (s : Slot) → slot_of d j ≡ s
    → IsOwnPart k (AsksFinish worker) (finish worker fault) (finish_slot coder d worker j s fault).reply
slot_part coder d k worker j n fault m z None e = refl
slot_part coder d k worker j n fault m z (Some c) e = job_part coder d k worker j n c fault m z e c.running

finish_part : (coder : Coder) (d : DeviceState) (k worker n : ℕ) (fault : Bool) → n ≤ most_slots → length d.slots ≡ n → (o : Option ℕ) → IsOwnPart k (AsksFinish worker) (finish worker fault) (finish_of coder d worker o fault).reply
finish_part coder d k worker n fault m z None = refl
finish_part coder d k worker n fault m z (Some j) = slot_part coder d k worker j n fault m z (slot_of d j) refl

-- Bodies

-- the part of the reply to one event
one_part :
    (coder : Coder) (d : DeviceState) (k : ℕ) (asked : Asked) (e : DeviceEvent) → IsOwnPart k asked e (device_step coder d e).reply
    → own_part k (Some asked) (body_reply coder d (Some asked) (e ∷ [])) ≡ replies_in k (device_run coder d (e ∷ []))
one_part coder d k asked e h =
    ap (own_part k (Some asked)) (append-nil (device_reply e (device_step coder d e).reply)) ∙ (h ∙ ap (slot_replies k) (sym (append-nil (entry_for k e (device_step coder d e).reply))))

claim_either :
    (coder : Coder) (d : DeviceState) (k worker : ℕ) → IsOwnPart k (AsksClaim worker) (claim worker) (device_step coder d (claim worker)).reply
    → (b : Bool)
    → own_part k (Some (AsksClaim worker)) (body_reply coder d (Some (AsksClaim worker)) (cond b (claim worker ∷ []) [])) ≡ replies_in k (device_run coder d (cond b (claim worker ∷ []) []))
claim_either coder d k worker h true = one_part coder d k (AsksClaim worker) (claim worker) h
claim_either coder d k worker h false = refl

finish_either :
    (coder : Coder) (d : DeviceState) (k worker : ℕ) (fault : Bool)
    → IsOwnPart k (AsksFinish worker) (finish worker fault) (device_step coder d (finish worker fault)).reply → (b : Bool)
    → own_part k (Some (AsksFinish worker)) (body_reply coder d (Some (AsksFinish worker)) (cond b [] (finish worker fault ∷ [])))
    ≡ replies_in k (device_run coder d (cond b [] (finish worker fault ∷ [])))
finish_either coder d k worker fault h true = refl
finish_either coder d k worker fault h false = one_part coder d k (AsksFinish worker) (finish worker fault) h

body_part :
    (coder : Coder) (d : DeviceState) (k n : ℕ) (asked : Option Asked) (reply : List ℕ) → n ≤ most_slots → length d.slots ≡ n
    → own_part k asked (body_reply coder d asked (asked_events d asked reply)) ≡ replies_in k (device_run coder d (asked_events d asked reply))
unfolding device_step
body_part coder d k n None reply m z = refl
body_part coder d k n (Some AsksNothing) reply m z = refl
body_part coder d k n (Some (AsksRun worker)) reply m z = refl
body_part coder d k n (Some (AsksCall slot request bytes)) reply m z =
    one_part coder d k (AsksCall slot request bytes) (call slot request bytes (found_by reply)) (call_part d k slot request bytes (found_by reply) (ltb slot (length d.slots)))
body_part coder d k n (Some (AsksClaim worker)) reply m z =
    claim_either coder d k worker (free_part d k worker n m z (ltb worker (length d.workers)) (is_none (job_of d worker))) (is_none (job_of d worker))
body_part coder d k n (Some (AsksFinish worker)) reply m z =
    finish_either coder d k worker (fault_by reply) (finish_part coder d k worker n (fault_by reply) m z (job_of d worker)) (is_none (job_of d worker))

-- The slots above slot k make no difference

either_asked : (k : ℕ) (reply : List ℕ) (a b : Bool) (x y z w : Option Asked) → own_part k z reply ≡ own_part k w reply → own_part k (cond a x (cond b y z)) reply ≡ own_part k (cond a x (cond b y w)) reply
either_asked k reply true b x y z w h = refl
either_asked k reply false true x y z w h = refl
either_asked k reply false false x y z w h = h

other_call : (k slot : ℕ) (body reply : List ℕ) (o : Option Call) → k < slot → own_part k (asked_call slot body o) reply ≡ []
other_call k slot body reply None h = refl
other_call k slot body reply (Some request) h =
    ap (λ b. cond b reply []) (ne_eqb slot k (λ (z : slot ≡ k). omega arith))

within_slots :
    (k n slot : ℕ) (body reply : List ℕ) (o : Option Call) → k < n → n ≤ most_slots → (a b : Bool) → ltb slot most_slots ≡ a → ltb slot n ≡ b
    → own_part k (cond a (asked_call slot body o) None) reply ≡ own_part k (cond b (asked_call slot body o) None) reply
within_slots k n slot body reply o h m true true e f = refl
within_slots k n slot body reply o h m false false e f = refl
within_slots k n slot body reply o h m true false e f =
    let l = ltb-false slot n f in other_call k slot body reply o (omega arith)
within_slots k n slot body reply o h m false true e f =
    let l = ltb-false slot most_slots e in let t = ltb-true slot n f in absurd (omega arith)

same_part : (k n : ℕ) (body reply : List ℕ) → k < n → n ≤ most_slots → own_part k (asked_in most_slots body) reply ≡ own_part k (asked_in n body) reply
same_part k n [] reply h m = refl
same_part k n (code ∷ fields) reply h m =
    let body = code ∷ fields in
    let slot = number_at body 1 in
    either_asked k reply (eqb code 0x20) (eqb code 0x21) (asked_work body (AsksClaim slot)) (asked_work body (AsksFinish slot))
    (cond (ltb slot most_slots) (asked_call slot body (call_in code body)) None) (cond (ltb slot n) (asked_call slot body (call_in code body)) None)
    (within_slots k n slot body reply (call_in code body) h m (ltb slot most_slots) (ltb slot n) refl refl)

-- Inputs

replies-append : (k : ℕ) (xs ys : List DeviceEntry) → replies_in k (xs ++ ys) ≡ replies_in k xs ++ replies_in k ys
replies-append k xs ys =
    ap (slot_replies k) (entries-append k xs ys) ∙ flat_map-append (λ x. solo_reply k x.event x.told) (entries_of k xs) (entries_of k ys)

parts_from :
    (coder : Coder) (n k : ℕ) (d : DeviceState) (bodies : List (List ℕ)) (output : List ℕ) → n ≤ most_slots → k < n → length d.slots ≡ n
    → RepliesFrom coder n d bodies output → own_parts k bodies output ≡ replies_in k (device_run coder d (wire_events coder n d bodies output))
parts_from coder n k d [] output m h z r = refl
parts_from coder n k d (body ∷ rest) output m h z r =
    let reply = first_reply output in
    let asked = asked_in n body in
    let es = asked_events d asked reply in
    let after = device_after coder d es in
    let left = drop (length reply) output in
    let more = wire_events coder n after rest left in
    let here : own_part k (asked_in most_slots body) reply ≡ replies_in k (device_run coder d es) = same_part k n body reply h m ∙ (ap (own_part k asked) r.0 ∙ body_part coder d k n asked reply m z) in
    let there = parts_from coder n k after rest left m h (slots_from coder d es ∙ z) r.1 in
    ap (λ l. l ++ own_parts k rest left) here
    ∙ (ap (λ l. replies_in k (device_run coder d es) ++ l) there
    ∙ (sym (replies-append k (device_run coder d es) (device_run coder after more))
    ∙ ap (replies_in k) (sym (run-append coder d es more))))

pub slots_are_replied_to : SlotsAreRepliedTo
slots_are_replied_to coder n input output k m h r =
    parts_from coder n k (new_device n) (messages input).bodies output m h (length-replicate n None) r ∙ ap (slot_replies k) (isolated coder n k (events_of_wire coder n input output)).told

pub same_events_same_replies : SameEventsSameReplies
same_events_same_replies coder n m input others output replied k a h b i r s e =
    slots_are_replied_to coder n input output k a h r ∙ (ap (λ es. slot_replies k (solo_run coder None es)) e ∙ sym (slots_are_replied_to coder m others replied k b i s))

-- Outputs

-- an output is its first reply and what stands behind it
cut_first : {A : Type 0} (n : ℕ) (xs : List A) → take n xs ++ drop (length (take n xs)) xs ≡ xs
cut_first zero xs = refl
cut_first (suc n) [] = refl
cut_first (suc n) (x ∷ xs) = ap (λ l. x ∷ l) (cut_first n xs)

whole_from : (coder : Coder) (n : ℕ) (d : DeviceState) (bodies : List (List ℕ)) (output : List ℕ) → RepliesFrom coder n d bodies output → output ≡ wire_replies coder n d bodies output
whole_from coder n d [] output r = r
whole_from coder n d (body ∷ rest) output r =
    let reply = first_reply output in
    let asked = asked_in n body in
    let es = asked_events d asked reply in
    let left = drop (length reply) output in
    sym (cut_first (4 + number_at output 0) output)
    ∙ (ap (λ l. l ++ left) r.0 ∙ ap (λ l. body_reply coder d asked es ++ l) (whole_from coder n (device_after coder d es) rest left r.1))

pub replies_are_whole : RepliesAreWhole
replies_are_whole coder n input output r = whole_from coder n (new_device n) (messages input).bodies output r

-- the choice decides the events of a body
chosen_events : (d : DeviceState) (asked : Option Asked) (reply other : List ℕ) → choice_by asked reply ≡ choice_by asked other → asked_events d asked reply ≡ asked_events d asked other
chosen_events d None reply other e = refl
chosen_events d (Some AsksNothing) reply other e = refl
chosen_events d (Some (AsksRun worker)) reply other e = refl
chosen_events d (Some (AsksCall slot request bytes)) reply other e = ap (λ b. call slot request bytes b ∷ []) e
chosen_events d (Some (AsksClaim worker)) reply other e = refl
chosen_events d (Some (AsksFinish worker)) reply other e =
    ap (λ b. cond (is_none (job_of d worker)) [] (finish worker b ∷ [])) e

choices_from :
    (coder : Coder) (n : ℕ) (d : DeviceState) (bodies : List (List ℕ)) (output other : List ℕ) → RepliesFrom coder n d bodies output
    → RepliesFrom coder n d bodies other → choices_by n bodies output ≡ choices_by n bodies other → output ≡ other
choices_from coder n d [] output other r s e = r ∙ sym s
choices_from coder n d (body ∷ rest) output other r s e =
    let asked = asked_in n body in
    let reply = first_reply output in
    let replied = first_reply other in
    let left = drop (length reply) output in
    let right = drop (length replied) other in
    let first : choice_by asked reply ≡ choice_by asked replied = cc in
    let then : choices_by n rest left ≡ choices_by n rest right = cc in
    let es : asked_events d asked reply ≡ asked_events d asked replied = chosen_events d asked reply replied first in
    let same : reply ≡ replied = r.0 ∙ (ap (body_reply coder d asked) es ∙ sym s.0) in
    let behind : left ≡ right = choices_from coder n (device_after coder d (asked_events d asked replied)) rest left right (subst (λ l. RepliesFrom coder n (device_after coder d l) rest left) es r.1) s.1 then in
    sym (cut_first (4 + number_at output 0) output) ∙ (ap (λ l. l ++ left) same ∙ (ap (λ l. replied ++ l) behind ∙ cut_first (4 + number_at other 0) other))

pub choices_give_replies : ChoicesGiveReplies
choices_give_replies coder n input output other r s e =
    choices_from coder n (new_device n) (messages input).bodies output other r s e
