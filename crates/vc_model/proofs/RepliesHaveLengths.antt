-- On the wire the length of every reply can be said in its four bytes, where no run of the codec gives more than the longest buffer
-- has. A message has so few bytes that what it queues fits in that buffer; so what a DqBuf hands out does too, and all that stands
-- beside it in a reply has a fixed number of bytes.
use Rattle.std.proofs.Common.{ℕ, zero, suc, ◌≡◌, ◌≤◌, ◌<◌, ◌+◌, ◌-◌, ◌^◌, ◌==◌, ◌⊎◌, eqb, ltb, nat_le, Bool, true, false, not, cond, ◌&&◌, is_none}
use Rattle.std.proofs.Common.{Option, Some, None, List, [], ◌∷◌, ◌++◌, length, take, drop, refl, sym, ap, ◌∙◌, subst, arith, length-append, ⊎_elim}
use Rattle.std.specs.List.{list_all, list_any}
use Rattle.std.proofs.lemmas.Bool.{leb-true, le-leb, eqb-true, false≢true}
use Rattle.std.proofs.lemmas.List.{append-nil, length-take-le, length-drop}
use Rattle.std.proofs.lemmas.Slice.Eq.{bytes_eq-Decides}
use Rattle.vc_base.specs.declared.Side.TheVariants.{Out, Cap}
use Rattle.vc_base.specs.declared.Fourcc.{Fourcc}
use Rattle.vc_base.specs.declared.Call.{Call}
use Rattle.vc_base.specs.declared.Call.TheVariants.{QBuf}
use Rattle.vc_base.specs.declared.Reply.{Reply}
use Rattle.vc_base.specs.declared.Reply.TheVariants.{Done, Desc, Fmt, Count, Created, Info, Taken, Happened, Value, Ready, Refused, Blocked}
use Rattle.vc_base.specs.Device.{DeviceEvent, call, claim, finish, shut}
use Rattle.vc_base.specs.Limits.{longest_buffer, longest_message, script_workers}
use Rattle.vc_defs.specs.Raw.{same_fourcc, grey, yu12, nv12, yuyv}
use Rattle.vc_model.specs.Formats.{data_format, fwht}
use Rattle.vc_model.specs.Coder.{Coder}
use Rattle.vc_model.specs.Answer.{Answer, answer}
use Rattle.vc_model.specs.Solo.{SoloEvent, Called, Claims, Finishes, SoloReply, Answered, Claimed, Finished, Nothing, SoloEntry, solo_slot, events_of}
use Rattle.vc_model.specs.Devices.{DeviceState, DeviceReply, Told, NoJob, Empty, new_device, slot_of, job_of, ignored, call_answered, device_step, device_after}
use Rattle.vc_model.specs.Devices.{device_run, with_told, solo_events_of, entry_for, entries_of, projection}
use Rattle.vc_model.specs.Script.{Asked, AsksNothing, AsksCall, AsksClaim, AsksFinish, AsksRun, is_known, HasKnownFourcc}
use Rattle.vc_model.specs.Messages.{number_bytes, wide_bytes, number_at, is_length, has_message, first_body, behind_first, Messages, with_body, messages_within}
use Rattle.vc_model.specs.Messages.{messages, call_in, payload_in, asked_call, asked_work, asked_in}
use Rattle.vc_model.specs.Wire.{taken_bytes, reply_body, framed, device_reply, body_reply, chosen_events, RunsAreShort}
use Rattle.vc_model.proofs.PartsOfTests.{and_left, and_right, and_both, or_cases}
use Rattle.vc_model.proofs.SlotsAreIsolated.{isolated}
use Rattle.vc_model.proofs.CoresStandForDevices.{after-append}
use Rattle.vc_model.proofs.EachSlotPrintsItsOwn.{Comes, comes_known}
use Rattle.vc_model.proofs.HandedBytesAreFew.{is_few, IsShortEvent, AreShortEvents, handed_are_few}

-- Messages

abbrev is_message : List ℕ → Bool
is_message body = nat_le (length body) longest_message

first_message : (bytes : List ℕ) → has_message bytes ≡ true → is_message (first_body bytes) ≡ true
first_message bytes e =
    let n = number_at bytes 0 in
    let inner = and_right (nat_le 4 (length bytes)) (is_length n && nat_le (4 + n) (length bytes)) e in
    let few = leb-true n longest_message (and_right (nat_le 1 n) (nat_le n longest_message) (and_left (is_length n) (nat_le (4 + n) (length bytes)) inner)) in
    let less = length-take n (drop 4 bytes) in
    le-leb (length (first_body bytes)) longest_message (omega arith)
  where
    length-take : (n : ℕ) (xs : List ℕ) → length (take n xs) ≤ n
    length-take zero xs = omega arith
    length-take (suc n) [] = omega arith
    length-take (suc n) (x ∷ xs) = let h = length-take n xs in omega arith

messages_split :
    (n : ℕ) (bytes : List ℕ) → list_all is_message (messages_within n (behind_first bytes)).bodies ≡ true → (b : Bool) → has_message bytes ≡ b
    → list_all is_message (cond b (with_body (first_body bytes) (messages_within n (behind_first bytes))) (record { bodies = []; rest = bytes })).bodies ≡ true
messages_split n bytes h true e =
    and_both (is_message (first_body bytes)) (list_all is_message (messages_within n (behind_first bytes)).bodies) (first_message bytes e) h
messages_split n bytes h false e = refl

within_short : (n : ℕ) (bytes : List ℕ) → list_all is_message (messages_within n bytes).bodies ≡ true
within_short zero bytes = refl
within_short (suc n) bytes = messages_split n bytes (within_short n (behind_first bytes)) (has_message bytes) refl

pub bodies_are_short : (bytes : List ℕ) → list_all (λ body. nat_le (length body) longest_message) (messages bytes).bodies ≡ true
bodies_are_short bytes = within_short (length bytes) bytes

-- What bodies ask

abbrev IsShortAsked : Option Asked → Type 0
IsShortAsked (Some (AsksCall slot request bytes)) = is_few bytes ≡ true
IsShortAsked asked = Unit {0}

payload_few : (body : List ℕ) (request : Call) → is_message body ≡ true → is_few (payload_in request body) ≡ true
payload_few body (QBuf Out index used stamp) h =
    let few = leb-true (length body) longest_message h in
    let less = length-drop 17 body in
    le-leb (length (drop 17 body)) longest_buffer (omega arith)
payload_few body (QBuf Cap index used stamp) h = refl
payload_few body request h = refl

call_short : (slot : ℕ) (body : List ℕ) (o : Option Call) → is_message body ≡ true → IsShortAsked (asked_call slot body o)
call_short slot body None h = tt
call_short slot body (Some request) h = payload_few body request h

either_short : (a b : Bool) (x y z : Option Asked) → IsShortAsked x → IsShortAsked y → IsShortAsked z → IsShortAsked (cond a x (cond b y z))
either_short true b x y z p q r = p
either_short false true x y z p q r = q
either_short false false x y z p q r = r

when_short : (b : Bool) (x : Option Asked) → IsShortAsked x → IsShortAsked (cond b x None)
when_short true x h = h
when_short false x h = tt

asked_short : (n : ℕ) (body : List ℕ) → is_message body ≡ true → IsShortAsked (asked_in n body)
asked_short n [] h = tt
asked_short n (code ∷ fields) h =
    let body = code ∷ fields in
    let s = number_at body 1 in
    let ok = (length body == 5) && ltb s script_workers in
    either_short (eqb code 0x20) (eqb code 0x21) (asked_work body (AsksClaim s)) (asked_work body (AsksFinish s))
    (cond (ltb s n) (asked_call s body (call_in code body)) None) (when_short ok (Some (AsksClaim s)) tt) (when_short ok (Some (AsksFinish s)) tt)
    (when_short (ltb s n) (asked_call s body (call_in code body)) (call_short s body (call_in code body) h))

-- Events of the device

abbrev IsShortStep : DeviceEvent → Type 0
IsShortStep (call k request bytes found) = is_few bytes ≡ true
IsShortStep (claim worker) = Unit {0}
IsShortStep (finish worker fault) = Unit {0}
IsShortStep shut = Unit {0}

abbrev AreShortSteps : List DeviceEvent → Type 0
AreShortSteps [] = Unit {0}
AreShortSteps (e ∷ es) = IsShortStep e × AreShortSteps es

steps_end : (es : List DeviceEvent) (e : DeviceEvent) → AreShortSteps es → IsShortStep e → AreShortSteps (es ++ e ∷ [])
steps_end [] e h k = (k, tt)
steps_end (x ∷ es) e h k = (h.0, steps_end es e h.1 k)

-- a device that short events lead to
pub record Reaches (coder : Coder) (n : ℕ) (d : DeviceState) : Type 0 where
  pub past : List DeviceEvent
  pub same : d ≡ device_after coder (new_device n) past
  pub short : AreShortSteps past

pub first_reach : (coder : Coder) (n : ℕ) → Reaches coder n (new_device n)
first_reach coder n = record { past = []; same = refl; short = tt }

pub comes : (coder : Coder) (n : ℕ) (d : DeviceState) → Reaches coder n d → Comes coder n d
comes coder n d r = record { past = r.past; same = r.same }

reaches_on : (coder : Coder) (n : ℕ) (d : DeviceState) (es : List DeviceEvent) → AreShortSteps es → Reaches coder n d → Reaches coder n (device_after coder d es)
reaches_on coder n d [] h r = r
reaches_on coder n d (e ∷ es) h r =
    reaches_on coder n (device_step coder d e).device es h.1
    (record {
      past = r.past ++ e ∷ [];
      same = ap (λ x. (device_step coder x e).device) r.same ∙ sym (after-append coder (new_device n) r.past e);
      short = steps_end r.past e r.short h.0;
    })

work_short : (b : Bool) (e : DeviceEvent) → IsShortStep e → AreShortSteps (cond b (e ∷ []) [])
work_short true e h = (h, tt)
work_short false e h = tt

ends_short : (b : Bool) (e : DeviceEvent) → IsShortStep e → AreShortSteps (cond b [] (e ∷ []))
ends_short true e h = tt
ends_short false e h = (h, tt)

chosen_short : (d : DeviceState) (asked : Option Asked) (fails : Bool) → IsShortAsked asked → AreShortSteps (chosen_events d asked fails)
chosen_short d None fails h = tt
chosen_short d (Some AsksNothing) fails h = tt
chosen_short d (Some (AsksRun worker)) fails h = tt
chosen_short d (Some (AsksCall slot request bytes)) fails h = (h, tt)
chosen_short d (Some (AsksClaim worker)) fails h = work_short (is_none (job_of d worker)) (claim worker) tt
chosen_short d (Some (AsksFinish worker)) fails h = ends_short (is_none (job_of d worker)) (finish worker fails) tt

pub reaches_behind :
    (coder : Coder) (n : ℕ) (d : DeviceState) (body : List ℕ) (fails : Bool) → nat_le (length body) longest_message ≡ true → Reaches coder n d
    → Reaches coder n (device_after coder d (chosen_events d (asked_in n body) fails))
reaches_behind coder n d body fails h r =
    reaches_on coder n d (chosen_events d (asked_in n body) fails) (chosen_short d (asked_in n body) fails (asked_short n body h)) r

-- Events of a slot

abbrev AreShortEntries : List SoloEntry → Type 0
AreShortEntries [] = Unit {0}
AreShortEntries (x ∷ xs) = IsShortEvent x.event × AreShortEntries xs

entries_both : (xs ys : List SoloEntry) → AreShortEntries xs → AreShortEntries ys → AreShortEntries (xs ++ ys)
entries_both [] ys h k = k
entries_both (x ∷ xs) ys h k = (h.0, entries_both xs ys h.1 k)

told_short : (e : DeviceEvent) (reply : SoloReply) → IsShortStep e → (b : Bool) → AreShortEntries (cond b (with_told reply (solo_events_of e)) [])
told_short (call i request bytes found) reply h true = (h, tt)
told_short (claim worker) reply h true = (tt, tt)
told_short (finish worker fault) reply h true = (tt, tt)
told_short shut reply h true = tt
told_short e reply h false = tt

entry_short : (k : ℕ) (e : DeviceEvent) (reply : DeviceReply) → IsShortStep e → AreShortEntries (entry_for k e reply)
entry_short k e (Told j reply) h = told_short e reply h (eqb j k)
entry_short k e NoJob h = tt
entry_short k e Empty h = tt

run_entries : (coder : Coder) (k : ℕ) (d : DeviceState) (es : List DeviceEvent) → AreShortSteps es → AreShortEntries (entries_of k (device_run coder d es))
run_entries coder k d [] h = tt
run_entries coder k d (e ∷ es) h =
    let r = device_step coder d e in
    entries_both (entry_for k e r.reply) (entries_of k (device_run coder r.device es)) (entry_short k e r.reply h.0) (run_entries coder k r.device es h.1)

events_short : (xs : List SoloEntry) → AreShortEntries xs → AreShortEvents (events_of xs)
events_short [] h = tt
events_short (x ∷ xs) h = (h.0, events_short xs h.1)

handed_few :
    (coder : Coder) (n : ℕ) (d : DeviceState) (k : ℕ) (request : Call) (bytes : List ℕ) (found : Bool) → RunsAreShort coder → Reaches coder n d
    → is_few (taken_bytes request (answer (slot_of d k) request bytes found).bytes) ≡ true
handed_few coder n d k request bytes found h r =
    let s : slot_of d k ≡ solo_slot coder None (projection coder (new_device n) r.past k) = ap (λ x. slot_of x k) r.same ∙ (isolated coder n k r.past).slot in
    subst (λ x. is_few (taken_bytes request (answer x request bytes found).bytes) ≡ true) (sym s)
    (handed_are_few coder (projection coder (new_device n) r.past k) request bytes found h
    (events_short (entries_of k (device_run coder (new_device n) r.past)) (run_entries coder k (new_device n) r.past r.short)))

-- Replies

known_in : (f : Fourcc) (fs : List Fourcc) → list_all (λ (g : Fourcc). length g.0 == 4) fs ≡ true → list_any (same_fourcc f) fs ≡ true → length f.0 ≡ 4
known_in f [] h e = absurd (false≢true e)
known_in f (g ∷ gs) h e =
    ⊎_elim
    (λ (p : same_fourcc f g ≡ true). ap length ((bytes_eq-Decides f.0 g.0).0 p) ∙ eqb-true (length g.0) 4 (and_left (length g.0 == 4) (list_all (λ (g : Fourcc). length g.0 == 4) gs) h))
    (λ (p : list_any (same_fourcc f) gs ≡ true). known_in f gs (and_right (length g.0 == 4) (list_all (λ (g : Fourcc). length g.0 == 4) gs) h) p)
    (or_cases (same_fourcc f g) (list_any (same_fourcc f) gs) e)

known_long : (f : Fourcc) → is_known f ≡ true → length f.0 ≡ 4
known_long f e = known_in f (data_format ∷ fwht ∷ grey ∷ yu12 ∷ nv12 ∷ yuyv ∷ []) refl e

abbrev CanSay : List ℕ → Type 0
CanSay reply = length reply < 4 + 2 ^ 32

can_say : (request : Call) (reply : Reply) (handed : List ℕ) → HasKnownFourcc reply → is_few (taken_bytes request handed) ≡ true → CanSay (framed (reply_body request reply handed))
can_say request Done handed k h = omega arith
can_say request (Desc fourcc) handed k h = let l = known_long fourcc k in omega arith
can_say request (Fmt f) handed k h =
    let l = known_long f.fourcc k in
    let a = length-append f.fourcc.0 (number_bytes f.width ++ (number_bytes f.height ++ number_bytes f.size)) in omega arith
can_say request (Count count) handed k h = omega arith
can_say request (Info index size flags) handed k h = omega arith
can_say request (Taken index used flags seq stamp) handed k h =
    let few = leb-true (length (taken_bytes request handed)) longest_buffer h in omega arith
can_say request (Happened event seq changes pending) handed k h = omega arith
can_say request (Value value) handed k h = omega arith
can_say request (Ready read write urgent) handed k h = truth read write urgent
  where
    truth : (a b c : Bool) → CanSay (framed (reply_body request (Ready a b c) handed))
    truth true true true = omega arith
    truth true true false = omega arith
    truth true false true = omega arith
    truth true false false = omega arith
    truth false true true = omega arith
    truth false true false = omega arith
    truth false false true = omega arith
    truth false false false = omega arith
can_say request (Created index count) handed k h = omega arith
can_say request (Refused errno) handed k h = omega arith
can_say request Blocked handed k h = omega arith

call_said :
    (d : DeviceState) (slot : ℕ) (request : Call) (bytes : List ℕ) (found : Bool) → CanSay (framed (reply_body request (answer (slot_of d slot) request bytes found).reply (answer (slot_of d slot) request bytes found).bytes))
    → (b : Bool) → CanSay (device_reply (call slot request bytes found) (cond b (call_answered d slot (answer (slot_of d slot) request bytes found)) (ignored d)).reply ++ [])
call_said d slot request bytes found h true =
    let a = answer (slot_of d slot) request bytes found in
    subst CanSay (sym (append-nil (framed (reply_body request a.reply a.bytes)))) h
call_said d slot request bytes found h false = omega arith

claim_told : (worker : ℕ) (told : DeviceReply) → CanSay (device_reply (claim worker) told ++ [])
claim_told worker (Told j (Answered reply handed)) = omega arith
claim_told worker (Told j Claimed) = omega arith
claim_told worker (Told j (Finished word)) = omega arith
claim_told worker (Told j Nothing) = omega arith
claim_told worker NoJob = omega arith
claim_told worker Empty = omega arith

finish_told : (worker : ℕ) (fault : Bool) (told : DeviceReply) → CanSay (device_reply (finish worker fault) told ++ [])
finish_told worker fault (Told j (Answered reply handed)) = omega arith
finish_told worker fault (Told j Claimed) = omega arith
finish_told worker fault (Told j (Finished word)) = omega arith
finish_told worker fault (Told j Nothing) = omega arith
finish_told worker fault NoJob = omega arith
finish_told worker fault Empty = omega arith

claim_said : (coder : Coder) (d : DeviceState) (worker : ℕ) (b : Bool) → CanSay (body_reply coder d (Some (AsksClaim worker)) (cond b (claim worker ∷ []) []))
claim_said coder d worker true = claim_told worker (device_step coder d (claim worker)).reply
claim_said coder d worker false = omega arith

finish_said : (coder : Coder) (d : DeviceState) (worker : ℕ) (fault b : Bool) → CanSay (body_reply coder d (Some (AsksFinish worker)) (cond b [] (finish worker fault ∷ [])))
finish_said coder d worker fault true = omega arith
finish_said coder d worker fault false = finish_told worker fault (device_step coder d (finish worker fault)).reply

pub replies_have_lengths :
    (coder : Coder) (n : ℕ) (d : DeviceState) (asked : Option Asked) (fails : Bool) → RunsAreShort coder → Reaches coder n d
    → length (body_reply coder d asked (chosen_events d asked fails)) < 4 + 2 ^ 32
unfolding device_step
replies_have_lengths coder n d None fails h r = omega arith
replies_have_lengths coder n d (Some AsksNothing) fails h r = omega arith
replies_have_lengths coder n d (Some (AsksRun worker)) fails h r = omega arith
replies_have_lengths coder n d (Some (AsksCall slot request bytes)) fails h r =
    let found = not fails in
    let a = answer (slot_of d slot) request bytes found in
    call_said d slot request bytes found
    (can_say request a.reply a.bytes (comes_known coder n d slot request bytes found (comes coder n d r)) (handed_few coder n d slot request bytes found h r))
    (ltb slot (length d.slots))
replies_have_lengths coder n d (Some (AsksClaim worker)) fails h r = claim_said coder d worker (is_none (job_of d worker))
replies_have_lengths coder n d (Some (AsksFinish worker)) fails h r = finish_said coder d worker fails (is_none (job_of d worker))
