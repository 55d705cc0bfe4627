-- A call for which no memory is found leaves the slot as it was and is refused, so its step is that of any other refused call. A
-- call that doesn't seek memory is the same step with memory and without.
use Rattle.std.proofs.Common.{ℕ, ◌≡◌, ◌<◌, nat_lt, Bool, true, false, cond, is_none, length, Option, Some, None, List, [], ◌∷◌, ◌++◌, refl, sym, ap, ◌∙◌, subst}
use Rattle.std.proofs.lemmas.Bool.{lt-ltb}
use Rattle.std.proofs.lemmas.List.{length-map}
use Rattle.vc_model.specs.Script.{HasUsedBytes}
use Rattle.vc_base.specs.declared.Errno.{Errno}
use Rattle.vc_base.specs.declared.Errno.TheVariants.{NoMem, Busy, NoTty}
use Rattle.vc_base.specs.declared.Call.{Call}
use Rattle.vc_base.specs.declared.Call.TheVariants.{Open, Close, EnumFmt, GetFmt, TryFmt, SetFmt, ReqBufs, CreateBufs, QueryBuf, QBuf, DqBuf, StreamOn, StreamOff, Subscribe, Unsubscribe, DqEvent, DecCmd, EncCmd, GetCtrl, SetCtrl, Poll}
use Rattle.vc_base.specs.declared.Reply.{Reply}
use Rattle.vc_base.specs.declared.Reply.TheVariants.{Refused}
use Rattle.vc_base.specs.Device.{DeviceEvent, call}
use Rattle.vc_model.specs.Coder.{the_coder}
use Rattle.vc_base.specs.Buffers.{reqbufs_refusal, create_refusal}
use Rattle.vc_model.specs.Context.{Context, Slot, queue_of}
use Rattle.vc_model.specs.Answer.{Answer, answer, closed_answer, context_answer, unless, if_found, refused}
use Rattle.vc_model.specs.Devices.{DeviceState, new_device, slot_of, call_answered, ignored, device_step}
use Rattle.vc_model.specs.Core.{before_memory, unless_memory}
use Rattle.vc_model.specs.Standing.{CoreState, IsDevice, core_slot}
use Rattle.vc_model.proofs.CoresStandForDevices.{after-append, core_slot_at}
use Rattle.vc_model.proofs.CallsLeaveTheJob.{answers_without_job}
use Rattle.vc_desk.specs.declared.desk.Desk.{Desk}
use Rattle.vc_desk.specs.Desks.{after, CallDone}
use Rattle.vc_desk.specs.Skips.{seeks_memory, refused_beside, FoundNone, IsAlike}
use Rattle.vc_desk.proofs.StepsKeepDesks.{same_at}

-- The answer is a refusal: the slot stays.
record Refuses (s : Slot) (a : Answer) (errno : Errno) : Type 0 where
  slot : a.slot ≡ s
  reply : a.reply ≡ Refused errno
  nothing : a.bytes ≡ []

-- which refusal stands beside want of memory
beside : Slot → Errno
beside None = NoTty
beside (Some c) = Busy

-- what a call that seeks memory is answered without it, and what the other call is answered
record Lacks (s : Slot) (request : Call) : Type 0 where
  wants : (bytes : List ℕ) → Refuses s (answer s request bytes false) NoMem
  other : (bytes : List ℕ) (found : Bool) → Refuses s (answer s (refused_beside request) bytes found) (beside s)

unless_none : (c : Context) (o : Option Errno) → is_none (unless_memory (unless c o (refused c NoMem)).reply) ≡ true → Refuses (Some c) (unless c o (refused c NoMem)) NoMem
unless_none c None e = record { slot = refl; reply = refl; nothing = refl }
unless_none c (Some NoMem) e = record { slot = refl; reply = refl; nothing = refl }
unless_none c (Some errno) e = absurd (cc)

lacks_of : (s : Slot) (request : Call) → seeks_memory s request ≡ true → Lacks s request
unfolding answer closed_answer context_answer beside
lacks_of None (Open kind) e =
    record { wants = λ bytes. record { slot = refl; reply = refl; nothing = refl }; other = λ bytes found. record { slot = refl; reply = refl; nothing = refl } }
lacks_of None (ReqBufs side count) e = absurd (cc)
lacks_of None (CreateBufs side count size) e = absurd (cc)
lacks_of (Some c) (Open kind) e = absurd (cc)
lacks_of (Some c) (ReqBufs side count) e =
    record { wants = λ bytes. unless_none c (reqbufs_refusal (queue_of c side)) e; other = λ bytes found. record { slot = refl; reply = refl; nothing = refl } }
lacks_of (Some c) (CreateBufs side count size) e =
    record { wants = λ bytes. unless_none c (create_refusal (queue_of c side) count size) e; other = λ bytes found. record { slot = refl; reply = refl; nothing = refl } }
lacks_of s Close e = absurd (cc)
lacks_of s (EnumFmt side index) e = absurd (cc)
lacks_of s (GetFmt side) e = absurd (cc)
lacks_of s (TryFmt side want) e = absurd (cc)
lacks_of s (SetFmt side want) e = absurd (cc)
lacks_of s (QueryBuf side index) e = absurd (cc)
lacks_of s (QBuf side index used stamp) e = absurd (cc)
lacks_of s (DqBuf side block) e = absurd (cc)
lacks_of s (StreamOn side) e = absurd (cc)
lacks_of s (StreamOff side) e = absurd (cc)
lacks_of s (Subscribe event) e = absurd (cc)
lacks_of s (Unsubscribe event) e = absurd (cc)
lacks_of s (DqEvent block) e = absurd (cc)
lacks_of s (DecCmd cmd) e = absurd (cc)
lacks_of s (EncCmd cmd) e = absurd (cc)
lacks_of s (GetCtrl id) e = absurd (cc)
lacks_of s (SetCtrl id value) e = absurd (cc)
lacks_of s Poll e = absurd (cc)

-- A call that doesn't seek memory is answered alike.
some_alike : (c : Context) (o : Option Errno) (x : Answer) → is_none (unless_memory (unless c o (if_found c false x)).reply) ≡ false → unless c o (if_found c false x) ≡ unless c o (if_found c true x)
some_alike c None x e = absurd (cc)
some_alike c (Some errno) x e = refl

alike : (s : Slot) (request : Call) (bytes : List ℕ) → seeks_memory s request ≡ false → answer s request bytes false ≡ answer s request bytes true
unfolding answer closed_answer context_answer
alike None (Open kind) bytes e = absurd (cc)
alike None (ReqBufs side count) bytes e = refl
alike None (CreateBufs side count size) bytes e = refl
alike (Some c) (Open kind) bytes e = refl
alike (Some c) (ReqBufs side count) bytes e = some_alike c (reqbufs_refusal (queue_of c side)) _ e
alike (Some c) (CreateBufs side count size) bytes e = some_alike c (create_refusal (queue_of c side) count size) _ e
alike None Close bytes e = refl
alike None (EnumFmt side index) bytes e = refl
alike None (GetFmt side) bytes e = refl
alike None (TryFmt side want) bytes e = refl
alike None (SetFmt side want) bytes e = refl
alike None (QueryBuf side index) bytes e = refl
alike None (QBuf side index used stamp) bytes e = refl
alike None (DqBuf side block) bytes e = refl
alike None (StreamOn side) bytes e = refl
alike None (StreamOff side) bytes e = refl
alike None (Subscribe event) bytes e = refl
alike None (Unsubscribe event) bytes e = refl
alike None (DqEvent block) bytes e = refl
alike None (DecCmd cmd) bytes e = refl
alike None (EncCmd cmd) bytes e = refl
alike None (GetCtrl id) bytes e = refl
alike None (SetCtrl id value) bytes e = refl
alike None Poll bytes e = refl
alike (Some c) Close bytes e = refl
alike (Some c) (EnumFmt side index) bytes e = refl
alike (Some c) (GetFmt side) bytes e = refl
alike (Some c) (TryFmt side want) bytes e = refl
alike (Some c) (SetFmt side want) bytes e = refl
alike (Some c) (QueryBuf side index) bytes e = refl
alike (Some c) (QBuf side index used stamp) bytes e = refl
alike (Some c) (DqBuf side block) bytes e = refl
alike (Some c) (StreamOn side) bytes e = refl
alike (Some c) (StreamOff side) bytes e = refl
alike (Some c) (Subscribe event) bytes e = refl
alike (Some c) (Unsubscribe event) bytes e = refl
alike (Some c) (DqEvent block) bytes e = refl
alike (Some c) (DecCmd cmd) bytes e = refl
alike (Some c) (EncCmd cmd) bytes e = refl
alike (Some c) (GetCtrl id) bytes e = refl
alike (Some c) (SetCtrl id value) bytes e = refl
alike (Some c) Poll bytes e = refl

-- The core and the device

before_same : (s : Slot) (request : Call) → before_memory (core_slot s) request ≡ before_memory s request
before_same s request = ap (λ (a : Answer). unless_memory a.reply) (answers_without_job s request [] false)

seeks_same : (s : Slot) (request : Call) → seeks_memory (core_slot s) request ≡ seeks_memory s request
seeks_same s (Open kind) = ap is_none (before_same s (Open kind))
seeks_same s (ReqBufs side count) = ap is_none (before_same s (ReqBufs side count))
seeks_same s (CreateBufs side count size) = ap is_none (before_same s (CreateBufs side count size))
seeks_same s Close = refl
seeks_same s (EnumFmt side index) = refl
seeks_same s (GetFmt side) = refl
seeks_same s (TryFmt side want) = refl
seeks_same s (SetFmt side want) = refl
seeks_same s (QueryBuf side index) = refl
seeks_same s (QBuf side index used stamp) = refl
seeks_same s (DqBuf side block) = refl
seeks_same s (StreamOn side) = refl
seeks_same s (StreamOff side) = refl
seeks_same s (Subscribe event) = refl
seeks_same s (Unsubscribe event) = refl
seeks_same s (DqEvent block) = refl
seeks_same s (DecCmd cmd) = refl
seeks_same s (EncCmd cmd) = refl
seeks_same s (GetCtrl id) = refl
seeks_same s (SetCtrl id value) = refl
seeks_same s Poll = refl

seeks_in_device : (core : CoreState) (d : DeviceState) (k : ℕ) (request : Call) → IsDevice core 16 d → seeks_memory (slot_of core k) request ≡ seeks_memory (slot_of d k) request
seeks_in_device core d k request is =
    ap (λ (c : CoreState). seeks_memory (slot_of c k) request) is.state ∙ (ap (λ s. seeks_memory s request) (core_slot_at d.slots k) ∙ seeks_same (slot_of d k) request)

-- Two refusals on a slot are one step.
refused_step : (d : DeviceState) (k : ℕ) (a : Answer) (errno : Errno) → Refuses (slot_of d k) a errno → call_answered d k a ≡ call_answered d k (record { slot = slot_of d k; reply = Refused errno; bytes = [] })
refused_step d k a errno r =
    ap (λ s. call_answered d k (record { slot = s; reply = a.reply; bytes = a.bytes })) r.slot
    ∙ (ap (λ e. call_answered d k (record { slot = slot_of d k; reply = e; bytes = a.bytes })) r.reply
    ∙ ap (λ bs. call_answered d k (record { slot = slot_of d k; reply = Refused errno; bytes = bs })) r.nothing)

there_step : (d : DeviceState) (k : ℕ) (request : Call) (bytes : List ℕ) (found : Bool) → k < length d.slots → device_step the_coder d (call k request bytes found) ≡ call_answered d k (answer (slot_of d k) request bytes found)
unfolding device_step
there_step d k request bytes found l =
    ap (λ b. cond b (call_answered d k (answer (slot_of d k) request bytes found)) (ignored d)) (lt-ltb k (length d.slots) l)

pub found_none :
    (n : ℕ) (history : List DeviceEvent) (core : CoreState) (slot : ℕ) (request : Call) (told : Reply) (bytes : List ℕ) (desk : Desk) → IsDevice core 16 (after n history)
    → slot < length (after n history).slots → seeks_memory (slot_of core slot) request ≡ true
    → CallDone n history slot (refused_beside request) [] told desk → FoundNone n history slot request bytes desk
found_none n history core slot request told bytes desk is l seeks done =
    let d = after n history in
    let lacks = lacks_of (slot_of d slot) request (sym (seeks_in_device core d slot request is) ∙ seeks) in
    let wanted = there_step d slot request bytes false l ∙ refused_step d slot (answer (slot_of d slot) request bytes false) NoMem (lacks.wants bytes) in
    let other =
    there_step d slot (refused_beside request) [] done.found l
    ∙ refused_step d slot (answer (slot_of d slot) (refused_beside request) [] done.found) (beside (slot_of d slot)) (lacks.other [] done.found) in
    let e = call slot request bytes false in
    let f = call slot (refused_beside request) [] done.found in
    let same : after n (history ++ f ∷ []) ≡ after n (history ++ e ∷ []) =
    after-append the_coder (new_device n) history f ∙ ((ap (λ s. s.device) other ∙ sym (ap (λ s. s.device) wanted)) ∙ sym (after-append the_coder (new_device n) history e)) in
    record { reply = ap (λ s. s.reply) wanted; at = same_at n (history ++ f ∷ []) (history ++ e ∷ []) desk.core desk.holds.items desk.jobs.items same done.at }

pub is_alike :
    (n : ℕ) (history : List DeviceEvent) (core : CoreState) (slot : ℕ) (request : Call) (bytes : List ℕ) → IsDevice core 16 (after n history)
    → seeks_memory (slot_of core slot) request ≡ false → IsAlike n history slot request bytes
unfolding device_step
is_alike n history core slot request bytes is seeks =
    let d = after n history in
    ap (λ a. cond (nat_lt slot (length d.slots)) (call_answered d slot a) (ignored d))
    (alike (slot_of d slot) request bytes (sym (seeks_in_device core d slot request is) ∙ seeks))

pub used_beside : (request : Call) → HasUsedBytes (refused_beside request) []
used_beside (Open kind) = tt
used_beside request = tt

pub slots_there : (core : CoreState) (d : DeviceState) (k : ℕ) → IsDevice core 16 d → k < length core.slots → k < length d.slots
slots_there core d k is l =
    subst (λ m. k < m) (ap (λ (c : CoreState). length c.slots) is.state ∙ length-map d.slots core_slot) l
