-- In a script the bytes that are queued with a buffer are as many as the call says. Each line that asks for a QBuf
-- has as many, and its event has the same call and the same bytes.
use Rattle.std.proofs.Common.{ℕ, ◌≡◌, eqb, Bool, true, false, cond, is_none, List, [], ◌∷◌, ◌++◌, length, drop, refl, subst}
use Rattle.std.proofs.lemmas.Bool.{eq-eqb}
use Rattle.vc_base.specs.declared.Side.TheVariants.{Out}
use Rattle.vc_base.specs.declared.Call.{Call}
use Rattle.vc_base.specs.declared.Call.TheVariants.{QBuf}
use Rattle.vc_base.specs.declared.Reply.{Reply}
use Rattle.vc_base.specs.declared.Reply.TheVariants.{Done}
use Rattle.vc_base.specs.Device.{DeviceEvent, call, claim, finish, shut}
use Rattle.vc_base.specs.Buffers.{is_empty}
use Rattle.vc_model.specs.Coder.{Coder}
use Rattle.vc_model.specs.Solo.{Called, SoloReply, Answered, Claimed, Finished, Nothing, SoloEntry}
use Rattle.vc_model.specs.Devices.{DeviceState, DeviceReply, Told, NoJob, Empty, new_device, job_of, device_step, device_after, device_run, with_told, solo_events_of, entry_for, entries_of}
use Rattle.vc_model.specs.Places.{is_honest, is_honest_call, AreHonest}
use Rattle.vc_model.specs.Script.{ReplyText, Asked, AsksNothing, AsksCall, AsksClaim, AsksFinish, AsksRun, HasUsedBytes, IsAsked, AreAsked, fault_in, run_events, line_events, printed_by, script_events, events_of_script, ScriptsAreHonest}
use Rattle.vc_model.proofs.SlotsAreIsolated.{isolated}

-- an event with as many bytes as its call says
unfoldable pub IsFair : DeviceEvent → Type 0
IsFair (call k request bytes found) = HasUsedBytes request bytes
IsFair (claim worker) = Unit {0}
IsFair (finish worker fault) = Unit {0}
IsFair shut = Unit {0}

unfoldable pub AreFair : List DeviceEvent → Type 0
AreFair [] = Unit {0}
AreFair (e ∷ es) = IsFair e × AreFair es

honest-append : (xs ys : List SoloEntry) → AreHonest xs → AreHonest ys → AreHonest (xs ++ ys)
honest-append [] ys h k = k
honest-append (x ∷ xs) ys h k = (h.0, honest-append xs ys h.1 k)

honest_call : (request : Call) (bytes : List ℕ) (reply : Reply) → HasUsedBytes request bytes → is_honest_call request bytes reply ≡ true
honest_call (QBuf Out index used stamp) bytes Done h = eq-eqb (length bytes) used h
honest_call request bytes reply h = refl

called_honest : (request : Call) (bytes : List ℕ) (found : Bool) (reply : SoloReply) → HasUsedBytes request bytes → is_honest (Called request bytes found) reply ≡ true
called_honest request bytes found (Answered reply handed) h = honest_call request bytes reply h
called_honest request bytes found Claimed h = refl
called_honest request bytes found (Finished word) h = refl
called_honest request bytes found Nothing h = refl

told_honest : (k : ℕ) (e : DeviceEvent) (j : ℕ) (reply : SoloReply) → IsFair e → (b : Bool) → AreHonest (cond b (with_told reply (solo_events_of e)) [])
unfolding IsFair
told_honest k (call i request bytes found) j reply h true = (called_honest request bytes found reply h, tt)
told_honest k (claim worker) j reply h true = (refl, tt)
told_honest k (finish worker fault) j reply h true = (refl, tt)
told_honest k shut j reply h true = tt
told_honest k e j reply h false = tt

entry_honest : (k : ℕ) (e : DeviceEvent) (reply : DeviceReply) → IsFair e → AreHonest (entry_for k e reply)
entry_honest k e (Told j reply) h = told_honest k e j reply h (eqb j k)
entry_honest k e NoJob h = tt
entry_honest k e Empty h = tt

pub run_honest : (coder : Coder) (k : ℕ) (d : DeviceState) (es : List DeviceEvent) → AreFair es → AreHonest (entries_of k (device_run coder d es))
unfolding AreFair
run_honest coder k d [] h = tt
run_honest coder k d (e ∷ es) h =
    let r = device_step coder d e in
    honest-append (entry_for k e r.reply) (entries_of k (device_run coder r.device es)) (entry_honest k e r.reply h.0) (run_honest coder k r.device es h.1)

pub finish_fair : (worker : ℕ) (fault b : Bool) → AreFair (cond b [] (finish worker fault ∷ []))
unfolding AreFair IsFair
finish_fair worker fault true = tt
finish_fair worker fault false = (tt, tt)

pub claim_fair : (worker : ℕ) (b : Bool) → AreFair (cond b (claim worker ∷ []) [])
unfolding AreFair IsFair
claim_fair worker true = (tt, tt)
claim_fair worker false = tt

job_fair : (worker : ℕ) (a nobody fault : Bool) → AreFair (run_events worker a nobody fault)
unfolding AreFair IsFair
job_fair worker true nobody fault = (tt, finish_fair worker fault nobody)
job_fair worker false nobody fault = tt

line_fair : (t : ReplyText) (n : ℕ) (d : DeviceState) (asked : Asked) (text : List ℕ) → IsAsked n asked → AreFair (line_events t d asked text)
unfolding AreFair IsFair
line_fair t n d AsksNothing text h = tt
line_fair t n d (AsksCall slot request bytes) text h = (h.1, tt)
line_fair t n d (AsksClaim worker) text h = claim_fair worker (is_none (job_of d worker))
line_fair t n d (AsksFinish worker) text h = finish_fair worker (fault_in text) (is_none (job_of d worker))
line_fair t n d (AsksRun worker) text h =
    job_fair worker (is_none (job_of d worker)) (is_empty d.waiting) (fault_in text)

pub fair-append : (es fs : List DeviceEvent) → AreFair es → AreFair fs → AreFair (es ++ fs)
unfolding AreFair
fair-append [] fs h k = k
fair-append (e ∷ es) fs h k = (h.0, fair-append es fs h.1 k)

script_fair : (t : ReplyText) (coder : Coder) (n : ℕ) (d : DeviceState) (lines : List Asked) (output : List ℕ) → AreAsked n lines → AreFair (script_events t coder d lines output)
unfolding AreFair
script_fair t coder n d [] output h = tt
script_fair t coder n d (asked ∷ rest) output h =
    let text = printed_by d asked output in
    let es = line_events t d asked text in
    let after = device_after coder d es in
    let left = drop (length text) output in
    fair-append es (script_events t coder after rest left) (line_fair t n d asked text h.0) (script_fair t coder n after rest left h.1)

pub scripts_are_honest : ScriptsAreHonest
scripts_are_honest t coder n lines output k h =
    let es = events_of_script t coder n lines output in
    subst AreHonest (isolated coder n k es).told (run_honest coder k (new_device n) es (script_fair t coder n (new_device n) lines output h))
