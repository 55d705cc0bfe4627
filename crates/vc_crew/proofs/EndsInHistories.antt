-- How many jobs ended in a history: on all slots, on one slot, and of one worker. What a worker gave back is what the history
-- tells of it.
use Rattle.std.proofs.Common.{ℕ, ◌≡◌, ◌+◌, ◌≤◌, ◌==◌, ◌&&◌, Bool, true, false, not, cond, List, [], ◌∷◌, ◌++◌, refl, sym, ap, ◌∙◌, arith, Option, Some, None}
use Rattle.std.proofs.lemmas.List.Sums.{sum_by-cons}
use mathlib.Core.List.{IsPrefix}
use Rattle.vc_base.specs.Device.{DeviceEvent, call, claim, finish, shut}
use Rattle.vc_model.specs.Coder.{the_coder}
use Rattle.vc_model.specs.Solo.{SoloReply, Answered, Claimed, Finished, Nothing, SoloEntry}
use Rattle.vc_model.specs.Handed.{same_bool, finishes_by_fault}
use Rattle.vc_model.specs.Devices.{DeviceState, DeviceReply, Told, NoJob, Empty, new_device, device_step, device_run, with_told, solo_events_of, entry_for, entries_of, projection}
use Rattle.vc_model.proofs.SlotsAreIsolated.{isolated}
use Rattle.vc_port.specs.Payloads.{told_at}
use Rattle.vc_port.specs.Stations.{StationJob, Worked, took, gave_back}
use Rattle.vc_shared.specs.AsStation.{took_job, job_in_device, worked_at, worked_from}
use Rattle.vc_worker.specs.Turns.{JobRun, worked_of, good_runs, failed_runs}

abbrev pub is_end : Bool → DeviceEvent → Bool
is_end fault (call slot request bytes found) = false
is_end fault (claim worker) = false
is_end fault (finish worker ended) = same_bool fault ended
is_end fault shut = false

-- how many jobs ended, with a fault or without
abbrev pub ends : Bool → List DeviceEvent → ℕ
ends fault [] = 0
ends fault (e ∷ es) = cond (is_end fault e) 1 0 + ends fault es

abbrev pub is_end_of : Bool → ℕ → DeviceEvent → Bool
is_end_of fault worker (call slot request bytes found) = false
is_end_of fault worker (claim other) = false
is_end_of fault worker (finish other ended) = (other == worker) && same_bool fault ended
is_end_of fault worker shut = false

-- how many of them were a worker's
abbrev pub ends_of : Bool → ℕ → List DeviceEvent → ℕ
ends_of fault worker [] = 0
ends_of fault worker (e ∷ es) = cond (is_end_of fault worker e) 1 0 + ends_of fault worker es

-- The ends on one slot

pub finishes-append : (fault : Bool) (xs ys : List SoloEntry) → finishes_by_fault fault (xs ++ ys) ≡ finishes_by_fault fault xs + finishes_by_fault fault ys
finishes-append fault [] ys = omega arith
finishes-append fault (x ∷ xs) ys = let h = finishes-append fault xs ys in omega (arith, h)

none_more : (n : ℕ) → 0 ≤ n
none_more n = omega arith

just_one : (b : Bool) → cond b 1 0 + 0 ≤ cond b 1 0
just_one b = omega arith

told_once : (fault : Bool) (e : DeviceEvent) (r : SoloReply) → finishes_by_fault fault (with_told r (solo_events_of e)) ≤ cond (is_end fault e) 1 0
told_once fault (call slot request bytes found) r = none_more 0
told_once fault (claim worker) r = none_more 0
told_once fault (finish worker ended) (Answered reply bytes) = none_more (cond (same_bool fault ended) 1 0)
told_once fault (finish worker ended) Claimed = none_more (cond (same_bool fault ended) 1 0)
told_once fault (finish worker ended) (Finished word) = just_one (same_bool fault ended)
told_once fault (finish worker ended) Nothing = none_more (cond (same_bool fault ended) 1 0)
told_once fault shut r = none_more 0

pub of_slot : (fault : Bool) (e : DeviceEvent) (r : SoloReply) (b : Bool) → finishes_by_fault fault (cond b (with_told r (solo_events_of e)) []) ≤ cond (is_end fault e) 1 0
of_slot fault e r true = told_once fault e r
of_slot fault e r false = none_more (cond (is_end fault e) 1 0)

entry_once : (fault : Bool) (k : ℕ) (e : DeviceEvent) (r : DeviceReply) → finishes_by_fault fault (entry_for k e r) ≤ cond (is_end fault e) 1 0
entry_once fault k e (Told j r) = of_slot fault e r (j == k)
entry_once fault k e NoJob = none_more (cond (is_end fault e) 1 0)
entry_once fault k e Empty = none_more (cond (is_end fault e) 1 0)

slot_ends : (fault : Bool) (k : ℕ) (d : DeviceState) (es : List DeviceEvent) → finishes_by_fault fault (entries_of k (device_run the_coder d es)) ≤ ends fault es
slot_ends fault k d [] = none_more 0
slot_ends fault k d (e ∷ es) =
    let step = device_step the_coder d e in
    let later = slot_ends fault k step.device es in
    let now = entry_once fault k e step.reply in
    let both = finishes-append fault (entry_for k e step.reply) (entries_of k (device_run the_coder step.device es)) in
    omega (arith, later, now, both)

-- no slot had more ends than the device
pub ends_on_slot : (fault : Bool) (slots k : ℕ) (es : List DeviceEvent) → finishes_by_fault fault (told_at (projection the_coder (new_device slots) es k)) ≤ ends fault es
ends_on_slot fault slots k es =
    let same = ap (finishes_by_fault fault) (isolated the_coder slots k es).told in
    let h = slot_ends fault k (new_device slots) es in
    omega (arith, same, h)

ends-append : (fault : Bool) (xs ys : List DeviceEvent) → ends fault (xs ++ ys) ≡ ends fault xs + ends fault ys
ends-append fault [] ys = omega arith
ends-append fault (x ∷ xs) ys = let h = ends-append fault xs ys in omega (arith, h)

-- a longer history has no fewer ends
pub ends_grow : (fault : Bool) (xs ys : List DeviceEvent) → IsPrefix xs ys → ends fault xs ≤ ends fault ys
ends_grow fault xs ys p =
    let same = ap (ends fault) p.1 in
    let both = ends-append fault xs p.0 in
    omega (arith, same, both)

-- The ends of one worker

-- how many jobs a worker gave back, with a fault or without
abbrev pub backs : Bool → List Worked → ℕ
backs fault [] = 0
backs fault (took job ∷ ws) = backs fault ws
backs fault (gave_back ended ∷ ws) = cond (same_bool fault ended) 1 0 + backs fault ws

backs-append : (fault : Bool) (xs ys : List Worked) → backs fault (xs ++ ys) ≡ backs fault xs + backs fault ys
backs-append fault [] ys = omega arith
backs-append fault (took job ∷ xs) ys = backs-append fault xs ys
backs-append fault (gave_back ended ∷ xs) ys = let h = backs-append fault xs ys in omega (arith, h)

taken : (fault : Bool) (o : Option StationJob) (b : Bool) → backs fault (cond b (took_job o) []) ≡ 0
taken fault None true = refl
taken fault (Some job) true = refl
taken fault o false = refl

given : (fault ended : Bool) (b : Bool) → backs fault (cond b (gave_back ended ∷ []) []) ≡ cond (b && same_bool fault ended) 1 0
given fault ended true = omega arith
given fault ended false = refl

back_at : (fault : Bool) (worker : ℕ) (e : DeviceEvent) (now : DeviceState) → backs fault (worked_at worker e now) ≡ cond (is_end_of fault worker e) 1 0
back_at fault worker (call slot request bytes found) now = refl
back_at fault worker (claim other) now = taken fault (job_in_device now worker) (other == worker)
back_at fault worker (finish other ended) now = given fault ended (other == worker)
back_at fault worker shut now = refl

-- a worker gave back as many jobs as it ended
pub backs_are_ends : (fault : Bool) (worker : ℕ) (d : DeviceState) (es : List DeviceEvent) → backs fault (worked_from worker d es) ≡ ends_of fault worker es
backs_are_ends fault worker d [] = refl
backs_are_ends fault worker d (e ∷ es) =
    let now = (device_step the_coder d e).device in
    let later = backs_are_ends fault worker now es in
    let here = back_at fault worker e now in
    let both = backs-append fault (worked_at worker e now) (worked_from worker now es) in
    omega (arith, later, here, both)

one_back : (fault ended : Bool) (n m : ℕ) → n ≡ m → cond (same_bool fault ended) 1 0 + n ≡ cond (same_bool fault ended) 1 0 + m
one_back fault ended n m e = ap (λ k. cond (same_bool fault ended) 1 0 + k) e

-- of its jobs it gave those back without a fault that were run without one, and the others with a fault
pub good_backs : (js : List JobRun) → backs false (worked_of js) ≡ good_runs js
good_backs [] = refl
good_backs (j ∷ js) =
    one_back false j.fault (backs false (worked_of js)) (good_runs js) (good_backs js) ∙ sym (sum_by-cons (λ (r : JobRun). cond (not r.fault) 1 0) j js)

pub failed_backs : (js : List JobRun) → backs true (worked_of js) ≡ failed_runs js
failed_backs [] = refl
failed_backs (j ∷ js) =
    one_back true j.fault (backs true (worked_of js)) (failed_runs js) (failed_backs js) ∙ sym (sum_by-cons (λ (r : JobRun). cond r.fault 1 0) j js)
