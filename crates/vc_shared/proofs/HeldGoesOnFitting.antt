-- What a user holds goes on fitting his slot, whatever claims, finishes and calls on other slots come. Those move buffers
-- between ready, the job and done, and leave the buffers that are held.
use Rattle.std.proofs.Common.{ℕ, ◌≡◌, ◌==◌, eqb, nat_lt, Bool, true, false, cond, ◌&&◌, is_none, Option, Some, None, List, [], ◌∷◌, length, get_or, set, refl, sym, ap, ◌∙◌, subst, get_or-set_same, get_or-set_other}
use Rattle.std.proofs.lemmas.Bool.{eqb-true, eqb-false}
use Rattle.vc_base.specs.declared.Stamp.{Stamp}
use Rattle.vc_base.specs.Buffers.{Buffer, QueueState, lend_front, lend_after, give_back_from, retire_from, retire_after, zero_stamp}
use Rattle.vc_base.specs.Limits.{last_flag, source_change_event}
use Rattle.vc_base.specs.Device.{DeviceEvent, call, claim, finish, shut}
use Rattle.vc_defs.specs.Decoder.{DecodedResult, picture, damaged, changed, spent, step_outcome}
use Rattle.vc_base.specs.Events.{raise_after}
use Rattle.vc_model.specs.Formats.{formats_found}
use Rattle.vc_model.specs.Coder.{Coder}
use Rattle.vc_model.specs.Context.{Context, Slot, Running, RunSort, copy, encode, decode, probe, Cause, drain, change, PhaseState, run, owe, last, stopped, is_drained, settle, settle_drain, settle_last, give_last, raise_end}
use Rattle.vc_model.specs.Answer.{answer}
use Rattle.vc_model.specs.Runs.{JobData, job_data, RunResult, copied, encoded, decoded, run_result, source_done, source_back, source_moved, dest_done, dest_back, decoded_effect, run_effect, fault_effect, after_claim, claim_front, cap_after_claim, sort_of, after_finish}
use Rattle.vc_model.specs.Devices.{DeviceState, slot_of, job_of, with_slot, ignored, call_answered, claim_slot, claim_first, finish_of, finish_slot, finish_job, device_step}
use Rattle.vc_model.specs.Standing.{without_data_of, core_slot}
use Rattle.vc_model.specs.Seats.{is_call_of}
use Rattle.vc_model.proofs.SlotsAreIsolated.{is_there}
use Rattle.vc_queue.specs.Holds.{HoldState, Fits}
use Rattle.vc_context.specs.Payloads.{FitsContext, FitsSlot}

-- Queues

lent : (q : QueueState) (ready : List Buffer) (hold : HoldState) → Fits q hold → Fits (lend_front q ready) hold
lent q [] hold f = f
lent q (b ∷ rest) hold f = f

given_back : (q : QueueState) (job : List Buffer) (cursor : ℕ) (bytes : List ℕ) (hold : HoldState) → Fits q hold → Fits (give_back_from q job cursor bytes) hold
given_back q [] cursor bytes hold f = f
given_back q (b ∷ rest) cursor bytes hold f = f

retired : (q : QueueState) (job : List Buffer) (used : ℕ) (bytes : List ℕ) (flags : ℕ) (stamp : Stamp) (hold : HoldState) → Fits q hold → Fits (retire_from q job used bytes flags stamp) hold
retired q [] used bytes flags stamp hold f = f
retired q (b ∷ rest) used bytes flags stamp hold f = f

-- Settling

drain_fits : (c : Context) (hold : HoldState) (b : Bool) → FitsContext c hold → FitsContext (cond b (record c { phase = owe drain }) c) hold
drain_fits c hold true f = record { out = f.out; cap = f.cap }
drain_fits c hold false f = f

end_fits : (c : Context) (hold : HoldState) (cause : Cause) → FitsContext c hold → FitsContext (raise_end cause c) hold
end_fits c hold drain f = record { out = f.out; cap = f.cap }
end_fits c hold change f = f

given_fits : (c : Context) (hold : HoldState) (cause : Cause) (ready : List Buffer) → FitsContext c hold → FitsContext (give_last c cause ready) hold
given_fits c hold cause [] f = f
given_fits c hold cause (b ∷ rest) f =
    end_fits _ hold cause (record { out = f.out; cap = retired (lend_after c.cap) (lend_after c.cap).job 0 [] last_flag zero_stamp hold (lent c.cap c.cap.ready hold f.cap) })

last_fits : (c : Context) (hold : HoldState) (p : PhaseState) → FitsContext c hold → FitsContext (settle_last c p) hold
last_fits c hold run f = f
last_fits c hold (owe cause) f = given_fits c hold cause c.cap.ready f
last_fits c hold (last cause) f = f
last_fits c hold (stopped cause) f = f

settle_fits : (c : Context) (hold : HoldState) → FitsContext c hold → FitsContext (settle c) hold
unfolding settle
settle_fits c hold f =
    last_fits (settle_drain c) hold (settle_drain c).phase (drain_fits c hold _ f)

-- Claims

cap_fits : (sort : RunSort) (q : QueueState) (hold : HoldState) → Fits q hold → Fits (cap_after_claim sort q) hold
cap_fits copy q hold f = lent q q.ready hold f
cap_fits encode q hold f = lent q q.ready hold f
cap_fits decode q hold f = lent q q.ready hold f
cap_fits probe q hold f = f

front_fits : (c : Context) (sort : RunSort) (ready : List Buffer) (hold : HoldState) → FitsContext c hold → FitsContext (claim_front c sort ready) hold
front_fits c sort [] hold f = f
front_fits c sort (b ∷ rest) hold f =
    record { out = lent c.out c.out.ready hold f.out; cap = cap_fits sort c.cap hold f.cap }

claim_fits : (c : Context) (hold : HoldState) → FitsContext c hold → FitsContext (after_claim c) hold
unfolding after_claim
claim_fits c hold f = front_fits c (sort_of c.kind c.geometry) c.out.ready hold f

-- Finishes

source_fits : (c : Context) (j : JobData) (flags : ℕ) (hold : HoldState) → FitsContext c hold → FitsContext (source_done c j flags) hold
source_fits c j flags hold f =
    record { out = retired c.out c.out.job j.source.used j.source.bytes flags j.source.stamp hold f.out; cap = f.cap }

back_fits : (c : Context) (j : JobData) (cursor : ℕ) (hold : HoldState) → FitsContext c hold → FitsContext (source_back c j cursor) hold
back_fits c j cursor hold f =
    record { out = given_back c.out c.out.job cursor j.source.bytes hold f.out; cap = f.cap }

moved_fits : (c : Context) (j : JobData) (cursor : ℕ) (b : Bool) (hold : HoldState) → FitsContext c hold → FitsContext (source_moved c j cursor b) hold
moved_fits c j cursor true hold f = source_fits c j 0 hold f
moved_fits c j cursor false hold f = back_fits c j cursor hold f

dest_split : (c : Context) (b : Bool) (used : ℕ) (bytes : List ℕ) (flags more : ℕ) (stamp : Stamp) (hold : HoldState) → FitsContext c hold
    → FitsContext (cond b (raise_end drain (record c { cap = retire_after c.cap used bytes more stamp; phase = last drain })) (record c { cap = retire_after c.cap used bytes flags stamp })) hold
dest_split c true used bytes flags more stamp hold f =
    record { out = f.out; cap = retired c.cap c.cap.job used bytes more stamp hold f.cap }
dest_split c false used bytes flags more stamp hold f =
    record { out = f.out; cap = retired c.cap c.cap.job used bytes flags stamp hold f.cap }

dest_fits : (c : Context) (ds : List Buffer) (used_up : Bool) (used : ℕ) (bytes : List ℕ) (flags : ℕ) (stamp : Stamp) (hold : HoldState) → FitsContext c hold → FitsContext (dest_done c ds used_up used bytes flags stamp) hold
dest_fits c [] used_up used bytes flags stamp hold f = f
dest_fits c (b ∷ rest) used_up used bytes flags stamp hold f =
    dest_split c (used_up && is_drained c.out.ready c.mark) used bytes flags _ stamp hold f

dest_back_fits : (c : Context) (ds : List Buffer) (hold : HoldState) → FitsContext c hold → FitsContext (dest_back c ds) hold
dest_back_fits c [] hold f = f
dest_back_fits c (b ∷ rest) hold f = record { out = f.out; cap = given_back c.cap c.cap.job 0 [] hold f.cap }

stop_fits : (c : Context) (b : Bool) (hold : HoldState) → FitsContext c hold → FitsContext (cond b (record c { phase = owe change }) c) hold
stop_fits c true hold f = record { out = f.out; cap = f.cap }
stop_fits c false hold f = f

decoded_fits : (c : Context) (j : JobData) (cursor : ℕ) (result : DecodedResult) (hold : HoldState) → FitsContext c hold → FitsContext (decoded_effect c j cursor result) hold
decoded_fits c j cursor (picture bytes key stamp) hold f =
    dest_fits _ j.dest _ _ _ _ _ hold (moved_fits c j cursor (cursor == j.source.used) hold f)
decoded_fits c j cursor (damaged stamp) hold f =
    dest_fits _ j.dest _ _ _ _ _ hold (moved_fits c j cursor (cursor == j.source.used) hold f)
decoded_fits c j cursor (changed geometry) hold f =
    let here = dest_back (source_back c j cursor) j.dest in
    let there = record here { geometry = Some geometry; formats = formats_found here.formats geometry; events = raise_after here.events source_change_event 1 } in
    let g = dest_back_fits (source_back c j cursor) j.dest hold (back_fits c j cursor hold f) in
    stop_fits there there.cap.streams hold (record { out = g.out; cap = g.cap })
decoded_fits c j cursor spent hold f = dest_back_fits (source_done c j 0) j.dest hold (source_fits c j 0 hold f)

effect_fits : (c : Context) (j : JobData) (result : RunResult) (hold : HoldState) → FitsContext c hold → FitsContext (run_effect c j result) hold
effect_fits c j (copied bytes) hold f = dest_fits _ j.dest _ _ _ _ _ hold (source_fits c j 0 hold f)
effect_fits c j (encoded frame) hold f =
    dest_fits _ j.dest _ _ _ _ _ hold (source_fits _ j 0 hold (record { out = f.out; cap = f.cap }))
effect_fits c j (decoded step) hold f =
    decoded_fits _ j _ (step_outcome j.format.fourcc step) hold (record { out = f.out; cap = f.cap })

fault_fits : (c : Context) (j : JobData) (hold : HoldState) → FitsContext c hold → FitsContext (fault_effect c j) hold
fault_fits c j hold f =
    dest_fits _ j.dest _ _ _ _ _ hold (source_fits _ j _ hold (record { out = f.out; cap = f.cap }))

finish_fits : (coder : Coder) (c : Context) (r : Running) (fault : Bool) (hold : HoldState) → FitsContext c hold → FitsContext (after_finish coder c r fault) hold
unfolding after_finish
finish_fits coder c r true hold f =
    settle_fits _ hold (fault_fits (record c { running = None }) (job_data c r) hold (record { out = f.out; cap = f.cap }))
finish_fits coder c r false hold f =
    settle_fits _ hold (effect_fits (record c { running = None }) (job_data c r) (run_result coder (job_data c r)) hold (record { out = f.out; cap = f.cap }))

-- Steps of the device

same_slot : (slots : List Slot) (i k : ℕ) (c x : Context) (hold : HoldState) → get_or slots i None ≡ Some c → (FitsContext c hold → FitsContext x hold) → FitsSlot (get_or slots k None) hold → (b : Bool) → eqb i k ≡ b → FitsSlot (get_or (set slots i (Some x)) k None) hold
same_slot slots i k c x hold e own f true q =
    let z = eqb-true i k q in
    let g : FitsContext c hold = subst (λ s. FitsSlot s hold) (ap (λ y. get_or slots y None) (sym z) ∙ e) f in
    subst (λ y. FitsSlot (get_or (set slots i (Some x)) y None) hold) z (subst (λ s. FitsSlot s hold) (sym (get_or-set_same slots i (Some x) None (is_there slots i c e))) (own g))
same_slot slots i k c x hold e own f false q =
    subst (λ s. FitsSlot s hold) (sym (get_or-set_other slots i k (Some x) None (λ (z : k ≡ i). eqb-false i k q (sym z)))) f

call_apart : (d : DeviceState) (i k : ℕ) (request : Rattle.vc_base.specs.declared.Call.Call) (bytes : List ℕ) (found : Bool) (hold : HoldState) → (i == k) ≡ false
    → (b : Bool) → FitsSlot (slot_of d k) hold → FitsSlot (slot_of (cond b (call_answered d i (answer (slot_of d i) request bytes found)) (ignored d)).device k) hold
unfolding with_slot
call_apart d i k request bytes found hold e true f =
    subst (λ s. FitsSlot s hold) (sym (get_or-set_other d.slots i k _ None (λ (z : k ≡ i). eqb-false i k e (sym z)))) f
call_apart d i k request bytes found hold e false f = f

front_claimed : (d : DeviceState) (worker i k : ℕ) (rest : List ℕ) (hold : HoldState) (s : Slot) → slot_of d i ≡ s → FitsSlot (slot_of d k) hold → FitsSlot (slot_of (claim_slot (record d { waiting = rest }) worker i s).device k) hold
unfolding with_slot
front_claimed d worker i k rest hold None e f = f
front_claimed d worker i k rest hold (Some c) e f =
    same_slot d.slots i k c (after_claim c) hold e (claim_fits c hold) f (eqb i k) refl

first_claimed : (d : DeviceState) (worker k : ℕ) (waiting : List ℕ) (hold : HoldState) → FitsSlot (slot_of d k) hold → FitsSlot (slot_of (claim_first d worker waiting).device k) hold
first_claimed d worker k [] hold f = f
first_claimed d worker k (i ∷ rest) hold f = front_claimed d worker i k rest hold (slot_of d i) refl f

claimed : (d : DeviceState) (worker k : ℕ) (hold : HoldState) (a b : Bool) → FitsSlot (slot_of d k) hold → FitsSlot (slot_of (cond a (cond b (claim_first d worker d.waiting) (ignored d)) (ignored d)).device k) hold
claimed d worker k hold true true f = first_claimed d worker k d.waiting hold f
claimed d worker k hold true false f = f
claimed d worker k hold false b f = f

job_finished : (coder : Coder) (d : DeviceState) (worker i k : ℕ) (c : Context) (fault : Bool) (hold : HoldState) (o : Option Running) → slot_of d i ≡ Some c → FitsSlot (slot_of d k) hold → FitsSlot (slot_of (finish_job coder d worker i c o fault).device k) hold
unfolding with_slot
job_finished coder d worker i k c fault hold None e f = f
job_finished coder d worker i k c fault hold (Some r) e f =
    same_slot d.slots i k c (after_finish coder c r fault) hold e (finish_fits coder c r fault hold) f (eqb i k) refl

slot_finished : (coder : Coder) (d : DeviceState) (worker i k : ℕ) (fault : Bool) (hold : HoldState) (s : Slot) → slot_of d i ≡ s → FitsSlot (slot_of d k) hold → FitsSlot (slot_of (finish_slot coder d worker i s fault).device k) hold
slot_finished coder d worker i k fault hold None e f = f
slot_finished coder d worker i k fault hold (Some c) e f = job_finished coder d worker i k c fault hold c.running e f

finished : (coder : Coder) (d : DeviceState) (worker k : ℕ) (fault : Bool) (hold : HoldState) (o : Option ℕ) → FitsSlot (slot_of d k) hold → FitsSlot (slot_of (finish_of coder d worker o fault).device k) hold
finished coder d worker k fault hold None f = f
finished coder d worker k fault hold (Some i) f = slot_finished coder d worker i k fault hold (slot_of d i) refl f

-- each step but a call on the slot
pub step_fits : (coder : Coder) (d : DeviceState) (k : ℕ) (e : DeviceEvent) (hold : HoldState) → is_call_of k e ≡ false → FitsSlot (slot_of d k) hold → FitsSlot (slot_of (device_step coder d e).device k) hold
unfolding device_step
step_fits coder d k (call i request bytes found) hold other f =
    call_apart d i k request bytes found hold other (nat_lt i (length d.slots)) f
step_fits coder d k (claim worker) hold other f =
    claimed d worker k hold (nat_lt worker (length d.workers)) (is_none (job_of d worker)) f
step_fits coder d k (finish worker fault) hold other f = finished coder d worker k fault hold (job_of d worker) f
step_fits coder d k shut hold other f = f

-- The slot, as a core keeps it

without_fits : (c : Context) (o : Option Running) (hold : HoldState) → FitsContext c hold → FitsContext (without_data_of c o) hold
without_fits c None hold f = f
without_fits c (Some r) hold f = record { out = f.out; cap = f.cap }

with_fits : (c : Context) (o : Option Running) (hold : HoldState) → FitsContext (without_data_of c o) hold → FitsContext c hold
with_fits c None hold f = f
with_fits c (Some r) hold f = record { out = f.out; cap = f.cap }

pub fits_in_core : (s : Slot) (hold : HoldState) → FitsSlot s hold → FitsSlot (core_slot s) hold
fits_in_core None hold f = f
fits_in_core (Some c) hold f = without_fits c c.running hold f

pub fits_in_device : (s : Slot) (hold : HoldState) → FitsSlot (core_slot s) hold → FitsSlot s hold
fits_in_device None hold f = f
fits_in_device (Some c) hold f = with_fits c c.running hold f
