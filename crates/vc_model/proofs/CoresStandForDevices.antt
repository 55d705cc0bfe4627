-- Each step of a core is the step of the device that it stands for. The core keeps the device's slots without the
-- bytes of running jobs and gets these bytes again at the finish; what a finish leaves is the same with and without
-- them, and no call looks at them.
use Rattle.std.proofs.Common.{ℕ, zero, suc, ◌≡◌, ◌≤◌, ◌<◌, ◌+◌, ◌==◌, ltb, Bool, true, false, cond, ◌&&◌, is_none, Option, Some, None, List, [], ◌∷◌, ◌++◌, map}
use Rattle.std.proofs.Common.{length, get_or, set, take, drop, refl, sym, ap, ◌∙◌, subst, arith, get_or-set_same}
use Rattle.std.specs.Prelude.{replicate, option_map}
use Rattle.std.proofs.lemmas.List.{length-map, map-set, length-take, get_or-take, take-replicate}
use Rattle.std.proofs.Math.Seq.{take-set-lt}
use Rattle.std.proofs.lemmas.List.{drop-set-lt}
use Rattle.std.proofs.lemmas.Bool.{ltb-true, ltb-false, lt-ltb, le-ltb, false≢true}
use Rattle.vc_base.specs.declared.Stamp.{Stamp}
use Rattle.vc_base.specs.declared.Call.{Call}
use Rattle.vc_base.specs.Buffers.{Buffer, QueueState, give_back_from, give_back_after, retire_from, retire_after, without_bytes, without_job_bytes}
use Rattle.vc_base.specs.Limits.{last_flag, error_flag, source_change_event, most_workers}
use Rattle.vc_base.specs.Device.{DeviceEvent, call, claim, finish, shut}
use Rattle.vc_base.specs.Events.{raise_after}
use Rattle.vc_defs.specs.declared.Geometry.{Geometry}
use Rattle.vc_model.specs.Formats.{formats_found}
use Rattle.vc_model.specs.Coder.{Coder, encoder, decoder, reset}
use Rattle.vc_defs.specs.Decoder.{DecodedResult, picture, damaged, changed, spent, step_outcome}
use Rattle.vc_model.specs.Context.{Context, Slot, Running, drain, change, owe, last, is_drained, raise_end, settle}
use Rattle.vc_model.specs.Answer.{answer}
use Rattle.vc_model.specs.Runs.{is_claimable, JobData, job_data, RunResult, copied, encoded, decoded, run_result, source_done, source_back, source_moved}
use Rattle.vc_model.specs.Runs.{dest_done, dest_back, decoded_effect, run_effect, fault_effect, stop_by_change, type_flag, after_claim, after_finish}
use Rattle.vc_model.specs.Runs.{finish_word}
use Rattle.vc_model.specs.Solo.{Answered, Claimed, Finished}
use Rattle.vc_model.specs.Devices.{DeviceState, steps_of, Told, DeviceStep, new_device, slot_of, job_of, waiting_after, with_slot, counted, ignored}
use Rattle.vc_model.specs.Devices.{call_answered, claim_slot, claim_first, finish_of, finish_slot, finish_job, device_step, device_after}
use Rattle.vc_model.specs.JobList.{waits, ListIsExact}
use Rattle.vc_model.specs.Standing.{CoreState, without_job, core_slot, AreFree, core_of, IsDevice, AreSteps, StepsAreHistory, job_in, job_in_slot, worker_job}
use Rattle.vc_model.specs.Core.{new_core, core_call, core_claim_slot, core_claim_first, core_claim, claimed_in, claimed_first, claimed_job, back_effect}
use Rattle.vc_model.specs.Core.{finished_context, word_of, core_finish_job, core_finish_slot, core_finish_of, core_finish, core_shut, result_of, brought_back}
use Rattle.vc_model.specs.Core.{StandsFor, NewCoreStands, CallsStand, IsGiven, ClaimsStand, FinishesStand, ShutStands}
use Rattle.vc_model.proofs.PartsOfTests.{and_left}
use Rattle.vc_model.proofs.SlotsAreIsolated.{is_there}
use Rattle.vc_model.proofs.JobListIsExact.{exact_list, front_waits}
use Rattle.vc_model.proofs.CallsKeepTheRunningJob.{settle_runs}
use Rattle.vc_model.proofs.CallsLeaveTheJob.{without_none, without_some, answers_without_job, claimable_without_job}

-- What a finish leaves is the same with and without the bytes of the job

retired_same :
    (q : QueueState) (used : ℕ) (bytes : List ℕ) (flags : ℕ) (stamp : Stamp) (bs : List Buffer) → q.job ≡ bs
    → retire_from (without_job_bytes q) (map without_bytes bs) used bytes flags stamp ≡ retire_from q bs used bytes flags stamp
retired_same q used bytes flags stamp [] e = ap (λ l. record q { job = map without_bytes l }) e ∙ ap (λ l. record q { job = l }) (sym e)
retired_same q used bytes flags stamp (b ∷ bs) e = refl

retire_same : (q : QueueState) (used : ℕ) (bytes : List ℕ) (flags : ℕ) (stamp : Stamp) → retire_after (without_job_bytes q) used bytes flags stamp ≡ retire_after q used bytes flags stamp
retire_same q used bytes flags stamp = retired_same q used bytes flags stamp q.job refl

given_same : (q : QueueState) (cursor : ℕ) (bytes : List ℕ) (bs : List Buffer) → q.job ≡ bs → give_back_from (without_job_bytes q) (map without_bytes bs) cursor bytes ≡ give_back_from q bs cursor bytes
given_same q cursor bytes [] e = ap (λ l. record q { job = map without_bytes l }) e ∙ ap (λ l. record q { job = l }) (sym e)
given_same q cursor bytes (b ∷ bs) e = refl

give_same : (q : QueueState) (cursor : ℕ) (bytes : List ℕ) → give_back_after (without_job_bytes q) cursor bytes ≡ give_back_after q cursor bytes
give_same q cursor bytes = given_same q cursor bytes q.job refl

-- a context without the bytes of its CAPTURE buffer in the job, and of both
abbrev cap_hidden : Context → Context
cap_hidden c = record c { cap = without_job_bytes c.cap }

abbrev both_hidden : Context → Context
both_hidden c = record c { out = without_job_bytes c.out; cap = without_job_bytes c.cap }

dest_split :
    (c : Context) (b : Bool) (used : ℕ) (bytes : List ℕ) (flags : ℕ) (stamp : Stamp)
    → cond b (raise_end drain (record c { cap = retire_after (without_job_bytes c.cap) used bytes (flags + last_flag) stamp; phase = last drain }))
    (record c { cap = retire_after (without_job_bytes c.cap) used bytes flags stamp })
    ≡ cond b (raise_end drain (record c { cap = retire_after c.cap used bytes (flags + last_flag) stamp; phase = last drain })) (record c { cap = retire_after c.cap used bytes flags stamp })
dest_split c true used bytes flags stamp =
    ap (λ q. raise_end drain (record c { cap = q; phase = last drain })) (retire_same c.cap used bytes (flags + last_flag) stamp)
dest_split c false used bytes flags stamp =
    ap (λ q. record c { cap = q }) (retire_same c.cap used bytes flags stamp)

dest_same :
    (c : Context) (dest : List Buffer) → c.cap.job ≡ dest → (used_up : Bool) (used : ℕ) (bytes : List ℕ) (flags : ℕ) (stamp : Stamp)
    → dest_done (cap_hidden c) dest used_up used bytes flags stamp ≡ dest_done c dest used_up used bytes flags stamp
dest_same c [] e used_up used bytes flags stamp =
    ap (λ l. record c { cap = record c.cap { job = map without_bytes l } }) e ∙ ap (λ l. record c { cap = record c.cap { job = l } }) (sym e)
dest_same c (b ∷ bs) e used_up used bytes flags stamp =
    dest_split c (used_up && is_drained c.out.ready c.mark) used bytes flags stamp

back_same : (c : Context) (dest : List Buffer) → c.cap.job ≡ dest → dest_back (cap_hidden c) dest ≡ dest_back c dest
back_same c [] e =
    ap (λ l. record c { cap = record c.cap { job = map without_bytes l } }) e ∙ ap (λ l. record c { cap = record c.cap { job = l } }) (sym e)
back_same c (b ∷ bs) e = ap (λ q. record c { cap = q }) (give_same c.cap 0 [])

done_same : (c : Context) (j : JobData) (flags : ℕ) → source_done (both_hidden c) j flags ≡ cap_hidden (source_done c j flags)
done_same c j flags =
    ap (λ q. record c { out = q; cap = without_job_bytes c.cap }) (retire_same c.out j.source.used j.source.bytes flags j.source.stamp)

gone_same : (c : Context) (j : JobData) (cursor : ℕ) → source_back (both_hidden c) j cursor ≡ cap_hidden (source_back c j cursor)
gone_same c j cursor =
    ap (λ q. record c { out = q; cap = without_job_bytes c.cap }) (give_same c.out cursor j.source.bytes)

moved_same : (c : Context) (j : JobData) (cursor : ℕ) (b : Bool) → source_moved (both_hidden c) j cursor b ≡ cap_hidden (source_moved c j cursor b)
moved_same c j cursor true = done_same c j 0
moved_same c j cursor false = gone_same c j cursor

moved_cap : (c : Context) (j : JobData) (cursor : ℕ) (b : Bool) → (source_moved c j cursor b).cap ≡ c.cap
moved_cap c j cursor true = refl
moved_cap c j cursor false = refl

-- the source goes to done, and then the destination
ended_same :
    (c : Context) (j : JobData) → c.cap.job ≡ j.dest → (source_flags used : ℕ) (bytes : List ℕ) (flags : ℕ) (stamp : Stamp)
    → dest_done (source_done (both_hidden c) j source_flags) j.dest true used bytes flags stamp ≡ dest_done (source_done c j source_flags) j.dest true used bytes flags stamp
ended_same c j e source_flags used bytes flags stamp =
    ap (λ d. dest_done d j.dest true used bytes flags stamp) (done_same c j source_flags) ∙ dest_same (source_done c j source_flags) j.dest e true used bytes flags stamp

passed_same :
    (c : Context) (j : JobData) (cursor : ℕ) (used_up : Bool) → c.cap.job ≡ j.dest → (used : ℕ) (bytes : List ℕ) (flags : ℕ) (stamp : Stamp)
    → dest_done (source_moved (both_hidden c) j cursor used_up) j.dest used_up used bytes flags stamp ≡ dest_done (source_moved c j cursor used_up) j.dest used_up used bytes flags stamp
passed_same c j cursor used_up e used bytes flags stamp =
    ap (λ d. dest_done d j.dest used_up used bytes flags stamp) (moved_same c j cursor used_up) ∙ dest_same (source_moved c j cursor used_up) j.dest (ap (λ q. q.job) (moved_cap c j cursor used_up) ∙ e) used_up used bytes flags stamp

-- what a change of the resolution does to the context that has its buffers back
abbrev change_effect : Geometry → Context → Context
change_effect geometry here =
    stop_by_change (record here { geometry = Some geometry; formats = formats_found here.formats geometry; events = raise_after here.events source_change_event 1 })

decoded_same : (c : Context) (j : JobData) (cursor : ℕ) (result : DecodedResult) → c.cap.job ≡ j.dest → decoded_effect (both_hidden c) j cursor result ≡ decoded_effect c j cursor result
decoded_same c j cursor (picture bytes key stamp) e =
    passed_same c j cursor (cursor == j.source.used) e (length bytes) bytes (type_flag key) stamp
decoded_same c j cursor (damaged stamp) e = passed_same c j cursor (cursor == j.source.used) e 0 [] error_flag stamp
decoded_same c j cursor (changed geometry) e =
    ap (change_effect geometry) (ap (λ d. dest_back d j.dest) (gone_same c j cursor) ∙ back_same (source_back c j cursor) j.dest e)
decoded_same c j cursor spent e = ap (λ d. dest_back d j.dest) (done_same c j 0) ∙ back_same (source_done c j 0) j.dest e

effect_same : (c : Context) (j : JobData) (result : RunResult) → c.cap.job ≡ j.dest → run_effect (both_hidden c) j result ≡ run_effect c j result
effect_same c j (copied bytes) e = ended_same c j e 0 (length bytes) bytes 0 j.source.stamp
effect_same c j (encoded frame) e =
    ended_same (record c { codec = encoder frame.state }) j e 0 (length frame.bytes) frame.bytes (type_flag frame.key) j.source.stamp
effect_same c j (decoded step) e =
    decoded_same (record c { codec = decoder step.state }) j (j.source.cursor + step.moved) (step_outcome j.format.fourcc step) e

back_effect_same : (coder : Coder) (c : Context) (j : JobData) (fault : Bool) → c.cap.job ≡ j.dest → back_effect (both_hidden c) j (result_of coder j fault) ≡ back_effect c j (result_of coder j fault)
back_effect_same coder c j true e =
    ended_same (record c { codec = reset c.codec }) j e error_flag 0 [] error_flag j.source.stamp
back_effect_same coder c j false e = effect_same c j (run_result coder j) e

-- the context after a finish
finished_split : (coder : Coder) (c : Context) (r : Running) (fault : Bool) → settle (back_effect (record c { running = None }) (job_data c r) (result_of coder (job_data c r) fault)) ≡ after_finish coder c r fault
unfolding after_finish
finished_split coder c r true = refl
finished_split coder c r false = refl

finished_same : (coder : Coder) (c : Context) (r : Running) (fault : Bool) → c.running ≡ Some r → finished_context (without_job c) (brought_back coder (job_data c r) fault) ≡ after_finish coder c r fault
finished_same coder c r fault e =
    let j = job_data c r in
    ap (λ d. finished_context d (brought_back coder j fault)) (without_some c r e)
    ∙ (ap settle (back_effect_same coder (record c { running = None }) j fault refl)
    ∙ finished_split coder c r fault)

word_split : (coder : Coder) (j : JobData) (fault : Bool) → word_of (brought_back coder j fault) ≡ finish_word coder j fault
unfolding finish_word
word_split coder j true = refl
word_split coder j false = refl

-- after a finish no job runs
dest_idle_split : (c : Context) (b : Bool) (x y : Context) → x.running ≡ None → y.running ≡ None → (cond b x y).running ≡ None
dest_idle_split c true x y e f = e
dest_idle_split c false x y e f = f

dest_idle : (c : Context) (dest : List Buffer) (used_up : Bool) (used : ℕ) (bytes : List ℕ) (flags : ℕ) (stamp : Stamp) → c.running ≡ None → (dest_done c dest used_up used bytes flags stamp).running ≡ None
dest_idle c [] used_up used bytes flags stamp e = e
dest_idle c (b ∷ bs) used_up used bytes flags stamp e =
    dest_idle_split c (used_up && is_drained c.out.ready c.mark) _ _ e e

moved_idle : (c : Context) (j : JobData) (cursor : ℕ) (b : Bool) → c.running ≡ None → (source_moved c j cursor b).running ≡ None
moved_idle c j cursor true e = e
moved_idle c j cursor false e = e

back_idle : (c : Context) (dest : List Buffer) → c.running ≡ None → (dest_back c dest).running ≡ None
back_idle c [] e = e
back_idle c (b ∷ bs) e = e

change_idle : (c : Context) (b : Bool) → c.running ≡ None → (cond b (record c { phase = owe change }) c).running ≡ None
change_idle c true e = e
change_idle c false e = e

decoded_idle : (c : Context) (j : JobData) (cursor : ℕ) (result : DecodedResult) → c.running ≡ None → (decoded_effect c j cursor result).running ≡ None
decoded_idle c j cursor (picture bytes key stamp) e =
    dest_idle (source_moved c j cursor (cursor == j.source.used)) j.dest (cursor == j.source.used) (length bytes) bytes (type_flag key) stamp (moved_idle c j cursor (cursor == j.source.used) e)
decoded_idle c j cursor (damaged stamp) e =
    dest_idle (source_moved c j cursor (cursor == j.source.used)) j.dest (cursor == j.source.used) 0 [] error_flag stamp (moved_idle c j cursor (cursor == j.source.used) e)
decoded_idle c j cursor (changed geometry) e =
    let here = dest_back (source_back c j cursor) j.dest in
    change_idle (record here { geometry = Some geometry; formats = formats_found here.formats geometry; events = raise_after here.events source_change_event 1 }) here.cap.streams (back_idle (source_back c j cursor) j.dest e)
decoded_idle c j cursor spent e = back_idle (source_done c j 0) j.dest e

run_idle : (c : Context) (j : JobData) (result : RunResult) → c.running ≡ None → (run_effect c j result).running ≡ None
run_idle c j (copied bytes) e = dest_idle (source_done c j 0) j.dest true (length bytes) bytes 0 j.source.stamp e
run_idle c j (encoded frame) e =
    dest_idle (source_done (record c { codec = encoder frame.state }) j 0) j.dest true (length frame.bytes) frame.bytes (type_flag frame.key) j.source.stamp e
run_idle c j (decoded step) e =
    decoded_idle (record c { codec = decoder step.state }) j (j.source.cursor + step.moved) (step_outcome j.format.fourcc step) e

pub finish_idle : (coder : Coder) (c : Context) (r : Running) (fault : Bool) → (after_finish coder c r fault).running ≡ None
unfolding after_finish
finish_idle coder c r true =
    settle_runs (fault_effect (record c { running = None }) (job_data c r))
    ∙ dest_idle (source_done (record c { codec = reset c.codec; running = None }) (job_data c r) error_flag) c.cap.job true 0 [] error_flag (job_data c r).source.stamp refl
finish_idle coder c r false =
    settle_runs (run_effect (record c { running = None }) (job_data c r) (run_result coder (job_data c r))) ∙ run_idle (record c { running = None }) (job_data c r) (run_result coder (job_data c r)) refl

-- Slots and workers of the core

pub core_slot_at : (slots : List Slot) (k : ℕ) → get_or (map core_slot slots) k None ≡ core_slot (get_or slots k None)
core_slot_at [] k = refl
core_slot_at (s ∷ slots) zero = refl
core_slot_at (s ∷ slots) (suc k) = core_slot_at slots k

free_at : (os : List (Option ℕ)) (k : ℕ) → AreFree os → get_or os k None ≡ None
free_at [] k f = refl
free_at (o ∷ os) zero f = f.0
free_at (o ∷ os) (suc k) f = free_at os k f.1

beyond : (w : ℕ) (os : List (Option ℕ)) (k : ℕ) → AreFree (drop w os) → w ≤ k → get_or os k None ≡ None
beyond zero os k f h = free_at os k f
beyond (suc w) [] k f h = refl
beyond (suc w) (o ∷ os) zero f h = absurd (omega arith)
beyond (suc w) (o ∷ os) (suc k) f h = beyond w os k f (omega arith)

past_end : (os : List (Option ℕ)) (k : ℕ) → length os ≤ k → get_or os k None ≡ None
past_end [] k h = refl
past_end (o ∷ os) zero h = absurd (omega arith)
past_end (o ∷ os) (suc k) h = past_end os k (omega arith)

-- the device with slot k as a step left it
with_slot_same : (w : ℕ) (d : DeviceState) (k : ℕ) (s : Slot) → with_slot (core_of w d) k (core_slot s) ≡ core_of w (with_slot d k s)
unfolding with_slot
with_slot_same w d k s =
    ap (λ b. record (core_of w d) { slots = set (map core_slot d.slots) k (core_slot s); waiting = waiting_after d.waiting k b }) (claimable_without_job s)
    ∙ ap (λ l. record (core_of w d) { slots = l; waiting = waiting_after d.waiting k (is_claimable s) }) (sym (map-set core_slot d.slots k s))

-- Histories

pub after-append : (coder : Coder) (d : DeviceState) (es : List DeviceEvent) (e : DeviceEvent) → device_after coder d (es ++ e ∷ []) ≡ (device_step coder (device_after coder d es) e).device
after-append coder d [] e = refl
after-append coder d (x ∷ es) e = after-append coder (device_step coder d x).device es e

steps_from : (coder : Coder) (d : DeviceState) (es : List DeviceEvent) → AreSteps coder d es → (device_after coder d es).steps ≡ d.steps + length es
steps_from coder d [] h = omega arith
steps_from coder d (e ∷ es) h =
    let x = steps_from coder (device_step coder d e).device es h.1 in
    let y = h.0 in
    omega arith

pub steps_are_history : StepsAreHistory
steps_are_history coder n history h =
    let x = steps_from coder (new_device n) history h in omega arith

-- a step of the device, as a core keeps it
abbrev kept : ℕ → DeviceStep → DeviceStep
kept w s = record { device = core_of w s.device; reply = s.reply }

-- the step of the core is that of the device, and no worker beyond those of the core has a job
abbrev Follows : ℕ → DeviceStep → DeviceStep → Type 0
Follows w x s = (x ≡ kept w s) × AreFree (drop w s.device.workers)

stands_for :
    (coder : Coder) (n w : ℕ) (history : List DeviceEvent) (e : DeviceEvent) (step : DeviceStep) → w ≤ most_workers
    → Follows w step (device_step coder (device_after coder (new_device n) history) e) → StandsFor coder n w history e step
stands_for coder n w history e step few f =
    record {
      stands = subst (λ d. IsDevice step.device w d) (sym (after-append coder (new_device n) history e)) (record { few = few; state = ap (λ s. s.device) f.0; free = f.1 });
      reply = ap (λ s. s.reply) f.0;
    }

-- the core is that of the device, where it stands for it
moved_to : {core : CoreState} {w : ℕ} {d : DeviceState} (step : CoreState → DeviceStep) (s : DeviceStep) → IsDevice core w d → Follows w (step (core_of w d)) s → Follows w (step core) s
moved_to {w = w} step s is f = subst (λ x. Follows w (step x) s) (sym is.state) f

pub new_core_stands : NewCoreStands
new_core_stands coder n w few =
    record {
      few = few;
      state = ap (λ l. record (new_core n w) { slots = l }) (sym (closed_map n)) ∙ ap (λ l. record (new_core n w) { slots = map core_slot (replicate n None); workers = l }) (sym (take-replicate w most_workers None few));
      free = free_new w most_workers;
    }
  where
    closed_map : (m : ℕ) → map core_slot (replicate m None) ≡ replicate m None
    closed_map zero = refl
    closed_map (suc m) = ap (λ l. None ∷ l) (closed_map m)

    all_free : (m : ℕ) → AreFree (replicate m None)
    all_free zero = tt
    all_free (suc m) = (refl, all_free m)

    free_new : (v m : ℕ) → AreFree (drop v (replicate m None))
    free_new zero m = all_free m
    free_new (suc v) zero = tt
    free_new (suc v) (suc m) = free_new v m

-- Calls

answered_same :
    (w : ℕ) (d : DeviceState) (k : ℕ) (request : Call) (bytes : List ℕ) (found : Bool)
    → call_answered (core_of w d) k (answer (slot_of (core_of w d) k) request bytes found) ≡ kept w (call_answered d k (answer (slot_of d k) request bytes found))
answered_same w d k request bytes found =
    let a = answer (slot_of d k) request bytes found in
    ap (λ s. call_answered (core_of w d) k (answer s request bytes found)) (core_slot_at d.slots k)
    ∙ (ap (λ x. call_answered (core_of w d) k x) (answers_without_job (slot_of d k) request bytes found)
    ∙ ap (λ x. record { device = counted x (steps_of a.reply); reply = Told k (Answered a.reply a.bytes) }) (with_slot_same w d k a.slot))

called_same :
    (w : ℕ) (d : DeviceState) (k : ℕ) (request : Call) (bytes : List ℕ) (found b : Bool)
    → cond b (call_answered (core_of w d) k (answer (slot_of (core_of w d) k) request bytes found)) (ignored (core_of w d))
    ≡ kept w (cond b (call_answered d k (answer (slot_of d k) request bytes found)) (ignored d))
called_same w d k request bytes found true = answered_same w d k request bytes found
called_same w d k request bytes found false = refl

called_free :
    (w : ℕ) (d : DeviceState) (k : ℕ) (request : Call) (bytes : List ℕ) (found b : Bool) → AreFree (drop w d.workers)
    → AreFree (drop w (cond b (call_answered d k (answer (slot_of d k) request bytes found)) (ignored d)).device.workers)
unfolding with_slot
called_free w d k request bytes found true f = f
called_free w d k request bytes found false f = f

call_follows :
    (coder : Coder) (w : ℕ) (d : DeviceState) (k : ℕ) (request : Call) (bytes : List ℕ) (found : Bool) → AreFree (drop w d.workers)
    → Follows w (core_call (core_of w d) k request bytes found) (device_step coder d (call k request bytes found))
unfolding device_step
call_follows coder w d k request bytes found f = (
  ap (λ m. cond (ltb k m) (call_answered (core_of w d) k (answer (slot_of (core_of w d) k) request bytes found)) (ignored (core_of w d))) (length-map d.slots core_slot)
      ∙ called_same w d k request bytes found (ltb k (length d.slots)),
  called_free w d k request bytes found (ltb k (length d.slots)) f,
)

pub calls_stand : CallsStand
calls_stand coder n w core history k request bytes found is =
    let d = device_after coder (new_device n) history in
    stands_for coder n w history (call k request bytes found) _ is.few (moved_to (λ x. core_call x k request bytes found) (device_step coder d (call k request bytes found)) is (call_follows coder w d k request bytes found is.free))

-- Workers

shorter_split : (w : ℕ) (ws : List (Option ℕ)) (k : ℕ) → k < w → (b : Bool) → ltb k (length ws) ≡ b → ltb k (length (take w ws)) ≡ b
shorter_split w ws k h true e =
    let l = ltb-true k (length ws) e in
    let m = length-take w ws in
    lt-ltb k (length (take w ws)) (omega arith)
shorter_split w ws k h false e =
    let l = ltb-false k (length ws) e in
    let m = length-take w ws in
    le-ltb k (length (take w ws)) (omega arith)

same_split : (w : ℕ) (ws : List (Option ℕ)) (k : ℕ) → AreFree (drop w ws) → (b : Bool) → ltb k w ≡ b → get_or (take w ws) k None ≡ get_or ws k None
same_split w ws k f true e = get_or-take w ws k None (ltb-true k w e)
same_split w ws k f false e =
    let h = ltb-false k w e in
    let m = length-take w ws in
    past_end (take w ws) k (omega arith) ∙ sym (beyond w ws k f h)

same_worker : (w : ℕ) (ws : List (Option ℕ)) (k : ℕ) → AreFree (drop w ws) → get_or (take w ws) k None ≡ get_or ws k None
same_worker w ws k f = same_split w ws k f (ltb k w) refl

-- Claims

idle_claimable : (c : Context) → is_claimable (Some c) ≡ true → (o : Option Running) → c.running ≡ o → c.running ≡ None
unfolding is_claimable
idle_claimable c p None e = e
idle_claimable c p (Some r) e =
    absurd (false≢true (ap is_none (sym e) ∙ and_left (is_none c.running) _ p))

claimed_same :
    (w : ℕ) (d : DeviceState) (worker k : ℕ) (rest : List ℕ) (c : Context) → worker < w → c.running ≡ None
    → core_claim_slot (record (core_of w d) { waiting = rest }) worker k (core_slot (Some c)) ≡ kept w (claim_slot (record d { waiting = rest }) worker k (Some c))
claimed_same w d worker k rest c h e =
    ap (λ x. core_claim_slot (record (core_of w d) { waiting = rest }) worker k (Some x)) (without_none c e)
    ∙ (ap (λ l. record { device = counted (with_slot (record (core_of w d) { waiting = rest; workers = l }) k (core_slot (Some (after_claim c)))) 1; reply = Told k Claimed }) (sym (take-set-lt w d.workers worker (Some k) h))
    ∙ ap (λ x. record { device = counted x 1; reply = Told k Claimed }) (with_slot_same w (record d { waiting = rest; workers = set d.workers worker (Some k) }) k (Some (after_claim c))))

claimed_free : (w : ℕ) (ws : List (Option ℕ)) (worker : ℕ) (o : Option ℕ) → worker < w → AreFree (drop w ws) → AreFree (drop w (set ws worker o))
claimed_free w ws worker o h f = subst AreFree (sym (drop-set-lt w ws worker o h)) f

front_follows :
    (w : ℕ) (d : DeviceState) (worker k : ℕ) (rest : List ℕ) → worker < w → AreFree (drop w d.workers) → (s : Slot) → is_claimable s ≡ true
    → Follows w (core_claim_slot (record (core_of w d) { waiting = rest }) worker k (core_slot s)) (claim_slot (record d { waiting = rest }) worker k s)
unfolding with_slot
front_follows w d worker k rest h f None p = (refl, f)
front_follows w d worker k rest h f (Some c) p =
    (claimed_same w d worker k rest c h (idle_claimable c p c.running refl), claimed_free w d.workers worker (Some k) h f)

first_follows :
    (w : ℕ) (d : DeviceState) (worker : ℕ) (waiting : List ℕ) → worker < w → AreFree (drop w d.workers) → d.waiting ≡ waiting → ListIsExact d
    → Follows w (core_claim_first (core_of w d) worker waiting) (claim_first d worker waiting)
first_follows w d worker [] h f e x = (refl, f)
first_follows w d worker (k ∷ rest) h f e x =
    subst
    (λ s. Follows w (core_claim_slot (record (core_of w d) { waiting = rest }) worker k s) (claim_slot (record d { waiting = rest }) worker k (slot_of d k)))
    (sym (core_slot_at d.slots k))
    (front_follows w d worker k rest h f (slot_of d k) (sym (x.exact k) ∙ (ap (λ l. waits l k) e ∙ front_waits k rest)))

free_follows :
    (w : ℕ) (d : DeviceState) (worker : ℕ) → worker < w → AreFree (drop w d.workers) → ListIsExact d → (a b : Bool)
    → Follows w (cond a (cond b (core_claim_first (core_of w d) worker d.waiting) (ignored (core_of w d))) (ignored (core_of w d)))
    (cond a (cond b (claim_first d worker d.waiting) (ignored d)) (ignored d))
free_follows w d worker h f x true true = first_follows w d worker d.waiting h f refl x
free_follows w d worker h f x true false = (refl, f)
free_follows w d worker h f x false b = (refl, f)

claim_follows : (coder : Coder) (w : ℕ) (d : DeviceState) (worker : ℕ) → worker < w → AreFree (drop w d.workers) → ListIsExact d → Follows w (core_claim (core_of w d) worker) (device_step coder d (claim worker))
unfolding device_step
claim_follows coder w d worker h f x =
    subst (λ b.
    Follows w
    (cond b (cond (is_none (job_of (core_of w d) worker)) (core_claim_first (core_of w d) worker d.waiting) (ignored (core_of w d))) (ignored (core_of w d)))
    (cond (ltb worker (length d.workers)) (cond (is_none (job_of d worker)) (claim_first d worker d.waiting) (ignored d)) (ignored d)))
    (sym (shorter_split w d.workers worker h (ltb worker (length d.workers)) refl))
    (subst (λ o.
    Follows w
    (cond (ltb worker (length d.workers)) (cond (is_none o) (core_claim_first (core_of w d) worker d.waiting) (ignored (core_of w d))) (ignored (core_of w d)))
    (cond (ltb worker (length d.workers)) (cond (is_none (job_of d worker)) (claim_first d worker d.waiting) (ignored d)) (ignored d)))
    (sym (same_worker w d.workers worker f)) (free_follows w d worker h f x (ltb worker (length d.workers)) (is_none (job_of d worker))))

-- the data that a claim gives
given_front :
    (coder : Coder) (w : ℕ) (d : DeviceState) (worker k : ℕ) (rest : List ℕ) → worker < length d.workers → (s : Slot) → slot_of d k ≡ s
    → is_claimable s ≡ true
    → IsGiven worker (claim_slot (record d { waiting = rest }) worker k s).device (claimed_in (core_slot s)) (core_claim_slot (record (core_of w d) { waiting = rest }) worker k (core_slot s)).reply
unfolding with_slot
given_front coder w d worker k rest h None e p = tt
given_front coder w d worker k rest h (Some c) e p =
    ap (λ o. job_in_slot (claim_slot (record d { waiting = rest }) worker k (Some c)).device o) (get_or-set_same d.workers worker (Some k) None h)
    ∙ (ap job_in (get_or-set_same d.slots k (Some (after_claim c)) None (is_there d.slots k c e)) ∙ ap (λ x. job_in (Some (after_claim x))) (sym (without_none c (idle_claimable c p c.running refl))))

given_first :
    (coder : Coder) (w : ℕ) (d : DeviceState) (worker : ℕ) (waiting : List ℕ) → worker < length d.workers → d.waiting ≡ waiting → ListIsExact d
    → IsGiven worker (claim_first d worker waiting).device (claimed_first (core_of w d) waiting) (core_claim_first (core_of w d) worker waiting).reply
given_first coder w d worker [] h e x = refl
given_first coder w d worker (k ∷ rest) h e x =
    subst
    (λ s. IsGiven worker (claim_slot (record d { waiting = rest }) worker k (slot_of d k)).device (claimed_in s) (core_claim_slot (record (core_of w d) { waiting = rest }) worker k s).reply)
    (sym (core_slot_at d.slots k))
    (given_front coder w d worker k rest h (slot_of d k) refl (sym (x.exact k) ∙ (ap (λ l. waits l k) e ∙ front_waits k rest)))

given_free :
    (coder : Coder) (w : ℕ) (d : DeviceState) (worker : ℕ) → ListIsExact d → (a b : Bool) → ltb worker (length d.workers) ≡ a
    → IsGiven worker (cond a (cond b (claim_first d worker d.waiting) (ignored d)) (ignored d)).device (claimed_job (core_of w d))
    (cond a (cond b (core_claim_first (core_of w d) worker d.waiting) (ignored (core_of w d))) (ignored (core_of w d))).reply
given_free coder w d worker x true true e =
    given_first coder w d worker d.waiting (ltb-true worker (length d.workers) e) refl x
given_free coder w d worker x true false e = tt
given_free coder w d worker x false b e = tt

given_claim :
    (coder : Coder) (w : ℕ) (d : DeviceState) (worker : ℕ) → worker < w → AreFree (drop w d.workers) → ListIsExact d
    → IsGiven worker (device_step coder d (claim worker)).device (claimed_job (core_of w d)) (core_claim (core_of w d) worker).reply
unfolding device_step
given_claim coder w d worker h f x =
    subst (λ b.
    IsGiven worker
    (cond (ltb worker (length d.workers)) (cond (is_none (job_of d worker)) (claim_first d worker d.waiting) (ignored d)) (ignored d)).device
    (claimed_job (core_of w d))
    (cond b (cond (is_none (job_of (core_of w d) worker)) (core_claim_first (core_of w d) worker d.waiting) (ignored (core_of w d))) (ignored (core_of w d))).reply)
    (sym (shorter_split w d.workers worker h (ltb worker (length d.workers)) refl))
    (subst (λ o.
    IsGiven worker
    (cond (ltb worker (length d.workers)) (cond (is_none (job_of d worker)) (claim_first d worker d.waiting) (ignored d)) (ignored d)).device
    (claimed_job (core_of w d))
    (cond (ltb worker (length d.workers)) (cond (is_none o) (core_claim_first (core_of w d) worker d.waiting) (ignored (core_of w d))) (ignored (core_of w d))).reply)
    (sym (same_worker w d.workers worker f)) (given_free coder w d worker x (ltb worker (length d.workers)) (is_none (job_of d worker)) refl))

pub claims_stand : ClaimsStand
claims_stand coder n w core history worker h is =
    let d = device_after coder (new_device n) history in
    let x = exact_list coder n history in
    record {
      step = stands_for coder n w history (claim worker) _ is.few (moved_to (λ c. core_claim c worker) (device_step coder d (claim worker)) is (claim_follows coder w d worker h is.free x));
      job =
          subst (λ s. IsGiven worker s (claimed_job core) (core_claim core worker).reply)
          (sym (after-append coder (new_device n) history (claim worker)))
          (subst (λ c. IsGiven worker (device_step coder d (claim worker)).device (claimed_job c) (core_claim c worker).reply) (sym is.state) (given_claim coder w d worker h is.free x));
    }

-- Finishes

within : (w : ℕ) (ws : List (Option ℕ)) (worker k : ℕ) → AreFree (drop w ws) → get_or ws worker None ≡ Some k → (b : Bool) → ltb worker w ≡ b → worker < w
within w ws worker k f e true l = ltb-true worker w l
within w ws worker k f e false l = let z = beyond w ws worker f (ltb-false worker w l) in absurd (cc)

ended_follows :
    (coder : Coder) (w : ℕ) (d : DeviceState) (worker k : ℕ) (c : Context) (r : Running) (fault : Bool) → worker < w → AreFree (drop w d.workers)
    → c.running ≡ Some r
    → Follows w (core_finish_slot (core_of w d) worker k (core_slot (Some c)) (brought_back coder (job_data c r) fault)) (finish_job coder d worker k c (Some r) fault)
unfolding with_slot
ended_follows coder w d worker k c r fault h f e =
    let j = job_data c r in
    let back = brought_back coder j fault in
    let x = after_finish coder c r fault in
    let d2 = record d { workers = set d.workers worker None } in (
      ap (λ y. core_finish_job (core_of w d) worker k (without_job c) y.running back) (without_some c r e)
          ∙ (ap
          (λ y. record { device = counted (with_slot (record (core_of w d) { workers = set (take w d.workers) worker None }) k (Some y)) 1; reply = Told k (Finished (word_of back)) })
          (finished_same coder c r fault e ∙ sym (without_none x (finish_idle coder c r fault)))
          ∙ (ap (λ l. record { device = counted (with_slot (record (core_of w d) { workers = l }) k (core_slot (Some x))) 1; reply = Told k (Finished (word_of back)) }) (sym (take-set-lt w d.workers worker None h))
          ∙ (ap (λ y. record { device = counted y 1; reply = Told k (Finished (word_of back)) }) (with_slot_same w d2 k (Some x))
          ∙ ap (λ t. record { device = core_of w (counted (with_slot d2 k (Some x)) 1); reply = Told k (Finished t) }) (word_split coder j fault)))),
      claimed_free w d.workers worker None h f,
    )

run_follows :
    (coder : Coder) (w : ℕ) (d : DeviceState) (worker k : ℕ) (c : Context) (j : JobData) (fault : Bool) → worker < w → AreFree (drop w d.workers)
    → (o : Option Running) → c.running ≡ o → option_map (job_data c) o ≡ Some j
    → Follows w (core_finish_slot (core_of w d) worker k (core_slot (Some c)) (brought_back coder j fault)) (finish_job coder d worker k c o fault)
run_follows coder w d worker k c j fault h f None e p = absurd (cc)
run_follows coder w d worker k c j fault h f (Some r) e p =
    let same : job_data c r ≡ j = cc in
    subst (λ y. Follows w (core_finish_slot (core_of w d) worker k (core_slot (Some c)) (brought_back coder y fault)) (finish_job coder d worker k c (Some r) fault)) same (ended_follows coder w d worker k c r fault h f e)

slot_follows :
    (coder : Coder) (w : ℕ) (d : DeviceState) (worker k : ℕ) (j : JobData) (fault : Bool) → worker < w → AreFree (drop w d.workers) → (s : Slot)
    → job_in s ≡ Some j
    → Follows w (core_finish_slot (core_of w d) worker k (core_slot s) (brought_back coder j fault)) (finish_slot coder d worker k s fault)
slot_follows coder w d worker k j fault h f None p = absurd (cc)
slot_follows coder w d worker k j fault h f (Some c) p = run_follows coder w d worker k c j fault h f c.running refl p

worker_follows :
    (coder : Coder) (w : ℕ) (d : DeviceState) (worker : ℕ) (j : JobData) (fault : Bool) → AreFree (drop w d.workers) → (o : Option ℕ)
    → job_of d worker ≡ o → job_in_slot d o ≡ Some j
    → Follows w (core_finish_of (core_of w d) worker o (brought_back coder j fault)) (finish_of coder d worker o fault)
worker_follows coder w d worker j fault f None e p = absurd (cc)
worker_follows coder w d worker j fault f (Some k) e p =
    subst (λ s. Follows w (core_finish_slot (core_of w d) worker k s (brought_back coder j fault)) (finish_slot coder d worker k (slot_of d k) fault))
    (sym (core_slot_at d.slots k)) (slot_follows coder w d worker k j fault (within w d.workers worker k f e (ltb worker w) refl) f (slot_of d k) p)

finish_follows :
    (coder : Coder) (w : ℕ) (d : DeviceState) (worker : ℕ) (j : JobData) (fault : Bool) → AreFree (drop w d.workers) → worker_job d worker ≡ Some j
    → Follows w (core_finish (core_of w d) worker (brought_back coder j fault)) (device_step coder d (finish worker fault))
unfolding device_step
finish_follows coder w d worker j fault f p =
    subst (λ o. Follows w (core_finish_of (core_of w d) worker o (brought_back coder j fault)) (finish_of coder d worker (job_of d worker) fault))
    (sym (same_worker w d.workers worker f)) (worker_follows coder w d worker j fault f (job_of d worker) refl p)

pub finishes_stand : FinishesStand
finishes_stand coder n w core history worker j fault p is =
    let d = device_after coder (new_device n) history in
    stands_for coder n w history (finish worker fault) _ is.few (moved_to (λ c. core_finish c worker (brought_back coder j fault)) (device_step coder d (finish worker fault)) is (finish_follows coder w d worker j fault is.free p))

-- Shut

shut_follows : (coder : Coder) (w : ℕ) (d : DeviceState) → AreFree (drop w d.workers) → Follows w (core_shut (core_of w d)) (device_step coder d shut)
unfolding device_step
shut_follows coder w d f = (refl, f)

pub shut_stands : ShutStands
shut_stands coder n w core history is =
    let d = device_after coder (new_device n) history in
    stands_for coder n w history shut _ is.few (moved_to core_shut (device_step coder d shut) is (shut_follows coder w d is.free))
