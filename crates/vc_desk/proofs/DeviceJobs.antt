-- The job of a worker stays as it is until its finish.
use Rattle.std.proofs.Common.{ℕ, ◌≡◌, ◌<◌, eqb, ltb, Bool, true, false, cond, ◌&&◌, ◌||◌, is_none, Option, Some, None, List, [], ◌∷◌, length, get_or, set, refl, sym, ap, ◌∙◌, subst, arith, get_or-set_same, get_or-set_other}
use Rattle.std.specs.Option.{option_map}
use Rattle.std.proofs.lemmas.Bool.{eqb-true, eqb-false, ltb-true, lt-ltb, false≢true}
use Rattle.vc_base.specs.declared.Call.{Call}
use Rattle.vc_base.specs.Buffers.{buffer_count}
use Rattle.vc_base.specs.Device.{DeviceEvent, call, claim, finish, shut}
use Rattle.vc_model.specs.Coder.{Coder}
use Rattle.vc_model.specs.Context.{Context, Slot, Running, PhaseState, run, owe, last, stopped, is_run}
use Rattle.vc_model.specs.Answer.{answer}
use Rattle.vc_model.specs.Runs.{is_claimable, JobData, job_data, source_of, after_claim, after_finish, ready_for_probe, ready_for_run}
use Rattle.vc_model.specs.Devices.{DeviceState, new_device, slot_of, job_of, with_slot, ignored, call_answered, claim_slot, claim_first, finish_of, finish_slot, finish_job, device_step, device_after, projection}
use Rattle.vc_model.specs.JobList.{waits, ListIsExact}
use Rattle.vc_model.specs.Seats.{WorkersAreApart}
use Rattle.vc_model.specs.Sound.{IsSound, IsSoundSlot, HasItsBuffers}
use Rattle.vc_model.specs.Standing.{job_in}
use Rattle.vc_model.proofs.SlotsAreIsolated.{isolated, is_there}
use Rattle.vc_model.proofs.FormatsAndJobsFit.{always_sound}
use Rattle.vc_model.proofs.JobListIsExact.{exact_list, front_waits}
use Rattle.vc_model.proofs.HistoriesGrow.{jobs_are_held}
use Rattle.vc_desk.specs.Desks.{HasData}
use Rattle.vc_desk.proofs.KeepingJobs.{IsBusy, SameJob, KeepsJob, keeps, answer_keeps}

-- the context has the data of the running job
same_data : (c x : Context) → SameJob c x → (o : Option Running) → option_map (job_data x) o ≡ option_map (job_data c) o
same_data c x s None = refl
same_data c x s (Some r) =
    ap (λ b. Some (record (job_data x r) { source = source_of b })) s.out ∙ (ap (λ b. Some (record (job_data x r) { source = source_of c.out.job; dest = b })) s.cap ∙ ap (λ k. Some (record (job_data c r) { codec = k })) s.codec)

same_job : (c x : Context) → SameJob c x → job_in (Some x) ≡ job_in (Some c)
same_job c x s = ap (option_map (job_data x)) s.runs ∙ same_data c x s c.running

-- Busy slots

run_is : (p : PhaseState) → is_run p ≡ true → p ≡ run
run_is run e = refl
run_is (owe cause) e = absurd (false≢true e)
run_is (last cause) e = absurd (false≢true e)
run_is (stopped cause) e = absurd (false≢true e)

busy_of : (c : Context) (r : Running) → c.running ≡ Some r → HasItsBuffers c (Some r) → (c.out.streams ≡ false → c.out.job ≡ []) → (c.cap.streams ≡ false → c.cap.job ≡ []) → IsBusy c r
busy_of c r e h out cap =
    record {
      runs = e;
      phase = run_is c.phase h.0;
      out_streams = streams c.out.streams refl;
      has = lt-ltb 0 (buffer_count c.out) (omega (arith, h.1));
      cap_rest = cap;
    }
  where
    streams : (b : Bool) → c.out.streams ≡ b → c.out.streams ≡ true
    streams true p = p
    streams false p = let z = ap length (out p) in absurd (omega (arith, z, h.1))

sound_busy : (c : Context) (r : Running) → c.running ≡ Some r → IsSound c → IsBusy c r
sound_busy c r e s =
    busy_of c r e (subst (HasItsBuffers c) e s.firm.has_buffers) s.firm.out.job_at_rest s.firm.cap.job_at_rest

pub slot_sound : (coder : Coder) (n : ℕ) (history : List DeviceEvent) (k : ℕ) → IsSoundSlot (slot_of (device_after coder (new_device n) history) k)
slot_sound coder n history k =
    subst IsSoundSlot (sym (isolated coder n k history).slot) (always_sound coder (projection coder (new_device n) history k))

-- what is known of the device before a step
record Known (d : DeviceState) : Type 0 where
  pub sound : (k : ℕ) → IsSoundSlot (slot_of d k)
  pub list : ListIsExact d
  pub apart : WorkersAreApart d

known : (coder : Coder) (n : ℕ) (history : List DeviceEvent) → Known (device_after coder (new_device n) history)
known coder n history =
    record { sound = slot_sound coder n history; list = exact_list coder n history; apart = jobs_are_held coder n history }

running_of : (s : Slot) (j : JobData) → job_in s ≡ Some j → is_claimable s ≡ false
unfolding is_claimable
running_of None j e = refl
running_of (Some c) j e = busy c.running e
  where
    busy : (o : Option Running) → option_map (job_data c) o ≡ Some j → (is_none o && (ready_for_probe c || ready_for_run c)) ≡ false
    busy None p = absurd (cc)
    busy (Some r) p = refl

-- Calls

kept_in : (s : Slot) (c : Context) (j : JobData) → KeepsJob c s → job_in (Some c) ≡ Some j → job_in s ≡ Some j
kept_in s c j (keeps x h) e = same_job c x h ∙ e

answered_job : (s : Slot) (j : JobData) (request : Call) (bytes : List ℕ) (found : Bool) → IsSoundSlot s → job_in s ≡ Some j → job_in (answer s request bytes found).slot ≡ Some j
answered_job None j request bytes found h e = absurd (cc)
answered_job (Some c) j request bytes found h e = with_running c.running refl e
  where
    with_running : (o : Option Running) → c.running ≡ o → option_map (job_data c) o ≡ Some j → job_in (answer (Some c) request bytes found).slot ≡ Some j
    with_running None p q = absurd (cc)
    with_running (Some r) p q = kept_in (answer (Some c) request bytes found).slot c j (answer_keeps c r request bytes found (sound_busy c r p h)) e

slot_job : (slots : List Slot) (i k : ℕ) (s : Slot) (j : JobData) → i < length slots → job_in (get_or slots k None) ≡ Some j → (i ≡ k → job_in s ≡ Some j) → (b : Bool) → eqb i k ≡ b → job_in (get_or (set slots i s) k None) ≡ Some j
slot_job slots i k s j there e own true q =
    let z = eqb-true i k q in
    subst (λ y. job_in (get_or (set slots i s) y None) ≡ Some j) z (ap job_in (get_or-set_same slots i s None there) ∙ own z)
slot_job slots i k s j there e own false q =
    ap job_in (get_or-set_other slots i k s None (λ (z : k ≡ i). eqb-false i k q (sym z))) ∙ e

call_keeps :
    (d : DeviceState) (worker k : ℕ) (j : JobData) (i : ℕ) (request : Call) (bytes : List ℕ) (found : Bool) → Known d → HasData d worker k j
    → (b : Bool) → ltb i (length d.slots) ≡ b
    → HasData (cond b (call_answered d i (answer (slot_of d i) request bytes found)) (ignored d)).device worker k j
unfolding with_slot
call_keeps d worker k j i request bytes found x h true l =
    record {
      of_slot = h.of_slot;
      data_there =
          slot_job d.slots i k (answer (slot_of d i) request bytes found).slot j (ltb-true i (length d.slots) l) h.data_there
          (λ z. answered_job (slot_of d i) j request bytes found (x.sound i) (ap (λ y. job_in (slot_of d y)) z ∙ h.data_there)) (eqb i k) refl;
    }
call_keeps d worker k j i request bytes found x h false l = h

-- Claims by another worker

front_keeps :
    (d : DeviceState) (worker other k i : ℕ) (rest : List ℕ) (j : JobData) → (worker ≡ other → ⊥) → HasData d worker k j → (s : Slot)
    → slot_of d i ≡ s → is_claimable s ≡ true → HasData (claim_slot (record d { waiting = rest }) other i s).device worker k j
unfolding with_slot
front_keeps d worker other k i rest j differs h None e p = record { of_slot = h.of_slot; data_there = h.data_there }
front_keeps d worker other k i rest j differs h (Some c) e p =
    record {
      of_slot = get_or-set_other d.workers other worker (Some i) None differs ∙ h.of_slot;
      data_there =
          slot_job d.slots i k (Some (after_claim c)) j (is_there d.slots i c e) h.data_there
          (λ z. absurd (false≢true (sym (running_of (slot_of d i) j (ap (λ y. job_in (slot_of d y)) z ∙ h.data_there)) ∙ (ap is_claimable e ∙ p))))
          (eqb i k) refl;
    }

first_keeps : (d : DeviceState) (worker other k : ℕ) (waiting : List ℕ) (j : JobData) → (worker ≡ other → ⊥) → Known d → HasData d worker k j → d.waiting ≡ waiting → HasData (claim_first d other waiting).device worker k j
first_keeps d worker other k [] j differs x h e = h
first_keeps d worker other k (i ∷ rest) j differs x h e =
    front_keeps d worker other k i rest j differs h (slot_of d i) refl (sym (x.list.exact i) ∙ (ap (λ l. waits l i) e ∙ front_waits i rest))

claim_keeps : (d : DeviceState) (worker other k : ℕ) (j : JobData) → (worker ≡ other → ⊥) → Known d → HasData d worker k j → (a b : Bool) → HasData (cond a (cond b (claim_first d other d.waiting) (ignored d)) (ignored d)).device worker k j
claim_keeps d worker other k j differs x h true true = first_keeps d worker other k d.waiting j differs x h refl
claim_keeps d worker other k j differs x h true false = h
claim_keeps d worker other k j differs x h false b = h

-- Finishes of another worker

job_keeps :
    (coder : Coder) (d : DeviceState) (worker other k i : ℕ) (j : JobData) (c : Context) (fault : Bool) → (worker ≡ other → ⊥) → (i ≡ k → ⊥)
    → HasData d worker k j → slot_of d i ≡ Some c → (o : Option Running) → HasData (finish_job coder d other i c o fault).device worker k j
unfolding with_slot
job_keeps coder d worker other k i j c fault differs apart h e None = h
job_keeps coder d worker other k i j c fault differs apart h e (Some r) =
    record {
      of_slot = get_or-set_other d.workers other worker None None differs ∙ h.of_slot;
      data_there = slot_job d.slots i k (Some (after_finish coder c r fault)) j (is_there d.slots i c e) h.data_there (λ z. absurd (apart z)) (eqb i k) refl;
    }

ended_keeps :
    (coder : Coder) (d : DeviceState) (worker other k i : ℕ) (j : JobData) (fault : Bool) → (worker ≡ other → ⊥) → (i ≡ k → ⊥) → HasData d worker k j
    → (s : Slot) → slot_of d i ≡ s → HasData (finish_slot coder d other i s fault).device worker k j
ended_keeps coder d worker other k i j fault differs apart h None e = h
ended_keeps coder d worker other k i j fault differs apart h (Some c) e =
    job_keeps coder d worker other k i j c fault differs apart h e c.running

finish_keeps :
    (coder : Coder) (d : DeviceState) (worker other k : ℕ) (j : JobData) (fault : Bool) → (worker ≡ other → ⊥) → Known d → HasData d worker k j
    → (o : Option ℕ) → job_of d other ≡ o → HasData (finish_of coder d other o fault).device worker k j
finish_keeps coder d worker other k j fault differs x h None e = h
finish_keeps coder d worker other k j fault differs x h (Some i) e =
    ended_keeps coder d worker other k i j fault differs (λ z. differs (x.apart.apart worker other k h.of_slot (e ∙ ap Some z))) h (slot_of d i) refl

-- the event is a claim or a finish of the worker
abbrev pub IsOther : ℕ → DeviceEvent → Type 0
IsOther worker (call k request bytes found) = Unit {0}
IsOther worker (claim other) = worker ≡ other → ⊥
IsOther worker (finish other fault) = worker ≡ other → ⊥
IsOther worker shut = Unit {0}

step_keeps : (coder : Coder) (d : DeviceState) (worker k : ℕ) (j : JobData) (e : DeviceEvent) → IsOther worker e → Known d → HasData d worker k j → HasData (device_step coder d e).device worker k j
unfolding device_step
step_keeps coder d worker k j (call i request bytes found) other x h =
    call_keeps d worker k j i request bytes found x h (ltb i (length d.slots)) refl
step_keeps coder d worker k j (claim w) other x h =
    claim_keeps d worker w k j other x h (ltb w (length d.workers)) (is_none (job_of d w))
step_keeps coder d worker k j (finish w fault) other x h =
    finish_keeps coder d worker w k j fault other x h (job_of d w) refl
step_keeps coder d worker k j shut other x h = record { of_slot = h.of_slot; data_there = h.data_there }

pub data_stays :
    (coder : Coder) (n : ℕ) (history : List DeviceEvent) (worker k : ℕ) (j : JobData) (e : DeviceEvent) → IsOther worker e
    → HasData (device_after coder (new_device n) history) worker k j
    → HasData (device_step coder (device_after coder (new_device n) history) e).device worker k j
data_stays coder n history worker k j e other h =
    step_keeps coder (device_after coder (new_device n) history) worker k j e other (known coder n history) h

-- the other workers have what they had
front_worker : (d : DeviceState) (worker other i : ℕ) (rest : List ℕ) (s : Slot) → (worker ≡ other → ⊥) → job_of (claim_slot (record d { waiting = rest }) other i s).device worker ≡ job_of d worker
unfolding with_slot
front_worker d worker other i rest None differs = refl
front_worker d worker other i rest (Some c) differs = get_or-set_other d.workers other worker (Some i) None differs

first_worker : (d : DeviceState) (worker other : ℕ) (waiting : List ℕ) → (worker ≡ other → ⊥) → job_of (claim_first d other waiting).device worker ≡ job_of d worker
first_worker d worker other [] differs = refl
first_worker d worker other (i ∷ rest) differs = front_worker d worker other i rest (slot_of d i) differs

claim_worker : (d : DeviceState) (worker other : ℕ) (a b : Bool) → (worker ≡ other → ⊥) → job_of (cond a (cond b (claim_first d other d.waiting) (ignored d)) (ignored d)).device worker ≡ job_of d worker
claim_worker d worker other true true differs = first_worker d worker other d.waiting differs
claim_worker d worker other true false differs = refl
claim_worker d worker other false b differs = refl

job_worker : (coder : Coder) (d : DeviceState) (worker other i : ℕ) (c : Context) (o : Option Running) (fault : Bool) → (worker ≡ other → ⊥) → job_of (finish_job coder d other i c o fault).device worker ≡ job_of d worker
unfolding with_slot
job_worker coder d worker other i c None fault differs = refl
job_worker coder d worker other i c (Some r) fault differs = get_or-set_other d.workers other worker None None differs

ended_worker : (coder : Coder) (d : DeviceState) (worker other i : ℕ) (s : Slot) (fault : Bool) → (worker ≡ other → ⊥) → job_of (finish_slot coder d other i s fault).device worker ≡ job_of d worker
ended_worker coder d worker other i None fault differs = refl
ended_worker coder d worker other i (Some c) fault differs = job_worker coder d worker other i c c.running fault differs

finish_worker : (coder : Coder) (d : DeviceState) (worker other : ℕ) (o : Option ℕ) (fault : Bool) → (worker ≡ other → ⊥) → job_of (finish_of coder d other o fault).device worker ≡ job_of d worker
finish_worker coder d worker other None fault differs = refl
finish_worker coder d worker other (Some i) fault differs = ended_worker coder d worker other i (slot_of d i) fault differs

call_worker : (d : DeviceState) (worker i : ℕ) (request : Call) (bytes : List ℕ) (found : Bool) (b : Bool) → job_of (cond b (call_answered d i (answer (slot_of d i) request bytes found)) (ignored d)).device worker ≡ job_of d worker
unfolding with_slot
call_worker d worker i request bytes found true = refl
call_worker d worker i request bytes found false = refl

pub worker_stays : (coder : Coder) (d : DeviceState) (worker : ℕ) (e : DeviceEvent) → IsOther worker e → job_of (device_step coder d e).device worker ≡ job_of d worker
unfolding device_step
worker_stays coder d worker (call i request bytes found) other =
    call_worker d worker i request bytes found (ltb i (length d.slots))
worker_stays coder d worker (claim w) other =
    claim_worker d worker w (ltb w (length d.workers)) (is_none (job_of d w)) other
worker_stays coder d worker (finish w fault) other = finish_worker coder d worker w (job_of d w) fault other
worker_stays coder d worker shut other = refl
