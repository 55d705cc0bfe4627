-- What one step more at the end of a history adds: the step, its reply, its position and the mark of a Shut; and that
-- no two workers have a job of the same slot. A history is read from its beginning, so what was read of its first
-- events stays, and only a claim gives a worker a job, of a slot that had none.
use Rattle.std.proofs.Common.{ℕ, zero, suc, ◌≡◌, ◌<◌, ◌+◌, eqb, ltb, Bool, true, false, not, cond, ◌&&◌, ◌||◌, is_none, Option, Some, None, List, [], ◌∷◌, ◌++◌}
use Rattle.std.proofs.Common.{length, get_or, set, map, refl, sym, ap, ◌∙◌, subst, arith, ⊎_elim, get_or-set_same, get_or-set_other}
use Rattle.std.specs.Prelude.{replicate, option_map}
use Rattle.std.specs.List.{list_any}
use Rattle.std.proofs.Math.Seq.{take-append_seam}
use Rattle.std.proofs.lemmas.Bool.{eqb-true, eqb-false, ltb-true, false≢true}
use Rattle.vc_base.specs.declared.Call.{Call}
use Rattle.vc_base.specs.declared.Reply.{Reply}
use Rattle.vc_base.specs.Buffers.{Buffer, is_empty}
use Rattle.vc_base.specs.Device.{DeviceEvent, call, claim, finish, shut}
use Rattle.vc_model.specs.Coder.{Coder}
use Rattle.vc_model.specs.Context.{Context, Slot, Running, RunSort, is_run}
use Rattle.vc_model.specs.Answer.{answer}
use Rattle.vc_model.specs.Runs.{is_claimable, sort_of, claim_front, after_claim, after_finish, JobData, job_data, front_is_due, is_unknown, ready_for_probe, ready_for_run}
use Rattle.vc_model.specs.Solo.{Called, Answered, solo_step}
use Rattle.vc_model.specs.Devices.{DeviceState, Told, Empty, DeviceStep, new_device, slot_of, job_of, with_slot, ignored, call_answered, claim_slot, claim_first, finish_of, finish_slot, finish_job, device_step, device_after, device_run}
use Rattle.vc_base.specs.Limits.{most_workers}
use Rattle.vc_model.specs.JobList.{waits, ListIsExact}
use Rattle.vc_model.specs.Standing.{AreSteps, job_in, job_in_slot}
use Rattle.vc_model.specs.Seats.{positions_from, is_shut_event, HistoriesGrow, LastEvents, LastPositions, ShutsAreSeen, AnswersAreSolo, JobsAreHeld}
use Rattle.vc_model.proofs.PartsOfTests.{and_left, and_right, or_cases}
use Rattle.vc_model.proofs.SlotsAreIsolated.{isolated, is_there}
use Rattle.vc_model.proofs.JobListIsExact.{exact_event, exact_list, front_waits}
use Rattle.vc_model.proofs.CallsKeepTheRunningJob.{Lasts, answer_lasts}

-- Histories

grown : (coder : Coder) (d : DeviceState) (es : List DeviceEvent) (e : DeviceEvent) → AreSteps coder d es → (let x = device_after coder d es in (device_step coder x e).device.steps ≡ x.steps + 1) → AreSteps coder d (es ++ e ∷ [])
grown coder d [] e h k = (k, tt)
grown coder d (x ∷ es) e h k = (h.0, grown coder (device_step coder d x).device es e h.1 k)

pub histories_grow : HistoriesGrow
histories_grow coder n history e h k = grown coder (new_device n) history e h k

end_reply : (coder : Coder) (d : DeviceState) (es : List DeviceEvent) (e : DeviceEvent) → get_or (map (λ x. x.reply) (device_run coder d (es ++ e ∷ []))) (length es) Empty ≡ (device_step coder (device_after coder d es) e).reply
end_reply coder d [] e = refl
end_reply coder d (x ∷ es) e = end_reply coder (device_step coder d x).device es e

pub last_events : LastEvents
last_events coder n history e =
    record {
      before = ap (device_after coder (new_device n)) (take-append_seam history (e ∷ []));
      told = end_reply coder (new_device n) history e;
    }

single : (b : Bool) (i j : ℕ) → i ≡ j → cond b (i ∷ []) [] ≡ cond b (j ∷ []) []
single b i j e = ap (λ m. cond b (m ∷ []) []) e

moved_positions :
    (own : DeviceEvent → Bool) (at : ℕ) (e : DeviceEvent) (x : DeviceEvent) (es : List DeviceEvent) (b : Bool) (ps qs : List ℕ)
    → ps ≡ qs ++ cond (own e) (((at + 1) + length es) ∷ []) []
    → cond b (at ∷ ps) ps ≡ cond b (at ∷ qs) qs ++ cond (own e) ((at + length (x ∷ es)) ∷ []) []
moved_positions own at e x es true ps qs h =
    ap (λ l. at ∷ l) (h ∙ ap (λ l. qs ++ l) (single (own e) ((at + 1) + length es) (at + length (x ∷ es)) (omega arith)))
moved_positions own at e x es false ps qs h =
    h ∙ ap (λ l. qs ++ l) (single (own e) ((at + 1) + length es) (at + length (x ∷ es)) (omega arith))

positions_end : (own : DeviceEvent → Bool) (at : ℕ) (es : List DeviceEvent) (e : DeviceEvent) → positions_from own at (es ++ e ∷ []) ≡ positions_from own at es ++ cond (own e) ((at + length es) ∷ []) []
positions_end own at [] e = single (own e) at (at + 0) (omega arith)
positions_end own at (x ∷ es) e =
    moved_positions own at e x es (own x) (positions_from own (at + 1) (es ++ e ∷ [])) (positions_from own (at + 1) es) (positions_end own (at + 1) es e)

pub last_positions : LastPositions
last_positions own history e =
    positions_end own 0 history e ∙ ap (λ l. positions_from own 0 history ++ l) (single (own e) (0 + length history) (length history) (omega arith))

-- The mark of Shut

either_shut : (b m : Bool) (x y : DeviceStep) → x.device.is_shut ≡ m → y.device.is_shut ≡ m → (cond b x y).device.is_shut ≡ m
either_shut true m x y e f = e
either_shut false m x y e f = f

claimed_shut : (d : DeviceState) (worker j : ℕ) (s : Slot) → (claim_slot d worker j s).device.is_shut ≡ d.is_shut
unfolding with_slot
claimed_shut d worker j None = refl
claimed_shut d worker j (Some c) = refl

first_shut : (d : DeviceState) (worker : ℕ) (waiting : List ℕ) → (claim_first d worker waiting).device.is_shut ≡ d.is_shut
first_shut d worker [] = refl
first_shut d worker (j ∷ rest) = claimed_shut (record d { waiting = rest }) worker j (slot_of d j)

job_shut : (coder : Coder) (d : DeviceState) (worker j : ℕ) (c : Context) (o : Option Running) (fault : Bool) → (finish_job coder d worker j c o fault).device.is_shut ≡ d.is_shut
unfolding with_slot
job_shut coder d worker j c None fault = refl
job_shut coder d worker j c (Some r) fault = refl

slot_shut : (coder : Coder) (d : DeviceState) (worker j : ℕ) (s : Slot) (fault : Bool) → (finish_slot coder d worker j s fault).device.is_shut ≡ d.is_shut
slot_shut coder d worker j None fault = refl
slot_shut coder d worker j (Some c) fault = job_shut coder d worker j c c.running fault

worker_shut : (coder : Coder) (d : DeviceState) (worker : ℕ) (o : Option ℕ) (fault : Bool) → (finish_of coder d worker o fault).device.is_shut ≡ d.is_shut
worker_shut coder d worker None fault = refl
worker_shut coder d worker (Some j) fault = slot_shut coder d worker j (slot_of d j) fault

call_shut : (d : DeviceState) (j : ℕ) (request : Call) (bytes : List ℕ) (found : Bool) → (call_answered d j (answer (slot_of d j) request bytes found)).device.is_shut ≡ d.is_shut
unfolding with_slot
call_shut d j request bytes found = refl

step_shut : (coder : Coder) (d : DeviceState) (e : DeviceEvent) → (device_step coder d e).device.is_shut ≡ (is_shut_event e || d.is_shut)
unfolding device_step
step_shut coder d (call j request bytes found) =
    either_shut (ltb j (length d.slots)) d.is_shut (call_answered d j (answer (slot_of d j) request bytes found)) (ignored d) (call_shut d j request bytes found) refl
step_shut coder d (claim worker) =
    either_shut (ltb worker (length d.workers)) d.is_shut (cond (is_none (job_of d worker)) (claim_first d worker d.waiting) (ignored d)) (ignored d)
    (either_shut (is_none (job_of d worker)) d.is_shut (claim_first d worker d.waiting) (ignored d) (first_shut d worker d.waiting) refl) refl
step_shut coder d (finish worker fault) = worker_shut coder d worker (job_of d worker) fault
step_shut coder d shut = refl

or_moved : (a b c : Bool) → ((a || b) || c) ≡ (b || (a || c))
or_moved true true c = refl
or_moved true false c = refl
or_moved false b c = refl

shut_after : (coder : Coder) (d : DeviceState) (es : List DeviceEvent) → (device_after coder d es).is_shut ≡ (d.is_shut || list_any is_shut_event es)
shut_after coder d [] = or_end d.is_shut
  where
    or_end : (b : Bool) → b ≡ (b || false)
    or_end true = refl
    or_end false = refl
shut_after coder d (e ∷ es) =
    shut_after coder (device_step coder d e).device es ∙ (ap (λ b. b || list_any is_shut_event es) (step_shut coder d e) ∙ or_moved (is_shut_event e) d.is_shut (list_any is_shut_event es))

pub shuts_are_seen : ShutsAreSeen
shuts_are_seen coder n history = shut_after coder (new_device n) history

-- Answers

told_split :
    (d : DeviceState) (k : ℕ) (request : Call) (bytes : List ℕ) (found : Bool) (reply : Reply) (handed : List ℕ) (coder : Coder) (b : Bool)
    → (cond b (call_answered d k (answer (slot_of d k) request bytes found)) (ignored d)).reply ≡ Told k (Answered reply handed)
    → (solo_step coder (slot_of d k) (Called request bytes found)).told ≡ Answered reply handed
unfolding solo_step
told_split d k request bytes found reply handed coder true e = cc
told_split d k request bytes found reply handed coder false e = absurd (cc)

device_told :
    (coder : Coder) (d : DeviceState) (k : ℕ) (request : Call) (bytes : List ℕ) (found : Bool) (reply : Reply) (handed : List ℕ)
    → (device_step coder d (call k request bytes found)).reply ≡ Told k (Answered reply handed)
    → (solo_step coder (slot_of d k) (Called request bytes found)).told ≡ Answered reply handed
unfolding device_step
device_told coder d k request bytes found reply handed e =
    told_split d k request bytes found reply handed coder (ltb k (length d.slots)) e

pub answers_are_solo : AnswersAreSolo
answers_are_solo coder n k history request bytes found reply handed e =
    subst (λ s. (solo_step coder s (Called request bytes found)).told ≡ Answered reply handed) (isolated coder n k history).slot (device_told coder (device_after coder (new_device n) history) k request bytes found reply handed e)

-- Jobs and workers

-- a job runs in the slot
has_job : Slot → Bool
has_job None = false
has_job (Some c) = not (is_none c.running)

record Held (d : DeviceState) : Type 0 where
  pub running : (worker k : ℕ) → job_of d worker ≡ Some k → has_job (slot_of d k) ≡ true
  pub apart : (worker other k : ℕ) → job_of d worker ≡ Some k → job_of d other ≡ Some k → worker ≡ other

-- the slots of workers still have their jobs, and the workers are the same
kept_held :
    (d : DeviceState) (slots : List Slot) (waiting : List ℕ) (steps : ℕ) (mark : Bool)
    → ((k : ℕ) → has_job (slot_of d k) ≡ true → has_job (get_or slots k None) ≡ true) → Held d
    → Held (record { slots = slots; waiting = waiting; workers = d.workers; is_shut = mark; steps = steps })
kept_held d slots waiting steps mark h x =
    record { running = λ worker k e. h k (x.running worker k e); apart = λ worker other k e f. x.apart worker other k e f }

lasting_job : (c : Context) (s : Slot) → Lasts c.running s → not (is_none c.running) ≡ true → has_job s ≡ true
unfolding Lasts has_job
lasting_job c None l e = absurd (false≢true (ap (λ o. not (is_none o)) (sym l) ∙ e))
lasting_job c (Some x) l e = ap (λ o. not (is_none o)) l ∙ e

answer_job : (s : Slot) (request : Call) (bytes : List ℕ) (found : Bool) → has_job s ≡ true → has_job (answer s request bytes found).slot ≡ true
unfolding has_job
answer_job None request bytes found e = absurd (false≢true e)
answer_job (Some c) request bytes found e =
    lasting_job c (answer (Some c) request bytes found).slot (answer_lasts c request bytes found) e

-- a slot after a step on slot j
set_split :
    (slots : List Slot) (j k : ℕ) (s : Slot) → (has_job (get_or slots j None) ≡ true → has_job s ≡ true) → (b : Bool) → eqb j k ≡ b
    → j < length slots → has_job (get_or slots k None) ≡ true → has_job (get_or (set slots j s) k None) ≡ true
set_split slots j k s h true e l x =
    let z = eqb-true j k e in
    subst (λ i. has_job (get_or (set slots j s) i None) ≡ true) z (ap has_job (get_or-set_same slots j s None l) ∙ h (subst (λ i. has_job (get_or slots i None) ≡ true) (sym z) x))
set_split slots j k s h false e l x =
    ap has_job (get_or-set_other slots j k s None (λ (w : k ≡ j). eqb-false j k e (sym w))) ∙ x

held_call : (d : DeviceState) (j : ℕ) (request : Call) (bytes : List ℕ) (found : Bool) → Held d → (b : Bool) → ltb j (length d.slots) ≡ b → Held (cond b (call_answered d j (answer (slot_of d j) request bytes found)) (ignored d)).device
unfolding with_slot
held_call d j request bytes found x true e =
    let a = answer (slot_of d j) request bytes found in
    kept_held d (set d.slots j a.slot) _ _ d.is_shut (λ k h. set_split d.slots j k a.slot (answer_job (slot_of d j) request bytes found) (eqb j k) refl (ltb-true j (length d.slots) e) h) x
held_call d j request bytes found x false e = x

-- a claimed context has a job, and had none
idle_before : (c : Context) → is_claimable (Some c) ≡ true → not (is_none c.running) ≡ false
unfolding is_claimable
idle_before c p = ap not (and_left (is_none c.running) (ready_for_probe c || ready_for_run c) p)

claimed_job : (c : Context) (sort : RunSort) (ready : List Buffer) → c.out.ready ≡ ready → is_claimable (Some c) ≡ true → has_job (Some (claim_front c sort ready)) ≡ true
unfolding is_claimable has_job
claimed_job c sort [] e p =
    absurd
    (⊎_elim (λ (q : ready_for_probe c ≡ true).
    false≢true
    (ap (λ l. front_is_due l c.mark) (sym e)
    ∙ and_right (is_run c.phase) (front_is_due c.out.ready c.mark)
    (and_right c.out.streams (is_run c.phase && front_is_due c.out.ready c.mark) (and_right (is_unknown c) (c.out.streams && (is_run c.phase && front_is_due c.out.ready c.mark)) q))))
    (λ (q : ready_for_run c ≡ true). false≢true (ap (λ l. not (is_empty l)) (sym e) ∙ and_left _ _ (and_left _ _ (and_right _ _ q))))
    (or_cases _ _ (and_right _ _ p)))
claimed_job c sort (b ∷ rest) e p = refl

after_claim_job : (c : Context) → is_claimable (Some c) ≡ true → has_job (Some (after_claim c)) ≡ true
unfolding after_claim
after_claim_job c p = claimed_job c (sort_of c.kind c.geometry) c.out.ready refl p

-- another worker keeps its job
job_split : (ws : List (Option ℕ)) (worker other : ℕ) (o : Option ℕ) → (b : Bool) → eqb worker other ≡ b → get_or (set ws worker o) other None ≡ cond b (get_or (set ws worker o) other None) (get_or ws other None)
job_split ws worker other o true e = refl
job_split ws worker other o false e =
    get_or-set_other ws worker other o None (λ (w : other ≡ worker). eqb-false worker other e (sym w))

record WorkerCase (ws : List (Option ℕ)) (worker other : ℕ) (o : Option ℕ) (k : ℕ) : Type 0 where
  pub same : eqb worker other ≡ true → o ≡ Some k
  pub kept : eqb worker other ≡ false → get_or ws other None ≡ Some k

case_of : (ws : List (Option ℕ)) (worker other k : ℕ) (o : Option ℕ) → worker < length ws → get_or (set ws worker o) other None ≡ Some k → WorkerCase ws worker other o k
case_of ws worker other k o l e =
    record {
      same = λ t. let z = eqb-true worker other t in sym (get_or-set_same ws worker o None l) ∙ (ap (λ i. get_or (set ws worker o) i None) z ∙ e);
      kept = λ t. sym (get_or-set_other ws worker other o None (λ (w : other ≡ worker). eqb-false worker other t (sym w))) ∙ e;
    }

claimed_running :
    (d : DeviceState) (worker j : ℕ) (c : Context) (s : Slot) → j < length d.slots → has_job s ≡ true → Held d → (other k : ℕ)
    → WorkerCase d.workers worker other (Some j) k → (b : Bool) → eqb worker other ≡ b → has_job (get_or (set d.slots j s) k None) ≡ true
claimed_running d worker j c s l h x other k w true e =
    let z : Some j ≡ Some k = w.same e in
    let y : j ≡ k = cc in
    subst (λ i. has_job (get_or (set d.slots j s) i None) ≡ true) y (ap has_job (get_or-set_same d.slots j s None l) ∙ h)
claimed_running d worker j c s l h x other k w false e =
    set_split d.slots j k s (λ p. h) (eqb j k) refl l (x.running other k (w.kept e))

-- two workers with the job of slot k are one
claimed_apart :
    (d : DeviceState) (worker j : ℕ) → has_job (slot_of d j) ≡ false → Held d → (a b k : ℕ) → WorkerCase d.workers worker a (Some j) k
    → WorkerCase d.workers worker b (Some j) k → (s t : Bool) → eqb worker a ≡ s → eqb worker b ≡ t → a ≡ b
claimed_apart d worker j n x a b k v w true true e f = sym (eqb-true worker a e) ∙ eqb-true worker b f
claimed_apart d worker j n x a b k v w true false e f =
    let z : Some j ≡ Some k = v.same e in
    let y : j ≡ k = cc in
    absurd (false≢true (sym n ∙ (ap (λ i. has_job (slot_of d i)) y ∙ x.running b k (w.kept f))))
claimed_apart d worker j n x a b k v w false true e f =
    let z : Some j ≡ Some k = w.same f in
    let y : j ≡ k = cc in
    absurd (false≢true (sym n ∙ (ap (λ i. has_job (slot_of d i)) y ∙ x.running a k (v.kept e))))
claimed_apart d worker j n x a b k v w false false e f = x.apart a b k (v.kept e) (w.kept f)

has_none : (c : Context) → is_claimable (Some c) ≡ true → has_job (Some c) ≡ false
unfolding has_job
has_none c p = idle_before c p

held_front : (d : DeviceState) (worker j : ℕ) (rest : List ℕ) → worker < length d.workers → Held d → (s : Slot) → slot_of d j ≡ s → is_claimable s ≡ true → Held (claim_slot (record d { waiting = rest }) worker j s).device
unfolding with_slot
held_front d worker j rest l x None e p = record { running = x.running; apart = x.apart }
held_front d worker j rest l x (Some c) e p =
    let there = is_there d.slots j c e in
    let idle : has_job (slot_of d j) ≡ false = ap has_job e ∙ has_none c p in
    record {
      running = λ other k q. claimed_running d worker j c (Some (after_claim c)) there (after_claim_job c p) x other k (case_of d.workers worker other k (Some j) l q) (eqb worker other) refl;
      apart = λ a b k q r. claimed_apart d worker j idle x a b k (case_of d.workers worker a k (Some j) l q) (case_of d.workers worker b k (Some j) l r) (eqb worker a) (eqb worker b) refl refl;
    }

held_first : (d : DeviceState) (worker : ℕ) (waiting : List ℕ) → worker < length d.workers → d.waiting ≡ waiting → ListIsExact d → Held d → Held (claim_first d worker waiting).device
held_first d worker [] l e x h = h
held_first d worker (j ∷ rest) l e x h =
    held_front d worker j rest l h (slot_of d j) refl (sym (x.exact j) ∙ (ap (λ w. waits w j) e ∙ front_waits j rest))

held_claim : (d : DeviceState) (worker : ℕ) → ListIsExact d → Held d → (a b : Bool) → ltb worker (length d.workers) ≡ a → Held (cond a (cond b (claim_first d worker d.waiting) (ignored d)) (ignored d)).device
held_claim d worker x h true true e = held_first d worker d.waiting (ltb-true worker (length d.workers) e) refl x h
held_claim d worker x h true false e = h
held_claim d worker x h false b e = h

-- a finish takes the job from its worker alone
ended_running :
    (d : DeviceState) (worker j : ℕ) (s : Slot) → j < length d.slots → job_of d worker ≡ Some j → Held d → (other k : ℕ)
    → WorkerCase d.workers worker other None k → (b : Bool) → eqb worker other ≡ b → (t : Bool) → eqb j k ≡ t
    → has_job (get_or (set d.slots j s) k None) ≡ true
ended_running d worker j s l m x other k w true e t f = let z = w.same e in absurd (cc)
ended_running d worker j s l m x other k w false e true f =
    let y = eqb-true j k f in
    let z : job_of d other ≡ Some j = w.kept e ∙ ap Some (sym y) in
    let v = x.apart worker other j m z in
    absurd (eqb-false worker other e v)
ended_running d worker j s l m x other k w false e false f =
    ap has_job (get_or-set_other d.slots j k s None (λ (q : k ≡ j). eqb-false j k f (sym q))) ∙ x.running other k (w.kept e)

ended_kept : (d : DeviceState) (worker other k : ℕ) → WorkerCase d.workers worker other None k → (b : Bool) → eqb worker other ≡ b → job_of d other ≡ Some k
ended_kept d worker other k w true e = let z = w.same e in absurd (cc)
ended_kept d worker other k w false e = w.kept e

worker_there : (ws : List (Option ℕ)) (worker k : ℕ) → get_or ws worker None ≡ Some k → worker < length ws
worker_there [] worker k e = absurd (cc)
worker_there (o ∷ ws) zero k e = omega arith
worker_there (o ∷ ws) (suc worker) k e = let h = worker_there ws worker k e in omega arith

held_job : (coder : Coder) (d : DeviceState) (worker j : ℕ) (c : Context) (fault : Bool) → job_of d worker ≡ Some j → slot_of d j ≡ Some c → Held d → (o : Option Running) → Held (finish_job coder d worker j c o fault).device
unfolding with_slot
held_job coder d worker j c fault m e x None = x
held_job coder d worker j c fault m e x (Some r) =
    let l = worker_there d.workers worker j m in
    let there = is_there d.slots j c e in
    record {
      running = λ other k q. ended_running d worker j (Some (after_finish coder c r fault)) there m x other k (case_of d.workers worker other k None l q) (eqb worker other) refl (eqb j k) refl;
      apart = λ a b k q r2. x.apart a b k (ended_kept d worker a k (case_of d.workers worker a k None l q) (eqb worker a) refl) (ended_kept d worker b k (case_of d.workers worker b k None l r2) (eqb worker b) refl);
    }

held_slot : (coder : Coder) (d : DeviceState) (worker j : ℕ) (fault : Bool) → job_of d worker ≡ Some j → Held d → (s : Slot) → slot_of d j ≡ s → Held (finish_slot coder d worker j s fault).device
held_slot coder d worker j fault m x None e = x
held_slot coder d worker j fault m x (Some c) e = held_job coder d worker j c fault m e x c.running

held_finish : (coder : Coder) (d : DeviceState) (worker : ℕ) (fault : Bool) → Held d → (o : Option ℕ) → job_of d worker ≡ o → Held (finish_of coder d worker o fault).device
held_finish coder d worker fault x None m = x
held_finish coder d worker fault x (Some j) m = held_slot coder d worker j fault m x (slot_of d j) refl

held_event : (coder : Coder) (d : DeviceState) (e : DeviceEvent) → ListIsExact d → Held d → Held (device_step coder d e).device
unfolding device_step
held_event coder d (call j request bytes found) x h =
    held_call d j request bytes found h (ltb j (length d.slots)) refl
held_event coder d (claim worker) x h =
    held_claim d worker x h (ltb worker (length d.workers)) (is_none (job_of d worker)) refl
held_event coder d (finish worker fault) x h = held_finish coder d worker fault h (job_of d worker) refl
held_event coder d shut x h = record { running = h.running; apart = h.apart }

held_run : (coder : Coder) (d : DeviceState) (es : List DeviceEvent) → ListIsExact d → Held d → Held (device_after coder d es)
held_run coder d [] x h = h
held_run coder d (e ∷ es) x h =
    held_run coder (device_step coder d e).device es (exact_event coder d e x) (held_event coder d e x h)

free_at_first : (n k : ℕ) → ◌≡◌ {A = Option ℕ} (get_or (replicate n None) k None) None
free_at_first zero k = refl
free_at_first (suc n) zero = refl
free_at_first (suc n) (suc k) = free_at_first n k

none_first : (n worker k : ℕ) → job_of (new_device n) worker ≡ Some k → ⊥
none_first n worker k e = let z = free_at_first most_workers worker in none_some (sym z ∙ e)
  where
    none_some : None ≡ Some k → ⊥
    none_some p = cc

always_held : (coder : Coder) (n : ℕ) (history : List DeviceEvent) → Held (device_after coder (new_device n) history)
always_held coder n history =
    held_run coder (new_device n) history (exact_list coder n []) (record { running = λ worker k e. absurd (none_first n worker k e); apart = λ worker other k e f. absurd (none_first n worker k e) })

job_there : (s : Slot) → has_job s ≡ true → (job : JobData) × (job_in s ≡ Some job)
unfolding has_job
job_there None e = absurd (false≢true e)
job_there (Some c) e = running_there c c.running e
  where
    running_there : (x : Context) (o : Option Running) → not (is_none o) ≡ true → (job : JobData) × (option_map (job_data x) o ≡ Some job)
    running_there x None p = absurd (false≢true p)
    running_there x (Some r) p = (job_data x r, refl)

pub jobs_are_held : JobsAreHeld
jobs_are_held coder n history =
    let d = device_after coder (new_device n) history in
    let h = always_held coder n history in
    record {
      running = λ worker k e. let x = job_there (slot_of d k) (h.running worker k e) in (x.0, ap (job_in_slot d) e ∙ x.1);
      apart = h.apart;
    }
