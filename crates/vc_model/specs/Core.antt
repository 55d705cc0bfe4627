-- The steps of a core: what each call, claim, finish and shut makes of the state that it keeps, where the data of running jobs
-- are with the jobs (docs/DEVICE.md, "Many contexts").
use Rattle.std.specs.Prelude.{ℕ, ◌≡◌, ◌≤◌, ◌<◌, Bool, true, false, if◌then◌else◌, nat_lt, is_none, codes, set, replicate, length, Option, Some, None, List, [], ◌∷◌, ◌++◌}
use Rattle.vc_base.specs.declared.Call.{Call}
use Rattle.vc_base.specs.declared.Reply.{Reply}
use Rattle.vc_base.specs.declared.Reply.TheVariants.{Blocked, Refused}
use Rattle.vc_base.specs.declared.Errno.TheVariants.{NoMem}
use Rattle.vc_base.specs.Device.{DeviceEvent, call, claim, finish, shut}
use Rattle.vc_model.specs.Coder.{Coder}
use Rattle.vc_model.specs.Context.{Context, Slot, Running, settle}
use Rattle.vc_model.specs.Answer.{answer}
use Rattle.vc_model.specs.Runs.{JobData, RunResult, run_result, run_effect, fault_effect, run_word, after_claim}
use Rattle.vc_model.specs.Solo.{Answered, Claimed, Finished}
use Rattle.vc_model.specs.Devices.{DeviceState, DeviceReply, Told, NoJob, Empty, DeviceStep, new_device, slot_of, job_of, with_slot, counted, ignored, call_answered, device_step, device_after}
use Rattle.vc_base.specs.Limits.{most_workers}
use Rattle.vc_model.specs.Standing.{CoreState, without_job, Stands, job_in, worker_job}

-- n closed slots, and w workers without a job
abbrev pub new_core : ℕ → ℕ → CoreState
new_core n w =
    record { slots = replicate n None; waiting = []; workers = replicate w None; is_shut = false; steps = 0 }

-- a call on slot k
abbrev pub core_call : CoreState → ℕ → Call → List ℕ → Bool → DeviceStep
core_call core k request bytes found =
    if nat_lt k (length core.slots) then call_answered core k (answer (slot_of core k) request bytes found) else ignored core

-- the claim of slot k, whose job's data go to the worker
abbrev pub core_claim_slot : CoreState → ℕ → ℕ → Slot → DeviceStep
core_claim_slot core worker k None = ignored core
core_claim_slot core worker k (Some c) =
    record { device = counted (with_slot (record core { workers = set core.workers worker (Some k) }) k (Some (without_job (after_claim c)))) 1; reply = Told k Claimed }

abbrev pub core_claim_first : CoreState → ℕ → List ℕ → DeviceStep
core_claim_first core worker [] = record { device = core; reply = NoJob }
core_claim_first core worker (k ∷ rest) = core_claim_slot (record core { waiting = rest }) worker k (slot_of core k)

-- a claim by a worker takes the front of the job list
abbrev pub core_claim : CoreState → ℕ → DeviceStep
core_claim core worker =
    if nat_lt worker (length core.workers) then
    (if is_none (job_of core worker) then core_claim_first core worker core.waiting else ignored core) else ignored core

-- the data of the job that a claim gives
abbrev pub claimed_in : Slot → Option JobData
claimed_in None = None
claimed_in (Some c) = job_in (Some (after_claim c))

abbrev pub claimed_first : CoreState → List ℕ → Option JobData
claimed_first core [] = None
claimed_first core (k ∷ rest) = claimed_in (slot_of core k)

abbrev pub claimed_job : CoreState → Option JobData
claimed_job core = claimed_first core core.waiting

-- What a finish brings back: the data of the job, and what its run came to, or none where the engine gave up.
pub record BroughtBack : Type 0 where
  pub job : JobData
  pub result : Option RunResult

abbrev pub back_effect : Context → JobData → Option RunResult → Context
back_effect c j None = fault_effect c j
back_effect c j (Some result) = run_effect c j result

-- the context after the end of the job that was brought back
abbrev pub finished_context : Context → BroughtBack → Context
finished_context c back =
    settle (back_effect (record c { codec = back.job.codec; running = None }) back.job back.result)

abbrev pub back_word : BroughtBack → Option RunResult → List ℕ
back_word back None = codes "fault"
back_word back (Some result) = run_word back.job.format.fourcc result

-- the word of the finish
abbrev pub word_of : BroughtBack → List ℕ
word_of back = back_word back back.result

abbrev pub core_finish_job : CoreState → ℕ → ℕ → Context → Option Running → BroughtBack → DeviceStep
core_finish_job core worker k c None back = ignored core
core_finish_job core worker k c (Some r) back =
    record { device = counted (with_slot (record core { workers = set core.workers worker None }) k (Some (finished_context c back))) 1; reply = Told k (Finished (word_of back)) }

abbrev pub core_finish_slot : CoreState → ℕ → ℕ → Slot → BroughtBack → DeviceStep
core_finish_slot core worker k None back = ignored core
core_finish_slot core worker k (Some c) back = core_finish_job core worker k c c.running back

abbrev pub core_finish_of : CoreState → ℕ → Option ℕ → BroughtBack → DeviceStep
core_finish_of core worker None back = ignored core
core_finish_of core worker (Some k) back = core_finish_slot core worker k (slot_of core k) back

-- a finish by a worker
abbrev pub core_finish : CoreState → ℕ → BroughtBack → DeviceStep
core_finish core worker back = core_finish_of core worker (job_of core worker) back

-- the mark of Shut
abbrev pub core_shut : CoreState → DeviceStep
core_shut core = record { device = counted (record core { is_shut = true }) 1; reply = Empty }

-- what the finish of a job brings back, with a fault or without
abbrev pub result_of : Coder → JobData → Bool → Option RunResult
result_of coder j true = None
result_of coder j false = Some (run_result coder j)

abbrev pub brought_back : Coder → JobData → Bool → BroughtBack
brought_back coder j fault = record { job = j; result = result_of coder j fault }

-- Laws

-- The step of a core is that of the device it stands for: the core stands for the history with the event at its end, and the
-- reply is the same.
pub record StandsFor (coder : Coder) (n w : ℕ) (history : List DeviceEvent) (e : DeviceEvent) (step : DeviceStep) : Type 0 where
  pub stands : Stands coder n w step.device (history ++ e ∷ [])
  pub reply : step.reply ≡ (device_step coder (device_after coder (new_device n) history) e).reply

abbrev pub NewCoreStands : Type 0
NewCoreStands = (coder : Coder) (n w : ℕ) → w ≤ most_workers → Stands coder n w (new_core n w) []

abbrev pub CallsStand : Type 0
CallsStand =
    (coder : Coder) (n w : ℕ) (core : CoreState) (history : List DeviceEvent) (k : ℕ) (request : Call) (bytes : List ℕ) (found : Bool)
    → Stands coder n w core history → StandsFor coder n w history (call k request bytes found) (core_call core k request bytes found)

-- the data that the claim gives are those of the device
abbrev pub IsGiven : ℕ → DeviceState → Option JobData → DeviceReply → Type 0
IsGiven worker after job (Told k told) = worker_job after worker ≡ job
IsGiven worker after job NoJob = job ≡ None
IsGiven worker after job Empty = Unit {0}

pub record ClaimStands (coder : Coder) (n w : ℕ) (core : CoreState) (history : List DeviceEvent) (worker : ℕ) : Type 0 where
  pub step : StandsFor coder n w history (claim worker) (core_claim core worker)
  pub job : IsGiven worker (device_after coder (new_device n) (history ++ claim worker ∷ [])) (claimed_job core) (core_claim core worker).reply

abbrev pub ClaimsStand : Type 0
ClaimsStand =
    (coder : Coder) (n w : ℕ) (core : CoreState) (history : List DeviceEvent) (worker : ℕ) → worker < w → Stands coder n w core history → ClaimStands coder n w core history worker

-- A finish brings back the data of the job as the history has them.
abbrev pub FinishesStand : Type 0
FinishesStand =
    (coder : Coder) (n w : ℕ) (core : CoreState) (history : List DeviceEvent) (worker : ℕ) (j : JobData) (fault : Bool)
    → worker_job (device_after coder (new_device n) history) worker ≡ Some j → Stands coder n w core history
    → StandsFor coder n w history (finish worker fault) (core_finish core worker (brought_back coder j fault))

abbrev pub ShutStands : Type 0
ShutStands =
    (coder : Coder) (n w : ℕ) (core : CoreState) (history : List DeviceEvent) → Stands coder n w core history → StandsFor coder n w history shut (core_shut core)

-- A call that answers Blocked leaves the core as it was.
abbrev pub BlockedChangesNothing : Type 0
BlockedChangesNothing =
    (coder : Coder) (n w : ℕ) (core : CoreState) (history : List DeviceEvent) (k : ℕ) (request : Call) (bytes handed : List ℕ) (found : Bool)
    → Stands coder n w core history → (core_call core k request bytes found).reply ≡ Told k (Answered Blocked handed)
    → (core_call core k request bytes found).device ≡ core

-- Memory

-- a reply other than out of memory
abbrev pub unless_memory : Reply → Option Reply
unless_memory (Refused NoMem) = None
unless_memory reply = Some reply

-- what a call answers before memory is sought: the reply of the first test that applies, or none where all pass
abbrev pub before_memory : Slot → Call → Option Reply
before_memory s request = unless_memory (answer s request [] false).reply
