-- The device of a script, with what its users and its workers keep.
use Rattle.std.specs.Prelude.{ℕ, ◌≡◌, ◌<◌, ◌≤◌, ◌++◌, nat_le, if◌then◌else◌, Bool, false, take, get_or, length, Option, Some, None, List, [], ◌∷◌}
use Rattle.vc_base.specs.declared.Side.TheVariants.{Out, Cap}
use Rattle.vc_base.specs.declared.Errno.TheVariants.{NoMem}
use Rattle.vc_base.specs.declared.Call.{Call}
use Rattle.vc_base.specs.declared.Call.TheVariants.{QBuf, DqBuf}
use Rattle.vc_base.specs.declared.Reply.{Reply}
use Rattle.vc_base.specs.declared.Reply.TheVariants.{Taken, Refused}
use Rattle.vc_base.specs.Device.{DeviceEvent, call}
use Rattle.vc_model.specs.Coder.{the_coder}
use Rattle.vc_model.specs.Runs.{JobData}
use Rattle.vc_model.specs.Solo.{Answered}
use Rattle.vc_model.specs.Devices.{DeviceState, Told, new_device, slot_of, job_of, device_step, device_after}
use Rattle.vc_model.specs.Standing.{CoreState, Stands, job_in}
use Rattle.vc_queue.specs.Holds.{HoldState, held_payload, with_payload, written_over}
use Rattle.vc_queue.specs.Cells.{bytes_or_none}
use Rattle.vc_context.specs.Payloads.{FitsSlot, empty_hold}
use Rattle.vc_core.specs.Jobs.{IsJobOf}
use Rattle.vc_core.specs.declared.job.Job.{Job}
use Rattle.vc_desk.specs.declared.desk.Desk.{Desk}

-- The worker has the job of slot k, with these data.
pub record HasData (d : DeviceState) (worker k : ℕ) (j : JobData) : Type 0 where
  pub of_slot : job_of d worker ≡ Some k
  pub data_there : job_in (slot_of d k) ≡ Some j

-- the device after a history of n slots
abbrev pub after : ℕ → List DeviceEvent → DeviceState
after n history = device_after the_coder (new_device n) history

-- the job that is kept for a worker is the one that it has
abbrev pub IsKeptJob : DeviceState → ℕ → Option Job → Type 0
IsKeptJob d worker None = job_of d worker ≡ None
IsKeptJob d worker (Some job) = (k : ℕ) × (j : JobData) × HasData d worker k j × IsJobOf k j job

-- A core of n slots and 16 workers stands for the history. The payloads that are held fit its slots, and the jobs that are kept
-- are those of its workers.
pub record IsAt (n : ℕ) (history : List DeviceEvent) (core : CoreState) (holds : List HoldState) (jobs : List (Option Job)) : Type 0 where
  pub few : n ≤ 1024
  pub stands : Stands the_coder n 16 core history
  pub slots : length core.slots ≡ n
  pub workers : length core.workers ≡ 16
  pub users : length holds ≡ n
  pub fit : (k : ℕ) → k < n → FitsSlot (slot_of core k) (get_or holds k empty_hold)
  pub kept_jobs : length jobs ≡ 16
  pub kept : (worker : ℕ) → worker < 16 → IsKeptJob (after n history) worker (get_or jobs worker None)

abbrev pub IsDesk : ℕ → List DeviceEvent → Desk → Type 0
IsDesk n history desk = IsAt n history desk.core desk.holds.items desk.jobs.items

-- whether a payload is held and has room for the bytes
abbrev pub has_room : Option (List ℕ) → List ℕ → Bool
has_room None bytes = false
has_room (Some payload) bytes = nat_le (length bytes) (length payload)

-- what a call queues on OUTPUT stands at the front of the held payload, where that has room
abbrev pub filled_at : HoldState → ℕ → List ℕ → HoldState
filled_at hold index bytes =
    if has_room (held_payload hold Out index) bytes then with_payload hold Out index (written_over (held_payload hold Out index) bytes) else hold

abbrev pub filled : Call → List ℕ → HoldState → HoldState
filled (QBuf Out index used stamp) bytes hold = filled_at hold index bytes
filled request bytes hold = hold

-- the payload of the buffer that was taken from CAPTURE, and no bytes after any other reply
abbrev pub taken_payload : Call → Reply → HoldState → List ℕ
taken_payload (DqBuf Cap block) (Taken index used flags seq stamp) hold = bytes_or_none (held_payload hold Cap index)
taken_payload request reply hold = []

-- the payload is there, and its first bytes are those that the device handed out
abbrev pub front_is : ℕ → List ℕ → Option (List ℕ) → Type 0
front_is used handed None = ⊥
front_is used handed (Some payload) = (used ≤ length payload) × (take used payload ≡ handed)

-- what was taken from CAPTURE is held
abbrev pub IsTaken : Call → Reply → List ℕ → HoldState → Type 0
IsTaken (DqBuf Cap block) (Taken index used flags seq stamp) handed hold =
    front_is used handed (held_payload hold Cap index)
IsTaken request reply handed hold = Unit {0}

-- The call was one step of the device. Where memory was not found the reply says so.
pub record CallDone (n : ℕ) (history : List DeviceEvent) (slot : ℕ) (request : Call) (bytes : List ℕ) (told : Reply) (desk : Desk) : Type 0 where
  pub found : Bool
  pub handed : List ℕ
  pub want : found ≡ false → told ≡ Refused NoMem
  pub reply : (device_step the_coder (after n history) (call slot request bytes found)).reply ≡ Told slot (Answered told handed)
  pub at : IsDesk n (history ++ call slot request bytes found ∷ []) desk
  pub taken : IsTaken request told handed (get_or desk.holds.items slot empty_hold)

-- some slots and some history
abbrev pub IsSomeDesk : Desk → Type 0
IsSomeDesk desk = (n : ℕ) × (history : List DeviceEvent) × IsDesk n history desk
