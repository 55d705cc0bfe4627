-- What a claim and a finish print.
use Rattle.std.specs.Prelude.{ℕ, ◌≡◌, ◌≤◌, ◌++◌, Bool, true, false, Some, None, List, [], ◌∷◌}
use Rattle.vc_base.specs.Device.{DeviceEvent, claim, finish}
use Rattle.vc_model.specs.Coder.{the_coder}
use Rattle.vc_model.specs.Runs.{JobData, finish_word}
use Rattle.vc_model.specs.Solo.{Claimed, Finished}
use Rattle.vc_model.specs.Devices.{Told, NoJob, job_of, device_step}
use Rattle.vc_core.specs.Jobs.{Tells}
use Rattle.vc_script.specs.Texts.{claim_text, no_claim_text, busy_text, finish_text, idle_text}
use Rattle.vc_desk.specs.declared.desk.Desk.{Desk}
use Rattle.vc_desk.specs.Desks.{after, IsDesk}

-- What a claim came to, and its text: the worker has a job already, no slot waits, or the front slot was claimed.
pub data ClaimTold (n : ℕ) (history : List DeviceEvent) (worker : ℕ) (desk : Desk) : Bool → List ℕ → Type 0 where
  was_busy : (k : ℕ) → job_of (after n history) worker ≡ Some k → IsDesk n history desk → ClaimTold n history worker desk false busy_text
  was_empty :
      job_of (after n history) worker ≡ None → (after n history).waiting ≡ []
      → (device_step the_coder (after n history) (claim worker)).reply ≡ NoJob → IsDesk n (history ++ claim worker ∷ []) desk
      → ClaimTold n history worker desk false no_claim_text
  took :
      (k : ℕ) (rest : List ℕ) → job_of (after n history) worker ≡ None → (after n history).waiting ≡ k ∷ rest
      → (device_step the_coder (after n history) (claim worker)).reply ≡ Told k Claimed → IsDesk n (history ++ claim worker ∷ []) desk
      → job_of (after n (history ++ claim worker ∷ [])) worker ≡ Some k → ClaimTold n history worker desk true (claim_text k)

-- What a finish came to, and its text: the worker has no job, or its job ended with a fault or without, which the engine counts.
pub data FinishTold (n : ℕ) (history : List DeviceEvent) (worker : ℕ) (desk : Desk) (runs runs' faults faults' : ℕ) : Bool → List ℕ → Type 0 where
  was_idle : job_of (after n history) worker ≡ None → IsDesk n history desk → runs ≤ runs' → faults ≤ faults' → FinishTold n history worker desk runs runs' faults faults' false idle_text
  ended :
      (k i : ℕ) (j : JobData) (fault : Bool) → job_of (after n history) worker ≡ Some i
      → (device_step the_coder (after n history) (finish worker fault)).reply ≡ Told k (Finished (finish_word the_coder j fault))
      → IsDesk n (history ++ finish worker fault ∷ []) desk → Tells fault runs runs' faults faults'
      → FinishTold n history worker desk runs runs' faults faults' fault (finish_text k (finish_word the_coder j fault))

-- the text was appended, and the claim came to this
abbrev pub ClaimsWith : Desk → ℕ → List ℕ → List ℕ → Desk → Bool → Type 0
ClaimsWith old worker before now new claimed =
    (n : ℕ) (history : List DeviceEvent) → IsDesk n history old → (text : List ℕ) × (now ≡ before ++ text) × ClaimTold n history worker new claimed text

-- the text was appended, and the finish came to this, which the engine counts
abbrev pub FinishesWith : Desk → ℕ → List ℕ → List ℕ → Desk → ℕ → ℕ → ℕ → ℕ → Bool → Type 0
FinishesWith old worker before now new runs runs' faults faults' fault =
    (n : ℕ) (history : List DeviceEvent) → IsDesk n history old → (text : List ℕ) × (now ≡ before ++ text) × FinishTold n history worker new runs runs' faults faults' fault text
