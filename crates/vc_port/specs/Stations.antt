-- What a station remembers of its claims and finishes (docs/DEVICE.md, "Many contexts").
use Rattle.std.specs.Prelude.{ℕ, ◌≡◌, Bool, true, false, Option, Some, None, List, [], ◌∷◌, ◌++◌}
use Rattle.vc_model.specs.Coder.{the_coder}
use Rattle.vc_model.specs.Runs.{JobData}
use Rattle.vc_model.specs.Core.{brought_back}
use Rattle.vc_core.specs.declared.job.Job.{Job}
use Rattle.vc_core.specs.declared.job.Finished.{Finished}
use Rattle.vc_core.specs.Jobs.{IsJobOf, Brings, is_fault}
use Rattle.vc_port.specs.declared.station.Claimed.{Claimed}
use Rattle.vc_port.specs.declared.station.Claimed.TheVariants as gave

-- A job that a station has: its slot, and its data.
pub record StationJob : Type 0 where
  pub slot : ℕ
  pub given : JobData

-- What a station did: it claimed a job, or finished its job, with a fault or without.
pub data Worked : Type 0 where
  took : (job : StationJob) → Worked
  gave_back : (fault : Bool) → Worked

abbrev pub is_job : Claimed → Bool
is_job (gave.Job job) = true
is_job gave.Empty = false
is_job gave.Over = false

-- The claim gave this job: it is one claim more, and the station has the job.
pub record GivesJob (given : Job) (before after : List Worked) (has : Option StationJob) (over : Bool) : Type 0 where
  pub job : StationJob
  pub is_of : IsJobOf job.slot job.given given
  pub listed : after ≡ before ++ took job ∷ []
  pub has_it : has ≡ Some job
  pub goes_on : over ≡ false

-- The claim gave no job: nothing was added, and the station has none. It says whether all is over.
pub record GivesNone (ended : Bool) (before after : List Worked) (has : Option StationJob) (over : Bool) : Type 0 where
  pub listed : after ≡ before
  pub has_none : has ≡ None
  pub is_over : over ≡ ended

-- what a claim does to the list of the station, to its job, and to whether its last claim answered Over
abbrev pub IsClaim : Claimed → List Worked → List Worked → Option StationJob → Bool → Type 0
IsClaim (gave.Job job) before after has over = GivesJob job before after has over
IsClaim gave.Empty before after has over = GivesNone false before after has over
IsClaim gave.Over before after has over = GivesNone true before after has over

-- what is brought back is of the job that the station has, run or given up
abbrev pub IsOf : Option StationJob → Finished → Type 0
IsOf None back = ⊥
IsOf (Some job) back = Brings job.slot (brought_back the_coder job.given (is_fault back)) back
