-- The jobs that a worker ran, and what the counts of its engine tell of them.
use Rattle.std.specs.Prelude.{ℕ, ◌≡◌, ◌⊎◌, ◌+◌, ◌≤◌, Bool, true, false, not, List, [], ◌∷◌, ◌++◌}
use Rattle.std.specs.List.{count_by}
use Rattle.vc_base.specs.Counts.{top_count}
use Rattle.vc_port.specs.declared.station.Claimed.{Claimed}
use Rattle.vc_port.specs.Stations.{StationJob, Worked, took, gave_back, is_job}

-- A job that was run: which one, and whether the engine gave up.
pub record JobRun : Type 0 where
  pub job : StationJob
  pub fault : Bool

-- each job was claimed and then finished
abbrev pub worked_of : List JobRun → List Worked
worked_of [] = []
worked_of (r ∷ rs) = took r.job ∷ gave_back r.fault ∷ worked_of rs

abbrev pub good_runs : List JobRun → ℕ
good_runs runs = count_by (λ r. not r.fault) runs

abbrev pub failed_runs : List JobRun → ℕ
failed_runs runs = count_by (λ r. r.fault) runs

-- the count rose by at least so many, or stands at its end
abbrev pub RoseBy : ℕ → ℕ → ℕ → Type 0
RoseBy n before after = (before + n ≤ after) ⊎ (top_count ≤ after)

-- What was added to the list of a station is claims, each followed by the finish of its job. The engine's count of runs rose by
-- at least the finishes without a fault, and its count of faults by at least those with one. Neither fell.
pub record Gained (before after : List Worked) (runs runs_after faults faults_after : ℕ) : Type 0 where
  pub jobs : List JobRun
  pub worked : after ≡ before ++ worked_of jobs
  pub ran : RoseBy (good_runs jobs) runs runs_after
  pub failed : RoseBy (failed_runs jobs) faults faults_after
  pub runs_stay : runs ≤ runs_after
  pub faults_stay : faults ≤ faults_after

-- The same of a station and an engine before and after: `worked` tells what the station did, and `runs` and `faults` are the
-- engine's counts.
abbrev pub GainsBy : {S E : Type 0} → (S → List Worked) → (E → ℕ) → (E → ℕ) → S → E → S → E → Type 0
GainsBy worked runs faults station engine station_after engine_after =
    Gained (worked station) (worked station_after) (runs engine) (runs engine_after) (faults engine) (faults engine_after)

-- A claim that gave no job.
pub record FindsNone {S : Type 0} (claims : S → Claimed → S → Type 0) (old new : S) : Type 0 where
  pub gave : Claimed
  pub no_job : is_job gave ≡ false
  pub claimed : claims old gave new

-- One turn: a job was claimed and finished, or there was none.
abbrev pub IsTurn : Bool → List Worked → List Worked → Type 0
IsTurn true before after = (run : JobRun) × (after ≡ before ++ worked_of (run ∷ []))
IsTurn false before after = after ≡ before
