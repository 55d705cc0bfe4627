-- The slots that wait for a worker, the longest waiting first.
use Rattle.std.specs.Prelude.{ℕ, ◌≡◌, ◌<◌, Bool, true, false, not, if◌then◌else◌, ◌==◌, Option, Some, None, List, [], ◌∷◌, ◌++◌, All}
use Rattle.std.specs.List.{filter, list_any}

-- whether the slot stands in the list
abbrev pub waits : List ℕ → ℕ → Bool
waits list k = list_any (λ j. j == k) list

-- the list without the slot
abbrev pub without : List ℕ → ℕ → List ℕ
without list k = filter (λ j. not (j == k)) list

-- the slot at the front
abbrev pub front_of : List ℕ → Option ℕ
front_of [] = None
front_of (k ∷ ks) = Some k

-- the slots after the front
abbrev pub rest_of : List ℕ → List ℕ
rest_of [] = []
rest_of (k ∷ ks) = ks

-- the list with slot k in it exactly where it is due: at the end, if it was not there yet
abbrev pub waiting_after : List ℕ → ℕ → Bool → List ℕ
waiting_after waiting k true = if list_any (λ j. j == k) waiting then waiting else waiting ++ k ∷ []
waiting_after waiting k false = filter (λ j. not (j == k)) waiting

-- no slot stands twice in the list
abbrev pub EachOnce : List ℕ → Type 0
EachOnce [] = Unit {0}
EachOnce (k ∷ ks) = (waits ks k ≡ false) × EachOnce ks

-- a list of jobs as its callers see it: how many slots there are, and which of them wait
pub record Jobs : Type 0 where
  pub slots : ℕ
  pub waiting : List ℕ

-- only slots wait, each once
pub record AreSlots (jobs : Jobs) : Type 0 where
  pub below : All (λ k. k < jobs.slots) jobs.waiting
  pub once : EachOnce jobs.waiting

-- the jobs with another list
abbrev pub with_waiting : Jobs → List ℕ → Jobs
with_waiting jobs waiting = record { slots = jobs.slots; waiting = waiting }
