-- How far frames cover bytes from the first one on.
-- Frames are docs/FORMAT.md, "Frame places".
use Rattle.std.specs.Prelude.{ℕ, ◌-◌, List, [], ◌∷◌, nat_le, false, ◌||◌, if◌then◌else◌}
use Rattle.std.specs.declared.option.Option.TheVariants.{Some}
use Rattle.vc_defs.specs.Finds.{Find, known_at}
use Rattle.vc_resync.specs.declared.feeding.Found.{Found}
use Rattle.vc_resync.specs.declared.feeding.Found.TheVariants.{More, Head, Whole, Cut}
use Rattle.vc_resync.specs.Assembling.{found_of}
use Rattle.vc_coverage.specs.declared.reach.Reach.{Reach}

-- nothing was told
abbrev pub first_reach : Reach
first_reach = record { begins = 0; covered = 0; key = false }

-- so many of the first bytes are covered behind a frame from one place to another
abbrev pub covered_behind : ℕ → ℕ → ℕ → ℕ
covered_behind covered begins end = if nat_le begins covered then end else covered

-- Behind an answer that came after so many bytes: a header ends there, and so does a whole frame; a cut frame ends before
-- the eight bytes of a magic.
abbrev pub reach_behind : Reach → ℕ → Found → Reach
reach_behind r read More = r
reach_behind r read (Head h) = record { begins = read - 44; covered = r.covered; key = r.key || h.key }
reach_behind r read (Whole h) = record { begins = r.begins; covered = covered_behind r.covered r.begins read; key = r.key }
reach_behind r read (Cut h) = record { begins = r.begins; covered = covered_behind r.covered r.begins (read - 8); key = r.key }

-- what finds say that were told one after the other
abbrev pub reach_of : Reach → List Find → Reach
reach_of r [] = r
reach_of r (find ∷ later) = reach_of (reach_behind r (known_at find) (found_of (Some find))) later
