-- What a coverage is for its caller, and which bytes it has read.
use Rattle.std.specs.Prelude.{◌≡◌, ◌+◌, ℕ, List, ◌++◌, length}
use Rattle.vc_base.specs.declared.Stamp.{Stamp}
use Rattle.vc_base.specs.Limits.{most_bytes}
use Rattle.vc_defs.specs.Finds.{finds}
use Rattle.vc_defs.specs.Laws.{kept_at}
use Rattle.vc_resync.specs.Assembling.{AssemblyState}
use Rattle.vc_coverage.specs.declared.reach.Reach.{Reach}
use Rattle.vc_coverage.specs.Reaching.{first_reach, reach_of}

-- what is kept of the bytes that were read, how many these are, and what is known of their frames
pub record CoverageState : Type 0 where
  pub assembly : AssemblyState
  pub read : ℕ
  pub reach : Reach

-- how many bytes were read
abbrev pub bytes_read : CoverageState → ℕ
bytes_read c = c.read

-- These bytes were read, all that is known of them was told, and what is to be kept of them is kept.
pub record HasRead (c : CoverageState) (bytes : List ℕ) : Type 0 where
  pub stamps : List Stamp
  pub long : length stamps ≡ length bytes
  pub limit : c.assembly.limit ≡ most_bytes
  pub kept : c.assembly.kept ≡ kept_at bytes stamps most_bytes (length (finds bytes most_bytes))
  pub read : c.read ≡ length bytes
  pub reach : c.reach ≡ reach_of first_reach (finds bytes most_bytes)

-- some bytes were read
pub record WasRead (c : CoverageState) : Type 0 where
  pub bytes : List ℕ
  pub has_read : HasRead c bytes

-- whatever bytes were read before, the piece was read behind them
abbrev pub ReadsOn : AssemblyState → AssemblyState → Reach → Reach → ℕ → List ℕ → Type 0
ReadsOn assembly_old assembly_new reach_old reach_new read piece =
    (bytes : List ℕ) → HasRead (record { assembly = assembly_old; read = read; reach = reach_old }) bytes →
    HasRead (record { assembly = assembly_new; read = read + length piece; reach = reach_new }) (bytes ++ piece)
