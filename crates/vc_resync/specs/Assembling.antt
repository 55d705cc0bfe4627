-- What an assembly is for its caller, and what a call tells.
-- All of it is docs/FORMAT.md, "Frame places".
use Rattle.std.specs.Prelude.{◌≡◌, ℕ, List, length, Bool, true, false, IsSome, IfSome}
use Rattle.std.specs.declared.option.Option.{Option}
use Rattle.std.specs.declared.option.Option.TheVariants.{Some, None}
use Rattle.vc_base.specs.declared.Stamp.{Stamp}
use Rattle.vc_defs.specs.declared.Header.{Header}
use Rattle.vc_defs.specs.Headers.{is_legal}
use Rattle.vc_base.specs.Limits.{most_bytes}
use Rattle.vc_defs.specs.Places.{Frame}
use Rattle.vc_defs.specs.Finds.{Find, Head, Ended, KeptBytes, nothing_kept, FedStep}
use Rattle.vc_resync.specs.declared.feeding.Found.{Found}
use Rattle.vc_resync.specs.declared.feeding.Found.TheVariants.{More, Head as HeadFound, Whole, Cut}

-- A frame that was told: its body, where it is whole, and the stamp of its first byte.
pub record ToldFrame : Type 0 where
  pub body : Option (List ℕ)
  pub stamp : Stamp

-- An assembly: the most bytes of a body, what is kept of the bytes that were fed, and the frame that the last call told,
-- where it told one.
pub record AssemblyState : Type 0 where
  pub limit : ℕ
  pub kept : KeptBytes
  pub told : Option ToldFrame

-- nothing was fed
abbrev pub fresh_assembly : ℕ → AssemblyState
fresh_assembly limit = record { limit = limit; kept = nothing_kept; told = None }

-- the answer to a frame's end
abbrev pub found_at_end : Frame → Found
found_at_end f = elim f.body as (λ _. Found) [ None ↦ Cut f.header | Some body ↦ Whole f.header ]

-- the answer to a find
abbrev pub found_of : Option Find → Found
found_of None = More
found_of (Some (Head position h)) = HeadFound h
found_of (Some (Ended f)) = found_at_end f

-- the frame that a find tells, with the stamp of its first byte
abbrev pub frame_of : Option Find → Stamp → Option ToldFrame
frame_of None stamp = None
frame_of (Some (Head position h)) stamp = None
frame_of (Some (Ended f)) stamp = Some (record { body = f.body; stamp = stamp })

-- the assembly after a call
abbrev pub assembly_after : AssemblyState → FedStep → AssemblyState
assembly_after assembly step = record { limit = assembly.limit; kept = step.kept; told = frame_of step.told step.stamp }

-- the body of a frame that was told
abbrev pub told_body : Option ToldFrame → Option (List ℕ)
told_body None = None
told_body (Some f) = f.body

-- the stamp of the first byte of a frame that was told
abbrev pub told_stamp : Option ToldFrame → Option Stamp
told_stamp None = None
told_stamp (Some f) = Some f.stamp

-- whether an answer tells a header or a frame
abbrev pub is_told : Found → Bool
is_told More = false
is_told (HeadFound h) = true
is_told (Whole h) = true
is_told (Cut h) = true

-- what an answer says of a header
abbrev pub IsLegal : ℕ → Header → Type 0
IsLegal limit h = (is_legal limit h ≡ true) × (is_legal most_bytes h ≡ true)

-- a header that is told is legal under the limit, and under the largest one
abbrev pub IsLegalAnswer : ℕ → Found → Type 0
IsLegalAnswer limit More = Unit {0}
IsLegalAnswer limit (HeadFound h) = IsLegal limit h
IsLegalAnswer limit (Whole h) = IsLegal limit h
IsLegalAnswer limit (Cut h) = IsLegal limit h

-- a whole frame's body is there, and has the size that its header says
abbrev pub IsBodyOf : Header → Option ToldFrame → Type 0
IsBodyOf h told = IsSome (told_body told) × IfSome (told_body told) (λ body. length body ≡ h.size)

-- what is told of a frame's end is there behind its answer, and only then
abbrev pub IsToldBy : Found → Option ToldFrame → Type 0
IsToldBy More told = told ≡ None
IsToldBy (HeadFound h) told = told ≡ None
IsToldBy (Whole h) told = IsSome told × IsBodyOf h told
IsToldBy (Cut h) told = IsSome told
