-- A decoder's run as feeds, one after the other.
-- Results are docs/FORMAT.md, "The sequential decoder"; runs are docs/DEVICE.md, "Runs".
use Rattle.std.specs.Prelude.{◌≡◌, ℕ, ◌+◌, List, [], ◌∷◌, ◌++◌, length, take, drop, replicate, option_map}
use Rattle.std.specs.declared.option.Option.{Option}
use Rattle.std.specs.declared.option.Option.TheVariants.{Some, None}
use Rattle.vc_base.specs.declared.Stamp.{Stamp}
use Rattle.vc_defs.specs.declared.Geometry.{Geometry}
use Rattle.vc_defs.specs.Finds.{Find, KeptBytes, finds, kept_before, fed}
use Rattle.vc_defs.specs.Decoder.{FrameResult, ResultKind, GivenResult, BetweenFrames, DecodedStep, decode, kept_of, given_by_find, given_by_finds}
use Rattle.vc_defs.specs.Laws.{IsReached, IsTold, kept_at, state_at, present_at, from_start}

-- What a run came to: the kind of the result that it gave, or none; the stamp of its frame; how many bytes it took; and
-- what is kept, and what the decoder has, then.
pub record RunEnd : Type 0 where
  pub kind : Option ResultKind
  pub stamp : Stamp
  pub moved : ℕ
  pub kept : KeptBytes
  pub present : BetweenFrames

-- so many bytes were taken before
abbrev pub run_later : ℕ → RunEnd → RunEnd
run_later n r = record { kind = r.kind; stamp = r.stamp; moved = n + r.moved; kept = r.kept; present = r.present }

-- A run, from what is kept and what the decoder has, over bytes. A feed that tells nothing ends it, and so does a find
-- that gives a result; behind another find it goes on.
pub data Feeds (limit : ℕ) (stamp : Stamp) : KeptBytes → BetweenFrames → List ℕ → RunEnd → Type 0 where
  used_up : (kept : KeptBytes) (now : BetweenFrames) (source : List ℕ) → (fed kept limit source stamp).told ≡ None →
      Feeds limit stamp kept now source (record { kind = None; stamp = stamp; moved = (fed kept limit source stamp).moved; kept = (fed kept limit source stamp).kept; present = now })
  gives : (kept : KeptBytes) (now : BetweenFrames) (source : List ℕ) (find : Find) (given : GivenResult) → (fed kept limit source stamp).told ≡ Some find → given_by_find find now ≡ given ∷ [] →
      Feeds limit stamp kept now source (record { kind = Some given.result.kind; stamp = (fed kept limit source stamp).stamp; moved = (fed kept limit source stamp).moved; kept = (fed kept limit source stamp).kept; present = given.present })
  goes_on : (kept : KeptBytes) (now : BetweenFrames) (source : List ℕ) (find : Find) (later : RunEnd) → (fed kept limit source stamp).told ≡ Some find → given_by_find find now ≡ [] →
      Feeds limit stamp (fed kept limit source stamp).kept now (drop (fed kept limit source stamp).moved source) later →
      Feeds limit stamp kept now source (run_later (fed kept limit source stamp).moved later)

-- Where bytes were taken, so many finds told and so many results given: what is left of the finds gives what is left of the
-- results, and the same bytes are kept.
pub record InStep (limit : ℕ) (g : Option Geometry) (bytes : List ℕ) (told given : ℕ) : Type 0 where
  pub reached : IsReached bytes limit g given
  pub all_told : IsTold bytes limit told
  pub results : (more : List ℕ) → drop given (from_start (bytes ++ more) limit g) ≡ given_by_finds (drop told (finds (bytes ++ more) limit)) (present_at bytes limit g given)
  pub kept : kept_of limit bytes (drop given (from_start bytes limit g)) ≡ kept_before limit bytes (drop told (finds bytes limit))

-- a run of the definition comes to the same as a run of feeds
pub record IsRun (step : DecodedStep) (run : RunEnd) : Type 0 where
  pub kind : option_map (λ (r : FrameResult). r.kind) step.given ≡ run.kind
  pub stamp : (r : FrameResult) → step.given ≡ Some r → step.stamp ≡ run.stamp
  pub moved : step.moved ≡ run.moved
  pub state : step.state ≡ record { reference = run.present.reference; tail = run.kept.tail; first_stamp = run.kept.first_stamp; last_stamps = run.kept.last_stamps }

-- where a run ends, finds and results are in step again, and this is kept
pub record EndsInStep (limit : ℕ) (g : Option Geometry) (bytes : List ℕ) (stamps : List Stamp) (run : RunEnd) : Type 0 where
  pub told : ℕ
  pub given : ℕ
  pub in_step : InStep limit g bytes told given
  pub kept : run.kept ≡ kept_at bytes stamps limit told
  pub present : run.present ≡ present_at bytes limit g given

-- From what is kept of any bytes a run over any others ends.
abbrev pub RunsEnd : Type 0
RunsEnd = (limit : ℕ) (bytes source : List ℕ) (stamps : List Stamp) (stamp : Stamp) (told : ℕ) (now : BetweenFrames) →
    length stamps ≡ length bytes → IsTold bytes limit told → (run : RunEnd) × Feeds limit stamp (kept_at bytes stamps limit told) now source run

-- Before any bytes finds and results are in step.
abbrev pub BeginsInStep : Type 0
BeginsInStep = (limit : ℕ) (g : Option Geometry) → InStep limit g [] 0 0

-- Where finds and results are in step, a run of a decoder is what feeds come to, one after the other; and they are in step
-- again where it ends.
abbrev pub DecodesByFeeds : Type 0
DecodesByFeeds = (limit : ℕ) (g : Option Geometry) (bytes source : List ℕ) (stamps : List Stamp) (stamp : Stamp) (told given : ℕ) (run : RunEnd) →
    length stamps ≡ length bytes → InStep limit g bytes told given →
    Feeds limit stamp (kept_at bytes stamps limit told) (present_at bytes limit g given) source run →
    IsRun (decode (state_at bytes stamps limit g given) (present_at bytes limit g given).geometry limit source stamp) run
    × EndsInStep limit g (bytes ++ take run.moved source) (stamps ++ replicate run.moved stamp) run
