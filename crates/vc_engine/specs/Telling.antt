-- What a run of a stream tells.
use Rattle.vc_stream_run.specs.declared.decoded.Decoded.{Decoded}
use Rattle.vc_stream_run.specs.declared.decoded.Decoded.TheVariants.{Picture as PictureRun, Damaged as DamagedRun, Changed as ChangedRun, Spent as SpentRun}
use Rattle.vc_work.specs.declared.engine.Outcome.{Outcome}
use Rattle.vc_work.specs.declared.engine.Outcome.TheVariants.{Picture, Damaged, Changed, Spent}

-- what a run came to, as the outcome of a job
abbrev pub outcome_of : Decoded → Outcome
outcome_of (PictureRun used key stamp) = Picture used key stamp
outcome_of (DamagedRun stamp) = Damaged stamp
outcome_of (ChangedRun geometry) = Changed geometry
outcome_of SpentRun = Spent
