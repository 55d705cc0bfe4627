-- Laws of jobs.
use Rattle.std.specs.Prelude.{is_err, Result, IfOk}
use Rattle.vc_model.specs.Coder.{the_coder}
use Rattle.vc_model.specs.Runs.{JobData}
use Rattle.vc_model.specs.Core.{brought_back}
use Rattle.vc_work.specs.Runs.{Fits, KeepsLengths, IsRun}
use Rattle.vc_work.specs.declared.work.Work.{Work}
use Rattle.vc_work.specs.declared.engine.Outcome.{Outcome}
use Rattle.vc_work.specs.declared.engine.EngineFault.{EngineFault}
use Rattle.vc_context.specs.Works.{IsWork, IsBack}

-- the work after a run, with the used bytes and the stamp of the source as they were queued
abbrev pub put_back : Work → Work → Work
put_back old ran =
    record ran { source = record ran.source { used = old.source.used; stamp = old.source.stamp } }

-- What an engine makes of the work of a job, with a fault or without, is what the model says of the job's end.
abbrev pub RunsAreBack : Type 0
RunsAreBack =
    (j : JobData) (old ran : Work) (result : Result Outcome EngineFault) → IsWork j old → Fits old → KeepsLengths old ran → IfOk result (IsRun old ran) → IsBack (brought_back the_coder j (is_err result)) (put_back old ran) result
