-- What a context requires of its user, and what its calls, its claims and the ends of its jobs do.
use Rattle.std.specs.Prelude.{◌≡◌, true, false, Some, Result}
use Rattle.vc_base.specs.declared.Call.{Call}
use Rattle.vc_base.specs.declared.Errno.TheVariants.{NoMem}
use Rattle.vc_base.specs.declared.Reply.{Reply}
use Rattle.vc_base.specs.declared.Reply.TheVariants.{Refused}
use Rattle.vc_model.specs.Context.{Context}
use Rattle.vc_model.specs.Answer.{Answer}
use Rattle.vc_model.specs.Core.{BroughtBack, finished_context, claimed_in}
use Rattle.vc_model.specs.Runs.{is_claimable, after_claim}
use Rattle.vc_model.specs.Standing.{without_job}
use Rattle.vc_queue.specs.Holds.{HoldState}
use Rattle.vc_work.specs.Runs.{Fits}
use Rattle.vc_work.specs.declared.work.Work.{Work}
use Rattle.vc_work.specs.declared.engine.Outcome.{Outcome}
use Rattle.vc_work.specs.declared.engine.EngineFault.{EngineFault}
use Rattle.vc_context.specs.Contexts.{HasRoom, Gives, IsKept, IsStep}
use Rattle.vc_context.specs.Payloads.{FitsContext, Moves, AreNewZeros, AsksForBuffers}
use Rattle.vc_context.specs.Works.{IsWorkWith, RunsIn, RunsInWith, IsBack, IsBackOf}

-- The context can serve: it is kept, the payloads that the user holds fit it, and no number of it is at its end.
pub record CanServe (c : Context) (hold : HoldState) : Type 0 where
  pub kept : IsKept c
  pub fits : FitsContext c hold
  pub room : HasRoom c

-- The call with this reply was carried out: it is a step, and moved the payloads of the user as it has to. What the
-- user then holds fits the context, and new buffers hold zeros. Memory is missed only where it was asked for.
pub record CarriesOut (request : Call) (told : Reply) (old new : Context) (before after : HoldState) : Type 0 where
  pub step : IsStep old new
  pub moves : Moves (Some old) request told before after
  pub fit : FitsContext new after
  pub zeros : AreNewZeros old request told after
  pub asked : told ≡ Refused NoMem → AsksForBuffers request

-- The context gave the answer, which is a step, and the payloads that the user holds fit it as before.
pub record Serves (answer : Answer) (told : Reply) (old new : Context) : Type 0 where
  pub gives : Gives answer told new
  pub step : IsStep old new
  pub holds : (hold : HoldState) → FitsContext old hold → FitsContext new hold

-- A job can be claimed of the context, which is kept.
pub record CanClaim (c : Context) : Type 0 where
  pub kept : IsKept c
  pub due : is_claimable (Some c) ≡ true

-- The job was claimed: the work is its work and fits, the job runs, and none can be claimed beside it. The payloads that
-- the user holds fit the context as before.
pub record IsClaimed (old new : Context) (given : Work) : Type 0 where
  pub after : new ≡ without_job (after_claim old)
  pub step : IsStep old new
  pub work : IsWorkWith (claimed_in (Some old)) given
  pub fits : Fits given
  pub taken : is_claimable (Some new) ≡ false
  pub runs : RunsInWith new (claimed_in (Some old))
  pub holds : (hold : HoldState) → FitsContext old hold → FitsContext new hold

-- The running job can end with what is brought back: it is of that job, and no number of the context is at its end.
pub record CanFinish (c : Context) (given : Work) (outcome : Result Outcome EngineFault) : Type 0 where
  pub kept : IsKept c
  pub room : HasRoom c
  pub back : IsBackOf c given outcome

-- The job ended with what was brought back, and the payloads that the user holds fit the context as before.
pub record IsFinished (old new : Context) (given : Work) (outcome : Result Outcome EngineFault) : Type 0 where
  pub after : (back : BroughtBack) → RunsIn old back.job → IsBack back given outcome → new ≡ finished_context old back
  pub holds : (hold : HoldState) → FitsContext old hold → FitsContext new hold
  pub step : IsStep old new
