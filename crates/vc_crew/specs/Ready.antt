-- What holds of a crew, of a caller and of a team when their work begins.
use Rattle.std.specs.Prelude.{ℕ, ◌≡◌, ◌≤◌, [], None, All, vec_len, vec_capacity}
use Rattle.vc_shared.specs.Making.{AreNewHandles, AreNewWorkers}
use Rattle.vc_crew.specs.declared.caller.Caller.{Caller}
use Rattle.vc_crew.specs.declared.crew.Crew.{Crew}
use Rattle.vc_crew.specs.declared.site.Site.{Site}
use Rattle.vc_crew.specs.declared.team.Team.{Team}
use Rattle.vc_crew.specs.Flowing.{MayFlow}
use Rattle.vc_crew.specs.Sites.{device_of}

-- The workers are new ones of the device. Each has an engine, and a flag for a start of its thread that is refused.
pub record IsCrewReady {E : Type 0} (site : Site) (crew : Crew E) : Type 0 where
  pub new : AreNewWorkers (device_of site) (vec_len crew.jobs) crew.jobs.items
  pub engines : vec_len crew.jobs ≤ vec_len crew.engines
  pub refused : vec_len crew.jobs ≤ vec_len site.refused_workers

-- The caller may run its flows and has room for what becomes of them. It ran none yet, and has no help.
pub record IsCallerReady {E F End : Type 0} (may : F → Type 0) (site : Site) (caller : Caller E F End) : Type 0 where
  pub may_flow : All (λ c. MayFlow may (device_of site) c.handle c.flow) caller.seated_flows.items
  pub none : caller.done.items ≡ []
  pub room : vec_len caller.seated_flows ≤ vec_capacity caller.done
  pub help : caller.help ≡ None

-- The caller has no flow and no help, and room for so many flows.
pub record IsCallerFree {E F End : Type 0} (number : ℕ) (caller : Caller E F End) : Type 0 where
  pub none_seated : caller.seated_flows.items ≡ []
  pub seats : number ≤ vec_capacity caller.seated_flows
  pub none_done : caller.done.items ≡ []
  pub room : number ≤ vec_capacity caller.done
  pub help : caller.help ≡ None

-- The flows may be run. Each has the seat of a new slot of the device, and a flag for a start of its thread that is refused;
-- none has ended, and there is room for their ends.
pub record IsTeamReady {F End : Type 0} (may : F → Type 0) (site : Site) (team : Team F End) : Type 0 where
  pub handles : AreNewHandles (device_of site) (vec_len team.handles) team.handles.items
  pub flows : vec_len team.handles ≡ vec_len team.flows
  pub may_flow : All (λ f. may f) team.flows.items
  pub none : team.ends.items ≡ []
  pub room : vec_len team.flows ≤ vec_capacity team.ends
  pub refused : vec_len team.flows ≤ vec_len site.refused_flows
