-- What the tests of this crate bring back of a job, in the place of an engine: a fault. It is a result that each run
-- can have.
use Rattle.std.proofs.Common.{ℕ, ◌≤◌, ◌<◌, ◌+◌, Option, Some, None, Err, arith}
use Rattle.vc_model.specs.Context.{Context}
use Rattle.vc_model.specs.Runs.{JobData}
use Rattle.vc_work.specs.declared.work.Work.{Work}
use Rattle.vc_work.specs.declared.engine.EngineFault.{EngineFault}
use Rattle.vc_work.specs.Runs.{Fits}
use Rattle.vc_context.specs.Works.{IsBackOf, IsWorkWith, RunsInWith}
use Rattle.vc_context.specs.Contexts.{IsCounted, HasRoom}

-- the engine gave up
pub fault_back : (c : Context) (o : Option JobData) (work : Work) (fault : EngineFault) → IsWorkWith o work → Fits work → RunsInWith c o → IsBackOf c work (Err fault)
fault_back c None work fault w f r = absurd w
fault_back c (Some j) work fault w f r =
    record {
      back = record { job = j; result = None };
      runs = r;
      is_back = record { source = record { used = w.source.used; stamp = w.source.stamp; size = w.source.size }; dest = w.dest; areas = w.areas; came_to = tt };
    }

-- what counted up to a number below a thousand can count on
pub has_room : (n : ℕ) (c : Context) → n < 1000 → IsCounted (n + 1) c → HasRoom c
has_room n c few h =
    record { out_queued = omega (arith, h.out_queued); cap_queued = omega (arith, h.cap_queued); out_done = omega (arith, h.out_done); cap_done = omega (arith, h.cap_done); raised = omega (arith, h.raised) }

pub one_more : (n : ℕ) (c : Context) → IsCounted (n + 1 + 1) c → IsCounted (n + 2) c
one_more n c h =
    record { out_queued = omega (arith, h.out_queued); cap_queued = omega (arith, h.cap_queued); out_done = omega (arith, h.out_done); cap_done = omega (arith, h.cap_done); raised = omega (arith, h.raised) }
