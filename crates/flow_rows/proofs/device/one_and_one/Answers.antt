use Rattle.vc_shared.specs.Handles.{device_at}
use Rattle.flow_rows.proofs.device.one_and_one.Goals as goal

pub returns-clause-handle : goal.returns-clause-handle
returns-clause-handle g c =
    let made = rw c.expect-shared.ensures at c.make.ensures.handles in
    rw c.expect-handle.ensures at c.only_handle.ensures (device_at c.expect-shared.result.0 1 1) made

pub returns-clause-worker : goal.returns-clause-worker
returns-clause-worker g c =
    let made = rw c.expect-shared.ensures at c.make.ensures.workers in
    rw c.expect-worker.ensures at c.only_worker.ensures (device_at c.expect-shared.result.0 1 1) made
