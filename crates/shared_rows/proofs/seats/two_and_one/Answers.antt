use Rattle.vc_shared.specs.Handles.{device_at}
use Rattle.shared_rows.proofs.seats.two_and_one.Goals as goal

pub returns-clause-first : goal.returns-clause-first
returns-clause-first g c =
    let made = rw c.expect-shared.ensures at c.make.ensures.handles in
    (rw c.expect-first.ensures at c.both.ensures (device_at c.expect-shared.result.0 2 1) made).0

pub returns-clause-second : goal.returns-clause-second
returns-clause-second g c =
    let made = rw c.expect-shared.ensures at c.make.ensures.handles in
    (rw c.expect-first.ensures at c.both.ensures (device_at c.expect-shared.result.0 2 1) made).1

pub returns-clause-worker : goal.returns-clause-worker
returns-clause-worker g c =
    let made = rw c.expect-shared.ensures at c.make.ensures.workers in
    rw c.expect-seat.ensures at c.only.ensures (device_at c.expect-shared.result.0 2 1) made
