use Rattle.vc_core.specs.Jobs.{is_fault}
use Rattle.vc_shared.proofs.PortsRemember.{finish_told}
use Rattle.vc_shared.proofs.as_station.WorkerSeatStation.finish.Goals as goal

pub returns-clause-listed : goal.returns-clause-listed
returns-clause-listed g c =
    let b = c.finish.ensures in
    finish_told c.args.self.now c.finish.new.self (is_fault c.args.finished) c.known.ensures b.follows b.finished
