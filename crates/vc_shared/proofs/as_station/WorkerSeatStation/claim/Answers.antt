use Rattle.vc_shared.proofs.PortsRemember.{free_of, claim_told}
use Rattle.vc_shared.proofs.as_station.WorkerSeatStation.claim.Goals as goal

pub claim-requires : goal.claim-requires
claim-requires g c =
    free_of c.args.self.now.device.slots c.args.self.now.worker c.args.self.now.seat.seen c.requires

pub returns-clause-claimed : goal.returns-clause-claimed
returns-clause-claimed g c =
    let t = c.claim.ensures in
    claim_told c.args.self.now c.claim.new.self c.claim.result c.known.ensures t.follows t.claimed t.over
