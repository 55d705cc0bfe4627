use Rattle.std.proofs.Common.{rules}
use Rattle.vc_chain.proofs.segment.Segment.room_beside.Goals as goal

pub returns-clause-engine : goal.returns-clause-engine
returns-clause-engine g c = λ start format rates pictures first w e.
    let h = c.room.ensures.engine start format rates pictures first w e in search rules
