-- The payloads that the user holds fit both queues when the resolution changes, since a change moves no payload.
use Rattle.std.proofs.Common.{Bool, true, false, cond}
use Rattle.vc_pair.specs.Pairs.{PairState, FitsBoth, pair_changed}
use Rattle.vc_queue.specs.Holds.{HoldState}

either_fits : (b : Bool) (p q : PairState) (hold : HoldState) → FitsBoth p hold → FitsBoth q hold → FitsBoth (cond b p q) hold
either_fits true p q hold f g = f
either_fits false p q hold f g = g

pub changed_fits : (p : PairState) (hold : HoldState) → FitsBoth p hold → FitsBoth (pair_changed p) hold
changed_fits p hold f = either_fits p.cap.streams _ p hold (f.0, f.1) f
