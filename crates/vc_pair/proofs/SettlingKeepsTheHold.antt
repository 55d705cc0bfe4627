-- Settling leaves the buffers that the user holds: it moves one from ready to done at most. So a hold that fits goes
-- on fitting.
use Rattle.std.proofs.Common.{Bool, true, false, cond, List, [], ◌∷◌}
use Rattle.vc_base.specs.Buffers.{Buffer, lend_after, zero_stamp}
use Rattle.vc_base.specs.Limits.{last_flag}
use Rattle.vc_model.specs.Context.{Cause, drain, PhaseState, run, owe, last, stopped}
use Rattle.vc_queue.specs.Holds.{HoldState}
use Rattle.vc_queue.proofs.Keeping.{fits_lent, fits_retired}
use Rattle.vc_pair.specs.Pairs.{PairState, FitsBoth, owes_last, owing, last_given, given, pair_settled}

given_last : (p : PairState) (cause : Cause) (ready : List Buffer) (hold : HoldState) → FitsBoth p hold → FitsBoth (last_given p cause ready) hold
given_last p cause [] hold f = f
given_last p cause (b ∷ rest) hold f =
    (f.0, fits_retired (lend_after p.cap) 0 [] last_flag zero_stamp hold (fits_lent p.cap hold f.1))

given_fits : (p : PairState) (phase : PhaseState) (hold : HoldState) → FitsBoth p hold → FitsBoth (given p phase) hold
given_fits p run hold f = f
given_fits p (owe cause) hold f = given_last p cause p.cap.ready hold f
given_fits p (last cause) hold f = f
given_fits p (stopped cause) hold f = f

owing_fits : (p : PairState) (b : Bool) (hold : HoldState) → FitsBoth p hold → FitsBoth (cond b (record p { phase = owe drain }) p) hold
owing_fits p true hold f = f
owing_fits p false hold f = f

-- a hold that fits goes on fitting
pub fits_settled : (p : PairState) (hold : HoldState) → FitsBoth p hold → FitsBoth (pair_settled p) hold
fits_settled p hold f =
    given_fits (owing p) (owing p).phase hold (owing_fits p (owes_last p) hold f)
