use Rattle.std.proofs.Common.{subst}
use Rattle.vc_shared.specs.Handles.{HandleState, IsHandle}
use Rattle.vc_shared.proofs.SeatsAfterTurns.{is_handle}
use Rattle.vc_shared.proofs.handle_seat.HandleSeat.known.Goals as goal

pub returns : goal.returns
returns c =
    let s = c.self.inside in
    subst (λ (v : HandleState). IsHandle v) c.self.view_is (is_handle s.seat s.sizes s.slot s.hold c.self.invariant)
