-- What a call does to the payloads that the user holds, by the slot as the device has it. It moves payloads by the queues of the
-- slot, which core and device have in common.
use Rattle.std.proofs.Common.{◌≡◌, Option, Some, None, refl, subst}
use Rattle.vc_base.specs.declared.Side.{Side}
use Rattle.vc_base.specs.declared.Side.TheVariants.{Out, Cap}
use Rattle.vc_base.specs.declared.Call.{Call}
use Rattle.vc_base.specs.declared.Call.TheVariants.{DqBuf, StreamOff}
use Rattle.vc_base.specs.declared.Reply.{Reply}
use Rattle.vc_base.specs.declared.Reply.TheVariants.{Done, Taken, Blocked}
use Rattle.vc_queue.specs.Holds.{HoldState}
use Rattle.vc_queue.specs.Releasing.{AllGoToUser}
use Rattle.vc_model.specs.Context.{Context, Slot, Running}
use Rattle.vc_model.specs.Standing.{core_slot, without_data_of}
use Rattle.vc_context.specs.Payloads.{Moves, HandsOut, handed_out, given_back}

out_of : (c : Context) (o : Option Running) (side : Side) → handed_out (Some (without_data_of c o)) side ≡ handed_out (Some c) side
out_of c None side = refl
out_of c (Some r) Out = refl
out_of c (Some r) Cap = refl

same_out : (s : Slot) (side : Side) → handed_out (core_slot s) side ≡ handed_out s side
same_out None side = refl
same_out (Some c) side = out_of c c.running side

back_of : (c : Context) (o : Option Running) (side : Side) → given_back (Some (without_data_of c o)) side ≡ given_back (Some c) side
back_of c None side = refl
back_of c (Some r) Out = refl
back_of c (Some r) Cap = refl

same_back : (s : Slot) (side : Side) → given_back (core_slot s) side ≡ given_back s side
same_back None side = refl
same_back (Some c) side = back_of c c.running side

-- the payloads move as the slot of the device says
pub moves_in_device : (s : Slot) (request : Call) (reply : Reply) (old new : HoldState) → Moves (core_slot s) request reply old new → Moves s request reply old new
moves_in_device s (DqBuf side block) (Taken index used flags seq stamp) old new m =
    subst (λ l. HandsOut side index used flags l old new) (same_out s side) m
moves_in_device s (StreamOff side) Done old new m = subst (λ l. AllGoToUser side l old new) (same_back s side) m
moves_in_device s request reply old new m = m

-- Blocked leaves them
pub blocked_moves_none : (s : Slot) (request : Call) (old new : HoldState) → Moves s request Blocked old new → new ≡ old
blocked_moves_none s (DqBuf side block) old new m = m
blocked_moves_none s request old new m = m
