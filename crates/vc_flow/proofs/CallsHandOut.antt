-- What a call of a flow does to the bytes that were handed out. No call takes back a byte, since a call on a port adds what it
-- hands out behind the others; and only DqBuf on CAPTURE adds any.
use Rattle.std.proofs.Common.{ℕ, ◌≡◌, List, [], ◌++◌, ap, ◌∙◌, append_assoc, append-nil}
use Rattle.vc_base.specs.declared.Call.{Call}
use Rattle.vc_base.specs.declared.Reply.{Reply}
use Rattle.vc_model.specs.Handed.{handed_by_call}
use Rattle.vc_model.specs.Solo.{SoloEvent}
use Rattle.vc_queue.specs.Holds.{HoldState}
use Rattle.vc_port.specs.Payloads.{bytes_out, IsCallOn}
use Rattle.vc_port.proofs.CallsHandOut.{calls_hand_out}
use Rattle.vc_flow.specs.Calls.{HandedFirst, KeepsHanded}

-- a call takes back nothing of what was handed out
pub hands_first : (start : List SoloEvent) (bytes : List ℕ) (old : List SoloEvent) (before : HoldState) (request : Call)
    (told : Reply) (new : List SoloEvent) (after : HoldState) →
    IsCallOn old before request told new after → HandedFirst start bytes old → HandedFirst start bytes new
hands_first start bytes old before request told new after c h =
    let more = handed_by_call request told c.handed in
    let behind = append_assoc (bytes_out start) (bytes ++ h.0) more in
    let last = ap (λ (l : List ℕ). bytes_out start ++ l) (append_assoc bytes h.0 more) in
    (h.0 ++ more, (calls_hand_out old new before after request told c).bytes ∙ (ap (λ (l : List ℕ). l ++ more) h.1 ∙ (behind ∙ last)))

pub call_keeps : (old : List SoloEvent) (before : HoldState) (request : Call) (told : Reply) (new : List SoloEvent)
    (after : HoldState) → IsCallOn old before request told new after → KeepsHanded old new
call_keeps old before request told new after c start bytes h =
    hands_first start bytes old before request told new after c h

-- a call that hands out nothing
pub bytes_stay : (old new : List SoloEvent) (before after : HoldState) (request : Call) (told : Reply) →
    (c : IsCallOn old before request told new after) → handed_by_call request told c.handed ≡ [] →
    bytes_out new ≡ bytes_out old
bytes_stay old new before after request told c e =
    (calls_hand_out old new before after request told c).bytes ∙ (ap (λ (l : List ℕ). bytes_out old ++ l) e ∙ append-nil (bytes_out old))

-- what was handed out stays so
pub first_stays : (start : List SoloEvent) (bytes : List ℕ) (old new : List SoloEvent) → bytes_out new ≡ bytes_out old →
    HandedFirst start bytes old → HandedFirst start bytes new
first_stays start bytes old new e h = (h.0, e ∙ h.1)
