use Rattle.std.proofs.Common.{◌≡◌, sym, ap, ◌∙◌, subst}
use Rattle.vc_base.specs.Device.{DeviceEvent, call}
use Rattle.vc_base.specs.declared.Reply.TheVariants.{Blocked}
use Rattle.vc_turn.specs.Place.{Place}
use Rattle.vc_context.specs.Payloads.{handed_over, Moves}
use Rattle.vc_core.specs.Steps.{IsCall}
use Rattle.vc_model.specs.Devices.{slot_of}
use Rattle.vc_shared.specs.Histories.{StandsForLog}
use Rattle.vc_port.specs.Payloads.{IsCallOn}
use Rattle.vc_shared.specs.Following.{SeatGrows}
use Rattle.vc_shared.proofs.KnowledgeGrows.{adds_grow, looked_grows}
use Rattle.vc_shared.specs.Handles.{seat_of, handle_at, slot_events, IsSlotSeat}
use Rattle.vc_shared.specs.Calls.{found_for, AnswersCall, BlocksCall}
use Rattle.vc_shared.proofs.SeatsAfterTurns.{in_turn, ended, ended_is, looked_is, seen_after}
use Rattle.vc_shared.proofs.CallsByHandle.{call_made, call_blocked, fits_in_turn, few_steps}
use Rattle.vc_shared.proofs.calls.make_call.Goals as goal

pub call-reply-requires-clause-fits : goal.call-reply-requires-clause-fits
call-reply-requires-clause-fits g c =
    let e = c.enter-core.ensures in
    let t = in_turn _ _ c.args.seat.now c.enter-core.new.seat c.enter-core.result e.turn e.seen e.own e.core in
    fits_in_turn c.args.seat.now c.args.sizes c.args.slot c.enter-core.new.seat.seen c.enter-core.result c.args.hold.now c.requires.seat t

pub call-reply-requires-clause-counts : goal.call-reply-requires-clause-counts
call-reply-requires-clause-counts g c =
    let e = c.enter-core.ensures in
    let t = in_turn _ _ c.args.seat.now c.enter-core.new.seat c.enter-core.result e.turn e.seen e.own e.core in
    few_steps c.args.seat.now _ _ c.enter-core.new.seat.seen c.enter-core.result t e.limit

pub put-requires-clause-value : goal.put-requires-clause-value
put-requires-clause-value g c =
    let e = c.enter-core.ensures in
    let r = c.call-reply.ensures in
    let t = in_turn _ _ c.args.seat.now c.enter-core.new.seat c.enter-core.result e.turn e.seen e.own e.core in
    let is = subst (λ x. IsCall c.enter-core.result c.args.slot c.args.request.now c.args.hold.now x c.call-reply.new.self) c.in-Blocked.is r.step in
    let moves = subst (λ x. Moves (slot_of c.enter-core.result c.args.slot) c.args.request.now x c.args.hold.now c.call-reply.new.hold) c.in-Blocked.is r.payloads in
    (call_blocked c.args.seat.now c.args.sizes c.args.slot c.enter-core.new.seat.ticket c.enter-core.new.seat.seen c.enter-core.result c.call-reply.new.self c.args.request.now c.args.hold.now c.call-reply.new.hold c.requires.seat t is moves).put

pub returns-in-Blocked-clause-seat : goal.returns-in-Blocked-clause-seat
returns-in-Blocked-clause-seat g c =
    let e = c.enter-core.ensures in
    let r = c.call-reply.ensures in
    let t = in_turn _ _ c.args.seat.now c.enter-core.new.seat c.enter-core.result e.turn e.seen e.own e.core in
    let is = subst (λ x. IsCall c.enter-core.result c.args.slot c.args.request.now c.args.hold.now x c.call-reply.new.self) c.in-Blocked.is r.step in
    let moves = subst (λ x. Moves (slot_of c.enter-core.result c.args.slot) c.args.request.now x c.args.hold.now c.call-reply.new.hold) c.in-Blocked.is r.payloads in
    subst (λ q. IsSlotSeat q c.args.sizes c.args.slot c.call-reply.new.hold) (sym (looked_is c.args.seat.now c.enter-core.new.seat c.put.new.seat e.turn c.put.ensures))
    (call_blocked c.args.seat.now c.args.sizes c.args.slot c.enter-core.new.seat.ticket c.enter-core.new.seat.seen c.enter-core.result c.call-reply.new.self c.args.request.now c.args.hold.now c.call-reply.new.hold c.requires.seat t is moves).seat

pub returns-in-Blocked-clause-knows : goal.returns-in-Blocked-clause-knows
returns-in-Blocked-clause-knows g c =
    let e = c.enter-core.ensures in
    let a = c.args in
    let t = in_turn _ _ a.seat.now c.enter-core.new.seat c.enter-core.result e.turn e.seen e.own e.core in
    subst (λ q. SeatGrows (seat_of a.seat.now) (seat_of q)) (sym (looked_is a.seat.now c.enter-core.new.seat c.put.new.seat e.turn c.put.ensures)) (looked_grows a.seat.now c.enter-core.new.seat.seen c.enter-core.new.seat.ticket e.seen)

pub returns-in-Blocked-clause-solo : goal.returns-in-Blocked-clause-solo
returns-in-Blocked-clause-solo g c =
    let e = c.enter-core.ensures in
    let r = c.call-reply.ensures in
    let a = c.args in
    let t = in_turn _ _ a.seat.now c.enter-core.new.seat c.enter-core.result e.turn e.seen e.own e.core in
    let is = subst (λ x. IsCall c.enter-core.result a.slot a.request.now a.hold.now x c.call-reply.new.self) c.in-Blocked.is r.step in
    let moves = subst (λ x. Moves (slot_of c.enter-core.result a.slot) a.request.now x a.hold.now c.call-reply.new.hold) c.in-Blocked.is r.payloads in
    let made = call_blocked a.seat.now a.sizes a.slot c.enter-core.new.seat.ticket c.enter-core.new.seat.seen c.enter-core.result c.call-reply.new.self a.request.now a.hold.now c.call-reply.new.hold c.requires.seat t is moves in
    subst (λ x. IsCallOn (slot_events (handle_at a.seat.now a.sizes a.slot a.hold.now)) a.hold.now a.request.now x
    (slot_events (handle_at c.put.new.seat a.sizes a.slot c.call-reply.new.hold)) c.call-reply.new.hold) (sym c.in-Blocked.is) (subst
    (λ q. IsCallOn (slot_events (handle_at a.seat.now a.sizes a.slot a.hold.now)) a.hold.now a.request.now Blocked (slot_events (handle_at q a.sizes a.slot c.call-reply.new.hold)) c.call-reply.new.hold)
    (sym (looked_is a.seat.now c.enter-core.new.seat c.put.new.seat e.turn c.put.ensures)) made.solo)

pub returns-in-Blocked-clause-blocked : goal.returns-in-Blocked-clause-blocked
returns-in-Blocked-clause-blocked g c =
    let e = c.enter-core.ensures in
    let r = c.call-reply.ensures in
    let t = in_turn _ _ c.args.seat.now c.enter-core.new.seat c.enter-core.result e.turn e.seen e.own e.core in
    λ was. let is = subst (λ x. IsCall c.enter-core.result c.args.slot c.args.request.now c.args.hold.now x c.call-reply.new.self) was r.step in
    let moves = subst (λ x. Moves (slot_of c.enter-core.result c.args.slot) c.args.request.now x c.args.hold.now c.call-reply.new.hold) was r.payloads in
    subst
    (λ q. BlocksCall (handle_at c.args.seat.now c.args.sizes c.args.slot c.args.hold.now) (handle_at q c.args.sizes c.args.slot c.call-reply.new.hold) c.args.request.now)
    (sym (looked_is c.args.seat.now c.enter-core.new.seat c.put.new.seat e.turn c.put.ensures))
    (call_blocked c.args.seat.now c.args.sizes c.args.slot c.enter-core.new.seat.ticket c.enter-core.new.seat.seen c.enter-core.result c.call-reply.new.self c.args.request.now c.args.hold.now c.call-reply.new.hold c.requires.seat t is moves).blocks

pub put-requires-in_default : goal.put-requires-in_default
put-requires-in_default g c =
    let e = c.enter-core.ensures in
    let r = c.call-reply.ensures in
    let t = in_turn _ _ c.args.seat.now c.enter-core.new.seat c.enter-core.result e.turn e.seen e.own e.core in
    let made = call_made c.args.seat.now c.args.sizes c.args.slot c.enter-core.new.seat.ticket c.enter-core.new.seat.seen c.enter-core.result c.call-reply.new.self
    c.args.request.now c.call-reply.result c.args.hold.now c.call-reply.new.hold c.requires.seat t r.step r.payloads r.fit r.size r.crew r.steps c.in_default.not-Blocked in
    let noted = c.note_call.ensures.noted in
    let named : call c.args.slot c.args.request.now g.B.HandedOver.bytes c.found_memory-found.result ≡ call c.args.slot c.args.request.now
    (handed_over c.args.request.now c.args.hold.now) (found_for c.call-reply.result) = λ i. call c.args.slot c.args.request.now (c.requires.bytes i)
    (c.found_memory-found.ensures i) in
    record {
      own = ap (λ (x : Place). x.turn) noted ∙ (ap (λ (x : Place). x.turn) e.turn ∙ c.requires.own);
      turn = ap (λ (x : Place). x.serving) noted ∙ ap (λ (x : Place). x.serving) e.turn;
      value = subst (StandsForLog c.args.sizes.slots c.args.sizes.workers c.call-reply.new.self) (sym (seen_after c.args.seat.now c.enter-core.new.seat c.note_call.new.seat c.args.slot _ _ e.turn c.requires.seat.rest.numbered noted named)) made.put;
    }

pub returns-in_default : goal.returns-in_default
returns-in_default g c =
    let e = c.enter-core.ensures in
    let r = c.call-reply.ensures in
    let t = in_turn _ _ c.args.seat.now c.enter-core.new.seat c.enter-core.result e.turn e.seen e.own e.core in
    let made = call_made c.args.seat.now c.args.sizes c.args.slot c.enter-core.new.seat.ticket c.enter-core.new.seat.seen c.enter-core.result c.call-reply.new.self
    c.args.request.now c.call-reply.result c.args.hold.now c.call-reply.new.hold c.requires.seat t r.step r.payloads r.fit r.size r.crew r.steps c.in_default.not-Blocked in
    let named : call c.args.slot c.args.request.now g.B.HandedOver.bytes c.found_memory-found.result ≡ call c.args.slot c.args.request.now
    (handed_over c.args.request.now c.args.hold.now) (found_for c.call-reply.result) = λ i. call c.args.slot c.args.request.now (c.requires.bytes i)
    (c.found_memory-found.ensures i) in
    let is = ended_is c.args.seat.now c.enter-core.new.seat c.note_call.new.seat c.put-in_default.new.seat _ e.turn c.note_call.ensures.noted c.put-in_default.ensures in
    let same = sym (is ∙ ap (λ (x : DeviceEvent). ended c.args.seat.now c.enter-core.new.seat.seen c.enter-core.new.seat.ticket x) named) in
    record {
      lock = ap (λ (x : Place). x.turn) is;
      knows = subst (λ q. SeatGrows (seat_of c.args.seat.now) (seat_of q)) same (adds_grow (seat_of c.args.seat.now) _ _ made.answers.answered.adds);
      seat = subst (λ q. IsSlotSeat q c.args.sizes c.args.slot c.call-reply.new.hold) same made.seat;
      solo = subst (λ q. IsCallOn (slot_events (handle_at c.args.seat.now c.args.sizes c.args.slot c.args.hold.now)) c.args.hold.now c.args.request.now c.call-reply.result (slot_events (handle_at q c.args.sizes c.args.slot c.call-reply.new.hold)) c.call-reply.new.hold) same made.solo;
      blocked = λ was. absurd (c.in_default.not-Blocked was);
      answered = λ other. subst (λ q. AnswersCall (handle_at c.args.seat.now c.args.sizes c.args.slot c.args.hold.now) (handle_at q c.args.sizes c.args.slot c.call-reply.new.hold) c.args.request.now c.call-reply.result) same made.answers;
    }
