use Rattle.std.proofs.Common.{refl, sym, subst}
use Rattle.vc_base.specs.Device.{shut}
use Rattle.vc_shared.specs.Histories.{StandsForLog}
use Rattle.vc_shared.specs.Following.{HandleFollows}
use Rattle.vc_shared.proofs.KnowledgeGrows.{adds_grow}
use Rattle.vc_shared.specs.Handles.{HandleState, seat_of, handle_at, IsSlotSeat}
use Rattle.vc_shared.specs.Calls.{ShutsDevice}
use Rattle.vc_shared.proofs.SeatsAfterTurns.{in_turn, ended_is, seen_after, is_handle}
use Rattle.vc_shared.proofs.CallsByHandle.{few_steps}
use Rattle.vc_shared.proofs.ShutsByHandle.{shut_made}
use Rattle.vc_shared.proofs.handle_seat.HandleSeat.shut.Goals as goal

pub shut-requires : goal.shut-requires
shut-requires g c =
    let e = c.enter-core.ensures in
    let t = in_turn _ _ c.self.inside.seat c.enter-core.new.seat c.enter-core.result e.turn e.seen e.own e.core in
    record { counts = few_steps c.self.inside.seat _ _ c.enter-core.new.seat.seen c.enter-core.result t e.limit }

pub put-requires-clause-value : goal.put-requires-clause-value
put-requires-clause-value g c =
    let e = c.enter-core.ensures in
    let s = c.self.inside in
    let t = in_turn _ _ s.seat c.enter-core.new.seat c.enter-core.result e.turn e.seen e.own e.core in
    let made = shut_made s.seat s.sizes s.slot c.enter-core.new.seat.ticket c.enter-core.new.seat.seen c.enter-core.result c.shut.new.self s.hold c.self.invariant t c.shut.ensures in
    subst (StandsForLog s.sizes.slots s.sizes.workers c.shut.new.self) (sym (seen_after s.seat c.enter-core.new.seat c.note_shut.new.seat s.slot shut shut e.turn c.self.invariant.rest.numbered c.note_shut.ensures.noted refl)) made.put

pub invariant_of-self : goal.invariant_of-self
invariant_of-self g c =
    let e = c.enter-core.ensures in
    let s = c.self.inside in
    let t = in_turn _ _ s.seat c.enter-core.new.seat c.enter-core.result e.turn e.seen e.own e.core in
    let made = shut_made s.seat s.sizes s.slot c.enter-core.new.seat.ticket c.enter-core.new.seat.seen c.enter-core.result c.shut.new.self s.hold c.self.invariant t c.shut.ensures in
    subst (λ q. IsSlotSeat q s.sizes s.slot s.hold) (sym (ended_is s.seat c.enter-core.new.seat c.note_shut.new.seat c.put.new.seat shut e.turn c.note_shut.ensures.noted c.put.ensures)) made.seat

pub returns-clause-shut : goal.returns-clause-shut
returns-clause-shut g c =
    let e = c.enter-core.ensures in
    let s = c.self.inside in
    let t = in_turn _ _ s.seat c.enter-core.new.seat c.enter-core.result e.turn e.seen e.own e.core in
    let made = shut_made s.seat s.sizes s.slot c.enter-core.new.seat.ticket c.enter-core.new.seat.seen c.enter-core.result c.shut.new.self s.hold c.self.invariant t c.shut.ensures in
    subst (λ (v : HandleState). ShutsDevice v (handle_at c.put.new.seat s.sizes s.slot s.hold)) c.self.view_is
    (subst (λ q. ShutsDevice (handle_at s.seat s.sizes s.slot s.hold) (handle_at q s.sizes s.slot s.hold)) (sym (ended_is s.seat c.enter-core.new.seat c.note_shut.new.seat c.put.new.seat shut e.turn c.note_shut.ensures.noted c.put.ensures)) made.shuts)

pub returns-clause-ready : goal.returns-clause-ready
returns-clause-ready g c =
    let e = c.enter-core.ensures in
    let s = c.self.inside in
    let t = in_turn _ _ s.seat c.enter-core.new.seat c.enter-core.result e.turn e.seen e.own e.core in
    let made = shut_made s.seat s.sizes s.slot c.enter-core.new.seat.ticket c.enter-core.new.seat.seen c.enter-core.result c.shut.new.self s.hold c.self.invariant t c.shut.ensures in
    is_handle c.put.new.seat s.sizes s.slot s.hold (subst (λ q. IsSlotSeat q s.sizes s.slot s.hold) (sym (ended_is s.seat c.enter-core.new.seat c.note_shut.new.seat c.put.new.seat shut e.turn c.note_shut.ensures.noted c.put.ensures)) made.seat)

pub returns-clause-follows : goal.returns-clause-follows
returns-clause-follows g c =
    let e = c.enter-core.ensures in
    let s = c.self.inside in
    let t = in_turn _ _ s.seat c.enter-core.new.seat c.enter-core.result e.turn e.seen e.own e.core in
    let made = shut_made s.seat s.sizes s.slot c.enter-core.new.seat.ticket c.enter-core.new.seat.seen c.enter-core.result c.shut.new.self s.hold c.self.invariant t c.shut.ensures in
    let is = sym (ended_is s.seat c.enter-core.new.seat c.note_shut.new.seat c.put.new.seat shut e.turn c.note_shut.ensures.noted c.put.ensures) in
    let grows = adds_grow (seat_of s.seat) _ shut made.shuts.shut.adds in
    subst (λ (v : HandleState). HandleFollows v (handle_at c.put.new.seat s.sizes s.slot s.hold)) c.self.view_is (subst (λ q. HandleFollows (handle_at s.seat s.sizes s.slot s.hold) (handle_at q s.sizes s.slot s.hold)) is (record { device = refl; slot = refl; knows = grows }))
