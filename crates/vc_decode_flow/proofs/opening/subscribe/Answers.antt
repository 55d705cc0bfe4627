use Rattle.std.proofs.Common.{refl, inl}
use Rattle.vc_stream_laws.proofs.OpeningBeginsAStream.{subscribes_opened, subscriptions_are_done}
use Rattle.vc_flow.proofs.CallsHandOut.{bytes_stay}
use Rattle.vc_flow.proofs.Results.{on_ok}
use Rattle.vc_decode_flow.proofs.opening.subscribe.Goals as goal

pub call_granted-requires-clause-granted : goal.call_granted-requires-clause-granted
call_granted-requires-clause-granted g c = λ told new after d.
    let w = c.requires.opened in inl (subscriptions_are_done w.start _ _ w.limited _ _ _ _ c.requires.event w.opened d)

pub returns-clause-opened : goal.returns-clause-opened
returns-clause-opened g c = λ start limited w. on_ok _ (λ d. subscribes_opened start _ _ limited _ _ _ _ w d) c.call_granted.ensures.does

pub returns-clause-bytes : goal.returns-clause-bytes
returns-clause-bytes g c = bytes_stay _ _ _ _ _ _ c.call_granted.ensures.made.1 refl
