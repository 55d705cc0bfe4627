use Rattle.std.proofs.Common.{◌≡◌, true, false}
use Rattle.vc_model.specs.Places.{has_error}
use Rattle.vc_flow.proofs.CallsHandOut.{hands_first}
use Rattle.vc_flow.proofs.FaultsShow.{goes_on_self, goes_on_both, call_goes_on, shows_before, source_shows}
use Rattle.vc_encode_flow.proofs.FaultsComeBack.{comes_back, bad_behind_taken}
use Rattle.vc_chain.proofs.collecting.take_fault.Goals as goal

pub loop-init : goal.loop-init
loop-init g c = (c.requires.ready, g.met.P.Port.follows_self _, c.requires.bad, goes_on_self _, λ start bytes h. h)

pub loop-preserved : goal.loop-preserved
loop-preserved g c =
    let i = c.loop.invariant in
    let o = c.in-Taken.ensures in
    let fine : has_error c.in-Taken.flags ≡ false = cc in (
      o.ready,
      g.met.P.Port.follows_on _ _ _ i.1 o.follows,
      bad_behind_taken _ _ _ _ _ _ fine (comes_back _ _ _ _ _ _ o.answers o.does i.2),
      goes_on_both _ _ _ i.3 (call_goes_on _ _ _ _ _ _ o.does),
      λ start bytes h. hands_first start bytes _ _ _ _ _ _ o.does (i.4 start bytes h),
    )

pub unreachable-requires : goal.unreachable-requires
unreachable-requires g c =
    let o = c.wait_on.ensures in
    let b = comes_back _ _ _ _ _ _ o.answers o.does c.loop.invariant.2 in c.in_default.not-Taken _ _ _ _ _ b.told_is

pub returns-then-is_failed-clause-shows : goal.returns-then-is_failed-clause-shows
returns-then-is_failed-clause-shows g c =
    let failed : has_error c.in-Taken.flags ≡ true = cc in
    shows_before _ _ _ c.loop.invariant.3 (source_shows _ _ _ _ _ _ _ _ _ _ failed c.in-Taken.ensures.does)

pub returns-then-is_failed-clause-goes_on : goal.returns-then-is_failed-clause-goes_on
returns-then-is_failed-clause-goes_on g c =
    goes_on_both _ _ _ c.loop.invariant.3 (call_goes_on _ _ _ _ _ _ c.wait_on.ensures.does)

pub returns-then-is_failed-clause-hands : goal.returns-then-is_failed-clause-hands
returns-then-is_failed-clause-hands g c = λ start bytes h.
    hands_first start bytes _ _ _ _ _ _ c.wait_on.ensures.does (c.loop.invariant.4 start bytes h)
