use Rattle.std.proofs.Common.{◌≡◌, map, vec_len}
use Rattle.std.specs.List.{range_with_len}
use Rattle.vc_top.specs.Shares.{flow_for}
use Rattle.vc_top.proofs.share.make_flows.Given as goal

abbrev pub invariant-loop-context : goal.invariant-loop-context
invariant-loop-context l = (l.flows.items ≡ map (flow_for l.options) (range_with_len 0 l.context)) × (vec_len l.flows ≡ l.context)
