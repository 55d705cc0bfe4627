use Rattle.std.proofs.Common.{◌≡◌, ℕ, ◌++◌, ◌∷◌, [], map, sym, ◌∙◌, ap, arith, rules}
use Rattle.std.specs.List.{range_with_len}
use Rattle.std.proofs.lemmas.List.FromFn.{map-range_with_len_more}
use Rattle.vc_top.specs.Shares.{flow_for}
use Rattle.vc_top.proofs.share.make_flows.Goals as goal

pub loop-context-init : goal.loop-context-init
loop-context-init c = (c.new-flows.ensures.items, c.new-flows.ensures.len)

pub loop-context-preserved : goal.loop-context-preserved
loop-context-preserved c =
    let here : c.push.new.self.items ≡ c.loop-context.flows.items ++ flow_for c.args.options.now c.loop-context.context ∷ [] = search rules in (
      here ∙ ap (λ z. z ++ flow_for c.args.options.now c.loop-context.context ∷ []) c.loop-context.invariant.0 ∙ sym (map-range_with_len_more (flow_for c.args.options.now) 0 c.loop-context.context c.loop-context.context (omega arith)),
      search rules,
    )

pub returns-clause-flows : goal.returns-clause-flows
returns-clause-flows c =
    let end : c.loop-context.context ≡ c.args.options.now.contexts = omega (arith, c.loop-context-test.false, c.loop-context.auto.context-end) in
    c.loop-context.invariant.0 ∙ ap (λ (n : ℕ). map (flow_for c.args.options.now) (range_with_len 0 n)) end
