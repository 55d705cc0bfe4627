use Rattle.std.proofs.Common.{◌≤◌, ◌+◌, ◌*◌, length, get_or, arith}
use Rattle.std.proofs.lemmas.List.FromFn.{fill_by_all}
use Rattle.vc_frame.proofs.order.gather.Goals as goal

pub returns : goal.returns
returns c =
    let last : length c.args.to.now ≤ c.loop-k.k = omega (arith, c.loop-k.invariant.end, c.loop-k-test.false) in
    fill_by_all (λ k. get_or c.args.from.now (c.args.first + c.args.step * k) 0) c.loop-k.to (length c.args.to.now) 0 c.loop-k.invariant.size (λ j lt. c.loop-k.invariant.taken j (omega (arith, last)))
