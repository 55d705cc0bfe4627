use Rattle.std.proofs.Common.{◌≤◌, ◌∷◌, [], length, arith}
use Rattle.std.proofs.lemmas.List.FromFn.{fill_by_all}
use Rattle.vc_defs.specs.Raw.{packed_sample}
use Rattle.vc_frame.proofs.order.pack.Goals as goal

pub returns : goal.returns
returns c =
    let last : length c.args.first.now ≤ c.loop-k.k = omega (arith, c.loop-k.invariant.end, c.loop-k-test.false) in
    fill_by_all (packed_sample (c.args.luma.now ∷ c.args.first.now ∷ c.args.second.now ∷ [])) c.loop-k.to (length c.args.to.now) 0 c.loop-k.invariant.size (λ j lt. c.loop-k.invariant.put j (omega (arith, last, c.requires.room)))
