use Rattle.std.proofs.Common.{◌≡◌, ◌∙◌, sym, ap, ◌+◌, get_or, arith}
use Rattle.std.specs.Prelude.{sum_by}
use Rattle.std.specs.List.{range_with_len}
use Rattle.vc_plane.proofs.SumsByPlace.{one_more}
use Rattle.vc_plane.proofs.choosing.sum.Goals as goal

pub loop-k-preserved : goal.loop-k-preserved
loop-k-preserved c = record {
  sum = ap (λ n. n + c.sample-sum.result) c.loop-k.invariant.sum ∙ ap (λ n. sum_by (λ k. get_or c.args.block.now k 0) (range_with_len 0 c.loop-k.k) + n) c.sample-sum.ensures.value ∙ sym (one_more (λ k. get_or c.args.block.now k 0) c.loop-k.k);
  most = omega (arith, c.sample-sum.ensures.most, c.loop-k.invariant.most);
}

pub returns-clause-value : goal.returns-clause-value
returns-clause-value c =
    let e : c.loop-k.k ≡ 64 = omega arith in
    c.loop-k.invariant.sum ∙ ap (λ n. sum_by (λ k. get_or c.args.block.now k 0) (range_with_len 0 n)) e
