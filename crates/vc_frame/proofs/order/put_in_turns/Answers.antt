use Rattle.std.proofs.Common.{◌≤◌, ◌+◌, ◌/◌, ◌%◌, ◌∙◌, ◌∷◌, [], length, arith}
use Rattle.std.proofs.Math.ListN.{length-set}
use Rattle.std.proofs.lemmas.List.FromFn.{fill_by_all}
use Rattle.vc_defs.specs.Raw.{sample_at}
use Rattle.vc_frame.proofs.RawOrdersBothWays.{turns_more}
use Rattle.vc_frame.proofs.order.put_in_turns.Goals as goal

pub loop-k-preserved : goal.loop-k-preserved
loop-k-preserved c = record {
  size = length-set _ _ _ ∙ length-set _ _ _ ∙ c.loop-k.invariant.size;
  end = c.loop-k.invariant.end;
  put = λ luma. turns_more luma c.args.first.now c.args.second.now c.loop-k.to c.loop-k.k (omega (arith, c.loop-k.invariant.size, c.loop-k.invariant.end, c.requires.room, c.loop-k-test.true)) (c.loop-k.invariant.put luma);
}

pub returns : goal.returns
returns c luma =
    let last : length c.args.first.now ≤ c.loop-k.k = omega (arith, c.loop-k.invariant.end, c.loop-k-test.false) in
    fill_by_all (λ j. sample_at (luma ∷ c.args.first.now ∷ c.args.second.now ∷ []) (1 + j % 2) (j / 2)) c.loop-k.to (length c.args.to.now) 0 c.loop-k.invariant.size (λ j lt. c.loop-k.invariant.put luma j (omega (arith, last, c.requires.room)))
