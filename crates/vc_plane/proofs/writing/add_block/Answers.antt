use Rattle.std.proofs.Common.{◌≡◌, sym, refl, arith}
use Rattle.std.specs.Prelude.{true, nat_lt}
use Rattle.std.proofs.lemmas.Bool.{and_parts}
use Rattle.std.proofs.lemmas.Bool.Decides.{nat_tests}
use Rattle.vc_defs.specs.Planes.{same_block}
use Rattle.vc_rlc.proofs.ErrorsArePassedOn.{on_err}
use Rattle.vc_coder.specs.Blocks.{block_with}
use Rattle.vc_plane.proofs.WritingByWhatIsLeft.{same_block_is, repeated_left, begun_left, begun_full}
use Rattle.vc_plane.proofs.writing.add_block.Goals as goal

pub returns-then-may_repeat-clause-ok : goal.returns-then-may_repeat-clause-ok
returns-then-may_repeat-clause-ok c =
    let both = and_parts (same_block (block_with c.args.pending.now.inter c.args.pending.now.values) (block_with c.args.inter c.args.q.now)) (nat_lt c.args.pending.now.repeats 4095) (sym c.if-may_repeat.ensures) in
    let fewer : nat_lt c.args.pending.now.repeats 4095 ≡ true = both.1 in
    record {
      inside = c.requires.place;
      repeats = grind (arith, nat_tests);
      block = same_block_is (block_with c.args.pending.now.inter c.args.pending.now.values) (block_with c.args.inter c.args.q.now) both.0;
      left = λ blocks. repeated_left c.args.out.now c.args.pending.now.end (block_with c.args.pending.now.inter c.args.pending.now.values) (block_with c.args.inter c.args.q.now) c.args.pending.now.repeats blocks (sym c.if-may_repeat.ensures);
    }

pub returns-clause-ok : goal.returns-clause-ok
returns-clause-ok c = record {
  inside = omega (arith, c.in_ok-end.ensures.1, c.put_entry.auto.out);
  repeats = omega arith;
  block = refl;
  left = λ blocks. begun_left c.args.out.now c.put_entry.new.out c.args.pending.now.end c.in_ok-end.end (block_with c.args.pending.now.inter c.args.pending.now.values) (block_with c.args.inter c.args.q.now) c.args.pending.now.repeats blocks (sym c.if-may_repeat.ensures) c.in_ok-end.ensures;
}

pub returns-in_err-end-clause-full : goal.returns-in_err-end-clause-full
returns-in_err-end-clause-full c = on_err c.from_residual.result c.from_residual.ensures.0
    (λ blocks. begun_full c.args.out.now c.put_entry.new.out c.args.pending.now.end
    (block_with c.args.pending.now.inter c.args.pending.now.values) (block_with c.args.inter c.args.q.now) c.args.pending.now.repeats blocks c.in_err-end.field-0.0
    (sym c.if-may_repeat.ensures) c.in_err-end.ensures)
