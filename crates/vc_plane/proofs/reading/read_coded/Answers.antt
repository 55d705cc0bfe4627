use Rattle.std.proofs.Common.{◌≡◌, ◌∙◌, refl, subst, ℕ, arith, ◌+◌, ◌-◌, ◌≤◌, [], ◌++◌, replicate, drop}
use Rattle.std.specs.declared.option.Option.TheVariants.{Some, None}
use Rattle.vc_defs.specs.Planes.{block_count, blocks_from, decoded_plane}
use Rattle.vc_coder.specs.Blocks.{block_with}
use Rattle.vc_plane.specs.Entries.{IsEntryRead}
use Rattle.vc_plane.proofs.BlocksAreShownInTurn.{AreDecoded, none_decoded, more_decoded, all_decoded}
use Rattle.vc_plane.proofs.EntriesReadSoFar.{none_parsed, more_parsed, not_parsed, all_parsed, plane_of_blocks, no_plane}
use Rattle.vc_rlc.proofs.ErrorsArePassedOn.{on_err}
use Rattle.vc_plane.proofs.reading.read_coded.Goals as goal

pub loop-next-init : goal.loop-next-init
loop-next-init g c = record {
  inside = (omega arith, c.requires.place);
  size = c.requires.size;
  most = omega arith;
  read = record {
    blocks = [];
    parsed = none_parsed c.args.body.now c.args.at c.args.shape.now.inter c.block_count-count.result;
    decoded = none_decoded [] c.args.reference.now c.args.shape.now.width c.args.shape.now.height;
  };
}

pub loop-next-preserved : goal.loop-next-preserved
loop-next-preserved g c =
    let entry : IsEntryRead c.args.body.now c.loop-next.end c.args.shape.now.inter (c.block_count-count.result - c.loop-next.next) c.in_ok-entry.entry.inter c.in_ok-entry.entry.repeats c.read_entry.new.q c.in_ok-entry.entry.end = c.in_ok-entry.ensures.ok in
    let so_far = c.loop-next.invariant.read in
    let sum : c.loop-next.next + c.in_ok-entry.entry.repeats + 1 ≡ c.loop-next.next + (c.in_ok-entry.entry.repeats + 1) = omega arith in
    let most : c.loop-next.next + c.in_ok-entry.entry.repeats + 1 ≤ c.block_count-count.result = omega (arith, entry.fits) in
    record {
      inside = (omega (arith, entry.inside.0), entry.inside.1);
      size = c.show_blocks.auto.reference ∙ c.loop-next.invariant.size;
      most = most;
      read = record {
        blocks = so_far.blocks ++ replicate (c.in_ok-entry.entry.repeats + 1) (block_with c.in_ok-entry.entry.inter c.read_entry.new.q);
        parsed = more_parsed c.args.body.now c.args.at c.args.shape.now.inter c.block_count-count.result c.loop-next.next c.loop-next.end so_far.blocks c.in_ok-entry.entry.inter c.in_ok-entry.entry.repeats
            (c.loop-next.next + c.in_ok-entry.entry.repeats + 1) c.in_ok-entry.entry.end c.read_entry.new.q c.loop-next-test.true refl so_far.parsed entry;
        decoded = more_decoded so_far.blocks c.args.reference.now c.loop-next.reference c.show_blocks.new.reference c.args.shape.now.width c.args.shape.now.height c.loop-next.next (c.in_ok-entry.entry.repeats + 1)
            (c.loop-next.next + c.in_ok-entry.entry.repeats + 1) (block_with c.in_ok-entry.entry.inter c.read_entry.new.q) c.requires.some.0 c.requires.some.1 (omega (arith, most, c.block_count-count.ensures)) sum so_far.parsed.many
            so_far.decoded c.show_blocks.ensures;
      };
    }

pub returns-in_err-entry-clause-damaged : goal.returns-in_err-entry-clause-damaged
returns-in_err-entry-clause-damaged g c =
    let so_far = c.loop-next.invariant.read in
    let none : blocks_from c.block_count-count.result c.args.shape.now.inter c.block_count-count.result (drop c.args.at c.args.body.now) ≡ None =
    not_parsed c.args.body.now c.args.at c.args.shape.now.inter c.block_count-count.result c.loop-next.next c.loop-next.end so_far.blocks c.loop-next-test.true so_far.parsed c.in_err-entry.ensures.damaged in
    on_err c.from_residual.result c.from_residual.ensures.0
    (no_plane c.args.body.now c.args.at c.args.shape.now.inter c.args.reference.now c.args.shape.now.width c.args.shape.now.height
    (subst (λ (n : ℕ). blocks_from n c.args.shape.now.inter n (drop c.args.at c.args.body.now) ≡ None) c.block_count-count.ensures none))

pub returns-clause-ok : goal.returns-clause-ok
returns-clause-ok g c =
    let so_far = c.loop-next.invariant.read in
    let last : c.loop-next.next ≡ block_count c.args.shape.now.width c.args.shape.now.height = omega (arith, c.block_count-count.ensures, c.loop-next.invariant.most, c.loop-next-test.false) in
    let parsed : blocks_from c.block_count-count.result c.args.shape.now.inter c.block_count-count.result (drop c.args.at c.args.body.now) ≡ Some (so_far.blocks, drop c.loop-next.end c.args.body.now) =
    all_parsed c.args.body.now c.args.at c.args.shape.now.inter c.block_count-count.result c.loop-next.next c.loop-next.end so_far.blocks c.loop-next-test.false so_far.parsed in
    let decoded : c.loop-next.reference ≡ decoded_plane so_far.blocks c.args.reference.now c.args.shape.now.width c.args.shape.now.height =
    all_decoded so_far.blocks c.args.reference.now c.loop-next.reference c.args.shape.now.width c.args.shape.now.height c.requires.some.0 c.loop-next.invariant.size
    (subst (λ (n : ℕ). AreDecoded so_far.blocks c.args.reference.now c.loop-next.reference c.args.shape.now.width c.args.shape.now.height n) last so_far.decoded) in
    record {
      inside = c.loop-next.invariant.inside;
      is = plane_of_blocks c.args.body.now c.args.at c.loop-next.end c.args.shape.now.inter c.args.reference.now c.loop-next.reference c.args.shape.now.width c.args.shape.now.height so_far.blocks
          (subst (λ (n : ℕ). blocks_from n c.args.shape.now.inter n (drop c.args.at c.args.body.now) ≡ Some (so_far.blocks, drop c.loop-next.end c.args.body.now)) c.block_count-count.ensures parsed) decoded;
    }
