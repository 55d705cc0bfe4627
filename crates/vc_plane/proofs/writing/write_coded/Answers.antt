use Rattle.std.proofs.Common.{refl, ◌≡◌, ◌∙◌, subst, ℕ, ◌+◌, ◌<◌, [], arith}
use Rattle.vc_defs.specs.Planes.{block_count, block_of, coded_block, coded_blocks, canon_plane, decoded_plane}
use Rattle.vc_coder.specs.Blocks.{block_with}
use Rattle.vc_plane.specs.Samples.{AreShown}
use Rattle.vc_plane.proofs.BlocksAreShownInTurn.{AreDecoded, none_decoded, all_decoded}
use Rattle.vc_plane.proofs.BlocksAreCodedInTurn.{length-coded_blocks, block_coded, first_coded, more_coded, not_coded, all_coded, count_some, on_ok}
use Rattle.vc_rlc.proofs.WordsAreWrittenInTurn.{err_is}
use Rattle.vc_plane.proofs.writing.write_coded.Goals as goal

pub loop-number-init : goal.loop-number-init
loop-number-init g c =
    let some : 0 < block_count c.args.shape.now.width c.args.shape.now.height = count_some c.args.shape.now.width c.args.shape.now.height c.requires.some.0 c.requires.some.1 in
    record {
      size = c.show_block.auto.reference ∙ c.requires.size;
      end = c.block_count-number-end.ensures;
      coded = first_coded (coded_blocks c.args.shape.now.inter c.args.shape.now.qp c.args.plane.now c.args.reference.now c.args.shape.now.width c.args.shape.now.height) c.args.reference.now c.show_block.new.reference c.args.shape.now.width c.args.shape.now.height c.args.out.now
          c.code_block-inter.result c.code_block-inter.new.q c.requires.some.0 c.requires.some.1 some
          (omega (arith, some, length-coded_blocks c.args.shape.now.inter c.args.shape.now.qp c.args.plane.now c.args.reference.now c.args.shape.now.width c.args.shape.now.height)) c.code_block-inter.ensures.range
          (block_coded c.args.shape.now.inter c.args.shape.now.qp c.args.plane.now c.args.reference.now c.args.reference.now c.args.shape.now.width c.args.shape.now.height 0 (block_with c.code_block-inter.result c.code_block-inter.new.q) [] c.requires.some.0 c.requires.some.1 some
          (none_decoded [] c.args.reference.now c.args.shape.now.width c.args.shape.now.height) (subst (λ (n : ℕ). block_with c.code_block-inter.result c.code_block-inter.new.q ≡ coded_block c.args.shape.now.inter c.args.shape.now.qp
          (block_of c.args.plane.now c.args.shape.now.width c.args.shape.now.height n) (block_of c.args.reference.now c.args.shape.now.width c.args.shape.now.height n)) c.spot_of-spot.ensures.number c.code_block-inter.ensures.coded))
          (subst (λ (n : ℕ). AreShown c.args.reference.now c.show_block.new.reference c.args.shape.now.width c.args.shape.now.height n (n + 1) (block_with c.code_block-inter.result c.code_block-inter.new.q)) c.spot_of-spot.ensures.number c.show_block.ensures);
    }

pub add_block-requires-clause-place : goal.add_block-requires-clause-place
add_block-requires-clause-place g c = c.loop-number.invariant.coded.inside

pub add_block-requires-clause-values : goal.add_block-requires-clause-values
add_block-requires-clause-values g c = c.loop-number.invariant.coded.values

pub add_block-requires-clause-repeats : goal.add_block-requires-clause-repeats
add_block-requires-clause-repeats g c = c.loop-number.invariant.coded.repeats

pub loop-number-preserved : goal.loop-number-preserved
loop-number-preserved g c =
    let inside : c.loop-number.number < block_count c.args.shape.now.width c.args.shape.now.height = omega (arith, c.loop-number.invariant.end, c.loop-number-test.true) in
    let so_far = c.loop-number.invariant.coded in
    record {
      size = c.show_block-in-loop-number.auto.reference ∙ c.loop-number.invariant.size;
      end = c.loop-number.invariant.end;
      coded = more_coded (coded_blocks c.args.shape.now.inter c.args.shape.now.qp c.args.plane.now c.args.reference.now c.args.shape.now.width c.args.shape.now.height) c.args.reference.now c.loop-number.reference c.show_block-in-loop-number.new.reference c.args.shape.now.width
          c.args.shape.now.height c.loop-number.number c.args.out.now c.loop-number.out c.add_block.new.out c.loop-number.pending c.add_block.new.pending
          c.code_block-inter-in-loop-number.result c.code_block-inter-in-loop-number.new.q c.requires.some.0 c.requires.some.1 inside
          (omega (arith, inside, length-coded_blocks c.args.shape.now.inter c.args.shape.now.qp c.args.plane.now c.args.reference.now c.args.shape.now.width c.args.shape.now.height)) c.code_block-inter-in-loop-number.ensures.range
          (block_coded c.args.shape.now.inter c.args.shape.now.qp c.args.plane.now c.args.reference.now c.loop-number.reference c.args.shape.now.width c.args.shape.now.height c.loop-number.number (block_with c.code_block-inter-in-loop-number.result c.code_block-inter-in-loop-number.new.q)
          (coded_blocks c.args.shape.now.inter c.args.shape.now.qp c.args.plane.now c.args.reference.now c.args.shape.now.width c.args.shape.now.height) c.requires.some.0 c.requires.some.1 inside so_far.decoded
          (subst (λ (n : ℕ). block_with c.code_block-inter-in-loop-number.result c.code_block-inter-in-loop-number.new.q ≡ coded_block c.args.shape.now.inter c.args.shape.now.qp (block_of c.args.plane.now c.args.shape.now.width c.args.shape.now.height n)
          (block_of c.loop-number.reference c.args.shape.now.width c.args.shape.now.height n)) c.spot_of-spot-in-loop-number.ensures.number c.code_block-inter-in-loop-number.ensures.coded))
          so_far c.in_ok-add_block.ensures.ok (subst (λ (n : ℕ). AreShown c.loop-number.reference c.show_block-in-loop-number.new.reference c.args.shape.now.width c.args.shape.now.height n (n + 1)
          (block_with c.code_block-inter-in-loop-number.result c.code_block-inter-in-loop-number.new.q)) c.spot_of-spot-in-loop-number.ensures.number c.show_block-in-loop-number.ensures);
    }

pub returns-in_err-add_block-clause-bytes : goal.returns-in_err-add_block-clause-bytes
returns-in_err-add_block-clause-bytes g c =
    let inside : c.loop-number.number < block_count c.args.shape.now.width c.args.shape.now.height = omega (arith, c.loop-number.invariant.end, c.loop-number-test.true) in
    let so_far = c.loop-number.invariant.coded in
    err_is c.args.out.now c.add_block.new.out 0 (canon_plane (coded_blocks c.args.shape.now.inter c.args.shape.now.qp c.args.plane.now c.args.reference.now c.args.shape.now.width c.args.shape.now.height))
    c.in_err-add_block.field-0.0 c.from_residual.result
    (not_coded (coded_blocks c.args.shape.now.inter c.args.shape.now.qp c.args.plane.now c.args.reference.now c.args.shape.now.width c.args.shape.now.height) c.args.reference.now c.loop-number.reference c.args.shape.now.width c.args.shape.now.height c.loop-number.number
    c.args.out.now c.loop-number.out c.add_block.new.out c.loop-number.pending
    c.code_block-inter-in-loop-number.result c.code_block-inter-in-loop-number.new.q c.in_err-add_block.field-0.0 (omega (arith, inside, length-coded_blocks c.args.shape.now.inter c.args.shape.now.qp c.args.plane.now c.args.reference.now c.args.shape.now.width c.args.shape.now.height))
    (block_coded c.args.shape.now.inter c.args.shape.now.qp c.args.plane.now c.args.reference.now c.loop-number.reference c.args.shape.now.width c.args.shape.now.height c.loop-number.number (block_with c.code_block-inter-in-loop-number.result c.code_block-inter-in-loop-number.new.q)
    (coded_blocks c.args.shape.now.inter c.args.shape.now.qp c.args.plane.now c.args.reference.now c.args.shape.now.width c.args.shape.now.height) c.requires.some.0 c.requires.some.1 inside so_far.decoded
    (subst (λ (n : ℕ). block_with c.code_block-inter-in-loop-number.result c.code_block-inter-in-loop-number.new.q ≡ coded_block c.args.shape.now.inter c.args.shape.now.qp (block_of c.args.plane.now c.args.shape.now.width c.args.shape.now.height n)
    (block_of c.loop-number.reference c.args.shape.now.width c.args.shape.now.height n)) c.spot_of-spot-in-loop-number.ensures.number c.code_block-inter-in-loop-number.ensures.coded))
    so_far c.in_err-add_block.ensures.full) c.from_residual.ensures.0

pub put_entry-requires-clause-place : goal.put_entry-requires-clause-place
put_entry-requires-clause-place g c = c.loop-number.invariant.coded.inside

pub put_entry-requires-clause-values : goal.put_entry-requires-clause-values
put_entry-requires-clause-values g c = c.loop-number.invariant.coded.values

pub put_entry-requires-clause-repeats : goal.put_entry-requires-clause-repeats
put_entry-requires-clause-repeats g c = c.loop-number.invariant.coded.repeats

pub returns-clause-bytes : goal.returns-clause-bytes
returns-clause-bytes g c =
    all_coded (coded_blocks c.args.shape.now.inter c.args.shape.now.qp c.args.plane.now c.args.reference.now c.args.shape.now.width c.args.shape.now.height) c.args.reference.now c.loop-number.reference c.args.shape.now.width c.args.shape.now.height c.loop-number.number
    c.args.out.now c.loop-number.out c.put_entry.new.out c.loop-number.pending c.put_entry.result
    (omega (arith, c.loop-number.invariant.end, c.loop-number-test.false, length-coded_blocks c.args.shape.now.inter c.args.shape.now.qp c.args.plane.now c.args.reference.now c.args.shape.now.width c.args.shape.now.height)) c.loop-number.invariant.coded c.put_entry.ensures

pub returns-clause-samples : goal.returns-clause-samples
returns-clause-samples g c =
    let some : 0 < block_count c.args.shape.now.width c.args.shape.now.height = count_some c.args.shape.now.width c.args.shape.now.height c.requires.some.0 c.requires.some.1 in
    let last : c.loop-number.number ≡ block_count c.args.shape.now.width c.args.shape.now.height = omega (arith, some, c.loop-number.invariant.end, c.loop-number-test.false, c.loop-number.auto.number-end, c.loop-number.auto.number) in
    on_ok c.put_entry.result (c.loop-number.reference ≡ decoded_plane (coded_blocks c.args.shape.now.inter c.args.shape.now.qp c.args.plane.now c.args.reference.now c.args.shape.now.width c.args.shape.now.height) c.args.reference.now c.args.shape.now.width c.args.shape.now.height)
    (all_decoded (coded_blocks c.args.shape.now.inter c.args.shape.now.qp c.args.plane.now c.args.reference.now c.args.shape.now.width c.args.shape.now.height) c.args.reference.now c.loop-number.reference c.args.shape.now.width c.args.shape.now.height c.requires.some.0 c.loop-number.invariant.size
    (subst (λ (n : ℕ). AreDecoded (coded_blocks c.args.shape.now.inter c.args.shape.now.qp c.args.plane.now c.args.reference.now c.args.shape.now.width c.args.shape.now.height) c.args.reference.now c.loop-number.reference c.args.shape.now.width c.args.shape.now.height n) last
    c.loop-number.invariant.coded.decoded))
