use Rattle.std.proofs.Common.{◌≡◌, sym, ◌+◌, ◌<◌, arith}
use Rattle.std.specs.Prelude.{true}
use Rattle.vc_defs.specs.Words.{in_scan_order}
use Rattle.vc_defs.specs.Planes.{is_head, repeats_of}
use Rattle.vc_defs.proofs.BlocksAreRead.{between_read}
use Rattle.vc_rlc.proofs.ErrorsArePassedOn.{on_err}
use Rattle.vc_plane.proofs.EntryIsOneStep.{entry_step, entry_is, head_fits, no_values, no_bytes, none_between, are_bytes}
use Rattle.vc_plane.proofs.entries.read_entry.Goals as goal

pub returns-in_err-word-clause-damaged : goal.returns-in_err-word-clause-damaged
returns-in_err-word-clause-damaged c =
    on_err c.from_residual.result c.from_residual.ensures.0 (no_bytes c.args.frame c.args.left c.args.bytes.now c.args.at c.requires.left c.in_err-word.ensures.damaged)

pub returns-in_err-end-clause-damaged : goal.returns-in_err-end-clause-damaged
returns-in_err-end-clause-damaged c =
    on_err c.from_residual-in_err-end.result c.from_residual-in_err-end.ensures.0
    (no_values c.args.frame c.args.left c.args.bytes.now c.args.at c.in_ok-word.word c.requires.left c.in_ok-word.ensures.ok.0 c.in_ok-word.ensures.ok.1
    (none_between c.args.bytes.now (c.args.at + 2) (are_bytes c.args.bytes.now c.type_inv.bytes) c.in_err-end.ensures.damaged))

pub returns-clause-ok : goal.returns-clause-ok
returns-clause-ok c =
    let between = between_read c.args.bytes.now (c.args.at + 2) c.in_ok-end.end 64 (in_scan_order c.read_block.new.q) c.in_ok-word.ensures.ok.0 c.in_ok-end.ensures.ok in
    let head : is_head c.args.frame c.args.left c.in_ok-word.word ≡ true = sym c.if-not-is_legal_head.ensures in
    let fewer : repeats_of c.in_ok-word.word < c.args.left = head_fits c.args.frame c.args.left c.in_ok-word.word head in
    entry_is c.args.bytes.now c.args.at c.args.frame c.args.left c.in_ok-word.word c.is_inter.result c.repeats.result c.read_block.new.q c.in_ok-end.end c.is_inter.ensures c.repeats.ensures.value
    (record {
      fits = fewer;
      inside = (omega (arith, between.0), between.1);
      step = λ turns. entry_step turns c.args.frame c.args.left c.args.bytes.now c.args.at c.in_ok-word.word c.in_ok-end.end c.read_block.new.q c.requires.left c.in_ok-word.ensures.ok.0 c.in_ok-word.ensures.ok.1 head c.read_block.array_long between.2;
    })
