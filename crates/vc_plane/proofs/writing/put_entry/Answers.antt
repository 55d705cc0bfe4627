use Rattle.std.proofs.Common.{ℕ, subst}
use Rattle.std.specs.Prelude.{Ok}
use Rattle.vc_defs.specs.Bytes.{Writes}
use Rattle.vc_defs.specs.Words.{word_bytes, words_bytes, canon, in_scan_order}
use Rattle.vc_defs.specs.Planes.{head_of}
use Rattle.vc_defs.proofs.WritesInParts.{writes_then}
use Rattle.vc_plane.proofs.writing.put_entry.Goals as goal

pub returns : goal.returns
returns c =
    writes_then c.args.out.now c.put_word.new.out c.write_block.new.out c.args.pending.now.end c.in_ok-end.end (word_bytes (head_of c.args.pending.now.inter c.args.pending.now.repeats)) (words_bytes (canon (in_scan_order c.args.pending.now.values))) c.write_block.result
    (subst (λ (h : ℕ). Writes c.args.out.now c.put_word.new.out c.args.pending.now.end (word_bytes h) (Ok c.in_ok-end.end)) c.head.ensures c.in_ok-end.ensures) c.write_block.ensures
