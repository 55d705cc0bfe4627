use Rattle.std.proofs.Common.{arith, ◌≤◌, ◌^◌}
use Rattle.vc_decode_flow.proofs.PiecesAreRead.{is_long, read_next}
use Rattle.vc_decode_flow.proofs.reading.Reading.next.Goals as goal

pub returns-then-count-ge-MOST_INPUT-clause-long : goal.returns-then-count-ge-MOST_INPUT-clause-long
returns-then-count-ge-MOST_INPUT-clause-long g c = λ left bytes r e.
    let most = c.if-count-ge-MOST_INPUT.true in
    let count = c.count.ensures.count in
    is_long left _ _ _ bytes r (omega (arith, most, count))

pub returns-clause-read : goal.returns-clause-read
returns-clause-read g c = λ left bytes r.
    let h = c.read-2.ensures.bytes bytes r.covers in
    let m = c.in-Ok.ensures.bytes in
    let b = c.in-Ok.ensures.bound in
    let v = c.deref.ensures.value in
    let size = c.read.auto.buf in
    let long = c.deref_mut.ensures.len in
    let room = c.args.self.now.room in
    read_next left _ _ _ _ _ bytes _ _ _ _ _ r m.0 m.1 b.0 (omega (arith, b.0, size, long, room)) (omega (arith, size, long, room)) v h
