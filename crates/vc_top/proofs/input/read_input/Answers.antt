use Rattle.std.proofs.Common.{◌++◌, ◌≤◌, take, arith, length-append, length-take}
use Rattle.std.proofs.lemmas.Grind.{common_steps}
use Rattle.vc_top.proofs.ReadsJoin.{consumes_both}
use Rattle.vc_top.proofs.input.read_input.Goals as goal

pub returns-then-is_err-clause-stopped : goal.returns-then-is_err-clause-stopped
returns-then-is_err-clause-stopped g c =
    let in_room : c.in-Ok.count ≤ c.min-room.result = grind (arith, common_steps) in
    record {
      bytes = c.reading.input.items ++ take c.in-Ok.count c.read.new.buf;
      read = consumes_both _ _ _ _ _ c.reading.invariant.0 c.in-Ok.ensures.bytes.0;
      short =
          omega (
            arith,
            length-append c.reading.input.items (take c.in-Ok.count c.read.new.buf),
            length-take c.in-Ok.count c.read.new.buf,
            c.reading.input.ok.0,
            c.in-Ok.ensures.bound,
            c.reading-test.true,
            c.min-room.ensures,
            c.len-in-reading.ensures,
          );
      long = λ e. absurd (cc);
      fault = λ e. absurd (cc);
    }
