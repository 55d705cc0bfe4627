use Rattle.std.proofs.Common.{◌∙◌, arith, length-drop}
use Rattle.std.proofs.lemmas.List.{take_all}
use Rattle.vc_io.proofs.Progress.{wrote_more}
use Rattle.vc_io.proofs.outside.write_whole.Goals as goal

pub loop-rest-preserved : goal.loop-rest-preserved
loop-rest-preserved g c =
    let w =
    wrote_more (g.K.Sink.written c.args.sink.now) (g.K.Sink.written c.loop-rest.sink) (g.K.Sink.written c.write.new.self) c.args.bytes.now
    c.loop-rest.rest.now c.in_ok-count.count (g.K.Sink.faults c.args.sink.now) (g.K.Sink.faults c.loop-rest.sink) (g.K.Sink.faults c.write.new.self)
    c.loop-rest.invariant c.in_ok-count.ensures.bound c.in_ok-count.ensures.bytes c.in_ok-count.ensures.quiet in
    record {
      count = w.count;
      within = w.within;
      rest_is = take_all _ _ (omega (arith, length-drop c.in_ok-count.count c.loop-rest.rest.now)) ∙ w.rest_is;
      appended = w.appended;
      quiet = w.quiet;
    }
