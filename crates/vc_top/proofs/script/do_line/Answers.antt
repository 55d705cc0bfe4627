use Rattle.std.proofs.Common.{ap, sym, subst}
use Rattle.std.specs.Option.{option_map}
use Rattle.std.specs.Io.KnownBytes.{Appends}
use Rattle.vc_io.specs.Written.{AppendsFront}
use Rattle.vc_desk.specs.Asking.{IsAskedLine, asked_of}
use Rattle.vc_desk.proofs.LinesCanBeAsked.{asked_line}
use Rattle.vc_top.proofs.script.do_line.Goals as goal

pub carry_out-requires-clause-asked : goal.carry_out-requires-clause-asked
carry_out-requires-clause-asked g c =
    subst (λ n. IsAskedLine n c.in-Ok.asked) (sym c.requires.slots) (asked_line c.args.slots c.args.line.now c.in-Ok.asked c.in-Ok.ensures)

pub returns-in-Ok-write_whole-clause-done : goal.returns-in-Ok-write_whole-clause-done
returns-in-Ok-write_whole-clause-done g c = λ history at.
    record {
      asked = asked_of c.in-Ok.asked;
      text = c.in-Ok-carry_out.printed.text.items;
      asks = ap (option_map asked_of) c.in-Ok.ensures;
      made = c.in-Ok-carry_out.ensures.made c.args.slots history at;
      written = subst (Appends (g.K.Sink.written c.args.sink.now) (g.K.Sink.written c.write_whole.new.sink)) c.deref.ensures.value c.in-Ok-write_whole.ensures.whole;
    }

pub returns-in-Ok-carry_out-clause-stopped : goal.returns-in-Ok-carry_out-clause-stopped
returns-in-Ok-carry_out-clause-stopped g c = λ history at.
    record {
      asked = asked_of c.in-Ok.asked;
      text = c.in-Ok-carry_out.printed.text.items;
      fault = c.in-Ok-carry_out.printed.fault;
      desk = c.carry_out.new.desk;
      asks = ap (option_map asked_of) c.in-Ok.ensures;
      made = c.in-Ok-carry_out.ensures.made c.args.slots history at;
      written = subst (AppendsFront (g.K.Sink.written c.args.sink.now) (g.K.Sink.written c.write_whole.new.sink)) c.deref.ensures.value c.in-Err-write_whole.ensures.front;
    }
