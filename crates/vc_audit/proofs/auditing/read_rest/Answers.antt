use Rattle.std.proofs.Common.{◌<◌, length, refl, arith, rules}
use Rattle.std.specs.Str.Lines.{lines}
use Rattle.vc_audit.proofs.ScriptsAreReplayed.{read_one}
use Rattle.vc_audit.proofs.auditing.read_rest.Goals as goal

pub reading-init : goal.reading-init
reading-init c = (record { same = refl }, omega arith)

pub overflow_add-number : goal.overflow_add-number
overflow_add-number c =
    let some : 0 < length c.reading.rest.now = search rules in
    omega (arith, c.reading.invariant.1, some, c.requires.short)

pub reading-preserved : goal.reading-preserved
reading-preserved c = (
  read_one c.args.slots (lines c.args.script.now) (lines c.reading.rest.now) (lines c.next_line.result.1.now) c.next_line.result.0.now _ c.reading.number
      c.in_ok-_asked._asked c.reading.invariant.0 c.next_line.ensures.first c.in_ok-_asked.ensures.read,
  omega (arith, c.reading.invariant.1, c.next_line.ensures.shorter),
)
