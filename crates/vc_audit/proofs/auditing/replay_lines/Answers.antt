use Rattle.std.proofs.Common.{◌≡◌, ◌<◌, ◌+◌, length, refl, sym, subst, arith, rules}
use Rattle.vc_desk.specs.Asking.{IsAskedLine, asked_of}
use Rattle.vc_desk.proofs.LinesCanBeAsked.{asked_line}
use Rattle.vc_audit.proofs.ScriptsAreReplayed.{Along, not_begun, along_more, same_few, wrong_few, wrong_judged, fault_unjudged, end_judged, empty_of}
use Rattle.vc_audit.specs.Replays.{Replayed}
use Rattle.vc_audit.specs.Verdicts.{Judged}
use Rattle.vc_audit.proofs.auditing.replay_lines.Goals as goal

pub replaying-init : goal.replaying-init
replaying-init g c = (
  not_begun c.args.slots c.args.script.now c.args.report.now c.args.desk.now c.requires.desk c.requires.steps,
  omega arith,
  omega arith,
)

pub overflow_add-number : goal.overflow_add-number
overflow_add-number g c =
    let some : 0 < length c.replaying.rest.now = search rules in omega (arith, c.replaying.invariant.0.within, some, c.requires.short)

pub replay_line-requires-clause-desk : goal.replay_line-requires-clause-desk
replay_line-requires-clause-desk g c = (c.args.slots, c.replaying.invariant.0.history, c.replaying.invariant.0.desk_is)

pub replay_line-requires-clause-asked : goal.replay_line-requires-clause-asked
replay_line-requires-clause-asked g c =
    subst (λ n. IsAskedLine n c.in_ok-asked.asked) (sym c.replaying.invariant.0.desk_is.slots) (asked_line c.args.slots c.next_line.result.0.now c.in_ok-asked.asked c.in_ok-asked.ensures.read)

pub replay_line-requires-clause-counts : goal.replay_line-requires-clause-counts
replay_line-requires-clause-counts g c =
    omega (arith, c.replaying.invariant.0.within, c.replaying.invariant.0.counted, c.requires.short)

pub rest_of-left-requires : goal.rest_of-left-requires
rest_of-left-requires g c =
    (same_few c.args.slots c.replaying.invariant.0.history (asked_of c.in_ok-asked.asked) c.replaying.left.now (g.E.Engine.fault_count c.replaying.engine) (g.E.Engine.fault_count c.replay_line.new.engine) c.in-Ok-Same.length c.in-Ok-Same.lines
    c.replay_line.new.desk (subst (Replayed c.args.slots c.replaying.invariant.0.history (asked_of c.in_ok-asked.asked) c.replaying.left.now (g.E.Engine.fault_count c.replaying.engine) (g.E.Engine.fault_count c.replay_line.new.engine) c.replay_line.new.desk) c.in-Ok-Same.field-0-is
    (c.in-Ok-Same.ensures.done c.args.slots c.replaying.invariant.0.history c.replaying.invariant.0.desk_is))).0

pub overflow_add-at : goal.overflow_add-at
overflow_add-at g c =
    let few =
    (same_few c.args.slots c.replaying.invariant.0.history (asked_of c.in_ok-asked.asked) c.replaying.left.now (g.E.Engine.fault_count c.replaying.engine) (g.E.Engine.fault_count c.replay_line.new.engine) c.in-Ok-Same.length c.in-Ok-Same.lines
    c.replay_line.new.desk (subst (Replayed c.args.slots c.replaying.invariant.0.history (asked_of c.in_ok-asked.asked) c.replaying.left.now (g.E.Engine.fault_count c.replaying.engine) (g.E.Engine.fault_count c.replay_line.new.engine) c.replay_line.new.desk) c.in-Ok-Same.field-0-is
    (c.in-Ok-Same.ensures.done c.args.slots c.replaying.invariant.0.history c.replaying.invariant.0.desk_is))).1 in
    omega (arith, few, c.replaying.invariant.0.few, c.replaying.invariant.0.within, c.requires.short)

pub overflow_add-result : goal.overflow_add-result
overflow_add-result g c =
    let few =
    wrong_few c.args.slots c.replaying.invariant.0.history (asked_of c.in_ok-asked.asked) c.replaying.left.now (g.E.Engine.fault_count c.replaying.engine) (g.E.Engine.fault_count c.replay_line.new.engine) c.replay_line.new.desk _ c.in-Ok-Wrong.lines refl
    (subst (Replayed c.args.slots c.replaying.invariant.0.history (asked_of c.in_ok-asked.asked) c.replaying.left.now (g.E.Engine.fault_count c.replaying.engine) (g.E.Engine.fault_count c.replay_line.new.engine) c.replay_line.new.desk) c.in-Ok-Wrong.field-0-is
    (c.in-Ok-Wrong.ensures.done c.args.slots c.replaying.invariant.0.history c.replaying.invariant.0.desk_is)) in
    omega (arith, few, c.replaying.invariant.0.few, c.replaying.invariant.0.within, c.requires.short)

pub returns-in-Ok-Wrong-clause-judged : goal.returns-in-Ok-Wrong-clause-judged
returns-in-Ok-Wrong-clause-judged g c =
    wrong_judged c.args.slots c.args.script.now c.replaying.rest.now c.next_line.result.1.now c.args.report.now c.replaying.left.now c.next_line.result.0.now c.replaying.number c.replaying.at
    c.in-Ok-Wrong.lines c.replaying.desk.core.steps (g.E.Engine.fault_count c.replaying.engine) (g.E.Engine.fault_count c.replay_line.new.engine) c.replaying.desk c.replay_line.new.desk
    c.in_ok-asked.asked c.requires.slots c.replaying.invariant.0 c.next_line.ensures.first c.in_ok-asked.ensures.read
    (subst (Replayed c.args.slots c.replaying.invariant.0.history (asked_of c.in_ok-asked.asked) c.replaying.left.now (g.E.Engine.fault_count c.replaying.engine) (g.E.Engine.fault_count c.replay_line.new.engine) c.replay_line.new.desk) c.in-Ok-Wrong.field-0-is
    (c.in-Ok-Wrong.ensures.done c.args.slots c.replaying.invariant.0.history c.replaying.invariant.0.desk_is)) c.in_ok-read_rest-in-Ok-Wrong.ensures.good

pub returns-in-Ok-Fault-clause-unjudged : goal.returns-in-Ok-Fault-clause-unjudged
returns-in-Ok-Fault-clause-unjudged g c =
    fault_unjudged c.args.slots c.args.script.now c.replaying.rest.now c.next_line.result.1.now c.args.report.now c.replaying.left.now c.next_line.result.0.now c.replaying.number c.replaying.at
    c.replaying.desk.core.steps (g.E.Engine.fault_count c.args.engine.now) (g.E.Engine.fault_count c.replaying.engine) (g.E.Engine.fault_count c.replay_line.new.engine)
    c.replaying.desk c.replay_line.new.desk c.in_ok-asked.asked c.replaying.invariant.0 c.next_line.ensures.first c.in_ok-asked.ensures.read
    (subst (Replayed c.args.slots c.replaying.invariant.0.history (asked_of c.in_ok-asked.asked) c.replaying.left.now (g.E.Engine.fault_count c.replaying.engine) (g.E.Engine.fault_count c.replay_line.new.engine) c.replay_line.new.desk) c.in-Ok-Fault.field-0-is
    (c.in-Ok-Fault.ensures.done c.args.slots c.replaying.invariant.0.history c.replaying.invariant.0.desk_is)) c.in_ok-read_rest-in-Ok-Fault.ensures.good c.replaying.invariant.2

pub replaying-preserved : goal.replaying-preserved
replaying-preserved g c = (
  subst (λ x. Along c.args.slots c.args.script.now c.next_line.result.1.now c.args.report.now x (c.replaying.number + 1) (c.replaying.at + c.in-Ok-Same.lines) c.replay_line.new.desk.core.steps c.replay_line.new.desk) (sym c.rest_of-left.ensures)
      (along_more c.args.slots c.args.script.now c.replaying.rest.now c.next_line.result.1.now c.args.report.now c.replaying.left.now c.next_line.result.0.now c.replaying.number c.replaying.at
      c.in-Ok-Same.length c.in-Ok-Same.lines c.replaying.desk.core.steps c.replay_line.new.desk.core.steps (g.E.Engine.fault_count c.replaying.engine) (g.E.Engine.fault_count c.replay_line.new.engine)
      c.replaying.desk c.replay_line.new.desk c.in_ok-asked.asked c.replaying.invariant.0 c.next_line.ensures.first c.next_line.ensures.shorter
      c.in_ok-asked.ensures.read (subst (Replayed c.args.slots c.replaying.invariant.0.history (asked_of c.in_ok-asked.asked) c.replaying.left.now (g.E.Engine.fault_count c.replaying.engine) (g.E.Engine.fault_count c.replay_line.new.engine) c.replay_line.new.desk) c.in-Ok-Same.field-0-is
      (c.in-Ok-Same.ensures.done c.args.slots c.replaying.invariant.0.history c.replaying.invariant.0.desk_is)) c.in-Ok-Same.ensures.steps),
  omega (arith, c.replaying.invariant.1, c.replay_line.ensures.runs_stay),
  omega (arith, c.replaying.invariant.2, c.replay_line.ensures.faults_stay),
)

pub returns-clause-judged : goal.returns-clause-judged
returns-clause-judged g c =
    let empty : length c.replaying.rest.now ≡ 0 = search rules in
    subst (Judged c.args.slots c.args.script.now c.args.report.now) (sym c.verdict_at_end.ensures)
    (end_judged c.args.slots c.args.script.now c.replaying.rest.now c.args.report.now c.replaying.left.now c.replaying.number
    c.replaying.at c.replaying.desk.core.steps c.replaying.desk c.requires.slots c.replaying.invariant.0 (empty_of _ empty))
