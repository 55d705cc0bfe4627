use Rattle.std.proofs.Common.{◌≡◌, rules}
use Rattle.vc_script.specs.Texts.{finish_text, idle_text}
use Rattle.vc_audit.specs.Replays.{was_idle}
use Rattle.vc_audit.proofs.LinesAreReplayed.{ended_text}
use Rattle.vc_audit.proofs.replay.replay_end.Goals as goal

pub returns-in_ok-put_idle-in-Idle-clause-done : goal.returns-in_ok-put_idle-in-Idle-clause-done
returns-in_ok-put_idle-in-Idle-clause-done g c = λ n history at.
    let d = c.in-Idle.ensures.done n history at in (idle_text, c.in_ok-put_idle-in-Idle.ensures.ok, was_idle d.idle d.at)

pub returns-in_ok-put_finish-in-Ended-clause-done : goal.returns-in_ok-put_finish-in-Ended-clause-done
returns-in_ok-put_finish-in-Ended-clause-done g c = λ n history at.
    let d = c.in-Ended.ensures.done n history at in
    let same : c.in-Ended.fault ≡ c.args.gives_up = search rules in (
      finish_text c.in-Ended.slot c.in-Ended.word.now,
      c.in_ok-put_finish-in-Ended.ensures.ok,
      ended_text n history c.args.worker c.in-Ended.slot c.in-Ended.word.now c.in-Ended.fault c.args.gives_up c.end_job.new.desk same d.0,
    )
