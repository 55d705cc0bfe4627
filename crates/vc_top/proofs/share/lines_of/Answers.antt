use Rattle.std.proofs.Common.{◌≡◌, ℕ, ◌++◌, length, get_or, inr, refl, sym, subst, arith, rules}
use Rattle.std.specs.Prelude.{Ok, Err}
use Rattle.std.proofs.lemmas.Option.{slice_get_read}
use Rattle.vc_top.specs.Shares.{end_line}
use Rattle.vc_top.proofs.SharingEnds.{AreLinesSoFar, none_so_far, more_so_far, all_lines, all_tallied, failed_here}
use Rattle.vc_top.proofs.share.lines_of.Goals.{in-Some-Ok+in-Ok, in-None}
use Rattle.vc_top.proofs.share.lines_of.Goals as goal

pub loop-context-init : goal.loop-context-init
loop-context-init c =
    subst (λ t. AreLinesSoFar c.args.pictures 0 c.args.ends.now t) (sym c.new-text.ensures.items) (none_so_far c.args.pictures c.args.ends.now)

pub loop-context-preserved : goal.loop-context-preserved
loop-context-preserved c =
    elim c.match-get.branch [
      | in-Some-Ok+in-Ok w ↦
          let same : w.in-Some-Ok.field-0.now ≡ Ok w.in-Some-Ok.tally = search rules in
          let read = subst (λ z. z ≡ get_or c.args.ends.now c.loop-context.context z) same w.in-Some-Ok.ensures.lookup.1 in
          let at = slice_get_read c.args.ends.now (length c.args.ends.now) c.loop-context.context (Ok w.in-Some-Ok.tally) refl c.loop-context-test.true read in
          let more : c.match-get.text.items ≡ c.loop-context.text.items ++ end_line c.args.pictures c.loop-context.context (Ok w.in-Some-Ok.tally) = search rules in
          more_so_far c.args.pictures c.loop-context.context c.args.ends.now c.loop-context.text.items c.match-get.text.items w.in-Some-Ok.tally c.loop-context.invariant at more
      | in-None w ↦ absurd (omega (arith, w.in-None.ensures.lookup.3, c.loop-context-test.true))
    ]

pub returns-clause-text : goal.returns-clause-text
returns-clause-text c =
    let end : c.loop-context.context ≡ length c.args.ends.now = omega (arith, c.loop-context-test.false, c.loop-context.auto.context-end) in
    all_lines c.args.pictures c.args.ends.now c.loop-context.text.items (subst (λ (k : ℕ). AreLinesSoFar c.args.pictures k c.args.ends.now c.loop-context.text.items) end c.loop-context.invariant)

pub returns-clause-good : goal.returns-clause-good
returns-clause-good c =
    let end : c.loop-context.context ≡ length c.args.ends.now = omega (arith, c.loop-context-test.false, c.loop-context.auto.context-end) in
    all_tallied c.args.pictures c.args.ends.now c.loop-context.text.items (subst (λ (k : ℕ). AreLinesSoFar c.args.pictures k c.args.ends.now c.loop-context.text.items) end c.loop-context.invariant)

pub returns-in-Some-Err-clause-stop : goal.returns-in-Some-Err-clause-stop
returns-in-Some-Err-clause-stop c =
    let same : c.in-Some-Err.field-0.now ≡ Err c.in-Some-Err.end = search rules in
    let read = subst (λ z. z ≡ get_or c.args.ends.now c.loop-context.context z) same c.in-Some-Err.ensures.lookup.1 in
    let at = slice_get_read c.args.ends.now (length c.args.ends.now) c.loop-context.context (Err c.in-Some-Err.end) refl c.loop-context-test.true read in
    inr (failed_here c.args.pictures c.loop-context.context c.args.ends.now c.loop-context.text.items c.in-Some-Err.end c.loop-context.invariant at)
