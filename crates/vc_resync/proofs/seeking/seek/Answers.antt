use Rattle.std.proofs.Common.{◌≡◌, ◌<◌, ◌+◌, ◌-◌, ◌++◌, ℕ, subst, ap, sym, length, take, drop, refl, arith, length-drop}
use Rattle.std.proofs.lemmas.List.{take_rest}
use Rattle.vc_defs.specs.Headers.{magic}
use Rattle.vc_resync.specs.Seeking.{Matches}
use Rattle.vc_resync.proofs.MagicComesOn.{pass_to, pass_one, no_first}
use Rattle.vc_resync.proofs.seeking.seek.Goals as goal
use Rattle.vc_resync.proofs.seeking.seek.Goals.{then-now-eq0+in-Some, else-now-eq0}

pub returns-in-None : goal.returns-in-None
returns-in-None c =
    let bytes = c.args.bytes.now in
    let at = c.loop-at.at in
    let front = take c.args.matched magic in
    let less : at < length bytes = omega arith in
    let long : length (take (length bytes - at) (drop at bytes)) ≡ length bytes - at = omega (arith, ap length (take_rest bytes at), length-drop at bytes) in
    let none = no_first bytes at (length bytes - at) (λ k l h e. c.in-None.ensures k l (omega arith) e) in
    let here : Matches (front ++ take at bytes) 0 = subst (λ (n : ℕ). Matches (front ++ take at bytes) n) c.if-now-eq0.true c.loop-at.invariant.matches in
    let end : at + (length bytes - at) ≡ length bytes = omega arith in
    record {
      inside = omega arith;
      matches = subst (λ (n : ℕ). Matches (front ++ take n bytes) 0) end (pass_to front bytes at (length bytes - at) here (omega arith) none);
      all = λ h. refl;
    }

pub loop-at-preserved : goal.loop-at-preserved
loop-at-preserved c =
    let bytes = c.args.bytes.now in
    let at = c.loop-at.at in
    let front = take c.args.matched magic in
    let less : at < length bytes = omega arith in
    elim c.if-now-eq0.branch [
      | then-now-eq0+in-Some w ↦
          let long : length (take (length bytes - at) (drop at bytes)) ≡ length bytes - at = omega (arith, ap length (take_rest bytes at), length-drop at bytes) in
          let high = w.in-Some.ensures.0.high in
          let none = no_first bytes at w.in-Some.n (λ k l h e. w.in-Some.ensures.0.before k l h e) in
          let here : Matches (front ++ take at bytes) 0 = subst (λ (n : ℕ). Matches (front ++ take at bytes) n) w.if-now-eq0.true c.loop-at.invariant.matches in
          let there : Matches (front ++ take c.if-now-eq0.at bytes) c.loop-at.now =
          subst (λ (n : ℕ). Matches (front ++ take c.if-now-eq0.at bytes) n) (sym w.if-now-eq0.true)
          (subst (λ (n : ℕ). Matches (front ++ take n bytes) 0) (sym w.at-is) (pass_to front bytes at w.in-Some.n here (omega arith) none)) in
          record {
            inside = omega (arith, w.at-is);
            matches = pass_one front bytes c.if-now-eq0.at c.loop-at.now c.step-now.result there (omega arith) (omega (arith, w.at-is)) c.step-now.ensures;
          }
      | else-now-eq0 w ↦
          let there : Matches (front ++ take c.if-now-eq0.at bytes) c.loop-at.now =
          subst (λ (n : ℕ). Matches (front ++ take n bytes) c.loop-at.now) (sym w.at-is) c.loop-at.invariant.matches in
          record {
            inside = omega (arith, w.at-is);
            matches = pass_one front bytes c.if-now-eq0.at c.loop-at.now c.step-now.result there (omega arith) (omega (arith, w.at-is)) c.step-now.ensures;
          }
    ]
