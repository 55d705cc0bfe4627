use Rattle.std.proofs.Common.{◌≡◌, ◌<◌, ◌∷◌, [], ◌++◌, List, refl, ap, ◌∙◌, arith, rules}
use Rattle.vc_turn.specs.declared.rule.Kept.{Kept}
use Rattle.vc_turn.specs.Place.{Place, KeepsAll}
use Rattle.vc_turn.proofs.tests.each_entry_is_counted.Goals as goal

-- of two seats the first keeps the lists of the second
keeps_one : (first joined : Place) (k : Kept) → joined ≡ record first { kept = first.kept ++ k ∷ [] } → first.made ≡ 2 → first.kept ≡ [] → k.number ≡ 1 → KeepsAll joined
keeps_one first joined k e made none one number low high =
    let up : number < first.made = rw (← ap (λ (p : Place). p.made) e) high in
    let is : 1 ≡ number = omega (arith, up, made, low) in
    let kept : joined.kept ≡ k ∷ [] = ap (λ (p : Place). p.kept) e ∙ ap (λ (l : List Kept). l ++ k ∷ []) none in
    (0, k, rw kept refl, one ∙ is)

pub close-tally-requires-clause-whole : goal.close-tally-requires-clause-whole
close-tally-requires-clause-whole g c =
    (search rules, search rules, keeps_one _ _ _ c.join.ensures (search rules) (search rules) (search rules))
