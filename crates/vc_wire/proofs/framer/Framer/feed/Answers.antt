use Rattle.std.proofs.Common.{◌≡◌, ◌≤◌, ◌+◌, ◌-◌, ◌++◌, true, false, length, take, drop, ap, ◌∙◌, arith}
use Rattle.std.proofs.lemmas.Grind.{common_steps}
use Rattle.vc_model.specs.Messages.{fed, is_length, number_at, whole}
use Rattle.vc_wire.specs.Framing.{Framing}
use Rattle.vc_wire.proofs.LengthDecides.{bad_kept, whole_told}
use Rattle.vc_wire.proofs.framer.Framer.feed.Goals as goal

pub returns-then-not-is_length-clause-kept : goal.returns-then-not-is_length-clause-kept
returns-then-not-is_length-clause-kept c =
    let kept = c.self.inside.kept.items in
    let piece = c.args.piece.now in
    let is : kept ≡ c.args.self.now.kept = ap (λ (v : Framing). v.kept) c.self.view_is in
    let four : 4 ≤ length kept + length piece = grind (arith, common_steps) in
    let bad : is_length (number_at (kept ++ piece) 0) ≡ false = grind (arith, common_steps) in
    let grown : c.extend_from_slice-then-not-is_length.new.self.items ≡ kept ++ take (4 - length kept) piece = grind (arith, common_steps) in
    grown ∙ (bad_kept kept piece c.self.invariant four bad ∙ ap (λ k. (fed k piece).kept) is)

pub returns-clause-told : goal.returns-clause-told
returns-clause-told c =
    let kept = c.self.inside.kept.items in
    let piece = c.args.piece.now in
    let is : kept ≡ c.args.self.now.kept = ap (λ (v : Framing). v.kept) c.self.view_is in
    let four : 4 ≤ length kept + length piece = grind (arith, common_steps) in
    let fine : is_length (number_at (kept ++ piece) 0) ≡ true = grind (arith, common_steps) in
    let there : 4 + number_at (kept ++ piece) 0 ≤ length kept + length piece = grind (arith, common_steps) in
    let grown : c.swap.new.y.items ≡ kept ++ take ((4 + number_at (kept ++ piece) 0) - length kept) piece = grind (arith, common_steps) in
    ap (λ l. whole (drop 4 l)) grown ∙ (whole_told kept piece c.self.invariant four fine there ∙ ap (λ k. (fed k piece).told) is)
