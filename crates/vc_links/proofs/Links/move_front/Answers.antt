use Rattle.std.proofs.Common.{◌∙◌, ◌++◌, ◌∷◌, [], ◌≡◌, sym, ap, get_or-set_other}
use Rattle.vc_links.specs.Lists.{list_at, with_list, rest}
use Rattle.vc_links.proofs.Links.move_front.Goals as goal

-- the other list is as it was when the cell goes to its end
pub returns-clause-moved : goal.returns-clause-moved
returns-clause-moved c =
    c.push_back.ensures.added
    ∙ (ap (λ lists. with_list lists c.args.to (list_at lists c.args.to ++ c.in-Some.cell ∷ [])) c.pop_front.ensures.rest
    ∙ ap (λ cells. with_list (with_list c.args.self.now c.args.from (rest (list_at c.args.self.now c.args.from))) c.args.to (cells ++ c.in-Some.cell ∷ []))
    (get_or-set_other c.args.self.now c.args.from c.args.to (rest (list_at c.args.self.now c.args.from)) [] (λ (e : c.args.to ≡ c.args.from). c.requires.apart (sym e))))
