use Rattle.std.proofs.Common.{sym, ap, ◌∙◌, set, map, length, None, arith, get_or-set_same}
use Rattle.std.proofs.lemmas.List.{map-set, length-map}
use Rattle.std.specs.Option.{option_map}
use Rattle.vc_queue.specs.Kept.{items_of}
use Rattle.vc_queue.specs.Payloads.{payload_at}
use Rattle.vc_queue.proofs.cells.Cells.replace.Goals as goal

pub returns-clause-cell : goal.returns-clause-cell
returns-clause-cell c =
    rw c.replace.ensures.after (map-set (λ s. s.cell) c.in-Some.kept.items c.args.index c.args.stored
    ∙ ap (λ l. set l c.args.index c.args.stored.cell)
    (ap (λ k. map (λ s. s.cell) (items_of (option_map (λ v. v.items) k))) (sym c.in-Some.is) ∙ ap (λ v. v.cells) c.self.view_is))

pub returns-clause-payload : goal.returns-clause-payload
returns-clause-payload c =
    rw c.replace.ensures.after (map-set (λ s. option_map (λ v. v.items) s.payload) c.in-Some.kept.items c.args.index c.args.stored
    ∙ ap (λ l. set l c.args.index (option_map (λ v. v.items) c.args.stored.payload))
    (ap (λ k. map (λ s. option_map (λ v. v.items) s.payload) (items_of (option_map (λ v. v.items) k))) (sym c.in-Some.is)
    ∙ ap (λ v. v.payloads) c.self.view_is))

-- both lists are as long as what is kept
pub returns-clause-now : goal.returns-clause-now
returns-clause-now c =
    rw c.replace.ensures.after (ap (λ l. payload_at l c.args.index) (map-set (λ s. option_map (λ v. v.items) s.payload) c.in-Some.kept.items c.args.index c.args.stored)
    ∙ get_or-set_same (map (λ s. option_map (λ v. v.items) s.payload) c.in-Some.kept.items) c.args.index (option_map (λ v. v.items) c.args.stored.payload) None
    (omega (
      arith,
      c.requires,
      length-map c.in-Some.kept.items (λ s. option_map (λ v. v.items) s.payload),
      length-map c.in-Some.kept.items (λ s. s.cell),
      ap length (ap (λ k. map (λ s. s.cell) (items_of (option_map (λ v. v.items) k))) (sym c.in-Some.is) ∙ ap (λ v. v.cells) c.self.view_is),
    )))
