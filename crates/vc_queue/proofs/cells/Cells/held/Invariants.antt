use Rattle.std.proofs.Common.{◌≡◌, None, map, replicate, vec_len, vec_capacity}
use Rattle.std.specs.Option.{option_map}
use Rattle.vc_queue.specs.Growing.{new_cell}
use Rattle.vc_queue.proofs.cells.Cells.held.Given as goal

abbrev pub invariant-loop : goal.invariant-loop
invariant-loop l =
    (map (λ s. s.cell) l.kept.items ≡ replicate l.counter (new_cell l.size))
    × (map (λ s. option_map (λ v. v.items) s.payload) l.kept.items ≡ replicate l.counter None)
    × (vec_len l.kept ≡ l.counter)
    × (vec_capacity l.kept ≡ l.number)
