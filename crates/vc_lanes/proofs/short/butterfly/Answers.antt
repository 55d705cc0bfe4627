use Rattle.std.proofs.Common.{◌≢◌, ◌≡◌, ◌∙◌, ap, ℕ, ◌<◌, ◌≤◌, ◌+◌, ◌-◌, ◌*◌, ◌/◌, length, get_or, map, arith}
use Rattle.std.specs.Prelude.{pos, neg_ℤ, ◌+ℤ◌, ◌-ℤ◌, ◌≤ℤ◌}
use Rattle.std.specs.Int.{w16}
use mir.Val.{to_z, of_z}
use Rattle.vc_lanes.proofs.ShortLanesAreExact.{lanes_back, passed_on, row_bounds, lane_of_two, sum_bounds, difference_bounds}
use Rattle.vc_lanes.proofs.WeavingKeepsLanes.{Small, woven_small, turned_sum, turned_difference}
use Rattle.vc_lanes.proofs.short.butterfly.Goals as goal

pub plus-sum-requires-clause-a_bounds : goal.plus-sum-requires-clause-a_bounds
plus-sum-requires-clause-a_bounds c =
    rw (passed_on c.args.x.now c.row_at-top.result c.args.row c.told-x (omega arith) c.row_at-top.ensures c.requires.bounds) (row_bounds c.args.x.now c.row_at-top.result c.args.row c.told-x (omega arith) c.row_at-top.ensures c.requires.bounds)

pub plus-sum-requires-clause-b_bounds : goal.plus-sum-requires-clause-b_bounds
plus-sum-requires-clause-b_bounds c =
    rw (passed_on c.args.x.now c.row_at-low.result (c.args.row + 4) c.told-x (omega arith) c.row_at-low.ensures c.requires.bounds) (row_bounds c.args.x.now c.row_at-low.result (c.args.row + 4) c.told-x (omega arith) c.row_at-low.ensures c.requires.bounds)

pub minus-difference-requires-clause-a_bounds : goal.minus-difference-requires-clause-a_bounds
minus-difference-requires-clause-a_bounds c =
    rw (passed_on c.args.x.now c.row_at-top.result c.args.row c.told-x (omega arith) c.row_at-top.ensures c.requires.bounds) (row_bounds c.args.x.now c.row_at-top.result c.args.row c.told-x (omega arith) c.row_at-top.ensures c.requires.bounds)

pub minus-difference-requires-clause-b_bounds : goal.minus-difference-requires-clause-b_bounds
minus-difference-requires-clause-b_bounds c =
    rw (passed_on c.args.x.now c.row_at-low.result (c.args.row + 4) c.told-x (omega arith) c.row_at-low.ensures c.requires.bounds) (row_bounds c.args.x.now c.row_at-low.result (c.args.row + 4) c.told-x (omega arith) c.row_at-low.ensures c.requires.bounds)

pub first_woven-requires-clause-a_bounds : goal.first_woven-requires-clause-a_bounds
first_woven-requires-clause-a_bounds c =
    let top = passed_on c.args.x.now c.row_at-top.result c.args.row c.told-x (omega arith) c.row_at-top.ensures c.requires.bounds in
    let low = passed_on c.args.x.now c.row_at-low.result (c.args.row + 4) c.told-x (omega arith) c.row_at-low.ensures c.requires.bounds in
    let sums : Small c.plus-sum.result = sum_bounds c.args.x.now c.row_at-top.result c.row_at-low.result c.plus-sum.result c.args.row (c.args.row + 4) c.told-x (omega arith)
    (omega arith) c.row_at-top.ensures c.row_at-low.ensures (rw (top, low) at c.plus-sum.ensures) (omega arith) c.requires.bounds in
    rw (lanes_back c.plus-sum.result sums) sums

pub first_woven-requires-clause-b_bounds : goal.first_woven-requires-clause-b_bounds
first_woven-requires-clause-b_bounds c =
    let top = passed_on c.args.x.now c.row_at-top.result c.args.row c.told-x (omega arith) c.row_at-top.ensures c.requires.bounds in
    let low = passed_on c.args.x.now c.row_at-low.result (c.args.row + 4) c.told-x (omega arith) c.row_at-low.ensures c.requires.bounds in
    let gaps : Small c.minus-difference.result = difference_bounds c.args.x.now c.row_at-top.result c.row_at-low.result c.minus-difference.result c.args.row (c.args.row + 4) c.told-x
    (omega arith) (omega arith) c.row_at-top.ensures c.row_at-low.ensures (rw (top, low) at c.minus-difference.ensures) (omega arith) c.requires.bounds in
    rw (lanes_back c.minus-difference.result gaps) gaps

pub second_woven-requires-clause-a_bounds : goal.second_woven-requires-clause-a_bounds
second_woven-requires-clause-a_bounds c =
    let top = passed_on c.args.x.now c.row_at-top.result c.args.row c.told-x (omega arith) c.row_at-top.ensures c.requires.bounds in
    let low = passed_on c.args.x.now c.row_at-low.result (c.args.row + 4) c.told-x (omega arith) c.row_at-low.ensures c.requires.bounds in
    let sums : Small c.plus-sum.result = sum_bounds c.args.x.now c.row_at-top.result c.row_at-low.result c.plus-sum.result c.args.row (c.args.row + 4) c.told-x (omega arith)
    (omega arith) c.row_at-top.ensures c.row_at-low.ensures (rw (top, low) at c.plus-sum.ensures) (omega arith) c.requires.bounds in
    rw (lanes_back c.plus-sum.result sums) sums

pub second_woven-requires-clause-b_bounds : goal.second_woven-requires-clause-b_bounds
second_woven-requires-clause-b_bounds c =
    let top = passed_on c.args.x.now c.row_at-top.result c.args.row c.told-x (omega arith) c.row_at-top.ensures c.requires.bounds in
    let low = passed_on c.args.x.now c.row_at-low.result (c.args.row + 4) c.told-x (omega arith) c.row_at-low.ensures c.requires.bounds in
    let gaps : Small c.minus-difference.result = difference_bounds c.args.x.now c.row_at-top.result c.row_at-low.result c.minus-difference.result c.args.row (c.args.row + 4) c.told-x
    (omega arith) (omega arith) c.row_at-top.ensures c.row_at-low.ensures (rw (top, low) at c.minus-difference.ensures) (omega arith) c.requires.bounds in
    rw (lanes_back c.minus-difference.result gaps) gaps

pub put_row-requires-clause-bounds : goal.put_row-requires-clause-bounds
put_row-requires-clause-bounds c =
    let top = passed_on c.args.x.now c.row_at-top.result c.args.row c.told-x (omega arith) c.row_at-top.ensures c.requires.bounds in
    let low = passed_on c.args.x.now c.row_at-low.result (c.args.row + 4) c.told-x (omega arith) c.row_at-low.ensures c.requires.bounds in
    let sums : Small c.plus-sum.result = sum_bounds c.args.x.now c.row_at-top.result c.row_at-low.result c.plus-sum.result c.args.row (c.args.row + 4) c.told-x (omega arith)
    (omega arith) c.row_at-top.ensures c.row_at-low.ensures (rw (top, low) at c.plus-sum.ensures) (omega arith) c.requires.bounds in
    let gaps : Small c.minus-difference.result = difference_bounds c.args.x.now c.row_at-top.result c.row_at-low.result c.minus-difference.result c.args.row (c.args.row + 4) c.told-x
    (omega arith) (omega arith) c.row_at-top.ensures c.row_at-low.ensures (rw (top, low) at c.minus-difference.ensures) (omega arith) c.requires.bounds in
    let sums_back = lanes_back c.plus-sum.result sums in
    let gaps_back = lanes_back c.minus-difference.result gaps in
    let first : Small c.first_woven.result = woven_small c.plus-sum.result c.minus-difference.result c.first_woven.result (λ j. j) (λ j h'. omega arith) (omega arith)
    (omega arith) c.first_woven.ensures.long sums gaps (rw (sums_back) at c.first_woven.ensures.even) (rw (gaps_back) at c.first_woven.ensures.odd) in
    rw (lanes_back c.first_woven.result first) first

pub put_row-requires-2-clause-bounds : goal.put_row-requires-2-clause-bounds
put_row-requires-2-clause-bounds c =
    let top = passed_on c.args.x.now c.row_at-top.result c.args.row c.told-x (omega arith) c.row_at-top.ensures c.requires.bounds in
    let low = passed_on c.args.x.now c.row_at-low.result (c.args.row + 4) c.told-x (omega arith) c.row_at-low.ensures c.requires.bounds in
    let sums : Small c.plus-sum.result = sum_bounds c.args.x.now c.row_at-top.result c.row_at-low.result c.plus-sum.result c.args.row (c.args.row + 4) c.told-x (omega arith)
    (omega arith) c.row_at-top.ensures c.row_at-low.ensures (rw (top, low) at c.plus-sum.ensures) (omega arith) c.requires.bounds in
    let gaps : Small c.minus-difference.result = difference_bounds c.args.x.now c.row_at-top.result c.row_at-low.result c.minus-difference.result c.args.row (c.args.row + 4) c.told-x
    (omega arith) (omega arith) c.row_at-top.ensures c.row_at-low.ensures (rw (top, low) at c.minus-difference.ensures) (omega arith) c.requires.bounds in
    let sums_back = lanes_back c.plus-sum.result sums in
    let gaps_back = lanes_back c.minus-difference.result gaps in
    let second : Small c.second_woven.result = woven_small c.plus-sum.result c.minus-difference.result c.second_woven.result (λ j. 4 + j) (λ j h'. omega arith) (omega arith)
    (omega arith) c.second_woven.ensures.long sums gaps (rw (sums_back) at c.second_woven.ensures.even) (rw (gaps_back) at c.second_woven.ensures.odd) in
    rw (lanes_back c.second_woven.result second) second

pub returns-clause-sums : goal.returns-clause-sums
returns-clause-sums c v h =
    let top = passed_on c.args.x.now c.row_at-top.result c.args.row c.told-x (omega arith) c.row_at-top.ensures c.requires.bounds in
    let low = passed_on c.args.x.now c.row_at-low.result (c.args.row + 4) c.told-x (omega arith) c.row_at-low.ensures c.requires.bounds in
    let sums : Small c.plus-sum.result = sum_bounds c.args.x.now c.row_at-top.result c.row_at-low.result c.plus-sum.result c.args.row (c.args.row + 4) c.told-x (omega arith)
    (omega arith) c.row_at-top.ensures c.row_at-low.ensures (rw (top, low) at c.plus-sum.ensures) (omega arith) c.requires.bounds in
    let gaps : Small c.minus-difference.result = difference_bounds c.args.x.now c.row_at-top.result c.row_at-low.result c.minus-difference.result c.args.row (c.args.row + 4) c.told-x
    (omega arith) (omega arith) c.row_at-top.ensures c.row_at-low.ensures (rw (top, low) at c.minus-difference.ensures) (omega arith) c.requires.bounds in
    let sums_back = lanes_back c.plus-sum.result sums in
    let gaps_back = lanes_back c.minus-difference.result gaps in
    let first : Small c.first_woven.result = woven_small c.plus-sum.result c.minus-difference.result c.first_woven.result (λ j. j) (λ j h'. omega arith) (omega arith)
    (omega arith) c.first_woven.ensures.long sums gaps (rw (sums_back) at c.first_woven.ensures.even) (rw (gaps_back) at c.first_woven.ensures.odd) in
    let second : Small c.second_woven.result = woven_small c.plus-sum.result c.minus-difference.result c.second_woven.result (λ j. 4 + j) (λ j h'. omega arith) (omega arith)
    (omega arith) c.second_woven.ensures.long sums gaps (rw (sums_back) at c.second_woven.ensures.even) (rw (gaps_back) at c.second_woven.ensures.odd) in
    turned_sum c.args.x.now c.put_row-2.new.y c.args.row v c.requires.row h _
    (λ lt.
    c.put_row-2.ensures.kept (8 * (2 * c.args.row) + (2 * v)) (omega arith)
    ∙ c.put_row.ensures.written (2 * v) (omega arith)
    ∙ ap (λ t. get_or t (2 * v) (pos 0)) (lanes_back c.first_woven.result first)
    ∙ c.first_woven.ensures.even v lt
    ∙ ap (λ t. get_or t v (pos 0)) sums_back
    ∙ lane_of_two (λ x y. x +ℤ y) c.args.x.now c.row_at-top.result c.row_at-low.result c.plus-sum.result c.args.row (c.args.row + 4) c.told-x (omega arith) (omega arith) c.row_at-top.ensures c.row_at-low.ensures (rw (top, low) at c.plus-sum.ensures) v h)
    (λ ge.
    let on : 4 + (v - 4) ≡ v = omega arith in
    c.put_row-2.ensures.written (2 * (v - 4)) (omega arith)
    ∙ ap (λ t. get_or t (2 * (v - 4)) (pos 0)) (lanes_back c.second_woven.result second)
    ∙ c.second_woven.ensures.even (v - 4) (omega arith)
    ∙ ap (λ t. get_or t (4 + (v - 4)) (pos 0)) sums_back
    ∙ ap (λ j. get_or c.plus-sum.result j (pos 0)) on
    ∙ lane_of_two (λ x y. x +ℤ y) c.args.x.now c.row_at-top.result c.row_at-low.result c.plus-sum.result c.args.row (c.args.row + 4) c.told-x (omega arith) (omega arith) c.row_at-top.ensures c.row_at-low.ensures (rw (top, low) at c.plus-sum.ensures) v h)

pub returns-clause-differences : goal.returns-clause-differences
returns-clause-differences c v h =
    let top = passed_on c.args.x.now c.row_at-top.result c.args.row c.told-x (omega arith) c.row_at-top.ensures c.requires.bounds in
    let low = passed_on c.args.x.now c.row_at-low.result (c.args.row + 4) c.told-x (omega arith) c.row_at-low.ensures c.requires.bounds in
    let sums : Small c.plus-sum.result = sum_bounds c.args.x.now c.row_at-top.result c.row_at-low.result c.plus-sum.result c.args.row (c.args.row + 4) c.told-x (omega arith)
    (omega arith) c.row_at-top.ensures c.row_at-low.ensures (rw (top, low) at c.plus-sum.ensures) (omega arith) c.requires.bounds in
    let gaps : Small c.minus-difference.result = difference_bounds c.args.x.now c.row_at-top.result c.row_at-low.result c.minus-difference.result c.args.row (c.args.row + 4) c.told-x
    (omega arith) (omega arith) c.row_at-top.ensures c.row_at-low.ensures (rw (top, low) at c.minus-difference.ensures) (omega arith) c.requires.bounds in
    let sums_back = lanes_back c.plus-sum.result sums in
    let gaps_back = lanes_back c.minus-difference.result gaps in
    let first : Small c.first_woven.result = woven_small c.plus-sum.result c.minus-difference.result c.first_woven.result (λ j. j) (λ j h'. omega arith) (omega arith)
    (omega arith) c.first_woven.ensures.long sums gaps (rw (sums_back) at c.first_woven.ensures.even) (rw (gaps_back) at c.first_woven.ensures.odd) in
    let second : Small c.second_woven.result = woven_small c.plus-sum.result c.minus-difference.result c.second_woven.result (λ j. 4 + j) (λ j h'. omega arith) (omega arith)
    (omega arith) c.second_woven.ensures.long sums gaps (rw (sums_back) at c.second_woven.ensures.even) (rw (gaps_back) at c.second_woven.ensures.odd) in
    turned_difference c.args.x.now c.put_row-2.new.y c.args.row v c.requires.row h _
    (λ lt.
    c.put_row-2.ensures.kept (8 * (2 * c.args.row) + (2 * v + 1)) (omega arith)
    ∙ c.put_row.ensures.written (2 * v + 1) (omega arith)
    ∙ ap (λ t. get_or t (2 * v + 1) (pos 0)) (lanes_back c.first_woven.result first)
    ∙ c.first_woven.ensures.odd v lt
    ∙ ap (λ t. get_or t v (pos 0)) gaps_back
    ∙ lane_of_two (λ x y. x -ℤ y) c.args.x.now c.row_at-top.result c.row_at-low.result c.minus-difference.result c.args.row (c.args.row + 4) c.told-x (omega arith) (omega arith) c.row_at-top.ensures c.row_at-low.ensures (rw (top, low) at c.minus-difference.ensures) v h)
    (λ ge.
    let on : 4 + (v - 4) ≡ v = omega arith in
    c.put_row-2.ensures.written (2 * (v - 4) + 1) (omega arith)
    ∙ ap (λ t. get_or t (2 * (v - 4) + 1) (pos 0)) (lanes_back c.second_woven.result second)
    ∙ c.second_woven.ensures.odd (v - 4) (omega arith)
    ∙ ap (λ t. get_or t (4 + (v - 4)) (pos 0)) gaps_back
    ∙ ap (λ j. get_or c.minus-difference.result j (pos 0)) on
    ∙ lane_of_two (λ x y. x -ℤ y) c.args.x.now c.row_at-top.result c.row_at-low.result c.minus-difference.result c.args.row (c.args.row + 4) c.told-x (omega arith) (omega arith) c.row_at-top.ensures c.row_at-low.ensures (rw (top, low) at c.minus-difference.ensures) v h)
