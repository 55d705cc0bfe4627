use Rattle.std.proofs.Common.{◌≡◌, ◌∙◌, sym, ap, ℕ, ◌≤◌, ◌-◌, ◌+◌, ◌*◌, length, take, drop, arith, length-drop, length-take}
use Rattle.std.specs.Prelude.{true, nat_lt}
use Rattle.std.specs.List.{list_all}
use Rattle.std.specs.declared.option.Option.TheVariants.{Some}
use Rattle.std.proofs.lemmas.List.{drop-drop}
use Rattle.vc_defs.specs.Planes.{padded, block_count, unpadded}
use Rattle.vc_plane.proofs.RawPlanesBothWays.{padded_size, raw_too_short, raw_not_samples, raw_read}
use Rattle.vc_plane.proofs.reading.read_raw.Goals as goal

-- the size of the padded plane, as the code has it
size_is : (at count width height : ℕ) → count ≡ block_count width height → at + 64 * count - at ≡ padded width * padded height
size_is at count width height e = let f : at + 64 * count - at ≡ 64 * count = omega arith in f ∙ ap (λ n. 64 * n) e ∙ sym (padded_size width height)

pub returns-then-body-at-clause-damaged : goal.returns-then-body-at-clause-damaged
returns-then-body-at-clause-damaged c =
    raw_too_short c.args.shape.now.inter c.args.reference.now (drop c.args.at c.args.body.now) c.args.shape.now.width c.args.shape.now.height
    (omega (arith, length-drop c.args.at c.args.body.now, padded_size c.args.shape.now.width c.args.shape.now.height, c.block_count-count.ensures, c.if-body-at.true))

pub returns-then-not-are_samples-clause-damaged : goal.returns-then-not-are_samples-clause-damaged
returns-then-not-are_samples-clause-damaged c =
    let e : c.args.at + 64 * c.block_count-count.result - c.args.at ≡ padded c.args.shape.now.width * padded c.args.shape.now.height = size_is c.args.at c.block_count-count.result c.args.shape.now.width c.args.shape.now.height c.block_count-count.ensures in
    raw_not_samples c.args.shape.now.inter c.args.reference.now (drop c.args.at c.args.body.now) c.args.shape.now.width c.args.shape.now.height
    (ap (λ n. list_all (λ b. nat_lt b 255) (take n (drop c.args.at c.args.body.now))) (sym e) ∙ sym c.if-not-are_samples.ensures)

pub unpad-requires-clause-bytes : goal.unpad-requires-clause-bytes
unpad-requires-clause-bytes c =
    let e : c.args.at + 64 * c.block_count-count.result - c.args.at ≡ padded c.args.shape.now.width * padded c.args.shape.now.height = size_is c.args.at c.block_count-count.result c.args.shape.now.width c.args.shape.now.height c.block_count-count.ensures in
    omega (arith, e, length-take (c.args.at + 64 * c.block_count-count.result - c.args.at) (drop c.args.at c.args.body.now), length-drop c.args.at c.args.body.now, c.if-body-at.false)

pub returns-clause-ok : goal.returns-clause-ok
returns-clause-ok c =
    let e : c.args.at + 64 * c.block_count-count.result - c.args.at ≡ padded c.args.shape.now.width * padded c.args.shape.now.height = size_is c.args.at c.block_count-count.result c.args.shape.now.width c.args.shape.now.height c.block_count-count.ensures in
    let le : padded c.args.shape.now.width * padded c.args.shape.now.height ≤ length (drop c.args.at c.args.body.now) = omega (arith, e, length-drop c.args.at c.args.body.now, c.if-body-at.false) in
    let end : c.args.at + padded c.args.shape.now.width * padded c.args.shape.now.height ≡ c.args.at + 64 * c.block_count-count.result = omega (arith, e) in
    let samples : list_all (λ b. nat_lt b 255) (take (padded c.args.shape.now.width * padded c.args.shape.now.height) (drop c.args.at c.args.body.now)) ≡ true =
    ap (λ n. list_all (λ b. nat_lt b 255) (take n (drop c.args.at c.args.body.now))) (sym e) ∙ sym c.if-not-are_samples.ensures in
    let is : c.unpad.new.plane ≡ unpadded (take (padded c.args.shape.now.width * padded c.args.shape.now.height) (drop c.args.at c.args.body.now)) c.args.shape.now.width c.args.shape.now.height =
    c.unpad.ensures ∙ ap (λ n. unpadded (take n (drop c.args.at c.args.body.now)) c.args.shape.now.width c.args.shape.now.height) e in
    record {
      inside = (omega arith, omega (arith, le, end, length-drop c.args.at c.args.body.now));
      is = raw_read c.args.shape.now.inter c.args.reference.now c.unpad.new.plane (drop c.args.at c.args.body.now) c.args.shape.now.width c.args.shape.now.height le samples is
          ∙ ap (λ t. Some (c.unpad.new.plane, t)) (drop-drop (padded c.args.shape.now.width * padded c.args.shape.now.height) c.args.at c.args.body.now ∙ ap (λ n. drop n c.args.body.now) end);
    }
