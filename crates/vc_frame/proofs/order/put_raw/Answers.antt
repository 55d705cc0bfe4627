use Rattle.std.proofs.Common.{◌≡◌, ◌∙◌, sym, ap, ◌+◌, ◌*◌, ◌++◌, List, ℕ, length, take, drop, refl, arith, length-take}
use Rattle.vc_defs.specs.Bodies.{plane_shapes}
use Rattle.vc_defs.specs.Raw.{cut_into, raw_of}
use Rattle.vc_frame.proofs.RawOrdersBothWays.{packed, turned_where, shown_packed, shown_turned, shown_planar}
use Rattle.vc_frame.proofs.order.put_raw.Goals as goal

pub pack-requires-clause-luma : goal.pack-requires-clause-luma
pack-requires-clause-luma c =
    omega (arith, (packed c.args.fourcc c.args.geometry.now c.requires.raw_format (sym c.eq.ensures ∙ c.if-eq.true)).twice, c.sample_counts-samples.ensures.luma, c.sample_counts-samples.ensures.chroma, c.split_at.ensures.front_len, c.split_at-2.ensures.front_len)

pub pack-requires-clause-room : goal.pack-requires-clause-room
pack-requires-clause-room c =
    omega (
      arith,
      (packed c.args.fourcc c.args.geometry.now c.requires.raw_format (sym c.eq.ensures ∙ c.if-eq.true)).twice,
      c.sample_counts-samples.ensures.luma,
      c.sample_counts-samples.ensures.chroma,
      c.sample_counts-samples.ensures.total,
      c.requires.room,
      c.split_at-2.ensures.front_len,
      length-take (c.sample_counts-samples.result.0 + 2 * c.sample_counts-samples.result.1) c.args.out.now,
    )

pub returns-then-eq : goal.returns-then-eq
returns-then-eq c =
    let p = packed c.args.fourcc c.args.geometry.now c.requires.raw_format (sym c.eq.ensures ∙ c.if-eq.true) in
    let k : length (take (c.sample_counts-samples.result.0 + 2 * c.sample_counts-samples.result.1) c.args.out.now) ≡ 2 * length c.split_at.result.0.now =
    omega (arith, p.twice, c.sample_counts-samples.ensures.luma, c.sample_counts-samples.ensures.chroma, c.sample_counts-samples.ensures.total, c.requires.room, c.split_at.ensures.front_len, length-take (c.sample_counts-samples.result.0 + 2 * c.sample_counts-samples.result.1) c.args.out.now) in
    ap (λ (x : List ℕ). x ++ drop (c.sample_counts-samples.result.0 + 2 * c.sample_counts-samples.result.1) c.args.out.now)
    (shown_packed c.args.fourcc c.args.geometry.now c.args.planes.now c.split_at.result.0.now c.split_at.result.1.now c.split_at-2.result.0.now c.split_at-2.result.1.now _ c.pack.new.to c.sample_counts-samples.result.0 c.sample_counts-samples.result.1 _ p
    c.sample_counts-samples.ensures.luma c.sample_counts-samples.ensures.chroma c.split_at.ensures.front c.split_at.ensures.back c.split_at-2.ensures.front c.split_at-2.ensures.back refl k c.pack.ensures)
    ∙ ap (λ (n : ℕ). raw_of c.args.fourcc (cut_into (plane_shapes c.args.geometry.now) c.args.planes.now) ++ drop n c.args.out.now) c.sample_counts-samples.ensures.total

pub returns-then-eq-2 : goal.returns-then-eq-2
returns-then-eq-2 c =
    ap (λ (x : List ℕ). x ++ drop (c.sample_counts-samples.result.0 + 2 * c.sample_counts-samples.result.1) c.args.out.now)
    (shown_turned c.args.fourcc c.args.geometry.now c.args.planes.now c.split_at.result.0.now c.split_at.result.1.now c.split_at-2.result.0.now c.split_at-2.result.1.now _ c.put_turns.new.to c.sample_counts-samples.result.0 c.sample_counts-samples.result.1
    (turned_where c.args.fourcc c.args.geometry.now c.requires.raw_format (sym c.eq-else-eq.ensures ∙ c.if-eq-2.true))
    c.sample_counts-samples.ensures.luma c.sample_counts-samples.ensures.chroma c.split_at.ensures.front c.split_at.ensures.back c.split_at-2.ensures.front c.split_at-2.ensures.back refl c.put_turns.ensures)
    ∙ ap (λ (n : ℕ). raw_of c.args.fourcc (cut_into (plane_shapes c.args.geometry.now) c.args.planes.now) ++ drop n c.args.out.now) c.sample_counts-samples.ensures.total

pub returns-else-eq-2 : goal.returns-else-eq-2
returns-else-eq-2 c =
    ap (λ (x : List ℕ). x ++ drop (c.sample_counts-samples.result.0 + 2 * c.sample_counts-samples.result.1) c.args.out.now)
    (shown_planar c.args.fourcc c.args.geometry.now c.args.planes.now c.copy_from_slice.new.self (c.sample_counts-samples.result.0 + 2 * c.sample_counts-samples.result.1) c.requires.raw_format
    (sym c.eq.ensures ∙ c.if-eq.false) (sym c.eq-else-eq.ensures ∙ c.if-eq-2.false) c.sample_counts-samples.ensures.total c.copy_from_slice.ensures.after)
    ∙ ap (λ (n : ℕ). raw_of c.args.fourcc (cut_into (plane_shapes c.args.geometry.now) c.args.planes.now) ++ drop n c.args.out.now) c.sample_counts-samples.ensures.total
