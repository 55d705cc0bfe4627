use Rattle.std.proofs.Common.{◌≡◌, ◌∙◌, sym, length, take, arith, length-take}
use Rattle.vc_frame.proofs.AreasArePictures.{cut_is_picture}
use Rattle.vc_frame.proofs.RawOrdersBothWays.{packed, turned_else, parted_packed, parted_turned}
use Rattle.vc_frame.proofs.order.part.Goals as goal

pub gather-requires : goal.gather-requires
gather-requires c k below = omega (arith, (packed c.args.fourcc c.args.geometry.now c.requires.raw_format (sym c.eq.ensures ∙ c.if-eq.true)).twice)

pub gather-requires-then-eq : goal.gather-requires-then-eq
gather-requires-then-eq c k below =
    omega (arith, (packed c.args.fourcc c.args.geometry.now c.requires.raw_format (sym c.eq.ensures ∙ c.if-eq.true)).twice, c.sample_counts-samples.ensures.luma, c.sample_counts-samples.ensures.chroma, c.sample_counts-samples.ensures.total, c.requires.whole, c.split_at_mut-first.ensures.front_len)

pub gather-requires-then-eq-2 : goal.gather-requires-then-eq-2
gather-requires-then-eq-2 c k below =
    omega (
      arith,
      (packed c.args.fourcc c.args.geometry.now c.requires.raw_format (sym c.eq.ensures ∙ c.if-eq.true)).twice,
      c.sample_counts-samples.ensures.luma,
      c.sample_counts-samples.ensures.chroma,
      c.sample_counts-samples.ensures.total,
      c.requires.whole,
      length-take
          c.sample_counts-samples.result.1 c.split_at_mut-first.result.1.now,
    )

pub returns-then-eq-clause-planes : goal.returns-then-eq-clause-planes
returns-then-eq-clause-planes c =
    parted_packed c.args.fourcc c.args.geometry.now c.args.raw.now c.gather.new.to c.gather-then-eq.new.to c.gather-then-eq-2.new.to _ _ _ _
    (packed c.args.fourcc c.args.geometry.now c.requires.raw_format (sym c.eq.ensures ∙ c.if-eq.true))
    (c.split_at_mut-luma.ensures.front_len ∙ c.sample_counts-samples.ensures.luma) (c.split_at_mut-first.ensures.front_len ∙ c.sample_counts-samples.ensures.chroma)
    (let e : length (take c.sample_counts-samples.result.1 c.split_at_mut-first.result.1.now) ≡ c.sample_counts-samples.result.1 = omega (arith, length-take c.sample_counts-samples.result.1 c.split_at_mut-first.result.1.now) in e ∙ c.sample_counts-samples.ensures.chroma)
    c.gather.ensures c.gather-then-eq.ensures c.gather-then-eq-2.ensures

pub returns-else-eq-clause-planes : goal.returns-else-eq-clause-planes
returns-else-eq-clause-planes c =
    parted_turned c.args.fourcc c.args.geometry.now c.args.raw.now c.copy_from_slice.new.self c.gather-else-eq.new.to c.gather-else-eq-2.new.to _ c.sample_counts-samples.result.0 _ _
    (turned_else c.args.fourcc c.args.geometry.now c.requires.raw_format c.requires.other (sym c.eq.ensures ∙ c.if-eq.false))
    c.sample_counts-samples.ensures.luma (c.split_at_mut-first.ensures.front_len ∙ c.sample_counts-samples.ensures.chroma)
    (let e : length (take c.sample_counts-samples.result.1 c.split_at_mut-first.result.1.now) ≡ c.sample_counts-samples.result.1 = omega (arith, length-take c.sample_counts-samples.result.1 c.split_at_mut-first.result.1.now) in e ∙ c.sample_counts-samples.ensures.chroma)
    (omega (arith, c.sample_counts-samples.ensures.total, c.requires.whole))
    c.copy_from_slice.ensures.after c.gather-else-eq.ensures c.gather-else-eq-2.ensures

pub returns-then-eq-clause-picture : goal.returns-then-eq-clause-picture
returns-then-eq-clause-picture c =
    cut_is_picture c.args.geometry.now _ (omega (arith, c.requires.room, c.split_at_mut-luma.ensures.front_len, c.split_at_mut-luma.ensures.back_len)) c.type_inv.planes
