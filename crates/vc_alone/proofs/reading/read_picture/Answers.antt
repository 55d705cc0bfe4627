use Rattle.std.proofs.Common.{ℕ, ◌≡◌, ◌≤◌, ◌+◌, ◌-◌, ◌++◌, List, length, take, sym, ap, ◌∙◌, subst, arith, length-take}
use Rattle.std.proofs.lemmas.List.{take-append-le}
use Rattle.std.proofs.Math.Seq.{take-append-add}
use Rattle.std.specs.Io.KnownBytes.{Consumes}
use Rattle.std.proofs.KnownBytes.{Consumes-trans}
use borrow.Rule.Slice.PartMut.{put_mid, mid_of, post_of, same_len_mid, mid_len}
use Rattle.vc_alone.proofs.reading.read_picture.Goals as goal

read_so_far : (p buf : List ℕ) (at n : ℕ) → at ≤ length p → n ≤ length buf → take (at + n) (put_mid at (length p - at) p buf) ≡ take at p ++ take n buf
read_so_far p buf at n l m =
    let long : at ≡ length (take at p) = omega (arith, length-take at p, l) in
    ap (λ (a : ℕ). take (a + n) (put_mid at (length p - at) p buf)) long
    ∙ (take-append-add (take at p) (buf ++ post_of at (length p - at) p) n ∙ ap (λ (z : List ℕ). take at p ++ z) (take-append-le n buf (post_of at (length p - at) p) m))

pub reading-preserved : goal.reading-preserved
reading-preserved g c =
    let i = c.reading.invariant in
    let p = c.reading.picture in
    let buf = c.read.new.buf in
    let at = c.reading.at in
    let n = c.in-Ok.count in
    let part : length buf ≡ length (mid_of at (length p - at) p) = c.read.auto.buf in
    let size = same_len_mid at (length p - at) p buf part in
    let room : length buf ≡ length p - at = part ∙ mid_len at (length p) p (omega arith) in
    let bound : n ≤ length buf = c.in-Ok.ensures.bound.0 in
    let read = Consumes-trans _ _ _ _ _ i.2 c.in-Ok.ensures.bytes.0 in
    let still = c.in-Ok.ensures.quiet in (
      size ∙ i.0,
      omega (arith, size, bound, room, i.1),
      subst (Consumes (g.S.Source.left c.args.source.now) (g.S.Source.left c.read.new.self)) (sym (read_so_far p buf at n i.1 bound)) read,
      still ∙ i.3,
    )
