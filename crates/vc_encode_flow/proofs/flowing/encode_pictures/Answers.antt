use Rattle.std.proofs.Common.{◌≡◌, ◌<◌, ◌≤◌, nat_eq, length, take, arith, length-take, subst, ◌∙◌, refl}
use Rattle.std.proofs.lemmas.List.{take_all}
use Rattle.std.specs.Io.KnownBytes.{Consumes}
use Rattle.vc_flow.specs.Inputs.{IsJustLong}
use Rattle.vc_flow.proofs.Results.{on_err, passed_on}
use Rattle.vc_encode_flow.proofs.BetweenPictures.{with_both, goes, goes_on_next, goes_through, goes_wrong, goes_no_further, goes_unfed_next, read_none, read_on, read_below, stopped_below, stopped_long, is_zero, is_more}
use Rattle.vc_encode_flow.proofs.FlowsGoOn.{has_flow}
use Rattle.vc_encode_flow.proofs.flowing.encode_pictures.Goals as goal

pub loop-number-init : goal.loop-number-init
loop-number-init g c = (
  c.requires.ready,
  g.met.P.Port.follows_self _,
  refl,
  refl,
  refl,
  read_none _,
  λ start f first b a. goes start f _ first _ _ _ b a,
  c.requires.flow,
  omega arith,
  omega arith,
)

pub returns-in_err-count-clause-stopped : goal.returns-in_err-count-clause-stopped
returns-in_err-count-clause-stopped g c = λ start f first b a.
    on_err _ (goes_no_further start f _ _ first _ _ _ _ (c.loop-number.invariant.6 start f first b a))

pub returns-in_err-count-clause-below : goal.returns-in_err-count-clause-below
returns-in_err-count-clause-below g c = λ n.
    let i = c.loop-number.invariant in
    let total = i.8 in
    stopped_below _ _ c.loop-number.total _ _ _ _ c.from_residual.ensures.1 c.in_err-count.ensures.stops c.in_err-count.ensures.below i.5 (omega (arith, total)) n

pub returns-in_err-count-clause-long : goal.returns-in_err-count-clause-long
returns-in_err-count-clause-long g c = λ e.
    let i = c.loop-number.invariant in
    let total = i.8 in
    subst (λ m. IsJustLong m (g.S.Source.left c.args.source.now) (g.S.Source.left c.read_picture.new.source)) (c.in_err-count.ensures.size ∙ i.2) (stopped_long _ _ c.loop-number.total _ _ _ _ _ c.from_residual.ensures.1 c.in_err-count.ensures.long i.5 (omega (arith, total)) e)

pub returns-in_err-collect_all-clause-below : goal.returns-in_err-collect_all-clause-below
returns-in_err-collect_all-clause-below g c = λ n.
    let i = c.loop-number.invariant in
    let total = i.8 in
    let below = c.in_ok-count.ensures.room in
    read_below _ _ _ (read_on _ _ _ _ _ _ i.5 c.in_ok-count.ensures.bound c.in_ok-count.ensures.bytes) (omega (arith, total, below))

pub returns-in_err-collect_all-clause-stopped : goal.returns-in_err-collect_all-clause-stopped
returns-in_err-collect_all-clause-stopped g c = λ start f first b a.
    let w = c.loop-number.invariant.6 start f first b a in
    on_err _ (goes_wrong start f _ _ first _ _ _ _ _ _ w (c.in_err-collect_all.ensures.stopped start (with_both f w.pictures w.frames) first w.at))

pub returns-in_err-collect_all-clause-engine : goal.returns-in_err-collect_all-clause-engine
returns-in_err-collect_all-clause-engine g c = λ start f first b a e.
    let w = c.loop-number.invariant.6 start f first b a in
    c.in_err-collect_all.ensures.engine start (with_both f w.pictures w.frames) first w.at (passed_on _ _ c.from_residual-in_err-collect_all.ensures.1 e)

pub returns-then-count-picture-clause-through : goal.returns-then-count-picture-clause-through
returns-then-count-picture-clause-through g c = λ start f first b a.
    let i = c.loop-number.invariant in
    let w = i.6 start f first b a in
    let picture = c.read_picture.new.picture in
    let count = c.in_ok-count.count in
    let same : length picture ≡ length c.args.picture.now = c.in_ok-count.ensures.size ∙ i.2 in
    let short : count < length picture = omega (arith, c.if-count-picture.true, c.in_ok-count.ensures.size) in
    let number : length (take count picture) ≡ count = omega (arith, short, length-take count picture) in
    let ended = c.in_ok-count.ensures.end short in
    goes_through start f _ _ _ (nat_eq count 0) first _ _ _ _ _ _ _ (take count picture) w c.in_ok-count.ensures.bytes ended
    (omega (arith, same, short, number)) (λ q. number ∙ is_zero count q) (λ q. let some = is_more count q in omega (arith, some, number))
    (omega (arith, c.min.ensures, c.from.ensures)) (c.in_ok-collect_all.ensures.taken start (with_both f w.pictures w.frames) first w.at)

pub returns-in_err-index-clause-stopped : goal.returns-in_err-index-clause-stopped
returns-in_err-index-clause-stopped g c = λ start f first b a.
    let w = c.loop-number.invariant.6 start f first b a in
    on_err _ (goes_wrong start f _ _ first _ _ _ _ _ _ w (c.in_err-index.ensures.stopped start (with_both f w.pictures w.frames) first w.at))

pub returns-in_err-index-clause-engine : goal.returns-in_err-index-clause-engine
returns-in_err-index-clause-engine g c = λ start f first b a e.
    let w = c.loop-number.invariant.6 start f first b a in
    c.in_err-index.ensures.engine start (with_both f w.pictures w.frames) first w.at (passed_on _ _ c.from_residual-in_err-index.ensures.1 e)

pub returns-in_err-feed-clause-stopped : goal.returns-in_err-feed-clause-stopped
returns-in_err-feed-clause-stopped g c = λ start f first b a.
    let w = c.loop-number.invariant.6 start f first b a in
    let h = with_both f w.pictures w.frames in
    on_err _ (goes_unfed_next start f _ _ first _ _ _ _ _ _ _ w (λ l. c.in_ok-index.ensures.first l start h first w.at) (λ l. c.in_ok-index.ensures.later_on l start h first w.at) (λ bytes. c.in_err-feed.ensures.hands start bytes))

pub loop-number-preserved : goal.loop-number-preserved
loop-number-preserved g c =
    let i = c.loop-number.invariant in
    let picture = c.read_picture.new.picture in
    let count = c.in_ok-count.count in
    let same : length picture ≡ length c.args.picture.now = c.in_ok-count.ensures.size ∙ i.2 in
    let full : length picture ≤ count = omega (arith, c.if-count-picture.false, c.in_ok-count.ensures.size) in
    let bound = c.in_ok-count.ensures.bound in
    let below = c.in_ok-count.ensures.room in
    let total = i.8 in
    let counted = i.9 in
    let some = c.requires.size in
    let read : Consumes (g.S.Source.left c.loop-number.source) (g.S.Source.left c.read_picture.new.source) picture = subst (Consumes (g.S.Source.left c.loop-number.source) (g.S.Source.left c.read_picture.new.source)) (take_all count picture full) c.in_ok-count.ensures.bytes in
    let fed = c.in_ok-index.ensures.flow in (
      c.in_ok-feed.ensures.ready,
      g.met.P.Port.follows_on _ _ _ (g.met.P.Port.follows_on _ _ _ i.1 c.in_ok-index.ensures.follows) c.in_ok-feed.ensures.follows,
      same,
      c.in_ok-index.ensures.quiet ∙ i.3,
      c.in_ok-count.ensures.quiet ∙ i.4,
      read_on _ _ _ _ _ picture i.5 bound c.in_ok-count.ensures.bytes,
      λ start f first b a.
          let w = i.6 start f first b a in
          let h = with_both f w.pictures w.frames in
          goes_on_next start f _ _ first _ _ _ _ _ _ _ _ picture w same read (λ l. c.in_ok-index.ensures.first l start h first w.at) (λ l. c.in_ok-index.ensures.later_on l start h first w.at) (λ z. c.in_ok-feed.ensures.flow start z),
      has_flow _ _ _ (c.in_ok-feed.ensures.flow fed.start fed.so_far fed.flow),
      omega (arith, below, total),
      omega (arith, some, counted, full, same),
    )

pub returns-then-count-picture-clause-below : goal.returns-then-count-picture-clause-below
returns-then-count-picture-clause-below g c = λ n.
    let i = c.loop-number.invariant in
    let total = i.8 in
    let below = c.in_ok-count.ensures.room in
    read_below _ _ _ (read_on _ _ _ _ _ _ i.5 c.in_ok-count.ensures.bound c.in_ok-count.ensures.bytes) (omega (arith, total, below))

pub returns-in_err-index-clause-below : goal.returns-in_err-index-clause-below
returns-in_err-index-clause-below g c = λ n.
    let i = c.loop-number.invariant in
    let total = i.8 in
    let below = c.in_ok-count.ensures.room in
    read_below _ _ _ (read_on _ _ _ _ _ _ i.5 c.in_ok-count.ensures.bound c.in_ok-count.ensures.bytes) (omega (arith, total, below))

pub returns-in_err-feed-clause-below : goal.returns-in_err-feed-clause-below
returns-in_err-feed-clause-below g c = λ n.
    let i = c.loop-number.invariant in
    let total = i.8 in
    let below = c.in_ok-count.ensures.room in
    read_below _ _ _ (read_on _ _ _ _ _ _ i.5 c.in_ok-count.ensures.bound c.in_ok-count.ensures.bytes) (omega (arith, total, below))

pub unreachable-requires : goal.unreachable-requires
unreachable-requires g c =
    let i = c.loop-number.invariant in
    let total = i.8 in
    let counted = i.9 in
    let below = c.loop-number.auto.number-end in
    let ended = c.loop-number-test.false in
    omega (arith, total, counted, below, ended)
