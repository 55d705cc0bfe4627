use Rattle.std.proofs.Common.{◌≡◌, sym, ap, subst, ℕ, List, ◌+◌, ◌++◌, length, take, inl, inr}
use Rattle.std.specs.Prelude.{true}
use Rattle.vc_resync.specs.Assembling.{is_told}
use Rattle.vc_coverage.specs.declared.reach.Reach.{Reach}
use Rattle.vc_coverage.specs.Covering.{HasRead}
use Rattle.vc_coverage.proofs.FeedsReadOn.{Stands, Behind, behind}
use Rattle.vc_coverage.proofs.coverage.feed_all.Goals as goal
use Rattle.vc_coverage.proofs.coverage.feed_all.Goals.{After-feed-count}

-- what the feed of a turn does, over any bytes that were read before
turn_of : (c : After-feed-count) (bytes : List ℕ) → HasRead (record { assembly = c.args.assembly.now; read = c.args.read; reach = c.args.reach.now }) bytes →
    Behind c.args.read c.loop.taken c.feed-count.result.0 c.args.piece.now bytes c.loop.assembly c.feed-count.new.assembly c.loop.reach c.feed-count.result.1
turn_of c bytes h =
    behind c.args.read c.loop.taken c.feed-count.result.0 c.args.piece.now bytes c.loop.assembly c.feed-count.new.assembly c.loop.reach c.feed-count.result.1
    c.loop.invariant.inside (c.loop.invariant.stands bytes h) c.feed-count.ensures.taken c.feed-count.ensures.found c.feed-count.ensures.after

pub go_on-requires : goal.go_on-requires
go_on-requires c = (turn_of (goal.at.go_on-requires c).After-feed-count c.requires.was_read.bytes c.requires.was_read.has_read).header

pub returns-in-More : goal.returns-in-More
returns-in-More c bytes h =
    subst (λ (r : Reach). HasRead (record { assembly = c.feed-count.new.assembly; read = c.args.read + length c.args.piece.now; reach = r }) (bytes ++ c.args.piece.now)) (sym c.go_on.ensures)
    ((turn_of (goal.at.returns-in-More c).After-feed-count bytes h).ends c.in-More.is)

pub loop-smaller : goal.loop-smaller
loop-smaller c =
    let told : is_told c.feed-count.result.1 ≡ true = elim c.in-Head.is [
      | inl a ↦ ap is_told a.1
      | inr b ↦ elim b [ inl a ↦ ap is_told a.1 | inr a ↦ ap is_told a.1 ]
    ] in
    (turn_of (goal.at.loop-smaller c).After-feed-count c.requires.was_read.bytes c.requires.was_read.has_read).closer told

pub loop-preserved : goal.loop-preserved
loop-preserved c =
    let t = turn_of (goal.at.loop-preserved c).After-feed-count in
    record {
      inside = (t c.requires.was_read.bytes c.requires.was_read.has_read).inside;
      stands = λ bytes h.
          subst (λ (r : Reach). Stands c.feed-count.new.assembly (c.args.read + (c.loop.taken + c.feed-count.result.0)) r (bytes ++ take (c.loop.taken + c.feed-count.result.0) c.args.piece.now)) (sym c.go_on.ensures)
          (t bytes h).stands;
    }
