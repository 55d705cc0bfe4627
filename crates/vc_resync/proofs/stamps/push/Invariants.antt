use Rattle.std.proofs.Common.{◌≡◌, ◌++◌, replicate}
use Rattle.circular_buffer.specs.Buffer.{keep_last}
use Rattle.vc_resync.specs.Stamping.{HasPlaces}
use Rattle.vc_resync.proofs.stamps.push.Given as goal

abbrev pub invariant-loop-turn : goal.invariant-loop-turn
invariant-loop-turn l = record {
  places : HasPlaces l.last;
  items : l.last.items ≡ keep_last 43 (l.initial.last.items ++ replicate l._turn l.stamp);
}
