use Rattle.vc_resync.specs.Collecting.{kept_in}
use Rattle.vc_resync.proofs.FieldsStaySound.{kept_nothing}
use Rattle.vc_resync.proofs.assembly.Assembly.make.Goals as goal

pub invariant_of-result : goal.invariant_of-result
invariant_of-result c = record {
  sound = c.in_ok-collected.ensures.sound;
  places = c.in_ok-stamps.ensures.places;
  kept = kept_nothing c.in_ok-collected.collected.limit (kept_in c.in_ok-collected.collected) c.in_ok-stamps.stamps.first c.in_ok-stamps.stamps.last.items c.in_ok-collected.ensures.nothing c.in_ok-stamps.ensures.first c.in_ok-stamps.ensures.last;
  fits = tt;
}
