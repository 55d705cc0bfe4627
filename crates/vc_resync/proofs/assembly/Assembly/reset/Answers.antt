use Rattle.vc_resync.specs.Collecting.{kept_in}
use Rattle.vc_resync.proofs.FieldsStaySound.{kept_nothing}
use Rattle.vc_resync.proofs.assembly.Assembly.reset.Goals as goal

pub invariant_of-self : goal.invariant_of-self
invariant_of-self c = record {
  sound = c.clear.ensures.sound;
  places = c.clear-2.ensures.places;
  kept = kept_nothing c.clear.new.self.limit (kept_in c.clear.new.self) c.clear-2.new.self.first c.clear-2.new.self.last.items c.clear.ensures.nothing c.clear-2.ensures.first c.clear-2.ensures.last;
  fits = tt;
}
