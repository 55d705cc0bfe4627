-- What stays of a port beside another one.
use Rattle.std.specs.Prelude.{◌≡◌, List}
use Rattle.std.proofs.Common.{refl, ap, ◌∙◌}
use Rattle.vc_model.specs.Solo.{SoloEvent}
use Rattle.vc_queue.specs.Holds.{HoldState}
use Rattle.vc_port.specs.Payloads.{AreKept}

pub kept_self : (events : List SoloEvent) (hold : HoldState) → AreKept events hold events hold
kept_self events hold = record { events = refl; payloads = refl }

pub kept_on : (a b c : List SoloEvent) (h k l : HoldState) → AreKept a h b k → AreKept b k c l → AreKept a h c l
kept_on a b c h k l x y = record { events = y.events ∙ x.events; payloads = y.payloads ∙ x.payloads }

pub kept_by_other : {S : Type 0} (events : S → List SoloEvent) (hold : S → HoldState) (p q : S) → q ≡ p → AreKept (events p) (hold p) (events q) (hold q)
kept_by_other events hold p q e = record { events = ap events e; payloads = ap hold e }
