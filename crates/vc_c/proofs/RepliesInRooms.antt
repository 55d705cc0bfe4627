-- What an answer of the wire comes to in the room that C gives. The reply is the whole of what was appended, and stands there without
-- the four bytes of its length; where it does not, what was asked was done all the same.
use Rattle.std.proofs.Common.{ℕ, ◌≡◌, Bool, List, [], ◌∷◌, ◌++◌, length, drop, refl, sym, ap, ◌∙◌, subst, Option}
use Rattle.vc_base.specs.Device.{DeviceEvent}
use Rattle.vc_model.specs.Script.{Asked}
use Rattle.vc_desk.specs.declared.desk.Desk.{Desk}
use Rattle.vc_desk.specs.Desks.{IsDesk, IsSomeDesk}
use Rattle.vc_wire.specs.Answers.{events_by, IsAnswered, IsUntold}
use Rattle.vc_c.specs.Calls.{Room, IsReplied, IsLost}

pub replied :
    (n : ℕ) (history : List DeviceEvent) (asked : Option Asked) (before out bytes room now : List ℕ) (fault : Bool) (runs runs' faults faults' : ℕ) (desk : Desk)
    → IsAnswered n history asked before out fault runs runs' faults faults' desk → before ≡ [] → bytes ≡ drop 4 out → now ≡ bytes ++ drop (length bytes) room
    → IsReplied n history asked (record { before = room; now = now; size = length bytes }) desk
replied n history asked before out bytes room now fault runs runs' faults faults' desk a first cut put =
    let is : bytes ≡ drop 4 a.reply = cut ∙ ap (drop 4) (a.appended ∙ ap (λ t. t ++ a.reply) first) in
    record {
      fails = a.fails;
      reply = a.reply;
      told = a.told;
      choice_read = a.choice_read;
      size = ap length is;
      written = put ∙ ap (λ t. t ++ drop (length bytes) room) is;
      at = a.at;
    }

pub lost_reply :
    (n : ℕ) (history : List DeviceEvent) (asked : Option Asked) (before out room : List ℕ) (fault : Bool) (runs runs' faults faults' : ℕ) (desk : Desk)
    → IsAnswered n history asked before out fault runs runs' faults faults' desk → IsLost n history asked (record { before = room; now = room; size = 0 }) desk
lost_reply n history asked before out room fault runs runs' faults faults' desk a =
    record { fails = a.fails; untold = (refl, refl); at = a.at }

pub untold_reply :
    (n : ℕ) (history : List DeviceEvent) (asked : Option Asked) (before out room : List ℕ) (runs runs' faults faults' : ℕ) (desk : Desk)
    → IsUntold n history asked before out runs runs' faults faults' desk → IsLost n history asked (record { before = room; now = room; size = 0 }) desk
untold_reply n history asked before out room runs runs' faults faults' desk u =
    record { fails = u.fails; untold = (refl, refl); at = u.at }
