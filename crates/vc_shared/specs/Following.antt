-- A seat before and after: it is the same seat, and what it knows only grew.
use Rattle.std.specs.Prelude.{◌≡◌, refl}
use Rattle.std.proofs.Common.{◌∙◌}
use mathlib.Core.List.{IsPrefix}
use Rattle.vc_model.specs.Seats.{Seat}
use Rattle.vc_turn.proofs.ListsByPlace.{prefix_self, prefix_trans}
use Rattle.vc_shared.specs.Handles.{HandleState}
use Rattle.vc_shared.specs.Workers.{WorkerState}

-- It has seen more of the history, and has more entries there.
pub record SeatGrows (old new : Seat) : Type 0 where
  pub seen : IsPrefix old.seen new.seen
  pub mine : IsPrefix old.mine new.mine

-- The handle is one of the same slot of the same device.
pub record HandleFollows (old new : HandleState) : Type 0 where
  pub device : new.device ≡ old.device
  pub slot : new.slot ≡ old.slot
  pub knows : SeatGrows old.seat new.seat

-- The seat is one of the same worker of the same device.
pub record WorkerFollows (old new : WorkerState) : Type 0 where
  pub device : new.device ≡ old.device
  pub worker : new.worker ≡ old.worker
  pub knows : SeatGrows old.seat new.seat

-- Each follows itself, and what follows one that follows it.
pub grows_self : (s : Seat) → SeatGrows s s
grows_self s = record { seen = prefix_self s.seen; mine = prefix_self s.mine }

pub grows_on : (s t u : Seat) → SeatGrows s t → SeatGrows t u → SeatGrows s u
grows_on s t u f g =
    record { seen = prefix_trans s.seen t.seen u.seen f.seen g.seen; mine = prefix_trans s.mine t.mine u.mine f.mine g.mine }

pub handle_follows_self : (h : HandleState) → HandleFollows h h
handle_follows_self h = record { device = refl; slot = refl; knows = grows_self h.seat }

pub handle_follows_on : (a b c : HandleState) → HandleFollows a b → HandleFollows b c → HandleFollows a c
handle_follows_on a b c f g =
    record { device = g.device ∙ f.device; slot = g.slot ∙ f.slot; knows = grows_on a.seat b.seat c.seat f.knows g.knows }

pub worker_follows_self : (w : WorkerState) → WorkerFollows w w
worker_follows_self w = record { device = refl; worker = refl; knows = grows_self w.seat }

pub worker_follows_on : (a b c : WorkerState) → WorkerFollows a b → WorkerFollows b c → WorkerFollows a c
worker_follows_on a b c f g =
    record { device = g.device ∙ f.device; worker = g.worker ∙ f.worker; knows = grows_on a.seat b.seat c.seat f.knows g.knows }
