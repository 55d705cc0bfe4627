-- What a slot answers before memory is sought is the definitions' answer without memory, unless that is want of
-- memory alone. A closed slot refuses all but Open.
use Rattle.std.proofs.Common.{◌≡◌, false, Option, Some, None, [], refl}
use Rattle.vc_base.specs.declared.Errno.TheVariants.{NoTty}
use Rattle.vc_base.specs.declared.Kind.{Kind}
use Rattle.vc_base.specs.declared.Call.{Call}
use Rattle.vc_base.specs.declared.Call.TheVariants.{Open}
use Rattle.vc_base.specs.declared.Reply.{Reply}
use Rattle.vc_base.specs.declared.Reply.TheVariants.{Refused}
use Rattle.vc_model.specs.Context.{Context, Slot}
use Rattle.vc_model.specs.Answer.{answer, closed_answer, context_answer}
use Rattle.vc_model.specs.Core.{unless_memory, before_memory}
use Rattle.vc_core.specs.Slots.{opened_kind}

pub opened_before : (request : Call) (kind : Kind) → opened_kind request ≡ Some kind → ◌≡◌ {A = Option Reply} None (unless_memory (closed_answer request false).reply)
unfolding closed_answer
opened_before (Open k) kind e = refl
opened_before request kind e = cc

pub closed_before : (request : Call) → opened_kind request ≡ None → Some (Refused NoTty) ≡ unless_memory (closed_answer request false).reply
unfolding closed_answer
closed_before (Open k) e = cc
closed_before request e = refl

pub slot_closed : (s : Slot) (request : Call) (o : Option Reply) → s ≡ None → o ≡ unless_memory (closed_answer request false).reply → o ≡ before_memory s request
unfolding answer
slot_closed s request o e h = rw e h

pub slot_open : (s : Slot) (c : Context) (request : Call) (o : Option Reply) → Some c ≡ s → o ≡ unless_memory (context_answer c request [] false).reply → o ≡ before_memory s request
unfolding answer
slot_open s c request o e h = rw (← e) h
