-- A call that takes no memory gives the same answer with it and without it, and a copying context has no event to
-- take.
use Rattle.std.proofs.Common.{ℕ, ◌≡◌, Bool, true, false, refl, sym, subst}
use Rattle.std.proofs.lemmas.Bool.{false≢true}
use Rattle.vc_base.specs.declared.Errno.TheVariants.{NoEnt}
use Rattle.vc_base.specs.declared.Reply.{Reply}
use Rattle.vc_base.specs.Buffers.{QueueState}
use Rattle.vc_model.specs.Context.{Context}
use Rattle.vc_model.specs.Answer.{Answer, dqevent_answer}
use Rattle.vc_context.specs.Contexts.{Gives, GivesWithMemory, refused_or_blocked}
use Rattle.vc_copy.specs.Copying.{copier_state}

pub always : (f : Bool → Answer) (a : Answer) (reply : Reply) (c : Context) → f true ≡ a → Gives a reply c → GivesWithMemory f reply c
always f a reply c e g =
    record { found = true; gives = subst (λ (x : Answer). Gives x reply c) (sym e) g; want = λ w. absurd (false≢true (sym w)) }

pub no_event : (size : ℕ) (out cap : QueueState) (running : Bool) (block : Bool) → let c : Context = copier_state size out cap running in Gives (dqevent_answer c block) (refused_or_blocked block NoEnt) c
no_event size out cap running true = record { reply = refl; context = refl }
no_event size out cap running false = record { reply = refl; context = refl }
