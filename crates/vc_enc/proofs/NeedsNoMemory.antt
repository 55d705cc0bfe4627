-- A call that takes no memory gives the same answer with it and without it. So what the context gave is its answer
-- with memory.
use Rattle.std.proofs.Common.{◌≡◌, Bool, true, sym, subst}
use Rattle.std.proofs.lemmas.Bool.{false≢true}
use Rattle.vc_base.specs.declared.Reply.{Reply}
use Rattle.vc_model.specs.Context.{Context}
use Rattle.vc_model.specs.Answer.{Answer}
use Rattle.vc_context.specs.Contexts.{Gives, GivesWithMemory}

-- a call whose answer has nothing to do with memory
pub always : (f : Bool → Answer) (a : Answer) (reply : Reply) (c : Context) → f true ≡ a → Gives a reply c → GivesWithMemory f reply c
always f a reply c e g =
    record { found = true; gives = subst (λ (x : Answer). Gives x reply c) (sym e) g; want = λ w. absurd (false≢true (sym w)) }
