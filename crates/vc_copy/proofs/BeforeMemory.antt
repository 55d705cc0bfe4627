-- What a copying context answers before memory is sought is the definitions' answer without memory, unless that is
-- want of memory alone.
use Rattle.std.proofs.Common.{ℕ, ◌≡◌, Bool, true, false, Option, Some, None, [], refl}
use Rattle.std.specs.Option.{option_map}
use Rattle.vc_base.specs.declared.Errno.{Errno}
use Rattle.vc_base.specs.declared.Errno.TheVariants.{NoMem, Busy, Inval}
use Rattle.vc_base.specs.declared.Side.{Side}
use Rattle.vc_base.specs.declared.Call.{Call}
use Rattle.vc_base.specs.declared.Call.TheVariants.{Open, ReqBufs, CreateBufs}
use Rattle.vc_base.specs.declared.Reply.TheVariants.{Refused}
use Rattle.vc_base.specs.Buffers.{refuse_if}
use Rattle.vc_model.specs.Context.{Context}
use Rattle.vc_model.specs.Answer.{context_answer, unless, refused}
use Rattle.vc_model.specs.Core.{unless_memory}
use Rattle.vc_context.specs.Contexts.{TakesMemory}

pub busy_before : (c : Context) (t : Bool) → option_map Refused (refuse_if t Busy None) ≡ unless_memory (unless c (refuse_if t Busy None) (refused c NoMem)).reply
busy_before c true = refl
busy_before c false = refl

pub inval_before : (c : Context) (t u : Bool) → let o : Option Errno = refuse_if t Inval (refuse_if u Inval None) in option_map Refused o ≡ unless_memory (unless c o (refused c NoMem)).reply
inval_before c true u = refl
inval_before c false true = refl
inval_before c false false = refl

pub busy_open :
    (c : Context) (request : Call) → TakesMemory request → ((side : Side) (n : ℕ) → request ≡ ReqBufs side n → ⊥)
    → ((side : Side) (n m : ℕ) → request ≡ CreateBufs side n m → ⊥) → Some (Refused Busy) ≡ unless_memory (context_answer c request [] false).reply
unfolding context_answer
busy_open c (Open kind) h f g = refl
busy_open c (ReqBufs side n) h f g = absurd (f side n refl)
busy_open c (CreateBufs side n m) h f g = absurd (g side n m refl)
busy_open c request h f g = absurd h
