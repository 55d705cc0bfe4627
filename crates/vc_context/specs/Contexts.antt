-- What every kind of context keeps and tells.
use Rattle.std.specs.Prelude.{ℕ, ◌≡◌, ◌≤◌, ◌<◌, ◌+◌, ◌^◌, nat_le, Bool, true, false, not, ◌&&◌, Some, None, Result, Ok, Err, List, []}
use Rattle.std.specs.List.{list_all}
use Rattle.vc_base.specs.declared.Side.TheVariants.{Out, Cap}
use Rattle.vc_base.specs.declared.Errno.{Errno}
use Rattle.vc_base.specs.declared.Errno.TheVariants.{NoEnt, Again, NoMem}
use Rattle.vc_base.specs.declared.Call.{Call}
use Rattle.vc_base.specs.declared.Call.TheVariants.{Open, Close, ReqBufs, CreateBufs}
use Rattle.vc_base.specs.declared.Reply.{Reply}
use Rattle.vc_base.specs.declared.Reply.TheVariants.{Refused, Blocked}
use Rattle.vc_base.specs.Buffers.{Buffer, QueueState, is_empty}
use Rattle.vc_model.specs.Context.{Context}
use Rattle.vc_model.specs.Answer.{Answer}

-- each buffer has room for what is used of it
abbrev pub AreFilled : List Buffer → Type 0
AreFilled bs = list_all (λ b. nat_le b.used b.size) bs ≡ true

-- What holds of every context that a device keeps: no buffer that the user doesn't hold has more used bytes than
-- it has room for, and none is in the job where no job runs.
pub record IsKept (c : Context) : Type 0 where
  pub out_side : c.out.side ≡ Out
  pub cap_side : c.cap.side ≡ Cap
  pub filled : AreFilled c.out.ready
  pub job_filled : AreFilled c.out.job
  pub out_filled : AreFilled c.out.done
  pub cap_filled : AreFilled c.cap.done
  pub out_idle : c.running ≡ None → c.out.job ≡ []
  pub cap_idle : c.running ≡ None → c.cap.job ≡ []

-- no number of the context that counts up is above the bound
pub record IsCounted (bound : ℕ) (c : Context) : Type 0 where
  pub out_queued : c.out.next_ordinal ≤ bound
  pub cap_queued : c.cap.next_ordinal ≤ bound
  pub out_done : c.out.next_seq ≤ bound
  pub cap_done : c.cap.next_seq ≤ bound
  pub raised : c.events.next_seq ≤ bound

-- The context is kept, and counted up by one at most.
pub record IsStep (old new : Context) : Type 0 where
  pub kept : IsKept new
  pub counted : (bound : ℕ) → IsCounted bound old → IsCounted (bound + 1) new

-- The context gave the reply of the answer, and is now what the answer leaves.
pub record Gives (answer : Answer) (told : Reply) (after : Context) : Type 0 where
  pub reply : answer.reply ≡ told
  pub context : answer.slot ≡ Some after

-- The context gave the reply of the answer with memory or without it. Where memory was not found the reply
-- says so.
pub record GivesWithMemory (answer : Bool → Answer) (told : Reply) (after : Context) : Type 0 where
  pub found : Bool
  pub gives : Gives (answer found) told after
  pub want : found ≡ false → told ≡ Refused NoMem

-- the reply of a call that has nothing to tell
abbrev pub told_of : {A : Type 0} → (A → Reply) → Result A Errno → Reply
told_of tell (Ok value) = tell value
told_of tell (Err errno) = Refused errno

-- where there is nothing to take, waiting helps
abbrev pub refused_or_blocked : Bool → Errno → Reply
refused_or_blocked true Again = Blocked
refused_or_blocked true NoEnt = Blocked
refused_or_blocked block errno = Refused errno

-- what a call that takes a buffer tells
abbrev pub taken_or_blocked : Bool → Result Reply Errno → Reply
taken_or_blocked block (Ok reply) = reply
taken_or_blocked block (Err errno) = refused_or_blocked block errno

-- whether a queue streams and has a ready buffer
abbrev pub has_work : QueueState → Bool
has_work q = q.streams && not (is_empty q.ready)

-- no number of the context is at its end
pub record HasRoom (c : Context) : Type 0 where
  pub out_queued : c.out.next_ordinal < 2 ^ 62
  pub cap_queued : c.cap.next_ordinal < 2 ^ 62
  pub out_done : c.out.next_seq < 2 ^ 62
  pub cap_done : c.cap.next_seq < 2 ^ 62
  pub raised : c.events.next_seq < 2 ^ 62

abbrev pub is_close : Call → Bool
is_close Close = true
is_close request = false

-- the calls that take memory
abbrev pub TakesMemory : Call → Type 0
TakesMemory (Open kind) = Unit {0}
TakesMemory (ReqBufs side count) = Unit {0}
TakesMemory (CreateBufs side count size) = Unit {0}
TakesMemory request = ⊥
