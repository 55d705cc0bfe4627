-- What a port remembers of its calls, and what waiting for an answer is.
use Rattle.std.specs.Prelude.{◌≡◌, List, [], ◌∷◌, ◌++◌}
use Rattle.vc_base.specs.declared.Call.{Call}
use Rattle.vc_base.specs.declared.Reply.{Reply}
use Rattle.vc_base.specs.declared.Reply.TheVariants.{Blocked}

-- a call with the reply that it was answered
pub record AnsweredCall : Type 0 where
  pub request : Call
  pub reply : Reply

-- the answered calls after one more call. Blocked is no answer
abbrev pub answered_after : List AnsweredCall → Call → Reply → List AnsweredCall
answered_after calls request Blocked = calls
answered_after calls request reply = calls ++ record { request = request; reply = reply } ∷ []

-- Waiting

-- One attempt: the call was answered by Blocked, and the port paused.
pub record IsAttempt {S : Type 0} (calls : S → Call → Reply → S → Type 0) (pauses : S → S → Type 0) (request : Call) (old new : S) : Type 0 where
  pub between : S
  pub blocked : calls old request Blocked between
  pub paused : pauses between new

-- steps lead from the one over each of the list in turn to the other
abbrev pub LeadsOver : {S : Type 0} → (S → S → Type 0) → S → List S → S → Type 0
LeadsOver step old [] new = old ≡ new
LeadsOver step old (next ∷ rest) new = step old next × LeadsOver step next rest new

-- The port waited, attempt after attempt, as often as it may be.
pub record HasWaited {S : Type 0} (calls : S → Call → Reply → S → Type 0) (pauses : S → S → Type 0) (request : Call) (old new : S) : Type 0 where
  pub stops : List S
  pub leads : LeadsOver (IsAttempt calls pauses request) old stops new

-- The port waited, and then the call was answered.
pub record IsWaitedFor {S : Type 0} (calls : S → Call → Reply → S → Type 0) (pauses : S → S → Type 0) (old : S) (request : Call) (told : Reply) (new : S) : Type 0 where
  pub last : S
  pub waits : HasWaited calls pauses request old last
  pub answers : calls last request told new
