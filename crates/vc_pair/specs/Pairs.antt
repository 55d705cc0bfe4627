-- Two queues with a phase and a mark, and the rows of the table of calls that speak of these.
use Rattle.std.specs.Prelude.{ℕ, Result, min, ◌≡◌, Bool, true, false, not, ◌&&◌, if◌then◌else◌, nat_lt, ⊤, is_some, bit_or, Option, Some, None, List, [], ◌∷◌}
use Rattle.vc_base.specs.declared.Side.{Side}
use Rattle.vc_base.specs.declared.Side.TheVariants.{Out, Cap}
use Rattle.vc_base.specs.declared.Stamp.{Stamp}
use Rattle.vc_base.specs.declared.Errno.{Errno}
use Rattle.vc_base.specs.declared.Errno.TheVariants.{Busy, Inval}
use Rattle.vc_base.specs.Buffers.{Buffer, QueueState, new_queue, is_empty, refuse_if, dqbuf_after, streamoff_after, long_enough, lend_after, retire_after}
use Rattle.vc_base.specs.Buffers.{qbuf_after, reqbufs_refusal, reqbufs_after, create_refusal, create_after, created, buffer_count, zero_stamp}
use Rattle.vc_base.specs.Limits.{last_flag, most_buffers}
use Rattle.vc_model.specs.Context.{Cause, drain, change, PhaseState, run, owe, last, stopped, is_run, is_stopped, is_drain, is_drained}
use Rattle.vc_model.specs.Answer.{without_drain_stop, mark_after_restart, start_is_early}
use Rattle.vc_model.specs.Phases.{is_stopped_by_drain}
use Rattle.vc_model.specs.Sound.{last_not_given}
use Rattle.vc_queue.specs.Answers.{queued_bytes}
use Rattle.vc_queue.specs.Growing.{AnswersWithMemory}
use Rattle.vc_queue.specs.Holds.{HoldState, Fits}

-- The queues, the phase and the mark of a context.
pub record PairState : Type 0 where
  pub out : QueueState
  pub cap : QueueState
  pub phase : PhaseState
  pub mark : Option ℕ

abbrev pub new_pair : PairState
new_pair = record { out = new_queue Out; cap = new_queue Cap; phase = run; mark = None }

abbrev pub queue_at : PairState → Side → QueueState
queue_at p Out = p.out
queue_at p Cap = p.cap

abbrev pub with_queue_at : PairState → Side → QueueState → PairState
with_queue_at p Out q = record p { out = q }
with_queue_at p Cap q = record p { cap = q }

-- the payloads that the user holds fit both queues
abbrev pub FitsBoth : PairState → HoldState → Type 0
FitsBoth p hold = Fits p.out hold × Fits p.cap hold

-- whether the user took the LAST buffer
abbrev pub is_ended_at : PairState → Side → Bool
is_ended_at p Out = false
is_ended_at p Cap = is_stopped p.phase

-- the user took the final entry of CAPTURE's done list in phase Last
abbrev pub pair_at_last : PairState → PhaseState → Bool → PairState
pair_at_last p (last drain) true = record p { phase = stopped drain; mark = None }
pair_at_last p (last change) true = record p { phase = stopped change }
pair_at_last p phase emptied = p

abbrev pub pair_taken : PairState → Side → PairState
pair_taken p Out = record p { out = dqbuf_after p.out }
pair_taken p Cap =
    let q = dqbuf_after p.cap in
    pair_at_last (record p { cap = q }) p.phase (is_empty q.done)

-- StreamOff

abbrev pub pair_off : PairState → Side → PairState
pair_off p Out = record p { out = streamoff_after p.out; mark = None; phase = without_drain_stop p.phase }
pair_off p Cap =
    if p.cap.streams then record p { cap = streamoff_after p.cap; mark = mark_after_restart p.phase p.mark; phase = run } else record p { cap = streamoff_after p.cap }

-- QBuf

abbrev pub pair_put : PairState → Side → ℕ → ℕ → Stamp → HoldState → PairState
pair_put p side index used stamp hold =
    with_queue_at p side (qbuf_after (queue_at p side) index used stamp (queued_bytes side hold index used))

-- ReqBufs of a queue, with memory or without it
abbrev pub MakesBuffers : QueueState → ℕ → ℕ → Result ℕ Errno → QueueState → Type 0
MakesBuffers old count length result new =
    AnswersWithMemory (reqbufs_refusal old) (min count most_buffers) (reqbufs_after old count length) result old new

-- CreateBufs of a queue, with memory or without it
abbrev pub AddsBuffers : QueueState → ℕ → ℕ → Result (ℕ × ℕ) Errno → QueueState → Type 0
AddsBuffers old count length result new =
    AnswersWithMemory (create_refusal old count length) (buffer_count old, created old count) (create_after old count length) result old new

-- STOP and START

abbrev pub both_streaming : PairState → Bool
both_streaming p = p.out.streams && p.cap.streams

abbrev pub stop_refusal : PairState → Option Errno
stop_refusal p = if not (both_streaming p) then None else refuse_if (is_some p.mark) Busy None

abbrev pub pair_marked : PairState → PairState
pair_marked p =
    if not (both_streaming p) then p else (if is_stopped_by_drain p.phase then p else record p { mark = Some p.out.next_ordinal })

abbrev pub start_refusal : PairState → ℕ → Option Errno
start_refusal p least =
    if not (both_streaming p) then None else
    refuse_if (start_is_early p.phase p.mark) Busy (refuse_if (not (long_enough p.cap least)) Inval None)

abbrev pub pair_started : PairState → PairState
pair_started p = if not (both_streaming p) then p else record p { phase = run }

-- The end of a job

-- the source goes to done with the used bytes and the stamp that it was queued with
abbrev pub source_retired : QueueState → List Buffer → List ℕ → ℕ → QueueState
source_retired q [] bytes flags = q
source_retired q (b ∷ rest) bytes flags = retire_after q b.used bytes flags b.stamp

abbrev pub out_retired : PairState → List ℕ → ℕ → PairState
out_retired p bytes flags = record p { out = source_retired p.out p.out.job bytes flags }

-- the destination has LAST where there is a mark and no ready OUTPUT buffer is before it
abbrev pub is_final : PairState → Bool
is_final p = is_drained p.out.ready p.mark

abbrev pub cap_retired : PairState → ℕ → List ℕ → ℕ → Stamp → PairState
cap_retired p used bytes flags stamp =
    if is_final p then record p { cap = retire_after p.cap used bytes (bit_or flags last_flag) stamp; phase = last drain } else
    record p { cap = retire_after p.cap used bytes flags stamp }

-- a CAPTURE queue that streams stops at a change
abbrev pub pair_changed : PairState → PairState
pair_changed p = if p.cap.streams then record p { phase = owe change } else p

-- Settling

-- In phase Run the drained pair owes its LAST buffer, where CAPTURE streams and no job runs.
abbrev pub owes_last : PairState → Bool
owes_last p =
    is_run p.phase && (p.cap.streams && ((is_empty p.out.job && is_empty p.cap.job) && is_drained p.out.ready p.mark))

abbrev pub owing : PairState → PairState
owing p = if owes_last p then record p { phase = owe drain } else p

-- the front of the ready CAPTURE buffers goes to done, empty and with LAST
abbrev pub last_given : PairState → Cause → List Buffer → PairState
last_given p cause [] = p
last_given p cause (b ∷ rest) =
    record p { cap = retire_after (lend_after p.cap) 0 [] last_flag zero_stamp; phase = last cause }

abbrev pub given : PairState → PhaseState → PairState
given p run = p
given p (owe cause) = last_given p cause p.cap.ready
given p (last cause) = p
given p (stopped cause) = p

abbrev pub pair_settled : PairState → PairState
pair_settled p = let o = owing p in given o o.phase

-- EOS is raised where the LAST buffer of a drain was given
abbrev pub gives_end : PairState → PhaseState → Bool
gives_end p run = false
gives_end p (owe cause) = is_drain cause && not (is_empty p.cap.ready)
gives_end p (last cause) = false
gives_end p (stopped cause) = false

abbrev pub raises_end : PairState → Bool
raises_end p = let o = owing p in gives_end o o.phase

-- A drain is not put off: where it has come to its end its LAST buffer is owed, and where that is owed no
-- CAPTURE buffer is ready.
pub record IsSettled (p : PairState) : Type 0 where
  pub noted : owes_last p ≡ false
  pub given : last_not_given p.phase p.cap.ready ≡ false

-- whether the front ready OUTPUT buffer may be worked on
abbrev pub is_due : List Buffer → Option ℕ → Bool
is_due [] mark = false
is_due (b ∷ rest) None = true
is_due (b ∷ rest) (Some mark) = nat_lt b.ordinal mark

-- A buffer is in the job in phase Run alone.
abbrev pub IdleOutsideRun : PhaseState → List Buffer → List Buffer → Type 0
IdleOutsideRun run a b = ⊤
IdleOutsideRun (owe cause) a b = (a ≡ []) × (b ≡ [])
IdleOutsideRun (last cause) a b = (a ≡ []) × (b ≡ [])
IdleOutsideRun (stopped cause) a b = (a ≡ []) × (b ≡ [])

-- no buffer is in the job
abbrev pub IsIdle : PairState → Type 0
IsIdle p = (p.out.job ≡ []) × (p.cap.job ≡ [])

-- what every pair keeps
pub record IsPair (p : PairState) : Type 0 where
  pub out_side : p.out.side ≡ Out
  pub cap_side : p.cap.side ≡ Cap
  pub idle : IdleOutsideRun p.phase p.out.job p.cap.job
