-- What a call or a finish does to a context it does to its pair, but for formats, events and codec state.
use Rattle.std.specs.Prelude.{ℕ, ◌≡◌, ◌&&◌, if◌then◌else◌, is_none, Bool, true, false, Option, Some, None, List, ◌∷◌}
use Rattle.vc_base.specs.declared.Side.{Side}
use Rattle.vc_base.specs.declared.Side.TheVariants.{Out, Cap}
use Rattle.vc_base.specs.declared.Stamp.{Stamp}
use Rattle.vc_base.specs.declared.Errno.{Errno}
use Rattle.vc_base.specs.declared.Reply.{Reply}
use Rattle.vc_base.specs.declared.Reply.TheVariants.{Done, Refused}
use Rattle.vc_base.specs.Buffers.{Buffer, is_empty, dqbuf_after}
use Rattle.vc_base.specs.Limits.{keyframe_flag, pframe_flag, error_flag}
use Rattle.vc_model.specs.Context.{Context, drain, sizeimage, settle, queue_of, with_queue, raise_end}
use Rattle.vc_model.specs.Answer.{Answer, after_taking, streamoff_effect, after_output_off, after_capture_off, stop_answer, start_answer}
use Rattle.vc_model.specs.Runs.{stop_by_change, front_is_due, dest_done}
use Rattle.vc_queue.specs.Answers.{after_of}
use Rattle.vc_pair.specs.Pairs.{PairState, pair_taken, pair_off, pair_changed, pair_settled, raises_end, cap_retired, is_final, is_due, stop_refusal, pair_marked, start_refusal, pair_started}

-- the pair of a context
abbrev pub pair_of : Context → PairState
pair_of c = record { out = c.out; cap = c.cap; phase = c.phase; mark = c.mark }

-- the context with another pair
abbrev pub with_pair : Context → PairState → Context
with_pair c p = record c { out = p.out; cap = p.cap; phase = p.phase; mark = p.mark }

-- the event of the end of a drain is raised
abbrev pub ended_if : Bool → Context → Context
ended_if ended c = if ended then raise_end drain c else c

-- the context after its pair has settled
abbrev pub settled_with : Context → PairState → Context
settled_with c p = ended_if (raises_end p) (with_pair c (pair_settled p))

-- no job runs exactly where no buffer is in a job
abbrev pub JobsAgree : Context → Type 0
JobsAgree c = is_none c.running ≡ (is_empty c.out.job && is_empty c.cap.job)

-- the reply that tells a refusal, or that all is done
abbrev pub told : Option Errno → Reply
told (Some errno) = Refused errno
told None = Done

-- the answer of a context whose pair is refused, or becomes `after` and settles
pub record AnswersWith (answer : Answer) (c : Context) (refusal : Option Errno) (after : PairState) : Type 0 where
  pub reply : answer.reply ≡ told refusal
  pub slot : answer.slot ≡ Some (settled_with c (after_of refusal (pair_of c) after))

-- DqBuf
abbrev pub SameTaken : Type 0
SameTaken =
    (c : Context) (side : Side) → after_taking (with_queue c side (dqbuf_after (queue_of c side))) side ≡ with_pair c (pair_taken (pair_of c) side)

-- StreamOff, but for the codec state
pub record SameOff (c : Context) : Type 0 where
  pub output : streamoff_effect c Out ≡ after_output_off c.kind (with_pair c (pair_off (pair_of c) Out))
  pub capture : streamoff_effect c Cap ≡ (if c.cap.streams then after_capture_off c.kind (with_pair c (pair_off (pair_of c) Cap)) else with_pair c (pair_off (pair_of c) Cap))

-- settling, with its event
abbrev pub SameSettled : Type 0
SameSettled = (c : Context) → JobsAgree c → settle c ≡ settled_with c (pair_of c)

-- STOP and START of a context that is settled
pub record SameCommands (c : Context) : Type 0 where
  pub stop : AnswersWith (stop_answer c) c (stop_refusal (pair_of c)) (pair_marked (pair_of c))
  pub start : AnswersWith (start_answer c) c (start_refusal (pair_of c) (sizeimage c Cap)) (pair_started (pair_of c))

-- a stop by a change
abbrev pub SameChange : Type 0
SameChange = (c : Context) → stop_by_change c ≡ with_pair c (pair_changed (pair_of c))

-- a flag that a finish gives a destination, or none
pub data IsRunFlag : ℕ → Type 0 where
  no_flag : IsRunFlag 0
  keyframe : IsRunFlag keyframe_flag
  pframe : IsRunFlag pframe_flag
  error : IsRunFlag error_flag

-- A destination that goes to done: with its source, or while its source is ready again before the mark.
pub record SameRetired (c : Context) (b : Buffer) (rest : List Buffer) (used : ℕ) (bytes : List ℕ) (flags : ℕ) (stamp : Stamp) : Type 0 where
  pub with_source : dest_done c (b ∷ rest) true used bytes flags stamp ≡ ended_if (is_final (pair_of c)) (with_pair c (cap_retired (pair_of c) used bytes flags stamp))
  pub alone : is_final (pair_of c) ≡ false → dest_done c (b ∷ rest) false used bytes flags stamp ≡ with_pair c (cap_retired (pair_of c) used bytes flags stamp)

-- whether the front ready OUTPUT buffer may be worked on
abbrev pub SameDue : Type 0
SameDue = (ready : List Buffer) (mark : Option ℕ) → is_due ready mark ≡ front_is_due ready mark
