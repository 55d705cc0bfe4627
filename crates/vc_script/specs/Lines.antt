-- What a line asks for (docs/FORMAT.md, "Scripts").
use Rattle.std.specs.Prelude.{ℕ, ◌^◌, ◌-◌, ◌==◌, nat_lt, if◌then◌else◌, Bool, List, [], ◌∷◌, length, slice_index, bytes_eq, codes, Option, Some, None, option_map}
use Rattle.vc_base.specs.declared.Side.{Side}
use Rattle.vc_base.specs.declared.Side.TheVariants.{Out, Cap}
use Rattle.vc_base.specs.declared.Call.{Call}
use Rattle.vc_base.specs.declared.Call.TheVariants as calls
use Rattle.vc_script.specs.declared.verb.Verb.{Verb}
use Rattle.vc_script.specs.declared.verb.Verb.TheVariants as verbs
use Rattle.vc_script.specs.declared.line.Line.{Line}
use Rattle.vc_script.specs.declared.line.Line.TheVariants as lines
use Rattle.vc_script.specs.Optional.{◌>>=◌}
use Rattle.vc_script.specs.Words.{words_of}
use Rattle.vc_script.specs.Fields.{side_of, number_of}
use Rattle.vc_script.specs.Payload.{payload_of}
use Rattle.vc_script.specs.Verb.{verb_of}
use Rattle.vc_script.specs.Calls.{one_of, three_of, small_of, call_of}

-- a buffer queued on a side, and the bytes that go into it
abbrev pub queued_on : Side → List (List ℕ) → Option (Call × List ℕ)
queued_on Out ws = do
  w ← three_of ws
  index ← small_of w.0
  stamp ← number_of (2 ^ 64 - 1) w.1
  bytes ← payload_of w.2
  Some (calls.QBuf Out index (length bytes) (record { 0 = stamp }), bytes)
queued_on Cap ws = do
  w ← one_of ws
  index ← small_of w
  Some (calls.QBuf Cap index 0 (record { 0 = 0 }), [])

abbrev pub queued : List (List ℕ) → Option (Call × List ℕ)
queued [] = None
queued (w ∷ ws) = do
  side ← side_of w
  queued_on side ws

abbrev pub with_no_bytes : Option Call → Option (Call × List ℕ)
with_no_bytes o = option_map (λ call. (call, [])) o

abbrev pub call_and_bytes : Verb → List (List ℕ) → Option (Call × List ℕ)
call_and_bytes verbs.Queue ws = queued ws
call_and_bytes verb ws = with_no_bytes (call_of verb ws)

-- a number below the number of slots
abbrev pub slot_below : ℕ → Option ℕ → Option ℕ
slot_below slots None = None
slot_below slots (Some n) = if nat_lt n slots then Some n else None

abbrev pub slot_of : ℕ → List ℕ → Option ℕ
slot_of slots w = slot_below slots (small_of w)

-- a slot, a verb and what the verb wants
abbrev pub call_line_of : ℕ → List ℕ → List (List ℕ) → Option Line
call_line_of slots w [] = None
call_line_of slots w (v ∷ ws) = do
  slot ← slot_of slots w
  verb ← verb_of v
  call ← call_and_bytes verb ws
  Some (lines.Call slot call.0 call.1)

-- a worker's number is 0 to 15
abbrev pub worker_of : List (List ℕ) → Option ℕ
worker_of ws = do
  w ← one_of ws
  number_of 15 w

-- the lines of jobs begin with a word, and all others with a slot
abbrev pub line_with : ℕ → List ℕ → List (List ℕ) → Option Line
line_with slots w ws =
    if bytes_eq w (codes "claim") then option_map (λ k. lines.Claim k) (worker_of ws)
    else if bytes_eq w (codes "finish") then option_map (λ k. lines.Finish k) (worker_of ws)
    else if bytes_eq w (codes "run") then option_map (λ k. lines.Run k) (worker_of ws)
    else call_line_of slots w ws

abbrev pub is_comment : List ℕ → Bool
is_comment w = slice_index w 0 == 35

-- what the words of a line ask for: nothing, where there are none or the first begins with `#`
abbrev pub asked_by : ℕ → List (List ℕ) → Option (Option Line)
asked_by slots [] = Some None
asked_by slots (w ∷ ws) = if is_comment w then Some None else option_map (λ line. Some line) (line_with slots w ws)

-- what a line asks for, among so many slots; none where the line is bad
unfoldable pub line_of : ℕ → List ℕ → Option (Option Line)
line_of slots line = asked_by slots (words_of line)
