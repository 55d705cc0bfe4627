-- What the words behind a verb mean (docs/FORMAT.md, "Scripts").
use Rattle.std.specs.Prelude.{ℕ, ◌-◌, ◌^◌, List, [], ◌∷◌, Option, Some, None, option_map, true, false}
use Rattle.vc_base.specs.declared.Side.{Side}
use Rattle.vc_base.specs.declared.Kind.{Kind}
use Rattle.vc_base.specs.declared.Format.{Format}
use Rattle.vc_base.specs.declared.Call.{Call}
use Rattle.vc_base.specs.declared.Call.TheVariants as calls
use Rattle.vc_script.specs.declared.verb.Verb.{Verb}
use Rattle.vc_script.specs.declared.verb.Verb.TheVariants as verbs
use Rattle.vc_script.specs.Optional.{◌>>=◌}
use Rattle.vc_script.specs.Fields.{side_of, kind_of, number_of, fourcc_of}

-- exactly so many words
abbrev pub one_of : List (List ℕ) → Option (List ℕ)
one_of [] = None
one_of (a ∷ []) = Some a
one_of (a ∷ b ∷ ws) = None

abbrev pub two_of : List (List ℕ) → Option (List ℕ × List ℕ)
two_of [] = None
two_of (a ∷ []) = None
two_of (a ∷ b ∷ []) = Some (a, b)
two_of (a ∷ b ∷ c ∷ ws) = None

abbrev pub three_of : List (List ℕ) → Option (List ℕ × List ℕ × List ℕ)
three_of [] = None
three_of (a ∷ []) = None
three_of (a ∷ b ∷ []) = None
three_of (a ∷ b ∷ c ∷ []) = Some (a, b, c)
three_of (a ∷ b ∷ c ∷ d ∷ ws) = None

-- a number of 32 bits
abbrev pub small_of : List ℕ → Option ℕ
small_of w = number_of (2 ^ 32 - 1) w

abbrev pub kind_alone : List (List ℕ) → Option Kind
kind_alone ws = do
  w ← one_of ws
  kind_of w

abbrev pub side_alone : List (List ℕ) → Option Side
side_alone ws = do
  w ← one_of ws
  side_of w

abbrev pub number_alone : List (List ℕ) → Option ℕ
number_alone ws = do
  w ← one_of ws
  small_of w

abbrev pub two_numbers : List (List ℕ) → Option (ℕ × ℕ)
two_numbers ws = do
  w ← two_of ws
  first ← small_of w.0
  second ← small_of w.1
  Some (first, second)

abbrev pub side_and_number : List (List ℕ) → Option (Side × ℕ)
side_and_number ws = do
  w ← two_of ws
  side ← side_of w.0
  number ← small_of w.1
  Some (side, number)

abbrev pub side_and_numbers : List (List ℕ) → Option (Side × ℕ × ℕ)
side_and_numbers ws = do
  w ← three_of ws
  side ← side_of w.0
  first ← small_of w.1
  second ← small_of w.2
  Some (side, first, second)

abbrev pub format_behind : List ℕ → List (List ℕ) → Option Format
format_behind fourcc_word ws = do
  w ← three_of ws
  fourcc ← fourcc_of fourcc_word
  width ← small_of w.0
  height ← small_of w.1
  size ← small_of w.2
  Some (record { fourcc = fourcc; width = width; height = height; size = size })

abbrev pub side_and_format : List (List ℕ) → Option (Side × Format)
side_and_format [] = None
side_and_format (a ∷ []) = None
side_and_format (a ∷ b ∷ ws) = do
  side ← side_of a
  format ← format_behind b ws
  Some (side, format)

abbrev pub nothing_left : List (List ℕ) → Call → Option Call
nothing_left [] call = Some call
nothing_left (w ∷ ws) call = None

-- the call that a verb and the words behind it ask for, but for the one that carries a payload
unfoldable pub call_of : Verb → List (List ℕ) → Option Call
call_of verbs.Open ws = option_map (λ kind. calls.Open kind) (kind_alone ws)
call_of verbs.Close ws = nothing_left ws calls.Close
call_of verbs.EnumFormat ws = option_map (λ f. calls.EnumFmt f.0 f.1) (side_and_number ws)
call_of verbs.GetFormat ws = option_map (λ side. calls.GetFmt side) (side_alone ws)
call_of verbs.TryFormat ws = option_map (λ f. calls.TryFmt f.0 f.1) (side_and_format ws)
call_of verbs.SetFormat ws = option_map (λ f. calls.SetFmt f.0 f.1) (side_and_format ws)
call_of verbs.Request ws = option_map (λ f. calls.ReqBufs f.0 f.1) (side_and_number ws)
call_of verbs.Create ws = option_map (λ f. calls.CreateBufs f.0 f.1 f.2) (side_and_numbers ws)
call_of verbs.Query ws = option_map (λ f. calls.QueryBuf f.0 f.1) (side_and_number ws)
call_of verbs.Queue ws = None
call_of verbs.Dequeue ws = option_map (λ side. calls.DqBuf side false) (side_alone ws)
call_of verbs.DequeueWait ws = option_map (λ side. calls.DqBuf side true) (side_alone ws)
call_of verbs.On ws = option_map (λ side. calls.StreamOn side) (side_alone ws)
call_of verbs.Off ws = option_map (λ side. calls.StreamOff side) (side_alone ws)
call_of verbs.Subscribe ws = option_map (λ n. calls.Subscribe n) (number_alone ws)
call_of verbs.Unsubscribe ws = option_map (λ n. calls.Unsubscribe n) (number_alone ws)
call_of verbs.Event ws = nothing_left ws (calls.DqEvent false)
call_of verbs.EventWait ws = nothing_left ws (calls.DqEvent true)
call_of verbs.DecoderCommand ws = option_map (λ n. calls.DecCmd n) (number_alone ws)
call_of verbs.EncoderCommand ws = option_map (λ n. calls.EncCmd n) (number_alone ws)
call_of verbs.GetControl ws = option_map (λ n. calls.GetCtrl n) (number_alone ws)
call_of verbs.SetControl ws = option_map (λ f. calls.SetCtrl f.0 f.1) (two_numbers ws)
call_of verbs.Poll ws = nothing_left ws calls.Poll
