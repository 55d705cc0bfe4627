-- What a line of the grammar asks for can be asked: its slot and its worker are there, and a QBuf carries as many bytes as it says.
-- Each reader of a field gives numbers in the field's range only.
use Rattle.std.proofs.Common.{ℕ, ◌≡◌, ◌-◌, ◌^◌, ◌<◌, ◌≤◌, nat_le, nat_lt, Bool, true, false, cond, ◌&&◌, Option, Some, None, List, [], ◌∷◌, length, refl, arith}
use Rattle.std.specs.Prelude.{codes, bytes_eq}
use Rattle.std.specs.Option.{option_map}
use Rattle.std.specs.List.{list_all}
use Rattle.std.specs.Char.{is_ascii_digit}
use Rattle.std.specs.Str.Parse.{digits_value}
use Rattle.std.proofs.lemmas.Bool.{ltb-true, false≢true}
use Rattle.vc_base.specs.declared.Side.{Side}
use Rattle.vc_base.specs.declared.Side.TheVariants.{Out, Cap}
use Rattle.vc_base.specs.declared.Call.{Call}
use Rattle.vc_base.specs.declared.Call.TheVariants as calls
use Rattle.vc_script.specs.declared.verb.Verb.{Verb}
use Rattle.vc_script.specs.declared.verb.Verb.TheVariants as verbs
use Rattle.vc_script.specs.declared.line.Line.{Line}
use Rattle.vc_script.specs.declared.line.Line.TheVariants as lines
use Rattle.vc_script.specs.Words.{words_of}
use Rattle.vc_script.specs.Fields.{side_of, number_of}
use Rattle.vc_script.specs.Payload.{payload_of}
use Rattle.vc_script.specs.Verb.{verb_of}
use Rattle.vc_script.specs.Calls.{one_of, three_of, small_of, nothing_left, kind_alone, side_alone, number_alone, two_numbers, side_and_number, side_and_numbers, side_and_format, call_of}
use Rattle.vc_script.specs.Lines.{queued_on, queued, with_no_bytes, call_and_bytes, slot_below, slot_of, call_line_of, worker_of, line_with, is_comment, asked_by, line_of}
use Rattle.vc_model.specs.Script.{HasUsedBytes}
use Rattle.vc_desk.specs.Asking.{IsAskedLine}
use Rattle.vc_desk.proofs.Meanings.{AllSome, all_bind, any, all_map, every, all_cond, one, nothing, where_some}

-- Workers and slots

le_of : (a b : ℕ) → nat_le a b ≡ true → a ≤ b
le_of a b e = grind arith

last_of : (a b : Bool) → (a && b) ≡ true → b ≡ true
last_of true b e = e
last_of false b e = absurd (false≢true e)

number_small : (v : ℕ) (a b c d : Bool) → ((a && b && c && d) ≡ true → v < 16) → (t : Bool) → (a && b && c && d) ≡ t → AllSome (λ k. k < 16) (cond t (Some v) None)
unfolding AllSome
number_small v a b c d h true e = h e
number_small v a b c d h false e = tt

four : (a b c d : Bool) → (a && b && c && d) ≡ true → d ≡ true
four true true true d e = e
four true true false d e = absurd (false≢true e)
four true false c d e = absurd (false≢true e)
four false b c d e = absurd (false≢true e)

number_is : (w : List ℕ) → AllSome (λ k. k < 16) (number_of 15 w)
number_is w =
    number_small (digits_value 10 w) (nat_le 1 (length w)) (nat_le (length w) 20) (list_all is_ascii_digit w) (nat_le (digits_value 10 w) 15)
    (λ e. omega (arith, le_of (digits_value 10 w) 15 (four (nat_le 1 (length w)) (nat_le (length w) 20) (list_all is_ascii_digit w) (nat_le (digits_value 10 w) 15) e)))
    _ refl

worker_is : (ws : List (List ℕ)) → AllSome (λ k. k < 16) (worker_of ws)
worker_is ws = all_bind (λ a. Unit {0}) (λ k. k < 16) (λ w. number_of 15 w) (one_of ws) (any (one_of ws)) (λ w u. number_is w)

slot_split : (n k : ℕ) (t : Bool) → nat_lt k n ≡ t → AllSome (λ i. i < n) (cond t (Some k) None)
unfolding AllSome
slot_split n k true e = ltb-true k n e
slot_split n k false e = tt

slot_is : (n : ℕ) (o : Option ℕ) → AllSome (λ i. i < n) (slot_below n o)
slot_is n None = nothing _
slot_is n (Some k) = slot_split n k (nat_lt k n) refl

-- Calls

-- a call that queues no bytes
abbrev IsPlain : Call → Type 0
IsPlain request = HasUsedBytes request []

left_is : (ws : List (List ℕ)) (request : Call) → IsPlain request → AllSome IsPlain (nothing_left ws request)
unfolding AllSome
left_is [] request h = h
left_is (w ∷ ws) request h = tt

plain : (verb : Verb) (ws : List (List ℕ)) → AllSome IsPlain (call_of verb ws)
unfolding call_of
plain verbs.Open ws = every IsPlain _ (kind_alone ws) (λ f. tt)
plain verbs.Close ws = left_is ws calls.Close tt
plain verbs.EnumFormat ws = every IsPlain _ (side_and_number ws) (λ f. tt)
plain verbs.GetFormat ws = every IsPlain _ (side_alone ws) (λ f. tt)
plain verbs.TryFormat ws = every IsPlain _ (side_and_format ws) (λ f. tt)
plain verbs.SetFormat ws = every IsPlain _ (side_and_format ws) (λ f. tt)
plain verbs.Request ws = every IsPlain _ (side_and_number ws) (λ f. tt)
plain verbs.Create ws = every IsPlain _ (side_and_numbers ws) (λ f. tt)
plain verbs.Query ws = every IsPlain _ (side_and_number ws) (λ f. tt)
plain verbs.Queue ws = nothing IsPlain
plain verbs.Dequeue ws = every IsPlain _ (side_alone ws) (λ f. tt)
plain verbs.DequeueWait ws = every IsPlain _ (side_alone ws) (λ f. tt)
plain verbs.On ws = every IsPlain _ (side_alone ws) (λ f. tt)
plain verbs.Off ws = every IsPlain _ (side_alone ws) (λ f. tt)
plain verbs.Subscribe ws = every IsPlain _ (number_alone ws) (λ f. tt)
plain verbs.Unsubscribe ws = every IsPlain _ (number_alone ws) (λ f. tt)
plain verbs.Event ws = left_is ws (calls.DqEvent false) tt
plain verbs.EventWait ws = left_is ws (calls.DqEvent true) tt
plain verbs.DecoderCommand ws = every IsPlain _ (number_alone ws) (λ f. tt)
plain verbs.EncoderCommand ws = every IsPlain _ (number_alone ws) (λ f. tt)
plain verbs.GetControl ws = every IsPlain _ (number_alone ws) (λ f. tt)
plain verbs.SetControl ws = every IsPlain _ (two_numbers ws) (λ f. tt)
plain verbs.Poll ws = left_is ws calls.Poll tt

abbrev HasBytes : Call × List ℕ → Type 0
HasBytes c = HasUsedBytes c.0 c.1

queued_side : (side : Side) (ws : List (List ℕ)) → AllSome HasBytes (queued_on side ws)
queued_side Out ws =
    all_bind (λ a. Unit {0}) HasBytes _ (three_of ws) (any _) (λ w u.
    all_bind (λ a. Unit {0}) HasBytes _ (small_of w.0) (any _)
    (λ index u2. all_bind (λ a. Unit {0}) HasBytes _ (number_of (2 ^ 64 - 1) w.1) (any _) (λ stamp u3. all_bind (λ a. Unit {0}) HasBytes _ (payload_of w.2) (any _) (λ bytes u4. one HasBytes _ refl))))
queued_side Cap ws =
    all_bind (λ a. Unit {0}) HasBytes _ (one_of ws) (any _) (λ w u. all_bind (λ a. Unit {0}) HasBytes _ (small_of w) (any _) (λ index u2. one HasBytes _ tt))

queued_is : (ws : List (List ℕ)) → AllSome HasBytes (queued ws)
queued_is [] = nothing HasBytes
queued_is (w ∷ ws) = all_bind (λ a. Unit {0}) HasBytes _ (side_of w) (any _) (λ side u. queued_side side ws)

plain_is : (verb : Verb) (ws : List (List ℕ)) → AllSome HasBytes (with_no_bytes (call_of verb ws))
plain_is verb ws = all_map HasBytes (λ request. (request, [])) (call_of verb ws) (plain verb ws)

call_is : (verb : Verb) (ws : List (List ℕ)) → AllSome HasBytes (call_and_bytes verb ws)
call_is verbs.Queue ws = queued_is ws
call_is verb ws = plain_is verb ws

-- Lines

call_asked : (n : ℕ) (w : List ℕ) (ws : List (List ℕ)) → AllSome (λ l. IsAskedLine n (Some l)) (call_line_of n w ws)
call_asked n w [] = nothing _
call_asked n w (v ∷ ws) =
    all_bind (λ k. k < n) (λ l. IsAskedLine n (Some l)) _ (slot_of n w) (slot_is n (small_of w)) (λ k l.
    all_bind (λ a. Unit {0}) (λ l. IsAskedLine n (Some l)) _ (verb_of v) (any _)
    (λ verb u. all_bind HasBytes (λ l. IsAskedLine n (Some l)) _ (call_and_bytes verb ws) (call_is verb ws) (λ request h. one (λ l. IsAskedLine n (Some l)) _ (l, h))))

with_asked : (n : ℕ) (w : List ℕ) (ws : List (List ℕ)) → AllSome (λ l. IsAskedLine n (Some l)) (line_with n w ws)
with_asked n w ws =
    all_cond _ (bytes_eq w (codes "claim")) _ _ (all_map _ (λ k. lines.Claim k) (worker_of ws) (worker_is ws))
    (all_cond _ (bytes_eq w (codes "finish")) _ _ (all_map _ (λ k. lines.Finish k) (worker_of ws) (worker_is ws))
    (all_cond _ (bytes_eq w (codes "run")) _ _ (all_map _ (λ k. lines.Run k) (worker_of ws) (worker_is ws)) (call_asked n w ws)))

asked_is : (n : ℕ) (ws : List (List ℕ)) → AllSome (IsAskedLine n) (asked_by n ws)
asked_is n [] = one (IsAskedLine n) None tt
asked_is n (w ∷ ws) =
    all_cond (IsAskedLine n) (is_comment w) (Some None) (option_map (λ line. Some line) (line_with n w ws)) (one (IsAskedLine n) None tt) (all_map (IsAskedLine n) (λ line. Some line) (line_with n w ws) (with_asked n w ws))

lines_asked : (n : ℕ) (line : List ℕ) → AllSome (IsAskedLine n) (line_of n line)
unfolding line_of
lines_asked n line = asked_is n (words_of line)

pub asked_line : (n : ℕ) (line : List ℕ) (asked : Option Line) → line_of n line ≡ Some asked → IsAskedLine n asked
asked_line n line asked e = where_some (IsAskedLine n) (line_of n line) (lines_asked n line) asked e
