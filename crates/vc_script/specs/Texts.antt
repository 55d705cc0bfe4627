-- What is printed: the lines that answer the calls, claims and finishes of a script (docs/FORMAT.md, "Scripts").
use Rattle.std.specs.Prelude.{ℕ, ◌≤◌, nat_lt, if◌then◌else◌, Bool, true, false, List, [], ◌∷◌, ◌++◌, length, take, codes, decimal, ⊤}
use Rattle.std.specs.List.{list_all}
use Rattle.std.specs.Fmt.{digits}
use Rattle.hex.specs.Hex.{encode_lower}
use Rattle.vc_base.specs.declared.Fourcc.{Fourcc}
use Rattle.vc_base.specs.declared.Side.TheVariants.{Cap}
use Rattle.vc_base.specs.declared.Call.{Call}
use Rattle.vc_base.specs.declared.Call.TheVariants as calls
use Rattle.vc_base.specs.declared.Reply.{Reply}
use Rattle.vc_base.specs.declared.Reply.TheVariants as replies
use Rattle.vc_base.specs.Errnos.{errno_name}
use Rattle.vc_script.specs.declared.verb.Verb.{Verb}
use Rattle.vc_script.specs.declared.verb.Verb.TheVariants as verbs
use Rattle.vc_script.specs.Fields.{printable}
use Rattle.vc_script.specs.Verb.{verb_name}

-- the verb of the line that makes a call
abbrev pub call_verb : Call → Verb
call_verb (calls.Open kind) = verbs.Open
call_verb calls.Close = verbs.Close
call_verb (calls.EnumFmt side index) = verbs.EnumFormat
call_verb (calls.GetFmt side) = verbs.GetFormat
call_verb (calls.TryFmt side want) = verbs.TryFormat
call_verb (calls.SetFmt side want) = verbs.SetFormat
call_verb (calls.ReqBufs side count) = verbs.Request
call_verb (calls.CreateBufs side count size) = verbs.Create
call_verb (calls.QueryBuf side index) = verbs.Query
call_verb (calls.QBuf side index used stamp) = verbs.Queue
call_verb (calls.DqBuf side false) = verbs.Dequeue
call_verb (calls.DqBuf side true) = verbs.DequeueWait
call_verb (calls.StreamOn side) = verbs.On
call_verb (calls.StreamOff side) = verbs.Off
call_verb (calls.Subscribe event) = verbs.Subscribe
call_verb (calls.Unsubscribe event) = verbs.Unsubscribe
call_verb (calls.DqEvent false) = verbs.Event
call_verb (calls.DqEvent true) = verbs.EventWait
call_verb (calls.DecCmd cmd) = verbs.DecoderCommand
call_verb (calls.EncCmd cmd) = verbs.EncoderCommand
call_verb (calls.GetCtrl id) = verbs.GetControl
call_verb (calls.SetCtrl id value) = verbs.SetControl
call_verb calls.Poll = verbs.Poll

-- a call that takes a buffer from CAPTURE
abbrev pub takes_capture : Call → Bool
takes_capture (calls.DqBuf Cap block) = true
takes_capture call = false

-- The four characters of a format. Each format of the device has printable ones; any others are told by question
-- marks, so that a line stays one line.
abbrev pub fourcc_text : Fourcc → List ℕ
fourcc_text fourcc = if list_all printable fourcc.0 then fourcc.0 else codes "????"

-- flags in lower-case hexadecimal
abbrev pub flag_text : ℕ → List ℕ
flag_text flags = digits 16 false flags

-- the used bytes in hexadecimal where there are any, and they come from CAPTURE
abbrev pub payload_text : Bool → ℕ → List ℕ → List ℕ
payload_text false used payload = codes "-"
payload_text true used payload = if nat_lt 0 used then encode_lower (take used payload) else codes "-"

abbrev pub bit_text : Bool → List ℕ
bit_text false = codes "0"
bit_text true = codes "1"

-- the words behind the verb
abbrev pub answer_words : Call → Reply → List ℕ → List (List ℕ)
answer_words call replies.Done payload = codes "ok" ∷ []
answer_words call (replies.Desc fourcc) payload = codes "ok" ∷ fourcc_text fourcc ∷ []
answer_words call (replies.Fmt f) payload = codes "ok" ∷ fourcc_text f.fourcc ∷ decimal f.width ∷ decimal f.height ∷ decimal f.size ∷ []
answer_words call (replies.Count count) payload = codes "ok" ∷ decimal count ∷ []
answer_words call (replies.Created index count) payload = codes "ok" ∷ decimal index ∷ decimal count ∷ []
answer_words call (replies.Info index size flags) payload = codes "ok" ∷ decimal index ∷ decimal size ∷ flag_text flags ∷ []
answer_words call (replies.Taken index used flags seq stamp) payload = codes "ok" ∷ decimal index ∷ decimal used ∷ flag_text flags ∷ decimal seq ∷ decimal stamp.0 ∷ payload_text (takes_capture call) used payload ∷ []
answer_words call (replies.Happened event seq changes pending) payload = codes "ok" ∷ decimal event ∷ decimal seq ∷ decimal changes ∷ decimal pending ∷ []
answer_words call (replies.Value value) payload = codes "ok" ∷ decimal value ∷ []
answer_words call (replies.Ready read write urgent) payload = codes "ok" ∷ bit_text read ∷ bit_text write ∷ bit_text urgent ∷ []
answer_words call (replies.Refused errno) payload = errno_name errno ∷ []
answer_words call replies.Blocked payload = codes "blocked" ∷ []

-- each word behind a space
abbrev pub spaced : List (List ℕ) → List ℕ
spaced [] = []
spaced (w ∷ ws) = (32 ∷ w) ++ spaced ws

-- the line that answers a call
unfoldable pub reply_text : ℕ → Call → Reply → List ℕ → List ℕ
reply_text slot call reply payload = decimal slot ++ spaced (verb_name (call_verb call) ∷ answer_words call reply payload) ++ (10 ∷ [])

-- a slot was claimed
abbrev pub claim_text : ℕ → List ℕ
claim_text slot = decimal slot ++ codes " claim\n"

-- no slot waited to be claimed
abbrev pub no_claim_text : List ℕ
no_claim_text = codes "- claim none\n"

-- the worker already has a job
abbrev pub busy_text : List ℕ
busy_text = codes "- claim busy\n"

-- the job of a slot is finished, and the word says how
abbrev pub finish_text : ℕ → List ℕ → List ℕ
finish_text slot word = decimal slot ++ (codes " finish " ++ (word ++ codes "\n"))

-- the worker has no job
abbrev pub idle_text : List ℕ
idle_text = codes "- finish idle\n"

-- what is taken from CAPTURE comes with all its used bytes
abbrev pub HasUsedBytes : Call → Reply → List ℕ → Type 0
HasUsedBytes (calls.DqBuf Cap block) (replies.Taken index used flags seq stamp) payload = used ≤ length payload
HasUsedBytes call reply payload = ⊤
