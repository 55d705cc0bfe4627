-- The two parts of a reply to a call: its fields, and behind them the bytes of the buffer that was taken.
use Rattle.std.specs.Prelude.{ℕ, ◌≤◌, List, [], length, take}
use Rattle.vc_base.specs.declared.Side.TheVariants.{Cap}
use Rattle.vc_base.specs.declared.Call.{Call}
use Rattle.vc_base.specs.declared.Call.TheVariants.{Close, DqBuf}
use Rattle.vc_base.specs.declared.Reply.{Reply}
use Rattle.vc_base.specs.declared.Reply.TheVariants.{Taken}
use Rattle.vc_model.specs.Wire.{reply_body, taken_bytes}

-- a reply's fields, which are the same for every call
abbrev pub reply_fields : Reply → List ℕ
reply_fields told = reply_body Close told []

-- the bytes behind them
abbrev pub handed_part : Call → Reply → List ℕ → List ℕ
handed_part request (Taken index used flags seq stamp) handed = taken_bytes request handed
handed_part request told handed = []

-- the bytes in use of the payload of a buffer that was taken
abbrev pub used_bytes : Reply → List ℕ → List ℕ
used_bytes (Taken index used flags seq stamp) payload = take used payload
used_bytes told payload = []

-- the payload of a buffer that was taken from CAPTURE is there
abbrev pub HasUsed : Call → Reply → List ℕ → Type 0
HasUsed (DqBuf Cap block) (Taken index used flags seq stamp) payload = used ≤ length payload
HasUsed request told payload = Unit {0}
