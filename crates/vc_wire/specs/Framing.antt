-- What a framer keeps between two pieces of the bytes, and what it tells.
use Rattle.std.specs.Prelude.{ℕ, ◌≡◌, ◌≤◌, true, false, List, length}
use Rattle.vc_model.specs.Messages as messages
use Rattle.vc_model.specs.Messages.{has_message, has_bad_length}
use Rattle.vc_wire.specs.declared.framer.Framed.{Framed}
use Rattle.vc_wire.specs.declared.framer.Framed.TheVariants.{More, Whole, BadLength}

-- A framer: the bytes of the message that is begun, its length before them, and the body of the last one that ended.
pub record Framing : Type 0 where
  pub kept : List ℕ
  pub body : List ℕ

-- bytes that are kept begin with no whole message, and of one with a length out of range these four are kept
pub record IsBegun (kept : List ℕ) : Type 0 where
  pub not_whole : has_message kept ≡ false
  pub four : has_bad_length kept ≡ true → length kept ≤ 4

-- what is told, by the framer's answer and the body that it has
abbrev pub told_by : Framed → List ℕ → messages.Framing
told_by More body = messages.more
told_by Whole body = messages.whole body
told_by BadLength body = messages.bad_length
