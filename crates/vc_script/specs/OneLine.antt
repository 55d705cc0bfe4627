-- What is printed is one line each time, and the line of a slot begins with its number and a space
-- (docs/FORMAT.md, "Scripts").
use Rattle.std.specs.Prelude.{ℕ, ◌≡◌, ◌<◌, ◌^◌, ◌&&◌, ◌==◌, Bool, true, not, List, [], ◌∷◌, ◌++◌, decimal}
use Rattle.std.specs.List.{list_all}
use Rattle.vc_base.specs.declared.Call.{Call}
use Rattle.vc_base.specs.declared.Errno.TheVariants.{NoMem}
use Rattle.vc_base.specs.declared.Reply.{Reply}
use Rattle.vc_base.specs.declared.Reply.TheVariants.{Refused}
use Rattle.vc_script.specs.Texts.{reply_text, claim_text, finish_text}

-- no line feed
abbrev pub stays_on_line : ℕ → Bool
stays_on_line b = not (b == 10)

-- One line of a slot: its number, a space, and more. The only line feed is the last byte.
abbrev pub IsLineOf : ℕ → List ℕ → Type 0
IsLineOf slot text = (more : List ℕ) × (text ≡ decimal slot ++ (32 ∷ (more ++ 10 ∷ []))) × (list_all stays_on_line more ≡ true)

-- the answer to a call, whatever it is, is one line of its slot
abbrev pub RepliesAreLines : Type 0
RepliesAreLines = (slot : ℕ) (call : Call) (reply : Reply) (payload : List ℕ) → IsLineOf slot (reply_text slot call reply payload)

-- so is a claim
abbrev pub ClaimsAreLines : Type 0
ClaimsAreLines = (slot : ℕ) → IsLineOf slot (claim_text slot)

-- and a finish with a word that has no line feed
abbrev pub FinishesAreLines : Type 0
FinishesAreLines = (slot : ℕ) (word : List ℕ) → list_all stays_on_line word ≡ true → IsLineOf slot (finish_text slot word)

-- a decimal digit
abbrev pub is_digit : ℕ → Bool
is_digit b = not (b == 32) && stays_on_line b && not (b == 45)

-- the number of a slot has digits alone: no space, no line feed, no `-`
abbrev pub NumbersAreDigits : Type 0
NumbersAreDigits = (slot : ℕ) → list_all is_digit (decimal slot) ≡ true

-- and at least one
abbrev pub NumbersAreWords : Type 0
NumbersAreWords = (slot : ℕ) → decimal slot ≡ [] → ⊥

-- different slots have different numbers
abbrev pub NumbersDiffer : Type 0
NumbersDiffer = (slot other : ℕ) → slot < 2 ^ 64 → other < 2 ^ 64 → decimal slot ≡ decimal other → slot ≡ other

-- out of memory is told by a line of its own
abbrev pub WantIsTold : Type 0
WantIsTold = (slot : ℕ) (call : Call) (reply : Reply) (payload other : List ℕ) → reply_text slot call reply payload ≡ reply_text slot call (Refused NoMem) other → reply ≡ Refused NoMem
