-- What the lines of a script ask for, and what is printed of each slot.
use Rattle.std.specs.Prelude.{ℕ, ◌≡◌, ◌<◌, ◌≤◌, Bool, Some, None, List}
use Rattle.vc_base.specs.Device.{claim}
use Rattle.vc_model.specs.Coder.{the_coder}
use Rattle.vc_model.specs.Devices.{NoJob}
use Rattle.vc_model.specs.Places.{AreHonest}
use Rattle.vc_model.specs.Solo.{solo_run}
use Rattle.vc_model.specs.Script.{Asked, AsksClaim, AsksFinish, AsksRun, AreAsked, Prints, slot_lines, run_text, own_events, finish_lines, claim_text, finish_text, device_text, text_without}
use Rattle.vc_base.specs.Limits.{most_slots}
use Rattle.vc_script.specs.Texts as texts
use Rattle.vc_script.specs.Texts.{reply_text, no_claim_text, busy_text, idle_text}
use Rattle.vc_desk.specs.Asking.{asks_lines}
use Rattle.vc_desk.specs.Carries.{finishes}
use Rattle.vc_top.specs.Ends.{events_in}

-- What is printed of each slot is what the slot is told by itself, on its own calls, claims and finishes alone.
abbrev pub OwnLines : Type 0
OwnLines =
    (slots : ℕ) (asked : List Asked) (output : List ℕ) (k : ℕ) → slots ≤ most_slots → k < slots → Prints reply_text the_coder slots asked output
    → slot_lines k output ≡ run_text reply_text k (solo_run the_coder None (own_events reply_text the_coder slots asked output k))

-- Two scripts in which the same happens to a slot print the same lines of it.
abbrev pub SameLines : Type 0
SameLines =
    (slots others : ℕ) (asked other_asked : List Asked) (output other_output : List ℕ) (k : ℕ) → slots ≤ most_slots → k < slots → others ≤ most_slots
    → k < others → Prints reply_text the_coder slots asked output → Prints reply_text the_coder others other_asked other_output
    → own_events reply_text the_coder slots asked output k ≡ own_events reply_text the_coder others other_asked other_output k
    → slot_lines k output ≡ slot_lines k other_output

-- What the lines of a script ask for can be asked: slots and workers are there, and a QBuf carries as many bytes as it says.
abbrev pub LinesAsk : Type 0
LinesAsk = (slots : ℕ) (ls : List (List ℕ)) (asked : List Asked) → asks_lines slots ls ≡ Some asked → AreAsked slots asked

-- So each slot's events in a script are honest.
abbrev pub ScriptIsHonest : Type 0
ScriptIsHonest =
    (slots : ℕ) (ls : List (List ℕ)) (asked : List Asked) (output : List ℕ) (k : ℕ) → asks_lines slots ls ≡ Some asked → AreHonest (solo_run the_coder None (own_events reply_text the_coder slots asked output k))

-- The lines that finishes printed are as many as the jobs that ended, with a fault and without.
abbrev pub FinishLinesAreCounted : Type 0
FinishLinesAreCounted =
    (slots : ℕ) (asked : List Asked) (output : List ℕ) (fault : Bool) → slots ≤ most_slots → AreAsked slots asked → Prints reply_text the_coder slots asked output → finish_lines fault output ≡ finishes fault (events_in slots asked output)

-- The texts of the model are those that are printed.
pub record TellsAlike (slot worker : ℕ) (word : List ℕ) : Type 0 where
  pub claimed : claim_text slot ≡ texts.claim_text slot
  pub finished : finish_text slot word ≡ texts.finish_text slot word
  pub no_claim : device_text reply_text (claim worker) NoJob ≡ no_claim_text
  pub busy : text_without (AsksClaim worker) ≡ busy_text
  pub busy_run : text_without (AsksRun worker) ≡ busy_text
  pub idle : text_without (AsksFinish worker) ≡ idle_text

abbrev pub TextsAreOne : Type 0
TextsAreOne = (slot worker : ℕ) (word : List ℕ) → TellsAlike slot worker word
