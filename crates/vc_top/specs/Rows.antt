-- Worked scripts: what their lines ask for and print, with the grammar and the texts of the program.
use Rattle.std.specs.Prelude.{ℕ, ◌≡◌, false, codes, Some, None, List, [], ◌∷◌, ◌++◌}
use Rattle.std.specs.Str.Lines.{lines}
use Rattle.vc_base.specs.declared.Side.TheVariants.{Out, Cap}
use Rattle.vc_base.specs.declared.Kind.TheVariants.{Copy}
use Rattle.vc_base.specs.declared.Call.TheVariants.{Open, Close, ReqBufs, QueryBuf, QBuf, DqBuf, StreamOn, StreamOff}
use Rattle.vc_model.specs.Coder.{the_coder}
use Rattle.vc_model.specs.Rows.{stamp}
use Rattle.vc_model.specs.Script.{Asked, AsksNothing, AsksCall, AsksClaim, AsksFinish, AsksRun, Prints}
use Rattle.vc_script.specs.Texts.{reply_text}
use Rattle.vc_desk.specs.Asking.{asks_lines}

-- one copying context up to its streaming queues
abbrev pub opening : List ℕ
opening =
    codes "0 open copy\n0 req out 1\n0 req cap 1\n0 q out 0 7 00ff\n0 q cap 0\n0 on out\n0 on cap\n"

abbrev pub opening_asks : List Asked
opening_asks =
    AsksCall 0 (Open Copy) [] ∷ AsksCall 0 (ReqBufs Out 1) [] ∷ AsksCall 0 (ReqBufs Cap 1) [] ∷ AsksCall 0 (QBuf Out 0 2 (stamp 7)) (0 ∷ 255 ∷ [])
    ∷ AsksCall 0 (QBuf Cap 0 0 (stamp 0)) [] ∷ AsksCall 0 (StreamOn Out) [] ∷ AsksCall 0 (StreamOn Cap) [] ∷ []

abbrev pub opening_prints : List ℕ
opening_prints =
    codes "0 open ok\n0 req ok 1\n0 req ok 1\n0 q ok\n0 q ok\n0 on ok\n0 on ok\n"

-- the first script of the examples: a comment, and one copying context
abbrev pub first_asks : List Asked
first_asks =
    AsksNothing ∷ (opening_asks ++ AsksRun 0 ∷ AsksCall 0 (DqBuf Cap false) [] ∷ AsksCall 0 (DqBuf Out false) [] ∷ [])

abbrev pub FirstScriptAsks : Type 0
FirstScriptAsks =
    asks_lines 16 (lines (codes "# One copying context: the bytes 00ff go in on OUTPUT and come out on CAPTURE with their stamp 7.\n" ++ (opening ++ codes "run 0\n0 dq cap\n0 dq out\n"))) ≡ Some first_asks

abbrev pub FirstScriptPrints : Type 0
FirstScriptPrints =
    Prints reply_text the_coder 16 first_asks (opening_prints ++ codes "0 claim\n0 finish copied\n0 dq ok 0 2 0 0 7 00ff\n0 dq ok 0 2 0 0 7 -\n")

-- While a job runs its queues aren't stopped and its worker is busy; behind its end a worker is idle.
abbrev pub running_asks : List Asked
running_asks =
    opening_asks ++ AsksClaim 0 ∷ AsksCall 0 (StreamOff Out) [] ∷ AsksCall 0 (StreamOff Cap) [] ∷ AsksCall 0 Close [] ∷ AsksClaim 0 ∷ AsksFinish 0
    ∷ AsksCall 0 (StreamOff Out) [] ∷ AsksCall 0 (DqBuf Out false) [] ∷ AsksCall 0 (QueryBuf Out 0) [] ∷ AsksCall 0 (DqBuf Cap false) []
    ∷ AsksFinish 0 ∷ []

abbrev pub RunningScriptAsks : Type 0
RunningScriptAsks =
    asks_lines 16 (lines (opening ++ codes "claim 0\n0 off out\n0 off cap\n0 close\nclaim 0\nfinish 0\n0 off out\n0 dq out\n0 query out 0\n0 dq cap\nfinish 0\n")) ≡ Some running_asks

abbrev pub RunningScriptPrints : Type 0
RunningScriptPrints =
    Prints reply_text the_coder 16 running_asks
    (opening_prints
    ++ codes "0 claim\n0 off blocked\n0 off blocked\n0 close blocked\n- claim busy\n0 finish copied\n0 off ok\n0 dq EINVAL\n0 query ok 0 4096 0\n0 dq ok 0 2 0 0 7 00ff\n- finish idle\n")

-- Two slots: nothing is to be claimed, and one slot stays closed.
abbrev pub two_slots_asks : List Asked
two_slots_asks =
    AsksCall 1 (Open Copy) [] ∷ AsksClaim 15 ∷ AsksCall 0 (DqBuf Cap false) [] ∷ AsksCall 1 (StreamOn Out) [] ∷ []

abbrev pub TwoSlotsAsk : Type 0
TwoSlotsAsk = asks_lines 2 (lines (codes "1 open copy\nclaim 15\n0 dq cap\n1 on out\n")) ≡ Some two_slots_asks

abbrev pub TwoSlotsPrint : Type 0
TwoSlotsPrint = Prints reply_text the_coder 2 two_slots_asks (codes "1 open ok\n- claim none\n0 dq ENOTTY\n1 on EINVAL\n")

-- a line of a slot that isn't there is in no script
abbrev pub ThirdOfTwoIsBad : Type 0
ThirdOfTwoIsBad = asks_lines 2 (lines (codes "1 open copy\n2 open copy\n")) ≡ None
