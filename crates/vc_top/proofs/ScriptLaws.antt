-- What the lines of a script ask for, and how many finishes they print.
use Rattle.std.proofs.Common.{ℕ, ◌≡◌, ◌+◌, ◌<◌, ◌≤◌, Bool, true, false, cond, is_none, Option, Some, None, List, [], ◌∷◌, ◌++◌, length, drop, refl, sym, ap, ◌∙◌, subst, arith}
use Rattle.std.specs.Prelude.{option_map}
use Rattle.std.proofs.lemmas.Bool.{false≢true}
use Rattle.vc_base.specs.Buffers.{is_empty}
use Rattle.vc_base.specs.Device.{DeviceEvent, call, claim, finish}
use Rattle.vc_base.specs.declared.Call.{Call}
use Rattle.vc_script.specs.declared.line.Line.{Line}
use Rattle.vc_script.specs.Lines.{line_of}
use Rattle.vc_script.specs.Texts.{reply_text}
use Rattle.vc_model.specs.Coder.{Coder, the_coder}
use Rattle.vc_model.specs.Context.{Context, Slot, Running}
use Rattle.vc_model.specs.Runs.{JobData, job_data, finish_word}
use Rattle.vc_model.specs.Solo.{SoloEntry, Finished}
use Rattle.vc_model.specs.Devices.{DeviceState, DeviceReply, Told, NoJob, Empty, new_device, slot_of, job_of, finish_of, finish_slot, finish_job, device_step, device_after, device_run, told_entries, all_entries}
use Rattle.vc_model.specs.Handed.{same_bool, finishes_by_fault}
use Rattle.vc_model.specs.Standing.{job_in, job_in_slot}
use Rattle.vc_model.specs.Script.{ReplyText, Asked, AsksNothing, AsksCall, AsksClaim, AsksFinish, AsksRun, IsAsked, AreAsked, found_in, fault_in, run_events, line_events, printed_by, script_events, events_of_script}
use Rattle.vc_base.specs.Limits.{most_slots}
use Rattle.vc_model.proofs.ScriptsAreHonest.{scripts_are_honest}
use Rattle.vc_model.proofs.EachSlotPrintsItsOwn.{Comes, comes_next, comes_after, finishes_are_printed}
use Rattle.vc_model.proofs.LinesArePrinted.{comes_held, claim_one}
use Rattle.vc_desk.specs.Asking.{asked_of, asks_line, asks_lines, with_rest}
use Rattle.vc_desk.specs.Carries.{finishes}
use Rattle.vc_model.proofs.EachSlotPrintsItsOwn.{slots_print_their_own, same_events_same_lines}
use Rattle.vc_top.specs.Slots.{LinesAsk, ScriptIsHonest, FinishLinesAreCounted, TextsAreOne, OwnLines, SameLines}
use Rattle.vc_desk.proofs.LinesCanBeAsked.{asked_line}
use Rattle.vc_desk.proofs.AnswersAreLines.{line_texts}
use Rattle.vc_top.proofs.LinesCarriedOut.{finishes_both}

-- What is asked for

line_asks : (n : ℕ) (line : List ℕ) (o : Option (Option Line)) → line_of n line ≡ o → (asked : Asked) → option_map asked_of o ≡ Some asked → IsAsked n asked
line_asks n line None e asked q = absurd (cc)
line_asks n line (Some l) e asked q = let z : asked_of l ≡ asked = cc in subst (IsAsked n) z (asked_line n line l e)

with_asked : (n : ℕ) (x : Option Asked) (rest : Option (List Asked)) (asked : List Asked) → with_rest x rest ≡ Some asked → ((a : Asked) → x ≡ Some a → IsAsked n a) → ((l : List Asked) → rest ≡ Some l → AreAsked n l) → AreAsked n asked
with_asked n None rest asked e f g = absurd (cc)
with_asked n (Some a) None asked e f g = absurd (cc)
with_asked n (Some a) (Some l) asked e f g = let z : a ∷ l ≡ asked = cc in subst (AreAsked n) z (f a refl, g l refl)

pub lines_ask : LinesAsk
lines_ask slots [] asked e = let z : [] ≡ asked = cc in subst (AreAsked slots) z tt
lines_ask slots (line ∷ rest) asked e =
    with_asked slots (asks_line slots line) (asks_lines slots rest) asked e (line_asks slots line (line_of slots line) refl) (lines_ask slots rest)

pub script_is_honest : ScriptIsHonest
script_is_honest slots ls asked output k e =
    scripts_are_honest reply_text the_coder slots asked output k (lines_ask slots ls asked e)

-- Each finish is told

abbrev OneTold : Bool → Coder → DeviceState → DeviceEvent → Type 0
OneTold fault coder d e = finishes_by_fault fault (told_entries e (device_step coder d e).reply) ≡ finishes fault (e ∷ [])

abbrev AllTold : Bool → Coder → DeviceState → List DeviceEvent → Type 0
AllTold fault coder d [] = Unit {0}
AllTold fault coder d (e ∷ es) = OneTold fault coder d e × AllTold fault coder (device_step coder d e).device es

told-append : (fault : Bool) (coder : Coder) (d : DeviceState) (xs ys : List DeviceEvent) → AllTold fault coder d xs → AllTold fault coder (device_after coder d xs) ys → AllTold fault coder d (xs ++ ys)
told-append fault coder d [] ys a b = b
told-append fault coder d (x ∷ xs) ys a b = (a.0, told-append fault coder (device_step coder d x).device xs ys a.1 b)

count-append : (fault : Bool) (xs ys : List SoloEntry) → finishes_by_fault fault (xs ++ ys) ≡ finishes_by_fault fault xs + finishes_by_fault fault ys
count-append fault [] ys = omega arith
count-append fault (x ∷ xs) ys = let h = count-append fault xs ys in omega (arith, h)

told_count : (fault : Bool) (coder : Coder) (d : DeviceState) (es : List DeviceEvent) → AllTold fault coder d es → finishes_by_fault fault (all_entries (device_run coder d es)) ≡ finishes fault es
told_count fault coder d [] a = refl
told_count fault coder d (e ∷ es) a =
    let next = (device_step coder d e).device in
    let one = a.0 in
    let rest = told_count fault coder next es a.1 in
    let whole = count-append fault (told_entries e (device_step coder d e).reply) (all_entries (device_run coder next es)) in
    let events = finishes_both fault (e ∷ []) es in
    omega (arith, one, rest, whole, events)

-- Events of one line

call_told : (fault : Bool) (k : ℕ) (request : Call) (bytes : List ℕ) (found : Bool) (r : DeviceReply) → finishes_by_fault fault (told_entries (call k request bytes found) r) ≡ 0
call_told fault k request bytes found (Told j reply) = refl
call_told fault k request bytes found NoJob = refl
call_told fault k request bytes found Empty = refl

claim_told : (fault : Bool) (worker : ℕ) (r : DeviceReply) → finishes_by_fault fault (told_entries (claim worker) r) ≡ 0
claim_told fault worker (Told j reply) = refl
claim_told fault worker NoJob = refl
claim_told fault worker Empty = refl

one_counted : (e : DeviceEvent) (b : Bool) → cond b 1 0 + 0 ≡ length (cond b (e ∷ []) [])
one_counted e true = refl
one_counted e false = refl

-- what a finish by a worker that has a job is told
ended :
    (coder : Coder) (d : DeviceState) (worker j : ℕ) (c : Context) (fault : Bool) (info : JobData) (o : Option Running)
    → option_map (job_data c) o ≡ Some info → (word : List ℕ) × ((finish_job coder d worker j c o fault).reply ≡ Told j (Finished word))
ended coder d worker j c fault info None e = absurd (cc)
ended coder d worker j c fault info (Some r) e = (finish_word coder (job_data c r) fault, refl)

slot_ended : (coder : Coder) (d : DeviceState) (worker j : ℕ) (fault : Bool) (info : JobData) (s : Slot) → job_in s ≡ Some info → (word : List ℕ) × ((finish_slot coder d worker j s fault).reply ≡ Told j (Finished word))
slot_ended coder d worker j fault info None e = absurd (cc)
slot_ended coder d worker j fault info (Some c) e = ended coder d worker j c fault info c.running e

worker_ended : (coder : Coder) (n : ℕ) (d : DeviceState) (worker j : ℕ) (fault : Bool) → Comes coder n d → job_of d worker ≡ Some j → (word : List ℕ) × ((device_step coder d (finish worker fault)).reply ≡ Told j (Finished word))
unfolding device_step
worker_ended coder n d worker j fault c e =
    let r = (comes_held coder n d c).running worker j e in
    let p : job_in (slot_of d j) ≡ Some r.0 = sym (ap (job_in_slot d) e) ∙ r.1 in
    subst (λ (o : Option ℕ). (word : List ℕ) × ((finish_of coder d worker o fault).reply ≡ Told j (Finished word))) (sym e) (slot_ended coder d worker j fault r.0 (slot_of d j) p)

finish_told : (fault : Bool) (coder : Coder) (n : ℕ) (d : DeviceState) (worker j : ℕ) (given : Bool) → Comes coder n d → job_of d worker ≡ Some j → OneTold fault coder d (finish worker given)
finish_told fault coder n d worker j given c e =
    let w = worker_ended coder n d worker j given c e in
    ap (λ (r : DeviceReply). finishes_by_fault fault (told_entries (finish worker given) r)) w.1 ∙ one_counted (finish worker given) (same_bool fault given)

some_job : (o : Option ℕ) → is_none o ≡ false → (j : ℕ) × (o ≡ Some j)
some_job None e = absurd (false≢true (sym e))
some_job (Some j) e = (j, refl)

claim_lines : (fault : Bool) (coder : Coder) (d : DeviceState) (worker : ℕ) (b : Bool) → AllTold fault coder d (cond b (claim worker ∷ []) [])
claim_lines fault coder d worker true = (claim_told fault worker (device_step coder d (claim worker)).reply, tt)
claim_lines fault coder d worker false = tt

finish_lines_of : (fault : Bool) (coder : Coder) (n : ℕ) (d : DeviceState) (worker : ℕ) (given : Bool) → Comes coder n d → (b : Bool) → is_none (job_of d worker) ≡ b → AllTold fault coder d (cond b [] (finish worker given ∷ []))
finish_lines_of fault coder n d worker given c true e = tt
finish_lines_of fault coder n d worker given c false e =
    let j = some_job (job_of d worker) e in (finish_told fault coder n d worker j.0 given c j.1, tt)

run_lines :
    (fault : Bool) (t : ReplyText) (coder : Coder) (n : ℕ) (d : DeviceState) (worker : ℕ) (given : Bool) → n ≤ most_slots → worker < 64
    → Comes coder n d → (b nobody : Bool) → is_none (job_of d worker) ≡ b → is_empty d.waiting ≡ nobody
    → AllTold fault coder d (run_events worker b nobody given)
run_lines fault t coder n d worker given m h c true true e f =
    (claim_told fault worker (device_step coder d (claim worker)).reply, tt)
run_lines fault t coder n d worker given m h c true false e f =
    let j = (claim_one t coder n d worker m h c e).job f in
    (claim_told fault worker (device_step coder d (claim worker)).reply, (finish_told fault coder n (device_step coder d (claim worker)).device worker j.0 given (comes_next coder n d (claim worker) c) j.1, tt))
run_lines fault t coder n d worker given m h c false nobody e f = tt

line_told : (fault : Bool) (t : ReplyText) (coder : Coder) (n : ℕ) (d : DeviceState) (asked : Asked) (text : List ℕ) → n ≤ most_slots → IsAsked n asked → Comes coder n d → AllTold fault coder d (line_events t d asked text)
line_told fault t coder n d AsksNothing text m a c = tt
line_told fault t coder n d (AsksCall slot request bytes) text m a c =
    (call_told fault slot request bytes (found_in t slot request text) (device_step coder d (call slot request bytes (found_in t slot request text))).reply, tt)
line_told fault t coder n d (AsksClaim worker) text m a c = claim_lines fault coder d worker (is_none (job_of d worker))
line_told fault t coder n d (AsksFinish worker) text m a c =
    finish_lines_of fault coder n d worker (fault_in text) c (is_none (job_of d worker)) refl
line_told fault t coder n d (AsksRun worker) text m a c =
    run_lines fault t coder n d worker (fault_in text) m (omega arith) c (is_none (job_of d worker)) (is_empty d.waiting) refl refl

script_told :
    (fault : Bool) (t : ReplyText) (coder : Coder) (n : ℕ) (d : DeviceState) (lines : List Asked) (output : List ℕ) → n ≤ most_slots
    → AreAsked n lines → Comes coder n d → AllTold fault coder d (script_events t coder d lines output)
script_told fault t coder n d [] output m a c = tt
script_told fault t coder n d (asked ∷ rest) output m a c =
    let text = printed_by d asked output in
    let es = line_events t d asked text in
    let after = device_after coder d es in
    let left = drop (length text) output in
    told-append fault coder d es (script_events t coder after rest left) (line_told fault t coder n d asked text m a.0 c) (script_told fault t coder n after rest left m a.1 (comes_after coder n d es c))

pub finish_lines_are_counted : FinishLinesAreCounted
finish_lines_are_counted slots asked output fault m a p =
    finishes_are_printed reply_text the_coder slots asked output fault line_texts m p
    ∙ told_count fault the_coder (new_device slots) (events_of_script reply_text the_coder slots asked output) (script_told fault reply_text the_coder slots (new_device slots) asked output m a (record { past = []; same = refl }))

-- Texts

pub texts_are_one : TextsAreOne
texts_are_one slot worker word =
    record { claimed = refl; finished = refl; no_claim = refl; busy = refl; busy_run = refl; idle = refl }

-- Lines of slots

pub own_lines : OwnLines
own_lines slots asked output k few l prints =
    slots_print_their_own reply_text the_coder slots asked output k line_texts few l prints

pub same_lines : SameLines
same_lines slots others asked other_asked output other_output k few l other_few m prints other_prints same =
    same_events_same_lines reply_text the_coder slots others asked other_asked output other_output k line_texts few l other_few m prints other_prints same
