-- A script prints its output line by line, and the replay of an audit finds nothing exactly where a report is right.
-- Each event prints a known number of lines, so the text of a script can be cut at the lines of each event, and the
-- replay reads just these.
use Rattle.std.proofs.Common.{ℕ, zero, suc, ◌≡◌, ◌≤◌, ◌<◌, ◌+◌, ◌^◌, ◌==◌, eqb, ltb, Bool, true, false, cond, ◌||◌, is_none, Option, Some, None, List, [], ◌∷◌}
use Rattle.std.proofs.Common.{◌++◌, length, get_or, set, drop, refl, sym, ap, ◌∙◌, subst, arith, append_assoc, get_or-set_same, length-set}
use Rattle.std.specs.Prelude.{codes, bytes_eq, option_map}
use Rattle.std.proofs.Math.Seq.{drop-append_seam}
use Rattle.std.proofs.lemmas.List.{length-replicate}
use Rattle.std.proofs.lemmas.Bool.{lt-ltb, false≢true}
use Rattle.std.proofs.lemmas.Slice.Eq.{bytes_eq-Decides}
use Rattle.vc_base.specs.declared.Call.{Call}
use Rattle.vc_base.specs.Buffers.{is_empty}
use Rattle.vc_base.specs.Device.{DeviceEvent, call, claim, finish, shut}
use Rattle.vc_model.specs.Coder.{Coder}
use Rattle.vc_model.specs.Context.{Context, Slot, Running}
use Rattle.vc_model.specs.Answer.{answer}
use Rattle.vc_model.specs.Runs.{is_claimable, JobData, job_data, finish_word}
use Rattle.vc_model.specs.Devices.{DeviceState, DeviceStep, new_device, slot_of, job_of, with_slot, ignored, call_answered, claim_slot, claim_first, finish_of, finish_slot, finish_job, device_step, device_after}
use Rattle.vc_base.specs.Limits.{most_workers, most_slots}
use Rattle.vc_model.specs.JobList.{waits, ListIsExact}
use Rattle.vc_model.specs.Standing.{job_in, job_in_slot}
use Rattle.vc_model.specs.Seats.{WorkersAreApart}
use Rattle.vc_model.specs.Script.{ReplyText, Asked, AsksNothing, AsksCall, AsksClaim, AsksFinish, AsksRun, IsAsked, AreAsked, claim_text, finish_text}
use Rattle.vc_model.specs.Script.{device_text, found_in, fault_in, run_events, line_events, line_text, lines_printed, first_lines, printed_by, script_text}
use Rattle.vc_model.specs.Script.{has_feed, IsLineText, split_lines, PrintsLines, LinesArePrinted}
use Rattle.vc_model.specs.Audit.{same_lines, wrong_from, ReplayFindsRight}
use Rattle.vc_model.proofs.SlotsAreIsolated.{is_there}
use Rattle.vc_model.proofs.JobListIsExact.{exact_list, front_waits}
use Rattle.vc_model.proofs.EachSlotPrintsItsOwn.{Line, rest_of, line_front, front_text, front_feed, claim_line, finish_line, call_line, word_feed, Comes, comes_slots, comes_next, comes_known, comes_after}
use Rattle.vc_model.proofs.HistoriesGrow.{jobs_are_held}

-- One line of text

pub record OneLine (text : List ℕ) : Type 0 where
  pub front : List ℕ
  pub same : text ≡ front ++ 10 ∷ []
  pub whole : has_feed front ≡ false

cut_split :
    (x k : ℕ) (front more : List ℕ) → first_lines ((front ++ 10 ∷ []) ++ more) (suc k) ≡ (front ++ 10 ∷ []) ++ first_lines more k → (b : Bool)
    → (b || has_feed front) ≡ false → x ∷ first_lines ((front ++ 10 ∷ []) ++ more) (cond b k (suc k)) ≡ x ∷ ((front ++ 10 ∷ []) ++ first_lines more k)
cut_split x k front more h true e = absurd (false≢true (sym e))
cut_split x k front more h false e = ap (λ l. x ∷ l) h

cut_front : (front more : List ℕ) (k : ℕ) → has_feed front ≡ false → first_lines ((front ++ 10 ∷ []) ++ more) (suc k) ≡ (front ++ 10 ∷ []) ++ first_lines more k
cut_front [] more k e = refl
cut_front (x ∷ front) more k e =
    cut_split x k front more (cut_front front more k (rest_of (eqb x 10) (has_feed front) e)) (eqb x 10) e

pub cut_line : (text more : List ℕ) (k : ℕ) → OneLine text → first_lines (text ++ more) (suc k) ≡ text ++ first_lines more k
cut_line text more k l =
    subst (λ t. first_lines (t ++ more) (suc k) ≡ t ++ first_lines more k) (sym l.same) (cut_front l.front more k l.whole)

none_left : (more : List ℕ) → first_lines more 0 ≡ []
none_left more = refl

-- a text of one line, and one of two
cut_one : (text more : List ℕ) → OneLine text → first_lines ((text ++ []) ++ more) 1 ≡ text ++ []
cut_one text more l = ap (λ t. first_lines t 1) (append_assoc text [] more) ∙ cut_line text more 0 l

cut_two : (text other more : List ℕ) → OneLine text → OneLine other → first_lines ((text ++ (other ++ [])) ++ more) 2 ≡ text ++ (other ++ [])
cut_two text other more l m =
    ap (λ t. first_lines t 2) (append_assoc text (other ++ []) more) ∙ (cut_line text ((other ++ []) ++ more) 1 l ∙ ap (λ t. text ++ t) (cut_one other more m))

of_line : (j : ℕ) (text : List ℕ) → Line j text → j < 2 ^ 64 → OneLine text
of_line j text l h = record { front = line_front j text l; same = front_text j text l; whole = front_feed j text l h }

dash_line : (front : List ℕ) → has_feed front ≡ false → OneLine (45 ∷ (front ++ 10 ∷ []))
dash_line front e = record { front = 45 ∷ front; same = refl; whole = e }

-- The number of workers stays

either_workers : (b : Bool) (m : ℕ) (x y : DeviceStep) → length x.device.workers ≡ m → length y.device.workers ≡ m → length (cond b x y).device.workers ≡ m
either_workers true m x y e f = e
either_workers false m x y e f = f

claimed_workers : (d : DeviceState) (worker j : ℕ) (s : Slot) → length (claim_slot d worker j s).device.workers ≡ length d.workers
unfolding with_slot
claimed_workers d worker j None = refl
claimed_workers d worker j (Some c) = length-set d.workers worker (Some j)

first_workers : (d : DeviceState) (worker : ℕ) (waiting : List ℕ) → length (claim_first d worker waiting).device.workers ≡ length d.workers
first_workers d worker [] = refl
first_workers d worker (j ∷ rest) = claimed_workers (record d { waiting = rest }) worker j (slot_of d j)

job_workers : (coder : Coder) (d : DeviceState) (worker j : ℕ) (c : Context) (o : Option Running) (fault : Bool) → length (finish_job coder d worker j c o fault).device.workers ≡ length d.workers
unfolding with_slot
job_workers coder d worker j c None fault = refl
job_workers coder d worker j c (Some r) fault = length-set d.workers worker None

slot_workers : (coder : Coder) (d : DeviceState) (worker j : ℕ) (s : Slot) (fault : Bool) → length (finish_slot coder d worker j s fault).device.workers ≡ length d.workers
slot_workers coder d worker j None fault = refl
slot_workers coder d worker j (Some c) fault = job_workers coder d worker j c c.running fault

worker_workers : (coder : Coder) (d : DeviceState) (worker : ℕ) (o : Option ℕ) (fault : Bool) → length (finish_of coder d worker o fault).device.workers ≡ length d.workers
worker_workers coder d worker None fault = refl
worker_workers coder d worker (Some j) fault = slot_workers coder d worker j (slot_of d j) fault

call_workers : (d : DeviceState) (j : ℕ) (request : Call) (bytes : List ℕ) (found : Bool) → length (call_answered d j (answer (slot_of d j) request bytes found)).device.workers ≡ length d.workers
unfolding with_slot
call_workers d j request bytes found = refl

step_workers : (coder : Coder) (d : DeviceState) (e : DeviceEvent) → length (device_step coder d e).device.workers ≡ length d.workers
unfolding device_step
step_workers coder d (call j request bytes found) =
    either_workers (ltb j (length d.slots)) (length d.workers) (call_answered d j (answer (slot_of d j) request bytes found)) (ignored d) (call_workers d j request bytes found) refl
step_workers coder d (claim worker) =
    either_workers (ltb worker (length d.workers)) (length d.workers) (cond (is_none (job_of d worker)) (claim_first d worker d.waiting) (ignored d))
    (ignored d)
    (either_workers (is_none (job_of d worker)) (length d.workers) (claim_first d worker d.waiting) (ignored d) (first_workers d worker d.waiting) refl)
    refl
step_workers coder d (finish worker fault) = worker_workers coder d worker (job_of d worker) fault
step_workers coder d shut = refl

workers_from : (coder : Coder) (d : DeviceState) (es : List DeviceEvent) → length (device_after coder d es).workers ≡ length d.workers
workers_from coder d [] = refl
workers_from coder d (e ∷ es) = workers_from coder (device_step coder d e).device es ∙ step_workers coder d e

pub comes_workers : (coder : Coder) (n : ℕ) (d : DeviceState) → Comes coder n d → length d.workers ≡ most_workers
comes_workers coder n d c =
    ap (λ x. length x.workers) c.same ∙ (workers_from coder (new_device n) c.past ∙ length-replicate {A = Option ℕ} most_workers None)

pub comes_exact : (coder : Coder) (n : ℕ) (d : DeviceState) → Comes coder n d → ListIsExact d
comes_exact coder n d c = subst ListIsExact (sym c.same) (exact_list coder n c.past)

pub comes_held : (coder : Coder) (n : ℕ) (d : DeviceState) → Comes coder n d → WorkersAreApart d
comes_held coder n d c = subst WorkersAreApart (sym c.same) (jobs_are_held coder n c.past)

-- The text of one event

call_one :
    (t : ReplyText) (coder : Coder) (n : ℕ) (d : DeviceState) (j : ℕ) (request : Call) (bytes : List ℕ) (found : Bool) → IsLineText t
    → n ≤ most_slots → j < n → Comes coder n d
    → OneLine (device_text t (call j request bytes found) (device_step coder d (call j request bytes found)).reply)
unfolding device_step
call_one t coder n d j request bytes found l m h c =
    let a = answer (slot_of d j) request bytes found in
    let z = comes_slots coder n d c in
    let line = l j request a.reply a.bytes (omega arith) (comes_known coder n d j request bytes found c) in
    subst (λ b. OneLine (device_text t (call j request bytes found) (cond b (call_answered d j a) (ignored d)).reply))
    (sym (lt-ltb j (length d.slots) (omega arith)))
    (of_line j (t j request a.reply a.bytes) (call_line j (t j request a.reply a.bytes) line) (omega arith))

-- a claim that finds something
front_one :
    (t : ReplyText) (d : DeviceState) (worker j n : ℕ) (rest : List ℕ) → n ≤ most_slots → length d.slots ≡ n → (s : Slot) → slot_of d j ≡ s
    → is_claimable s ≡ true
    → (OneLine (device_text t (claim worker) (claim_slot (record d { waiting = rest }) worker j s).reply))
    × ((claim_slot (record d { waiting = rest }) worker j s).device.workers ≡ set d.workers worker (Some j))
unfolding is_claimable with_slot
front_one t d worker j n rest m z None e p = absurd (false≢true p)
front_one t d worker j n rest m z (Some c) e p =
    let h = is_there d.slots j c e in (of_line j (claim_text j) (claim_line j) (omega arith), refl)

-- what a claim by a free worker prints, and whose job the worker has then
pub record ClaimPrints (t : ReplyText) (worker : ℕ) (waiting : List ℕ) (step : DeviceStep) : Type 0 where
  pub line : OneLine (device_text t (claim worker) step.reply)
  pub job : is_empty waiting ≡ false → (j : ℕ) × (job_of step.device worker ≡ Some j)

first_one :
    (t : ReplyText) (d : DeviceState) (worker n : ℕ) (waiting : List ℕ) → n ≤ most_slots → length d.slots ≡ n → worker < length d.workers
    → d.waiting ≡ waiting → ListIsExact d → ClaimPrints t worker waiting (claim_first d worker waiting)
first_one t d worker n [] m z w e x =
    record { line = dash_line (codes " claim none") refl; job = λ (p : true ≡ false). absurd (false≢true (sym p)) }
first_one t d worker n (j ∷ rest) m z w e x =
    let f = front_one t d worker j n rest m z (slot_of d j) refl (sym (x.exact j) ∙ (ap (λ l. waits l j) e ∙ front_waits j rest)) in
    record { line = f.0; job = λ p. (j, ap (λ ws. get_or ws worker None) f.1 ∙ get_or-set_same d.workers worker (Some j) None w) }

pub claim_one :
    (t : ReplyText) (coder : Coder) (n : ℕ) (d : DeviceState) (worker : ℕ) → n ≤ most_slots → worker < most_workers → Comes coder n d
    → is_none (job_of d worker) ≡ true → ClaimPrints t worker d.waiting (device_step coder d (claim worker))
unfolding device_step
claim_one t coder n d worker m h c free =
    let z = comes_slots coder n d c in
    let w = comes_workers coder n d c in
    let l : worker < length d.workers = omega arith in
    let f = first_one t d worker n d.waiting m z l refl (comes_exact coder n d c) in
    subst (λ b. ClaimPrints t worker d.waiting (cond b (cond (is_none (job_of d worker)) (claim_first d worker d.waiting) (ignored d)) (ignored d)))
    (sym (lt-ltb worker (length d.workers) l))
    (subst (λ b. ClaimPrints t worker d.waiting (cond b (claim_first d worker d.waiting) (ignored d))) (sym free) f)

-- a finish by a worker that has a job
ended_one :
    (t : ReplyText) (coder : Coder) (d : DeviceState) (worker j : ℕ) (c : Context) (fault : Bool) (info : JobData) → j < 2 ^ 64
    → (o : Option Running) → option_map (job_data c) o ≡ Some info
    → OneLine (device_text t (finish worker fault) (finish_job coder d worker j c o fault).reply)
ended_one t coder d worker j c fault info h None e = absurd (cc)
ended_one t coder d worker j c fault info h (Some r) e =
    let word = finish_word coder (job_data c r) fault in
    of_line j (finish_text j word) (finish_line j word (word_feed coder (job_data c r) fault)) h

slot_one :
    (t : ReplyText) (coder : Coder) (d : DeviceState) (worker j : ℕ) (fault : Bool) (info : JobData) → j < 2 ^ 64 → (s : Slot) → job_in s ≡ Some info
    → OneLine (device_text t (finish worker fault) (finish_slot coder d worker j s fault).reply)
slot_one t coder d worker j fault info h None e = absurd (cc)
slot_one t coder d worker j fault info h (Some c) e = ended_one t coder d worker j c fault info h c.running e

in_slots : (d : DeviceState) (j : ℕ) (info : JobData) (s : Slot) → slot_of d j ≡ s → job_in s ≡ Some info → j < length d.slots
in_slots d j info None e p = absurd (cc)
in_slots d j info (Some c) e p = is_there d.slots j c e

finish_one :
    (t : ReplyText) (coder : Coder) (n : ℕ) (d : DeviceState) (worker j : ℕ) (fault : Bool) → n ≤ most_slots → Comes coder n d
    → job_of d worker ≡ Some j → OneLine (device_text t (finish worker fault) (device_step coder d (finish worker fault)).reply)
unfolding device_step
finish_one t coder n d worker j fault m c e =
    let r = (comes_held coder n d c).running worker j e in
    let p : job_in (slot_of d j) ≡ Some r.0 = sym (ap (job_in_slot d) e) ∙ r.1 in
    let l = in_slots d j r.0 (slot_of d j) refl p in
    let z = comes_slots coder n d c in
    subst (λ o. OneLine (device_text t (finish worker fault) (finish_of coder d worker o fault).reply)) (sym e) (slot_one t coder d worker j fault r.0 (omega arith) (slot_of d j) p)

-- The text of a line of the script is so many lines

claim_lines :
    (t : ReplyText) (coder : Coder) (n : ℕ) (d : DeviceState) (worker : ℕ) (more : List ℕ) → n ≤ most_slots → worker < most_workers → Comes coder n d
    → (b : Bool) → is_none (job_of d worker) ≡ b
    → first_lines (line_text t coder d (AsksClaim worker) (cond b (claim worker ∷ []) []) ++ more) 1 ≡ line_text t coder d (AsksClaim worker) (cond b (claim worker ∷ []) [])
claim_lines t coder n d worker more m h c true e =
    cut_one (device_text t (claim worker) (device_step coder d (claim worker)).reply) more (claim_one t coder n d worker m h c e).line
claim_lines t coder n d worker more m h c false e =
    cut_line (codes "- claim busy\n") more 0 (dash_line (codes " claim busy") refl)

pub some_job : (o : Option ℕ) → is_none o ≡ false → (j : ℕ) × (o ≡ Some j)
some_job None e = absurd (false≢true (sym e))
some_job (Some j) e = (j, refl)

finish_lines_of :
    (t : ReplyText) (coder : Coder) (n : ℕ) (d : DeviceState) (worker : ℕ) (fault : Bool) (more : List ℕ) → n ≤ most_slots → Comes coder n d
    → (b : Bool) → is_none (job_of d worker) ≡ b
    → first_lines (line_text t coder d (AsksFinish worker) (cond b [] (finish worker fault ∷ [])) ++ more) 1 ≡ line_text t coder d (AsksFinish worker) (cond b [] (finish worker fault ∷ []))
finish_lines_of t coder n d worker fault more m c true e =
    cut_line (codes "- finish idle\n") more 0 (dash_line (codes " finish idle") refl)
finish_lines_of t coder n d worker fault more m c false e =
    let j = some_job (job_of d worker) e in
    cut_one (device_text t (finish worker fault) (device_step coder d (finish worker fault)).reply) more (finish_one t coder n d worker j.0 fault m c j.1)

run_lines :
    (t : ReplyText) (coder : Coder) (n : ℕ) (d : DeviceState) (worker : ℕ) (fault : Bool) (more : List ℕ) → n ≤ most_slots → worker < most_workers
    → Comes coder n d → (b nobody : Bool) → is_none (job_of d worker) ≡ b → is_empty d.waiting ≡ nobody
    → first_lines (line_text t coder d (AsksRun worker) (run_events worker b nobody fault) ++ more) (cond b (cond nobody 1 2) 1)
    ≡ line_text t coder d (AsksRun worker) (run_events worker b nobody fault)
run_lines t coder n d worker fault more m h c true true e f =
    cut_one (device_text t (claim worker) (device_step coder d (claim worker)).reply) more (claim_one t coder n d worker m h c e).line
run_lines t coder n d worker fault more m h c true false e f =
    let p = claim_one t coder n d worker m h c e in
    let after = (device_step coder d (claim worker)).device in
    let j = p.job f in
    cut_two (device_text t (claim worker) (device_step coder d (claim worker)).reply)
    (device_text t (finish worker fault) (device_step coder after (finish worker fault)).reply) more p.line
    (finish_one t coder n after worker j.0 fault m (comes_next coder n d (claim worker) c) j.1)
run_lines t coder n d worker fault more m h c false nobody e f =
    cut_line (codes "- claim busy\n") more 0 (dash_line (codes " claim busy") refl)

pub line_cut :
    (t : ReplyText) (coder : Coder) (n : ℕ) (d : DeviceState) (asked : Asked) (text more : List ℕ) → IsLineText t → n ≤ most_slots → IsAsked n asked
    → Comes coder n d
    → first_lines (line_text t coder d asked (line_events t d asked text) ++ more) (lines_printed d asked) ≡ line_text t coder d asked (line_events t d asked text)
line_cut t coder n d AsksNothing text more l m a c = refl
line_cut t coder n d (AsksCall slot request bytes) text more l m a c =
    cut_one
    (device_text t (call slot request bytes (found_in t slot request text)) (device_step coder d (call slot request bytes (found_in t slot request text))).reply)
    more (call_one t coder n d slot request bytes (found_in t slot request text) l m a.0 c)
line_cut t coder n d (AsksClaim worker) text more l m a c =
    claim_lines t coder n d worker more m (omega arith) c (is_none (job_of d worker)) refl
line_cut t coder n d (AsksFinish worker) text more l m a c =
    finish_lines_of t coder n d worker (fault_in text) more m c (is_none (job_of d worker)) refl
line_cut t coder n d (AsksRun worker) text more l m a c =
    run_lines t coder n d worker (fault_in text) more m (omega arith) c (is_none (job_of d worker)) (is_empty d.waiting) refl refl

-- Whole scripts

lines_from :
    (t : ReplyText) (coder : Coder) (n : ℕ) (d : DeviceState) (lines : List Asked) (output : List ℕ) → IsLineText t → n ≤ most_slots
    → AreAsked n lines → Comes coder n d → output ≡ script_text t coder d lines output → PrintsLines t coder d lines output
lines_from t coder n d [] output l m a c p = p
lines_from t coder n d (asked ∷ rest) output l m a c p =
    let text = printed_by d asked output in
    let es = line_events t d asked text in
    let wanted = line_text t coder d asked es in
    let after = device_after coder d es in
    let left = drop (length text) output in
    let more = script_text t coder after rest left in
    let cut : text ≡ wanted = ap (λ o. first_lines o (lines_printed d asked)) p ∙ line_cut t coder n d asked text more l m a.0 c in
    let behind : left ≡ more = ap (λ k. drop (length k) output) cut ∙ (ap (drop (length wanted)) p ∙ drop-append_seam wanted more) in
    (cut, lines_from t coder n after rest left l m a.1 (comes_after coder n d es c) behind)

pub lines_are_printed : LinesArePrinted
lines_are_printed t coder n lines output l m a p =
    lines_from t coder n (new_device n) lines output l m a (record { past = []; same = refl }) p

-- The replay

-- the first lines of a text stand before the rest
first_rest : (bytes : List ℕ) (k : ℕ) → first_lines bytes k ++ drop (length (first_lines bytes k)) bytes ≡ bytes
first_rest bytes zero = refl
first_rest [] (suc k) = refl
first_rest (b ∷ bytes) (suc k) = ap (λ l. b ∷ l) (first_rest bytes (cond (b == 10) k (suc k)))

right_split :
    (t : ReplyText) (coder : Coder) (d : DeviceState) (asked : Asked) (rest : List Asked) (report : List ℕ) (at : ℕ)
    → let text = printed_by d asked report in
    let wanted = line_text t coder d asked (line_events t d asked text) in
    let after = device_after coder d (line_events t d asked text) in
    (wrong_from t coder after rest (drop (length text) report) (at + lines_printed d asked) ≡ None → drop (length text) report ≡ script_text t coder after rest (drop (length text) report))
    → (b : Bool) → bytes_eq text wanted ≡ b → (other : ℕ)
    → cond b (wrong_from t coder after rest (drop (length text) report) (at + lines_printed d asked)) (Some other) ≡ None
    → report ≡ script_text t coder d (asked ∷ rest) report
right_split t coder d asked rest report at h true e other p =
    let text = printed_by d asked report in
    let wanted = line_text t coder d asked (line_events t d asked text) in
    let same : text ≡ wanted = (bytes_eq-Decides text wanted).0 e in
    sym (first_rest report (lines_printed d asked)) ∙ (ap (λ k. k ++ drop (length text) report) same ∙ ap (λ k. wanted ++ k) (h p))
right_split t coder d asked rest report at h false e other p = absurd (cc)

empty_of : (report : List ℕ) (at : ℕ) (b : Bool) → is_empty report ≡ b → cond b None (Some at) ≡ None → report ≡ []
empty_of [] at b e p = refl
empty_of (x ∷ report) at true e p = absurd (false≢true e)
empty_of (x ∷ report) at false e p = absurd (cc)

pub right_from : (t : ReplyText) (coder : Coder) (d : DeviceState) (lines : List Asked) (report : List ℕ) (at : ℕ) → wrong_from t coder d lines report at ≡ None → report ≡ script_text t coder d lines report
right_from t coder d [] report at p = empty_of report at (is_empty report) refl p
right_from t coder d (asked ∷ rest) report at p =
    let text = printed_by d asked report in
    let es = line_events t d asked text in
    right_split t coder d asked rest report at (right_from t coder (device_after coder d es) rest (drop (length text) report) (at + lines_printed d asked)) (bytes_eq text (line_text t coder d asked es)) refl _ p

pub found_from : (t : ReplyText) (coder : Coder) (d : DeviceState) (lines : List Asked) (report : List ℕ) (at : ℕ) → PrintsLines t coder d lines report → wrong_from t coder d lines report at ≡ None
found_from t coder d [] report at p = ap (λ r. cond (is_empty r) None (Some at)) p
found_from t coder d (asked ∷ rest) report at p =
    let text = printed_by d asked report in
    let es = line_events t d asked text in
    let wanted = line_text t coder d asked es in
    ap (λ b. cond b (wrong_from t coder (device_after coder d es) rest (drop (length text) report) (at + lines_printed d asked)) (Some (at + same_lines (split_lines text) (split_lines wanted))))
    ((bytes_eq-Decides text wanted).1 p.0)
    ∙ found_from t coder (device_after coder d es) rest (drop (length text) report) (at + lines_printed d asked) p.1

pub replay_finds_right : ReplayFindsRight
replay_finds_right t coder n lines report =
    record {
      right = λ p. right_from t coder (new_device n) lines report 1 p;
      found = λ l m a p. found_from t coder (new_device n) lines report 1 (lines_are_printed t coder n lines report l m a p);
    }
