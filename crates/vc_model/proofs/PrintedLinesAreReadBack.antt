-- What is read off a text that a line of a script printed is what it was printed for. A line's text tells whether a
-- call had memory and which fault an engine had, and nothing else of the line depends on the run.
use Rattle.std.proofs.Common.{ℕ, zero, suc, ◌≡◌, ◌⊎◌, inl, inr, ◌-◌, ◌≤◌, ◌<◌, ltb, Bool, true, false, not, cond, is_none, Option, Some, None, List, [], ◌∷◌}
use Rattle.std.proofs.Common.{◌++◌, length, drop, decimal, refl, sym, ap, ◌∙◌, subst, arith, append_assoc, length-append}
use Rattle.std.specs.Prelude.{codes, bytes_eq, option_map}
use Rattle.std.proofs.lemmas.List.{append-nil}
use Rattle.std.proofs.lemmas.Bool.{false≢true}
use Rattle.std.proofs.lemmas.Slice.Eq.{bytes_eq-Decides}
use Rattle.vc_base.specs.declared.Call.{Call}
use Rattle.vc_base.specs.declared.Call.TheVariants.{Open, Close, EnumFmt, GetFmt, TryFmt, SetFmt, ReqBufs, CreateBufs, QueryBuf, QBuf, DqBuf, StreamOn, StreamOff, Subscribe, Unsubscribe, DqEvent, DecCmd, EncCmd, GetCtrl, SetCtrl, Poll}
use Rattle.vc_base.specs.declared.Errno.{Errno}
use Rattle.vc_base.specs.declared.Errno.TheVariants.{NoMem}
use Rattle.vc_base.specs.declared.Fourcc.{Fourcc}
use Rattle.vc_base.specs.declared.Reply.TheVariants.{Refused}
use Rattle.vc_base.specs.Buffers.{is_empty, reqbufs_refusal, create_refusal}
use Rattle.vc_base.specs.Device.{call, claim, finish}
use Rattle.vc_defs.specs.Decoder.{DecodedResult, picture, damaged, changed, spent, step_outcome}
use Rattle.vc_model.specs.Coder.{Coder}
use Rattle.vc_model.specs.Context.{Context, Slot, Running, queue_of}
use Rattle.vc_model.specs.Answer.{Answer, answer, closed_answer, context_answer, unless, if_found}
use Rattle.vc_model.specs.Runs.{JobData, job_data, RunResult, copied, encoded, decoded, run_result, run_word, result_word, finish_word}
use Rattle.vc_model.specs.Devices.{DeviceState, slot_of, job_of, device_step, call_answered, ignored, finish_of, finish_slot, finish_job}
use Rattle.vc_base.specs.Limits.{most_workers, most_slots}
use Rattle.vc_model.specs.Standing.{job_in, job_in_slot}
use Rattle.vc_model.specs.Script.{IsAsked, lines_printed, first_lines, ReplyText, Asked, AsksNothing, AsksCall, AsksClaim, AsksFinish, AsksRun, finish_text, device_text, found_in, fault_in, run_events, line_events, line_text}
use Rattle.vc_model.proofs.EachSlotPrintsItsOwn.{Comes, comes_next}
use Rattle.vc_model.proofs.FirstLinesAgree.{same_whole}
use Rattle.vc_model.proofs.LinesArePrinted.{comes_held, cut_line, claim_one}

-- Out of memory

-- without memory an answer is the same, or that of a refusal
found_or_refused : (s : Slot) (request : Call) (bytes : List ℕ) → (answer s request bytes false ≡ answer s request bytes true) ⊎ (((answer s request bytes false).reply ≡ Refused NoMem) × ((answer s request bytes false).bytes ≡ []))
unfolding answer closed_answer context_answer
found_or_refused None (Open kind) bytes = inr (refl, refl)
found_or_refused None Close bytes = inl refl
found_or_refused None (EnumFmt side index) bytes = inl refl
found_or_refused None (GetFmt side) bytes = inl refl
found_or_refused None (TryFmt side want) bytes = inl refl
found_or_refused None (SetFmt side want) bytes = inl refl
found_or_refused None (ReqBufs side count) bytes = inl refl
found_or_refused None (CreateBufs side count size) bytes = inl refl
found_or_refused None (QueryBuf side index) bytes = inl refl
found_or_refused None (QBuf side index used stamp) bytes = inl refl
found_or_refused None (DqBuf side block) bytes = inl refl
found_or_refused None (StreamOn side) bytes = inl refl
found_or_refused None (StreamOff side) bytes = inl refl
found_or_refused None (Subscribe event) bytes = inl refl
found_or_refused None (Unsubscribe event) bytes = inl refl
found_or_refused None (DqEvent block) bytes = inl refl
found_or_refused None (DecCmd cmd) bytes = inl refl
found_or_refused None (EncCmd cmd) bytes = inl refl
found_or_refused None (GetCtrl id) bytes = inl refl
found_or_refused None (SetCtrl id value) bytes = inl refl
found_or_refused None Poll bytes = inl refl
found_or_refused (Some c) (ReqBufs side count) bytes = unless_refused c (reqbufs_refusal (queue_of c side)) _
  where
    unless_refused :
        (c : Context) (o : Option Errno) (a : Answer)
        → (unless c o (if_found c false a) ≡ unless c o (if_found c true a)) ⊎ (((unless c o (if_found c false a)).reply ≡ Refused NoMem) × ((unless c o (if_found c false a)).bytes ≡ []))
    unless_refused c (Some errno) a = inl refl
    unless_refused c None a = inr (refl, refl)
found_or_refused (Some c) (CreateBufs side count size) bytes = unless_refused c (create_refusal (queue_of c side) count size) _
  where
    unless_refused :
        (c : Context) (o : Option Errno) (a : Answer)
        → (unless c o (if_found c false a) ≡ unless c o (if_found c true a)) ⊎ (((unless c o (if_found c false a)).reply ≡ Refused NoMem) × ((unless c o (if_found c false a)).bytes ≡ []))
    unless_refused c (Some errno) a = inl refl
    unless_refused c None a = inr (refl, refl)
found_or_refused (Some c) (Open kind) bytes = inl refl
found_or_refused (Some c) Close bytes = inl refl
found_or_refused (Some c) (EnumFmt side index) bytes = inl refl
found_or_refused (Some c) (GetFmt side) bytes = inl refl
found_or_refused (Some c) (TryFmt side want) bytes = inl refl
found_or_refused (Some c) (SetFmt side want) bytes = inl refl
found_or_refused (Some c) (QueryBuf side index) bytes = inl refl
found_or_refused (Some c) (QBuf side index used stamp) bytes = inl refl
found_or_refused (Some c) (DqBuf side block) bytes = inl refl
found_or_refused (Some c) (StreamOn side) bytes = inl refl
found_or_refused (Some c) (StreamOff side) bytes = inl refl
found_or_refused (Some c) (Subscribe event) bytes = inl refl
found_or_refused (Some c) (Unsubscribe event) bytes = inl refl
found_or_refused (Some c) (DqEvent block) bytes = inl refl
found_or_refused (Some c) (DecCmd cmd) bytes = inl refl
found_or_refused (Some c) (EncCmd cmd) bytes = inl refl
found_or_refused (Some c) (GetCtrl id) bytes = inl refl
found_or_refused (Some c) (SetCtrl id value) bytes = inl refl
found_or_refused (Some c) Poll bytes = inl refl

-- the text of a call, with memory or without
abbrev text_of_call : ReplyText → Coder → DeviceState → ℕ → Call → List ℕ → Bool → List ℕ
text_of_call t coder d slot request bytes found =
    device_text t (call slot request bytes found) (device_step coder d (call slot request bytes found)).reply

text_with :
    (t : ReplyText) (d : DeviceState) (slot : ℕ) (request : Call) (bytes : List ℕ) (b : Bool)
    → (answer (slot_of d slot) request bytes false ≡ answer (slot_of d slot) request bytes true)
    ⊎ (((answer (slot_of d slot) request bytes false).reply ≡ Refused NoMem) × ((answer (slot_of d slot) request bytes false).bytes ≡ []))
    → let text =
    λ (found : Bool). device_text t (call slot request bytes found) (cond b (call_answered d slot (answer (slot_of d slot) request bytes found)) (ignored d)).reply in
    (text false ≡ text true) ⊎ (text false ≡ t slot request (Refused NoMem) [])
text_with t d slot request bytes false o = inl refl
text_with t d slot request bytes true (inl e) = inl (ap (λ (a : Answer). t slot request a.reply a.bytes) e)
text_with t d slot request bytes true (inr e) =
    inr (ap (λ r. t slot request r (answer (slot_of d slot) request bytes false).bytes) e.0 ∙ ap (t slot request (Refused NoMem)) e.1)

call_texts :
    (t : ReplyText) (coder : Coder) (d : DeviceState) (slot : ℕ) (request : Call) (bytes : List ℕ)
    → (text_of_call t coder d slot request bytes false ≡ text_of_call t coder d slot request bytes true) ⊎ (text_of_call t coder d slot request bytes false ≡ t slot request (Refused NoMem) [])
unfolding device_step
call_texts t coder d slot request bytes =
    text_with t d slot request bytes (ltb slot (length d.slots)) (found_or_refused (slot_of d slot) request bytes)

-- the text of a call, read again, gives the same text
read_again : (text : Bool → List ℕ) (want : List ℕ) → (text false ≡ text true) ⊎ (text false ≡ want) → (found b : Bool) → bytes_eq (text found) want ≡ b → text (not b) ≡ text found
read_again text want o false true e = refl
read_again text want o true false e = refl
read_again text want (inl same) true true e = same
read_again text want (inl same) false false e = sym same
read_again text want (inr same) true true e = same ∙ sym ((bytes_eq-Decides (text true) want).0 e)
read_again text want (inr same) false false e =
    absurd (false≢true (sym e ∙ (bytes_eq-Decides (text false) want).1 same))

call_again :
    (t : ReplyText) (coder : Coder) (d : DeviceState) (slot : ℕ) (request : Call) (bytes : List ℕ) (found : Bool)
    → text_of_call t coder d slot request bytes (found_in t slot request (text_of_call t coder d slot request bytes found ++ [])) ++ [] ≡ text_of_call t coder d slot request bytes found ++ []
call_again t coder d slot request bytes found =
    let text = text_of_call t coder d slot request bytes in
    let want = t slot request (Refused NoMem) [] in
    ap (λ x. text (found_in t slot request x) ++ []) (append-nil (text found)) ∙ ap (λ x. x ++ []) (read_again text want (call_texts t coder d slot request bytes) found (bytes_eq (text found) want) refl)

-- Faults

-- what holds of each word that a finish may have
pub record OfWords (P : List ℕ → Bool → Type 0) : Type 0 where
  pub fault : P (codes "fault") true
  pub copied : P (codes "copied") false
  pub encoded : P (codes "encoded") false
  pub picture : P (codes "picture") false
  pub damaged : P (codes "damaged") false
  pub changed : P (codes "changed") false
  pub spent : P (codes "spent") false

of_result : (P : List ℕ → Bool → Type 0) → OfWords P → (r : DecodedResult) → P (result_word r) false
of_result P w (picture bytes key stamp) = w.picture
of_result P w (damaged stamp) = w.damaged
of_result P w (changed geometry) = w.changed
of_result P w spent = w.spent

of_run : (P : List ℕ → Bool → Type 0) → OfWords P → (fourcc : Fourcc) (r : RunResult) → P (run_word fourcc r) false
of_run P w fourcc (copied bytes) = w.copied
of_run P w fourcc (encoded frame) = w.encoded
of_run P w fourcc (decoded step) = of_result P w (step_outcome fourcc step)

pub of_finish : (P : List ℕ → Bool → Type 0) → OfWords P → (coder : Coder) (j : JobData) (fault : Bool) → P (finish_word coder j fault) fault
unfolding finish_word
of_finish P w coder j true = w.fault
of_finish P w coder j false = of_run P w j.format.fourcc (run_result coder j)

-- the end of the line tells whether the engine gave up
record EndsAs (word : List ℕ) (fault : Bool) : Type 0 where
  pub long : 14 ≤ length (codes " finish " ++ (word ++ codes "\n"))
  pub ends : bytes_eq (drop (length (codes " finish " ++ (word ++ codes "\n")) - 14) (codes " finish " ++ (word ++ codes "\n"))) (codes " finish fault\n") ≡ fault

word_ends : (coder : Coder) (j : JobData) (fault : Bool) → EndsAs (finish_word coder j fault) fault
word_ends coder j fault =
    of_finish EndsAs (record {
      fault = record { long = omega arith; ends = refl };
      copied = record { long = omega arith; ends = refl };
      encoded = record { long = omega arith; ends = refl };
      picture = record { long = omega arith; ends = refl };
      damaged = record { long = omega arith; ends = refl };
      changed = record { long = omega arith; ends = refl };
      spent = record { long = omega arith; ends = refl };
    }) coder j fault

drop_end : (x y : List ℕ) (m : ℕ) → m ≤ length y → drop (length (x ++ y) - m) (x ++ y) ≡ drop (length y - m) y
drop_end [] y m h = refl
drop_end (a ∷ x) y m h =
    let e : length ((a ∷ x) ++ y) - m ≡ suc (length (x ++ y) - m) = omega (arith, length-append x y) in
    ap (λ k. drop k (a ∷ (x ++ y))) e ∙ drop_end x y m h

-- the fault is read off the line, whatever stands before it
fault_read : (coder : Coder) (front : List ℕ) (k : ℕ) (j : JobData) (fault : Bool) → fault_in (front ++ (finish_text k (finish_word coder j fault) ++ [])) ≡ fault
fault_read coder front k j fault =
    let w = word_ends coder j fault in
    let y = codes " finish " ++ (finish_word coder j fault ++ codes "\n") in
    let p = ap (λ x. fault_in (front ++ x)) (append-nil (finish_text k (finish_word coder j fault))) in
    let q = ap fault_in (sym (append_assoc front (decimal k) y)) in
    let r = ap (λ x. bytes_eq x (codes " finish fault\n")) (drop_end (front ++ decimal k) y 14 w.long) in
    p ∙ (q ∙ (r ∙ w.ends))

-- what a finish by the worker prints, with a fault and without
record FinishTells (t : ReplyText) (coder : Coder) (d : DeviceState) (worker : ℕ) : Type 0 where
  pub slot : ℕ
  pub info : JobData
  pub tells : (fault : Bool) → device_text t (finish worker fault) (device_step coder d (finish worker fault)).reply ≡ finish_text slot (finish_word coder info fault)

ended_tells :
    (t : ReplyText) (coder : Coder) (d : DeviceState) (worker j : ℕ) (c : Context) (info : JobData) (fault : Bool) (o : Option Running)
    → option_map (job_data c) o ≡ Some info
    → device_text t (finish worker fault) (finish_job coder d worker j c o fault).reply ≡ finish_text j (finish_word coder info fault)
ended_tells t coder d worker j c info fault None e = absurd (cc)
ended_tells t coder d worker j c info fault (Some r) e =
    let p : job_data c r ≡ info = cc in ap (λ x. finish_text j (finish_word coder x fault)) p

slot_tells :
    (t : ReplyText) (coder : Coder) (d : DeviceState) (worker j : ℕ) (info : JobData) (fault : Bool) (s : Slot) → job_in s ≡ Some info
    → device_text t (finish worker fault) (finish_slot coder d worker j s fault).reply ≡ finish_text j (finish_word coder info fault)
slot_tells t coder d worker j info fault None e = absurd (cc)
slot_tells t coder d worker j info fault (Some c) e = ended_tells t coder d worker j c info fault c.running e

finish_tells : (t : ReplyText) (coder : Coder) (n : ℕ) (d : DeviceState) (worker j : ℕ) → Comes coder n d → job_of d worker ≡ Some j → FinishTells t coder d worker
unfolding device_step
finish_tells t coder n d worker j c e =
    let r = (comes_held coder n d c).running worker j e in
    let p : job_in (slot_of d j) ≡ Some r.0 = sym (ap (job_in_slot d) e) ∙ r.1 in
    record {
      slot = j;
      info = r.0;
      tells = λ fault. subst (λ o. device_text t (finish worker fault) (finish_of coder d worker o fault).reply ≡ finish_text j (finish_word coder r.0 fault)) (sym e) (slot_tells t coder d worker j r.0 fault (slot_of d j) p);
    }

-- the text of a finish behind another, read again, gives the same text
finish_again :
    (t : ReplyText) (coder : Coder) (d : DeviceState) (worker : ℕ) (front : List ℕ) (fault : Bool) → FinishTells t coder d worker
    → let text = λ (f : Bool). front ++ (device_text t (finish worker f) (device_step coder d (finish worker f)).reply ++ []) in text (fault_in (text fault)) ≡ text fault
finish_again t coder d worker front fault w =
    let text = λ (f : Bool). front ++ (device_text t (finish worker f) (device_step coder d (finish worker f)).reply ++ []) in
    let p : fault_in (text fault) ≡ fault = ap (λ x. fault_in (front ++ (x ++ []))) (w.tells fault) ∙ fault_read coder front w.slot w.info fault in
    ap text p

-- Lines

some_job : (o : Option ℕ) → is_none o ≡ false → (j : ℕ) × (o ≡ Some j)
some_job None e = absurd (false≢true (sym e))
some_job (Some j) e = (j, refl)

finish_line_again :
    (t : ReplyText) (coder : Coder) (n : ℕ) (d : DeviceState) (worker : ℕ) (fault : Bool) → Comes coder n d → (b : Bool)
    → is_none (job_of d worker) ≡ b
    → let text = λ (f : Bool). line_text t coder d (AsksFinish worker) (cond b [] (finish worker f ∷ [])) in text (fault_in (text fault)) ≡ text fault
finish_line_again t coder n d worker fault c true e = refl
finish_line_again t coder n d worker fault c false e =
    let j = some_job (job_of d worker) e in finish_again t coder d worker [] fault (finish_tells t coder n d worker j.0 c j.1)

run_line_again :
    (t : ReplyText) (coder : Coder) (n : ℕ) (d : DeviceState) (worker : ℕ) (fault : Bool) → n ≤ most_slots → worker < most_workers → Comes coder n d
    → (b nobody : Bool) → is_none (job_of d worker) ≡ b → is_empty d.waiting ≡ nobody
    → let text = λ (f : Bool). line_text t coder d (AsksRun worker) (run_events worker b nobody f) in text (fault_in (text fault)) ≡ text fault
run_line_again t coder n d worker fault m h c true true e f = refl
run_line_again t coder n d worker fault m h c true false e f =
    let after = (device_step coder d (claim worker)).device in
    let j = (claim_one t coder n d worker m h c e).job f in
    finish_again t coder after worker (device_text t (claim worker) (device_step coder d (claim worker)).reply) fault (finish_tells t coder n after worker j.0 (comes_next coder n d (claim worker) c) j.1)
run_line_again t coder n d worker fault m h c false nobody e f = refl

-- the text of a line for these events, read again, gives the same text
pub line_again :
    (t : ReplyText) (coder : Coder) (n : ℕ) (d : DeviceState) (asked : Asked) (text : List ℕ) → n ≤ most_slots → IsAsked n asked → Comes coder n d
    → let wanted = line_text t coder d asked (line_events t d asked text) in line_text t coder d asked (line_events t d asked wanted) ≡ wanted
line_again t coder n d AsksNothing text m a c = refl
line_again t coder n d (AsksCall slot request bytes) text m a c =
    call_again t coder d slot request bytes (found_in t slot request text)
line_again t coder n d (AsksClaim worker) text m a c = refl
line_again t coder n d (AsksFinish worker) text m a c =
    finish_line_again t coder n d worker (fault_in text) c (is_none (job_of d worker)) refl
line_again t coder n d (AsksRun worker) text m a c =
    run_line_again t coder n d worker (fault_in text) m (omega arith) c (is_none (job_of d worker)) (is_empty d.waiting) refl refl

-- The first lines that a line of the script prints follow from those that it is read by.

run_alone :
    (t : ReplyText) (coder : Coder) (n : ℕ) (d : DeviceState) (worker : ℕ) (text other : List ℕ) (k : ℕ) → n ≤ most_slots → worker < most_workers
    → Comes coder n d → first_lines text (suc k) ≡ first_lines other (suc k) → (b nobody : Bool) → is_none (job_of d worker) ≡ b
    → is_empty d.waiting ≡ nobody → text ≡ first_lines text (cond b (cond nobody 1 2) 1) → other ≡ first_lines other (cond b (cond nobody 1 2) 1)
    → first_lines (line_text t coder d (AsksRun worker) (run_events worker b nobody (fault_in text))) (suc k)
    ≡ first_lines (line_text t coder d (AsksRun worker) (run_events worker b nobody (fault_in other))) (suc k)
run_alone t coder n d worker text other k m h c p true true e f q r = refl
run_alone t coder n d worker text other zero m h c p true false e f q r =
    let claimed = device_text t (claim worker) (device_step coder d (claim worker)).reply in
    let line = (claim_one t coder n d worker m h c e).line in
    cut_line claimed _ 0 line ∙ sym (cut_line claimed _ 0 line)
run_alone t coder n d worker text other (suc k) m h c p true false e f q r =
    ap (λ x. first_lines (line_text t coder d (AsksRun worker) (run_events worker true false (fault_in x))) (suc (suc k))) (same_whole text other (suc (suc k)) 2 (omega arith) q r p)
run_alone t coder n d worker text other k m h c p false nobody e f q r = refl

pub line_alone :
    (t : ReplyText) (coder : Coder) (n : ℕ) (d : DeviceState) (asked : Asked) (text other : List ℕ) (k : ℕ) → n ≤ most_slots → IsAsked n asked
    → Comes coder n d → text ≡ first_lines text (lines_printed d asked) → other ≡ first_lines other (lines_printed d asked)
    → first_lines text (suc k) ≡ first_lines other (suc k)
    → first_lines (line_text t coder d asked (line_events t d asked text)) (suc k) ≡ first_lines (line_text t coder d asked (line_events t d asked other)) (suc k)
line_alone t coder n d AsksNothing text other k m a c q r p = refl
line_alone t coder n d (AsksCall slot request bytes) text other k m a c q r p =
    ap (λ x. first_lines (line_text t coder d (AsksCall slot request bytes) (line_events t d (AsksCall slot request bytes) x)) (suc k)) (same_whole text other (suc k) 1 (omega arith) q r p)
line_alone t coder n d (AsksClaim worker) text other k m a c q r p = refl
line_alone t coder n d (AsksFinish worker) text other k m a c q r p =
    ap (λ x. first_lines (line_text t coder d (AsksFinish worker) (line_events t d (AsksFinish worker) x)) (suc k)) (same_whole text other (suc k) 1 (omega arith) q r p)
line_alone t coder n d (AsksRun worker) text other k m a c q r p =
    run_alone t coder n d worker text other k m (omega arith) c p (is_none (job_of d worker)) (is_empty d.waiting) refl refl q r
