-- The text of a line tells its events: claims, finishes and blocked calls have texts of their own, so the events that are read off
-- a text are those that printed it.
use Rattle.std.proofs.Common.{ℕ, ◌≡◌, ◌-◌, ◌≤◌, ltb, Bool, true, false, not, cond, is_none, Option, Some, None, List, [], ◌∷◌, ◌++◌, length, drop, decimal, refl, sym, ap, ◌∙◌, arith, append_assoc}
use Rattle.std.specs.Prelude.{codes, bytes_eq}
use Rattle.std.proofs.lemmas.List.{append-nil}
use Rattle.std.proofs.lemmas.Bool.{false≢true}
use Rattle.std.proofs.lemmas.Slice.Eq.{bytes_eq-Decides}
use Rattle.vc_base.specs.declared.Call.{Call}
use Rattle.vc_base.specs.declared.Call.TheVariants.{Open, Close, EnumFmt, GetFmt, TryFmt, SetFmt, ReqBufs, CreateBufs, QueryBuf, QBuf, DqBuf, StreamOn, StreamOff, Subscribe, Unsubscribe, DqEvent, DecCmd, EncCmd, GetCtrl, SetCtrl, Poll}
use Rattle.vc_base.specs.declared.Errno.{Errno}
use Rattle.vc_base.specs.declared.Errno.TheVariants.{NoMem}
use Rattle.vc_base.specs.declared.Fourcc.{Fourcc}
use Rattle.vc_base.specs.declared.Reply.{Reply}
use Rattle.vc_base.specs.declared.Reply.TheVariants.{Count, Created, Refused}
use Rattle.vc_base.specs.Buffers.{is_empty, reqbufs_refusal, create_refusal}
use Rattle.vc_base.specs.Device.{DeviceEvent, call, claim, finish}
use Rattle.vc_defs.specs.Decoder.{DecodedResult, picture, damaged, changed, spent, step_outcome}
use Rattle.vc_model.specs.Coder.{Coder, the_coder}
use Rattle.vc_model.specs.Context.{Context, Slot, queue_of}
use Rattle.vc_model.specs.Answer.{Answer, answer, closed_answer, context_answer, unless, if_found, answered}
use Rattle.vc_model.specs.Runs.{JobData, RunResult, copied, encoded, decoded, run_result, run_word, result_word, finish_word}
use Rattle.vc_model.specs.Solo.{Answered, Claimed, Finished}
use Rattle.vc_model.specs.Devices.{DeviceState, Told, NoJob, slot_of, job_of, device_step, call_answered, ignored}
use Rattle.vc_model.specs.Script.{AsksNothing, AsksCall, AsksClaim, AsksFinish, AsksRun, device_text, found_in, fault_in, run_events, first_lines}
use Rattle.vc_script.specs.Texts.{reply_text, claim_text, no_claim_text, busy_text, finish_text, idle_text}
use Rattle.vc_script.proofs.OneLine.{reply_is_line, claim_is_line, finish_is_line, want_told}
use Rattle.vc_desk.specs.Does.{LineDoes}
use Rattle.vc_desk.proofs.TextsEndInLines.{OneLine, OnLine, slot_line, whole_line, whole_lines, drop_end}

-- Words of finishes

-- what holds of each word that a finish may have
record OfWords (P : List ℕ → Bool → Type 0) : Type 0 where
  pub fault : P (codes "fault") true
  pub copied : P (codes "copied") false
  pub encoded : P (codes "encoded") false
  pub picture : P (codes "picture") false
  pub damaged : P (codes "damaged") false
  pub changed : P (codes "changed") false
  pub spent : P (codes "spent") false

of_result : (P : List ℕ → Bool → Type 0) → OfWords P → (r : DecodedResult) → P (result_word r) false
of_result P w (picture bytes key stamp) = w.picture
of_result P w (damaged stamp) = w.damaged
of_result P w (changed geometry) = w.changed
of_result P w spent = w.spent

of_run : (P : List ℕ → Bool → Type 0) → OfWords P → (fourcc : Fourcc) (r : RunResult) → P (run_word fourcc r) false
of_run P w fourcc (copied bytes) = w.copied
of_run P w fourcc (encoded frame) = w.encoded
of_run P w fourcc (decoded step) = of_result P w (step_outcome fourcc step)

of_finish : (P : List ℕ → Bool → Type 0) → OfWords P → (coder : Coder) (j : JobData) (fault : Bool) → P (finish_word coder j fault) fault
unfolding finish_word
of_finish P w coder j true = w.fault
of_finish P w coder j false = of_run P w j.format.fourcc (run_result coder j)

-- the end of the text tells whether the engine gave up
record EndsAs (word : List ℕ) (fault : Bool) : Type 0 where
  pub on : OnLine word
  pub long : 14 ≤ length (codes " finish " ++ (word ++ codes "\n"))
  pub ends : bytes_eq (drop (length (codes " finish " ++ (word ++ codes "\n")) - 14) (codes " finish " ++ (word ++ codes "\n"))) (codes " finish fault\n") ≡ fault

word_ends : (coder : Coder) (j : JobData) (fault : Bool) → EndsAs (finish_word coder j fault) fault
word_ends coder j fault =
    of_finish EndsAs (record {
      fault = record { on = refl; long = omega arith; ends = refl };
      copied = record { on = refl; long = omega arith; ends = refl };
      encoded = record { on = refl; long = omega arith; ends = refl };
      picture = record { on = refl; long = omega arith; ends = refl };
      damaged = record { on = refl; long = omega arith; ends = refl };
      changed = record { on = refl; long = omega arith; ends = refl };
      spent = record { on = refl; long = omega arith; ends = refl };
    }) coder j fault

end_read : (x y : List ℕ) (fault : Bool) → 14 ≤ length y → bytes_eq (drop (length y - 14) y) (codes " finish fault\n") ≡ fault → fault_in (x ++ y) ≡ fault
end_read x y fault long e = ap (λ t. bytes_eq t (codes " finish fault\n")) (drop_end x y 14 long) ∙ e

fault_read : (coder : Coder) (k : ℕ) (j : JobData) (fault : Bool) → fault_in (finish_text k (finish_word coder j fault)) ≡ fault
fault_read coder k j fault =
    let w = word_ends coder j fault in
    end_read (decimal k) (codes " finish " ++ (finish_word coder j fault ++ codes "\n")) fault w.long w.ends

fault_read_behind : (coder : Coder) (front : List ℕ) (k : ℕ) (j : JobData) (fault : Bool) → fault_in (front ++ finish_text k (finish_word coder j fault)) ≡ fault
fault_read_behind coder front k j fault =
    let w = word_ends coder j fault in
    let y = codes " finish " ++ (finish_word coder j fault ++ codes "\n") in
    ap fault_in (sym (append_assoc front (decimal k) y)) ∙ end_read (front ++ decimal k) y fault w.long w.ends

finish_line : (k : ℕ) (j : JobData) (fault : Bool) → OneLine (finish_text k (finish_word the_coder j fault))
finish_line k j fault =
    slot_line k (finish_text k (finish_word the_coder j fault)) (finish_is_line k (finish_word the_coder j fault) (word_ends the_coder j fault).on)

claim_line : (k : ℕ) → OneLine (claim_text k)
claim_line k = slot_line k (claim_text k) (claim_is_line k)

busy_line : OneLine busy_text
busy_line = record { front = codes "- claim busy"; same = refl; on = refl }

none_line : OneLine no_claim_text
none_line = record { front = codes "- claim none"; same = refl; on = refl }

idle_line : OneLine idle_text
idle_line = record { front = codes "- finish idle"; same = refl; on = refl }

-- Lines of jobs

pub nothing_does : (d : DeviceState) → LineDoes d AsksNothing [] []
nothing_does d = record { whole = λ more. refl; events_read = refl; told = refl }

free : (o : Option ℕ) → o ≡ None → is_none o ≡ true
free o e = ap is_none e

taken : (o : Option ℕ) (k : ℕ) → o ≡ Some k → is_none o ≡ false
taken o k e = ap is_none e

pub claim_busy : (d : DeviceState) (worker k : ℕ) → job_of d worker ≡ Some k → LineDoes d (AsksClaim worker) busy_text []
claim_busy d worker k e =
    record { whole = whole_line busy_text busy_line; events_read = ap (λ b. cond b (claim worker ∷ []) []) (taken (job_of d worker) k e); told = refl }

pub claim_none : (d : DeviceState) (worker : ℕ) → job_of d worker ≡ None → (device_step the_coder d (claim worker)).reply ≡ NoJob → LineDoes d (AsksClaim worker) no_claim_text (claim worker ∷ [])
claim_none d worker e r =
    record {
      whole = whole_line no_claim_text none_line;
      events_read = ap (λ b. cond b (claim worker ∷ []) []) (free (job_of d worker) e);
      told = sym (append-nil (device_text reply_text (claim worker) (device_step the_coder d (claim worker)).reply) ∙ ap (device_text reply_text (claim worker)) r);
    }

pub claim_took : (d : DeviceState) (worker k : ℕ) → job_of d worker ≡ None → (device_step the_coder d (claim worker)).reply ≡ Told k Claimed → LineDoes d (AsksClaim worker) (claim_text k) (claim worker ∷ [])
claim_took d worker k e r =
    record {
      whole = whole_line (claim_text k) (claim_line k);
      events_read = ap (λ b. cond b (claim worker ∷ []) []) (free (job_of d worker) e);
      told = sym (append-nil (device_text reply_text (claim worker) (device_step the_coder d (claim worker)).reply) ∙ ap (device_text reply_text (claim worker)) r);
    }

pub finish_idles : (d : DeviceState) (worker : ℕ) → job_of d worker ≡ None → LineDoes d (AsksFinish worker) idle_text []
finish_idles d worker e =
    record { whole = whole_line idle_text idle_line; events_read = ap (λ b. cond b [] (finish worker (fault_in idle_text) ∷ [])) (free (job_of d worker) e); told = refl }

pub finish_ends :
    (d : DeviceState) (worker k i : ℕ) (j : JobData) (fault : Bool) → job_of d worker ≡ Some i
    → (device_step the_coder d (finish worker fault)).reply ≡ Told k (Finished (finish_word the_coder j fault))
    → LineDoes d (AsksFinish worker) (finish_text k (finish_word the_coder j fault)) (finish worker fault ∷ [])
finish_ends d worker k i j fault e r =
    let text = finish_text k (finish_word the_coder j fault) in
    record {
      whole = whole_line text (finish_line k j fault);
      events_read = ap (λ b. cond b [] (finish worker (fault_in text) ∷ [])) (taken (job_of d worker) i e) ∙ ap (λ b. finish worker b ∷ []) (fault_read the_coder k j fault);
      told = sym (append-nil (device_text reply_text (finish worker fault) (device_step the_coder d (finish worker fault)).reply) ∙ ap (device_text reply_text (finish worker fault)) r);
    }

pub run_busy : (d : DeviceState) (worker k : ℕ) → job_of d worker ≡ Some k → LineDoes d (AsksRun worker) busy_text []
run_busy d worker k e =
    record {
      whole = λ more. ap (λ b. first_lines (busy_text ++ more) (cond b (cond (is_empty d.waiting) 1 2) 1)) (taken (job_of d worker) k e) ∙ whole_line busy_text busy_line more;
      events_read = ap (λ b. run_events worker b (is_empty d.waiting) (fault_in busy_text)) (taken (job_of d worker) k e);
      told = refl;
    }

pub run_none : (d : DeviceState) (worker : ℕ) → job_of d worker ≡ None → d.waiting ≡ [] → (device_step the_coder d (claim worker)).reply ≡ NoJob → LineDoes d (AsksRun worker) no_claim_text (claim worker ∷ [])
run_none d worker e w r =
    record {
      whole =
          λ more.
          ap (λ b. first_lines (no_claim_text ++ more) (cond b (cond (is_empty d.waiting) 1 2) 1)) (free (job_of d worker) e)
          ∙ (ap (λ l. first_lines (no_claim_text ++ more) (cond (is_empty l) 1 2)) w ∙ whole_line no_claim_text none_line more);
      events_read = ap (λ b. run_events worker b (is_empty d.waiting) (fault_in no_claim_text)) (free (job_of d worker) e) ∙ ap (λ l. run_events worker true (is_empty l) (fault_in no_claim_text)) w;
      told = sym (append-nil (device_text reply_text (claim worker) (device_step the_coder d (claim worker)).reply) ∙ ap (device_text reply_text (claim worker)) r);
    }

pub run_ends :
    (d : DeviceState) (worker i k : ℕ) (rest : List ℕ) (j : JobData) (fault : Bool) → job_of d worker ≡ None → d.waiting ≡ i ∷ rest
    → (device_step the_coder d (claim worker)).reply ≡ Told i Claimed
    → (device_step the_coder (device_step the_coder d (claim worker)).device (finish worker fault)).reply ≡ Told k (Finished (finish_word the_coder j fault))
    → LineDoes d (AsksRun worker) (claim_text i ++ finish_text k (finish_word the_coder j fault)) (claim worker ∷ finish worker fault ∷ [])
run_ends d worker i k rest j fault e w r q =
    let text = finish_text k (finish_word the_coder j fault) in
    let both = claim_text i ++ text in
    let mid = (device_step the_coder d (claim worker)).device in
    record {
      whole =
          λ more.
          ap (λ b. first_lines (both ++ more) (cond b (cond (is_empty d.waiting) 1 2) 1)) (free (job_of d worker) e)
          ∙ (ap (λ l. first_lines (both ++ more) (cond (is_empty l) 1 2)) w ∙ whole_lines (claim_text i) text (claim_line i) (finish_line k j fault) more);
      events_read =
          ap (λ b. run_events worker b (is_empty d.waiting) (fault_in both)) (free (job_of d worker) e)
          ∙ (ap (λ l. run_events worker true (is_empty l) (fault_in both)) w ∙ ap (λ b. claim worker ∷ finish worker b ∷ []) (fault_read_behind the_coder (claim_text i) k j fault));
      told =
          sym
          (ap (λ t. device_text reply_text (claim worker) (device_step the_coder d (claim worker)).reply ++ t)
          (append-nil (device_text reply_text (finish worker fault) (device_step the_coder mid (finish worker fault)).reply) ∙ ap (device_text reply_text (finish worker fault)) q)
          ∙ ap (λ x. device_text reply_text (claim worker) x ++ text) r);
    }

-- Calls

-- where a call with memory tells that it wants memory, it is the same as without
without_memory : (s : Slot) (request : Call) (bytes : List ℕ) → (answer s request bytes true).reply ≡ Refused NoMem → answer s request bytes true ≡ answer s request bytes false
unfolding answer closed_answer context_answer
without_memory None (Open kind) bytes e = absurd (cc)
without_memory None Close bytes e = refl
without_memory None (EnumFmt side index) bytes e = refl
without_memory None (GetFmt side) bytes e = refl
without_memory None (TryFmt side want) bytes e = refl
without_memory None (SetFmt side want) bytes e = refl
without_memory None (ReqBufs side count) bytes e = refl
without_memory None (CreateBufs side count size) bytes e = refl
without_memory None (QueryBuf side index) bytes e = refl
without_memory None (QBuf side index used stamp) bytes e = refl
without_memory None (DqBuf side block) bytes e = refl
without_memory None (StreamOn side) bytes e = refl
without_memory None (StreamOff side) bytes e = refl
without_memory None (Subscribe event) bytes e = refl
without_memory None (Unsubscribe event) bytes e = refl
without_memory None (DqEvent block) bytes e = refl
without_memory None (DecCmd cmd) bytes e = refl
without_memory None (EncCmd cmd) bytes e = refl
without_memory None (GetCtrl id) bytes e = refl
without_memory None (SetCtrl id value) bytes e = refl
without_memory None Poll bytes e = refl
without_memory (Some c) (ReqBufs side count) bytes e = counted c (reqbufs_refusal (queue_of c side)) _ _ e
  where
    counted :
        (c : Context) (o : Option Errno) (x : Context) (n : ℕ) → (unless c o (if_found c true (answered x (Count n)))).reply ≡ Refused NoMem
        → unless c o (if_found c true (answered x (Count n))) ≡ unless c o (if_found c false (answered x (Count n)))
    counted c (Some errno) x n e = refl
    counted c None x n e = absurd (cc)
without_memory (Some c) (CreateBufs side count size) bytes e = made c (create_refusal (queue_of c side) count size) _ _ _ e
  where
    made :
        (c : Context) (o : Option Errno) (x : Context) (n m : ℕ) → (unless c o (if_found c true (answered x (Created n m)))).reply ≡ Refused NoMem
        → unless c o (if_found c true (answered x (Created n m))) ≡ unless c o (if_found c false (answered x (Created n m)))
    made c (Some errno) x n m e = refl
    made c None x n m e = absurd (cc)
without_memory (Some c) (Open kind) bytes e = refl
without_memory (Some c) Close bytes e = refl
without_memory (Some c) (EnumFmt side index) bytes e = refl
without_memory (Some c) (GetFmt side) bytes e = refl
without_memory (Some c) (TryFmt side want) bytes e = refl
without_memory (Some c) (SetFmt side want) bytes e = refl
without_memory (Some c) (QueryBuf side index) bytes e = refl
without_memory (Some c) (QBuf side index used stamp) bytes e = refl
without_memory (Some c) (DqBuf side block) bytes e = refl
without_memory (Some c) (StreamOn side) bytes e = refl
without_memory (Some c) (StreamOff side) bytes e = refl
without_memory (Some c) (Subscribe event) bytes e = refl
without_memory (Some c) (Unsubscribe event) bytes e = refl
without_memory (Some c) (DqEvent block) bytes e = refl
without_memory (Some c) (DecCmd cmd) bytes e = refl
without_memory (Some c) (EncCmd cmd) bytes e = refl
without_memory (Some c) (GetCtrl id) bytes e = refl
without_memory (Some c) (SetCtrl id value) bytes e = refl
without_memory (Some c) Poll bytes e = refl

call_step : DeviceState → ℕ → Call → List ℕ → Bool → DeviceEvent
call_step d slot request bytes found = call slot request bytes found

told_reply : (d : DeviceState) (slot : ℕ) (a : Answer) (b : Bool) (told : Reply) (handed : List ℕ) → (cond b (call_answered d slot a) (ignored d)).reply ≡ Told slot (Answered told handed) → a.reply ≡ told
told_reply d slot a true told handed e = cc
told_reply d slot a false told handed e = absurd (cc)

-- memory is read off the text as it was found, or it makes no difference
pub record ReadsCall (d : DeviceState) (slot : ℕ) (request : Call) (bytes : List ℕ) (found : Bool) (text : List ℕ) : Type 0 where
  pub same : device_step the_coder d (call slot request bytes (found_in reply_text slot request text)) ≡ device_step the_coder d (call slot request bytes found)

want_text : (slot : ℕ) (request : Call) (xs ys : List ℕ) → reply_text slot request (Refused NoMem) xs ≡ reply_text slot request (Refused NoMem) ys
unfolding reply_text
want_text slot request xs ys = refl

found_or_not :
    (d : DeviceState) (slot : ℕ) (request : Call) (bytes : List ℕ) (found : Bool) (told : Reply) (handed payload : List ℕ)
    → (device_step the_coder d (call slot request bytes found)).reply ≡ Told slot (Answered told handed) → (found ≡ false → told ≡ Refused NoMem)
    → (t : Bool) → bytes_eq (reply_text slot request told payload) (reply_text slot request (Refused NoMem) []) ≡ t
    → device_step the_coder d (call slot request bytes (not t)) ≡ device_step the_coder d (call slot request bytes found)
unfolding device_step
found_or_not d slot request bytes false told handed payload r want true e = refl
found_or_not d slot request bytes true told handed payload r want false e = refl
found_or_not d slot request bytes false told handed payload r want false e =
    let same : reply_text slot request told payload ≡ reply_text slot request (Refused NoMem) [] = ap (λ x. reply_text slot request x payload) (want refl) ∙ want_text slot request payload [] in
    absurd (false≢true (sym e ∙ (bytes_eq-Decides (reply_text slot request told payload) (reply_text slot request (Refused NoMem) [])).1 same))
found_or_not d slot request bytes true told handed payload r want true e =
    let wants : told ≡ Refused NoMem = want_told slot request told payload [] ((bytes_eq-Decides (reply_text slot request told payload) (reply_text slot request (Refused NoMem) [])).0 e) in
    let a = answer (slot_of d slot) request bytes true in
    ap (λ x. cond (ltb slot (length d.slots)) (call_answered d slot x) (ignored d)) (sym (without_memory (slot_of d slot) request bytes (told_reply d slot a (ltb slot (length d.slots)) told handed r ∙ wants)))

pub call_read :
    (d : DeviceState) (slot : ℕ) (request : Call) (bytes : List ℕ) (found : Bool) (told : Reply) (handed payload : List ℕ)
    → (device_step the_coder d (call slot request bytes found)).reply ≡ Told slot (Answered told handed) → (found ≡ false → told ≡ Refused NoMem)
    → ReadsCall d slot request bytes found (reply_text slot request told payload)
call_read d slot request bytes found told handed payload r want =
    record { same = found_or_not d slot request bytes found told handed payload r want (bytes_eq (reply_text slot request told payload) (reply_text slot request (Refused NoMem) [])) refl }

pub call_does :
    (d : DeviceState) (slot : ℕ) (request : Call) (bytes : List ℕ) (found : Bool) (told : Reply) (handed : List ℕ)
    → (device_step the_coder d (call slot request bytes found)).reply ≡ Told slot (Answered told handed) → (found ≡ false → told ≡ Refused NoMem)
    → LineDoes d (AsksCall slot request bytes) (reply_text slot request told handed) (call slot request bytes (found_in reply_text slot request (reply_text slot request told handed)) ∷ [])
call_does d slot request bytes found told handed r want =
    let text = reply_text slot request told handed in
    let e = call slot request bytes (found_in reply_text slot request text) in
    let same = (call_read d slot request bytes found told handed handed r want).same in
    record {
      whole = whole_line text (slot_line slot text (reply_is_line slot request told handed));
      events_read = refl;
      told = sym (append-nil (device_text reply_text e (device_step the_coder d e).reply) ∙ ap (device_text reply_text e) (ap (λ s. s.reply) same ∙ r));
    }
