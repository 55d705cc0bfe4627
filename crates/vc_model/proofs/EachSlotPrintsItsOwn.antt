-- The lines of a slot in what a script prints are what the slot is told by itself, and each finish prints its line. A
-- line begins with the number of its slot, whose digits end at a space, or with a dash; so the lines of a slot can be
-- told apart, and the slot's events are its own.
use Rattle.std.proofs.Common.{ℕ, suc, ◌≡◌, ◌≤◌, ◌<◌, ◌+◌, ◌^◌, ◌==◌, eqb, ltb, Bool, true, false, not, cond, ◌&&◌, ◌||◌, is_none, Option, Some, None, List, []}
use Rattle.std.proofs.Common.{◌∷◌, ◌++◌, length, get_or, take, drop, decimal, refl, sym, ap, ◌∙◌, subst, arith, append_assoc, length-set}
use Rattle.std.specs.Prelude.{codes, bytes_eq}
use Rattle.std.specs.List.{filter, flat_map}
use Rattle.std.specs.Int.{IsInRange}
use Rattle.std.proofs.Math.Seq.{take-append_seam}
use Rattle.std.proofs.lemmas.List.{append-nil, length-replicate}
use Rattle.std.proofs.lemmas.Grind.{flat_map-append}
use Rattle.std.proofs.lemmas.List.Folds.{list_any-append}
use Rattle.std.proofs.lemmas.Bool.{eqb-true, eqb-false, ltb-true, ne_eqb, false≢true}
use Rattle.std.proofs.lemmas.Slice.Eq.{bytes_eq-Decides}
use Rattle.std.proofs.lemmas.Fmt.{decimal_is_IsNumeral, decimal_injective}
use Rattle.std.proofs.lemmas.Str.Parse.{digit_at}
use Rattle.vc_base.specs.declared.Fourcc.{Fourcc}
use Rattle.vc_base.specs.declared.Call.{Call}
use Rattle.vc_base.specs.declared.Reply.{Reply}
use Rattle.vc_base.specs.Device.{DeviceEvent, call, claim, finish, shut}
use Rattle.vc_defs.specs.Decoder.{DecodedResult, picture, damaged, changed, spent, step_outcome}
use Rattle.vc_model.specs.Coder.{Coder}
use Rattle.vc_model.specs.Context.{Context, Slot, Running}
use Rattle.vc_model.specs.Answer.{answer}
use Rattle.vc_model.specs.Runs.{JobData, job_data, RunResult, copied, encoded, decoded, run_result, run_word, result_word, finish_word}
use Rattle.vc_model.specs.Solo.{Called, Claims, Finishes, Answered, Claimed, Finished, SoloEntry, solo_run, solo_slot}
use Rattle.vc_model.specs.Devices.{DeviceState, DeviceReply, Told, NoJob, Empty, DeviceEntry, DeviceStep, new_device, slot_of, job_of, with_slot, ignored}
use Rattle.vc_model.specs.Devices.{call_answered, claim_slot, claim_first, finish_of, finish_slot, finish_job, device_step, device_after, device_run}
use Rattle.vc_model.specs.Devices.{projection, entry_for, entries_of, told_entries, all_entries}
use Rattle.vc_model.specs.Handed.{same_bool, finishes_by_fault}
use Rattle.vc_model.specs.Script.{ReplyText, Asked, AsksNothing, AsksCall, AsksClaim, AsksFinish, AsksRun, claim_text, finish_text, solo_text, run_text}
use Rattle.vc_model.specs.Script.{device_text, line_events, text_without, line_text, printed_by, script_events, script_text, Prints, events_of_script}
use Rattle.vc_model.specs.Script.{with_first, split_lines, is_line_of, slot_lines, has_feed, begins_with, IsLineOfSlot, HasKnownFourcc, IsLineText, after_space}
use Rattle.vc_model.specs.Script.{first_is, is_finish_line, finish_lines, SlotsPrintTheirOwn, SameEventsSameLines, FinishesArePrinted}
use Rattle.vc_base.specs.Limits.{most_slots}
use Rattle.vc_model.proofs.SlotsAreIsolated.{isolated, is_there}
use Rattle.vc_model.proofs.FourccsAreKnown.{fourccs_known}
use Rattle.vc_model.proofs.CoresStandForDevices.{after-append}

-- Digits

abbrev pub Digits : List ℕ → Type 0
Digits [] = Unit {0}
Digits (d ∷ ds) = (48 ≤ d) × (d ≤ 57) × Digits ds

pub digits_from : (ds : List ℕ) → ((i : ℕ) → i < length ds → IsInRange 48 57 (get_or ds i 0)) → Digits ds
digits_from [] h = tt
digits_from (d ∷ ds) h =
    let first = h 0 (omega arith) in (first.0, first.1, digits_from ds (λ i l. h (suc i) (omega arith)))

pub decimal_digits : (n : ℕ) → n < 2 ^ 64 → Digits (decimal n)
decimal_digits n fits = digits_from (decimal n) (λ i h. digit_at (decimal n) i (decimal_is_IsNumeral n fits).0.1 h)

-- the digits before the first space are told apart
same_front : (ds es xs : List ℕ) → Digits ds → Digits es → take (length (es ++ 32 ∷ [])) (ds ++ 32 ∷ xs) ≡ es ++ 32 ∷ [] → ds ≡ es
same_front [] [] xs h k e = refl
same_front [] (x ∷ es) xs h k e = let p : 32 ≡ x = cc in let q = k.0 in absurd (omega arith)
same_front (d ∷ ds) [] xs h k e = let p : d ≡ 32 = cc in let q = h.0 in absurd (omega arith)
same_front (d ∷ ds) (x ∷ es) xs h k e =
    let p : d ≡ x = cc in
    let q : take (length (es ++ 32 ∷ [])) (ds ++ 32 ∷ xs) ≡ es ++ 32 ∷ [] = cc in
    ap (λ y. y ∷ ds) p ∙ ap (λ l. x ∷ l) (same_front ds es xs h.2 k.2 q)

-- a line that begins with a byte that is no digit is of no slot
not_dash : (es xs : List ℕ) → Digits es → take (length (es ++ 32 ∷ [])) (45 ∷ xs) ≡ es ++ 32 ∷ [] → ⊥
not_dash [] xs k e = let p : ◌≡◌ {A = ℕ} 45 32 = cc in omega arith
not_dash (x ∷ es) xs k e = let p : 45 ≡ x = cc in let q = k.0 in omega arith

own_line : (k : ℕ) (rest : List ℕ) → is_line_of k (decimal k ++ 32 ∷ rest) ≡ true
own_line k rest =
    let head = decimal k ++ 32 ∷ [] in
    (bytes_eq-Decides (take (length head) (decimal k ++ 32 ∷ rest)) head).1 (ap (take (length head)) (sym (append_assoc (decimal k) (32 ∷ []) rest)) ∙ take-append_seam head rest)

untrue : (b : Bool) → (b ≡ true → ⊥) → b ≡ false
untrue true h = absurd (h refl)
untrue false h = refl

other_line : (j k : ℕ) (rest : List ℕ) → j < 2 ^ 64 → k < 2 ^ 64 → (j ≡ k → ⊥) → is_line_of k (decimal j ++ 32 ∷ rest) ≡ false
other_line j k rest hj hk n =
    let head = decimal k ++ 32 ∷ [] in
    untrue (is_line_of k (decimal j ++ 32 ∷ rest)) (λ e.
    n (decimal_injective j k hj hk (same_front (decimal j) (decimal k) rest (decimal_digits j hj) (decimal_digits k hk) ((bytes_eq-Decides (take (length head) (decimal j ++ 32 ∷ rest)) head).0 e))))

dash_line : (k : ℕ) (rest : List ℕ) → k < 2 ^ 64 → is_line_of k (45 ∷ rest) ≡ false
dash_line k rest hk =
    let head = decimal k ++ 32 ∷ [] in
    untrue (is_line_of k (45 ∷ rest)) (λ e. not_dash (decimal k) rest (decimal_digits k hk) ((bytes_eq-Decides (take (length head) (45 ∷ rest)) head).0 e))

-- One line before a text

first_split :
    (x : ℕ) (front b : List ℕ) → split_lines ((front ++ 10 ∷ []) ++ b) ≡ (front ++ 10 ∷ []) ∷ split_lines b → (t : Bool)
    → (t || has_feed front) ≡ false
    → cond t ((x ∷ []) ∷ split_lines ((front ++ 10 ∷ []) ++ b)) (with_first x (split_lines ((front ++ 10 ∷ []) ++ b))) ≡ (x ∷ (front ++ 10 ∷ [])) ∷ split_lines b
first_split x front b h true e = absurd (false≢true (sym e))
first_split x front b h false e = ap (with_first x) h

pub rest_of : (s t : Bool) → (s || t) ≡ false → t ≡ false
rest_of true t e = absurd (false≢true (sym e))
rest_of false t e = e

line_first : (front b : List ℕ) → has_feed front ≡ false → split_lines ((front ++ 10 ∷ []) ++ b) ≡ (front ++ 10 ∷ []) ∷ split_lines b
line_first [] b e = refl
line_first (x ∷ front) b e =
    first_split x front b (line_first front b (rest_of (eqb x 10) (has_feed front) e)) (eqb x 10) e

-- A line of a slot: its number, a space and words
pub record Line (j : ℕ) (text : List ℕ) : Type 0 where
  pub words : List ℕ
  pub same : text ≡ decimal j ++ (32 ∷ (words ++ 10 ∷ []))
  pub one : has_feed words ≡ false

pub no_feed_digits : (ds : List ℕ) → Digits ds → has_feed ds ≡ false
no_feed_digits [] h = refl
no_feed_digits (d ∷ ds) h =
    ap (λ t. t || has_feed ds) (ne_eqb d 10 (λ (z : d ≡ 10). let q = h.0 in omega arith)) ∙ no_feed_digits ds h.2

pub line_front : (j : ℕ) (text : List ℕ) → Line j text → List ℕ
line_front j text l = decimal j ++ (32 ∷ l.words)

pub front_text : (j : ℕ) (text : List ℕ) (l : Line j text) → text ≡ line_front j text l ++ 10 ∷ []
unfolding line_front
front_text j text l = l.same ∙ sym (append_assoc (decimal j) (32 ∷ l.words) (10 ∷ []))

pub front_feed : (j : ℕ) (text : List ℕ) (l : Line j text) → j < 2 ^ 64 → has_feed (line_front j text l) ≡ false
unfolding line_front
front_feed j text l h =
    list_any-append (λ b. b == 10) (decimal j) (32 ∷ l.words) ∙ (ap (λ t. t || has_feed l.words) (no_feed_digits (decimal j) (decimal_digits j h)) ∙ l.one)

line_split : (j : ℕ) (text b : List ℕ) → Line j text → j < 2 ^ 64 → split_lines (text ++ b) ≡ text ∷ split_lines b
line_split j text b l h =
    subst (λ t. split_lines (t ++ b) ≡ t ∷ split_lines b) (sym (front_text j text l)) (line_first (line_front j text l) b (front_feed j text l h))

-- The lines of slot k in a text and in what follows
abbrev Adds : ℕ → List ℕ → List ℕ → Type 0
Adds k text part = (b : List ℕ) → slot_lines k (text ++ b) ≡ part ++ slot_lines k b

adds_nothing : (k : ℕ) → Adds k [] []
adds_nothing k b = refl

adds_both : (k : ℕ) (x y p q : List ℕ) → Adds k x p → Adds k y q → Adds k (x ++ y) (p ++ q)
adds_both k x y p q h i b =
    ap (slot_lines k) (append_assoc x y b) ∙ (h (y ++ b) ∙ (ap (λ l. p ++ l) (i b) ∙ sym (append_assoc p q (slot_lines k b))))

kept_lines : (k : ℕ) (text b : List ℕ) (t : Bool) → flat_map (λ line. line) (cond t (text ∷ filter (is_line_of k) (split_lines b)) (filter (is_line_of k) (split_lines b))) ≡ cond t text [] ++ slot_lines k b
kept_lines k text b true = refl
kept_lines k text b false = refl

adds_line : (k j : ℕ) (text : List ℕ) → Line j text → j < 2 ^ 64 → Adds k text (cond (is_line_of k text) text [])
adds_line k j text l h b =
    ap (λ ls. flat_map (λ line. line) (filter (is_line_of k) ls)) (line_split j text b l h) ∙ kept_lines k text b (is_line_of k text)

-- a text that each slot has with its own number
entry_split : (f : ℕ → List ℕ) (k j : ℕ) (x : SoloEntry) (t : ReplyText) → solo_text t k x.event x.told ≡ f k → Line j (f j) → j < 2 ^ 64 → k < 2 ^ 64 → (b : Bool) → eqb j k ≡ b → Adds k (f j) (run_text t k (cond b (x ∷ []) []))
entry_split f k j x t e l hj hk true same =
    let z = eqb-true j k same in
    let own : is_line_of k (f j) ≡ true = subst (λ i. is_line_of i (f j) ≡ true) z (ap (is_line_of j) l.same ∙ own_line j (l.words ++ 10 ∷ [])) in
    subst (Adds k (f j)) (ap (λ s. cond s (f j) []) own ∙ (ap f z ∙ (sym e ∙ sym (append-nil (solo_text t k x.event x.told))))) (adds_line k j (f j) l hj)
entry_split f k j x t e l hj hk false other =
    let no : is_line_of k (f j) ≡ false = ap (is_line_of k) l.same ∙ other_line j k (l.words ++ 10 ∷ []) hj hk (eqb-false j k other) in
    subst (Adds k (f j)) (ap (λ s. cond s (f j) []) no) (adds_line k j (f j) l hj)

-- a line that begins with a dash is of no slot
adds_dash : (k : ℕ) (front : List ℕ) → k < 2 ^ 64 → has_feed front ≡ false → Adds k (45 ∷ (front ++ 10 ∷ [])) []
adds_dash k front h e b =
    let text = 45 ∷ (front ++ 10 ∷ []) in
    ap (λ ls. flat_map (λ line. line) (filter (is_line_of k) ls)) (line_first (45 ∷ front) b e) ∙ (kept_lines k text b (is_line_of k text) ∙ ap (λ s. cond s text [] ++ slot_lines k b) (dash_line k (front ++ 10 ∷ []) h))

-- The lines of finishes in a text and in what follows
abbrev Counts : Bool → List ℕ → ℕ → Type 0
Counts fault text m = (b : List ℕ) → finish_lines fault (text ++ b) ≡ m + finish_lines fault b

counts_nothing : (fault : Bool) → Counts fault [] 0
counts_nothing fault b = omega arith

counts_both : (fault : Bool) (x y : List ℕ) (m n : ℕ) → Counts fault x m → Counts fault y n → Counts fault (x ++ y) (m + n)
counts_both fault x y m n h i b =
    let a = ap (finish_lines fault) (append_assoc x y b) in
    let c = h (y ++ b) in
    let d = i b in
    omega arith

kept_count : (fault : Bool) (text b : List ℕ) (t : Bool) → length (cond t (text ∷ filter (is_finish_line fault) (split_lines b)) (filter (is_finish_line fault) (split_lines b))) ≡ cond t 1 0 + finish_lines fault b
kept_count fault text b true = omega arith
kept_count fault text b false = omega arith

counts_first : (fault : Bool) (front : List ℕ) → has_feed front ≡ false → Counts fault (front ++ 10 ∷ []) (cond (is_finish_line fault (front ++ 10 ∷ [])) 1 0)
counts_first fault front e b =
    ap (λ ls. length (filter (is_finish_line fault) ls)) (line_first front b e) ∙ kept_count fault (front ++ 10 ∷ []) b (is_finish_line fault (front ++ 10 ∷ []))

counts_line : (fault : Bool) (j : ℕ) (text : List ℕ) → Line j text → j < 2 ^ 64 → Counts fault text (cond (is_finish_line fault text) 1 0)
counts_line fault j text l h =
    subst (λ t. Counts fault t (cond (is_finish_line fault t) 1 0)) (sym (front_text j text l)) (counts_first fault (line_front j text l) (front_feed j text l h))

-- the words of a line of a slot
space_after : (ds rest : List ℕ) → Digits ds → after_space (ds ++ 32 ∷ rest) ≡ rest
space_after [] rest h = refl
space_after (d ∷ ds) rest h =
    ap (λ t. cond t (ds ++ 32 ∷ rest) (after_space (ds ++ 32 ∷ rest))) (ne_eqb d 32 (λ (z : d ≡ 32). let q = h.0 in omega arith)) ∙ space_after ds rest h.2

digit_first : (ds rest : List ℕ) → Digits ds → first_is (ds ++ 32 ∷ rest) 45 ≡ false
digit_first [] rest h = refl
digit_first (d ∷ ds) rest h = ne_eqb d 45 (λ (z : d ≡ 45). let q = h.0 in omega arith)

finish_test :
    (fault : Bool) (j : ℕ) (text : List ℕ) (l : Line j text) → j < 2 ^ 64
    → is_finish_line fault text ≡ (begins_with (codes "finish ") (l.words ++ 10 ∷ []) && same_bool fault (bytes_eq (l.words ++ 10 ∷ []) (codes "finish fault\n")))
finish_test fault j text l h =
    let rest = l.words ++ 10 ∷ [] in
    let s : after_space text ≡ rest = ap after_space l.same ∙ space_after (decimal j) rest (decimal_digits j h) in
    let f : first_is text 45 ≡ false = ap (λ t. first_is t 45) l.same ∙ digit_first (decimal j) rest (decimal_digits j h) in
    ap (λ t. not t && (begins_with (codes "finish ") (after_space text) && same_bool fault (bytes_eq (after_space text) (codes "finish fault\n")))) f
    ∙ ap (λ r. begins_with (codes "finish ") r && same_bool fault (bytes_eq r (codes "finish fault\n"))) s

counts_other : (fault : Bool) (j : ℕ) (text : List ℕ) (l : Line j text) → j < 2 ^ 64 → begins_with (codes "finish ") (l.words ++ 10 ∷ []) ≡ false → Counts fault text 0
counts_other fault j text l h e =
    subst (Counts fault text) (ap (λ t. cond t 1 0) (finish_test fault j text l h ∙ ap (λ t. t && same_bool fault (bytes_eq (l.words ++ 10 ∷ []) (codes "finish fault\n"))) e)) (counts_line fault j text l h)

counts_dash : (fault : Bool) (front : List ℕ) → has_feed front ≡ false → Counts fault (45 ∷ (front ++ 10 ∷ [])) 0
counts_dash fault front e = counts_first fault (45 ∷ front) e

-- Words of finishes

outcome_feed : (r : DecodedResult) → has_feed (result_word r) ≡ false
outcome_feed (picture bytes key stamp) = refl
outcome_feed (damaged stamp) = refl
outcome_feed (changed geometry) = refl
outcome_feed spent = refl

outcome_other : (r : DecodedResult) → bytes_eq (codes "finish " ++ (result_word r ++ 10 ∷ [])) (codes "finish fault\n") ≡ false
outcome_other (picture bytes key stamp) = refl
outcome_other (damaged stamp) = refl
outcome_other (changed geometry) = refl
outcome_other spent = refl

run_feed : (fourcc : Fourcc) (result : RunResult) → has_feed (run_word fourcc result) ≡ false
run_feed fourcc (copied bytes) = refl
run_feed fourcc (encoded frame) = refl
run_feed fourcc (decoded step) = outcome_feed (step_outcome fourcc step)

run_other : (fourcc : Fourcc) (result : RunResult) → bytes_eq (codes "finish " ++ (run_word fourcc result ++ 10 ∷ [])) (codes "finish fault\n") ≡ false
run_other fourcc (copied bytes) = refl
run_other fourcc (encoded frame) = refl
run_other fourcc (decoded step) = outcome_other (step_outcome fourcc step)

pub word_feed : (coder : Coder) (j : JobData) (fault : Bool) → has_feed (finish_word coder j fault) ≡ false
unfolding finish_word
word_feed coder j true = refl
word_feed coder j false = run_feed j.format.fourcc (run_result coder j)

word_fault : (coder : Coder) (j : JobData) (fault : Bool) → bytes_eq (codes "finish " ++ (finish_word coder j fault ++ 10 ∷ [])) (codes "finish fault\n") ≡ fault
unfolding finish_word
word_fault coder j true = refl
word_fault coder j false = run_other j.format.fourcc (run_result coder j)

abbrev pub claim_line : (j : ℕ) → Line j (claim_text j)
claim_line j = record { words = codes "claim"; same = refl; one = refl }

abbrev pub finish_line : (j : ℕ) (word : List ℕ) → has_feed word ≡ false → Line j (finish_text j word)
finish_line j word e = record { words = codes "finish " ++ word; same = refl; one = e }

counts_finish :
    (fault ended : Bool) (j : ℕ) (word : List ℕ) → has_feed word ≡ false
    → bytes_eq (codes "finish " ++ (word ++ 10 ∷ [])) (codes "finish fault\n") ≡ ended → j < 2 ^ 64
    → Counts fault (finish_text j word) (cond (same_bool fault ended) 1 0)
counts_finish fault ended j word f e h =
    let l = finish_line j word f in
    subst (Counts fault (finish_text j word)) (ap (λ t. cond t 1 0) (finish_test fault j (finish_text j word) l h ∙ ap (same_bool fault) e)) (counts_line fault j (finish_text j word) l h)

one_more : (m : ℕ) → m + 0 ≡ m
one_more m = omega arith

-- Events

-- what an event of the device prints of slot k, and how many lines of finishes
record Printed (t : ReplyText) (e : DeviceEvent) (reply : DeviceReply) : Type 0 where
  pub part : (k : ℕ) → k < 2 ^ 64 → Adds k (device_text t e reply) (run_text t k (entry_for k e reply))
  pub count : (fault : Bool) → Counts fault (device_text t e reply) (finishes_by_fault fault (told_entries e reply))

printed_empty : (t : ReplyText) (e : DeviceEvent) → device_text t e Empty ≡ [] → Printed t e Empty
printed_empty t e p =
    record {
      part = λ k h. subst (λ x. Adds k x []) (sym p) (adds_nothing k);
      count = λ fault. subst (λ x. Counts fault x 0) (sym p) (counts_nothing fault);
    }

call_empty : (t : ReplyText) (j : ℕ) (request : Call) (bytes : List ℕ) (found : Bool) → device_text t (call j request bytes found) Empty ≡ []
call_empty t j request bytes found = refl

abbrev pub call_line : (j : ℕ) (text : List ℕ) → IsLineOfSlot j text → Line j text
call_line j text l = record { words = l.words; same = l.same; one = l.one_line }

printed_call :
    (t : ReplyText) (j : ℕ) (request : Call) (bytes : List ℕ) (found : Bool) (reply : Reply) (handed : List ℕ)
    → IsLineOfSlot j (t j request reply handed) → j < 2 ^ 64 → (texts : (i : ℕ) → t i request reply handed ≡ t i request reply handed)
    → Printed t (call j request bytes found) (Told j (Answered reply handed))
printed_call t j request bytes found reply handed l h texts =
    record {
      part = λ k hk. entry_split (λ i. t i request reply handed) k j (record { event = Called request bytes found; told = Answered reply handed }) t refl (call_line j (t j request reply handed) l) h hk (eqb j k) refl;
      count = λ fault. counts_other fault j (t j request reply handed) (call_line j (t j request reply handed) l) h l.is_call;
    }

printed_claim : (t : ReplyText) (worker j : ℕ) → j < 2 ^ 64 → Printed t (claim worker) (Told j Claimed)
printed_claim t worker j h =
    record {
      part = λ k hk. entry_split claim_text k j (record { event = Claims; told = Claimed }) t refl (claim_line j) h hk (eqb j k) refl;
      count = λ fault. counts_other fault j (claim_text j) (claim_line j) h refl;
    }

printed_none : (t : ReplyText) (worker : ℕ) → Printed t (claim worker) NoJob
printed_none t worker =
    record { part = λ k hk. adds_dash k (codes " claim none") hk refl; count = λ fault. counts_dash fault (codes " claim none") refl }

printed_finish : (t : ReplyText) (coder : Coder) (worker j : ℕ) (j2 : JobData) (fault : Bool) → j < 2 ^ 64 → Printed t (finish worker fault) (Told j (Finished (finish_word coder j2 fault)))
printed_finish t coder worker j j2 ended h =
    let word = finish_word coder j2 ended in
    let f = word_feed coder j2 ended in
    record {
      part = λ k hk. entry_split (λ i. finish_text i word) k j (record { event = Finishes ended; told = Finished word }) t refl (finish_line j word f) h hk (eqb j k) refl;
      count = λ fault. subst (Counts fault (finish_text j word)) (sym (one_more (cond (same_bool fault ended) 1 0))) (counts_finish fault ended j word f (word_fault coder j2 ended) h);
    }

-- where the device comes to, with n slots
pub record Comes (coder : Coder) (n : ℕ) (d : DeviceState) : Type 0 where
  pub past : List DeviceEvent
  pub same : d ≡ device_after coder (new_device n) past

same_slots_cond : (d : DeviceState) (n : ℕ) (b : Bool) (x y : DeviceStep) → length x.device.slots ≡ n → length y.device.slots ≡ n → length (cond b x y).device.slots ≡ n
same_slots_cond d n true x y h k = h
same_slots_cond d n false x y h k = k

claim_slots : (d : DeviceState) (worker j : ℕ) (s : Slot) → length (claim_slot d worker j s).device.slots ≡ length d.slots
unfolding with_slot
claim_slots d worker j None = refl
claim_slots d worker j (Some c) = length-set d.slots j _

first_slots : (d : DeviceState) (worker : ℕ) (waiting : List ℕ) → length (claim_first d worker waiting).device.slots ≡ length d.slots
first_slots d worker [] = refl
first_slots d worker (j ∷ rest) = claim_slots (record d { waiting = rest }) worker j (slot_of d j)

job_slots : (coder : Coder) (d : DeviceState) (worker j : ℕ) (c : Context) (o : Option Running) (fault : Bool) → length (finish_job coder d worker j c o fault).device.slots ≡ length d.slots
unfolding with_slot
job_slots coder d worker j c None fault = refl
job_slots coder d worker j c (Some r) fault = length-set d.slots j _

finish_slots : (coder : Coder) (d : DeviceState) (worker j : ℕ) (s : Slot) (fault : Bool) → length (finish_slot coder d worker j s fault).device.slots ≡ length d.slots
finish_slots coder d worker j None fault = refl
finish_slots coder d worker j (Some c) fault = job_slots coder d worker j c c.running fault

worker_slots : (coder : Coder) (d : DeviceState) (worker : ℕ) (o : Option ℕ) (fault : Bool) → length (finish_of coder d worker o fault).device.slots ≡ length d.slots
worker_slots coder d worker None fault = refl
worker_slots coder d worker (Some j) fault = finish_slots coder d worker j (slot_of d j) fault

call_slots : (d : DeviceState) (j : ℕ) (request : Call) (bytes : List ℕ) (found : Bool) → length (call_answered d j (answer (slot_of d j) request bytes found)).device.slots ≡ length d.slots
unfolding with_slot
call_slots d j request bytes found = length-set d.slots j _

pub step_slots : (coder : Coder) (d : DeviceState) (e : DeviceEvent) → length (device_step coder d e).device.slots ≡ length d.slots
unfolding device_step
step_slots coder d (call j request bytes found) =
    same_slots_cond d (length d.slots) (ltb j (length d.slots)) (call_answered d j (answer (slot_of d j) request bytes found)) (ignored d) (call_slots d j request bytes found) refl
step_slots coder d (claim worker) =
    same_slots_cond d (length d.slots) (ltb worker (length d.workers)) (cond (is_none (job_of d worker)) (claim_first d worker d.waiting) (ignored d))
    (ignored d)
    (same_slots_cond d (length d.slots) (is_none (job_of d worker)) (claim_first d worker d.waiting) (ignored d) (first_slots d worker d.waiting) refl)
    refl
step_slots coder d (finish worker fault) = worker_slots coder d worker (job_of d worker) fault
step_slots coder d shut = refl

pub slots_from : (coder : Coder) (d : DeviceState) (es : List DeviceEvent) → length (device_after coder d es).slots ≡ length d.slots
slots_from coder d [] = refl
slots_from coder d (e ∷ es) = slots_from coder (device_step coder d e).device es ∙ step_slots coder d e

pub slots_after : (coder : Coder) (n : ℕ) (es : List DeviceEvent) → length (device_after coder (new_device n) es).slots ≡ n
slots_after coder n es = slots_from coder (new_device n) es ∙ length-replicate n None

pub comes_slots : (coder : Coder) (n : ℕ) (d : DeviceState) → Comes coder n d → length d.slots ≡ n
comes_slots coder n d c = ap (λ x. length x.slots) c.same ∙ slots_after coder n c.past

pub comes_next : (coder : Coder) (n : ℕ) (d : DeviceState) (e : DeviceEvent) → Comes coder n d → Comes coder n (device_step coder d e).device
comes_next coder n d e c =
    record { past = c.past ++ e ∷ []; same = ap (λ x. (device_step coder x e).device) c.same ∙ sym (after-append coder (new_device n) c.past e) }

pub comes_known : (coder : Coder) (n : ℕ) (d : DeviceState) (j : ℕ) (request : Call) (bytes : List ℕ) (found : Bool) → Comes coder n d → HasKnownFourcc (answer (slot_of d j) request bytes found).reply
comes_known coder n d j request bytes found c =
    let s : slot_of d j ≡ solo_slot coder None (projection coder (new_device n) c.past j) = ap (λ x. slot_of x j) c.same ∙ (isolated coder n j c.past).slot in
    subst (λ x. HasKnownFourcc (answer x request bytes found).reply) (sym s) (fourccs_known coder (projection coder (new_device n) c.past j) request bytes found)

call_printed :
    (t : ReplyText) (coder : Coder) (n : ℕ) (d : DeviceState) (j : ℕ) (request : Call) (bytes : List ℕ) (found : Bool) → IsLineText t
    → n ≤ most_slots → Comes coder n d → (b : Bool) → ltb j (length d.slots) ≡ b
    → Printed t (call j request bytes found) (cond b (call_answered d j (answer (slot_of d j) request bytes found)) (ignored d)).reply
call_printed t coder n d j request bytes found l m c true e =
    let a = answer (slot_of d j) request bytes found in
    let h = ltb-true j (length d.slots) e in
    let z = comes_slots coder n d c in
    printed_call t j request bytes found a.reply a.bytes (l j request a.reply a.bytes (omega arith) (comes_known coder n d j request bytes found c)) (omega arith) (λ i. refl)
call_printed t coder n d j request bytes found l m c false e =
    printed_empty t (call j request bytes found) refl

slot_printed : (t : ReplyText) (d : DeviceState) (worker j n : ℕ) (rest : List ℕ) → n ≤ most_slots → length d.slots ≡ n → (s : Slot) → slot_of d j ≡ s → Printed t (claim worker) (claim_slot (record d { waiting = rest }) worker j s).reply
slot_printed t d worker j n rest m z None e = printed_empty t (claim worker) refl
slot_printed t d worker j n rest m z (Some c) e =
    let h = is_there d.slots j c e in printed_claim t worker j (omega arith)

first_printed : (t : ReplyText) (d : DeviceState) (worker n : ℕ) (waiting : List ℕ) → n ≤ most_slots → length d.slots ≡ n → Printed t (claim worker) (claim_first d worker waiting).reply
first_printed t d worker n [] m z = printed_none t worker
first_printed t d worker n (j ∷ rest) m z = slot_printed t d worker j n rest m z (slot_of d j) refl

claim_printed : (t : ReplyText) (d : DeviceState) (worker n : ℕ) → n ≤ most_slots → length d.slots ≡ n → (a b : Bool) → Printed t (claim worker) (cond a (cond b (claim_first d worker d.waiting) (ignored d)) (ignored d)).reply
claim_printed t d worker n m z true true = first_printed t d worker n d.waiting m z
claim_printed t d worker n m z true false = printed_empty t (claim worker) refl
claim_printed t d worker n m z false b = printed_empty t (claim worker) refl

job_printed :
    (t : ReplyText) (coder : Coder) (d : DeviceState) (worker j n : ℕ) (c : Context) (fault : Bool) → n ≤ most_slots → length d.slots ≡ n
    → slot_of d j ≡ Some c → (o : Option Running) → Printed t (finish worker fault) (finish_job coder d worker j c o fault).reply
job_printed t coder d worker j n c fault m z e None = printed_empty t (finish worker fault) refl
job_printed t coder d worker j n c fault m z e (Some r) =
    let h = is_there d.slots j c e in printed_finish t coder worker j (job_data c r) fault (omega arith)

ended_printed :
    (t : ReplyText) (coder : Coder) (d : DeviceState) (worker j n : ℕ) (fault : Bool) → n ≤ most_slots → length d.slots ≡ n → (s : Slot)
    → slot_of d j ≡ s → Printed t (finish worker fault) (finish_slot coder d worker j s fault).reply
ended_printed t coder d worker j n fault m z None e = printed_empty t (finish worker fault) refl
ended_printed t coder d worker j n fault m z (Some c) e = job_printed t coder d worker j n c fault m z e c.running

worker_printed : (t : ReplyText) (coder : Coder) (d : DeviceState) (worker n : ℕ) (fault : Bool) → n ≤ most_slots → length d.slots ≡ n → (o : Option ℕ) → Printed t (finish worker fault) (finish_of coder d worker o fault).reply
worker_printed t coder d worker n fault m z None = printed_empty t (finish worker fault) refl
worker_printed t coder d worker n fault m z (Some j) = ended_printed t coder d worker j n fault m z (slot_of d j) refl

event_printed : (t : ReplyText) (coder : Coder) (n : ℕ) (d : DeviceState) (e : DeviceEvent) → IsLineText t → n ≤ most_slots → Comes coder n d → Printed t e (device_step coder d e).reply
unfolding device_step
event_printed t coder n d (call j request bytes found) l m c =
    call_printed t coder n d j request bytes found l m c (ltb j (length d.slots)) refl
event_printed t coder n d (claim worker) l m c =
    claim_printed t d worker n m (comes_slots coder n d c) (ltb worker (length d.workers)) (is_none (job_of d worker))
event_printed t coder n d (finish worker fault) l m c =
    worker_printed t coder d worker n fault m (comes_slots coder n d c) (job_of d worker)
event_printed t coder n d shut l m c = printed_empty t shut refl

-- Runs and scripts

-- what a text prints of slot k and of finishes, as entries of the device
record PrintsOf (t : ReplyText) (text : List ℕ) (entries : List DeviceEntry) : Type 0 where
  pub part : (k : ℕ) → k < 2 ^ 64 → Adds k text (run_text t k (entries_of k entries))
  pub count : (fault : Bool) → Counts fault text (finishes_by_fault fault (all_entries entries))

finishes-append : (fault : Bool) (xs ys : List SoloEntry) → finishes_by_fault fault (xs ++ ys) ≡ finishes_by_fault fault xs + finishes_by_fault fault ys
finishes-append fault [] ys = omega arith
finishes-append fault (x ∷ xs) ys = let h = finishes-append fault xs ys in omega arith

text-append : (t : ReplyText) (k : ℕ) (xs ys : List SoloEntry) → run_text t k (xs ++ ys) ≡ run_text t k xs ++ run_text t k ys
text-append t k xs ys = flat_map-append (λ x. solo_text t k x.event x.told) xs ys

run_printed :
    (t : ReplyText) (coder : Coder) (n : ℕ) (d : DeviceState) (es : List DeviceEvent) → IsLineText t → n ≤ most_slots → Comes coder n d
    → PrintsOf t (flat_map (λ x. device_text t x.event x.reply) (device_run coder d es)) (device_run coder d es)
run_printed t coder n d [] l m c =
    record { part = λ k h. adds_nothing k; count = λ fault. counts_nothing fault }
run_printed t coder n d (e ∷ es) l m c =
    let r = device_step coder d e in
    let more = device_run coder r.device es in
    let here = event_printed t coder n d e l m c in
    let rest = run_printed t coder n r.device es l m (comes_next coder n d e c) in
    let text = device_text t e r.reply in
    let texts = flat_map (λ x. device_text t x.event x.reply) more in
    record {
      part =
          λ k h.
          subst (Adds k (text ++ texts)) (sym (text-append t k (entry_for k e r.reply) (entries_of k more)))
          (adds_both k text texts (run_text t k (entry_for k e r.reply)) (run_text t k (entries_of k more)) (here.part k h) (rest.part k h));
      count =
          λ fault.
          subst (Counts fault (text ++ texts)) (sym (finishes-append fault (told_entries e r.reply) (all_entries more)))
          (counts_both fault text texts (finishes_by_fault fault (told_entries e r.reply)) (finishes_by_fault fault (all_entries more)) (here.count fault) (rest.count fault));
    }

without_events : (t : ReplyText) (asked : Asked) → PrintsOf t (text_without asked) []
without_events t AsksNothing = record { part = λ k h. adds_nothing k; count = λ fault. counts_nothing fault }
without_events t (AsksCall slot request bytes) =
    record { part = λ k h. adds_nothing k; count = λ fault. counts_nothing fault }
without_events t (AsksClaim worker) =
    record { part = λ k h. adds_dash k (codes " claim busy") h refl; count = λ fault. counts_dash fault (codes " claim busy") refl }
without_events t (AsksFinish worker) =
    record { part = λ k h. adds_dash k (codes " finish idle") h refl; count = λ fault. counts_dash fault (codes " finish idle") refl }
without_events t (AsksRun worker) =
    record { part = λ k h. adds_dash k (codes " claim busy") h refl; count = λ fault. counts_dash fault (codes " claim busy") refl }

line_printed : (t : ReplyText) (coder : Coder) (n : ℕ) (d : DeviceState) (asked : Asked) (es : List DeviceEvent) → IsLineText t → n ≤ most_slots → Comes coder n d → PrintsOf t (line_text t coder d asked es) (device_run coder d es)
line_printed t coder n d asked [] l m c = without_events t asked
line_printed t coder n d asked (e ∷ es) l m c = run_printed t coder n d (e ∷ es) l m c

pub run-append : (coder : Coder) (d : DeviceState) (es fs : List DeviceEvent) → device_run coder d (es ++ fs) ≡ device_run coder d es ++ device_run coder (device_after coder d es) fs
run-append coder d [] fs = refl
run-append coder d (e ∷ es) fs =
    ap (λ xs. record { event = e; reply = (device_step coder d e).reply } ∷ xs) (run-append coder (device_step coder d e).device es fs)

pub entries-append : (k : ℕ) (xs ys : List DeviceEntry) → entries_of k (xs ++ ys) ≡ entries_of k xs ++ entries_of k ys
entries-append k [] ys = refl
entries-append k (x ∷ xs) ys =
    ap (λ l. entry_for k x.event x.reply ++ l) (entries-append k xs ys) ∙ sym (append_assoc (entry_for k x.event x.reply) (entries_of k xs) (entries_of k ys))

all-append : (xs ys : List DeviceEntry) → all_entries (xs ++ ys) ≡ all_entries xs ++ all_entries ys
all-append [] ys = refl
all-append (x ∷ xs) ys =
    ap (λ l. told_entries x.event x.reply ++ l) (all-append xs ys) ∙ sym (append_assoc (told_entries x.event x.reply) (all_entries xs) (all_entries ys))

prints_both : (t : ReplyText) (x y : List ℕ) (xs ys : List DeviceEntry) → PrintsOf t x xs → PrintsOf t y ys → PrintsOf t (x ++ y) (xs ++ ys)
prints_both t x y xs ys p q =
    record {
      part =
          λ k h.
          subst (Adds k (x ++ y)) (sym (ap (run_text t k) (entries-append k xs ys) ∙ text-append t k (entries_of k xs) (entries_of k ys)))
          (adds_both k x y (run_text t k (entries_of k xs)) (run_text t k (entries_of k ys)) (p.part k h) (q.part k h));
      count =
          λ fault.
          subst (Counts fault (x ++ y))
          (sym (ap (finishes_by_fault fault) (all-append xs ys) ∙ finishes-append fault (all_entries xs) (all_entries ys)))
          (counts_both fault x y (finishes_by_fault fault (all_entries xs)) (finishes_by_fault fault (all_entries ys)) (p.count fault) (q.count fault));
    }

pub comes_after : (coder : Coder) (n : ℕ) (d : DeviceState) (es : List DeviceEvent) → Comes coder n d → Comes coder n (device_after coder d es)
comes_after coder n d [] c = c
comes_after coder n d (e ∷ es) c = comes_after coder n (device_step coder d e).device es (comes_next coder n d e c)

script_printed :
    (t : ReplyText) (coder : Coder) (n : ℕ) (d : DeviceState) (lines : List Asked) (output : List ℕ) → IsLineText t → n ≤ most_slots
    → Comes coder n d → PrintsOf t (script_text t coder d lines output) (device_run coder d (script_events t coder d lines output))
script_printed t coder n d [] output l m c =
    record { part = λ k h. adds_nothing k; count = λ fault. counts_nothing fault }
script_printed t coder n d (asked ∷ rest) output l m c =
    let text = printed_by d asked output in
    let es = line_events t d asked text in
    let after = device_after coder d es in
    let left = drop (length text) output in
    subst (PrintsOf t (line_text t coder d asked es ++ script_text t coder after rest left))
    (sym (run-append coder d es (script_events t coder after rest left)))
    (prints_both t (line_text t coder d asked es) (script_text t coder after rest left) (device_run coder d es)
    (device_run coder after (script_events t coder after rest left)) (line_printed t coder n d asked es l m c)
    (script_printed t coder n after rest left l m (comes_after coder n d es c)))

whole_printed :
    (t : ReplyText) (coder : Coder) (n : ℕ) (lines : List Asked) (output : List ℕ) → IsLineText t → n ≤ most_slots → Prints t coder n lines output
    → PrintsOf t output (device_run coder (new_device n) (events_of_script t coder n lines output))
whole_printed t coder n lines output l m p =
    subst (λ o. PrintsOf t o (device_run coder (new_device n) (events_of_script t coder n lines output))) (sym p) (script_printed t coder n (new_device n) lines output l m (record { past = []; same = refl }))

pub slots_print_their_own : SlotsPrintTheirOwn
slots_print_their_own t coder n lines output k l m h p =
    let es = events_of_script t coder n lines output in
    let x = (whole_printed t coder n lines output l m p).part k (omega arith) [] in
    ap (slot_lines k) (sym (append-nil output)) ∙ (x ∙ (append-nil (run_text t k (entries_of k (device_run coder (new_device n) es))) ∙ ap (run_text t k) (isolated coder n k es).told))

pub same_events_same_lines : SameEventsSameLines
same_events_same_lines t coder n m lines others output printed k l a h b i p q e =
    slots_print_their_own t coder n lines output k l a h p ∙ (ap (λ es. run_text t k (solo_run coder None es)) e ∙ sym (slots_print_their_own t coder m others printed k l b i q))

pub finishes_are_printed : FinishesArePrinted
finishes_are_printed t coder n lines output fault l m p =
    let x = (whole_printed t coder n lines output l m p).count fault [] in
    let y = ap (finish_lines fault) (append-nil output) in
    omega arith
