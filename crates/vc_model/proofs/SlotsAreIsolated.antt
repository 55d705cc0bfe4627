-- One event of the device is one event of one slot, and leaves every other slot alone. A call names its slot, a claim
-- takes the front of the job list, and a finish that of its worker's job; so a slot is told over the whole run what
-- it is told by itself.
use Rattle.std.proofs.Common.{ℕ, zero, suc, ◌≡◌, ◌<◌, ◌==◌, eqb, ltb, Bool, true, false, not, cond, is_none, Option, Some, None, List, [], ◌∷◌, ◌++◌, length}
use Rattle.std.proofs.Common.{get_or, set, refl, sym, ap, ◌∙◌, subst, arith, get_or-set_same, get_or-set_other, length-set}
use Rattle.std.specs.List.{filter, list_any}
use Rattle.std.proofs.lemmas.Bool.{eqb-true, eqb-false, ltb-true, false≢true}
use Rattle.vc_base.specs.declared.Call.{Call}
use Rattle.vc_base.specs.Device.{DeviceEvent, call, claim, finish, shut}
use Rattle.vc_model.specs.Coder.{Coder}
use Rattle.vc_model.specs.Context.{Context, Slot, Running}
use Rattle.vc_model.specs.Answer.{answer}
use Rattle.vc_model.specs.Runs.{is_claimable, job_data, after_claim, after_finish, finish_word}
use Rattle.vc_model.specs.Solo.{SoloEvent, Called, Claims, Finishes, Claimed, Finished, SoloReply, SoloEntry, SoloStep, solo_step, solo_run, solo_slot, call_step, events_of}
use Rattle.vc_model.specs.Devices.{DeviceState, Told, DeviceStep, new_device, slot_of, job_of, waiting_after, with_slot, ignored, call_answered, claim_slot}
use Rattle.vc_model.specs.Devices.{claim_first, finish_of, finish_slot, finish_job, device_step, device_after, device_run, projection, entry_for, entries_of}
use Rattle.vc_model.specs.Devices.{solo_events_of}
use Rattle.vc_model.specs.Isolation.{Isolation}

-- each slot of the list is there and has a job to be claimed
pub Fine : List Slot → List ℕ → Type 0
Fine slots [] = Unit {0}
Fine slots (k ∷ ks) = (k < length slots) × ((is_claimable (get_or slots k None) ≡ true) × Fine slots ks)

claimable_set : (slots : List Slot) (j k : ℕ) (s : Slot) → k < length slots → is_claimable s ≡ true → is_claimable (get_or slots k None) ≡ true → (b : Bool) → eqb j k ≡ b → is_claimable (get_or (set slots j s) k None) ≡ true
claimable_set slots j k s h p q true e =
    let same = eqb-true j k e in
    subst (λ i. is_claimable (get_or (set slots i s) k None) ≡ true) (sym same) (rw (get_or-set_same slots k s None h) p)
claimable_set slots j k s h p q false e =
    rw (get_or-set_other slots j k s None (λ (w : k ≡ j). eqb-false j k e (sym w))) q

fine_set : (slots : List Slot) (ks : List ℕ) (j : ℕ) (s : Slot) → is_claimable s ≡ true → Fine slots ks → Fine (set slots j s) ks
unfolding Fine
fine_set slots [] j s p f = tt
fine_set slots (k ∷ ks) j s p f =
    (rw (length-set slots j s) f.0, (claimable_set slots j k s f.0 p f.1.0 (eqb j k) refl, fine_set slots ks j s p f.1.1))

fine_append : (slots : List Slot) (ks : List ℕ) (j : ℕ) → j < length slots → is_claimable (get_or slots j None) ≡ true → Fine slots ks → Fine slots (ks ++ j ∷ [])
unfolding Fine
fine_append slots [] j h p f = (h, (p, tt))
fine_append slots (k ∷ ks) j h p f = (f.0, (f.1.0, fine_append slots ks j h p f.1.1))

kept_or_not : (slots : List Slot) (k j : ℕ) (s : Slot) (ks : List ℕ) → k < length slots → is_claimable (get_or slots k None) ≡ true → Fine (set slots j s) ks → (b : Bool) → eqb k j ≡ b → Fine (set slots j s) (cond (not b) (k ∷ ks) ks)
unfolding Fine
kept_or_not slots k j s ks h p f true e = f
kept_or_not slots k j s ks h p f false e =
    (rw (length-set slots j s) h, (rw (get_or-set_other slots j k s None (eqb-false k j e)) p, f))

fine_filter : (slots : List Slot) (ks : List ℕ) (j : ℕ) (s : Slot) → Fine slots ks → Fine (set slots j s) (filter (λ i. not (i == j)) ks)
unfolding Fine
fine_filter slots [] j s f = tt
fine_filter slots (k ∷ ks) j s f =
    kept_or_not slots k j s (filter (λ i. not (i == j)) ks) f.0 f.1.0 (fine_filter slots ks j s f.1.1) (eqb k j) refl

fine_listed : (slots : List Slot) (ks : List ℕ) (j : ℕ) (s : Slot) → j < length slots → Fine slots ks → (b : Bool) → is_claimable s ≡ b → Fine (set slots j s) (waiting_after ks j b)
fine_listed slots ks j s h f true e = once (list_any (λ i. i == j) ks)
  where
    here : Fine (set slots j s) ks
    here = fine_set slots ks j s e f

    once : (b : Bool) → Fine (set slots j s) (cond b ks (ks ++ j ∷ []))
    once true = here
    once false =
        fine_append (set slots j s) ks j (rw (length-set slots j s) h) (rw (get_or-set_same slots j s None h) e) here
fine_listed slots ks j s h f false e = fine_filter slots ks j s f

-- what one event of the device is to slot k
pub record Matches (coder : Coder) (d : DeviceState) (k : ℕ) (e : DeviceEvent) (r : DeviceStep) : Type 0 where
  pub told_part : entry_for k e r.reply ≡ solo_run coder (slot_of d k) (events_of (entry_for k e r.reply))
  pub slot_part : slot_of r.device k ≡ solo_slot coder (slot_of d k) (events_of (entry_for k e r.reply))
  pub fine : Fine r.device.slots r.device.waiting

-- the event with what was told, where it is one of the slot
abbrev own_entry : SoloEvent → SoloReply → Bool → List SoloEntry
own_entry e told b = cond b (record { event = e; told = told } ∷ []) []

told_part_of :
    (coder : Coder) (slots : List Slot) (j k : ℕ) (e : SoloEvent) (r : SoloStep) → solo_step coder (get_or slots j None) e ≡ r → (b : Bool)
    → eqb j k ≡ b → own_entry e r.told b ≡ solo_run coder (get_or slots k None) (events_of (own_entry e r.told b))
told_part_of coder slots j k e r p true same =
    subst (λ i. own_entry e r.told true ≡ own_entry e (solo_step coder (get_or slots i None) e).told true) (eqb-true j k same) (ap (λ t. own_entry e t.told true) (sym p))
told_part_of coder slots j k e r p false same = refl

slot_part_of :
    (coder : Coder) (slots : List Slot) (j k : ℕ) (e : SoloEvent) (r : SoloStep) → j < length slots → solo_step coder (get_or slots j None) e ≡ r
    → (b : Bool) → eqb j k ≡ b → get_or (set slots j r.slot) k None ≡ solo_slot coder (get_or slots k None) (events_of (own_entry e r.told b))
slot_part_of coder slots j k e r h p true same =
    subst (λ i. get_or (set slots j r.slot) i None ≡ (solo_step coder (get_or slots i None) e).slot) (eqb-true j k same) (get_or-set_same slots j r.slot None h ∙ ap (λ t. t.slot) (sym p))
slot_part_of coder slots j k e r h p false same =
    get_or-set_other slots j k r.slot None (λ (w : k ≡ j). eqb-false j k same (sym w))

-- a step on slot j that is the slot's own step
stepped :
    (coder : Coder) (d : DeviceState) (k j : ℕ) (workers : List (Option ℕ)) (waiting : List ℕ) (steps : ℕ) (e : DeviceEvent) (se : SoloEvent) (r : SoloStep)
    → solo_events_of e ≡ se ∷ [] → j < length d.slots → Fine d.slots waiting → solo_step coder (slot_of d j) se ≡ r
    → Matches coder d k e
    (record { device = record { slots = set d.slots j r.slot; waiting = waiting_after waiting j (is_claimable r.slot); workers = workers; is_shut = d.is_shut; steps = steps }; reply = Told j r.told })
stepped coder d k j workers waiting steps e se r is h f p =
    record {
      told_part = rw is (told_part_of coder d.slots j k se r p (eqb j k) refl);
      slot_part = rw is (slot_part_of coder d.slots j k se r h p (eqb j k) refl);
      fine = fine_listed d.slots waiting j r.slot h f (is_claimable r.slot) refl;
    }

matches_ignored : (coder : Coder) (d : DeviceState) (k : ℕ) (e : DeviceEvent) → Fine d.slots d.waiting → Matches coder d k e (ignored d)
matches_ignored coder d k e f = record { told_part = refl; slot_part = refl; fine = f }

matches_call :
    (coder : Coder) (d : DeviceState) (k j : ℕ) (request : Call) (bytes : List ℕ) (found : Bool) → Fine d.slots d.waiting → (b : Bool)
    → ltb j (length d.slots) ≡ b
    → Matches coder d k (call j request bytes found) (cond b (call_answered d j (answer (slot_of d j) request bytes found)) (ignored d))
unfolding with_slot solo_step
matches_call coder d k j request bytes found f true e =
    let a = answer (slot_of d j) request bytes found in
    stepped coder d k j d.workers d.waiting _ (call j request bytes found) (Called request bytes found) (call_step a) refl (ltb-true j (length d.slots) e) f refl
matches_call coder d k j request bytes found f false e = matches_ignored coder d k _ f

-- the front of the list is there and has a job to be claimed
matches_front :
    (coder : Coder) (d : DeviceState) (k worker j : ℕ) (rest : List ℕ) → j < length d.slots → Fine d.slots rest → (s : Slot) → slot_of d j ≡ s
    → is_claimable s ≡ true → Matches coder d k (claim worker) (claim_slot (record d { waiting = rest }) worker j s)
unfolding is_claimable with_slot solo_step
matches_front coder d k worker j rest h f None is p = absurd (false≢true p)
matches_front coder d k worker j rest h f (Some c) is p =
    stepped coder d k j _ rest _ (claim worker) Claims (record { slot = Some (after_claim c); told = Claimed }) refl h f (rw is (rw p refl))

matches_claim : (coder : Coder) (d : DeviceState) (k worker : ℕ) (waiting : List ℕ) → d.waiting ≡ waiting → Fine d.slots waiting → Matches coder d k (claim worker) (claim_first d worker waiting)
unfolding Fine
matches_claim coder d k worker [] is f =
    record { told_part = refl; slot_part = refl; fine = subst (λ w. Fine d.slots w) (sym is) f }
matches_claim coder d k worker (j ∷ rest) is f =
    matches_front coder d k worker j rest f.0 f.1.1 (slot_of d j) refl f.1.0

-- the slot of a worker is there, where a context stands in it
pub is_there : (slots : List Slot) (k : ℕ) (c : Context) → get_or slots k None ≡ Some c → k < length slots
is_there [] k c is = absurd (None≢Some is)
  where
    None≢Some : {x : Context} → None ≡ Some x → ⊥
    None≢Some e = cc
is_there (s ∷ slots) zero c is = omega arith
is_there (s ∷ slots) (suc k) c is = let h = is_there slots k c is in omega arith

matches_running :
    (coder : Coder) (d : DeviceState) (k worker j : ℕ) (c : Context) (fault : Bool) → Fine d.slots d.waiting → slot_of d j ≡ Some c
    → (o : Option Running) → c.running ≡ o → Matches coder d k (finish worker fault) (finish_job coder d worker j c o fault)
unfolding with_slot solo_step
matches_running coder d k worker j c fault f is None e = matches_ignored coder d k _ f
matches_running coder d k worker j c fault f is (Some r) e =
    stepped coder d k j _ d.waiting _ (finish worker fault) (Finishes fault)
    (record { slot = Some (after_finish coder c r fault); told = Finished (finish_word coder (job_data c r) fault) }) refl (is_there d.slots j c is) f
    (rw is (rw e refl))

matches_finish : (coder : Coder) (d : DeviceState) (k worker j : ℕ) (fault : Bool) → Fine d.slots d.waiting → (s : Slot) → slot_of d j ≡ s → Matches coder d k (finish worker fault) (finish_slot coder d worker j s fault)
matches_finish coder d k worker j fault f None is = matches_ignored coder d k _ f
matches_finish coder d k worker j fault f (Some c) is = matches_running coder d k worker j c fault f is c.running refl

matches_worker : (coder : Coder) (d : DeviceState) (k worker : ℕ) (fault : Bool) → Fine d.slots d.waiting → (o : Option ℕ) → Matches coder d k (finish worker fault) (finish_of coder d worker o fault)
matches_worker coder d k worker fault f None = matches_ignored coder d k _ f
matches_worker coder d k worker fault f (Some j) = matches_finish coder d k worker j fault f (slot_of d j) refl

matches_free : (coder : Coder) (d : DeviceState) (k worker : ℕ) → Fine d.slots d.waiting → (a b : Bool) → Matches coder d k (claim worker) (cond a (cond b (claim_first d worker d.waiting) (ignored d)) (ignored d))
matches_free coder d k worker f true true = matches_claim coder d k worker d.waiting refl f
matches_free coder d k worker f true false = matches_ignored coder d k _ f
matches_free coder d k worker f false b = matches_ignored coder d k _ f

-- each event is one of its slot, and the list stays in order
pub matches_step : (coder : Coder) (d : DeviceState) (k : ℕ) (e : DeviceEvent) → Fine d.slots d.waiting → Matches coder d k e (device_step coder d e)
unfolding device_step with_slot
matches_step coder d k (call j request bytes found) f =
    matches_call coder d k j request bytes found f (ltb j (length d.slots)) refl
matches_step coder d k (claim worker) f =
    matches_free coder d k worker f (ltb worker (length d.workers)) (is_none (job_of d worker))
matches_step coder d k (finish worker fault) f = matches_worker coder d k worker fault f (job_of d worker)
matches_step coder d k shut f = record { told_part = refl; slot_part = refl; fine = f }

-- runs one after another
solo_slot-append : (coder : Coder) (s : Slot) (es fs : List SoloEvent) → solo_slot coder s (es ++ fs) ≡ solo_slot coder (solo_slot coder s es) fs
solo_slot-append coder s [] fs = refl
solo_slot-append coder s (e ∷ es) fs = solo_slot-append coder (solo_step coder s e).slot es fs

solo_run-append : (coder : Coder) (s : Slot) (es fs : List SoloEvent) → solo_run coder s (es ++ fs) ≡ solo_run coder s es ++ solo_run coder (solo_slot coder s es) fs
solo_run-append coder s [] fs = refl
solo_run-append coder s (e ∷ es) fs =
    ap (λ rs. record { event = e; told = (solo_step coder s e).told } ∷ rs) (solo_run-append coder (solo_step coder s e).slot es fs)

events-append : (xs ys : List SoloEntry) → events_of (xs ++ ys) ≡ events_of xs ++ events_of ys
events-append [] ys = refl
events-append (x ∷ xs) ys = ap (λ zs. x.event ∷ zs) (events-append xs ys)

pub told_run : (coder : Coder) (k : ℕ) (d : DeviceState) (es : List DeviceEvent) → Fine d.slots d.waiting → entries_of k (device_run coder d es) ≡ solo_run coder (slot_of d k) (projection coder d es k)
told_run coder k d [] f = refl
told_run coder k d (e ∷ es) f =
    let r = device_step coder d e in
    let m = matches_step coder d k e f in
    let rest = told_run coder k r.device es m.fine in
    let own = entry_for k e r.reply in
    let more = entries_of k (device_run coder r.device es) in
    ap (λ xs. xs ++ more) m.told_part
    ∙ (ap (λ xs. solo_run coder (slot_of d k) (events_of own) ++ xs) rest
    ∙ (ap (λ s. solo_run coder (slot_of d k) (events_of own) ++ solo_run coder s (events_of more)) m.slot_part
    ∙ (sym (solo_run-append coder (slot_of d k) (events_of own) (events_of more))
    ∙ ap (λ es. solo_run coder (slot_of d k) es) (sym (events-append own more)))))

pub slot_run : (coder : Coder) (k : ℕ) (d : DeviceState) (es : List DeviceEvent) → Fine d.slots d.waiting → slot_of (device_after coder d es) k ≡ solo_slot coder (slot_of d k) (projection coder d es k)
slot_run coder k d [] f = refl
slot_run coder k d (e ∷ es) f =
    let r = device_step coder d e in
    let m = matches_step coder d k e f in
    let own = entry_for k e r.reply in
    let more = entries_of k (device_run coder r.device es) in
    slot_run coder k r.device es m.fine
    ∙ (ap (λ s. solo_slot coder s (events_of more)) m.slot_part
    ∙ (sym (solo_slot-append coder (slot_of d k) (events_of own) (events_of more))
    ∙ ap (λ es. solo_slot coder (slot_of d k) es) (sym (events-append own more))))

pub closed_at_first : (n k : ℕ) → slot_of (new_device n) k ≡ None
closed_at_first zero k = refl
closed_at_first (suc n) zero = refl
closed_at_first (suc n) (suc k) = closed_at_first n k

pub isolated : Isolation
unfolding Fine
isolated coder n k events =
    record {
      told = told_run coder k (new_device n) events tt ∙ ap (λ s. solo_run coder s (projection coder (new_device n) events k)) (closed_at_first n k);
      slot = slot_run coder k (new_device n) events tt ∙ ap (λ s. solo_slot coder s (projection coder (new_device n) events k)) (closed_at_first n k);
    }
