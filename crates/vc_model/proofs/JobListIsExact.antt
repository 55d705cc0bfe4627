-- After each event the job list has exactly the slots that have a job to be claimed, each once. An event changes one
-- slot, and the list then loses this slot or gets it at the end, by whether it has such a job now.
use Rattle.std.proofs.Common.{ℕ, ◌≡◌, ◌<◌, ◌==◌, eqb, ltb, Bool, true, false, not, cond, ◌||◌, is_none, Option, Some, None, List, [], ◌∷◌, ◌++◌, length, get_or, set, refl, sym, ap, ◌∙◌, subst, ⊎_elim, get_or-set_same, get_or-set_other}
use Rattle.std.specs.List.{filter, list_any}
use Rattle.std.proofs.lemmas.Bool.{eqb-true, eqb-false, ltb-true, ne_eqb, eq-eqb, false≢true, cases_eq}
use Rattle.std.proofs.lemmas.List.Folds.{list_any-append}
use Rattle.vc_base.specs.declared.Call.{Call}
use Rattle.vc_base.specs.Device.{DeviceEvent, call, claim, finish, shut}
use Rattle.vc_model.specs.Coder.{Coder}
use Rattle.vc_model.specs.Context.{Context, Slot, Running}
use Rattle.vc_model.specs.Answer.{answer}
use Rattle.vc_model.specs.Runs.{is_claimable}
use Rattle.vc_model.specs.Devices.{DeviceState, new_device, slot_of, job_of, waiting_after, with_slot, ignored, call_answered, claim_slot, claim_first, finish_of, finish_slot, finish_job, device_step, device_after}
use Rattle.vc_model.specs.JobList.{waits, EachOnce, ListIsExact, JobListLaw}
use Rattle.vc_model.proofs.SlotsAreIsolated.{closed_at_first, is_there}

or_false : (a : Bool) → (a || false) ≡ a
or_false true = refl
or_false false = refl

or_true : (a : Bool) → (a || true) ≡ true
or_true true = refl
or_true false = refl

-- one slot more at the end
waits_end : (ks : List ℕ) (j k : ℕ) → waits (ks ++ j ∷ []) k ≡ (waits ks k || eqb j k)
waits_end ks j k =
    list_any-append (λ i. eqb i k) ks (j ∷ []) ∙ ap (λ b. waits ks k || b) (or_false (eqb j k))

kept_in : (x j k : ℕ) (ks : List ℕ) (w : Bool) → waits ks k ≡ w → (k ≡ j → ⊥) → (b : Bool) → eqb x j ≡ b → waits (cond (not b) (x ∷ ks) ks) k ≡ (eqb x k || w)
kept_in x j k ks w h n true e =
    rw (ne_eqb x k (λ (z : x ≡ k). n (sym z ∙ eqb-true x j e))) h
kept_in x j k ks w h n false e = ap (λ b. eqb x k || b) h

-- the list without slot j
pub without_other : (ks : List ℕ) (j k : ℕ) → (k ≡ j → ⊥) → waits (filter (λ i. not (i == j)) ks) k ≡ waits ks k
without_other [] j k n = refl
without_other (x ∷ ks) j k n =
    kept_in x j k (filter (λ i. not (i == j)) ks) (waits ks k) (without_other ks j k n) n (eqb x j) refl

dropped : (x j : ℕ) (ks : List ℕ) → waits ks j ≡ false → (b : Bool) → eqb x j ≡ b → waits (cond (not b) (x ∷ ks) ks) j ≡ false
dropped x j ks h true e = h
dropped x j ks h false e = rw e h

pub without_same : (ks : List ℕ) (j : ℕ) → waits (filter (λ i. not (i == j)) ks) j ≡ false
without_same [] j = refl
without_same (x ∷ ks) j = dropped x j (filter (λ i. not (i == j)) ks) (without_same ks j) (eqb x j) refl

added_same : (ks : List ℕ) (j : ℕ) (b : Bool) → waits ks j ≡ b → waits (cond b ks (ks ++ j ∷ [])) j ≡ true
added_same ks j true e = e
added_same ks j false e = waits_end ks j j ∙ (ap (λ b. waits ks j || b) (eq-eqb j j refl) ∙ or_true (waits ks j))

added_other : (ks : List ℕ) (j k : ℕ) → (k ≡ j → ⊥) → (b : Bool) → waits (cond b ks (ks ++ j ∷ [])) k ≡ waits ks k
added_other ks j k n true = refl
added_other ks j k n false =
    waits_end ks j k ∙ (ap (λ b. waits ks k || b) (ne_eqb j k (λ (z : j ≡ k). n (sym z))) ∙ or_false (waits ks k))

listed_same : (ks : List ℕ) (j : ℕ) (b : Bool) → waits (waiting_after ks j b) j ≡ b
listed_same ks j true = added_same ks j (list_any (λ i. i == j) ks) refl
listed_same ks j false = without_same ks j

listed_other : (ks : List ℕ) (j k : ℕ) (b : Bool) → (k ≡ j → ⊥) → waits (waiting_after ks j b) k ≡ waits ks k
listed_other ks j k true n = added_other ks j k n (list_any (λ i. i == j) ks)
listed_other ks j k false n = without_other ks j k n

or_left_false : (a b : Bool) → (a || b) ≡ false → (a ≡ false) × (b ≡ false)
or_left_false true b e = absurd (false≢true (sym e))
or_left_false false b e = (refl, e)

end_once : (ks : List ℕ) (j : ℕ) → EachOnce ks → waits ks j ≡ false → EachOnce (ks ++ j ∷ [])
end_once [] j o e = (refl, tt)
end_once (x ∷ ks) j o e =
    let apart = or_left_false (eqb x j) (waits ks j) e in
    (waits_end ks j x ∙ (ap (λ b. b || eqb j x) o.0 ∙ ne_eqb j x (λ (z : j ≡ x). eqb-false x j apart.0 (sym z))), end_once ks j o.1 apart.1)

kept_once : (x j : ℕ) (ks : List ℕ) → EachOnce ks → ((x ≡ j → ⊥) → waits ks x ≡ false) → (b : Bool) → eqb x j ≡ b → EachOnce (cond (not b) (x ∷ ks) ks)
kept_once x j ks o h true e = o
kept_once x j ks o h false e = (h (eqb-false x j e), o)

without_once : (ks : List ℕ) (j : ℕ) → EachOnce ks → EachOnce (filter (λ i. not (i == j)) ks)
without_once [] j o = tt
without_once (x ∷ ks) j o =
    kept_once x j (filter (λ i. not (i == j)) ks) (without_once ks j o.1) (λ n. without_other ks j x n ∙ o.0) (eqb x j) refl

added_once : (ks : List ℕ) (j : ℕ) → EachOnce ks → (b : Bool) → waits ks j ≡ b → EachOnce (cond b ks (ks ++ j ∷ []))
added_once ks j o true e = o
added_once ks j o false e = end_once ks j o e

listed_once : (ks : List ℕ) (j : ℕ) (b : Bool) → EachOnce ks → EachOnce (waiting_after ks j b)
listed_once ks j true o = added_once ks j o (list_any (λ i. i == j) ks) refl
listed_once ks j false o = without_once ks j o

-- a step on slot j, where the list was exact for all other slots
exact_step :
    (d : DeviceState) (workers : List (Option ℕ)) (waiting : List ℕ) (steps j : ℕ) (s : Slot) → j < length d.slots
    → ((k : ℕ) → (k ≡ j → ⊥) → waits waiting k ≡ is_claimable (slot_of d k)) → EachOnce waiting
    → ListIsExact (record { slots = set d.slots j s; waiting = waiting_after waiting j (is_claimable s); workers = workers; is_shut = d.is_shut; steps = steps })
exact_step d workers waiting steps j s h others o =
    record {
      exact =
          λ k.
          ⊎_elim (λ (z : k ≡ j).
          subst (λ x. waits (waiting_after waiting j (is_claimable s)) x ≡ is_claimable (get_or (set d.slots j s) x None)) (sym z)
          (listed_same waiting j (is_claimable s) ∙ ap is_claimable (sym (get_or-set_same d.slots j s None h))))
          (λ (n : k ≡ j → ⊥). listed_other waiting j k (is_claimable s) n ∙ (others k n ∙ ap is_claimable (sym (get_or-set_other d.slots j k s None n))))
          (cases_eq k j);
      once = listed_once waiting j (is_claimable s) o;
    }

exact_call :
    (d : DeviceState) (j : ℕ) (request : Call) (bytes : List ℕ) (found : Bool) → ListIsExact d → (b : Bool) → ltb j (length d.slots) ≡ b
    → ListIsExact (cond b (call_answered d j (answer (slot_of d j) request bytes found)) (ignored d)).device
unfolding with_slot
exact_call d j request bytes found x true e =
    exact_step d d.workers d.waiting _ j (answer (slot_of d j) request bytes found).slot (ltb-true j (length d.slots) e) (λ k n. x.exact k) x.once
exact_call d j request bytes found x false e = x

-- the front of the list is claimed
pub behind_front : (j k : ℕ) (rest : List ℕ) → (k ≡ j → ⊥) → waits rest k ≡ waits (j ∷ rest) k
behind_front j k rest n =
    ap (λ b. b || waits rest k) (sym (ne_eqb j k (λ (z : j ≡ k). n (sym z))))

pub front_waits : (j : ℕ) (rest : List ℕ) → waits (j ∷ rest) j ≡ true
front_waits j rest = ap (λ b. b || waits rest j) (eq-eqb j j refl)

exact_front : (d : DeviceState) (worker j : ℕ) (rest : List ℕ) → d.waiting ≡ j ∷ rest → ListIsExact d → (s : Slot) → slot_of d j ≡ s → ListIsExact (claim_slot (record d { waiting = rest }) worker j s).device
unfolding is_claimable with_slot
exact_front d worker j rest is x None e =
    absurd (false≢true (sym (ap is_claimable e) ∙ (sym (x.exact j) ∙ (ap (λ l. waits l j) is ∙ front_waits j rest))))
exact_front d worker j rest is x (Some c) e =
    exact_step d _ rest _ j _ (is_there d.slots j c e) (λ k n. behind_front j k rest n ∙ (ap (λ l. waits l k) (sym is) ∙ x.exact k)) (subst EachOnce is x.once).1

exact_claim : (d : DeviceState) (worker : ℕ) (waiting : List ℕ) → d.waiting ≡ waiting → ListIsExact d → ListIsExact (claim_first d worker waiting).device
exact_claim d worker [] is x = x
exact_claim d worker (j ∷ rest) is x = exact_front d worker j rest is x (slot_of d j) refl

exact_free : (d : DeviceState) (worker : ℕ) → ListIsExact d → (a b : Bool) → ListIsExact (cond a (cond b (claim_first d worker d.waiting) (ignored d)) (ignored d)).device
exact_free d worker x true true = exact_claim d worker d.waiting refl x
exact_free d worker x true false = x
exact_free d worker x false b = x

exact_running : (coder : Coder) (d : DeviceState) (worker j : ℕ) (c : Context) (fault : Bool) → ListIsExact d → slot_of d j ≡ Some c → (o : Option Running) → ListIsExact (finish_job coder d worker j c o fault).device
unfolding with_slot
exact_running coder d worker j c fault x e None = x
exact_running coder d worker j c fault x e (Some job) =
    exact_step d _ d.waiting _ j _ (is_there d.slots j c e) (λ k n. x.exact k) x.once

exact_slot : (coder : Coder) (d : DeviceState) (worker j : ℕ) (fault : Bool) → ListIsExact d → (s : Slot) → slot_of d j ≡ s → ListIsExact (finish_slot coder d worker j s fault).device
exact_slot coder d worker j fault x None e = x
exact_slot coder d worker j fault x (Some c) e = exact_running coder d worker j c fault x e c.running

exact_worker : (coder : Coder) (d : DeviceState) (worker : ℕ) (fault : Bool) → ListIsExact d → (o : Option ℕ) → ListIsExact (finish_of coder d worker o fault).device
exact_worker coder d worker fault x None = x
exact_worker coder d worker fault x (Some j) = exact_slot coder d worker j fault x (slot_of d j) refl

pub exact_event : (coder : Coder) (d : DeviceState) (e : DeviceEvent) → ListIsExact d → ListIsExact (device_step coder d e).device
unfolding device_step with_slot
exact_event coder d (call j request bytes found) x =
    exact_call d j request bytes found x (ltb j (length d.slots)) refl
exact_event coder d (claim worker) x =
    exact_free d worker x (ltb worker (length d.workers)) (is_none (job_of d worker))
exact_event coder d (finish worker fault) x = exact_worker coder d worker fault x (job_of d worker)
exact_event coder d shut x = record { exact = x.exact; once = x.once }

exact_run : (coder : Coder) (d : DeviceState) (es : List DeviceEvent) → ListIsExact d → ListIsExact (device_after coder d es)
exact_run coder d [] x = x
exact_run coder d (e ∷ es) x = exact_run coder (device_step coder d e).device es (exact_event coder d e x)

pub exact_list : JobListLaw
unfolding is_claimable
exact_list coder n events =
    exact_run coder (new_device n) events (record { exact = λ k. sym (ap is_claimable (closed_at_first n k)); once = tt })
