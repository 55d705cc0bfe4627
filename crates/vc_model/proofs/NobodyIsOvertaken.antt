-- While a slot stays in the job list, each claim brings it one place forward. Claims take the front, slots that come
-- are put at the end, and a step on another slot only removes that one.
use Rattle.std.proofs.Common.{ℕ, ◌≡◌, ◌≤◌, ◌+◌, ◌==◌, eqb, ltb, Bool, true, false, not, cond, ◌&&◌, is_none, Option, Some, None, List, [], ◌∷◌, ◌++◌, length, refl, sym, ap, ◌∙◌, subst, arith, ⊎_elim}
use Rattle.std.specs.List.{filter, list_any}
use Rattle.std.proofs.lemmas.Bool.{eqb-true, ne_eqb, false≢true}
use Rattle.vc_base.specs.Buffers.{Buffer, is_empty}
use Rattle.vc_base.specs.Device.{DeviceEvent, call, claim, finish, shut}
use Rattle.vc_model.specs.Coder.{Coder}
use Rattle.vc_model.specs.Context.{Context, Slot, Running, RunSort, is_run}
use Rattle.vc_model.specs.Answer.{Answer, answer}
use Rattle.vc_model.specs.Runs.{is_claimable, after_claim, after_finish, claim_front, sort_of, front_is_due, is_unknown, ready_for_probe, ready_for_run}
use Rattle.vc_model.specs.Devices.{DeviceState, DeviceStep, new_device, slot_of, job_of, waiting_after, with_slot, ignored, call_answered, claim_slot, claim_first, finish_of, finish_slot, finish_job, device_step, device_after, device_run}
use Rattle.vc_model.specs.JobList.{waits, ListIsExact, place_of, claim_count, claims_in, StaysListed, NobodyIsOvertaken}
use Rattle.vc_model.proofs.JobListIsExact.{exact_event, exact_list, without_same, front_waits}
use Rattle.vc_model.proofs.PartsOfTests.{and_left, and_right, or_first, or_cases}

-- one slot more at the end
end_split : (ks : List ℕ) (j k : ℕ) (b : Bool) → (b ≡ false → place_of (ks ++ j ∷ []) k ≡ place_of ks k) → cond b 0 (1 + place_of (ks ++ j ∷ []) k) ≡ cond b 0 (1 + place_of ks k)
end_split ks j k true h = refl
end_split ks j k false h = ap (λ n. 1 + n) (h refl)

place_end : (ks : List ℕ) (j k : ℕ) → waits ks k ≡ true → place_of (ks ++ j ∷ []) k ≡ place_of ks k
place_end [] j k w = absurd (false≢true w)
place_end (x ∷ ks) j k w =
    end_split ks j k (eqb x k) (λ (e : eqb x k ≡ false). place_end ks j k (or_first (eqb x k) (waits ks k) e w))

-- without another slot
left_split : (x k : ℕ) (ks fs : List ℕ) → place_of fs k ≤ place_of ks k → (b : Bool) → cond b 0 (1 + place_of fs k) ≤ cond b 0 (1 + place_of ks k)
left_split x k ks fs h true = omega arith
left_split x k ks fs h false = omega arith

without_split : (x j k : ℕ) (ks fs : List ℕ) → (k ≡ j → ⊥) → place_of fs k ≤ place_of ks k → (b : Bool) → eqb x j ≡ b → place_of (cond (not b) (x ∷ fs) fs) k ≤ place_of (x ∷ ks) k
without_split x j k ks fs n h true e =
    let other : eqb x k ≡ false = ne_eqb x k (λ (z : x ≡ k). n (sym z ∙ eqb-true x j e)) in
    let same : place_of (x ∷ ks) k ≡ 1 + place_of ks k = ap (λ b. cond b 0 (1 + place_of ks k)) other in
    omega arith
without_split x j k ks fs n h false e = left_split x k ks fs h (eqb x k)

place_without : (ks : List ℕ) (j k : ℕ) → (k ≡ j → ⊥) → place_of (filter (λ i. not (i == j)) ks) k ≤ place_of ks k
place_without [] j k n = omega arith
place_without (x ∷ ks) j k n =
    without_split x j k ks (filter (λ i. not (i == j)) ks) n (place_without ks j k n) (eqb x j) refl

-- a step on slot j
added_place : (ks : List ℕ) (j k : ℕ) → waits ks k ≡ true → (b : Bool) → place_of (cond b ks (ks ++ j ∷ [])) k ≤ place_of ks k
added_place ks j k w true = omega arith
added_place ks j k w false = let e = place_end ks j k w in omega arith

place_after : (ks : List ℕ) (j k : ℕ) (b : Bool) → waits ks k ≡ true → waits (waiting_after ks j b) k ≡ true → place_of (waiting_after ks j b) k ≤ place_of ks k
place_after ks j k true w v = added_place ks j k w (list_any (λ i. i == j) ks)
place_after ks j k false w v =
    place_without ks j k (λ (z : k ≡ j). false≢true (sym (without_same ks j) ∙ subst (λ i. waits (filter (λ x. not (x == j)) ks) i ≡ true) z v))

-- a context whose job was claimed has a running job
claimed_runs : (c : Context) (s : RunSort) (ready : List Buffer) → c.out.ready ≡ ready → is_claimable (Some c) ≡ true → is_claimable (Some (claim_front c s ready)) ≡ false
unfolding is_claimable
claimed_runs c s [] e p =
    absurd
    (⊎_elim (λ (q : ready_for_probe c ≡ true).
    false≢true
    (ap (λ l. front_is_due l c.mark) (sym e)
    ∙ and_right (is_run c.phase) (front_is_due c.out.ready c.mark)
    (and_right c.out.streams (is_run c.phase && front_is_due c.out.ready c.mark) (and_right (is_unknown c) (c.out.streams && (is_run c.phase && front_is_due c.out.ready c.mark)) q))))
    (λ (q : ready_for_run c ≡ true). false≢true (ap (λ l. not (is_empty l)) (sym e) ∙ and_left _ _ (and_left _ _ (and_right _ _ q))))
    (or_cases _ _ (and_right _ _ p)))
claimed_runs c s (b ∷ rest) e p = refl

claim_runs : (c : Context) → is_claimable (Some c) ≡ true → is_claimable (Some (after_claim c)) ≡ false
unfolding after_claim
claim_runs c p = claimed_runs c (sort_of c.kind c.geometry) c.out.ready refl p

-- what a step may do to the place of slot k
abbrev Forward : DeviceState → ℕ → DeviceStep → Type 0
Forward d k r = waits r.device.waiting k ≡ true → claim_count r.reply + place_of r.device.waiting k ≤ place_of d.waiting k

stays_put : (d : DeviceState) (k : ℕ) → Forward d k (ignored d)
stays_put d k v = omega arith

forward_call : (d : DeviceState) (j k : ℕ) (a : Answer) → waits d.waiting k ≡ true → (b : Bool) → Forward d k (cond b (call_answered d j a) (ignored d))
unfolding with_slot
forward_call d j k a w true v = let h = place_after d.waiting j k (is_claimable a.slot) w v in omega arith
forward_call d j k a w false v = omega arith

-- the front of the list was claimed
front_split : (j k : ℕ) (rest : List ℕ) → waits (j ∷ rest) k ≡ true → (b : Bool) → b ≡ false → waits (waiting_after rest j b) k ≡ true → 1 + place_of (waiting_after rest j b) k ≤ place_of (j ∷ rest) k
front_split j k rest w true e v = absurd (false≢true (sym e))
front_split j k rest w false e v =
    let other : k ≡ j → ⊥ = λ (z : k ≡ j). false≢true (sym (without_same rest j) ∙ subst (λ i. waits (filter (λ x. not (x == j)) rest) i ≡ true) z v) in
    let h = place_without rest j k other in
    let same : place_of (j ∷ rest) k ≡ 1 + place_of rest k = ap (λ b. cond b 0 (1 + place_of rest k)) (ne_eqb j k (λ (z : j ≡ k). other (sym z))) in
    omega arith

forward_front : (d : DeviceState) (worker j k : ℕ) (rest : List ℕ) → d.waiting ≡ j ∷ rest → ListIsExact d → waits d.waiting k ≡ true → (s : Slot) → slot_of d j ≡ s → Forward d k (claim_slot (record d { waiting = rest }) worker j s)
unfolding is_claimable with_slot
forward_front d worker j k rest is x w None e v =
    absurd (false≢true (sym (ap is_claimable e) ∙ (sym (x.exact j) ∙ (ap (λ l. waits l j) is ∙ front_waits j rest))))
forward_front d worker j k rest is x w (Some c) e v =
    let claimable : is_claimable (Some c) ≡ true = sym (ap is_claimable e) ∙ (sym (x.exact j) ∙ (ap (λ l. waits l j) is ∙ front_waits j rest)) in
    let h = front_split j k rest (sym (ap (λ l. waits l k) is) ∙ w) (is_claimable (Some (after_claim c))) (claim_runs c claimable) v in
    subst (λ l. 1 + place_of (waiting_after rest j (is_claimable (Some (after_claim c)))) k ≤ place_of l k) (sym is) h

forward_claim : (d : DeviceState) (worker k : ℕ) (waiting : List ℕ) → d.waiting ≡ waiting → ListIsExact d → waits d.waiting k ≡ true → Forward d k (claim_first d worker waiting)
forward_claim d worker k [] is x w = λ v. omega arith
forward_claim d worker k (j ∷ rest) is x w = forward_front d worker j k rest is x w (slot_of d j) refl

forward_free : (d : DeviceState) (worker k : ℕ) → ListIsExact d → waits d.waiting k ≡ true → (a b : Bool) → Forward d k (cond a (cond b (claim_first d worker d.waiting) (ignored d)) (ignored d))
forward_free d worker k x w true true = forward_claim d worker k d.waiting refl x w
forward_free d worker k x w true false = stays_put d k
forward_free d worker k x w false b = stays_put d k

forward_running : (coder : Coder) (d : DeviceState) (worker j k : ℕ) (c : Context) (fault : Bool) → waits d.waiting k ≡ true → (o : Option Running) → Forward d k (finish_job coder d worker j c o fault)
unfolding with_slot
forward_running coder d worker j k c fault w None v = omega arith
forward_running coder d worker j k c fault w (Some r) v =
    let h = place_after d.waiting j k (is_claimable (Some (after_finish coder c r fault))) w v in omega arith

forward_slot : (coder : Coder) (d : DeviceState) (worker j k : ℕ) (fault : Bool) → waits d.waiting k ≡ true → (s : Slot) → Forward d k (finish_slot coder d worker j s fault)
forward_slot coder d worker j k fault w None = stays_put d k
forward_slot coder d worker j k fault w (Some c) = forward_running coder d worker j k c fault w c.running

forward_worker : (coder : Coder) (d : DeviceState) (worker k : ℕ) (fault : Bool) → waits d.waiting k ≡ true → (o : Option ℕ) → Forward d k (finish_of coder d worker o fault)
forward_worker coder d worker k fault w None = stays_put d k
forward_worker coder d worker k fault w (Some j) = forward_slot coder d worker j k fault w (slot_of d j)

forward_step : (coder : Coder) (d : DeviceState) (k : ℕ) (e : DeviceEvent) → ListIsExact d → waits d.waiting k ≡ true → Forward d k (device_step coder d e)
unfolding device_step
forward_step coder d k (call j request bytes found) x w =
    forward_call d j k (answer (slot_of d j) request bytes found) w (ltb j (length d.slots))
forward_step coder d k (claim worker) x w =
    forward_free d worker k x w (ltb worker (length d.workers)) (is_none (job_of d worker))
forward_step coder d k (finish worker fault) x w = forward_worker coder d worker k fault w (job_of d worker)
forward_step coder d k shut x w = λ v. omega arith

listed_first : (k : ℕ) (coder : Coder) (d : DeviceState) (es : List DeviceEvent) → StaysListed k coder d es → waits d.waiting k ≡ true
listed_first k coder d [] s = s
listed_first k coder d (e ∷ es) s = s.0

forward_run : (coder : Coder) (k : ℕ) (d : DeviceState) (es : List DeviceEvent) → ListIsExact d → StaysListed k coder d es → claims_in (device_run coder d es) ≤ place_of d.waiting k
forward_run coder k d [] x s = omega arith
forward_run coder k d (e ∷ es) x s =
    let r = device_step coder d e in
    let rest = forward_run coder k r.device es (exact_event coder d e x) s.1 in
    let here = forward_step coder d k e x s.0 (listed_first k coder r.device es s.1) in
    omega arith

pub not_overtaken : NobodyIsOvertaken
not_overtaken coder n events more k =
    forward_run coder k (device_after coder (new_device n) events) more (exact_list coder n events)
