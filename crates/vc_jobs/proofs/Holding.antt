-- What the arrays of a job list say of it as its callers see it, and what each step makes of them.
use Rattle.std.proofs.Common.{ℕ, ◌+◌, ◌≡◌, ◌<◌, ◌≤◌, Bool, true, false, Some, None, List, [], ◌∷◌, ◌++◌, length, get_or, set, replicate, refl, sym, ap, ◌∙◌, subst, ⊎_elim, ◌⊎◌, inl, inr, arith}
use Rattle.std.proofs.lemmas.List.{get_or_read}
use Rattle.std.specs.Prelude.{IsTrue, Contains, ◌↔◌}
use Rattle.vc_jobs.specs.Jobs.{waits, without, front_of, rest_of, waiting_after, Jobs, AreSlots, with_waiting}
use Rattle.vc_jobs.specs.Rings.{ring, IsRing}
use Rattle.vc_jobs.proofs.RingLemmas.{ring_is, ring_kept, ring_sound, appended, removed, nodes_of, last_fits, front_some, front_none, made, waits_contains, contains_waits, without_missing, without_front, without_itself}

-- the arrays hold the jobs
pub record Held (n : ℕ) (next prev : List ℕ) (marks : List Bool) (jobs : Jobs) : Type 0 where
  pub size : jobs.slots ≡ n
  pub held : IsRing n next prev marks jobs.waiting

pub held_from : (n : ℕ) (next prev : List ℕ) (marks : List Bool) (jobs : Jobs) → record { slots = n; waiting = ring n next } ≡ jobs → IsRing n next prev marks (ring n next) → Held n next prev marks jobs
held_from n next prev marks jobs e r = subst (λ (j : Jobs). Held n next prev marks j) e record { size = refl; held = r }

pub held_kept : (n : ℕ) (next prev : List ℕ) (marks : List Bool) (jobs : Jobs) → Held n next prev marks jobs → IsRing n next prev marks (ring n next)
held_kept n next prev marks jobs h = ring_kept n next prev marks jobs.waiting h.held

jobs_of : ℕ → List ℕ → Jobs
jobs_of n waiting = record { slots = n; waiting = waiting }

pub held_view : (n : ℕ) (next prev : List ℕ) (marks : List Bool) (jobs : Jobs) → Held n next prev marks jobs → record { slots = n; waiting = ring n next } ≡ jobs
unfolding jobs_of
held_view n next prev marks jobs h =
    ap (λ (xs : List ℕ). jobs_of n xs) (ring_is n next prev marks jobs.waiting h.held) ∙ ap (λ (m : ℕ). jobs_of m jobs.waiting) (sym h.size)

pub held_sound : (n : ℕ) (next prev : List ℕ) (marks : List Bool) (jobs : Jobs) → Held n next prev marks jobs → AreSlots jobs
unfolding jobs_of
held_sound n next prev marks jobs h =
    subst (λ (m : ℕ). AreSlots (jobs_of m jobs.waiting)) (sym h.size) (ring_sound n next prev marks jobs.waiting h.held)

pub held_appended :
    (n : ℕ) (next prev : List ℕ) (marks : List Bool) (jobs : Jobs) (slot last : ℕ) → Held n next prev marks jobs → slot < jobs.slots
    → waits jobs.waiting slot ≡ false → last ≡ get_or prev n last
    → Held n (set (set next last slot) slot n) (set (set prev slot last) n slot) (set marks slot true) (with_waiting jobs (jobs.waiting ++ slot ∷ []))
held_appended n next prev marks jobs slot last h low free is =
    record {
      size = h.size;
      held = appended n next prev marks jobs.waiting slot last h.held (omega (arith, h.size)) free (get_or_read prev n last (omega (arith, h.held.prev_size)) is 0);
    }

pub last_in : (n : ℕ) (next prev : List ℕ) (marks : List Bool) (jobs : Jobs) (last : ℕ) → Held n next prev marks jobs → last ≡ get_or prev n last → last < length next
last_in n next prev marks jobs last h is =
    let same : last ≡ get_or prev n 0 = get_or_read prev n last (omega (arith, h.held.prev_size)) is 0 in
    omega (arith, same, last_fits n next prev marks jobs.waiting h.held, h.held.next_size)

-- a slot that waits is a node of the ring, and so are those beside it
pub slot_in : (n : ℕ) (next prev : List ℕ) (marks : List Bool) (jobs : Jobs) (slot : ℕ) → Held n next prev marks jobs → waits jobs.waiting slot ≡ true → (slot < length next) × (slot < length prev) × (slot < length marks)
slot_in n next prev marks jobs slot h w =
    let low : slot < n = (nodes_of n next prev marks jobs.waiting slot h.held w).1.1 in
    (omega (arith, h.held.next_size), omega (arith, h.held.prev_size), omega (arith, h.held.marks_size))

pub before_in : (n : ℕ) (next prev : List ℕ) (marks : List Bool) (jobs : Jobs) (slot before : ℕ) → Held n next prev marks jobs → waits jobs.waiting slot ≡ true → before ≡ get_or prev slot before → before < length next
before_in n next prev marks jobs slot before h w is =
    let same : before ≡ get_or prev slot 0 = get_or_read prev slot before (slot_in n next prev marks jobs slot h w).1 is 0 in
    omega (arith, same, (nodes_of n next prev marks jobs.waiting slot h.held w).0, h.held.next_size)

pub after_in : (n : ℕ) (next prev : List ℕ) (marks : List Bool) (jobs : Jobs) (slot after : ℕ) → Held n next prev marks jobs → waits jobs.waiting slot ≡ true → after ≡ get_or next slot after → after < length prev
after_in n next prev marks jobs slot after h w is =
    let same : after ≡ get_or next slot 0 = get_or_read next slot after (slot_in n next prev marks jobs slot h w).0 is 0 in
    omega (arith, same, (nodes_of n next prev marks jobs.waiting slot h.held w).1.0, h.held.prev_size)

pub held_removed :
    (n : ℕ) (next prev : List ℕ) (marks : List Bool) (jobs : Jobs) (slot before after : ℕ) → Held n next prev marks jobs
    → waits jobs.waiting slot ≡ true → before ≡ get_or prev slot before → after ≡ get_or next slot after
    → Held n (set next before after) (set prev after before) (set marks slot false) (with_waiting jobs (without jobs.waiting slot))
held_removed n next prev marks jobs slot before after h w is_before is_after =
    let sizes = slot_in n next prev marks jobs slot h w in
    record {
      size = h.size;
      held = removed n next prev marks jobs.waiting slot before after h.held w (get_or_read prev slot before sizes.1 is_before 0) (get_or_read next slot after sizes.0 is_after 0);
    }

pub held_some : (n : ℕ) (next prev : List ℕ) (marks : List Bool) (jobs : Jobs) (first : ℕ) → Held n next prev marks jobs → first ≡ get_or next n first → first < n → Some first ≡ front_of jobs.waiting
held_some n next prev marks jobs first h is low =
    front_some n next prev marks jobs.waiting first h.held (get_or_read next n first (omega (arith, h.held.next_size)) is 0) low

pub held_none : (n : ℕ) (next prev : List ℕ) (marks : List Bool) (jobs : Jobs) (first : ℕ) → Held n next prev marks jobs → first ≡ get_or next n first → n ≤ first → None ≡ front_of jobs.waiting
held_none n next prev marks jobs first h is low =
    front_none n next prev marks jobs.waiting first h.held (get_or_read next n first (omega (arith, h.held.next_size)) is 0) low

pub held_made : (n : ℕ) (next prev : List ℕ) (marks : List Bool) → n ≤ 1024 → next ≡ replicate (n + 1) n → prev ≡ replicate (n + 1) n → marks ≡ replicate n false → Held n next prev marks (record { slots = n; waiting = [] })
held_made n next prev marks few en ep em = rw (en, ep, em) record { size = refl; held = made n few }

pub mark_contains : (xs : List ℕ) (slot : ℕ) (b : Bool) → b ≡ waits xs slot → IsTrue b ↔ Contains xs slot
mark_contains xs slot b is =
    (λ (h : b ≡ true). waits_contains xs slot (sym is ∙ h), λ (h : Contains xs slot). is ∙ contains_waits xs slot h)

-- a number that is no slot's does not wait
pub none_past : (n : ℕ) (next prev : List ℕ) (marks : List Bool) (jobs : Jobs) (slot : ℕ) → Held n next prev marks jobs → n ≤ slot → waits jobs.waiting slot ≡ false
none_past n next prev marks jobs slot h far =
    ⊎_elim
    (λ (w : waits jobs.waiting slot ≡ true). let low : slot < n = (nodes_of n next prev marks jobs.waiting slot h.held w).1.1 in absurd (omega arith))
    (λ (w : waits jobs.waiting slot ≡ false). w) (true_or_false (waits jobs.waiting slot))
  where
    true_or_false : (b : Bool) → (b ≡ true) ⊎ (b ≡ false)
    true_or_false true = inl refl
    true_or_false false = inr refl

-- the mark of a slot
pub held_mark : (n : ℕ) (next prev : List ℕ) (marks : List Bool) (jobs : Jobs) (slot : ℕ) (b : Bool) → Held n next prev marks jobs → slot < n → b ≡ get_or marks slot b → b ≡ waits jobs.waiting slot
held_mark n next prev marks jobs slot b h low is =
    get_or_read marks slot b (omega (arith, h.held.marks_size)) is false ∙ h.held.marked slot low

-- taking out a slot that does not wait changes nothing
pub not_due : (jobs : Jobs) (slot : ℕ) (due : Bool) → due ≡ false → waits jobs.waiting slot ≡ false → jobs ≡ with_waiting jobs (waiting_after jobs.waiting slot due)
not_due jobs slot due e w =
    rw e (ap {B = Jobs} (λ (xs : List ℕ). with_waiting jobs xs) (sym (without_missing jobs.waiting slot w)))

-- the front is taken out
pub front_taken : (old new : Jobs) (k : ℕ) → AreSlots old → Some k ≡ front_of old.waiting → new ≡ with_waiting old (without old.waiting k) → new ≡ with_waiting old (rest_of old.waiting)
front_taken old new k sound front e =
    e ∙ ap {B = Jobs} (λ (xs : List ℕ). with_waiting old xs) (without_front old.waiting k sound.once front)

pub front_gone : (old new : Jobs) (k : ℕ) → new ≡ with_waiting old (without old.waiting k) → waits new.waiting k ≡ false
front_gone old new k e = rw e (without_itself old.waiting k)
