-- The words of a block, one value after the other. Where the next value that isn't zero stands behind a run of zeros,
-- the words left are those of the run and the value, and then the words of the rest.
use Rattle.std.proofs.Common.{◌≡◌, ◌≢◌, ◌∙◌, sym, ap, refl, ℕ, suc, zero, ◌+◌, ◌<◌, ◌≤◌, List, ◌∷◌, ◌++◌, length, drop, get_or, arith, subst, replicate, ◌-◌, add-zero, length-drop}
use Rattle.std.specs.Prelude.{ℤ, pos, negsuc}
use Rattle.std.specs.Int.{w32}
use mir.Val.{of_z, to_z, SFits}
use Rattle.std.proofs.lemmas.Int.{to_z-of_z}
use Rattle.std.proofs.lemmas.List.{drop_more, get_or-drop, get_or-replicate, length-replicate, ext_get_or}
use Rattle.vc_defs.specs.Words.{run_words, canon_after, trailing_words}
use Rattle.vc_rlc.proofs.WordsAreWrittenInTurn.{Left}

canon_zero : (run : ℕ) (v : ℤ) (values : List ℤ) → v ≡ pos 0 → canon_after run (v ∷ values) ≡ canon_after (run + 1) values
canon_zero run v values e = rw e refl

canon_value : (run : ℕ) (v : ℤ) (values : List ℤ) → v ≢ pos 0 → canon_after run (v ∷ values) ≡ run_words run v ++ canon_after 0 values
canon_value run (pos zero) values ne = absurd (ne refl)
canon_value run (pos (suc v)) values ne = refl
canon_value run (negsuc v) values ne = refl

pub zero_bits : (v : ℤ) → SFits w32 v → of_z w32 v ≡ 0 → v ≡ pos 0
zero_bits v f e = sym (to_z-of_z w32 v f) ∙ ap (λ n. to_z w32 n) e

pub step_over_zero : {old : List ℕ} {at : ℕ} {total now : List ℕ} {end : ℕ} (run k : ℕ) (values : List ℤ) → k < length values → get_or values k (pos 0) ≡ pos 0 →
    Left old at total now end (canon_after run (drop k values)) → Left old at total now end (canon_after (run + 1) (drop (k + 1) values))
step_over_zero {old = old} {at = at} {total = total} {now = now} {end = end} run k values h e left =
    subst (λ (ws : List ℕ). Left old at total now end ws) (ap (λ t. canon_after run t) (drop_more values k (pos 0) h) ∙ canon_zero run (get_or values k (pos 0)) (drop (k + 1) values) e) left

-- zeros are stepped over
pub step_over_zeros : {old : List ℕ} {at : ℕ} {total now : List ℕ} {end : ℕ} (n run k : ℕ) (values : List ℤ) → k + n ≤ length values → ((j : ℕ) → k ≤ j → j < k + n → get_or values j (pos 0) ≡ pos 0) →
    Left old at total now end (canon_after run (drop k values)) → Left old at total now end (canon_after (run + n) (drop (k + n) values))
step_over_zeros zero run k values h zeros left = rw (add-zero, add-zero) left
step_over_zeros {old = old} {at = at} {total = total} {now = now} {end = end} (suc n) run k values h zeros left =
    let e : run + 1 + n ≡ run + suc n = omega arith in
    let e' : k + 1 + n ≡ k + suc n = omega arith in
    subst (λ (m : ℕ). Left old at total now end (canon_after (run + suc n) (drop m values))) e'
    (subst (λ (m : ℕ). Left old at total now end (canon_after m (drop (k + 1 + n) values))) e
    (step_over_zeros n (run + 1) (k + 1) values (omega arith) (λ j a b. zeros j (omega arith) (omega arith)) (step_over_zero run k values (omega arith) (zeros k (omega arith) (omega arith)) left)))

-- up to the next value that is not zero
pub step_to_value : {old : List ℕ} {at : ℕ} {total now : List ℕ} {end : ℕ} (next number : ℕ) (values : List ℤ) → next ≤ number → number < length values → ((j : ℕ) → next ≤ j → j < number → get_or values j (pos 0) ≡ pos 0) → get_or values number (pos 0) ≢ pos 0 →
    Left old at total now end (canon_after 0 (drop next values)) → Left old at total now end (run_words (number - next) (get_or values number (pos 0)) ++ canon_after 0 (drop (number + 1) values))
step_to_value {old = old} {at = at} {total = total} {now = now} {end = end} next number values le lt zeros ne left =
    let e : next + (number - next) ≡ number = omega arith in
    let e' : 0 + (number - next) ≡ number - next = omega arith in
    let stepped : Left old at total now end (canon_after (0 + (number - next)) (drop (next + (number - next)) values)) =
    step_over_zeros (number - next) 0 next values (omega arith) (λ j a b. zeros j a (omega arith)) left in
    subst (λ (ws : List ℕ). Left old at total now end ws)
    (ap (λ m. canon_after m (drop (next + (number - next)) values)) e' ∙ ap (λ m. canon_after (number - next) (drop m values)) e
    ∙ ap (λ t. canon_after (number - next) t) (drop_more values number (pos 0) lt) ∙ canon_value (number - next) (get_or values number (pos 0)) (drop (number + 1) values) ne)
    stepped

canon_zeros : (n run : ℕ) → canon_after run (replicate n (pos 0)) ≡ trailing_words (run + n)
canon_zeros zero run = rw add-zero refl
canon_zeros (suc n) run = let e : run + 1 + n ≡ run + suc n = omega arith in canon_zeros n (run + 1) ∙ ap trailing_words e

zeros_left : (values : List ℤ) (count : ℕ) → length values ≡ 64 → count ≤ 64 → ((k : ℕ) → count ≤ k → k < 64 → get_or values k (pos 0) ≡ pos 0) → drop count values ≡ replicate (64 - count) (pos 0)
zeros_left values count long le zeros =
    ext_get_or (pos 0) (drop count values) (replicate (64 - count) (pos 0)) (length-drop count values ∙ ap (λ n. n - count) long ∙ sym (length-replicate (64 - count) (pos 0)))
    (λ k h.
    let h' : k < 64 - count = omega (arith, length-drop count values) in
    get_or-drop count values k (pos 0) ∙ zeros (count + k) (omega arith) (omega arith) ∙ sym (get_or-replicate (64 - count) k (pos 0) (pos 0) h'))

pub step_to_end : {old : List ℕ} {at : ℕ} {total now : List ℕ} {end : ℕ} (run count : ℕ) (values : List ℤ) → length values ≡ 64 → count ≤ 64 → ((k : ℕ) → count ≤ k → k < 64 → get_or values k (pos 0) ≡ pos 0) →
    Left old at total now end (canon_after run (drop count values)) → Left old at total now end (trailing_words (run + (64 - count)))
step_to_end {old = old} {at = at} {total = total} {now = now} {end = end} run count values long le zeros left =
    subst (λ (ws : List ℕ). Left old at total now end ws) (ap (λ t. canon_after run t) (zeros_left values count long le zeros) ∙ canon_zeros (64 - count) run) left
