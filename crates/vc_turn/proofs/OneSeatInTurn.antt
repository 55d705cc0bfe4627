-- One seat at most is in its turn, the one whose ticket is served, and the slot has the value while there is none. The
-- tickets differ, so whoever has the one that is served is the only seat that may be in its turn, and the slot changes with it.
use Rattle.std.proofs.Common.{◌≡◌, ◌≢◌, ℕ, ◌+◌, ◌≤◌, Bool, true, false, List, [], ◌∷◌, ◌++◌, length, Option, Some, set, refl, sym, ap, ◌∙◌, subst, inl, inr, ⊎_elim, arith, length-append}
use mathlib.Core.Option.{some, none}
use Rattle.atomic_table.proofs.Lists.{at_longer, set_here, set_else}
use Rattle.vc_base.specs.Device.{DeviceEvent}
use Rattle.vc_turn.specs.declared.rule.Noted.{Noted}
use Rattle.vc_turn.specs.declared.rule.View.{View}
use Rattle.vc_turn.specs.Rule.{At, Apart, IsServed, IsFree, IsTaken, AreTurns}
use Rattle.vc_turn.specs.Plays.{entry, at_turn, with_note, at_rest}
use Rattle.vc_turn.proofs.ListsByPlace.{off, one_at, at_inside, each_set, each_more}

abbrev pub Homes : Type 0 → Type 0
Homes V = List (mathlib.Core.Option.Option (Option V))

abbrev pub TicketsDiffer : List View → Type 0
TicketsDiffer views = Apart (λ (v : View). v.queued) (λ (v : View). v.ticket) views

module _ {V : Type 0} (stands : V → List Noted → Type 0) where
  -- a step of a seat that is not in its turn before or after
  pub turns_aside : (serving : ℕ) (log : List Noted) (homes : Homes V) (views : List View) (id : ℕ) (v w : View) → AreTurns stands serving log homes views → At views id v → v.serving ≡ false → w.serving ≡ false
      → AreTurns stands serving log homes (set views id w)
  turns_aside serving log homes views id v w r at was is =
      let elsewhere : (i : ℕ) (u : View) → At views i u → u.serving ≡ true → i ≢ id = λ i u a s e. off v.serving was (ap (λ (z : View). z.serving) (one_at views id v u at (subst (λ (k : ℕ). At views k u) e a)) ∙ s) in record {
        turn = each_set (λ _ u. u.serving ≡ true → IsServed serving log u) views id w (λ j u _ a. r.turn j u a) (λ h. off w.serving is h);
        pace = ⊎_elim (λ (le : length log ≤ serving). inl le)
            (λ (t : (length log ≤ serving + 1) × ((i : ℕ) × (u : View) × At views i u × (u.serving ≡ true) × (u.noted ≡ true))).
            inr (t.0, (t.1.0, t.1.1, set_else views id t.1.0 w (elsewhere t.1.0 t.1.1 t.1.2 t.1.3) ∙ t.1.2, t.1.3, t.1.4)))
            r.pace;
        home = ⊎_elim
            (λ (t : (value : V) × (homes ≡ some (Some value) ∷ []) × stands value log × IsFree views).
            inl (t.0, t.1, t.2, each_set (λ _ u. u.serving ≡ false) views id w (λ j u _ a. t.3 j u a) is))
            (λ (t : (homes ≡ none ∷ []) × IsTaken views). inr (t.0, (t.1.0, t.1.1, set_else views id t.1.0 w (elsewhere t.1.0 t.1.1 t.1.2 t.1.3) ∙ t.1.2, t.1.3)))
            r.home;
      }

  -- a seat that is not in its turn comes
  pub turns_more : (serving : ℕ) (log : List Noted) (homes : Homes V) (views : List View) (w : View) → AreTurns stands serving log homes views → w.serving ≡ false → AreTurns stands serving log homes (views ++ w ∷ [])
  turns_more serving log homes views w r is = record {
    turn = each_more (λ _ u. u.serving ≡ true → IsServed serving log u) views w r.turn (λ h. off w.serving is h);
    pace = ⊎_elim (λ (le : length log ≤ serving). inl le)
        (λ (t : (length log ≤ serving + 1) × ((i : ℕ) × (u : View) × At views i u × (u.serving ≡ true) × (u.noted ≡ true))).
        inr (t.0, (t.1.0, t.1.1, at_longer views (w ∷ []) t.1.0 t.1.1 t.1.2, t.1.3, t.1.4)))
        r.pace;
    home = ⊎_elim
        (λ (t : (value : V) × (homes ≡ some (Some value) ∷ []) × stands value log × IsFree views).
        inl (t.0, t.1, t.2, each_more (λ _ u. u.serving ≡ false) views w t.3 is))
        (λ (t : (homes ≡ none ∷ []) × IsTaken views). inr (t.0, (t.1.0, t.1.1, at_longer views (w ∷ []) t.1.0 t.1.1 t.1.2, t.1.3)))
        r.home;
  }

  -- who has the served ticket is the only one that may be in its turn
  pub only_one : (serving : ℕ) (log : List Noted) (homes : Homes V) (views : List View) (id : ℕ) (v : View) → AreTurns stands serving log homes views → TicketsDiffer views → At views id v → v.queued ≡ true → v.ticket ≡ serving
      → (i : ℕ) (u : View) → At views i u → u.serving ≡ true → (i ≡ id) × (u ≡ v)
  only_one serving log homes views id v r apart at queued ticket i u a s =
      let t = r.turn i u a s in
      let same : i ≡ id = apart i id u v a at t.queued queued (t.ticket ∙ sym ticket) in
      (same, one_at views id u v (subst (λ (k : ℕ). At views k u) same a) at)

  -- Whose ticket is served may take the slot from home
  pub turns_looked : (serving : ℕ) (log : List Noted) (homes : Homes V) (views : List View) (id : ℕ) (v : View) → AreTurns stands serving log homes views → TicketsDiffer views → At views id v → v.seated ≡ true → v.queued ≡ true → v.ticket ≡ serving → v.serving ≡ false
      → (value : V) × (homes ≡ some (Some value) ∷ []) × stands value log × (length log ≤ serving) × AreTurns stands serving log (none ∷ []) (set views id (at_turn v log))
  turns_looked serving log homes views id v r apart at here queued ticket was =
      let nobody : (i : ℕ) (u : View) → At views i u → u.serving ≡ true → ⊥ = λ i u a s. let o = only_one serving log homes views id v r apart at queued ticket i u a s in off v.serving was (ap (λ (z : View). z.serving) (sym o.1) ∙ s) in
      let w : View = at_turn v log in
      let short : length log ≤ serving = ⊎_elim (λ (le : length log ≤ serving). le) (λ (t : (length log ≤ serving + 1) × ((i : ℕ) × (u : View) × At views i u × (u.serving ≡ true) × (u.noted ≡ true))). absurd (nobody t.1.0 t.1.1 t.1.2 t.1.3)) r.pace in
      let next : AreTurns stands serving log (none ∷ []) (set views id w) = record {
        turn = each_set (λ _ u. u.serving ≡ true → IsServed serving log u) views id w (λ j u _ a s. absurd (nobody j u a s)) (λ _. record { seated = here; queued = queued; ticket = ticket; seen = refl });
        pace = inl short;
        home = inr (refl, (id, w, set_here views id w (at_inside views id v at), refl));
      } in
      ⊎_elim
      (λ (t : (value : V) × (homes ≡ some (Some value) ∷ []) × stands value log × IsFree views). (t.0, t.1, t.2, short, next))
      (λ (t : (homes ≡ none ∷ []) × IsTaken views). absurd (nobody t.1.0 t.1.1 t.1.2 t.1.3))
      r.home

  -- the slot of a turn is not home
  pub turn_away : (serving : ℕ) (log : List Noted) (homes : Homes V) (views : List View) (id : ℕ) (v : View) → AreTurns stands serving log homes views → At views id v → v.serving ≡ true → homes ≡ none ∷ []
  turn_away serving log homes views id v r at is = ⊎_elim
      (λ (t : (value : V) × (homes ≡ some (Some value) ∷ []) × stands value log × IsFree views). off v.serving (t.3 id v at) is)
      (λ (t : (homes ≡ none ∷ []) × IsTaken views). t.0) r.home

  pub turns_noted : (serving : ℕ) (log : List Noted) (homes : Homes V) (views : List View) (id : ℕ) (v : View) (e : DeviceEvent) → AreTurns stands serving log homes views → TicketsDiffer views → At views id v → v.serving ≡ true → v.noted ≡ false
      → (length log ≤ serving) × AreTurns stands serving (log ++ entry v e ∷ []) homes (set views id (with_note v e))
  turns_noted serving log homes views id v e r apart at is not_yet =
      let m = r.turn id v at is in
      let w : View = with_note v e in
      let more : List Noted = log ++ entry v e ∷ [] in
      let one = only_one serving log homes views id v r apart at m.queued m.ticket in
      let here : At (set views id w) id w = set_here views id w (at_inside views id v at) in
      let short : length log ≤ serving = ⊎_elim (λ (le : length log ≤ serving). le)
      (λ (t : (length log ≤ serving + 1) × ((i : ℕ) × (u : View) × At views i u × (u.serving ≡ true) × (u.noted ≡ true))). off v.noted not_yet (ap (λ (z : View). z.noted) (sym (one t.1.0 t.1.1 t.1.2 t.1.3).1) ∙ t.1.4)) r.pace in (
        short,
        record {
          turn = each_set (λ _ u. u.serving ≡ true → IsServed serving more u) views id w (λ j u other a s. absurd (other (one j u a s).0))
              (λ _. record { seated = m.seated; queued = m.queued; ticket = m.ticket; seen = ap (λ (l : List Noted). l ++ entry v e ∷ []) m.seen });
          pace = inr (omega (arith, length-append log (entry v e ∷ []), short), (id, w, here, is, refl));
          home = inr (turn_away serving log homes views id v r at is, (id, w, here, is));
        },
      )

  pub turns_passed : (serving : ℕ) (log : List Noted) (homes : Homes V) (views : List View) (id : ℕ) (v : View) (value : V) → AreTurns stands serving log homes views → TicketsDiffer views → At views id v → v.serving ≡ true → stands value log
      → AreTurns stands (serving + 1) log (some (Some value) ∷ []) (set views id (at_rest v))
  turns_passed serving log homes views id v value r apart at is right =
      let m = r.turn id v at is in
      let w : View = at_rest v in
      let one = only_one serving log homes views id v r apart at m.queued m.ticket in
      let calm : (j : ℕ) (u : View) (b : Bool) → u.serving ≡ b → j ≢ id → At views j u → b ≡ false = λ j u b. elim b as (λ c. u.serving ≡ c → j ≢ id → At views j u → c ≡ false) [ true ↦ λ s other a. absurd (other (one j u a s).0) | false ↦ λ _ _ _. refl ] in record {
        turn = each_set (λ _ u. u.serving ≡ true → IsServed (serving + 1) log u) views id w (λ j u other a s. absurd (other (one j u a s).0)) (λ h. off false refl h);
        pace = inl (⊎_elim (λ (le : length log ≤ serving). omega arith) (λ (t : (length log ≤ serving + 1) × ((i : ℕ) × (u : View) × At views i u × (u.serving ≡ true) × (u.noted ≡ true))). t.0) r.pace);
        home = inl (value, refl, right, each_set (λ _ u. u.serving ≡ false) views id w (λ j u other a. calm j u u.serving refl other a) refl);
      }
