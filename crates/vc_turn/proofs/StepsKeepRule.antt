-- Each step of the lock keeps its rule: drawing a ticket, looking, noting, ending the turn, and making and joining seats.
-- Each is put together from what it does to the line of tickets, to what the seats know, and to who is in its turn.
use Rattle.std.proofs.Common.{◌≡◌, ◌≢◌, ℕ, ◌+◌, ◌^◌, ◌%◌, ◌<◌, ◌≤◌, eqb, true, false, List, [], ◌∷◌, ◌++◌, length, get_or, Option, Some, set, refl, sym, ap, ◌∙◌, subst, inl, inr, ⊎_elim, arith, eq-eqb, ne_eqb, length-append}
use mathlib.Core.Logic.{dite}
use mathlib.Core.Option.{some, none, some-ne-none}
use native.Mathlib.Decide.{ℕ_discrete}
use lib.ListN.{get_elem?}
use lib.Seq.{set-get_or}
use prog.Atomic.{either}
use Rattle.atomic_table.specs.Table.{State, Me, step, keeps, takes, gives, stepped, Allows, Splits, Joins, opening}
use Rattle.atomic_table.proofs.Lists.{set_again, at_set}
use Rattle.vc_base.specs.Device.{DeviceEvent}
use Rattle.vc_turn.specs.declared.rule.Noted.{Noted}
use Rattle.vc_turn.specs.declared.rule.Kept.{Kept}
use Rattle.vc_turn.specs.declared.rule.View.{View}
use Rattle.vc_turn.specs.History.{places}
use Rattle.vc_turn.specs.Rule.{At, Fits, HasSeenAll, IsFree, IsTaken, AreTurns, IsOrderly, newcomer, left_over}
use Rattle.vc_turn.specs.Plays.{in_line, at_turn, entry, with_note, at_rest, with_one_more, next_seat, beside, draws, looks, notes, passes}
use Rattle.vc_turn.proofs.ListsByPlace.{off, one_at}
use Rattle.vc_turn.proofs.TicketsInLine.{line_same, line_drawn, line_passed, line_more, line_aside, line_one}
use Rattle.vc_turn.proofs.SeatsFitHistory.{seats_turned, seats_noted, seats_split, seats_joined, seats_one}
use Rattle.vc_turn.proofs.OneSeatInTurn.{turns_aside, turns_more, turns_looked, turn_away, turns_noted, turns_passed}

-- a count below the limit goes up by one
small_up : (n k : ℕ) → n ≡ k → k < 2 ^ 63 → (n + 1) % 2 ^ 64 ≡ k + 1
small_up n k e less = omega arith

module _ {V : Type 0} (stands : V → List Noted → Type 0) where
  abbrev Rule : State (Option V) View → Type 0
  Rule = IsOrderly stands

  abbrev St : Type 0
  St = State (Option V) View

  abbrev M : Type 0
  M = Me (Option V) View

  -- a step that changes nothing
  unmoved : (s : St) → Rule s → (i id : ℕ) (v : View) (carried : List (ℕ × Option V)) → At s.views id v → Rule (stepped s i (get_or s.words i 0) id carried v keeps)
  unmoved s r i id v carried at =
      subst (λ (x : List ℕ × List View). Rule record { words = x.0; homes = s.homes; views = x.1 }) (λ k. (sym (set-get_or s.words i 0) k, sym (set_again s.views id v at) k)) r

  -- draw
  pub drawing : (slots id : ℕ) (me : M) (t : ℕ) → t < 2 ^ 62 → me.0.queued ≡ false → me.0.serving ≡ false
      → Allows Rule slots id me 0 (λ n. either (eqb n t) (t + 1) n) (draws (step slots 0 t (t + 1) none) me)
  drawing slots id me t less idle calm s r _ at _ =
      let n : ℕ = get_or s.words 0 0 in
      let v : View = me.0 in
      let ticket : n ≡ r.ticket = ap (λ (ws : List ℕ). get_or ws 0 0) r.words in
      dite (ℕ_discrete n t)
      (λ hit. let w : View = in_line v n in let drawn : t + 1 ≡ r.ticket + 1 = omega arith in (
        w,
        keeps,
        tt,
        subst (λ b. Rule (stepped s 0 (either b (t + 1) n) id me.1 w keeps)) (sym (eq-eqb n t hit)) record {
          ticket = r.ticket + 1;
          serving = r.serving;
          made = r.made;
          log = r.log;
          words = (λ i. set (r.words i) 0 (drawn i));
          line = line_drawn r.serving r.ticket s.views id v w r.line at idle refl ticket (omega arith);
          seats = seats_turned r.made r.log s.views id v true n v.serving v.noted v.seen r.seats at (inl refl);
          turns = turns_aside stands r.serving r.log s.homes s.views id v w r.turns at calm calm;
        },
        ((λ _. refl), (λ miss. absurd (miss hit))),
      ))
      (λ miss. (
        v,
        keeps,
        tt,
        subst (λ b. Rule (stepped s 0 (either b (t + 1) n) id me.1 v keeps)) (sym (ne_eqb n t miss)) (unmoved s r 0 id v me.1 at),
        ((λ hit. absurd (miss hit)), (λ _. refl)),
      ))

  -- look
  pub looking : (slots id : ℕ) (me : M) → me.0.seated ≡ true → me.0.queued ≡ true → me.0.serving ≡ false
      → Allows Rule slots id me 1 (λ n. n) (looks stands (step slots 1 0 0 none) me)
  looking slots id me here queued calm s r _ at _ =
      let n : ℕ = get_or s.words 1 0 in
      let v : View = me.0 in
      let serving : n ≡ r.serving = ap (λ (ws : List ℕ). get_or ws 1 0) r.words in
      dite (ℕ_discrete n v.ticket)
      (λ hit.
      let w : View = at_turn v r.log in
      let t = turns_looked stands r.serving r.log s.homes s.views id v r.turns r.line.apart at here queued (sym hit ∙ serving) calm in
      let f = r.seats.fits id v at here in
      let b = r.line.waiting id v at queued in
      let limit = r.line.limit in (
        w,
        takes 0 (Some t.0),
        ap (λ (hs : List (mathlib.Core.Option.Option (Option V))). get_elem? hs 0) t.1,
        record {
          ticket = r.ticket;
          serving = r.serving;
          made = r.made;
          log = r.log;
          words = set-get_or s.words 1 0 ∙ r.words;
          line = line_same r.serving r.ticket s.views id v w r.line at refl refl;
          seats = seats_turned r.made r.log s.views id v v.queued v.ticket true false r.log r.seats at (inr refl);
          turns = subst (λ (hs : List (mathlib.Core.Option.Option (Option V))). AreTurns stands r.serving r.log hs (set s.views id w)) (sym (ap (λ (hs : List (mathlib.Core.Option.Option (Option V))). set hs 0 none) t.1)) t.4;
        },
        ((λ _. (t.0, r.log, refl, t.2, f.seen, f.mine, omega (arith, t.3, b.1, limit, hit, serving))), (λ miss. absurd (miss hit))),
      ))
      (λ miss. (v, keeps, tt, unmoved s r 1 id v me.1 at, ((λ hit. absurd (miss hit)), (λ _. refl))))

  -- note
  pub noting : (slots id : ℕ) (me : M) (e : DeviceEvent) → me.0.seated ≡ true → me.0.serving ≡ true → me.0.noted ≡ false
      → Allows Rule slots id me 2 (λ n. (n + 1) % 2 ^ 64) (notes e (step slots 2 1 0 none) me)
  noting slots id me e here is not_yet s r _ at _ =
      let v : View = me.0 in
      let w : View = with_note v e in
      let m = r.turns.turn id v at is in
      let t = turns_noted stands r.serving r.log s.homes s.views id v e r.turns r.line.apart at is not_yet in
      let b = r.line.waiting id v at m.queued in
      let limit = r.line.limit in
      let more : List Noted = r.log ++ entry v e ∷ [] in
      let count : get_or s.words 2 0 ≡ length r.log = ap (λ (ws : List ℕ). get_or ws 2 0) r.words in
      let up : (get_or s.words 2 0 + 1) % 2 ^ 64 ≡ length more = omega (arith, small_up (get_or s.words 2 0) (length r.log) count (omega (arith, t.0, b.0, b.1, limit)), length-append r.log (entry v e ∷ [])) in (
        w,
        keeps,
        tt,
        record {
          ticket = r.ticket;
          serving = r.serving;
          made = r.made;
          log = more;
          words = (λ i. set (r.words i) 2 (up i));
          line = line_same r.serving r.ticket s.views id v w r.line at refl refl;
          seats = seats_noted r.made r.log s.views id v e r.seats at here m.seen;
          turns = t.1;
        },
        refl,
      )

  -- pass on
  passing_at : (slots id : ℕ) (v : View) (value : V) → v.serving ≡ true → stands value v.seen
      → Allows Rule slots id (v, (0, Some value) ∷ []) 1 (λ n. (n + 1) % 2 ^ 64) (passes (step slots 1 1 0 none) (v, (0, Some value) ∷ []))
  passing_at slots id v value is right s r _ at _ =
      let w : View = at_rest v in
      let m = r.turns.turn id v at is in
      let b = r.line.waiting id v at m.queued in
      let limit = r.line.limit in
      let served = m.ticket in
      let n : get_or s.words 1 0 ≡ r.serving = ap (λ (ws : List ℕ). get_or ws 1 0) r.words in
      let up : (get_or s.words 1 0 + 1) % 2 ^ 64 ≡ r.serving + 1 = small_up (get_or s.words 1 0) r.serving n (omega (arith, b.0, b.1, limit)) in
      let away : s.homes ≡ none ∷ [] = turn_away stands r.serving r.log s.homes s.views id v r.turns at is in
      let t = turns_passed stands r.serving r.log s.homes s.views id v value r.turns r.line.apart at is (subst (stands value) m.seen right) in (
        w,
        gives,
        tt,
        record {
          ticket = r.ticket;
          serving = r.serving + 1;
          made = r.made;
          log = r.log;
          words = (λ i. set (r.words i) 1 (up i));
          line = line_passed r.serving r.ticket s.views id v w r.line at m.queued served refl;
          seats = seats_turned r.made r.log s.views id v false v.ticket false false v.seen r.seats at (inl refl);
          turns = subst (λ (hs : List (mathlib.Core.Option.Option (Option V))). AreTurns stands (r.serving + 1) r.log hs (set s.views id w)) (sym (ap (λ (hs : List (mathlib.Core.Option.Option (Option V))). set hs 0 (some (Some value))) away)) t;
        },
        refl,
      )

  pub passing : (slots id : ℕ) (me : M) (value : V) → me.0.serving ≡ true → stands value me.0.seen → me.1 ≡ (0, Some value) ∷ []
      → Allows Rule slots id me 1 (λ n. (n + 1) % 2 ^ 64) (passes (step slots 1 1 0 none) me)
  passing slots id me value is right carried =
      subst (λ (c : List (ℕ × Option V)). Allows Rule slots id (me.0, c) 1 (λ n. (n + 1) % 2 ^ 64) (passes (step slots 1 1 0 none) (me.0, c))) (sym carried) (passing_at slots id me.0 value is right)

  -- split
  pub splitting : (id : ℕ) (v : View) → v.seated ≡ true → v.serving ≡ false → v.number ≡ 0 → v.made < 2048 → Splits Rule id v (with_one_more v) (next_seat v)
  splitting id v here calm zeroth room s r at =
      let w : View = with_one_more v in
      let one : List View = set s.views id w in record {
        ticket = r.ticket;
        serving = r.serving;
        made = r.made + 1;
        log = r.log;
        words = r.words;
        line = line_more r.serving r.ticket one (next_seat v) (line_same r.serving r.ticket s.views id v w r.line at refl refl) refl;
        seats = seats_split r.made r.log s.views id v r.seats at here zeroth room;
        turns = turns_more stands r.serving r.log s.homes one (next_seat v) (turns_aside stands r.serving r.log s.homes s.views id v w r.turns at calm calm) refl;
      }

  -- join
  pub joining : (id : ℕ) (v : View) (other : ℕ) (w : View) → v.seated ≡ true → v.serving ≡ false → v.number ≡ 0 → w.seated ≡ true → w.serving ≡ false → w.queued ≡ false → Joins Rule id v other w (beside v w) left_over
  joining id v other w here calm zeroth too still idle s r at differs there =
      let x : View = beside v w in
      let one : List View = set s.views id x in
      let was : At s.views other w = ⊎_elim (λ (t : (other ≡ id) × (x ≡ w)). absurd (differs t.0)) (λ (t : (other ≢ id) × At s.views other w). t.1) (at_set s.views id other x w there) in record {
        ticket = r.ticket;
        serving = r.serving;
        made = r.made;
        log = r.log;
        words = r.words;
        line = line_aside r.serving r.ticket one other w left_over (line_same r.serving r.ticket s.views id v x r.line at refl refl) there idle refl;
        seats = seats_joined r.made r.log s.views id v other w r.seats at differs was here too zeroth;
        turns = turns_aside stands r.serving r.log s.homes one other w left_over (turns_aside stands r.serving r.log s.homes s.views id v x r.turns at calm calm) there still refl;
      }

  -- the table at the start
  pub opens : (value : V) → stands value [] → Rule (opening (0 ∷ 0 ∷ 0 ∷ []) (Some value ∷ []) (newcomer 0 1))
  opens value right = record {
    ticket = 0;
    serving = 0;
    made = 1;
    log = [];
    words = refl;
    line = line_one (newcomer 0 1) refl;
    seats = seats_one;
    turns = turns_more stands 0 [] (some (Some value) ∷ []) [] (newcomer 0 1) record {
      turn = λ i v a. absurd (some-ne-none v (sym a));
      pace = inl (omega arith);
      home = inl (value, refl, right, λ i v a. absurd (some-ne-none v (sym a)));
    } refl;
  }

  -- where seat 0 keeps all others, nobody is in its turn, and the slot is home
  pub closes : (s : St) → Rule s → (id : ℕ) (v : View) → At s.views id v → v.seated ≡ true → v.serving ≡ false → v.number ≡ 0
      → ((n : ℕ) → 0 < n → n < v.made → (p : ℕ) × (k : Kept) × At v.kept p k × (k.number ≡ n))
      → (log : List Noted) × (value : V) × (s.homes ≡ some (Some value) ∷ []) × stands value log × Fits v.made log v × HasSeenAll log v × (length log ≤ 2 ^ 62) × ((n : ℕ) → v.made ≤ n → places n log ≡ [])
  closes s r id v at here calm zeroth all =
      let f = r.seats.fits id v at here in
      let count : v.made ≡ r.made = f.count zeroth in
      let alone : (i : ℕ) (u : View) → At s.views i u → u.seated ≡ true → i ≡ id = λ i u a hu. dite (ℕ_discrete i id) (λ e. e)
      (λ other.
      let b = r.seats.fits i u a hu in
      let lt = b.number in
      let not_zeroth : u.number ≢ 0 = λ z. other (r.seats.numbers i id u v a at hu here (z ∙ sym zeroth)) in
      let k = all u.number (omega arith) (omega (arith, lt, count)) in
      absurd (r.seats.gone id i v u at a here hu k.0 k.1 k.2 k.3)) in
      let same : (i : ℕ) (u : View) → At s.views i u → u.seated ≡ true → u ≡ v = λ i u a hu. one_at s.views id u v (subst (λ (k : ℕ). At s.views k u) (alone i u a hu) a) at in
      let h : (value : V) × (s.homes ≡ some (Some value) ∷ []) × stands value r.log = ⊎_elim
      (λ (t : (value : V) × (s.homes ≡ some (Some value) ∷ []) × stands value r.log × IsFree s.views). (t.0, t.1, t.2))
      (λ (t : (s.homes ≡ none ∷ []) × IsTaken s.views). let m = r.turns.turn t.1.0 t.1.1 t.1.2 t.1.3 in off v.serving calm (ap (λ (z : View). z.serving) (sym (same t.1.0 t.1.1 t.1.2 m.seated)) ∙ t.1.3))
      r.turns.home in
      let limit = r.line.limit in
      let queue = r.line.queue in (
        r.log,
        h.0,
        h.1,
        h.2,
        subst (λ (n : ℕ). Fits n r.log v) (sym count) f,
        subst (HasSeenAll r.log) (same r.seats.longest.0 r.seats.longest.1 r.seats.longest.2 r.seats.longest.3.0) r.seats.longest.3,
        ⊎_elim (λ (le : length r.log ≤ r.serving). omega (arith, le, limit, queue))
            (λ (t : (length r.log ≤ r.serving + 1) × ((i : ℕ) × (u : View) × At s.views i u × (u.serving ≡ true) × (u.noted ≡ true))).
            let m = r.turns.turn t.1.0 t.1.1 t.1.2 t.1.3 in off v.serving calm (ap (λ (z : View). z.serving) (sym (same t.1.0 t.1.1 t.1.2 m.seated)) ∙ t.1.3))
            r.turns.pace,
        (λ n le. r.seats.unmade n (omega (arith, le, count))),
      )
