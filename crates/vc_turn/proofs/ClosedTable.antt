-- What the closed table says: its value stands for one history, which seat 0 and the seats that it keeps have seen, and whose
-- entries are theirs. No other seat is left then, so what the rule says of every seat says it of these.
use Rattle.std.proofs.Common.{◌≡◌, ℕ, ◌≤◌, ◌^◌, true, false, List, [], length, Option, Some, sym, ap, ◌∙◌, subst}
use mathlib.Core.Option.{some}
use lib.ListN.{get_elem?}
use Rattle.atomic_table.specs.Seated.{TableId}
use Rattle.atomic_table.specs.Table.{Final, Seen}
use Rattle.vc_turn.specs.declared.rule.Noted.{Noted}
use Rattle.vc_turn.specs.declared.rule.View.{View}
use Rattle.vc_turn.specs.History.{places}
use Rattle.vc_turn.specs.Rule.{At, Fits, HasSeenAll, IsOrderly}
use Rattle.vc_turn.specs.Place.{Place, place_of, KeepsAll, IsWholeOf}
use Rattle.vc_turn.proofs.StepsKeepRule.{closes}

whole : (log : List Noted) (turn : TableId) (v : View) → Fits v.made log v → HasSeenAll log v → length log ≤ 2 ^ 62 → ((n : ℕ) → v.made ≤ n → places n log ≡ []) → v.number ≡ 0 → IsWholeOf log (place_of turn v)
whole log turn v f all limit others zeroth = record {
  seen = f.seen;
  mine = ap (λ (n : ℕ). places n log) (sym zeroth) ∙ f.mine;
  kept_seen = λ at k a. let x = f.kept at k a in x.1.seen;
  kept_mine = λ at k a. let x = f.kept at k a in x.1.mine;
  others = others;
  longest = all.1;
  limit = limit;
}

pub closing : {V : Type 0} (stands : V → List Noted → Type 0) (turn : TableId) (words : List ℕ) (slots : List (Option V)) (id : ℕ) (v : View) (p : Place) → place_of turn v ≡ p → Final (Seen (IsOrderly stands) id v) words slots
    → v.seated ≡ true → (p.number ≡ 0) × (p.serving ≡ false) × KeepsAll p
    → (value : V) × At slots 0 (Some value) × ((log : List Noted) × stands value log × IsWholeOf log p)
closing {V} stands turn words slots id v p is final here asked =
    let s = final.0 in
    let c = closes stands s final.1.0 id v final.1.1 here (ap (λ (q : Place). q.serving) is ∙ asked.1) (ap (λ (q : Place). q.number) is ∙ asked.0) (subst KeepsAll (sym is) asked.2) in
    let home : At s.homes 0 (some (Some c.1)) = ap (λ (hs : List (mathlib.Core.Option.Option (Option V))). get_elem? hs 0) c.2 in (
      c.1,
      final.4 0 (Some c.1) home,
      (c.0, c.3, subst (IsWholeOf c.0) is (whole c.0 turn v c.4 c.5 c.6 c.7 (ap (λ (q : Place). q.number) is ∙ asked.0))),
    )
