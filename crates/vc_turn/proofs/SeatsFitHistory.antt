-- What the seats know goes on fitting the one history: each has seen a prefix of it, and remembers the places of its own
-- entries. A step of one seat leaves what the others know, and an entry of one adds no place to another.
use Rattle.std.proofs.Common.{◌≡◌, ◌≢◌, ◌⊎◌, ℕ, ◌+◌, ◌<◌, Bool, true, false, List, [], ◌∷◌, ◌++◌, length, set, refl, sym, ap, ◌∙◌, subst, inl, inr, ⊎_elim, arith, ◌≤◌, length-set}
use Rattle.std.proofs.lemmas.Bool.{cases_lt}
use Rattle.std.proofs.lemmas.List.{length_push}
use mathlib.Core.List.{IsPrefix}
use mathlib.Core.Logic.{dite}
use mathlib.Core.Option.{some-ne-none}
use native.Mathlib.Decide.{ℕ_discrete}
use Rattle.atomic_table.proofs.Lists.{at_last, at_longer, set_here, set_else}
use Rattle.vc_base.specs.Device.{DeviceEvent}
use Rattle.vc_turn.specs.declared.rule.Noted.{Noted}
use Rattle.vc_turn.specs.declared.rule.Kept.{Kept}
use Rattle.vc_turn.specs.declared.rule.View.{View}
use Rattle.vc_turn.specs.Rule.{At, IsKeptOf, Fits, HasSeenAll, HasListsOf, Somewhere, AreSeated, newcomer, left_over}
use Rattle.vc_turn.specs.Plays.{entry, with_note, with_one_more, next_seat, kept_of, beside}
use Rattle.vc_turn.proofs.ListsByPlace.{off, one_at, at_inside, at_more, each_set, each_more, apart_set, apart_more, prefix_more, prefix_is, places_own, places_other}

-- a seat whose number and lists stay, but for what it has seen
abbrev pub turned : View → Bool → ℕ → Bool → Bool → List Noted → View
turned v queued ticket serving noted seen = record v { queued = queued; ticket = ticket; serving = serving; noted = noted; seen = seen }

abbrev seated : View → Bool
seated v = v.seated

abbrev number : View → ℕ
number v = v.number

abbrev Gone : View → View → Type 0
Gone v w = v.seated ≡ true → w.seated ≡ true → (at : ℕ) (k : Kept) → At v.kept at k → k.number ≢ w.number

-- what holds of some view still does, where it passes from the one that changes to the one in its place
some_set : (P : View → Type 0) (views : List View) (id : ℕ) (v w : View) → Somewhere P views → At views id v → (P v → P w) → Somewhere P (set views id w)
some_set P views id v w s at pass = dite (ℕ_discrete s.0 id)
    (λ same. let is : s.1 ≡ v = one_at views id s.1 v (subst (λ (k : ℕ). At views k s.1) same s.2) at in
    (id, w, set_here views id w (at_inside views id v at), pass (subst P is s.3)))
    (λ other. (s.0, s.1, set_else views id s.0 w other ∙ s.2, s.3))

some_more : (P : View → Type 0) (views : List View) (new : View) → Somewhere P views → Somewhere P (views ++ new ∷ [])
some_more P views new s = (s.0, s.1, at_longer views (new ∷ []) s.0 s.1 s.2, s.3)

-- the same where one view takes over from another
some_joined : (P : View → Type 0) (views : List View) (id : ℕ) (v : View) (other : ℕ) (w x rest : View) → Somewhere P views → At views id v → At views other w → other ≢ id → (P v → P x) → (P w → P x) → Somewhere P (set (set views id x) other rest)
some_joined P views id v other w x rest s at there differs from_v from_w =
    let here : At (set (set views id x) other rest) id x = set_else (set views id x) other id rest (λ e. differs (sym e)) ∙ set_here views id x (at_inside views id v at) in
    dite (ℕ_discrete s.0 id)
    (λ same. let is : s.1 ≡ v = one_at views id s.1 v (subst (λ (k : ℕ). At views k s.1) same s.2) at in (id, x, here, from_v (subst P is s.3)))
    (λ not_id. dite (ℕ_discrete s.0 other)
    (λ same. let is : s.1 ≡ w = one_at views other s.1 w (subst (λ (k : ℕ). At views k s.1) same s.2) there in (id, x, here, from_w (subst P is s.3)))
    (λ not_other. (s.0, s.1, set_else (set views id x) other s.0 rest not_other ∙ (set_else views id s.0 x not_id ∙ s.2), s.3)))

pub seats_turned : (made : ℕ) (log : List Noted) (views : List View) (id : ℕ) (v : View) (queued : Bool) (ticket : ℕ) (serving noted : Bool) (seen : List Noted) → AreSeated made log views → At views id v
    → (seen ≡ v.seen) ⊎ (seen ≡ log) → AreSeated made log (set views id (turned v queued ticket serving noted seen))
seats_turned made log views id v queued ticket serving noted seen r at has =
    let w : View = turned v queued ticket serving noted seen in record {
      few = r.few;
      many = length-set views id w ∙ r.many;
      numbers = apart_set seated number views id w r.numbers (λ h j u other a hu same. other (sym (r.numbers id j v u at a h hu same)));
      fits = each_set (λ _ u. u.seated ≡ true → Fits made log u) views id w (λ j u _ a. r.fits j u a)
          (λ h. let f = r.fits id v at h in record {
            number = f.number;
            seen = ⊎_elim (λ (e : seen ≡ v.seen). subst (λ (l : List Noted). IsPrefix l log) (sym e) f.seen) (λ (e : seen ≡ log). prefix_is seen log e) has;
            mine = f.mine;
            count = f.count;
            kept = f.kept;
          });
      gone = λ i j x y ai aj.
          each_set (λ _ u. Gone u y) views id w
          (λ i' u _ a. each_set (λ _ z. Gone u z) views id w (λ j' z _ b. r.gone i' j' u z a b) (r.gone i' id u v a at) j y aj)
          (each_set (λ _ z. Gone w z) views id w (λ j' z _ b. r.gone id j' v z at b) (r.gone id id v v at at) j y aj)
          i x ai;
      made_all = λ n lt. some_set (HasListsOf n) views id v w (r.made_all n lt) at (λ h. h);
      unmade = r.unmade;
      longest = some_set (HasSeenAll log) views id v w r.longest at
          (λ (all : HasSeenAll log v). (all.0, ⊎_elim (λ (e : v.seen ≡ log). inl (⊎_elim (λ (o : seen ≡ v.seen). o ∙ e) (λ (o : seen ≡ log). o) has)) (λ k. inr k) all.1));
    }

-- an entry of another seat leaves what fits
kept_more : (made : ℕ) (log : List Noted) (e : Noted) (k : Kept) → IsKeptOf made log k → e.seat ≢ k.number → IsKeptOf made (log ++ e ∷ []) k
kept_more made log e k f differs = record {
  number = f.number;
  seen = prefix_more k.seen log (e ∷ []) f.seen;
  mine = places_other k.number log e differs ∙ f.mine;
}

fits_more : (made : ℕ) (log : List Noted) (e : Noted) (u : View) → Fits made log u → e.seat ≢ u.number → ((at : ℕ) (k : Kept) → At u.kept at k → e.seat ≢ k.number) → Fits made (log ++ e ∷ []) u
fits_more made log e u f differs kept_differs = record {
  number = f.number;
  seen = prefix_more u.seen log (e ∷ []) f.seen;
  mine = places_other u.number log e differs ∙ f.mine;
  count = f.count;
  kept = λ at k a. let x = f.kept at k a in (x.0, kept_more made log e k x.1 (kept_differs at k a));
}

pub seats_noted : (made : ℕ) (log : List Noted) (views : List View) (id : ℕ) (v : View) (e : DeviceEvent) → AreSeated made log views → At views id v → v.seated ≡ true → v.seen ≡ log
    → AreSeated made (log ++ entry v e ∷ []) (set views id (with_note v e))
seats_noted made log views id v e r at here all =
    let w : View = with_note v e in
    let x : Noted = entry v e in
    let fv = r.fits id v at here in record {
      few = r.few;
      many = length-set views id w ∙ r.many;
      numbers = apart_set seated number views id w r.numbers (λ h j u other a hu same. other (sym (r.numbers id j v u at a h hu same)));
      fits = each_set (λ _ u. u.seated ≡ true → Fits made (log ++ x ∷ []) u) views id w
          (λ j u other a hu. fits_more made log x u (r.fits j u a hu) (λ same. other (sym (r.numbers id j v u at a here hu same))) (λ p k b same. r.gone j id u v a at hu here p k b (sym same)))
          (λ _. record {
            number = fv.number;
            seen = prefix_is w.seen (log ++ x ∷ []) (ap (λ (l : List Noted). l ++ x ∷ []) all);
            mine = places_own v.number log x refl ∙ λ i. fv.mine i ++ length (sym all i) ∷ [];
            count = fv.count;
            kept = λ p k b. let o = fv.kept p k b in (o.0, kept_more made log x k o.1 (λ same. r.gone id id v v at at here here p k b (sym same)));
          });
      gone = λ i j y z ai aj.
          each_set (λ _ u. Gone u z) views id w
          (λ i' u _ a. each_set (λ _ t. Gone u t) views id w (λ j' t _ b. r.gone i' j' u t a b) (r.gone i' id u v a at) j z aj)
          (each_set (λ _ t. Gone w t) views id w (λ j' t _ b. r.gone id j' v t at b) (r.gone id id v v at at) j z aj)
          i y ai;
      made_all = λ n lt. some_set (HasListsOf n) views id v w (r.made_all n lt) at (λ h. h);
      unmade = λ n le. let lt = fv.number in places_other n log x (λ same. absurd (omega (arith, lt, le, same))) ∙ r.unmade n le;
      longest = (id, w, set_here views id w (at_inside views id v at), (here, inl (ap (λ (l : List Noted). l ++ x ∷ []) all)));
    }

pub seats_split : (made : ℕ) (log : List Noted) (views : List View) (id : ℕ) (v : View) → AreSeated made log views → At views id v → v.seated ≡ true → v.number ≡ 0 → v.made < 2048
    → AreSeated (made + 1) log (set views id (with_one_more v) ++ next_seat v ∷ [])
seats_split made log views id v r at here zeroth room =
    let w : View = with_one_more v in
    let new : View = next_seat v in
    let fv = r.fits id v at here in
    let count : v.made ≡ made = fv.count zeroth in
    let lt = fv.number in
    let kept_up : (k : Kept) → IsKeptOf made log k → IsKeptOf (made + 1) log k = λ k f. let b = f.number in record { number = omega (arith, b); seen = f.seen; mine = f.mine } in
    let P : ℕ → View → Type 0 = λ _ u. u.seated ≡ true → u.number < made in
    let below : (j : ℕ) (u : View) → At (set views id w) j u → P j u = each_set P views id w (λ j u _ a h. let f = r.fits j u a h in f.number) (λ _. lt) in record {
      few = omega (arith, count, room);
      many = length_push (set views id w) new ∙ ap (λ (n : ℕ). n + 1) (length-set views id w ∙ r.many);
      numbers = apart_more seated number (set views id w) new
          (apart_set seated number views id w r.numbers (λ h j u other a hu same. other (sym (r.numbers id j v u at a h hu same))))
          (λ j u a hu same. let b = below j u a hu in absurd (omega (arith, b, same, count)));
      fits = each_more (λ _ u. u.seated ≡ true → Fits (made + 1) log u) (set views id w) new
          (each_set (λ _ u. u.seated ≡ true → Fits (made + 1) log u) views id w
          (λ j u other a hu. let f = r.fits j u a hu in let b = f.number in record {
            number = omega (arith, b);
            seen = f.seen;
            mine = f.mine;
            count = λ z. absurd (other (sym (r.numbers id j v u at a here hu (zeroth ∙ sym z))));
            kept = λ p k q. let o = f.kept p k q in (o.0, kept_up k o.1);
          })
          (λ _. record {
            number = omega (arith, lt);
            seen = fv.seen;
            mine = fv.mine;
            count = λ _. ap (λ (n : ℕ). n + 1) count;
            kept = λ p k q. let o = fv.kept p k q in (o.0, kept_up k o.1);
          }))
          (λ _. record {
            number = omega (arith, count);
            seen = (log, refl);
            mine = r.unmade v.made (omega (arith, count));
            count = λ z. absurd (omega (arith, z, count, lt));
            kept = λ p k q. absurd (some-ne-none k (sym q));
          });
      gone = λ i j y z ai aj.
          each_more (λ _ u. Gone u z) (set views id w) new
          (λ i' u a. each_more (λ _ t. Gone u t) (set views id w) new
          (λ j' t b. each_set (λ _ u'. Gone u' t) views id w
          (λ i'' u' _ a'. each_set (λ _ t'. Gone u' t') views id w (λ j'' t' _ b'. r.gone i'' j'' u' t' a' b') (r.gone i'' id u' v a' at) j' t b)
          (each_set (λ _ t'. Gone w t') views id w (λ j'' t' _ b'. r.gone id j'' v t' at b') (r.gone id id v v at at) j' t b)
          i' u a)
          (each_set (λ _ u'. Gone u' new) views id w
          (λ i'' u' _ a' hu _ p k q same. let f = r.fits i'' u' a' hu in let o = f.kept p k q in let b = o.1.number in absurd (omega (arith, b, same, count)))
          (λ _ _ p k q same. let o = fv.kept p k q in let b = o.1.number in absurd (omega (arith, b, same, count)))
          i' u a)
          j z aj)
          (λ _ _ p k q. absurd (some-ne-none k (sym q)))
          i y ai;
      made_all = λ n lt. ⊎_elim
          (λ (below_made : n < made). some_more (HasListsOf n) (set views id w) new (some_set (HasListsOf n) views id v w (r.made_all n below_made) at (λ h. h)))
          (λ (up : made ≤ n). (length (set views id w), new, at_last (set views id w) new (length (set views id w)) refl, (refl, inl (omega (arith, count, up, lt)))))
          (cases_lt n made);
      unmade = λ n le. r.unmade n (omega arith);
      longest = some_more (HasSeenAll log) (set views id w) new (some_set (HasSeenAll log) views id v w r.longest at (λ h. h));
    }

pub seats_joined : (made : ℕ) (log : List Noted) (views : List View) (id : ℕ) (v : View) (other : ℕ) (w : View) → AreSeated made log views → At views id v → other ≢ id → At views other w → v.seated ≡ true → w.seated ≡ true → v.number ≡ 0
    → AreSeated made log (set (set views id (beside v w)) other left_over)
seats_joined made log views id v other w r at differs there here too zeroth =
    let x : View = beside v w in
    let fv = r.fits id v at here in
    let fw = r.fits other w there too in
    let not_zeroth : w.number ≢ 0 = λ z. differs (sym (r.numbers id other v w at there here too (zeroth ∙ sym z))) in
    let one : List View = set views id x in
    record {
      few = r.few;
      many = length-set one other left_over ∙ (length-set views id x ∙ r.many);
      numbers = apart_set seated number one other left_over
          (apart_set seated number views id x r.numbers (λ h j u apart a hu same. apart (sym (r.numbers id j v u at a h hu same))))
          (λ h. off false refl h);
      fits = each_set (λ _ u. u.seated ≡ true → Fits made log u) one other left_over
          (λ j u _ a. each_set (λ _ u'. u'.seated ≡ true → Fits made log u') views id x (λ j' u' _ a'. r.fits j' u' a')
          (λ _. record {
            number = fv.number;
            seen = fv.seen;
            mine = fv.mine;
            count = fv.count;
            kept = each_more (λ _ k. (v.number ≡ 0) × IsKeptOf made log k) v.kept (kept_of w) fv.kept (zeroth, record { number = fw.number; seen = fw.seen; mine = fw.mine });
          }) j u a)
          (λ h. off false refl h);
      gone = λ i j y z ai aj.
          each_set (λ _ u. Gone u z) one other left_over
          (λ i' u apart_i a. each_set (λ _ t. Gone u t) one other left_over
          (λ j' t apart_j b. each_set (λ n u'. n ≢ other → Gone u' t) views id x
          (λ i'' u' _ a' _. each_set (λ _ t'. Gone u' t') views id x (λ j'' t' _ b'. r.gone i'' j'' u' t' a' b') (r.gone i'' id u' v a' at) j' t b)
          (λ _. each_set (λ n t'. n ≢ other → Gone x t') views id x
          (λ j'' t' _ b' not_other _ ht. each_more (λ _ k. k.number ≢ t'.number) v.kept (kept_of w) (r.gone id j'' v t' at b' here ht) (λ same. not_other (sym (r.numbers other j'' w t' there b' too ht same))))
          (λ _ _ _. each_more (λ _ k. k.number ≢ v.number) v.kept (kept_of w) (r.gone id id v v at at here here) (λ same. not_zeroth (same ∙ zeroth)))
          j' t b apart_j)
          i' u a apart_i)
          (λ _ h. off false refl h) j z aj)
          (λ h. off false refl h) i y ai;
      made_all = λ n lt. some_joined (HasListsOf n) views id v other w x left_over (r.made_all n lt) at there differs
          (λ (has : HasListsOf n v). (here, ⊎_elim (λ (e : v.number ≡ n). inl e) (λ (k : (p : ℕ) × (q : Kept) × At v.kept p q × (q.number ≡ n)). inr (k.0, k.1, at_longer v.kept (kept_of w ∷ []) k.0 k.1 k.2, k.3)) has.1))
          (λ (has : HasListsOf n w). (here, ⊎_elim (λ (e : w.number ≡ n). inr (length v.kept, kept_of w, at_last v.kept (kept_of w) (length v.kept) refl, e)) (λ (k : (p : ℕ) × (q : Kept) × At w.kept p q × (q.number ≡ n)). absurd (not_zeroth (fw.kept k.0 k.1 k.2).0)) has.1));
      unmade = r.unmade;
      longest = some_joined (HasSeenAll log) views id v other w x left_over r.longest at there differs
          (λ (all : HasSeenAll log v). (here, ⊎_elim (λ (e : v.seen ≡ log). inl e) (λ (k : (p : ℕ) × (q : Kept) × At v.kept p q × (q.seen ≡ log)). inr (k.0, k.1, at_longer v.kept (kept_of w ∷ []) k.0 k.1 k.2, k.3)) all.1))
          (λ (all : HasSeenAll log w). (here, ⊎_elim (λ (e : w.seen ≡ log). inr (length v.kept, kept_of w, at_last v.kept (kept_of w) (length v.kept) refl, e)) (λ (k : (p : ℕ) × (q : Kept) × At w.kept p q × (q.seen ≡ log)). absurd (not_zeroth (fw.kept k.0 k.1 k.2).0)) all.1));
    }

-- the first seat
pub seats_one : AreSeated 1 [] (newcomer 0 1 ∷ [])
seats_one = record {
  few = omega arith;
  many = refl;
  numbers = λ i j x y a b _ _ _. (at_only i x a).0 ∙ sym (at_only j y b).0;
  fits = λ i u a _. subst (Fits 1 []) (at_only i u a).1 record {
    number = omega arith;
    seen = ([], refl);
    mine = refl;
    count = λ _. refl;
    kept = λ p k q. absurd (some-ne-none k (sym q));
  };
  gone = λ i j u z a b _ _ p k q. absurd (some-ne-none k (sym (subst (λ (x : View). At x.kept p k) (sym (at_only i u a).1) q)));
  made_all = λ n lt. (0, newcomer 0 1, refl, (refl, inl (omega arith)));
  unmade = λ _ _. refl;
  longest = (0, newcomer 0 1, refl, (refl, inl refl));
}
  where
    at_only : (i : ℕ) (u : View) → At (newcomer 0 1 ∷ []) i u → (i ≡ 0) × (newcomer 0 1 ≡ u)
    at_only i u a = ⊎_elim (λ (t : At [] i u). absurd (some-ne-none u (sym t))) (λ (t : (i ≡ 0) × (newcomer 0 1 ≡ u)). t) (at_more [] (newcomer 0 1) u i a)
