-- From the bytes that are kept everything that follows is found as from the first byte on. They begin at a place
-- where bytes can be cut, so the finds from there on are those of all bytes counted from it; and stamps are kept for
-- every position that a later find can have.
use Rattle.std.proofs.Common.{◌≡◌, ◌∙◌, sym, ap, refl, subst, ℕ, suc, zero, ◌+◌, ◌-◌, ◌%◌, ◌<◌, ◌≤◌, inl, inr, List, [], ◌∷◌, ◌++◌, length, drop, get_or, map, replicate, arith, add-zero, length-append, length-drop}
use Rattle.std.specs.Prelude.{◌⊎◌, Bool, true, false, nat_eq, nat_le, nat_lt, min, cond}
use Rattle.std.specs.List.{All}
use Rattle.std.specs.declared.option.Option.{Option}
use Rattle.std.specs.declared.option.Option.TheVariants.{Some, None}
use Rattle.std.proofs.lemmas.Bool.{cond-true, cases_lt, cases_eq}
use Rattle.std.proofs.lemmas.Bool.Decides.{nat_tests}
use Rattle.std.proofs.lemmas.List.{drop-append-le, drop-drop, append-nil, get_or-append_right, get_or_append_left, get_or-replicate, ext_get_or}
use Rattle.std.specs.List.{drop-map}
use Rattle.std.proofs.lemmas.List.FromFn.{length-map-range_with_len, get_or-map-range_with_len}
use Rattle.std.proofs.lemmas.List.Elements.{All-nil, All-cons, All-head, All-tail, All-append, All-drop}
use Rattle.vc_base.specs.declared.Stamp.{Stamp}
use Rattle.vc_base.specs.Buffers.{zero_stamp}
use Rattle.vc_defs.specs.declared.Header.{Header}
use Rattle.vc_defs.specs.Places.{Frame, OpenFrame, Places, places_from, places, moved_frame, moved_open, moved_places}
use Rattle.vc_defs.specs.Finds.{Find, Head, Ended, position_of, known_at, finds_unfinished, finds_in, finds, moved_find, stamp_in, first_of_tail, last_of_tail, kept_with, kept_before}
use Rattle.vc_defs.proofs.DecodedIsPicture.{all_weaker}
use Rattle.vc_defs.proofs.PlacesContinue.{many_turns, places_moved, tail_short}
use Rattle.vc_defs.proofs.FindsInOrder.{InOrder, in_order, AllAfter, order_after, finds_of, finds_stay}
use Rattle.vc_defs.proofs.ResultsInOrder.{all_inside}
use Rattle.vc_defs.proofs.PlacesBehindACut.{Heads, heads_more, HeadsPlaces, heads_places, Stop, where_is}

-- finds counted from earlier on
moved_in : (k : ℕ) (fs : List Frame) (u : Option OpenFrame) → finds_in (map (moved_frame k) fs) (moved_open k u) ≡ map (moved_find k) (finds_in fs u)
moved_in k [] None = refl
moved_in k [] (Some f) = refl
moved_in k (f ∷ fs) u = ap (λ t. Head (k + f.position) f.header ∷ Ended (moved_frame k f) ∷ t) (moved_in k fs u)

pub known_moved : (k : ℕ) (f : Find) → known_at (moved_find k f) ≡ k + known_at f
known_moved k (Head position h) = omega arith
known_moved k (Ended f) = refl

pub position_moved : (k : ℕ) (f : Find) → position_of (moved_find k f) ≡ k + position_of f
position_moved k (Head position h) = refl
position_moved k (Ended f) = refl

-- the places from a place on are those of what follows, counted from it
from_there : (limit at : ℕ) (bytes more : List ℕ) → at ≤ length bytes → places_from (length (bytes ++ more) + 1) limit (0 + at) (drop at bytes ++ more) ≡ moved_places at (places (drop at bytes ++ more) limit)
unfolding places
from_there limit at bytes more inside =
    let turns : length (bytes ++ more) + 1 ≡ length (drop at bytes ++ more) + 1 + at = omega (arith, length-append bytes more, length-append (drop at bytes) more, length-drop at bytes) in
    let cursor : 0 + at ≡ at + 0 = omega arith in
    ap (λ t. places_from t limit (0 + at) (drop at bytes ++ more)) turns
    ∙ many_turns at (length (drop at bytes ++ more) + 1) limit (0 + at) (drop at bytes ++ more) (omega arith)
    ∙ ap (λ k. places_from (length (drop at bytes ++ more) + 1) limit k (drop at bytes ++ more)) cursor
    ∙ places_moved (length (drop at bytes ++ more) + 1) limit at 0 (drop at bytes ++ more)

-- no whole header is kept; or one, which wasn't told; or one that was
abbrev pub Short : ℕ → List ℕ → ℕ → Type 0
Short limit bytes at = ((places bytes limit).tail ≡ drop at bytes) × (length (drop at bytes) < 44)

pub record Told (limit : ℕ) (bytes : List ℕ) (told at : ℕ) : Type 0 where
  pub header : Header
  pub heads : Heads limit (drop at bytes) header
  pub fewer : ℕ
  pub is : told ≡ suc fewer
  pub last : drop fewer (finds bytes limit) ≡ Head at header ∷ drop told (finds bytes limit)

-- Where so many finds were told: the bytes from a place on, and what is found from them on.
pub record Point (limit : ℕ) (bytes : List ℕ) (told : ℕ) : Type 0 where
  pub at : ℕ
  pub inside : at ≤ length bytes
  pub skipped : ℕ
  pub parity : told % 2 ≡ skipped
  pub finds_on : (more : List ℕ) → drop told (finds (bytes ++ more) limit) ≡ map (moved_find at) (drop skipped (finds (drop at bytes ++ more) limit))
  pub tail_on : (more : List ℕ) → (places (bytes ++ more) limit).tail ≡ (places (drop at bytes ++ more) limit).tail
  pub here : ((skipped ≡ 0) × Short limit bytes at) ⊎ (((skipped ≡ 0) × ((h : Header) × Heads limit (drop at bytes) h)) ⊎ ((skipped ≡ 1) × Told limit bytes told at))

-- what stands at the front of bytes with a header
pub heads_top : (limit : ℕ) (xs : List ℕ) (h : Header) → Heads limit xs h → HeadsPlaces 0 xs h (places xs limit)
unfolding places
heads_top limit xs h p =
    let turns : length xs + 1 ≡ suc (length xs) = omega arith in
    subst (λ (t : ℕ). HeadsPlaces 0 xs h (places_from t limit 0 xs)) (sym turns) (heads_places (length xs) limit 0 xs h p)

-- the first find there
pub first_find : (limit : ℕ) (xs : List ℕ) (h : Header) → Heads limit xs h → finds xs limit ≡ Head 0 h ∷ drop 1 (finds xs limit)
unfolding finds
first_find limit xs h p =
    elim (heads_top limit xs h p) [
      | inl a ↦
          let is : finds_of (places xs limit) ≡ Head 0 h ∷ [] = ap (λ fs. finds_in fs (places xs limit).unfinished) a.0 ∙ ap (λ u. finds_unfinished u) a.1 in
          is ∙ ap (λ t. Head 0 h ∷ drop 1 t) (sym is)
      | inr a ↦
          let is : finds_of (places xs limit) ≡ Head 0 h ∷ Ended a.0 ∷ finds_in a.1.0 (places xs limit).unfinished =
          ap (λ fs. finds_in fs (places xs limit).unfinished) a.1.1.0
          ∙ ap (λ k. Head k a.0.header ∷ Ended a.0 ∷ finds_in a.1.0 (places xs limit).unfinished) a.1.1.1
          ∙ ap (λ g. Head 0 g ∷ Ended a.0 ∷ finds_in a.1.0 (places xs limit).unfinished) a.1.1.2 in
          is ∙ ap (λ t. Head 0 h ∷ drop 1 t) (sym is)
    ]

finds_at_stop : (limit : ℕ) (bytes : List ℕ) (told : ℕ) (before : Places) (s : Stop limit 0 bytes told before) (more : List ℕ) → drop told (finds (bytes ++ more) limit) ≡ map (moved_find s.at) (finds (drop s.at bytes ++ more) limit)
unfolding finds places
finds_at_stop limit bytes told before s more =
    ap (λ p. drop told (finds_of p)) (s.goes_on (length (bytes ++ more) + 1) more (omega arith))
    ∙ s.count (places_from (length (bytes ++ more) + 1) limit (0 + s.at) (drop s.at bytes ++ more))
    ∙ ap (λ p. finds_of p) (from_there limit s.at bytes more s.inside)
    ∙ moved_in s.at (places (drop s.at bytes ++ more) limit).frames (places (drop s.at bytes ++ more) limit).unfinished

tail_at_stop : (limit : ℕ) (bytes : List ℕ) (told : ℕ) (before : Places) (s : Stop limit 0 bytes told before) (more : List ℕ) → (places (bytes ++ more) limit).tail ≡ (places (drop s.at bytes ++ more) limit).tail
unfolding places
tail_at_stop limit bytes told before s more =
    ap (λ (p : Places). p.tail) (s.goes_on (length (bytes ++ more) + 1) more (omega arith)) ∙ ap (λ (p : Places). p.tail) (from_there limit s.at bytes more s.inside)

dropped_once : {A : Type 0} (n : ℕ) (xs : List A) → drop (suc n) xs ≡ drop 1 (drop n xs)
dropped_once n xs = let e : suc n ≡ n + 1 = omega arith in ap (λ k. drop k xs) e ∙ sym (drop-drop 1 n xs)

-- There is such a place for each number of finds.
pub point_of : (limit : ℕ) (bytes : List ℕ) (told : ℕ) → told ≤ length (finds bytes limit) → Point limit bytes told
unfolding places finds
point_of limit bytes told h =
    elim (where_is (length bytes + 1) limit 0 bytes told (omega arith) h) [
      | inl s ↦
          record {
            at = s.at;
            inside = s.inside;
            skipped = 0;
            parity = s.even;
            finds_on = finds_at_stop limit bytes told (places bytes limit) s;
            tail_on = tail_at_stop limit bytes told (places bytes limit) s;
            here = elim s.here [ inl a ↦ inl (refl, a) | inr a ↦ inr (inl (refl, a)) ];
          }
      | inr b ↦
          let s = b.stop in
          record {
            at = s.at;
            inside = s.inside;
            skipped = 1;
            parity = omega (arith, b.is, s.even);
            finds_on = λ more.
                ap (λ n. drop n (finds (bytes ++ more) limit)) b.is
                ∙ dropped_once b.fewer (finds (bytes ++ more) limit)
                ∙ ap (λ t. drop 1 t) (finds_at_stop limit bytes b.fewer (places bytes limit) s more)
                ∙ drop-map (moved_find s.at) 1 (finds (drop s.at bytes ++ more) limit);
            tail_on = tail_at_stop limit bytes b.fewer (places bytes limit) s;
            here = inr (inr (
              refl,
              record {
                header = b.header;
                heads = b.heads;
                fewer = b.fewer;
                is = b.is;
                last = last b.fewer told s.at b.header b.is (at_end b.fewer s) (first_find limit (drop s.at bytes) b.header b.heads);
              },
            ));
          }
    ]
  where
    at_end : (n : ℕ) (s : Stop limit 0 bytes n (places bytes limit)) → drop n (finds bytes limit) ≡ map (moved_find s.at) (finds (drop s.at bytes) limit)
    at_end n s =
        ap (λ t. drop n (finds t limit)) (sym (append-nil bytes))
        ∙ finds_at_stop limit bytes n (places bytes limit) s []
        ∙ ap (λ t. map (moved_find s.at) (finds t limit)) (append-nil (drop s.at bytes))

    last : (n told at : ℕ) (g : Header) → told ≡ suc n → drop n (finds bytes limit) ≡ map (moved_find at) (finds (drop at bytes) limit) → finds (drop at bytes) limit ≡ Head 0 g ∷ drop 1 (finds (drop at bytes) limit) →
        drop n (finds bytes limit) ≡ Head at g ∷ drop told (finds bytes limit)
    last n told at g is all first =
        let here : drop n (finds bytes limit) ≡ Head (at + 0) g ∷ map (moved_find at) (drop 1 (finds (drop at bytes) limit)) = all ∙ ap (λ t. map (moved_find at) t) first in
        let later : drop told (finds bytes limit) ≡ map (moved_find at) (drop 1 (finds (drop at bytes) limit)) =
        ap (λ k. drop k (finds bytes limit)) is ∙ dropped_once n (finds bytes limit) ∙ ap (λ t. drop 1 t) here in
        here ∙ ap (λ k. Head k g ∷ map (moved_find at) (drop 1 (finds (drop at bytes) limit))) (add-zero at) ∙ ap (λ t. Head at g ∷ t) (sym later)

-- what was not told of bytes isn't known before their end
abbrev pub Pending : ℕ → List ℕ → ℕ → Type 0
Pending limit bytes told = All (λ f. length bytes ≤ known_at f) (drop told (finds bytes limit))

-- nor is what comes
pub late : (limit : ℕ) (bytes : List ℕ) (told : ℕ) (more : List ℕ) → told ≤ length (finds bytes limit) → Pending limit bytes told → All (λ f. length bytes ≤ known_at f) (drop told (finds (bytes ++ more) limit))
late limit bytes told more h p =
    let s = finds_stay limit bytes more in
    subst (λ (t : List Find). All (λ f. length bytes ≤ known_at f) t) (sym (ap (λ t. drop told t) s.1.0 ∙ drop-append-le told (finds bytes limit) s.0 h))
    (All-append (λ f. length bytes ≤ known_at f) (drop told (finds bytes limit)) s.0 p (all_weaker (λ f. length bytes < known_at f) (λ f. length bytes ≤ known_at f) s.0 (λ f h. omega arith) s.1.1))

-- what was not told is known, counted from the kept bytes, not before their end
pub late_there : (limit : ℕ) (bytes : List ℕ) (told : ℕ) (more : List ℕ) (p : Point limit bytes told) → told ≤ length (finds bytes limit) → Pending limit bytes told →
    All (λ f. length (drop p.at bytes) ≤ known_at f) (drop p.skipped (finds (drop p.at bytes ++ more) limit))
late_there limit bytes told more p h w =
    back (drop p.skipped (finds (drop p.at bytes ++ more) limit)) (subst (λ (t : List Find). All (λ f. length bytes ≤ known_at f) t) (p.finds_on more) (late limit bytes told more h w))
  where
    back : (fs : List Find) → All (λ f. length bytes ≤ known_at f) (map (moved_find p.at) fs) → All (λ f. length (drop p.at bytes) ≤ known_at f) fs
    back [] a = All-nil (λ f. length (drop p.at bytes) ≤ known_at f)
    back (f ∷ fs) a =
        let first : length bytes ≤ known_at (moved_find p.at f) = All-head (λ f. length bytes ≤ known_at f) (moved_find p.at f) (map (moved_find p.at) fs) a in
        All-cons (λ f. length (drop p.at bytes) ≤ known_at f) f fs (omega (arith, first, known_moved p.at f, length-drop p.at bytes, p.inside))
        (back fs (All-tail (λ f. length bytes ≤ known_at f) (moved_find p.at f) (map (moved_find p.at) fs) a))

-- positions whose stamps are kept
abbrev pub IsStamped : ℕ → ℕ → Type 0
IsStamped n q = (q ≡ 0) ⊎ (n ≤ q + 43)

order_positions : (m n : ℕ) (fs : List Frame) (u : Option OpenFrame) → InOrder m fs u → n ≤ m + 35 → All (λ f. IsStamped n (position_of f)) (finds_in fs u)
order_positions m n [] None o h = All-nil (λ f. IsStamped n (position_of f))
order_positions m n [] (Some f) o h = All-cons (λ f. IsStamped n (position_of f)) (Head f.position f.header) [] (inr (omega arith)) (All-nil (λ f. IsStamped n (position_of f)))
order_positions m n (f ∷ fs) u o h =
    All-cons (λ f. IsStamped n (position_of f)) (Head f.position f.header) (Ended f ∷ finds_in fs u) (inr (omega (arith, o.0)))
    (All-cons (λ f. IsStamped n (position_of f)) (Ended f) (finds_in fs u) (inr (omega (arith, o.0))) (order_positions f.known n fs u o.2 (omega (arith, o.0, o.1))))

all_positions : (n : ℕ) (fs : List Find) → n ≤ 44 → All (λ f. IsStamped n (position_of f)) fs
all_positions n [] h = All-nil (λ f. IsStamped n (position_of f))
all_positions n (f ∷ fs) h =
    All-cons (λ f. IsStamped n (position_of f)) f fs (elim (cases_eq (position_of f) 0) [ inl e ↦ inl e | inr ne ↦ inr (omega arith) ]) (all_positions n fs h)

-- All finds from the kept bytes on, and what is kept behind them, begin where stamps are kept.
pub record Reach (limit : ℕ) (kept more : List ℕ) : Type 0 where
  pub positions : All (λ f. IsStamped (length kept) (position_of f)) (finds (kept ++ more) limit)
  pub tail : (length (places (kept ++ more) limit).tail ≡ length (kept ++ more)) ⊎ (length kept + length (places (kept ++ more) limit).tail ≤ length (kept ++ more) + 43)

pub top_short : (limit : ℕ) (xs : List ℕ) → length (places xs limit).tail ≤ length xs
unfolding places
top_short limit xs = tail_short (length xs + 1) limit 0 xs

reach_small : (limit : ℕ) (kept more : List ℕ) → length kept ≤ 44 → Reach limit kept more
reach_small limit kept more h = record {
  positions = all_positions (length kept) (finds (kept ++ more) limit) h;
  tail =
      elim (cases_lt (length (places (kept ++ more) limit).tail) (length (kept ++ more)))
      [ inl l ↦ inr (omega arith) | inr l ↦ let short : length (places (kept ++ more) limit).tail ≤ length (kept ++ more) = top_short limit (kept ++ more) in inl (omega arith) ];
}

reach_told : (limit : ℕ) (kept more : List ℕ) (h : Header) → Heads limit kept h → All (λ f. length kept ≤ known_at f) (drop 1 (finds (kept ++ more) limit)) → Reach limit kept more
unfolding finds places
reach_told limit kept more h heads known =
    let xs : List ℕ = kept ++ more in
    let r = by_parts (places xs limit).frames (places xs limit).unfinished (places xs limit).tail (in_order (length xs + 1) limit 0 xs 0 (λ at e. omega arith)) known (heads_top limit xs h (heads_more limit kept more h heads)) in
    record { positions = r.0; tail = r.1 }
  where
    by_parts : (fs : List Frame) (u : Option OpenFrame) (tail : List ℕ) → InOrder 0 fs u → All (λ f. length kept ≤ known_at f) (drop 1 (finds_in fs u)) →
        ((fs ≡ []) × (u ≡ Some (record { position = 0; header = h })) × (tail ≡ kept ++ more))
        ⊎ ((f : Frame) × ((later : List Frame) × ((fs ≡ f ∷ later) × (f.position ≡ 0) × (f.header ≡ h) × (length tail + f.known ≤ 0 + length (kept ++ more) + 8))))
        →
        All (λ f. IsStamped (length kept) (position_of f)) (finds_in fs u) × ((length tail ≡ length (kept ++ more)) ⊎ (length kept + length tail ≤ length (kept ++ more) + 43))
    by_parts fs u tail o known (inl a) = (
      subst (λ (fs : List Frame). All (λ f. IsStamped (length kept) (position_of f)) (finds_in fs u)) (sym a.0)
          (subst (λ (u : Option OpenFrame). All (λ f. IsStamped (length kept) (position_of f)) (finds_in [] u)) (sym a.1)
          (All-cons (λ f. IsStamped (length kept) (position_of f)) (Head 0 h) [] (inl refl) (All-nil (λ f. IsStamped (length kept) (position_of f))))),
      inl (ap length a.2),
    )
    by_parts fs u tail o known (inr a) =
        let o' : InOrder 0 (a.0 ∷ a.1.0) u = subst (λ (fs : List Frame). InOrder 0 fs u) a.1.1.0 o in
        let known' = subst (λ (fs : List Frame). All (λ f. length kept ≤ known_at f) (drop 1 (finds_in fs u))) a.1.1.0 known in
        let first : length kept ≤ a.0.known = All-head (λ f. length kept ≤ known_at f) (Ended a.0) (finds_in a.1.0 u) known' in (
          subst (λ (fs : List Frame). All (λ f. IsStamped (length kept) (position_of f)) (finds_in fs u)) (sym a.1.1.0)
              (All-cons (λ f. IsStamped (length kept) (position_of f)) (Head a.0.position a.0.header) (Ended a.0 ∷ finds_in a.1.0 u) (inl a.1.1.1)
              (All-cons (λ f. IsStamped (length kept) (position_of f)) (Ended a.0) (finds_in a.1.0 u) (inl a.1.1.1) (order_positions a.0.known (length kept) a.1.0 u o'.2 (omega (arith, first))))),
          inr (omega (arith, a.1.1.3, first)),
        )

-- bytes without a whole header have no finds
no_finds : (limit : ℕ) (xs : List ℕ) → length xs < 44 → finds xs limit ≡ []
unfolding finds places
no_finds limit xs h =
    none (finds_of (places xs limit)) (all_inside limit xs) (order_after 8 43 (places xs limit).frames (places xs limit).unfinished (in_order (length xs + 1) limit 0 xs 8 (λ at e. omega arith)) (omega arith))
  where
    none : (fs : List Find) → All (λ f. known_at f ≤ length xs) fs → AllAfter 43 fs → fs ≡ []
    none [] a b = refl
    none (f ∷ fs) a b =
        let low : 43 < known_at f = All-head (λ f. 43 < known_at f) f fs b in
        let high : known_at f ≤ length xs = All-head (λ f. known_at f ≤ length xs) f fs a in
        absurd (omega arith)

-- what stands at the front of the kept bytes and wasn't told
Front : ℕ → List ℕ → List Find → Type 0
Front limit kept [] = (places kept limit).tail ≡ kept
Front limit kept (f ∷ fs) = position_of f ≡ 0

told_front : (limit : ℕ) (kept : List ℕ) (h : Header) → Heads limit kept h → Front limit kept (drop 1 (finds kept limit))
unfolding Front finds
told_front limit kept h heads =
    elim (heads_top limit kept h heads) [
      | inl a ↦
          subst (λ (t : List Find). Front limit kept (drop 1 t)) (sym (ap (λ fs. finds_in fs (places kept limit).unfinished) a.0 ∙ ap (λ u. finds_unfinished u) a.1)) a.2
      | inr a ↦ subst (λ (t : List Find). Front limit kept (drop 1 t)) (sym (ap (λ fs. finds_in fs (places kept limit).unfinished) a.1.1.0)) a.1.1.1
    ]

front_of_point : (limit : ℕ) (bytes : List ℕ) (told : ℕ) (p : Point limit bytes told) → Front limit (drop p.at bytes) (drop p.skipped (finds (drop p.at bytes) limit))
unfolding Front
front_of_point limit bytes told p =
    elim p.here [
      | inl a ↦
          let none : drop p.skipped (finds (drop p.at bytes) limit) ≡ [] = ap (λ k. drop k (finds (drop p.at bytes) limit)) a.0 ∙ no_finds limit (drop p.at bytes) a.1.1 in
          let tail : (places (drop p.at bytes) limit).tail ≡ drop p.at bytes =
          ap (λ t. (places t limit).tail) (sym (append-nil (drop p.at bytes))) ∙ sym (p.tail_on []) ∙ ap (λ t. (places t limit).tail) (append-nil bytes) ∙ a.1.0 in
          subst (λ (t : List Find). Front limit (drop p.at bytes) t) (sym none) tail
      | inr b ↦
          elim b [
            | inl a ↦
                let first : drop p.skipped (finds (drop p.at bytes) limit) ≡ Head 0 a.1.0 ∷ drop 1 (finds (drop p.at bytes) limit) = ap (λ k. drop k (finds (drop p.at bytes) limit)) a.0 ∙ first_find limit (drop p.at bytes) a.1.0 a.1.1 in
                subst (λ (t : List Find). Front limit (drop p.at bytes) t) (sym first) refl
            | inr a ↦ subst (λ (k : ℕ). Front limit (drop p.at bytes) (drop k (finds (drop p.at bytes) limit))) (sym a.0) (told_front limit (drop p.at bytes) a.1.header a.1.heads)
          ]
    ]

-- the finds of the bytes themselves
pub finds_here : (limit : ℕ) (bytes : List ℕ) (told : ℕ) (p : Point limit bytes told) → drop told (finds bytes limit) ≡ map (moved_find p.at) (drop p.skipped (finds (drop p.at bytes) limit))
finds_here limit bytes told p =
    ap (λ t. drop told (finds t limit)) (sym (append-nil bytes)) ∙ p.finds_on [] ∙ ap (λ t. map (moved_find p.at) (drop p.skipped (finds t limit))) (append-nil (drop p.at bytes))

-- The bytes to be kept are those from the place on.
pub kept_is : (limit : ℕ) (bytes : List ℕ) (told : ℕ) (p : Point limit bytes told) → kept_before limit bytes (drop told (finds bytes limit)) ≡ drop p.at bytes
unfolding Front
kept_is limit bytes told p =
    ap (λ t. kept_before limit bytes t) (finds_here limit bytes told p)
    ∙ by_front (drop p.skipped (finds (drop p.at bytes) limit)) (front_of_point limit bytes told p)
    (subst (λ (t : List Find). All (λ f. known_at f ≤ length bytes) t) (finds_here limit bytes told p) (All-drop (λ f. known_at f ≤ length bytes) told (finds bytes limit) (all_inside limit bytes)))
  where
    by_front : (fs : List Find) → Front limit (drop p.at bytes) fs → All (λ f. known_at f ≤ length bytes) (map (moved_find p.at) fs) → kept_before limit bytes (map (moved_find p.at) fs) ≡ drop p.at bytes
    by_front [] front a =
        ap (λ t. (places t limit).tail) (sym (append-nil bytes)) ∙ p.tail_on [] ∙ ap (λ t. (places t limit).tail) (append-nil (drop p.at bytes)) ∙ front
    by_front (f ∷ fs) front a =
        let known : known_at (moved_find p.at f) ≤ length bytes = All-head (λ f. known_at f ≤ length bytes) (moved_find p.at f) (map (moved_find p.at) fs) a in
        let position : position_of (moved_find p.at f) ≡ p.at = position_moved p.at f ∙ ap (λ k. p.at + k) front ∙ add-zero p.at in
        cond-true (nat_le (known_at (moved_find p.at f)) (length bytes)) (drop (position_of (moved_find p.at f)) bytes) (places bytes limit).tail (grind (arith, nat_tests))
        ∙ ap (λ k. drop k bytes) position

-- From the kept bytes on all begins where stamps are kept.
pub reach_of : (limit : ℕ) (bytes : List ℕ) (told : ℕ) (more : List ℕ) (p : Point limit bytes told) → told ≤ length (finds bytes limit) → Pending limit bytes told → Reach limit (drop p.at bytes) more
reach_of limit bytes told more p h w =
    elim p.here [
      | inl a ↦ reach_small limit (drop p.at bytes) more (omega (arith, a.1.1))
      | inr b ↦
          elim b [
            | inl a ↦
                let first : drop told (finds bytes limit) ≡ map (moved_find p.at) (Head 0 a.1.0 ∷ drop 1 (finds (drop p.at bytes) limit)) =
                finds_here limit bytes told p ∙ ap (λ k. map (moved_find p.at) (drop k (finds (drop p.at bytes) limit))) a.0 ∙ ap (λ t. map (moved_find p.at) t) (first_find limit (drop p.at bytes) a.1.0 a.1.1) in
                let known : length bytes ≤ p.at + 0 + 44 =
                All-head (λ f. length bytes ≤ known_at f) (Head (p.at + 0) a.1.0) (map (moved_find p.at) (drop 1 (finds (drop p.at bytes) limit))) (subst (λ (t : List Find). All (λ f. length bytes ≤ known_at f) t) first w) in
                reach_small limit (drop p.at bytes) more (omega (arith, known, length-drop p.at bytes))
            | inr a ↦
                reach_told limit (drop p.at bytes) more a.1.header a.1.heads
                (subst (λ (k : ℕ). All (λ f. length (drop p.at bytes) ≤ known_at f) (drop k (finds (drop p.at bytes ++ more) limit))) a.0 (late_there limit bytes told more p h w))
          ]
    ]

-- the stamps of bytes and of more, all of which have one stamp
abbrev pub stamps_with : List Stamp → Stamp → ℕ → ℕ → Stamp
stamps_with stamps stamp n p = get_or (stamps ++ replicate n stamp) p zero_stamp

abbrev pub stamps_alone : List Stamp → ℕ → Stamp
stamps_alone stamps p = get_or stamps p zero_stamp

first_is : (stamp : ℕ → Stamp) (end n : ℕ) → 0 < n → first_of_tail stamp end n ≡ stamp (end - n)
first_is stamp end zero h = absurd (omega arith)
first_is stamp end (suc n) h = refl

stamp_behind : (stamps : List Stamp) (stamp : Stamp) (n p : ℕ) → length stamps ≤ p → p < length stamps + n → stamps_with stamps stamp n p ≡ stamp
stamp_behind stamps stamp n p h k =
    get_or-append_right stamps (replicate n stamp) (length stamps) p zero_stamp refl h ∙ get_or-replicate n (p - length stamps) stamp zero_stamp (omega arith)

-- A stamp that is kept is that of the byte.
pub stamp_is : (stamps : List Stamp) (stamp : Stamp) (tail : List ℕ) (at n q : ℕ) → length stamps ≡ at + length tail → IsStamped (length tail) q → q < length tail + n →
    stamp_in (kept_with tail (length stamps) (stamps_alone stamps)) stamp q ≡ stamps_with stamps stamp n (at + q)
stamp_is stamps stamp tail at n zero long reach inside = by_empty (nat_eq (length tail) 0) refl
  where
    by_empty : (b : Bool) → nat_eq (length tail) 0 ≡ b → cond b stamp (first_of_tail (stamps_alone stamps) (length stamps) (length tail)) ≡ stamps_with stamps stamp n (at + 0)
    by_empty true e =
        let none : length tail ≡ 0 = grind (arith, nat_tests) in
        sym (stamp_behind stamps stamp n (at + 0) (omega arith) (omega arith))
    by_empty false e =
        let some : 0 < length tail = grind (arith, nat_tests) in
        let i : length stamps - length tail ≡ at + 0 = omega arith in
        first_is (stamps_alone stamps) (length stamps) (length tail) some
        ∙ ap (stamps_alone stamps) i
        ∙ sym (get_or_append_left stamps (replicate n stamp) zero_stamp (at + 0) (omega arith))
stamp_is stamps stamp tail at n (suc q) long reach inside = by_place (nat_lt (suc q) (length tail)) refl
  where
    count : ℕ
    count = min 43 (length tail)

    last : List Stamp
    last = last_of_tail (stamps_alone stamps) (length stamps) (length tail)

    far : IsStamped (length tail) (suc q) → length tail ≤ suc q + 43
    far (inl e) = absurd (omega arith)
    far (inr h) = h

    by_place : (b : Bool) → nat_lt (suc q) (length tail) ≡ b → cond b (get_or last (suc q - (length tail - length last)) stamp) stamp ≡ stamps_with stamps stamp n (at + suc q)
    by_place true e =
        let less : suc q < length tail = grind (arith, nat_tests) in
        let near : length tail ≤ suc q + 43 = far reach in
        let many : length last ≡ count = length-map-range_with_len (stamps_alone stamps) (length stamps - count) count in
        let i : suc q - (length tail - length last) ≡ suc q - (length tail - count) = ap (λ k. suc q - (length tail - k)) many in
        ap (λ k. get_or last k stamp) i
        ∙ get_or-map-range_with_len (stamps_alone stamps) (length stamps - count) count (suc q - (length tail - count)) (at + suc q) stamp (omega arith) (omega arith)
        ∙ sym (get_or_append_left stamps (replicate n stamp) zero_stamp (at + suc q) (omega arith))
    by_place false e =
        let more : length tail ≤ suc q = grind (arith, nat_tests) in
        sym (stamp_behind stamps stamp n (at + suc q) (omega arith) (omega arith))

-- What is kept of the kept bytes and more is what is kept of all of them.
pub kept_again : (stamps : List Stamp) (stamp : Stamp) (tail : List ℕ) (at n end : ℕ) (new : List ℕ) → length stamps ≡ at + length tail → length new ≤ end → length tail ≤ end → end ≤ length tail + n →
    (length new ≡ end) ⊎ (length tail + length new ≤ end + 43) →
    kept_with new end (stamp_in (kept_with tail (length stamps) (stamps_alone stamps)) stamp) ≡ kept_with new (at + end) (stamps_with stamps stamp n)
kept_again stamps stamp tail at n end new long short low high reach =
    ap (λ f. record { tail = new; first_stamp = f; last_stamps = last_of_tail old end (length new) }) (first (length new) short reach)
    ∙ ap (λ l. record { tail = new; first_stamp = first_of_tail (stamps_with stamps stamp n) (at + end) (length new); last_stamps = l }) last
  where
    old : ℕ → Stamp
    old = stamp_in (kept_with tail (length stamps) (stamps_alone stamps)) stamp

    count : ℕ
    count = min 43 (length new)

    first : (k : ℕ) → k ≤ end → (k ≡ end) ⊎ (length tail + k ≤ end + 43) → first_of_tail old end k ≡ first_of_tail (stamps_with stamps stamp n) (at + end) k
    first zero h r = refl
    first (suc k) h r =
        let i : at + (end - suc k) ≡ at + end - suc k = omega arith in
        stamp_is stamps stamp tail at n (end - suc k) long (elim r [ inl e ↦ inl (omega arith) | inr e ↦ inr (omega arith) ]) (omega arith)
        ∙ ap (stamps_with stamps stamp n) i

    at_place : (k : ℕ) → k < count → get_or (last_of_tail old end (length new)) k zero_stamp ≡ get_or (last_of_tail (stamps_with stamps stamp n) (at + end) (length new)) k zero_stamp
    at_place k h =
        let i : at + (end - count + k) ≡ at + end - count + k = omega arith in
        get_or-map-range_with_len old (end - count) count k (end - count + k) zero_stamp h refl
        ∙ stamp_is stamps stamp tail at n (end - count + k) long (inr (omega arith)) (omega arith)
        ∙ ap (stamps_with stamps stamp n) i
        ∙ sym (get_or-map-range_with_len (stamps_with stamps stamp n) (at + end - count) count k (at + end - count + k) zero_stamp h refl)

    last : last_of_tail old end (length new) ≡ last_of_tail (stamps_with stamps stamp n) (at + end) (length new)
    last =
        ext_get_or zero_stamp (last_of_tail old end (length new)) (last_of_tail (stamps_with stamps stamp n) (at + end) (length new))
        (length-map-range_with_len old (end - count) count ∙ sym (length-map-range_with_len (stamps_with stamps stamp n) (at + end - count) count))
        (λ k h. at_place k (omega (arith, h, length-map-range_with_len old (end - count) count)))
