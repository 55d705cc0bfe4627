-- Finds become known in the order in which they stand, and stay when the bytes go on. A frame begins at most eight
-- bytes before the one in front of it is known, and its header is known before its end is; so later finds are never
-- known earlier.
use Rattle.std.proofs.Common.{◌≡◌, ◌∙◌, sym, ap, refl, subst, ℕ, suc, zero, ◌+◌, ◌-◌, ◌<◌, ◌≤◌, List, [], ◌∷◌, ◌++◌, length, take, drop, arith, append_assoc, length-append, length-drop}
use Rattle.std.specs.Prelude.{Bool, true, false, nat_le, nat_lt, cond}
use Rattle.std.specs.List.{All}
use Rattle.std.specs.declared.option.Option.{Option}
use Rattle.std.specs.declared.option.Option.TheVariants.{Some, None}
use Rattle.std.proofs.lemmas.Option.{none-some}
use Rattle.std.proofs.lemmas.Bool.{cond-false}
use Rattle.std.proofs.lemmas.Bool.Decides.{nat_tests}
use Rattle.std.proofs.lemmas.List.{take-append-le, drop-append-le}
use Rattle.std.proofs.lemmas.List.Elements.{All-nil, All-cons}
use Rattle.vc_defs.specs.declared.Header.{Header}
use Rattle.vc_defs.specs.Headers.{header_from}
use Rattle.vc_defs.specs.Places.{first_magic, Look, nothing, begun, no_header, unended, cut, whole, look_behind, look_at_header, look_at, look_from, look}
use Rattle.vc_defs.specs.Places.{cursor_after, Frame, OpenFrame, Places, joined, frames_at, places_at, places_from, places}
use Rattle.vc_defs.specs.Finds.{Find, Head, Ended, known_at, finds_in, finds}
use Rattle.vc_defs.specs.Laws.{FindsStay}
use Rattle.vc_defs.proofs.BlocksAreRead.{some_same}
use Rattle.vc_defs.proofs.DecodedIsPicture.{all_weaker}
use Rattle.vc_defs.proofs.KnownPlacesStay.{magic_inside, magic_stays, magic_beyond, look_stays}
use Rattle.vc_defs.proofs.PlacesContinue.{Moves, look_moves, at_known}
use Rattle.vc_defs.proofs.NoMagicInHeaders.{inner_magic}

-- what a look has seen
abbrev pub Seen : ℕ → List ℕ → Look → Type 0
Seen limit bytes nothing = first_magic bytes ≡ None
Seen limit bytes (begun at) = (first_magic bytes ≡ Some at) × (length bytes < at + 44)
Seen limit bytes (no_header at) = (first_magic bytes ≡ Some at) × (at + 44 ≤ length bytes)
Seen limit bytes (unended at h) = (first_magic bytes ≡ Some at) × (at + 44 ≤ length bytes) × (header_from limit (take 44 (drop at bytes)) ≡ Some h)
Seen limit bytes (cut at h inner) =
    (first_magic bytes ≡ Some at) × (at + 44 ≤ length bytes) × (header_from limit (take 44 (drop at bytes)) ≡ Some h) × (at + 49 ≤ inner + 8) × (inner + 8 ≤ length bytes)
Seen limit bytes (whole at h body) =
    (first_magic bytes ≡ Some at) × (at + 44 ≤ length bytes) × (header_from limit (take 44 (drop at bytes)) ≡ Some h) × (at + 44 + h.size ≤ length bytes)
    × (body ≡ take h.size (drop 44 (drop at bytes)))

pub seen : (limit : ℕ) (bytes : List ℕ) → Seen limit bytes (look limit bytes)
unfolding look
seen limit bytes = by_magic (first_magic bytes) refl
  where
    by_end : (at : ℕ) (h : Header) (b : Bool) → first_magic bytes ≡ Some at → at + 44 ≤ length bytes → header_from limit (take 44 (drop at bytes)) ≡ Some h → nat_le (44 + h.size) (length (drop at bytes)) ≡ b →
        Seen limit bytes (cond b (whole at h (take h.size (drop 44 (drop at bytes)))) (unended at h))
    by_end at h true m long is t =
        let there : 44 + h.size ≤ length (drop at bytes) = grind (arith, nat_tests) in
        (m, long, is, omega (arith, there, length-drop at bytes), refl)
    by_end at h false m long is t = (m, long, is)

    by_cut : (at : ℕ) (h : Header) (n : ℕ) (b : Bool) → first_magic bytes ≡ Some at → at + 44 ≤ length bytes → header_from limit (take 44 (drop at bytes)) ≡ Some h → first_magic (drop 8 (drop at bytes)) ≡ Some n →
        Seen limit bytes (cond b (cut at h (at + 8 + n)) (cond (nat_le (44 + h.size) (length (drop at bytes))) (whole at h (take h.size (drop 44 (drop at bytes)))) (unended at h)))
    by_cut at h n true m long is e =
        let late : 33 ≤ n = inner_magic limit h (drop at bytes) n is e in
        let inside : n + 8 ≤ length (drop 8 (drop at bytes)) = magic_inside (drop 8 (drop at bytes)) n e in
        (m, long, is, omega arith, omega (arith, inside, length-drop 8 (drop at bytes), length-drop at bytes))
    by_cut at h n false m long is e = by_end at h (nat_le (44 + h.size) (length (drop at bytes))) m long is refl

    by_inner :
        (at : ℕ) (h : Header) (o : Option ℕ) → first_magic bytes ≡ Some at → at + 44 ≤ length bytes
        → header_from limit (take 44 (drop at bytes)) ≡ Some h → first_magic (drop 8 (drop at bytes)) ≡ o
        → Seen limit bytes (look_behind at h (drop at bytes) o)
    by_inner at h None m long is e = by_end at h (nat_le (44 + h.size) (length (drop at bytes))) m long is refl
    by_inner at h (Some n) m long is e = by_cut at h n (nat_le (8 + n + 8) (44 + h.size)) m long is e

    by_header : (at : ℕ) (o : Option Header) → first_magic bytes ≡ Some at → at + 44 ≤ length bytes → header_from limit (take 44 (drop at bytes)) ≡ o → Seen limit bytes (look_at_header at (drop at bytes) o)
    by_header at None m long is = (m, long)
    by_header at (Some h) m long is = by_inner at h (first_magic (drop 8 (drop at bytes))) m long is refl

    by_length : (at : ℕ) (b : Bool) → first_magic bytes ≡ Some at → nat_lt (length (drop at bytes)) 44 ≡ b → Seen limit bytes (cond b (begun at) (look_at_header at (drop at bytes) (header_from limit (take 44 (drop at bytes)))))
    by_length at true m t = let short : length (drop at bytes) < 44 = grind (arith, nat_tests) in (m, omega (arith, short, length-drop at bytes))
    by_length at false m t =
        let enough : 44 ≤ length (drop at bytes) = grind (arith, nat_tests) in
        by_header at (header_from limit (take 44 (drop at bytes))) m (omega (arith, enough, length-drop at bytes)) refl

    by_magic : (o : Option ℕ) → first_magic bytes ≡ o → Seen limit bytes (look_from limit bytes o)
    by_magic None e = e
    by_magic (Some at) e = by_length at (nat_lt (length (drop at bytes)) 44) e refl

-- Each frame begins at most eight bytes before the one in front of it is known, and has its header before it is known.
abbrev pub InOrder : ℕ → List Frame → Option OpenFrame → Type 0
InOrder n [] None = Unit {0}
InOrder n [] (Some o) = n ≤ o.position + 8
InOrder n (f ∷ fs) u = (n ≤ f.position + 8) × (f.position + 44 ≤ f.known) × InOrder f.known fs u

abbrev pub AreInOrder : ℕ → Places → Type 0
AreInOrder n p = InOrder n p.frames p.unfinished

pub in_order : (t limit c : ℕ) (bytes : List ℕ) (n : ℕ) → ((at : ℕ) → first_magic bytes ≡ Some at → n ≤ c + at + 8) → AreInOrder n (places_from t limit c bytes)
in_order zero limit c bytes n start = tt
in_order (suc t) limit c bytes n start = by_look (look limit bytes) (seen limit bytes) (λ k m h. in_order t limit (c + k) (drop k bytes) m (λ at e. omega (arith, h)))
  where
    by_look : (l : Look) → Seen limit bytes l → ((k m : ℕ) → m ≤ c + k + 8 → AreInOrder m (places_from t limit (c + k) (drop k bytes))) → AreInOrder n (places_at c bytes (λ k. places_from t limit (c + k) (drop k bytes)) l)
    by_look nothing s next = tt
    by_look (begun at) s next = tt
    by_look (no_header at) s next = let h : n ≤ c + at + 8 = start at s.0 in next (at + 8) n (omega arith)
    by_look (unended at h) s next = start at s.0
    by_look (cut at h inner) s next = (start at s.0, omega (arith, s.3), next inner (c + inner + 8) (omega arith))
    by_look (whole at h body) s next = (start at s.0, omega arith, next (at + 44 + h.size - 7) (c + at + 44 + h.size) (omega arith))

-- what is known later than a place
abbrev pub AllAfter : ℕ → List Find → Type 0
AllAfter n fs = All (λ f. n < known_at f) fs

pub order_after : (m n : ℕ) (fs : List Frame) (u : Option OpenFrame) → InOrder m fs u → n < m + 36 → AllAfter n (finds_in fs u)
order_after m n [] None o h = All-nil (λ f. n < known_at f)
order_after m n [] (Some f) o h = All-cons (λ f. n < known_at f) (Head f.position f.header) [] (omega arith) (All-nil (λ f. n < known_at f))
order_after m n (f ∷ fs) u o h =
    let head : n < f.position + 44 = omega (arith, o.0) in
    let end : n < f.known = omega (arith, head, o.1) in
    All-cons (λ f. n < known_at f) (Head f.position f.header) (Ended f ∷ finds_in fs u) head
    (All-cons (λ f. n < known_at f) (Ended f) (finds_in fs u) end (order_after f.known n fs u o.2 (omega (arith, end))))

abbrev pub finds_of : Places → List Find
finds_of p = finds_in p.frames p.unfinished

-- the finds of frames in a row
pub finds_append : (fs gs : List Frame) (u : Option OpenFrame) → finds_in (fs ++ gs) u ≡ finds_in fs None ++ finds_in gs u
finds_append [] gs u = refl
finds_append (f ∷ fs) gs u = ap (λ t. Head f.position f.header ∷ Ended f ∷ t) (finds_append fs gs u)

-- all is known at the end
pub finds_inside : (t limit c : ℕ) (bytes : List ℕ) → All (λ f. known_at f ≤ c + length bytes) (finds_of (places_from t limit c bytes))
finds_inside zero limit c bytes = All-nil (λ f. known_at f ≤ c + length bytes)
finds_inside (suc t) limit c bytes =
    by_look (look limit bytes) (seen limit bytes)
    (λ n e. let m : Moves n bytes = look_moves limit bytes n e in
    all_weaker (λ f. known_at f ≤ c + n + length (drop n bytes)) (λ f. known_at f ≤ c + length bytes)
    (finds_of (places_from t limit (c + n) (drop n bytes))) (λ f h. omega (arith, h, m.1, length-drop n bytes))
    (finds_inside t limit (c + n) (drop n bytes)))
  where
    by_look : (l : Look) → Seen limit bytes l → ((n : ℕ) → cursor_after l ≡ Some n → All (λ f. known_at f ≤ c + length bytes) (finds_of (places_from t limit (c + n) (drop n bytes)))) →
        All (λ f. known_at f ≤ c + length bytes) (finds_of (places_at c bytes (λ k. places_from t limit (c + k) (drop k bytes)) l))
    by_look nothing s next = All-nil (λ f. known_at f ≤ c + length bytes)
    by_look (begun at) s next = All-nil (λ f. known_at f ≤ c + length bytes)
    by_look (no_header at) s next = next (at + 8) refl
    by_look (unended at h) s next = All-cons (λ f. known_at f ≤ c + length bytes) (Head (c + at) h) [] (omega (arith, s.1)) (All-nil (λ f. known_at f ≤ c + length bytes))
    by_look (cut at h inner) s next =
        All-cons (λ f. known_at f ≤ c + length bytes) (Head (c + at) h)
        (Ended (record { position = c + at; end = c + inner; header = h; body = None; known = c + inner + 8 }) ∷ finds_of (places_from t limit (c + inner) (drop inner bytes)))
        (omega (arith, s.1))
        (All-cons (λ f. known_at f ≤ c + length bytes)
        (Ended (record { position = c + at; end = c + inner; header = h; body = None; known = c + inner + 8 }))
        (finds_of (places_from t limit (c + inner) (drop inner bytes))) (omega (arith, s.4)) (next inner refl))
    by_look (whole at h body) s next =
        All-cons (λ f. known_at f ≤ c + length bytes) (Head (c + at) h)
        (Ended (record { position = c + at; end = c + at + 44 + h.size; header = h; body = Some body; known = c + at + 44 + h.size })
        ∷ finds_of (places_from t limit (c + (at + 44 + h.size - 7)) (drop (at + 44 + h.size - 7) bytes)))
        (omega (arith, s.1))
        (All-cons (λ f. known_at f ≤ c + length bytes)
        (Ended (record { position = c + at; end = c + at + 44 + h.size; header = h; body = Some body; known = c + at + 44 + h.size }))
        (finds_of (places_from t limit (c + (at + 44 + h.size - 7)) (drop (at + 44 + h.size - 7) bytes))) (omega (arith, s.3))
        (next (at + 44 + h.size - 7) refl))

-- A frame whose header is known and that wasn't is known later, if at all.
abbrev pub EndsLater : ℕ → ℕ → Header → Look → Type 0
EndsLater n at h nothing = ⊥
EndsLater n at h (begun at') = ⊥
EndsLater n at h (no_header at') = ⊥
EndsLater n at h (unended at' h') = (at' ≡ at) × (h' ≡ h)
EndsLater n at h (cut at' h' inner) = (at' ≡ at) × (h' ≡ h) × (n < inner + 8)
EndsLater n at h (whole at' h' body) = (at' ≡ at) × (h' ≡ h) × (n < at + 44 + h.size)

behind_ends :
    (n at : ℕ) (h : Header) (xs more : List ℕ) (o : Option ℕ) → n ≡ at + length xs → length xs < 44 + h.size
    → ((m : ℕ) → o ≡ Some m → nat_le (8 + m + 8) (44 + h.size) ≡ true → length xs < 8 + m + 8) → EndsLater n at h (look_behind at h (xs ++ more) o)
behind_ends n at h xs more None is short beyond = by_end (nat_le (44 + h.size) (length (xs ++ more)))
  where
    by_end : (b : Bool) → EndsLater n at h (cond b (whole at h (take h.size (drop 44 (xs ++ more)))) (unended at h))
    by_end true = (refl, refl, omega arith)
    by_end false = (refl, refl)
behind_ends n at h xs more (Some m) is short beyond = by_cut (nat_le (8 + m + 8) (44 + h.size)) refl
  where
    by_end : (b : Bool) → EndsLater n at h (cond b (whole at h (take h.size (drop 44 (xs ++ more)))) (unended at h))
    by_end true = (refl, refl, omega arith)
    by_end false = (refl, refl)

    by_cut : (b : Bool) → nat_le (8 + m + 8) (44 + h.size) ≡ b → EndsLater n at h (cond b (cut at h (at + 8 + m)) (cond (nat_le (44 + h.size) (length (xs ++ more))) (whole at h (take h.size (drop 44 (xs ++ more)))) (unended at h)))
    by_cut true t = let far : length xs < 8 + m + 8 = beyond m refl t in (refl, refl, omega arith)
    by_cut false t = by_end (nat_le (44 + h.size) (length (xs ++ more)))

-- what an undecided look behind a header says
unended_says : (at : ℕ) (h : Header) (xs : List ℕ) (o : Option ℕ) → cursor_after (look_behind at h xs o) ≡ None → (length xs < 44 + h.size) × ((m : ℕ) → o ≡ Some m → nat_le (8 + m + 8) (44 + h.size) ≡ false)
unended_says at h xs o e = by_cut o e
  where
    by_end : (b : Bool) → nat_le (44 + h.size) (length xs) ≡ b → cursor_after (cond b (whole at h (take h.size (drop 44 xs))) (unended at h)) ≡ None → length xs < 44 + h.size
    by_end true t e = absurd (none-some (at + 44 + h.size - 7) (sym e))
    by_end false t e = grind (arith, nat_tests)

    by_test : (m : ℕ) (b : Bool) → nat_le (8 + m + 8) (44 + h.size) ≡ b → cursor_after (cond b (cut at h (at + 8 + m)) (cond (nat_le (44 + h.size) (length xs)) (whole at h (take h.size (drop 44 xs))) (unended at h))) ≡ None →
        (length xs < 44 + h.size) × ((k : ℕ) → Some m ≡ Some k → nat_le (8 + k + 8) (44 + h.size) ≡ false)
    by_test m true t e = absurd (none-some (at + 8 + m) (sym e))
    by_test m false t e = (by_end (nat_le (44 + h.size) (length xs)) refl e, λ k is. ap (λ i. nat_le (8 + i + 8) (44 + h.size)) (sym (some_same m k is)) ∙ t)

    by_cut : (o : Option ℕ) → cursor_after (look_behind at h xs o) ≡ None → (length xs < 44 + h.size) × ((m : ℕ) → o ≡ Some m → nat_le (8 + m + 8) (44 + h.size) ≡ false)
    by_cut None e = (by_end (nat_le (44 + h.size) (length xs)) refl e, λ m is. absurd (none-some m is))
    by_cut (Some m) e = by_test m (nat_le (8 + m + 8) (44 + h.size)) refl e

pub ends_later : (limit at : ℕ) (h : Header) (bytes more : List ℕ) → Seen limit bytes (unended at h) → cursor_after (look limit bytes) ≡ None → EndsLater (length bytes) at h (look limit (bytes ++ more))
unfolding look
ends_later limit at h bytes more s e =
    let inside : at + 8 ≤ length bytes = magic_inside bytes at s.0 in
    let enough : 44 ≤ length (drop at bytes) = omega (arith, s.1, length-drop at bytes) in
    let enough' : 44 ≤ length (drop at bytes ++ more) = omega (arith, enough, length-append (drop at bytes) more) in
    let here : look_from limit bytes (first_magic bytes) ≡ look_behind at h (drop at bytes) (first_magic (drop 8 (drop at bytes))) =
    ap (λ o. look_from limit bytes o) s.0
    ∙ cond-false (nat_lt (length (drop at bytes)) 44) (begun at) (look_at_header at (drop at bytes) (header_from limit (take 44 (drop at bytes)))) (grind (arith, nat_tests))
    ∙ ap (λ o. look_at_header at (drop at bytes) o) s.2 in
    let there : look_from limit (bytes ++ more) (first_magic (bytes ++ more)) ≡ look_behind at h (drop at bytes ++ more) (first_magic (drop 8 (drop at bytes) ++ more)) =
    ap (λ o. look_from limit (bytes ++ more) o) (magic_stays bytes more at s.0)
    ∙ ap (λ t. look_at limit at t) (drop-append-le at bytes more (omega arith))
    ∙ cond-false (nat_lt (length (drop at bytes ++ more)) 44) (begun at) (look_at_header at (drop at bytes ++ more) (header_from limit (take 44 (drop at bytes ++ more)))) (grind (arith, nat_tests))
    ∙ ap (λ t. look_at_header at (drop at bytes ++ more) (header_from limit t)) (take-append-le 44 (drop at bytes) more enough)
    ∙ ap (λ o. look_at_header at (drop at bytes ++ more) o) s.2
    ∙ ap (λ t. look_behind at h (drop at bytes ++ more) (first_magic t)) (drop-append-le 8 (drop at bytes) more (omega arith)) in
    let says = unended_says at h (drop at bytes) (first_magic (drop 8 (drop at bytes))) (ap (λ l. cursor_after l) (sym here) ∙ e) in
    subst (λ (l : Look). EndsLater (length bytes) at h l) (sym there)
    (behind_ends (length bytes) at h (drop at bytes) more (first_magic (drop 8 (drop at bytes) ++ more)) (omega (arith, length-drop at bytes)) says.0 (λ m is t. beyond m (first_magic (drop 8 (drop at bytes))) refl says.1 is t))
  where
    beyond :
        (m : ℕ) (o : Option ℕ) → first_magic (drop 8 (drop at bytes)) ≡ o → ((k : ℕ) → o ≡ Some k → nat_le (8 + k + 8) (44 + h.size) ≡ false)
        → first_magic (drop 8 (drop at bytes) ++ more) ≡ Some m → nat_le (8 + m + 8) (44 + h.size) ≡ true → length (drop at bytes) < 8 + m + 8
    beyond m None is says e t =
        let far : length (drop 8 (drop at bytes)) < m + 8 = magic_beyond (drop 8 (drop at bytes)) more m is e in
        omega (arith, far, length-drop 8 (drop at bytes))
    beyond m (Some k) is says e t =
        let same : k ≡ m = some_same k m (sym (magic_stays (drop 8 (drop at bytes)) more k is) ∙ e) in
        let clash : false ≡ true = sym (says k refl) ∙ ap (λ i. nat_le (8 + i + 8) (44 + h.size)) same ∙ t in
        absurd cc

-- the finds of more bytes are those of fewer, and then some that are known later
abbrev pub Stays : ℕ → List Find → List Find → Type 0
Stays n longer shorter = (later : List Find) × ((longer ≡ shorter ++ later) × AllAfter n later)

-- behind a header whose frame wasn't known
stays_unended : (limit c at : ℕ) (h : Header) (bytes more : List ℕ) (next : ℕ → Places) (l : Look) → EndsLater (length bytes) at h l → ((k m : ℕ) → m ≤ c + k + 8 → AreInOrder m (next k)) →
    Stays (c + length bytes) (finds_of (places_at c (bytes ++ more) next l)) (Head (c + at) h ∷ [])
stays_unended limit c at h bytes more next nothing s o = absurd s
stays_unended limit c at h bytes more next (begun at') s o = absurd s
stays_unended limit c at h bytes more next (no_header at') s o = absurd s
stays_unended limit c at h bytes more next (unended at' h') s o =
    ([], (ap (λ k. Head (c + k) h' ∷ []) s.0 ∙ ap (λ g. Head (c + at) g ∷ []) s.1, All-nil (λ f. c + length bytes < known_at f)))
stays_unended limit c at h bytes more next (cut at' h' inner) s o =
    let f : Frame = record { position = c + at'; end = c + inner; header = h'; body = None; known = c + inner + 8 } in
    let rest = order_after (c + inner + 8) (c + length bytes) (next inner).frames (next inner).unfinished (o inner (c + inner + 8) (omega arith)) (omega (arith, s.2)) in (
      Ended f ∷ finds_of (next inner),
      (
        ap (λ k. Head (c + k) h' ∷ Ended f ∷ finds_of (next inner)) s.0 ∙ ap (λ g. Head (c + at) g ∷ Ended f ∷ finds_of (next inner)) s.1,
        All-cons (λ f. c + length bytes < known_at f) (Ended f) (finds_of (next inner)) (omega (arith, s.2)) rest,
      ),
    )
stays_unended limit c at h bytes more next (whole at' h' body) s o =
    let f : Frame = record { position = c + at'; end = c + at' + 44 + h'.size; header = h'; body = Some body; known = c + at' + 44 + h'.size } in
    let size : h'.size ≡ h.size = ap (λ (g : Header). g.size) s.1 in
    let end : c + length bytes < c + at' + 44 + h'.size = omega (arith, s.0, s.2, size) in
    let rest =
    order_after (c + at' + 44 + h'.size) (c + length bytes) (next (at' + 44 + h'.size - 7)).frames (next (at' + 44 + h'.size - 7)).unfinished
    (o (at' + 44 + h'.size - 7) (c + at' + 44 + h'.size) (omega arith)) (omega (arith, end)) in (
      Ended f ∷ finds_of (next (at' + 44 + h'.size - 7)),
      (
        ap (λ k. Head (c + k) h' ∷ Ended f ∷ finds_of (next (at' + 44 + h'.size - 7))) s.0 ∙ ap (λ g. Head (c + at) g ∷ Ended f ∷ finds_of (next (at' + 44 + h'.size - 7))) s.1,
        All-cons (λ f. c + length bytes < known_at f) (Ended f) (finds_of (next (at' + 44 + h'.size - 7))) end rest,
      ),
    )

-- where nothing more is known of fewer bytes
stays_undecided : (turns limit c : ℕ) (bytes more : List ℕ) (l : Look) → Seen limit bytes l → cursor_after l ≡ None → look limit bytes ≡ l → (next : ℕ → Places) →
    Stays (c + length bytes) (finds_of (places_from (suc turns) limit c (bytes ++ more))) (finds_of (places_at c bytes next l))
stays_undecided turns limit c bytes more nothing s e is next =
    let o = in_order (suc turns) limit c (bytes ++ more) (c + length bytes) (λ at m. let far : length bytes < at + 8 = magic_beyond bytes more at s m in omega arith) in (
      finds_of (places_from (suc turns) limit c (bytes ++ more)),
      (refl, order_after (c + length bytes) (c + length bytes) (places_from (suc turns) limit c (bytes ++ more)).frames (places_from (suc turns) limit c (bytes ++ more)).unfinished o (omega arith)),
    )
stays_undecided turns limit c bytes more (begun at) s e is next =
    let o = in_order (suc turns) limit c (bytes ++ more) (c + at + 8) (λ at' m. let same : at ≡ at' = some_same at at' (sym (magic_stays bytes more at s.0) ∙ m) in omega arith) in (
      finds_of (places_from (suc turns) limit c (bytes ++ more)),
      (refl, order_after (c + at + 8) (c + length bytes) (places_from (suc turns) limit c (bytes ++ more)).frames (places_from (suc turns) limit c (bytes ++ more)).unfinished o (omega (arith, s.1))),
    )
stays_undecided turns limit c bytes more (unended at h) s e is next =
    stays_unended limit c at h bytes more (λ k. places_from turns limit (c + k) (drop k (bytes ++ more))) (look limit (bytes ++ more))
    (ends_later limit at h bytes more s (ap (λ l. cursor_after l) is))
    (λ k m h. in_order turns limit (c + k) (drop k (bytes ++ more)) m (λ at e. omega (arith, h)))
stays_undecided turns limit c bytes more (no_header at) s e is next = absurd (none-some (at + 8) (sym e))
stays_undecided turns limit c bytes more (cut at h inner) s e is next = absurd (none-some inner (sym e))
stays_undecided turns limit c bytes more (whole at h body) s e is next = absurd (none-some (at + 44 + h.size - 7) (sym e))

-- The finds of bytes stay when the bytes go on.
pub stays : (t turns limit c : ℕ) (bytes more : List ℕ) → length bytes < t → length (bytes ++ more) < turns → Stays (c + length bytes) (finds_of (places_from turns limit c (bytes ++ more))) (finds_of (places_from t limit c bytes))
stays zero turns limit c bytes more h h' = absurd (omega arith)
stays (suc t) zero limit c bytes more h h' = absurd (omega arith)
stays (suc t) (suc turns) limit c bytes more h h' =
    by_cursor (cursor_after (look limit bytes)) refl
    (λ n m. stays t turns limit (c + n) (drop n bytes) more (omega (arith, m.0, m.1, length-drop n bytes)) (omega (arith, m.0, m.1, length-drop n bytes, length-append bytes more, length-append (drop n bytes) more)))
  where
    by_cursor : (o : Option ℕ) → cursor_after (look limit bytes) ≡ o →
        ((n : ℕ) → Moves n bytes → Stays (c + n + length (drop n bytes)) (finds_of (places_from turns limit (c + n) (drop n bytes ++ more))) (finds_of (places_from t limit (c + n) (drop n bytes)))) →
        Stays (c + length bytes) (finds_of (places_from (suc turns) limit c (bytes ++ more))) (finds_of (places_from (suc t) limit c bytes))
    by_cursor None e inner = stays_undecided turns limit c bytes more (look limit bytes) (seen limit bytes) e refl (λ k. places_from t limit (c + k) (drop k bytes))
    by_cursor (Some n) e inner =
        let m : Moves n bytes = look_moves limit bytes n e in
        let i = inner n m in
        let fs : List Frame = frames_at c (look limit bytes) in
        let longer : Places = places_from turns limit (c + n) (drop n bytes ++ more) in
        let shorter : Places = places_from t limit (c + n) (drop n bytes) in (
          i.0,
          (
            ap (λ l. finds_of (places_at c (bytes ++ more) (λ n. places_from turns limit (c + n) (drop n (bytes ++ more))) l)) (look_stays limit bytes more n e)
                ∙ ap (λ p. finds_of p) (at_known c (bytes ++ more) (λ n. places_from turns limit (c + n) (drop n (bytes ++ more))) (look limit bytes) n e)
                ∙ ap (λ xs. finds_of (joined fs (places_from turns limit (c + n) xs))) (drop-append-le n bytes more m.1)
                ∙ finds_append fs longer.frames longer.unfinished
                ∙ ap (λ t. finds_in fs None ++ t) i.1.0
                ∙ sym (append_assoc (finds_in fs None) (finds_of shorter) i.0)
                ∙ ap (λ t. t ++ i.0) (sym (finds_append fs shorter.frames shorter.unfinished))
                ∙ ap (λ p. finds_of p ++ i.0) (sym (at_known c bytes (λ n. places_from t limit (c + n) (drop n bytes)) (look limit bytes) n e)),
            all_weaker (λ f. c + n + length (drop n bytes) < known_at f) (λ f. c + length bytes < known_at f) i.0 (λ f h. omega (arith, h, m.1, length-drop n bytes)) i.1.1,
          ),
        )

pub finds_stay : FindsStay
unfolding finds places
finds_stay limit bytes more =
    let s = stays (length bytes + 1) (length (bytes ++ more) + 1) limit 0 bytes more (omega arith) (omega arith) in
    (s.0, (s.1.0, all_weaker (λ f. 0 + length bytes < known_at f) (λ f. length bytes < known_at f) s.0 (λ f h. omega (arith, h)) s.1.1))
