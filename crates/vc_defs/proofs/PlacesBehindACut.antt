-- Before each find of a stream, and behind the last one, the bytes can be cut so that the places of what follows are
-- counted from there. The cursor goes over the frames that are known; what stands at it is a header that was told, or
-- bytes without a whole one, and neither needs the bytes before.
use Rattle.std.proofs.Common.{◌≡◌, ◌∙◌, sym, ap, refl, subst, ℕ, suc, zero, ◌+◌, ◌-◌, ◌%◌, ◌<◌, ◌≤◌, inl, inr, List, [], ◌∷◌, ◌++◌, length, take, drop, arith, append_assoc, length-append, length-drop}
use Rattle.std.specs.Prelude.{◌⊎◌, Bool, true, false, nat_le, nat_lt, cond}
use Rattle.std.specs.declared.option.Option.{Option}
use Rattle.std.specs.declared.option.Option.TheVariants.{Some, None}
use Rattle.std.proofs.lemmas.Bool.{cond-true, cond-false}
use Rattle.std.proofs.lemmas.Bool.Decides.{nat_tests}
use Rattle.std.proofs.lemmas.List.{take-append-le, drop-append-le, drop-drop, append-nil}
use Rattle.vc_defs.specs.declared.Header.{Header}
use Rattle.vc_defs.specs.Headers.{header_from}
use Rattle.vc_defs.specs.Places.{one_further, first_magic, Look, nothing, begun, no_header, unended, cut, whole, look_behind, look_at_header, look_from, look}
use Rattle.vc_defs.specs.Places.{cursor_after, start_of_magic, Frame, Places, joined, frames_at, places_at, places_from}
use Rattle.vc_defs.proofs.KnownPlacesStay.{is_magic, is_start, magic_stays, magic_inside, look_stays}
use Rattle.vc_defs.proofs.PlacesContinue.{Skips, Moves, look_moves, at_known, more_turns, places_shifted, tail_short, skips_to_magic, skips_to_start, not_start_long}
use Rattle.vc_defs.proofs.NoMagicInHeaders.{magic_there}
use Rattle.vc_defs.proofs.FindsInOrder.{Seen, seen, finds_of}

-- a legal header stands at the front of bytes
abbrev pub Heads : ℕ → List ℕ → Header → Type 0
Heads limit xs h = (first_magic xs ≡ Some 0) × (44 ≤ length xs) × (header_from limit (take 44 xs) ≡ Some h)

pub heads_more : (limit : ℕ) (xs more : List ℕ) (h : Header) → Heads limit xs h → Heads limit (xs ++ more) h
heads_more limit xs more h p = (magic_stays xs more 0 p.0, omega (arith, p.1, length-append xs more), ap (λ t. header_from limit t) (take-append-le 44 xs more p.1) ∙ p.2)

pub first_at_front : (xs : List ℕ) → is_magic xs ≡ true → first_magic xs ≡ Some 0
first_at_front [] e = let clash : false ≡ true = e in absurd cc
first_at_front (x ∷ xs) e = cond-true (is_magic (x ∷ xs)) (Some 0) (one_further (first_magic xs)) e

heads_there : (limit : ℕ) (bytes : List ℕ) (at : ℕ) (h : Header) → first_magic bytes ≡ Some at → at + 44 ≤ length bytes → header_from limit (take 44 (drop at bytes)) ≡ Some h → Heads limit (drop at bytes) h
heads_there limit bytes at h m long is = (first_at_front (drop at bytes) (magic_there bytes at m), omega (arith, length-drop at bytes), is)

-- what the places of bytes with a header at their front are: the header alone, or a frame and others
abbrev pub HeadsPlaces : ℕ → List ℕ → Header → Places → Type 0
HeadsPlaces c xs h p =
    ((p.frames ≡ []) × (p.unfinished ≡ Some (record { position = c; header = h })) × (p.tail ≡ xs))
    ⊎ ((f : Frame) × ((fs : List Frame) × ((p.frames ≡ f ∷ fs) × (f.position ≡ c) × (f.header ≡ h) × (length p.tail + f.known ≤ c + length xs + 8))))

-- a look at a header that stands at the front
AtHeader : Header → Look → Type 0
AtHeader h nothing = ⊥
AtHeader h (begun at) = ⊥
AtHeader h (no_header at) = ⊥
AtHeader h (unended at g) = (at ≡ 0) × (g ≡ h)
AtHeader h (cut at g inner) = (at ≡ 0) × (g ≡ h)
AtHeader h (whole at g body) = (at ≡ 0) × (g ≡ h)

behind_at_header : (h : Header) (xs : List ℕ) (o : Option ℕ) → AtHeader h (look_behind 0 h xs o)
unfolding AtHeader
behind_at_header h xs o = by_inner o
  where
    by_end : (b : Bool) → AtHeader h (cond b (whole 0 h (take h.size (drop 44 xs))) (unended 0 h))
    by_end true = (refl, refl)
    by_end false = (refl, refl)

    by_cut : (n : ℕ) (b : Bool) → AtHeader h (cond b (cut 0 h (0 + 8 + n)) (cond (nat_le (44 + h.size) (length xs)) (whole 0 h (take h.size (drop 44 xs))) (unended 0 h)))
    by_cut n true = (refl, refl)
    by_cut n false = by_end (nat_le (44 + h.size) (length xs))

    by_inner : (o : Option ℕ) → AtHeader h (look_behind 0 h xs o)
    by_inner None = by_end (nat_le (44 + h.size) (length xs))
    by_inner (Some n) = by_cut n (nat_le (8 + n + 8) (44 + h.size))

-- the look at bytes with a header at their front
pub look_front : (limit : ℕ) (xs : List ℕ) (h : Header) → Heads limit xs h → look limit xs ≡ look_behind 0 h xs (first_magic (drop 8 xs))
unfolding look
look_front limit xs h p =
    let long : 44 ≤ length xs = p.1 in
    ap (λ o. look_from limit xs o) p.0
    ∙ cond-false (nat_lt (length xs) 44) (begun 0) (look_at_header 0 xs (header_from limit (take 44 xs))) (grind (arith, nat_tests))
    ∙ ap (λ o. look_at_header 0 xs o) p.2

look_at_header_is : (limit : ℕ) (xs : List ℕ) (h : Header) → Heads limit xs h → AtHeader h (look limit xs)
look_at_header_is limit xs h p = subst (λ (l : Look). AtHeader h l) (sym (look_front limit xs h p)) (behind_at_header h xs (first_magic (drop 8 xs)))

pub heads_places : (turns limit c : ℕ) (xs : List ℕ) (h : Header) → Heads limit xs h → HeadsPlaces c xs h (places_from (suc turns) limit c xs)
unfolding AtHeader
heads_places turns limit c xs h p =
    by_look (look limit xs) (look_at_header_is limit xs h p) (seen limit xs) (λ n. tail_short turns limit (c + n) (drop n xs))
  where
    by_look :
        (l : Look) → AtHeader h l → Seen limit xs l → ((n : ℕ) → length (places_from turns limit (c + n) (drop n xs)).tail ≤ length (drop n xs))
        → HeadsPlaces c xs h (places_at c xs (λ n. places_from turns limit (c + n) (drop n xs)) l)
    by_look nothing a s short = absurd a
    by_look (begun at) a s short = absurd a
    by_look (no_header at) a s short = absurd a
    by_look (unended at g) a s short =
        let zero_more : c + at ≡ c = omega (arith, a.0) in
        inl (
          refl,
          ap (λ k. Some (record { position = k; header = g })) zero_more ∙ ap (λ i. Some (record { position = c; header = i })) a.1,
          ap (λ k. drop k xs) a.0,
        )
    by_look (cut at g inner) a s short =
        inr (
          record { position = c + at; end = c + inner; header = g; body = None; known = c + inner + 8 },
          (
            (places_from turns limit (c + inner) (drop inner xs)).frames,
            (refl, omega (arith, a.0), a.1, omega (arith, short inner, length-drop inner xs, s.4)),
          ),
        )
    by_look (whole at g body) a s short =
        inr (
          record { position = c + at; end = c + at + 44 + g.size; header = g; body = Some body; known = c + at + 44 + g.size },
          (
            (places_from turns limit (c + (at + 44 + g.size - 7)) (drop (at + 44 + g.size - 7) xs)).frames,
            (refl, omega (arith, a.0), a.1, omega (arith, short (at + 44 + g.size - 7), length-drop (at + 44 + g.size - 7) xs, s.3)),
          ),
        )

-- the prefix of the magic at the end of bytes is short
start_small : (bytes : List ℕ) → length (start_of_magic bytes) ≤ 8
start_small [] = omega arith
start_small (b ∷ bytes) = by_test (is_start (b ∷ bytes)) refl (start_small bytes)
  where
    by_long : (t : Bool) → nat_lt 8 (length (b ∷ bytes)) ≡ t → is_start (b ∷ bytes) ≡ true → length (b ∷ bytes) ≤ 8
    by_long true l e =
        let long : 8 < length (b ∷ bytes) = grind (arith, nat_tests) in
        let clash : false ≡ true = sym (not_start_long (b ∷ bytes) long) ∙ e in
        absurd cc
    by_long false l e = grind (arith, nat_tests)

    by_test : (t : Bool) → is_start (b ∷ bytes) ≡ t → length (start_of_magic bytes) ≤ 8 → length (cond t (b ∷ bytes) (start_of_magic bytes)) ≤ 8
    by_test true e h = by_long (nat_lt 8 (length (b ∷ bytes))) refl e
    by_test false e h = h

-- what stands where bytes are cut: the kept bytes, without a whole header; or a header
abbrev pub Here : ℕ → List ℕ → ℕ → Places → Type 0
Here limit bytes at before = ((before.tail ≡ drop at bytes) × (length (drop at bytes) < 44)) ⊎ ((h : Header) × Heads limit (drop at bytes) h)

-- A place where bytes can be cut: so many finds stand before it, and the places of more bytes are the frames before it and
-- those of what follows.
pub record Stop (limit c : ℕ) (bytes : List ℕ) (told : ℕ) (before : Places) : Type 0 where
  pub frames : List Frame
  pub at : ℕ
  pub inside : at ≤ length bytes
  pub even : told % 2 ≡ 0
  pub count : (p : Places) → drop told (finds_of (joined frames p)) ≡ finds_of p
  pub goes_on : (turns : ℕ) (more : List ℕ) → length (bytes ++ more) < turns → places_from turns limit c (bytes ++ more) ≡ joined frames (places_from turns limit (c + at) (drop at bytes ++ more))
  pub here : Here limit bytes at before

-- The same where also the header that stands there was told.
pub record Begun (limit c : ℕ) (bytes : List ℕ) (told : ℕ) (before : Places) : Type 0 where
  pub fewer : ℕ
  pub is : told ≡ suc fewer
  pub stop : Stop limit c bytes fewer before
  pub header : Header
  pub heads : Heads limit (drop stop.at bytes) header

abbrev pub Where : ℕ → ℕ → List ℕ → ℕ → Places → Type 0
Where limit c bytes told before = Stop limit c bytes told before ⊎ Begun limit c bytes told before

-- bytes up to a place are skipped
skip_to : (limit c at : ℕ) (bytes more : List ℕ) → at ≤ length bytes → Skips at (bytes ++ more) → (turns : ℕ) → length (bytes ++ more) < turns →
    places_from turns limit c (bytes ++ more) ≡ joined [] (places_from turns limit (c + at) (drop at bytes ++ more))
skip_to limit c at bytes more inside s zero h = absurd (omega arith)
skip_to limit c at bytes more inside s (suc turns) h =
    places_shifted turns limit c at (bytes ++ more) s ∙ ap (λ xs. places_from (suc turns) limit (c + at) xs) (drop-append-le at bytes more inside)

header_stop : (limit c at : ℕ) (bytes : List ℕ) (h : Header) (before : Places) → first_magic bytes ≡ Some at → at + 44 ≤ length bytes → header_from limit (take 44 (drop at bytes)) ≡ Some h → Stop limit c bytes 0 before
header_stop limit c at bytes h before m long is = record {
  frames = [];
  at = at;
  inside = omega arith;
  even = refl;
  count = λ p. refl;
  goes_on = λ turns more k. skip_to limit c at bytes more (omega arith) (skips_to_magic bytes more at m) turns k;
  here = inr (h, heads_there limit bytes at h m long is);
}

-- the cursor goes over the frames that are known first
step_on :
    (limit c n turns : ℕ) (bytes more : List ℕ) → cursor_after (look limit bytes) ≡ Some n
    → places_from (suc turns) limit c (bytes ++ more) ≡ joined (frames_at c (look limit bytes)) (places_from turns limit (c + n) (drop n bytes ++ more))
step_on limit c n turns bytes more e =
    let m : Moves n bytes = look_moves limit bytes n e in
    ap (λ l. places_at c (bytes ++ more) (λ n. places_from turns limit (c + n) (drop n (bytes ++ more))) l) (look_stays limit bytes more n e)
    ∙ at_known c (bytes ++ more) (λ n. places_from turns limit (c + n) (drop n (bytes ++ more))) (look limit bytes) n e
    ∙ ap (λ xs. joined (frames_at c (look limit bytes)) (places_from turns limit (c + n) xs)) (drop-append-le n bytes more m.1)

joined_twice : (first second : List Frame) (later : Places) → joined first (joined second later) ≡ joined (first ++ second) later
joined_twice first second later = ap (λ fs. record { frames = fs; unfinished = later.unfinished; tail = later.tail }) (sym (append_assoc first second later.frames))

-- a place behind the first frames
stop_behind :
    (limit c n : ℕ) (bytes : List ℕ) (fs : List Frame) (up : ℕ → ℕ) (m : ℕ) (q : Places) → cursor_after (look limit bytes) ≡ Some n
    → frames_at c (look limit bytes) ≡ fs → ((m : ℕ) (p : Places) → drop (up m) (finds_of (joined fs p)) ≡ drop m (finds_of p)) →
    ((m : ℕ) → m % 2 ≡ 0 → up m % 2 ≡ 0) → Stop limit (c + n) (drop n bytes) m q → Stop limit c bytes (up m) (joined fs q)
stop_behind limit c n bytes fs up m q e is over parity s =
    let moves : Moves n bytes = look_moves limit bytes n e in
    record {
      frames = fs ++ s.frames;
      at = n + s.at;
      inside = omega (arith, s.inside, moves.1, length-drop n bytes);
      even = parity m s.even;
      count = λ p. ap (λ x. drop (up m) (finds_of x)) (sym (joined_twice fs s.frames p)) ∙ over m (joined s.frames p) ∙ s.count p;
      goes_on = λ turns more k. on turns more k;
      here = elim s.here [
        | inl short ↦ inl (short.0 ∙ drop-drop s.at n bytes, subst (λ (t : List ℕ). length t < 44) (drop-drop s.at n bytes) short.1)
        | inr head ↦ inr (head.0, subst (λ (t : List ℕ). Heads limit t head.0) (drop-drop s.at n bytes) head.1)
      ];
    }
  where
    on : (turns : ℕ) (more : List ℕ) → length (bytes ++ more) < turns → places_from turns limit c (bytes ++ more) ≡ joined (fs ++ s.frames) (places_from turns limit (c + (n + s.at)) (drop (n + s.at) bytes ++ more))
    on zero more k = absurd (omega arith)
    on (suc turns) more k =
        let moves : Moves n bytes = look_moves limit bytes n e in
        let room : length (drop n bytes ++ more) < turns = omega (arith, k, moves.0, moves.1, length-drop n bytes, length-append bytes more, length-append (drop n bytes) more) in
        let less : length (drop s.at (drop n bytes) ++ more) < turns = omega (arith, room, length-drop s.at (drop n bytes), length-append (drop n bytes) more, length-append (drop s.at (drop n bytes)) more) in
        let cursor : c + n + s.at ≡ c + (n + s.at) = omega arith in
        step_on limit c n turns bytes more e
        ∙ ap (λ gs. joined gs (places_from turns limit (c + n) (drop n bytes ++ more))) is
        ∙ ap (λ p. joined fs p) (s.goes_on turns more room)
        ∙ joined_twice fs s.frames (places_from turns limit (c + n + s.at) (drop s.at (drop n bytes) ++ more))
        ∙ ap (λ p. joined (fs ++ s.frames) p) (
        more_turns turns limit (c + n + s.at) (drop s.at (drop n bytes) ++ more) less
        ∙ ap (λ k. places_from (suc turns) limit k (drop s.at (drop n bytes) ++ more)) cursor
        ∙ ap (λ xs. places_from (suc turns) limit (c + (n + s.at)) (xs ++ more)) (drop-drop s.at n bytes)
        )

where_behind :
    (limit c n : ℕ) (bytes : List ℕ) (fs : List Frame) (up : ℕ → ℕ) (m : ℕ) (q : Places) → cursor_after (look limit bytes) ≡ Some n
    → frames_at c (look limit bytes) ≡ fs → ((m : ℕ) (p : Places) → drop (up m) (finds_of (joined fs p)) ≡ drop m (finds_of p)) →
    ((m : ℕ) → m % 2 ≡ 0 → up m % 2 ≡ 0) → ((m : ℕ) → up (suc m) ≡ suc (up m)) → Where limit (c + n) (drop n bytes) m q → Where limit c bytes (up m) (joined fs q)
unfolding stop_behind
where_behind limit c n bytes fs up m q e is over parity one w =
    elim w [
      | inl s ↦ inl (stop_behind limit c n bytes fs up m q e is over parity s)
      | inr b ↦
          let s = stop_behind limit c n bytes fs up b.fewer q e is over parity b.stop in
          inr (record {
            fewer = up b.fewer;
            is = ap up b.is ∙ one b.fewer;
            stop = s;
            header = b.header;
            heads = subst (λ (t : List ℕ). Heads limit t b.header) (drop-drop b.stop.at n bytes) b.heads;
          })
    ]

-- Before each find, and behind the last one, bytes can be cut.
pub where_is : (t limit c : ℕ) (bytes : List ℕ) (told : ℕ) → length bytes < t → told ≤ length (finds_of (places_from t limit c bytes)) → Where limit c bytes told (places_from t limit c bytes)
unfolding header_stop
where_is zero limit c bytes told room h = absurd (omega arith)
where_is (suc t) limit c bytes told room h =
    by_look (look limit bytes) (seen limit bytes) refl told h
    (λ n e m k. let moves : Moves n bytes = look_moves limit bytes n e in where_is t limit (c + n) (drop n bytes) m (omega (arith, moves.0, moves.1, length-drop n bytes)) k)
  where
    next : ℕ → Places
    next n = places_from t limit (c + n) (drop n bytes)

    twice : ℕ → ℕ
    twice m = suc (suc m)

    even_twice : (m : ℕ) → m % 2 ≡ 0 → twice m % 2 ≡ 0
    even_twice m e = omega arith

    by_look : (l : Look) → Seen limit bytes l → look limit bytes ≡ l → (told : ℕ) → told ≤ length (finds_of (places_at c bytes next l)) →
        ((n : ℕ) → cursor_after (look limit bytes) ≡ Some n → (m : ℕ) → m ≤ length (finds_of (next n)) → Where limit (c + n) (drop n bytes) m (next n)) → Where limit c bytes told (places_at c bytes next l)
    by_look nothing s is (suc told) h inner = absurd (omega arith)
    by_look nothing s is zero h inner =
        let none : drop (length bytes - length (start_of_magic bytes)) bytes ≡ start_of_magic bytes =
        ap (λ t. drop (length bytes - length (start_of_magic bytes)) t) (sym (append-nil bytes)) ∙ (skips_to_start bytes [] s).1 ∙ append-nil (start_of_magic bytes) in
        let small : length (start_of_magic bytes) ≤ 8 = start_small bytes in
        inl (record {
          frames = [];
          at = length bytes - length (start_of_magic bytes);
          inside = omega arith;
          even = refl;
          count = λ p. refl;
          goes_on = λ turns more k. skip_to limit c (length bytes - length (start_of_magic bytes)) bytes more (omega arith) (skips_to_start bytes more s).0 turns k;
          here = inl (sym none, omega (arith, ap length none, small));
        })
    by_look (begun at) s is (suc told) h inner = absurd (omega arith)
    by_look (begun at) s is zero h inner =
        let inside : at + 8 ≤ length bytes = magic_inside bytes at s.0 in
        inl (record {
          frames = [];
          at = at;
          inside = omega arith;
          even = refl;
          count = λ p. refl;
          goes_on = λ turns more k. skip_to limit c at bytes more (omega arith) (skips_to_magic bytes more at s.0) turns k;
          here = inl (refl, omega (arith, s.1, length-drop at bytes));
        })
    by_look (no_header at) s is told h inner =
        where_behind limit c (at + 8) bytes [] (λ m. m) told (next (at + 8)) (ap (λ l. cursor_after l) is) (ap (λ l. frames_at c l) is) (λ m p. refl) (λ m e. e) (λ m. refl) (inner (at + 8) (ap (λ l. cursor_after l) is) told h)
    by_look (unended at g) s is zero h inner = inl (header_stop limit c at bytes g (places_at c bytes next (unended at g)) s.0 s.1 s.2)
    by_look (unended at g) s is (suc zero) h inner =
        inr (record { fewer = 0; is = refl; stop = header_stop limit c at bytes g (places_at c bytes next (unended at g)) s.0 s.1 s.2; header = g; heads = heads_there limit bytes at g s.0 s.1 s.2 })
    by_look (unended at g) s is (suc (suc told)) h inner = absurd (omega arith)
    by_look (cut at g inner') s is zero h inner = inl (header_stop limit c at bytes g (places_at c bytes next (cut at g inner')) s.0 s.1 s.2)
    by_look (cut at g inner') s is (suc zero) h inner =
        inr (record { fewer = 0; is = refl; stop = header_stop limit c at bytes g (places_at c bytes next (cut at g inner')) s.0 s.1 s.2; header = g; heads = heads_there limit bytes at g s.0 s.1 s.2 })
    by_look (cut at g inner') s is (suc (suc told)) h inner =
        where_behind limit c inner' bytes (frames_at c (cut at g inner')) twice told (next inner') (ap (λ l. cursor_after l) is)
        (ap (λ l. frames_at c l) is) (λ m p. refl) even_twice (λ m. refl) (inner inner' (ap (λ l. cursor_after l) is) told (omega arith))
    by_look (whole at g body) s is zero h inner = inl (header_stop limit c at bytes g (places_at c bytes next (whole at g body)) s.0 s.1 s.2)
    by_look (whole at g body) s is (suc zero) h inner =
        inr (record { fewer = 0; is = refl; stop = header_stop limit c at bytes g (places_at c bytes next (whole at g body)) s.0 s.1 s.2; header = g; heads = heads_there limit bytes at g s.0 s.1 s.2 })
    by_look (whole at g body) s is (suc (suc told)) h inner =
        where_behind limit c (at + 44 + g.size - 7) bytes (frames_at c (whole at g body)) twice told (next (at + 44 + g.size - 7))
        (ap (λ l. cursor_after l) is) (ap (λ l. frames_at c l) is) (λ m p. refl) even_twice (λ m. refl)
        (inner (at + 44 + g.size - 7) (ap (λ l. cursor_after l) is) told (omega arith))
