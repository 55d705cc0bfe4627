-- The places of a longer list of bytes are those of its beginning, followed by those from the kept bytes on. A look
-- that is decided stays so when more bytes come; one that is not decided keeps the bytes from the magic on, and in
-- front of these nothing can begin any more.
use Rattle.std.proofs.Common.{◌≡◌, ◌∙◌, sym, ap, refl, subst, ℕ, suc, zero, ◌+◌, ◌-◌, ◌<◌, ◌≤◌, inl, inr, List, [], ◌∷◌, ◌++◌, length, take, drop, arith, append_assoc, length-append, length-take, length-drop}
use Rattle.std.specs.Prelude.{Bool, true, false, nat_le, nat_lt, cond}
use Rattle.std.specs.declared.option.Option.{Option}
use Rattle.std.specs.declared.option.Option.TheVariants.{Some, None}
use Rattle.std.proofs.lemmas.Option.{none-some}
use Rattle.std.proofs.lemmas.Bool.{cond-false}
use Rattle.std.proofs.lemmas.Bool.Decides.{nat_tests}
use Rattle.std.proofs.lemmas.Slice.Eq.{bytes_eq-Decides}
use Rattle.std.proofs.lemmas.List.{drop-append-le, drop-drop, take-take, take_at}
use Rattle.vc_defs.specs.declared.Header.{Header}
use Rattle.vc_defs.specs.Headers.{magic, header_from}
use Rattle.vc_defs.specs.Places.{one_further, first_magic, Look, nothing, begun, no_header, unended, cut, whole, look_behind, look_at_header, look_at}
use Rattle.vc_defs.specs.Places.{look_from, look, cursor_after, start_of_magic, Frame, Places, frames_at, places_at, places_from, places, moved_places, joined}
use Rattle.vc_defs.specs.Laws.{PlacesContinue}
use Rattle.vc_defs.proofs.BlocksAreRead.{chosen, some_same}
use Rattle.vc_defs.proofs.KnownPlacesStay.{is_magic, is_start, not_true, is_magic_front, magic_inside, look_stays}

-- in front of the first so many bytes neither stands the magic nor begins one that goes to the end
unfoldable pub Skips : ℕ → List ℕ → Type 0
Skips zero bytes = Unit {0}
Skips (suc d) [] = ⊥
Skips (suc d) (b ∷ bytes) = (is_magic (b ∷ bytes) ≡ false) × (is_start (b ∷ bytes) ≡ false) × Skips d bytes

abbrev shift : ℕ → Option ℕ → Option ℕ
shift d None = None
shift d (Some n) = Some (d + n)

shift_none : (o : Option ℕ) → o ≡ shift 0 o
shift_none None = refl
shift_none (Some n) = let e : n ≡ 0 + n = omega arith in ap (λ k. Some k) e

shift_more : (d : ℕ) (o : Option ℕ) → one_further (shift d o) ≡ shift (suc d) o
shift_more d None = refl
shift_more d (Some n) = let e : d + n + 1 ≡ suc d + n = omega arith in ap (λ k. Some k) e

skips_magic : (d : ℕ) (bytes : List ℕ) → Skips d bytes → first_magic bytes ≡ shift d (first_magic (drop d bytes))
unfolding Skips
skips_magic zero bytes s = shift_none (first_magic bytes)
skips_magic (suc d) [] s = absurd s
skips_magic (suc d) (b ∷ bytes) s =
    cond-false (is_magic (b ∷ bytes)) (Some 0) (one_further (first_magic bytes)) s.0
    ∙ ap (λ o. one_further o) (skips_magic d bytes s.2) ∙ shift_more d (first_magic (drop d bytes))

skips_start : (d : ℕ) (bytes : List ℕ) → Skips d bytes → start_of_magic bytes ≡ start_of_magic (drop d bytes)
unfolding Skips
skips_start zero bytes s = refl
skips_start (suc d) [] s = absurd s
skips_start (suc d) (b ∷ bytes) s = cond-false (is_start (b ∷ bytes)) (b ∷ bytes) (start_of_magic bytes) s.1 ∙ skips_start d bytes s.2

abbrev shifted : ℕ → Look → Look
shifted d nothing = nothing
shifted d (begun at) = begun (d + at)
shifted d (no_header at) = no_header (d + at)
shifted d (unended at h) = unended (d + at) h
shifted d (cut at h inner) = cut (d + at) h (d + inner)
shifted d (whole at h body) = whole (d + at) h body

behind_shifted : (d at : ℕ) (h : Header) (bytes : List ℕ) (o : Option ℕ) → look_behind (d + at) h bytes o ≡ shifted d (look_behind at h bytes o)
behind_shifted d at h bytes None = by_test (nat_le (44 + h.size) (length bytes))
  where
    by_test : (b : Bool) → cond b (whole (d + at) h (take h.size (drop 44 bytes))) (unended (d + at) h) ≡ shifted d (cond b (whole at h (take h.size (drop 44 bytes))) (unended at h))
    by_test true = refl
    by_test false = refl
behind_shifted d at h bytes (Some n) = by_tests (nat_le (8 + n + 8) (44 + h.size)) (nat_le (44 + h.size) (length bytes))
  where
    by_tests :
        (b c : Bool)
        → cond b (cut (d + at) h (d + at + 8 + n)) (cond c (whole (d + at) h (take h.size (drop 44 bytes))) (unended (d + at) h))
        ≡ shifted d (cond b (cut at h (at + 8 + n)) (cond c (whole at h (take h.size (drop 44 bytes))) (unended at h)))
    by_tests true c = let e : d + at + 8 + n ≡ d + (at + 8 + n) = omega arith in ap (λ k. cut (d + at) h k) e
    by_tests false true = refl
    by_tests false false = refl

header_shifted : (d at : ℕ) (bytes : List ℕ) (o : Option Header) → look_at_header (d + at) bytes o ≡ shifted d (look_at_header at bytes o)
header_shifted d at bytes None = refl
header_shifted d at bytes (Some h) = behind_shifted d at h bytes (first_magic (drop 8 bytes))

at_shifted : (limit d at : ℕ) (bytes : List ℕ) → look_at limit (d + at) bytes ≡ shifted d (look_at limit at bytes)
at_shifted limit d at bytes = by_test (nat_lt (length bytes) 44)
  where
    by_test : (b : Bool) → cond b (begun (d + at)) (look_at_header (d + at) bytes (header_from limit (take 44 bytes))) ≡ shifted d (cond b (begun at) (look_at_header at bytes (header_from limit (take 44 bytes))))
    by_test true = refl
    by_test false = header_shifted d at bytes (header_from limit (take 44 bytes))

look_shifted : (limit d : ℕ) (bytes : List ℕ) → Skips d bytes → look limit bytes ≡ shifted d (look limit (drop d bytes))
unfolding look
look_shifted limit d bytes s = ap (λ o. look_from limit bytes o) (skips_magic d bytes s) ∙ from (first_magic (drop d bytes))
  where
    from : (o : Option ℕ) → look_from limit bytes (shift d o) ≡ shifted d (look_from limit (drop d bytes) o)
    from None = refl
    from (Some n) = at_shifted limit d n (drop (d + n) bytes) ∙ ap (λ t. shifted d (look_at limit n t)) (sym (drop-drop n d bytes))

same_places : (t limit c c' : ℕ) (xs ys : List ℕ) → c ≡ c' → xs ≡ ys → places_from t limit c xs ≡ places_from t limit c' ys
same_places t limit c c' xs ys p q = ap (λ k. places_from t limit k xs) p ∙ ap (λ zs. places_from t limit c' zs) q

dropped : (d n m : ℕ) (bytes : List ℕ) → m ≡ d + n → drop m bytes ≡ drop n (drop d bytes)
dropped d n m bytes e = ap (λ k. drop k bytes) e ∙ sym (drop-drop n d bytes)

abbrev joined_one : Frame → Places → Places
joined_one f later = joined (f ∷ []) later

-- Bytes that are skipped change no place.
pub places_shifted : (t limit c d : ℕ) (bytes : List ℕ) → Skips d bytes → places_from (suc t) limit c bytes ≡ places_from (suc t) limit (c + d) (drop d bytes)
places_shifted t limit c d bytes s =
    ap (λ l. places_at c bytes (λ n. places_from t limit (c + n) (drop n bytes)) l) (look_shifted limit d bytes s)
    ∙ by_look (look limit (drop d bytes)) (skips_start d bytes s) (λ n m e. same_places t limit (c + m) (c + d + n) (drop m bytes) (drop n (drop d bytes)) (omega arith) (dropped d n m bytes e))
  where
    by_look : (l : Look) → start_of_magic bytes ≡ start_of_magic (drop d bytes) → ((n m : ℕ) → m ≡ d + n → places_from t limit (c + m) (drop m bytes) ≡ places_from t limit (c + d + n) (drop n (drop d bytes))) →
        places_at c bytes (λ n. places_from t limit (c + n) (drop n bytes)) (shifted d l) ≡ places_at (c + d) (drop d bytes) (λ n. places_from t limit (c + d + n) (drop n (drop d bytes))) l
    by_look nothing start next = ap (λ t. record { frames = []; unfinished = None; tail = t }) start
    by_look (begun at) start next = ap (λ t. record { frames = []; unfinished = None; tail = t }) (dropped d at (d + at) bytes refl)
    by_look (no_header at) start next = next (at + 8) (d + at + 8) (omega arith)
    by_look (unended at h) start next =
        let e : c + (d + at) ≡ c + d + at = omega arith in
        ap (λ p. record { frames = []; unfinished = Some (record { position = p; header = h }); tail = drop (d + at) bytes }) e
        ∙ ap (λ t. record { frames = []; unfinished = Some (record { position = c + d + at; header = h }); tail = t }) (dropped d at (d + at) bytes refl)
    by_look (cut at h inner) start next =
        let e : c + (d + at) ≡ c + d + at = omega arith in
        let f : c + (d + inner) ≡ c + d + inner = omega arith in
        ap (λ p. joined_one (record { position = p; end = c + (d + inner); header = h; body = None; known = c + (d + inner) + 8 }) (places_from t limit (c + (d + inner)) (drop (d + inner) bytes))) e
        ∙ ap (λ q. joined_one (record { position = c + d + at; end = q; header = h; body = None; known = q + 8 }) (places_from t limit (c + (d + inner)) (drop (d + inner) bytes))) f
        ∙ ap (λ r. joined_one (record { position = c + d + at; end = c + d + inner; header = h; body = None; known = c + d + inner + 8 }) r) (next inner (d + inner) refl)
    by_look (whole at h body) start next =
        let e : c + (d + at) ≡ c + d + at = omega arith in
        ap (λ p. joined_one (record { position = p; end = p + 44 + h.size; header = h; body = Some body; known = p + 44 + h.size }) (places_from t limit (c + (d + at + 44 + h.size - 7)) (drop (d + at + 44 + h.size - 7) bytes))) e
        ∙ ap (λ r. joined_one (record { position = c + d + at; end = c + d + at + 44 + h.size; header = h; body = Some body; known = c + d + at + 44 + h.size }) r) (next (at + 44 + h.size - 7) (d + at + 44 + h.size - 7) (omega arith))

-- how far a known look moves the cursor
abbrev pub Moves : ℕ → List ℕ → Type 0
Moves n bytes = (8 ≤ n) × (n ≤ length bytes)

behind_moves : (at : ℕ) (h : Header) (bytes : List ℕ) (o : Option ℕ) (n : ℕ) → ((m : ℕ) → o ≡ Some m → 8 + m + 8 ≤ length bytes) → cursor_after (look_behind at h bytes o) ≡ Some n → (at + 8 ≤ n) × (n ≤ at + length bytes)
behind_moves at h bytes o n inside e = by_cut o inside e
  where
    by_end : (b : Bool) → nat_le (44 + h.size) (length bytes) ≡ b → cursor_after (cond b (whole at h (take h.size (drop 44 bytes))) (unended at h)) ≡ Some n → (at + 8 ≤ n) × (n ≤ at + length bytes)
    by_end true t e =
        let there : 44 + h.size ≤ length bytes = grind (arith, nat_tests) in
        let is : at + 44 + h.size - 7 ≡ n = some_same (at + 44 + h.size - 7) n e in
        (omega arith, omega arith)
    by_end false t e = absurd (none-some n e)

    by_test :
        (m : ℕ) (b : Bool) → 8 + m + 8 ≤ length bytes
        → cursor_after (cond b (cut at h (at + 8 + m)) (cond (nat_le (44 + h.size) (length bytes)) (whole at h (take h.size (drop 44 bytes))) (unended at h))) ≡ Some n
        → (at + 8 ≤ n) × (n ≤ at + length bytes)
    by_test m true i e = let is : at + 8 + m ≡ n = some_same (at + 8 + m) n e in (omega arith, omega arith)
    by_test m false i e = by_end (nat_le (44 + h.size) (length bytes)) refl e

    by_cut : (o : Option ℕ) → ((m : ℕ) → o ≡ Some m → 8 + m + 8 ≤ length bytes) → cursor_after (look_behind at h bytes o) ≡ Some n → (at + 8 ≤ n) × (n ≤ at + length bytes)
    by_cut None inside e = by_end (nat_le (44 + h.size) (length bytes)) refl e
    by_cut (Some m) inside e = by_test m (nat_le (8 + m + 8) (44 + h.size)) (inside m refl) e

pub look_moves : (limit : ℕ) (bytes : List ℕ) (n : ℕ) → cursor_after (look limit bytes) ≡ Some n → Moves n bytes
unfolding look
look_moves limit bytes n e = by_magic (first_magic bytes) refl e
  where
    by_header : (at : ℕ) (o : Option Header) → at + 44 ≤ length bytes → cursor_after (look_at_header at (drop at bytes) o) ≡ Some n → Moves n bytes
    by_header at None h e = let is : at + 8 ≡ n = some_same (at + 8) n e in (omega arith, omega arith)
    by_header at (Some header) h e =
        let long : length (drop at bytes) ≡ length bytes - at = length-drop at bytes in
        let m = behind_moves at header (drop at bytes) (first_magic (drop 8 (drop at bytes))) n
        (λ m is. let i : m + 8 ≤ length (drop 8 (drop at bytes)) = magic_inside (drop 8 (drop at bytes)) m is in omega (arith, i, long, length-drop 8 (drop at bytes))) e in
        (omega (arith, m.0), omega (arith, m.1, long))

    by_test : (at : ℕ) (b : Bool) → at + 8 ≤ length bytes → nat_lt (length (drop at bytes)) 44 ≡ b → cursor_after (cond b (begun at) (look_at_header at (drop at bytes) (header_from limit (take 44 (drop at bytes))))) ≡ Some n → Moves n bytes
    by_test at true i t e = absurd (none-some n e)
    by_test at false i t e =
        let there : 44 ≤ length (drop at bytes) = grind (arith, nat_tests) in
        by_header at (header_from limit (take 44 (drop at bytes))) (omega (arith, there, length-drop at bytes)) e

    by_magic : (o : Option ℕ) → first_magic bytes ≡ o → cursor_after (look_from limit bytes o) ≡ Some n → Moves n bytes
    by_magic None is e = absurd (none-some n e)
    by_magic (Some at) is e = by_test at (nat_lt (length (drop at bytes)) 44) (magic_inside bytes at is) refl e

-- More turns than bytes change nothing.
pub more_turns : (t limit c : ℕ) (bytes : List ℕ) → length bytes < t → places_from t limit c bytes ≡ places_from (suc t) limit c bytes
more_turns zero limit c bytes h = absurd (omega arith)
more_turns (suc t) limit c bytes h =
    by_look (look limit bytes)
    (λ n e. let m : Moves n bytes = look_moves limit bytes n e in more_turns t limit (c + n) (drop n bytes) (omega (arith, m.0, m.1, length-drop n bytes)))
  where
    by_look : (l : Look) → ((n : ℕ) → cursor_after l ≡ Some n → places_from t limit (c + n) (drop n bytes) ≡ places_from (suc t) limit (c + n) (drop n bytes)) →
        places_at c bytes (λ n. places_from t limit (c + n) (drop n bytes)) l ≡ places_at c bytes (λ n. places_from (suc t) limit (c + n) (drop n bytes)) l
    by_look nothing next = refl
    by_look (begun at) next = refl
    by_look (no_header at) next = next (at + 8) refl
    by_look (unended at h) next = refl
    by_look (cut at h inner) next = ap (λ r. joined_one (record { position = c + at; end = c + inner; header = h; body = None; known = c + inner + 8 }) r) (next inner refl)
    by_look (whole at h body) next =
        ap (λ r. joined_one (record { position = c + at; end = c + at + 44 + h.size; header = h; body = Some body; known = c + at + 44 + h.size }) r) (next (at + 44 + h.size - 7) refl)

pub at_known : (c : ℕ) (bytes : List ℕ) (next : ℕ → Places) (l : Look) (n : ℕ) → cursor_after l ≡ Some n → places_at c bytes next l ≡ joined (frames_at c l) (next n)
at_known c bytes next nothing n e = absurd (none-some n e)
at_known c bytes next (begun at) n e = absurd (none-some n e)
at_known c bytes next (unended at h) n e = absurd (none-some n e)
at_known c bytes next (no_header at) n e = ap (λ k. joined [] (next k)) (some_same (at + 8) n e)
at_known c bytes next (cut at h inner) n e = ap (λ k. joined (frames_at c (cut at h inner)) (next k)) (some_same inner n e)
at_known c bytes next (whole at h body) n e = ap (λ k. joined (frames_at c (whole at h body)) (next k)) (some_same (at + 44 + h.size - 7) n e)

-- what stands behind bytes of which nothing more is known: their tail, in front of which all is skipped
pub record Rest (bytes more : List ℕ) (places : Places) : Type 0 where
  pub none : places.frames ≡ []
  pub short : length places.tail ≤ length bytes
  pub skips : Skips (length bytes - length places.tail) (bytes ++ more)
  pub there : drop (length bytes - length places.tail) (bytes ++ more) ≡ places.tail ++ more

start_short : (bytes : List ℕ) → length (start_of_magic bytes) ≤ length bytes
start_short [] = omega arith
start_short (b ∷ bytes) = by_test (is_start (b ∷ bytes)) (start_short bytes)
  where
    by_test : (t : Bool) → length (start_of_magic bytes) ≤ length bytes → length (cond t (b ∷ bytes) (start_of_magic bytes)) ≤ length (b ∷ bytes)
    by_test true h = omega arith
    by_test false h = omega arith

-- a list longer than the magic begins none, and what begins none goes on to begin none
pub not_start_long : (bytes : List ℕ) → 8 < length bytes → is_start bytes ≡ false
not_start_long bytes h =
    not_true (is_start bytes) (λ e.
    let same : bytes ≡ take (length bytes) magic = (bytes_eq-Decides bytes (take (length bytes) magic)).0 e in
    let n : length bytes ≡ length (take (length bytes) magic) = ap length same in
    absurd (omega (arith, h, n, length-take (length bytes) magic)))

not_start_more : (xs ys : List ℕ) → is_start xs ≡ false → is_start (xs ++ ys) ≡ false
not_start_more xs ys f =
    not_true (is_start (xs ++ ys)) (λ e.
    let same : xs ++ ys ≡ take (length (xs ++ ys)) magic = (bytes_eq-Decides (xs ++ ys) (take (length (xs ++ ys)) magic)).0 e in
    let long : length xs ≤ length (xs ++ ys) = omega (arith, length-append xs ys) in
    let front : xs ≡ take (length xs) magic =
    sym (take_at xs ys (length xs) refl) ∙ ap (λ t. take (length xs) t) same ∙ take-take (length xs) (length (xs ++ ys)) magic long in
    let clash : false ≡ true = sym f ∙ (bytes_eq-Decides xs (take (length xs) magic)).1 front in
    absurd cc)

-- a short list that goes on to the magic begins it
start_of_longer : (xs ys : List ℕ) → length xs < 8 → is_magic (xs ++ ys) ≡ true → is_start xs ≡ true
start_of_longer xs ys h e =
    let same : magic ≡ take 8 (xs ++ ys) = (bytes_eq-Decides magic (take 8 (xs ++ ys))).0 e in
    let front : xs ≡ take (length xs) magic =
    sym (take_at xs ys (length xs) refl) ∙ sym (take-take (length xs) 8 (xs ++ ys) (omega arith)) ∙ ap (λ t. take (length xs) t) (sym same) in
    (bytes_eq-Decides xs (take (length xs) magic)).1 front

pub skips_to_magic : (bytes more : List ℕ) (at : ℕ) → first_magic bytes ≡ Some at → Skips at (bytes ++ more)
unfolding Skips
skips_to_magic [] more at e = absurd (none-some at e)
skips_to_magic (b ∷ bytes) more at e =
    elim (chosen (is_magic (b ∷ bytes)) (Some 0) (one_further (first_magic bytes)) (Some at) e) [
      | inl p ↦ subst (λ (n : ℕ). Skips n (b ∷ bytes ++ more)) (some_same 0 at p.1) tt
      | inr p ↦
          let inside : at + 8 ≤ length (b ∷ bytes) = magic_inside (b ∷ bytes) at e in
          further (first_magic bytes) (λ m is. skips_to_magic bytes more m is) p.1 (is_magic_front (b ∷ bytes) more (omega arith) ∙ p.0) inside
    ]
  where
    further : (o : Option ℕ) → ((m : ℕ) → o ≡ Some m → Skips m (bytes ++ more)) → one_further o ≡ Some at → is_magic (b ∷ bytes ++ more) ≡ false → at + 8 ≤ length (b ∷ bytes) → Skips at (b ∷ bytes ++ more)
    further None f e other inside = absurd (none-some at e)
    further (Some m) f e other inside =
        let is : m + 1 ≡ at = some_same (m + 1) at e in
        let is' : suc m ≡ at = omega arith in
        subst (λ (n : ℕ). Skips n (b ∷ bytes ++ more)) is' (other, not_start_long (b ∷ bytes ++ more) (omega (arith, length-append bytes more)), f m refl)

abbrev pub Started : List ℕ → List ℕ → ℕ → Type 0
Started bytes more d = Skips d (bytes ++ more) × (drop d (bytes ++ more) ≡ start_of_magic bytes ++ more)

pub skips_to_start : (bytes more : List ℕ) → first_magic bytes ≡ None → Started bytes more (length bytes - length (start_of_magic bytes))
unfolding Skips
skips_to_start [] more e = (tt, refl)
skips_to_start (b ∷ bytes) more e =
    elim (chosen (is_magic (b ∷ bytes)) (Some 0) (one_further (first_magic bytes)) None e) [
      | inl p ↦ absurd (none-some 0 (sym p.1))
      | inr p ↦ by_test (is_start (b ∷ bytes)) refl p.0 (start_short bytes) (skips_to_start bytes more (no_further (first_magic bytes) p.1))
    ]
  where
    no_further : (o : Option ℕ) → one_further o ≡ None → o ≡ None
    no_further None e = refl
    no_further (Some m) e = absurd (none-some (m + 1) (sym e))

    no_magic : (t : Bool) → nat_lt (length (b ∷ bytes)) 8 ≡ t → is_start (b ∷ bytes) ≡ false → is_magic (b ∷ bytes) ≡ false → is_magic (b ∷ bytes ++ more) ≡ false
    no_magic true t s m =
        let less : length (b ∷ bytes) < 8 = grind (arith, nat_tests) in
        not_true (is_magic (b ∷ bytes ++ more)) (λ e. let clash : false ≡ true = sym s ∙ start_of_longer (b ∷ bytes) more less e in absurd cc)
    no_magic false t s m = let enough : 8 ≤ length (b ∷ bytes) = grind (arith, nat_tests) in is_magic_front (b ∷ bytes) more enough ∙ m

    by_test : (t : Bool) → is_start (b ∷ bytes) ≡ t → is_magic (b ∷ bytes) ≡ false → length (start_of_magic bytes) ≤ length bytes → Started bytes more (length bytes - length (start_of_magic bytes)) →
        Skips (length (b ∷ bytes) - length (cond t (b ∷ bytes) (start_of_magic bytes))) (b ∷ bytes ++ more)
        × (drop (length (b ∷ bytes) - length (cond t (b ∷ bytes) (start_of_magic bytes))) (b ∷ bytes ++ more) ≡ cond t (b ∷ bytes) (start_of_magic bytes) ++ more)
    by_test true t m short inner =
        let none : 0 ≡ suc (length bytes) - suc (length bytes) = omega arith in
        subst (λ (d : ℕ). Skips d (b ∷ bytes ++ more) × (drop d (b ∷ bytes ++ more) ≡ b ∷ bytes ++ more)) none (tt, refl)
    by_test false t m short inner =
        let one : suc (length bytes - length (start_of_magic bytes)) ≡ suc (length bytes) - length (start_of_magic bytes) = omega arith in
        subst (λ (d : ℕ). Skips d (b ∷ bytes ++ more) × (drop d (b ∷ bytes ++ more) ≡ start_of_magic bytes ++ more)) one
        ((no_magic (nat_lt (length (b ∷ bytes)) 8) refl t m, not_start_more (b ∷ bytes) more t, inner.0), inner.1)

-- a look from a magic on that isn't known keeps the bytes from that magic on
abbrev Keeps : List ℕ → ℕ → Places → Type 0
Keeps bytes at places = (places.frames ≡ []) × (places.tail ≡ drop at bytes)

keeps : (limit c at : ℕ) (bytes : List ℕ) (next : ℕ → Places) → cursor_after (look_at limit at (drop at bytes)) ≡ None → Keeps bytes at (places_at c bytes next (look_at limit at (drop at bytes)))
keeps limit c at bytes next e = by_test (nat_lt (length (drop at bytes)) 44) e
  where
    by_end :
        (h : Header) (b : Bool) → cursor_after (cond b (whole at h (take h.size (drop 44 (drop at bytes)))) (unended at h)) ≡ None
        → Keeps bytes at (places_at c bytes next (cond b (whole at h (take h.size (drop 44 (drop at bytes)))) (unended at h)))
    by_end h true e = absurd (none-some (at + 44 + h.size - 7) (sym e))
    by_end h false e = (refl, refl)

    by_cut : (h : Header) (m : ℕ) (b : Bool) → cursor_after (cond b (cut at h (at + 8 + m)) (cond (nat_le (44 + h.size) (length (drop at bytes))) (whole at h (take h.size (drop 44 (drop at bytes)))) (unended at h))) ≡ None →
        Keeps bytes at (places_at c bytes next (cond b (cut at h (at + 8 + m)) (cond (nat_le (44 + h.size) (length (drop at bytes))) (whole at h (take h.size (drop 44 (drop at bytes)))) (unended at h))))
    by_cut h m true e = absurd (none-some (at + 8 + m) (sym e))
    by_cut h m false e = by_end h (nat_le (44 + h.size) (length (drop at bytes))) e

    by_inner : (h : Header) (o : Option ℕ) → cursor_after (look_behind at h (drop at bytes) o) ≡ None → Keeps bytes at (places_at c bytes next (look_behind at h (drop at bytes) o))
    by_inner h None e = by_end h (nat_le (44 + h.size) (length (drop at bytes))) e
    by_inner h (Some m) e = by_cut h m (nat_le (8 + m + 8) (44 + h.size)) e

    by_header : (o : Option Header) → cursor_after (look_at_header at (drop at bytes) o) ≡ None → Keeps bytes at (places_at c bytes next (look_at_header at (drop at bytes) o))
    by_header None e = absurd (none-some (at + 8) (sym e))
    by_header (Some h) e = by_inner h (first_magic (drop 8 (drop at bytes))) e

    by_test : (b : Bool) → cursor_after (cond b (begun at) (look_at_header at (drop at bytes) (header_from limit (take 44 (drop at bytes))))) ≡ None →
        Keeps bytes at (places_at c bytes next (cond b (begun at) (look_at_header at (drop at bytes) (header_from limit (take 44 (drop at bytes))))))
    by_test true e = (refl, refl)
    by_test false e = by_header (header_from limit (take 44 (drop at bytes))) e

pub rest_of : (limit c : ℕ) (bytes more : List ℕ) (next : ℕ → Places) → cursor_after (look limit bytes) ≡ None → Rest bytes more (places_at c bytes next (look limit bytes))
unfolding look
rest_of limit c bytes more next e = by_magic (first_magic bytes) refl e
  where
    by_magic : (o : Option ℕ) → first_magic bytes ≡ o → cursor_after (look_from limit bytes o) ≡ None → Rest bytes more (places_at c bytes next (look_from limit bytes o))
    by_magic None is e = let s = skips_to_start bytes more is in record { none = refl; short = start_short bytes; skips = s.0; there = s.1 }
    by_magic (Some at) is e =
        let k = keeps limit c at bytes next e in
        let inside : at + 8 ≤ length bytes = magic_inside bytes at is in
        let tail : length (places_at c bytes next (look_at limit at (drop at bytes))).tail ≡ length bytes - at = ap length k.1 ∙ length-drop at bytes in
        let d : at ≡ length bytes - length (places_at c bytes next (look_at limit at (drop at bytes))).tail = omega (arith, tail, inside) in
        record {
          none = k.0;
          short = omega (arith, tail);
          skips = subst (λ (n : ℕ). Skips n (bytes ++ more)) d (skips_to_magic bytes more at is);
          there = subst (λ (n : ℕ). drop n (bytes ++ more) ≡ (places_at c bytes next (look_at limit at (drop at bytes))).tail ++ more) d
              (drop-append-le at bytes more (omega (arith, inside)) ∙ ap (λ t. t ++ more) (sym k.1));
        }

pub tail_short : (t limit c : ℕ) (bytes : List ℕ) → length (places_from t limit c bytes).tail ≤ length bytes
tail_short zero limit c bytes = omega arith
tail_short (suc t) limit c bytes =
    by_cursor (cursor_after (look limit bytes)) refl (λ n. tail_short t limit (c + n) (drop n bytes))
  where
    by_cursor : (o : Option ℕ) → cursor_after (look limit bytes) ≡ o → ((n : ℕ) → length (places_from t limit (c + n) (drop n bytes)).tail ≤ length (drop n bytes)) → length (places_from (suc t) limit c bytes).tail ≤ length bytes
    by_cursor None e h = (rest_of limit c bytes [] (λ n. places_from t limit (c + n) (drop n bytes)) e).short
    by_cursor (Some n) e h =
        let is : length (places_from (suc t) limit c bytes).tail ≡ length (places_from t limit (c + n) (drop n bytes)).tail =
        ap (λ p. length p.tail) (at_known c bytes (λ n. places_from t limit (c + n) (drop n bytes)) (look limit bytes) n e) in
        omega (arith, is, h n, length-drop n bytes)

-- the places of more bytes are the frames known before, and those from the tail on
abbrev pub Continues : ℕ → ℕ → ℕ → List ℕ → List ℕ → Places → Type 0
Continues turns limit c bytes more before =
    places_from turns limit c (bytes ++ more) ≡ joined before.frames (places_from turns limit (c + (length bytes - length before.tail)) (before.tail ++ more))

two_joined : (first second : List Frame) (later : Places) → joined first (joined second later) ≡ joined (first ++ second) later
two_joined first second later = ap (λ fs. record { frames = fs; unfinished = later.unfinished; tail = later.tail }) (sym (append_assoc first second later.frames))

pub continued : (t turns limit c : ℕ) (bytes more : List ℕ) → length bytes < t → length (bytes ++ more) < turns → Continues turns limit c bytes more (places_from t limit c bytes)
continued zero turns limit c bytes more h h' = absurd (omega arith)
continued (suc t) zero limit c bytes more h h' = absurd (omega arith)
continued (suc t) (suc turns) limit c bytes more h h' =
    by_cursor (cursor_after (look limit bytes)) refl
    (λ n m. continued t turns limit (c + n) (drop n bytes) more (omega (arith, m.0, m.1, length-drop n bytes)) (omega (arith, m.0, m.1, length-drop n bytes, length-append bytes more, length-append (drop n bytes) more)))
  where
    by_cursor :
        (o : Option ℕ) → cursor_after (look limit bytes) ≡ o
        → ((n : ℕ) → Moves n bytes → Continues turns limit (c + n) (drop n bytes) more (places_from t limit (c + n) (drop n bytes)))
        → Continues (suc turns) limit c bytes more (places_from (suc t) limit c bytes)
    by_cursor None e inner =
        let r = rest_of limit c bytes more (λ n. places_from t limit (c + n) (drop n bytes)) e in
        places_shifted turns limit c (length bytes - length (places_from (suc t) limit c bytes).tail) (bytes ++ more) r.skips
        ∙ ap (λ xs. places_from (suc turns) limit (c + (length bytes - length (places_from (suc t) limit c bytes).tail)) xs) r.there
        ∙ ap (λ fs. joined fs (places_from (suc turns) limit (c + (length bytes - length (places_from (suc t) limit c bytes).tail)) ((places_from (suc t) limit c bytes).tail ++ more))) (sym r.none)
    by_cursor (Some n) e inner =
        let m : Moves n bytes = look_moves limit bytes n e in
        let short : length (places_from t limit (c + n) (drop n bytes)).tail ≤ length (drop n bytes) = tail_short t limit (c + n) (drop n bytes) in
        let few : length (places_from t limit (c + n) (drop n bytes)).tail + n ≤ length bytes = omega (arith, short, length-drop n bytes, m.1) in
        let cursor : c + n + (length (drop n bytes) - length (places_from t limit (c + n) (drop n bytes)).tail) ≡ c + (length bytes - length (places_from t limit (c + n) (drop n bytes)).tail) = omega (arith, length-drop n bytes, few) in
        let room : length ((places_from t limit (c + n) (drop n bytes)).tail ++ more) < turns =
        omega (arith, length-append (places_from t limit (c + n) (drop n bytes)).tail more, length-append bytes more, few, m.0, h') in
        ap (λ l. places_at c (bytes ++ more) (λ n. places_from turns limit (c + n) (drop n (bytes ++ more))) l) (look_stays limit bytes more n e)
        ∙ at_known c (bytes ++ more) (λ n. places_from turns limit (c + n) (drop n (bytes ++ more))) (look limit bytes) n e
        ∙ ap (λ xs. joined (frames_at c (look limit bytes)) (places_from turns limit (c + n) xs)) (drop-append-le n bytes more m.1)
        ∙ ap (λ p. joined (frames_at c (look limit bytes)) p) (inner n m)
        ∙ ap (λ k. joined (frames_at c (look limit bytes)) (joined (places_from t limit (c + n) (drop n bytes)).frames (places_from turns limit k ((places_from t limit (c + n) (drop n bytes)).tail ++ more)))) cursor
        ∙ ap (λ p. joined (frames_at c (look limit bytes)) (joined (places_from t limit (c + n) (drop n bytes)).frames p))
        (more_turns turns limit (c + (length bytes - length (places_from t limit (c + n) (drop n bytes)).tail)) ((places_from t limit (c + n) (drop n bytes)).tail ++ more) room)
        ∙ two_joined (frames_at c (look limit bytes)) (places_from t limit (c + n) (drop n bytes)).frames
        (places_from (suc turns) limit (c + (length bytes - length (places_from t limit (c + n) (drop n bytes)).tail)) ((places_from t limit (c + n) (drop n bytes)).tail ++ more))
        ∙ ap (λ p. joined p.frames (places_from (suc turns) limit (c + (length bytes - length p.tail)) (p.tail ++ more))) (sym (at_known c bytes (λ n. places_from t limit (c + n) (drop n bytes)) (look limit bytes) n e))

-- the places do not depend on where the counting begins
pub places_moved : (t limit k c : ℕ) (bytes : List ℕ) → places_from t limit (k + c) bytes ≡ moved_places k (places_from t limit c bytes)
places_moved zero limit k c bytes = refl
places_moved (suc t) limit k c bytes =
    by_look (look limit bytes) (λ n. let e : k + c + n ≡ k + (c + n) = omega arith in ap (λ m. places_from t limit m (drop n bytes)) e ∙ places_moved t limit k (c + n) (drop n bytes))
  where
    by_look : (l : Look) → ((n : ℕ) → places_from t limit (k + c + n) (drop n bytes) ≡ moved_places k (places_from t limit (c + n) (drop n bytes))) →
        places_at (k + c) bytes (λ n. places_from t limit (k + c + n) (drop n bytes)) l ≡ moved_places k (places_at c bytes (λ n. places_from t limit (c + n) (drop n bytes)) l)
    by_look nothing next = refl
    by_look (begun at) next = refl
    by_look (no_header at) next = next (at + 8)
    by_look (unended at h) next =
        let e : k + c + at ≡ k + (c + at) = omega arith in
        ap (λ p. record { frames = []; unfinished = Some (record { position = p; header = h }); tail = drop at bytes }) e
    by_look (cut at h inner) next =
        let e : k + c + at ≡ k + (c + at) = omega arith in
        let f : k + c + inner ≡ k + (c + inner) = omega arith in
        let g : k + (c + inner) + 8 ≡ k + (c + inner + 8) = omega arith in
        ap (λ p. joined_one (record { position = p; end = k + c + inner; header = h; body = None; known = k + c + inner + 8 }) (places_from t limit (k + c + inner) (drop inner bytes))) e
        ∙ ap (λ q. joined_one (record { position = k + (c + at); end = q; header = h; body = None; known = q + 8 }) (places_from t limit (k + c + inner) (drop inner bytes))) f
        ∙ ap (λ q. joined_one (record { position = k + (c + at); end = k + (c + inner); header = h; body = None; known = q }) (places_from t limit (k + c + inner) (drop inner bytes))) g
        ∙ ap (λ r. joined_one (record { position = k + (c + at); end = k + (c + inner); header = h; body = None; known = k + (c + inner + 8) }) r) (next inner)
    by_look (whole at h body) next =
        let e : k + c + at ≡ k + (c + at) = omega arith in
        let f : k + c + at + 44 + h.size ≡ k + (c + at + 44 + h.size) = omega arith in
        ap (λ p.
        joined_one (record { position = p; end = k + c + at + 44 + h.size; header = h; body = Some body; known = k + c + at + 44 + h.size })
        (places_from t limit (k + c + (at + 44 + h.size - 7)) (drop (at + 44 + h.size - 7) bytes)))
        e
        ∙ ap (λ q. joined_one (record { position = k + (c + at); end = q; header = h; body = Some body; known = q }) (places_from t limit (k + c + (at + 44 + h.size - 7)) (drop (at + 44 + h.size - 7) bytes))) f
        ∙ ap (λ r. joined_one (record { position = k + (c + at); end = k + (c + at + 44 + h.size); header = h; body = Some body; known = k + (c + at + 44 + h.size) }) r) (next (at + 44 + h.size - 7))

-- any number of turns that is enough gives the same
pub many_turns : (more t limit c : ℕ) (bytes : List ℕ) → length bytes < t → places_from (t + more) limit c bytes ≡ places_from t limit c bytes
many_turns zero t limit c bytes h = let e : t + 0 ≡ t = omega arith in ap (λ n. places_from n limit c bytes) e
many_turns (suc more) t limit c bytes h =
    let e : t + suc more ≡ suc (t + more) = omega arith in
    ap (λ n. places_from n limit c bytes) e ∙ sym (more_turns (t + more) limit c bytes (omega arith)) ∙ many_turns more t limit c bytes h

pub places_continue : PlacesContinue
unfolding places
places_continue limit bytes more =
    let short : length (places_from (length bytes + 1) limit 0 bytes).tail ≤ length bytes = tail_short (length bytes + 1) limit 0 bytes in
    let turns : length (bytes ++ more) + 1 ≡ length ((places_from (length bytes + 1) limit 0 bytes).tail ++ more) + 1 + (length bytes - length (places_from (length bytes + 1) limit 0 bytes).tail) =
    omega (arith, short, length-append bytes more, length-append (places_from (length bytes + 1) limit 0 bytes).tail more) in
    let cursor : 0 + (length bytes - length (places_from (length bytes + 1) limit 0 bytes).tail) ≡ length bytes - length (places_from (length bytes + 1) limit 0 bytes).tail + 0 = omega arith in
    continued (length bytes + 1) (length (bytes ++ more) + 1) limit 0 bytes more (omega arith) (omega arith)
    ∙ ap (λ k. joined (places_from (length bytes + 1) limit 0 bytes).frames (places_from (length (bytes ++ more) + 1) limit k ((places_from (length bytes + 1) limit 0 bytes).tail ++ more))) cursor
    ∙ ap (λ p. joined (places_from (length bytes + 1) limit 0 bytes).frames p) (
    ap (λ t. places_from t limit (length bytes - length (places_from (length bytes + 1) limit 0 bytes).tail + 0) ((places_from (length bytes + 1) limit 0 bytes).tail ++ more)) turns
    ∙ many_turns (length bytes - length (places_from (length bytes + 1) limit 0 bytes).tail)
    (length ((places_from (length bytes + 1) limit 0 bytes).tail ++ more) + 1) limit
    (length bytes - length (places_from (length bytes + 1) limit 0 bytes).tail + 0) ((places_from (length bytes + 1) limit 0 bytes).tail ++ more)
    (omega arith)
    ∙ places_moved (length ((places_from (length bytes + 1) limit 0 bytes).tail ++ more) + 1) limit (length bytes - length (places_from (length bytes + 1) limit 0 bytes).tail) 0 ((places_from (length bytes + 1) limit 0 bytes).tail ++ more)
    )
