-- A decoder gives exactly the encoder's own pictures, however many there are. Every frame is found where the encoder
-- wrote it, since no magic stands inside it, and its body is read back as the encoder's reconstruction; so both go on
-- from the same reference.
use Rattle.std.proofs.Common.{◌≡◌, ◌≢◌, ◌∙◌, sym, ap, refl, subst, ℕ, suc, zero, ◌+◌, ◌-◌, ◌*◌, ◌/◌, ◌%◌, ◌<◌, ◌≤◌, inl, inr, List, [], ◌∷◌, ◌++◌, length, take, drop, get_or, map, arith, append_assoc, length-append, length-drop}
use Rattle.std.specs.Prelude.{◌⊎◌, Bool, true, false, ◌&&◌, ◌||◌, not, nat_eq, nat_le, nat_lt, cond}
use Rattle.std.specs.List.{flat_map, range_with_len, All}
use Rattle.std.specs.declared.option.Option.{Option}
use Rattle.std.specs.declared.option.Option.TheVariants.{Some, None}
use Rattle.std.proofs.lemmas.Bool.{and_parts, and_from, cond-true, cond-false, cases_lt, cases_eq}
use Rattle.std.proofs.lemmas.Bool.Decides.{nat_tests}
use Rattle.std.proofs.lemmas.List.{take_at, drop_at, drop-append-le, drop-drop, get_or_append_left, get_or-append_right}
use Rattle.std.proofs.lemmas.List.Elements.{All-nil, All-cons, All-head, All-tail, All-from_get_or}
use Rattle.std.proofs.lemmas.List.Folds.{list_any_none}
use Rattle.std.proofs.lemmas.List.FromFn.{length-range_with_len, get_or-range_with_len}
use Rattle.vc_defs.specs.declared.Geometry.{Geometry}
use Rattle.vc_defs.specs.declared.Header.{Header}
use Rattle.vc_defs.specs.Headers.{header_bytes, header_from, is_legal, is_legal_geometry, is_legal_size, size_suits}
use Rattle.vc_base.specs.Limits.{most_bytes}
use Rattle.vc_defs.specs.Bodies.{IsPicture, body_planes}
use Rattle.vc_defs.specs.Places.{first_magic, Look, nothing, begun, no_header, unended, cut, whole, look_behind, look, Frame, Places, joined, places_at, places_from, places, is_claimed, leaves_a_byte}
use Rattle.vc_defs.specs.Decoder.{FrameResult, Picture, Changed, GivenResult, BetweenFrames, ReferenceState, reference_planes, is_present, is_change}
use Rattle.vc_defs.specs.Decoder.{is_passed_over, is_next_number, same_geometry, follows_reference, frame_planes, picture_planes, present_after_header}
use Rattle.vc_defs.specs.Decoder.{given_at_header, given_by, given_at_end, given_then, given_in_frames, given_in, results}
use Rattle.vc_defs.specs.Encoder.{RunRates, EncoderState, fresh_encoder, Encoded, encoded_bytes, is_key_due, next_encoded, encoder_after, encoded_after, encoded}
use Rattle.vc_defs.specs.Laws.{AreRates, IsReferenceOf, IsEncoderState, pictures_at, NoDrift}
use Rattle.vc_defs.proofs.DecodedIsPicture.{AreSamples}
use Rattle.vc_defs.proofs.HeadersAreRead.{header_back}
use Rattle.vc_defs.proofs.KnownPlacesStay.{is_magic, not_true, magic_inside}
use Rattle.vc_defs.proofs.PlacesContinue.{Skips, not_start_long, places_shifted}
use Rattle.vc_defs.proofs.NoMagicInHeaders.{inner_magic, magic_there, ff_there}
use Rattle.vc_defs.proofs.EncodedFits.{encoded_fits}
use Rattle.vc_defs.proofs.FindsInOrder.{Seen, seen}
use Rattle.vc_defs.proofs.PlacesBehindACut.{Heads, first_at_front, look_front}
use Rattle.vc_defs.proofs.RunsResume.{same_geometry_is}
use Rattle.vc_defs.proofs.StateBetweenRuns.{length-header_bytes}
use Rattle.vc_defs.proofs.WrittenBodiesAreRead.{body_back, NoFull, no_full_at, body_no_full}

-- a frame as an encoder writes it
pub record IsWritten (e : Encoded) : Type 0 where
  pub legal : is_legal most_bytes e.header ≡ true
  pub size : e.header.size ≡ length e.body
  pub no_full : NoFull e.body

bytes_long : (e : Encoded) → IsWritten e → length (encoded_bytes e) ≡ 44 + e.header.size
bytes_long e w = length-append (header_bytes e.header) e.body ∙ omega (arith, length-header_bytes most_bytes e.header w.legal, w.size)

-- a header begins with the magic
header_is_magic : (h : Header) (rest : List ℕ) → is_magic (header_bytes h ++ rest) ≡ true
unfolding header_bytes
header_is_magic h rest = refl

heads_of : (e : Encoded) (rest : List ℕ) → IsWritten e → Heads most_bytes (encoded_bytes e ++ rest) e.header
heads_of e rest w =
    let long : length (header_bytes e.header) ≡ 44 = length-header_bytes most_bytes e.header w.legal in
    let parts : encoded_bytes e ++ rest ≡ header_bytes e.header ++ (e.body ++ rest) = append_assoc (header_bytes e.header) e.body rest in (
      ap (λ t. first_magic t) parts ∙ first_at_front (header_bytes e.header ++ (e.body ++ rest)) (header_is_magic e.header (e.body ++ rest)),
      omega (arith, bytes_long e w, length-append (encoded_bytes e) rest),
      ap (λ t. header_from most_bytes (take 44 t)) parts ∙ ap (λ t. header_from most_bytes t) (take_at (header_bytes e.header) (e.body ++ rest) 44 long) ∙ header_back most_bytes e.header w.legal,
    )

-- a byte of the body, counted from the frame's first byte
body_byte : (e : Encoded) (rest : List ℕ) (i : ℕ) → IsWritten e → i < length e.body → get_or (encoded_bytes e ++ rest) (44 + i) 0 ≡ get_or e.body i 0
body_byte e rest i w h =
    let long : length (header_bytes e.header) ≡ 44 = length-header_bytes most_bytes e.header w.legal in
    let back : 44 + i - 44 ≡ i = omega arith in
    ap (λ t. get_or t (44 + i) 0) (append_assoc (header_bytes e.header) e.body rest)
    ∙ get_or-append_right (header_bytes e.header) (e.body ++ rest) 44 (44 + i) 0 long (omega arith)
    ∙ ap (λ k. get_or (e.body ++ rest) k 0) back
    ∙ get_or_append_left e.body rest 0 i h

-- no magic stands inside the frame
none_inside : (e : Encoded) (rest : List ℕ) (n : ℕ) → IsWritten e → first_magic (drop 8 (encoded_bytes e ++ rest)) ≡ Some n → 44 + e.header.size < 8 + n + 8
none_inside e rest n w m =
    elim (cases_lt (44 + e.header.size) (8 + n + 8)) [
      | inl h ↦ h
      | inr h ↦ absurd (by_parity (cases_eq ((8 + n) % 2) 1) h)
    ]
  where
    xs : List ℕ
    xs = encoded_bytes e ++ rest

    late : 33 ≤ n
    late = inner_magic most_bytes e.header xs n (heads_of e rest w).2 m

    there : is_magic (drop (8 + n) xs) ≡ true
    there = ap is_magic (sym (drop-drop n 8 xs)) ∙ magic_there (drop 8 xs) n m

    -- a byte of the magic at an odd place of the body
    clash : (j i : ℕ) → i ≡ 44 + (2 * j + 1) → 8 + n + 4 ≤ i → i < 8 + n + 8 → 8 + n + 8 ≤ 44 + e.header.size → ⊥
    clash j i is low high h =
        let inside : 2 * j + 1 < length e.body = omega (arith, is, high, h, w.size) in
        let small : get_or e.body (2 * j + 1) 0 < 255 = no_full_at e.body j w.no_full inside in
        let full : get_or xs i 0 ≡ 255 = ff_there xs (8 + n) i there low high in
        let same : get_or xs i 0 ≡ get_or e.body (2 * j + 1) 0 = ap (λ k. get_or xs k 0) is ∙ body_byte e rest (2 * j + 1) w inside in
        omega (arith, small, full, same)

    by_parity : ((8 + n) % 2 ≡ 1) ⊎ ((8 + n) % 2 ≢ 1) → 8 + n + 8 ≤ 44 + e.header.size → ⊥
    by_parity (inl odd) h = clash ((n + 12 - 45) / 2) (n + 12) (omega (arith, late, odd)) (omega arith) (omega arith) h
    by_parity (inr even) h = clash ((n + 13 - 45) / 2) (n + 13) (omega (arith, late, even)) (omega arith) (omega arith) h

-- a frame is seen whole
look_whole : (e : Encoded) (rest : List ℕ) → IsWritten e → look most_bytes (encoded_bytes e ++ rest) ≡ whole 0 e.header e.body
look_whole e rest w =
    look_front most_bytes (encoded_bytes e ++ rest) e.header (heads_of e rest w)
    ∙ by_inner (first_magic (drop 8 (encoded_bytes e ++ rest))) (λ n m. none_inside e rest n w m)
  where
    xs : List ℕ
    xs = encoded_bytes e ++ rest

    body_is : take e.header.size (drop 44 xs) ≡ e.body
    body_is =
        ap (λ t. take e.header.size (drop 44 t)) (append_assoc (header_bytes e.header) e.body rest)
        ∙ ap (λ t. take e.header.size t) (drop_at (header_bytes e.header) (e.body ++ rest) 44 (length-header_bytes most_bytes e.header w.legal))
        ∙ take_at e.body rest e.header.size (sym w.size)

    by_end : cond (nat_le (44 + e.header.size) (length xs)) (whole 0 e.header (take e.header.size (drop 44 xs))) (unended 0 e.header) ≡ whole 0 e.header e.body
    by_end =
        let enough : 44 + e.header.size ≤ length xs = omega (arith, bytes_long e w, length-append (encoded_bytes e) rest) in
        cond-true (nat_le (44 + e.header.size) (length xs)) (whole 0 e.header (take e.header.size (drop 44 xs))) (unended 0 e.header) (grind (arith, nat_tests)) ∙ ap (λ t. whole 0 e.header t) body_is

    by_inner : (o : Option ℕ) → ((n : ℕ) → o ≡ Some n → 44 + e.header.size < 8 + n + 8) → look_behind 0 e.header xs o ≡ whole 0 e.header e.body
    by_inner None far = by_end
    by_inner (Some n) far =
        let late : 44 + e.header.size < 8 + n + 8 = far n refl in
        cond-false (nat_le (8 + n + 8) (44 + e.header.size)) (cut 0 e.header (0 + 8 + n))
        (cond (nat_le (44 + e.header.size) (length xs)) (whole 0 e.header (take e.header.size (drop 44 xs))) (unended 0 e.header))
        (grind (arith, nat_tests))
        ∙ by_end

-- the first bytes of a header
at_least : (h : Header) (rest : List ℕ) → 8 ≤ length (header_bytes h ++ rest)
unfolding header_bytes
at_least h rest = omega arith

front_byte : (h : Header) (rest : List ℕ) (i : ℕ) → i < 4 → get_or (header_bytes h ++ rest) i 0 ≡ 79
unfolding header_bytes
front_byte h rest zero k = refl
front_byte h rest (suc zero) k = refl
front_byte h rest (suc (suc zero)) k = refl
front_byte h rest (suc (suc (suc zero))) k = refl
front_byte h rest (suc (suc (suc (suc i)))) k = absurd (omega arith)

-- no magic begins in seven bytes in front of a frame
skips_before : (d : ℕ) (before rest : List ℕ) (h : Header) → length before ≡ d → d ≤ 7 → Skips d (before ++ (header_bytes h ++ rest))
unfolding Skips
skips_before zero before rest h e small = tt
skips_before (suc d) [] rest h e small = absurd (omega arith)
skips_before (suc d) (b ∷ before) rest h e small = (
  not_true (is_magic (b ∷ before ++ (header_bytes h ++ rest))) (λ m. clash m),
  not_start_long (b ∷ before ++ (header_bytes h ++ rest)) (omega (arith, long, length-append before (header_bytes h ++ rest))),
  skips_before d before rest h (omega arith) (omega arith),
)
  where
    long : 8 ≤ length (header_bytes h ++ rest)
    long = at_least h rest

    -- the four bytes 4f of the frame's magic stand where the other one would have ff
    byte_of : (i : ℕ) → i < 4 → get_or (b ∷ before ++ (header_bytes h ++ rest)) (suc d + i) 0 ≡ 79
    byte_of i k =
        let back : suc d + i - suc d ≡ i = omega arith in
        get_or-append_right (b ∷ before) (header_bytes h ++ rest) (suc d) (suc d + i) 0 e (omega arith)
        ∙ ap (λ n. get_or (header_bytes h ++ rest) n 0) back
        ∙ front_byte h rest i k

    clash : is_magic (b ∷ before ++ (header_bytes h ++ rest)) ≡ true → ⊥
    clash m =
        elim (cases_lt (suc d) 4) [
          | inl low ↦
              let full : get_or (b ∷ before ++ (header_bytes h ++ rest)) 4 0 ≡ 255 = ff_there (b ∷ before ++ (header_bytes h ++ rest)) 0 4 m (omega arith) (omega arith) in
              let i : suc d + (4 - suc d) ≡ 4 = omega arith in
              let four : get_or (b ∷ before ++ (header_bytes h ++ rest)) 4 0 ≡ 79 = ap (λ n. get_or (b ∷ before ++ (header_bytes h ++ rest)) n 0) (sym i) ∙ byte_of (4 - suc d) (omega arith) in
              omega (arith, full, four)
          | inr high ↦
              let full : get_or (b ∷ before ++ (header_bytes h ++ rest)) (suc d + 0) 0 ≡ 255 = ff_there (b ∷ before ++ (header_bytes h ++ rest)) 0 (suc d + 0) m (omega arith) (omega arith) in
              let four : get_or (b ∷ before ++ (header_bytes h ++ rest)) (suc d + 0) 0 ≡ 79 = byte_of 0 (omega arith) in
              omega (arith, full, four)
        ]

-- the frames of what an encoder wrote, from a place on
unfoldable pub frames_list : ℕ → List Encoded → List Frame
frames_list c [] = []
frames_list c (e ∷ es) =
    record { position = c; end = c + 44 + e.header.size; header = e.header; body = Some e.body; known = c + 44 + e.header.size } ∷ frames_list (c + 44 + e.header.size) es

-- so few bytes have no frame
few_places : (t limit c : ℕ) (xs : List ℕ) → length xs < 8 → ((places_from t limit c xs).frames ≡ []) × ((places_from t limit c xs).unfinished ≡ None)
few_places zero limit c xs h = (refl, refl)
few_places (suc t) limit c xs h = by_look (look limit xs) (seen limit xs)
  where
    none : (at : ℕ) → first_magic xs ≡ Some at → ⊥
    none at e = let inside : at + 8 ≤ length xs = magic_inside xs at e in omega arith

    by_look : (l : Look) → Seen limit xs l → ((places_at c xs (λ n. places_from t limit (c + n) (drop n xs)) l).frames ≡ []) × ((places_at c xs (λ n. places_from t limit (c + n) (drop n xs)) l).unfinished ≡ None)
    by_look nothing s = (refl, refl)
    by_look (begun at) s = absurd (none at s.0)
    by_look (no_header at) s = absurd (none at s.0)
    by_look (unended at h) s = absurd (none at s.0)
    by_look (cut at h inner) s = absurd (none at s.0)
    by_look (whole at h body) s = absurd (none at s.0)

abbrev Written : List Encoded → Type 0
Written es = All IsWritten es

abbrev Has : ℕ → List Encoded → Places → Type 0
Has c es p = (p.frames ≡ frames_list c es) × (p.unfinished ≡ None)

-- one frame, and what is found behind it
one_place :
    (t c : ℕ) (e : Encoded) (es : List Encoded) (rest : List ℕ) → IsWritten e
    → Has (c + 44 + e.header.size) es (places_from t most_bytes (c + (0 + 44 + e.header.size - 7)) (drop (0 + 44 + e.header.size - 7) (encoded_bytes e) ++ rest))
    →
    Has c (e ∷ es) (places_from (suc t) most_bytes c (encoded_bytes e ++ rest))
unfolding frames_list
one_place t c e es rest w later =
    let n : ℕ = 0 + 44 + e.header.size - 7 in
    let inside : 0 + 44 + e.header.size - 7 ≤ length (encoded_bytes e) = omega (arith, bytes_long e w) in
    let zero_more : c + 0 ≡ c = omega arith in
    let frame : ℕ → Frame = λ k. record { position = k; end = k + 44 + e.header.size; header = e.header; body = Some e.body; known = k + 44 + e.header.size } in
    let is : places_from (suc t) most_bytes c (encoded_bytes e ++ rest) ≡ joined (frame c ∷ []) (places_from t most_bytes (c + (0 + 44 + e.header.size - 7)) (drop (0 + 44 + e.header.size - 7) (encoded_bytes e) ++ rest)) =
    ap (λ l. places_at c (encoded_bytes e ++ rest) (λ n. places_from t most_bytes (c + n) (drop n (encoded_bytes e ++ rest))) l) (look_whole e rest w)
    ∙ ap (λ k. joined (frame k ∷ []) (places_from t most_bytes (c + (0 + 44 + e.header.size - 7)) (drop (0 + 44 + e.header.size - 7) (encoded_bytes e ++ rest)))) zero_more
    ∙ ap (λ xs. joined (frame c ∷ []) (places_from t most_bytes (c + (0 + 44 + e.header.size - 7)) xs)) (drop-append-le (0 + 44 + e.header.size - 7) (encoded_bytes e) rest inside) in
    (ap (λ (p : Places). p.frames) is ∙ ap (λ fs. frame c ∷ fs) later.0, ap (λ (p : Places). p.unfinished) is ∙ later.1)

-- seven bytes in front of a frame are skipped
over_seven : (t c : ℕ) (before : List ℕ) (e : Encoded) (rest : List ℕ) → length before ≡ 7 → places_from (suc t) most_bytes c (before ++ (encoded_bytes e ++ rest)) ≡ places_from (suc t) most_bytes (c + 7) (encoded_bytes e ++ rest)
over_seven t c before e rest seven =
    let parts : encoded_bytes e ++ rest ≡ header_bytes e.header ++ (e.body ++ rest) = append_assoc (header_bytes e.header) e.body rest in
    places_shifted t most_bytes c 7 (before ++ (encoded_bytes e ++ rest)) (subst (λ (t : List ℕ). Skips 7 (before ++ t)) (sym parts) (skips_before 7 before (e.body ++ rest) e.header seven (omega arith)))
    ∙ ap (λ xs. places_from (suc t) most_bytes (c + 7) xs) (drop_at before (encoded_bytes e ++ rest) 7 seven)

-- the places of what an encoder wrote
written_places : (t c : ℕ) (es : List Encoded) → Written es → length (flat_map encoded_bytes es) < t → Has c es (places_from t most_bytes c (flat_map encoded_bytes es))
unfolding frames_list
written_places zero c es w h = absurd (omega arith)
written_places (suc t) c [] w h = few_places (suc t) most_bytes c [] (omega arith)
written_places (suc t) c (e ∷ []) w h =
    let one : IsWritten e = All-head IsWritten e [] w in
    let seven : length (drop (0 + 44 + e.header.size - 7) (encoded_bytes e) ++ []) < 8 =
    omega (arith, length-append (drop (0 + 44 + e.header.size - 7) (encoded_bytes e)) [], length-drop (0 + 44 + e.header.size - 7) (encoded_bytes e), bytes_long e one) in
    one_place t c e [] [] one (few_places t most_bytes (c + (0 + 44 + e.header.size - 7)) (drop (0 + 44 + e.header.size - 7) (encoded_bytes e) ++ []) seven)
written_places (suc zero) c (e ∷ e' ∷ es) w h =
    let one : IsWritten e = All-head IsWritten e (e' ∷ es) w in
    absurd (omega (arith, h, length-append (encoded_bytes e) (flat_map encoded_bytes (e' ∷ es)), bytes_long e one))
written_places (suc (suc t)) c (e ∷ e' ∷ es) w h =
    let one : IsWritten e = All-head IsWritten e (e' ∷ es) w in
    let rest : List ℕ = flat_map encoded_bytes (e' ∷ es) in
    let before : List ℕ = drop (0 + 44 + e.header.size - 7) (encoded_bytes e) in
    let seven : length (drop (0 + 44 + e.header.size - 7) (encoded_bytes e)) ≡ 7 = omega (arith, length-drop (0 + 44 + e.header.size - 7) (encoded_bytes e), bytes_long e one) in
    let later = written_places (suc t) (c + 44 + e.header.size) (e' ∷ es) (All-tail IsWritten e (e' ∷ es) w) (omega (arith, h, length-append (encoded_bytes e) (flat_map encoded_bytes (e' ∷ es)), bytes_long e one)) in
    let cursor : c + (0 + 44 + e.header.size - 7) + 7 ≡ c + 44 + e.header.size = omega arith in
    let is : places_from (suc t) most_bytes (c + (0 + 44 + e.header.size - 7)) (before ++ flat_map encoded_bytes (e' ∷ es)) ≡ places_from (suc t) most_bytes (c + 44 + e.header.size) (flat_map encoded_bytes (e' ∷ es)) =
    over_seven t (c + (0 + 44 + e.header.size - 7)) before e' (flat_map encoded_bytes es) seven
    ∙ ap (λ k. places_from (suc t) most_bytes k (flat_map encoded_bytes (e' ∷ es))) cursor in
    one_place (suc t) c e (e' ∷ es) (flat_map encoded_bytes (e' ∷ es)) one (subst (λ (p : Places). Has (c + 44 + e.header.size) (e' ∷ es) p) (sym is) later)

-- each byte has its frame
claimed : (c : ℕ) (es : List Encoded) (i : ℕ) → Written es → c ≤ i → i < c + length (flat_map encoded_bytes es) → is_claimed (frames_list c es) i ≡ true
unfolding frames_list
claimed c [] i w low high = absurd (omega arith)
claimed c (e ∷ es) i w low high =
    elim (cases_lt i (c + 44 + e.header.size)) [
      | inl h ↦ first (grind (arith, nat_tests)) (grind (arith, nat_tests))
      | inr h ↦
          second (claimed (c + 44 + e.header.size) es i (All-tail IsWritten e es w) h (omega (arith, high, length-append (encoded_bytes e) (flat_map encoded_bytes es), bytes_long e (All-head IsWritten e es w))))
    ]
  where
    first : nat_le c i ≡ true → nat_lt i (c + 44 + e.header.size) ≡ true → (nat_le c i && nat_lt i (c + 44 + e.header.size) || is_claimed (frames_list (c + 44 + e.header.size) es) i) ≡ true
    first a b = ap (λ x. x && nat_lt i (c + 44 + e.header.size) || is_claimed (frames_list (c + 44 + e.header.size) es) i) a ∙ ap (λ x. true && x || is_claimed (frames_list (c + 44 + e.header.size) es) i) b

    or_true : (b : Bool) → (b || true) ≡ true
    or_true true = refl
    or_true false = refl

    second : is_claimed (frames_list (c + 44 + e.header.size) es) i ≡ true → (nat_le c i && nat_lt i (c + 44 + e.header.size) || is_claimed (frames_list (c + 44 + e.header.size) es) i) ≡ true
    second a = ap (λ x. nat_le c i && nat_lt i (c + 44 + e.header.size) || x) a ∙ or_true (nat_le c i && nat_lt i (c + 44 + e.header.size))

none_left : (es : List Encoded) → Written es → leaves_a_byte (flat_map encoded_bytes es) most_bytes ≡ false
unfolding places
none_left es w =
    list_any_none (λ i. not (is_claimed (places (flat_map encoded_bytes es) most_bytes).frames i)) (range_with_len 0 (length (flat_map encoded_bytes es)))
    (All-from_get_or (λ i. not (is_claimed (places (flat_map encoded_bytes es) most_bytes).frames i) ≡ false)
    (range_with_len 0 (length (flat_map encoded_bytes es))) 0
    (λ i h. at i (omega (arith, h, length-range_with_len 0 (length (flat_map encoded_bytes es))))))
  where
    has : Has 0 es (places (flat_map encoded_bytes es) most_bytes)
    has = written_places (length (flat_map encoded_bytes es) + 1) 0 es w (omega arith)

    at : (i : ℕ) → i < length (flat_map encoded_bytes es) → not (is_claimed (places (flat_map encoded_bytes es) most_bytes).frames (get_or (range_with_len 0 (length (flat_map encoded_bytes es))) i 0)) ≡ false
    at i h =
        let is : get_or (range_with_len 0 (length (flat_map encoded_bytes es))) i 0 ≡ i = get_or-range_with_len 0 (length (flat_map encoded_bytes es)) i 0 h ∙ omega arith in
        ap (λ k. not (is_claimed (places (flat_map encoded_bytes es) most_bytes).frames k)) is
        ∙ ap (λ fs. not (is_claimed fs i)) has.0
        ∙ ap (λ b. not b) (claimed 0 es i w (omega arith) (omega arith))

-- Section: what the frames give.

-- a state of an encoder behind a frame
record Follows (g : Geometry) (s : EncoderState) : Type 0 where
  last : ReferenceState
  is : s.reference ≡ Some last
  geometry : last.geometry ≡ g
  picture : IsPicture g last.planes
  number : ℕ
  numbered : last.number ≡ Some number
  next : s.since_reset ≡ (number + 1) % 2048

encoder_state : (g : Geometry) (s : EncoderState) → Follows g s → IsEncoderState g s
encoder_state g s f = (subst (λ (r : Option ReferenceState). IsReferenceOf g r) (sym f.is) (f.geometry, f.picture), omega (arith, f.next))

or_true : (b : Bool) → (b || true) ≡ true
or_true true = refl
or_true false = refl

-- a frame of the present geometry that goes on from the reference
good_frame :
    (g : Geometry) (r : ReferenceState) (f : Frame) (body : List ℕ) (planes : List (List ℕ)) (rest : BetweenFrames → List GivenResult)
    → f.body ≡ Some body → f.header.geometry ≡ g → (f.header.key || follows_reference f.header (Some r)) ≡ true
    → body_planes f.header r.planes body ≡ Some planes →
    given_then (is_passed_over f.header (Some r)) f (record { geometry = Some g; reference = Some r }) rest
    ≡ given_by f (record { geometry = Some g; reference = Some r }) (Some planes) ∷ rest (given_by f (record { geometry = Some g; reference = Some r }) (Some planes)).present
good_frame g r f body planes rest b h follows read =
    let now : BetweenFrames = record { geometry = Some g; reference = Some r } in
    let same : same_geometry g f.header.geometry ≡ true = ap (λ i. same_geometry g i) h ∙ same_geometry_is g in
    let none : is_change f.header (Some g) ≡ false = ap (λ x. f.header.key && not x) same ∙ and_false f.header.key in
    let first : given_at_header f.position f.header now ≡ [] =
    cond-false (is_change f.header (Some g))
    (record { result = record { position = f.position; known = f.position + 44; kind = Changed f.header.geometry }; present = record { geometry = Some f.header.geometry; reference = None } } ∷ [])
    [] none in
    let still : present_after_header f.header now ≡ now = cond-false (is_change f.header (Some g)) (record { geometry = Some f.header.geometry; reference = None }) now none in
    let present : (f.header.key || is_present (Some g) f.header.geometry) ≡ true = ap (λ x. f.header.key || x) same ∙ or_true f.header.key in
    let good : picture_planes f now ≡ Some planes =
    ap (λ o. elim o as (λ _. Option (List (List ℕ))) [ None ↦ None | Some body ↦ cond (f.header.key || is_present (Some g) f.header.geometry) (frame_planes f.header (Some r) body) None ]) b
    ∙ cond-true (f.header.key || is_present (Some g) f.header.geometry) (frame_planes f.header (Some r) body) None present
    ∙ cond-true (f.header.key || follows_reference f.header (Some r)) (body_planes f.header r.planes body) None follows
    ∙ read in
    ap (λ t. t ++ given_at_end f (present_after_header f.header now) ∷ rest (given_at_end f (present_after_header f.header now)).present) first
    ∙ ap (λ p. given_at_end f p ∷ rest (given_at_end f p).present) still
    ∙ ap (λ o. given_by f now o ∷ rest (given_by f now o).present) good
  where
    and_false : (b : Bool) → (b && false) ≡ false
    and_false true = refl
    and_false false = refl

abbrev results_only : List GivenResult → List FrameResult
results_only gs = map (λ (x : GivenResult). x.result) gs

wide_enough : (g : Geometry) → is_legal_geometry g ≡ true → 16 ≤ g.width
wide_enough g e =
    let size = and_parts (is_legal_size g.width g.height) (size_suits g.layout g.width g.height) e in
    let a = and_parts (nat_le 16 g.width && nat_le g.width 4096 && nat_le 16 g.height) (nat_le g.height 2160) size.0 in
    let b = and_parts (nat_le 16 g.width && nat_le g.width 4096) (nat_le 16 g.height) a.0 in
    let c = and_parts (nat_le 16 g.width) (nat_le g.width 4096) b.0 in
    let w : nat_le 16 g.width ≡ true = c.0 in
    grind (arith, nat_tests)

reference_samples : (g : Geometry) (r : Option ReferenceState) → IsReferenceOf g r → All AreSamples (reference_planes r)
reference_samples g None p = All-nil AreSamples
reference_samples g (Some r) p = p.1.1

-- the next frame is read back
next_back : (g : Geometry) (s : EncoderState) (planes : List (List ℕ)) (rates : RunRates) → is_legal_geometry g ≡ true → IsEncoderState g s → IsPicture g planes →
    body_planes (next_encoded g s planes rates).header (reference_planes s.reference) (next_encoded g s planes rates).body ≡ Some (next_encoded g s planes rates).planes
next_back g s planes rates legal state p =
    body_back g (is_key_due s.reference s.since_key rates.gop) (cond (is_key_due s.reference s.since_key rates.gop) rates.iqp rates.pqp) s.since_reset
    planes (reference_planes s.reference) (wide_enough g legal) p (reference_samples g s.reference state.0)

next_written : (g : Geometry) (s : EncoderState) (planes : List (List ℕ)) (rates : RunRates) → is_legal_geometry g ≡ true → IsEncoderState g s → IsPicture g planes → IsWritten (next_encoded g s planes rates)
next_written g s planes rates legal state p =
    let f = encoded_fits g s planes rates legal state p in
    record {
      legal = f.0;
      size = f.1;
      no_full =
          body_no_full g (is_key_due s.reference s.since_key rates.gop) (cond (is_key_due s.reference s.since_key rates.gop) rates.iqp rates.pqp)
          s.since_reset planes (reference_planes s.reference) p (reference_samples g s.reference state.0);
    }

next_follows : (g : Geometry) (s : EncoderState) (planes : List (List ℕ)) (rates : RunRates) → is_legal_geometry g ≡ true → IsEncoderState g s → IsPicture g planes → Follows g (encoder_after s (next_encoded g s planes rates))
next_follows g s planes rates legal state p =
    let f = encoded_fits g s planes rates legal state p in
    record {
      last = record { geometry = g; planes = (next_encoded g s planes rates).planes; number = Some s.since_reset };
      is = refl;
      geometry = refl;
      picture = f.4;
      number = s.since_reset;
      numbered = refl;
      next = refl;
    }

-- a P frame goes on from the frame before it
number_follows : (g : Geometry) (s : EncoderState) (f : Follows g s) (h : Header) → h.geometry ≡ g → h.number ≡ Some s.since_reset → follows_reference h (Some f.last) ≡ true
number_follows g s f h geometry number =
    let same : same_geometry f.last.geometry h.geometry ≡ true = ap (λ i. same_geometry i h.geometry) f.geometry ∙ ap (λ i. same_geometry g i) geometry ∙ same_geometry_is g in
    let next : is_next_number f.last.number h.number ≡ true = ap (λ o. is_next_number o h.number) f.numbered ∙ ap (λ o. is_next_number (Some f.number) o) number ∙ equal s.since_reset ((f.number + 1) % 2048) f.next in
    and_from (same_geometry f.last.geometry h.geometry) (is_next_number f.last.number h.number) same next
  where
    equal : (m n : ℕ) → m ≡ n → nat_eq m n ≡ true
    equal m n e = grind (arith, nat_tests)

abbrev Pictures : Geometry → List (List (List ℕ) × RunRates) → Type 0
Pictures g pictures = All (λ (p : List (List ℕ) × RunRates). IsPicture g p.0 × AreRates p.1) pictures

all_written : (g : Geometry) (s : EncoderState) (pictures : List (List (List ℕ) × RunRates)) → is_legal_geometry g ≡ true → IsEncoderState g s → Pictures g pictures → Written (encoded_after g s pictures)
all_written g s [] legal state p = All-nil IsWritten
all_written g s (picture ∷ pictures) legal state p =
    let here : IsPicture g picture.0 = (All-head (λ (p : List (List ℕ) × RunRates). IsPicture g p.0 × AreRates p.1) picture pictures p).0 in
    let e : Encoded = next_encoded g s picture.0 picture.1 in
    All-cons IsWritten (next_encoded g s picture.0 picture.1) (encoded_after g (encoder_after s (next_encoded g s picture.0 picture.1)) pictures) (next_written g s picture.0 picture.1 legal state here)
    (all_written g (encoder_after s (next_encoded g s picture.0 picture.1)) pictures legal
    (encoder_state g (encoder_after s (next_encoded g s picture.0 picture.1)) (next_follows g s picture.0 picture.1 legal state here))
    (All-tail (λ (p : List (List ℕ) × RunRates). IsPicture g p.0 × AreRates p.1) picture pictures p))

-- what stands behind a frame that gave its picture
abbrev after_picture : Geometry → Encoded → BetweenFrames
after_picture g e = record { geometry = Some g; reference = Some (record { geometry = e.header.geometry; planes = e.planes; number = e.header.number }) }

-- the result of a frame, and where it is known
picture_result : (c : ℕ) (e : Encoded) (es : List Encoded) (rest : List FrameResult) → IsWritten e → rest ≡ pictures_at (c + 44 + e.header.size) es →
    record { position = c; known = c + 44 + e.header.size; kind = Picture e.header.geometry e.header.key e.planes } ∷ rest ≡ pictures_at c (e ∷ es)
picture_result c e es rest w later =
    let end : c + 44 + e.header.size ≡ c + length (encoded_bytes e) = omega (arith, bytes_long e w) in
    ap (λ t. record { position = c; known = c + 44 + e.header.size; kind = Picture e.header.geometry e.header.key e.planes } ∷ t) later
    ∙ ap (λ n. record { position = c; known = n; kind = Picture e.header.geometry e.header.key e.planes } ∷ pictures_at n es) end

-- a frame behind another one
later_step :
    (g : Geometry) (r : ReferenceState) (c : ℕ) (e : Encoded) (es : List Encoded) → e.header.geometry ≡ g
    → (e.header.key || follows_reference e.header (Some r)) ≡ true → body_planes e.header r.planes e.body ≡ Some e.planes → IsWritten e →
    results_only (given_in_frames (frames_list (c + 44 + e.header.size) es) None (after_picture g e)) ≡ pictures_at (c + 44 + e.header.size) es →
    results_only (given_in_frames (frames_list c (e ∷ es)) None (record { geometry = Some g; reference = Some r })) ≡ pictures_at c (e ∷ es)
unfolding frames_list
later_step g r c e es h follows read w later =
    let f : Frame = record { position = c; end = c + 44 + e.header.size; header = e.header; body = Some e.body; known = c + 44 + e.header.size } in
    ap (λ gs. results_only gs) (good_frame g r f e.body e.planes (λ p. given_in_frames (frames_list (c + 44 + e.header.size) es) None p) refl h follows read)
    ∙ picture_result c e es (results_only (given_in_frames (frames_list (c + 44 + e.header.size) es) None (after_picture g e))) w later

-- the frames behind the first one give their pictures
later_pictures : (g : Geometry) (s : EncoderState) (c : ℕ) (pictures : List (List (List ℕ) × RunRates)) (f : Follows g s) → is_legal_geometry g ≡ true → Pictures g pictures →
    results_only (given_in_frames (frames_list c (encoded_after g s pictures)) None (record { geometry = Some g; reference = Some f.last })) ≡ pictures_at c (encoded_after g s pictures)
unfolding frames_list next_follows
later_pictures g s c [] f legal p = refl
later_pictures g s c (picture ∷ pictures) f legal p =
    let here : IsPicture g picture.0 = (All-head (λ (p : List (List ℕ) × RunRates). IsPicture g p.0 × AreRates p.1) picture pictures p).0 in
    let state : IsEncoderState g s = encoder_state g s f in
    let e : Encoded = next_encoded g s picture.0 picture.1 in
    let follows : follows_reference (next_encoded g s picture.0 picture.1).header (Some f.last) ≡ true = number_follows g s f (next_encoded g s picture.0 picture.1).header refl refl in
    later_step g f.last c (next_encoded g s picture.0 picture.1) (encoded_after g (encoder_after s (next_encoded g s picture.0 picture.1)) pictures) refl
    (ap (λ b. (next_encoded g s picture.0 picture.1).header.key || b) follows ∙ or_true (next_encoded g s picture.0 picture.1).header.key)
    (subst (λ (o : Option ReferenceState).
    body_planes (next_encoded g s picture.0 picture.1).header (reference_planes o) (next_encoded g s picture.0 picture.1).body ≡ Some (next_encoded g s picture.0 picture.1).planes)
    f.is (next_back g s picture.0 picture.1 legal state here))
    (next_written g s picture.0 picture.1 legal state here)
    (later_pictures g (encoder_after s (next_encoded g s picture.0 picture.1)) (c + 44 + (next_encoded g s picture.0 picture.1).header.size) pictures
    (next_follows g s picture.0 picture.1 legal state here) legal
    (All-tail (λ (p : List (List ℕ) × RunRates). IsPicture g p.0 × AreRates p.1) picture pictures p))

-- the first frame gives the change and its picture
first_step : (g : Geometry) (c : ℕ) (e : Encoded) (es : List Encoded) → e.header.geometry ≡ g → e.header.key ≡ true → body_planes e.header [] e.body ≡ Some e.planes → IsWritten e →
    results_only (given_in_frames (frames_list (c + 44 + e.header.size) es) None (after_picture e.header.geometry e)) ≡ pictures_at (c + 44 + e.header.size) es →
    results_only (given_in_frames (frames_list c (e ∷ es)) None (record { geometry = None; reference = None })) ≡ record { position = c; known = c + 44; kind = Changed g } ∷ pictures_at c (e ∷ es)
unfolding frames_list
first_step g c e es h key read w later =
    ap (λ b. results_only (given_then (not b) f none rest)) key
    ∙ ap (λ b. results_only (cond (b && true) (change ∷ []) [] ++ given_at_end f (cond (b && true) began none) ∷ rest (given_at_end f (cond (b && true) began none)).present)) key
    ∙ ap (λ o. results_only (change ∷ given_by f began o ∷ rest (given_by f began o).present)) good
    ∙ ap (λ t. change.result ∷ t) (picture_result c e es (results_only (rest (after_picture e.header.geometry e))) w later)
    ∙ ap (λ i. record { position = c; known = c + 44; kind = Changed i } ∷ pictures_at c (e ∷ es)) h
  where
    f : Frame
    f = record { position = c; end = c + 44 + e.header.size; header = e.header; body = Some e.body; known = c + 44 + e.header.size }

    none : BetweenFrames
    none = record { geometry = None; reference = None }

    began : BetweenFrames
    began = record { geometry = Some e.header.geometry; reference = None }

    change : GivenResult
    change = record { result = record { position = c; known = c + 44; kind = Changed e.header.geometry }; present = began }

    rest : BetweenFrames → List GivenResult
    rest p = given_in_frames (frames_list (c + 44 + e.header.size) es) None p

    good : picture_planes f began ≡ Some e.planes
    good =
        ap (λ b. cond (b || is_present (Some e.header.geometry) e.header.geometry) (frame_planes e.header None e.body) None) key
        ∙ ap (λ b. cond (b || false) (body_planes e.header [] e.body) None) key
        ∙ read

fresh_state : (g : Geometry) → IsEncoderState g fresh_encoder
fresh_state g = (tt, omega arith)

no_drift_of : (g : Geometry) (picture : List (List ℕ) × RunRates) (pictures : List (List (List ℕ) × RunRates)) → is_legal_geometry g ≡ true → Pictures g (picture ∷ pictures) →
    results (flat_map encoded_bytes (encoded_after g fresh_encoder (picture ∷ pictures))) most_bytes None None
    ≡ record { position = 0; known = 44; kind = Changed g } ∷ pictures_at 0 (encoded_after g fresh_encoder (picture ∷ pictures))
unfolding results given_in places next_follows
no_drift_of g picture pictures legal p =
    let here : IsPicture g picture.0 = (All-head (λ (p : List (List ℕ) × RunRates). IsPicture g p.0 × AreRates p.1) picture pictures p).0 in
    let all = all_written g fresh_encoder (picture ∷ pictures) legal (fresh_state g) p in
    let has = written_places (length (flat_map encoded_bytes (encoded_after g fresh_encoder (picture ∷ pictures))) + 1) 0 (encoded_after g fresh_encoder (picture ∷ pictures)) all (omega arith) in
    let first : Encoded = next_encoded g fresh_encoder picture.0 picture.1 in
    ap (λ fs. results_only (given_in_frames fs (places (flat_map encoded_bytes (encoded_after g fresh_encoder (picture ∷ pictures))) most_bytes).unfinished (record { geometry = None; reference = None }))) has.0
    ∙ ap (λ u. results_only (given_in_frames (frames_list 0 (encoded_after g fresh_encoder (picture ∷ pictures))) u (record { geometry = None; reference = None }))) has.1
    ∙ first_step g 0 (next_encoded g fresh_encoder picture.0 picture.1) (encoded_after g (encoder_after fresh_encoder (next_encoded g fresh_encoder picture.0 picture.1)) pictures) refl refl
    (next_back g fresh_encoder picture.0 picture.1 legal (fresh_state g) here)
    (next_written g fresh_encoder picture.0 picture.1 legal (fresh_state g) here)
    (later_pictures g (encoder_after fresh_encoder (next_encoded g fresh_encoder picture.0 picture.1)) (0 + 44 + (next_encoded g fresh_encoder picture.0 picture.1).header.size) pictures
    (next_follows g fresh_encoder picture.0 picture.1 legal (fresh_state g) here) legal (All-tail (λ (p : List (List ℕ) × RunRates). IsPicture g p.0 × AreRates p.1) picture pictures p))

pub no_drift : NoDrift
unfolding encoded
no_drift g [] legal some p = absurd (omega arith)
no_drift g (picture ∷ pictures) legal some p = (no_drift_of g picture pictures legal p, none_left (encoded_after g fresh_encoder (picture ∷ pictures)) (all_written g fresh_encoder (picture ∷ pictures) legal (fresh_state g) p))
