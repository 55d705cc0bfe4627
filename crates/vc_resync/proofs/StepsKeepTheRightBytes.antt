-- What each step makes of the kept bytes is what the definition keeps: the beginning of a magic, a header so far, or
-- a frame so far. Each step adds bytes to these, and goes on by whether they are whole.
use Rattle.std.proofs.Common.{◌≡◌, ◌≢◌, ◌∙◌, sym, ap, refl, subst, ℕ, ◌+◌, ◌-◌, ◌<◌, ◌≤◌, List, [], ◌++◌, length, take, drop, arith, length-append, length-take, length-drop}
use Rattle.std.specs.Prelude.{Bool, true, false, ◌&&◌, nat_le, nat_lt, cond}
use Rattle.std.specs.declared.option.Option.TheVariants.{Some, None}
use Rattle.std.proofs.lemmas.Option.{none-some}
use Rattle.std.proofs.lemmas.Bool.Decides.{nat_tests}
use Rattle.std.proofs.lemmas.Slice.Eq.{bytes_eq-Decides}
use Rattle.std.proofs.lemmas.List.{take_all, drop-drop, drop-take, take-append-drop, take-take, length-take-le, append-nil, take-append-le, take_at}
use Rattle.vc_defs.specs.declared.Header.{Header}
use Rattle.vc_defs.specs.Headers.{magic, is_legal_geometry, raw_suits, is_legal_number, is_whole_header, is_legal, header_from}
use Rattle.vc_base.specs.Limits.{most_bytes}
use Rattle.vc_defs.specs.Places.{first_magic, start_of_magic}
use Rattle.vc_defs.proofs.KnownPlacesStay.{magic_stays}
use Rattle.vc_defs.proofs.NoMagicInHeaders.{magic_there}
use Rattle.vc_defs.proofs.PlacesBehindACut.{Heads, first_at_front}
use Rattle.vc_resync.specs.declared.feeding.Found.TheVariants.{More, Head as HeadFound}
use Rattle.vc_resync.specs.Seeking.{Matches, Sought}
use Rattle.vc_resync.specs.Assembling.{IsLegal}
use Rattle.vc_resync.specs.Collecting.{put_at, IsBegun, IsOpen, Taken, Grows}
use Rattle.vc_resync.proofs.MagicComesOn.{none_there, one_there, matched_few}
use Rattle.vc_resync.proofs.BytesArePut.{put_to_end, put_before}
use Rattle.vc_resync.proofs.TakenByWhatStandsThere.{take_none, take_begun, take_illegal_none, take_illegal_some, take_head, header_alone}

-- bytes that end with a magic
pub magic_at_end : (xs : List ℕ) (m : ℕ) → Matches xs m → m ≡ 8 → drop (length xs - 8) xs ≡ magic
magic_at_end xs m r e =
    let long : 8 ≤ length xs = omega (arith, matched_few xs m r) in
    let same : magic ≡ take 8 (drop (length xs - 8) xs) =
    (bytes_eq-Decides magic (take 8 (drop (length xs - 8) xs))).0 (magic_there xs (length xs - 8) (one_there xs m r e)) in
    sym (take_all 8 (drop (length xs - 8) xs) (omega (arith, length-drop (length xs - 8) xs))) ∙ sym same

front_at_front : (xs : List ℕ) → take 8 xs ≡ magic → first_magic xs ≡ Some 0
front_at_front xs e = first_at_front xs ((bytes_eq-Decides magic (take 8 xs)).1 (sym e))

-- Behind some bytes of a magic none ends.
pub look_on_none : (limit m : ℕ) (bytes body : List ℕ) (count now : ℕ) → Sought m bytes count now → now ≢ 8 → Taken limit (take m magic) (take count bytes) More body (take now magic)
look_on_none limit m bytes body count now s other =
    let less : now < 8 = omega (arith, s.matches.most, other) in
    subst (λ (t : List ℕ). Taken limit (take m magic) (take count bytes) More body t) s.matches.start
    (take_none limit (take m magic) (take count bytes) body (none_there (take m magic ++ take count bytes) now s.matches less))

-- Behind some bytes of a magic one ends.
pub look_on_some : (limit m : ℕ) (bytes body head after : List ℕ) (count now : ℕ) → Sought m bytes count now → now ≡ 8 → length head ≡ 44 → after ≡ put_at head 0 magic → Taken limit (take m magic) (take count bytes) More body (take 8 after)
look_on_some limit m bytes body head after count now s is long e =
    let xs : List ℕ = take m magic ++ take count bytes in
    let end : drop (length xs - 8) xs ≡ magic = magic_at_end xs now s.matches is in
    let put : take 8 after ≡ magic = ap (λ t. take 8 t) e ∙ put_to_end head 0 magic 8 (omega (arith, long)) refl in
    subst (λ (t : List ℕ). Taken limit (take m magic) (take count bytes) More body t) (end ∙ sym put)
    (take_begun limit (take m magic) (take count bytes) body (length xs - 8) (one_there xs now s.matches is) (omega (arith, ap length end)))

-- the next magic behind an illegal header's
pub pass_over_begun : (head bytes after : List ℕ) (count now : ℕ) → length head ≡ 44 → Sought 0 (drop 8 head) count now → 8 ≤ now → bytes ≡ drop count head → after ≡ put_at head 0 bytes → IsBegun after (44 - count)
pass_over_begun head bytes after count now long s big b e =
    let is : now ≡ 8 = omega (arith, s.matches.most) in
    let few : now ≤ length (take count (drop 8 head)) = matched_few (take count (drop 8 head)) now s.matches in
    let high : count ≤ 36 = omega (arith, s.inside, length-drop 8 head, long) in
    let low : 8 ≤ count = omega (arith, few, is, length-take count (drop 8 head)) in
    let there : length (take count (drop 8 head)) ≡ count = length-take-le count (drop 8 head) s.inside in
    let cut : count - 8 + 8 ≡ count = omega arith in
    let at : 8 + (count - 8) ≡ count = omega arith in
    let front : take 8 (drop count head) ≡ magic =
    ap (λ k. take 8 (drop k head)) (sym at)
    ∙ ap (λ t. take 8 t) (sym (drop-drop (count - 8) 8 head))
    ∙ sym (drop-take (count - 8) 8 (drop 8 head))
    ∙ ap (λ k. drop (count - 8) (take k (drop 8 head))) cut
    ∙ ap (λ k. drop (k - 8) (take count (drop 8 head))) (sym there)
    ∙ magic_at_end (take count (drop 8 head)) now s.matches is in
    let rest : length bytes ≡ 44 - count = ap length b ∙ length-drop count head ∙ ap (λ n. n - count) long in
    record {
      least = omega arith;
      most = omega arith;
      front = ap (λ t. take 8 t) e ∙ take-append-le 8 bytes (drop (0 + length bytes) head) (omega (arith, rest)) ∙ ap (λ t. take 8 t) b ∙ front;
    }

-- what is kept behind an illegal header's magic
pub pass_over_kept : (head bytes after : List ℕ) (count now : ℕ) → length head ≡ 44 → count ≤ 44 → bytes ≡ drop count head → after ≡ put_at head 0 bytes → take (44 - count) after ≡ drop count head
pass_over_kept head bytes after count now long low b e =
    let rest : length bytes ≡ 44 - count = ap length b ∙ length-drop count head ∙ ap (λ n. n - count) long in
    ap (λ t. take (44 - count) t) e ∙ put_to_end head 0 bytes (44 - count) (omega (arith, rest, long)) (omega (arith, rest)) ∙ b

-- a magic goes on, without a whole header
pub go_on_begun : (head bytes after : List ℕ) (there count : ℕ) → length head ≡ 44 → IsBegun head there → there + length bytes < 44 → after ≡ put_at head there bytes → count ≡ length bytes → IsBegun after (there + count)
go_on_begun head bytes after there count long b few e n =
    record {
      least = omega (arith, b.least);
      most = omega arith;
      front = ap (λ t. take 8 t) e ∙ put_before head there bytes 8 (omega (arith, long)) b.least ∙ b.front;
    }

pub go_on_front : (head bytes after : List ℕ) (there : ℕ) → length head ≡ 44 → IsBegun head there → after ≡ put_at head there bytes → take 8 after ≡ magic
go_on_front head bytes after there long b e = ap (λ t. take 8 t) e ∙ put_before head there bytes 8 (omega (arith, long, b.most)) b.least ∙ b.front

pub go_on_taken : (limit : ℕ) (head bytes after body : List ℕ) (there count : ℕ) → length head ≡ 44 → IsBegun head there → there + length bytes < 44 → after ≡ put_at head there bytes → count ≡ length bytes → Taken limit (take there head) bytes More body (take (there + count) after)
go_on_taken limit head bytes after body there count long b few e n =
    let all : take (there + count) after ≡ take there head ++ bytes = ap (λ t. take (there + count) t) e ∙ put_to_end head there bytes (there + count) (omega (arith, long)) (omega arith) in
    let front : take 8 (take there head ++ bytes) ≡ magic =
    ap (λ t. take 8 t) (sym all) ∙ take-take 8 (there + count) after (omega (arith, b.least)) ∙ go_on_front head bytes after there long b e in
    subst (λ (t : List ℕ). Taken limit (take there head) bytes More body t) (sym all)
    (take_begun limit (take there head) bytes body 0 (front_at_front (take there head ++ bytes) front) (omega (arith, length-append (take there head) bytes, length-take there head)))

pub go_on_whole : (head bytes after : List ℕ) (there : ℕ) → length head ≡ 44 → there + length bytes ≡ 44 → after ≡ put_at head there bytes → length after ≡ 44 → take there head ++ bytes ≡ after
go_on_whole head bytes after there long all e l =
    sym (put_to_end head there bytes 44 (omega (arith, long)) (sym all)) ∙ ap (λ t. take 44 t) (sym e) ∙ take_all 44 after (omega (arith, l))

and_right : (a b : Bool) → (a && b) ≡ true → b ≡ true
and_right true b e = e
and_right false b e = absurd cc

and_left : (a b : Bool) → (a && b) ≡ true → a ≡ true
and_left true b e = refl
and_left false b e = absurd cc

size_within : (limit : ℕ) (h : Header) → is_legal limit h ≡ true → h.size ≤ limit
unfolding is_legal
size_within limit h e =
    let a = and_left (is_legal_geometry h.geometry && raw_suits h.geometry.layout h.raw && nat_le h.size most_bytes && nat_le h.size limit && is_legal_number h.number) (is_whole_header h) e in
    let b = and_left (is_legal_geometry h.geometry && raw_suits h.geometry.layout h.raw && nat_le h.size most_bytes && nat_le h.size limit) (is_legal_number h.number) a in
    let c : nat_le h.size limit ≡ true = and_right (is_legal_geometry h.geometry && raw_suits h.geometry.layout h.raw && nat_le h.size most_bytes) (nat_le h.size limit) b in
    grind (arith, nat_tests)

pub heads_front : (limit : ℕ) (head rest : List ℕ) (h : Header) → length head ≡ 44 → take 8 head ≡ magic → header_from limit head ≡ Some h → Heads limit (head ++ rest) h
heads_front limit head rest h long front is = (
  front_at_front (head ++ rest) (take-append-le 8 head rest (omega (arith, long)) ∙ front),
  omega (arith, long, length-append head rest),
  ap (λ t. header_from limit t) (take_at head rest 44 long) ∙ is,
)

-- no byte of a body is there
alone : (head body : List ℕ) → body ≡ [] → head ++ body ≡ head
alone head body empty = ap (λ t. head ++ t) empty ∙ append-nil head

-- a header that was read
pub head_open : (limit : ℕ) (head body : List ℕ) (h : Header) (count now : ℕ) → body ≡ [] → length head ≡ 44 → take 8 head ≡ magic → header_from limit head ≡ Some h → IsLegal limit h → Sought 0 (drop 8 head) count now → IsOpen limit head body h now
head_open limit head body h count now empty long front is legal s =
    let none : first_magic (drop 8 head) ≡ None =
    ap (λ t. first_magic (drop 8 t)) (sym (append-nil head)) ∙ header_alone limit (head ++ []) h (heads_front limit head [] h long front is) (ap length (append-nil head) ∙ long) in
    let few : now < 8 = less none in
    let all : take count (drop 8 head) ≡ drop 8 head = take_all count (drop 8 head) (omega (arith, s.all few)) in
    record {
      header = is;
      legal = legal;
      front = front;
      room = size_within limit h legal.0;
      part = omega (arith, ap length empty);
      few = few;
      matches = subst (λ (t : List ℕ). Matches t now) (all ∙ ap (λ t. drop 8 t) (sym (alone head body empty))) s.matches;
    }
  where
    by_test : (b : Bool) → nat_lt now 8 ≡ b → first_magic (drop 8 head) ≡ None → now < 8
    by_test true e none = grind (arith, nat_tests)
    by_test false e none =
        let big : 8 ≤ now = grind (arith, nat_tests) in
        let there : first_magic (take count (drop 8 head)) ≡ Some (length (take count (drop 8 head)) - 8) = one_there (take count (drop 8 head)) now s.matches (omega (arith, s.matches.most)) in
        let stays = magic_stays (take count (drop 8 head)) (drop count (drop 8 head)) (length (take count (drop 8 head)) - 8) there in
        absurd (none-some (length (take count (drop 8 head)) - 8) (sym none ∙ ap first_magic (sym (take-append-drop count (drop 8 head))) ∙ stays))

    less : first_magic (drop 8 head) ≡ None → now < 8
    less none = by_test (nat_lt now 8) refl none

pub head_taken : (limit : ℕ) (head body tail bytes : List ℕ) (h : Header) → body ≡ [] → length head ≡ 44 → take 8 head ≡ magic → header_from limit head ≡ Some h → tail ++ bytes ≡ head → 0 < length tail → length tail < 44 → Taken limit tail bytes (HeadFound h) body (head ++ body)
head_taken limit head body tail bytes h empty long front is all some few =
    let heads : Heads limit (tail ++ bytes) h = subst (λ (t : List ℕ). Heads limit t h) (append-nil head ∙ sym all) (heads_front limit head [] h long front is) in
    subst (λ (t : List ℕ). Taken limit tail bytes (HeadFound h) body t) (all ∙ sym (alone head body empty))
    (take_head limit tail bytes body h heads (ap length all ∙ long) some few)

pub illegal_taken : (limit : ℕ) (head body tail bytes after : List ℕ) (count now : ℕ) → length head ≡ 44 → take 8 head ≡ magic → header_from limit head ≡ None → Sought 0 (drop 8 head) count now →
    after ≡ cond (nat_lt now 8) (start_of_magic (drop 8 head)) (drop count head) → tail ++ bytes ≡ head → Taken limit tail bytes More body after
illegal_taken limit head body tail bytes after count now long front none s kept all = by_test (nat_lt now 8) refl kept
  where
    magic_first : first_magic (tail ++ bytes) ≡ Some 0
    magic_first = ap first_magic all ∙ front_at_front head front

    by_test : (b : Bool) → nat_lt now 8 ≡ b → after ≡ cond b (start_of_magic (drop 8 head)) (drop count head) → Taken limit tail bytes More body after
    by_test true e is =
        let few : now < 8 = grind (arith, nat_tests) in
        let whole : take count (drop 8 head) ≡ drop 8 head = take_all count (drop 8 head) (omega (arith, s.all few)) in
        let inner : first_magic (drop 8 (tail ++ bytes)) ≡ None = ap (λ t. first_magic (drop 8 t)) all ∙ ap first_magic (sym whole) ∙ none_there (take count (drop 8 head)) now s.matches few in
        subst (λ (t : List ℕ). Taken limit tail bytes More body t) (ap (λ t. start_of_magic (drop 8 t)) all ∙ sym is)
        (take_illegal_none limit tail bytes body magic_first (ap length all ∙ long) (ap (λ t. header_from limit t) all ∙ none) inner)
    by_test false e is =
        let is8 : now ≡ 8 = let big : 8 ≤ now = grind (arith, nat_tests) in omega (arith, s.matches.most) in
        let few : now ≤ length (take count (drop 8 head)) = matched_few (take count (drop 8 head)) now s.matches in
        let there : first_magic (take count (drop 8 head)) ≡ Some (length (take count (drop 8 head)) - 8) = one_there (take count (drop 8 head)) now s.matches is8 in
        let place : length (take count (drop 8 head)) - 8 ≡ count - 8 = ap (λ n. n - 8) (length-take-le count (drop 8 head) s.inside) in
        let inner : first_magic (drop 8 (tail ++ bytes)) ≡ Some (count - 8) =
        ap (λ t. first_magic (drop 8 t)) all
        ∙ ap first_magic (sym (take-append-drop count (drop 8 head)))
        ∙ magic_stays (take count (drop 8 head)) (drop count (drop 8 head)) (length (take count (drop 8 head)) - 8) there
        ∙ ap (λ k. Some k) place in
        let at : 8 + (count - 8) ≡ count = omega (arith, few, is8, length-take count (drop 8 head)) in
        subst (λ (t : List ℕ). Taken limit tail bytes More body t) (ap (λ t. drop (count - 8) (drop 8 t)) all ∙ drop-drop (count - 8) 8 head ∙ ap (λ k. drop k head) at ∙ sym is)
        (take_illegal_some limit tail bytes body (count - 8) magic_first (ap length all ∙ long) (ap (λ t. header_from limit t) all ∙ none) inner)

pub look_on_grows : (m : ℕ) (bytes : List ℕ) (count now n : ℕ) → Sought m bytes count now → n ≡ now → Grows (length (take m magic)) count n
look_on_grows m bytes count now n s e = record {
  most = omega (arith, e, matched_few (take m magic ++ take count bytes) now s.matches, length-append (take m magic) (take count bytes), length-take count bytes);
  far = λ h. absurd (omega (arith, e, s.matches.most));
}
