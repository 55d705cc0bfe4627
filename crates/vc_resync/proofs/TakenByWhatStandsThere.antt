-- What taking bytes behind a tail tells and keeps, by what stands in them. The cases are those of the definition: no
-- magic, a magic without a whole header, an illegal header, a header, a frame so far, a whole frame and a cut one.
use Rattle.std.proofs.Common.{◌≡◌, ◌≢◌, ◌∙◌, sym, ap, refl, subst, ℕ, suc, zero, ◌+◌, ◌-◌, ◌<◌, ◌≤◌, List, [], ◌∷◌, ◌++◌, length, take, drop, arith, length-drop}
use Rattle.std.specs.Prelude.{Bool, true, false, nat_eq, nat_le, nat_lt, cond}
use Rattle.std.specs.declared.option.Option.{Option}
use Rattle.std.specs.declared.option.Option.TheVariants.{Some, None}
use Rattle.std.proofs.lemmas.Bool.{cond-true, cond-false}
use Rattle.std.proofs.lemmas.Bool.Decides.{nat_tests}
use Rattle.std.proofs.lemmas.List.{take_all, drop-drop}
use Rattle.vc_defs.specs.declared.Header.{Header}
use Rattle.vc_defs.specs.Headers.{header_from}
use Rattle.vc_defs.specs.Places.{first_magic, start_of_magic, nothing, begun, no_header, unended, cut, whole, look_behind, look_at_header, look_from, look, Frame, Places, places_at, places_from, places, joined}
use Rattle.vc_defs.specs.Finds.{Find, Head, Ended, finds, told_of_tail}
use Rattle.vc_defs.proofs.KnownPlacesStay.{is_magic, magic_inside}
use Rattle.vc_defs.proofs.NoMagicInHeaders.{inner_magic, magic_there}
use Rattle.vc_defs.proofs.FindsInOrder.{finds_of}
use Rattle.vc_defs.proofs.PlacesBehindACut.{Heads, look_front, first_at_front}
use Rattle.vc_resync.specs.declared.feeding.Found.{Found}
use Rattle.vc_resync.specs.declared.feeding.Found.TheVariants.{More, Head as HeadFound, Whole, Cut}
use Rattle.vc_resync.specs.Collecting.{TakenFind, TakenBy, Taken}
use Rattle.vc_resync.proofs.MagicComesOn.{short_none}

-- places with nothing known
abbrev idle : List ℕ → Places
idle tail = record { frames = []; unfinished = None; tail = tail }

places_is : (limit : ℕ) (xs : List ℕ) → places xs limit ≡ places_at 0 xs (λ n. places_from (length xs) limit (0 + n) (drop n xs)) (look limit xs)
unfolding places
places_is limit xs = let turns : length xs + 1 ≡ suc (length xs) = omega arith in ap (λ t. places_from t limit 0 xs) turns

finds_are : (limit : ℕ) (xs : List ℕ) (p : Places) → places xs limit ≡ p → finds xs limit ≡ finds_of p
unfolding finds
finds_are limit xs p e = ap (λ q. finds_of q) e

look_none : (limit : ℕ) (xs : List ℕ) → first_magic xs ≡ None → look limit xs ≡ nothing
unfolding look
look_none limit xs e = ap (λ o. look_from limit xs o) e

look_begun : (limit : ℕ) (xs : List ℕ) (at : ℕ) → first_magic xs ≡ Some at → length (drop at xs) < 44 → look limit xs ≡ begun at
unfolding look
look_begun limit xs at e h =
    ap (λ o. look_from limit xs o) e
    ∙ cond-true (nat_lt (length (drop at xs)) 44) (begun at) (look_at_header at (drop at xs) (header_from limit (take 44 (drop at xs)))) (grind (arith, nat_tests))

look_illegal : (limit : ℕ) (xs : List ℕ) → first_magic xs ≡ Some 0 → length xs ≡ 44 → header_from limit xs ≡ None → look limit xs ≡ no_header 0
unfolding look
look_illegal limit xs e long none =
    ap (λ o. look_from limit xs o) e
    ∙ cond-false (nat_lt (length xs) 44) (begun 0) (look_at_header 0 xs (header_from limit (take 44 xs))) (grind (arith, nat_tests))
    ∙ ap (λ t. look_at_header 0 xs (header_from limit t)) (take_all 44 xs (omega arith))
    ∙ ap (λ o. look_at_header 0 xs o) none

-- places from a cursor on, by what stands there
from_none : (t limit c : ℕ) (xs : List ℕ) → 0 < t → first_magic xs ≡ None → places_from t limit c xs ≡ idle (start_of_magic xs)
from_none zero limit c xs h e = absurd (omega arith)
from_none (suc t) limit c xs h e = ap (λ l. places_at c xs (λ n. places_from t limit (c + n) (drop n xs)) l) (look_none limit xs e)

from_begun : (t limit c : ℕ) (xs : List ℕ) (at : ℕ) → 0 < t → first_magic xs ≡ Some at → length (drop at xs) < 44 → places_from t limit c xs ≡ idle (drop at xs)
from_begun zero limit c xs at h e k = absurd (omega arith)
from_begun (suc t) limit c xs at h e k = ap (λ l. places_at c xs (λ n. places_from t limit (c + n) (drop n xs)) l) (look_begun limit xs at e k)

-- nothing of them is told
none_is : (limit : ℕ) (tail bytes body after : List ℕ) (p : Places) → places (tail ++ bytes) limit ≡ p → drop (told_of_tail tail) (finds_of p) ≡ [] → after ≡ p.tail → Taken limit tail bytes More body after
unfolding Taken
none_is limit tail bytes body after p e none is =
    let all : drop (told_of_tail tail) (finds (tail ++ bytes) limit) ≡ [] = ap (λ t. drop (told_of_tail tail) t) (finds_are limit (tail ++ bytes) p e) ∙ none in
    subst (λ (t : List Find). TakenBy limit tail (tail ++ bytes) More body after t) (sym all) (refl, is ∙ ap (λ (q : Places). q.tail) (sym e))

-- the first of them is told
find_is : (limit : ℕ) (tail bytes : List ℕ) (found : Found) (body after : List ℕ) (p : Places) (find : Find) (later : List Find) → places (tail ++ bytes) limit ≡ p → drop (told_of_tail tail) (finds_of p) ≡ find ∷ later →
    TakenFind limit tail (tail ++ bytes) found body after find later → Taken limit tail bytes found body after
unfolding Taken
find_is limit tail bytes found body after p find later e one is =
    let all : drop (told_of_tail tail) (finds (tail ++ bytes) limit) ≡ find ∷ later = ap (λ t. drop (told_of_tail tail) t) (finds_are limit (tail ++ bytes) p e) ∙ one in
    subst (λ (t : List Find). TakenBy limit tail (tail ++ bytes) found body after t) (sym all) is

told_none : (n : ℕ) → drop n (finds_of (idle [])) ≡ []
told_none zero = refl
told_none (suc n) = refl

short_tail : (tail : List ℕ) → length tail < 44 → told_of_tail tail ≡ 0
short_tail tail h = cond-false (nat_le 44 (length tail)) 1 0 (grind (arith, nat_tests))

long_tail : (tail : List ℕ) → 44 ≤ length tail → told_of_tail tail ≡ 1
long_tail tail h = cond-true (nat_le 44 (length tail)) 1 0 (grind (arith, nat_tests))

-- no magic: the beginning of one is kept
pub take_none : (limit : ℕ) (tail bytes body : List ℕ) → first_magic (tail ++ bytes) ≡ None → Taken limit tail bytes More body (start_of_magic (tail ++ bytes))
take_none limit tail bytes body e =
    none_is limit tail bytes body (start_of_magic (tail ++ bytes)) (idle (start_of_magic (tail ++ bytes)))
    (places_is limit (tail ++ bytes) ∙ ap (λ l. places_at 0 (tail ++ bytes) (λ n. places_from (length (tail ++ bytes)) limit (0 + n) (drop n (tail ++ bytes))) l) (look_none limit (tail ++ bytes) e))
    (told_none (told_of_tail tail)) refl

-- a magic without a whole header is kept
pub take_begun : (limit : ℕ) (tail bytes body : List ℕ) (at : ℕ) → first_magic (tail ++ bytes) ≡ Some at → length (drop at (tail ++ bytes)) < 44 → Taken limit tail bytes More body (drop at (tail ++ bytes))
take_begun limit tail bytes body at e h =
    none_is limit tail bytes body (drop at (tail ++ bytes)) (idle (drop at (tail ++ bytes)))
    (places_is limit (tail ++ bytes) ∙ ap (λ l. places_at 0 (tail ++ bytes) (λ n. places_from (length (tail ++ bytes)) limit (0 + n) (drop n (tail ++ bytes))) l) (look_begun limit (tail ++ bytes) at e h))
    (told_none (told_of_tail tail)) refl

-- what stands behind an illegal header's magic
illegal_places : (limit : ℕ) (xs after : List ℕ) → first_magic xs ≡ Some 0 → length xs ≡ 44 → header_from limit xs ≡ None → places_from (length xs) limit 8 (drop 8 xs) ≡ idle after → places xs limit ≡ idle after
illegal_places limit xs after e long none later =
    places_is limit xs
    ∙ ap (λ l. places_at 0 xs (λ n. places_from (length xs) limit (0 + n) (drop n xs)) l) (look_illegal limit xs e long none)
    ∙ ap (λ p. joined [] p) later

pub take_illegal_none : (limit : ℕ) (tail bytes body : List ℕ) → first_magic (tail ++ bytes) ≡ Some 0 → length (tail ++ bytes) ≡ 44 → header_from limit (tail ++ bytes) ≡ None → first_magic (drop 8 (tail ++ bytes)) ≡ None →
    Taken limit tail bytes More body (start_of_magic (drop 8 (tail ++ bytes)))
take_illegal_none limit tail bytes body e long none inner =
    let xs : List ℕ = tail ++ bytes in
    none_is limit tail bytes body (start_of_magic (drop 8 xs)) (idle (start_of_magic (drop 8 xs)))
    (illegal_places limit xs (start_of_magic (drop 8 xs)) e long none (from_none (length xs) limit 8 (drop 8 xs) (omega (arith, long)) inner))
    (told_none (told_of_tail tail)) refl

pub take_illegal_some : (limit : ℕ) (tail bytes body : List ℕ) (n : ℕ) → first_magic (tail ++ bytes) ≡ Some 0 → length (tail ++ bytes) ≡ 44 → header_from limit (tail ++ bytes) ≡ None → first_magic (drop 8 (tail ++ bytes)) ≡ Some n →
    Taken limit tail bytes More body (drop n (drop 8 (tail ++ bytes)))
take_illegal_some limit tail bytes body n e long none inner =
    let xs : List ℕ = tail ++ bytes in
    none_is limit tail bytes body (drop n (drop 8 xs)) (idle (drop n (drop 8 xs)))
    (illegal_places limit xs (drop n (drop 8 xs)) e long none (from_begun (length xs) limit 8 (drop 8 xs) n (omega (arith, long)) inner (omega (arith, long, length-drop 8 xs, length-drop n (drop 8 xs)))))
    (told_none (told_of_tail tail)) refl

-- where no magic stands behind a header's own, it is whole or not
look_whole : (limit : ℕ) (xs : List ℕ) (h : Header) → Heads limit xs h → first_magic (drop 8 xs) ≡ None → 44 + h.size ≤ length xs → look limit xs ≡ whole 0 h (take h.size (drop 44 xs))
look_whole limit xs h heads none long =
    look_front limit xs h heads
    ∙ ap (λ o. look_behind 0 h xs o) none
    ∙ cond-true (nat_le (44 + h.size) (length xs)) (whole 0 h (take h.size (drop 44 xs))) (unended 0 h) (grind (arith, nat_tests))

look_unended : (limit : ℕ) (xs : List ℕ) (h : Header) → Heads limit xs h → first_magic (drop 8 xs) ≡ None → length xs < 44 + h.size → look limit xs ≡ unended 0 h
look_unended limit xs h heads none long =
    look_front limit xs h heads
    ∙ ap (λ o. look_behind 0 h xs o) none
    ∙ cond-false (nat_le (44 + h.size) (length xs)) (whole 0 h (take h.size (drop 44 xs))) (unended 0 h) (grind (arith, nat_tests))

look_cut : (limit : ℕ) (xs : List ℕ) (h : Header) (n : ℕ) → Heads limit xs h → first_magic (drop 8 xs) ≡ Some n → 8 + n + 8 ≤ 44 + h.size → look limit xs ≡ cut 0 h (0 + 8 + n)
look_cut limit xs h n heads some high =
    look_front limit xs h heads
    ∙ ap (λ o. look_behind 0 h xs o) some
    ∙ cond-true (nat_le (8 + n + 8) (44 + h.size)) (cut 0 h (0 + 8 + n)) (cond (nat_le (44 + h.size) (length xs)) (whole 0 h (take h.size (drop 44 xs))) (unended 0 h)) (grind (arith, nat_tests))

-- the places of a header whose frame isn't there to its end
abbrev open_places : List ℕ → Header → Places
open_places xs h = record { frames = []; unfinished = Some (record { position = 0; header = h }); tail = xs }

unended_places : (limit : ℕ) (xs : List ℕ) (h : Header) → Heads limit xs h → first_magic (drop 8 xs) ≡ None → length xs < 44 + h.size → places xs limit ≡ open_places xs h
unended_places limit xs h heads none long =
    places_is limit xs ∙ ap (λ l. places_at 0 xs (λ n. places_from (length xs) limit (0 + n) (drop n xs)) l) (look_unended limit xs h heads none long)

-- the frame at the front, whole
abbrev whole_frame : List ℕ → Header → Frame
whole_frame xs h = record { position = 0; end = 44 + h.size; header = h; body = Some (take h.size (drop 44 xs)); known = 44 + h.size }

whole_places : (limit : ℕ) (xs : List ℕ) (h : Header) → Heads limit xs h → first_magic (drop 8 xs) ≡ None → length xs ≡ 44 + h.size →
    places xs limit ≡ joined (whole_frame xs h ∷ []) (idle (start_of_magic (drop (length xs - 7) xs)))
whole_places limit xs h heads none long =
    let few : length (drop (44 + h.size - 7) xs) < 8 = omega (arith, long, length-drop (44 + h.size - 7) xs) in
    let at : 44 + h.size - 7 ≡ length xs - 7 = omega (arith, long) in
    places_is limit xs
    ∙ ap (λ l. places_at 0 xs (λ n. places_from (length xs) limit (0 + n) (drop n xs)) l) (look_whole limit xs h heads none (omega (arith, long)))
    ∙ ap (λ p. joined (whole_frame xs h ∷ []) p) (from_none (length xs) limit (0 + (44 + h.size - 7)) (drop (44 + h.size - 7) xs) (omega (arith, long)) (short_none (drop (44 + h.size - 7) xs) few))
    ∙ ap (λ n. joined (whole_frame xs h ∷ []) (idle (start_of_magic (drop n xs)))) at

-- the frame at the front, cut
abbrev cut_frame : Header → ℕ → Frame
cut_frame h inner = record { position = 0; end = 0 + inner; header = h; body = None; known = 0 + inner + 8 }

cut_places : (limit : ℕ) (xs : List ℕ) (h : Header) (n : ℕ) → Heads limit xs h → first_magic (drop 8 xs) ≡ Some n → 8 + n + 8 ≡ length xs → length xs ≤ 44 + h.size →
    places xs limit ≡ joined (cut_frame h (0 + 8 + n) ∷ []) (idle (drop (8 + n) xs))
cut_places limit xs h n heads some long high =
    let there : is_magic (drop (8 + n) xs) ≡ true = ap is_magic (sym (drop-drop n 8 xs)) ∙ magic_there (drop 8 xs) n some in
    places_is limit xs
    ∙ ap (λ l. places_at 0 xs (λ n. places_from (length xs) limit (0 + n) (drop n xs)) l) (look_cut limit xs h n heads some (omega arith))
    ∙ ap (λ p. joined (cut_frame h (0 + 8 + n) ∷ []) p) (from_begun (length xs) limit (0 + (0 + 8 + n)) (drop (0 + 8 + n) xs) 0 (omega (arith, long)) (first_at_front (drop (8 + n) xs) there) (omega (arith, long, length-drop (8 + n) xs)))

-- a header at the front, and nothing behind it
pub header_alone : (limit : ℕ) (xs : List ℕ) (h : Header) → Heads limit xs h → length xs ≡ 44 → first_magic (drop 8 xs) ≡ None
header_alone limit xs h heads long = by_magic (first_magic (drop 8 xs)) refl
  where
    by_magic : (o : Option ℕ) → first_magic (drop 8 xs) ≡ o → o ≡ None
    by_magic None e = refl
    by_magic (Some n) e =
        let low : 33 ≤ n = inner_magic limit h xs n heads.2 e in
        let inside : n + 8 ≤ length (drop 8 xs) = magic_inside (drop 8 xs) n e in
        absurd (omega (arith, low, inside, long, length-drop 8 xs))

-- A header is told with its last byte, and all is kept.
pub take_head : (limit : ℕ) (tail bytes body : List ℕ) (h : Header) → Heads limit (tail ++ bytes) h → length (tail ++ bytes) ≡ 44 → 0 < length tail → length tail < 44 → Taken limit tail bytes (HeadFound h) body (tail ++ bytes)
take_head limit tail bytes body h heads long some few = by_size (nat_eq h.size 0) refl
  where
    xs : List ℕ
    xs = tail ++ bytes

    by_size : (b : Bool) → nat_eq h.size 0 ≡ b → Taken limit tail bytes (HeadFound h) body xs
    by_size true e =
        let size : h.size ≡ 0 = grind (arith, nat_tests) in
        let end : 44 + h.size ≤ length xs = omega (arith, long, size) in
        find_is limit tail bytes (HeadFound h) body xs (joined (whole_frame xs h ∷ []) (idle (start_of_magic (drop (length xs - 7) xs)))) (Head 0 h) (Ended (whole_frame xs h) ∷ [])
        (whole_places limit xs h heads (header_alone limit xs h heads long) (omega (arith, long, size)))
        (ap (λ k. drop k (finds_of (joined (whole_frame xs h ∷ []) (idle (start_of_magic (drop (length xs - 7) xs)))))) (short_tail tail few))
        (record {
          some = some;
          told = refl;
          front = refl;
          end = sym long;
          body_is = tt;
          kept = sym (cond-true (nat_le (44 + h.size) (length xs)) (drop 0 xs) (places xs limit).tail (grind (arith, nat_tests)));
        })
    by_size false e =
        let size : h.size ≢ 0 = grind (arith, nat_tests) in
        let places_are = unended_places limit xs h heads (header_alone limit xs h heads long) (omega (arith, long, size)) in
        find_is limit tail bytes (HeadFound h) body xs (open_places xs h) (Head 0 h) [] places_are
        (ap (λ k. drop k (finds_of (open_places xs h))) (short_tail tail few))
        (record { some = some; told = refl; front = refl; end = sym long; body_is = tt; kept = sym (ap (λ (p : Places). p.tail) places_are) })

-- a frame goes on
pub take_open : (limit : ℕ) (tail bytes body : List ℕ) (h : Header) → Heads limit (tail ++ bytes) h → 44 ≤ length tail → first_magic (drop 8 (tail ++ bytes)) ≡ None → length (tail ++ bytes) < 44 + h.size →
    Taken limit tail bytes More body (tail ++ bytes)
take_open limit tail bytes body h heads long none few =
    none_is limit tail bytes body (tail ++ bytes) (open_places (tail ++ bytes) h) (unended_places limit (tail ++ bytes) h heads none few)
    (ap (λ k. drop k (finds_of (open_places (tail ++ bytes) h))) (long_tail tail long)) refl

-- A whole frame is told with its last byte.
pub take_whole : (limit : ℕ) (tail bytes body : List ℕ) (h : Header) → Heads limit (tail ++ bytes) h → 44 ≤ length tail → first_magic (drop 8 (tail ++ bytes)) ≡ None → length (tail ++ bytes) ≡ 44 + h.size →
    take h.size (drop 44 (tail ++ bytes)) ≡ take h.size body → h.size ≤ length body → Taken limit tail bytes (Whole h) body (start_of_magic (drop (length (tail ++ bytes) - 7) (tail ++ bytes)))
take_whole limit tail bytes body h heads long none all same room =
    let xs : List ℕ = tail ++ bytes in
    let p : Places = joined (whole_frame xs h ∷ []) (idle (start_of_magic (drop (length xs - 7) xs))) in
    let places_are : places xs limit ≡ p = whole_places limit xs h heads none all in
    find_is limit tail bytes (Whole h) body (start_of_magic (drop (length xs - 7) xs)) p (Ended (whole_frame xs h)) [] places_are
    (ap (λ k. drop k (finds_of p)) (long_tail tail long))
    (record { some = omega arith; told = refl; front = refl; end = sym all; body_is = (same, room); kept = sym (ap (λ (p : Places). p.tail) places_are) })

-- A cut frame is told with the last byte of the magic that cuts it, which is kept.
pub take_cut : (limit : ℕ) (tail bytes body : List ℕ) (h : Header) (n : ℕ) → Heads limit (tail ++ bytes) h → 44 ≤ length tail → first_magic (drop 8 (tail ++ bytes)) ≡ Some n → 8 + n + 8 ≡ length (tail ++ bytes) → length (tail ++ bytes) ≤ 44 + h.size →
    Taken limit tail bytes (Cut h) body (drop (8 + n) (tail ++ bytes))
take_cut limit tail bytes body h n heads long some all high =
    let xs : List ℕ = tail ++ bytes in
    let p : Places = joined (cut_frame h (0 + 8 + n) ∷ []) (idle (drop (8 + n) xs)) in
    let places_are : places xs limit ≡ p = cut_places limit xs h n heads some all high in
    find_is limit tail bytes (Cut h) body (drop (8 + n) xs) p (Ended (cut_frame h (0 + 8 + n))) [] places_are
    (ap (λ k. drop k (finds_of p)) (long_tail tail long))
    (record { some = omega arith; told = refl; front = refl; end = omega (arith, all); body_is = tt; kept = sym (ap (λ (p : Places). p.tail) places_are) })
