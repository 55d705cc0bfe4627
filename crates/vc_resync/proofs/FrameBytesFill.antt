-- What the bytes of a frame make of the kept bytes. They go on with its body up to its size, unless a magic stands in
-- them, which cuts the frame; that is seen in the last seven bytes kept and the new ones.
use Rattle.std.proofs.Common.{◌≡◌, ◌≢◌, ◌∙◌, sym, ap, refl, subst, ℕ, suc, ◌+◌, ◌-◌, ◌<◌, ◌≤◌, List, [], ◌∷◌, ◌++◌, length, take, drop, arith, append_assoc, length-append, length-drop}
use Rattle.std.specs.Prelude.{Bool, true, false, nat_lt, cond}
use Rattle.std.proofs.lemmas.Bool.Decides.{nat_tests}
use Rattle.std.proofs.lemmas.List.{drop-drop, drop-append-le, drop_at}
use Rattle.vc_defs.specs.declared.Header.{Header}
use Rattle.vc_defs.specs.Headers.{magic}
use Rattle.vc_defs.specs.Places.{start_of_magic}
use Rattle.vc_defs.proofs.KnownPlacesStay.{is_start}
use Rattle.vc_defs.proofs.PlacesBehindACut.{Heads}
use Rattle.vc_resync.specs.declared.feeding.Found.TheVariants.{More, Whole, Cut}
use Rattle.vc_resync.specs.Seeking.{Matches}
use Rattle.vc_resync.specs.Collecting.{IsOpen, Taken}
use Rattle.vc_resync.proofs.MagicComesOn.{length_of_matched, none_there, one_there, matched_few, matches_on}
use Rattle.vc_resync.proofs.TakenByWhatStandsThere.{take_open, take_whole, take_cut}
use Rattle.vc_resync.proofs.StepsKeepTheRightBytes.{magic_at_end, heads_front}

-- the beginning of a magic at the end is seen in the last seven bytes
start_in_last : (ys : List ℕ) → length (start_of_magic ys) < 8 → start_of_magic (drop (length ys - 7) ys) ≡ start_of_magic ys
start_in_last [] h = refl
start_in_last (y ∷ ys) h = by_size (nat_lt (length ys) 7) refl (is_start (y ∷ ys)) refl h (start_in_last ys)
  where
    by_start : (b : Bool) → 7 ≤ length ys → length (cond b (y ∷ ys) (start_of_magic ys)) < 8 → (length (start_of_magic ys) < 8 → start_of_magic (drop (length ys - 7) ys) ≡ start_of_magic ys) →
        start_of_magic (drop (length (y ∷ ys) - 7) (y ∷ ys)) ≡ cond b (y ∷ ys) (start_of_magic ys)
    by_start true long few inner = let less : suc (length ys) < 8 = few in absurd (omega arith)
    by_start false long few inner =
        let at : length (y ∷ ys) - 7 ≡ suc (length ys - 7) = omega arith in
        ap (λ n. start_of_magic (drop n (y ∷ ys))) at ∙ inner few

    by_size : (t : Bool) → nat_lt (length ys) 7 ≡ t → (b : Bool) → is_start (y ∷ ys) ≡ b → length (cond b (y ∷ ys) (start_of_magic ys)) < 8 → (length (start_of_magic ys) < 8 → start_of_magic (drop (length ys - 7) ys) ≡ start_of_magic ys) →
        start_of_magic (drop (length (y ∷ ys) - 7) (y ∷ ys)) ≡ start_of_magic (y ∷ ys)
    by_size true e b s few inner =
        let small : length ys < 7 = grind (arith, nat_tests) in
        let at : length (y ∷ ys) - 7 ≡ 0 = omega arith in
        ap (λ n. start_of_magic (drop n (y ∷ ys))) at
    by_size false e b s few inner =
        let long : 7 ≤ length ys = grind (arith, nat_tests) in
        by_start b long few inner ∙ ap (λ t. cond t (y ∷ ys) (start_of_magic ys)) (sym s)

-- the bytes of a frame so far, and those that go on
pub fill_matches : (limit : ℕ) (head body bytes : List ℕ) (h : Header) (matched now : ℕ) → length head ≡ 44 → IsOpen limit head body h matched → Matches (take matched magic ++ bytes) now → Matches (drop 8 (head ++ body ++ bytes)) now
fill_matches limit head body bytes h matched now long so_far s =
    subst (λ (t : List ℕ). Matches t now) (sym (drop-append-le 8 (head ++ body) bytes (omega (arith, long, length-append head body))))
    (matches_on (drop 8 (head ++ body)) bytes matched now so_far.matches so_far.few s)

fill_heads : (limit : ℕ) (head body bytes : List ℕ) (h : Header) (matched : ℕ) → length head ≡ 44 → IsOpen limit head body h matched → Heads limit (head ++ body ++ bytes) h
fill_heads limit head body bytes h matched long so_far =
    subst (λ (t : List ℕ). Heads limit t h) (sym (append_assoc head body bytes)) (heads_front limit head (body ++ bytes) h long so_far.front so_far.header)

fill_length : (head body bytes : List ℕ) → length head ≡ 44 → length (head ++ body ++ bytes) ≡ 44 + length body + length bytes
fill_length head body bytes long = omega (arith, long, length-append (head ++ body) bytes, length-append head body)

pub cut_taken : (limit : ℕ) (head body bytes : List ℕ) (h : Header) (matched now : ℕ) → length head ≡ 44 → IsOpen limit head body h matched → Matches (take matched magic ++ bytes) now → now ≡ 8 → length body + length bytes ≤ h.size →
    Taken limit (head ++ body) bytes (Cut h) body (take 8 head)
cut_taken limit head body bytes h matched now long so_far s is high =
    let xs : List ℕ = head ++ body ++ bytes in
    let m : Matches (drop 8 xs) now = fill_matches limit head body bytes h matched now long so_far s in
    let total : length xs ≡ 44 + length body + length bytes = fill_length head body bytes long in
    let few : now ≤ length (drop 8 xs) = matched_few (drop 8 xs) now m in
    let rest : length (drop 8 xs) ≡ length xs - 8 = length-drop 8 xs in
    subst (λ (t : List ℕ). Taken limit (head ++ body) bytes (Cut h) body t) (sym (drop-drop (length (drop 8 xs) - 8) 8 xs) ∙ magic_at_end (drop 8 xs) now m is ∙ sym so_far.front)
    (take_cut limit (head ++ body) bytes body h (length (drop 8 xs) - 8) (fill_heads limit head body bytes h matched long so_far) (omega (arith, long, length-append head body))
    (one_there (drop 8 xs) now m is) (omega (arith, few, is, rest)) (omega (arith, total, high)))

pub whole_taken : (limit : ℕ) (head body bytes after : List ℕ) (h : Header) (matched now : ℕ) → length head ≡ 44 → IsOpen limit head body h matched → Matches (take matched magic ++ bytes) now → now ≢ 8 → length body + length bytes ≡ h.size →
    after ≡ body ++ bytes → Taken limit (head ++ body) bytes (Whole h) after (take now magic)
whole_taken limit head body bytes after h matched now long so_far s other all put =
    let xs : List ℕ = head ++ body ++ bytes in
    let m : Matches (drop 8 xs) now = fill_matches limit head body bytes h matched now long so_far s in
    let less : now < 8 = omega (arith, s.most, other) in
    let total : length xs ≡ 44 + length body + length bytes = fill_length head body bytes long in
    let small : length (start_of_magic (drop 8 xs)) < 8 = omega (arith, ap length m.start, length_of_matched now m.most) in
    let seven : 8 + (length (drop 8 xs) - 7) ≡ length xs - 7 = omega (arith, length-drop 8 xs, total) in
    let start : start_of_magic (drop (length xs - 7) xs) ≡ take now magic =
    ap (λ n. start_of_magic (drop n xs)) (sym seven) ∙ ap start_of_magic (sym (drop-drop (length (drop 8 xs) - 7) 8 xs)) ∙ start_in_last (drop 8 xs) small ∙ m.start in
    let rest : drop 44 xs ≡ after = ap (λ t. drop 44 t) (append_assoc head body bytes) ∙ drop_at head (body ++ bytes) 44 long ∙ sym put in
    subst (λ (t : List ℕ). Taken limit (head ++ body) bytes (Whole h) after t) start
    (take_whole limit (head ++ body) bytes after h (fill_heads limit head body bytes h matched long so_far) (omega (arith, long, length-append head body))
    (none_there (drop 8 xs) now m less) (omega (arith, total, all)) (ap (λ t. take h.size t) rest) (omega (arith, ap length put, length-append body bytes, all)))

-- where the bytes stand then
filled_to : (head body bytes after : List ℕ) → after ≡ body ++ bytes → head ++ after ≡ head ++ body ++ bytes
filled_to head body bytes after put = ap (λ t. head ++ t) put ∙ sym (append_assoc head body bytes)

pub more_taken : (limit : ℕ) (head body bytes after : List ℕ) (h : Header) (matched now : ℕ) → length head ≡ 44 → IsOpen limit head body h matched → Matches (take matched magic ++ bytes) now → now ≢ 8 → length body + length bytes < h.size →
    after ≡ body ++ bytes → Taken limit (head ++ body) bytes More after (head ++ after)
more_taken limit head body bytes after h matched now long so_far s other few put =
    let xs : List ℕ = head ++ body ++ bytes in
    let m : Matches (drop 8 xs) now = fill_matches limit head body bytes h matched now long so_far s in
    let less : now < 8 = omega (arith, s.most, other) in
    let total : length xs ≡ 44 + length body + length bytes = fill_length head body bytes long in
    subst (λ (t : List ℕ). Taken limit (head ++ body) bytes More after t) (sym (filled_to head body bytes after put))
    (take_open limit (head ++ body) bytes after h (fill_heads limit head body bytes h matched long so_far) (omega (arith, long, length-append head body))
    (none_there (drop 8 xs) now m less) (omega (arith, total, few)))

pub more_open : (limit : ℕ) (head body bytes after : List ℕ) (h : Header) (matched now : ℕ) → length head ≡ 44 → IsOpen limit head body h matched → Matches (take matched magic ++ bytes) now → now ≢ 8 → length body + length bytes < h.size →
    after ≡ body ++ bytes → IsOpen limit head after h now
more_open limit head body bytes after h matched now long so_far s other few put = record {
  header = so_far.header;
  legal = so_far.legal;
  front = so_far.front;
  room = so_far.room;
  part = omega (arith, ap length put, length-append body bytes, few);
  few = omega (arith, s.most, other);
  matches = subst (λ (t : List ℕ). Matches (drop 8 t) now) (sym (filled_to head body bytes after put)) (fill_matches limit head body bytes h matched now long so_far s);
}
