-- How far a magic has come in bytes, when more bytes come. Only the longest end that is a prefix of the magic counts,
-- and its first two different bytes make it short: 0x4f begins it anew and 0xff goes on.
use Rattle.std.proofs.Common.{eq-eqb, ◌≡◌, ◌≢◌, ◌∙◌, sym, ap, refl, subst, ℕ, suc, zero, ◌+◌, ◌-◌, ◌<◌, ◌≤◌, List, [], ◌∷◌, ◌++◌, length, take, drop, get_or, arith, append_assoc, length-append, length-take, length-drop}
use Rattle.std.specs.Prelude.{Bool, true, false, ◌==◌, slice_index, nat_eq, nat_lt, cond}
use Rattle.std.specs.declared.option.Option.{Option}
use Rattle.std.specs.declared.option.Option.TheVariants.{Some, None}
use Rattle.std.proofs.lemmas.Bool.{cond-true, cond-false}
use Rattle.std.proofs.lemmas.Bool.Decides.{nat_tests}
use Rattle.std.proofs.lemmas.Slice.Eq.{bytes_eq-Decides}
use Rattle.std.proofs.lemmas.List.{take_at, take-take, take_more, take_rest, get_or-take, length-take-le}
use Rattle.std.proofs.Math.Seq.{take-add}
use Rattle.vc_defs.specs.Headers.{magic}
use Rattle.vc_defs.specs.Places.{one_further, first_magic, start_of_magic}
use Rattle.vc_defs.proofs.KnownPlacesStay.{is_magic, is_start, not_true, magic_inside}
use Rattle.vc_defs.proofs.PlacesContinue.{Skips, Started, skips_to_start}
use Rattle.vc_resync.specs.Seeking.{Matches}

not_start_more : (xs ys : List ℕ) → is_start xs ≡ false → is_start (xs ++ ys) ≡ false
not_start_more xs ys f =
    not_true (is_start (xs ++ ys)) (λ e.
    let same : xs ++ ys ≡ take (length (xs ++ ys)) magic = (bytes_eq-Decides (xs ++ ys) (take (length (xs ++ ys)) magic)).0 e in
    let long : length xs ≤ length (xs ++ ys) = omega (arith, length-append xs ys) in
    let front : xs ≡ take (length xs) magic =
    sym (take_at xs ys (length xs) refl) ∙ ap (λ t. take (length xs) t) same ∙ take-take (length xs) (length (xs ++ ys)) magic long in
    let clash : false ≡ true = sym f ∙ (bytes_eq-Decides xs (take (length xs) magic)).1 front in
    absurd cc)

-- the start of a magic at the end of more bytes begins where it began, or later
start_on : (xs ys : List ℕ) → start_of_magic (xs ++ ys) ≡ start_of_magic (start_of_magic xs ++ ys)
start_on [] ys = refl
start_on (x ∷ xs) ys = by_test (is_start (x ∷ xs)) refl (start_on xs ys)
  where
    by_test : (b : Bool) → is_start (x ∷ xs) ≡ b → start_of_magic (xs ++ ys) ≡ start_of_magic (start_of_magic xs ++ ys) → start_of_magic (x ∷ xs ++ ys) ≡ start_of_magic (cond b (x ∷ xs) (start_of_magic xs) ++ ys)
    by_test true e inner = refl
    by_test false e inner =
        cond-false (is_start (x ∷ xs ++ ys)) (x ∷ xs ++ ys) (start_of_magic (xs ++ ys)) (not_start_more (x ∷ xs) ys e) ∙ inner

abbrev shift : ℕ → Option ℕ → Option ℕ
shift d None = None
shift d (Some n) = Some (d + n)

shift_none : (o : Option ℕ) → o ≡ shift 0 o
shift_none None = refl
shift_none (Some n) = let e : n ≡ 0 + n = omega arith in ap (λ k. Some k) e

shift_more : (d : ℕ) (o : Option ℕ) → one_further (shift d o) ≡ shift (suc d) o
shift_more d None = refl
shift_more d (Some n) = let e : d + n + 1 ≡ suc d + n = omega arith in ap (λ k. Some k) e

skips_magic : (d : ℕ) (bytes : List ℕ) → Skips d bytes → first_magic bytes ≡ shift d (first_magic (drop d bytes))
unfolding Skips
skips_magic zero bytes s = shift_none (first_magic bytes)
skips_magic (suc d) [] s = absurd s
skips_magic (suc d) (b ∷ bytes) s =
    cond-false (is_magic (b ∷ bytes)) (Some 0) (one_further (first_magic bytes)) s.0
    ∙ ap (λ o. one_further o) (skips_magic d bytes s.2)
    ∙ shift_more d (first_magic (drop d bytes))

-- bytes without a magic, when more come
first_on : (xs ys : List ℕ) → first_magic xs ≡ None → first_magic (xs ++ ys) ≡ shift (length xs - length (start_of_magic xs)) (first_magic (start_of_magic xs ++ ys))
first_on xs ys none =
    let s : Started xs ys (length xs - length (start_of_magic xs)) = skips_to_start xs ys none in
    skips_magic (length xs - length (start_of_magic xs)) (xs ++ ys) s.0 ∙ ap (λ t. shift (length xs - length (start_of_magic xs)) (first_magic t)) s.1

start_short : (bytes : List ℕ) → length (start_of_magic bytes) ≤ length bytes
start_short [] = omega arith
start_short (b ∷ bytes) = by_test (is_start (b ∷ bytes)) (start_short bytes)
  where
    by_test : (t : Bool) → length (start_of_magic bytes) ≤ length bytes → length (cond t (b ∷ bytes) (start_of_magic bytes)) ≤ length (b ∷ bytes)
    by_test true h = omega arith
    by_test false h = omega arith

pub length_of_matched : (m : ℕ) → m ≤ 8 → length (take m magic) ≡ m
length_of_matched m h = let e : length (take m magic) ≡ _ = length-take m magic in omega (arith, length-take m magic)

-- where bytes end with less than a magic
pub none_there : (xs : List ℕ) (m : ℕ) → Matches xs m → m < 8 → first_magic xs ≡ None
none_there xs m r h = r.first ∙ cond-true (nat_lt m 8) None (Some (length xs - 8)) (grind (arith, nat_tests))

-- where bytes end with a magic
pub one_there : (xs : List ℕ) (m : ℕ) → Matches xs m → m ≡ 8 → first_magic xs ≡ Some (length xs - 8)
one_there xs m r h = r.first ∙ cond-false (nat_lt m 8) None (Some (length xs - 8)) (grind (arith, nat_tests))

pub matched_few : (xs : List ℕ) (m : ℕ) → Matches xs m → m ≤ length xs
matched_few xs m r = omega (arith, ap length r.start, length_of_matched m r.most, start_short xs)

-- What stands behind bytes is as behind the end of them that is a prefix of the magic.
pub matches_on : (xs ys : List ℕ) (m now : ℕ) → Matches xs m → m < 8 → Matches (take m magic ++ ys) now → Matches (xs ++ ys) now
matches_on xs ys m now r few s = record {
  most = s.most;
  start = start_on xs ys ∙ ap (λ t. start_of_magic (t ++ ys)) r.start ∙ s.start;
  first = first_on xs ys (none_there xs m r few) ∙ ap (λ t. shift (length xs - length t) (first_magic (t ++ ys))) r.start ∙ by_test (nat_lt now 8) refl;
}
  where
    by_test : (b : Bool) → nat_lt now 8 ≡ b → shift (length xs - length (take m magic)) (first_magic (take m magic ++ ys)) ≡ cond b None (Some (length (xs ++ ys) - 8))
    by_test true e = ap (λ o. shift (length xs - length (take m magic)) o) (none_there (take m magic ++ ys) now s (grind (arith, nat_tests)))
    by_test false e =
        let is : now ≡ 8 = let big : 8 ≤ now = grind (arith, nat_tests) in omega (arith, s.most) in
        let there : first_magic (take m magic ++ ys) ≡ Some (length (take m magic ++ ys) - 8) = one_there (take m magic ++ ys) now s is in
        let inside : length (take m magic ++ ys) - 8 + 8 ≤ length (take m magic ++ ys) = magic_inside (take m magic ++ ys) (length (take m magic ++ ys) - 8) there in
        let sum : length xs - length (take m magic) + (length (take m magic ++ ys) - 8) ≡ length (xs ++ ys) - 8 =
        omega (arith, inside, length-append xs ys, length-append (take m magic) ys, length_of_matched m r.most, matched_few xs m r, matched_few (take m magic ++ ys) now s, is) in
        ap (λ o. shift (length xs - length (take m magic)) o) there ∙ ap (λ k. Some k) sum

-- no bytes
pub matches_nothing : Matches [] 0
matches_nothing = record { most = omega arith; start = refl; first = refl }

-- the front of a magic alone
pub matches_front : (m : ℕ) → m < 8 → Matches (take m magic ++ []) m
matches_front zero h = record { most = omega arith; start = refl; first = refl }
matches_front (suc zero) h = record { most = omega arith; start = refl; first = refl }
matches_front (suc (suc zero)) h = record { most = omega arith; start = refl; first = refl }
matches_front (suc (suc (suc zero))) h = record { most = omega arith; start = refl; first = refl }
matches_front (suc (suc (suc (suc zero)))) h = record { most = omega arith; start = refl; first = refl }
matches_front (suc (suc (suc (suc (suc zero))))) h = record { most = omega arith; start = refl; first = refl }
matches_front (suc (suc (suc (suc (suc (suc zero)))))) h = record { most = omega arith; start = refl; first = refl }
matches_front (suc (suc (suc (suc (suc (suc (suc zero))))))) h = record { most = omega arith; start = refl; first = refl }
matches_front (suc (suc (suc (suc (suc (suc (suc (suc m)))))))) h = absurd (omega arith)

-- bytes none of which is the magic's first
pub matches_none : (ys : List ℕ) → ((k : ℕ) → k < length ys → get_or ys k 0 ≢ 79) → Matches ys 0
matches_none [] h = matches_nothing
matches_none (y ∷ ys) h =
    let later = matches_none ys (λ k less. h (suc k) (omega arith)) in
    let other : y ≢ 79 = h 0 (omega arith) in
    let no_start : is_start (y ∷ ys) ≡ false =
    not_true (is_start (y ∷ ys)) (λ e. other (ap (λ (t : List ℕ). get_or t 0 0) ((bytes_eq-Decides (y ∷ ys) (take (length (y ∷ ys)) magic)).0 e))) in
    let no_magic : is_magic (y ∷ ys) ≡ false =
    not_true (is_magic (y ∷ ys)) (λ e. other (sym (ap (λ (t : List ℕ). get_or t 0 0) ((bytes_eq-Decides magic (take 8 (y ∷ ys))).0 e)))) in
    record {
      most = omega arith;
      start = cond-false (is_start (y ∷ ys)) (y ∷ ys) (start_of_magic ys) no_start ∙ later.start;
      first = cond-false (is_magic (y ∷ ys)) (Some 0) (one_further (first_magic ys)) no_magic ∙ ap (λ o. one_further o) later.first;
    }

-- fewer bytes than a magic has
pub short_none : (zs : List ℕ) → length zs < 8 → first_magic zs ≡ None
short_none zs h = by_magic (first_magic zs) refl
  where
    by_magic : (o : Option ℕ) → first_magic zs ≡ o → o ≡ None
    by_magic None e = refl
    by_magic (Some n) e = let inside : n + 8 ≤ length zs = magic_inside zs n e in absurd (omega arith)

pub on_first : (m : ℕ) → m < 4 → Matches (take m magic ++ 79 ∷ []) (m + 1)
on_first zero h = record { most = omega arith; start = refl; first = refl }
on_first (suc zero) h = record { most = omega arith; start = refl; first = refl }
on_first (suc (suc zero)) h = record { most = omega arith; start = refl; first = refl }
on_first (suc (suc (suc zero))) h = record { most = omega arith; start = refl; first = refl }
on_first (suc (suc (suc (suc m)))) h = absurd (omega arith)

pub on_fifth : (m : ℕ) → m ≡ 4 → Matches (take m magic ++ 79 ∷ []) 4
on_fifth m h = subst (λ (n : ℕ). Matches (take n magic ++ 79 ∷ []) 4) (sym h) (record { most = omega arith; start = refl; first = refl })

pub on_again : (m : ℕ) → 5 ≤ m → m < 8 → Matches (take m magic ++ 79 ∷ []) 1
on_again zero l h = absurd (omega arith)
on_again (suc zero) l h = absurd (omega arith)
on_again (suc (suc zero)) l h = absurd (omega arith)
on_again (suc (suc (suc zero))) l h = absurd (omega arith)
on_again (suc (suc (suc (suc zero)))) l h = absurd (omega arith)
on_again (suc (suc (suc (suc (suc zero))))) l h = record { most = omega arith; start = refl; first = refl }
on_again (suc (suc (suc (suc (suc (suc zero)))))) l h = record { most = omega arith; start = refl; first = refl }
on_again (suc (suc (suc (suc (suc (suc (suc zero))))))) l h = record { most = omega arith; start = refl; first = refl }
on_again (suc (suc (suc (suc (suc (suc (suc (suc m)))))))) l h = absurd (omega arith)

pub on_last : (m : ℕ) → 4 ≤ m → m < 8 → Matches (take m magic ++ 255 ∷ []) (m + 1)
on_last zero l h = absurd (omega arith)
on_last (suc zero) l h = absurd (omega arith)
on_last (suc (suc zero)) l h = absurd (omega arith)
on_last (suc (suc (suc zero))) l h = absurd (omega arith)
on_last (suc (suc (suc (suc zero)))) l h = record { most = omega arith; start = refl; first = refl }
on_last (suc (suc (suc (suc (suc zero))))) l h = record { most = omega arith; start = refl; first = refl }
on_last (suc (suc (suc (suc (suc (suc zero)))))) l h = record { most = omega arith; start = refl; first = refl }
on_last (suc (suc (suc (suc (suc (suc (suc zero))))))) l h = record { most = omega arith; start = refl; first = refl }
on_last (suc (suc (suc (suc (suc (suc (suc (suc m)))))))) l h = absurd (omega arith)

not_equal : (a b : ℕ) → a ≢ b → nat_eq a b ≡ false
not_equal a b h = not_true (nat_eq a b) (λ e. h (grind (arith, nat_tests)))

pub on_other : (m b : ℕ) → m < 8 → b ≢ 79 → (b ≡ 255 → m < 4) → Matches (take m magic ++ b ∷ []) 0
on_other m b h first last = by_matched m h last
  where
    e : nat_eq b 79 ≡ false
    e = not_equal b 79 first

    later : (m : ℕ) → 4 ≤ m → (b ≡ 255 → m < 4) → nat_eq b 255 ≡ false
    later m l k = not_equal b 255 (λ is. let less : m < 4 = k is in absurd (omega arith))

    by_matched : (m : ℕ) → m < 8 → (b ≡ 255 → m < 4) → Matches (take m magic ++ b ∷ []) 0
    by_matched zero h k = record { most = omega arith; start = simp e; first = short_none (b ∷ []) (omega arith) }
    by_matched (suc zero) h k = record { most = omega arith; start = simp e; first = short_none (79 ∷ b ∷ []) (omega arith) }
    by_matched (suc (suc zero)) h k = record { most = omega arith; start = simp e; first = short_none (79 ∷ 79 ∷ b ∷ []) (omega arith) }
    by_matched (suc (suc (suc zero))) h k = record { most = omega arith; start = simp e; first = short_none (79 ∷ 79 ∷ 79 ∷ b ∷ []) (omega arith) }
    by_matched (suc (suc (suc (suc zero)))) h k =
        let f = later 4 (omega arith) k in
        record { most = omega arith; start = simp (e, f); first = short_none (79 ∷ 79 ∷ 79 ∷ 79 ∷ b ∷ []) (omega arith) }
    by_matched (suc (suc (suc (suc (suc zero))))) h k =
        let f = later 5 (omega arith) k in
        record { most = omega arith; start = simp (e, f); first = short_none (79 ∷ 79 ∷ 79 ∷ 79 ∷ 255 ∷ b ∷ []) (omega arith) }
    by_matched (suc (suc (suc (suc (suc (suc zero)))))) h k =
        let f = later 6 (omega arith) k in
        record { most = omega arith; start = simp (e, f); first = short_none (79 ∷ 79 ∷ 79 ∷ 79 ∷ 255 ∷ 255 ∷ b ∷ []) (omega arith) }
    by_matched (suc (suc (suc (suc (suc (suc (suc zero))))))) h k =
        let f = later 7 (omega arith) k in
        let no_magic : is_magic (79 ∷ 79 ∷ 79 ∷ 79 ∷ 255 ∷ 255 ∷ 255 ∷ b ∷ []) ≡ false =
        not_true (is_magic (79 ∷ 79 ∷ 79 ∷ 79 ∷ 255 ∷ 255 ∷ 255 ∷ b ∷ [])) (λ t.
        let same : 255 ≡ b = ap (λ (t : List ℕ). get_or t 7 0) ((bytes_eq-Decides magic (79 ∷ 79 ∷ 79 ∷ 79 ∷ 255 ∷ 255 ∷ 255 ∷ b ∷ [])).0 t) in
        let less : 7 < 4 = k (sym same) in
        absurd (omega arith)) in
        record {
          most = omega arith;
          start = simp (e, f);
          first = cond-false (is_magic (79 ∷ 79 ∷ 79 ∷ 79 ∷ 255 ∷ 255 ∷ 255 ∷ b ∷ [])) (Some 0) (one_further (first_magic (79 ∷ 79 ∷ 79 ∷ 255 ∷ 255 ∷ 255 ∷ b ∷ []))) no_magic
              ∙ ap (λ o. one_further o) (short_none (79 ∷ 79 ∷ 79 ∷ 255 ∷ 255 ∷ 255 ∷ b ∷ []) (omega arith));
        }
    by_matched (suc (suc (suc (suc (suc (suc (suc (suc m)))))))) h k = absurd (omega arith)

-- bytes are passed over that don't begin a magic
pub pass_to : (front bytes : List ℕ) (at n : ℕ) → Matches (front ++ take at bytes) 0 → at + n ≤ length bytes → ((k : ℕ) → k < n → get_or (drop at bytes) k 0 ≢ 79) → Matches (front ++ take (at + n) bytes) 0
pass_to front bytes at n r inside other =
    let long : length (take n (drop at bytes)) ≡ n = length-take-le n (drop at bytes) (omega (arith, length-drop at bytes)) in
    let none : Matches (take n (drop at bytes)) 0 =
    matches_none (take n (drop at bytes)) (λ k less e. other k (omega arith) (sym (get_or-take n (drop at bytes) k 0 (omega arith)) ∙ e)) in
    subst (λ (t : List ℕ). Matches t 0) (append_assoc front (take at bytes) (take n (drop at bytes)) ∙ ap (λ t. front ++ t) (sym (take-add at n bytes)))
    (matches_on (front ++ take at bytes) (take n (drop at bytes)) 0 0 r (omega arith) none)

-- one more byte
pub pass_one : (front bytes : List ℕ) (at now next : ℕ) → Matches (front ++ take at bytes) now → now < 8 → at < length bytes → Matches (take now magic ++ get_or bytes at 0 ∷ []) next → Matches (front ++ take (at + 1) bytes) next
pass_one front bytes at now next r few inside s =
    subst (λ (t : List ℕ). Matches t next) (append_assoc front (take at bytes) (get_or bytes at 0 ∷ []) ∙ ap (λ t. front ++ t) (sym (take_more bytes at 0 inside)))
    (matches_on (front ++ take at bytes) (get_or bytes at 0 ∷ []) now next r few s)

-- what a search for the magic's first byte says of the bytes from a place on
pub no_first : (bytes : List ℕ) (at n : ℕ) → ((k : ℕ) → 0 ≤ k → k < n → (slice_index (take (length bytes - at) (drop at bytes)) k == 79) ≡ true → ⊥) → (k : ℕ) → k < n → get_or (drop at bytes) k 0 ≢ 79
no_first bytes at n h k less e = h k (omega arith) less (eq-eqb (slice_index (take (length bytes - at) (drop at bytes)) k) 79 (ap (λ (t : List ℕ). get_or t k 0) (take_rest bytes at) ∙ e))
