-- Words that are read two by two.
use Rattle.std.proofs.Common.{◌≡◌, refl, sym, ◌∙◌, ap, ℕ, ◌-◌, ◌<◌, ◌≤◌, true, false, ◌&&◌, ◌==◌, List, [], ◌∷◌, length, take, drop, get_or, map, None, arith}
use Rattle.std.proofs.lemmas.List.{take_all}
use Rattle.vc_words.specs.declared.options.Name.{Name}
use Rattle.vc_words.specs.Options.{value_of, is_single, are_options}

-- what is left behind a pair
abbrev pub behind : {X : Type 0} → List X → List X
behind xs = take (length xs - 2) (drop 2 xs)

-- the first pair, and what is left
pub first_pair : {X : Type 0} (f : X → List ℕ) (xs : List X) (a : X) → 2 ≤ length xs → a ≡ get_or xs 0 a →
    (v : List ℕ) × (map f xs ≡ f a ∷ v ∷ map f (behind xs))
first_pair f [] a two is = absurd (omega arith)
first_pair f (x ∷ []) a two is = absurd (omega arith)
first_pair f (x ∷ y ∷ zs) a two is =
    let left : length (x ∷ y ∷ zs) - 2 ≡ length zs = omega arith in
    let all : take (length (x ∷ y ∷ zs) - 2) zs ≡ zs = ap (λ n. take n zs) left ∙ take_all (length zs) zs (omega arith) in
    (f y, ap (λ z. f z ∷ f y ∷ map f zs) (sym is) ∙ ap (λ z. f a ∷ f y ∷ map f z) (sym all))

pub no_value : {X : Type 0} (f : X → List ℕ) (name : List ℕ) (xs : List X) → length xs < 2 → value_of name (map f xs) ≡ None
no_value f name [] short = refl
no_value f name (x ∷ []) short = refl
no_value f name (x ∷ y ∷ zs) short = absurd (omega arith)

-- words end where no pair is left
pub ends : {X : Type 0} (f : X → List ℕ) (names : List Name) (xs : List X) → length xs < 2 → are_options names (map f xs) ≡ (length xs == 0)
ends f names [] short = refl
ends f names (x ∷ []) short = refl
ends f names (x ∷ y ∷ zs) short = absurd (omega arith)

-- a pair in front of others
pub pair_and_more : {X : Type 0} (f : X → List ℕ) (names : List Name) (xs : List X) (a : X) → 2 ≤ length xs → a ≡ get_or xs 0 a →
    are_options names (map f xs) ≡ (is_single names (f a) (map f (behind xs)) && are_options names (map f (behind xs)))
pair_and_more f names xs a two is = let pair = first_pair f xs a two is in ap (are_options names) pair.1

pub stops : {X : Type 0} (f : X → List ℕ) (names : List Name) (xs : List X) (a : X) → 2 ≤ length xs → a ≡ get_or xs 0 a →
    is_single names (f a) (map f (behind xs)) ≡ false → are_options names (map f xs) ≡ false
stops f names xs a two is single = pair_and_more f names xs a two is ∙ ap (λ b. b && are_options names (map f (behind xs))) single

pub goes_on : {X : Type 0} (f : X → List ℕ) (names : List Name) (xs : List X) (a : X) → 2 ≤ length xs → a ≡ get_or xs 0 a →
    is_single names (f a) (map f (behind xs)) ≡ true → are_options names (map f xs) ≡ are_options names (map f (behind xs))
goes_on f names xs a two is single = pair_and_more f names xs a two is ∙ ap (λ b. b && are_options names (map f (behind xs))) single
