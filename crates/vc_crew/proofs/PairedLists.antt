-- Lists whose entries are related place by place, and how they grow and shrink at their ends.
use Rattle.std.proofs.Common.{ℕ, zero, suc, ◌≡◌, ◌<◌, List, [], ◌∷◌, ◌++◌, length, length-append, Option, Some, None, refl, sym, subst, arith}
use Rattle.std.specs.Prelude.{All, slice_index_or}
use Rattle.vc_worker.specs.Both.{Both, IfThere}
use Rattle.vc_crew.specs.Flowing.{ArePaired}

pair_behind : {A B : Type 0} (R : A → B → Type 0) (xs : List A) (ys : List B) (x : A) (y : B) → ArePaired R xs ys → R x y → ArePaired R (xs ++ x ∷ []) (ys ++ y ∷ [])
pair_behind R [] [] x y all is = (is, tt)
pair_behind R (a ∷ xs) (b ∷ ys) x y all is = (all.0, pair_behind R xs ys x y all.1 is)
pair_behind R [] (b ∷ ys) x y all is = absurd all
pair_behind R (a ∷ xs) [] x y all is = absurd all

-- one more pair behind the others
pub paired_more : {A B : Type 0} (R : A → B → Type 0) (xs : List A) (ys : List B) (x : A) (y : B) (xs' : List A) (ys' : List B) → ArePaired R xs ys → R x y → xs' ≡ xs ++ x ∷ [] → ys' ≡ ys ++ y ∷ [] → ArePaired R xs' ys'
paired_more R xs ys x y xs' ys' all is a b =
    subst (λ l. ArePaired R l ys') (sym a) (subst (λ l. ArePaired R (xs ++ x ∷ []) l) (sym b) (pair_behind R xs ys x y all is))

pub paired_none : {A B : Type 0} (R : A → B → Type 0) (xs : List A) (ys : List B) → length xs ≡ 0 → ys ≡ [] → ArePaired R xs ys
paired_none R [] ys a b = subst (λ l. ArePaired R [] l) (sym b) tt
paired_none R (x ∷ xs) ys a b = absurd (omega (arith, a))

no_pair : {A B : Type 0} (R : A → B → Type 0) (xs : List A) (x : A) → ArePaired R (xs ++ x ∷ []) [] → ⊥
no_pair R [] x all = all
no_pair R (a ∷ xs) x all = all

no_more : {A B : Type 0} (R : A → B → Type 0) (ys : List B) (y : B) → ArePaired R [] (ys ++ y ∷ []) → ⊥
no_more R [] y all = all
no_more R (b ∷ ys) y all = all

last_pair : {A B : Type 0} (R : A → B → Type 0) (xs : List A) (ys : List B) (x : A) (y : B) → ArePaired R (xs ++ x ∷ []) (ys ++ y ∷ []) → ArePaired R xs ys × R x y
last_pair R [] [] x y all = (tt, all.0)
last_pair R (a ∷ xs) (b ∷ ys) x y all =
    let rest = last_pair R xs ys x y all.1 in ((all.0, rest.0), rest.1)
last_pair R [] (b ∷ ys) x y all = absurd (no_more R ys y all.1)
last_pair R (a ∷ xs) [] x y all = absurd (no_pair R xs x all.1)

-- the last pair, and the others
pub paired_last : {A B : Type 0} (R : A → B → Type 0) (xs : List A) (ys : List B) (x : A) (y : B) (xs' : List A) (ys' : List B) → ArePaired R xs' ys' → xs' ≡ xs ++ x ∷ [] → ys' ≡ ys ++ y ∷ [] → ArePaired R xs ys × R x y
paired_last R xs ys x y xs' ys' all a b =
    last_pair R xs ys x y (subst (λ l. ArePaired R (xs ++ x ∷ []) l) b (subst (λ l. ArePaired R l ys') a all))

-- What holds of all of a list

get_front : {A : Type 0} (xs : List A) (x d : A) (k : ℕ) → k < length xs → slice_index_or (xs ++ x ∷ []) k d ≡ slice_index_or xs k d
get_front [] x d k l = absurd (omega arith)
get_front (a ∷ xs) x d zero l = refl
get_front (a ∷ xs) x d (suc k) l = get_front xs x d k (omega (arith, l))

get_last : {A : Type 0} (xs : List A) (x d : A) → slice_index_or (xs ++ x ∷ []) (length xs) d ≡ x
get_last [] x d = refl
get_last (a ∷ xs) x d = get_last xs x d

-- of the last, and of the others
pub all_last : {A : Type 0} (P : A → Type 0) (xs : List A) (x : A) (xs' : List A) → All P xs' → xs' ≡ xs ++ x ∷ [] → All P xs × P x
all_last P xs x xs' all e =
    let both : All P (xs ++ x ∷ []) = subst (λ l. All P l) e all in
    let more = length-append xs (x ∷ []) in (
      λ k d l. subst P (get_front xs x d k l) (both k d (omega (arith, l, more))),
      subst P (get_last xs x x) (both (length xs) x (omega (arith, more))),
    )

at_place : {A : Type 0} (P : A → Type 0) (xs : List A) (x : A) (k : ℕ) (d : A) → All P xs → P x → k < length (xs ++ x ∷ []) → P (slice_index_or (xs ++ x ∷ []) k d)
at_place P [] x zero d all is l = is
at_place P [] x (suc k) d all is l = absurd (omega (arith, l))
at_place P (a ∷ xs) x zero d all is l = all zero d (omega arith)
at_place P (a ∷ xs) x (suc k) d all is l =
    at_place P xs x k d (λ j e m. all (suc j) e (omega (arith, m))) is (omega (arith, l))

-- of one more
pub all_more : {A : Type 0} (P : A → Type 0) (xs : List A) (x : A) (xs' : List A) → All P xs → P x → xs' ≡ xs ++ x ∷ [] → All P xs'
all_more P xs x xs' all is e = subst (λ l. All P l) (sym e) (λ k d l. at_place P xs x k d all is l)

pub all_none : {A : Type 0} (P : A → Type 0) (xs : List A) → xs ≡ [] → All P xs
all_none P xs e = subst (λ l. All P l) (sym e) (λ k d l. absurd (omega (arith, l)))

-- What may be there

pub there_on : {A : Type 0} (R : A → A → Type 0) (Q : A → Type 0) (a b : Option A) → Both R a b → IfThere Q a → ((x y : A) → R x y → Q x → Q y) → IfThere Q b
there_on R Q None None both q step = tt
there_on R Q (Some x) (Some y) both q step = step x y both q
there_on R Q None (Some y) both q step = absurd both
there_on R Q (Some x) None both q step = absurd both

pub all_same : {A : Type 0} (P : A → Type 0) (xs xs' : List A) → All P xs → xs' ≡ xs → All P xs'
all_same P xs xs' all e = subst (λ l. All P l) (sym e) all
