-- Texts that end with their last line: what stands behind the last line feed is nothing, so joined texts have the lines of each.
use Rattle.std.proofs.Common.{ℕ, suc, ◌≡◌, ◌-◌, ◌≤◌, ◌==◌, Bool, true, false, not, cond, ◌&&◌, List, [], ◌∷◌, ◌++◌, length, drop, decimal, refl, sym, ap, ◌∙◌, subst, arith, append_assoc, length-append}
use Rattle.std.specs.List.{list_all}
use Rattle.vc_model.specs.Script.{first_lines}
use Rattle.vc_script.specs.OneLine.{stays_on_line, is_digit, IsLineOf}
use Rattle.vc_script.proofs.OneLine.{number_is_digits}

-- no line feed
abbrev pub OnLine : List ℕ → Type 0
OnLine bytes = list_all stays_on_line bytes ≡ true

front_of : (a b : Bool) → (a && b) ≡ true → a ≡ true
front_of true b e = refl
front_of false b e = e

rest_of : (a b : Bool) → (a && b) ≡ true → b ≡ true
rest_of true b e = e
rest_of false b e = absurd (cc)

feed_step : (b : ℕ) (bytes more : List ℕ) (n : ℕ) (t : Bool) → not t ≡ true → b ∷ first_lines (bytes ++ more) (cond t n (suc n)) ≡ b ∷ first_lines (bytes ++ more) (suc n)
feed_step b bytes more n true e = absurd (cc)
feed_step b bytes more n false e = refl

-- the first line goes first
pub line_first : (front more : List ℕ) (n : ℕ) → OnLine front → first_lines ((front ++ 10 ∷ []) ++ more) (suc n) ≡ (front ++ 10 ∷ []) ++ first_lines more n
line_first [] more n h = refl
line_first (b ∷ front) more n h =
    feed_step b (front ++ 10 ∷ []) more n (b == 10) (front_of (stays_on_line b) (list_all stays_on_line front) h) ∙ ap (λ l. b ∷ l) (line_first front more n (rest_of (stays_on_line b) (list_all stays_on_line front) h))

-- A text of one line.
pub record OneLine (text : List ℕ) : Type 0 where
  pub front : List ℕ
  pub same : text ≡ front ++ 10 ∷ []
  pub on : OnLine front

pub first_of_line : (text more : List ℕ) (n : ℕ) → OneLine text → first_lines (text ++ more) (suc n) ≡ text ++ first_lines more n
first_of_line text more n l =
    subst (λ t. first_lines (t ++ more) (suc n) ≡ t ++ first_lines more n) (sym l.same) (line_first l.front more n l.on)

nil_end : (xs : List ℕ) → xs ++ [] ≡ xs
nil_end [] = refl
nil_end (x ∷ xs) = ap (λ l. x ∷ l) (nil_end xs)

no_more : (more : List ℕ) → first_lines more 0 ≡ []
no_more more = refl

pub whole_line : (text : List ℕ) → OneLine text → (more : List ℕ) → first_lines (text ++ more) 1 ≡ text
whole_line text l more = first_of_line text more 0 l ∙ nil_end text

pub whole_lines : (x y : List ℕ) → OneLine x → OneLine y → (more : List ℕ) → first_lines ((x ++ y) ++ more) 2 ≡ x ++ y
whole_lines x y l m more =
    ap (λ t. first_lines t 2) (append_assoc x y more) ∙ (first_of_line x (y ++ more) 1 l ∙ ap (λ t. x ++ t) (whole_line y m more))

all_append : (f : ℕ → Bool) (xs ys : List ℕ) → list_all f xs ≡ true → list_all f ys ≡ true → list_all f (xs ++ ys) ≡ true
all_append f [] ys a b = b
all_append f (x ∷ xs) ys a b =
    both (f x) (list_all f (xs ++ ys)) (front_of (f x) (list_all f xs) a) (all_append f xs ys (rest_of (f x) (list_all f xs) a) b)
  where
    both : (a b : Bool) → a ≡ true → b ≡ true → (a && b) ≡ true
    both true b p q = q
    both false b p q = absurd (cc)

digits_stay : (ds : List ℕ) → list_all is_digit ds ≡ true → OnLine ds
digits_stay [] h = refl
digits_stay (d ∷ ds) h =
    stays (d == 32) (d == 10) (d == 45) (list_all stays_on_line ds) (front_of (is_digit d) (list_all is_digit ds) h) (digits_stay ds (rest_of (is_digit d) (list_all is_digit ds) h))
  where
    stays : (a b c e : Bool) → (not a && not b && not c) ≡ true → e ≡ true → (not b && e) ≡ true
    stays true b c e p q = absurd (cc)
    stays false true c e p q = absurd (cc)
    stays false false c e p q = q

-- a line of a slot is one line
pub slot_line : (slot : ℕ) (text : List ℕ) → IsLineOf slot text → OneLine text
slot_line slot text l =
    record {
      front = decimal slot ++ (32 ∷ l.0);
      same = l.1 ∙ sym (append_assoc (decimal slot) (32 ∷ l.0) (10 ∷ []));
      on = all_append stays_on_line (decimal slot) (32 ∷ l.0) (digits_stay (decimal slot) (number_is_digits slot)) l.2;
    }

-- the end of a text
pub drop_end : (x y : List ℕ) (m : ℕ) → m ≤ length y → drop (length (x ++ y) - m) (x ++ y) ≡ drop (length y - m) y
drop_end [] y m h = refl
drop_end (a ∷ x) y m h =
    let e : length ((a ∷ x) ++ y) - m ≡ suc (length (x ++ y) - m) = omega (arith, length-append x y) in
    ap (λ k. drop k (a ∷ (x ++ y))) e ∙ drop_end x y m h
