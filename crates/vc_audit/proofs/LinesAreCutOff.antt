-- A text is its first line and then the lines of what stands behind it, and an audit's input is cut line by line.
use Rattle.std.proofs.Common.{ℕ, zero, suc, ◌≡◌, ◌≤◌, ◌<◌, ◌+◌, ◌-◌, ◌==◌, Bool, true, false, cond, List, [], ◌∷◌, ◌++◌, length, take, drop, refl, sym, ap, ◌∙◌, subst, arith, append_assoc}
use Rattle.std.specs.Prelude.{bytes_eq, Some, None}
use Rattle.std.proofs.Math.Seq.{take-add}
use Rattle.std.proofs.lemmas.List.{append-nil, drop-drop, length-drop, length-take, take_all, drop_all}
use Rattle.std.proofs.lemmas.Slice.Eq.{bytes_eq-Decides}
use Rattle.vc_model.specs.Script.{first_lines, with_first, split_lines}
use Rattle.vc_model.specs.Audit.{AuditInput, audit_input, with_line, separator}
use Rattle.vc_model.proofs.FirstLinesAgree.{joined_whole}

-- the first line, where the rest of the bytes is cut so
first_of :
    (b : ℕ) (bs : List ℕ) → with_first b (split_lines bs) ≡ (b ∷ first_lines bs 1) ∷ split_lines (drop (length (b ∷ first_lines bs 1)) (b ∷ bs))
    → (t : Bool) → cond t ((b ∷ []) ∷ split_lines bs) (with_first b (split_lines bs)) ≡ (b ∷ first_lines bs (cond t 0 1)) ∷ split_lines (drop (length (b ∷ first_lines bs (cond t 0 1))) (b ∷ bs))
first_of b bs behind true = refl
first_of b bs behind false = behind

pub split_first : (b : ℕ) (bs : List ℕ) → split_lines (b ∷ bs) ≡ first_lines (b ∷ bs) 1 ∷ split_lines (drop (length (first_lines (b ∷ bs) 1)) (b ∷ bs))
split_first b [] = first_of b [] refl (b == 10)
split_first b (c ∷ cs) = first_of b (c ∷ cs) (ap (λ ls. with_first b ls) (split_first c cs)) (b == 10)

-- the first line stands at the front, and some byte is in it
pub first_front : (bs : List ℕ) (n : ℕ) → take (length (first_lines bs n)) bs ≡ first_lines bs n
first_front bs zero = refl
first_front [] (suc n) = refl
first_front (b ∷ bs) (suc n) = ap (λ t. b ∷ t) (first_front bs (cond (b == 10) n (suc n)))

pub first_some : (bs : List ℕ) → 0 < length bs → 0 < length (first_lines bs 1)
first_some [] some = some
first_some (b ∷ bs) some = omega arith

-- a slice from a place on is what is left there
pub left_over : (at : ℕ) (bs : List ℕ) → take (length bs - at) (drop at bs) ≡ drop at bs
left_over at bs = take_all (length bs - at) (drop at bs) (omega (arith, length-drop at bs))

-- what stands before a script
abbrev pub behind_front : List ℕ → AuditInput → AuditInput
behind_front front parts = record parts { script = front ++ parts.script }

-- The input is what was passed over and then the input that is left.
abbrev pub IsCutSoFar : List ℕ → ℕ → Type 0
IsCutSoFar input at = (audit_input input ≡ behind_front (take at input) (audit_input (drop at input))) × (at ≤ length input)

pub not_cut : (input : List ℕ) → IsCutSoFar input 0
not_cut input = (refl, omega arith)

-- the first line of an input is the separating line, or isn't
first_is : (bs : List ℕ) → 0 < length bs → bytes_eq (first_lines bs 1) separator ≡ true → audit_input bs ≡ record { script = []; report = Some (drop (length (first_lines bs 1)) bs) }
first_is [] some is = absurd (omega (arith, some))
first_is (b ∷ bs) some is =
    rw (split_first b bs) (rw is (ap (λ (r : List ℕ). let i : AuditInput = record { script = []; report = Some r } in i) (joined_whole (drop (length (first_lines (b ∷ bs) 1)) (b ∷ bs)))))

first_not : (bs : List ℕ) → 0 < length bs → bytes_eq (first_lines bs 1) separator ≡ false → audit_input bs ≡ with_line (first_lines bs 1) (audit_input (drop (length (first_lines bs 1)) bs))
first_not [] some is = absurd (omega (arith, some))
first_not (b ∷ bs) some is = rw (split_first b bs) (rw is refl)

joined_front : (front line both : List ℕ) (parts : AuditInput) → both ≡ front ++ line → behind_front front (with_line line parts) ≡ behind_front both parts
joined_front front line both parts e =
    rw e (ap (λ (script : List ℕ). let p : AuditInput = record parts { script = script } in p) (sym (append_assoc front line parts.script)))

-- Passing over a line that isn't the separating one.
pub one_more : (input line : List ℕ) (at : ℕ) → IsCutSoFar input at → at < length input → line ≡ first_lines (drop at input) 1 → bytes_eq line separator ≡ false → IsCutSoFar input (at + length line)
one_more input line at so_far inside is other =
    let some : 0 < length (drop at input) = omega (arith, length-drop at input, inside) in
    let not : bytes_eq (first_lines (drop at input) 1) separator ≡ false = subst (λ (l : List ℕ). bytes_eq l separator ≡ false) is other in
    let front : take (length line) (drop at input) ≡ line = subst (λ (l : List ℕ). take (length l) (drop at input) ≡ l) (sym is) (first_front (drop at input) 1) in
    let few : length line ≤ length (drop at input) = omega (arith, ap length front, length-take (length line) (drop at input)) in
    let step : audit_input (drop at input) ≡ with_line line (audit_input (drop (length line) (drop at input))) =
    subst (λ (l : List ℕ). audit_input (drop at input) ≡ with_line l (audit_input (drop (length l) (drop at input)))) (sym is) (first_not (drop at input) some not) in
    let behind : drop (length line) (drop at input) ≡ drop (at + length line) input = drop-drop (length line) at input in
    let before : take (at + length line) input ≡ take at input ++ line = take-add at (length line) input ∙ ap (λ t. take at input ++ t) front in
    (so_far.0 ∙ (ap (behind_front (take at input)) (step ∙ ap (λ (bs : List ℕ). with_line line (audit_input bs)) behind) ∙ joined_front (take at input) line (take (at + length line) input) (audit_input (drop (at + length line) input)) before), omega (arith, few, so_far.1, length-drop at input))

parts_are : (script script' report report' : List ℕ) → script ≡ script' → report ≡ report' → (let p : AuditInput = record { script = script; report = Some report } in p) ≡ record { script = script'; report = Some report' }
parts_are script script' report report' e f = rw e (rw f refl)

-- At the separating line.
pub cut_here : (input line : List ℕ) (at : ℕ) → IsCutSoFar input at → at < length input → line ≡ first_lines (drop at input) 1 → bytes_eq line separator ≡ true → audit_input input ≡ record { script = take at input; report = Some (drop (at + 5) input) }
cut_here input line at so_far inside is same =
    let some : 0 < length (drop at input) = omega (arith, length-drop at input, inside) in
    let here : bytes_eq (first_lines (drop at input) 1) separator ≡ true = subst (λ (l : List ℕ). bytes_eq l separator ≡ true) is same in
    let five : first_lines (drop at input) 1 ≡ separator = (bytes_eq-Decides (first_lines (drop at input) 1) separator).0 here in
    let behind : drop (length (first_lines (drop at input) 1)) (drop at input) ≡ drop (at + 5) input =
    ap (λ (l : List ℕ). drop (length l) (drop at input)) five ∙ drop-drop 5 at input in
    so_far.0 ∙ (ap (behind_front (take at input)) (first_is (drop at input) some here) ∙ parts_are (take at input ++ []) (take at input) _ (drop (at + 5) input) (append-nil (take at input)) behind)

-- At the end there is none.
pub none_here : (input : List ℕ) (at : ℕ) → IsCutSoFar input at → length input ≤ at → audit_input input ≡ record { script = input; report = None }
none_here input at so_far end =
    let whole : take at input ≡ input = take_all at input end in
    let none : drop at input ≡ [] = drop_all at input end in
    so_far.0 ∙ (ap (λ (bs : List ℕ). behind_front (take at input) (audit_input bs)) none ∙ ap (λ (script : List ℕ). let p : AuditInput = record { script = script; report = None } in p) (append-nil (take at input) ∙ whole))
