-- One more engine behind the others, of the kind whose turn it is, which has run nothing.
use Rattle.std.proofs.Common.{◌≡◌, ℕ, zero, suc, ◌+◌, ◌<◌, ◌++◌, List, [], ◌∷◌, length, map, sym, subst, ◌∙◌, ap, arith}
use Rattle.std.specs.Prelude.{All, slice_index_or}
use Rattle.std.specs.List.{range_with_len}
use Rattle.std.proofs.lemmas.List.{map_push}
use Rattle.std.proofs.lemmas.List.FromFn.{map-range_with_len_more}
use Rattle.vc_engine.specs.declared.engine.CodecEngine.{CodecEngine}
use Rattle.vc_engines.specs.declared.any.AnyEngine.{AnyEngine}
use Rattle.vc_engines.specs.Kinds.{of_any}

pub one_more :
    {E K : Type 0} (kind : E → K) (turn : ℕ → K) (es es' : List E) (e : E) (place : ℕ) → map kind es ≡ map turn (range_with_len 0 place)
    → kind e ≡ turn place → es' ≡ es ++ e ∷ [] → map kind es' ≡ map turn (range_with_len 0 (place + 1))
one_more kind turn es es' e place so_far here is =
    ap (map kind) is
    ∙ (map_push kind es e ∙ (ap (λ z. z ++ kind e ∷ []) so_far ∙ (ap (λ k. map turn (range_with_len 0 place) ++ k ∷ []) here ∙ sym (map-range_with_len_more turn 0 place place (omega arith)))))

-- how often an engine of the program ran
abbrev pub runs_in : {A B C : Type 0} → AnyEngine (CodecEngine A) (CodecEngine B) (CodecEngine C) → ℕ
runs_in {A} {B} {C} engine = of_any (λ (a : CodecEngine A). a.runs) (λ (b : CodecEngine B). b.runs) (λ (c : CodecEngine C). c.runs) engine

one_at :
    {E K : Type 0} (kind : E → K) (is : K) (es : List E) (e : E) (k : ℕ) (d : E) → All (λ x. kind x ≡ is) es → kind e ≡ is → k < length (es ++ e ∷ [])
    → kind (slice_index_or (es ++ e ∷ []) k d) ≡ is
one_at kind is [] e zero d all here l = here
one_at kind is [] e (suc k) d all here l = absurd (omega (arith, l))
one_at kind is (x ∷ es) e zero d all here l = all zero d (omega arith)
one_at kind is (x ∷ es) e (suc k) d all here l =
    one_at kind is es e k d (λ j f m. all (suc j) f (omega (arith, m))) here (omega (arith, l))

-- where all are of a kind, and so is one more, all are
pub all_and_one :
    {E K : Type 0} (kind : E → K) (is : K) (es es' : List E) (e : E) → All (λ x. kind x ≡ is) es → kind e ≡ is → es' ≡ es ++ e ∷ []
    → All (λ x. kind x ≡ is) es'
all_and_one kind is es es' e all here more = subst (λ l. All (λ x. kind x ≡ is) l) (sym more) (λ k d l. one_at kind is es e k d all here l)

-- where none has run, and one more has not, none has
pub still_none :
    {E : Type 0} (count : E → ℕ) (es es' : List E) (e : E) → All (λ x. count x ≡ 0) es → count e ≡ 0 → es' ≡ es ++ e ∷ []
    → All (λ x. count x ≡ 0) es'
still_none count es es' e none here is = all_and_one count 0 es es' e none here is
