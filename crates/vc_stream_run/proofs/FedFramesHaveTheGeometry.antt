-- What a feed tells of an I frame's end is of the present geometry. Its header was told right before it, and one of
-- another geometry would have ended the run as a change.
use Rattle.std.proofs.Common.{◌≡◌, ◌∙◌, sym, ap, refl, subst, ℕ, suc, zero, ◌+◌, ◌-◌, ◌*◌, ◌%◌, ◌<◌, ◌≤◌, List, [], ◌∷◌, ◌++◌, length, take, drop, get_or, replicate, arith, append_assoc, length-append}
use Rattle.std.specs.Prelude.{◌↔◌, Bool, true, false, ◌&&◌, not, nat_le, cond, option_map}
use Rattle.std.specs.List.{All}
use Rattle.std.specs.declared.option.Option.{Option}
use Rattle.std.specs.declared.option.Option.TheVariants.{Some, None}
use Rattle.std.proofs.lemmas.Option.{none-some}
use Rattle.std.proofs.lemmas.Bool.{cond-true, cond-false}
use Rattle.std.proofs.lemmas.Bool.Decides.{nat_tests}
use Rattle.std.proofs.lemmas.List.{take-append-drop, drop-append-le, append-nil, take-append-le, length-replicate, length-take-le}
use Rattle.std.proofs.lemmas.List.Elements.{All-head, All-drop}
use Rattle.vc_base.specs.declared.Stamp.{Stamp}
use Rattle.vc_base.specs.Buffers.{zero_stamp}
use Rattle.vc_defs.specs.declared.Geometry.{Geometry}
use Rattle.vc_defs.specs.declared.Header.{Header}
use Rattle.vc_defs.specs.Places.{Frame, OpenFrame, places}
use Rattle.vc_defs.specs.Finds.{Find, Head, Ended, position_of, known_at, finds_in, finds, moved_find, told_of_tail, KeptBytes, FedStep, fed_by, fed}
use Rattle.vc_defs.specs.Decoder.{Changed, GivenResult, BetweenFrames, ReferenceState, is_change, is_passed_over, same_geometry, given_at_end, given_by_find, given_by_finds, present_after}
use Rattle.vc_defs.specs.Laws.{IsTold, IsEndAt, kept_at, present_at, from_start, TellsFind, told_after}
use Rattle.vc_defs.proofs.BlocksAreRead.{some_same}
use Rattle.vc_defs.proofs.FedInPieces.{Neat, all_neat, neat_drop, neat_known, feeding, goes_on_at}
use Rattle.vc_defs.proofs.FindsInOrder.{finds_stay}
use Rattle.vc_defs.proofs.ResultsInOrder.{all_inside, by_finds_append}
use Rattle.vc_defs.proofs.ResultsAreOfFinds.{results_are_of_finds}
use Rattle.vc_defs.proofs.StateBetweenRuns.{geometry_same}
use Rattle.vc_resync.specs.Decoding.{InStep}
use Rattle.vc_resync.specs.declared.feeding.Found.{Found}
use Rattle.vc_resync.specs.Assembling.{found_of}
use Rattle.vc_stream_run.specs.Steps.{HasPresent, EndsPresent}
use Rattle.vc_stream_run.specs.Running.{IsInStep}

-- Section: headers and ends come in turns.

-- behind a header comes the end of its frame
abbrev Behind : Header → List Find → Type 0
Behind h [] = Unit {0}
Behind h (Head position g ∷ fs) = ⊥
Behind h (Ended f ∷ fs) = f.header ≡ h

abbrev NoEnd : List Find → Type 0
NoEnd [] = Unit {0}
NoEnd (Head position h ∷ fs) = Unit {0}
NoEnd (Ended f ∷ fs) = ⊥

abbrev InTurns : List Find → Type 0
InTurns [] = Unit {0}
InTurns (Head position h ∷ fs) = Behind h fs × InTurns fs
InTurns (Ended f ∷ fs) = NoEnd fs × InTurns fs

no_end : (fs : List Frame) (u : Option OpenFrame) → NoEnd (finds_in fs u)
no_end [] None = tt
no_end [] (Some f) = tt
no_end (f ∷ fs) u = tt

turns_in : (fs : List Frame) (u : Option OpenFrame) → InTurns (finds_in fs u)
turns_in [] None = tt
turns_in [] (Some f) = (tt, tt)
turns_in (f ∷ fs) u = (refl, (no_end fs u, turns_in fs u))

turns_drop : (n : ℕ) (fs : List Find) → InTurns fs → InTurns (drop n fs)
turns_drop zero fs h = h
turns_drop (suc n) [] h = tt
turns_drop (suc n) (Head position g ∷ fs) h = turns_drop n fs h.1
turns_drop (suc n) (Ended f ∷ fs) h = turns_drop n fs h.1

all_turns : (limit : ℕ) (xs : List ℕ) → InTurns (finds xs limit)
unfolding finds
all_turns limit xs = turns_in (places xs limit).frames (places xs limit).unfinished

all_no_end : (limit : ℕ) (xs : List ℕ) → NoEnd (finds xs limit)
unfolding finds
all_no_end limit xs = no_end (places xs limit).frames (places xs limit).unfinished

-- Section: the geometry of an I frame that ends.

-- an I frame that brings no change has the present geometry
no_change : (h : Header) (g : Option Geometry) → h.key ≡ true → is_change h g ≡ false → g ≡ Some h.geometry
no_change h None key e = let clash : true ≡ false = sym (ap (λ k. k && true) key) ∙ e in absurd cc
no_change h (Some g) key e =
    let n : not (same_geometry g h.geometry) ≡ false = sym (ap (λ k. k && not (same_geometry g h.geometry)) key) ∙ e in
    ap (λ x. Some x) (geometry_same g h.geometry (not_not (same_geometry g h.geometry) n))
  where
    not_not : (b : Bool) → not b ≡ false → b ≡ true
    not_not true e = refl
    not_not false e = absurd cc

-- an I frame's header is one of the geometry that the decoder has behind it
after_head : (position : ℕ) (h : Header) (now : BetweenFrames) → h.key ≡ true → (present_after now (given_by_find (Head position h) now)).geometry ≡ Some h.geometry
after_head position h now key = by_test (is_change h now.geometry) refl
  where
    change : GivenResult
    change = record { result = record { position = position; known = position + 44; kind = Changed h.geometry }; present = record { geometry = Some h.geometry; reference = None } }

    by_test : (b : Bool) → is_change h now.geometry ≡ b → (present_after now (cond b (change ∷ []) [])).geometry ≡ Some h.geometry
    by_test true e = refl
    by_test false e = no_change h now.geometry key e

-- what the decoder has where an I frame's end comes next in a list of finds
before_end : (n : ℕ) (fs : List Find) (now : BetweenFrames) (f : Frame) (later : List Find) → InTurns fs → NoEnd fs → drop n fs ≡ Ended f ∷ later → f.header.key ≡ true →
    (present_after now (given_by_finds (take n fs) now)).geometry ≡ Some f.header.geometry
before_end zero [] now f later t n e key = absurd cc
before_end zero (Head position h ∷ fs) now f later t n e key = absurd cc
before_end zero (Ended g ∷ fs) now f later t n e key = absurd n
before_end (suc n) [] now f later t start e key = absurd cc
before_end (suc zero) (Head position h ∷ []) now f later t start e key = absurd cc
before_end (suc zero) (Head position h ∷ Head p g ∷ fs) now f later t start e key = absurd t.0
before_end (suc zero) (Head position h ∷ Ended g ∷ fs) now f later t start e key =
    let same : g ≡ f = cc in
    let is : f.header ≡ h = ap (λ (x : Frame). x.header) (sym same) ∙ t.0 in
    let first : given_by_find (Head position h) now ++ [] ≡ given_by_find (Head position h) now = append-nil (given_by_find (Head position h) now) in
    ap (λ (xs : List GivenResult). (present_after now xs).geometry) first
    ∙ after_head position h now (ap (λ (x : Header). x.key) (sym is) ∙ key)
    ∙ ap (λ (x : Header). Some x.geometry) (sym is)
before_end (suc (suc n)) (Head position h ∷ []) now f later t start e key = absurd cc
before_end (suc (suc n)) (Head position h ∷ Head p g ∷ fs) now f later t start e key = absurd t.0
before_end (suc (suc n)) (Head position h ∷ Ended g ∷ fs) now f later t start e key =
    let one : BetweenFrames = present_after now (given_by_find (Head position h) now) in
    let two : BetweenFrames = present_after one (given_by_find (Ended g) one) in
    ap (λ (p : BetweenFrames). p.geometry)
    (append_after now (given_by_find (Head position h) now) (given_by_find (Ended g) one ++ given_by_finds (take n fs) two)
    ∙ append_after one (given_by_find (Ended g) one) (given_by_finds (take n fs) two))
    ∙ before_end n fs two f later t.1.1 t.1.0 e key
  where
    append_after : (now : BetweenFrames) (xs ys : List GivenResult) → present_after now (xs ++ ys) ≡ present_after (present_after now xs) ys
    append_after now [] ys = refl
    append_after now (x ∷ xs) ys = append_after x.present xs ys
before_end (suc n) (Ended g ∷ fs) now f later t start e key = absurd start

-- Where an I frame's end is told next, the geometry is that frame's.
abbrev pub Sees : ℕ → Option Geometry → List ℕ → ℕ → Type 0
Sees limit geometry bytes told = (more : List ℕ) (f : Frame) (later : List Find) → drop told (finds (bytes ++ more) limit) ≡ Ended f ∷ later → HasPresent geometry f.header

-- an I frame that ends gives a result
one_given : (f : Frame) (now : BetweenFrames) → f.header.key ≡ true → given_by_find (Ended f) now ≡ given_at_end f now ∷ []
one_given f now key = cond-false (is_passed_over f.header now.reference) [] (given_at_end f now ∷ []) (by_reference now.reference)
  where
    by_reference : (r : Option ReferenceState) → is_passed_over f.header r ≡ false
    by_reference None = ap (λ k. not k) key
    by_reference (Some r) = refl

-- a list of which one is left
take_before : {A : Type 0} (n : ℕ) (xs ys : List A) (y z : A) (zs : List A) → n ≤ length (xs ++ y ∷ []) → drop n (xs ++ y ∷ []) ≡ z ∷ [] → take n (xs ++ y ∷ []) ≡ xs
take_before zero [] ys y z zs h e = refl
take_before zero (x ∷ []) ys y z zs h e = absurd cc
take_before zero (x ∷ w ∷ xs) ys y z zs h e = absurd cc
take_before (suc n) [] ys y z zs h e = absurd (by_rest n e)
  where
    by_rest : {B : Type 0} {c : B} (n : ℕ) → drop n [] ≡ c ∷ [] → ⊥
    by_rest zero e = absurd cc
    by_rest (suc n) e = absurd cc
take_before (suc n) (x ∷ xs) ys y z zs h e = ap (λ t. x ∷ t) (take_before n xs ys y z zs (omega (arith, h)) e)

pub sees_in_step : (limit : ℕ) (g : Option Geometry) (bytes : List ℕ) (told given : ℕ) → InStep limit g bytes told given → Sees limit (present_at bytes limit g given).geometry bytes told
sees_in_step limit g bytes told given s more f later e key = by_left (drop told (finds bytes limit)) refl
  where
    start : BetweenFrames
    start = record { geometry = g; reference = None }

    fs : List Find
    fs = finds bytes limit

    here : BetweenFrames
    here = present_after start (given_by_finds (take told fs) start)

    stay : (later : List Find) × ((finds (bytes ++ more) limit ≡ finds bytes limit ++ later) × All (λ find. length bytes < known_at find) later)
    stay = finds_stay limit bytes more

    front : take told (finds (bytes ++ more) limit) ≡ take told fs
    front = ap (λ t. take told t) stay.1.0 ∙ take-append-le told fs stay.0 s.all_told.0

    -- what the decoder has behind the finds that were told
    here_is : here.geometry ≡ Some f.header.geometry
    here_is =
        ap (λ t. (present_after start (given_by_finds t start)).geometry) (sym front)
        ∙ before_end told (finds (bytes ++ more) limit) start f later (all_turns limit (bytes ++ more)) (all_no_end limit (bytes ++ more)) e key

    all : from_start bytes limit g ≡ given_by_finds (take told fs) start ++ given_by_finds (drop told fs) here
    all =
        results_are_of_finds limit g None bytes
        ∙ ap (λ t. given_by_finds t start) (sym (take-append-drop told fs))
        ∙ by_finds_append (take told fs) (drop told fs) start

    left : drop given (from_start bytes limit g) ≡ given_by_finds (drop told fs) (present_at bytes limit g given)
    left =
        ap (λ t. drop given (from_start t limit g)) (sym (append-nil bytes))
        ∙ s.results []
        ∙ ap (λ t. given_by_finds (drop told (finds t limit)) (present_at bytes limit g given)) (append-nil bytes)

    finish : present_at bytes limit g given ≡ here → Some f.header.geometry ≡ (present_at bytes limit g given).geometry
    finish is = sym here_is ∙ ap (λ (p : BetweenFrames). p.geometry) (sym is)

    nothing_left : {A : Type 0} (n : ℕ) (xs : List A) → drop n xs ≡ [] → take n xs ≡ xs
    nothing_left zero [] e = refl
    nothing_left zero (x ∷ xs) e = absurd cc
    nothing_left (suc n) [] e = refl
    nothing_left (suc n) (x ∷ xs) e = ap (λ t. x ∷ t) (nothing_left n xs e)

    by_left : (left_finds : List Find) → drop told fs ≡ left_finds → (present_at bytes limit g given).geometry ≡ Some f.header.geometry
    by_left [] is =
        let none : drop given (from_start bytes limit g) ≡ [] = left ∙ ap (λ t. given_by_finds t (present_at bytes limit g given)) is in
        sym (finish (
        ap (λ t. present_after start t) (nothing_left given (from_start bytes limit g) none
        ∙ all
        ∙ ap (λ t. given_by_finds (take told fs) start ++ given_by_finds t here) is
        ∙ append-nil (given_by_finds (take told fs) start))
        ))
    by_left (Head position h ∷ rest) is =
        absurd (All-head (IsEndAt (length bytes)) (Head position h) rest (subst (λ (t : List Find). All (IsEndAt (length bytes)) t) is s.all_told.1))
    by_left (Ended x ∷ Head position h ∷ rest) is =
        let ends = subst (λ (t : List Find). All (IsEndAt (length bytes)) t) is s.all_told.1 in
        absurd (All-head (IsEndAt (length bytes)) (Head position h) rest (All-drop (IsEndAt (length bytes)) 1 (Ended x ∷ Head position h ∷ rest) ends))
    by_left (Ended x ∷ Ended y ∷ rest) is =
        absurd (subst (λ (t : List Find). InTurns t) is (turns_drop told fs (all_turns limit bytes))).0
    by_left (Ended x ∷ []) is =
        let on : drop told (finds (bytes ++ more) limit) ≡ Ended x ∷ stay.0 =
        ap (λ t. drop told t) stay.1.0 ∙ drop-append-le told fs stay.0 s.all_told.0 ∙ ap (λ t. t ++ stay.0) is in
        let both : Ended f ∷ later ≡ Ended x ∷ stay.0 = sym e ∙ on in
        let same : f ≡ x = cc in
        let xkey : x.header.key ≡ true = ap (λ (y : Frame). y.header.key) (sym same) ∙ key in
        let p : BetweenFrames = present_at bytes limit g given in
        let last : drop given (from_start bytes limit g) ≡ given_at_end x p ∷ [] =
        left ∙ ap (λ t. given_by_finds t p) is ∙ ap (λ t. t ++ []) (one_given x p xkey) in
        let whole : from_start bytes limit g ≡ given_by_finds (take told fs) start ++ given_at_end x here ∷ [] =
        all ∙ ap (λ t. given_by_finds (take told fs) start ++ given_by_finds t here) is ∙ ap (λ t. given_by_finds (take told fs) start ++ (t ++ [])) (one_given x here xkey) in
        sym (finish (
        ap (λ t. present_after start (take given t)) whole
        ∙ ap (λ t. present_after start t) (take_before given (given_by_finds (take told fs) start) [] (given_at_end x here) (given_at_end x p) [] (subst (λ (t : List GivenResult). given ≤ length t) whole s.reached.0) (ap (λ t. drop given t) (sym whole) ∙ last))
        ))

-- Section: where a run stands.

-- Some bytes were taken, and so many finds of them told; this is kept; and where an I frame's end is told next, the
-- geometry is that frame's.
pub record At (limit : ℕ) (geometry : Option Geometry) (kept : KeptBytes) : Type 0 where
  pub bytes : List ℕ
  pub stamps : List Stamp
  pub told : ℕ
  pub long : length stamps ≡ length bytes
  pub all_told : IsTold bytes limit told
  pub is : kept ≡ kept_at bytes stamps limit told
  pub sees : Sees limit geometry bytes told

pub at_first : (limit : ℕ) (geometry : Option Geometry) (reference : Option ReferenceState) (kept : KeptBytes) → IsInStep limit geometry reference kept → At limit geometry kept
at_first limit geometry reference kept i = record {
  bytes = i.bytes;
  stamps = i.stamps;
  told = i.told;
  long = i.long;
  all_told = i.in_step.all_told;
  is = i.keeps;
  sees = subst (λ (p : BetweenFrames). Sees limit p.geometry i.bytes i.told) (sym i.has) (sees_in_step limit i.begun i.bytes i.told i.given i.in_step);
}

-- Section: a feed that tells something.

record Next (limit : ℕ) (bytes source : List ℕ) (stamps : List Stamp) (stamp : Stamp) (told : ℕ) (find : Find) (step : FedStep) : Type 0 where
  next : Find
  from : ℕ
  same : moved_find from find ≡ next
  inside : step.moved ≤ length source
  there : IsTold (bytes ++ take step.moved source) limit (suc told)
  kept : step.kept ≡ kept_at (bytes ++ take step.moved source) (stamps ++ replicate step.moved stamp) limit (suc told)
  now : drop told (finds (bytes ++ source) limit) ≡ next ∷ drop (suc told) (finds (bytes ++ source) limit)
  on : (more : List ℕ) → drop told (finds (bytes ++ take step.moved source ++ more) limit) ≡ next ∷ drop (suc told) (finds (bytes ++ take step.moved source ++ more) limit)

-- what stands at a place that is told
one_there : (n : ℕ) (fs : List Find) → suc n ≤ length fs → (f : Find) × (drop n fs ≡ f ∷ drop (suc n) fs)
one_there n [] h = absurd (omega arith)
one_there zero (f ∷ fs) h = (f, refl)
one_there (suc n) (f ∷ fs) h = one_there n fs (omega arith)

next_is : (limit : ℕ) (bytes source : List ℕ) (stamps : List Stamp) (stamp : Stamp) (told : ℕ) (find : Find) → length stamps ≡ length bytes → IsTold bytes limit told → (fed (kept_at bytes stamps limit told) limit source stamp).told ≡ Some find →
    Next limit bytes source stamps stamp told find (fed (kept_at bytes stamps limit told) limit source stamp)
next_is limit bytes source stamps stamp told find long t some =
    let r = feeding limit bytes source stamps stamp told long t in by_finds (drop told (finds (bytes ++ source) limit)) refl r.1 r.2 r.3
  where
    step : FedStep
    step = fed (kept_at bytes stamps limit told) limit source stamp

    taken : List ℕ
    taken = bytes ++ take step.moved source

    whole : bytes ++ source ≡ taken ++ drop step.moved source
    whole = ap (λ t. bytes ++ t) (sym (take-append-drop step.moved source)) ∙ sym (append_assoc bytes (take step.moved source) (drop step.moved source))

    going : (more : List ℕ) (f : Find) → suc told ≤ length (finds taken limit) → drop told (finds taken limit) ≡ f ∷ drop (suc told) (finds taken limit) → drop told (finds (taken ++ more) limit) ≡ f ∷ drop (suc told) (finds (taken ++ more) limit)
    going more f few e =
        let s = finds_stay limit taken more in
        ap (λ t. drop told t) s.1.0
        ∙ drop-append-le told (finds taken limit) s.0 (omega arith)
        ∙ ap (λ t. t ++ s.0) e
        ∙ ap (λ t. f ∷ t) (sym (drop-append-le (suc told) (finds taken limit) s.0 few))
        ∙ ap (λ t. f ∷ drop (suc told) t) (sym s.1.0)

    by_finds : (fs : List Find) → drop told (finds (bytes ++ source) limit) ≡ fs →
        TellsFind step (length bytes - length (kept_at bytes stamps limit told).tail) bytes source (λ p. get_or (stamps ++ replicate (length source) stamp) p zero_stamp) fs →
        IsTold (bytes ++ take step.moved source) limit (told_after told fs) → step.kept ≡ kept_at (bytes ++ take step.moved source) (stamps ++ replicate step.moved stamp) limit (told_after told fs) →
        Next limit bytes source stamps stamp told find step
    by_finds [] e tells there kept = absurd (none-some find (sym tells.0 ∙ some))
    by_finds (next ∷ later) e tells there kept =
        let from : ℕ = length bytes - length (kept_at bytes stamps limit told).tail in
        let same : moved_find from find ≡ next = some_same (moved_find from find) next (ap (λ o. option_map (moved_find from) o) (sym some) ∙ tells.0) in
        let high : known_at next ≤ length (bytes ++ source) =
        All-head (λ f. known_at f ≤ length (bytes ++ source)) next later (subst (λ (t : List Find). All (λ f. known_at f ≤ length (bytes ++ source)) t) e (All-drop (λ f. known_at f ≤ length (bytes ++ source)) told (finds (bytes ++ source) limit) (all_inside limit (bytes ++ source)))) in
        let one = one_there told (finds taken limit) there.0 in
        let first : one.0 ∷ drop (suc told) (finds (taken ++ drop step.moved source) limit) ≡ next ∷ later =
        sym (going (drop step.moved source) one.0 there.0 one.1) ∙ ap (λ t. drop told (finds t limit)) (sym whole) ∙ e in
        let is : one.0 ≡ next = cc in
        record {
          next = next;
          from = from;
          same = same;
          inside = omega (arith, tells.2, high, length-append bytes source);
          there = there;
          kept = kept;
          now = e ∙ ap (λ t. next ∷ t) (sym (goes_on_at told (finds (bytes ++ source) limit) next later e).1);
          on = λ more. going more next there.0 (one.1 ∙ ap (λ f. f ∷ drop (suc told) (finds taken limit)) is);
        }

-- a find that is counted from another byte gives nothing where it gave nothing
moved_nothing : (k : ℕ) (f : Find) (now : BetweenFrames) → given_by_find f now ≡ [] → given_by_find (moved_find k f) now ≡ []
moved_nothing k (Head position h) now e = by_test (is_change h now.geometry) e
  where
    change : ℕ → ℕ → GivenResult
    change p n = record { result = record { position = p; known = n; kind = Changed h.geometry }; present = record { geometry = Some h.geometry; reference = None } }

    by_test : (b : Bool) → cond b (change position (position + 44) ∷ []) [] ≡ [] → cond b (change (k + position) (k + position + 44) ∷ []) [] ≡ []
    by_test true e = absurd cc
    by_test false e = refl
moved_nothing k (Ended f) now e = by_test (is_passed_over f.header now.reference) e
  where
    by_test : (b : Bool) → cond b [] (given_at_end f now ∷ []) ≡ [] → cond b [] (given_at_end (record { position = k + f.position; end = k + f.end; header = f.header; body = f.body; known = k + f.known }) now ∷ []) ≡ []
    by_test true e = refl
    by_test false e = absurd cc

-- behind a find that gives nothing the end of an I frame is of the present geometry
sees_behind : (next : Find) (f : Frame) (later : List Find) (now : BetweenFrames) → InTurns (next ∷ Ended f ∷ later) → given_by_find next now ≡ [] → HasPresent now.geometry f.header
sees_behind (Ended g) f later now t e key = absurd t.0
sees_behind (Head position h) f later now t e key =
    no_change h now.geometry (ap (λ (x : Header). x.key) (sym t.0) ∙ key) (by_test (is_change h now.geometry) e)
    ∙ ap (λ (x : Header). Some x.geometry) (sym t.0)
  where
    change : GivenResult
    change = record { result = record { position = position; known = position + 44; kind = Changed h.geometry }; present = record { geometry = Some h.geometry; reference = None } }

    by_test : (b : Bool) → cond b (change ∷ []) [] ≡ [] → b ≡ false
    by_test true e = absurd cc
    by_test false e = refl

-- Behind a feed that tells something that gives no result a run stands again.
pub at_next : (limit : ℕ) (now : BetweenFrames) (kept : KeptBytes) (source : List ℕ) (stamp : Stamp) (find : Find) → At limit now.geometry kept → (fed kept limit source stamp).told ≡ Some find → given_by_find find now ≡ [] → At limit now.geometry (fed kept limit source stamp).kept
at_next limit now kept source stamp find a some e =
    subst (λ (k : KeptBytes). (fed k limit source stamp).told ≡ Some find → At limit now.geometry (fed k limit source stamp).kept) (sym a.is) behind some
  where
    step : FedStep
    step = fed (kept_at a.bytes a.stamps limit a.told) limit source stamp

    behind : step.told ≡ Some find → At limit now.geometry step.kept
    behind some =
        let n = next_is limit a.bytes source a.stamps stamp a.told find a.long a.all_told some in
        record {
          bytes = a.bytes ++ take step.moved source;
          stamps = a.stamps ++ replicate step.moved stamp;
          told = suc a.told;
          long = omega (arith, a.long, length-append a.stamps (replicate step.moved stamp), length-replicate step.moved stamp, length-append a.bytes (take step.moved source), length-take-le step.moved source n.inside);
          all_told = n.there;
          is = n.kept;
          sees = λ more f later is.
              let all : List ℕ = a.bytes ++ take step.moved source ++ more in
              sees_behind n.next f later now
              (subst (λ (t : List Find). InTurns t) (n.on more ∙ ap (λ t. n.next ∷ t) is) (turns_drop a.told (finds all limit) (all_turns limit all)))
              (ap (λ x. given_by_find x now) (sym n.same) ∙ moved_nothing n.from find now e);
        }

-- what a feed tells of a frame's end is of the present geometry, where it is an I frame
pub ends_present : (limit : ℕ) (geometry : Option Geometry) (kept : KeptBytes) (source : List ℕ) (stamp : Stamp) (f : Frame) → At limit geometry kept → (fed kept limit source stamp).told ≡ Some (Ended f) → HasPresent geometry f.header
ends_present limit geometry kept source stamp f a some =
    subst (λ (k : KeptBytes). (fed k limit source stamp).told ≡ Some (Ended f) → HasPresent geometry f.header) (sym a.is) here some
  where
    here : (fed (kept_at a.bytes a.stamps limit a.told) limit source stamp).told ≡ Some (Ended f) → HasPresent geometry f.header
    here some =
        let n = next_is limit a.bytes source a.stamps stamp a.told (Ended f) a.long a.all_told some in
        a.sees source (record { position = n.from + f.position; end = n.from + f.end; header = f.header; body = f.body; known = n.from + f.known }) (drop (suc a.told) (finds (a.bytes ++ source) limit))
        (n.now ∙ ap (λ x. x ∷ drop (suc a.told) (finds (a.bytes ++ source) limit)) (sym n.same))

pub found_present : (limit : ℕ) (geometry : Option Geometry) (kept : KeptBytes) (source : List ℕ) (stamp : Stamp) (found : Found) → At limit geometry kept → found ≡ found_of (fed kept limit source stamp).told → EndsPresent geometry found
found_present limit geometry kept source stamp found a is = subst (λ (x : Found). EndsPresent geometry x) (sym is) (by_told (fed kept limit source stamp).told refl)
  where
    by_body : (f : Frame) (body : Option (List ℕ)) → f.body ≡ body → HasPresent geometry f.header → EndsPresent geometry (found_of (Some (Ended f)))
    by_body f None e h = subst (λ (o : Option (List ℕ)). EndsPresent geometry (found_of (Some (Ended (record { position = f.position; end = f.end; header = f.header; body = o; known = f.known }))))) (sym e) h
    by_body f (Some bytes) e h = subst (λ (o : Option (List ℕ)). EndsPresent geometry (found_of (Some (Ended (record { position = f.position; end = f.end; header = f.header; body = o; known = f.known }))))) (sym e) h

    by_told : (o : Option Find) → (fed kept limit source stamp).told ≡ o → EndsPresent geometry (found_of o)
    by_told None e = tt
    by_told (Some (Head position h)) e = tt
    by_told (Some (Ended f)) e = by_body f f.body refl (ends_present limit geometry kept source stamp f a e)

-- Section: a loop of feeds ends.

-- a feed that tells a find takes a byte, where no whole header is kept
takes_some : (kept : KeptBytes) (limit : ℕ) (source : List ℕ) (stamp : Stamp) (find : Find) → length kept.tail < 44 → (fed kept limit source stamp).told ≡ Some find → 0 < (fed kept limit source stamp).moved
unfolding fed
takes_some kept limit source stamp find short some =
    by_finds (drop (told_of_tail kept.tail) (finds (kept.tail ++ source) limit))
    (neat_drop (told_of_tail kept.tail) (finds (kept.tail ++ source) limit) (all_neat limit (kept.tail ++ source))) some
  where
    by_finds : (fs : List Find) → Neat fs → (fed_by kept limit (kept.tail ++ source) stamp fs).told ≡ Some find → 0 < (fed_by kept limit (kept.tail ++ source) stamp fs).moved
    by_finds [] n e = absurd (none-some find e)
    by_finds (f ∷ fs) n e = let k : position_of f + 44 ≤ known_at f = neat_known f fs n in omega (arith, k, short)

-- how far a run is from its end
abbrev pub ahead : List ℕ → ℕ → ℕ
ahead tail rest = 2 * rest + told_of_tail tail

pub comes_closer : (limit : ℕ) (geometry : Option Geometry) (kept : KeptBytes) (source : List ℕ) (stamp : Stamp) (find : Find) → At limit geometry kept → (fed kept limit source stamp).told ≡ Some find →
    ahead (fed kept limit source stamp).kept.tail (length source - (fed kept limit source stamp).moved) < ahead kept.tail (length source)
comes_closer limit geometry kept source stamp find a some =
    subst (λ (k : KeptBytes). (fed k limit source stamp).told ≡ Some find → ahead (fed k limit source stamp).kept.tail (length source - (fed k limit source stamp).moved) < ahead k.tail (length source)) (sym a.is) here some
  where
    old : KeptBytes
    old = kept_at a.bytes a.stamps limit a.told

    step : FedStep
    step = fed old limit source stamp

    here : step.told ≡ Some find → ahead step.kept.tail (length source - step.moved) < ahead old.tail (length source)
    here some = by_test (nat_le 44 (length old.tail)) refl
      where
        n : Next limit a.bytes source a.stamps stamp a.told find step
        n = next_is limit a.bytes source a.stamps stamp a.told find a.long a.all_told some

        long : length (a.stamps ++ replicate step.moved stamp) ≡ length (a.bytes ++ take step.moved source)
        long = omega (arith, a.long, length-append a.stamps (replicate step.moved stamp), length-replicate step.moved stamp, length-append a.bytes (take step.moved source), length-take-le step.moved source n.inside)

        before : (44 ≤ length old.tail) ↔ (a.told % 2 ≡ 1)
        before = (feeding limit a.bytes source a.stamps stamp a.told a.long a.all_told).0

        after : (44 ≤ length step.kept.tail) ↔ (suc a.told % 2 ≡ 1)
        after = subst (λ (k : KeptBytes). (44 ≤ length k.tail) ↔ (suc a.told % 2 ≡ 1)) (sym n.kept) (feeding limit (a.bytes ++ take step.moved source) [] (a.stamps ++ replicate step.moved stamp) stamp (suc a.told) long n.there).0

        at_most : (tail : List ℕ) → told_of_tail tail ≤ 1
        at_most tail = one_of (nat_le 44 (length tail))
          where
            one_of : (b : Bool) → cond b 1 0 ≤ 1
            one_of true = omega arith
            one_of false = omega arith

        by_test : (b : Bool) → nat_le 44 (length old.tail) ≡ b → ahead step.kept.tail (length source - step.moved) < ahead old.tail (length source)
        by_test true e =
            let h : 44 ≤ length old.tail = grind (arith, nat_tests) in
            let odd : a.told % 2 ≡ 1 = before.0 h in
            let one : told_of_tail old.tail ≡ 1 = cond-true (nat_le 44 (length old.tail)) 1 0 e in
            let none : told_of_tail step.kept.tail ≡ 0 = short (nat_le 44 (length step.kept.tail)) refl odd in
            omega (arith, one, none)
          where
            short : (c : Bool) → nat_le 44 (length step.kept.tail) ≡ c → a.told % 2 ≡ 1 → told_of_tail step.kept.tail ≡ 0
            short true t odd =
                let h : 44 ≤ length step.kept.tail = grind (arith, nat_tests) in
                let even : suc a.told % 2 ≡ 1 = after.0 h in
                absurd (omega (arith, even, odd))
            short false t odd = cond-false (nat_le 44 (length step.kept.tail)) 1 0 t
        by_test false e =
            let h : length old.tail < 44 = grind (arith, nat_tests) in
            let some_taken : 0 < step.moved = takes_some old limit source stamp find h some in
            omega (arith, at_most step.kept.tail, some_taken, n.inside)
