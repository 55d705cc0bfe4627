-- A decoder's run is what feeds come to, one after the other. A feed tells one find, a find gives one result at most,
-- and the finds of a run are those of its bytes in their order.
use Rattle.std.proofs.Common.{◌≡◌, ◌∙◌, sym, ap, refl, subst, ℕ, suc, zero, ◌+◌, ◌-◌, ◌<◌, ◌≤◌, inl, inr, List, [], ◌∷◌, ◌++◌, length, take, drop, map, get_or, replicate, arith, append_assoc, length-append, length-drop}
use Rattle.std.specs.Prelude.{◌⊎◌, Bool, true, false, not, nat_le, cond, option_map}
use Rattle.std.specs.List.{All}
use Rattle.std.specs.declared.option.Option.{Option}
use Rattle.std.specs.declared.option.Option.TheVariants.{Some, None}
use Rattle.std.proofs.lemmas.Option.{none-some}
use Rattle.std.proofs.lemmas.Bool.{cond-false, and_parts}
use Rattle.std.proofs.lemmas.List.{take_all, take-append-drop, drop-append-le, append-nil, replicate-append-replicate, length-replicate, length-take-le}
use Rattle.std.proofs.Math.Seq.{take-add}
use Rattle.std.proofs.lemmas.List.Elements.{All-head, All-drop}
use Rattle.vc_base.specs.declared.Stamp.{Stamp}
use Rattle.vc_base.specs.Buffers.{zero_stamp}
use Rattle.vc_defs.specs.declared.Geometry.{Geometry}
use Rattle.vc_defs.specs.declared.Header.{Header}
use Rattle.vc_defs.specs.Places.{Frame, OpenFrame, places}
use Rattle.vc_defs.specs.Finds.{Find, Head, Ended, position_of, known_at, finds_in, finds, moved_find, KeptBytes, kept_with, kept_before, FedStep, fed}
use Rattle.vc_defs.specs.Decoder.{FrameResult, Changed, GivenResult, BetweenFrames, ReferenceState, DecoderState, DecodedStep, decode, kept_of, is_change}
use Rattle.vc_defs.specs.Decoder.{is_present, is_passed_over, picture_planes, given_by, given_at_end, given_by_find, given_by_finds, present_after, geometry_after, moved_result, moved_given}
use Rattle.vc_defs.specs.Laws.{IsReached, IsTold, IsEndAt, kept_at, state_at, present_at, from_start, given_after, TellsNext, TellsFind, told_after}
use Rattle.vc_defs.proofs.BlocksAreRead.{some_same}
use Rattle.vc_defs.proofs.FedInPieces.{Neat, all_neat, neat_drop, neat_known, feeding, goes_on_at}
use Rattle.vc_defs.proofs.FindsInOrder.{finds_stay}
use Rattle.vc_defs.proofs.ResultsInOrder.{all_inside}
use Rattle.vc_defs.proofs.ResultsAreOfFinds.{results_are_of_finds}
use Rattle.vc_defs.proofs.RunsResume.{resuming}
use Rattle.vc_defs.proofs.StateBetweenRuns.{given_stays, begins_fresh}
use Rattle.vc_resync.specs.Decoding.{RunEnd, run_later, Feeds, used_up, gives, goes_on, InStep, IsRun, EndsInStep, BeginsInStep, DecodesByFeeds, RunsEnd}

-- Section: what a find gives.

abbrev change_of : ℕ → Header → GivenResult
change_of position h = record { result = record { position = position; known = position + 44; kind = Changed h.geometry }; present = record { geometry = Some h.geometry; reference = None } }

-- finds that are counted from earlier on give the same
pub by_find_moved : (k : ℕ) (f : Find) (now : BetweenFrames) → given_by_find (moved_find k f) now ≡ map (moved_given k) (given_by_find f now)
by_find_moved k (Head position h) now = by_test (is_change h now.geometry)
  where
    by_test : (b : Bool) →
        cond b (change_of (k + position) h ∷ []) [] ≡ map (moved_given k) (cond b (change_of position h ∷ []) [])
    by_test true =
        let e : k + position + 44 ≡ k + (position + 44) = omega arith in
        ap (λ n. record { result = record { position = k + position; known = n; kind = Changed h.geometry }; present = record { geometry = Some h.geometry; reference = None } } ∷ []) e
    by_test false = refl
by_find_moved k (Ended f) now = by_test (is_passed_over f.header now.reference)
  where
    moved_end : (o : Option (List (List ℕ))) → given_by (record { position = k + f.position; end = k + f.end; header = f.header; body = f.body; known = k + f.known }) now o ≡ moved_given k (given_by f now o)
    moved_end None = refl
    moved_end (Some planes) = refl

    by_test : (b : Bool) → cond b [] (given_by (record { position = k + f.position; end = k + f.end; header = f.header; body = f.body; known = k + f.known }) now (picture_planes f now) ∷ []) ≡ map (moved_given k) (cond b [] (given_by f now (picture_planes f now) ∷ []))
    by_test true = refl
    by_test false = ap (λ x. x ∷ []) (moved_end (picture_planes f now))

-- what a result has of its find
record Of (f : Find) (x : GivenResult) : Type 0 where
  position : x.result.position ≡ position_of f
  known : x.result.known ≡ known_at f

ended_of : (f : Frame) (now : BetweenFrames) (o : Option (List (List ℕ))) → Of (Ended f) (given_by f now o)
ended_of f now None = record { position = refl; known = refl }
ended_of f now (Some planes) = record { position = refl; known = refl }

result_of : (f : Find) (now : BetweenFrames) (x : GivenResult) → given_by_find f now ≡ x ∷ [] → Of f x
result_of (Head position h) now x e = by_test (is_change h now.geometry) e
  where
    by_test : (b : Bool) → cond b (change_of position h ∷ []) [] ≡ x ∷ [] → Of (Head position h) x
    by_test true e =
        let is : change_of position h ≡ x = cc in
        subst (λ (y : GivenResult). Of (Head position h) y) is (record { position = refl; known = refl })
    by_test false e = absurd cc
result_of (Ended f) now x e = by_test (is_passed_over f.header now.reference) e
  where
    by_test : (b : Bool) → cond b [] (given_at_end f now ∷ []) ≡ x ∷ [] → Of (Ended f) x
    by_test true e = absurd cc
    by_test false e =
        let is : given_at_end f now ≡ x = cc in
        subst (λ (y : GivenResult). Of (Ended f) y) is (ended_of f now (picture_planes f now))

-- a frame's end has the header that was told right before it
abbrev EndsOf : Header → List Find → Type 0
EndsOf h [] = Unit {0}
EndsOf h (Head position g ∷ fs) = Unit {0}
EndsOf h (Ended e ∷ fs) = e.header ≡ h

abbrev Paired : List Find → Type 0
Paired [] = Unit {0}
Paired (Head position h ∷ fs) = EndsOf h fs × Paired fs
Paired (Ended f ∷ fs) = Paired fs

paired_in : (fs : List Frame) (u : Option OpenFrame) → Paired (finds_in fs u)
paired_in [] None = tt
paired_in [] (Some f) = (tt, tt)
paired_in (f ∷ fs) u = (refl, paired_in fs u)

paired_drop : (n : ℕ) (fs : List Find) → Paired fs → Paired (drop n fs)
paired_drop zero fs h = h
paired_drop (suc n) [] h = tt
paired_drop (suc n) (Head position g ∷ fs) h = paired_drop n fs h.1
paired_drop (suc n) (Ended f ∷ fs) h = paired_drop n fs h

all_paired : (limit : ℕ) (xs : List ℕ) → Paired (finds xs limit)
unfolding finds
all_paired limit xs = paired_in (places xs limit).frames (places xs limit).unfinished

-- Section: a feed that tells something.

record Next (limit : ℕ) (bytes source : List ℕ) (stamps : List Stamp) (stamp : Stamp) (told : ℕ) (find : Find) (step : FedStep) : Type 0 where
  next : Find
  from : ℕ
  same : moved_find from find ≡ next
  inside : step.moved ≤ length source
  there : IsTold (bytes ++ take step.moved source) limit (suc told)
  kept : step.kept ≡ kept_at (bytes ++ take step.moved source) (stamps ++ replicate step.moved stamp) limit (suc told)
  known : length bytes + step.moved ≡ known_at next
  marked : step.stamp ≡ get_or (stamps ++ replicate (length source) stamp) (position_of next) zero_stamp
  on : (more : List ℕ) → drop told (finds (bytes ++ take step.moved source ++ more) limit) ≡ next ∷ drop (suc told) (finds (bytes ++ take step.moved source ++ more) limit)

-- what stands at a place that is told
one_there : (n : ℕ) (fs : List Find) → suc n ≤ length fs → (f : Find) × (drop n fs ≡ f ∷ drop (suc n) fs)
one_there n [] h = absurd (omega arith)
one_there zero (f ∷ fs) h = (f, refl)
one_there (suc n) (f ∷ fs) h = one_there n fs (omega arith)

next_is : (limit : ℕ) (bytes source : List ℕ) (stamps : List Stamp) (stamp : Stamp) (told : ℕ) (find : Find) → length stamps ≡ length bytes → IsTold bytes limit told → (fed (kept_at bytes stamps limit told) limit source stamp).told ≡ Some find →
    Next limit bytes source stamps stamp told find (fed (kept_at bytes stamps limit told) limit source stamp)
next_is limit bytes source stamps stamp told find long t some =
    let r = feeding limit bytes source stamps stamp told long t in by_finds (drop told (finds (bytes ++ source) limit)) refl r.1 r.2 r.3
  where
    step : FedStep
    step = fed (kept_at bytes stamps limit told) limit source stamp

    taken : List ℕ
    taken = bytes ++ take step.moved source

    whole : bytes ++ source ≡ taken ++ drop step.moved source
    whole = ap (λ t. bytes ++ t) (sym (take-append-drop step.moved source)) ∙ sym (append_assoc bytes (take step.moved source) (drop step.moved source))

    -- what goes on behind the bytes taken
    going : (more : List ℕ) (f : Find) → suc told ≤ length (finds taken limit) → drop told (finds taken limit) ≡ f ∷ drop (suc told) (finds taken limit) → drop told (finds (taken ++ more) limit) ≡ f ∷ drop (suc told) (finds (taken ++ more) limit)
    going more f few e =
        let s = finds_stay limit taken more in
        ap (λ t. drop told t) s.1.0
        ∙ drop-append-le told (finds taken limit) s.0 (omega arith)
        ∙ ap (λ t. t ++ s.0) e
        ∙ ap (λ t. f ∷ t) (sym (drop-append-le (suc told) (finds taken limit) s.0 few))
        ∙ ap (λ t. f ∷ drop (suc told) t) (sym s.1.0)

    by_finds : (fs : List Find) → drop told (finds (bytes ++ source) limit) ≡ fs →
        TellsFind step (length bytes - length (kept_at bytes stamps limit told).tail) bytes source (λ p. get_or (stamps ++ replicate (length source) stamp) p zero_stamp) fs →
        IsTold (bytes ++ take step.moved source) limit (told_after told fs) → step.kept ≡ kept_at (bytes ++ take step.moved source) (stamps ++ replicate step.moved stamp) limit (told_after told fs) →
        Next limit bytes source stamps stamp told find step
    by_finds [] e tells there kept = absurd (none-some find (sym tells.0 ∙ some))
    by_finds (next ∷ later) e tells there kept =
        let from : ℕ = length bytes - length (kept_at bytes stamps limit told).tail in
        let same : moved_find from find ≡ next = some_same (moved_find from find) next (ap (λ o. option_map (moved_find from) o) (sym some) ∙ tells.0) in
        let high : known_at next ≤ length (bytes ++ source) =
        All-head (λ f. known_at f ≤ length (bytes ++ source)) next later (subst (λ (t : List Find). All (λ f. known_at f ≤ length (bytes ++ source)) t) e (All-drop (λ f. known_at f ≤ length (bytes ++ source)) told (finds (bytes ++ source) limit) (all_inside limit (bytes ++ source)))) in
        let one = one_there told (finds taken limit) there.0 in
        let first : one.0 ∷ drop (suc told) (finds (taken ++ drop step.moved source) limit) ≡ next ∷ later =
        sym (going (drop step.moved source) one.0 there.0 one.1) ∙ ap (λ t. drop told (finds t limit)) (sym whole) ∙ e in
        let is : one.0 ≡ next = cc in
        record {
          next = next;
          from = from;
          same = same;
          inside = omega (arith, tells.2, high, length-append bytes source);
          there = there;
          kept = kept;
          known = tells.2;
          marked = tells.1;
          on = λ more. going more next there.0 (one.1 ∙ ap (λ f. f ∷ drop (suc told) (finds taken limit)) is);
        }

-- Section: what a run of feeds comes to.

-- it used up the bytes
record GaveNone (limit : ℕ) (all : List ℕ) (marks : List Stamp) (told count : ℕ) (now : BetweenFrames) (run : RunEnd) : Type 0 where
  kind : run.kind ≡ None
  moved : run.moved ≡ count
  present : run.present ≡ now
  then : ℕ
  ends : IsTold all limit then
  kept : run.kept ≡ kept_at all marks limit then
  finished : drop then (finds all limit) ≡ []
  on : (more : List ℕ) → given_by_finds (drop told (finds (all ++ more) limit)) now ≡ given_by_finds (drop then (finds (all ++ more) limit)) now

-- it gave a result
record GaveOne (limit : ℕ) (start : ℕ) (marked : List Stamp) (all : List ℕ) (marks : List Stamp) (told count : ℕ) (now : BetweenFrames) (run : RunEnd) : Type 0 where
  given : GivenResult
  kind : run.kind ≡ Some given.result.kind
  stamp : run.stamp ≡ get_or marked given.result.position zero_stamp
  moved : start + run.moved ≡ given.result.known
  inside : run.moved ≤ count
  present : run.present ≡ given.present
  then : ℕ
  ends : IsTold all limit then
  kept : run.kept ≡ kept_at all marks limit then
  waits : kept_of limit all (given_by_finds (drop then (finds all limit)) given.present) ≡ kept_before limit all (drop then (finds all limit))
  on : (more : List ℕ) → given_by_finds (drop told (finds (all ++ more) limit)) now ≡ given ∷ given_by_finds (drop then (finds (all ++ more) limit)) given.present

abbrev Comes : ℕ → List ℕ → List ℕ → List Stamp → Stamp → ℕ → BetweenFrames → RunEnd → Type 0
Comes limit bytes source stamps stamp told now run =
    GaveNone limit (bytes ++ take run.moved source) (stamps ++ replicate run.moved stamp) told (length source) now run
    ⊎ GaveOne limit (length bytes) (stamps ++ replicate (length source) stamp) (bytes ++ take run.moved source) (stamps ++ replicate run.moved stamp) told (length source) now run

-- A frame's end that is known with the result before it gives a result too: its header was a change, behind which there
-- is no reference, so that it isn't passed over.
waits_at_end : (limit : ℕ) (all : List ℕ) (e : Frame) (later : List Find) (now : BetweenFrames) → is_passed_over e.header now.reference ≡ false →
    kept_of limit all (given_by_finds (Ended e ∷ later) now) ≡ kept_before limit all (Ended e ∷ later)
waits_at_end limit all e later now passed =
    let one : given_by_find (Ended e) now ≡ given_at_end e now ∷ [] = cond-false (is_passed_over e.header now.reference) [] (given_at_end e now ∷ []) passed in
    let of = ended_of e now (picture_planes e now) in
    ap (λ t. kept_of limit all (t ++ given_by_finds later (present_after now t))) one
    ∙ ap (λ k. cond (nat_le k (length all)) (drop (given_at_end e now).result.position all) (places all limit).tail) of.known
    ∙ ap (λ k. cond (nat_le e.known (length all)) (drop k all) (places all limit).tail) of.position

change_drops : (position : ℕ) (h : Header) (now : BetweenFrames) (x : GivenResult) → given_by_find (Head position h) now ≡ x ∷ [] → is_passed_over h x.present.reference ≡ false
change_drops position h now x e = by_test (is_change h now.geometry) refl e
  where
    by_test : (b : Bool) → is_change h now.geometry ≡ b → cond b (change_of position h ∷ []) [] ≡ x ∷ [] → is_passed_over h x.present.reference ≡ false
    by_test true c e =
        let is : change_of position h ≡ x = cc in
        let key : h.key ≡ true = (and_parts h.key (not (is_present now.geometry h.geometry)) c).0 in
        ap (λ (y : GivenResult). is_passed_over h y.present.reference) (sym is) ∙ ap (λ k. not k) key
    by_test false c e = absurd cc

waits_of : (limit : ℕ) (all : List ℕ) (next : Find) (later : List Find) (now : BetweenFrames) (x : GivenResult) → Neat (next ∷ later) → Paired (next ∷ later) → All (IsEndAt (length all)) later → known_at next ≡ length all → given_by_find next now ≡ x ∷ [] →
    kept_of limit all (given_by_finds later x.present) ≡ kept_before limit all later
waits_of limit all next [] now x neat paired ends known e = refl
waits_of limit all next (Head position h ∷ later) now x neat paired ends known e = absurd (All-head (IsEndAt (length all)) (Head position h) later ends)
waits_of limit all (Ended n) (Ended f ∷ later) now x neat paired ends known e =
    let after : n.known < f.known = All-head (λ g. n.known < known_at g) (Ended f) later neat.0 in
    let end : f.known ≡ length all = All-head (IsEndAt (length all)) (Ended f) later ends in
    absurd (omega (arith, after, end, known))
waits_of limit all (Head position h) (Ended f ∷ later) now x neat paired ends known e =
    waits_at_end limit all f later x.present (ap (λ g. is_passed_over g x.present.reference) paired.0 ∙ change_drops position h now x e)

used_at : (limit : ℕ) (bytes source : List ℕ) (stamps : List Stamp) (stamp : Stamp) (told : ℕ) (now : BetweenFrames) → length stamps ≡ length bytes → IsTold bytes limit told →
    let step = fed (kept_at bytes stamps limit told) limit source stamp in
    step.told ≡ None → Comes limit bytes source stamps stamp told now (record { kind = None; stamp = stamp; moved = step.moved; kept = step.kept; present = now })
used_at limit bytes source stamps stamp told now long t none =
    let r = feeding limit bytes source stamps stamp told long t in by_finds (drop told (finds (bytes ++ source) limit)) refl r.1 r.2 r.3
  where
    step : FedStep
    step = fed (kept_at bytes stamps limit told) limit source stamp

    by_finds : (fs : List Find) → drop told (finds (bytes ++ source) limit) ≡ fs →
        TellsFind step (length bytes - length (kept_at bytes stamps limit told).tail) bytes source (λ p. get_or (stamps ++ replicate (length source) stamp) p zero_stamp) fs →
        IsTold (bytes ++ take step.moved source) limit (told_after told fs) → step.kept ≡ kept_at (bytes ++ take step.moved source) (stamps ++ replicate step.moved stamp) limit (told_after told fs) →
        Comes limit bytes source stamps stamp told now (record { kind = None; stamp = stamp; moved = step.moved; kept = step.kept; present = now })
    by_finds [] e tells ends kept =
        inl (record {
          kind = refl;
          moved = tells.1;
          present = refl;
          then = told;
          ends = ends;
          kept = kept;
          finished = ap (λ t. drop told (finds (bytes ++ t) limit)) (take_all step.moved source (omega (arith, tells.1))) ∙ e;
          on = λ more. refl;
        })
    by_finds (next ∷ later) e tells ends kept = absurd (none-some next (ap (λ o. option_map (moved_find (length bytes - length (kept_at bytes stamps limit told).tail)) o) (sym none) ∙ tells.0))

gave_at : (limit : ℕ) (bytes source : List ℕ) (stamps : List Stamp) (stamp : Stamp) (told : ℕ) (now : BetweenFrames) (find : Find) (given : GivenResult) (step : FedStep) → given_by_find find now ≡ given ∷ [] → Next limit bytes source stamps stamp told find step →
    Comes limit bytes source stamps stamp told now (record { kind = Some given.result.kind; stamp = step.stamp; moved = step.moved; kept = step.kept; present = given.present })
gave_at limit bytes source stamps stamp told now find given step e n =
    let x : GivenResult = moved_given n.from given in
    let gives : given_by_find n.next now ≡ x ∷ [] = ap (λ f. given_by_find f now) (sym n.same) ∙ by_find_moved n.from find now ∙ ap (λ t. map (moved_given n.from) t) e in
    let of = result_of n.next now x gives in
    let all : List ℕ = bytes ++ take step.moved source in
    let here : drop told (finds all limit) ≡ n.next ∷ drop (suc told) (finds all limit) =
    ap (λ t. drop told (finds t limit)) (sym (append-nil all)) ∙ n.on [] ∙ ap (λ t. n.next ∷ drop (suc told) (finds t limit)) (append-nil all) in
    let end : known_at n.next ≡ length all = sym n.known ∙ omega (arith, length-append bytes (take step.moved source), length-take-le step.moved source n.inside) in
    inr (record {
      given = x;
      kind = refl;
      stamp = n.marked ∙ ap (λ k. get_or (stamps ++ replicate (length source) stamp) k zero_stamp) (sym of.position);
      moved = n.known ∙ sym of.known;
      inside = n.inside;
      present = refl;
      then = suc told;
      ends = n.there;
      kept = n.kept;
      waits = waits_of limit all n.next (drop (suc told) (finds all limit)) now x
          (subst (λ (t : List Find). Neat t) here (neat_drop told (finds all limit) (all_neat limit all)))
          (subst (λ (t : List Find). Paired t) here (paired_drop told (finds all limit) (all_paired limit all)))
          n.there.1 end gives;
      on = λ more.
          ap (λ t. given_by_finds t now) (n.on more) ∙ ap (λ t. t ++ given_by_finds (drop (suc told) (finds (all ++ more) limit)) (present_after now t)) gives;
    })

-- a find that gave nothing came before
came_later : (limit : ℕ) (bytes source : List ℕ) (stamps : List Stamp) (stamp : Stamp) (told : ℕ) (now : BetweenFrames) (find : Find) (step : FedStep) (later : RunEnd) → length stamps ≡ length bytes → given_by_find find now ≡ [] → Next limit bytes source stamps stamp told find step →
    Comes limit (bytes ++ take step.moved source) (drop step.moved source) (stamps ++ replicate step.moved stamp) stamp (suc told) now later → Comes limit bytes source stamps stamp told now (run_later step.moved later)
came_later limit bytes source stamps stamp told now find step later long e n comes = by_end comes
  where
    m : ℕ
    m = step.moved

    all : List ℕ
    all = bytes ++ take m source ++ take later.moved (drop m source)

    marks : List Stamp
    marks = stamps ++ replicate m stamp ++ replicate later.moved stamp

    all_is : all ≡ bytes ++ take (m + later.moved) source
    all_is = append_assoc bytes (take m source) (take later.moved (drop m source)) ∙ ap (λ t. bytes ++ t) (sym (take-add m later.moved source))

    marks_are : (k : ℕ) → stamps ++ replicate m stamp ++ replicate k stamp ≡ stamps ++ replicate (m + k) stamp
    marks_are k = append_assoc stamps (replicate m stamp) (replicate k stamp) ∙ ap (λ t. stamps ++ t) (replicate-append-replicate m k stamp)

    marked_is : stamps ++ replicate m stamp ++ replicate (length (drop m source)) stamp ≡ stamps ++ replicate (length source) stamp
    marked_is = let sum : m + length (drop m source) ≡ length source = omega (arith, length-drop m source, n.inside) in marks_are (length (drop m source)) ∙ ap (λ k. stamps ++ replicate k stamp) sum

    nothing : given_by_find n.next now ≡ []
    nothing = ap (λ f. given_by_find f now) (sym n.same) ∙ by_find_moved n.from find now ∙ ap (λ t. map (moved_given n.from) t) e

    passes : (more : List ℕ) → given_by_finds (drop told (finds (all ++ more) limit)) now ≡ given_by_finds (drop (suc told) (finds (all ++ more) limit)) now
    passes more =
        let assoc : all ++ more ≡ bytes ++ take m source ++ (take later.moved (drop m source) ++ more) = append_assoc (bytes ++ take m source) (take later.moved (drop m source)) more in
        ap (λ t. given_by_finds (drop told (finds t limit)) now) assoc
        ∙ ap (λ t. given_by_finds t now) (n.on (take later.moved (drop m source) ++ more))
        ∙ ap (λ t. t ++ given_by_finds (drop (suc told) (finds (bytes ++ take m source ++ (take later.moved (drop m source) ++ more)) limit)) (present_after now t)) nothing
        ∙ ap (λ t. given_by_finds (drop (suc told) (finds t limit)) now) (sym assoc)

    start : length (bytes ++ take m source) ≡ length bytes + m
    start = omega (arith, length-append bytes (take m source), length-take-le m source n.inside)

    by_end : Comes limit (bytes ++ take m source) (drop m source) (stamps ++ replicate m stamp) stamp (suc told) now later → Comes limit bytes source stamps stamp told now (run_later m later)
    by_end (inl g) =
        let h : GaveNone limit all marks told (length source) now (run_later m later) = record {
          kind = g.kind;
          moved = omega (arith, g.moved, length-drop m source, n.inside);
          present = g.present;
          then = g.then;
          ends = g.ends;
          kept = g.kept;
          finished = g.finished;
          on = λ more. passes more ∙ g.on more;
        } in
        inl (subst (λ (t : List ℕ). GaveNone limit t (stamps ++ replicate (m + later.moved) stamp) told (length source) now (run_later m later)) all_is
        (subst (λ (t : List Stamp). GaveNone limit all t told (length source) now (run_later m later)) (marks_are later.moved) h))
    by_end (inr g) =
        let h : GaveOne limit (length bytes) (stamps ++ replicate m stamp ++ replicate (length (drop m source)) stamp) all marks told (length source) now (run_later m later) = record {
          given = g.given;
          kind = g.kind;
          stamp = g.stamp;
          moved = omega (arith, g.moved, start);
          inside = omega (arith, g.inside, length-drop m source, n.inside);
          present = g.present;
          then = g.then;
          ends = g.ends;
          kept = g.kept;
          waits = g.waits;
          on = λ more. passes more ∙ g.on more;
        } in
        let h1 = subst (λ (t : List Stamp). GaveOne limit (length bytes) t all marks told (length source) now (run_later m later)) marked_is h in
        let h2 = subst (λ (t : List Stamp). GaveOne limit (length bytes) (stamps ++ replicate (length source) stamp) all t told (length source) now (run_later m later)) (marks_are later.moved) h1 in
        inr (subst (λ (t : List ℕ). GaveOne limit (length bytes) (stamps ++ replicate (length source) stamp) t (stamps ++ replicate (m + later.moved) stamp) told (length source) now (run_later m later)) all_is h2)

comes_to : (limit : ℕ) (stamp : Stamp) {kept : KeptBytes} {now : BetweenFrames} {source : List ℕ} {run : RunEnd} → Feeds limit stamp kept now source run → (bytes : List ℕ) (stamps : List Stamp) (told : ℕ) → length stamps ≡ length bytes → IsTold bytes limit told →
    kept ≡ kept_at bytes stamps limit told →
    Comes limit bytes source stamps stamp told now run
comes_to limit stamp (used_up kept now source none) bytes stamps told long t is =
    subst (λ (k : KeptBytes). (fed k limit source stamp).told ≡ None → Comes limit bytes source stamps stamp told now (record { kind = None; stamp = stamp; moved = (fed k limit source stamp).moved; kept = (fed k limit source stamp).kept; present = now })) (sym is)
    (used_at limit bytes source stamps stamp told now long t) none
comes_to limit stamp (gives kept now source find given some e) bytes stamps told long t is =
    gave_at limit bytes source stamps stamp told now find given (fed kept limit source stamp) e
    (subst (λ (k : KeptBytes). (fed k limit source stamp).told ≡ Some find → Next limit bytes source stamps stamp told find (fed k limit source stamp)) (sym is) (next_is limit bytes source stamps stamp told find long t) some)
comes_to limit stamp (goes_on kept now source find later some e inner) bytes stamps told long t is =
    let n = subst (λ (k : KeptBytes). (fed k limit source stamp).told ≡ Some find → Next limit bytes source stamps stamp told find (fed k limit source stamp)) (sym is) (next_is limit bytes source stamps stamp told find long t) some in
    let m : ℕ = (fed kept limit source stamp).moved in
    came_later limit bytes source stamps stamp told now find (fed kept limit source stamp) later long e n
    (comes_to limit stamp inner (bytes ++ take m source) (stamps ++ replicate m stamp) (suc told)
    (omega (arith, long, length-append stamps (replicate m stamp), length-replicate m stamp, length-append bytes (take m source), length-take-le m source n.inside)) n.there n.kept)

-- Section: a run, and where it ends.

abbrev with_kept : Option ReferenceState → KeptBytes → DecoderState
with_kept r k = record { reference = r; tail = k.tail; first_stamp = k.first_stamp; last_stamps = k.last_stamps }

-- the state where finds and results are in step
state_in_step : (limit : ℕ) (g : Option Geometry) (all : List ℕ) (marks : List Stamp) (told given : ℕ) (run : RunEnd) → InStep limit g all told given → run.kept ≡ kept_at all marks limit told → run.present ≡ present_at all limit g given →
    state_at all marks limit g given ≡ with_kept run.present.reference run.kept
state_in_step limit g all marks told given run s kept present =
    ap (λ t. with_kept (present_at all limit g given).reference (kept_with t (length all) (λ p. get_or marks p zero_stamp))) s.kept
    ∙ ap (λ k. with_kept (present_at all limit g given).reference k) (sym kept)
    ∙ ap (λ (p : BetweenFrames). with_kept p.reference run.kept) (sym present)

present_append : (now : BetweenFrames) (xs ys : List GivenResult) → present_after now (xs ++ ys) ≡ present_after (present_after now xs) ys
present_append now [] ys = refl
present_append now (x ∷ xs) ys = present_append x.present xs ys

take_next : {A : Type 0} (n : ℕ) (xs : List A) (y : A) (ys : List A) → drop n xs ≡ y ∷ ys → take (suc n) xs ≡ take n xs ++ y ∷ []
take_next zero [] y ys e = absurd cc
take_next zero (x ∷ xs) y ys e = let same : x ≡ y = cc in ap (λ z. z ∷ []) same
take_next (suc n) [] y ys e = absurd cc
take_next (suc n) (x ∷ xs) y ys e = ap (λ t. x ∷ t) (take_next n xs y ys e)

present_next : (limit : ℕ) (g : Option Geometry) (all : List ℕ) (given : ℕ) (x : GivenResult) (later : List GivenResult) → drop given (from_start all limit g) ≡ x ∷ later → present_at all limit g (suc given) ≡ x.present
present_next limit g all given x later e =
    ap (λ t. present_after (record { geometry = g; reference = None }) t) (take_next given (from_start all limit g) x later e)
    ∙ present_append (record { geometry = g; reference = None }) (take given (from_start all limit g)) (x ∷ [])

-- results that go on behind bytes of a run
results_on : (limit : ℕ) (g : Option Geometry) (bytes part : List ℕ) (told given : ℕ) (more : List ℕ) → InStep limit g bytes told given →
    drop given (from_start (bytes ++ part ++ more) limit g) ≡ given_by_finds (drop told (finds (bytes ++ part ++ more) limit)) (present_at bytes limit g given)
results_on limit g bytes part told given more s =
    ap (λ t. drop given (from_start t limit g)) (append_assoc bytes part more)
    ∙ s.results (part ++ more)
    ∙ ap (λ t. given_by_finds (drop told (finds t limit)) (present_at bytes limit g given)) (sym (append_assoc bytes part more))

-- what the law says of a run
abbrev Ends : ℕ → Option Geometry → List ℕ → List ℕ → List Stamp → Stamp → DecodedStep → RunEnd → Type 0
Ends limit g bytes source stamps stamp step run = IsRun step run × EndsInStep limit g (bytes ++ take run.moved source) (stamps ++ replicate run.moved stamp) run

ends_of : (limit : ℕ) (g : Option Geometry) (bytes source : List ℕ) (stamps : List Stamp) (stamp : Stamp) (then after : ℕ) (step : DecodedStep) (run : RunEnd) → option_map (λ (r : FrameResult). r.kind) step.given ≡ run.kind →
    ((r : FrameResult) → step.given ≡ Some r → step.stamp ≡ run.stamp) → step.moved ≡ run.moved →
    step.state ≡ state_at (bytes ++ take step.moved source) (stamps ++ replicate step.moved stamp) limit g after → InStep limit g (bytes ++ take run.moved source) then after → run.kept ≡ kept_at (bytes ++ take run.moved source) (stamps ++ replicate run.moved stamp) limit then →
    run.present ≡ present_at (bytes ++ take run.moved source) limit g after → Ends limit g bytes source stamps stamp step run
ends_of limit g bytes source stamps stamp then after step run kind marked moved state s kept present = (
  record {
    kind = kind;
    stamp = marked;
    moved = moved;
    state = state
        ∙ ap (λ m. state_at (bytes ++ take m source) (stamps ++ replicate m stamp) limit g after) moved
        ∙ state_in_step limit g (bytes ++ take run.moved source) (stamps ++ replicate run.moved stamp) then after run s kept present;
  },
  record { told = then; given = after; in_step = s; kept = kept; present = present },
)

-- the bytes were used up
ends_none : (limit : ℕ) (g : Option Geometry) (bytes source : List ℕ) (stamps : List Stamp) (stamp : Stamp) (told given : ℕ) (run : RunEnd) → length stamps ≡ length bytes → InStep limit g bytes told given →
    GaveNone limit (bytes ++ take run.moved source) (stamps ++ replicate run.moved stamp) told (length source) (present_at bytes limit g given) run →
    Ends limit g bytes source stamps stamp (decode (state_at bytes stamps limit g given) (present_at bytes limit g given).geometry limit source stamp) run
ends_none limit g bytes source stamps stamp told given run long s h =
    let r = subst (λ (t : List GivenResult). TellsNext step (length bytes - length (state_at bytes stamps limit g given).tail) bytes source (λ p. get_or (stamps ++ replicate (length source) stamp) p zero_stamp) t
    × IsReached (bytes ++ take step.moved source) limit g (given_after given t)
    × (step.state ≡ state_at (bytes ++ take step.moved source) (stamps ++ replicate step.moved stamp) limit g (given_after given t))
    × ((present_at (bytes ++ take step.moved source) limit g (given_after given t)).geometry ≡ geometry_after step.given (present_at bytes limit g given).geometry)) nothing (resuming limit g bytes source stamps stamp given long s.reached) in
    let moved : step.moved ≡ run.moved = r.0.1 ∙ sym h.moved in
    ends_of limit g bytes source stamps stamp h.then given step run
    (ap (λ o. option_map (λ (r : FrameResult). r.kind) o) r.0.0 ∙ sym h.kind)
    (λ x e. absurd (none-some x (sym r.0.0 ∙ e)))
    moved r.2
    (record {
      reached = subst (λ (m : ℕ). IsReached (bytes ++ take m source) limit g given) moved r.1;
      all_told = h.ends;
      results = λ more.
          results_on limit g bytes (take run.moved source) told given more s
          ∙ h.on more
          ∙ ap (λ p. given_by_finds (drop h.then (finds (bytes ++ take run.moved source ++ more) limit)) p) (sym stays);
      kept = ap (λ t. kept_of limit (bytes ++ take run.moved source) t) none_left ∙ sym (ap (λ t. kept_before limit (bytes ++ take run.moved source) t) h.finished);
    })
    h.kept (h.present ∙ sym stays)
  where
    step : DecodedStep
    step = decode (state_at bytes stamps limit g given) (present_at bytes limit g given).geometry limit source stamp

    whole : take run.moved source ≡ source
    whole = take_all run.moved source (omega (arith, h.moved))

    -- nothing is left at the end
    none_left : drop given (from_start (bytes ++ take run.moved source) limit g) ≡ []
    none_left =
        ap (λ t. drop given (from_start t limit g)) (sym (append-nil (bytes ++ take run.moved source)))
        ∙ results_on limit g bytes (take run.moved source) told given [] s
        ∙ h.on []
        ∙ ap (λ t. given_by_finds (drop h.then (finds t limit)) (present_at bytes limit g given)) (append-nil (bytes ++ take run.moved source))
        ∙ ap (λ t. given_by_finds t (present_at bytes limit g given)) h.finished

    nothing : drop given (from_start (bytes ++ source) limit g) ≡ []
    nothing = ap (λ t. drop given (from_start (bytes ++ t) limit g)) (sym whole) ∙ none_left

    stays : present_at (bytes ++ take run.moved source) limit g given ≡ present_at bytes limit g given
    stays = ap (λ t. present_after (record { geometry = g; reference = None }) t) (given_stays limit g bytes (take run.moved source) given s.reached.0)

-- a result was given
ends_one : (limit : ℕ) (g : Option Geometry) (bytes source : List ℕ) (stamps : List Stamp) (stamp : Stamp) (told given : ℕ) (run : RunEnd) → length stamps ≡ length bytes → InStep limit g bytes told given →
    GaveOne limit (length bytes) (stamps ++ replicate (length source) stamp) (bytes ++ take run.moved source) (stamps ++ replicate run.moved stamp) told (length source) (present_at bytes limit g given) run →
    Ends limit g bytes source stamps stamp (decode (state_at bytes stamps limit g given) (present_at bytes limit g given).geometry limit source stamp) run
ends_one limit g bytes source stamps stamp told given run long s h =
    let r = subst (λ (t : List GivenResult). TellsNext step from bytes source (λ p. get_or (stamps ++ replicate (length source) stamp) p zero_stamp) t
    × IsReached (bytes ++ take step.moved source) limit g (given_after given t)
    × (step.state ≡ state_at (bytes ++ take step.moved source) (stamps ++ replicate step.moved stamp) limit g (given_after given t))
    × ((present_at (bytes ++ take step.moved source) limit g (given_after given t)).geometry ≡ geometry_after step.given (present_at bytes limit g given).geometry)) first (resuming limit g bytes source stamps stamp given long s.reached) in
    let moved : step.moved ≡ run.moved = omega (arith, r.0.2, h.moved) in
    ends_of limit g bytes source stamps stamp h.then (suc given) step run
    (kind_of step.given r.0.0 ∙ sym h.kind)
    (λ x e. r.0.1 ∙ sym h.stamp)
    moved r.2
    (record {
      reached = subst (λ (m : ℕ). IsReached (bytes ++ take m source) limit g (suc given)) moved r.1;
      all_told = h.ends;
      results = λ more.
          (goes_on_at given (from_start (all ++ more) limit g) h.given (given_by_finds (drop h.then (finds (all ++ more) limit)) h.given.present) (first_of more)).1
          ∙ ap (λ p. given_by_finds (drop h.then (finds (all ++ more) limit)) p) (sym present);
      kept = ap (λ t. kept_of limit all t) (goes_on_at given (from_start all limit g) h.given (given_by_finds (drop h.then (finds all limit)) h.given.present) here).1 ∙ h.waits;
    })
    h.kept (h.present ∙ sym present)
  where
    step : DecodedStep
    step = decode (state_at bytes stamps limit g given) (present_at bytes limit g given).geometry limit source stamp

    from : ℕ
    from = length bytes - length (state_at bytes stamps limit g given).tail

    all : List ℕ
    all = bytes ++ take run.moved source

    whole : bytes ++ source ≡ all ++ drop run.moved source
    whole = ap (λ t. bytes ++ t) (sym (take-append-drop run.moved source)) ∙ sym (append_assoc bytes (take run.moved source) (drop run.moved source))

    first_of : (more : List ℕ) → drop given (from_start (all ++ more) limit g) ≡ h.given ∷ given_by_finds (drop h.then (finds (all ++ more) limit)) h.given.present
    first_of more = results_on limit g bytes (take run.moved source) told given more s ∙ h.on more

    first : drop given (from_start (bytes ++ source) limit g) ≡ h.given ∷ given_by_finds (drop h.then (finds (all ++ drop run.moved source) limit)) h.given.present
    first = ap (λ t. drop given (from_start t limit g)) whole ∙ first_of (drop run.moved source)

    here : drop given (from_start all limit g) ≡ h.given ∷ given_by_finds (drop h.then (finds all limit)) h.given.present
    here =
        ap (λ t. drop given (from_start t limit g)) (sym (append-nil all)) ∙ first_of [] ∙ ap (λ t. h.given ∷ given_by_finds (drop h.then (finds t limit)) h.given.present) (append-nil all)

    present : present_at all limit g (suc given) ≡ h.given.present
    present = present_next limit g all given h.given (given_by_finds (drop h.then (finds all limit)) h.given.present) here

    kind_of : (o : Option FrameResult) → option_map (moved_result from) o ≡ Some h.given.result → option_map (λ (r : FrameResult). r.kind) o ≡ Some h.given.result.kind
    kind_of None e = absurd (none-some h.given.result e)
    kind_of (Some r) e = ap (λ o. option_map (λ (r : FrameResult). r.kind) o) e

pub decodes_by_feeds : DecodesByFeeds
decodes_by_feeds limit g bytes source stamps stamp told given run long s feeds =
    elim (comes_to limit stamp feeds bytes stamps told long s.all_told refl) [
      | inl h ↦ ends_none limit g bytes source stamps stamp told given run long s h
      | inr h ↦ ends_one limit g bytes source stamps stamp told given run long s h
    ]

nothing_known : (fs : List Find) → All (λ f. known_at f ≤ 0) fs → Neat fs → fs ≡ []
nothing_known [] a n = refl
nothing_known (f ∷ fs) a n =
    let low : position_of f + 44 ≤ known_at f = neat_known f fs n in
    let high : known_at f ≤ 0 = All-head (λ f. known_at f ≤ 0) f fs a in
    absurd (omega arith)

pub begins_in_step : BeginsInStep
begins_in_step limit g =
    let b = begins_fresh limit g in
    let none : finds [] limit ≡ [] = nothing_known (finds [] limit) (all_inside limit []) (all_neat limit []) in
    let given : from_start [] limit g ≡ [] = results_are_of_finds limit g None [] ∙ ap (λ t. given_by_finds t (record { geometry = g; reference = None })) none in
    record {
      reached = b.0;
      all_told = b.3;
      results = λ more. results_are_of_finds limit g None more;
      kept = ap (λ t. kept_of limit [] t) given ∙ sym (ap (λ t. kept_before limit [] t) none);
    }

-- Section: each run ends.

-- a find gives one result at most
at_most_one : (f : Find) (now : BetweenFrames) → (given_by_find f now ≡ []) ⊎ ((x : GivenResult) × (given_by_find f now ≡ x ∷ []))
at_most_one (Head position h) now = by_test (is_change h now.geometry)
  where
    by_test : (b : Bool) → (cond b (change_of position h ∷ []) [] ≡ []) ⊎ ((x : GivenResult) × (cond b (change_of position h ∷ []) [] ≡ x ∷ []))
    by_test true = inr (change_of position h, refl)
    by_test false = inl refl
at_most_one (Ended f) now = by_test (is_passed_over f.header now.reference)
  where
    by_test : (b : Bool) → (cond b [] (given_at_end f now ∷ []) ≡ []) ⊎ ((x : GivenResult) × (cond b [] (given_at_end f now ∷ []) ≡ x ∷ []))
    by_test true = inl refl
    by_test false = inr (given_at_end f now, refl)

-- by the finds that are still to be told
run_by : (limit : ℕ) (stamp : Stamp) (now : BetweenFrames) (fs : List Find) (bytes source : List ℕ) (stamps : List Stamp) (told : ℕ) → length stamps ≡ length bytes → IsTold bytes limit told → drop told (finds (bytes ++ source) limit) ≡ fs →
    (kept : KeptBytes) → kept ≡ kept_at bytes stamps limit told → (run : RunEnd) × Feeds limit stamp kept now source run
run_by limit stamp now [] bytes source stamps told long t e kept is =
    let r = feeding limit bytes source stamps stamp told long t in
    let none = subst (λ (fs : List Find). TellsFind (fed (kept_at bytes stamps limit told) limit source stamp) (length bytes - length (kept_at bytes stamps limit told).tail) bytes source (λ p. get_or (stamps ++ replicate (length source) stamp) p zero_stamp) fs) e r.1 in (
      record { kind = None; stamp = stamp; moved = (fed kept limit source stamp).moved; kept = (fed kept limit source stamp).kept; present = now },
      used_up kept now source (ap (λ k. (fed k limit source stamp).told) is ∙ none.0),
    )
run_by limit stamp now (f ∷ fs) bytes source stamps told long t e kept is =
    by_told (fed kept limit source stamp).told refl
    (λ b s n l t e k i. run_by limit stamp now fs b s n l t e k i)
  where
    step : FedStep
    step = fed kept limit source stamp

    by_told : (o : Option Find) → step.told ≡ o → ((bytes source : List ℕ) (stamps : List Stamp) (told : ℕ) → length stamps ≡ length bytes → IsTold bytes limit told → drop told (finds (bytes ++ source) limit) ≡ fs →
        (kept : KeptBytes) → kept ≡ kept_at bytes stamps limit told → (run : RunEnd) × Feeds limit stamp kept now source run) → (run : RunEnd) × Feeds limit stamp kept now source run
    by_told None o rest = (record { kind = None; stamp = stamp; moved = step.moved; kept = step.kept; present = now }, used_up kept now source o)
    by_told (Some find) o rest = by_given (at_most_one find now)
      where
        n : Next limit bytes source stamps stamp told find step
        n = subst (λ (k : KeptBytes). (fed k limit source stamp).told ≡ Some find → Next limit bytes source stamps stamp told find (fed k limit source stamp)) (sym is) (next_is limit bytes source stamps stamp told find long t) o

        whole : bytes ++ source ≡ bytes ++ take step.moved source ++ drop step.moved source
        whole = ap (λ t. bytes ++ t) (sym (take-append-drop step.moved source)) ∙ sym (append_assoc bytes (take step.moved source) (drop step.moved source))

        others : drop (suc told) (finds (bytes ++ take step.moved source ++ drop step.moved source) limit) ≡ fs
        others =
            let all : n.next ∷ drop (suc told) (finds (bytes ++ take step.moved source ++ drop step.moved source) limit) ≡ f ∷ fs =
            sym (n.on (drop step.moved source)) ∙ ap (λ t. drop told (finds t limit)) (sym whole) ∙ e in
            cc

        by_given : (given_by_find find now ≡ []) ⊎ ((x : GivenResult) × (given_by_find find now ≡ x ∷ [])) → (run : RunEnd) × Feeds limit stamp kept now source run
        by_given (inr x) =
            (record { kind = Some x.0.result.kind; stamp = step.stamp; moved = step.moved; kept = step.kept; present = x.0.present }, gives kept now source find x.0 o x.1)
        by_given (inl nothing) =
            let later = rest (bytes ++ take step.moved source) (drop step.moved source) (stamps ++ replicate step.moved stamp) (suc told)
            (omega (arith, long, length-append stamps (replicate step.moved stamp), length-replicate step.moved stamp, length-append bytes (take step.moved source), length-take-le step.moved source n.inside))
            n.there others step.kept n.kept in
            (run_later step.moved later.0, goes_on kept now source find later.0 o nothing later.1)

pub runs_end : RunsEnd
runs_end limit bytes source stamps stamp told now long t = run_by limit stamp now (drop told (finds (bytes ++ source) limit)) bytes source stamps told long t refl (kept_at bytes stamps limit told) refl
