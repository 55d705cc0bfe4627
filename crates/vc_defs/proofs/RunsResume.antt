-- From the state that stands after bytes, a run over more of them gives the next result of the whole stream. The
-- state has the kept bytes, the geometry and the reference; kept bytes find what the whole stream finds, and the rest
-- is what the results so far left. So where a stream is cut changes no result.
use Rattle.std.proofs.Common.{◌≡◌, ◌∙◌, sym, ap, refl, subst, ℕ, suc, zero, ◌+◌, ◌-◌, ◌<◌, ◌≤◌, inl, inr, List, [], ◌∷◌, ◌++◌, length, take, drop, map, replicate, arith, append_assoc, length-append, length-drop}
use Rattle.std.specs.Prelude.{◌⊎◌, Bool, true, false, ◌&&◌, not, nat_eq, nat_le, cond}
use Rattle.std.specs.List.{All}
use Rattle.std.specs.declared.option.Option.{Option}
use Rattle.std.specs.declared.option.Option.TheVariants.{Some, None}
use Rattle.std.proofs.lemmas.Bool.{cond-true, cond-false}
use Rattle.std.proofs.lemmas.Bool.Decides.{nat_tests}
use Rattle.std.proofs.lemmas.List.{take_all, take_at, drop_at, take-append-drop, take-append-le, drop-append-le, drop-drop, append-nil, length-take-le, map-append}
use Rattle.std.proofs.Math.Seq.{take-append-add}
use Rattle.std.proofs.lemmas.List.Elements.{All-nil, All-cons, All-head, All-tail, All-append}
use Rattle.vc_base.specs.declared.Stamp.{Stamp}
use Rattle.vc_defs.specs.declared.Layout.{Layout}
use Rattle.vc_defs.specs.declared.Layout.TheVariants.{Grey, C420, C422}
use Rattle.vc_defs.specs.declared.Geometry.{Geometry}
use Rattle.vc_defs.specs.declared.Header.{Header}
use Rattle.vc_defs.specs.Places.{Frame, places, moved_frame}
use Rattle.vc_defs.specs.Finds.{Find, Head, Ended, position_of, known_at, finds, moved_find, KeptBytes, stamp_in, kept_with, kept_before}
use Rattle.vc_defs.specs.Decoder.{FrameResult, ResultKind, Picture, Damaged, Changed, GivenResult, BetweenFrames, ReferenceState, same_layout, same_geometry}
use Rattle.vc_defs.specs.Decoder.{is_change, is_passed_over, picture_planes, present_after_header, given_at_header, given_by, given_at_end, given_by_find}
use Rattle.vc_defs.specs.Decoder.{given_by_finds, present_after, moved_given, given_in, results, DecoderState, DecodedStep, state_with, kept_of}
use Rattle.vc_defs.specs.Decoder.{geometry_after_kind, geometry_after, decoded_by, decode}
use Rattle.vc_defs.specs.Laws.{from_start, present_at, state_at, IsReached, TellsNext, given_after, Resuming, IsKnownRight, IsNext, AreOrdered}
use Rattle.vc_defs.proofs.DecodedIsPicture.{all_weaker}
use Rattle.vc_defs.proofs.ResultsContinue.{present_append}
use Rattle.vc_defs.proofs.ResultsAreOfFinds.{after_header, results_are_of_finds}
use Rattle.vc_defs.proofs.FindsInOrder.{finds_stay}
use Rattle.vc_defs.proofs.ResultsInOrder.{just_results, results_are_ordered, by_finds_append, all_of_finds, results_stay, results_are_inside}
use Rattle.vc_defs.proofs.PlacesBehindACut.{heads_more}
use Rattle.vc_defs.proofs.KeptBytesSuffice.{Told, Point, point_of, Pending, late_there, first_find, kept_is, IsStamped, Reach, reach_of, top_short, stamps_with, stamps_alone, stamp_is, kept_again}
use Rattle.vc_defs.proofs.FedInPieces.{Neat, all_neat, neat_drop, goes_on_at}

-- Section: finds and the results that they give.

-- the change that a header gives
abbrev pub change_of : ℕ → Header → GivenResult
change_of position h = record { result = record { position = position; known = position + 44; kind = Changed h.geometry }; present = record { geometry = Some h.geometry; reference = None } }

-- a find gives one result at most
at_most_one : (f : Find) (now : BetweenFrames) → (given_by_find f now ≡ []) ⊎ ((x : GivenResult) × (given_by_find f now ≡ x ∷ []))
at_most_one (Head position h) now = by_test (is_change h now.geometry)
  where
    by_test : (b : Bool) →
        (cond b (change_of position h ∷ []) [] ≡ []) ⊎ ((x : GivenResult) × (cond b (change_of position h ∷ []) [] ≡ x ∷ []))
    by_test true = inr (change_of position h, refl)
    by_test false = inl refl
at_most_one (Ended f) now = by_test (is_passed_over f.header now.reference)
  where
    by_test : (b : Bool) → (cond b [] (given_at_end f now ∷ []) ≡ []) ⊎ ((x : GivenResult) × (cond b [] (given_at_end f now ∷ []) ≡ x ∷ []))
    by_test true = inl refl
    by_test false = inr (given_at_end f now, refl)

-- what a result of a find has of it, and what it makes of the geometry
record Of (f : Find) (now : BetweenFrames) (x : GivenResult) : Type 0 where
  position : x.result.position ≡ position_of f
  known : x.result.known ≡ known_at f
  geometry : x.present.geometry ≡ geometry_after_kind x.result.kind now.geometry

ended_of : (f : Frame) (now : BetweenFrames) (o : Option (List (List ℕ))) → Of (Ended f) now (given_by f now o)
ended_of f now None = record { position = refl; known = refl; geometry = refl }
ended_of f now (Some planes) = record { position = refl; known = refl; geometry = refl }

result_of : (f : Find) (now : BetweenFrames) (x : GivenResult) (later : List GivenResult) → given_by_find f now ≡ x ∷ later → Of f now x
result_of (Head position h) now x later e = by_test (is_change h now.geometry) e
  where
    by_test : (b : Bool) → cond b (change_of position h ∷ []) [] ≡ x ∷ later → Of (Head position h) now x
    by_test true e =
        let is : change_of position h ≡ x = cc in
        subst (λ (y : GivenResult). Of (Head position h) now y) is (record { position = refl; known = refl; geometry = refl })
    by_test false e = absurd cc
result_of (Ended f) now x later e = by_test (is_passed_over f.header now.reference) e
  where
    by_test : (b : Bool) → cond b [] (given_at_end f now ∷ []) ≡ x ∷ later → Of (Ended f) now x
    by_test true e = absurd cc
    by_test false e =
        let is : given_at_end f now ≡ x = cc in
        subst (λ (y : GivenResult). Of (Ended f) now y) is (ended_of f now (picture_planes f now))

-- what holds of all positions of finds holds of those of results
all_positions : (P : ℕ → Type 0) (fs : List Find) (now : BetweenFrames) → All (λ f. P (position_of f)) fs → All (λ (x : GivenResult). P x.result.position) (given_by_finds fs now)
all_positions P [] now a = All-nil (λ (x : GivenResult). P x.result.position)
all_positions P (f ∷ fs) now a =
    All-append (λ (x : GivenResult). P x.result.position) (given_by_find f now) (given_by_finds fs (present_after now (given_by_find f now)))
    (one (at_most_one f now) (All-head (λ f. P (position_of f)) f fs a)) (all_positions P fs (present_after now (given_by_find f now)) (All-tail (λ f. P (position_of f)) f fs a))
  where
    one : (given_by_find f now ≡ []) ⊎ ((x : GivenResult) × (given_by_find f now ≡ x ∷ [])) → P (position_of f) → All (λ (x : GivenResult). P x.result.position) (given_by_find f now)
    one (inl e) p = subst (λ (t : List GivenResult). All (λ (x : GivenResult). P x.result.position) t) (sym e) (All-nil (λ (x : GivenResult). P x.result.position))
    one (inr r) p =
        subst (λ (t : List GivenResult). All (λ (x : GivenResult). P x.result.position) t) (sym r.1)
        (All-cons (λ (x : GivenResult). P x.result.position) r.0 [] (subst P (sym (result_of f now r.0 [] r.1).position) p) (All-nil (λ (x : GivenResult). P x.result.position)))

-- the first result of finds, and the geometry behind it
first_geometry : (fs : List Find) (now : BetweenFrames) (x : GivenResult) (later : List GivenResult) → given_by_finds fs now ≡ x ∷ later → x.present.geometry ≡ geometry_after_kind x.result.kind now.geometry
first_geometry [] now x later e = absurd cc
first_geometry (f ∷ fs) now x later e =
    elim (at_most_one f now) [
      | inl none ↦ first_geometry fs now x later (ap (λ t. t ++ given_by_finds fs (present_after now t)) (sym none) ∙ e)
      | inr r ↦
          let is : r.0 ∷ given_by_finds fs (present_after now (r.0 ∷ [])) ≡ x ∷ later = ap (λ t. t ++ given_by_finds fs (present_after now t)) (sym r.1) ∙ e in
          let same : r.0 ≡ x = cc in
          subst (λ (y : GivenResult). y.present.geometry ≡ geometry_after_kind y.result.kind now.geometry) same (result_of f now r.0 [] r.1).geometry
    ]

-- the next find gives a result, where there is one
abbrev NextGives : List Find → BetweenFrames → Type 0
NextGives [] now = Unit {0}
NextGives (f ∷ fs) now = (x : GivenResult) × (given_by_find f now ≡ x ∷ [])

-- how many finds were told where so many results were given
record Chosen (fs : List Find) (now : BetweenFrames) (given : ℕ) : Type 0 where
  told : ℕ
  fits : told ≤ length fs
  before : length (given_by_finds (take told fs) now) ≡ given
  next : NextGives (drop told fs) (present_after now (given_by_finds (take told fs) now))

choose : (fs : List Find) (now : BetweenFrames) (given : ℕ) → given ≤ length (given_by_finds fs now) → Chosen fs now given
choose [] now given h = record { told = 0; fits = omega arith; before = omega arith; next = tt }
choose (f ∷ fs) now given h = by_find (λ p n k. choose fs p n k) (at_most_one f now) given h
  where
    further : (first : List GivenResult) (n given : ℕ) → given_by_find f now ≡ first → n + length first ≡ given → Chosen fs (present_after now first) n → Chosen (f ∷ fs) now given
    further first n given e is c = record {
      told = suc c.told;
      fits = omega (arith, c.fits);
      before =
          ap (λ t. length (t ++ given_by_finds (take c.told fs) (present_after now t))) e
          ∙ length-append first (given_by_finds (take c.told fs) (present_after now first))
          ∙ omega (arith, c.before, is);
      next = subst (λ (p : BetweenFrames). NextGives (drop c.told fs) p)
          (sym (
          ap (λ t. present_after now (t ++ given_by_finds (take c.told fs) (present_after now t))) e
          ∙ present_append now first (given_by_finds (take c.told fs) (present_after now first))
          ))
          c.next;
    }

    by_find :
        ((p : BetweenFrames) (n : ℕ) → n ≤ length (given_by_finds fs p) → Chosen fs p n)
        → (given_by_find f now ≡ []) ⊎ ((x : GivenResult) × (given_by_find f now ≡ x ∷ [])) → (given : ℕ)
        → given ≤ length (given_by_finds (f ∷ fs) now) → Chosen (f ∷ fs) now given
    by_find others (inl e) given h =
        further [] given given e (omega arith)
        (others now given (subst (λ (t : List GivenResult). given ≤ length (t ++ given_by_finds fs (present_after now t))) e h))
    by_find others (inr r) zero h = record { told = 0; fits = omega arith; before = refl; next = r }
    by_find others (inr r) (suc given) h =
        let h' : suc given ≤ suc (length (given_by_finds fs r.0.present)) = subst (λ (t : List GivenResult). suc given ≤ length (t ++ given_by_finds fs (present_after now t))) r.1 h in
        further (r.0 ∷ []) given (suc given) r.1 (omega arith) (others r.0.present given (omega arith))

-- finds that are counted from earlier on give the same
by_find_moved : (k : ℕ) (f : Find) (now : BetweenFrames) → given_by_find (moved_find k f) now ≡ map (moved_given k) (given_by_find f now)
by_find_moved k (Head position h) now = by_test (is_change h now.geometry)
  where
    by_test : (b : Bool) →
        cond b (change_of (k + position) h ∷ []) [] ≡ map (moved_given k) (cond b (change_of position h ∷ []) [])
    by_test true =
        let e : k + position + 44 ≡ k + (position + 44) = omega arith in
        ap (λ n. record { result = record { position = k + position; known = n; kind = Changed h.geometry }; present = record { geometry = Some h.geometry; reference = None } } ∷ []) e
    by_test false = refl
by_find_moved k (Ended f) now = by_test (is_passed_over f.header now.reference)
  where
    moved_end : (o : Option (List (List ℕ))) → given_by (moved_frame k f) now o ≡ moved_given k (given_by f now o)
    moved_end None = refl
    moved_end (Some planes) = refl

    by_test : (b : Bool) → cond b [] (given_by (moved_frame k f) now (picture_planes f now) ∷ []) ≡ map (moved_given k) (cond b [] (given_by f now (picture_planes f now) ∷ []))
    by_test true = refl
    by_test false = ap (λ x. x ∷ []) (moved_end (picture_planes f now))

present_moved : (k : ℕ) (now : BetweenFrames) (xs : List GivenResult) → present_after now (map (moved_given k) xs) ≡ present_after now xs
present_moved k now [] = refl
present_moved k now (x ∷ xs) = present_moved k x.present xs

by_finds_moved : (k : ℕ) (fs : List Find) (now : BetweenFrames) → given_by_finds (map (moved_find k) fs) now ≡ map (moved_given k) (given_by_finds fs now)
by_finds_moved k [] now = refl
by_finds_moved k (f ∷ fs) now =
    ap (λ t. t ++ given_by_finds (map (moved_find k) fs) (present_after now t)) (by_find_moved k f now)
    ∙ ap (λ p. map (moved_given k) (given_by_find f now) ++ given_by_finds (map (moved_find k) fs) p) (present_moved k now (given_by_find f now))
    ∙ ap (λ t. map (moved_given k) (given_by_find f now) ++ t) (by_finds_moved k fs (present_after now (given_by_find f now)))
    ∙ sym (map-append (moved_given k) (given_by_find f now) (given_by_finds fs (present_after now (given_by_find f now))))

-- a header whose change was given gives none again
same_layout_is : (l : Layout) → same_layout l l ≡ true
same_layout_is Grey = refl
same_layout_is C420 = refl
same_layout_is C422 = refl

pub same_geometry_is : (g : Geometry) → same_geometry g g ≡ true
same_geometry_is g =
    let w : nat_eq g.width g.width ≡ true = grind (arith, nat_tests) in
    let h : nat_eq g.height g.height ≡ true = grind (arith, nat_tests) in
    ap (λ b. b && nat_eq g.height g.height && same_layout g.layout g.layout) w
    ∙ ap (λ b. true && b && same_layout g.layout g.layout) h
    ∙ ap (λ b. true && true && b) (same_layout_is g.layout)

no_change_again : (b : Bool) (g : Geometry) → (b && not (same_geometry g g)) ≡ false
no_change_again true g = ap (λ b. not b) (same_geometry_is g)
no_change_again false g = refl

pub no_second_change : (h : Header) (now : BetweenFrames) → is_change h (present_after_header h now).geometry ≡ false
no_second_change h now = by_test (is_change h now.geometry) refl
  where
    by_test : (b : Bool) → is_change h now.geometry ≡ b → is_change h (cond b (record { geometry = Some h.geometry; reference = None }) now).geometry ≡ false
    by_test true e = no_change_again h.key h.geometry
    by_test false e = e

gives_nothing : (position : ℕ) (h : Header) (now : BetweenFrames) → is_change h now.geometry ≡ false → given_at_header position h now ≡ []
gives_nothing position h now e =
    cond-false (is_change h now.geometry) (change_of position h ∷ []) [] e

take_next : {A : Type 0} (n : ℕ) (xs : List A) (y : A) (ys : List A) → drop n xs ≡ y ∷ ys → take (suc n) xs ≡ take n xs ++ y ∷ []
take_next zero [] y ys e = absurd cc
take_next zero (x ∷ xs) y ys e = let same : x ≡ y = cc in ap (λ z. z ∷ []) same
take_next (suc n) [] y ys e = absurd cc
take_next (suc n) (x ∷ xs) y ys e = ap (λ t. x ∷ t) (take_next n xs y ys e)

-- Section: where so many results were given.

abbrev pub began : Option Geometry → BetweenFrames
began g = record { geometry = g; reference = None }

-- Results of bytes that go on, by the finds that were told of them.
pub record Reached (limit : ℕ) (g : Option Geometry) (bytes : List ℕ) (given : ℕ) : Type 0 where
  pub now : BetweenFrames
  pub told : ℕ
  pub by_told : present_after (began g) (given_by_finds (take told (finds bytes limit)) (began g)) ≡ now
  pub fits : told ≤ length (finds bytes limit)
  pub pending : Pending limit bytes told
  pub kept : kept_of limit bytes (drop given (from_start bytes limit g)) ≡ kept_before limit bytes (drop told (finds bytes limit))
  pub point : Point limit bytes told
  pub known : (more : List ℕ) → All (λ (x : GivenResult). length (drop point.at bytes) ≤ x.result.known) (given_in (drop point.at bytes ++ more) limit now.geometry now.reference)
  pub positions : (more : List ℕ) → All (λ (x : GivenResult). IsStamped (length (drop point.at bytes)) x.result.position) (given_in (drop point.at bytes ++ more) limit now.geometry now.reference)
  pub goes_on : (more : List ℕ) → drop given (from_start (bytes ++ more) limit g) ≡ map (moved_given point.at) (given_in (drop point.at bytes ++ more) limit now.geometry now.reference)
  pub stands : (more : List ℕ) → present_at (bytes ++ more) limit g given ≡ now
  pub there : (more : List ℕ) → given ≤ length (from_start (bytes ++ more) limit g)

-- all behind a find is known with it or later
neat_after : (f : Find) (fs : List Find) → Neat (f ∷ fs) → All (λ g. known_at f ≤ known_at g) fs
neat_after f [] n = All-nil (λ g. known_at f ≤ known_at g)
neat_after (Head position h) (Head p g ∷ fs) n = absurd n.0
neat_after (Head position h) (Ended e ∷ fs) n =
    All-cons (λ g. position + 44 ≤ known_at g) (Ended e) fs n.0 (all_weaker (λ g. e.known < known_at g) (λ g. position + 44 ≤ known_at g) fs (λ g k. omega (arith, k, n.0)) n.1.0)
neat_after (Ended e) (g ∷ fs) n = all_weaker (λ g. e.known < known_at g) (λ g. e.known ≤ known_at g) (g ∷ fs) (λ g k. omega arith) n.0

pending_by : (n : ℕ) (ds : List Find) (now : BetweenFrames) → Neat ds → NextGives ds now → All (λ (x : GivenResult). x.result.known ≡ n) (given_by_finds ds now) → All (λ f. n ≤ known_at f) ds
pending_by n [] now neat next a = All-nil (λ f. n ≤ known_at f)
pending_by n (f ∷ fs) now neat next a =
    let same : next.0.result.known ≡ n =
    All-head (λ (x : GivenResult). x.result.known ≡ n) next.0 (given_by_finds fs (present_after now (next.0 ∷ [])))
    (subst (λ (t : List GivenResult). All (λ (x : GivenResult). x.result.known ≡ n) (t ++ given_by_finds fs (present_after now t))) next.1 a) in
    let here : n ≤ known_at f = omega (arith, same, (result_of f now next.0 [] next.1).known) in
    All-cons (λ f. n ≤ known_at f) f fs here (all_weaker (λ g. known_at f ≤ known_at g) (λ g. n ≤ known_at g) fs (λ g k. omega arith) (neat_after f fs neat))

kept_by : (limit : ℕ) (bytes : List ℕ) (ds : List Find) (now : BetweenFrames) → NextGives ds now → kept_of limit bytes (given_by_finds ds now) ≡ kept_before limit bytes ds
kept_by limit bytes [] now next = refl
kept_by limit bytes (f ∷ fs) now next =
    let of = result_of f now next.0 [] next.1 in
    ap (λ t. kept_of limit bytes (t ++ given_by_finds fs (present_after now t))) next.1
    ∙ ap (λ k. cond (nat_le k (length bytes)) (drop next.0.result.position bytes) (places bytes limit).tail) of.known
    ∙ ap (λ k. cond (nat_le (known_at f) (length bytes)) (drop k bytes) (places bytes limit).tail) of.position

-- a header that was told gives nothing more
pub skip_gives : (limit : ℕ) (g : Option Geometry) (bytes : List ℕ) (told at : ℕ) (t : Told limit bytes told at) (now : BetweenFrames) → now ≡ present_after (began g) (given_by_finds (take told (finds bytes limit)) (began g)) →
    is_change t.header now.geometry ≡ false
skip_gives limit g bytes told at t now e =
    let before : BetweenFrames = present_after (began g) (given_by_finds (take t.fewer (finds bytes limit)) (began g)) in
    let taken : take told (finds bytes limit) ≡ take t.fewer (finds bytes limit) ++ Head at t.header ∷ [] =
    ap (λ k. take k (finds bytes limit)) t.is ∙ take_next t.fewer (finds bytes limit) (Head at t.header) (drop told (finds bytes limit)) t.last in
    let is : now ≡ present_after_header t.header before =
    e
    ∙ ap (λ fs. present_after (began g) (given_by_finds fs (began g))) taken
    ∙ ap (λ xs. present_after (began g) xs) (by_finds_append (take t.fewer (finds bytes limit)) (Head at t.header ∷ []) (began g))
    ∙ present_append (began g) (given_by_finds (take t.fewer (finds bytes limit)) (began g)) (given_by_finds (Head at t.header ∷ []) before)
    ∙ ap (λ xs. present_after before xs) (append-nil (given_at_header at t.header before))
    ∙ after_header at t.header before in
    ap (λ (p : BetweenFrames). is_change t.header p.geometry) is ∙ no_second_change t.header before

skipped_same : (limit : ℕ) (g : Option Geometry) (bytes : List ℕ) (told : ℕ) (p : Point limit bytes told) (now : BetweenFrames) → now ≡ present_after (began g) (given_by_finds (take told (finds bytes limit)) (began g)) → (more : List ℕ) →
    given_by_finds (drop p.skipped (finds (drop p.at bytes ++ more) limit)) now ≡ given_by_finds (finds (drop p.at bytes ++ more) limit) now
skipped_same limit g bytes told p now e more =
    elim p.here [
      | inl a ↦ ap (λ k. given_by_finds (drop k (finds (drop p.at bytes ++ more) limit)) now) a.0
      | inr b ↦
          elim b [
            | inl a ↦ ap (λ k. given_by_finds (drop k (finds (drop p.at bytes ++ more) limit)) now) a.0
            | inr a ↦
                let none : given_at_header 0 a.1.header now ≡ [] = gives_nothing 0 a.1.header now (skip_gives limit g bytes told p.at a.1 now e) in
                ap (λ k. given_by_finds (drop k (finds (drop p.at bytes ++ more) limit)) now) a.0
                ∙ ap (λ t. t ++ given_by_finds (drop 1 (finds (drop p.at bytes ++ more) limit)) (present_after now t)) (sym none)
                ∙ ap (λ t. given_by_finds t now) (sym (first_find limit (drop p.at bytes ++ more) a.1.header (heads_more limit (drop p.at bytes) more a.1.header a.1.heads)))
          ]
    ]

pub reached_of : (limit : ℕ) (g : Option Geometry) (bytes : List ℕ) (given : ℕ) → IsReached bytes limit g given → Reached limit g bytes given
reached_of limit g bytes given r = record {
  now = now;
  told = c.told;
  by_told = refl;
  fits = c.fits;
  pending = waiting;
  kept = ap (λ t. kept_of limit bytes t) later ∙ kept_by limit bytes (drop c.told fs) now c.next;
  point = point;
  known = λ more. subst (λ (t : List GivenResult). All (λ (x : GivenResult). length (drop point.at bytes) ≤ x.result.known) t) (from_point more)
      (all_of_finds (λ n. length (drop point.at bytes) ≤ n) (drop point.skipped (finds (drop point.at bytes ++ more) limit)) now (late_there limit bytes c.told more point c.fits waiting));
  positions = λ more. subst (λ (t : List GivenResult). All (λ (x : GivenResult). IsStamped (length (drop point.at bytes)) x.result.position) t) (sym (results_are_of_finds limit now.geometry now.reference (drop point.at bytes ++ more)))
      (all_positions (λ q. IsStamped (length (drop point.at bytes)) q) (finds (drop point.at bytes ++ more) limit) now (reach_of limit bytes c.told more point c.fits waiting).positions);
  goes_on = λ more.
      ap (λ t. drop given t) (longer more)
      ∙ drop_at first (given_by_finds (drop c.told (finds (bytes ++ more) limit)) now) given c.before
      ∙ ap (λ t. given_by_finds t now) (point.finds_on more)
      ∙ by_finds_moved point.at (drop point.skipped (finds (drop point.at bytes ++ more) limit)) now
      ∙ ap (λ t. map (moved_given point.at) t) (from_point more);
  stands = λ more.
      ap (λ t. present_after (began g) (take given t)) (longer more)
      ∙ ap (λ t. present_after (began g) t) (take_at first (given_by_finds (drop c.told (finds (bytes ++ more) limit)) now) given c.before);
  there = λ more. omega (arith, ap length (longer more), length-append first (given_by_finds (drop c.told (finds (bytes ++ more) limit)) now), c.before);
}
  where
    fs : List Find
    fs = finds bytes limit

    c : Chosen (finds bytes limit) (began g) given
    c = choose (finds bytes limit) (began g) given (subst (λ (t : List GivenResult). given ≤ length t) (results_are_of_finds limit g None bytes) r.0)

    first : List GivenResult
    first = given_by_finds (take c.told fs) (began g)

    now : BetweenFrames
    now = present_after (began g) first

    parts : (xs : List Find) → given_by_finds xs (began g) ≡ given_by_finds (take c.told xs) (began g) ++ given_by_finds (drop c.told xs) (present_after (began g) (given_by_finds (take c.told xs) (began g)))
    parts xs = ap (λ t. given_by_finds t (began g)) (sym (take-append-drop c.told xs)) ∙ by_finds_append (take c.told xs) (drop c.told xs) (began g)

    longer : (more : List ℕ) → from_start (bytes ++ more) limit g ≡ first ++ given_by_finds (drop c.told (finds (bytes ++ more) limit)) now
    longer more =
        let s = finds_stay limit bytes more in
        let same : take c.told (finds (bytes ++ more) limit) ≡ take c.told fs = ap (λ t. take c.told t) s.1.0 ∙ take-append-le c.told fs s.0 c.fits in
        results_are_of_finds limit g None (bytes ++ more)
        ∙ parts (finds (bytes ++ more) limit)
        ∙ ap (λ t. given_by_finds t (began g) ++ given_by_finds (drop c.told (finds (bytes ++ more) limit)) (present_after (began g) (given_by_finds t (began g)))) same

    later : drop given (from_start bytes limit g) ≡ given_by_finds (drop c.told fs) now
    later = ap (λ t. drop given t) (results_are_of_finds limit g None bytes ∙ parts fs) ∙ drop_at first (given_by_finds (drop c.told fs) now) given c.before

    waiting : Pending limit bytes c.told
    waiting =
        pending_by (length bytes) (drop c.told fs) now (neat_drop c.told fs (all_neat limit bytes)) c.next
        (subst (λ (t : List GivenResult). All (λ (x : GivenResult). x.result.known ≡ length bytes) t) later r.1)

    point : Point limit bytes c.told
    point = point_of limit bytes c.told c.fits

    from_point : (more : List ℕ) → given_by_finds (drop point.skipped (finds (drop point.at bytes ++ more) limit)) now ≡ given_in (drop point.at bytes ++ more) limit now.geometry now.reference
    from_point more = skipped_same limit g bytes c.told point now refl more ∙ sym (results_are_of_finds limit now.geometry now.reference (drop point.at bytes ++ more))

-- Section: one run.

pub just_ordered : (limit : ℕ) (g : Option Geometry) (r : Option ReferenceState) (xs : List ℕ) → AreOrdered (just_results (given_in xs limit g r))
unfolding results
just_ordered limit g r xs = results_are_ordered limit g r xs

-- results in order are known with the first one or later
ordered_after : (r : FrameResult) (rs : List FrameResult) → AreOrdered (r ∷ rs) → All (λ (s : FrameResult). r.known ≤ s.known) rs
ordered_after r [] o = All-nil (λ (s : FrameResult). r.known ≤ s.known)
ordered_after r (s ∷ rs) o =
    let step : r.known ≤ s.known = next_later r.kind o.1 in
    All-cons (λ (s : FrameResult). r.known ≤ s.known) s rs step (all_weaker (λ (t : FrameResult). s.known ≤ t.known) (λ (t : FrameResult). r.known ≤ t.known) rs (λ t k. omega arith) (ordered_after s rs o.2))
  where
    next_later : (kind : ResultKind) → IsNext kind r.position r.known s → r.known ≤ s.known
    next_later (Changed g) n = elim n.2 [ inl h ↦ omega arith | inr h ↦ omega (arith, h.0) ]
    next_later Damaged n = omega (arith, n)
    next_later (Picture g key planes) n = omega (arith, n)

ordered_known : (r : FrameResult) (rs : List FrameResult) → AreOrdered (r ∷ rs) → r.position + 44 ≤ r.known
ordered_known r rs o = by_kind r.kind o.0
  where
    by_kind : (kind : ResultKind) → IsKnownRight kind r.position r.known → r.position + 44 ≤ r.known
    by_kind (Changed g) k = omega (arith, k)
    by_kind Damaged k = k
    by_kind (Picture g key planes) k = k

all_of_just : (P : FrameResult → Type 0) (xs : List GivenResult) → All P (just_results xs) → All (λ (x : GivenResult). P x.result) xs
all_of_just P [] a = All-nil (λ (x : GivenResult). P x.result)
all_of_just P (x ∷ xs) a = All-cons (λ (x : GivenResult). P x.result) x xs (All-head P x.result (just_results xs) a) (all_of_just P xs (All-tail P x.result (just_results xs) a))

-- a result that isn't later than the bytes is one of theirs
split_results :
    (xs later : List GivenResult) (x : GivenResult) (rest : List GivenResult) → xs ++ later ≡ x ∷ rest
    → All (λ (y : GivenResult). x.result.known < y.result.known) later → (here : List GivenResult) × ((xs ≡ x ∷ here) × (rest ≡ here ++ later))
split_results [] later x rest e a =
    let c : x.result.known < x.result.known = All-head (λ (y : GivenResult). x.result.known < y.result.known) x rest (subst (λ (t : List GivenResult). All (λ (y : GivenResult). x.result.known < y.result.known) t) e a) in
    absurd (omega arith)
split_results (y ∷ xs) later x rest e a =
    let same : y ≡ x = cc in
    let others : xs ++ later ≡ rest = cc in
    (xs, (ap (λ k. k ∷ xs) same, sym others))

-- later results don't change what is kept
of_without : (limit : ℕ) (xs : List ℕ) (here later : List GivenResult) → All (λ (y : GivenResult). length xs < y.result.known) later → kept_of limit xs (here ++ later) ≡ kept_of limit xs here
of_without limit xs (x ∷ here) later a = refl
of_without limit xs [] [] a = refl
of_without limit xs [] (x ∷ later) a =
    let late : length xs < x.result.known = All-head (λ (y : GivenResult). length xs < y.result.known) x later a in
    cond-false (nat_le x.result.known (length xs)) (drop x.result.position xs) (places xs limit).tail (grind (arith, nat_tests))

-- what is kept of all bytes, by what is kept from a place on
of_from : (limit : ℕ) (bytes xs : List ℕ) (at : ℕ) (gs : List GivenResult) → at ≤ length bytes → drop at bytes ≡ xs → (places bytes limit).tail ≡ (places xs limit).tail → kept_of limit bytes (map (moved_given at) gs) ≡ kept_of limit xs gs
of_from limit bytes xs at [] h is tail = tail
of_from limit bytes xs at (x ∷ gs) h is tail = by_test (nat_le x.result.known (length xs)) refl
  where
    long : length xs ≡ length bytes - at
    long = ap length (sym is) ∙ length-drop at bytes

    by_test : (b : Bool) → nat_le x.result.known (length xs) ≡ b → kept_of limit bytes (moved_given at x ∷ map (moved_given at) gs) ≡ cond b (drop x.result.position xs) (places xs limit).tail
    by_test true e =
        let known : x.result.known ≤ length xs = grind (arith, nat_tests) in
        let known' : at + x.result.known ≤ length bytes = omega (arith, long) in
        cond-true (nat_le (at + x.result.known) (length bytes)) (drop (at + x.result.position) bytes) (places bytes limit).tail (grind (arith, nat_tests))
        ∙ sym (drop-drop x.result.position at bytes)
        ∙ ap (λ t. drop x.result.position t) is
    by_test false e =
        let late : length xs < x.result.known = grind (arith, nat_tests) in
        let late' : length bytes < at + x.result.known = omega (arith, long) in
        cond-false (nat_le (at + x.result.known) (length bytes)) (drop (at + x.result.position) bytes) (places bytes limit).tail (grind (arith, nat_tests)) ∙ tail

of_short : (limit : ℕ) (xs : List ℕ) (gs : List GivenResult) → length (kept_of limit xs gs) ≤ length xs
of_short limit xs [] = top_short limit xs
of_short limit xs (x ∷ gs) = by_test (nat_le x.result.known (length xs))
  where
    by_test : (b : Bool) → length (cond b (drop x.result.position xs) (places xs limit).tail) ≤ length xs
    by_test true = omega (arith, length-drop x.result.position xs)
    by_test false = top_short limit xs

of_reaches : (limit : ℕ) (kept more : List ℕ) (gs : List GivenResult) → Reach limit kept more → All (λ (x : GivenResult). IsStamped (length kept) x.result.position) gs → length kept ≤ length (kept ++ more) →
    (length (kept_of limit (kept ++ more) gs) ≡ length (kept ++ more)) ⊎ (length kept + length (kept_of limit (kept ++ more) gs) ≤ length (kept ++ more) + 43)
of_reaches limit kept more [] r a h = r.tail
of_reaches limit kept more (x ∷ gs) r a h = by_test (nat_le x.result.known (length (kept ++ more))) (All-head (λ (x : GivenResult). IsStamped (length kept) x.result.position) x gs a)
  where
    by_test : (b : Bool) → IsStamped (length kept) x.result.position →
        (length (cond b (drop x.result.position (kept ++ more)) (places (kept ++ more) limit).tail) ≡ length (kept ++ more))
        ⊎ (length kept + length (cond b (drop x.result.position (kept ++ more)) (places (kept ++ more) limit).tail) ≤ length (kept ++ more) + 43)
    by_test true (inl e) = inl (omega (arith, e, length-drop x.result.position (kept ++ more)))
    by_test true (inr e) = inr (omega (arith, e, length-drop x.result.position (kept ++ more)))
    by_test false s = r.tail

-- a state with a reference and what is kept
abbrev with_kept : Option ReferenceState → KeptBytes → DecoderState
with_kept r k = record { reference = r; tail = k.tail; first_stamp = k.first_stamp; last_stamps = k.last_stamps }

-- what the law says of a run
abbrev Right : ℕ → Option Geometry → List ℕ → List ℕ → List Stamp → Stamp → ℕ → ℕ → Option Geometry → DecodedStep → List GivenResult → Type 0
Right limit g bytes more stamps stamp given at present step next =
    TellsNext step at bytes more (stamps_with stamps stamp (length more)) next
    × IsReached (bytes ++ take step.moved more) limit g (given_after given next)
    × (step.state ≡ state_at (bytes ++ take step.moved more) (stamps ++ replicate step.moved stamp) limit g (given_after given next))
    × ((present_at (bytes ++ take step.moved more) limit g (given_after given next)).geometry ≡ geometry_after step.given present)

-- the state from which a run begins
abbrev state_of : Option ReferenceState → List ℕ → ℕ → List Stamp → DecoderState
state_of r tail n stamps = with_kept r (kept_with tail n (stamps_alone stamps))

-- where all was given
right_none : (limit : ℕ) (g : Option Geometry) (bytes more : List ℕ) (stamps : List Stamp) (stamp : Stamp) (given : ℕ) (r : Reached limit g bytes given) → length stamps ≡ length bytes → drop given (from_start (bytes ++ more) limit g) ≡ [] →
    Right limit g bytes more stamps stamp given r.point.at r.now.geometry (decoded_by (state_of r.now.reference (drop r.point.at bytes) (length bytes) stamps) limit (drop r.point.at bytes ++ more) stamp []) []
right_none limit g bytes more stamps stamp given r long none =
    subst (λ (n : ℕ). Right limit g bytes more stamps stamp given p.at r.now.geometry (record { given = None; stamp = stamp; moved = n; state = state_with r.now.reference new (length xs) (stamp_in old stamp) }) [])
    (sym moved)
    (subst (λ (t : List ℕ). TellsNext (record { given = None; stamp = stamp; moved = length more; state = state_with r.now.reference new (length xs) (stamp_in old stamp) }) p.at bytes more (stamps_with stamps stamp (length more)) []
    × IsReached (bytes ++ t) limit g given
    × (state_with r.now.reference new (length xs) (stamp_in old stamp) ≡ state_at (bytes ++ t) (stamps ++ replicate (length more) stamp) limit g given)
    × ((present_at (bytes ++ t) limit g given).geometry ≡ r.now.geometry))
    (sym whole) (
      (refl, refl),
      (
        r.there more,
        subst (λ (t : List GivenResult). All (λ (f : GivenResult). f.result.known ≡ length (bytes ++ more)) t) (sym none) (All-nil (λ (f : GivenResult). f.result.known ≡ length (bytes ++ more))),
      ),
      state_right,
      ap (λ (q : BetweenFrames). q.geometry) (r.stands more),
    ))
  where
    p : Point limit bytes r.told
    p = r.point

    xs : List ℕ
    xs = drop p.at bytes ++ more

    old : KeptBytes
    old = kept_with (drop p.at bytes) (length bytes) (stamps_alone stamps)

    new : List ℕ
    new = (places xs limit).tail

    end : length xs ≡ length (drop p.at bytes) + length more
    end = length-append (drop p.at bytes) more

    moved : length xs - length (drop p.at bytes) ≡ length more
    moved = omega (arith, end)

    whole : take (length more) more ≡ more
    whole = take_all (length more) more (omega arith)

    same : p.at + length xs ≡ length (bytes ++ more)
    same = omega (arith, end, length-append bytes more, length-drop p.at bytes, p.inside)

    reach : Reach limit (drop p.at bytes) more
    reach = reach_of limit bytes r.told more p r.fits r.pending

    kept_right : kept_with new (length xs) (stamp_in old stamp) ≡ kept_with (kept_of limit (bytes ++ more) (drop given (from_start (bytes ++ more) limit g))) (length (bytes ++ more)) (stamps_with stamps stamp (length more))
    kept_right =
        ap (λ n. kept_with new (length xs) (stamp_in (kept_with (drop p.at bytes) n (stamps_alone stamps)) stamp)) (sym long)
        ∙ kept_again stamps stamp (drop p.at bytes) p.at (length more) (length xs) new (omega (arith, long, length-drop p.at bytes, p.inside)) (top_short limit xs) (omega (arith, end)) (omega (arith, end)) reach.tail
        ∙ ap (λ n. kept_with new n (stamps_with stamps stamp (length more))) same
        ∙ ap (λ t. kept_with t (length (bytes ++ more)) (stamps_with stamps stamp (length more))) (sym (p.tail_on more))
        ∙ ap (λ gs. kept_with (kept_of limit (bytes ++ more) gs) (length (bytes ++ more)) (stamps_with stamps stamp (length more))) (sym none)

    state_right : state_with r.now.reference new (length xs) (stamp_in old stamp) ≡ state_at (bytes ++ more) (stamps ++ replicate (length more) stamp) limit g given
    state_right =
        ap (λ k. with_kept r.now.reference k) kept_right
        ∙ ap (λ (q : BetweenFrames).
        with_kept q.reference (kept_with (kept_of limit (bytes ++ more) (drop given (from_start (bytes ++ more) limit g))) (length (bytes ++ more)) (stamps_with stamps stamp (length more))))
        (sym (r.stands more))

-- what stands after one more result
reached_next : (limit : ℕ) (g : Option Geometry) (bytes : List ℕ) (given : ℕ) (x : GivenResult) (later : List GivenResult) → drop given (from_start bytes limit g) ≡ x ∷ later → present_at bytes limit g (suc given) ≡ x.present
reached_next limit g bytes given x later e =
    ap (λ t. present_after (began g) t) (take_next given (from_start bytes limit g) x later e)
    ∙ present_append (began g) (take given (from_start bytes limit g)) (x ∷ [])

-- where a result is given
right_some : (limit : ℕ) (g : Option Geometry) (bytes more : List ℕ) (stamps : List Stamp) (stamp : Stamp) (given : ℕ) (r : Reached limit g bytes given) (x : GivenResult) (later : List GivenResult) → length stamps ≡ length bytes →
    given_in (drop r.point.at bytes ++ more) limit r.now.geometry r.now.reference ≡ x ∷ later →
    Right limit g bytes more stamps stamp given r.point.at r.now.geometry
    (decoded_by (state_of r.now.reference (drop r.point.at bytes) (length bytes) stamps) limit (drop r.point.at bytes ++ more) stamp (x ∷ later))
    (map (moved_given r.point.at) (x ∷ later))
right_some limit g bytes more stamps stamp given r x later long is =
    ((refl, stamp_right, moved_right), (next.0, ends), state_right, geometry_right)
  where
    p : Point limit bytes r.told
    p = r.point

    tail : List ℕ
    tail = drop p.at bytes

    old : KeptBytes
    old = kept_with tail (length bytes) (stamps_alone stamps)

    xs : List ℕ
    xs = tail ++ more

    tail_long : length tail ≡ length bytes - p.at
    tail_long = length-drop p.at bytes

    late : length tail ≤ x.result.known
    late = All-head (λ (y : GivenResult). length tail ≤ y.result.known) x later (subst (λ (t : List GivenResult). All (λ (y : GivenResult). length tail ≤ y.result.known) t) is (r.known more))

    soon : x.result.known ≤ length xs
    soon = All-head (λ (y : GivenResult). y.result.known ≤ length xs) x later (subst (λ (t : List GivenResult). All (λ (y : GivenResult). y.result.known ≤ length xs) t) is (results_are_inside limit r.now.geometry r.now.reference xs))

    n : ℕ
    n = x.result.known - length tail

    here : List ℕ
    here = take n more

    ys : List ℕ
    ys = tail ++ here

    room : n ≤ length more
    room = omega (arith, soon, late, length-append tail more)

    here_long : length here ≡ n
    here_long = length-take-le n more room

    ys_long : length ys ≡ x.result.known
    ys_long = length-append tail here ∙ omega (arith, here_long, late)

    front : take x.result.known xs ≡ ys
    front = let e : x.result.known ≡ length tail + n = omega (arith, late) in ap (λ k. take k xs) e ∙ take-append-add tail more n

    whole : xs ≡ ys ++ drop n more
    whole = ap (λ t. tail ++ t) (sym (take-append-drop n more)) ∙ sym (append_assoc tail here (drop n more))

    these : List GivenResult
    these = given_in ys limit r.now.geometry r.now.reference

    stay : (later : List GivenResult) × ((given_in (ys ++ drop n more) limit r.now.geometry r.now.reference ≡ these ++ later) × All (λ (f : GivenResult). length ys < f.result.known) later)
    stay = results_stay limit r.now.geometry r.now.reference ys (drop n more)

    split : (here : List GivenResult) × ((these ≡ x ∷ here) × (later ≡ here ++ stay.0))
    split =
        split_results these stay.0 x later (sym stay.1.0 ∙ ap (λ t. given_in t limit r.now.geometry r.now.reference) (sym whole) ∙ is)
        (all_weaker (λ (y : GivenResult). length ys < y.result.known) (λ (y : GivenResult). x.result.known < y.result.known) stay.0 (λ y k. omega (arith, k, ys_long)) stay.1.1)

    all_taken : drop given (from_start (bytes ++ here) limit g) ≡ moved_given p.at x ∷ map (moved_given p.at) split.0
    all_taken = r.goes_on here ∙ ap (λ t. map (moved_given p.at) t) split.1.0

    next : (suc given ≤ length (from_start (bytes ++ here) limit g)) × (drop (suc given) (from_start (bytes ++ here) limit g) ≡ map (moved_given p.at) split.0)
    next = goes_on_at given (from_start (bytes ++ here) limit g) (moved_given p.at x) (map (moved_given p.at) split.0) all_taken

    taken_long : length (bytes ++ here) ≡ p.at + x.result.known
    taken_long = omega (arith, length-append bytes here, here_long, late, tail_long, p.inside)

    order : AreOrdered (x.result ∷ just_results split.0)
    order = subst (λ (t : List GivenResult). AreOrdered (just_results t)) split.1.0 (just_ordered limit r.now.geometry r.now.reference ys)

    low : All (λ (y : GivenResult). x.result.known ≤ y.result.known) split.0
    low = all_of_just (λ (s : FrameResult). x.result.known ≤ s.known) split.0 (ordered_after x.result (just_results split.0) order)

    high : All (λ (y : GivenResult). y.result.known ≤ length ys) (x ∷ split.0)
    high = subst (λ (t : List GivenResult). All (λ (y : GivenResult). y.result.known ≤ length ys) t) split.1.0 (results_are_inside limit r.now.geometry r.now.reference ys)

    ends_moved :
        (gs : List GivenResult) → All (λ (y : GivenResult). x.result.known ≤ y.result.known) gs
        → All (λ (y : GivenResult). y.result.known ≤ length ys) gs
        → All (λ (f : GivenResult). f.result.known ≡ length (bytes ++ here)) (map (moved_given p.at) gs)
    ends_moved [] a b = All-nil (λ (f : GivenResult). f.result.known ≡ length (bytes ++ here))
    ends_moved (y ∷ gs) a b =
        let k : x.result.known ≤ y.result.known = All-head (λ (y : GivenResult). x.result.known ≤ y.result.known) y gs a in
        let l : y.result.known ≤ length ys = All-head (λ (y : GivenResult). y.result.known ≤ length ys) y gs b in
        All-cons (λ (f : GivenResult). f.result.known ≡ length (bytes ++ here)) (moved_given p.at y) (map (moved_given p.at) gs) (omega (arith, k, l, ys_long, taken_long))
        (ends_moved gs (All-tail (λ (y : GivenResult). x.result.known ≤ y.result.known) y gs a) (All-tail (λ (y : GivenResult). y.result.known ≤ length ys) y gs b))

    ends : All (λ (f : GivenResult). f.result.known ≡ length (bytes ++ here)) (drop (suc given) (from_start (bytes ++ here) limit g))
    ends = subst (λ (t : List GivenResult). All (λ (f : GivenResult). f.result.known ≡ length (bytes ++ here)) t) (sym next.1) (ends_moved split.0 low (All-tail (λ (y : GivenResult). y.result.known ≤ length ys) x split.0 high))

    reach : Reach limit tail here
    reach = reach_of limit bytes r.told here p r.fits r.pending

    stamps_long : length stamps ≡ p.at + length tail
    stamps_long = omega (arith, long, tail_long, p.inside)

    new : List ℕ
    new = kept_of limit ys split.0

    stamped : All (λ (y : GivenResult). IsStamped (length tail) y.result.position) (x ∷ split.0)
    stamped = subst (λ (t : List GivenResult). All (λ (y : GivenResult). IsStamped (length tail) y.result.position) t) split.1.0 (r.positions here)

    position_inside : x.result.position < length tail + length more
    position_inside = let k : x.result.position + 44 ≤ x.result.known = ordered_known x.result (just_results split.0) order in omega (arith, k, soon, length-append tail more)

    stamp_right : stamp_in old stamp x.result.position ≡ stamps_with stamps stamp (length more) (p.at + x.result.position)
    stamp_right =
        ap (λ k. stamp_in (kept_with tail k (stamps_alone stamps)) stamp x.result.position) (sym long)
        ∙ stamp_is stamps stamp tail p.at (length more) x.result.position stamps_long (All-head (λ (y : GivenResult). IsStamped (length tail) y.result.position) x split.0 stamped) position_inside

    moved_right : length bytes + n ≡ p.at + x.result.known
    moved_right = omega (arith, late, tail_long, p.inside)

    new_is : kept_of limit (take x.result.known xs) later ≡ new
    new_is = ap (λ t. kept_of limit t later) front ∙ ap (λ t. kept_of limit ys t) split.1.1 ∙ of_without limit ys split.0 stay.0 stay.1.1

    taken_from : drop p.at (bytes ++ here) ≡ ys
    taken_from = drop-append-le p.at bytes here p.inside

    new_again : kept_of limit (bytes ++ here) (drop (suc given) (from_start (bytes ++ here) limit g)) ≡ new
    new_again =
        ap (λ t. kept_of limit (bytes ++ here) t) next.1
        ∙ of_from limit (bytes ++ here) ys p.at split.0 (omega (arith, p.inside, length-append bytes here)) taken_from (p.tail_on here)

    new_reach : (length new ≡ x.result.known) ⊎ (length tail + length new ≤ x.result.known + 43)
    new_reach =
        elim (of_reaches limit tail here split.0 reach (All-tail (λ (y : GivenResult). IsStamped (length tail) y.result.position) x split.0 stamped) (omega (arith, length-append tail here))) [
          | inl e ↦ inl (e ∙ ys_long)
          | inr e ↦ inr (omega (arith, e, ys_long))
        ]

    kept_right :
        kept_with (kept_of limit (take x.result.known xs) later) x.result.known (stamp_in old stamp)
        ≡ kept_with (kept_of limit (bytes ++ here) (drop (suc given) (from_start (bytes ++ here) limit g))) (length (bytes ++ here)) (stamps_with stamps stamp n)
    kept_right =
        ap (λ t. kept_with t x.result.known (stamp_in old stamp)) new_is
        ∙ ap (λ k. kept_with new x.result.known (stamp_in (kept_with tail k (stamps_alone stamps)) stamp)) (sym long)
        ∙ kept_again stamps stamp tail p.at n x.result.known new stamps_long (omega (arith, of_short limit ys split.0, ys_long)) late (omega (arith, late)) new_reach
        ∙ ap (λ k. kept_with new k (stamps_with stamps stamp n)) (sym taken_long)
        ∙ ap (λ t. kept_with t (length (bytes ++ here)) (stamps_with stamps stamp n)) (sym new_again)

    stands : present_at (bytes ++ here) limit g (suc given) ≡ x.present
    stands = reached_next limit g (bytes ++ here) given (moved_given p.at x) (map (moved_given p.at) split.0) all_taken

    state_right : state_with x.present.reference (kept_of limit (take x.result.known xs) later) x.result.known (stamp_in old stamp) ≡ state_at (bytes ++ here) (stamps ++ replicate n stamp) limit g (suc given)
    state_right =
        ap (λ k. with_kept x.present.reference k) kept_right
        ∙ ap (λ (q : BetweenFrames). with_kept q.reference (kept_with (kept_of limit (bytes ++ here) (drop (suc given) (from_start (bytes ++ here) limit g))) (length (bytes ++ here)) (stamps_with stamps stamp n))) (sym stands)

    geometry_right : (present_at (bytes ++ here) limit g (suc given)).geometry ≡ geometry_after_kind x.result.kind r.now.geometry
    geometry_right =
        ap (λ (q : BetweenFrames). q.geometry) stands
        ∙ first_geometry (finds xs limit) r.now x later (sym (results_are_of_finds limit r.now.geometry r.now.reference xs) ∙ is)

-- a run gives what comes next, whatever that is
right_run : (limit : ℕ) (g : Option Geometry) (bytes more : List ℕ) (stamps : List Stamp) (stamp : Stamp) (given : ℕ) (r : Reached limit g bytes given) → length stamps ≡ length bytes →
    Right limit g bytes more stamps stamp given r.point.at r.now.geometry
    (decoded_by (state_of r.now.reference (drop r.point.at bytes) (length bytes) stamps) limit (drop r.point.at bytes ++ more) stamp
    (given_in (drop r.point.at bytes ++ more) limit r.now.geometry r.now.reference))
    (drop given (from_start (bytes ++ more) limit g))
right_run limit g bytes more stamps stamp given r long = by_next (given_in (drop r.point.at bytes ++ more) limit r.now.geometry r.now.reference) refl
  where
    by_next : (gs : List GivenResult) → given_in (drop r.point.at bytes ++ more) limit r.now.geometry r.now.reference ≡ gs →
        Right limit g bytes more stamps stamp given r.point.at r.now.geometry
        (decoded_by (state_of r.now.reference (drop r.point.at bytes) (length bytes) stamps) limit (drop r.point.at bytes ++ more) stamp gs)
        (drop given (from_start (bytes ++ more) limit g))
    by_next [] e =
        let none : drop given (from_start (bytes ++ more) limit g) ≡ [] = r.goes_on more ∙ ap (λ t. map (moved_given r.point.at) t) e in
        subst (λ (t : List GivenResult).
        Right limit g bytes more stamps stamp given r.point.at r.now.geometry
        (decoded_by (state_of r.now.reference (drop r.point.at bytes) (length bytes) stamps) limit (drop r.point.at bytes ++ more) stamp []) t)
        (sym none) (right_none limit g bytes more stamps stamp given r long none)
    by_next (x ∷ later) e =
        let some : drop given (from_start (bytes ++ more) limit g) ≡ map (moved_given r.point.at) (x ∷ later) = r.goes_on more ∙ ap (λ t. map (moved_given r.point.at) t) e in
        subst (λ (t : List GivenResult).
        Right limit g bytes more stamps stamp given r.point.at r.now.geometry
        (decoded_by (state_of r.now.reference (drop r.point.at bytes) (length bytes) stamps) limit (drop r.point.at bytes ++ more) stamp (x ∷ later))
        t)
        (sym some) (right_some limit g bytes more stamps stamp given r x later long e)

pub resuming : Resuming
unfolding decode
resuming limit g bytes more stamps stamp given long reach =
    let r = reached_of limit g bytes given reach in
    let at : length bytes - length (drop r.point.at bytes) ≡ r.point.at = omega (arith, length-drop r.point.at bytes, r.point.inside) in
    let run = right_run limit g bytes more stamps stamp given r long in
    let run' =
    subst (λ (k : ℕ).
    Right limit g bytes more stamps stamp given k r.now.geometry
    (decoded_by (state_of r.now.reference (drop r.point.at bytes) (length bytes) stamps) limit (drop r.point.at bytes ++ more) stamp
    (given_in (drop r.point.at bytes ++ more) limit r.now.geometry r.now.reference))
    (drop given (from_start (bytes ++ more) limit g)))
    (sym at) run in
    let kept : kept_of limit bytes (drop given (from_start bytes limit g)) ≡ drop r.point.at bytes = r.kept ∙ kept_is limit bytes r.told r.point in
    let stands : present_at bytes limit g given ≡ r.now = ap (λ t. present_at t limit g given) (sym (append-nil bytes)) ∙ r.stands [] in
    let run'' =
    subst (λ (t : List ℕ).
    Right limit g bytes more stamps stamp given (length bytes - length t) r.now.geometry
    (decoded_by (state_of r.now.reference t (length bytes) stamps) limit (t ++ more) stamp (given_in (t ++ more) limit r.now.geometry r.now.reference))
    (drop given (from_start (bytes ++ more) limit g)))
    (sym kept) run' in
    subst (λ (q : BetweenFrames).
    Right limit g bytes more stamps stamp given (length bytes - length (kept_of limit bytes (drop given (from_start bytes limit g)))) q.geometry
    (decoded_by (state_of q.reference (kept_of limit bytes (drop given (from_start bytes limit g))) (length bytes) stamps) limit
    (kept_of limit bytes (drop given (from_start bytes limit g)) ++ more) stamp
    (given_in (kept_of limit bytes (drop given (from_start bytes limit g)) ++ more) limit q.geometry q.reference))
    (drop given (from_start (bytes ++ more) limit g)))
    (sym stands) run''
