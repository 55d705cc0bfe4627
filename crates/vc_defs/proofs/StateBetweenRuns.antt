-- What waits between two runs of a decoder, and what its state may leave out. Behind a result that is no change
-- nothing is known at the same byte, and a decoder at its beginning waits for nothing; so the kept bytes, the
-- geometry and the reference are the whole state.
use Rattle.std.proofs.Common.{◌≡◌, ◌∙◌, sym, ap, refl, subst, ℕ, suc, zero, ◌*◌, ◌≤◌, inl, inr, List, [], ◌∷◌, ◌++◌, length, take, drop, map, arith, length-append, length-take}
use Rattle.std.specs.Prelude.{◌⊎◌, Bool, true, false, ◌&&◌, not, nat_eq}
use Rattle.std.specs.List.{flat_map, All}
use Rattle.std.specs.Int.{w32, to_be_bytes}
use Rattle.std.specs.declared.option.Option.{Option}
use Rattle.std.specs.declared.option.Option.TheVariants.{Some, None}
use Rattle.std.proofs.lemmas.Bool.{and_parts, cond-true}
use Rattle.std.proofs.lemmas.Bool.Decides.{nat_tests}
use Rattle.std.proofs.lemmas.List.{take-append-le, append-nil}
use Rattle.std.specs.List.{drop-map}
use Rattle.std.proofs.lemmas.List.Elements.{All-nil, All-head, All-drop}
use Rattle.vc_defs.specs.declared.Layout.{Layout}
use Rattle.vc_defs.specs.declared.Layout.TheVariants.{Grey, C420, C422}
use Rattle.vc_defs.specs.declared.Geometry.{Geometry}
use Rattle.vc_defs.specs.declared.Header.{Header}
use Rattle.vc_defs.specs.Headers.{header_bytes, header_fields, is_legal, header_from}
use Rattle.vc_defs.specs.Places.{places, look}
use Rattle.vc_defs.specs.Finds.{Head, finds}
use Rattle.vc_defs.specs.Decoder.{FrameResult, ResultKind, Picture, Damaged, Changed, GivenResult, BetweenFrames, same_layout, same_geometry, is_change, given_by_find, given_by_finds, present_after, moved_given, given_in}
use Rattle.vc_defs.specs.Laws.{from_start, present_at, IsNoChange, IsNext, AreOrdered, ChangeIsSeen, IsChangeNext, GivenStays, IsDamageAtMost, NothingWaits, IsEndAt, BeginsFresh}
use Rattle.vc_defs.proofs.BlocksAreRead.{some_same}
use Rattle.vc_defs.proofs.HeadersAreRead.{kept, headers_read}
use Rattle.vc_defs.proofs.ResultsAreOfFinds.{results_are_of_finds}
use Rattle.vc_defs.proofs.ResultsInOrder.{just_results, results_stay, results_are_inside}
use Rattle.vc_defs.proofs.KeptBytesSuffice.{kept_is, first_find}
use Rattle.vc_defs.proofs.RunsResume.{Reached, reached_of, change_of, skip_gives, just_ordered}

pub given_stays : GivenStays
given_stays limit g bytes more given h =
    let s = results_stay limit g None bytes more in
    ap (λ t. take given t) s.1.0 ∙ take-append-le given (from_start bytes limit g) s.0 h

ordered_drop : (n : ℕ) (rs : List FrameResult) → AreOrdered rs → AreOrdered (drop n rs)
ordered_drop zero rs o = o
ordered_drop (suc n) [] o = tt
ordered_drop (suc n) (r ∷ rs) o = ordered_drop n rs o.2

-- what can stand behind a result that is known at the last byte
pub nothing_waits : NothingWaits
nothing_waits limit g bytes given next later e known =
    by_later later
    (subst (λ (t : List GivenResult). AreOrdered (just_results t)) e
    (subst (λ (t : List FrameResult). AreOrdered t) (drop-map (λ (x : GivenResult). x.result) given (from_start bytes limit g))
    (ordered_drop given (just_results (from_start bytes limit g)) (just_ordered limit g None bytes))))
    (subst (λ (t : List GivenResult). All (λ (x : GivenResult). x.result.known ≤ length bytes) t) e (All-drop (λ (x : GivenResult). x.result.known ≤ length bytes) given (from_start bytes limit g) (results_are_inside limit g None bytes)))
  where
    -- behind a result that is no change nothing is known at the same byte
    behind_other : (kind : ResultKind) (r : FrameResult) → IsNoChange kind → IsNext kind next.result.position next.result.known r → r.known ≤ length bytes → ⊥
    behind_other (Changed g) r c n k = c
    behind_other Damaged r c n k = omega (arith, n, k, known)
    behind_other (Picture g key planes) r c n k = omega (arith, n, k, known)

    behind_change : (kind : ResultKind) (r : FrameResult) → IsNext kind next.result.position next.result.known r → r.known ≤ length bytes → (r.kind ≡ Damaged) × (r.known ≡ length bytes)
    behind_change (Changed g) r n k = elim n.2 [ inl h ↦ absurd (omega (arith, h, k, known)) | inr h ↦ (h.1, omega (arith, h.0, known)) ]
    behind_change Damaged r n k = absurd (omega (arith, n, k, known))
    behind_change (Picture g key planes) r n k = absurd (omega (arith, n, k, known))

    after_damage : (kind : ResultKind) (p k : ℕ) (r : FrameResult) → kind ≡ Damaged → k ≡ length bytes → IsNext kind p k r → r.known ≤ length bytes → ⊥
    after_damage Damaged p k r e at n h = omega (arith, n, h, at)
    after_damage (Changed g) p k r e at n h = absurd cc
    after_damage (Picture g key planes) p k r e at n h = absurd cc

    by_later : (later : List GivenResult) → AreOrdered (next.result ∷ just_results later) → All (λ (x : GivenResult). x.result.known ≤ length bytes) (next ∷ later) → IsDamageAtMost later × (IsNoChange next.result.kind → later ≡ [])
    by_later [] o a = (tt, λ c. refl)
    by_later (x ∷ []) o a =
        let k : x.result.known ≤ length bytes = All-head (λ (x : GivenResult). x.result.known ≤ length bytes) x [] (All-drop (λ (x : GivenResult). x.result.known ≤ length bytes) 1 (next ∷ x ∷ []) a) in
        ((behind_change next.result.kind x.result o.1 k).0, λ c. absurd (behind_other next.result.kind x.result c o.1 k))
    by_later (x ∷ y ∷ later) o a =
        let k : x.result.known ≤ length bytes = All-head (λ (x : GivenResult). x.result.known ≤ length bytes) x (y ∷ later) (All-drop (λ (x : GivenResult). x.result.known ≤ length bytes) 1 (next ∷ x ∷ y ∷ later) a) in
        let l : y.result.known ≤ length bytes = All-head (λ (x : GivenResult). x.result.known ≤ length bytes) y later (All-drop (λ (x : GivenResult). x.result.known ≤ length bytes) 2 (next ∷ x ∷ y ∷ later) a) in
        let b = behind_change next.result.kind x.result o.1 k in
        absurd (after_damage x.result.kind x.result.position x.result.known y.result b.0 b.1 o.2.1 l)

-- equal geometries
layout_same : (a b : Layout) → same_layout a b ≡ true → a ≡ b
layout_same Grey Grey e = refl
layout_same Grey C420 e = absurd cc
layout_same Grey C422 e = absurd cc
layout_same C420 Grey e = absurd cc
layout_same C420 C420 e = refl
layout_same C420 C422 e = absurd cc
layout_same C422 Grey e = absurd cc
layout_same C422 C420 e = absurd cc
layout_same C422 C422 e = refl

pub geometry_same : (a b : Geometry) → same_geometry a b ≡ true → a ≡ b
geometry_same a b e =
    let p = and_parts (nat_eq a.width b.width && nat_eq a.height b.height) (same_layout a.layout b.layout) e in
    let q = and_parts (nat_eq a.width b.width) (nat_eq a.height b.height) p.0 in
    let tw : nat_eq a.width b.width ≡ true = q.0 in
    let th : nat_eq a.height b.height ≡ true = q.1 in
    let w : a.width ≡ b.width = grind (arith, nat_tests) in
    let h : a.height ≡ b.height = grind (arith, nat_tests) in
    ap (λ n. record { width = n; height = a.height; layout = a.layout }) w
    ∙ ap (λ n. record { width = b.width; height = n; layout = a.layout }) h
    ∙ ap (λ l. record { width = b.width; height = b.height; layout = l }) (layout_same a.layout b.layout p.1)

-- an I frame that brings no change has the present geometry
present_geometry : (h : Header) (g : Option Geometry) → h.key ≡ true → is_change h g ≡ false → g ≡ Some h.geometry
present_geometry h None key e = let clash : true ≡ false = sym (ap (λ k. k && true) key) ∙ e in absurd cc
present_geometry h (Some g) key e =
    let n : not (same_geometry g h.geometry) ≡ false = sym (ap (λ k. k && not (same_geometry g h.geometry)) key) ∙ e in
    ap (λ x. Some x) (geometry_same g h.geometry (not_not (same_geometry g h.geometry) n))
  where
    not_not : (b : Bool) → not b ≡ false → b ≡ true
    not_not true e = refl
    not_not false e = absurd cc

fields_long : (fields : List ℕ) → length (flat_map (to_be_bytes w32) fields) ≡ 4 * length fields
fields_long [] = refl
fields_long (n ∷ fields) = let e : length (flat_map (to_be_bytes w32) fields) ≡ 4 * length fields = fields_long fields in omega (arith, e)

-- A legal header has 44 bytes.
pub length-header_bytes : (limit : ℕ) (h : Header) → is_legal limit h ≡ true → length (header_bytes h) ≡ 44
unfolding header_bytes
length-header_bytes limit h legal =
    let four : length h.colour ≡ 4 = (kept limit h legal).colours in
    let five : length (h.colour ++ h.size ∷ []) ≡ 5 = length-append h.colour (h.size ∷ []) ∙ omega (arith, four) in
    fields_long (header_fields h) ∙ omega (arith, five)

header_long : (limit : ℕ) (xs : List ℕ) (h : Header) → header_from limit (take 44 xs) ≡ Some h → 44 ≤ length xs
header_long limit xs h e =
    let is = (headers_read limit (take 44 xs) h).0 e in
    let n : length (take 44 xs) ≡ 44 = ap length is.1 ∙ length-header_bytes limit h is.0 in
    omega (arith, n, length-take 44 xs)

pub change_is_seen : ChangeIsSeen
change_is_seen limit g bytes stamps given h reach e key =
    by_point (subst (λ (t : List ℕ). header_from limit (take 44 t) ≡ Some h) (r.kept ∙ kept_is limit bytes r.told r.point) e)
  where
    r : Reached limit g bytes given
    r = reached_of limit g bytes given reach

    stands : present_at bytes limit g given ≡ r.now
    stands = ap (λ t. present_at t limit g given) (sym (append-nil bytes)) ∙ r.stands []

    none_new : is_change h r.now.geometry ≡ false → ((present_at bytes limit g given).geometry ≡ Some h.geometry) ⊎ IsChangeNext (drop given (from_start bytes limit g))
    none_new n = inl (ap (λ (q : BetweenFrames). q.geometry) stands ∙ present_geometry h r.now.geometry key n)

    -- the first result from the header on
    next_is : finds (drop r.point.at bytes) limit ≡ Head 0 h ∷ drop 1 (finds (drop r.point.at bytes) limit) → is_change h r.now.geometry ≡ true → IsChangeNext (drop given (from_start bytes limit g))
    next_is first c =
        let change : given_by_find (Head 0 h) r.now ≡ change_of 0 h ∷ [] = cond-true (is_change h r.now.geometry) (change_of 0 h ∷ []) [] c in
        let all : drop given (from_start bytes limit g) ≡ map (moved_given r.point.at) (change_of 0 h ∷ given_by_finds (drop 1 (finds (drop r.point.at bytes) limit)) (change_of 0 h).present) =
        ap (λ t. drop given (from_start t limit g)) (sym (append-nil bytes))
        ∙ r.goes_on []
        ∙ ap (λ t. map (moved_given r.point.at) (given_in t limit r.now.geometry r.now.reference)) (append-nil (drop r.point.at bytes))
        ∙ ap (λ t. map (moved_given r.point.at) t) (
        results_are_of_finds limit r.now.geometry r.now.reference (drop r.point.at bytes)
        ∙ ap (λ t. given_by_finds t r.now) first
        ∙ ap (λ t. t ++ given_by_finds (drop 1 (finds (drop r.point.at bytes) limit)) (present_after r.now t)) change
        ) in
        subst (λ (t : List GivenResult). IsChangeNext t) (sym all) (h.geometry, refl)

    by_change :
        (b : Bool) → is_change h r.now.geometry ≡ b → finds (drop r.point.at bytes) limit ≡ Head 0 h ∷ drop 1 (finds (drop r.point.at bytes) limit)
        → ((present_at bytes limit g given).geometry ≡ Some h.geometry) ⊎ IsChangeNext (drop given (from_start bytes limit g))
    by_change true c first = inr (next_is first c)
    by_change false c first = none_new c

    by_point : header_from limit (take 44 (drop r.point.at bytes)) ≡ Some h → ((present_at bytes limit g given).geometry ≡ Some h.geometry) ⊎ IsChangeNext (drop given (from_start bytes limit g))
    by_point e =
        elim r.point.here [
          | inl a ↦ absurd (omega (arith, header_long limit (drop r.point.at bytes) h e, a.1.1))
          | inr b ↦
              elim b [
                | inl a ↦
                    let same : a.1.0 ≡ h = some_same a.1.0 h (sym a.1.1.2 ∙ e) in
                    by_change (is_change h r.now.geometry) refl (first_find limit (drop r.point.at bytes) a.1.0 a.1.1 ∙ ap (λ i. Head 0 i ∷ drop 1 (finds (drop r.point.at bytes) limit)) same)
                | inr a ↦
                    let same : a.1.header ≡ h = some_same a.1.header h (sym a.1.heads.2 ∙ e) in
                    none_new (ap (λ i. is_change i r.now.geometry) (sym same) ∙ skip_gives limit g bytes r.told r.point.at a.1 r.now (sym (r.by_told)))
              ]
        ]

pub begins_fresh : BeginsFresh
unfolding given_in finds places look
begins_fresh limit g = (
  (omega arith, All-nil (λ (f : GivenResult). f.result.known ≡ 0)),
  refl,
  refl,
  (omega arith, All-nil (IsEndAt 0)),
  refl,
)
