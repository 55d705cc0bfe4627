-- Results become known in the order in which they stand, stay when the bytes go on, and lie inside the bytes. Results
-- are what finds give, one result at most for each, and a frame without a body gives no picture; so the order of
-- finds carries over.
use Rattle.std.proofs.Common.{◌≡◌, ◌∙◌, sym, ap, refl, subst, ℕ, suc, zero, ◌+◌, ◌-◌, ◌*◌, ◌/◌, ◌<◌, ◌≤◌, inl, inr, List, [], ◌∷◌, ◌++◌, length, take, drop, get_or, map, arith, append_assoc}
use Rattle.std.specs.Prelude.{Bool, true, false, ◌&&◌, ◌||◌, not, nat_le, nat_lt, cond}
use Rattle.std.specs.List.{list_all, All}
use Rattle.std.specs.declared.option.Option.{Option}
use Rattle.std.specs.declared.option.Option.TheVariants.{Some, None}
use Rattle.std.proofs.Math.Nat.{mul-le-mul}
use Rattle.std.proofs.lemmas.Bool.{and_parts, cases_lt}
use Rattle.std.proofs.lemmas.Bool.Decides.{nat_tests}
use Rattle.std.proofs.lemmas.List.Elements.{All-nil, All-cons, All-head, All-tail, All-append}
use Rattle.vc_defs.specs.declared.Layout.{Layout}
use Rattle.vc_defs.specs.declared.Layout.TheVariants.{Grey, C420, C422}
use Rattle.vc_defs.specs.declared.Header.{Header}
use Rattle.vc_defs.specs.Headers.{is_legal, is_legal_geometry, is_legal_size, size_suits, raw_suits, is_legal_number, is_whole_header}
use Rattle.vc_base.specs.Limits.{most_bytes}
use Rattle.vc_defs.specs.Planes.{padded, block_count, blocks_across, blocks_from, unpadded}
use Rattle.vc_defs.specs.Bodies.{shapes_of, plane_from, planes_from, decoded_from, after_plane, if_complete, body_planes}
use Rattle.vc_defs.specs.Places.{Look, nothing, begun, no_header, unended, cut, whole, look, Frame, OpenFrame, places_at, places_from, places}
use Rattle.vc_defs.specs.Finds.{Find, Head, Ended, known_at, finds}
use Rattle.vc_defs.specs.Decoder.{FrameResult, Changed, GivenResult, BetweenFrames, is_passed_over, is_change, is_present, follows_reference, reference_planes}
use Rattle.vc_defs.specs.Decoder.{frame_planes, picture_planes, present_after_header, given_at_header, given_by, given_at_end, given_then, given_in_frames}
use Rattle.vc_defs.specs.Decoder.{given_by_find, given_by_finds, present_after, given_in, results}
use Rattle.vc_defs.specs.Laws.{IsNext, AreOrdered, ResultsAreOrdered, ResultsAreInside, ResultsStay}
use Rattle.vc_defs.proofs.DecodedIsPicture.{all_weaker}
use Rattle.vc_defs.proofs.HeadersAreRead.{headers_read}
use Rattle.vc_defs.proofs.ResultsContinue.{present_append}
use Rattle.vc_defs.proofs.ResultsAreOfFinds.{results_are_of_finds}
use Rattle.vc_defs.proofs.FindsInOrder.{Seen, seen, InOrder, in_order, finds_of, finds_inside, finds_stay}

-- sizes of a legal header's picture
least_sizes : (limit : ℕ) (h : Header) → is_legal limit h ≡ true → (16 ≤ h.geometry.width) × (16 ≤ h.geometry.height)
unfolding is_legal
least_sizes limit h e =
    let a = and_parts (is_legal_geometry h.geometry && raw_suits h.geometry.layout h.raw && nat_le h.size most_bytes && nat_le h.size limit && is_legal_number h.number) (is_whole_header h) e in
    let b = and_parts (is_legal_geometry h.geometry && raw_suits h.geometry.layout h.raw && nat_le h.size most_bytes && nat_le h.size limit) (is_legal_number h.number) a.0 in
    let c = and_parts (is_legal_geometry h.geometry && raw_suits h.geometry.layout h.raw && nat_le h.size most_bytes) (nat_le h.size limit) b.0 in
    let d = and_parts (is_legal_geometry h.geometry && raw_suits h.geometry.layout h.raw) (nat_le h.size most_bytes) c.0 in
    let f = and_parts (is_legal_geometry h.geometry) (raw_suits h.geometry.layout h.raw) d.0 in
    let g = and_parts (is_legal_size h.geometry.width h.geometry.height) (size_suits h.geometry.layout h.geometry.width h.geometry.height) f.0 in
    let i = and_parts (nat_le 16 h.geometry.width && nat_le h.geometry.width 4096 && nat_le 16 h.geometry.height) (nat_le h.geometry.height 2160) g.0 in
    let j = and_parts (nat_le 16 h.geometry.width && nat_le h.geometry.width 4096) (nat_le 16 h.geometry.height) i.0 in
    let k = and_parts (nat_le 16 h.geometry.width) (nat_le h.geometry.width 4096) j.0 in
    let w : nat_le 16 h.geometry.width ≡ true = k.0 in
    let l : nat_le 16 h.geometry.height ≡ true = j.1 in
    (grind (arith, nat_tests), grind (arith, nat_tests))

-- no plane stands in no bytes
no_plane : (raw inter : Bool) (reference : List ℕ) (width height : ℕ) → 16 ≤ width → 16 ≤ height → plane_from raw inter reference width height [] ≡ None
no_plane true inter reference width height w h =
    let size : 16 * 16 ≤ padded width * padded height = mul-le-mul {n₁ = 16} {m₁ = 16} (omega arith) (omega arith) in
    let t : nat_le (padded width * padded height) 0 ≡ false = grind (arith, nat_tests) in
    let found : Bool → Option (List ℕ × List ℕ) =
    λ b. cond (b && list_all (λ b. nat_lt b 255) (take (padded width * padded height) [])) (Some (unpadded (take (padded width * padded height) []) width height, drop (padded width * padded height) [])) None in
    ap found t
no_plane false inter reference width height w h =
    let count : 2 * 2 ≤ blocks_across width * blocks_across height = mul-le-mul {n₁ = 2} {m₁ = 2} (omega arith) (omega arith) in
    by_count (block_count width height) (omega arith)
  where
    by_count : (n : ℕ) → 0 < n → decoded_from reference width height (blocks_from n inter n []) ≡ None
    by_count zero h = absurd (omega arith)
    by_count (suc n) h = refl

no_planes : (raw : List Bool) (inter : Bool) (reference : List (List ℕ)) (layout : Layout) (width height : ℕ) → 16 ≤ width → 16 ≤ height → planes_from raw inter reference (shapes_of layout width height) [] ≡ None
no_planes raw inter reference Grey width height w h =
    ap (λ o. after_plane o (λ rest. planes_from (drop 1 raw) inter (drop 1 reference) [] rest)) (no_plane (get_or raw 0 false) inter (get_or reference 0 []) width height w h)
no_planes raw inter reference C420 width height w h =
    ap (λ o. after_plane o (λ rest. planes_from (drop 1 raw) inter (drop 1 reference) ((width / 2, height / 2) ∷ (width / 2, height / 2) ∷ []) rest)) (no_plane (get_or raw 0 false) inter (get_or reference 0 []) width height w h)
no_planes raw inter reference C422 width height w h =
    ap (λ o. after_plane o (λ rest. planes_from (drop 1 raw) inter (drop 1 reference) ((width / 2, height) ∷ (width / 2, height) ∷ []) rest)) (no_plane (get_or raw 0 false) inter (get_or reference 0 []) width height w h)

pub empty_body_is_illegal : (limit : ℕ) (h : Header) (reference : List (List ℕ)) → is_legal limit h ≡ true → body_planes h reference [] ≡ None
unfolding body_planes
empty_body_is_illegal limit h reference legal =
    let sizes = least_sizes limit h legal in
    ap (λ o. if_complete o) (no_planes h.raw (not h.key) reference h.geometry.layout h.geometry.width h.geometry.height sizes.0 sizes.1)

-- a frame has a legal header, and one that is known with it has no body
abbrev IsFrame : ℕ → Frame → Type 0
IsFrame limit f = (is_legal limit f.header ≡ true) × (f.known ≡ f.position + 44 → f.body ≡ Some [])

frames_are : (t limit c : ℕ) (bytes : List ℕ) → All (IsFrame limit) (places_from t limit c bytes).frames
frames_are zero limit c bytes = All-nil (IsFrame limit)
frames_are (suc t) limit c bytes = by_look (look limit bytes) (seen limit bytes) (λ n. frames_are t limit (c + n) (drop n bytes))
  where
    by_look : (l : Look) → Seen limit bytes l → ((n : ℕ) → All (IsFrame limit) (places_from t limit (c + n) (drop n bytes)).frames) → All (IsFrame limit) (places_at c bytes (λ n. places_from t limit (c + n) (drop n bytes)) l).frames
    by_look nothing s next = All-nil (IsFrame limit)
    by_look (begun at) s next = All-nil (IsFrame limit)
    by_look (no_header at) s next = next (at + 8)
    by_look (unended at h) s next = All-nil (IsFrame limit)
    by_look (cut at h inner) s next =
        All-cons (IsFrame limit) (record { position = c + at; end = c + inner; header = h; body = None; known = c + inner + 8 }) (places_from t limit (c + inner) (drop inner bytes)).frames
        (((headers_read limit (take 44 (drop at bytes)) h).0 s.2).0, λ e. absurd (omega (arith, e, s.3))) (next inner)
    by_look (whole at h body) s next =
        All-cons (IsFrame limit)
        (record { position = c + at; end = c + at + 44 + h.size; header = h; body = Some body; known = c + at + 44 + h.size })
        (places_from t limit (c + (at + 44 + h.size - 7)) (drop (at + 44 + h.size - 7) bytes)).frames
        (((headers_read limit (take 44 (drop at bytes)) h).0 s.2).0, λ e. none e) (next (at + 44 + h.size - 7))
      where
        none : c + at + 44 + h.size ≡ c + at + 44 → Some body ≡ Some []
        none e = let zero_size : h.size ≡ 0 = omega arith in ap (λ t. Some t) (s.4 ∙ ap (λ n. take n (drop 44 (drop at bytes))) zero_size)

-- a frame that is known with its header gives no picture
no_picture : (limit : ℕ) (f : Frame) (now : BetweenFrames) → IsFrame limit f → f.known ≡ f.position + 44 → picture_planes f now ≡ None
no_picture limit f now is e =
    ap (λ b. elim b as (λ _. Option (List (List ℕ))) [ None ↦ None | Some body ↦ cond (f.header.key || is_present now.geometry f.header.geometry) (frame_planes f.header now.reference body) None ]) (is.1 e)
    ∙ by_test (f.header.key || is_present now.geometry f.header.geometry) (f.header.key || follows_reference f.header now.reference)
  where
    by_test : (b b' : Bool) → cond b (cond b' (body_planes f.header (reference_planes now.reference) []) None) None ≡ None
    by_test true true = empty_body_is_illegal limit f.header (reference_planes now.reference) is.0
    by_test true false = refl
    by_test false b' = refl

-- the results of frames, by the order of these
abbrev pub just_results : List GivenResult → List FrameResult
just_results gs = map (λ (g : GivenResult). g.result) gs

abbrev IsAfter : ℕ → List FrameResult → Type 0
IsAfter n [] = Unit {0}
IsAfter n (r ∷ later) = n < r.known

-- the result at the end of a frame, with others behind it
end_ordered : (f : Frame) (now : BetweenFrames) (o : Option (List (List ℕ))) (later : List FrameResult) → f.position + 44 ≤ f.known → IsAfter f.known later → AreOrdered later → AreOrdered ((given_by f now o).result ∷ later)
end_ordered f now None [] known after ordered = (known, tt, ordered)
end_ordered f now None (r ∷ later) known after ordered = (known, after, ordered)
end_ordered f now (Some planes) [] known after ordered = (known, tt, ordered)
end_ordered f now (Some planes) (r ∷ later) known after ordered = (known, after, ordered)

-- a change in front of the other result of its frame
change_next :
    (limit : ℕ) (f : Frame) (now : BetweenFrames) (o : Option (List (List ℕ))) → IsFrame limit f → picture_planes f now ≡ o
    → f.position + 44 ≤ f.known → IsNext (Changed f.header.geometry) f.position (f.position + 44) (given_by f now o).result
change_next limit f now None is e known =
    (refl, tt, elim (cases_lt (f.position + 44) f.known) [ inl h ↦ inl h | inr h ↦ inr (omega arith, refl) ])
change_next limit f now (Some planes) is e known =
    (refl, tt, elim (cases_lt (f.position + 44) f.known) [ inl h ↦ inl h | inr h ↦ let clash : None ≡ Some planes = sym (no_picture limit f now is (omega arith)) ∙ e in absurd cc ])

abbrev Ordered : ℕ → List FrameResult → Type 0
Ordered m rs = ((n : ℕ) → n < m + 36 → IsAfter n rs) × AreOrdered rs

header_ordered : (m : ℕ) (position : ℕ) (h : Header) (now : BetweenFrames) → m ≤ position + 8 → Ordered m (just_results (given_at_header position h now))
header_ordered m position h now o = by_test (is_change h now.geometry)
  where
    by_test : (b : Bool) → Ordered m (just_results (cond b (record { result = record { position = position; known = position + 44; kind = Changed h.geometry }; present = record { geometry = Some h.geometry; reference = None } } ∷ []) []))
    by_test true = (λ n k. omega arith, (refl, tt, tt))
    by_test false = (λ n k. tt, tt)

frame_ordered : (limit m : ℕ) (f : Frame) (now : BetweenFrames) (rest : List GivenResult) → IsFrame limit f → m ≤ f.position + 8 → f.position + 44 ≤ f.known → Ordered f.known (just_results rest) →
    Ordered m (just_results (given_at_header f.position f.header now ++ given_at_end f (present_after_header f.header now) ∷ rest))
frame_ordered limit m f now rest is o known later = by_test (is_change f.header now.geometry) (present_after_header f.header now)
  where
    end_first : (now : BetweenFrames) → Ordered m (just_results (given_at_end f now ∷ rest))
    end_first now = (
      λ n k. known_is (picture_planes f now) n k,
      end_ordered f now (picture_planes f now) (just_results rest) known (later.0 f.known (omega arith)) later.1,
    )
      where
        known_is : (p : Option (List (List ℕ))) (n : ℕ) → n < m + 36 → n < (given_by f now p).result.known
        known_is None n k = omega arith
        known_is (Some planes) n k = omega arith

    by_test :
        (b : Bool) (now' : BetweenFrames)
        → Ordered m
        (just_results
        (cond b
        (record { result = record { position = f.position; known = f.position + 44; kind = Changed f.header.geometry }; present = record { geometry = Some f.header.geometry; reference = None } } ∷ [])
        []
        ++ given_at_end f now' ∷ rest))
    by_test true now' = (λ n k. omega arith, (refl, change_next limit f now' (picture_planes f now') is refl known, (end_first now').1))
    by_test false now' = end_first now'

then_ordered :
    (b : Bool) (limit m : ℕ) (f : Frame) (now : BetweenFrames) (rest : BetweenFrames → List GivenResult) → IsFrame limit f → m ≤ f.position + 8
    → f.position + 44 ≤ f.known → ((p : BetweenFrames) → Ordered f.known (just_results (rest p))) →
    Ordered m (just_results (given_then b f now rest))
then_ordered true limit m f now rest is o known later = (λ n k. (later now).0 n (omega arith), (later now).1)
then_ordered false limit m f now rest is o known later = frame_ordered limit m f now (rest (given_at_end f (present_after_header f.header now)).present) is o known (later (given_at_end f (present_after_header f.header now)).present)

frames_ordered : (limit m : ℕ) (fs : List Frame) (u : Option OpenFrame) (now : BetweenFrames) → All (IsFrame limit) fs → InOrder m fs u → Ordered m (just_results (given_in_frames fs u now))
frames_ordered limit m [] None now is o = (λ n k. tt, tt)
frames_ordered limit m [] (Some f) now is o = header_ordered m f.position f.header now o
frames_ordered limit m (f ∷ fs) u now is o =
    then_ordered (is_passed_over f.header now.reference) limit m f now (λ p. given_in_frames fs u p) (All-head (IsFrame limit) f fs is) o.0 o.1 (λ p. frames_ordered limit f.known fs u p (All-tail (IsFrame limit) f fs is) o.2)

pub results_are_ordered : ResultsAreOrdered
unfolding results given_in places
results_are_ordered limit g r bytes =
    (frames_ordered limit 0 (places bytes limit).frames (places bytes limit).unfinished (record { geometry = g; reference = r })
    (frames_are (length bytes + 1) limit 0 bytes) (in_order (length bytes + 1) limit 0 bytes 0 (λ at e. omega arith))).1

-- what finds in a row give
pub by_finds_append : (xs ys : List Find) (now : BetweenFrames) → given_by_finds (xs ++ ys) now ≡ given_by_finds xs now ++ given_by_finds ys (present_after now (given_by_finds xs now))
by_finds_append [] ys now = refl
by_finds_append (x ∷ xs) ys now =
    ap (λ t. given_by_find x now ++ t) (by_finds_append xs ys (present_after now (given_by_find x now)))
    ∙ sym
    (append_assoc (given_by_find x now) (given_by_finds xs (present_after now (given_by_find x now)))
    (given_by_finds ys (present_after (present_after now (given_by_find x now)) (given_by_finds xs (present_after now (given_by_find x now))))))
    ∙ ap (λ p. (given_by_find x now ++ given_by_finds xs (present_after now (given_by_find x now))) ++ given_by_finds ys p) (sym (present_append now (given_by_find x now) (given_by_finds xs (present_after now (given_by_find x now)))))

-- a result is known with its find
pub all_of_finds : (P : ℕ → Type 0) (xs : List Find) (now : BetweenFrames) → All (λ f. P (known_at f)) xs → All (λ (g : GivenResult). P g.result.known) (given_by_finds xs now)
all_of_finds P [] now h = All-nil (λ (g : GivenResult). P g.result.known)
all_of_finds P (x ∷ xs) now h =
    All-append (λ (g : GivenResult). P g.result.known) (given_by_find x now) (given_by_finds xs (present_after now (given_by_find x now)))
    (one x (All-head (λ f. P (known_at f)) x xs h))
    (all_of_finds P xs (present_after now (given_by_find x now)) (All-tail (λ f. P (known_at f)) x xs h))
  where
    ended : (f : Frame) (o : Option (List (List ℕ))) → P f.known → P (given_by f now o).result.known
    ended f None h = h
    ended f (Some planes) h = h

    by_test :
        (position : ℕ) (h : Header) (b : Bool) → P (position + 44)
        → All (λ (g : GivenResult). P g.result.known)
        (cond b (record { result = record { position = position; known = position + 44; kind = Changed h.geometry }; present = record { geometry = Some h.geometry; reference = None } } ∷ []) [])
    by_test position h true p =
        All-cons (λ (g : GivenResult). P g.result.known)
        (record { result = record { position = position; known = position + 44; kind = Changed h.geometry }; present = record { geometry = Some h.geometry; reference = None } })
        [] p (All-nil (λ (g : GivenResult). P g.result.known))
    by_test position h false p = All-nil (λ (g : GivenResult). P g.result.known)

    by_end : (f : Frame) (b : Bool) → P f.known → All (λ (g : GivenResult). P g.result.known) (cond b [] (given_at_end f now ∷ []))
    by_end f true p = All-nil (λ (g : GivenResult). P g.result.known)
    by_end f false p = All-cons (λ (g : GivenResult). P g.result.known) (given_at_end f now) [] (ended f (picture_planes f now) p) (All-nil (λ (g : GivenResult). P g.result.known))

    one : (x : Find) → P (known_at x) → All (λ (g : GivenResult). P g.result.known) (given_by_find x now)
    one (Head position h) p = by_test position h (is_change h now.geometry) p
    one (Ended f) p = by_end f (is_passed_over f.header now.reference) p

pub results_stay : ResultsStay
results_stay limit g r bytes more =
    let now : BetweenFrames = record { geometry = g; reference = r } in
    let s = finds_stay limit bytes more in (
      given_by_finds s.0 (present_after now (given_by_finds (finds bytes limit) now)),
      (
        results_are_of_finds limit g r (bytes ++ more)
            ∙ ap (λ fs. given_by_finds fs now) s.1.0
            ∙ by_finds_append (finds bytes limit) s.0 now
            ∙ ap (λ t. t ++ given_by_finds s.0 (present_after now (given_by_finds (finds bytes limit) now))) (sym (results_are_of_finds limit g r bytes)),
        all_of_finds (λ n. length bytes < n) s.0 (present_after now (given_by_finds (finds bytes limit) now)) s.1.1,
      ),
    )

pub all_inside : (limit : ℕ) (bytes : List ℕ) → All (λ f. known_at f ≤ length bytes) (finds bytes limit)
unfolding finds places
all_inside limit bytes =
    all_weaker (λ f. known_at f ≤ 0 + length bytes) (λ f. known_at f ≤ length bytes) (finds_of (places_from (length bytes + 1) limit 0 bytes)) (λ f h. omega (arith, h)) (finds_inside (length bytes + 1) limit 0 bytes)

pub results_are_inside : ResultsAreInside
results_are_inside limit g r bytes =
    subst (λ (gs : List GivenResult). All (λ (f : GivenResult). f.result.known ≤ length bytes) gs) (sym (results_are_of_finds limit g r bytes))
    (all_of_finds (λ n. n ≤ length bytes) (finds bytes limit) (record { geometry = g; reference = r }) (all_inside limit bytes))
