-- What a decoder gives in a run is no longer than the longest buffer, in whatever format it is taken: each frame has a legal
-- header, the planes of a picture have the sizes that its header says, and no format has more bytes than two for each sample of
-- the first plane.
use Rattle.std.proofs.Common.{◌≡◌, refl, ℕ, zero, suc, ◌+◌, ◌-◌, ◌*◌, ◌/◌, ◌%◌, ◌≤◌, List, [], ◌∷◌, ◌++◌, length, take, drop, get_or, map, arith, length-append}
use Rattle.std.specs.Prelude.{Bool, true, false, ◌&&◌, ◌||◌, nat_le, cond}
use Rattle.std.specs.List.{All, flat_map, range_with_len}
use Rattle.std.specs.declared.option.Option.{Option}
use Rattle.std.specs.declared.option.Option.TheVariants.{Some, None}
use Rattle.std.proofs.lemmas.Bool.{and_parts}
use Rattle.std.proofs.lemmas.Bool.Decides.{nat_tests}
use Rattle.std.proofs.lemmas.Option.{none-some}
use Rattle.std.proofs.lemmas.List.FromFn.{length-map-range_with_len}
use Rattle.std.proofs.lemmas.List.Elements.{All-nil, All-cons, All-head, All-tail}
use Rattle.vc_base.specs.declared.Stamp.{Stamp}
use Rattle.vc_base.specs.declared.Fourcc.{Fourcc}
use Rattle.vc_base.specs.Limits.{most_bytes, longest_buffer}
use Rattle.vc_defs.specs.declared.Layout.{Layout}
use Rattle.vc_defs.specs.declared.Layout.TheVariants.{Grey, C420, C422}
use Rattle.vc_defs.specs.declared.Geometry.{Geometry}
use Rattle.vc_defs.specs.declared.Header.{Header}
use Rattle.vc_defs.specs.Headers.{is_legal, is_legal_geometry, is_legal_size, size_suits, raw_suits, is_legal_number, is_whole_header}
use Rattle.vc_defs.specs.Bodies.{shapes_of, body_planes}
use Rattle.vc_defs.specs.Raw.{yuyv, nv12, same_fourcc, raw_of, in_turns, packed_sample, sample_at}
use Rattle.vc_defs.specs.Places.{Look, nothing, begun, no_header, unended, cut, whole, look, Frame, OpenFrame, places_at, places_from, places}
use Rattle.vc_defs.specs.Decoder.{ReferenceState, ResultKind, Picture, Damaged, Changed, GivenResult, BetweenFrames, is_change, is_passed_over, is_present}
use Rattle.vc_defs.specs.Decoder.{follows_reference, frame_planes, picture_planes, given_by, given_at_header, given_at_end, given_then, given_in_frames, given_in}
use Rattle.vc_defs.specs.Decoder.{present_after_header, reference_planes, outcome_of, DecoderState, decoded_by, decode, step_outcome}
use Rattle.vc_defs.proofs.HeadersAreRead.{headers_read}
use Rattle.vc_defs.proofs.DecodedIsPicture.{decoded_is_picture}
use Rattle.vc_defs.proofs.FindsInOrder.{Seen, seen}
use Rattle.vc_model.specs.Wire.{outcome_bytes}
use Rattle.vc_wire_laws.proofs.FramesAreShort.{product_small}

-- Sizes of a legal header's picture

abbrev IsSmall : Geometry → Type 0
IsSmall g = (g.width ≤ 4096) × (g.height ≤ 2160)

legal_small : (limit : ℕ) (h : Header) → is_legal limit h ≡ true → IsSmall h.geometry
unfolding is_legal
legal_small limit h e =
    let a = and_parts (is_legal_geometry h.geometry && raw_suits h.geometry.layout h.raw && nat_le h.size most_bytes && nat_le h.size limit && is_legal_number h.number) (is_whole_header h) e in
    let b = and_parts (is_legal_geometry h.geometry && raw_suits h.geometry.layout h.raw && nat_le h.size most_bytes && nat_le h.size limit) (is_legal_number h.number) a.0 in
    let c = and_parts (is_legal_geometry h.geometry && raw_suits h.geometry.layout h.raw && nat_le h.size most_bytes) (nat_le h.size limit) b.0 in
    let d = and_parts (is_legal_geometry h.geometry && raw_suits h.geometry.layout h.raw) (nat_le h.size most_bytes) c.0 in
    let f = and_parts (is_legal_geometry h.geometry) (raw_suits h.geometry.layout h.raw) d.0 in
    let g = and_parts (is_legal_size h.geometry.width h.geometry.height) (size_suits h.geometry.layout h.geometry.width h.geometry.height) f.0 in
    let i = and_parts (nat_le 16 h.geometry.width && nat_le h.geometry.width 4096 && nat_le 16 h.geometry.height) (nat_le h.geometry.height 2160) g.0 in
    let j = and_parts (nat_le 16 h.geometry.width && nat_le h.geometry.width 4096) (nat_le 16 h.geometry.height) i.0 in
    let k = and_parts (nat_le 16 h.geometry.width) (nat_le h.geometry.width 4096) j.0 in
    let w : nat_le h.geometry.width 4096 ≡ true = k.1 in
    let l : nat_le h.geometry.height 2160 ≡ true = i.1 in
    (grind (arith, nat_tests), grind (arith, nat_tests))

frames_small : (t limit c : ℕ) (bytes : List ℕ) → All (λ (f : Frame). IsSmall f.header.geometry) (places_from t limit c bytes).frames
frames_small zero limit c bytes = All-nil (λ (f : Frame). IsSmall f.header.geometry)
frames_small (suc t) limit c bytes = by_look (look limit bytes) (seen limit bytes) (λ n. frames_small t limit (c + n) (drop n bytes))
  where
    by_look :
        (l : Look) → Seen limit bytes l → ((n : ℕ) → All (λ (f : Frame). IsSmall f.header.geometry) (places_from t limit (c + n) (drop n bytes)).frames)
        → All (λ (f : Frame). IsSmall f.header.geometry) (places_at c bytes (λ n. places_from t limit (c + n) (drop n bytes)) l).frames
    by_look nothing s next = All-nil (λ (f : Frame). IsSmall f.header.geometry)
    by_look (begun at) s next = All-nil (λ (f : Frame). IsSmall f.header.geometry)
    by_look (no_header at) s next = next (at + 8)
    by_look (unended at h) s next = All-nil (λ (f : Frame). IsSmall f.header.geometry)
    by_look (cut at h inner) s next =
        All-cons (λ (f : Frame). IsSmall f.header.geometry)
        (record { position = c + at; end = c + inner; header = h; body = None; known = c + inner + 8 }) (places_from t limit (c + inner) (drop inner bytes)).frames
        (legal_small limit h ((headers_read limit (take 44 (drop at bytes)) h).0 s.2).0) (next inner)
    by_look (whole at h body) s next =
        All-cons (λ (f : Frame). IsSmall f.header.geometry)
        (record { position = c + at; end = c + at + 44 + h.size; header = h; body = Some body; known = c + at + 44 + h.size })
        (places_from t limit (c + (at + 44 + h.size - 7)) (drop (at + 44 + h.size - 7) bytes)).frames
        (legal_small limit h ((headers_read limit (take 44 (drop at bytes)) h).0 s.2).0) (next (at + 44 + h.size - 7))

-- Pictures

-- the planes have few samples: the first one, each further one, and all
record AreFew (planes : List (List ℕ)) : Type 0 where
  luma : length (get_or planes 0 []) ≤ 4096 * 2160
  chroma : length (get_or planes 1 []) ≤ 2048 * 2160
  all : length (flat_map (λ plane. plane) planes) ≤ most_bytes

few_planes :
    (layout : Layout) (width height : ℕ) (planes : List (List ℕ)) → width ≤ 4096 → height ≤ 2160
    → map length planes ≡ map (λ (shape : ℕ × ℕ). shape.0 * shape.1) (shapes_of layout width height) → AreFew planes
few_planes Grey width height [] w h e = absurd cc
few_planes Grey width height (y ∷ []) w h e =
    let long : length y ≡ width * height = cc in
    let luma : width * height ≤ 4096 * 2160 = product_small width height 4096 2160 w h in
    let all : length (y ++ []) ≤ most_bytes = omega (arith, length-append y [], long, luma) in
    record { luma = omega arith; chroma = omega arith; all = all }
few_planes Grey width height (y ∷ u ∷ planes) w h e = absurd cc
few_planes C420 width height [] w h e = absurd cc
few_planes C420 width height (y ∷ []) w h e = absurd cc
few_planes C420 width height (y ∷ u ∷ []) w h e = absurd cc
few_planes C420 width height (y ∷ u ∷ v ∷ []) w h e =
    let long : length y ≡ width * height = cc in
    let first : length u ≡ width / 2 * (height / 2) = cc in
    let second : length v ≡ width / 2 * (height / 2) = cc in
    let luma : width * height ≤ 4096 * 2160 = product_small width height 4096 2160 w h in
    let chroma : width / 2 * (height / 2) ≤ 2048 * 1080 = product_small (width / 2) (height / 2) 2048 1080 (omega arith) (omega arith) in
    let all : length (y ++ (u ++ (v ++ []))) ≤ most_bytes =
    omega (arith, length-append y (u ++ (v ++ [])), length-append u (v ++ []), length-append v [], long, first, second, luma, chroma) in
    record { luma = omega arith; chroma = omega arith; all = all }
few_planes C420 width height (y ∷ u ∷ v ∷ x ∷ planes) w h e = absurd cc
few_planes C422 width height [] w h e = absurd cc
few_planes C422 width height (y ∷ []) w h e = absurd cc
few_planes C422 width height (y ∷ u ∷ []) w h e = absurd cc
few_planes C422 width height (y ∷ u ∷ v ∷ []) w h e =
    let long : length y ≡ width * height = cc in
    let first : length u ≡ width / 2 * height = cc in
    let second : length v ≡ width / 2 * height = cc in
    let luma : width * height ≤ 4096 * 2160 = product_small width height 4096 2160 w h in
    let chroma : width / 2 * height ≤ 2048 * 2160 = product_small (width / 2) height 2048 2160 (omega arith) h in
    let all : length (y ++ (u ++ (v ++ []))) ≤ most_bytes =
    omega (arith, length-append y (u ++ (v ++ [])), length-append u (v ++ []), length-append v [], long, first, second, luma, chroma) in
    record { luma = omega arith; chroma = omega arith; all = all }
few_planes C422 width height (y ∷ u ∷ v ∷ x ∷ planes) w h e = absurd cc

raw_short : (fourcc : Fourcc) (planes : List (List ℕ)) → AreFew planes → length (raw_of fourcc planes) ≤ most_bytes
unfolding raw_of
raw_short fourcc planes few = by_format (same_fourcc fourcc yuyv) (same_fourcc fourcc nv12)
  where
    by_format :
        (packed turns : Bool)
        → length
        (cond packed (map (packed_sample planes) (range_with_len 0 (2 * length (get_or planes 0 []))))
        (cond turns (get_or planes 0 [] ++ in_turns planes (2 * length (get_or planes 1 []))) (flat_map (λ plane. plane) planes)))
        ≤ most_bytes
    by_format true turns = omega (arith, length-map-range_with_len (packed_sample planes) 0 (2 * length (get_or planes 0 [])), few.luma)
    by_format false true =
        omega (
          arith,
          length-append (get_or planes 0 []) (in_turns planes (2 * length (get_or planes 1 []))),
          length-map-range_with_len (λ k. sample_at planes (1 + k % 2) (k / 2)) 0 (2 * length (get_or planes 1 [])),
          few.luma,
          few.chroma,
        )
    by_format false false = few.all

-- Results

abbrev IsShort : ResultKind → Type 0
IsShort (Picture geometry key planes) = AreFew planes
IsShort Damaged = Unit {0}
IsShort (Changed geometry) = Unit {0}

end_short : (f : Frame) (now : BetweenFrames) (o : Option (List (List ℕ))) → ((planes : List (List ℕ)) → o ≡ Some planes → AreFew planes) → IsShort (given_by f now o).result.kind
end_short f now None h = tt
end_short f now (Some planes) h = h planes refl

few_read : (h : Header) (reference planes : List (List ℕ)) (body : List ℕ) → IsSmall h.geometry → body_planes h reference body ≡ Some planes → AreFew planes
few_read h reference planes body small e =
    few_planes h.geometry.layout h.geometry.width h.geometry.height planes small.0 small.1 (decoded_is_picture h reference body planes e).0

few_there : (f : Frame) (now : BetweenFrames) (planes : List (List ℕ)) → IsSmall f.header.geometry → picture_planes f now ≡ Some planes → AreFew planes
few_there f now planes small e = by_body f.body e
  where
    by_test : (body : List ℕ) (b b' : Bool) → cond b (cond b' (body_planes f.header (reference_planes now.reference) body) None) None ≡ Some planes → AreFew planes
    by_test body true true e = few_read f.header (reference_planes now.reference) planes body small e
    by_test body true false e = absurd (none-some planes e)
    by_test body false b' e = absurd (none-some planes e)

    by_body :
        (o : Option (List ℕ))
        → elim o as (λ _. Option (List (List ℕ))) [ None ↦ None | Some body ↦ cond (f.header.key || is_present now.geometry f.header.geometry) (frame_planes f.header now.reference body) None ] ≡ Some planes
        → AreFew planes
    by_body None e = absurd (none-some planes e)
    by_body (Some body) e = by_test body (f.header.key || is_present now.geometry f.header.geometry) (f.header.key || follows_reference f.header now.reference) e

-- the first result, if there is one
abbrev FirstIsShort : List GivenResult → Type 0
FirstIsShort [] = Unit {0}
FirstIsShort (r ∷ later) = IsShort r.result.kind

header_short : (p : ℕ) (h : Header) (now : BetweenFrames) (later : List GivenResult) → FirstIsShort later → FirstIsShort (given_at_header p h now ++ later)
header_short p h now later first = by_test (is_change h now.geometry)
  where
    by_test :
        (b : Bool)
        → FirstIsShort
        (cond b (record { result = record { position = p; known = p + 44; kind = Changed h.geometry }; present = record { geometry = Some h.geometry; reference = None } } ∷ []) [] ++ later)
    by_test true = tt
    by_test false = first

first_short : (fs : List Frame) (u : Option OpenFrame) (now : BetweenFrames) → All (λ (f : Frame). IsSmall f.header.geometry) fs → FirstIsShort (given_in_frames fs u now)
first_short [] None now small = tt
first_short [] (Some f) now small = by_test (is_change f.header now.geometry)
  where
    by_test :
        (b : Bool)
        → FirstIsShort
        (cond b
        (record { result = record { position = f.position; known = f.position + 44; kind = Changed f.header.geometry }; present = record { geometry = Some f.header.geometry; reference = None } } ∷ [])
        [])
    by_test true = tt
    by_test false = tt
first_short (f ∷ fs) u now small =
    by_test (is_passed_over f.header now.reference) (first_short fs u now (All-tail (λ (f : Frame). IsSmall f.header.geometry) f fs small))
  where
    by_test : (b : Bool) → FirstIsShort (given_in_frames fs u now) → FirstIsShort (given_then b f now (λ later. given_in_frames fs u later))
    by_test true later = later
    by_test false later =
        let then = present_after_header f.header now in
        let last = given_at_end f then in
        header_short f.position f.header now (last ∷ given_in_frames fs u last.present)
        (end_short f then (picture_planes f then) (λ planes e. few_there f then planes (All-head (λ (f : Frame). IsSmall f.header.geometry) f fs small) e))

given_short : (bytes : List ℕ) (limit : ℕ) (g : Option Geometry) (r : Option ReferenceState) → FirstIsShort (given_in bytes limit g r)
unfolding given_in places
given_short bytes limit g r =
    let p = places bytes limit in
    first_short p.frames p.unfinished (record { geometry = g; reference = r }) (frames_small (length bytes + 1) limit 0 bytes)

outcome_short : (fourcc : Fourcc) (kind : ResultKind) (stamp : Stamp) → IsShort kind → length (outcome_bytes (outcome_of fourcc kind stamp)) ≤ longest_buffer
outcome_short fourcc (Picture geometry key planes) stamp few = let l = raw_short fourcc planes few in omega arith
outcome_short fourcc Damaged stamp few = omega arith
outcome_short fourcc (Changed geometry) stamp few = omega arith

step_short :
    (fourcc : Fourcc) (s : DecoderState) (limit : ℕ) (bytes : List ℕ) (stamp : Stamp) (given : List GivenResult) → FirstIsShort given
    → length (outcome_bytes (step_outcome fourcc (decoded_by s limit bytes stamp given))) ≤ longest_buffer
step_short fourcc s limit bytes stamp [] first = omega arith
step_short fourcc s limit bytes stamp (r ∷ later) first = outcome_short fourcc r.result.kind (decoded_by s limit bytes stamp (r ∷ later)).stamp first

pub picture_short :
    (fourcc : Fourcc) (s : DecoderState) (g : Option Geometry) (limit : ℕ) (source : List ℕ) (stamp : Stamp)
    → length (outcome_bytes (step_outcome fourcc (decode s g limit source stamp))) ≤ longest_buffer
unfolding decode
picture_short fourcc s g limit source stamp =
    step_short fourcc s limit (s.tail ++ source) stamp (given_in (s.tail ++ source) limit g s.reference) (given_short (s.tail ++ source) limit g s.reference)
