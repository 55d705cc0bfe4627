-- After the runs of a segment a decoder stands where the sequential decoder does after the same bytes and so many of
-- its results, and after one run more again. This is the law of resuming of the coded format, said of the buffers of
-- a slot: their bytes behind one another, each with the stamp of its buffer.
use Rattle.std.proofs.Common.{ℕ, zero, suc, ◌≡◌, ◌≤◌, ◌<◌, ◌+◌, ◌-◌, get_or, Bool, true, false, cond, Option, Some, None, List, [], ◌∷◌, ◌++◌, length, take, drop, map, replicate, refl, sym, ap, ◌∙◌, subst, arith, length-append, ⊎_elim}
use Rattle.std.specs.Prelude.{option_map}
use Rattle.std.specs.List.{All, filter}
use Rattle.std.proofs.lemmas.Bool.{false≢true}
use Rattle.std.proofs.lemmas.List.{append_assoc, map-append, take-append-drop, take-append-le, drop-append-le, length-take-le, length-replicate, length-drop, drop-map, get_or_append_left, replicate-append-replicate}
use Rattle.std.proofs.lemmas.List.Elements.{All-nil, All-push, All-head, All-drop}
use Rattle.std.proofs.Math.Seq.{take-length}
use Rattle.vc_base.specs.declared.Stamp.{Stamp}
use Rattle.vc_base.specs.declared.Fourcc.{Fourcc}
use Rattle.vc_base.specs.Buffers.{zero_stamp}
use Rattle.vc_defs.specs.declared.Geometry.{Geometry}
use Rattle.vc_defs.specs.Places.{places, look}
use Rattle.vc_defs.specs.Decoder.{FrameResult, ResultKind, Picture, Damaged, Changed, GivenResult, DecoderState, fresh_decoder, DecodedStep, decode, geometry_after, moved_result, given_in, results}
use Rattle.vc_defs.specs.Laws.{Resuming, IsReached, TellsNext, from_start, present_at, state_at, given_after, AreOrdered, IsNextIfAny, IsKnownRight}
use Rattle.vc_defs.proofs.ResultsInOrder.{results_are_ordered, results_stay, results_are_inside}
use Rattle.vc_model.specs.Coder.{CodecState, decoder}
use Rattle.vc_defs.specs.Outputs.{is_change_result}
use Rattle.vc_laws.specs.Segments.{SegmentResult, with_result, gave_change}
use Rattle.vc_laws.specs.Following.{is_picture, is_picture_kind}

-- each result has the stamp of the byte at its position, which is one of the segment's
abbrev pub IsStamped : List Stamp → SegmentResult → Type 0
IsStamped stamps x = (x.what.position < length stamps) × (x.stamp ≡ get_or stamps x.what.position zero_stamp)

abbrev result_of : GivenResult → FrameResult
result_of f = f.result

abbrev what_of : SegmentResult → FrameResult
what_of x = x.what

-- The decoder stands where the sequential decoder does after the segment's bytes and so many of its results.
pub record IsStanding (limit : ℕ) (g : Option Geometry) (bytes : List ℕ) (stamps : List Stamp) (found : List SegmentResult) (given : Bool) (codec : CodecState) (geometry : Option Geometry) : Type 0 where
  pub lengths : length stamps ≡ length bytes
  pub reaches : IsReached bytes limit g (length found)
  pub state : codec ≡ decoder (state_at bytes stamps limit g (length found))
  pub present : geometry ≡ (present_at bytes limit g (length found)).geometry
  pub what : map what_of found ≡ map result_of (take (length found) (from_start bytes limit g))
  pub all : given ≡ true → drop (length found) (from_start bytes limit g) ≡ []
  pub rest : filter is_picture (map result_of (drop (length found) (from_start bytes limit g))) ≡ []
  pub stamped : All (IsStamped stamps) found

-- Lists

list_of : {A : Type 0} → (xs zs : List A) (x : A) (later : List A) → 1 ≤ length xs → xs ++ zs ≡ x ∷ later → (ys : List A) × (xs ≡ x ∷ ys)
list_of [] zs x later l e = absurd (omega arith)
list_of (y ∷ ys) zs x later l e = (ys, (let q : y ≡ x = cc in ap (λ w. w ∷ ys) q))

-- the entry with the number n, and what is behind it
split_at : {A : Type 0} → (n : ℕ) (xs ys : List A) (x : A) → drop n xs ≡ x ∷ ys → (take (suc n) xs ≡ take n xs ++ x ∷ []) × (drop (suc n) xs ≡ ys)
split_at zero [] ys x e = absurd (cc)
split_at zero (z ∷ zs) ys x e = (let q : z ≡ x = cc in ap (λ w. w ∷ []) q, cc)
split_at (suc n) [] ys x e = absurd (cc)
split_at (suc n) (z ∷ zs) ys x e = let h = split_at n zs ys x e in (ap (λ l. z ∷ l) h.0, h.1)

ordered_drop : (n : ℕ) (rs : List FrameResult) → AreOrdered rs → AreOrdered (drop n rs)
ordered_drop zero rs o = o
ordered_drop (suc n) [] o = tt
ordered_drop (suc n) (r ∷ rs) o = ordered_drop n rs o.2

-- What is behind a result that is known at the last byte

damaged_last : (y : GivenResult) (zs : List GivenResult) (known : ℕ) → y.result.kind ≡ Damaged → AreOrdered (map result_of (y ∷ zs)) → All (λ (f : GivenResult). f.result.known ≡ known) (y ∷ zs) → zs ≡ []
damaged_last y [] known d o h = refl
damaged_last y (z ∷ zs) known d o h =
    let a = h 0 y (omega arith) in
    let b = h 1 y (omega arith) in
    let l : y.result.known < z.result.known = subst (λ k. IsNextIfAny (record { position = y.result.position; known = y.result.known; kind = k }) (map result_of (z ∷ zs))) d o.1 in
    absurd (omega arith)

behind :
    (kind : ResultKind) (position known last : ℕ) (ys : List GivenResult)
    → IsNextIfAny (record { position = position; known = known; kind = kind }) (map result_of ys) → AreOrdered (map result_of ys)
    → All (λ (f : GivenResult). f.result.known ≡ last) ys → known ≡ last
    → (is_change_result kind ≡ false → ys ≡ []) × (filter is_picture (map result_of ys) ≡ [])
behind kind position known last [] n o h e = (λ c. refl, refl)
behind (Picture geometry key planes) position known last (y ∷ ys) n o h e =
    let a = h 0 y (omega arith) in absurd (omega (arith, n))
behind Damaged position known last (y ∷ ys) n o h e = let a = h 0 y (omega arith) in absurd (omega (arith, n))
behind (Changed geometry) position known last (y ∷ ys) n o h e =
    ⊎_elim (λ (l : known < y.result.known). let a = h 0 y (omega arith) in absurd (omega arith))
    (λ (d : (known ≡ y.result.known) × (y.result.kind ≡ Damaged)). (
      λ (c : true ≡ false). absurd (false≢true (sym c)),
      ap (λ b. cond b (y.result ∷ filter is_picture (map result_of ys)) (filter is_picture (map result_of ys))) (ap is_picture_kind d.1)
          ∙ ap (λ l. filter is_picture (map result_of l)) (damaged_last y ys last d.1 o h),
    ))
    n.2

-- a result stands before the byte after which it is known
position_before : (kind : ResultKind) (position known : ℕ) → IsKnownRight kind position known → position < known
position_before (Picture geometry key planes) position known k = omega (arith, k)
position_before Damaged position known k = omega (arith, k)
position_before (Changed geometry) position known k = omega (arith, k)

-- Stamps of bytes that go on

stamped_more : (stamps more : List Stamp) (found : List SegmentResult) → All (IsStamped stamps) found → All (IsStamped (stamps ++ more)) found
stamped_more stamps more found h k d l =
    let x = h k d l in
    let n = length-append stamps more in
    (omega (arith, x.0), x.1 ∙ sym (get_or_append_left stamps more zero_stamp (get_or found k d).what.position x.0))

same_stamp :
    (stamps : List Stamp) (stamp : Stamp) (few many position : ℕ) → few ≤ many → position < length stamps + few
    → get_or (stamps ++ replicate many stamp) position zero_stamp ≡ get_or (stamps ++ replicate few stamp) position zero_stamp
same_stamp stamps stamp few many position l p =
    let cut : stamps ++ replicate many stamp ≡ (stamps ++ replicate few stamp) ++ replicate (many - few) stamp =
    ap (λ n. stamps ++ replicate n stamp) (let q : many ≡ few + (many - few) = omega arith in q)
    ∙ (ap (λ l. stamps ++ l) (sym (replicate-append-replicate few (many - few) stamp)) ∙ sym (append_assoc stamps (replicate few stamp) (replicate (many - few) stamp))) in
    let n = length-append stamps (replicate few stamp) in
    let m = length-replicate few stamp in
    ap (λ s. get_or s position zero_stamp) cut ∙ get_or_append_left (stamps ++ replicate few stamp) (replicate (many - few) stamp) zero_stamp position (omega arith)

-- One run

-- what the law of resuming says of a run, by the results that are still to be given
abbrev Resumed : ℕ → Option Geometry → List ℕ → List ℕ → List Stamp → Stamp → ℕ → List GivenResult → Type 0
Resumed limit g bytes more stamps stamp n ds =
    let state = state_at bytes stamps limit g n in
    let present = (present_at bytes limit g n).geometry in
    let step = decode state present limit more stamp in
    let consumed = bytes ++ take step.moved more in
    TellsNext step (length bytes - length state.tail) bytes more (λ p. get_or (stamps ++ replicate (length more) stamp) p zero_stamp) ds
    × IsReached consumed limit g (given_after n ds)
    × (step.state ≡ state_at consumed (stamps ++ replicate step.moved stamp) limit g (given_after n ds))
    × ((present_at consumed limit g (given_after n ds)).geometry ≡ geometry_after step.given present)

-- the bytes by which the run moved the cursor
abbrev pub moved_by : DecodedStep → List ℕ → Option FrameResult → List ℕ
moved_by step more o = elim o as (λ _. List ℕ) [
  | None ↦ more
  | Some r ↦ take step.moved more
]

-- where the decoder stands after the run, by the result that it gave
abbrev pub StandsAfter : ℕ → Option Geometry → List ℕ → List Stamp → List SegmentResult → DecodedStep → List ℕ → Stamp → Fourcc → ℕ → Option Geometry → Option FrameResult → Type 0
StandsAfter limit g bytes stamps found step more stamp fourcc from present o =
    let moved = moved_by step more o in
    IsStanding limit g (bytes ++ moved) (stamps ++ replicate (length moved) stamp) (with_result found from fourcc step.stamp o) (cond (gave_change o) false true) (decoder step.state) (geometry_after o present)

end_length : {A : Type 0} → (xs : List A) (x : A) → length (xs ++ x ∷ []) ≡ suc (length xs)
end_length xs x = let n = length-append xs (x ∷ []) in omega arith

-- no result is left: the run used up the bytes
none_more :
    (limit : ℕ) (g : Option Geometry) (bytes more : List ℕ) (stamps : List Stamp) (stamp : Stamp) (found : List SegmentResult) (fourcc : Fourcc)
    (given : Bool) (codec : CodecState) (geometry : Option Geometry)
    → IsStanding limit g bytes stamps found given codec geometry → drop (length found) (from_start (bytes ++ more) limit g) ≡ []
    → Resumed limit g bytes more stamps stamp (length found) []
    → let state = state_at bytes stamps limit g (length found) in
    let present = (present_at bytes limit g (length found)).geometry in
    let step = decode state present limit more stamp in StandsAfter limit g bytes stamps found step more stamp fourcc (length bytes - length state.tail) present step.given
none_more limit g bytes more stamps stamp found fourcc given codec geometry h end r =
    let n = length found in
    let state = state_at bytes stamps limit g n in
    let present = (present_at bytes limit g n).geometry in
    let step = decode state present limit more stamp in
    let stay = results_stay limit g None bytes more in
    let moved : take step.moved more ≡ more = ap (λ k. take k more) r.0.1 ∙ take-length more in
    let lb = length-append bytes more in
    let ls = length-append stamps (replicate (length more) stamp) in
    let lr = length-replicate (length more) stamp in
    let hl = h.lengths in
    let same : take n (from_start (bytes ++ more) limit g) ≡ take n (from_start bytes limit g) = ap (λ l. take n l) stay.1.0 ∙ take-append-le n (from_start bytes limit g) stay.0 h.reaches.0 in
    subst (StandsAfter limit g bytes stamps found step more stamp fourcc (length bytes - length state.tail) present) (sym r.0.0) (record {
      lengths = omega arith;
      reaches = subst (λ l. IsReached (bytes ++ l) limit g n) moved r.1;
      state = ap (λ s. decoder s) (r.2 ∙ (ap (λ l. state_at (bytes ++ l) (stamps ++ replicate step.moved stamp) limit g n) moved ∙ ap (λ k. state_at (bytes ++ more) (stamps ++ replicate k stamp) limit g n) r.0.1));
      present = sym (ap (λ l. (present_at (bytes ++ l) limit g n).geometry) (sym moved) ∙ (r.3 ∙ ap (λ o. geometry_after o present) r.0.0));
      what = h.what ∙ ap (λ l. map result_of l) (sym same);
      all = λ e. end;
      rest = ap (λ l. filter is_picture (map result_of l)) end;
      stamped = stamped_more stamps (replicate (length more) stamp) found h.stamped;
    })

-- the run gives the next result
one_more :
    (limit : ℕ) (g : Option Geometry) (bytes more : List ℕ) (stamps : List Stamp) (stamp : Stamp) (found : List SegmentResult) (fourcc : Fourcc)
    (given : Bool) (codec : CodecState) (geometry : Option Geometry)
    → IsStanding limit g bytes stamps found given codec geometry → (next : GivenResult) (later : List GivenResult)
    → drop (length found) (from_start (bytes ++ more) limit g) ≡ next ∷ later → Resumed limit g bytes more stamps stamp (length found) (next ∷ later)
    → (f : FrameResult)
    → let state = state_at bytes stamps limit g (length found) in
    let present = (present_at bytes limit g (length found)).geometry in
    let step = decode state present limit more stamp in
    step.given ≡ Some f → moved_result (length bytes - length state.tail) f ≡ next.result
    → StandsAfter limit g bytes stamps found step more stamp fourcc (length bytes - length state.tail) present (Some f)
unfolding results
one_more limit g bytes more stamps stamp found fourcc given codec geometry h next later front r f gave is =
    let n = length found in
    let state = state_at bytes stamps limit g n in
    let present = (present_at bytes limit g n).geometry in
    let step = decode state present limit more stamp in
    let from = length bytes - length state.tail in
    let x : SegmentResult = record { what = moved_result from f; stamp = step.stamp; fourcc = fourcc } in
    let old = from_start bytes limit g in
    let all = from_start (bytes ++ more) limit g in
    let new_bytes = bytes ++ take step.moved more in
    let new = from_start new_bytes limit g in
    let stay = results_stay limit g None bytes more in
    let stay_new = results_stay limit g None new_bytes (drop step.moved more) in
    let whole : new_bytes ++ drop step.moved more ≡ bytes ++ more = append_assoc bytes (take step.moved more) (drop step.moved more) ∙ ap (λ l. bytes ++ l) (take-append-drop step.moved more) in
    let goes : all ≡ new ++ stay_new.0 = ap (λ l. from_start l limit g) (sym whole) ∙ stay_new.1.0 in
    let in_all : next.result.known ≤ length (bytes ++ more) =
    All-head (λ (y : GivenResult). y.result.known ≤ length (bytes ++ more)) next later
    (subst (All (λ (y : GivenResult). y.result.known ≤ length (bytes ++ more))) front
    (All-drop (λ (y : GivenResult). y.result.known ≤ length (bytes ++ more)) n all (results_are_inside limit g None (bytes ++ more)))) in
    let known : length bytes + step.moved ≡ next.result.known = r.0.2 in
    let lb = length-append bytes more in
    let few : step.moved ≤ length more = omega arith in
    let lm : length (take step.moved more) ≡ step.moved = length-take-le step.moved more few in
    let ln = length-append bytes (take step.moved more) in
    let ls = length-append stamps (replicate (length (take step.moved more)) stamp) in
    let lr = length-replicate (length (take step.moved more)) stamp in
    let hl = h.lengths in
    let count : length (found ++ x ∷ []) ≡ suc n = end_length found x in
    let enough : suc n ≤ length new = r.1.0 in
    let parts = split_at n all later next front in
    let take_new : take (suc n) new ≡ take n old ++ next ∷ [] =
    sym (take-append-le (suc n) new stay_new.0 enough)
    ∙ (ap (λ l. take (suc n) l) (sym goes) ∙ (parts.0 ∙ ap (λ l. l ++ next ∷ []) (ap (λ l. take n l) stay.1.0 ∙ take-append-le n old stay.0 h.reaches.0))) in
    let drop_all : drop n new ++ stay_new.0 ≡ next ∷ later = sym (drop-append-le n new stay_new.0 (omega arith)) ∙ (ap (λ l. drop n l) (sym goes) ∙ front) in
    let ld = length-drop n new in
    let tail = list_of (drop n new) stay_new.0 next later (omega arith) drop_all in
    let rest_is : drop (suc n) new ≡ tail.0 = (split_at n new tail.0 next tail.1).1 in
    let ordered : AreOrdered (map result_of (next ∷ tail.0)) =
    subst (λ l. AreOrdered (map result_of l)) tail.1 (subst AreOrdered (drop-map result_of n new) (ordered_drop n (map result_of new) (results_are_ordered limit g None new_bytes))) in
    let known_rest : All (λ (y : GivenResult). y.result.known ≡ length new_bytes) tail.0 = subst (All (λ (y : GivenResult). y.result.known ≡ length new_bytes)) rest_is r.1.1 in
    let last = behind next.result.kind next.result.position next.result.known (length new_bytes) tail.0 ordered.1 ordered.2 known_rest (omega arith) in
    let before : next.result.position < next.result.known = position_before next.result.kind next.result.position next.result.known ordered.0 in
    let place : (moved_result from f).position ≡ next.result.position = ap (λ (y : FrameResult). y.position) is in
    let new_stamps = stamps ++ replicate (length (take step.moved more)) stamp in
    record {
      lengths = omega arith;
      reaches = subst (λ m. IsReached new_bytes limit g m) (sym count) r.1;
      state = ap (λ s. decoder s) (r.2 ∙ (ap (λ k. state_at new_bytes (stamps ++ replicate k stamp) limit g (suc n)) (sym lm) ∙ ap (λ m. state_at new_bytes new_stamps limit g m) (sym count)));
      present = sym (ap (λ m. (present_at new_bytes limit g m).geometry) count ∙ (r.3 ∙ ap (λ o. geometry_after o present) gave));
      what =
          map-append what_of found (x ∷ [])
          ∙ (ap (λ l. l ++ moved_result from f ∷ []) h.what
          ∙ (ap (λ y. map result_of (take n old) ++ y ∷ []) is
          ∙ (sym (map-append result_of (take n old) (next ∷ [])) ∙ (ap (λ l. map result_of l) (sym take_new) ∙ ap (λ m. map result_of (take m new)) (sym count)))));
      all = λ e. ap (λ m. drop m new) count ∙ (rest_is ∙ last.0 (no_change f.kind next.result.kind (ap (λ (y : FrameResult). y.kind) is) e));
      rest = ap (λ m. filter is_picture (map result_of (drop m new))) count ∙ (ap (λ l. filter is_picture (map result_of l)) rest_is ∙ last.1);
      stamped =
          All-push (IsStamped new_stamps) found x (stamped_more stamps (replicate (length (take step.moved more)) stamp) found h.stamped) (
            omega arith,
            r.0.1 ∙ (same_stamp stamps stamp (length (take step.moved more)) (length more) next.result.position (omega arith) (omega arith) ∙ ap (λ p. get_or new_stamps p zero_stamp) (sym place)),
          );
    }
  where
    no_change : (kind other : ResultKind) → kind ≡ other → cond (is_change_result kind) false true ≡ true → is_change_result other ≡ false
    no_change (Picture geometry key planes) other e c = ap is_change_result (sym e)
    no_change Damaged other e c = ap is_change_result (sym e)
    no_change (Changed g) other e c = absurd (false≢true c)

-- the result of the run, given that it moved to the next one
gave_next :
    (limit : ℕ) (g : Option Geometry) (bytes more : List ℕ) (stamps : List Stamp) (stamp : Stamp) (found : List SegmentResult) (fourcc : Fourcc)
    (given : Bool) (codec : CodecState) (geometry : Option Geometry)
    → IsStanding limit g bytes stamps found given codec geometry → (next : GivenResult) (later : List GivenResult)
    → drop (length found) (from_start (bytes ++ more) limit g) ≡ next ∷ later → Resumed limit g bytes more stamps stamp (length found) (next ∷ later)
    → let state = state_at bytes stamps limit g (length found) in
    let present = (present_at bytes limit g (length found)).geometry in
    let step = decode state present limit more stamp in
    (o : Option FrameResult) → step.given ≡ o → option_map (moved_result (length bytes - length state.tail)) o ≡ Some next.result
    → StandsAfter limit g bytes stamps found step more stamp fourcc (length bytes - length state.tail) present o
gave_next limit g bytes more stamps stamp found fourcc given codec geometry h next later front r None gave is = absurd (cc)
gave_next limit g bytes more stamps stamp found fourcc given codec geometry h next later front r (Some f) gave is =
    one_more limit g bytes more stamps stamp found fourcc given codec geometry h next later front r f gave (let q : moved_result (length bytes - length (state_at bytes stamps limit g (length found)).tail) f ≡ next.result = cc in q)

by_next :
    (limit : ℕ) (g : Option Geometry) (bytes more : List ℕ) (stamps : List Stamp) (stamp : Stamp) (found : List SegmentResult) (fourcc : Fourcc)
    (given : Bool) (codec : CodecState) (geometry : Option Geometry)
    → IsStanding limit g bytes stamps found given codec geometry → (ds : List GivenResult)
    → drop (length found) (from_start (bytes ++ more) limit g) ≡ ds → Resumed limit g bytes more stamps stamp (length found) ds
    → let state = state_at bytes stamps limit g (length found) in
    let present = (present_at bytes limit g (length found)).geometry in
    let step = decode state present limit more stamp in StandsAfter limit g bytes stamps found step more stamp fourcc (length bytes - length state.tail) present step.given
by_next limit g bytes more stamps stamp found fourcc given codec geometry h [] e r =
    none_more limit g bytes more stamps stamp found fourcc given codec geometry h e r
by_next limit g bytes more stamps stamp found fourcc given codec geometry h (next ∷ later) e r =
    gave_next limit g bytes more stamps stamp found fourcc given codec geometry h next later e r _ refl r.0.0

-- where the decoder stands after a run over any further bytes
pub stands_on :
    Resuming
    → (limit : ℕ) (g : Option Geometry) (bytes more : List ℕ) (stamps : List Stamp) (stamp : Stamp) (found : List SegmentResult) (fourcc : Fourcc)
    (given : Bool) (geometry : Option Geometry) (state : DecoderState)
    → IsStanding limit g bytes stamps found given (decoder state) geometry
    → let step = decode state geometry limit more stamp in StandsAfter limit g bytes stamps found step more stamp fourcc (length bytes - length state.tail) geometry step.given
stands_on resuming limit g bytes more stamps stamp found fourcc given geometry state h =
    let n = length found in
    let at = state_at bytes stamps limit g n in
    let present = (present_at bytes limit g n).geometry in
    let done = by_next limit g bytes more stamps stamp found fourcc given (decoder state) geometry h (drop n (from_start (bytes ++ more) limit g)) refl (resuming limit g bytes more stamps stamp n h.lengths h.reaches) in
    let same : at ≡ state = sym (let q : decoder state ≡ decoder at = h.state in let p : state ≡ at = cc in p) in
    subst
    (λ p. let step = decode state p limit more stamp in StandsAfter limit g bytes stamps found step more stamp fourcc (length bytes - length state.tail) p step.given)
    (sym h.present)
    (subst (λ s. let step = decode s present limit more stamp in StandsAfter limit g bytes stamps found step more stamp fourcc (length bytes - length s.tail) present step.given) same done)

-- at the first run of a segment
pub stands_first : (limit : ℕ) (g : Option Geometry) → IsStanding limit g [] [] [] true (decoder fresh_decoder) g
unfolding given_in places look
stands_first limit g =
    record {
      lengths = refl;
      reaches = (omega arith, All-nil (λ (f : GivenResult). f.result.known ≡ 0));
      state = refl;
      present = refl;
      what = refl;
      all = λ e. refl;
      rest = refl;
      stamped = All-nil (IsStamped []);
    }
