-- A step over bytes and stamps is a call of the definition. The bytes that are kept decide what is told, and the
-- stamps of the last of them decide the stamp of a frame.
use Rattle.std.proofs.Common.{◌≡◌, ◌∙◌, sym, ap, refl, subst, ℕ, suc, zero, ◌+◌, ◌-◌, ◌<◌, ◌≤◌, List, [], ◌∷◌, ◌++◌, length, take, drop, get_or, replicate, arith, length-append, length-drop}
use Rattle.std.specs.Prelude.{Bool, true, false, min, nat_eq, nat_le, nat_lt, cond}
use Rattle.std.specs.declared.option.Option.{Option}
use Rattle.std.specs.declared.option.Option.TheVariants.{Some, None}
use Rattle.std.proofs.lemmas.Bool.{cond-false}
use Rattle.std.proofs.lemmas.Bool.Decides.{nat_tests}
use Rattle.std.proofs.lemmas.List.{take_all, ext_get_or, get_or-append_right, get_or_append_left, get_or-replicate, get_or-drop, get_or_default, length-replicate}
use Rattle.std.proofs.Math.ListN.{get_or-eq_default}
use Rattle.std.proofs.lemmas.List.FromFn.{length-map-range_with_len, get_or-map-range_with_len}
use Rattle.circular_buffer.specs.Buffer.{keep_last}
use Rattle.vc_base.specs.declared.Stamp.{Stamp}
use Rattle.vc_base.specs.Buffers.{zero_stamp}
use Rattle.vc_defs.specs.declared.Header.{Header}
use Rattle.vc_defs.specs.Finds.{Find, Head, Ended, position_of, known_at, finds, told_of_tail, KeptBytes, stamp_in, first_of_tail, last_of_tail, kept_with, kept_before, FedStep, fed_by, fed}
use Rattle.vc_resync.specs.declared.feeding.Found.{Found}
use Rattle.vc_resync.specs.declared.feeding.Found.TheVariants.{Whole, Cut}
use Rattle.vc_resync.specs.Assembling.{found_of, frame_of, ToldFrame}
use Rattle.vc_resync.specs.Collecting.{BodyIs, TakenBy, Taken, Grows, frame_found}
use Rattle.vc_resync.specs.Continuing.{IsKept}
use Rattle.vc_resync.specs.Telling.{FoundFits}
use Rattle.vc_resync.proofs.LastStampsAreKept.{length_kept}

-- a call that answers so, and keeps these bytes
pub record FedAs (kept : KeptBytes) (bytes : List ℕ) (stamp : Stamp) (found : Found) (body after : List ℕ) (step : FedStep) : Type 0 where
  pub moved : step.moved ≡ length bytes
  pub told : found ≡ found_of step.told
  pub frame : frame_found found body kept.first_stamp ≡ frame_of step.told step.stamp
  pub fits : FoundFits found body
  pub is : step.kept ≡ kept_with after (length (kept.tail ++ bytes)) (stamp_in kept stamp)

-- the answer to a frame's end, by its body
abbrev found_by : Header → Option (List ℕ) → Found
found_by h o = elim o as (λ _. Found) [ None ↦ Cut h | Some body ↦ Whole h ]

abbrev told_of : Option (List ℕ) → Stamp → ToldFrame
told_of body stamp = record { body = body; stamp = stamp }

fed_frame : (body : List ℕ) (first : Stamp) (find : Find) → BodyIs body find → frame_found (found_of (Some find)) body first ≡ frame_of (Some find) first
fed_frame body first (Head position h) b = refl
fed_frame body first (Ended f) b = by_body f.body refl b
  where
    by_body : (o : Option (List ℕ)) → f.body ≡ o → elim o as (λ _. Type 0) [ None ↦ Unit {0} | Some there ↦ (there ≡ take f.header.size body) × (f.header.size ≤ length body) ] →
        frame_found (found_of (Some (Ended f))) body first ≡ Some (record { body = f.body; stamp = first })
    by_body None e b =
        ap (λ o. frame_found (found_by f.header o) body first) e ∙ sym (ap (λ (o : Option (List ℕ)). Some (told_of o first)) e)
    by_body (Some there) e b =
        ap (λ o. frame_found (found_by f.header o) body first) e ∙ ap (λ (t : List ℕ). Some (told_of (Some t) first)) (sym b.0) ∙ sym (ap (λ (o : Option (List ℕ)). Some (told_of o first)) e)

fed_fits : (body : List ℕ) (find : Find) → BodyIs body find → FoundFits (found_of (Some find)) body
fed_fits body (Head position h) b = tt
fed_fits body (Ended f) b = by_body f.body b
  where
    by_body : (o : Option (List ℕ)) → elim o as (λ _. Type 0) [ None ↦ Unit {0} | Some there ↦ (there ≡ take f.header.size body) × (f.header.size ≤ length body) ] → FoundFits (found_by f.header o) body
    by_body None b = tt
    by_body (Some there) b = b.1

fed_taken_by : (limit : ℕ) (kept : KeptBytes) (bytes : List ℕ) (stamp : Stamp) (found : Found) (body after : List ℕ) (fs : List Find) → TakenBy limit kept.tail (kept.tail ++ bytes) found body after fs →
    FedAs kept bytes stamp found body after (fed_by kept limit (kept.tail ++ bytes) stamp fs)
fed_taken_by limit kept bytes stamp found body after [] t = record {
  moved = omega (arith, length-append kept.tail bytes);
  told = t.0;
  frame = ap (λ f. frame_found f body kept.first_stamp) t.0;
  fits = subst (λ (f : Found). FoundFits f body) (sym t.0) tt;
  is = ap (λ t. kept_with t (length (kept.tail ++ bytes)) (stamp_in kept stamp)) (sym t.1);
}
fed_taken_by limit kept bytes stamp found body after (f ∷ later) t =
    let all : take (known_at f) (kept.tail ++ bytes) ≡ kept.tail ++ bytes = take_all (known_at f) (kept.tail ++ bytes) (omega (arith, t.end)) in
    let some : 0 < length kept.tail = t.some in
    let first : stamp_in kept stamp (position_of f) ≡ kept.first_stamp =
    ap (λ p. stamp_in kept stamp p) t.front ∙ cond-false (nat_eq (length kept.tail) 0) stamp kept.first_stamp (grind (arith, nat_tests)) in
    record {
      moved = omega (arith, t.end, length-append kept.tail bytes);
      told = t.told;
      frame = ap (λ g. frame_found g body kept.first_stamp) t.told ∙ fed_frame body kept.first_stamp f t.body_is ∙ ap (λ s. frame_of (Some f) s) (sym first);
      fits = subst (λ (f : Found). FoundFits f body) (sym t.told) (fed_fits body f t.body_is);
      is = ap (λ xs. kept_with (kept_before limit xs later) (known_at f) (stamp_in kept stamp)) all
          ∙ ap (λ xs. kept_with xs (known_at f) (stamp_in kept stamp)) (sym t.kept)
          ∙ ap (λ n. kept_with after n (stamp_in kept stamp)) t.end;
    }

pub fed_taken : (limit : ℕ) (kept : KeptBytes) (bytes : List ℕ) (stamp : Stamp) (found : Found) (body after : List ℕ) → Taken limit kept.tail bytes found body after → FedAs kept bytes stamp found body after (fed kept limit bytes stamp)
unfolding fed Taken
fed_taken limit kept bytes stamp found body after t = fed_taken_by limit kept bytes stamp found body after (drop (told_of_tail kept.tail) (finds (kept.tail ++ bytes) limit)) t

-- The stamps that are kept are as many as the last bytes need, and the first of them is the first byte's where they
-- are the stamps of all.
pub record AreStamped (kept : KeptBytes) : Type 0 where
  pub many : length kept.last_stamps ≡ min 43 (length kept.tail)
  pub first : 0 < length kept.tail → length kept.tail ≤ 43 → kept.first_stamp ≡ get_or kept.last_stamps 0 zero_stamp

first_is : (stamp : ℕ → Stamp) (end n : ℕ) → 0 < n → first_of_tail stamp end n ≡ stamp (end - n)
first_is stamp end zero h = absurd (omega arith)
first_is stamp end (suc n) h = refl

stamped_with : (tail : List ℕ) (end : ℕ) (stamp : ℕ → Stamp) → AreStamped (kept_with tail end stamp)
stamped_with tail end stamp = record {
  many = length-map-range_with_len stamp (end - min 43 (length tail)) (min 43 (length tail));
  first = λ some few.
      let at : end - min 43 (length tail) + 0 ≡ end - length tail = omega arith in
      first_is stamp end (length tail) some
      ∙ ap stamp (sym at)
      ∙ sym (get_or-map-range_with_len stamp (end - min 43 (length tail)) (min 43 (length tail)) 0 (end - min 43 (length tail) + 0) zero_stamp (omega arith) refl);
}

pub stamped : (limit : ℕ) (kept : KeptBytes) → IsKept limit kept → AreStamped kept
stamped limit kept k =
    subst (λ (s : KeptBytes). AreStamped s) (sym k.is)
    (stamped_with (kept_before limit k.bytes (drop k.told (finds k.bytes limit))) (length k.bytes) (λ p. get_or k.stamps p zero_stamp))

-- the stamp of a byte near the end
stamp_near : (kept : KeptBytes) (stamp : Stamp) (n q j : ℕ) → AreStamped kept → q < length kept.tail + n → length kept.tail ≤ q + length kept.last_stamps → q + length kept.last_stamps ≡ j + length kept.tail →
    stamp_in kept stamp q ≡ get_or (kept.last_stamps ++ replicate n stamp) j zero_stamp
stamp_near kept stamp n zero j a inside near at = by_empty (nat_eq (length kept.tail) 0) refl
  where
    by_empty : (b : Bool) → nat_eq (length kept.tail) 0 ≡ b → cond b stamp kept.first_stamp ≡ get_or (kept.last_stamps ++ replicate n stamp) j zero_stamp
    by_empty true e =
        let none : length kept.tail ≡ 0 = grind (arith, nat_tests) in
        let no_stamps : length kept.last_stamps ≡ 0 = omega (arith, a.many, none) in
        sym (get_or-append_right kept.last_stamps (replicate n stamp) (length kept.last_stamps) j zero_stamp refl (omega (arith, no_stamps))
        ∙ get_or-replicate n (j - length kept.last_stamps) stamp zero_stamp (omega (arith, no_stamps, at)))
    by_empty false e =
        let some : 0 < length kept.tail = grind (arith, nat_tests) in
        let first : j ≡ 0 = omega (arith, a.many, near, at) in
        a.first some (omega (arith, a.many, near))
        ∙ sym (ap (λ i. get_or (kept.last_stamps ++ replicate n stamp) i zero_stamp) first ∙ get_or_append_left kept.last_stamps (replicate n stamp) zero_stamp 0 (omega (arith, a.many, some)))
stamp_near kept stamp n (suc q) j a inside near at = by_place (nat_lt (suc q) (length kept.tail)) refl
  where
    by_place : (b : Bool) → nat_lt (suc q) (length kept.tail) ≡ b → cond b (get_or kept.last_stamps (suc q - (length kept.tail - length kept.last_stamps)) stamp) stamp ≡ get_or (kept.last_stamps ++ replicate n stamp) j zero_stamp
    by_place true e =
        let less : suc q < length kept.tail = grind (arith, nat_tests) in
        let i : suc q - (length kept.tail - length kept.last_stamps) ≡ j = omega (arith, a.many, near, at) in
        ap (λ k. get_or kept.last_stamps k stamp) i
        ∙ get_or_default kept.last_stamps j stamp zero_stamp (omega (arith, at, less))
        ∙ sym (get_or_append_left kept.last_stamps (replicate n stamp) zero_stamp j (omega (arith, at, less)))
    by_place false e =
        let more : length kept.tail ≤ suc q = grind (arith, nat_tests) in
        sym (get_or-append_right kept.last_stamps (replicate n stamp) (length kept.last_stamps) j zero_stamp refl (omega (arith, at, more))
        ∙ get_or-replicate n (j - length kept.last_stamps) stamp zero_stamp (omega (arith, at, inside)))

-- The last stamps then are the last of the old ones and the new.
last_then : (kept : KeptBytes) (stamp : Stamp) (n end length_after : ℕ) → AreStamped kept → end ≡ length kept.tail + n → length_after ≤ end →
    last_of_tail (stamp_in kept stamp) end length_after ≡ keep_last (min 43 length_after) (kept.last_stamps ++ replicate n stamp)
last_then kept stamp n end after a e few =
    ext_get_or zero_stamp (last_of_tail (stamp_in kept stamp) end after) (keep_last count all) (left_long ∙ sym right_long) (λ k h. at_place k (omega (arith, h, left_long)))
  where
    count : ℕ
    count = min 43 after

    all : List Stamp
    all = kept.last_stamps ++ replicate n stamp

    all_long : length all ≡ length kept.last_stamps + n
    all_long = omega (arith, length-append kept.last_stamps (replicate n stamp), length-replicate n stamp)

    enough : count ≤ length all
    enough = let c : count ≡ min 43 after = refl in omega (arith, all_long, a.many, e, c)

    left_long : length (last_of_tail (stamp_in kept stamp) end after) ≡ count
    left_long = length-map-range_with_len (stamp_in kept stamp) (end - count) count

    right_long : length (keep_last count all) ≡ count
    right_long = omega (arith, length-drop (length all - count) all, enough)

    at_place : (k : ℕ) → k < count → get_or (last_of_tail (stamp_in kept stamp) end after) k zero_stamp ≡ get_or (keep_last count all) k zero_stamp
    at_place k h =
        let c : count ≡ min 43 after = refl in
        get_or-map-range_with_len (stamp_in kept stamp) (end - count) count k (end - count + k) zero_stamp h refl
        ∙ stamp_near kept stamp n (end - count + k) (length all - count + k) a (omega (arith, c, h, e, few)) (omega (arith, c, all_long, a.many, e, few, enough)) (omega (arith, c, all_long, a.many, e, few, enough))
        ∙ sym (get_or-drop (length all - count) all k zero_stamp)

-- The first stamp then is that of the first byte.
first_then : (kept : KeptBytes) (stamp : Stamp) (n end after : ℕ) → AreStamped kept → end ≡ length kept.tail + n → after ≤ end → (43 < after → (after ≡ end) × (0 < length kept.tail)) →
    first_of_tail (stamp_in kept stamp) end after ≡ cond (nat_le after 43) (get_or (keep_last (min 43 after) (kept.last_stamps ++ replicate n stamp)) 0 zero_stamp) kept.first_stamp
first_then kept stamp n end zero a e few far =
    let none : length (keep_last 0 (kept.last_stamps ++ replicate n stamp)) ≤ 0 = length_kept 0 (kept.last_stamps ++ replicate n stamp) in
    sym (get_or-eq_default (keep_last 0 (kept.last_stamps ++ replicate n stamp)) zero_stamp none)
first_then kept stamp n end (suc after) a e few far = by_size (nat_le (suc after) 43) refl
  where
    by_size : (b : Bool) → nat_le (suc after) 43 ≡ b → stamp_in kept stamp (end - suc after) ≡ cond b (get_or (keep_last (min 43 (suc after)) (kept.last_stamps ++ replicate n stamp)) 0 zero_stamp) kept.first_stamp
    by_size true t =
        let small : suc after ≤ 43 = grind (arith, nat_tests) in
        let same : min 43 (suc after) ≡ suc after = omega arith in
        let at : end - min 43 (suc after) + 0 ≡ end - suc after = omega arith in
        sym (
        ap (λ t. get_or t 0 zero_stamp) (sym (last_then kept stamp n end (suc after) a e few))
        ∙ get_or-map-range_with_len (stamp_in kept stamp) (end - min 43 (suc after)) (min 43 (suc after)) 0 (end - suc after) zero_stamp (omega arith) at
        )
    by_size false t =
        let big : 43 < suc after = grind (arith, nat_tests) in
        let f = far big in
        let at : end - suc after ≡ 0 = omega (arith, f.0) in
        let some : 0 < length kept.tail = f.1 in
        ap (λ p. stamp_in kept stamp p) at ∙ cond-false (nat_eq (length kept.tail) 0) stamp kept.first_stamp (grind (arith, nat_tests))

-- What is kept then, by its bytes and the stamps.
pub kept_then : (kept : KeptBytes) (bytes after : List ℕ) (stamp first : Stamp) (last : List Stamp) → AreStamped kept → Grows (length kept.tail) (length bytes) (length after) →
    last ≡ keep_last (min 43 (length after)) (kept.last_stamps ++ replicate (length bytes) stamp) → first ≡ cond (nat_le (length after) 43) (get_or last 0 zero_stamp) kept.first_stamp →
    record { tail = after; first_stamp = first; last_stamps = last } ≡ kept_with after (length (kept.tail ++ bytes)) (stamp_in kept stamp)
kept_then kept bytes after stamp first last a g l f =
    let n : ℕ = length bytes in
    let end : length (kept.tail ++ bytes) ≡ length kept.tail + n = length-append kept.tail bytes in
    let few : length after ≤ length (kept.tail ++ bytes) = omega (arith, g.most, end) in
    let far : 43 < length after → (length after ≡ length (kept.tail ++ bytes)) × (0 < length kept.tail) = λ big. ((g.far big).0 ∙ sym end, (g.far big).1) in
    let last_is : last ≡ last_of_tail (stamp_in kept stamp) (length (kept.tail ++ bytes)) (length after) = l ∙ sym (last_then kept stamp n (length (kept.tail ++ bytes)) (length after) a end few) in
    let first_is : first ≡ first_of_tail (stamp_in kept stamp) (length (kept.tail ++ bytes)) (length after) =
    f ∙ ap (λ t. cond (nat_le (length after) 43) (get_or t 0 zero_stamp) kept.first_stamp) l ∙ sym (first_then kept stamp n (length (kept.tail ++ bytes)) (length after) a end few far) in
    ap (λ s. made after s last) first_is ∙ ap (λ t. made after (first_of_tail (stamp_in kept stamp) (length (kept.tail ++ bytes)) (length after)) t) last_is
  where
    made : List ℕ → Stamp → List Stamp → KeptBytes
    made tail first last = record { tail = tail; first_stamp = first; last_stamps = last }
