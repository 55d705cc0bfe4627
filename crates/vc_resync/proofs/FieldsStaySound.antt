-- What holds of an assembly's fields after a step. Each stage has its own bytes in its place, and a step leaves
-- either the same stage with more of them or the next one.
use Rattle.std.proofs.Common.{◌≡◌, ◌∙◌, sym, ap, refl, subst, ℕ, inl, inr, List, [], ◌++◌, length, take, drop, get_or, replicate, arith}
use Rattle.std.specs.Prelude.{◌⊎◌, true, false, min, nat_le, cond}
use Rattle.std.specs.declared.option.Option.{Option}
use Rattle.std.specs.declared.option.Option.TheVariants.{Some, None}
use Rattle.std.proofs.lemmas.List.{take_all, take-append-drop, length-take-le}
use Rattle.circular_buffer.specs.Buffer.{keep_last}
use Rattle.vc_base.specs.declared.Stamp.{Stamp}
use Rattle.vc_base.specs.Buffers.{zero_stamp}
use Rattle.vc_defs.specs.Finds.{Find, Head, Ended, KeptBytes, nothing_kept, fed}
use Rattle.vc_resync.specs.declared.feeding.Found.{Found}
use Rattle.vc_resync.specs.declared.feeding.Found.TheVariants.{More, Head as HeadFound, Whole as WholeFound, Cut as CutFound}
use Rattle.vc_resync.specs.Assembling.{AssemblyState, ToldFrame, found_of, frame_of, is_told, IsToldBy}
use Rattle.vc_resync.specs.Collecting.{Taken, Grows, frame_found}
use Rattle.vc_resync.specs.Continuing.{IsKept, SameAnswer, IsAnswered}
use Rattle.vc_resync.specs.Telling.{FoundFits}
use Rattle.vc_resync.proofs.CallsCompose.{nothing_is_kept, reaches, compose, front}
use Rattle.vc_resync.proofs.StepsAreCalls.{fed_taken, stamped, kept_then}

abbrev state_of : ℕ → KeptBytes → Option ToldFrame → AssemblyState
state_of limit kept told = record { limit = limit; kept = kept; told = told }

abbrev made : List ℕ → Stamp → List Stamp → KeptBytes
made tail first last = record { tail = tail; first_stamp = first; last_stamps = last }

pub nothing_is : (tail : List ℕ) (first : Stamp) (last : List Stamp) → tail ≡ [] → first ≡ zero_stamp → last ≡ [] → record { tail = tail; first_stamp = first; last_stamps = last } ≡ nothing_kept
nothing_is tail first last t f l = ap (λ x. made x first last) t ∙ ap (λ x. made [] x last) f ∙ ap (λ x. made [] zero_stamp x) l

pub kept_nothing : (limit : ℕ) (tail : List ℕ) (first : Stamp) (last : List Stamp) → tail ≡ [] → first ≡ zero_stamp → last ≡ [] → IsKept limit (record { tail = tail; first_stamp = first; last_stamps = last })
kept_nothing limit tail first last t f l = subst (λ (k : KeptBytes). IsKept limit k) (sym (nothing_is tail first last t f l)) (nothing_is_kept limit)

-- What a step is as a call over the bytes that it took.
pub record Stepped (limit : ℕ) (kept : KeptBytes) (bytes : List ℕ) (stamp : Stamp) (found : Found) (body : List ℕ) (now : KeptBytes) : Type 0 where
  pub moved : (fed kept limit bytes stamp).moved ≡ length bytes
  pub told : found ≡ found_of (fed kept limit bytes stamp).told
  pub frame : frame_found found body kept.first_stamp ≡ frame_of (fed kept limit bytes stamp).told (fed kept limit bytes stamp).stamp
  pub fits : FoundFits found body
  pub is : now ≡ (fed kept limit bytes stamp).kept
  pub reached : IsKept limit now

pub stepped : (limit : ℕ) (kept : KeptBytes) (bytes : List ℕ) (stamp : Stamp) (found : Found) (body after : List ℕ) (first : Stamp) (last : List Stamp) (count long : ℕ) → IsKept limit kept → Taken limit kept.tail bytes found body after →
    Grows (length kept.tail) count (length after) → count ≡ length bytes → long ≡ length after → last ≡ keep_last (min 43 long) (kept.last_stamps ++ replicate count stamp) → first ≡ cond (nat_le long 43) (get_or last 0 zero_stamp) kept.first_stamp →
    Stepped limit kept bytes stamp found body (record { tail = after; first_stamp = first; last_stamps = last })
stepped limit kept bytes stamp found body after first last count long k t g n m l f =
    let a = fed_taken limit kept bytes stamp found body after t in
    let grows : Grows (length kept.tail) (length bytes) (length after) = subst (λ (n : ℕ). Grows (length kept.tail) n (length after)) n g in
    let last_is : last ≡ keep_last (min 43 (length after)) (kept.last_stamps ++ replicate (length bytes) stamp) =
    l ∙ ap (λ i. keep_last (min 43 i) (kept.last_stamps ++ replicate count stamp)) m ∙ ap (λ i. keep_last (min 43 (length after)) (kept.last_stamps ++ replicate i stamp)) n in
    let first_is : first ≡ cond (nat_le (length after) 43) (get_or last 0 zero_stamp) kept.first_stamp = f ∙ ap (λ i. cond (nat_le i 43) (get_or last 0 zero_stamp) kept.first_stamp) m in
    let is : made after first last ≡ (fed kept limit bytes stamp).kept = kept_then kept bytes after stamp first last (stamped limit kept k) grows last_is first_is ∙ sym a.is in
    record { moved = a.moved; told = a.told; frame = a.frame; fits = a.fits; is = is; reached = subst (λ (s : KeptBytes). IsKept limit s) (sym is) (reaches limit kept bytes stamp k) }

none_told : (o : Option Find) → is_told (found_of o) ≡ false → o ≡ None
none_told None e = refl
none_told (Some (Head position h)) e = absurd cc
none_told (Some (Ended f)) e = by_body f.body e
  where
    by_body : (o : Option (List ℕ)) → is_told (elim o as (λ _. Found) [ None ↦ CutFound f.header | Some body ↦ WholeFound f.header ]) ≡ false → Some (Ended f) ≡ None
    by_body None e = absurd cc
    by_body (Some body) e = absurd cc

some_told : (o : Option Find) → is_told (found_of o) ≡ true → (f : Find) × (o ≡ Some f)
some_told None e = absurd cc
some_told (Some f) e = (f, refl)

-- A step that tells nothing goes on.
pub goes_on : (limit : ℕ) (kept : KeptBytes) (all : List ℕ) (stamp : Stamp) (found : Found) (body : List ℕ) (now : KeptBytes) (count : ℕ) → IsKept limit kept → Stepped limit kept (take count all) stamp found body now → count ≡ length (take count all) → is_told found ≡ false →
    SameAnswer count (fed kept limit all stamp) (fed now limit (drop count all) stamp)
goes_on limit kept all stamp found body now count k s n e =
    let none : (fed kept limit (take count all) stamp).told ≡ None = none_told (fed kept limit (take count all) stamp).told (ap (λ f. is_told f) (sym s.told) ∙ e) in
    let c = compose limit kept (take count all) (drop count all) stamp k none in
    let c' = subst (λ (t : List ℕ). SameAnswer (length (take count all)) (fed kept limit t stamp) (fed (fed kept limit (take count all) stamp).kept limit (drop count all) stamp)) (take-append-drop count all) c in
    let c'' = subst (λ (i : ℕ). SameAnswer i (fed kept limit all stamp) (fed (fed kept limit (take count all) stamp).kept limit (drop count all) stamp)) (sym n) c' in
    subst (λ (t : KeptBytes). SameAnswer count (fed kept limit all stamp) (fed t limit (drop count all) stamp)) (sym s.is) c''

-- A step that tells something, or took all, is the call.
pub answered : (assembly : AssemblyState) (all : List ℕ) (stamp : Stamp) (found : Found) (body : List ℕ) (now : KeptBytes) (told : Option ToldFrame) (count : ℕ) → IsKept assembly.limit assembly.kept → Stepped assembly.limit assembly.kept (take count all) stamp found body now →
    count ≡ length (take count all) →
    told ≡ frame_found found body assembly.kept.first_stamp → (is_told found ≡ true) ⊎ (count ≡ length all) → IsAnswered (fed assembly.kept assembly.limit all stamp) count found assembly (record { limit = assembly.limit; kept = now; told = told })
answered assembly all stamp found body now told count k s n t (inl e) =
    let kept : KeptBytes = assembly.kept in
    let some = some_told (fed kept assembly.limit (take count all) stamp).told (ap (λ f. is_told f) (sym s.told) ∙ e) in
    let f = subst (λ (t : List ℕ). SameAnswer 0 (fed kept assembly.limit t stamp) (fed kept assembly.limit (take count all) stamp)) (take-append-drop count all) (front assembly.limit kept (take count all) (drop count all) stamp some.0 k some.1) in
    record {
      moved = omega (arith, f.moved, s.moved, n);
      told = s.told ∙ sym f.found;
      leaves = ap (λ (x : KeptBytes). state_of assembly.limit x told) (s.is ∙ sym f.kept) ∙ ap (λ x. state_of assembly.limit (fed kept assembly.limit all stamp).kept x) (t ∙ s.frame ∙ sym f.frame);
    }
answered assembly all stamp found body now told count k s n t (inr e) =
    let kept : KeptBytes = assembly.kept in
    let whole : take count all ≡ all = take_all count all (omega (arith, e)) in
    let r = subst (λ (xs : List ℕ). Stepped assembly.limit kept xs stamp found body now) whole s in
    record {
      moved = omega (arith, r.moved, e);
      told = r.told;
      leaves = ap (λ (x : KeptBytes). state_of assembly.limit x told) r.is ∙ ap (λ x. state_of assembly.limit (fed kept assembly.limit all stamp).kept x) (t ∙ r.frame);
    }

-- What is remembered of an answer is what it tells.
pub remembered : (found : Found) (body : List ℕ) (first : Stamp) → FoundFits found body → IsToldBy found (frame_found found body first)
remembered More body first f = refl
remembered (HeadFound h) body first f = refl
remembered (WholeFound h) body first f = (refl, (refl, length-take-le h.size body f))
remembered (CutFound h) body first f = refl
