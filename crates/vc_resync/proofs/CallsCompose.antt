-- A call over bytes that tells nothing is the beginning of a call over more bytes, and one that tells something is
-- the whole of it. Later bytes change nothing of what is told of the bytes before them.
use Rattle.std.proofs.Common.{◌≡◌, ◌∙◌, sym, ap, refl, subst, ℕ, ◌+◌, ◌-◌, ◌≤◌, List, [], ◌∷◌, ◌++◌, length, take, drop, get_or, replicate, arith, append_assoc, length-append}
use Rattle.std.specs.Prelude.{option_map}
use Rattle.std.specs.List.{All}
use Rattle.std.specs.declared.option.Option.{Option}
use Rattle.std.specs.declared.option.Option.TheVariants.{Some, None}
use Rattle.std.proofs.lemmas.Option.{none-some}
use Rattle.std.proofs.lemmas.List.{take_all, replicate-append-replicate, length-replicate, length-take-le, get_or_append_left, drop-append-le, take-append-le}
use Rattle.std.proofs.Math.Seq.{take-append-add}
use Rattle.std.proofs.lemmas.List.Elements.{All-head, All-drop}
use Rattle.vc_base.specs.declared.Stamp.{Stamp}
use Rattle.vc_base.specs.Buffers.{zero_stamp}
use Rattle.vc_defs.specs.Finds.{Find, Head, Ended, position_of, known_at, finds, moved_find, KeptBytes, nothing_kept, FedStep, fed}
use Rattle.vc_defs.specs.Laws.{IsTold, kept_at, TellsFind, told_after}
use Rattle.vc_defs.proofs.BlocksAreRead.{some_same}
use Rattle.vc_defs.proofs.FedInPieces.{feeding, goes_on_at, Neat, all_neat, neat_drop, neat_known}
use Rattle.vc_defs.proofs.FindsInOrder.{finds_stay}
use Rattle.vc_defs.proofs.ResultsInOrder.{all_inside}
use Rattle.vc_defs.proofs.StateBetweenRuns.{begins_fresh}
use Rattle.vc_resync.specs.Assembling.{found_of, frame_of}
use Rattle.vc_resync.specs.Continuing.{IsKept, SameAnswer}

abbrev head_of : List Find → Option Find
head_of [] = None
head_of (f ∷ fs) = Some f

-- the place of a find is no part of the answer
found_moved : (k : ℕ) (f : Find) → found_of (Some (moved_find k f)) ≡ found_of (Some f)
found_moved k (Head position h) = refl
found_moved k (Ended f) = refl

frame_moved : (k : ℕ) (f : Find) (stamp : Stamp) → frame_of (Some (moved_find k f)) stamp ≡ frame_of (Some f) stamp
frame_moved k (Head position h) stamp = refl
frame_moved k (Ended f) stamp = refl

-- where what comes next is known
abbrev end_of : ℕ → List Find → ℕ
end_of all [] = all
end_of all (f ∷ fs) = known_at f

-- what a call is said to tell, as an answer
record Answers (step : FedStep) (start all : ℕ) (stamp : ℕ → Stamp) (fs : List Find) : Type 0 where
  found : found_of step.told ≡ found_of (head_of fs)
  frame : (f : Find) (later : List Find) → fs ≡ f ∷ later → frame_of step.told step.stamp ≡ frame_of (Some f) (stamp (position_of f))
  none : fs ≡ [] → step.told ≡ None
  some : (f : Find) (later : List Find) → fs ≡ f ∷ later → (g : Find) × (step.told ≡ Some g)
  moved : start + step.moved ≡ end_of all fs

answers_of : (step : FedStep) (from : ℕ) (bytes more : List ℕ) (stamp : ℕ → Stamp) (fs : List Find) → TellsFind step from bytes more stamp fs → Answers step (length bytes) (length bytes + length more) stamp fs
answers_of step from bytes more stamp [] t = record {
  found = ap (λ o. found_of o) t.0;
  frame = λ f later e. absurd cc;
  none = λ e. t.0;
  some = λ f later e. absurd cc;
  moved = ap (λ k. length bytes + k) t.1;
}
answers_of step from bytes more stamp (next ∷ later) t = record {
  found = by_told step.told t.0;
  frame = λ f rest e. framed step.told t.0 f rest e;
  none = λ e. absurd cc;
  some = λ f rest e. is_some step.told refl t.0;
  moved = t.2;
}
  where
    is_some : (o : Option Find) → step.told ≡ o → option_map (moved_find from) o ≡ Some next → (g : Find) × (step.told ≡ Some g)
    is_some None is e = absurd (none-some next e)
    is_some (Some g) is e = (g, is)

    by_told : (o : Option Find) → option_map (moved_find from) o ≡ Some next → found_of o ≡ found_of (Some next)
    by_told None e = absurd (none-some next e)
    by_told (Some g) e = sym (found_moved from g) ∙ ap (λ f. found_of (Some f)) (some_same (moved_find from g) next e)

    framed : (o : Option Find) → option_map (moved_find from) o ≡ Some next → (f : Find) (rest : List Find) → next ∷ later ≡ f ∷ rest → frame_of o step.stamp ≡ frame_of (Some f) (stamp (position_of f))
    framed None e f rest is = absurd (none-some next e)
    framed (Some g) e f rest is =
        let same : next ≡ f = cc in
        sym (frame_moved from g step.stamp)
        ∙ ap (λ f. frame_of (Some f) step.stamp) (some_same (moved_find from g) next e)
        ∙ ap (λ s. frame_of (Some next) s) t.1
        ∙ ap (λ f. frame_of (Some f) (stamp (position_of f))) same

-- the stamps of bytes and of more
abbrev at_stamps : List Stamp → ℕ → Stamp
at_stamps stamps p = get_or stamps p zero_stamp

-- What a call over more bytes answers where so much was told of some.
record Called (limit : ℕ) (bytes more : List ℕ) (stamps : List Stamp) (stamp : Stamp) (told : ℕ) (step : FedStep) : Type 0 where
  answers : Answers step (length bytes) (length bytes + length more) (at_stamps (stamps ++ replicate (length more) stamp)) (drop told (finds (bytes ++ more) limit))
  inside : step.moved ≤ length more
  all_told : IsTold (bytes ++ take step.moved more) limit (told_after told (drop told (finds (bytes ++ more) limit)))
  kept : step.kept ≡ kept_at (bytes ++ take step.moved more) (stamps ++ replicate step.moved stamp) limit (told_after told (drop told (finds (bytes ++ more) limit)))

end_inside : (all : ℕ) (fs : List Find) → All (λ f. known_at f ≤ all) fs → end_of all fs ≤ all
end_inside all [] a = omega arith
end_inside all (f ∷ fs) a = All-head (λ f. known_at f ≤ all) f fs a

called : (limit : ℕ) (bytes more : List ℕ) (stamps : List Stamp) (stamp : Stamp) (told : ℕ) → length stamps ≡ length bytes → IsTold bytes limit told → Called limit bytes more stamps stamp told (fed (kept_at bytes stamps limit told) limit more stamp)
called limit bytes more stamps stamp told long t =
    let step : FedStep = fed (kept_at bytes stamps limit told) limit more stamp in
    let r = feeding limit bytes more stamps stamp told long t in
    let a = answers_of step (length bytes - length (kept_at bytes stamps limit told).tail) bytes more (at_stamps (stamps ++ replicate (length more) stamp)) (drop told (finds (bytes ++ more) limit)) r.1 in
    let high : end_of (length bytes + length more) (drop told (finds (bytes ++ more) limit)) ≤ length bytes + length more =
    end_inside (length bytes + length more) (drop told (finds (bytes ++ more) limit))
    (All-drop (λ f. known_at f ≤ length bytes + length more) told (finds (bytes ++ more) limit)
    (subst (λ (n : ℕ). All (λ f. known_at f ≤ n) (finds (bytes ++ more) limit)) (length-append bytes more) (all_inside limit (bytes ++ more)))) in
    record { answers = a; inside = omega (arith, a.moved, high); all_told = r.2; kept = r.3 }

-- What is kept after a call is what was taken asks for.
pub reaches : (limit : ℕ) (kept : KeptBytes) (more : List ℕ) (stamp : Stamp) → IsKept limit kept → IsKept limit (fed kept limit more stamp).kept
reaches limit kept more stamp k =
    subst (λ (s : KeptBytes). IsKept limit (fed s limit more stamp).kept) (sym k.is)
    (
    let step : FedStep = fed (kept_at k.bytes k.stamps limit k.told) limit more stamp in
    let c = called limit k.bytes more k.stamps stamp k.told k.long k.all_told in
    record {
      bytes = k.bytes ++ take step.moved more;
      stamps = k.stamps ++ replicate step.moved stamp;
      told = told_after k.told (drop k.told (finds (k.bytes ++ more) limit));
      long = omega (arith, k.long, length-append k.stamps (replicate step.moved stamp), length-append k.bytes (take step.moved more), length-replicate step.moved stamp, length-take-le step.moved more c.inside);
      all_told = c.all_told;
      is = c.kept;
    }
    )

-- nothing was taken
pub nothing_is_kept : (limit : ℕ) → IsKept limit nothing_kept
nothing_is_kept limit =
    let b = begins_fresh limit None in
    record { bytes = []; stamps = []; told = 0; long = refl; all_told = b.3; is = sym b.4 }

-- two calls that are told the same, the second of which begins later
same_of : (n start later : ℕ) (all : ℕ) (whole rest : FedStep) (st st' : ℕ → Stamp) (fs : List Find) → Answers whole start all st fs → Answers rest later all st' fs → later ≡ start + n → ((p : ℕ) → st p ≡ st' p) → whole.kept ≡ rest.kept → SameAnswer n whole rest
same_of n start later all whole rest st st' fs a b at stamps kept = record {
  moved = omega (arith, a.moved, b.moved, at);
  found = a.found ∙ sym b.found;
  frame = by_finds fs refl;
  kept = kept;
}
  where
    by_finds : (gs : List Find) → fs ≡ gs → frame_of whole.told whole.stamp ≡ frame_of rest.told rest.stamp
    by_finds [] e = ap (λ o. frame_of o whole.stamp) (a.none e) ∙ sym (ap (λ o. frame_of o rest.stamp) (b.none e))
    by_finds (f ∷ later) e = a.frame f later e ∙ ap (λ s. frame_of (Some f) s) (stamps (position_of f)) ∙ sym (b.frame f later e)

-- A call that tells nothing is the beginning of one over more bytes.
compose_at : (limit : ℕ) (bytes p q : List ℕ) (stamps : List Stamp) (stamp : Stamp) (told : ℕ) → length stamps ≡ length bytes → IsTold bytes limit told → (fed (kept_at bytes stamps limit told) limit p stamp).told ≡ None →
    SameAnswer (length p) (fed (kept_at bytes stamps limit told) limit (p ++ q) stamp) (fed (fed (kept_at bytes stamps limit told) limit p stamp).kept limit q stamp)
compose_at limit bytes p q stamps stamp told long t none = by_finds (drop told (finds (bytes ++ p) limit)) refl
  where
    old : KeptBytes
    old = kept_at bytes stamps limit told

    first : FedStep
    first = fed old limit p stamp

    c : Called limit bytes p stamps stamp told first
    c = called limit bytes p stamps stamp told long t

    all_of : length bytes + length (p ++ q) ≡ length (bytes ++ p) + length q
    all_of = omega (arith, length-append bytes p, length-append p q)

    stamps_of : stamps ++ replicate (length (p ++ q)) stamp ≡ stamps ++ replicate (length p) stamp ++ replicate (length q) stamp
    stamps_of =
        ap (λ n. stamps ++ replicate n stamp) (length-append p q)
        ∙ ap (λ t. stamps ++ t) (sym (replicate-append-replicate (length p) (length q) stamp))
        ∙ sym (append_assoc stamps (replicate (length p) stamp) (replicate (length q) stamp))

    finds_of : finds (bytes ++ p ++ q) limit ≡ finds (bytes ++ (p ++ q)) limit
    finds_of = ap (λ t. finds t limit) (append_assoc bytes p q)

    -- what is kept of the same bytes
    kept_same : (n m k j : ℕ) → n ≡ length p + m → k ≡ j → kept_at (bytes ++ take n (p ++ q)) (stamps ++ replicate n stamp) limit k ≡ kept_at (bytes ++ p ++ take m q) (stamps ++ replicate (length p) stamp ++ replicate m stamp) limit j
    kept_same n m k j e f =
        let taken : bytes ++ take n (p ++ q) ≡ bytes ++ p ++ take m q =
        ap (λ i. bytes ++ take i (p ++ q)) e ∙ ap (λ t. bytes ++ t) (take-append-add p q m) ∙ sym (append_assoc bytes p (take m q)) in
        let stamped : stamps ++ replicate n stamp ≡ stamps ++ replicate (length p) stamp ++ replicate m stamp =
        ap (λ i. stamps ++ replicate i stamp) e ∙ ap (λ t. stamps ++ t) (sym (replicate-append-replicate (length p) m stamp)) ∙ sym (append_assoc stamps (replicate (length p) stamp) (replicate m stamp)) in
        ap (λ t. kept_at t (stamps ++ replicate n stamp) limit k) taken
        ∙ ap (λ t. kept_at (bytes ++ p ++ take m q) t limit k) stamped
        ∙ ap (λ i. kept_at (bytes ++ p ++ take m q) (stamps ++ replicate (length p) stamp ++ replicate m stamp) limit i) f

    after_none : drop told (finds (bytes ++ p) limit) ≡ [] → SameAnswer (length p) (fed old limit (p ++ q) stamp) (fed first.kept limit q stamp)
    after_none e =
        let moved : first.moved ≡ length p = omega (arith, c.answers.moved, ap (λ t. end_of (length bytes + length p) t) e) in
        let taken : take first.moved p ≡ p = take_all first.moved p (omega (arith, moved)) in
        let same_told : told_after told (drop told (finds (bytes ++ p) limit)) ≡ told = ap (λ t. told_after told t) e in
        let told_there : IsTold (bytes ++ p) limit told =
        subst (λ (n : ℕ). IsTold (bytes ++ p) limit n) same_told (subst (λ (t : List ℕ). IsTold (bytes ++ t) limit (told_after told (drop told (finds (bytes ++ p) limit)))) taken c.all_told) in
        let there : KeptBytes = kept_at (bytes ++ p) (stamps ++ replicate (length p) stamp) limit told in
        let kept_there : first.kept ≡ there =
        c.kept
        ∙ ap (λ t. kept_at (bytes ++ t) (stamps ++ replicate first.moved stamp) limit (told_after told (drop told (finds (bytes ++ p) limit)))) taken
        ∙ ap (λ n. kept_at (bytes ++ p) (stamps ++ replicate n stamp) limit (told_after told (drop told (finds (bytes ++ p) limit)))) moved
        ∙ ap (λ n. kept_at (bytes ++ p) (stamps ++ replicate (length p) stamp) limit n) same_told in
        let whole : FedStep = fed old limit (p ++ q) stamp in
        let rest : FedStep = fed there limit q stamp in
        let a = called limit bytes (p ++ q) stamps stamp told long t in
        let b = called limit (bytes ++ p) q (stamps ++ replicate (length p) stamp) stamp told (omega (arith, long, length-append stamps (replicate (length p) stamp), length-replicate (length p) stamp, length-append bytes p)) told_there in
        let b' = subst (λ (n : ℕ). Answers rest (length (bytes ++ p)) n (at_stamps (stamps ++ replicate (length p) stamp ++ replicate (length q) stamp)) (drop told (finds (bytes ++ p ++ q) limit))) (sym all_of) b.answers in
        let b'' = subst (λ (t : List Find). Answers rest (length (bytes ++ p)) (length bytes + length (p ++ q)) (at_stamps (stamps ++ replicate (length p) stamp ++ replicate (length q) stamp)) (drop told t)) finds_of b' in
        let later : whole.moved ≡ length p + rest.moved = omega (arith, a.answers.moved, b''.moved, length-append bytes p) in
        let kept : whole.kept ≡ rest.kept =
        a.kept
        ∙ kept_same whole.moved rest.moved (told_after told (drop told (finds (bytes ++ (p ++ q)) limit))) (told_after told (drop told (finds (bytes ++ p ++ q) limit))) later (ap (λ t. told_after told (drop told t)) (sym finds_of))
        ∙ sym b.kept in
        subst (λ (k : KeptBytes). SameAnswer (length p) whole (fed k limit q stamp)) (sym kept_there)
        (same_of (length p) (length bytes) (length (bytes ++ p)) (length bytes + length (p ++ q)) whole rest
        (at_stamps (stamps ++ replicate (length (p ++ q)) stamp)) (at_stamps (stamps ++ replicate (length p) stamp ++ replicate (length q) stamp)) (drop told (finds (bytes ++ (p ++ q)) limit))
        a.answers b'' (length-append bytes p) (λ i. ap (λ t. at_stamps t i) stamps_of) kept)

    by_finds : (fs : List Find) → drop told (finds (bytes ++ p) limit) ≡ fs → SameAnswer (length p) (fed old limit (p ++ q) stamp) (fed first.kept limit q stamp)
    by_finds [] e = after_none e
    by_finds (f ∷ later) e = let s = c.answers.some f later e in absurd (none-some s.0 (sym none ∙ s.1))

pub compose : (limit : ℕ) (kept : KeptBytes) (p q : List ℕ) (stamp : Stamp) → IsKept limit kept → (fed kept limit p stamp).told ≡ None → SameAnswer (length p) (fed kept limit (p ++ q) stamp) (fed (fed kept limit p stamp).kept limit q stamp)
compose limit kept p q stamp k none =
    subst (λ (s : KeptBytes). SameAnswer (length p) (fed s limit (p ++ q) stamp) (fed (fed s limit p stamp).kept limit q stamp)) (sym k.is)
    (compose_at limit k.bytes p q k.stamps stamp k.told k.long k.all_told (subst (λ (s : KeptBytes). (fed s limit p stamp).told ≡ None) k.is none))

-- A call that tells something tells the same over more bytes.
front_at : (limit : ℕ) (bytes p q : List ℕ) (stamps : List Stamp) (stamp : Stamp) (told : ℕ) (find : Find) → length stamps ≡ length bytes → IsTold bytes limit told → (fed (kept_at bytes stamps limit told) limit p stamp).told ≡ Some find →
    SameAnswer 0 (fed (kept_at bytes stamps limit told) limit (p ++ q) stamp) (fed (kept_at bytes stamps limit told) limit p stamp)
front_at limit bytes p q stamps stamp told find long t some = by_finds (drop told (finds (bytes ++ p) limit)) refl
  where
    old : KeptBytes
    old = kept_at bytes stamps limit told

    whole : FedStep
    whole = fed old limit (p ++ q) stamp

    first : FedStep
    first = fed old limit p stamp

    a : Called limit bytes (p ++ q) stamps stamp told whole
    a = called limit bytes (p ++ q) stamps stamp told long t

    b : Called limit bytes p stamps stamp told first
    b = called limit bytes p stamps stamp told long t

    by_finds : (fs : List Find) → drop told (finds (bytes ++ p) limit) ≡ fs → SameAnswer 0 whole first
    by_finds [] e = absurd (none-some find (sym (b.answers.none e) ∙ some))
    by_finds (f ∷ later) e =
        let s = finds_stay limit (bytes ++ p) q in
        let fs : List Find = later ++ s.0 in
        let longer : drop told (finds (bytes ++ (p ++ q)) limit) ≡ f ∷ fs =
        ap (λ t. drop told (finds t limit)) (sym (append_assoc bytes p q))
        ∙ ap (λ t. drop told t) s.1.0
        ∙ drop-append-le told (finds (bytes ++ p) limit) s.0 (short told (finds (bytes ++ p) limit) f later e)
        ∙ ap (λ t. t ++ s.0) e in
        let end : length bytes + whole.moved ≡ known_at f = a.answers.moved ∙ ap (λ t. end_of (length bytes + length (p ++ q)) t) longer in
        let end' : length bytes + first.moved ≡ known_at f = b.answers.moved ∙ ap (λ t. end_of (length bytes + length p) t) e in
        let moved : whole.moved ≡ first.moved = omega (arith, end, end') in
        let taken : take whole.moved (p ++ q) ≡ take first.moved p = ap (λ n. take n (p ++ q)) moved ∙ take-append-le first.moved p q b.inside in
        let stamped : at_stamps (stamps ++ replicate (length (p ++ q)) stamp) (position_of f) ≡ at_stamps (stamps ++ replicate (length p) stamp) (position_of f) =
        let stamps_of : stamps ++ replicate (length (p ++ q)) stamp ≡ stamps ++ replicate (length p) stamp ++ replicate (length q) stamp =
        ap (λ n. stamps ++ replicate n stamp) (length-append p q)
        ∙ ap (λ t. stamps ++ t) (sym (replicate-append-replicate (length p) (length q) stamp))
        ∙ sym (append_assoc stamps (replicate (length p) stamp) (replicate (length q) stamp)) in
        let low : position_of f + 44 ≤ known_at f = neat_known f later (subst (λ (t : List Find). Neat t) e (neat_drop told (finds (bytes ++ p) limit) (all_neat limit (bytes ++ p)))) in
        ap (λ t. at_stamps t (position_of f)) stamps_of
        ∙ get_or_append_left (stamps ++ replicate (length p) stamp) (replicate (length q) stamp) zero_stamp (position_of f)
        (omega (arith, low, end', b.inside, long, length-append stamps (replicate (length p) stamp), length-replicate (length p) stamp)) in
        record {
          moved = omega (arith, moved);
          found = a.answers.found ∙ ap (λ t. found_of (head_of t)) longer ∙ sym (ap (λ t. found_of (head_of t)) e) ∙ sym b.answers.found;
          frame = a.answers.frame f fs longer ∙ ap (λ s. frame_of (Some f) s) stamped ∙ sym (b.answers.frame f later e);
          kept = a.kept
              ∙ ap (λ t. kept_at (bytes ++ t) (stamps ++ replicate whole.moved stamp) limit (told_after told (drop told (finds (bytes ++ (p ++ q)) limit)))) taken
              ∙ ap (λ n. kept_at (bytes ++ take first.moved p) (stamps ++ replicate n stamp) limit (told_after told (drop told (finds (bytes ++ (p ++ q)) limit)))) moved
              ∙ ap (λ t. kept_at (bytes ++ take first.moved p) (stamps ++ replicate first.moved stamp) limit (told_after told t)) longer
              ∙ sym (ap (λ t. kept_at (bytes ++ take first.moved p) (stamps ++ replicate first.moved stamp) limit (told_after told t)) e)
              ∙ sym b.kept;
        }
      where
        short : (n : ℕ) (xs : List Find) (f : Find) (later : List Find) → drop n xs ≡ f ∷ later → n ≤ length xs
        short n xs f later e = let g = goes_on_at n xs f later e in omega (arith, g.0)

pub front : (limit : ℕ) (kept : KeptBytes) (p q : List ℕ) (stamp : Stamp) (find : Find) → IsKept limit kept → (fed kept limit p stamp).told ≡ Some find → SameAnswer 0 (fed kept limit (p ++ q) stamp) (fed kept limit p stamp)
front limit kept p q stamp find k some =
    subst (λ (s : KeptBytes). SameAnswer 0 (fed s limit (p ++ q) stamp) (fed s limit p stamp)) (sym k.is)
    (front_at limit k.bytes p q k.stamps stamp k.told find k.long k.all_told (subst (λ (s : KeptBytes). (fed s limit p stamp).told ≡ Some find) k.is some))
