-- One feed of a coverage's assembly. It tells the next find of the bytes, or that there is none yet; so what is known of the
-- frames goes on by exactly the finds that the bytes have more.
use Rattle.std.proofs.Common.{◌≡◌, ◌∙◌, sym, ap, refl, subst, ℕ, suc, zero, ◌+◌, ◌-◌, ◌%◌, ◌*◌, ◌<◌, ◌≤◌, List, [], ◌∷◌, ◌++◌, length, take, drop, get_or, replicate, arith, append_assoc, length-append, length-drop}
use Rattle.std.specs.Prelude.{◌↔◌, Bool, true, false, nat_le, cond, option_map}
use Rattle.std.specs.List.{All}
use Rattle.std.specs.declared.option.Option.{Option}
use Rattle.std.specs.declared.option.Option.TheVariants.{Some, None}
use Rattle.std.proofs.lemmas.Option.{none-some}
use Rattle.std.proofs.lemmas.Bool.{cond-true, cond-false}
use Rattle.std.proofs.lemmas.Bool.Decides.{nat_tests}
use Rattle.std.proofs.lemmas.List.{take_all, take-append-drop, take-append-le, drop-append-le, length-replicate, length-take-le}
use Rattle.std.proofs.Math.Seq.{take-add}
use Rattle.std.proofs.lemmas.List.Elements.{All-nil, All-head, All-drop}
use Rattle.vc_base.specs.declared.Stamp.{Stamp}
use Rattle.vc_base.specs.Buffers.{zero_stamp}
use Rattle.vc_base.specs.Limits.{most_bytes}
use Rattle.vc_defs.specs.Places.{look, places}
use Rattle.vc_defs.specs.Finds.{Find, Head, Ended, position_of, known_at, finds, moved_find, told_of_tail, KeptBytes, FedStep, fed_by, fed, nothing_kept}
use Rattle.vc_defs.specs.Laws.{IsTold, IsEndAt, kept_at, TellsFind, told_after}
use Rattle.vc_defs.proofs.FedInPieces.{Neat, all_neat, neat_drop, neat_known, feeding}
use Rattle.vc_defs.proofs.FindsInOrder.{finds_stay}
use Rattle.vc_defs.proofs.ResultsInOrder.{all_inside}
use Rattle.vc_defs.proofs.StateBetweenRuns.{begins_fresh}
use Rattle.vc_resync.specs.declared.feeding.Found.{Found}
use Rattle.vc_resync.specs.declared.feeding.Found.TheVariants.{More, Whole, Cut}
use Rattle.vc_resync.specs.Assembling.{AssemblyState, found_of, assembly_after, is_told}
use Rattle.vc_coverage.specs.declared.reach.Reach.{Reach}
use Rattle.vc_coverage.specs.Reaching.{first_reach, reach_behind, reach_of}
use Rattle.vc_coverage.specs.Covering.{CoverageState, HasRead}
use Rattle.vc_coverage.proofs.FindsAreReached.{reach_on}

-- So many bytes were fed, and what is known of the finds that were told; maybe not all of them were.
pub record Stands (assembly : AssemblyState) (read : ℕ) (reach : Reach) (bytes : List ℕ) : Type 0 where
  pub stamps : List Stamp
  pub told : ℕ
  pub long : length stamps ≡ length bytes
  pub limit : assembly.limit ≡ most_bytes
  pub all_told : IsTold bytes most_bytes told
  pub kept : assembly.kept ≡ kept_at bytes stamps most_bytes told
  pub read_is : read ≡ length bytes
  pub reach_is : reach ≡ reach_of first_reach (take told (finds bytes most_bytes))

drop_whole : {A : Type 0} (n : ℕ) (xs : List A) → n ≡ length xs → drop n xs ≡ []
drop_whole zero [] e = refl
drop_whole zero (x ∷ xs) e = absurd (omega arith)
drop_whole (suc n) [] e = refl
drop_whole (suc n) (x ∷ xs) e = drop_whole n xs (omega arith)

-- where all was told before
pub stands_first : (c : CoverageState) (bytes : List ℕ) → HasRead c bytes → Stands c.assembly c.read c.reach bytes
stands_first c bytes h =
    let fs : List Find = finds bytes most_bytes in
    record {
      stamps = h.stamps;
      told = length fs;
      long = h.long;
      limit = h.limit;
      all_told = (omega arith, subst (λ (t : List Find). All (IsEndAt (length bytes)) t) (sym (drop_whole (length fs) fs refl)) (All-nil (IsEndAt (length bytes))));
      kept = h.kept;
      read_is = h.read;
      reach_is = h.reach ∙ ap (λ t. reach_of first_reach t) (sym (take_all (length fs) fs (omega arith)));
    }

-- where all was told again
has_read : (assembly : AssemblyState) (read : ℕ) (reach : Reach) (bytes : List ℕ) (s : Stands assembly read reach bytes) → s.told ≡ length (finds bytes most_bytes) → HasRead (record { assembly = assembly; read = read; reach = reach }) bytes
has_read assembly read reach bytes s e = record {
  stamps = s.stamps;
  long = s.long;
  limit = s.limit;
  kept = s.kept ∙ ap (λ n. kept_at bytes s.stamps most_bytes n) e;
  read = s.read_is;
  reach = s.reach_is ∙ ap (λ t. reach_of first_reach t) (take_all s.told (finds bytes most_bytes) (omega (arith, e)));
}

-- where nothing was read
pub reads_nothing : (assembly : AssemblyState) (read : ℕ) (reach : Reach) → assembly ≡ record { limit = most_bytes; kept = nothing_kept; told = None } → read ≡ 0 → reach ≡ first_reach → HasRead (record { assembly = assembly; read = read; reach = reach }) []
unfolding finds places look
reads_nothing assembly read reach a n r = record {
  stamps = [];
  long = refl;
  limit = ap (λ (x : AssemblyState). x.limit) a;
  kept = ap (λ (x : AssemblyState). x.kept) a ∙ sym (begins_fresh most_bytes None).4;
  read = n;
  reach = r;
}

-- a feed answered so
pub record IsFed (old : AssemblyState) (rest : List ℕ) (count : ℕ) (found : Found) (new : AssemblyState) : Type 0 where
  pub taken : count ≡ (fed old.kept old.limit rest zero_stamp).moved
  pub found_is : found ≡ found_of (fed old.kept old.limit rest zero_stamp).told
  pub after : new ≡ assembly_after old (fed old.kept old.limit rest zero_stamp)

-- how far the feeds are from their end: each takes a byte or tells the end of a frame whose header was told
abbrev pub ahead : List ℕ → ℕ → ℕ
ahead tail rest = 2 * rest + told_of_tail tail

-- What one feed does.
pub record Turn (old new : AssemblyState) (read : ℕ) (reach : Reach) (bytes rest : List ℕ) (count : ℕ) (found : Found) : Type 0 where
  pub header : is_told found ≡ true → 44 ≤ read + count
  pub inside : count ≤ length rest
  pub stands : Stands new (read + count) (reach_behind reach (read + count) found) (bytes ++ take count rest)
  pub ends : found ≡ More → HasRead (record { assembly = new; read = read + count; reach = reach_behind reach (read + count) found }) (bytes ++ rest) × (count ≡ length rest)
  pub closer : is_told found ≡ true → ahead new.kept.tail (length rest - count) < ahead old.kept.tail (length rest)

-- the place of a find is no part of the answer
found_moved : (k : ℕ) (o : Option Find) → found_of (option_map (moved_find k) o) ≡ found_of o
found_moved k None = refl
found_moved k (Some (Head position h)) = refl
found_moved k (Some (Ended f)) = refl

find_is_told : (f : Find) → is_told (found_of (Some f)) ≡ true
find_is_told (Head position h) = refl
find_is_told (Ended f) = by_body f.body
  where
    by_body : (o : Option (List ℕ)) → is_told (elim o as (λ _. Found) [ None ↦ Cut f.header | Some body ↦ Whole f.header ]) ≡ true
    by_body None = refl
    by_body (Some body) = refl

nothing_left : {A : Type 0} (n : ℕ) (xs : List A) → drop n xs ≡ [] → length xs ≤ n
nothing_left n xs e = omega (arith, ap length e, length-drop n xs)

-- what stands at a place that is told
one_there : (n : ℕ) (fs : List Find) → suc n ≤ length fs → (f : Find) × (drop n fs ≡ f ∷ drop (suc n) fs)
one_there n [] h = absurd (omega arith)
one_there zero (f ∷ fs) h = (f, refl)
one_there (suc n) (f ∷ fs) h = one_there n fs (omega arith)

some_of : (k : ℕ) (o : Option Find) (next : Find) → option_map (moved_find k) o ≡ Some next → (g : Find) × (o ≡ Some g)
some_of k None next e = absurd (none-some next e)
some_of k (Some g) next e = (g, refl)

-- a feed that tells a find takes a byte, where no whole header is kept
takes_some : (kept : KeptBytes) (limit : ℕ) (source : List ℕ) (stamp : Stamp) (find : Find) → length kept.tail < 44 → (fed kept limit source stamp).told ≡ Some find → 0 < (fed kept limit source stamp).moved
unfolding fed
takes_some kept limit source stamp find short some =
    by_finds (drop (told_of_tail kept.tail) (finds (kept.tail ++ source) limit))
    (neat_drop (told_of_tail kept.tail) (finds (kept.tail ++ source) limit) (all_neat limit (kept.tail ++ source))) some
  where
    by_finds : (fs : List Find) → Neat fs → (fed_by kept limit (kept.tail ++ source) stamp fs).told ≡ Some find → 0 < (fed_by kept limit (kept.tail ++ source) stamp fs).moved
    by_finds [] n e = absurd (none-some find e)
    by_finds (f ∷ fs) n e = let k : position_of f + 44 ≤ known_at f = neat_known f fs n in omega (arith, k, short)

pub turn : (old new : AssemblyState) (read : ℕ) (reach : Reach) (bytes rest : List ℕ) (count : ℕ) (found : Found) → Stands old read reach bytes → IsFed old rest count found new → Turn old new read reach bytes rest count found
turn old new read reach bytes rest count found s f =
    let r = feeding most_bytes bytes rest s.stamps zero_stamp s.told s.long s.all_told in
    subst (λ (n : ℕ). Turn old new read reach bytes rest n found) (sym (f.taken ∙ ap (λ (x : FedStep). x.moved) same))
    (by_next (drop s.told (finds (bytes ++ rest) most_bytes)) refl r.1 r.2 r.3)
  where
    start : KeptBytes
    start = kept_at bytes s.stamps most_bytes s.told

    step : FedStep
    step = fed start most_bytes rest zero_stamp

    same : fed old.kept old.limit rest zero_stamp ≡ step
    same = ap (λ (k : KeptBytes). fed k old.limit rest zero_stamp) s.kept ∙ ap (λ n. fed start n rest zero_stamp) s.limit

    from : ℕ
    from = length bytes - length start.tail

    taken : List ℕ
    taken = bytes ++ take step.moved rest

    found_is : found ≡ found_of step.told
    found_is = f.found_is ∙ ap (λ (x : FedStep). found_of x.told) same

    new_kept : new.kept ≡ step.kept
    new_kept = ap (λ (x : AssemblyState). x.kept) f.after ∙ ap (λ (x : FedStep). x.kept) same

    stamps : List Stamp
    stamps = s.stamps ++ replicate step.moved zero_stamp

    -- the finds that were told before
    told_before : take s.told (finds taken most_bytes) ≡ take s.told (finds bytes most_bytes)
    told_before =
        let stay = finds_stay most_bytes bytes (take step.moved rest) in
        ap (λ t. take s.told t) stay.1.0 ∙ take-append-le s.told (finds bytes most_bytes) stay.0 s.all_told.0

    -- what stands behind the feed
    stands_behind : (told : ℕ) → step.moved ≤ length rest → IsTold taken most_bytes told → step.kept ≡ kept_at taken stamps most_bytes told →
        reach_behind reach (read + step.moved) found ≡ reach_of first_reach (take told (finds taken most_bytes)) → Stands new (read + step.moved) (reach_behind reach (read + step.moved) found) taken
    stands_behind told inside t k e = record {
      stamps = stamps;
      told = told;
      long = omega (arith, s.long, length-append s.stamps (replicate step.moved zero_stamp), length-replicate step.moved zero_stamp, length-append bytes (take step.moved rest), length-take-le step.moved rest inside);
      limit = ap (λ (x : AssemblyState). x.limit) f.after ∙ s.limit;
      all_told = t;
      kept = new_kept ∙ k;
      read_is = omega (arith, s.read_is, length-append bytes (take step.moved rest), length-take-le step.moved rest inside);
      reach_is = e;
    }

    by_next : (fs : List Find) → drop s.told (finds (bytes ++ rest) most_bytes) ≡ fs →
        TellsFind step from bytes rest (λ p. get_or (s.stamps ++ replicate (length rest) zero_stamp) p zero_stamp) fs →
        IsTold taken most_bytes (told_after s.told fs) → step.kept ≡ kept_at taken stamps most_bytes (told_after s.told fs) → Turn old new read reach bytes rest step.moved found
    by_next [] e tells there kept = record {
      header = λ t. let clash : true ≡ false = sym t ∙ ap is_told more in absurd cc;
      inside = omega (arith, tells.1);
      stands = behind;
      ends = λ _. (subst (λ (t : List ℕ). HasRead (record { assembly = new; read = read + step.moved; reach = reach_behind reach (read + step.moved) found }) (bytes ++ t)) all_taken (has_read new (read + step.moved) (reach_behind reach (read + step.moved) found) taken behind all_told), tells.1);
      closer = λ t. let clash : true ≡ false = sym t ∙ ap is_told more in absurd cc;
    }
      where
        more : found ≡ More
        more = found_is ∙ ap found_of tells.0

        all_taken : take step.moved rest ≡ rest
        all_taken = take_all step.moved rest (omega (arith, tells.1))

        behind : Stands new (read + step.moved) (reach_behind reach (read + step.moved) found) taken
        behind =
            stands_behind s.told (omega (arith, tells.1)) there kept
            (ap (λ x. reach_behind reach (read + step.moved) x) more ∙ s.reach_is ∙ ap (λ t. reach_of first_reach t) (sym told_before))

        all_told : s.told ≡ length (finds taken most_bytes)
        all_told =
            let few : length (finds (bytes ++ rest) most_bytes) ≤ s.told = nothing_left s.told (finds (bytes ++ rest) most_bytes) e in
            let whole : length (finds taken most_bytes) ≡ length (finds (bytes ++ rest) most_bytes) = ap (λ t. length (finds (bytes ++ t) most_bytes)) all_taken in
            omega (arith, there.0)
    by_next (next ∷ later) e tells there kept = record {
      header = λ _. omega (arith, known, long, s.read_is, tells.2);
      inside = inside;
      stands = stands_behind (suc s.told) inside there kept reach_right;
      ends = λ m. let clash : true ≡ false = sym told ∙ ap is_told m in absurd cc;
      closer = λ _. closer;
    }
      where
        answer : found ≡ found_of (Some next)
        answer = found_is ∙ sym (found_moved from step.told) ∙ ap found_of tells.0

        told : is_told found ≡ true
        told = ap is_told answer ∙ find_is_told next

        known : position_of next + 44 ≤ known_at next
        known = neat_known next later (subst (λ (t : List Find). Neat t) e (neat_drop s.told (finds (bytes ++ rest) most_bytes) (all_neat most_bytes (bytes ++ rest))))

        high : known_at next ≤ length (bytes ++ rest)
        high = All-head (λ g. known_at g ≤ length (bytes ++ rest)) next later (subst (λ (t : List Find). All (λ g. known_at g ≤ length (bytes ++ rest)) t) e
            (All-drop (λ g. known_at g ≤ length (bytes ++ rest)) s.told (finds (bytes ++ rest) most_bytes) (all_inside most_bytes (bytes ++ rest))))

        long : length bytes + step.moved ≡ known_at next
        long = tells.2

        inside : step.moved ≤ length rest
        inside = omega (arith, long, high, length-append bytes rest)

        whole : bytes ++ rest ≡ taken ++ drop step.moved rest
        whole = ap (λ t. bytes ++ t) (sym (take-append-drop step.moved rest)) ∙ sym (append_assoc bytes (take step.moved rest) (drop step.moved rest))

        -- the find is one of those of the bytes that were taken
        next_there : drop s.told (finds taken most_bytes) ≡ next ∷ drop (suc s.told) (finds taken most_bytes)
        next_there =
            let one = one_there s.told (finds taken most_bytes) there.0 in
            let stay = finds_stay most_bytes taken (drop step.moved rest) in
            let few : s.told ≤ length (finds taken most_bytes) = omega (arith, there.0) in
            let both : one.0 ∷ (drop (suc s.told) (finds taken most_bytes) ++ stay.0) ≡ next ∷ later =
            ap (λ t. t ++ stay.0) (sym one.1)
            ∙ sym (drop-append-le s.told (finds taken most_bytes) stay.0 few)
            ∙ ap (λ t. drop s.told t) (sym stay.1.0)
            ∙ ap (λ t. drop s.told (finds t most_bytes)) (sym whole)
            ∙ e in
            let is : one.0 ≡ next = cc in
            one.1 ∙ ap (λ x. x ∷ drop (suc s.told) (finds taken most_bytes)) is

        reach_right : reach_behind reach (read + step.moved) found ≡ reach_of first_reach (take (suc s.told) (finds taken most_bytes))
        reach_right =
            let place : read + step.moved ≡ known_at next = omega (arith, long, s.read_is) in
            let before : reach ≡ reach_of first_reach (take s.told (finds taken most_bytes)) = s.reach_is ∙ ap (λ t. reach_of first_reach t) (sym told_before) in
            ap (λ n. reach_behind reach n found) place
            ∙ ap (λ x. reach_behind reach (known_at next) x) answer
            ∙ ap (λ x. reach_behind x (known_at next) (found_of (Some next))) before
            ∙ sym (reach_on first_reach s.told (finds taken most_bytes) next (drop (suc s.told) (finds taken most_bytes)) next_there)

        stamps_long : length stamps ≡ length taken
        stamps_long = omega (arith, s.long, length-append s.stamps (replicate step.moved zero_stamp), length-replicate step.moved zero_stamp, length-append bytes (take step.moved rest), length-take-le step.moved rest inside)

        before : (44 ≤ length start.tail) ↔ (s.told % 2 ≡ 1)
        before = (feeding most_bytes bytes rest s.stamps zero_stamp s.told s.long s.all_told).0

        after : (44 ≤ length step.kept.tail) ↔ (suc s.told % 2 ≡ 1)
        after = subst (λ (k : KeptBytes). (44 ≤ length k.tail) ↔ (suc s.told % 2 ≡ 1)) (sym kept) (feeding most_bytes taken [] stamps zero_stamp (suc s.told) stamps_long there).0

        at_most : (tail : List ℕ) → told_of_tail tail ≤ 1
        at_most tail = one_of (nat_le 44 (length tail))
          where
            one_of : (b : Bool) → cond b 1 0 ≤ 1
            one_of true = omega arith
            one_of false = omega arith

        some_taken : length start.tail < 44 → 0 < step.moved
        some_taken short = let g = some_of from step.told next tells.0 in takes_some start most_bytes rest zero_stamp g.0 short g.1

        by_tail : (b : Bool) → nat_le 44 (length start.tail) ≡ b → ahead step.kept.tail (length rest - step.moved) < ahead start.tail (length rest)
        by_tail true t =
            let h : 44 ≤ length start.tail = grind (arith, nat_tests) in
            let odd : s.told % 2 ≡ 1 = before.0 h in
            let one : told_of_tail start.tail ≡ 1 = cond-true (nat_le 44 (length start.tail)) 1 0 t in
            let none : told_of_tail step.kept.tail ≡ 0 = short (nat_le 44 (length step.kept.tail)) refl odd in
            omega (arith, one, none)
          where
            short : (c : Bool) → nat_le 44 (length step.kept.tail) ≡ c → s.told % 2 ≡ 1 → told_of_tail step.kept.tail ≡ 0
            short true t odd =
                let h : 44 ≤ length step.kept.tail = grind (arith, nat_tests) in
                let even : suc s.told % 2 ≡ 1 = after.0 h in
                absurd (omega (arith, even, odd))
            short false t odd = cond-false (nat_le 44 (length step.kept.tail)) 1 0 t
        by_tail false t =
            let h : length start.tail < 44 = grind (arith, nat_tests) in
            let some : 0 < step.moved = some_taken h in
            omega (arith, at_most step.kept.tail, some, inside)

        closer : ahead new.kept.tail (length rest - step.moved) < ahead old.kept.tail (length rest)
        closer =
            subst (λ (k : KeptBytes). ahead k.tail (length rest - step.moved) < ahead old.kept.tail (length rest)) (sym new_kept)
            (subst (λ (k : KeptBytes). ahead step.kept.tail (length rest - step.moved) < ahead k.tail (length rest)) (sym s.kept) (by_tail (nat_le 44 (length start.tail)) refl))

-- the rest of a piece, as the code cuts it off
abbrev pub rest_of : List ℕ → ℕ → List ℕ
rest_of piece taken = take (length piece - taken) (drop taken piece)

-- What one feed in the middle of a piece does, where so many bytes were read before the piece.
pub record Behind (read taken count : ℕ) (piece bytes : List ℕ) (old new : AssemblyState) (reach : Reach) (found : Found) : Type 0 where
  pub header : is_told found ≡ true → 44 ≤ read + (taken + count)
  pub inside : taken + count ≤ length piece
  pub stands : Stands new (read + (taken + count)) (reach_behind reach (read + (taken + count)) found) (bytes ++ take (taken + count) piece)
  pub ends : found ≡ More → HasRead (record { assembly = new; read = read + length piece; reach = reach_behind reach (read + (taken + count)) found }) (bytes ++ piece)
  pub closer : is_told found ≡ true → ahead new.kept.tail (length piece - (taken + count)) < ahead old.kept.tail (length piece - taken)

pub behind : (read taken count : ℕ) (piece bytes : List ℕ) (old new : AssemblyState) (reach : Reach) (found : Found) → taken ≤ length piece → Stands old (read + taken) reach (bytes ++ take taken piece) →
    count ≡ (fed old.kept old.limit (rest_of piece taken) zero_stamp).moved → found ≡ found_of (fed old.kept old.limit (rest_of piece taken) zero_stamp).told → new ≡ assembly_after old (fed old.kept old.limit (rest_of piece taken) zero_stamp) →
    Behind read taken count piece bytes old new reach found
behind read taken count piece bytes old new reach found here s c f a = record {
  header = λ t. omega (arith, one.header t);
  inside = omega (arith, one.inside, long, here);
  stands = subst (λ n. Stands new n (reach_behind reach n found) (bytes ++ take (taken + count) piece)) place (subst (λ (t : List ℕ). Stands new (read + taken + count) (reach_behind reach (read + taken + count) found) t) front one.stands);
  ends = λ m.
      let e = one.ends m in
      let all : read + taken + count ≡ read + length piece = omega (arith, e.1, long, here) in
      subst (λ n. HasRead (record { assembly = new; read = n; reach = reach_behind reach (read + (taken + count)) found }) (bytes ++ piece)) all
      (subst (λ n. HasRead (record { assembly = new; read = read + taken + count; reach = reach_behind reach n found }) (bytes ++ piece)) place
      (subst (λ (t : List ℕ). HasRead (record { assembly = new; read = read + taken + count; reach = reach_behind reach (read + taken + count) found }) t) whole e.0));
  closer = λ t.
      let less = one.closer t in
      let left : length rest - count ≡ length piece - (taken + count) = omega (arith, long) in
      subst (λ n. ahead new.kept.tail n < ahead old.kept.tail (length piece - taken)) left
      (subst (λ n. ahead new.kept.tail (length rest - count) < ahead old.kept.tail n) long less);
}
  where
    rest : List ℕ
    rest = rest_of piece taken

    rest_is : rest ≡ drop taken piece
    rest_is = take_all (length piece - taken) (drop taken piece) (omega (arith, length-drop taken piece))

    long : length rest ≡ length piece - taken
    long = ap length rest_is ∙ length-drop taken piece

    one : Turn old new (read + taken) reach (bytes ++ take taken piece) rest count found
    one = turn old new (read + taken) reach (bytes ++ take taken piece) rest count found s (record { taken = c; found_is = f; after = a })

    place : read + taken + count ≡ read + (taken + count)
    place = omega arith

    front : (bytes ++ take taken piece) ++ take count rest ≡ bytes ++ take (taken + count) piece
    front = append_assoc bytes (take taken piece) (take count rest) ∙ ap (λ t. bytes ++ (take taken piece ++ take count t)) rest_is ∙ ap (λ t. bytes ++ t) (sym (take-add taken count piece))

    whole : (bytes ++ take taken piece) ++ rest ≡ bytes ++ piece
    whole = append_assoc bytes (take taken piece) rest ∙ ap (λ t. bytes ++ (take taken piece ++ t)) rest_is ∙ ap (λ t. bytes ++ t) (take-append-drop taken piece)
