-- What finds say of the bytes that their frames cover: the place up to which all bytes are covered goes on with each frame
-- that begins there or before.
use Rattle.std.proofs.Common.{◌≡◌, ◌∙◌, sym, ap, refl, ℕ, suc, zero, ◌+◌, ◌-◌, List, [], ◌∷◌, length, take, drop, arith}
use Rattle.std.specs.Prelude.{Bool, true, false, ◌||◌, nat_lt}
use Rattle.std.specs.List.{All, list_any}
use Rattle.std.specs.declared.option.Option.{Option}
use Rattle.std.specs.declared.option.Option.TheVariants.{Some, None}
use Rattle.std.proofs.lemmas.List.Elements.{All-head, All-tail}
use Rattle.vc_base.specs.Limits.{most_bytes}
use Rattle.vc_defs.specs.Places.{Frame, OpenFrame, places, leaves_a_byte}
use Rattle.vc_defs.specs.Finds.{Find, Head, Ended, known_at, finds_in, finds}
use Rattle.vc_resync.specs.declared.feeding.Found.{Found}
use Rattle.vc_resync.specs.declared.feeding.Found.TheVariants.{Whole, Cut}
use Rattle.vc_resync.specs.Assembling.{found_of, found_at_end}
use Rattle.vc_coverage.specs.declared.reach.Reach.{Reach}
use Rattle.vc_coverage.specs.KeyHeaders.{is_key_head, has_key_header}
use Rattle.vc_coverage.specs.Reaching.{first_reach, covered_behind, reach_behind, reach_of}
use Rattle.vc_coverage.specs.Covering.{CoverageState, HasRead}
use Rattle.vc_coverage.proofs.ChainsCoverUpToAPlace.{covered_by, leaves}
use Rattle.vc_coverage.proofs.EndsOfFrames.{IsKnownAt, EndsRight, ends_right, in_chain}

-- one find more
pub reach_on : (r : Reach) (n : ℕ) (fs : List Find) (f : Find) (later : List Find) → drop n fs ≡ f ∷ later → reach_of r (take (suc n) fs) ≡ reach_behind (reach_of r (take n fs)) (known_at f) (found_of (Some f))
reach_on r n [] f later e = absurd (none_left n e)
  where
    none_left : (n : ℕ) → drop n [] ≡ f ∷ later → ⊥
    none_left zero e = absurd cc
    none_left (suc n) e = absurd cc
reach_on r zero (g ∷ fs) f later e =
    let same : g ≡ f = cc in
    ap (λ (x : Find). reach_behind r (known_at x) (found_of (Some x))) same
reach_on r (suc n) (g ∷ fs) f later e = reach_on (reach_behind r (known_at g) (found_of (Some g))) n fs f later e

-- behind a frame's end
end_covers : (r : Reach) (f : Frame) → EndsRight f → reach_behind r f.known (found_at_end f) ≡ record { begins = r.begins; covered = covered_behind r.covered r.begins f.end; key = r.key }
end_covers r f h = by_body f.body h
  where
    by_body : (o : Option (List ℕ)) → IsKnownAt o f.end f.known → reach_behind r f.known (elim o as (λ _. Found) [ None ↦ Cut f.header | Some body ↦ Whole f.header ]) ≡ record { begins = r.begins; covered = covered_behind r.covered r.begins f.end; key = r.key }
    by_body None e =
        let end : f.known - 8 ≡ f.end = omega (arith, e) in
        ap (λ n. let x : Reach = record { begins = r.begins; covered = covered_behind r.covered r.begins n; key = r.key } in x) end
    by_body (Some body) e = ap (λ n. let x : Reach = record { begins = r.begins; covered = covered_behind r.covered r.begins n; key = r.key } in x) e

covered_is : (r : Reach) (fs : List Frame) (u : Option OpenFrame) → All EndsRight fs → (reach_of r (finds_in fs u)).covered ≡ covered_by r.covered fs
covered_is r [] None a = refl
covered_is r [] (Some f) a = refl
covered_is r (f ∷ fs) u a =
    let headed : Reach = record { begins = f.position + 44 - 44; covered = r.covered; key = r.key || f.header.key } in
    let begins : f.position + 44 - 44 ≡ f.position = omega arith in
    ap (λ (x : Reach). (reach_of x (finds_in fs u)).covered) (end_covers headed f (All-head EndsRight f fs a))
    ∙ covered_is (record { begins = headed.begins; covered = covered_behind headed.covered headed.begins f.end; key = headed.key }) fs u (All-tail EndsRight f fs a)
    ∙ ap (λ n. covered_by (covered_behind r.covered n f.end) fs) begins

or_assoc : (a b c : Bool) → ((a || b) || c) ≡ (a || (b || c))
or_assoc true b c = refl
or_assoc false b c = refl

or_nothing : (a : Bool) → a ≡ (a || false)
or_nothing true = refl
or_nothing false = refl

-- a frame's end is no header
end_keeps : (r : Reach) (f : Frame) → (reach_behind r f.known (found_at_end f)).key ≡ r.key
end_keeps r f = by_body f.body
  where
    by_body : (o : Option (List ℕ)) → (reach_behind r f.known (elim o as (λ _. Found) [ None ↦ Cut f.header | Some body ↦ Whole f.header ])).key ≡ r.key
    by_body None = refl
    by_body (Some body) = refl

key_is : (r : Reach) (fs : List Find) → (reach_of r fs).key ≡ (r.key || list_any is_key_head fs)
key_is r [] = or_nothing r.key
key_is r (Head position h ∷ fs) =
    key_is (record { begins = position + 44 - 44; covered = r.covered; key = r.key || h.key }) fs ∙ or_assoc r.key h.key (list_any is_key_head fs)
key_is r (Ended f ∷ fs) = key_is (reach_behind r f.known (found_at_end f)) fs ∙ ap (λ b. b || list_any is_key_head fs) (end_keeps r f)

-- What was read leaves a byte exactly where the covered bytes aren't all.
pub leaves_is : (c : CoverageState) (bytes : List ℕ) → HasRead c bytes → nat_lt c.reach.covered c.read ≡ leaves_a_byte bytes most_bytes
unfolding finds
leaves_is c bytes h =
    let fs : List Frame = (places bytes most_bytes).frames in
    let covered : c.reach.covered ≡ covered_by 0 fs = ap (λ (r : Reach). r.covered) h.reach ∙ covered_is first_reach fs (places bytes most_bytes).unfinished (ends_right most_bytes bytes) in
    ap (λ n. nat_lt n c.read) covered ∙ ap (λ n. nat_lt (covered_by 0 fs) n) h.read ∙ sym (leaves (length bytes) fs (in_chain most_bytes bytes))

-- The header of an I frame was read exactly where one is known in the bytes.
pub key_header_is : (c : CoverageState) (bytes : List ℕ) → HasRead c bytes → c.reach.key ≡ has_key_header bytes most_bytes
key_header_is c bytes h = ap (λ (r : Reach). r.key) h.reach ∙ key_is first_reach (finds bytes most_bytes)
