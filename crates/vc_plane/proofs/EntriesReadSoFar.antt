-- The entries of a plane that were read so far, and what is left. Each entry adds its blocks to those before it, so
-- that behind the last all blocks of the plane are read, and an illegal entry makes the plane illegal.
use Rattle.std.proofs.Common.{◌≡◌, ◌∙◌, sym, ap, refl, ℕ, suc, zero, ◌+◌, ◌-◌, ◌<◌, ◌≤◌, List, [], ◌++◌, length, drop, replicate, arith, append_assoc, length-append}
use Rattle.std.specs.Prelude.{ℤ, Bool, false}
use Rattle.std.specs.declared.option.Option.{Option}
use Rattle.std.specs.declared.option.Option.TheVariants.{Some, None}
use Rattle.std.proofs.lemmas.List.{append-nil, length-replicate}
use Rattle.vc_defs.specs.Planes.{Block, block_count, blocks_from, blocks_behind, decoded_plane}
use Rattle.vc_defs.specs.Bodies.{decoded_from, plane_from}
use Rattle.vc_coder.specs.Blocks.{block_with}
use Rattle.vc_plane.specs.Entries.{IsEntryRead, IsNoEntry}
use Rattle.vc_plane.proofs.BlocksAreShownInTurn.{AreDecoded}

-- blocks in front of blocks
pub behind_twice : (a b : List Block) (o : Option (List Block × List ℕ)) → blocks_behind a (blocks_behind b o) ≡ blocks_behind (a ++ b) o
behind_twice a b None = refl
behind_twice a b (Some r) = ap (λ t. Some (t, r.1)) (sym (append_assoc a b r.0))

behind_nothing : (o : Option (List Block × List ℕ)) → o ≡ blocks_behind [] o
behind_nothing None = refl
behind_nothing (Some r) = refl

-- So many blocks were read, and the others are read from the end of these on.
pub record AreParsed (bytes : List ℕ) (at : ℕ) (frame : Bool) (count next end : ℕ) (blocks : List Block) : Type 0 where
  pub turns : ℕ
  pub enough : count - next ≤ turns
  pub many : length blocks ≡ next
  pub parsed : blocks_from count frame count (drop at bytes) ≡ blocks_behind blocks (blocks_from turns frame (count - next) (drop end bytes))

pub none_parsed : (bytes : List ℕ) (at : ℕ) (frame : Bool) (count : ℕ) → AreParsed bytes at frame count 0 at []
none_parsed bytes at frame count =
    let e : count - 0 ≡ count = omega arith in
    record {
      turns = count;
      enough = omega arith;
      many = refl;
      parsed = behind_nothing (blocks_from count frame count (drop at bytes)) ∙ ap (λ n. blocks_behind [] (blocks_from count frame n (drop at bytes))) (sym e);
    }

pub more_parsed : (bytes : List ℕ) (at : ℕ) (frame : Bool) (count next end : ℕ) (blocks : List Block) (inter : Bool) (repeats last end' : ℕ) (values : List ℤ) → next < count → last ≡ next + repeats + 1 → AreParsed bytes at frame count next end blocks →
    IsEntryRead bytes end frame (count - next) inter repeats values end' → AreParsed bytes at frame count last end' (blocks ++ replicate (repeats + 1) (block_with inter values))
more_parsed bytes at frame count next end blocks inter repeats last end' values lt is p e = by_turns p.turns p.enough p.parsed
  where
    by_turns : (turns : ℕ) → count - next ≤ turns → blocks_from count frame count (drop at bytes) ≡ blocks_behind blocks (blocks_from turns frame (count - next) (drop end bytes)) →
        AreParsed bytes at frame count last end' (blocks ++ replicate (repeats + 1) (block_with inter values))
    by_turns zero enough parsed = absurd (omega arith)
    by_turns (suc turns) enough parsed =
        let left : count - next - (repeats + 1) ≡ count - last = omega arith in
        let ones : length (replicate (repeats + 1) (block_with inter values)) ≡ repeats + 1 = length-replicate (repeats + 1) (block_with inter values) in
        record {
          turns = turns;
          enough = omega arith;
          many = length-append blocks (replicate (repeats + 1) (block_with inter values)) ∙ omega (arith, ones, p.many);
          parsed = parsed ∙ ap (λ o. blocks_behind blocks o) (e.step turns) ∙ behind_twice blocks (replicate (repeats + 1) (block_with inter values)) (blocks_from turns frame (count - next - (repeats + 1)) (drop end' bytes))
              ∙ ap (λ n. blocks_behind (blocks ++ replicate (repeats + 1) (block_with inter values)) (blocks_from turns frame n (drop end' bytes))) left;
        }

-- Where no entry stands, no plane does.
pub not_parsed : (bytes : List ℕ) (at : ℕ) (frame : Bool) (count next end : ℕ) (blocks : List Block) → next < count → AreParsed bytes at frame count next end blocks → IsNoEntry bytes end frame (count - next) →
    blocks_from count frame count (drop at bytes) ≡ None
not_parsed bytes at frame count next end blocks lt p none = by_turns p.turns p.enough p.parsed
  where
    by_turns : (turns : ℕ) → count - next ≤ turns → blocks_from count frame count (drop at bytes) ≡ blocks_behind blocks (blocks_from turns frame (count - next) (drop end bytes)) → blocks_from count frame count (drop at bytes) ≡ None
    by_turns zero enough parsed = absurd (omega arith)
    by_turns (suc turns) enough parsed = parsed ∙ ap (λ o. blocks_behind blocks o) (none turns)

none_left : (turns : ℕ) (frame : Bool) (rest : List ℕ) → blocks_from turns frame 0 rest ≡ Some ([], rest)
none_left zero frame rest = refl
none_left (suc turns) frame rest = refl

pub all_parsed : (bytes : List ℕ) (at : ℕ) (frame : Bool) (count next end : ℕ) (blocks : List Block) → count ≤ next → AreParsed bytes at frame count next end blocks → blocks_from count frame count (drop at bytes) ≡ Some (blocks, drop end bytes)
all_parsed bytes at frame count next end blocks le p =
    let e : count - next ≡ 0 = omega arith in
    p.parsed ∙ ap (λ n. blocks_behind blocks (blocks_from p.turns frame n (drop end bytes))) e
    ∙ ap (λ o. blocks_behind blocks o) (none_left p.turns frame (drop end bytes)) ∙ ap (λ t. Some (t, drop end bytes)) (append-nil blocks)

-- The plane of the blocks that were read.
pub plane_of_blocks : (bytes : List ℕ) (at end : ℕ) (frame : Bool) (old new : List ℕ) (width height : ℕ) (blocks : List Block) → blocks_from (block_count width height) frame (block_count width height) (drop at bytes) ≡ Some (blocks, drop end bytes) →
    new ≡ decoded_plane blocks old width height → plane_from false frame old width height (drop at bytes) ≡ Some (new, drop end bytes)
plane_of_blocks bytes at end frame old new width height blocks e is = ap (λ o. decoded_from old width height o) e ∙ ap (λ t. Some (t, drop end bytes)) (sym is)

pub no_plane : (bytes : List ℕ) (at : ℕ) (frame : Bool) (old : List ℕ) (width height : ℕ) → blocks_from (block_count width height) frame (block_count width height) (drop at bytes) ≡ None → plane_from false frame old width height (drop at bytes) ≡ None
no_plane bytes at frame old width height e = ap (λ o. decoded_from old width height o) e

-- The entries that were read so far show their blocks in the reference.
pub record AreRead (bytes : List ℕ) (at : ℕ) (frame : Bool) (count next end : ℕ) (old now : List ℕ) (width height : ℕ) : Type 0 where
  pub blocks : List Block
  pub parsed : AreParsed bytes at frame count next end blocks
  pub decoded : AreDecoded blocks old now width height next
