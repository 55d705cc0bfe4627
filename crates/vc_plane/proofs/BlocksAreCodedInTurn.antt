-- A plane is coded block by block. A block is chosen from its own samples and the reference's block of its number,
-- which blocks before it left as it was; so the blocks are those of the definition, and the words that are left to
-- write always follow from those that come.
use Rattle.std.proofs.Common.{◌≡◌, ◌∙◌, sym, ap, subst, ℕ, ◌+◌, ◌<◌, ◌≤◌, List, [], ◌∷◌, length, drop, get_or, arith}
use Rattle.std.specs.Prelude.{ℤ, Bool, false, Result, Ok, Err, OnOk}
use Rattle.std.proofs.lemmas.List.{drop_more, drop_all, append-nil}
use Rattle.std.proofs.lemmas.List.FromFn.{length-map-range_with_len, get_or-map-range_with_len}
use Rattle.vc_defs.specs.declared.Full.{Full}
use Rattle.vc_defs.specs.Quantiser.{AreValues}
use Rattle.vc_defs.specs.Bytes.{Writes}
use Rattle.vc_defs.specs.Planes.{Block, blocks_across, block_count, block_of, coded_block, coded_blocks, canon_plane, canon_entry, entry_bytes}
use Rattle.vc_plane.specs.declared.writing.Pending.{Pending}
use Rattle.vc_coder.specs.Blocks.{block_with}
use Rattle.vc_plane.specs.Samples.{AreShown}
use Rattle.vc_plane.specs.Writing.{Left, pending_bytes, IsBlockAdded}
use Rattle.vc_plane.proofs.WritingByWhatIsLeft.{all_left, left_twice, canon_first}
use Rattle.vc_plane.proofs.BlocksAreShownInTurn.{AreDecoded, none_decoded, next_decoded, block_of_same}

pub length-coded_blocks : (inter : Bool) (qp : ℕ) (plane old : List ℕ) (width height : ℕ) → length (coded_blocks inter qp plane old width height) ≡ block_count width height
unfolding coded_blocks
length-coded_blocks inter qp plane old width height = length-map-range_with_len (λ number. coded_block inter qp (block_of plane width height number) (block_of old width height number)) 0 (block_count width height)

-- the block of a number as an encoder codes it, where the reference has its block still
pub block_coded : (inter : Bool) (qp : ℕ) (plane old now : List ℕ) (width height n : ℕ) (b : Block) (all : List Block) → 0 < width → 0 < height → n < block_count width height → AreDecoded all old now width height n →
    b ≡ coded_block inter qp (block_of plane width height n) (block_of now width height n) → b ≡ get_or (coded_blocks inter qp plane old width height) n (block_with false [])
unfolding coded_blocks
block_coded inter qp plane old now width height n b all w h inside so_far is =
    is ∙ ap (λ r. coded_block inter qp (block_of plane width height n) r) (block_of_same now old width height n w h inside (λ j e. so_far.behind j (omega arith)))
    ∙ sym (get_or-map-range_with_len (λ number. coded_block inter qp (block_of plane width height number) (block_of old width height number)) 0 (block_count width height) n n (block_with false []) inside (omega arith))

-- So many blocks were added: what is left to write is what the pending entry and the other blocks leave, and the reference
-- shows those that were added.
pub record AreCoded (blocks : List Block) (old now : List ℕ) (width height next : ℕ) (before out : List ℕ) (pending : Pending) : Type 0 where
  pub inside : pending.end ≤ length out
  pub repeats : pending.repeats ≤ 4095
  pub values : AreValues pending.values
  pub left : Left before 0 (canon_plane blocks) out pending.end (pending_bytes pending (drop next blocks))
  pub decoded : AreDecoded blocks old now width height next

pub first_coded : (blocks : List Block) (old new : List ℕ) (width height : ℕ) (out : List ℕ) (inter : Bool) (values : List ℤ) → 0 < width → 0 < height → 0 < block_count width height → 0 < length blocks → AreValues values →
    block_with inter values ≡ get_or blocks 0 (block_with false []) → AreShown old new width height 0 1 (block_with inter values) →
    AreCoded blocks old new width height 1 out out (record { inter = inter; values = values; repeats = 0; end = 0 })
first_coded blocks old new width height out inter values w h some many range is shown =
    record {
      inside = omega arith;
      repeats = omega arith;
      values = range;
      left = subst (λ (total : List ℕ). Left out 0 total out 0 (pending_bytes (record { inter = inter; values = values; repeats = 0; end = 0 }) (drop 1 blocks)))
          (ap (λ b. pending_bytes (record { inter = b.inter; values = b.values; repeats = 0; end = 0 }) (drop 1 blocks)) is ∙ sym (canon_first blocks (block_with false []) many))
          (all_left out 0 (pending_bytes (record { inter = inter; values = values; repeats = 0; end = 0 }) (drop 1 blocks)));
      decoded = next_decoded blocks old old new width height 0 (block_with inter values) w h some (sym is) (none_decoded blocks old width height) shown;
    }

-- the blocks from a number on
from_number : (blocks : List Block) (n : ℕ) (b : Block) → n < length blocks → b ≡ get_or blocks n (block_with false []) → b ∷ drop (n + 1) blocks ≡ drop n blocks
from_number blocks n b h is = ap (λ x. x ∷ drop (n + 1) blocks) is ∙ sym (drop_more blocks n (block_with false []) h)

-- One block more is added.
pub more_coded : (blocks : List Block) (old now new : List ℕ) (width height n : ℕ) (before out out' : List ℕ) (p p' : Pending) (inter : Bool) (values : List ℤ) → 0 < width → 0 < height → n < block_count width height → n < length blocks → AreValues values →
    block_with inter values ≡ get_or blocks n (block_with false []) → AreCoded blocks old now width height n before out p → IsBlockAdded out out' p p' inter values → AreShown now new width height n (n + 1) (block_with inter values) →
    AreCoded blocks old new width height (n + 1) before out' p'
more_coded blocks old now new width height n before out out' p p' inter values w h inside many range is so_far added shown =
    record {
      inside = added.inside;
      repeats = added.repeats;
      values = subst (λ (vs : List ℤ). AreValues vs) (sym (ap (λ (b : Block). b.values) added.block)) range;
      left = left_twice before 0 (canon_plane blocks) out p.end (pending_bytes p (drop n blocks)) out' p'.end (pending_bytes p' (drop (n + 1) blocks)) so_far.left
          (subst (λ (bs : List Block). Left out p.end (pending_bytes p bs) out' p'.end (pending_bytes p' (drop (n + 1) blocks))) (from_number blocks n (block_with inter values) many is) (added.left (drop (n + 1) blocks)));
      decoded = next_decoded blocks old now new width height n (block_with inter values) w h inside (sym is) so_far.decoded shown;
    }

-- A block doesn't fit.
pub not_coded : (blocks : List Block) (old now : List ℕ) (width height n : ℕ) (before out new : List ℕ) (p : Pending) (inter : Bool) (values : List ℤ) (e : Full) → n < length blocks → block_with inter values ≡ get_or blocks n (block_with false []) →
    AreCoded blocks old now width height n before out p → ((others : List Block) → length out < p.end + length (pending_bytes p (block_with inter values ∷ others))) → Writes before new 0 (canon_plane blocks) (Err e)
not_coded blocks old now width height n before out new p inter values e many is so_far full =
    so_far.left.so new (Err e) (subst (λ (bs : List Block). length out < p.end + length (pending_bytes p bs)) (from_number blocks n (block_with inter values) many is) (full (drop (n + 1) blocks)))

-- The last entry is written.
pub all_coded : (blocks : List Block) (old now : List ℕ) (width height n : ℕ) (before out new : List ℕ) (p : Pending) (r : Result ℕ Full) → length blocks ≤ n → AreCoded blocks old now width height n before out p →
    Writes out new p.end (entry_bytes (canon_entry (block_with p.inter p.values) p.repeats)) r → Writes before new 0 (canon_plane blocks) r
all_coded blocks old now width height n before out new p r many so_far written =
    so_far.left.so new r
    (subst (λ (bs : List Block). Writes out new p.end (pending_bytes p bs) r) (sym (drop_all n blocks many))
    (subst (λ (bytes : List ℕ). Writes out new p.end bytes r) (sym (append-nil (entry_bytes (canon_entry (block_with p.inter p.values) p.repeats)))) written))

pub count_some : (width height : ℕ) → 0 < width → 0 < height → 0 < block_count width height
count_some width height w h =
    let a : 0 < blocks_across width = omega arith in
    let b : 0 < blocks_across height = omega arith in
    grind arith

pub on_ok : (r : Result ℕ Full) (P : Type 0) → P → OnOk r P
on_ok (Ok n) P p = p
on_ok (Err e) P p = tt
