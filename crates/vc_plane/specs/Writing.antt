-- What writing a plane leaves.
use Rattle.std.specs.Prelude.{◌≡◌, ℕ, ◌+◌, ◌≤◌, List, ◌∷◌, ℤ, Bool, length, Result}
use Rattle.vc_defs.specs.declared.Full.{Full}
use Rattle.vc_defs.specs.Bytes.{Writes, written_at}
use Rattle.vc_defs.specs.Planes.{Block, block_of, coded_block, coded_blocks, entries_bytes, entries_after, written_plane}
use Rattle.vc_plane.specs.declared.Shape.{Shape}
use Rattle.vc_plane.specs.declared.Written.{Written}
use Rattle.vc_plane.specs.declared.writing.Pending.{Pending}
use Rattle.vc_coder.specs.Blocks.{block_with}

-- the block of a plane with this number, as an encoder codes it, where the reference has its block of this number
abbrev pub coded_at : Shape → List ℕ → List ℕ → ℕ → Block
coded_at shape plane reference number =
    coded_block shape.inter shape.qp (block_of plane shape.width shape.height number) (block_of reference shape.width shape.height number)

-- the blocks of a plane, as an encoder codes them
abbrev pub blocks_in : Shape → List ℕ → List ℕ → List Block
blocks_in shape plane reference = coded_blocks shape.inter shape.qp plane reference shape.width shape.height

-- to write the bytes that are left now is to write all of them from the start
pub record Left (old : List ℕ) (at : ℕ) (total now : List ℕ) (end : ℕ) (left : List ℕ) : Type 0 where
  pub so : (new : List ℕ) (r : Result ℕ Full) → Writes now new end left r → Writes old new at total r

-- the bytes of the pending entry and of the blocks after it
abbrev pub pending_bytes : Pending → List Block → List ℕ
pending_bytes p blocks = entries_bytes (entries_after (block_with p.inter p.values) p.repeats blocks)

-- a block was added: it is the pending one now, and what is left to write is what the pending entry and the blocks after
-- this one leave
pub record IsBlockAdded (old new : List ℕ) (before after : Pending) (inter : Bool) (values : List ℤ) : Type 0 where
  pub inside : after.end ≤ length new
  pub repeats : after.repeats ≤ 4095
  pub block : block_with after.inter after.values ≡ block_with inter values
  pub left : (blocks : List Block) → Left old before.end (pending_bytes before (block_with inter values ∷ blocks)) new after.end (pending_bytes after blocks)

-- a plane was written from a place on as an encoder writes it, and the reference has become what a decoder will have
pub record IsPlaneWritten (shape : Shape) (plane reference shown old new : List ℕ) (at : ℕ) (written : Written) : Type 0 where
  pub end : written.end ≡ at + length (written_plane shape.inter shape.qp plane reference shape.width shape.height).bytes
  pub raw : written.raw ≡ (written_plane shape.inter shape.qp plane reference shape.width shape.height).raw
  pub bytes : new ≡ written_at old at (written_plane shape.inter shape.qp plane reference shape.width shape.height).bytes
  pub samples : shown ≡ (written_plane shape.inter shape.qp plane reference shape.width shape.height).samples
