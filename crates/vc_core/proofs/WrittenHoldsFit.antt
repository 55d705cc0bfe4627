-- Bytes that are written over the front of a held payload leave its length. So a hold that fits a slot goes on
-- fitting it.
use Rattle.std.proofs.Common.{ℕ, zero, suc, ◌≡◌, ◌++◌, Option, Some, None, List, [], ◌∷◌, length, drop, get_or, set, refl, ap, ◌∙◌, arith, length-append, length-drop}
use Rattle.std.specs.Option.{option_map}
use Rattle.vc_base.specs.declared.Side.{Side}
use Rattle.vc_base.specs.declared.Side.TheVariants.{Out, Cap}
use Rattle.vc_base.specs.Buffers.{QueueState, new_queue}
use Rattle.vc_model.specs.Context.{Slot}
use Rattle.vc_queue.specs.Holds.{HoldState, Fits, held_payload, with_payload, HasRoom, written_over}
use Rattle.vc_context.specs.Payloads.{FitsSlot}

written_length : (o : Option (List ℕ)) (bytes : List ℕ) → HasRoom o bytes → option_map length (written_over o bytes) ≡ option_map length o
written_length None bytes h = absurd h
written_length (Some payload) bytes h =
    let e : length (bytes ++ drop (length bytes) payload) ≡ length payload = omega (arith, h, length-append bytes (drop (length bytes) payload), length-drop (length bytes) payload) in
    ap Some e

same_sizes : (l : List (Option (List ℕ))) (i j : ℕ) (x : Option (List ℕ)) → option_map length x ≡ option_map length (get_or l i None) → option_map length (get_or (set l i x) j None) ≡ option_map length (get_or l j None)
same_sizes [] i j x e = refl
same_sizes (y ∷ l) zero zero x e = e
same_sizes (y ∷ l) zero (suc j) x e = refl
same_sizes (y ∷ l) (suc i) zero x e = refl
same_sizes (y ∷ l) (suc i) (suc j) x e = same_sizes l i j x e

sizes_stay :
    (hold : HoldState) (side : Side) (index : ℕ) (x : Option (List ℕ)) (s : Side) (i : ℕ)
    → option_map length x ≡ option_map length (held_payload hold side index)
    → option_map length (held_payload (with_payload hold side index x) s i) ≡ option_map length (held_payload hold s i)
sizes_stay hold Out index x Out i e = same_sizes hold.out index i x e
sizes_stay hold Out index x Cap i e = refl
sizes_stay hold Cap index x Out i e = refl
sizes_stay hold Cap index x Cap i e = same_sizes hold.cap index i x e

fits_queue :
    (q : QueueState) (hold : HoldState) (side : Side) (index : ℕ) (bytes : List ℕ) → HasRoom (held_payload hold side index) bytes → Fits q hold
    → Fits q (with_payload hold side index (written_over (held_payload hold side index) bytes))
fits_queue q hold side index bytes h f i below =
    sizes_stay hold side index (written_over (held_payload hold side index) bytes) q.side i (written_length (held_payload hold side index) bytes h) ∙ f i below

-- bytes are written over the front of a held payload
pub fits_written :
    (s : Slot) (hold : HoldState) (side : Side) (index : ℕ) (bytes : List ℕ) → HasRoom (held_payload hold side index) bytes → FitsSlot s hold
    → FitsSlot s (with_payload hold side index (written_over (held_payload hold side index) bytes))
fits_written None hold side index bytes h f =
    record { out = fits_queue (new_queue Out) hold side index bytes h f.out; cap = fits_queue (new_queue Cap) hold side index bytes h f.cap }
fits_written (Some c) hold side index bytes h f =
    record { out = fits_queue c.out hold side index bytes h f.out; cap = fits_queue c.cap hold side index bytes h f.cap }
