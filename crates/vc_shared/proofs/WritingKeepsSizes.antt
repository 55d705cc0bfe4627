-- What the user writes into his payloads, or exchanges, leaves their sizes, so that they go on fitting the slot. One place of
-- the payloads changes, and what is there afterwards is as long as before.
use Rattle.std.proofs.Common.{ℕ, zero, suc, ◌≡◌, ◌++◌, drop, length, get_or, set, Option, Some, None, List, [], ◌∷◌, refl, sym, ap, ◌∙◌, subst, arith, length-append, length-drop}
use Rattle.std.specs.Option.{option_map}
use Rattle.vc_base.specs.declared.Side.{Side}
use Rattle.vc_base.specs.declared.Side.TheVariants.{Out, Cap}
use Rattle.vc_base.specs.Buffers.{QueueState, new_queue}
use Rattle.vc_model.specs.Context.{Slot}
use Rattle.vc_model.specs.Devices.{new_device, slot_of}
use Rattle.vc_model.proofs.SlotsAreIsolated.{closed_at_first}
use Rattle.vc_queue.specs.Holds.{HoldState, held_payload, with_payload, written_over, Fits, HasRoom, HaveOneLength}
use Rattle.vc_context.specs.Payloads.{FitsSlot}

-- the payloads have the same sizes
SameSizes : HoldState → HoldState → Type 0
SameSizes h new =
    (side : Side) (i : ℕ) → option_map length (held_payload new side i) ≡ option_map length (held_payload h side i)

at_place : (xs : List (Option (List ℕ))) (i k : ℕ) (new : Option (List ℕ)) → option_map length new ≡ option_map length (get_or xs i None) → option_map length (get_or (set xs i new) k None) ≡ option_map length (get_or xs k None)
at_place [] i k new e = refl
at_place (x ∷ xs) zero zero new e = e
at_place (x ∷ xs) zero (suc k) new e = refl
at_place (x ∷ xs) (suc i) zero new e = refl
at_place (x ∷ xs) (suc i) (suc k) new e = at_place xs i k new e

one_same : (h : HoldState) (side : Side) (index : ℕ) (new : Option (List ℕ)) → option_map length new ≡ option_map length (held_payload h side index) → SameSizes h (with_payload h side index new)
unfolding SameSizes
one_same h Out index new e Out i = at_place h.out index i new e
one_same h Out index new e Cap i = refl
one_same h Cap index new e Out i = refl
one_same h Cap index new e Cap i = at_place h.cap index i new e

fits_same : (q : QueueState) (h new : HoldState) → SameSizes h new → Fits q h → Fits q new
unfolding SameSizes
fits_same q h new s f i l = s q.side i ∙ f i l

slot_same : (s : Slot) (h new : HoldState) → SameSizes h new → FitsSlot s h → FitsSlot s new
slot_same None h new s f =
    record { out = fits_same (new_queue Out) h new s f.out; cap = fits_same (new_queue Cap) h new s f.cap }
slot_same (Some c) h new s f =
    record { out = fits_same c.out h new s f.out; cap = fits_same c.cap h new s f.cap }

written_size : (payload : Option (List ℕ)) (bytes : List ℕ) → HasRoom payload bytes → option_map length (written_over payload bytes) ≡ option_map length payload
written_size None bytes room = refl
written_size (Some p) bytes room =
    ap Some (let l : length (bytes ++ drop (length bytes) p) ≡ length p = omega (arith, room, length-append bytes (drop (length bytes) p), length-drop (length bytes) p) in l)

-- a payload that is written over
pub fits_written : (s : Slot) (hold : HoldState) (side : Side) (index : ℕ) (bytes : List ℕ) → HasRoom (held_payload hold side index) bytes → FitsSlot s hold → FitsSlot s (with_payload hold side index (written_over (held_payload hold side index) bytes))
fits_written s hold side index bytes room f =
    slot_same s hold _ (one_same hold side index _ (written_size (held_payload hold side index) bytes room)) f

one_length : (a b : Option (List ℕ)) → HaveOneLength a b → option_map length b ≡ option_map length a
one_length None b h = absurd h
one_length (Some a) None h = absurd h
one_length (Some a) (Some b) h = ap Some (sym h)

one_length_back : (a b : Option (List ℕ)) → HaveOneLength a b → option_map length a ≡ option_map length b
one_length_back a b h = sym (one_length a b h)

-- a payload in the place of one of the same length
pub fits_exchanged : (s : Slot) (hold : HoldState) (side : Side) (index : ℕ) (new : Option (List ℕ)) → HaveOneLength (held_payload hold side index) new → FitsSlot s hold → FitsSlot s (with_payload hold side index new)
fits_exchanged s hold side index new h f =
    slot_same s hold _ (one_same hold side index new (one_length (held_payload hold side index) new h)) f

pub fits_exchanged_back : (s : Slot) (hold : HoldState) (side : Side) (index : ℕ) (new : Option (List ℕ)) → HaveOneLength new (held_payload hold side index) → FitsSlot s hold → FitsSlot s (with_payload hold side index new)
fits_exchanged_back s hold side index new h f =
    slot_same s hold _ (one_same hold side index new (one_length_back new (held_payload hold side index) h)) f

-- at first no slot is open, and nothing is held
pub fits_first : (slots slot : ℕ) (hold : HoldState) → ((side : Side) (index : ℕ) → held_payload hold side index ≡ None) → FitsSlot (slot_of (new_device slots) slot) hold
fits_first slots slot hold nothing =
    subst (λ s. FitsSlot s hold) (sym (closed_at_first slots slot)) (record { out = λ i l. ap (option_map length) (nothing Out i); cap = λ i l. ap (option_map length) (nothing Cap i) })
