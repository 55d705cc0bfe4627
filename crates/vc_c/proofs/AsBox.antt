-- A loose box, and what C holds where there is a desk, own what a box of a desk owns: the same two fields, and the same memory. So
-- a walk that takes one for another goes by way of the box. Where there is no desk, only the two fields are owned.
use mathlib.Core.Path.{◌≡◌, refl}
use mathlib.Core.List.{List, [], ◌∷◌}
use lib.Dec.{T}
use seplogic.Ra.Ura.{Ura}
use mathlib.Core.Bool.{Bool, true, false, ◌&&◌}
use mir.Syntax.{ty_ptr, impl, tnil, dnil}
use mir.Val.{Val, vstruct, vcons, vnil, has_ty, WT}
use types.Logic.{Logic}
use types.Kit.{Item, Goal, Step, step, ‵, ◌$◌, move, fjoin, fpack, feq_i}
use denote.RattleType.{Valss}
use denote.RawPtr.{Ptr, RawPtr, ptr_val}
use denote.Signature.{Slot, plain}
use denote.Steps.{nothing}
use denote.Struct.Struct.{within}
use denote.Struct.Owning.{shape, to}
use Rattle.std.proofs.alloc.Calls.{α, Fits}
use Rattle.std.specs.Prelude.{Option, Some, None}
use Rattle.std.specs.Global.{Global}
use Rattle.std.proofs.BoxSteps.Form.{Bx, box_ty}
use Rattle.std.specs.contracts.alloc.Global as Heap
use Rattle.std.specs.contracts.impls.GlobalAllocator.TheImpl.{ghosts, dict}
use Rattle.std.proofs.alloc.Global.TheLaws as heap
use Rattle.vc_desk.specs.contracts.desk.Desk as Desk
use Rattle.vc_desk.proofs.desk.Desk.TheLaws as desk
use Rattle.vc_c.specs.Held.{IsThere}
use Rattle.vc_c.specs.contracts.loose.Loose as Loose
use Rattle.vc_c.specs.contracts.held.Held as Held

abbrev pub E : Bx
E = record { row = Desk.the_row; laws = desk.the_row_laws; al = record { row = Heap.the_row; laws = heap.the_row_laws; g = ghosts; d = dict; drops = impl [] tnil dnil } }

abbrev pub FromLoose : Slot 0
FromLoose = plain (λ _. Loose.the_row Desk.the_row Heap.the_row ghosts)

abbrev pub FromHeld : Slot 0
FromHeld = plain (λ _. Held.the_row)

abbrev pub FromHeap : Slot 0
FromHeap = plain (λ _. Heap.the_row)

-- what is there

pub found : {A : Type 0} (o : Option A) → IsThere o → (x : A) × (o ≡ Some x)
found None h = absurd h
found (Some x) h = (x, refl)

-- nothing is held

abbrev pub pair : Ptr → Val → Val
pair p hv = vstruct (vcons (ptr_val p) (vcons hv vnil))

both_tt : (x y : Bool) → T x → T y → T (x && (y && true))
both_tt true true s t = tt
both_tt true false s t = absurd t
both_tt false y s t = absurd s

pub pair_typed : (p : Ptr) (hv : Val) → T (has_ty ty_ptr (ptr_val p)) × WT (ptr_val p) → Fits E.al hv → T (has_ty (box_ty E) (pair p hv)) × WT (pair p hv)
pair_typed p hv at fits = (both_tt (has_ty ty_ptr (ptr_val p)) (has_ty (α E.al) hv) at.0 fits.0, (at.1, (fits.1, tt)))

module _ {M : Type 1} {𝓤 : Ura M} {𝓛 : Logic 𝓤} {K : Type 0} {Γ : List (Item 𝓤)} {G : Goal 𝓤 𝓛.H} where
  pub none_in : K → (p : Ptr) (a : Global) (hv : Val)
      → Step K 𝓛 (‵ (Held.the_row.own_val (record { at = p; alloc = a; desk = None }) (pair p hv ∷ [])) ∷ Γ) G (‵ (Heap.the_row.own_val a (hv ∷ [])) ∷ Γ) G
  none_in t p a hv = step (λ s.
      nothing t $ nothing t $ move t (2 ∷ 0 ∷ []) $ fjoin t $ feq_i t (List Val) (ptr_val p ∷ []) (ptr_val p ∷ []) refl $ fjoin t $
      feq_i t (List Val) (pair p hv ∷ []) (pair p hv ∷ []) refl $ fjoin t $
      fpack t (Valss (RawPtr ∷ Heap.the_row ∷ [])) (within (shape Held.the_type) (to Held.the_type (record { at = p; alloc = a; desk = None })) (pair p hv ∷ [])) (ptr_val p ∷ [], (hv ∷ [], tt)) $ fjoin t $ s)
