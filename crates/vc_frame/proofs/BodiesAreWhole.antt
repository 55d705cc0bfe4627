-- A body is legal where its planes are all of it. Reading its planes one by one ends at its last byte, or bytes are
-- left, or no planes stand there; the three cases are those of the definition.
use Rattle.std.proofs.Common.{◌≡◌, ◌∙◌, sym, ap, subst, ℕ, ◌<◌, List, [], length, drop, arith}
use Rattle.std.specs.Prelude.{not}
use Rattle.std.specs.declared.option.Option.TheVariants.{Some, None}
use Rattle.std.proofs.lemmas.List.{drop_all, drop_more}
use Rattle.vc_defs.specs.declared.Header.{Header}
use Rattle.vc_defs.specs.Bodies.{plane_shapes, planes_from, if_complete, if_nothing_left, body_planes}
use Rattle.vc_defs.specs.Raw.{cut_into}
use Rattle.vc_frame.specs.Planes.{AreRead}

-- All bytes of a body are its planes.
pub body_read : (h : Header) (body area shown : List ℕ) (sizes : List (ℕ × ℕ)) (end : ℕ) → sizes ≡ plane_shapes h.geometry → AreRead sizes h.raw (not h.key) body 0 area shown end → end ≡ length body →
    body_planes h (cut_into (plane_shapes h.geometry) area) body ≡ Some (cut_into (plane_shapes h.geometry) shown)
unfolding body_planes
body_read h body area shown sizes end e r whole =
    let s : AreRead (plane_shapes h.geometry) h.raw (not h.key) body 0 area shown end = subst (λ (ss : List (ℕ × ℕ)). AreRead ss h.raw (not h.key) body 0 area shown end) e r in
    let none : drop end body ≡ [] = drop_all end body (omega (arith, whole)) in
    ap if_complete s.is ∙ ap (if_nothing_left (cut_into (plane_shapes h.geometry) shown)) none

-- Bytes of a body are left behind its planes.
pub body_long : (h : Header) (body area shown : List ℕ) (sizes : List (ℕ × ℕ)) (end : ℕ) → sizes ≡ plane_shapes h.geometry → AreRead sizes h.raw (not h.key) body 0 area shown end → (end ≡ length body → ⊥) →
    body_planes h (cut_into (plane_shapes h.geometry) area) body ≡ None
unfolding body_planes
body_long h body area shown sizes end e r part =
    let s : AreRead (plane_shapes h.geometry) h.raw (not h.key) body 0 area shown end = subst (λ (ss : List (ℕ × ℕ)). AreRead ss h.raw (not h.key) body 0 area shown end) e r in
    let less : end < length body = omega (arith, s.inside.1, part) in
    ap if_complete s.is ∙ ap (if_nothing_left (cut_into (plane_shapes h.geometry) shown)) (drop_more body end 0 less)

-- A body doesn't begin with planes.
pub body_none : (h : Header) (body area : List ℕ) (sizes : List (ℕ × ℕ)) → sizes ≡ plane_shapes h.geometry → planes_from h.raw (not h.key) (cut_into sizes area) sizes (drop 0 body) ≡ None →
    body_planes h (cut_into (plane_shapes h.geometry) area) body ≡ None
unfolding body_planes
body_none h body area sizes e none =
    ap (λ (ss : List (ℕ × ℕ)). if_complete (planes_from h.raw (not h.key) (cut_into ss area) ss body)) (sym e) ∙ ap if_complete none
