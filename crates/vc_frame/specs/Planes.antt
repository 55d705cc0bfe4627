-- Planes that lie one behind the other.
use Rattle.std.specs.Prelude.{◌≡◌, ℕ, ◌+◌, ◌<◌, ◌≤◌, List, [], ◌∷◌, ◌++◌, Bool, false, length, map, take, drop}
use Rattle.std.specs.List.{flat_map}
use Rattle.std.specs.declared.option.Option.TheVariants.{Some}
use Rattle.vc_defs.specs.Bytes.{written_at}
use Rattle.vc_defs.specs.Planes.{WrittenPlane}
use Rattle.vc_base.specs.declared.Fourcc.{Fourcc}
use Rattle.vc_defs.specs.declared.Geometry.{Geometry}
use Rattle.vc_defs.specs.Bodies.{plane_shapes, planes_from}
use Rattle.vc_defs.specs.Raw.{cut_into, planes_of}
use Rattle.vc_defs.specs.Encoder.{body_of, written_planes}
use Rattle.vc_frame.specs.declared.planes.Body.{Body}
use Rattle.vc_frame.specs.declared.planes.Coding.{Coding}

-- no plane is empty
abbrev pub AreSome : List (ℕ × ℕ) → Type 0
AreSome [] = Unit {0}
AreSome (size ∷ sizes) = (0 < size.0) × (0 < size.1) × AreSome sizes

-- the samples of planes as a decoder will have them, one behind the other
abbrev pub samples_shown : List WrittenPlane → List ℕ
samples_shown planes = flat_map (λ (p : WrittenPlane). p.samples) planes

-- which of the planes are stored raw; a plane that isn't there is not
abbrev pub raw_told : List WrittenPlane → List Bool
raw_told planes = take 3 (map (λ (p : WrittenPlane). p.raw) planes ++ false ∷ false ∷ false ∷ [])

-- planes of these sizes, as an encoder writes them over those of an area, both one behind the other
abbrev pub planes_over : Coding → List (ℕ × ℕ) → List ℕ → List ℕ → List WrittenPlane
planes_over coding sizes planes area = written_planes coding.inter coding.qp sizes (cut_into sizes planes) (cut_into sizes area)

-- the planes of a raw picture, as an encoder writes them over those of an area
abbrev pub picture_over : Coding → Fourcc → Geometry → List ℕ → List ℕ → List WrittenPlane
picture_over coding fourcc g raw area = written_planes coding.inter coding.qp (plane_shapes g) (planes_of fourcc g.width g.height raw) (cut_into (plane_shapes g) area)

-- The planes were written from a place on as an encoder writes them, and at the front of the area, where so many
-- samples of theirs were, are now those that a decoder will have.
pub record AreWritten (planes : List WrittenPlane) (total : ℕ) (area shown old new : List ℕ) (at : ℕ) (body : Body) : Type 0 where
  pub end : body.end ≡ at + length (body_of planes)
  pub raw : body.raw ≡ raw_told planes
  pub bytes : new ≡ written_at old at (body_of planes)
  pub samples : shown ≡ samples_shown planes ++ drop total area

-- The bytes from one place to another are legal planes, raw as it is told, and the area has their samples where it had
-- those of their references.
pub record AreRead (sizes : List (ℕ × ℕ)) (raw : List Bool) (inter : Bool) (bytes : List ℕ) (at : ℕ) (area shown : List ℕ) (end : ℕ) : Type 0 where
  pub inside : (at ≤ end) × (end ≤ length bytes)
  pub is : planes_from raw inter (cut_into sizes area) sizes (drop at bytes) ≡ Some (cut_into sizes shown, drop end bytes)
