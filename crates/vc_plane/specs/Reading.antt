-- What reading a plane gives.
use Rattle.std.specs.Prelude.{◌≡◌, ℕ, ◌≤◌, List, Bool, length, drop}
use Rattle.std.specs.declared.option.Option.TheVariants.{Some}
use Rattle.vc_defs.specs.Bodies.{plane_from}
use Rattle.vc_plane.specs.declared.Shape.{Shape}

-- the bytes from one place to another are a legal plane, and these are its samples where the reference had others
pub record IsPlaneRead (bytes : List ℕ) (at : ℕ) (raw : Bool) (shape : Shape) (reference samples : List ℕ) (end : ℕ) : Type 0 where
  pub inside : (at ≤ end) × (end ≤ length bytes)
  pub is : plane_from raw shape.inter reference shape.width shape.height (drop at bytes) ≡ Some (samples, drop end bytes)
