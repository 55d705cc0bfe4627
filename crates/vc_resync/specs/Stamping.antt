-- The stamps that are kept of the last bytes.
use Rattle.std.specs.Prelude.{◌≡◌, ◌≤◌, length}
use Rattle.circular_buffer.specs.Buffer.{Buffer}
use Rattle.vc_base.specs.declared.Stamp.{Stamp}

-- there are 43 places, and no more are taken
pub record HasPlaces (last : Buffer Stamp) : Type 0 where
  pub capacity : last.capacity ≡ 43
  pub few : length last.items ≤ 43
