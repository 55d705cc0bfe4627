-- A list that takes memory only where it has items.
use Rattle.std.specs.Prelude.{Option, Some, None, List, []}

abbrev pub items_of : {A : Type 0} → Option (List A) → List A
items_of None = []
items_of (Some items) = items
