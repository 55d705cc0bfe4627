-- What is owned at an address that C keeps.
use Rattle.std.specs.Prelude.{Option, Some, None}
use base.Fml.{Fml, ftrue}
use denote.RawPtr.{Ptr}
use Rattle.std.specs.Box.Ownership.{box_owns}
use Rattle.std.specs.Global.{Global}
use Rattle.std.specs.contracts.impls.GlobalAllocator.TheImpl.{ghosts}
use Rattle.vc_desk.specs.contracts.desk.Desk.{the_row}

-- a box with the desk, or nothing
abbrev pub desk_held : Global → Ptr → Option the_row.Denot → Fml
desk_held alloc at None = ftrue
desk_held alloc at (Some desk) = box_owns (ghosts.dealloc_token alloc) the_row at desk

abbrev pub IsThere : {T : Type 0} → Option T → Type 0
IsThere None = ⊥
IsThere (Some x) = Unit {0}
