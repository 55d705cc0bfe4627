-- The content of a slot, as the model has it.
use Rattle.std.specs.Prelude.{Some, None}
use Rattle.vc_model.specs.Context.{Slot}
use Rattle.vc_core.specs.declared.slot.Content.{Content}
use Rattle.vc_core.specs.declared.slot.Content.TheVariants.{Closed, Copying, Encoding, Decoding}

abbrev pub slot_state : Content → Slot
slot_state Closed = None
slot_state (Copying copier) = Some copier.value
slot_state (Encoding encoder) = Some encoder.value
slot_state (Decoding decoder) = Some decoder.value
