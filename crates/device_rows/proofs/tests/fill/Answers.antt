use Rattle.std.proofs.Common.{sym, subst, rules}
use Rattle.vc_base.specs.declared.Side.TheVariants.{Out}
use Rattle.vc_model.specs.Devices.{slot_of}
use Rattle.vc_queue.specs.Holds.{HoldState}
use Rattle.vc_context.specs.Payloads.{FitsSlot}
use Rattle.vc_core.proofs.WrittenHoldsFit.{fits_written}
use Rattle.device_rows.proofs.tests.fill.Goals as goal

pub returns-then-has_room : goal.returns-then-has_room
returns-then-has_room c =
    record {
      fits =
          subst (λ (h : HoldState). FitsSlot (slot_of c.args.device.now 0) h) (sym c.write.ensures)
          (fits_written (slot_of c.args.device.now 0) c.args.hold.now Out 0 c.args.bytes.now (c.has_room.ensures (search rules)) c.requires.fits);
    }
