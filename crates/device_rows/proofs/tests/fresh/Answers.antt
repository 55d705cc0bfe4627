use Rattle.std.proofs.Common.{◌≡◌, rules}
use Rattle.vc_base.specs.declared.Side.TheVariants.{Out, Cap}
use Rattle.vc_queue.proofs.Keeping.{fits_new}
use Rattle.vc_model.specs.Core.{new_core}
use Rattle.device_rows.proofs.tests.fresh.Goals as goal

pub returns-clause-fits : goal.returns-clause-fits
returns-clause-fits g c =
    let e : c.expect-device.result ≡ new_core 1 1 = search rules in
    rw e (record { out = fits_new Out c.new-hold.result (c.new-hold.ensures.nothing Out); cap = fits_new Cap c.new-hold.result (c.new-hold.ensures.nothing Cap) })
