use Rattle.vc_geom.specs.Pairs.{pair_of}
use Rattle.vc_enc.proofs.ClaimsTakeTheFront.{ready_is}
use Rattle.vc_enc.proofs.Encoder.ready.Goals as goal

pub returns : goal.returns
returns c =
    rw (c.is_due.ensures, c.has_work-source.ensures, c.has_work-dest.ensures, c.may_run-may_run.ensures, c.is_some.ensures, c.queue.ensures, c.queue-2.ensures)
    (ready_is (pair_of c.self.inside.m2m.formats) c.self.inside.controls c.self.inside.m2m.pair c.self.inside.m2m.events c.self.inside.reference c.self.inside.job c.args.self.now c.self.view_is)
