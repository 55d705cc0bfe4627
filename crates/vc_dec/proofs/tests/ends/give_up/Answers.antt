use Rattle.vc_dec.proofs.JobsBroughtBackByHand.{fault_back, has_room, one_more}
use Rattle.vc_dec.proofs.tests.ends.give_up.Goals as goal

pub finish-requires : goal.finish-requires
finish-requires g c =
    record {
      able = record {
        kept = c.claim-work.ensures.claimed.step.kept;
        room = has_room _ _ c.requires.few (c.claim-work.ensures.claimed.step.counted _ c.requires.counted);
        back = fault_back _ _ _ _ c.claim-work.ensures.claimed.work c.claim-work.ensures.claimed.fits c.claim-work.ensures.claimed.runs;
      };
    }

pub returns-clause-fits : goal.returns-clause-fits
returns-clause-fits g c = c.finish.ensures.finished.holds _ (c.claim-work.ensures.claimed.holds _ c.requires.fits)

pub returns-clause-counted : goal.returns-clause-counted
returns-clause-counted g c =
    one_more _ _ (c.finish.ensures.finished.step.counted _ (c.claim-work.ensures.claimed.step.counted _ c.requires.counted))
