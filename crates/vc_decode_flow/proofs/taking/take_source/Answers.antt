use Rattle.std.proofs.Common.{◌≡◌, refl, true, false}
use Rattle.vc_base.specs.declared.Errno.TheVariants.{Again}
use Rattle.vc_model.specs.Places.{has_error}
use Rattle.vc_stream_laws.proofs.CallsOfAClient.{failed_sources_tell, sources_come_back}
use Rattle.vc_flow.proofs.CallsHandOut.{bytes_stay}
use Rattle.vc_flow.proofs.FaultsShow.{shows_before, source_shows}
use Rattle.vc_decode_flow.proofs.CallsKeepAStream.{none_left, source_keeps, refusal_keeps}
use Rattle.vc_decode_flow.proofs.taking.take_source.Goals as goal

pub returns-then-is_failed-clause-engine : goal.returns-then-is_failed-clause-engine
returns-then-is_failed-clause-engine g c = λ start f w e.
    let failed : has_error c.in-Taken.flags ≡ true = cc in
    record {
      shows = shows_before start _ _ (w.since, w.goes_on) (source_shows _ _ _ _ _ _ _ _ _ _ failed c.in-Taken.ensures.does);
      failed = failed_sources_tell start _ _ f _ _ _ _ _ _ _ _ failed w c.in-Taken.ensures.does;
    }

pub returns-then-is_failed-clause-bytes : goal.returns-then-is_failed-clause-bytes
returns-then-is_failed-clause-bytes g c = bytes_stay _ _ _ _ _ _ c.call_on.ensures.does refl

pub returns-else-is_failed-clause-goes_on : goal.returns-else-is_failed-clause-goes_on
returns-else-is_failed-clause-goes_on g c = λ start f w e.
    let fine : has_error c.in-Taken.flags ≡ false = cc in
    sources_come_back start _ _ f _ _ _ _ _ _ _ _ fine w c.in-Taken.ensures.does

pub returns-else-is_failed-clause-none : goal.returns-else-is_failed-clause-none
returns-else-is_failed-clause-none g c = λ start f w e. absurd (cc)

pub returns-else-is_failed-clause-engine : goal.returns-else-is_failed-clause-engine
returns-else-is_failed-clause-engine g c = λ start f w e. absurd (cc)

pub returns-else-is_failed-clause-payloads : goal.returns-else-is_failed-clause-payloads
returns-else-is_failed-clause-payloads g c = source_keeps _ _ _ _ _ _ _ _ _ _ c.in-Taken.ensures.does

pub returns-else-is_failed-clause-bytes : goal.returns-else-is_failed-clause-bytes
returns-else-is_failed-clause-bytes g c = bytes_stay _ _ _ _ _ _ c.call_on.ensures.does refl

pub returns-in-Refused-Again-clause-goes_on : goal.returns-in-Refused-Again-clause-goes_on
returns-in-Refused-Again-clause-goes_on g c = λ start f w e. absurd (cc)

pub returns-in-Refused-Again-clause-none : goal.returns-in-Refused-Again-clause-none
returns-in-Refused-Again-clause-none g c = λ start f w e. none_left start _ _ f _ _ _ _ (cc) w c.call_on.ensures.does

pub returns-in-Refused-Again-clause-engine : goal.returns-in-Refused-Again-clause-engine
returns-in-Refused-Again-clause-engine g c = λ start f w e. absurd (cc)

pub returns-in-Refused-Again-clause-payloads : goal.returns-in-Refused-Again-clause-payloads
returns-in-Refused-Again-clause-payloads g c = refusal_keeps _ _ _ _ _ _ _ Again (cc) c.call_on.ensures.does

pub returns-in-Refused-Again-clause-bytes : goal.returns-in-Refused-Again-clause-bytes
returns-in-Refused-Again-clause-bytes g c = bytes_stay _ _ _ _ _ _ c.call_on.ensures.does refl

pub returns-in_default : goal.returns-in_default
returns-in_default g c =
    record {
      ready = c.call_on.ensures.ready;
      follows = c.call_on.ensures.follows;
      goes_on = λ start f w. tt;
      none = λ start f w. tt;
      engine = λ start f w e. absurd (cc);
      payloads = tt;
      bytes = bytes_stay _ _ _ _ _ _ c.call_on.ensures.does refl;
      stops = (λ e. absurd (cc), λ e. absurd (cc), λ e. absurd (cc));
    }

pub returns-in_default-2 : goal.returns-in_default-2
returns-in_default-2 g c =
    record {
      ready = c.call_on.ensures.ready;
      follows = c.call_on.ensures.follows;
      goes_on = λ start f w. tt;
      none = λ start f w. tt;
      engine = λ start f w e. absurd (cc);
      payloads = tt;
      bytes = bytes_stay _ _ _ _ _ _ c.call_on.ensures.does refl;
      stops = (λ e. absurd (cc), λ e. absurd (cc), λ e. absurd (cc));
    }
