-- The end of a job as the code makes it, step by step, is the one in the words of the queues. So the theorems on that
-- one hold of the code.
use Rattle.std.proofs.Common.{◌≡◌, ◌==◌, cond, Option, Some, None, Result, sym, ap, ◌∙◌, subst}
use Rattle.std.specs.Option.{option_or}
use Rattle.vc_base.specs.declared.Kind.TheVariants.{Dec}
use Rattle.vc_base.specs.Events.{EventState}
use Rattle.vc_defs.specs.declared.Geometry.{Geometry}
use Rattle.vc_defs.specs.Decoder.{fresh_decoder}
use Rattle.vc_model.specs.Formats.{FormatPair}
use Rattle.vc_model.specs.Context.{Context}
use Rattle.vc_model.specs.Core.{BroughtBack, finished_context}
use Rattle.vc_geom.specs.Pairs.{pair_of, CanStand}
use Rattle.vc_queue.specs.declared.queue.Lent.{Lent}
use Rattle.vc_pair.specs.Pairs.{PairState}
use Rattle.vc_work.specs.declared.work.Work.{Work}
use Rattle.vc_work.specs.declared.engine.Outcome.{Outcome}
use Rattle.vc_work.specs.declared.engine.EngineFault.{EngineFault}
use Rattle.vc_work.specs.Runs.{dest_bytes}
use Rattle.vc_context.specs.Contexts.{IsKept, IsStep}
use Rattle.vc_context.specs.Works.{IsBack, IsBackOf, RunsIn}
use Rattle.vc_dec.specs.declared.InJob.{InJob}
use Rattle.vc_dec.specs.declared.Decoder.TheInside.{Inside}
use Rattle.vc_dec.specs.declared.finishing.RunEnd.{RunEnd}
use Rattle.vc_dec.specs.Decoders.{CodecParts, decoder_state, IsDecoder}
use Rattle.vc_dec.specs.Parts.{FindsItsPlace, taken_back}
use Rattle.vc_dec.specs.Ends.{end_of, source_put, dest_ended, events_ended, IsDestBack, IsLentDest, formats_behind, IsLegalChange}
use Rattle.vc_dec.proofs.EndsOfJobs.{place_at, lends, legal, comes_back, ends_after, ends_keep, ends_step}

module _ (d : Inside) (c : Context) (view : decoder_state (pair_of d.m2m.formats) d.geometry d.m2m.pair d.m2m.events d.codec.state d.job ≡ c)
    (inv : IsDecoder (pair_of d.m2m.formats) d.geometry d.m2m.pair d.m2m.events d.codec d.job) (kept : IsKept c) (x : InJob) (at : d.job ≡ Some x)
    (work : Work) (outcome : Result Outcome EngineFault) (of : IsBackOf c work outcome) where
  abbrev here : Context
  here = decoder_state (pair_of d.m2m.formats) d.geometry d.m2m.pair d.m2m.events d.codec.state (Some x)

  is : here ≡ c
  is = ap (λ (y : Option InJob). decoder_state (pair_of d.m2m.formats) d.geometry d.m2m.pair d.m2m.events d.codec.state y) (sym at) ∙ view

  inv_here : IsDecoder (pair_of d.m2m.formats) d.geometry d.m2m.pair d.m2m.events d.codec (Some x)
  inv_here = subst (IsDecoder (pair_of d.m2m.formats) d.geometry d.m2m.pair d.m2m.events d.codec) at inv

  kept_here : IsKept here
  kept_here = subst IsKept (sym is) kept

  of_here : IsBackOf here work outcome
  of_here = subst (λ (y : Context). IsBackOf y work outcome) (sym is) of

  pub finds_place : FindsItsPlace work.reference d.codec.present
  finds_place =
      let j = of_here.back.job in
      place_at d.codec.present d.m2m.pair.cap.job j.dest x.dest work.reference of_here.runs.dest inv_here.knows.1 (lends j.codec j work of_here.runs.codec of_here.is_back.areas).reference inv_here.lent

  module _ (source : Lent) (dest : Option Lent) (ec : source.cursor ≡ work.source.cursor) (ep : source.payload.items ≡ work.source.payload.items)
      (ld : IsLentDest x.dest (dest_bytes work) dest) (n : RunEnd) (mid : PairState)
      (ee : n ≡ end_of outcome (work.source.cursor == work.source.used) work.source.stamp)
      (em : mid ≡ source_put d.m2m.pair source n.used_up n.source_flags) where
    pub dest_is_back : IsDestBack mid dest
    dest_is_back =
        rw (em, ee) (comes_back (pair_of d.m2m.formats) d.geometry d.m2m.pair d.m2m.events d.codec x inv_here kept_here work source dest ec ep ld outcome of_here)

    pub change_is_legal : IsLegalChange n.changed
    change_is_legal =
        rw ee (legal (pair_of d.m2m.formats) d.geometry d.m2m.pair d.m2m.events d.codec x inv_here kept_here work source dest ec ep ld outcome of_here)

    module _ (new : PairState) (told : EventState) (codec then : CodecParts) (formats : FormatPair) (geometry : Option Geometry) (job : Option InJob)
        (en : new ≡ dest_ended mid n.shown dest n.changed) (ev : told ≡ events_ended mid d.m2m.events n.shown dest n.changed)
        (e1 : codec ≡ taken_back work.assembly work.reference d.codec) (e2 : then ≡ cond n.fault (record codec { state = fresh_decoder }) codec)
        (ef : formats ≡ formats_behind n.changed (pair_of d.m2m.formats)) (eg : geometry ≡ option_or n.changed d.geometry) (ej : job ≡ None) where
      pub finish_after : (back : BroughtBack) → RunsIn c back.job → IsBack back work outcome → decoder_state formats geometry new told then.state job ≡ finished_context c back
      finish_after back r b =
          let same : decoder_state formats geometry new told then.state job ≡ finished_context here back =
          rw (ej, ef, eg, en, ev, e2, e1, em, ee)
          (ends_after (pair_of d.m2m.formats) d.geometry d.m2m.pair d.m2m.events d.codec x inv_here kept_here work source dest ec ep ld outcome
          of_here back (subst (λ (y : Context). RunsIn y back.job) (sym is) r) b) in
          same ∙ ap (λ (y : Context). finished_context y back) is

      pub finish_step : IsStep c (decoder_state formats geometry new told then.state job)
      finish_step =
          let after : Context = decoder_state formats geometry new told then.state job in
          let step : IsStep here after = rw (ej, ef, eg, en, ev, e2, e1, em, ee) (ends_step (pair_of d.m2m.formats) d.geometry d.m2m.pair d.m2m.events d.codec x inv_here kept_here work source dest ec ep ld outcome of_here) in
          subst (λ (y : Context). IsStep y after) is step

      pub finish_keeps : CanStand Dec formats → IsDecoder formats geometry new told then job
      finish_keeps stands =
          let s :
          CanStand Dec (formats_behind (end_of outcome (work.source.cursor == work.source.used) work.source.stamp).changed (pair_of d.m2m.formats)) =
          subst (λ (y : RunEnd). CanStand Dec (formats_behind y.changed (pair_of d.m2m.formats))) ee (subst (CanStand Dec) ef stands) in
          rw (ej, ef, eg, en, ev, e2, e1, em, ee) (ends_keep (pair_of d.m2m.formats) d.geometry d.m2m.pair d.m2m.events d.codec x inv_here kept_here work source dest ec ep ld outcome of_here s)
