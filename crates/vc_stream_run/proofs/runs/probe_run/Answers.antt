use Rattle.std.proofs.Common.{◌∙◌, ap, refl, arith, None}
use Rattle.vc_resync.specs.Assembling.{AssemblyState}
use Rattle.vc_stream_run.proofs.FedFramesHaveTheGeometry.{at_first}
use Rattle.vc_stream_run.proofs.RunsComeToTheNextResult.{going_first}
use Rattle.vc_defs.specs.Raw.{grey}
use Rattle.vc_defs.specs.Decoder.{decode}
use Rattle.vc_stream_run.specs.Running.{decoder_of}
use Rattle.vc_stream_run.specs.Steps.{present_of}
use Rattle.vc_stream_run.proofs.EachTurnGoesOnOrEnds.{step_behind, is_fed, fed_present, probe_finishes, probe_goes_on, probe_is_legal}
use Rattle.vc_stream_run.proofs.runs.probe_run.Goals as goal

pub loop-decoded-init : goal.loop-decoded-init
loop-decoded-init c = record {
  inside = omega arith;
  limit = refl;
  point = at_first c.args.assembly.now.limit None None c.args.assembly.now.kept c.requires.in_step;
  going = going_first c.args.assembly.now.limit c.args.stamp (present_of None None) c.args.assembly.now.kept c.args.source.now;
}

pub probed_at-requires : goal.probed_at-requires
probed_at-requires c = record {
  present = fed_present c.args.assembly.now.limit None c.args.stamp c.args.source.now c.loop-decoded.taken c.loop-decoded.assembly.kept c.feed-count.result.0 c.feed-count.result.1 c.feed-count.new.assembly c.loop-decoded.invariant.point
      (is_fed c.args.assembly.now.limit c.args.stamp c.args.source.now c.loop-decoded.taken c.loop-decoded.assembly c.feed-count.new.assembly c.feed-count.result.0 c.feed-count.result.1 c.loop-decoded.invariant.limit c.loop-decoded.invariant.inside c.feed-count.ensures.taken
      c.feed-count.ensures.found c.feed-count.ensures.after c.feed-count.ensures.inside);
}

pub returns-in-Some-clause-consumed : goal.returns-in-Some-clause-consumed
returns-in-Some-clause-consumed c =
    (probe_finishes c.args.assembly.now.limit c.args.assembly.now.kept c.args.source.now c.args.stamp c.loop-decoded.taken c.loop-decoded.assembly.kept c.feed-count.result.0 c.feed-count.result.1 c.feed-count.new.assembly c.probed_at.result c.in-Some.decoded
    c.requires.in_step c.loop-decoded.invariant.point c.loop-decoded.invariant.going
    (is_fed c.args.assembly.now.limit c.args.stamp c.args.source.now c.loop-decoded.taken c.loop-decoded.assembly c.feed-count.new.assembly c.feed-count.result.0 c.feed-count.result.1 c.loop-decoded.invariant.limit c.loop-decoded.invariant.inside c.feed-count.ensures.taken
    c.feed-count.ensures.found c.feed-count.ensures.after c.feed-count.ensures.inside)
    c.probed_at.ensures.answer c.in-Some.is).consumed

pub returns-in-Some-clause-answer : goal.returns-in-Some-clause-answer
returns-in-Some-clause-answer c =
    (probe_finishes c.args.assembly.now.limit c.args.assembly.now.kept c.args.source.now c.args.stamp c.loop-decoded.taken c.loop-decoded.assembly.kept c.feed-count.result.0 c.feed-count.result.1 c.feed-count.new.assembly c.probed_at.result c.in-Some.decoded
    c.requires.in_step c.loop-decoded.invariant.point c.loop-decoded.invariant.going
    (is_fed c.args.assembly.now.limit c.args.stamp c.args.source.now c.loop-decoded.taken c.loop-decoded.assembly c.feed-count.new.assembly c.feed-count.result.0 c.feed-count.result.1 c.loop-decoded.invariant.limit c.loop-decoded.invariant.inside c.feed-count.ensures.taken
    c.feed-count.ensures.found c.feed-count.ensures.after c.feed-count.ensures.inside)
    c.probed_at.ensures.answer c.in-Some.is).answers

pub returns-in-Some-clause-state : goal.returns-in-Some-clause-state
returns-in-Some-clause-state c =
    (probe_finishes c.args.assembly.now.limit c.args.assembly.now.kept c.args.source.now c.args.stamp c.loop-decoded.taken c.loop-decoded.assembly.kept c.feed-count.result.0 c.feed-count.result.1 c.feed-count.new.assembly c.probed_at.result c.in-Some.decoded
    c.requires.in_step c.loop-decoded.invariant.point c.loop-decoded.invariant.going
    (is_fed c.args.assembly.now.limit c.args.stamp c.args.source.now c.loop-decoded.taken c.loop-decoded.assembly c.feed-count.new.assembly c.feed-count.result.0 c.feed-count.result.1 c.loop-decoded.invariant.limit c.loop-decoded.invariant.inside c.feed-count.ensures.taken
    c.feed-count.ensures.found c.feed-count.ensures.after c.feed-count.ensures.inside)
    c.probed_at.ensures.answer c.in-Some.is).state

pub returns-in-Some-clause-in_step : goal.returns-in-Some-clause-in_step
returns-in-Some-clause-in_step c =
    let f = probe_finishes c.args.assembly.now.limit c.args.assembly.now.kept c.args.source.now c.args.stamp c.loop-decoded.taken c.loop-decoded.assembly.kept c.feed-count.result.0 c.feed-count.result.1 c.feed-count.new.assembly c.probed_at.result c.in-Some.decoded
    c.requires.in_step c.loop-decoded.invariant.point c.loop-decoded.invariant.going
    (is_fed c.args.assembly.now.limit c.args.stamp c.args.source.now c.loop-decoded.taken c.loop-decoded.assembly c.feed-count.new.assembly c.feed-count.result.0 c.feed-count.result.1 c.loop-decoded.invariant.limit c.loop-decoded.invariant.inside c.feed-count.ensures.taken
    c.feed-count.ensures.found c.feed-count.ensures.after c.feed-count.ensures.inside)
    c.probed_at.ensures.answer c.in-Some.is in
    step_behind c.args.assembly.now.limit c.feed-count.new.assembly.limit grey
    (decode (decoder_of None c.args.assembly.now.kept) None c.args.assembly.now.limit c.args.source.now c.args.stamp)
    c.in-Some.decoded None None c.feed-count.new.assembly.kept
    (ap (λ (a : AssemblyState). a.limit) c.feed-count.ensures.after ∙ c.loop-decoded.invariant.limit) (f.answers grey) f.in_step

pub returns-in-Some-clause-legal : goal.returns-in-Some-clause-legal
returns-in-Some-clause-legal c =
    probe_is_legal c.loop-decoded.assembly.limit c.args.stamp c.args.source.now c.loop-decoded.taken c.loop-decoded.assembly.kept c.feed-count.result.0 c.feed-count.result.1 c.feed-count.new.assembly c.probed_at.result c.in-Some.decoded
    c.feed-count.ensures.legal
    (is_fed c.loop-decoded.assembly.limit c.args.stamp c.args.source.now c.loop-decoded.taken c.loop-decoded.assembly c.feed-count.new.assembly c.feed-count.result.0 c.feed-count.result.1 refl c.loop-decoded.invariant.inside c.feed-count.ensures.taken c.feed-count.ensures.found
    c.feed-count.ensures.after c.feed-count.ensures.inside)
    c.probed_at.ensures.answer c.in-Some.is

pub loop-decoded-smaller : goal.loop-decoded-smaller
loop-decoded-smaller c =
    (probe_goes_on c.args.assembly.now.limit c.args.assembly.now.kept c.args.source.now c.args.stamp c.loop-decoded.taken c.loop-decoded.assembly.kept c.feed-count.result.0 c.feed-count.result.1 c.feed-count.new.assembly c.probed_at.result
    c.loop-decoded.invariant.point c.loop-decoded.invariant.going
    (is_fed c.args.assembly.now.limit c.args.stamp c.args.source.now c.loop-decoded.taken c.loop-decoded.assembly c.feed-count.new.assembly c.feed-count.result.0 c.feed-count.result.1 c.loop-decoded.invariant.limit c.loop-decoded.invariant.inside c.feed-count.ensures.taken
    c.feed-count.ensures.found c.feed-count.ensures.after c.feed-count.ensures.inside)
    c.probed_at.ensures.answer c.in-None.is).closer

pub loop-decoded-preserved : goal.loop-decoded-preserved
loop-decoded-preserved c =
    let t = probe_goes_on c.args.assembly.now.limit c.args.assembly.now.kept c.args.source.now c.args.stamp c.loop-decoded.taken c.loop-decoded.assembly.kept c.feed-count.result.0 c.feed-count.result.1 c.feed-count.new.assembly c.probed_at.result
    c.loop-decoded.invariant.point c.loop-decoded.invariant.going
    (is_fed c.args.assembly.now.limit c.args.stamp c.args.source.now c.loop-decoded.taken c.loop-decoded.assembly c.feed-count.new.assembly c.feed-count.result.0 c.feed-count.result.1 c.loop-decoded.invariant.limit c.loop-decoded.invariant.inside c.feed-count.ensures.taken
    c.feed-count.ensures.found c.feed-count.ensures.after c.feed-count.ensures.inside)
    c.probed_at.ensures.answer c.in-None.is in
    record {
      inside = t.inside;
      limit = ap (λ (a : AssemblyState). a.limit) c.feed-count.ensures.after ∙ c.loop-decoded.invariant.limit;
      point = t.point;
      going = t.going;
    }
