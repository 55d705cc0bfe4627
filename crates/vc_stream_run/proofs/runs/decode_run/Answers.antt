use Rattle.std.proofs.Common.{◌∙◌, ap, refl, arith, Some}
use Rattle.vc_resync.specs.Assembling.{AssemblyState}
use Rattle.vc_stream_run.proofs.FedFramesHaveTheGeometry.{at_first}
use Rattle.vc_stream_run.proofs.RunsComeToTheNextResult.{going_first}
use Rattle.vc_defs.specs.Decoder.{decode}
use Rattle.vc_stream_run.specs.Running.{decoder_of}
use Rattle.vc_stream_run.specs.Steps.{present_of}
use Rattle.vc_stream_run.proofs.EachTurnGoesOnOrEnds.{step_behind, is_fed, fed_present, decode_finishes, decode_goes_on, decode_is_legal}
use Rattle.vc_stream_run.proofs.runs.decode_run.Goals as goal

pub loop-decoded-init : goal.loop-decoded-init
loop-decoded-init g c = record {
  inside = omega arith;
  limit = refl;
  reference = refl;
  dest = refl;
  point = at_first c.args.assembly.now.limit (Some c.args.geometry.now) c.args.reference.now.state.reference c.args.assembly.now.kept c.requires.in_step;
  going = going_first c.args.assembly.now.limit c.args.stamp (present_of (Some c.args.geometry.now) c.args.reference.now.state.reference) c.args.assembly.now.kept c.args.source.now;
}

pub ended_at-requires-clause-present : goal.ended_at-requires-clause-present
ended_at-requires-clause-present g c =
    fed_present c.args.assembly.now.limit (Some c.args.geometry.now) c.args.stamp c.args.source.now c.loop-decoded.taken c.loop-decoded.assembly.kept c.feed-count.result.0 c.feed-count.result.1 c.feed-count.new.assembly c.loop-decoded.invariant.point
    (is_fed c.args.assembly.now.limit c.args.stamp c.args.source.now c.loop-decoded.taken c.loop-decoded.assembly c.feed-count.new.assembly c.feed-count.result.0 c.feed-count.result.1 c.loop-decoded.invariant.limit c.loop-decoded.invariant.inside c.feed-count.ensures.taken
    c.feed-count.ensures.found c.feed-count.ensures.after c.feed-count.ensures.inside)

pub returns-in-Some-clause-consumed : goal.returns-in-Some-clause-consumed
returns-in-Some-clause-consumed g c =
    (decode_finishes c.args.assembly.now.limit c.args.format.now.fourcc (Some c.args.geometry.now) c.args.reference.now c.loop-decoded.reference c.args.assembly.now.kept c.args.source.now c.args.stamp c.args.dest.now c.loop-decoded.dest c.loop-decoded.taken
    c.loop-decoded.assembly.kept c.feed-count.result.0 c.feed-count.result.1 c.feed-count.new.assembly c.ended_at.result c.in-Some.decoded c.ended_at.new.reference c.ended_at.new.dest
    c.requires.in_step c.loop-decoded.invariant.going c.loop-decoded.invariant.reference c.loop-decoded.invariant.dest
    (is_fed c.args.assembly.now.limit c.args.stamp c.args.source.now c.loop-decoded.taken c.loop-decoded.assembly c.feed-count.new.assembly c.feed-count.result.0 c.feed-count.result.1 c.loop-decoded.invariant.limit c.loop-decoded.invariant.inside c.feed-count.ensures.taken
    c.feed-count.ensures.found c.feed-count.ensures.after c.feed-count.ensures.inside)
    c.ended_at.ensures c.in-Some.is).consumed

pub returns-in-Some-clause-answer : goal.returns-in-Some-clause-answer
returns-in-Some-clause-answer g c =
    (decode_finishes c.args.assembly.now.limit c.args.format.now.fourcc (Some c.args.geometry.now) c.args.reference.now c.loop-decoded.reference c.args.assembly.now.kept c.args.source.now c.args.stamp c.args.dest.now c.loop-decoded.dest c.loop-decoded.taken
    c.loop-decoded.assembly.kept c.feed-count.result.0 c.feed-count.result.1 c.feed-count.new.assembly c.ended_at.result c.in-Some.decoded c.ended_at.new.reference c.ended_at.new.dest
    c.requires.in_step c.loop-decoded.invariant.going c.loop-decoded.invariant.reference c.loop-decoded.invariant.dest
    (is_fed c.args.assembly.now.limit c.args.stamp c.args.source.now c.loop-decoded.taken c.loop-decoded.assembly c.feed-count.new.assembly c.feed-count.result.0 c.feed-count.result.1 c.loop-decoded.invariant.limit c.loop-decoded.invariant.inside c.feed-count.ensures.taken
    c.feed-count.ensures.found c.feed-count.ensures.after c.feed-count.ensures.inside)
    c.ended_at.ensures c.in-Some.is).answers

pub returns-in-Some-clause-shown : goal.returns-in-Some-clause-shown
returns-in-Some-clause-shown g c =
    (decode_finishes c.args.assembly.now.limit c.args.format.now.fourcc (Some c.args.geometry.now) c.args.reference.now c.loop-decoded.reference c.args.assembly.now.kept c.args.source.now c.args.stamp c.args.dest.now c.loop-decoded.dest c.loop-decoded.taken
    c.loop-decoded.assembly.kept c.feed-count.result.0 c.feed-count.result.1 c.feed-count.new.assembly c.ended_at.result c.in-Some.decoded c.ended_at.new.reference c.ended_at.new.dest
    c.requires.in_step c.loop-decoded.invariant.going c.loop-decoded.invariant.reference c.loop-decoded.invariant.dest
    (is_fed c.args.assembly.now.limit c.args.stamp c.args.source.now c.loop-decoded.taken c.loop-decoded.assembly c.feed-count.new.assembly c.feed-count.result.0 c.feed-count.result.1 c.loop-decoded.invariant.limit c.loop-decoded.invariant.inside c.feed-count.ensures.taken
    c.feed-count.ensures.found c.feed-count.ensures.after c.feed-count.ensures.inside)
    c.ended_at.ensures c.in-Some.is).shows

pub returns-in-Some-clause-state : goal.returns-in-Some-clause-state
returns-in-Some-clause-state g c =
    (decode_finishes c.args.assembly.now.limit c.args.format.now.fourcc (Some c.args.geometry.now) c.args.reference.now c.loop-decoded.reference c.args.assembly.now.kept c.args.source.now c.args.stamp c.args.dest.now c.loop-decoded.dest c.loop-decoded.taken
    c.loop-decoded.assembly.kept c.feed-count.result.0 c.feed-count.result.1 c.feed-count.new.assembly c.ended_at.result c.in-Some.decoded c.ended_at.new.reference c.ended_at.new.dest
    c.requires.in_step c.loop-decoded.invariant.going c.loop-decoded.invariant.reference c.loop-decoded.invariant.dest
    (is_fed c.args.assembly.now.limit c.args.stamp c.args.source.now c.loop-decoded.taken c.loop-decoded.assembly c.feed-count.new.assembly c.feed-count.result.0 c.feed-count.result.1 c.loop-decoded.invariant.limit c.loop-decoded.invariant.inside c.feed-count.ensures.taken
    c.feed-count.ensures.found c.feed-count.ensures.after c.feed-count.ensures.inside)
    c.ended_at.ensures c.in-Some.is).state

pub returns-in-Some-clause-picture : goal.returns-in-Some-clause-picture
returns-in-Some-clause-picture g c =
    (decode_finishes c.args.assembly.now.limit c.args.format.now.fourcc (Some c.args.geometry.now) c.args.reference.now c.loop-decoded.reference c.args.assembly.now.kept c.args.source.now c.args.stamp c.args.dest.now c.loop-decoded.dest c.loop-decoded.taken
    c.loop-decoded.assembly.kept c.feed-count.result.0 c.feed-count.result.1 c.feed-count.new.assembly c.ended_at.result c.in-Some.decoded c.ended_at.new.reference c.ended_at.new.dest
    c.requires.in_step c.loop-decoded.invariant.going c.loop-decoded.invariant.reference c.loop-decoded.invariant.dest
    (is_fed c.args.assembly.now.limit c.args.stamp c.args.source.now c.loop-decoded.taken c.loop-decoded.assembly c.feed-count.new.assembly c.feed-count.result.0 c.feed-count.result.1 c.loop-decoded.invariant.limit c.loop-decoded.invariant.inside c.feed-count.ensures.taken
    c.feed-count.ensures.found c.feed-count.ensures.after c.feed-count.ensures.inside)
    c.ended_at.ensures c.in-Some.is).picture

pub returns-in-Some-clause-in_step : goal.returns-in-Some-clause-in_step
returns-in-Some-clause-in_step g c =
    let f = decode_finishes c.args.assembly.now.limit c.args.format.now.fourcc (Some c.args.geometry.now) c.args.reference.now c.loop-decoded.reference c.args.assembly.now.kept c.args.source.now c.args.stamp c.args.dest.now c.loop-decoded.dest c.loop-decoded.taken
    c.loop-decoded.assembly.kept c.feed-count.result.0 c.feed-count.result.1 c.feed-count.new.assembly c.ended_at.result c.in-Some.decoded c.ended_at.new.reference c.ended_at.new.dest
    c.requires.in_step c.loop-decoded.invariant.going c.loop-decoded.invariant.reference c.loop-decoded.invariant.dest
    (is_fed c.args.assembly.now.limit c.args.stamp c.args.source.now c.loop-decoded.taken c.loop-decoded.assembly c.feed-count.new.assembly c.feed-count.result.0 c.feed-count.result.1 c.loop-decoded.invariant.limit c.loop-decoded.invariant.inside c.feed-count.ensures.taken
    c.feed-count.ensures.found c.feed-count.ensures.after c.feed-count.ensures.inside)
    c.ended_at.ensures c.in-Some.is in
    step_behind c.args.assembly.now.limit c.feed-count.new.assembly.limit c.args.format.now.fourcc
    (decode (decoder_of c.args.reference.now.state.reference c.args.assembly.now.kept) (Some c.args.geometry.now) c.args.assembly.now.limit c.args.source.now c.args.stamp)
    c.in-Some.decoded (Some c.args.geometry.now) c.ended_at.new.reference.state.reference c.feed-count.new.assembly.kept
    (ap (λ (a : AssemblyState). a.limit) c.feed-count.ensures.after ∙ c.loop-decoded.invariant.limit) f.answers f.in_step

pub returns-in-Some-clause-legal : goal.returns-in-Some-clause-legal
returns-in-Some-clause-legal g c =
    decode_is_legal c.loop-decoded.assembly.limit c.args.format.now.fourcc (Some c.args.geometry.now) c.args.stamp c.args.source.now c.loop-decoded.taken c.loop-decoded.assembly.kept c.feed-count.result.0 c.loop-decoded.reference c.loop-decoded.dest c.feed-count.result.1
    c.feed-count.new.assembly c.ended_at.result c.in-Some.decoded c.ended_at.new.reference c.ended_at.new.dest
    c.feed-count.ensures.legal
    (is_fed c.loop-decoded.assembly.limit c.args.stamp c.args.source.now c.loop-decoded.taken c.loop-decoded.assembly c.feed-count.new.assembly c.feed-count.result.0 c.feed-count.result.1 refl c.loop-decoded.invariant.inside c.feed-count.ensures.taken c.feed-count.ensures.found
    c.feed-count.ensures.after c.feed-count.ensures.inside)
    c.ended_at.ensures c.in-Some.is

pub loop-decoded-smaller : goal.loop-decoded-smaller
loop-decoded-smaller g c =
    (decode_goes_on c.args.assembly.now.limit c.args.format.now.fourcc (Some c.args.geometry.now) c.args.reference.now c.loop-decoded.reference c.args.assembly.now.kept c.args.source.now c.args.stamp c.args.dest.now c.loop-decoded.dest c.loop-decoded.taken
    c.loop-decoded.assembly.kept c.feed-count.result.0 c.feed-count.result.1 c.feed-count.new.assembly c.ended_at.result c.ended_at.new.reference c.ended_at.new.dest
    c.loop-decoded.invariant.point c.loop-decoded.invariant.going c.loop-decoded.invariant.reference c.loop-decoded.invariant.dest
    (is_fed c.args.assembly.now.limit c.args.stamp c.args.source.now c.loop-decoded.taken c.loop-decoded.assembly c.feed-count.new.assembly c.feed-count.result.0 c.feed-count.result.1 c.loop-decoded.invariant.limit c.loop-decoded.invariant.inside c.feed-count.ensures.taken
    c.feed-count.ensures.found c.feed-count.ensures.after c.feed-count.ensures.inside)
    c.ended_at.ensures c.in-None.is).turn.closer

pub loop-decoded-preserved : goal.loop-decoded-preserved
loop-decoded-preserved g c =
    let t = decode_goes_on c.args.assembly.now.limit c.args.format.now.fourcc (Some c.args.geometry.now) c.args.reference.now c.loop-decoded.reference c.args.assembly.now.kept c.args.source.now c.args.stamp c.args.dest.now c.loop-decoded.dest c.loop-decoded.taken
    c.loop-decoded.assembly.kept c.feed-count.result.0 c.feed-count.result.1 c.feed-count.new.assembly c.ended_at.result c.ended_at.new.reference c.ended_at.new.dest
    c.loop-decoded.invariant.point c.loop-decoded.invariant.going c.loop-decoded.invariant.reference c.loop-decoded.invariant.dest
    (is_fed c.args.assembly.now.limit c.args.stamp c.args.source.now c.loop-decoded.taken c.loop-decoded.assembly c.feed-count.new.assembly c.feed-count.result.0 c.feed-count.result.1 c.loop-decoded.invariant.limit c.loop-decoded.invariant.inside c.feed-count.ensures.taken
    c.feed-count.ensures.found c.feed-count.ensures.after c.feed-count.ensures.inside)
    c.ended_at.ensures c.in-None.is in
    record {
      inside = t.turn.inside;
      limit = ap (λ (a : AssemblyState). a.limit) c.feed-count.ensures.after ∙ c.loop-decoded.invariant.limit;
      reference = t.reference;
      dest = t.dest_is;
      point = t.turn.point;
      going = t.turn.going;
    }
