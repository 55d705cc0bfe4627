use Rattle.std.proofs.Common.{arith, ◌*◌}
use Rattle.vc_lanes.proofs.StagesTurnTheBlock.{IsStage, is_stage, turned, AreWithin, stage_doubles, widened}
use Rattle.vc_lanes.proofs.short.half_of.Goals as goal

pub stage_of-requires : goal.stage_of-requires
stage_of-requires c = widened 4095 16380 c.args.x.now (omega arith) c.requires

pub stage_of-requires-2 : goal.stage_of-requires-2
stage_of-requires-2 c =
    let a : IsStage c.args.x.now c.stage_of.result = is_stage c.args.x.now c.stage_of.result c.stage_of.ensures.sums c.stage_of.ensures.differences in
    let wa : AreWithin 8190 c.stage_of.result = stage_doubles 4095 c.args.x.now c.stage_of.result a (omega arith) (omega arith) c.requires in
    widened 8190 16380 c.stage_of.result (omega arith) wa

pub stage_of-requires-3 : goal.stage_of-requires-3
stage_of-requires-3 c =
    let a : IsStage c.args.x.now c.stage_of.result = is_stage c.args.x.now c.stage_of.result c.stage_of.ensures.sums c.stage_of.ensures.differences in
    let wa : AreWithin 8190 c.stage_of.result = stage_doubles 4095 c.args.x.now c.stage_of.result a (omega arith) (omega arith) c.requires in
    let b : IsStage c.stage_of.result c.stage_of-2.result = is_stage c.stage_of.result c.stage_of-2.result c.stage_of-2.ensures.sums c.stage_of-2.ensures.differences in
    let wb : AreWithin 16380 c.stage_of-2.result = stage_doubles 8190 c.stage_of.result c.stage_of-2.result b (omega arith) (omega arith) wa in
    wb

pub returns-clause-turned : goal.returns-clause-turned
returns-clause-turned c v h =
    let a : IsStage c.args.x.now c.stage_of.result = is_stage c.args.x.now c.stage_of.result c.stage_of.ensures.sums c.stage_of.ensures.differences in
    let wa : AreWithin 8190 c.stage_of.result = stage_doubles 4095 c.args.x.now c.stage_of.result a (omega arith) (omega arith) c.requires in
    let b : IsStage c.stage_of.result c.stage_of-2.result = is_stage c.stage_of.result c.stage_of-2.result c.stage_of-2.ensures.sums c.stage_of-2.ensures.differences in
    let wb : AreWithin 16380 c.stage_of-2.result = stage_doubles 8190 c.stage_of.result c.stage_of-2.result b (omega arith) (omega arith) wa in
    let d : IsStage c.stage_of-2.result c.stage_of-3.result = is_stage c.stage_of-2.result c.stage_of-3.result c.stage_of-3.ensures.sums c.stage_of-3.ensures.differences in
    turned c.args.x.now c.stage_of.result c.stage_of-2.result c.stage_of-3.result a b d v h

pub returns-clause-range : goal.returns-clause-range
returns-clause-range c n w =
    let a : IsStage c.args.x.now c.stage_of.result = is_stage c.args.x.now c.stage_of.result c.stage_of.ensures.sums c.stage_of.ensures.differences in
    let b : IsStage c.stage_of.result c.stage_of-2.result = is_stage c.stage_of.result c.stage_of-2.result c.stage_of-2.ensures.sums c.stage_of-2.ensures.differences in
    let d : IsStage c.stage_of-2.result c.stage_of-3.result = is_stage c.stage_of-2.result c.stage_of-3.result c.stage_of-3.ensures.sums c.stage_of-3.ensures.differences in
    let wa : AreWithin (2 * n) c.stage_of.result = stage_doubles n c.args.x.now c.stage_of.result a (omega arith) (omega arith) w in
    let wb : AreWithin (2 * (2 * n)) c.stage_of-2.result = stage_doubles (2 * n) c.stage_of.result c.stage_of-2.result b (omega arith) (omega arith) wa in
    widened (2 * (2 * (2 * n))) (8 * n) c.stage_of-3.result (omega arith) (stage_doubles (2 * (2 * n)) c.stage_of-2.result c.stage_of-3.result d (omega arith) (omega arith) wb)
