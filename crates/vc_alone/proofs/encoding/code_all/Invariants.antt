use Rattle.std.proofs.Common.{◌≡◌, length}
use Rattle.vc_defs.specs.Raw.{geometry_of}
use Rattle.vc_work.specs.Runs.{HasGeometry}
use Rattle.vc_alone.specs.Pictures.{picture_format}
use Rattle.vc_alone.specs.Coded.{HasCoded}
use Rattle.vc_alone.proofs.encoding.code_all.Given as goal

abbrev pub invariant-loop-turn : goal.invariant-loop-turn
invariant-loop-turn g l =
    (length l.picture ≡ 152064)
    × (length l.frame ≡ 152108)
    × (l.reference.size ≡ 152064)
    × HasGeometry (geometry_of picture_format) l.reference.state.reference
    × (g.S.Source.faults l.source ≡ g.S.Source.faults l.initial.source)
    × (g.K.Sink.faults l.sink ≡ g.K.Sink.faults l.initial.sink)
    × HasCoded l.initial.reference.state (g.S.Source.left l.initial.source) (g.S.Source.left l.source) (g.K.Sink.written l.initial.sink)
    (g.K.Sink.written l.sink) l.reference.state
