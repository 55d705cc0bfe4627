use Rattle.std.proofs.Common.{◌≡◌, length, Some}
use Rattle.vc_defs.specs.Raw.{geometry_of}
use Rattle.vc_stream_run.specs.Running.{IsInStep}
use Rattle.vc_alone.specs.Pictures.{picture_format}
use Rattle.vc_alone.proofs.decoding.show_all.Given as goal

abbrev pub invariant-loop-turn : goal.invariant-loop-turn
invariant-loop-turn g l =
    (length l.picture ≡ 152064)
    × (l.reference.size ≡ 152064)
    × IsInStep l.assembly.limit (Some (geometry_of picture_format)) l.reference.state.reference l.assembly.kept
    × (g.S.Source.faults l.source ≡ g.S.Source.faults l.initial.source)
    × (g.K.Sink.faults l.sink ≡ g.K.Sink.faults l.initial.sink)
