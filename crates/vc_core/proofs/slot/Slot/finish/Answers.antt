use Rattle.vc_core.proofs.SlotsAnswer.{copying_view, encoding_view, decoding_view, fits_inside, step_inside}
use Rattle.vc_core.proofs.slot.Slot.finish.Goals as goal
use Rattle.vc_core.proofs.slot.Slot.finish.Goals.{in-Copying, in-Encoding, in-Decoding}

pub returns-clause-holds : goal.returns-clause-holds
returns-clause-holds c hold f =
    elim c.match-self.branch [
      | in-Copying w ↦
          rw w.self-inside-is
          (w.finish.ensures.finished.holds hold
          (fits_inside c.args.self.now w.in-Copying.copier.value w.deref_mut.result.now hold
          (copying_view c.self.inside.content c.args.self.now w.in-Copying.copier c.self.view_is w.in-Copying.is) w.deref_mut.ensures.value f))
      | in-Encoding w ↦
          rw w.self-inside-is
          (w.finish-in-Encoding.ensures.finished.holds hold
          (fits_inside c.args.self.now w.in-Encoding.encoder.value w.deref_mut-in-Encoding.result.now hold
          (encoding_view c.self.inside.content c.args.self.now w.in-Encoding.encoder c.self.view_is w.in-Encoding.is)
          w.deref_mut-in-Encoding.ensures.value f))
      | in-Decoding w ↦
          rw w.self-inside-is
          (w.finish-in-Decoding.ensures.finished.holds hold
          (fits_inside c.args.self.now w.in-Decoding.decoder.value w.deref_mut-in-Decoding.result.now hold
          (decoding_view c.self.inside.content c.args.self.now w.in-Decoding.decoder c.self.view_is w.in-Decoding.is)
          w.deref_mut-in-Decoding.ensures.value f))
    ]

pub returns-clause-step : goal.returns-clause-step
returns-clause-step c =
    elim c.match-self.branch [
      | in-Copying w ↦
          rw w.self-inside-is
          (step_inside c.args.self.now w.in-Copying.copier.value w.deref_mut.result.now w.finish.new.self
          (copying_view c.self.inside.content c.args.self.now w.in-Copying.copier c.self.view_is w.in-Copying.is) w.deref_mut.ensures.value
          w.finish.ensures.finished.step)
      | in-Encoding w ↦
          rw w.self-inside-is
          (step_inside c.args.self.now w.in-Encoding.encoder.value w.deref_mut-in-Encoding.result.now w.finish-in-Encoding.new.self
          (encoding_view c.self.inside.content c.args.self.now w.in-Encoding.encoder c.self.view_is w.in-Encoding.is)
          w.deref_mut-in-Encoding.ensures.value w.finish-in-Encoding.ensures.finished.step)
      | in-Decoding w ↦
          rw w.self-inside-is
          (step_inside c.args.self.now w.in-Decoding.decoder.value w.deref_mut-in-Decoding.result.now w.finish-in-Decoding.new.self
          (decoding_view c.self.inside.content c.args.self.now w.in-Decoding.decoder c.self.view_is w.in-Decoding.is)
          w.deref_mut-in-Decoding.ensures.value w.finish-in-Decoding.ensures.finished.step)
    ]
