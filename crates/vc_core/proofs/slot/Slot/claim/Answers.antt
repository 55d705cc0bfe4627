use Rattle.vc_core.proofs.SlotsAnswer.{never_due, copying_view, encoding_view, decoding_view, fits_inside}
use Rattle.vc_core.proofs.slot.Slot.claim.Goals as goal
use Rattle.vc_core.proofs.slot.Slot.claim.Goals.{in-Copying, in-Encoding, in-Decoding}

pub unreachable-requires : goal.unreachable-requires
unreachable-requires c =
    never_due c.self.inside.content c.args.self.now c.self.view_is c.in-Closed.is c.requires.due

pub returns-clause-holds : goal.returns-clause-holds
returns-clause-holds c hold f =
    elim c.match-self.branch [
      | in-Copying w ↦
          rw w.self-inside-is
          (w.claim.ensures.claimed.holds hold
          (fits_inside c.args.self.now w.in-Copying.copier.value w.deref_mut.result.now hold
          (copying_view c.self.inside.content c.args.self.now w.in-Copying.copier c.self.view_is w.in-Copying.is) w.deref_mut.ensures.value f))
      | in-Encoding w ↦
          rw w.self-inside-is
          (w.claim-in-Encoding.ensures.claimed.holds hold
          (fits_inside c.args.self.now w.in-Encoding.encoder.value w.deref_mut-in-Encoding.result.now hold
          (encoding_view c.self.inside.content c.args.self.now w.in-Encoding.encoder c.self.view_is w.in-Encoding.is)
          w.deref_mut-in-Encoding.ensures.value f))
      | in-Decoding w ↦
          rw w.self-inside-is
          (w.claim-in-Decoding.ensures.claimed.holds hold
          (fits_inside c.args.self.now w.in-Decoding.decoder.value w.deref_mut-in-Decoding.result.now hold
          (decoding_view c.self.inside.content c.args.self.now w.in-Decoding.decoder c.self.view_is w.in-Decoding.is)
          w.deref_mut-in-Decoding.ensures.value f))
    ]
