use Rattle.vc_decode_flow.specs.Steps.{with_picture}
use Rattle.vc_flow.proofs.Results.{on_ok, on_err}
use Rattle.vc_decode_flow.proofs.CallsKeepAStream.{stream_of_unspoilt}
use Rattle.vc_flow.proofs.CallsHandOut.{first_stays}
use Rattle.vc_decode_flow.proofs.RoundsWritePictures.{wrote_picture, wrote_front, written_last, written_on, stopped_whole}
use Rattle.vc_decode_flow.proofs.rounds.give.Goals as goal

pub returns-in_err-write_taken-clause-cut : goal.returns-in_err-write_taken-clause-cut
returns-in_err-write_taken-clause-cut g c = λ start f first w.
    on_err _ (wrote_front start f c.args.taken w.picture first _ _ _ w.wrote w.unspoilt (c.in_err-write_taken.ensures.front w.picture w.there))

pub returns-then-round-clause-at : goal.returns-then-round-clause-at
returns-then-round-clause-at g c = λ start f first w.
    written_last start f c.args.taken first _ _ _ _ w (c.in_ok-write_taken.ensures.whole w.picture w.there)

pub returns-in_err-queue_capture-clause-cut : goal.returns-in_err-queue_capture-clause-cut
returns-in_err-queue_capture-clause-cut g c = λ start f first w.
    on_err _ (stopped_whole start f c.args.taken first _ _ _ _ _ w (c.in_ok-write_taken.ensures.whole w.picture w.there) c.in_err-queue_capture.ensures.bytes)

pub returns-clause-at : goal.returns-clause-at
returns-clause-at g c = λ start f first w.
    written_on start f c.args.taken first _ _ _ _ _ c.if-round.false w (c.in_ok-write_taken.ensures.whole w.picture w.there) (c.in_ok-queue_capture.ensures.stream start (with_picture f c.args.taken w.picture) (stream_of_unspoilt start _ _ w.unspoilt)) c.in_ok-queue_capture.ensures.bytes
