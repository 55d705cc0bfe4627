use Rattle.std.proofs.Common.{rules, refl}
use Rattle.vc_model.specs.Answer.{context_answer}
use Rattle.vc_m2m.proofs.CallsLeftOver.{left_over}
use Rattle.vc_context.proofs.NewBuffersAreZeros.{none_new, none_asked}
use Rattle.vc_enc.proofs.NeedsNoMemory.{always}
use Rattle.vc_enc.proofs.CommonCalls.{parts, of_kind, counts, fits_both, shared_gives, shared_kept, shared_step}
use Rattle.vc_enc.proofs.Encoder.answer.Goals as goal

pub returns-in-SetFmt-clause-answers : goal.returns-in-SetFmt-clause-answers
unfolding context_answer
returns-in-SetFmt-clause-answers c =
    rw c.in-SetFmt.is (always _ _ _ _ refl c.set_format.ensures.gives)

pub returns-in-SetFmt-clause-carried : goal.returns-in-SetFmt-clause-carried
returns-in-SetFmt-clause-carried c =
    record {
      step = search rules;
      moves = search rules;
      fit =
          c.set_format.ensures.holds c.args.hold.now c.requires.able.fits;
      zeros =
          search rules;
      asked =
          search rules;
    }

pub returns-in-ReqBufs-clause-answers : goal.returns-in-ReqBufs-clause-answers
unfolding context_answer
returns-in-ReqBufs-clause-answers c = rw c.in-ReqBufs.is (c.reqbufs.ensures.answers)

pub returns-in-CreateBufs-clause-answers : goal.returns-in-CreateBufs-clause-answers
unfolding context_answer
returns-in-CreateBufs-clause-answers c = rw c.in-CreateBufs.is (c.create.ensures.answers)

pub returns-in-StreamOff-clause-answers : goal.returns-in-StreamOff-clause-answers
unfolding context_answer
returns-in-StreamOff-clause-answers c =
    rw c.in-StreamOff.is (always _ _ _ _ refl c.streamoff.ensures.answers)

pub returns-in-GetCtrl-clause-answers : goal.returns-in-GetCtrl-clause-answers
unfolding context_answer
returns-in-GetCtrl-clause-answers c =
    rw c.in-GetCtrl.is (always _ _ _ _ refl c.control.ensures)

pub returns-in-SetCtrl-clause-answers : goal.returns-in-SetCtrl-clause-answers
unfolding context_answer
returns-in-SetCtrl-clause-answers c =
    rw c.in-SetCtrl.is (always _ _ _ _ refl c.set_control.ensures.gives)

pub returns-in-SetCtrl-clause-carried : goal.returns-in-SetCtrl-clause-carried
returns-in-SetCtrl-clause-carried c =
    record {
      step = search rules;
      moves = search rules;
      fit =
          c.set_control.ensures.holds c.args.hold.now c.requires.able.fits;
      zeros =
          search rules;
      asked =
          search rules;
    }

pub answer-requires-clause-common : goal.answer-requires-clause-common
answer-requires-clause-common c =
    left_over c.args.call.now c.requires.other c.in_default.not-SetFmt c.in_default.not-ReqBufs c.in_default.not-CreateBufs c.in_default.not-StreamOff c.in_default.not-GetCtrl c.in_default.not-SetCtrl

pub answer-requires-clause-stands : goal.answer-requires-clause-stands
answer-requires-clause-stands c = c.self.invariant.stands

pub answer-requires-clause-settled : goal.answer-requires-clause-settled
answer-requires-clause-settled c = c.self.invariant.settled

pub answer-requires-clause-fit : goal.answer-requires-clause-fit
answer-requires-clause-fit c = fits_both c.self.inside.m2m c.self.inside.controls c.self.inside.reference c.self.inside.job c.args.self.now c.self.view_is c.self.invariant c.args.hold.now c.requires.able.fits

pub answer-requires-clause-room : goal.answer-requires-clause-room
answer-requires-clause-room c = counts c.self.inside.m2m c.self.inside.controls c.self.inside.reference c.self.inside.job c.args.self.now c.self.view_is c.self.invariant c.requires.able.room

pub returns-in_default-clause-answers : goal.returns-in_default-clause-answers
returns-in_default-clause-answers c =
    shared_gives c.self.inside.m2m c.self.inside.controls c.self.inside.reference c.self.inside.job c.args.self.now c.self.view_is c.self.invariant
    c.args.call.now _ c.answer.result c.answer.new.self
    (c.answer.ensures.answers c.args.self.now
    (parts c.self.inside.m2m c.self.inside.controls c.self.inside.reference c.self.inside.job c.args.self.now c.self.view_is c.self.invariant)
    (of_kind c.self.inside.m2m c.self.inside.controls c.self.inside.reference c.self.inside.job c.args.self.now c.self.view_is c.self.invariant)
    c.requires.able.kept)

pub returns-in_default-clause-carried : goal.returns-in_default-clause-carried
returns-in_default-clause-carried c =
    record {
      step =
          rw c.answer.ensures.after (shared_step c.self.inside.m2m c.self.inside.controls c.self.inside.reference c.self.inside.job c.args.self.now c.self.view_is c.self.invariant c.requires.able.kept c.args.hold.now c.args.call.now);
      moves =
          c.answer.ensures.moves c.args.self.now (parts c.self.inside.m2m c.self.inside.controls c.self.inside.reference c.self.inside.job c.args.self.now c.self.view_is c.self.invariant) c.requires.able.kept;
      fit =
          let f = c.answer.ensures.fit in record { out = f.0; cap = f.1 };
      zeros =
          none_new c.args.self.now c.args.call.now c.answer.result _ c.in_default.not-ReqBufs c.in_default.not-CreateBufs;
      asked =
          λ e. none_asked c.args.call.now c.in_default.not-ReqBufs c.in_default.not-CreateBufs;
    }

pub invariant_of-self : goal.invariant_of-self
invariant_of-self c = rw c.answer.ensures.after (shared_kept c.self.inside.m2m c.self.inside.controls c.self.inside.reference c.self.inside.job c.args.self.now c.self.view_is c.self.invariant c.requires.able.kept c.args.hold.now c.args.call.now)
