use Rattle.vc_copy.proofs.CopierAnswers.{dqbuf_out, dqbuf_cap}
use Rattle.vc_copy.proofs.QueuesCountUp.{dqbuf_step, dqbuf_goes, cap_step}
use Rattle.vc_copy.proofs.TakenPayloads.{moves_out, moves_cap, other_fits_out, other_fits_cap}
use Rattle.vc_copy.proofs.Copier.dqbuf.Goals as goal

pub returns-in-Out-clause-answers : goal.returns-in-Out-clause-answers
returns-in-Out-clause-answers c =
    dqbuf_out c.self.inside.size c.self.inside.out c.self.inside.cap c.self.inside.running c.args.self.now c.args.side c.self.view_is c.args.block _
    c.dqbuf.result _ c.in-Out.is c.dqbuf.ensures.answer c.dqbuf.ensures.after c.taken_or_blocked.ensures

pub returns-in-Out-clause-carried : goal.returns-in-Out-clause-carried
returns-in-Out-clause-carried c =
    record {
      step =
          dqbuf_step c.self.inside.size c.self.inside.out c.self.inside.cap c.self.inside.running c.args.self.now c.self.view_is c.requires.able.kept _ _ c.dqbuf.ensures.after;
      moves =
          moves_out c.self.inside.size c.self.inside.out c.self.inside.cap c.self.inside.running c.args.self.now c.self.view_is c.requires.able.kept c.args.side
          c.args.block c.dqbuf.result _ _ _ c.in-Out.is c.dqbuf.ensures.answer c.taken_or_blocked.ensures c.dqbuf.ensures.payload;
      fit =
          other_fits_out c.self.inside.size c.self.inside.out c.self.inside.cap c.self.inside.running c.args.self.now c.self.view_is c.requires.able.kept _ _ _ _ c.dqbuf.ensures.payload c.requires.able.fits c.dqbuf.ensures.fit;
      zeros =
          tt;
      asked =
          λ e. tt;
    }

pub returns-in-Cap-clause-answers : goal.returns-in-Cap-clause-answers
returns-in-Cap-clause-answers c =
    dqbuf_cap c.self.inside.size c.self.inside.out c.self.inside.cap c.self.inside.running c.args.self.now c.args.side c.self.view_is c.args.block _
    c.dqbuf-in-Cap.result _ c.in-Cap.is c.dqbuf-in-Cap.ensures.answer c.dqbuf-in-Cap.ensures.after c.taken_or_blocked-in-Cap.ensures

pub returns-in-Cap-clause-carried : goal.returns-in-Cap-clause-carried
returns-in-Cap-clause-carried c =
    record {
      step =
          cap_step c.self.inside.size c.self.inside.out c.self.inside.cap c.self.inside.running c.args.self.now c.self.view_is c.requires.able.kept _ (dqbuf_goes c.self.inside.cap _ _ c.dqbuf-in-Cap.ensures.after);
      moves =
          moves_cap c.self.inside.size c.self.inside.out c.self.inside.cap c.self.inside.running c.args.self.now c.self.view_is c.requires.able.kept c.args.side
          c.args.block c.dqbuf-in-Cap.result _ _ _ c.in-Cap.is c.dqbuf-in-Cap.ensures.answer c.taken_or_blocked-in-Cap.ensures
          c.dqbuf-in-Cap.ensures.payload;
      fit =
          other_fits_cap c.self.inside.size c.self.inside.out c.self.inside.cap c.self.inside.running c.args.self.now c.self.view_is c.requires.able.kept _ _ _ _ c.dqbuf-in-Cap.ensures.payload c.requires.able.fits c.dqbuf-in-Cap.ensures.fit;
      zeros =
          tt;
      asked =
          λ e. tt;
    }

pub invariant_of-self : goal.invariant_of-self
invariant_of-self c =
    ((dqbuf_goes c.self.inside.out _ _ c.dqbuf.ensures.after).index c.self.inside.source c.self.invariant.0, c.self.invariant.1)

pub invariant_of-self-in-Cap : goal.invariant_of-self-in-Cap
invariant_of-self-in-Cap c =
    (c.self.invariant.0, (dqbuf_goes c.self.inside.cap _ _ c.dqbuf-in-Cap.ensures.after).index c.self.inside.dest c.self.invariant.1)
