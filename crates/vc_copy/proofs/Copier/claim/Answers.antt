use Rattle.std.proofs.Common.{rules, arith, ◌≤◌, length}
use Rattle.vc_copy.proofs.ClaimsTakeTheFront.{claim_runs, claim_after, claim_given, claimed_is, is_taken, claim_step, source_there, dest_there, no_source, no_dest, source_filled, source_index, dest_index}
use Rattle.vc_copy.proofs.JobsLeaveTheHold.{claim_holds}
use Rattle.vc_copy.proofs.Copier.claim.Goals as goal

pub returns : goal.returns
returns c =
    record {
      claimed = record {
        after =
            claim_after c.self.inside.size c.self.inside.out c.self.inside.cap c.self.inside.running c.args.self.now c.self.view_is c.requires.able.due _ _ c.lend-source.ensures.after c.lend-dest.ensures.after;
        step =
            claim_step c.self.inside.size c.self.inside.out c.self.inside.cap c.self.inside.running c.args.self.now c.self.view_is c.requires.able.due _ _ c.requires.able.kept c.lend-source.ensures.after c.lend-dest.ensures.after;
        work =
            rw (claimed_is c.self.inside.size c.self.inside.out c.self.inside.cap c.self.inside.running c.args.self.now c.self.view_is c.requires.able.due)
            (c.copy_work.ensures.work _
            (rw c.data_format.ensures
            (claim_given c.self.inside.size c.self.inside.out c.self.inside.cap c.self.inside.running c.args.self.now c.self.view_is c.requires.able.due _ _ c.lend-source.ensures.lent c.lend-dest.ensures.lent)));
        fits = search rules;
        taken =
            is_taken c.self.inside.size c.self.inside.out c.self.inside.cap c.self.inside.running c.args.self.now c.self.view_is c.requires.able.due c.lend-source.new.self c.lend-dest.new.self;
        runs =
            claim_runs c.self.inside.size c.self.inside.out c.self.inside.cap c.self.inside.running c.args.self.now c.self.view_is c.requires.able.due _ _ c.lend-source.ensures.after c.lend-dest.ensures.after;
        holds =
            λ hold f.
            claim_holds c.self.inside.size c.self.inside.out c.self.inside.cap c.self.inside.running c.args.self.now c.self.view_is _ _ hold c.lend-source.ensures.after c.lend-dest.ensures.after f;
      };
    }

pub copy_work-requires : goal.copy_work-requires
copy_work-requires c =
    let h : c.lend-source.result.used ≤ length c.lend-source.result.payload.items =
    source_filled c.self.inside.size c.self.inside.out c.self.inside.cap c.self.inside.running c.args.self.now c.self.view_is c.requires.able.due
    c.lend-source.result c.requires.able.kept c.lend-source.ensures.lent in
    omega (arith, h, c.lend-source.result.payload.ok.0)

pub lend-source-requires-clause-ready : goal.lend-source-requires-clause-ready
lend-source-requires-clause-ready c =
    source_there c.self.inside.size c.self.inside.out c.self.inside.cap c.self.inside.running c.args.self.now c.self.view_is c.requires.able.due

pub lend-source-requires-clause-none_lent : goal.lend-source-requires-clause-none_lent
lend-source-requires-clause-none_lent c =
    no_source c.self.inside.size c.self.inside.out c.self.inside.cap c.self.inside.running c.args.self.now c.self.view_is c.requires.able.due c.requires.able.kept

pub lend-dest-requires-clause-ready : goal.lend-dest-requires-clause-ready
lend-dest-requires-clause-ready c =
    dest_there c.self.inside.size c.self.inside.out c.self.inside.cap c.self.inside.running c.args.self.now c.self.view_is c.requires.able.due

pub lend-dest-requires-clause-none_lent : goal.lend-dest-requires-clause-none_lent
lend-dest-requires-clause-none_lent c =
    no_dest c.self.inside.size c.self.inside.out c.self.inside.cap c.self.inside.running c.args.self.now c.self.view_is c.requires.able.due c.requires.able.kept

pub invariant_of-self : goal.invariant_of-self
invariant_of-self c = (
  source_index c.self.inside.size c.self.inside.out c.self.inside.cap c.self.inside.running c.args.self.now c.self.view_is c.requires.able.due _ _ c.lend-source.ensures.lent c.lend-source.ensures.after,
  dest_index c.self.inside.size c.self.inside.out c.self.inside.cap c.self.inside.running c.args.self.now c.self.view_is c.requires.able.due _ _ c.lend-dest.ensures.lent c.lend-dest.ensures.after,
)
