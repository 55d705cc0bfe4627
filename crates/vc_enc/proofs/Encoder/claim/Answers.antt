use Rattle.std.proofs.Common.{rules, subst}
use Rattle.vc_base.specs.declared.Side.TheVariants.{Cap}
use Rattle.vc_geom.specs.Pairs.{pair_of}
use Rattle.vc_queue.specs.Lending.{IsLentFrom}
use Rattle.vc_pair.specs.Pairs.{PairState, queue_at}
use Rattle.vc_enc.proofs.ClaimsTakeTheFront.{claim_phase, source_there, dest_there, no_source, no_dest, claim_fits, claimed_pair, claim_after, claim_step, claim_work, claim_taken, claim_runs, claim_holds, claim_kept}
use Rattle.vc_enc.proofs.Encoder.claim.Goals as goal

pub returns : goal.returns
returns c =
    record {
      claimed = record {
        after =
            claim_after (pair_of c.self.inside.m2m.formats) c.self.inside.controls c.self.inside.m2m.pair c.self.inside.m2m.events c.self.inside.reference
            c.self.inside.job c.args.self.now c.self.view_is c.self.invariant c.requires.able.kept c.requires.able.due c.lend-dest.new.self c.take-reference.new.self
            (record { source = c.lend-source.result.index; dest = c.lend-dest.result.index })
            (claimed_pair (pair_of c.self.inside.m2m.formats) c.self.inside.controls c.self.inside.m2m.pair c.self.inside.m2m.events c.self.inside.reference
            c.self.inside.job c.args.self.now c.self.view_is c.self.invariant c.requires.able.kept c.requires.able.due _ _ c.lend-source.ensures.after
            c.lend-dest.ensures.after);
        step =
            claim_step (pair_of c.self.inside.m2m.formats) c.self.inside.controls c.self.inside.m2m.pair c.self.inside.m2m.events c.self.inside.reference
            c.self.inside.job c.args.self.now c.self.view_is c.self.invariant c.requires.able.kept c.requires.able.due c.lend-dest.new.self c.take-reference.new.self
            (record { source = c.lend-source.result.index; dest = c.lend-dest.result.index })
            (claimed_pair (pair_of c.self.inside.m2m.formats) c.self.inside.controls c.self.inside.m2m.pair c.self.inside.m2m.events c.self.inside.reference
            c.self.inside.job c.args.self.now c.self.view_is c.self.invariant c.requires.able.kept c.requires.able.due _ _ c.lend-source.ensures.after
            c.lend-dest.ensures.after);
        work =
            claim_work (pair_of c.self.inside.m2m.formats) c.self.inside.controls c.self.inside.m2m.pair c.self.inside.m2m.events c.self.inside.reference
            c.self.inside.job c.args.self.now c.self.view_is c.self.invariant c.requires.able.kept c.requires.able.due c.lend-source.result c.lend-dest.result
            c.take-reference.result c.rates_of-rates.result c.encode_work.result c.take-reference.ensures.value c.lend-source.ensures.lent
            (subst (λ (q : PairState). IsLentFrom (queue_at q Cap).ready c.lend-dest.result) c.lend-source.ensures.after c.lend-dest.ensures.lent)
            c.rates_of-rates.ensures.rates c.encode_work.ensures.work;
        fits = search rules;
        taken =
            claim_taken (pair_of c.self.inside.m2m.formats) c.self.inside.controls c.self.inside.m2m.pair c.self.inside.m2m.events c.self.inside.reference
            c.self.inside.job c.args.self.now c.self.view_is c.self.invariant c.requires.able.kept c.requires.able.due c.lend-dest.new.self c.take-reference.new.self
            (record { source = c.lend-source.result.index; dest = c.lend-dest.result.index });
        runs =
            claim_runs (pair_of c.self.inside.m2m.formats) c.self.inside.controls c.self.inside.m2m.pair c.self.inside.m2m.events c.self.inside.reference
            c.self.inside.job c.args.self.now c.self.view_is c.self.invariant c.requires.able.kept c.requires.able.due c.lend-dest.new.self c.take-reference.new.self
            (record { source = c.lend-source.result.index; dest = c.lend-dest.result.index })
            (claimed_pair (pair_of c.self.inside.m2m.formats) c.self.inside.controls c.self.inside.m2m.pair c.self.inside.m2m.events c.self.inside.reference
            c.self.inside.job c.args.self.now c.self.view_is c.self.invariant c.requires.able.kept c.requires.able.due _ _ c.lend-source.ensures.after
            c.lend-dest.ensures.after);
        holds =
            λ hold f.
            claim_holds (pair_of c.self.inside.m2m.formats) c.self.inside.controls c.self.inside.m2m.pair c.self.inside.m2m.events c.self.inside.reference
            c.self.inside.job c.args.self.now c.self.view_is c.self.invariant c.requires.able.kept c.requires.able.due c.lend-dest.new.self c.take-reference.new.self
            (record { source = c.lend-source.result.index; dest = c.lend-dest.result.index }) hold
            (claimed_pair (pair_of c.self.inside.m2m.formats) c.self.inside.controls c.self.inside.m2m.pair c.self.inside.m2m.events c.self.inside.reference
            c.self.inside.job c.args.self.now c.self.view_is c.self.invariant c.requires.able.kept c.requires.able.due _ _ c.lend-source.ensures.after
            c.lend-dest.ensures.after)
            f;
      };
    }

pub lend-source-requires-clause-ready : goal.lend-source-requires-clause-ready
lend-source-requires-clause-ready c =
    source_there (pair_of c.self.inside.m2m.formats) c.self.inside.controls c.self.inside.m2m.pair c.self.inside.m2m.events c.self.inside.reference
    c.self.inside.job c.args.self.now c.self.view_is c.self.invariant c.requires.able.kept c.requires.able.due

pub lend-source-requires-clause-none_lent : goal.lend-source-requires-clause-none_lent
lend-source-requires-clause-none_lent c =
    no_source (pair_of c.self.inside.m2m.formats) c.self.inside.controls c.self.inside.m2m.pair c.self.inside.m2m.events c.self.inside.reference
    c.self.inside.job c.args.self.now c.self.view_is c.self.invariant c.requires.able.kept c.requires.able.due

pub lend-source-requires-clause-running : goal.lend-source-requires-clause-running
lend-source-requires-clause-running c =
    claim_phase (pair_of c.self.inside.m2m.formats) c.self.inside.controls c.self.inside.m2m.pair c.self.inside.m2m.events c.self.inside.reference
    c.self.inside.job c.args.self.now c.self.view_is c.self.invariant c.requires.able.kept c.requires.able.due

pub lend-dest-requires-clause-ready : goal.lend-dest-requires-clause-ready
lend-dest-requires-clause-ready c =
    rw c.lend-source.ensures.after
    (dest_there (pair_of c.self.inside.m2m.formats) c.self.inside.controls c.self.inside.m2m.pair c.self.inside.m2m.events c.self.inside.reference
    c.self.inside.job c.args.self.now c.self.view_is c.self.invariant c.requires.able.kept c.requires.able.due)

pub lend-dest-requires-clause-none_lent : goal.lend-dest-requires-clause-none_lent
lend-dest-requires-clause-none_lent c =
    rw c.lend-source.ensures.after
    (no_dest (pair_of c.self.inside.m2m.formats) c.self.inside.controls c.self.inside.m2m.pair c.self.inside.m2m.events c.self.inside.reference
    c.self.inside.job c.args.self.now c.self.view_is c.self.invariant c.requires.able.kept c.requires.able.due)

pub lend-dest-requires-clause-running : goal.lend-dest-requires-clause-running
lend-dest-requires-clause-running c =
    rw c.lend-source.ensures.after
    (claim_phase (pair_of c.self.inside.m2m.formats) c.self.inside.controls c.self.inside.m2m.pair c.self.inside.m2m.events c.self.inside.reference
    c.self.inside.job c.args.self.now c.self.view_is c.self.invariant c.requires.able.kept c.requires.able.due)

pub encode_work-requires : goal.encode_work-requires
encode_work-requires c =
    rw c.take-reference.ensures.value
    (claim_fits (pair_of c.self.inside.m2m.formats) c.self.inside.controls c.self.inside.m2m.pair c.self.inside.m2m.events c.self.inside.reference
    c.self.inside.job c.args.self.now c.self.view_is c.self.invariant c.requires.able.kept c.requires.able.due c.lend-source.result c.lend-dest.result
    c.rates_of-rates.result c.lend-source.ensures.lent
    (subst (λ (q : PairState). IsLentFrom (queue_at q Cap).ready c.lend-dest.result) c.lend-source.ensures.after c.lend-dest.ensures.lent)
    c.rates_of-rates.ensures.range)

pub invariant_of-self : goal.invariant_of-self
invariant_of-self c =
    claim_kept (pair_of c.self.inside.m2m.formats) c.self.inside.controls c.self.inside.m2m.pair c.self.inside.m2m.events c.self.inside.reference
    c.self.inside.job c.args.self.now c.self.view_is c.self.invariant c.requires.able.kept c.requires.able.due c.lend-source.result c.lend-dest.result
    c.lend-dest.new.self _
    (claimed_pair (pair_of c.self.inside.m2m.formats) c.self.inside.controls c.self.inside.m2m.pair c.self.inside.m2m.events c.self.inside.reference
    c.self.inside.job c.args.self.now c.self.view_is c.self.invariant c.requires.able.kept c.requires.able.due _ _ c.lend-source.ensures.after
    c.lend-dest.ensures.after)
    c.lend-source.ensures.lent
    (subst (λ (q : PairState). IsLentFrom (queue_at q Cap).ready c.lend-dest.result) c.lend-source.ensures.after c.lend-dest.ensures.lent)
