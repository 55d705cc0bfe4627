use Rattle.std.proofs.Common.{rules, ◌∙◌, ap, None}
use Rattle.vc_geom.specs.Pairs.{pair_of}
use Rattle.vc_model.specs.Context.{Context}
use Rattle.vc_dec.proofs.ClaimsInCommon.{IsClaim, claim_phase, source_front, no_source, not_empty}
use Rattle.vc_dec.proofs.ClaimsOfProbes.{probe_claims, probe_can, probe_work}
use Rattle.vc_dec.proofs.Decoder.claim_probe.Goals as goal

pub lend-source-requires-clause-running : goal.lend-source-requires-clause-running
lend-source-requires-clause-running c =
    claim_phase (pair_of c.self.inside.m2m.formats) c.self.inside.geometry c.self.inside.m2m.pair c.self.inside.m2m.events c.self.inside.codec c.self.inside.job c.args.self.now c.self.view_is c.self.invariant c.requires.able.kept c.requires.able.due

pub lend-source-requires-clause-ready : goal.lend-source-requires-clause-ready
lend-source-requires-clause-ready c =
    not_empty c.self.inside.m2m.pair.out.ready
    (source_front (pair_of c.self.inside.m2m.formats) c.self.inside.geometry c.self.inside.m2m.pair c.self.inside.m2m.events c.self.inside.codec
    c.self.inside.job c.args.self.now c.self.view_is c.self.invariant c.requires.able.kept c.requires.able.due).some

pub lend-source-requires-clause-none_lent : goal.lend-source-requires-clause-none_lent
lend-source-requires-clause-none_lent c =
    no_source (pair_of c.self.inside.m2m.formats) c.self.inside.geometry c.self.inside.m2m.pair c.self.inside.m2m.events c.self.inside.codec c.self.inside.job c.args.self.now c.self.view_is c.self.invariant c.requires.able.kept c.requires.able.due

pub probe_work-requires : goal.probe_work-requires
probe_work-requires c =
    probe_can (pair_of c.self.inside.m2m.formats) c.self.inside.geometry c.self.inside.m2m.pair c.self.inside.m2m.events c.self.inside.codec
    c.self.inside.job c.args.self.now (ap (λ (x : Context). x.geometry) c.self.view_is ∙ c.requires.unknown) c.self.view_is c.self.invariant
    c.requires.able.kept c.requires.able.due c.lend-source.result c.lend_assembly-assembly.result c.lend-source.ensures.lent
    c.lend_assembly-assembly.ensures.limit c.lend_assembly-assembly.ensures.kept

claimed :
    (c : goal.After-probe_work)
    → IsClaim (pair_of c.self.inside.m2m.formats) c.self.inside.geometry c.lend-source.new.self c.self.inside.m2m.events
    c.lend_assembly-assembly.new.self (record { source = c.lend-source.result.index; dest = None }) c.args.self.now
claimed c =
    probe_claims (pair_of c.self.inside.m2m.formats) c.self.inside.geometry c.self.inside.m2m.pair c.self.inside.m2m.events c.self.inside.codec
    c.self.inside.job c.args.self.now (ap (λ (x : Context). x.geometry) c.self.view_is ∙ c.requires.unknown) c.self.view_is c.self.invariant
    c.requires.able.kept c.requires.able.due c.lend-source.result c.lend-source.new.self c.lend_assembly-assembly.new.self c.lend-source.ensures.after
    c.lend_assembly-assembly.ensures.left c.lend-source.ensures.lent

pub invariant_of-self : goal.invariant_of-self
invariant_of-self c = (claimed c).keeps

pub returns : goal.returns
returns c =
    record {
      claimed = record {
        after =
            (claimed c).after;
        step =
            (claimed c).step;
        work =
            probe_work (pair_of c.self.inside.m2m.formats) c.self.inside.geometry c.self.inside.m2m.pair c.self.inside.m2m.events c.self.inside.codec
            c.self.inside.job c.args.self.now (ap (λ (x : Context). x.geometry) c.self.view_is ∙ c.requires.unknown) c.self.view_is c.self.invariant
            c.requires.able.kept c.requires.able.due c.lend-source.result c.lend_assembly-assembly.result c.lend-source.ensures.lent
            c.lend_assembly-assembly.ensures.limit c.lend_assembly-assembly.ensures.kept c.probe_work.result c.probe_work.ensures.work;
        fits = search rules;
        taken =
            (claimed c).free;
        runs =
            (claimed c).runs;
        holds =
            λ hold f.
            (claimed c).holds hold f;
      };
    }
