use Rattle.std.proofs.Common.{rules, ◌∙◌, sym, ap, subst, Some}
use Rattle.vc_base.specs.declared.Side.TheVariants.{Cap}
use Rattle.vc_base.specs.Buffers.{lend_after, without_job_bytes}
use Rattle.vc_geom.specs.Pairs.{pair_of}
use Rattle.vc_model.specs.Context.{Context}
use Rattle.vc_pair.specs.Pairs.{PairState, queue_at, with_queue_at}
use Rattle.vc_queue.specs.Lending.{IsLentFrom}
use Rattle.vc_dec.specs.declared.Dest.{Dest}
use Rattle.vc_dec.proofs.ClaimsInCommon.{IsClaim, claim_phase, source_front, dest_front, no_source, no_dest, not_empty}
use Rattle.vc_dec.proofs.ClaimsOfRuns.{payload_length, run_served, run_room, run_can, run_claims, run_work}
use Rattle.vc_dec.proofs.Decoder.claim_run.Goals as goal

pub lend-source-requires-clause-running : goal.lend-source-requires-clause-running
lend-source-requires-clause-running c =
    claim_phase (pair_of c.self.inside.m2m.formats) c.self.inside.geometry c.self.inside.m2m.pair c.self.inside.m2m.events c.self.inside.codec c.self.inside.job c.args.self.now c.self.view_is c.self.invariant c.requires.able.kept c.requires.able.due

pub lend-source-requires-clause-ready : goal.lend-source-requires-clause-ready
lend-source-requires-clause-ready c =
    not_empty c.self.inside.m2m.pair.out.ready
    (source_front (pair_of c.self.inside.m2m.formats) c.self.inside.geometry c.self.inside.m2m.pair c.self.inside.m2m.events c.self.inside.codec
    c.self.inside.job c.args.self.now c.self.view_is c.self.invariant c.requires.able.kept c.requires.able.due).some

pub lend-source-requires-clause-none_lent : goal.lend-source-requires-clause-none_lent
lend-source-requires-clause-none_lent c =
    no_source (pair_of c.self.inside.m2m.formats) c.self.inside.geometry c.self.inside.m2m.pair c.self.inside.m2m.events c.self.inside.codec c.self.inside.job c.args.self.now c.self.view_is c.self.invariant c.requires.able.kept c.requires.able.due

pub lend-dest-requires-clause-running : goal.lend-dest-requires-clause-running
lend-dest-requires-clause-running c =
    rw c.lend-source.ensures.after
    (claim_phase (pair_of c.self.inside.m2m.formats) c.self.inside.geometry c.self.inside.m2m.pair c.self.inside.m2m.events c.self.inside.codec
    c.self.inside.job c.args.self.now c.self.view_is c.self.invariant c.requires.able.kept c.requires.able.due)

pub lend-dest-requires-clause-ready : goal.lend-dest-requires-clause-ready
lend-dest-requires-clause-ready c =
    rw c.lend-source.ensures.after
    (not_empty c.self.inside.m2m.pair.cap.ready
    (dest_front (pair_of c.self.inside.m2m.formats) c.self.inside.geometry c.self.inside.m2m.pair c.self.inside.m2m.events c.self.inside.codec
    c.self.inside.job c.args.self.now c.self.view_is c.self.invariant c.requires.able.kept c.requires.able.due
    (λ e. c.requires.known (sym (ap (λ (x : Context). x.geometry) c.self.view_is) ∙ e))).some)

pub lend-dest-requires-clause-none_lent : goal.lend-dest-requires-clause-none_lent
lend-dest-requires-clause-none_lent c =
    rw c.lend-source.ensures.after
    (no_dest (pair_of c.self.inside.m2m.formats) c.self.inside.geometry c.self.inside.m2m.pair c.self.inside.m2m.events c.self.inside.codec
    c.self.inside.job c.args.self.now c.self.view_is c.self.invariant c.requires.able.kept c.requires.able.due)

pub lend_reference-reference-requires-clause-served : goal.lend_reference-reference-requires-clause-served
lend_reference-reference-requires-clause-served c =
    run_served (pair_of c.self.inside.m2m.formats) c.self.inside.geometry c.self.inside.m2m.pair c.self.inside.m2m.events c.self.inside.codec
    c.self.inside.job c.args.self.now (λ e. c.requires.known (sym (ap (λ (x : Context). x.geometry) c.self.view_is) ∙ e)) c.self.view_is
    c.self.invariant c.requires.able.kept c.requires.able.due c.lend-source.result c.lend-dest.result c.len-length.result c.lend-source.ensures.lent
    (subst (λ (q : PairState). IsLentFrom (queue_at q Cap).ready c.lend-dest.result) c.lend-source.ensures.after c.lend-dest.ensures.lent)
    (payload_length c.lend-dest.result c.len-length.result c.len-length.ensures)

pub lend_reference-reference-requires-clause-room : goal.lend_reference-reference-requires-clause-room
lend_reference-reference-requires-clause-room c =
    run_room (pair_of c.self.inside.m2m.formats) c.self.inside.geometry c.self.inside.m2m.pair c.self.inside.m2m.events c.self.inside.codec
    c.self.inside.job c.args.self.now (λ e. c.requires.known (sym (ap (λ (x : Context). x.geometry) c.self.view_is) ∙ e)) c.self.view_is
    c.self.invariant c.requires.able.kept c.requires.able.due c.lend-source.result c.lend-dest.result c.len-length.result c.lend-source.ensures.lent
    (subst (λ (q : PairState). IsLentFrom (queue_at q Cap).ready c.lend-dest.result) c.lend-source.ensures.after c.lend-dest.ensures.lent)
    (payload_length c.lend-dest.result c.len-length.result c.len-length.ensures)

pub decode_work-requires : goal.decode_work-requires
decode_work-requires c =
    run_can (pair_of c.self.inside.m2m.formats) c.self.inside.geometry c.self.inside.m2m.pair c.self.inside.m2m.events c.self.inside.codec
    c.self.inside.job c.args.self.now (λ e. c.requires.known (sym (ap (λ (x : Context). x.geometry) c.self.view_is) ∙ e)) c.self.view_is
    c.self.invariant c.requires.able.kept c.requires.able.due c.lend-source.result c.lend-dest.result c.len-length.result c.lend-source.ensures.lent
    (subst (λ (q : PairState). IsLentFrom (queue_at q Cap).ready c.lend-dest.result) c.lend-source.ensures.after c.lend-dest.ensures.lent)
    (payload_length c.lend-dest.result c.len-length.result c.len-length.ensures) c.lend_reference-reference.new.self c.lend_assembly-assembly.new.self
    c.lend_reference-reference.result c.lend_assembly-assembly.result
    (record {
      long = c.lend_reference-reference.ensures.length;
      picture = c.lend_reference-reference.ensures.picture;
      rooms = c.lend_reference-reference.ensures.rooms;
      between = c.lend_reference-reference.ensures.left;
      kept = c.lend_assembly-assembly.ensures.kept;
      limit = c.lend_assembly-assembly.ensures.limit;
      after = c.lend_assembly-assembly.ensures.left;
    })

claimed :
    (c : goal.After-decode_work)
    → let d : Dest = record { index = c.lend-dest.result.index; length = c.len-length.result } in
    IsClaim (pair_of c.self.inside.m2m.formats) c.self.inside.geometry c.lend-dest.new.self c.self.inside.m2m.events c.lend_assembly-assembly.new.self
    (record { source = c.lend-source.result.index; dest = Some d }) c.args.self.now
claimed c =
    run_claims (pair_of c.self.inside.m2m.formats) c.self.inside.geometry c.self.inside.m2m.pair c.self.inside.m2m.events c.self.inside.codec
    c.self.inside.job c.args.self.now (λ e. c.requires.known (sym (ap (λ (x : Context). x.geometry) c.self.view_is) ∙ e)) c.self.view_is
    c.self.invariant c.requires.able.kept c.requires.able.due c.lend-source.result c.lend-dest.result c.len-length.result c.lend-source.ensures.lent
    (subst (λ (q : PairState). IsLentFrom (queue_at q Cap).ready c.lend-dest.result) c.lend-source.ensures.after c.lend-dest.ensures.lent)
    (payload_length c.lend-dest.result c.len-length.result c.len-length.ensures) c.lend_reference-reference.new.self c.lend_assembly-assembly.new.self
    c.lend_reference-reference.result c.lend_assembly-assembly.result
    (record {
      long = c.lend_reference-reference.ensures.length;
      picture = c.lend_reference-reference.ensures.picture;
      rooms = c.lend_reference-reference.ensures.rooms;
      between = c.lend_reference-reference.ensures.left;
      kept = c.lend_assembly-assembly.ensures.kept;
      limit = c.lend_assembly-assembly.ensures.limit;
      after = c.lend_assembly-assembly.ensures.left;
    })
    c.lend-dest.new.self
    (c.lend-dest.ensures.after ∙ ap (λ (x : PairState). with_queue_at x Cap (without_job_bytes (lend_after (queue_at x Cap)))) c.lend-source.ensures.after)

pub invariant_of-self : goal.invariant_of-self
invariant_of-self c = (claimed c).keeps

pub returns : goal.returns
returns c =
    record {
      claimed = record {
        after =
            (claimed c).after;
        step =
            (claimed c).step;
        work =
            run_work (pair_of c.self.inside.m2m.formats) c.self.inside.geometry c.self.inside.m2m.pair c.self.inside.m2m.events c.self.inside.codec
            c.self.inside.job c.args.self.now (λ e. c.requires.known (sym (ap (λ (x : Context). x.geometry) c.self.view_is) ∙ e)) c.self.view_is
            c.self.invariant c.requires.able.kept c.requires.able.due c.lend-source.result c.lend-dest.result c.len-length.result c.lend-source.ensures.lent
            (subst (λ (q : PairState). IsLentFrom (queue_at q Cap).ready c.lend-dest.result) c.lend-source.ensures.after c.lend-dest.ensures.lent)
            (payload_length c.lend-dest.result c.len-length.result c.len-length.ensures) c.lend_reference-reference.new.self c.lend_assembly-assembly.new.self
            c.lend_reference-reference.result c.lend_assembly-assembly.result
            (record {
              long = c.lend_reference-reference.ensures.length;
              picture = c.lend_reference-reference.ensures.picture;
              rooms = c.lend_reference-reference.ensures.rooms;
              between = c.lend_reference-reference.ensures.left;
              kept = c.lend_assembly-assembly.ensures.kept;
              limit = c.lend_assembly-assembly.ensures.limit;
              after = c.lend_assembly-assembly.ensures.left;
            })
            c.decode_work.result c.decode_work.ensures.work;
        fits = search rules;
        taken =
            (claimed c).free;
        runs =
            (claimed c).runs;
        holds =
            λ hold f.
            (claimed c).holds hold f;
      };
    }
