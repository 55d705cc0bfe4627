use Rattle.std.proofs.Common.{ap, sym}
use Rattle.std.specs.Option.{option_map}
use Rattle.vc_geom.specs.Pairs.{pair_of}
use Rattle.vc_enc.proofs.EndsOfEncodeRuns.{ends_after, ends_step, ends_holds, ends_kept, source_there, source_back, dest_in, dest_back, source_out, counts_out, counts_cap}
use Rattle.vc_enc.proofs.Encoder.finish.Goals as goal

pub returns : goal.returns
returns c =
    record {
      finished = record {
        after =
            λ back r b.
            ends_after (pair_of c.self.inside.m2m.formats) c.self.inside.controls c.self.inside.m2m.pair c.self.inside.m2m.events c.self.inside.reference
            c.self.inside.job c.args.self.now c.self.view_is c.self.invariant c.requires.able.kept c.in-Some.job (sym c.in-Some.ensures.value) c.args.work
            c.args.outcome c.source_back-source.result c.dest_back-dest.result c.in-Some-dest.payload.items (ap (option_map (λ v. v.items)) c.in-Some-dest.is)
            c.source_back-source.ensures.index c.source_back-source.ensures.payload c.dest_back-dest.ensures.index c.dest_back-dest.ensures.payload
            c.end_of-end.result c.retire_out.new.self c.retire_cap-ended.new.self c.begin_anew_where.new.reference c.raise_end.new.events
            c.retire_cap-ended.result c.take.new.self c.end_of-end.ensures c.retire_out.ensures c.retire_cap-ended.ensures.after
            c.retire_cap-ended.ensures.raises c.begin_anew_where.ensures c.raise_end.ensures c.in-Some.ensures.after back r b;
        holds =
            λ hold f.
            ends_holds (pair_of c.self.inside.m2m.formats) c.self.inside.controls c.self.inside.m2m.pair c.self.inside.m2m.events c.self.inside.reference
            c.self.inside.job c.args.self.now c.self.view_is c.self.invariant c.requires.able.kept c.in-Some.job (sym c.in-Some.ensures.value) c.args.work
            c.args.outcome c.source_back-source.result c.dest_back-dest.result c.in-Some-dest.payload.items (ap (option_map (λ v. v.items)) c.in-Some-dest.is)
            c.source_back-source.ensures.index c.source_back-source.ensures.payload c.dest_back-dest.ensures.index c.dest_back-dest.ensures.payload
            c.end_of-end.result c.retire_out.new.self c.retire_cap-ended.new.self c.begin_anew_where.new.reference c.raise_end.new.events
            c.retire_cap-ended.result c.take.new.self c.end_of-end.ensures c.retire_out.ensures c.retire_cap-ended.ensures.after
            c.retire_cap-ended.ensures.raises c.begin_anew_where.ensures c.raise_end.ensures c.in-Some.ensures.after hold c.requires.able.back f;
        step =
            ends_step (pair_of c.self.inside.m2m.formats) c.self.inside.controls c.self.inside.m2m.pair c.self.inside.m2m.events c.self.inside.reference
            c.self.inside.job c.args.self.now c.self.view_is c.self.invariant c.requires.able.kept c.in-Some.job (sym c.in-Some.ensures.value) c.args.work
            c.args.outcome c.source_back-source.result c.dest_back-dest.result c.in-Some-dest.payload.items (ap (option_map (λ v. v.items)) c.in-Some-dest.is)
            c.source_back-source.ensures.index c.source_back-source.ensures.payload c.dest_back-dest.ensures.index c.dest_back-dest.ensures.payload
            c.end_of-end.result c.retire_out.new.self c.retire_cap-ended.new.self c.begin_anew_where.new.reference c.raise_end.new.events
            c.retire_cap-ended.result c.take.new.self c.end_of-end.ensures c.retire_out.ensures c.retire_cap-ended.ensures.after
            c.retire_cap-ended.ensures.raises c.begin_anew_where.ensures c.raise_end.ensures c.in-Some.ensures.after c.requires.able.back;
      };
    }

pub invariant_of-self : goal.invariant_of-self
invariant_of-self c =
    ends_kept (pair_of c.self.inside.m2m.formats) c.self.inside.controls c.self.inside.m2m.pair c.self.inside.m2m.events c.self.inside.reference
    c.self.inside.job c.args.self.now c.self.view_is c.self.invariant c.requires.able.kept c.in-Some.job (sym c.in-Some.ensures.value) c.args.work
    c.args.outcome c.source_back-source.result c.dest_back-dest.result c.in-Some-dest.payload.items (ap (option_map (λ v. v.items)) c.in-Some-dest.is)
    c.source_back-source.ensures.index c.source_back-source.ensures.payload c.dest_back-dest.ensures.index c.dest_back-dest.ensures.payload
    c.end_of-end.result c.retire_out.new.self c.retire_cap-ended.new.self c.begin_anew_where.new.reference c.raise_end.new.events
    c.retire_cap-ended.result c.take.new.self c.end_of-end.ensures c.retire_out.ensures c.retire_cap-ended.ensures.after
    c.retire_cap-ended.ensures.raises c.begin_anew_where.ensures c.raise_end.ensures c.in-Some.ensures.after c.requires.able.back

pub retire_out-requires-clause-one : goal.retire_out-requires-clause-one
retire_out-requires-clause-one c =
    source_there (pair_of c.self.inside.m2m.formats) c.self.inside.controls c.self.inside.m2m.pair c.self.inside.m2m.events c.self.inside.reference
    c.self.inside.job c.args.self.now c.self.view_is c.self.invariant c.requires.able.kept c.in-Some.job (sym c.in-Some.ensures.value) c.args.work
    c.args.outcome c.requires.able.back

pub retire_out-requires-clause-whole : goal.retire_out-requires-clause-whole
retire_out-requires-clause-whole c =
    source_back (pair_of c.self.inside.m2m.formats) c.self.inside.controls c.self.inside.m2m.pair c.self.inside.m2m.events c.self.inside.reference
    c.self.inside.job c.args.self.now c.self.view_is c.self.invariant c.requires.able.kept c.in-Some.job (sym c.in-Some.ensures.value) c.args.work
    c.args.outcome c.source_back-source.result c.source_back-source.ensures.index c.source_back-source.ensures.payload c.requires.able.back

pub retire_out-requires-clause-counts : goal.retire_out-requires-clause-counts
retire_out-requires-clause-counts c =
    counts_out (pair_of c.self.inside.m2m.formats) c.self.inside.controls c.self.inside.m2m.pair c.self.inside.m2m.events c.self.inside.reference
    c.self.inside.job c.args.self.now c.self.view_is c.self.invariant c.requires.able.kept c.requires.able.room.out_done

pub retire_cap-ended-requires-clause-one : goal.retire_cap-ended-requires-clause-one
retire_cap-ended-requires-clause-one c =
    rw c.retire_out.ensures
    (dest_in (pair_of c.self.inside.m2m.formats) c.self.inside.controls c.self.inside.m2m.pair c.self.inside.m2m.events c.self.inside.reference
    c.self.inside.job c.args.self.now c.self.view_is c.self.invariant c.requires.able.kept c.in-Some.job (sym c.in-Some.ensures.value) c.args.work
    c.args.outcome c.source_back-source.result c.dest_back-dest.result c.in-Some-dest.payload.items (ap (option_map (λ v. v.items)) c.in-Some-dest.is)
    c.source_back-source.ensures.index c.source_back-source.ensures.payload c.dest_back-dest.ensures.index c.dest_back-dest.ensures.payload
    c.requires.able.back)

pub retire_cap-ended-requires-clause-whole : goal.retire_cap-ended-requires-clause-whole
retire_cap-ended-requires-clause-whole c =
    rw c.retire_out.ensures
    (dest_back (pair_of c.self.inside.m2m.formats) c.self.inside.controls c.self.inside.m2m.pair c.self.inside.m2m.events c.self.inside.reference
    c.self.inside.job c.args.self.now c.self.view_is c.self.invariant c.requires.able.kept c.in-Some.job (sym c.in-Some.ensures.value) c.args.work
    c.args.outcome c.source_back-source.result c.dest_back-dest.result c.in-Some-dest.payload.items (ap (option_map (λ v. v.items)) c.in-Some-dest.is)
    c.source_back-source.ensures.index c.source_back-source.ensures.payload c.dest_back-dest.ensures.index c.dest_back-dest.ensures.payload
    c.requires.able.back)

pub retire_cap-ended-requires-clause-source : goal.retire_cap-ended-requires-clause-source
retire_cap-ended-requires-clause-source c =
    rw c.retire_out.ensures
    (source_out (pair_of c.self.inside.m2m.formats) c.self.inside.controls c.self.inside.m2m.pair c.self.inside.m2m.events c.self.inside.reference
    c.self.inside.job c.args.self.now c.self.view_is c.self.invariant c.requires.able.kept c.in-Some.job (sym c.in-Some.ensures.value) c.args.work
    c.args.outcome c.source_back-source.result c.dest_back-dest.result c.in-Some-dest.payload.items (ap (option_map (λ v. v.items)) c.in-Some-dest.is)
    c.source_back-source.ensures.index c.source_back-source.ensures.payload c.dest_back-dest.ensures.index c.dest_back-dest.ensures.payload _)

pub retire_cap-ended-requires-clause-counts : goal.retire_cap-ended-requires-clause-counts
retire_cap-ended-requires-clause-counts c =
    rw c.retire_out.ensures
    (counts_cap (pair_of c.self.inside.m2m.formats) c.self.inside.controls c.self.inside.m2m.pair c.self.inside.m2m.events c.self.inside.reference
    c.self.inside.job c.args.self.now c.self.view_is c.self.invariant c.requires.able.kept c.requires.able.room.cap_done)
