use Rattle.std.proofs.Common.{sym, subst}
use Rattle.vc_geom.specs.Pairs.{pair_of}
use Rattle.vc_model.specs.Context.{Context}
use Rattle.vc_context.specs.Payloads.{FitsContext}
use Rattle.vc_dec.proofs.EndsAsCoded.{finds_place, dest_is_back, change_is_legal, finish_after, finish_step, finish_keeps}
use Rattle.vc_dec.proofs.Decoder.finish.Goals as goal

pub take_back-requires : goal.take_back-requires
take_back-requires c =
    finds_place c.self.inside c.args.self.now c.self.view_is c.self.invariant c.requires.able.kept c.in-Some.job (sym c.in-Some.ensures.value) c.args.work c.args.outcome c.requires.able.back

pub end_dest-requires-clause-dest : goal.end_dest-requires-clause-dest
end_dest-requires-clause-dest c =
    dest_is_back c.self.inside c.args.self.now c.self.view_is c.self.invariant c.requires.able.kept c.in-Some.job (sym c.in-Some.ensures.value) c.args.work
    c.args.outcome c.requires.able.back c.source_back-source.result c.lent_back-dest.result c.source_back-source.ensures.cursor
    c.source_back-source.ensures.payload c.lent_back-dest.ensures c.end_of-end.result c.put_source.new.pair c.end_of-end.ensures
    c.put_source.ensures.queues

pub formats_behind-self-inside-requires : goal.formats_behind-self-inside-requires
formats_behind-self-inside-requires c =
    change_is_legal c.self.inside c.args.self.now c.self.view_is c.self.invariant c.requires.able.kept c.in-Some.job (sym c.in-Some.ensures.value)
    c.args.work c.args.outcome c.requires.able.back c.source_back-source.result c.lent_back-dest.result c.source_back-source.ensures.cursor
    c.source_back-source.ensures.payload c.lent_back-dest.ensures c.end_of-end.result c.put_source.new.pair c.end_of-end.ensures
    c.put_source.ensures.queues

pub invariant_of-self : goal.invariant_of-self
invariant_of-self c =
    finish_keeps c.self.inside c.args.self.now c.self.view_is c.self.invariant c.requires.able.kept c.in-Some.job (sym c.in-Some.ensures.value) c.args.work
    c.args.outcome c.requires.able.back c.source_back-source.result c.lent_back-dest.result c.source_back-source.ensures.cursor
    c.source_back-source.ensures.payload c.lent_back-dest.ensures c.end_of-end.result c.put_source.new.pair c.end_of-end.ensures
    c.put_source.ensures.queues c.end_dest.new.pair c.end_dest.new.events c.take_back.new.self c.begin_anew_where.new.codec
    (pair_of c.formats_behind-self-inside.result) c.or-self-inside.result c.take.new.self c.end_dest.ensures.queues c.end_dest.ensures.told
    c.take_back.ensures c.begin_anew_where.ensures c.formats_behind-self-inside.ensures.formats c.or-self-inside.ensures c.take.ensures.after
    (c.formats_behind-self-inside.ensures.stand c.self.invariant.stands)

pub returns : goal.returns
returns c =
    record {
      finished = record {
        after =
            λ back r b.
            finish_after c.self.inside c.args.self.now c.self.view_is c.self.invariant c.requires.able.kept c.in-Some.job (sym c.in-Some.ensures.value) c.args.work
            c.args.outcome c.requires.able.back c.source_back-source.result c.lent_back-dest.result c.source_back-source.ensures.cursor
            c.source_back-source.ensures.payload c.lent_back-dest.ensures c.end_of-end.result c.put_source.new.pair c.end_of-end.ensures
            c.put_source.ensures.queues c.end_dest.new.pair c.end_dest.new.events c.take_back.new.self c.begin_anew_where.new.codec
            (pair_of c.formats_behind-self-inside.result) c.or-self-inside.result c.take.new.self c.end_dest.ensures.queues c.end_dest.ensures.told
            c.take_back.ensures c.begin_anew_where.ensures c.formats_behind-self-inside.ensures.formats c.or-self-inside.ensures c.take.ensures.after back r b;
        holds =
            λ hold f.
            let g : FitsContext _ hold = subst (λ (x : Context). FitsContext x hold) (sym c.self.view_is) f in
            let e = c.end_dest.ensures.fit hold (c.put_source.ensures.fit hold (g.out, g.cap)) in
            record { out = e.0; cap = e.1 };
        step =
            finish_step c.self.inside c.args.self.now c.self.view_is c.self.invariant c.requires.able.kept c.in-Some.job (sym c.in-Some.ensures.value) c.args.work
            c.args.outcome c.requires.able.back c.source_back-source.result c.lent_back-dest.result c.source_back-source.ensures.cursor
            c.source_back-source.ensures.payload c.lent_back-dest.ensures c.end_of-end.result c.put_source.new.pair c.end_of-end.ensures
            c.put_source.ensures.queues c.end_dest.new.pair c.end_dest.new.events c.take_back.new.self c.begin_anew_where.new.codec
            (pair_of c.formats_behind-self-inside.result) c.or-self-inside.result c.take.new.self c.end_dest.ensures.queues c.end_dest.ensures.told
            c.take_back.ensures c.begin_anew_where.ensures c.formats_behind-self-inside.ensures.formats c.or-self-inside.ensures c.take.ensures.after;
      };
    }
