use Rattle.std.proofs.Common.{ap, refl}
use Rattle.std.specs.Option.{option_map}
use Rattle.vc_copy.proofs.JobsLeaveTheHold.{finish_holds}
use Rattle.vc_copy.proofs.EndsOfCopies.{finish_gives, finish_step, rests, dest_comes, dest_back}
use Rattle.vc_copy.proofs.Copier.finish.Goals as goal

pub returns : goal.returns
returns c =
    record {
      finished = record {
        after =
            λ back r b.
            rw (c.retire.ensures, c.retire-2.ensures, c.brought-used.ensures, c.source_back-source.ensures.payload, c.dest_back-dest.ensures.payload)
            (finish_gives c.self.inside.size c.self.inside.out c.self.inside.cap c.args.work c.in-Some.payload.items
            (ap (option_map (λ v. v.items)) c.in-Some.is) c.self.inside.running c.args.self.now back c.args.outcome c.self.view_is c.requires.able.kept r b);
        holds =
            λ hold f.
            finish_holds c.self.inside.size c.self.inside.out c.self.inside.cap c.self.inside.running c.args.self.now c.self.view_is c.retire.new.self c.retire-2.new.self hold _ _ _ _ _ _ _ _ c.retire.ensures c.retire-2.ensures f;
        step =
            rw (c.retire.ensures, c.retire-2.ensures, c.brought-used.ensures, c.source_back-source.ensures.payload, c.dest_back-dest.ensures.payload)
            (finish_step c.self.inside.size c.self.inside.out c.self.inside.cap c.self.inside.running c.args.self.now c.self.view_is c.requires.able.kept
            c.args.work c.args.outcome c.requires.able.back c.in-Some.payload.items _ _ (ap (option_map (λ v. v.items)) c.in-Some.is) refl refl);
      };
    }

pub unreachable-requires : goal.unreachable-requires
unreachable-requires c =
    dest_comes c.self.inside.size c.self.inside.out c.self.inside.cap c.self.inside.running c.args.self.now c.self.view_is c.requires.able.kept c.args.work c.args.outcome c.requires.able.back (ap (option_map (λ v. v.items)) c.in_default.is)

pub retire-requires-2-clause-whole : goal.retire-requires-2-clause-whole
retire-requires-2-clause-whole c =
    dest_back c.self.inside.size c.self.inside.out c.self.inside.cap c.self.inside.running c.args.self.now c.self.view_is c.requires.able.kept c.args.work
    c.args.outcome c.requires.able.back c.dest_back-dest.result c.in-Some.payload.items c.self.inside.dest (ap (option_map (λ v. v.items)) c.in-Some.is)
    c.self.invariant.1 c.dest_back-dest.ensures.index c.dest_back-dest.ensures.payload

pub invariant_of-self : goal.invariant_of-self
invariant_of-self c =
    (rests c.self.inside.source c.self.inside.out c.retire.new.self _ _ _ _ c.retire.ensures, rests c.self.inside.dest c.self.inside.cap c.retire-2.new.self _ _ _ _ c.retire-2.ensures)
