use Rattle.std.proofs.Common.{Option, ◌≡◌, sym, ℕ, subst, length, take, drop}
use Rattle.std.proofs.lemmas.List.{length-take-le}
use Rattle.vc_defs.specs.Finds.{fed}
use Rattle.vc_resync.specs.Assembling.{AssemblyState, ToldFrame, IsToldBy}
use Rattle.vc_resync.specs.Collecting.{kept_in}
use Rattle.vc_resync.specs.Continuing.{IsKept, SameAnswer, IsAnswered}
use Rattle.vc_resync.specs.Telling.{told_in}
use Rattle.vc_resync.specs.Keeping.{kept_of_fields, assembly_of}
use Rattle.vc_resync.proofs.FieldsStaySound.{stepped, goes_on, answered, remembered}
use Rattle.vc_resync.proofs.assembly.Assembly.advance.Goals as goal

pub invariant_of-self : goal.invariant_of-self
invariant_of-self c =
    let old = c.self.inside in
    let count = c.advance-count.result.0 in
    let bytes = take count c.args.bytes.now in
    let new = c.advance-count.new.self in
    let long : count ≡ length bytes = sym (length-take-le count c.args.bytes.now c.advance-count.ensures.inside) in
    let s = stepped old.collected.limit (kept_of_fields old) bytes c.args.stamp c.advance-count.result.1 new.body.items (kept_in new) c.go_on.new.self.first c.go_on.new.self.last.items count c.len.result
    c.self.invariant.kept c.advance-count.ensures.taken c.advance-count.ensures.grows long c.len.ensures c.go_on.ensures.last c.go_on.ensures.first in
    record {
      sound = c.advance-count.ensures.sound;
      places = c.go_on.ensures.places;
      kept = subst (λ (l : ℕ). IsKept l (kept_of_fields (record { collected = new; stamps = c.go_on.new.self; told = c.told_by-self-inside.result }))) (sym c.advance-count.ensures.limit) s.reached;
      fits = c.told_by-self-inside.ensures.fits new.body.items s.fits;
    }

pub returns-clause-goes_on : goal.returns-clause-goes_on
returns-clause-goes_on c e =
    let old = c.self.inside in
    let count = c.advance-count.result.0 in
    let bytes = take count c.args.bytes.now in
    let new = c.advance-count.new.self in
    let long : count ≡ length bytes = sym (length-take-le count c.args.bytes.now c.advance-count.ensures.inside) in
    let s = stepped old.collected.limit (kept_of_fields old) bytes c.args.stamp c.advance-count.result.1 new.body.items (kept_in new) c.go_on.new.self.first c.go_on.new.self.last.items count c.len.result
    c.self.invariant.kept c.advance-count.ensures.taken c.advance-count.ensures.grows long c.len.ensures c.go_on.ensures.last c.go_on.ensures.first in
    let now = kept_of_fields (record { collected = new; stamps = c.go_on.new.self; told = c.told_by-self-inside.result }) in
    subst (λ (a : AssemblyState). SameAnswer count (fed a.kept a.limit c.args.bytes.now c.args.stamp) (fed now a.limit (drop count c.args.bytes.now) c.args.stamp)) c.self.view_is
    (goes_on old.collected.limit (kept_of_fields old) c.args.bytes.now c.args.stamp c.advance-count.result.1 new.body.items now count c.self.invariant.kept s long e)

pub returns-clause-answered : goal.returns-clause-answered
returns-clause-answered c e =
    let old = c.self.inside in
    let count = c.advance-count.result.0 in
    let bytes = take count c.args.bytes.now in
    let new = c.advance-count.new.self in
    let long : count ≡ length bytes = sym (length-take-le count c.args.bytes.now c.advance-count.ensures.inside) in
    let s = stepped old.collected.limit (kept_of_fields old) bytes c.args.stamp c.advance-count.result.1 new.body.items (kept_in new) c.go_on.new.self.first c.go_on.new.self.last.items count c.len.result
    c.self.invariant.kept c.advance-count.ensures.taken c.advance-count.ensures.grows long c.len.ensures c.go_on.ensures.last c.go_on.ensures.first in
    let now = kept_of_fields (record { collected = new; stamps = c.go_on.new.self; told = c.told_by-self-inside.result }) in
    let told = told_in c.told_by-self-inside.result new.body.items in
    let a = answered (assembly_of old) c.args.bytes.now c.args.stamp c.advance-count.result.1 new.body.items now told count c.self.invariant.kept s long (c.told_by-self-inside.ensures.frame new.body.items) e in
    let b = subst (λ (l : ℕ). IsAnswered (fed (kept_of_fields old) old.collected.limit c.args.bytes.now c.args.stamp) count c.advance-count.result.1 (assembly_of old) (record { limit = l; kept = now; told = told })) (sym c.advance-count.ensures.limit) a in
    subst (λ (a : AssemblyState). IsAnswered (fed a.kept a.limit c.args.bytes.now c.args.stamp) count c.advance-count.result.1 a (assembly_of (record { collected = new; stamps = c.go_on.new.self; told = c.told_by-self-inside.result }))) c.self.view_is b

pub returns-clause-told : goal.returns-clause-told
returns-clause-told c =
    let old = c.self.inside in
    let count = c.advance-count.result.0 in
    let bytes = take count c.args.bytes.now in
    let new = c.advance-count.new.self in
    let long : count ≡ length bytes = sym (length-take-le count c.args.bytes.now c.advance-count.ensures.inside) in
    let s = stepped old.collected.limit (kept_of_fields old) bytes c.args.stamp c.advance-count.result.1 new.body.items (kept_in new) c.go_on.new.self.first c.go_on.new.self.last.items count c.len.result
    c.self.invariant.kept c.advance-count.ensures.taken c.advance-count.ensures.grows long c.len.ensures c.go_on.ensures.last c.go_on.ensures.first in
    subst (λ (t : Option ToldFrame). IsToldBy c.advance-count.result.1 t) (sym (c.told_by-self-inside.ensures.frame new.body.items)) (remembered c.advance-count.result.1 new.body.items old.stamps.first s.fits)
