use Rattle.std.proofs.Common.{◌≡◌, ◌∙◌, ap, length}
use Rattle.std.specs.Vec.{with_items}
use Rattle.std.proofs.lemmas.List.{with_items_is}
use Rattle.vc_work.specs.References.{reference_of}
use Rattle.vc_work.proofs.AreasHoldPictures.{taken_over}
use Rattle.vc_work.proofs.reference.Reference.take_over.Goals as goal

pub returns : goal.returns
returns c =
    let long : length c.copy_front.new.dest ≡ c.self.inside.area.len = c.copy_front.auto.dest ∙ c.deref_mut.ensures.len in
    let kept : (with_items c.self.inside.area c.copy_front.new.dest).items ≡ c.copy_front.new.dest = with_items_is c.self.inside.area c.copy_front.new.dest long in
    ap (λ area. reference_of area c.other.inside.geometry c.other.inside.number c.other.inside.since_key c.other.inside.since_reset) kept
    ∙ taken_over c.args.self.now c.args.other.now c.deref_mut.result.now c.deref.result.now c.copy_front.new.dest c.self.inside.geometry c.other.inside.geometry c.self.inside.number c.other.inside.number c.self.inside.since_key c.self.inside.since_reset c.other.inside.since_key
    c.other.inside.since_reset
    (rw c.deref_mut.ensures.value c.self.view_is) (rw c.deref.ensures.value c.other.view_is) c.requires (rw c.deref.ensures.value c.other.invariant.picture) c.copy_front.ensures
