use Rattle.std.proofs.Common.{[], ◌∷◌, ◌∙◌, ap, subst, ℕ, Option}
use Rattle.vc_work.specs.References.{CodecReference, HasRoomFor}
use Rattle.vc_work.specs.Streams.{picture_of}
use Rattle.vc_dec.proofs.ReferencesChangePlaces.{place_at, some_place, placed_size, placed_room, exchanged_rooms, removed_rooms}
use Rattle.vc_dec.proofs.codec.lending.bring_forward.Goals as goal

pub unreachable-requires : goal.unreachable-requires
unreachable-requires c =
    some_place c.args.length c.args.others.now.items c.requires.there (place_at c.args.length c.deref.result.now c.args.others.now.items c.place_of.result _ c.place_of.ensures c.deref.ensures.value c.in_default.is)

pub change_places-requires : goal.change_places-requires
change_places-requires c =
    placed_room c.args.length c.in-Some.place c.args.others.now.items c.index_mut.result.now c.in-Some-present.present.state.reference
    (place_at c.args.length c.deref.result.now c.args.others.now.items c.place_of.result _ c.place_of.ensures c.deref.ensures.value c.in-Some.is)
    c.index_mut.ensures.value (subst (λ (o : Option CodecReference). HasRoomFor (picture_of o) c.args.length) c.in-Some-present.is c.requires.room)

pub returns-in-Some-present-clause-length : goal.returns-in-Some-present-clause-length
returns-in-Some-present-clause-length c =
    ap (λ (n : ℕ). n ∷ [])
    (ap (λ (r : CodecReference). r.size) c.change_places.ensures.present
    ∙ placed_size c.args.length c.in-Some.place c.args.others.now.items c.index_mut.result.now
    (place_at c.args.length c.deref.result.now c.args.others.now.items c.place_of.result _ c.place_of.ensures c.deref.ensures.value c.in-Some.is)
    c.index_mut.ensures.value)

pub returns-in-Some-present-clause-rooms : goal.returns-in-Some-present-clause-rooms
returns-in-Some-present-clause-rooms c =
    rw c.in-Some-present.is
    (exchanged_rooms c.args.others.now.items c.in-Some.place c.args.length c.change_places.new.present.size c.in-Some-present.present
    c.change_places.new.other c.index_mut.result.now
    (place_at c.args.length c.deref.result.now c.args.others.now.items c.place_of.result _ c.place_of.ensures c.deref.ensures.value c.in-Some.is)
    c.index_mut.ensures.value c.change_places.ensures.other (ap (λ (r : CodecReference). r.size) c.change_places.ensures.present))

pub returns-in-None-clause-length : goal.returns-in-None-clause-length
returns-in-None-clause-length c =
    ap (λ (n : ℕ). n ∷ [])
    (ap (λ (r : CodecReference). r.size) c.reset.ensures
    ∙ placed_size c.args.length c.in-Some.place c.args.others.now.items c.swap_remove-other.result
    (place_at c.args.length c.deref.result.now c.args.others.now.items c.place_of.result _ c.place_of.ensures c.deref.ensures.value c.in-Some.is)
    c.swap_remove-other.ensures.value)

pub returns-in-None-clause-rooms : goal.returns-in-None-clause-rooms
returns-in-None-clause-rooms c =
    rw c.in-None.is
    (removed_rooms c.args.others.now.items c.swap_remove-other.new.self.items c.in-Some.place c.args.length c.reset.new.self.size
    c.swap_remove-other.result
    (place_at c.args.length c.deref.result.now c.args.others.now.items c.place_of.result _ c.place_of.ensures c.deref.ensures.value c.in-Some.is)
    c.swap_remove-other.ensures.value c.swap_remove-other.ensures.items (ap (λ (r : CodecReference). r.size) c.reset.ensures))
