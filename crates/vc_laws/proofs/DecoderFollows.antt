-- What a decoder's runs gave is what the sequential decoder gives for the bytes that they consumed. This rests on the
-- law of resuming: each run goes on from the state that stands after the bytes so far. At the end of a drain no
-- source waits, so that nothing is left to be given.
use Rattle.std.proofs.Common.{ℕ, ◌≡◌, Bool, true, false, not, ◌||◌, Option, Some, None, List, [], ◌∷◌, ◌++◌, length, take, drop, map, refl, sym, ap, ◌∙◌, subst}
use Rattle.std.specs.List.{filter}
use Rattle.std.proofs.lemmas.Bool.{false≢true}
use Rattle.std.proofs.lemmas.List.{append-nil, map-append, take-append-drop}
use Rattle.std.proofs.lemmas.List.Elements.{filter-append}
use Rattle.vc_base.specs.declared.Kind.TheVariants.{Dec}
use Rattle.vc_base.specs.Buffers.{Buffer}
use Rattle.vc_defs.specs.declared.Geometry.{Geometry}
use Rattle.vc_defs.specs.Decoder.{FrameResult, ResultKind, Picture, Damaged, Changed, GivenResult, results}
use Rattle.vc_defs.proofs.RunsResume.{resuming}
use Rattle.vc_defs.specs.Laws.{from_start, AreOrdered, IsNext, IsNoChange}
use Rattle.vc_defs.proofs.ResultsInOrder.{results_are_ordered}
use Rattle.vc_model.specs.Coder.{CodecState, the_coder}
use Rattle.vc_model.specs.Context.{Context, Running, PhaseState, run, owe, last, stopped, is_run, is_drained, has_before}
use Rattle.vc_model.specs.Runs.{front_is_due}
use Rattle.vc_model.specs.Solo.{solo_step, solo_slot}
use Rattle.vc_model.specs.Sound.{IsOrdered, IsOrderedSlot, is_at_end}
use Rattle.vc_model.specs.Drains.{is_last_by_drain}
use Rattle.vc_model.proofs.PartsOfTests.{and_left}
use Rattle.vc_model.proofs.CallsKeepFirm.{idle}
use Rattle.vc_model.proofs.EventsKeepSound.{always_ordered, step_sound}
use Rattle.vc_defs.specs.Outputs.{is_change_result}
use Rattle.vc_laws.specs.Segments.{Segment, segment_of, whats}
use Rattle.vc_laws.specs.Following.{is_picture, is_no_change, FollowsDecoder, Follows, SegmentsBegin, RetiredAreResults}
use Rattle.vc_laws.specs.Drains.{DrainsGiveAll, IsAnswered, ChangesAreAnswered, FrameAfterChange, SameDrainsSameResults}
use Rattle.vc_laws.proofs.EffectsOfEvents.{step_of}
use Rattle.vc_laws.proofs.OpenContextsAreTidy.{KindSlot, step_kind}
use Rattle.vc_laws.proofs.SegmentsGoOn.{slot_more}
use Rattle.vc_laws.proofs.WhereDecodersStand.{IsStanding}
use Rattle.vc_laws.proofs.DecoderSegments.{decoding}

-- Segments

pub retired_are_results : RetiredAreResults
retired_are_results events c at k = (decoding events c at k).pairs

pub segments_begin : SegmentsBegin
segments_begin events c at k e =
    let u = (decoding events c at k).fresh e in
    record { bytes = u.bytes; stamps = u.stamps; results = u.results; given = u.given }

abbrev result_of : GivenResult → FrameResult
result_of f = f.result

follows_from : (seg : Segment) (r : Running) (codec : CodecState) (geometry : Option Geometry) → IsStanding r.limit r.geometry seg.bytes seg.stamps seg.results seg.given codec geometry → FollowsDecoder seg r
unfolding results
follows_from seg r codec geometry h =
    let all = from_start seg.bytes r.limit r.geometry in
    let n = length seg.results in
    let rest = map result_of (drop n all) in
    let whole : map result_of all ≡ whats seg ++ rest = ap (λ l. map result_of l) (sym (take-append-drop n all)) ∙ (map-append result_of (take n all) (drop n all) ∙ ap (λ l. l ++ rest) (sym h.what)) in
    record {
      front = (rest, sym whole);
      all = λ e. sym (append-nil (whats seg)) ∙ (ap (λ l. whats seg ++ map result_of l) (sym (h.all e)) ∙ sym whole);
      pictures = sym (ap (λ l. filter is_picture l) whole ∙ (filter-append is_picture (whats seg) rest ∙ (ap (λ l. filter is_picture (whats seg) ++ l) h.rest ∙ append-nil (filter is_picture (whats seg)))));
      stamps = λ k d l. (h.stamped k d l).1;
    }

pub follows : Follows
follows events c r at k e =
    follows_from (segment_of the_coder events) r c.codec c.geometry ((decoding events c at k).stands resuming r e)

-- Drains

drain_stops : (p : PhaseState) → is_last_by_drain p ≡ true → is_run p ≡ false
drain_stops run e = absurd (false≢true e)
drain_stops (owe cause) e = refl
drain_stops (last cause) e = refl
drain_stops (stopped cause) e = refl

end_drained : (p : PhaseState) → is_last_by_drain p ≡ true → is_at_end p ≡ true
end_drained run e = absurd (false≢true e)
end_drained (owe cause) e = absurd (false≢true e)
end_drained (last cause) e = e
end_drained (stopped cause) e = absurd (false≢true e)

-- no source before the mark waits at the end of a drain
none_due : {A : Type 0} → (ws : List Buffer) (mark : Option ℕ) → front_is_due ws mark ≡ true → is_drained ws mark ≡ true → A
none_due [] mark f d = absurd (false≢true f)
none_due (b ∷ bs) None f d = absurd (false≢true d)
none_due (b ∷ bs) (Some m) f d = absurd (false≢true (ap (λ x. not (x || has_before bs m)) (sym f) ∙ d))

is_given : (given : Bool) → (given ≡ false → ⊥) → given ≡ true
is_given true h = refl
is_given false h = absurd (h refl)

kind_after : (c y : Context) → KindSlot c (Some y) → c.kind ≡ Dec → y.kind ≡ Dec
unfolding KindSlot
kind_after c y p q = p ∙ q

pub drains_give_all : DrainsGiveAll
drains_give_all events e before after r at next k g f =
    let s : IsOrdered before = subst IsOrderedSlot at (always_ordered the_coder events) in
    let sound : IsOrdered after = subst IsOrderedSlot next (step_sound the_coder (Some before) e s) in
    let there : solo_slot the_coder None (events ++ e ∷ []) ≡ Some after = slot_more the_coder None events e ∙ (ap (λ z. (solo_step the_coder z e).slot) at ∙ next) in
    let kind = kind_after before after (subst (KindSlot before) next (step_kind the_coder before (step_of the_coder before e s))) k in
    let seg = segment_of the_coder (events ++ e ∷ []) in
    let h = decoding (events ++ e ∷ []) after there kind in
    let l = and_left (is_last_by_drain after.phase) _ g in
    let none = idle after sound.firm (drain_stops after.phase l) in
    let drained = sound.firm.drained (end_drained after.phase l) in
    let given : seg.given ≡ true = is_given seg.given (λ (z : seg.given ≡ false). none_due after.out.ready after.mark (ap (λ j. front_is_due (j ++ after.out.ready) after.mark) (sym none.1.0) ∙ h.pending z) drained) in
    (follows (events ++ e ∷ []) after r there kind f).all given

pub same_drains : SameDrainsSameResults
same_drains one other e f r q a b l g s =
    let x = drains_give_all one e a.before a.after r a.stands a.steps a.decoder a.gives a.first in
    let y = drains_give_all other f b.before b.after q b.stands b.steps b.decoder b.gives b.first in
    x ∙ (ap (λ z. results z r.limit r.geometry None) s ∙ (ap (λ z. results (segment_of the_coder (other ++ f ∷ [])).bytes z r.geometry None) l ∙ (ap (λ z. results (segment_of the_coder (other ++ f ∷ [])).bytes q.limit z None) g ∙ sym y)))

-- Changes

kind_no_change : (kind : ResultKind) → IsNoChange kind → not (is_change_result kind) ≡ true
kind_no_change (Picture geometry key planes) n = refl
kind_no_change Damaged n = refl
kind_no_change (Changed geometry) n = absurd n

answered_by : (kind : ResultKind) (position known : ℕ) (next : FrameResult) → IsNext kind position known next → not (is_change_result kind) ≡ false → (is_no_change next ≡ true) × (next.position ≡ position)
answered_by (Picture geometry key planes) position known next n e = absurd (false≢true (sym e))
answered_by Damaged position known next n e = absurd (false≢true (sym e))
answered_by (Changed geometry) position known next n e = (kind_no_change next.kind n.1, n.0)

answered_first : (r : FrameResult) (xs ys : List FrameResult) → AreOrdered (r ∷ (xs ++ ys)) → IsAnswered r xs
answered_first r [] ys o = tt
answered_first r (next ∷ xs) ys o = λ e. answered_by r.kind r.position r.known next o.1 e

answered_in : (xs ys : List FrameResult) → AreOrdered (xs ++ ys) → ChangesAreAnswered xs
answered_in [] ys o = tt
answered_in (r ∷ xs) ys o = (answered_first r xs ys o, answered_in xs ys o.2)

pub frame_after_change : FrameAfterChange
frame_after_change events c r at k e =
    let seg = segment_of the_coder events in
    let front = (follows events c r at k e).front in
    answered_in (whats seg) front.0 (subst AreOrdered (sym front.1) (results_are_ordered r.limit r.geometry None seg.bytes))
