-- When what a decoder keeps belongs together. At the start nothing is kept, and a reference is made of a frame alone,
-- whose geometry is that of the last change; so the picture is always of the stream's geometry.
use Rattle.std.proofs.Common.{ℕ, zero, suc, ◌≡◌, ◌∙◌, sym, ap, refl, subst, Bool, true, false, ◌&&◌, List, [], ◌∷◌, ◌++◌, take}
use Rattle.std.specs.Prelude.{not}
use Rattle.std.specs.declared.option.Option.{Option}
use Rattle.std.specs.declared.option.Option.TheVariants.{Some, None}
use Rattle.std.proofs.lemmas.Bool.{false≢true}
use Rattle.vc_defs.specs.declared.Geometry.{Geometry}
use Rattle.vc_defs.specs.declared.Header.{Header}
use Rattle.vc_defs.specs.Places.{Frame, OpenFrame, places}
use Rattle.vc_defs.specs.Decoder.{ReferenceState, BetweenFrames, GivenResult, is_present, is_change, is_passed_over, picture_planes, present_after_header, given_at_header, given_by, given_at_end, given_then, given_in_frames, given_in, present_after}
use Rattle.vc_defs.specs.Laws.{from_start, present_at}
use Rattle.vc_defs.proofs.StateBetweenRuns.{begins_fresh, geometry_same}
use Rattle.vc_resync.proofs.RunsAreFeeds as resync
use Rattle.vc_work.specs.Streams.{BeginsInStep, KeepsGeometry}

pub begins_in_step : BeginsInStep
begins_in_step limit geometry =
    let b = begins_fresh limit geometry in
    record {
      begun = geometry;
      bytes = [];
      stamps = [];
      told = 0;
      given = 0;
      long = refl;
      in_step = resync.begins_in_step limit geometry;
      keeps = sym b.4;
      has = refl;
    }

-- The picture, where there is one, is of the geometry.
abbrev IsOf : Option Geometry → Option ReferenceState → Type 0
IsOf geometry None = Unit {0}
IsOf geometry (Some r) = geometry ≡ Some r.geometry

abbrev IsRight : BetweenFrames → Type 0
IsRight now = IsOf now.geometry now.reference

abbrev AreRight : List GivenResult → Type 0
AreRight [] = Unit {0}
AreRight (first ∷ later) = IsRight first.present × AreRight later

present_is : (present : Option Geometry) (g : Geometry) → is_present present g ≡ true → present ≡ Some g
present_is None g e = absurd (false≢true e)
present_is (Some present) g e = ap (λ x. Some x) (geometry_same present g e)

no_change : (b : Bool) → not b ≡ false → b ≡ true
no_change true e = refl
no_change false e = absurd (false≢true (sym e))

-- behind the header of an I frame the geometry is the header's
after_key : (h : Header) (now : BetweenFrames) → h.key ≡ true → (present_after_header h now).geometry ≡ Some h.geometry
after_key h now key = by_change (is_change h now.geometry) refl
  where
    by_change : (change : Bool) → is_change h now.geometry ≡ change → (present_after_header h now).geometry ≡ Some h.geometry
    by_change true e = rw e refl
    by_change false e =
        let there : not (is_present now.geometry h.geometry) ≡ false = sym (ap (λ k. k && not (is_present now.geometry h.geometry)) key) ∙ e in
        rw e (present_is now.geometry h.geometry (no_change (is_present now.geometry h.geometry) there))

-- a frame that gives planes is of the present geometry
of_present : (f : Frame) (now : BetweenFrames) (body : Option (List ℕ)) (planes : List (List ℕ)) → (f.header.key ≡ true → now.geometry ≡ Some f.header.geometry) → f.body ≡ body → picture_planes f now ≡ Some planes → now.geometry ≡ Some f.header.geometry
of_present f now None planes k b e = cc
of_present f now (Some body) planes k b e = by_key f.header.key refl (is_present now.geometry f.header.geometry) refl
  where
    by_key : (key : Bool) → f.header.key ≡ key → (same : Bool) → is_present now.geometry f.header.geometry ≡ same → now.geometry ≡ Some f.header.geometry
    by_key true i same s = k i
    by_key false i true s = present_is now.geometry f.header.geometry s
    by_key false i false s = cc

end_right : (f : Frame) (now : BetweenFrames) (planes : Option (List (List ℕ))) → (f.header.key ≡ true → now.geometry ≡ Some f.header.geometry) → picture_planes f now ≡ planes → IsRight (given_by f now planes).present
end_right f now None k e = tt
end_right f now (Some planes) k e = of_present f now f.body planes k refl e

header_right : (position : ℕ) (h : Header) (now : BetweenFrames) (rest : List GivenResult) → AreRight rest → AreRight (given_at_header position h now ++ rest)
header_right position h now rest r = by_change (is_change h now.geometry) refl
  where
    by_change : (change : Bool) → is_change h now.geometry ≡ change → AreRight (given_at_header position h now ++ rest)
    by_change true e = rw e (tt, r)
    by_change false e = rw e r

then_right : (over : Bool) (f : Frame) (now : BetweenFrames) (rest : BetweenFrames → List GivenResult) → ((later : BetweenFrames) → AreRight (rest later)) → AreRight (given_then over f now rest)
then_right true f now rest r = r now
then_right false f now rest r =
    let behind : BetweenFrames = present_after_header f.header now in
    let last : GivenResult = given_at_end f behind in
    header_right f.position f.header now (last ∷ rest last.present) (end_right f behind (picture_planes f behind) (after_key f.header now) refl, r last.present)

-- what frames give is right, whatever there was before
frames_right : (frames : List Frame) (unfinished : Option OpenFrame) (now : BetweenFrames) → AreRight (given_in_frames frames unfinished now)
frames_right [] None now = tt
frames_right [] (Some f) now = by_change (is_change f.header now.geometry) refl
  where
    by_change : (change : Bool) → is_change f.header now.geometry ≡ change → AreRight (given_at_header f.position f.header now)
    by_change true e = rw e (tt, tt)
    by_change false e = rw e tt
frames_right (f ∷ frames) unfinished now =
    then_right (is_passed_over f.header now.reference) f now (λ later. given_in_frames frames unfinished later) (λ later. frames_right frames unfinished later)

taken_right : (count : ℕ) (given : List GivenResult) → AreRight given → AreRight (take count given)
taken_right zero given r = tt
taken_right (suc count) [] r = tt
taken_right (suc count) (first ∷ later) r = (r.0, taken_right count later r.1)

after_right : (now : BetweenFrames) (given : List GivenResult) → IsRight now → AreRight given → IsRight (present_after now given)
after_right now [] n r = n
after_right now (first ∷ later) n r = after_right first.present later r.0 r.1

present_right : (bytes : List ℕ) (limit : ℕ) (begun : Option Geometry) (given : ℕ) → IsRight (present_at bytes limit begun given)
unfolding given_in
present_right bytes limit begun given =
    let start : BetweenFrames = record { geometry = begun; reference = None } in
    after_right start (take given (from_start bytes limit begun)) tt (taken_right given (from_start bytes limit begun) (frames_right (places bytes limit).frames (places bytes limit).unfinished start))

pub keeps_geometry : KeepsGeometry
keeps_geometry limit geometry r kept s =
    subst IsRight (sym s.has) (present_right s.bytes limit s.begun s.given)
