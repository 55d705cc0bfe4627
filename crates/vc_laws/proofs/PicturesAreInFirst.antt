-- A client that asks for no format of CAPTURE gets each picture in the first raw format of its layout. The format is
-- set to the first one of the new layout at each change of the geometry, only SetFmt on CAPTURE sets another one, and
-- a run gives pictures in the format at its claim.
use Rattle.std.proofs.Common.{ℕ, ◌≡◌, ◌+◌, ◌-◌, nat_eq, Bool, true, false, not, cond, ◌&&◌, ◌||◌, Option, Some, None, List, [], ◌∷◌, ◌++◌, length, drop, refl, sym, ap, ◌∙◌, subst, append_assoc}
use Rattle.std.specs.List.{All}
use Rattle.std.proofs.lemmas.Bool.{false≢true, eqb-true}
use Rattle.std.proofs.lemmas.List.{append-nil}
use Rattle.std.proofs.lemmas.List.Elements.{All-nil, All-push}
use Rattle.vc_base.specs.declared.Stamp.{Stamp}
use Rattle.vc_base.specs.declared.Fourcc.{Fourcc}
use Rattle.vc_base.specs.declared.Side.TheVariants.{Out}
use Rattle.vc_base.specs.declared.Format.{Format}
use Rattle.vc_base.specs.declared.Kind.TheVariants.{Copy, Enc, Dec}
use Rattle.vc_base.specs.declared.Call.{Call}
use Rattle.vc_base.specs.declared.Call.TheVariants.{Open}
use Rattle.vc_base.specs.declared.Reply.{Reply}
use Rattle.vc_base.specs.Buffers.{Buffer}
use Rattle.vc_defs.specs.declared.Layout.{Layout}
use Rattle.vc_defs.specs.declared.Layout.TheVariants.{Grey, C420, C422}
use Rattle.vc_defs.specs.declared.Geometry.{Geometry}
use Rattle.vc_defs.specs.Raw.{first_raw, raw_formats, layout_of}
use Rattle.vc_defs.specs.Places.{Frame, OpenFrame, places}
use Rattle.vc_defs.specs.Decoder.{FrameResult, ResultKind, Picture, Damaged, Changed, GivenResult, BetweenFrames, DecoderState, same_layout, same_geometry}
use Rattle.vc_defs.specs.Decoder.{is_present, is_change, is_passed_over, frame_planes, picture_planes, present_after_header, given_by, given_at_end, given_then}
use Rattle.vc_defs.specs.Decoder.{given_in_frames, given_in, decoded_by, decode, moved_result}
use Rattle.vc_model.specs.Formats.{FormatPair, listed_or, formats_for, formats_found}
use Rattle.vc_model.specs.Coder.{CodecState, no_codec, encoder, decoder, the_coder}
use Rattle.vc_model.specs.Context.{Context, Slot, Running, run}
use Rattle.vc_model.specs.Answer.{answer, closed_answer}
use Rattle.vc_model.specs.Runs.{sort_of, run_format, source_of, JobData, job_data, RunResult, decoded, run_result, run_of, decode_run}
use Rattle.vc_model.specs.Solo.{SoloEvent, Called, Claims, Finishes, SoloReply, Answered, Finished, Nothing, solo_step, solo_slot}
use Rattle.vc_model.specs.Sound.{has_dest, HasCodec, HasGeometry, IsRunOf, HasRun, IsOrdered, IsSound, IsSoundSlot}
use Rattle.vc_model.proofs.FormatsAndJobsFit.{always_sound}
use Rattle.vc_laws.specs.Segments.{SegmentResult, Segment, fresh_segment, with_result, tail_length, call_resets, call_adds, after_run, after_decode, segment_of_step, segment_of_slots, segment_step, segment_of}
use Rattle.vc_laws.specs.FirstFormats.{call_asks_format, asks_format, asked_by, asked_from, asked_format, IsInFirst, PicturesAreInFirst}
use Rattle.vc_laws.proofs.EffectsOfCalls.{Settles, still, owes, gives, Effect, stays, closes, has_events, has_rates, has_out_format, has_cap_format}
use Rattle.vc_laws.proofs.EffectsOfCalls.{has_out_buffers, has_cap_buffers, adds_out, adds_cap, queues_out, queues_cap, takes_out, takes_cap, takes_last}
use Rattle.vc_laws.proofs.EffectsOfCalls.{streams_out, streams_cap, stops_out, stops_cap, rests_cap, sets_mark, starts}
use Rattle.vc_laws.proofs.EffectsOfEvents.{HasJob, Ends, alone, kept, ended, halts, spends, Step, calls, rests, lacks_job, claims, finishes, faults, step_of}
use Rattle.vc_laws.proofs.OpenContextsAreTidy.{KindSlot, step_kind}
use Rattle.vc_laws.proofs.SegmentsGoOn.{slot_more, segment_more, goes_on, begins_anew, finished_segment, nothing_segment}
use Rattle.vc_laws.proofs.DrainsAreWhole.{or_left}

-- A picture that comes first has the present geometry

IsOf : Option Geometry → ResultKind → Type 0
IsOf g (Picture geometry key planes) = g ≡ Some geometry
IsOf g Damaged = Unit {0}
IsOf g (Changed geometry) = Unit {0}

HeadIsOf : Option Geometry → List GivenResult → Type 0
HeadIsOf g [] = Unit {0}
HeadIsOf g (x ∷ later) = IsOf g x.result.kind

and_both_true : (a b : Bool) → (a && b) ≡ true → (a ≡ true) × (b ≡ true)
and_both_true true b e = (refl, e)
and_both_true false b e = absurd (false≢true e)

layouts_are : (a b : Layout) → same_layout a b ≡ true → a ≡ b
layouts_are Grey Grey e = refl
layouts_are Grey C420 e = absurd (false≢true e)
layouts_are Grey C422 e = absurd (false≢true e)
layouts_are C420 Grey e = absurd (false≢true e)
layouts_are C420 C420 e = refl
layouts_are C420 C422 e = absurd (false≢true e)
layouts_are C422 Grey e = absurd (false≢true e)
layouts_are C422 C420 e = absurd (false≢true e)
layouts_are C422 C422 e = refl

geometries_are : (a b : Geometry) → same_geometry a b ≡ true → a ≡ b
geometries_are a b e =
    let p = and_both_true (nat_eq a.width b.width && nat_eq a.height b.height) (same_layout a.layout b.layout) e in
    let q = and_both_true (nat_eq a.width b.width) (nat_eq a.height b.height) p.0 in
    ap (λ n. record a { width = n }) (eqb-true a.width b.width q.0) ∙ (ap (λ n. record a { width = b.width; height = n }) (eqb-true a.height b.height q.1) ∙ ap (λ l. record b { layout = l }) (layouts_are a.layout b.layout p.1))

present_is : (g : Option Geometry) (h : Geometry) → is_present g h ≡ true → g ≡ Some h
present_is None h e = absurd (false≢true e)
present_is (Some g) h e = ap (λ x. Some x) (geometries_are g h e)

key_or_present : (k p : Bool) (x : Option (List (List ℕ))) (planes : List (List ℕ)) → (k && not p) ≡ false → cond (k || p) x None ≡ Some planes → p ≡ true
key_or_present true true x planes n e = refl
key_or_present true false x planes n e = absurd (false≢true (sym n))
key_or_present false true x planes n e = refl
key_or_present false false x planes n e = absurd (cc)

body_present :
    (f : Frame) (now : BetweenFrames) (planes : List (List ℕ)) (o : Option (List ℕ)) → is_change f.header now.geometry ≡ false
    → (elim o as (λ _. Option (List (List ℕ))) [ None ↦ None | Some body ↦ cond (f.header.key || is_present now.geometry f.header.geometry) (frame_planes f.header now.reference body) None ])
    ≡ Some planes
    → is_present now.geometry f.header.geometry ≡ true
body_present f now planes None n e = absurd (cc)
body_present f now planes (Some body) n e =
    key_or_present f.header.key (is_present now.geometry f.header.geometry) (frame_planes f.header now.reference body) planes n e

planes_present : (f : Frame) (now : BetweenFrames) (o : Option (List (List ℕ))) → is_change f.header now.geometry ≡ false → picture_planes f now ≡ o → IsOf now.geometry (given_by f now o).result.kind
unfolding IsOf
planes_present f now None n e = tt
planes_present f now (Some planes) n e =
    present_is now.geometry f.header.geometry (body_present f now planes f.body n e)

frame_head :
    (f : Frame) (now : BetweenFrames) (later : List GivenResult) (b : Bool) → is_change f.header now.geometry ≡ b
    → HeadIsOf now.geometry
    (cond b
    (record { result = record { position = f.position; known = f.position + 44; kind = Changed f.header.geometry }; present = record { geometry = Some f.header.geometry; reference = None } } ∷ [])
    []
    ++ (given_at_end f (cond b (record { geometry = Some f.header.geometry; reference = None }) now) ∷ later))
unfolding HeadIsOf IsOf
frame_head f now later true e = tt
frame_head f now later false e = planes_present f now (picture_planes f now) e refl

open_head :
    (f : OpenFrame) (g : Option Geometry) (b : Bool)
    → HeadIsOf g
    (cond b
    (record { result = record { position = f.position; known = f.position + 44; kind = Changed f.header.geometry }; present = record { geometry = Some f.header.geometry; reference = None } } ∷ [])
    [])
unfolding HeadIsOf IsOf
open_head f g true = tt
open_head f g false = tt

then_head : (f : Frame) (now : BetweenFrames) (rest : BetweenFrames → List GivenResult) (b : Bool) → HeadIsOf now.geometry (rest now) → HeadIsOf now.geometry (given_then b f now rest)
then_head f now rest true h = h
then_head f now rest false h =
    frame_head f now (rest (given_at_end f (present_after_header f.header now)).present) (is_change f.header now.geometry) refl

frames_head : (frames : List Frame) (unfinished : Option OpenFrame) (now : BetweenFrames) → HeadIsOf now.geometry (given_in_frames frames unfinished now)
unfolding HeadIsOf
frames_head [] None now = tt
frames_head [] (Some f) now = open_head f now.geometry (is_change f.header now.geometry)
frames_head (f ∷ frames) unfinished now =
    then_head f now (λ later. given_in_frames frames unfinished later) (is_passed_over f.header now.reference) (frames_head frames unfinished now)

StepIsOf : Option Geometry → Option FrameResult → Type 0
StepIsOf g None = Unit {0}
StepIsOf g (Some r) = IsOf g r.kind

by_head : (s : DecoderState) (limit : ℕ) (bytes : List ℕ) (stamp : Stamp) (g : Option Geometry) (xs : List GivenResult) → HeadIsOf g xs → StepIsOf g (decoded_by s limit bytes stamp xs).given
unfolding StepIsOf HeadIsOf
by_head s limit bytes stamp g [] h = tt
by_head s limit bytes stamp g (x ∷ later) h = h

step_of_present : (s : DecoderState) (g : Option Geometry) (limit : ℕ) (source : List ℕ) (stamp : Stamp) → StepIsOf g (decode s g limit source stamp).given
unfolding decode given_in
step_of_present s g limit source stamp =
    by_head s limit (s.tail ++ source) stamp g _ (frames_head (places (s.tail ++ source) limit).frames (places (s.tail ++ source) limit).unfinished (record { geometry = g; reference = s.reference }))

-- First formats

IsFirst : FormatPair → Type 0
IsFirst formats = formats.cap.fourcc ≡ first_raw (layout_of formats.cap.fourcc)

listed_first : (l m : Layout) → listed_or (raw_formats l) (first_raw m) (first_raw l) ≡ first_raw l
listed_first Grey Grey = refl
listed_first Grey C420 = refl
listed_first Grey C422 = refl
listed_first C420 Grey = refl
listed_first C420 C420 = refl
listed_first C420 C422 = refl
listed_first C422 Grey = refl
listed_first C422 C420 = refl
listed_first C422 C422 = refl

layout_of_first : (l : Layout) → layout_of (first_raw l) ≡ l
layout_of_first Grey = refl
layout_of_first C420 = refl
layout_of_first C422 = refl

found_first : (present : FormatPair) (geometry : Geometry) → IsFirst present → IsFirst (formats_found present geometry)
unfolding IsFirst
found_first present geometry h =
    let l = geometry.layout in
    let same : listed_or (raw_formats l) present.cap.fourcc (first_raw l) ≡ first_raw l = ap (λ f. listed_or (raw_formats l) f (first_raw l)) h ∙ listed_first l (layout_of present.cap.fourcc) in
    same ∙ sym (ap (λ f. first_raw (layout_of f)) same ∙ ap first_raw (layout_of_first l))

abbrev AreFirst : Segment → Type 0
AreFirst seg = All (λ (x : SegmentResult). IsInFirst x.fourcc x.what.kind) seg.results

FirstAt : Slot → Segment → Bool → Type 0
FirstAt None seg asked = Unit {0}
FirstAt (Some c) seg asked = c.kind ≡ Dec → asked ≡ false → IsFirst c.formats × AreFirst seg

first_at : (c : Context) (seg : Segment) (asked : Bool) → (asked ≡ false → IsFirst c.formats × AreFirst seg) → FirstAt (Some c) seg asked
unfolding FirstAt
first_at c seg asked w k = w

closed_first : (seg : Segment) (asked : Bool) → FirstAt None seg asked
unfolding FirstAt
closed_first seg asked = tt

none_first : (ready : List Buffer) → AreFirst (fresh_segment ready)
none_first ready = All-nil (λ (x : SegmentResult). IsInFirst x.fourcc x.what.kind)

call_segment :
    (seg : Segment) (c y : Context) (request : Call) (bytes : List ℕ) (found : Bool) (reply : Reply) (handed : List ℕ) → AreFirst seg → (b : Bool)
    → call_resets c request reply ≡ b → AreFirst (segment_of_step the_coder seg c y (Called request bytes found) (Answered reply handed))
call_segment seg c y request bytes found reply handed w true r =
    subst AreFirst (sym (begins_anew the_coder seg c y request bytes found reply handed r)) (none_first y.out.ready)
call_segment seg c y request bytes found reply handed w false r =
    subst AreFirst (sym (goes_on the_coder seg c y request bytes found reply handed (call_adds c y request reply) r refl)) w

-- the formats after a call that asks for none of CAPTURE
FirstSlot : Context → Call → Slot → Type 0
FirstSlot c request None = Unit {0}
FirstSlot c request (Some y) = call_asks_format request ≡ false → IsFirst c.formats → IsFirst y.formats

same_first : (c y : Context) (request : Call) → y.formats ≡ c.formats → FirstSlot c request (Some y)
unfolding FirstSlot
same_first c y request e n h = subst IsFirst (sym e) h

no_first : (c : Context) (request : Call) → FirstSlot c request None
unfolding FirstSlot
no_first c request = tt

asked_first : (c y : Context) (request : Call) → call_asks_format request ≡ true → FirstSlot c request (Some y)
unfolding FirstSlot
asked_first c y request e n h = absurd (false≢true (sym n ∙ e))

set_first : (c y : Context) (request : Call) → IsFirst y.formats → FirstSlot c request (Some y)
unfolding FirstSlot
set_first c y request f n h = f

settled_formats : (x y : Context) → Settles x y → y.formats ≡ x.formats
settled_formats x y still = refl
settled_formats x y (owes p r) = refl
settled_formats x y (gives cause b rest events r p) = refl

out_first : (c : Context) (want : Format) → c.kind ≡ Dec → IsFirst (formats_for c.kind Out c.formats want)
unfolding IsFirst
out_first c want k =
    subst (λ q. (formats_for q Out c.formats want).cap.fourcc ≡ first_raw (layout_of (formats_for q Out c.formats want).cap.fourcc)) (sym k) refl

effect_first : (c : Context) {request : Call} {bytes : List ℕ} {reply : Reply} {slot : Slot} → c.kind ≡ Dec → Effect c request bytes reply slot → FirstSlot c request slot
effect_first c k (stays n) = same_first c c _ refl
effect_first c k (closes n) = no_first c _
effect_first c k (has_events events n) = same_first c _ _ refl
effect_first c k (has_rates rates) = same_first c _ _ refl
effect_first c k (has_out_format {want = want} codec geometry o q p) = set_first c _ _ (out_first c want k)
effect_first c k (has_cap_format q) = asked_first c _ _ refl
effect_first c k (has_out_buffers size codec geometry o p) = same_first c _ _ refl
effect_first c k (has_cap_buffers size o) = same_first c _ _ refl
effect_first c k adds_out = same_first c _ _ refl
effect_first c k adds_cap = same_first c _ _ refl
effect_first c k (queues_out b e) = same_first c _ _ refl
effect_first c k (queues_cap b y e s) = same_first c y _ (settled_formats _ y s)
effect_first c k (takes_out b rest d) = same_first c _ _ refl
effect_first c k (takes_cap b rest d n l) = same_first c _ _ refl
effect_first c k (takes_last b cause mark d p m) = same_first c _ _ refl
effect_first c k streams_out = same_first c _ _ refl
effect_first c k (streams_cap y s) = same_first c y _ (settled_formats _ y s)
effect_first c k (stops_out codec n p) = same_first c _ _ refl
effect_first c k (stops_cap codec n o p) = same_first c _ _ refl
effect_first c k (rests_cap n o) = same_first c _ _ refl
effect_first c k (sets_mark y n i b m d s) = same_first c y _ (settled_formats _ y s)
effect_first c k (starts y n i b e s) = same_first c y _ (settled_formats (record c { phase = run }) y s)

called_first :
    (seg : Segment) (asked : Bool) (c : Context) (request : Call) (bytes : List ℕ) (found : Bool) (reply : Reply) (handed : List ℕ) (slot : Slot)
    → FirstSlot c request slot → (asked ≡ false → IsFirst c.formats × AreFirst seg)
    → FirstAt slot (segment_of_slots the_coder seg (Some c) slot (Called request bytes found) (Answered reply handed)) (asked || call_asks_format request)
unfolding FirstAt FirstSlot
called_first seg asked c request bytes found reply handed None n w = tt
called_first seg asked c request bytes found reply handed (Some y) n w =
    λ k q. let p = or_left asked (call_asks_format request) q in let h = w p.0 in (n p.1 h.0, call_segment seg c y request bytes found reply handed h.1 (call_resets c request reply) refl)

-- Runs

-- the run of a decoder, from the present geometry
decodes_by :
    (c : Context) (r : Running) (state : DecoderState) (g : Option Geometry) → c.kind ≡ Dec → c.geometry ≡ g → r.sort ≡ sort_of c.kind c.geometry
    → c.codec ≡ decoder state
    → run_result the_coder (job_data c r) ≡ decoded (decode state r.geometry r.limit (drop (source_of c.out.job).cursor (source_of c.out.job).bytes) (source_of c.out.job).stamp)
unfolding run_result
decodes_by c r state None k g t e =
    ap (run_of the_coder (job_data c r)) (t ∙ (ap (λ q. sort_of q c.geometry) k ∙ ap (sort_of Dec) g)) ∙ ap (decode_run the_coder (job_data c r)) e
decodes_by c r state (Some geometry) k g t e =
    ap (run_of the_coder (job_data c r)) (t ∙ (ap (λ q. sort_of q c.geometry) k ∙ ap (sort_of Dec) g)) ∙ ap (decode_run the_coder (job_data c r)) e

-- a picture of the run is in the first format
given_in_first : (fourcc : Fourcc) (g : Option Geometry) (kind : ResultKind) → IsOf g kind → ((geometry : Geometry) → g ≡ Some geometry → fourcc ≡ first_raw geometry.layout) → IsInFirst fourcc kind
unfolding IsOf
given_in_first fourcc g (Picture geometry key planes) h f = f geometry h
given_in_first fourcc g Damaged h f = tt
given_in_first fourcc g (Changed geometry) h f = tt

with_first :
    (results : List SegmentResult) (from : ℕ) (fourcc : Fourcc) (stamp : Stamp) (g : Option Geometry) (o : Option FrameResult) → StepIsOf g o
    → ((geometry : Geometry) → g ≡ Some geometry → fourcc ≡ first_raw geometry.layout)
    → All (λ (x : SegmentResult). IsInFirst x.fourcc x.what.kind) results
    → All (λ (x : SegmentResult). IsInFirst x.fourcc x.what.kind) (with_result results from fourcc stamp o)
unfolding StepIsOf
with_first results from fourcc stamp g None h f w = w
with_first results from fourcc stamp g (Some r) h f w =
    All-push (λ (x : SegmentResult). IsInFirst x.fourcc x.what.kind) results (record { what = moved_result from r; stamp = stamp; fourcc = fourcc }) w (given_in_first fourcc g r.kind h f)

-- the format of a run with a geometry
run_first :
    (c : Context) (r : Running) (g : Option Geometry) → c.kind ≡ Dec → c.geometry ≡ g → IsRunOf c.kind c.formats c.geometry r
    → HasGeometry c.kind c.formats c.geometry → IsFirst c.formats → (geometry : Geometry) → g ≡ Some geometry
    → r.format.fourcc ≡ first_raw geometry.layout
unfolding IsFirst
run_first c r None k e t h f geometry p = absurd (cc)
run_first c r (Some g) k e t h f geometry p =
    let same : g ≡ geometry = cc in
    let has : HasGeometry Dec c.formats (Some g) = subst (HasGeometry Dec c.formats) e (subst (λ q. HasGeometry q c.formats c.geometry) k h) in
    let dest : has_dest r.sort ≡ true = ap has_dest (t.sort ∙ (ap (λ q. sort_of q c.geometry) k ∙ ap (sort_of Dec) e)) in
    let format : r.format ≡ c.formats.cap = t.format dest ∙ ap (λ q. run_format q c.formats) k in
    ap (λ z. z.fourcc) format ∙ (f ∙ (ap first_raw has.2 ∙ ap (λ z. first_raw z.layout) same))

-- the formats after the end of a job
ended_first : (c : Context) (j : JobData) (b : Buffer) {result : Option RunResult} (x : Context) → IsFirst c.formats → Ends c j b result x → IsFirst x.formats
ended_first c j b x f (alone up flags cursor codec used bytes dest_flags stamp p n) = f
ended_first c j b x f (kept up flags cursor codec used bytes dest_flags stamp d p n) = f
ended_first c j b x f (ended flags cursor codec used bytes dest_flags stamp d up p u n m) = f
ended_first c j b x f (halts step r geometry k phase events g q back p) = found_first c.formats geometry f
ended_first c j b x f (spends step k g back) = f

settled_first : (x y : Context) → Settles x y → IsFirst x.formats → IsFirst y.formats
settled_first x y s f = subst IsFirst (sym (settled_formats x y s)) f

decoder_state : (codec : CodecState) → HasCodec Dec codec → (state : DecoderState) × (codec ≡ decoder state)
decoder_state no_codec h = absurd h
decoder_state (encoder state) h = absurd h
decoder_state (decoder state) h = (state, refl)

finish_first :
    (seg : Segment) (c : Context) (r : Running) (job : HasJob c r) (x y : Context) (word : List ℕ) → IsSound c → c.kind ≡ Dec
    → IsFirst c.formats × AreFirst seg → Ends c (job_data c r) job.source (Some (run_result the_coder (job_data c r))) x → Settles x y
    → IsFirst y.formats × AreFirst (segment_of_step the_coder seg c y (Finishes false) (Finished word))
finish_first seg c r job x y word s k w ends u =
    let j = job_data c r in
    let run : IsRunOf c.kind c.formats c.geometry r = subst (HasRun c.kind c.formats c.geometry) job.running s.run in
    let codec = decoder_state c.codec (subst (λ q. HasCodec q c.codec) k s.firm.has_codec) in
    let source = source_of c.out.job in
    let step = decode codec.0 r.geometry r.limit (drop source.cursor source.bytes) source.stamp in
    let by = decodes_by c r codec.0 c.geometry k refl run.sort codec.1 in
    let present = step_of_present codec.0 r.geometry r.limit (drop source.cursor source.bytes) source.stamp in
    let f = run_first c r c.geometry k refl run s.fit.geometry w.0 in
    let all : AreFirst (after_decode seg r j step) = with_first seg.results (length seg.bytes - tail_length j.codec) j.format.fourcc step.stamp r.geometry step.given present (λ geometry p. f geometry (sym run.same_geometry ∙ p)) w.1 in
    let made : All (λ (z : SegmentResult). IsInFirst z.fourcc z.what.kind) (after_run seg r j (run_result the_coder j)).results =
    subst (λ z. All (λ (q : SegmentResult). IsInFirst q.fourcc q.what.kind) (after_run seg r j z).results) (sym by) all in
    (settled_first x y u (ended_first c j job.source x w.0 ends), subst AreFirst (sym (finished_segment the_coder seg c y r word job.running)) made)

-- Steps

ordered_of : (c : Context) → IsSound c → IsOrdered c
ordered_of c s = record { firm = s.firm; settled = s.settled }

idle_first : (seg : Segment) (asked fault : Bool) (c : Context) → c.running ≡ None → (asked ≡ false → IsFirst c.formats × AreFirst seg) → FirstAt (Some c) (segment_of_step the_coder seg c c (Finishes fault) Nothing) (asked || false)
idle_first seg asked fault c o w =
    first_at c _ _ (λ q. let h = w (or_left asked false q).0 in (h.0, subst AreFirst (sym (nothing_segment the_coder seg c fault o)) h.1))

step_first :
    (seg : Segment) (asked : Bool) (c : Context) {e : SoloEvent} {told : SoloReply} {slot : Slot} → IsSound c → c.kind ≡ Dec
    → (asked ≡ false → IsFirst c.formats × AreFirst seg) → Step the_coder c e told slot
    → FirstAt slot (segment_of_slots the_coder seg (Some c) slot e told) (asked || asks_format e)
step_first seg asked c s k w (calls {request = request} {bytes = bytes} {found = found} {reply = reply} {handed = handed} {slot = slot} f) =
    called_first seg asked c request bytes found reply handed slot (effect_first c k f) w
step_first seg asked c s k w rests = first_at c _ _ (λ q. w (or_left asked false q).0)
step_first seg asked c s k w (lacks_job {fault = fault} o) = idle_first seg asked fault c o w
step_first seg asked c s k w (claims b rest z e o j i p d q) = first_at _ _ _ (λ q. w (or_left asked false q).0)
step_first seg asked c s k w (finishes {word = word} r x y job ends u v) =
    first_at y _ _ (λ q. finish_first seg c r job x y word s k (w (or_left asked false q).0) ends u)
step_first seg asked c s k w (faults {word = word} r x y job ends u) =
    first_at y _ _ (λ q. (settled_first x y u (ended_first c (job_data c r) job.source x (w (or_left asked false q).0).0 ends), none_first y.out.ready))

open_first :
    (seg : Segment) (request : Call) (bytes : List ℕ) (found : Bool)
    → FirstAt (closed_answer request found).slot
    (segment_of_slots the_coder seg None (closed_answer request found).slot (Called request bytes found) (Answered (closed_answer request found).reply (closed_answer request found).bytes))
    false
unfolding closed_answer FirstAt IsFirst
open_first seg (Open Copy) bytes true = λ k. absurd (cc)
open_first seg (Open Enc) bytes true = λ k. absurd (cc)
open_first seg (Open Dec) bytes true = λ k q. (refl, none_first [])
open_first seg (Open kind) bytes false = tt
open_first seg request bytes found = tt

of_decoders : (c : Context) (slot : Slot) (seg : Segment) (asked : Bool) → KindSlot c slot → (c.kind ≡ Dec → FirstAt slot seg asked) → FirstAt slot seg asked
unfolding FirstAt KindSlot
of_decoders c None seg asked k f = tt
of_decoders c (Some y) seg asked k f = λ q. f (sym k ∙ q) q

slot_first :
    (seg : Segment) (asked : Bool) (s : Slot) (e : SoloEvent) → IsSoundSlot s → FirstAt s seg asked
    → FirstAt (solo_step the_coder s e).slot (segment_of_slots the_coder seg s (solo_step the_coder s e).slot e (solo_step the_coder s e).told) (asked_by s asked e)
unfolding solo_step answer FirstAt
slot_first seg asked None (Called request bytes found) h w = open_first seg request bytes found
slot_first seg asked None Claims h w = tt
slot_first seg asked None (Finishes fault) h w = tt
slot_first seg asked (Some c) (Called request bytes found) h w =
    let q = step_of the_coder c (Called request bytes found) (ordered_of c h) in
    of_decoders c _ _ _ (step_kind the_coder c q) (λ k. step_first seg asked c h k (w k) q)
slot_first seg asked (Some c) Claims h w =
    let q = step_of the_coder c Claims (ordered_of c h) in
    of_decoders c _ _ _ (step_kind the_coder c q) (λ k. step_first seg asked c h k (w k) q)
slot_first seg asked (Some c) (Finishes fault) h w =
    let q = step_of the_coder c (Finishes fault) (ordered_of c h) in
    of_decoders c _ _ _ (step_kind the_coder c q) (λ k. step_first seg asked c h k (w k) q)

segment_first : (seg : Segment) (asked : Bool) (s : Slot) (e : SoloEvent) → IsSoundSlot s → FirstAt s seg asked → FirstAt (solo_step the_coder s e).slot (segment_step the_coder seg s e) (asked_by s asked e)
unfolding segment_step
segment_first seg asked s e h w = slot_first seg asked s e h w

-- Runs of a slot, which is sound after every event

asked_more : (asked : Bool) (s : Slot) (es : List SoloEvent) (e : SoloEvent) → asked_from the_coder asked s (es ++ e ∷ []) ≡ asked_by (solo_slot the_coder s es) (asked_from the_coder asked s es) e
asked_more asked s [] e = refl
asked_more asked s (x ∷ es) e = asked_more (asked_by s asked x) (solo_step the_coder s x).slot es e

FirstAfter : List SoloEvent → Type 0
FirstAfter events = FirstAt (solo_slot the_coder None events) (segment_of the_coder events) (asked_format the_coder events)

one_more : (events : List SoloEvent) (e : SoloEvent) → FirstAfter events → FirstAfter (events ++ e ∷ [])
unfolding FirstAfter
one_more events e w =
    let s = solo_slot the_coder None events in
    let h = segment_first (segment_of the_coder events) (asked_format the_coder events) s e (always_sound the_coder events) w in
    subst (λ z. FirstAt z (segment_of the_coder (events ++ e ∷ [])) (asked_format the_coder (events ++ e ∷ [])))
    (sym (slot_more the_coder None events e))
    (subst (λ z. FirstAt (solo_step the_coder s e).slot z (asked_format the_coder (events ++ e ∷ [])))
    (sym (segment_more the_coder (fresh_segment []) None events e))
    (subst (FirstAt (solo_step the_coder s e).slot (segment_step the_coder (segment_of the_coder events) s e)) (sym (asked_more false None events e)) h))

go_on : (front events : List SoloEvent) → FirstAfter front → FirstAfter (front ++ events)
go_on front [] w = subst FirstAfter (sym (append-nil front)) w
go_on front (e ∷ events) w =
    subst FirstAfter (append_assoc front (e ∷ []) events) (go_on (front ++ e ∷ []) events (one_more front e w))

at_start : FirstAfter []
unfolding FirstAfter FirstAt
at_start = tt

pub pictures_are_in_first : PicturesAreInFirst
unfolding FirstAfter FirstAt
pictures_are_in_first events c at k q =
    (subst (λ z. FirstAt z (segment_of the_coder events) (asked_format the_coder events)) at (go_on [] events at_start) k q).1
