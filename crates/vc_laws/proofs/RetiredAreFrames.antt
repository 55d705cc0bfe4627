-- The CAPTURE buffers that an encoder's runs put on done are the frames of its segment, one for one. A run that
-- encodes puts its frame there in the buffer of the job, with LAST or without, and no other step puts a buffer with
-- bytes there.
use Rattle.std.proofs.Common.{ℕ, ◌≡◌, ◌+◌, eqb, Bool, true, false, Option, Some, None, List, [], ◌∷◌, ◌++◌, length, refl, sym, ap, ◌∙◌, subst, arith, inl, inr}
use Rattle.std.proofs.lemmas.List.Elements.{filter-append}
use Rattle.vc_base.specs.declared.Stamp.{Stamp}
use Rattle.vc_base.specs.declared.Side.TheVariants.{Cap}
use Rattle.vc_base.specs.declared.Kind.TheVariants.{Enc}
use Rattle.vc_base.specs.declared.Call.{Call}
use Rattle.vc_base.specs.declared.Call.TheVariants.{Open}
use Rattle.vc_base.specs.declared.Reply.{Reply}
use Rattle.vc_base.specs.Buffers.{Buffer, QueueState, lend_front}
use Rattle.vc_base.specs.Limits.{last_flag}
use Rattle.vc_defs.specs.Encoder.{EncodedFrame}
use Rattle.vc_model.specs.Coder.{Coder, CodecState, no_codec, encoder, decoder}
use Rattle.vc_model.specs.Context.{Context, Slot, Running}
use Rattle.vc_model.specs.Answer.{answer, closed_answer}
use Rattle.vc_model.specs.Runs.{running_of, sort_of, source_of, JobData, job_data, RunResult, encoded, run_result, run_of, encode_run, type_flag}
use Rattle.vc_model.specs.Solo.{SoloEvent, Called, Claims, Finishes, SoloReply, Answered, Claimed, Finished, solo_step, solo_slot}
use Rattle.vc_model.specs.Sound.{HasCodec, IsOrdered, IsOrderedSlot, dest_count}
use Rattle.vc_model.specs.Drains.{done_now}
use Rattle.vc_laws.specs.Segments.{EncodedPicture, Segment, fresh_segment, call_resets, call_adds, after_run, segment_of_step, segment_of_slots, segment_step, segment_of}
use Rattle.vc_laws.specs.Following.{is_by_run, by_runs, IsFrameIn, FrameForFrame, RetiredAreFrames}
use Rattle.vc_laws.proofs.EffectsOfCalls.{Settles}
use Rattle.vc_laws.proofs.EffectsOfEvents.{HasJob, Puts, puts_fault, puts_copy, puts_frame, puts_picture, puts_damage, Ends, alone, kept, ended, halts, spends, Step, calls, rests, lacks_job, claims, finishes, faults, step_of, probes, runs}
use Rattle.vc_laws.proofs.OpenContextsAreTidy.{IsTidy, IsRunOf, HasRun, TidySlot, KindSlot, step_kind}
use Rattle.vc_laws.proofs.DoneInAStep.{made_same, made_more}
use Rattle.vc_laws.proofs.BuffersOfDecoderRuns.{retired_more, NoRuns, no_runs_is, effect_runs, quiet_runs, settled_runs, cap_bytes, retired_buffer, type_by_run, type_last_by_run, by_run_alone}
use Rattle.vc_laws.proofs.SegmentsGoOn.{goes_on, begins_anew, finished_segment, nothing_segment, always_holds}

frames_append : (ps qs : List EncodedPicture) (bs ds : List Buffer) → FrameForFrame ps bs → FrameForFrame qs ds → FrameForFrame (ps ++ qs) (bs ++ ds)
frames_append [] qs [] ds h i = i
frames_append [] qs (b ∷ bs) ds h i = absurd h
frames_append (p ∷ ps) qs [] ds h i = absurd h
frames_append (p ∷ ps) qs (b ∷ bs) ds h i = (h.0, frames_append ps qs bs ds h.1 i)

-- The buffer of a run

-- the run put the frame on done, in the buffer of the job
IsFrameOf : EncodedFrame → Stamp → Buffer → Type 0
IsFrameOf f stamp z =
    (by_runs (z ∷ []) ≡ z ∷ []) × ((p : EncodedPicture) → p.frame ≡ f.bytes → p.key ≡ f.key → p.stamp ≡ stamp → IsFrameIn p z)

frame_of_run : (f : EncodedFrame) (stamp : Stamp) (z : Buffer) → z.bytes ≡ f.bytes → z.used ≡ length f.bytes → z.stamp ≡ stamp → (z.flags ≡ type_flag f.key) → IsFrameOf f stamp z
unfolding IsFrameOf
frame_of_run f stamp z b u s g =
    (by_run_alone z (ap (λ n. eqb n last_flag) g ∙ type_by_run f.key), λ p e k t. (b ∙ sym e, u ∙ ap length (sym e), s ∙ sym t, inl (g ∙ ap type_flag (sym k))))

last_of_run : (f : EncodedFrame) (stamp : Stamp) (z : Buffer) → z.bytes ≡ f.bytes → z.used ≡ length f.bytes → z.stamp ≡ stamp → (z.flags ≡ type_flag f.key + last_flag) → IsFrameOf f stamp z
unfolding IsFrameOf
last_of_run f stamp z b u s g =
    (by_run_alone z (ap (λ n. eqb n last_flag) g ∙ type_last_by_run f.key), λ p e k t. (b ∙ sym e, u ∙ ap length (sym e), s ∙ sym t, inr (g ∙ ap (λ x. type_flag x + last_flag) (sym k))))

-- what a run that encodes puts on done, with LAST or without
puts_encoded :
    (c : Context) (j : JobData) (b d : Buffer) (f : EncodedFrame) (result : Option RunResult) (up : Bool) (flags cursor : ℕ) (codec : CodecState)
    (used : ℕ) (bytes : List ℕ) (dest_flags : ℕ) (stamp : Stamp)
    → result ≡ Some (encoded f) → c.cap.side ≡ Cap → Puts c j b result up flags cursor codec used bytes dest_flags stamp
    → IsFrameOf f b.stamp (retired_buffer c d used bytes dest_flags stamp) × IsFrameOf f b.stamp (retired_buffer c d used bytes (dest_flags + last_flag) stamp)
puts_encoded c j b d f result up flags cursor codec used bytes dest_flags stamp e side (puts_fault k) = absurd (cc)
puts_encoded c j b d f result up flags cursor codec used bytes dest_flags stamp e side (puts_copy xs k) = absurd (cc)
puts_encoded c j b d f result up flags cursor codec used bytes dest_flags stamp e side (puts_frame frame k) =
    let q : frame ≡ f = cc in
    subst (λ g.
    IsFrameOf g b.stamp (retired_buffer c d (length frame.bytes) frame.bytes (type_flag frame.key) b.stamp)
    × IsFrameOf g b.stamp (retired_buffer c d (length frame.bytes) frame.bytes (type_flag frame.key + last_flag) b.stamp))
    q (
      frame_of_run frame b.stamp (retired_buffer c d (length frame.bytes) frame.bytes (type_flag frame.key) b.stamp) (cap_bytes c.cap.side (type_flag frame.key) frame.bytes side) refl refl refl,
      last_of_run frame b.stamp (retired_buffer c d (length frame.bytes) frame.bytes (type_flag frame.key + last_flag) b.stamp)
          (cap_bytes c.cap.side (type_flag frame.key + last_flag) frame.bytes side) refl refl refl,
    )
puts_encoded c j b d f result up flags cursor codec used bytes dest_flags stamp e side (puts_picture step r geometry key planes g k) = absurd (cc)
puts_encoded c j b d f result up flags cursor codec used bytes dest_flags stamp e side (puts_damage step r g k) = absurd (cc)

-- the one buffer that went to done in a run that encodes
record PutsFrame (c y : Context) (f : EncodedFrame) (stamp : Stamp) : Type 0 where
  pub buffer : Buffer
  pub alone : by_runs (done_now c y) ≡ buffer ∷ []
  pub frame : IsFrameOf f stamp buffer

put_one :
    (c x y : Context) (f : EncodedFrame) (stamp : Stamp) (z : Buffer) → IsFrameOf f stamp z → x.cap.done ≡ c.cap.done ++ z ∷ []
    → z.seq ≡ c.cap.next_seq → x.cap.next_seq ≡ c.cap.next_seq + 1 → IsTidy c → Settles x y → PutsFrame c y f stamp
unfolding IsFrameOf
put_one c x y f stamp z h d q n t s =
    record {
      buffer = z;
      alone = settled_runs c x y (z ∷ []) (made_more c c x [] z d (omega arith) (made_same c c refl t)) (omega arith) s ∙ h.0;
      frame = h;
    }

ended_put :
    (c : Context) (j : JobData) (b : Buffer) (f : EncodedFrame) {result : Option RunResult} (x y : Context) → result ≡ Some (encoded f)
    → c.cap.side ≡ Cap → length c.cap.job ≡ 1 → IsTidy c → Ends c j b result x → Settles x y → PutsFrame c y f b.stamp
ended_put c j b f {result = result} x y e side n t (alone up flags cursor codec used bytes dest_flags stamp p k) s =
    let l = sym n ∙ ap length k in absurd (omega arith)
ended_put c j b f {result = result} x y e side n t (kept up flags cursor codec used bytes dest_flags stamp d p k) s =
    put_one c x y f b.stamp (retired_buffer c d used bytes dest_flags stamp) (puts_encoded c j b d f result up flags cursor codec used bytes dest_flags stamp e side p).0 refl refl refl t s
ended_put c j b f {result = result} x y e side n t (ended flags cursor codec used bytes dest_flags stamp d up p u k m) s =
    put_one c x y f b.stamp (retired_buffer c d used bytes (dest_flags + last_flag) stamp) (puts_encoded c j b d f result up flags cursor codec used bytes dest_flags stamp e side p).1 refl refl refl t s
ended_put c j b f x y e side n t (halts step r geometry k phase events g q back p) s = absurd (cc)
ended_put c j b f x y e side n t (spends step k g back) s = absurd (cc)

-- Steps

FramesAt : Slot → Segment → Type 0
FramesAt None seg = Unit {0}
FramesAt (Some c) seg = c.kind ≡ Enc → FrameForFrame seg.pictures (by_runs seg.retired)

abbrev AreFrames : Segment → Type 0
AreFrames seg = FrameForFrame seg.pictures (by_runs seg.retired)

are_frames : (c : Context) (seg : Segment) → AreFrames seg → FramesAt (Some c) seg
unfolding FramesAt
are_frames c seg w k = w

-- the segment with buffers that no run put on done
quiet_frames : (seg : Segment) (c y : Context) (sources : List Buffer) → by_runs (done_now c y) ≡ [] → AreFrames seg → AreFrames (record seg { sources = sources; retired = seg.retired ++ done_now c y })
quiet_frames seg c y sources e w =
    subst (FrameForFrame seg.pictures) (sym (retired_more seg.retired (done_now c y) e)) w

call_frames :
    (coder : Coder) (seg : Segment) (c y : Context) (request : Call) (bytes : List ℕ) (found : Bool) (reply : Reply) (handed : List ℕ)
    → by_runs (done_now c y) ≡ [] → AreFrames seg → (b : Bool) → call_resets c request reply ≡ b
    → AreFrames (segment_of_step coder seg c y (Called request bytes found) (Answered reply handed))
call_frames coder seg c y request bytes found reply handed e w true r =
    subst AreFrames (sym (begins_anew coder seg c y request bytes found reply handed r)) tt
call_frames coder seg c y request bytes found reply handed e w false r =
    subst AreFrames (sym (goes_on coder seg c y request bytes found reply handed (call_adds c y request reply) r refl)) (quiet_frames seg c y (seg.sources ++ call_adds c y request reply) e w)

slot_frames :
    (coder : Coder) (seg : Segment) (c : Context) (request : Call) (bytes : List ℕ) (found : Bool) (reply : Reply) (handed : List ℕ) (slot : Slot)
    → NoRuns c slot → AreFrames seg → FramesAt slot (segment_of_slots coder seg (Some c) slot (Called request bytes found) (Answered reply handed))
unfolding FramesAt
slot_frames coder seg c request bytes found reply handed None n w = tt
slot_frames coder seg c request bytes found reply handed (Some y) n w =
    λ k. call_frames coder seg c y request bytes found reply handed (no_runs_is c y n) w (call_resets c request reply) refl

-- the run of an encoder encodes
pub encodes_by : (coder : Coder) (c : Context) (r : Running) (codec : CodecState) → c.codec ≡ codec → HasCodec Enc codec → c.kind ≡ Enc → IsRunOf c r → (f : EncodedFrame) × (run_result coder (job_data c r) ≡ encoded f)
unfolding run_result
encodes_by coder c r no_codec e h k t = absurd h
encodes_by coder c r (decoder state) e h k t = absurd h
encodes_by coder c r (encoder state) e h k t =
    (coder.encode state r.format r.rates (source_of c.out.job).bytes, ap (run_of coder (job_data c r)) (t.sort ∙ ap (λ q. sort_of q c.geometry) k) ∙ ap (encode_run coder (job_data c r)) e)

cap_taken : (c : Context) (r : Running) → c.kind ≡ Enc → IsRunOf c r → length c.cap.job ≡ dest_count r.sort → length c.cap.job ≡ 1
cap_taken c r k t n = n ∙ ap dest_count (t.sort ∙ ap (λ q. sort_of q c.geometry) k)

finish_frames :
    (coder : Coder) (seg : Segment) (c : Context) (r : Running) (job : HasJob c r) (x y : Context) (word : List ℕ) → IsOrdered c → IsTidy c
    → c.kind ≡ Enc → AreFrames seg → Ends c (job_data c r) job.source (Some (run_result coder (job_data c r))) x → Settles x y
    → AreFrames (segment_of_step coder seg c y (Finishes false) (Finished word))
unfolding IsFrameOf
finish_frames coder seg c r job x y word s t k w ends u =
    let run : IsRunOf c r = subst (HasRun c) job.running t.run in
    let by = encodes_by coder c r c.codec refl (subst (λ q. HasCodec q c.codec) k s.firm.has_codec) k run in
    let f = by.0 in
    let b = job.source in
    let put = ended_put c (job_data c r) b f x y (ap (λ o. Some o) by.1) s.firm.cap_side (cap_taken c r k run job.dest) t ends u in
    let source = source_of c.out.job in
    let picture : EncodedPicture = record { bytes = source.bytes; format = r.format; rates = r.rates; stamp = source.stamp; frame = f.bytes; key = f.key } in
    let one : FrameForFrame (picture ∷ []) (put.buffer ∷ []) = (put.frame.1 picture refl refl (ap (λ l. (source_of l).stamp) job.job), tt) in
    let here : FrameForFrame (picture ∷ []) (by_runs (done_now c y)) = subst (FrameForFrame (picture ∷ [])) (sym put.alone) one in
    let more = frames_append seg.pictures (picture ∷ []) (by_runs seg.retired) (by_runs (done_now c y)) w here in
    let all : FrameForFrame (seg.pictures ++ picture ∷ []) (by_runs (seg.retired ++ done_now c y)) = subst (FrameForFrame (seg.pictures ++ picture ∷ [])) (sym (filter-append is_by_run seg.retired (done_now c y))) more in
    let made :
    FrameForFrame (after_run seg r (job_data c r) (run_result coder (job_data c r))).pictures (by_runs ((after_run seg r (job_data c r) (run_result coder (job_data c r))).retired ++ done_now c y)) =
    subst (λ z. FrameForFrame (after_run seg r (job_data c r) z).pictures (by_runs ((after_run seg r (job_data c r) z).retired ++ done_now c y))) (sym by.1) all in
    subst AreFrames (sym (finished_segment coder seg c y r word job.running)) made

claims_frames :
    (coder : Coder) (seg : Segment) (c : Context) (b : Buffer) (rest : List Buffer) (z : QueueState) → z.done ≡ c.cap.done → IsTidy c → AreFrames seg
    → FramesAt (Some (record c { out = lend_front c.out (b ∷ rest); cap = z; running = Some (running_of c (sort_of c.kind c.geometry)) }))
    (segment_of_step coder seg c (record c { out = lend_front c.out (b ∷ rest); cap = z; running = Some (running_of c (sort_of c.kind c.geometry)) }) Claims Claimed)
claims_frames coder seg c b rest z d t w =
    let y = record c { out = lend_front c.out (b ∷ rest); cap = z; running = Some (running_of c (sort_of c.kind c.geometry)) } in
    are_frames y _ (quiet_frames seg c y (seg.sources ++ []) (quiet_runs c y d t) w)

rests_frames : (seg : Segment) (c : Context) → IsTidy c → AreFrames seg → AreFrames (record seg { sources = seg.sources ++ []; retired = seg.retired ++ done_now c c })
rests_frames seg c t w = quiet_frames seg c c (seg.sources ++ []) (quiet_runs c c refl t) w

step_frames :
    (coder : Coder) (seg : Segment) (c : Context) {e : SoloEvent} {told : SoloReply} {slot : Slot} → IsOrdered c → IsTidy c → c.kind ≡ Enc
    → AreFrames seg → Step coder c e told slot → FramesAt slot (segment_of_slots coder seg (Some c) slot e told)
step_frames coder seg c s t k w (calls {request = request} {bytes = bytes} {found = found} {reply = reply} {handed = handed} {slot = slot} f) =
    slot_frames coder seg c request bytes found reply handed slot (effect_runs c t f) w
step_frames coder seg c s t k w rests = are_frames c _ (rests_frames seg c t w)
step_frames coder seg c s t k w (lacks_job {fault = fault} o) =
    are_frames c _ (subst AreFrames (sym (nothing_segment coder seg c fault o)) (rests_frames seg c t w))
step_frames coder seg c s t k w (claims b rest z e o j i p d (probes q)) = claims_frames coder seg c b rest z refl t w
step_frames coder seg c s t k w (claims b rest z e o j i p d (runs x xs n m q)) =
    claims_frames coder seg c b rest z refl t w
step_frames coder seg c s t k w (finishes {word = word} r x y job ends u v) =
    are_frames y _ (finish_frames coder seg c r job x y word s t k w ends u)
step_frames coder seg c s t k w (faults {word = word} r x y job ends u) = are_frames y _ tt

-- Slots

open_frames :
    (coder : Coder) (seg : Segment) (request : Call) (bytes : List ℕ) (found : Bool)
    → FramesAt (closed_answer request found).slot
    (segment_of_slots coder seg None (closed_answer request found).slot (Called request bytes found) (Answered (closed_answer request found).reply (closed_answer request found).bytes))
unfolding closed_answer FramesAt
open_frames coder seg (Open kind) bytes true = λ k. tt
open_frames coder seg (Open kind) bytes false = tt
open_frames coder seg request bytes found = tt

of_encoders : (c : Context) (slot : Slot) (seg : Segment) → KindSlot c slot → (c.kind ≡ Enc → FramesAt slot seg) → FramesAt slot seg
unfolding FramesAt KindSlot
of_encoders c None seg k f = tt
of_encoders c (Some y) seg k f = λ q. f (sym k ∙ q) q

step_slot :
    (coder : Coder) (seg : Segment) (s : Slot) (e : SoloEvent) → IsOrderedSlot s → TidySlot s → FramesAt s seg
    → FramesAt (solo_step coder s e).slot (segment_of_slots coder seg s (solo_step coder s e).slot e (solo_step coder s e).told)
unfolding solo_step answer FramesAt
step_slot coder seg None (Called request bytes found) h t w = open_frames coder seg request bytes found
step_slot coder seg None Claims h t w = tt
step_slot coder seg None (Finishes fault) h t w = tt
step_slot coder seg (Some c) (Called request bytes found) h t w =
    let q = step_of coder c (Called request bytes found) h in
    of_encoders c _ _ (step_kind coder c q) (λ k. step_frames coder seg c h t k (w k) q)
step_slot coder seg (Some c) Claims h t w =
    let q = step_of coder c Claims h in of_encoders c _ _ (step_kind coder c q) (λ k. step_frames coder seg c h t k (w k) q)
step_slot coder seg (Some c) (Finishes fault) h t w =
    let q = step_of coder c (Finishes fault) h in
    of_encoders c _ _ (step_kind coder c q) (λ k. step_frames coder seg c h t k (w k) q)

segment_frames : (coder : Coder) (seg : Segment) (s : Slot) (e : SoloEvent) → IsOrderedSlot s → TidySlot s → FramesAt s seg → FramesAt (solo_step coder s e).slot (segment_step coder seg s e)
unfolding segment_step
segment_frames coder seg s e h t w = step_slot coder seg s e h t w

always_frames : (coder : Coder) (events : List SoloEvent) → FramesAt (solo_slot coder None events) (segment_of coder events)
unfolding FramesAt
always_frames coder events =
    always_holds coder (λ seg s. FramesAt s seg) (segment_frames coder) (fresh_segment []) None events tt tt tt

pub retired_are_frames : RetiredAreFrames
unfolding FramesAt
retired_are_frames coder events c at k =
    subst (λ z. FramesAt z (segment_of coder events)) at (always_frames coder events) k
