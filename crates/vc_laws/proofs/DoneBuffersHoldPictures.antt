-- What goes to done on CAPTURE has the bytes of the segment's pictures or frames, in order, and nothing else. The
-- buffer of a run has the bytes that the run gave, and the only other buffer that can go there is an empty LAST
-- buffer.
use Rattle.std.proofs.Common.{ℕ, ◌≡◌, ◌≤◌, ◌+◌, eqb, Bool, true, false, not, cond, Option, Some, None, List, [], ◌∷◌, ◌++◌, refl, sym, ap, ◌∙◌, subst, arith}
use Rattle.std.specs.List.{flat_map}
use Rattle.std.proofs.lemmas.List.Elements.{filter-append}
use Rattle.std.proofs.lemmas.Grind.{flat_map-append}
use Rattle.vc_base.specs.declared.Stamp.{Stamp}
use Rattle.vc_base.specs.declared.Side.{Side}
use Rattle.vc_base.specs.declared.Side.TheVariants.{Cap}
use Rattle.vc_base.specs.declared.Kind.{Kind}
use Rattle.vc_base.specs.declared.Kind.TheVariants.{Copy, Enc, Dec}
use Rattle.vc_base.specs.declared.Call.{Call}
use Rattle.vc_base.specs.declared.Call.TheVariants.{Open}
use Rattle.vc_base.specs.declared.Reply.{Reply}
use Rattle.vc_base.specs.Buffers.{Buffer, QueueState, known_bytes, zero_stamp, lend_front}
use Rattle.vc_base.specs.Limits.{last_flag}
use Rattle.vc_defs.specs.declared.Geometry.{Geometry}
use Rattle.vc_defs.specs.Decoder.{ResultKind, Picture, Damaged, Changed}
use Rattle.vc_defs.specs.Outputs.{is_change_result}
use Rattle.vc_model.specs.Coder.{Coder, CodecState, no_codec, encoder, decoder, the_coder}
use Rattle.vc_model.specs.Context.{Context, Slot, Running, run}
use Rattle.vc_model.specs.Answer.{answer, closed_answer}
use Rattle.vc_model.specs.Runs.{running_of, sort_of, JobData, job_data, RunResult, copied, encoded, decoded, run_result, run_of, encode_run, decode_run}
use Rattle.vc_model.specs.Solo.{SoloEvent, Called, Claims, Finishes, SoloReply, Answered, Claimed, Finished, solo_step, solo_slot}
use Rattle.vc_model.specs.Sound.{HasCodec, IsOrdered, IsOrderedSlot}
use Rattle.vc_model.specs.Drains.{done_now}
use Rattle.vc_laws.specs.Segments.{SegmentResult, EncodedPicture, Segment, fresh_segment, call_resets, call_adds, after_run, segment_of_step, segment_of_slots, segment_step, segment_of}
use Rattle.vc_laws.specs.Following.{HoldsKind, OneForOne, in_buffers, is_by_run, by_runs, FrameForFrame}
use Rattle.vc_laws.specs.Taking.{bytes_of, bytes_of_kind, bytes_of_result, PicturesAreHandedOut, FramesAreHandedOut}
use Rattle.vc_laws.proofs.EffectsOfCalls.{Settles, still, owes, gives, Effect, stays, closes, has_events, has_rates, has_out_format, has_cap_format}
use Rattle.vc_laws.proofs.EffectsOfCalls.{has_out_buffers, has_cap_buffers, adds_out, adds_cap, queues_out, queues_cap, takes_out, takes_cap, takes_last}
use Rattle.vc_laws.proofs.EffectsOfCalls.{streams_out, streams_cap, stops_out, stops_cap, rests_cap, sets_mark, starts}
use Rattle.vc_laws.proofs.EffectsOfEvents.{HasJob, Puts, puts_fault, puts_copy, puts_frame, puts_picture, puts_damage, Ends, alone, kept, ended, halts, spends}
use Rattle.vc_laws.proofs.EffectsOfEvents.{Returns, none_taken, given_back, probes, runs, Step, calls, rests, lacks_job, claims, finishes, faults, step_of}
use Rattle.vc_laws.proofs.OpenContextsAreTidy.{IsTidy, IsRunOf, HasRun, TidySlot, KindSlot, step_kind}
use Rattle.vc_laws.proofs.DoneInAStep.{Made, made_now, made_same, made_rest, made_none, made_more}
use Rattle.vc_laws.proofs.BuffersOfDecoderRuns.{retired_buffer, type_by_run, type_last_by_run, by_run_alone}
use Rattle.vc_laws.proofs.SegmentsGoOn.{goes_on, begins_anew, finished_segment, nothing_segment, always_holds}
use Rattle.vc_laws.proofs.RetiredAreFrames.{retired_are_frames}
use Rattle.vc_laws.proofs.DecoderFollows.{retired_are_results}

-- the buffers have the bytes of those that runs gave
AreFilled : List Buffer → Type 0
AreFilled bs = bytes_of bs ≡ bytes_of (by_runs bs)

flat_both : (xs ys : List Buffer) → bytes_of (xs ++ ys) ≡ bytes_of xs ++ bytes_of ys
flat_both xs ys = flat_map-append (λ (b : Buffer). b.bytes) xs ys

filled_both : (xs ys : List Buffer) → AreFilled xs → AreFilled ys → AreFilled (xs ++ ys)
unfolding AreFilled
filled_both xs ys h i =
    flat_both xs ys ∙ (ap (λ l. l ++ bytes_of ys) h ∙ (ap (λ l. bytes_of (by_runs xs) ++ l) i ∙ (sym (flat_both (by_runs xs) (by_runs ys)) ∙ ap bytes_of (sym (filter-append is_by_run xs ys)))))

filled_none : AreFilled []
unfolding AreFilled
filled_none = refl

-- an empty LAST buffer has no bytes, and one that a run gave has its own
filled_empty : (z : Buffer) → z.flags ≡ last_flag → z.bytes ≡ [] → AreFilled (z ∷ [])
unfolding AreFilled
filled_empty z f b =
    ap (λ l. l ++ []) b ∙ ap (λ n. bytes_of (cond (not (eqb n last_flag)) (z ∷ []) [])) (sym f)

filled_run : (z : Buffer) → eqb z.flags last_flag ≡ false → AreFilled (z ∷ [])
unfolding AreFilled
filled_run z e = ap bytes_of (sym (by_run_alone z e))

cap_none : (side : Side) → side ≡ Cap → known_bytes side last_flag [] ≡ []
cap_none side e = ap (λ s. known_bytes s last_flag []) e

-- Settling

settled_filled : (c x y : Context) (new : List Buffer) → Made c x new → AreFilled new → c.cap.next_seq ≤ x.cap.next_seq → x.cap.side ≡ Cap → Settles x y → AreFilled (done_now c y)
settled_filled c x y new m f l side still = subst AreFilled (sym (made_now c x new m)) f
settled_filled c x y new m f l side (owes p r) =
    subst AreFilled (sym (made_now c y new (record { front = m.front; is = m.is; old = m.old; fresh = m.fresh }))) f
settled_filled c x y new m f l side (gives cause b rest events r p) =
    let z : Buffer = record b { used = 0; bytes = known_bytes x.cap.side last_flag []; flags = last_flag; stamp = zero_stamp; seq = x.cap.next_seq } in
    subst AreFilled (sym (made_now c y (new ++ z ∷ []) (made_more c x y new z refl l m))) (filled_both new (z ∷ []) f (filled_empty z refl (cap_none x.cap.side side)))

-- Calls

FilledSlot : Context → Slot → Type 0
FilledSlot c None = Unit {0}
FilledSlot c (Some y) = AreFilled (done_now c y)

filled_is : (c y : Context) → FilledSlot c (Some y) → AreFilled (done_now c y)
unfolding FilledSlot
filled_is c y h = h

closed_filled : (c : Context) → FilledSlot c None
unfolding FilledSlot
closed_filled c = tt

made_filled : (c x : Context) → Made c x [] → FilledSlot c (Some x)
unfolding FilledSlot
made_filled c x m = subst AreFilled (sym (made_now c x [] m)) filled_none

then_filled : (c x y : Context) → x.cap.done ≡ c.cap.done → x.cap.next_seq ≡ c.cap.next_seq → x.cap.side ≡ Cap → IsTidy c → Settles x y → FilledSlot c (Some y)
unfolding FilledSlot
then_filled c x y d n side t s = settled_filled c x y [] (made_same c x d t) filled_none (omega arith) side s

effect_filled : (c : Context) {request : Call} {bytes : List ℕ} {reply : Reply} {slot : Slot} → c.cap.side ≡ Cap → IsTidy c → Effect c request bytes reply slot → FilledSlot c slot
effect_filled c side t (stays n) = made_filled c c (made_same c c refl t)
effect_filled c side t (closes n) = closed_filled c
effect_filled c side t (has_events events n) = made_filled c _ (made_same c _ refl t)
effect_filled c side t (has_rates rates) = made_filled c _ (made_same c _ refl t)
effect_filled c side t (has_out_format codec geometry o q k) = made_filled c _ (made_same c _ refl t)
effect_filled c side t (has_cap_format q) = made_filled c _ (made_same c _ refl t)
effect_filled c side t (has_out_buffers size codec geometry o k) = made_filled c _ (made_same c _ refl t)
effect_filled c side t (has_cap_buffers size o) = made_filled c _ (made_none c _ refl)
effect_filled c side t adds_out = made_filled c _ (made_same c _ refl t)
effect_filled c side t adds_cap = made_filled c _ (made_same c _ refl t)
effect_filled c side t (queues_out b e) = made_filled c _ (made_same c _ refl t)
effect_filled c side t (queues_cap b y e s) = then_filled c _ y refl refl side t s
effect_filled c side t (takes_out b rest d) = made_filled c _ (made_same c _ refl t)
effect_filled c side t (takes_cap b rest d n l) = made_filled c _ (made_rest c _ b rest d refl t)
effect_filled c side t (takes_last b cause mark d p m) = made_filled c _ (made_none c _ refl)
effect_filled c side t streams_out = made_filled c _ (made_same c _ refl t)
effect_filled c side t (streams_cap y s) = then_filled c _ y refl refl side t s
effect_filled c side t (stops_out codec n k) = made_filled c _ (made_same c _ refl t)
effect_filled c side t (stops_cap codec n o k) = made_filled c _ (made_none c _ refl)
effect_filled c side t (rests_cap n o) = made_filled c _ (made_none c _ refl)
effect_filled c side t (sets_mark y n i b m d s) = then_filled c _ y refl refl side t s
effect_filled c side t (starts y n i b e s) = then_filled c (record c { phase = run }) y refl refl side t s

-- Runs

-- a run that codes
Codes : Option RunResult → Type 0
Codes None = ⊥
Codes (Some (copied bytes)) = ⊥
Codes (Some (encoded frame)) = Unit {0}
Codes (Some (decoded step)) = Unit {0}

puts_filled :
    (c : Context) (j : JobData) (b : Buffer) (result : Option RunResult) (up : Bool) (flags cursor : ℕ) (codec : CodecState) (used : ℕ) (bytes : List ℕ) (dest_flags : ℕ) (stamp : Stamp)
    → Codes result → Puts c j b result up flags cursor codec used bytes dest_flags stamp
    → (eqb dest_flags last_flag ≡ false) × (eqb (dest_flags + last_flag) last_flag ≡ false)
unfolding Codes
puts_filled c j b result up flags cursor codec used bytes dest_flags stamp h (puts_fault k) = absurd h
puts_filled c j b result up flags cursor codec used bytes dest_flags stamp h (puts_copy xs k) = absurd h
puts_filled c j b result up flags cursor codec used bytes dest_flags stamp h (puts_frame frame k) =
    (type_by_run frame.key, type_last_by_run frame.key)
puts_filled c j b result up flags cursor codec used bytes dest_flags stamp h (puts_picture step r geometry key planes g k) =
    (type_by_run key, type_last_by_run key)
puts_filled c j b result up flags cursor codec used bytes dest_flags stamp h (puts_damage step r g k) = (refl, refl)

returned_cap : (q k : QueueState) → Returns q k → (k.done ≡ q.done) × (k.next_seq ≡ q.next_seq) × (k.side ≡ q.side)
returned_cap q k (none_taken j) = (refl, refl, refl)
returned_cap q k (given_back d j) = (refl, refl, refl)

put_filled :
    (c x y : Context) (z : Buffer) → eqb z.flags last_flag ≡ false → x.cap.done ≡ c.cap.done ++ z ∷ [] → z.seq ≡ c.cap.next_seq
    → x.cap.next_seq ≡ c.cap.next_seq + 1 → x.cap.side ≡ Cap → IsTidy c → Settles x y → AreFilled (done_now c y)
put_filled c x y z f d q n side t s =
    settled_filled c x y (z ∷ []) (made_more c c x [] z d (omega arith) (made_same c c refl t)) (filled_run z f) (omega arith) side s

ended_filled : (c : Context) (j : JobData) (b : Buffer) {result : Option RunResult} (x y : Context) → Codes result → c.cap.side ≡ Cap → IsTidy c → Ends c j b result x → Settles x y → AreFilled (done_now c y)
ended_filled c j b x y h side t (alone up flags cursor codec used bytes dest_flags stamp p k) s =
    filled_is c y (then_filled c x y refl refl side t s)
ended_filled c j b {result = result} x y h side t (kept up flags cursor codec used bytes dest_flags stamp d p k) s =
    put_filled c x y (retired_buffer c d used bytes dest_flags stamp) (puts_filled c j b result up flags cursor codec used bytes dest_flags stamp h p).0 refl refl refl side t s
ended_filled c j b {result = result} x y h side t (ended flags cursor codec used bytes dest_flags stamp d up p u k m) s =
    put_filled c x y (retired_buffer c d used bytes (dest_flags + last_flag) stamp) (puts_filled c j b result up flags cursor codec used bytes dest_flags stamp h p).1 refl refl refl side t s
ended_filled c j b x y h side t (halts step r geometry k phase events g q back p) s =
    let d = returned_cap c.cap k back in filled_is c y (then_filled c x y d.0 d.1 (d.2 ∙ side) t s)
ended_filled c j b x y h side t (spends step k g back) s =
    let d = returned_cap c.cap k back in filled_is c y (then_filled c x y d.0 d.1 (d.2 ∙ side) t s)

-- every run of an encoder or a decoder codes
IsCodec : Kind → Type 0
IsCodec Copy = ⊥
IsCodec Enc = Unit {0}
IsCodec Dec = Unit {0}

codes_by : (coder : Coder) (j : JobData) (kind : Kind) (geometry : Option Geometry) (codec : CodecState) → IsCodec kind → HasCodec kind codec → j.sort ≡ sort_of kind geometry → j.codec ≡ codec → Codes (Some (run_result coder j))
unfolding run_result Codes IsCodec
codes_by coder j Copy geometry codec i h s e = absurd i
codes_by coder j Enc geometry no_codec i h s e = absurd h
codes_by coder j Enc geometry (decoder state) i h s e = absurd h
codes_by coder j Enc geometry (encoder state) i h s e =
    subst (λ r. Codes (Some r)) (sym (ap (run_of coder j) s ∙ ap (encode_run coder j) e)) tt
codes_by coder j Dec geometry no_codec i h s e = absurd h
codes_by coder j Dec geometry (encoder state) i h s e = absurd h
codes_by coder j Dec None (decoder state) i h s e =
    subst (λ r. Codes (Some r)) (sym (ap (run_of coder j) s ∙ ap (decode_run coder j) e)) tt
codes_by coder j Dec (Some geometry) (decoder state) i h s e =
    subst (λ r. Codes (Some r)) (sym (ap (run_of coder j) s ∙ ap (decode_run coder j) e)) tt

-- Steps

FilledAt : Slot → Segment → Type 0
FilledAt None seg = Unit {0}
FilledAt (Some c) seg = IsCodec c.kind → AreFilled seg.retired

are_filled : (c : Context) (seg : Segment) → AreFilled seg.retired → FilledAt (Some c) seg
unfolding FilledAt
are_filled c seg w k = w

call_filled :
    (coder : Coder) (seg : Segment) (c y : Context) (request : Call) (bytes : List ℕ) (found : Bool) (reply : Reply) (handed : List ℕ)
    → AreFilled (done_now c y) → AreFilled seg.retired → (b : Bool) → call_resets c request reply ≡ b
    → AreFilled (segment_of_step coder seg c y (Called request bytes found) (Answered reply handed)).retired
call_filled coder seg c y request bytes found reply handed e w true r =
    subst (λ z. AreFilled z.retired) (sym (begins_anew coder seg c y request bytes found reply handed r)) filled_none
call_filled coder seg c y request bytes found reply handed e w false r =
    subst (λ z. AreFilled z.retired) (sym (goes_on coder seg c y request bytes found reply handed (call_adds c y request reply) r refl)) (filled_both seg.retired (done_now c y) w e)

slot_filled :
    (coder : Coder) (seg : Segment) (c : Context) (request : Call) (bytes : List ℕ) (found : Bool) (reply : Reply) (handed : List ℕ) (slot : Slot)
    → FilledSlot c slot → AreFilled seg.retired
    → FilledAt slot (segment_of_slots coder seg (Some c) slot (Called request bytes found) (Answered reply handed))
unfolding FilledAt
slot_filled coder seg c request bytes found reply handed None n w = tt
slot_filled coder seg c request bytes found reply handed (Some y) n w =
    λ k. call_filled coder seg c y request bytes found reply handed (filled_is c y n) w (call_resets c request reply) refl

run_keeps : (seg : Segment) (r : Running) (j : JobData) (result : RunResult) → (after_run seg r j result).retired ≡ seg.retired
run_keeps seg r j (copied bytes) = refl
run_keeps seg r j (encoded frame) = refl
run_keeps seg r j (decoded step) = refl

finish_filled :
    (coder : Coder) (seg : Segment) (c : Context) (r : Running) (job : HasJob c r) (x y : Context) (word : List ℕ) → IsOrdered c → IsTidy c
    → IsCodec c.kind → AreFilled seg.retired → Ends c (job_data c r) job.source (Some (run_result coder (job_data c r))) x → Settles x y
    → AreFilled (segment_of_step coder seg c y (Finishes false) (Finished word)).retired
finish_filled coder seg c r job x y word s t k w ends u =
    let run : IsRunOf c r = subst (HasRun c) job.running t.run in
    let codes = codes_by coder (job_data c r) c.kind c.geometry c.codec k s.firm.has_codec run.sort refl in
    let here = ended_filled c (job_data c r) job.source x y codes s.firm.cap_side t ends u in
    let all : AreFilled ((after_run seg r (job_data c r) (run_result coder (job_data c r))).retired ++ done_now c y) =
    subst (λ l. AreFilled (l ++ done_now c y)) (sym (run_keeps seg r (job_data c r) (run_result coder (job_data c r)))) (filled_both seg.retired (done_now c y) w here) in
    subst (λ z. AreFilled z.retired) (sym (finished_segment coder seg c y r word job.running)) all

quiet_filled : (seg : Segment) (c y : Context) → y.cap.done ≡ c.cap.done → IsTidy c → AreFilled seg.retired → AreFilled (seg.retired ++ done_now c y)
quiet_filled seg c y d t w = filled_both seg.retired (done_now c y) w (filled_is c y (made_filled c y (made_same c y d t)))

claims_filled :
    (coder : Coder) (seg : Segment) (c : Context) (b : Buffer) (rest : List Buffer) (z : QueueState) → z.done ≡ c.cap.done → IsTidy c
    → AreFilled seg.retired
    → FilledAt (Some (record c { out = lend_front c.out (b ∷ rest); cap = z; running = Some (running_of c (sort_of c.kind c.geometry)) }))
    (segment_of_step coder seg c (record c { out = lend_front c.out (b ∷ rest); cap = z; running = Some (running_of c (sort_of c.kind c.geometry)) }) Claims Claimed)
claims_filled coder seg c b rest z d t w =
    let y = record c { out = lend_front c.out (b ∷ rest); cap = z; running = Some (running_of c (sort_of c.kind c.geometry)) } in
    are_filled y _ (quiet_filled seg c y d t w)

step_filled :
    (coder : Coder) (seg : Segment) (c : Context) {e : SoloEvent} {told : SoloReply} {slot : Slot} → IsOrdered c → IsTidy c → IsCodec c.kind
    → AreFilled seg.retired → Step coder c e told slot → FilledAt slot (segment_of_slots coder seg (Some c) slot e told)
step_filled coder seg c s t k w (calls {request = request} {bytes = bytes} {found = found} {reply = reply} {handed = handed} {slot = slot} f) =
    slot_filled coder seg c request bytes found reply handed slot (effect_filled c s.firm.cap_side t f) w
step_filled coder seg c s t k w rests = are_filled c _ (quiet_filled seg c c refl t w)
step_filled coder seg c s t k w (lacks_job {fault = fault} o) =
    are_filled c _ (subst (λ z. AreFilled z.retired) (sym (nothing_segment coder seg c fault o)) (quiet_filled seg c c refl t w))
step_filled coder seg c s t k w (claims b rest z e o j i p d (probes q)) = claims_filled coder seg c b rest z refl t w
step_filled coder seg c s t k w (claims b rest z e o j i p d (runs x xs n m q)) =
    claims_filled coder seg c b rest z refl t w
step_filled coder seg c s t k w (finishes {word = word} r x y job ends u v) =
    are_filled y _ (finish_filled coder seg c r job x y word s t k w ends u)
step_filled coder seg c s t k w (faults {word = word} r x y job ends u) = are_filled y _ filled_none

-- Slots

open_filled :
    (coder : Coder) (seg : Segment) (request : Call) (bytes : List ℕ) (found : Bool)
    → FilledAt (closed_answer request found).slot
    (segment_of_slots coder seg None (closed_answer request found).slot (Called request bytes found) (Answered (closed_answer request found).reply (closed_answer request found).bytes))
unfolding closed_answer FilledAt
open_filled coder seg (Open kind) bytes true = λ k. filled_none
open_filled coder seg (Open kind) bytes false = tt
open_filled coder seg request bytes found = tt

of_codecs : (c : Context) (slot : Slot) (seg : Segment) → KindSlot c slot → (IsCodec c.kind → FilledAt slot seg) → FilledAt slot seg
unfolding FilledAt KindSlot
of_codecs c None seg k f = tt
of_codecs c (Some y) seg k f = λ q. f (subst IsCodec k q) q

step_slot :
    (coder : Coder) (seg : Segment) (s : Slot) (e : SoloEvent) → IsOrderedSlot s → TidySlot s → FilledAt s seg
    → FilledAt (solo_step coder s e).slot (segment_of_slots coder seg s (solo_step coder s e).slot e (solo_step coder s e).told)
unfolding solo_step answer FilledAt
step_slot coder seg None (Called request bytes found) h t w = open_filled coder seg request bytes found
step_slot coder seg None Claims h t w = tt
step_slot coder seg None (Finishes fault) h t w = tt
step_slot coder seg (Some c) (Called request bytes found) h t w =
    let q = step_of coder c (Called request bytes found) h in
    of_codecs c _ _ (step_kind coder c q) (λ k. step_filled coder seg c h t k (w k) q)
step_slot coder seg (Some c) Claims h t w =
    let q = step_of coder c Claims h in of_codecs c _ _ (step_kind coder c q) (λ k. step_filled coder seg c h t k (w k) q)
step_slot coder seg (Some c) (Finishes fault) h t w =
    let q = step_of coder c (Finishes fault) h in
    of_codecs c _ _ (step_kind coder c q) (λ k. step_filled coder seg c h t k (w k) q)

segment_filled : (coder : Coder) (seg : Segment) (s : Slot) (e : SoloEvent) → IsOrderedSlot s → TidySlot s → FilledAt s seg → FilledAt (solo_step coder s e).slot (segment_step coder seg s e)
unfolding segment_step
segment_filled coder seg s e h t w = step_slot coder seg s e h t w

always_filled : (coder : Coder) (events : List SoloEvent) → FilledAt (solo_slot coder None events) (segment_of coder events)
unfolding FilledAt
always_filled coder events =
    always_holds coder (λ seg s. FilledAt s seg) (segment_filled coder) (fresh_segment []) None events tt tt tt

filled_for : (coder : Coder) (events : List SoloEvent) (c : Context) → solo_slot coder None events ≡ Some c → IsCodec c.kind → AreFilled (segment_of coder events).retired
unfolding FilledAt
filled_for coder events c at k = subst (λ z. FilledAt z (segment_of coder events)) at (always_filled coder events) k

-- The laws

frame_bytes : (ps : List EncodedPicture) (bs : List Buffer) → FrameForFrame ps bs → bytes_of bs ≡ flat_map (λ (p : EncodedPicture). p.frame) ps
frame_bytes [] [] h = refl
frame_bytes [] (b ∷ bs) h = absurd h
frame_bytes (p ∷ ps) [] h = absurd h
frame_bytes (p ∷ ps) (b ∷ bs) h = ap (λ l. l ++ bytes_of bs) h.0.0 ∙ ap (λ l. p.frame ++ l) (frame_bytes ps bs h.1)

pub frames_are_handed_out : FramesAreHandedOut
unfolding AreFilled IsCodec
frames_are_handed_out coder events c at k =
    let seg = segment_of coder events in
    filled_for coder events c at (subst IsCodec (sym k) tt) ∙ frame_bytes seg.pictures (by_runs seg.retired) (retired_are_frames coder events c at k)

kind_bytes : (x : SegmentResult) (b : Buffer) (kind : ResultKind) → HoldsKind x b kind → b.bytes ≡ bytes_of_kind x.fourcc kind
kind_bytes x b (Picture geometry key planes) h = h.0
kind_bytes x b Damaged h = h.0
kind_bytes x b (Changed geometry) h = absurd h

result_bytes : (xs : List SegmentResult) (bs : List Buffer) → OneForOne xs bs → bytes_of bs ≡ flat_map bytes_of_result xs
result_bytes [] [] h = refl
result_bytes [] (b ∷ bs) h = absurd h
result_bytes (x ∷ xs) [] h = absurd h
result_bytes (x ∷ xs) (b ∷ bs) h =
    ap (λ l. l ++ bytes_of bs) (kind_bytes x b x.what.kind h.0.1) ∙ ap (λ l. bytes_of_result x ++ l) (result_bytes xs bs h.1)

-- a change has no bytes
change_bytes :
    (x : SegmentResult) (xs : List SegmentResult) (kind : ResultKind) → x.what.kind ≡ kind
    → flat_map bytes_of_result (in_buffers xs) ≡ flat_map bytes_of_result xs
    → flat_map bytes_of_result (cond (not (is_change_result kind)) (x ∷ in_buffers xs) (in_buffers xs)) ≡ bytes_of_kind x.fourcc kind ++ flat_map bytes_of_result xs
change_bytes x xs (Picture geometry key planes) e h =
    ap (λ k. bytes_of_kind x.fourcc k ++ flat_map bytes_of_result (in_buffers xs)) e ∙ ap (λ l. bytes_of_kind x.fourcc (Picture geometry key planes) ++ l) h
change_bytes x xs Damaged e h =
    ap (λ k. bytes_of_kind x.fourcc k ++ flat_map bytes_of_result (in_buffers xs)) e ∙ h
change_bytes x xs (Changed geometry) e h = h

buffer_bytes : (xs : List SegmentResult) → flat_map bytes_of_result (in_buffers xs) ≡ flat_map bytes_of_result xs
buffer_bytes [] = refl
buffer_bytes (x ∷ xs) = change_bytes x xs x.what.kind refl (buffer_bytes xs)

pub pictures_are_handed_out : PicturesAreHandedOut
unfolding AreFilled IsCodec
pictures_are_handed_out events c at k =
    let seg = segment_of the_coder events in
    filled_for the_coder events c at (subst IsCodec (sym k) tt) ∙ (result_bytes (in_buffers seg.results) (by_runs seg.retired) (retired_are_results events c at k) ∙ buffer_bytes seg.results)
