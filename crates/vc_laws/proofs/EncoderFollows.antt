-- The frames of an encoder's segment are those of the sequential encoder for the pictures that its runs consumed. The
-- codec state after so many pictures is the sequential encoder's, each run encodes the next picture from it, and what
-- resets the state begins a segment.
use Rattle.std.proofs.Common.{ℕ, ◌≡◌, Bool, true, false, cond, ◌||◌, Option, Some, None, List, [], ◌∷◌, ◌++◌, map, refl, sym, ap, ◌∙◌, subst}
use Rattle.std.specs.List.{All}
use Rattle.std.proofs.lemmas.List.{map-append}
use Rattle.std.proofs.lemmas.List.Elements.{All-nil, All-push}
use Rattle.vc_base.specs.declared.Stamp.{Stamp}
use Rattle.vc_base.specs.declared.Format.{Format}
use Rattle.vc_base.specs.declared.Kind.TheVariants.{Copy, Enc, Dec}
use Rattle.vc_base.specs.declared.Call.{Call}
use Rattle.vc_base.specs.declared.Call.TheVariants.{Open}
use Rattle.vc_base.specs.declared.Reply.{Reply}
use Rattle.vc_base.specs.Buffers.{Buffer}
use Rattle.vc_defs.specs.declared.Geometry.{Geometry}
use Rattle.vc_defs.specs.Encoder.{RunRates, EncoderState, fresh_encoder, Encoded, encoded_bytes, next_encoded, encoder_after, encoded_after, EncodedFrame, encode}
use Rattle.vc_defs.specs.Encoder.{encoded as all_encoded}
use Rattle.vc_defs.specs.Raw.{geometry_of}
use Rattle.vc_model.specs.Coder.{CodecState, encoder, reset, the_coder}
use Rattle.vc_model.specs.Context.{Context, Slot, Running, fresh_context, is_dec, is_enc}
use Rattle.vc_model.specs.Answer.{answer, closed_answer}
use Rattle.vc_model.specs.Runs.{sort_of, source_of, JobData, job_data, RunResult, encoded, run_result, run_of, encode_run}
use Rattle.vc_model.specs.Solo.{SoloEvent, Called, Claims, Finishes, SoloReply, Answered, Finished, solo_step, solo_slot}
use Rattle.vc_model.specs.Sound.{IsOrderedSlot}
use Rattle.vc_laws.specs.Segments.{EncodedPicture, Segment, fresh_segment, call_resets, call_adds, after_run, segment_of_step, segment_of_slots, segment_step, segment_of}
use Rattle.vc_laws.specs.Following.{coded_picture, EncoderFollows}
use Rattle.vc_laws.proofs.EffectsOfCalls.{CodecAfterFormat, CodecAfterBuffers, CodecAfterOutput, CodecAfterCapture, Settles, still, owes, gives, Effect, stays}
use Rattle.vc_laws.proofs.EffectsOfCalls.{closes, has_events, has_rates, has_out_format, has_cap_format, has_out_buffers, has_cap_buffers, adds_out, adds_cap}
use Rattle.vc_laws.proofs.EffectsOfCalls.{queues_out, queues_cap, takes_out, takes_cap, takes_last, streams_out, streams_cap, stops_out, stops_cap, rests_cap}
use Rattle.vc_laws.proofs.EffectsOfCalls.{sets_mark, starts}
use Rattle.vc_laws.proofs.EffectsOfEvents.{HasJob, Puts, puts_fault, puts_copy, puts_frame, puts_picture, puts_damage, Ends, alone, kept, ended, halts, spends, Step, calls, rests, lacks_job, claims, finishes, faults, step_of}
use Rattle.vc_laws.proofs.OpenContextsAreTidy.{IsTidy, IsRunOf, HasRun, TidySlot, KindSlot, step_kind, same_out_format}
use Rattle.vc_laws.proofs.SegmentsGoOn.{goes_on, begins_anew, finished_segment, nothing_segment, always_holds}

-- The sequential encoder, one picture more

pub state_after : Geometry → EncoderState → List (List (List ℕ) × RunRates) → EncoderState
state_after g s [] = s
state_after g s (p ∷ ps) = state_after g (encoder_after s (next_encoded g s p.0 p.1)) ps

encoded_more : (g : Geometry) (s : EncoderState) (ps : List (List (List ℕ) × RunRates)) (p : List (List ℕ) × RunRates) → encoded_after g s (ps ++ p ∷ []) ≡ encoded_after g s ps ++ next_encoded g (state_after g s ps) p.0 p.1 ∷ []
unfolding state_after
encoded_more g s [] p = refl
encoded_more g s (q ∷ ps) p =
    let e = next_encoded g s q.0 q.1 in ap (λ l. e ∷ l) (encoded_more g (encoder_after s e) ps p)

state_more : (g : Geometry) (s : EncoderState) (ps : List (List (List ℕ) × RunRates)) (p : List (List ℕ) × RunRates) → state_after g s (ps ++ p ∷ []) ≡ encoder_after (state_after g s ps) (next_encoded g (state_after g s ps) p.0 p.1)
unfolding state_after
state_more g s [] p = refl
state_more g s (q ∷ ps) p = state_more g (encoder_after s (next_encoded g s q.0 q.1)) ps p

-- The pictures of a segment so far, their frames, and the state that stands there

abbrev pub state_of : List EncodedPicture → Format → EncoderState
state_of pictures format = state_after (geometry_of format) fresh_encoder (map coded_picture pictures)

abbrev pub frames_so_far : List EncodedPicture → Format → List Encoded
frames_so_far pictures format = encoded_after (geometry_of format) fresh_encoder (map coded_picture pictures)

pub record AreEncoded (pictures : List EncodedPicture) (format : Format) (codec : CodecState) : Type 0 where
  pub formats : All (λ (p : EncodedPicture). p.format ≡ format) pictures
  pub frames : map (λ (p : EncodedPicture). p.frame) pictures ≡ map encoded_bytes (frames_so_far pictures format)
  pub keys : map (λ (p : EncodedPicture). p.key) pictures ≡ map (λ (e : Encoded). e.header.key) (frames_so_far pictures format)
  pub state : codec ≡ encoder (state_of pictures format)

none_encoded : (format : Format) (codec : CodecState) → codec ≡ encoder fresh_encoder → AreEncoded [] format codec
unfolding state_after
none_encoded format codec e = record { formats = All-nil (λ (p : EncodedPicture). p.format ≡ format); frames = refl; keys = refl; state = e }

-- one picture more, which has the format
more_encoded :
    (pictures : List EncodedPicture) (format : Format) (codec : CodecState) (bytes : List ℕ) (rates : RunRates) (stamp : Stamp)
    → AreEncoded pictures format codec
    → let f = encode (state_of pictures format) format rates bytes in
    AreEncoded (pictures ++ record { bytes = bytes; format = format; rates = rates; stamp = stamp; frame = f.bytes; key = f.key } ∷ []) format (encoder f.state)
unfolding encode
more_encoded pictures format codec bytes rates stamp h =
    let s = state_of pictures format in
    let f = encode s format rates bytes in
    let p : EncodedPicture = record { bytes = bytes; format = format; rates = rates; stamp = stamp; frame = f.bytes; key = f.key } in
    let e = next_encoded (geometry_of format) s (coded_picture p).0 (coded_picture p).1 in
    let more : frames_so_far (pictures ++ p ∷ []) format ≡ frames_so_far pictures format ++ e ∷ [] =
    ap (λ l. encoded_after (geometry_of format) fresh_encoder l) (map-append coded_picture pictures (p ∷ []))
    ∙ encoded_more (geometry_of format) fresh_encoder (map coded_picture pictures) (coded_picture p) in
    record {
      formats = All-push (λ (q : EncodedPicture). q.format ≡ format) pictures p h.formats refl;
      frames = map-append (λ (q : EncodedPicture). q.frame) pictures (p ∷ []) ∙ (ap (λ l. l ++ f.bytes ∷ []) h.frames ∙ (sym (map-append encoded_bytes (frames_so_far pictures format) (e ∷ [])) ∙ ap (λ l. map encoded_bytes l) (sym more)));
      keys =
          map-append (λ (q : EncodedPicture). q.key) pictures (p ∷ [])
          ∙ (ap (λ l. l ++ f.key ∷ []) h.keys
          ∙ (sym (map-append (λ (q : Encoded). q.header.key) (frames_so_far pictures format) (e ∷ [])) ∙ ap (λ l. map (λ (q : Encoded). q.header.key) l) (sym more)));
      state =
          ap (λ t. encoder t)
          (sym
          (ap (λ l. state_after (geometry_of format) fresh_encoder l) (map-append coded_picture pictures (p ∷ []))
          ∙ state_more (geometry_of format) fresh_encoder (map coded_picture pictures) (coded_picture p)));
    }

-- Steps of an encoder

abbrev pub IsEncoder : Segment → Context → Type 0
IsEncoder seg c = AreEncoded seg.pictures c.formats.out c.codec

pub EncoderAt : Slot → Segment → Type 0
EncoderAt None seg = Unit {0}
EncoderAt (Some c) seg = c.kind ≡ Enc → IsEncoder seg c

is_encoder : (c : Context) (seg : Segment) → IsEncoder seg c → EncoderAt (Some c) seg
unfolding EncoderAt
is_encoder c seg w k = w

closed_encoder : (seg : Segment) → EncoderAt None seg
unfolding EncoderAt
closed_encoder seg = tt

called_encoder :
    (seg : Segment) (c y : Context) (request : Call) (bytes : List ℕ) (found : Bool) (reply : Reply) (handed : List ℕ)
    → call_resets c request reply ≡ false → y.formats.out ≡ c.formats.out → y.codec ≡ c.codec → IsEncoder seg c
    → EncoderAt (Some y) (segment_of_step the_coder seg c y (Called request bytes found) (Answered reply handed))
called_encoder seg c y request bytes found reply handed r f e w =
    is_encoder y _
    (subst (λ s. IsEncoder s y) (sym (goes_on the_coder seg c y request bytes found reply handed (call_adds c y request reply) r refl))
    (subst (λ z. AreEncoded seg.pictures z y.codec) (sym f) (subst (λ z. AreEncoded seg.pictures c.formats.out z) (sym e) w)))

anew_encoder :
    (seg : Segment) (c y : Context) (request : Call) (bytes : List ℕ) (found : Bool) (reply : Reply) (handed : List ℕ)
    → call_resets c request reply ≡ true → y.codec ≡ encoder fresh_encoder
    → EncoderAt (Some y) (segment_of_step the_coder seg c y (Called request bytes found) (Answered reply handed))
anew_encoder seg c y request bytes found reply handed r e =
    is_encoder y _ (subst (λ s. IsEncoder s y) (sym (begins_anew the_coder seg c y request bytes found reply handed r)) (none_encoded y.formats.out y.codec e))

settled_encoder : (x y : Context) → Settles x y → (y.formats ≡ x.formats) × (y.codec ≡ x.codec)
settled_encoder x y still = (refl, refl)
settled_encoder x y (owes p r) = (refl, refl)
settled_encoder x y (gives cause b rest events r p) = (refl, refl)

-- the resets of an encoder
reset_is : (c : Context) (seg : Segment) (codec : CodecState) → codec ≡ reset c.codec → IsEncoder seg c → codec ≡ encoder fresh_encoder
reset_is c seg codec e w = e ∙ ap reset w.state

format_reset : (c : Context) (seg : Segment) (codec : CodecState) (geometry : Option Geometry) → c.kind ≡ Enc → CodecAfterFormat c.kind c.codec codec c.geometry geometry → IsEncoder seg c → codec ≡ encoder fresh_encoder
format_reset c seg codec geometry k p w =
    reset_is c seg codec (subst (λ q. CodecAfterFormat q c.codec codec c.geometry geometry) k p).0 w

buffers_reset : (c : Context) (seg : Segment) (codec : CodecState) (geometry : Option Geometry) → c.kind ≡ Enc → CodecAfterBuffers c.kind c.codec codec c.geometry geometry → IsEncoder seg c → codec ≡ encoder fresh_encoder
buffers_reset c seg codec geometry k p w =
    reset_is c seg codec (subst (λ q. CodecAfterBuffers q c.codec codec c.geometry geometry) k p).0 w

effect_encoder :
    (seg : Segment) (c : Context) {request : Call} {bytes : List ℕ} {reply : Reply} {slot : Slot} (found : Bool) (handed : List ℕ) → c.kind ≡ Enc
    → IsEncoder seg c → Effect c request bytes reply slot
    → EncoderAt slot (segment_of_slots the_coder seg (Some c) slot (Called request bytes found) (Answered reply handed))
effect_encoder seg c {request = request} {bytes = bytes} {reply = reply} found handed k w (stays p) =
    called_encoder seg c c request bytes found reply handed p.no_reset refl refl w
effect_encoder seg c found handed k w (closes p) = closed_encoder _
effect_encoder seg c {request = request} {bytes = bytes} {reply = reply} found handed k w (has_events events p) =
    called_encoder seg c (record c { events = events }) request bytes found reply handed p.no_reset refl refl w
effect_encoder seg c {request = request} {bytes = bytes} {reply = reply} found handed k w (has_rates rates) =
    called_encoder seg c (record c { rates = rates }) request bytes found reply handed refl refl refl w
effect_encoder seg c {request = request} {bytes = bytes} {reply = reply} found handed k w (has_out_format codec geometry a q p) =
    anew_encoder seg c _ request bytes found reply handed (ap is_enc k) (format_reset c seg codec geometry k p w)
effect_encoder seg c {request = request} {bytes = bytes} {reply = reply} found handed k w (has_cap_format {want = want} q) =
    called_encoder seg c _ request bytes found reply handed refl (same_out_format c.kind c.formats want) refl w
effect_encoder seg c {request = request} {bytes = bytes} {reply = reply} found handed k w (has_out_buffers size codec geometry o p) =
    anew_encoder seg c _ request bytes found reply handed (ap (λ t. is_dec t || is_enc t) k) (buffers_reset c seg codec geometry k p w)
effect_encoder seg c {request = request} {bytes = bytes} {reply = reply} found handed k w (has_cap_buffers size o) =
    called_encoder seg c _ request bytes found reply handed refl refl refl w
effect_encoder seg c {request = request} {bytes = bytes} {reply = reply} found handed k w adds_out =
    called_encoder seg c _ request bytes found reply handed refl refl refl w
effect_encoder seg c {request = request} {bytes = bytes} {reply = reply} found handed k w adds_cap =
    called_encoder seg c _ request bytes found reply handed refl refl refl w
effect_encoder seg c {request = request} {bytes = bytes} {reply = reply} found handed k w (queues_out b e) =
    called_encoder seg c _ request bytes found reply handed refl refl refl w
effect_encoder seg c {request = request} {bytes = bytes} {reply = reply} found handed k w (queues_cap b y e u) =
    let t = settled_encoder _ y u in called_encoder seg c y request bytes found reply handed refl (ap (λ f. f.out) t.0) t.1 w
effect_encoder seg c {request = request} {bytes = bytes} {reply = reply} found handed k w (takes_out b rest e) =
    called_encoder seg c _ request bytes found reply handed refl refl refl w
effect_encoder seg c {request = request} {bytes = bytes} {reply = reply} found handed k w (takes_cap b rest e p l) =
    called_encoder seg c _ request bytes found reply handed refl refl refl w
effect_encoder seg c {request = request} {bytes = bytes} {reply = reply} found handed k w (takes_last b cause mark e p m) =
    called_encoder seg c _ request bytes found reply handed refl refl refl w
effect_encoder seg c {request = request} {bytes = bytes} {reply = reply} found handed k w streams_out =
    called_encoder seg c _ request bytes found reply handed refl refl refl w
effect_encoder seg c {request = request} {bytes = bytes} {reply = reply} found handed k w (streams_cap y u) =
    let t = settled_encoder _ y u in called_encoder seg c y request bytes found reply handed refl (ap (λ f. f.out) t.0) t.1 w
effect_encoder seg c {request = request} {bytes = bytes} {reply = reply} found handed k w (stops_out codec r p) =
    called_encoder seg c _ request bytes found reply handed (ap is_dec k) refl (subst (λ q. CodecAfterOutput q c.codec codec) k p) w
effect_encoder seg c {request = request} {bytes = bytes} {reply = reply} found handed k w (stops_cap codec r o p) =
    anew_encoder seg c _ request bytes found reply handed (ap (λ t. cond (is_enc t) c.cap.streams false) k ∙ o) (reset_is c seg codec (subst (λ q. CodecAfterCapture q c.codec codec) k p) w)
effect_encoder seg c {request = request} {bytes = bytes} {reply = reply} found handed k w (rests_cap r o) =
    called_encoder seg c _ request bytes found reply handed (ap (λ t. cond (is_enc t) c.cap.streams false) k ∙ o) refl refl w
effect_encoder seg c {request = request} {bytes = bytes} {reply = reply} found handed k w (sets_mark y p i b m d u) =
    let t = settled_encoder _ y u in called_encoder seg c y request bytes found reply handed p.no_reset (ap (λ f. f.out) t.0) t.1 w
effect_encoder seg c {request = request} {bytes = bytes} {reply = reply} found handed k w (starts y p i b e u) =
    let t = settled_encoder _ y u in called_encoder seg c y request bytes found reply handed p.no_reset (ap (λ f. f.out) t.0) t.1 w

-- Runs of an encoder

-- the run of an encoder is one of the codec, from the state that stands there
encoder_runs : (c : Context) (r : Running) (state : EncoderState) → c.kind ≡ Enc → IsRunOf c r → c.codec ≡ encoder state → run_result the_coder (job_data c r) ≡ encoded (encode state r.format r.rates (source_of c.out.job).bytes)
unfolding run_result
encoder_runs c r state k t e =
    ap (run_of the_coder (job_data c r)) (t.sort ∙ ap (λ q. sort_of q c.geometry) k) ∙ ap (encode_run the_coder (job_data c r)) e

puts_codec :
    (c : Context) (j : JobData) (b : Buffer) (f : EncodedFrame) (result : Option RunResult) (up : Bool) (flags cursor : ℕ) (codec : CodecState)
    (used : ℕ) (bytes : List ℕ) (dest_flags : ℕ) (stamp : Stamp)
    → result ≡ Some (encoded f) → Puts c j b result up flags cursor codec used bytes dest_flags stamp → codec ≡ encoder f.state
puts_codec c j b f result up flags cursor codec used bytes dest_flags stamp e (puts_fault k) = absurd (cc)
puts_codec c j b f result up flags cursor codec used bytes dest_flags stamp e (puts_copy xs k) = absurd (cc)
puts_codec c j b f result up flags cursor codec used bytes dest_flags stamp e (puts_frame frame k) =
    ap (λ t. encoder t.state) (let q : frame ≡ f = cc in q)
puts_codec c j b f result up flags cursor codec used bytes dest_flags stamp e (puts_picture step r geometry key planes g k) = absurd (cc)
puts_codec c j b f result up flags cursor codec used bytes dest_flags stamp e (puts_damage step r g k) = absurd (cc)

ended_codec : (c : Context) (j : JobData) (b : Buffer) (f : EncodedFrame) {result : Option RunResult} (x : Context) → result ≡ Some (encoded f) → Ends c j b result x → (x.formats ≡ c.formats) × (x.codec ≡ encoder f.state)
ended_codec c j b f {result = result} x e (alone up flags cursor codec used bytes dest_flags stamp p n) =
    (refl, puts_codec c j b f result up flags cursor codec used bytes dest_flags stamp e p)
ended_codec c j b f {result = result} x e (kept up flags cursor codec used bytes dest_flags stamp d p n) =
    (refl, puts_codec c j b f result up flags cursor codec used bytes dest_flags stamp e p)
ended_codec c j b f {result = result} x e (ended flags cursor codec used bytes dest_flags stamp d up p u n m) =
    (refl, puts_codec c j b f result up flags cursor codec used bytes dest_flags stamp e p)
ended_codec c j b f x e (halts step r geometry k phase events g q back p) = absurd (cc)
ended_codec c j b f x e (spends step k g back) = absurd (cc)

finish_encoder :
    (seg : Segment) (c : Context) (r : Running) (job : HasJob c r) (x y : Context) (word : List ℕ) → IsTidy c → c.kind ≡ Enc → IsEncoder seg c
    → Ends c (job_data c r) job.source (Some (run_result the_coder (job_data c r))) x → Settles x y
    → IsEncoder (segment_of_step the_coder seg c y (Finishes false) (Finished word)) y
finish_encoder seg c r job x y word t k w ends u =
    let run : IsRunOf c r = subst (HasRun c) job.running t.run in
    let state = state_of seg.pictures c.formats.out in
    let source = source_of c.out.job in
    let result = encoder_runs c r state k run w.state in
    let f = encode state r.format r.rates source.bytes in
    let is = run.format (ap is_enc k) in
    let g = encode state c.formats.out r.rates source.bytes in
    let same : f ≡ g = ap (λ z. encode state z r.rates source.bytes) is in
    let after = ended_codec c (job_data c r) job.source f x (ap (λ o. Some o) result) ends in
    let settled = settled_encoder x y u in
    let picture : EncodedPicture = record { bytes = source.bytes; format = r.format; rates = r.rates; stamp = source.stamp; frame = f.bytes; key = f.key } in
    let wanted : EncodedPicture = record { bytes = source.bytes; format = c.formats.out; rates = r.rates; stamp = source.stamp; frame = g.bytes; key = g.key } in
    let like : picture ≡ wanted = ap (λ z. let h = encode state z r.rates source.bytes in record { bytes = source.bytes; format = z; rates = r.rates; stamp = source.stamp; frame = h.bytes; key = h.key }) is in
    let new : AreEncoded (seg.pictures ++ wanted ∷ []) c.formats.out (encoder g.state) = more_encoded seg.pictures c.formats.out c.codec source.bytes r.rates source.stamp w in
    let formats : AreEncoded (seg.pictures ++ wanted ∷ []) y.formats.out (encoder g.state) = subst (λ z. AreEncoded (seg.pictures ++ wanted ∷ []) z (encoder g.state)) (sym (ap (λ z. z.out) (settled.0 ∙ after.0))) new in
    let codec : AreEncoded (seg.pictures ++ wanted ∷ []) y.formats.out y.codec = subst (AreEncoded (seg.pictures ++ wanted ∷ []) y.formats.out) (sym (settled.1 ∙ (after.1 ∙ ap (λ z. encoder z.state) same))) formats in
    let made : (after_run seg r (job_data c r) (run_result the_coder (job_data c r))).pictures ≡ seg.pictures ++ wanted ∷ [] = ap (λ z. (after_run seg r (job_data c r) z).pictures) result ∙ ap (λ z. seg.pictures ++ z ∷ []) like in
    subst (λ z. IsEncoder z y) (sym (finished_segment the_coder seg c y r word job.running)) (subst (λ z. AreEncoded z y.formats.out y.codec) (sym made) codec)

puts_reset :
    (c : Context) (j : JobData) (b : Buffer) (result : Option RunResult) (up : Bool) (flags cursor : ℕ) (codec : CodecState) (used : ℕ) (bytes : List ℕ) (dest_flags : ℕ) (stamp : Stamp)
    → result ≡ None → Puts c j b result up flags cursor codec used bytes dest_flags stamp → codec ≡ reset c.codec
puts_reset c j b result up flags cursor codec used bytes dest_flags stamp e (puts_fault k) = refl
puts_reset c j b result up flags cursor codec used bytes dest_flags stamp e (puts_copy xs k) = absurd (cc)
puts_reset c j b result up flags cursor codec used bytes dest_flags stamp e (puts_frame frame k) = absurd (cc)
puts_reset c j b result up flags cursor codec used bytes dest_flags stamp e (puts_picture step r geometry key planes g k) = absurd (cc)
puts_reset c j b result up flags cursor codec used bytes dest_flags stamp e (puts_damage step r g k) = absurd (cc)

-- an engine fault resets the codec state, and nothing else of this
pub faulted_codec : (c : Context) (j : JobData) (b : Buffer) {result : Option RunResult} (x : Context) → result ≡ None → Ends c j b result x → (x.formats ≡ c.formats) × (x.geometry ≡ c.geometry) × (x.codec ≡ reset c.codec)
faulted_codec c j b {result = result} x e (alone up flags cursor codec used bytes dest_flags stamp p n) =
    (refl, refl, puts_reset c j b result up flags cursor codec used bytes dest_flags stamp e p)
faulted_codec c j b {result = result} x e (kept up flags cursor codec used bytes dest_flags stamp d p n) =
    (refl, refl, puts_reset c j b result up flags cursor codec used bytes dest_flags stamp e p)
faulted_codec c j b {result = result} x e (ended flags cursor codec used bytes dest_flags stamp d up p u n m) =
    (refl, refl, puts_reset c j b result up flags cursor codec used bytes dest_flags stamp e p)
faulted_codec c j b x e (halts step r geometry k phase events g q back p) = absurd (cc)
faulted_codec c j b x e (spends step k g back) = absurd (cc)

fault_encoder : (seg : Segment) (c : Context) (j : JobData) (b : Buffer) (x y : Context) (word : List ℕ) → IsEncoder seg c → Ends c j b None x → Settles x y → IsEncoder (segment_of_step the_coder seg c y (Finishes true) (Finished word)) y
fault_encoder seg c j b x y word w ends u =
    none_encoded y.formats.out y.codec (reset_is c seg y.codec ((settled_encoder x y u).1 ∙ (faulted_codec c j b x refl ends).2) w)

step_encoder : (seg : Segment) (c : Context) {e : SoloEvent} {told : SoloReply} {slot : Slot} → IsTidy c → c.kind ≡ Enc → IsEncoder seg c → Step the_coder c e told slot → EncoderAt slot (segment_of_slots the_coder seg (Some c) slot e told)
step_encoder seg c t k w (calls {found = found} {handed = handed} f) = effect_encoder seg c found handed k w f
step_encoder seg c t k w rests = is_encoder c _ w
step_encoder seg c t k w (lacks_job {fault = fault} o) =
    is_encoder c _ (subst (λ z. IsEncoder z c) (sym (nothing_segment the_coder seg c fault o)) w)
step_encoder seg c t k w (claims b rest z e o j i p d q) = is_encoder _ _ w
step_encoder seg c t k w (finishes {word = word} r x y job ends u v) =
    is_encoder y _ (finish_encoder seg c r job x y word t k w ends u)
step_encoder seg c t k w (faults {word = word} r x y job ends u) =
    is_encoder y _ (fault_encoder seg c (job_data c r) job.source x y word w ends u)

-- Slots

open_encoder :
    (seg : Segment) (request : Call) (bytes : List ℕ) (found : Bool)
    → EncoderAt (closed_answer request found).slot
    (segment_of_slots the_coder seg None (closed_answer request found).slot (Called request bytes found) (Answered (closed_answer request found).reply (closed_answer request found).bytes))
unfolding closed_answer EncoderAt
open_encoder seg (Open Copy) bytes true = λ k. absurd (cc)
open_encoder seg (Open Enc) bytes true = λ k. none_encoded (fresh_context Enc).formats.out (fresh_context Enc).codec refl
open_encoder seg (Open Dec) bytes true = λ k. absurd (cc)
open_encoder seg (Open kind) bytes false = tt
open_encoder seg request bytes found = tt

of_encoders : (c : Context) (slot : Slot) (seg : Segment) → KindSlot c slot → (c.kind ≡ Enc → EncoderAt slot seg) → EncoderAt slot seg
unfolding EncoderAt KindSlot
of_encoders c None seg k f = tt
of_encoders c (Some y) seg k f = λ q. f (sym k ∙ q) q

slot_encoder :
    (seg : Segment) (s : Slot) (e : SoloEvent) → IsOrderedSlot s → TidySlot s → EncoderAt s seg
    → EncoderAt (solo_step the_coder s e).slot (segment_of_slots the_coder seg s (solo_step the_coder s e).slot e (solo_step the_coder s e).told)
unfolding solo_step answer EncoderAt
slot_encoder seg None (Called request bytes found) h t w = open_encoder seg request bytes found
slot_encoder seg None Claims h t w = tt
slot_encoder seg None (Finishes fault) h t w = tt
slot_encoder seg (Some c) (Called request bytes found) h t w =
    let q = step_of the_coder c (Called request bytes found) h in
    of_encoders c _ _ (step_kind the_coder c q) (λ k. step_encoder seg c t k (w k) q)
slot_encoder seg (Some c) Claims h t w =
    let q = step_of the_coder c Claims h in of_encoders c _ _ (step_kind the_coder c q) (λ k. step_encoder seg c t k (w k) q)
slot_encoder seg (Some c) (Finishes fault) h t w =
    let q = step_of the_coder c (Finishes fault) h in
    of_encoders c _ _ (step_kind the_coder c q) (λ k. step_encoder seg c t k (w k) q)

segment_encoder : (seg : Segment) (s : Slot) (e : SoloEvent) → IsOrderedSlot s → TidySlot s → EncoderAt s seg → EncoderAt (solo_step the_coder s e).slot (segment_step the_coder seg s e)
unfolding segment_step
segment_encoder seg s e h t w = slot_encoder seg s e h t w

always_encoder : (events : List SoloEvent) → EncoderAt (solo_slot the_coder None events) (segment_of the_coder events)
unfolding EncoderAt
always_encoder events =
    always_holds the_coder (λ seg s. EncoderAt s seg) segment_encoder (fresh_segment []) None events tt tt tt

pub encoder_follows : EncoderFollows
unfolding EncoderAt all_encoded
encoder_follows events c at k =
    let w = subst (λ z. EncoderAt z (segment_of the_coder events)) at (always_encoder events) k in
    record { formats = w.formats; frames = w.frames; keys = w.keys }
