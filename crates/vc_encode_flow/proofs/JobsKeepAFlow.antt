-- Claims and finishes keep a flow. A claim moves the next picture from ready to the job; a finish without a fault adds its
-- frame to done, and one with a fault adds a buffer with ERROR, after which nothing more is said of the frames.
use Rattle.std.proofs.Common.{ℕ, ◌≡◌, ◌≤◌, ◌+◌, Bool, true, false, not, cond, ◌&&◌, ◌||◌, is_none, Option, Some, None, List, [], ◌∷◌, ◌++◌, length, refl, sym, ap, ◌∙◌, subst, arith, length-append, append_assoc, inl, inr, ⊎_elim}
use Rattle.std.specs.List.{list_all, list_any}
use Rattle.std.proofs.lemmas.Bool.{false≢true}
use Rattle.std.proofs.lemmas.List.{map-append, append-nil}
use Rattle.std.proofs.lemmas.List.Folds.{list_all-append}
use Rattle.vc_base.specs.declared.Stamp.{Stamp}
use Rattle.vc_base.specs.declared.Side.{Side}
use Rattle.vc_base.specs.declared.Side.TheVariants.{Cap}
use Rattle.vc_base.specs.declared.Kind.{Kind}
use Rattle.vc_base.specs.declared.Kind.TheVariants.{Copy, Enc, Dec}
use Rattle.vc_base.specs.Buffers.{Buffer, QueueState, lend_front, known_bytes}
use Rattle.vc_base.specs.Limits.{error_flag}
use Rattle.vc_defs.specs.Encoder.{EncoderState, fresh_encoder, EncodedFrame, encode}
use Rattle.vc_model.specs.Coder.{CodecState, no_codec, encoder, decoder, reset, the_coder}
use Rattle.vc_model.specs.Context.{Context, Slot, Running, RunSort, drain, run, owe, is_run, is_enc, is_drained}
use Rattle.vc_model.specs.Runs.{sort_of, running_of, source_of, JobData, job_data, RunResult, encoded, run_result, run_of, encode_run, type_flag}
use Rattle.vc_model.specs.Handed.{is_finish_by}
use Rattle.vc_model.specs.Places.{has_error}
use Rattle.vc_model.specs.Solo.{SoloEvent, Claims, Finishes, SoloReply, Finished, Nothing}
use Rattle.vc_model.specs.Sound.{IsOrdered, HasCodec, dest_count, drain_not_noted}
use Rattle.vc_model.proofs.PartsOfTests.{and_right}
use Rattle.vc_laws.proofs.EffectsOfCalls.{Settles, still, owes, gives}
use Rattle.vc_laws.proofs.EffectsOfEvents.{HasJob, Puts, puts_fault, puts_copy, puts_frame, puts_picture, puts_damage, Ends, alone, kept, ended, halts, spends, done_out, done_cap, moved_out, ClaimsCap, probes, runs, Step, calls, rests, lacks_job, claims, finishes, faults}
use Rattle.vc_laws.proofs.OpenContextsAreTidy.{IsTidy, IsRunOf, HasRun}
use Rattle.vc_port.specs.Payloads.{is_of_job}
use Rattle.vc_encode_flow.specs.Flows.{FlowSoFar, frames_for, state_for, payloads, AreGood, HasBad, RunsAt, IsEncoding, HasFrames, HasFault, IsUnderWay}
use Rattle.vc_encode_flow.proofs.FramesGoOn.{frames_append, state_append}

-- Settling, where no drain goes on

undrained : (ready : List Buffer) (mark : Option ℕ) → mark ≡ None → is_drained ready mark ≡ false
undrained ready mark e = ap (λ (m : Option ℕ). is_drained ready m) e

not_noted : {A : Type 0} → (x : Context) → x.mark ≡ None → drain_not_noted x ≡ true → A
not_noted x m n =
    let a = and_right (is_run x.phase) (x.cap.streams && (is_none x.running && is_drained x.out.ready x.mark)) n in
    let b = and_right x.cap.streams (is_none x.running && is_drained x.out.ready x.mark) a in
    let d = and_right (is_none x.running) (is_drained x.out.ready x.mark) b in
    absurd (false≢true (sym (undrained x.out.ready x.mark m) ∙ d))

pub settled_same : (x y : Context) → x.phase ≡ run → x.mark ≡ None → Settles x y → y ≡ x
settled_same x y p m still = refl
settled_same x y p m (owes n r) = not_noted x m n
settled_same x y p m (gives cause b rest events r q) =
    ⊎_elim (λ (e : x.phase ≡ owe cause). absurd (false≢true (ap is_run (sym e ∙ p)))) (λ (e : (cause ≡ drain) × (drain_not_noted x ≡ true)). not_noted x m e.1) q

-- The end of a run

-- the context after a run that made a frame, and after one that failed
abbrev pub after_frame : Context → Buffer → Buffer → EncodedFrame → Context
after_frame c b d f =
    record c { out = done_out c.out b 0; cap = done_cap c.cap d (length f.bytes) f.bytes (type_flag f.key) b.stamp; codec = encoder f.state; running = None }

abbrev pub after_fault : Context → Buffer → Buffer → Context
after_fault c b d =
    record c { out = done_out c.out b error_flag; cap = done_cap c.cap d 0 [] error_flag b.stamp; codec = reset c.codec; running = None }

abbrev put : Context → Buffer → Buffer → Bool → ℕ → ℕ → CodecState → ℕ → List ℕ → ℕ → Stamp → Context
put c b d up flags cursor codec used bytes dest_flags stamp =
    record c { out = moved_out c.out b flags cursor up; cap = done_cap c.cap d used bytes dest_flags stamp; codec = codec; running = None }

puts_frame_is : (c : Context) (j : JobData) (b d : Buffer) (f : EncodedFrame) (result : Option RunResult) (up : Bool) (flags cursor : ℕ)
    (codec : CodecState) (used : ℕ) (bytes : List ℕ) (dest_flags : ℕ) (stamp : Stamp) → result ≡ Some (encoded f) →
    Puts c j b result up flags cursor codec used bytes dest_flags stamp → put c b d up flags cursor codec used bytes dest_flags stamp ≡ after_frame c
    b d f
puts_frame_is c j b d f result up flags cursor codec used bytes dest_flags stamp e (puts_fault k) = absurd (cc)
puts_frame_is c j b d f result up flags cursor codec used bytes dest_flags stamp e (puts_copy xs k) = absurd (cc)
puts_frame_is c j b d f result up flags cursor codec used bytes dest_flags stamp e (puts_frame frame k) =
    ap (λ z. after_frame c b d z) (let q : frame ≡ f = cc in q)
puts_frame_is c j b d f result up flags cursor codec used bytes dest_flags stamp e (puts_picture step r geometry key planes g k) = absurd (cc)
puts_frame_is c j b d f result up flags cursor codec used bytes dest_flags stamp e (puts_damage step r g k) = absurd (cc)

puts_fault_is : (c : Context) (j : JobData) (b d : Buffer) (result : Option RunResult) (up : Bool) (flags cursor : ℕ) (codec : CodecState) (used : ℕ)
    (bytes : List ℕ) (dest_flags : ℕ) (stamp : Stamp) → result ≡ None → Puts c j b result up flags cursor codec used bytes dest_flags stamp →
    put c b d up flags cursor codec used bytes dest_flags stamp ≡ after_fault c b d
puts_fault_is c j b d result up flags cursor codec used bytes dest_flags stamp e (puts_fault k) = refl
puts_fault_is c j b d result up flags cursor codec used bytes dest_flags stamp e (puts_copy xs k) = absurd (cc)
puts_fault_is c j b d result up flags cursor codec used bytes dest_flags stamp e (puts_frame frame k) = absurd (cc)
puts_fault_is c j b d result up flags cursor codec used bytes dest_flags stamp e (puts_picture step r geometry key planes g k) = absurd (cc)
puts_fault_is c j b d result up flags cursor codec used bytes dest_flags stamp e (puts_damage step r g k) = absurd (cc)

-- no destination, though one was taken
no_dest : {A : Type 0} → (bs : List Buffer) → length bs ≡ 1 → bs ≡ [] → A
no_dest [] n e = absurd (omega (arith, n))
no_dest (b ∷ bs) n e = absurd (cc)

pub ends_frame : (c : Context) (j : JobData) (b : Buffer) (f : EncodedFrame) {result : Option RunResult} (x : Context) → c.mark ≡ None → length c.cap.job ≡ 1 → result ≡ Some (encoded f) → Ends c j b result x → (d : Buffer) × (x ≡ after_frame c b d f)
ends_frame c j b f x m n e (alone up flags cursor codec used bytes dest_flags stamp p o) = no_dest c.cap.job n o
ends_frame c j b f {result = result} x m n e (kept up flags cursor codec used bytes dest_flags stamp d p o) =
    (d, puts_frame_is c j b d f result up flags cursor codec used bytes dest_flags stamp e p)
ends_frame c j b f x m n e (ended flags cursor codec used bytes dest_flags stamp d up p u o q) =
    absurd (false≢true (sym (undrained c.out.ready c.mark m) ∙ q))
ends_frame c j b f x m n e (halts step r geometry k phase events g q back p) = absurd (cc)
ends_frame c j b f x m n e (spends step k g back) = absurd (cc)

pub ends_fault : (c : Context) (j : JobData) (b : Buffer) {result : Option RunResult} (x : Context) → c.mark ≡ None → length c.cap.job ≡ 1 → result ≡ None → Ends c j b result x → (d : Buffer) × (x ≡ after_fault c b d)
ends_fault c j b x m n e (alone up flags cursor codec used bytes dest_flags stamp p o) = no_dest c.cap.job n o
ends_fault c j b {result = result} x m n e (kept up flags cursor codec used bytes dest_flags stamp d p o) =
    (d, puts_fault_is c j b d result up flags cursor codec used bytes dest_flags stamp e p)
ends_fault c j b x m n e (ended flags cursor codec used bytes dest_flags stamp d up p u o q) =
    absurd (false≢true (sym (undrained c.out.ready c.mark m) ∙ q))
ends_fault c j b x m n e (halts step r geometry k phase events g q back p) = absurd (cc)
ends_fault c j b x m n e (spends step k g back) = absurd (cc)

-- the run of an encoder is one of the codec
encoder_runs : (c : Context) (r : Running) (state : EncoderState) → c.kind ≡ Enc → IsRunOf c r → c.codec ≡ encoder state → run_result the_coder (job_data c r) ≡ encoded (encode state r.format r.rates (source_of c.out.job).bytes)
unfolding run_result
encoder_runs c r state k t e =
    ap (run_of the_coder (job_data c r)) (t.sort ∙ ap (λ q. sort_of q c.geometry) k) ∙ ap (encode_run the_coder (job_data c r)) e

one_dest : (c : Context) (r : Running) → c.kind ≡ Enc → IsRunOf c r → length c.cap.job ≡ dest_count r.sort → length c.cap.job ≡ 1
one_dest c r k t n = n ∙ ap dest_count (t.sort ∙ ap (λ q. sort_of q c.geometry) k)

-- the frame of this run
run_frame : (f : FlowSoFar) (c : Context) (r : Running) (b : Buffer) (state : EncoderState) → IsEncoding f c → IsRunOf c r → c.running ≡ Some r → c.out.job ≡ b ∷ [] → c.codec ≡ encoder state → Some (run_result the_coder (job_data c r)) ≡ Some (encoded (encode state f.format f.rates b.bytes))
run_frame f c r b state w t e j q =
    let format : r.format ≡ f.format = t.format (ap is_enc w.kind) ∙ w.format in
    let rates : r.rates ≡ f.rates = subst (λ o. RunsAt o f.rates) e w.runs in
    ap (λ z. Some z) (encoder_runs c r state w.kind t q ∙ (ap (λ z. encoded (encode state z r.rates (source_of c.out.job).bytes)) format ∙ (ap (λ z. encoded (encode state f.format z (source_of c.out.job).bytes)) rates ∙ ap (λ l. encoded (encode state f.format f.rates (source_of l).bytes)) j)))

type_is_good : (key : Bool) → has_error (type_flag key) ≡ false
type_is_good true = refl
type_is_good false = refl

good_end : (bs : List Buffer) (z : Buffer) → has_error z.flags ≡ false → AreGood bs → AreGood (bs ++ z ∷ [])
good_end bs z e h =
    list_all-append (λ b. not (has_error b.flags)) bs (z ∷ []) ∙ (ap (λ t. t && (not (has_error z.flags) && true)) h ∙ ap (λ t. not t && true) e)

or_then : (a b c : Bool) → (b ≡ true → c ≡ true) → (a || b) ≡ true → (a || c) ≡ true
or_then true b c h e = refl
or_then false b c h e = h e

or_last : (a b : Bool) → b ≡ true → (a || b) ≡ true
or_last true b e = refl
or_last false b e = e

-- one with ERROR among others
pub bad_first : (bs more : List Buffer) → HasBad bs → HasBad (bs ++ more)
bad_first [] more h = absurd (false≢true h)
bad_first (b ∷ bs) more h =
    or_then (has_error b.flags) (list_any (λ z. has_error z.flags) bs) (list_any (λ z. has_error z.flags) (bs ++ more)) (bad_first bs more) h

pub bad_last : (bs : List Buffer) (z : Buffer) → has_error z.flags ≡ true → HasBad (bs ++ z ∷ [])
bad_last [] z e = ap (λ t. t || false) e
bad_last (b ∷ bs) z e =
    or_last (has_error b.flags) (list_any (λ y. has_error y.flags) (bs ++ z ∷ [])) (bad_last bs z e)

cap_bytes : (side : Side) (flags : ℕ) (bytes : List ℕ) → side ≡ Cap → known_bytes side flags bytes ≡ bytes
cap_bytes side flags bytes e = ap (λ s. known_bytes s flags bytes) e

-- one frame more
pub frame_under_way : (f : FlowSoFar) (c : Context) (b d : Buffer) (before now : ℕ) → c.cap.side ≡ Cap → c.out.job ≡ b ∷ [] → (h : HasFrames f c before now) → HasFrames f (after_frame c b d (encode (state_for f h.coded) f.format f.rates b.bytes)) before (now + 1)
frame_under_way f c b d before now side j h =
    let s = state_for f h.coded in
    let frame = encode s f.format f.rates b.bytes in
    let z : Buffer = record d { used = length frame.bytes; bytes = known_bytes c.cap.side (type_flag frame.key) frame.bytes; flags = type_flag frame.key; stamp = b.stamp; seq = c.cap.next_seq } in
    let y : Buffer = record b { bytes = known_bytes c.out.side 0 b.bytes; flags = 0; seq = c.out.next_seq } in
    let waits : f.queued ≡ h.coded ++ payloads (b ∷ c.out.ready) = h.waiting ∙ ap (λ l. h.coded ++ payloads (l ++ c.out.ready)) j in
    let whole : z.bytes ≡ frame.bytes = cap_bytes c.cap.side (type_flag frame.key) frame.bytes side in
    record {
      coded = h.coded ++ b.bytes ∷ [];
      codec = ap (λ t. encoder t) (sym (state_append fresh_encoder f.format f.rates h.coded (b.bytes ∷ [])));
      waiting = waits ∙ sym (append_assoc h.coded (b.bytes ∷ []) (payloads c.out.ready));
      frames = ap (λ l. f.taken ++ l) (map-append (λ (x : Buffer). x.bytes) c.cap.done (z ∷ []))
          ∙ (sym (append_assoc f.taken (payloads c.cap.done) (z.bytes ∷ []))
          ∙ (ap (λ l. l ++ z.bytes ∷ []) h.frames ∙ (ap (λ l. frames_for f h.coded ++ l ∷ []) whole
          ∙ sym (frames_append fresh_encoder f.format f.rates h.coded (b.bytes ∷ [])))));
      good = good_end c.cap.done z (type_is_good frame.key) h.good;
      sources = good_end c.out.done y refl h.sources;
      counted = omega (arith, h.counted, length-append h.coded (b.bytes ∷ []));
    }

-- the first fault
pub fault_under_way : (f : FlowSoFar) (c : Context) (b d : Buffer) (before now before_bad now_bad : ℕ) → before_bad ≤ now_bad → c.out.job ≡ b ∷ [] → HasFrames f c before now → HasFault f (after_fault c b d) before_bad (now_bad + 1)
fault_under_way f c b d before now before_bad now_bad l j h =
    let z : Buffer = record d { used = 0; bytes = known_bytes c.cap.side error_flag []; flags = error_flag; stamp = b.stamp; seq = c.cap.next_seq } in
    let y : Buffer = record b { bytes = known_bytes c.out.side error_flag b.bytes; flags = error_flag; seq = c.out.next_seq } in
    record {
      coded = h.coded;
      lost = b.bytes;
      others = payloads c.out.ready;
      queued = h.waiting ∙ ap (λ l. h.coded ++ payloads (l ++ c.out.ready)) j;
      front = c.cap.done;
      bad = z;
      back = [];
      done = refl;
      frames = h.frames;
      good = h.good;
      flag = refl;
      source = bad_last c.out.done y refl;
      counted = omega (arith, l);
    }

-- what is done only grows
later_under_way : (f : FlowSoFar) (c y : Context) (more sources : List Buffer) (before now later : ℕ) → now ≤ later →
    y.cap.done ≡ c.cap.done ++ more → y.out.done ≡ c.out.done ++ sources → HasFault f c before now → HasFault f y before later
later_under_way f c y more sources before now later l e o h =
    record {
      coded = h.coded;
      lost = h.lost;
      others = h.others;
      queued = h.queued;
      front = h.front;
      bad = h.bad;
      back = h.back ++ more;
      done = e ∙ (ap (λ bs. bs ++ more) h.done ∙ append_assoc h.front (h.bad ∷ h.back) more);
      frames = h.frames;
      good = h.good;
      flag = h.flag;
      source = subst HasBad (sym o) (bad_first c.out.done sources h.source);
      counted = omega (arith, h.counted, l);
    }

-- Claims

claimed_done : (c : Context) (sort : RunSort) (k : QueueState) → ClaimsCap c sort k → k.done ≡ c.cap.done
claimed_done c sort k (probes e) = refl
claimed_done c sort k (runs d ds n s e) = refl

-- One step

abbrev pub count_of : Bool → SoloEvent → SoloReply → ℕ
count_of fault e told = cond (is_finish_by fault e told) 1 0

-- the slot is open after the event, and the flow goes on, with its finishes counted
pub record GoesOn (f : FlowSoFar) (good_before good_now faults_before faults_now : ℕ) (e : SoloEvent) (told : SoloReply) (slot : Slot) : Type 0 where
  pub context : Context
  pub there : slot ≡ Some context
  pub encodes : IsEncoding f context
  pub under_way : IsUnderWay f context good_before (good_now + count_of false e told) faults_before (faults_now + count_of true e told)

pub frames_later : (f : FlowSoFar) (c : Context) (before now later : ℕ) → now ≤ later → HasFrames f c before now → HasFrames f c before later
frames_later f c before now later l h =
    record { coded = h.coded; codec = h.codec; waiting = h.waiting; frames = h.frames; good = h.good; sources = h.sources; counted = omega (arith, h.counted, l) }

pub under_way_later : (f : FlowSoFar) (c : Context) (g h l i m n : ℕ) → h ≤ i → m ≤ n → IsUnderWay f c g h l m → IsUnderWay f c g i l n
under_way_later f c g h l i m n a b (inl x) = inl (frames_later f c g h i a x)
under_way_later f c g h l i m n a b (inr x) =
    inr (later_under_way f c c [] [] l m n b (sym (append-nil c.cap.done)) (sym (append-nil c.out.done)) x)

encodes_frame : (f : FlowSoFar) (c : Context) (b d : Buffer) (frame : EncodedFrame) → IsEncoding f c → IsEncoding f (after_frame c b d frame)
encodes_frame f c b d frame w =
    record { kind = w.kind; format = w.format; rates = w.rates; phase = w.phase; mark = w.mark; runs = tt }

encodes_fault : (f : FlowSoFar) (c : Context) (b d : Buffer) → IsEncoding f c → IsEncoding f (after_fault c b d)
encodes_fault f c b d w =
    record { kind = w.kind; format = w.format; rates = w.rates; phase = w.phase; mark = w.mark; runs = tt }

codec_is : (kind : Kind) (codec : CodecState) → kind ≡ Enc → HasCodec kind codec → (s : EncoderState) × (codec ≡ encoder s)
codec_is Copy codec e h = absurd (cc)
codec_is Enc no_codec e h = absurd h
codec_is Enc (encoder s) e h = (s, refl)
codec_is Enc (decoder s) e h = absurd h
codec_is Dec codec e h = absurd (cc)

-- the context after a run that made a frame
finished : (f : FlowSoFar) (c : Context) (r : Running) (s : EncoderState) (job : HasJob c r) (x y : Context) → IsEncoding f c → IsTidy c →
    c.codec ≡ encoder s → Ends c (job_data c r) job.source (Some (run_result the_coder (job_data c r))) x → Settles x y →
    (d : Buffer) × (y ≡ after_frame c job.source d (encode s f.format f.rates job.source.bytes))
finished f c r s job x y w t q ends u =
    let run : IsRunOf c r = subst (HasRun c) job.running t.run in
    let frame = encode s f.format f.rates job.source.bytes in
    let result = run_frame f c r job.source s w run job.running job.job q in
    let end = ends_frame c (job_data c r) job.source frame x w.mark (one_dest c r w.kind run job.dest) result ends in
    (end.0, settled_same x y (ap (λ (z : Context). z.phase) end.1 ∙ w.phase) (ap (λ (z : Context). z.mark) end.1 ∙ w.mark) u ∙ end.1)

failed : (f : FlowSoFar) (c : Context) (r : Running) (job : HasJob c r) (x y : Context) → IsEncoding f c → IsTidy c → Ends c (job_data c r) job.source None x → Settles x y → (d : Buffer) × (y ≡ after_fault c job.source d)
failed f c r job x y w t ends u =
    let run : IsRunOf c r = subst (HasRun c) job.running t.run in
    let end = ends_fault c (job_data c r) job.source x w.mark (one_dest c r w.kind run job.dest) refl ends in
    (end.0, settled_same x y (ap (λ (z : Context). z.phase) end.1 ∙ w.phase) (ap (λ (z : Context). z.mark) end.1 ∙ w.mark) u ∙ end.1)

-- a claim
claim_under_way : (f : FlowSoFar) (c : Context) (b : Buffer) (rest : List Buffer) (k : QueueState) (o : Option Running) (g h l m : ℕ) →
    c.out.ready ≡ b ∷ rest → c.out.job ≡ [] → k.done ≡ c.cap.done → IsUnderWay f c g h l m →
    IsUnderWay f (record c { out = lend_front c.out (b ∷ rest); cap = k; running = o }) g h l m
claim_under_way f c b rest k o g h l m e j d (inl x) =
    inl (record {
      coded = x.coded;
      codec = x.codec;
      waiting = x.waiting ∙ (ap (λ q. x.coded ++ payloads (q ++ c.out.ready)) j ∙ ap (λ q. x.coded ++ payloads q) e);
      frames = ap (λ q. f.taken ++ payloads q) d ∙ x.frames;
      good = ap (λ q. list_all (λ (z : Buffer). not (has_error z.flags)) q) d ∙ x.good;
      sources = x.sources;
      counted = x.counted;
    })
claim_under_way f c b rest k o g h l m e j d (inr x) =
    inr (later_under_way f c (record c { out = lend_front c.out (b ∷ rest); cap = k; running = o }) [] [] l m m (omega arith)
    (d ∙ sym (append-nil c.cap.done)) (sym (append-nil c.out.done)) x)

-- a finish without a fault
finish_goes_on : (f : FlowSoFar) (c : Context) (r : Running) (job : HasJob c r) (x y : Context) (word : List ℕ) (g h l m : ℕ) → IsOrdered c →
    IsTidy c → IsEncoding f c → Ends c (job_data c r) job.source (Some (run_result the_coder (job_data c r))) x → Settles x y →
    IsUnderWay f c g h l m → GoesOn f g h l m (Finishes false) (Finished word) (Some y)
finish_goes_on f c r job x y word g h l m o t w ends u (inl q) =
    let s = state_for f q.coded in
    let frame = encode s f.format f.rates job.source.bytes in
    let end = finished f c r s job x y w t q.codec ends u in
    let z = after_frame c job.source end.0 frame in
    let new : HasFrames f z g (h + 1) = frame_under_way f c job.source end.0 g h o.firm.cap_side job.job q in
    record {
      context = z;
      there = ap (λ (v : Context). Some v) end.1;
      encodes = encodes_frame f c job.source end.0 frame w;
      under_way = under_way_later f z g (h + 1) l (h + 1) m (m + 0) (omega arith) (omega arith) (inl new);
    }
finish_goes_on f c r job x y word g h l m o t w ends u (inr q) =
    let codec = codec_is c.kind c.codec w.kind o.firm.has_codec in
    let frame = encode codec.0 f.format f.rates job.source.bytes in
    let end = finished f c r codec.0 job x y w t codec.1 ends u in
    let z = after_frame c job.source end.0 frame in
    record {
      context = z;
      there = ap (λ (v : Context). Some v) end.1;
      encodes = encodes_frame f c job.source end.0 frame w;
      under_way = inr (later_under_way f c z _ _ l m (m + 0) (omega arith) refl refl q);
    }

-- a finish with a fault
fault_goes_on : (f : FlowSoFar) (c : Context) (r : Running) (job : HasJob c r) (x y : Context) (word : List ℕ) (g h l m : ℕ) → l ≤ m → IsTidy c →
    IsEncoding f c → Ends c (job_data c r) job.source None x → Settles x y → IsUnderWay f c g h l m →
    GoesOn f g h l m (Finishes true) (Finished word) (Some y)
fault_goes_on f c r job x y word g h l m v t w ends u (inl q) =
    let end = failed f c r job x y w t ends u in
    let z = after_fault c job.source end.0 in
    record {
      context = z;
      there = ap (λ (v : Context). Some v) end.1;
      encodes = encodes_fault f c job.source end.0 w;
      under_way = inr (fault_under_way f c job.source end.0 g h l m v job.job q);
    }
fault_goes_on f c r job x y word g h l m v t w ends u (inr q) =
    let end = failed f c r job x y w t ends u in
    let z = after_fault c job.source end.0 in
    record {
      context = z;
      there = ap (λ (v : Context). Some v) end.1;
      encodes = encodes_fault f c job.source end.0 w;
      under_way = inr (later_under_way f c z _ _ l m (m + 1) (omega arith) refl refl q);
    }

rest_goes_on : (f : FlowSoFar) (c : Context) (e : SoloEvent) (g h l m : ℕ) → IsEncoding f c → IsUnderWay f c g h l m → GoesOn f g h l m e Nothing (Some c)
rest_goes_on f c e g h l m w q =
    record { context = c; there = refl; encodes = w; under_way = under_way_later f c g h l (h + count_of false e Nothing) m (m + count_of true e Nothing) (omega arith) (omega arith) q }

-- the rates at the claim
claim_runs : (f : FlowSoFar) (c : Context) (b : Buffer) (rest : List Buffer) (k : QueueState) → IsEncoding f c → IsEncoding f (record c { out = lend_front c.out (b ∷ rest); cap = k; running = Some (running_of c (sort_of c.kind c.geometry)) })
claim_runs f c b rest k w =
    record { kind = w.kind; format = w.format; rates = w.rates; phase = w.phase; mark = w.mark; runs = w.rates }

pub job_goes_on : (f : FlowSoFar) (c : Context) {e : SoloEvent} {told : SoloReply} {slot : Slot} (g h l m : ℕ) → l ≤ m → IsOrdered c → IsTidy c → IsEncoding f c → IsUnderWay f c g h l m → is_of_job e ≡ true → Step the_coder c e told slot → GoesOn f g h l m e told slot
job_goes_on f c g h l m v o t w q j (calls e) = absurd (false≢true j)
job_goes_on f c g h l m v o t w q j rests = rest_goes_on f c Claims g h l m w q
job_goes_on f c g h l m v o t w q j (lacks_job {fault = fault} n) = rest_goes_on f c (Finishes fault) g h l m w q
job_goes_on f c g h l m v o t w q j (claims b rest k e n i d p z y) =
    let x = record c { out = lend_front c.out (b ∷ rest); cap = k; running = Some (running_of c (sort_of c.kind c.geometry)) } in
    record {
      context = x;
      there = refl;
      encodes = claim_runs f c b rest k w;
      under_way = under_way_later f x g h l (h + 0) m (m + 0) (omega arith) (omega arith) (claim_under_way f c b rest k (Some (running_of c (sort_of c.kind c.geometry))) g h l m e i (claimed_done c (sort_of c.kind c.geometry) k y) q);
    }
job_goes_on f c g h l m v o t w q j (finishes {word = word} r x y job ends u z) =
    finish_goes_on f c r job x y word g h l m o t w ends u q
job_goes_on f c g h l m v o t w q j (faults {word = word} r x y job ends u) =
    fault_goes_on f c r job x y word g h l m v t w ends u q
