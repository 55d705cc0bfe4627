-- A decoder's segment after every list of events: what its runs gave, what of it went to done, and where the codec
-- stands. Each event leaves all of this, begins a segment anew, or is a run, which adds its result and moves the
-- codec from where it stood.
use Rattle.std.proofs.Common.{ℕ, ◌≡◌, ◌≤◌, ◌+◌, ◌-◌, Bool, true, false, cond, ◌||◌, Option, Some, None, List, [], ◌∷◌, ◌++◌, length, drop, refl, sym, ap, ◌∙◌, subst, arith, length-append}
use Rattle.std.proofs.lemmas.Bool.{false≢true, lt-ltb}
use Rattle.std.proofs.lemmas.List.{append_assoc}
use Rattle.std.proofs.lemmas.List.Elements.{filter-append}
use Rattle.vc_base.specs.declared.Stamp.{Stamp}
use Rattle.vc_base.specs.declared.Format.{Format}
use Rattle.vc_base.specs.declared.Kind.TheVariants.{Copy, Enc, Dec}
use Rattle.vc_base.specs.declared.Call.{Call}
use Rattle.vc_base.specs.declared.Call.TheVariants.{Open}
use Rattle.vc_base.specs.declared.Reply.{Reply}
use Rattle.vc_base.specs.Buffers.{Buffer, QueueState, buffer_count, created, known_bytes, held_again, queued_buffer, lend_front, new_buffers}
use Rattle.vc_defs.specs.declared.Geometry.{Geometry}
use Rattle.vc_defs.specs.Decoder.{FrameResult, ResultKind, Picture, Damaged, Changed, DecoderState, fresh_decoder, DecodedStep, decode, geometry_after, geometry_after_kind}
use Rattle.vc_defs.specs.Laws.{Resuming}
use Rattle.vc_model.specs.Coder.{CodecState, no_codec, encoder, decoder, reset, the_coder}
use Rattle.vc_model.specs.Context.{Context, Slot, Running, RunSort, copy, encode, probe, Cause, drain, change, PhaseState, run, owe, last, stopped, fresh_context, is_dec, is_enc}
use Rattle.vc_model.specs.Context.{decode as decode_sort}
use Rattle.vc_model.specs.Answer.{answer, closed_answer, mark_after_restart}
use Rattle.vc_model.specs.Runs.{front_is_due, sort_of, running_of, source_of, JobData, job_data, RunResult, decoded, run_result, run_of, decode_run}
use Rattle.vc_model.specs.Solo.{SoloEvent, Called, Claims, Finishes, SoloReply, Answered, Claimed, Finished, solo_step, solo_slot}
use Rattle.vc_model.specs.Sound.{CountsUp, HasCodec, dest_count, IsOrdered, IsOrderedSlot}
use Rattle.vc_model.specs.Drains.{done_now}
use Rattle.vc_defs.specs.Outputs.{is_change_result}
use Rattle.vc_laws.specs.Segments.{Segment, fresh_segment, call_resets, call_adds, first_of, with_result, gave_change, tail_length, after_run, after_decode, segment_of_step, segment_of_slots, segment_step, segment_of}
use Rattle.vc_laws.specs.Following.{OneForOne, in_buffers, is_by_run, by_runs}
use Rattle.vc_laws.proofs.EffectsOfCalls.{CodecAfterFormat, CodecAfterBuffers, CodecAfterOutput, CodecAfterCapture, MarkAfterLast, Settles, still, owes, gives}
use Rattle.vc_laws.proofs.EffectsOfCalls.{Effect, stays, closes, has_events, has_rates, has_out_format, has_cap_format, has_out_buffers, has_cap_buffers}
use Rattle.vc_laws.proofs.EffectsOfCalls.{adds_out, adds_cap, queues_out, queues_cap, takes_out, takes_cap, takes_last, streams_out, streams_cap, stops_out}
use Rattle.vc_laws.proofs.EffectsOfCalls.{stops_cap, rests_cap, sets_mark, starts}
use Rattle.vc_laws.proofs.EffectsOfEvents.{moved_out, probes, runs, HasJob, Puts, puts_fault, puts_copy, puts_frame, puts_picture, puts_damage, Ends, alone}
use Rattle.vc_laws.proofs.EffectsOfEvents.{kept, ended, halts, spends, Step, calls, rests, lacks_job, claims, finishes, faults, step_of}
use Rattle.vc_laws.proofs.OpenContextsAreTidy.{IsTidy, IsRunOf, HasRun, TidySlot, KindSlot, step_kind, same_out_format}
use Rattle.vc_laws.proofs.EncoderFollows.{faulted_codec}
use Rattle.vc_laws.proofs.SegmentsGoOn.{goes_on, begins_anew, finished_segment, nothing_segment, always_holds}
use Rattle.vc_laws.proofs.WhereDecodersStand.{IsStanding, StandsAfter, stands_on, stands_first}
use Rattle.vc_laws.proofs.BuffersOfDecoderRuns.{retired_more, NoRuns, no_runs_is, effect_runs, quiet_runs, pairs_append, buffers_more, IsBlankStep, gives_none, gives_change, blank_step, blank_gives_no_buffer, ended_gave, gave_in}

-- a segment without a run, and the codec state with which it begins
pub record IsUntouched (seg : Segment) (now : CodecState) : Type 0 where
  pub codec : now ≡ decoder fresh_decoder
  pub first : seg.first ≡ None
  pub bytes : seg.bytes ≡ []
  pub stamps : seg.stamps ≡ []
  pub results : seg.results ≡ []
  pub given : seg.given ≡ true

-- a codec state without a reference
abbrev pub IsBlank : CodecState → Type 0
IsBlank no_codec = Unit {0}
IsBlank (encoder state) = Unit {0}
IsBlank (decoder state) = state.reference ≡ None

pub record IsDecoding (seg : Segment) (c : Context) : Type 0 where
  -- no run was made while OUTPUT has no buffers, nor before the first one
  pub untouched : buffer_count c.out ≤ 0 → IsUntouched seg c.codec
  pub fresh : seg.first ≡ None → IsUntouched seg c.codec
  -- no reference is there before a geometry is
  pub blank : c.geometry ≡ None → IsBlank c.codec
  pub limit : (r : Running) → seg.first ≡ Some r → r.limit ≡ c.formats.out.size
  pub pairs : OneForOne (in_buffers seg.results) (by_runs seg.retired)
  -- where a result may still be given its source waits, before the mark
  pub pending : seg.given ≡ false → front_is_due (c.out.job ++ c.out.ready) c.mark ≡ true
  pub stands : Resuming → (r : Running) → seg.first ≡ Some r → IsStanding r.limit r.geometry seg.bytes seg.stamps seg.results seg.given c.codec c.geometry

-- Steps without a run

blank_fresh : (codec : CodecState) → codec ≡ decoder fresh_decoder → IsBlank codec
blank_fresh codec e = subst IsBlank (sym e) refl

same_untouched : (seg : Segment) (src ret : List Buffer) (old new : CodecState) → new ≡ old → IsUntouched seg old → IsUntouched (record seg { sources = src; retired = ret }) new
same_untouched seg src ret old new e u =
    record { codec = e ∙ u.codec; first = u.first; bytes = u.bytes; stamps = u.stamps; results = u.results; given = u.given }

-- Nothing of the decoder changes.
carried :
    (seg : Segment) (c y : Context) (src ret : List Buffer) → y.codec ≡ c.codec → y.geometry ≡ c.geometry → y.formats.out ≡ c.formats.out
    → (buffer_count y.out ≤ 0 → buffer_count c.out ≤ 0)
    → (front_is_due (c.out.job ++ c.out.ready) c.mark ≡ true → front_is_due (y.out.job ++ y.out.ready) y.mark ≡ true)
    → by_runs ret ≡ by_runs seg.retired → IsDecoding seg c → IsDecoding (record seg { sources = src; retired = ret }) y
carried seg c y src ret k g f n p e h =
    record {
      untouched = λ z. same_untouched seg src ret c.codec y.codec k (h.untouched (n z));
      fresh = λ z. same_untouched seg src ret c.codec y.codec k (h.fresh z);
      blank = λ z. subst IsBlank (sym k) (h.blank (sym g ∙ z));
      limit = λ r z. h.limit r z ∙ ap (λ (x : Format). x.size) (sym f);
      pairs = subst (OneForOne (in_buffers seg.results)) (sym e) h.pairs;
      pending = λ z. p (h.pending z);
      stands =
          λ resuming r z.
          subst (λ x. IsStanding r.limit r.geometry seg.bytes seg.stamps seg.results seg.given x y.geometry) (sym k)
          (subst (λ x. IsStanding r.limit r.geometry seg.bytes seg.stamps seg.results seg.given c.codec x) (sym g) (h.stands resuming r z));
    }

-- a segment that begins
anew : (y : Context) (src : List Buffer) → y.codec ≡ decoder fresh_decoder → IsDecoding (fresh_segment src) y
anew y src k =
    let u : IsUntouched (fresh_segment src) y.codec = record { codec = k; first = refl; bytes = refl; stamps = refl; results = refl; given = refl } in
    record {
      untouched = λ z. u;
      fresh = λ z. u;
      blank = λ z. blank_fresh y.codec k;
      limit = λ r z. absurd (cc);
      pairs = tt;
      pending = λ (z : true ≡ false). absurd (false≢true (sym z));
      stands = λ resuming r z. absurd (cc);
    }

-- a new format of OUTPUT, which has no buffers
new_format : (seg : Segment) (c y : Context) (src ret : List Buffer) → y.codec ≡ c.codec → buffer_count c.out ≤ 0 → by_runs ret ≡ by_runs seg.retired → IsDecoding seg c → IsDecoding (record seg { sources = src; retired = ret }) y
new_format seg c y src ret k n e h =
    let old = h.untouched n in
    let u = same_untouched seg src ret c.codec y.codec k old in
    record {
      untouched = λ z. u;
      fresh = λ z. u;
      blank = λ z. blank_fresh y.codec u.codec;
      limit = λ r (z : seg.first ≡ Some r). absurd (let q : None ≡ Some r = sym old.first ∙ z in cc);
      pairs = subst (OneForOne (in_buffers seg.results)) (sym e) h.pairs;
      pending = λ (z : seg.given ≡ false). absurd (false≢true (sym z ∙ old.given));
      stands = λ resuming r (z : seg.first ≡ Some r). absurd (let q : None ≡ Some r = sym old.first ∙ z in cc);
    }

pub DecoderAt : Slot → Segment → Type 0
DecoderAt None seg = Unit {0}
DecoderAt (Some c) seg = c.kind ≡ Dec → IsDecoding seg c

is_decoder : (c : Context) (seg : Segment) → IsDecoding seg c → DecoderAt (Some c) seg
unfolding DecoderAt
is_decoder c seg w k = w

closed_decoder : (seg : Segment) → DecoderAt None seg
unfolding DecoderAt
closed_decoder seg = tt

called_decoder :
    (seg : Segment) (c y : Context) (request : Call) (bytes : List ℕ) (found : Bool) (reply : Reply) (handed : List ℕ)
    → call_resets c request reply ≡ false → NoRuns c (Some y) → y.codec ≡ c.codec → y.geometry ≡ c.geometry → y.formats.out ≡ c.formats.out
    → (buffer_count y.out ≤ 0 → buffer_count c.out ≤ 0)
    → (front_is_due (c.out.job ++ c.out.ready) c.mark ≡ true → front_is_due (y.out.job ++ y.out.ready) y.mark ≡ true) → IsDecoding seg c
    → DecoderAt (Some y) (segment_of_step the_coder seg c y (Called request bytes found) (Answered reply handed))
called_decoder seg c y request bytes found reply handed r e k g f n p h =
    is_decoder y _
    (subst (λ s. IsDecoding s y) (sym (goes_on the_coder seg c y request bytes found reply handed (call_adds c y request reply) r refl))
    (carried seg c y (seg.sources ++ call_adds c y request reply) (seg.retired ++ done_now c y) k g f n p (retired_more seg.retired (done_now c y) (no_runs_is c y e)) h))

anew_decoder :
    (seg : Segment) (c y : Context) (request : Call) (bytes : List ℕ) (found : Bool) (reply : Reply) (handed : List ℕ)
    → call_resets c request reply ≡ true → y.codec ≡ decoder fresh_decoder
    → DecoderAt (Some y) (segment_of_step the_coder seg c y (Called request bytes found) (Answered reply handed))
anew_decoder seg c y request bytes found reply handed r k =
    is_decoder y _ (subst (λ s. IsDecoding s y) (sym (begins_anew the_coder seg c y request bytes found reply handed r)) (anew y y.out.ready k))

format_decoder :
    (seg : Segment) (c y : Context) (request : Call) (bytes : List ℕ) (found : Bool) (reply : Reply) (handed : List ℕ)
    → call_resets c request reply ≡ false → NoRuns c (Some y) → y.codec ≡ c.codec → buffer_count c.out ≤ 0 → IsDecoding seg c
    → DecoderAt (Some y) (segment_of_step the_coder seg c y (Called request bytes found) (Answered reply handed))
format_decoder seg c y request bytes found reply handed r e k n h =
    is_decoder y _
    (subst (λ s. IsDecoding s y) (sym (goes_on the_coder seg c y request bytes found reply handed (call_adds c y request reply) r refl))
    (new_format seg c y (seg.sources ++ call_adds c y request reply) (seg.retired ++ done_now c y) k n (retired_more seg.retired (done_now c y) (no_runs_is c y e)) h))

-- Codec states of a decoder

decoder_there : (c : Context) → c.kind ≡ Dec → HasCodec c.kind c.codec → (state : DecoderState) × (c.codec ≡ decoder state)
decoder_there c k h = by_codec c.codec refl (subst (λ q. HasCodec q c.codec) k h)
  where
    by_codec : (codec : CodecState) → c.codec ≡ codec → HasCodec Dec codec → (state : DecoderState) × (c.codec ≡ decoder state)
    by_codec no_codec e q = absurd q
    by_codec (encoder state) e q = absurd q
    by_codec (decoder state) e q = (state, e)

reset_is : (c : Context) (codec : CodecState) → c.kind ≡ Dec → HasCodec c.kind c.codec → codec ≡ reset c.codec → codec ≡ decoder fresh_decoder
reset_is c codec k h e = e ∙ ap reset (decoder_there c k h).1

-- Marks and the front buffer

due_unmarked : (ws : List Buffer) (mark : Option ℕ) → front_is_due ws mark ≡ true → front_is_due ws None ≡ true
due_unmarked [] mark e = absurd (false≢true e)
due_unmarked (b ∷ bs) mark e = refl

due_taken : (cause : Cause) (ws : List Buffer) (old new : Option ℕ) → MarkAfterLast cause old new → front_is_due ws old ≡ true → front_is_due ws new ≡ true
due_taken drain ws old new m e = ap (λ q. front_is_due ws q) m ∙ due_unmarked ws old e
due_taken change ws old new m e = ap (λ q. front_is_due ws q) m ∙ e

due_restarted : (phase : PhaseState) (ws : List Buffer) (mark : Option ℕ) → front_is_due ws mark ≡ true → front_is_due ws (mark_after_restart phase mark) ≡ true
due_restarted run ws mark e = due_unmarked ws mark e
due_restarted (owe drain) ws mark e = due_unmarked ws mark e
due_restarted (owe change) ws mark e = e
due_restarted (last drain) ws mark e = due_unmarked ws mark e
due_restarted (last change) ws mark e = e
due_restarted (stopped drain) ws mark e = due_unmarked ws mark e
due_restarted (stopped change) ws mark e = e

counts_up : (bs : List Buffer) (first next : ℕ) → CountsUp bs first next → first ≤ next
counts_up [] first next u = omega (arith, u)
counts_up (b ∷ bs) first next u = let h = counts_up bs (first + 1) next u.1 in omega arith

due_marked : (ws : List Buffer) (mark : Option ℕ) (first next : ℕ) → CountsUp ws first next → front_is_due ws mark ≡ true → front_is_due ws (Some next) ≡ true
due_marked [] mark first next u e = absurd (false≢true e)
due_marked (b ∷ bs) mark first next u e =
    let h = counts_up bs (first + 1) next u.1 in let o = u.0 in lt-ltb b.ordinal next (omega arith)

due_more : (ws : List Buffer) (x : Buffer) (mark : Option ℕ) → front_is_due ws mark ≡ true → front_is_due (ws ++ x ∷ []) mark ≡ true
due_more [] x mark e = absurd (false≢true e)
due_more (b ∷ bs) x None e = refl
due_more (b ∷ bs) x (Some m) e = e

due_queued : (job ready : List Buffer) (x : Buffer) (mark : Option ℕ) → front_is_due (job ++ ready) mark ≡ true → front_is_due (job ++ (ready ++ x ∷ [])) mark ≡ true
due_queued job ready x mark e =
    ap (λ l. front_is_due l mark) (sym (append_assoc job ready (x ∷ []))) ∙ due_more (job ++ ready) x mark e

-- a queue with one buffer more has buffers
not_few : {A : Type 0} → (xs : List Buffer) (x : Buffer) (n : ℕ) → n ≡ length (xs ++ x ∷ []) → n ≤ 0 → A
not_few xs x n e l = let a = length-append xs (x ∷ []) in absurd (omega arith)

settled_decoder : (x y : Context) → Settles x y → (y.codec ≡ x.codec) × (y.geometry ≡ x.geometry) × (y.formats ≡ x.formats) × (y.out ≡ x.out) × (y.mark ≡ x.mark)
settled_decoder x y still = (refl, refl, refl, refl, refl)
settled_decoder x y (owes p r) = (refl, refl, refl, refl, refl)
settled_decoder x y (gives cause b rest events r p) = (refl, refl, refl, refl, refl)

-- a call whose effect leaves the decoder and then settles
then_decoder :
    (seg : Segment) (c x y : Context) (request : Call) (bytes : List ℕ) (found : Bool) (reply : Reply) (handed : List ℕ)
    → call_resets c request reply ≡ false → NoRuns c (Some y) → x.codec ≡ c.codec → x.geometry ≡ c.geometry → x.formats ≡ c.formats → x.out ≡ c.out
    → (front_is_due (c.out.job ++ c.out.ready) c.mark ≡ true → front_is_due (c.out.job ++ c.out.ready) x.mark ≡ true) → Settles x y
    → IsDecoding seg c → DecoderAt (Some y) (segment_of_step the_coder seg c y (Called request bytes found) (Answered reply handed))
then_decoder seg c x y request bytes found reply handed r e k g f o p u h =
    let t = settled_decoder x y u in
    called_decoder seg c y request bytes found reply handed r e (t.0 ∙ k) (t.1 ∙ g) (ap (λ z. z.out) (t.2 ∙ f))
    (λ n. subst (λ q. buffer_count q ≤ 0) (t.3 ∙ o) n)
    (λ d. ap (λ q. front_is_due (q.job ++ q.ready) y.mark) (t.3 ∙ o) ∙ (ap (λ m. front_is_due (c.out.job ++ c.out.ready) m) t.4 ∙ p d)) h

effect_decoder :
    (seg : Segment) (c : Context) {request : Call} {bytes : List ℕ} {reply : Reply} {slot : Slot} (found : Bool) (handed : List ℕ) → IsOrdered c
    → IsTidy c → c.kind ≡ Dec → IsDecoding seg c → Effect c request bytes reply slot → NoRuns c slot
    → DecoderAt slot (segment_of_slots the_coder seg (Some c) slot (Called request bytes found) (Answered reply handed))
effect_decoder seg c {request = request} {bytes = bytes} {reply = reply} found handed s t k h (stays p) e =
    called_decoder seg c c request bytes found reply handed p.no_reset e refl refl refl (λ n. n) (λ d. d) h
effect_decoder seg c found handed s t k h (closes p) e = closed_decoder _
effect_decoder seg c {request = request} {bytes = bytes} {reply = reply} found handed s t k h (has_events events p) e =
    called_decoder seg c (record c { events = events }) request bytes found reply handed p.no_reset e refl refl refl (λ n. n) (λ d. d) h
effect_decoder seg c {request = request} {bytes = bytes} {reply = reply} found handed s t k h (has_rates rates) e =
    called_decoder seg c (record c { rates = rates }) request bytes found reply handed refl e refl refl refl (λ n. n) (λ d. d) h
effect_decoder seg c {request = request} {bytes = bytes} {reply = reply} found handed s t k h (has_out_format codec geometry a q p) e =
    format_decoder seg c _ request bytes found reply handed (ap is_enc k) e (subst (λ z. CodecAfterFormat z c.codec codec c.geometry geometry) k p).0 a h
effect_decoder seg c {request = request} {bytes = bytes} {reply = reply} found handed s t k h (has_cap_format {want = want} q) e =
    called_decoder seg c _ request bytes found reply handed refl e refl refl (same_out_format c.kind c.formats want) (λ n. n) (λ d. d) h
effect_decoder seg c {request = request} {bytes = bytes} {reply = reply} found handed s t k h (has_out_buffers size codec geometry o p) e =
    anew_decoder seg c _ request bytes found reply handed (ap (λ z. is_dec z || is_enc z) k) (reset_is c codec k s.firm.has_codec (subst (λ z. CodecAfterBuffers z c.codec codec c.geometry geometry) k p).0)
effect_decoder seg c {request = request} {bytes = bytes} {reply = reply} found handed s t k h (has_cap_buffers size o) e =
    called_decoder seg c _ request bytes found reply handed refl e refl refl refl (λ n. n) (λ d. d) h
effect_decoder seg c {request = request} {bytes = bytes} {reply = reply} found handed s t k h (adds_out {count = count} {size = size}) e =
    called_decoder seg c _ request bytes found reply handed refl e refl refl refl (λ n. let a = length-append c.out.held (new_buffers size (buffer_count c.out) (created c.out count)) in omega arith) (λ d. d) h
effect_decoder seg c {request = request} {bytes = bytes} {reply = reply} found handed s t k h adds_cap e =
    called_decoder seg c _ request bytes found reply handed refl e refl refl refl (λ n. n) (λ d. d) h
effect_decoder seg c {request = request} {bytes = bytes} {reply = reply} found handed s t k h (queues_out {used = used} {stamp = stamp} b i) e =
    let x = queued_buffer c.out.side b used stamp bytes c.out.next_ordinal in
    called_decoder seg c _ request bytes found reply handed refl e refl refl refl (λ n. let a = length-append c.out.ready (x ∷ []) in absurd (omega arith)) (due_queued c.out.job c.out.ready x c.mark) h
effect_decoder seg c {request = request} {bytes = bytes} {reply = reply} found handed s t k h (queues_cap b y i u) e =
    then_decoder seg c _ y request bytes found reply handed refl e refl refl refl refl (λ d. d) u h
effect_decoder seg c {request = request} {bytes = bytes} {reply = reply} found handed s t k h (takes_out b rest i) e =
    called_decoder seg c _ request bytes found reply handed refl e refl refl refl (λ n. let a = length-append c.out.held (held_again b ∷ []) in absurd (omega arith)) (λ d. d) h
effect_decoder seg c {request = request} {bytes = bytes} {reply = reply} found handed s t k h (takes_cap b rest i p l) e =
    called_decoder seg c _ request bytes found reply handed refl e refl refl refl (λ n. n) (λ d. d) h
effect_decoder seg c {request = request} {bytes = bytes} {reply = reply} found handed s t k h (takes_last b cause mark i p m) e =
    called_decoder seg c _ request bytes found reply handed refl e refl refl refl (λ n. n) (due_taken cause (c.out.job ++ c.out.ready) c.mark mark m) h
effect_decoder seg c {request = request} {bytes = bytes} {reply = reply} found handed s t k h streams_out e =
    called_decoder seg c _ request bytes found reply handed refl e refl refl refl (λ n. n) (λ d. d) h
effect_decoder seg c {request = request} {bytes = bytes} {reply = reply} found handed s t k h (streams_cap y u) e =
    then_decoder seg c _ y request bytes found reply handed refl e refl refl refl refl (λ d. d) u h
effect_decoder seg c {request = request} {bytes = bytes} {reply = reply} found handed s t k h (stops_out codec r p) e =
    anew_decoder seg c _ request bytes found reply handed (ap is_dec k) (reset_is c codec k s.firm.has_codec (subst (λ z. CodecAfterOutput z c.codec codec) k p))
effect_decoder seg c {request = request} {bytes = bytes} {reply = reply} found handed s t k h (stops_cap codec r o p) e =
    called_decoder seg c _ request bytes found reply handed (ap (λ z. cond (is_enc z) c.cap.streams false) k) e
    (subst (λ z. CodecAfterCapture z c.codec codec) k p) refl refl (λ n. n) (due_restarted c.phase (c.out.job ++ c.out.ready) c.mark) h
effect_decoder seg c {request = request} {bytes = bytes} {reply = reply} found handed s t k h (rests_cap r o) e =
    called_decoder seg c _ request bytes found reply handed (ap (λ z. cond (is_enc z) c.cap.streams false) k) e refl refl refl (λ n. n) (λ d. d) h
effect_decoder seg c {request = request} {bytes = bytes} {reply = reply} found handed s t k h (sets_mark y p i b m d u) e =
    then_decoder seg c _ y request bytes found reply handed p.no_reset e refl refl refl refl (due_marked (c.out.job ++ c.out.ready) c.mark s.firm.out.latest.first c.out.next_ordinal s.firm.out.latest.counts) u h
effect_decoder seg c {request = request} {bytes = bytes} {reply = reply} found handed s t k h (starts y p i b a u) e =
    then_decoder seg c _ y request bytes found reply handed p.no_reset e refl refl refl refl (λ d. d) u h

-- Runs

-- the run of a decoder over the bytes of its source from the cursor on
abbrev pub run_step : Context → Running → DecoderState → DecodedStep
run_step c r state =
    decode state r.geometry r.limit (drop (source_of c.out.job).cursor (source_of c.out.job).bytes) (source_of c.out.job).stamp

decoder_is : (c : Context) (r : Running) (state : DecoderState) (g : Option Geometry) → c.geometry ≡ g → c.kind ≡ Dec → IsRunOf c r → c.codec ≡ decoder state → run_result the_coder (job_data c r) ≡ decoded (run_step c r state)
unfolding run_result
decoder_is c r state None e k t d =
    ap (run_of the_coder (job_data c r)) (t.sort ∙ (ap (λ q. sort_of q c.geometry) k ∙ ap (λ q. sort_of Dec q) e)) ∙ ap (decode_run the_coder (job_data c r)) d
decoder_is c r state (Some g) e k t d =
    ap (run_of the_coder (job_data c r)) (t.sort ∙ (ap (λ q. sort_of q c.geometry) k ∙ ap (λ q. sort_of Dec q) e)) ∙ ap (decode_run the_coder (job_data c r)) d

-- codec state, geometry and limit after the run
abbrev HasAfter : Context → DecodedStep → CodecState → Option Geometry → ℕ → Type 0
HasAfter c step codec geometry size =
    (codec ≡ decoder step.state) × (geometry ≡ geometry_after step.given c.geometry) × (size ≡ c.formats.out.size)

same_step :
    (c : Context) (now step : DecodedStep) → now ≡ step → HasAfter c now (decoder now.state) (geometry_after now.given c.geometry) c.formats.out.size
    → HasAfter c step (decoder now.state) (geometry_after now.given c.geometry) c.formats.out.size
same_step c now step e h =
    subst (λ s. HasAfter c s (decoder now.state) (geometry_after now.given c.geometry) c.formats.out.size) e h

puts_after :
    (c : Context) (j : JobData) (b : Buffer) (step : DecodedStep) (result : Option RunResult) (up : Bool) (flags cursor : ℕ) (codec : CodecState)
    (used : ℕ) (bytes : List ℕ) (dest_flags : ℕ) (stamp : Stamp)
    → result ≡ Some (decoded step) → Puts c j b result up flags cursor codec used bytes dest_flags stamp
    → HasAfter c step codec c.geometry c.formats.out.size
puts_after c j b step result up flags cursor codec used bytes dest_flags stamp e (puts_fault k) = absurd (cc)
puts_after c j b step result up flags cursor codec used bytes dest_flags stamp e (puts_copy xs k) = absurd (cc)
puts_after c j b step result up flags cursor codec used bytes dest_flags stamp e (puts_frame frame k) = absurd (cc)
puts_after c j b step result up flags cursor codec used bytes dest_flags stamp e (puts_picture now r geometry key planes g k) =
    let same : now ≡ step = cc in
    (ap (λ s. decoder s.state) same, sym (ap (λ s. geometry_after s.given c.geometry) (sym same) ∙ (ap (λ o. geometry_after o c.geometry) g ∙ ap (λ q. geometry_after_kind q c.geometry) k)), refl)
puts_after c j b step result up flags cursor codec used bytes dest_flags stamp e (puts_damage now r g k) =
    let same : now ≡ step = cc in
    (ap (λ s. decoder s.state) same, sym (ap (λ s. geometry_after s.given c.geometry) (sym same) ∙ (ap (λ o. geometry_after o c.geometry) g ∙ ap (λ q. geometry_after_kind q c.geometry) k)), refl)

ended_after : (c : Context) (j : JobData) (b : Buffer) (step : DecodedStep) {result : Option RunResult} (x : Context) → result ≡ Some (decoded step) → Ends c j b result x → HasAfter c step x.codec x.geometry x.formats.out.size
ended_after c j b step {result = result} x e (alone up flags cursor codec used bytes dest_flags stamp p n) =
    puts_after c j b step result up flags cursor codec used bytes dest_flags stamp e p
ended_after c j b step {result = result} x e (kept up flags cursor codec used bytes dest_flags stamp d p n) =
    puts_after c j b step result up flags cursor codec used bytes dest_flags stamp e p
ended_after c j b step {result = result} x e (ended flags cursor codec used bytes dest_flags stamp d up p u n m) =
    puts_after c j b step result up flags cursor codec used bytes dest_flags stamp e p
ended_after c j b step x e (halts now r geometry k phase events g q back p) =
    let same : now ≡ step = cc in
    (ap (λ s. decoder s.state) same, sym (ap (λ s. geometry_after s.given c.geometry) (sym same) ∙ (ap (λ o. geometry_after o c.geometry) g ∙ ap (λ z. geometry_after_kind z c.geometry) q)), refl)
ended_after c j b step x e (spends now k g back) =
    let same : now ≡ step = cc in
    (ap (λ s. decoder s.state) same, sym (ap (λ s. geometry_after s.given c.geometry) (sym same) ∙ ap (λ o. geometry_after o c.geometry) g), refl)

-- the source of the run is still a buffer of OUTPUT
moved_count : (o : QueueState) (b : Buffer) (flags cursor : ℕ) (up : Bool) → 1 ≤ buffer_count (moved_out o b flags cursor up)
moved_count o b flags cursor true =
    let z : Buffer = record b { used = b.used; bytes = known_bytes o.side flags b.bytes; flags = flags; stamp = b.stamp; seq = o.next_seq } in
    let a = length-append o.done (z ∷ []) in omega arith
moved_count o b flags cursor false = omega arith

ended_count : (c : Context) (j : JobData) (b : Buffer) {result : Option RunResult} (x : Context) → Ends c j b result x → 1 ≤ buffer_count x.out
ended_count c j b x (alone up flags cursor codec used bytes dest_flags stamp p n) = moved_count c.out b flags cursor up
ended_count c j b x (kept up flags cursor codec used bytes dest_flags stamp d p n) = moved_count c.out b flags cursor up
ended_count c j b x (ended flags cursor codec used bytes dest_flags stamp d up p u n m) = moved_count c.out b flags cursor true
ended_count c j b x (halts step r geometry k phase events g q back p) = moved_count c.out b 0 (b.cursor + step.moved) false
ended_count c j b x (spends step k g back) = moved_count c.out b 0 0 true

-- after a change the source waits, before the mark
puts_no_change :
    {A : Type 0}
    → (c : Context) (j : JobData) (b : Buffer) (step : DecodedStep) (result : Option RunResult) (up : Bool) (flags cursor : ℕ) (codec : CodecState)
    (used : ℕ) (bytes : List ℕ) (dest_flags : ℕ) (stamp : Stamp)
    → result ≡ Some (decoded step) → gave_change step.given ≡ true → Puts c j b result up flags cursor codec used bytes dest_flags stamp → A
puts_no_change c j b step result up flags cursor codec used bytes dest_flags stamp e n (puts_fault k) = absurd (cc)
puts_no_change c j b step result up flags cursor codec used bytes dest_flags stamp e n (puts_copy xs k) = absurd (cc)
puts_no_change c j b step result up flags cursor codec used bytes dest_flags stamp e n (puts_frame frame k) = absurd (cc)
puts_no_change c j b step result up flags cursor codec used bytes dest_flags stamp e n (puts_picture now r geometry key planes g k) =
    let same : now ≡ step = cc in
    absurd (false≢true (ap is_change_result (sym k) ∙ (ap gave_change (sym g) ∙ (ap (λ s. gave_change s.given) same ∙ n))))
puts_no_change c j b step result up flags cursor codec used bytes dest_flags stamp e n (puts_damage now r g k) =
    let same : now ≡ step = cc in
    absurd (false≢true (ap is_change_result (sym k) ∙ (ap gave_change (sym g) ∙ (ap (λ s. gave_change s.given) same ∙ n))))

back_due : (b : Buffer) (rest : List Buffer) (cursor : ℕ) (mark : Option ℕ) → front_is_due (b ∷ []) mark ≡ true → front_is_due (record b { cursor = cursor } ∷ rest) mark ≡ true
back_due b rest cursor None e = refl
back_due b rest cursor (Some m) e = e

ended_pending :
    (c : Context) (j : JobData) (b : Buffer) (step : DecodedStep) {result : Option RunResult} (x : Context) → result ≡ Some (decoded step)
    → gave_change step.given ≡ true → front_is_due (b ∷ []) c.mark ≡ true → Ends c j b result x
    → front_is_due (x.out.job ++ x.out.ready) x.mark ≡ true
ended_pending c j b step {result = result} x e n d (alone up flags cursor codec used bytes dest_flags stamp p k) =
    puts_no_change c j b step result up flags cursor codec used bytes dest_flags stamp e n p
ended_pending c j b step {result = result} x e n d (kept up flags cursor codec used bytes dest_flags stamp z p k) =
    puts_no_change c j b step result up flags cursor codec used bytes dest_flags stamp e n p
ended_pending c j b step {result = result} x e n d (ended flags cursor codec used bytes dest_flags stamp z up p u k m) =
    puts_no_change c j b step result up flags cursor codec used bytes dest_flags stamp e n p
ended_pending c j b step x e n d (halts now r geometry k phase events g q back p) = back_due b c.out.ready (b.cursor + now.moved) c.mark d
ended_pending c j b step x e n d (spends now k g back) =
    let same : now ≡ step = cc in absurd (false≢true (ap gave_change (sym g) ∙ (ap (λ s. gave_change s.given) same ∙ n)))

-- Where the decoder stands at its run

first_some : (o : Option Running) (r : Running) → first_of o r ≡ None → ⊥
first_some None r e = cc
first_some (Some q) r e = cc

standing_now :
    Resuming → (seg : Segment) (c : Context) (r : Running) → IsRunOf c r → IsDecoding seg c → (first : Option Running) → seg.first ≡ first
    → (q : Running) → first_of first r ≡ Some q
    → IsStanding q.limit q.geometry seg.bytes seg.stamps seg.results seg.given c.codec c.geometry × (q.limit ≡ c.formats.out.size)
standing_now resuming seg c r t h None e q f =
    let u = h.fresh e in
    let same : r ≡ q = cc in
    let s0 : IsStanding r.limit r.geometry [] [] [] true (decoder fresh_decoder) r.geometry = stands_first r.limit r.geometry in
    let s1 = subst (λ z. IsStanding r.limit r.geometry z [] [] true (decoder fresh_decoder) r.geometry) (sym u.bytes) s0 in
    let s2 = subst (λ z. IsStanding r.limit r.geometry seg.bytes z [] true (decoder fresh_decoder) r.geometry) (sym u.stamps) s1 in
    let s3 = subst (λ z. IsStanding r.limit r.geometry seg.bytes seg.stamps z true (decoder fresh_decoder) r.geometry) (sym u.results) s2 in
    let s4 = subst (λ z. IsStanding r.limit r.geometry seg.bytes seg.stamps seg.results z (decoder fresh_decoder) r.geometry) (sym u.given) s3 in
    let s5 = subst (λ z. IsStanding r.limit r.geometry seg.bytes seg.stamps seg.results seg.given z r.geometry) (sym u.codec) s4 in
    let s6 = subst (λ z. IsStanding r.limit r.geometry seg.bytes seg.stamps seg.results seg.given c.codec z) t.geometry s5 in
    (subst (λ z. IsStanding z.limit z.geometry seg.bytes seg.stamps seg.results seg.given c.codec c.geometry) same s6, ap (λ z. z.limit) (sym same) ∙ t.limit)
standing_now resuming seg c r t h (Some p) e q f =
    let same : p ≡ q = cc in
    (subst (λ z. IsStanding z.limit z.geometry seg.bytes seg.stamps seg.results seg.given c.codec c.geometry) same (h.stands resuming p e), ap (λ z. z.limit) (sym same) ∙ h.limit p e)

-- and where it stands after it
standing_then :
    Resuming → (seg : Segment) (c : Context) (r : Running) (state : DecoderState) → c.codec ≡ decoder state → IsRunOf c r → IsDecoding seg c
    → (q : Running) → first_of seg.first r ≡ Some q
    → let ran = after_decode seg r (job_data c r) (run_step c r state) in
    IsStanding q.limit q.geometry ran.bytes ran.stamps ran.results ran.given (decoder (run_step c r state).state) (geometry_after (run_step c r state).given c.geometry)
standing_then resuming seg c r state d t h q f =
    let source = source_of c.out.job in
    let more = drop source.cursor source.bytes in
    let now = standing_now resuming seg c r t h seg.first refl q f in
    let at : IsStanding q.limit q.geometry seg.bytes seg.stamps seg.results seg.given (decoder state) c.geometry = subst (λ z. IsStanding q.limit q.geometry seg.bytes seg.stamps seg.results seg.given z c.geometry) d now.0 in
    let after = stands_on resuming q.limit q.geometry seg.bytes more seg.stamps source.stamp seg.results r.format.fourcc seg.given c.geometry state at in
    let geometry =
    subst (λ z.
    let step = decode state z q.limit more source.stamp in
    StandsAfter q.limit q.geometry seg.bytes seg.stamps seg.results step more source.stamp r.format.fourcc (length seg.bytes - length state.tail) c.geometry step.given)
    (sym t.geometry) after in
    let limit =
    subst (λ z.
    let step = decode state r.geometry z more source.stamp in
    StandsAfter q.limit q.geometry seg.bytes seg.stamps seg.results step more source.stamp r.format.fourcc (length seg.bytes - length state.tail) c.geometry step.given)
    (now.1 ∙ sym t.limit) geometry in
    subst (λ z. let step = run_step c r state in StandsAfter q.limit q.geometry seg.bytes seg.stamps seg.results step more source.stamp r.format.fourcc (length seg.bytes - z) c.geometry step.given) (sym (ap tail_length d)) limit

-- a run without a destination is a probe: it has no geometry, and the codec no reference
probe_only : (sort : RunSort) → dest_count sort ≡ 0 → sort ≡ probe
probe_only copy e = absurd (omega arith)
probe_only encode e = absurd (omega arith)
probe_only decode_sort e = absurd (omega arith)
probe_only probe e = refl

no_geometry : (g : Option Geometry) → sort_of Dec g ≡ probe → g ≡ None
no_geometry None e = refl
no_geometry (Some g) e = absurd (cc)

blank_run : (c : Context) (r : Running) (state : DecoderState) (seg : Segment) → c.codec ≡ decoder state → IsRunOf c r → IsDecoding seg c → c.geometry ≡ None → IsBlankStep (run_step c r state)
blank_run c r state seg d t h g =
    let source = source_of c.out.job in
    subst (λ z. IsBlankStep (decode state z r.limit (drop source.cursor source.bytes) source.stamp)) (sym (t.geometry ∙ g)) (blank_step state r.limit (drop source.cursor source.bytes) source.stamp (subst IsBlank d (h.blank g)))

blank_reference : (step : DecodedStep) → IsBlankStep step → (o : Option FrameResult) → step.given ≡ o → gave_change o ≡ false → step.state.reference ≡ None
blank_reference step (gives_none g r) o e n = r
blank_reference step (gives_change f g k) o e n = absurd (false≢true (sym n ∙ (ap gave_change (sym e ∙ g) ∙ k)))

kind_then : (step : DecodedStep) (f : FrameResult) (kind : ResultKind) (g : Option Geometry) → (g ≡ None → IsBlankStep step) → step.given ≡ Some f → f.kind ≡ kind → geometry_after_kind kind g ≡ None → step.state.reference ≡ None
kind_then step f (Picture geometry key planes) g h e k n = blank_reference step (h n) (Some f) e (ap is_change_result k)
kind_then step f Damaged g h e k n = blank_reference step (h n) (Some f) e (ap is_change_result k)
kind_then step f (Changed geometry) g h e k n = absurd (cc)

given_then_blank : (step : DecodedStep) (o : Option FrameResult) (g : Option Geometry) → (g ≡ None → IsBlankStep step) → step.given ≡ o → geometry_after o g ≡ None → step.state.reference ≡ None
given_then_blank step None g h e n = blank_reference step (h n) None e refl
given_then_blank step (Some f) g h e n = kind_then step f f.kind g h e refl n

finish_decoder :
    (seg : Segment) (c : Context) (r : Running) (job : HasJob c r) (x y : Context) (word : List ℕ) → IsOrdered c → IsTidy c → c.kind ≡ Dec
    → IsDecoding seg c → Ends c (job_data c r) job.source (Some (run_result the_coder (job_data c r))) x → Settles x y
    → IsDecoding (segment_of_step the_coder seg c y (Finishes false) (Finished word)) y
finish_decoder seg c r job x y word s t k h ends u =
    let j = job_data c r in
    let run : IsRunOf c r = subst (HasRun c) job.running t.run in
    let there = decoder_there c k s.firm.has_codec in
    let state = there.0 in
    let step = run_step c r state in
    let result = decoder_is c r state c.geometry refl k run there.1 in
    let some : Some (run_result the_coder j) ≡ Some (decoded step) = ap (λ o. Some o) result in
    let after = ended_after c j job.source step x some ends in
    let settled = settled_decoder x y u in
    let codec : y.codec ≡ decoder step.state = settled.0 ∙ after.0 in
    let geometry : y.geometry ≡ geometry_after step.given c.geometry = settled.1 ∙ after.1 in
    let size : y.formats.out.size ≡ c.formats.out.size = ap (λ z. z.out.size) settled.2 ∙ after.2 in
    let due : front_is_due (job.source ∷ []) c.mark ≡ true = ap (λ l. front_is_due l c.mark) (sym job.job) ∙ run.due in
    let from = length seg.bytes - tail_length c.codec in
    let dest = job.dest in
    let gave =
    gave_in c y from r.format.fourcc step
    (ended_gave c j job.source from step x y some s.firm.cap_side t (λ (n : c.cap.job ≡ []).
    blank_gives_no_buffer step (blank_run c r state seg there.1 run h (no_geometry c.geometry (sym (run.sort ∙ ap (λ z. sort_of z c.geometry) k) ∙ probe_only r.sort (sym dest ∙ ap length n)))))
    ends u) in
    let ran = after_decode seg r j step in
    let src = ran.sources ++ [] in
    let ret = ran.retired ++ done_now c y in
    let is : segment_of_step the_coder seg c y (Finishes false) (Finished word) ≡ record ran { sources = src; retired = ret } =
    finished_segment the_coder seg c y r word job.running ∙ ap (λ z. let w = after_run seg r j z in record w { sources = w.sources ++ []; retired = w.retired ++ done_now c y }) result in
    subst (λ z. IsDecoding z y) (sym is) (record {
      untouched = λ z. let a = ended_count c j job.source x ends in absurd (let b : buffer_count y.out ≡ buffer_count x.out = ap buffer_count settled.3 in omega arith);
      fresh = λ (z : first_of seg.first r ≡ None). absurd (first_some seg.first r z);
      blank = λ z. subst IsBlank (sym codec) (given_then_blank step step.given c.geometry (λ g. blank_run c r state seg there.1 run h g) refl (sym geometry ∙ z));
      limit = λ q (z : first_of seg.first r ≡ Some q). first_limit seg c r run h seg.first refl q z ∙ sym size;
      pairs =
          subst (λ l. OneForOne l (by_runs ret)) (sym (buffers_more seg.results from r.format.fourcc step.stamp step.given))
          (subst (OneForOne (in_buffers seg.results ++ in_buffers (with_result [] from r.format.fourcc step.stamp step.given)))
          (sym (filter-append is_by_run seg.retired (done_now c y)))
          (pairs_append (in_buffers seg.results) (in_buffers (with_result [] from r.format.fourcc step.stamp step.given)) (by_runs seg.retired) (by_runs (done_now c y)) h.pairs gave));
      pending =
          λ (z : cond (gave_change step.given) false true ≡ false).
          ap (λ q. front_is_due (q.job ++ q.ready) y.mark) settled.3
          ∙ (ap (λ m. front_is_due (x.out.job ++ x.out.ready) m) settled.4 ∙ ended_pending c j job.source step x some (change_is (gave_change step.given) z) due ends);
      stands =
          λ resuming q z.
          subst (λ w. IsStanding q.limit q.geometry ran.bytes ran.stamps ran.results ran.given w y.geometry) (sym codec)
          (subst (λ w. IsStanding q.limit q.geometry ran.bytes ran.stamps ran.results ran.given (decoder step.state) w) (sym geometry) (standing_then resuming seg c r state there.1 run h q z));
    })
  where
    change_is : (b : Bool) → cond b false true ≡ false → b ≡ true
    change_is true e = refl
    change_is false e = absurd (false≢true (sym e))

    first_limit : (seg : Segment) (c : Context) (r : Running) → IsRunOf c r → IsDecoding seg c → (first : Option Running) → seg.first ≡ first → (q : Running) → first_of first r ≡ Some q → q.limit ≡ c.formats.out.size
    first_limit seg c r t h None e q f = ap (λ z. z.limit) (let same : q ≡ r = cc in same) ∙ t.limit
    first_limit seg c r t h (Some p) e q f = ap (λ z. z.limit) (let same : q ≡ p = cc in same) ∙ h.limit p e

fault_decoder :
    (seg : Segment) (c : Context) (j : JobData) (b : Buffer) (x y : Context) (word : List ℕ) → IsOrdered c → c.kind ≡ Dec → Ends c j b None x
    → Settles x y → IsDecoding (segment_of_step the_coder seg c y (Finishes true) (Finished word)) y
fault_decoder seg c j b x y word s k ends u =
    anew y y.out.ready (reset_is c y.codec k s.firm.has_codec ((settled_decoder x y u).0 ∙ (faulted_codec c j b x refl ends).2))

claims_decoder :
    (seg : Segment) (c : Context) (b : Buffer) (rest : List Buffer) (z : QueueState) → z.done ≡ c.cap.done → front_is_due (b ∷ rest) c.mark ≡ true
    → IsTidy c → IsDecoding seg c
    → DecoderAt (Some (record c { out = lend_front c.out (b ∷ rest); cap = z; running = Some (running_of c (sort_of c.kind c.geometry)) }))
    (segment_of_step the_coder seg c (record c { out = lend_front c.out (b ∷ rest); cap = z; running = Some (running_of c (sort_of c.kind c.geometry)) }) Claims Claimed)
claims_decoder seg c b rest z d due t h =
    let y = record c { out = lend_front c.out (b ∷ rest); cap = z; running = Some (running_of c (sort_of c.kind c.geometry)) } in
    is_decoder y _ (carried seg c y (seg.sources ++ []) (seg.retired ++ done_now c y) refl refl refl (λ n. absurd (omega arith)) (λ e. due) (retired_more seg.retired (done_now c y) (quiet_runs c y d t)) h)

rests_decoder : (seg : Segment) (c : Context) → IsTidy c → IsDecoding seg c → IsDecoding (record seg { sources = seg.sources ++ []; retired = seg.retired ++ done_now c c }) c
rests_decoder seg c t h =
    carried seg c c (seg.sources ++ []) (seg.retired ++ done_now c c) refl refl refl (λ n. n) (λ d. d) (retired_more seg.retired (done_now c c) (quiet_runs c c refl t)) h

step_decoder :
    (seg : Segment) (c : Context) {e : SoloEvent} {told : SoloReply} {slot : Slot} → IsOrdered c → IsTidy c → c.kind ≡ Dec → IsDecoding seg c
    → Step the_coder c e told slot → DecoderAt slot (segment_of_slots the_coder seg (Some c) slot e told)
step_decoder seg c s t k h (calls {found = found} {handed = handed} f) =
    effect_decoder seg c found handed s t k h f (effect_runs c t f)
step_decoder seg c s t k h rests = is_decoder c _ (rests_decoder seg c t h)
step_decoder seg c s t k h (lacks_job {fault = fault} o) =
    is_decoder c _ (subst (λ z. IsDecoding z c) (sym (nothing_segment the_coder seg c fault o)) (rests_decoder seg c t h))
step_decoder seg c s t k h (claims b rest z e o j i p d (probes q)) = claims_decoder seg c b rest z refl d t h
step_decoder seg c s t k h (claims b rest z e o j i p d (runs w ws n m q)) = claims_decoder seg c b rest z refl d t h
step_decoder seg c s t k h (finishes {word = word} r x y job ends u v) =
    is_decoder y _ (finish_decoder seg c r job x y word s t k h ends u)
step_decoder seg c s t k h (faults {word = word} r x y job ends u) =
    is_decoder y _ (fault_decoder seg c (job_data c r) job.source x y word s k ends u)

-- Slots

open_decoder :
    (seg : Segment) (request : Call) (bytes : List ℕ) (found : Bool)
    → DecoderAt (closed_answer request found).slot
    (segment_of_slots the_coder seg None (closed_answer request found).slot (Called request bytes found) (Answered (closed_answer request found).reply (closed_answer request found).bytes))
unfolding closed_answer DecoderAt
open_decoder seg (Open Copy) bytes true = λ k. absurd (cc)
open_decoder seg (Open Enc) bytes true = λ k. absurd (cc)
open_decoder seg (Open Dec) bytes true = λ k. anew (fresh_context Dec) [] refl
open_decoder seg (Open kind) bytes false = tt
open_decoder seg request bytes found = tt

of_decoders : (c : Context) (slot : Slot) (seg : Segment) → KindSlot c slot → (c.kind ≡ Dec → DecoderAt slot seg) → DecoderAt slot seg
unfolding DecoderAt KindSlot
of_decoders c None seg k f = tt
of_decoders c (Some y) seg k f = λ q. f (sym k ∙ q) q

slot_decoder :
    (seg : Segment) (s : Slot) (e : SoloEvent) → IsOrderedSlot s → TidySlot s → DecoderAt s seg
    → DecoderAt (solo_step the_coder s e).slot (segment_of_slots the_coder seg s (solo_step the_coder s e).slot e (solo_step the_coder s e).told)
unfolding solo_step answer DecoderAt
slot_decoder seg None (Called request bytes found) h t w = open_decoder seg request bytes found
slot_decoder seg None Claims h t w = tt
slot_decoder seg None (Finishes fault) h t w = tt
slot_decoder seg (Some c) (Called request bytes found) h t w =
    let q = step_of the_coder c (Called request bytes found) h in
    of_decoders c _ _ (step_kind the_coder c q) (λ k. step_decoder seg c h t k (w k) q)
slot_decoder seg (Some c) Claims h t w =
    let q = step_of the_coder c Claims h in
    of_decoders c _ _ (step_kind the_coder c q) (λ k. step_decoder seg c h t k (w k) q)
slot_decoder seg (Some c) (Finishes fault) h t w =
    let q = step_of the_coder c (Finishes fault) h in
    of_decoders c _ _ (step_kind the_coder c q) (λ k. step_decoder seg c h t k (w k) q)

segment_decoder : (seg : Segment) (s : Slot) (e : SoloEvent) → IsOrderedSlot s → TidySlot s → DecoderAt s seg → DecoderAt (solo_step the_coder s e).slot (segment_step the_coder seg s e)
unfolding segment_step
segment_decoder seg s e h t w = slot_decoder seg s e h t w

always_decoder : (events : List SoloEvent) → DecoderAt (solo_slot the_coder None events) (segment_of the_coder events)
unfolding DecoderAt
always_decoder events =
    always_holds the_coder (λ seg s. DecoderAt s seg) segment_decoder (fresh_segment []) None events tt tt tt

-- what holds of the segment of an open decoder
pub decoding : (events : List SoloEvent) (c : Context) → solo_slot the_coder None events ≡ Some c → c.kind ≡ Dec → IsDecoding (segment_of the_coder events) c
unfolding DecoderAt
decoding events c at k = subst (λ z. DecoderAt z (segment_of the_coder events)) at (always_decoder events) k
