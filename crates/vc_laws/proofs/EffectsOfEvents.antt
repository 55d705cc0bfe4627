-- What an event does to an open slot that is sound, by the few ways in which a call, a claim or a finish can go. A
-- call has one of the effects of calls; a claim moves buffers into the job; a finish moves them out and puts its
-- result, an error or nothing into the destination.
use Rattle.std.proofs.Common.{ℕ, ◌≡◌, ◌≤◌, ◌+◌, ◌==◌, nat_lt, Bool, true, false, not, cond, ◌&&◌, ◌||◌, is_none, Option, Some, None, List, [], ◌∷◌, ◌++◌, length, refl, sym, ap, ◌∙◌, subst, arith, ⊎_elim}
use Rattle.std.proofs.lemmas.Bool.{false≢true, lt-ltb, ltb-true}
use Rattle.vc_base.specs.declared.Stamp.{Stamp}
use Rattle.vc_base.specs.declared.Kind.{Kind}
use Rattle.vc_base.specs.declared.Kind.TheVariants.{Copy, Enc, Dec}
use Rattle.vc_base.specs.declared.Call.{Call}
use Rattle.vc_base.specs.declared.Reply.{Reply}
use Rattle.vc_base.specs.Buffers.{Buffer, QueueState, is_empty, lend_front, lend_after, give_back_from, retire_from}
use Rattle.vc_base.specs.Limits.{last_flag, error_flag, eos_event, source_change_event}
use Rattle.vc_base.specs.Events.{EventState, raise_after}
use Rattle.vc_defs.specs.declared.Geometry.{Geometry}
use Rattle.vc_defs.specs.Raw.{raw_of}
use Rattle.vc_defs.specs.Decoder.{FrameResult, ResultKind, Picture, Damaged, Changed, DecodedStep, changed, outcome_of, outcome_of_result}
use Rattle.vc_defs.specs.Encoder.{EncodedFrame}
use Rattle.vc_model.specs.Formats.{formats_found}
use Rattle.vc_model.specs.Coder.{Coder, CodecState, encoder, decoder, reset}
use Rattle.vc_model.specs.Context.{Context, Slot, Running, RunSort, copy, encode, decode, probe, drain, change, PhaseState, owe, last, is_dec, is_run, is_drained, has_before}
use Rattle.vc_model.specs.Runs.{front_is_due, is_unknown, ready_for_probe, ready_for_run, is_claimable, sort_of, cap_after_claim, running_of, claim_front}
use Rattle.vc_model.specs.Runs.{after_claim, JobData, job_data, RunResult, copied, encoded, decoded, run_result, source_moved, dest_done, type_flag}
use Rattle.vc_model.specs.Runs.{decoded_effect, run_effect, fault_effect, after_finish, finish_word}
use Rattle.vc_model.specs.Solo.{SoloEvent, Called, Claims, Finishes, SoloReply, Answered, Claimed, Finished, Nothing, solo_step, claim_step, solo_finish}
use Rattle.vc_model.specs.Sound.{CountsUp, HasItsBuffers, dest_count, IsOrdered}
use Rattle.vc_model.proofs.PartsOfTests.{and_left, and_right, not_true, not_false, or_cases}
use Rattle.vc_model.specs.Answer.{answer}
use Rattle.vc_model.proofs.CallsKeepFirm.{without_job}
use Rattle.vc_laws.proofs.EffectsOfCalls.{Settles, settle_is, Effect, effect_of}

-- Claims

-- CAPTURE after a claim: a probe takes no buffer of it, and a run the front one
pub data ClaimsCap (c : Context) (sort : RunSort) : QueueState → Type 0 where
  probes : sort ≡ probe → ClaimsCap c sort c.cap
  runs : (d : Buffer) (ds : List Buffer) → dest_count sort ≡ 1 → c.cap.streams ≡ true → c.cap.ready ≡ d ∷ ds → ClaimsCap c sort (lend_front c.cap (d ∷ ds))

probe_sort : (kind : Kind) (g : Option Geometry) → (is_dec kind && is_none g) ≡ true → sort_of kind g ≡ probe
probe_sort Copy g e = absurd (false≢true e)
probe_sort Enc g e = absurd (false≢true e)
probe_sort Dec None e = refl
probe_sort Dec (Some g) e = absurd (false≢true e)

run_sort : (kind : Kind) (g : Option Geometry) → (is_dec kind && is_none g) ≡ false → dest_count (sort_of kind g) ≡ 1
run_sort Copy g e = refl
run_sort Enc g e = refl
run_sort Dec None e = absurd (false≢true (sym e))
run_sort Dec (Some g) e = refl

run_takes : (sort : RunSort) (q : QueueState) → dest_count sort ≡ 1 → cap_after_claim sort q ≡ lend_after q
run_takes copy q e = refl
run_takes encode q e = refl
run_takes decode q e = refl
run_takes probe q e = absurd (omega arith)

abbrev probe_parts : Context → Type 0
probe_parts c = (is_unknown c ≡ true) × (c.out.streams ≡ true) × (is_run c.phase ≡ true) × (front_is_due c.out.ready c.mark ≡ true)

parts_of_probe : (c : Context) → ready_for_probe c ≡ true → probe_parts c
parts_of_probe c p =
    let a = and_right (is_unknown c) (c.out.streams && (is_run c.phase && front_is_due c.out.ready c.mark)) p in
    let b = and_right c.out.streams (is_run c.phase && front_is_due c.out.ready c.mark) a in
    (and_left (is_unknown c) _ p, and_left c.out.streams _ a, and_left (is_run c.phase) _ b, and_right (is_run c.phase) _ b)

abbrev run_parts : Context → Type 0
run_parts c = (c.out.streams ≡ true) × (c.cap.streams ≡ true) × (not (is_empty c.out.ready) ≡ true) × (not (is_empty c.cap.ready) ≡ true) × (is_run c.phase ≡ true) × (is_unknown c ≡ false)

parts_of_run : (c : Context) → ready_for_run c ≡ true → run_parts c
parts_of_run c p =
    let x = and_left (c.out.streams && c.cap.streams) ((not (is_empty c.out.ready) && not (is_empty c.cap.ready)) && (is_run c.phase && not (is_unknown c))) p in
    let y = and_right (c.out.streams && c.cap.streams) ((not (is_empty c.out.ready) && not (is_empty c.cap.ready)) && (is_run c.phase && not (is_unknown c))) p in
    let u = and_left (not (is_empty c.out.ready) && not (is_empty c.cap.ready)) (is_run c.phase && not (is_unknown c)) y in
    let v = and_right (not (is_empty c.out.ready) && not (is_empty c.cap.ready)) (is_run c.phase && not (is_unknown c)) y in (
      and_left c.out.streams c.cap.streams x,
      and_right c.out.streams c.cap.streams x,
      and_left (not (is_empty c.out.ready)) _ u,
      and_right (not (is_empty c.out.ready)) _ u,
      and_left (is_run c.phase) _ v,
      not_true (is_unknown c) (and_right (is_run c.phase) _ v),
    )

-- The front ready OUTPUT buffer has the smallest ordinal, so it is due where any is before the mark.

pub before_first : (bs : List Buffer) (first next mark : ℕ) → CountsUp bs first next → has_before bs mark ≡ true → nat_lt first mark ≡ true
before_first [] first next mark u h = absurd (false≢true h)
before_first (b ∷ bs) first next mark u h =
    ⊎_elim (λ (e : nat_lt b.ordinal mark ≡ true). ap (λ n. nat_lt n mark) (sym u.0) ∙ e)
    (λ (e : has_before bs mark ≡ true). let l = ltb-true (first + 1) mark (before_first bs (first + 1) next mark u.1 e) in lt-ltb first mark (omega arith))
    (or_cases (nat_lt b.ordinal mark) (has_before bs mark) h)

run_due : (b : Buffer) (rest : List Buffer) (mark : Option ℕ) (first next : ℕ) → CountsUp (b ∷ rest) first next → is_drained (b ∷ rest) mark ≡ false → front_is_due (b ∷ rest) mark ≡ true
run_due b rest None first next u e = refl
run_due b rest (Some m) first next u e =
    ap (λ n. nat_lt n m) u.0 ∙ before_first (b ∷ rest) first next m u (not_false (has_before (b ∷ rest) m) e)

not_put_off : (p s r d : Bool) → p ≡ true → s ≡ true → r ≡ true → (p && (s && (r && d))) ≡ false → d ≡ false
not_put_off true true true d a b c e = e
not_put_off true true false d a b c e = absurd (false≢true c)
not_put_off true false r d a b c e = absurd (false≢true b)
not_put_off false s r d a b c e = absurd (false≢true a)

-- Finishes

-- OUTPUT after the source went to done with flags, and after it went back with its new cursor
abbrev pub done_out : QueueState → Buffer → ℕ → QueueState
done_out q b flags = retire_from q (b ∷ []) b.used b.bytes flags b.stamp

abbrev pub back_out : QueueState → Buffer → ℕ → QueueState
back_out q b cursor = give_back_from q (b ∷ []) cursor b.bytes

abbrev pub moved_out : QueueState → Buffer → ℕ → ℕ → Bool → QueueState
moved_out q b flags cursor true = done_out q b flags
moved_out q b flags cursor false = back_out q b cursor

abbrev pub done_cap : QueueState → Buffer → ℕ → List ℕ → ℕ → Stamp → QueueState
done_cap q d used bytes flags stamp = retire_from q (d ∷ []) used bytes flags stamp

-- What a run puts into the CAPTURE buffer, for each outcome that puts something there; None is an engine fault. Whether
-- the source is used up, with its flags and cursor, and the codec state then, go with it.
pub data Puts (c : Context) (j : JobData) (b : Buffer) : Option RunResult → Bool → ℕ → ℕ → CodecState → ℕ → List ℕ → ℕ → Stamp → Type 0 where
  puts_fault : (cursor : ℕ) → Puts c j b None true error_flag cursor (reset c.codec) 0 [] error_flag b.stamp
  puts_copy : (bytes : List ℕ) (cursor : ℕ) → Puts c j b (Some (copied bytes)) true 0 cursor c.codec (length bytes) bytes 0 b.stamp
  puts_frame : (frame : EncodedFrame) (cursor : ℕ) → Puts c j b (Some (encoded frame)) true 0 cursor (encoder frame.state) (length frame.bytes) frame.bytes (type_flag frame.key) b.stamp
  puts_picture :
      (step : DecodedStep) (r : FrameResult) (geometry : Geometry) (key : Bool) (planes : List (List ℕ)) → step.given ≡ Some r
      → r.kind ≡ Picture geometry key planes
      → Puts c j b (Some (decoded step)) (b.cursor + step.moved == b.used) 0 (b.cursor + step.moved) (decoder step.state)
      (length (raw_of j.format.fourcc planes)) (raw_of j.format.fourcc planes) (type_flag key) step.stamp
  puts_damage : (step : DecodedStep) (r : FrameResult) → step.given ≡ Some r → r.kind ≡ Damaged → Puts c j b (Some (decoded step)) (b.cursor + step.moved == b.used) 0 (b.cursor + step.moved) (decoder step.state) 0 [] error_flag step.stamp

-- CAPTURE with its buffer given back, where the run took one
pub data Returns (k : QueueState) : QueueState → Type 0 where
  none_taken : k.job ≡ [] → Returns k k
  given_back : (d : Buffer) → k.job ≡ d ∷ [] → Returns k (give_back_from k (d ∷ []) 0 [])

-- the context after the end of the job, but for settling
pub data Ends (c : Context) (j : JobData) (b : Buffer) : Option RunResult → Context → Type 0 where
  alone :
      {result : Option RunResult} (up : Bool) (flags cursor : ℕ) (codec : CodecState) (used : ℕ) (bytes : List ℕ) (dest_flags : ℕ) (stamp : Stamp)
      → Puts c j b result up flags cursor codec used bytes dest_flags stamp → c.cap.job ≡ []
      → Ends c j b result (record c { out = moved_out c.out b flags cursor up; codec = codec; running = None })
  kept :
      {result : Option RunResult} (up : Bool) (flags cursor : ℕ) (codec : CodecState) (used : ℕ) (bytes : List ℕ) (dest_flags : ℕ) (stamp : Stamp) (d : Buffer)
      → Puts c j b result up flags cursor codec used bytes dest_flags stamp → c.cap.job ≡ d ∷ []
      → Ends c j b result (record c { out = moved_out c.out b flags cursor up; cap = done_cap c.cap d used bytes dest_flags stamp; codec = codec; running = None })
  ended :
      {result : Option RunResult} (flags cursor : ℕ) (codec : CodecState) (used : ℕ) (bytes : List ℕ) (dest_flags : ℕ) (stamp : Stamp) (d : Buffer) (up : Bool)
      → Puts c j b result up flags cursor codec used bytes dest_flags stamp → up ≡ true → c.cap.job ≡ d ∷ [] → is_drained c.out.ready c.mark ≡ true
      → Ends c j b result
      (record c
      { out = done_out c.out b flags; cap = done_cap c.cap d used bytes (dest_flags + last_flag) stamp; phase = last drain; events = raise_after c.events eos_event 0; codec = codec; running = None })
  halts :
      (step : DecodedStep) (r : FrameResult) (geometry : Geometry) (k : QueueState) (phase : PhaseState) (events : EventState) → step.given ≡ Some r
      → r.kind ≡ Changed geometry → Returns c.cap k → phase ≡ cond c.cap.streams (owe change) c.phase
      → Ends c j b (Some (decoded step))
      (record c {
        out = back_out c.out b (b.cursor + step.moved);
        cap = k;
        codec = decoder step.state;
        geometry = Some geometry;
        formats = formats_found c.formats geometry;
        events = events;
        phase = phase;
        running = None;
      })
  spends : (step : DecodedStep) (k : QueueState) → step.given ≡ None → Returns c.cap k → Ends c j b (Some (decoded step)) (record c { out = done_out c.out b 0; cap = k; codec = decoder step.state; running = None })

-- the context with these buffers in the job
abbrev with_jobs : Context → Buffer → List Buffer → Context
with_jobs c b ds = record c { out = record c.out { job = b ∷ [] }; cap = record c.cap { job = ds } }

same_jobs : (c : Context) (b : Buffer) (ds : List Buffer) → c.out.job ≡ b ∷ [] → c.cap.job ≡ ds → c ≡ with_jobs c b ds
same_jobs c b ds e d =
    ap (λ l. record c { out = record c.out { job = l } }) e ∙ ap (λ l. record c { out = record c.out { job = b ∷ [] }; cap = record c.cap { job = l } }) d

-- what becomes of the destination
dest_ends :
    (c : Context) (j : JobData) (b : Buffer) (ds : List Buffer) (result : Option RunResult) (up : Bool) (flags cursor : ℕ) (codec : CodecState)
    (used : ℕ) (bytes : List ℕ) (dest_flags : ℕ) (stamp : Stamp)
    → length ds ≤ 1 → Puts (with_jobs c b ds) j b result up flags cursor codec used bytes dest_flags stamp
    → Ends (with_jobs c b ds) j b result
    (dest_done (record (with_jobs c b ds) { out = moved_out (with_jobs c b ds).out b flags cursor up; codec = codec; running = None }) ds up used bytes dest_flags stamp)
dest_ends c j b [] result up flags cursor codec used bytes dest_flags stamp n p =
    alone up flags cursor codec used bytes dest_flags stamp p refl
dest_ends c j b (d ∷ []) result false flags cursor codec used bytes dest_flags stamp n p =
    kept false flags cursor codec used bytes dest_flags stamp d p refl
dest_ends c j b (d ∷ []) result true flags cursor codec used bytes dest_flags stamp n p =
    split (is_drained c.out.ready c.mark) refl
  where
    split :
        (t : Bool) → is_drained c.out.ready c.mark ≡ t
        → Ends (with_jobs c b (d ∷ [])) j b result
        (cond t
        (record (with_jobs c b (d ∷ [])) {
          out = done_out (with_jobs c b (d ∷ [])).out b flags;
          cap = done_cap (with_jobs c b (d ∷ [])).cap d used bytes (dest_flags + last_flag) stamp;
          phase = last drain;
          events = raise_after c.events eos_event 0;
          codec = codec;
          running = None;
        })
        (record (with_jobs c b (d ∷ []))
        { out = done_out (with_jobs c b (d ∷ [])).out b flags; cap = done_cap (with_jobs c b (d ∷ [])).cap d used bytes dest_flags stamp; codec = codec; running = None }))
    split true e = ended flags cursor codec used bytes dest_flags stamp d true p refl refl e
    split false e = kept true flags cursor codec used bytes dest_flags stamp d p refl
dest_ends c j b (d ∷ (x ∷ ds)) result up flags cursor codec used bytes dest_flags stamp n p = absurd (omega arith)

-- the run of a decoder, by its result
abbrev Decodes : Context → Running → Buffer → List Buffer → DecodedStep → Option FrameResult → Type 0
Decodes c r b ds step given =
    let x = with_jobs c b ds in
    Ends x (job_data x r) b (Some (decoded step)) (decoded_effect (record x { running = None; codec = decoder step.state }) (job_data x r) (b.cursor + step.moved) (outcome_of_result r.format.fourcc given step.stamp))

moved_ends :
    (c : Context) (r : Running) (b : Buffer) (ds : List Buffer) (step : DecodedStep) (up : Bool) (used : ℕ) (bytes : List ℕ) (flags : ℕ)
    → length ds ≤ 1
    → Puts (with_jobs c b ds) (job_data (with_jobs c b ds) r) b (Some (decoded step)) up 0 (b.cursor + step.moved) (decoder step.state) used bytes flags step.stamp
    → Ends (with_jobs c b ds) (job_data (with_jobs c b ds) r) b (Some (decoded step))
    (dest_done (source_moved (record (with_jobs c b ds) { running = None; codec = decoder step.state }) (job_data (with_jobs c b ds) r) (b.cursor + step.moved) up) ds up used bytes flags step.stamp)
moved_ends c r b ds step true used bytes flags n p =
    dest_ends c (job_data (with_jobs c b ds) r) b ds (Some (decoded step)) true 0 (b.cursor + step.moved) (decoder step.state) used bytes flags step.stamp n p
moved_ends c r b ds step false used bytes flags n p =
    dest_ends c (job_data (with_jobs c b ds) r) b ds (Some (decoded step)) false 0 (b.cursor + step.moved) (decoder step.state) used bytes flags step.stamp n p

change_ends :
    (c : Context) (r : Running) (b : Buffer) (ds : List Buffer) (step : DecodedStep) (f : FrameResult) (geometry : Geometry) → length ds ≤ 1
    → step.given ≡ Some f → f.kind ≡ Changed geometry
    → Ends (with_jobs c b ds) (job_data (with_jobs c b ds) r) b (Some (decoded step))
    (decoded_effect (record (with_jobs c b ds) { running = None; codec = decoder step.state }) (job_data (with_jobs c b ds) r) (b.cursor + step.moved) (changed geometry))
change_ends c r b [] step f geometry n e k = split c.cap.streams refl
  where
    split :
        (t : Bool) → c.cap.streams ≡ t
        → Ends (with_jobs c b []) (job_data (with_jobs c b []) r) b (Some (decoded step))
        (cond t
        (record (with_jobs c b []) {
          out = back_out (with_jobs c b []).out b (b.cursor + step.moved);
          codec = decoder step.state;
          geometry = Some geometry;
          formats = formats_found c.formats geometry;
          events = raise_after c.events source_change_event 1;
          phase = owe change;
          running = None;
        })
        (record (with_jobs c b []) {
          out = back_out (with_jobs c b []).out b (b.cursor + step.moved);
          codec = decoder step.state;
          geometry = Some geometry;
          formats = formats_found c.formats geometry;
          events = raise_after c.events source_change_event 1;
          running = None;
        }))
    split true s = halts step f geometry _ (owe change) _ e k (none_taken refl) (ap (λ t. cond t (owe change) c.phase) (sym s))
    split false s = halts step f geometry _ c.phase _ e k (none_taken refl) (ap (λ t. cond t (owe change) c.phase) (sym s))
change_ends c r b (d ∷ []) step f geometry n e k = split c.cap.streams refl
  where
    split :
        (t : Bool) → c.cap.streams ≡ t
        → Ends (with_jobs c b (d ∷ [])) (job_data (with_jobs c b (d ∷ [])) r) b (Some (decoded step))
        (cond t
        (record (with_jobs c b (d ∷ [])) {
          out = back_out (with_jobs c b (d ∷ [])).out b (b.cursor + step.moved);
          cap = give_back_from (with_jobs c b (d ∷ [])).cap (d ∷ []) 0 [];
          codec = decoder step.state;
          geometry = Some geometry;
          formats = formats_found c.formats geometry;
          events = raise_after c.events source_change_event 1;
          phase = owe change;
          running = None;
        })
        (record (with_jobs c b (d ∷ [])) {
          out = back_out (with_jobs c b (d ∷ [])).out b (b.cursor + step.moved);
          cap = give_back_from (with_jobs c b (d ∷ [])).cap (d ∷ []) 0 [];
          codec = decoder step.state;
          geometry = Some geometry;
          formats = formats_found c.formats geometry;
          events = raise_after c.events source_change_event 1;
          running = None;
        }))
    split true s = halts step f geometry _ (owe change) _ e k (given_back d refl) (ap (λ t. cond t (owe change) c.phase) (sym s))
    split false s = halts step f geometry _ c.phase _ e k (given_back d refl) (ap (λ t. cond t (owe change) c.phase) (sym s))
change_ends c r b (d ∷ (x ∷ ds)) step f geometry n e k = absurd (omega arith)

kind_ends :
    (c : Context) (r : Running) (b : Buffer) (ds : List Buffer) (step : DecodedStep) (f : FrameResult) (kind : ResultKind) → length ds ≤ 1
    → step.given ≡ Some f → f.kind ≡ kind
    → Ends (with_jobs c b ds) (job_data (with_jobs c b ds) r) b (Some (decoded step))
    (decoded_effect (record (with_jobs c b ds) { running = None; codec = decoder step.state }) (job_data (with_jobs c b ds) r) (b.cursor + step.moved) (outcome_of r.format.fourcc kind step.stamp))
kind_ends c r b ds step f (Picture geometry key planes) n e k =
    moved_ends c r b ds step (b.cursor + step.moved == b.used) _ _ (type_flag key) n (puts_picture step f geometry key planes e k)
kind_ends c r b ds step f Damaged n e k =
    moved_ends c r b ds step (b.cursor + step.moved == b.used) 0 [] error_flag n (puts_damage step f e k)
kind_ends c r b ds step f (Changed geometry) n e k = change_ends c r b ds step f geometry n e k

given_ends : (c : Context) (r : Running) (b : Buffer) (ds : List Buffer) (step : DecodedStep) (given : Option FrameResult) → length ds ≤ 1 → step.given ≡ given → Decodes c r b ds step given
given_ends c r b [] step None n e = spends step _ e (none_taken refl)
given_ends c r b (d ∷ []) step None n e = spends step _ e (given_back d refl)
given_ends c r b (d ∷ (x ∷ ds)) step None n e = absurd (omega arith)
given_ends c r b ds step (Some f) n e = kind_ends c r b ds step f f.kind n e refl

result_ends :
    (c : Context) (r : Running) (b : Buffer) (ds : List Buffer) (result : RunResult) → length ds ≤ 1
    → Ends (with_jobs c b ds) (job_data (with_jobs c b ds) r) b (Some result) (run_effect (record (with_jobs c b ds) { running = None }) (job_data (with_jobs c b ds) r) result)
result_ends c r b ds (copied bytes) n =
    dest_ends c (job_data (with_jobs c b ds) r) b ds (Some (copied bytes)) true 0 0 c.codec (length bytes) bytes 0 b.stamp n (puts_copy bytes 0)
result_ends c r b ds (encoded frame) n =
    dest_ends c (job_data (with_jobs c b ds) r) b ds (Some (encoded frame)) true 0 0 (encoder frame.state) (length frame.bytes) frame.bytes (type_flag frame.key) b.stamp n (puts_frame frame 0)
result_ends c r b ds (decoded step) n = given_ends c r b ds step step.given n refl

fault_ends :
    (c : Context) (r : Running) (b : Buffer) (ds : List Buffer) → length ds ≤ 1
    → Ends (with_jobs c b ds) (job_data (with_jobs c b ds) r) b None (fault_effect (record (with_jobs c b ds) { running = None }) (job_data (with_jobs c b ds) r))
fault_ends c r b ds n =
    dest_ends c (job_data (with_jobs c b ds) r) b ds None true error_flag 0 (reset c.codec) 0 [] error_flag b.stamp n (puts_fault 0)

run_ends :
    (c : Context) (r : Running) (b : Buffer) (ds : List Buffer) (result : RunResult) → c.out.job ≡ b ∷ [] → c.cap.job ≡ ds → length ds ≤ 1
    → Ends c (job_data c r) b (Some result) (run_effect (record c { running = None }) (job_data c r) result)
run_ends c r b ds result e d n =
    subst (λ x. Ends x (job_data x r) b (Some result) (run_effect (record x { running = None }) (job_data x r) result)) (sym (same_jobs c b ds e d)) (result_ends c r b ds result n)

faulted_ends : (c : Context) (r : Running) (b : Buffer) (ds : List Buffer) → c.out.job ≡ b ∷ [] → c.cap.job ≡ ds → length ds ≤ 1 → Ends c (job_data c r) b None (fault_effect (record c { running = None }) (job_data c r))
faulted_ends c r b ds e d n =
    subst (λ x. Ends x (job_data x r) b None (fault_effect (record x { running = None }) (job_data x r))) (sym (same_jobs c b ds e d)) (fault_ends c r b ds n)

-- Steps

-- the job of a running context
pub record HasJob (c : Context) (r : Running) : Type 0 where
  pub running : c.running ≡ Some r
  pub runs : is_run c.phase ≡ true
  pub source : Buffer
  pub job : c.out.job ≡ source ∷ []
  pub dest : length c.cap.job ≡ dest_count r.sort

pub data Step (coder : Coder) (c : Context) : SoloEvent → SoloReply → Slot → Type 0 where
  calls : {request : Call} {bytes : List ℕ} {found : Bool} {reply : Reply} {handed : List ℕ} {slot : Slot} → Effect c request bytes reply slot → Step coder c (Called request bytes found) (Answered reply handed) slot
  rests : Step coder c Claims Nothing (Some c)
  lacks_job : {fault : Bool} → c.running ≡ None → Step coder c (Finishes fault) Nothing (Some c)
  claims :
      (b : Buffer) (rest : List Buffer) (k : QueueState) → c.out.ready ≡ b ∷ rest → c.running ≡ None → c.out.job ≡ [] → c.cap.job ≡ []
      → is_run c.phase ≡ true → front_is_due (b ∷ rest) c.mark ≡ true → ClaimsCap c (sort_of c.kind c.geometry) k
      → Step coder c Claims Claimed (Some (record c { out = lend_front c.out (b ∷ rest); cap = k; running = Some (running_of c (sort_of c.kind c.geometry)) }))
  finishes :
      {word : List ℕ} (r : Running) (x y : Context) (job : HasJob c r) → Ends c (job_data c r) job.source (Some (run_result coder (job_data c r))) x
      → Settles x y → word ≡ finish_word coder (job_data c r) false → Step coder c (Finishes false) (Finished word) (Some y)
  faults : {word : List ℕ} (r : Running) (x y : Context) (job : HasJob c r) → Ends c (job_data c r) job.source None x → Settles x y → Step coder c (Finishes true) (Finished word) (Some y)

-- the claim over the list of ready OUTPUT buffers
claims_front :
    (coder : Coder) (c : Context) (ready : List Buffer) (sort : RunSort) → sort_of c.kind c.geometry ≡ sort → c.out.ready ≡ ready → c.running ≡ None
    → c.out.job ≡ [] → c.cap.job ≡ [] → is_run c.phase ≡ true → front_is_due ready c.mark ≡ true
    → ClaimsCap c (sort_of c.kind c.geometry) (cap_after_claim (sort_of c.kind c.geometry) c.cap)
    → Step coder c Claims Claimed (Some (claim_front c (sort_of c.kind c.geometry) ready))
claims_front coder c [] sort t e n o k p d q = absurd (false≢true d)
claims_front coder c (b ∷ rest) sort t e n o k p d q =
    subst (λ l.
    Step coder c Claims Claimed (Some (record c { out = lend_front c.out l; cap = cap_after_claim (sort_of c.kind c.geometry) c.cap; running = Some (running_of c (sort_of c.kind c.geometry)) })))
    (sym e) (claims b rest (cap_after_claim (sort_of c.kind c.geometry) c.cap) e n o k p d q)

probing_cap : (c : Context) (sort : RunSort) → sort ≡ probe → ClaimsCap c sort (cap_after_claim sort c.cap)
probing_cap c sort e = subst (λ q. ClaimsCap c sort q) (sym (ap (λ t. cap_after_claim t c.cap) e)) (probes e)

running_cap : (c : Context) (sort : RunSort) (ready : List Buffer) → dest_count sort ≡ 1 → c.cap.streams ≡ true → c.cap.ready ≡ ready → not (is_empty ready) ≡ true → ClaimsCap c sort (lend_front c.cap ready)
running_cap c sort [] n s e h = absurd (false≢true h)
running_cap c sort (d ∷ ds) n s e h = runs d ds n s e

taking_cap : (c : Context) (sort : RunSort) → dest_count sort ≡ 1 → c.cap.streams ≡ true → not (is_empty c.cap.ready) ≡ true → ClaimsCap c sort (cap_after_claim sort c.cap)
taking_cap c sort n s h =
    subst (λ q. ClaimsCap c sort q) (sym (run_takes sort c.cap n)) (running_cap c sort c.cap.ready n s refl h)

due_now : (ready : List Buffer) (mark : Option ℕ) (first next : ℕ) → not (is_empty ready) ≡ true → CountsUp ready first next → is_drained ready mark ≡ false → front_is_due ready mark ≡ true
due_now [] mark first next h u e = absurd (false≢true h)
due_now (b ∷ rest) mark first next h u e = run_due b rest mark first next u e

none_is : (o : Option Running) → is_none o ≡ true → o ≡ None
none_is None e = refl
none_is (Some r) e = absurd (false≢true e)

claimed : (coder : Coder) (c : Context) → is_claimable (Some c) ≡ true → IsOrdered c → Step coder c Claims Claimed (Some (after_claim c))
unfolding is_claimable after_claim
claimed coder c p s =
    let n = and_left (is_none c.running) (ready_for_probe c || ready_for_run c) p in
    let jobs = without_job c s.firm n in
    let u = subst (λ l. CountsUp (l ++ c.out.ready) s.firm.out.latest.first c.out.next_ordinal) jobs.0 s.firm.out.latest.counts in
    ⊎_elim (λ (q : ready_for_probe c ≡ true).
    let t = parts_of_probe c q in
    claims_front coder c c.out.ready (sort_of c.kind c.geometry) refl refl (none_is c.running n) jobs.0 jobs.1 t.2 t.3 (probing_cap c (sort_of c.kind c.geometry) (probe_sort c.kind c.geometry t.0)))
    (λ (q : ready_for_run c ≡ true).
    let t = parts_of_run c q in
    claims_front coder c c.out.ready (sort_of c.kind c.geometry) refl refl (none_is c.running n) jobs.0 jobs.1 t.4
    (due_now c.out.ready c.mark s.firm.out.latest.first c.out.next_ordinal t.2 u
    (not_put_off (is_run c.phase) c.cap.streams (is_none c.running) (is_drained c.out.ready c.mark) t.4 t.1 n s.settled.noted))
    (taking_cap c (sort_of c.kind c.geometry) (run_sort c.kind c.geometry t.5) t.1 t.3))
    (or_cases (ready_for_probe c) (ready_for_run c) (and_right (is_none c.running) (ready_for_probe c || ready_for_run c) p))

claim_is : (coder : Coder) (c : Context) (b : Bool) → is_claimable (Some c) ≡ b → IsOrdered c → Step coder c Claims (claim_step (Some c) b).told (claim_step (Some c) b).slot
claim_is coder c true e s = claimed coder c e s
claim_is coder c false e s = rests

one_job : (bs : List Buffer) → length bs ≡ 1 → (b : Buffer) × (bs ≡ b ∷ [])
one_job [] n = absurd (omega arith)
one_job (b ∷ []) n = (b, refl)
one_job (b ∷ (x ∷ bs)) n = absurd (omega arith)

job_of : (c : Context) (r : Running) → c.running ≡ Some r → HasItsBuffers c (Some r) → HasJob c r
job_of c r e h =
    let b = one_job c.out.job h.1 in record { running = e; runs = h.0; source = b.0; job = b.1; dest = h.2 }

few_dests : (sort : RunSort) → dest_count sort ≤ 1
few_dests copy = omega arith
few_dests encode = omega arith
few_dests decode = omega arith
few_dests probe = omega arith

finish_is : (coder : Coder) (c : Context) (r : Running) (fault : Bool) → c.running ≡ Some r → HasItsBuffers c (Some r) → Step coder c (Finishes fault) (Finished (finish_word coder (job_data c r) fault)) (Some (after_finish coder c r fault))
unfolding after_finish
finish_is coder c r false e h =
    let j = job_of c r e h in
    let few = few_dests r.sort in
    let d = j.dest in
    finishes r _ _ j (run_ends c r j.source c.cap.job (run_result coder (job_data c r)) j.job refl (omega arith)) (settle_is _) refl
finish_is coder c r true e h =
    let j = job_of c r e h in
    let few = few_dests r.sort in
    let d = j.dest in
    faults r _ _ j (faulted_ends c r j.source c.cap.job j.job refl (omega arith)) (settle_is _)

finish_job_is : (coder : Coder) (c : Context) (o : Option Running) (fault : Bool) → c.running ≡ o → HasItsBuffers c o → Step coder c (Finishes fault) (solo_finish coder c o fault).told (solo_finish coder c o fault).slot
finish_job_is coder c None fault e h = lacks_job e
finish_job_is coder c (Some r) fault e h = finish_is coder c r fault e h

-- every step of an open slot that is sound
pub step_of : (coder : Coder) (c : Context) (e : SoloEvent) → IsOrdered c → Step coder c e (solo_step coder (Some c) e).told (solo_step coder (Some c) e).slot
unfolding solo_step answer
step_of coder c (Called request bytes found) s = calls (effect_of c request bytes found s)
step_of coder c Claims s = claim_is coder c (is_claimable (Some c)) refl s
step_of coder c (Finishes fault) s = finish_job_is coder c c.running fault refl s.firm.has_buffers
