-- A context that is sound but for what settling puts right is settled into a sound one, and it stays so where a part
-- of it is changed alone: a queue, the formats, rates or events. Settling gives a LAST buffer that is owed and ends
-- the drain that is due, and touches nothing else that soundness speaks of.
use Rattle.std.proofs.Common.{◌≡◌, eqb, nat_le, Bool, true, false, not, cond, ◌&&◌, is_none, Option, Some, None, List, [], ◌∷◌, ◌++◌, length, refl, sym, ap, ◌∙◌, subst}
use Rattle.std.specs.Prelude.{bit_and}
use Rattle.std.specs.List.{list_all}
use Rattle.std.proofs.lemmas.Bool.{false≢true}
use Rattle.vc_base.specs.declared.Side.TheVariants.{Out, Cap}
use Rattle.vc_base.specs.declared.Kind.{Kind}
use Rattle.vc_base.specs.declared.Kind.TheVariants.{Copy, Enc, Dec}
use Rattle.vc_base.specs.Buffers.{Buffer, QueueState, lend_front, retire_after, zero_stamp}
use Rattle.vc_base.specs.Limits.{last_flag}
use Rattle.vc_base.specs.Events.{EventState}
use Rattle.vc_defs.specs.declared.Geometry.{Geometry}
use Rattle.vc_model.specs.Formats.{FormatPair}
use Rattle.vc_model.specs.Coder.{CodecState, no_codec, encoder, decoder, reset}
use Rattle.vc_defs.specs.Encoder.{RunRates}
use Rattle.vc_model.specs.Context.{Context, Running, Cause, drain, change, PhaseState, run, owe, last, stopped, is_run, is_drain, is_drained, sizeimage, raise_end, settle, settle_drain, settle_last, give_last}
use Rattle.vc_model.specs.Sound.{IsSoundQueue, HasItsBuffers, HasCodec, ends_with_last, is_last, stops_by_change, AreLong, drain_not_noted, is_at_end, MarkIsQueued, IsSoundButUnsettled, IsOrdered}
use Rattle.vc_model.proofs.PartsOfTests.{and_left, and_right}
use Rattle.vc_model.proofs.QueuesKeepSound.{no_longer, lend_sound, retire_sound}
use Rattle.vc_model.proofs.SettlingSettles.{settled_by}

-- Phases

pub run_no_change : (p : PhaseState) → is_run p ≡ true → stops_by_change p ≡ false
run_no_change run e = refl
run_no_change (owe cause) e = absurd (false≢true e)
run_no_change (last cause) e = absurd (false≢true e)
run_no_change (stopped cause) e = absurd (false≢true e)

pub run_not_end : {A : Type 0} → (p : PhaseState) → is_run p ≡ true → is_at_end p ≡ true → A
run_not_end run e l = absurd (false≢true l)
run_not_end (owe cause) e l = absurd (false≢true e)
run_not_end (last cause) e l = absurd (false≢true e)
run_not_end (stopped cause) e l = absurd (false≢true l)

-- no job runs in another phase than Run
idle_split : (c : Context) (o : Option Running) → HasItsBuffers c o → is_run c.phase ≡ false → (o ≡ None) × ((c.out.job ≡ []) × (c.cap.job ≡ []))
idle_split c None h p = (refl, (h.0, h.1))
idle_split c (Some r) h p = absurd (false≢true (sym p ∙ h.0))

pub idle : (c : Context) → IsSoundButUnsettled c → is_run c.phase ≡ false → (c.running ≡ None) × ((c.out.job ≡ []) × (c.cap.job ≡ []))
idle c f p = idle_split c c.running f.has_buffers p

none_split : (c : Context) (o : Option Running) → HasItsBuffers c o → is_none o ≡ true → (c.out.job ≡ []) × (c.cap.job ≡ [])
none_split c None h p = (h.0, h.1)
none_split c (Some r) h p = absurd (false≢true p)

pub without_job : (c : Context) → IsSoundButUnsettled c → is_none c.running ≡ true → (c.out.job ≡ []) × (c.cap.job ≡ [])
without_job c f p = none_split c c.running f.has_buffers p

-- with no job in the queues the context is one without a job
pub no_job_there : (c : Context) (o : Option Running) → o ≡ None → c.out.job ≡ [] → c.cap.job ≡ [] → HasItsBuffers c o
no_job_there c None e j k = (j, k)
no_job_there c (Some r) e j k = absurd (cc)

-- The final entry of a list with one more is that one

pub last_end : (ds : List Buffer) (x : Buffer) → ends_with_last (ds ++ x ∷ []) ≡ eqb (bit_and x.flags last_flag) last_flag
last_end [] x = refl
last_end (b ∷ []) x = refl
last_end (b ∷ (d ∷ ds)) x = last_end (d ∷ ds) x

-- Parts that are changed alone

pub events_firm : (c : Context) (events : EventState) → IsSoundButUnsettled c → IsSoundButUnsettled (record c { events = events })
events_firm c events f =
    record {
      out_side = f.out_side;
      cap_side = f.cap_side;
      out = f.out;
      cap = f.cap;
      has_buffers = buffers_for c.running f.has_buffers;
      has_codec = f.has_codec;
      marked = f.marked;
      queued = f.queued;
      drained = f.drained;
      stopping = f.stopping;
      ends = f.ends;
      long = record { ready = f.long.ready; job = f.long.job };
    }
  where
    buffers_for : (o : Option Running) → HasItsBuffers c o → HasItsBuffers (record c { events = events }) o
    buffers_for None h = h
    buffers_for (Some r) h = h

pub rates_firm : (c : Context) (rates : RunRates) → IsSoundButUnsettled c → IsSoundButUnsettled (record c { rates = rates })
rates_firm c rates f =
    record {
      out_side = f.out_side;
      cap_side = f.cap_side;
      out = f.out;
      cap = f.cap;
      has_buffers = buffers_for c.running f.has_buffers;
      has_codec = f.has_codec;
      marked = f.marked;
      queued = f.queued;
      drained = f.drained;
      stopping = f.stopping;
      ends = f.ends;
      long = record { ready = f.long.ready; job = f.long.job };
    }
  where
    buffers_for : (o : Option Running) → HasItsBuffers c o → HasItsBuffers (record c { rates = rates }) o
    buffers_for None h = h
    buffers_for (Some r) h = h

-- new formats, while CAPTURE does not stream
pub formats_firm :
    (c : Context) (formats : FormatPair) (codec : CodecState) (geometry : Option Geometry) → HasCodec c.kind codec → c.cap.streams ≡ false
    → IsSoundButUnsettled c → IsSoundButUnsettled (record c { formats = formats; codec = codec; geometry = geometry })
formats_firm c formats codec geometry h s f =
    record {
      out_side = f.out_side;
      cap_side = f.cap_side;
      out = f.out;
      cap = f.cap;
      has_buffers = buffers_for c.running f.has_buffers;
      has_codec = h;
      marked = f.marked;
      queued = f.queued;
      drained = f.drained;
      stopping = f.stopping;
      ends = f.ends;
      long = record { ready = λ e. no_longer c.cap.streams e s; job = λ e. no_longer c.cap.streams e s };
    }
  where
    buffers_for : (o : Option Running) → HasItsBuffers c o → HasItsBuffers (record c { formats = formats; codec = codec; geometry = geometry }) o
    buffers_for None h = h
    buffers_for (Some r) h = h

-- another state of OUTPUT, with the same buffer in the job
pub out_firm :
    (c : Context) (q : QueueState) (codec : CodecState) (geometry : Option Geometry) → q.side ≡ Out → IsSoundQueue q → q.job ≡ c.out.job
    → (c.out.streams ≡ true → q.streams ≡ true) → MarkIsQueued c.mark q.next_ordinal → (is_at_end c.phase ≡ true → is_drained q.ready c.mark ≡ true)
    → HasCodec c.kind codec → IsSoundButUnsettled c → IsSoundButUnsettled (record c { out = q; codec = codec; geometry = geometry })
out_firm c q codec geometry side q_sound j s past drained h f =
    record {
      out_side = side;
      cap_side = f.cap_side;
      out = q_sound;
      cap = f.cap;
      has_buffers = buffers_for c.running f.has_buffers;
      has_codec = h;
      marked = λ e. s (f.marked e);
      queued = past;
      drained = drained;
      stopping = f.stopping;
      ends = f.ends;
      long = record { ready = f.long.ready; job = f.long.job };
    }
  where
    buffers_for : (o : Option Running) → HasItsBuffers c o → HasItsBuffers (record c { out = q; codec = codec; geometry = geometry }) o
    buffers_for None h = (j ∙ h.0, h.1)
    buffers_for (Some r) h = (h.0, ap length j ∙ h.1, h.2)

-- another state of CAPTURE, with the same buffer in the job
pub cap_firm :
    (c : Context) (q : QueueState) → q.side ≡ Cap → IsSoundQueue q → q.job ≡ c.cap.job → (c.cap.streams ≡ true → q.streams ≡ true)
    → (is_last c.phase ≡ true → ends_with_last q.done ≡ true)
    → (q.streams ≡ true → stops_by_change c.phase ≡ false → AreLong (sizeimage c Cap) q.ready)
    → (q.streams ≡ true → stops_by_change c.phase ≡ false → AreLong (sizeimage c Cap) q.job) → IsSoundButUnsettled c
    → IsSoundButUnsettled (record c { cap = q })
cap_firm c q side q_sound j s l r1 r2 f =
    record {
      out_side = f.out_side;
      cap_side = side;
      out = f.out;
      cap = q_sound;
      has_buffers = buffers_for c.running f.has_buffers;
      has_codec = f.has_codec;
      marked = f.marked;
      queued = f.queued;
      drained = f.drained;
      stopping = λ e. s (f.stopping e);
      ends = l;
      long = record { ready = r1; job = r2 };
    }
  where
    buffers_for : (o : Option Running) → HasItsBuffers c o → HasItsBuffers (record c { cap = q }) o
    buffers_for None h = (h.0, j ∙ h.1)
    buffers_for (Some r) h = (h.0, h.1, ap length j ∙ h.2)

-- Settling

owing_firm : (c : Context) → drain_not_noted c ≡ true → IsSoundButUnsettled c → IsSoundButUnsettled (record c { phase = owe drain })
owing_firm c p f =
    let runs : is_run c.phase ≡ true = and_left (is_run c.phase) (c.cap.streams && (is_none c.running && is_drained c.out.ready c.mark)) p in
    let more : (c.cap.streams && (is_none c.running && is_drained c.out.ready c.mark)) ≡ true = and_right (is_run c.phase) (c.cap.streams && (is_none c.running && is_drained c.out.ready c.mark)) p in
    let rest : (is_none c.running && is_drained c.out.ready c.mark) ≡ true = and_right c.cap.streams (is_none c.running && is_drained c.out.ready c.mark) more in
    let jobs = without_job c f (and_left (is_none c.running) (is_drained c.out.ready c.mark) rest) in
    record {
      out_side = f.out_side;
      cap_side = f.cap_side;
      out = f.out;
      cap = f.cap;
      has_buffers = buffers_for c.running (and_left (is_none c.running) (is_drained c.out.ready c.mark) rest) jobs.0 jobs.1;
      has_codec = f.has_codec;
      marked = f.marked;
      queued = f.queued;
      drained = λ e. and_right (is_none c.running) (is_drained c.out.ready c.mark) rest;
      stopping = λ e. and_left c.cap.streams (is_none c.running && is_drained c.out.ready c.mark) more;
      ends = λ (e : false ≡ true). absurd (false≢true e);
      long = record { ready = λ s e. f.long.ready s (run_no_change c.phase runs); job = λ s e. f.long.job s (run_no_change c.phase runs) };
    }
  where
    buffers_for : (o : Option Running) → is_none o ≡ true → c.out.job ≡ [] → c.cap.job ≡ [] → HasItsBuffers (record c { phase = owe drain }) o
    buffers_for None e j k = (j, k)
    buffers_for (Some r) e j k = absurd (false≢true e)

pub raised_firm : (cause : Cause) (c : Context) → IsSoundButUnsettled c → IsSoundButUnsettled (raise_end cause c)
raised_firm drain c f = events_firm c _ f
raised_firm change c f = f

owe_stops : (cause : Cause) (p : PhaseState) → p ≡ owe cause → stops_by_change p ≡ not (is_drain cause)
owe_stops cause p e = ap stops_by_change e

given_firm :
    (c : Context) (cause : Cause) (b : Buffer) (rest : List Buffer) → c.phase ≡ owe cause → c.cap.ready ≡ b ∷ rest → IsSoundButUnsettled c
    → IsSoundButUnsettled (record c { cap = retire_after (lend_front c.cap (b ∷ rest)) 0 [] last_flag zero_stamp; phase = last cause })
given_firm c cause b rest p r f =
    let stops : is_run c.phase ≡ false = ap is_run p in
    let streams = f.stopping stops in
    let none = idle c f stops in
    let lent = lend_sound c.cap b rest r none.1.1 streams f.cap in
    record {
      out_side = f.out_side;
      cap_side = f.cap_side;
      out = f.out;
      cap = retire_sound (lend_front c.cap (b ∷ rest)) b 0 [] last_flag zero_stamp refl streams lent;
      has_buffers = no_job_there (record c { cap = retire_after (lend_front c.cap (b ∷ rest)) 0 [] last_flag zero_stamp; phase = last cause }) c.running none.0 none.1.0 refl;
      has_codec = f.has_codec;
      marked = f.marked;
      queued = f.queued;
      drained = λ e. f.drained (ap is_at_end p ∙ e);
      stopping = λ e. streams;
      ends = λ e. last_end c.cap.done _ ∙ refl;
      long =
          record {
            ready =
                λ s e.
                and_right (nat_le (sizeimage c Cap) b.size) (list_all (λ x. nat_le (sizeimage c Cap) x.size) rest) (subst (λ l. AreLong (sizeimage c Cap) l) r (f.long.ready s (ap stops_by_change p ∙ e)));
            job = λ s e. refl;
          };
    }

give_firm : (c : Context) (cause : Cause) (ready : List Buffer) → c.phase ≡ owe cause → c.cap.ready ≡ ready → IsSoundButUnsettled c → IsSoundButUnsettled (give_last c cause ready)
give_firm c cause [] p r f = f
give_firm c cause (b ∷ rest) p r f =
    raised_firm cause _ (subst (λ l. IsSoundButUnsettled (record c { cap = retire_after (lend_front c.cap l) 0 [] last_flag zero_stamp; phase = last cause })) (sym r) (given_firm c cause b rest p r f))

owed_firm : (c : Context) (phase : PhaseState) → c.phase ≡ phase → IsSoundButUnsettled c → IsSoundButUnsettled (settle_last c phase)
owed_firm c run p f = f
owed_firm c (owe cause) p f = give_firm c cause c.cap.ready p refl f
owed_firm c (last cause) p f = f
owed_firm c (stopped cause) p f = f

drained_firm : (c : Context) (b : Bool) → drain_not_noted c ≡ b → IsSoundButUnsettled c → IsSoundButUnsettled (cond b (record c { phase = owe drain }) c)
drained_firm c true e f = owing_firm c e f
drained_firm c false e f = f

pub settle_sound : (c : Context) → IsSoundButUnsettled c → IsOrdered (settle c)
unfolding settle
settle_sound c f =
    let d = settle_drain c in
    record { firm = owed_firm d d.phase refl (drained_firm c (drain_not_noted c) refl f); settled = settled_by c }

-- Codec states

pub codec_reset : (kind : Kind) (codec : CodecState) → HasCodec kind codec → HasCodec kind (reset codec)
codec_reset Copy no_codec h = h
codec_reset Copy (encoder s) h = h
codec_reset Copy (decoder s) h = h
codec_reset Enc no_codec h = h
codec_reset Enc (encoder s) h = h
codec_reset Enc (decoder s) h = h
codec_reset Dec no_codec h = h
codec_reset Dec (encoder s) h = h
codec_reset Dec (decoder s) h = h
