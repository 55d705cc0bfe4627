-- StreamOff of a decoder, while no job runs, gives the buffers of the queue back to the user. On OUTPUT this is the
-- seek: the codec begins anew, and keeps its memory.
use Rattle.std.proofs.Common.{◌≡◌, Bool, true, false, cond, Option, Some, None, List, [], ◌++◌, refl, sym, ap, subst, ℕ}
use Rattle.std.specs.Prelude.{is_some}
use Rattle.std.proofs.lemmas.Bool.{false≢true}
use Rattle.vc_base.specs.declared.Side.{Side}
use Rattle.vc_base.specs.declared.Side.TheVariants.{Out, Cap}
use Rattle.vc_base.specs.declared.Call.TheVariants.{StreamOff}
use Rattle.vc_base.specs.declared.Reply.TheVariants.{Done}
use Rattle.vc_base.specs.Buffers.{Buffer, streamoff_after}
use Rattle.vc_base.specs.Events.{EventState}
use Rattle.vc_defs.specs.declared.Geometry.{Geometry}
use Rattle.vc_defs.specs.Decoder.{DecoderState, fresh_decoder}
use Rattle.vc_model.specs.Formats.{FormatPair}
use Rattle.vc_model.specs.Context.{Context, settle, run, drain, change, PhaseState, owe, last, stopped}
use Rattle.vc_model.specs.Answer.{context_answer, streamoff_answer, mark_after_restart}
use Rattle.vc_geom.specs.Pairs.{pair_of}
use Rattle.vc_pair.specs.Pairs.{PairState, queue_at, pair_off, pair_settled, is_due}
use Rattle.vc_pair.specs.Rows.{JobsAgree}
use Rattle.vc_queue.specs.Holds.{HoldState}
use Rattle.vc_queue.specs.Releasing.{AllGoToUser}
use Rattle.vc_context.specs.Contexts.{IsKept, IsStep, Gives}
use Rattle.vc_context.specs.Payloads.{Moves, given_back}
use Rattle.vc_dec.specs.declared.InJob.{InJob}
use Rattle.vc_dec.specs.declared.Decoder.TheInside.{Inside}
use Rattle.vc_m2m.specs.Settling.{events_settled}
use Rattle.vc_dec.specs.Decoders.{CodecParts, decoder_state, IsDecoder, IsPlaced, IsPictureOf, IsOfStream, sought_anew}
use Rattle.vc_dec.proofs.QueuesThroughCalls.{off_calls}
use Rattle.vc_dec.proofs.KeptThroughCalls.{Turns, counted, turns_out, turns_cap, settle_at, same_jobs, agree_here, place, begun_so, steps, begins_anew, knows_so, gone_so, supplied_so, served_so, none_due, blank_so, due_so}

-- StreamOff on the queues

off_turns_cap : (p : PairState) (b : Bool) (x y : PairState) → Turns p x → Turns p y → Turns p (cond b x y)
off_turns_cap p true x y a c = a
off_turns_cap p false x y a c = c

-- a restart of CAPTURE leaves the mark, or takes it away
restart_due : (phase : PhaseState) (bs : List Buffer) (mark : Option ℕ) → is_due bs mark ≡ true → is_due bs (mark_after_restart phase mark) ≡ true
restart_due run bs mark h = none_due bs mark h
restart_due (owe drain) bs mark h = none_due bs mark h
restart_due (owe change) bs mark h = h
restart_due (last drain) bs mark h = none_due bs mark h
restart_due (last change) bs mark h = h
restart_due (stopped drain) bs mark h = none_due bs mark h
restart_due (stopped change) bs mark h = h

pub off_turns : (p : PairState) (side : Side) → Turns p (pair_off p side)
off_turns p Out =
    let t = turns_out p (streamoff_after p.out) (off_calls p.out) (λ h. refl) in
    record { out = t.out; cap = t.cap; filled = t.filled; due = λ h. none_due (streamoff_after p.out).job p.mark (t.due h) }
off_turns p Cap =
    let t = turns_cap p (streamoff_after p.cap) (off_calls p.cap) in
    let same : PairState → Type 0 = λ x. Turns p x in
    off_turns_cap p p.cap.streams (record p { cap = streamoff_after p.cap; mark = mark_after_restart p.phase p.mark; phase = run })
    (record p { cap = streamoff_after p.cap })
    (record { out = t.out; cap = t.cap; filled = t.filled; due = λ h. restart_due p.phase p.out.job p.mark h }) t

none_runs : (j : Option InJob) → is_some j ≡ false → j ≡ None
none_runs None e = refl
none_runs (Some x) e = absurd (false≢true (sym e))

module _ (formats : FormatPair) (geometry : Option Geometry) (events : EventState) (state : DecoderState) where
  abbrev idle : PairState → DecoderState → Context
  idle q s = decoder_state formats geometry q events s None

  capture_cases : (b : Bool) (x y : PairState) → cond b (idle x state) (idle y state) ≡ idle (cond b x y) state
  capture_cases true x y = refl
  capture_cases false x y = refl

  off_at : (p : PairState) (side : Side) → streamoff_answer (idle p state) side ≡ record { slot = Some (settle (idle (pair_off p side) (sought_anew side state))); reply = Done; bytes = [] }
  off_at p Out = refl
  off_at p Cap =
      ap (λ (x : Context). record { slot = Some (settle x); reply = Done; bytes = [] })
      (capture_cases p.cap.streams (record p { cap = streamoff_after p.cap; mark = mark_after_restart p.phase p.mark; phase = run }) (record p { cap = streamoff_after p.cap }))

module _ (d : Inside) (c : Context) (view : decoder_state (pair_of d.m2m.formats) d.geometry d.m2m.pair d.m2m.events d.codec.state d.job ≡ c)
    (inv : IsDecoder (pair_of d.m2m.formats) d.geometry d.m2m.pair d.m2m.events d.codec d.job) (side : Side) (calm : is_some d.job ≡ false)
    (mid new : PairState) (es : EventState) (codec : CodecParts) (em : mid ≡ pair_off d.m2m.pair side)
    (ec : codec ≡ record d.codec { state = sought_anew side d.codec.state }) (en : new ≡ pair_settled mid) (ee : es ≡ events_settled mid d.m2m.events)
  where
    abbrev before : Context
    before = decoder_state (pair_of d.m2m.formats) d.geometry d.m2m.pair d.m2m.events d.codec.state d.job

    abbrev then : Context
    then = decoder_state (pair_of d.m2m.formats) d.geometry new es codec.state d.job

    agree_off : JobsAgree (decoder_state (pair_of d.m2m.formats) d.geometry (pair_off d.m2m.pair side) d.m2m.events (sought_anew side d.codec.state) d.job)
    agree_off =
        let t = off_turns d.m2m.pair side in
        same_jobs (pair_of d.m2m.formats) d.geometry d.codec.state d.job d.m2m.pair (pair_off d.m2m.pair side) d.m2m.events t.out.counts.job
        t.cap.counts.job (agree_here (pair_of d.m2m.formats) d.geometry d.m2m.pair d.m2m.events d.codec d.job inv)

    off_gives_here : Gives (streamoff_answer before side) Done then
    off_gives_here =
        let j : d.job ≡ None = none_runs d.job calm in
        let s : DecoderState = sought_anew side d.codec.state in
        let done :
        settle (decoder_state (pair_of d.m2m.formats) d.geometry (pair_off d.m2m.pair side) d.m2m.events s d.job)
        ≡ decoder_state (pair_of d.m2m.formats) d.geometry (pair_settled (pair_off d.m2m.pair side)) (events_settled (pair_off d.m2m.pair side) d.m2m.events) s d.job =
        settle_at (pair_of d.m2m.formats) d.geometry s d.job (pair_off d.m2m.pair side) d.m2m.events agree_off in
        let answer :
        streamoff_answer before side ≡ record { slot = Some (settle (decoder_state (pair_of d.m2m.formats) d.geometry (pair_off d.m2m.pair side) d.m2m.events s d.job)); reply = Done; bytes = [] } =
        subst (λ (x : Option InJob).
        streamoff_answer (decoder_state (pair_of d.m2m.formats) d.geometry d.m2m.pair d.m2m.events d.codec.state x) side
        ≡ record { slot = Some (settle (decoder_state (pair_of d.m2m.formats) d.geometry (pair_off d.m2m.pair side) d.m2m.events s x)); reply = Done; bytes = [] })
        (sym j) (off_at (pair_of d.m2m.formats) d.geometry d.m2m.events d.codec.state d.m2m.pair side) in
        rw (en, ee, em, ec, answer) (record { reply = refl; context = ap Some done })

    off_placed : IsPlaced then
    unfolding context_answer
    off_placed =
        place (pair_of d.m2m.formats) d.geometry d.m2m.pair d.m2m.events d.codec d.job inv (StreamOff side) [] true Done then off_gives_here

    pub off_gives : Gives (streamoff_answer c side) Done then
    off_gives =
        subst (λ (x : Context). Gives (streamoff_answer x side) Done then) view off_gives_here

    off_turns_mid : Turns d.m2m.pair mid
    off_turns_mid = subst (λ (x : PairState). Turns d.m2m.pair x) (sym em) (off_turns d.m2m.pair side)

    pub off_steps : IsKept c → IsStep c then
    off_steps k =
        subst (λ (x : Context). IsStep x then) view
        (steps (pair_of d.m2m.formats) d.geometry d.m2m.pair d.m2m.events d.codec d.job inv mid new es (counted d.m2m.pair mid off_turns_mid) en ee
        (pair_of d.m2m.formats) d.geometry codec.state off_placed (subst IsKept (sym view) k))

    picture_cases : (s : Side) → IsPictureOf d.geometry (sought_anew s d.codec.state).reference
    picture_cases Out = tt
    picture_cases Cap = inv.picture

    fresh_cases : (s : Side) → d.codec.state ≡ fresh_decoder → sought_anew s d.codec.state ≡ fresh_decoder
    fresh_cases Out e = refl
    fresh_cases Cap e = e

    stream_cases : (s : Side) → IsOfStream d.m2m.formats.out.size d.geometry (sought_anew s d.codec.state) d.job
    stream_cases Out = begins_anew d.m2m.formats.out.size d.geometry d.job
    stream_cases Cap = inv.stream

    pub off_keeps : IsDecoder (pair_of d.m2m.formats) d.geometry new es codec d.job
    off_keeps =
        let gone = gone_so (pair_of d.m2m.formats) d.geometry d.m2m.pair d.m2m.events d.codec d.job inv mid new es off_turns_mid en ee in
        let b = begun_so (pair_of d.m2m.formats) d.geometry d.m2m.pair d.m2m.events d.codec d.job inv mid new es (counted d.m2m.pair mid off_turns_mid) en ee in
        let placed : IsPlaced (decoder_state (pair_of d.m2m.formats) d.geometry new es (sought_anew side d.codec.state) d.job) =
        subst (λ (x : CodecParts). IsPlaced (decoder_state (pair_of d.m2m.formats) d.geometry new es x.state d.job)) ec off_placed in
        rw ec (record {
          stands = inv.stands;
          sized = inv.sized;
          placed = placed;
          picture = picture_cases side;
          fresh = λ z. fresh_cases side (inv.fresh (gone z));
          stream = stream_cases side;
          begun = b.ready;
          untouched = b.held;
          blank = blank_so (pair_of d.m2m.formats) d.geometry d.m2m.pair d.m2m.events d.codec d.job inv mid new es (counted d.m2m.pair mid off_turns_mid) en ee;
          knows = knows_so (pair_of d.m2m.formats) d.geometry d.m2m.pair d.m2m.events d.codec d.job inv mid new es (counted d.m2m.pair mid off_turns_mid) en ee (pair_of d.m2m.formats) d.geometry codec.state off_placed;
          supplied = supplied_so (pair_of d.m2m.formats) d.geometry d.m2m.pair d.m2m.events d.codec d.job inv mid new es off_turns_mid en ee;
          served = served_so (pair_of d.m2m.formats) d.geometry d.m2m.pair d.m2m.events d.codec d.job inv mid new es off_turns_mid en ee;
          lent = inv.lent;
          due = due_so (pair_of d.m2m.formats) d.geometry d.m2m.pair d.m2m.events d.codec d.job inv mid new es (counted d.m2m.pair mid off_turns_mid) en ee;
        })

    given_cases : (s : Side) → given_back (Some before) s ≡ (queue_at d.m2m.pair s).ready ++ (queue_at d.m2m.pair s).done
    given_cases Out = refl
    given_cases Cap = refl

    pub off_moves : (old hold : HoldState) → AllGoToUser side ((queue_at d.m2m.pair side).ready ++ (queue_at d.m2m.pair side).done) old hold → Moves (Some c) (StreamOff side) Done old hold
    off_moves old hold g =
        subst (λ (x : Context). AllGoToUser side (given_back (Some x) side) old hold) view (subst (λ (l : List Buffer). AllGoToUser side l old hold) (sym (given_cases side)) g)
