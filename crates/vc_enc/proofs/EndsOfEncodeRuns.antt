-- The end of a job puts both buffers on done, with the frame or after a fault with ERROR, and settles. The context is
-- then the one that the definitions finish, since what the engine brings back is what they say of its run.
use Rattle.std.proofs.Common.{ℕ, ◌≡◌, ◌≤◌, ◌<◌, ◌+◌, ◌^◌, leb, Bool, true, false, cond, ◌&&◌, Option, Some, None, Result, Ok, Err, List, [], ◌∷◌, ◌++◌, map}
use Rattle.std.proofs.Common.{length, take, refl, sym, ap, ◌∙◌, subst, arith, leb-true, length-take, length-append}
use Rattle.std.specs.Prelude.{is_some, min}
use Rattle.std.proofs.lemmas.Bool.{false≢true, and_parts}
use Rattle.vc_base.specs.declared.Side.{Side}
use Rattle.vc_base.specs.declared.Side.TheVariants.{Out, Cap}
use Rattle.vc_base.specs.declared.Kind.TheVariants.{Enc}
use Rattle.vc_base.specs.declared.Format.{Format}
use Rattle.vc_base.specs.declared.Stamp.{Stamp}
use Rattle.vc_base.specs.Buffers.{Buffer, QueueState, is_empty, buffer_count, retire_from, retire_after, known_bytes, without_bytes}
use Rattle.vc_base.specs.Limits.{keyframe_flag, pframe_flag, error_flag}
use Rattle.vc_base.specs.Events.{EventState}
use Rattle.vc_defs.specs.Encoder.{RunRates, EncoderState}
use Rattle.vc_model.specs.Formats.{FormatPair}
use Rattle.vc_model.specs.Coder.{CodecState, no_codec, encoder, decoder, reset}
use Rattle.vc_model.specs.Context.{Context, PhaseState, run, last, is_run, is_drained, RunSort, copy, encode, decode, probe, drain, settle}
use Rattle.vc_model.specs.Runs.{JobData, RunResult, copied, encoded, decoded, dest_done, type_flag}
use Rattle.vc_model.specs.Core.{BroughtBack, finished_context}
use Rattle.vc_model.specs.Sound.{HasCodec, AreLong, dest_count, has_dest}
use Rattle.vc_queue.specs.declared.queue.Lent.{Lent}
use Rattle.vc_queue.specs.Holds.{HoldState, Fits}
use Rattle.vc_queue.specs.Lending.{IsBack as IsLentBack, back_bytes}
use Rattle.vc_queue.proofs.Keeping.{fits_retired}
use Rattle.vc_work.specs.declared.work.Work.{Work}
use Rattle.vc_work.specs.declared.engine.Outcome.{Outcome}
use Rattle.vc_work.specs.declared.engine.Outcome.TheVariants.{Copied, Encoded, Picture, Damaged, Changed, Spent}
use Rattle.vc_work.specs.declared.engine.EngineFault.{EngineFault}
use Rattle.vc_work.specs.References.{CodecReference}
use Rattle.vc_defs.specs.Raw.{geometry_of}
use Rattle.vc_work.specs.Runs.{dest_bytes, HasReference, HasGeometry}
use Rattle.vc_pair.specs.Pairs.{PairState, IsSettled, source_retired, out_retired, cap_retired, is_final}
use Rattle.vc_pair.specs.Rows.{IsRunFlag, keyframe, pframe, error, JobsAgree}
use Rattle.vc_pair.proofs.PairRowsAreContextRows.{same_retired}
use Rattle.vc_context.specs.Contexts.{AreFilled, IsKept, IsStep}
use Rattle.vc_context.specs.Payloads.{FitsContext}
use Rattle.vc_context.specs.Works.{IsSourceBack, IsDest, HasFront, HasState, HasRoomFor as HasRoomForPicture, HasAreas, is_decoding, IsResult, IsBack, IsBackOf, RunsIn}
use Rattle.vc_context.proofs.QueuesCountUp.{HasRoomFor, Goes, retired_goes, retired_ready}
use Rattle.vc_enc.specs.declared.InJob.{InJob}
use Rattle.vc_enc.specs.declared.jobs.RunEnd.{RunEnd}
use Rattle.vc_m2m.specs.Settling.{end_raised}
use Rattle.vc_enc.specs.Encoders.{encoder_state, codec_of, job_mark, anew_where, AreWhole, IsSupplied, IsInJob, KnowsItsJob, IsEncoder}
use Rattle.vc_enc.specs.Works.{end_of}
use Rattle.vc_enc.proofs.SettlingLeavesTheRest.{end_counts}
use Rattle.vc_enc.proofs.AnswersAfterSettling.{settled_is, settled_same, ended}
use Rattle.vc_enc.proofs.StreamOffIsAnswered.{anew_state}
use Rattle.vc_enc.proofs.ClaimsTakeTheFront.{held_run}

-- one queue whose buffer goes to done

emptied : (q : QueueState) (bs : List Buffer) (used : ℕ) (bytes : List ℕ) (flags : ℕ) (stamp : Stamp) → q.job ≡ bs → (retire_from q bs used bytes flags stamp).job ≡ []
emptied q [] used bytes flags stamp e = e
emptied q (b ∷ rest) used bytes flags stamp e = refl

retired_queued : (q : QueueState) (bs : List Buffer) (used : ℕ) (bytes : List ℕ) (flags : ℕ) (stamp : Stamp) → (retire_from q bs used bytes flags stamp).next_ordinal ≡ q.next_ordinal
retired_queued q [] used bytes flags stamp = refl
retired_queued q (b ∷ rest) used bytes flags stamp = refl

retired_some : (q : QueueState) (b : Buffer) (used : ℕ) (bytes : List ℕ) (flags : ℕ) (stamp : Stamp) → 0 < buffer_count (retire_from q (b ∷ []) used bytes flags stamp)
retired_some q b used bytes flags stamp =
    omega (arith, length-append q.done (record b { used = used; bytes = known_bytes q.side flags bytes; flags = flags; stamp = stamp; seq = q.next_seq } ∷ []))

-- a retired OUTPUT buffer with ERROR shows no bytes
on_output : (a b : List ℕ) (s : Side) → s ≡ Out → known_bytes s error_flag a ≡ known_bytes s error_flag b
on_output a b Out h = refl
on_output a b Cap h = cc

retired_error : (q : QueueState) (bs : List Buffer) (used : ℕ) (a b : List ℕ) (stamp : Stamp) → q.side ≡ Out → retire_from q bs used a error_flag stamp ≡ retire_from q bs used b error_flag stamp
retired_error q [] used a b stamp e = refl
retired_error q (x ∷ rest) used a b stamp e =
    let put : List ℕ → QueueState = λ bytes. record q { job = []; done = q.done ++ record x { used = used; bytes = bytes; flags = error_flag; stamp = stamp; seq = q.next_seq } ∷ []; next_seq = q.next_seq + 1 } in
    ap put (on_output a b q.side e)

-- a finish leaves nothing to be settled

no_owing : (a b c d : Bool) → d ≡ false → (a && (b && (c && d))) ≡ false
no_owing true true true d e = e
no_owing true true false d e = refl
no_owing true false c d e = refl
no_owing false b c d e = refl

settled_cases : (q : PairState) (cap : QueueState) (last_cap : QueueState) (b : Bool) → q.phase ≡ run → is_final q ≡ b → IsSettled (cond b (record q { cap = last_cap; phase = last drain }) (record q { cap = cap }))
settled_cases q cap last_cap true e f = record { noted = refl; given = refl }
settled_cases q cap last_cap false e f =
    record { noted = no_owing (is_run q.phase) cap.streams (is_empty q.out.job && is_empty cap.job) (is_drained q.out.ready q.mark) f; given = held_run q.phase cap.ready e }

retired_settled : (q : PairState) (used : ℕ) (bytes : List ℕ) (flags : ℕ) (stamp : Stamp) → q.phase ≡ run → IsSettled (cap_retired q used bytes flags stamp)
retired_settled q used bytes flags stamp e = settled_cases q _ _ (is_final q) e refl

either_out : (b : Bool) (x y : PairState) (o : QueueState) → x.out ≡ o → y.out ≡ o → (cond b x y).out ≡ o
either_out true x y o e f = e
either_out false x y o e f = f

retired_out : (q : PairState) (used : ℕ) (bytes : List ℕ) (flags : ℕ) (stamp : Stamp) → (cap_retired q used bytes flags stamp).out ≡ q.out
retired_out q used bytes flags stamp = either_out (is_final q) _ _ q.out refl refl

-- what holds of CAPTURE whichever flags its buffer has
either_cap : (P : QueueState → Type 0) (b : Bool) (q : PairState) (x y : QueueState) (phase : PhaseState) → P x → P y → P (cond b (record q { cap = x; phase = phase }) (record q { cap = y })).cap
either_cap P true q x y phase h g = h
either_cap P false q x y phase h g = g

-- the only buffer of CAPTURE's job
only_dest : (ds bs : List Buffer) (payload : List ℕ) → length ds ≡ 1 → bs ≡ map without_bytes ds → IsDest ds (Some payload) → (b : Buffer) × (bs ≡ without_bytes b ∷ []) × (length payload ≡ b.size)
only_dest [] bs payload n e d = absurd (omega (arith, n))
only_dest (b ∷ []) bs payload n e d = (b, e, d)
only_dest (b ∷ (x ∷ rest)) bs payload n e d = absurd (omega (arith, n))

no_dest : (ds : List Buffer) → length ds ≡ 1 → IsDest ds None → ⊥
no_dest [] n d = absurd (omega (arith, n))
no_dest (b ∷ []) n d = d
no_dest (b ∷ (x ∷ rest)) n d = d

front_room : (bytes payload : List ℕ) → take (length bytes) payload ≡ bytes → length bytes ≤ length payload
front_room bytes payload e =
    let n : length bytes ≡ min (length bytes) (length payload) = sym (ap length e) ∙ length-take (length bytes) payload in
    omega (arith, n)

filled_front : (bs : List Buffer) (b : Buffer) (used : ℕ) → bs ≡ without_bytes b ∷ [] → AreFilled bs → used ≡ b.used → HasRoomFor used bs
filled_front [] b used e f u = tt
filled_front (x ∷ rest) b used e f u =
    let same : x ≡ without_bytes b = cc in
    let room : x.used ≤ x.size = leb-true x.used x.size (and_parts (leb x.used x.size) _ f).0 in
    rw u (subst (λ (y : Buffer). y.used ≤ x.size) same room)

dest_room : (bs : List Buffer) (b : Buffer) (used : ℕ) → bs ≡ without_bytes b ∷ [] → used ≤ b.size → HasRoomFor used bs
dest_room [] b used e h = tt
dest_room (x ∷ rest) b used e h =
    let same : x ≡ without_bytes b = cc in subst (λ (y : Buffer). used ≤ y.size) (sym same) h

-- flags and states after a run

frame_flag : (key : Bool) → IsRunFlag (cond key keyframe_flag pframe_flag)
frame_flag true = keyframe
frame_flag false = pframe

anew_codec : (codec : CodecState) (reference : Option CodecReference) → HasCodec Enc codec → reset codec ≡ codec_of None (anew_where true reference)
anew_codec no_codec reference h = absurd h
anew_codec (encoder state) reference h = ap encoder (sym (anew_state reference))
anew_codec (decoder state) reference h = absurd h

state_there : (state : EncoderState) (reference : Option CodecReference) → HasState state reference → encoder state ≡ codec_of None reference
state_there state None h = absurd h
state_there state (Some r) h = ap encoder (sym h)

-- an encoder's run gives a frame and nothing else
abbrev IsFrame : Outcome → Option RunResult → Type 0
IsFrame (Encoded used key) (Some (encoded frame)) = Unit {0}
IsFrame outcome result = ⊥

copies_none : copy ≡ encode → ⊥
copies_none e = cc

decodes_none : (run : RunSort) → run ≡ encode → is_decoding run ≡ true → ⊥
decodes_none copy e d = cc
decodes_none encode e d = false≢true d
decodes_none decode e d = cc
decodes_none probe e d = cc

frames_only : (j : JobData) (work : Work) (res : Option RunResult) (o : Outcome) → j.sort ≡ encode → IsResult res j work (Ok o) → IsFrame o res
frames_only j work None o e i = absurd i
frames_only j work (Some (copied bytes)) (Copied used) e i = absurd (copies_none (sym i.0 ∙ e))
frames_only j work (Some (copied bytes)) (Encoded used key) e i = absurd i
frames_only j work (Some (copied bytes)) (Picture used key stamp) e i = absurd i
frames_only j work (Some (copied bytes)) (Damaged stamp) e i = absurd i
frames_only j work (Some (copied bytes)) (Changed geometry) e i = absurd i
frames_only j work (Some (copied bytes)) Spent e i = absurd i
frames_only j work (Some (encoded frame)) (Encoded used key) e i = tt
frames_only j work (Some (encoded frame)) (Copied used) e i = absurd i
frames_only j work (Some (encoded frame)) (Picture used key stamp) e i = absurd i
frames_only j work (Some (encoded frame)) (Damaged stamp) e i = absurd i
frames_only j work (Some (encoded frame)) (Changed geometry) e i = absurd i
frames_only j work (Some (encoded frame)) Spent e i = absurd i
frames_only j work (Some (decoded step)) o e i = absurd (decodes_none j.sort e i.0)

-- the reference that comes back is one for the format

room_there : (codec : CodecState) (j : JobData) (work : Work) → HasCodec Enc codec → HasAreas codec j work → HasRoomForPicture j.format work.reference
room_there no_codec j work h a = absurd h
room_there (encoder state) j work h a = a
room_there (decoder state) j work h a = absurd h

anew_reference : (format : Format) (reference : Option CodecReference) → HasRoomForPicture format reference → HasReference format (anew_where true reference)
anew_reference format None h = absurd h
anew_reference format (Some r) h = (h, tt)

frame_reference :
    (format : Format) (state : EncoderState) (reference : Option CodecReference) → HasRoomForPicture format reference → HasState state reference
    → HasGeometry (geometry_of format) state.reference → HasReference format reference
frame_reference format state None h s g = absurd h
frame_reference format state (Some r) h s g =
    (h, subst (λ (x : EncoderState). HasGeometry (geometry_of format) x.reference) (sym s) g)

supplied_by : (format : Format) (n : ℕ) (reference : Option CodecReference) → 0 < n → HasReference format reference → IsSupplied format n reference
supplied_by format n None some h = absurd h
supplied_by format n (Some r) some h = (some, h)

source_ready : (q : QueueState) (bs : List Buffer) (bytes : List ℕ) (flags : ℕ) → (source_retired q bs bytes flags).ready ≡ q.ready
source_ready q [] bytes flags = refl
source_ready q (b ∷ rest) bytes flags = retired_ready q q.job b.used bytes flags b.stamp

source_emptied : (q : QueueState) (bs : List Buffer) (bytes : List ℕ) (flags : ℕ) → q.job ≡ bs → (source_retired q bs bytes flags).job ≡ []
source_emptied q [] bytes flags e = e
source_emptied q (b ∷ rest) bytes flags e = emptied q q.job b.used bytes flags b.stamp refl

some_left : (q : QueueState) (bs : List Buffer) (b : Buffer) (used : ℕ) (bytes : List ℕ) (flags : ℕ) (stamp : Stamp) → bs ≡ b ∷ [] → 0 < buffer_count (retire_from q bs used bytes flags stamp)
some_left q bs b used bytes flags stamp e = rw e (retired_some q b used bytes flags stamp)

module _ (formats : FormatPair) (rates : RunRates) (p : PairState) (events : EventState) (reference : Option CodecReference) (job : Option InJob)
    (c : Context) (view : encoder_state formats rates p events reference job ≡ c) (inv : IsEncoder formats p reference job) (kept : IsKept c) where
  abbrev here : Context
  here = encoder_state formats rates p events reference job

  k : IsKept here
  k = subst IsKept (sym view) kept

  none_runs : (j : Option InJob) → j ≡ None → is_some (job_mark j) ≡ true → ⊥
  none_runs None e h = false≢true h
  none_runs (Some x) e h = cc

  pub job_there : (work : Work) (outcome : Result Outcome EngineFault) → IsBackOf c work outcome → job ≡ None → ⊥
  job_there work outcome of e =
      none_runs job e (subst (λ (x : Context). is_some x.running ≡ true) (sym view) of.runs.running)

  -- the model's end of a run
  end_is :
      (r : Option CodecReference) (q : PairState) (codec : CodecState) (ds : List Buffer) (used : ℕ) (bytes : List ℕ) (flags : ℕ) (stamp : Stamp)
      → q.phase ≡ run → q.out.job ≡ [] → IsRunFlag flags → codec ≡ codec_of None r → length ds ≡ 1
      → settle (dest_done (record (encoder_state formats rates q events r None) { codec = codec }) ds true used bytes flags stamp)
      ≡ encoder_state formats rates (cap_retired q used bytes flags stamp) (end_raised (is_final q) events) r None
  end_is r q codec [] used bytes flags stamp e i f ec n = absurd (omega (arith, n))
  end_is r q codec (b ∷ (d ∷ rest)) used bytes flags stamp e i f ec n = absurd (omega (arith, n))
  end_is r q codec (b ∷ []) used bytes flags stamp e i f ec n =
      let new : PairState = cap_retired q used bytes flags stamp in
      let raised : EventState = end_raised (is_final q) events in
      let free : new.cap.job ≡ [] = either_cap (λ (y : QueueState). y.job ≡ []) (is_final q) q _ _ _ (emptied q.cap q.cap.job used bytes _ stamp refl) (emptied q.cap q.cap.job used bytes flags stamp refl) in
      let idle : new.out.job ≡ [] = ap (λ (y : QueueState). y.job) (retired_out q used bytes flags stamp) ∙ i in
      let agree : JobsAgree (encoder_state formats rates new raised r None) = rw (idle, free) refl in
      ap (λ (x : CodecState). settle (dest_done (record (encoder_state formats rates q events r None) { codec = x }) (b ∷ []) true used bytes flags stamp)) ec
      ∙ (ap settle ((same_retired (encoder_state formats rates q events r None) b [] used bytes flags stamp f).with_source ∙ ended formats rates r None q new events (is_final q))
      ∙ (settled_is formats rates r None new raised agree ∙ settled_same formats rates r None new raised (retired_settled q used bytes flags stamp e)))

  module _ (x : InJob) (at : job ≡ Some x) (work : Work) (outcome : Result Outcome EngineFault) where
    known : (p.phase ≡ run) × IsInJob p.out x.source × IsInJob p.cap x.dest
    known = subst (KnowsItsJob formats.out p reference) at inv.known

    one : (j : JobData) → RunsIn here j → length j.dest ≡ 1
    one j runs = runs.dests ∙ ap dest_count runs.run.sort

    pub dest_there : IsBackOf c work outcome → dest_bytes work ≡ None → ⊥
    dest_there of e =
        let runs : RunsIn here of.back.job = subst (λ (y : Context). RunsIn y of.back.job) (sym view) of.runs in
        no_dest of.back.job.dest (one of.back.job runs) (subst (IsDest of.back.job.dest) e of.is_back.dest)

    -- what the calls of the pair need of the source

    pub source_there : IsBackOf c work outcome → p.out.job ≡ [] → ⊥
    source_there of e =
        let runs : RunsIn here of.back.job = subst (λ (y : Context). RunsIn y of.back.job) (sym view) of.runs in
        let two : without_bytes of.back.job.source ∷ [] ≡ [] = sym runs.source ∙ e in
        cc

    index_is : (bs : List Buffer) (b : Buffer) (i : ℕ) → bs ≡ without_bytes b ∷ [] → map (λ y. y.index) bs ≡ i ∷ [] → b.index ≡ i
    index_is bs b i e m =
        let same : b.index ∷ [] ≡ i ∷ [] = sym (ap (map (λ y. y.index)) e) ∙ m in
        cc

    back_at : (bs : List Buffer) (b : Buffer) (lent : Lent) → bs ≡ without_bytes b ∷ [] → lent.index ≡ b.index → length lent.payload.items ≡ b.size → IsLentBack bs lent
    back_at bs b lent e i n = rw e (i, n)

    pub source_back : (source : Lent) → source.index ≡ x.source → source.payload.items ≡ work.source.payload.items → IsBackOf c work outcome → IsLentBack p.out.job source
    source_back source ei ep of =
        let runs : RunsIn here of.back.job = subst (λ (y : Context). RunsIn y of.back.job) (sym view) of.runs in
        back_at p.out.job of.back.job.source source runs.source (ei ∙ sym (index_is p.out.job of.back.job.source x.source runs.source known.1.one)) (ap length ep ∙ of.is_back.source.size)

    module _ (source dest : Lent) (payload : List ℕ) (there : dest_bytes work ≡ Some payload) (ei : source.index ≡ x.source)
        (ep : source.payload.items ≡ work.source.payload.items) (di : dest.index ≡ x.dest) (dp : dest.payload.items ≡ payload) where
      -- the pair after the source went to done
      abbrev first : ℕ → PairState
      first flags = out_retired p (back_bytes p.out.job source) flags

      abbrev end : RunEnd
      end = end_of outcome

      -- and after the destination did
      abbrev final : PairState
      final = cap_retired (first end.source_flags) end.used (take end.used dest.payload.items) end.dest_flags work.source.stamp

      first_is : (j : JobData) (flags : ℕ) (bytes : List ℕ) → RunsIn here j → take j.source.used work.source.payload.items ≡ bytes → first flags ≡ record p { out = retire_after p.out j.source.used bytes flags j.source.stamp }
      first_is j flags bytes runs e =
          ap (λ (bs : List Buffer). record p { out = source_retired p.out bs (back_bytes bs source) flags }) runs.source
          ∙ ap (λ (ys : List ℕ). record p { out = retire_after p.out j.source.used ys flags j.source.stamp }) (ap (take j.source.used) ep ∙ e)

      after_at :
          (j : JobData) (res : Option RunResult) (o : Result Outcome EngineFault) → RunsIn here j → IsSourceBack j.source work.source
          → IsResult res j work o
          → let n : RunEnd = end_of o in
          encoder_state formats rates (cap_retired (first n.source_flags) n.used (take n.used dest.payload.items) n.dest_flags work.source.stamp)
          (end_raised (is_final (first n.source_flags)) events) (anew_where n.fault work.reference) None
          ≡ finished_context here (record { job = j; result = res })
      after_at j None (Err fault) runs s i =
          let q : PairState = record p { out = retire_after p.out j.source.used j.source.bytes error_flag j.source.stamp } in
          let same : first error_flag ≡ q =
          first_is j error_flag (take j.source.used work.source.payload.items) runs refl
          ∙ ap (λ (o : QueueState). record p { out = o }) (retired_error p.out p.out.job j.source.used (take j.source.used work.source.payload.items) j.source.bytes j.source.stamp k.out_side) in
          let moved :
          encoder_state formats rates (cap_retired (first error_flag) 0 [] error_flag work.source.stamp) (end_raised (is_final (first error_flag)) events) (anew_where true work.reference) None
          ≡ encoder_state formats rates (cap_retired q 0 [] error_flag work.source.stamp) (end_raised (is_final q) events) (anew_where true work.reference) None =
          ap (λ (y : PairState). encoder_state formats rates (cap_retired y 0 [] error_flag work.source.stamp) (end_raised (is_final y) events) (anew_where true work.reference) None) same in
          moved
          ∙ rw s.stamp
          (sym
          (end_is (anew_where true work.reference) q (reset j.codec) j.dest 0 [] error_flag j.source.stamp known.0
          (emptied p.out p.out.job j.source.used j.source.bytes error_flag j.source.stamp refl) error (anew_codec j.codec work.reference runs.codec)
          (one j runs)))
      after_at j None (Ok (Encoded used key)) runs s i = absurd i
      after_at j (Some (copied bytes)) (Err fault) runs s i = absurd i
      after_at j (Some (copied bytes)) (Ok (Encoded used key)) runs s i = absurd i
      after_at j (Some (encoded frame)) (Err fault) runs s i = absurd i
      after_at j (Some (encoded frame)) (Ok (Encoded used key)) runs s i =
          let q : PairState = record p { out = retire_after p.out j.source.used j.source.bytes 0 j.source.stamp } in
          let same : first 0 ≡ q = first_is j 0 j.source.bytes runs i.1.bytes.source_bytes in
          let front : take (length frame.bytes) dest.payload.items ≡ frame.bytes = ap (take (length frame.bytes)) dp ∙ subst (HasFront frame.bytes) there i.1.bytes.front in
          let flag : ℕ = cond key keyframe_flag pframe_flag in
          let moved :
          encoder_state formats rates (cap_retired (first 0) used (take used dest.payload.items) flag work.source.stamp) (end_raised (is_final (first 0)) events) work.reference None
          ≡ encoder_state formats rates (cap_retired q used (take used dest.payload.items) flag work.source.stamp) (end_raised (is_final q) events) work.reference None =
          ap (λ (y : PairState). encoder_state formats rates (cap_retired y used (take used dest.payload.items) flag work.source.stamp) (end_raised (is_final y) events) work.reference None) same in
          moved
          ∙ rw (s.stamp, i.1.bytes.told, front, i.1.told_key)
          (sym
          (end_is work.reference q (encoder frame.state) j.dest (length frame.bytes) frame.bytes (type_flag frame.key) j.source.stamp known.0
          (emptied p.out p.out.job j.source.used j.source.bytes 0 j.source.stamp refl) (frame_flag frame.key)
          (state_there frame.state work.reference i.1.state) (one j runs)))
      after_at j (Some (decoded step)) (Err fault) runs s i = absurd i
      after_at j (Some (decoded step)) (Ok (Encoded used key)) runs s i =
          absurd (frames_only j work (Some (decoded step)) (Encoded used key) runs.run.sort i)
      after_at j res (Ok (Copied used)) runs s i =
          absurd (frames_only j work res (Copied used) runs.run.sort i)
      after_at j res (Ok (Picture used key stamp)) runs s i =
          absurd (frames_only j work res (Picture used key stamp) runs.run.sort i)
      after_at j res (Ok (Damaged stamp)) runs s i =
          absurd (frames_only j work res (Damaged stamp) runs.run.sort i)
      after_at j res (Ok (Changed geometry)) runs s i =
          absurd (frames_only j work res (Changed geometry) runs.run.sort i)
      after_at j res (Ok Spent) runs s i =
          absurd (frames_only j work res Spent runs.run.sort i)

      pub finish_after :
          (back : BroughtBack) → RunsIn c back.job → IsBack back work outcome
          → encoder_state formats rates final (end_raised (is_final (first end.source_flags)) events) (anew_where end.fault work.reference) None ≡ finished_context c back
      finish_after back runs is =
          rw (← view) (after_at back.job back.result outcome (subst (λ (y : Context). RunsIn y back.job) (sym view) runs) is.source is.came_to)

      -- what the calls of the pair need

      only : IsBackOf c work outcome → (b : Buffer) × (p.cap.job ≡ without_bytes b ∷ []) × (length payload ≡ b.size)
      only of =
          let runs : RunsIn here of.back.job = subst (λ (y : Context). RunsIn y of.back.job) (sym view) of.runs in
          only_dest of.back.job.dest p.cap.job payload (one of.back.job runs) runs.dest (subst (IsDest of.back.job.dest) there of.is_back.dest)

      pub dest_in : IsBackOf c work outcome → p.cap.job ≡ [] → ⊥
      dest_in of e =
          let o = only of in
          let two : without_bytes o.0 ∷ [] ≡ [] = sym o.1 ∙ e in
          cc

      pub dest_back : IsBackOf c work outcome → IsLentBack p.cap.job dest
      dest_back of =
          let o = only of in
          back_at p.cap.job o.0 dest o.1 (di ∙ sym (index_is p.cap.job o.0 x.dest o.1 known.2.one)) (ap length dp ∙ o.2)

      pub source_out : (flags : ℕ) → (first flags).out.job ≡ []
      source_out flags = source_emptied p.out p.out.job (back_bytes p.out.job source) flags refl

      -- what the context keeps

      format_is : (j : JobData) → RunsIn here j → j.format ≡ formats.out
      format_is j runs = runs.run.format (ap has_dest runs.run.sort)

      reference_at : (j : JobData) (res : Option RunResult) (o : Result Outcome EngineFault) → RunsIn here j → HasAreas j.codec j work → IsResult res j work o → HasReference j.format (anew_where (end_of o).fault work.reference)
      reference_at j res (Err fault) runs a i =
          anew_reference j.format work.reference (room_there j.codec j work runs.codec a)
      reference_at j res (Ok (Copied used)) runs a i =
          absurd (frames_only j work res (Copied used) runs.run.sort i)
      reference_at j res (Ok (Picture used key stamp)) runs a i =
          absurd (frames_only j work res (Picture used key stamp) runs.run.sort i)
      reference_at j res (Ok (Damaged stamp)) runs a i =
          absurd (frames_only j work res (Damaged stamp) runs.run.sort i)
      reference_at j res (Ok (Changed geometry)) runs a i =
          absurd (frames_only j work res (Changed geometry) runs.run.sort i)
      reference_at j res (Ok Spent) runs a i =
          absurd (frames_only j work res Spent runs.run.sort i)
      reference_at j None (Ok (Encoded used key)) runs a i = absurd i
      reference_at j (Some (copied bytes)) (Ok (Encoded used key)) runs a i = absurd i
      reference_at j (Some (encoded frame)) (Ok (Encoded used key)) runs a i =
          frame_reference j.format frame.state work.reference (room_there j.codec j work runs.codec a) i.1.state i.1.picture
      reference_at j (Some (decoded step)) (Ok (Encoded used key)) runs a i =
          absurd (frames_only j work (Some (decoded step)) (Encoded used key) runs.run.sort i)

      pub finish_kept : IsBackOf c work outcome → IsEncoder formats final (anew_where end.fault work.reference) None
      finish_kept of =
          let j : JobData = of.back.job in
          let runs : RunsIn here j = subst (λ (y : Context). RunsIn y j) (sym view) of.runs in
          let left : PairState = first end.source_flags in
          let bytes : List ℕ = take end.used dest.payload.items in
          let same : final.out ≡ left.out = retired_out left end.used bytes end.dest_flags work.source.stamp in
          let some : 0 < buffer_count left.out =
          subst (λ (y : PairState). 0 < buffer_count y.out) (sym (first_is j end.source_flags _ runs refl))
          (some_left p.out p.out.job (without_bytes j.source) j.source.used _ end.source_flags j.source.stamp runs.source) in
          record {
            stands = inv.stands;
            settled = retired_settled left end.used bytes end.dest_flags work.source.stamp known.0;
            whole = subst (λ (y : QueueState). AreWhole formats.out.size y.ready) (sym same) (subst (AreWhole formats.out.size) (sym (source_ready p.out p.out.job (back_bytes p.out.job source) end.source_flags)) inv.whole);
            long =
                either_cap (λ (y : QueueState). AreLong formats.cap.size y.ready) (is_final left) left _ _ _
                (subst (AreLong formats.cap.size) (sym (retired_ready p.cap p.cap.job end.used bytes _ work.source.stamp)) inv.long)
                (subst (AreLong formats.cap.size) (sym (retired_ready p.cap p.cap.job end.used bytes end.dest_flags work.source.stamp)) inv.long);
            known = (
              ap (λ (y : QueueState). y.job) same ∙ source_out end.source_flags,
              either_cap (λ (y : QueueState). y.job ≡ []) (is_final left) left _ _ _ (emptied p.cap p.cap.job end.used bytes _ work.source.stamp refl) (emptied p.cap p.cap.job end.used bytes end.dest_flags work.source.stamp refl),
              supplied_by formats.out (buffer_count final.out) (anew_where end.fault work.reference)
                  (subst (λ (y : QueueState). 0 < buffer_count y) (sym same) some)
                  (subst (λ (f : Format). HasReference f (anew_where end.fault work.reference)) (format_is j runs) (reference_at j of.back.result outcome runs of.is_back.areas of.is_back.came_to)),
            );
          }

      -- the finish is a step

      used_room : (j : JobData) (res : Option RunResult) (o : Result Outcome EngineFault) → j.sort ≡ encode → IsResult res j work o → (end_of o).used ≤ length payload
      used_room j res (Err fault) e i = omega arith
      used_room j res (Ok (Copied used)) e i = omega arith
      used_room j res (Ok (Picture used key stamp)) e i = omega arith
      used_room j res (Ok (Damaged stamp)) e i = omega arith
      used_room j res (Ok (Changed geometry)) e i = omega arith
      used_room j res (Ok Spent) e i = omega arith
      used_room j None (Ok (Encoded used key)) e i = absurd i
      used_room j (Some (copied bytes)) (Ok (Encoded used key)) e i = absurd i
      used_room j (Some (encoded frame)) (Ok (Encoded used key)) e i =
          let n : length frame.bytes ≤ length payload = front_room frame.bytes payload (subst (HasFront frame.bytes) there i.1.bytes.front) in
          omega (arith, n, i.1.bytes.told)
      used_room j (Some (decoded step)) (Ok (Encoded used key)) e i =
          absurd (frames_only j work (Some (decoded step)) (Encoded used key) e i)

      pub finish_step : (raised : Bool) → IsBackOf c work outcome → IsStep c (encoder_state formats rates final (end_raised raised events) (anew_where end.fault work.reference) None)
      finish_step raised of =
          let j : JobData = of.back.job in
          let runs : RunsIn here j = subst (λ (y : Context). RunsIn y j) (sym view) of.runs in
          let left : PairState = first end.source_flags in
          let taken : List ℕ = take j.source.used work.source.payload.items in
          let bytes : List ℕ = take end.used dest.payload.items in
          let out_is : final.out ≡ retire_after p.out j.source.used taken end.source_flags j.source.stamp =
          retired_out left end.used bytes end.dest_flags work.source.stamp ∙ ap (λ (y : PairState). y.out) (first_is j end.source_flags taken runs refl) in
          let goes : Goes p.out (retire_after p.out j.source.used taken end.source_flags j.source.stamp) =
          retired_goes p.out j.source.used taken end.source_flags j.source.stamp (filled_front p.out.job j.source j.source.used runs.source k.job_filled refl) in
          let o : Goes p.out final.out = subst (Goes p.out) (sym out_is) goes in
          let oq : final.out.next_ordinal ≡ p.out.next_ordinal = ap (λ (y : QueueState). y.next_ordinal) out_is ∙ retired_queued p.out p.out.job j.source.used taken end.source_flags j.source.stamp in
          let ready : AreFilled final.out.ready = subst (λ (y : QueueState). AreFilled y.ready) (sym out_is) (subst AreFilled (sym (retired_ready p.out p.out.job j.source.used taken end.source_flags j.source.stamp)) k.filled) in
          let d = only of in
          let used : end.used ≤ length payload = used_room j of.back.result outcome runs.run.sort of.is_back.came_to in
          let room : HasRoomFor end.used p.cap.job = dest_room p.cap.job d.0 end.used d.1 (omega (arith, used, d.2)) in
          let q : Goes p.cap final.cap =
          either_cap (λ (y : QueueState). Goes p.cap y) (is_final left) left _ _ _ (retired_goes p.cap end.used bytes _ work.source.stamp room)
          (retired_goes p.cap end.used bytes end.dest_flags work.source.stamp room) in
          let qq : final.cap.next_ordinal ≡ p.cap.next_ordinal =
          either_cap (λ (y : QueueState). y.next_ordinal ≡ p.cap.next_ordinal) (is_final left) left _ _ _
          (retired_queued p.cap p.cap.job end.used bytes _ work.source.stamp)
          (retired_queued p.cap p.cap.job end.used bytes end.dest_flags work.source.stamp) in
          let after : IsEncoder formats final (anew_where end.fault work.reference) None = finish_kept of in
          let step : IsStep here (encoder_state formats rates final (end_raised raised events) (anew_where end.fault work.reference) None) = record {
            kept =
                record {
                  out_side = o.side ∙ k.out_side;
                  cap_side = q.side ∙ k.cap_side;
                  filled = ready;
                  job_filled = o.job k.job_filled;
                  out_filled = o.done k.out_filled;
                  cap_filled = q.done k.cap_filled;
                  out_idle = λ _. after.known.0;
                  cap_idle = λ _. after.known.1;
                };
            counted =
                λ bound n.
                record {
                  out_queued = omega (arith, oq, n.out_queued);
                  cap_queued = omega (arith, qq, n.cap_queued);
                  out_done = omega (arith, o.retired, n.out_done);
                  cap_done = omega (arith, q.retired, n.cap_done);
                  raised = omega (arith, end_counts raised events, n.raised);
                };
          } in
          rw (← view) step

      pub finish_holds : (raised : Bool) (hold : HoldState) → IsBackOf c work outcome → FitsContext c hold → FitsContext (encoder_state formats rates final (end_raised raised events) (anew_where end.fault work.reference) None) hold
      finish_holds raised hold of f =
          let j : JobData = of.back.job in
          let runs : RunsIn here j = subst (λ (y : Context). RunsIn y j) (sym view) of.runs in
          let left : PairState = first end.source_flags in
          let taken : List ℕ = take j.source.used work.source.payload.items in
          let bytes : List ℕ = take end.used dest.payload.items in
          let g : FitsContext here hold = subst (λ (y : Context). FitsContext y hold) (sym view) f in
          let out_is : final.out ≡ retire_after p.out j.source.used taken end.source_flags j.source.stamp =
          retired_out left end.used bytes end.dest_flags work.source.stamp ∙ ap (λ (y : PairState). y.out) (first_is j end.source_flags taken runs refl) in
          record {
            out = subst (λ (y : QueueState). Fits y hold) (sym out_is) (fits_retired p.out j.source.used taken end.source_flags j.source.stamp hold g.out);
            cap = either_cap (λ (y : QueueState). Fits y hold) (is_final left) left _ _ _ (fits_retired p.cap end.used bytes _ work.source.stamp hold g.cap) (fits_retired p.cap end.used bytes end.dest_flags work.source.stamp hold g.cap);
          }

      -- the same of what the calls leave

      module _ (e : RunEnd) (left new : PairState) (r : Option CodecReference) (raised : EventState) (b : Bool) (j : Option InJob)
          (ee : e ≡ end_of outcome) (el : left ≡ out_retired p (back_bytes p.out.job source) e.source_flags)
          (en : new ≡ cap_retired left e.used (take e.used dest.payload.items) e.dest_flags work.source.stamp) (eb : b ≡ is_final left)
          (er : r ≡ anew_where e.fault work.reference) (ev : raised ≡ end_raised b events) (ej : j ≡ None) where
        left_is : left ≡ first end.source_flags
        left_is = el ∙ ap (λ (n : RunEnd). first n.source_flags) ee

        new_is : new ≡ final
        new_is =
            en
            ∙ (ap (λ (y : PairState). cap_retired y e.used (take e.used dest.payload.items) e.dest_flags work.source.stamp) left_is
            ∙ ap (λ (n : RunEnd). cap_retired (first end.source_flags) n.used (take n.used dest.payload.items) n.dest_flags work.source.stamp) ee)

        r_is : r ≡ anew_where end.fault work.reference
        r_is = er ∙ ap (λ (n : RunEnd). anew_where n.fault work.reference) ee

        raised_is : raised ≡ end_raised (is_final (first end.source_flags)) events
        raised_is =
            ev ∙ ap (λ (t : Bool). end_raised t events) (eb ∙ ap is_final left_is)

        -- a fact of the context that the finish leaves
        leaves : (P : Context → Type 0) → P (encoder_state formats rates final (end_raised (is_final (first end.source_flags)) events) (anew_where end.fault work.reference) None) → P (encoder_state formats rates new raised r j)
        leaves P h =
            subst (λ (y : PairState). P (encoder_state formats rates y raised r j)) (sym new_is)
            (subst (λ (y : EventState). P (encoder_state formats rates final y r j)) (sym raised_is)
            (subst (λ (y : Option CodecReference). P (encoder_state formats rates final (end_raised (is_final (first end.source_flags)) events) y j))
            (sym r_is)
            (subst (λ (y : Option InJob). P (encoder_state formats rates final (end_raised (is_final (first end.source_flags)) events) (anew_where end.fault work.reference) y)) (sym ej) h)))

        pub ends_after : (back : BroughtBack) → RunsIn c back.job → IsBack back work outcome → encoder_state formats rates new raised r j ≡ finished_context c back
        ends_after back runs is =
            leaves (λ (y : Context). y ≡ finished_context c back) (finish_after back runs is)

        pub ends_step : IsBackOf c work outcome → IsStep c (encoder_state formats rates new raised r j)
        ends_step of = leaves (IsStep c) (finish_step (is_final (first end.source_flags)) of)

        pub ends_holds : (hold : HoldState) → IsBackOf c work outcome → FitsContext c hold → FitsContext (encoder_state formats rates new raised r j) hold
        ends_holds hold of f =
            leaves (λ (y : Context). FitsContext y hold) (finish_holds (is_final (first end.source_flags)) hold of f)

        pub ends_kept : IsBackOf c work outcome → IsEncoder formats new r j
        ends_kept of =
            subst (λ (y : PairState). IsEncoder formats y r j) (sym new_is)
            (subst (λ (y : Option CodecReference). IsEncoder formats final y j) (sym r_is) (subst (IsEncoder formats final (anew_where end.fault work.reference)) (sym ej) (finish_kept of)))

  pub counts_out : c.out.next_seq < 2 ^ 62 → p.out.next_seq < 2 ^ 62
  counts_out room = subst (λ (y : Context). y.out.next_seq < 2 ^ 62) (sym view) room

  pub counts_cap : c.cap.next_seq < 2 ^ 62 → p.cap.next_seq < 2 ^ 62
  counts_cap room = subst (λ (y : Context). y.cap.next_seq < 2 ^ 62) (sym view) room

  pub counts_events : c.events.next_seq < 2 ^ 62 → events.next_seq < 2 ^ 62
  counts_events room = subst (λ (y : Context). y.events.next_seq < 2 ^ 62) (sym view) room
