-- The end of a copy puts both buffers on done, the destination with the copied bytes or after a fault with ERROR. The
-- context is then the one that the definitions finish.
use Rattle.std.proofs.Common.{ℕ, ◌≡◌, ◌≤◌, ◌+◌, leb, Bool, true, false, Option, Some, None, Result, Ok, Err, List, [], ◌∷◌, ◌++◌, map, length, take, refl, sym, ap, ◌∙◌, subst, arith, leb-true, length-take}
use Rattle.std.specs.Prelude.{min}
use Rattle.std.proofs.lemmas.Bool.{false≢true, and_parts}
use Rattle.vc_base.specs.declared.Side.{Side}
use Rattle.vc_base.specs.declared.Side.TheVariants.{Out, Cap}
use Rattle.vc_base.specs.declared.Kind.TheVariants.{Copy}
use Rattle.vc_base.specs.declared.Stamp.{Stamp}
use Rattle.vc_base.specs.Buffers.{Buffer, QueueState, retire_from, retire_after, known_bytes, without_bytes}
use Rattle.vc_base.specs.Limits.{error_flag}
use Rattle.vc_model.specs.Coder.{CodecState, no_codec, encoder, decoder}
use Rattle.vc_model.specs.Context.{Context, RunSort, copy, encode, decode, probe, settle}
use Rattle.vc_model.specs.Runs.{JobData, dest_done, RunResult, copied, encoded, decoded}
use Rattle.vc_model.specs.Core.{BroughtBack, back_effect, finished_context}
use Rattle.vc_model.specs.Sound.{HasCodec, dest_count}
use Rattle.vc_queue.specs.declared.queue.Lent.{Lent}
use Rattle.vc_queue.specs.Lending.{IsBack as IsLentBack}
use Rattle.vc_work.specs.declared.work.Work.{Work}
use Rattle.vc_work.specs.declared.engine.Outcome.{Outcome}
use Rattle.vc_work.specs.declared.engine.Outcome.TheVariants.{Copied, Encoded, Picture, Damaged, Changed, Spent}
use Rattle.vc_work.specs.declared.engine.EngineFault.{EngineFault}
use Rattle.vc_work.specs.Runs.{dest_bytes}
use Rattle.vc_context.specs.Contexts.{AreFilled, IsKept, IsStep}
use Rattle.vc_context.specs.Works.{IsSourceBack, IsDest, HasBytes, HasFront, is_decoding, IsResult, IsBack, IsBackOf, RunsIn, IsIndexOf}
use Rattle.vc_context.proofs.QueuesCountUp.{HasRoomFor, Goes, retired_goes, retired_ready}
use Rattle.vc_copy.specs.Copying.{copier_state, brought_used, brought_flags}
use Rattle.vc_copy.proofs.CopierAnswers.{settled}

-- the codec of a copying context
no_codec_there : (codec : CodecState) → HasCodec Copy codec → codec ≡ no_codec
no_codec_there no_codec h = refl
no_codec_there (encoder state) h = absurd h
no_codec_there (decoder state) h = absurd h

-- a copy run copies, and gives nothing else
abbrev IsCopyOf : Outcome → Option RunResult → Type 0
IsCopyOf (Copied used) (Some (copied bytes)) = Unit {0}
IsCopyOf outcome result = ⊥

encodes_none : encode ≡ copy → ⊥
encodes_none e = cc

decodes_none : (run : RunSort) → run ≡ copy → is_decoding run ≡ true → ⊥
decodes_none copy e d = false≢true d
decodes_none encode e d = false≢true d
decodes_none decode e d = cc
decodes_none probe e d = cc

copies_only : (j : JobData) (work : Work) (res : Option RunResult) (o : Outcome) → j.sort ≡ copy → IsResult res j work (Ok o) → IsCopyOf o res
copies_only j work None o e i = absurd i
copies_only j work (Some (copied bytes)) (Copied used) e i = tt
copies_only j work (Some (copied bytes)) (Encoded used key) e i = absurd i
copies_only j work (Some (copied bytes)) (Picture used key stamp) e i = absurd i
copies_only j work (Some (copied bytes)) (Damaged stamp) e i = absurd i
copies_only j work (Some (copied bytes)) (Changed geometry) e i = absurd i
copies_only j work (Some (copied bytes)) Spent e i = absurd i
copies_only j work (Some (encoded frame)) (Copied used) e i = absurd i
copies_only j work (Some (encoded frame)) (Encoded used key) e i = absurd (encodes_none (sym i.0 ∙ e))
copies_only j work (Some (encoded frame)) (Picture used key stamp) e i = absurd i
copies_only j work (Some (encoded frame)) (Damaged stamp) e i = absurd i
copies_only j work (Some (encoded frame)) (Changed geometry) e i = absurd i
copies_only j work (Some (encoded frame)) Spent e i = absurd i
copies_only j work (Some (decoded step)) o e i = absurd (decodes_none j.sort e i.0)

-- a retired OUTPUT buffer with ERROR shows no bytes
on_output : (a b : List ℕ) (s : Side) → s ≡ Out → known_bytes s error_flag a ≡ known_bytes s error_flag b
on_output a b Out h = refl
on_output a b Cap h = cc

retired_error : (q : QueueState) (bs : List Buffer) (used : ℕ) (a b : List ℕ) (stamp : Stamp) → q.side ≡ Out → retire_from q bs used a error_flag stamp ≡ retire_from q bs used b error_flag stamp
retired_error q [] used a b stamp e = refl
retired_error q (x ∷ rest) used a b stamp e =
    let put : List ℕ → QueueState = λ bytes. record q { job = []; done = q.done ++ record x { used = used; bytes = bytes; flags = error_flag; stamp = stamp; seq = q.next_seq } ∷ []; next_seq = q.next_seq + 1 } in
    ap put (on_output a b q.side e)

-- the destination goes to done, and no drain ends
dest_at :
    (size : ℕ) (out cap : QueueState) (ds : List Buffer) (used : ℕ) (bytes : List ℕ) (flags : ℕ) (stamp : Stamp) → length ds ≡ 1
    → dest_done (copier_state size out cap false) ds true used bytes flags stamp ≡ copier_state size out (retire_after cap used bytes flags stamp) false
dest_at size out cap [] used bytes flags stamp h = absurd (omega (arith, h))
dest_at size out cap (b ∷ []) used bytes flags stamp h = refl
dest_at size out cap (b ∷ (d ∷ rest)) used bytes flags stamp h = absurd (omega (arith, h))

effect_is :
    (size : ℕ) (out cap : QueueState) (running : Bool) (j : JobData) (result : Option RunResult) → HasCodec Copy j.codec
    → finished_context (copier_state size out cap running) (record { job = j; result = result }) ≡ settle (back_effect (copier_state size out cap false) j result)
effect_is size out cap running j result h =
    ap (λ (codec : CodecState). settle (back_effect (record (copier_state size out cap false) { codec = codec }) j result)) (no_codec_there j.codec h)

fault_is :
    (size : ℕ) (out cap : QueueState) (j : JobData) → length j.dest ≡ 1
    → settle (back_effect (copier_state size out cap false) j None)
    ≡ copier_state size (retire_after out j.source.used j.source.bytes error_flag j.source.stamp) (retire_after cap 0 [] error_flag j.source.stamp) false
fault_is size out cap j h =
    let o : QueueState = retire_after out j.source.used j.source.bytes error_flag j.source.stamp in
    ap settle (dest_at size o cap j.dest 0 [] error_flag j.source.stamp h) ∙ settled size o (retire_after cap 0 [] error_flag j.source.stamp) false

copied_is :
    (size : ℕ) (out cap : QueueState) (j : JobData) (bytes : List ℕ) → length j.dest ≡ 1
    → settle (back_effect (copier_state size out cap false) j (Some (copied bytes)))
    ≡ copier_state size (retire_after out j.source.used j.source.bytes 0 j.source.stamp) (retire_after cap (length bytes) bytes 0 j.source.stamp) false
copied_is size out cap j bytes h =
    let o : QueueState = retire_after out j.source.used j.source.bytes 0 j.source.stamp in
    ap settle (dest_at size o cap j.dest (length bytes) bytes 0 j.source.stamp h) ∙ settled size o (retire_after cap (length bytes) bytes 0 j.source.stamp) false

-- The context with both buffers retired is what the finish leaves.

module _ (size : ℕ) (out cap : QueueState) (work : Work) (payload : List ℕ) (there : dest_bytes work ≡ Some payload) where
  abbrev retired : Result Outcome EngineFault → Context
  retired result =
      copier_state size (retire_after out work.source.used (take work.source.used work.source.payload.items) (brought_flags result) work.source.stamp)
      (retire_after cap (brought_used result) (take (brought_used result) payload) (brought_flags result) work.source.stamp) false

  retired_fault :
      (j : JobData) (fault : EngineFault) → out.side ≡ Out → IsSourceBack j.source work.source
      → retired (Err fault) ≡ copier_state size (retire_after out j.source.used j.source.bytes error_flag j.source.stamp) (retire_after cap 0 [] error_flag j.source.stamp) false
  retired_fault j fault s r =
      rw (r.used, r.stamp)
      (ap (λ (o : QueueState). copier_state size o (retire_after cap 0 [] error_flag j.source.stamp) false)
      (retired_error out out.job j.source.used (take j.source.used work.source.payload.items) j.source.bytes j.source.stamp s))

  retired_copied :
      (j : JobData) (bytes : List ℕ) (used : ℕ) → IsSourceBack j.source work.source → HasBytes bytes j.source work used
      → retired (Ok (Copied used)) ≡ copier_state size (retire_after out j.source.used j.source.bytes 0 j.source.stamp) (retire_after cap (length bytes) bytes 0 j.source.stamp) false
  retired_copied j bytes used r i =
      let front : take (length bytes) payload ≡ bytes = subst (HasFront bytes) there i.front in
      rw (i.told, r.used, r.stamp)
      (ap
      (λ (bs : List ℕ). copier_state size (retire_after out j.source.used bs 0 j.source.stamp) (retire_after cap (length bytes) (take (length bytes) payload) 0 j.source.stamp) false)
      i.source_bytes
      ∙ ap (λ (bs : List ℕ). copier_state size (retire_after out j.source.used j.source.bytes 0 j.source.stamp) (retire_after cap (length bytes) bs 0 j.source.stamp) false) front)

  finish_at :
      (running : Bool) (j : JobData) (back : Option RunResult) (result : Result Outcome EngineFault) → out.side ≡ Out → HasCodec Copy j.codec
      → j.sort ≡ copy → length j.dest ≡ 1 → IsSourceBack j.source work.source → IsResult back j work result
      → retired result ≡ finished_context (copier_state size out cap running) (record { job = j; result = back })
  finish_at running j None (Err fault) s h o d r i =
      retired_fault j fault s r ∙ sym (effect_is size out cap running j None h ∙ fault_is size out cap j d)
  finish_at running j (Some (copied bytes)) (Err fault) s h o d r i = absurd i
  finish_at running j (Some (encoded frame)) (Err fault) s h o d r i = absurd i
  finish_at running j (Some (decoded step)) (Err fault) s h o d r i = absurd i
  finish_at running j res (Ok outcome) s h o d r i = by_copy outcome res (copies_only j work res outcome o i) i
    where
      by_copy : (outcome : Outcome) (res : Option RunResult) → IsCopyOf outcome res → IsResult res j work (Ok outcome) → retired (Ok outcome) ≡ finished_context (copier_state size out cap running) (record { job = j; result = res })
      by_copy (Copied used) None t i = absurd t
      by_copy (Copied used) (Some (copied bytes)) t i =
          retired_copied j bytes used r i.1 ∙ sym (effect_is size out cap running j (Some (copied bytes)) h ∙ copied_is size out cap j bytes d)
      by_copy (Copied used) (Some (encoded frame)) t i = absurd t
      by_copy (Copied used) (Some (decoded step)) t i = absurd t
      by_copy (Encoded used key) res t i = absurd t
      by_copy (Picture used key stamp) res t i = absurd t
      by_copy (Damaged stamp) res t i = absurd t
      by_copy (Changed geometry) res t i = absurd t
      by_copy Spent res t i = absurd t

  pub finish_gives :
      (running : Bool) (c : Context) (back : BroughtBack) (result : Result Outcome EngineFault) → copier_state size out cap running ≡ c → IsKept c
      → RunsIn c back.job → IsBack back work result → retired result ≡ finished_context c back
  finish_gives running c back result view kept runs b =
      let s : out.side ≡ Out = (subst (λ (x : Context). IsKept x) (sym view) kept).out_side in
      let r : RunsIn (copier_state size out cap running) back.job = subst (λ (x : Context). RunsIn x back.job) (sym view) runs in
      let one : length back.job.dest ≡ 1 = r.dests ∙ ap dest_count r.run.sort in
      rw (← view) (finish_at running back.job back.result result s r.codec r.run.sort one b.source b.came_to)

-- the buffers of the job go to done

emptied : (q : QueueState) (bs : List Buffer) (used : ℕ) (bytes : List ℕ) (flags : ℕ) (stamp : Stamp) → q.job ≡ bs → (retire_from q bs used bytes flags stamp).job ≡ []
emptied q [] used bytes flags stamp e = e
emptied q (b ∷ rest) used bytes flags stamp e = refl

retired_queued : (q : QueueState) (bs : List Buffer) (used : ℕ) (bytes : List ℕ) (flags : ℕ) (stamp : Stamp) → (retire_from q bs used bytes flags stamp).next_ordinal ≡ q.next_ordinal
retired_queued q [] used bytes flags stamp = refl
retired_queued q (b ∷ rest) used bytes flags stamp = refl

only_dest : (ds bs : List Buffer) (payload : List ℕ) → length ds ≡ 1 → bs ≡ map without_bytes ds → IsDest ds (Some payload) → (b : Buffer) × (bs ≡ without_bytes b ∷ []) × (length payload ≡ b.size)
only_dest [] bs payload n e d = absurd (omega (arith, n))
only_dest (b ∷ []) bs payload n e d = (b, e, d)
only_dest (b ∷ (x ∷ rest)) bs payload n e d = absurd (omega (arith, n))

filled_front : (bs : List Buffer) (b : Buffer) (used : ℕ) → bs ≡ without_bytes b ∷ [] → AreFilled bs → used ≡ b.used → HasRoomFor used bs
filled_front [] b used e f u = tt
filled_front (x ∷ rest) b used e f u =
    let same : x ≡ without_bytes b = cc in
    let room : x.used ≤ x.size = leb-true x.used x.size (and_parts (leb x.used x.size) _ f).0 in
    rw u (subst (λ (y : Buffer). y.used ≤ x.size) same room)

-- a queue whose buffer went to done has none in the job
pub rests : (index : ℕ) (q new : QueueState) (used : ℕ) (bytes : List ℕ) (flags : ℕ) (stamp : Stamp) → new ≡ retire_after q used bytes flags stamp → IsIndexOf index new.job
rests index q new used bytes flags stamp e =
    subst (λ (o : QueueState). IsIndexOf index o.job) (sym e) (subst (λ (bs : List Buffer). IsIndexOf index bs) (sym (emptied q q.job used bytes flags stamp refl)) tt)

-- what comes back under the index of the job's buffer, as long as that
back_at : (bs : List Buffer) (b : Buffer) (lent : Lent) (index : ℕ) → bs ≡ without_bytes b ∷ [] → IsIndexOf index bs → lent.index ≡ index → length lent.payload.items ≡ b.size → IsLentBack bs lent
back_at [] b lent index e at i l = cc
back_at (x ∷ rest) b lent index e at i l =
    let same : x ≡ without_bytes b = cc in
    (i ∙ sym at, l ∙ ap (λ (y : Buffer). y.size) (sym same))

-- a job with a destination brings it back
none_back : (ds : List Buffer) → length ds ≡ 1 → IsDest ds None → ⊥
none_back [] n d = omega (arith, n)
none_back (b ∷ []) n d = d
none_back (b ∷ (x ∷ rest)) n d = d

module _ (size : ℕ) (out cap : QueueState) (running : Bool) (c : Context) (view : copier_state size out cap running ≡ c) (kept : IsKept c) (work : Work) (result : Result Outcome EngineFault) (of : IsBackOf c work result) where
  runs : RunsIn (copier_state size out cap running) of.back.job
  runs = subst (λ (x : Context). RunsIn x of.back.job) (sym view) of.runs

  one : length of.back.job.dest ≡ 1
  one = runs.dests ∙ ap dest_count runs.run.sort

  dest_there : (payload : List ℕ) → dest_bytes work ≡ Some payload → (b : Buffer) × (cap.job ≡ without_bytes b ∷ []) × (length payload ≡ b.size)
  dest_there payload e =
      only_dest of.back.job.dest cap.job payload one runs.dest (subst (IsDest of.back.job.dest) e of.is_back.dest)

  pub dest_comes : dest_bytes work ≡ None → ⊥
  dest_comes e = none_back of.back.job.dest one (subst (IsDest of.back.job.dest) e of.is_back.dest)

  pub dest_back : (dest : Lent) (payload : List ℕ) (index : ℕ) → dest_bytes work ≡ Some payload → IsIndexOf index cap.job → dest.index ≡ index → dest.payload.items ≡ payload → IsLentBack cap.job dest
  dest_back dest payload index e at i p =
      let d = dest_there payload e in back_at cap.job d.0 dest index d.1 at i (ap length p ∙ d.2)

  -- the used bytes have room

  front_room : (bytes payload : List ℕ) → take (length bytes) payload ≡ bytes → length bytes ≤ length payload
  front_room bytes payload e =
      let n : length bytes ≡ min (length bytes) (length payload) = sym (ap length e) ∙ length-take (length bytes) payload in
      omega (arith, n)

  brought_room : (j : JobData) (back : Option RunResult) (r : Result Outcome EngineFault) (payload : List ℕ) → dest_bytes work ≡ Some payload → j.sort ≡ copy → IsResult back j work r → brought_used r ≤ length payload
  brought_room j back (Err fault) payload e o i = omega arith
  brought_room j None (Ok (Copied used)) payload e o i = absurd i
  brought_room j (Some (copied bytes)) (Ok (Copied used)) payload e o i =
      let n : length bytes ≤ length payload = front_room bytes payload (subst (HasFront bytes) e i.1.front) in
      omega (arith, n, i.1.told)
  brought_room j (Some (encoded frame)) (Ok (Copied used)) payload e o i = absurd i
  brought_room j (Some (decoded step)) (Ok (Copied used)) payload e o i = absurd (decodes_none j.sort o i.0)
  brought_room j back (Ok (Encoded used key)) payload e o i = omega arith
  brought_room j back (Ok (Picture used key stamp)) payload e o i = omega arith
  brought_room j back (Ok (Damaged stamp)) payload e o i = omega arith
  brought_room j back (Ok (Changed geometry)) payload e o i = omega arith
  brought_room j back (Ok Spent) payload e o i = omega arith

  dest_room : (bs : List Buffer) (b : Buffer) (used : ℕ) → bs ≡ without_bytes b ∷ [] → used ≤ b.size → HasRoomFor used bs
  dest_room [] b used e h = tt
  dest_room (x ∷ rest) b used e h =
      let same : x ≡ without_bytes b = cc in
      subst (λ (y : Buffer). used ≤ y.size) (sym same) h

  pub finish_step :
      (payload : List ℕ) (new_out new_cap : QueueState) → dest_bytes work ≡ Some payload
      → new_out ≡ retire_after out work.source.used (take work.source.used work.source.payload.items) (brought_flags result) work.source.stamp
      → new_cap ≡ retire_after cap (brought_used result) (take (brought_used result) payload) (brought_flags result) work.source.stamp
      → IsStep c (copier_state size new_out new_cap false)
  finish_step payload new_out new_cap e eo ec =
      let k = subst (λ (x : Context). IsKept x) (sym view) kept in
      let d = dest_there payload e in
      let used : brought_used result ≤ length payload = brought_room of.back.job of.back.result result payload e runs.run.sort of.is_back.came_to in
      let o :
      Goes out (retire_after out work.source.used (take work.source.used work.source.payload.items) (brought_flags result) work.source.stamp) =
      retired_goes out work.source.used _ (brought_flags result) work.source.stamp (filled_front out.job of.back.job.source work.source.used runs.source k.job_filled of.is_back.source.used) in
      let p : Goes cap (retire_after cap (brought_used result) (take (brought_used result) payload) (brought_flags result) work.source.stamp) =
      retired_goes cap (brought_used result) _ (brought_flags result) work.source.stamp (dest_room cap.job d.0 (brought_used result) d.1 (omega (arith, used, d.2))) in
      let step : IsStep (copier_state size out cap running)
      (copier_state size
      (retire_after out work.source.used (take work.source.used work.source.payload.items) (brought_flags result) work.source.stamp)
      (retire_after cap (brought_used result) (take (brought_used result) payload) (brought_flags result) work.source.stamp) false)
      = record {
        kept =
            record {
              out_side = o.side ∙ k.out_side;
              cap_side = p.side ∙ k.cap_side;
              filled = subst AreFilled (sym (retired_ready out out.job _ _ _ _)) k.filled;
              job_filled = o.job k.job_filled;
              out_filled = o.done k.out_filled;
              cap_filled = p.done k.cap_filled;
              out_idle = λ x. emptied out out.job _ _ _ _ refl;
              cap_idle = λ x. emptied cap cap.job _ _ _ _ refl;
            };
        counted =
            λ bound n.
            record {
              out_queued = omega (arith, retired_queued out out.job work.source.used (take work.source.used work.source.payload.items) (brought_flags result) work.source.stamp, n.out_queued);
              cap_queued = omega (arith, retired_queued cap cap.job (brought_used result) (take (brought_used result) payload) (brought_flags result) work.source.stamp, n.cap_queued);
              out_done = omega (arith, o.retired, n.out_done);
              cap_done = omega (arith, p.retired, n.cap_done);
              raised = omega (arith, n.raised);
            };
      } in
      rw (eo, ec, ← view) step
