-- A context in which a job ended is one that the definitions reach. Soundness, which holds of all these, then gives
-- what the decoder keeps.
use Rattle.std.proofs.Common.{ℕ, ◌≡◌, ◌≤◌, ◌<◌, ◌+◌, eqb, ltb, nat_le, true, false, cond, ◌&&◌, Option, Some, None, List, [], ◌∷◌, ◌++◌, map, length, refl, sym, ap, ◌∙◌, subst, arith}
use Rattle.std.specs.Prelude.{is_none, is_some}
use Rattle.std.specs.List.{list_all}
use Rattle.std.proofs.lemmas.Bool.{false≢true}
use Rattle.std.proofs.lemmas.List.{length-map}
use Rattle.vc_base.specs.declared.Side.TheVariants.{Cap}
use Rattle.vc_base.specs.declared.Kind.{Kind}
use Rattle.vc_base.specs.Buffers.{Buffer, QueueState, buffers, without_bytes, without_job_bytes}
use Rattle.vc_defs.specs.Decoder.{DecodedResult, picture, damaged, changed, spent, step_outcome}
use Rattle.vc_model.specs.Coder.{CodecState, decoder}
use Rattle.vc_model.specs.Context.{Context, Running, sizeimage}
use Rattle.vc_model.specs.Runs.{JobData, RunResult, copied, encoded, decoded, decoded_effect, run_effect, fault_effect}
use Rattle.vc_model.specs.Core.{BroughtBack, back_effect, finished_context}
use Rattle.vc_model.specs.Sound.{count_index, CountsUp, IsSoundQueue, HasItsBuffers, HasCodec, AreLong, IsSoundButUnsettled, IsOrdered}
use Rattle.vc_model.specs.Standing.{without_data_of}
use Rattle.vc_model.proofs.QueuesKeepSound.{count_parts}
use Rattle.vc_model.proofs.CallsLeaveTheJob.{same_length}
use Rattle.vc_model.proofs.CallsKeepFirm.{run_no_change, settle_sound}
use Rattle.vc_model.proofs.EventsKeepSound.{IsEnding, Begins, HasResult, run_firm, fault_firm, at_most_one}
use Rattle.vc_context.specs.Works.{RunsIn}
use Rattle.vc_dec.specs.Decoders.{IsPlaced}

-- a queue without the bytes of its job is as sound

count_without : (bs : List Buffer) (i : ℕ) → count_index (map without_bytes bs) i ≡ count_index bs i
count_without [] i = refl
count_without (b ∷ bs) i = ap (λ n. cond (eqb b.index i) 1 0 + n) (count_without bs i)

counts_without : (bs ready : List Buffer) (first next : ℕ) → CountsUp (bs ++ ready) first next → CountsUp (map without_bytes bs ++ ready) first next
counts_without [] ready first next c = c
counts_without (b ∷ bs) ready first next c = (c.0, counts_without bs ready (first + 1) next c.1)

long_without : (least : ℕ) (bs : List Buffer) → AreLong least bs → AreLong least (map without_bytes bs)
long_without least bs h = all_without bs ∙ h
  where
    all_without : (l : List Buffer) → list_all (λ b. nat_le least b.size) (map without_bytes l) ≡ list_all (λ b. nat_le least b.size) l
    all_without [] = refl
    all_without (b ∷ l) = ap (λ t. nat_le least b.size && t) (all_without l)

queue_without : (q : QueueState) → IsSoundQueue q → IsSoundQueue (without_job_bytes q)
queue_without q s =
    record {
      once =
          λ i.
          let p = count_parts q.held q.ready q.job q.done i in
          let r = count_parts q.held q.ready (map without_bytes q.job) q.done i in
          let m = count_without q.job i in
          let e : count_index (buffers (without_job_bytes q)) i ≡ count_index (buffers q) i = omega arith in e ∙ (s.once i ∙ ap (λ n. cond (ltb i n) 1 0) (sym (same_length q)));
      latest = record { first = s.latest.first; counts = counts_without q.job q.ready s.latest.first q.next_ordinal s.latest.counts };
      job_at_rest = λ e. ap (map without_bytes) (s.job_at_rest e);
      done_at_rest = s.done_at_rest;
      seq_at_rest = s.seq_at_rest;
      filled = λ e. subst (λ n. 0 < n) (sym (same_length q)) (s.filled e);
    }

-- where a job ends

whole_ending : (w : Context) (o : Option Running) (codec : CodecState) → w.running ≡ o → is_none o ≡ false → IsSoundButUnsettled w → HasCodec w.kind codec → IsEnding (record (without_data_of w o) { codec = codec; running = None })
whole_ending w None codec e n f h = absurd (false≢true (sym n))
whole_ending w (Some r) codec e n f h =
    let b = subst (HasItsBuffers w) e f.has_buffers in
    record {
      out_side = f.out_side;
      cap_side = f.cap_side;
      out = queue_without w.out f.out;
      cap = queue_without w.cap f.cap;
      idle = refl;
      runs = b.0;
      has_codec = h;
      marked = f.marked;
      queued = f.queued;
      ready = λ s. f.long.ready s (run_no_change w.phase b.0);
      job = λ s. long_without (sizeimage w Cap) w.cap.job (f.long.job s (run_no_change w.phase b.0));
    }

same_kind : (w : Context) (o : Option Running) → (without_data_of w o).kind ≡ w.kind
same_kind w None = refl
same_kind w (Some r) = refl

same_running : (w : Context) (o : Option Running) → w.running ≡ o → is_none (without_data_of w o).running ≡ is_none o
same_running w None e = ap is_none e
same_running w (Some r) e = refl

runs_there : (o : Option Running) → is_some o ≡ true → is_none o ≡ false
runs_there None e = absurd (false≢true e)
runs_there (Some r) e = refl

-- the job, with its destination as the context has it
abbrev in_context : JobData → JobData
in_context j = record j { dest = map without_bytes j.dest }

begins_at : (c : Context) (j : JobData) → IsPlaced c → RunsIn c j → Begins (record c { codec = j.codec; running = None }) (in_context j)
begins_at c j p r =
    let w : Context = p.whole in
    let busy : is_none w.running ≡ false = sym (same_running w w.running refl) ∙ (ap (λ (x : Context). is_none x.running) p.without ∙ runs_there c.running r.running) in
    let kind : w.kind ≡ c.kind = sym (same_kind w w.running) ∙ ap (λ (x : Context). x.kind) p.without in
    record {
      ending = subst (λ (x : Context). IsEnding (record x { codec = j.codec; running = None })) p.without (whole_ending w w.running j.codec refl busy p.ordered.firm (subst (λ (k : Kind). HasCodec k j.codec) (sym kind) r.codec));
      source = ap length r.source;
      dest = r.dest;
      short = subst (λ n. n ≤ 1) (sym (length-map j.dest without_bytes ∙ r.dests)) (at_most_one j.sort);
    }

-- what the end of a job does looks at no byte of its destination

same_decoded : (c : Context) (j : JobData) (ds : List Buffer) (cursor : ℕ) (result : DecodedResult) → decoded_effect c (record j { dest = map without_bytes ds }) cursor result ≡ decoded_effect c (record j { dest = ds }) cursor result
same_decoded c j [] cursor result = refl
same_decoded c j (b ∷ rest) cursor (picture bytes key stamp) = refl
same_decoded c j (b ∷ rest) cursor (damaged stamp) = refl
same_decoded c j (b ∷ rest) cursor (changed geometry) = refl
same_decoded c j (b ∷ rest) cursor spent = refl

same_run : (c : Context) (j : JobData) (ds : List Buffer) (result : RunResult) → run_effect c (record j { dest = map without_bytes ds }) result ≡ run_effect c (record j { dest = ds }) result
same_run c j [] result = refl
same_run c j (b ∷ rest) (copied bytes) = refl
same_run c j (b ∷ rest) (encoded frame) = refl
same_run c j (b ∷ rest) (decoded step) =
    same_decoded (record c { codec = decoder step.state }) j (b ∷ rest) (j.source.cursor + step.moved) (step_outcome j.format.fourcc step)

same_fault : (c : Context) (j : JobData) (ds : List Buffer) → fault_effect c (record j { dest = map without_bytes ds }) ≡ fault_effect c (record j { dest = ds })
same_fault c j [] = refl
same_fault c j (b ∷ rest) = refl

-- the result, where there is one, is one for the kind
abbrev pub HasResultOf : Kind → Option RunResult → Type 0
HasResultOf kind None = Unit {0}
HasResultOf kind (Some result) = HasResult kind result

effect_firm : (c : Context) (j : JobData) (result : Option RunResult) → HasResultOf c.kind result → HasCodec c.kind c.codec → Begins c (in_context j) → IsSoundButUnsettled (back_effect c j result)
effect_firm c j None r h b =
    subst IsSoundButUnsettled (same_fault c j j.dest) (fault_firm c (in_context j) h b)
effect_firm c j (Some result) r h b =
    subst IsSoundButUnsettled (same_run c j j.dest result) (run_firm c (in_context j) result r b)

-- the context after the end of the job is in its places
pub finished_ordered : (c : Context) (back : BroughtBack) → IsPlaced c → RunsIn c back.job → HasResultOf c.kind back.result → IsOrdered (finished_context c back)
finished_ordered c back p r h =
    settle_sound (back_effect (record c { codec = back.job.codec; running = None }) back.job back.result) (effect_firm (record c { codec = back.job.codec; running = None }) back.job back.result h r.codec (begins_at c back.job p r))

-- a context in its places, in which no job runs, is one of the device
pub placed_alone : (c : Context) → c.running ≡ None → IsOrdered c → IsPlaced c
placed_alone c e o =
    record { whole = c; ordered = o; without = alone c.running e }
  where
    alone : (r : Option Running) → r ≡ None → without_data_of c r ≡ c
    alone None f = refl
    alone (Some r) f = cc
