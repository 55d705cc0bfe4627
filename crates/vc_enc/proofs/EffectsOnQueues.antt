-- What each call that is not refused makes of the two queues of an encoder, before they settle. No buffer in a job is
-- touched, what is ready still fits the formats, and the reference is there exactly where OUTPUT has buffers.
use Rattle.std.proofs.Common.{ℕ, zero, suc, ◌≡◌, ◌<◌, ◌≤◌, ◌+◌, ltb, leb, Bool, true, false, cond, not, ◌==◌, Option, Some, None, List, [], ◌∷◌, ◌++◌, map, length, refl, sym, ap, ◌∙◌, subst, arith, length-append}
use Rattle.std.proofs.lemmas.List.{length-map}
use Rattle.std.specs.Prelude.{is_some, nat_lt, nat_le, min}
use Rattle.std.specs.List.{list_all}
use Rattle.std.proofs.lemmas.Bool.{false≢true, and_parts, and_from, not-false, ltb-true, ltb-false}
use Rattle.vc_base.specs.declared.Side.{Side}
use Rattle.vc_base.specs.declared.Side.TheVariants.{Out, Cap}
use Rattle.vc_base.specs.declared.Stamp.{Stamp}
use Rattle.vc_base.specs.declared.Errno.TheVariants.{Inval}
use Rattle.vc_base.specs.Buffers.{Buffer, QueueState, is_empty, buffer_count, refuse_if, streamon_after, with_index, held_refusal, qbuf_refusal, qbuf_after}
use Rattle.vc_base.specs.Buffers.{queue_held, queued_buffer, take_front, dqbuf_after, held_again, streamoff_after, reqbufs_after, create_after, new_buffers}
use Rattle.vc_base.specs.Buffers.{created}
use Rattle.vc_defs.specs.Encoder.{fresh_encoder}
use Rattle.vc_model.specs.Formats.{FormatPair}
use Rattle.vc_model.specs.Context.{drain, change, PhaseState, run, owe, last, stopped}
use Rattle.vc_model.specs.Answer.{mark_after_restart}
use Rattle.vc_model.specs.Phases.{is_stopped_by_drain}
use Rattle.vc_model.specs.Sound.{AreLong}
use Rattle.vc_work.specs.References.{CodecReference}
use Rattle.vc_pair.specs.Pairs.{PairState, queue_at, with_queue_at, pair_at_last, pair_taken, pair_marked, pair_started, pair_off, both_streaming}
use Rattle.vc_context.specs.Contexts.{AreFilled}
use Rattle.vc_context.proofs.QueuesCountUp.{taken_goes}
use Rattle.vc_enc.specs.declared.InJob.{InJob}
use Rattle.vc_enc.specs.Encoders.{AreWhole, IsSupplied, KnowsItsJob, IsEncoder, new_reference}
use Rattle.vc_enc.proofs.KeptThroughCalls.{GoesQueue, IsEffect, stays, no_effect, still_supplied}

-- lists

all_end : (t : Buffer → Bool) (bs : List Buffer) (x : Buffer) → list_all t bs ≡ true → t x ≡ true → list_all t (bs ++ x ∷ []) ≡ true
all_end t [] x h e = and_from (t x) true e refl
all_end t (b ∷ bs) x h e =
    let r = and_parts (t b) (list_all t bs) h in and_from (t b) (list_all t (bs ++ x ∷ [])) r.0 (all_end t bs x r.1 e)

not_above : (a b : ℕ) → ltb a b ≡ false → leb b a ≡ true
not_above a b e = grind (arith, e)

some_held : (index : ℕ) (bs : List Buffer) (b : Buffer) → with_index index bs ≡ Some b → 0 < length bs
some_held index [] b e = cc
some_held index (x ∷ bs) b e = omega arith

module _ (formats : FormatPair) (p : PairState) (reference : Option CodecReference) (job : Option InJob) (inv : IsEncoder formats p reference job) (filled : AreFilled p.out.ready) where
  abbrev w : Bool
  w = is_some job

  here : IsEffect formats reference job p p
  here = no_effect formats p reference job inv filled

  -- one of two
  either : (b : Bool) (q r : PairState) → IsEffect formats reference job p q → IsEffect formats reference job p r → IsEffect formats reference job p (cond b q r)
  either true q r a b = a
  either false q r a b = b

  -- StreamOn, STOP and START

  pub on_effect : (side : Side) → IsEffect formats reference job p (with_queue_at p side (streamon_after (queue_at p side)))
  on_effect Out =
      record {
        goes = record { out = record { side = refl; job = refl; streams = λ _ e. refl; queued = omega arith; retired = omega arith; filled = λ h. h }; cap = stays w p.cap; phase = λ _ e. e };
        fine = record { whole = inv.whole; filled = filled; long = inv.long };
        supplied = here.supplied;
      }
  on_effect Cap =
      record {
        goes = record { out = stays w p.out; cap = record { side = refl; job = refl; streams = λ _ e. refl; queued = omega arith; retired = omega arith; filled = λ h. h }; phase = λ _ e. e };
        fine = record { whole = inv.whole; filled = filled; long = inv.long };
        supplied = here.supplied;
      }

  marked_effect : (mark : Option ℕ) → IsEffect formats reference job p (record p { mark = mark })
  marked_effect mark =
      record {
        goes = record { out = stays w p.out; cap = stays w p.cap; phase = λ _ e. e };
        fine = record { whole = inv.whole; filled = filled; long = inv.long };
        supplied = here.supplied;
      }

  pub stop_effect : IsEffect formats reference job p (pair_marked p)
  stop_effect =
      either (not (both_streaming p)) p _ here (either (is_stopped_by_drain p.phase) p _ here (marked_effect (Some p.out.next_ordinal)))

  pub start_effect : IsEffect formats reference job p (pair_started p)
  start_effect =
      either (not (both_streaming p)) p (record p { phase = run }) here (record {
        goes = record { out = stays w p.out; cap = stays w p.cap; phase = λ _ e. refl };
        fine = record { whole = inv.whole; filled = filled; long = inv.long };
        supplied = here.supplied;
      })

  -- QBuf

  not_refused : (t u : Bool) → refuse_if t Inval (refuse_if u Inval None) ≡ None → (t ≡ false) × (u ≡ false)
  not_refused true u e = cc
  not_refused false true e = cc
  not_refused false false e = (refl, refl)

  pub qbuf_out_effect :
      (index used : ℕ) (stamp : Stamp) (bytes : List ℕ) → p.out.side ≡ Out → not (used == formats.out.size) ≡ false
      → qbuf_refusal p.out index used formats.out.size ≡ None
      → IsEffect formats reference job p (with_queue_at p Out (qbuf_after p.out index used stamp bytes))
  qbuf_out_effect index used stamp bytes s whole r =
      by (with_index index p.out.held) refl (subst (λ (x : Side). held_refusal x (with_index index p.out.held) used formats.out.size ≡ None) s r)
    where
      by : (f : Option Buffer) → with_index index p.out.held ≡ f → held_refusal Out f used formats.out.size ≡ None → IsEffect formats reference job p (with_queue_at p Out (queue_held p.out index f used stamp bytes))
      by None found e = cc
      by (Some b) found e =
          let room : leb used b.size ≡ true = not_above b.size used (not_refused (nat_lt b.size used) (nat_lt b.size formats.out.size) e).0 in
          let x : Buffer = queued_buffer Out b used stamp bytes p.out.next_ordinal in
          let same : queued_buffer p.out.side b used stamp bytes p.out.next_ordinal ≡ x = ap (λ (y : Side). queued_buffer y b used stamp bytes p.out.next_ordinal) s in
          record {
            goes = record { out = record { side = refl; job = refl; streams = λ _ h. h; queued = omega arith; retired = omega arith; filled = λ h. h }; cap = stays w p.cap; phase = λ _ h. h };
            fine = record {
              whole = subst (λ (y : Buffer). AreWhole formats.out.size (p.out.ready ++ y ∷ [])) (sym same) (all_end (λ y. y.used == formats.out.size) p.out.ready x inv.whole (not-false (used == formats.out.size) whole));
              filled = subst (λ (y : Buffer). AreFilled (p.out.ready ++ y ∷ [])) (sym same) (all_end (λ y. nat_le y.used y.size) p.out.ready x filled room);
              long = inv.long;
            };
            supplied =
                λ n.
                still_supplied formats.out _ _ reference
                (λ z. absurd (let some : 0 < length p.out.held = some_held index p.out.held b found in omega arith))
                (λ _. omega (arith, length-append p.out.ready (queued_buffer p.out.side b used stamp bytes p.out.next_ordinal ∷ [])))
                (here.supplied n);
          }

  pub qbuf_cap_effect :
      (index used : ℕ) (stamp : Stamp) (bytes : List ℕ) → p.cap.side ≡ Cap → qbuf_refusal p.cap index used formats.cap.size ≡ None
      → IsEffect formats reference job p (with_queue_at p Cap (qbuf_after p.cap index used stamp bytes))
  qbuf_cap_effect index used stamp bytes s r =
      by (with_index index p.cap.held) (subst (λ (x : Side). held_refusal x (with_index index p.cap.held) used formats.cap.size ≡ None) s r)
    where
      by : (f : Option Buffer) → held_refusal Cap f used formats.cap.size ≡ None → IsEffect formats reference job p (with_queue_at p Cap (queue_held p.cap index f used stamp bytes))
      by None e = cc
      by (Some b) e =
          let room : leb formats.cap.size b.size ≡ true = not_above b.size formats.cap.size (not_refused false (nat_lt b.size formats.cap.size) e).1 in
          let x : Buffer = queued_buffer Cap b used stamp bytes p.cap.next_ordinal in
          let same : queued_buffer p.cap.side b used stamp bytes p.cap.next_ordinal ≡ x = ap (λ (y : Side). queued_buffer y b used stamp bytes p.cap.next_ordinal) s in
          record {
            goes = record { out = stays w p.out; cap = record { side = refl; job = refl; streams = λ _ h. h; queued = omega arith; retired = omega arith; filled = λ h. h }; phase = λ _ h. h };
            fine = record {
              whole = inv.whole;
              filled = filled;
              long = subst (λ (y : Buffer). AreLong formats.cap.size (p.cap.ready ++ y ∷ [])) (sym same) (all_end (λ y. nat_le formats.cap.size y.size) p.cap.ready x inv.long room);
            };
            supplied = here.supplied;
          }

  -- DqBuf

  taken_queue : (q : QueueState) (ds : List Buffer) → q.done ≡ ds → GoesQueue w q (take_front q ds)
  taken_queue q [] same = stays w q
  taken_queue q (b ∷ rest) same =
      record { side = refl; job = refl; streams = λ _ e. e; queued = omega arith; retired = omega arith; filled = (taken_goes q (b ∷ rest) same).done }

  taken_ready : (q : QueueState) (ds : List Buffer) → (take_front q ds).ready ≡ q.ready
  taken_ready q [] = refl
  taken_ready q (b ∷ rest) = refl

  last_phase : (q : PairState) (phase : PhaseState) (emptied : Bool) → phase ≡ run → pair_at_last q phase emptied ≡ q
  last_phase q run emptied e = refl
  last_phase q (owe cause) emptied e = cc
  last_phase q (last cause) emptied e = cc
  last_phase q (stopped cause) emptied e = cc

  last_cap : (q : PairState) (phase : PhaseState) (emptied : Bool) → (pair_at_last q phase emptied).cap ≡ q.cap
  last_cap q run emptied = refl
  last_cap q (owe cause) emptied = refl
  last_cap q (last drain) true = refl
  last_cap q (last drain) false = refl
  last_cap q (last change) true = refl
  last_cap q (last change) false = refl
  last_cap q (stopped cause) emptied = refl

  last_out : (q : PairState) (phase : PhaseState) (emptied : Bool) → (pair_at_last q phase emptied).out ≡ q.out
  last_out q run emptied = refl
  last_out q (owe cause) emptied = refl
  last_out q (last drain) true = refl
  last_out q (last drain) false = refl
  last_out q (last change) true = refl
  last_out q (last change) false = refl
  last_out q (stopped cause) emptied = refl

  taken_count : (q : QueueState) (ds : List Buffer) → q.done ≡ ds → buffer_count (take_front q ds) ≡ buffer_count q
  taken_count q [] e = refl
  taken_count q (b ∷ rest) e =
      omega (arith, length-append q.held (held_again b ∷ []), ap length e)

  pub dqbuf_effect : (side : Side) → IsEffect formats reference job p (pair_taken p side)
  dqbuf_effect Out =
      record {
        goes = record { out = taken_queue p.out p.out.done refl; cap = stays w p.cap; phase = λ _ e. e };
        fine = record { whole = subst (AreWhole formats.out.size) (sym (taken_ready p.out p.out.done)) inv.whole; filled = subst AreFilled (sym (taken_ready p.out p.out.done)) filled; long = inv.long };
        supplied = λ n. subst (λ (k : ℕ). IsSupplied formats.out k reference) (sym (taken_count p.out p.out.done refl)) (here.supplied n);
      }
  dqbuf_effect Cap =
      let q : PairState = record p { cap = dqbuf_after p.cap } in
      let r : PairState = pair_taken p Cap in
      let same_cap : r.cap ≡ dqbuf_after p.cap = last_cap q p.phase (is_empty q.cap.done) in
      let same_out : r.out ≡ p.out = last_out q p.phase (is_empty q.cap.done) in
      record {
        goes = record {
          out = subst (GoesQueue w p.out) (sym same_out) (stays w p.out);
          cap = subst (GoesQueue w p.cap) (sym same_cap) (taken_queue p.cap p.cap.done refl);
          phase = λ _ e. ap (λ (x : PairState). x.phase) (last_phase q p.phase (is_empty q.cap.done) e) ∙ e;
        };
        fine = record {
          whole = subst (λ (x : QueueState). AreWhole formats.out.size x.ready) (sym same_out) inv.whole;
          filled = subst (λ (x : QueueState). AreFilled x.ready) (sym same_out) filled;
          long = subst (λ (x : QueueState). AreLong formats.cap.size x.ready) (sym same_cap) (subst (AreLong formats.cap.size) (sym (taken_ready p.cap p.cap.done)) inv.long);
        };
        supplied = λ n. subst (λ (x : QueueState). IsSupplied formats.out (buffer_count x) reference) (sym same_out) (here.supplied n);
      }

  -- StreamOff, while no job runs

  off_count : (q : QueueState) → buffer_count (streamoff_after q) ≡ buffer_count q
  off_count q =
      omega (arith, length-append (q.held ++ map held_again q.ready) (map held_again q.done), length-append q.held (map held_again q.ready), length-map q.ready held_again, length-map q.done held_again)

  off_queue : (q : QueueState) → job ≡ None → GoesQueue w q (streamoff_after q)
  off_queue q e =
      record { side = refl; job = refl; streams = λ t. absurd (false≢true (sym (ap is_some e) ∙ t)); queued = omega arith; retired = omega arith; filled = λ h. refl }

  off_supplied : (new : Option CodecReference) → ((n : ℕ) → IsSupplied formats.out n reference → IsSupplied formats.out n new) → job ≡ None → IsSupplied formats.out (buffer_count (streamoff_after p.out)) new
  off_supplied new h e =
      subst (λ (n : ℕ). IsSupplied formats.out n new) (sym (off_count p.out)) (h (buffer_count p.out) (here.supplied e))

  pub off_out_effect : job ≡ None → IsEffect formats reference job p (pair_off p Out)
  off_out_effect e =
      record {
        goes = record { out = off_queue p.out e; cap = stays w p.cap; phase = λ t. absurd (false≢true (sym (ap is_some e) ∙ t)) };
        fine = record { whole = refl; filled = refl; long = inv.long };
        supplied = off_supplied reference (λ n h. h);
      }

  pub off_cap_effect : (new : Option CodecReference) → job ≡ None → ((n : ℕ) → IsSupplied formats.out n reference → IsSupplied formats.out n new) → IsEffect formats new job p (pair_off p Cap)
  off_cap_effect new e h =
      by p.cap.streams
    where
      by : (b : Bool) → IsEffect formats new job p (cond b (record p { cap = streamoff_after p.cap; mark = mark_after_restart p.phase p.mark; phase = run }) (record p { cap = streamoff_after p.cap }))
      by true =
          record {
            goes = record { out = stays w p.out; cap = off_queue p.cap e; phase = λ _ _. refl };
            fine = record { whole = inv.whole; filled = filled; long = refl };
            supplied = λ n. h (buffer_count p.out) (here.supplied n);
          }
      by false =
          record {
            goes = record { out = stays w p.out; cap = off_queue p.cap e; phase = λ _ f. f };
            fine = record { whole = inv.whole; filled = filled; long = refl };
            supplied = λ n. h (buffer_count p.out) (here.supplied n);
          }

  -- ReqBufs and CreateBufs

  idle_out : (j : Option InJob) → KnowsItsJob formats.out p reference j → p.out.streams ≡ false → (j ≡ None) × (p.out.job ≡ [])
  idle_out None k e = (refl, k.0)
  idle_out (Some x) k e = absurd (false≢true (sym e ∙ k.1.streams))

  idle_cap : (j : Option InJob) → KnowsItsJob formats.out p reference j → p.cap.streams ≡ false → (j ≡ None) × (p.cap.job ≡ [])
  idle_cap None k e = (refl, k.1)
  idle_cap (Some x) k e = absurd (false≢true (sym e ∙ k.2.streams))

  pub no_job : p.out.streams ≡ false → job ≡ None
  no_job e = (idle_out job inv.known e).0

  fresh_queue : (q : QueueState) (count size : ℕ) → q.job ≡ [] → GoesQueue w q (reqbufs_after q count size)
  fresh_queue q count size e =
      record { side = refl; job = sym e; streams = λ _ h. h; queued = omega arith; retired = omega arith; filled = λ h. refl }

  pub dests_effect : (count size : ℕ) → p.cap.streams ≡ false → IsEffect formats reference job p (with_queue_at p Cap (reqbufs_after p.cap count size))
  dests_effect count size e =
      record {
        goes = record { out = stays w p.out; cap = fresh_queue p.cap count size (idle_cap job inv.known e).1; phase = λ _ h. h };
        fine = record { whole = inv.whole; filled = filled; long = refl };
        supplied = here.supplied;
      }

  new_at : (b : Bool) (count n : ℕ) → nat_lt 0 count ≡ b → (count ≡ 0 → n ≡ 0) → (0 < count → 0 < n) → IsSupplied formats.out n (cond b (Some (record { size = formats.out.size; state = fresh_encoder })) None)
  new_at true count n e none some = (some (ltb-true 0 count e), (omega arith, tt))
  new_at false count n e none some = none (let z : count ≤ 0 = ltb-false 0 count e in omega arith)

  new_supplied : (count n : ℕ) → (count ≡ 0 → n ≡ 0) → (0 < count → 0 < n) → IsSupplied formats.out n (new_reference count formats.out.size)
  new_supplied count n none some = new_at (nat_lt 0 count) count n refl none some

  new_length : (size first n : ℕ) → length (new_buffers size first n) ≡ n
  new_length size first zero = refl
  new_length size first (suc n) = ap (λ (k : ℕ). suc k) (new_length size (first + 1) n)

  pub sources_effect : (count : ℕ) → p.out.streams ≡ false → IsEffect formats (new_reference count formats.out.size) job p (with_queue_at p Out (reqbufs_after p.out count formats.out.size))
  sources_effect count e =
      record {
        goes = record { out = fresh_queue p.out count formats.out.size (idle_out job inv.known e).1; cap = stays w p.cap; phase = λ _ h. h };
        fine = record { whole = refl; filled = refl; long = inv.long };
        supplied = λ _. let l : length (new_buffers formats.out.size 0 (min count 32)) ≡ min count 32 = new_length formats.out.size 0 (min count 32) in new_supplied count _ (λ z. omega arith) (λ z. omega arith);
      }

  more_queue : (q : QueueState) (count size : ℕ) → GoesQueue w q (create_after q count size)
  more_queue q count size =
      record { side = refl; job = refl; streams = λ _ h. h; queued = omega arith; retired = omega arith; filled = λ h. h }

  pub more_effect : (side : Side) (count size : ℕ) → (side ≡ Out → 0 < buffer_count p.out) → IsEffect formats reference job p (with_queue_at p side (create_after (queue_at p side) count size))
  more_effect Out count size some =
      record {
        goes = record { out = more_queue p.out count size; cap = stays w p.cap; phase = λ _ h. h };
        fine = record { whole = inv.whole; filled = filled; long = inv.long };
        supplied =
            λ n.
            still_supplied formats.out _ _ reference (λ z. absurd (let s : 0 < buffer_count p.out = some refl in omega arith))
            (λ h. omega (arith, length-append p.out.held (new_buffers size (buffer_count p.out) (created p.out count)))) (here.supplied n);
      }
  more_effect Cap count size some =
      record {
        goes = record { out = stays w p.out; cap = more_queue p.cap count size; phase = λ _ h. h };
        fine = record { whole = inv.whole; filled = filled; long = inv.long };
        supplied = here.supplied;
      }

  pub first_effect : (count size : ℕ) → buffer_count p.out ≡ 0 → IsEffect formats (new_reference count formats.out.size) job p (with_queue_at p Out (create_after p.out count size))
  first_effect count size none =
      record {
        goes = record { out = more_queue p.out count size; cap = stays w p.cap; phase = λ _ h. h };
        fine = record { whole = inv.whole; filled = filled; long = inv.long };
        supplied =
            λ _.
            let l : length (new_buffers size (buffer_count p.out) (created p.out count)) ≡ created p.out count =
            new_length size (buffer_count p.out) (created p.out count) in
            let m = length-append p.out.held (new_buffers size (buffer_count p.out) (created p.out count)) in new_supplied count _ (λ z. omega arith) (λ z. omega arith);
      }
