-- What QBuf and DqBuf make of the two queues: one buffer goes from held to ready, or from done to held. Nothing else
-- moves, and LAST that is taken ends a stop by a drain.
use Rattle.std.proofs.Common.{ℕ, ◌≡◌, Bool, true, false, None, List, refl, sym, subst}
use Rattle.vc_base.specs.declared.Side.{Side}
use Rattle.vc_base.specs.declared.Side.TheVariants.{Out, Cap}
use Rattle.vc_base.specs.declared.Stamp.{Stamp}
use Rattle.vc_base.specs.declared.Call.TheVariants.{QBuf, DqBuf}
use Rattle.vc_base.specs.Buffers.{QueueState, is_empty, with_index, held_refusal, qbuf_refusal, qbuf_after, dqbuf_after}
use Rattle.vc_model.specs.Context.{drain, change, PhaseState, run, owe, last, stopped}
use Rattle.vc_pair.specs.Pairs.{PairState, queue_at, with_queue_at, pair_taken, pair_at_last}
use Rattle.vc_context.specs.Contexts.{AreFilled}
use Rattle.vc_context.proofs.QueuesCountUp.{queued_filled, taken_ready}
use Rattle.vc_dec.proofs.QueuesThroughCalls.{Calls, queued_calls, taken_calls}
use Rattle.vc_dec.proofs.KeptThroughCalls.{Turns, turns_out, turns_cap, IsSourceDue, none_due}

abbrev pub queued : PairState → Side → ℕ → ℕ → Stamp → List ℕ → PairState
queued p side index used stamp bytes =
    with_queue_at p side (qbuf_after (queue_at p side) index used stamp bytes)

queued_calls_at : (q : QueueState) (index used : ℕ) (stamp : Stamp) (bytes : List ℕ) → Calls q (qbuf_after q index used stamp bytes)
queued_calls_at q index used stamp bytes =
    queued_calls q index (with_index index q.held) used stamp bytes refl

pub queued_turns : (p : PairState) (side : Side) (index used least : ℕ) (stamp : Stamp) (bytes : List ℕ) → p.out.side ≡ Out → qbuf_refusal (queue_at p side) index used least ≡ None → Turns p (queued p side index used stamp bytes)
queued_turns p Out index used least stamp bytes s h =
    turns_out p (qbuf_after p.out index used stamp bytes) (queued_calls_at p.out index used stamp bytes)
    (λ f. queued_filled p.out index (with_index index p.out.held) used least stamp bytes s (subst (λ (x : Side). held_refusal x (with_index index p.out.held) used least ≡ None) s h) f)
queued_turns p Cap index used least stamp bytes s h =
    turns_cap p (qbuf_after p.cap index used stamp bytes) (queued_calls_at p.cap index used stamp bytes)

-- DqBuf

last_out : (p : PairState) (phase : PhaseState) (emptied : Bool) → (pair_at_last p phase emptied).out ≡ p.out
last_out p run emptied = refl
last_out p (owe cause) emptied = refl
last_out p (last drain) true = refl
last_out p (last drain) false = refl
last_out p (last change) true = refl
last_out p (last change) false = refl
last_out p (stopped cause) emptied = refl

last_cap : (p : PairState) (phase : PhaseState) (emptied : Bool) → (pair_at_last p phase emptied).cap ≡ p.cap
last_cap p run emptied = refl
last_cap p (owe cause) emptied = refl
last_cap p (last drain) true = refl
last_cap p (last drain) false = refl
last_cap p (last change) true = refl
last_cap p (last change) false = refl
last_cap p (stopped cause) emptied = refl

-- the LAST buffer that ends a drain takes the mark with it
last_due : (p : PairState) (phase : PhaseState) (emptied : Bool) → IsSourceDue p → IsSourceDue (pair_at_last p phase emptied)
last_due p run emptied h = h
last_due p (owe cause) emptied h = h
last_due p (last drain) true h = none_due p.out.job p.mark h
last_due p (last drain) false h = h
last_due p (last change) true h = h
last_due p (last change) false h = h
last_due p (stopped cause) emptied h = h

pub taken_turns : (p : PairState) (side : Side) → Turns p (pair_taken p side)
taken_turns p Out =
    turns_out p (dqbuf_after p.out) (taken_calls p.out p.out.done refl) (λ f. subst AreFilled (sym (taken_ready p.out p.out.done)) f)
taken_turns p Cap =
    let q : PairState = record p { cap = dqbuf_after p.cap } in
    let t : Turns p q = turns_cap p (dqbuf_after p.cap) (taken_calls p.cap p.cap.done refl) in
    let eo : (pair_taken p Cap).out ≡ p.out = last_out q p.phase (is_empty (dqbuf_after p.cap).done) in
    let ec : (pair_taken p Cap).cap ≡ dqbuf_after p.cap = last_cap q p.phase (is_empty (dqbuf_after p.cap).done) in
    record {
      out = subst (λ (x : QueueState). Calls p.out x) (sym eo) t.out;
      cap = subst (λ (x : QueueState). Calls p.cap x) (sym ec) t.cap;
      filled = λ f. subst (λ (x : QueueState). AreFilled x.ready) (sym eo) f;
      due = λ h. last_due q q.phase (is_empty (dqbuf_after p.cap).done) h;
    }
