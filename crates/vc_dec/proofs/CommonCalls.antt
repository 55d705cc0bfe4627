-- What the calls that every kind answers alike leave of a decoder context. Its parts answer them, so the context after them
-- is one that the device's definitions reach; beside that no buffer comes or goes, and nothing counts up by more than one.
use Rattle.std.proofs.Common.{ℕ, ◌≡◌, ◌≤◌, ◌+◌, Bool, true, false, cond, Option, Some, None, List, refl, sym, subst, arith}
use Rattle.std.specs.Prelude.{◌==◌}
use Rattle.vc_base.specs.declared.Kind.TheVariants.{Dec}
use Rattle.vc_base.specs.declared.Side.{Side}
use Rattle.vc_base.specs.declared.Side.TheVariants.{Out, Cap}
use Rattle.vc_base.specs.declared.Errno.{Errno}
use Rattle.vc_base.specs.declared.Stamp.{Stamp}
use Rattle.vc_base.specs.declared.Call.{Call}
use Rattle.vc_base.specs.declared.Call.TheVariants.{QBuf, DqBuf, StreamOn, Subscribe, Unsubscribe, DqEvent, DecCmd}
use Rattle.vc_base.specs.declared.Reply.{Reply}
use Rattle.vc_base.specs.Events.{EventState, event_refusal, subscribe_after, unsubscribe_after, take_event_refusal, take_event_after}
use Rattle.vc_model.specs.Context.{Context}
use Rattle.vc_model.specs.Answer.{context_answer}
use Rattle.vc_geom.specs.Pairs.{pair_of}
use Rattle.vc_queue.specs.Answers.{after_of, queued_bytes}
use Rattle.vc_queue.specs.Holds.{HoldState}
use Rattle.vc_pair.specs.Pairs.{PairState, pair_marked, pair_started, stop_refusal, start_refusal, IsSettled, FitsBoth, pair_put}
use Rattle.vc_context.specs.Contexts.{Gives, GivesWithMemory, IsKept, IsStep, HasRoom}
use Rattle.vc_context.specs.Payloads.{FitsContext}
use Rattle.vc_m2m.specs.declared.M2mContext.{M2mContext}
use Rattle.vc_m2m.specs.Parts.{ArePartsOf, with_parts, CanCount, size_at}
use Rattle.vc_m2m.specs.Calls.{after_call, settled_unless, put_refusal}
use Rattle.vc_dec.specs.declared.Decoder.TheInside.{Inside}
use Rattle.vc_dec.specs.Decoders.{decoder_state, IsDecoder, IsPlaced}
use Rattle.vc_dec.proofs.AnswersByKind.{always}
use Rattle.vc_dec.proofs.EventsAndFormats.{event_keeps, event_steps}
use Rattle.vc_dec.proofs.ReachedStaysReached.{latest, sides}
use Rattle.vc_dec.proofs.QueuedAndTaken.{queued_turns, taken_turns}
use Rattle.vc_dec.proofs.StreamsAndCommands.{on_turns, marked_turns, started_turns}
use Rattle.vc_dec.proofs.KeptThroughCalls.{Turns, turns_after, counted, quiet_here, agree_here, place, keeps, steps}

module _ (d : Inside) (c : Context) (view : decoder_state (pair_of d.m2m.formats) d.geometry d.m2m.pair d.m2m.events d.codec.state d.job ≡ c) (inv : IsDecoder (pair_of d.m2m.formats) d.geometry d.m2m.pair d.m2m.events d.codec d.job) where
  abbrev state : M2mContext → Context
  state n = decoder_state (pair_of n.formats) d.geometry n.pair n.events d.codec.state d.job

  -- the decoder has the parts
  pub parts : ArePartsOf c d.m2m
  parts =
      subst (λ (x : Context). ArePartsOf x d.m2m) view (record { parts = refl; jobs = agree_here (pair_of d.m2m.formats) d.geometry d.m2m.pair d.m2m.events d.codec d.job inv })

  pub of_kind : c.kind ≡ Dec
  of_kind = subst (λ (x : Context). x.kind ≡ Dec) view refl

  pub settled : IsSettled d.m2m.pair
  settled = quiet_here (pair_of d.m2m.formats) d.geometry d.m2m.pair d.m2m.events d.codec d.job inv

  with_is : (n : M2mContext) → with_parts c n ≡ state n
  with_is n = subst (λ (x : Context). with_parts x n ≡ state n) view refl

  pub counts : HasRoom c → CanCount d.m2m
  counts r =
      let h : HasRoom (state d.m2m) = subst HasRoom (sym view) r in
      record { out_queued = h.out_queued; cap_queued = h.cap_queued; cap_done = h.cap_done; raised = h.raised }

  pub fits_both : (hold : HoldState) → FitsContext c hold → FitsBoth d.m2m.pair hold
  fits_both hold f =
      let g : FitsContext (state d.m2m) hold = subst (λ (x : Context). FitsContext x hold) (sym view) f in (g.out, g.cap)

  pub shared_gives : (request : Call) (bytes : List ℕ) (reply : Reply) (n : M2mContext) → Gives (context_answer c request bytes true) reply (with_parts c n) → GivesWithMemory (context_answer c request bytes) reply (state n)
  shared_gives request bytes reply n g =
      always (context_answer c request bytes) (context_answer c request bytes true) reply (state n) refl (subst (λ (x : Context). Gives (context_answer c request bytes true) reply x) (with_is n) g)

  shared_placed : (request : Call) (bytes : List ℕ) (reply : Reply) (n : M2mContext) → Gives (context_answer c request bytes true) reply (with_parts c n) → IsPlaced (state n)
  shared_placed request bytes reply n g =
      place (pair_of d.m2m.formats) d.geometry d.m2m.pair d.m2m.events d.codec d.job inv request bytes true reply (state n)
      (subst (λ (x : Context). Gives (context_answer x request bytes true) reply (state n)) (sym view) (subst (λ (x : Context). Gives (context_answer c request bytes true) reply x) (with_is n) g))

  kept_unless : (o : Option Errno) (q : PairState) → (o ≡ None → Turns d.m2m.pair q) → let n : M2mContext = settled_unless o d.m2m q in IsPlaced (state n) → IsDecoder (pair_of n.formats) d.geometry n.pair n.events d.codec d.job
  kept_unless o q t placed =
      keeps (pair_of d.m2m.formats) d.geometry d.m2m.pair d.m2m.events d.codec d.job inv (after_of o d.m2m.pair q) _ _ (turns_after o d.m2m.pair q t) refl refl placed

  step_unless : (o : Option Errno) (q : PairState) → (o ≡ None → Turns d.m2m.pair q) → let n : M2mContext = settled_unless o d.m2m q in IsPlaced (state n) → IsKept c → IsStep c (state n)
  step_unless o q t placed k =
      let n : M2mContext = settled_unless o d.m2m q in
      subst (λ (x : Context). IsStep x (state n)) view
      (steps (pair_of d.m2m.formats) d.geometry d.m2m.pair d.m2m.events d.codec d.job inv (after_of o d.m2m.pair q) _ _
      (counted d.m2m.pair (after_of o d.m2m.pair q) (turns_after o d.m2m.pair q t)) refl refl (pair_of d.m2m.formats) d.geometry d.codec.state placed
      (subst IsKept (sym view) k))

  note_step : (e : EventState) → e.next_seq ≤ d.m2m.events.next_seq + 1 → IsKept c → IsStep c (state (record d.m2m { events = e }))
  note_step e n k =
      subst (λ (x : Context). IsStep x (state (record d.m2m { events = e }))) view (event_steps d c view inv e n (subst IsKept (sym view) k))

  -- the two queues after each call

  put_turns : (side : Side) (index used : ℕ) (stamp : Stamp) (hold : HoldState) → put_refusal Dec d.m2m side index used ≡ None → Turns d.m2m.pair (pair_put d.m2m.pair side index used stamp hold)
  put_turns Out index used stamp hold e =
      queued_turns d.m2m.pair Out index used (size_at d.m2m Out) stamp (queued_bytes Out hold index used) (sides (state d.m2m) inv.placed).out_side e
  put_turns Cap index used stamp hold e =
      queued_turns d.m2m.pair Cap index used (size_at d.m2m Cap) stamp (queued_bytes Cap hold index used) (sides (state d.m2m) inv.placed).out_side e

  stop_turns : Turns d.m2m.pair (pair_marked d.m2m.pair)
  stop_turns = marked_turns d.m2m.pair (latest (state d.m2m) inv.placed)

  abbrev commanded : Bool → Bool → M2mContext
  commanded a b =
      cond a (settled_unless (start_refusal d.m2m.pair d.m2m.formats.cap.size) d.m2m (pair_started d.m2m.pair)) (cond b (settled_unless (stop_refusal d.m2m.pair) d.m2m (pair_marked d.m2m.pair)) d.m2m)

  command_kept : (a b : Bool) → let n : M2mContext = commanded a b in IsPlaced (state n) → IsDecoder (pair_of n.formats) d.geometry n.pair n.events d.codec d.job
  command_kept true b placed = kept_unless _ _ (λ _. started_turns d.m2m.pair) placed
  command_kept false true placed = kept_unless _ _ (λ _. stop_turns) placed
  command_kept false false placed = inv

  command_step : (a b : Bool) → IsPlaced (state (commanded a b)) → IsKept c → IsStep c (state (commanded a b))
  command_step true b placed k = step_unless _ _ (λ _. started_turns d.m2m.pair) placed k
  command_step false true placed k = step_unless _ _ (λ _. stop_turns) placed k
  command_step false false placed k = note_step d.m2m.events (omega arith) k

  seq_after : (o : Option Errno) (after : EventState) → after.next_seq ≤ d.m2m.events.next_seq → (after_of o d.m2m.events after).next_seq ≤ d.m2m.events.next_seq + 1
  seq_after (Some e) after h = omega arith
  seq_after None after h = omega arith

  seq_either : (b : Bool) (x y : EventState) → x.next_seq ≡ d.m2m.events.next_seq → y.next_seq ≡ d.m2m.events.next_seq → (cond b x y).next_seq ≤ d.m2m.events.next_seq
  seq_either true x y h g = omega (arith, h)
  seq_either false x y h g = omega (arith, g)

  shared_kept : (hold : HoldState) (request : Call) → let n : M2mContext = after_call Dec d.m2m hold request in IsPlaced (state n) → IsDecoder (pair_of n.formats) d.geometry n.pair n.events d.codec d.job
  shared_kept hold (QBuf side index used stamp) placed = kept_unless _ _ (put_turns side index used stamp hold) placed
  shared_kept hold (DqBuf side block) placed = kept_unless _ _ (λ _. taken_turns d.m2m.pair side) placed
  shared_kept hold (StreamOn side) placed = kept_unless _ _ (λ _. on_turns d.m2m.pair side) placed
  shared_kept hold (DecCmd cmd) placed = command_kept (cmd == 0) (cmd == 1) placed
  shared_kept hold (Subscribe event) placed = event_keeps d c view inv _ placed
  shared_kept hold (Unsubscribe event) placed = event_keeps d c view inv _ placed
  shared_kept hold (DqEvent block) placed = event_keeps d c view inv _ placed
  shared_kept hold request placed = inv

  shared_step : (hold : HoldState) (request : Call) → IsPlaced (state (after_call Dec d.m2m hold request)) → IsKept c → IsStep c (state (after_call Dec d.m2m hold request))
  shared_step hold (QBuf side index used stamp) placed k = step_unless _ _ (put_turns side index used stamp hold) placed k
  shared_step hold (DqBuf side block) placed k = step_unless _ _ (λ _. taken_turns d.m2m.pair side) placed k
  shared_step hold (StreamOn side) placed k = step_unless _ _ (λ _. on_turns d.m2m.pair side) placed k
  shared_step hold (DecCmd cmd) placed k = command_step (cmd == 0) (cmd == 1) placed k
  shared_step hold (Subscribe event) placed k =
      note_step _ (seq_after (event_refusal Dec event) (subscribe_after d.m2m.events event) (seq_either _ _ _ refl refl)) k
  shared_step hold (Unsubscribe event) placed k =
      note_step _ (seq_after (event_refusal Dec event) (unsubscribe_after d.m2m.events event) (seq_either _ _ _ refl refl)) k
  shared_step hold (DqEvent block) placed k =
      note_step _ (seq_after (take_event_refusal d.m2m.events) (take_event_after d.m2m.events) (omega arith)) k
  shared_step hold request placed k = note_step d.m2m.events (omega arith) k

  -- the decoder after a call that every kind answers alike

  pub shared_keeps :
      (request : Call) (bytes : List ℕ) (reply : Reply) (n : M2mContext) (hold : HoldState) → n ≡ after_call Dec d.m2m hold request
      → Gives (context_answer c request bytes true) reply (with_parts c n) → IsDecoder (pair_of n.formats) d.geometry n.pair n.events d.codec d.job
  shared_keeps request bytes reply n hold e g =
      let placed : IsPlaced (state n) = shared_placed request bytes reply n g in
      subst (λ (x : M2mContext). IsDecoder (pair_of x.formats) d.geometry x.pair x.events d.codec d.job) (sym e) (shared_kept hold request (subst (λ (x : M2mContext). IsPlaced (state x)) e placed))

  pub shared_steps :
      (request : Call) (bytes : List ℕ) (reply : Reply) (n : M2mContext) (hold : HoldState) → n ≡ after_call Dec d.m2m hold request
      → Gives (context_answer c request bytes true) reply (with_parts c n) → IsKept c → IsStep c (state n)
  shared_steps request bytes reply n hold e g k =
      let placed : IsPlaced (state n) = shared_placed request bytes reply n g in
      subst (λ (x : M2mContext). IsStep c (state x)) (sym e) (shared_step hold request (subst (λ (x : M2mContext). IsPlaced (state x)) e placed) k)
