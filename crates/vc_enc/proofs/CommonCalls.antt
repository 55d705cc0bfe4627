-- What the calls that every kind answers alike leave of an encoder context. Its parts answer them; beside that no buffer
-- in a job is touched, what is queued fits the formats, and nothing counts up by more than one.
use Rattle.std.proofs.Common.{ℕ, ◌≡◌, Bool, true, false, cond, not, Option, Some, None, List, refl, sym, subst}
use Rattle.std.specs.Prelude.{is_some, ◌==◌}
use Rattle.vc_base.specs.declared.Kind.TheVariants.{Enc}
use Rattle.vc_base.specs.declared.Side.{Side}
use Rattle.vc_base.specs.declared.Side.TheVariants.{Out, Cap}
use Rattle.vc_base.specs.declared.Errno.{Errno}
use Rattle.vc_base.specs.declared.Errno.TheVariants.{Inval}
use Rattle.vc_base.specs.declared.Stamp.{Stamp}
use Rattle.vc_base.specs.declared.Call.{Call}
use Rattle.vc_base.specs.declared.Call.TheVariants.{QBuf, DqBuf, StreamOn, Subscribe, Unsubscribe, DqEvent, EncCmd}
use Rattle.vc_base.specs.declared.Reply.{Reply}
use Rattle.vc_base.specs.Buffers.{refuse_if, qbuf_refusal}
use Rattle.vc_base.specs.Events.{EventState, event_refusal, subscribe_after, unsubscribe_after, take_event_refusal, take_event_after}
use Rattle.vc_defs.specs.Encoder.{RunRates}
use Rattle.vc_model.specs.Context.{Context}
use Rattle.vc_model.specs.Answer.{context_answer}
use Rattle.vc_geom.specs.Pairs.{pair_of}
use Rattle.vc_queue.specs.Answers.{after_of}
use Rattle.vc_queue.specs.Holds.{HoldState}
use Rattle.vc_work.specs.References.{CodecReference}
use Rattle.vc_pair.specs.Pairs.{PairState, pair_marked, pair_started, stop_refusal, start_refusal, FitsBoth, pair_put}
use Rattle.vc_context.specs.Contexts.{Gives, GivesWithMemory, IsKept, IsStep, HasRoom}
use Rattle.vc_context.specs.Payloads.{FitsContext}
use Rattle.vc_m2m.specs.declared.M2mContext.{M2mContext}
use Rattle.vc_m2m.specs.Parts.{ArePartsOf, with_parts, CanCount, size_at}
use Rattle.vc_m2m.specs.Calls.{after_call, settled_unless, put_refusal}
use Rattle.vc_enc.specs.declared.InJob.{InJob}
use Rattle.vc_enc.specs.Encoders.{encoder_state, IsEncoder}
use Rattle.vc_enc.proofs.KeptThroughCalls.{IsEffect, all_stays, agree_at}
use Rattle.vc_enc.proofs.EffectsOnQueues.{on_effect, stop_effect, start_effect, qbuf_out_effect, qbuf_cap_effect, dqbuf_effect}
use Rattle.vc_enc.proofs.CallsSettle.{kept_after, step_after, to_pair}
use Rattle.vc_enc.proofs.FormatsAndControls.{quiet_step}
use Rattle.vc_enc.proofs.NeedsNoMemory.{always}

not_refused : (b : Bool) (o : Option Errno) → refuse_if b Inval o ≡ None → (b ≡ false) × (o ≡ None)
not_refused true o e = cc
not_refused false o e = (refl, e)

module _ (m : M2mContext) (rates : RunRates) (reference : Option CodecReference) (job : Option InJob) (c : Context)
    (view : encoder_state (pair_of m.formats) rates m.pair m.events reference job ≡ c) (inv : IsEncoder (pair_of m.formats) m.pair reference job) where
  abbrev state : M2mContext → Context
  state n = encoder_state (pair_of n.formats) rates n.pair n.events reference job

  -- the encoder has the parts
  pub parts : ArePartsOf c m
  parts =
      subst (λ (x : Context). ArePartsOf x m) view (record { parts = refl; jobs = agree_at (pair_of m.formats).out m.pair m.pair reference job (all_stays (is_some job) m.pair) inv.known })

  pub of_kind : c.kind ≡ Enc
  of_kind = subst (λ (x : Context). x.kind ≡ Enc) view refl

  pub with_is : (n : M2mContext) → with_parts c n ≡ state n
  with_is n = subst (λ (x : Context). with_parts x n ≡ state n) view refl

  pub counts : HasRoom c → CanCount m
  counts r =
      let h : HasRoom (state m) = subst HasRoom (sym view) r in
      record { out_queued = h.out_queued; cap_queued = h.cap_queued; cap_done = h.cap_done; raised = h.raised }

  pub fits_both : (hold : HoldState) → FitsContext c hold → FitsBoth m.pair hold
  fits_both hold f = to_pair (pair_of m.formats) rates m.pair m.events reference job c hold view f

  pub shared_gives : (request : Call) (bytes : List ℕ) (reply : Reply) (n : M2mContext) → Gives (context_answer c request bytes true) reply (with_parts c n) → GivesWithMemory (context_answer c request bytes) reply (state n)
  shared_gives request bytes reply n g =
      always (context_answer c request bytes) (context_answer c request bytes true) reply (state n) refl (subst (λ (x : Context). Gives (context_answer c request bytes true) reply x) (with_is n) g)

  module _ (kept : IsKept c) where
    k : IsKept (state m)
    k = subst IsKept (sym view) kept

    put_effect : (side : Side) (index used : ℕ) (stamp : Stamp) (hold : HoldState) → put_refusal Enc m side index used ≡ None → IsEffect (pair_of m.formats) reference job m.pair (pair_put m.pair side index used stamp hold)
    put_effect Out index used stamp hold e =
        let n = not_refused (not (used == size_at m Out)) (qbuf_refusal m.pair.out index used (size_at m Out)) e in
        qbuf_out_effect (pair_of m.formats) m.pair reference job inv k.filled index used stamp _ k.out_side n.0 n.1
    put_effect Cap index used stamp hold e =
        qbuf_cap_effect (pair_of m.formats) m.pair reference job inv k.filled index used stamp _ k.cap_side e

    kept_unless : (o : Option Errno) (q : PairState) → (o ≡ None → IsEffect (pair_of m.formats) reference job m.pair q) → IsEncoder (pair_of m.formats) (settled_unless o m q).pair reference job
    kept_unless o q h =
        kept_after (pair_of m.formats) rates m.pair m.events reference job c view inv kept o q (after_of o m.pair q) h refl

    step_unless : (o : Option Errno) (q : PairState) → (o ≡ None → IsEffect (pair_of m.formats) reference job m.pair q) → IsStep c (state (settled_unless o m q))
    step_unless o q h =
        step_after (pair_of m.formats) rates m.pair m.events reference job c view inv kept o q (after_of o m.pair q) h refl

    command_kept :
        (a b : Bool)
        → let x : M2mContext = settled_unless (start_refusal m.pair m.formats.cap.size) m (pair_started m.pair) in
        let y : M2mContext = settled_unless (stop_refusal m.pair) m (pair_marked m.pair) in let n : M2mContext = cond a x (cond b y m) in IsEncoder (pair_of n.formats) n.pair reference job
    command_kept true b = kept_unless _ _ (λ _. start_effect (pair_of m.formats) m.pair reference job inv k.filled)
    command_kept false true = kept_unless _ _ (λ _. stop_effect (pair_of m.formats) m.pair reference job inv k.filled)
    command_kept false false = inv

    stays : (e : EventState) → e.next_seq ≡ m.events.next_seq → IsStep c (state (record m { events = e }))
    stays e h =
        quiet_step (pair_of m.formats) rates m.pair m.events reference job c view inv kept (pair_of m.formats) rates e h

    command_step :
        (a b : Bool)
        → let x : M2mContext = settled_unless (start_refusal m.pair m.formats.cap.size) m (pair_started m.pair) in
        let y : M2mContext = settled_unless (stop_refusal m.pair) m (pair_marked m.pair) in IsStep c (state (cond a x (cond b y m)))
    command_step true b = step_unless _ _ (λ _. start_effect (pair_of m.formats) m.pair reference job inv k.filled)
    command_step false true = step_unless _ _ (λ _. stop_effect (pair_of m.formats) m.pair reference job inv k.filled)
    command_step false false = stays m.events refl

    seq_after : (o : Option Errno) (after : EventState) → after.next_seq ≡ m.events.next_seq → (after_of o m.events after).next_seq ≡ m.events.next_seq
    seq_after (Some e) after h = refl
    seq_after None after h = h

    seq_either : (b : Bool) (x y : EventState) → x.next_seq ≡ m.events.next_seq → y.next_seq ≡ m.events.next_seq → (cond b x y).next_seq ≡ m.events.next_seq
    seq_either true x y h g = h
    seq_either false x y h g = g

    pub shared_kept : (hold : HoldState) (request : Call) → let n : M2mContext = after_call Enc m hold request in IsEncoder (pair_of n.formats) n.pair reference job
    shared_kept hold (QBuf side index used stamp) = kept_unless _ _ (put_effect side index used stamp hold)
    shared_kept hold (DqBuf side block) =
        kept_unless _ _ (λ _. dqbuf_effect (pair_of m.formats) m.pair reference job inv k.filled side)
    shared_kept hold (StreamOn side) =
        kept_unless _ _ (λ _. on_effect (pair_of m.formats) m.pair reference job inv k.filled side)
    shared_kept hold (EncCmd cmd) = command_kept (cmd == 0) (cmd == 1)
    shared_kept hold request = inv

    pub shared_step : (hold : HoldState) (request : Call) → IsStep c (state (after_call Enc m hold request))
    shared_step hold (QBuf side index used stamp) = step_unless _ _ (put_effect side index used stamp hold)
    shared_step hold (DqBuf side block) =
        step_unless _ _ (λ _. dqbuf_effect (pair_of m.formats) m.pair reference job inv k.filled side)
    shared_step hold (StreamOn side) =
        step_unless _ _ (λ _. on_effect (pair_of m.formats) m.pair reference job inv k.filled side)
    shared_step hold (EncCmd cmd) = command_step (cmd == 0) (cmd == 1)
    shared_step hold (Subscribe event) =
        stays _ (seq_after (event_refusal Enc event) (subscribe_after m.events event) (seq_either _ _ _ refl refl))
    shared_step hold (Unsubscribe event) =
        stays _ (seq_after (event_refusal Enc event) (unsubscribe_after m.events event) (seq_either _ _ _ refl refl))
    shared_step hold (DqEvent block) =
        stays _ (seq_after (take_event_refusal m.events) (take_event_after m.events) refl)
    shared_step hold request = stays m.events refl
