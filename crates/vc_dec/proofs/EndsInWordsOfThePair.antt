-- The end of a job, in the words of the two queues and the events: a source that is used up or given back, and a
-- destination that is shown, given back, or stopped at by a change.
use Rattle.std.proofs.Common.{ℕ, ◌≡◌, Bool, true, false, cond, ◌&&◌, ◌||◌, Option, Some, None, List, [], ◌∷◌, take, refl, sym, ap, ◌∙◌, subst}
use Rattle.std.specs.Prelude.{nat_lt, not}
use Rattle.vc_base.specs.declared.Stamp.{Stamp}
use Rattle.vc_base.specs.Buffers.{Buffer, QueueState, is_empty, retire_from, give_back_from, without_bytes}
use Rattle.vc_base.specs.Events.{EventState, raise_after}
use Rattle.vc_base.specs.Limits.{source_change_event}
use Rattle.vc_defs.specs.declared.Geometry.{Geometry}
use Rattle.vc_defs.specs.Decoder.{DecoderState}
use Rattle.vc_model.specs.Formats.{FormatPair, formats_found}
use Rattle.vc_model.specs.Context.{Context, PhaseState, run, owe, last, stopped, drain, change, is_run, is_drained, has_before, settle}
use Rattle.vc_model.specs.Runs.{dest_done, dest_back, stop_by_change}
use Rattle.vc_model.specs.Sound.{last_not_given}
use Rattle.vc_queue.specs.declared.queue.Lent.{Lent}
use Rattle.vc_queue.specs.Lending.{back_bytes}
use Rattle.vc_pair.specs.Pairs.{PairState, IsSettled, cap_retired, is_final, is_due, pair_changed, pair_settled, raises_end, owes_last, gives_end}
use Rattle.vc_pair.specs.Rows.{IsRunFlag, JobsAgree, ended_if, with_pair}
use Rattle.vc_pair.proofs.PairRowsAreContextRows.{same_settled, same_retired, same_change}
use Rattle.vc_pair.proofs.SettlesOnce.{settled_alone, settled_quiet}
use Rattle.vc_dec.specs.declared.finishing.Shown.{Shown}
use Rattle.vc_m2m.specs.Settling.{end_raised, events_settled}
use Rattle.vc_dec.specs.Decoders.{decoder_state}
use Rattle.vc_dec.specs.Ends.{dest_put, dest_ended, events_ended}

-- the destination of the job, as it comes back: of the buffer in the job, with these bytes at the front
abbrev pub IsDestFor : QueueState → List Buffer → Option Lent → Type 0
IsDestFor cap [] None = cap.job ≡ []
IsDestFor cap (b ∷ []) (Some lent) = (cap.job ≡ without_bytes b ∷ []) × (lent.cursor ≡ 0) × (b.used ≡ 0)
IsDestFor cap ds dest = ⊥

abbrev pub ShowsBytes : Option Lent → ℕ → List ℕ → Type 0
ShowsBytes None n bytes = Unit {0}
ShowsBytes (Some lent) n bytes = take n lent.payload.items ≡ bytes

-- settling where nothing is left

no_owing : (a b c d : Bool) → d ≡ false → (a && (b && (c && d))) ≡ false
no_owing true true true d e = e
no_owing true true false d e = refl
no_owing true false c d e = refl
no_owing false b c d e = refl

held_run : (phase : PhaseState) → phase ≡ run → (b : Bool) → (cap : QueueState) → last_not_given phase cap.ready ≡ false
held_run run e b cap = refl
held_run (owe cause) e b cap = cc
held_run (last cause) e b cap = refl
held_run (stopped cause) e b cap = refl

settled_cases : (q : PairState) (cap last_cap : QueueState) (b : Bool) → q.phase ≡ run → is_final q ≡ b → IsSettled (cond b (record q { cap = last_cap; phase = last drain }) (record q { cap = cap }))
settled_cases q cap last_cap true e f = record { noted = refl; given = refl }
settled_cases q cap last_cap false e f =
    record { noted = no_owing (is_run q.phase) cap.streams (is_empty q.out.job && is_empty cap.job) (is_drained q.out.ready q.mark) f; given = held_run q.phase e true cap }

retired_settled : (q : PairState) (used : ℕ) (bytes : List ℕ) (flags : ℕ) (stamp : Stamp) → q.phase ≡ run → IsSettled (cap_retired q used bytes flags stamp)
retired_settled q used bytes flags stamp e = settled_cases q _ _ (is_final q) e refl

pub emptied : (q : QueueState) (bs : List Buffer) (used : ℕ) (bytes : List ℕ) (flags : ℕ) (stamp : Stamp) → q.job ≡ bs → (retire_from q bs used bytes flags stamp).job ≡ []
emptied q [] used bytes flags stamp e = e
emptied q (b ∷ rest) used bytes flags stamp e = refl

-- no event at the end of a stop by a change

quiet_by : (q : PairState) (b : Bool) → q.phase ≡ run → b ≡ false → let o : PairState = cond b (record q { phase = owe drain }) q in gives_end o o.phase ≡ false
quiet_by q true e f = cc
quiet_by q false e f = rw e refl

not_streaming : (a b : Bool) → (a && (false && b)) ≡ false
not_streaming true b = refl
not_streaming false b = refl

raises_at : (q : PairState) (b : Bool) → q.cap.streams ≡ b → q.phase ≡ run → raises_end (cond b (record q { phase = owe change }) q) ≡ false
raises_at q true s e = refl
raises_at q false s e =
    quiet_by q (owes_last q) e
    (ap (λ t. is_run q.phase && (t && ((is_empty q.out.job && is_empty q.cap.job) && is_drained q.out.ready q.mark))) s
    ∙ not_streaming (is_run q.phase) ((is_empty q.out.job && is_empty q.cap.job) && is_drained q.out.ready q.mark))

raises_none : (q : PairState) → q.phase ≡ run → raises_end (pair_changed q) ≡ false
raises_none q e = raises_at q q.cap.streams refl e

module _ (f : FormatPair) (g : Option Geometry) (s : DecoderState) where
  abbrev at : PairState → EventState → Context
  at p e = decoder_state f g p e s None

  ended_at : (p q : PairState) (e : EventState) (b : Bool) → ended_if b (with_pair (at p e) q) ≡ at q (end_raised b e)
  ended_at p q e true = refl
  ended_at p q e false = refl

  agree_at : (p : PairState) (e : EventState) → p.out.job ≡ [] → p.cap.job ≡ [] → JobsAgree (at p e)
  agree_at p e i j = rw (i, j) refl

  settle_at : (p : PairState) (e : EventState) → p.out.job ≡ [] → p.cap.job ≡ [] → settle (at p e) ≡ at (pair_settled p) (events_settled p e)
  settle_at p e i j = same_settled (at p e) (agree_at p e i j) ∙ ended_at p (pair_settled p) e (raises_end p)

  still_at : (p : PairState) (e : EventState) → p.out.job ≡ [] → p.cap.job ≡ [] → IsSettled p → settle (at p e) ≡ at p e
  still_at p e i j t =
      settle_at p e i j ∙ (ap (λ q. at q (events_settled p e)) (settled_alone p t) ∙ ap (λ b. at p (end_raised b e)) (settled_quiet p t))

  either_job : (P : QueueState → Type 0) (b : Bool) (q : PairState) (x y : QueueState) (phase : PhaseState) → P x → P y → P (cond b (record q { cap = x; phase = phase }) (record q { cap = y })).cap
  either_job P true q x y phase h k = h
  either_job P false q x y phase h k = k

  either_out : (b : Bool) (x y : PairState) (o : QueueState) → x.out ≡ o → y.out ≡ o → (cond b x y).out ≡ o
  either_out true x y o e k = e
  either_out false x y o e k = k

  pub retired_out : (q : PairState) (used : ℕ) (bytes : List ℕ) (flags : ℕ) (stamp : Stamp) → (cap_retired q used bytes flags stamp).out ≡ q.out
  retired_out q used bytes flags stamp = either_out (is_final q) _ _ q.out refl refl

  pub retired_job : (q : PairState) (used : ℕ) (bytes : List ℕ) (flags : ℕ) (stamp : Stamp) → (cap_retired q used bytes flags stamp).cap.job ≡ []
  retired_job q used bytes flags stamp =
      either_job (λ (y : QueueState). y.job ≡ []) (is_final q) q _ _ _ (emptied q.cap q.cap.job used bytes _ stamp refl) (emptied q.cap q.cap.job used bytes flags stamp refl)

  -- the destination goes to done

  done_cases :
      (q : PairState) (e : EventState) (b : Buffer) (up : Bool) (used : ℕ) (bytes : List ℕ) (flags : ℕ) (stamp : Stamp) → IsRunFlag flags
      → (up ≡ false → is_final q ≡ false)
      → dest_done (at q e) (b ∷ []) up used bytes flags stamp ≡ at (cap_retired q used bytes flags stamp) (end_raised (is_final q) e)
  done_cases q e b true used bytes flags stamp r n =
      (same_retired (at q e) b [] used bytes flags stamp r).with_source ∙ ended_at q (cap_retired q used bytes flags stamp) e (is_final q)
  done_cases q e b false used bytes flags stamp r n =
      (same_retired (at q e) b [] used bytes flags stamp r).alone (n refl) ∙ ap (λ (t : Bool). at (cap_retired q used bytes flags stamp) (end_raised t e)) (sym (n refl))

  pub shown_is :
      (q : PairState) (e : EventState) (ds : List Buffer) (dest : Option Lent) (up : Bool) (used : ℕ) (bytes : List ℕ) (flags : ℕ) (stamp : Stamp)
      → IsRunFlag flags → q.phase ≡ run → q.out.job ≡ [] → (up ≡ false → is_final q ≡ false) → IsDestFor q.cap ds dest → ShowsBytes dest used bytes →
      let shown : Shown = record { used = used; flags = flags; stamp = stamp } in
      settle (dest_done (at q e) ds up used bytes flags stamp) ≡ at (dest_ended q (Some shown) dest None) (events_ended q e (Some shown) dest None)
  shown_is q e [] None up used bytes flags stamp r p i n d b = settle_at q e i d
  shown_is q e [] (Some lent) up used bytes flags stamp r p i n d b = absurd d
  shown_is q e (x ∷ []) None up used bytes flags stamp r p i n d b = absurd d
  shown_is q e (x ∷ []) (Some lent) up used bytes flags stamp r p i n d b =
      let new : PairState = cap_retired q used bytes flags stamp in
      let raised : EventState = end_raised (is_final q) e in
      ap settle (done_cases q e x up used bytes flags stamp r n)
      ∙ (still_at new raised (ap (λ (y : QueueState). y.job) (retired_out q used bytes flags stamp) ∙ i) (retired_job q used bytes flags stamp) (retired_settled q used bytes flags stamp p)
      ∙ ap (λ (l : List ℕ). at (cap_retired q used l flags stamp) raised) (sym b))
  shown_is q e (x ∷ (y ∷ rest)) dest up used bytes flags stamp r p i n d b = absurd d

  -- the destination goes back

  back_cap : (q : QueueState) (bs : List Buffer) (b : Buffer) (lent : Lent) → bs ≡ without_bytes b ∷ [] → lent.cursor ≡ 0 → b.used ≡ 0 → give_back_from q bs lent.cursor (back_bytes bs lent) ≡ give_back_from q bs 0 []
  back_cap q bs b lent j c u = rw (j, c, u) refl

  pub back_job : (q : QueueState) (bs : List Buffer) (cursor : ℕ) (bytes : List ℕ) → q.job ≡ bs → (give_back_from q bs cursor bytes).job ≡ []
  back_job q [] cursor bytes e = e
  back_job q (b ∷ rest) cursor bytes e = refl

  put_job : (q : PairState) (ds : List Buffer) (dest : Option Lent) → IsDestFor q.cap ds dest → (dest_put q dest).cap.job ≡ []
  put_job q [] None d = d
  put_job q [] (Some lent) d = absurd d
  put_job q (x ∷ []) None d = absurd d
  put_job q (x ∷ []) (Some lent) d = back_job q.cap q.cap.job lent.cursor (back_bytes q.cap.job lent) refl
  put_job q (x ∷ (y ∷ rest)) dest d = absurd d

  put_out : (q : PairState) (dest : Option Lent) → (dest_put q dest).out ≡ q.out
  put_out q None = refl
  put_out q (Some lent) = refl

  put_phase : (q : PairState) (dest : Option Lent) → (dest_put q dest).phase ≡ q.phase
  put_phase q None = refl
  put_phase q (Some lent) = refl

  put_is : (q : PairState) (e : EventState) (ds : List Buffer) (dest : Option Lent) → IsDestFor q.cap ds dest → dest_back (at q e) ds ≡ at (dest_put q dest) e
  put_is q e [] None d = refl
  put_is q e [] (Some lent) d = absurd d
  put_is q e (x ∷ []) None d = absurd d
  put_is q e (x ∷ []) (Some lent) d =
      ap (λ (y : QueueState). at (record q { cap = y }) e) (sym (back_cap q.cap q.cap.job x lent d.0 d.1 d.2))
  put_is q e (x ∷ (y ∷ rest)) dest d = absurd d

  pub back_is : (q : PairState) (e : EventState) (ds : List Buffer) (dest : Option Lent) → q.out.job ≡ [] → IsDestFor q.cap ds dest → settle (dest_back (at q e) ds) ≡ at (dest_ended q None dest None) (events_ended q e None dest None)
  back_is q e ds dest i d =
      ap settle (put_is q e ds dest d) ∙ settle_at (dest_put q dest) e (ap (λ (y : QueueState). y.job) (put_out q dest) ∙ i) (put_job q ds dest d)

  changed_jobs : (q : PairState) (b : Bool) → q.out.job ≡ [] → q.cap.job ≡ [] → let o : PairState = cond b (record q { phase = owe change }) q in (o.out.job ≡ []) × (o.cap.job ≡ [])
  changed_jobs q true i j = (i, j)
  changed_jobs q false i j = (i, j)

  stopped_is : (q : PairState) (e : EventState) → q.phase ≡ run → q.out.job ≡ [] → q.cap.job ≡ [] → settle (stop_by_change (at q e)) ≡ at (pair_settled (pair_changed q)) e
  stopped_is q e p i j =
      let k = changed_jobs q q.cap.streams i j in
      ap settle (same_change (at q e))
      ∙ (settle_at (pair_changed q) e k.0 k.1
      ∙ ap (λ (t : Bool). at (pair_settled (pair_changed q)) (end_raised t e)) (raises_none q p))

-- a change: the buffers go back, and formats and geometry follow
pub changed_is : (f : FormatPair) (g : Option Geometry) (s : DecoderState) (new : Geometry) (q : PairState) (e : EventState) (ds : List Buffer) (dest : Option Lent) → q.phase ≡ run → q.out.job ≡ [] → IsDestFor q.cap ds dest →
    let here : Context = dest_back (decoder_state f g q e s None) ds in
    settle (stop_by_change (record here { geometry = Some new; formats = formats_found here.formats new; events = raise_after here.events source_change_event 1 }))
    ≡ decoder_state (formats_found f new) (Some new) (dest_ended q None dest (Some new)) (events_ended q e None dest (Some new)) s None
changed_is f g s new q e ds dest p i d =
    ap (λ (here : Context). settle (stop_by_change (record here { geometry = Some new; formats = formats_found here.formats new; events = raise_after here.events source_change_event 1 }))) (put_is f g s q e ds dest d)
    ∙ stopped_is (formats_found f new) (Some new) s (dest_put q dest) (raise_after e source_change_event 1) (put_phase f g s q dest ∙ p) (ap (λ (y : QueueState). y.job) (put_out f g s q dest) ∙ i) (put_job f g s q ds dest d)

-- a source that goes back is before the mark
pub not_final : (q : PairState) (b : Buffer) (rest : List Buffer) (job : List Buffer) → job ≡ b ∷ [] → is_due job q.mark ≡ true → (ready : List Buffer) (c : Buffer) → q.out.ready ≡ c ∷ ready → c.ordinal ≡ b.ordinal → is_final q ≡ false
not_final q b rest job j d ready c r o = rw r (by_mark q.mark refl)
  where
    at_front : (n m : ℕ) (t : Bool) → nat_lt n m ≡ true → not (nat_lt n m || t) ≡ false
    at_front n m t e = rw e refl

    by_mark : (mark : Option ℕ) → q.mark ≡ mark → is_drained (c ∷ ready) mark ≡ false
    by_mark None e = refl
    by_mark (Some m) e =
        let due : nat_lt b.ordinal m ≡ true = subst (λ (k : Option ℕ). is_due (b ∷ []) k ≡ true) e (subst (λ (l : List Buffer). is_due l q.mark ≡ true) j d) in
        at_front c.ordinal m (has_before ready m) (rw o due)
