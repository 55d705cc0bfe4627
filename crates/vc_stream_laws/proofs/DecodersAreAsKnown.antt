-- What keeps the context of a stream as its client knows it. Each effect of a call or of a finish leaves the kind, the limit
-- and what streams, and the phase changes only as its client is told.
use Rattle.std.proofs.Common.{ℕ, ◌≡◌, Bool, true, false, not, cond, ◌&&◌, ◌||◌, is_none, Option, Some, None, List, [], ◌∷◌, ◌++◌, refl, sym, ap, ◌∙◌, ◌⊎◌, inl, inr}
use Rattle.std.proofs.lemmas.Bool.{false≢true}
use Rattle.std.proofs.lemmas.List.Folds.{list_any-append}
use Rattle.vc_base.specs.declared.Stamp.{Stamp}
use Rattle.vc_base.specs.Buffers.{Buffer, QueueState}
use Rattle.vc_model.specs.Coder.{CodecState}
use Rattle.vc_model.specs.Context.{Context, Cause, drain, change, PhaseState, run, owe, last, stopped, is_run, is_stopped, is_drained}
use Rattle.vc_model.specs.Phases.{is_over, is_last_by_drain, is_stopped_by_drain}
use Rattle.vc_model.specs.Places.{has_error}
use Rattle.vc_model.specs.Runs.{JobData, RunResult}
use Rattle.vc_model.specs.Sound.{drain_not_noted}
use Rattle.vc_model.proofs.PartsOfTests.{and_left}
use Rattle.vc_laws.proofs.EffectsOfCalls.{Settles, still, owes, gives}
use Rattle.vc_laws.proofs.EffectsOfEvents.{moved_out, Puts, puts_fault, puts_copy, puts_frame, puts_picture, puts_damage, Ends, alone, kept, ended, halts, spends, Returns, none_taken, given_back}
use Rattle.vc_stream_laws.specs.Streams.{StreamSoFar, KnownStop, not_known, some_stop, stop_by_change, has_failed, IsDraining, IsKnown, IsDecoder}

-- Phases

pub run_not_stopped : (p : PhaseState) → is_run p ≡ true → is_stopped p ≡ false
run_not_stopped run e = refl
run_not_stopped (owe cause) e = refl
run_not_stopped (last cause) e = refl
run_not_stopped (stopped cause) e = absurd (false≢true e)

pub stopped_by : (p : PhaseState) → is_stopped p ≡ false → is_stopped_by_drain p ≡ false
stopped_by run e = refl
stopped_by (owe cause) e = refl
stopped_by (last cause) e = refl
stopped_by (stopped cause) e = absurd (false≢true (sym e))

pub stopped_is_over : (p : PhaseState) → is_stopped_by_drain p ≡ true → is_over p ≡ true
stopped_is_over run e = e
stopped_is_over (owe cause) e = e
stopped_is_over (last cause) e = absurd (false≢true e)
stopped_is_over (stopped cause) e = e

pub not_both : {A : Type 0} → (b : Bool) → b ≡ true → b ≡ false → A
not_both b p q = absurd (false≢true (sym q ∙ p))

-- a drain that is over was before, or its LAST buffer is given now
pub over_cases : (p q : PhaseState) → is_over q ≡ true → (is_stopped_by_drain q ≡ true → is_over p ≡ true) → (is_over p ≡ true) ⊎ ((is_last_by_drain q && not (is_last_by_drain p)) ≡ true)
over_cases p run e l = absurd (false≢true e)
over_cases p (owe cause) e l = absurd (false≢true e)
over_cases run (last drain) e l = inr refl
over_cases (owe cause) (last drain) e l = inr refl
over_cases (last drain) (last drain) e l = inl refl
over_cases (last change) (last drain) e l = inr refl
over_cases (stopped cause) (last drain) e l = inr refl
over_cases p (last change) e l = absurd (false≢true e)
over_cases p (stopped drain) e l = inl (l refl)
over_cases p (stopped change) e l = absurd (false≢true e)

-- Failed buffers

pub failed_append : (xs ys : List Buffer) → has_failed (xs ++ ys) ≡ (has_failed xs || has_failed ys)
failed_append xs ys = list_any-append (λ (b : Buffer). has_error b.flags) xs ys

pub good_more : (xs : List Buffer) (b : Buffer) → has_failed xs ≡ false → has_error b.flags ≡ false → has_failed (xs ++ b ∷ []) ≡ false
good_more xs b h e =
    failed_append xs (b ∷ []) ∙ (ap (λ t. t || (has_error b.flags || false)) h ∙ ap (λ t. t || false) e)

pub failed_end : (xs : List Buffer) (b : Buffer) → has_error b.flags ≡ true → has_failed (xs ++ b ∷ []) ≡ true
failed_end xs b e = failed_append xs (b ∷ []) ∙ either (has_failed xs)
  where
    either : (t : Bool) → (t || (has_error b.flags || false)) ≡ true
    either true = refl
    either false = ap (λ s. s || false) e

-- What runs, settling and most calls leave

pub record IsAlong (c y : Context) : Type 0 where
  pub kind : y.kind ≡ c.kind
  pub limit : y.formats.out.size ≡ c.formats.out.size
  pub feeds : y.out.streams ≡ c.out.streams
  pub captures : y.cap.streams ≡ c.cap.streams
  pub mark : y.mark ≡ c.mark
  pub next : y.out.next_ordinal ≡ c.out.next_ordinal

pub along_both : (c x y : Context) → IsAlong c x → IsAlong x y → IsAlong c y
along_both c x y a b =
    record { kind = b.kind ∙ a.kind; limit = b.limit ∙ a.limit; feeds = b.feeds ∙ a.feeds; captures = b.captures ∙ a.captures; mark = b.mark ∙ a.mark; next = b.next ∙ a.next }

drains_on : (ends : Bool) (x y : Context) → is_stopped x.phase ≡ false → is_stopped y.phase ≡ false → y.mark ≡ x.mark → y.out.next_ordinal ≡ x.out.next_ordinal → IsDraining ends x → IsDraining ends y
drains_on false x y p q m n d = (m ∙ d.0, stopped_by y.phase q)
drains_on true x y p q m n (inl e) = inl (m ∙ (e ∙ ap (λ i. Some i) (sym n)))
drains_on true x y p q m n (inr e) = absurd (false≢true (sym p ∙ ap is_stopped e))

pub known_on : (k : KnownStop) (x y : Context) → is_stopped x.phase ≡ false → IsKnown k x → IsKnown k y
known_on not_known x y p k = tt
known_on some_stop x y p k = absurd (false≢true (sym p ∙ k))
known_on stop_by_change x y p k = absurd (false≢true (sym p ∙ ap is_stopped k))

-- neither before nor now does it stand still
pub decoder_on : (f : StreamSoFar) (x y : Context) → IsDecoder f x → IsAlong x y → has_failed y.out.done ≡ false → is_stopped x.phase ≡ false → is_stopped y.phase ≡ false → IsDecoder f y
decoder_on f x y w a u p q =
    record {
      kind = a.kind ∙ w.kind;
      limit = a.limit ∙ w.limit;
      feeds = a.feeds ∙ w.feeds;
      captures = a.captures ∙ w.captures;
      unfailed = u;
      drains = drains_on f.ends x y p q a.mark a.next w.drains;
      known = known_on f.known x y p w.known;
      emptied = λ e. absurd (false≢true (sym q ∙ e));
    }

-- the phase stays
pub drains_same : (ends : Bool) (x y : Context) → y.phase ≡ x.phase → y.mark ≡ x.mark → y.out.next_ordinal ≡ x.out.next_ordinal → IsDraining ends x → IsDraining ends y
drains_same false x y p m n d = (m ∙ d.0, ap is_stopped_by_drain p ∙ d.1)
drains_same true x y p m n (inl e) = inl (m ∙ (e ∙ ap (λ i. Some i) (sym n)))
drains_same true x y p m n (inr e) = inr (p ∙ e)

pub known_same : (k : KnownStop) (x y : Context) → y.phase ≡ x.phase → IsKnown k x → IsKnown k y
known_same not_known x y p k = tt
known_same some_stop x y p k = ap is_stopped p ∙ k
known_same stop_by_change x y p k = p ∙ k

pub decoder_like : (f : StreamSoFar) (x y : Context) → IsDecoder f x → IsAlong x y → y.phase ≡ x.phase → has_failed y.out.done ≡ false → (is_stopped x.phase ≡ true → y.cap.done ≡ []) → IsDecoder f y
decoder_like f x y w a p u e =
    record {
      kind = a.kind ∙ w.kind;
      limit = a.limit ∙ w.limit;
      feeds = a.feeds ∙ w.feeds;
      captures = a.captures ∙ w.captures;
      unfailed = u;
      drains = drains_same f.ends x y p a.mark a.next w.drains;
      known = known_same f.known x y p w.known;
      emptied = λ s. e (ap is_stopped (sym p) ∙ s);
    }

-- Settling

pub settled_along : (x y : Context) → Settles x y → IsAlong x y
settled_along x y still =
    record { kind = refl; limit = refl; feeds = refl; captures = refl; mark = refl; next = refl }
settled_along x y (owes p r) =
    record { kind = refl; limit = refl; feeds = refl; captures = refl; mark = refl; next = refl }
settled_along x y (gives cause b rest events r p) =
    record { kind = refl; limit = refl; feeds = refl; captures = refl; mark = refl; next = refl }

noted_runs : (x : Context) → drain_not_noted x ≡ true → is_run x.phase ≡ true
noted_runs x p =
    and_left (is_run x.phase) (x.cap.streams && (is_none x.running && is_drained x.out.ready x.mark)) p

owed_or_runs : (x : Context) (cause : Cause) → (x.phase ≡ owe cause) ⊎ ((cause ≡ drain) × (drain_not_noted x ≡ true)) → is_stopped x.phase ≡ false
owed_or_runs x cause (inl e) = ap is_stopped e
owed_or_runs x cause (inr e) = run_not_stopped x.phase (noted_runs x e.1)

pub settled_decoder : (f : StreamSoFar) (x y : Context) → IsDecoder f x → Settles x y → IsDecoder f y
settled_decoder f x y w still = w
settled_decoder f x y w (owes p r) =
    decoder_on f x (record x { phase = owe drain }) w (settled_along x _ (owes p r)) w.unfailed (run_not_stopped x.phase (noted_runs x p)) refl
settled_decoder f x y w (gives cause b rest events r p) =
    decoder_on f x _ w (settled_along x _ (gives cause b rest events r p)) w.unfailed (owed_or_runs x cause p) refl

pub settled_out : (x y : Context) → Settles x y → y.out ≡ x.out
settled_out x y still = refl
settled_out x y (owes p r) = refl
settled_out x y (gives cause b rest events r p) = refl

pub settled_geometry : (x y : Context) → Settles x y → y.geometry ≡ x.geometry
settled_geometry x y still = refl
settled_geometry x y (owes p r) = refl
settled_geometry x y (gives cause b rest events r p) = refl

-- what stands still after settling did before
pub settled_late : (x y : Context) → Settles x y → is_stopped_by_drain y.phase ≡ true → is_stopped_by_drain x.phase ≡ true
settled_late x y still e = e
settled_late x y (owes p r) e = absurd (false≢true e)
settled_late x y (gives cause b rest events r p) e = absurd (false≢true e)

pub settled_stopped : (x y : Context) → Settles x y → is_stopped x.phase ≡ false → is_stopped y.phase ≡ false
settled_stopped x y still e = e
settled_stopped x y (owes p r) e = refl
settled_stopped x y (gives cause b rest events r p) e = refl

-- The end of a job

moved_along : (o : QueueState) (b : Buffer) (flags cursor : ℕ) (up : Bool) → ((moved_out o b flags cursor up).streams ≡ o.streams) × ((moved_out o b flags cursor up).next_ordinal ≡ o.next_ordinal)
moved_along o b flags cursor true = (refl, refl)
moved_along o b flags cursor false = (refl, refl)

returned_along : (q k : QueueState) → Returns q k → k.streams ≡ q.streams
returned_along q k (none_taken j) = refl
returned_along q k (given_back d j) = refl

pub ended_along : (c : Context) (j : JobData) (b : Buffer) {result : Option RunResult} (x : Context) → Ends c j b result x → IsAlong c x
ended_along c j b x (alone up flags cursor codec used bytes dest_flags stamp p n) =
    let m = moved_along c.out b flags cursor up in
    record { kind = refl; limit = refl; feeds = m.0; captures = refl; mark = refl; next = m.1 }
ended_along c j b x (kept up flags cursor codec used bytes dest_flags stamp d p n) =
    let m = moved_along c.out b flags cursor up in
    record { kind = refl; limit = refl; feeds = m.0; captures = refl; mark = refl; next = m.1 }
ended_along c j b x (ended flags cursor codec used bytes dest_flags stamp d up p u n m) =
    record { kind = refl; limit = refl; feeds = refl; captures = refl; mark = refl; next = refl }
ended_along c j b x (halts step r geometry k phase events g q back p) =
    record { kind = refl; limit = refl; feeds = refl; captures = returned_along c.cap k back; mark = refl; next = refl }
ended_along c j b x (spends step k g back) =
    record { kind = refl; limit = refl; feeds = refl; captures = returned_along c.cap k back; mark = refl; next = refl }

halted_stopped : (streams : Bool) (p phase : PhaseState) → is_run p ≡ true → phase ≡ cond streams (owe change) p → is_stopped phase ≡ false
halted_stopped true p phase r e = ap is_stopped e
halted_stopped false p phase r e = ap is_stopped e ∙ run_not_stopped p r

pub ended_stopped : (c : Context) (j : JobData) (b : Buffer) {result : Option RunResult} (x : Context) → is_run c.phase ≡ true → Ends c j b result x → is_stopped x.phase ≡ false
ended_stopped c j b x r (alone up flags cursor codec used bytes dest_flags stamp p n) = run_not_stopped c.phase r
ended_stopped c j b x r (kept up flags cursor codec used bytes dest_flags stamp d p n) = run_not_stopped c.phase r
ended_stopped c j b x r (ended flags cursor codec used bytes dest_flags stamp d up p u n m) = refl
ended_stopped c j b x r (halts step g geometry k phase events h q back p) =
    halted_stopped c.cap.streams c.phase phase r p
ended_stopped c j b x r (spends step k g back) = run_not_stopped c.phase r

-- a run without a fault puts its source on done without ERROR
flags_are : (c : Context) (j : JobData) (b : Buffer) (result : Option RunResult) (run_result : RunResult) (up : Bool) (flags cursor : ℕ)
    (codec : CodecState) (used : ℕ) (bytes : List ℕ) (dest_flags : ℕ) (stamp : Stamp) → result ≡ Some run_result →
    Puts c j b result up flags cursor codec used bytes dest_flags stamp → flags ≡ 0
flags_are c j b result run_result up flags cursor codec used bytes dest_flags stamp e (puts_fault k) = absurd (cc)
flags_are c j b result run_result up flags cursor codec used bytes dest_flags stamp e (puts_copy xs k) = refl
flags_are c j b result run_result up flags cursor codec used bytes dest_flags stamp e (puts_frame frame k) = refl
flags_are c j b result run_result up flags cursor codec used bytes dest_flags stamp e (puts_picture step r geometry key planes g k) = refl
flags_are c j b result run_result up flags cursor codec used bytes dest_flags stamp e (puts_damage step r g k) = refl

moved_good : (o : QueueState) (b : Buffer) (flags cursor : ℕ) (up : Bool) → flags ≡ 0 → has_failed o.done ≡ false → has_failed (moved_out o b flags cursor up).done ≡ false
moved_good o b flags cursor true e h = good_more o.done _ h (ap has_error e)
moved_good o b flags cursor false e h = h

pub ended_good : (c : Context) (j : JobData) (b : Buffer) (run_result : RunResult) {result : Option RunResult} (x : Context) → result ≡ Some run_result → has_failed c.out.done ≡ false → Ends c j b result x → has_failed x.out.done ≡ false
ended_good c j b run_result {result = result} x e h (alone up flags cursor codec used bytes dest_flags stamp p n) =
    moved_good c.out b flags cursor up (flags_are c j b result run_result up flags cursor codec used bytes dest_flags stamp e p) h
ended_good c j b run_result {result = result} x e h (kept up flags cursor codec used bytes dest_flags stamp d p n) =
    moved_good c.out b flags cursor up (flags_are c j b result run_result up flags cursor codec used bytes dest_flags stamp e p) h
ended_good c j b run_result {result = result} x e h (ended flags cursor codec used bytes dest_flags stamp d up p u n m) =
    good_more c.out.done _ h (ap has_error (flags_are c j b result run_result up flags cursor codec used bytes dest_flags stamp e p))
ended_good c j b run_result x e h (halts step r geometry k phase events g q back p) = h
ended_good c j b run_result x e h (spends step k g back) = good_more c.out.done _ h refl

-- an engine fault shows on OUTPUT
fault_flags : (c : Context) (j : JobData) (b : Buffer) (result : Option RunResult) (up : Bool) (flags cursor : ℕ) (codec : CodecState) (used : ℕ)
    (bytes : List ℕ) (dest_flags : ℕ) (stamp : Stamp) → result ≡ None → Puts c j b result up flags cursor codec used bytes dest_flags stamp →
    (up ≡ true) × (has_error flags ≡ true)
fault_flags c j b result up flags cursor codec used bytes dest_flags stamp e (puts_fault k) = (refl, refl)
fault_flags c j b result up flags cursor codec used bytes dest_flags stamp e (puts_copy xs k) = absurd (cc)
fault_flags c j b result up flags cursor codec used bytes dest_flags stamp e (puts_frame frame k) = absurd (cc)
fault_flags c j b result up flags cursor codec used bytes dest_flags stamp e (puts_picture step r geometry key planes g k) = absurd (cc)
fault_flags c j b result up flags cursor codec used bytes dest_flags stamp e (puts_damage step r g k) = absurd (cc)

moved_failed : (o : QueueState) (b : Buffer) (flags cursor : ℕ) (up : Bool) → (up ≡ true) × (has_error flags ≡ true) → has_failed (moved_out o b flags cursor up).done ≡ true
moved_failed o b flags cursor true e = failed_end o.done _ e.1
moved_failed o b flags cursor false e = absurd (false≢true e.0)

pub fault_failed : (c : Context) (j : JobData) (b : Buffer) {result : Option RunResult} (x : Context) → result ≡ None → Ends c j b result x → has_failed x.out.done ≡ true
fault_failed c j b {result = result} x e (alone up flags cursor codec used bytes dest_flags stamp p n) =
    moved_failed c.out b flags cursor up (fault_flags c j b result up flags cursor codec used bytes dest_flags stamp e p)
fault_failed c j b {result = result} x e (kept up flags cursor codec used bytes dest_flags stamp d p n) =
    moved_failed c.out b flags cursor up (fault_flags c j b result up flags cursor codec used bytes dest_flags stamp e p)
fault_failed c j b {result = result} x e (ended flags cursor codec used bytes dest_flags stamp d up p u n m) =
    failed_end c.out.done _ (fault_flags c j b result up flags cursor codec used bytes dest_flags stamp e p).1
fault_failed c j b x e (halts step r geometry k phase events g q back p) = absurd (cc)
fault_failed c j b x e (spends step k g back) = absurd (cc)

-- done only grows at the end of a job
failed_more : (xs ys : List Buffer) → has_failed xs ≡ true → has_failed (xs ++ ys) ≡ true
failed_more xs ys h = failed_append xs ys ∙ ap (λ t. t || has_failed ys) h

moved_more : (o : QueueState) (b : Buffer) (flags cursor : ℕ) (up : Bool) → has_failed o.done ≡ true → has_failed (moved_out o b flags cursor up).done ≡ true
moved_more o b flags cursor true h = failed_more o.done _ h
moved_more o b flags cursor false h = h

pub ended_failed : (c : Context) (j : JobData) (b : Buffer) {result : Option RunResult} (x : Context) → has_failed c.out.done ≡ true → Ends c j b result x → has_failed x.out.done ≡ true
ended_failed c j b x h (alone up flags cursor codec used bytes dest_flags stamp p n) = moved_more c.out b flags cursor up h
ended_failed c j b x h (kept up flags cursor codec used bytes dest_flags stamp d p n) = moved_more c.out b flags cursor up h
ended_failed c j b x h (ended flags cursor codec used bytes dest_flags stamp d up p u n m) = moved_more c.out b flags 0 true h
ended_failed c j b x h (halts step r geometry k phase events g q back p) = h
ended_failed c j b x h (spends step k g back) = moved_more c.out b 0 0 true h
