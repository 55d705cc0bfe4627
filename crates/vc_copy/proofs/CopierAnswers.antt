-- What a copying context answers to each call is the definitions' answer. It never drains, so settling leaves it as
-- it is, and each call is that of one queue.
use Rattle.std.proofs.Common.{ℕ, zero, suc, ◌≡◌, ◌<◌, ◌≤◌, Bool, true, false, cond, not, ◌&&◌, Option, Some, None, Result, List, [], ◌∷◌, ◌++◌, refl, sym, ap, ◌∙◌, subst, arith}
use Rattle.std.specs.Prelude.{slice_get, min, ◌+◌, ◌==◌, is_some, is_none}
use Rattle.std.specs.List.{filter}
use Rattle.std.specs.Option.{ok_or}
use Rattle.std.proofs.lemmas.Bool.{false≢true}
use Rattle.vc_base.specs.declared.Side.{Side}
use Rattle.vc_base.specs.declared.Side.TheVariants.{Out, Cap}
use Rattle.vc_base.specs.declared.Errno.{Errno}
use Rattle.vc_base.specs.declared.Errno.TheVariants.{Again, Inval, Pipe}
use Rattle.vc_base.specs.declared.Call.TheVariants.{QBuf}
use Rattle.vc_base.specs.declared.Reply.{Reply}
use Rattle.vc_base.specs.declared.Reply.TheVariants.{Done, Desc, Fmt, Refused, Count, Created}
use Rattle.vc_base.specs.declared.Stamp.{Stamp}
use Rattle.vc_base.specs.declared.Format.{Format}
use Rattle.vc_base.specs.declared.Fourcc.{Fourcc}
use Rattle.vc_base.specs.Buffers.{Buffer, QueueState, is_empty, refuse_if, buffer_count, reqbufs_refusal, reqbufs_after, create_refusal, create_after, created}
use Rattle.vc_base.specs.Buffers.{querybuf_reply, qbuf_refusal, qbuf_after, queue_held, queued_buffer, dqbuf_refusal, dqbuf_after, streamon_refusal}
use Rattle.vc_base.specs.Buffers.{streamon_after, streamoff_after}
use Rattle.vc_model.specs.Formats.{FormatPair, formats_for, formats_listed, data_format}
use Rattle.vc_model.specs.Context.{Context, settle, settle_drain, settle_owed, queue_of, format_of}
use Rattle.vc_model.specs.Answer.{desc_answer, answered, unless, if_found, query_answer, set_answer, set_refusal, reqbufs_answer, create_answer, qbuf_answer, dqbuf_answer, taken_answer, unless_or_block, streamon_answer, streamoff_answer}
use Rattle.vc_queue.specs.Answers.{answer_of, after_of, front_taken, queued_bytes}
use Rattle.vc_queue.specs.Growing.{with_memory, AnswersWithMemory}
use Rattle.vc_queue.specs.Holds.{HoldState}
use Rattle.vc_context.specs.Contexts.{Gives, GivesWithMemory, IsKept, told_of, taken_or_blocked}
use Rattle.vc_copy.specs.Copying.{data_formats, data_bytes, copier_state}
use Rattle.vc_context.specs.Payloads.{handed_over}

-- the settling of a context without a drain

never_put_off : (streams idle : Bool) (d c : Context) → cond (streams && (idle && false)) d c ≡ c
never_put_off true true d c = refl
never_put_off true false d c = refl
never_put_off false idle d c = refl

pub settled : (size : ℕ) (out cap : QueueState) (running : Bool) → settle (copier_state size out cap running) ≡ copier_state size out cap running
unfolding settle
settled size out cap running =
    let c : Context = copier_state size out cap running in
    let e : settle_drain c ≡ c = never_put_off cap.streams (is_none c.running) _ c in
    ap settle_owed e

-- a queue of the context, with what a call makes of it

gives_cases :
    {A : Type 0} (tell : A → Reply) (value : A) (put : QueueState → Context) (q r : QueueState) (o : Option Errno) → settle (put r) ≡ put r
    → Gives (unless (put q) o (answered (put r) (tell value))) (told_of tell (answer_of o value)) (put (after_of o q r))
gives_cases tell value put q r (Some e) h = record { reply = refl; context = refl }
gives_cases tell value put q r None h = record { reply = refl; context = ap Some h }

pub gives_told :
    {A : Type 0} (tell : A → Reply) (value : A) (put : QueueState → Context) (q r new : QueueState) (o : Option Errno) (result : Result A Errno) (reply : Reply)
    → settle (put r) ≡ put r → result ≡ answer_of o value → new ≡ after_of o q r → reply ≡ told_of tell result
    → Gives (unless (put q) o (answered (put r) (tell value))) reply (put new)
gives_told tell value put q r new o result reply h er en et =
    rw (et, er, en) (gives_cases tell value put q r o h)

memory_cases :
    {A : Type 0} (tell : A → Reply) (value : A) (put : QueueState → Context) (q r : QueueState) (o : Option Errno) (found : Bool)
    → settle (put r) ≡ put r
    → GivesWithMemory (λ f. unless (put q) o (if_found (put q) f (answered (put r) (tell value)))) (told_of tell (answer_of (with_memory found o) value)) (put (after_of (with_memory found o) q r))
memory_cases tell value put q r (Some e) true h =
    record { found = true; gives = record { reply = refl; context = refl }; want = λ w. absurd (false≢true (sym w)) }
memory_cases tell value put q r (Some e) false h =
    record { found = true; gives = record { reply = refl; context = refl }; want = λ w. absurd (false≢true (sym w)) }
memory_cases tell value put q r None true h =
    record { found = true; gives = record { reply = refl; context = ap Some h }; want = λ w. absurd (false≢true (sym w)) }
memory_cases tell value put q r None false h =
    record { found = false; gives = record { reply = refl; context = refl }; want = λ w. refl }

pub gives_memory :
    {A : Type 0} (tell : A → Reply) (value : A) (put : QueueState → Context) (q r new : QueueState) (o : Option Errno) (result : Result A Errno) (reply : Reply)
    → settle (put r) ≡ put r → AnswersWithMemory o value r result q new → reply ≡ told_of tell result
    → GivesWithMemory (λ f. unless (put q) o (if_found (put q) f (answered (put r) (tell value)))) reply (put new)
gives_memory tell value put q r new o result reply h a et =
    rw (et, a.answer, a.state) (memory_cases tell value put q r o a.found h)

-- QBuf on CAPTURE does not look at the bytes

on_capture : (s : Side) (x : Buffer) (used : ℕ) (stamp : Stamp) (a b : List ℕ) (ordinal : ℕ) → s ≡ Cap → queued_buffer s x used stamp a ordinal ≡ queued_buffer s x used stamp b ordinal
on_capture Out x used stamp a b ordinal e = cc
on_capture Cap x used stamp a b ordinal e = refl

same_queued : (q : QueueState) (index : ℕ) (f : Option Buffer) (used : ℕ) (stamp : Stamp) (a b : List ℕ) → q.side ≡ Cap → queue_held q index f used stamp a ≡ queue_held q index f used stamp b
same_queued q index None used stamp a b e = refl
same_queued q index (Some x) used stamp a b e =
    let queued : Buffer → QueueState = λ y. record q { held = filter (λ h. not (h.index == index)) q.held; ready = q.ready ++ y ∷ []; next_ordinal = q.next_ordinal + 1 } in
    ap queued (on_capture q.side x used stamp a b q.next_ordinal e)

-- DqBuf

taken_out :
    (size : ℕ) (out cap : QueueState) (running block s : Bool) (ds : List Buffer)
    → let c : Context = copier_state size out cap running in
    let o : Option Errno = refuse_if (not s) Inval (refuse_if false Pipe (refuse_if (is_empty ds) Again None)) in
    Gives (unless_or_block c o block (taken_answer c Out ds)) (taken_or_blocked block (answer_of o (front_taken ds))) (copier_state size (after_of o out (dqbuf_after out)) cap running)
taken_out size out cap running true false ds = record { reply = refl; context = refl }
taken_out size out cap running false false ds = record { reply = refl; context = refl }
taken_out size out cap running true true [] = record { reply = refl; context = refl }
taken_out size out cap running false true [] = record { reply = refl; context = refl }
taken_out size out cap running block true (b ∷ rest) =
    record { reply = refl; context = ap Some (settled size (dqbuf_after out) cap running) }

taken_cap :
    (size : ℕ) (out cap : QueueState) (running block s : Bool) (ds : List Buffer)
    → let c : Context = copier_state size out cap running in
    let o : Option Errno = refuse_if (not s) Inval (refuse_if false Pipe (refuse_if (is_empty ds) Again None)) in
    Gives (unless_or_block c o block (taken_answer c Cap ds)) (taken_or_blocked block (answer_of o (front_taken ds))) (copier_state size out (after_of o cap (dqbuf_after cap)) running)
taken_cap size out cap running true false ds = record { reply = refl; context = refl }
taken_cap size out cap running false false ds = record { reply = refl; context = refl }
taken_cap size out cap running true true [] = record { reply = refl; context = refl }
taken_cap size out cap running false true [] = record { reply = refl; context = refl }
taken_cap size out cap running block true (b ∷ rest) =
    record { reply = refl; context = ap Some (settled size out (dqbuf_after cap) running) }

-- QueryBuf

pub query_gives : (c : Context) (o : Option Reply) (result : Result Reply Errno) (reply : Reply) → result ≡ ok_or o Inval → reply ≡ told_of (λ r. r) result → Gives (query_answer c o) reply c
query_gives c o result reply er et = rw (et, er) (cases o)
  where
    cases : (p : Option Reply) → Gives (query_answer c p) (told_of (λ r. r) (ok_or p Inval)) c
    cases None = record { reply = refl; context = refl }
    cases (Some r) = record { reply = refl; context = refl }

-- The calls, by side

module _ (size : ℕ) (out cap : QueueState) (running : Bool) (c : Context) (side : Side) (view : copier_state size out cap running ≡ c) where
  pub query_out :
      (index : ℕ) (result : Result Reply Errno) (reply : Reply) → side ≡ Out → result ≡ ok_or (querybuf_reply out index) Inval
      → reply ≡ told_of (λ r. r) result → Gives (query_answer c (querybuf_reply (queue_of c side) index)) reply c
  query_out index result reply is er et = rw (is, ← view) (query_gives _ _ result reply er et)

  pub query_cap :
      (index : ℕ) (result : Result Reply Errno) (reply : Reply) → side ≡ Cap → result ≡ ok_or (querybuf_reply cap index) Inval
      → reply ≡ told_of (λ r. r) result → Gives (query_answer c (querybuf_reply (queue_of c side) index)) reply c
  query_cap index result reply is er et = rw (is, ← view) (query_gives _ _ result reply er et)

  pub reqbufs_out :
      (count : ℕ) (new : QueueState) (result : Result ℕ Errno) (reply : Reply) → side ≡ Out
      → AnswersWithMemory (reqbufs_refusal out) (min count 32) (reqbufs_after out count size) result out new → reply ≡ told_of Count result
      → GivesWithMemory (reqbufs_answer c side count) reply (copier_state size new cap running)
  reqbufs_out count new result reply is a et =
      rw (is, ← view) (gives_memory Count (min count 32) (λ q. copier_state size q cap running) out (reqbufs_after out count size) new (reqbufs_refusal out) result reply (settled size _ cap running) a et)

  pub reqbufs_cap :
      (count : ℕ) (new : QueueState) (result : Result ℕ Errno) (reply : Reply) → side ≡ Cap
      → AnswersWithMemory (reqbufs_refusal cap) (min count 32) (reqbufs_after cap count size) result cap new → reply ≡ told_of Count result
      → GivesWithMemory (reqbufs_answer c side count) reply (copier_state size out new running)
  reqbufs_cap count new result reply is a et =
      rw (is, ← view) (gives_memory Count (min count 32) (λ q. copier_state size out q running) cap (reqbufs_after cap count size) new (reqbufs_refusal cap) result reply (settled size out _ running) a et)

  pub create_out :
      (count length : ℕ) (new : QueueState) (result : Result (ℕ × ℕ) Errno) (reply : Reply) → side ≡ Out
      → AnswersWithMemory (create_refusal out count length) (buffer_count out, created out count) (create_after out count length) result out new
      → reply ≡ told_of (λ a. Created a.0 a.1) result → GivesWithMemory (create_answer c side count length) reply (copier_state size new cap running)
  create_out count length new result reply is a et =
      rw (is, ← view)
      (gives_memory (λ (a : ℕ × ℕ). Created a.0 a.1) (buffer_count out, created out count) (λ q. copier_state size q cap running) out
      (create_after out count length) new (create_refusal out count length) result reply (settled size _ cap running) a et)

  pub create_cap :
      (count length : ℕ) (new : QueueState) (result : Result (ℕ × ℕ) Errno) (reply : Reply) → side ≡ Cap
      → AnswersWithMemory (create_refusal cap count length) (buffer_count cap, created cap count) (create_after cap count length) result cap new
      → reply ≡ told_of (λ a. Created a.0 a.1) result → GivesWithMemory (create_answer c side count length) reply (copier_state size out new running)
  create_cap count length new result reply is a et =
      rw (is, ← view)
      (gives_memory (λ (a : ℕ × ℕ). Created a.0 a.1) (buffer_count cap, created cap count) (λ q. copier_state size out q running) cap
      (create_after cap count length) new (create_refusal cap count length) result reply (settled size out _ running) a et)

  pub qbuf_out :
      (index used : ℕ) (stamp : Stamp) (hold : HoldState) (new : QueueState) (result : Result Unit Errno) (reply : Reply) → side ≡ Out → IsKept c
      → result ≡ answer_of (qbuf_refusal out index used size) tt
      → new ≡ after_of (qbuf_refusal out index used size) out (qbuf_after out index used stamp (queued_bytes out.side hold index used))
      → reply ≡ told_of (λ _. Done) result
      → Gives (qbuf_answer c side index used stamp (handed_over (QBuf side index used stamp) hold)) reply (copier_state size new cap running)
  qbuf_out index used stamp hold new result reply is k er en et =
      let os : out.side ≡ Out = (subst (λ (x : Context). IsKept x) (sym view) k).out_side in
      let f : Side → QueueState = λ s. after_of (qbuf_refusal out index used size) out (qbuf_after out index used stamp (queued_bytes s hold index used)) in
      rw (is, ← view)
      (gives_told (λ (_ : Unit). Done) tt (λ q. copier_state size q cap running) out
      (qbuf_after out index used stamp (queued_bytes Out hold index used)) new (qbuf_refusal out index used size) result reply
      (settled size _ cap running) er (en ∙ ap f os) et)

  pub qbuf_cap :
      (index used : ℕ) (stamp : Stamp) (hold : HoldState) (new : QueueState) (result : Result Unit Errno) (reply : Reply) → side ≡ Cap → IsKept c
      → result ≡ answer_of (qbuf_refusal cap index used size) tt
      → new ≡ after_of (qbuf_refusal cap index used size) cap (qbuf_after cap index used stamp (queued_bytes cap.side hold index used))
      → reply ≡ told_of (λ _. Done) result
      → Gives (qbuf_answer c side index used stamp (handed_over (QBuf side index used stamp) hold)) reply (copier_state size out new running)
  qbuf_cap index used stamp hold new result reply is k er en et =
      let cs : cap.side ≡ Cap = (subst (λ (x : Context). IsKept x) (sym view) k).cap_side in
      let f : QueueState → QueueState = λ q. after_of (qbuf_refusal cap index used size) cap q in
      rw (is, ← view)
      (gives_told (λ (_ : Unit). Done) tt (λ q. copier_state size out q running) cap (qbuf_after cap index used stamp []) new
      (qbuf_refusal cap index used size) result reply (settled size out _ running) er
      (en ∙ ap f (same_queued cap index _ used stamp (queued_bytes cap.side hold index used) [] cs)) et)

  pub on_out :
      (new : QueueState) (result : Result Unit Errno) (reply : Reply) → side ≡ Out → result ≡ answer_of (streamon_refusal out size) tt
      → new ≡ after_of (streamon_refusal out size) out (streamon_after out) → reply ≡ told_of (λ _. Done) result
      → Gives (streamon_answer c side) reply (copier_state size new cap running)
  on_out new result reply is er en et =
      rw (is, ← view) (gives_told (λ (_ : Unit). Done) tt (λ q. copier_state size q cap running) out (streamon_after out) new (streamon_refusal out size) result reply (settled size _ cap running) er en et)

  pub on_cap :
      (new : QueueState) (result : Result Unit Errno) (reply : Reply) → side ≡ Cap → result ≡ answer_of (streamon_refusal cap size) tt
      → new ≡ after_of (streamon_refusal cap size) cap (streamon_after cap) → reply ≡ told_of (λ _. Done) result
      → Gives (streamon_answer c side) reply (copier_state size out new running)
  on_cap new result reply is er en et =
      rw (is, ← view) (gives_told (λ (_ : Unit). Done) tt (λ q. copier_state size out q running) cap (streamon_after cap) new (streamon_refusal cap size) result reply (settled size out _ running) er en et)

  pub dqbuf_out :
      (block : Bool) (new : QueueState) (result : Result Reply Errno) (reply : Reply) → side ≡ Out
      → result ≡ answer_of (dqbuf_refusal out false) (front_taken out.done) → new ≡ after_of (dqbuf_refusal out false) out (dqbuf_after out)
      → reply ≡ taken_or_blocked block result → Gives (dqbuf_answer c side block) reply (copier_state size new cap running)
  dqbuf_out block new result reply is er en et =
      rw (is, ← view, et, er, en) (taken_out size out cap running block out.streams out.done)

  pub dqbuf_cap :
      (block : Bool) (new : QueueState) (result : Result Reply Errno) (reply : Reply) → side ≡ Cap
      → result ≡ answer_of (dqbuf_refusal cap false) (front_taken cap.done) → new ≡ after_of (dqbuf_refusal cap false) cap (dqbuf_after cap)
      → reply ≡ taken_or_blocked block result → Gives (dqbuf_answer c side block) reply (copier_state size out new running)
  dqbuf_cap block new result reply is er en et =
      rw (is, ← view, et, er, en) (taken_cap size out cap running block cap.streams cap.done)

-- StreamOff, where no job runs

off_out_at : (size : ℕ) (out cap : QueueState) (running : Bool) → running ≡ false → Gives (streamoff_answer (copier_state size out cap running) Out) Done (copier_state size (streamoff_after out) cap running)
off_out_at size out cap true e = absurd (false≢true (sym e))
off_out_at size out cap false e =
    record { reply = refl; context = ap Some (settled size (streamoff_after out) cap false) }

off_cap_at : (size : ℕ) (out cap : QueueState) (running s : Bool) → running ≡ false → let after : Context = copier_state size out (streamoff_after cap) running in (settle (cond s after after) ≡ after)
off_cap_at size out cap running true e = settled size out (streamoff_after cap) running
off_cap_at size out cap running false e = settled size out (streamoff_after cap) running

off_cap_open : (size : ℕ) (out cap : QueueState) (running : Bool) → running ≡ false → Gives (streamoff_answer (copier_state size out cap running) Cap) Done (copier_state size out (streamoff_after cap) running)
off_cap_open size out cap true e = absurd (false≢true (sym e))
off_cap_open size out cap false e =
    record { reply = refl; context = ap Some (off_cap_at size out cap false cap.streams e) }

module _ (size : ℕ) (out cap : QueueState) (running : Bool) (c : Context) (side : Side) (view : copier_state size out cap running ≡ c) (idle : running ≡ false) where
  pub off_out : (new : QueueState) → side ≡ Out → new ≡ streamoff_after out → Gives (streamoff_answer c side) Done (copier_state size new cap running)
  off_out new is en = rw (is, ← view, en) (off_out_at size out cap running idle)

  pub off_cap : (new : QueueState) → side ≡ Cap → new ≡ streamoff_after cap → Gives (streamoff_answer c side) Done (copier_state size out new running)
  off_cap new is en = rw (is, ← view, en) (off_cap_open size out cap running idle)

-- Formats

same_format : (side : Side) (size : ℕ) → format_of (data_formats size) side ≡ data_bytes size
same_format Out size = refl
same_format Cap size = refl

set_cases :
    (size new : ℕ) (out cap : QueueState) (running : Bool) (side : Side) (o : Option Errno) (formats : FormatPair) → is_some o ≡ false
    → data_formats new ≡ formats
    → let c : Context = copier_state size out cap running in
    Gives (unless c o (answered (record c { formats = formats }) (Fmt (format_of formats side)))) (Fmt (data_bytes new)) (copier_state new out cap running)
set_cases size new out cap running side (Some e) formats n h = absurd (false≢true (sym n))
set_cases size new out cap running side None formats n h =
    rw (← h) (record { reply = ap Fmt (same_format side new); context = ap Some (settled new out cap running) })

pub set_gives :
    (size new : ℕ) (out cap : QueueState) (running : Bool) (c : Context) (side : Side) (want : Format) → copier_state size out cap running ≡ c
    → is_some (set_refusal c side) ≡ false → data_formats new ≡ formats_for c.kind side c.formats want
    → Gives (set_answer c side want) (Fmt (data_bytes new)) (copier_state new out cap running)
set_gives size new out cap running c side want view n h =
    subst (λ (x : Context).
    is_some (set_refusal x side) ≡ false → data_formats new ≡ formats_for x.kind side x.formats want → Gives (set_answer x side want) (Fmt (data_bytes new)) (copier_state new out cap running))
    view (λ m g. set_cases size new out cap running side _ _ m g) n h

-- a list of one

past_one : {A : Type 0} (x : A) (index : ℕ) → 0 < index → slice_get (x ∷ []) index ≡ None
past_one x zero h = absurd (omega arith)
past_one x (suc n) h = refl

first_of_one : {A : Type 0} (x : A) (index : ℕ) → index ≤ 0 → slice_get (x ∷ []) index ≡ Some x
first_of_one x zero h = refl
first_of_one x (suc n) h = absurd (omega arith)

not_listed_at : (c : Context) (o : Option Fourcc) → o ≡ None → Gives (desc_answer c o) (Refused Inval) c
not_listed_at c o e = rw e (record { reply = refl; context = refl })

is_listed_at : (c : Context) (o : Option Fourcc) (x : Fourcc) → o ≡ Some x → Gives (desc_answer c o) (Desc x) c
is_listed_at c o x e = rw e (record { reply = refl; context = refl })

module _ (size : ℕ) (out cap : QueueState) (running : Bool) (c : Context) (side : Side) (index : ℕ) (view : copier_state size out cap running ≡ c) where
  pub not_listed : 0 < index → Gives (desc_answer c (slice_get (formats_listed c.kind side c.formats) index)) (Refused Inval) c
  not_listed h = rw (← view) (not_listed_at _ _ (past_one data_format index h))

  pub is_listed : index ≤ 0 → Gives (desc_answer c (slice_get (formats_listed c.kind side c.formats) index)) (Desc data_format) c
  is_listed h = rw (← view) (is_listed_at _ _ _ (first_of_one data_format index h))
