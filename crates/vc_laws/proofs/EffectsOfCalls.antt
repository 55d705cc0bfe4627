-- What an answered call does to an open context, by the few kinds of effect that there are. Each row of the table of
-- calls is put under one kind, so that laws over steps need not go through the calls again.
use Rattle.std.proofs.Common.{ℕ, ◌≡◌, ◌≤◌, ◌==◌, min, nat_lt, Bool, true, false, not, cond, ◌&&◌, ◌||◌, is_none, is_some, Option, Some, None, List, [], ◌∷◌, ◌++◌, refl, sym, ap, ◌∙◌, subst, ◌⊎◌, inl, inr}
use Rattle.std.proofs.lemmas.Bool.{ltb-false, le-ltb, false≢true, or_parts}
use Rattle.std.proofs.lemmas.List.Folds.{list_any-append}
use Rattle.vc_base.specs.declared.Stamp.{Stamp}
use Rattle.vc_base.specs.declared.Side.{Side}
use Rattle.vc_base.specs.declared.Side.TheVariants.{Out, Cap}
use Rattle.vc_base.specs.declared.Kind.{Kind}
use Rattle.vc_base.specs.declared.Kind.TheVariants.{Copy, Enc, Dec}
use Rattle.vc_base.specs.declared.Fourcc.{Fourcc}
use Rattle.vc_base.specs.declared.Format.{Format}
use Rattle.vc_base.specs.declared.Errno.{Errno}
use Rattle.vc_base.specs.declared.Errno.TheVariants.{NoEnt, Again, NoMem, Busy, Inval, NoTty, Pipe}
use Rattle.vc_base.specs.declared.Call.{Call}
use Rattle.vc_base.specs.declared.Call.TheVariants.{Open, Close, EnumFmt, GetFmt, TryFmt, SetFmt, ReqBufs, CreateBufs, QueryBuf, QBuf, DqBuf, StreamOn, StreamOff, Subscribe, Unsubscribe, DqEvent, DecCmd, EncCmd, GetCtrl, SetCtrl, Poll}
use Rattle.vc_base.specs.declared.Reply.{Reply}
use Rattle.vc_base.specs.declared.Reply.TheVariants.{Done, Fmt, Count, Created, Refused, Blocked}
use Rattle.vc_base.specs.Buffers.{Buffer, QueueState, buffer_count, is_empty, refuse_if, with_index, queued_buffer, queue_held, held_refusal, take_front}
use Rattle.vc_base.specs.Buffers.{long_enough, reqbufs_after, create_refusal, create_after, created, qbuf_after, dqbuf_refusal, taken, streamon_refusal}
use Rattle.vc_base.specs.Buffers.{streamon_after, streamoff_after, lend_front, retire_after, zero_stamp}
use Rattle.vc_base.specs.Limits.{most_buffers, last_flag, eos_event}
use Rattle.vc_base.specs.Events.{EventState, Event, raise_after, event_reply, take_event_after, subscribe_after, unsubscribe_after, event_refusal}
use Rattle.vc_defs.specs.declared.Geometry.{Geometry}
use Rattle.vc_defs.specs.Encoder.{RunRates}
use Rattle.vc_model.specs.Formats.{formats_for}
use Rattle.vc_model.specs.Coder.{CodecState, reset}
use Rattle.vc_model.specs.Context.{Context, Slot, Running, Cause, drain, change, PhaseState, run, owe, last, stopped, queue_of, with_queue, is_dec, is_enc}
use Rattle.vc_model.specs.Context.{is_run, is_stopped, is_drained, has_before, sizeimage, settle, settle_owed, settle_last, give_last}
use Rattle.vc_model.specs.Answer.{Answer, unchanged, refused, answered, unless, if_found, unless_or_block, desc_answer, set_answer, set_refusal}
use Rattle.vc_model.specs.Answer.{after_new_format, reqbufs_answer, after_new_buffers, create_answer, query_answer, qbuf_answer, is_no_whole_picture}
use Rattle.vc_model.specs.Answer.{taken_answer, after_taking, stop_at_last, is_ended, streamon_answer, streamoff_answer, streamoff_effect, without_drain_stop}
use Rattle.vc_model.specs.Answer.{after_output_off, mark_after_restart, after_capture_off, both_stream, stop_answer, start_is_early, start_answer}
use Rattle.vc_model.specs.Answer.{command_answer, value_answer, control_answer, context_answer}
use Rattle.vc_model.specs.Phases.{is_stopped_by_drain}
use Rattle.vc_model.specs.Drains.{takes_a_buffer}
use Rattle.vc_model.specs.Sound.{drain_not_noted, last_not_given, is_last, MarkIsQueued, IsSettled, IsSoundButUnsettled, IsOrdered}
use Rattle.vc_model.proofs.PartsOfTests.{not_false}
use Rattle.vc_model.proofs.SettlingSettles.{settles_once}
use Rattle.vc_laws.specs.Segments.{call_resets}
use Rattle.vc_laws.specs.Drains.{is_stop_call}

-- Settling

-- the queue after its front went to done, empty and with LAST
abbrev pub given_queue : QueueState → Buffer → List Buffer → QueueState
given_queue q b rest = retire_after (lend_front q (b ∷ rest)) 0 [] last_flag zero_stamp

-- what settling makes of a context
pub data Settles (x : Context) : Context → Type 0 where
  still : Settles x x
  owes : drain_not_noted x ≡ true → x.cap.ready ≡ [] → Settles x (record x { phase = owe drain })
  gives :
      (cause : Cause) (b : Buffer) (rest : List Buffer) (events : EventState) → x.cap.ready ≡ b ∷ rest
      → (x.phase ≡ owe cause) ⊎ ((cause ≡ drain) × (drain_not_noted x ≡ true))
      → Settles x (record x { cap = given_queue x.cap b rest; phase = last cause; events = events })

give_drained : (x : Context) (ready : List Buffer) → x.cap.ready ≡ ready → drain_not_noted x ≡ true → Settles x (give_last (record x { phase = owe drain }) drain ready)
give_drained x [] r p = owes p r
give_drained x (b ∷ rest) r p =
    subst
    (λ l. Settles x (record x { cap = retire_after (lend_front x.cap l) 0 [] last_flag zero_stamp; phase = last drain; events = raise_after x.events eos_event 0 }))
    (sym r) (gives drain b rest (raise_after x.events eos_event 0) r (inr (refl, p)))

give_owed : (x : Context) (cause : Cause) (ready : List Buffer) → x.cap.ready ≡ ready → x.phase ≡ owe cause → Settles x (give_last x cause ready)
give_owed x cause [] r p = still
give_owed x drain (b ∷ rest) r p =
    subst
    (λ l. Settles x (record x { cap = retire_after (lend_front x.cap l) 0 [] last_flag zero_stamp; phase = last drain; events = raise_after x.events eos_event 0 }))
    (sym r) (gives drain b rest (raise_after x.events eos_event 0) r (inl p))
give_owed x change (b ∷ rest) r p =
    subst (λ l. Settles x (record x { cap = retire_after (lend_front x.cap l) 0 [] last_flag zero_stamp; phase = last change })) (sym r) (gives change b rest x.events r (inl p))

owed_split : (x : Context) (phase : PhaseState) → x.phase ≡ phase → Settles x (settle_last x phase)
owed_split x run p = still
owed_split x (owe cause) p = give_owed x cause x.cap.ready refl p
owed_split x (last cause) p = still
owed_split x (stopped cause) p = still

settle_split : (x : Context) (b : Bool) → drain_not_noted x ≡ b → Settles x (settle_owed (cond b (record x { phase = owe drain }) x))
settle_split x true e = give_drained x x.cap.ready refl e
settle_split x false e = owed_split x x.phase refl

pub settle_is : (x : Context) → Settles x (settle x)
unfolding settle
settle_is x = settle_split x (drain_not_noted x) refl

-- Effects

-- codec state and geometry after a new format of OUTPUT, after new buffers of it, and after a StreamOff
abbrev pub CodecAfterFormat : Kind → CodecState → CodecState → Option Geometry → Option Geometry → Type 0
CodecAfterFormat Copy old new g h = (new ≡ old) × (h ≡ g)
CodecAfterFormat Enc old new g h = (new ≡ reset old) × (h ≡ g)
CodecAfterFormat Dec old new g h = (new ≡ old) × (h ≡ None)

abbrev pub CodecAfterBuffers : Kind → CodecState → CodecState → Option Geometry → Option Geometry → Type 0
CodecAfterBuffers Copy old new g h = (new ≡ old) × (h ≡ g)
CodecAfterBuffers Enc old new g h = (new ≡ reset old) × (h ≡ g)
CodecAfterBuffers Dec old new g h = (new ≡ reset old) × (h ≡ None)

abbrev pub CodecAfterOutput : Kind → CodecState → CodecState → Type 0
CodecAfterOutput Copy old new = new ≡ old
CodecAfterOutput Enc old new = new ≡ old
CodecAfterOutput Dec old new = new ≡ reset old

abbrev pub CodecAfterCapture : Kind → CodecState → CodecState → Type 0
CodecAfterCapture Copy old new = new ≡ old
CodecAfterCapture Enc old new = new ≡ reset old
CodecAfterCapture Dec old new = new ≡ old

-- the mark after the LAST buffer was taken
abbrev pub MarkAfterLast : Cause → Option ℕ → Option ℕ → Type 0
MarkAfterLast drain old new = new ≡ None
MarkAfterLast change old new = new ≡ old

-- a call that resets nothing and takes no CAPTURE buffer
pub record IsPlain (c : Context) (request : Call) (reply : Reply) : Type 0 where
  pub no_reset : call_resets c request reply ≡ false
  pub no_take : takes_a_buffer request reply ≡ false

-- STOP or START
abbrev pub is_command : Call → Bool
is_command (DecCmd cmd) = true
is_command (EncCmd cmd) = true
is_command request = false

pub data Effect (c : Context) : Call → List ℕ → Reply → Slot → Type 0 where
  stays : {request : Call} {bytes : List ℕ} {reply : Reply} → IsPlain c request reply → Effect c request bytes reply (Some c)
  closes : {bytes : List ℕ} → c.running ≡ None → Effect c Close bytes Done None
  has_events : {request : Call} {bytes : List ℕ} {reply : Reply} (events : EventState) → IsPlain c request reply → Effect c request bytes reply (Some (record c { events = events }))
  has_rates : {id value : ℕ} {bytes : List ℕ} (rates : RunRates) → Effect c (SetCtrl id value) bytes Done (Some (record c { rates = rates }))
  has_out_format :
      {want : Format} {bytes : List ℕ} {reply : Format} (codec : CodecState) (geometry : Option Geometry) → buffer_count c.out ≤ 0
      → buffer_count c.cap ≤ 0 → CodecAfterFormat c.kind c.codec codec c.geometry geometry
      → Effect c (SetFmt Out want) bytes (Fmt reply) (Some (record c { formats = formats_for c.kind Out c.formats want; codec = codec; geometry = geometry }))
  has_cap_format : {want : Format} {bytes : List ℕ} {reply : Format} → buffer_count c.cap ≤ 0 → Effect c (SetFmt Cap want) bytes (Fmt reply) (Some (record c { formats = formats_for c.kind Cap c.formats want }))
  has_out_buffers :
      {count : ℕ} {bytes : List ℕ} {reply : ℕ} (size : ℕ) (codec : CodecState) (geometry : Option Geometry) → c.out.streams ≡ false
      → CodecAfterBuffers c.kind c.codec codec c.geometry geometry
      → Effect c (ReqBufs Out count) bytes (Count reply) (Some (record c { out = reqbufs_after c.out count size; codec = codec; geometry = geometry }))
  has_cap_buffers : {count : ℕ} {bytes : List ℕ} {reply : ℕ} (size : ℕ) → c.cap.streams ≡ false → Effect c (ReqBufs Cap count) bytes (Count reply) (Some (record c { cap = reqbufs_after c.cap count size }))
  adds_out : {count size first added : ℕ} {bytes : List ℕ} → Effect c (CreateBufs Out count size) bytes (Created first added) (Some (record c { out = create_after c.out count size }))
  adds_cap : {count size first added : ℕ} {bytes : List ℕ} → Effect c (CreateBufs Cap count size) bytes (Created first added) (Some (record c { cap = create_after c.cap count size }))
  queues_out :
      {index used : ℕ} {stamp : Stamp} {bytes : List ℕ} (b : Buffer) → with_index index c.out.held ≡ Some b
      → Effect c (QBuf Out index used stamp) bytes Done (Some (record c { out = queue_held c.out index (Some b) used stamp bytes }))
  queues_cap :
      {index used : ℕ} {stamp : Stamp} {bytes : List ℕ} (b : Buffer) (y : Context) → with_index index c.cap.held ≡ Some b
      → Settles (record c { cap = queue_held c.cap index (Some b) used stamp bytes }) y → Effect c (QBuf Cap index used stamp) bytes Done (Some y)
  takes_out : {block : Bool} {bytes : List ℕ} (b : Buffer) (rest : List Buffer) → c.out.done ≡ b ∷ rest → Effect c (DqBuf Out block) bytes (taken b) (Some (record c { out = take_front c.out (b ∷ rest) }))
  takes_cap :
      {block : Bool} {bytes : List ℕ} (b : Buffer) (rest : List Buffer) → c.cap.done ≡ b ∷ rest → is_stopped c.phase ≡ false
      → (is_empty rest ≡ true → is_last c.phase ≡ false)
      → Effect c (DqBuf Cap block) bytes (taken b) (Some (record c { cap = take_front c.cap (b ∷ rest) }))
  takes_last :
      {block : Bool} {bytes : List ℕ} (b : Buffer) (cause : Cause) (mark : Option ℕ) → c.cap.done ≡ b ∷ [] → c.phase ≡ last cause
      → MarkAfterLast cause c.mark mark
      → Effect c (DqBuf Cap block) bytes (taken b) (Some (record c { cap = take_front c.cap (b ∷ []); phase = stopped cause; mark = mark }))
  streams_out : {bytes : List ℕ} → Effect c (StreamOn Out) bytes Done (Some (record c { out = streamon_after c.out }))
  streams_cap : {bytes : List ℕ} (y : Context) → Settles (record c { cap = streamon_after c.cap }) y → Effect c (StreamOn Cap) bytes Done (Some y)
  stops_out :
      {bytes : List ℕ} (codec : CodecState) → c.running ≡ None → CodecAfterOutput c.kind c.codec codec
      → Effect c (StreamOff Out) bytes Done (Some (record c { out = streamoff_after c.out; mark = None; phase = without_drain_stop c.phase; codec = codec }))
  stops_cap :
      {bytes : List ℕ} (codec : CodecState) → c.running ≡ None → c.cap.streams ≡ true → CodecAfterCapture c.kind c.codec codec
      → Effect c (StreamOff Cap) bytes Done (Some (record c { cap = streamoff_after c.cap; mark = mark_after_restart c.phase c.mark; phase = run; codec = codec }))
  rests_cap : {bytes : List ℕ} → c.running ≡ None → c.cap.streams ≡ false → Effect c (StreamOff Cap) bytes Done (Some (record c { cap = streamoff_after c.cap }))
  sets_mark :
      {request : Call} {bytes : List ℕ} (y : Context) → IsPlain c request Done → is_stop_call request ≡ true → both_stream c ≡ true → c.mark ≡ None
      → is_stopped_by_drain c.phase ≡ false → Settles (record c { mark = Some c.out.next_ordinal }) y → Effect c request bytes Done (Some y)
  starts :
      {request : Call} {bytes : List ℕ} (y : Context) → IsPlain c request Done → is_command request ≡ true → both_stream c ≡ true
      → start_is_early c.phase c.mark ≡ false → Settles (record c { phase = run }) y → Effect c request bytes Done (Some y)

-- Refusals

refused_split : (t : Bool) (e : Errno) (o : Option Errno) → refuse_if t e o ≡ None → (t ≡ false) × (o ≡ None)
refused_split true e o p = absurd (cc)
refused_split false e o p = (refl, p)

refused_reset : (c : Context) (request : Call) (e : Errno) → call_resets c request (Refused e) ≡ false
refused_reset c (StreamOff side) e = refl
refused_reset c (ReqBufs side count) e = refl
refused_reset c (SetFmt side want) e = refl
refused_reset c request e = refl

refused_take : (request : Call) (e : Errno) → takes_a_buffer request (Refused e) ≡ false
refused_take (DqBuf Out block) e = refl
refused_take (DqBuf Cap block) e = refl
refused_take request e = refl

blocked_reset : (c : Context) (request : Call) → call_resets c request Blocked ≡ false
blocked_reset c (StreamOff side) = refl
blocked_reset c (ReqBufs side count) = refl
blocked_reset c (SetFmt side want) = refl
blocked_reset c request = refl

blocked_take : (request : Call) → takes_a_buffer request Blocked ≡ false
blocked_take (DqBuf Out block) = refl
blocked_take (DqBuf Cap block) = refl
blocked_take request = refl

refuses : (c : Context) (request : Call) (bytes : List ℕ) (e : Errno) → Effect c request bytes (Refused e) (Some c)
refuses c request bytes e = stays (record { no_reset = refused_reset c request e; no_take = refused_take request e })

blocks : (c : Context) (request : Call) (bytes : List ℕ) → Effect c request bytes Blocked (Some c)
blocks c request bytes = stays (record { no_reset = blocked_reset c request; no_take = blocked_take request })

Of : Context → Call → List ℕ → Answer → Type 0
Of c request bytes a = Effect c request bytes a.reply a.slot

unless_of : (c : Context) (request : Call) (bytes : List ℕ) (o : Option Errno) (a : Answer) → (o ≡ None → Of c request bytes a) → Of c request bytes (unless c o a)
unfolding Of
unless_of c request bytes None a h = h refl
unless_of c request bytes (Some e) a h = refuses c request bytes e

found_of : (c : Context) (request : Call) (bytes : List ℕ) (found : Bool) (a : Answer) → Of c request bytes a → Of c request bytes (if_found c found a)
unfolding Of
found_of c request bytes true a h = h
found_of c request bytes false a h = refuses c request bytes NoMem

running_of : (c : Context) (request : Call) (bytes : List ℕ) (b : Bool) (a : Answer) → (b ≡ true → Of c request bytes a) → Of c request bytes (cond b a (unchanged c Blocked))
unfolding Of
running_of c request bytes true a h = h refl
running_of c request bytes false a h = blocks c request bytes

block_of : (c : Context) (request : Call) (bytes : List ℕ) (o : Option Errno) (block : Bool) (a : Answer) → (o ≡ None → Of c request bytes a) → Of c request bytes (unless_or_block c o block a)
unfolding Of
block_of c request bytes None block a h = h refl
block_of c request bytes (Some Again) true a h = blocks c request bytes
block_of c request bytes (Some Again) false a h = refuses c request bytes Again
block_of c request bytes (Some NoEnt) true a h = blocks c request bytes
block_of c request bytes (Some NoEnt) false a h = refuses c request bytes NoEnt
block_of c request bytes (Some NoMem) block a h = refuses c request bytes NoMem
block_of c request bytes (Some Busy) block a h = refuses c request bytes Busy
block_of c request bytes (Some Inval) block a h = refuses c request bytes Inval
block_of c request bytes (Some NoTty) block a h = refuses c request bytes NoTty
block_of c request bytes (Some Pipe) block a h = refuses c request bytes Pipe

either : (c : Context) (request : Call) (bytes : List ℕ) (b : Bool) (a d : Answer) → (b ≡ true → Of c request bytes a) → (b ≡ false → Of c request bytes d) → Of c request bytes (cond b a d)
either c request bytes true a d h k = h refl
either c request bytes false a d h k = k refl

-- a settled effect stays as it is
settled_of : (c x : Context) (request : Call) (bytes : List ℕ) (reply : Reply) → IsSettled x → Effect c request bytes reply (Some x) → Of c request bytes (answered x reply)
unfolding Of
settled_of c x request bytes reply s e =
    subst (λ y. Effect c request bytes reply (Some y)) (sym ((settles_once x).again s)) e

none_is : (o : Option Running) → is_none o ≡ true → o ≡ None
none_is None e = refl
none_is (Some r) e = absurd (false≢true e)

no_mark : (o : Option ℕ) → is_some o ≡ false → o ≡ None
no_mark None e = refl
no_mark (Some m) e = absurd (false≢true (sym e))

-- Formats

desc_of : (c : Context) (side : Side) (index : ℕ) (bytes : List ℕ) (o : Option Fourcc) → Of c (EnumFmt side index) bytes (desc_answer c o)
unfolding Of
desc_of c side index bytes None = refuses c (EnumFmt side index) bytes Inval
desc_of c side index bytes (Some f) = stays (record { no_reset = refl; no_take = refl })

set_out_of :
    (c : Context) (kind : Kind) (want reply : Format) (bytes : List ℕ) → c.kind ≡ kind → buffer_count c.out ≤ 0 → buffer_count c.cap ≤ 0
    → IsSettled c
    → Of c (SetFmt Out want) bytes (answered (after_new_format kind Out (record c { formats = formats_for c.kind Out c.formats want })) (Fmt reply))
set_out_of c Copy want reply bytes k o q s =
    settled_of c (record c { formats = formats_for c.kind Out c.formats want }) (SetFmt Out want) bytes (Fmt reply)
    (record { noted = s.noted; given = s.given })
    (has_out_format c.codec c.geometry o q (subst (λ d. CodecAfterFormat d c.codec c.codec c.geometry c.geometry) (sym k) (refl, refl)))
set_out_of c Enc want reply bytes k o q s =
    settled_of c (record c { formats = formats_for c.kind Out c.formats want; codec = reset c.codec }) (SetFmt Out want) bytes (Fmt reply)
    (record { noted = s.noted; given = s.given })
    (has_out_format (reset c.codec) c.geometry o q (subst (λ d. CodecAfterFormat d c.codec (reset c.codec) c.geometry c.geometry) (sym k) (refl, refl)))
set_out_of c Dec want reply bytes k o q s =
    settled_of c (record c { formats = formats_for c.kind Out c.formats want; geometry = None }) (SetFmt Out want) bytes (Fmt reply)
    (record { noted = s.noted; given = s.given })
    (has_out_format c.codec None o q (subst (λ d. CodecAfterFormat d c.codec c.codec c.geometry None) (sym k) (refl, refl)))

set_cap_of :
    (c : Context) (kind : Kind) (want reply : Format) (bytes : List ℕ) → buffer_count c.cap ≤ 0 → IsSettled c
    → Of c (SetFmt Cap want) bytes (answered (after_new_format kind Cap (record c { formats = formats_for c.kind Cap c.formats want })) (Fmt reply))
set_cap_of c Copy want reply bytes q s =
    settled_of c (record c { formats = formats_for c.kind Cap c.formats want }) (SetFmt Cap want) bytes (Fmt reply) (record { noted = s.noted; given = s.given }) (has_cap_format q)
set_cap_of c Enc want reply bytes q s =
    settled_of c (record c { formats = formats_for c.kind Cap c.formats want }) (SetFmt Cap want) bytes (Fmt reply) (record { noted = s.noted; given = s.given }) (has_cap_format q)
set_cap_of c Dec want reply bytes q s =
    settled_of c (record c { formats = formats_for c.kind Cap c.formats want }) (SetFmt Cap want) bytes (Fmt reply) (record { noted = s.noted; given = s.given }) (has_cap_format q)

set_of : (c : Context) (side : Side) (want : Format) (bytes : List ℕ) → IsSettled c → Of c (SetFmt side want) bytes (set_answer c side want)
set_of c Out want bytes s =
    unless_of c (SetFmt Out want) bytes (set_refusal c Out) _ (λ (p : set_refusal c Out ≡ None).
    let t = (refused_split (nat_lt 0 (buffer_count c.out) || nat_lt 0 (buffer_count c.cap)) Busy None p).0 in
    let both = or_parts (nat_lt 0 (buffer_count c.out)) (nat_lt 0 (buffer_count c.cap)) t in
    set_out_of c c.kind want _ bytes refl (ltb-false 0 (buffer_count c.out) both.0) (ltb-false 0 (buffer_count c.cap) both.1) s)
set_of c Cap want bytes s =
    unless_of c (SetFmt Cap want) bytes (set_refusal c Cap) _ (λ (p : set_refusal c Cap ≡ None). set_cap_of c c.kind want _ bytes (ltb-false 0 (buffer_count c.cap) (refused_split (nat_lt 0 (buffer_count c.cap)) Busy None p).0) s)

-- ReqBufs and CreateBufs

drained_mark : (ready : List Buffer) (mark : Option ℕ) (b : Bool) → is_drained ready mark ≡ b → (is_some mark ≡ true → b ≡ false) → b ≡ false
drained_mark ready None b e h = sym e
drained_mark ready (Some m) b e h = h refl

no_stream : (p s r d : Bool) → d ≡ false → (p && (s && (r && d))) ≡ false
no_stream true true true d e = e
no_stream true true false d e = refl
no_stream true false r d e = refl
no_stream false s r d e = refl

no_longer : {A : Type 0} → (b : Bool) → b ≡ true → b ≡ false → A
no_longer true p q = absurd (false≢true (sym q))
no_longer false p q = absurd (false≢true p)

-- where OUTPUT does not stream there is no mark, so nothing is put off
resting_out : (c x : Context) → IsOrdered c → c.out.streams ≡ false → x.phase ≡ c.phase → x.mark ≡ c.mark → x.cap ≡ c.cap → IsSettled x
resting_out c x s o p m k =
    record {
      noted =
          no_stream (is_run x.phase) x.cap.streams (is_none x.running) (is_drained x.out.ready x.mark)
          (drained_mark x.out.ready x.mark (is_drained x.out.ready x.mark) refl (λ e. no_longer c.out.streams (s.firm.marked (ap is_some (sym m) ∙ e)) o));
      given = ap (λ q. last_not_given q x.cap.ready) p ∙ (ap (λ q. last_not_given c.phase q.ready) k ∙ s.settled.given);
    }

new_out_of :
    (c : Context) (kind : Kind) (count size reply : ℕ) (bytes : List ℕ) → c.kind ≡ kind → c.out.streams ≡ false → IsOrdered c
    → Of c (ReqBufs Out count) bytes (answered (after_new_buffers kind Out (record c { out = reqbufs_after c.out count size })) (Count reply))
new_out_of c Copy count size reply bytes k o s =
    let x = record c { out = reqbufs_after c.out count size } in
    settled_of c x (ReqBufs Out count) bytes (Count reply) (resting_out c x s o refl refl refl) (has_out_buffers size c.codec c.geometry o (subst (λ d. CodecAfterBuffers d c.codec c.codec c.geometry c.geometry) (sym k) (refl, refl)))
new_out_of c Enc count size reply bytes k o s =
    let x = record c { out = reqbufs_after c.out count size; codec = reset c.codec } in
    settled_of c x (ReqBufs Out count) bytes (Count reply) (resting_out c x s o refl refl refl)
    (has_out_buffers size (reset c.codec) c.geometry o (subst (λ d. CodecAfterBuffers d c.codec (reset c.codec) c.geometry c.geometry) (sym k) (refl, refl)))
new_out_of c Dec count size reply bytes k o s =
    let x = record c { out = reqbufs_after c.out count size; codec = reset c.codec; geometry = None } in
    settled_of c x (ReqBufs Out count) bytes (Count reply) (resting_out c x s o refl refl refl) (has_out_buffers size (reset c.codec) None o (subst (λ d. CodecAfterBuffers d c.codec (reset c.codec) c.geometry None) (sym k) (refl, refl)))

-- where CAPTURE does not stream the phase is Run, and nothing is put off
run_again : (c : Context) (b : Bool) → is_run c.phase ≡ b → IsSoundButUnsettled c → c.cap.streams ≡ false → b ≡ true
run_again c true e f o = refl
run_again c false e f o = no_longer c.cap.streams (f.stopping e) o

not_held_back : (p : PhaseState) (ready : List Buffer) → is_run p ≡ true → last_not_given p ready ≡ false
not_held_back run ready e = refl
not_held_back (owe cause) ready e = absurd (false≢true e)
not_held_back (last cause) ready e = refl
not_held_back (stopped cause) ready e = refl

not_streaming : (p s r : Bool) → s ≡ false → (p && (s && r)) ≡ false
not_streaming true true r e = absurd (false≢true (sym e))
not_streaming true false r e = refl
not_streaming false s r e = refl

pub resting_cap : (x : Context) → is_run x.phase ≡ true → x.cap.streams ≡ false → IsSettled x
resting_cap x p o =
    record { noted = not_streaming (is_run x.phase) x.cap.streams _ o; given = not_held_back x.phase x.cap.ready p }

new_cap_of :
    (c : Context) (kind : Kind) (count size reply : ℕ) (bytes : List ℕ) → c.cap.streams ≡ false → IsOrdered c
    → Of c (ReqBufs Cap count) bytes (answered (after_new_buffers kind Cap (record c { cap = reqbufs_after c.cap count size })) (Count reply))
new_cap_of c Copy count size reply bytes o s =
    let x = record c { cap = reqbufs_after c.cap count size } in
    settled_of c x (ReqBufs Cap count) bytes (Count reply) (resting_cap x (run_again c (is_run c.phase) refl s.firm o) o) (has_cap_buffers size o)
new_cap_of c Enc count size reply bytes o s =
    let x = record c { cap = reqbufs_after c.cap count size } in
    settled_of c x (ReqBufs Cap count) bytes (Count reply) (resting_cap x (run_again c (is_run c.phase) refl s.firm o) o) (has_cap_buffers size o)
new_cap_of c Dec count size reply bytes o s =
    let x = record c { cap = reqbufs_after c.cap count size } in
    settled_of c x (ReqBufs Cap count) bytes (Count reply) (resting_cap x (run_again c (is_run c.phase) refl s.firm o) o) (has_cap_buffers size o)

reqbufs_of : (c : Context) (side : Side) (count : ℕ) (bytes : List ℕ) (found : Bool) → IsOrdered c → Of c (ReqBufs side count) bytes (reqbufs_answer c side count found)
reqbufs_of c Out count bytes found s =
    unless_of c (ReqBufs Out count) bytes (refuse_if c.out.streams Busy None) _ (λ (p : refuse_if c.out.streams Busy None ≡ None).
    found_of c (ReqBufs Out count) bytes found _ (new_out_of c c.kind count (sizeimage c Out) (min count most_buffers) bytes refl (refused_split c.out.streams Busy None p).0 s))
reqbufs_of c Cap count bytes found s =
    unless_of c (ReqBufs Cap count) bytes (refuse_if c.cap.streams Busy None) _ (λ (p : refuse_if c.cap.streams Busy None ≡ None).
    found_of c (ReqBufs Cap count) bytes found _ (new_cap_of c c.kind count (sizeimage c Cap) (min count most_buffers) bytes (refused_split c.cap.streams Busy None p).0 s))

create_of : (c : Context) (side : Side) (count size : ℕ) (bytes : List ℕ) (found : Bool) → IsSettled c → Of c (CreateBufs side count size) bytes (create_answer c side count size found)
create_of c Out count size bytes found s =
    let x = record c { out = create_after c.out count size } in
    let a = answered x (Created (buffer_count c.out) (created c.out count)) in
    unless_of c (CreateBufs Out count size) bytes (create_refusal c.out count size) (if_found c found a) (λ p.
    found_of c (CreateBufs Out count size) bytes found a
    (settled_of c x (CreateBufs Out count size) bytes (Created (buffer_count c.out) (created c.out count)) (record { noted = s.noted; given = s.given }) adds_out))
create_of c Cap count size bytes found s =
    let x = record c { cap = create_after c.cap count size } in
    let a = answered x (Created (buffer_count c.cap) (created c.cap count)) in
    unless_of c (CreateBufs Cap count size) bytes (create_refusal c.cap count size) (if_found c found a) (λ p.
    found_of c (CreateBufs Cap count size) bytes found a
    (settled_of c x (CreateBufs Cap count size) bytes (Created (buffer_count c.cap) (created c.cap count)) (record { noted = s.noted; given = s.given }) adds_cap))

-- an answer that changes nothing
query_of : (c : Context) (side : Side) (index : ℕ) (bytes : List ℕ) (o : Option Reply) → Of c (QueryBuf side index) bytes (query_answer c o)
unfolding Of
query_of c side index bytes None = refuses c (QueryBuf side index) bytes Inval
query_of c side index bytes (Some reply) = stays (record { no_reset = refl; no_take = refl })

-- QBuf

-- the buffer that is queued is held
pub held_there : (side : Side) (o : Option Buffer) (used least : ℕ) → held_refusal side o used least ≡ None → (b : Buffer) × (o ≡ Some b)
held_there side None used least p = absurd (cc)
held_there side (Some b) used least p = (b, refl)

pub queued_ordinal : (side : Side) (b : Buffer) (used : ℕ) (stamp : Stamp) (bytes : List ℕ) (ordinal : ℕ) → (queued_buffer side b used stamp bytes ordinal).ordinal ≡ ordinal
queued_ordinal Out b used stamp bytes ordinal = refl
queued_ordinal Cap b used stamp bytes ordinal = refl

or_false : (a b : Bool) → b ≡ false → (a || b) ≡ a
or_false true b e = refl
or_false false b e = e

-- one ready buffer more that is queued after the mark
pub drained_more : (ready : List Buffer) (x : Buffer) (mark : Option ℕ) (next : ℕ) → x.ordinal ≡ next → MarkIsQueued mark next → is_drained (ready ++ x ∷ []) mark ≡ is_drained ready mark
drained_more ready x None next o p = refl
drained_more ready x (Some m) next o p =
    ap not (list_any-append (λ b. nat_lt b.ordinal m) ready (x ∷ []) ∙ or_false (has_before ready m) (nat_lt x.ordinal m || false) (ap (λ b. b || false) (ap (λ n. nat_lt n m) o ∙ le-ltb next m p)))

queue_out_of :
    (c : Context) (index used : ℕ) (stamp : Stamp) (bytes : List ℕ) (b : Buffer) → with_index index c.out.held ≡ Some b → IsOrdered c
    → Of c (QBuf Out index used stamp) bytes (answered (record c { out = queue_held c.out index (Some b) used stamp bytes }) Done)
queue_out_of c index used stamp bytes b e s =
    let x = queued_buffer c.out.side b used stamp bytes c.out.next_ordinal in
    settled_of c (record c { out = queue_held c.out index (Some b) used stamp bytes }) (QBuf Out index used stamp) bytes Done
    (record {
      noted =
          ap (λ d. is_run c.phase && (c.cap.streams && (is_none c.running && d)))
          (drained_more c.out.ready x c.mark c.out.next_ordinal (queued_ordinal c.out.side b used stamp bytes c.out.next_ordinal) s.firm.queued)
          ∙ s.settled.noted;
      given = s.settled.given;
    })
    (queues_out b e)

queue_side_of :
    (c : Context) (side : Side) (index used : ℕ) (stamp : Stamp) (bytes : List ℕ) (b : Buffer) → with_index index (queue_of c side).held ≡ Some b
    → IsOrdered c
    → Of c (QBuf side index used stamp) bytes (answered (with_queue c side (queue_held (queue_of c side) index (with_index index (queue_of c side).held) used stamp bytes)) Done)
unfolding Of
queue_side_of c Out index used stamp bytes b e s =
    subst (λ o. Of c (QBuf Out index used stamp) bytes (answered (record c { out = queue_held c.out index o used stamp bytes }) Done)) (sym e) (queue_out_of c index used stamp bytes b e s)
queue_side_of c Cap index used stamp bytes b e s =
    subst (λ o. Of c (QBuf Cap index used stamp) bytes (answered (record c { cap = queue_held c.cap index o used stamp bytes }) Done)) (sym e)
    (queues_cap b _ e (settle_is (record c { cap = queue_held c.cap index (Some b) used stamp bytes })))

qbuf_of : (c : Context) (side : Side) (index used : ℕ) (stamp : Stamp) (bytes : List ℕ) → IsOrdered c → Of c (QBuf side index used stamp) bytes (qbuf_answer c side index used stamp bytes)
qbuf_of c side index used stamp bytes s =
    let q = queue_of c side in
    let a = answered (with_queue c side (qbuf_after q index used stamp bytes)) Done in
    let r = refuse_if (is_no_whole_picture c side used) Inval None in
    unless_of c (QBuf side index used stamp) bytes (held_refusal q.side (with_index index q.held) used (sizeimage c side)) (unless c r a)
    (λ (p : held_refusal q.side (with_index index q.held) used (sizeimage c side) ≡ None).
    let b = held_there q.side (with_index index q.held) used (sizeimage c side) p in unless_of c (QBuf side index used stamp) bytes r a (λ t. queue_side_of c side index used stamp bytes b.0 b.1 s))

-- DqBuf

take_out_of :
    (c : Context) (block : Bool) (bytes : List ℕ) (b : Buffer) (rest : List Buffer) → c.out.done ≡ b ∷ rest → IsSettled c
    → Effect c (DqBuf Out block) bytes (taken b) (Some (settle (record c { out = take_front c.out (b ∷ rest) })))
unfolding Of
take_out_of c block bytes b rest d s =
    settled_of c (record c { out = take_front c.out (b ∷ rest) }) (DqBuf Out block) bytes (taken b) (record { noted = s.noted; given = s.given }) (takes_out b rest d)

kept_cap_of :
    (c : Context) (block : Bool) (bytes : List ℕ) (b : Buffer) (rest : List Buffer) → c.cap.done ≡ b ∷ rest → is_stopped c.phase ≡ false
    → (is_empty rest ≡ true → is_last c.phase ≡ false) → IsSettled c
    → Effect c (DqBuf Cap block) bytes (taken b) (Some (settle (record c { cap = take_front c.cap (b ∷ rest) })))
unfolding Of
kept_cap_of c block bytes b rest d n l s =
    settled_of c (record c { cap = take_front c.cap (b ∷ rest) }) (DqBuf Cap block) bytes (taken b) (record { noted = s.noted; given = s.given }) (takes_cap b rest d n l)

last_cap_of :
    (c : Context) (block : Bool) (bytes : List ℕ) (b : Buffer) (cause : Cause) (mark : Option ℕ) → c.cap.done ≡ b ∷ [] → c.phase ≡ last cause
    → MarkAfterLast cause c.mark mark
    → Effect c (DqBuf Cap block) bytes (taken b) (Some (settle (record c { cap = take_front c.cap (b ∷ []); phase = stopped cause; mark = mark })))
unfolding Of
last_cap_of c block bytes b cause mark d p m =
    settled_of c (record c { cap = take_front c.cap (b ∷ []); phase = stopped cause; mark = mark }) (DqBuf Cap block) bytes (taken b) (record { noted = refl; given = refl }) (takes_last b cause mark d p m)

take_cap_of :
    (c : Context) (block : Bool) (bytes : List ℕ) (b : Buffer) (rest : List Buffer) (phase : PhaseState) → c.phase ≡ phase → c.cap.done ≡ b ∷ rest
    → is_stopped c.phase ≡ false → IsSettled c
    → Effect c (DqBuf Cap block) bytes (taken b) (Some (settle (stop_at_last (record c { cap = take_front c.cap (b ∷ rest) }) phase (is_empty rest))))
take_cap_of c block bytes b [] run p d n s = kept_cap_of c block bytes b [] d n (λ e. ap is_last p) s
take_cap_of c block bytes b [] (owe cause) p d n s = kept_cap_of c block bytes b [] d n (λ e. ap is_last p) s
take_cap_of c block bytes b [] (last drain) p d n s = last_cap_of c block bytes b drain None d p refl
take_cap_of c block bytes b [] (last change) p d n s = last_cap_of c block bytes b change c.mark d p refl
take_cap_of c block bytes b [] (stopped cause) p d n s = kept_cap_of c block bytes b [] d n (λ e. ap is_last p) s
take_cap_of c block bytes b (x ∷ rest) run p d n s =
    kept_cap_of c block bytes b (x ∷ rest) d n (λ (e : false ≡ true). absurd (false≢true e)) s
take_cap_of c block bytes b (x ∷ rest) (owe cause) p d n s =
    kept_cap_of c block bytes b (x ∷ rest) d n (λ (e : false ≡ true). absurd (false≢true e)) s
take_cap_of c block bytes b (x ∷ rest) (last drain) p d n s =
    kept_cap_of c block bytes b (x ∷ rest) d n (λ (e : false ≡ true). absurd (false≢true e)) s
take_cap_of c block bytes b (x ∷ rest) (last change) p d n s =
    kept_cap_of c block bytes b (x ∷ rest) d n (λ (e : false ≡ true). absurd (false≢true e)) s
take_cap_of c block bytes b (x ∷ rest) (stopped cause) p d n s =
    kept_cap_of c block bytes b (x ∷ rest) d n (λ (e : false ≡ true). absurd (false≢true e)) s

take_of : (c : Context) (side : Side) (block : Bool) (bytes : List ℕ) (ds : List Buffer) → (queue_of c side).done ≡ ds → is_ended c side ≡ false → IsSettled c → Of c (DqBuf side block) bytes (taken_answer c side ds)
unfolding Of
take_of c side block bytes [] d n s = refuses c (DqBuf side block) bytes Again
take_of c Out block bytes (b ∷ rest) d n s =
    subst (λ l. Effect c (DqBuf Out block) bytes (taken b) (Some (settle (record c { out = take_front c.out l })))) (sym d) (take_out_of c block bytes b rest d s)
take_of c Cap block bytes (b ∷ rest) d n s =
    subst (λ l. Effect c (DqBuf Cap block) bytes (taken b) (Some (settle (after_taking (record c { cap = take_front c.cap l }) Cap)))) (sym d) (take_cap_of c block bytes b rest c.phase refl d n s)

dqbuf_of : (c : Context) (side : Side) (block : Bool) (bytes : List ℕ) → IsSettled c → Of c (DqBuf side block) bytes (unless_or_block c (dqbuf_refusal (queue_of c side) (is_ended c side)) block (taken_answer c side (queue_of c side).done))
dqbuf_of c side block bytes s =
    let q = queue_of c side in
    block_of c (DqBuf side block) bytes (dqbuf_refusal q (is_ended c side)) block (taken_answer c side q.done)
    (λ (p : dqbuf_refusal q (is_ended c side) ≡ None). take_of c side block bytes q.done refl (refused_split (is_ended c side) Pipe _ (refused_split (not q.streams) Inval _ p).1).0 s)

-- Streaming

on_of : (c : Context) (side : Side) (bytes : List ℕ) → IsSettled c → Of c (StreamOn side) bytes (streamon_answer c side)
unfolding Of
on_of c Out bytes s =
    let x = record c { out = streamon_after c.out } in
    unless_of c (StreamOn Out) bytes (streamon_refusal c.out (sizeimage c Out)) (answered x Done) (λ p. settled_of c x (StreamOn Out) bytes Done (record { noted = s.noted; given = s.given }) streams_out)
on_of c Cap bytes s =
    let x = record c { cap = streamon_after c.cap } in
    unless_of c (StreamOn Cap) bytes (streamon_refusal c.cap (sizeimage c Cap)) (answered x Done) (λ p. streams_cap _ (settle_is x))

off_held_back : (p : PhaseState) (ready : List Buffer) → last_not_given p ready ≡ false → last_not_given (without_drain_stop p) ready ≡ false
off_held_back run ready e = refl
off_held_back (owe drain) ready e = refl
off_held_back (owe change) ready e = e
off_held_back (last drain) ready e = refl
off_held_back (last change) ready e = refl
off_held_back (stopped drain) ready e = refl
off_held_back (stopped change) ready e = refl

off_settled : (c : Context) (codec : CodecState) → IsSettled c → IsSettled (record c { out = streamoff_after c.out; mark = None; phase = without_drain_stop c.phase; codec = codec })
off_settled c codec s =
    record { noted = no_stream (is_run (without_drain_stop c.phase)) c.cap.streams (is_none c.running) false refl; given = off_held_back c.phase c.cap.ready s.given }

off_out_of :
    (c : Context) (kind : Kind) (bytes : List ℕ) → c.kind ≡ kind → c.running ≡ None → IsSettled c
    → Of c (StreamOff Out) bytes (answered (after_output_off kind (record c { out = streamoff_after c.out; mark = None; phase = without_drain_stop c.phase })) Done)
off_out_of c Copy bytes k n s =
    settled_of c _ (StreamOff Out) bytes Done (off_settled c c.codec s) (stops_out c.codec n (subst (λ d. CodecAfterOutput d c.codec c.codec) (sym k) refl))
off_out_of c Enc bytes k n s =
    settled_of c _ (StreamOff Out) bytes Done (off_settled c c.codec s) (stops_out c.codec n (subst (λ d. CodecAfterOutput d c.codec c.codec) (sym k) refl))
off_out_of c Dec bytes k n s =
    settled_of c _ (StreamOff Out) bytes Done (off_settled c (reset c.codec) s) (stops_out (reset c.codec) n (subst (λ d. CodecAfterOutput d c.codec (reset c.codec)) (sym k) refl))

off_cap_of :
    (c : Context) (kind : Kind) (bytes : List ℕ) → c.kind ≡ kind → c.running ≡ None → c.cap.streams ≡ true
    → Of c (StreamOff Cap) bytes (answered (after_capture_off kind (record c { cap = streamoff_after c.cap; mark = mark_after_restart c.phase c.mark; phase = run })) Done)
off_cap_of c Copy bytes k n t =
    settled_of c _ (StreamOff Cap) bytes Done
    (resting_cap (record c { cap = streamoff_after c.cap; mark = mark_after_restart c.phase c.mark; phase = run }) refl refl)
    (stops_cap c.codec n t (subst (λ d. CodecAfterCapture d c.codec c.codec) (sym k) refl))
off_cap_of c Enc bytes k n t =
    settled_of c _ (StreamOff Cap) bytes Done
    (resting_cap (record c { cap = streamoff_after c.cap; mark = mark_after_restart c.phase c.mark; phase = run; codec = reset c.codec }) refl refl)
    (stops_cap (reset c.codec) n t (subst (λ d. CodecAfterCapture d c.codec (reset c.codec)) (sym k) refl))
off_cap_of c Dec bytes k n t =
    settled_of c _ (StreamOff Cap) bytes Done
    (resting_cap (record c { cap = streamoff_after c.cap; mark = mark_after_restart c.phase c.mark; phase = run }) refl refl)
    (stops_cap c.codec n t (subst (λ d. CodecAfterCapture d c.codec c.codec) (sym k) refl))

off_cap_split :
    (c : Context) (b : Bool) (bytes : List ℕ) → c.cap.streams ≡ b → c.running ≡ None → IsOrdered c
    → Of c (StreamOff Cap) bytes
    (answered (cond b (after_capture_off c.kind (record c { cap = streamoff_after c.cap; mark = mark_after_restart c.phase c.mark; phase = run })) (record c { cap = streamoff_after c.cap })) Done)
off_cap_split c true bytes e n s = off_cap_of c c.kind bytes refl n e
off_cap_split c false bytes e n s =
    settled_of c _ (StreamOff Cap) bytes Done (resting_cap (record c { cap = streamoff_after c.cap }) (run_again c (is_run c.phase) refl s.firm e) refl) (rests_cap n e)

off_of : (c : Context) (side : Side) (bytes : List ℕ) → IsOrdered c → Of c (StreamOff side) bytes (streamoff_answer c side)
off_of c Out bytes s =
    running_of c (StreamOff Out) bytes (is_none c.running) (answered (streamoff_effect c Out) Done) (λ (n : is_none c.running ≡ true). off_out_of c c.kind bytes refl (none_is c.running n) s.settled)
off_of c Cap bytes s =
    running_of c (StreamOff Cap) bytes (is_none c.running) (answered (streamoff_effect c Cap) Done) (λ (n : is_none c.running ≡ true). off_cap_split c c.cap.streams bytes refl (none_is c.running n) s)

-- STOP and START

stop_of : (c : Context) (request : Call) (bytes : List ℕ) → IsPlain c request Done → is_stop_call request ≡ true → Of c request bytes (stop_answer c)
unfolding Of
stop_of c request bytes n t =
    let x = record c { mark = Some c.out.next_ordinal } in
    either c request bytes (not (both_stream c)) (unchanged c Done) _ (λ e. stays n) (λ (b : not (both_stream c) ≡ false).
    either c request bytes (is_some c.mark) (refused c Busy) _ (λ e. refuses c request bytes Busy) (λ (m : is_some c.mark ≡ false).
    either c request bytes (is_stopped_by_drain c.phase) (unchanged c Done) (answered x Done) (λ e. stays n)
    (λ (d : is_stopped_by_drain c.phase ≡ false). sets_mark _ n t (not_false (both_stream c) b) (no_mark c.mark m) d (settle_is x))))

start_of : (c : Context) (request : Call) (bytes : List ℕ) → IsPlain c request Done → is_command request ≡ true → Of c request bytes (start_answer c)
unfolding Of
start_of c request bytes n i =
    let x = record c { phase = run } in
    either c request bytes (not (both_stream c)) (unchanged c Done) _ (λ e. stays n) (λ (b : not (both_stream c) ≡ false).
    either c request bytes (start_is_early c.phase c.mark) (refused c Busy) _ (λ e. refuses c request bytes Busy)
    (λ (t : start_is_early c.phase c.mark ≡ false).
    either c request bytes (not (long_enough c.cap (sizeimage c Cap))) (refused c Inval) (answered x Done) (λ e. refuses c request bytes Inval)
    (λ e. starts _ n i (not_false (both_stream c) b) t (settle_is x))))

command_of : (c : Context) (request : Call) (cmd : ℕ) (bytes : List ℕ) → IsPlain c request Done → is_command request ≡ true → ((cmd == 1) ≡ true → is_stop_call request ≡ true) → Of c request bytes (command_answer c cmd)
unfolding Of
command_of c request cmd bytes n i t =
    either c request bytes (cmd == 0) (start_answer c) _ (λ e. start_of c request bytes n i)
    (λ e. either c request bytes (cmd == 1) (stop_answer c) (refused c Inval) (λ (one : (cmd == 1) ≡ true). stop_of c request bytes n (t one)) (λ e. refuses c request bytes Inval))

-- Events and controls

event_of : (c : Context) (request : Call) (bytes : List ℕ) (o : Option Errno) (events : EventState) → IsPlain c request Done → IsSettled c → Of c request bytes (unless c o (answered (record c { events = events }) Done))
event_of c request bytes o events n s =
    let x = record c { events = events } in
    unless_of c request bytes o (answered x Done) (λ p. settled_of c x request bytes Done (record { noted = s.noted; given = s.given }) (has_events events n))

oldest_plain : (c : Context) (block : Bool) (pending : List Event) → IsPlain c (DqEvent block) (event_reply pending)
oldest_plain c block [] = record { no_reset = refl; no_take = refl }
oldest_plain c block (e ∷ rest) = record { no_reset = refl; no_take = refl }

oldest_of : (c : Context) (block : Bool) (bytes : List ℕ) (o : Option Errno) → IsSettled c → Of c (DqEvent block) bytes (unless_or_block c o block (answered (record c { events = take_event_after c.events }) (event_reply c.events.pending)))
oldest_of c block bytes o s =
    let x = record c { events = take_event_after c.events } in
    block_of c (DqEvent block) bytes o block (answered x (event_reply c.events.pending)) (λ p.
    settled_of c x (DqEvent block) bytes (event_reply c.events.pending) (record { noted = s.noted; given = s.given }) (has_events (take_event_after c.events) (oldest_plain c block c.events.pending)))

value_of : (c : Context) (id : ℕ) (bytes : List ℕ) (o : Option ℕ) → Of c (GetCtrl id) bytes (value_answer c o)
unfolding Of
value_of c id bytes None = refuses c (GetCtrl id) bytes Inval
value_of c id bytes (Some v) = stays (record { no_reset = refl; no_take = refl })

control_of : (c : Context) (id value : ℕ) (bytes : List ℕ) (o : Option RunRates) → IsSettled c → Of c (SetCtrl id value) bytes (control_answer c o)
unfolding Of
control_of c id value bytes None s = refuses c (SetCtrl id value) bytes Inval
control_of c id value bytes (Some rates) s =
    settled_of c (record c { rates = rates }) (SetCtrl id value) bytes Done (record { noted = s.noted; given = s.given }) (has_rates rates)

-- The whole table

plain : (c : Context) (request : Call) (bytes : List ℕ) (reply : Reply) → IsPlain c request reply → Of c request bytes (unchanged c reply)
unfolding Of
plain c request bytes reply n = stays n

closing : (c : Context) (bytes : List ℕ) → c.running ≡ None → Of c Close bytes (record { slot = None; reply = Done; bytes = [] })
unfolding Of
closing c bytes n = closes n

all_effects : (c : Context) (request : Call) (bytes : List ℕ) (found : Bool) → IsOrdered c → Of c request bytes (context_answer c request bytes found)
unfolding context_answer
all_effects c (Open kind) bytes found s = plain c (Open kind) bytes (Refused Busy) (record { no_reset = refl; no_take = refl })
all_effects c Close bytes found s =
    running_of c Close bytes (is_none c.running) (record { slot = None; reply = Done; bytes = [] }) (λ (n : is_none c.running ≡ true). closing c bytes (none_is c.running n))
all_effects c (EnumFmt side index) bytes found s = desc_of c side index bytes _
all_effects c (GetFmt side) bytes found s = plain c (GetFmt side) bytes _ (record { no_reset = refl; no_take = refl })
all_effects c (TryFmt side want) bytes found s = plain c (TryFmt side want) bytes _ (record { no_reset = refl; no_take = refl })
all_effects c (SetFmt side want) bytes found s = set_of c side want bytes s.settled
all_effects c (ReqBufs side count) bytes found s = reqbufs_of c side count bytes found s
all_effects c (CreateBufs side count size) bytes found s = create_of c side count size bytes found s.settled
all_effects c (QueryBuf side index) bytes found s = query_of c side index bytes _
all_effects c (QBuf side index used stamp) bytes found s = qbuf_of c side index used stamp bytes s
all_effects c (DqBuf side block) bytes found s = dqbuf_of c side block bytes s.settled
all_effects c (StreamOn side) bytes found s = on_of c side bytes s.settled
all_effects c (StreamOff side) bytes found s = off_of c side bytes s
all_effects c (Subscribe event) bytes found s =
    event_of c (Subscribe event) bytes (event_refusal c.kind event) (subscribe_after c.events event) (record { no_reset = refl; no_take = refl }) s.settled
all_effects c (Unsubscribe event) bytes found s =
    event_of c (Unsubscribe event) bytes (event_refusal c.kind event) (unsubscribe_after c.events event) (record { no_reset = refl; no_take = refl }) s.settled
all_effects c (DqEvent block) bytes found s = oldest_of c block bytes _ s.settled
all_effects c (DecCmd cmd) bytes found s =
    either c (DecCmd cmd) bytes (is_dec c.kind) (command_answer c cmd) (refused c NoTty)
    (λ e. command_of c (DecCmd cmd) cmd bytes (record { no_reset = refl; no_take = refl }) refl (λ one. one))
    (λ e. plain c (DecCmd cmd) bytes (Refused NoTty) (record { no_reset = refl; no_take = refl }))
all_effects c (EncCmd cmd) bytes found s =
    either c (EncCmd cmd) bytes (is_enc c.kind) (command_answer c cmd) (refused c NoTty)
    (λ e. command_of c (EncCmd cmd) cmd bytes (record { no_reset = refl; no_take = refl }) refl (λ one. one))
    (λ e. plain c (EncCmd cmd) bytes (Refused NoTty) (record { no_reset = refl; no_take = refl }))
all_effects c (GetCtrl id) bytes found s = value_of c id bytes _
all_effects c (SetCtrl id value) bytes found s = control_of c id value bytes _ s.settled
all_effects c Poll bytes found s = plain c Poll bytes _ (record { no_reset = refl; no_take = refl })

-- the effect of each call on an open context
pub effect_of : (c : Context) (request : Call) (bytes : List ℕ) (found : Bool) → IsOrdered c → Effect c request bytes (context_answer c request bytes found).reply (context_answer c request bytes found).slot
unfolding Of
effect_of c request bytes found s = all_effects c request bytes found s
