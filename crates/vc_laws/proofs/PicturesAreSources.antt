-- An encoder's pictures are its sources that do not wait, in order, each once. A source that is queued waits at the
-- end, a run consumes the front one, and what a StreamOff takes back was never consumed; at the end of a drain none
-- before the mark waits.
use Rattle.std.proofs.Common.{ℕ, ◌≡◌, ◌+◌, nat_lt, Bool, true, false, cond, ◌||◌, Option, Some, None, List, [], ◌∷◌, ◌++◌, refl, sym, ap, ◌∙◌, subst}
use Rattle.std.specs.List.{list_all}
use Rattle.std.proofs.lemmas.Bool.{false≢true}
use Rattle.std.proofs.lemmas.List.{append-nil, append_assoc}
use Rattle.std.proofs.lemmas.List.Elements.{filter-append}
use Rattle.std.proofs.lemmas.List.Folds.{list_all-append}
use Rattle.std.proofs.Math.Seq.{drop-append_seam}
use Rattle.vc_base.specs.declared.Stamp.{Stamp}
use Rattle.vc_base.specs.declared.Side.TheVariants.{Out}
use Rattle.vc_base.specs.declared.Kind.TheVariants.{Enc}
use Rattle.vc_base.specs.declared.Call.{Call}
use Rattle.vc_base.specs.declared.Call.TheVariants.{Open, QBuf}
use Rattle.vc_base.specs.declared.Reply.{Reply}
use Rattle.vc_base.specs.declared.Reply.TheVariants.{Done}
use Rattle.vc_base.specs.Buffers.{Buffer, QueueState, lend_front, queued_buffer, queue_held, take_front}
use Rattle.vc_defs.specs.Encoder.{EncodedFrame}
use Rattle.vc_model.specs.Coder.{Coder, CodecState}
use Rattle.vc_model.specs.Context.{Context, Slot, Running, Cause, drain, change, run, stopped, is_dec, is_enc, has_before}
use Rattle.vc_model.specs.Answer.{answer, closed_answer}
use Rattle.vc_model.specs.Runs.{front_is_due, running_of, sort_of, source_of, JobData, job_data, RunResult, encoded, run_result}
use Rattle.vc_model.specs.Solo.{SoloEvent, Called, Claims, Finishes, SoloReply, Answered, Claimed, Finished, Nothing, solo_step, solo_slot}
use Rattle.vc_model.specs.Sound.{CountsUp, HasCodec, IsOrdered, IsOrderedSlot}
use Rattle.vc_model.specs.Drains.{is_last_by_drain, done_now}
use Rattle.vc_model.proofs.PartsOfTests.{and_left}
use Rattle.vc_model.proofs.CallsKeepFirm.{idle}
use Rattle.vc_model.proofs.EventsKeepSound.{always_ordered, step_sound}
use Rattle.vc_laws.specs.Segments.{EncodedPicture, Segment, fresh_segment, call_resets, after_run, segment_of_step, segment_of_slots, segment_step, segment_after, segment_of}
use Rattle.vc_laws.specs.Drains.{before_mark, call_takes_back, took_back_by, took_back_from, took_back, ArePicturesOf, EncodesInOrder, DrainsEncodeAll}
use Rattle.vc_laws.proofs.EffectsOfCalls.{Settles, still, owes, gives, MarkAfterLast, Effect, stays, closes, has_events, has_rates, has_out_format}
use Rattle.vc_laws.proofs.EffectsOfCalls.{has_cap_format, has_out_buffers, has_cap_buffers, adds_out, adds_cap, queues_out, queues_cap, takes_out, takes_cap}
use Rattle.vc_laws.proofs.EffectsOfCalls.{takes_last, streams_out, streams_cap, stops_out, stops_cap, rests_cap, sets_mark, starts, queued_ordinal}
use Rattle.vc_laws.proofs.EffectsOfEvents.{moved_out, HasJob, Puts, puts_fault, puts_copy, puts_frame, puts_picture, puts_damage, Ends, alone, kept, ended, halts, spends, Step, calls, rests, lacks_job, claims, finishes, faults, step_of}
use Rattle.vc_laws.proofs.OpenContextsAreTidy.{IsTidy, IsRunOf, HasRun, TidySlot, KindSlot, step_kind, no_job, slot_tidy}
use Rattle.vc_laws.proofs.SegmentsGoOn.{slot_more, adds_none, goes_on, begins_anew, finished_segment, nothing_segment}
use Rattle.vc_laws.proofs.DrainsAreWhole.{is_due, all_end, counts_end, counts_due, all_due_none, filter_due, or_left, no_run_job, waiting_is, IsOutAfterFault, faulted_out, settled_out, end_drained, drain_stops, drained_before}
use Rattle.vc_laws.proofs.RetiredAreFrames.{encodes_by}

-- The pictures of a segment against its sources: those that are gone, and those that wait, the one in the job first.
record AreTaken (pictures : List EncodedPicture) (sources ws : List Buffer) (next : ℕ) (mark : Option ℕ) : Type 0 where
  pub gone : List Buffer
  pub sources_are : sources ≡ gone ++ ws
  pub pictures_are : ArePicturesOf pictures gone
  pub due : list_all (is_due mark) gone ≡ true
  pub first : ℕ
  pub counts : CountsUp sources first next

pictures_end : (ps : List EncodedPicture) (bs : List Buffer) (p : EncodedPicture) (b : Buffer) → ArePicturesOf ps bs → p.bytes ≡ b.bytes → p.stamp ≡ b.stamp → ArePicturesOf (ps ++ p ∷ []) (bs ++ b ∷ [])
pictures_end [] [] p b h e s = (e, s, tt)
pictures_end [] (x ∷ bs) p b h e s = absurd h
pictures_end (q ∷ ps) [] p b h e s = absurd h
pictures_end (q ∷ ps) (x ∷ bs) p b h e s = (h.0, h.1, pictures_end ps bs p b h.2 e s)

-- a segment that begins with these buffers ready
fresh_taken : (ready job : List Buffer) (first next : ℕ) (mark : Option ℕ) → job ≡ [] → CountsUp ready first next → AreTaken [] ready (job ++ ready) next mark
fresh_taken ready job first next mark j u =
    record { gone = []; sources_are = ap (λ l. l ++ ready) (sym j); pictures_are = tt; due = refl; first = first; counts = u }

-- one more buffer is queued
queued_taken :
    (pictures : List EncodedPicture) (sources job ready : List Buffer) (next : ℕ) (mark : Option ℕ) (x : Buffer) → x.ordinal ≡ next
    → AreTaken pictures sources (job ++ ready) next mark → AreTaken pictures (sources ++ x ∷ []) (job ++ (ready ++ x ∷ [])) (next + 1) mark
queued_taken pictures sources job ready next mark x o w =
    record {
      gone = w.gone;
      sources_are = ap (λ l. l ++ x ∷ []) w.sources_are ∙ (append_assoc w.gone (job ++ ready) (x ∷ []) ∙ ap (λ l. w.gone ++ l) (append_assoc job ready (x ∷ [])));
      pictures_are = w.pictures_are;
      due = w.due;
      first = w.first;
      counts = counts_end sources x w.first next w.counts o;
    }

-- the front buffer is consumed
consumed_taken :
    (pictures : List EncodedPicture) (sources ws : List Buffer) (next : ℕ) (mark : Option ℕ) (p : EncodedPicture) (b : Buffer) → p.bytes ≡ b.bytes
    → p.stamp ≡ b.stamp → is_due mark b ≡ true → AreTaken pictures sources (b ∷ ws) next mark → AreTaken (pictures ++ p ∷ []) sources ws next mark
consumed_taken pictures sources ws next mark p b e s d w =
    record {
      gone = w.gone ++ b ∷ [];
      sources_are = w.sources_are ∙ sym (append_assoc w.gone (b ∷ []) ws);
      pictures_are = pictures_end pictures w.gone p b w.pictures_are e s;
      due = all_end (is_due mark) w.gone b w.due d;
      first = w.first;
      counts = w.counts;
    }

-- the mark goes, or is set behind all that was queued
unmarked_taken : (pictures : List EncodedPicture) (sources ws : List Buffer) (next : ℕ) (mark : Option ℕ) → AreTaken pictures sources ws next mark → AreTaken pictures sources ws next None
unmarked_taken pictures sources ws next mark w =
    record { gone = w.gone; sources_are = w.sources_are; pictures_are = w.pictures_are; due = all_due_none w.gone; first = w.first; counts = w.counts }

marked_taken : (pictures : List EncodedPicture) (sources ws : List Buffer) (next : ℕ) (mark : Option ℕ) → AreTaken pictures sources ws next mark → AreTaken pictures sources ws next (Some next)
marked_taken pictures sources ws next mark w =
    let u = subst (λ l. CountsUp l w.first next) w.sources_are w.counts in
    record {
      gone = w.gone;
      sources_are = w.sources_are;
      pictures_are = w.pictures_are;
      due = and_left (list_all (is_due (Some next)) w.gone) (list_all (is_due (Some next)) ws) (sym (list_all-append (is_due (Some next)) w.gone ws) ∙ counts_due (w.gone ++ ws) w.first next u);
      first = w.first;
      counts = w.counts;
    }

last_taken : (pictures : List EncodedPicture) (sources ws : List Buffer) (next : ℕ) (cause : Cause) (old new : Option ℕ) → MarkAfterLast cause old new → AreTaken pictures sources ws next old → AreTaken pictures sources ws next new
last_taken pictures sources ws next drain old new m w =
    subst (AreTaken pictures sources ws next) (sym m) (unmarked_taken pictures sources ws next old w)
last_taken pictures sources ws next change old new m w = subst (AreTaken pictures sources ws next) (sym m) w

-- Steps of an encoder

abbrev IsTaken : Segment → Context → Type 0
IsTaken seg c = AreTaken seg.pictures seg.sources (c.out.job ++ c.out.ready) c.out.next_ordinal c.mark

TakenAt : Slot → Segment → Bool → Type 0
TakenAt None seg took = Unit {0}
TakenAt (Some c) seg took = c.kind ≡ Enc → took ≡ false → IsTaken seg c

is_taken : (c : Context) (seg : Segment) (took : Bool) → (took ≡ false → IsTaken seg c) → TakenAt (Some c) seg took
unfolding TakenAt
is_taken c seg took w k = w

closed_taken : (seg : Segment) (took : Bool) → TakenAt None seg took
unfolding TakenAt
closed_taken seg took = tt

not_reset : (b took back : Bool) → b ≡ false → cond b false (took || back) ≡ false → (took ≡ false) × (back ≡ false)
not_reset true took back e q = absurd (false≢true (sym e))
not_reset false took back e q = or_left took back q

-- the segment with nothing added
none_added : (seg : Segment) (y : Context) (retired : List Buffer) → IsTaken seg y → IsTaken (record seg { sources = seg.sources ++ []; retired = retired }) y
none_added seg y retired w =
    subst (λ l. AreTaken seg.pictures l (y.out.job ++ y.out.ready) y.out.next_ordinal y.mark) (sym (append-nil seg.sources)) w

-- a call that resets nothing and queues no source
called_taken :
    (coder : Coder) (seg : Segment) (took : Bool) (c y : Context) (request : Call) (bytes : List ℕ) (found : Bool) (reply : Reply) (handed : List ℕ)
    → call_resets c request reply ≡ false → y.out.ready ≡ c.out.ready → (took ≡ false → IsTaken seg y)
    → TakenAt (Some y) (segment_of_step coder seg c y (Called request bytes found) (Answered reply handed)) (took_back_by (Some c) (Some y) took (Called request bytes found) (Answered reply handed))
called_taken coder seg took c y request bytes found reply handed r e w =
    is_taken y _ _ (λ q.
    subst (λ s. IsTaken s y) (sym (goes_on coder seg c y request bytes found reply handed [] r (adds_none c y request reply e)))
    (none_added seg y (seg.retired ++ done_now c y) (w (not_reset (call_resets c request reply) took (call_takes_back request reply) r q).0)))

-- a call that resets the codec state
anew_taken :
    (coder : Coder) (seg : Segment) (took : Bool) (c y : Context) (request : Call) (bytes : List ℕ) (found : Bool) (reply : Reply) (handed : List ℕ) (first : ℕ)
    → call_resets c request reply ≡ true → y.out.job ≡ [] → CountsUp y.out.ready first y.out.next_ordinal
    → TakenAt (Some y) (segment_of_step coder seg c y (Called request bytes found) (Answered reply handed)) (took_back_by (Some c) (Some y) took (Called request bytes found) (Answered reply handed))
anew_taken coder seg took c y request bytes found reply handed first r j u =
    is_taken y _ _ (λ q. subst (λ s. IsTaken s y) (sym (begins_anew coder seg c y request bytes found reply handed r)) (fresh_taken y.out.ready y.out.job first y.out.next_ordinal y.mark j u))

-- a StreamOff on OUTPUT takes back
back_taken :
    (coder : Coder) (seg : Segment) (took : Bool) (c y : Context) (request : Call) (bytes : List ℕ) (found : Bool) (reply : Reply) (handed : List ℕ)
    → call_resets c request reply ≡ false → call_takes_back request reply ≡ true
    → TakenAt (Some y) (segment_of_step coder seg c y (Called request bytes found) (Answered reply handed)) (took_back_by (Some c) (Some y) took (Called request bytes found) (Answered reply handed))
back_taken coder seg took c y request bytes found reply handed r b =
    is_taken y _ _ (λ q. absurd (false≢true (sym (not_reset (call_resets c request reply) took (call_takes_back request reply) r q).1 ∙ b)))

settled_taken : (seg : Segment) (x y : Context) → Settles x y → (IsTaken seg x → IsTaken seg y) × (y.out.ready ≡ x.out.ready)
settled_taken seg x y still = (λ w. w, refl)
settled_taken seg x y (owes p r) = (λ w. w, refl)
settled_taken seg x y (gives cause b rest events r p) = (λ w. w, refl)

queue_taken :
    (coder : Coder) (seg : Segment) (took : Bool) (c : Context) (index used : ℕ) (stamp : Stamp) (bytes : List ℕ) (found : Bool) (handed : List ℕ) (b : Buffer)
    → (took ≡ false → IsTaken seg c)
    → TakenAt (Some (record c { out = queue_held c.out index (Some b) used stamp bytes }))
    (segment_of_step coder seg c (record c { out = queue_held c.out index (Some b) used stamp bytes }) (Called (QBuf Out index used stamp) bytes found) (Answered Done handed))
    (took_back_by (Some c) (Some (record c { out = queue_held c.out index (Some b) used stamp bytes })) took (Called (QBuf Out index used stamp) bytes found) (Answered Done handed))
queue_taken coder seg took c index used stamp bytes found handed b w =
    let x = queued_buffer c.out.side b used stamp bytes c.out.next_ordinal in
    let y = record c { out = queue_held c.out index (Some b) used stamp bytes } in
    is_taken y _ _ (λ q.
    subst (λ s. IsTaken s y)
    (sym (goes_on coder seg c y (QBuf Out index used stamp) bytes found Done handed (x ∷ []) refl (drop-append_seam c.out.ready (x ∷ []))))
    (queued_taken seg.pictures seg.sources c.out.job c.out.ready c.out.next_ordinal c.mark x (queued_ordinal c.out.side b used stamp bytes c.out.next_ordinal) (w (or_left took false q).0)))

-- the buffers that wait count up, where none is in the job
ready_counts : (c : Context) → IsOrdered c → c.out.job ≡ [] → (first : ℕ) × CountsUp c.out.ready first c.out.next_ordinal
ready_counts c s j =
    let l = s.firm.out.latest in
    (l.first, subst (λ k. CountsUp (k ++ c.out.ready) l.first c.out.next_ordinal) j l.counts)

effect_taken :
    (coder : Coder) (seg : Segment) (took : Bool) (c : Context) {request : Call} {bytes : List ℕ} {reply : Reply} {slot : Slot} (found : Bool) (handed : List ℕ)
    → IsOrdered c → c.kind ≡ Enc → (took ≡ false → IsTaken seg c) → Effect c request bytes reply slot
    → TakenAt slot (segment_of_slots coder seg (Some c) slot (Called request bytes found) (Answered reply handed))
    (took_back_by (Some c) slot took (Called request bytes found) (Answered reply handed))
effect_taken coder seg took c {request = request} {bytes = bytes} {reply = reply} found handed s k w (stays p) =
    called_taken coder seg took c c request bytes found reply handed p.no_reset refl w
effect_taken coder seg took c found handed s k w (closes p) = closed_taken _ _
effect_taken coder seg took c {request = request} {bytes = bytes} {reply = reply} found handed s k w (has_events events p) =
    called_taken coder seg took c (record c { events = events }) request bytes found reply handed p.no_reset refl w
effect_taken coder seg took c {request = request} {bytes = bytes} {reply = reply} found handed s k w (has_rates rates) =
    called_taken coder seg took c (record c { rates = rates }) request bytes found reply handed refl refl w
effect_taken coder seg took c {request = request} {bytes = bytes} {reply = reply} found handed s k w (has_out_format codec geometry o q p) =
    let j = no_job c.out o c.out.job refl in
    let u = ready_counts c s j in
    anew_taken coder seg took c _ request bytes found reply handed u.0 (ap is_enc k) j u.1
effect_taken coder seg took c {request = request} {bytes = bytes} {reply = reply} found handed s k w (has_cap_format q) =
    called_taken coder seg took c _ request bytes found reply handed refl refl w
effect_taken coder seg took c {request = request} {bytes = bytes} {reply = reply} found handed s k w (has_out_buffers size codec geometry o p) =
    anew_taken coder seg took c _ request bytes found reply handed c.out.next_ordinal (ap (λ t. is_dec t || is_enc t) k) refl refl
effect_taken coder seg took c {request = request} {bytes = bytes} {reply = reply} found handed s k w (has_cap_buffers size o) =
    called_taken coder seg took c _ request bytes found reply handed refl refl w
effect_taken coder seg took c {request = request} {bytes = bytes} {reply = reply} found handed s k w adds_out =
    called_taken coder seg took c _ request bytes found reply handed refl refl w
effect_taken coder seg took c {request = request} {bytes = bytes} {reply = reply} found handed s k w adds_cap =
    called_taken coder seg took c _ request bytes found reply handed refl refl w
effect_taken coder seg took c found handed s k w (queues_out {index = index} {used = used} {stamp = stamp} {bytes = bytes} b e) =
    queue_taken coder seg took c index used stamp bytes found handed b w
effect_taken coder seg took c {request = request} {bytes = bytes} {reply = reply} found handed s k w (queues_cap b y e u) =
    let t = settled_taken seg _ y u in called_taken coder seg took c y request bytes found reply handed refl t.1 (λ q. t.0 (w q))
effect_taken coder seg took c {request = request} {bytes = bytes} {reply = reply} found handed s k w (takes_out b rest e) =
    called_taken coder seg took c _ request bytes found reply handed refl refl w
effect_taken coder seg took c {request = request} {bytes = bytes} {reply = reply} found handed s k w (takes_cap b rest e p l) =
    called_taken coder seg took c _ request bytes found reply handed refl refl w
effect_taken coder seg took c {request = request} {bytes = bytes} {reply = reply} found handed s k w (takes_last b cause mark e p m) =
    called_taken coder seg took c (record c { cap = take_front c.cap (b ∷ []); phase = stopped cause; mark = mark }) request bytes found reply handed
    refl refl (λ q. last_taken seg.pictures seg.sources (c.out.job ++ c.out.ready) c.out.next_ordinal cause c.mark mark m (w q))
effect_taken coder seg took c {request = request} {bytes = bytes} {reply = reply} found handed s k w streams_out =
    called_taken coder seg took c _ request bytes found reply handed refl refl w
effect_taken coder seg took c {request = request} {bytes = bytes} {reply = reply} found handed s k w (streams_cap y u) =
    let t = settled_taken seg _ y u in called_taken coder seg took c y request bytes found reply handed refl t.1 (λ q. t.0 (w q))
effect_taken coder seg took c {request = request} {bytes = bytes} {reply = reply} found handed s k w (stops_out codec r p) =
    back_taken coder seg took c _ request bytes found reply handed (ap is_dec k) refl
effect_taken coder seg took c {request = request} {bytes = bytes} {reply = reply} found handed s k w (stops_cap codec r o p) =
    let j = no_run_job c s r in
    let u = ready_counts c s j in
    anew_taken coder seg took c _ request bytes found reply handed u.0 (ap (λ t. cond (is_enc t) c.cap.streams false) k ∙ o) j u.1
effect_taken coder seg took c {request = request} {bytes = bytes} {reply = reply} found handed s k w (rests_cap r o) =
    called_taken coder seg took c _ request bytes found reply handed (ap (λ t. cond (is_enc t) c.cap.streams false) k ∙ o) refl w
effect_taken coder seg took c {request = request} {bytes = bytes} {reply = reply} found handed s k w (sets_mark y p i b m d u) =
    let t = settled_taken seg (record c { mark = Some c.out.next_ordinal }) y u in
    called_taken coder seg took c y request bytes found reply handed p.no_reset t.1 (λ q. t.0 (marked_taken seg.pictures seg.sources (c.out.job ++ c.out.ready) c.out.next_ordinal c.mark (w q)))
effect_taken coder seg took c {request = request} {bytes = bytes} {reply = reply} found handed s k w (starts y p i b e u) =
    let t = settled_taken seg (record c { phase = run }) y u in called_taken coder seg took c y request bytes found reply handed p.no_reset t.1 (λ q. t.0 (w q))

-- Runs of an encoder

encoded_puts :
    (c : Context) (j : JobData) (b : Buffer) (f : EncodedFrame) (result : Option RunResult) (up : Bool) (flags cursor : ℕ) (codec : CodecState)
    (used : ℕ) (bytes : List ℕ) (dest_flags : ℕ) (stamp : Stamp)
    → result ≡ Some (encoded f) → Puts c j b result up flags cursor codec used bytes dest_flags stamp
    → IsOutAfterFault c (moved_out c.out b flags cursor up)
encoded_puts c j b f result up flags cursor codec used bytes dest_flags stamp e (puts_fault k) = absurd (cc)
encoded_puts c j b f result up flags cursor codec used bytes dest_flags stamp e (puts_copy xs k) = absurd (cc)
encoded_puts c j b f result up flags cursor codec used bytes dest_flags stamp e (puts_frame frame k) = (refl, refl, refl, refl)
encoded_puts c j b f result up flags cursor codec used bytes dest_flags stamp e (puts_picture step r geometry key planes g k) = absurd (cc)
encoded_puts c j b f result up flags cursor codec used bytes dest_flags stamp e (puts_damage step r g k) = absurd (cc)

-- the source went to done, and the mark stays
encoded_out : (c : Context) (j : JobData) (b : Buffer) (f : EncodedFrame) {result : Option RunResult} (x : Context) → result ≡ Some (encoded f) → Ends c j b result x → IsOutAfterFault c x.out × (x.mark ≡ c.mark)
encoded_out c j b f {result = result} x e (alone up flags cursor codec used bytes dest_flags stamp p n) =
    (encoded_puts c j b f result up flags cursor codec used bytes dest_flags stamp e p, refl)
encoded_out c j b f {result = result} x e (kept up flags cursor codec used bytes dest_flags stamp d p n) =
    (encoded_puts c j b f result up flags cursor codec used bytes dest_flags stamp e p, refl)
encoded_out c j b f {result = result} x e (ended flags cursor codec used bytes dest_flags stamp d up p u n m) =
    ((refl, refl, refl, refl), refl)
encoded_out c j b f x e (halts step r geometry k phase events g q back p) = absurd (cc)
encoded_out c j b f x e (spends step k g back) = absurd (cc)

settled_mark : (x y : Context) → Settles x y → y.mark ≡ x.mark
settled_mark x y still = refl
settled_mark x y (owes p r) = refl
settled_mark x y (gives cause z rest events r p) = refl

-- what waits after a run is what was ready before it
after_run_taken :
    (pictures : List EncodedPicture) (sources : List Buffer) (c y : Context) → IsOutAfterFault c y.out → y.mark ≡ c.mark
    → AreTaken pictures sources c.out.ready c.out.next_ordinal c.mark → AreTaken pictures sources (y.out.job ++ y.out.ready) y.out.next_ordinal y.mark
after_run_taken pictures sources c y h m w =
    subst (λ l. AreTaken pictures sources (l ++ y.out.ready) y.out.next_ordinal y.mark) (sym h.0)
    (subst (λ l. AreTaken pictures sources l y.out.next_ordinal y.mark) (sym h.1)
    (subst (λ n. AreTaken pictures sources c.out.ready n y.mark) (sym h.3) (subst (AreTaken pictures sources c.out.ready c.out.next_ordinal) (sym m) w)))

finish_taken :
    (coder : Coder) (seg : Segment) (c : Context) (r : Running) (job : HasJob c r) (x y : Context) (word : List ℕ) → IsOrdered c → IsTidy c
    → c.kind ≡ Enc → IsTaken seg c → Ends c (job_data c r) job.source (Some (run_result coder (job_data c r))) x → Settles x y
    → IsTaken (segment_of_step coder seg c y (Finishes false) (Finished word)) y
finish_taken coder seg c r job x y word s t k w ends u =
    let b = job.source in
    let run : IsRunOf c r = subst (HasRun c) job.running t.run in
    let by = encodes_by coder c r c.codec refl (subst (λ q. HasCodec q c.codec) k s.firm.has_codec) k run in
    let f = by.0 in
    let out = encoded_out c (job_data c r) b f x (ap (λ o. Some o) by.1) ends in
    let source = source_of c.out.job in
    let picture : EncodedPicture = record { bytes = source.bytes; format = r.format; rates = r.rates; stamp = source.stamp; frame = f.bytes; key = f.key } in
    let due : is_due c.mark b ≡ true = ap (λ l. front_is_due l c.mark) (sym job.job) ∙ run.due in
    let w1 = subst (λ l. AreTaken seg.pictures seg.sources l c.out.next_ordinal c.mark) (waiting_is c b job.job) w in
    let w2 = consumed_taken seg.pictures seg.sources c.out.ready c.out.next_ordinal c.mark picture b (ap (λ l. (source_of l).bytes) job.job) (ap (λ l. (source_of l).stamp) job.job) due w1 in
    let w3 : AreTaken (seg.pictures ++ picture ∷ []) seg.sources (y.out.job ++ y.out.ready) y.out.next_ordinal y.mark =
    after_run_taken (seg.pictures ++ picture ∷ []) seg.sources c y (settled_out c x y u out.0) (settled_mark x y u ∙ out.1) w2 in
    let w4 = subst (λ l. AreTaken (seg.pictures ++ picture ∷ []) l (y.out.job ++ y.out.ready) y.out.next_ordinal y.mark) (sym (append-nil seg.sources)) w3 in
    let j = job_data c r in
    let made :
    AreTaken (after_run seg r j (run_result coder j)).pictures ((after_run seg r j (run_result coder j)).sources ++ []) (y.out.job ++ y.out.ready) y.out.next_ordinal y.mark =
    subst (λ z. AreTaken (after_run seg r j z).pictures ((after_run seg r j z).sources ++ []) (y.out.job ++ y.out.ready) y.out.next_ordinal y.mark) (sym by.1) w4 in
    subst (λ z. IsTaken z y) (sym (finished_segment coder seg c y r word job.running)) made

fault_taken :
    (coder : Coder) (seg : Segment) (c : Context) (r : Running) (job : HasJob c r) (x y : Context) (word : List ℕ) → IsOrdered c
    → Ends c (job_data c r) job.source None x → Settles x y → IsTaken (segment_of_step coder seg c y (Finishes true) (Finished word)) y
fault_taken coder seg c r job x y word s ends u =
    let b = job.source in
    let h = settled_out c x y u (faulted_out c (job_data c r) b x refl ends) in
    let counts = subst (λ l. CountsUp l s.firm.out.latest.first c.out.next_ordinal) (waiting_is c b job.job) s.firm.out.latest.counts in
    let ready : CountsUp y.out.ready (s.firm.out.latest.first + 1) y.out.next_ordinal =
    subst (λ l. CountsUp l (s.firm.out.latest.first + 1) y.out.next_ordinal) (sym h.1) (subst (CountsUp c.out.ready (s.firm.out.latest.first + 1)) (sym h.3) counts.1) in
    fresh_taken y.out.ready y.out.job (s.firm.out.latest.first + 1) y.out.next_ordinal y.mark h.0 ready

-- Steps

quiet_taken : (seg : Segment) (c y : Context) → IsTaken seg y → IsTaken (record seg { sources = seg.sources ++ []; retired = seg.retired ++ done_now c y }) y
quiet_taken seg c y w = none_added seg y (seg.retired ++ done_now c y) w

claims_taken :
    (coder : Coder) (seg : Segment) (took : Bool) (c : Context) (b : Buffer) (rest : List Buffer) (z : QueueState) → c.out.ready ≡ b ∷ rest
    → c.out.job ≡ [] → (took ≡ false → IsTaken seg c)
    → TakenAt (Some (record c { out = lend_front c.out (b ∷ rest); cap = z; running = Some (running_of c (sort_of c.kind c.geometry)) }))
    (segment_of_step coder seg c (record c { out = lend_front c.out (b ∷ rest); cap = z; running = Some (running_of c (sort_of c.kind c.geometry)) }) Claims Claimed)
    (took || false)
claims_taken coder seg took c b rest z e j w =
    let y = record c { out = lend_front c.out (b ∷ rest); cap = z; running = Some (running_of c (sort_of c.kind c.geometry)) } in
    is_taken y _ _ (λ q. quiet_taken seg c y (subst (λ l. AreTaken seg.pictures seg.sources l c.out.next_ordinal c.mark) (ap (λ l. l ++ c.out.ready) j ∙ e) (w (or_left took false q).0)))

idle_taken :
    (coder : Coder) (seg : Segment) (took fault : Bool) (c : Context) → c.running ≡ None → (took ≡ false → IsTaken seg c)
    → TakenAt (Some c) (segment_of_step coder seg c c (Finishes fault) Nothing) (took_back_by (Some c) (Some c) took (Finishes fault) Nothing)
idle_taken coder seg took true c o w =
    is_taken c _ _ (λ q. subst (λ z. IsTaken z c) (sym (nothing_segment coder seg c true o)) (quiet_taken seg c c (w (or_left took false q).0)))
idle_taken coder seg took false c o w =
    is_taken c _ _ (λ q. subst (λ z. IsTaken z c) (sym (nothing_segment coder seg c false o)) (quiet_taken seg c c (w (or_left took false q).0)))

step_taken :
    (coder : Coder) (seg : Segment) (took : Bool) (c : Context) {e : SoloEvent} {told : SoloReply} {slot : Slot} → IsOrdered c → IsTidy c
    → c.kind ≡ Enc → (took ≡ false → IsTaken seg c) → Step coder c e told slot
    → TakenAt slot (segment_of_slots coder seg (Some c) slot e told) (took_back_by (Some c) slot took e told)
step_taken coder seg took c s t k w (calls {found = found} {handed = handed} f) = effect_taken coder seg took c found handed s k w f
step_taken coder seg took c s t k w rests = is_taken c _ _ (λ q. quiet_taken seg c c (w (or_left took false q).0))
step_taken coder seg took c s t k w (lacks_job {fault = fault} o) = idle_taken coder seg took fault c o w
step_taken coder seg took c s t k w (claims b rest z e o j i p d q) = claims_taken coder seg took c b rest z e j w
step_taken coder seg took c s t k w (finishes {word = word} r x y job ends u v) =
    is_taken y _ _ (λ q. finish_taken coder seg c r job x y word s t k (w (or_left took false q).0) ends u)
step_taken coder seg took c s t k w (faults {word = word} r x y job ends u) =
    is_taken y _ _ (λ q. fault_taken coder seg c r job x y word s ends u)

-- Slots

open_taken :
    (coder : Coder) (seg : Segment) (took : Bool) (request : Call) (bytes : List ℕ) (found : Bool)
    → TakenAt (closed_answer request found).slot
    (segment_of_slots coder seg None (closed_answer request found).slot (Called request bytes found) (Answered (closed_answer request found).reply (closed_answer request found).bytes))
    (took_back_by None (closed_answer request found).slot took (Called request bytes found) (Answered (closed_answer request found).reply (closed_answer request found).bytes))
unfolding closed_answer TakenAt
open_taken coder seg took (Open kind) bytes true = λ k q. fresh_taken [] [] 0 0 None refl refl
open_taken coder seg took (Open kind) bytes false = tt
open_taken coder seg took request bytes found = tt

of_encoders : (c : Context) (slot : Slot) (seg : Segment) (took : Bool) → KindSlot c slot → (c.kind ≡ Enc → TakenAt slot seg took) → TakenAt slot seg took
unfolding TakenAt KindSlot
of_encoders c None seg took k f = tt
of_encoders c (Some y) seg took k f = λ q. f (sym k ∙ q) q

slot_taken :
    (coder : Coder) (seg : Segment) (took : Bool) (s : Slot) (e : SoloEvent) → IsOrderedSlot s → TidySlot s → TakenAt s seg took
    → TakenAt (solo_step coder s e).slot (segment_of_slots coder seg s (solo_step coder s e).slot e (solo_step coder s e).told)
    (took_back_by s (solo_step coder s e).slot took e (solo_step coder s e).told)
unfolding solo_step answer TakenAt
slot_taken coder seg took None (Called request bytes found) h t w = open_taken coder seg took request bytes found
slot_taken coder seg took None Claims h t w = tt
slot_taken coder seg took None (Finishes fault) h t w = tt
slot_taken coder seg took (Some c) (Called request bytes found) h t w =
    let q = step_of coder c (Called request bytes found) h in
    of_encoders c _ _ _ (step_kind coder c q) (λ k. step_taken coder seg took c h t k (w k) q)
slot_taken coder seg took (Some c) Claims h t w =
    let q = step_of coder c Claims h in
    of_encoders c _ _ _ (step_kind coder c q) (λ k. step_taken coder seg took c h t k (w k) q)
slot_taken coder seg took (Some c) (Finishes fault) h t w =
    let q = step_of coder c (Finishes fault) h in
    of_encoders c _ _ _ (step_kind coder c q) (λ k. step_taken coder seg took c h t k (w k) q)

segment_taken :
    (coder : Coder) (seg : Segment) (took : Bool) (s : Slot) (e : SoloEvent) → IsOrderedSlot s → TidySlot s → TakenAt s seg took
    → TakenAt (solo_step coder s e).slot (segment_step coder seg s e) (took_back_by s (solo_step coder s e).slot took e (solo_step coder s e).told)
unfolding segment_step
segment_taken coder seg took s e h t w = slot_taken coder seg took s e h t w

taken_from : (coder : Coder) (seg : Segment) (took : Bool) (s : Slot) (es : List SoloEvent) → IsOrderedSlot s → TidySlot s → TakenAt s seg took → TakenAt (solo_slot coder s es) (segment_after coder seg s es) (took_back_from coder took s es)
taken_from coder seg took s [] h t w = w
taken_from coder seg took s (e ∷ es) h t w =
    let r = solo_step coder s e in
    taken_from coder (segment_step coder seg s e) (took_back_by s r.slot took e r.told) r.slot es (step_sound coder s e h) (slot_tidy coder s e h t) (segment_taken coder seg took s e h t w)

always_taken : (coder : Coder) (events : List SoloEvent) (c : Context) → solo_slot coder None events ≡ Some c → c.kind ≡ Enc → took_back coder events ≡ false → IsTaken (segment_of coder events) c
unfolding TakenAt
always_taken coder events c at k q =
    subst (λ z. TakenAt z (segment_of coder events) (took_back coder events)) at (taken_from coder (fresh_segment []) false None events tt tt tt) k q

-- The laws

pub encodes_in_order : EncodesInOrder
encodes_in_order coder events c at k q =
    let w = always_taken coder events c at k q in (w.gone, w.sources_are, w.pictures_are)

none_before : (ws : List Buffer) (m : ℕ) → has_before ws m ≡ false → before_mark m ws ≡ []
none_before [] m h = refl
none_before (b ∷ bs) m h =
    let p = or_left (nat_lt b.ordinal m) (has_before bs m) h in
    ap (λ t. cond t (b ∷ before_mark m bs) (before_mark m bs)) p.0 ∙ none_before bs m p.1

gone_before : (sources gone ws : List Buffer) (m : ℕ) → sources ≡ gone ++ ws → list_all (is_due (Some m)) gone ≡ true → has_before ws m ≡ false → before_mark m sources ≡ gone
gone_before sources gone ws m e d h =
    ap (before_mark m) e ∙ (filter-append (λ b. nat_lt b.ordinal m) gone ws ∙ (ap (λ l. l ++ before_mark m ws) (filter_due gone m d) ∙ (ap (λ l. gone ++ l) (none_before ws m h) ∙ append-nil gone)))

kind_after : (c y : Context) → KindSlot c (Some y) → c.kind ≡ Enc → y.kind ≡ Enc
unfolding KindSlot
kind_after c y p q = p ∙ q

pub drains_encode_all : DrainsEncodeAll
drains_encode_all coder events e before after mark at next k g m q =
    let s : IsOrdered before = subst IsOrderedSlot at (always_ordered coder events) in
    let sound : IsOrdered after = subst IsOrderedSlot next (step_sound coder (Some before) e s) in
    let there : solo_slot coder None (events ++ e ∷ []) ≡ Some after = slot_more coder None events e ∙ (ap (λ z. (solo_step coder z e).slot) at ∙ next) in
    let kind = kind_after before after (subst (KindSlot before) next (step_kind coder before (step_of coder before e s))) k in
    let w = always_taken coder (events ++ e ∷ []) after there kind q in
    let seg = segment_of coder (events ++ e ∷ []) in
    let l = and_left (is_last_by_drain after.phase) _ g in
    let none = idle after sound.firm (drain_stops after.phase l) in
    let drained = drained_before after.out.ready after.mark mark m (sound.firm.drained (end_drained after.phase l)) in
    let before_it : has_before (after.out.job ++ after.out.ready) mark ≡ false = ap (λ j. has_before (j ++ after.out.ready) mark) none.1.0 ∙ drained in
    let due : list_all (is_due (Some mark)) w.gone ≡ true = subst (λ z. list_all (is_due z) w.gone ≡ true) m w.due in
    subst (ArePicturesOf seg.pictures) (sym (gone_before seg.sources w.gone (after.out.job ++ after.out.ready) mark w.sources_are due before_it)) w.pictures_are
