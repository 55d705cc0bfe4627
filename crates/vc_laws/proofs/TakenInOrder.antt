-- The client gets what goes to done on CAPTURE in order, each buffer once and with its bytes. The done list is what
-- was put at its end less what DqBuf took from its front, and only a StreamOff, a ReqBufs or a Close drops the rest.
use Rattle.std.proofs.Common.{ℕ, ◌≡◌, ◌≤◌, ◌+◌, nat_le, ◌&&◌, Bool, true, false, not, cond, Option, Some, None, List, [], ◌∷◌, ◌++◌, take, refl, sym, ap, ◌∙◌, subst, arith}
use Rattle.std.proofs.lemmas.Bool.{false≢true, le-leb}
use Rattle.std.proofs.lemmas.List.{append-nil, append_assoc}
use Rattle.std.proofs.lemmas.List.Folds.{list_all-append}
use Rattle.std.proofs.lemmas.Grind.{flat_map-append}
use Rattle.vc_base.specs.declared.Side.TheVariants.{Cap}
use Rattle.vc_base.specs.declared.Errno.{Errno}
use Rattle.vc_base.specs.declared.Errno.TheVariants.{NoEnt, Again, NoMem, Busy, Inval, NoTty, Pipe}
use Rattle.vc_base.specs.declared.Call.{Call}
use Rattle.vc_base.specs.declared.Call.TheVariants.{DqBuf}
use Rattle.vc_base.specs.declared.Reply.{Reply}
use Rattle.vc_base.specs.declared.Reply.TheVariants.{Taken}
use Rattle.vc_base.specs.Buffers.{is_empty, Buffer, QueueState, known_bytes, zero_stamp, take_front, dqbuf_refusal, taken}
use Rattle.vc_base.specs.Limits.{last_flag}
use Rattle.vc_model.specs.Coder.{Coder}
use Rattle.vc_model.specs.Context.{Context, Slot, Running, run, stopped}
use Rattle.vc_model.specs.Answer.{answer, context_answer, unless_or_block, taken_answer, is_ended}
use Rattle.vc_model.specs.Runs.{JobData, job_data, RunResult, copied, encoded, decoded, run_result}
use Rattle.vc_model.specs.Solo.{SoloEvent, Called, Claims, Finishes, SoloReply, Answered, Claimed, Finished, Nothing, solo_step, solo_run, solo_slot}
use Rattle.vc_model.specs.Sound.{IsOrdered, IsOrderedSlot}
use Rattle.vc_model.specs.Drains.{takes_a_buffer, takes_capture, done_now}
use Rattle.vc_model.specs.Handed.{handed_by_call, handed_by, handed_out}
use Rattle.vc_model.proofs.EventsKeepSound.{always_ordered, step_sound}
use Rattle.vc_laws.specs.Segments.{Segment, fresh_segment, after_run, after_job, after_event, resets, sources_added, segment_of_step, segment_of_slots, segment_step, segment_after, segment_of}
use Rattle.vc_laws.specs.Taking.{drops, front_taken, IsTakenInOrder, TakenInOrder, gone_to_done, done_in, DropsNothing, bytes_of, HandedInOrder, KeepsSegment, DoneIsRetired}
use Rattle.vc_laws.proofs.EffectsOfCalls.{Settles, still, owes, gives, Effect, stays, closes, has_events, has_rates, has_out_format, has_cap_format}
use Rattle.vc_laws.proofs.EffectsOfCalls.{has_out_buffers, has_cap_buffers, adds_out, adds_cap, queues_out, queues_cap, takes_out, takes_cap, takes_last}
use Rattle.vc_laws.proofs.EffectsOfCalls.{streams_out, streams_cap, stops_out, stops_cap, rests_cap, sets_mark, starts}
use Rattle.vc_laws.proofs.EffectsOfEvents.{Ends, alone, kept, ended, halts, spends, Returns, none_taken, given_back, probes, runs, Step, calls, rests, lacks_job, claims, finishes, faults, step_of}
use Rattle.vc_laws.proofs.OpenContextsAreTidy.{IsTidy, TidySlot, always_tidy, slot_tidy}
use Rattle.vc_laws.proofs.DoneInAStep.{Made, made_now, made_none, made_rest}

-- CAPTURE's done list and what is new at its end

record Grows (c x : Context) (new : List Buffer) : Type 0 where
  pub made : Made c x new
  pub all : made.front ≡ c.cap.done

grows_same : (c x : Context) → x.cap.done ≡ c.cap.done → IsTidy c → Grows c x []
grows_same c x e t =
    record { made = record { front = c.cap.done; is = e ∙ sym (append-nil c.cap.done); old = t.below; fresh = refl }; all = refl }

grows_more : (c x y : Context) (new : List Buffer) (z : Buffer) → y.cap.done ≡ x.cap.done ++ z ∷ [] → c.cap.next_seq ≤ z.seq → Grows c x new → Grows c y (new ++ z ∷ [])
grows_more c x y new z e l g =
    let m = g.made in
    record {
      made = record {
        front = m.front;
        is = e ∙ (ap (λ l. l ++ z ∷ []) m.is ∙ append_assoc m.front new (z ∷ []));
        old = m.old;
        fresh = list_all-append (λ b. nat_le c.cap.next_seq b.seq) new (z ∷ []) ∙ (ap (λ b. b && (nat_le c.cap.next_seq z.seq && true)) m.fresh ∙ ap (λ b. b && true) (le-leb c.cap.next_seq z.seq l));
      };
      all = g.all;
    }

grows_still : (c x y : Context) (new : List Buffer) → y.cap.done ≡ x.cap.done → Grows c x new → Grows c y new
grows_still c x y new e g =
    record { made = record { front = g.made.front; is = e ∙ g.made.is; old = g.made.old; fresh = g.made.fresh }; all = g.all }

-- the whole list
AreInOrder : Context → Context → Type 0
AreInOrder c y = y.cap.done ≡ c.cap.done ++ done_now c y

in_order : (c y : Context) (new : List Buffer) → Grows c y new → AreInOrder c y
unfolding AreInOrder
in_order c y new g =
    g.made.is ∙ (ap (λ l. l ++ new) g.all ∙ ap (λ l. c.cap.done ++ l) (sym (made_now c y new g.made)))

settled_order : (c x y : Context) (new : List Buffer) → Grows c x new → c.cap.next_seq ≤ x.cap.next_seq → Settles x y → AreInOrder c y
settled_order c x y new g l still = in_order c x new g
settled_order c x y new g l (owes p r) = in_order c y new (grows_still c x y new refl g)
settled_order c x y new g l (gives cause b rest events r p) =
    let z : Buffer = record b { used = 0; bytes = known_bytes x.cap.side last_flag []; flags = last_flag; stamp = zero_stamp; seq = x.cap.next_seq } in
    in_order c y (new ++ z ∷ []) (grows_more c x y new z refl l g)

same_order : (c x : Context) → x.cap.done ≡ c.cap.done → IsTidy c → AreInOrder c x
same_order c x e t = in_order c x [] (grows_same c x e t)

then_order : (c x y : Context) → x.cap.done ≡ c.cap.done → x.cap.next_seq ≡ c.cap.next_seq → IsTidy c → Settles x y → AreInOrder c y
then_order c x y e n t s = settled_order c x y [] (grows_same c x e t) (omega arith) s

returned_done : (q k : QueueState) → Returns q k → (k.done ≡ q.done) × (k.next_seq ≡ q.next_seq)
returned_done q k (none_taken j) = (refl, refl)
returned_done q k (given_back d j) = (refl, refl)

put_order : (c x y : Context) (z : Buffer) → x.cap.done ≡ c.cap.done ++ z ∷ [] → z.seq ≡ c.cap.next_seq → x.cap.next_seq ≡ c.cap.next_seq + 1 → IsTidy c → Settles x y → AreInOrder c y
put_order c x y z e q n t s =
    settled_order c x y (z ∷ []) (grows_more c c x [] z e (omega arith) (grows_same c c refl t)) (omega arith) s

ended_order : (c : Context) (j : JobData) (b : Buffer) {result : Option RunResult} (x y : Context) → IsTidy c → Ends c j b result x → Settles x y → AreInOrder c y
ended_order c j b x y t (alone up flags cursor codec used bytes dest_flags stamp p k) s = then_order c x y refl refl t s
ended_order c j b x y t (kept up flags cursor codec used bytes dest_flags stamp d p k) s =
    put_order c x y (record d { used = used; bytes = known_bytes c.cap.side dest_flags bytes; flags = dest_flags; stamp = stamp; seq = c.cap.next_seq }) refl refl refl t s
ended_order c j b x y t (ended flags cursor codec used bytes dest_flags stamp d up p u k m) s =
    put_order c x y (record d { used = used; bytes = known_bytes c.cap.side (dest_flags + last_flag) bytes; flags = dest_flags + last_flag; stamp = stamp; seq = c.cap.next_seq }) refl refl refl t s
ended_order c j b x y t (halts step r geometry k phase events g q back p) s =
    let d = returned_done c.cap k back in then_order c x y d.0 d.1 t s
ended_order c j b x y t (spends step k g back) s = let d = returned_done c.cap k back in then_order c x y d.0 d.1 t s

-- Steps

-- what a step of an open slot that stays open does to the list, by whether it takes the front
abbrev OrderAt : Context → Bool → Context → Type 0
OrderAt c took y = front_taken took c.cap.done ++ y.cap.done ≡ c.cap.done ++ done_now c y

OrderSlot : Context → SoloEvent → SoloReply → Slot → Type 0
OrderSlot c e told None = Unit {0}
OrderSlot c e told (Some y) = drops c e told ≡ false → OrderAt c (takes_capture e told) y

not_taken : (c y : Context) (e : SoloEvent) (told : SoloReply) → takes_capture e told ≡ false → AreInOrder c y → OrderSlot c e told (Some y)
unfolding OrderSlot AreInOrder
not_taken c y e told n o d = subst (λ b. OrderAt c b y) (sym n) o

closed : (c : Context) (e : SoloEvent) (told : SoloReply) → OrderSlot c e told None
unfolding OrderSlot
closed c e told = tt

none_there : (done : List Buffer) → not (is_empty done) ≡ false → done ≡ []
none_there [] d = refl
none_there (b ∷ bs) d = absurd (false≢true (sym d))

-- a list that is emptied where nothing was on it
emptied : (c y : Context) (e : SoloEvent) (told : SoloReply) → takes_capture e told ≡ false → drops c e told ≡ not (is_empty c.cap.done) → y.cap.done ≡ [] → OrderSlot c e told (Some y)
unfolding OrderSlot
emptied c y e told n q z d =
    let none : c.cap.done ≡ [] = none_there c.cap.done (sym q ∙ d) in
    let new : done_now c y ≡ [] = made_now c y [] (made_none c y z) in
    let both : y.cap.done ≡ c.cap.done ++ done_now c y = z ∙ (sym (ap (λ l. l ++ []) none) ∙ ap (λ l. c.cap.done ++ l) (sym new)) in
    subst (λ b. OrderAt c b y) (sym n) both

front_order : (c y : Context) (b : Buffer) (rest : List Buffer) → c.cap.done ≡ b ∷ rest → y.cap.done ≡ rest → IsTidy c → OrderAt c true y
front_order c y b rest e d t =
    let none : done_now c y ≡ [] = made_now c y [] (made_rest c y b rest e d t) in
    ap (λ l. take 1 l ++ y.cap.done) e ∙ (ap (λ l. b ∷ l) d ∙ (sym e ∙ (sym (append-nil c.cap.done) ∙ ap (λ l. c.cap.done ++ l) (sym none))))

took : (c y : Context) (e : SoloEvent) (told : SoloReply) → takes_capture e told ≡ true → OrderAt c true y → OrderSlot c e told (Some y)
unfolding OrderSlot
took c y e told n o d = subst (λ b. OrderAt c b y) (sym n) o

effect_order :
    (c : Context) {request : Call} {bytes : List ℕ} {reply : Reply} {slot : Slot} (found : Bool) (handed : List ℕ) → IsTidy c
    → Effect c request bytes reply slot → OrderSlot c (Called request bytes found) (Answered reply handed) slot
effect_order c found handed t (stays n) = not_taken c c _ _ n.no_take (same_order c c refl t)
effect_order c found handed t (closes n) = closed c _ _
effect_order c found handed t (has_events events n) = not_taken c _ _ _ n.no_take (same_order c _ refl t)
effect_order c found handed t (has_rates rates) = not_taken c _ _ _ refl (same_order c _ refl t)
effect_order c found handed t (has_out_format codec geometry o q k) = not_taken c _ _ _ refl (same_order c _ refl t)
effect_order c found handed t (has_cap_format q) = not_taken c _ _ _ refl (same_order c _ refl t)
effect_order c found handed t (has_out_buffers size codec geometry o k) = not_taken c _ _ _ refl (same_order c _ refl t)
effect_order c found handed t (has_cap_buffers size o) = emptied c _ _ _ refl refl refl
effect_order c found handed t adds_out = not_taken c _ _ _ refl (same_order c _ refl t)
effect_order c found handed t adds_cap = not_taken c _ _ _ refl (same_order c _ refl t)
effect_order c found handed t (queues_out b e) = not_taken c _ _ _ refl (same_order c _ refl t)
effect_order c found handed t (queues_cap b y e s) = not_taken c y _ _ refl (then_order c _ y refl refl t s)
effect_order c found handed t (takes_out b rest d) = not_taken c _ _ _ refl (same_order c _ refl t)
effect_order c found handed t (takes_cap b rest d n l) = took c (record c { cap = take_front c.cap (b ∷ rest) }) _ _ refl (front_order c (record c { cap = take_front c.cap (b ∷ rest) }) b rest d refl t)
effect_order c found handed t (takes_last b cause mark d p m) =
    took c (record c { cap = take_front c.cap (b ∷ []); phase = stopped cause; mark = mark }) _ _ refl
    (front_order c (record c { cap = take_front c.cap (b ∷ []); phase = stopped cause; mark = mark }) b [] d refl t)
effect_order c found handed t streams_out = not_taken c _ _ _ refl (same_order c _ refl t)
effect_order c found handed t (streams_cap y s) = not_taken c y _ _ refl (then_order c _ y refl refl t s)
effect_order c found handed t (stops_out codec n k) = not_taken c _ _ _ refl (same_order c _ refl t)
effect_order c found handed t (stops_cap codec n o k) = emptied c _ _ _ refl refl refl
effect_order c found handed t (rests_cap n o) = emptied c _ _ _ refl refl refl
effect_order c found handed t (sets_mark y n i b m d s) = not_taken c y _ _ n.no_take (then_order c _ y refl refl t s)
effect_order c found handed t (starts y n i b e s) =
    not_taken c y _ _ n.no_take (then_order c (record c { phase = run }) y refl refl t s)

step_order : (coder : Coder) (c : Context) {e : SoloEvent} {told : SoloReply} {slot : Slot} → IsTidy c → Step coder c e told slot → OrderSlot c e told slot
step_order coder c t (calls {found = found} {handed = handed} f) = effect_order c found handed t f
step_order coder c t rests = not_taken c c Claims Nothing refl (same_order c c refl t)
step_order coder c t (lacks_job {fault = fault} n) =
    not_taken c c (Finishes fault) Nothing refl (same_order c c refl t)
step_order coder c t (claims b rest k e n o j p d (probes q)) =
    not_taken c _ Claims Claimed refl (same_order c _ refl t)
step_order coder c t (claims b rest k e n o j p d (runs x xs m i q)) =
    not_taken c _ Claims Claimed refl (same_order c _ refl t)
step_order coder c t (finishes {word = word} r x y job ends s w) =
    not_taken c y (Finishes false) (Finished word) refl (ended_order c _ job.source x y t ends s)
step_order coder c t (faults {word = word} r x y job ends s) =
    not_taken c y (Finishes true) (Finished word) refl (ended_order c _ job.source x y t ends s)

-- The bytes that a DqBuf hands out

abbrev IsHandedFront : Context → Reply → List ℕ → Type 0
IsHandedFront c reply handed =
    (b : Buffer) × (rest : List Buffer) × (c.cap.done ≡ b ∷ rest) × (reply ≡ taken b) × (handed ≡ b.bytes)

front_handed : (c : Context) (block : Bool) (ds : List Buffer) → c.cap.done ≡ ds → let a = taken_answer c Cap ds in takes_a_buffer (DqBuf Cap block) a.reply ≡ true → IsHandedFront c a.reply a.bytes
front_handed c block [] e n = absurd (false≢true n)
front_handed c block (b ∷ rest) e n = (b, rest, e, refl, refl)

block_handed : (c : Context) (o : Option Errno) (block : Bool) → let a = unless_or_block c o block (taken_answer c Cap c.cap.done) in takes_a_buffer (DqBuf Cap block) a.reply ≡ true → IsHandedFront c a.reply a.bytes
block_handed c None block n = front_handed c block c.cap.done refl n
block_handed c (Some Again) true n = absurd (false≢true n)
block_handed c (Some Again) false n = absurd (false≢true n)
block_handed c (Some NoEnt) true n = absurd (false≢true n)
block_handed c (Some NoEnt) false n = absurd (false≢true n)
block_handed c (Some NoMem) block n = absurd (false≢true n)
block_handed c (Some Busy) block n = absurd (false≢true n)
block_handed c (Some Inval) block n = absurd (false≢true n)
block_handed c (Some NoTty) block n = absurd (false≢true n)
block_handed c (Some Pipe) block n = absurd (false≢true n)

answer_handed : (c : Context) (request : Call) (bytes : List ℕ) (found : Bool) → let a = context_answer c request bytes found in takes_a_buffer request a.reply ≡ true → IsHandedFront c a.reply a.bytes
unfolding context_answer
answer_handed c (DqBuf Cap block) bytes found n =
    block_handed c (dqbuf_refusal c.cap (is_ended c Cap)) block n
answer_handed c request bytes found n = absurd (false≢true n)

told_handed : (coder : Coder) (c : Context) (e : SoloEvent) → let told = (solo_step coder (Some c) e).told in takes_capture e told ≡ true → (b : Buffer) × (rest : List Buffer) × (c.cap.done ≡ b ∷ rest) × (told ≡ Answered (taken b) b.bytes)
unfolding solo_step answer
told_handed coder c (Called request bytes found) n =
    let h = answer_handed c request bytes found n in
    (h.0, h.1, h.2, ap (λ r. Answered r (context_answer c request bytes found).bytes) h.3 ∙ ap (Answered (taken h.0)) h.4)
told_handed coder c Claims n = absurd (false≢true n)
told_handed coder c (Finishes fault) n = absurd (false≢true n)

step_taken :
    (coder : Coder) (c y : Context) (e : SoloEvent) → IsOrdered c → IsTidy c → (solo_step coder (Some c) e).slot ≡ Some y
    → drops c e (solo_step coder (Some c) e).told ≡ false → IsTakenInOrder c e (solo_step coder (Some c) e).told y
unfolding OrderSlot
step_taken coder c y e s t next d =
    let told = (solo_step coder (Some c) e).told in
    record { order = subst (OrderSlot c e told) next (step_order coder c t (step_of coder c e s)) d; handed = told_handed coder c e }

pub taken_in_order : TakenInOrder
taken_in_order coder events e before after at next d =
    step_taken coder before after e (subst IsOrderedSlot at (always_ordered coder events)) (always_tidy coder events before at) next d

-- Runs

flat_both : (xs ys : List Buffer) → bytes_of (xs ++ ys) ≡ bytes_of xs ++ bytes_of ys
flat_both xs ys = flat_map-append (λ (b : Buffer). b.bytes) xs ys

not_handed : (request : Call) (reply : Reply) (handed : List ℕ) → takes_a_buffer request reply ≡ false → handed_by_call request reply handed ≡ []
not_handed (DqBuf Cap block) (Taken index used flags seq stamp) handed n = absurd (false≢true (sym n))
not_handed request reply handed n = refl

nothing_handed : (e : SoloEvent) (told : SoloReply) → takes_capture e told ≡ false → handed_by e told ≡ []
nothing_handed (Called request bytes found) (Answered reply handed) n = not_handed request reply handed n
nothing_handed (Called request bytes found) Claimed n = refl
nothing_handed (Called request bytes found) (Finished word) n = refl
nothing_handed (Called request bytes found) Nothing n = refl
nothing_handed Claims told n = refl
nothing_handed (Finishes fault) told n = refl

is_handed : (request : Call) (b : Buffer) → takes_a_buffer request (taken b) ≡ true → handed_by_call request (taken b) b.bytes ≡ b.bytes
is_handed (DqBuf Cap block) b n = refl
is_handed request b n = absurd (false≢true n)

front_is_handed : (e : SoloEvent) (b : Buffer) → takes_capture e (Answered (taken b) b.bytes) ≡ true → handed_by e (Answered (taken b) b.bytes) ≡ b.bytes
front_is_handed (Called request bytes found) b n = is_handed request b n
front_is_handed Claims b n = absurd (false≢true n)
front_is_handed (Finishes fault) b n = absurd (false≢true n)

-- what the step hands out is the front that it takes
hands_front : (before after : Context) (e : SoloEvent) (told : SoloReply) → IsTakenInOrder before e told after → (b : Bool) → takes_capture e told ≡ b → handed_by e told ≡ bytes_of (front_taken b before.cap.done)
hands_front before after e told t false n = nothing_handed e told n
hands_front before after e told t true n =
    let h = t.handed n in
    let same = h.3 in
    let k : takes_capture e (Answered (taken h.0) (h.0).bytes) ≡ true = sym (ap (takes_capture e) same) ∙ n in
    ap (handed_by e) same ∙ (front_is_handed e h.0 k ∙ (sym (append-nil (h.0).bytes) ∙ ap (λ l. bytes_of (take 1 l)) (sym h.2)))

hands_step : (before after : Context) (e : SoloEvent) (told : SoloReply) → IsTakenInOrder before e told after → handed_by e told ++ bytes_of after.cap.done ≡ bytes_of before.cap.done ++ bytes_of (done_now before after)
hands_step before after e told t =
    let front = front_taken (takes_capture e told) before.cap.done in
    ap (λ l. l ++ bytes_of after.cap.done) (hands_front before after e told t (takes_capture e told) refl) ∙ (sym (flat_both front after.cap.done) ∙ (ap bytes_of t.order ∙ flat_both before.cap.done (done_now before after)))

-- one step and then the others
one_and_rest : (h hs d b n ns m : List ℕ) → h ++ m ≡ b ++ n → hs ++ d ≡ m ++ ns → (h ++ hs) ++ d ≡ b ++ (n ++ ns)
one_and_rest h hs d b n ns m p q =
    append_assoc h hs d ∙ (ap (λ l. h ++ l) q ∙ (sym (append_assoc h m ns) ∙ (ap (λ l. l ++ ns) p ∙ append_assoc b n ns)))

same_slot : (c d : Context) → Some c ≡ Some d → c ≡ d
same_slot c d e = cc

goes_open : (coder : Coder) (slot : Slot) (es : List SoloEvent) → DropsNothing coder slot es → (y : Context) × (slot ≡ Some y)
goes_open coder None es n = absurd n
goes_open coder (Some y) es n = (y, refl)

handed_from :
    (coder : Coder) (c d : Context) (es : List SoloEvent) → IsOrdered c → IsTidy c → solo_slot coder (Some c) es ≡ Some d
    → DropsNothing coder (Some c) es
    → handed_out (solo_run coder (Some c) es) ++ bytes_of d.cap.done ≡ bytes_of c.cap.done ++ bytes_of (done_in coder (Some c) es)
handed_from coder c d [] s t at n =
    let same = same_slot c d at in ap (λ x. bytes_of x.cap.done) (sym same) ∙ sym (append-nil (bytes_of c.cap.done))
handed_from coder c d (e ∷ es) s t at n =
    let r = solo_step coder (Some c) e in
    let open_slot = goes_open coder r.slot es n.1 in
    let y = open_slot.0 in
    let next = open_slot.1 in
    let ordered : IsOrdered y = subst IsOrderedSlot next (step_sound coder (Some c) e s) in
    let tidy : IsTidy y = subst TidySlot next (slot_tidy coder (Some c) e s t) in
    let here = hands_step c y e r.told (step_taken coder c y e s t next n.0) in
    let rest = handed_from coder y d es ordered tidy (ap (λ z. solo_slot coder z es) (sym next) ∙ at) (subst (λ z. DropsNothing coder z es) next n.1) in
    let all = one_and_rest (handed_by e r.told) (handed_out (solo_run coder (Some y) es)) (bytes_of d.cap.done) (bytes_of c.cap.done) (bytes_of (done_now c y)) (bytes_of (done_in coder (Some y) es)) (bytes_of y.cap.done) here rest in
    let told :
    (handed_by e r.told ++ handed_out (solo_run coder (Some y) es)) ++ bytes_of d.cap.done ≡ bytes_of c.cap.done ++ bytes_of (done_now c y ++ done_in coder (Some y) es) =
    all ∙ ap (λ l. bytes_of c.cap.done ++ l) (sym (flat_both (done_now c y) (done_in coder (Some y) es))) in
    subst (λ z. (handed_by e r.told ++ handed_out (solo_run coder z es)) ++ bytes_of d.cap.done ≡ bytes_of c.cap.done ++ bytes_of (gone_to_done (Some c) z ++ done_in coder z es)) (sym next) told

pub handed_in_order : HandedInOrder
handed_in_order coder events more c d at end n =
    handed_from coder c d more (subst IsOrderedSlot at (always_ordered coder events)) (always_tidy coder events c at) end n

-- Segments

job_retired : (seg : Segment) (c : Context) (r : Running) (result : RunResult) → (after_run seg r (job_data c r) result).retired ≡ seg.retired
job_retired seg c r (copied bytes) = refl
job_retired seg c r (encoded frame) = refl
job_retired seg c r (decoded step) = refl

run_retired : (coder : Coder) (seg : Segment) (c : Context) (o : Option Running) → (after_job coder seg c o).retired ≡ seg.retired
run_retired coder seg c None = refl
run_retired coder seg c (Some r) = job_retired seg c r (run_result coder (job_data c r))

event_retired : (coder : Coder) (seg : Segment) (c : Context) (e : SoloEvent) → (after_event coder seg c e).retired ≡ seg.retired
event_retired coder seg c (Called request bytes found) = refl
event_retired coder seg c Claims = refl
event_retired coder seg c (Finishes true) = refl
event_retired coder seg c (Finishes false) = run_retired coder seg c c.running

either_retired : (b : Bool) (x y : Segment) → b ≡ false → (cond b x y).retired ≡ y.retired
either_retired true x y n = absurd (false≢true (sym n))
either_retired false x y n = refl

kept_retired : (coder : Coder) (seg : Segment) (c y : Context) (e : SoloEvent) (told : SoloReply) → resets c e told ≡ false → (segment_of_step coder seg c y e told).retired ≡ seg.retired ++ done_now c y
kept_retired coder seg c y e told n =
    let ran = after_event coder seg c e in
    either_retired (resets c e told) (fresh_segment y.out.ready) (record ran { sources = ran.sources ++ sources_added c y e told; retired = ran.retired ++ done_now c y }) n ∙ ap (λ l. l ++ done_now c y) (event_retired coder seg c e)

slot_retired :
    (coder : Coder) (seg : Segment) (c : Context) (e : SoloEvent) (told : SoloReply) (slot : Slot) (es : List SoloEvent) → KeepsSegment coder slot es
    → resets c e told ≡ false → (segment_of_slots coder seg (Some c) slot e told).retired ≡ seg.retired ++ gone_to_done (Some c) slot
slot_retired coder seg c e told None es k n = absurd k
slot_retired coder seg c e told (Some y) es k n = kept_retired coder seg c y e told n

kept_open : (coder : Coder) (slot : Slot) (es : List SoloEvent) → KeepsSegment coder slot es → (y : Context) × (slot ≡ Some y)
kept_open coder None es k = absurd k
kept_open coder (Some y) es k = (y, refl)

step_retired :
    (coder : Coder) (seg : Segment) (c : Context) (e : SoloEvent) (es : List SoloEvent) → KeepsSegment coder (solo_step coder (Some c) e).slot es
    → resets c e (solo_step coder (Some c) e).told ≡ false
    → (segment_step coder seg (Some c) e).retired ≡ seg.retired ++ gone_to_done (Some c) (solo_step coder (Some c) e).slot
unfolding segment_step
step_retired coder seg c e es k n =
    slot_retired coder seg c e (solo_step coder (Some c) e).told (solo_step coder (Some c) e).slot es k n

retired_from : (coder : Coder) (seg : Segment) (c : Context) (es : List SoloEvent) → KeepsSegment coder (Some c) es → (segment_after coder seg (Some c) es).retired ≡ seg.retired ++ done_in coder (Some c) es
retired_from coder seg c [] k = sym (append-nil seg.retired)
retired_from coder seg c (e ∷ es) k =
    let slot = (solo_step coder (Some c) e).slot in
    let next = segment_step coder seg (Some c) e in
    let y = kept_open coder slot es k.1 in
    let rest : (segment_after coder next slot es).retired ≡ next.retired ++ done_in coder slot es =
    subst (λ z. (segment_after coder next z es).retired ≡ next.retired ++ done_in coder z es) (sym y.1) (retired_from coder next y.0 es (subst (λ z. KeepsSegment coder z es) y.1 k.1)) in
    rest ∙ (ap (λ l. l ++ done_in coder slot es) (step_retired coder seg c e es k.1 k.0) ∙ append_assoc seg.retired (gone_to_done (Some c) slot) (done_in coder slot es))

pub segment_append : (coder : Coder) (seg : Segment) (s : Slot) (es fs : List SoloEvent) → segment_after coder seg s (es ++ fs) ≡ segment_after coder (segment_after coder seg s es) (solo_slot coder s es) fs
segment_append coder seg s [] fs = refl
segment_append coder seg s (e ∷ es) fs =
    segment_append coder (segment_step coder seg s e) (solo_step coder s e).slot es fs

pub done_is_retired : DoneIsRetired
done_is_retired coder events more c at k =
    ap (λ z. z.retired) (segment_append coder (fresh_segment []) None events more) ∙ (ap (λ z. (segment_after coder (segment_of coder events) z more).retired) at ∙ retired_from coder (segment_of coder events) c more k)
