-- What becomes of a mark in a step: it stays, is removed, or is set by a STOP behind all that was queued. So a drain
-- begins at a STOP alone, a mark stays as it was set, and only a StreamOff or a Close takes it away before its end.
use Rattle.std.proofs.Common.{ℕ, ◌≡◌, Bool, true, false, not, ◌&&◌, is_none, is_some, ap, Option, Some, None, List, refl, sym, ◌∙◌, subst, ◌⊎◌, inl, inr, ⊎_elim}
use Rattle.vc_base.specs.declared.Call.{Call}
use Rattle.vc_base.specs.declared.Reply.{Reply}
use Rattle.vc_base.specs.Buffers.{Buffer, taken}
use Rattle.vc_model.specs.Coder.{Coder}
use Rattle.vc_model.specs.Context.{Context, Slot, Cause, drain, change, PhaseState, run, owe, last, stopped}
use Rattle.vc_model.specs.Answer.{mark_after_restart}
use Rattle.vc_model.specs.Runs.{JobData, RunResult}
use Rattle.vc_model.specs.Solo.{SoloEvent, Called, SoloReply, Answered, solo_step}
use Rattle.vc_model.specs.Sound.{IsOrdered, IsOrderedSlot}
use Rattle.vc_model.proofs.PartsOfTests.{and_both}
use Rattle.vc_model.proofs.EventsKeepSound.{always_ordered}
use Rattle.vc_laws.specs.Drains.{is_stop, is_stop_call, DrainsBeginAtStop, MarksStay, aborts_drain, is_off, AbortedByOff}
use Rattle.vc_model.specs.Drains.{is_last_by_drain, takes_capture}
use Rattle.std.proofs.lemmas.Bool.{false≢true}
use Rattle.vc_base.specs.declared.Side.TheVariants.{Cap}
use Rattle.vc_base.specs.declared.Call.TheVariants.{DqBuf}
use Rattle.vc_laws.proofs.EffectsOfCalls.{Settles, still, owes, gives, MarkAfterLast, Effect, stays, closes, has_events, has_rates, has_out_format}
use Rattle.vc_laws.proofs.EffectsOfCalls.{has_cap_format, has_out_buffers, has_cap_buffers, adds_out, adds_cap, queues_out, queues_cap, takes_out, takes_cap}
use Rattle.vc_laws.proofs.EffectsOfCalls.{takes_last, streams_out, streams_cap, stops_out, stops_cap, rests_cap, sets_mark, starts}
use Rattle.vc_laws.proofs.EffectsOfEvents.{Ends, alone, kept, ended, halts, spends, Step, calls, rests, lacks_job, claims, finishes, faults, step_of}

-- the mark is the same, is gone, or is set by a STOP
abbrev MarkIs : Context → SoloEvent → SoloReply → Option ℕ → Type 0
MarkIs c e told mark = (mark ≡ c.mark) ⊎ ((mark ≡ None) ⊎ ((c.mark ≡ None) × (mark ≡ Some c.out.next_ordinal) × (is_stop e told ≡ true)))

MarkAfter : Context → SoloEvent → SoloReply → Slot → Type 0
MarkAfter c e told None = Unit {0}
MarkAfter c e told (Some y) = MarkIs c e told y.mark

settled_mark : (x y : Context) → Settles x y → y.mark ≡ x.mark
settled_mark x y still = refl
settled_mark x y (owes p r) = refl
settled_mark x y (gives cause b rest events r p) = refl

ended_mark : (c : Context) (j : JobData) (b : Buffer) {result : Option RunResult} (x : Context) → Ends c j b result x → x.mark ≡ c.mark
ended_mark c j b x (alone up flags cursor codec used bytes dest_flags stamp p n) = refl
ended_mark c j b x (kept up flags cursor codec used bytes dest_flags stamp d p n) = refl
ended_mark c j b x (ended flags cursor codec used bytes dest_flags stamp d up p u n m) = refl
ended_mark c j b x (halts step r geometry k phase events g t q p) = refl
ended_mark c j b x (spends step k g q) = refl

taken_mark : (c : Context) (e : SoloEvent) (told : SoloReply) (cause : Cause) (mark : Option ℕ) → MarkAfterLast cause c.mark mark → MarkIs c e told mark
taken_mark c e told drain mark m = inr (inl m)
taken_mark c e told change mark m = inl m

restarted_mark : (c : Context) (e : SoloEvent) (told : SoloReply) (phase : PhaseState) → MarkIs c e told (mark_after_restart phase c.mark)
restarted_mark c e told run = inr (inl refl)
restarted_mark c e told (owe drain) = inr (inl refl)
restarted_mark c e told (owe change) = inl refl
restarted_mark c e told (last drain) = inr (inl refl)
restarted_mark c e told (last change) = inl refl
restarted_mark c e told (stopped drain) = inr (inl refl)
restarted_mark c e told (stopped change) = inl refl

effect_mark : (c : Context) {request : Call} {bytes : List ℕ} {reply : Reply} {slot : Slot} (found : Bool) (handed : List ℕ) → Effect c request bytes reply slot → MarkAfter c (Called request bytes found) (Answered reply handed) slot
unfolding MarkAfter
effect_mark c found handed (stays n) = inl refl
effect_mark c found handed (closes n) = tt
effect_mark c found handed (has_events events n) = inl refl
effect_mark c found handed (has_rates rates) = inl refl
effect_mark c found handed (has_out_format codec geometry o q k) = inl refl
effect_mark c found handed (has_cap_format q) = inl refl
effect_mark c found handed (has_out_buffers size codec geometry o k) = inl refl
effect_mark c found handed (has_cap_buffers size o) = inl refl
effect_mark c found handed adds_out = inl refl
effect_mark c found handed adds_cap = inl refl
effect_mark c found handed (queues_out b e) = inl refl
effect_mark c found handed (queues_cap b y e s) = inl (settled_mark _ y s)
effect_mark c found handed (takes_out b rest d) = inl refl
effect_mark c found handed (takes_cap b rest d n l) = inl refl
effect_mark c {request = request} {bytes = bytes} {reply = reply} found handed (takes_last b cause mark d p m) =
    taken_mark c (Called request bytes found) (Answered reply handed) cause mark m
effect_mark c found handed streams_out = inl refl
effect_mark c found handed (streams_cap y s) = inl (settled_mark _ y s)
effect_mark c found handed (stops_out codec n k) = inr (inl refl)
effect_mark c {request = request} {bytes = bytes} {reply = reply} found handed (stops_cap codec n t k) =
    restarted_mark c (Called request bytes found) (Answered reply handed) c.phase
effect_mark c found handed (rests_cap n o) = inl refl
effect_mark c {request = request} found handed (sets_mark y n t b m d s) =
    inr (inr (m, settled_mark _ y s, and_both (is_stop_call request) true t refl))
effect_mark c found handed (starts y n i b t s) = inl (settled_mark _ y s)

step_mark : (coder : Coder) (c : Context) {e : SoloEvent} {told : SoloReply} {slot : Slot} → Step coder c e told slot → MarkAfter c e told slot
unfolding MarkAfter
step_mark coder c (calls {found = found} {handed = handed} e) = effect_mark c found handed e
step_mark coder c rests = inl refl
step_mark coder c (lacks_job n) = inl refl
step_mark coder c (claims b rest k r n o j p d q) = inl refl
step_mark coder c (finishes r x y job ends s w) = inl (settled_mark x y s ∙ ended_mark c _ job.source x ends)
step_mark coder c (faults r x y job ends s) = inl (settled_mark x y s ∙ ended_mark c _ job.source x ends)

mark_at : (coder : Coder) (c y : Context) (e : SoloEvent) → IsOrdered c → (solo_step coder (Some c) e).slot ≡ Some y → MarkIs c e (solo_step coder (Some c) e).told y.mark
unfolding MarkAfter
mark_at coder c y e s next = subst (MarkAfter c e (solo_step coder (Some c) e).told) next (step_mark coder c (step_of coder c e s))

set_now : (old new : Option ℕ) → (is_none old && is_some new) ≡ true → (new ≡ old → ⊥) × (new ≡ None → ⊥)
set_now None None e = absurd (false≢true e)
set_now None (Some m) e = (λ p. cc, λ p. cc)
set_now (Some m) new e = absurd (false≢true e)

pub drains_begin : DrainsBeginAtStop
drains_begin coder events e before after at next begins =
    let new = set_now before.mark after.mark begins in
    ⊎_elim (λ (p : after.mark ≡ before.mark). absurd (new.0 p))
    (λ (p : (after.mark ≡ None) ⊎ ((before.mark ≡ None) × (after.mark ≡ Some before.out.next_ordinal) × (is_stop e (solo_step coder (Some before) e).told ≡ true))).
    ⊎_elim (λ (q : after.mark ≡ None). absurd (new.1 q))
    (λ (q : (before.mark ≡ None) × (after.mark ≡ Some before.out.next_ordinal) × (is_stop e (solo_step coder (Some before) e).told ≡ true)). (q.2, q.1))
    p)
    (mark_at coder before after e (subst IsOrderedSlot at (always_ordered coder events)) next)

pub marks_stay : MarksStay
marks_stay coder events e before after at next mark some =
    ⊎_elim (λ (p : after.mark ≡ before.mark). inl (p ∙ some))
    (λ (p : (after.mark ≡ None) ⊎ ((before.mark ≡ None) × (after.mark ≡ Some before.out.next_ordinal) × (is_stop e (solo_step coder (Some before) e).told ≡ true))).
    ⊎_elim (λ (q : after.mark ≡ None). inr q)
    (λ (q : (before.mark ≡ None) × (after.mark ≡ Some before.out.next_ordinal) × (is_stop e (solo_step coder (Some before) e).told ≡ true)). absurd (let t : None ≡ Some mark = sym q.0 ∙ some in cc))
    p)
    (mark_at coder before after e (subst IsOrderedSlot at (always_ordered coder events)) next)

-- Drains that are aborted

OffSlot : Context → SoloEvent → SoloReply → Slot → Type 0
OffSlot c e told slot = aborts_drain (Some c) e told slot ≡ true → is_off e told ≡ true

kept_clash : {A : Type 0} → (mark : Option ℕ) (b : Bool) → (is_some mark && (is_none mark && b)) ≡ true → A
kept_clash None b e = absurd (false≢true e)
kept_clash (Some m) b e = absurd (false≢true e)

-- a mark that stays
same_off : (c y : Context) (e : SoloEvent) (told : SoloReply) → y.mark ≡ c.mark → OffSlot c e told (Some y)
unfolding OffSlot
same_off c y e told m a =
    kept_clash c.mark (not (is_last_by_drain c.phase && takes_capture e told)) (ap (λ n. is_some c.mark && (is_none n && not (is_last_by_drain c.phase && takes_capture e told))) (sym m) ∙ a)

is_off_at : (c : Context) (e : SoloEvent) (told : SoloReply) (slot : Slot) → is_off e told ≡ true → OffSlot c e told slot
unfolding OffSlot
is_off_at c e told slot o a = o

set_clash : {A : Type 0} → (a b : Bool) → (a && (false && b)) ≡ true → A
set_clash true b e = absurd (false≢true e)
set_clash false b e = absurd (false≢true e)

set_off : (c y : Context) (m : ℕ) (e : SoloEvent) (told : SoloReply) → y.mark ≡ Some m → OffSlot c e told (Some y)
unfolding OffSlot
set_off c y m e told s a =
    set_clash (is_some c.mark) (not (is_last_by_drain c.phase && takes_capture e told)) (ap (λ n. is_some c.mark && (is_none n && not (is_last_by_drain c.phase && takes_capture e told))) (sym s) ∙ a)

taken_clash : {A : Type 0} → (a b : Bool) → (a && (b && false)) ≡ true → A
taken_clash true true e = absurd (false≢true e)
taken_clash true false e = absurd (false≢true e)
taken_clash false b e = absurd (false≢true e)

taken_off :
    (c y : Context) (cause : Cause) (block : Bool) (b : Buffer) (bytes : List ℕ) (found : Bool) (handed : List ℕ) → c.phase ≡ last cause
    → MarkAfterLast cause c.mark y.mark → OffSlot c (Called (DqBuf Cap block) bytes found) (Answered (taken b) handed) (Some y)
unfolding OffSlot
taken_off c y drain block b bytes found handed p m a =
    taken_clash (is_some c.mark) (is_none y.mark) (ap (λ q. is_some c.mark && (is_none y.mark && not (is_last_by_drain q && true))) (sym p) ∙ a)
taken_off c y change block b bytes found handed p m a =
    kept_clash c.mark (not (is_last_by_drain c.phase && true)) (ap (λ n. is_some c.mark && (is_none n && not (is_last_by_drain c.phase && true))) (sym m) ∙ a)

effect_off : (c : Context) {request : Call} {bytes : List ℕ} {reply : Reply} {slot : Slot} (found : Bool) (handed : List ℕ) → Effect c request bytes reply slot → OffSlot c (Called request bytes found) (Answered reply handed) slot
effect_off c found handed (stays n) = same_off c c _ _ refl
effect_off c found handed (closes n) = is_off_at c _ _ None refl
effect_off c found handed (has_events events n) = same_off c (record c { events = events }) _ _ refl
effect_off c found handed (has_rates rates) = same_off c (record c { rates = rates }) _ _ refl
effect_off c found handed (has_out_format codec geometry o q k) = same_off c _ _ _ refl
effect_off c found handed (has_cap_format q) = same_off c _ _ _ refl
effect_off c found handed (has_out_buffers size codec geometry o k) = same_off c _ _ _ refl
effect_off c found handed (has_cap_buffers size o) = same_off c _ _ _ refl
effect_off c found handed adds_out = same_off c _ _ _ refl
effect_off c found handed adds_cap = same_off c _ _ _ refl
effect_off c found handed (queues_out b e) = same_off c _ _ _ refl
effect_off c found handed (queues_cap b y e s) = same_off c y _ _ (settled_mark _ y s)
effect_off c found handed (takes_out b rest d) = same_off c _ _ _ refl
effect_off c found handed (takes_cap b rest d n l) = same_off c _ _ _ refl
effect_off c found handed (takes_last {block = block} {bytes = bytes} b cause mark d p m) =
    taken_off c _ cause block b bytes found handed p m
effect_off c found handed streams_out = same_off c _ _ _ refl
effect_off c found handed (streams_cap y s) = same_off c y _ _ (settled_mark _ y s)
effect_off c found handed (stops_out codec n k) = is_off_at c _ _ _ refl
effect_off c found handed (stops_cap codec n t k) = is_off_at c _ _ _ refl
effect_off c found handed (rests_cap n o) = is_off_at c _ _ _ refl
effect_off c found handed (sets_mark y n t b m d s) = set_off c y c.out.next_ordinal _ _ (settled_mark _ y s)
effect_off c found handed (starts y n i b t s) = same_off c y _ _ (settled_mark _ y s)

step_off : (coder : Coder) (c : Context) {e : SoloEvent} {told : SoloReply} {slot : Slot} → Step coder c e told slot → OffSlot c e told slot
step_off coder c (calls {found = found} {handed = handed} e) = effect_off c found handed e
step_off coder c rests = same_off c c _ _ refl
step_off coder c (lacks_job n) = same_off c c _ _ refl
step_off coder c (claims b rest k r n o j p d q) = same_off c _ _ _ refl
step_off coder c (finishes r x y job ends s w) =
    same_off c y _ _ (settled_mark x y s ∙ ended_mark c _ job.source x ends)
step_off coder c (faults r x y job ends s) =
    same_off c y _ _ (settled_mark x y s ∙ ended_mark c _ job.source x ends)

pub aborted_by_off : AbortedByOff
unfolding OffSlot
aborted_by_off coder events e before at =
    step_off coder before (step_of coder before e (subst IsOrderedSlot at (always_ordered coder events)))
