-- How a segment goes on in a step: it stays, begins anew, or gets what a run added. So a fact that holds when a
-- segment begins and is left by every kind of step holds after every list of events.
use Rattle.std.proofs.Common.{◌≡◌, Bool, true, false, cond, Some, None, List, [], ◌∷◌, ◌++◌, length, drop, refl, ap, ◌∙◌}
use Rattle.std.proofs.Math.Seq.{drop-length}
use Rattle.std.specs.Prelude.{ℕ}
use Rattle.vc_base.specs.declared.Side.TheVariants.{Out}
use Rattle.vc_base.specs.declared.Call.{Call}
use Rattle.vc_base.specs.declared.Call.TheVariants.{QBuf}
use Rattle.vc_base.specs.declared.Reply.{Reply}
use Rattle.vc_base.specs.declared.Reply.TheVariants.{Done}
use Rattle.vc_base.specs.Buffers.{Buffer}
use Rattle.vc_model.specs.Coder.{Coder}
use Rattle.vc_model.specs.Context.{Context, Slot, Running}
use Rattle.vc_model.specs.Runs.{job_data, run_result}
use Rattle.vc_model.specs.Places.{is_honest, AreHonest}
use Rattle.vc_model.specs.Solo.{SoloEvent, Called, Finishes, Answered, Finished, Nothing, solo_step, solo_run, solo_slot}
use Rattle.vc_model.specs.Sound.{IsOrderedSlot}
use Rattle.vc_model.specs.Drains.{done_now}
use Rattle.vc_model.proofs.EventsKeepSound.{step_sound}
use Rattle.vc_laws.specs.Segments.{Segment, fresh_segment, call_resets, call_adds, after_run, after_job, segment_of_step, segment_of_slots, segment_step, segment_after}
use Rattle.vc_laws.proofs.OpenContextsAreTidy.{TidySlot, slot_tidy}

-- One more event

pub slot_more : (coder : Coder) (s : Slot) (es : List SoloEvent) (e : SoloEvent) → solo_slot coder s (es ++ e ∷ []) ≡ (solo_step coder (solo_slot coder s es) e).slot
slot_more coder s [] e = refl
slot_more coder s (x ∷ es) e = slot_more coder (solo_step coder s x).slot es e

pub segment_more : (coder : Coder) (seg : Segment) (s : Slot) (es : List SoloEvent) (e : SoloEvent) → segment_after coder seg s (es ++ e ∷ []) ≡ segment_step coder (segment_after coder seg s es) (solo_slot coder s es) e
segment_more coder seg s [] e = refl
segment_more coder seg s (x ∷ es) e = segment_more coder (segment_step coder seg s x) (solo_step coder s x).slot es e

-- the segment after a step of an open slot that stays open
pub open_step : (coder : Coder) (seg : Segment) (c y : Context) (e : SoloEvent) → (solo_step coder (Some c) e).slot ≡ Some y → segment_step coder seg (Some c) e ≡ segment_of_step coder seg c y e (solo_step coder (Some c) e).told
unfolding segment_step
open_step coder seg c y e next = ap (λ s. segment_of_slots coder seg (Some c) s e (solo_step coder (Some c) e).told) next

-- Calls

pub adds_none : (c y : Context) (request : Call) (reply : Reply) → y.out.ready ≡ c.out.ready → call_adds c y request reply ≡ []
adds_none c y (QBuf Out index used stamp) Done e = ap (λ l. drop (length c.out.ready) l) e ∙ drop-length c.out.ready
adds_none c y (QBuf Out index used stamp) reply e = refl
adds_none c y request reply e = refl

-- a call that resets nothing
pub goes_on :
    (coder : Coder) (seg : Segment) (c y : Context) (request : Call) (bytes : List ℕ) (found : Bool) (reply : Reply) (handed : List ℕ) (added : List Buffer)
    → call_resets c request reply ≡ false → call_adds c y request reply ≡ added
    → segment_of_step coder seg c y (Called request bytes found) (Answered reply handed) ≡ record seg { sources = seg.sources ++ added; retired = seg.retired ++ done_now c y }
goes_on coder seg c y request bytes found reply handed added r a =
    ap (λ b. cond b (fresh_segment y.out.ready) (record seg { sources = seg.sources ++ call_adds c y request reply; retired = seg.retired ++ done_now c y })) r
    ∙ ap (λ l. record seg { sources = seg.sources ++ l; retired = seg.retired ++ done_now c y }) a

-- a call that resets the codec state
pub begins_anew :
    (coder : Coder) (seg : Segment) (c y : Context) (request : Call) (bytes : List ℕ) (found : Bool) (reply : Reply) (handed : List ℕ)
    → call_resets c request reply ≡ true
    → segment_of_step coder seg c y (Called request bytes found) (Answered reply handed) ≡ fresh_segment y.out.ready
begins_anew coder seg c y request bytes found reply handed r =
    ap (λ b. cond b (fresh_segment y.out.ready) (record seg { sources = seg.sources ++ call_adds c y request reply; retired = seg.retired ++ done_now c y })) r

-- the segment of a finish with a job, and without one
pub finished_segment :
    (coder : Coder) (seg : Segment) (c y : Context) (r : Running) (word : List ℕ) → c.running ≡ Some r
    → segment_of_step coder seg c y (Finishes false) (Finished word)
    ≡ record (after_run seg r (job_data c r) (run_result coder (job_data c r)))
    { sources = (after_run seg r (job_data c r) (run_result coder (job_data c r))).sources ++ []; retired = (after_run seg r (job_data c r) (run_result coder (job_data c r))).retired ++ done_now c y }
finished_segment coder seg c y r word e =
    ap (λ o. record (after_job coder seg c o) { sources = (after_job coder seg c o).sources ++ []; retired = (after_job coder seg c o).retired ++ done_now c y }) e

pub nothing_segment :
    (coder : Coder) (seg : Segment) (c : Context) (fault : Bool) → c.running ≡ None
    → segment_of_step coder seg c c (Finishes fault) Nothing ≡ record seg { sources = seg.sources ++ []; retired = seg.retired ++ done_now c c }
nothing_segment coder seg c true e = refl
nothing_segment coder seg c false e =
    ap (λ o. record (after_job coder seg c o) { sources = (after_job coder seg c o).sources ++ []; retired = (after_job coder seg c o).retired ++ done_now c c }) e

-- Runs

pub always_holds :
    (coder : Coder) (P : Segment → Slot → Type 0)
    → ((seg : Segment) (s : Slot) (e : SoloEvent) → IsOrderedSlot s → TidySlot s → P seg s → P (segment_step coder seg s e) (solo_step coder s e).slot)
    → (seg : Segment) (s : Slot) (es : List SoloEvent) → IsOrderedSlot s → TidySlot s → P seg s
    → P (segment_after coder seg s es) (solo_slot coder s es)
always_holds coder P step seg s [] h t p = p
always_holds coder P step seg s (e ∷ es) h t p =
    always_holds coder P step (segment_step coder seg s e) (solo_step coder s e).slot es (step_sound coder s e h) (slot_tidy coder s e h t) (step seg s e h t p)

-- the same of runs whose bytes are as many as their calls say
pub holds_if_honest :
    (coder : Coder) (P : Segment → Slot → Type 0)
    → ((seg : Segment) (s : Slot) (e : SoloEvent) → is_honest e (solo_step coder s e).told ≡ true → IsOrderedSlot s → TidySlot s → P seg s → P (segment_step coder seg s e) (solo_step coder s e).slot)
    → (seg : Segment) (s : Slot) (es : List SoloEvent) → AreHonest (solo_run coder s es) → IsOrderedSlot s → TidySlot s → P seg s
    → P (segment_after coder seg s es) (solo_slot coder s es)
holds_if_honest coder P step seg s [] a h t p = p
holds_if_honest coder P step seg s (e ∷ es) a h t p =
    holds_if_honest coder P step (segment_step coder seg s e) (solo_step coder s e).slot es a.1 (step_sound coder s e h) (slot_tidy coder s e h t) (step seg s e a.0 h t p)
