-- Each result of a segment was given by a finish without a fault, since only such a finish adds one; so there are no fewer
-- finishes than results.
use Rattle.std.proofs.Common.{ℕ, ◌≡◌, ◌≤◌, ◌+◌, Bool, true, false, cond, Option, Some, None, List, [], ◌∷◌, ◌++◌, length, refl, sym, ap, subst, arith, length-append, append_assoc}
use Rattle.std.proofs.lemmas.List.{append-nil}
use Rattle.vc_base.specs.declared.Stamp.{Stamp}
use Rattle.vc_base.specs.declared.Fourcc.{Fourcc}
use Rattle.vc_defs.specs.Decoder.{FrameResult, moved_result}
use Rattle.vc_model.specs.Coder.{the_coder}
use Rattle.vc_model.specs.Context.{Context, Slot, Running}
use Rattle.vc_model.specs.Runs.{job_data, RunResult, copied, encoded, decoded, run_result}
use Rattle.vc_model.specs.Solo.{SoloEvent, Called, Claims, Finishes, SoloReply, solo_step, solo_finish}
use Rattle.vc_laws.specs.Segments.{Segment, SegmentResult, fresh_segment, resets, sources_added, with_result, after_run, after_job, after_event, segment_of_slots, segment_step, segment_of}
use Rattle.vc_laws.proofs.SegmentsGoOn.{segment_more}
use Rattle.vc_model.specs.Drains.{done_now}
use Rattle.vc_port.specs.Payloads.{slot_after, good_finishes}
use Rattle.vc_stream_laws.proofs.OneEventMore.{count_of, finishes_more}

one_result : (results : List SegmentResult) (from : ℕ) (fourcc : Fourcc) (stamp : Stamp) (o : Option FrameResult) → length (with_result results from fourcc stamp o) ≤ length results + 1
one_result results from fourcc stamp None = omega arith
one_result results from fourcc stamp (Some r) =
    let n = length-append results (record { what = moved_result from r; stamp = stamp; fourcc = fourcc } ∷ []) in omega (arith, n)

run_results : (seg : Segment) (c : Context) (r : Running) (result : RunResult) → length (after_run seg r (job_data c r) result).results ≤ length seg.results + 1
run_results seg c r (copied bytes) = omega arith
run_results seg c r (encoded frame) = omega arith
run_results seg c r (decoded step) = one_result seg.results _ _ step.stamp step.given

job_results : (seg : Segment) (c : Context) (o : Option Running) → length (after_job the_coder seg c o).results ≤ length seg.results + count_of false (Finishes false) (solo_finish the_coder c o false).told
job_results seg c None = omega arith
job_results seg c (Some r) = run_results seg c r (run_result the_coder (job_data c r))

event_results : (seg : Segment) (c : Context) (e : SoloEvent) → length (after_event the_coder seg c e).results ≤ length seg.results + count_of false e (solo_step the_coder (Some c) e).told
unfolding solo_step
event_results seg c (Called request bytes found) = omega arith
event_results seg c Claims = omega arith
event_results seg c (Finishes true) = omega arith
event_results seg c (Finishes false) = job_results seg c c.running

either_results : (b : Bool) (ready : _) (seg : Segment) (n : ℕ) → length seg.results ≤ n → length (cond b (fresh_segment ready) seg).results ≤ n
either_results true ready seg n h = omega arith
either_results false ready seg n h = h

slots_results : (seg : Segment) (s t : Slot) (e : SoloEvent) (told : SoloReply) (n : ℕ) → ((c : Context) → s ≡ Some c → length (after_event the_coder seg c e).results ≤ n) → length (segment_of_slots the_coder seg s t e told).results ≤ n
slots_results seg None t e told n h = omega arith
slots_results seg (Some c) None e told n h = omega arith
slots_results seg (Some c) (Some y) e told n h =
    let ran = after_event the_coder seg c e in
    either_results (resets c e told) y.out.ready (record ran { sources = ran.sources ++ sources_added c y e told; retired = ran.retired ++ done_now c y }) n (h c refl)

step_results : (seg : Segment) (s : Slot) (e : SoloEvent) → length (segment_step the_coder seg s e).results ≤ length seg.results + count_of false e (solo_step the_coder s e).told
unfolding segment_step
step_results seg s e =
    slots_results seg s (solo_step the_coder s e).slot e (solo_step the_coder s e).told
    (length seg.results + count_of false e (solo_step the_coder s e).told)
    (λ c p. subst (λ z. length (after_event the_coder seg c e).results ≤ length seg.results + count_of false e (solo_step the_coder z e).told)
    (sym p) (event_results seg c e))

CountedAfter : List SoloEvent → Type 0
CountedAfter events = length (segment_of the_coder events).results ≤ good_finishes events

one_more : (events : List SoloEvent) (e : SoloEvent) → CountedAfter events → CountedAfter (events ++ e ∷ [])
unfolding CountedAfter
one_more events e w =
    let same = ap (λ (z : Segment). length z.results) (segment_more the_coder (fresh_segment []) None events e) in
    let step = step_results (segment_of the_coder events) (slot_after events) e in
    let counted = finishes_more false events e in
    omega (arith, w, same, step, counted)

all_more : (front events : List SoloEvent) → CountedAfter front → CountedAfter (front ++ events)
all_more front [] w = subst CountedAfter (sym (append-nil front)) w
all_more front (e ∷ events) w =
    subst CountedAfter (append_assoc front (e ∷ []) events) (all_more (front ++ e ∷ []) events (one_more front e w))

none_counted : CountedAfter []
unfolding CountedAfter
none_counted = omega arith

pub results_counted : (events : List SoloEvent) → length (segment_of the_coder events).results ≤ good_finishes events
unfolding CountedAfter
results_counted events = all_more [] events none_counted
