-- Close that is not answered by Blocked leaves the slot closed. It hands out nothing, and takes back no finish: the events
-- before it stand before those that it adds.
use Rattle.std.proofs.Common.{ℕ, ◌≡◌, ◌≢◌, ◌≤◌, ◌+◌, Bool, true, false, cond, is_none, Some, None, List, [], ◌∷◌, ◌++◌, refl, sym, ap, ◌∙◌, arith, append_assoc}
use Rattle.std.proofs.lemmas.List.{append-nil}
use Rattle.vc_base.specs.declared.Call.TheVariants.{Close}
use Rattle.vc_base.specs.declared.Reply.{Reply}
use Rattle.vc_base.specs.declared.Reply.TheVariants.{Done, Blocked}
use Rattle.vc_model.specs.Coder.{the_coder}
use Rattle.vc_model.specs.Context.{Slot}
use Rattle.vc_model.specs.Answer.{answer, closed_answer, context_answer, unchanged}
use Rattle.vc_model.specs.Handed.{finishes_by_fault}
use Rattle.vc_model.specs.Solo.{SoloEvent, Called, Answered, SoloEntry, solo_step, solo_run}
use Rattle.vc_queue.specs.Holds.{HoldState}
use Rattle.vc_port.specs.Payloads.{slot_after, told_at, bytes_out, with_call, IsCallOn, faulty_finishes}
use Rattle.vc_port.proofs.CallsHandOut.{slot-append, run-append, calls_hand_out}

-- Faults

faults_append : (xs ys : List SoloEntry) → finishes_by_fault true (xs ++ ys) ≡ finishes_by_fault true xs + finishes_by_fault true ys
faults_append [] ys = omega arith
faults_append (x ∷ xs) ys = omega (arith, faults_append xs ys)

-- events that go on have no fewer faults
pub faults_later : (events more : List SoloEvent) → faulty_finishes events ≤ faulty_finishes (events ++ more)
faults_later events more =
    let rest = solo_run the_coder (slot_after events) more in
    let all : faulty_finishes (events ++ more) ≡ finishes_by_fault true (told_at events ++ rest) = ap (finishes_by_fault true) (run-append None events more) in
    omega (arith, all, faults_append (told_at events) rest)

-- Close

closes : (s : Slot) (found : Bool) → (answer s Close [] found).reply ≢ Blocked → (answer s Close [] found).slot ≡ None
unfolding answer closed_answer context_answer
closes None found n = refl
closes (Some c) found n = split (is_none c.running) n
  where
    split : (t : Bool) → (cond t (record { slot = None; reply = Done; bytes = [] }) (unchanged c Blocked)).reply ≢ Blocked → (cond t (record { slot = None; reply = Done; bytes = [] }) (unchanged c Blocked)).slot ≡ None
    split true n = refl
    split false n = absurd (n refl)

one_call : (events : List SoloEvent) (told : Reply) (e : SoloEvent) → told ≢ Blocked → with_call events told e ≡ events ++ e ∷ []
one_call events Blocked e n = absurd (n refl)
one_call events told e n = refl

pub closed_after : (old : List SoloEvent) (before : HoldState) (told : Reply) (new : List SoloEvent) (after : HoldState) →
    told ≢ Blocked → IsCallOn old before Close told new after → slot_after new ≡ None
unfolding solo_step
closed_after old before told new after n c =
    let s : Slot = slot_after (old ++ c.jobs) in
    let e : SoloEvent = Called Close [] c.found in
    let reply : Answered (answer s Close [] c.found).reply (answer s Close [] c.found).bytes ≡ Answered told c.handed = c.reply in
    let same : (answer s Close [] c.found).reply ≡ told = cc in
    ap slot_after (c.events ∙ one_call (old ++ c.jobs) told e n) ∙ (slot-append None (old ++ c.jobs) (e ∷ []) ∙ closes s c.found (λ q. n (sym same ∙ q)))

pub bytes_stay : (old : List SoloEvent) (before : HoldState) (told : Reply) (new : List SoloEvent) (after : HoldState) →
    IsCallOn old before Close told new after → bytes_out new ≡ bytes_out old
bytes_stay old before told new after c =
    (calls_hand_out old new before after Close told c).bytes ∙ append-nil (bytes_out old)

pub faults_stay : (old : List SoloEvent) (before : HoldState) (told : Reply) (new : List SoloEvent) (after : HoldState) →
    told ≢ Blocked → IsCallOn old before Close told new after → faulty_finishes old ≤ faulty_finishes new
faults_stay old before told new after n c =
    let e : SoloEvent = Called Close [] c.found in
    let same = ap faulty_finishes (c.events ∙ (one_call (old ++ c.jobs) told e n ∙ append_assoc old c.jobs (e ∷ []))) in
    omega (arith, same, faults_later old (c.jobs ++ e ∷ []))
