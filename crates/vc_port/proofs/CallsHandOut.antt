-- What a call adds to the bytes handed out and to the finishes. Its claims and finishes hand out nothing, and the call
-- itself stands behind all events, so what it hands out stands behind all other bytes.
use Rattle.std.proofs.Common.{ℕ, ◌≡◌, ◌+◌, ◌≤◌, ◌++◌, ◌∷◌, [], List, Bool, false, refl, sym, ap, ◌∙◌, append_assoc, arith}
use Rattle.std.specs.Prelude.{None}
use Rattle.std.proofs.lemmas.List.{append-nil}
use Rattle.vc_base.specs.declared.Call.{Call}
use Rattle.vc_base.specs.declared.Call.TheVariants.{DqBuf}
use Rattle.vc_base.specs.declared.Side.TheVariants.{Cap}
use Rattle.vc_base.specs.declared.Reply.{Reply}
use Rattle.vc_base.specs.declared.Reply.TheVariants.{Blocked}
use Rattle.vc_model.specs.Coder.{the_coder}
use Rattle.vc_model.specs.Context.{Slot}
use Rattle.vc_model.specs.Handed.{handed_by, handed_by_call, handed_out, finishes_by_fault}
use Rattle.vc_model.specs.Solo.{SoloEvent, Called, Claims, Finishes, SoloReply, Answered, SoloEntry, solo_step, solo_run, solo_slot}
use Rattle.vc_context.specs.Payloads.{handed_over}
use Rattle.vc_port.specs.Payloads.{slot_after, told_at, bytes_out, good_finishes, AreOfJobs, with_call}
use Rattle.vc_port.specs.Laws.{CallsHandOut}

pub slot-append : (s : Slot) (es fs : List SoloEvent) → solo_slot the_coder s (es ++ fs) ≡ solo_slot the_coder (solo_slot the_coder s es) fs
slot-append s [] fs = refl
slot-append s (e ∷ es) fs = slot-append (solo_step the_coder s e).slot es fs

pub run-append : (s : Slot) (es fs : List SoloEvent) → solo_run the_coder s (es ++ fs) ≡ solo_run the_coder s es ++ solo_run the_coder (solo_slot the_coder s es) fs
run-append s [] fs = refl
run-append s (e ∷ es) fs =
    ap (λ (rs : List SoloEntry). record { event = e; told = (solo_step the_coder s e).told } ∷ rs) (run-append (solo_step the_coder s e).slot es fs)

handed-append : (xs ys : List SoloEntry) → handed_out (xs ++ ys) ≡ handed_out xs ++ handed_out ys
handed-append [] ys = refl
handed-append (x ∷ xs) ys =
    ap (λ (l : List ℕ). handed_by x.event x.told ++ l) (handed-append xs ys) ∙ sym (append_assoc (handed_by x.event x.told) (handed_out xs) (handed_out ys))

finishes-append : (xs ys : List SoloEntry) → finishes_by_fault false (xs ++ ys) ≡ finishes_by_fault false xs + finishes_by_fault false ys
finishes-append [] ys = omega arith
finishes-append (x ∷ xs) ys = omega (arith, finishes-append xs ys)

-- claims and finishes hand out nothing
jobs_hand_none : (s : Slot) (js : List SoloEvent) → AreOfJobs js → handed_out (solo_run the_coder s js) ≡ []
jobs_hand_none s [] h = refl
jobs_hand_none s (Claims ∷ js) h = jobs_hand_none (solo_step the_coder s Claims).slot js h
jobs_hand_none s (Finishes fault ∷ js) h = jobs_hand_none (solo_step the_coder s (Finishes fault)).slot js h
jobs_hand_none s (Called request bytes found ∷ js) h = absurd (cc)

bytes-append : (es fs : List SoloEvent) → bytes_out (es ++ fs) ≡ bytes_out es ++ handed_out (solo_run the_coder (slot_after es) fs)
bytes-append es fs =
    ap handed_out (run-append None es fs) ∙ handed-append (told_at es) (solo_run the_coder (slot_after es) fs)

good-append : (es fs : List SoloEvent) → good_finishes (es ++ fs) ≡ good_finishes es + finishes_by_fault false (solo_run the_coder (slot_after es) fs)
good-append es fs =
    ap (finishes_by_fault false) (run-append None es fs) ∙ finishes-append (told_at es) (solo_run the_coder (slot_after es) fs)

bytes_of_jobs : (es js : List SoloEvent) → AreOfJobs js → bytes_out (es ++ js) ≡ bytes_out es
bytes_of_jobs es js h =
    bytes-append es js ∙ (ap (λ (l : List ℕ). bytes_out es ++ l) (jobs_hand_none (slot_after es) js h) ∙ append-nil (bytes_out es))

-- Blocked hands out nothing
blocked_hands_none : (request : Call) (handed : List ℕ) → handed_by_call request Blocked handed ≡ []
blocked_hands_none (DqBuf Cap block) handed = refl
blocked_hands_none request handed = refl

bytes_of_call : (es : List SoloEvent) (request : Call) (bytes : List ℕ) (found : Bool) (told : Reply) (handed : List ℕ) →
    (solo_step the_coder (slot_after es) (Called request bytes found)).told ≡ Answered told handed →
    bytes_out (es ++ Called request bytes found ∷ []) ≡ bytes_out es ++ handed_by_call request told handed
bytes_of_call es request bytes found told handed e =
    let one : handed_out (solo_run the_coder (slot_after es) (Called request bytes found ∷ [])) ≡ handed_by_call request told handed = append-nil
    (handed_by (Called request bytes found) (solo_step the_coder (slot_after es) (Called request bytes found)).told)
    ∙ ap (λ (r : SoloReply). handed_by (Called request bytes found) r) e in
    bytes-append es (Called request bytes found ∷ []) ∙ ap (λ (l : List ℕ). bytes_out es ++ l) one

with_call_bytes : (es : List SoloEvent) (request : Call) (bytes : List ℕ) (found : Bool) (told : Reply) (handed : List ℕ) →
    (solo_step the_coder (slot_after es) (Called request bytes found)).told ≡ Answered told handed →
    bytes_out (with_call es told (Called request bytes found)) ≡ bytes_out es ++ handed_by_call request told handed
with_call_bytes es request bytes found Blocked handed e =
    sym (append-nil (bytes_out es)) ∙ ap (λ (l : List ℕ). bytes_out es ++ l) (sym (blocked_hands_none request handed))
with_call_bytes es request bytes found told handed e = bytes_of_call es request bytes found told handed e

with_call_finishes : (es : List SoloEvent) (e : SoloEvent) (told : Reply) → good_finishes es ≤ good_finishes (with_call es told e)
with_call_finishes es e Blocked = omega arith
with_call_finishes es e told = omega (arith, good-append es (e ∷ []))

pub calls_hand_out : CallsHandOut
calls_hand_out old new before after request told c =
    let event : SoloEvent = Called request (handed_over request before) c.found in
    let listed = c.events in record {
      bytes = ap bytes_out listed ∙ (with_call_bytes (old ++ c.jobs) request (handed_over request before) c.found told c.handed c.reply ∙ ap (λ (l : List ℕ). l ++ handed_by_call request told c.handed) (bytes_of_jobs old c.jobs c.of_jobs));
      finishes = let a : good_finishes new ≡ good_finishes (with_call (old ++ c.jobs) told event) = ap good_finishes listed in
          omega (arith, a, with_call_finishes (old ++ c.jobs) event told, good-append old c.jobs);
    }
