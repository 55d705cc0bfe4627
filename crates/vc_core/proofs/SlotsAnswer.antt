-- A slot answers as its content does: closed, or by the context of its kind. Each content stands for the slot of the
-- definitions, and a step of it is a step of the slot.
use Rattle.std.proofs.Common.{Box, Global, ℕ, zero, suc, ◌≡◌, Bool, true, false, cond, Option, Some, None, List, [], length, get_or, refl, sym, ap, ◌∙◌, subst}
use Rattle.std.specs.Prelude.{is_some, is_none, replicate}
use Rattle.std.specs.Option.{option_map}
use Rattle.std.proofs.lemmas.Bool.{false≢true}
use Rattle.vc_base.specs.declared.Kind.{Kind}
use Rattle.vc_base.specs.declared.Errno.TheVariants.{NoMem, NoTty}
use Rattle.vc_base.specs.declared.Call.{Call}
use Rattle.vc_base.specs.declared.Call.TheVariants.{Open, Close}
use Rattle.vc_base.specs.declared.Reply.{Reply}
use Rattle.vc_base.specs.declared.Reply.TheVariants.{Done, Refused, Blocked}
use Rattle.vc_model.specs.Context.{Context, Slot, Running, fresh_context}
use Rattle.vc_model.specs.Answer.{Answer, answer, closed_answer, context_answer, unchanged}
use Rattle.vc_model.specs.Runs.{is_claimable}
use Rattle.vc_queue.specs.Holds.{HoldState}
use Rattle.vc_core.specs.declared.slot.Content.{Content}
use Rattle.vc_core.specs.declared.slot.Content.TheVariants.{Closed, Copying, Encoding, Decoding}
use Rattle.vc_copy.specs.declared.Copier.{Copier}
use Rattle.vc_enc.specs.declared.Encoder.{Encoder}
use Rattle.vc_dec.specs.declared.Decoder.{Decoder}
use Rattle.vc_core.specs.Contents.{slot_state}
use Rattle.vc_context.specs.Contexts.{GivesWithMemory, IsStep}
use Rattle.vc_core.specs.Slots.{IsAnswer, IsStepOfSlot, opened_kind}
use Rattle.vc_context.specs.Payloads.{HoldsNothing, FitsContext, FitsSlot, empty_hold}

pub closed_view : (content : Content) (s : Slot) → slot_state content ≡ s → content ≡ Closed → s ≡ None
closed_view content s view e = sym view ∙ ap slot_state e

pub opens : (s : Slot) (kind : Kind) (new : Slot) → s ≡ None → new ≡ Some (fresh_context kind) → IsAnswer s (Open kind) [] Done new
unfolding answer closed_answer
opens s kind new e n =
    rw (e, n) (record { found = true; reply = refl; slot = refl; want = λ w. absurd (false≢true (sym w)) })

pub no_room : (s : Slot) (kind : Kind) → s ≡ None → IsAnswer s (Open kind) [] (Refused NoMem) s
unfolding answer closed_answer
no_room s kind e =
    rw e (record { found = false; reply = refl; slot = refl; want = λ w. refl })

pub close_closed : (s : Slot) → s ≡ None → IsAnswer s Close [] (Refused NoTty) s
unfolding answer closed_answer
close_closed s e =
    rw e (record { found = true; reply = refl; slot = refl; want = λ w. absurd (false≢true (sym w)) })

runs_at : (o : Option Running) → is_some o ≡ true → is_none o ≡ false
runs_at None h = absurd (false≢true h)
runs_at (Some r) h = refl

idle_at : (o : Option Running) → is_some o ≡ false → is_none o ≡ true
idle_at None h = refl
idle_at (Some r) h = absurd (false≢true (sym h))

busy_at : (c : Context) (b : Bool) → b ≡ false → let a : Answer = cond b (record { slot = None; reply = Done; bytes = [] }) (unchanged c Blocked) in (a.reply ≡ Blocked) × (a.slot ≡ Some c)
busy_at c true e = absurd (false≢true (sym e))
busy_at c false e = (refl, refl)

gone_at : (c : Context) (b : Bool) → b ≡ true → let a : Answer = cond b (record { slot = None; reply = Done; bytes = [] }) (unchanged c Blocked) in (a.reply ≡ Done) × (a.slot ≡ None)
gone_at c true e = (refl, refl)
gone_at c false e = absurd (false≢true e)

running_at : (s : Slot) (b : Bool) → option_map (λ (c : Context). is_some c.running) s ≡ Some b → (c : Context) × (s ≡ Some c) × (is_some c.running ≡ b)
running_at None b e = cc
running_at (Some c) b e = (c, refl, (let r : is_some c.running ≡ b = cc in r))

pub close_blocked : (s : Slot) → Some true ≡ option_map (λ (c : Context). is_some c.running) s → IsAnswer s Close [] Blocked s
unfolding answer context_answer
close_blocked s h =
    let r = running_at s true (sym h) in
    let a = busy_at r.0 (is_none r.0.running) (runs_at r.0.running r.2) in
    rw r.1 (record { found = true; reply = a.0; slot = a.1; want = λ w. absurd (false≢true (sym w)) })

pub close_done : (s : Slot) → Some false ≡ option_map (λ (c : Context). is_some c.running) s → IsAnswer s Close [] Done None
unfolding answer context_answer
close_done s h =
    let r = running_at s false (sym h) in
    let a = gone_at r.0 (is_none r.0.running) (idle_at r.0.running r.2) in
    rw r.1 (record { found = true; reply = a.0; slot = a.1; want = λ w. absurd (false≢true (sym w)) })

pub closed_there : (s : Slot) → None ≡ option_map (λ (c : Context). is_some c.running) s → s ≡ None
closed_there None h = refl
closed_there (Some c) h = cc

-- no payload is held

none_at : (n i : ℕ) → ◌≡◌ {A = Option (List ℕ)} (get_or (replicate n None) i None) None
none_at zero i = refl
none_at (suc n) zero = refl
none_at (suc n) (suc i) = none_at n i

pub nothing_held : HoldsNothing empty_hold
nothing_held =
    record { out = λ i h. ap (option_map length) (none_at 32 i); cap = λ i h. ap (option_map length) (none_at 32 i) }

pub not_claimable : (content : Content) (s : Slot) → slot_state content ≡ s → content ≡ Closed → false ≡ is_claimable s
unfolding is_claimable
not_claimable content s view e = rw (closed_view content s view e) refl

pub never_due : {A : Type 0} → (content : Content) (s : Slot) → slot_state content ≡ s → content ≡ Closed → is_claimable s ≡ true → A
never_due content s view e h =
    absurd (false≢true (not_claimable content s view e ∙ h))

pub open_answers : (s : Slot) (c new : Context) (request : Call) (bytes : List ℕ) (told : Reply) → Some c ≡ s → GivesWithMemory (context_answer c request bytes) told new → IsAnswer s request bytes told (Some new)
unfolding answer
open_answers s c new request bytes told view g =
    rw (← view) (record { found = g.found; reply = g.gives.reply; slot = g.gives.context; want = g.want })

no_tty : (request : Call) (bytes : List ℕ) → opened_kind request ≡ None → IsAnswer None request bytes (Refused NoTty) None
unfolding answer closed_answer
no_tty (Open kind) bytes e = cc
no_tty request bytes e =
    record { found = true; reply = refl; slot = refl; want = λ w. absurd (false≢true (sym w)) }

pub closed_refuses : (s : Slot) (request : Call) (bytes : List ℕ) → s ≡ None → opened_kind request ≡ None → IsAnswer s request bytes (Refused NoTty) s
closed_refuses s request bytes e k = rw e (no_tty request bytes k)

fits_at : (kind : Kind) (found : Bool) (hold : HoldState) → HoldsNothing hold → FitsSlot (closed_answer (Open kind) found).slot hold
unfolding closed_answer
fits_at kind true hold h = record { out = h.out; cap = h.cap }
fits_at kind false hold h = h

pub opened_fits : (s new : Slot) (kind : Kind) (told : Reply) (hold : HoldState) → s ≡ None → IsAnswer s (Open kind) [] told new → FitsSlot s hold → FitsSlot new hold
unfolding answer
opened_fits s new kind told hold e a f =
    let b : IsAnswer None (Open kind) [] told new = rw e at a in
    let g : HoldsNothing hold = subst (λ (x : Slot). FitsSlot x hold) e f in
    subst (λ (x : Slot). FitsSlot x hold) b.slot (fits_at kind b.found hold g)

pub copying_view : (content : Content) (s : Slot) (copier : Box Copier Global) → slot_state content ≡ s → content ≡ Copying copier → Some copier.value ≡ s
copying_view content s copier view e = sym (ap slot_state e) ∙ view

pub encoding_view : (content : Content) (s : Slot) (encoder : Box Encoder Global) → slot_state content ≡ s → content ≡ Encoding encoder → Some encoder.value ≡ s
encoding_view content s encoder view e = sym (ap slot_state e) ∙ view

pub decoding_view : (content : Content) (s : Slot) (decoder : Box Decoder Global) → slot_state content ≡ s → content ≡ Decoding decoder → Some decoder.value ≡ s
decoding_view content s decoder view e = sym (ap slot_state e) ∙ view

pub fits_inside : (s : Slot) (c d : Context) (hold : HoldState) → Some c ≡ s → d ≡ c → FitsSlot s hold → FitsContext d hold
fits_inside s c d hold view e f =
    subst (λ (x : Context). FitsContext x hold) (sym e) (subst (λ (x : Slot). FitsSlot x hold) (sym view) f)

pub step_inside : (s : Slot) (c d new : Context) → Some c ≡ s → d ≡ c → IsStep d new → IsStepOfSlot s (Some new)
step_inside s c d new view e step =
    rw (← view, ← e) (record { kept = step.kept; counted = step.counted })
