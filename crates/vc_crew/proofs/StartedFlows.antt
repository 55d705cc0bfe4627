-- A flow whose thread was started, or not, is the flow that was handed over: where it comes back, it may still be run.
use Rattle.std.proofs.Common.{ℕ, ◌≡◌, ◌∙◌, Option, None, Result, Ok, Err, List, sym, ap, subst}
use Rattle.std.specs.Prelude.{MatchResult, IfErr}
use Rattle.vc_model.specs.Solo.{SoloEvent}
use Rattle.vc_port.specs.Payloads.{slot_after}
use Rattle.vc_shared.specs.Handles.{DeviceId, HandleState, new_handle, slot_events}
use Rattle.vc_worker.specs.Both.{Both}
use Rattle.vc_crew.specs.Flowing.{MayFlow, HasFlowed}

-- a flow on a handle that has seen nothing
pub may_begin : {F : Type 0} (may : F → Type 0) (device : DeviceId) (number : ℕ) (handle : HandleState) (flow : F) → handle ≡ new_handle device number → may flow → MayFlow may device handle flow
may_begin may device number handle flow fresh allowed =
    (ap (λ (h : HandleState). h.device.lock) fresh, ap (λ (h : HandleState). slot_after (slot_events h)) fresh, allowed)

-- the same flow on the same handle
pub may_still : {F : Type 0} (may : F → Type 0) (device : DeviceId) (handle handle' : HandleState) (flow flow' : F) → MayFlow may device handle flow → handle' ≡ handle → flow' ≡ flow → MayFlow may device handle' flow'
may_still may device handle handle' flow flow' allowed h f =
    subst (λ x. MayFlow may device handle' x) (sym f) (subst (λ x. MayFlow may device x flow) (sym h) allowed)

-- what came back as an error
pub given_up : {T E : Type 0} (D : T → Type 0) (Q P : E → Type 0) (r : Result T E) → MatchResult r D Q → ((e : E) → Q e → P e) → IfErr r P
given_up D Q P (Ok x) m step = tt
given_up D Q P (Err e) m step = step e m

pub of_ok : {T E : Type 0} (D : T → Type 0) (Q : E → Type 0) (r : Result T E) (x : T) → MatchResult r D Q → r ≡ Ok x → D x
of_ok D Q r x m e = subst (λ o. MatchResult o D Q) e m

pub of_err : {T E : Type 0} (D : T → Type 0) (Q : E → Type 0) (r : Result T E) (x : E) → MatchResult r D Q → r ≡ Err x → Q x
of_err D Q r x m e = subst (λ o. MatchResult o D Q) e m

-- the flow ran in its thread, or behind it
pub ran_behind :
    {T C F End : Type 0} (does : F → List SoloEvent → List SoloEvent → End → F → Type 0) (flow_of : T → F) (end_of : T → End)
    (handle_of : T → HandleState) (flow_in : C → F) (handle_in : C → HandleState) (r : Result T C) (begun flow : F) (at handle : HandleState)
    (done : T)
    → MatchResult r (λ d. HasFlowed does begun (flow_of d) (end_of d) at (handle_of d)) (λ c. (handle_in c ≡ at) × (flow_in c ≡ begun))
    → MatchResult r (λ d. done ≡ d) (λ c. HasFlowed does (flow_in c) (flow_of done) (end_of done) (handle_in c) (handle_of done)) → at ≡ handle
    → begun ≡ flow → HasFlowed does flow (flow_of done) (end_of done) handle (handle_of done)
ran_behind does flow_of end_of handle_of flow_in handle_in (Ok d) begun flow at handle done kept is h f =
    subst (λ x. HasFlowed does x (flow_of done) (end_of done) handle (handle_of done)) f
    (subst (λ x. HasFlowed does begun (flow_of done) (end_of done) x (handle_of done)) h (subst (λ d. HasFlowed does begun (flow_of d) (end_of d) at (handle_of d)) (sym is) kept))
ran_behind does flow_of end_of handle_of flow_in handle_in (Err c) begun flow at handle done kept is h f =
    subst (λ x. HasFlowed does x (flow_of done) (end_of done) handle (handle_of done)) (kept.1 ∙ f) (subst (λ x. HasFlowed does (flow_in c) (flow_of done) (end_of done) x (handle_of done)) (kept.0 ∙ h) is)

pub flowed_as :
    {F End : Type 0} (does : F → List SoloEvent → List SoloEvent → End → F → Type 0) (flow flow' begun : F) (end : End) (handle handle' at : HandleState)
    → HasFlowed does begun flow' end at handle' → at ≡ handle → begun ≡ flow → HasFlowed does flow flow' end handle handle'
flowed_as does flow flow' begun end handle handle' at flowed h f =
    subst (λ x. HasFlowed does x flow' end handle handle') f (subst (λ x. HasFlowed does begun flow' end x handle') h flowed)

pub neither : {A : Type 0} (R : A → A → Type 0) (a b : Option A) → a ≡ None → b ≡ None → Both R a b
neither R a b x y =
    subst (λ o. Both R o b) (sym x) (subst (λ o. Both R None o) (sym y) tt)
