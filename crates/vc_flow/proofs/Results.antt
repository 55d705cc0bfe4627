-- Facts of a result that hold whatever it is, or by the one way in which it stops. A fact that follows from `Ok` follows
-- where `Ok` has a stronger one, and a step that stops for want of memory alone stopped by no fault.
use Rattle.std.proofs.Common.{◌≡◌, ◌≢◌, ◌⊎◌, ℕ, ◌≤◌, arith, sym, ap, ◌∙◌, inl, inr}
use Rattle.std.specs.Prelude.{Result, Ok, Err, OnOk, OnErr, IfErr, IsErrOf, IsErrAnd}
use Rattle.vc_base.specs.Counts.{Rose}
use Rattle.vc_flow.specs.declared.ends.Stop.{Stop}
use Rattle.vc_flow.specs.declared.ends.Stop.TheVariants.{ReadFault, WriteFault, EngineFault, TooLong, NoMemory}

pub on_ok : {T E : Type 0} {X Y : Type 0} (r : Result T E) → (X → Y) → OnOk r X → OnOk r Y
on_ok (Ok v) h x = h x
on_ok (Err e) h x = tt

pub on_err : {T E : Type 0} {X : Type 0} (r : Result T E) → X → OnErr r X
on_err (Ok v) x = tt
on_err (Err e) x = x

pub no_fault : {T A : Type 0} (r : Result T Stop) → IfErr r (λ (stop : Stop). stop ≡ NoMemory) → IsErrOf r EngineFault → A
no_fault (Ok v) m e = absurd (cc)
no_fault (Err stop) m e = absurd (cc)

pub same_error : {T U : Type 0} (stop other : Stop) → IsErrOf {T = T} (Err stop) other → IsErrOf {T = U} (Err stop) other
same_error stop other e = let q : stop ≡ other = cc in ap (λ (z : Stop). Err z) q

-- a fault that was passed on
pub passed_on : {T U : Type 0} (r : Result T Stop) (stop : Stop) → IsErrAnd r (λ (e : Stop). e ≡ stop) → IsErrOf r EngineFault → IsErrOf {T = U} (Err stop) EngineFault
passed_on (Ok v) stop a e = absurd a
passed_on (Err s) stop a e = let q : s ≡ EngineFault = cc in ap (λ (z : Stop). Err z) (sym a ∙ q)

pub fault_or_memory : (s : Stop) → (s ≡ EngineFault) ⊎ (s ≡ NoMemory) → (s ≢ ReadFault) × (s ≢ WriteFault) × (s ≢ TooLong)
fault_or_memory s (inl e) = (λ q. absurd (cc), λ q. absurd (cc), λ q. absurd (cc))
fault_or_memory s (inr e) = (λ q. absurd (cc), λ q. absurd (cc), λ q. absurd (cc))

-- Faults that were counted

pub rose_since : (a b c : ℕ) → a ≤ b → Rose b c → Rose a c
rose_since a b c l (inl r) = inl (omega (arith, l, r))
rose_since a b c l (inr r) = inr r

pub rose_before : (a b c : ℕ) → b ≤ c → Rose a b → Rose a c
rose_before a b c l (inl r) = inl (omega (arith, l, r))
rose_before a b c l (inr r) = inr (omega (arith, l, r))
