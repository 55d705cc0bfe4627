-- One more worker, and one more engine, at the end of a list that has worked: the list with both has worked as well.
use Rattle.std.proofs.Common.{ℕ, zero, suc, ◌≡◌, ◌+◌, Option, Some, None, List, [], ◌∷◌, ◌++◌, length, get_or, length-append, refl, sym, ap, ◌∙◌, subst, arith}
use Rattle.std.specs.Prelude.{replicate, slice_get}
use Rattle.vc_shared.specs.Handles.{DeviceId, HandleState, new_handle}
use Rattle.vc_shared.specs.Making.{AreNewHandles}
use Rattle.vc_shared.specs.Closing.{AreHandlesOf}
use Rattle.vc_shared.specs.Workers.{WorkerState, new_worker, job_had}
use Rattle.vc_shared.specs.Following.{worker_follows_on}
use Rattle.vc_shared.specs.AsStation.{job_with, station_job, worked}
use Rattle.vc_worker.specs.Gains.{gained_on}
use Rattle.vc_crew.specs.Workers.{HasWorked, HaveWorked}

-- an engine behind the others that isn't used
pub one_spare :
    {E : Type 0} (runs faults : E → ℕ) (device : DeviceId) (number : ℕ) (ws : List WorkerState) (es es' : List E) (e : E)
    → HaveWorked runs faults device number ws es es' → HaveWorked runs faults device number ws (es ++ e ∷ []) (es' ++ e ∷ [])
one_spare runs faults device number [] es es' e have = ap (λ l. l ++ e ∷ []) have
one_spare runs faults device number (w ∷ ws) [] es' e have = absurd have
one_spare runs faults device number (w ∷ ws) (x ∷ es) [] e have = absurd have
one_spare runs faults device number (w ∷ ws) (x ∷ es) (x' ∷ es') e have =
    (have.0, one_spare runs faults device (number + 1) ws es es' e have.1)

-- a worker behind the others, with the engine at its place
pub one_worker :
    {E : Type 0} (runs faults : E → ℕ) (device : DeviceId) (number : ℕ) (ws : List WorkerState) (es es' : List E) (s : WorkerState) (e e' : E)
    → HaveWorked runs faults device number ws es es' → length es ≡ length ws
    → HasWorked (new_worker device (number + length ws)) s (runs e) (runs e') (faults e) (faults e')
    → HaveWorked runs faults device number (ws ++ s ∷ []) (es ++ e ∷ []) (es' ++ e' ∷ [])
one_worker runs faults device number [] [] es' s e e' have same worked =
    let k : number + 0 ≡ number = omega arith in
    let none : es' ≡ [] = have in
    subst (λ l. HaveWorked runs faults device number (s ∷ []) (e ∷ []) (l ++ e' ∷ [])) (sym none) (subst (λ n. HasWorked (new_worker device n) s (runs e) (runs e') (faults e) (faults e')) k worked, refl)
one_worker runs faults device number [] (x ∷ es) es' s e e' have same worked =
    absurd (omega (arith, same))
one_worker runs faults device number (w ∷ ws) [] es' s e e' have same worked = absurd have
one_worker runs faults device number (w ∷ ws) (x ∷ es) [] s e e' have same worked = absurd have
one_worker runs faults device number (w ∷ ws) (x ∷ es) (x' ∷ es') s e e' have same worked =
    let k : number + length (w ∷ ws) ≡ (number + 1) + length ws = omega arith in (
      have.0,
      one_worker runs faults device (number + 1) ws es es' s e e' have.1 (omega (arith, same)) (subst (λ n. HasWorked (new_worker device n) s (runs e) (runs e') (faults e) (faults e')) k worked),
    )

-- who worked and then worked on
pub worked_on : (a b c : WorkerState) (r s t f g h : ℕ) → HasWorked a b r s f g → HasWorked b c s t g h → HasWorked a c r t f h
worked_on a b c r s t f g h x y =
    record { follows = worker_follows_on a b c x.follows y.follows; gained = gained_on (worked a) (worked b) (worked c) r s t f g h x.gained y.gained; ready = y.ready; idle = y.idle }

-- The same, where each list is known by an equation.

pub spare_back :
    {E : Type 0} (runs faults : E → ℕ) (device : DeviceId) (ws jobs : List WorkerState) (es es' old new : List E) (e : E)
    → HaveWorked runs faults device 0 ws es es' → jobs ≡ ws → old ≡ es ++ e ∷ [] → new ≡ es' ++ e ∷ [] → HaveWorked runs faults device 0 jobs old new
spare_back runs faults device ws jobs es es' old new e have seats was is =
    subst (λ l. HaveWorked runs faults device 0 l old new) (sym seats)
    (subst (λ l. HaveWorked runs faults device 0 ws l new) (sym was) (subst (λ l. HaveWorked runs faults device 0 ws (es ++ e ∷ []) l) (sym is) (one_spare runs faults device 0 ws es es' e have)))

pub worker_back :
    {E : Type 0} (runs faults : E → ℕ) (device : DeviceId) (ws jobs : List WorkerState) (es es' old new : List E) (first s : WorkerState) (e e' : E)
    → HaveWorked runs faults device 0 ws es es' → length es ≡ length ws → first ≡ new_worker device (length ws)
    → HasWorked first s (runs e) (runs e') (faults e) (faults e') → jobs ≡ ws ++ s ∷ [] → old ≡ es ++ e ∷ [] → new ≡ es' ++ e' ∷ []
    → HaveWorked runs faults device 0 jobs old new
worker_back runs faults device ws jobs es es' old new first s e e' have same fresh worked seats was is =
    let k : length ws ≡ 0 + length ws = omega arith in
    let begun : HasWorked (new_worker device (0 + length ws)) s (runs e) (runs e') (faults e) (faults e') =
    subst (λ n. HasWorked (new_worker device n) s (runs e) (runs e') (faults e) (faults e')) k (subst (λ w. HasWorked w s (runs e) (runs e') (faults e) (faults e')) fresh worked) in
    let all = one_worker runs faults device 0 ws es es' s e e' have same begun in
    subst (λ l. HaveWorked runs faults device 0 l old new) (sym seats) (subst (λ l. HaveWorked runs faults device 0 (ws ++ s ∷ []) l new) (sym was) (subst (λ l. HaveWorked runs faults device 0 (ws ++ s ∷ []) (es ++ e ∷ []) l) (sym is) all))

-- A worker that has seen nothing has no job.

free_at : (n worker : ℕ) → ◌≡◌ {A = Option ℕ} (get_or (replicate n None) worker None) None
free_at zero worker = refl
free_at (suc n) zero = refl
free_at (suc n) (suc worker) = free_at n worker

new_idle : (device : DeviceId) (number : ℕ) → station_job (new_worker device number) ≡ None
new_idle device number =
    ap (λ (o : Option ℕ). job_with o (job_had (new_worker device number))) (free_at 64 number)

pub idle_seat : (seat : WorkerState) (device : DeviceId) (number : ℕ) → seat ≡ new_worker device number → station_job seat ≡ None
idle_seat seat device number fresh =
    ap (λ (w : WorkerState). station_job w) fresh ∙ new_idle device number

-- what a worker did, with equal counts and of an equal seat
pub moved : (a b s : WorkerState) (r q r' f h f' : ℕ) → HasWorked a s r r' f f' → a ≡ b → r ≡ q → f ≡ h → HasWorked b s q r' h f'
moved a b s r q r' f h f' w x y z =
    subst (λ m. HasWorked m s q r' h f') x (subst (λ m. HasWorked a s m r' h f') y (subst (λ m. HasWorked a s r r' m f') z w))

pub at_device : {E : Type 0} (runs faults : E → ℕ) (device other : DeviceId) (ws : List WorkerState) (es es' : List E) → HaveWorked runs faults device 0 ws es es' → device ≡ other → HaveWorked runs faults other 0 ws es es'
at_device runs faults device other ws es es' have e = subst (λ d. HaveWorked runs faults d 0 ws es es') e have

pub only_handle : (device : DeviceId) (old new : List HandleState) (h : HandleState) → AreNewHandles device 1 old → old ≡ new ++ h ∷ [] → (h ≡ new_handle device 0) × (new ≡ [])
only_handle device old [] h handles e =
    let first : slice_get old 0 ≡ Some (new_handle device 0) = handles.each 0 (omega arith) in
    let there : slice_get old 0 ≡ Some h = ap (λ l. slice_get l 0) e in
    let same : h ≡ new_handle device 0 = cc in
    (same, refl)
only_handle device old (x ∷ new) h handles e =
    absurd (omega (arith, handles.all, ap length e, length-append new (h ∷ [])))

pub handles_of : (device : DeviceId) (h : HandleState) (l : List HandleState) → l ≡ h ∷ [] → h.device ≡ device → h.slot ≡ 0 → device.slots ≡ 1 → AreHandlesOf device l
handles_of device h l e d s n = subst (AreHandlesOf device) (sym e) (record { all = sym n; each = λ k x at. one k x at })
  where
    one : (k : ℕ) (x : HandleState) → slice_get (h ∷ []) k ≡ Some x → (x.device ≡ device) × (x.slot ≡ k)
    one zero x at = let same : h ≡ x = cc in (subst (λ (y : HandleState). y.device ≡ device) same d, subst (λ (y : HandleState). y.slot ≡ 0) same s)
    one (suc k) x at = absurd (cc)
