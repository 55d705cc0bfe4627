-- The worker that helped the caller is the same one afterwards, without a job, and its engine counted what it ran.
use Rattle.std.proofs.Common.{◌≡◌, Option, Some, None, refl, sym, subst}
use Rattle.std.specs.Prelude.{MatchOption, IfSome}
use Rattle.vc_worker.specs.Both.{Both, IfThere}

after_none : {W H : Type 0} (R : W → W → Type 0) (P : H → H → Type 0) (I : H → Type 0) (worker_of : H → W) (c : Option H) (d : Option W) → Both P None c → MatchOption c (d ≡ None) (λ h. (d ≡ Some (worker_of h)) × I h) → Both R None d
after_none R P I worker_of None d p w = subst (λ o. Both R None o) (sym w) tt
after_none R P I worker_of (Some h) d p w = absurd p

after_some :
    {W H : Type 0} (R : W → W → Type 0) (P : H → H → Type 0) (Q I : H → Type 0) (help_of : W → H) (worker_of : H → W) (x : W) (c : Option H) (d : Option W)
    → Both P (Some (help_of x)) c → IfThere Q c → MatchOption c (d ≡ None) (λ h. (d ≡ Some (worker_of h)) × I h)
    → ((w : W) (h : H) → P (help_of w) h → Q h → I h → R w (worker_of h)) → Both R (Some x) d
after_some R P Q I help_of worker_of x None d p q w step = absurd p
after_some R P Q I help_of worker_of x (Some h) d p q w step =
    subst (λ o. Both R (Some x) o) (sym w.0) (step x h p q w.1)

-- the help was made of the worker, and then a worker of the help
pub helped :
    {W H : Type 0} (R : W → W → Type 0) (P : H → H → Type 0) (Q I : H → Type 0) (help_of : W → H) (worker_of : H → W) (a : Option W) (b c : Option H) (d : Option W)
    → MatchOption a (b ≡ None) (λ w. b ≡ Some (help_of w)) → Both P b c → IfThere Q c
    → MatchOption c (d ≡ None) (λ h. (d ≡ Some (worker_of h)) × I h) → ((w : W) (h : H) → P (help_of w) h → Q h → I h → R w (worker_of h))
    → Both R a d
helped R P Q I help_of worker_of None b c d e p q w step =
    after_none R P I worker_of c d (subst (λ o. Both P o c) e p) w
helped R P Q I help_of worker_of (Some x) b c d e p q w step =
    after_some R P Q I help_of worker_of x c d (subst (λ o. Both P o c) e p) q w step

-- what holds of the worker holds of the help that is made of it
pub help_there : {W H : Type 0} (help_of : W → H) (Q : W → Type 0) (P : H → Type 0) (a : Option W) (b : Option H) → MatchOption a (b ≡ None) (λ w. b ≡ Some (help_of w)) → IfThere Q a → ((w : W) → Q w → P (help_of w)) → IfThere P b
help_there help_of Q P None b e q step = subst (λ o. IfThere P o) (sym e) tt
help_there help_of Q P (Some w) b e q step = subst (λ o. IfThere P o) (sym e) (step w q)

pub made_of : {W H : Type 0} (worker_of : H → W) (I : H → Type 0) (a : Option H) (x : H) (d : Option W) → a ≡ Some x → d ≡ Some (worker_of x) → I x → MatchOption a (d ≡ None) (λ h. (d ≡ Some (worker_of h)) × I h)
made_of worker_of I a x d e f i =
    subst (λ o. MatchOption o (d ≡ None) (λ h. (d ≡ Some (worker_of h)) × I h)) (sym e) (f, i)

pub is_there : {A : Type 0} (P : A → Type 0) (o : Option A) (x : A) → o ≡ Some x → P x → IfThere P o
is_there P o x e p = subst (λ q. IfThere P q) (sym e) p

pub if_some : {A : Type 0} (P : A → Type 0) (o : Option A) (x : A) → o ≡ Some x → IfSome o P → P x
if_some P o x e p = subst (λ q. IfSome q P) e p

-- the help that comes back
pub record CameBack {A : Type 0} (R : A → A → Type 0) (x : A) (o : Option A) : Type 0 where
  pub now : A
  pub is : o ≡ Some now
  pub related : R x now

back_from : {A : Type 0} (R : A → A → Type 0) (x : A) (o : Option A) → Both R (Some x) o → CameBack R x o
back_from R x None p = absurd p
back_from R x (Some y) p = record { now = y; is = refl; related = p }

pub came_back : {A : Type 0} (R : A → A → Type 0) (a b : Option A) (x : A) → Both R a b → a ≡ Some x → CameBack R x b
came_back R a b x both e = back_from R x b (subst (λ o. Both R o b) e both)
