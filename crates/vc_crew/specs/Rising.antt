-- How counts rise together.
use Rattle.std.specs.Prelude.{ℕ, ◌≤◌, sum, List, [], ◌∷◌}
use Rattle.vc_worker.specs.Turns.{RoseBy}

-- each count rose by at least its share, or stands at its end
abbrev pub AreShared : List ℕ → List ℕ → List ℕ → Type 0
AreShared [] [] [] = Unit {0}
AreShared (share ∷ shares) (before ∷ befores) (after ∷ afters) = RoseBy share before after × AreShared shares befores afters
AreShared shares befores afters = ⊥

-- The counts rose by at least so many together: each by its share.
pub record RoseTogether (count : ℕ) (before after : List ℕ) : Type 0 where
  pub shares : List ℕ
  pub enough : count ≤ sum shares
  pub shared : AreShared shares before after
