-- The flag LAST ("Drain" and "Dynamic Resolution Change" of the stateful decoder, "Drain" of the stateful encoder): it is on the
-- buffer with which a drain or a change of the resolution ends, and on no other.
use Rattle.std.specs.Prelude.{ℕ, ◌≡◌, ◌+◌, Bool, true, not, ◌&&◌, ◌||◌, ◌==◌, if◌then◌else◌, bit_and, List, [], ◌∷◌}
use Rattle.vc_base.specs.Buffers.{Buffer}
use Rattle.vc_base.specs.Limits.{last_flag}
use Rattle.vc_model.specs.Context.{Context}
use Rattle.vc_model.specs.Sound.{ends_with_last}
pub use Rattle.vc_model.specs.Phases.{is_last_by_change}
use Rattle.vc_model.specs.Drains.{gives_last, done_now, AtEveryStep}

abbrev pub has_last : Buffer → Bool
has_last b = bit_and b.flags last_flag == last_flag

-- how many buffers of the list have the flag
abbrev pub count_last : List Buffer → ℕ
count_last [] = 0
count_last (b ∷ bs) = (if has_last b then 1 else 0) + count_last bs

-- a step in which a CAPTURE buffer goes to done with LAST for a change of the resolution
abbrev pub gives_change : Context → Context → Bool
gives_change before after = is_last_by_change after.phase && not (is_last_by_change before.phase)

abbrev pub gives : Context → Context → Bool
gives before after = gives_last before after || gives_change before after

-- A step that gives a LAST buffer puts exactly one buffer with the flag on done, and none behind it; no other step puts one.
pub record IsLastTold (before after : Context) : Type 0 where
  pub count : count_last (done_now before after) ≡ (if gives before after then 1 else 0)
  pub final : gives before after ≡ true → ends_with_last (done_now before after) ≡ true

abbrev pub LastIsTold : Type 0
LastIsTold = AtEveryStep (λ before e told after. IsLastTold before after)
