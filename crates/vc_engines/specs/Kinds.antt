-- The kinds of engines.
use Rattle.std.specs.Prelude.{ℕ, ◌%◌, nat_eq, cond}
use Rattle.vc_engines.specs.declared.any.AnyEngine.{AnyEngine}
use Rattle.vc_engines.specs.declared.any.AnyEngine.TheVariants as engines
use Rattle.vc_engines.specs.declared.any.EngineKind.{EngineKind}
use Rattle.vc_engines.specs.declared.any.EngineKind.TheVariants.{Lane, Plain, Fast}

-- the kind of an engine
abbrev pub kind_of : {L P F : Type 0} → AnyEngine L P F → EngineKind
kind_of (engines.Lane engine) = Lane
kind_of (engines.Plain engine) = Plain
kind_of (engines.Fast engine) = Fast

-- what is told of an engine, by what tells it of each kind
abbrev pub of_any : {L P F T : Type 0} → (L → T) → (P → T) → (F → T) → AnyEngine L P F → T
of_any lane plain fast (engines.Lane engine) = lane engine
of_any lane plain fast (engines.Plain engine) = plain engine
of_any lane plain fast (engines.Fast engine) = fast engine

-- the kinds in turn, the lane engine first
abbrev pub kind_in_turn : ℕ → EngineKind
kind_in_turn place = cond (nat_eq (place % 3) 0) Lane (cond (nat_eq (place % 3) 1) Plain Fast)
