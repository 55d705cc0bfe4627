-- The engines that a command uses, and what their counts tell.
use Rattle.std.specs.Prelude.{ℕ, ◌⊎◌, List, [], ◌∷◌, Option, Some, None}
use Rattle.vc_base.specs.Counts.{Rose}
use Rattle.vc_words.specs.declared.command.Command.{Command}
use Rattle.vc_words.specs.declared.command.Command.TheVariants.{Script, Encode, Decode, Make, Share, Transcode, Audit, Wire}

-- How many engines of the list, from the first on, a command uses: one for each worker, and the first one for scripts, audits and
-- the wire.
abbrev pub engines_used : Option Command → ℕ
engines_used None = 0
engines_used (Some (Script options)) = 1
engines_used (Some (Encode options)) = options.workers
engines_used (Some (Decode options)) = options.workers
engines_used (Some (Make options)) = 0
engines_used (Some (Share options)) = options.workers
engines_used (Some (Transcode options)) = options.workers
engines_used (Some (Audit options)) = 1
engines_used (Some (Wire options)) = 1

-- one of the counts rose
abbrev pub OneRose : List ℕ → List ℕ → Type 0
OneRose [] now = ⊥
OneRose (b ∷ before) [] = ⊥
OneRose (b ∷ before) (n ∷ now) = Rose b n ⊎ OneRose before now
