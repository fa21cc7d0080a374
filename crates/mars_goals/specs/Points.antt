-- Choice points, the latest first.
use Rattle.std.specs.Prelude.{ℕ, List, [], ◌∷◌}
use Rattle.mars_goals.specs.declared.choice.Choice.{Choice}

-- the latest one, without the rules before a place
abbrev pub tried_to : ℕ → List Choice → List Choice
tried_to rule [] = []
tried_to rule (choice ∷ choices) = record choice { from = rule } ∷ choices
