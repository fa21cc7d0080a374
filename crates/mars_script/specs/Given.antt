-- What options say.
use Rattle.std.specs.Prelude.{ℕ, Some, true}
use Rattle.mars_script.specs.declared.steps.Given.{Given}

-- with so many steps
abbrev pub given_steps : Given → ℕ → Given
given_steps given number = record { steps = Some number; rows = given.rows; log = given.log }

-- with so many rows
abbrev pub given_rows : Given → ℕ → Given
given_rows given number = record { steps = given.steps; rows = Some number; log = given.log }

-- with a log
abbrev pub given_log : Given → Given
given_log given = record { steps = given.steps; rows = given.rows; log = true }
