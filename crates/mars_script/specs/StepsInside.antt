-- One word after another.
use Rattle.std.specs.Prelude.{ℕ, List, [], ◌∷◌, ◌++◌, Option, Some, None, cond, not, is_none}
use Rattle.mars_script.specs.declared.kinds.Kind.{Kind}
use Rattle.mars_script.specs.declared.kinds.Kind.TheVariants as kind
use Rattle.mars_script.specs.declared.steps.Given.{Given}
use Rattle.mars_script.specs.declared.steps.Phase.{Phase}
use Rattle.mars_script.specs.declared.steps.Phase.TheVariants as phase
use Rattle.mars_script.specs.declared.steps.WordState.{WordState}
use Rattle.mars_script.specs.declared.steps.Step.{Step}
use Rattle.mars_script.specs.declared.steps.Step.TheVariants as step
use Rattle.mars_script.specs.declared.words.TheConstants.{MOST_STEPS, MOST_ROWS, LAST_SESSION}
use Rattle.mars_script.specs.Given.{given_steps, given_rows, given_log}
use Rattle.mars_script.specs.KindsInside.{kind_of}
use Rattle.mars_script.specs.Written.{number_up_to}

-- a state
abbrev pub at_phase : Phase → Given → WordState
at_phase phase given = record { phase = phase; given = given }

-- where an option may come
abbrev pub at_options : Given → WordState
at_options given = at_phase phase.Options given

-- what a word of a kind does, where an option may come
abbrev pub next_option_of : Given → Kind → Step
next_option_of given kind.Steps = cond (is_none given.steps) (step.Goes (at_phase phase.Steps given)) step.Refused
next_option_of given kind.Rows = cond (is_none given.rows) (step.Goes (at_phase phase.Rows given)) step.Refused
next_option_of given kind.Log = cond (not given.log) (step.Goes (at_options (given_log given))) step.Refused
next_option_of given kind.End = step.Goes (at_phase phase.Numbers given)
next_option_of given (kind.StepsAre number) = cond (is_none given.steps) (step.Goes (at_options (given_steps given number))) step.Refused
next_option_of given (kind.RowsAre number) = cond (is_none given.rows) (step.Goes (at_options (given_rows given number))) step.Refused
next_option_of given (kind.Number number) = step.Counts given number
next_option_of given kind.Other = step.Refused

-- what a word does in a phase
abbrev pub next_in : Phase → Given → List ℕ → Step
next_in phase.Options given word = next_option_of given (kind_of word)
next_in phase.Steps given word = elim (number_up_to MOST_STEPS word) [ Some number ↦ step.Goes (at_options (given_steps given number)) | None ↦ step.Refused ]
next_in phase.Rows given word = elim (number_up_to MOST_ROWS word) [ Some number ↦ step.Goes (at_options (given_rows given number)) | None ↦ step.Refused ]
next_in phase.Numbers given word = elim (number_up_to LAST_SESSION word) [ Some number ↦ step.Counts given number | None ↦ step.Refused ]

-- what a word does, after those before it
abbrev pub next_of : WordState → List ℕ → Step
next_of state word = next_in state.phase state.given word

-- what is given at last, none where a number is still awaited
abbrev pub at_end : Phase → Given → List ℕ → Option (Given × List ℕ)
at_end phase.Options given numbers = Some (given, numbers)
at_end phase.Steps given numbers = None
at_end phase.Rows given numbers = None
at_end phase.Numbers given numbers = Some (given, numbers)

-- what words give, after those before them with their numbers; none where one of them is refused
abbrev pub goes_over : WordState → List ℕ → List (List ℕ) → Option (Given × List ℕ)
goes_over state numbers [] = at_end state.phase state.given numbers
goes_over state numbers (word ∷ words) = elim (next_of state word) [
  | step.Goes later ↦ goes_over later numbers words
  | step.Counts given number ↦ goes_over (at_phase phase.Numbers given) (numbers ++ number ∷ []) words
  | step.Refused ↦ None
]
