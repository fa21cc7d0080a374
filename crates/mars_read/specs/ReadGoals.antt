-- What reading the text of goals gives.
use Rattle.std.specs.Prelude.{◌≡◌, ℕ, List, map, true}
use Rattle.mars_grammar.specs.declared.Which.{Which}
use Rattle.mars_grammar.specs.FormTable.{Event, IsText}
use Rattle.mars_grammar.specs.Building.{Build, both, performs}
use Rattle.mars_term.specs.declared.clause.Ask.{Ask}
use Rattle.mars_forms.specs.declared.lexeme.Lexeme.{Lexeme}
use Rattle.mars_forms.specs.declared.symbol.FormSymbol.{FormSymbol}
use Rattle.mars_forms.specs.declared.symbol.FormAction.{FormAction}
use Rattle.mars_forms.specs.declared.table.TheConstants.{GOALS}
use Rattle.mars_forms.specs.Table.{forms}
use Rattle.mars_clauses.specs.declared.counts.InputCounts.{InputCounts}
use Rattle.mars_clauses.specs.declared.limits.OverLimit.{OverLimit}
use Rattle.mars_clauses.specs.declared.making.FinishedClause.TheVariants as finished_clause
use Rattle.mars_clauses.specs.Limits.{counting, nothing_counted}
use Rattle.mars_clauses.specs.Terms.{finished}
use Rattle.mars_clauses.specs.Lists.{Clauses, clauses, clauses_from, lists_of}
use Rattle.mars_read.specs.declared.error.ReadError.{ReadError}
use Rattle.mars_read.specs.declared.goals.GoalsParts.{GoalsParts}
use Rattle.mars_read.specs.Spellings.{Spellings, spellings_from, all_names}
use Rattle.mars_read.specs.Spelled.{spelled_out, events_told}
use Rattle.mars_read.specs.Refused.{IsReadAs, IsRefusedAs, either_limit}

-- what is made of the text of goals: names, counts, and an ask
abbrev pub GoalsValue : Type 0
GoalsValue = Spellings × (InputCounts × Clauses)

abbrev pub goals_building : Build (Event FormSymbol Lexeme FormAction) GoalsValue (Which OverLimit OverLimit)
goals_building = spelled_out (both counting clauses)

-- the beginning of it, over these names
abbrev pub goals_begin : List ℕ → List (List ℕ) → GoalsValue
goals_begin bytes names = (spellings_from bytes names, (nothing_counted true, clauses_from true))

-- the text is read, and this is made of it
abbrev pub IsGoalsText : List ℕ → List (List ℕ) → GoalsValue → Type 0
IsGoalsText bytes names w = IsReadAs true GOALS.now goals_building (goals_begin bytes names) bytes w

-- the text is refused so
abbrev pub IsNoGoalsText : List ℕ → List (List ℕ) → ReadError → Type 0
IsNoGoalsText bytes names e = IsRefusedAs true GOALS.now goals_building (goals_begin bytes names) bytes either_limit e

-- the ask that is read
abbrev pub IsAskOf : Clauses → Ask → Type 0
IsAskOf v ask = finished v.reading ≡ finished_clause.Ask ask

-- A text of goals, the names before and after it, and the ask that it says.
pub record IsReadGoals (bytes : List ℕ) (old new : List (List ℕ)) (ask : Ask) : Type 0 where
  pub value : GoalsValue
  pub read : IsGoalsText bytes old value
  pub names : new ≡ all_names value.0
  pub ask_is : IsAskOf value.1.1 ask

-- Goals never end open: each text of goals says an ask.
abbrev pub GoalsAreAsks : Type 0
GoalsAreAsks = (tokens : List Lexeme) (events : List (Event FormSymbol Lexeme FormAction)) (v : Spellings) → IsText (forms true) GOALS.now tokens events →
    (ask : Ask) × IsAskOf (performs clauses (events_told v events) (clauses_from true)) ask

-- the code's parts of what is made
pub record HasGoalsParts (bytes : List ℕ) (names : List (List ℕ)) (parts : GoalsParts) : Type 0 where
  pub value : GoalsValue
  pub read : IsGoalsText bytes names value
  pub added : map (λ text. text.items) parts.added.keys ≡ value.0.added
  pub clauses : lists_of parts.lists ≡ value.1.1
