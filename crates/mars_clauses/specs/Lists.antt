-- The rules and asks of a text, in order, as what its events make.
use Rattle.std.specs.Prelude.{List, [], ◌∷◌, ◌++◌, None, Bool, false}
use Rattle.mars_grammar.specs.FormTable.{Event, Read, Say}
use Rattle.mars_grammar.specs.Building.{Build}
use Rattle.mars_term.specs.declared.clause.Rule.{Rule}
use Rattle.mars_term.specs.declared.clause.Ask.{Ask}
use Rattle.mars_forms.specs.declared.symbol.FormSymbol.{FormSymbol}
use Rattle.mars_forms.specs.declared.symbol.FormSymbol.TheVariants as due
use Rattle.mars_forms.specs.declared.symbol.FormAction.{FormAction}
use Rattle.mars_clauses.specs.declared.maker.ValuedToken.{ValuedToken}
use Rattle.mars_clauses.specs.declared.limits.OverLimit.{OverLimit}
use Rattle.mars_clauses.specs.declared.making.FinishedClause.{FinishedClause}
use Rattle.mars_clauses.specs.declared.making.FinishedClause.TheVariants as finished_clause
use Rattle.mars_clauses.specs.declared.lists.ClauseLists.{ClauseLists}
use Rattle.mars_clauses.specs.Terms.{Unfinished, begun, clause_read, clause_said, finished}
use Rattle.mars_clauses.specs.Made.{clause_of}

-- the rules and asks that are whole, and the one that is being read
pub record Clauses : Type 0 where
  pub reading : Unfinished
  pub rules : List Rule
  pub asks : List Ask

-- none yet
abbrev pub clauses_from : Bool → Clauses
clauses_from asking = record { reading = begun asking []; rules = []; asks = [] }

-- one more, and the next is to be read
abbrev pub stored : FinishedClause → Clauses → Clauses
stored (finished_clause.Rule rule) v = record { reading = begun false []; rules = v.rules ++ rule ∷ []; asks = v.asks }
stored (finished_clause.Ask ask) v = record { reading = begun false []; rules = v.rules; asks = v.asks ++ ask ∷ [] }
stored finished_clause.Neither v = record { reading = begun false []; rules = v.rules; asks = v.asks }

-- a rule or a command ends with its semicolon
abbrev pub with_finished : Clauses → Clauses
with_finished v = stored (finished v.reading) v

-- after a token that a symbol takes
abbrev pub clauses_read : FormSymbol → ValuedToken → Clauses → Clauses
clauses_read due.OneSemicolon t v = with_finished v
clauses_read s t v = record v { reading = clause_read s t v.reading }

-- after an event
abbrev pub clauses_event : Event FormSymbol ValuedToken FormAction → Clauses → Clauses
clauses_event (Read s t) v = clauses_read s t v
clauses_event (Say a) v = record v { reading = clause_said a v.reading }

-- All rules and asks of a text. They are over no limit by themselves.
abbrev pub clauses : Build (Event FormSymbol ValuedToken FormAction) Clauses OverLimit
clauses = record { perform = clauses_event; refuses = λ v. None }

-- the code's lists
abbrev pub lists_of : ClauseLists → Clauses
lists_of s = record { reading = clause_of s.making; rules = s.rules; asks = s.asks }
