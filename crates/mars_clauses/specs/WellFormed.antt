-- The rules and asks that events make are well formed.
use Rattle.std.specs.Prelude.{◌≡◌, ◌<◌, ◌^◌, List, length, Bool, All}
use Rattle.mars_grammar.specs.FormTable.{Event}
use Rattle.mars_grammar.specs.Building.{performs}
use Rattle.mars_term.specs.declared.clause.Ask.{Ask}
use Rattle.mars_term.specs.Clauses.{IsRule, IsAsk}
use Rattle.mars_forms.specs.declared.symbol.FormSymbol.{FormSymbol}
use Rattle.mars_forms.specs.declared.symbol.FormAction.{FormAction}
use Rattle.mars_clauses.specs.declared.maker.ValuedToken.{ValuedToken}
use Rattle.mars_clauses.specs.declared.making.FinishedClause.TheVariants as finished_clause
use Rattle.mars_clauses.specs.Terms.{finished}
use Rattle.mars_clauses.specs.Lists.{Clauses, clauses, clauses_from}

-- all rules and asks are well formed, and so is the ask that is read at last
pub record AreWellFormed (v : Clauses) : Type 0 where
  pub rules : All IsRule v.rules
  pub asks : All IsAsk v.asks
  pub last : (ask : Ask) → finished v.reading ≡ finished_clause.Ask ask → IsAsk ask

-- whatever the events are, if there are fewer than 2^32
abbrev pub MakesWellFormed : Type 0
MakesWellFormed = (asking : Bool) (events : List (Event FormSymbol ValuedToken FormAction)) → length events < 2 ^ 32 → AreWellFormed (performs clauses events (clauses_from asking))
