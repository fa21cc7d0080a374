use Rattle.std.proofs.lemmas.Result.{IfOk-weaker}
use Rattle.mars_term.specs.declared.clause.Ask.{Ask}
use Rattle.mars_term.specs.Clauses.{IsAsk}
use Rattle.mars_read.specs.ReadGoals.{IsReadGoals}
use Rattle.mars_read.proofs.GoalsMade.{ask-well_formed}
use Rattle.mars_read.proofs.goals.read_goals.Goals as goal

pub returns-clause-read : goal.returns-clause-read
returns-clause-read c = c.ask_of.ensures.read

pub returns-clause-well_formed : goal.returns-clause-well_formed
returns-clause-well_formed c =
    IfOk-weaker c.ask_of.result (IsReadGoals c.args.bytes.now c.args.names.now c.ask_of.new.names) IsAsk
    (λ (ask : Ask) is. ask-well_formed c.args.bytes.now c.args.names.now is.value is.read c.clauses_are_well_formed.ensures ask is.ask_is) c.ask_of.ensures.read

pub returns-clause-refused : goal.returns-clause-refused
returns-clause-refused c = c.ask_of.ensures.refused

pub returns-clause-kept : goal.returns-clause-kept
returns-clause-kept c = c.ask_of.ensures.kept
