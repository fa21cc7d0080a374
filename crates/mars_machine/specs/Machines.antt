-- What a machine is seen as, and what its calls tell: the contracts of the machine that is to come.
use Rattle.std.specs.Prelude.{◌≡◌, ◌≢◌, ◌↔◌, ℕ, ◌+◌, List, [], ◌∷◌, Bool, true, false, Option}
use Rattle.mars_tree.specs.Graph.{Node}
use Rattle.mars_term.specs.declared.clause.Ask.{Ask}
use Rattle.mars_rules.specs.RuleLists.{RuleList}
use Rattle.mars_machine.specs.declared.stepped.Stepped.{Stepped}
use Rattle.mars_machine.specs.declared.stepped.Stepped.TheVariants.{Went, Said, SaidText, Answered, Ended}
use Rattle.mars_machine.specs.declared.asked.Asked.{Asked}
use Rattle.mars_machine.specs.Subjects.{Subject}
use Rattle.mars_machine.specs.Equations.{Equations}
use Rattle.mars_machine.specs.Alternatives.{Alternative}
use Rattle.mars_machine.specs.Steps.{Says, nothing, tree, text, answer, IsDerivationStep, IsAskRun}
use Rattle.mars_machine.specs.Asks.{IsAskEnd}
use Rattle.mars_machine.specs.TermAnswers.{IsTermAnswer, IsAnswerOf}

-- a machine: its rules, its ask, the graphs of its kept trees, how many steps it made, and whether it ran out of memory
pub record SeenMachine : Type 0 where
  pub rules : RuleList
  pub ask : Ask
  pub kept : List (List Node)
  pub steps : ℕ
  pub broken : Bool

-- a machine that made no step
abbrev pub started_machine : RuleList → Ask → List (List Node) → SeenMachine
started_machine rules ask kept = record { rules = rules; ask = ask; kept = kept; steps = 0; broken = false }

-- the machine after a step; that nothing is left is no step
abbrev pub stepped_machine : SeenMachine → Stepped → SeenMachine
stepped_machine seen Ended = seen
stepped_machine seen stepped = record seen { steps = seen.steps + 1 }

-- out of memory
abbrev pub broken_machine : SeenMachine → SeenMachine
broken_machine seen = record seen { broken = true }

-- what is told is what a step says
abbrev pub TellsSaying : Ask → Stepped → Says → Type 0
TellsSaying ask Went says = says ≡ nothing
TellsSaying ask (Said canon) says = (e : Equations) × (subject : Subject) × (says ≡ tree e subject) × IsTermAnswer e (subject ∷ []) canon
TellsSaying ask (SaidText string) says = says ≡ text string
TellsSaying ask (Answered told) says = (alternative : Alternative) × (says ≡ answer alternative) × IsAnswerOf ask alternative told
TellsSaying ask Ended says = ⊥

-- the run of so many steps, the next step, and what it tells
pub record TellsNext (seen : SeenMachine) (stepped : Stepped) : Type 0 where
  pub said : List Says
  pub state : List Alternative
  pub run : IsAskRun seen.rules seen.ask seen.kept seen.steps said state
  pub says : Says
  pub after : List Alternative
  pub step : IsDerivationStep seen.rules state says after
  pub tells : TellsSaying seen.ask stepped says

-- the run of so many steps comes to a state of which this is told: whether an alternative is left
pub record TellsLeft (seen : SeenMachine) (left : Bool) : Type 0 where
  pub said : List Says
  pub state : List Alternative
  pub run : IsAskRun seen.rules seen.ask seen.kept seen.steps said state
  pub left_is : (left ≡ true) ↔ (state ≢ [])

-- a step of a machine: what the next step of its run says or answers, or that no alternative is left
abbrev pub IsMachineStep : SeenMachine → Stepped → Type 0
IsMachineStep seen Ended = TellsLeft seen false
IsMachineStep seen stepped = TellsNext seen stepped

-- of what steps said, in order, all but those that said nothing is told
pub data AreTold (ask : Ask) : List Says → List Stepped → Type 0 where
  none : AreTold ask [] []
  silent : {said : List Says} {told : List Stepped} → AreTold ask said told → AreTold ask (nothing ∷ said) told
  told : {says : Says} {said : List Says} {stepped : Stepped} {more : List Stepped} → says ≢ nothing → TellsSaying ask stepped says → AreTold ask said more
      → AreTold ask (says ∷ said) (stepped ∷ more)

-- the end of an ask by a machine that made no step before, with a budget and perhaps a number of answers
pub record IsMachineAsk (seen : SeenMachine) (budget : ℕ) (most : Option ℕ) (asked : Asked) : Type 0 where
  pub said : List Says
  pub end : IsAskEnd seen.rules seen.ask seen.kept budget most asked.steps said asked.ending
  pub told_are : AreTold seen.ask said asked.said
