-- The events of an ask, one for each step, and its whole text.
use Rattle.std.specs.Prelude.{◌≡◌, ◌⊎◌, ℕ, suc, ◌+◌, List, [], ◌∷◌, ◌++◌, Bool, true, false, Option, None}
use Rattle.mars_tree.specs.Graph.{Node}
use Rattle.mars_canon.specs.Canon.{Rooted}
use Rattle.mars_term.specs.declared.clause.Ask.{Ask}
use Rattle.mars_rules.specs.RuleLists.{RuleList}
use Rattle.mars_machine.specs.declared.ending.Ending.{Ending}
use Rattle.mars_machine.specs.declared.stepped.Stepped.{Stepped}
use Rattle.mars_machine.specs.Alternatives.{Alternative, ask_start}
use Rattle.mars_machine.specs.Steps.{Says, IsDerivationStep, IsAskRun}
use Rattle.mars_machine.specs.Asks.{answer_count, EndsNow, IsAskEnd}
use Rattle.mars_machine.specs.Machines.{TellsSaying}
use Rattle.mars_session.specs.Lines.{told_line, told_answer, ending_line}

-- what one event of an ask writes, the answer that it gives, none where it gives none, and whether it is the ask's last
pub record AskEvent : Type 0 where
  pub text : List ℕ
  pub answer : Option Rooted
  pub ends : Bool

-- with so many steps done an ask isn't at its end
abbrev pub GoesOnNow : ℕ → Option ℕ → ℕ → List Says → List Alternative → Type 0
GoesOnNow budget most steps said state = (ending : Ending) → EndsNow budget most steps said state ending → ⊥

-- with so many steps done an ask is at its end, whose line it writes, or it goes on
abbrev pub ClosesBy : ℕ → Option ℕ → ℕ → List Says → List Alternative → List ℕ → Bool → Type 0
ClosesBy budget most steps said state line true = (ending : Ending) × EndsNow budget most steps said state ending × (line ≡ ending_line ending steps)
ClosesBy budget most steps said state line false = GoesOnNow budget most steps said state × (line ≡ [])

-- an ask that is at its end before any step has one event, which writes the ending
pub record EndsAtOnce (ask : Ask) (kept : List (List Node)) (budget steps : ℕ) (event : AskEvent) : Type 0 where
  pub none_done : steps ≡ 0
  pub ending : Ending
  pub ends : EndsNow budget ask.most 0 [] (ask_start ask kept ∷ []) ending
  pub event_is : event ≡ record { text = ending_line ending 0; answer = None; ends = true }

-- an event that is a step: after so many steps, with which the ask isn't at its end, the next one says something, whose line
-- it writes; where the ask is at its end with this step, it writes the ending too
pub record IsStepEvent (names : List (List ℕ)) (P : RuleList) (ask : Ask) (kept : List (List Node)) (budget steps : ℕ) (event : AskEvent) : Type 0 where
  pub said : List Says
  pub state : List Alternative
  pub run : IsAskRun P ask kept steps said state
  pub goes_on : GoesOnNow budget ask.most steps said state
  pub says : Says
  pub after : List Alternative
  pub step : IsDerivationStep P state says after
  pub stepped : Stepped
  pub tells : TellsSaying ask stepped says
  pub line : List ℕ
  pub closes : ClosesBy budget ask.most (suc steps) (said ++ says ∷ []) after line event.ends
  pub text_is : event.text ≡ told_line names ask.vars (answer_count said) stepped ++ line
  pub answer_is : event.answer ≡ told_answer stepped

-- the event of an ask after so many of its steps
unfoldable pub IsAskEvent : List (List ℕ) → RuleList → Ask → List (List Node) → ℕ → ℕ → AskEvent → Type 0
IsAskEvent names P ask kept budget steps event = EndsAtOnce ask kept budget steps event ⊎ IsStepEvent names P ask kept budget steps event

-- the lines of what the steps of an ask said, in order, with so many answers before them
abbrev pub AreSayingLines : List (List ℕ) → Ask → ℕ → List Says → List ℕ → Type 0
AreSayingLines names ask count [] lines = lines ≡ []
AreSayingLines names ask count (says ∷ said) lines =
    (stepped : Stepped) × (rest : List ℕ) × TellsSaying ask stepped says × (lines ≡ told_line names ask.vars count stepped ++ rest)
    × AreSayingLines names ask (count + answer_count (says ∷ [])) said rest

-- the whole text of an ask: the lines of what its steps said up to its end, and the ending
pub record IsAskText (names : List (List ℕ)) (P : RuleList) (ask : Ask) (kept : List (List Node)) (budget : ℕ) (text : List ℕ) : Type 0 where
  pub steps : ℕ
  pub said : List Says
  pub ending : Ending
  pub end : IsAskEnd P ask kept budget ask.most steps said ending
  pub lines : List ℕ
  pub lines_are : AreSayingLines names ask 0 said lines
  pub text_is : text ≡ lines ++ ending_line ending steps
