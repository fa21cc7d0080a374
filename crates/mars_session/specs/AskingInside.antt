-- What the code knows of an ask that runs.
use Rattle.std.specs.Prelude.{◌≡◌, ℕ, ◌+◌, ◌<◌, List, [], Bool, true, false, not, nat_eq, if◌then◌else◌, Option, Some, None}
use Rattle.std.specs.Option.{option_map}
use Rattle.mars_canon.specs.Canon.{Rooted}
use Rattle.mars_answer.specs.declared.answers.Answer.{Answer}
use Rattle.mars_machine.specs.declared.ending.Ending.{Ending}
use Rattle.mars_machine.specs.declared.ending.Ending.TheVariants.{End, Enough, Stopped}
use Rattle.mars_machine.specs.Alternatives.{Alternative}
use Rattle.mars_machine.specs.Steps.{Says, IsAskRun}
use Rattle.mars_machine.specs.Asks.{answer_count}
use Rattle.mars_machine.specs.Machines.{SeenMachine, started_machine}
use Rattle.mars_tree.specs.Graph.{Node}
use Rattle.mars_term.specs.declared.clause.Ask.{Ask}
use Rattle.mars_rules.specs.RuleLists.{RuleList}
use Rattle.mars_session.specs.declared.asking.AskStepped.{AskStepped}
use Rattle.mars_session.specs.declared.asking.Begun.{Begun}
use Rattle.mars_session.specs.declared.asking.Begun.TheVariants.{Ended, Runs}
use Rattle.mars_session.specs.Lines.{ending_line}
use Rattle.mars_session.specs.AskEvents.{AskEvent, GoesOnNow, EndsAtOnce}

-- the graph of an answer
abbrev pub answer_canon : Option Answer → Option Rooted
answer_canon answer = option_map (λ a. a.canon) answer

-- an event as definitions see it
abbrev pub event_seen : AskStepped → AskEvent
event_seen e = record { text = e.text.items; answer = answer_canon e.answer; ends = e.ends }

-- the machine of an ask that isn't at its end, and how many answers it gave
pub record IsAskGoing (budget : ℕ) (machine : SeenMachine) (answers : ℕ) : Type 0 where
  pub works : machine.broken ≡ false
  pub said : List Says
  pub state : List Alternative
  pub run : IsAskRun machine.rules machine.ask machine.kept machine.steps said state
  pub count : answers ≡ answer_count said
  pub goes_on : GoesOnNow budget machine.ask.most machine.steps said state
  pub within : machine.steps < budget

-- as many answers as were wanted
abbrev pub is_enough : Option ℕ → ℕ → Bool
is_enough (Some most) answers = nat_eq most answers
is_enough None answers = false

-- how an ask ends, where it ends
abbrev pub ending_at : Option ℕ → ℕ → Bool → ℕ → ℕ → Option Ending
ending_at most answers left steps budget =
    if is_enough most answers then Some Enough else if not left then Some End else if nat_eq steps budget then Some Stopped else None

-- so many answers, and one more where there is one
abbrev pub counted_answer : ℕ → Option Rooted → ℕ
counted_answer answers (Some c) = answers + 1
counted_answer answers None = answers

-- the last line, where there is one
abbrev pub end_text : Option Ending → ℕ → List ℕ
end_text (Some ending) steps = ending_line ending steps
end_text None steps = []

-- an ask at its beginning: it is at its end, or its machine is started
abbrev pub IsBegun : RuleList → Ask → List (List Node) → ℕ → Begun → Type 0
IsBegun P ask kept budget (Ended e) = EndsAtOnce ask kept budget 0 (event_seen e) × (e.ends ≡ true)
IsBegun P ask kept budget (Runs asking) = (asking.machine.value ≡ started_machine P ask kept) × IsAskGoing budget asking.machine.value asking.answers
