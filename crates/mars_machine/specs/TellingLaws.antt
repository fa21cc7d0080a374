-- Laws: what is known of terms has one answer graph, and what a machine tells is determined.
use Rattle.std.specs.Prelude.{◌≡◌, ℕ, List, Option, Bool}
use Rattle.mars_canon.specs.Canon.{Rooted}
use Rattle.mars_machine.specs.declared.asked.Asked.{Asked}
use Rattle.mars_machine.specs.Subjects.{Subject}
use Rattle.mars_machine.specs.Equations.{Equations}
use Rattle.mars_machine.specs.TermAnswers.{IsTermAnswer, AreOpenUnder}
use Rattle.mars_machine.specs.Machines.{SeenMachine, TellsLeft, IsMachineAsk}

-- terms have one answer graph at most
abbrev pub TermAnswerIsOne : Type 0
TermAnswerIsOne = (e : Equations) (subjects : List Subject) (c d : Rooted) → IsTermAnswer e subjects c → IsTermAnswer e subjects d → c ≡ d

-- which inequations are open is determined
abbrev pub OpenIsOne : Type 0
OpenIsOne = (e : Equations) (differ left other : List (Subject × Subject)) → AreOpenUnder e differ left → AreOpenUnder e differ other → left ≡ other

-- whether an alternative is left is determined
abbrev pub LeftIsOne : Type 0
LeftIsOne = (seen : SeenMachine) (left other : Bool) → TellsLeft seen left → TellsLeft seen other → left ≡ other

-- after how many steps a machine's ask ends, and how, is determined
abbrev pub AskedIsOne : Type 0
AskedIsOne = (seen : SeenMachine) (budget : ℕ) (most : Option ℕ) (asked other : Asked) → IsMachineAsk seen budget most asked → IsMachineAsk seen budget most other
    → (asked.steps ≡ other.steps) × (asked.ending ≡ other.ending)
