-- An ask as far as it was made.
use Rattle.std.specs.Prelude.{◌≡◌, ℕ, ◌+◌, ◌<◌, ◌≤◌, List, [], ◌∷◌, ◌++◌, Option}
use Rattle.mars_machine.specs.declared.ending.Ending.{Ending}
use Rattle.mars_machine.specs.declared.stepped.Stepped.{Stepped}
use Rattle.mars_machine.specs.declared.stepped.Stepped.TheVariants.{Went, Said, SaidText, Answered, Ended}
use Rattle.mars_machine.specs.Alternatives.{Alternative}
use Rattle.mars_machine.specs.Steps.{Says, IsAskRun}
use Rattle.mars_machine.specs.Asks.{answer_count, EndsNow}
use Rattle.mars_machine.specs.Machines.{SeenMachine, AreTold}

-- a machine after so many steps
abbrev pub at_steps : SeenMachine → ℕ → SeenMachine
at_steps seen steps = record seen { steps = steps }

-- the ask of a machine ends now, in this way, where so many answers came
abbrev pub EndsHere : SeenMachine → ℕ → Option ℕ → ℕ → Ending → Type 0
EndsHere seen budget most answers way = (said : List Says) (state : List Alternative) → IsAskRun seen.rules seen.ask seen.kept seen.steps said state → answer_count said ≡ answers
    → EndsNow budget most seen.steps said state way

-- it doesn't end now
abbrev pub GoesOnHere : SeenMachine → ℕ → Option ℕ → ℕ → Type 0
GoesOnHere seen budget most answers = (said : List Says) (state : List Alternative) → IsAskRun seen.rules seen.ask seen.kept seen.steps said state → answer_count said ≡ answers
    → (way : Ending) → EndsNow budget most seen.steps said state way → ⊥

-- what was told, with what a step tells
abbrev pub told_after : List Stepped → Stepped → List Stepped
told_after told Went = told
told_after told Ended = told
told_after told (Said canon) = told ++ Said canon ∷ []
told_after told (SaidText string) = told ++ SaidText string ∷ []
told_after told (Answered answer) = told ++ Answered answer ∷ []

-- how many answers came, with that of a step
abbrev pub answers_after : ℕ → Stepped → ℕ
answers_after answers (Answered answer) = answers + 1
answers_after answers stepped = answers

-- what came of an ask by now: its end wasn't reached before
pub record IsAsking (seen : SeenMachine) (budget : ℕ) (most : Option ℕ) (answers : ℕ) (told : List Stepped) : Type 0 where
  pub said : List Says
  pub state : List Alternative
  pub run : IsAskRun seen.rules seen.ask seen.kept seen.steps said state
  pub within : seen.steps ≤ budget
  pub counted : answer_count said ≡ answers
  pub few : answers ≤ seen.steps
  pub told_are : AreTold seen.ask said told
  pub least : (fewer : ℕ) (earlier : List Says) (before : List Alternative) (way : Ending) → fewer < seen.steps → IsAskRun seen.rules seen.ask seen.kept fewer earlier before
      → EndsNow budget most fewer earlier before way → ⊥
