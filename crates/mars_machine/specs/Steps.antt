-- Steps and runs.
use Rattle.std.specs.Prelude.{◌≡◌, ℕ, zero, suc, ◌-◌, List, [], ◌∷◌, ◌++◌, length, drop}
use Rattle.mars_tree.specs.declared.label.Label.TheVariants.{Str}
use Rattle.mars_tree.specs.declared.label.NameId.{NameId}
use Rattle.mars_tree.specs.Graph.{Node}
use Rattle.mars_term.specs.declared.clause.Ask.{Ask}
use Rattle.mars_term.specs.declared.clause.Version.{Version}
use Rattle.mars_rules.specs.RuleLists.{RuleList}
use Rattle.mars_machine.specs.declared.built_in.BuiltIn.{BuiltIn}
use Rattle.mars_machine.specs.declared.built_in.BuiltIn.TheVariants.{Out, OutText}
use Rattle.mars_machine.specs.Subjects.{Subject, Part}
use Rattle.mars_machine.specs.Equations.{Equations, Forces}
use Rattle.mars_machine.specs.Alternatives.{OpenGoal, Call, CutTo, Alternative, ask_start}
use Rattle.mars_machine.specs.Children.{AreRuleChildren}
use Rattle.mars_machine.specs.BuiltIns.{HasBuiltIn, IsBuiltInChild, built_in_label}

-- what a step says: nothing, the tree of a term, a string, or an answer
pub data Says : Type 0 where
  nothing : Says
  tree : Equations → Subject → Says
  text : NameId → Says
  answer : Alternative → Says

-- the root of a call is forced to a built-in of the version
abbrev pub CallsBuiltIn : Version → Equations → Subject → BuiltIn → Type 0
CallsBuiltIn version e call built_in = HasBuiltIn version built_in × Forces e call [] (built_in_label built_in)

-- a built-in says nothing
abbrev pub IsSilent : BuiltIn → Type 0
IsSilent Out = ⊥
IsSilent OutText = ⊥
IsSilent built_in = Unit {0}

-- what the step of a built-in says
pub data BuiltInSays (e : Equations) (call : Subject) : BuiltIn → Says → Type 0 where
  tree_said : BuiltInSays e call Out (tree e (Part call 0))
  text_said : {string : NameId} → Forces e (Part call 0) [] (Str string) → BuiltInSays e call OutText (text string)
  nothing_said : {built_in : BuiltIn} → IsSilent built_in → BuiltInSays e call built_in nothing

-- one step of a state: its first alternative is an answer, which goes, or its children replace it
pub data IsDerivationStep (P : RuleList) : List Alternative → Says → List Alternative → Type 0 where
  -- without goals it is an answer
  answers : {first : Alternative} {rest : List Alternative} → first.goals ≡ []
      → IsDerivationStep P (first ∷ rest) (answer first) rest
  -- a cut of a height leaves so many of the alternatives after it, the last ones
  cuts : {first : Alternative} {rest : List Alternative} {height : ℕ} {others : List OpenGoal} → first.goals ≡ CutTo height ∷ others
      → IsDerivationStep P (first ∷ rest) nothing (record first { goals = others } ∷ drop (length rest - height) rest)
  -- a call whose root isn't forced to a built-in has its children by the rules
  calls : {first : Alternative} {rest children : List Alternative} {call : Subject} {others : List OpenGoal} → first.goals ≡ Call call ∷ others
      → ((built_in : BuiltIn) → CallsBuiltIn P.version first.equations call built_in → ⊥)
      → AreRuleChildren first call others (length rest) P.rules children
      → IsDerivationStep P (first ∷ rest) nothing (children ++ rest)
  -- a call of a built-in has the one child, and may say something ..
  goes_on : {first child : Alternative} {rest : List Alternative} {call : Subject} {others : List OpenGoal} {said : Says} (built_in : BuiltIn) → first.goals ≡ Call call ∷ others
      → CallsBuiltIn P.version first.equations call built_in
      → IsBuiltInChild first call others built_in child → BuiltInSays first.equations call built_in said
      → IsDerivationStep P (first ∷ rest) said (child ∷ rest)
  -- .. or none
  fails : {first : Alternative} {rest : List Alternative} {call : Subject} {others : List OpenGoal} (built_in : BuiltIn) → first.goals ≡ Call call ∷ others
      → CallsBuiltIn P.version first.equations call built_in
      → ((child : Alternative) → IsBuiltInChild first call others built_in child → ⊥)
      → IsDerivationStep P (first ∷ rest) nothing rest

-- so many steps lead from one state to another, and this is what they said, in order
pub data IsDerivation (P : RuleList) (start : List Alternative) : ℕ → List Says → List Alternative → Type 0 where
  begins : IsDerivation P start zero [] start
  goes : {steps : ℕ} {said : List Says} {says : Says} {before after : List Alternative}
      → IsDerivation P start steps said before → IsDerivationStep P before says after → IsDerivation P start (suc steps) (said ++ says ∷ []) after

-- the run of an ask: its state after so many steps, and what they said
abbrev pub IsAskRun : RuleList → Ask → List (List Node) → ℕ → List Says → List Alternative → Type 0
IsAskRun P ask kept steps said state = IsDerivation P (ask_start ask kept ∷ []) steps said state
