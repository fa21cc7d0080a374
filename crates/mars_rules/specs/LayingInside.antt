-- Inside: how a rule is laid out as nodes, each after its arguments.
use Rattle.std.specs.Prelude.{◌≡◌, ◌≢◌, ℕ, ◌<◌, ◌≤◌, ◌+◌, List, [], ◌++◌, length, slice_get, slice_index_or, Some, None, All}
use Rattle.mars_rules.specs.PairedLists.{AllPaired}
use Rattle.mars_tree.specs.Graph.{Node, IsNode, label_of, kids_of, free_leaf}
use Rattle.mars_term.specs.declared.term.Term.{Term}
use Rattle.mars_term.specs.Parts.{number_of_var, number_of_kept, HasShortList}
use Rattle.mars_term.specs.declared.clause.Goal.{Goal}
use Rattle.mars_term.specs.Rows.{dots}
use Rattle.mars_rules.specs.declared.flat.FlatGoal.{FlatGoal}
use Rattle.mars_rules.specs.TermTrees.{label_of_term}
use Rattle.mars_rules.specs.FlatRules.{IsFlatTerm, IsOwnPlace, IsFlatGoal}

-- a part of a rule's term: a variable has a number below their count, a list can be counted, and there is no kept name
pub record IsRulePart (vars : ℕ) (part : Term) : Type 0 where
  pub known : All (λ number. number < vars) (number_of_var part)
  pub no_kept : number_of_kept part ≡ []
  pub short : HasShortList part

-- the first nodes are variables and the others labelled, and kids are at earlier places
pub record IsLayout (vars : ℕ) (nodes : List Node) : Type 0 where
  pub older : (place : ℕ) → IsNode place (slice_index_or nodes place free_leaf)
  pub first : (x : ℕ) → x < vars → label_of nodes x ≡ None
  pub labelled : (place : ℕ) → vars ≤ place → place < length nodes → label_of nodes place ≢ None
  pub size : vars ≤ length nodes

-- nodes were added, over variables and each other alone
pub record AddsNodes (vars : ℕ) (old new : List Node) : Type 0 where
  pub added : List Node
  pub new_is : new ≡ old ++ added
  pub layout : IsLayout vars new
  pub kids : (place k p : ℕ) → length old ≤ place → place < length new → slice_get (kids_of new place) k ≡ Some p → IsOwnPlace vars (length old) p

-- a term was laid out: where it has a label, its node is the last one
pub record IsLaidOut (vars : ℕ) (old new : List Node) (term : Term) (place : ℕ) : Type 0 where
  pub adds : AddsNodes vars old new
  pub flat : IsFlatTerm new place term
  pub own : IsOwnPlace vars (length old) place
  pub last : label_of_term term ≢ None → place + 1 ≡ length new

-- the first terms were laid out
pub record AreLaidTerms (vars : ℕ) (old new : List Node) (terms : List Term) (count : ℕ) (places : List ℕ) : Type 0 where
  pub adds : AddsNodes vars old new
  pub size : length places ≡ count
  pub flat : (k place : ℕ) (term : Term) → slice_get places k ≡ Some place → slice_get terms k ≡ Some term → IsFlatTerm new place term
  pub inside : All (λ place. place < length new) places
  pub own : All (IsOwnPlace vars (length old)) places

-- goals were laid out
pub record AreLaidGoals (vars : ℕ) (old new : List Node) (goals : List Goal) (flat : List FlatGoal) : Type 0 where
  pub adds : AddsNodes vars old new
  pub flat_goals : AllPaired (IsFlatGoal new vars (length old)) goals flat

-- a goal was laid out
pub record IsLaidGoal (vars : ℕ) (old new : List Node) (goal : Goal) (flat : FlatGoal) : Type 0 where
  pub adds : AddsNodes vars old new
  pub flat_goal : IsFlatGoal new vars (length old) goal flat

-- what is left of a row, and a term that ends it
pub record IsDotRow (vars : ℕ) (start now : List Node) (terms : List Term) (term : Term) (firsts : List ℕ) (last : ℕ) : Type 0 where
  pub rest : List Term
  pub whole : Term
  pub laid : AreLaidTerms vars start now rest (length rest) firsts
  pub ends : IsLaidOut vars start now whole last
  pub row : dots rest whole ≡ dots terms term

-- whatever terms are at the first places, and whatever term at the last: their row of dots is laid out
abbrev pub IsRowLaid : List Node → List Node → List ℕ → ℕ → ℕ → Type 0
IsRowLaid old new firsts last place =
    (vars : ℕ) (start : List Node) (terms : List Term) (term : Term) → AreLaidTerms vars start old terms (length terms) firsts → IsLaidOut vars start old term last
    → IsLaidOut vars start new (dots terms term) place
