-- Inside: the terms of an ask in a store, over nodes of its variables and of its kept names.
use Rattle.std.specs.Prelude.{◌≡◌, ℕ, ◌<◌, List, length, slice_get, All, option_and_then}
use Rattle.mars_store.specs.Valuation.{Valuation, value}
use Rattle.mars_store.specs.System.{System, IsSystem}
use Rattle.mars_store.specs.Solutions.{InSol}
use Rattle.mars_term.specs.declared.term.Term.{Term}
use Rattle.mars_term.specs.declared.clause.Goal.{Goal}
use Rattle.mars_term.specs.declared.clause.Goal.TheVariants as goal
use Rattle.mars_term.specs.Parts.{number_of_var, number_of_kept, HasShortList}
use Rattle.mars_term.specs.Rows.{dots}
use Rattle.mars_matching.specs.Trees.{Trees}
use Rattle.mars_rules.specs.PairedLists.{AllPaired}
use Rattle.mars_rules.specs.TermTrees.{tree_of_term}
use Rattle.mars_goals.specs.declared.cells.Pending.{Pending}
use Rattle.mars_goals.specs.declared.cells.Pending.TheVariants as pending
use Rattle.mars_goals.specs.GoalLists.{list_at}
use Rattle.mars_bridge.specs.Scoped.{GoesOn}

-- a part of an ask's term: its variables and kept names have numbers below their counts, and a list can be counted
pub record IsAskPart (vars kept : ℕ) (part : Term) : Type 0 where
  pub known : All (λ number. number < vars) (number_of_var part)
  pub known_kept : All (λ number. number < kept) (number_of_kept part)
  pub short : HasShortList part

-- there is a system, with nodes for variables and for kept names
pub record HasNames (s : System) (vars kept : List ℕ) : Type 0 where
  pub system : IsSystem s
  pub vars_in : All (λ n. n < length s.nodes) vars
  pub kept_in : All (λ n. n < length s.nodes) kept

-- the trees of nodes, by their places in a list
abbrev pub trees_among : Valuation → List ℕ → Trees
trees_among v nodes place path = option_and_then (λ n. value v n path) (slice_get nodes place)

-- in every solution a node has the tree of a term
pub record ShowsTerm (s : System) (vars kept : List ℕ) (term : Term) (n : ℕ) : Type 0 where
  pub inside : n < length s.nodes
  pub tree : (v : Valuation) → InSol s v → (path : List ℕ) → value v n path ≡ tree_of_term (trees_among v vars) (trees_among v kept) term path

-- nodes were added, and each solution of before goes on
pub record HasMoreNodes (old new : System) : Type 0 where
  pub goes : GoesOn old new
  pub system : IsSystem new

-- a term was written
pub record IsTermWritten (old new : System) (vars kept : List ℕ) (term : Term) (n : ℕ) : Type 0 where
  pub more : HasMoreNodes old new
  pub shows : ShowsTerm new vars kept term n

-- terms were written
pub record AreTermsWritten (old new : System) (vars kept : List ℕ) (terms : List Term) (nodes : List ℕ) : Type 0 where
  pub more : HasMoreNodes old new
  pub shows : AllPaired (ShowsTerm new vars kept) terms nodes

-- what is left of a row of dots, and a term that ends it
pub record IsRowLeft (s : System) (vars kept : List ℕ) (terms : List Term) (term : Term) (firsts : List ℕ) (last : ℕ) : Type 0 where
  pub rest : List Term
  pub whole : Term
  pub firsts_are : AllPaired (ShowsTerm s vars kept) rest firsts
  pub last_is : ShowsTerm s vars kept whole last
  pub row : dots rest whole ≡ dots terms term

-- a row of dots was written: whatever terms the first nodes have, and whatever the last one
pub record IsRowWritten (old new : System) (firsts : List ℕ) (last n : ℕ) : Type 0 where
  pub more : HasMoreNodes old new
  pub shows : (vars kept : List ℕ) (terms : List Term) (term : Term) → HasNames old vars kept → AllPaired (ShowsTerm old vars kept) terms firsts → ShowsTerm old vars kept term last
      → ShowsTerm new vars kept (dots terms term) n

-- a goal of the store has the tree of an ask's goal, or is a cut that keeps no choice point
abbrev pub IsGoalWritten : System → List ℕ → List ℕ → Goal → Pending → Type 0
IsGoalWritten s vars kept (goal.Call term) (pending.Call n) = ShowsTerm s vars kept term n
IsGoalWritten s vars kept goal.Cut (pending.Cut depth) = depth ≡ 0
IsGoalWritten s vars kept goal.Cut (pending.Call n) = ⊥
IsGoalWritten s vars kept (goal.Call term) (pending.Cut depth) = ⊥

-- a goal was written
pub record IsOneGoalWritten (old new : System) (vars kept : List ℕ) (goal : Goal) (pending : Pending) : Type 0 where
  pub more : HasMoreNodes old new
  pub shows : IsGoalWritten new vars kept goal pending

-- goals were written, as a list of an arena
pub record AreGoalsWritten (old new : System) (vars kept : List ℕ) (goals : List Goal) (lists : List (List Pending)) (list : ℕ) : Type 0 where
  pub more : HasMoreNodes old new
  pub inside : list < length lists
  pub shows : AllPaired (IsGoalWritten new vars kept) goals (list_at lists list)
